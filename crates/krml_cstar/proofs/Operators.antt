-- Operators on numbers and truth values: their operands from left to right, and what C computes of them.
use Rattle.std.proofs.Common.{◌≡◌, ℕ, ◌+◌, ◌<◌, ◌≤◌, ◌^◌, ◌==◌, nat_le, nat_lt, bit_xor, Bool, true, false, not, List, [], ◌∷◌, ◌++◌, Some, refl, sym, ap, ◌∙◌, subst, arith, append_assoc}
use Rattle.std.proofs.lemmas.Bool.{ltb-true}
use Rattle.krml_trace.specs.declared.width.Width.{Width}
use Rattle.krml_trace.specs.declared.width.Width.TheVariants.{W32}
use Rattle.krml_trace.specs.declared.outcome.Cause.TheVariants as cause
use Rattle.krml_trace.specs.declared.why.Why.TheVariants.{Stuck}
use Rattle.krml_trace.specs.Width.{bits}
use Rattle.krml_trace.specs.Run.{Goes, bind, check}
use Rattle.krml_trace.proofs.Simulates.{goes, sim_check, sim_so}
use Rattle.krml_syntax.specs.declared.tree.IntTy.{IntTy}
use Rattle.krml_syntax.specs.declared.tree.Ty.{Ty}
use Rattle.krml_syntax.specs.declared.tree.Ty.TheVariants as t
use Rattle.krml_syntax.specs.declared.tree.BinOp.{BinOp}
use Rattle.krml_syntax.specs.declared.tree.BinOp.TheVariants as op
use Rattle.krml_syntax.specs.declared.tree.CmpOp.{CmpOp}
use Rattle.krml_syntax.specs.declared.tree.Def.{Def}
use Rattle.krml_syntax.specs.Types.{int_ty, u32}
use Rattle.krml_ast.specs.Typing.{Vars}
use Rattle.krml_meaning.specs.declared.value.Value.{Value}
use Rattle.krml_meaning.specs.declared.value.Value.TheVariants as v
use Rattle.krml_meaning.specs.State.{SourceState, SourceRan, Env, Sem, as_number, as_truth}
use Rattle.krml_meaning.specs.Meaning as src
use Rattle.krml_meaning.specs.Shape.{number_ty, HasShape}
use Rattle.krml_meaning.proofs.Forms.{Sound, binary_sound, shift_sound, compare_sound, opposite_sound, cast_sound}
use Rattle.krml_ctree.specs.declared.value.CValue.TheVariants as cv
use Rattle.krml_ctree.specs.declared.tree.CVar.{CVar}
use Rattle.krml_ctree.specs.declared.tree.CBin.{CBin}
use Rattle.krml_ctree.specs.declared.tree.CBin.TheVariants as cop
use Rattle.krml_ctree.specs.declared.tree.CExpr.{CExpr}
use Rattle.krml_ctree.specs.declared.tree.CExpr.TheVariants as c
use Rattle.krml_ctree.specs.declared.tree.CStatement.{CStatement}
use Rattle.krml_ctree.specs.declared.tree.CStatement.TheVariants as st
use Rattle.krml_ctree.specs.declared.tree.CProgram.{CProgram}
use Rattle.krml_ctree.specs.Text.{width_type}
use Rattle.krml_ctree.specs.Parts.{Local, Locals}
use Rattle.krml_ctree.specs.Meaning as tgt
use Rattle.krml_ctree.specs.Meaning.{blank_local}
use Rattle.krml_ctree.proofs.Forms as forms
use Rattle.krml_cstar.specs.Built.{is_public}
use Rattle.krml_cstar.specs.Variables as variables
use Rattle.krml_cstar.specs.Translation as code
use Rattle.krml_cstar.specs.Types.{is_unit}
use Rattle.krml_cstar.specs.Variables.{KnownVars, plain}
use Rattle.krml_cstar.specs.Numbers.{widen, narrow, work, literal, truth}
use Rattle.krml_cstar.specs.Translation.{Out, Comp, gives}
use Rattle.krml_cstar.proofs.Images.{image_at, the_image, state_image, Sim}
use Rattle.krml_cstar.proofs.Part.{public_same}
use Rattle.krml_cstar.proofs.Typed.{has_number, image_bool, image_num}
use Rattle.krml_cstar.proofs.PartTypes.{bool_part, number_part, known_width}
use Rattle.krml_cstar.proofs.VariableNames.{number_of, number-plain}
use Rattle.krml_cstar.proofs.Values.{c_op, literal_value, truth_value, arithmetic_value, shifted_value, compared_value, opposite_value, converted_value, divided_is, divided_value, widen_value}
use Rattle.krml_cstar.proofs.Masks.{difference_value, eq_mask_value, gte_mask_value}
use Rattle.krml_cstar.proofs.LocalsInC.{Keeps, Below, below_more, keeps_all, keeps_less, keeps_then, keeps_new, keeps_value, new_named, only_value}
use Rattle.krml_cstar.proofs.Fits.{IsPart, Holds, In, Stands, Good, Fits}
use Rattle.krml_cstar.proofs.Forms.{holds_on, bool_value, number_value, sim_number, sim_truth, exec, made, decl_then, part_then, on_in, just_fits}

module _ (defs : List Def) (p : CProgram) (calls : tgt.Calls) where
  -- ---- two numbers

  -- What the code of an operator does with two numbers that expressions have.
  abbrev pub Computes : Width → Width → Ty → (CExpr → CExpr → KnownVars → ℕ → Out) → (ℕ → ℕ → SourceState → SourceRan Value) → Type 0
  Computes w w' r f next = (x y : ℕ) (a b : CExpr) (names : KnownVars) (n : ℕ) (now : Locals) (s : SourceState) → x < 2 ^ bits w → y < 2 ^ bits w' → Holds p n a now (cv.Num w x)
      → Holds p n b now (cv.Num w' y) → Below n now → (f a b names n).next ≤ 2 ^ 64
      → Sim defs (Good defs p calls n now (f a b names n).value (f a b names n).next r) (next x y s) (exec defs p calls (f a b names n).code now (state_image defs s))

  module _ (vars : Vars) (w w' : Width) (ev ev' : Sem) (co co' : Comp) (h : Fits defs p calls vars (number_ty w) ev co) (h' : Fits defs p calls vars (number_ty w') ev' co') where
    -- Two numbers that were computed, and the expressions that have them.
    pub record Computed (names : KnownVars) (n : ℕ) (now : Locals) (env : Env) (x y : ℕ) (late : Locals) (s : SourceState) : Type 0 where
      pub left_fits : x < 2 ^ bits w
      pub right_fits : y < 2 ^ bits w'
      pub keeps : Keeps n now late
      pub left : Holds p (co'.run names (co.run names n).next).next (co.run names n).value late (cv.Num w x)
      pub right : Holds p (co'.run names (co.run names n).next).next (co'.run names (co.run names n).next).value late (cv.Num w' y)
      pub stands : Stands defs vars names (co'.run names (co.run names n).next).next late env s

    -- the operands, and then what follows
    pub operands_then : {A : Type 0} (Q : A → Locals → Type 0) (rest : List CStatement) (env : Env) (names : KnownVars) (n : ℕ) (now : Locals) (s : SourceState)
        (next : ℕ → ℕ → SourceState → SourceRan A) → (co'.run names (co.run names n).next).next ≤ 2 ^ 64 → Stands defs vars names n now env s
        → ((x y : ℕ) (late : Locals) (s2 : SourceState) → Computed names n now env x y late s2 → Sim defs Q (next x y s2) (exec defs p calls rest late (state_image defs s2)))
        → Sim defs Q (src.operands w w' ev ev' env s next)
        (exec defs p calls ((co.run names n).code ++ ((co'.run names (co.run names n).next).code ++ rest)) now (state_image defs s))
    operands_then Q rest env names n now s next small here k =
        let o = co.run names n in
        let o' = co'.run names o.next in
        let g = h.grows names n in
        let g' = h'.grows names o.next in
        part_then defs p calls vars (number_ty w) ev co h env names n now s (omega (arith, g', small)) here Q (o'.code ++ rest)
        (λ x s1. bind (ev' env s1) (λ y s2. as_number w x s2 (λ m. as_number w' y s2 (λ j. next m j s2)))) (λ x now1 s1 k1.
        part_then defs p calls vars (number_ty w') ev' co' h' env names o.next now1 s1 small k1.stands Q rest
        (λ y s2. as_number w x s2 (λ m. as_number w' y s2 (λ j. next m j s2))) (λ y now2 s2 k2.
        sim_number defs Q s1.memory s2 (exec defs p calls rest now2 (state_image defs s2)) w x _ k1.fine.shape (λ m lm em.
        sim_number defs Q s2.memory s2 (exec defs p calls rest now2 (state_image defs s2)) w' y _ k2.fine.shape (λ j lj ej.
        k m j now2 s2 (record {
          left_fits = lm;
          right_fits = lj;
          keeps = keeps_then n o.next now now1 now2 g k1.good.keeps k2.good.keeps;
          left = holds_on p o.next o'.next o.value now1 now2 (cv.Num w m) g' k2.good.keeps (subst (Holds p o.next o.value now1) em (k1.good.holds (number_value w)));
          right = subst (Holds p o'.next o'.value now2) ej (k2.good.holds (number_value w'));
          stands = k2.stands;
        })))))

    -- an operator on two numbers
    pub operands_fit : (r : Ty) (f : CExpr → CExpr → KnownVars → ℕ → Out) (next : ℕ → ℕ → SourceState → SourceRan Value) → IsPart p r → is_unit r ≡ false
        → ((a b : CExpr) (names : KnownVars) (n : ℕ) → n ≤ (f a b names n).next) → ((a b : CExpr) (names : KnownVars) (n : ℕ) → (f a b names n).ty ≡ r) → Computes w w' r f next
        → Sound defs (In defs vars) r (λ env s. src.operands w w' ev ev' env s next)
        → Fits defs p calls vars r (λ env s. src.operands w w' ev ev' env s next) (gives (code.operands co co' f))
    operands_fit r f next part nu grows typed computes sound = record {
      sound = sound;
      part = part;
      unit = sym nu;
      grows = λ names n.
          let o = co.run names n in
          let o' = co'.run names o.next in
          let g = h.grows names n in
          let g' = h'.grows names o.next in
          let gf = grows o.value o'.value names o'.next in omega (arith, g, g', gf);
      typed = λ names n nm. let o = co.run names n in let o' = co'.run names o.next in typed o.value o'.value names o'.next;
      sim = λ env names n now s small here.
          let o = co.run names n in
          let o' = co'.run names o.next in
          let of = f o.value o'.value names o'.next in
          let g = h.grows names n in
          let g' = h'.grows names o.next in
          let gf = grows o.value o'.value names o'.next in
          let Q = Good defs p calls n now of.value of.next r in
          rw (append_assoc o.code o'.code of.code) (operands_then Q of.code env names n now s next (omega (arith, gf, small)) here (λ x y late s2 k.
          sim_so (the_image defs) (Good defs p calls o'.next late of.value of.next r) Q (next x y s2) (exec defs p calls of.code late (state_image defs s2))
          (computes x y o.value o'.value names o'.next late s2 k.left_fits k.right_fits k.left k.right k.stands.below small)
          (λ z now2 h2. record { keeps = keeps_then n o'.next now late now2 (omega (arith, g, g')) k.keeps h2.keeps; below = h2.below; holds = h2.holds })));
    }

  -- ---- operators of C

  -- an operator whose code is an expression
  value_computes : (n : ℕ) (now : Locals) (s : SourceState) (x : Value) (r : Ty) (e : CExpr) → Below n now
      → ((late : Locals) → Keeps n now late → tgt.value_of p e [] late ≡ Some (image_at defs x r)) → Sim defs (Good defs p calls n now e n r) (Goes x s) (Goes now (state_image defs s))
  value_computes n now s x r e be is = goes (the_image defs) (Good defs p calls n now e n r) x now s (record { keeps = keeps_all n now; below = be; holds = λ q. record { later = is } })

  -- a new variable, and an expression of it
  module _ (n : ℕ) (small : n < 2 ^ 64) (now : Locals) (be : Below n now) (w : Width) (x : ℕ) where
    abbrev new_var : CVar
    new_var = variables.var n (width_type w)

    abbrev new_local : Local
    new_local = made defs p calls new_var (cv.Num w x)

    nr : number_of (plain n) ≡ n
    nr = number-plain n small

    new_keeps : (l : Local) → l.name ≡ plain n → Keeps n now (l ∷ now)
    new_keeps l e = keeps_new n l now (let q : number_of l.name ≡ n = ap number_of e ∙ nr in omega (arith, q))

    new_below : Below (n + 1) (new_local ∷ now)
    new_below = let q = nr in (omega (arith, q), below_more n (n + 1) now (omega arith) be)

    new_value : (late : Locals) → Keeps (n + 1) (new_local ∷ now) late → tgt.var (plain n) [] late ≡ Some (cv.Num w x)
    new_value late k = let q = nr in keeps_value (n + 1) (new_local ∷ now) late (plain n) (cv.Num w x) k (omega (arith, q))
        (only_value (plain n) (new_local ∷ now) new_local (cv.Num w x) (new_named n new_local now be (omega (arith, q))) refl)

    new_holds : (late : Locals) → Keeps (n + 1) (new_local ∷ now) late → tgt.value_of p (c.Var (plain n)) [] late ≡ Some (cv.Num w x)
    new_holds late k = forms.var_is p (plain n) [] late ∙ new_value late k

  -- ---- two operands: what C computes is what the source does

  arithmetic_computes : (o : BinOp) (co : CBin) (i : IntTy) → c_op o ≡ Some co → ((y : ℕ) → src.has_result o y ≡ true)
      → Computes i.width i.width (int_ty i) (code.arithmetic co i) (λ x y s. check (Stuck cause.Divisor) (src.has_result o y) s (Goes (v.Num i.width (src.result_of o i.width x y)) s))
  arithmetic_computes o co i is has x y a b names n now s lx ly ha hb be small =
      rw (has y) (value_computes n now s (v.Num i.width (src.result_of o i.width x y)) (int_ty i) (narrow i.width (c.Bin co (widen i.width a) (widen i.width b))) be (λ late k.
      arithmetic_value p [] late o co i.width a b x y is lx ly (ha.later late k) (hb.later late k) ∙ ap (λ z. Some z) (sym (image_num defs i.width (src.result_of o i.width x y) (int_ty i)))))

  divided_computes : (quotient : Bool) (o : BinOp) (i : IntTy) → ((y : ℕ) → src.has_result o y ≡ nat_lt 0 y) → ((x y : ℕ) → src.result_of o i.width x y ≡ tgt.divided quotient x y)
      → Computes i.width i.width (int_ty i) (code.divided quotient i) (λ x y s. check (Stuck cause.Divisor) (src.has_result o y) s (Goes (v.Num i.width (src.result_of o i.width x y)) s))
  divided_computes quotient o i has is x y a b names n now s lx ly ha hb be small =
      let w = i.width in
      let small_n : n < 2 ^ 64 = omega (arith, small) in
      let d = new_var n small_n now be (work w) (tgt.divided quotient x y) in
      let l = new_local n small_n now be (work w) (tgt.divided quotient x y) in
      let z : Value = v.Num w (src.result_of o w x y) in
      let Q = Good defs p calls n now (narrow w (c.Var (plain n))) (n + 1) (int_ty i) in
      let blank = blank_local d ∷ now in
      let kept : Keeps n now blank = new_keeps n small_n now be (work w) (tgt.divided quotient x y) (blank_local d) refl in
      sim_check (the_image defs) Q cause.Divisor (src.has_result o y) s (Goes z s) _ (λ some.
      let positive : 0 < y = ltb-true 0 y (sym (has y) ∙ some) in
      rw (
        forms.div_is p calls d quotient (widen w a) (widen w b),
        known_width p (work w),
        divided_is p [] blank quotient w a b x y lx ly positive (ha.later blank kept) (hb.later blank kept),
        has_number [] (work w) (tgt.divided quotient x y),
      ) (goes (the_image defs) Q z (l ∷ now) s (record {
        keeps = new_keeps n small_n now be (work w) (tgt.divided quotient x y) l refl;
        below = new_below n small_n now be (work w) (tgt.divided quotient x y);
        holds = λ q. record {
          later = λ late k. divided_value p [] late quotient w (plain n) x y lx (new_holds n small_n now be (work w) (tgt.divided quotient x y) late k)
              ∙ ap (λ j. Some (cv.Num w j)) (sym (is x y)) ∙ ap (λ u. Some u) (sym (image_num defs w (src.result_of o w x y) (int_ty i)));
        };
      })))

  eq_mask_computes : (i : IntTy) → Computes i.width i.width (int_ty i) (code.eq_mask i) (λ x y s. Goes (v.Num i.width (src.mask (x == y) i.width)) s)
  eq_mask_computes i x y a b names n now s lx ly ha hb be small =
      let w = i.width in
      let small_n : n < 2 ^ 64 = omega (arith, small) in
      let d = new_var n small_n now be (work w) (bit_xor x y) in
      let l = new_local n small_n now be (work w) (bit_xor x y) in
      let o = code.eq_mask i a b names n in
      let blank = blank_local d ∷ now in
      let kept : Keeps n now blank = new_keeps n small_n now be (work w) (bit_xor x y) (blank_local d) refl in
      rw (decl_then defs p calls d (c.Bin cop.Xor (widen w a) (widen w b)) (cv.Num (work w) (bit_xor x y)) [] now s (known_width p (work w))
      (difference_value p [] blank w a b x y lx ly (ha.later blank kept) (hb.later blank kept)) (has_number [] (work w) (bit_xor x y)))
      (goes (the_image defs) (Good defs p calls n now o.value o.next (int_ty i)) (v.Num w (src.mask (x == y) w)) (l ∷ now) s (record {
        keeps = new_keeps n small_n now be (work w) (bit_xor x y) l refl;
        below = new_below n small_n now be (work w) (bit_xor x y);
        holds = λ q. record {
          later = λ late k. eq_mask_value p [] late i (plain n) x y lx ly (new_holds n small_n now be (work w) (bit_xor x y) late k)
              ∙ ap (λ u. Some u) (sym (image_num defs w (src.mask (x == y) w) (int_ty i)));
        };
      }))

  gte_mask_computes : (i : IntTy) → Computes i.width i.width (int_ty i) (code.gte_mask i) (λ x y s. Goes (v.Num i.width (src.mask (nat_le y x) i.width)) s)
  gte_mask_computes i x y a b names n now s lx ly ha hb be small =
      let w = i.width in
      let small_n : n < 2 ^ 64 = omega (arith, small) in
      let small_m : n + 1 < 2 ^ 64 = omega (arith, small) in
      let d = new_var n small_n now be (work w) x in
      let l = new_local n small_n now be (work w) x in
      let now1 : Locals = l ∷ now in
      let be1 : Below (n + 1) now1 = new_below n small_n now be (work w) x in
      let kept1 : Keeps n now now1 = new_keeps n small_n now be (work w) x l refl in
      let d' = new_var (n + 1) small_m now1 be1 (work w) y in
      let l' = new_local (n + 1) small_m now1 be1 (work w) y in
      let blank = blank_local d ∷ now in
      let blank' = blank_local d' ∷ now1 in
      let kept : Keeps n now blank = new_keeps n small_n now be (work w) x (blank_local d) refl in
      let kept' : Keeps (n + 1) now1 blank' = new_keeps (n + 1) small_m now1 be1 (work w) y (blank_local d') refl in
      let kept2 : Keeps (n + 1) now1 (l' ∷ now1) = new_keeps (n + 1) small_m now1 be1 (work w) y l' refl in
      let o = code.gte_mask i a b names n in
      let le : n ≤ n + 1 = omega arith in
      let lt : n + 1 ≤ n + 2 = omega arith in
      rw (
        decl_then defs p calls d (widen w a) (cv.Num (work w) x) (st.Decl d' (widen w b) ∷ []) now s (known_width p (work w))
            (widen_value p [] blank w a x lx (ha.later blank kept)) (has_number [] (work w) x),
        decl_then defs p calls d' (widen w b) (cv.Num (work w) y) [] now1 s (known_width p (work w))
            (widen_value p [] blank' w b y ly (hb.later blank' (keeps_then n (n + 1) now now1 blank' le kept1 kept'))) (has_number [] (work w) y),
      ) (goes (the_image defs) (Good defs p calls n now o.value o.next (int_ty i)) (v.Num w (src.mask (nat_le y x) w)) (l' ∷ now1) s (record {
        keeps = keeps_then n (n + 1) now now1 (l' ∷ now1) le kept1 kept2;
        below = below_more (n + 1 + 1) (n + 2) (l' ∷ now1) (omega arith) (new_below (n + 1) small_m now1 be1 (work w) y);
        holds = λ q. record {
          later = λ late k.
              let k' : Keeps (n + 1 + 1) (l' ∷ now1) late = keeps_less (n + 1 + 1) (n + 2) (l' ∷ now1) late (omega arith) k in
              gte_mask_value p [] late i (plain n) (plain (n + 1)) x y lx ly
              (new_holds n small_n now be (work w) x late (keeps_then (n + 1) (n + 1 + 1) now1 (l' ∷ now1) late (omega arith) kept2 k'))
              (new_holds (n + 1) small_m now1 be1 (work w) y late k')
              ∙ ap (λ u. Some u) (sym (image_num defs w (src.mask (nat_le y x) w) (int_ty i)));
        };
      }))

  binary_computes : (o : BinOp) (i : IntTy)
      → Computes i.width i.width (int_ty i) (code.binary o i) (λ x y s. check (Stuck cause.Divisor) (src.has_result o y) s (Goes (v.Num i.width (src.result_of o i.width x y)) s))
  binary_computes op.Add i = arithmetic_computes op.Add cop.Add i refl (λ y. refl)
  binary_computes op.Sub i = arithmetic_computes op.Sub cop.Sub i refl (λ y. refl)
  binary_computes op.Mul i = arithmetic_computes op.Mul cop.Mul i refl (λ y. refl)
  binary_computes op.And i = arithmetic_computes op.And cop.And i refl (λ y. refl)
  binary_computes op.Or i = arithmetic_computes op.Or cop.Or i refl (λ y. refl)
  binary_computes op.Xor i = arithmetic_computes op.Xor cop.Xor i refl (λ y. refl)
  binary_computes op.Div i = divided_computes true op.Div i (λ y. refl) (λ x y. refl)
  binary_computes op.Rem i = divided_computes false op.Rem i (λ y. refl) (λ x y. refl)
  binary_computes op.EqMask i = eq_mask_computes i
  binary_computes op.GteMask i = gte_mask_computes i

  binary_grows : (o : BinOp) (i : IntTy) (a b : CExpr) (names : KnownVars) (n : ℕ) → n ≤ (code.binary o i a b names n).next
  binary_grows op.Add i a b names n = omega arith
  binary_grows op.Sub i a b names n = omega arith
  binary_grows op.Mul i a b names n = omega arith
  binary_grows op.And i a b names n = omega arith
  binary_grows op.Or i a b names n = omega arith
  binary_grows op.Xor i a b names n = omega arith
  binary_grows op.Div i a b names n = omega arith
  binary_grows op.Rem i a b names n = omega arith
  binary_grows op.EqMask i a b names n = omega arith
  binary_grows op.GteMask i a b names n = omega arith

  binary_ty : (o : BinOp) (i : IntTy) (a b : CExpr) (names : KnownVars) (n : ℕ) → (code.binary o i a b names n).ty ≡ t.Int i
  binary_ty op.Add i a b names n = refl
  binary_ty op.Sub i a b names n = refl
  binary_ty op.Mul i a b names n = refl
  binary_ty op.And i a b names n = refl
  binary_ty op.Or i a b names n = refl
  binary_ty op.Xor i a b names n = refl
  binary_ty op.Div i a b names n = refl
  binary_ty op.Rem i a b names n = refl
  binary_ty op.EqMask i a b names n = refl
  binary_ty op.GteMask i a b names n = refl

  public_ty : (i : IntTy) → is_public i ≡ true → t.Int i ≡ int_ty i
  public_ty i e = ap (λ z. t.Int z) (sym (public_same i e))

  -- (OP I a b)
  pub binary_fits : (vars : Vars) (o : BinOp) (i : IntTy) (ev ev' : Sem) (co co' : Comp) → is_public i ≡ true → Fits defs p calls vars (int_ty i) ev co
      → Fits defs p calls vars (int_ty i) ev' co' → Fits defs p calls vars (int_ty i) (src.binary o i ev ev') (gives (code.operands co co' (code.binary o i)))
  binary_fits vars o i ev ev' co co' e h h' = operands_fit vars i.width i.width ev ev' co co' h h' (int_ty i) (code.binary o i) _ (number_part p i.width) (number_value i.width)
      (binary_grows o i) (λ a b names n. binary_ty o i a b names n ∙ public_ty i e) (binary_computes o i)
      (binary_sound defs (In defs vars) (on_in defs p calls vars) o i ev ev' h.sound h'.sound)

  -- (shl I a n), (shr I a n)
  pub shift_fits : (vars : Vars) (left : Bool) (i : IntTy) (ev ev' : Sem) (co co' : Comp) → is_public i ≡ true → Fits defs p calls vars (int_ty i) ev co
      → Fits defs p calls vars u32 ev' co' → Fits defs p calls vars (int_ty i) (src.shift left i ev ev') (gives (code.operands co co' (code.shifted left i)))
  shift_fits vars left i ev ev' co co' e h h' = operands_fit vars i.width W32 ev ev' co co' h h' (int_ty i) (code.shifted left i) _ (number_part p i.width) (number_value i.width)
      (λ a b names n. omega arith) (λ a b names n. public_ty i e) (λ x y a b names n now s lx ly ha hb be small.
      let w = i.width in
      sim_check (the_image defs) (Good defs p calls n now (code.shifted left i a b names n).value n (int_ty i)) cause.Shift (nat_lt y (bits w)) s (Goes (v.Num w (src.shifted left w x y)) s) _ (λ few.
      value_computes n now s (v.Num w (src.shifted left w x y)) (int_ty i) (code.shifted left i a b names n).value be (λ late k.
      shifted_value p [] late left w a b x y lx (ltb-true y (bits w) few) (ha.later late k) (hb.later late k) ∙ ap (λ z. Some z) (sym (image_num defs w (src.shifted left w x y) (int_ty i))))))
      (shift_sound defs (In defs vars) (on_in defs p calls vars) left i ev ev' h.sound h'.sound)

  -- (OP I a b), a comparison
  pub compare_fits : (vars : Vars) (o : CmpOp) (i : IntTy) (ev ev' : Sem) (co co' : Comp) → Fits defs p calls vars (int_ty i) ev co → Fits defs p calls vars (int_ty i) ev' co'
      → Fits defs p calls vars t.Bool (src.compare o i ev ev') (gives (code.operands co co' (code.compared o i)))
  compare_fits vars o i ev ev' co co' h h' = operands_fit vars i.width i.width ev ev' co co' h h' t.Bool (code.compared o i) _ (bool_part p) bool_value
      (λ a b names n. omega arith) (λ a b names n. refl) (λ x y a b names n now s lx ly ha hb be small.
      value_computes n now s (v.Bool (src.compared o x y)) t.Bool (code.compared o i a b names n).value be (λ late k.
      compared_value p [] late o i.width a b x y lx ly (ha.later late k) (hb.later late k) ∙ ap (λ z. Some z) (sym (image_bool defs (src.compared o x y) t.Bool))))
      (compare_sound defs (In defs vars) (on_in defs p calls vars) o i ev ev' h.sound h'.sound)

  -- ---- one operand

  -- (not a)
  pub opposite_fits : (vars : Vars) (ev : Sem) (co : Comp) → Fits defs p calls vars t.Bool ev co → Fits defs p calls vars t.Bool (src.opposite ev) (gives (code.operand co code.opposite))
  opposite_fits vars ev co h = record {
    sound = opposite_sound defs (In defs vars) (on_in defs p calls vars) ev h.sound;
    part = bool_part p;
    unit = sym bool_value;
    grows = λ names n. h.grows names n;
    typed = λ names n nm. refl;
    sim = λ env names n now s small here.
        let o = co.run names n in
        let whole = (code.opposite o names o.next).value in
        let Q = Good defs p calls n now whole o.next t.Bool in
        part_then defs p calls vars t.Bool ev co h env names n now s small here Q [] (λ x s1. as_truth x s1 (λ b. Goes (v.Bool (not b)) s1)) (λ x late s1 k.
        sim_truth defs Q s1.memory s1 (exec defs p calls [] late (state_image defs s1)) x _ k.fine.shape (λ b is.
        goes (the_image defs) Q (v.Bool (not b)) late s1 (record {
          keeps = k.good.keeps;
          below = k.good.below;
          holds = λ q. record {
            later = λ later k1. opposite_value p [] later o.value b ((k.good.holds bool_value).later later k1 ∙ ap (λ u. Some u) is) ∙ ap (λ u. Some u) (sym (image_bool defs (not b) t.Bool));
          };
        })));
  }

  -- (cast I J a)
  pub cast_fits : (vars : Vars) (i j : IntTy) (ev : Sem) (co : Comp) → is_public j ≡ true → Fits defs p calls vars (int_ty i) ev co
      → Fits defs p calls vars (int_ty j) (src.cast i j ev) (gives (code.operand co (code.converted i j)))
  cast_fits vars i j ev co e h = record {
    sound = cast_sound defs (In defs vars) (on_in defs p calls vars) i j ev h.sound;
    part = number_part p j.width;
    unit = sym (number_value j.width);
    grows = λ names n. h.grows names n;
    typed = λ names n nm. public_ty j e;
    sim = λ env names n now s small here.
        let o = co.run names n in
        let whole = (code.converted i j o names o.next).value in
        let Q = Good defs p calls n now whole o.next (int_ty j) in
        part_then defs p calls vars (int_ty i) ev co h env names n now s small here Q [] (λ x s1. as_number i.width x s1 (λ m. Goes (v.Num j.width (src.wrap j.width m)) s1)) (λ x late s1 k.
        sim_number defs Q s1.memory s1 (exec defs p calls [] late (state_image defs s1)) i.width x _ k.fine.shape (λ m lm is.
        goes (the_image defs) Q (v.Num j.width (src.wrap j.width m)) late s1 (record {
          keeps = k.good.keeps;
          below = k.good.below;
          holds = λ q. record {
            later = λ later k1. converted_value p [] later i.width j.width o.value m lm ((k.good.holds (number_value i.width)).later later k1 ∙ ap (λ u. Some u) is)
                ∙ ap (λ u. Some u) (sym (image_num defs j.width (src.wrap j.width m) (int_ty j)));
          };
        })));
  }

  -- ---- literals

  pub num_fits : (vars : Vars) (i : IntTy) (n : ℕ) → is_public i ≡ true → n < 2 ^ bits i.width
      → Fits defs p calls vars (int_ty i) (src.just (v.Num i.width n)) (gives (code.value (t.Int i) (literal i.width n)))
  num_fits vars i n e lt = just_fits defs p calls vars (v.Num i.width n) (int_ty i) (t.Int i) (literal i.width n) (λ m. HasShape.num lt) (number_part p i.width) (number_value i.width)
      (public_ty i e) (λ now. literal_value p [] now i.width n lt ∙ ap (λ u. Some u) (sym (image_num defs i.width n (int_ty i))))

  pub truth_fits : (vars : Vars) (b : Bool) → Fits defs p calls vars t.Bool (src.just (v.Bool b)) (gives (code.value t.Bool (truth b)))
  truth_fits vars b = just_fits defs p calls vars (v.Bool b) t.Bool t.Bool (truth b) (λ m. HasShape.bool) (bool_part p) bool_value refl
      (λ now. truth_value p [] now b ∙ ap (λ u. Some u) (sym (image_bool defs b t.Bool)))
