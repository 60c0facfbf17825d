-- The code of each form of the language is well formed, where that of its parts is.
use Rattle.std.proofs.Common.{◌≡◌, ℕ, ◌+◌, ◌<◌, ◌≤◌, ◌^◌, Bool, true, false, if◌then◌else◌, List, [], ◌∷◌, ◌++◌, Contains, Option, Some, None, refl, sym, subst, arith}
use Rattle.krml_trace.specs.declared.width.Width.{Width}
use Rattle.krml_trace.specs.declared.width.Width.TheVariants.{W8, W32, W64}
use Rattle.krml_trace.specs.Width.{bits, same_width}
use Rattle.krml_syntax.specs.declared.tree.IntTy.{IntTy}
use Rattle.krml_syntax.specs.declared.tree.Ty.{Ty}
use Rattle.krml_syntax.specs.declared.tree.Ty.TheVariants as t
use Rattle.krml_syntax.specs.declared.tree.BinOp.{BinOp}
use Rattle.krml_syntax.specs.declared.tree.BinOp.TheVariants as op
use Rattle.krml_syntax.specs.declared.tree.CmpOp.{CmpOp}
use Rattle.krml_syntax.specs.Types.{public, erased, int_ty, u32}
use Rattle.krml_ast.specs.Typing.{Vars}
use Rattle.krml_ast.specs.Typing as typing
use Rattle.krml_ctree.specs.declared.tree.CType.TheVariants as ct
use Rattle.krml_ctree.specs.declared.tree.CVar.{CVar}
use Rattle.krml_ctree.specs.declared.tree.CBin.{CBin}
use Rattle.krml_ctree.specs.declared.tree.CBin.TheVariants as cop
use Rattle.krml_ctree.specs.declared.tree.CExpr.{CExpr}
use Rattle.krml_ctree.specs.declared.tree.CExpr.TheVariants as c
use Rattle.krml_ctree.specs.declared.tree.CStatement.{CStatement}
use Rattle.krml_ctree.specs.declared.tree.CStatement.TheVariants as st
use Rattle.krml_ctree.specs.declared.tree.CProgram.{CProgram}
use Rattle.krml_ctree.specs.Text.{width_type}
use Rattle.krml_ctree.specs.Shape.{ExprKeeps}
use Rattle.krml_ctree.specs.WellFormed.{Scope, of_var, IsPlainOperator, HasType}
use Rattle.krml_syntax.proofs.Types.{erased_bool, erased_unit, erased_int}
use Rattle.krml_cstar.specs.Types.{ctype, is_unit}
use Rattle.krml_cstar.specs.Variables.{plain, var, Known, KnownVars, look}
use Rattle.krml_cstar.specs.Numbers.{widen, narrow, work, literal, truth, shift_op, kind}
use Rattle.krml_cstar.specs.Translation.{Out, Comp, nothing, gives, does, value, operands, operand, arithmetic, divided, eq_mask, gte_mask, binary, shifted, compared, opposite, converted, variable}
use Rattle.krml_cstar.proofs.VariableNames.{number-plain}
use Rattle.krml_cstar.proofs.WellFormedNames.{plain_is}
use Rattle.krml_cstar.proofs.WellFormedCode.{newest, before, typed_on, TypeFits, Laid, laid_then, laid_decl, laid_div}
use Rattle.krml_cstar.proofs.WellFormedNumbers.{literal_keeps, truth_keeps, nothing_keeps, widen_keeps, narrow_keeps, spread_keeps, zero_keeps, work_arithmetic, shift_is, width_fits, literal_typed, widen_typed, narrow_typed, spread_typed}
use Rattle.krml_cstar.proofs.WellFormedPlaces.{scoped_on, value_found, found, Placed, Places, value_placed, behind}
use Rattle.krml_cstar.proofs.TypesInC.{ctype_bool, ctype_unit, ctype_int, unit_is_unit, bool_is_value, int_is_value}

module _ (p : CProgram) where
  -- ---- types

  pub int_fits : (i : IntTy) → TypeFits p (ctype (int_ty i))
  int_fits i = subst (TypeFits p) (sym (ctype_int (public i))) (width_fits p i.width)

  pub bool_fits : TypeFits p (ctype t.Bool)
  bool_fits = subst (TypeFits p) (sym ctype_bool) (width_fits p W8)

  pub unit_fits : TypeFits p (ctype t.Unit)
  unit_fits = subst (TypeFits p) (sym ctype_unit) (width_fits p W8)

  pub no_value : {A : Type 0} → is_unit t.Unit ≡ false → A
  no_value e = let u = unit_is_unit in absurd (cc)

  -- a number, as the rules of C ask for it
  pub as_int : (g : Scope) (i : IntTy) (x : CExpr) → HasType p g x (ctype (int_ty i)) → HasType p g x (width_type i.width)
  as_int g i x h = subst (HasType p g x) (ctype_int (public i)) h

  of_int : (g : Scope) (i : IntTy) (x : CExpr) → HasType p g x (width_type i.width) → HasType p g x (ctype (int_ty i))
  of_int g i x h = subst (HasType p g x) (sym (ctype_int (public i))) h

  pub as_u32 : (g : Scope) (x : CExpr) → HasType p g x (ctype u32) → HasType p g x ct.U32
  as_u32 g x h = subst (HasType p g x) (ctype_int u32_ty) h
    where
      u32_ty : IntTy
      u32_ty = record { width = W32; secret = false }

  pub as_bool : (g : Scope) (x : CExpr) → HasType p g x (ctype t.Bool) → HasType p g x ct.U8
  as_bool g x h = subst (HasType p g x) ctype_bool h

  of_bool : (g : Scope) (x : CExpr) → HasType p g x ct.U8 → HasType p g x (ctype t.Bool)
  of_bool g x h = subst (HasType p g x) (sym ctype_bool) h

  -- ---- values without statements

  pub just_placed : (vars : Vars) (a b : Ty) (x : CExpr) → is_unit a ≡ false → erased b ≡ a → TypeFits p (ctype a) → ExprKeeps x → ((g : Scope) → HasType p g x (ctype a))
      → Places p vars a (gives (value b x))
  just_placed vars a b x is ty fits keeps typed = record {
    unit = λ vs. sym is;
    grows = λ names n. omega arith;
    placed = λ names n g small s. value_placed p a b x names n g ty fits keeps (λ nu. typed g);
  }

  pub unit_placed : (vars : Vars) → Places p vars t.Unit (does (value t.Unit nothing))
  unit_placed vars = record {
    unit = λ vs. sym unit_is_unit;
    grows = λ names n. omega arith;
    placed = λ names n g small s. value_placed p t.Unit t.Unit nothing names n g erased_unit unit_fits nothing_keeps (λ nu. no_value nu);
  }

  pub bool_placed : (vars : Vars) (b : Bool) → Places p vars t.Bool (gives (value t.Bool (truth b)))
  bool_placed vars b = just_placed vars t.Bool t.Bool (truth b) bool_is_value erased_bool bool_fits (truth_keeps b) (λ g. of_bool g (truth b) (literal_typed p g W8 _))

  pub num_placed : (vars : Vars) (i : IntTy) (n : ℕ) → n < 2 ^ bits i.width → Places p vars (int_ty i) (gives (value (t.Int i) (literal i.width n)))
  num_placed vars i n small =
      just_placed vars (int_ty i) (t.Int i) (literal i.width n) (int_is_value (public i)) (erased_int i) (int_fits i) (literal_keeps i.width n small)
      (λ g. of_int g i (literal i.width n) (literal_typed p g i.width n))

  pub var_placed : (vars : Vars) (x : List ℕ) (a : Ty) → typing.look vars x ≡ Some a → Places p vars a (gives (λ names n. variable (look names x) names n))
  var_placed vars x a is = record {
    unit = λ vs. sym (value_found p vars x a vs is);
    grows = λ names n. at names n (look names x);
    placed = λ names n g small s.
        let f = found p g names vars x a s is in
        rw f.is (value_placed p a f.k.ty (c.Var f.k.emitted) names n g f.entry.ty f.entry.fits (ExprKeeps.var f.entry.shape) (λ nu. HasType.var _ f.entry.there));
  }
    where
      at : (names : KnownVars) (n : ℕ) (o : Option Known) → n ≤ (variable o names n).next
      at names n (Some k) = omega arith
      at names n None = omega arith

  -- ---- operands

  -- what is made of a value
  pub record Unary (a r : Ty) (f : Out → KnownVars → ℕ → Out) : Type 0 where
    pub grows : (o : Out) (names : KnownVars) (n : ℕ) → n ≤ (f o names n).next
    pub placed : (o : Out) (names : KnownVars) (n : ℕ) (g : Scope) → (f o names n).next ≤ 2 ^ 64 → erased o.ty ≡ a → ExprKeeps o.value → HasType p g o.value (ctype a) → Placed p r n g (f o names n)

  -- and of two
  pub record Binary (a b r : Ty) (f : CExpr → CExpr → KnownVars → ℕ → Out) : Type 0 where
    pub grows : (x y : CExpr) (names : KnownVars) (n : ℕ) → n ≤ (f x y names n).next
    pub placed : (x y : CExpr) (names : KnownVars) (n : ℕ) (g : Scope) → (f x y names n).next ≤ 2 ^ 64 → ExprKeeps x → ExprKeeps y → HasType p g x (ctype a) → HasType p g y (ctype b)
        → Placed p r n g (f x y names n)

  pub operand_placed : (vars : Vars) (a r : Ty) (ca : Comp) (f : Out → KnownVars → ℕ → Out) → is_unit a ≡ false → is_unit r ≡ false → Places p vars a ca → Unary a r f
      → Places p vars r (gives (operand ca f))
  operand_placed vars a r ca f va vr ha hf = record {
    unit = λ vs. sym vr;
    grows = λ names n.
        let oa = ca.run names n in
        let ga = ha.grows names n in
        let gf = hf.grows oa names oa.next in omega (arith, ga, gf);
    placed = λ names n g small s.
        let oa = ca.run names n in
        let gf = hf.grows oa names oa.next in
        let pa = ha.placed names n g (omega (arith, gf, small)) s in
        behind p r n oa.next g pa.after oa.code (f oa names oa.next) pa.laid (hf.placed oa names oa.next pa.after small pa.ty pa.keeps (pa.typed va));
  }

  pub operands_placed : (vars : Vars) (a b r : Ty) (ca cb : Comp) (f : CExpr → CExpr → KnownVars → ℕ → Out) → is_unit a ≡ false → is_unit b ≡ false → is_unit r ≡ false
      → Places p vars a ca → Places p vars b cb → Binary a b r f → Places p vars r (gives (operands ca cb f))
  operands_placed vars a b r ca cb f va vb vr ha hb hf = record {
    unit = λ vs. sym vr;
    grows = λ names n.
        let oa = ca.run names n in
        let ob = cb.run names oa.next in
        let ga = ha.grows names n in
        let gb = hb.grows names oa.next in
        let gf = hf.grows oa.value ob.value names ob.next in omega (arith, ga, gb, gf);
    placed = λ names n g small s.
        let oa = ca.run names n in
        let ob = cb.run names oa.next in
        let gb = hb.grows names oa.next in
        let gf = hf.grows oa.value ob.value names ob.next in
        let pa = ha.placed names n g (omega (arith, gb, gf, small)) s in
        let pb = hb.placed names oa.next pa.after (omega (arith, gf, small)) (scoped_on p g pa.after pa.laid.more names vars s) in
        let both = laid_then p n oa.next ob.next g pa.after pb.after oa.code ob.code pa.laid pb.laid in
        behind p r n ob.next g pb.after (oa.code ++ ob.code) (f oa.value ob.value names ob.next) both
        (hf.placed oa.value ob.value names ob.next pb.after small pa.keeps pb.keeps (typed_on p pa.after pb.after pb.laid.more oa.value (ctype a) (pa.typed va)) (pb.typed vb));
  }

  -- ---- numbers

  -- a number that is computed of two, without statements
  pure_binary : (i : IntTy) (a b : Ty) (f : CExpr → CExpr → CExpr) → ((x y : CExpr) → ExprKeeps x → ExprKeeps y → ExprKeeps (f x y))
      → ((g : Scope) (x y : CExpr) → HasType p g x (ctype a) → HasType p g y (ctype b) → HasType p g (f x y) (width_type i.width)) → Binary a b (int_ty i) (λ x y. value (t.Int i) (f x y))
  pure_binary i a b f keeps typed = record {
    grows = λ x y names n. omega arith;
    placed = λ x y names n g small kx ky hx hy. value_placed p (int_ty i) (t.Int i) (f x y) names n g (erased_int i) (int_fits i) (keeps x y kx ky) (λ nu. of_int g i (f x y) (typed g x y hx hy));
  }

  arithmetic_fits : (o : CBin) (i : IntTy) → IsPlainOperator o → Binary (int_ty i) (int_ty i) (int_ty i) (arithmetic o i)
  arithmetic_fits o i is = pure_binary i (int_ty i) (int_ty i) (λ x y. narrow i.width (c.Bin o (widen i.width x) (widen i.width y)))
      (λ x y kx ky. narrow_keeps i.width _ (ExprKeeps.bin (widen_keeps i.width x kx) (widen_keeps i.width y ky)))
      (λ g x y hx hy. narrow_typed p g i.width (c.Bin o (widen i.width x) (widen i.width y))
      (HasType.bin is (work_arithmetic i.width) (widen_typed p g i.width x (as_int g i x hx)) (widen_typed p g i.width y (as_int g i y hy))))

  -- a variable in scope
  number_var : (g : Scope) (v : CVar) → Contains g (of_var v) → HasType p g (c.Var v.name) v.ty
  number_var g v there = HasType.var (of_var v) there

  divided_fits : (quotient : Bool) (i : IntTy) → Binary (int_ty i) (int_ty i) (int_ty i) (divided quotient i)
  divided_fits quotient i = record {
    grows = λ x y names n. omega arith;
    placed = λ x y names n g small kx ky hx hy.
        let w = i.width in
        let v = var n (width_type (work w)) in
        let lt : n < 2 ^ 64 = omega (arith, small) in
        record {
          after = of_var v ∷ g;
          laid = laid_div p n g quotient (width_type (work w)) (widen w x) (widen w y) lt (width_fits p (work w)) (work_arithmetic w) (widen_keeps w x kx) (widen_keeps w y ky)
              (widen_typed p g w x (as_int g i x hx)) (widen_typed p g w y (as_int g i y hy));
          keeps = narrow_keeps w (c.Var (plain n)) (ExprKeeps.var (plain_is n lt));
          ty = erased_int i;
          fits = int_fits i;
          typed = λ nu. of_int (of_var v ∷ g) i _ (narrow_typed p (of_var v ∷ g) w (c.Var (plain n)) (number_var (of_var v ∷ g) v (newest (of_var v) g)));
        };
  }

  -- a mask that is computed of one variable
  eq_fits : (i : IntTy) → Binary (int_ty i) (int_ty i) (int_ty i) (eq_mask i)
  eq_fits i = record {
    grows = λ x y names n. omega arith;
    placed = λ x y names n g small kx ky hx hy.
        let w = i.width in
        let v = var n (width_type (work w)) in
        let lt : n < 2 ^ 64 = omega (arith, small) in
        let h : Scope = of_var v ∷ g in
        let z = c.Var (plain n) in
        let kz = ExprKeeps.var (plain_is n lt) in
        let hz = number_var h v (newest (of_var v) g) in
        let number = work_arithmetic w in
        record {
          after = h;
          laid = laid_decl p n g v (c.Bin cop.Xor (widen w x) (widen w y)) (number-plain n lt) (plain_is n lt) (width_fits p (work w)) (ExprKeeps.bin (widen_keeps w x kx) (widen_keeps w y ky))
              (HasType.bin IsPlainOperator.xor number (widen_typed p g w x (as_int g i x hx)) (widen_typed p g w y (as_int g i y hy)));
          keeps = spread_keeps i (c.Bin cop.Or z (c.Bin cop.Sub (c.Lit (work w) 0) z)) (ExprKeeps.bin kz (ExprKeeps.bin (zero_keeps w) kz));
          ty = erased_int i;
          fits = int_fits i;
          typed = λ nu. of_int h i _ (spread_typed p h i (c.Bin cop.Or z (c.Bin cop.Sub (c.Lit (work w) 0) z))
              (HasType.bin IsPlainOperator.or number hz (HasType.bin IsPlainOperator.sub number (HasType.lit (work w) 0) hz)));
        };
  }

  -- and one of two
  gte_fits : (i : IntTy) → Binary (int_ty i) (int_ty i) (int_ty i) (gte_mask i)
  gte_fits i = record {
    grows = λ x y names n. omega arith;
    placed = λ x y names n g small kx ky hx hy.
        let w = i.width in
        let u = var n (width_type (work w)) in
        let v = var (n + 1) (width_type (work w)) in
        let lt : n < 2 ^ 64 = omega (arith, small) in
        let lt' : n + 1 < 2 ^ 64 = omega (arith, small) in
        let h : Scope = of_var u ∷ g in
        let j : Scope = of_var v ∷ h in
        let a = c.Var (plain n) in
        let b = c.Var (plain (n + 1)) in
        let ka = ExprKeeps.var (plain_is n lt) in
        let kb = ExprKeeps.var (plain_is (n + 1) lt') in
        let ha = number_var j u (before (of_var v) h (of_var u) (newest (of_var u) g)) in
        let hb = number_var j v (newest (of_var v) h) in
        let number = work_arithmetic w in
        let ux : CStatement = st.Decl u (widen w x) in
        let vy : CStatement = st.Decl v (widen w y) in
        let first : Laid p n (n + 1) g (ux ∷ []) h =
        laid_decl p n g u (widen w x) (number-plain n lt) (plain_is n lt) (width_fits p (work w)) (widen_keeps w x kx) (widen_typed p g w x (as_int g i x hx)) in
        let second : Laid p (n + 1) (n + 1 + 1) h (vy ∷ []) j =
        laid_decl p (n + 1) h v (widen w y) (number-plain (n + 1) lt') (plain_is (n + 1) lt') (width_fits p (work w)) (widen_keeps w y ky)
        (widen_typed p h w y (typed_on p g h (before (of_var u) g) y (width_type w) (as_int g i y hy))) in
        let two : n + 1 + 1 ≡ n + 2 = omega arith in
        let e = c.Bin cop.Xor a (c.Bin cop.Or (c.Bin cop.Xor a b) (c.Bin cop.Xor (c.Bin cop.Sub a b) b)) in
        record {
          after = j;
          laid = subst (λ m. Laid p n m g (ux ∷ vy ∷ []) j) two (laid_then p n (n + 1) (n + 1 + 1) g h j (ux ∷ []) (vy ∷ []) first second);
          keeps = spread_keeps i e (ExprKeeps.bin ka (ExprKeeps.bin (ExprKeeps.bin ka kb) (ExprKeeps.bin (ExprKeeps.bin ka kb) kb)));
          ty = erased_int i;
          fits = int_fits i;
          typed = λ nu. of_int j i _ (spread_typed p j i e
              (HasType.bin IsPlainOperator.xor number ha
              (HasType.bin IsPlainOperator.or number (HasType.bin IsPlainOperator.xor number ha hb)
              (HasType.bin IsPlainOperator.xor number (HasType.bin IsPlainOperator.sub number ha hb) hb))));
        };
  }

  binary_fits : (o : BinOp) (i : IntTy) → Binary (int_ty i) (int_ty i) (int_ty i) (binary o i)
  binary_fits op.Add i = arithmetic_fits cop.Add i IsPlainOperator.add
  binary_fits op.Sub i = arithmetic_fits cop.Sub i IsPlainOperator.sub
  binary_fits op.Mul i = arithmetic_fits cop.Mul i IsPlainOperator.mul
  binary_fits op.And i = arithmetic_fits cop.And i IsPlainOperator.and
  binary_fits op.Or i = arithmetic_fits cop.Or i IsPlainOperator.or
  binary_fits op.Xor i = arithmetic_fits cop.Xor i IsPlainOperator.xor
  binary_fits op.Div i = divided_fits true i
  binary_fits op.Rem i = divided_fits false i
  binary_fits op.EqMask i = eq_fits i
  binary_fits op.GteMask i = gte_fits i

  pub bin_placed : (vars : Vars) (o : BinOp) (i : IntTy) (ca cb : Comp) → Places p vars (int_ty i) ca → Places p vars (int_ty i) cb → Places p vars (int_ty i) (gives (operands ca cb (binary o i)))
  bin_placed vars o i ca cb ha hb = let is = int_is_value (public i) in operands_placed vars (int_ty i) (int_ty i) (int_ty i) ca cb (binary o i) is is is ha hb (binary_fits o i)

  shifted_fits : (left : Bool) (i : IntTy) → Binary (int_ty i) u32 (int_ty i) (shifted left i)
  shifted_fits left i = pure_binary i (int_ty i) u32 (λ x y. narrow i.width (c.Bin (shift_op left) (widen i.width x) y))
      (λ x y kx ky. narrow_keeps i.width _ (ExprKeeps.bin (widen_keeps i.width x kx) ky))
      (λ g x y hx hy. narrow_typed p g i.width (c.Bin (shift_op left) (widen i.width x) y)
      (HasType.shift (shift_is left) (work_arithmetic i.width) (widen_typed p g i.width x (as_int g i x hx)) (as_u32 g y hy)))

  pub shift_placed : (vars : Vars) (left : Bool) (i : IntTy) (ca cb : Comp) → Places p vars (int_ty i) ca → Places p vars u32 cb → Places p vars (int_ty i) (gives (operands ca cb (shifted left i)))
  shift_placed vars left i ca cb ha hb = let is = int_is_value (public i) in operands_placed vars (int_ty i) u32 (int_ty i) ca cb (shifted left i) is (int_is_value _) is ha hb (shifted_fits left i)

  compared_fits : (o : CmpOp) (i : IntTy) → Binary (int_ty i) (int_ty i) t.Bool (compared o i)
  compared_fits o i = record {
    grows = λ x y names n. omega arith;
    placed = λ x y names n g small kx ky hx hy.
        let w = i.width in
        value_placed p t.Bool t.Bool (c.Cmp W8 (kind o) (widen w x) (widen w y)) names n g erased_bool bool_fits (ExprKeeps.cmp (widen_keeps w x kx) (widen_keeps w y ky))
        (λ nu. of_bool g _ (HasType.cmp W8 (width_type (work w)) (work_arithmetic w) (widen_typed p g w x (as_int g i x hx)) (widen_typed p g w y (as_int g i y hy))));
  }

  pub cmp_placed : (vars : Vars) (o : CmpOp) (i : IntTy) (ca cb : Comp) → Places p vars (int_ty i) ca → Places p vars (int_ty i) cb → Places p vars t.Bool (gives (operands ca cb (compared o i)))
  cmp_placed vars o i ca cb ha hb = let is = int_is_value (public i) in operands_placed vars (int_ty i) (int_ty i) t.Bool ca cb (compared o i) is is bool_is_value ha hb (compared_fits o i)

  opposite_fits : Unary t.Bool t.Bool opposite
  opposite_fits = record {
    grows = λ o names n. omega arith;
    placed = λ o names n g small ty k h.
        value_placed p t.Bool t.Bool (c.Cast W8 (c.Bin cop.Xor (c.Cast W32 o.value) (c.Lit W32 1))) names n g erased_bool bool_fits (ExprKeeps.cast (ExprKeeps.bin (ExprKeeps.cast k) (literal_keeps W32 1 (omega arith))))
        (λ nu. of_bool g _ (HasType.cast W8 W32 (HasType.bin IsPlainOperator.xor (work_arithmetic W32) (HasType.cast W32 W8 (as_bool g o.value h)) (HasType.lit W32 1))));
  }

  pub not_placed : (vars : Vars) (ca : Comp) → Places p vars t.Bool ca → Places p vars t.Bool (gives (operand ca opposite))
  not_placed vars ca ha = operand_placed vars t.Bool t.Bool ca opposite bool_is_value bool_is_value ha opposite_fits

  -- widths that are the same give one type
  same_width_type : (u w : Width) → same_width u w ≡ true → width_type u ≡ width_type w
  same_width_type W8 W8 e = refl
  same_width_type W8 W32 e = absurd (cc)
  same_width_type W8 W64 e = absurd (cc)
  same_width_type W32 W8 e = absurd (cc)
  same_width_type W32 W32 e = refl
  same_width_type W32 W64 e = absurd (cc)
  same_width_type W64 W8 e = absurd (cc)
  same_width_type W64 W32 e = absurd (cc)
  same_width_type W64 W64 e = refl

  converted_fits : (i j : IntTy) → Unary (int_ty i) (int_ty j) (converted i j)
  converted_fits i j = record {
    grows = λ o names n. omega arith;
    placed = λ o names n g small ty k h. at o names n g (same_width i.width j.width) refl k (as_int g i o.value h);
  }
    where
      at : (o : Out) (names : KnownVars) (n : ℕ) (g : Scope) (b : Bool) → same_width i.width j.width ≡ b → ExprKeeps o.value → HasType p g o.value (width_type i.width)
          → Placed p (int_ty j) n g (value (t.Int j) (if b then o.value else c.Cast j.width o.value) names n)
      at o names n g true e k h = value_placed p (int_ty j) (t.Int j) o.value names n g (erased_int j) (int_fits j) k (λ nu. of_int g j o.value (subst (HasType p g o.value) (same_width_type i.width j.width e) h))
      at o names n g false e k h = value_placed p (int_ty j) (t.Int j) (c.Cast j.width o.value) names n g (erased_int j) (int_fits j) (ExprKeeps.cast k) (λ nu. of_int g j _ (HasType.cast j.width i.width h))

  pub cast_placed : (vars : Vars) (i j : IntTy) (ca : Comp) → Places p vars (int_ty i) ca → Places p vars (int_ty j) (gives (operand ca (converted i j)))
  cast_placed vars i j ca ha = operand_placed vars (int_ty i) (int_ty j) ca (converted i j) (int_is_value (public i)) (int_is_value (public j)) ha (converted_fits i j)
