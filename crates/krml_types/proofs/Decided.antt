-- The tests of types decide what they test.
use Rattle.std.proofs.Common.{◌≡◌, ℕ, ◌==◌, zero, suc, Bool, true, false, not, ◌&&◌, ◌||◌, ◌⊎◌, inl, inr, List, [], ◌∷◌, map, length, Option, Some, None, refl, sym, ap, ◌∙◌, subst, arith}
use Rattle.std.specs.Bool.{Decides}
use Rattle.std.specs.List.{Contains}
use Rattle.std.specs.Str.{bytes_eq}
use Rattle.std.proofs.lemmas.Bool.{and_parts, and_from, not_from_false}
use Rattle.std.proofs.lemmas.Bool.Decides.{Decides-eqb}
use Rattle.std.proofs.lemmas.Slice.Eq.{bytes_eq-Decides}
use Rattle.krml_trace.specs.Width.{same_width}
use Rattle.krml_trace.specs.declared.width.Width.{Width}
use Rattle.krml_trace.specs.declared.width.Width.TheVariants.{W8, W32, W64}
use Rattle.krml_syntax.specs.declared.tree.IntTy.{IntTy}
use Rattle.krml_syntax.specs.declared.tree.Ty.{Ty, out-Ty, roll-Ty, roll-out-Ty, map-Ty}
use Rattle.krml_syntax.specs.declared.tree.Ty.TheOpen.{Ty-F}
use Rattle.krml_syntax.specs.declared.tree.Ty.TheFolds.{fold-roll-Ty, ind-Ty, para-roll-Ty}
use Rattle.krml_syntax.specs.declared.tree.Ty.TheViews.{out-roll-Ty}
use Rattle.krml_syntax.specs.declared.tree.Ty.TheVariants as t
use Rattle.krml_syntax.specs.declared.tree.Def.{Def}
use Rattle.krml_ast.specs.Names.{Composite, type_named, vars_of}
use Rattle.krml_ast.specs.Places.{is_among}
use Rattle.krml_syntax.specs.Types.{is_unit_in}
use Rattle.krml_ast.specs.IsType.{IsFlat, IsType, AreArguments}
use Rattle.krml_types.specs.Holds.{same_bool, holds_by, holders}
use Rattle.krml_types.specs.Parts.{is_value}
use Rattle.krml_types.specs.Types.{same_int, all_same, same_in, ty_same, same_ty, is_flat, takes, all_serve, is_type_in, is_type_by, are_arguments_by, is_type, are_arguments}
use Rattle.krml_types.proofs.Holders.{bool_same, bool_is, holds_decides, either}
use Rattle.krml_types.proofs.Known.{Known}

-- ---- the same

width_same : (w : Width) → same_width w w ≡ true
width_same W8 = refl
width_same W32 = refl
width_same W64 = refl

width_is : (w v : Width) → same_width w v ≡ true → w ≡ v
width_is W8 W8 h = refl
width_is W32 W32 h = refl
width_is W64 W64 h = refl
width_is W8 W32 h = cc
width_is W8 W64 h = cc
width_is W32 W8 h = cc
width_is W32 W64 h = cc
width_is W64 W8 h = cc
width_is W64 W32 h = cc

int_same : (i : IntTy) → same_int i i ≡ true
int_same i = rw (width_same i.width, bool_same i.secret) refl

int_is : (i j : IntTy) → same_int i j ≡ true → i ≡ j
int_is i j h = go i.secret j.secret (bool_is i.secret j.secret both.1)
  where
    both : (same_width i.width j.width ≡ true) × (same_bool i.secret j.secret ≡ true)
    both = and_parts (same_width i.width j.width) (same_bool i.secret j.secret) h

    go : (b c : Bool) → b ≡ c → (let x : IntTy = record { width = i.width; secret = b } in x) ≡ (record { width = j.width; secret = c })
    go b c e = ap (λ w. record { width = w; secret = b }) (width_is i.width j.width both.0) ∙ ap (λ z. record { width = j.width; secret = z }) e

name_same : (x : List ℕ) → bytes_eq x x ≡ true
name_same x = (bytes_eq-Decides x x).1 refl

module _ (X : Type 0) (v : X → Ty) (h : (x : X) (a : Ty) → ty_same (v x) a ≡ true → v x ≡ a) where
  all_is : (xs : List X) (types : List Ty) → all_same (map ty_same (map v xs)) types ≡ true → map v xs ≡ types
  all_is [] [] k = refl
  all_is [] (a ∷ types) k = absurd (cc)
  all_is (x ∷ xs) [] k = absurd (cc)
  all_is (x ∷ xs) (a ∷ types) k =
      let both = and_parts (ty_same (v x) a) (all_same (map ty_same (map v xs)) types) k in
      let one : v x ≡ a = h x a both.0 in
      let more : map v xs ≡ types = all_is xs types both.1 in
      cc

  layer_is : (y : Ty-F X) (z : Ty-F Ty) → same_in (map-Ty Ty (Ty → Bool) ty_same (map-Ty X Ty v y)) z ≡ true → map-Ty X Ty v y ≡ z
  layer_is Ty-F.Bool Ty-F.Bool k = refl
  layer_is Ty-F.Unit Ty-F.Unit k = refl
  layer_is (Ty-F.Int i) (Ty-F.Int j) k = ap (λ w. Ty-F.Int w) (int_is i j k)
  layer_is (Ty-F.Buf x) (Ty-F.Buf a) k = ap (λ w. Ty-F.Buf w) (h x a k)
  layer_is (Ty-F.Var x) (Ty-F.Var y) k = ap (λ w. Ty-F.Var w) ((bytes_eq-Decides x y).0 k)
  layer_is (Ty-F.Named x xs) (Ty-F.Named y types) k =
      let both = and_parts (bytes_eq x y) (all_same (map ty_same (map v xs)) types) k in
      ap (λ w. Ty-F.Named w (map v xs)) ((bytes_eq-Decides x y).0 both.0) ∙ ap (λ w. Ty-F.Named y w) (all_is xs types both.1)
  layer_is _ _ k = absurd (cc)

  step_is : (y : Ty-F X) (a : Ty) → ty_same (roll-Ty (map-Ty X Ty v y)) a ≡ true → roll-Ty (map-Ty X Ty v y) ≡ a
  step_is y a k =
      let q = sym (fold-roll-Ty (Ty → Bool) (λ x a. same_in x (out-Ty a)) (map-Ty X Ty v y)) in
      let w : same_in (map-Ty Ty (Ty → Bool) ty_same (map-Ty X Ty v y)) (out-Ty a) ≡ true = ap (λ f. f a) q ∙ k in
      ap roll-Ty (layer_is y (out-Ty a) w) ∙ roll-out-Ty a

module _ (X : Type 0) (v : X → Ty) (h : (x : X) → ty_same (v x) (v x) ≡ true) where
  all_again : (xs : List X) → all_same (map ty_same (map v xs)) (map v xs) ≡ true
  all_again [] = refl
  all_again (x ∷ xs) = rw (h x, all_again xs) refl

  step_again : (y : Ty-F X) → ty_same (roll-Ty (map-Ty X Ty v y)) (roll-Ty (map-Ty X Ty v y)) ≡ true
  step_again Ty-F.Bool = rw (fold-roll-Ty (Ty → Bool), out-roll-Ty) refl
  step_again Ty-F.Unit = rw (fold-roll-Ty (Ty → Bool), out-roll-Ty) refl
  step_again (Ty-F.Int i) = rw (fold-roll-Ty (Ty → Bool), out-roll-Ty) (int_same i)
  step_again (Ty-F.Buf x) = rw (fold-roll-Ty (Ty → Bool), out-roll-Ty) (h x)
  step_again (Ty-F.Var x) = rw (fold-roll-Ty (Ty → Bool), out-roll-Ty) (name_same x)
  step_again (Ty-F.Named x xs) = rw (fold-roll-Ty (Ty → Bool), out-roll-Ty, name_same x) (all_again xs)

pub ty_is : (a b : Ty) → ty_same a b ≡ true → a ≡ b
ty_is = ind-Ty (λ a. (b : Ty) → ty_same a b ≡ true → a ≡ b)
    (λ x y eq. subst (λ z. (b : Ty) → ty_same (roll-Ty z) b ≡ true → roll-Ty z ≡ b) eq (step_is _ (λ p. p.0) (λ p. p.1) y))

pub ty_again : (a : Ty) → ty_same a a ≡ true
ty_again = ind-Ty (λ a. ty_same a a ≡ true) (λ x y eq. subst (λ z. ty_same (roll-Ty z) (roll-Ty z) ≡ true) eq (step_again _ (λ p. p.0) (λ p. p.1) y))

pub same_decides : (a b : Ty) → Decides (same_ty a b) (a ≡ b)
unfolding same_ty
same_decides a b = (ty_is a b, λ e. subst (λ z. ty_same a z ≡ true) e (ty_again a))

-- ---- flat

unless : (b : Bool) → not b ≡ true → b ≡ false
unless false h = refl
unless true h = absurd (cc)

pub flat_decides : (defs : List Def) (a : Ty) → Decides (is_flat defs a) (IsFlat defs a)
unfolding is_flat
flat_decides defs a = (only, again)
  where
    only : is_flat defs a ≡ true → IsFlat defs a
    only h =
        let both = and_parts (is_value a) (not (holds_by defs (holders defs) a)) h in
        let off : holds_by defs (holders defs) a ≡ false = unless (holds_by defs (holders defs) a) both.1 in
        record { value = unless (is_unit_in (out-Ty a)) both.0; flat = λ hold. let on = (holds_decides defs a).1 hold in absurd (cc) }

    again : IsFlat defs a → is_flat defs a ≡ true
    again f = rw f.value (not_from_false (holds_by defs (holders defs) a) (off (holds_by defs (holders defs) a) (λ on. f.flat ((holds_decides defs a).0 on))))
      where
        off : (b : Bool) → (b ≡ true → ⊥) → b ≡ false
        off true k = absurd (k refl)
        off false k = refl

-- ---- well formed

among_is : (vars : List (List ℕ)) (x : List ℕ) → is_among vars x ≡ true → Contains vars x
among_is [] x h = absurd (cc)
among_is (v ∷ vars) x h = go (either (bytes_eq v x) (is_among vars x) h) (among_is vars x)
  where
    go : (bytes_eq v x ≡ true) ⊎ (is_among vars x ≡ true) → (is_among vars x ≡ true → Contains vars x) → Contains (v ∷ vars) x
    go (inl k) later = (0, omega arith, (bytes_eq-Decides v x).0 k)
    go (inr k) later = let m = later k in (suc m.0, let l = m.1 in omega (arith, l), m.2)

among_again : (vars : List (List ℕ)) (x : List ℕ) → Contains vars x → is_among vars x ≡ true
among_again [] x (k, l, q) = absurd (omega (arith, l))
among_again (v ∷ vars) x (zero, l, q) = rw ((bytes_eq-Decides v x).1 q) refl
among_again (v ∷ vars) x (suc k, l, q) = rw (among_again vars x (k, omega (arith, l), q)) (last (bytes_eq v x))
  where
    last : (b : Bool) → (b || true) ≡ true
    last true = refl
    last false = refl

pub among_decides_name : (vars : List (List ℕ)) (x : List ℕ) → Decides (is_among vars x) (Contains vars x)
among_decides_name vars x = (among_is vars x, among_again vars x)

length_pairs : (h : Ty → Ty × Bool) (args : List Ty) → length (map h args) ≡ length args
length_pairs h [] = refl
length_pairs h (a ∷ args) = ap suc (length_pairs h args)

-- the types with whether they are well formed
abbrev with : (Ty → Bool) → Ty → Ty × Bool
with is a = (a, is a)

takes_is : (o : Option Composite) (n : ℕ) → takes o n ≡ true → (c : Composite) × (o ≡ Some c) × (n ≡ length (vars_of c))
takes_is (Some c) n h = (c, refl, (Decides-eqb n (length (vars_of c))).0 h)
takes_is None n h = absurd (cc)

module _ (find : List ℕ → Option Composite) (flat : Ty → Bool) (vars : List (List ℕ)) where
  pub type_out : (a : Ty) → is_type_by find flat vars a ≡ is_type_in find flat vars (map-Ty Ty (Ty × Bool) (with (is_type_by find flat vars)) (out-Ty a))
  type_out a = ap (is_type_by find flat vars) (sym (roll-out-Ty a)) ∙ para-roll-Ty Bool (is_type_in find flat vars) (out-Ty a)

  pub type_bool : (a : Ty) → a ≡ t.Bool → is_type_by find flat vars a ≡ true
  type_bool a e = rw e (rw (type_out, t.outs-Bool) refl)

  pub type_unit : (a : Ty) → a ≡ t.Unit → is_type_by find flat vars a ≡ true
  type_unit a e = rw e (rw (type_out, t.outs-Unit) refl)

  pub type_int : (a : Ty) (i : IntTy) → a ≡ t.Int i → is_type_by find flat vars a ≡ true
  type_int a i e = rw e (rw (type_out, t.outs-Int) refl)

  pub type_buf : (a b : Ty) → a ≡ t.Buf b → is_type_by find flat vars a ≡ (is_type_by find flat vars b && flat b)
  type_buf a b e = rw e (rw (type_out (t.Buf b), t.outs-Buf) refl)

  pub type_var : (a : Ty) (x : List ℕ) → a ≡ t.Var x → is_type_by find flat vars a ≡ is_among vars x
  type_var a x e = rw e (rw (type_out, t.outs-Var) refl)

  pub type_name : (a : Ty) (x : List ℕ) (args : List Ty) → a ≡ t.Named x args
      → is_type_by find flat vars a ≡ (takes (find x) (length args) && are_arguments_by find flat vars args)
  type_name a x args e = rw e (rw (type_out (t.Named x args), t.outs-Named, length_pairs (with (is_type_by find flat vars)) args) refl)

abbrev pub typed : List Def → List (List ℕ) → Ty → Bool
typed defs = is_type_by (type_named defs) (is_flat defs)

abbrev arguments_typed : List Def → List (List ℕ) → List Ty → Bool
arguments_typed defs = are_arguments_by (type_named defs) (is_flat defs)

module _ (defs : List Def) (vars : List (List ℕ)) where
  abbrev P : Ty → Type 0
  P a = typed defs vars a ≡ true → IsType defs vars a

  module _ (X : Type 0) (v : X → Ty) (h : (x : X) → P (v x)) where
    serve_only : (xs : List X) → all_serve (is_flat defs) (map (with (typed defs vars)) (map v xs)) ≡ true → AreArguments defs vars (map v xs)
    serve_only [] k = AreArguments.none
    serve_only (x ∷ xs) k =
        let more = and_parts (typed defs vars (v x) && is_flat defs (v x)) (all_serve (is_flat defs) (map (with (typed defs vars)) (map v xs))) k in
        let one = and_parts (typed defs vars (v x)) (is_flat defs (v x)) more.0 in
        AreArguments.one (h x one.0) ((flat_decides defs (v x)).0 one.1) (serve_only xs more.1)

    named_only : (x : List ℕ) (xs : List X)
        → (takes (type_named defs x) (length (map (with (typed defs vars)) (map v xs))) && all_serve (is_flat defs) (map (with (typed defs vars)) (map v xs))) ≡ true
        → IsType defs vars (t.Named x (map v xs))
    named_only x xs k =
        let both = and_parts (takes (type_named defs x) (length (map (with (typed defs vars)) (map v xs)))) (all_serve (is_flat defs) (map (with (typed defs vars)) (map v xs))) k in
        let c = takes_is (type_named defs x) (length (map (with (typed defs vars)) (map v xs))) both.0 in
        IsType.named c.1 (sym (length_pairs (with (typed defs vars)) (map v xs)) ∙ c.2) (serve_only xs both.1)

    layer_only : (y : Ty-F X) → is_type_in (type_named defs) (is_flat defs) vars (map-Ty Ty (Ty × Bool) (with (typed defs vars)) (map-Ty X Ty v y)) ≡ true
        → IsType defs vars (roll-Ty (map-Ty X Ty v y))
    layer_only Ty-F.Bool k = rw t.rolls-Bool IsType.bool
    layer_only Ty-F.Unit k = rw t.rolls-Unit IsType.unit
    layer_only (Ty-F.Int i) k = rw (t.rolls-Int i) (IsType.int i)
    layer_only (Ty-F.Buf x) k =
        let both = and_parts (typed defs vars (v x)) (is_flat defs (v x)) k in
        rw (t.rolls-Buf (v x)) (IsType.buf (v x) (h x both.0) ((flat_decides defs (v x)).0 both.1))
    layer_only (Ty-F.Var x) k = rw (t.rolls-Var x) (IsType.var (among_is vars x k))
    layer_only (Ty-F.Named x xs) k = rw (t.rolls-Named x (map v xs)) (named_only x xs k)

    type_step_only : (y : Ty-F X) → P (roll-Ty (map-Ty X Ty v y))
    type_step_only y k = layer_only y (sym (para-roll-Ty Bool (is_type_in (type_named defs) (is_flat defs) vars) (map-Ty X Ty v y)) ∙ k)

  type_only : (a : Ty) → P a
  type_only = ind-Ty P (λ x y eq. subst (λ z. P (roll-Ty z)) eq (type_step_only _ (λ p. p.0) (λ p. p.1) y))

  mutual
    type_again : (a : Ty) → IsType defs vars a → typed defs vars a ≡ true
    type_again a IsType.bool = rw (type_out (type_named defs) (is_flat defs) vars, t.outs-Bool) refl
    type_again a IsType.unit = rw (type_out (type_named defs) (is_flat defs) vars, t.outs-Unit) refl
    type_again a (IsType.int i) = rw (type_out (type_named defs) (is_flat defs) vars, t.outs-Int) refl
    type_again a (IsType.buf b is f) = rw (type_out (type_named defs) (is_flat defs) vars (t.Buf b), t.outs-Buf) (and_from (typed defs vars b) (is_flat defs b) (type_again b is) ((flat_decides defs b).1 f))
    type_again a (IsType.var {x = x} h) = rw (type_out (type_named defs) (is_flat defs) vars, t.outs-Var) (among_again vars x h)
    type_again a (IsType.named {x = x} {c = c} {args = args} c_is n_is ok) =
        rw (type_out (type_named defs) (is_flat defs) vars (t.Named x args), t.outs-Named, c_is)
        (and_from (length (map (with (typed defs vars)) args) == length (vars_of c)) (all_serve (is_flat defs) (map (with (typed defs vars)) args))
        ((Decides-eqb (length (map (with (typed defs vars)) args)) (length (vars_of c))).1 (length_pairs (with (typed defs vars)) args ∙ n_is)) (serve_again args ok))

    serve_again : (args : List Ty) → AreArguments defs vars args → all_serve (is_flat defs) (map (with (typed defs vars)) args) ≡ true
    serve_again args AreArguments.none = refl
    serve_again args (AreArguments.one {a = a} {args = more} is f ok) =
        and_from (typed defs vars a && is_flat defs a) (all_serve (is_flat defs) (map (with (typed defs vars)) more))
        (and_from (typed defs vars a) (is_flat defs a) (type_again a is) ((flat_decides defs a).1 f)) (serve_again more ok)

  pub type_by_decides : (a : Ty) → Decides (typed defs vars a) (IsType defs vars a)
  type_by_decides a = (type_only a, type_again a)

  pub type_decides : (a : Ty) → Decides (is_type defs vars a) (IsType defs vars a)
  unfolding is_type
  type_decides a = (type_only a, type_again a)

  arguments_only : (args : List Ty) → arguments_typed defs vars args ≡ true → AreArguments defs vars args
  arguments_only [] k = AreArguments.none
  arguments_only (a ∷ args) k =
      let more = and_parts (typed defs vars a && is_flat defs a) (arguments_typed defs vars args) k in
      let one = and_parts (typed defs vars a) (is_flat defs a) more.0 in
      AreArguments.one (type_only a one.0) ((flat_decides defs a).0 one.1) (arguments_only args more.1)

  arguments_again : (args : List Ty) → AreArguments defs vars args → arguments_typed defs vars args ≡ true
  arguments_again args AreArguments.none = refl
  arguments_again args (AreArguments.one {a = a} {args = more} is f ok) =
      and_from (typed defs vars a && is_flat defs a) (arguments_typed defs vars more)
      (and_from (typed defs vars a) (is_flat defs a) (type_again a is) ((flat_decides defs a).1 f)) (arguments_again more ok)

  pub arguments_decide : (args : List Ty) → Decides (are_arguments defs vars args) (AreArguments defs vars args)
  unfolding are_arguments
  arguments_decide args = (arguments_only args, arguments_again args)

-- what the laws of expressions take
pub known : (defs : List Def) (vars : List (List ℕ)) → Known defs vars
known defs vars = record { same = same_decides; flat = flat_decides defs; type = type_decides defs vars; arguments = arguments_decide defs vars }

-- ---- by two tests of flat types that agree at well formed ones

module _ (find : List ℕ → Option Composite) (f g : Ty → Bool) (vars : List (List ℕ)) (agree : (a : Ty) → is_type_by find g vars a ≡ true → f a ≡ g a) where
  abbrev Q : Ty → Type 0
  Q a = is_type_by find f vars a ≡ is_type_by find g vars a

  -- with a test of a part
  both_same : (a : Ty) → Q a → (is_type_by find f vars a && f a) ≡ (is_type_by find g vars a && g a)
  both_same a q = rw q (go (is_type_by find g vars a) refl)
    where
      go : (b : Bool) → is_type_by find g vars a ≡ b → (b && f a) ≡ (b && g a)
      go true e = agree a e
      go false e = refl

  module _ (X : Type 0) (v : X → Ty) (h : (x : X) → Q (v x)) where
    serve_same : (xs : List X) → all_serve f (map (with (is_type_by find f vars)) (map v xs)) ≡ all_serve g (map (with (is_type_by find g vars)) (map v xs))
    serve_same [] = refl
    serve_same (x ∷ xs) = rw (both_same (v x) (h x), serve_same xs) refl

    length_same : (xs : List X) → length (map (with (is_type_by find f vars)) (map v xs)) ≡ length (map (with (is_type_by find g vars)) (map v xs))
    length_same xs = length_pairs (with (is_type_by find f vars)) (map v xs) ∙ sym (length_pairs (with (is_type_by find g vars)) (map v xs))

    layer_same : (y : Ty-F X) → is_type_in find f vars (map-Ty Ty (Ty × Bool) (with (is_type_by find f vars)) (map-Ty X Ty v y))
        ≡ is_type_in find g vars (map-Ty Ty (Ty × Bool) (with (is_type_by find g vars)) (map-Ty X Ty v y))
    layer_same Ty-F.Bool = refl
    layer_same Ty-F.Unit = refl
    layer_same (Ty-F.Int i) = refl
    layer_same (Ty-F.Buf x) = both_same (v x) (h x)
    layer_same (Ty-F.Var x) = refl
    layer_same (Ty-F.Named x xs) = rw (length_same xs, serve_same xs) refl

    step_same : (y : Ty-F X) → Q (roll-Ty (map-Ty X Ty v y))
    step_same y = para-roll-Ty Bool (is_type_in find f vars) (map-Ty X Ty v y) ∙ layer_same y ∙ sym (para-roll-Ty Bool (is_type_in find g vars) (map-Ty X Ty v y))

  pub types_same : (a : Ty) → Q a
  types_same = ind-Ty Q (λ x y eq. subst (λ z. Q (roll-Ty z)) eq (step_same _ (λ p. p.0) (λ p. p.1) y))
