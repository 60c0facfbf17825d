-- Scopes whose variables have their types, and frames whose slots are open.
use Rattle.std.proofs.Common.{◌≡◌, ℕ, zero, suc, ◌+◌, Bool, true, false, if◌then◌else◌, List, [], ◌∷◌, ◌++◌, Option, Some, None, slice_get, map, length, refl, sym, ap, ◌∙◌, subst, arith, append_assoc}
use Rattle.std.specs.Str.{bytes_eq}
use Rattle.krml_syntax.specs.declared.tree.Ty.{Ty}
use Rattle.krml_syntax.specs.declared.tree.Slot.{Slot}
use Rattle.krml_syntax.specs.declared.tree.Def.{Def}
use Rattle.krml_syntax.specs.Types.{erased, type_at}
use Rattle.krml_ast.specs.IsType.{AreArguments}
use Rattle.krml_ast.specs.Typing.{Vars, Scope, look}
use Rattle.krml_ast.specs.Typing as typing
use Rattle.krml_meaning.specs.declared.value.Value.{Value}
use Rattle.krml_meaning.specs.State.{Block, Variables, Env, value_of, with_vars, closed_slot, fresh}
use Rattle.krml_meaning.specs.Shape.{Open, HasShape, Extends}
use Rattle.krml_trace.proofs.Blocks.{get_right}
use Rattle.krml_meaning.proofs.Lists.{same_some, no_some}
use Rattle.krml_meaning.proofs.Shapes.{shape_on}
use Rattle.krml_syntax.proofs.Types.{erased_at}

-- A function's type variables, and closed types for them.
pub record Instance (defs : List Def) : Type 0 where
  pub tvars : List (List ℕ)
  pub targs : List Ty
  pub count : length targs ≡ length tvars
  pub typed : AreArguments defs [] targs

module _ (defs : List Def) (at : Instance defs) where
  -- a type without labels, closed
  abbrev pub here : Ty → Ty
  here a = type_at at.tvars (map erased at.targs) a

  -- each variable that is looked up has a value of its type
  abbrev pub VarsThere : List Block → Variables → Vars → Type 0
  VarsThere m vars types = (x : List ℕ) (a : Ty) → look types x ≡ Some a → (y : Value) × (value_of vars x ≡ Some y) × HasShape defs m y (here a)

  -- variables have their types, name by name
  abbrev pub VarsTyped : List Block → Variables → Vars → Type 0
  VarsTyped m [] [] = Unit {0}
  VarsTyped m ((x, y) ∷ vars) ((z, a) ∷ types) = (x ≡ z) × HasShape defs m y (here a) × VarsTyped m vars types
  VarsTyped m _ _ = ⊥

  -- blocks for slots, from a number on
  abbrev pub Owns : List Block → ℕ → List Slot → Type 0
  Owns m n [] = Unit {0}
  Owns m n (s ∷ slots) = Open m n (here (erased s.ty)) s.len × Owns m (suc n) slots

  -- the listed slots of a frame, and others from a number on
  abbrev pub Holds : List Block → ℕ → ℕ → List Slot → Option (List Slot) → Type 0
  Holds m base k slots None = Unit {0}
  Holds m base k slots (Some listed) = Owns m base listed × Owns m (base + k) slots

  -- Ready for an expression in a scope, whose own slots are numbered from k on.
  pub record Ready (g : Scope) (k : ℕ) (slots : List Slot) (m : List Block) (env : Env) : Type 0 where
    pub tvars : env.tvars ≡ at.tvars
    pub targs : env.targs ≡ at.targs
    pub vars : VarsThere m env.vars g.vars
    pub frame : Holds m env.base k slots g.frame

  -- ---- in a memory that extends this one

  vars_on : (m now : List Block) (vars : Variables) (types : Vars) → Extends m now → VarsThere m vars types → VarsThere now vars types
  vars_on m now vars types p h x a e = let f = h x a e in (f.0, f.1, shape_on defs m now f.0 (here a) p f.2)

  owns_on : (m now : List Block) (n : ℕ) (slots : List Slot) → Extends m now → Owns m n slots → Owns now n slots
  owns_on m now n [] p h = tt
  owns_on m now n (s ∷ slots) p h = (p.opened n (here (erased s.ty)) s.len h.0, owns_on m now (suc n) slots p h.1)

  holds_on : (m now : List Block) (base k : ℕ) (slots : List Slot) (o : Option (List Slot)) → Extends m now → Holds m base k slots o → Holds now base k slots o
  holds_on m now base k slots None p h = tt
  holds_on m now base k slots (Some listed) p h = (owns_on m now base listed p h.0, owns_on m now (base + k) slots p h.1)

  pub ready_on : (g : Scope) (k : ℕ) (slots : List Slot) (m now : List Block) (env : Env) → Extends m now → Ready g k slots m env → Ready g k slots now env
  ready_on g k slots m now env p r = record {
    tvars = r.tvars;
    targs = r.targs;
    vars = vars_on m now env.vars g.vars p r.vars;
    frame = holds_on m now env.base k slots g.frame p r.frame;
  }

  -- ---- variables

  -- newer variables, name by name
  vars_behind : (m : List Block) (vars more : Variables) (types others : Vars) → VarsTyped m vars types → VarsThere m more others → VarsThere m (vars ++ more) (types ++ others)
  vars_behind m [] more [] others h k x a e = k x a e
  vars_behind m (y ∷ vars) more [] others h k x a e = absurd h
  vars_behind m [] more (z ∷ types) others h k x a e = absurd h
  vars_behind m ((y, v) ∷ vars) more ((z, b) ∷ types) others h k x a e =
      go (bytes_eq y x) (value_of (vars ++ more) x) (subst (λ w. (if bytes_eq w x then Some b else look (types ++ others) x) ≡ Some a) (sym h.0) e)
      (λ q. vars_behind m vars more types others h.2 k x a q)
    where
      go : (b' : Bool) (o : Option Value) → (if b' then Some b else look (types ++ others) x) ≡ Some a
          → (look (types ++ others) x ≡ Some a → (c : Value) × (o ≡ Some c) × HasShape defs m c (here a)) → (c : Value) × ((if b' then Some v else o) ≡ Some c) × HasShape defs m c (here a)
      go true o q later = (v, refl, subst (λ w. HasShape defs m v (here w)) (same_some b a q) h.1)
      go false o q later = later q

  pub vars_append : (m : List Block) (vars more : Variables) (types others : Vars) → VarsTyped m vars types → VarsTyped m more others → VarsTyped m (vars ++ more) (types ++ others)
  vars_append m [] more [] others h k = k
  vars_append m (x ∷ vars) more [] others h k = absurd h
  vars_append m [] more (z ∷ types) others h k = absurd h
  vars_append m ((x, y) ∷ vars) more ((z, a) ∷ types) others h k = (h.0, h.1, vars_append m vars more types others h.2 k)

  pub ready_with : (g : Scope) (k : ℕ) (slots : List Slot) (m : List Block) (env : Env) (vars : Variables) (types : Vars) → VarsTyped m vars types → Ready g k slots m env
      → Ready (typing.with_vars types g) k slots m (with_vars vars env)
  ready_with g k slots m env vars types h r =
      record { tvars = r.tvars; targs = r.targs; vars = vars_behind m vars env.vars types g.vars h r.vars; frame = r.frame }

  -- ---- slots

  pub owns_left : (m : List Block) (n : ℕ) (slots more : List Slot) → Owns m n (slots ++ more) → Owns m n slots
  owns_left m n [] more h = tt
  owns_left m n (s ∷ slots) more h = (h.0, owns_left m (suc n) slots more h.1)

  pub owns_right : (m : List Block) (n : ℕ) (slots more : List Slot) → Owns m n (slots ++ more) → Owns m (n + length slots) more
  owns_right m n [] more h = let e : n + 0 ≡ n = omega arith in subst (λ z. Owns m z more) (sym e) h
  owns_right m n (s ∷ slots) more h =
      let e : suc n + length slots ≡ n + suc (length slots) = omega arith in
      subst (λ z. Owns m z more) e (owns_right m (suc n) slots more h.1)

  pub owns_at : (m : List Block) (n : ℕ) (slots : List Slot) (k : ℕ) (s : Slot) → Owns m n slots → slice_get slots k ≡ Some s → Open m (n + k) (here (erased s.ty)) s.len
  owns_at m n [] k s h e = absurd (no_some s e)
  owns_at m n (r ∷ slots) zero s h e =
      let same : r ≡ s = same_some r s e in
      let z : n + 0 ≡ n = omega arith in
      subst (λ w. Open m w (here (erased s.ty)) s.len) (sym z) (subst (λ (w : Slot). Open m n (here (erased w.ty)) w.len) same h.0)
  owns_at m n (r ∷ slots) (suc k) s h e =
      let z : suc n + k ≡ n + suc k = omega arith in
      subst (λ w. Open m w (here (erased s.ty)) s.len) z (owns_at m (suc n) slots k s h.1 e)

  holds_left : (m : List Block) (base k : ℕ) (slots more : List Slot) (o : Option (List Slot)) → Holds m base k (slots ++ more) o → Holds m base k slots o
  holds_left m base k slots more None h = tt
  holds_left m base k slots more (Some listed) h = (h.0, owns_left m (base + k) slots more h.1)

  holds_right : (m : List Block) (base k : ℕ) (slots more : List Slot) (o : Option (List Slot)) → Holds m base k (slots ++ more) o → Holds m base (k + length slots) more o
  holds_right m base k slots more None h = tt
  holds_right m base k slots more (Some listed) h =
      let e : (base + k) + length slots ≡ base + (k + length slots) = omega arith in
      (h.0, subst (λ z. Owns m z more) e (owns_right m (base + k) slots more h.1))

  -- what stands first in an expression, and what stands behind it
  pub ready_left : (g : Scope) (k : ℕ) (slots more : List Slot) (m : List Block) (env : Env) → Ready g k (slots ++ more) m env → Ready g k slots m env
  ready_left g k slots more m env r = record { tvars = r.tvars; targs = r.targs; vars = r.vars; frame = holds_left m env.base k slots more g.frame r.frame }

  pub ready_right : (g : Scope) (k : ℕ) (slots more : List Slot) (m : List Block) (env : Env) → Ready g k (slots ++ more) m env → Ready g (k + length slots) more m env
  ready_right g k slots more m env r = record { tvars = r.tvars; targs = r.targs; vars = r.vars; frame = holds_right m env.base k slots more g.frame r.frame }

  holds_next : (m : List Block) (base k : ℕ) (s : Slot) (more : List Slot) (o : Option (List Slot)) → Holds m base k (s ∷ more) o → Holds m base (suc k) more o
  holds_next m base k s more None h = tt
  holds_next m base k s more (Some listed) h =
      let e : suc (base + k) ≡ base + suc k = omega arith in
      (h.0, subst (λ z. Owns m z more) e h.1.1)

  -- what stands in an `alloc`
  pub ready_next : (g : Scope) (k : ℕ) (s : Slot) (more : List Slot) (m : List Block) (env : Env) → Ready g k (s ∷ more) m env → Ready g (suc k) more m env
  ready_next g k s more m env r = record { tvars = r.tvars; targs = r.targs; vars = r.vars; frame = holds_next m env.base k s more g.frame r.frame }

  -- the block of its slot
  pub ready_first : (g : Scope) (k : ℕ) (s : Slot) (more listed : List Slot) (m : List Block) (env : Env) → g.frame ≡ Some listed → Ready g k (s ∷ more) m env
      → Open m (env.base + k) (here (erased s.ty)) s.len
  ready_first g k s more listed m env e r =
      let h : Holds m env.base k (s ∷ more) (Some listed) = subst (Holds m env.base k (s ∷ more)) e r.frame in
      h.1.0

  -- the block of a slot that is listed
  pub ready_listed : (g : Scope) (k : ℕ) (slots listed : List Slot) (j : ℕ) (s : Slot) (m : List Block) (env : Env) → g.frame ≡ Some listed → slice_get listed j ≡ Some s
      → Ready g k slots m env → Open m (env.base + j) (here (erased s.ty)) s.len
  ready_listed g k slots listed j s m env e s_is r =
      let h : Holds m env.base k slots (Some listed) = subst (Holds m env.base k slots) e r.frame in
      owns_at m env.base listed j s h.0 s_is

  -- in a loop
  pub ready_loop : (g : Scope) (k : ℕ) (slots : List Slot) (m : List Block) (env : Env) → Ready g k slots m env → Ready (typing.in_loop g) k slots m env
  ready_loop g k slots m env r = record { tvars = r.tvars; targs = r.targs; vars = r.vars; frame = tt }

  -- ---- a frame's begin

  fresh_owns : (env : Env) → env.tvars ≡ at.tvars → env.targs ≡ at.targs → (m : List Block) (slots : List Slot) (l : List Block)
      → Owns (m ++ (map fresh (map (closed_slot env) slots) ++ l)) (length m) slots
  fresh_owns env tv ta m [] l = tt
  fresh_owns env tv ta m (s ∷ slots) l =
      let b : Block = fresh (closed_slot env s) in
      let rest : List Block = map fresh (map (closed_slot env) slots) ++ l in
      let z : length m + 0 ≡ length m = omega arith in
      let there : slice_get (m ++ b ∷ rest) (length m) ≡ Some b = ap (slice_get (m ++ b ∷ rest)) (sym z) ∙ get_right m (b ∷ rest) 0 in
      let more : Owns ((m ++ b ∷ []) ++ rest) (length (m ++ b ∷ [])) slots = fresh_owns env tv ta (m ++ b ∷ []) slots l in
      let one_more : length (m ++ b ∷ []) ≡ suc (length m) = added m b in (
        record {
          block = b;
          there = there;
          elem = ap (λ vs. erased (type_at vs env.targs s.ty)) tv ∙ ap (λ types. erased (type_at at.tvars types s.ty)) ta ∙ erased_at at.tvars at.targs s.ty;
          size = refl;
          live = refl;
        },
        subst (λ n. Owns (m ++ b ∷ rest) n slots) one_more (subst (λ z. Owns z (length (m ++ b ∷ [])) slots) (append_assoc m (b ∷ []) rest) more),
      )
    where
      added : (m : List Block) (b : Block) → length (m ++ b ∷ []) ≡ suc (length m)
      added [] b = refl
      added (c ∷ m) b = ap suc (added m b)

  pub push_owns : (env : Env) → env.tvars ≡ at.tvars → env.targs ≡ at.targs → (m : List Block) (slots : List Slot)
      → Owns (m ++ map fresh (map (closed_slot env) slots)) (length m) slots
  push_owns env tv ta m slots = subst (λ z. Owns (m ++ z) (length m) slots) (none (map fresh (map (closed_slot env) slots))) (fresh_owns env tv ta m slots [])
    where
      none : (l : List Block) → l ++ [] ≡ l
      none [] = refl
      none (b ∷ l) = ap (λ z. b ∷ z) (none l)

  -- where a frame has begun
  pub ready_inside : (g : Scope) (k : ℕ) (slots own : List Slot) (m : List Block) (env : Env) → Ready g k [] (m ++ map fresh (map (closed_slot env) (slots ++ own))) env
      → Ready (typing.in_frame slots g) (length slots) own (m ++ map fresh (map (closed_slot env) (slots ++ own))) (record env { base = length m })
  ready_inside g k slots own m env r =
      let now : List Block = m ++ map fresh (map (closed_slot env) (slots ++ own)) in
      let all : Owns now (length m) (slots ++ own) = push_owns env r.tvars r.targs m (slots ++ own) in
      record { tvars = r.tvars; targs = r.targs; vars = r.vars; frame = (owns_left now (length m) slots own all, owns_right now (length m) slots own all) }
