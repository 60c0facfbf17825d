-- Calls are sound, at every level.
use Rattle.std.proofs.Common.{◌≡◌, ℕ, Bool, true, false, if◌then◌else◌, List, [], ◌∷◌, map, Some, None, refl, sym, ap, ◌∙◌, subst}
use Rattle.std.specs.List.{AllByRecursion, IsDistinct}
use Rattle.std.specs.Str.{bytes_eq}
use Rattle.std.proofs.lemmas.Slice.Eq.{bytes_eq-Decides}
use Rattle.krml_trace.specs.declared.why.Why.TheVariants.{Undefined}
use Rattle.krml_syntax.specs.declared.tree.Ty.{Ty}
use Rattle.krml_syntax.specs.declared.tree.Field.{Field}
use Rattle.krml_syntax.specs.declared.tree.Def.{Def}
use Rattle.krml_ast.specs.Pieces.{pieces_of}
use Rattle.krml_ast.specs.Names.{Signature, fun_named}
use Rattle.krml_syntax.specs.Types.{erased}
use Rattle.krml_ast.specs.Typing.{Vars, Scope, look, fields_at, at}
use Rattle.krml_ast.specs.WellTyped.{names_of}
use Rattle.krml_meaning.specs.declared.value.Value.{Value}
use Rattle.krml_meaning.specs.State.{Block, Variables, SourceState, value_of}
use Rattle.krml_meaning.specs.Meaning as src
use Rattle.krml_meaning.specs.Meaning.{params_over, enter, env_of}
use Rattle.krml_meaning.specs.Shape.{HasShape, AllHaveShape, MemoryTyped}
use Rattle.krml_trace.specs.After.{After}
use Rattle.krml_meaning.specs.Sound.{Fine}
use Rattle.krml_meaning.proofs.Lists.{same_some, no_some}
use Rattle.krml_trace.proofs.After.{after_some}
use Rattle.krml_trace.proofs.Levels.{within_holds}
use Rattle.krml_meaning.proofs.Facts.{Facts}
use Rattle.krml_syntax.proofs.Types.{erased_at}
use Rattle.krml_meaning.proofs.Types.{name_same}
use Rattle.krml_meaning.proofs.Shapes.{shapes_in}
use Rattle.krml_meaning.proofs.Scopes.{Instance, here, VarsThere}
use Rattle.krml_meaning.proofs.Forms.{CallsSound}
use Rattle.krml_meaning.proofs.Runnable.{AllRun}
use Rattle.krml_meaning.proofs.Zeros.{PartZeros}
use Rattle.krml_meaning.proofs.Soundness.{sound}

-- the types of the parameters in the scope of a body
abbrev pub param_vars : List Field → Vars
param_vars params = map (λ p. (p.name, erased p.ty)) params

-- names that differ do so both ways
pub other_name : (x y : List ℕ) → bytes_eq x y ≡ false → bytes_eq y x ≡ false
other_name x y h = off (bytes_eq y x) (λ e. let back = (bytes_eq-Decides x y).1 (sym ((bytes_eq-Decides y x).0 e)) in absurd (cc))
  where
    off : (b : Bool) → (b ≡ true → ⊥) → b ≡ false
    off true k = absurd (k refl)
    off false k = refl

not_among : (params : List Field) (x : List ℕ) → AllByRecursion (λ y. bytes_eq x y ≡ false) (names_of params) → look (param_vars params) x ≡ None
not_among [] x h = refl
not_among (p ∷ params) x h = rw (other_name x p.name h.0) (not_among params x h.1)

module _ (defs : List Def) (at_args : Instance defs) (m : List Block) where
  -- arguments as the variables of a body, above others
  pub record Entered (params : List Field) (xs : List Value) (before : Variables) : Type 0 where
    pub vars : Variables
    pub is : params_over params xs before ≡ Some vars
    pub others : (x : List ℕ) → look (param_vars params) x ≡ None → value_of vars x ≡ value_of before x
    pub there : VarsThere defs at_args m vars (param_vars params)

  pub entered : (params : List Field) (xs : List Value) (before : Variables) → IsDistinct bytes_eq (names_of params)
      → AllHaveShape defs m xs (fields_at at_args.tvars at_args.targs params) → Entered params xs before
  unfolding IsDistinct
  entered [] [] before d h = record { vars = before; is = refl; others = λ x e. refl; there = λ x a e. absurd (no_some a e) }
  entered [] (y ∷ xs) before d h = absurd (shapes_in defs m (y ∷ xs) [] h)
  entered (p ∷ params) [] before d h = absurd (shapes_in defs m [] (fields_at at_args.tvars at_args.targs (p ∷ params)) h)
  entered (p ∷ params) (y ∷ xs) before d h =
      let both = shapes_in defs m (y ∷ xs) (fields_at at_args.tvars at_args.targs (p ∷ params)) h in
      let rest = entered params xs ((p.name, y) ∷ before) d.1 both.1 in
      let mine : value_of rest.vars p.name ≡ Some y = rest.others p.name (not_among params p.name d.0) ∙ first (bytes_eq p.name p.name) (name_same p.name) in
      let shape : HasShape defs m y (here defs at_args (erased p.ty)) = subst (HasShape defs m y) (erased_at at_args.tvars at_args.targs p.ty) both.0 in
      record {
        vars = rest.vars;
        is = rest.is;
        others = λ x e. not_mine rest.vars rest.others x (bytes_eq p.name x) refl e;
        there = λ x a e. found rest.vars rest.there mine shape x a (bytes_eq p.name x) refl e;
      }
    where
      first : (b : Bool) → b ≡ true → (if b then Some y else value_of before p.name) ≡ Some y
      first true e = refl
      first false e = absurd (cc)

      not_mine : (vars : Variables) → ((x : List ℕ) → look (param_vars params) x ≡ None → value_of vars x ≡ value_of ((p.name, y) ∷ before) x) → (x : List ℕ) (b : Bool)
          → bytes_eq p.name x ≡ b → (if b then Some (erased p.ty) else look (param_vars params) x) ≡ None → value_of vars x ≡ value_of before x
      not_mine vars k x true q e = absurd (cc)
      not_mine vars k x false q e = k x e ∙ ap (λ (c : Bool). if c then Some y else value_of before x) q

      found : (vars : Variables) → VarsThere defs at_args m vars (param_vars params) → value_of vars p.name ≡ Some y → HasShape defs m y (here defs at_args (erased p.ty))
          → (x : List ℕ) (a : Ty) (b : Bool) → bytes_eq p.name x ≡ b → (if b then Some (erased p.ty) else look (param_vars params) x) ≡ Some a
          → (z : Value) × (value_of vars x ≡ Some z) × HasShape defs m z (here defs at_args a)
      found vars k mine shape x a true q e =
          (y, ap (value_of vars) (sym ((bytes_eq-Decides p.name x).0 q)) ∙ mine, subst (λ w. HasShape defs m y (here defs at_args w)) (same_some (erased p.ty) a e) shape)
      found vars k mine shape x a false q e = k x a e

-- each form in each body can run, and there are the zero values that it takes
pub record BodiesRun (defs : List Def) (facts : Facts defs) : Type 0 where
  pub body : (x : List ℕ) (f : Signature) (e : fun_named defs x ≡ Some f) → AllRun defs (pieces_of (facts.function x f e).body.body)
  pub zeros : PartZeros defs

module _ (defs : List Def) (facts : Facts defs) (can : BodiesRun defs facts) where
  -- the run of a body on arguments
  pub body_sound : (calls : src.Calls) → CallsSound defs calls → (x : List ℕ) (f : Signature) (e : fun_named defs x ≡ Some f) (at_args : Instance defs) → at_args.tvars ≡ f.vars
      → (vars : Variables) (s : SourceState) → VarsThere defs at_args s.memory vars (param_vars f.params) → MemoryTyped defs s.memory
      → After (Fine defs s.memory (at f.vars at_args.targs f.result)) (src.eval defs calls (facts.function x f e).body.body (env_of (facts.function x f e).body at_args.targs vars) s)
  body_sound calls hk x f e at_args tv vars s there hm =
      let fun = facts.function x f e in
      let g : Scope = record { vars = param_vars f.params; frame = None } in
      let n = src.meaning defs calls fun.body.body in
      let same : here defs at_args (erased f.result) ≡ at f.vars at_args.targs f.result =
      sym (erased_at at_args.tvars at_args.targs f.result) ∙ ap (λ vs. at vs at_args.targs f.result) tv in
      let h = (sound defs facts at_args can.zeros calls hk f.vars tv g fun.body.body (erased f.result) fun.typed (can.body x f e)).from 0 in
      subst (λ a. After (Fine defs s.memory a) (n.from 0 (env_of fun.body at_args.targs vars) s)) same
      (h.run (env_of fun.body at_args.targs vars) s (record { tvars = fun.vars ∙ sym tv; targs = refl; vars = there; frame = tt }) hm)

  -- a body is sound where the calls in it are
  pub called_sound : (calls : src.Calls) → CallsSound defs calls → CallsSound defs (src.body_of defs calls)
  called_sound calls hk x f types xs s e n oks hs hm =
      let fun = facts.function x f e in
      let Q = Fine defs s.memory (at f.vars types f.result) in
      let at_args : Instance defs = record { tvars = f.vars; targs = types; count = n; typed = oks } in
      let into = entered defs at_args s.memory f.params xs [] fun.distinct hs in
      after_some Q Undefined (src.function_named defs x) fun.body s _ fun.is
      (after_some Q Undefined (params_over fun.body.params xs []) into.vars s _ (ap (λ ps. params_over ps xs []) fun.params ∙ into.is)
      (body_sound calls hk x f e at_args refl into.vars s into.there hm))

  -- by induction on the levels
  pub enter_sound : (levels : ℕ) → CallsSound defs (enter defs levels)
  enter_sound = within_holds (CallsSound defs) (src.body_of defs) (λ x f types xs s e n oks hs hm. tt) called_sound
