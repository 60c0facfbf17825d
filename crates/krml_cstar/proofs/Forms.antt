-- Parts of expressions in order, values of the source by their shapes, and the forms without parts.
use Rattle.std.proofs.Common.{◌≡◌, ℕ, ◌<◌, ◌≤◌, ◌^◌, Bool, true, false, if◌then◌else◌, List, [], ◌∷◌, ◌++◌, Option, Some, None, refl, sym, ap, ◌∙◌, subst, arith}
use Rattle.std.specs.Str.{bytes_eq}
use Rattle.krml_trace.specs.declared.width.Width.{Width}
use Rattle.krml_trace.specs.Width.{bits, same_width}
use Rattle.krml_trace.specs.Run.{Goes, bind}
use Rattle.krml_trace.specs.After.{After}
use Rattle.krml_trace.proofs.Simulates.{goes, sim_bind_after, sim_more_after}
use Rattle.krml_syntax.specs.declared.tree.Ty.{Ty}
use Rattle.krml_syntax.specs.declared.tree.Ty.TheVariants as t
use Rattle.krml_syntax.specs.declared.tree.Ty.TheOpen.{Ty-F}
use Rattle.krml_syntax.specs.declared.tree.Def.{Def}
use Rattle.krml_syntax.specs.Types.{erased, is_unit_in}
use Rattle.krml_ast.specs.Typing.{Vars, look}
use Rattle.krml_meaning.specs.declared.value.Value.{Value, out-Value}
use Rattle.krml_meaning.specs.declared.value.Value.TheVariants as v
use Rattle.krml_meaning.specs.declared.value.Value.TheOpen.{Value-F}
use Rattle.krml_meaning.specs.declared.value.Value.TheFolds.{fold_out-Value}
use Rattle.krml_meaning.specs.State.{Block, SourceState, SourceRan, Variables, Env, Sem, as_number, as_truth, number_in, truth_in}
use Rattle.krml_meaning.specs.Meaning as src
use Rattle.krml_meaning.specs.Shape.{number_ty, HasShape, MemoryTyped, Extends}
use Rattle.krml_meaning.specs.Sound.{Fine}
use Rattle.krml_meaning.proofs.Lists.{same_some, no_some}
use Rattle.krml_meaning.proofs.Shapes.{same_width_is, ShapeIn, shape_in}
use Rattle.krml_meaning.proofs.Scopes.{ready_on}
use Rattle.krml_meaning.proofs.Forms.{Sound, just_sound, var_sound}
use Rattle.krml_ctree.specs.declared.value.CValue.{CValue}
use Rattle.krml_ctree.specs.declared.value.CValue.TheVariants as cv
use Rattle.krml_ctree.specs.declared.tree.CExpr.{CExpr}
use Rattle.krml_ctree.specs.declared.tree.CExpr.TheVariants as c
use Rattle.krml_ctree.specs.declared.tree.CVar.{CVar}
use Rattle.krml_ctree.specs.declared.tree.CStatement.{CStatement}
use Rattle.krml_ctree.specs.declared.tree.CStatement.TheVariants as st
use Rattle.krml_ctree.specs.declared.tree.CProgram.{CProgram}
use Rattle.krml_ctree.specs.Parts.{Local, Locals, CState, CRan, is_known, has_type, the_only, local_of, set}
use Rattle.krml_ctree.specs.Meaning as tgt
use Rattle.krml_ctree.proofs.Forms as forms
use Rattle.krml_cstar.specs.Variables as variables
use Rattle.krml_cstar.specs.Translation as code
use Rattle.krml_cstar.specs.Types.{is_unit}
use Rattle.krml_cstar.specs.Variables.{Known, KnownVars}
use Rattle.krml_cstar.specs.Translation.{Comp, gives, does}
use Rattle.krml_cstar.proofs.Images.{level_image, image_at, the_image, state_image, Sim}
use Rattle.krml_cstar.proofs.Part.{erased_built, type_at_built}
use Rattle.krml_cstar.proofs.VariableNames.{number_of}
use Rattle.krml_cstar.proofs.LocalsInC.{all_named, Keeps, Below, keeps_all, keeps_then, keeps_value}
use Rattle.krml_cstar.proofs.PartTypes.{unit_part}
use Rattle.krml_cstar.proofs.Fits.{IsPart, AreParts, Named, Holds, no_vars, In, Scoped, Stands, Good, Fits}

-- ---- expressions of C that hold

pub holds_on : (p : CProgram) (n m : ℕ) (e : CExpr) (a b : Locals) (u : CValue) → n ≤ m → Keeps n a b → Holds p n e a u → Holds p m e b u
holds_on p n m e a b u le k h = record { later = λ late q. h.later late (keeps_then n m a b late le k q) }

pub holds_now : (p : CProgram) (n : ℕ) (e : CExpr) (a : Locals) (u : CValue) → Holds p n e a u → tgt.value_of p e [] a ≡ Some u
holds_now p n e a u h = h.later a (keeps_all n a)

-- a variable below n holds its value
pub var_holds : (p : CProgram) (n : ℕ) (y : List ℕ) (now : Locals) (u : CValue) → number_of y < n → tgt.var y [] now ≡ Some u → Holds p n (c.Var y) now u
var_holds p n y now u lt e = record { later = λ late q. forms.var_is p y [] late ∙ keeps_value n now late y u q lt e }

-- ---- values that are not unit

pub unit_clash : {A : Type 0} (a : Ty) → is_unit a ≡ true → is_unit a ≡ false → A
unit_clash a e q = absurd (off (sym e ∙ q))
  where
    off : true ≡ false → ⊥
    off e = cc

pub unit_is : is_unit t.Unit ≡ true
unit_is = ap is_unit_in t.outs-Unit

pub bool_value : is_unit t.Bool ≡ false
bool_value = ap is_unit_in t.outs-Bool

pub number_value : (w : Width) → is_unit (number_ty w) ≡ false
number_value w = ap is_unit_in (t.outs-Int (record { width = w; secret = false }))

-- ---- what later code keeps

module _ (defs : List Def) where
  pub scoped_on : (n m : ℕ) (vars : Variables) (names : KnownVars) (a b : Locals) → n ≤ m → Keeps n a b → Scoped defs n vars names a → Scoped defs m vars names b
  scoped_on n m vars names a b le q h x k e =
      let c = h x k e in
      let lt = c.below in
      record { found = c.found; is = c.is; below = omega (arith, lt, le); value = keeps_value n a b k.emitted _ q c.below c.value }

  pub stands_on : (vars : Vars) (names : KnownVars) (n m : ℕ) (a b : Locals) (env : Env) (s now : SourceState) → Stands defs vars names n a env s → n ≤ m → Keeps n a b → Below m b
      → Extends s.memory now.memory → MemoryTyped defs now.memory → Stands defs vars names m b env now
  stands_on vars names n m a b env s now h le k be p hm = record {
    ready = ready_on defs (no_vars defs) (record { vars = vars; frame = None }) 0 [] s.memory now.memory env p h.ready;
    memory = hm;
    named = h.named;
    scoped = scoped_on n m env.vars names a b le k h.scoped;
    below = be;
  }

  -- ---- values of the source by their shapes

  pub image_number : (w : Width) (n : ℕ) (x : Value) (a : Ty) → out-Value x ≡ Value-F.Num w n → image_at defs x a ≡ cv.Num w n
  image_number w n x a e = rw (fold_out-Value (Ty → CValue) (level_image defs) x, e) refl

  pub image_truth : (b : Bool) (x : Value) (a : Ty) → out-Value x ≡ Value-F.Bool b → image_at defs x a ≡ cv.Num Width.W8 (if b then 1 else 0)
  image_truth b x a e = rw (fold_out-Value (Ty → CValue) (level_image defs) x, e) refl

  module _ {A A' : Type 0} (Q : A → A' → Type 0) (m : List Block) (s : SourceState) (r' : CRan A') where
    number_at : (w : Width) (o : Value-F Value) (next : ℕ → SourceRan A) → ShapeIn defs m o (Ty-F.Int (record { width = w; secret = false }))
        → ((n : ℕ) → n < 2 ^ bits w → o ≡ Value-F.Num w n → Sim defs Q (next n) r') → Sim defs Q (number_in w o s next) r'
    number_at w (Value-F.Num u n) next h k =
        let same : same_width w u ≡ true = ap (same_width w) (sym h.0) ∙ same_width_is w in
        rw same (k n (subst (λ z. n < 2 ^ bits z) (sym h.0) h.1) (ap (λ z. Value-F.Num z n) (sym h.0)))
    number_at w Value-F.Unit next h k = absurd h
    number_at w (Value-F.Bool b) next h k = absurd h
    number_at w (Value-F.Struct names xs) next h k = absurd h
    number_at w (Value-F.Con i xs) next h k = absurd h
    number_at w (Value-F.Buf n off len) next h k = absurd h

    -- a number of a type, and its image
    pub sim_number : (w : Width) (x : Value) (next : ℕ → SourceRan A) → HasShape defs m x (number_ty w)
        → ((n : ℕ) → n < 2 ^ bits w → image_at defs x (number_ty w) ≡ cv.Num w n → Sim defs Q (next n) r') → Sim defs Q (as_number w x s next) r'
    sim_number w x next h k = number_at w (out-Value x) next (subst (ShapeIn defs m (out-Value x)) (t.outs-Int (record { width = w; secret = false })) (shape_in defs m x (number_ty w) h))
        (λ n lt e. k n lt (image_number w n x (number_ty w) e))

    truth_at : (o : Value-F Value) (next : Bool → SourceRan A) → ShapeIn defs m o Ty-F.Bool → ((b : Bool) → o ≡ Value-F.Bool b → Sim defs Q (next b) r') → Sim defs Q (truth_in o s next) r'
    truth_at (Value-F.Bool b) next h k = k b refl
    truth_at (Value-F.Num w n) next h k = absurd h
    truth_at Value-F.Unit next h k = absurd h
    truth_at (Value-F.Struct names xs) next h k = absurd h
    truth_at (Value-F.Con i xs) next h k = absurd h
    truth_at (Value-F.Buf n off len) next h k = absurd h

    -- a truth value, and its image
    pub sim_truth : (x : Value) (next : Bool → SourceRan A) → HasShape defs m x t.Bool
        → ((b : Bool) → image_at defs x t.Bool ≡ cv.Num Width.W8 (if b then 1 else 0) → Sim defs Q (next b) r') → Sim defs Q (as_truth x s next) r'
    sim_truth x next h k = truth_at (out-Value x) next (subst (ShapeIn defs m (out-Value x)) t.outs-Bool (shape_in defs m x t.Bool h)) (λ b e. k b (image_truth b x t.Bool e))

  module _ (p : CProgram) (calls : tgt.Calls) where
    abbrev pub exec : List CStatement → tgt.Step
    exec = tgt.exec p calls

    -- ---- code in two parts

    -- each does one part of the source
    pub in_turn : {A A' : Type 0} (P : A → SourceState → Type 0) (R : A → Locals → Type 0) (Q : A' → Locals → Type 0) (a b : List CStatement) (now : Locals) (t : CState)
        (r : SourceRan A) (go : A → SourceState → SourceRan A') → After P r → Sim defs R r (exec a now t)
        → ((x : A) (now : Locals) (s : SourceState) → P x s → R x now → Sim defs Q (go x s) (exec b now (state_image defs s))) → Sim defs Q (bind r go) (exec (a ++ b) now t)
    in_turn P R Q a b now t r go h k f = rw (forms.exec_append p calls a b now t) (sim_bind_after (the_image defs) P R Q r (exec a now t) go (λ now s. exec b now s) h k f)

    -- the first does all that the source does
    pub and_then : {A : Type 0} (P : A → SourceState → Type 0) (R Q : A → Locals → Type 0) (a b : List CStatement) (now : Locals) (t : CState) (r : SourceRan A)
        → After P r → Sim defs R r (exec a now t)
        → ((x : A) (now : Locals) (s : SourceState) → P x s → R x now → Sim defs Q (Goes x s) (exec b now (state_image defs s))) → Sim defs Q r (exec (a ++ b) now t)
    and_then P R Q a b now t r h k f = rw (forms.exec_append p calls a b now t) (sim_more_after (the_image defs) P R Q r (exec a now t) (λ now s. exec b now s) h k f)

    -- ---- a declaration

    -- a variable with its value
    abbrev pub made : CVar → CValue → Local
    made x u = record { name = x.name; ty = x.ty; value = Some u; array = false }

    pub decl_then : (x : CVar) (e : CExpr) (u : CValue) (rest : List CStatement) (now : Locals) (s : SourceState) → is_known p x.ty ≡ true
        → tgt.value_of p e [] (tgt.blank_local x ∷ now) ≡ Some u → has_type [] u x.ty ≡ true → exec (st.Decl x e ∷ rest) now (state_image defs s) ≡ exec rest (made x u ∷ now) (state_image defs s)
    decl_then x e u rest now s known is has = rw (forms.decl_is p calls x e, known, is, has) refl

    -- a variable without a value
    pub blank_then : (x : CVar) (rest : List CStatement) (now : Locals) (s : SourceState) → is_known p x.ty ≡ true
        → exec (st.Blank x ∷ rest) now (state_image defs s) ≡ exec rest (tgt.blank_local x ∷ now) (state_image defs s)
    blank_then x rest now s known = rw (forms.blank_is p calls x, known) refl

    -- a variable that takes another value
    pub set_then : (y : List ℕ) (e : CExpr) (u : CValue) (l : Local) (rest : List CStatement) (now : Locals) (s : SourceState) → tgt.value_of p e [] now ≡ Some u
        → all_named y now ≡ l ∷ [] → l.array ≡ false → has_type [] u l.ty ≡ true → exec (st.Set y e ∷ rest) now (state_image defs s) ≡ exec rest (set y u now) (state_image defs s)
    set_then y e u l rest now s is there no_array has =
        let here : local_of now y ≡ Some l = ap the_only there in
        rw (forms.set_is p calls y e, is, here, no_array, has) refl

    -- ---- an expression and what follows

    module _ (vars : Vars) (a : Ty) (ev : Sem) (co : Comp) (h : Fits defs p calls vars a ev co) (env : Env) (names : KnownVars) (n : ℕ) (now : Locals) (s : SourceState)
        (small : (co.run names n).next ≤ 2 ^ 64) (here : Stands defs vars names n now env s) where
      -- what is known then
      pub record Then (x : Value) (late : Locals) (s1 : SourceState) : Type 0 where
        pub fine : Fine defs s.memory a x s1
        pub good : Good defs p calls n now (co.run names n).value (co.run names n).next a x late
        pub stands : Stands defs vars names (co.run names n).next late env s1

      stands_then : (x : Value) (late : Locals) (s1 : SourceState) → Fine defs s.memory a x s1 → Good defs p calls n now (co.run names n).value (co.run names n).next a x late → Then x late s1
      stands_then x late s1 f g = record {
        fine = f;
        good = g;
        stands = stands_on vars names n (co.run names n).next now late env s s1 here (h.grows names n) g.keeps g.below f.extends f.memory;
      }

      -- both go on
      pub part_then : {A : Type 0} (Q : A → Locals → Type 0) (b : List CStatement) (go : Value → SourceState → SourceRan A)
          → ((x : Value) (late : Locals) (s1 : SourceState) → Then x late s1 → Sim defs Q (go x s1) (exec b late (state_image defs s1)))
          → Sim defs Q (bind (ev env s) go) (exec ((co.run names n).code ++ b) now (state_image defs s))
      part_then Q b go k = in_turn (Fine defs s.memory a) (Good defs p calls n now (co.run names n).value (co.run names n).next a) Q (co.run names n).code b now (state_image defs s) (ev env s) go
          (h.sound.run env s here.ready here.memory) (h.sim env names n now s small here) (λ x late s1 f g. k x late s1 (stands_then x late s1 f g))

      -- only C goes on
      pub part_more : (Q : Value → Locals → Type 0) (b : List CStatement)
          → ((x : Value) (late : Locals) (s1 : SourceState) → Then x late s1 → Sim defs Q (Goes x s1) (exec b late (state_image defs s1)))
          → Sim defs Q (ev env s) (exec ((co.run names n).code ++ b) now (state_image defs s))
      part_more Q b k = and_then (Fine defs s.memory a) (Good defs p calls n now (co.run names n).value (co.run names n).next a) Q (co.run names n).code b now (state_image defs s) (ev env s)
          (h.sound.run env s here.ready here.memory) (h.sim env names n now s small here) (λ x late s1 f g. k x late s1 (stands_then x late s1 f g))

    -- ---- forms without parts

    abbrev pub on_in : (vars : Vars) (m now : List Block) (env : Env) → Extends m now → In defs vars m env → In defs vars now env
    on_in vars m now env q r = ready_on defs (no_vars defs) (record { vars = vars; frame = None }) 0 [] m now env q r

    pub unit_fits : (vars : Vars) → Fits defs p calls vars t.Unit (src.just v.Unit) (does (code.value t.Unit code.nothing))
    unit_fits vars = record {
      sound = just_sound defs (In defs vars) (on_in vars) v.Unit t.Unit (λ m. HasShape.unit);
      part = unit_part p;
      unit = sym unit_is;
      grows = λ names n. omega arith;
      typed = λ names n nm. refl;
      sim = λ env names n now s small here. goes (the_image defs) (Good defs p calls n now code.nothing n t.Unit) v.Unit now s
          (record { keeps = keeps_all n now; below = here.below; holds = λ e. unit_clash t.Unit unit_is e });
    }

    -- a value that is written
    pub just_fits : (vars : Vars) (x : Value) (a b : Ty) (e : CExpr) → ((m : List Block) → HasShape defs m x a) → IsPart p a → is_unit a ≡ false → b ≡ a
        → ((now : Locals) → tgt.value_of p e [] now ≡ Some (image_at defs x a)) → Fits defs p calls vars a (src.just x) (gives (code.value b e))
    just_fits vars x a b e shape part nu same is = record {
      sound = just_sound defs (In defs vars) (on_in vars) x a shape;
      part = part;
      unit = sym nu;
      grows = λ names n. omega arith;
      typed = λ names n nm. same;
      sim = λ env names n now s small here. goes (the_image defs) (Good defs p calls n now e n a) x now s
          (record { keeps = keeps_all n now; below = here.below; holds = λ q. record { later = λ late k. is late } });
    }

    -- ---- variables

    part_at : (vars : Vars) (x : List ℕ) (a : Ty) → AreParts p vars → look vars x ≡ Some a → IsPart p a × (is_unit a ≡ false)
    part_at [] x a h e = absurd (no_some a e)
    part_at ((y, b) ∷ vars) x a h e = at (bytes_eq y x) e (part_at vars x a h.1)
      where
        at : (same : Bool) → (if same then Some b else look vars x) ≡ Some a → (look vars x ≡ Some a → IsPart p a × (is_unit a ≡ false)) → IsPart p a × (is_unit a ≡ false)
        at true q later = subst (λ z. IsPart p z × (is_unit z ≡ false)) (same_some b a q) h.0
        at false q later = later q

    named_at : (vars : Vars) (names : KnownVars) (x : List ℕ) (a : Ty) → Named vars names → look vars x ≡ Some a → (k : Known) × (variables.look names x ≡ Some k) × (k.ty ≡ a)
    named_at [] names x a h e = absurd (no_some a e)
    named_at ((y, b) ∷ vars) [] x a h e = absurd h
    named_at ((y, b) ∷ vars) (k ∷ names) x a h e =
        at (bytes_eq k.name x) (variables.look names x) (subst (λ z. (if bytes_eq z x then Some b else look vars x) ≡ Some a) h.0.name e) (named_at vars names x a h.1)
      where
        at : (same : Bool) (o : Option Known) → (if same then Some b else look vars x) ≡ Some a → (look vars x ≡ Some a → (k : Known) × (o ≡ Some k) × (k.ty ≡ a))
            → (z : Known) × ((if same then Some k else o) ≡ Some z) × (z.ty ≡ a)
        at true o q later = (k, refl, h.0.ty ∙ same_some b a q)
        at false o q later = later q

    pub var_fits : (vars : Vars) (x : List ℕ) (a : Ty) → AreParts p vars → look vars x ≡ Some a → Fits defs p calls vars a (src.var x) (gives (λ names n. code.variable (variables.look names x) names n))
    var_fits vars x a parts e = record {
      sound = subst (λ z. Sound defs (In defs vars) z (src.var x)) (type_at_built [] [] a (part_at vars x a parts e).0.built)
          (var_sound defs (no_vars defs) (record { vars = vars; frame = None }) 0 [] x a e);
      part = (part_at vars x a parts e).0;
      unit = sym (part_at vars x a parts e).1;
      grows = λ names n. at (variables.look names x) names n;
      typed = λ names n nm. let k = named_at vars names x a nm e in rw k.1 k.2;
      sim = λ env names n now s small here.
          let k = named_at vars names x a here.named e in
          let w = here.scoped x k.0 k.1 in
          let same : erased k.0.ty ≡ a = ap erased k.2 ∙ erased_built a (part_at vars x a parts e).0.built in
          rw (w.is, k.1) (goes (the_image defs) (Good defs p calls n now (c.Var k.0.emitted) n a) w.found now s (record {
            keeps = keeps_all n now;
            below = here.below;
            holds = λ q. var_holds p n k.0.emitted now (image_at defs w.found a) w.below (w.value ∙ ap (λ z. Some (image_at defs w.found z)) same);
          }));
    }
      where
        at : (o : Option Known) (names : KnownVars) (n : ℕ) → n ≤ (code.variable o names n).next
        at None names n = omega arith
        at (Some k) names n = omega arith
