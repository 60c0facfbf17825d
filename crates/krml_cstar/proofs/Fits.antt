-- What is said of the translation of an expression: it does what the expression does.
-- The statement is `Fits`, of a meaning and a translation, with no syntax in it. There is a lemma for each form, and the
-- recursion over what says that an expression has its type puts them together.
use Rattle.std.proofs.Common.{◌≡◌, ℕ, ◌<◌, ◌≤◌, ◌^◌, true, false, if◌then◌else◌, List, [], ◌∷◌, map, Option, Some, None, refl}
use Rattle.std.specs.List.{AllByRecursion}
use Rattle.krml_syntax.specs.declared.tree.Ty.{Ty}
use Rattle.krml_syntax.specs.declared.tree.Field.{Field}
use Rattle.krml_syntax.specs.declared.tree.Def.{Def}
use Rattle.krml_ast.specs.Names.{Signature, fun_named}
use Rattle.krml_syntax.specs.Types.{erased}
use Rattle.krml_ast.specs.IsType.{AreArguments}
use Rattle.krml_ast.specs.Typing.{Vars}
use Rattle.krml_meaning.specs.declared.value.Value.{Value}
use Rattle.krml_meaning.specs.State.{Block, SourceState, Variables, Env, Sem, value_of}
use Rattle.krml_meaning.specs.Meaning as src
use Rattle.krml_meaning.specs.Shape.{AllHaveShape, MemoryTyped}
use Rattle.krml_meaning.proofs.Scopes.{Instance, Ready}
use Rattle.krml_meaning.proofs.Forms.{Sound}
use Rattle.krml_ctree.specs.declared.value.CValue.{CValue}
use Rattle.krml_ctree.specs.declared.tree.CExpr.{CExpr}
use Rattle.krml_ctree.specs.declared.tree.CProgram.{CProgram}
use Rattle.krml_ctree.specs.Parts.{Locals, is_known}
use Rattle.krml_ctree.specs.Meaning as tgt
use Rattle.krml_cstar.specs.Built.{is_ty_built}
use Rattle.krml_cstar.specs.Types.{ctype, is_unit}
use Rattle.krml_cstar.specs.Variables.{Known, KnownVars, look}
use Rattle.krml_cstar.specs.Translation.{Comp, fun_code}
use Rattle.krml_cstar.proofs.Images.{image_at, images_at, state_image, Sim}
use Rattle.krml_cstar.proofs.VariableNames.{number_of}
use Rattle.krml_cstar.proofs.LocalsInC.{Keeps, Below}

-- A type of the part that is built: the program has the struct that it names, where it names one.
pub record IsPart (p : CProgram) (a : Ty) : Type 0 where
  pub built : is_ty_built a ≡ true
  pub known : is_known p (ctype a) ≡ true

-- Variables of values of such types.
abbrev pub AreParts : CProgram → Vars → Type 0
AreParts p vars = AllByRecursion (λ v. IsPart p v.1 × (is_unit v.1 ≡ false)) vars

-- A variable is known by its name and its type.
pub record IsKnown (x : List ℕ) (a : Ty) (k : Known) : Type 0 where
  pub name : x ≡ k.name
  pub ty : k.ty ≡ a

abbrev pub Named : Vars → KnownVars → Type 0
Named [] [] = Unit {0}
Named (v ∷ vars) (k ∷ names) = IsKnown v.0 v.1 k × Named vars names
Named [] (k ∷ names) = ⊥
Named (v ∷ vars) [] = ⊥

-- the types of parameters, without labels
abbrev pub param_types : List Field → List Ty
param_types params = map (λ f. erased f.ty) params

-- in C an expression has this value, now and after all that keeps the variables below n
pub record Holds (p : CProgram) (n : ℕ) (e : CExpr) (now : Locals) (u : CValue) : Type 0 where
  pub later : (late : Locals) → Keeps n now late → tgt.value_of p e [] late ≡ Some u

module _ (defs : List Def) where
  -- in the part that is built there are no type variables
  abbrev pub no_vars : Instance defs
  no_vars = record { tvars = []; targs = []; count = refl; typed = AreArguments.none }

  -- ready for an expression with these variables in scope
  abbrev pub In : Vars → List Block → Env → Type 0
  In vars m env = Ready defs no_vars (record { vars = vars; frame = None }) 0 [] m env

  -- A variable of the source has its value in the variable of C that it became, whose number is below n.
  pub record Carries (n : ℕ) (vars : Variables) (x : List ℕ) (k : Known) (now : Locals) : Type 0 where
    pub found : Value
    pub is : value_of vars x ≡ Some found
    pub below : number_of k.emitted < n
    pub value : tgt.var k.emitted [] now ≡ Some (image_at defs found (erased k.ty))

  -- The variables in scope, name by name. They do not stand side by side: of a function's parameters the source has the last
  -- one first, and the names and the types in scope have the first one first.
  abbrev pub Scoped : ℕ → Variables → KnownVars → Locals → Type 0
  Scoped n vars names now = (x : List ℕ) (k : Known) → look names x ≡ Some k → Carries n vars x k now

  -- Where the code of an expression begins, at the number n: in the source and in C.
  pub record Stands (vars : Vars) (names : KnownVars) (n : ℕ) (now : Locals) (env : Env) (s : SourceState) : Type 0 where
    pub ready : In vars s.memory env
    pub memory : MemoryTyped defs s.memory
    pub named : Named vars names
    pub scoped : Scoped n env.vars names now
    pub below : Below n now

  -- calls give the same, and nothing where the result is unit
  abbrev pub Gave : Ty → Value → Option CValue → Type 0
  Gave r x o = o ≡ (if is_unit r then None else Some (image_at defs x (erased r)))

  abbrev pub CallsFit : src.Calls → tgt.Calls → Type 0
  CallsFit calls ccalls = (x : List ℕ) (f : Signature) (fun : src.Function) (xs : List Value) (s : SourceState) → fun_named defs x ≡ Some f → src.function_named defs x ≡ Some fun
      → AllHaveShape defs s.memory xs (param_types f.params) → MemoryTyped defs s.memory
      → Sim defs (Gave f.result) (calls (record { name = x; types = []; values = xs }) s)
      (ccalls (record { fun = fun_code defs x f.params f.result fun.body; values = images_at defs xs (param_types f.params) }) (state_image defs s))

  module _ (p : CProgram) (ccalls : tgt.Calls) where
    -- After the code of an expression, which began at the number n and ends at m: what was before is kept, no variable has a
    -- number from m on, and where the expression gives something, its expression of C has the value.
    pub record Good (n : ℕ) (before : Locals) (e : CExpr) (m : ℕ) (a : Ty) (x : Value) (now : Locals) : Type 0 where
      pub keeps : Keeps n before now
      pub below : Below m now
      pub holds : is_unit a ≡ false → Holds p m e now (image_at defs x a)

    -- The code that a translation gives does what a meaning does, in all scopes that stand side by side, and for all numbers
    -- of variables that names tell apart.
    pub record Fits (vars : Vars) (a : Ty) (ev : Sem) (co : Comp) : Type 0 where
      pub sound : Sound defs (In vars) a ev
      pub part : IsPart p a
      pub unit : co.unit ≡ is_unit a
      pub grows : (names : KnownVars) (n : ℕ) → n ≤ (co.run names n).next
      pub typed : (names : KnownVars) (n : ℕ) → Named vars names → (co.run names n).ty ≡ a
      pub sim : (env : Env) (names : KnownVars) (n : ℕ) (now : Locals) (s : SourceState) → (co.run names n).next ≤ 2 ^ 64 → Stands vars names n now env s
          → Sim defs (Good n now (co.run names n).value (co.run names n).next a) (ev env s) (tgt.exec p ccalls (co.run names n).code now (state_image defs s))
