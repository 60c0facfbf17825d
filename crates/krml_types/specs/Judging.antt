-- What is judged by numbers of types, seen as types.
use Rattle.std.specs.Prelude.{◌≡◌, ℕ, suc, if◌then◌else◌, option_map, Bool, true, false, List, [], ◌∷◌, map, get_or, slice_get, Option, Some, None, Result, Ok, Err}
use Rattle.std.specs.List.{AllByRecursion}
use Rattle.std.specs.Str.{bytes_eq}
use Rattle.krml_syntax.specs.declared.tree.Ty.{Ty}
use Rattle.krml_syntax.specs.declared.tree.Ty.TheVariants as ty
use Rattle.krml_syntax.specs.declared.tree.Field.{Field}
use Rattle.krml_syntax.specs.declared.tree.Def.{Def}
use Rattle.krml_ast.specs.Components.{Found, found_at}
use Rattle.krml_ast.specs.Typing.{Vars, Scope}
use Rattle.krml_intern.specs.Table.{Table}
use Rattle.krml_intern.specs.Unlabelled.{IsErased}
use Rattle.krml_types.specs.declared.applied.Applied.{Applied}
use Rattle.krml_ast.specs.declared.component.Component.{Component}
use Rattle.krml_trace.specs.declared.missing.Missing.{Missing}
use Rattle.krml_trace.specs.declared.missing.Missing.TheVariants.{Absent, NoMemory}
use Rattle.krml_types.specs.Instances.{Instance, part_at}

-- ---- where an expression stands

-- The definitions of its file, the type variables of its definition, and its scope.
pub record Place : Type 0 where
  pub defs : List Def
  pub tvars : List (List ℕ)
  pub scope : Scope

abbrev pub in_scope : Place → Scope → Place
in_scope p g = record { defs = p.defs; tvars = p.tvars; scope = g }

-- A place, and the types that have numbers.
pub record Around : Type 0 where
  pub place : Place
  pub table : Table

abbrev pub nothing_yet : List Def → Around
nothing_yet defs = record { place = record { defs = defs; tvars = []; scope = record { vars = []; frame = None } }; table = record { names = []; types = [] } }

-- variables with the types of their numbers
abbrev pub typed : Table → List (List ℕ × ℕ) → Vars
typed t vs = map (λ v. (v.0, get_or t.types v.1 ty.Unit)) vs

-- ---- numbers of types

-- A number is that of a type without labels.
pub record IsKnown (t : Table) (k : ℕ) : Type 0 where
  pub type : Ty
  pub is : IsErased t k type

-- A number is that of a name at type arguments without labels.
pub record IsAt (t : Table) (k : ℕ) : Type 0 where
  pub name : List ℕ
  pub args : List Ty
  pub is : IsErased t k (ty.Named name args)

-- what a function that may find no type gives: the number of just the type that its definition does, or no answer for want of memory
abbrev pub GivesNumber : Table → Result ℕ Missing → Option Ty → Type 0
GivesNumber t (Ok k) r = (a : Ty) × (r ≡ Some a) × IsErased t k a
GivesNumber t (Err Absent) r = r ≡ None
GivesNumber t (Err NoMemory) r = Unit {0}

-- the number of a type, where there is one
abbrev pub IsNumberOf : Table → Option ℕ → Option Ty → Type 0
IsNumberOf t (Some k) r = (a : Ty) × (r ≡ Some a) × IsErased t k a
IsNumberOf t None r = r ≡ None

abbrev pub is_none : {A : Type 0} → Option A → Bool
is_none None = true
is_none (Some a) = false

-- ---- components

-- The components of a kind, at the name and the type arguments of a number, are these types in order.
pub record AreParts (t : Table) (defs : List Def) (kind : Component) (k : ℕ) (types : List Ty) : Type 0 where
  pub name : List ℕ
  pub args : List Ty
  pub is : IsErased t k (ty.Named name args)
  pub each : (j : ℕ) → part_at defs kind name args j ≡ slice_get types j

-- what a struct, a constructor or a function takes and gives at type arguments
pub record AreApplied (t : Table) (defs : List Def) (at : Applied) (i : Instance) : Type 0 where
  pub takes : AreParts t defs at.kind at.takes i.takes
  pub gives : IsErased t at.gives i.gives

abbrev pub GivesApplied : Table → List Def → Result Applied Missing → Option Instance → Type 0
GivesApplied t defs (Ok at) r = (i : Instance) × (r ≡ Some i) × AreApplied t defs at i
GivesApplied t defs (Err Absent) r = r ≡ None
GivesApplied t defs (Err NoMemory) r = Unit {0}

-- the number at which a pattern's components are found
abbrev pub GivesParts : Table → List Def → Component → Result ℕ Missing → Option (List Ty) → Type 0
GivesParts t defs kind (Ok k) r = (types : List Ty) × (r ≡ Some types) × AreParts t defs kind k types
GivesParts t defs kind (Err Absent) r = r ≡ None
GivesParts t defs kind (Err NoMemory) r = Unit {0}

-- ---- what is kept

-- A component that was computed has the number of its type.
pub record IsFound (t : Table) (defs : List Def) (kind : Component) (k j n : ℕ) : Type 0 where
  pub name : List ℕ
  pub args : List Ty
  pub type : Ty
  pub is : IsErased t k (ty.Named name args)
  pub part : part_at defs kind name args j ≡ Some type
  pub found : IsErased t n type

-- Each variable has the number of a type, and each component that was computed the number of its own.
pub record IsJudge (defs : List Def) (t : Table) (components : Found) (vars : List (List ℕ × ℕ)) : Type 0 where
  pub scope : AllByRecursion (λ (v : List ℕ × ℕ). (a : Ty) × IsErased t v.1 a) vars
  pub found : (kind : Component) (k j n : ℕ) → found_at components kind k j ≡ Some n → IsFound t defs kind k j n

-- ---- patterns

-- a function that adds the variables of patterns to those in scope
abbrev pub Binds : Result (Unit {0}) Missing → Option Vars → Place → Place → Type 0
Binds (Ok u) r old new = (vars : Vars) × (r ≡ Some vars) × (new ≡ in_scope old (record { vars = vars; frame = old.scope.frame }))
Binds (Err Absent) r old new = r ≡ None
Binds (Err NoMemory) r old new = Unit {0}

-- ---- fields

-- the place of the first field of a name
abbrev pub place_in : List Field → List ℕ → Option ℕ
place_in [] x = None
place_in (f ∷ fields) x = if bytes_eq f.name x then Some 0 else option_map suc (place_in fields x)

-- ---- items

-- a function that goes into the scope behind items
abbrev pub Leads : Result (Unit {0}) Missing → Option Scope → Place → Place → Type 0
Leads (Ok u) r old new = (g : Scope) × (r ≡ Some g) × (new ≡ in_scope old g)
Leads (Err Absent) r old new = r ≡ None
Leads (Err NoMemory) r old new = Unit {0}
