-- The forms of files between the passes.
-- Every file keeps `IsRegular`, and the names that its definitions give are of the shapes that its form allows.
use Rattle.std.specs.Prelude.{◌≡◌, ℕ, ◌<◌, ◌≤◌, ◌^◌, List, [], ◌∷◌, ◌++◌, map, length, codes, ◌⊎◌, Option, Some, None, if◌then◌else◌}
use Rattle.std.specs.List.{AllByRecursion, IsDistinct, flat_map}
use Rattle.std.specs.Str.{bytes_eq}
use Rattle.std.specs.Fmt.{decimal}
use Rattle.krml_trace.specs.First.{first}
use Rattle.krml_trace.specs.Limits.{max_elements}
use Rattle.krml_syntax.specs.declared.tree.IntTy.{IntTy}
use Rattle.krml_syntax.specs.declared.tree.Ty.{Ty, out-Ty}
use Rattle.krml_syntax.specs.declared.tree.Ty.TheOpen.{Ty-F}
use Rattle.krml_syntax.specs.declared.tree.CmpOp.TheVariants.{Eq}
use Rattle.krml_syntax.specs.declared.tree.Expr.{Expr, out-Expr}
use Rattle.krml_syntax.specs.declared.tree.Expr.TheVariants as e
use Rattle.krml_syntax.specs.declared.tree.Def.{Def}
use Rattle.krml_syntax.specs.declared.tree.Def.TheVariants as d
use Rattle.krml_syntax.specs.declared.tree.SourceFile.{SourceFile}
use Rattle.krml_syntax.specs.declared.tree.Slot.{Slot}
use Rattle.krml_syntax.specs.Shape.{Role, role, type_arguments}
use Rattle.krml_syntax.specs.File.{SpellsFile}
use Rattle.krml_syntax.specs.Name.{IsName}
use Rattle.krml_ast.specs.declared.file.Emitted.{Emitted}
use Rattle.krml_ast.specs.IsType.{IsFlat, IsType}
use Rattle.krml_ast.specs.WellTyped.{AreWellTyped, type_name, con_names, table_name, fun_name, entry_name}
use Rattle.krml_ast.specs.Leaves.{AreNarrow}
use Rattle.krml_ast.specs.Pieces.{Piece, Value, Test, Written, Bound, pieces_in}

-- the role of an expression
abbrev pub role_of : Expr → Role
role_of x = role (out-Expr x)

-- ---- what every file keeps

abbrev pub IsBetween : ℕ → ℕ → ℕ → Type 0
IsBetween least most n = (least ≤ n) × (n ≤ most)

-- a struct has a field or more, a sum 1 to 256 constructors, a table 1 to 65,536 numbers
abbrev pub HasSize : Def → Type 0
HasSize (d.Struct x vars fields) = 1 ≤ length fields
HasSize (d.Sum x vars cons) = IsBetween 1 256 (length cons)
HasSize (d.Table x i nums) = IsBetween 1 max_elements (length nums)
HasSize (d.Fun x vars params result body) = Unit {0}
HasSize (d.Entry x) = Unit {0}

-- a slot has 1 to 65,536 elements, of a flat type of the file without type variables
pub record IsSlot (defs : List Def) (s : Slot) : Type 0 where
  pub typed : IsType defs [] s.ty
  pub flat : IsFlat defs s.ty
  pub size : IsBetween 1 max_elements s.len

abbrev pub HasSlots : List Def → Role → Type 0
HasSlots defs (Role.frame slots) = AllByRecursion (IsSlot defs) slots
HasSlots defs _ = Unit {0}

abbrev pub SlotsIn : List Def → Piece → Type 0
SlotsIn defs (Value x) = HasSlots defs (role_of x)
SlotsIn defs _ = Unit {0}

-- The definitions are well typed, and their parts are as many as they may be.
pub record IsRegular (defs : List Def) : Type 0 where
  pub typed : AreWellTyped defs
  pub sizes : AllByRecursion HasSize defs
  pub slots : AllByRecursion (SlotsIn defs) (pieces_in defs)

-- ---- names

-- the instance of a number of what has a name: NAME'k. The number is one that `decimal` writes whole.
pub record IsInstanceName (x : List ℕ) : Type 0 where
  pub name : List ℕ
  pub k : ℕ
  pub small : k < 2 ^ 64
  pub named : IsName name
  pub is : x ≡ name ++ codes "'" ++ decimal k

-- a name of the source, or of an instance
abbrev pub IsSourceName : List ℕ → Type 0
IsSourceName x = IsName x ⊎ IsInstanceName x

-- a variable that a pass made: 'k
pub record IsFresh (x : List ℕ) : Type 0 where
  pub k : ℕ
  pub is : x ≡ codes "'" ++ decimal k

abbrev pub IsVariable : List ℕ → Type 0
IsVariable x = IsName x ⊎ IsFresh x

-- PREFIX_NAME
pub record IsPlainName (prefix x : List ℕ) : Type 0 where
  pub name : List ℕ
  pub named : IsName name
  pub is : x ≡ prefix ++ codes "_" ++ name

-- PREFIXk_NAME, for the instance of number k
pub record IsNumberedName (prefix x : List ℕ) : Type 0 where
  pub name : List ℕ
  pub k : ℕ
  pub small : k < 2 ^ 64
  pub named : IsName name
  pub is : x ≡ prefix ++ decimal k ++ codes "_" ++ name

abbrev pub field_names : Def → List (List ℕ)
field_names (d.Struct x vars fields) = map (λ f. f.name) fields
field_names _ = []

abbrev pub bound_name : Piece → List (List ℕ)
bound_name (Bound x) = x ∷ []
bound_name _ = []

-- The names that definitions give have these shapes, kind by kind; an entry's name is that of its function.
pub record AreNamed (Ty Con Table Fun Field Var : List ℕ → Type 0) (defs : List Def) : Type 0 where
  pub types : AllByRecursion Ty (flat_map type_name defs)
  pub cons : AllByRecursion Con (flat_map con_names defs)
  pub tables : AllByRecursion Table (flat_map table_name defs)
  pub funs : AllByRecursion Fun (flat_map fun_name defs)
  pub fields : AllByRecursion Field (flat_map field_names defs)
  pub vars : AllByRecursion Var (flat_map bound_name (pieces_in defs))

-- ---- what the passes take away, and what they bring

-- Neither type variables nor type arguments are listed by a definition, stand in a form, or in a type.
abbrev pub listed_vars : Def → List (List ℕ)
listed_vars (d.Struct x vars fields) = vars
listed_vars (d.Sum x vars cons) = vars
listed_vars (d.Fun x vars params result body) = vars
listed_vars _ = []

abbrev pub IsClosedTy : Ty-F Ty → Type 0
IsClosedTy (Ty-F.Var x) = ⊥
IsClosedTy (Ty-F.Named x args) = args ≡ []
IsClosedTy _ = Unit {0}

abbrev pub ClosedIn : Piece → Type 0
ClosedIn (Value x) = type_arguments (out-Expr x) ≡ []
ClosedIn (Test x) = type_arguments (out-Expr x) ≡ []
ClosedIn (Written a) = IsClosedTy (out-Ty a)
ClosedIn _ = Unit {0}

pub record IsMonomorphic (defs : List Def) : Type 0 where
  pub vars : flat_map listed_vars defs ≡ []
  pub pieces : AllByRecursion ClosedIn (pieces_in defs)

-- what a pass makes of a match
abbrev pub HasNoCases : Role → Type 0
HasNoCases Role.cases = ⊥
HasNoCases Role.tag_is = ⊥
HasNoCases Role.part = ⊥
HasNoCases _ = Unit {0}

abbrev pub HasNoMatch : Role → Type 0
HasNoMatch Role.match = ⊥
HasNoMatch _ = Unit {0}

-- frames have no slots yet
abbrev pub HasNoSlots : Role → Type 0
HasNoSlots (Role.frame slots) = slots ≡ []
HasNoSlots Role.fill = ⊥
HasNoSlots _ = Unit {0}

-- frames have their slots
abbrev pub HasNoAlloc : Role → Type 0
HasNoAlloc Role.alloc = ⊥
HasNoAlloc _ = Unit {0}

-- ---- tests of cases

-- a variable, or a part of a place
pub data IsPlace : Expr → Type 0 where
  var : (x : List ℕ) → IsPlace (e.Var x)
  get : (y : List ℕ) (a : Expr) → IsPlace a → IsPlace (e.Get y a)
  part : (x : List ℕ) (j : ℕ) (a : Expr) → IsPlace a → IsPlace (e.Part x j a)

-- the constructor of a place, a place equal to a literal, a place, or not a place
pub data IsTest : Expr → Type 0 where
  tag : (x : List ℕ) (a : Expr) → IsPlace a → IsTest (e.TagIs x a)
  literal : (i : IntTy) (n : ℕ) (a : Expr) → IsPlace a → IsTest (e.Cmp Eq i a (e.Num i n))
  place : (a : Expr) → IsPlace a → IsTest a
  opposite : (a : Expr) → IsPlace a → IsTest (e.Not a)

-- the constructor of a value is asked for in tests alone
abbrev pub HasNoTag : Role → Type 0
HasNoTag Role.tag_is = ⊥
HasNoTag _ = Unit {0}

abbrev pub TestsIn : Piece → Type 0
TestsIn (Value x) = HasNoTag (role_of x)
TestsIn (Test x) = IsTest x
TestsIn _ = Unit {0}

-- what holds of the role of each expression in a definition, tests of cases among them
abbrev pub RoleIn : (Role → Type 0) → Piece → Type 0
RoleIn P (Value x) = P (role_of x)
RoleIn P (Test x) = P (role_of x)
RoleIn P _ = Unit {0}

abbrev pub EachRole : (Role → Type 0) → List Def → Type 0
EachRole P defs = AllByRecursion (RoleIn P) (pieces_in defs)

-- ---- the forms

-- Some text within the limits spells the file.
pub record IsSpelled (file : SourceFile) : Type 0 where
  pub text : List ℕ
  pub spells : SpellsFile text file

-- It is spelled, and each definition is well typed.
pub record IsTypedFile (file : SourceFile) : Type 0 where
  pub spelled : IsSpelled file
  pub typed : AreWellTyped file.defs

-- A typed file whose rules are checked; there are none beyond types.
pub record IsChecked (file : SourceFile) : Type 0 where
  pub typed_file : IsTypedFile file

-- A file without type variables, as the source writes it else.
pub record IsMono (file : SourceFile) : Type 0 where
  pub regular : IsRegular file.defs
  pub named : AreNamed IsSourceName IsSourceName IsName IsSourceName IsName IsName file.defs
  pub monomorphic : IsMonomorphic file.defs
  pub cases : EachRole HasNoCases file.defs
  pub slots : EachRole HasNoSlots file.defs

-- A file without matches, in place of which cases stand. No type of it has more leaves than it may have.
pub record IsPlain (file : SourceFile) : Type 0 where
  pub regular : IsRegular file.defs
  pub named : AreNamed IsSourceName IsSourceName IsName IsSourceName IsName IsVariable file.defs
  pub monomorphic : IsMonomorphic file.defs
  pub matches : EachRole HasNoMatch file.defs
  pub tests : AllByRecursion TestsIn (pieces_in file.defs)
  pub slots : EachRole HasNoSlots file.defs
  pub narrow : AreNarrow file.defs

-- what a hoisted file and a bundled one have in common
pub record HasSlotsListed (defs : List Def) : Type 0 where
  pub regular : IsRegular defs
  pub monomorphic : IsMonomorphic defs
  pub matches : EachRole HasNoMatch defs
  pub tests : AllByRecursion TestsIn (pieces_in defs)
  pub allocs : EachRole HasNoAlloc defs
  pub narrow : AreNarrow defs

-- A file whose frames list their slots.
pub record IsHoisted (file : SourceFile) : Type 0 where
  pub listed : HasSlotsListed file.defs
  pub named : AreNamed IsSourceName IsSourceName IsName IsSourceName IsName IsVariable file.defs

-- the emitted name of an entry
abbrev pub emitted_here : List ℕ → Emitted → Option (List ℕ)
emitted_here x pair = if bytes_eq pair.entry x then Some pair.name else None

abbrev pub emitted_name : List Emitted → List ℕ → Option (List ℕ)
emitted_name names x = first (emitted_here x) names

-- a name as C has it
abbrev pub IsEmitted : (plain numbered : List ℕ) → List ℕ → Type 0
IsEmitted plain numbered x = IsPlainName plain x ⊎ IsNumberedName numbered x

-- A file with the names that C has, and what each entry was called.
pub record IsBundled (file : SourceFile) (names : List Emitted) : Type 0 where
  pub listed : HasSlotsListed file.defs
  pub named : AreNamed (IsEmitted (codes "s") (codes "s")) IsSourceName (IsPlainName (codes "t")) (IsEmitted (codes "f") (codes "g")) (IsPlainName (codes "m")) IsVariable file.defs
  pub emitted : map (λ x. x.name) names ≡ flat_map entry_name file.defs
  pub entries : IsDistinct bytes_eq (map (λ x. x.entry) names)
