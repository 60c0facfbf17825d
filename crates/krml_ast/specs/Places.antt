-- The places of names in a file: of each kind, the first definition that gives the name.
use Rattle.std.specs.Prelude.{ℕ, Bool, false, ◌||◌, if◌then◌else◌, List, [], ◌∷◌, map, Option, Some, None}
use Rattle.std.specs.Str.{bytes_eq}
use Rattle.krml_trace.specs.First.{first, first_place}
use Rattle.krml_syntax.specs.declared.tree.IntTy.{IntTy}
use Rattle.krml_syntax.specs.declared.tree.Field.{Field}
use Rattle.krml_syntax.specs.declared.tree.Con.{Con}
use Rattle.krml_syntax.specs.declared.tree.Def.{Def}
use Rattle.krml_syntax.specs.declared.tree.Def.TheVariants as d
use Rattle.krml_ast.specs.declared.kind.NameKind.{NameKind}
use Rattle.krml_ast.specs.declared.kind.NameKind.TheVariants as k
use Rattle.krml_ast.specs.Names.{Signature}
use Rattle.krml_ast.specs.WellTyped.{type_name, con_names, table_name, fun_name, entry_name}

-- whether one of the names is this one
abbrev pub is_among : List (List ℕ) → List ℕ → Bool
is_among [] x = false
is_among (v ∷ names) x = bytes_eq v x || is_among names x

abbrev pub cons_of : List Con → List (List ℕ)
cons_of cons = map (λ c. c.name) cons

-- the names of a kind that a definition gives
abbrev pub names_in : NameKind → Def → List (List ℕ)
names_in k.Type = type_name
names_in k.Con = con_names
names_in k.Table = table_name
names_in k.Fun = fun_name
names_in k.Entry = entry_name

-- the place of the first definition that gives a name
abbrev pub place_in : (Def → List (List ℕ)) → List Def → List ℕ → Option ℕ
place_in names defs x = first_place (λ def. is_among (names def) x) defs

abbrev pub place_of : NameKind → List Def → List ℕ → Option ℕ
place_of kind defs x = place_in (names_in kind) defs x

-- the first definition that gives a name
abbrev pub def_here : (Def → List (List ℕ)) → List ℕ → Def → Option Def
def_here names x def = if is_among (names def) x then Some def else None

abbrev pub first_in : (Def → List (List ℕ)) → List Def → List ℕ → Option Def
first_in names defs x = first (def_here names x) defs

abbrev pub first_of : NameKind → List Def → List ℕ → Option Def
first_of kind defs x = first_in (names_in kind) defs x

-- the place found before, or one more
abbrev pub place_or : Option ℕ → Bool → ℕ → Option ℕ
place_or (Some j) given k = Some j
place_or None given k = if given then Some k else None

-- ---- what a definition is, by its kind

abbrev pub vars_at : Def → Option (List (List ℕ))
vars_at (d.Struct name vars fields) = Some vars
vars_at (d.Sum name vars cons) = Some vars
vars_at _ = None

abbrev pub struct_at : Def → Option (List (List ℕ) × List Field)
struct_at (d.Struct name vars fields) = Some (vars, fields)
struct_at _ = None

abbrev pub sum_at : Def → Option (List (List ℕ) × List Con)
sum_at (d.Sum name vars cons) = Some (vars, cons)
sum_at _ = None

abbrev pub table_at : Def → Option IntTy
table_at (d.Table name ty nums) = Some ty
table_at _ = None

abbrev pub fun_at : Def → Option Signature
fun_at (d.Fun name vars params result body) = Some (record { vars = vars; params = params; result = result })
fun_at _ = None
