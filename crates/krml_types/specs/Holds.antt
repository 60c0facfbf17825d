-- Which structs of a file hold buffers, computed in rounds over a table with a truth value for each definition.
use Rattle.std.specs.Prelude.{ℕ, zero, suc, Bool, true, false, not, ◌&&◌, ◌||◌, if◌then◌else◌, List, [], ◌∷◌, ◌++◌, map, length, slice_get, Option, Some, None, option_map}
use Rattle.std.specs.Str.{bytes_eq}
use Rattle.krml_syntax.specs.declared.tree.Ty.{Ty, out-Ty}
use Rattle.krml_syntax.specs.declared.tree.Ty.TheOpen.{Ty-F}
use Rattle.krml_syntax.specs.declared.tree.Field.{Field}
use Rattle.krml_syntax.specs.declared.tree.Def.{Def}
use Rattle.krml_syntax.specs.declared.tree.Def.TheVariants as d
use Rattle.krml_types.specs.declared.part.Part.{Part}
use Rattle.krml_types.specs.declared.part.Part.TheVariants as part

-- whether the first struct or sum of a name is set; no sum is
abbrev pub is_set : List Def → List Bool → List ℕ → Bool
is_set (d.Struct name vars fields ∷ defs) (b ∷ table) x = if bytes_eq name x then b else is_set defs table x
is_set (d.Sum name vars cons ∷ defs) (b ∷ table) x = if bytes_eq name x then false else is_set defs table x
is_set (def ∷ defs) (b ∷ table) x = is_set defs table x
is_set _ _ x = false

-- a buffer, or a struct that is set
abbrev pub holds_in : List Def → List Bool → Ty-F Ty → Bool
holds_in defs table (Ty-F.Buf a) = true
holds_in defs table (Ty-F.Named x args) = is_set defs table x
holds_in defs table _ = false

abbrev pub holds_by : List Def → List Bool → Ty → Bool
holds_by defs table a = holds_in defs table (out-Ty a)

abbrev pub any_holds : List Def → List Bool → List Field → Bool
any_holds defs table [] = false
any_holds defs table (f ∷ fields) = holds_by defs table f.ty || any_holds defs table fields

-- a struct with a field that is a buffer or a struct that is set
abbrev pub def_holds : List Def → List Bool → Def → Bool
def_holds defs table (d.Struct name vars fields) = any_holds defs table fields
def_holds defs table _ = false

-- each that was set, or that a test holds of
abbrev pub set_more : {A : Type 0} → (A → Bool) → List A → List Bool → List Bool
set_more test (x ∷ xs) (b ∷ table) = (b || test x) ∷ set_more test xs table
set_more test _ _ = []

abbrev pub round : List Def → List Bool → List Bool
round defs table = set_more (def_holds defs table) defs table

abbrev pub rounds : ℕ → List Def → List Bool → List Bool
rounds zero defs table = table
rounds (suc n) defs table = rounds n defs (round defs table)

abbrev pub same_bool : Bool → Bool → Bool
same_bool true b = b
same_bool false b = not b

abbrev pub same_table : List Bool → List Bool → Bool
same_table [] [] = true
same_table (b ∷ table) (c ∷ other) = same_bool b c && same_table table other
same_table _ _ = false

abbrev pub none_set : List Def → List Bool
none_set defs = map (λ def. false) defs

-- the structs that hold buffers: each round but the last sets one at least
unfoldable pub holders : List Def → List Bool
holders defs = rounds (length defs) defs (none_set defs)

-- ---- by places, so that a round looks no name up

-- the place of the first struct of a name, where no sum of that name stands before it
abbrev pub struct_place : List Def → List ℕ → Option ℕ
struct_place (d.Struct name vars fields ∷ defs) x = if bytes_eq name x then Some 0 else option_map suc (struct_place defs x)
struct_place (d.Sum name vars cons ∷ defs) x = if bytes_eq name x then None else option_map suc (struct_place defs x)
struct_place (def ∷ defs) x = option_map suc (struct_place defs x)
struct_place [] x = None

-- what a field tells: it is a buffer, it is of the struct of a place, or neither
abbrev pub at_place : Option ℕ → Part
at_place (Some k) = part.At k
at_place None = part.Nothing

abbrev pub part_in : List Def → Ty-F Ty → Part
part_in defs (Ty-F.Buf a) = part.Buffer
part_in defs (Ty-F.Named x args) = at_place (struct_place defs x)
part_in defs _ = part.Nothing

abbrev pub parts_of : List Def → List Field → List Part
parts_of defs fields = map (λ f. part_in defs (out-Ty f.ty)) fields

abbrev pub parts_in : List Def → Def → List Part
parts_in defs (d.Struct name vars fields) = parts_of defs fields
parts_in defs _ = []

abbrev pub or_false : Option Bool → Bool
or_false (Some b) = b
or_false None = false

abbrev pub part_holds : List Bool → Part → Bool
part_holds table part.Buffer = true
part_holds table (part.At k) = or_false (slice_get table k)
part_holds table part.Nothing = false

abbrev pub any_part : List Bool → List Part → Bool
any_part table [] = false
any_part table (p ∷ parts) = part_holds table p || any_part table parts

-- from the first to the last, each by what the ones before it are
abbrev pub swept : List (List Part) → List Bool → List Bool
swept [] table = table
swept (parts ∷ all) table = swept all (table ++ any_part table parts ∷ [])
