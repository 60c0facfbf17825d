-- What look-ups by a name give, behind references and maps.
use Rattle.std.specs.Prelude.{ℕ, List, Option}
use Rattle.std.specs.BTreeMap.{get_by}
use Rattle.std.specs.Cmp.Lexicographic.{slice_cmp}
use Rattle.std.specs.Ordering.{nat_cmp}
use Rattle.krml_syntax.specs.declared.tree.Field.{Field}
use Rattle.krml_syntax.specs.declared.tree.Con.{Con}
use Rattle.krml_ast.specs.declared.kind.NameKind.{NameKind}
use Rattle.krml_ast.specs.declared.kind.NameKind.TheVariants as k
use Rattle.krml_ast.specs.declared.found.StructDef.{StructDef}
use Rattle.krml_ast.specs.declared.found.SumDef.{SumDef}
use Rattle.krml_ast.specs.declared.found.ConDef.{ConDef}
use Rattle.krml_ast.specs.declared.found.FunDef.{FunDef}
use Rattle.krml_ast.specs.declared.first_places.FirstPlaces.{FirstPlaces}
use Rattle.krml_ast.specs.declared.places.Places.{Places}
use Rattle.krml_ast.specs.Names.{Constructor, Signature}

-- ---- definitions

abbrev pub struct_def : StructDef → List (List ℕ) × List Field
struct_def s = (s.vars.now, s.fields.now)

abbrev pub sum_def : SumDef → List (List ℕ) × List Con
sum_def s = (s.vars.now, s.cons.now)

abbrev pub con_def : ConDef → Constructor
con_def c = record { sum = c.sum.now; vars = c.vars.now; args = c.args.now }

abbrev pub fun_def : FunDef → Signature
fun_def f = record { vars = f.vars.now; params = f.params.now; result = f.result.now }

-- ---- places

-- what a map from names to places has at a name
abbrev pub has : FirstPlaces → List ℕ → Option ℕ
has p x = get_by (λ name. slice_cmp nat_cmp x name.now) p.places

-- what the map of a kind has
abbrev pub of_kind : NameKind → Places → FirstPlaces
of_kind k.Type p = p.types
of_kind k.Con p = p.cons
of_kind k.Table p = p.tables
of_kind k.Fun p = p.funs
of_kind k.Entry p = p.entries

abbrev pub has_of : NameKind → Places → List ℕ → Option ℕ
has_of kind p x = has (of_kind kind p) x
