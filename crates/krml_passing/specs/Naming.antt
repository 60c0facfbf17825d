-- Other names for the definitions of a file, and a file under them.
use Rattle.std.specs.Prelude.{◌≡◌, ℕ, true, List, map}
use Rattle.std.specs.Str.{bytes_eq}
use Rattle.krml_syntax.specs.declared.tree.Ty.{Ty, out-Ty, roll-Ty, map-Ty}
use Rattle.krml_syntax.specs.declared.tree.Ty.TheOpen.{Ty-F}
use Rattle.krml_syntax.specs.declared.tree.Ty.TheFolds.{fold-Ty}
use Rattle.krml_syntax.specs.declared.tree.Field.{Field}
use Rattle.krml_syntax.specs.declared.tree.Con.{Con}
use Rattle.krml_syntax.specs.declared.tree.Pat.{Pat, out-Pat, roll-Pat, map-Pat}
use Rattle.krml_syntax.specs.declared.tree.Pat.TheOpen.{Pat-F}
use Rattle.krml_syntax.specs.declared.tree.Pat.TheFolds.{fold-Pat}
use Rattle.krml_syntax.specs.declared.tree.Slot.{Slot}
use Rattle.krml_syntax.specs.declared.tree.Arm.{Arm}
use Rattle.krml_syntax.specs.declared.tree.Case.{Case}
use Rattle.krml_syntax.specs.declared.tree.Item.{Item}
use Rattle.krml_syntax.specs.declared.tree.Expr.{Expr}
use Rattle.krml_syntax.specs.declared.tree.Def.{Def}
use Rattle.krml_syntax.specs.declared.tree.Def.TheVariants as d
use Rattle.krml_syntax.specs.declared.tree.SourceFile.{SourceFile}
use Rattle.krml_meaning.specs.declared.value.Value.{Value, out-Value, roll-Value}
use Rattle.krml_meaning.specs.declared.value.Value.TheFolds.{fold-Value}
use Rattle.krml_meaning.specs.State.{Env}
use Rattle.krml_meaning.specs.Meaning.{Function}
use Rattle.krml_passing.specs.Images.{Images, value_renamed, value_under, vars_under}
use Rattle.krml_passing.specs.Alike.{Scopes}
use Rattle.krml_rename.specs.Pass.{item_passed, arm_passed, case_passed}
use Rattle.krml_rename.specs.Renaming.{Renaming, slot_renamed, renaming, expr_renamed}

-- ---- types, patterns and values, layer by layer

-- one layer of a type under other names of structs and sums
abbrev pub ty_renamed : {X : Type 0} → (List ℕ → List ℕ) → Ty-F X → Ty-F X
ty_renamed named (Ty-F.Named x args) = Ty-F.Named (named x) args
ty_renamed named y = y

-- one layer of a pattern under other names of constructors and of structs
abbrev pub pat_renamed : {X : Type 0} → (List ℕ → List ℕ) → (List ℕ → List ℕ) → Pat-F X → Pat-F X
pat_renamed con named (Pat-F.Con x qs) = Pat-F.Con (con x) qs
pat_renamed con named (Pat-F.Make x qs) = Pat-F.Make (named x) qs
pat_renamed con named y = y

-- what a type is made of, and a pattern, where the parts become others
abbrev pub ty_under : (Ty → Ty) → (List ℕ → List ℕ) → Ty-F Ty → Ty-F Ty
ty_under ty named o = ty_renamed named (map-Ty Ty Ty ty o)

abbrev pub pat_under : (Pat → Pat) → (List ℕ → List ℕ) → (List ℕ → List ℕ) → Pat-F Pat → Pat-F Pat
pat_under pat con named o = pat_renamed con named (map-Pat Pat Pat pat o)

-- every layer under other names
abbrev pub ty_named : (List ℕ → List ℕ) → Ty → Ty
ty_named named = fold-Ty Ty (λ y. roll-Ty (ty_renamed named y))

abbrev pub pat_named : (List ℕ → List ℕ) → (List ℕ → List ℕ) → Pat → Pat
pat_named con named = fold-Pat Pat (λ y. roll-Pat (pat_renamed con named y))

abbrev pub value_named : (List ℕ → List ℕ) → Value → Value
value_named field = fold-Value Value (λ y. roll-Value (value_renamed field y))

-- ---- names

-- different names stay different
abbrev pub TellsApart : (List ℕ → List ℕ) → Type 0
TellsApart name = (x y : List ℕ) → bytes_eq (name x) (name y) ≡ bytes_eq x y

-- New names of the five kinds: of structs and sums, of constructors, of functions, of tables and of fields; and types, patterns
-- and values under them.
pub record Naming : Type 0 where
  pub named : List ℕ → List ℕ
  pub con : List ℕ → List ℕ
  pub fun : List ℕ → List ℕ
  pub table : List ℕ → List ℕ
  pub field : List ℕ → List ℕ
  pub ty : Ty → Ty
  pub pat : Pat → Pat
  pub value : Value → Value

-- by five functions
abbrev pub naming : (named con fun table field : List ℕ → List ℕ) → Naming
naming named con fun table field = record {
  named = named;
  con = con;
  fun = fun;
  table = table;
  field = field;
  ty = ty_named named;
  pat = pat_named con named;
  value = value_named field;
}

-- as they are
abbrev pub unchanged : Naming
unchanged = record {
  named = λ x. x;
  con = λ x. x;
  fun = λ x. x;
  table = λ x. x;
  field = λ x. x;
  ty = λ a. a;
  pat = λ q. q;
  value = λ x. x;
}

-- Each kind is told apart as before, and types, patterns and values have the new names in every layer.
pub record TellsNamesApart (n : Naming) : Type 0 where
  pub named_apart : TellsApart n.named
  pub con_apart : TellsApart n.con
  pub fun_apart : TellsApart n.fun
  pub table_apart : TellsApart n.table
  pub field_apart : TellsApart n.field
  pub out_ty : (a : Ty) → out-Ty (n.ty a) ≡ ty_under n.ty n.named (out-Ty a)
  pub out_pat : (q : Pat) → out-Pat (n.pat q) ≡ pat_under n.pat n.con n.named (out-Pat q)
  pub out_value : (x : Value) → out-Value (n.value x) ≡ value_under n.value n.field (out-Value x)

-- every end is kept, and tables stay in their places
abbrev pub images_of : (n : Naming) → TellsNamesApart n → Images
images_of n ok = record {
  value = n.value;
  field = n.field;
  ty = n.ty;
  place = λ k. k;
  keeps = λ w. true;
  out = ok.out_value;
  apart = ok.field_apart;
}

module _ (n : Naming) where
  abbrev pub renaming_of : Renaming
  renaming_of = record {
    struct = λ x args. (n.named x, map n.ty args);
    con = λ x args. (n.con x, map n.ty args);
    fun = λ x args. (n.fun x, map n.ty args);
    tag = n.con;
    table = n.table;
    field = n.field;
    ty = n.ty;
    pat = n.pat;
  }

  abbrev pub slot_under : Slot → Slot
  slot_under = slot_renamed renaming_of

  abbrev pub expr_under : Expr → Expr
  expr_under = expr_renamed renaming_of

  abbrev pub item_under : Item → Item
  item_under = item_passed (renaming renaming_of)

  abbrev pub arm_under : Arm → Arm
  arm_under = arm_passed (renaming renaming_of)

  abbrev pub case_under : Case → Case
  case_under = case_passed (renaming renaming_of)

  -- ---- scopes

  abbrev pub env_image : Env → Env
  env_image env = record { vars = vars_under n.value env.vars; tvars = env.tvars; targs = map n.ty env.targs; base = env.base }

  -- the second scope is the first under the new names
  abbrev pub under_names : Scopes
  under_names env env' m = env' ≡ env_image env

  -- ---- files

  abbrev pub field_under : Field → Field
  field_under f = record { name = n.field f.name; ty = n.ty f.ty }

  abbrev pub param_under : Field → Field
  param_under f = record { name = f.name; ty = n.ty f.ty }

  abbrev pub con_under : Con → Con
  con_under c = record { name = n.con c.name; args = map n.ty c.args }

  -- The bodies of functions become what a pass makes of them.
  module _ (body : Expr → Expr) where
    abbrev pub def_under : Def → Def
    def_under (d.Struct x vars fields) = d.Struct (n.named x) vars (map field_under fields)
    def_under (d.Sum x vars cons) = d.Sum (n.named x) vars (map con_under cons)
    def_under (d.Table x i nums) = d.Table (n.table x) i nums
    def_under (d.Fun x vars params result e) = d.Fun (n.fun x) vars (map param_under params) (n.ty result) (body e)
    def_under (d.Entry x) = d.Entry (n.fun x)

    abbrev pub file_under : SourceFile → SourceFile
    file_under file = record { defs = map def_under file.defs }

    abbrev pub function_under : Function → Function
    function_under f = record { tvars = f.tvars; params = map param_under f.params; body = body f.body }

  -- a definition, and a file, under the new names
  abbrev pub def_renamed : Def → Def
  def_renamed = def_under expr_under

  abbrev pub file_renamed : SourceFile → SourceFile
  file_renamed = file_under expr_under
