-- What the names of a file mean in its program.
use Rattle.std.proofs.Common.{◌≡◌, ℕ, List, map, Some}
use Rattle.krml_syntax.specs.declared.tree.Field.{Field}
use Rattle.krml_syntax.specs.declared.tree.Def.{Def}
use Rattle.krml_ast.specs.Names.{Signature, Struct, type_named, fun_named}
use Rattle.krml_meaning.specs.Meaning as src
use Rattle.krml_ctree.specs.declared.tree.CVar.{CVar}
use Rattle.krml_ctree.specs.declared.tree.CProgram.{CProgram}
use Rattle.krml_ctree.specs.Parts.{struct_named, function_named, table_named}
use Rattle.krml_cstar.specs.Types.{ctype}
use Rattle.krml_cstar.specs.Translation.{fun_code}
use Rattle.krml_cstar.specs.Image.{place}

abbrev pub fields_of : List Field → List CVar
fields_of fields = map (λ f. record { ty = ctype f.ty; name = f.name }) fields

-- Each function, struct and table of the file is found in the program by its name.
pub record Lookups (defs : List Def) (p : CProgram) : Type 0 where
  pub function : (x : List ℕ) (f : Signature) (fun : src.Function) → fun_named defs x ≡ Some f → src.function_named defs x ≡ Some fun
      → function_named p x ≡ Some (fun_code defs x f.params f.result fun.body)
  pub struct : (x : List ℕ) (vars : List (List ℕ)) (fields : List Field) → type_named defs x ≡ Some (Struct vars fields)
      → struct_named p x ≡ Some (record { name = x; fields = fields_of fields })
  pub table : (x : List ℕ) (t : src.Table) → src.table_from 0 defs x ≡ Some t
      → table_named p x ≡ Some (place defs t.place, record { name = x; width = t.ty.width; nums = t.nums })
