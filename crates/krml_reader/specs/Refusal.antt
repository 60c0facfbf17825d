-- The words for what a limit bounds.
use Rattle.std.specs.Prelude.{ℕ, List, codes}
use Rattle.krml_syntax.specs.declared.limit.LimitKind.{LimitKind}
use Rattle.krml_syntax.specs.declared.limit.LimitKind.TheVariants as k

abbrev pub kind_word : LimitKind → List ℕ
kind_word k.Definitions = codes "definitions"
kind_word k.Name = codes "name"
kind_word k.Forms = codes "forms"
kind_word k.Variables = codes "variables"
kind_word k.Parameters = codes "parameters"
kind_word k.Fields = codes "fields"
kind_word k.Constructors = codes "constructors"
kind_word k.Elements = codes "elements"
