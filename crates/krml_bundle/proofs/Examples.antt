-- Names that were found by hand. A definition that says another one breaks one.
use Rattle.std.proofs.Common.{◌≡◌, codes, refl}
use Rattle.krml_bundle.specs.Emitted.{emitted_fun, emitted_type, emitted_table, emitted_field}

plain_name : emitted_fun (codes "add") ≡ codes "f_add"
plain_name = refl

-- an instance has its number before its name
instance : emitted_fun (codes "add'12") ≡ codes "g12_add"
instance = refl

no_number : emitted_fun (codes "add'") ≡ codes "f_add'"
no_number = refl

instance_of_type : emitted_type (codes "add'12") ≡ codes "s12_add"
instance_of_type = refl

table : emitted_table (codes "add'12") ≡ codes "t_add'12"
table = refl

field : emitted_field (codes "add'12") ≡ codes "m_add'12"
field = refl
