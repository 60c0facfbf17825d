use Rattle.std.proofs.Common.{◌≡◌, map, take}
use Rattle.krml_writer.specs.Written.{form_of_ty}
use Rattle.krml_writer.proofs.types.+ty.Given as goal

abbrev pub invariant-forms_of_tys-loop-ty : goal.invariant-forms_of_tys-loop-ty
invariant-forms_of_tys-loop-ty l = l.forms ≡ map form_of_ty (take l.ty-index l.tys)
