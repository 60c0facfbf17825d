-- Types with their labels kept or erased.
use Rattle.krml_syntax.specs.declared.tree.Ty.{Ty}
use Rattle.krml_syntax.specs.Types.{erased}
use Rattle.krml_intern.specs.declared.labelling.Labelling.{Labelling}
use Rattle.krml_intern.specs.declared.labelling.Labelling.TheVariants as l

abbrev pub labelled : Labelling → Ty → Ty
labelled l.Kept a = a
labelled l.Erased a = erased a
