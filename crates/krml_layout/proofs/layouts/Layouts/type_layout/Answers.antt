use Rattle.krml_layout.specs.Found.{has}
use Rattle.krml_layout.proofs.Maps.{map_aligned}
use Rattle.krml_layout.proofs.layouts.Layouts.type_layout.Goals as goal

pub type_layout-requires : goal.type_layout-requires
type_layout-requires c = map_aligned (has c.self.inside.layouts) c.self.inside.defs.now c.self.inside.exact
