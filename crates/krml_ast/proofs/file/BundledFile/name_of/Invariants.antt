use Rattle.std.proofs.Common.{◌≡◌, drop}
use Rattle.krml_ast.specs.FileTypes.{emitted_name}
use Rattle.krml_ast.proofs.file.BundledFile.name_of.Given as goal

abbrev pub invariant-loop-pair : goal.invariant-loop-pair
invariant-loop-pair l = emitted_name (drop l.pair-index l.self.1) l.entry ≡ emitted_name l.initial.self.1 l.initial.entry
