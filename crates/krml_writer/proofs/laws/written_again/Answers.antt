use Rattle.krml_writer.specs.Written.{forms_of}
use Rattle.krml_writer.proofs.Kept.{all_writable, all_same_levels}
use Rattle.krml_writer.proofs.Respelled.{defs_again, defs_alike}
use Rattle.krml_writer.proofs.Limits.{within_limits}
use Rattle.krml_writer.proofs.laws.written_again.Goals as goal

pub returns-clause-spelled : goal.returns-clause-spelled
returns-clause-spelled c = λ forms file s. (c.written_forms_are_read.ensures (forms_of file) (all_writable (defs_alike s)), defs_again s)

pub returns-clause-levels : goal.returns-clause-levels
returns-clause-levels c = λ forms file s. all_same_levels (defs_alike s)

pub returns-clause-limits : goal.returns-clause-limits
returns-clause-limits c = λ forms file s. within_limits file.defs (defs_alike s)

pub returns-clause-again : goal.returns-clause-again
returns-clause-again c = λ text file s short.
    let a = defs_alike s.spelled in
    record {
      forms = forms_of file;
      short = short;
      has = c.written_forms_are_read.ensures (forms_of file) (all_writable a);
      levels = all_same_levels a 64 s.levels;
      spelled = defs_again s.spelled;
      limits = within_limits file.defs a s.limits;
    }
