use Rattle.std.proofs.Common.{◌∙◌}
use Rattle.krml_cli.specs.Refusal.{refusal_line}
use Rattle.krml_cli.specs.Steps.{Reports}
use Rattle.krml_cli.proofs.Ended.{same_line}
use Rattle.krml_cli.proofs.krml.report.Goals as goal

pub returns-in-Ok : goal.returns-in-Ok
returns-in-Ok g c = rw c.in-Refused.is (Reports.made (same_line c.as_slice.result.now (refusal_line c.in-Refused.why) (c.as_slice.ensures.value ∙ c.in-Ok.ensures) c.note.ensures))

pub returns-in-Err : goal.returns-in-Err
returns-in-Err g c = rw c.in-Refused.is (Reports.unmade c.note-in-Err.ensures)

pub returns-in-Usage : goal.returns-in-Usage
returns-in-Usage g c = rw c.in-Usage.is (Reports.made c.note-in-Usage.ensures)

pub returns-in-ReadFault : goal.returns-in-ReadFault
returns-in-ReadFault g c = rw c.in-ReadFault.is (Reports.made c.note-in-ReadFault.ensures)

pub returns-in-WriteFault : goal.returns-in-WriteFault
returns-in-WriteFault g c = rw c.in-WriteFault.is (Reports.made c.note-in-WriteFault.ensures)

pub returns-in-NoMemory : goal.returns-in-NoMemory
returns-in-NoMemory g c = rw c.in-NoMemory.is (Reports.made c.note-in-NoMemory.ensures)
