use Rattle.krml_cli.specs.Steps.{Notes}
use Rattle.krml_cli.proofs.krml.note.Goals as goal

pub returns-in-Ok : goal.returns-in-Ok
returns-in-Ok g c = Notes.whole c.in-Ok.ensures.0 c.in-Ok.ensures.1

pub returns-in-Err-Failed : goal.returns-in-Err-Failed
returns-in-Err-Failed g c = let h = rw c.in-Err-Failed.field-0-is at c.in-Err-Failed.ensures in Notes.failed h.0 h.1 h.2

pub returns-in-Err-NoMemory : goal.returns-in-Err-NoMemory
returns-in-Err-NoMemory g c = let h = rw c.in-Err-NoMemory.field-0-is at c.in-Err-NoMemory.ensures in Notes.lacked_memory h.0 h.1
