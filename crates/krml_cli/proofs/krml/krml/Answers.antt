use Rattle.krml_cli.proofs.Clauses.{known, compiled, accepted, refused, prefix, silent, noted, unnoted, note_prefix, write_noted, read_fault, read_faults, write_fault, write_faults, usage, usage_always, unread, completes, refuses, refuses_for}
use Rattle.krml_cli.proofs.krml.krml.Goals as goal

pub returns-clause-compiled : goal.returns-clause-compiled
returns-clause-compiled g c = compiled _ c.command.result c.command.ensures

pub returns-clause-accepted : goal.returns-clause-accepted
returns-clause-accepted g c = accepted _ c.command.result c.command.ensures

pub returns-clause-refused : goal.returns-clause-refused
returns-clause-refused g c = refused c.one_answer.ensures _ c.command.result c.command.ensures

pub returns-clause-silent : goal.returns-clause-silent
returns-clause-silent g c = silent _ c.command.result c.command.ensures

pub returns-clause-prefix : goal.returns-clause-prefix
returns-clause-prefix g c = prefix _ c.command.result c.command.ensures

pub returns-clause-note_prefix : goal.returns-clause-note_prefix
returns-clause-note_prefix g c = note_prefix _ c.command.result c.command.ensures

pub returns-clause-usage : goal.returns-clause-usage
returns-clause-usage g c = usage _ c.command.result c.command.ensures

pub returns-clause-usage_always : goal.returns-clause-usage_always
returns-clause-usage_always g c = usage_always _ c.command.result c.command.ensures

pub returns-clause-unread : goal.returns-clause-unread
returns-clause-unread g c = unread _ c.command.result c.command.ensures

pub returns-clause-completes : goal.returns-clause-completes
returns-clause-completes g c = completes c.one_answer.ensures _ c.command.result c.command.ensures

pub returns-clause-refuses : goal.returns-clause-refuses
returns-clause-refuses g c = refuses c.one_answer.ensures _ c.command.result c.command.ensures

pub returns-clause-noted : goal.returns-clause-noted
returns-clause-noted g c = noted _ c.command.result c.command.ensures

pub returns-clause-write_noted : goal.returns-clause-write_noted
returns-clause-write_noted g c = write_noted _ c.command.result c.command.ensures

pub returns-clause-refuses_for : goal.returns-clause-refuses_for
returns-clause-refuses_for g c = refuses_for c.one_answer.ensures _ c.command.result c.command.ensures

pub returns-clause-known : goal.returns-clause-known
returns-clause-known g c = known _ c.command.result c.command.ensures

pub returns-clause-unnoted : goal.returns-clause-unnoted
returns-clause-unnoted g c = unnoted _ c.command.result c.command.ensures

pub returns-clause-read_fault : goal.returns-clause-read_fault
returns-clause-read_fault g c = read_fault _ c.command.result c.command.ensures

pub returns-clause-read_faults : goal.returns-clause-read_faults
returns-clause-read_faults g c = read_faults _ c.command.result c.command.ensures

pub returns-clause-write_fault : goal.returns-clause-write_fault
returns-clause-write_fault g c = write_fault _ c.command.result c.command.ensures

pub returns-clause-write_faults : goal.returns-clause-write_faults
returns-clause-write_faults g c = write_faults _ c.command.result c.command.ensures
