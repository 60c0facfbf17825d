use Rattle.std.proofs.Common.{refl}
use Rattle.krml_cli.specs.declared.stop.Stop.TheVariants as stop
use Rattle.krml_cli.proofs.Ended.{done_by, failed_by, lacked_by, stops_by, ends_by}
use Rattle.krml_cli.proofs.krml.command.Goals as goal

pub returns-in-Ok-write_all : goal.returns-in-Ok-write_all
returns-in-Ok-write_all g c = done_by _ c.in-Ok.output c.as_slice.result.now c.as_slice.ensures.value c.in-Ok.ensures c.in-Ok-write_all.ensures refl refl

pub returns-in-Err-Failed : goal.returns-in-Err-Failed
returns-in-Err-Failed g c =
    ends_by _ stop.WriteFault _ (failed_by _ c.in-Ok.output c.as_slice.result.now c.as_slice.ensures.value c.in-Ok.ensures (rw c.in-Err-Failed.field-0-is at c.in-Err-Failed.ensures)) c.report.ensures

pub returns-in-Ok : goal.returns-in-Ok
returns-in-Ok g c =
    ends_by _ stop.NoMemory _ (lacked_by _ c.in-Ok.output c.as_slice.result.now c.as_slice.ensures.value c.in-Ok.ensures (rw c.in-Err-NoMemory.field-0-is at c.in-Err-NoMemory.ensures)) c.report-in-Err-NoMemory.ensures

pub returns : goal.returns
returns g c = ends_by _ c.in-Err.stop _ (stops_by _ c.in-Err.stop c.in-Err.ensures (record { same = refl; quiet = refl })) c.report-in-Err.ensures
