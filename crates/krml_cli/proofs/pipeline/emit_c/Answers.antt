use Rattle.krml_cli.proofs.pipeline.emit_c.Goals as goal

pub returns : goal.returns
returns c = λ form.
    let well = c.in_ok-program.ensures.well_formed form in
    record {
      program = c.in_ok-program.program;
      translated = c.in_ok-program.ensures.value;
      is = c.in_ok-text.ensures.text;
      well_formed = well;
      alone = c.in_ok-text.ensures.alone well;
      does = c.in_ok-program.ensures.runs form;
    }
