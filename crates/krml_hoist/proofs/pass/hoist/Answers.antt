use Rattle.std.proofs.Common.{rules, ◌≡◌, List, None, map, sym, ap, ◌∙◌, subst}
use Rattle.std.proofs.Math.Logic.{∥∥₁_map}
use Rattle.krml_trace.specs.First.{first}
use Rattle.krml_syntax.specs.declared.tree.Def.{Def}
use Rattle.krml_ast.specs.FileTypes.{IsHoisted}
use Rattle.krml_rename.specs.Pass.{def_with}
use Rattle.krml_passing.specs.Hoisted.{body_hoisted, file_hoisted}
use Rattle.krml_passing.specs.RunsAs.{RunsAs, FitsAs}
use Rattle.krml_hoist.specs.declared.refusal.HoistRefusal.{HoistRefusal}
use Rattle.krml_hoist.specs.Large.{large_def, first_large}
use Rattle.krml_hoist.specs.Refusing.{Refuses}
use Rattle.krml_hoist.proofs.SameLayouts.{large_same}
use Rattle.krml_hoist.proofs.pass.hoist.Goals as goal

pub of-requires : goal.of-requires
of-requires c =
    let defs_is : c.in_ok-defs.defs ≡ map (def_with body_hoisted) c.args.file.now.defs = search rules in
    rw defs_is (∥∥₁_map c.file-source.ensures.form (c.hoisted_files_run.ensures.form c.args.file.now))

pub returns-clause-form : goal.returns-clause-form
returns-clause-form c =
    let to_is : c.of.result ≡ file_hoisted c.args.file.now = search rules in
    λ plain. subst IsHoisted (sym to_is) (c.hoisted_files_run.ensures.form c.args.file.now plain)

pub returns-clause-runs : goal.returns-clause-runs
returns-clause-runs c =
    let to_is : c.of.result ≡ file_hoisted c.args.file.now = search rules in
    subst (RunsAs (λ x. x) (λ e. e) c.args.file.now) (sym to_is) (c.hoisted_files_run.ensures.runs c.args.file.now)

pub returns-clause-fits : goal.returns-clause-fits
returns-clause-fits c =
    let to_is : c.of.result ≡ file_hoisted c.args.file.now = search rules in
    subst (FitsAs (λ x. x) c.args.file.now) (sym to_is) (c.hoisted_files_run.ensures.fits c.args.file.now)

pub returns-clause-small : goal.returns-clause-small
returns-clause-small c =
    let to_is : c.of.result ≡ file_hoisted c.args.file.now = search rules in
    let small : first (large_def c.args.file.now.defs) (map (def_with body_hoisted) c.args.file.now.defs) ≡ None = search rules in
    ap (λ z. first_large z.defs) to_is ∙ large_same body_hoisted c.args.file.now.defs ∙ small

pub returns-in_err-defs-clause-refused : goal.returns-in_err-defs-clause-refused
returns-in_err-defs-clause-refused c =
    let ds : List Def = c.args.file.now.defs in
    let e : HoistRefusal = c.in_err-defs.field-0.0 in
    let says : Refuses (first (large_def ds) (map (def_with body_hoisted) ds)) e = search rules in
    let told : Refuses (first_large (file_hoisted c.args.file.now).defs) e = subst (λ o. Refuses o e) (sym (large_same body_hoisted ds)) says in
    search rules
