-- Passes that change some forms of expressions, and no name: every other form is one row, and the file runs as before.
use Rattle.std.proofs.Common.{◌≡◌, List, refl, sym, ap, ◌∙◌, subst}
use Rattle.std.proofs.lemmas.List.{map-id}
use Rattle.krml_trace.proofs.Lists.{map_same}
use Rattle.krml_syntax.specs.declared.tree.Item.{roll-Item}
use Rattle.krml_syntax.specs.declared.tree.Expr.{Expr, roll-Expr}
use Rattle.krml_syntax.specs.declared.tree.Expr.TheOpen.{Expr-F, Item-F}
use Rattle.krml_syntax.specs.declared.tree.Def.{Def}
use Rattle.krml_syntax.specs.declared.tree.Def.TheVariants as d
use Rattle.krml_syntax.specs.declared.tree.SourceFile.{SourceFile}
use Rattle.krml_syntax.specs.Shape.{parts_of}
use Rattle.krml_ast.specs.declared.event.SourceEvent.{SourceEvent}
use Rattle.krml_ast.specs.declared.event.SourceEvent.TheVariants as event
use Rattle.krml_ast.specs.declared.run.SourceRun.{SourceRun}
use Rattle.krml_meaning.specs.Meaning as src
use Rattle.krml_meaning.proofs.Evals as old
use Rattle.krml_passing.specs.Images.{Images, event_image}
use Rattle.krml_passing.specs.Alike.{Scopes, Same, Leads, SameOf}
use Rattle.krml_passing.specs.RunsAs.{run_image, RunsAs}
use Rattle.krml_rename.specs.Pass.{Layer, Pass, passed, parts_passed, changing, def_with, file_with}
use Rattle.krml_rename.specs.Renaming.{Renaming, slot_renamed, renamed, item_renamed}
use Rattle.krml_passing.specs.Naming.{unchanged, images_of, renaming_of, under_names, def_under, file_under}
use Rattle.krml_passing.specs.Laws.{MeansTheSame}
use Rattle.krml_passing.proofs.Forms.{SameTested}
use Rattle.krml_passing.proofs.Passes.{layer_means, PartsPass, LayerPasses, all_pass}
use Rattle.krml_passing.proofs.Renamed.{SameArm, layer_same, item_layer_passes, arm_layer_passes, case_layer_passes}
use Rattle.krml_passing.proofs.Lookups.{to}
use Rattle.krml_passing.proofs.Naming.{unchanged_apart}
use Rattle.krml_passing.proofs.Named.{CallsUnder, scopes_under, names_under, pats_under, runs_under}

-- ---- names as they are

-- a layer under these names is the layer
renamed_itself : {E I A C : Type 0} (y : Expr-F E I A C) → renamed (renaming_of unchanged) y ≡ y
renamed_itself (Expr-F.Make x args es) = ap (λ z. Expr-F.Make x z es) (map-id args)
renamed_itself (Expr-F.Con x args es) = ap (λ z. Expr-F.Con x z es) (map-id args)
renamed_itself (Expr-F.Call x args es) = ap (λ z. Expr-F.Call x z es) (map-id args)
renamed_itself (Expr-F.Frame slots a) = ap (λ z. Expr-F.Frame z a) (map-id slots)
renamed_itself _ = refl

item_itself : {E I A C : Type 0} (y : Item-F E I A C) → item_renamed (renaming_of unchanged) y ≡ y
item_itself (Item-F.Let x b a) = refl
item_itself (Item-F.Run a) = refl

-- a definition is one of the same names
def_itself : (body : Expr → Expr) (def : Def) → def_under unchanged body def ≡ def_with body def
def_itself body (d.Struct x vars fields) = ap (d.Struct x vars) (map-id fields)
def_itself body (d.Sum x vars cons) = ap (d.Sum x vars) (map_same _ _ cons (λ c. ap (λ z. record { name = c.name; args = z })
    (map-id c.args)) ∙ map-id cons)
def_itself body (d.Table x i nums) = refl
def_itself body (d.Fun x vars params result e) = ap (λ z. d.Fun x vars z result (body e)) (map-id params)
def_itself body (d.Entry x) = refl

pub file_itself : (body : Expr → Expr) (file : SourceFile) → file_under unchanged body file ≡ file_with body file
file_itself body file = ap (λ z. record { defs = z }) (map_same (def_under unchanged body) (def_with body) file.defs (def_itself body))

event_itself : (e : SourceEvent) → event_image (images_of unchanged unchanged_apart) e ≡ e
event_itself (event.Push slots) = ap event.Push (map-id slots)
event_itself _ = refl

-- the image of a run under these names is that run
pub run_itself : (r : SourceRun) → run_image (event_image (images_of unchanged unchanged_apart)) r ≡ run_image (λ e. e) r
run_itself r = ap (λ es. record { outcome = r.outcome; events = es }) (map_same (event_image (images_of unchanged unchanged_apart))
    (λ e. e) r.events event_itself)

-- ---- rows of a pass, and whole files

abbrev pub im : Images
im = images_of unchanged unchanged_apart

abbrev pub ren : Renaming
ren = renaming_of unchanged

abbrev pub I : Scopes
I = under_names unchanged

module _ (change : Layer → Expr) where
  abbrev p : Pass
  p = changing change

  -- the pass
  abbrev pub changed : Expr → Expr
  changed = passed p

  module _ (defs : List Def) (calls calls' : src.Calls) (k : CallsUnder unchanged unchanged_apart calls calls') where
    -- What is shown of a row of the pass: a layer does the same after it, where its parts do.
    abbrev pub RowSame : Layer → Type 0
    RowSame = LayerPasses (slot_renamed ren) (Same im I) (Leads im I I) (SameArm im I) (SameTested im I) defs
        (to unchanged unchanged_apart changed defs) calls calls' p

    abbrev PartsSame : Layer → Type 0
    PartsSame y = PartsPass (slot_renamed ren) (Same im I) (Leads im I I) (SameArm im I) (SameTested im I) defs
        (to unchanged unchanged_apart changed defs) calls calls' p (parts_of y)

    -- a layer that is left as it is, does
    pub left_same : (y : Layer) → PartsSame y
        → SameOf (slot_renamed ren) (Same im I) (layer_means defs calls y)
        (old.means (to unchanged unchanged_apart changed defs) calls' (roll-Expr (parts_passed p y)))
    left_same y parts = subst (λ z. SameOf (slot_renamed ren) (Same im I) (layer_means defs calls y)
        (old.means (to unchanged unchanged_apart changed defs) calls' (roll-Expr z))) (renamed_itself (parts_passed p y))
        (layer_same im ren I (scopes_under unchanged unchanged_apart) (λ x. refl) defs
        (to unchanged unchanged_apart changed defs) calls calls' p y
        (names_under unchanged unchanged_apart changed defs calls calls' k y) parts)

    pub row_left : (y : Layer) → change (parts_passed p y) ≡ roll-Expr (parts_passed p y) → RowSame y
    row_left y is parts = rw is (left_same y parts)

    expr_same : ((y : Layer) → RowSame y) → (x : Expr)
        → SameOf (slot_renamed ren) (Same im I) (src.meaning defs calls x) (src.meaning (to unchanged unchanged_apart changed defs) calls'
        (changed x))
    expr_same rows = all_pass (slot_renamed ren) (Same im I) (Leads im I I) (SameArm im I) (SameTested im I) defs
        (to unchanged unchanged_apart changed defs) calls calls' p rows
        (λ y. item_layer_passes im ren I (scopes_under unchanged unchanged_apart) (λ x. refl) defs
        (to unchanged unchanged_apart changed defs) calls calls' p y
        (ap roll-Item (sym (item_itself _))))
        (λ y. arm_layer_passes im ren I (scopes_under unchanged unchanged_apart) (λ x. refl) defs
        (to unchanged unchanged_apart changed defs) calls calls' p y refl
        (pats_under unchanged unchanged_apart changed defs calls calls' k y.pat))
        (λ y. case_layer_passes im ren I (scopes_under unchanged unchanged_apart) (λ x. refl) defs
        (to unchanged unchanged_apart changed defs) calls calls' p y refl)

  -- A pass each row of which does the same keeps every run, with its events.
  pub runs_changed : (file : SourceFile) → ((calls calls' : src.Calls) (k : CallsUnder unchanged unchanged_apart calls calls') (y : Layer)
      → RowSame file.defs calls calls' k y)
      → RunsAs (λ x. x) (λ e. e) file (file_with changed file)
  runs_changed file rows entry args bound = ap (λ z. src.source_run z entry args bound) (sym (file_itself changed file))
      ∙ runs_under unchanged unchanged_apart changed file
      (λ calls calls' k x. (expr_same file.defs calls calls' k (rows calls calls' k) x).from 0) entry
      args bound
      ∙ run_itself (src.source_run file entry args bound)

  -- A pass that puts in the place of a layer what means the same keeps every run.
  pub runs_rewritten : MeansTheSame change → (file : SourceFile) → RunsAs (λ x. x) (λ e. e) file (file_with changed file)
  runs_rewritten same file = runs_changed file (λ calls calls' k y parts. rw (same (to unchanged unchanged_apart changed file.defs) calls'
      (parts_passed p y)) (left_same file.defs calls calls' k y parts))
