-- What each form of C means: the equations of its meaning.
use Rattle.std.proofs.Common.{◌≡◌, ℕ, Bool, List, [], ◌∷◌, ◌++◌, map, refl, sym, ◌∙◌}
use Rattle.krml_trace.specs.declared.width.Width.{Width}
use Rattle.krml_trace.specs.Run.{bind}
use Rattle.krml_trace.proofs.Bind.{bind_bind, bind_same}
use Rattle.krml_ctree.specs.declared.tree.CBin.{CBin}
use Rattle.krml_ctree.specs.declared.tree.CmpKind.{CmpKind}
use Rattle.krml_ctree.specs.declared.tree.CVar.{CVar}
use Rattle.krml_ctree.specs.declared.tree.CArray.{CArray}
use Rattle.krml_ctree.specs.declared.tree.CExpr.{CExpr}
use Rattle.krml_ctree.specs.declared.tree.CExpr.TheVariants as e
use Rattle.krml_ctree.specs.declared.tree.CExpr.TheFolds.{fold_out-CExpr}
use Rattle.krml_ctree.specs.declared.tree.CArm.{CArm, roll-CArm}
use Rattle.krml_ctree.specs.declared.tree.CStatement.{CStatement}
use Rattle.krml_ctree.specs.declared.tree.CStatement.TheVariants as st
use Rattle.krml_ctree.specs.declared.tree.CStatement.TheFolds.{fold_out-CStatement, fold-CArm, fold-roll-CArm}
use Rattle.krml_ctree.specs.declared.tree.CProgram.{CProgram}
use Rattle.krml_ctree.specs.Parts.{CBlock, Locals, CState}
use Rattle.krml_ctree.specs.Meaning as tgt
use Rattle.krml_ctree.specs.Meaning.{value_of, do_one, exec}

module _ (p : CProgram) where
  pub var_is : (x : List ℕ) (m : List CBlock) (locals : Locals) → value_of p (e.Var x) m locals ≡ tgt.var x m locals
  var_is x m locals = rw (fold_out-CExpr, e.outs-Var) refl

  pub lit_is : (w : Width) (n : ℕ) (m : List CBlock) (locals : Locals) → value_of p (e.Lit w n) m locals ≡ tgt.lit w n m locals
  lit_is w n m locals = rw (fold_out-CExpr, e.outs-Lit) refl

  pub cast_is : (w : Width) (a : CExpr) (m : List CBlock) (locals : Locals) → value_of p (e.Cast w a) m locals ≡ tgt.cast w (value_of p a) m locals
  cast_is w a m locals = rw (fold_out-CExpr tgt.CSem (tgt.value_step p) (e.Cast w a), e.outs-Cast) refl

  pub bin_is : (o : CBin) (a b : CExpr) (m : List CBlock) (locals : Locals) → value_of p (e.Bin o a b) m locals ≡ tgt.bin o (value_of p a) (value_of p b) m locals
  bin_is o a b m locals = rw (fold_out-CExpr tgt.CSem (tgt.value_step p) (e.Bin o a b), e.outs-Bin) refl

  pub cmp_is : (w : Width) (o : CmpKind) (a b : CExpr) (m : List CBlock) (locals : Locals) → value_of p (e.Cmp w o a b) m locals ≡ tgt.comparison w o (value_of p a) (value_of p b) m locals
  cmp_is w o a b m locals = rw (fold_out-CExpr tgt.CSem (tgt.value_step p) (e.Cmp w o a b), e.outs-Cmp) refl

  pub build_is : (x : List ℕ) (es : List CExpr) (m : List CBlock) (locals : Locals) → value_of p (e.Build x es) m locals ≡ tgt.build p x (map (value_of p) es) m locals
  build_is x es m locals = rw (fold_out-CExpr, e.outs-Build) refl

  pub field_is : (a : CExpr) (y : List ℕ) (m : List CBlock) (locals : Locals) → value_of p (e.Field a y) m locals ≡ tgt.field p (value_of p a) y m locals
  field_is a y m locals = rw (fold_out-CExpr tgt.CSem (tgt.value_step p) (e.Field a y), e.outs-Field) refl

  module _ (calls : tgt.Calls) where
    abbrev pub do_arm : CArm → tgt.Arm
    do_arm = fold-CArm tgt.Step tgt.Arm (tgt.statement_step p calls) (tgt.arm_step p)

    pub decl_is : (x : CVar) (a : CExpr) (locals : Locals) (s : CState) → do_one p calls (st.Decl x a) locals s ≡ tgt.decl p x (value_of p a) locals s
    decl_is x a locals s = rw (fold_out-CStatement, st.outs-Decl) refl

    pub blank_is : (x : CVar) (locals : Locals) (s : CState) → do_one p calls (st.Blank x) locals s ≡ tgt.blank p x locals s
    blank_is x locals s = rw (fold_out-CStatement, st.outs-Blank) refl

    pub set_is : (x : List ℕ) (a : CExpr) (locals : Locals) (s : CState) → do_one p calls (st.Set x a) locals s ≡ tgt.assign x (value_of p a) locals s
    set_is x a locals s = rw (fold_out-CStatement, st.outs-Set) refl

    pub read_is : (x : CVar) (a b : CExpr) (locals : Locals) (s : CState) → do_one p calls (st.Read x a b) locals s ≡ tgt.read p x (value_of p a) (value_of p b) locals s
    read_is x a b locals s = rw (fold_out-CStatement, st.outs-Read) refl

    pub tab_is : (x : CVar) (y : List ℕ) (a : CExpr) (locals : Locals) (s : CState) → do_one p calls (st.Tab x y a) locals s ≡ tgt.tab p x y (value_of p a) locals s
    tab_is x y a locals s = rw (fold_out-CStatement, st.outs-Tab) refl

    pub write_is : (a b c : CExpr) (locals : Locals) (s : CState) → do_one p calls (st.Write a b c) locals s ≡ tgt.write (value_of p a) (value_of p b) (value_of p c) locals s
    write_is a b c locals s = rw (fold_out-CStatement, st.outs-Write) refl

    pub div_is : (x : CVar) (quotient : Bool) (a b : CExpr) (locals : Locals) (s : CState) → do_one p calls (st.Div x quotient a b) locals s ≡ tgt.div p x quotient (value_of p a) (value_of p b) locals s
    div_is x quotient a b locals s = rw (fold_out-CStatement, st.outs-Div) refl

    pub call_is : (x : CVar) (f : List ℕ) (es : List CExpr) (locals : Locals) (s : CState) → do_one p calls (st.Call x f es) locals s ≡ tgt.call p calls x f (map (value_of p) es) locals s
    call_is x f es locals s = rw (fold_out-CStatement, st.outs-Call) refl

    pub run_is : (f : List ℕ) (es : List CExpr) (locals : Locals) (s : CState) → do_one p calls (st.Run f es) locals s ≡ tgt.run p calls f (map (value_of p) es) locals s
    run_is f es locals s = rw (fold_out-CStatement, st.outs-Run) refl

    pub arm_is : (a : CExpr) (body : List CStatement) → do_arm (roll-CArm (record { test = a; body = body })) ≡ record { test = value_of p a; body = map (do_one p calls) body }
    arm_is a body = rw (fold-roll-CArm)

    pub chain_is : (arms : List CArm) (rest : List CStatement) (locals : Locals) (s : CState) → do_one p calls (st.Chain arms rest) locals s ≡ tgt.chain (map do_arm arms) (map (do_one p calls) rest) locals s
    chain_is arms rest locals s = rw (fold_out-CStatement, st.outs-Chain) refl

    -- if (E) { .. } else { .. }
    pub if_is : (a : CExpr) (body rest : List CStatement) (locals : Locals) (s : CState)
        → do_one p calls (st.Chain (roll-CArm (record { test = a; body = body }) ∷ []) rest) locals s
        ≡ tgt.chain (record { test = value_of p a; body = map (do_one p calls) body } ∷ []) (map (do_one p calls) rest) locals s
    if_is a body rest locals s = rw (chain_is (roll-CArm (record { test = a; body = body }) ∷ []) rest locals s, arm_is a body) refl

    pub loop_is : (first : List CStatement) (test : CExpr) (body : List CStatement) (locals : Locals) (s : CState)
        → do_one p calls (st.Loop first test body) locals s ≡ tgt.loops (map (do_one p calls) first) (value_of p test) (map (do_one p calls) body) locals s
    loop_is first test body locals s = rw (fold_out-CStatement, st.outs-Loop) refl

    pub block_is : (arrays : List CArray) (body : List CStatement) (locals : Locals) (s : CState) → do_one p calls (st.Block arrays body) locals s ≡ tgt.block p arrays (map (do_one p calls) body) locals s
    block_is arrays body locals s = rw (fold_out-CStatement, st.outs-Block) refl

    -- statements in two parts
    pub exec_append : (a b : List CStatement) (locals : Locals) (s : CState) → exec p calls (a ++ b) locals s ≡ bind (exec p calls a locals s) (λ now s. exec p calls b now s)
    exec_append [] b locals s = refl
    exec_append (x ∷ a) b locals s = bind_same (do_one p calls x locals s) _ _ (λ e t. exec_append a b e t) ∙ sym (bind_bind (do_one p calls x locals s) _ _)
