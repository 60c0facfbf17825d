use Rattle.std.proofs.Common.{◌≡◌, ◌<◌, false, length, sym, ◌∙◌, subst, arith}
use Rattle.krml_forms.specs.Text.{plain}
use Rattle.krml_forms.proofs.Places.{SoFar, goes_on, stops, open_at_end, all_closed, length_plain, inside_plain, turn}
use Rattle.krml_forms.proofs.fault.first_fault.Goals as goal

pub returns-in-None : goal.returns-in-None
returns-in-None c =
    let text = c.args.text.now in
    let i = c.loop-i.i in
    let l : i < length text = omega arith in
    let m = inside_plain text i l in
    let t = turn (plain text) text i c.loop-i.comments.is_open l m c.loop-i.invariant.rest in
    stops (plain text) i c.loop-i.depth c.blank-plain.result m (t.0 ∙ sym c.blank-plain.ensures.byte) c.loop-i.invariant.so_far (sym c.in-None.ensures)

pub loop-i-preserved : goal.loop-i-preserved
loop-i-preserved c =
    let text = c.args.text.now in
    let i = c.loop-i.i in
    let l : i < length text = omega arith in
    let m = inside_plain text i l in
    let t = turn (plain text) text i c.loop-i.comments.is_open l m c.loop-i.invariant.rest in
    record {
      rest = rw c.blank-plain.ensures.state t.1;
      so_far = goes_on (plain text) i c.loop-i.depth c.blank-plain.result m (t.0 ∙ sym c.blank-plain.ensures.byte) c.loop-i.invariant.so_far c.in-Some.behind (sym c.in-Some.ensures);
    }

pub returns-then-depth-gt0 : goal.returns-then-depth-gt0
returns-then-depth-gt0 c =
    let text = c.args.text.now in
    let e : c.loop-i.i ≡ length text = omega arith in
    let s = subst (λ n. SoFar (plain text) n c.loop-i.depth) e c.loop-i.invariant.so_far in
    open_at_end (plain text) (length text) c.loop-i.depth (sym (length_plain text false)) s c.if-depth-gt0.true

pub returns-else-depth-gt0 : goal.returns-else-depth-gt0
returns-else-depth-gt0 c =
    let text = c.args.text.now in
    let e : c.loop-i.i ≡ length text = omega arith in
    let s = subst (λ n. SoFar (plain text) n c.loop-i.depth) e c.loop-i.invariant.so_far in
    all_closed (plain text) (length text) c.loop-i.depth (sym (length_plain text false)) s (omega arith)
