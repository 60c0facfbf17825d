use Rattle.std.proofs.Common.{◌≡◌, ◌<◌, false, [], length, drop, sym, ap, ◌∙◌, ◌∷◌, ◌+◌, subst, arith}
use Rattle.std.proofs.lemmas.List.{at_drop_all}
use Rattle.krml_forms.specs.Text.{plain}
use Rattle.krml_forms.specs.Cut.{reading, tokens_after}
use Rattle.krml_forms.proofs.Cuts.{tokens_are_cut}
use Rattle.krml_forms.proofs.Nested.{has_forms}
use Rattle.krml_forms.proofs.Places.{SoFar, goes_on, stays_shallow, stops, open_at_end, length_plain, inside_plain, split, turn}
use Rattle.krml_forms.proofs.read.read_forms.Goals as goal

pub returns-in-Fault : goal.returns-in-Fault
returns-in-Fault c =
    let text = c.args.text.now in
    let i = c.loop-i.i in
    let l : i < length text = omega arith in
    let m = inside_plain text i l in
    let t = turn (plain text) text i c.loop-i.comments.is_open l m c.loop-i.invariant.rest in
    let moves = rw c.in-Fault.is at c.in_ok-byte.ensures.moves in
    stops (plain text) i (length c.loop-i.cutter.nest.outer.items) c.blank-plain.result m (t.0 ∙ sym c.blank-plain.ensures.byte) c.loop-i.invariant.so_far moves

pub loop-i-preserved : goal.loop-i-preserved
loop-i-preserved c =
    let text = c.args.text.now in
    let i = c.loop-i.i in
    let l : i < length text = omega arith in
    let m = inside_plain text i l in
    let t = turn (plain text) text i c.loop-i.comments.is_open l m c.loop-i.invariant.rest in
    let here = t.0 ∙ sym c.blank-plain.ensures.byte in
    let d = length c.loop-i.cutter.nest.outer.items in
    let moves = rw c.in-On.is at c.in_ok-byte.ensures.moves in
    let reads = rw c.in-On.is at c.in_ok-byte.ensures.reads in
    let next : drop i (plain text) ≡ c.blank-plain.result ∷ drop (i + 1) (plain text) = split (plain text) i m ∙ ap (λ b. b ∷ drop (i + 1) (plain text)) here in
    record {
      same = sym (reads (drop (i + 1) (plain text))) ∙ ap (reading c.loop-i.cutter) (sym next) ∙ c.loop-i.invariant.same;
      rest = rw c.blank-plain.ensures.state t.1;
      so_far = goes_on (plain text) i d c.blank-plain.result m here c.loop-i.invariant.so_far (length c.byte.new.self.nest.outer.items) moves.0;
      shallow = stays_shallow (plain text) i d c.blank-plain.result m here c.loop-i.invariant.so_far moves.1 c.loop-i.invariant.shallow;
    }

pub returns-in-Some : goal.returns-in-Some
returns-in-Some c =
    let text = c.args.text.now in
    let i = c.loop-i.i in
    let end = at_drop_all (reading c.loop-i.cutter) (plain text) i (omega (arith, length_plain text false)) in
    let has = has_forms (tokens_after [] (plain text)) c.in-Some.forms (sym c.loop-i.invariant.same ∙ end ∙ sym c.in_ok-forms.ensures.forms ∙ c.in-Some.is) in
    (sym (tokens_are_cut (plain text)) ∙ has.0, has.1)

pub returns-in-None : goal.returns-in-None
returns-in-None c =
    let text = c.args.text.now in
    let e : c.loop-i.i ≡ length text = omega arith in
    let d = length c.loop-i.cutter.nest.outer.items in
    let s = subst (λ n. SoFar (plain text) n d) e c.loop-i.invariant.so_far in
    let open_lists = rw c.in-None.is at c.in_ok-forms.ensures.closes in
    open_at_end (plain text) (length text) d (sym (length_plain text false)) s open_lists
