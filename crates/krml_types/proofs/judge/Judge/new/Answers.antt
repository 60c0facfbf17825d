-- Nothing was found yet.
use Rattle.std.proofs.Common.{◌≡◌, ℕ, List, Some, None, sym, subst, ◌∙◌}
use Rattle.std.specs.List.{AllByRecursion}
use Rattle.krml_syntax.specs.declared.tree.Ty.{Ty}
use Rattle.krml_intern.specs.Unlabelled.{IsErased}
use Rattle.krml_types.proofs.judge.Judge.new.Goals as goal

pub invariant_of-result : goal.invariant_of-result
invariant_of-result c = record {
  scope = subst (λ vs. AllByRecursion (λ (v : List ℕ × ℕ). (a : Ty) × IsErased c.new.result v.1 a) vs) (sym c.new-3.ensures) tt;
  found = λ kind k j n e. let none : None ≡ Some n = sym (c.new-2.ensures kind k j) ∙ e in absurd (cc);
}
