use Rattle.std.proofs.Common.{◌≡◌, ℕ, Option, Some, sym, subst, ◌∙◌}
use Rattle.krml_syntax.specs.declared.tree.Ty.{out-Ty}
use Rattle.krml_syntax.specs.Types.{element_of}
use Rattle.krml_intern.specs.declared.node.Node.{Node}
use Rattle.krml_intern.specs.Table.{Stands, IsNumber}
use Rattle.krml_intern.proofs.Puts.{element_is}
use Rattle.krml_intern.proofs.type_table.TypeTable.element.Goals as goal

pub returns-in_default : goal.returns-in_default
returns-in_default c = λ a m. let s = c.node.ensures.stands a m in absurd (c.in_default.not-Some s.0 s.1)

pub returns : goal.returns
returns c = λ a m.
    let s = c.node.ensures.stands a m in
    let is : s.0 ≡ c.in-Some.node = let both : Some s.0 ≡ Some c.in-Some.node = sym s.1 ∙ c.in-Some.is in cc in
    subst (λ (o : Option ℕ). IsNumber c.args.self.now o (element_of (out-Ty a))) (sym c.element.ensures)
    (element_is c.args.self.now c.in-Some.node a (subst (λ (x : Node). Stands c.args.self.now x a) is s.2))
