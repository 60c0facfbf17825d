-- What is computed at two equal places is the same.
use Rattle.std.proofs.Common.{◌≡◌, ℕ, Result, ap, subst}
use Rattle.krml_syntax.specs.declared.tree.Ty.{Ty}
use Rattle.krml_syntax.specs.declared.tree.Expr.{Expr}
use Rattle.krml_intern.specs.Table.{Table}
use Rattle.krml_trace.specs.declared.missing.Missing.{Missing}
use Rattle.krml_types.specs.Expressions.{has, type_of}
use Rattle.krml_trace.specs.Gives.{Gives}
use Rattle.krml_types.specs.Judging.{Place, GivesNumber}

pub same_has : (p q : Place) (x : Expr) (a : Ty) → p ≡ q → has (type_of p.defs p.tvars x) a p.scope ≡ has (type_of q.defs q.tvars x) a q.scope
same_has p q x a e = ap (λ (p : Place). has (type_of p.defs p.tvars x) a p.scope) e

pub same_type : (p q : Place) (x : Expr) → p ≡ q → type_of p.defs p.tvars x p.scope ≡ type_of q.defs q.tvars x q.scope
same_type p q x e = ap (λ (p : Place). type_of p.defs p.tvars x p.scope) e

pub moved_has : (p q : Place) (x : Expr) (a : Ty) (r : Result (Unit {0}) Missing) → p ≡ q → Gives r (has (type_of p.defs p.tvars x) a p.scope) → Gives r (has (type_of q.defs q.tvars x) a q.scope)
moved_has p q x a r e g = subst (λ o. Gives r o) (same_has p q x a e) g

pub moved_type : (t : Table) (p q : Place) (x : Expr) (r : Result ℕ Missing) → p ≡ q → GivesNumber t r (type_of p.defs p.tvars x p.scope) → GivesNumber t r (type_of q.defs q.tvars x q.scope)
moved_type t p q x r e g = subst (λ o. GivesNumber t r o) (same_type p q x e) g
