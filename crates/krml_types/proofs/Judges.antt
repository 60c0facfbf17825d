-- What the tests of numbers tell of types.
use Rattle.std.proofs.Common.{◌≡◌, ℕ, Bool, true, false, not, ◌&&◌, List, Option, Some, None, Ok, refl, sym, ap, ◌∙◌}
use Rattle.std.specs.Option.{ok_or, is_some}
use Rattle.krml_syntax.specs.declared.tree.Ty.{Ty, out-Ty}
use Rattle.krml_syntax.specs.declared.tree.Ty.TheVariants as ty
use Rattle.krml_syntax.specs.declared.tree.Ty.TheOpen.{Ty-F}
use Rattle.krml_syntax.specs.declared.tree.Def.{Def}
use Rattle.krml_syntax.specs.Read.{◌>>=◌}
use Rattle.krml_syntax.specs.Types.{erased, type_at, is_unit_in, element_of}
use Rattle.krml_ast.specs.Typing.{at}
use Rattle.krml_intern.specs.Unlabelled.{IsErased}
use Rattle.krml_intern.specs.Table.{Table, Grows, IsNumber, head_of}
use Rattle.krml_intern.proofs.Erasing.{element_plain, is_erased_still}
use Rattle.krml_ast.specs.declared.component.Component.{Component}
use Rattle.krml_trace.specs.declared.missing.Missing.TheVariants.{Absent}
use Rattle.krml_types.specs.Holds.{is_set, holds_in, holders}
use Rattle.krml_ast.specs.Components.{written}
use Rattle.krml_types.specs.Instances.{part_at}
use Rattle.krml_types.specs.Judging.{GivesNumber, IsNumberOf, IsAt, IsFound}
use Rattle.krml_types.specs.Types.{is_flat}
use Rattle.krml_types.proofs.Parts.{only_element}

-- ---- numbers

pub number_or_fault : (t : Table) (k : Option ℕ) (r : Option Ty) → IsNumberOf t k r → GivesNumber t (ok_or k Absent) r
number_or_fault t (Some k) r is = is
number_or_fault t None r is = is

-- the element of a type without labels has none
pub element_number : (t : Table) (k : Option ℕ) (a : Ty) → erased a ≡ a → IsNumber t k (element_of (out-Ty a)) → IsNumberOf t k (element_of (out-Ty a))
element_number t None a plain is = is
element_number t (Some k) a plain (b, e, m) =
    let buf : a ≡ ty.Buf b = (only_element a).holds b e in
    (b, e, record { means = m; plain = element_plain b (sym (ap erased buf) ∙ plain ∙ buf) })

-- ---- flat types

abbrev flat_in : List Def → Ty-F Ty → Bool
flat_in defs o = not (is_unit_in o) && not (holds_in defs (holders defs) o)

flat_is : (defs : List Def) (a : Ty) → flat_in defs (out-Ty a) ≡ is_flat defs a
unfolding is_flat
flat_is defs a = refl

unit_in : (defs : List Def) (o : Ty-F Ty) → true ≡ is_unit_in o → false ≡ flat_in defs o
unit_in defs Ty-F.Unit e = refl
unit_in defs Ty-F.Bool e = absurd (cc)
unit_in defs (Ty-F.Int i) e = absurd (cc)
unit_in defs (Ty-F.Buf a) e = absurd (cc)
unit_in defs (Ty-F.Var x) e = absurd (cc)
unit_in defs (Ty-F.Named x args) e = absurd (cc)

pub unit_flat : (defs : List Def) (a : Ty) → true ≡ is_unit_in (out-Ty a) → false ≡ is_flat defs a
unit_flat defs a e = unit_in defs (out-Ty a) e ∙ flat_is defs a

buf_in : (defs : List Def) (o : Ty-F Ty) (b : Ty) → element_of o ≡ Some b → false ≡ flat_in defs o
buf_in defs (Ty-F.Buf a) b e = refl
buf_in defs Ty-F.Unit b e = absurd (cc)
buf_in defs Ty-F.Bool b e = absurd (cc)
buf_in defs (Ty-F.Int i) b e = absurd (cc)
buf_in defs (Ty-F.Var x) b e = absurd (cc)
buf_in defs (Ty-F.Named x args) b e = absurd (cc)

pub buf_flat : (defs : List Def) (a : Ty) (t : Table) (k : Option ℕ) → is_some k ≡ true → IsNumber t k (element_of (out-Ty a)) → false ≡ is_flat defs a
buf_flat defs a t (Some k) e (b, is, m) = buf_in defs (out-Ty a) b is ∙ flat_is defs a
buf_flat defs a t None e is = absurd (cc)

named_in : (defs : List Def) (o : Ty-F Ty) (x : List ℕ) → Some x ≡ head_of o → not (is_set defs (holders defs) x) ≡ flat_in defs o
named_in defs (Ty-F.Named y args) x e = let same : x ≡ y = cc in ap (λ z. not (is_set defs (holders defs) z)) same
named_in defs Ty-F.Unit x e = absurd (cc)
named_in defs Ty-F.Bool x e = absurd (cc)
named_in defs (Ty-F.Int i) x e = absurd (cc)
named_in defs (Ty-F.Buf a) x e = absurd (cc)
named_in defs (Ty-F.Var y) x e = absurd (cc)

pub named_flat : (defs : List Def) (a : Ty) (x : List ℕ) → Some x ≡ head_of (out-Ty a) → not (is_set defs (holders defs) x) ≡ is_flat defs a
named_flat defs a x e = named_in defs (out-Ty a) x e ∙ flat_is defs a

other_in : (defs : List Def) (o : Ty-F Ty) → false ≡ is_unit_in o → element_of o ≡ None → None ≡ head_of o → true ≡ flat_in defs o
other_in defs Ty-F.Bool u e h = refl
other_in defs (Ty-F.Int i) u e h = refl
other_in defs (Ty-F.Var x) u e h = refl
other_in defs Ty-F.Unit u e h = absurd (cc)
other_in defs (Ty-F.Buf a) u e h = absurd (cc)
other_in defs (Ty-F.Named x args) u e h = absurd (cc)

pub other_flat : (defs : List Def) (a : Ty) (t : Table) (k : Option ℕ) → false ≡ is_unit_in (out-Ty a) → is_some k ≡ false → IsNumber t k (element_of (out-Ty a)) → None ≡ head_of (out-Ty a)
    → true ≡ is_flat defs a
other_flat defs a t None u n e h = other_in defs (out-Ty a) u e h ∙ flat_is defs a
other_flat defs a t (Some k) u n e h = absurd (cc)

-- ---- components

pub part_written : (defs : List Def) (kind : Component) (x : List ℕ) (args : List Ty) (j : ℕ) (vars : List (List ℕ)) (a : Ty)
    → written defs kind x j ≡ Some (vars, a) → part_at defs kind x args j ≡ Some (erased (type_at vars args a))
part_written defs kind x args j vars a e = ap (λ o. o >>= λ w. Some (at w.0 args w.1)) e

pub head_name : (x y : List ℕ) (args : List Ty) → Some x ≡ head_of (out-Ty (ty.Named y args)) → x ≡ y
head_name x y args e = let both : Some x ≡ Some y = e ∙ ap head_of (ty.outs-Named y args) in cc

-- a component that was just computed
pub found_now : (s t : Table) (defs : List Def) (kind : Component) (k j n : ℕ) → IsAt s k → Grows s t
    → ((x : List ℕ) (args : List Ty) → IsErased s k (ty.Named x args) → GivesNumber t (Ok n) (part_at defs kind x args j)) → IsFound t defs kind k j n
found_now s t defs kind k j n at g value =
    let v : (a : Ty) × (part_at defs kind at.name at.args j ≡ Some a) × IsErased t n a = value at.name at.args at.is in
    record { name = at.name; args = at.args; type = v.0; is = is_erased_still s t g k (ty.Named at.name at.args) at.is; part = v.1; found = v.2 }
