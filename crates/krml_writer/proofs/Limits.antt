-- Limits that forms exceed nowhere, forms that differ in how their numbers are written exceed nowhere.
use Rattle.std.proofs.Common.{◌≡◌, ℕ, List, [], ◌∷◌, Option, Some, None, refl, subst}
use Rattle.krml_forms.specs.declared.form.Form.{Form}
use Rattle.krml_syntax.specs.declared.limit.LimitKind.{LimitKind}
use Rattle.krml_syntax.specs.declared.limit.LimitKind.TheVariants as k
use Rattle.krml_syntax.specs.declared.tree.Def.{Def}
use Rattle.krml_syntax.specs.declared.tree.Def.TheVariants as d
use Rattle.krml_syntax.specs.Limits.{limit_of, kinds, counts_in, counts_each, excess, excess_or, first_excess_of, first_excess}
use Rattle.krml_writer.proofs.Alike.{Alike, AllAlike}
use Rattle.krml_writer.proofs.Kept.{Fits, both_fit, parts_fit, same_count, names_fit, same_allocs}

counts_fit : (kind : LimitKind) (def : Def) {f g : Form} → Alike f g → Fits (limit_of kind) (counts_in kind f def) → Fits (limit_of kind) (counts_in kind g def)
counts_fit k.Name def a fit = names_fit a fit
counts_fit k.Forms (d.Fun x vars params result body) a fit = subst (λ n. Fits 8000 (n ∷ [])) (same_count a) fit
counts_fit k.Elements (d.Fun x vars params result body) a fit = subst (Fits 65536) (same_allocs a) fit
counts_fit _ _ a fit = fit

each_fit : (kind : LimitKind) {fs gs : List Form} (defs : List Def) → AllAlike fs gs → Fits (limit_of kind) (counts_each kind fs defs) → Fits (limit_of kind) (counts_each kind gs defs)
each_fit kind defs AllAlike.none fit = fit
each_fit kind [] (AllAlike.one a more) fit = fit
each_fit kind (def ∷ defs) (AllAlike.one {f = f} {g = g} {fs = fs} {gs = gs} a more) fit =
    let p = parts_fit (limit_of kind) (counts_in kind f def) (counts_each kind fs defs) fit in
    both_fit (limit_of kind) (counts_in kind g def) (counts_each kind gs defs) (counts_fit kind def a p.0) (each_fit kind defs more p.1)

no_excess : (kind : LimitKind) {fs gs : List Form} (defs : List Def) → AllAlike fs gs → excess kind fs defs ≡ None → excess kind gs defs ≡ None
no_excess k.Definitions defs a fit = fit
no_excess k.Name defs a fit = each_fit k.Name defs a fit
no_excess k.Forms defs a fit = each_fit k.Forms defs a fit
no_excess k.Variables defs a fit = each_fit k.Variables defs a fit
no_excess k.Parameters defs a fit = each_fit k.Parameters defs a fit
no_excess k.Fields defs a fit = each_fit k.Fields defs a fit
no_excess k.Constructors defs a fit = each_fit k.Constructors defs a fit
no_excess k.Elements defs a fit = each_fit k.Elements defs a fit

-- where there is an excess of no kind, there is none of this one and none of a later one
none_here : (kind : LimitKind) (later : Option (LimitKind × ℕ)) (here : Option ℕ) → excess_or kind later here ≡ None → (here ≡ None) × (later ≡ None)
none_here kind later None e = (refl, e)
none_here kind later (Some n) e = absurd (cc)

none_of : (ks : List LimitKind) {fs gs : List Form} (defs : List Def) → AllAlike fs gs → first_excess_of ks fs defs ≡ None → first_excess_of ks gs defs ≡ None
none_of [] defs a e = refl
none_of (kind ∷ ks) {fs = fs} defs a e =
    let p = none_here kind (first_excess_of ks fs defs) (excess kind fs defs) e in
    rw (no_excess kind defs a p.0) (none_of ks defs a p.1)

pub within_limits : {fs gs : List Form} (defs : List Def) → AllAlike fs gs → first_excess fs defs ≡ None → first_excess gs defs ≡ None
within_limits defs a e = none_of kinds defs a e
