-- Judges whose types, scopes and components grow.
use Prim.Native.Nat.{zero, suc}
use Rattle.std.proofs.Common.{◌≡◌, ℕ, ◌-◌, Bool, true, false, if◌then◌else◌, List, [], ◌∷◌, length, drop, take, map, get_or, Option, Some, Ok, Bor, refl, sym, ap, subst, ◌∙◌}
use Rattle.std.specs.List.{AllByRecursion}
use Rattle.std.specs.Option.{option_copied}
use Rattle.std.specs.Str.{bytes_eq}
use Rattle.std.proofs.lemmas.Option.{get_or_from_slice_get}
use Rattle.std.proofs.lemmas.List.{length-map}
use Rattle.krml_syntax.specs.declared.tree.Ty.{Ty, out-Ty}
use Rattle.krml_syntax.specs.declared.tree.Ty.TheVariants as ty
use Rattle.krml_syntax.specs.declared.tree.Ty.TheOpen.{Ty-F}
use Rattle.krml_syntax.specs.declared.tree.Slot.{Slot}
use Rattle.krml_syntax.specs.declared.tree.Def.{Def}
use Rattle.krml_intern.specs.Scope.{look, cut, is_new, are_distinct}
use Rattle.krml_intern.specs.Table.{Table, Grows}
use Rattle.krml_intern.specs.Unlabelled.{IsErased}
use Rattle.krml_intern.proofs.Erasing.{is_erased_still, one_meaning}
use Rattle.krml_ast.specs.declared.component.Component.{Component}
use Rattle.krml_ast.specs.Components.{Found, found_at, Adds}
use Rattle.krml_ast.proofs.ComponentsMore.{found_more}
use Rattle.krml_types.specs.Instances.{part_at}
use Rattle.krml_types.specs.Judging.{Place, typed, GivesNumber, IsNumberOf, IsFound, IsJudge}

-- ---- numbers

abbrev name_in : Ty-F Ty → List ℕ
name_in (Ty-F.Named x args) = x
name_in _ = []

abbrev args_in : Ty-F Ty → List Ty
args_in (Ty-F.Named x args) = args
args_in _ = []

pub same_name : (x y : List ℕ) (args more : List Ty) → ty.Named x args ≡ ty.Named y more → x ≡ y
same_name x y args more e = sym (ap name_in (ty.outs-Named x args)) ∙ ap (λ a. name_in (out-Ty a)) e ∙ ap name_in (ty.outs-Named y more)

pub same_args : (x y : List ℕ) (args more : List Ty) → ty.Named x args ≡ ty.Named y more → args ≡ more
same_args x y args more e = sym (ap args_in (ty.outs-Named x args)) ∙ ap (λ a. args_in (out-Ty a)) e ∙ ap args_in (ty.outs-Named y more)

-- ---- the scope

-- each variable has the number of a type
abbrev pub AreTyped : Table → List (List ℕ × ℕ) → Type 0
AreTyped t vs = AllByRecursion (λ (v : List ℕ × ℕ). (a : Ty) × IsErased t v.1 a) vs

pub typed_still : (s t : Table) → Grows s t → (vs : List (List ℕ × ℕ)) → AreTyped s vs → typed t vs ≡ typed s vs
typed_still s t g [] all = refl
typed_still s t g (v ∷ vs) all =
    let one : get_or t.types v.1 ty.Unit ≡ get_or s.types v.1 ty.Unit
    = get_or_from_slice_get t.types v.1 all.0.0 ty.Unit (g.types v.1 all.0.0 all.0.1.means) ∙ sym (get_or_from_slice_get s.types v.1 all.0.0 ty.Unit all.0.1.means) in
    ap (λ a. (v.0, a) ∷ typed t vs) one ∙ ap (λ g. (v.0, get_or s.types v.1 ty.Unit) ∷ g) (typed_still s t g vs all.1)

pub scope_still : (s t : Table) → Grows s t → (vs : List (List ℕ × ℕ)) → AreTyped s vs → AreTyped t vs
scope_still s t g [] all = tt
scope_still s t g (v ∷ vs) all = ((all.0.0, is_erased_still s t g v.1 all.0.0 all.0.1), scope_still s t g vs all.1)

pub looked_up : (t : Table) (vs : List (List ℕ × ℕ)) (x : List ℕ) → AreTyped t vs → IsNumberOf t (look vs x) (look (typed t vs) x)
looked_up t [] x all = refl
looked_up t (v ∷ vs) x all = go (looked_up t vs x all.1) (bytes_eq v.0 x)
  where
    go : IsNumberOf t (look vs x) (look (typed t vs) x) → (b : Bool) → IsNumberOf t (if b then Some v.1 else look vs x) (if b then Some (get_or t.types v.1 ty.Unit) else look (typed t vs) x)
    go later true = (all.0.0, ap Some (get_or_from_slice_get t.types v.1 all.0.0 ty.Unit all.0.1.means), all.0.1)
    go later false = later

drop_map : {A B : Type 0} (f : A → B) (n : ℕ) (xs : List A) → map f (drop n xs) ≡ drop n (map f xs)
drop_map f zero xs = refl
drop_map f (suc n) [] = refl
drop_map f (suc n) (x ∷ xs) = drop_map f n xs

take_map : {A B : Type 0} (f : A → B) (n : ℕ) (xs : List A) → map f (take n xs) ≡ take n (map f xs)
take_map f zero xs = refl
take_map f (suc n) [] = refl
take_map f (suc n) (x ∷ xs) = ap (λ ys. f x ∷ ys) (take_map f n xs)

abbrev one_typed : Table → List ℕ × ℕ → List ℕ × Ty
one_typed t v = (v.0, get_or t.types v.1 ty.Unit)

pub typed_length : (t : Table) (vs : List (List ℕ × ℕ)) → length (typed t vs) ≡ length vs
typed_length t vs = length-map vs (one_typed t)

pub typed_cut : (t : Table) (n : ℕ) (vs : List (List ℕ × ℕ)) → typed t (cut n vs) ≡ cut n (typed t vs)
typed_cut t n vs = drop_map (one_typed t) (length vs - n) vs ∙ ap (λ m. drop (m - n) (typed t vs)) (sym (typed_length t vs))

new_typed : (t : Table) (vs : List (List ℕ × ℕ)) (x : List ℕ) → is_new (typed t vs) x ≡ is_new vs x
new_typed t [] x = refl
new_typed t (v ∷ vs) x = rw (new_typed t vs x) refl

distinct_typed : (t : Table) (vs : List (List ℕ × ℕ)) → are_distinct (typed t vs) ≡ are_distinct vs
distinct_typed t [] = refl
distinct_typed t (v ∷ vs) = rw (new_typed t vs v.0, distinct_typed t vs) refl

pub distinct_newest : (t : Table) (vs : List (List ℕ × ℕ)) (n : ℕ) → are_distinct (take (length vs - n) vs) ≡ are_distinct (take (length (typed t vs) - n) (typed t vs))
distinct_newest t vs n =
    sym (distinct_typed t (take (length vs - n) vs)) ∙ ap are_distinct (take_map (one_typed t) (length vs - n) vs)
    ∙ ap (λ m. are_distinct (take (m - n) (typed t vs))) (sym (typed_length t vs))

-- ---- components

pub found_still : (s t : Table) → Grows s t → (defs : List Def) (kind : Component) (k j n : ℕ) → IsFound s defs kind k j n → IsFound t defs kind k j n
found_still s t g defs kind k j n f = record {
  name = f.name;
  args = f.args;
  type = f.type;
  is = is_erased_still s t g k (ty.Named f.name f.args) f.is;
  part = f.part;
  found = is_erased_still s t g n f.type f.found;
}

pub judge_still : (defs : List Def) (s t : Table) (cs : Found) (vs : List (List ℕ × ℕ)) → Grows s t → IsJudge defs s cs vs → IsJudge defs t cs vs
judge_still defs s t cs vs g ok = record {
  scope = scope_still s t g vs ok.scope;
  found = λ kind k j n e. found_still s t g defs kind k j n (ok.found kind k j n e);
}

pub found_gives : (t : Table) (defs : List Def) (kind : Component) (k j n : ℕ) (x : List ℕ) (args : List Ty) → IsFound t defs kind k j n → IsErased t k (ty.Named x args)
    → GivesNumber t (Ok n) (part_at defs kind x args j)
found_gives t defs kind k j n x args f e =
    let one : ty.Named f.name f.args ≡ ty.Named x args = one_meaning t k (ty.Named f.name f.args) (ty.Named x args) f.is.means e.means in
    let names = same_name f.name x f.args args one in
    let all = same_args f.name x f.args args one in
    (f.type, subst (λ y. part_at defs kind y args j ≡ Some f.type) names (subst (λ zs. part_at defs kind f.name zs j ≡ Some f.type) all f.part), f.found)

pub judge_more : (defs : List Def) (t : Table) (cs more : Found) (vs : List (List ℕ × ℕ)) (kind : Component) (k j n : ℕ)
    → IsJudge defs t cs vs → IsFound t defs kind k j n → Adds cs kind k j n more → IsJudge defs t more vs
judge_more defs t cs more vs kind k j n ok f put = record { scope = ok.scope; found = found_more (IsFound t defs) cs more kind k j n ok.found f put }

pub judge_same : (defs : List Def) (t : Table) (cs more : Found) (vs : List (List ℕ × ℕ))
    → IsJudge defs t cs vs → ((c : Component) (l i : ℕ) → found_at more c l i ≡ found_at cs c l i) → IsJudge defs t more vs
judge_same defs t cs more vs ok same = record { scope = ok.scope; found = λ kind k j n e. ok.found kind k j n (sym (same kind k j) ∙ e) }

-- ---- the place

abbrev pub seen_at : List Def → List (List ℕ) → Table → List (List ℕ × ℕ) → Option (Bor (List Slot)) → Place
seen_at defs tvars t vs frame = record { defs = defs; tvars = tvars; scope = record { vars = typed t vs; frame = option_copied frame } }

-- it is the same, seen through types that grew
pub place_still : (defs : List Def) (tvars : List (List ℕ)) (s t : Table) (cs : Found) (vs : List (List ℕ × ℕ)) (frame : Option (Bor (List Slot))) → Grows s t → IsJudge defs s cs vs
    → seen_at defs tvars t vs frame ≡ seen_at defs tvars s vs frame
place_still defs tvars s t cs vs frame g ok = ap (λ vars. record { defs = defs; tvars = tvars; scope = record { vars = vars; frame = option_copied frame } }) (typed_still s t g vs ok.scope)
