-- What tokens are read as has those tokens, and few levels.
use Rattle.std.proofs.Common.{◌≡◌, ℕ, zero, suc, ◌+◌, Bool, true, false, nat_lt, cond, List, [], ◌∷◌, ◌++◌, length, Option, Some, None, refl, sym, ap, ◌∙◌, subst, append_assoc, arith}
use Rattle.std.proofs.lemmas.List.{append-nil}
use Rattle.std.proofs.lemmas.Grind.{flat_map-append}
use Rattle.std.proofs.lemmas.Bool.Decides.{nat_tests}
use Rattle.std.specs.List.{AllByRecursion}
use Rattle.krml_forms.specs.declared.form.Form.{Form}
use Rattle.krml_forms.specs.declared.form.Form.TheVariants.{Atom, List as Node, outs-Atom, outs-List}
use Rattle.krml_forms.specs.Text.{Token, Open, Close, Word, Foreign, form_tokens}
use Rattle.krml_forms.specs.Levels.{Within, AllWithin}
use Rattle.krml_forms.specs.Nest.{nest}
use Rattle.krml_forms.proofs.Layer.{flat, tokens_of_atom, tokens_of_list, atom_within, list_within}

-- the tokens of what was read so far
abbrev front : List (List Form) → List Form → List Token
front [] inner = flat inner
front (up ∷ outer) inner = front outer up ++ Open ∷ flat inner

-- the innermost list has n levels left
abbrev FrontWithin : ℕ → List (List Form) → List Form → Type 0
FrontWithin n [] inner = AllWithin n inner
FrontWithin n (up ∷ outer) inner = AllWithin n inner × FrontWithin (suc n) outer up

all_push : {X : Type 0} (P : X → Type 0) (xs : List X) (x : X) → AllByRecursion P xs → P x → AllByRecursion P (xs ++ x ∷ [])
all_push P [] x a p = (p, tt)
all_push P (y ∷ xs) x a p = (a.0, all_push P xs x a.1 p)

flat_push : (fs : List Form) (f : Form) → flat (fs ++ f ∷ []) ≡ flat fs ++ form_tokens f
flat_push fs f = flat_map-append form_tokens fs (f ∷ []) ∙ ap (λ ts. flat fs ++ ts) (append-nil (form_tokens f))

front_push : (outer : List (List Form)) (inner : List Form) (f : Form) → front outer (inner ++ f ∷ []) ≡ front outer inner ++ form_tokens f
front_push [] inner f = flat_push inner f
front_push (up ∷ outer) inner f = ap (λ ts. front outer up ++ Open ∷ ts) (flat_push inner f) ∙ sym (simp append_assoc)

within_push : (n : ℕ) (outer : List (List Form)) (inner : List Form) (f : Form) → FrontWithin n outer inner → Within n f → FrontWithin n outer (inner ++ f ∷ [])
within_push n [] inner f s w = all_push (Within n) inner f s w
within_push n (up ∷ outer) inner f s w = (all_push (Within n) inner f s.0 w, s.1)

pub guarded : {A : Type 0} (b : Bool) (x : Option A) (y : A) → cond b x None ≡ Some y → (b ≡ true) × (x ≡ Some y)
guarded true x y e = (refl, e)
guarded false x y e = absurd (cc)

abbrev pub Has : List Token → List Form → Type 0
Has ts forms = (ts ≡ flat forms) × AllWithin 64 forms

has : (ts : List Token) (outer : List (List Form)) (inner : List Form) (n : ℕ) (forms : List Form) → length outer + n ≡ 64 → FrontWithin n outer inner → nest outer inner ts ≡ Some forms → Has (front outer inner ++ ts) forms
has [] [] inner n forms room s e =
    let same : inner ≡ forms = cc in
    let all : n ≡ 64 = omega arith in
    (append-nil (flat inner) ∙ ap flat same, subst (λ m. AllWithin m forms) all (subst (AllWithin n) same s))
has [] (up ∷ outer) inner n forms room s e = absurd (cc)
has (Foreign ∷ ts) outer inner n forms room s e = absurd (cc)
has (Word w ∷ ts) outer inner n forms room s e =
    let more = has ts outer (inner ++ Atom w ∷ []) n forms room (within_push n outer inner (Atom w) s (atom_within n w)) e in
    let pushed : front outer (inner ++ Atom w ∷ []) ≡ front outer inner ++ Word w ∷ [] = front_push outer inner (Atom w) ∙ ap (λ us. front outer inner ++ us) (tokens_of_atom (Atom w) w (outs-Atom w)) in
    let regroup : front outer inner ++ Word w ∷ ts ≡ front outer (inner ++ Atom w ∷ []) ++ ts = sym (rw pushed (simp append_assoc)) in
    (regroup ∙ more.0, more.1)
has (Open ∷ ts) outer inner zero forms room s e =
    let full : nat_lt (length outer) 64 ≡ false = grind (arith, nat_tests) in
    absurd (cc)
has (Open ∷ ts) outer inner (suc n) forms room s e =
    let g = guarded (nat_lt (length outer) 64) (nest (inner ∷ outer) [] ts) forms e in
    let more = has ts (inner ∷ outer) [] n forms (omega arith) (tt, s) g.1 in
    let regroup : front outer inner ++ Open ∷ ts ≡ front (inner ∷ outer) [] ++ ts = sym (simp append_assoc) in
    (regroup ∙ more.0, more.1)
has (Close ∷ ts) [] inner n forms room s e = absurd (cc)
has (Close ∷ ts) (up ∷ outer) inner n forms room s e =
    let more = has ts outer (up ++ Node inner ∷ []) (suc n) forms (omega arith) (within_push (suc n) outer up (Node inner) s.1 (list_within n inner s.0)) e in
    let pushed : front outer (up ++ Node inner ∷ []) ≡ front outer up ++ (Open ∷ flat inner ++ Close ∷ []) = front_push outer up (Node inner) ∙ ap (λ us. front outer up ++ us) (tokens_of_list (Node inner) inner (outs-List inner)) in
    let regroup : front (up ∷ outer) inner ++ Close ∷ ts ≡ front outer (up ++ Node inner ∷ []) ++ ts = sym (rw pushed (simp append_assoc)) in
    (regroup ∙ more.0, more.1)

pub has_forms : (ts : List Token) (forms : List Form) → nest [] [] ts ≡ Some forms → Has ts forms
has_forms ts forms e = has ts [] [] 64 forms refl tt e
