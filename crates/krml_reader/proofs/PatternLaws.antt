-- What forms are read as, patterns, is what they spell, and what they spell they are read as.
use Rattle.std.proofs.Common.{◌≡◌, ℕ, zero, suc, Bool, true, false, cond, List, [], ◌∷◌, ◌++◌, codes, Option, Some, None, refl, sym, ap, ◌∙◌, subst}
use Rattle.std.proofs.lemmas.Slice.Eq.{bytes_eq-Decides}
use Rattle.std.specs.Str.{bytes_eq}
use Rattle.krml_forms.specs.declared.form.Form.{Form, out-Form}
use Rattle.krml_forms.specs.declared.form.Form.TheOpen.{Form-F}
use Rattle.krml_forms.specs.declared.form.Form.TheVariants.{Atom, List as Node, outs-Atom, outs-List}
use Rattle.krml_forms.specs.Levels.{Within, AllWithin}
use Rattle.krml_forms.proofs.Layer.{is_atom, is_list, list_inside}
use Rattle.krml_syntax.specs.declared.tree.Pat.{Pat}
use Rattle.krml_syntax.specs.declared.tree.Pat.TheVariants as p
use Rattle.krml_syntax.specs.declared.tree.IntTy.{IntTy}
use Rattle.krml_syntax.specs.Name.{is_name, is_reserved, IsName}
use Rattle.krml_syntax.specs.Spelling.{int_word, bool_word, SpellsPat, SpellsPats, Each}
use Rattle.krml_syntax.proofs.Only.{Only, only_none, only_some, only_then}
use Rattle.krml_reader.specs.declared.keyword.Keyword.{Keyword}
use Rattle.krml_reader.specs.declared.keyword.Keyword.TheVariants as k
use Rattle.krml_reader.specs.Each.{each_after, each_of}
use Rattle.krml_reader.specs.Keyword.{spelling, keyword_of, keyword_at}
use Rattle.krml_reader.specs.Words.{name_of, name_at, number_of_width}
use Rattle.krml_reader.specs.Pattern.{bound_of, word_by, atom_of, number_of, parts_by, con_by, make_by, head_by, list_by, pat_in, list_at, pat_at, pats_of}
use Rattle.krml_reader.proofs.KeywordLaws.{keyword_here, word_is, keyword_is}
use Rattle.krml_reader.proofs.WordLaws.{name_of_only, name_of_again, name_only, name_again, number_only, number_again}
use Rattle.krml_reader.proofs.EachLaws.{each_only, one_after, none_after}

-- ---- what is read is spelled

bound_only : (w : List ℕ) → Only (SpellsPat (Atom w)) (bound_of w)
bound_only w = only_then (name_of w) (name_of_only w) (λ x is. only_some (p.Bind x) (subst (λ v. SpellsPat (Atom v) (p.Bind x)) (sym is.0) (SpellsPat.bind is.1)))

word_only : (w : List ℕ) → Only (SpellsPat (Atom w)) (word_by (keyword_of w) w)
word_only w = go (keyword_of w) refl
  where
    go : (c : Option Keyword) → keyword_of w ≡ c → Only (SpellsPat (Atom w)) (word_by c w)
    go (Some (k.Truth b)) e = only_some (p.Bool b) (subst (λ v. SpellsPat (Atom v) (p.Bool b)) (sym (word_is w (k.Truth b) e)) SpellsPat.bool)
    go _ e = bound_only w

atom_only : (w : List ℕ) → Only (SpellsPat (Atom w)) (atom_of w)
atom_only w = go (bytes_eq w (codes "_")) refl
  where
    go : (q : Bool) → bytes_eq w (codes "_") ≡ q → Only (SpellsPat (Atom w)) (cond q (Some p.Any) (word_by (keyword_of w) w))
    go true h = only_some p.Any (subst (λ v. SpellsPat (Atom v) p.Any) (sym ((bytes_eq-Decides w (codes "_")).0 h)) SpellsPat.any)
    go false h = word_only w

number_here : (i : IntTy) (fs : List Form) → Only (SpellsPat (Node (Atom (int_word i) ∷ fs))) (number_of i fs)
number_here i (f ∷ []) = only_then (number_of_width i.width f) (number_only i.width f) (λ n s. only_some (p.Num i n) (SpellsPat.num s))
number_here i _ = only_none

pats_from : {fs : List Form} {ps : List Pat} → Each SpellsPat fs ps → SpellsPats fs ps
pats_from Each.none = SpellsPats.none
pats_from (Each.one s more) = SpellsPats.one s (pats_from more)

module _ (pat : Form → Option Pat) (sound : (f : Form) → Only (SpellsPat f) (pat f)) where
  -- a name, and patterns
  abbrev IsParts : List Form → List ℕ × List Pat → Type 0
  IsParts fs xps = (gs : List Form) × (fs ≡ Atom xps.0 ∷ gs) × IsName xps.0 × SpellsPats gs xps.1

  parts_only : (fs : List Form) → Only (IsParts fs) (parts_by pat fs)
  parts_only [] = only_none
  parts_only (name ∷ fs) =
      only_then (name_at name) (name_only name) (λ x is. only_then (each_of pat fs) (each_only SpellsPat pat sound fs) (λ ps each.
      only_some (x, ps) (fs, ap (λ g. g ∷ fs) is.0, is.1, pats_from each)))

  con_only : (fs : List Form) → Only (SpellsPat (Node (Atom (spelling k.Con) ∷ fs))) (con_by pat fs)
  con_only fs = only_then (parts_by pat fs) (parts_only fs) (λ xps is. only_some (p.Con xps.0 xps.1)
      (subst (λ gs. SpellsPat (Node (Atom (spelling k.Con) ∷ gs)) (p.Con xps.0 xps.1)) (sym is.1) (SpellsPat.con is.2 is.3)))

  make_only : (fs : List Form) → Only (SpellsPat (Node (Atom (spelling k.Make) ∷ fs))) (make_by pat fs)
  make_only fs = only_then (parts_by pat fs) (parts_only fs) (λ xps is. only_some (p.Make xps.0 xps.1)
      (subst (λ gs. SpellsPat (Node (Atom (spelling k.Make) ∷ gs)) (p.Make xps.0 xps.1)) (sym is.1) (SpellsPat.make is.2 is.3)))

  -- what stands behind a keyword
  behind_only : (c : Keyword) (fs : List Form) → Only (SpellsPat (Node (Atom (spelling c) ∷ fs))) (head_by pat (Some c) fs)
  behind_only (k.Int i) fs = number_here i fs
  behind_only k.Con fs = con_only fs
  behind_only k.Make fs = make_only fs
  behind_only _ fs = only_none

  head_only : (c : Option Keyword) (head : Form) (fs : List Form) → keyword_at head ≡ c → Only (SpellsPat (Node (head ∷ fs))) (head_by pat c fs)
  head_only None head fs h = only_none
  head_only (Some c) head fs h = subst (λ g. Only (SpellsPat (Node (g ∷ fs))) (head_by pat (Some c) fs)) (sym (keyword_is head c h)) (behind_only c fs)

  list_by_only : (fs : List Form) → Only (SpellsPat (Node fs)) (list_by pat fs)
  list_by_only [] = only_none
  list_by_only (head ∷ fs) = head_only (keyword_at head) head fs refl

pat_in_only : (inner : List Form → Option Pat) → ((fs : List Form) → Only (SpellsPat (Node fs)) (inner fs)) → (f : Form) (x : Form-F Form) → out-Form f ≡ x → Only (SpellsPat f) (pat_in inner x)
pat_in_only inner h f (Form-F.Atom w) o = subst (λ g. Only (SpellsPat g) (atom_of w)) (sym (is_atom f w o)) (atom_only w)
pat_in_only inner h f (Form-F.List fs) o = subst (λ g. Only (SpellsPat g) (inner fs)) (sym (is_list f fs o)) (h fs)

levels_only : (n : ℕ) (fs : List Form) → Only (SpellsPat (Node fs)) (list_at n fs)
unfolding list_at
levels_only zero fs = only_none
levels_only (suc n) fs = list_by_only (pat_at n) (λ f. pat_in_only (list_at n) (levels_only n) f (out-Form f) refl) fs

pub pat_only : (n : ℕ) (f : Form) → Only (SpellsPat f) (pat_at n f)
pat_only n f = pat_in_only (list_at n) (levels_only n) f (out-Form f) refl

-- ---- what is spelled is read

list_again : (m : ℕ) (fs : List Form) → pat_at (suc m) (Node fs) ≡ list_by (pat_at m) fs
unfolding list_at
list_again m fs = ap (pat_in (list_at (suc m))) (outs-List fs)

-- a list is read as what its forms are read as, one level down
through : (n m : ℕ) (fs : List Form) (a : Pat) → n ≡ suc m → list_by (pat_at m) fs ≡ Some a → pat_at n (Node fs) ≡ Some a
through n m fs a e here = ap (λ i. pat_at i (Node fs)) e ∙ list_again m fs ∙ here

atom_here : (n : ℕ) (w : List ℕ) (a : Pat) → atom_of w ≡ Some a → pat_at n (Atom w) ≡ Some a
atom_here n w a e = ap (pat_in (list_at n)) (outs-Atom w) ∙ e

truth_here : (b : Bool) → atom_of (bool_word b) ≡ Some (p.Bool b)
unfolding keyword_of
truth_here true = refl
truth_here false = refl

-- true and false are no names
pub no_truth : (b : Bool) → is_name (bool_word b) ≡ false
unfolding is_name is_reserved
no_truth true = refl
no_truth false = refl

name_word : (x : List ℕ) → IsName x → word_by (keyword_of x) x ≡ bound_of x
name_word x h = go (keyword_of x) refl
  where
    go : (c : Option Keyword) → keyword_of x ≡ c → word_by c x ≡ bound_of x
    go (Some (k.Truth b)) e =
        let same : is_name x ≡ false = ap is_name (word_is x (k.Truth b) e) ∙ no_truth b in absurd (cc)
    go _ e = refl

-- nor is _
name_atom : (x : List ℕ) → IsName x → atom_of x ≡ word_by (keyword_of x) x
unfolding is_name is_reserved
name_atom x h = go (bytes_eq x (codes "_")) refl
  where
    go : (q : Bool) → bytes_eq x (codes "_") ≡ q → cond q (Some p.Any) (word_by (keyword_of x) x) ≡ word_by (keyword_of x) x
    go true e = let same : is_name x ≡ is_name (codes "_") = ap is_name ((bytes_eq-Decides x (codes "_")).0 e) in absurd (cc)
    go false e = refl

mutual
  pub pat_again : {f : Form} {a : Pat} → SpellsPat f a → (n : ℕ) → Within n f → pat_at n f ≡ Some a
  pat_again SpellsPat.any n w = atom_here n (codes "_") p.Any refl
  pat_again (SpellsPat.bind {x = x} h) n w = atom_here n x (p.Bind x) (name_atom x h ∙ name_word x h ∙ rw (name_of_again x h) refl)
  pat_again (SpellsPat.bool {b = b}) n w = atom_here n (bool_word b) (p.Bool b) (truth_here b)
  pat_again (SpellsPat.num {i = i} {f = f} {n = v} s) n w =
      let fs : List Form = Atom (int_word i) ∷ f ∷ [] in
      let l = list_inside n fs w in
      let here : list_by (pat_at l.0) fs ≡ Some (p.Num i v) = rw (keyword_here (k.Int i), number_again i.width s) refl in
      through n l.0 fs (p.Num i v) l.1 here
  pat_again (SpellsPat.con {x = x} {fs = fs} {ps = ps} h more) n w =
      let all : List Form = Atom (spelling k.Con) ∷ Atom x ∷ fs in
      let l = list_inside n all w in
      let args : pats_of l.0 fs ≡ Some ps = pats_after_again more l.0 l.2.1.1 [] in
      let here : list_by (pat_at l.0) all ≡ Some (p.Con x ps) = rw (keyword_here k.Con, name_again x h, args) refl in
      through n l.0 all (p.Con x ps) l.1 here
  pat_again (SpellsPat.make {x = x} {fs = fs} {ps = ps} h more) n w =
      let all : List Form = Atom (spelling k.Make) ∷ Atom x ∷ fs in
      let l = list_inside n all w in
      let args : pats_of l.0 fs ≡ Some ps = pats_after_again more l.0 l.2.1.1 [] in
      let here : list_by (pat_at l.0) all ≡ Some (p.Make x ps) = rw (keyword_here k.Make, name_again x h, args) refl in
      through n l.0 all (p.Make x ps) l.1 here

  pub pats_after_again : {fs : List Form} {ps : List Pat} → SpellsPats fs ps → (n : ℕ) → AllWithin n fs → (done : List Pat) → each_after (pat_at n) done fs ≡ Some (done ++ ps)
  pats_after_again SpellsPats.none n w done = none_after (pat_at n) done
  pats_after_again (SpellsPats.one {f = f} {fs = fs} {a = a} {bs = bs} s more) n w done =
      one_after (pat_at n) f fs a done bs (pat_again s n w.0) (pats_after_again more n w.1 (done ++ a ∷ []))
