-- What forms are read as, types, is what they spell, and what they spell they are read as.
use Rattle.std.proofs.Common.{◌≡◌, ℕ, zero, suc, Bool, true, false, cond, not, ◌&&◌, ◌==◌, List, [], ◌∷◌, ◌++◌, Option, Some, refl, sym, ap, ◌∙◌, subst, arith}
use Rattle.std.proofs.lemmas.Bool.{and_parts}
use Rattle.std.proofs.lemmas.Bool.Decides.{nat_tests}
use Rattle.std.specs.List.{list_all}
use Rattle.krml_trace.specs.Byte.{is_letter, is_name_byte}
use Rattle.krml_trace.specs.declared.width.Width.{Width}
use Rattle.krml_trace.specs.declared.width.Width.TheVariants.{W8, W32, W64}
use Rattle.krml_forms.specs.declared.form.Form.{Form, out-Form}
use Rattle.krml_forms.specs.declared.form.Form.TheOpen.{Form-F}
use Rattle.krml_forms.specs.declared.form.Form.TheVariants.{Atom, List as Node, outs-Atom, outs-List}
use Rattle.krml_forms.specs.Levels.{Within, AllWithin}
use Rattle.krml_forms.proofs.Layer.{is_atom, is_list, list_inside}
use Rattle.krml_syntax.specs.declared.tree.Ty.{Ty}
use Rattle.krml_syntax.specs.declared.tree.Ty.TheVariants as t
use Rattle.krml_syntax.specs.Name.{is_name, is_reserved, IsName}
use Rattle.krml_syntax.specs.Spelling.{int_word, SpellsTy, SpellsTys, Each}
use Rattle.krml_syntax.proofs.Only.{Only, only_none, only_some, only_then, only_more}
use Rattle.krml_reader.specs.declared.keyword.Keyword.{Keyword}
use Rattle.krml_reader.specs.declared.keyword.Keyword.TheVariants as k
use Rattle.krml_reader.specs.Each.{each_after, each_of, list_in, below}
use Rattle.krml_reader.specs.Keyword.{spelling, keyword_of, keyword_in, keyword_at}
use Rattle.krml_reader.specs.Words.{name_of, name_at}
use Rattle.krml_reader.specs.Types.{named_of, word_by, word_of, variable_of, atom_of, buffer_by, applied_by, is_buf_word, is_buf, list_by, ty_in, list_at, ty_at, tys_of, tys_at}
use Rattle.krml_reader.proofs.KeywordLaws.{keyword_again, keyword_here, word_is, keyword_is}
use Rattle.krml_reader.proofs.WordLaws.{name_of_only, name_of_again, name_only, name_again}
use Rattle.krml_reader.proofs.EachLaws.{each_only, one_after, none_after, list_only, below_only}

-- ---- what is read is spelled

named_only : (w : List ℕ) → Only (SpellsTy (Atom w)) (named_of w)
named_only w = only_then (name_of w) (name_of_only w) (λ x is. only_some (t.Named x []) (subst (λ v. SpellsTy (Atom v) (t.Named x [])) (sym is.0) (SpellsTy.named is.1)))

word_only : (w : List ℕ) → Only (SpellsTy (Atom w)) (word_of w)
word_only w = go (keyword_of w) refl
  where
    is : (c : Keyword) (a : Ty) → SpellsTy (Atom (spelling c)) a → keyword_of w ≡ Some c → Only (SpellsTy (Atom w)) (Some a)
    is c a s e = only_some a (subst (λ v. SpellsTy (Atom v) a) (sym (word_is w c e)) s)

    go : (c : Option Keyword) → keyword_of w ≡ c → Only (SpellsTy (Atom w)) (word_by c w)
    go (Some k.Boolean) e = is k.Boolean t.Bool SpellsTy.bool e
    go (Some k.Unit) e = is k.Unit t.Unit SpellsTy.unit e
    go (Some (k.Int i)) e = is (k.Int i) (t.Int i) SpellsTy.int e
    go _ e = named_only w

quote : (b : ℕ) → (b == 39) ≡ true → 39 ≡ b
quote b h = grind (arith, nat_tests)

variable_only : (w : List ℕ) → Only (SpellsTy (Atom (39 ∷ w))) (variable_of w)
variable_only w = only_then (name_of w) (name_of_only w) (λ x is. only_some (t.Var x) (subst (λ v. SpellsTy (Atom (39 ∷ v)) (t.Var x)) (sym is.0) (SpellsTy.var is.1)))

atom_only : (w : List ℕ) → Only (SpellsTy (Atom w)) (atom_of w)
atom_only [] = word_only []
atom_only (b ∷ w) = go (b == 39) refl
  where
    go : (q : Bool) → (b == 39) ≡ q → Only (SpellsTy (Atom (b ∷ w))) (cond q (variable_of w) (word_of (b ∷ w)))
    go true h = subst (λ c. Only (SpellsTy (Atom (c ∷ w))) (variable_of w)) (quote b h) (variable_only w)
    go false h = word_only (b ∷ w)

pub tys_from : {fs : List Form} {bs : List Ty} → Each SpellsTy fs bs → SpellsTys fs bs
tys_from Each.none = SpellsTys.none
tys_from (Each.one s more) = SpellsTys.one s (tys_from more)

module _ (ty : Form → Option Ty) (sound : (f : Form) → Only (SpellsTy f) (ty f)) where
  buffer_only : (fs : List Form) → Only (SpellsTy (Node (Atom (spelling k.Buf) ∷ fs))) (buffer_by ty fs)
  buffer_only (f ∷ []) = only_then (ty f) (sound f) (λ a s. only_some (t.Buf a) (SpellsTy.buf s))
  buffer_only _ = only_none

  applied : (x : List ℕ) (f : Form) (fs : List Form) (bs : List Ty) → IsName x → Each SpellsTy (f ∷ fs) bs → SpellsTy (Node (Atom x ∷ f ∷ fs)) (t.Named x bs)
  applied x f fs bs n (Each.one s more) = SpellsTy.applied n s (tys_from more)

  applied_only : (head : Form) (fs : List Form) → Only (SpellsTy (Node (head ∷ fs))) (applied_by ty head fs)
  applied_only head [] = only_none
  applied_only head (f ∷ fs) =
      only_then (name_at head) (name_only head) (λ x is. only_then (each_of ty (f ∷ fs)) (each_only SpellsTy ty sound (f ∷ fs)) (λ bs each.
      only_some (t.Named x bs) (subst (λ g. SpellsTy (Node (g ∷ f ∷ fs)) (t.Named x bs)) (sym is.0) (applied x f fs bs is.1 each))))

  is_buf_only : (f : Form) → is_buf f ≡ true → f ≡ Atom (spelling k.Buf)
  is_buf_only f h = go (keyword_at f) refl h
    where
      go : (c : Option Keyword) → keyword_at f ≡ c → is_buf_word c ≡ true → f ≡ Atom (spelling k.Buf)
      go (Some k.Buf) e b = keyword_is f k.Buf e
      go _ e b = absurd (cc)

  list_by_only : (fs : List Form) → Only (SpellsTy (Node fs)) (list_by ty fs)
  list_by_only [] = only_none
  list_by_only (head ∷ fs) = go (is_buf head) refl
    where
      go : (b : Bool) → is_buf head ≡ b → Only (SpellsTy (Node (head ∷ fs))) (cond b (buffer_by ty fs) (applied_by ty head fs))
      go true h = subst (λ g. Only (SpellsTy (Node (g ∷ fs))) (buffer_by ty fs)) (sym (is_buf_only head h)) (buffer_only fs)
      go false h = applied_only head fs

ty_in_only : (inner : List Form → Option Ty) → ((fs : List Form) → Only (SpellsTy (Node fs)) (inner fs)) → (f : Form) (x : Form-F Form) → out-Form f ≡ x → Only (SpellsTy f) (ty_in inner x)
ty_in_only inner h f (Form-F.Atom w) o = subst (λ g. Only (SpellsTy g) (atom_of w)) (sym (is_atom f w o)) (atom_only w)
ty_in_only inner h f (Form-F.List fs) o = subst (λ g. Only (SpellsTy g) (inner fs)) (sym (is_list f fs o)) (h fs)

levels_only : (n : ℕ) (fs : List Form) → Only (SpellsTy (Node fs)) (list_at n fs)
unfolding list_at
levels_only zero fs = only_none
levels_only (suc n) fs = list_by_only (ty_at n) (λ f. ty_in_only (list_at n) (levels_only n) f (out-Form f) refl) fs

pub ty_only : (n : ℕ) (f : Form) → Only (SpellsTy f) (ty_at n f)
ty_only n f = ty_in_only (list_at n) (levels_only n) f (out-Form f) refl

pub tys_of_only : (n : ℕ) (fs : List Form) → Only (SpellsTys fs) (tys_of n fs)
tys_of_only n fs = only_more (each_only SpellsTy (ty_at n) (ty_only n) fs) (λ bs each. tys_from each)

pub tys_only : (n : ℕ) (f : Form) → Only (λ bs. (fs : List Form) × (f ≡ Node fs) × SpellsTys fs bs) (tys_at n f)
tys_only n f = list_only SpellsTys (below tys_of n) (below_only SpellsTys tys_of tys_of_only n) f

-- ---- what is spelled is read

list_again : (m : ℕ) (fs : List Form) → ty_at (suc m) (Node fs) ≡ list_by (ty_at m) fs
unfolding list_at
list_again m fs = ap (ty_in (list_at (suc m))) (outs-List fs)

-- a list is read as what its forms are read as, one level down
through : (n m : ℕ) (fs : List Form) (a : Ty) → n ≡ suc m → list_by (ty_at m) fs ≡ Some a → ty_at n (Node fs) ≡ Some a
through n m fs a e here = ap (λ i. ty_at i (Node fs)) e ∙ list_again m fs ∙ here

atom_here : (n : ℕ) (w : List ℕ) (a : Ty) → atom_of w ≡ Some a → ty_at n (Atom w) ≡ Some a
atom_here n w a e = ap (ty_in (list_at n)) (outs-Atom w) ∙ e

int_atom : (w : Width) (s : Bool) → atom_of (int_word (record { width = w; secret = s })) ≡ word_of (int_word (record { width = w; secret = s }))
int_atom W8 false = refl
int_atom W32 false = refl
int_atom W64 false = refl
int_atom W8 true = refl
int_atom W32 true = refl
int_atom W64 true = refl

-- a name begins with no quote
name_atom : (x : List ℕ) → IsName x → atom_of x ≡ word_of x
unfolding is_name
name_atom [] h = refl
name_atom (b ∷ bs) h =
    let front = and_parts (is_letter b && list_all is_name_byte bs) (not (is_reserved (b ∷ bs))) h in
    let letter : is_letter b ≡ true = (and_parts (is_letter b) (list_all is_name_byte bs) front.0).0 in
    let no : (b == 39) ≡ false = no_quote b letter in
    rw no refl
  where
    no_quote : (b : ℕ) → is_letter b ≡ true → (b == 39) ≡ false
    no_quote b l = grind (arith, nat_tests)

-- the words of types are no names
no_int : (w : Width) (s : Bool) → is_name (int_word (record { width = w; secret = s })) ≡ false
unfolding is_name is_reserved
no_int W8 false = refl
no_int W32 false = refl
no_int W64 false = refl
no_int W8 true = refl
no_int W32 true = refl
no_int W64 true = refl

name_word : (x : List ℕ) → IsName x → word_of x ≡ named_of x
unfolding is_name is_reserved
name_word x h = go (keyword_of x) refl
  where
    no : (c : Keyword) → keyword_of x ≡ Some c → is_name (spelling c) ≡ false → ⊥
    no c e f = let same : is_name x ≡ is_name (spelling c) = ap is_name (word_is x c e) in absurd (cc)

    go : (c : Option Keyword) → keyword_of x ≡ c → word_by c x ≡ named_of x
    go (Some k.Boolean) e = absurd (no k.Boolean e refl)
    go (Some k.Unit) e = absurd (no k.Unit e refl)
    go (Some (k.Int i)) e = absurd (no (k.Int i) e (no_int i.width i.secret))
    go _ e = refl

name_no_buf : (x : List ℕ) → IsName x → is_buf (Atom x) ≡ false
unfolding is_name is_reserved
name_no_buf x h = go (keyword_at (Atom x)) refl
  where
    no : keyword_at (Atom x) ≡ Some k.Buf → ⊥
    no e = let same : keyword_of x ≡ Some k.Buf = ap keyword_in (sym (outs-Atom x)) ∙ e in
        let word : is_name x ≡ is_name (spelling k.Buf) = ap is_name (word_is x k.Buf same) in absurd (cc)

    go : (c : Option Keyword) → keyword_at (Atom x) ≡ c → is_buf_word c ≡ false
    go (Some k.Buf) e = absurd (no e)
    go _ e = refl

mutual
  pub ty_again : {f : Form} {a : Ty} → SpellsTy f a → (n : ℕ) → Within n f → ty_at n f ≡ Some a
  ty_again SpellsTy.bool n w = atom_here n (spelling k.Boolean) t.Bool (ap (λ c. word_by c (spelling k.Boolean)) (keyword_again k.Boolean))
  ty_again SpellsTy.unit n w = atom_here n (spelling k.Unit) t.Unit (ap (λ c. word_by c (spelling k.Unit)) (keyword_again k.Unit))
  ty_again (SpellsTy.int {i = i}) n w =
      atom_here n (int_word i) (t.Int i) (int_atom i.width i.secret ∙ ap (λ c. word_by c (int_word i)) (keyword_again (k.Int i)))
  ty_again (SpellsTy.buf {f = f} {a = a} s) n w =
      let fs : List Form = Atom (spelling k.Buf) ∷ f ∷ [] in
      let i = list_inside n fs w in
      let here : list_by (ty_at i.0) fs ≡ Some (t.Buf a) = rw (keyword_here k.Buf, ty_again s i.0 i.2.1.0) refl in
      through n i.0 fs (t.Buf a) i.1 here
  ty_again (SpellsTy.var {x = x} h) n w = atom_here n (39 ∷ x) (t.Var x) (rw (name_of_again x h) refl)
  ty_again (SpellsTy.named {x = x} h) n w = atom_here n x (t.Named x []) (name_atom x h ∙ name_word x h ∙ rw (name_of_again x h) refl)
  ty_again (SpellsTy.applied {x = x} {f = f} {fs = fs} {a = a} {bs = bs} h s more) n w =
      let all : List Form = Atom x ∷ f ∷ fs in
      let i = list_inside n all w in
      let args : tys_of i.0 (f ∷ fs) ≡ Some (a ∷ bs) = one_after (ty_at i.0) f fs a [] bs (ty_again s i.0 i.2.1.0) (tys_after_again more i.0 i.2.1.1 (a ∷ [])) in
      let here : list_by (ty_at i.0) all ≡ Some (t.Named x (a ∷ bs)) = rw (name_no_buf x h, name_again x h, args) refl in
      through n i.0 all (t.Named x (a ∷ bs)) i.1 here

  pub tys_after_again : {fs : List Form} {bs : List Ty} → SpellsTys fs bs → (n : ℕ) → AllWithin n fs → (done : List Ty) → each_after (ty_at n) done fs ≡ Some (done ++ bs)
  tys_after_again SpellsTys.none n w done = none_after (ty_at n) done
  tys_after_again (SpellsTys.one {f = f} {fs = fs} {a = a} {bs = bs} s more) n w done =
      one_after (ty_at n) f fs a done bs (ty_again s n w.0) (tys_after_again more n w.1 (done ++ a ∷ []))

pub tys_of_again : {fs : List Form} {bs : List Ty} → SpellsTys fs bs → (n : ℕ) → AllWithin n fs → tys_of n fs ≡ Some bs
tys_of_again s n w = tys_after_again s n w []

pub tys_again : {fs : List Form} {bs : List Ty} → SpellsTys fs bs → (n : ℕ) → Within n (Node fs) → tys_at n (Node fs) ≡ Some bs
tys_again {fs = fs} {bs = bs} s n w =
    let i = list_inside n fs w in
    let here : below tys_of n fs ≡ Some bs = ap (λ m. below tys_of m fs) i.1 ∙ tys_of_again s i.0 i.2 in
    ap (list_in (below tys_of n)) (outs-List fs) ∙ here
