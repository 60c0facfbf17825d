-- Keywords and how they are written.
use Rattle.std.proofs.Common.{◌≡◌, ℕ, ◌<◌, ◌≤◌, Bool, true, false, cond, List, [], ◌∷◌, length, slice_index_or, None, Some, refl, ap, ◌∙◌, ◌⊎◌, inl, inr, arith}
use Rattle.std.specs.List.{filter}
use Rattle.std.specs.Str.{bytes_eq}
use Rattle.std.proofs.lemmas.Slice.Eq.{bytes_eq-Decides}
use Rattle.krml_trace.specs.declared.width.Width.{Width}
use Rattle.krml_trace.specs.declared.width.Width.TheVariants.{W8, W32, W64}
use Rattle.krml_forms.specs.declared.form.Form.{Form, out-Form}
use Rattle.krml_forms.specs.declared.form.Form.TheOpen.{Form-F}
use Rattle.krml_forms.specs.declared.form.Form.TheVariants.{Atom, outs-Atom}
use Rattle.krml_forms.proofs.Layer.{is_atom}
use Rattle.krml_syntax.specs.declared.tree.BinOp.{BinOp}
use Rattle.krml_syntax.specs.declared.tree.BinOp.TheVariants as binop
use Rattle.krml_syntax.specs.declared.tree.CmpOp.{CmpOp}
use Rattle.krml_syntax.specs.declared.tree.CmpOp.TheVariants as cmpop
use Rattle.krml_reader.specs.declared.keyword.Keyword.{Keyword}
use Rattle.krml_reader.specs.declared.keyword.Keyword.TheVariants as k
use Rattle.krml_reader.specs.Keyword.{spelling, keywords, public, secret, first_of_those, begins, beginning, keyword_of, keyword_in, keyword_at}

-- no keyword is written as another

abbrev IsRead : Keyword → Type 0
IsRead c = keyword_of (spelling c) ≡ Some c

public_again : (w : Width) → IsRead (public w)
unfolding keyword_of
public_again W8 = refl
public_again W32 = refl
public_again W64 = refl

secret_again : (w : Width) → IsRead (secret w)
unfolding keyword_of
secret_again W8 = refl
secret_again W32 = refl
secret_again W64 = refl

int_again : (w : Width) (s : Bool) → IsRead (k.Int (record { width = w; secret = s }))
int_again w false = public_again w
int_again w true = secret_again w

truth_again : (b : Bool) → IsRead (k.Truth b)
unfolding keyword_of
truth_again true = refl
truth_again false = refl

shift_again : (left : Bool) → IsRead (k.Shift left)
unfolding keyword_of
shift_again true = refl
shift_again false = refl

bin_again : (op : BinOp) → IsRead (k.Bin op)
unfolding keyword_of
bin_again binop.Add = refl
bin_again binop.Sub = refl
bin_again binop.Mul = refl
bin_again binop.Div = refl
bin_again binop.Rem = refl
bin_again binop.And = refl
bin_again binop.Or = refl
bin_again binop.Xor = refl
bin_again binop.EqMask = refl
bin_again binop.GteMask = refl

cmp_again : (op : CmpOp) → IsRead (k.Cmp op)
unfolding keyword_of
cmp_again cmpop.Eq = refl
cmp_again cmpop.Ne = refl
cmp_again cmpop.Lt = refl
cmp_again cmpop.Le = refl
cmp_again cmpop.Gt = refl
cmp_again cmpop.Ge = refl

pub keyword_again : (c : Keyword) → keyword_of (spelling c) ≡ Some c
unfolding keyword_of
keyword_again (k.Int i) = int_again i.width i.secret
keyword_again (k.Truth b) = truth_again b
keyword_again (k.Bin op) = bin_again op
keyword_again (k.Shift left) = shift_again left
keyword_again (k.Cmp op) = cmp_again op
keyword_again k.Not = refl
keyword_again k.Cast = refl
keyword_again k.Hide = refl
keyword_again k.Make = refl
keyword_again k.Get = refl
keyword_again k.Con = refl
keyword_again k.Read = refl
keyword_again k.Write = refl
keyword_again k.Slice = refl
keyword_again k.Tab = refl
keyword_again k.If = refl
keyword_again k.Match = refl
keyword_again k.Do = refl
keyword_again k.Frame = refl
keyword_again k.Alloc = refl
keyword_again k.While = refl
keyword_again k.For = refl
keyword_again k.Call = refl
keyword_again k.Let = refl
keyword_again k.Struct = refl
keyword_again k.Sum = refl
keyword_again k.Table = refl
keyword_again k.Fun = refl
keyword_again k.Entry = refl
keyword_again k.Buf = refl
keyword_again k.Boolean = refl
keyword_again k.Unit = refl

-- the word of a keyword is read as that keyword
pub keyword_here : (c : Keyword) → keyword_at (Atom (spelling c)) ≡ Some c
keyword_here c = ap keyword_in (outs-Atom (spelling c)) ∙ keyword_again c

chosen : {A : Type 0} (b : Bool) (x y z : A) → cond b x y ≡ z → ((b ≡ true) × (x ≡ z)) ⊎ ((b ≡ false) × (y ≡ z))
chosen true x y z e = inl (refl, e)
chosen false x y z e = inr (refl, e)

first_is : (cs : List Keyword) (w : List ℕ) (c : Keyword) → first_of_those cs w ≡ Some c → w ≡ spelling c
first_is [] w c e = absurd (cc)
first_is (d ∷ cs) w c e =
    elim (chosen (bytes_eq w (spelling d)) (Some d) (first_of_those cs w) (Some c) e) [
      | inl h ↦ let same : d ≡ c = cc in (bytes_eq-Decides w (spelling d)).0 h.0 ∙ ap spelling same
      | inr h ↦ first_is cs w c h.1
    ]

-- a word that is a keyword is that keyword's
pub word_is : (w : List ℕ) (c : Keyword) → keyword_of w ≡ Some c → w ≡ spelling c
unfolding keyword_of
word_is w c e = first_is keywords w c e

-- a form that is a keyword is its word
pub keyword_is : (f : Form) (c : Keyword) → keyword_at f ≡ Some c → f ≡ Atom (spelling c)
keyword_is f c e = go (out-Form f) refl e
  where
    go : (x : Form-F Form) → out-Form f ≡ x → keyword_in x ≡ Some c → f ≡ Atom (spelling c)
    go (Form-F.Atom w) o h = is_atom f w o ∙ ap Atom (word_is w c h)
    go (Form-F.List fs) o h = absurd (cc)

-- a word that begins with a byte is looked for among the keywords that begin with it

differ : (b : ℕ) (bs w : List ℕ) → begins b w ≡ false → bytes_eq (b ∷ bs) w ≡ false
differ b bs [] e = refl
differ b bs (c ∷ cs) e = rw e refl

abbrev begun : ℕ → List Keyword → List Keyword
begun b cs = filter (λ c. begins b (spelling c)) cs

among : (b : ℕ) (bs : List ℕ) (cs : List Keyword) → first_of_those (begun b cs) (b ∷ bs) ≡ first_of_those cs (b ∷ bs)
among b bs [] = refl
among b bs (c ∷ cs) = go (begins b (spelling c)) refl (among b bs cs)
  where
    go : (t : Bool) → begins b (spelling c) ≡ t → first_of_those (begun b cs) (b ∷ bs) ≡ first_of_those cs (b ∷ bs)
        → first_of_those (cond t (c ∷ begun b cs) (begun b cs)) (b ∷ bs) ≡ first_of_those (c ∷ cs) (b ∷ bs)
    go true e rest = ap (λ found. cond (bytes_eq (b ∷ bs) (spelling c)) (Some c) found) rest
    go false e rest = rw (differ b bs (spelling c) e) rest

pub begun_with : (w : List ℕ) → 1 ≤ length w → first_of_those (beginning (slice_index_or w 0 0)) w ≡ keyword_of w
unfolding beginning keyword_of
begun_with [] l = absurd (omega arith)
begun_with (b ∷ bs) l = among b bs keywords

pub none_of_nothing : (w : List ℕ) → length w < 1 → None ≡ keyword_of w
unfolding keyword_of
none_of_nothing [] l = refl
none_of_nothing (b ∷ bs) l = absurd (omega arith)
