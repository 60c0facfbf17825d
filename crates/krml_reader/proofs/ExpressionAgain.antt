-- What forms spell, expressions with their branches and items, they are read as.
use Rattle.std.proofs.Common.{◌≡◌, ℕ, zero, suc, Bool, true, false, List, [], ◌∷◌, ◌++◌, codes, Option, Some, refl, ap, ◌∙◌}
use Rattle.krml_forms.specs.declared.form.Form.{Form, out-Form}
use Rattle.krml_forms.specs.declared.form.Form.TheOpen.{Form-F}
use Rattle.krml_forms.specs.declared.form.Form.TheVariants.{Atom, List as Node, outs-Atom, outs-List}
use Rattle.krml_forms.specs.Levels.{Within, AllWithin}
use Rattle.krml_forms.proofs.Layer.{list_inside}
use Rattle.krml_syntax.specs.declared.tree.IntTy.{IntTy}
use Rattle.krml_syntax.specs.declared.tree.Ty.{Ty}
use Rattle.krml_syntax.specs.declared.tree.Arm.{Arm, roll-Arm}
use Rattle.krml_syntax.specs.declared.tree.Item.{Item}
use Rattle.krml_syntax.specs.declared.tree.Item.TheVariants as item
use Rattle.krml_syntax.specs.declared.tree.Expr.{Expr}
use Rattle.krml_syntax.specs.declared.tree.Expr.TheVariants as e
use Rattle.krml_syntax.specs.Name.{is_name, is_reserved, IsName}
use Rattle.krml_syntax.specs.Spelling.{int_word, bool_word, Spells, SpellsAll, SpellsArm, SpellsArms, SpellsItem, SpellsItems}
use Rattle.krml_reader.specs.declared.keyword.Keyword.{Keyword}
use Rattle.krml_reader.specs.declared.keyword.Keyword.TheVariants as k
use Rattle.krml_reader.specs.Each.{each_after, each_of, list_in}
use Rattle.krml_reader.specs.Keyword.{spelling, keyword_of, keyword_at}
use Rattle.krml_reader.specs.Types.{tys_at}
use Rattle.krml_reader.specs.Expression.{variable_of, word_by, operands_by, applied_by, do_by, control_by, access_by, operation_by, headed_by, list_by, arm_by, let_by, is_let_word, is_let, expr_in, item_in, list_at, arm_list_at, let_at, expr_at, arm_at, item_at, operation_at}
use Rattle.krml_reader.proofs.KeywordLaws.{keyword_here, word_is}
use Rattle.krml_reader.proofs.WordLaws.{name_of_again, name_again, int_here, number_again, length_again}
use Rattle.krml_reader.proofs.TypeLaws.{ty_again, tys_again}
use Rattle.krml_reader.proofs.PatternLaws.{no_truth, pat_again}
use Rattle.krml_reader.proofs.EachLaws.{one_after, none_after}
use Rattle.krml_reader.proofs.Lasts.{split_last_again}

-- ---- words

no_unit : is_name (codes "unit") ≡ false
unfolding is_name is_reserved
no_unit = refl

-- unit, true and false are no names
name_word : (x : List ℕ) → IsName x → word_by (keyword_of x) x ≡ variable_of x
name_word x h = go (keyword_of x) refl
  where
    go : (c : Option Keyword) → keyword_of x ≡ c → word_by c x ≡ variable_of x
    go (Some k.Unit) e =
        let same : is_name x ≡ false = ap is_name (word_is x k.Unit e) ∙ no_unit in absurd (cc)
    go (Some (k.Truth b)) e =
        let same : is_name x ≡ false = ap is_name (word_is x (k.Truth b) e) ∙ no_truth b in absurd (cc)
    go _ e = refl

truth_here : (b : Bool) → word_by (keyword_of (bool_word b)) (bool_word b) ≡ Some (e.Bool b)
unfolding keyword_of
truth_here true = refl
truth_here false = refl

unit_here : word_by (keyword_of (codes "unit")) (codes "unit") ≡ Some e.Unit
unfolding keyword_of
unit_here = refl

word_here : (n : ℕ) (w : List ℕ) (a : Expr) → word_by (keyword_of w) w ≡ Some a → expr_at n (Atom w) ≡ Some a
word_here n w a here = ap (expr_in (list_at n)) (outs-Atom w) ∙ here

-- ---- lists, one level down

list_again : (m : ℕ) (fs : List Form) → expr_at (suc m) (Node fs) ≡ list_by m (expr_at m) (arm_at m) (item_at m) fs
unfolding list_at
list_again m fs = ap (expr_in (list_at (suc m))) (outs-List fs)

headed_again : (m : ℕ) (c : Keyword) (fs : List Form) → list_by m (expr_at m) (arm_at m) (item_at m) (Atom (spelling c) ∷ fs) ≡ operation_at m c fs
headed_again m c fs = ap (λ o. headed_by m (expr_at m) (arm_at m) (item_at m) o fs) (keyword_here c)

-- a list that begins with a keyword is read as what stands behind it
through : (c : Keyword) (n m : ℕ) (fs : List Form) (a : Expr) → n ≡ suc m → operation_at m c fs ≡ Some a → expr_at n (Node (Atom (spelling c) ∷ fs)) ≡ Some a
through c n m fs a le here = ap (λ i. expr_at i (Node (Atom (spelling c) ∷ fs))) le ∙ list_again m (Atom (spelling c) ∷ fs) ∙ headed_again m c fs ∙ here

arm_through : (n m : ℕ) (fs : List Form) (a : Arm) → n ≡ suc m → arm_by m (expr_at m) fs ≡ Some a → arm_at n (Node fs) ≡ Some a
unfolding arm_list_at
arm_through n m fs a le here = ap (λ i. arm_at i (Node fs)) le ∙ ap (list_in (arm_list_at (suc m))) (outs-List fs) ∙ here

let_inside : (n m : ℕ) (fs : List Form) (a : Item) → n ≡ suc m → let_by m (expr_at m) fs ≡ Some a → let_at n fs ≡ Some a
unfolding let_at
let_inside n m fs a le here = ap (λ i. let_at i fs) le ∙ here

let_through : (n : ℕ) (fs : List Form) (a : Item) → let_at n (Atom (spelling k.Let) ∷ fs) ≡ Some a → item_at n (Node (Atom (spelling k.Let) ∷ fs)) ≡ Some a
let_through n fs a here =
    let all : List Form = Atom (spelling k.Let) ∷ fs in
    let first : is_let all ≡ true = ap is_let_word (keyword_here k.Let) in
    rw (outs-List all, first) here

-- ---- expressions as items

no_let : (n : ℕ) (c : Option Keyword) (fs : List Form) (a : Expr) → headed_by n (expr_at n) (arm_at n) (item_at n) c fs ≡ Some a → is_let_word c ≡ false
unfolding operation_by access_by control_by
no_let n (Some k.Let) fs a h = absurd (cc)
no_let n _ fs a h = refl

not_let : (n : ℕ) (fs : List Form) (a : Expr) → list_at n fs ≡ Some a → is_let fs ≡ false
unfolding list_at
not_let zero fs a h = absurd (cc)
not_let (suc n) [] a h = refl
not_let (suc n) (head ∷ fs) a h = no_let n (keyword_at head) fs a h

-- an expression is no let
run_again : (n : ℕ) (f : Form) (a : Expr) → expr_at n f ≡ Some a → item_at n f ≡ Some (item.Run a)
run_again n f a h = go (out-Form f) h
  where
    go : (x : Form-F Form) → expr_in (list_at n) x ≡ Some a → item_in (let_at n) (expr_at n f) x ≡ Some (item.Run a)
    go (Form-F.Atom w) here = rw h refl
    go (Form-F.List fs) here = rw (not_let n fs a here, h) refl

-- ---- what stands behind a keyword

before_within : (n : ℕ) (fs : List Form) (g : Form) → AllWithin n (fs ++ g ∷ []) → AllWithin n fs × Within n g
before_within n [] g w = (tt, w.0)
before_within n (f ∷ fs) g w = let more = before_within n fs g w.1 in ((w.0, more.0), more.1)

module _ (m : ℕ) where
  operands_again : (i : IntTy) (f g : Form) (a b : Expr) → expr_at m f ≡ Some a → expr_at m g ≡ Some b
      → operands_by (expr_at m) (Atom (int_word i) ∷ f ∷ g ∷ []) ≡ Some (i, a, b)
  operands_again i f g a b p q = rw (int_here i, p, q) refl

  applied_again : (x : List ℕ) (ts fs : List Form) (bs : List Ty) (us : List Expr) → IsName x → tys_at m (Node ts) ≡ Some bs → each_of (expr_at m) fs ≡ Some us
      → applied_by m (expr_at m) (Atom x ∷ Node ts ∷ fs) ≡ Some (x, bs, us)
  applied_again x ts fs bs us h p q = rw (name_again x h, p, q) refl

  do_again : (f : Form) (fs : List Form) (g : Form) (xs : List Item) (a : Expr) → each_of (item_at m) (f ∷ fs) ≡ Some xs → expr_at m g ≡ Some a
      → do_by (expr_at m) (item_at m) (f ∷ fs ++ g ∷ []) ≡ Some (e.Do xs a)
  do_again f fs g xs a p q = rw (split_last_again (f ∷ fs) g, p, q) refl

-- ---- what is spelled is read

mutual
  unfolding operation_by access_by control_by

  pub expr_again : {f : Form} {a : Expr} → Spells f a → (n : ℕ) → Within n f → expr_at n f ≡ Some a
  expr_again (Spells.var {x = x} h) n w = word_here n x (e.Var x) (name_word x h ∙ rw (name_of_again x h) refl)
  expr_again Spells.unit n w = word_here n (codes "unit") e.Unit unit_here
  expr_again (Spells.bool {b = b}) n w = word_here n (bool_word b) (e.Bool b) (truth_here b)
  expr_again (Spells.num {i = i} {f = f} {n = v} s) n w =
      let fs : List Form = f ∷ [] in
      let l = list_inside n (Atom (int_word i) ∷ fs) w in
      through (k.Int i) n l.0 fs (e.Num i v) l.1 (rw (number_again i.width s) refl)
  expr_again (Spells.bin {op = op} {i = i} {f = f} {g = g} {a = a} {b = b} s t) n w =
      let fs : List Form = Atom (int_word i) ∷ f ∷ g ∷ [] in
      let l = list_inside n (Atom (spelling (k.Bin op)) ∷ fs) w in
      let two = operands_again l.0 i f g a b (expr_again s l.0 l.2.1.1.0) (expr_again t l.0 l.2.1.1.1.0) in
      through (k.Bin op) n l.0 fs (e.Bin op i a b) l.1 (rw two refl)
  expr_again (Spells.shift {left = left} {i = i} {f = f} {g = g} {a = a} {b = b} s t) n w =
      let fs : List Form = Atom (int_word i) ∷ f ∷ g ∷ [] in
      let l = list_inside n (Atom (spelling (k.Shift left)) ∷ fs) w in
      let two = operands_again l.0 i f g a b (expr_again s l.0 l.2.1.1.0) (expr_again t l.0 l.2.1.1.1.0) in
      through (k.Shift left) n l.0 fs (e.Shift left i a b) l.1 (rw two refl)
  expr_again (Spells.cmp {op = op} {i = i} {f = f} {g = g} {a = a} {b = b} s t) n w =
      let fs : List Form = Atom (int_word i) ∷ f ∷ g ∷ [] in
      let l = list_inside n (Atom (spelling (k.Cmp op)) ∷ fs) w in
      let two = operands_again l.0 i f g a b (expr_again s l.0 l.2.1.1.0) (expr_again t l.0 l.2.1.1.1.0) in
      through (k.Cmp op) n l.0 fs (e.Cmp op i a b) l.1 (rw two refl)
  expr_again (Spells.not {f = f} {a = a} s) n w =
      let fs : List Form = f ∷ [] in
      let l = list_inside n (Atom (spelling k.Not) ∷ fs) w in
      through k.Not n l.0 fs (e.Not a) l.1 (rw (expr_again s l.0 l.2.1.0) refl)
  expr_again (Spells.cast {i = i} {j = j} {f = f} {a = a} s) n w =
      let fs : List Form = Atom (int_word i) ∷ Atom (int_word j) ∷ f ∷ [] in
      let l = list_inside n (Atom (spelling k.Cast) ∷ fs) w in
      through k.Cast n l.0 fs (e.Cast i j a) l.1 (rw (int_here i, int_here j, expr_again s l.0 l.2.1.1.1.0) refl)
  expr_again (Spells.hide {i = i} {f = f} {a = a} s) n w =
      let fs : List Form = Atom (int_word i) ∷ f ∷ [] in
      let l = list_inside n (Atom (spelling k.Hide) ∷ fs) w in
      through k.Hide n l.0 fs (e.Hide i a) l.1 (rw (int_here i, expr_again s l.0 l.2.1.1.0) refl)
  expr_again (Spells.make {x = x} {ts = ts} {fs = gs} {bs = bs} {es = us} h t s) n w =
      let fs : List Form = Atom x ∷ Node ts ∷ gs in
      let l = list_inside n (Atom (spelling k.Make) ∷ fs) w in
      let all = applied_again l.0 x ts gs bs us h (tys_again t l.0 l.2.1.1.0) (all_again s l.0 l.2.1.1.1 []) in
      through k.Make n l.0 fs (e.Make x bs us) l.1 (rw all refl)
  expr_again (Spells.get {x = x} {f = f} {a = a} h s) n w =
      let fs : List Form = Atom x ∷ f ∷ [] in
      let l = list_inside n (Atom (spelling k.Get) ∷ fs) w in
      through k.Get n l.0 fs (e.Get x a) l.1 (rw (name_again x h, expr_again s l.0 l.2.1.1.0) refl)
  expr_again (Spells.con {x = x} {ts = ts} {fs = gs} {bs = bs} {es = us} h t s) n w =
      let fs : List Form = Atom x ∷ Node ts ∷ gs in
      let l = list_inside n (Atom (spelling k.Con) ∷ fs) w in
      let all = applied_again l.0 x ts gs bs us h (tys_again t l.0 l.2.1.1.0) (all_again s l.0 l.2.1.1.1 []) in
      through k.Con n l.0 fs (e.Con x bs us) l.1 (rw all refl)
  expr_again (Spells.read {f = f} {g = g} {a = a} {b = b} s t) n w =
      let fs : List Form = f ∷ g ∷ [] in
      let l = list_inside n (Atom (spelling k.Read) ∷ fs) w in
      through k.Read n l.0 fs (e.Read a b) l.1 (rw (expr_again s l.0 l.2.1.0, expr_again t l.0 l.2.1.1.0) refl)
  expr_again (Spells.write {f = f} {g = g} {h = h} {a = a} {b = b} {c = c} s t u) n w =
      let fs : List Form = f ∷ g ∷ h ∷ [] in
      let l = list_inside n (Atom (spelling k.Write) ∷ fs) w in
      through k.Write n l.0 fs (e.Write a b c) l.1 (rw (expr_again s l.0 l.2.1.0, expr_again t l.0 l.2.1.1.0, expr_again u l.0 l.2.1.1.1.0) refl)
  expr_again (Spells.slice {f = f} {g = g} {h = h} {a = a} {b = b} {c = c} s t u) n w =
      let fs : List Form = f ∷ g ∷ h ∷ [] in
      let l = list_inside n (Atom (spelling k.Slice) ∷ fs) w in
      through k.Slice n l.0 fs (e.Slice a b c) l.1 (rw (expr_again s l.0 l.2.1.0, expr_again t l.0 l.2.1.1.0, expr_again u l.0 l.2.1.1.1.0) refl)
  expr_again (Spells.tab {x = x} {f = f} {a = a} h s) n w =
      let fs : List Form = Atom x ∷ f ∷ [] in
      let l = list_inside n (Atom (spelling k.Tab) ∷ fs) w in
      through k.Tab n l.0 fs (e.Tab x a) l.1 (rw (name_again x h, expr_again s l.0 l.2.1.1.0) refl)
  expr_again (Spells.choice {f = f} {g = g} {h = h} {c = c} {a = a} {b = b} s t u) n w =
      let fs : List Form = f ∷ g ∷ h ∷ [] in
      let l = list_inside n (Atom (spelling k.If) ∷ fs) w in
      through k.If n l.0 fs (e.If c a b) l.1 (rw (expr_again s l.0 l.2.1.0, expr_again t l.0 l.2.1.1.0, expr_again u l.0 l.2.1.1.1.0) refl)
  expr_again (Spells.match {f = f} {g = g} {gs = gs} {a = a} {x = x} {xs = xs} s t more) n w =
      let fs : List Form = f ∷ g ∷ gs in
      let l = list_inside n (Atom (spelling k.Match) ∷ fs) w in
      let arms = one_after (arm_at l.0) g gs x [] xs (arm_again t l.0 l.2.1.1.0) (arms_again more l.0 l.2.1.1.1 (x ∷ [])) in
      through k.Match n l.0 fs (e.Match a (x ∷ xs)) l.1 (rw (expr_again s l.0 l.2.1.0, arms) refl)
  expr_again (Spells.do_ {f = f} {g = g} {fs = gs} {x = x} {xs = xs} {a = a} t more s) n w =
      let fs : List Form = f ∷ gs ++ g ∷ [] in
      let l = list_inside n (Atom (spelling k.Do) ∷ fs) w in
      let parts = before_within l.0 gs g l.2.1.1 in
      let items = one_after (item_at l.0) f gs x [] xs (item_again t l.0 l.2.1.0) (items_again more l.0 parts.0 (x ∷ [])) in
      through k.Do n l.0 fs (e.Do (x ∷ xs) a) l.1 (do_again l.0 f gs g (x ∷ xs) a items (expr_again s l.0 parts.1))
  expr_again (Spells.frame {f = f} {a = a} s) n w =
      let fs : List Form = f ∷ [] in
      let l = list_inside n (Atom (spelling k.Frame) ∷ fs) w in
      through k.Frame n l.0 fs (e.Frame [] a) l.1 (rw (expr_again s l.0 l.2.1.0) refl)
  expr_again (Spells.alloc {f = f} {g = g} {h = h} {a = a} {n = len} {b = b} t v s) n w =
      let fs : List Form = f ∷ g ∷ h ∷ [] in
      let l = list_inside n (Atom (spelling k.Alloc) ∷ fs) w in
      through k.Alloc n l.0 fs (e.Alloc a len b) l.1 (rw (ty_again t l.0 l.2.1.0, length_again v, expr_again s l.0 l.2.1.1.1.0) refl)
  expr_again (Spells.while {f = f} {g = g} {c = c} {a = a} s t) n w =
      let fs : List Form = f ∷ g ∷ [] in
      let l = list_inside n (Atom (spelling k.While) ∷ fs) w in
      through k.While n l.0 fs (e.While c a) l.1 (rw (expr_again s l.0 l.2.1.0, expr_again t l.0 l.2.1.1.0) refl)
  expr_again (Spells.for {x = x} {f = f} {g = g} {h = h} {a = a} {b = b} {c = c} name s t u) n w =
      let fs : List Form = Atom x ∷ f ∷ g ∷ h ∷ [] in
      let l = list_inside n (Atom (spelling k.For) ∷ fs) w in
      through k.For n l.0 fs (e.For x a b c) l.1 (rw (name_again x name, expr_again s l.0 l.2.1.1.0, expr_again t l.0 l.2.1.1.1.0, expr_again u l.0 l.2.1.1.1.1.0) refl)
  expr_again (Spells.call {x = x} {ts = ts} {fs = gs} {bs = bs} {es = us} h t s) n w =
      let fs : List Form = Atom x ∷ Node ts ∷ gs in
      let l = list_inside n (Atom (spelling k.Call) ∷ fs) w in
      let all = applied_again l.0 x ts gs bs us h (tys_again t l.0 l.2.1.1.0) (all_again s l.0 l.2.1.1.1 []) in
      through k.Call n l.0 fs (e.Call x bs us) l.1 (rw all refl)

  all_again : {fs : List Form} {us : List Expr} → SpellsAll fs us → (n : ℕ) → AllWithin n fs → (done : List Expr) → each_after (expr_at n) done fs ≡ Some (done ++ us)
  all_again SpellsAll.none n w done = none_after (expr_at n) done
  all_again (SpellsAll.one {f = f} {fs = fs} {a = a} {bs = bs} s more) n w done =
      one_after (expr_at n) f fs a done bs (expr_again s n w.0) (all_again more n w.1 (done ++ a ∷ []))

  arm_again : {f : Form} {a : Arm} → SpellsArm f a → (n : ℕ) → Within n f → arm_at n f ≡ Some a
  arm_again (SpellsArm.arm {f = f} {g = g} {a = a} {b = b} s t) n w =
      let fs : List Form = f ∷ g ∷ [] in
      let l = list_inside n fs w in
      arm_through n l.0 fs (roll-Arm (record { pat = a; body = b })) l.1 (rw (pat_again s l.0 l.2.0, expr_again t l.0 l.2.1.0) refl)

  arms_again : {fs : List Form} {us : List Arm} → SpellsArms fs us → (n : ℕ) → AllWithin n fs → (done : List Arm) → each_after (arm_at n) done fs ≡ Some (done ++ us)
  arms_again SpellsArms.no_arms n w done = none_after (arm_at n) done
  arms_again (SpellsArms.an_arm {f = f} {fs = fs} {a = a} {bs = bs} s more) n w done =
      one_after (arm_at n) f fs a done bs (arm_again s n w.0) (arms_again more n w.1 (done ++ a ∷ []))

  item_again : {f : Form} {a : Item} → SpellsItem f a → (n : ℕ) → Within n f → item_at n f ≡ Some a
  item_again (SpellsItem.let_ {x = x} {f = f} {g = g} {a = a} {b = b} h t s) n w =
      let fs : List Form = Atom x ∷ f ∷ g ∷ [] in
      let all : List Form = Atom (spelling k.Let) ∷ fs in
      let l = list_inside n all w in
      let inside = let_inside n l.0 all (item.Let x a b) l.1 (rw (name_again x h, ty_again t l.0 l.2.1.1.0, expr_again s l.0 l.2.1.1.1.0) refl) in
      let_through n fs (item.Let x a b) inside
  item_again (SpellsItem.run {f = f} {a = a} s) n w = run_again n f a (expr_again s n w)

  items_again : {fs : List Form} {us : List Item} → SpellsItems fs us → (n : ℕ) → AllWithin n fs → (done : List Item) → each_after (item_at n) done fs ≡ Some (done ++ us)
  items_again SpellsItems.no_items n w done = none_after (item_at n) done
  items_again (SpellsItems.an_item {f = f} {fs = fs} {a = a} {bs = bs} s more) n w done =
      one_after (item_at n) f fs a done bs (item_again s n w.0) (items_again more n w.1 (done ++ a ∷ []))
