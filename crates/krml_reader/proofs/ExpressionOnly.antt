-- What forms are read as, expressions with their branches and items, they spell.
use Rattle.std.proofs.Common.{◌≡◌, ℕ, zero, suc, Bool, true, false, cond, List, [], ◌∷◌, ◌++◌, Option, Some, None, refl, sym, ap, ◌∙◌, subst}
use Rattle.krml_forms.specs.declared.form.Form.{Form, out-Form}
use Rattle.krml_forms.specs.declared.form.Form.TheOpen.{Form-F}
use Rattle.krml_forms.specs.declared.form.Form.TheVariants.{Atom, List as Node}
use Rattle.krml_forms.proofs.Layer.{is_atom, is_list}
use Rattle.krml_syntax.specs.declared.tree.IntTy.{IntTy}
use Rattle.krml_syntax.specs.declared.tree.Ty.{Ty}
use Rattle.krml_syntax.specs.declared.tree.Arm.{Arm, roll-Arm}
use Rattle.krml_syntax.specs.declared.tree.Item.{Item}
use Rattle.krml_syntax.specs.declared.tree.Item.TheVariants as item
use Rattle.krml_syntax.specs.declared.tree.Expr.{Expr}
use Rattle.krml_syntax.specs.declared.tree.Expr.TheVariants as e
use Rattle.krml_syntax.specs.Name.{IsName}
use Rattle.krml_syntax.specs.Read.{◌>>=◌}
use Rattle.krml_syntax.specs.Spelling.{int_word, Each, SpellsTys, Spells, SpellsAll, SpellsArm, SpellsArms, SpellsItem, SpellsItems}
use Rattle.krml_syntax.proofs.Only.{Only, only_none, only_some, only_then, only_more}
use Rattle.krml_reader.specs.declared.keyword.Keyword.{Keyword}
use Rattle.krml_reader.specs.declared.keyword.Keyword.TheVariants as k
use Rattle.krml_reader.specs.Each.{each_of, list_in}
use Rattle.krml_reader.specs.Keyword.{spelling, keyword_of, keyword_at}
use Rattle.krml_reader.specs.Words.{name_of, name_at, int_at, number_of_width, length_at}
use Rattle.krml_reader.specs.Types.{ty_at, tys_at}
use Rattle.krml_reader.specs.Pattern.{pat_at}
use Rattle.krml_reader.specs.Expression.{variable_of, word_by, one_by, two_by, three_by, typed_by, operands_by, named_by, applied_by, num_of, cast_by, alloc_by, for_by, some_of, match_by, split_last, do_by, control_by, access_by, operation_by, headed_by, list_by, arm_by, let_by, is_let_word, is_let, expr_in, run_by, item_in, list_at, arm_list_at, let_at, expr_at, arm_at, item_at}
use Rattle.krml_reader.proofs.KeywordLaws.{word_is, keyword_is}
use Rattle.krml_reader.proofs.WordLaws.{name_of_only, name_only, int_only, number_only, length_only}
use Rattle.krml_reader.proofs.TypeLaws.{ty_only, tys_only}
use Rattle.krml_reader.proofs.PatternLaws.{pat_only}
use Rattle.krml_reader.proofs.EachLaws.{each_only}
use Rattle.krml_reader.proofs.Lasts.{split_last_only}

-- ---- words

variable_only : (w : List ℕ) → Only (Spells (Atom w)) (variable_of w)
variable_only w = only_then (name_of w) (name_of_only w) (λ x is. only_some (e.Var x) (subst (λ v. Spells (Atom v) (e.Var x)) (sym is.0) (Spells.var is.1)))

word_only : (w : List ℕ) → Only (Spells (Atom w)) (word_by (keyword_of w) w)
word_only w = go (keyword_of w) refl
  where
    go : (c : Option Keyword) → keyword_of w ≡ c → Only (Spells (Atom w)) (word_by c w)
    go (Some k.Unit) h = only_some e.Unit (subst (λ v. Spells (Atom v) e.Unit) (sym (word_is w k.Unit h)) Spells.unit)
    go (Some (k.Truth b)) h = only_some (e.Bool b) (subst (λ v. Spells (Atom v) (e.Bool b)) (sym (word_is w (k.Truth b) h)) Spells.bool)
    go _ h = variable_only w

num_only : (i : IntTy) (fs : List Form) → Only (Spells (Node (Atom (int_word i) ∷ fs))) (num_of i fs)
num_only i (f ∷ []) = only_then (number_of_width i.width f) (number_only i.width f) (λ n s. only_some (e.Num i n) (Spells.num s))
num_only i _ = only_none

-- ---- lists of expressions, branches and items

all_from : {fs : List Form} {us : List Expr} → Each Spells fs us → SpellsAll fs us
all_from Each.none = SpellsAll.none
all_from (Each.one s more) = SpellsAll.one s (all_from more)

arms_from : {fs : List Form} {us : List Arm} → Each SpellsArm fs us → SpellsArms fs us
arms_from Each.none = SpellsArms.no_arms
arms_from (Each.one s more) = SpellsArms.an_arm s (arms_from more)

items_from : {fs : List Form} {us : List Item} → Each SpellsItem fs us → SpellsItems fs us
items_from Each.none = SpellsItems.no_items
items_from (Each.one s more) = SpellsItems.an_item s (items_from more)

matched : (f g : Form) (gs : List Form) (a : Expr) (xs : List Arm) → Spells f a → Each SpellsArm (g ∷ gs) xs → Spells (Node (Atom (spelling k.Match) ∷ f ∷ g ∷ gs)) (e.Match a xs)
matched f g gs a xs s (Each.one t more) = Spells.match s t (arms_from more)

done : (f : Form) (fs : List Form) (g : Form) (xs : List Item) (a : Expr) → Each SpellsItem (f ∷ fs) xs → Spells g a → Spells (Node (Atom (spelling k.Do) ∷ f ∷ fs ++ g ∷ [])) (e.Do xs a)
done f fs g xs a (Each.one t more) s = Spells.do_ t (items_from more) s

-- ---- what stands behind a keyword

-- an expression whose forms behind the keyword are these
behind : (c : Keyword) {gs : List Form} (x : Expr) (fs : List Form) → fs ≡ gs → Spells (Node (Atom (spelling c) ∷ gs)) x → Only (Spells (Node (Atom (spelling c) ∷ fs))) (Some x)
behind c x fs same s = only_some x (subst (λ hs. Spells (Node (Atom (spelling c) ∷ hs)) x) (sym same) s)

module _ (n : ℕ) (expr : Form → Option Expr) (sound : (f : Form) → Only (Spells f) (expr f)) where
  abbrev IsOne : List Form → Expr → Type 0
  IsOne fs a = (f : Form) × (fs ≡ f ∷ []) × Spells f a

  one_only : (fs : List Form) → Only (IsOne fs) (one_by expr fs)
  one_only (f ∷ []) = only_more (sound f) (λ a s. (f, refl, s))
  one_only _ = only_none

  abbrev IsTwo : List Form → Expr × Expr → Type 0
  IsTwo fs p = (f : Form) × (g : Form) × (fs ≡ f ∷ g ∷ []) × Spells f p.0 × Spells g p.1

  two_only : (fs : List Form) → Only (IsTwo fs) (two_by expr fs)
  two_only (f ∷ g ∷ []) = only_then (expr f) (sound f) (λ a s. only_then (expr g) (sound g) (λ b t. only_some (a, b) (f, g, refl, s, t)))
  two_only _ = only_none

  abbrev IsThree : List Form → Expr × Expr × Expr → Type 0
  IsThree fs p = (f : Form) × (g : Form) × (h : Form) × (fs ≡ f ∷ g ∷ h ∷ []) × Spells f p.0 × Spells g p.1 × Spells h p.2

  three_only : (fs : List Form) → Only (IsThree fs) (three_by expr fs)
  three_only (f ∷ g ∷ h ∷ []) =
      only_then (expr f) (sound f) (λ a s. only_then (expr g) (sound g) (λ b t. only_then (expr h) (sound h) (λ c u.
      only_some (a, b, c) (f, g, h, refl, s, t, u))))
  three_only _ = only_none

  abbrev IsTyped : List Form → IntTy × Expr → Type 0
  IsTyped fs p = (f : Form) × (fs ≡ Atom (int_word p.0) ∷ f ∷ []) × Spells f p.1

  typed_only : (fs : List Form) → Only (IsTyped fs) (typed_by expr fs)
  typed_only (ty ∷ f ∷ []) = only_then (int_at ty) (int_only ty) (λ i is. only_then (expr f) (sound f) (λ a s. only_some (i, a) (f, ap (λ t. t ∷ f ∷ []) is, s)))
  typed_only _ = only_none

  abbrev IsOperands : List Form → IntTy × Expr × Expr → Type 0
  IsOperands fs p = (f : Form) × (g : Form) × (fs ≡ Atom (int_word p.0) ∷ f ∷ g ∷ []) × Spells f p.1 × Spells g p.2

  operands_only : (fs : List Form) → Only (IsOperands fs) (operands_by expr fs)
  operands_only (ty ∷ f ∷ g ∷ []) =
      only_then (int_at ty) (int_only ty) (λ i is. only_then (expr f) (sound f) (λ a s. only_then (expr g) (sound g) (λ b t.
      only_some (i, a, b) (f, g, ap (λ h. h ∷ f ∷ g ∷ []) is, s, t))))
  operands_only _ = only_none

  abbrev IsNamed : List Form → List ℕ × Expr → Type 0
  IsNamed fs p = (f : Form) × (fs ≡ Atom p.0 ∷ f ∷ []) × IsName p.0 × Spells f p.1

  named_only : (fs : List Form) → Only (IsNamed fs) (named_by expr fs)
  named_only (name ∷ f ∷ []) =
      only_then (name_at name) (name_only name) (λ x is. only_then (expr f) (sound f) (λ a s.
      only_some (x, a) (f, ap (λ t. t ∷ f ∷ []) is.0, is.1, s)))
  named_only _ = only_none

  abbrev IsApplied : List Form → List ℕ × List Ty × List Expr → Type 0
  IsApplied fs p = (ts : List Form) × (gs : List Form) × (fs ≡ Atom p.0 ∷ Node ts ∷ gs) × IsName p.0 × SpellsTys ts p.1 × SpellsAll gs p.2

  applied_only : (fs : List Form) → Only (IsApplied fs) (applied_by n expr fs)
  applied_only (name ∷ tys ∷ fs) =
      only_then (name_at name) (name_only name) (λ x is. only_then (tys_at n tys) (tys_only n tys) (λ bs ts. only_then (each_of expr fs) (each_only Spells expr sound fs) (λ es each.
      only_some (x, bs, es) (ts.0, fs, ap (λ g. g ∷ tys ∷ fs) is.0 ∙ ap (λ g. Atom x ∷ g ∷ fs) ts.1, is.1, ts.2, all_from each))))
  applied_only _ = only_none

  cast_only : (fs : List Form) → Only (Spells (Node (Atom (spelling k.Cast) ∷ fs))) (cast_by expr fs)
  cast_only (from ∷ to ∷ f ∷ []) =
      only_then (int_at from) (int_only from) (λ i is. only_then (int_at to) (int_only to) (λ j js. only_then (expr f) (sound f) (λ a s.
      behind k.Cast (e.Cast i j a) (from ∷ to ∷ f ∷ []) (ap (λ g. g ∷ to ∷ f ∷ []) is ∙ ap (λ g. Atom (int_word i) ∷ g ∷ f ∷ []) js) (Spells.cast s))))
  cast_only _ = only_none

  alloc_only : (fs : List Form) → Only (Spells (Node (Atom (spelling k.Alloc) ∷ fs))) (alloc_by n expr fs)
  alloc_only (ty ∷ len ∷ f ∷ []) =
      only_then (ty_at n ty) (ty_only n ty) (λ a s. only_then (length_at len) (length_only len) (λ l t. only_then (expr f) (sound f) (λ b u.
      only_some (e.Alloc a l b) (Spells.alloc s t u))))
  alloc_only _ = only_none

  for_only : (fs : List Form) → Only (Spells (Node (Atom (spelling k.For) ∷ fs))) (for_by expr fs)
  for_only (name ∷ f ∷ g ∷ h ∷ []) =
      only_then (name_at name) (name_only name) (λ x is. only_then (expr f) (sound f) (λ a s. only_then (expr g) (sound g) (λ b t. only_then (expr h) (sound h) (λ c u.
      behind k.For (e.For x a b c) (name ∷ f ∷ g ∷ h ∷ []) (ap (λ t. t ∷ f ∷ g ∷ h ∷ []) is.0) (Spells.for is.1 s t u)))))
  for_only _ = only_none

  arm_by_only : (fs : List Form) → Only (SpellsArm (Node fs)) (arm_by n expr fs)
  arm_by_only (pat ∷ f ∷ []) =
      only_then (pat_at n pat) (pat_only n pat) (λ p s. only_then (expr f) (sound f) (λ a t.
      only_some (roll-Arm (record { pat = p; body = a })) (SpellsArm.arm s t)))
  arm_by_only _ = only_none

  let_behind : (fs : List Form) → Only (SpellsItem (Node (Atom (spelling k.Let) ∷ fs))) (let_by n expr (Atom (spelling k.Let) ∷ fs))
  let_behind (name ∷ ty ∷ f ∷ []) =
      only_then (name_at name) (name_only name) (λ x is. only_then (ty_at n ty) (ty_only n ty) (λ a s. only_then (expr f) (sound f) (λ b t.
      only_some (item.Let x a b) (subst (λ g. SpellsItem (Node (Atom (spelling k.Let) ∷ g ∷ ty ∷ f ∷ [])) (item.Let x a b)) (sym is.0) (SpellsItem.let_ is.1 s t)))))
  let_behind _ = only_none

  module _ (arm : Form → Option Arm) (arm_sound : (f : Form) → Only (SpellsArm f) (arm f)) (item : Form → Option Item) (item_sound : (f : Form) → Only (SpellsItem f) (item f)) where
    match_only : (fs : List Form) → Only (Spells (Node (Atom (spelling k.Match) ∷ fs))) (match_by expr arm fs)
    match_only [] = only_none
    match_only (f ∷ []) = only_then (expr f) (sound f) (λ a s. only_none)
    match_only (f ∷ g ∷ gs) =
        only_then (expr f) (sound f) (λ a s. only_then (each_of arm (g ∷ gs)) (each_only SpellsArm arm arm_sound (g ∷ gs)) (λ xs each.
        only_some (e.Match a xs) (matched f g gs a xs s each)))

    do_parts_only : (fs : List Form) (g : Form) (all : List Form) → all ≡ fs ++ g ∷ []
        → Only (Spells (Node (Atom (spelling k.Do) ∷ all))) (some_of item fs >>= (λ xs. expr g >>= (λ a. Some (e.Do xs a))))
    do_parts_only [] g all same = only_none
    do_parts_only (f ∷ fs) g all same =
        only_then (each_of item (f ∷ fs)) (each_only SpellsItem item item_sound (f ∷ fs)) (λ xs each. only_then (expr g) (sound g) (λ a s.
        behind k.Do (e.Do xs a) all same (done f fs g xs a each s)))

    do_only : (fs : List Form) → Only (Spells (Node (Atom (spelling k.Do) ∷ fs))) (do_by expr item fs)
    do_only fs = only_then (split_last fs) (split_last_only fs) (λ parts same. do_parts_only parts.0 parts.1 fs same)

    control_only : (c : Keyword) (fs : List Form) → Only (Spells (Node (Atom (spelling c) ∷ fs))) (control_by n expr arm item c fs)
    unfolding control_by
    control_only k.If fs = only_then (three_by expr fs) (three_only fs) (λ p is. behind k.If (e.If p.0 p.1 p.2) fs is.3 (Spells.choice is.4 is.5 is.6))
    control_only k.Match fs = match_only fs
    control_only k.Do fs = do_only fs
    control_only k.Frame fs = only_then (one_by expr fs) (one_only fs) (λ a is. behind k.Frame (e.Frame [] a) fs is.1 (Spells.frame is.2))
    control_only k.While fs = only_then (two_by expr fs) (two_only fs) (λ p is. behind k.While (e.While p.0 p.1) fs is.2 (Spells.while is.3 is.4))
    control_only k.For fs = for_only fs
    control_only k.Call fs = only_then (applied_by n expr fs) (applied_only fs) (λ p is. behind k.Call (e.Call p.0 p.1 p.2) fs is.2 (Spells.call is.3 is.4 is.5))
    control_only _ fs = only_none

    access_only : (c : Keyword) (fs : List Form) → Only (Spells (Node (Atom (spelling c) ∷ fs))) (access_by n expr arm item c fs)
    unfolding access_by
    access_only k.Make fs = only_then (applied_by n expr fs) (applied_only fs) (λ p is. behind k.Make (e.Make p.0 p.1 p.2) fs is.2 (Spells.make is.3 is.4 is.5))
    access_only k.Get fs = only_then (named_by expr fs) (named_only fs) (λ p is. behind k.Get (e.Get p.0 p.1) fs is.1 (Spells.get is.2 is.3))
    access_only k.Con fs = only_then (applied_by n expr fs) (applied_only fs) (λ p is. behind k.Con (e.Con p.0 p.1 p.2) fs is.2 (Spells.con is.3 is.4 is.5))
    access_only k.Read fs = only_then (two_by expr fs) (two_only fs) (λ p is. behind k.Read (e.Read p.0 p.1) fs is.2 (Spells.read is.3 is.4))
    access_only k.Write fs = only_then (three_by expr fs) (three_only fs) (λ p is. behind k.Write (e.Write p.0 p.1 p.2) fs is.3 (Spells.write is.4 is.5 is.6))
    access_only k.Slice fs = only_then (three_by expr fs) (three_only fs) (λ p is. behind k.Slice (e.Slice p.0 p.1 p.2) fs is.3 (Spells.slice is.4 is.5 is.6))
    access_only k.Tab fs = only_then (named_by expr fs) (named_only fs) (λ p is. behind k.Tab (e.Tab p.0 p.1) fs is.1 (Spells.tab is.2 is.3))
    access_only k.Alloc fs = alloc_only fs
    access_only c fs = control_only c fs

    operation_only : (c : Keyword) (fs : List Form) → Only (Spells (Node (Atom (spelling c) ∷ fs))) (operation_by n expr arm item c fs)
    unfolding operation_by
    operation_only (k.Int i) fs = num_only i fs
    operation_only (k.Bin op) fs = only_then (operands_by expr fs) (operands_only fs) (λ p is. behind (k.Bin op) (e.Bin op p.0 p.1 p.2) fs is.2 (Spells.bin is.3 is.4))
    operation_only (k.Shift left) fs = only_then (operands_by expr fs) (operands_only fs) (λ p is. behind (k.Shift left) (e.Shift left p.0 p.1 p.2) fs is.2 (Spells.shift is.3 is.4))
    operation_only (k.Cmp op) fs = only_then (operands_by expr fs) (operands_only fs) (λ p is. behind (k.Cmp op) (e.Cmp op p.0 p.1 p.2) fs is.2 (Spells.cmp is.3 is.4))
    operation_only k.Not fs = only_then (one_by expr fs) (one_only fs) (λ a is. behind k.Not (e.Not a) fs is.1 (Spells.not is.2))
    operation_only k.Cast fs = cast_only fs
    operation_only k.Hide fs = only_then (typed_by expr fs) (typed_only fs) (λ p is. behind k.Hide (e.Hide p.0 p.1) fs is.1 (Spells.hide is.2))
    operation_only c fs = access_only c fs

    headed_only : (c : Option Keyword) (head : Form) (fs : List Form) → keyword_at head ≡ c → Only (Spells (Node (head ∷ fs))) (headed_by n expr arm item c fs)
    headed_only None head fs h = only_none
    headed_only (Some c) head fs h = subst (λ g. Only (Spells (Node (g ∷ fs))) (operation_by n expr arm item c fs)) (sym (keyword_is head c h)) (operation_only c fs)

    list_by_only : (fs : List Form) → Only (Spells (Node fs)) (list_by n expr arm item fs)
    list_by_only [] = only_none
    list_by_only (head ∷ fs) = headed_only (keyword_at head) head fs refl

  let_headed_only : (c : Option Keyword) (head : Form) (fs : List Form) → keyword_at head ≡ c → is_let_word c ≡ true → Only (SpellsItem (Node (head ∷ fs))) (let_by n expr (head ∷ fs))
  let_headed_only (Some k.Let) head fs h t = subst (λ g. Only (SpellsItem (Node (g ∷ fs))) (let_by n expr (g ∷ fs))) (sym (keyword_is head k.Let h)) (let_behind fs)
  let_headed_only _ head fs h t = absurd (cc)

  let_by_only : (fs : List Form) → is_let fs ≡ true → Only (SpellsItem (Node fs)) (let_by n expr fs)
  let_by_only [] t = only_none
  let_by_only (head ∷ fs) t = let_headed_only (keyword_at head) head fs refl t

-- ---- every level

expr_in_only : (list : List Form → Option Expr) → ((fs : List Form) → Only (Spells (Node fs)) (list fs)) → (f : Form) (x : Form-F Form) → out-Form f ≡ x → Only (Spells f) (expr_in list x)
expr_in_only list h f (Form-F.Atom w) o = subst (λ g. Only (Spells g) (word_by (keyword_of w) w)) (sym (is_atom f w o)) (word_only w)
expr_in_only list h f (Form-F.List fs) o = subst (λ g. Only (Spells g) (list fs)) (sym (is_list f fs o)) (h fs)

arm_in_only : (list : List Form → Option Arm) → ((fs : List Form) → Only (SpellsArm (Node fs)) (list fs)) → (f : Form) (x : Form-F Form) → out-Form f ≡ x → Only (SpellsArm f) (list_in list x)
arm_in_only list h f (Form-F.Atom w) o = only_none
arm_in_only list h f (Form-F.List fs) o = subst (λ g. Only (SpellsArm g) (list fs)) (sym (is_list f fs o)) (h fs)

run_only : (f : Form) (o : Option Expr) → Only (Spells f) o → Only (SpellsItem f) (run_by o)
run_only f o h = only_then o h (λ a s. only_some (item.Run a) (SpellsItem.run s))

item_in_only : (list : List Form → Option Item) → ((fs : List Form) → is_let fs ≡ true → Only (SpellsItem (Node fs)) (list fs)) → (f : Form) (run : Option Expr) → Only (Spells f) run
    → (x : Form-F Form) → out-Form f ≡ x → Only (SpellsItem f) (item_in list run x)
item_in_only list h f run s (Form-F.Atom w) o = run_only f run s
item_in_only list h f run s (Form-F.List fs) o = go (is_let fs) refl
  where
    go : (t : Bool) → is_let fs ≡ t → Only (SpellsItem f) (cond t (list fs) (run_by run))
    go true t = subst (λ g. Only (SpellsItem g) (list fs)) (sym (is_list f fs o)) (h fs t)
    go false t = run_only f run s

-- what lists of a number of levels are read as: expressions, branches, variables that take a value
record Levels (n : ℕ) : Type 0 where
  lists : (fs : List Form) → Only (Spells (Node fs)) (list_at n fs)
  arms : (fs : List Form) → Only (SpellsArm (Node fs)) (arm_list_at n fs)
  lets : (fs : List Form) → is_let fs ≡ true → Only (SpellsItem (Node fs)) (let_at n fs)

expr_sound : (n : ℕ) → Levels n → (f : Form) → Only (Spells f) (expr_at n f)
expr_sound n l f = expr_in_only (list_at n) l.lists f (out-Form f) refl

arm_sound : (n : ℕ) → Levels n → (f : Form) → Only (SpellsArm f) (arm_at n f)
arm_sound n l f = arm_in_only (arm_list_at n) l.arms f (out-Form f) refl

item_sound : (n : ℕ) → Levels n → (f : Form) → Only (SpellsItem f) (item_at n f)
item_sound n l f = item_in_only (let_at n) l.lets f (expr_at n f) (expr_sound n l f) (out-Form f) refl

levels_only : (n : ℕ) → Levels n
unfolding list_at arm_list_at let_at
levels_only zero = record { lists = λ fs. only_none; arms = λ fs. only_none; lets = λ fs t. only_none }
levels_only (suc n) =
    let l = levels_only n in
    record {
      lists = list_by_only n (expr_at n) (expr_sound n l) (arm_at n) (arm_sound n l) (item_at n) (item_sound n l);
      arms = arm_by_only n (expr_at n) (expr_sound n l);
      lets = let_by_only n (expr_at n) (expr_sound n l);
    }

-- what a form is read as, it spells
pub expr_only : (n : ℕ) (f : Form) → Only (Spells f) (expr_at n f)
expr_only n f = expr_sound n (levels_only n) f
