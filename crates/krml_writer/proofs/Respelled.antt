-- What is written for a part of a file spells it, and differs from what spelled it in how numbers are written.
use Rattle.std.proofs.Common.{ℕ, List, [], ◌∷◌, map, codes, refl, arith}
use Rattle.krml_trace.specs.declared.width.Width.{Width}
use Rattle.krml_trace.specs.Name.{IsName}
use Rattle.krml_trace.proofs.Widths.{below_all_widths}
use Rattle.krml_forms.specs.declared.form.Form.{Form}
use Rattle.krml_forms.specs.declared.form.Form.TheVariants.{Atom, List as Node}
use Rattle.krml_syntax.specs.declared.tree.IntTy.{IntTy}
use Rattle.krml_syntax.specs.declared.tree.Ty.{Ty}
use Rattle.krml_syntax.specs.declared.tree.Ty.TheVariants as t
use Rattle.krml_syntax.specs.declared.tree.Ty.TheFolds.{fold_out-Ty}
use Rattle.krml_syntax.specs.declared.tree.Pat.{Pat}
use Rattle.krml_syntax.specs.declared.tree.Pat.TheVariants as p
use Rattle.krml_syntax.specs.declared.tree.Pat.TheFolds.{fold_out-Pat}
use Rattle.krml_syntax.specs.declared.tree.Arm.{Arm}
use Rattle.krml_syntax.specs.declared.tree.Item.{Item}
use Rattle.krml_syntax.specs.declared.tree.Item.TheVariants as item
use Rattle.krml_syntax.specs.declared.tree.Expr.{Expr}
use Rattle.krml_syntax.specs.declared.tree.Expr.TheVariants as e
use Rattle.krml_syntax.specs.declared.tree.Expr.TheFolds.{fold_out-Expr, fold_out-Item, fold-roll-Arm}
use Rattle.krml_syntax.specs.declared.tree.Field.{Field}
use Rattle.krml_syntax.specs.declared.tree.Con.{Con}
use Rattle.krml_syntax.specs.declared.tree.Def.{Def}
use Rattle.krml_syntax.specs.Number.{IsNumber}
use Rattle.krml_forms.specs.Writing.{IsWord}
use Rattle.krml_syntax.specs.Spelling.{int_word, bin_word, shift_word, cmp_word, Each, SpellsVar, SpellsNumber, SpellsLength, SpellsTy, SpellsTys, SpellsPat, SpellsPats, Spells, SpellsAll, SpellsArm, SpellsArms, SpellsItem, SpellsItems, SpellsField, SpellsCon, SpellsDef, SpellsDefs}
use Rattle.krml_writer.specs.Written.{form_of_ty, form_of_pat, form_of_expr, form_of_item, form_of_arm, form_of_var, form_of_number, form_of_field, form_of_con, form_of_def}
use Rattle.krml_writer.proofs.Alike.{Alike, AllAlike, all_both}
use Rattle.krml_writer.proofs.WordBytes.{name_is_word, variable_is_word, int_is_word, bool_is_word, bin_is_word, shift_is_word, cmp_is_word}

-- ---- rows of forms

row1 : {f g : Form} → Alike f g → AllAlike (f ∷ []) (g ∷ [])
row1 a = AllAlike.one a AllAlike.none

row2 : {f g h j : Form} → Alike f g → Alike h j → AllAlike (f ∷ h ∷ []) (g ∷ j ∷ [])
row2 a b = AllAlike.one a (row1 b)

row3 : {f g h j k l : Form} → Alike f g → Alike h j → Alike k l → AllAlike (f ∷ h ∷ k ∷ []) (g ∷ j ∷ l ∷ [])
row3 a b c = AllAlike.one a (row2 b c)

headed : (w : List ℕ) {fs gs : List Form} → IsWord w → AllAlike fs gs → Alike (Node (Atom w ∷ fs)) (Node (Atom w ∷ gs))
headed w h a = Alike.list (AllAlike.one (Alike.word h) a)

-- a keyword and a name, or an integer type, before the rest
named : (w x : List ℕ) {fs gs : List Form} → IsWord w → IsName x → AllAlike fs gs → Alike (Node (Atom w ∷ Atom x ∷ fs)) (Node (Atom w ∷ Atom x ∷ gs))
named w x h n a = headed w h (AllAlike.one (Alike.word (name_is_word x n)) a)

operator : (w : List ℕ) (i : IntTy) {fs gs : List Form} → IsWord w → AllAlike fs gs → Alike (Node (Atom w ∷ Atom (int_word i) ∷ fs)) (Node (Atom w ∷ Atom (int_word i) ∷ gs))
operator w i h a = headed w h (AllAlike.one (Alike.word (int_is_word i)) a)

typed : (i : IntTy) {fs gs : List Form} → AllAlike fs gs → Alike (Node (Atom (int_word i) ∷ fs)) (Node (Atom (int_word i) ∷ gs))
typed i a = headed (int_word i) (int_is_word i) a

-- ---- numbers

number_again : {w : Width} {f : Form} {n : ℕ} → SpellsNumber w f n → SpellsNumber w (form_of_number n) n
number_again (SpellsNumber.number is l) = SpellsNumber.number IsNumber.decimal_digits l

number_alike : {w : Width} {f : Form} {n : ℕ} → SpellsNumber w f n → Alike f (form_of_number n)
number_alike {w = w} (SpellsNumber.number {n = n} is l) = Alike.number is (below_all_widths w n l)

length_again : {f : Form} {n : ℕ} → SpellsLength f n → SpellsLength (form_of_number n) n
length_again (SpellsLength.length is some l) = SpellsLength.length IsNumber.decimal_digits some l

length_alike : {f : Form} {n : ℕ} → SpellsLength f n → Alike f (form_of_number n)
length_alike (SpellsLength.length is some l) = Alike.number is (omega arith)

-- ---- types

mutual
  ty_again : {f : Form} {a : Ty} → SpellsTy f a → SpellsTy (form_of_ty a) a
  ty_again SpellsTy.bool = rw (fold_out-Ty, t.outs-Bool) SpellsTy.bool
  ty_again SpellsTy.unit = rw (fold_out-Ty, t.outs-Unit) SpellsTy.unit
  ty_again (SpellsTy.int {i = i}) = rw (fold_out-Ty, t.outs-Int) (SpellsTy.int {i = i})
  ty_again (SpellsTy.buf s) = rw (fold_out-Ty, t.outs-Buf) (SpellsTy.buf (ty_again s))
  ty_again (SpellsTy.var h) = rw (fold_out-Ty, t.outs-Var) (SpellsTy.var h)
  ty_again (SpellsTy.named h) = rw (fold_out-Ty, t.outs-Named) (SpellsTy.named h)
  ty_again (SpellsTy.applied h s more) = rw (fold_out-Ty, t.outs-Named) (SpellsTy.applied h (ty_again s) (tys_again more))

  tys_again : {fs : List Form} {bs : List Ty} → SpellsTys fs bs → SpellsTys (map form_of_ty bs) bs
  tys_again SpellsTys.none = SpellsTys.none
  tys_again (SpellsTys.one s more) = SpellsTys.one (ty_again s) (tys_again more)

mutual
  ty_alike : {f : Form} {a : Ty} → SpellsTy f a → Alike f (form_of_ty a)
  ty_alike SpellsTy.bool = rw (fold_out-Ty, t.outs-Bool) (Alike.word refl)
  ty_alike SpellsTy.unit = rw (fold_out-Ty, t.outs-Unit) (Alike.word refl)
  ty_alike (SpellsTy.int {i = i}) = rw (fold_out-Ty, t.outs-Int) (Alike.word (int_is_word i))
  ty_alike (SpellsTy.buf s) = rw (fold_out-Ty, t.outs-Buf) (headed (codes "buf") refl (row1 (ty_alike s)))
  ty_alike (SpellsTy.var {x = x} h) = rw (fold_out-Ty, t.outs-Var) (Alike.word (variable_is_word x h))
  ty_alike (SpellsTy.named {x = x} h) = rw (fold_out-Ty, t.outs-Named) (Alike.word (name_is_word x h))
  ty_alike (SpellsTy.applied {x = x} h s more) = rw (fold_out-Ty, t.outs-Named) (headed x (name_is_word x h) (AllAlike.one (ty_alike s) (tys_alike more)))

  tys_alike : {fs : List Form} {bs : List Ty} → SpellsTys fs bs → AllAlike fs (map form_of_ty bs)
  tys_alike SpellsTys.none = AllAlike.none
  tys_alike (SpellsTys.one s more) = AllAlike.one (ty_alike s) (tys_alike more)

-- ---- patterns

mutual
  pat_again : {f : Form} {a : Pat} → SpellsPat f a → SpellsPat (form_of_pat a) a
  pat_again SpellsPat.any = rw (fold_out-Pat, p.outs-Any) SpellsPat.any
  pat_again (SpellsPat.bind h) = rw (fold_out-Pat, p.outs-Bind) (SpellsPat.bind h)
  pat_again (SpellsPat.bool {b = b}) = rw (fold_out-Pat, p.outs-Bool) (SpellsPat.bool {b = b})
  pat_again (SpellsPat.num {i = i} s) = rw (fold_out-Pat, p.outs-Num) (SpellsPat.num {i = i} (number_again s))
  pat_again (SpellsPat.con h more) = rw (fold_out-Pat, p.outs-Con) (SpellsPat.con h (pats_again more))
  pat_again (SpellsPat.make h more) = rw (fold_out-Pat, p.outs-Make) (SpellsPat.make h (pats_again more))

  pats_again : {fs : List Form} {bs : List Pat} → SpellsPats fs bs → SpellsPats (map form_of_pat bs) bs
  pats_again SpellsPats.none = SpellsPats.none
  pats_again (SpellsPats.one s more) = SpellsPats.one (pat_again s) (pats_again more)

mutual
  pat_alike : {f : Form} {a : Pat} → SpellsPat f a → Alike f (form_of_pat a)
  pat_alike SpellsPat.any = rw (fold_out-Pat, p.outs-Any) (Alike.word refl)
  pat_alike (SpellsPat.bind {x = x} h) = rw (fold_out-Pat, p.outs-Bind) (Alike.word (name_is_word x h))
  pat_alike (SpellsPat.bool {b = b}) = rw (fold_out-Pat, p.outs-Bool) (Alike.word (bool_is_word b))
  pat_alike (SpellsPat.num {i = i} s) = rw (fold_out-Pat, p.outs-Num) (typed i (row1 (number_alike s)))
  pat_alike (SpellsPat.con {x = x} h more) = rw (fold_out-Pat, p.outs-Con) (named (codes "con") x refl h (pats_alike more))
  pat_alike (SpellsPat.make {x = x} h more) = rw (fold_out-Pat, p.outs-Make) (named (codes "make") x refl h (pats_alike more))

  pats_alike : {fs : List Form} {bs : List Pat} → SpellsPats fs bs → AllAlike fs (map form_of_pat bs)
  pats_alike SpellsPats.none = AllAlike.none
  pats_alike (SpellsPats.one s more) = AllAlike.one (pat_alike s) (pats_alike more)

-- ---- expressions

mutual
  again : {f : Form} {a : Expr} → Spells f a → Spells (form_of_expr a) a
  again (Spells.var h) = rw (fold_out-Expr, e.outs-Var) (Spells.var h)
  again Spells.unit = rw (fold_out-Expr, e.outs-Unit) Spells.unit
  again (Spells.bool {b = b}) = rw (fold_out-Expr, e.outs-Bool) (Spells.bool {b = b})
  again (Spells.num {i = i} s) = rw (fold_out-Expr, e.outs-Num) (Spells.num {i = i} (number_again s))
  again (Spells.bin {op = op} {i = i} s u) = rw (fold_out-Expr, e.outs-Bin) (Spells.bin {op = op} {i = i} (again s) (again u))
  again (Spells.shift {left = left} {i = i} s u) = rw (fold_out-Expr, e.outs-Shift) (Spells.shift {left = left} {i = i} (again s) (again u))
  again (Spells.cmp {op = op} {i = i} s u) = rw (fold_out-Expr, e.outs-Cmp) (Spells.cmp {op = op} {i = i} (again s) (again u))
  again (Spells.not s) = rw (fold_out-Expr, e.outs-Not) (Spells.not (again s))
  again (Spells.cast {i = i} {j = j} s) = rw (fold_out-Expr, e.outs-Cast) (Spells.cast {i = i} {j = j} (again s))
  again (Spells.hide {i = i} s) = rw (fold_out-Expr, e.outs-Hide) (Spells.hide {i = i} (again s))
  again (Spells.make h ts more) = rw (fold_out-Expr, e.outs-Make) (Spells.make h (tys_again ts) (all_again more))
  again (Spells.get h s) = rw (fold_out-Expr, e.outs-Get) (Spells.get h (again s))
  again (Spells.con h ts more) = rw (fold_out-Expr, e.outs-Con) (Spells.con h (tys_again ts) (all_again more))
  again (Spells.read s u) = rw (fold_out-Expr, e.outs-Read) (Spells.read (again s) (again u))
  again (Spells.write s u v) = rw (fold_out-Expr, e.outs-Write) (Spells.write (again s) (again u) (again v))
  again (Spells.slice s u v) = rw (fold_out-Expr, e.outs-Slice) (Spells.slice (again s) (again u) (again v))
  again (Spells.tab h s) = rw (fold_out-Expr, e.outs-Tab) (Spells.tab h (again s))
  again (Spells.choice s u v) = rw (fold_out-Expr, e.outs-If) (Spells.choice (again s) (again u) (again v))
  again (Spells.match s a more) = rw (fold_out-Expr, e.outs-Match) (Spells.match (again s) (arm_again a) (arms_again more))
  again (Spells.do_ a more s) = rw (fold_out-Expr, e.outs-Do) (Spells.do_ (item_again a) (items_again more) (again s))
  again (Spells.frame s) = rw (fold_out-Expr, e.outs-Frame) (Spells.frame (again s))
  again (Spells.alloc t n s) = rw (fold_out-Expr, e.outs-Alloc) (Spells.alloc (ty_again t) (length_again n) (again s))
  again (Spells.while s u) = rw (fold_out-Expr, e.outs-While) (Spells.while (again s) (again u))
  again (Spells.for h s u v) = rw (fold_out-Expr, e.outs-For) (Spells.for h (again s) (again u) (again v))
  again (Spells.call h ts more) = rw (fold_out-Expr, e.outs-Call) (Spells.call h (tys_again ts) (all_again more))

  all_again : {fs : List Form} {bs : List Expr} → SpellsAll fs bs → SpellsAll (map form_of_expr bs) bs
  all_again SpellsAll.none = SpellsAll.none
  all_again (SpellsAll.one s more) = SpellsAll.one (again s) (all_again more)

  arm_again : {f : Form} {a : Arm} → SpellsArm f a → SpellsArm (form_of_arm a) a
  arm_again (SpellsArm.arm s u) = rw fold-roll-Arm (SpellsArm.arm (pat_again s) (again u))

  arms_again : {fs : List Form} {bs : List Arm} → SpellsArms fs bs → SpellsArms (map form_of_arm bs) bs
  arms_again SpellsArms.no_arms = SpellsArms.no_arms
  arms_again (SpellsArms.an_arm s more) = SpellsArms.an_arm (arm_again s) (arms_again more)

  item_again : {f : Form} {a : Item} → SpellsItem f a → SpellsItem (form_of_item a) a
  item_again (SpellsItem.let_ h t s) = rw (fold_out-Item, item.outs-Let) (SpellsItem.let_ h (ty_again t) (again s))
  item_again (SpellsItem.run s) = rw (fold_out-Item, item.outs-Run) (SpellsItem.run (again s))

  items_again : {fs : List Form} {bs : List Item} → SpellsItems fs bs → SpellsItems (map form_of_item bs) bs
  items_again SpellsItems.no_items = SpellsItems.no_items
  items_again (SpellsItems.an_item s more) = SpellsItems.an_item (item_again s) (items_again more)

mutual
  alike : {f : Form} {a : Expr} → Spells f a → Alike f (form_of_expr a)
  alike (Spells.var {x = x} h) = rw (fold_out-Expr, e.outs-Var) (Alike.word (name_is_word x h))
  alike Spells.unit = rw (fold_out-Expr, e.outs-Unit) (Alike.word refl)
  alike (Spells.bool {b = b}) = rw (fold_out-Expr, e.outs-Bool) (Alike.word (bool_is_word b))
  alike (Spells.num {i = i} s) = rw (fold_out-Expr, e.outs-Num) (typed i (row1 (number_alike s)))
  alike (Spells.bin {op = op} {i = i} s u) = rw (fold_out-Expr, e.outs-Bin) (operator (bin_word op) i (bin_is_word op) (row2 (alike s) (alike u)))
  alike (Spells.shift {left = left} {i = i} s u) = rw (fold_out-Expr, e.outs-Shift) (operator (shift_word left) i (shift_is_word left) (row2 (alike s) (alike u)))
  alike (Spells.cmp {op = op} {i = i} s u) = rw (fold_out-Expr, e.outs-Cmp) (operator (cmp_word op) i (cmp_is_word op) (row2 (alike s) (alike u)))
  alike (Spells.not s) = rw (fold_out-Expr, e.outs-Not) (headed (codes "not") refl (row1 (alike s)))
  alike (Spells.cast {i = i} {j = j} s) = rw (fold_out-Expr, e.outs-Cast) (operator (codes "cast") i refl (row2 (Alike.word (int_is_word j)) (alike s)))
  alike (Spells.hide {i = i} s) = rw (fold_out-Expr, e.outs-Hide) (operator (codes "hide") i refl (row1 (alike s)))
  alike (Spells.make {x = x} h ts more) = rw (fold_out-Expr, e.outs-Make) (named (codes "make") x refl h (AllAlike.one (Alike.list (tys_alike ts)) (all_alike more)))
  alike (Spells.get {x = x} h s) = rw (fold_out-Expr, e.outs-Get) (named (codes "get") x refl h (row1 (alike s)))
  alike (Spells.con {x = x} h ts more) = rw (fold_out-Expr, e.outs-Con) (named (codes "con") x refl h (AllAlike.one (Alike.list (tys_alike ts)) (all_alike more)))
  alike (Spells.read s u) = rw (fold_out-Expr, e.outs-Read) (headed (codes "read") refl (row2 (alike s) (alike u)))
  alike (Spells.write s u v) = rw (fold_out-Expr, e.outs-Write) (headed (codes "write") refl (row3 (alike s) (alike u) (alike v)))
  alike (Spells.slice s u v) = rw (fold_out-Expr, e.outs-Slice) (headed (codes "slice") refl (row3 (alike s) (alike u) (alike v)))
  alike (Spells.tab {x = x} h s) = rw (fold_out-Expr, e.outs-Tab) (named (codes "tab") x refl h (row1 (alike s)))
  alike (Spells.choice s u v) = rw (fold_out-Expr, e.outs-If) (headed (codes "if") refl (row3 (alike s) (alike u) (alike v)))
  alike (Spells.match s a more) = rw (fold_out-Expr, e.outs-Match) (headed (codes "match") refl (AllAlike.one (alike s) (AllAlike.one (arm_alike a) (arms_alike more))))
  alike (Spells.do_ a more s) = rw (fold_out-Expr, e.outs-Do) (headed (codes "do") refl (AllAlike.one (item_alike a) (all_both (items_alike more) (row1 (alike s)))))
  alike (Spells.frame s) = rw (fold_out-Expr, e.outs-Frame) (headed (codes "frame") refl (row1 (alike s)))
  alike (Spells.alloc t n s) = rw (fold_out-Expr, e.outs-Alloc) (headed (codes "alloc") refl (row3 (ty_alike t) (length_alike n) (alike s)))
  alike (Spells.while s u) = rw (fold_out-Expr, e.outs-While) (headed (codes "while") refl (row2 (alike s) (alike u)))
  alike (Spells.for {x = x} h s u v) = rw (fold_out-Expr, e.outs-For) (named (codes "for") x refl h (row3 (alike s) (alike u) (alike v)))
  alike (Spells.call {x = x} h ts more) = rw (fold_out-Expr, e.outs-Call) (named (codes "call") x refl h (AllAlike.one (Alike.list (tys_alike ts)) (all_alike more)))

  all_alike : {fs : List Form} {bs : List Expr} → SpellsAll fs bs → AllAlike fs (map form_of_expr bs)
  all_alike SpellsAll.none = AllAlike.none
  all_alike (SpellsAll.one s more) = AllAlike.one (alike s) (all_alike more)

  arm_alike : {f : Form} {a : Arm} → SpellsArm f a → Alike f (form_of_arm a)
  arm_alike (SpellsArm.arm s u) = rw fold-roll-Arm (Alike.list (row2 (pat_alike s) (alike u)))

  arms_alike : {fs : List Form} {bs : List Arm} → SpellsArms fs bs → AllAlike fs (map form_of_arm bs)
  arms_alike SpellsArms.no_arms = AllAlike.none
  arms_alike (SpellsArms.an_arm s more) = AllAlike.one (arm_alike s) (arms_alike more)

  item_alike : {f : Form} {a : Item} → SpellsItem f a → Alike f (form_of_item a)
  item_alike (SpellsItem.let_ {x = x} h t s) = rw (fold_out-Item, item.outs-Let) (named (codes "let") x refl h (row2 (ty_alike t) (alike s)))
  item_alike (SpellsItem.run s) = rw (fold_out-Item, item.outs-Run) (alike s)

  items_alike : {fs : List Form} {bs : List Item} → SpellsItems fs bs → AllAlike fs (map form_of_item bs)
  items_alike SpellsItems.no_items = AllAlike.none
  items_alike (SpellsItems.an_item s more) = AllAlike.one (item_alike s) (items_alike more)

-- ---- definitions

each_again : {A : Type 0} {R : Form → A → Type 0} (g : A → Form) → ((f : Form) (a : A) → R f a → R (g a) a) → {fs : List Form} {bs : List A} → Each R fs bs → Each R (map g bs) bs
each_again g one Each.none = Each.none
each_again g one (Each.one {x = f} {y = a} s more) = Each.one (one f a s) (each_again g one more)

each_alike : {A : Type 0} {R : Form → A → Type 0} (g : A → Form) → ((f : Form) (a : A) → R f a → Alike f (g a)) → {fs : List Form} {bs : List A} → Each R fs bs → AllAlike fs (map g bs)
each_alike g one Each.none = AllAlike.none
each_alike g one (Each.one {x = f} {y = a} s more) = AllAlike.one (one f a s) (each_alike g one more)

var_again : (f : Form) (x : List ℕ) → SpellsVar f x → SpellsVar (form_of_var x) x
var_again f x (SpellsVar.variable h) = SpellsVar.variable h

var_alike : (f : Form) (x : List ℕ) → SpellsVar f x → Alike f (form_of_var x)
var_alike f x (SpellsVar.variable h) = Alike.word (variable_is_word x h)

field_again : (f : Form) (a : Field) → SpellsField f a → SpellsField (form_of_field a) a
field_again f a (SpellsField.field h s) = SpellsField.field h (ty_again s)

field_alike : (f : Form) (a : Field) → SpellsField f a → Alike f (form_of_field a)
field_alike f a (SpellsField.field {x = x} h s) = headed x (name_is_word x h) (row1 (ty_alike s))

con_again : (f : Form) (a : Con) → SpellsCon f a → SpellsCon (form_of_con a) a
con_again f a (SpellsCon.con h more) = SpellsCon.con h (tys_again more)

con_alike : (f : Form) (a : Con) → SpellsCon f a → Alike f (form_of_con a)
con_alike f a (SpellsCon.con {x = x} h more) = headed x (name_is_word x h) (tys_alike more)

def_again : (f : Form) (a : Def) → SpellsDef f a → SpellsDef (form_of_def a) a
def_again f a (SpellsDef.struct h vs s more) = SpellsDef.struct h (each_again form_of_var var_again vs) (field_again _ _ s) (each_again form_of_field field_again more)
def_again f a (SpellsDef.sum h vs s more) = SpellsDef.sum h (each_again form_of_var var_again vs) (con_again _ _ s) (each_again form_of_con con_again more)
def_again f a (SpellsDef.table {i = i} h s more) = SpellsDef.table {i = i} h (number_again s) (each_again form_of_number (λ f n. number_again) more)
def_again f a (SpellsDef.fun h vs ps t s) = SpellsDef.fun h (each_again form_of_var var_again vs) (each_again form_of_field field_again ps) (ty_again t) (again s)
def_again f a (SpellsDef.entry h) = SpellsDef.entry h

def_alike : (f : Form) (a : Def) → SpellsDef f a → Alike f (form_of_def a)
def_alike f a (SpellsDef.struct {x = x} h vs s more) =
    named (codes "struct") x refl h (AllAlike.one (Alike.list (each_alike form_of_var var_alike vs)) (AllAlike.one (field_alike _ _ s) (each_alike form_of_field field_alike more)))
def_alike f a (SpellsDef.sum {x = x} h vs s more) =
    named (codes "sum") x refl h (AllAlike.one (Alike.list (each_alike form_of_var var_alike vs)) (AllAlike.one (con_alike _ _ s) (each_alike form_of_con con_alike more)))
def_alike f a (SpellsDef.table {x = x} {i = i} h s more) =
    named (codes "table") x refl h (AllAlike.one (Alike.word (int_is_word i)) (AllAlike.one (number_alike s) (each_alike form_of_number (λ f n. number_alike) more)))
def_alike f a (SpellsDef.fun {x = x} h vs ps t s) =
    named (codes "fun") x refl h (AllAlike.one (Alike.list (each_alike form_of_var var_alike vs)) (AllAlike.one (Alike.list (each_alike form_of_field field_alike ps)) (row2 (ty_alike t) (alike s))))
def_alike f a (SpellsDef.entry {x = x} h) = named (codes "entry") x refl h AllAlike.none

pub defs_again : {forms : List Form} {defs : List Def} → SpellsDefs forms defs → SpellsDefs (map form_of_def defs) defs
defs_again = each_again form_of_def def_again

pub defs_alike : {forms : List Form} {defs : List Def} → SpellsDefs forms defs → AllAlike forms (map form_of_def defs)
defs_alike = each_alike form_of_def def_alike
