-- What stands in a file that a text spells, and that it can run.
use Rattle.std.proofs.Common.{◌≡◌, ℕ, List, [], ◌∷◌, ◌++◌, map, flat_map, refl, sym, subst}
use Rattle.std.specs.List.{AllByRecursion}
use Rattle.krml_forms.specs.declared.form.Form.{Form}
use Rattle.krml_syntax.specs.declared.tree.Ty.{Ty, roll-Ty, map-Ty}
use Rattle.krml_syntax.specs.declared.tree.Ty.TheVariants as t
use Rattle.krml_syntax.specs.declared.tree.Ty.TheOpen.{Ty-F}
use Rattle.krml_syntax.specs.declared.tree.Ty.TheFolds.{ind-Ty, para-Ty, para-roll-Ty}
use Rattle.krml_syntax.specs.declared.tree.Pat.{Pat, roll-Pat, map-Pat}
use Rattle.krml_syntax.specs.declared.tree.Pat.TheVariants as pat
use Rattle.krml_syntax.specs.declared.tree.Pat.TheOpen.{Pat-F}
use Rattle.krml_syntax.specs.declared.tree.Pat.TheFolds.{para-Pat, para-roll-Pat}
use Rattle.krml_syntax.specs.declared.tree.Field.{Field}
use Rattle.krml_syntax.specs.declared.tree.Con.{Con}
use Rattle.krml_syntax.specs.declared.tree.Arm.{Arm}
use Rattle.krml_syntax.specs.declared.tree.Case.{Case}
use Rattle.krml_syntax.specs.declared.tree.Item.{Item}
use Rattle.krml_syntax.specs.declared.tree.Expr.{Expr, out-Expr}
use Rattle.krml_syntax.specs.declared.tree.Expr.TheVariants as e
use Rattle.krml_syntax.specs.declared.tree.Expr.TheOpen.{Expr-F}
use Rattle.krml_syntax.specs.declared.tree.Def.{Def}
use Rattle.krml_syntax.specs.declared.tree.SourceFile.{SourceFile}
use Rattle.krml_syntax.specs.Spelling.{Each, SpellsPat, SpellsPats, Spells, SpellsAll, SpellsArm, SpellsArms, SpellsItem, SpellsItems, SpellsField, SpellsDef}
use Rattle.krml_syntax.specs.Name.{IsName}
use Rattle.krml_syntax.specs.Shape.{Part, Role, role, parts_of}
use Rattle.krml_syntax.specs.File.{SpellsFile}
use Rattle.krml_ast.specs.Pieces.{Piece, Value, Test, Pattern, Written, Bound, inside_level_ty, inside_level_pat, pieces_of, pieces_of_ty, pieces_of_pat, pieces_of_def, pieces_in, field_types, own_pieces}
use Rattle.krml_ast.specs.FileTypes.{EachRole, HasNoCases, HasNoSlots, RoleIn, role_of, IsTypedFile}
use Rattle.krml_meaning.specs.Sound.{CanRun, CheckedFilesRun}
use Rattle.krml_meaning.proofs.Entries.{typed_runs}
use Rattle.krml_meaning.proofs.Lists.{each_append, each_so}
use Rattle.krml_meaning.proofs.Runnable.{source_can_run}
use Rattle.krml_ast.proofs.Pieces.{Parts, inside_item, inside_arm, HoldsIn, inside_hold, hold_last, let_inside, run_inside, arm_inside}

-- a form that no pass has changed: no cases, and frames without listed slots
abbrev pub IsSourceRole : Role → Type 0
IsSourceRole r = HasNoCases r × HasNoSlots r

-- what may stand in a file that a text spells
abbrev pub IsSource : Piece → Type 0
IsSource (Value x) = IsSourceRole (role_of x)
IsSource (Test x) = ⊥
IsSource (Pattern q) = Unit {0}
IsSource (Written a) = Unit {0}
IsSource (Bound x) = IsName x

abbrev Sourced : List Piece → Type 0
Sourced pieces = AllByRecursion IsSource pieces

both : (xs ys : List Piece) → Sourced xs → Sourced ys → Sourced (xs ++ ys)
both xs ys h k = each_append IsSource xs ys h k

-- ---- types and patterns

abbrev in_ty : Ty → List Piece
in_ty a = para-Ty (List Piece) inside_level_ty a

abbrev in_pat : Pat → List Piece
in_pat q = para-Pat (List Piece) inside_level_pat q

module _ (X : Type 0) (w : X → Ty) (h : (x : X) → Sourced (in_ty (w x))) where
  all_types : (xs : List X) → Sourced (inside_level_ty (Ty-F.Named [] (map (λ a. (a, in_ty a)) (map w xs))))
  all_types [] = tt
  all_types (x ∷ xs) = (tt, both (in_ty (w x)) (inside_level_ty (Ty-F.Named [] (map (λ a. (a, in_ty a)) (map w xs)))) (h x) (all_types xs))

  step_ty : (y : Ty-F X) → Sourced (in_ty (roll-Ty (map-Ty X Ty w y)))
  step_ty Ty-F.Bool = subst Sourced (sym (para-roll-Ty (List Piece) inside_level_ty Ty-F.Bool)) tt
  step_ty Ty-F.Unit = subst Sourced (sym (para-roll-Ty (List Piece) inside_level_ty Ty-F.Unit)) tt
  step_ty (Ty-F.Int i) = subst Sourced (sym (para-roll-Ty (List Piece) inside_level_ty (Ty-F.Int i))) tt
  step_ty (Ty-F.Buf x) = subst Sourced (sym (para-roll-Ty (List Piece) inside_level_ty (Ty-F.Buf (w x)))) (tt, h x)
  step_ty (Ty-F.Var x) = subst Sourced (sym (para-roll-Ty (List Piece) inside_level_ty (Ty-F.Var x))) tt
  step_ty (Ty-F.Named x xs) = subst Sourced (sym (para-roll-Ty (List Piece) inside_level_ty (Ty-F.Named x (map w xs)))) (all_types xs)

ty_sourced : (a : Ty) → Sourced (in_ty a)
ty_sourced = ind-Ty (λ a. Sourced (in_ty a)) (λ x y eq. subst (λ z. Sourced (in_ty (roll-Ty z))) eq (step_ty _ (λ q. q.0) (λ q. q.1) y))

types_sourced : (types : List Ty) → Sourced (flat_map pieces_of_ty types)
types_sourced [] = tt
types_sourced (a ∷ types) = (tt, both (in_ty a) (flat_map pieces_of_ty types) (ty_sourced a) (types_sourced types))

-- what stands in a pattern of this layer
pat_inside : (y : Pat-F Pat) → Sourced (inside_level_pat (map-Pat Pat (Pat × List Piece) (λ q. (q, in_pat q)) y)) → Sourced (in_pat (roll-Pat y))
pat_inside y h = subst Sourced (sym (para-roll-Pat (List Piece) inside_level_pat y)) h

-- the variables that a pattern binds are names
mutual
  pat_sourced : (f : Form) (q : Pat) → SpellsPat f q → Sourced (pieces_of_pat q)
  pat_sourced f q SpellsPat.any = (tt, rw (← pat.rolls-Any) (pat_inside Pat-F.Any tt))
  pat_sourced f q (SpellsPat.bind {x = x} ok) = (tt, rw (← pat.rolls-Bind x) (pat_inside (Pat-F.Bind x) (ok, tt)))
  pat_sourced f q (SpellsPat.bool {b = b}) = (tt, rw (← pat.rolls-Bool b) (pat_inside (Pat-F.Bool b) tt))
  pat_sourced f q (SpellsPat.num {i = i} {n = n} s) = (tt, rw (← pat.rolls-Num i n) (pat_inside (Pat-F.Num i n) tt))
  pat_sourced f q (SpellsPat.con {x = x} {fs = fs} {ps = ps} ok ss) = (tt, rw (← pat.rolls-Con x ps) (pat_inside (Pat-F.Con x ps) (pats_sourced fs ps ss)))
  pat_sourced f q (SpellsPat.make {x = x} {fs = fs} {ps = ps} ok ss) = (tt, rw (← pat.rolls-Make x ps) (pat_inside (Pat-F.Make x ps) (pats_sourced fs ps ss)))

  pats_sourced : (fs : List Form) (ps : List Pat) → SpellsPats fs ps → Sourced (inside_level_pat (Pat-F.Con [] (map (λ q. (q, in_pat q)) ps)))
  pats_sourced fs ps SpellsPats.none = tt
  pats_sourced fs ps (SpellsPats.one {f = f} {fs = gs} {a = q} {bs = more} sq ss) =
      both (pieces_of_pat q) (inside_level_pat (Pat-F.Con [] (map (λ q. (q, in_pat q)) more))) (pat_sourced f q sq) (pats_sourced gs more ss)

-- ---- expressions

abbrev SourcedIn : Parts → Type 0
SourcedIn parts = HoldsIn IsSource parts

-- an expression of a form of the source, whose parts are of the source
form_sourced : (x : Expr) (o : Expr-F Expr Item Arm Case) → out-Expr x ≡ o → IsSourceRole (role o) → Sourced (own_pieces o) → SourcedIn (parts_of o) → Sourced (pieces_of x)
form_sourced x o is ok own h = (subst (λ z. IsSourceRole (role z)) (sym is) ok, inside_hold IsSource x o is own h)

-- types that are written, and no variable that is bound
typed : (types : List Ty) → Sourced (flat_map pieces_of_ty types ++ [])
typed types = both (flat_map pieces_of_ty types) [] (types_sourced types) tt

mutual
  expr_sourced : (f : Form) (x : Expr) → Spells f x → Sourced (pieces_of x)
  expr_sourced f x (Spells.var {x = y} ok) = form_sourced x (Expr-F.Var y) (e.outs-Var y) (tt, tt) tt tt
  expr_sourced f x Spells.unit = form_sourced x Expr-F.Unit e.outs-Unit (tt, tt) tt tt
  expr_sourced f x (Spells.bool {b = b}) = form_sourced x (Expr-F.Bool b) (e.outs-Bool b) (tt, tt) tt tt
  expr_sourced f x (Spells.num {i = i} {n = n} ok) = form_sourced x (Expr-F.Num i n) (e.outs-Num i n) (tt, tt) (typed (t.Int i ∷ [])) tt
  expr_sourced f x (Spells.bin {op = o} {i = i} {f = f'} {g = g} {a = a} {b = b} sa sb) =
      form_sourced x (Expr-F.Bin o i a b) (e.outs-Bin o i a b) (tt, tt) (typed (t.Int i ∷ [])) (expr_sourced f' a sa, (expr_sourced g b sb, tt))
  expr_sourced f x (Spells.shift {left = left} {i = i} {f = f'} {g = g} {a = a} {b = b} sa sb) =
      form_sourced x (Expr-F.Shift left i a b) (e.outs-Shift left i a b) (tt, tt) (typed (t.Int i ∷ [])) (expr_sourced f' a sa, (expr_sourced g b sb, tt))
  expr_sourced f x (Spells.cmp {op = o} {i = i} {f = f'} {g = g} {a = a} {b = b} sa sb) =
      form_sourced x (Expr-F.Cmp o i a b) (e.outs-Cmp o i a b) (tt, tt) (typed (t.Int i ∷ [])) (expr_sourced f' a sa, (expr_sourced g b sb, tt))
  expr_sourced f x (Spells.not {f = f'} {a = a} sa) = form_sourced x (Expr-F.Not a) (e.outs-Not a) (tt, tt) tt (expr_sourced f' a sa, tt)
  expr_sourced f x (Spells.cast {i = i} {j = j} {f = f'} {a = a} sa) =
      form_sourced x (Expr-F.Cast i j a) (e.outs-Cast i j a) (tt, tt) (typed (t.Int i ∷ t.Int j ∷ [])) (expr_sourced f' a sa, tt)
  expr_sourced f x (Spells.hide {i = i} {f = f'} {a = a} sa) =
      form_sourced x (Expr-F.Hide i a) (e.outs-Hide i a) (tt, tt) (typed (t.Int i ∷ [])) (expr_sourced f' a sa, tt)
  expr_sourced f x (Spells.make {x = y} {fs = fs} {bs = bs} {es = es} ok ts ss) =
      form_sourced x (Expr-F.Make y bs es) (e.outs-Make y bs es) (tt, tt) (typed bs) (all_sourced fs es ss)
  expr_sourced f x (Spells.get {x = y} {f = f'} {a = a} ok sa) = form_sourced x (Expr-F.Get y a) (e.outs-Get y a) (tt, tt) tt (expr_sourced f' a sa, tt)
  expr_sourced f x (Spells.con {x = y} {fs = fs} {bs = bs} {es = es} ok ts ss) =
      form_sourced x (Expr-F.Con y bs es) (e.outs-Con y bs es) (tt, tt) (typed bs) (all_sourced fs es ss)
  expr_sourced f x (Spells.read {f = f'} {g = g} {a = a} {b = b} sa sb) =
      form_sourced x (Expr-F.Read a b) (e.outs-Read a b) (tt, tt) tt (expr_sourced f' a sa, (expr_sourced g b sb, tt))
  expr_sourced f x (Spells.write {f = f'} {g = g} {h = h} {a = a} {b = b} {c = c} sa sb sc) =
      form_sourced x (Expr-F.Write a b c) (e.outs-Write a b c) (tt, tt) tt (expr_sourced f' a sa, (expr_sourced g b sb, (expr_sourced h c sc, tt)))
  expr_sourced f x (Spells.slice {f = f'} {g = g} {h = h} {a = a} {b = b} {c = c} sa sb sc) =
      form_sourced x (Expr-F.Slice a b c) (e.outs-Slice a b c) (tt, tt) tt (expr_sourced f' a sa, (expr_sourced g b sb, (expr_sourced h c sc, tt)))
  expr_sourced f x (Spells.tab {x = y} {f = f'} {a = a} ok sa) = form_sourced x (Expr-F.Tab y a) (e.outs-Tab y a) (tt, tt) tt (expr_sourced f' a sa, tt)
  expr_sourced f x (Spells.choice {f = f'} {g = g} {h = h} {c = a} {a = b} {b = c} sa sb sc) =
      form_sourced x (Expr-F.If a b c) (e.outs-If a b c) (tt, tt) tt (expr_sourced f' a sa, (expr_sourced g b sb, (expr_sourced h c sc, tt)))
  expr_sourced f x (Spells.match {f = f'} {g = g} {gs = gs} {a = a} {x = y} {xs = ys} sa sy sys) =
      form_sourced x (Expr-F.Match a (y ∷ ys)) (e.outs-Match a (y ∷ ys)) (tt, tt) tt (expr_sourced f' a sa, (arm_sourced g y sy, arms_sourced gs ys sys))
  expr_sourced f x (Spells.do_ {f = f'} {g = g} {fs = fs} {x = y} {xs = ys} {a = a} sy sys sa) =
      form_sourced x (Expr-F.Do (y ∷ ys) a) (e.outs-Do (y ∷ ys) a) (tt, tt) tt
      (hold_last IsSource (map Part.item (y ∷ ys)) a (item_sourced f' y sy, items_sourced fs ys sys) (expr_sourced g a sa))
  expr_sourced f x (Spells.frame {f = f'} {a = a} sa) = form_sourced x (Expr-F.Frame [] a) (e.outs-Frame [] a) (tt, refl) tt (expr_sourced f' a sa, tt)
  expr_sourced f x (Spells.alloc {h = h} {a = b} {n = n} {b = a} st sl sa) =
      form_sourced x (Expr-F.Alloc b n a) (e.outs-Alloc b n a) (tt, tt) (typed (b ∷ [])) (expr_sourced h a sa, tt)
  expr_sourced f x (Spells.while {f = f'} {g = g} {c = a} {a = b} sa sb) =
      form_sourced x (Expr-F.While a b) (e.outs-While a b) (tt, tt) tt (expr_sourced f' a sa, (expr_sourced g b sb, tt))
  expr_sourced f x (Spells.for {x = y} {f = f'} {g = g} {h = h} {a = a} {b = b} {c = c} ok sa sb sc) =
      form_sourced x (Expr-F.For y a b c) (e.outs-For y a b c) (tt, tt) (ok, tt) (expr_sourced f' a sa, (expr_sourced g b sb, (expr_sourced h c sc, tt)))
  expr_sourced f x (Spells.call {x = y} {fs = fs} {bs = bs} {es = es} ok ts ss) =
      form_sourced x (Expr-F.Call y bs es) (e.outs-Call y bs es) (tt, tt) (typed bs) (all_sourced fs es ss)

  all_sourced : (fs : List Form) (es : List Expr) → SpellsAll fs es → SourcedIn (map Part.expr es)
  all_sourced fs es SpellsAll.none = tt
  all_sourced fs es (SpellsAll.one {f = f} {fs = gs} {a = a} {bs = more} sa ss) = (expr_sourced f a sa, all_sourced gs more ss)

  arm_sourced : (f : Form) (x : Arm) → SpellsArm f x → Sourced (inside_arm x)
  arm_sourced f x (SpellsArm.arm {f = f'} {g = g} {a = q} {b = a} sq sa) =
      subst Sourced (sym (arm_inside q a)) (both (pieces_of_pat q) (pieces_of a) (pat_sourced f' q sq) (expr_sourced g a sa))

  arms_sourced : (fs : List Form) (xs : List Arm) → SpellsArms fs xs → SourcedIn (map Part.arm xs)
  arms_sourced fs xs SpellsArms.no_arms = tt
  arms_sourced fs xs (SpellsArms.an_arm {f = f} {fs = gs} {a = x} {bs = more} sx ss) = (arm_sourced f x sx, arms_sourced gs more ss)

  item_sourced : (f : Form) (x : Item) → SpellsItem f x → Sourced (inside_item x)
  item_sourced f x (SpellsItem.let_ {x = y} {g = g} {a = b} {b = a} ok st sa) = subst Sourced (sym (let_inside y b a))
      (both (pieces_of_ty b ++ pieces_of a) (Bound y ∷ []) (both (pieces_of_ty b) (pieces_of a) (tt, ty_sourced b) (expr_sourced g a sa)) (ok, tt))
  item_sourced f x (SpellsItem.run {a = a} sa) = subst Sourced (sym (run_inside a)) (expr_sourced f a sa)

  items_sourced : (fs : List Form) (xs : List Item) → SpellsItems fs xs → SourcedIn (map Part.item xs)
  items_sourced fs xs SpellsItems.no_items = tt
  items_sourced fs xs (SpellsItems.an_item {f = f} {fs = gs} {a = x} {bs = more} sx ss) = (item_sourced f x sx, items_sourced gs more ss)

-- ---- definitions

fields_sourced : (fields : List Field) → Sourced (field_types fields)
fields_sourced [] = tt
fields_sourced (f ∷ fields) = both (pieces_of_ty f.ty) (field_types fields) (tt, ty_sourced f.ty) (fields_sourced fields)

names_sourced : (fs : List Form) (fields : List Field) → Each SpellsField fs fields → Sourced (map (λ (z : Field). Bound z.name) fields)
names_sourced fs fields Each.none = tt
names_sourced fs fields (Each.one {xs = gs} {ys = more} (SpellsField.field ok st) ss) = (ok, names_sourced gs more ss)

cons_sourced : (cons : List Con) → Sourced (flat_map (λ (c : Con). flat_map pieces_of_ty c.args) cons)
cons_sourced [] = tt
cons_sourced (c ∷ cons) = both (flat_map pieces_of_ty c.args) (flat_map (λ (z : Con). flat_map pieces_of_ty z.args) cons) (types_sourced c.args) (cons_sourced cons)

def_sourced : (f : Form) (def : Def) → SpellsDef f def → Sourced (pieces_of_def def)
def_sourced f def (SpellsDef.struct {a = a} {bs = more} ok vs sa ss) = fields_sourced (a ∷ more)
def_sourced f def (SpellsDef.sum {a = a} {bs = more} ok vs sa ss) = cons_sourced (a ∷ more)
def_sourced f def (SpellsDef.table {i = i} ok sn ss) = (tt, ty_sourced (t.Int i))
def_sourced f def (SpellsDef.fun {ps = fs} {params = params} {g = g} {result = result} {body = body} ok vs ps sr sb) =
    let names : List Piece = map (λ (z : Field). Bound z.name) params in
    both (field_types params ++ names ++ pieces_of_ty result) (pieces_of body)
    (both (field_types params ++ names) (pieces_of_ty result) (both (field_types params) names (fields_sourced params) (names_sourced fs params ps)) (tt, ty_sourced result))
    (expr_sourced g body sb)
def_sourced f def (SpellsDef.entry ok) = tt

defs_sourced : (fs : List Form) (ds : List Def) → Each SpellsDef fs ds → Sourced (pieces_in ds)
defs_sourced fs ds Each.none = tt
defs_sourced fs ds (Each.one {x = f} {y = def} {xs = gs} {ys = more} sx ss) = both (pieces_of_def def) (pieces_in more) (def_sourced f def sx) (defs_sourced gs more ss)

-- what holds of the roles in a spelled file's pieces
role_so : (P : Role → Type 0) → ((r : Role) → IsSourceRole r → P r) → (x : Piece) → IsSource x → RoleIn P x
role_so P so (Value x) h = so (role_of x) h
role_so P so (Test x) h = absurd h
role_so P so (Pattern q) h = tt
role_so P so (Written a) h = tt
role_so P so (Bound x) h = tt

module _ (text : List ℕ) (file : SourceFile) (s : SpellsFile text file) where
  pub all_source : AllByRecursion IsSource (pieces_in file.defs)
  all_source = defs_sourced s.forms file.defs s.spelled

  pub no_cases : EachRole HasNoCases file.defs
  no_cases = each_so IsSource (RoleIn HasNoCases) (pieces_in file.defs) (role_so HasNoCases (λ r h. h.0)) all_source

  pub no_slots : EachRole HasNoSlots file.defs
  no_slots = each_so IsSource (RoleIn HasNoSlots) (pieces_in file.defs) (role_so HasNoSlots (λ r h. h.1)) all_source

  pub spelled_can_run : EachRole (CanRun file.defs) file.defs
  spelled_can_run = source_can_run file.defs no_slots no_cases

pub checked_can_run : (file : SourceFile) → IsTypedFile file → EachRole (CanRun file.defs) file.defs
checked_can_run file c = spelled_can_run c.spelled.text file c.spelled.spells

pub checked_runs : CheckedFilesRun
checked_runs file entry args bound c fit = typed_runs file entry args bound c.typed (checked_can_run file c) fit
