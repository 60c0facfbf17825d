-- Emitters behind the statements of expressions, and scopes behind items.
use Rattle.std.proofs.Common.{Result, Ok, Err, IfOk, OnOk, IsOkAnd, if◌then◌else◌, ◌≡◌, ℕ, ◌+◌, Bool, true, false, List, [], ◌∷◌, ◌++◌, map, length, refl, sym, ap, ◌∙◌, append_assoc}
use Rattle.std.proofs.lemmas.List.{append-nil}
use Rattle.krml_trace.specs.declared.width.Width.TheVariants.{W8}
use Rattle.krml_syntax.specs.declared.tree.IntTy.{IntTy}
use Rattle.krml_syntax.specs.declared.tree.Ty.{Ty}
use Rattle.krml_syntax.specs.declared.tree.Ty.TheVariants as ty
use Rattle.krml_syntax.specs.declared.tree.BinOp.{BinOp}
use Rattle.krml_syntax.specs.declared.tree.BinOp.TheVariants as op
use Rattle.krml_syntax.specs.declared.tree.CmpOp.{CmpOp}
use Rattle.krml_syntax.specs.declared.tree.Expr.{Expr}
use Rattle.krml_syntax.specs.declared.tree.Expr.TheOpen.{Item-F}
use Rattle.krml_syntax.specs.declared.tree.Expr.TheFolds.{fold_out-Expr, fold_out-Item}
use Rattle.krml_syntax.specs.declared.tree.Expr.TheVariants as e
use Rattle.krml_syntax.specs.declared.tree.Item.{Item}
use Rattle.krml_syntax.specs.declared.tree.Item.TheVariants as item
use Rattle.krml_syntax.specs.declared.tree.Def.{Def}
use Rattle.krml_ast.specs.Names.{fun_named}
use Rattle.krml_syntax.specs.Types.{u32}
use Rattle.krml_ctree.specs.declared.tree.CmpKind.TheVariants as ck
use Rattle.krml_ctree.specs.declared.tree.CType.TheVariants as ct
use Rattle.krml_ctree.specs.declared.tree.CExpr.{CExpr}
use Rattle.krml_ctree.specs.declared.tree.CExpr.TheVariants as c
use Rattle.krml_ctree.specs.declared.tree.CStatement.{CStatement}
use Rattle.krml_ctree.specs.declared.tree.CStatement.TheVariants as st
use Rattle.krml_cstar.specs.declared.emitter.Emitter.{Emitter}
use Rattle.krml_cstar.specs.declared.given.Given.{Given}
use Rattle.krml_cstar.specs.declared.given.Apart.{Apart}
use Rattle.krml_cstar.specs.Types.{is_unit, ctype}
use Rattle.krml_cstar.specs.Variables.{KnownVars, Known, plain, named, var}
use Rattle.krml_cstar.specs.Translation.{Out, Outs, Comp, ItemComp, ItemOut, gives, does, value, nothing, operands, operand, binary, shifted, compared, looked_up, choice, block, while, for, call, ran, called, all, items, item_step, bound, code_of, result_of, arm, into, stepped}
use Rattle.krml_cstar.specs.Scopes.{cut}
use Rattle.krml_cstar.specs.Emitting.{item_code, behind, after, after_all, after_items, beside, given, apart, alone, calling}
use Rattle.krml_cstar.proofs.Scopes.{cut_off}

-- ---- scopes behind items

-- what an item adds to the variables in scope
record Adds (before now : KnownVars) : Type 0 where
  more : KnownVars
  is : now ≡ more ++ before

adds_more : {xs ys zs : KnownVars} → Adds xs ys → Adds ys zs → Adds xs zs
adds_more {xs} {ys} {zs} a b = record { more = b.more ++ a.more; is = b.is ∙ ap (λ ns. b.more ++ ns) a.is ∙ sym (append_assoc b.more a.more xs) }

item_adds : (y : Item-F Comp ItemComp (Unit {0}) (Unit {0})) (names : KnownVars) (n : ℕ) → Adds names (item_step y names n).names
item_adds (Item-F.Let x a e) names n = record { more = record { name = x; emitted = _; ty = a } ∷ []; is = refl }
item_adds (Item-F.Run e) names n = record { more = []; is = refl }

items_add : (defs : List Def) (is : List Item) (names : KnownVars) (n : ℕ) → Adds names (items (map (item_code defs) is) names n).names
items_add defs [] names n = record { more = []; is = refl }
items_add defs (i ∷ is) names n =
    let o : ItemOut = item_code defs i names n in
    let first : Adds names o.names = rw fold_out-Item (item_adds _ names n) in
    adds_more first (items_add defs is o.names o.next)

-- the variables of items go out of scope
pub scope_back : (defs : List Def) (is : List Item) (names : KnownVars) (n : ℕ) → cut (length names) (items (map (item_code defs) is) names n).names ≡ names
scope_back defs is names n =
    let a : Adds names (items (map (item_code defs) is) names n).names = items_add defs is names n in
    ap (cut (length names)) a.is ∙ cut_off a.more names

-- the variable of a loop goes out of scope
pub one_back : (k : Known) (names : KnownVars) → cut (length names) (k ∷ names) ≡ names
one_back k names = cut_off (k ∷ []) names

-- ---- what expressions become

pub bin_is : (defs : List Def) (o : BinOp) (i : IntTy) (a b : Expr) → code_of defs (e.Bin o i a b) ≡ gives (operands (code_of defs a) (code_of defs b) (binary o i))
bin_is defs o i a b = rw (fold_out-Expr, e.outs-Bin) refl

pub shift_is : (defs : List Def) (left : Bool) (i : IntTy) (a b : Expr) → code_of defs (e.Shift left i a b) ≡ gives (operands (code_of defs a) (code_of defs b) (shifted left i))
shift_is defs left i a b = rw (fold_out-Expr, e.outs-Shift) refl

pub cmp_is : (defs : List Def) (o : CmpOp) (i : IntTy) (a b : Expr) → code_of defs (e.Cmp o i a b) ≡ gives (operands (code_of defs a) (code_of defs b) (compared o i))
cmp_is defs o i a b = rw (fold_out-Expr, e.outs-Cmp) refl

pub tab_is : (defs : List Def) (x : List ℕ) (a : Expr) → code_of defs (e.Tab x a) ≡ gives (operand (code_of defs a) (looked_up defs x))
tab_is defs x a = rw (fold_out-Expr, e.outs-Tab) refl

pub if_is : (defs : List Def) (t a b : Expr) → code_of defs (e.If t a b) ≡ choice (code_of defs t) (code_of defs a) (code_of defs b)
if_is defs t a b = rw (fold_out-Expr, e.outs-If) refl

pub do_is : (defs : List Def) (is : List Item) (a : Expr) → code_of defs (e.Do is a) ≡ block (map (item_code defs) is) (code_of defs a)
do_is defs is a = rw (fold_out-Expr, e.outs-Do) refl

pub while_is : (defs : List Def) (t a : Expr) → code_of defs (e.While t a) ≡ does (while (code_of defs t) (code_of defs a))
while_is defs t a = rw (fold_out-Expr, e.outs-While) refl

pub for_is : (defs : List Def) (x : List ℕ) (a b b2 : Expr) → code_of defs (e.For x a b b2) ≡ does (for x (code_of defs a) (code_of defs b) (code_of defs b2))
for_is defs x a b b2 = rw (fold_out-Expr, e.outs-For) refl

pub call_is : (defs : List Def) (f : List ℕ) (args : List Ty) (es : List Expr) → code_of defs (e.Call f args es) ≡ call defs f (map (code_of defs) es)
call_is defs f args es = rw (fold_out-Expr, e.outs-Call) refl

pub let_is : (defs : List Def) (x : List ℕ) (a : Ty) (b : Expr) → item_code defs (item.Let x a b) ≡ bound x a (code_of defs b)
let_is defs x a b = rw (fold_out-Item, item.outs-Let) refl

-- ---- statements of several expressions. Each law has the steps of the emitter as premises, from the first one on.

-- where three lists of statements follow those so far
three : (cs xs ys zs : List CStatement) → ((cs ++ xs) ++ ys) ++ zs ≡ cs ++ ((xs ++ ys) ++ zs)
three cs xs ys zs = ap (λ (before : List CStatement). before ++ zs) (append_assoc cs xs ys) ∙ append_assoc cs (xs ++ ys) zs

-- Where the emitter gives an answer, its parts did: their results are premises, with what each of them says of its own Ok.

-- two operands and what is made of them
pub two_state : {E : Type 0} (ca cb : List Def → Comp) (f : CExpr → CExpr → KnownVars → ℕ → Out) (k : Comp) (m m1 m2 m3 : Emitter) (r ra rb : Result Given E)
    → k ≡ gives (operands (ca m.defs.now) (cb m.defs.now) f)
    → OnOk ra (m1 ≡ after (ca m.defs.now) m) → IfOk ra (λ g. g ≡ given ((ca m.defs.now).run m.scope m.next))
    → OnOk rb (m2 ≡ after (cb m1.defs.now) m1) → IfOk rb (λ g. g ≡ given ((cb m1.defs.now).run m1.scope m1.next))
    → OnOk r (IsOkAnd ra (λ a. IsOkAnd rb (λ b. m3 ≡ behind (f a.value b.value m2.scope m2.next) m2)))
    → OnOk r (m3 ≡ after k m)
two_state ca cb f k m m1 m2 m3 (Ok g) (Ok a) (Ok b) is h1 ha h2 hb h3 =
    let oa : Out = (ca m.defs.now).run m.scope m.next in
    let ob : Out = (cb m.defs.now).run m.scope oa.next in
    let o : Out = f oa.value ob.value m.scope ob.next in
    rw (is, h3, hb, h2, ha, h1) (ap (λ (xs : List CStatement). record m { code = xs; next = o.next }) (three m.code oa.code ob.code o.code))
two_state ca cb f k m m1 m2 m3 (Ok g) (Ok a) (Err x) is h1 ha h2 hb h3 = absurd h3
two_state ca cb f k m m1 m2 m3 (Ok g) (Err x) rb is h1 ha h2 hb h3 = absurd h3
two_state ca cb f k m m1 m2 m3 (Err x) ra rb is h1 ha h2 hb h3 = tt

pub two_value : {E : Type 0} (ca cb : List Def → Comp) (f : CExpr → CExpr → KnownVars → ℕ → Out) (k : Comp) (t : Ty) (m m1 m2 : Emitter) (r ra rb : Result Given E)
    → k ≡ gives (operands (ca m.defs.now) (cb m.defs.now) f) → ((a b : CExpr) (names : KnownVars) (n : ℕ) → (f a b names n).ty ≡ t)
    → OnOk ra (m1 ≡ after (ca m.defs.now) m) → IfOk ra (λ g. g ≡ given ((ca m.defs.now).run m.scope m.next))
    → OnOk rb (m2 ≡ after (cb m1.defs.now) m1) → IfOk rb (λ g. g ≡ given ((cb m1.defs.now).run m1.scope m1.next))
    → IfOk r (λ g. IsOkAnd ra (λ a. IsOkAnd rb (λ b. g ≡ record { value = (f a.value b.value m2.scope m2.next).value; ty = t })))
    → IfOk r (λ g. g ≡ given (k.run m.scope m.next))
two_value ca cb f k t m m1 m2 (Ok g) (Ok a) (Ok b) is ht h1 ha h2 hb h3 =
    let oa : Out = (ca m.defs.now).run m.scope m.next in
    let ob : Out = (cb m.defs.now).run m.scope oa.next in
    rw (is, h3, hb, h2, ha, h1) (ap (λ (z : Ty). record { value = (f oa.value ob.value m.scope ob.next).value; ty = z }) (sym (ht oa.value ob.value m.scope ob.next)))
two_value ca cb f k t m m1 m2 (Ok g) (Ok a) (Err x) is ht h1 ha h2 hb h3 = absurd h3
two_value ca cb f k t m m1 m2 (Ok g) (Err x) rb is ht h1 ha h2 hb h3 = absurd h3
two_value ca cb f k t m m1 m2 (Err x) ra rb is ht h1 ha h2 hb h3 = tt

-- where nothing is put behind two operands
pub two_alone : {E : Type 0} (ca cb : List Def → Comp) (t : Ty) (f : CExpr → CExpr → CExpr) (k : Comp) (m m1 m2 : Emitter) (r ra rb : Result Given E)
    → k ≡ gives (operands (ca m.defs.now) (cb m.defs.now) (λ a b. value t (f a b)))
    → OnOk ra (m1 ≡ after (ca m.defs.now) m) → OnOk rb (m2 ≡ after (cb m1.defs.now) m1)
    → IfOk r (λ g. IsOkAnd ra (λ a. IsOkAnd rb (λ b. g ≡ record { value = f a.value b.value; ty = t })))
    → OnOk r (m2 ≡ after k m)
two_alone ca cb t f k m m1 m2 (Ok g) (Ok a) (Ok b) is h1 h2 h3 =
    let oa : Out = (ca m.defs.now).run m.scope m.next in
    let ob : Out = (cb m.defs.now).run m.scope oa.next in
    rw (is, h2, h1) (ap (λ (xs : List CStatement). record m { code = xs; next = ob.next })
    (append_assoc m.code oa.code ob.code ∙ ap (λ (xs : List CStatement). m.code ++ xs) (sym (append-nil (oa.code ++ ob.code)))))
two_alone ca cb t f k m m1 m2 (Ok g) (Ok a) (Err x) is h1 h2 h3 = absurd h3
two_alone ca cb t f k m m1 m2 (Ok g) (Err x) rb is h1 h2 h3 = absurd h3
two_alone ca cb t f k m m1 m2 (Err x) ra rb is h1 h2 h3 = tt

-- the type of what an operator gives
pub binary_ty : (o : BinOp) (i : IntTy) (a b : CExpr) (names : KnownVars) (n : ℕ) → (binary o i a b names n).ty ≡ ty.Int i
binary_ty op.Add i a b names n = refl
binary_ty op.Sub i a b names n = refl
binary_ty op.Mul i a b names n = refl
binary_ty op.Div i a b names n = refl
binary_ty op.Rem i a b names n = refl
binary_ty op.And i a b names n = refl
binary_ty op.Or i a b names n = refl
binary_ty op.Xor i a b names n = refl
binary_ty op.EqMask i a b names n = refl
binary_ty op.GteMask i a b names n = refl

-- a number of a table
pub tab_state : {E : Type 0} (ca : List Def → Comp) (x : List ℕ) (k : Comp) (m m1 m2 : Emitter) (r ra : Result Given E)
    → k ≡ gives (operand (ca m.defs.now) (looked_up m.defs.now x))
    → OnOk ra (m1 ≡ after (ca m.defs.now) m) → IfOk ra (λ g. g ≡ given ((ca m.defs.now).run m.scope m.next))
    → OnOk r (IsOkAnd ra (λ a. m2 ≡ behind (looked_up m1.defs.now x (alone a) m1.scope m1.next) m1))
    → OnOk r (m2 ≡ after k m)
tab_state ca x k m m1 m2 (Ok g) (Ok a) is h1 ha h2 =
    let oa : Out = (ca m.defs.now).run m.scope m.next in
    let o : Out = looked_up m.defs.now x oa m.scope oa.next in
    rw (is, h2, ha, h1) (ap (λ (xs : List CStatement). record m { code = xs; next = o.next }) (append_assoc m.code oa.code o.code))
tab_state ca x k m m1 m2 (Ok g) (Err e) is h1 ha h2 = absurd h2
tab_state ca x k m m1 m2 (Err e) ra is h1 ha h2 = tt

-- a choice that gives nothing
pub if_unit_state : {E : Type 0} (ct ca cb : List Def → Comp) (k : Comp) (m m1 m2 m3 m4 : Emitter) (r rt : Result Given E) (ra rb : Result Apart E)
    → k ≡ choice (ct m.defs.now) (ca m.defs.now) (cb m.defs.now)
    → OnOk rt (m1 ≡ after (ct m.defs.now) m) → IfOk rt (λ g. g ≡ given ((ct m.defs.now).run m.scope m.next)) → (ca m1.defs.now).unit ≡ true
    → OnOk ra (m2 ≡ beside ((ca m1.defs.now).run m1.scope m1.next) m1) → IfOk ra (λ g. g ≡ apart ((ca m1.defs.now).run m1.scope m1.next))
    → OnOk rb (m3 ≡ beside ((cb m2.defs.now).run m2.scope m2.next) m2) → IfOk rb (λ g. g ≡ apart ((cb m2.defs.now).run m2.scope m2.next))
    → OnOk r (IsOkAnd rt (λ t. IsOkAnd ra (λ a. IsOkAnd rb (λ b. m4 ≡ record m3 { code = m3.code ++ st.Chain (arm t.value a.code ∷ []) b.code ∷ [] }))))
    → OnOk r (m4 ≡ after k m)
if_unit_state ct ca cb k m m1 m2 m3 m4 (Ok g) (Ok t) (Ok a) (Ok b) is h1 ht u h2 ha h3 hb h4 =
    let ot : Out = (ct m.defs.now).run m.scope m.next in
    let oa : Out = (ca m.defs.now).run m.scope ot.next in
    let ob : Out = (cb m.defs.now).run m.scope oa.next in
    let unit : (ca m.defs.now).unit ≡ true = ap (λ (z : Emitter). (ca z.defs.now).unit) (sym h1) ∙ u in
    rw (is, h4, hb, h3, ha, h2, ht, h1, unit) (ap (λ (xs : List CStatement). record m { code = xs; next = ob.next })
    (append_assoc m.code ot.code (st.Chain (arm ot.value oa.code ∷ []) ob.code ∷ [])))
if_unit_state ct ca cb k m m1 m2 m3 m4 (Ok g) (Ok t) (Ok a) (Err x) is h1 ht u h2 ha h3 hb h4 = absurd h4
if_unit_state ct ca cb k m m1 m2 m3 m4 (Ok g) (Ok t) (Err x) rb is h1 ht u h2 ha h3 hb h4 = absurd h4
if_unit_state ct ca cb k m m1 m2 m3 m4 (Ok g) (Err x) ra rb is h1 ht u h2 ha h3 hb h4 = absurd h4
if_unit_state ct ca cb k m m1 m2 m3 m4 (Err x) rt ra rb is h1 ht u h2 ha h3 hb h4 = tt

pub if_unit_value : {E : Type 0} (ct ca cb : List Def → Comp) (k : Comp) (m m1 : Emitter) (r rt : Result Given E) (ra : Result Apart E)
    → k ≡ choice (ct m.defs.now) (ca m.defs.now) (cb m.defs.now)
    → OnOk rt (m1 ≡ after (ct m.defs.now) m) → (ca m1.defs.now).unit ≡ true → IfOk ra (λ g. g ≡ apart ((ca m1.defs.now).run m1.scope m1.next))
    → IfOk r (λ g. IsOkAnd rt (λ t. IsOkAnd ra (λ a. g ≡ record { value = nothing; ty = a.ty })))
    → IfOk r (λ g. g ≡ given (k.run m.scope m.next))
if_unit_value ct ca cb k m m1 (Ok g) (Ok t) (Ok a) is h1 u ha hg =
    let unit : (ca m.defs.now).unit ≡ true = ap (λ (z : Emitter). (ca z.defs.now).unit) (sym h1) ∙ u in
    rw (is, hg, ha, h1, unit) refl
if_unit_value ct ca cb k m m1 (Ok g) (Ok t) (Err x) is h1 u ha hg = absurd hg
if_unit_value ct ca cb k m m1 (Ok g) (Err x) ra is h1 u ha hg = absurd hg
if_unit_value ct ca cb k m m1 (Err x) rt ra is h1 u ha hg = tt

-- a choice that gives a value
pub if_value_state : {E : Type 0} (ct ca cb : List Def → Comp) (k : Comp) (m m1 m2 m3 m4 m5 : Emitter) (r rt : Result Given E) (rn : Result ℕ E) (ra rb : Result Apart E)
    → k ≡ choice (ct m.defs.now) (ca m.defs.now) (cb m.defs.now)
    → OnOk rt (m1 ≡ after (ct m.defs.now) m) → IfOk rt (λ g. g ≡ given ((ct m.defs.now).run m.scope m.next)) → (ca m1.defs.now).unit ≡ false
    → OnOk rn (m2 ≡ record m1 { next = m1.next + 1 }) → IfOk rn (λ n. n ≡ m1.next)
    → OnOk ra (m3 ≡ beside ((ca m2.defs.now).run m2.scope m2.next) m2) → IfOk ra (λ g. g ≡ apart ((ca m2.defs.now).run m2.scope m2.next))
    → OnOk rb (m4 ≡ beside ((cb m3.defs.now).run m3.scope m3.next) m3) → IfOk rb (λ g. g ≡ apart ((cb m3.defs.now).run m3.scope m3.next))
    → OnOk r (IsOkAnd rn (λ n. IsOkAnd rt (λ t. IsOkAnd ra (λ a. IsOkAnd rb (λ b. m5 ≡ record m4 {
      code = (m4.code ++ st.Blank (var n (ctype a.ty)) ∷ []) ++ st.Chain (arm t.value (a.code ++ st.Set (plain n) a.value ∷ []) ∷ []) (b.code ++ st.Set (plain n) b.value ∷ []) ∷ [];
    })))))
    → OnOk r (m5 ≡ after k m)
if_value_state ct ca cb k m m1 m2 m3 m4 m5 (Ok g) (Ok t) (Ok n) (Ok a) (Ok b) is h1 ht u h2 hk h3 ha h4 hb h5 =
    let ot : Out = (ct m.defs.now).run m.scope m.next in
    let oa : Out = (ca m.defs.now).run m.scope (ot.next + 1) in
    let ob : Out = (cb m.defs.now).run m.scope oa.next in
    let blank : CStatement = st.Blank (var ot.next (ctype oa.ty)) in
    let chain : CStatement = st.Chain (arm ot.value (into ot.next oa) ∷ []) (into ot.next ob) in
    let unit : (ca m.defs.now).unit ≡ false = ap (λ (z : Emitter). (ca z.defs.now).unit) (sym h1) ∙ u in
    rw (is, h5, hb, h4, ha, h3, hk, h2, ht, h1, unit) (ap (λ (xs : List CStatement). record m { code = xs; next = ob.next })
    (append_assoc (m.code ++ ot.code) (blank ∷ []) (chain ∷ []) ∙ append_assoc m.code ot.code (blank ∷ chain ∷ [])))
if_value_state ct ca cb k m m1 m2 m3 m4 m5 (Ok g) (Ok t) (Ok n) (Ok a) (Err x) is h1 ht u h2 hk h3 ha h4 hb h5 = absurd h5
if_value_state ct ca cb k m m1 m2 m3 m4 m5 (Ok g) (Ok t) (Ok n) (Err x) rb is h1 ht u h2 hk h3 ha h4 hb h5 = absurd h5
if_value_state ct ca cb k m m1 m2 m3 m4 m5 (Ok g) (Err x) (Ok n) ra rb is h1 ht u h2 hk h3 ha h4 hb h5 = absurd h5
if_value_state ct ca cb k m m1 m2 m3 m4 m5 (Ok g) rt (Err x) ra rb is h1 ht u h2 hk h3 ha h4 hb h5 = absurd h5
if_value_state ct ca cb k m m1 m2 m3 m4 m5 (Err x) rt rn ra rb is h1 ht u h2 hk h3 ha h4 hb h5 = tt

pub if_value_value : {E : Type 0} (ct ca cb : List Def → Comp) (k : Comp) (m m1 m2 : Emitter) (r rt : Result Given E) (rn : Result ℕ E) (ra : Result Apart E)
    → k ≡ choice (ct m.defs.now) (ca m.defs.now) (cb m.defs.now)
    → OnOk rt (m1 ≡ after (ct m.defs.now) m) → (ca m1.defs.now).unit ≡ false
    → OnOk rn (m2 ≡ record m1 { next = m1.next + 1 }) → IfOk rn (λ n. n ≡ m1.next)
    → IfOk ra (λ g. g ≡ apart ((ca m2.defs.now).run m2.scope m2.next))
    → IfOk r (λ g. IsOkAnd rn (λ n. IsOkAnd rt (λ t. IsOkAnd ra (λ a. g ≡ record { value = c.Var (plain n); ty = a.ty }))))
    → IfOk r (λ g. g ≡ given (k.run m.scope m.next))
if_value_value ct ca cb k m m1 m2 (Ok g) (Ok t) (Ok n) (Ok a) is h1 u h2 hk ha hg =
    let unit : (ca m.defs.now).unit ≡ false = ap (λ (z : Emitter). (ca z.defs.now).unit) (sym h1) ∙ u in
    rw (is, hg, ha, hk, h2, h1, unit) refl
if_value_value ct ca cb k m m1 m2 (Ok g) (Ok t) (Ok n) (Err x) is h1 u h2 hk ha hg = absurd hg
if_value_value ct ca cb k m m1 m2 (Ok g) (Err x) (Ok n) ra is h1 u h2 hk ha hg = absurd hg
if_value_value ct ca cb k m m1 m2 (Ok g) rt (Err x) ra is h1 u h2 hk ha hg = absurd hg
if_value_value ct ca cb k m m1 m2 (Err x) rt rn ra is h1 u h2 hk ha hg = tt

-- a block
pub do_state : {E U : Type 0} (ca : List Def → Comp) (items_in : List Item) (k : Comp) (m m1 m2 m3 : Emitter) (len : ℕ) (r ra : Result Given E) (ri : Result U E)
    → k ≡ block (map (item_code m.defs.now) items_in) (ca m.defs.now)
    → len ≡ length m.scope → OnOk ri (m1 ≡ after_items (items (map (item_code m.defs.now) items_in) m.scope m.next) m) → OnOk ra (m2 ≡ after (ca m1.defs.now) m1)
    → m3 ≡ record m2 { scope = cut len m2.scope }
    → IfOk r (λ g. IsOkAnd ri (λ u. IsOkAnd ra (λ a. g ≡ a)))
    → OnOk r (m3 ≡ after k m)
do_state ca items_in k m m1 m2 m3 len (Ok g) (Ok a) (Ok u) is hl h1 h2 h3 hg =
    let oi : ItemOut = items (map (item_code m.defs.now) items_in) m.scope m.next in
    let oa : Out = (ca m.defs.now).run oi.names oi.next in
    rw (is, h3, h2, h1, hl) (ap (λ (ns : KnownVars). record m { code = (m.code ++ oi.code) ++ oa.code; scope = ns; next = oa.next }) (scope_back m.defs.now items_in m.scope m.next)
    ∙ ap (λ (xs : List CStatement). record m { code = xs; next = oa.next }) (append_assoc m.code oi.code oa.code))
do_state ca items_in k m m1 m2 m3 len (Ok g) (Err x) (Ok u) is hl h1 h2 h3 hg = absurd hg
do_state ca items_in k m m1 m2 m3 len (Ok g) ra (Err x) is hl h1 h2 h3 hg = absurd hg
do_state ca items_in k m m1 m2 m3 len (Err x) ra ri is hl h1 h2 h3 hg = tt

pub do_value : {E U : Type 0} (ca : List Def → Comp) (items_in : List Item) (k : Comp) (m m1 : Emitter) (r ra : Result Given E) (ri : Result U E)
    → k ≡ block (map (item_code m.defs.now) items_in) (ca m.defs.now)
    → OnOk ri (m1 ≡ after_items (items (map (item_code m.defs.now) items_in) m.scope m.next) m) → IfOk ra (λ g. g ≡ given ((ca m1.defs.now).run m1.scope m1.next))
    → IfOk r (λ g. IsOkAnd ri (λ u. IsOkAnd ra (λ a. g ≡ a)))
    → IfOk r (λ g. g ≡ given (k.run m.scope m.next))
do_value ca items_in k m m1 (Ok g) (Ok a) (Ok u) is h1 ha hg = rw (is, hg, ha, h1) refl
do_value ca items_in k m m1 (Ok g) (Err x) (Ok u) is h1 ha hg = absurd hg
do_value ca items_in k m m1 (Ok g) ra (Err x) is h1 ha hg = absurd hg
do_value ca items_in k m m1 (Err x) ra ri is h1 ha hg = tt

-- a loop while a test is true
pub while_state : {E : Type 0} (ct ca : List Def → Comp) (k : Comp) (m m1 m2 m3 : Emitter) (r : Result Given E) (rt ra : Result Apart E)
    → k ≡ does (while (ct m.defs.now) (ca m.defs.now))
    → OnOk rt (m1 ≡ beside ((ct m.defs.now).run m.scope m.next) m) → IfOk rt (λ g. g ≡ apart ((ct m.defs.now).run m.scope m.next))
    → OnOk ra (m2 ≡ beside ((ca m1.defs.now).run m1.scope m1.next) m1) → IfOk ra (λ g. g ≡ apart ((ca m1.defs.now).run m1.scope m1.next))
    → OnOk r (IsOkAnd rt (λ t. IsOkAnd ra (λ a. m3 ≡ record m2 { code = m2.code ++ st.Loop t.code t.value a.code ∷ [] })))
    → OnOk r (m3 ≡ after k m)
while_state ct ca k m m1 m2 m3 (Ok g) (Ok t) (Ok a) is h1 ht h2 ha h3 = rw (is, h3, ha, h2, ht, h1) refl
while_state ct ca k m m1 m2 m3 (Ok g) (Ok t) (Err x) is h1 ht h2 ha h3 = absurd h3
while_state ct ca k m m1 m2 m3 (Ok g) (Err x) ra is h1 ht h2 ha h3 = absurd h3
while_state ct ca k m m1 m2 m3 (Err x) rt ra is h1 ht h2 ha h3 = tt

-- a loop over numbers
pub for_state : {E : Type 0} (ca cb ce : List Def → Comp) (x : List ℕ) (k : Comp) (m m1 m2 m3 m4 m5 m6 : Emitter) (len : ℕ) (r ra rb : Result Given E) (rn : Result ℕ E) (re : Result Apart E)
    → k ≡ does (for x (ca m.defs.now) (cb m.defs.now) (ce m.defs.now))
    → OnOk ra (m1 ≡ after (ca m.defs.now) m) → IfOk ra (λ g. g ≡ given ((ca m.defs.now).run m.scope m.next))
    → OnOk rb (m2 ≡ after (cb m1.defs.now) m1) → IfOk rb (λ g. g ≡ given ((cb m1.defs.now).run m1.scope m1.next))
    → len ≡ length m2.scope
    → OnOk rn (IsOkAnd ra (λ a. IsOkAnd rb (λ b. m3 ≡ record m2 {
      code = (m2.code ++ st.Decl (record { ty = ct.U32; name = named m2.next x }) a.value ∷ []) ++ st.Decl (var (m2.next + 1) ct.U32) b.value ∷ [];
      scope = record { name = x; emitted = named m2.next x; ty = u32 } ∷ m2.scope;
      next = m2.next + 2;
    })))
    → IfOk rn (λ n. n ≡ m2.next + 1)
    → OnOk re (m4 ≡ beside ((ce m3.defs.now).run m3.scope m3.next) m3) → IfOk re (λ g. g ≡ apart ((ce m3.defs.now).run m3.scope m3.next))
    → m5 ≡ record m4 { scope = cut len m4.scope }
    → OnOk r (IsOkAnd rn (λ n. IsOkAnd re (λ b. m6 ≡ record m5 {
      code = m5.code ++ st.Loop [] (c.Cmp W8 ck.Lt (c.Var (named m2.next x)) (c.Var (plain n))) (b.code ++ stepped (named m2.next x) ∷ []) ∷ [];
    })))
    → OnOk r (m6 ≡ after k m)
for_state ca cb ce x k m m1 m2 m3 m4 m5 m6 len (Ok g) (Ok a) (Ok b) (Ok n) (Ok body) is h1 ha h2 hb hl h3 he h4 hbody h5 h6 =
    let oa : Out = (ca m.defs.now).run m.scope m.next in
    let ob : Out = (cb m.defs.now).run m.scope oa.next in
    let y : List ℕ = named ob.next x in
    let known : Known = record { name = x; emitted = y; ty = u32 } in
    let oe : Out = (ce m.defs.now).run (known ∷ m.scope) (ob.next + 2) in
    let first : CStatement = st.Decl (record { ty = ct.U32; name = y }) oa.value in
    let last : CStatement = st.Decl (var (ob.next + 1) ct.U32) ob.value in
    let loop : CStatement = st.Loop [] (c.Cmp W8 ck.Lt (c.Var y) (c.Var (plain (ob.next + 1)))) (oe.code ++ stepped y ∷ []) in
    let so_far : List CStatement = (m.code ++ oa.code) ++ ob.code in
    rw (is, h6, h5, hbody, h4, he, h3, hl, hb, h2, ha, h1)
    (ap (λ (ns : KnownVars). record m { code = ((so_far ++ first ∷ []) ++ last ∷ []) ++ loop ∷ []; scope = ns; next = oe.next }) (one_back known m.scope)
    ∙ ap (λ (xs : List CStatement). record m { code = xs; next = oe.next })
    (ap (λ (xs : List CStatement). xs ++ loop ∷ []) (append_assoc so_far (first ∷ []) (last ∷ [])) ∙ append_assoc so_far (first ∷ last ∷ []) (loop ∷ [])
    ∙ three m.code oa.code ob.code (first ∷ last ∷ loop ∷ [])))
for_state ca cb ce x k m m1 m2 m3 m4 m5 m6 len (Ok g) (Ok a) (Err z) (Ok n) (Ok body) is h1 ha h2 hb hl h3 he h4 hbody h5 h6 = absurd h3
for_state ca cb ce x k m m1 m2 m3 m4 m5 m6 len (Ok g) (Err z) rb (Ok n) (Ok body) is h1 ha h2 hb hl h3 he h4 hbody h5 h6 = absurd h3
for_state ca cb ce x k m m1 m2 m3 m4 m5 m6 len (Ok g) ra rb (Ok n) (Err z) is h1 ha h2 hb hl h3 he h4 hbody h5 h6 = absurd h6
for_state ca cb ce x k m m1 m2 m3 m4 m5 m6 len (Ok g) ra rb (Err z) re is h1 ha h2 hb hl h3 he h4 hbody h5 h6 = absurd h6
for_state ca cb ce x k m m1 m2 m3 m4 m5 m6 len (Err z) ra rb rn re is h1 ha h2 hb hl h3 he h4 hbody h5 h6 = tt

-- a call, behind its arguments
abbrev arguments_then : (defs : List Def) (f : List ℕ) (es : List Comp) (names : KnownVars) (n : ℕ) → Out
arguments_then defs f es names n =
    let os = all es names n in
    let o = calling defs f os.values os.next in
    record { code = os.code ++ o.code; value = o.value; ty = o.ty; next = o.next }

call_runs_by : (b : Bool) (r : Ty) (f : List ℕ) (es : List Comp) (names : KnownVars) (n : ℕ)
    → (if b then does (ran r f es) else gives (called r f es)).run names n
    ≡ (let os : Outs = all es names n in
    let o : Out = (if b then record { code = st.Run f os.values ∷ []; value = nothing; ty = r; next = os.next }
    else record { code = st.Call (var os.next (ctype r)) f os.values ∷ []; value = c.Var (plain os.next); ty = r; next = os.next + 1 }) in
    record { code = os.code ++ o.code; value = o.value; ty = o.ty; next = o.next })
call_runs_by true r f es names n = refl
call_runs_by false r f es names n = refl

call_runs : (defs : List Def) (f : List ℕ) (es : List Comp) (names : KnownVars) (n : ℕ) → (call defs f es).run names n ≡ arguments_then defs f es names n
call_runs defs f es names n = let r : Ty = result_of (fun_named defs f) in call_runs_by (is_unit r) r f es names n

pub call_state : {E : Type 0} (cs : List Def → List Comp) (f : List ℕ) (k : Comp) (m m1 m2 : Emitter) (r : Result Given E) (rv : Result (List CExpr) E)
    → k ≡ call m.defs.now f (cs m.defs.now)
    → OnOk rv (m1 ≡ after_all (all (cs m.defs.now) m.scope m.next) m) → IfOk rv (λ vs. vs ≡ (all (cs m.defs.now) m.scope m.next).values)
    → OnOk r (IsOkAnd rv (λ vs. m2 ≡ behind (calling m1.defs.now f vs m1.next) m1))
    → OnOk r (m2 ≡ after k m)
call_state cs f k m m1 m2 (Ok g) (Ok vs) is h1 hv h2 =
    let os : Outs = all (cs m.defs.now) m.scope m.next in
    let o : Out = calling m.defs.now f os.values os.next in
    let run : k.run m.scope m.next ≡ arguments_then m.defs.now f (cs m.defs.now) m.scope m.next = ap (λ (z : Comp). z.run m.scope m.next) is ∙ call_runs m.defs.now f (cs m.defs.now) m.scope m.next in
    rw (run, h2, hv, h1) (ap (λ (xs : List CStatement). record m { code = xs; next = o.next }) (append_assoc m.code os.code o.code))
call_state cs f k m m1 m2 (Ok g) (Err x) is h1 hv h2 = absurd h2
call_state cs f k m m1 m2 (Err x) rv is h1 hv h2 = tt

pub call_value : {E : Type 0} (cs : List Def → List Comp) (f : List ℕ) (k : Comp) (m m1 : Emitter) (r : Result Given E) (rv : Result (List CExpr) E)
    → k ≡ call m.defs.now f (cs m.defs.now)
    → OnOk rv (m1 ≡ after_all (all (cs m.defs.now) m.scope m.next) m) → IfOk rv (λ vs. vs ≡ (all (cs m.defs.now) m.scope m.next).values)
    → IfOk r (λ g. IsOkAnd rv (λ vs. g ≡ given (calling m1.defs.now f vs m1.next)))
    → IfOk r (λ g. g ≡ given (k.run m.scope m.next))
call_value cs f k m m1 (Ok g) (Ok vs) is h1 hv hg =
    let run : k.run m.scope m.next ≡ arguments_then m.defs.now f (cs m.defs.now) m.scope m.next = ap (λ (z : Comp). z.run m.scope m.next) is ∙ call_runs m.defs.now f (cs m.defs.now) m.scope m.next in
    rw (run, hg, hv, h1) refl
call_value cs f k m m1 (Ok g) (Err x) is h1 hv hg = absurd hg
call_value cs f k m m1 (Err x) rv is h1 hv hg = tt

-- ---- lists

-- one expression of several
pub all_step : (ca : List Def → Expr → Comp) (m s t : Emitter) (cs : List CStatement) (n : ℕ) (x : Expr) (left rest : List Expr) (vs vs1 : List CExpr) (v : CExpr) (w : Outs)
    → s ≡ record m { code = cs; next = n } → left ≡ x ∷ rest
    → t ≡ after (ca s.defs.now x) s → v ≡ ((ca s.defs.now x).run s.scope s.next).value → vs1 ≡ vs ++ v ∷ []
    → cs ++ (all (map (ca m.defs.now) left) m.scope n).code ≡ m.code ++ w.code
    → vs ++ (all (map (ca m.defs.now) left) m.scope n).values ≡ w.values
    → (all (map (ca m.defs.now) left) m.scope n).next ≡ w.next
    → (t.code ++ (all (map (ca m.defs.now) rest) m.scope t.next).code ≡ m.code ++ w.code)
    × (vs1 ++ (all (map (ca m.defs.now) rest) m.scope t.next).values ≡ w.values)
    × ((all (map (ca m.defs.now) rest) m.scope t.next).next ≡ w.next)
    × (t ≡ record m { code = t.code; next = t.next })
all_step ca m s t cs n x left rest vs vs1 v w hs hl ht hv hvs code values next =
    let o : Out = (ca m.defs.now x).run m.scope n in
    let os : Outs = all (map (ca m.defs.now) rest) m.scope o.next in
    let t_is : t ≡ record m { code = cs ++ o.code; next = o.next } = ht ∙ ap (λ (z : Emitter). after (ca z.defs.now x) z) hs in
    let v_is : v ≡ o.value = hv ∙ ap (λ (z : Emitter). ((ca z.defs.now x).run z.scope z.next).value) hs in (
      rw t_is (append_assoc cs o.code os.code ∙ ap (λ (l : List Expr). cs ++ (all (map (ca m.defs.now) l) m.scope n).code) (sym hl) ∙ code),
      rw (hvs, v_is, t_is) (append_assoc vs (o.value ∷ []) os.values ∙ ap (λ (l : List Expr). vs ++ (all (map (ca m.defs.now) l) m.scope n).values) (sym hl) ∙ values),
      rw t_is (ap (λ (l : List Expr). (all (map (ca m.defs.now) l) m.scope n).next) (sym hl) ∙ next),
      t_is ∙ sym (ap (λ (z : Emitter). record m { code = z.code; next = z.next }) t_is),
    )

-- one item of several
pub items_step : (ci : List Def → Item → ItemComp) (m s t : Emitter) (cs : List CStatement) (ns : KnownVars) (n : ℕ) (x : Item) (left rest : List Item) (w : ItemOut)
    → s ≡ record m { code = cs; scope = ns; next = n } → left ≡ x ∷ rest
    → t ≡ after_items (ci s.defs.now x s.scope s.next) s
    → cs ++ (items (map (ci m.defs.now) left) ns n).code ≡ m.code ++ w.code
    → (items (map (ci m.defs.now) left) ns n).names ≡ w.names
    → (items (map (ci m.defs.now) left) ns n).next ≡ w.next
    → (t.code ++ (items (map (ci m.defs.now) rest) t.scope t.next).code ≡ m.code ++ w.code)
    × ((items (map (ci m.defs.now) rest) t.scope t.next).names ≡ w.names)
    × ((items (map (ci m.defs.now) rest) t.scope t.next).next ≡ w.next)
    × (t ≡ record m { code = t.code; scope = t.scope; next = t.next })
items_step ci m s t cs ns n x left rest w hs hl ht code names next =
    let o : ItemOut = ci m.defs.now x ns n in
    let os : ItemOut = items (map (ci m.defs.now) rest) o.names o.next in
    let t_is : t ≡ record m { code = cs ++ o.code; scope = o.names; next = o.next } = ht ∙ ap (λ (z : Emitter). after_items (ci z.defs.now x z.scope z.next) z) hs in (
      rw t_is (append_assoc cs o.code os.code ∙ ap (λ (l : List Item). cs ++ (items (map (ci m.defs.now) l) ns n).code) (sym hl) ∙ code),
      rw t_is (ap (λ (l : List Item). (items (map (ci m.defs.now) l) ns n).names) (sym hl) ∙ names),
      rw t_is (ap (λ (l : List Item). (items (map (ci m.defs.now) l) ns n).next) (sym hl) ∙ next),
      t_is ∙ sym (ap (λ (z : Emitter). record m { code = z.code; scope = z.scope; next = z.next }) t_is),
    )

-- a variable of an item
pub let_state : (ca : List Def → Comp) (x : List ℕ) (a : Ty) (m m1 m2 : Emitter) (v : CExpr)
    → m1 ≡ after (ca m.defs.now) m → v ≡ ((ca m.defs.now).run m.scope m.next).value
    → m2 ≡ record m1 {
      code = m1.code ++ st.Decl (record { ty = ctype a; name = named m1.next x }) v ∷ [];
      scope = record { name = x; emitted = named m1.next x; ty = a } ∷ m1.scope;
      next = m1.next + 1;
    }
    → m2 ≡ after_items (bound x a (ca m.defs.now) m.scope m.next) m
let_state ca x a m m1 m2 v h1 hv h2 =
    let o : Out = (ca m.defs.now).run m.scope m.next in
    let y : List ℕ = named o.next x in
    let made : CStatement = st.Decl (record { ty = ctype a; name = y }) o.value in
    rw (h2, hv, h1) (ap (λ (xs : List CStatement). record m { code = xs; scope = record { name = x; emitted = y; ty = a } ∷ m.scope; next = o.next + 1 })
    (append_assoc m.code o.code (made ∷ [])))
