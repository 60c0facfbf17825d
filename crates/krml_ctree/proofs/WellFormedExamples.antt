-- Programs of C that are well formed, and programs that are not, each with one thing wrong. A definition that lets one of
-- those through, or refuses one of the others, breaks an example.
use Rattle.std.proofs.Common.{◌≡◌, ℕ, zero, suc, true, false, List, [], ◌∷◌, ◌++◌, map, Some, None, codes, Contains, refl, sym, ap, ◌∙◌, get_or, subst, arith}
use Rattle.std.specs.List.{AllByRecursion, IsDistinct, flat_map}
use Rattle.std.specs.Str.{bytes_eq}
use Rattle.krml_trace.specs.declared.width.Width.TheVariants.{W8, W32, W64}
use Rattle.krml_ctree.specs.declared.tree.CType.{CType, out-CType}
use Rattle.krml_ctree.specs.declared.tree.CType.TheVariants as t
use Rattle.krml_ctree.specs.declared.tree.CType.TheOpen.{CType-F}
use Rattle.krml_ctree.specs.declared.tree.CBin.TheVariants as op
use Rattle.krml_ctree.specs.declared.tree.CVar.{CVar}
use Rattle.krml_ctree.specs.declared.tree.CArray.{CArray}
use Rattle.krml_ctree.specs.declared.tree.CExpr.{CExpr, out-CExpr}
use Rattle.krml_ctree.specs.declared.tree.CExpr.TheVariants as e
use Rattle.krml_ctree.specs.declared.tree.CExpr.TheOpen.{CExpr-F}
use Rattle.krml_ctree.specs.declared.tree.CArm.{CArm, roll-CArm}
use Rattle.krml_ctree.specs.declared.tree.CStatement.{CStatement, out-CStatement}
use Rattle.krml_ctree.specs.declared.tree.CStatement.TheVariants as st
use Rattle.krml_ctree.specs.declared.tree.CStatement.TheOpen.{CStatement-F}
use Rattle.krml_ctree.specs.declared.tree.CStatement.TheFolds.{fold_out-CStatement, fold-roll-CArm}
use Rattle.krml_ctree.specs.declared.tree.CStruct.{CStruct}
use Rattle.krml_ctree.specs.declared.tree.CTable.{CTable}
use Rattle.krml_ctree.specs.declared.tree.CFun.{CFun}
use Rattle.krml_ctree.specs.declared.tree.CProgram.{CProgram}
use Rattle.krml_trace.specs.Name.{is_name, is_reserved}
use Rattle.krml_ctree.specs.Shape.{IsVariable, IsFunction, IsStruct, IsTable, IsField, IsPlain, TypeKeeps, IsLiteral, ExprKeeps, StatementKeeps, StatementsKeep, ResultKeeps, AnswerKeeps}
use Rattle.krml_ctree.specs.Text.{width_type}
use Rattle.krml_ctree.specs.WellFormed.{IsKnown, HoldsNoPointer, IsArithmetic, Scope, Declared, of_var, of_array, IsPlainOperator, HasType, HaveTypes, ArrayFits, StatementFits, StatementsFit, BlockFits, AnswerFits, names, WellFormed}

-- ---- small words

none_in : {A : Type 0} (x : A) → Contains [] x → ⊥
none_in x h = let lt = h.1 in omega (arith, lt)

only_in : {A : Type 0} (y x : A) → Contains (y ∷ []) x → y ≡ x
only_in y x (zero, lt, is) = is
only_in y x (suc k, lt, is) = absurd (omega (arith, lt))

contains_first : {A : Type 0} (x : A) (xs : List A) → Contains (x ∷ xs) x
contains_first x xs = (0, omega arith, refl)

differ : true ≡ false → ⊥
differ e = absurd (cc)

-- ---- what the rules ask for at each form

-- what is asked of a type that is known, or holds no pointer
abbrev KnownIn : List CStruct → CType-F CType → Type 0
KnownIn structs (CType-F.Struct x) = (s : CStruct) × (s.name ≡ x) × Contains structs s
KnownIn structs (CType-F.Ptr a) = IsKnown structs a
KnownIn structs CType-F.U8 = Unit {0}
KnownIn structs CType-F.U32 = Unit {0}
KnownIn structs CType-F.U64 = Unit {0}

known_in : (structs : List CStruct) (a : CType) → IsKnown structs a → KnownIn structs (out-CType a)
known_in structs a (IsKnown.number W8) = rw t.outs-U8 tt
known_in structs a (IsKnown.number W32) = rw t.outs-U32 tt
known_in structs a (IsKnown.number W64) = rw t.outs-U64 tt
known_in structs a (IsKnown.struct s there) = rw (t.outs-Struct s.name) (s, refl, there)
known_in structs a (IsKnown.pointer {a = b} h) = rw (t.outs-Ptr b) h

abbrev PlainIn : CType-F CType → Type 0
PlainIn (CType-F.Ptr a) = ⊥
PlainIn (CType-F.Struct x) = Unit {0}
PlainIn CType-F.U8 = Unit {0}
PlainIn CType-F.U32 = Unit {0}
PlainIn CType-F.U64 = Unit {0}

plain_in : (structs : List CStruct) (a : CType) → HoldsNoPointer structs a → PlainIn (out-CType a)
plain_in structs a (HoldsNoPointer.number W8) = rw t.outs-U8 tt
plain_in structs a (HoldsNoPointer.number W32) = rw t.outs-U32 tt
plain_in structs a (HoldsNoPointer.number W64) = rw t.outs-U64 tt
plain_in structs a (HoldsNoPointer.struct s there fields) = rw (t.outs-Struct s.name) tt

-- the types of numbers that are computed with, and of pointers
abbrev ComputedIn : CType-F CType → Type 0
ComputedIn CType-F.U8 = ⊥
ComputedIn CType-F.U32 = Unit {0}
ComputedIn CType-F.U64 = Unit {0}
ComputedIn (CType-F.Struct x) = ⊥
ComputedIn (CType-F.Ptr a) = Unit {0}

computed_in : (a : CType) → IsArithmetic a → ComputedIn (out-CType a)
computed_in a IsArithmetic.short = rw t.outs-U32 tt
computed_in a IsArithmetic.long = rw t.outs-U64 tt

module _ (p : CProgram) (g : Scope) where
  -- what is asked of an expression of a type
  abbrev TypedIn : CExpr-F CExpr → CType → Type 0
  TypedIn (CExpr-F.Lit w n) a = a ≡ width_type w
  TypedIn (CExpr-F.Bin o x y) a = ComputedIn (out-CType a)
  TypedIn (CExpr-F.Var x) a = (d : Declared) × (d.name ≡ x) × Contains g d
  TypedIn (CExpr-F.Cast w x) a = Unit {0}
  TypedIn (CExpr-F.Cmp w o x y) a = Unit {0}
  TypedIn (CExpr-F.Build x es) a = (s : CStruct) × (s.name ≡ x) × HaveTypes p g es s.fields
  TypedIn (CExpr-F.Field x y) a = Unit {0}

  typed_in : (x : CExpr) (a : CType) → HasType p g x a → TypedIn (out-CExpr x) a
  typed_in x a (HasType.var d there) = rw (e.outs-Var d.name) (d, refl, there)
  typed_in x a (HasType.lit w n) = rw (e.outs-Lit w n) refl
  typed_in x a (HasType.cast w v {a = y} h) = rw (e.outs-Cast w y) tt
  typed_in x a (HasType.bin {o = o} {a = y} {b = z} k number hy hz) = rw (e.outs-Bin o y z) (computed_in a number)
  typed_in x a (HasType.shift {o = o} {a = y} {b = z} k number hy hz) = rw (e.outs-Bin o y z) (computed_in a number)
  typed_in x a (HasType.moved ty {a = y} {b = z} hy hz) = rw (e.outs-Bin op.Add y z, t.outs-Ptr ty) tt
  typed_in x a (HasType.cmp w {o = o} ty {a = y} {b = z} k hy hz) = rw (e.outs-Cmp w o y z) tt
  typed_in x a (HasType.build s {es = es} there hs) = rw (e.outs-Build s.name es) (s, refl, hs)
  typed_in x a (HasType.field s f {a = y} there here h) = rw (e.outs-Field y f.name) tt

module _ (p : CProgram) where
  -- what is asked of a statement, and the scope behind it
  abbrev FitsIn : Scope → CStatement-F CStatement CArm → Scope → Type 0
  FitsIn g (CStatement-F.Decl v a) h = (h ≡ of_var v ∷ g) × HasType p g a v.ty
  FitsIn g (CStatement-F.Blank v) h = h ≡ of_var v ∷ g
  FitsIn g (CStatement-F.Set x a) h = (v : CVar) × (v.name ≡ x) × Contains g (of_var v)
  FitsIn g (CStatement-F.Read v a i) h = Unit {0}
  FitsIn g (CStatement-F.Tab v x i) h = Unit {0}
  FitsIn g (CStatement-F.Write a i b) h = Unit {0}
  FitsIn g (CStatement-F.Div v quotient a b) h = Unit {0}
  FitsIn g (CStatement-F.Call v f es) h = (fun : CFun) × (fun.name ≡ f) × Contains p.funs fun × (fun.result ≡ Some v.ty)
  FitsIn g (CStatement-F.Run f es) h = (fun : CFun) × (fun.name ≡ f) × Contains p.funs fun × HaveTypes p g es fun.params
  FitsIn g (CStatement-F.Chain arms rest) h = h ≡ g
  FitsIn g (CStatement-F.Loop first test body) h = Unit {0}
  FitsIn g (CStatement-F.Block arrays body) h = AllByRecursion (ArrayFits p) arrays × BlockFits p (map of_array arrays ++ g) body

  fits_in : (g : Scope) (x : CStatement) (h : Scope) → StatementFits p g x h → FitsIn g (out-CStatement x) h
  fits_in g x h (StatementFits.decl {v = v} {a = a} k typed) = rw (st.outs-Decl v a) (refl, typed)
  fits_in g x h (StatementFits.blank {v = v} k) = rw (st.outs-Blank v) refl
  fits_in g x h (StatementFits.set v {a = a} there typed) = rw (st.outs-Set v.name a) (v, refl, there)
  fits_in g x h (StatementFits.read {v = v} {a = a} {i = i} k typed at) = rw (st.outs-Read v a i) tt
  fits_in g x h (StatementFits.tab {x = y} {i = i} table there at) = rw (st.outs-Tab (record { ty = width_type table.width; name = y }) table.name i) tt
  fits_in g x h (StatementFits.write ty {a = a} {i = i} {b = b} typed at new) = rw (st.outs-Write a i b) tt
  fits_in g x h (StatementFits.div {v = v} {quotient = q} {a = a} {b = b} k ha hb) = rw (st.outs-Div v q a b) tt
  fits_in g x h (StatementFits.call {v = v} {es = es} f there is hs) = rw (st.outs-Call v f.name es) (f, refl, there, is)
  fits_in g x h (StatementFits.run {es = es} f there is hs) = rw (st.outs-Run f.name es) (f, refl, there, hs)
  fits_in g x h (StatementFits.chain {arms = arms} {rest = rest} k more) = rw (st.outs-Chain arms rest) refl
  fits_in g x h (StatementFits.loop {first = first} {body = body} {test = test} i k c more) = rw (st.outs-Loop first test body) tt
  fits_in g x h (StatementFits.block {arrays = arrays} {body = body} k more) = rw (st.outs-Block arrays body) (k, more)

  -- the first statement, and those behind it
  first_fits : (g : Scope) (x : CStatement) (xs : List CStatement) (k : Scope) → StatementsFit p g (x ∷ xs) k → (h : Scope) × FitsIn g (out-CStatement x) h × StatementsFit p h xs k
  first_fits g x xs k (StatementsFit.next h now later) = (h, fits_in g x h now, later)

  in_braces : (g : Scope) (xs : List CStatement) → BlockFits p g xs → (h : Scope) × StatementsFit p g xs h
  in_braces g xs (BlockFits.braces h k) = (h, k)

  answer_typed : (g : Scope) (ty : CType) (a : CExpr) → AnswerFits p g (Some ty) (Some a) → HasType p g a ty
  answer_typed g ty a (AnswerFits.value k h) = h

-- ---- words for programs

abbrev variable : CType → List ℕ → CVar
variable a x = record { ty = a; name = x }

abbrev array : CType → ℕ → CArray
array a len = record { ty = a; name = codes "v0"; len = len }

abbrev u32 : ℕ → CExpr
u32 n = e.Lit W32 n

abbrev v0 : List ℕ
v0 = codes "v0"

abbrev v1 : List ℕ
v1 = codes "v1"

-- struct NAME { TYPE m_x; };
abbrev struct : List ℕ → CType → CStruct
struct x a = record { name = x; fields = variable a (codes "m_x") ∷ [] }

abbrev structs : List CStruct → CProgram
structs ss = record { structs = ss; tables = []; funs = [] }

abbrev tables : List CTable → CProgram
tables ts = record { structs = []; tables = ts; funs = [] }

abbrev funs : List CFun → CProgram
funs fs = record { structs = []; tables = []; funs = fs }

-- void NAME(void) { .. }
abbrev void : List ℕ → List CStatement → CFun
void x body = record { result = None; name = x; params = []; body = body; answer = None }

abbrev f : List ℕ
f = codes "f_f"

abbrev g : List ℕ
g = codes "f_g"

-- a program of one function
abbrev doing : List CStatement → CProgram
doing body = funs (void f body ∷ [])

-- if (((uint8_t)1u)) { .. }
abbrev if_one : List CStatement → CStatement
if_one body = st.Chain (roll-CArm (record { test = e.Cast W8 (u32 1); body = body }) ∷ []) []

-- how its body stands, from its beginning on
body_fits : (body : List CStatement) → WellFormed (doing body) → (h : Scope) × StatementsFit (doing body) [] body h
body_fits body w = (w.funs.0.scope, w.funs.0.body)

-- ---- what is not well formed: structs and tables

two_structs_of_one_name : WellFormed (structs (struct (codes "s_a") t.U8 ∷ struct (codes "s_a") t.U32 ∷ [])) → ⊥
unfolding IsDistinct
two_structs_of_one_name w = differ (w.distinct_structs.0.0)

two_fields_of_one_name : WellFormed (structs (record { name = codes "s_a"; fields = variable t.U8 (codes "m_x") ∷ variable t.U8 (codes "m_x") ∷ [] } ∷ [])) → ⊥
unfolding IsDistinct
two_fields_of_one_name w = differ (w.structs.0.distinct.0.0)

-- s_a has a field of the type of s_b, which stands behind it
later_struct : WellFormed (structs (struct (codes "s_a") (t.Struct (codes "s_b")) ∷ struct (codes "s_b") t.U8 ∷ [])) → ⊥
later_struct w = none (subst (KnownIn []) (t.outs-Struct (codes "s_b")) (known_in [] (t.Struct (codes "s_b")) w.structs.0.fields.0))
  where
    none : KnownIn [] (CType-F.Struct (codes "s_b")) → ⊥
    none h = none_in h.0 h.2

-- a struct that holds itself, behind a pointer
struct_of_itself : WellFormed (structs (struct (codes "s_a") (t.Ptr (t.Struct (codes "s_a"))) ∷ [])) → ⊥
struct_of_itself w =
    none (subst (KnownIn []) (t.outs-Struct (codes "s_a")) (known_in [] (t.Struct (codes "s_a"))
    (subst (KnownIn []) (t.outs-Ptr (t.Struct (codes "s_a"))) (known_in [] (t.Ptr (t.Struct (codes "s_a"))) w.structs.0.fields.0))))
  where
    none : KnownIn [] (CType-F.Struct (codes "s_a")) → ⊥
    none h = none_in h.0 h.2

table_without_numbers : WellFormed (tables (record { name = codes "t_t"; width = W8; nums = [] } ∷ [])) → ⊥
table_without_numbers w = omega (arith, w.tables.0.some)

-- ---- names and scopes

-- if (((uint8_t)1u)) { uint32_t v0 = 1u; } if (((uint8_t)1u)) { uint32_t v0 = 2u; }
one_name_in_two_braces : WellFormed (doing (if_one (st.Decl (variable t.U32 v0) (u32 1) ∷ []) ∷ if_one (st.Decl (variable t.U32 v0) (u32 2) ∷ []) ∷ [])) → ⊥
unfolding IsDistinct
one_name_in_two_braces w = twice (subst (IsDistinct bytes_eq) both w.funs.0.distinct)
  where
    both : flat_map names (if_one (st.Decl (variable t.U32 v0) (u32 1) ∷ []) ∷ if_one (st.Decl (variable t.U32 v0) (u32 2) ∷ []) ∷ []) ≡ v0 ∷ v0 ∷ []
    both = simp (fold_out-CStatement, fold-roll-CArm, st.outs-Chain, st.outs-Decl)

    twice : IsDistinct bytes_eq (v0 ∷ v0 ∷ []) → ⊥
    twice h = differ (h.0.0)

-- if (((uint8_t)1u)) { uint32_t v0 = 1u; } uint32_t v1 = v0;
use_behind_its_braces : WellFormed (doing (if_one (st.Decl (variable t.U32 v0) (u32 1) ∷ []) ∷ st.Decl (variable t.U32 v1) (e.Var v0) ∷ [])) → ⊥
use_behind_its_braces w = second (first_fits p [] _ _ w.funs.0.scope w.funs.0.body)
  where
    p : CProgram
    p = doing (if_one (st.Decl (variable t.U32 v0) (u32 1) ∷ []) ∷ st.Decl (variable t.U32 v1) (e.Var v0) ∷ [])

    none : TypedIn p [] (CExpr-F.Var v0) t.U32 → ⊥
    none h = none_in h.0 h.2

    second : (h : Scope) × FitsIn p [] (out-CStatement (if_one (st.Decl (variable t.U32 v0) (u32 1) ∷ []))) h × StatementsFit p h (st.Decl (variable t.U32 v1) (e.Var v0) ∷ []) w.funs.0.scope → ⊥
    second k =
        let h = k.0 in
        let same : h ≡ [] = subst (λ z. FitsIn p [] z h) (st.outs-Chain _ _) k.1 in
        let next = first_fits p h _ _ w.funs.0.scope k.2 in
        let typed = (subst (λ z. FitsIn p h z next.0) (st.outs-Decl _ _) next.1).1 in
        none (subst (λ z. TypedIn p [] z t.U32) (e.outs-Var v0) (typed_in p [] (e.Var v0) t.U32 (subst (λ z. HasType p z (e.Var v0) t.U32) same typed)))

-- a name that is no variable: uint32_t v1 = v0;
undeclared : WellFormed (doing (st.Decl (variable t.U32 v1) (e.Var v0) ∷ [])) → ⊥
undeclared w = none (subst (λ z. TypedIn p [] z t.U32) (e.outs-Var v0) (typed_in p [] (e.Var v0) t.U32 typed))
  where
    p : CProgram
    p = doing (st.Decl (variable t.U32 v1) (e.Var v0) ∷ [])

    typed : HasType p [] (e.Var v0) t.U32
    typed = let k = first_fits p [] _ _ w.funs.0.scope w.funs.0.body in (subst (λ z. FitsIn p [] z k.0) (st.outs-Decl _ _) k.1).1

    none : TypedIn p [] (CExpr-F.Var v0) t.U32 → ⊥
    none h = none_in h.0 h.2

-- ---- arrays

-- the rules for the only block of a function
block_fits : (arrays : List CArray) (body : List CStatement) → WellFormed (doing (st.Block arrays body ∷ []))
    → AllByRecursion (ArrayFits (doing (st.Block arrays body ∷ []))) arrays × BlockFits (doing (st.Block arrays body ∷ [])) (map of_array arrays ++ []) body
block_fits arrays body w =
    let p = doing (st.Block arrays body ∷ []) in
    let k = first_fits p [] (st.Block arrays body) [] w.funs.0.scope w.funs.0.body in
    subst (λ z. FitsIn p [] z k.0) (st.outs-Block arrays body) k.1

array_without_elements : WellFormed (doing (st.Block (array t.U8 0 ∷ []) [] ∷ [])) → ⊥
array_without_elements w = let some = (block_fits (array t.U8 0 ∷ []) [] w).0.0.some in omega (arith, some)

array_too_long : WellFormed (doing (st.Block (array t.U8 65537 ∷ []) [] ∷ [])) → ⊥
array_too_long w = let most = (block_fits (array t.U8 65537 ∷ []) [] w).0.0.most in omega (arith, most)

array_of_pointers : WellFormed (doing (st.Block (array (t.Ptr t.U8) 4 ∷ []) [] ∷ [])) → ⊥
array_of_pointers w = let k = (block_fits (array (t.Ptr t.U8) 4 ∷ []) [] w).0.0.plain in subst PlainIn (t.outs-Ptr t.U8) (plain_in [] (t.Ptr t.U8) k)

-- { uint8_t v0[4]; v0 = ((uint8_t)1u); }
set_of_an_array : WellFormed (doing (st.Block (array t.U8 4 ∷ []) (st.Set v0 (e.Cast W8 (u32 1)) ∷ []) ∷ [])) → ⊥
set_of_an_array w =
    let k = in_braces p (of_array (array t.U8 4) ∷ []) body (block_fits (array t.U8 4 ∷ []) body w).1 in
    let n = first_fits p (of_array (array t.U8 4) ∷ []) (st.Set v0 (e.Cast W8 (u32 1))) [] k.0 k.1 in
    let set = subst (λ z. FitsIn p (of_array (array t.U8 4) ∷ []) z n.0) (st.outs-Set v0 (e.Cast W8 (u32 1))) n.1 in
    differ (ap (λ d. d.array) (only_in (of_array (array t.U8 4)) (of_var set.0) set.2))
  where
    body : List CStatement
    body = st.Set v0 (e.Cast W8 (u32 1)) ∷ []

    p : CProgram
    p = doing (st.Block (array t.U8 4 ∷ []) body ∷ [])

-- ---- types

-- uint8_t v0 = (((uint8_t)1u) + ((uint8_t)2u));
sum_of_bytes : WellFormed (doing (st.Decl (variable t.U8 v0) (e.Bin op.Add (e.Cast W8 (u32 1)) (e.Cast W8 (u32 2))) ∷ [])) → ⊥
sum_of_bytes w =
    let k = first_fits p [] (st.Decl (variable t.U8 v0) sum) [] w.funs.0.scope w.funs.0.body in
    let typed = (subst (λ z. FitsIn p [] z k.0) (st.outs-Decl (variable t.U8 v0) sum) k.1).1 in
    subst ComputedIn t.outs-U8 (subst (λ z. TypedIn p [] z t.U8) (e.outs-Bin op.Add (e.Cast W8 (u32 1)) (e.Cast W8 (u32 2))) (typed_in p [] sum t.U8 typed))
  where
    sum : CExpr
    sum = e.Bin op.Add (e.Cast W8 (u32 1)) (e.Cast W8 (u32 2))

    p : CProgram
    p = doing (st.Decl (variable t.U8 v0) sum ∷ [])

short_is_not_long : t.U32 ≡ t.U64 → ⊥
short_is_not_long h = let e : CType-F.U32 ≡ CType-F.U64 = sym t.outs-U32 ∙ ap out-CType h ∙ t.outs-U64 in absurd (cc)

-- uint32_t f_f(void) { return 1ull; }
answer_of_another_type : WellFormed (funs (record { result = Some t.U32; name = f; params = []; body = []; answer = Some (e.Lit W64 1) } ∷ [])) → ⊥
answer_of_another_type w =
    let typed = answer_typed p w.funs.0.scope t.U32 (e.Lit W64 1) w.funs.0.answer in
    short_is_not_long (subst (λ z. TypedIn p w.funs.0.scope z t.U32) (e.outs-Lit W64 1) (typed_in p w.funs.0.scope (e.Lit W64 1) t.U32 typed))
  where
    p : CProgram
    p = funs (record { result = Some t.U32; name = f; params = []; body = []; answer = Some (e.Lit W64 1) } ∷ [])

-- void f_f(void) { uint32_t v0 = 1ull; }
value_of_another_type : WellFormed (doing (st.Decl (variable t.U32 v0) (e.Lit W64 1) ∷ [])) → ⊥
value_of_another_type w =
    let k = first_fits p [] (st.Decl (variable t.U32 v0) (e.Lit W64 1)) [] w.funs.0.scope w.funs.0.body in
    let typed = (subst (λ z. FitsIn p [] z k.0) (st.outs-Decl (variable t.U32 v0) (e.Lit W64 1)) k.1).1 in
    short_is_not_long (subst (λ z. TypedIn p [] z t.U32) (e.outs-Lit W64 1) (typed_in p [] (e.Lit W64 1) t.U32 typed))
  where
    p : CProgram
    p = doing (st.Decl (variable t.U32 v0) (e.Lit W64 1) ∷ [])

-- ---- functions

two_functions_of_one_name : WellFormed (funs (void f [] ∷ void f [] ∷ [])) → ⊥
unfolding IsDistinct
two_functions_of_one_name w = differ (w.distinct_funs.0.0)

-- void f_f(void) { uint32_t v0 = f_f(); }
no_result_used_as_one : WellFormed (doing (st.Call (variable t.U32 v0) f [] ∷ [])) → ⊥
no_result_used_as_one w =
    let k = first_fits p [] (st.Call (variable t.U32 v0) f []) [] w.funs.0.scope w.funs.0.body in
    let call = subst (λ z. FitsIn p [] z k.0) (st.outs-Call (variable t.U32 v0) f []) k.1 in
    none_is_some (ap (λ g. g.result) (only_in (void f body) call.0 call.2) ∙ call.3)
  where
    body : List CStatement
    body = st.Call (variable t.U32 v0) f [] ∷ []

    p : CProgram
    p = doing body

    none_is_some : None ≡ Some t.U32 → ⊥
    none_is_some e = absurd (cc)

-- void f_f(void) { f_g(); }, and no f_g
no_function : WellFormed (doing (st.Run g [] ∷ [])) → ⊥
no_function w =
    let k = first_fits p [] (st.Run g []) [] w.funs.0.scope w.funs.0.body in
    let run = subst (λ z. FitsIn p [] z k.0) (st.outs-Run g []) k.1 in
    other (ap (λ h. h.name) (only_in (void f (st.Run g [] ∷ [])) run.0 run.2) ∙ run.1)
  where
    p : CProgram
    p = doing (st.Run g [] ∷ [])

    other : codes "f_f" ≡ codes "f_g" → ⊥
    other e = let last : 102 ≡ 103 = ap (λ w. get_or w 2 0) e in omega (arith, last)

-- ---- what is well formed

empty_program : WellFormed (record { structs = []; tables = []; funs = [] })
unfolding IsDistinct
empty_program = record { shapes = record { structs = tt; tables = tt; funs = tt }; distinct_structs = tt; structs = tt; distinct_tables = tt; tables = tt; distinct_funs = tt; funs = tt }

-- struct s_a { uint8_t m_x; }; struct s_b { struct s_a m_x; }; static const uint8_t t_t[1] = { 7u };
types_and_a_table : WellFormed (record { structs = struct (codes "s_a") t.U8 ∷ struct (codes "s_b") (t.Struct (codes "s_a")) ∷ []; tables = record { name = codes "t_t"; width = W8; nums = 7 ∷ [] } ∷ []; funs = [] })
unfolding IsDistinct is_name is_reserved
types_and_a_table = record {
  shapes = record {
    structs = (
      record { name = IsStruct.plain (codes "a") refl; fields = (record { ty = TypeKeeps.plain IsPlain.u8; name = IsField.plain (codes "x") refl }, tt) },
      (record { name = IsStruct.plain (codes "b") refl; fields = (record { ty = TypeKeeps.plain (IsPlain.struct (IsStruct.plain (codes "a") refl)); name = IsField.plain (codes "x") refl }, tt) }, tt),
    );
    tables = (record { name = IsTable.plain (codes "t") refl; nums = (omega arith, tt) }, tt);
    funs = tt;
  };
  distinct_structs = ((refl, tt), (tt, tt));
  structs = (
    record { distinct = (tt, tt); fields = (IsKnown.number W8, tt) },
    (record { distinct = (tt, tt); fields = (IsKnown.struct (struct (codes "s_a") t.U8) (contains_first (struct (codes "s_a") t.U8) []), tt) }, tt),
  );
  distinct_tables = (tt, tt);
  tables = (record { some = omega arith; most = omega arith }, tt);
  distinct_funs = tt;
  funs = tt;
}

-- uint32_t f_f(uint32_t v0) { uint32_t v1 = (v0 + 1u); return v1; }
one_more : WellFormed (funs (record { result = Some t.U32; name = f; params = variable t.U32 v0 ∷ []; body = st.Decl (variable t.U32 v1) (e.Bin op.Add (e.Var v0) (u32 1)) ∷ []; answer = Some (e.Var v1) } ∷ []))
unfolding IsDistinct is_name is_reserved
one_more = record {
  shapes = record {
    structs = tt;
    tables = tt;
    funs = (
      record {
        result = ResultKeeps.a_result (TypeKeeps.plain IsPlain.u32);
        name = IsFunction.plain (codes "f") refl;
        params = (record { ty = TypeKeeps.plain IsPlain.u32; name = is_v0 }, tt);
        body = StatementsKeep.one (StatementKeeps.decl (record { ty = TypeKeeps.plain IsPlain.u32; name = is_v1 }) (ExprKeeps.bin (ExprKeeps.var is_v0) (ExprKeeps.lit (IsLiteral.short (omega arith))))) StatementsKeep.none;
        answer = AnswerKeeps.value (ExprKeeps.var is_v1);
      },
      tt,
    );
  };
  distinct_structs = tt;
  structs = tt;
  distinct_tables = tt;
  tables = tt;
  distinct_funs = (tt, tt);
  funs = (
    record {
      distinct = subst (IsDistinct bytes_eq) (sym declared) ((refl, tt), (tt, tt));
      params = (IsKnown.number W32, tt);
      scope = of_var (variable t.U32 v1) ∷ of_var (variable t.U32 v0) ∷ [];
      body = StatementsFit.next (of_var (variable t.U32 v1) ∷ of_var (variable t.U32 v0) ∷ [])
          (StatementFits.decl (IsKnown.number W32) (HasType.bin IsPlainOperator.add IsArithmetic.short (HasType.var (of_var (variable t.U32 v0)) (contains_first _ [])) (HasType.lit W32 1))) StatementsFit.done;
      answer = AnswerFits.value (IsKnown.number W32) (HasType.var (of_var (variable t.U32 v1)) (contains_first (of_var (variable t.U32 v1)) (of_var (variable t.U32 v0) ∷ [])));
    },
    tt,
  );
}
  where
    is_v0 : IsVariable v0
    is_v0 = IsVariable.plain (codes "0") refl

    is_v1 : IsVariable v1
    is_v1 = IsVariable.plain (codes "1") refl

    declared : v0 ∷ flat_map names (st.Decl (variable t.U32 v1) (e.Bin op.Add (e.Var v0) (u32 1)) ∷ []) ≡ v0 ∷ v1 ∷ []
    declared = simp (fold_out-CStatement, st.outs-Decl)
