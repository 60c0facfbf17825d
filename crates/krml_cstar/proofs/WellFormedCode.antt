-- Code in C that is well formed: statements that fit a scope, keep the shapes, and declare variables of their own.
use Rattle.std.proofs.Common.{◌≡◌, ℕ, ◌+◌, ◌<◌, ◌≤◌, ◌^◌, Bool, List, [], ◌∷◌, ◌++◌, map, flat_map, Contains, Some, None, refl, sym, subst, append-nil, arith}
use Rattle.std.proofs.lemmas.Grind.{flat_map-append}
use Rattle.std.proofs.lemmas.List.Elements.{Contains-append_right}
use Rattle.std.proofs.lemmas.List.Folds.{flat_map-map}
use Rattle.krml_trace.specs.declared.width.Width.TheVariants.{W8}
use Rattle.krml_trace.proofs.Lists.{contains_first}
use Rattle.krml_ctree.specs.declared.tree.CType.{CType}
use Rattle.krml_ctree.specs.declared.tree.CType.TheVariants as ct
use Rattle.krml_ctree.specs.declared.tree.CVar.{CVar}
use Rattle.krml_ctree.specs.declared.tree.CExpr.{CExpr}
use Rattle.krml_ctree.specs.declared.tree.CStatement.{CStatement}
use Rattle.krml_ctree.specs.declared.tree.CStatement.TheVariants as st
use Rattle.krml_ctree.specs.declared.tree.CStatement.TheFolds.{fold_out-CStatement, fold-roll-CArm}
use Rattle.krml_ctree.specs.declared.tree.CTable.{CTable}
use Rattle.krml_ctree.specs.declared.tree.CFun.{CFun}
use Rattle.krml_ctree.specs.declared.tree.CProgram.{CProgram}
use Rattle.krml_ctree.specs.Text.{width_type}
use Rattle.krml_ctree.specs.Shape.{IsVariable, IsTable, IsFunction, TypeKeeps, ExprKeeps, ExprsKeep, StatementKeeps, StatementsKeep, ArmKeeps, ArmsKeep}
use Rattle.krml_ctree.specs.WellFormed as wf
use Rattle.krml_ctree.specs.WellFormed.{Declared, Scope, of_var, IsKnown, IsArithmetic, HasType, HaveTypes, IsCondition, StatementFits, StatementsFit, BlockFits, ArmsFit}
use Rattle.krml_cstar.specs.Variables.{plain, var}
use Rattle.krml_cstar.specs.Translation.{arm}
use Rattle.krml_cstar.proofs.VariableNames.{number_of, number-plain}
use Rattle.krml_cstar.proofs.WellFormedNames.{Fresh, plain_is, fresh_none, fresh_one, fresh_both}

-- ---- scopes

-- A scope is within another.
abbrev pub Within : Scope → Scope → Type 0
Within g h = (v : Declared) → Contains g v → Contains h v

-- the newest variable is in scope
pub newest : (v : Declared) (g : Scope) → Contains (v ∷ g) v
newest v g = contains_first v g

-- and so are those from before
pub before : (v : Declared) (g : Scope) → Within g (v ∷ g)
before v g w h = Contains-append_right (v ∷ []) g w h

-- ---- names that are declared

-- the names that statements declare, at any depth
abbrev pub declared : List CStatement → List (List ℕ)
declared = flat_map wf.names

declared_in : (ss : List CStatement) → wf.all_of (map wf.names ss) ≡ declared ss
declared_in ss = flat_map-map (λ xs. xs) wf.names ss

declared_decl : (v : CVar) (a : CExpr) → declared (st.Decl v a ∷ []) ≡ v.name ∷ []
declared_decl v a = rw (fold_out-CStatement, st.outs-Decl) refl

declared_blank : (v : CVar) → declared (st.Blank v ∷ []) ≡ v.name ∷ []
declared_blank v = rw (fold_out-CStatement, st.outs-Blank) refl

declared_set : (x : List ℕ) (a : CExpr) → declared (st.Set x a ∷ []) ≡ []
declared_set x a = rw (fold_out-CStatement, st.outs-Set) refl

declared_tab : (v : CVar) (x : List ℕ) (i : CExpr) → declared (st.Tab v x i ∷ []) ≡ v.name ∷ []
declared_tab v x i = rw (fold_out-CStatement, st.outs-Tab) refl

declared_div : (v : CVar) (quotient : Bool) (a b : CExpr) → declared (st.Div v quotient a b ∷ []) ≡ v.name ∷ []
declared_div v quotient a b = rw (fold_out-CStatement, st.outs-Div) refl

declared_call : (v : CVar) (f : List ℕ) (es : List CExpr) → declared (st.Call v f es ∷ []) ≡ v.name ∷ []
declared_call v f es = rw (fold_out-CStatement, st.outs-Call) refl

declared_run : (f : List ℕ) (es : List CExpr) → declared (st.Run f es ∷ []) ≡ []
declared_run f es = rw (fold_out-CStatement, st.outs-Run) refl

declared_chain : (test : CExpr) (body rest : List CStatement) → declared (st.Chain (arm test body ∷ []) rest ∷ []) ≡ declared body ++ declared rest
declared_chain test body rest = rw (
  fold_out-CStatement,
  st.outs-Chain,
  fold-roll-CArm,
  declared_in body,
  declared_in rest,
  append-nil (declared body),
  append-nil (declared body ++ declared rest),
) refl

declared_loop : (first : List CStatement) (test : CExpr) (body : List CStatement) → declared (st.Loop first test body ∷ []) ≡ declared first ++ declared body
declared_loop first test body = rw (fold_out-CStatement, st.outs-Loop, declared_in first, declared_in body, append-nil (declared first ++ declared body)) refl

module _ (p : CProgram) where
  -- ---- larger scopes

  mutual
    -- an expression has its type in a larger scope too
    pub typed_on : (g h : Scope) → Within g h → (a : CExpr) (ty : CType) → HasType p g a ty → HasType p h a ty
    typed_on g h w a ty (HasType.var v k) = HasType.var v (w v k)
    typed_on g h w a ty (HasType.lit i n) = HasType.lit i n
    typed_on g h w a ty (HasType.cast i v {a = x} hx) = HasType.cast i v (typed_on g h w x (width_type v) hx)
    typed_on g h w a ty (HasType.bin {a = x} {b = y} o k hx hy) = HasType.bin o k (typed_on g h w x ty hx) (typed_on g h w y ty hy)
    typed_on g h w a ty (HasType.shift {a = x} {b = y} o k hx hy) = HasType.shift o k (typed_on g h w x ty hx) (typed_on g h w y ct.U32 hy)
    typed_on g h w a ty (HasType.moved to {a = x} {b = y} hx hy) = HasType.moved to (typed_on g h w x (ct.Ptr to) hx) (typed_on g h w y ct.U32 hy)
    typed_on g h w a ty (HasType.cmp i t {a = x} {b = y} k hx hy) = HasType.cmp i t k (typed_on g h w x t hx) (typed_on g h w y t hy)
    typed_on g h w a ty (HasType.build s {es = es} k hs) = HasType.build s k (all_typed_on g h w es s.fields hs)
    typed_on g h w a ty (HasType.field s f {a = x} k l hx) = HasType.field s f k l (typed_on g h w x (ct.Struct s.name) hx)

    pub all_typed_on : (g h : Scope) → Within g h → (es : List CExpr) (vs : List CVar) → HaveTypes p g es vs → HaveTypes p h es vs
    all_typed_on g h w es vs HaveTypes.no_value = HaveTypes.no_value
    all_typed_on g h w es vs (HaveTypes.one_value {a = a} {es = more} {v = v} {vars = rest} k ks) =
        HaveTypes.one_value (typed_on g h w a v.ty k) (all_typed_on g h w more rest ks)

  -- ---- statements in order

  fits_then : (g h k : Scope) (xs ys : List CStatement) → StatementsFit p g xs h → StatementsFit p h ys k → StatementsFit p g (xs ++ ys) k
  fits_then g h k xs ys StatementsFit.done q = q
  fits_then g h k xs ys (StatementsFit.next {xs = zs} i x ps) q = StatementsFit.next i x (fits_then i h k zs ys ps q)

  shapes_then : (xs ys : List CStatement) → StatementsKeep xs → StatementsKeep ys → StatementsKeep (xs ++ ys)
  shapes_then xs ys StatementsKeep.none q = q
  shapes_then xs ys (StatementsKeep.one {xs = zs} x ps) q = StatementsKeep.one x (shapes_then zs ys ps q)

  -- Statements fit a scope and lead to another, and keep the shapes. The names that they declare are distinct, with numbers
  -- from n on and below m.
  pub record Laid (n m : ℕ) (g : Scope) (ss : List CStatement) (h : Scope) : Type 0 where
    pub grows : n ≤ m
    pub shapes : StatementsKeep ss
    pub fits : StatementsFit p g ss h
    pub more : Within g h
    pub fresh : Fresh n m (declared ss)

  -- no statement
  pub laid_none : (n : ℕ) (g : Scope) → Laid n n g [] g
  laid_none n g = record { grows = omega arith; shapes = StatementsKeep.none; fits = StatementsFit.done; more = λ v k. k; fresh = fresh_none n n }

  -- statements, and then others
  pub laid_then : (n k m : ℕ) (g h j : Scope) (xs ys : List CStatement) → Laid n k g xs h → Laid k m h ys j → Laid n m g (xs ++ ys) j
  laid_then n k m g h j xs ys x y =
      let le = x.grows in
      let ge = y.grows in
      record {
        grows = omega (arith, le, ge);
        shapes = shapes_then xs ys x.shapes y.shapes;
        fits = fits_then g h j xs ys x.fits y.fits;
        more = λ v q. y.more v (x.more v q);
        fresh = subst (Fresh n m) (sym (flat_map-append wf.names xs ys)) (fresh_both n k m (declared xs) (declared ys) le ge x.fresh y.fresh);
      }

  -- a statement that declares the variable of a number
  laid_one : (n : ℕ) (g : Scope) (s : CStatement) (v : CVar) → number_of v.name ≡ n → declared (s ∷ []) ≡ v.name ∷ [] → StatementKeeps s → StatementFits p g s (of_var v ∷ g)
      → Laid n (n + 1) g (s ∷ []) (of_var v ∷ g)
  laid_one n g s v is names keeps fits = record {
    grows = omega arith;
    shapes = StatementsKeep.one keeps StatementsKeep.none;
    fits = StatementsFit.next (of_var v ∷ g) fits StatementsFit.done;
    more = before (of_var v) g;
    fresh = subst (Fresh n (n + 1)) (sym names) (fresh_one n v.name is);
  }

  -- a statement that declares none by itself, but maybe inside it
  laid_inside : (n m : ℕ) (g : Scope) (s : CStatement) (names : List (List ℕ)) → n ≤ m → declared (s ∷ []) ≡ names → Fresh n m names → StatementKeeps s → StatementFits p g s g
      → Laid n m g (s ∷ []) g
  laid_inside n m g s names le is fresh keeps fits = record {
    grows = le;
    shapes = StatementsKeep.one keeps StatementsKeep.none;
    fits = StatementsFit.next g fits StatementsFit.done;
    more = λ v k. k;
    fresh = subst (Fresh n m) (sym is) fresh;
  }

  -- ---- types

  -- A type is known in the program.
  pub record TypeFits (ty : CType) : Type 0 where
    pub keeps : TypeKeeps ty
    pub known : IsKnown p.structs ty

  -- ---- statements

  -- TYPE NAME = E;
  pub laid_decl : (n : ℕ) (g : Scope) (v : CVar) (a : CExpr) → number_of v.name ≡ n → IsVariable v.name → TypeFits v.ty → ExprKeeps a → HasType p g a v.ty
      → Laid n (n + 1) g (st.Decl v a ∷ []) (of_var v ∷ g)
  laid_decl n g v a is name ty keeps typed =
      laid_one n g (st.Decl v a) v is (declared_decl v a) (StatementKeeps.decl (record { ty = ty.keeps; name = name }) keeps) (StatementFits.decl ty.known typed)

  -- TYPE NAME;
  pub laid_blank : (n : ℕ) (g : Scope) (ty : CType) → n < 2 ^ 64 → TypeFits ty → Laid n (n + 1) g (st.Blank (var n ty) ∷ []) (of_var (var n ty) ∷ g)
  laid_blank n g ty small fits = laid_one n g (st.Blank (var n ty)) (var n ty) (number-plain n small) (declared_blank (var n ty))
      (StatementKeeps.blank (record { ty = fits.keeps; name = plain_is n small })) (StatementFits.blank fits.known)

  -- NAME = E;
  pub laid_set : (n : ℕ) (g : Scope) (v : CVar) (a : CExpr) → IsVariable v.name → Contains g (of_var v) → ExprKeeps a → HasType p g a v.ty → Laid n n g (st.Set v.name a ∷ []) g
  laid_set n g v a name there keeps typed =
      laid_inside n n g (st.Set v.name a) [] (omega arith) (declared_set v.name a) (fresh_none n n) (StatementKeeps.set name keeps) (StatementFits.set v there typed)

  -- TYPE NAME = TABLE[E];
  pub laid_tab : (n : ℕ) (g : Scope) (table : CTable) (i : CExpr) → n < 2 ^ 64 → Contains p.tables table → IsTable table.name → TypeFits (width_type table.width) → ExprKeeps i
      → HasType p g i ct.U32 → Laid n (n + 1) g (st.Tab (var n (width_type table.width)) table.name i ∷ []) (of_var (var n (width_type table.width)) ∷ g)
  laid_tab n g table i small there shape ty keeps typed =
      let v = var n (width_type table.width) in
      laid_one n g (st.Tab v table.name i) v (number-plain n small) (declared_tab v table.name i)
      (StatementKeeps.tab (record { ty = ty.keeps; name = plain_is n small }) shape keeps) (StatementFits.tab {x = plain n} table there typed)

  -- TYPE NAME = (E / E);
  pub laid_div : (n : ℕ) (g : Scope) (quotient : Bool) (ty : CType) (a b : CExpr) → n < 2 ^ 64 → TypeFits ty → IsArithmetic ty → ExprKeeps a → ExprKeeps b → HasType p g a ty → HasType p g b ty
      → Laid n (n + 1) g (st.Div (var n ty) quotient a b ∷ []) (of_var (var n ty) ∷ g)
  laid_div n g quotient ty a b small fits number ka kb ha hb =
      laid_one n g (st.Div (var n ty) quotient a b) (var n ty) (number-plain n small) (declared_div (var n ty) quotient a b)
      (StatementKeeps.div (record { ty = fits.keeps; name = plain_is n small }) ka kb) (StatementFits.div number ha hb)

  -- TYPE NAME = FUN(E, E);
  pub laid_call : (n : ℕ) (g : Scope) (f : CFun) (ty : CType) (es : List CExpr) → n < 2 ^ 64 → Contains p.funs f → IsFunction f.name → f.result ≡ Some ty → TypeFits ty → ExprsKeep es
      → HaveTypes p g es f.params → Laid n (n + 1) g (st.Call (var n ty) f.name es ∷ []) (of_var (var n ty) ∷ g)
  laid_call n g f ty es small there shape result fits keeps typed =
      laid_one n g (st.Call (var n ty) f.name es) (var n ty) (number-plain n small) (declared_call (var n ty) f.name es)
      (StatementKeeps.call (record { ty = fits.keeps; name = plain_is n small }) shape keeps) (StatementFits.call f there result typed)

  -- FUN(E, E);
  pub laid_run : (n : ℕ) (g : Scope) (f : CFun) (es : List CExpr) → Contains p.funs f → IsFunction f.name → f.result ≡ None → ExprsKeep es → HaveTypes p g es f.params
      → Laid n n g (st.Run f.name es ∷ []) g
  laid_run n g f es there shape result keeps typed =
      laid_inside n n g (st.Run f.name es) [] (omega arith) (declared_run f.name es) (fresh_none n n) (StatementKeeps.run shape keeps) (StatementFits.run f there result typed)

  -- if (E) { .. } else { .. }
  pub laid_chain : (n k m : ℕ) (g h j : Scope) (test : CExpr) (body rest : List CStatement) → ExprKeeps test → HasType p g test ct.U8 → Laid n k g body h → Laid k m g rest j
      → Laid n m g (st.Chain (arm test body ∷ []) rest ∷ []) g
  laid_chain n k m g h j test body rest keeps typed x y =
      let le = x.grows in
      let ge = y.grows in
      laid_inside n m g (st.Chain (arm test body ∷ []) rest) (declared body ++ declared rest) (omega (arith, le, ge)) (declared_chain test body rest)
      (fresh_both n k m (declared body) (declared rest) le ge x.fresh y.fresh)
      (StatementKeeps.chain {arm = arm test body} {arms = []} {rest = rest} (ArmKeeps.arm keeps x.shapes) ArmsKeep.no_arm y.shapes)
      (StatementFits.chain {arms = arm test body ∷ []} {rest = rest} (ArmsFit.one_arm (IsCondition.number W8 typed) (BlockFits.braces h x.fits) ArmsFit.no_arm) (BlockFits.braces j y.fits))

  -- for (;;) { .. if (E) { .. } else { break; } }
  pub laid_loop : (n k m : ℕ) (g h j : Scope) (first : List CStatement) (test : CExpr) (body : List CStatement) → Laid n k g first h → ExprKeeps test → HasType p h test ct.U8 → Laid k m h body j
      → Laid n m g (st.Loop first test body ∷ []) g
  laid_loop n k m g h j first test body x keeps typed y =
      let le = x.grows in
      let ge = y.grows in
      laid_inside n m g (st.Loop first test body) (declared first ++ declared body) (omega (arith, le, ge)) (declared_loop first test body)
      (fresh_both n k m (declared first) (declared body) le ge x.fresh y.fresh) (StatementKeeps.loop x.shapes keeps y.shapes)
      (StatementFits.loop h x.fits (IsCondition.number W8 typed) (BlockFits.braces j y.fits))
