-- The program of a bundled file that is built is well formed.
use Rattle.std.proofs.Common.{◌≡◌, ℕ, suc, ◌+◌, ◌<◌, ◌≤◌, ◌^◌, Bool, true, false, if◌then◌else◌, List, [], ◌∷◌, ◌++◌, map, flat_map, length, take, slice_get, Contains, Some, None, refl, sym, ap, ◌∙◌, subst, ◌⊎◌, inl, inr, append_assoc, append-nil, arith}
use Rattle.std.proofs.lemmas.Grind.{flat_map-append}
use Rattle.std.proofs.lemmas.List.Elements.{Contains-append_left, Contains-append_right, Contains-append_cases}
use Rattle.std.specs.List.{AllByRecursion, IsDistinct}
use Rattle.std.specs.Str.{bytes_eq}
use Rattle.krml_trace.proofs.Lists.{contains_first, contains_later, take_front, at_front}
use Rattle.krml_syntax.specs.declared.tree.Ty.{Ty}
use Rattle.krml_syntax.specs.declared.tree.Field.{Field}
use Rattle.krml_syntax.specs.declared.tree.Expr.{Expr}
use Rattle.krml_syntax.specs.declared.tree.Def.{Def}
use Rattle.krml_syntax.specs.declared.tree.Def.TheVariants as d
use Rattle.krml_syntax.specs.declared.tree.SourceFile.{SourceFile}
use Rattle.krml_ast.specs.declared.file.Emitted.{Emitted}
use Rattle.krml_syntax.specs.Types.{erased}
use Rattle.krml_ast.specs.IsType.{IsValue, IsType}
use Rattle.krml_ast.specs.Typing.{Vars, HasType}
use Rattle.krml_ast.specs.Typing as typing
use Rattle.krml_ast.specs.WellTyped.{WellTyped, AreWellTyped, AreNew, type_name, table_name, fun_name, names_of}
use Rattle.krml_ast.specs.FileTypes.{IsVariable, IsBundled, HasSize, field_names}
use Rattle.krml_ast.specs.Pieces.{Piece, Bound, pieces_of, pieces_of_ty, pieces_of_def, pieces_in}
use Rattle.krml_ast.specs.Pieces as pieces
use Rattle.krml_ctree.specs.declared.tree.CStruct.{CStruct}
use Rattle.krml_ctree.specs.declared.tree.CTable.{CTable}
use Rattle.krml_ctree.specs.declared.tree.CVar.{CVar}
use Rattle.krml_ctree.specs.declared.tree.CFun.{CFun}
use Rattle.krml_ctree.specs.declared.tree.CProgram.{CProgram}
use Rattle.krml_ctree.specs.Shape as shape
use Rattle.krml_ctree.specs.Shape.{IsField, IsFunction, VarKeeps, FieldKeeps, StructKeeps, TableKeeps, ResultKeeps, AnswerKeeps, FunKeeps}
use Rattle.krml_ctree.specs.WellFormed as wf
use Rattle.krml_ctree.specs.WellFormed.{Scope, of_var, IsKnown, AnswerFits, FunFits, StructsFit, TableFits, WellFormed}
use Rattle.krml_meaning.proofs.Lists.{each_so, each_append, each_among, map_twice}
use Rattle.krml_meaning.proofs.Files.{through, each_def}
use Rattle.krml_cstar.specs.Built.{is_ty_built, is_built}
use Rattle.krml_cstar.specs.Count.{HaveFewVariables, variables_of}
use Rattle.krml_cstar.specs.Types.{ctype, is_unit}
use Rattle.krml_cstar.specs.Variables.{named, KnownVars}
use Rattle.krml_cstar.specs.Translation.{Out, code_of, params_from, cvars, fun_code, structs_of, tables_of, funs_of, program_of}
use Rattle.krml_cstar.proofs.Lookups.{fields_of}
use Rattle.krml_cstar.proofs.VariableNames.{name_is, number-named}
use Rattle.krml_cstar.proofs.WellFormedNames.{Fresh, named_is, fresh_none, fresh_one, fresh_both}
use Rattle.krml_cstar.proofs.WellFormedCode.{Within, TypeFits, declared}
use Rattle.krml_cstar.proofs.WellFormedParts.{BindsVariable, BindVariables, binds_variables, left, right, ready}
use Rattle.krml_cstar.proofs.WellFormedPlaces.{PartFits, Holds, InScope, Scoped, Placed, Places}
use Rattle.krml_cstar.proofs.WellFormedExpressions.{placed}
use Rattle.krml_cstar.proofs.Part.{FieldsBuilt, def_within, fields_built, fun_built}
use Rattle.krml_cstar.proofs.WellFormedDefinitions.{each_both, each_apart, each_joined, struct_name, function_name, table_name_is, field_name, DefTyped, def_typed, DefFits, Among, type_there, parts_there, holds}
use Rattle.krml_cstar.proofs.TypesInC.{ctype_same, unit_erased}

-- ---- functions

module _ (p : CProgram) where
  -- each parameter has its own name, whose number is its own
  params_fresh : (k : ℕ) (params : List Field) → k + length params ≤ 2 ^ 64 → Fresh k (k + length params) (map (λ v. v.name) (cvars (params_from k params)))
  params_fresh k [] small = fresh_none k (k + 0)
  params_fresh k (q ∷ params) small =
      let lt : k < 2 ^ 64 = omega (arith, small) in
      let one : k + 1 ≡ suc k = omega arith in
      let all : suc k + length params ≡ k + length (q ∷ params) = omega arith in
      let front : Fresh k (suc k) (named k q.name ∷ []) = subst (λ m. Fresh k m (named k q.name ∷ [])) one (fresh_one k (named k q.name) (number-named k q.name lt)) in
      let rest = params_fresh (suc k) params (omega (arith, small)) in
      subst (λ m. Fresh k m (map (λ v. v.name) (cvars (params_from k (q ∷ params))))) all
      (fresh_both k (suc k) (suc k + length params) (named k q.name ∷ []) (map (λ v. v.name) (cvars (params_from (suc k) params))) (omega arith) (omega arith) front rest)

  -- the variables of the source that the parameters are
  abbrev param_vars : List Field → Vars
  param_vars params = map (λ q. (q.name, erased q.ty)) params

  -- parameters are in a scope that has their variables
  params_scoped : (k : ℕ) (params : List Field) (g : Scope) → k + length params ≤ 2 ^ 64 → Within (map of_var (cvars (params_from k params))) g
      → AllByRecursion (λ q. PartFits p q.ty) params → AllByRecursion (λ q. IsVariable q.name) params → Scoped p g (params_from k params) (param_vars params)
  params_scoped k [] g small w h names = tt
  params_scoped k (q ∷ params) g small w h names =
      let lt : k < 2 ^ 64 = omega (arith, small) in
      let same : ctype q.ty ≡ ctype (erased q.ty) = ctype_same q.ty (erased q.ty) refl in
      let v : CVar = record { ty = ctype q.ty; name = named k q.name } in
      let entry : InScope p g (record { name = q.name; emitted = named k q.name; ty = q.ty }) q.name (erased q.ty) = record {
        name = refl;
        ty = refl;
        value = unit_erased q.ty ∙ h.0.value;
        fits = subst (TypeFits p) same h.0.fits;
        shape = named_is k q.name lt names.0;
        there = subst (λ z. Contains g (of_var (record { ty = z; name = named k q.name }))) same (w (of_var v) (contains_first (of_var v) (map of_var (cvars (params_from (suc k) params)))));
      } in
      (entry, params_scoped (suc k) params g (omega (arith, small)) (λ x m. w x (contains_later (of_var v) x (map of_var (cvars (params_from (suc k) params))) m)) h.1 names.1)

  params_keep : (k : ℕ) (params : List Field) → k + length params ≤ 2 ^ 64 → AllByRecursion (λ q. PartFits p q.ty) params → AllByRecursion (λ q. IsVariable q.name) params
      → AllByRecursion VarKeeps (cvars (params_from k params))
  params_keep k [] small h names = tt
  params_keep k (q ∷ params) small h names =
      (record { ty = h.0.fits.keeps; name = named_is k q.name (omega (arith, small)) names.0 }, params_keep (suc k) params (omega (arith, small)) h.1 names.1)

  params_known : (k : ℕ) (params : List Field) → AllByRecursion (λ q. PartFits p q.ty) params → AllByRecursion (λ v. IsKnown p.structs v.ty) (cvars (params_from k params))
  params_known k [] h = tt
  params_known k (q ∷ params) h = (h.0.fits.known, params_known (suc k) params h.1)

  -- what is asked of a function of the source
  record FunReady (defs : List Def) (x : List ℕ) (params : List Field) (result : Ty) (body : Expr) : Type 0 where
    name : IsFunction x
    each : AllByRecursion (λ q. PartFits p q.ty) params
    names : AllByRecursion (λ q. IsVariable q.name) params
    gives : TypeFits p (ctype result)
    body_places : Places p (param_vars params) (erased result) (code_of defs body)
    few : ((code_of defs body).run (params_from 0 params) (length params)).next ≤ 2 ^ 64

  module _ (defs : List Def) (x : List ℕ) (params : List Field) (result : Ty) (body : Expr) (r : FunReady defs x params result body) where
    abbrev known : KnownVars
    known = params_from 0 params

    abbrev fun : CFun
    fun = fun_code defs x params result body

    abbrev out : Out
    out = (code_of defs body).run known (length params)

    grown : length params ≤ out.next
    grown = r.body_places.grows known (length params)

    few_params : 0 + length params ≤ 2 ^ 64
    few_params = let few = r.few in let le = grown in omega (arith, few, le)

    -- the parameters as a scope, and the body in it
    abbrev start : Scope
    start = map of_var fun.params

    body_placed : Placed p (erased result) (length params) start out
    body_placed = r.body_places.placed known (length params) start r.few (params_scoped 0 params start few_params (λ v h. h) r.each r.names)

    fun_keeps : FunKeeps fun
    fun_keeps = record { result = result_of (is_unit result); name = r.name; params = params_keep 0 params few_params r.each r.names; body = body_placed.laid.shapes; answer = answer (is_unit result) }
      where
        result_of : (b : Bool) → ResultKeeps (if b then None else Some (ctype result))
        result_of true = ResultKeeps.no_result
        result_of false = ResultKeeps.a_result r.gives.keeps

        answer : (b : Bool) → AnswerKeeps (if b then None else Some (ctype result)) (if b then None else Some out.value)
        answer true = AnswerKeeps.nothing
        answer false = AnswerKeeps.value body_placed.keeps

    fun_distinct : IsDistinct bytes_eq (map (λ v. v.name) fun.params ++ flat_map wf.names fun.body)
    fun_distinct =
        let all : 0 + length params ≡ length params = omega arith in
        (fresh_both 0 (length params) out.next (map (λ v. v.name) fun.params) (declared out.code) (omega arith) grown
        (subst (λ m. Fresh 0 m (map (λ v. v.name) fun.params)) all (params_fresh 0 params few_params)) body_placed.laid.fresh).distinct

    fun_fits : FunFits p fun
    fun_fits = record {
      distinct = fun_distinct;
      params = params_known 0 params r.each;
      scope = body_placed.after;
      body = body_placed.laid.fits;
      answer = answer (is_unit result) refl;
    }
      where
        answer : (b : Bool) → is_unit result ≡ b → AnswerFits p body_placed.after (if b then None else Some (ctype result)) (if b then None else Some out.value)
        answer true e = AnswerFits.nothing
        answer false e =
            let same : ctype result ≡ ctype (erased result) = ctype_same result (erased result) refl in
            AnswerFits.value r.gives.known (subst (wf.HasType p body_placed.after out.value) (sym same) (body_placed.typed (unit_erased result ∙ e)))

-- ---- what is said of each definition

typed_names : (P : List ℕ → Type 0) (Q : List ℕ → Type 0) (names : Def → List (List ℕ)) (defs : List Def) → ((x : List ℕ) → P x → Q x) → AllByRecursion P (flat_map names defs)
    → AllByRecursion (λ def. AllByRecursion Q (names def)) defs
typed_names P Q names defs f h = each_apart Q names defs (each_so P Q (flat_map names defs) f h)

def_fits : (file : SourceFile) (emitted : List Emitted) → IsBundled file emitted → AllByRecursion (λ def. is_built def ≡ true) file.defs → AllByRecursion (DefFits file.defs) file.defs
def_fits file emitted h built =
    let defs = file.defs in
    let named = h.named in
    let typed = each_def defs h.listed.regular.typed (DefTyped defs) (def_typed defs) in
    let binds = each_apart BindsVariable pieces_of_def defs (binds_variables (pieces_in defs) named.vars) in
    go defs built typed h.listed.regular.sizes (typed_names _ shape.IsStruct type_name defs struct_name named.types) (typed_names _ shape.IsTable table_name defs table_name_is named.tables)
    (typed_names _ IsFunction fun_name defs function_name named.funs) (typed_names _ IsField field_names defs field_name named.fields) binds
  where
    go : (ds : List Def) → AllByRecursion (λ def. is_built def ≡ true) ds → AllByRecursion (DefTyped file.defs) ds → AllByRecursion HasSize ds → AllByRecursion (λ def. AllByRecursion shape.IsStruct (type_name def)) ds
        → AllByRecursion (λ def. AllByRecursion shape.IsTable (table_name def)) ds → AllByRecursion (λ def. AllByRecursion IsFunction (fun_name def)) ds
        → AllByRecursion (λ def. AllByRecursion IsField (field_names def)) ds → AllByRecursion (λ def. BindVariables (pieces_of_def def)) ds → AllByRecursion (DefFits file.defs) ds
    go [] a b c s t f m v = tt
    go (def ∷ ds) a b c s t f m v =
        (record { built = def_within false def a.0; typed = b.0; size = c.0; types = s.0; tables = t.0; funs = f.0; fields = m.0; binds = v.0 }, go ds a.1 b.1 c.1 s.1 t.1 f.1 m.1 v.1)

-- ---- distinct names

-- a name that is not among these is none of them
not_among : (x : List ℕ) (ys : List (List ℕ)) → (Contains ys x → ⊥) → AllByRecursion (λ y. bytes_eq y x ≡ false) ys
not_among x ys absent = each_among (λ y. bytes_eq y x ≡ false) ys (λ y k. at y k (bytes_eq y x) refl)
  where
    at : (y : List ℕ) → Contains ys y → (b : Bool) → bytes_eq y x ≡ b → bytes_eq y x ≡ false
    at y k true e = absurd (absent (subst (Contains ys) (name_is y x e) k))
    at y k false e = e

-- distinct names, and then distinct others that are none of them
distinct_then : (xs ys : List (List ℕ)) → IsDistinct bytes_eq xs → IsDistinct bytes_eq ys → AllByRecursion (λ y. AllByRecursion (λ x. bytes_eq x y ≡ false) xs) ys → IsDistinct bytes_eq (xs ++ ys)
unfolding IsDistinct
distinct_then [] ys dx dy h = dy
distinct_then (x ∷ xs) ys dx dy h = (
  each_append (λ y. bytes_eq x y ≡ false) xs ys dx.0 (each_so (λ y. AllByRecursion (λ z. bytes_eq z y ≡ false) (x ∷ xs)) (λ y. bytes_eq x y ≡ false) ys (λ y k. k.0) h),
  distinct_then xs ys dx.1 dy (each_so (λ y. AllByRecursion (λ z. bytes_eq z y ≡ false) (x ∷ xs)) (λ y. AllByRecursion (λ z. bytes_eq z y ≡ false) xs) ys (λ y k. k.1) h),
)

module _ (defs : List Def) (typed : AreWellTyped defs) where
  -- the names of a kind are distinct, where each definition's are new
  distinct_names : (names : Def → List (List ℕ)) → ((before : List Def) (def : Def) → WellTyped defs before def → AreNew names before def) → IsDistinct bytes_eq (flat_map names defs)
  unfolding IsDistinct
  distinct_names names new = through defs typed (λ ds. IsDistinct bytes_eq (flat_map names ds)) (λ before rest def e h w. more before def h (new before def w)) [] defs refl tt
    where
      more : (before : List Def) (def : Def) → IsDistinct bytes_eq (flat_map names before) → AreNew names before def → IsDistinct bytes_eq (flat_map names (before ++ def ∷ []))
      more before def h k =
          let same : flat_map names (before ++ def ∷ []) ≡ flat_map names before ++ names def = flat_map-append names before (def ∷ []) ∙ ap (λ z. flat_map names before ++ z) (append-nil (names def)) in
          subst (IsDistinct bytes_eq) (sym same) (distinct_then (flat_map names before) (names def) h k.0
          (each_so (λ x. Contains (flat_map names before) x → ⊥) (λ x. AllByRecursion (λ y. bytes_eq y x ≡ false) (flat_map names before)) (names def) (λ x. not_among x (flat_map names before)) k.1))

  new_types : (before : List Def) (def : Def) → WellTyped defs before def → AreNew type_name before def
  unfolding IsDistinct
  new_types before def (WellTyped.struct new vs fs ok) = new
  new_types before def (WellTyped.sum new cs vs ok) = new
  new_types before def (WellTyped.table new ok) = (tt, tt)
  new_types before def (WellTyped.fun new vs ps ok r res b) = (tt, tt)
  new_types before def (WellTyped.entry new is none ps ans) = (tt, tt)

  new_tables : (before : List Def) (def : Def) → WellTyped defs before def → AreNew table_name before def
  unfolding IsDistinct
  new_tables before def (WellTyped.table new ok) = new
  new_tables before def (WellTyped.struct new vs fs ok) = (tt, tt)
  new_tables before def (WellTyped.sum new cs vs ok) = (tt, tt)
  new_tables before def (WellTyped.fun new vs ps ok r res b) = (tt, tt)
  new_tables before def (WellTyped.entry new is none ps ans) = (tt, tt)

  new_funs : (before : List Def) (def : Def) → WellTyped defs before def → AreNew fun_name before def
  unfolding IsDistinct
  new_funs before def (WellTyped.fun new vs ps ok r res b) = new
  new_funs before def (WellTyped.struct new vs fs ok) = (tt, tt)
  new_funs before def (WellTyped.sum new cs vs ok) = (tt, tt)
  new_funs before def (WellTyped.table new ok) = (tt, tt)
  new_funs before def (WellTyped.entry new is none ps ans) = (tt, tt)

-- the names of what the program has are those that the definitions give
structs_named : (defs ds : List Def) → AllByRecursion (DefFits defs) ds → map (λ s. s.name) (flat_map structs_of ds) ≡ flat_map type_name ds
structs_named defs [] h = refl
structs_named defs (d.Struct x vars fields ∷ ds) h = ap (λ z. x ∷ z) (structs_named defs ds h.1)
structs_named defs (d.Sum x vars cons ∷ ds) h = let b = h.0.built.no_sum in absurd (cc)
structs_named defs (d.Table x i nums ∷ ds) h = structs_named defs ds h.1
structs_named defs (d.Fun x vars params result body ∷ ds) h = structs_named defs ds h.1
structs_named defs (d.Entry x ∷ ds) h = structs_named defs ds h.1

tables_named : (ds : List Def) → map (λ t. t.name) (flat_map tables_of ds) ≡ flat_map table_name ds
tables_named [] = refl
tables_named (d.Table x i nums ∷ ds) = ap (λ z. x ∷ z) (tables_named ds)
tables_named (d.Struct x vars fields ∷ ds) = tables_named ds
tables_named (d.Sum x vars cons ∷ ds) = tables_named ds
tables_named (d.Fun x vars params result body ∷ ds) = tables_named ds
tables_named (d.Entry x ∷ ds) = tables_named ds

funs_named : (defs ds : List Def) → map (λ f. f.name) (flat_map (funs_of defs) ds) ≡ flat_map fun_name ds
funs_named defs [] = refl
funs_named defs (d.Fun x vars params result body ∷ ds) = ap (λ z. x ∷ z) (funs_named defs ds)
funs_named defs (d.Struct x vars fields ∷ ds) = funs_named defs ds
funs_named defs (d.Sum x vars cons ∷ ds) = funs_named defs ds
funs_named defs (d.Table x i nums ∷ ds) = funs_named defs ds
funs_named defs (d.Entry x ∷ ds) = funs_named defs ds

-- ---- structs

-- what is said of the fields of a struct behind the definitions before it
abbrev StructTyped : List Def → Def → Type 0
StructTyped before (d.Struct x vars fields) = IsDistinct bytes_eq (names_of fields) × AllByRecursion (λ f. IsType before vars f.ty × IsValue f.ty) fields
StructTyped before _ = Unit {0}

struct_typed : (defs before : List Def) (def : Def) → WellTyped defs before def → StructTyped before def
struct_typed defs before def (WellTyped.struct new vs fs ok) = (fs, ok)
struct_typed defs before def (WellTyped.sum new cs vs ok) = tt
struct_typed defs before def (WellTyped.table new ok) = tt
struct_typed defs before def (WellTyped.fun new vs ps ok r res b) = tt
struct_typed defs before def (WellTyped.entry new is none ps ans) = tt

-- one definition more
among_more : (before : List Def) (def : Def) (earlier : List CStruct) → Among (flat_map structs_of before) earlier → Among (flat_map structs_of (before ++ def ∷ [])) (structs_of def ++ earlier)
among_more before def earlier h s k =
    let same : flat_map structs_of (before ++ def ∷ []) ≡ flat_map structs_of before ++ structs_of def =
    flat_map-append structs_of before (def ∷ []) ∙ ap (λ z. flat_map structs_of before ++ z) (append-nil (structs_of def)) in
    at (Contains-append_cases (flat_map structs_of before) (structs_of def) s (subst (λ z. Contains z s) same k))
  where
    at : Contains (flat_map structs_of before) s ⊎ Contains (structs_of def) s → Contains (structs_of def ++ earlier) s
    at (inl k) = Contains-append_right (structs_of def) earlier s (h s k)
    at (inr k) = Contains-append_left (structs_of def) earlier s k

-- a program of these structs alone
abbrev of_structs : List CStruct → CProgram
of_structs structs = record { structs = structs; tables = []; funs = [] }

fields_fit : (p : CProgram) (before : List Def) (fields : List Field) → ((a : Ty) → IsType before [] a → is_ty_built a ≡ true → TypeFits p (ctype a))
    → AllByRecursion (λ f. IsType before [] f.ty × IsValue f.ty) fields → FieldsBuilt fields → AllByRecursion IsField (names_of fields)
    → AllByRecursion FieldKeeps (fields_of fields) × AllByRecursion (λ f. IsKnown p.structs f.ty) (fields_of fields)
fields_fit p before [] fit h built names = (tt, tt)
fields_fit p before (f ∷ fields) fit h built names =
    let ty = fit f.ty h.0.0 built.0 in
    let rest = fields_fit p before fields fit h.1 built.1 names.1 in
    ((record { ty = ty.keeps; name = names.0 }, rest.0), (ty.known, rest.1))

module _ (defs : List Def) (typed : AreWellTyped defs) where
  -- structs keep the shapes, and fit behind earlier ones
  structs_fit : (before rest : List Def) (earlier : List CStruct) → before ++ rest ≡ defs → AllByRecursion (DefFits defs) before → AllByRecursion (DefFits defs) rest
      → Among (flat_map structs_of before) earlier → AllByRecursion StructKeeps (flat_map structs_of rest) × StructsFit earlier (flat_map structs_of rest)
  structs_fit before [] earlier e hb hr among = (tt, tt)
  structs_fit before (def ∷ rest) earlier e hb hr among =
      let there : slice_get defs (length before) ≡ Some def = ap (λ z. slice_get z (length before)) (sym e) ∙ at_front before def rest in
      let front : take (length before) defs ≡ before = ap (take (length before)) (sym e) ∙ take_front before (def ∷ rest) in
      let w : WellTyped defs before def = subst (λ z. WellTyped defs z def) front (typed (length before) def there) in
      at def (struct_typed defs before def w) hr.0
      (structs_fit (before ++ def ∷ []) rest (structs_of def ++ earlier) (append_assoc before (def ∷ []) rest ∙ e) (each_append (DefFits defs) before (def ∷ []) hb (hr.0, tt)) hr.1
      (among_more before def earlier among))
    where
      at : (def : Def) → StructTyped before def → DefFits defs def
          → AllByRecursion StructKeeps (flat_map structs_of rest) × StructsFit (structs_of def ++ earlier) (flat_map structs_of rest)
          → AllByRecursion StructKeeps (structs_of def ++ flat_map structs_of rest) × StructsFit earlier (structs_of def ++ flat_map structs_of rest)
      at (d.Struct x vars fields) ty fit later =
          let types = subst (λ vs. AllByRecursion (λ f. IsType before vs f.ty × IsValue f.ty) fields) fit.built.none ty.1 in
          let both = fields_fit (of_structs earlier) before fields (λ a ok b. type_there defs (of_structs earlier) before hb among a ok b) types (fields_built fields fit.built.pieces) fit.fields in
          let same : map (λ v. v.name) (fields_of fields) ≡ names_of fields = map_twice (λ f. record { ty = ctype f.ty; name = f.name }) (λ v. v.name) fields in (
            (record { name = fit.types.0; fields = both.0 }, later.0),
            (record { distinct = subst (IsDistinct bytes_eq) (sym same) ty.0; fields = both.1 }, later.1),
          )
      at (d.Sum x vars cons) ty fit later = later
      at (d.Table x i nums) ty fit later = later
      at (d.Fun x vars params result body) ty fit later = later
      at (d.Entry x) ty fit later = later

-- ---- the whole program

params_named : (params : List Field) → BindVariables (map (λ q. Bound q.name) params) → AllByRecursion (λ q. IsVariable q.name) params
params_named [] h = tt
params_named (q ∷ params) h = (h.0, params_named params h.1)

module _ (defs : List Def) (typed : AreWellTyped defs) (each : AllByRecursion (DefFits defs) defs) (few : HaveFewVariables defs) where
  abbrev p : CProgram
  p = program_of (record { defs = defs })

  here : Holds p defs
  here = holds defs p typed each (λ s k. k) (λ t k. k) (λ f k. k)

  structs : AllByRecursion StructKeeps p.structs × StructsFit [] p.structs
  structs = structs_fit defs typed [] defs [] refl tt each (λ s k. k)

  table_keeps : (def : Def) → DefFits defs def → AllByRecursion TableKeeps (tables_of def)
  table_keeps (d.Table x i nums) fit = (record { name = fit.tables.0; nums = fit.typed }, tt)
  table_keeps (d.Struct x vars fields) fit = tt
  table_keeps (d.Sum x vars cons) fit = tt
  table_keeps (d.Fun x vars params result body) fit = tt
  table_keeps (d.Entry x) fit = tt

  table_fits : (def : Def) → DefFits defs def → AllByRecursion TableFits (tables_of def)
  table_fits (d.Table x i nums) fit = (record { some = fit.size.0; most = fit.size.1 }, tt)
  table_fits (d.Struct x vars fields) fit = tt
  table_fits (d.Sum x vars cons) fit = tt
  table_fits (d.Fun x vars params result body) fit = tt
  table_fits (d.Entry x) fit = tt

  fun_ready : (x : List ℕ) (vars : List (List ℕ)) (params : List Field) (result : Ty) (body : Expr) → DefFits defs (d.Fun x vars params result body)
      → variables_of defs (d.Fun x vars params result body) ≤ 2 ^ 64 → FunReady p defs x params result body
  fun_ready x vars params result body fit small =
      let b = fun_built x vars params result body fit.built in
      let k = fit.typed in
      let bound : List Piece = pieces.field_types params ++ map (λ q. Bound q.name) params in
      let binds = left (bound ++ pieces_of_ty result) (pieces_of body) fit.binds in
      let names = right (pieces.field_types params) (map (λ q. Bound q.name) params) (left bound (pieces_of_ty result) binds) in
      let params_ok : AllByRecursion (λ q. IsType defs [] q.ty × IsValue q.ty) params = subst (λ vs. AllByRecursion (λ q. IsType defs vs q.ty × IsValue q.ty) params) b.none k.each in
      let result_ok : IsType defs [] result = subst (λ vs. IsType defs vs result) b.none k.gives in
      let scope : typing.Scope = record { vars = param_vars p params; frame = None } in
      let body_ok : HasType defs [] scope body (erased result) = subst (λ vs. HasType defs vs scope body (erased result)) b.none k.typed in
      record {
        name = fit.funs.0;
        each = parts_there defs p params here.type_fits params_ok b.types;
        names = params_named params names;
        gives = here.type_fits result result_ok b.result;
        body_places = placed p defs here scope body (erased result) body_ok (ready body b.body (right (bound ++ pieces_of_ty result) (pieces_of body) fit.binds));
        few = small;
      }

  -- a definition, and that it has few variables
  abbrev Counted : Def → Type 0
  Counted def = DefFits defs def × (variables_of defs def ≤ 2 ^ 64)

  funs_keep : (def : Def) → Counted def → AllByRecursion FunKeeps (funs_of defs def)
  funs_keep (d.Fun x vars params result body) fit = (fun_keeps p defs x params result body (fun_ready x vars params result body fit.0 fit.1), tt)
  funs_keep (d.Struct x vars fields) fit = tt
  funs_keep (d.Sum x vars cons) fit = tt
  funs_keep (d.Table x i nums) fit = tt
  funs_keep (d.Entry x) fit = tt

  funs_fit : (def : Def) → Counted def → AllByRecursion (FunFits p) (funs_of defs def)
  funs_fit (d.Fun x vars params result body) fit = (fun_fits p defs x params result body (fun_ready x vars params result body fit.0 fit.1), tt)
  funs_fit (d.Struct x vars fields) fit = tt
  funs_fit (d.Sum x vars cons) fit = tt
  funs_fit (d.Table x i nums) fit = tt
  funs_fit (d.Entry x) fit = tt

  -- what each table and function has of its definition
  tables_each : (P : CTable → Type 0) → ((def : Def) → DefFits defs def → AllByRecursion P (tables_of def)) → AllByRecursion P p.tables
  tables_each P f = each_joined P tables_of defs (each_so (DefFits defs) (λ def. AllByRecursion P (tables_of def)) defs f each)

  counted : AllByRecursion Counted defs
  counted = each_both (DefFits defs) (λ def. variables_of defs def ≤ 2 ^ 64) defs each few

  funs_each : (P : CFun → Type 0) → ((def : Def) → Counted def → AllByRecursion P (funs_of defs def)) → AllByRecursion P p.funs
  funs_each P f = each_joined P (funs_of defs) defs (each_so Counted (λ def. AllByRecursion P (funs_of defs def)) defs f counted)

  whole : WellFormed p
  whole = record {
    shapes = record { structs = structs.0; tables = tables_each TableKeeps table_keeps; funs = funs_each FunKeeps funs_keep };
    distinct_structs = subst (IsDistinct bytes_eq) (sym (structs_named defs defs each)) (distinct_names defs typed type_name (new_types defs typed));
    structs = structs.1;
    distinct_tables = subst (IsDistinct bytes_eq) (sym (tables_named defs)) (distinct_names defs typed table_name (new_tables defs typed));
    tables = tables_each TableFits table_fits;
    distinct_funs = subst (IsDistinct bytes_eq) (sym (funs_named defs defs)) (distinct_names defs typed fun_name (new_funs defs typed));
    funs = funs_each (FunFits p) funs_fit;
  }

-- The program of a bundled file that is built is well formed, where the numbers of its variables are below 2 ^ 64.
pub well_formed : (file : SourceFile) (names : List Emitted) → IsBundled file names → AllByRecursion (λ def. is_built def ≡ true) file.defs → HaveFewVariables file.defs → WellFormed (program_of file)
well_formed file names h built few = whole file.defs h.listed.regular.typed (def_fits file names h built) few
