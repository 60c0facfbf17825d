-- The part of the language that is built: its types, and what its definitions keep.
use Rattle.std.proofs.Common.{◌≡◌, ℕ, suc, Bool, true, false, not, ◌&&◌, List, [], ◌∷◌, ◌++◌, map, flat_map, length, Some, refl, sym, ap, ◌∙◌, subst, arith}
use Rattle.std.specs.List.{AllByRecursion, IsDistinct, list_all}
use Rattle.std.specs.Str.{bytes_eq}
use Rattle.std.proofs.lemmas.Bool.{eqb-true, and_parts}
use Rattle.krml_syntax.specs.declared.tree.IntTy.{IntTy}
use Rattle.krml_syntax.specs.declared.tree.Ty.{Ty}
use Rattle.krml_syntax.specs.declared.tree.Ty.TheVariants as t
use Rattle.krml_syntax.specs.declared.tree.Field.{Field}
use Rattle.krml_syntax.specs.declared.tree.Con.{Con}
use Rattle.krml_syntax.specs.declared.tree.Expr.{Expr}
use Rattle.krml_syntax.specs.declared.tree.Def.{Def}
use Rattle.krml_syntax.specs.declared.tree.Def.TheVariants as d
use Rattle.krml_ast.specs.Pieces.{Piece, Bound, pieces_of, pieces_of_ty, pieces_of_def, pieces_in, field_types}
use Rattle.krml_ast.specs.FileTypes.{listed_vars}
use Rattle.krml_ast.specs.Names.{Struct, Sum, Signature, type_named, table_named, fun_named}
use Rattle.krml_syntax.specs.Types.{public, erased, type_at}
use Rattle.krml_ast.specs.IsType.{IsValue, IsType}
use Rattle.krml_ast.specs.Typing.{at, fields_at}
use Rattle.krml_ast.specs.WellTyped.{names_of, WellTyped, AreWellTyped}
use Rattle.krml_ast.proofs.Named.{struct_stands, sum_stands, table_stands}
use Rattle.krml_meaning.specs.Meaning as src
use Rattle.krml_meaning.proofs.Lists.{same_answer, each_get, each_so, each_append, each_left, each_right}
use Rattle.krml_syntax.proofs.Types.{erased_bool, erased_unit, erased_int, erased_named, at_bool, at_unit, at_int, at_named}
use Rattle.krml_meaning.proofs.Flat.{by_form}
use Rattle.krml_meaning.proofs.Files.{fun_found, each_def}
use Rattle.krml_cstar.specs.Built.{is_public, is_empty, level_ty_built, is_ty_built, is_sum, is_built, is_piece_within, is_within, AreBuilt, AreWithin}

-- ---- types

pub nothing_listed : {A : Type 0} (xs : List A) → is_empty xs ≡ true → xs ≡ []
nothing_listed [] e = refl
nothing_listed (x ∷ xs) e = let n : suc (length xs) ≡ 0 = eqb-true (suc (length xs)) 0 e in absurd (omega (arith, n))

-- a public integer type is without its label what it is
pub public_same : (i : IntTy) → is_public i ≡ true → public i ≡ i
public_same i e = go i.secret refl e
  where
    go : (b : Bool) → i.secret ≡ b → not b ≡ true → public i ≡ i
    go false q h = ap (λ s. record { width = i.width; secret = s }) (sym q)
    go true q h = absurd (cc)

pub is_public_built : (i : IntTy) → is_ty_built (t.Int i) ≡ true → is_public i ≡ true
is_public_built i h = sym (ap level_ty_built (t.outs-Int i)) ∙ h

-- a type that is built is of one of these forms
pub built_form : (P : Ty → Type 0) → P t.Bool → P t.Unit → ((i : IntTy) → is_public i ≡ true → P (t.Int i)) → ((x : List ℕ) → P (t.Named x []))
    → (a : Ty) → is_ty_built a ≡ true → P a
built_form P b u i n = by_form (λ a. is_ty_built a ≡ true → P a) (λ e. b) (λ e. u) (λ j e. i j (sym (ap level_ty_built (t.outs-Int j)) ∙ e))
    (λ a e. absurd (off (sym (ap level_ty_built (t.outs-Buf a)) ∙ e))) (λ x e. absurd (off (sym (ap level_ty_built (t.outs-Var x)) ∙ e)))
    (λ x args e. subst (λ z. P (t.Named x z)) (sym (nothing_listed args (sym (ap level_ty_built (t.outs-Named x args)) ∙ e))) (n x))
  where
    off : false ≡ true → ⊥
    off e = cc

pub erased_built : (a : Ty) → is_ty_built a ≡ true → erased a ≡ a
erased_built = built_form (λ a. erased a ≡ a) erased_bool erased_unit (λ i h. erased_int i ∙ ap (λ z. t.Int z) (public_same i h)) (λ x. erased_named x [])

pub type_at_built : (vars : List (List ℕ)) (args : List Ty) (a : Ty) → is_ty_built a ≡ true → type_at vars args a ≡ a
type_at_built vars args = built_form (λ a. type_at vars args a ≡ a) (at_bool vars args) (at_unit vars args) (λ i h. at_int vars args i) (λ x. at_named vars args x [])

-- whatever the type variables
pub at_built : (vars : List (List ℕ)) (args : List Ty) (a : Ty) → is_ty_built a ≡ true → at vars args a ≡ a
at_built vars args a e = ap erased (type_at_built vars args a e) ∙ erased_built a e

abbrev pub FieldsBuilt : List Field → Type 0
FieldsBuilt fields = AllByRecursion (λ f. is_ty_built f.ty ≡ true) fields

-- the types of fields or parameters
abbrev pub types_of : List Field → List Ty
types_of fields = map (λ f. f.ty) fields

pub fields_at_built : (vars : List (List ℕ)) (args : List Ty) (fields : List Field) → FieldsBuilt fields → fields_at vars args fields ≡ types_of fields
fields_at_built vars args [] e = refl
fields_at_built vars args (f ∷ fields) e =
    ap (λ z. z ∷ fields_at vars args fields) (at_built vars args f.ty e.0) ∙ ap (λ z. f.ty ∷ z) (fields_at_built vars args fields e.1)

pub fields_erased_built : (fields : List Field) → FieldsBuilt fields → map (λ f. erased f.ty) fields ≡ types_of fields
fields_erased_built [] e = refl
fields_erased_built (f ∷ fields) e =
    ap (λ z. z ∷ map (λ (g : Field). erased g.ty) fields) (erased_built f.ty e.0) ∙ ap (λ z. f.ty ∷ z) (fields_erased_built fields e.1)

-- the types of fields and of parameters, at any type arguments
pub types_here : (vars : List (List ℕ)) (args : List Ty) (fields : List Field) → FieldsBuilt fields → fields_at vars args fields ≡ map (λ f. erased f.ty) fields
types_here vars args fields e = fields_at_built vars args fields e ∙ sym (fields_erased_built fields e)

-- ---- what holds of each definition holds of the one that a name means

module _ (P : Def → Type 0) where
  pub at_struct : (defs : List Def) (x : List ℕ) (vars : List (List ℕ)) (fields : List Field) → AllByRecursion P defs → type_named defs x ≡ Some (Struct vars fields) → P (d.Struct x vars fields)
  at_struct defs x vars fields h e = let s = struct_stands defs x vars fields e in each_get P defs s.0 (d.Struct x vars fields) h s.1

  pub at_function : (defs : List Def) (x : List ℕ) (f : Signature) (fun : src.Function) → AllByRecursion P defs → fun_named defs x ≡ Some f → src.function_named defs x ≡ Some fun
      → P (d.Fun x f.vars f.params f.result fun.body)
  at_function defs x f fun h e q =
      let g = fun_found defs x f e in
      subst (λ (z : src.Function). P (d.Fun x f.vars f.params f.result z.body)) (same_answer (src.function_named defs x) (record { tvars = f.vars; params = f.params; body = g.body }) fun g.is q)
      (each_get P defs g.place (d.Fun x f.vars f.params f.result g.body) h g.there)

  -- a table, with its numbers
  pub at_table : (defs : List Def) (x : List ℕ) (i : IntTy) → AllByRecursion P defs → table_named defs x ≡ Some i → (nums : List ℕ) × P (d.Table x i nums)
  at_table defs x i h e = let s = table_stands defs x i e in (s.0, each_get P defs s.1.0 (d.Table x i s.0) h s.1.1)

-- ---- what is built, piece by piece

module _ (buffers : Bool) where
  abbrev pub PieceWithin : Piece → Type 0
  PieceWithin x = is_piece_within buffers x ≡ true

  abbrev pub AllWithin : List Piece → Type 0
  AllWithin pieces = AllByRecursion PieceWithin pieces

  all_within : (pieces : List Piece) → list_all (is_piece_within buffers) pieces ≡ true → AllWithin pieces
  all_within [] h = tt
  all_within (x ∷ pieces) h = let k = and_parts (is_piece_within buffers x) (list_all (is_piece_within buffers) pieces) h in (k.0, all_within pieces k.1)

  -- no sum, and without type variables
  pub record DefWithin (def : Def) : Type 0 where
    pub no_sum : not (is_sum def) ≡ true
    pub none : listed_vars def ≡ []
    pub pieces : AllWithin (pieces_of_def def)

  pub def_within : (def : Def) → is_within buffers def ≡ true → DefWithin def
  def_within def h =
      let one = and_parts (not (is_sum def) && is_empty (listed_vars def)) (list_all (is_piece_within buffers) (pieces_of_def def)) h in
      let two = and_parts (not (is_sum def)) (is_empty (listed_vars def)) one.0 in
      record { no_sum = two.0; none = nothing_listed (listed_vars def) two.1; pieces = all_within (pieces_of_def def) one.1 }

  pub pieces_within : (defs : List Def) → AreWithin buffers defs → AllWithin (pieces_in defs)
  pieces_within [] h = tt
  pieces_within (def ∷ defs) h = each_append PieceWithin (pieces_of_def def) (pieces_in defs) (def_within def h.0).pieces (pieces_within defs h.1)

abbrev pub PieceBuilt : Piece → Type 0
PieceBuilt x = PieceWithin false x

abbrev pub AllBuilt : List Piece → Type 0
AllBuilt pieces = AllWithin false pieces

abbrev pub ExprBuilt : Expr → Type 0
ExprBuilt x = AllBuilt (pieces_of x)

-- types that are written, as those of fields
pub types_built : {A : Type 0} (f : A → Ty) (xs : List A) → AllBuilt (flat_map (λ x. pieces_of_ty (f x)) xs)
    → AllByRecursion (λ x. is_ty_built (f x) ≡ true) xs
types_built f [] h = tt
types_built f (x ∷ xs) h = (h.0, types_built f xs (each_right PieceBuilt (pieces_of_ty (f x)) (flat_map (λ y. pieces_of_ty (f y)) xs) h))

pub fields_built : (fields : List Field) → AllBuilt (field_types fields) → FieldsBuilt fields
fields_built fields h = types_built (λ (f : Field). f.ty) fields h

pub record FunBuilt (vars : List (List ℕ)) (params : List Field) (r : Ty) (x : Expr) : Type 0 where
  pub none : vars ≡ []
  pub types : FieldsBuilt params
  pub result : is_ty_built r ≡ true
  pub body : ExprBuilt x

pub fun_built : (x : List ℕ) (vars : List (List ℕ)) (params : List Field) (result : Ty) (body : Expr) → DefWithin false (d.Fun x vars params result body)
    → FunBuilt vars params result body
fun_built x vars params result body b =
    let names : List Piece = map (λ (p : Field). Bound p.name) params in
    let front = field_types params ++ names in
    let head = each_left PieceBuilt (front ++ pieces_of_ty result) (pieces_of body) b.pieces in
    record {
      none = b.none;
      types = fields_built params (each_left PieceBuilt (field_types params) names (each_left PieceBuilt front (pieces_of_ty result) head));
      result = (each_right PieceBuilt front (pieces_of_ty result) head).0;
      body = each_right PieceBuilt (front ++ pieces_of_ty result) (pieces_of body) b.pieces;
    }

-- ---- the definitions of a file that is built

-- there is no sum
pub no_sum : (defs : List Def) → AreBuilt defs → (x : List ℕ) (vars : List (List ℕ)) (cons : List Con) → type_named defs x ≡ Some (Sum vars cons) → ⊥
no_sum defs h x vars cons e = let s = sum_stands defs x vars cons e in let built = each_get (λ def. is_built def ≡ true) defs s.0 (d.Sum x vars cons) h s.1 in cc

-- a struct has no type variables, and its fields are values of types that are built, with names that differ
pub record StructBuilt (vars : List (List ℕ)) (fields : List Field) : Type 0 where
  pub none : vars ≡ []
  pub types : FieldsBuilt fields
  pub values : AllByRecursion (λ f. IsValue f.ty) fields
  pub distinct : IsDistinct bytes_eq (names_of fields)

-- a function has no type variables, and its parameters are values of types that are built, with names that differ; so is its
-- result, or it is unit; and its body is built
pub record FunctionBuilt (f : Signature) (a : Expr) : Type 0 where
  pub none : f.vars ≡ []
  pub types : FieldsBuilt f.params
  pub values : AllByRecursion (λ p. IsValue p.ty) f.params
  pub distinct : IsDistinct bytes_eq (names_of f.params)
  pub result : is_ty_built f.result ≡ true
  pub body : ExprBuilt a

abbrev ValuesIn : Def → Type 0
ValuesIn (d.Struct x vars fields) = AllByRecursion (λ f. IsValue f.ty) fields × IsDistinct bytes_eq (names_of fields)
ValuesIn (d.Fun x vars params result body) = AllByRecursion (λ p. IsValue p.ty) params × IsDistinct bytes_eq (names_of params)
ValuesIn _ = Unit {0}

values_in : (defs before : List Def) (def : Def) → WellTyped defs before def → ValuesIn def
values_in defs before def (WellTyped.struct {vars = vars} {fields = fields} new vs fs ok) = (each_so (λ f. IsType before vars f.ty × IsValue f.ty) (λ f. IsValue f.ty) fields (λ f k. k.1) ok, fs)
values_in defs before def (WellTyped.fun {vars = vars} {params = params} new vs ps ok r res b) = (each_so (λ p. IsType defs vars p.ty × IsValue p.ty) (λ p. IsValue p.ty) params (λ p k. k.1) ok, ps)
values_in defs before def (WellTyped.sum new cs vs ok) = tt
values_in defs before def (WellTyped.table new ok) = tt
values_in defs before def (WellTyped.entry new is none outside answer) = tt

module _ (defs : List Def) (typed : AreWellTyped defs) (built : AreBuilt defs) where
  pub struct_built : (x : List ℕ) (vars : List (List ℕ)) (fields : List Field) → type_named defs x ≡ Some (Struct vars fields) → StructBuilt vars fields
  struct_built x vars fields e =
      let b = def_within false (d.Struct x vars fields) (at_struct (λ def. is_built def ≡ true) defs x vars fields built e) in
      let v = at_struct ValuesIn defs x vars fields (each_def defs typed ValuesIn (values_in defs)) e in
      record { none = b.none; types = fields_built fields b.pieces; values = v.0; distinct = v.1 }

  pub function_built : (x : List ℕ) (f : Signature) (fun : src.Function) → fun_named defs x ≡ Some f → src.function_named defs x ≡ Some fun → FunctionBuilt f fun.body
  function_built x f fun e q =
      let b = at_function (λ def. is_built def ≡ true) defs x f fun built e q in
      let k = fun_built x f.vars f.params f.result fun.body (def_within false (d.Fun x f.vars f.params f.result fun.body) b) in
      let v = at_function ValuesIn defs x f fun (each_def defs typed ValuesIn (values_in defs)) e q in
      record { none = k.none; types = k.types; values = v.0; distinct = v.1; result = k.result; body = k.body }

  pub table_built : (x : List ℕ) (i : IntTy) → table_named defs x ≡ Some i → is_public i ≡ true
  table_built x i e =
      let k = at_table (λ def. is_built def ≡ true) defs x i built e in
      is_public_built i (def_within false (d.Table x i k.0) k.1).pieces.0
