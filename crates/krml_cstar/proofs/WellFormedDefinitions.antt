-- What the names of a bundled file that is built mean in its program.
use Rattle.std.proofs.Common.{◌≡◌, ℕ, ◌<◌, ◌^◌, true, false, List, [], ◌∷◌, ◌++◌, map, flat_map, codes, Contains, Some, None, refl, sym, ap, ◌∙◌, subst, inl, inr, append_assoc}
use Rattle.std.specs.Fmt.{decimal}
use Rattle.std.specs.List.{AllByRecursion}
use Rattle.krml_trace.specs.Width.{bits}
use Rattle.krml_trace.proofs.Lists.{contains_first, contains_flat}
use Rattle.krml_syntax.specs.declared.tree.IntTy.{IntTy}
use Rattle.krml_syntax.specs.declared.tree.Ty.{Ty}
use Rattle.krml_syntax.specs.declared.tree.Ty.TheVariants as t
use Rattle.krml_syntax.specs.declared.tree.Field.{Field}
use Rattle.krml_syntax.specs.declared.tree.Expr.{Expr}
use Rattle.krml_syntax.specs.declared.tree.Def.{Def}
use Rattle.krml_syntax.specs.declared.tree.Def.TheVariants as d
use Rattle.krml_ast.specs.Names.{Composite, Struct, Sum, Signature, type_named, table_named, fun_named}
use Rattle.krml_syntax.specs.Types.{erased}
use Rattle.krml_ast.specs.IsType.{IsValue, IsType}
use Rattle.krml_ast.specs.Typing.{HasType}
use Rattle.krml_ast.specs.WellTyped.{WellTyped, AreWellTyped, type_name, table_name, fun_name}
use Rattle.krml_ast.specs.FileTypes.{IsPlainName, IsEmitted, HasSize, field_names}
use Rattle.krml_ast.specs.Pieces.{pieces_of_def}
use Rattle.krml_ast.proofs.Named.{struct_stands, sum_stands, table_stands, fun_stands}
use Rattle.krml_ctree.specs.declared.tree.CStruct.{CStruct}
use Rattle.krml_ctree.specs.declared.tree.CTable.{CTable}
use Rattle.krml_ctree.specs.declared.tree.CFun.{CFun}
use Rattle.krml_ctree.specs.declared.tree.CProgram.{CProgram}
use Rattle.krml_ctree.specs.Shape.{IsPlain, TypeKeeps, IsStruct, IsTable, IsFunction, IsField}
use Rattle.krml_ctree.specs.WellFormed.{IsKnown}
use Rattle.krml_meaning.proofs.Lists.{each_get, each_so, each_append, each_left, each_right}
use Rattle.krml_syntax.proofs.Types.{at_none}
use Rattle.krml_meaning.proofs.Files.{facts}
use Rattle.krml_cstar.specs.Built.{is_ty_built}
use Rattle.krml_cstar.specs.Types.{ctype}
use Rattle.krml_cstar.specs.Translation.{fun_code, structs_of, tables_of, funs_of}
use Rattle.krml_cstar.proofs.Part.{FieldsBuilt, DefWithin, FunBuilt, fields_built, fun_built}
use Rattle.krml_cstar.proofs.Lookups.{fields_of}
use Rattle.krml_cstar.proofs.WellFormedNames.{decimal_is}
use Rattle.krml_cstar.proofs.WellFormedCode.{TypeFits}
use Rattle.krml_cstar.proofs.WellFormedNumbers.{width_fits}
use Rattle.krml_cstar.proofs.WellFormedForms.{bool_fits, unit_fits}
use Rattle.krml_cstar.proofs.WellFormedParts.{BindVariables}
use Rattle.krml_cstar.proofs.WellFormedPlaces.{PartFits, FieldFits, HasStruct, HasFunction, Holds}
use Rattle.krml_cstar.proofs.TypesInC.{ctype_int, ctype_named}

-- ---- lists

pub each_both : {A : Type 0} (P Q : A → Type 0) (xs : List A) → AllByRecursion P xs → AllByRecursion Q xs → AllByRecursion (λ x. P x × Q x) xs
each_both P Q [] h k = tt
each_both P Q (x ∷ xs) h k = ((h.0, k.0), each_both P Q xs h.1 k.1)

module _ {A B : Type 0} (P : B → Type 0) (f : A → List B) where
  -- what holds of each element of many lists holds of those of each
  pub each_apart : (xs : List A) → AllByRecursion P (flat_map f xs) → AllByRecursion (λ x. AllByRecursion P (f x)) xs
  each_apart [] h = tt
  each_apart (x ∷ xs) h = (each_left P (f x) (flat_map f xs) h, each_apart xs (each_right P (f x) (flat_map f xs) h))

  -- and the other way round
  pub each_joined : (xs : List A) → AllByRecursion (λ x. AllByRecursion P (f x)) xs → AllByRecursion P (flat_map f xs)
  each_joined [] h = tt
  each_joined (x ∷ xs) h = each_append P (f x) (flat_map f xs) h.0 (each_joined xs h.1)

-- ---- names in C

-- a letter, a number, and a name behind them
numbered_name : (b : ℕ) (k name : List ℕ) → b ∷ (k ++ codes "_" ++ name) ≡ b ∷ (k ++ (codes "_" ++ name))
numbered_name b k name = ap (λ z. b ∷ z) (append_assoc k (codes "_") name)

pub struct_name : (x : List ℕ) → IsEmitted (codes "s") (codes "s") x → IsStruct x
struct_name x (inl h) = subst IsStruct (sym h.is) (IsStruct.plain h.name h.named)
struct_name x (inr h) = subst IsStruct (sym (h.is ∙ numbered_name 115 (decimal h.k) h.name)) (IsStruct.instance_of (decimal h.k) h.name (decimal_is h.k h.small) h.named)

pub function_name : (x : List ℕ) → IsEmitted (codes "f") (codes "g") x → IsFunction x
function_name x (inl h) = subst IsFunction (sym h.is) (IsFunction.plain h.name h.named)
function_name x (inr h) = subst IsFunction (sym (h.is ∙ numbered_name 103 (decimal h.k) h.name)) (IsFunction.instance_of (decimal h.k) h.name (decimal_is h.k h.small) h.named)

pub table_name_is : (x : List ℕ) → IsPlainName (codes "t") x → IsTable x
table_name_is x h = subst IsTable (sym h.is) (IsTable.plain h.name h.named)

pub field_name : (x : List ℕ) → IsPlainName (codes "m") x → IsField x
field_name x h = subst IsField (sym h.is) (IsField.plain h.name h.named)

-- ---- what is said of each definition

-- the parts of a well typed definition
pub record FunTyped (defs : List Def) (vars : List (List ℕ)) (params : List Field) (result : Ty) (body : Expr) : Type 0 where
  pub each : AllByRecursion (λ q. IsType defs vars q.ty × IsValue q.ty) params
  pub gives : IsType defs vars result
  pub typed : HasType defs vars (record { vars = map (λ q. (q.name, erased q.ty)) params; frame = None }) body (erased result)

abbrev pub DefTyped : List Def → Def → Type 0
DefTyped defs (d.Struct x vars fields) = AllByRecursion (λ f. IsValue f.ty) fields
DefTyped defs (d.Table x i nums) = AllByRecursion (λ n. n < 2 ^ bits i.width) nums
DefTyped defs (d.Fun x vars params result body) = FunTyped defs vars params result body
DefTyped defs _ = Unit {0}

pub def_typed : (defs before : List Def) (def : Def) → WellTyped defs before def → DefTyped defs def
def_typed defs before def (WellTyped.struct {vars = vars} {fields = fields} new vs ps ok) = each_so (λ f. IsType before vars f.ty × IsValue f.ty) (λ f. IsValue f.ty) fields (λ f k. k.1) ok
def_typed defs before def (WellTyped.sum new cs vs ok) = tt
def_typed defs before def (WellTyped.table new ok) = ok
def_typed defs before def (WellTyped.fun new vs ps ok r res b) = record { each = ok; gives = r; typed = b }
def_typed defs before def (WellTyped.entry new is none ps ans) = tt

-- A definition is built, typed, and named as C has it.
pub record DefFits (defs : List Def) (def : Def) : Type 0 where
  pub built : DefWithin false def
  pub typed : DefTyped defs def
  pub size : HasSize def
  pub types : AllByRecursion IsStruct (type_name def)
  pub tables : AllByRecursion IsTable (table_name def)
  pub funs : AllByRecursion IsFunction (fun_name def)
  pub fields : AllByRecursion IsField (field_names def)
  pub binds : BindVariables (pieces_of_def def)

-- ---- types

-- a name that means a type among built definitions means a struct, which is among the program's
record StructThere (structs : List CStruct) (x : List ℕ) (c : Composite) : Type 0 where
  fields : List Field
  is : c ≡ Struct [] fields
  there : Contains structs (record { name = x; fields = fields_of fields })
  shape : IsStruct x

struct_there : (defs ds : List Def) (x : List ℕ) (c : Composite) → AllByRecursion (DefFits defs) ds → type_named ds x ≡ Some c → StructThere (flat_map structs_of ds) x c
struct_there defs ds x (Struct vars fields) h e =
    let s = struct_stands ds x vars fields e in
    let fits = each_get (DefFits defs) ds s.0 (d.Struct x vars fields) h s.1 in
    record {
      fields = fields;
      is = ap (λ vs. Struct vs fields) fits.built.none;
      there = contains_flat structs_of ds s.0 (d.Struct x vars fields) (record { name = x; fields = fields_of fields }) s.1 (contains_first _ []);
      shape = fits.types.0;
    }
struct_there defs ds x (Sum vars cons) h e = let s = sum_stands ds x vars cons e in let b = (each_get (DefFits defs) ds s.0 (d.Sum x vars cons) h s.1).built.no_sum in absurd (cc)

-- structs are among others
abbrev pub Among : List CStruct → List CStruct → Type 0
Among structs others = (s : CStruct) → Contains structs s → Contains others s

module _ (defs : List Def) where
  -- a type that is well formed among built definitions is known in C
  pub type_there : (p : CProgram) (ds : List Def) → AllByRecursion (DefFits defs) ds → Among (flat_map structs_of ds) p.structs → (a : Ty) → IsType ds [] a → is_ty_built a ≡ true → TypeFits p (ctype a)
  type_there p ds h among a IsType.bool built = bool_fits p
  type_there p ds h among a IsType.unit built = unit_fits p
  type_there p ds h among a (IsType.int i) built = subst (TypeFits p) (sym (ctype_int i)) (width_fits p i.width)
  type_there p ds h among a (IsType.buf b ok flat) built = let is : is_ty_built (t.Buf b) ≡ false = rw t.outs-Buf refl in absurd (cc)
  type_there p ds h among a (IsType.var {x = x} k) built = let is : is_ty_built (t.Var x) ≡ false = rw t.outs-Var refl in absurd (cc)
  type_there p ds h among a (IsType.named {x = x} {c = c} {args = args} is n oks) built =
      let s = struct_there defs ds x c h is in
      subst (TypeFits p) (sym (ctype_named x args))
      (record { keeps = TypeKeeps.plain (IsPlain.struct s.shape); known = IsKnown.struct (record { name = x; fields = fields_of s.fields }) (among _ s.there) })

  -- fields or parameters of types that are known
  pub parts_there : (p : CProgram) (fields : List Field) → ((a : Ty) → IsType defs [] a → is_ty_built a ≡ true → TypeFits p (ctype a))
      → AllByRecursion (λ f. IsType defs [] f.ty × IsValue f.ty) fields → FieldsBuilt fields → AllByRecursion (λ f. PartFits p f.ty) fields
  parts_there p [] fits h built = tt
  parts_there p (f ∷ fields) fits h built =
      (record { fits = fits f.ty h.0.0 built.0; value = h.0.1; closed = λ args. ap erased (at_none args f.ty) }, parts_there p fields fits h.1 built.1)

  -- ---- look-ups

  fields_named : (p : CProgram) (fields : List Field) → AllByRecursion (λ f. PartFits p f.ty) fields → AllByRecursion IsField (map (λ f. f.name) fields) → AllByRecursion (FieldFits p) fields
  fields_named p [] h k = tt
  fields_named p (f ∷ fields) h k = (record { part = h.0; shape = k.0 }, fields_named p fields h.1 k.1)

  -- the definition of a struct
  record StructDef (x : List ℕ) (vars : List (List ℕ)) (fields : List Field) : Type 0 where
    values : AllByRecursion (λ f. IsValue f.ty) fields
    built : FieldsBuilt fields
    shapes : AllByRecursion IsField (map (λ f. f.name) fields)

  struct_def : (ds : List Def) (x : List ℕ) (vars : List (List ℕ)) (fields : List Field) → AllByRecursion (DefFits defs) ds → type_named ds x ≡ Some (Struct vars fields) → StructDef x vars fields
  struct_def ds x vars fields h e =
      let s = struct_stands ds x vars fields e in
      let fits = each_get (DefFits defs) ds s.0 (d.Struct x vars fields) h s.1 in
      record { values = fits.typed; built = fields_built fields fits.built.pieces; shapes = fits.fields }

  -- the definition of a table
  record TableThere (tables : List CTable) (x : List ℕ) (i : IntTy) : Type 0 where
    table : CTable
    there : Contains tables table
    name : table.name ≡ x
    width : table.width ≡ i.width
    shape : IsTable x

  table_there : (ds : List Def) (x : List ℕ) (i : IntTy) → AllByRecursion (DefFits defs) ds → table_named ds x ≡ Some i → TableThere (flat_map tables_of ds) x i
  table_there ds x i h e =
      let s = table_stands ds x i e in
      let fits = each_get (DefFits defs) ds s.1.0 (d.Table x i s.0) h s.1.1 in
      let table : CTable = record { name = x; width = i.width; nums = s.0 } in
      record { table = table; there = contains_flat tables_of ds s.1.0 (d.Table x i s.0) table s.1.1 (contains_first table []); name = refl; width = refl; shape = fits.tables.0 }

  -- the definition of a function
  record FunThere (funs : List CFun) (x : List ℕ) (f : Signature) : Type 0 where
    body : Expr
    there : Contains funs (fun_code defs x f.params f.result body)
    typed : FunTyped defs f.vars f.params f.result body
    built : FunBuilt f.vars f.params f.result body
    shape : IsFunction x

  fun_there : (ds : List Def) (x : List ℕ) (f : Signature) → AllByRecursion (DefFits defs) ds → fun_named ds x ≡ Some f → FunThere (flat_map (funs_of defs) ds) x f
  fun_there ds x f h e =
      let s = fun_stands ds x f e in
      let def : Def = d.Fun x f.vars f.params f.result s.0 in
      let fits = each_get (DefFits defs) ds s.1.0 def h s.1.1 in
      record {
        body = s.0;
        there = contains_flat (funs_of defs) ds s.1.0 def (fun_code defs x f.params f.result s.0) s.1.1 (contains_first _ []);
        typed = fits.typed;
        built = fun_built x f.vars f.params f.result s.0 fits.built;
        shape = fits.funs.0;
      }

  module _ (p : CProgram) (typed : AreWellTyped defs) (each : AllByRecursion (DefFits defs) defs)
      (structs : Among (flat_map structs_of defs) p.structs)
      (tables : (x : CTable) → Contains (flat_map tables_of defs) x → Contains p.tables x)
      (funs : (x : CFun) → Contains (flat_map (funs_of defs) defs) x → Contains p.funs x) where
    pub fits : (a : Ty) → IsType defs [] a → is_ty_built a ≡ true → TypeFits p (ctype a)
    fits a ok built = type_there p defs each structs a ok built

    struct_holds : (x : List ℕ) (vars : List (List ℕ)) (fields : List Field) → type_named defs x ≡ Some (Struct vars fields) → HasStruct p x vars fields
    struct_holds x vars fields is =
        let s = struct_there defs defs x (Struct vars fields) each is in
        let none : vars ≡ [] = cc_vars s.fields s.is in
        let same : s.fields ≡ fields = cc_fields s.fields s.is in
        let k = struct_def defs x vars fields each is in
        let types : AllByRecursion (λ f. IsType defs [] f.ty) fields = subst (λ vs. AllByRecursion (λ f. IsType defs vs f.ty) fields) none ((facts defs typed).fields x vars fields is) in
        record {
          there = structs _ (subst (λ z. Contains (flat_map structs_of defs) (record { name = x; fields = fields_of z })) same s.there);
          shape = s.shape;
          none = none;
          each = fields_named p fields (parts_there p fields fits (each_both (λ f. IsType defs [] f.ty) (λ f. IsValue f.ty) fields types k.values) k.built) k.shapes;
        }
      where
        cc_vars : (fs : List Field) → Struct vars fields ≡ Struct [] fs → vars ≡ []
        cc_vars fs e = cc

        cc_fields : (fs : List Field) → Struct vars fields ≡ Struct [] fs → fs ≡ fields
        cc_fields fs e = cc

    function_holds : (x : List ℕ) (f : Signature) → fun_named defs x ≡ Some f → HasFunction p x f
    function_holds x f is =
        let g = fun_there defs x f each is in
        let none = g.built.none in
        let params : AllByRecursion (λ q. IsType defs [] q.ty × IsValue q.ty) f.params = subst (λ vs. AllByRecursion (λ q. IsType defs vs q.ty × IsValue q.ty) f.params) none g.typed.each in
        let result : IsType defs [] f.result = subst (λ vs. IsType defs vs f.result) none g.typed.gives in
        record {
          fun = fun_code defs x f.params f.result g.body;
          there = funs _ g.there;
          name = refl;
          params = refl;
          result = refl;
          shape = g.shape;
          none = none;
          each = parts_there p f.params fits params g.built.types;
          gives = fits f.result result g.built.result;
          closed = λ args. ap erased (at_none args f.result);
        }

    -- what the names of the file mean stands in the program
    pub holds : Holds p defs
    holds = record {
      type_fits = fits;
      struct = struct_holds;
      table = λ x i is.
          let k = table_there defs x i each is in
          record { table = k.table; there = tables k.table k.there; name = k.name; width = k.width; shape = k.shape };
      function = function_holds;
    }
