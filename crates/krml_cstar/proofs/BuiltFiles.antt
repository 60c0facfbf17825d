-- A file whose definitions are built has the form of a file without type variables, and no match; without buffers, ordinary forms.
use Rattle.std.proofs.Common.{◌≡◌, ℕ, ◌≤◌, Bool, true, false, List, [], ◌∷◌, map, flat_map, Option, Some, None, inl, refl, sym, subst, arith}
use Rattle.std.specs.List.{AllByRecursion}
use Rattle.krml_forms.specs.declared.form.Form.{Form as Word}
use Rattle.krml_syntax.specs.declared.limit.LimitKind.{LimitKind}
use Rattle.krml_syntax.specs.declared.limit.LimitKind.TheVariants as k
use Rattle.krml_syntax.specs.declared.tree.Ty.{Ty, out-Ty}
use Rattle.krml_syntax.specs.declared.tree.Ty.TheOpen.{Ty-F}
use Rattle.krml_syntax.specs.declared.tree.Field.{Field}
use Rattle.krml_syntax.specs.declared.tree.Expr.{Expr, out-Expr}
use Rattle.krml_syntax.specs.declared.tree.Def.{Def}
use Rattle.krml_syntax.specs.declared.tree.SourceFile.{SourceFile}
use Rattle.krml_syntax.specs.Name.{IsName}
use Rattle.krml_syntax.specs.Spelling.{Each, SpellsField, SpellsDef}
use Rattle.krml_syntax.specs.Limits.{counts_in, counts_each, excess, excess_or, first_excess, first_excess_of}
use Rattle.krml_syntax.specs.File.{SpellsFile}
use Rattle.krml_syntax.specs.Shape.{Role}
use Rattle.krml_syntax.proofs.Limits.{none_above}
use Rattle.krml_ast.specs.WellTyped.{type_name, con_names, table_name, fun_name}
use Rattle.krml_ast.specs.Pieces.{Piece, Value, Test, Pattern, Written, Bound, pieces_in}
use Rattle.krml_ast.specs.FileTypes.{RoleIn, EachRole, role_of, IsClosedTy, HasSize, IsSlot, HasSlots, SlotsIn, HasNoSlots, ClosedIn, HasNoMatch, IsSourceName, IsTypedFile, IsChecked, IsMono, field_names, bound_name, listed_vars}
use Rattle.krml_meaning.specs.Sound.{CanRun}
use Rattle.krml_meaning.proofs.Lists.{each_append, each_left, each_right, each_so}
use Rattle.krml_meaning.proofs.Spelled.{IsSource, all_source, no_cases, no_slots}
use Rattle.krml_cstar.specs.Built.{level_ty_within, is_form_within, is_within, AreBuilt, AreWithin}
use Rattle.krml_cstar.specs.Theorem.{IsOrdinary}
use Rattle.krml_cstar.proofs.Part.{nothing_listed, PieceWithin, def_within, pieces_within}
use Rattle.krml_cstar.proofs.BuiltForms.{ordinary_built, arguments_within, no_match_within}

-- ---- what follows for each piece of what is built

module _ (buffers : Bool) where
  -- what holds of each form that is within the part
  role_so : (P : Role → Type 0) → ((x : Expr) → is_form_within buffers (out-Expr x) ≡ true → P (role_of x)) → (x : Piece)
      → PieceWithin buffers x → RoleIn P x
  role_so P so (Value x) h = so x h
  role_so P so (Test x) h = absurd (cc)
  role_so P so (Pattern q) h = tt
  role_so P so (Written a) h = tt
  role_so P so (Bound x) h = tt

  each_role : (defs : List Def) → AreWithin buffers defs → (P : Role → Type 0)
      → ((x : Expr) → is_form_within buffers (out-Expr x) ≡ true → P (role_of x)) → EachRole P defs
  each_role defs h P so = each_so (PieceWithin buffers) (RoleIn P) (pieces_in defs) (role_so P so) (pieces_within buffers defs h)

  closed_ty : (o : Ty-F Ty) → level_ty_within buffers o ≡ true → IsClosedTy o
  closed_ty (Ty-F.Named x args) h = nothing_listed args h
  closed_ty (Ty-F.Var x) h = absurd (cc)
  closed_ty _ h = tt

  closed : (x : Piece) → PieceWithin buffers x → ClosedIn x
  closed (Value x) h = arguments_within buffers (out-Expr x) h
  closed (Test x) h = absurd (cc)
  closed (Pattern q) h = absurd (cc)
  closed (Written a) h = closed_ty (out-Ty a) h
  closed (Bound x) h = tt

pub built_can_run : (defs : List Def) → AreBuilt defs → EachRole (CanRun defs) defs
built_can_run defs built = each_role false defs built (CanRun defs) (λ x h. subst (CanRun defs) (sym (ordinary_built (out-Expr x) h)) tt)

-- ---- what no text spells

-- frames without slots have no wrong ones
no_wrong_slots : (defs : List Def) (r : Role) → HasNoSlots r → HasSlots defs r
no_wrong_slots defs (Role.frame slots) h = subst (AllByRecursion (IsSlot defs)) (sym h) tt
no_wrong_slots defs _ h = tt

slots_in : (defs : List Def) (x : Piece) → RoleIn HasNoSlots x → SlotsIn defs x
slots_in defs (Value x) h = no_wrong_slots defs (role_of x) h
slots_in defs (Test x) h = tt
slots_in defs (Pattern q) h = tt
slots_in defs (Written a) h = tt
slots_in defs (Bound x) h = tt

-- the variables that a text binds are names
bound_named : (pieces : List Piece) → AllByRecursion IsSource pieces → AllByRecursion IsName (flat_map bound_name pieces)
bound_named [] h = tt
bound_named (Value x ∷ pieces) h = bound_named pieces h.1
bound_named (Test x ∷ pieces) h = absurd h.0
bound_named (Pattern q ∷ pieces) h = bound_named pieces h.1
bound_named (Written a ∷ pieces) h = bound_named pieces h.1
bound_named (Bound x ∷ pieces) h = (h.0, bound_named pieces h.1)

-- ---- sizes

no_excess : (kind : LimitKind) (later : Option (LimitKind × ℕ)) (o : Option ℕ) → excess_or kind later o ≡ None → (o ≡ None) × (later ≡ None)
no_excess kind later None h = (refl, h)
no_excess kind later (Some n) h = absurd (cc)

elements_within : (fs : List Word) (defs : List Def) → first_excess fs defs ≡ None → AllByRecursion (λ n. n ≤ 65536) (counts_each k.Elements fs defs)
elements_within fs defs h =
    let a = no_excess k.Definitions (first_excess_of (k.Name ∷ k.Forms ∷ k.Variables ∷ k.Parameters ∷ k.Fields ∷ k.Constructors ∷ k.Elements ∷ []) fs defs) (excess k.Definitions fs defs) h in
    let b = no_excess k.Name (first_excess_of (k.Forms ∷ k.Variables ∷ k.Parameters ∷ k.Fields ∷ k.Constructors ∷ k.Elements ∷ []) fs defs) (excess k.Name fs defs) a.1 in
    let c = no_excess k.Forms (first_excess_of (k.Variables ∷ k.Parameters ∷ k.Fields ∷ k.Constructors ∷ k.Elements ∷ []) fs defs) (excess k.Forms fs defs) b.1 in
    let d' = no_excess k.Variables (first_excess_of (k.Parameters ∷ k.Fields ∷ k.Constructors ∷ k.Elements ∷ []) fs defs) (excess k.Variables fs defs) c.1 in
    let e' = no_excess k.Parameters (first_excess_of (k.Fields ∷ k.Constructors ∷ k.Elements ∷ []) fs defs) (excess k.Parameters fs defs) d'.1 in
    let f = no_excess k.Fields (first_excess_of (k.Constructors ∷ k.Elements ∷ []) fs defs) (excess k.Fields fs defs) e'.1 in
    let g = no_excess k.Constructors (first_excess_of (k.Elements ∷ []) fs defs) (excess k.Constructors fs defs) f.1 in
    none_above 65536 (counts_each k.Elements fs defs) (no_excess k.Elements None (excess k.Elements fs defs) g.1).0

abbrev Named : (Def → List (List ℕ)) → List Def → Type 0
Named names defs = AllByRecursion IsName (flat_map names defs)

fields_named : (fs : List Word) (fields : List Field) → Each SpellsField fs fields → AllByRecursion IsName (map (λ (z : Field). z.name) fields)
fields_named fs fields Each.none = tt
fields_named fs fields (Each.one {xs = gs} {ys = more} (SpellsField.field ok st) ss) = (ok, fields_named gs more ss)

module _ (buffers : Bool) where
  size_of : (f : Word) (def : Def) → SpellsDef f def → is_within buffers def ≡ true → AllByRecursion (λ n. n ≤ 65536) (counts_in k.Elements f def) → HasSize def
  size_of f def (SpellsDef.struct ok vs sa ss) h c = omega arith
  size_of f def (SpellsDef.sum ok vs sa ss) h c = absurd (cc)
  size_of f def (SpellsDef.table ok sn ss) h c = (omega arith, c.0)
  size_of f def (SpellsDef.fun ok vs sp sr sb) h c = tt
  size_of f def (SpellsDef.entry ok) h c = tt

  sizes_of : (fs : List Word) (defs : List Def) → Each SpellsDef fs defs → AreWithin buffers defs → AllByRecursion (λ n. n ≤ 65536) (counts_each k.Elements fs defs) → AllByRecursion HasSize defs
  sizes_of fs defs Each.none h c = tt
  sizes_of fs defs (Each.one {x = f} {y = def} {xs = gs} {ys = more} sx ss) h c = (
    size_of f def sx h.0 (each_left (λ n. n ≤ 65536) (counts_in k.Elements f def) (counts_each k.Elements gs more) c),
    sizes_of gs more ss h.1 (each_right (λ n. n ≤ 65536) (counts_in k.Elements f def) (counts_each k.Elements gs more) c),
  )

  -- ---- names

  named_all : (names : Def → List (List ℕ)) → ((f : Word) (def : Def) → SpellsDef f def → is_within buffers def ≡ true → AllByRecursion IsName (names def))
      → (fs : List Word) (defs : List Def) → Each SpellsDef fs defs → AreWithin buffers defs → Named names defs
  named_all names each fs defs Each.none h = tt
  named_all names each fs defs (Each.one {x = f} {y = def} {xs = gs} {ys = more} sx ss) h =
      each_append IsName (names def) (flat_map names more) (each f def sx h.0) (named_all names each gs more ss h.1)

  type_named : (f : Word) (def : Def) → SpellsDef f def → is_within buffers def ≡ true → AllByRecursion IsName (type_name def)
  type_named f def (SpellsDef.struct ok vs sa ss) h = (ok, tt)
  type_named f def (SpellsDef.sum ok vs sa ss) h = (ok, tt)
  type_named f def (SpellsDef.table ok sn ss) h = tt
  type_named f def (SpellsDef.fun ok vs sp sr sb) h = tt
  type_named f def (SpellsDef.entry ok) h = tt

  con_named : (f : Word) (def : Def) → SpellsDef f def → is_within buffers def ≡ true → AllByRecursion IsName (con_names def)
  con_named f def (SpellsDef.struct ok vs sa ss) h = tt
  con_named f def (SpellsDef.sum ok vs sa ss) h = absurd (cc)
  con_named f def (SpellsDef.table ok sn ss) h = tt
  con_named f def (SpellsDef.fun ok vs sp sr sb) h = tt
  con_named f def (SpellsDef.entry ok) h = tt

  table_named : (f : Word) (def : Def) → SpellsDef f def → is_within buffers def ≡ true → AllByRecursion IsName (table_name def)
  table_named f def (SpellsDef.struct ok vs sa ss) h = tt
  table_named f def (SpellsDef.sum ok vs sa ss) h = tt
  table_named f def (SpellsDef.table ok sn ss) h = (ok, tt)
  table_named f def (SpellsDef.fun ok vs sp sr sb) h = tt
  table_named f def (SpellsDef.entry ok) h = tt

  fun_named : (f : Word) (def : Def) → SpellsDef f def → is_within buffers def ≡ true → AllByRecursion IsName (fun_name def)
  fun_named f def (SpellsDef.struct ok vs sa ss) h = tt
  fun_named f def (SpellsDef.sum ok vs sa ss) h = tt
  fun_named f def (SpellsDef.table ok sn ss) h = tt
  fun_named f def (SpellsDef.fun ok vs sp sr sb) h = (ok, tt)
  fun_named f def (SpellsDef.entry ok) h = tt

  field_named : (f : Word) (def : Def) → SpellsDef f def → is_within buffers def ≡ true → AllByRecursion IsName (field_names def)
  field_named f def (SpellsDef.struct {f = g} {fs = fs} {a = a} {bs = more} ok vs (SpellsField.field x st) ss) h = (x, fields_named fs more ss)
  field_named f def (SpellsDef.sum ok vs sa ss) h = tt
  field_named f def (SpellsDef.table ok sn ss) h = tt
  field_named f def (SpellsDef.fun ok vs sp sr sb) h = tt
  field_named f def (SpellsDef.entry ok) h = tt

  no_vars : (defs : List Def) → AreWithin buffers defs → flat_map listed_vars defs ≡ []
  no_vars [] h = refl
  no_vars (def ∷ defs) h = rw (def_within buffers def h.0).none (no_vars defs h.1)

  -- ---- the files

  pub is_mono : (file : SourceFile) → IsChecked file → AreWithin buffers file.defs → IsMono file
  is_mono file c within =
      let defs = file.defs in
      let text = c.typed_file.spelled.text in
      let s : SpellsFile text file = c.typed_file.spelled.spells in
      let names : (f : Def → List (List ℕ)) → ((w : Word) (def : Def) → SpellsDef w def → is_within buffers def ≡ true → AllByRecursion IsName (f def)) → Named f defs = λ f each. named_all f each s.forms defs s.spelled within in
      let source : (xs : List (List ℕ)) → AllByRecursion IsName xs → AllByRecursion IsSourceName xs = λ xs h. each_so IsName IsSourceName xs (λ x ok. inl ok) h in
      record {
        regular = record {
          typed = c.typed_file.typed;
          sizes = sizes_of s.forms defs s.spelled within (elements_within s.forms defs s.limits);
          slots = each_so (RoleIn HasNoSlots) (SlotsIn defs) (pieces_in defs) (slots_in defs) (no_slots text file s);
        };
        named = record {
          types = source (flat_map type_name defs) (names type_name type_named);
          cons = source (flat_map con_names defs) (names con_names con_named);
          tables = names table_name table_named;
          funs = source (flat_map fun_name defs) (names fun_name fun_named);
          fields = names field_names field_named;
          vars = bound_named (pieces_in defs) (all_source text file s);
        };
        monomorphic = record { vars = no_vars defs within; pieces = each_so (PieceWithin buffers) ClosedIn (pieces_in defs) (closed buffers) (pieces_within buffers defs within) };
        cases = no_cases text file s;
        slots = no_slots text file s;
      }

  pub is_without_match : (file : SourceFile) → AreWithin buffers file.defs → EachRole HasNoMatch file.defs
  is_without_match file within = each_role buffers file.defs within HasNoMatch (λ x h. no_match_within buffers (out-Expr x) h)

-- there is no rule beyond types yet
pub is_checked : (file : SourceFile) → IsTypedFile file → IsChecked file
is_checked file t = record { typed_file = t }

-- each of its forms is one that every pass leaves
pub is_ordinary : (file : SourceFile) → AreBuilt file.defs → EachRole IsOrdinary file.defs
is_ordinary file built = each_role false file.defs built IsOrdinary (λ x h. ordinary_built (out-Expr x) h)
