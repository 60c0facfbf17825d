-- What is well typed is well typed under the new names.
use Rattle.std.proofs.Common.{◌≡◌, List, [], ◌∷◌, map, take, Option, Some, None, option_map, slice_get, bytes_eq, sym, ap, ◌∙◌, subst, refl}
use Rattle.std.specs.List.{AllByRecursion, IsDistinct}
use Rattle.std.proofs.lemmas.List.{take-map}
use Rattle.std.proofs.lemmas.Option.{slice_get-map}
use Rattle.krml_syntax.specs.declared.tree.Ty.{Ty}
use Rattle.krml_syntax.specs.declared.tree.Ty.TheVariants as t
use Rattle.krml_syntax.specs.declared.tree.Field.{Field}
use Rattle.krml_syntax.specs.declared.tree.Def.{Def}
use Rattle.krml_syntax.specs.declared.tree.Def.TheVariants as d
use Rattle.krml_syntax.specs.Types.{erased}
use Rattle.krml_ast.specs.IsType.{IsValue, IsFlat, IsType}
use Rattle.krml_ast.specs.Typing.{Vars, HasType}
use Rattle.krml_ast.specs.WellTyped.{type_name, con_names, table_name, fun_name, entry_name, names_of, IsOutside, IsAnswer, WellTyped, AreWellTyped}
use Rattle.krml_passing.proofs.RenamedTypes.{erased_under, value_kept, flat_kept, type_kept}
use Rattle.krml_passing.proofs.RenamedNames.{each_map, type_name_under, con_names_under, table_name_under, fun_name_under, entry_name_under, params_under, distinct_names_kept, new_kept}
use Rattle.krml_passing.proofs.RenamedTyping.{signature_under, fun_named_under, typed_under, result_kept, typing_kept}
use Rattle.krml_passing.specs.Naming.{field_under, param_under, con_under, expr_under, def_renamed, Naming, TellsNamesApart}
use Rattle.krml_passing.proofs.Lookups.{bool_under, unit_under, int_under, buf_under, names_under}

module _ (nm : Naming) (apart : TellsNamesApart nm) where
  -- ---- entries

  outside_kept : (a : Ty) → IsOutside a → IsOutside (nm.ty a)
  outside_kept a IsOutside.bool = rw (bool_under nm apart) IsOutside.bool
  outside_kept a (IsOutside.int i) = rw (int_under nm apart i) (IsOutside.int i)
  outside_kept a (IsOutside.buf i) = rw (buf_under nm apart (t.Int i), (int_under nm apart) i) (IsOutside.buf i)

  answer_kept : (a : Ty) → IsAnswer a → IsAnswer (nm.ty a)
  answer_kept a IsAnswer.unit = rw (unit_under nm apart) IsAnswer.unit
  answer_kept a IsAnswer.bool = rw (bool_under nm apart) IsAnswer.bool
  answer_kept a (IsAnswer.int i) = rw (int_under nm apart i) (IsAnswer.int i)

  -- ---- functions

  -- the variables of a body
  abbrev params_in : List Field → Vars
  params_in params = map (λ p. (p.name, erased p.ty)) params

  params_typed : (params : List Field) → typed_under nm apart (params_in params) ≡ params_in (map (param_under nm) params)
  params_typed [] = refl
  params_typed (p ∷ params) = rw (erased_under nm apart p.ty, params_typed params) refl

  -- ---- definitions

  module _ (defs before : List Def) where
    abbrev defs' : List Def
    defs' = map (def_renamed nm) defs

    abbrev before' : List Def
    before' = map (def_renamed nm) before

    pub def_kept : (def : Def) → WellTyped defs before def → WellTyped defs' before' (def_renamed nm def)
    def_kept def (WellTyped.struct {x = x} {vars = vars} {fields = fields} new distinct names each) = WellTyped.struct
        (new_kept nm apart nm.named apart.named_apart type_name (type_name_under nm apart) before (d.Struct x vars fields) new) distinct
        (subst (IsDistinct bytes_eq) (sym (names_under nm apart fields)) (distinct_names_kept nm apart nm.field apart.field_apart (names_of fields) names))
        (each_map nm apart (field_under nm) (λ f. IsType before vars f.ty × IsValue f.ty) (λ f. IsType before' vars f.ty × IsValue f.ty) fields
        (λ f k. (type_kept nm apart before vars f.ty k.0, (value_kept nm apart) f.ty k.1)) each)
    def_kept def (WellTyped.sum {x = x} {vars = vars} {cons = cons} new new_cons distinct each) = WellTyped.sum
        (new_kept nm apart nm.named apart.named_apart type_name (type_name_under nm apart) before (d.Sum x vars cons) new)
        (new_kept nm apart nm.con apart.con_apart con_names (con_names_under nm apart) before (d.Sum x vars cons) new_cons) distinct
        (each_map nm apart (con_under nm) (λ c. AllByRecursion (λ a. IsType before vars a × IsFlat before a) c.args) (λ c. AllByRecursion (λ a. IsType before' vars a × IsFlat before' a) c.args) cons
        (λ c k. (each_map nm apart) nm.ty (λ a. IsType before vars a × IsFlat before a) (λ a. IsType before' vars a × IsFlat before' a) c.args
        (λ a h. (type_kept nm apart before vars a h.0, (flat_kept nm apart) before a h.1)) k) each)
    def_kept def (WellTyped.table {x = x} {i = i} {nums = nums} new fit) =
        WellTyped.table (new_kept nm apart nm.table apart.table_apart table_name (table_name_under nm apart) before (d.Table x i nums) new) fit
    def_kept def (WellTyped.fun {x = x} {vars = vars} {params = params} {result = result} {body = body} new distinct names each ok gives typed) = WellTyped.fun
        (new_kept nm apart nm.fun apart.fun_apart fun_name (fun_name_under nm apart) before (d.Fun x vars params result body) new) distinct
        (subst (IsDistinct bytes_eq) (sym (params_under nm apart params)) names)
        (each_map nm apart (param_under nm) (λ p. IsType defs vars p.ty × IsValue p.ty) (λ p. IsType defs' vars p.ty × IsValue p.ty) params
        (λ p k. (type_kept nm apart defs vars p.ty k.0, (value_kept nm apart) p.ty k.1)) each)
        (type_kept nm apart defs vars result ok) (result_kept nm apart defs result gives)
        (subst (λ z. HasType defs' vars (record { vars = z; frame = None }) (expr_under nm body) (erased (nm.ty result))) (params_typed params)
        (subst (λ z. HasType defs' vars (record { vars = typed_under nm apart (params_in params); frame = None }) (expr_under nm body) z) (sym (erased_under nm apart result))
        (typing_kept nm apart defs vars (record { vars = params_in params; frame = None }) body (erased result) typed)))
    def_kept def (WellTyped.entry {x = x} {f = f} new is none each answer) = WellTyped.entry
        (new_kept nm apart nm.fun apart.fun_apart entry_name (entry_name_under nm apart) before (d.Entry x) new)
        (fun_named_under nm apart defs x ∙ ap (option_map (signature_under nm apart)) is) none
        (each_map nm apart (param_under nm) (λ p. IsOutside p.ty) (λ p. IsOutside p.ty) f.params (λ p k. outside_kept p.ty k) each) (answer_kept f.result answer)

  -- a definition under the new names had an old one
  old_def : (o : Option Def) (def' : Def) → option_map (def_renamed nm) o ≡ Some def' → (def : Def) × (o ≡ Some def) × (def_renamed nm def ≡ def')
  old_def (Some def) def' h = (def, refl, cc)
  old_def None def' h = absurd (cc)

  pub defs_kept : (defs : List Def) → AreWellTyped defs → AreWellTyped (map (def_renamed nm) defs)
  defs_kept defs h k def' is =
      let o = old_def (slice_get defs k) def' (sym (slice_get-map (def_renamed nm) defs k) ∙ is) in
      subst (λ z. WellTyped (map (def_renamed nm) defs) (take k (map (def_renamed nm) defs)) z) o.2
      (subst (λ z. WellTyped (map (def_renamed nm) defs) z (def_renamed nm o.0)) (sym (take-map (def_renamed nm) k defs)) (def_kept defs (take k defs) o.0 (h k o.0 o.1)))
