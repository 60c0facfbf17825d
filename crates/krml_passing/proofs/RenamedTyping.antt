-- What has a type has it under the new names: by recursion on what says so.
use Rattle.std.proofs.Common.{◌≡◌, ℕ, false, List, [], ◌∷◌, ◌++◌, map, Option, Some, None, inl, inr, option_map, bytes_eq, refl, sym, ap, ◌∙◌, subst}
use Rattle.std.specs.List.{IsDistinct}
use Rattle.std.proofs.lemmas.List.{map-append}
use Rattle.std.proofs.lemmas.Option.{slice_get-map}
use Rattle.krml_trace.specs.declared.width.Width.TheVariants.{W32}
use Rattle.krml_syntax.specs.declared.tree.IntTy.{IntTy}
use Rattle.krml_syntax.specs.declared.tree.Ty.{Ty}
use Rattle.krml_syntax.specs.declared.tree.Ty.TheVariants as t
use Rattle.krml_syntax.specs.declared.tree.Field.{Field}
use Rattle.krml_syntax.specs.declared.tree.Con.{Con}
use Rattle.krml_syntax.specs.declared.tree.Slot.{Slot}
use Rattle.krml_syntax.specs.declared.tree.Pat.{Pat}
use Rattle.krml_syntax.specs.declared.tree.Arm.{Arm}
use Rattle.krml_syntax.specs.declared.tree.Case.{Case}
use Rattle.krml_syntax.specs.declared.tree.Item.{Item}
use Rattle.krml_syntax.specs.declared.tree.Expr.{Expr}
use Rattle.krml_syntax.specs.declared.tree.Def.{Def}
use Rattle.krml_syntax.specs.declared.tree.Def.TheVariants as d
use Rattle.krml_ast.specs.Names.{Struct, Constructor, Signature, args_here, con_in, con_from, con_here, con_named, table_here, table_named, fun_here, fun_named, field_here, field_named}
use Rattle.krml_syntax.specs.Types.{erased, int_ty, u32}
use Rattle.krml_ast.specs.Typing.{Vars, look, Scope, with_vars, in_loop, in_frame, at, fields_at, IsResult, Matches, MatchAll, AreDistinct, HasType, AllHaveType, ArmsHaveType, ItemsLead, CasesHaveType}
use Rattle.krml_passing.proofs.RenamedTypes.{erased_under, all_erased, at_args_under, int_ty_same, value_kept, flat_kept, type_is, as_many, type_kept, arguments_kept}
use Rattle.krml_passing.specs.Naming.{field_under, param_under, con_under, slot_under, expr_under, item_under, arm_under, case_under, def_renamed, Naming, TellsNamesApart, renaming_of}
use Rattle.krml_passing.proofs.Lookups.{bool_under, unit_under, buf_under, named_under, image_if}
use Rattle.krml_passing.proofs.Values.{first_image}
use Rattle.krml_trace.proofs.First.{first_moved, map_if, first_map, first_same}
use Rattle.krml_rename.proofs.Equations as eq
use Rattle.krml_passing.proofs.RenamedLayers as pat
use Rattle.krml_rename.specs.Renaming.{Renaming}

module _ (nm : Naming) (apart : TellsNamesApart nm) where
  abbrev rn : Renaming
  rn = renaming_of nm

  -- ---- names

  abbrev pub constructor_under : Constructor → Constructor
  constructor_under c = record { sum = nm.named c.sum; vars = c.vars; args = map nm.ty c.args }

  con_in_under : (cons : List Con) (x : List ℕ) → con_in (map (con_under nm) cons) (nm.con x) ≡ option_map (map nm.ty) (con_in cons x)
  con_in_under cons x = first_moved (con_under nm) (map nm.ty) (args_here (nm.con x)) (args_here x) (λ c. image_if (map nm.ty) (apart.con_apart c.name x) c.args) cons

  con_here_under : (x : List ℕ) (def : Def) → con_here (nm.con x) (def_renamed nm def) ≡ option_map constructor_under (con_here x def)
  con_here_under x (d.Sum name vars cons) = rw (con_in_under cons x) (go (con_in cons x))
    where
      go : (o : Option (List Ty)) → option_map (con_from (nm.named name) vars) (option_map (map nm.ty) o) ≡ option_map constructor_under (option_map (con_from name vars) o)
      go (Some args) = refl
      go None = refl
  con_here_under x (d.Struct name vars fields) = refl
  con_here_under x (d.Table name i nums) = refl
  con_here_under x (d.Fun name vars params result body) = refl
  con_here_under x (d.Entry name) = refl

  pub con_named_under : (defs : List Def) (x : List ℕ) → con_named (map (def_renamed nm) defs) (nm.con x) ≡ option_map constructor_under (con_named defs x)
  con_named_under defs x = first_moved (def_renamed nm) constructor_under (con_here (nm.con x)) (con_here x) (con_here_under x) defs

  table_here_under : (x : List ℕ) (def : Def) → table_here (nm.table x) (def_renamed nm def) ≡ table_here x def
  table_here_under x (d.Table name i nums) = rw (apart.table_apart name x) refl
  table_here_under x (d.Struct name vars fields) = refl
  table_here_under x (d.Sum name vars cons) = refl
  table_here_under x (d.Fun name vars params result body) = refl
  table_here_under x (d.Entry name) = refl

  pub table_named_under : (defs : List Def) (x : List ℕ) → table_named (map (def_renamed nm) defs) (nm.table x) ≡ table_named defs x
  table_named_under defs x = first_map (table_here (nm.table x)) (def_renamed nm) defs ∙ first_same (λ def. table_here (nm.table x) (def_renamed nm def)) (table_here x) defs (table_here_under x)

  abbrev pub signature_under : Signature → Signature
  signature_under f = record { vars = f.vars; params = map (param_under nm) f.params; result = nm.ty f.result }

  fun_here_under : (x : List ℕ) (def : Def) → fun_here (nm.fun x) (def_renamed nm def) ≡ option_map signature_under (fun_here x def)
  fun_here_under x (d.Fun name vars params result body) =
      rw (apart.fun_apart name x) (map_if signature_under (bytes_eq name x) (record { vars = vars; params = params; result = result }))
  fun_here_under x (d.Struct name vars fields) = refl
  fun_here_under x (d.Sum name vars cons) = refl
  fun_here_under x (d.Table name i nums) = refl
  fun_here_under x (d.Entry name) = refl

  pub fun_named_under : (defs : List Def) (x : List ℕ) → fun_named (map (def_renamed nm) defs) (nm.fun x) ≡ option_map signature_under (fun_named defs x)
  fun_named_under defs x = first_moved (def_renamed nm) signature_under (fun_here (nm.fun x)) (fun_here x) (fun_here_under x) defs

  field_named_under : (fields : List Field) (y : List ℕ) → field_named (map (field_under nm) fields) (nm.field y) ≡ option_map nm.ty (field_named fields y)
  field_named_under fields y =
      first_moved (field_under nm) nm.ty (field_here (nm.field y)) (field_here y) (λ g. rw (apart.field_apart g.name y) (map_if nm.ty (bytes_eq g.name y) g.ty)) fields

  -- ---- types of parts

  all_at_under : (vars : List (List ℕ)) (args types : List Ty) → map (at vars (map nm.ty args)) (map nm.ty types) ≡ map nm.ty (map (at vars args) types)
  all_at_under vars args [] = refl
  all_at_under vars args (a ∷ types) = rw (at_args_under nm apart vars args a, all_at_under vars args types) refl

  fields_at_under : (vars : List (List ℕ)) (args : List Ty) (fields : List Field) → fields_at vars (map nm.ty args) (map (field_under nm) fields) ≡ map nm.ty (fields_at vars args fields)
  fields_at_under vars args [] = refl
  fields_at_under vars args (g ∷ fields) = rw (at_args_under nm apart vars args g.ty, fields_at_under vars args fields) refl

  params_at_under : (vars : List (List ℕ)) (args : List Ty) (params : List Field) → fields_at vars (map nm.ty args) (map (param_under nm) params) ≡ map nm.ty (fields_at vars args params)
  params_at_under vars args [] = refl
  params_at_under vars args (g ∷ params) = rw (at_args_under nm apart vars args g.ty, params_at_under vars args params) refl

  -- ---- scopes

  -- variables keep their names
  abbrev pub typed_under : Vars → Vars
  typed_under vars = map (λ v. (v.0, nm.ty v.1)) vars

  abbrev pub scope_under : Scope → Scope
  scope_under g = record { vars = typed_under g.vars; frame = option_map (map (slot_under nm)) g.frame }

  look_under : (vars : Vars) (x : List ℕ) → look (typed_under vars) x ≡ option_map nm.ty (look vars x)
  look_under [] x = refl
  look_under ((y, a) ∷ vars) x = first_image nm.ty (bytes_eq y x) a _ _ (look_under vars x)

  names_same : (vars : Vars) → map (λ v. v.0) (typed_under vars) ≡ map (λ v. v.0) vars
  names_same [] = refl
  names_same ((y, a) ∷ vars) = ap (λ z. y ∷ z) (names_same vars)

  distinct_kept : (vars : Vars) → AreDistinct vars → AreDistinct (typed_under vars)
  distinct_kept vars h = subst (IsDistinct bytes_eq) (sym (names_same vars)) h

  joined_under : (vars more : Vars) → typed_under (vars ++ more) ≡ typed_under vars ++ typed_under more
  joined_under vars more = map-append (λ (v : List ℕ × Ty). (v.0, nm.ty v.1)) vars more

  more_vars : (vars : Vars) (g : Scope) → scope_under (with_vars vars g) ≡ with_vars (typed_under vars) (scope_under g)
  more_vars vars g = ap (λ z. record { vars = z; frame = option_map (map (slot_under nm)) g.frame }) (joined_under vars g.vars)

  u32_same : nm.ty u32 ≡ u32
  u32_same = int_ty_same nm apart (record { width = W32; secret = false })

  module _ (defs : List Def) where
    abbrev defs' : List Def
    defs' = map (def_renamed nm) defs

    pub result_kept : (a : Ty) → IsResult defs a → IsResult defs' (nm.ty a)
    result_kept a (inl e) = inl (ap nm.ty e ∙ (unit_under nm apart))
    result_kept a (inr f) = inr (flat_kept nm apart defs a f)

    con_is : (x : List ℕ) (c : Constructor) → con_named defs x ≡ Some c → con_named defs' (nm.con x) ≡ Some (constructor_under c)
    con_is x c is = con_named_under defs x ∙ ap (option_map constructor_under) is

    -- ---- patterns

    mutual
      matches_kept : (a : Ty) (q : Pat) (vars : Vars) → Matches defs a q vars → Matches defs' (nm.ty a) (nm.pat q) (typed_under vars)
      matches_kept a q vars Matches.any = rw (pat.any_pat nm apart) Matches.any
      matches_kept a q vars (Matches.bind {x = x}) = rw (pat.bind_pat nm apart x) Matches.bind
      matches_kept a q vars (Matches.bool {b = b}) = rw (pat.bool_pat nm apart b, bool_under nm apart) Matches.bool
      matches_kept a q vars (Matches.num {i = i} {n = n} lt) = rw (pat.num_pat nm apart i n, (int_ty_same nm apart) i) (Matches.num lt)
      matches_kept a q vars (Matches.con {x = x} {c = c} args {ps = ps} is ms) = rw (pat.con_pat nm apart x ps, (named_under nm apart) c.sum args)
          (Matches.con (map nm.ty args) (con_is x c is)
          (subst (λ z. MatchAll defs' z (map nm.pat ps) (typed_under vars)) (sym (all_at_under c.vars args c.args)) (match_all_kept (map (at c.vars args) c.args) ps vars ms)))
      matches_kept a q vars (Matches.make {x = x} {tvars = tvars} {fields = fields} args {ps = ps} is ms) = rw (pat.make_pat nm apart x ps, (named_under nm apart) x args)
          (Matches.make (map nm.ty args) (type_is nm apart defs x (Struct tvars fields) is)
          (subst (λ z. MatchAll defs' z (map nm.pat ps) (typed_under vars)) (sym (fields_at_under tvars args fields)) (match_all_kept (fields_at tvars args fields) ps vars ms)))

      match_all_kept : (types : List Ty) (ps : List Pat) (vars : Vars) → MatchAll defs types ps vars → MatchAll defs' (map nm.ty types) (map nm.pat ps) (typed_under vars)
      match_all_kept types ps vars MatchAll.none = MatchAll.none
      match_all_kept types ps all (MatchAll.one {a = a} {types = rest} {q = q} {ps = qs} {vars = vars} {more = more} m ms) =
          rw (joined_under more vars) (MatchAll.one (matches_kept a q vars m) (match_all_kept rest qs more ms))

    -- ---- expressions

    module _ (tvars : List (List ℕ)) where
      abbrev Has : Scope → Expr → Ty → Type 0
      Has g x r = HasType defs' tvars (scope_under g) (expr_under nm x) r

      as_type : (g : Scope) (x : Expr) (a b : Ty) → a ≡ b → Has g x a → Has g x b
      as_type g x a b e h = subst (λ z. Has g x z) e h

      of_bool : (g : Scope) (x : Expr) → Has g x (nm.ty t.Bool) → Has g x t.Bool
      of_bool g x h = as_type g x (nm.ty t.Bool) t.Bool (bool_under nm apart) h

      of_unit : (g : Scope) (x : Expr) → Has g x (nm.ty t.Unit) → Has g x t.Unit
      of_unit g x h = as_type g x (nm.ty t.Unit) t.Unit (unit_under nm apart) h

      of_int : (g : Scope) (x : Expr) (i : IntTy) → Has g x (nm.ty (int_ty i)) → Has g x (int_ty i)
      of_int g x i h = as_type g x (nm.ty (int_ty i)) (int_ty i) (int_ty_same nm apart i) h

      of_u32 : (g : Scope) (x : Expr) → Has g x (nm.ty u32) → Has g x u32
      of_u32 g x h = as_type g x (nm.ty u32) u32 u32_same h

      of_buf : (g : Scope) (x : Expr) (a : Ty) → Has g x (nm.ty (t.Buf a)) → Has g x (t.Buf (nm.ty a))
      of_buf g x a h = as_type g x (nm.ty (t.Buf a)) (t.Buf (nm.ty a)) (buf_under nm apart a) h

      of_named : (g : Scope) (x : Expr) (y : List ℕ) (args : List Ty) → Has g x (nm.ty (t.Named y args)) → Has g x (t.Named (nm.named y) (map nm.ty args))
      of_named g x y args h = as_type g x (nm.ty (t.Named y args)) (t.Named (nm.named y) (map nm.ty args)) (named_under nm apart y args) h

      of_erased : (g : Scope) (x : Expr) (a : Ty) → Has g x (nm.ty (erased a)) → Has g x (erased (nm.ty a))
      of_erased g x a h = as_type g x (nm.ty (erased a)) (erased (nm.ty a)) (sym (erased_under nm apart a)) h

      abbrev HaveAll : Scope → List Expr → List Ty → Type 0
      HaveAll g es types = AllHaveType defs' tvars (scope_under g) (map (expr_under nm) es) types

      all_as : (g : Scope) (es : List Expr) (types other : List Ty) → types ≡ other → HaveAll g es types → HaveAll g es other
      all_as g es types other e h = subst (λ z. HaveAll g es z) e h

      all_bools : (tests : List Expr) → map nm.ty (map (λ x. t.Bool) tests) ≡ map (λ x. t.Bool) (map (expr_under nm) tests)
      all_bools [] = refl
      all_bools (x ∷ tests) = rw (bool_under nm apart, all_bools tests) refl

      framed : (o : Option (List Slot)) (slots : List Slot) → o ≡ Some slots → option_map (map (slot_under nm)) o ≡ Some (map (slot_under nm) slots)
      framed o slots e = ap (option_map (map (slot_under nm))) e

      -- with more variables in scope
      under : (g : Scope) (vars : Vars) (x : Expr) (r : Ty) → Has (with_vars vars g) x r → HasType defs' tvars (with_vars (typed_under vars) (scope_under g)) (expr_under nm x) r
      under g vars x r h = subst (λ z. HasType defs' tvars z (expr_under nm x) r) (more_vars vars g) h

      -- the body of a `for`
      counted : (g : Scope) (y : List ℕ) (x : Expr) → Has (with_vars ((y, u32) ∷ []) (in_loop g)) x (nm.ty t.Unit)
          → HasType defs' tvars (with_vars ((y, u32) ∷ []) (in_loop (scope_under g))) (expr_under nm x) t.Unit
      counted g y x h = subst (λ z. HasType defs' tvars (with_vars ((y, z) ∷ []) (in_loop (scope_under g))) (expr_under nm x) t.Unit) u32_same
          (of_unit (with_vars ((y, u32) ∷ []) (in_loop g)) x h)

      -- what follows a `let`
      bound_before : (g : Scope) (y : List ℕ) (b : Ty) (items : List Item) (h : Scope)
          → ItemsLead defs' tvars (scope_under (with_vars ((y, erased b) ∷ []) g)) (map (item_under nm) items) (scope_under h)
          → ItemsLead defs' tvars (with_vars ((y, erased (nm.ty b)) ∷ []) (scope_under g)) (map (item_under nm) items) (scope_under h)
      bound_before g y b items h ds = subst (λ z. ItemsLead defs' tvars (with_vars ((y, z) ∷ []) (scope_under g)) (map (item_under nm) items) (scope_under h)) (sym (erased_under nm apart b)) ds

      mutual
        pub typing_kept : (g : Scope) (x : Expr) (r : Ty) → HasType defs tvars g x r → HasType defs' tvars (scope_under g) (expr_under nm x) (nm.ty r)
        typing_kept g x r (HasType.var {x = y} h) = rw (eq.var_is rn y) (HasType.var (look_under g.vars y ∙ ap (option_map nm.ty) h))
        typing_kept g x r HasType.unit = rw (eq.unit_is rn, unit_under nm apart) HasType.unit
        typing_kept g x r (HasType.bool {b = b}) = rw (eq.bool_is rn b, bool_under nm apart) HasType.bool
        typing_kept g x r (HasType.num {i = i} {n = n} lt) = rw (eq.num_is rn i n, (int_ty_same nm apart) i) (HasType.num lt)
        typing_kept g x r (HasType.bin {op = o} {i = i} {a = a} {b = b} da db) = rw (eq.bin_is rn o i a b, (int_ty_same nm apart) i)
            (HasType.bin (of_int g a i (typing_kept g a (int_ty i) da)) (of_int g b i (typing_kept g b (int_ty i) db)))
        typing_kept g x r (HasType.shift {left = left} {i = i} {a = a} {n = n} da dn) = rw (eq.shift_is rn left i a n, (int_ty_same nm apart) i)
            (HasType.shift (of_int g a i (typing_kept g a (int_ty i) da)) (of_u32 g n (typing_kept g n u32 dn)))
        typing_kept g x r (HasType.cmp {op = o} {i = i} {a = a} {b = b} da db) = rw (eq.cmp_is rn o i a b, bool_under nm apart)
            (HasType.cmp (of_int g a i (typing_kept g a (int_ty i) da)) (of_int g b i (typing_kept g b (int_ty i) db)))
        typing_kept g x r (HasType.not {a = a} da) = rw (eq.not_is rn a, bool_under nm apart) (HasType.not (of_bool g a (typing_kept g a t.Bool da)))
        typing_kept g x r (HasType.cast {i = i} {j = j} {a = a} da) = rw (eq.cast_is rn i j a, (int_ty_same nm apart) j) (HasType.cast (of_int g a i (typing_kept g a (int_ty i) da)))
        typing_kept g x r (HasType.hide {i = i} {a = a} da) = rw (eq.hide_is rn i a, (int_ty_same nm apart) i) (HasType.hide (of_int g a i (typing_kept g a (int_ty i) da)))
        typing_kept g x r (HasType.make {x = y} {vars = vars} {fields = fields} {args = args} {es = es} is n oks ds) =
            rw (eq.make_is rn y args es, (named_under nm apart) y (map erased args), sym (all_erased nm apart args))
            (HasType.make (type_is nm apart defs y (Struct vars fields) is) (as_many nm apart defs args vars n) (arguments_kept nm apart defs tvars args oks)
            (all_as g es (map nm.ty (fields_at vars args fields)) (fields_at vars (map nm.ty args) (map (field_under nm) fields)) (sym (fields_at_under vars args fields))
            (all_kept g es (fields_at vars args fields) ds)))
        typing_kept g x r (HasType.get {x = y} {y = z} {vars = vars} {fields = fields} args {a = a} {b = b} da is at_field) =
            rw (eq.get_is rn z a, sym (at_args_under nm apart vars args b))
            (HasType.get (map nm.ty args) (of_named g a y args (typing_kept g a (t.Named y args) da)) (type_is nm apart defs y (Struct vars fields) is)
            (field_named_under fields z ∙ ap (option_map nm.ty) at_field))
        typing_kept g x r (HasType.con {x = y} {c = c} {args = args} {es = es} is n oks ds) =
            rw (eq.con_is rn y args es, (named_under nm apart) c.sum (map erased args), sym (all_erased nm apart args))
            (HasType.con (con_is y c is) (as_many nm apart defs args c.vars n) (arguments_kept nm apart defs tvars args oks)
            (all_as g es (map nm.ty (map (at c.vars args) c.args)) (map (at c.vars (map nm.ty args)) (map nm.ty c.args)) (sym (all_at_under c.vars args c.args))
            (all_kept g es (map (at c.vars args) c.args) ds)))
        typing_kept g x r (HasType.read {a = a} {i = i} da di) = rw (eq.read_is rn a i)
            (HasType.read (of_buf g a r (typing_kept g a (t.Buf r) da)) (of_u32 g i (typing_kept g i u32 di)))
        typing_kept g x r (HasType.write {a = a} {i = i} {v = v} {b = b} da di dv) = rw (eq.write_is rn a i v, unit_under nm apart)
            (HasType.write (of_buf g a b (typing_kept g a (t.Buf b) da)) (of_u32 g i (typing_kept g i u32 di)) (typing_kept g v b dv))
        typing_kept g x r (HasType.slice {a = a} {i = i} {n = n} b da di dn) = rw (eq.slice_is rn a i n, (buf_under nm apart) b)
            (HasType.slice (nm.ty b) (of_buf g a b (typing_kept g a (t.Buf b) da)) (of_u32 g i (typing_kept g i u32 di)) (of_u32 g n (typing_kept g n u32 dn)))
        typing_kept g x r (HasType.tab {x = y} {i = i} {a = a} is da) = rw (eq.tab_is rn y a, (int_ty_same nm apart) i)
            (HasType.tab (table_named_under defs y ∙ is) (of_u32 g a (typing_kept g a u32 da)))
        typing_kept g x r (HasType.choice {c = c} {a = a} {b = b} dc da db) = rw (eq.choice_is rn c a b)
            (HasType.choice (of_bool g c (typing_kept g c t.Bool dc)) (typing_kept g a r da) (typing_kept g b r db))
        typing_kept g x r (HasType.match {a = a} {s = s} {x = y} {xs = xs} da value ds) = rw (eq.match_is rn a (y ∷ xs))
            (HasType.match (typing_kept g a s da) (value_kept nm apart s value) (arms_kept g s (y ∷ xs) r ds))
        typing_kept g x r (HasType.block {h = h} {items = items} {a = a} ds da) = rw (eq.do_is rn items a)
            (HasType.block (items_kept g items h ds) (typing_kept h a r da))
        typing_kept g x r (HasType.frame {slots = slots} {a = a} da res) = rw (eq.frame_is rn slots a)
            (HasType.frame (typing_kept (in_frame slots g) a r da) (result_kept r res))
        typing_kept g x r (HasType.alloc {slots = slots} {b = b} {n = n} {a = a} in_it ok flat least most da) = rw (eq.alloc_is rn b n a, (buf_under nm apart) (erased b), sym (erased_under nm apart b))
            (HasType.alloc (framed g.frame slots in_it) (type_kept nm apart defs tvars b ok) (flat_kept nm apart defs b flat) least most (of_erased g a b (typing_kept g a (erased b) da)))
        typing_kept g x r (HasType.while {c = c} {a = a} dc da) = rw (eq.while_is rn c a, unit_under nm apart)
            (HasType.while (of_bool (in_loop g) c (typing_kept (in_loop g) c t.Bool dc)) (of_unit (in_loop g) a (typing_kept (in_loop g) a t.Unit da)))
        typing_kept g x r (HasType.for {x = y} {a = a} {b = b} {c = c} da db dc) = rw (eq.for_is rn y a b c, unit_under nm apart)
            (HasType.for (of_u32 g a (typing_kept g a u32 da)) (of_u32 g b (typing_kept g b u32 db))
            (counted g y c (typing_kept (with_vars ((y, u32) ∷ []) (in_loop g)) c t.Unit dc)))
        typing_kept g x r (HasType.call {x = y} {f = fn} {args = args} {es = es} is n oks ds) =
            rw (eq.call_is rn y args es, sym (at_args_under nm apart fn.vars args fn.result))
            (HasType.call (fun_named_under defs y ∙ ap (option_map signature_under) is) (as_many nm apart defs args fn.vars n) (arguments_kept nm apart defs tvars args oks)
            (all_as g es (map nm.ty (fields_at fn.vars args fn.params)) (fields_at fn.vars (map nm.ty args) (map (param_under nm) fn.params)) (sym (params_at_under fn.vars args fn.params))
            (all_kept g es (fields_at fn.vars args fn.params) ds)))
        typing_kept g x r (HasType.cases {x = y} {xs = xs} ds) = rw (eq.cases_is rn (y ∷ xs)) (HasType.cases (cases_kept g (y ∷ xs) r ds))
        typing_kept g x r (HasType.tag_is {x = y} {c = c} args {a = a} is da) = rw (eq.tag_is_is rn y a, bool_under nm apart)
            (HasType.tag_is (map nm.ty args) (con_is y c is) (of_named g a c.sum args (typing_kept g a (t.Named c.sum args) da)))
        typing_kept g x r (HasType.part {x = y} {c = c} {j = j} args {a = a} {b = b} is da there) = rw (eq.part_is rn y j a, sym (at_args_under nm apart c.vars args b))
            (HasType.part (map nm.ty args) (con_is y c is) (of_named g a c.sum args (typing_kept g a (t.Named c.sum args) da))
            (slice_get-map nm.ty c.args j ∙ ap (option_map nm.ty) there))
        typing_kept g x r (HasType.fill {k = k} {slots = slots} {s = s} {a = a} in_it there da) = rw (eq.fill_is rn k a, (buf_under nm apart) (erased s.ty), sym (erased_under nm apart s.ty))
            (HasType.fill (framed g.frame slots in_it) (slice_get-map (slot_under nm) slots k ∙ ap (option_map (slot_under nm)) there) (of_erased g a s.ty (typing_kept g a (erased s.ty) da)))

        all_kept : (g : Scope) (es : List Expr) (types : List Ty) → AllHaveType defs tvars g es types → AllHaveType defs' tvars (scope_under g) (map (expr_under nm) es) (map nm.ty types)
        all_kept g es types AllHaveType.none = AllHaveType.none
        all_kept g es types (AllHaveType.one {a = a} {es = more} {r = r} {rs = rs} da ds) = AllHaveType.one (typing_kept g a r da) (all_kept g more rs ds)

        arms_kept : (g : Scope) (s : Ty) (xs : List Arm) (r : Ty) → ArmsHaveType defs tvars g s xs r → ArmsHaveType defs' tvars (scope_under g) (nm.ty s) (map (arm_under nm) xs) (nm.ty r)
        arms_kept g s xs r ArmsHaveType.no_arms = ArmsHaveType.no_arms
        arms_kept g s xs r (ArmsHaveType.an_arm {q = q} {a = a} {xs = more} {vars = vars} m di da ds) = rw (eq.arm_is rn q a)
            (ArmsHaveType.an_arm (matches_kept s q vars m) (distinct_kept vars di) (under g vars a (nm.ty r) (typing_kept (with_vars vars g) a r da)) (arms_kept g s more r ds))

        items_kept : (g : Scope) (items : List Item) (h : Scope) → ItemsLead defs tvars g items h → ItemsLead defs' tvars (scope_under g) (map (item_under nm) items) (scope_under h)
        items_kept g items h ItemsLead.no_items = ItemsLead.no_items
        items_kept g items h (ItemsLead.bound {x = y} {b = b} {a = a} {items = more} ok value da ds) = rw (eq.let_is rn y b a)
            (ItemsLead.bound (type_kept nm apart defs tvars b ok) (value_kept nm apart b value) (of_erased g a b (typing_kept g a (erased b) da))
            (bound_before g y b more h (items_kept (with_vars ((y, erased b) ∷ []) g) more h ds)))
        items_kept g items h (ItemsLead.ran {a = a} {items = more} da ds) = rw (eq.run_is rn a)
            (ItemsLead.ran (of_unit g a (typing_kept g a t.Unit da)) (items_kept g more h ds))

        cases_kept : (g : Scope) (xs : List Case) (r : Ty) → CasesHaveType defs tvars g xs r → CasesHaveType defs' tvars (scope_under g) (map (case_under nm) xs) (nm.ty r)
        cases_kept g xs r CasesHaveType.no_cases = CasesHaveType.no_cases
        cases_kept g xs r (CasesHaveType.a_case {tests = tests} {a = a} {xs = more} dt da ds) = rw (eq.case_parts_is rn tests a)
            (CasesHaveType.a_case (all_as g tests (map nm.ty (map (λ x. t.Bool) tests)) (map (λ x. t.Bool) (map (expr_under nm) tests)) (all_bools tests)
            (all_kept g tests (map (λ x. t.Bool) tests) dt)) (typing_kept g a r da) (cases_kept g more r ds))
