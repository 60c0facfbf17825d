-- The variables that a pattern takes from a value have the types that the pattern gives them.
use Rattle.std.proofs.Common.{◌≡◌, ℕ, ◌==◌, ◌&&◌, Bool, true, false, if◌then◌else◌, List, [], ◌∷◌, ◌++◌, map, length, Option, Some, None, option_map, option_and_then, refl, sym, ap, ◌∙◌, subst}
use Rattle.std.specs.List.{AllByRecursion}
use Rattle.std.proofs.lemmas.Bool.Decides.{Decides-eqb}
use Rattle.krml_trace.specs.Width.{same_width}
use Rattle.krml_syntax.specs.declared.tree.IntTy.{IntTy}
use Rattle.krml_syntax.specs.declared.tree.Ty.{Ty}
use Rattle.krml_syntax.specs.declared.tree.Ty.TheOpen.{Ty-F}
use Rattle.krml_syntax.specs.declared.tree.Ty.TheVariants as t
use Rattle.krml_syntax.specs.declared.tree.Field.{Field}
use Rattle.krml_syntax.specs.declared.tree.Pat.{Pat}
use Rattle.krml_syntax.specs.declared.tree.Pat.TheOpen.{Pat-F}
use Rattle.krml_syntax.specs.declared.tree.Pat.TheFolds.{fold_out-Pat}
use Rattle.krml_syntax.specs.declared.tree.Pat.TheVariants as p
use Rattle.krml_syntax.specs.declared.tree.Def.{Def}
use Rattle.krml_ast.specs.Names.{Struct, Constructor, type_named}
use Rattle.krml_ast.specs.IsType.{IsFlat, IsType}
use Rattle.krml_ast.specs.Typing.{Vars, Matches, MatchAll, at, fields_at}
use Rattle.krml_meaning.specs.declared.value.Value.{Value, out-Value}
use Rattle.krml_meaning.specs.declared.value.Value.TheOpen.{Value-F}
use Rattle.krml_meaning.specs.State.{Block, Variables}
use Rattle.krml_meaning.specs.Meaning.{Taking, take_all, taking, takes, where_true, same_truth}
use Rattle.krml_meaning.specs.Shape.{HasShape, AllHaveShape}
use Rattle.krml_meaning.proofs.Lists.{same_some, no_some, same_answer, map_length, each_so}
use Rattle.krml_meaning.proofs.Facts.{Facts, InSum, same_struct}
use Rattle.krml_meaning.proofs.Shapes.{ShapeIn, shape_in, shapes_in}
use Rattle.krml_meaning.proofs.Branches.{con_args, con_count}
use Rattle.krml_meaning.proofs.Closing.{close, close_named, close_at, all_are, fields_are}
use Rattle.krml_meaning.proofs.Scopes.{Instance, VarsTyped, vars_append}

module _ (defs : List Def) where
  -- ---- what patterns take, form by form

  pub takes_any : (y : Value) → takes defs p.Any y ≡ Some []
  takes_any y = rw (fold_out-Pat, p.outs-Any) refl

  pub takes_bind : (x : List ℕ) (y : Value) → takes defs (p.Bind x) y ≡ Some ((x, y) ∷ [])
  takes_bind x y = rw (fold_out-Pat, p.outs-Bind) refl

  pub takes_bool : (b : Bool) (y : Value) → takes defs (p.Bool b) y ≡ taking defs (Pat-F.Bool b) (out-Value y)
  takes_bool b y = rw (fold_out-Pat, p.outs-Bool) refl

  pub takes_num : (i : IntTy) (n : ℕ) (y : Value) → takes defs (p.Num i n) y ≡ taking defs (Pat-F.Num i n) (out-Value y)
  takes_num i n y = rw (fold_out-Pat, p.outs-Num) refl

  pub takes_con : (x : List ℕ) (ps : List Pat) (y : Value) → takes defs (p.Con x ps) y ≡ taking defs (Pat-F.Con x (map (takes defs) ps)) (out-Value y)
  takes_con x ps y = rw (fold_out-Pat, p.outs-Con) refl

  pub takes_make : (x : List ℕ) (ps : List Pat) (y : Value) → takes defs (p.Make x ps) y ≡ taking defs (Pat-F.Make x (map (takes defs) ps)) (out-Value y)
  takes_make x ps y = rw (fold_out-Pat, p.outs-Make) refl

module _ (defs : List Def) (facts : Facts defs) (at_args : Instance defs) where
  -- ---- what binds no variable

  Nothing : Option Variables → Type 0
  Nothing o = (vars : Variables) → o ≡ Some vars → vars ≡ []

  nothing_where : (b : Bool) → Nothing (where_true b)
  unfolding Nothing
  nothing_where true vars e = sym (same_some [] vars e)
  nothing_where false vars e = absurd (no_some vars e)

  nothing_bool : (b : Bool) (o : Value-F Value) → Nothing (taking defs (Pat-F.Bool b) o)
  unfolding Nothing
  nothing_bool b (Value-F.Bool c) vars e = nothing_where (same_truth b c) vars e
  nothing_bool b Value-F.Unit vars e = absurd (no_some vars e)
  nothing_bool b (Value-F.Num w n) vars e = absurd (no_some vars e)
  nothing_bool b (Value-F.Struct names xs) vars e = absurd (no_some vars e)
  nothing_bool b (Value-F.Con k xs) vars e = absurd (no_some vars e)
  nothing_bool b (Value-F.Buf n off len) vars e = absurd (no_some vars e)

  nothing_num : (i : IntTy) (m : ℕ) (o : Value-F Value) → Nothing (taking defs (Pat-F.Num i m) o)
  unfolding Nothing
  nothing_num i m (Value-F.Num w n) vars e = nothing_where (same_width i.width w && m == n) vars e
  nothing_num i m (Value-F.Bool c) vars e = absurd (no_some vars e)
  nothing_num i m Value-F.Unit vars e = absurd (no_some vars e)
  nothing_num i m (Value-F.Struct names xs) vars e = absurd (no_some vars e)
  nothing_num i m (Value-F.Con k xs) vars e = absurd (no_some vars e)
  nothing_num i m (Value-F.Buf n off len) vars e = absurd (no_some vars e)

  is_nothing : (o : Option Variables) (vars : Variables) → Nothing o → o ≡ Some vars → vars ≡ []
  unfolding Nothing
  is_nothing o vars h e = h vars e

  typed_none : (m : List Block) (vars : Variables) → vars ≡ [] → VarsTyped defs at_args m vars []
  typed_none m vars e = subst (λ z. VarsTyped defs at_args m z []) (sym e) tt

  -- ---- parts

  -- the parts of a constructor's value, which are those of the pattern's constructor
  con_parts : (x : List ℕ) (c : Constructor) (i : InSum defs x c) (fs : List Taking) (args : List Ty) (m : List Block) (o : Value-F Value) (vars : Variables)
      → ShapeIn defs m o (Ty-F.Named c.sum (map (close defs at_args) args)) → taking defs (Pat-F.Con x fs) o ≡ Some vars
      → (xs : List Value) × (take_all fs xs ≡ Some vars) × AllHaveShape defs m xs (map (close defs at_args) (map (at c.vars args) c.args))
  con_parts x c i fs args m (Value-F.Con k xs) vars h e =
      go (i.k == k) refl (ap (λ o. option_and_then (λ (q : ℕ × List Ty). if q.0 == k then take_all fs xs else None) o) (sym i.place) ∙ e)
    where
      count : length args ≡ length c.vars
      count = sym (map_length (close defs at_args) args) ∙ con_count defs c x (map (close defs at_args) args) i m k xs h

      go : (b : Bool) → (i.k == k) ≡ b → (if b then take_all fs xs else None) ≡ Some vars
          → (xs : List Value) × (take_all fs xs ≡ Some vars) × AllHaveShape defs m xs (map (close defs at_args) (map (at c.vars args) c.args))
      go true q e' =
          let oks = types_of i.con.args (facts.cons c.sum c.vars i.cons i.k i.con i.is i.there) in
          let same = all_are defs at_args c.vars args (map (close defs at_args) args) c.args
          (subst (λ z. AllByRecursion (IsType defs c.vars) z) i.args oks) (close_at defs at_args c.vars args count) in
          (xs, e', subst (AllHaveShape defs m xs) (sym same) (con_args defs c x (map (close defs at_args) args) i m k xs h (sym ((Decides-eqb i.k k).0 q))))
        where
          types_of : (types : List Ty) → AllByRecursion (λ a. IsType defs c.vars a × IsFlat defs a) types → AllByRecursion (IsType defs c.vars) types
          types_of types h = each_so (λ a. IsType defs c.vars a × IsFlat defs a) (IsType defs c.vars) types (λ a k. k.0) h
      go false q e' = absurd (no_some vars e')
  con_parts x c i fs args m (Value-F.Struct names xs) vars h e = absurd (no_some vars e)
  con_parts x c i fs args m (Value-F.Bool b) vars h e = absurd h
  con_parts x c i fs args m (Value-F.Num w n) vars h e = absurd h
  con_parts x c i fs args m Value-F.Unit vars h e = absurd h
  con_parts x c i fs args m (Value-F.Buf n off len) vars h e = absurd h

  -- the parts of a struct's value
  make_parts : (x : List ℕ) (tvars : List (List ℕ)) (fields : List Field) → type_named defs x ≡ Some (Struct tvars fields) → (fs : List Taking) (args : List Ty) (m : List Block)
      (o : Value-F Value) (vars : Variables) → ShapeIn defs m o (Ty-F.Named x (map (close defs at_args) args)) → taking defs (Pat-F.Make x fs) o ≡ Some vars
      → (xs : List Value) × (take_all fs xs ≡ Some vars) × AllHaveShape defs m xs (map (close defs at_args) (fields_at tvars args fields))
  make_parts x tvars fields is fs args m (Value-F.Struct names xs) vars h e =
      let same = same_struct h.vars tvars h.fields fields (same_answer (type_named defs x) (Struct h.vars h.fields) (Struct tvars fields) h.is is) in
      let count : length args ≡ length tvars = sym (map_length (close defs at_args) args) ∙ h.count ∙ ap (λ z. length z) same.0 in
      let types = fields_are defs at_args tvars args (map (close defs at_args) args) fields (facts.fields x tvars fields is) (close_at defs at_args tvars args count) in (
        xs,
        e,
        subst (AllHaveShape defs m xs) (sym types)
            (subst (λ vs. AllHaveShape defs m xs (fields_at vs (map (close defs at_args) args) fields)) same.0
            (subst (λ gs. AllHaveShape defs m xs (fields_at h.vars (map (close defs at_args) args) gs)) same.1 h.all)),
      )
  make_parts x tvars fields is fs args m (Value-F.Con k xs) vars h e = absurd (no_some vars e)
  make_parts x tvars fields is fs args m (Value-F.Bool b) vars h e = absurd h
  make_parts x tvars fields is fs args m (Value-F.Num w n) vars h e = absurd h
  make_parts x tvars fields is fs args m Value-F.Unit vars h e = absurd h
  make_parts x tvars fields is fs args m (Value-F.Buf n off len) vars h e = absurd h

  -- the first pattern's variables and those of the others
  both_parts : (f : Option Variables) (o : Option Variables) (vars : Variables) → option_and_then (λ first. option_map (λ more. more ++ first) o) f ≡ Some vars
      → (first : Variables) × (more : Variables) × (f ≡ Some first) × (o ≡ Some more) × (vars ≡ more ++ first)
  both_parts (Some first) (Some more) vars e = (first, more, refl, refl, sym (same_some (more ++ first) vars e))
  both_parts (Some first) None vars e = absurd (no_some vars e)
  both_parts None o vars e = absurd (no_some vars e)

  named_in : (m : List Block) (y : Value) (x : List ℕ) (args : List Ty) → HasShape defs m y (close defs at_args (t.Named x args))
      → ShapeIn defs m (out-Value y) (Ty-F.Named x (map (close defs at_args) args))
  named_in m y x args h =
      let types = map (close defs at_args) args in
      subst (ShapeIn defs m (out-Value y)) (t.outs-Named x types) (shape_in defs m y (t.Named x types) (subst (HasShape defs m y) (close_named defs at_args x args) h))

  mutual
    pub taken_typed : (a : Ty) (q : Pat) (types : Vars) → Matches defs a q types → (m : List Block) (y : Value) (vars : Variables) → HasShape defs m y (close defs at_args a)
        → takes defs q y ≡ Some vars → VarsTyped defs at_args m vars types
    taken_typed a q types Matches.any m y vars h e = typed_none m vars (sym (same_some [] vars (sym (takes_any defs y) ∙ e)))
    taken_typed a q types (Matches.bind {x = x}) m y vars h e =
        subst (λ z. VarsTyped defs at_args m z ((x, a) ∷ [])) (same_some ((x, y) ∷ []) vars (sym (takes_bind defs x y) ∙ e)) (refl, h, tt)
    taken_typed a q types (Matches.bool {b = b}) m y vars h e = typed_none m vars (is_nothing (taking defs (Pat-F.Bool b) (out-Value y)) vars (nothing_bool b (out-Value y)) (sym (takes_bool defs b y) ∙ e))
    taken_typed a q types (Matches.num {i = i} {n = n} lt) m y vars h e =
        typed_none m vars (is_nothing (taking defs (Pat-F.Num i n) (out-Value y)) vars (nothing_num i n (out-Value y)) (sym (takes_num defs i n y) ∙ e))
    taken_typed a q types (Matches.con {x = x} {c = c} args {ps = ps} is ms) m y vars h e =
        let k = con_parts x c (facts.con x c is) (map (takes defs) ps) args m (out-Value y) vars (named_in m y c.sum args h) (sym (takes_con defs x ps y) ∙ e) in
        all_taken (map (at c.vars args) c.args) ps types ms m k.0 vars k.2 k.1
    taken_typed a q types (Matches.make {x = x} {tvars = tvars} {fields = fields} args {ps = ps} is ms) m y vars h e =
        let k = make_parts x tvars fields is (map (takes defs) ps) args m (out-Value y) vars (named_in m y x args h) (sym (takes_make defs x ps y) ∙ e) in
        all_taken (fields_at tvars args fields) ps types ms m k.0 vars k.2 k.1

    all_taken : (kinds : List Ty) (ps : List Pat) (types : Vars) → MatchAll defs kinds ps types → (m : List Block) (xs : List Value) (vars : Variables)
        → AllHaveShape defs m xs (map (close defs at_args) kinds) → take_all (map (takes defs) ps) xs ≡ Some vars → VarsTyped defs at_args m vars types
    all_taken kinds ps types MatchAll.none m [] vars h e = typed_none m vars (sym (same_some [] vars e))
    all_taken kinds ps types MatchAll.none m (x ∷ xs) vars h e = absurd (no_some vars e)
    all_taken kinds ps types (MatchAll.one {a = a} {types = more} {q = q} {ps = qs} {vars = first} {more = rest} m1 ms) m [] vars h e = absurd (no_some vars e)
    all_taken kinds ps types (MatchAll.one {a = a} {types = more} {q = q} {ps = qs} {vars = first} {more = rest} m1 ms) m (x ∷ xs) vars h e =
        let both = shapes_in defs m (x ∷ xs) (map (close defs at_args) (a ∷ more)) h in
        let k = both_parts (takes defs q x) (take_all (map (takes defs) qs) xs) vars e in
        subst (λ z. VarsTyped defs at_args m z (rest ++ first)) (sym k.4)
        (vars_append defs at_args m k.1 k.0 rest first (all_taken more qs rest ms m xs k.1 both.1 k.3) (taken_typed a q first m1 m x k.0 both.0 k.2))
