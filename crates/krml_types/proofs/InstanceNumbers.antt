-- Structs, constructors and functions at type arguments, by numbers of types.
use Prim.Native.Nat.{zero, suc}
use Rattle.std.proofs.Common.{◌≡◌, ℕ, ◌+◌, ◌<◌, Bool, true, false, not, if◌then◌else◌, List, [], ◌∷◌, map, length, get_or, drop, slice_get, option_map, is_some, Option, Some, None, Result, Ok, Err, refl, sym, ap, subst, ◌∙◌}
use Rattle.std.specs.Option.{option_or}
use Rattle.std.specs.Bool.{Decides}
use Rattle.std.specs.Str.{bytes_eq}
use Rattle.std.specs.Result.{IsErrAnd}
use Rattle.std.proofs.Math.Numerals.{add-one}
use Rattle.std.proofs.lemmas.Bool.Decides.{same_from_decides}
use Rattle.std.proofs.lemmas.Option.{slice_get-map, slice_get_read}
use Rattle.std.proofs.lemmas.Result.{err_from_is_err_and}
use Rattle.std.proofs.lemmas.Slice.Eq.{bytes_eq-Decides}
use Rattle.krml_syntax.specs.declared.tree.Ty.{Ty, out-Ty, roll-Ty, roll-out-Ty}
use Rattle.krml_syntax.specs.declared.tree.Ty.TheVariants as ty
use Rattle.krml_syntax.specs.declared.tree.Ty.TheOpen.{Ty-F}
use Rattle.krml_syntax.specs.declared.tree.Field.{Field}
use Rattle.krml_syntax.specs.declared.tree.Def.{Def}
use Rattle.krml_syntax.specs.declared.tree.Pat.{Pat}
use Rattle.krml_syntax.specs.declared.tree.Pat.TheFolds.{fold_out-Pat}
use Rattle.krml_syntax.specs.declared.tree.Pat.TheVariants as p
use Rattle.krml_syntax.specs.Read.{◌>>=◌}
use Rattle.krml_ast.specs.Names.{Constructor, Signature, struct_named, con_named, fun_named, field_named}
use Rattle.krml_syntax.specs.Types.{erased}
use Rattle.krml_ast.specs.Typing.{Vars, at, fields_at}
use Rattle.krml_intern.specs.Table.{Table, Grows, head_of}
use Rattle.krml_intern.specs.Unlabelled.{IsErased}
use Rattle.krml_syntax.proofs.Types.{at_erased}
use Rattle.krml_intern.proofs.Erasing.{is_erased_still}
use Rattle.krml_ast.specs.declared.component.Component.{Component}
use Rattle.krml_ast.specs.declared.component.Component.TheVariants as comp
use Rattle.krml_trace.specs.declared.missing.Missing.{Missing}
use Rattle.krml_trace.specs.declared.missing.Missing.TheVariants.{Absent, NoMemory}
use Rattle.krml_trace.specs.Gives.{Gives}
use Rattle.krml_types.specs.Instances.{Instance, serve, named_at, make_at, con_at, call_at, field_type, make_parts, con_parts, part_type, part_at}
use Rattle.krml_types.specs.Judging.{Place, in_scope, is_none, IsAt, AreParts, GivesApplied, GivesNumber, GivesParts, Binds, place_in}
use Rattle.krml_types.specs.Parts.{demand, args_of}
use Rattle.krml_types.specs.Patterns.{binds, parts_bind}
use Rattle.krml_types.specs.Types.{same_ty}
use Rattle.krml_types.proofs.Decided.{same_decides}
use Rattle.krml_types.proofs.Parts.{args_again}
use Rattle.krml_types.proofs.Steps.{drop_all}

-- ---- numbers

-- the type that a number was said to be of
pub number_is : (t : Table) (k : ℕ) (a : Ty) → GivesNumber t (Ok k) (Some a) → IsErased t k a
number_is t k a g =
    let both : Some a ≡ Some g.0 = g.1 in
    let same : a ≡ g.0 = cc in
    subst (λ b. IsErased t k b) (sym same) g.2

-- a test that two numbers are of one type tests just that
pub same_tested : (s t : Table) (k j : ℕ) (a b : Ty) (one : Bool) (r : Result (Unit {0}) Missing) → Grows s t → IsErased s k a → GivesNumber t (Ok j) (Some b)
    → ((a b : Ty) → IsErased t k a → IsErased t j b → Decides one (a ≡ b)) → Gives r (demand one) → Gives r (demand (same_ty a b))
same_tested s t k j a b one r g e n same gives =
    subst (λ z. Gives r (demand z)) (same_from_decides one (same_ty a b) (same a b (is_erased_still s t g k a e) (number_is t j b n)) (same_decides a b)) gives

-- ---- tests

pub demanded : (b : Bool) (u : Unit {0}) → demand b ≡ Some u → b ≡ true
demanded true u h = refl
demanded false u h = absurd (cc)

-- ---- names and type arguments

-- a type with a head is one at type arguments
pub headed : (a : Ty) (x : List ℕ) → Some x ≡ head_of (out-Ty a) → (args : List Ty) × (a ≡ ty.Named x args)
headed a x h = go (out-Ty a) h (λ y args q. sym (roll-out-Ty a) ∙ ap roll-Ty q ∙ ty.rolls-Named y args)
  where
    go : (o : Ty-F Ty) → Some x ≡ head_of o → ((y : List ℕ) (args : List Ty) → o ≡ Ty-F.Named y args → a ≡ ty.Named y args) → (args : List Ty) × (a ≡ ty.Named x args)
    go (Ty-F.Named y args) q is =
        let same : x ≡ y = cc in
        (args, subst (λ z. a ≡ ty.Named z args) (sym same) (is y args refl))
    go _ q is = absurd (cc)

-- ---- components in order

parts_still : (s t : Table) → Grows s t → (defs : List Def) (kind : Component) (k : ℕ) (types : List Ty) → AreParts s defs kind k types → AreParts t defs kind k types
parts_still s t g defs kind k types p = record { name = p.name; args = p.args; is = is_erased_still s t g k (ty.Named p.name p.args) p.is; each = p.each }

-- what is looked up by its place is the type at that place of the list of all
listed : {A : Type 0} (vars : List (List ℕ)) (args more : List Ty) (f : A → Ty) → ((a : Ty) → at vars args a ≡ at vars more a) → (xs : List A) (j : ℕ)
    → ((slice_get xs j >>= λ a. Some (vars, f a)) >>= λ (w : List (List ℕ) × Ty). Some (at w.0 args w.1)) ≡ slice_get (map (λ a. at vars more (f a)) xs) j
listed {A} vars args more f same xs j = go (slice_get xs j) ∙ sym (slice_get-map (λ a. at vars more (f a)) xs j)
  where
    go : (o : Option A) → ((o >>= λ a. Some (vars, f a)) >>= λ (w : List (List ℕ) × Ty). Some (at w.0 args w.1)) ≡ option_map (λ a. at vars more (f a)) o
    go None = refl
    go (Some a) = ap Some (same (f a))

-- labels of type arguments may be erased before
once : (vars : List (List ℕ)) (args : List Ty) (a : Ty) → at vars (map erased args) a ≡ at vars args a
once vars args a = sym (at_erased vars args a)

module _ (defs : List Def) (x : List ℕ) (args more : List Ty) (same : (vars : List (List ℕ)) (a : Ty) → at vars args a ≡ at vars more a) where
  fields_listed : (vars : List (List ℕ)) (fields : List Field) → struct_named defs x ≡ Some (vars, fields) → (j : ℕ)
      → part_at defs comp.Field x args j ≡ slice_get (fields_at vars more fields) j
  fields_listed vars fields q j = rw q (listed vars args more (λ f. f.ty) (same vars) fields j)

  arguments_listed : (c : Constructor) → con_named defs x ≡ Some c → (j : ℕ) → part_at defs comp.Argument x args j ≡ slice_get (map (at c.vars more) c.args) j
  arguments_listed c q j = rw q (listed c.vars args more (λ b. b) (same c.vars) c.args j)

  parameters_listed : (f : Signature) → fun_named defs x ≡ Some f → (j : ℕ) → part_at defs comp.Parameter x args j ≡ slice_get (fields_at f.vars more f.params) j
  parameters_listed f q j = rw q (listed f.vars args more (λ p. p.ty) (same f.vars) f.params j)

-- ---- at written type arguments

module _ (defs : List Def) (tvars : List (List ℕ)) (x : List ℕ) (args : List Ty) (one : Bool) (u : Unit {0}) where
  pub made : (vars : List (List ℕ)) (fields : List Field) (t : Table) (k : ℕ) → struct_named defs x ≡ Some (vars, fields) → one ≡ serve defs tvars vars args → demand one ≡ Some u
      → GivesNumber t (Ok k) (Some (named_at x args)) → GivesApplied t defs (Ok (record { kind = comp.Field; takes = k; gives = k })) (make_at defs tvars x args)
  made vars fields t k q s d n =
      let served : serve defs tvars vars args ≡ true = sym s ∙ demanded one u d in
      let e : IsErased t k (named_at x args) = number_is t k (named_at x args) n in
      let i : Instance = record { takes = fields_at vars args fields; gives = named_at x args } in
      let is : make_at defs tvars x args ≡ Some i = rw (q, served) refl in (
        i,
        is,
        record {
          takes = record { name = x; args = map erased args; is = e; each = fields_listed defs x (map erased args) args (λ vs a. once vs args a) vars fields q };
          gives = e;
        },
      )

  pub constructed : (c : Constructor) (s t : Table) (k n : ℕ) → con_named defs x ≡ Some c → one ≡ serve defs tvars c.vars args → demand one ≡ Some u
      → GivesNumber s (Ok k) (Some (named_at x args)) → Grows s t → ((y : List ℕ) (types : List Ty) → IsErased s k (ty.Named y types) → GivesNumber t (Ok n) (Some (ty.Named c.sum types)))
      → GivesApplied t defs (Ok (record { kind = comp.Argument; takes = k; gives = n })) (con_at defs tvars x args)
  constructed c s t k n q v d takes g gives =
      let served : serve defs tvars c.vars args ≡ true = sym v ∙ demanded one u d in
      let e : IsErased s k (named_at x args) = number_is s k (named_at x args) takes in
      let i : Instance = record { takes = map (at c.vars args) c.args; gives = named_at c.sum args } in
      let is : con_at defs tvars x args ≡ Some i = rw (q, served) refl in (
        i,
        is,
        record {
          takes = record {
            name = x;
            args = map erased args;
            is = is_erased_still s t g k (named_at x args) e;
            each = arguments_listed defs x (map erased args) args (λ vs a. once vs args a) c q;
          };
          gives = number_is t n (named_at c.sum args) (gives x (map erased args) e);
        },
      )

  pub called : (f : Signature) (s t : Table) (now : List Def) (k n : ℕ) → fun_named defs x ≡ Some f → one ≡ serve defs tvars f.vars args → demand one ≡ Some u
      → GivesNumber s (Ok k) (Some (named_at x args)) → Grows s t → now ≡ defs
      → ((y : List ℕ) (types : List Ty) → IsErased s k (ty.Named y types) → GivesNumber t (Ok n) (part_at now comp.Result y types 0))
      → GivesApplied t defs (Ok (record { kind = comp.Parameter; takes = k; gives = n })) (call_at defs tvars x args)
  called f s t now k n q v d takes g same gives =
      let served : serve defs tvars f.vars args ≡ true = sym v ∙ demanded one u d in
      let e : IsErased s k (named_at x args) = number_is s k (named_at x args) takes in
      let i : Instance = record { takes = fields_at f.vars args f.params; gives = at f.vars args f.result } in
      let is : call_at defs tvars x args ≡ Some i = rw (q, served) refl in
      let result : part_at defs comp.Result x (map erased args) 0 ≡ Some (at f.vars args f.result) = rw q (ap Some (once f.vars args f.result)) in
      let given : GivesNumber t (Ok n) (part_at defs comp.Result x (map erased args) 0)
      = subst (λ ds. GivesNumber t (Ok n) (part_at ds comp.Result x (map erased args) 0)) same (gives x (map erased args) e) in (
        i,
        is,
        record {
          takes = record {
            name = x;
            args = map erased args;
            is = is_erased_still s t g k (named_at x args) e;
            each = parameters_listed defs x (map erased args) args (λ vs a. once vs args a) f q;
          };
          gives = number_is t n (at f.vars args f.result) (subst (GivesNumber t (Ok n)) result given);
        },
      )

-- ---- at the type arguments of a type

name_is : (x y : List ℕ) → bytes_eq y x ≡ true → y ≡ x
name_is x y h = (bytes_eq-Decides y x).0 h

make_parts_at : (defs : List Def) (x y : List ℕ) (s : List (List ℕ) × List Field) (t : Table) (k : ℕ) (a : Ty) → struct_named defs x ≡ Some s → Some y ≡ head_of (out-Ty a)
    → bytes_eq y x ≡ true → IsErased t k a → GivesParts t defs comp.Field (Ok k) (make_parts defs x a)
make_parts_at defs x y s t k a q head same e =
    let h = headed a y head in
    let args = h.0 in
    let a_is : a ≡ ty.Named x args = h.1 ∙ ap (λ z. ty.Named z args) (name_is x y same) in
    let is : make_parts defs x (ty.Named x args) ≡ Some (fields_at s.0 args s.1) = rw (q, args_again x args) refl in (
      fields_at s.0 args s.1,
      ap (make_parts defs x) a_is ∙ is,
      record {
        name = x;
        args = args;
        is = subst (IsErased t k) a_is e;
        each = fields_listed defs x args args (λ vs b. refl) s.0 s.1 q;
      },
    )

-- the same after a test that there is such a struct
pub make_parts_where : {A : Type 0} (defs : List Def) (x y : List ℕ) (def : A → List (List ℕ) × List Field) (o : Option A) (none : Bool) (t : Table) (k : ℕ) (a : Ty)
    → option_map def o ≡ struct_named defs x → is_some o ≡ not none → none ≡ false → Some y ≡ head_of (out-Ty a) → bytes_eq y x ≡ true → IsErased t k a
    → GivesParts t defs comp.Field (Ok k) (make_parts defs x a)
make_parts_where defs x y def None none t k a q some test head same e = absurd (cc)
make_parts_where defs x y def (Some s) none t k a q some test head same e = make_parts_at defs x y (def s) t k a (sym q) head same e

pub con_parts_at : (defs : List Def) (x y : List ℕ) (c : Constructor) (s t : Table) (k : ℕ) (a : Ty) (r : Result ℕ Missing) → con_named defs x ≡ Some c → Some y ≡ head_of (out-Ty a)
    → bytes_eq y c.sum ≡ true → IsErased s k a → ((z : List ℕ) (args : List Ty) → IsErased s k (ty.Named z args) → GivesNumber t r (Some (ty.Named x args)))
    → GivesParts t defs comp.Argument r (con_parts defs x a)
con_parts_at defs x y c s t k a r q head same e gives = go r (gives c.sum args (subst (IsErased s k) a_is e))
  where
    args : List Ty
    args = (headed a y head).0

    a_is : a ≡ ty.Named c.sum args
    a_is = (headed a y head).1 ∙ ap (λ z. ty.Named z args) (name_is c.sum y same)

    is : con_parts defs x a ≡ Some (map (at c.vars args) c.args)
    is = ap (con_parts defs x) a_is ∙ rw (q, args_again c.sum args) refl

    go : (r : Result ℕ Missing) → GivesNumber t r (Some (ty.Named x args)) → GivesParts t defs comp.Argument r (con_parts defs x a)
    go (Ok n) g =
        (map (at c.vars args) c.args, is, record { name = x; args = args; is = number_is t n (ty.Named x args) g; each = arguments_listed defs x args args (λ vs b. refl) c q })
    go (Err Absent) g = absurd (cc)
    go (Err NoMemory) g = tt

-- the head of a type that has one is that of a name at type arguments
pub is_at : (t : Table) (k : ℕ) (x : List ℕ) (a : Ty) → Some x ≡ head_of (out-Ty a) → IsErased t k a → IsAt t k
is_at t k x a head e = let h = headed a x head in record { name = x; args = h.0; is = subst (IsErased t k) h.1 e }

-- a component of those found is the number of the type at its place
pub part_gives : (s t u : Table) (defs now : List Def) (kind : Component) (k j : ℕ) (types : List Ty) (r : Result ℕ Missing) → Grows s t → now ≡ defs → AreParts s defs kind k types
    → ((x : List ℕ) (args : List Ty) → IsErased t k (ty.Named x args) → GivesNumber u r (part_at now kind x args j)) → GivesNumber u r (slice_get types j)
part_gives s t u defs now kind k j types r g same p gives =
    subst (GivesNumber u r) (p.each j) (subst (λ ds. GivesNumber u r (part_at ds kind p.name p.args j)) same (gives p.name p.args (is_erased_still s t g k (ty.Named p.name p.args) p.is)))

part_listed : (defs : List Def) (x : List ℕ) (j : ℕ) (a : Ty) (types : List Ty) → con_parts defs x a ≡ Some types → slice_get types j ≡ part_type defs x j a
part_listed defs x j a types h = go (con_named defs x) h
  where
    go : (o : Option Constructor) → (o >>= λ c. args_of c.sum (out-Ty a) >>= λ args. Some (map (at c.vars args) c.args)) ≡ Some types
        → slice_get types j ≡ (o >>= λ c. args_of c.sum (out-Ty a) >>= λ args. slice_get c.args j >>= λ b. Some (at c.vars args b))
    go None q = absurd (cc)
    go (Some c) q = at_args (args_of c.sum (out-Ty a)) q
      where
        at_args : (o : Option (List Ty)) → (o >>= λ args. Some (map (at c.vars args) c.args)) ≡ Some types
            → slice_get types j ≡ (o >>= λ args. slice_get c.args j >>= λ b. Some (at c.vars args b))
        at_args None p = absurd (cc)
        at_args (Some args) p =
            let is : map (at c.vars args) c.args ≡ types = cc in
            ap (λ zs. slice_get zs j) (sym is) ∙ slice_get-map (at c.vars args) c.args j ∙ each (slice_get c.args j)
          where
            each : (o : Option Ty) → option_map (at c.vars args) o ≡ (o >>= λ b. Some (at c.vars args b))
            each None = refl
            each (Some b) = refl

pub part_type_gives : (t u : Table) (defs now : List Def) (x : List ℕ) (k j : ℕ) (a : Ty) (r : Result ℕ Missing) → now ≡ defs → GivesParts t defs comp.Argument (Ok k) (con_parts defs x a)
    → ((y : List ℕ) (args : List Ty) → IsErased t k (ty.Named y args) → GivesNumber u r (part_at now comp.Argument y args j)) → GivesNumber u r (part_type defs x j a)
part_type_gives t u defs now x k j a r same p gives =
    subst (GivesNumber u r) (part_listed defs x j a p.0 p.1) (part_gives t t u defs now comp.Argument k j p.0 r (record { names = λ m y h. h; types = λ m b h. h }) same p.2 gives)

-- ---- fields by name

field_placed : (fields : List Field) (y : List ℕ) → field_named fields y ≡ (place_in fields y >>= λ j. slice_get fields j >>= λ f. Some f.ty)
field_placed [] y = refl
field_placed (f ∷ fields) y = go (field_placed fields y) (bytes_eq f.name y)
  where
    later : (o : Option ℕ) → (o >>= λ j. slice_get fields j >>= λ g. Some g.ty) ≡ (option_map suc o >>= λ j. slice_get (f ∷ fields) j >>= λ g. Some g.ty)
    later None = refl
    later (Some j) = refl

    go : field_named fields y ≡ (place_in fields y >>= λ j. slice_get fields j >>= λ g. Some g.ty) → (b : Bool)
        → option_or (if b then Some f.ty else None) (field_named fields y) ≡ ((if b then Some 0 else option_map suc (place_in fields y)) >>= λ j. slice_get (f ∷ fields) j >>= λ g. Some g.ty)
    go rest true = refl
    go rest false = rest ∙ later (place_in fields y)

field_of : (defs : List Def) (x y : List ℕ) (args : List Ty) (s : List (List ℕ) × List Field) → struct_named defs x ≡ Some s
    → field_type defs y (ty.Named x args) ≡ (place_in s.1 y >>= λ j. part_at defs comp.Field x args j)
field_of defs x y args s q = rw (ty.outs-Named x args, q, field_placed s.1 y) (go (place_in s.1 y))
  where
    inner : (o : Option Field) → ((o >>= λ f. Some f.ty) >>= λ b. Some (at s.0 args b)) ≡ ((o >>= λ f. Some (s.0, f.ty)) >>= λ (w : List (List ℕ) × Ty). Some (at w.0 args w.1))
    inner None = refl
    inner (Some f) = refl

    go : (o : Option ℕ) → ((o >>= λ j. slice_get s.1 j >>= λ f. Some f.ty) >>= λ b. Some (at s.0 args b))
        ≡ (o >>= λ j. (slice_get s.1 j >>= λ f. Some (s.0, f.ty)) >>= λ (w : List (List ℕ) × Ty). Some (at w.0 args w.1))
    go None = refl
    go (Some j) = inner (slice_get s.1 j)

-- a name that is no struct's has no fields
pub no_struct : (defs : List Def) (x y : List ℕ) (a : Ty) → struct_named defs x ≡ None → Some x ≡ head_of (out-Ty a) → field_type defs y a ≡ None
no_struct defs x y a none head = let h = headed a x head in ap (field_type defs y) h.1 ∙ rw (ty.outs-Named x h.0, none) refl

-- no field has the name
pub no_field : (defs : List Def) (x y : List ℕ) (s : List (List ℕ) × List Field) (a : Ty) → struct_named defs x ≡ Some s → Some x ≡ head_of (out-Ty a) → None ≡ place_in s.1 y
    → field_type defs y a ≡ None
no_field defs x y s a q head none =
    let h = headed a x head in
    ap (field_type defs y) h.1 ∙ field_of defs x y h.0 s q ∙ ap (λ o. o >>= λ j. part_at defs comp.Field x h.0 j) (sym none)

pub field_gives : (defs now : List Def) (x y : List ℕ) (s : List (List ℕ) × List Field) (t u : Table) (k j : ℕ) (a : Ty) (r : Result ℕ Missing) → struct_named defs x ≡ Some s
    → Some x ≡ head_of (out-Ty a) → Some j ≡ place_in s.1 y → IsErased t k a → now ≡ defs
    → ((z : List ℕ) (args : List Ty) → IsErased t k (ty.Named z args) → GivesNumber u r (part_at now comp.Field z args j)) → GivesNumber u r (field_type defs y a)
field_gives defs now x y s t u k j a r q head place e same gives =
    let h = headed a x head in
    let is : field_type defs y a ≡ part_at defs comp.Field x h.0 j
    = ap (field_type defs y) h.1 ∙ field_of defs x y h.0 s q ∙ ap (λ o. o >>= λ i. part_at defs comp.Field x h.0 i) (sym place) in
    subst (GivesNumber u r) (sym is) (subst (λ ds. GivesNumber u r (part_at ds comp.Field x h.0 j)) same (gives x h.0 (subst (IsErased t k) h.1 e)))

-- ---- patterns

pub any_binds : (defs : List Def) (q : Pat) (a : Ty) (old : Place) → q ≡ p.Any → Binds (Ok tt) (binds defs q a old.scope.vars) old old
any_binds defs q a old is = (old.scope.vars, ap (λ q. binds defs q a old.scope.vars) is ∙ rw (fold_out-Pat, p.outs-Any) refl, refl)

pub variable_binds : (defs : List Def) (q : Pat) (x : List ℕ) (a : Ty) (vars : Vars) → q ≡ p.Bind x → binds defs q a vars ≡ Some ((x, a) ∷ vars)
variable_binds defs q x a vars is = ap (λ q. binds defs q a vars) is ∙ rw (fold_out-Pat, p.outs-Bind) refl

-- what patterns at components bind, seen from the place before
parts_from : (qs : List Pat) (types : List Ty) (t : Table) (old mid new : Place) (k : ℕ) (r : Result (Unit {0}) Missing) (kind : Component) → mid ≡ old → AreParts t old.defs kind k types
    → ((ts : List Ty) → AreParts t mid.defs kind k ts → Binds r (parts_bind (map (binds mid.defs) qs) ts mid.scope.vars) mid new)
    → Binds r (parts_bind (map (binds old.defs) qs) types old.scope.vars) old new
parts_from qs types t old mid new k r kind same are each =
    subst (λ (m : Place). ((ts : List Ty) → AreParts t m.defs kind k ts → Binds r (parts_bind (map (binds m.defs) qs) ts m.scope.vars) m new)) same each types are

pub con_binds : (q : Pat) (x : List ℕ) (qs : List Pat) (a : Ty) (t : Table) (old mid new : Place) (k : ℕ) (r : Result (Unit {0}) Missing) → q ≡ p.Con x qs
    → GivesParts t old.defs comp.Argument (Ok k) (con_parts old.defs x a) → mid ≡ old
    → ((ts : List Ty) → AreParts t mid.defs comp.Argument k ts → Binds r (parts_bind (map (binds mid.defs) qs) ts mid.scope.vars) mid new)
    → Binds r (binds old.defs q a old.scope.vars) old new
con_binds q x qs a t old mid new k r is parts same each =
    let by : binds old.defs (p.Con x qs) a old.scope.vars ≡ (con_parts old.defs x a >>= λ types. parts_bind (map (binds old.defs) qs) types old.scope.vars)
    = rw (fold_out-Pat, p.outs-Con) refl in
    subst (λ o. Binds r o old new) (sym (ap (λ q. binds old.defs q a old.scope.vars) is ∙ by ∙ ap (λ o. o >>= λ types. parts_bind (map (binds old.defs) qs) types old.scope.vars) parts.1))
    (parts_from qs parts.0 t old mid new k r comp.Argument same parts.2 each)

pub make_binds : (q : Pat) (x : List ℕ) (qs : List Pat) (a : Ty) (t : Table) (old new : Place) (k : ℕ) (r : Result (Unit {0}) Missing) → q ≡ p.Make x qs
    → GivesParts t old.defs comp.Field (Ok k) (make_parts old.defs x a)
    → ((ts : List Ty) → AreParts t old.defs comp.Field k ts → Binds r (parts_bind (map (binds old.defs) qs) ts old.scope.vars) old new)
    → Binds r (binds old.defs q a old.scope.vars) old new
make_binds q x qs a t old new k r is parts each =
    let by : binds old.defs (p.Make x qs) a old.scope.vars ≡ (make_parts old.defs x a >>= λ types. parts_bind (map (binds old.defs) qs) types old.scope.vars)
    = rw (fold_out-Pat, p.outs-Make) refl in
    subst (λ o. Binds r o old new) (sym (ap (λ q. binds old.defs q a old.scope.vars) is ∙ by ∙ ap (λ o. o >>= λ types. parts_bind (map (binds old.defs) qs) types old.scope.vars) parts.1))
    (each parts.0 parts.2)

-- ---- one pattern after another

-- what is left of a list, by its first element
abbrev left_by : {A : Type 0} → Option A → List A → List A
left_by None xs = []
left_by (Some x) xs = x ∷ xs

left_is : {A : Type 0} (xs : List A) (j : ℕ) → drop j xs ≡ left_by (slice_get xs j) (drop (j + 1) xs)
left_is xs j = go xs j ∙ ap (λ i. left_by (slice_get xs j) (drop i xs)) (sym (add-one j))
  where
    go : {A : Type 0} (xs : List A) (j : ℕ) → drop j xs ≡ left_by (slice_get xs j) (drop (suc j) xs)
    go [] zero = refl
    go [] (suc j) = refl
    go (x ∷ xs) zero = refl
    go (x ∷ xs) (suc j) = go xs j

-- the pattern at a place, and then those behind
pub next_binds : (defs : List Def) (qs : List Pat) (types : List Ty) (j : ℕ) (q : Pat) (vars : Vars) → j < length qs → q ≡ get_or qs j q
    → parts_bind (map (binds defs) (drop j qs)) (drop j types) vars
    ≡ (slice_get types j >>= λ a. binds defs q a vars >>= λ more. parts_bind (map (binds defs) (drop (j + 1) qs)) (drop (j + 1) types) more)
next_binds defs qs types j q vars below is =
    ap (λ ps. parts_bind (map (binds defs) ps) (drop j types) vars) (left_is qs j ∙ ap (λ o. left_by o (drop (j + 1) qs)) (slice_get_read qs (length qs) j q refl below is))
    ∙ ap (λ ts. parts_bind (binds defs q ∷ map (binds defs) (drop (j + 1) qs)) ts vars) (left_is types j) ∙ go (slice_get types j)
  where
    go : (o : Option Ty) → parts_bind (binds defs q ∷ map (binds defs) (drop (j + 1) qs)) (left_by o (drop (j + 1) types)) vars
        ≡ (o >>= λ a. binds defs q a vars >>= λ more. parts_bind (map (binds defs) (drop (j + 1) qs)) (drop (j + 1) types) more)
    go None = refl
    go (Some a) = refl

-- where variables of patterns were added
abbrev with_bound : Place → Vars → Place
with_bound old vars = in_scope old (record { vars = vars; frame = old.scope.frame })

-- an early end by an error
ended : (o : Option Vars) (old new : Place) (e : Missing) (r : Result (Unit {0}) Missing) → IsErrAnd r (λ y. y ≡ e) → Binds (Err e) o old new → Binds r o old new
ended o old new e r same b = let w = err_from_is_err_and r same in subst (λ r. Binds r o old new) (sym (w.1 ∙ ap Err w.2)) b

module _ (old : Place) (qs : List Pat) (types : List Ty) (j : ℕ) (q : Pat) (vars : Vars) (below : j < length qs) (is : q ≡ get_or qs j q)
    (so_far : parts_bind (map (binds old.defs) (drop j qs)) (drop j types) vars ≡ parts_bind (map (binds old.defs) qs) types old.scope.vars) where
  abbrev rest : Vars → Option Vars
  rest more = parts_bind (map (binds old.defs) (drop (j + 1) qs)) (drop (j + 1) types) more

  whole : parts_bind (map (binds old.defs) qs) types old.scope.vars ≡ (slice_get types j >>= λ a. binds old.defs q a vars >>= λ more. rest more)
  whole = sym so_far ∙ next_binds old.defs qs types j q vars below is

  -- no type is left for the pattern
  pub no_part : (u : Table) (new : Place) (e : Missing) (r : Result (Unit {0}) Missing) → GivesNumber u (Err e) (slice_get types j) → IsErrAnd r (λ y. y ≡ e)
      → Binds r (parts_bind (map (binds old.defs) qs) types old.scope.vars) old new
  no_part u new e r none same = ended (parts_bind (map (binds old.defs) qs) types old.scope.vars) old new e r same (go e none)
    where
      go : (e : Missing) → GivesNumber u (Err e) (slice_get types j) → Binds (Err e) (parts_bind (map (binds old.defs) qs) types old.scope.vars) old new
      go Absent none = whole ∙ ap (λ o. o >>= λ a. binds old.defs q a vars >>= λ more. rest more) none
      go NoMemory none = tt

  -- the pattern does not fit its type
  pub no_match : (u : Table) (k : ℕ) (mid new : Place) (e : Missing) (r : Result (Unit {0}) Missing) → mid ≡ with_bound old vars → GivesNumber u (Ok k) (slice_get types j)
      → ((a : Ty) → IsErased u k a → Binds (Err e) (binds mid.defs q a mid.scope.vars) mid new) → IsErrAnd r (λ y. y ≡ e)
      → Binds r (parts_bind (map (binds old.defs) qs) types old.scope.vars) old new
  no_match u k mid new e r place part none same =
      ended (parts_bind (map (binds old.defs) qs) types old.scope.vars) old new e r same (go e (subst (λ (m : Place). Binds (Err e) (binds m.defs q part.0 m.scope.vars) m new) place (none part.0 part.2)))
    where
      go : (e : Missing) → Binds (Err e) (binds old.defs q part.0 vars) (with_bound old vars) new → Binds (Err e) (parts_bind (map (binds old.defs) qs) types old.scope.vars) old new
      go Absent none =
          whole ∙ ap (λ o. o >>= λ a. binds old.defs q a vars >>= λ more. rest more) part.1 ∙ ap (λ o. o >>= λ more. rest more) none
      go NoMemory none = tt

  -- the patterns behind it are left
  pub one_matched : (u : Table) (k : ℕ) (mid new : Place) (v : Unit {0}) → mid ≡ with_bound old vars → GivesNumber u (Ok k) (slice_get types j)
      → ((a : Ty) → IsErased u k a → Binds (Ok v) (binds mid.defs q a mid.scope.vars) mid new) → rest new.scope.vars ≡ parts_bind (map (binds old.defs) qs) types old.scope.vars
  one_matched u k mid new v place part some =
      let b : Binds (Ok v) (binds old.defs q part.0 vars) (with_bound old vars) new = subst (λ (m : Place). Binds (Ok v) (binds m.defs q part.0 m.scope.vars) m new) place (some part.0 part.2) in
      ap (λ (m : Place). rest m.scope.vars) b.2
      ∙ sym (whole ∙ ap (λ o. o >>= λ a. binds old.defs q a vars >>= λ more. rest more) part.1 ∙ ap (λ o. o >>= λ more. rest more) b.1)

-- only the variables in scope are others
pub still_bound : (old mid new : Place) (vars : Vars) (u : Table) (k : ℕ) (a : Ty) (q : Pat) (v : Unit {0}) → mid ≡ with_bound old vars → IsErased u k a
    → ((a : Ty) → IsErased u k a → Binds (Ok v) (binds mid.defs q a mid.scope.vars) mid new) → new ≡ with_bound old new.scope.vars
still_bound old mid new vars u k a q v place e some =
    let b : Binds (Ok v) (binds old.defs q a vars) (with_bound old vars) new = subst (λ (m : Place). Binds (Ok v) (binds m.defs q a m.scope.vars) m new) place (some a e) in
    b.2 ∙ ap (λ vs. with_bound old vs) (sym (ap (λ (m : Place). m.scope.vars) b.2))

-- no pattern is left
last_binds : (defs : List Def) (qs : List Pat) (types : List Ty) (vars : Vars) (one : Bool) (r : Result (Unit {0}) Missing) (old : Place) → one ≡ is_none (slice_get types (length qs))
    → Gives r (demand one) → Binds r (parts_bind (map (binds defs) (drop (length qs) qs)) (drop (length qs) types) vars) old (with_bound old vars)
last_binds defs qs types vars one r old is gives =
    subst (λ o. Binds r o old (with_bound old vars)) (sym (ap (λ ps. parts_bind (map (binds defs) ps) (drop (length qs) types) vars) (drop_all qs)
    ∙ ap (λ ts. parts_bind [] ts vars) (left_is types (length qs)))) (go (slice_get types (length qs)) r (subst (λ b. Gives r (demand b)) is gives))
  where
    go : (o : Option Ty) (r : Result (Unit {0}) Missing) → Gives r (demand (is_none o)) → Binds r (parts_bind [] (left_by o (drop (length qs + 1) types)) vars) old (with_bound old vars)
    go None (Ok u) g = (vars, refl, refl)
    go None (Err Absent) g = absurd (cc)
    go None (Err NoMemory) g = tt
    go (Some a) (Ok u) g = absurd (cc)
    go (Some a) (Err Absent) g = refl
    go (Some a) (Err NoMemory) g = tt

-- all types have a pattern
pub all_matched : (old now : Place) (s t : Table) (kind : Component) (k j : ℕ) (qs : List Pat) (types : List Ty) (one : Bool) (r : Result (Unit {0}) Missing) → now ≡ with_bound old now.scope.vars → Grows s t
    → parts_bind (map (binds old.defs) (drop j qs)) (drop j types) now.scope.vars ≡ parts_bind (map (binds old.defs) qs) types old.scope.vars → j ≡ length qs → AreParts s old.defs kind k types
    → ((x : List ℕ) (args : List Ty) → IsErased t k (ty.Named x args) → one ≡ is_none (part_at now.defs kind x args (length qs))) → Gives r (demand one)
    → Binds r (parts_bind (map (binds old.defs) qs) types old.scope.vars) old now
all_matched old now s t kind k j qs types one r place g so_far end p ends gives =
    let is : one ≡ is_none (slice_get types (length qs))
    = ends p.name p.args (is_erased_still s t g k (ty.Named p.name p.args) p.is) ∙ ap (λ (m : Place). is_none (part_at m.defs kind p.name p.args (length qs))) place
    ∙ ap is_none (p.each (length qs)) in
    subst (λ n. Binds r (parts_bind (map (binds old.defs) qs) types old.scope.vars) old n) (sym place)
    (subst (λ o. Binds r o old (with_bound old now.scope.vars))
    (ap (λ i. parts_bind (map (binds old.defs) (drop i qs)) (drop i types) now.scope.vars) (sym end) ∙ so_far) (last_binds old.defs qs types now.scope.vars one r old is gives))
