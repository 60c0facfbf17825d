-- Values of a type, and what keeps them so.
use Rattle.std.proofs.Common.{◌≡◌, ℕ, zero, suc, ◌+◌, ◌^◌, ◌<◌, ◌≤◌, Bool, true, false, if◌then◌else◌, List, [], ◌∷◌, Some, None, slice_get, map, length, refl, sym, ap, ◌∙◌, subst}
use Rattle.std.specs.List.{AllByRecursion}
use Rattle.std.specs.Option.{option_or}
use Rattle.std.specs.Str.{bytes_eq}
use Rattle.krml_trace.specs.declared.width.Width.{Width}
use Rattle.krml_trace.specs.declared.width.Width.TheVariants.{W8, W32, W64}
use Rattle.krml_trace.specs.Width.{bits, same_width}
use Rattle.krml_syntax.specs.declared.tree.Ty.{Ty, out-Ty}
use Rattle.krml_syntax.specs.declared.tree.Ty.TheVariants as t
use Rattle.krml_syntax.specs.declared.tree.Ty.TheOpen.{Ty-F}
use Rattle.krml_syntax.specs.declared.tree.Field.{Field}
use Rattle.krml_syntax.specs.declared.tree.Con.{Con}
use Rattle.krml_syntax.specs.declared.tree.Def.{Def}
use Rattle.krml_ast.specs.Names.{Struct, Sum, type_named, field_named}
use Rattle.krml_syntax.specs.Types.{type_at}
use Rattle.krml_ast.specs.IsType.{HoldsBuffer, IsFlat, IsType, AreArguments}
use Rattle.krml_ast.specs.Typing.{at, fields_at}
use Rattle.krml_ast.specs.WellTyped.{names_of}
use Rattle.krml_meaning.specs.declared.value.Value.{Value, out-Value}
use Rattle.krml_meaning.specs.declared.value.Value.TheOpen.{Value-F}
use Rattle.krml_meaning.specs.declared.value.Value.TheVariants as v
use Rattle.krml_meaning.specs.State.{Block, SourceState, SourceRan, as_number, as_truth, as_buffer, as_struct, as_con, number_in, truth_in, buffer_in, struct_in, con_in}
use Rattle.krml_meaning.specs.Meaning.{field_of}
use Rattle.krml_meaning.specs.Shape.{number_ty, Usable, HasShape, AllHaveShape, Extends}
use Rattle.krml_trace.specs.After.{After}
use Rattle.krml_meaning.proofs.Lists.{same_some, no_some, same_answer, each_among}
use Rattle.krml_meaning.proofs.Flat.{holds_erased, holds_at, all_flat}
use Rattle.krml_meaning.proofs.Facts.{Facts, same_struct}

pub extends_same : (m : List Block) → Extends m m
extends_same m = record { opened = λ n a len o. o; usable = λ n a len u. u }

pub extends_then : (m now late : List Block) → Extends m now → Extends now late → Extends m late
extends_then m now late p q = record {
  opened = λ n a len o. q.opened n a len (p.opened n a len o);
  usable = λ n a len u. q.usable n a len (p.usable n a len u);
}

pub extends_none : (m : List Block) → Extends [] m
extends_none m = record { opened = λ n a len o. absurd (no_some o.block o.there); usable = λ n a len u. absurd (no_some u.is_open.block u.is_open.there) }

pub same_width_is : (w : Width) → same_width w w ≡ true
same_width_is W8 = refl
same_width_is W32 = refl
same_width_is W64 = refl

module _ (defs : List Def) where
  -- ---- one layer of a value, and of its type

  pub record StructShape (m : List Block) (names : List (List ℕ)) (xs : List Value) (x : List ℕ) (args : List Ty) : Type 0 where
    pub vars : List (List ℕ)
    pub fields : List Field
    pub is : type_named defs x ≡ Some (Struct vars fields)
    pub count : length args ≡ length vars
    pub typed : AreArguments defs [] args
    pub names_are : names ≡ names_of fields
    pub all : AllHaveShape defs m xs (fields_at vars args fields)

  pub record ConShape (m : List Block) (k : ℕ) (xs : List Value) (x : List ℕ) (args : List Ty) : Type 0 where
    pub vars : List (List ℕ)
    pub cons : List Con
    pub c : Con
    pub is : type_named defs x ≡ Some (Sum vars cons)
    pub count : length args ≡ length vars
    pub typed : AreArguments defs [] args
    pub there : slice_get cons k ≡ Some c
    pub all : AllHaveShape defs m xs (map (at vars args) c.args)

  abbrev pub ShapeIn : List Block → Value-F Value → Ty-F Ty → Type 0
  ShapeIn m Value-F.Unit Ty-F.Unit = Unit {0}
  ShapeIn m (Value-F.Bool b) Ty-F.Bool = Unit {0}
  ShapeIn m (Value-F.Num w n) (Ty-F.Int i) = (i.width ≡ w) × (n < 2 ^ bits w)
  ShapeIn m (Value-F.Struct names xs) (Ty-F.Named x args) = StructShape m names xs x args
  ShapeIn m (Value-F.Con k xs) (Ty-F.Named x args) = ConShape m k xs x args
  ShapeIn m (Value-F.Buf n off len) (Ty-F.Buf a) = (size : ℕ) × Usable m n a size × (off + len ≤ size)
  ShapeIn m _ _ = ⊥

  pub shape_in : (m : List Block) (x : Value) (a : Ty) → HasShape defs m x a → ShapeIn m (out-Value x) (out-Ty a)
  shape_in m x a HasShape.unit = rw (v.outs-Unit, t.outs-Unit) tt
  shape_in m x a (HasShape.bool {b = b}) = rw (v.outs-Bool b, t.outs-Bool) tt
  shape_in m x a (HasShape.num {w = w} {n = n} h) = rw (v.outs-Num w n, t.outs-Int (record { width = w; secret = false })) (refl, h)
  shape_in m x a (HasShape.struct {x = s} {vars = vars} {fields = fields} {args = args} {xs = xs} is n oks all) =
      rw (v.outs-Struct (names_of fields) xs, t.outs-Named s args) (record { vars = vars; fields = fields; is = is; count = n; typed = oks; names_are = refl; all = all })
  shape_in m x a (HasShape.con {x = s} {vars = vars} {cons = cons} {k = k} {c = c} {args = args} {xs = xs} is n oks there all) =
      rw (v.outs-Con k xs, t.outs-Named s args) (record { vars = vars; cons = cons; c = c; is = is; count = n; typed = oks; there = there; all = all })
  shape_in m x a (HasShape.buf {n = n} {off = off} {len = len} {size = size} {a = b} u h) = rw (v.outs-Buf n off len, t.outs-Buf b) (size, u, h)

  -- ---- in a memory that extends this one

  mutual
    pub shape_on : (m now : List Block) (x : Value) (a : Ty) → Extends m now → HasShape defs m x a → HasShape defs now x a
    shape_on m now x a p HasShape.unit = HasShape.unit
    shape_on m now x a p HasShape.bool = HasShape.bool
    shape_on m now x a p (HasShape.num h) = HasShape.num h
    shape_on m now x a p (HasShape.struct {vars = vars} {fields = fields} {args = args} {xs = xs} is n oks all) =
        HasShape.struct is n oks (shapes_on m now xs (fields_at vars args fields) p all)
    shape_on m now x a p (HasShape.con {vars = vars} {c = c} {args = args} {xs = xs} is n oks there all) =
        HasShape.con is n oks there (shapes_on m now xs (map (at vars args) c.args) p all)
    shape_on m now x a p (HasShape.buf {n = n} {size = size} {a = b} u h) = HasShape.buf (p.usable n b size u) h

    pub shapes_on : (m now : List Block) (xs : List Value) (types : List Ty) → Extends m now → AllHaveShape defs m xs types → AllHaveShape defs now xs types
    shapes_on m now xs types p AllHaveShape.none = AllHaveShape.none
    shapes_on m now xs types p (AllHaveShape.one {x = y} {a = a} {xs = ys} {types = more} h all) = AllHaveShape.one (shape_on m now y a p h) (shapes_on m now ys more p all)

  -- ---- without buffers

  abbrev NoneHolds : List Ty → Type 0
  NoneHolds types = AllByRecursion (λ a. HoldsBuffer defs a → ⊥) types

  none_at : (vars : List (List ℕ)) (args : List Ty) → AreArguments defs [] args → (a : Ty) → (HoldsBuffer defs a → ⊥) → HoldsBuffer defs (at vars args a) → ⊥
  none_at vars args oks a f h = f (holds_at defs vars args (all_flat defs [] args oks) a (holds_erased defs (type_at vars args a) h))

  fields_none : (vars : List (List ℕ)) (args : List Ty) → AreArguments defs [] args → (fields : List Field) → AllByRecursion (λ f. HoldsBuffer defs f.ty → ⊥) fields
      → NoneHolds (fields_at vars args fields)
  fields_none vars args oks [] h = tt
  fields_none vars args oks (f ∷ fields) h = (none_at vars args oks f.ty h.0, fields_none vars args oks fields h.1)

  module _ (facts : Facts defs) where
    args_none : (vars : List (List ℕ)) (args : List Ty) → AreArguments defs [] args → (types : List Ty) → AllByRecursion (λ a. IsType defs vars a × IsFlat defs a) types
        → NoneHolds (map (at vars args) types)
    args_none vars args oks [] h = tt
    args_none vars args oks (a ∷ types) h = (none_at vars args oks a h.0.1.flat, args_none vars args oks types h.1)

    -- a value of a type that holds no buffer has it in any memory
    mutual
      pub flat_shape : (m now : List Block) (x : Value) (a : Ty) → (HoldsBuffer defs a → ⊥) → HasShape defs m x a → HasShape defs now x a
      flat_shape m now x a f HasShape.unit = HasShape.unit
      flat_shape m now x a f HasShape.bool = HasShape.bool
      flat_shape m now x a f (HasShape.num h) = HasShape.num h
      flat_shape m now x a f (HasShape.struct {vars = vars} {fields = fields} {args = args} {xs = xs} is n oks all) =
          HasShape.struct is n oks (flat_shapes m now xs (fields_at vars args fields)
          (fields_none vars args oks fields (each_among (λ g. HoldsBuffer defs g.ty → ⊥) fields (λ g has h. f (HoldsBuffer.field args is has h)))) all)
      flat_shape m now x a f (HasShape.con {x = s} {vars = vars} {cons = cons} {k = k} {c = c} {args = args} {xs = xs} is n oks there all) =
          HasShape.con is n oks there (flat_shapes m now xs (map (at vars args) c.args) (args_none vars args oks c.args (facts.cons s vars cons k c is there)) all)
      flat_shape m now x a f (HasShape.buf {a = b} u h) = absurd (f (HoldsBuffer.buffer b))

      pub flat_shapes : (m now : List Block) (xs : List Value) (types : List Ty) → NoneHolds types → AllHaveShape defs m xs types → AllHaveShape defs now xs types
      flat_shapes m now xs types f AllHaveShape.none = AllHaveShape.none
      flat_shapes m now xs types f (AllHaveShape.one {x = y} {a = a} {xs = ys} {types = more} h all) =
          AllHaveShape.one (flat_shape m now y a f.0 h) (flat_shapes m now ys more f.1 all)

  -- ---- what a typed value gives where its shape is asked for

  module _ {A : Type 0} (Q : A → SourceState → Type 0) (m : List Block) (s : SourceState) where
    is_number : (w : Width) (o : Value-F Value) (next : ℕ → SourceRan A) → ShapeIn m o (Ty-F.Int (record { width = w; secret = false }))
        → ((n : ℕ) → n < 2 ^ bits w → o ≡ Value-F.Num w n → After Q (next n)) → After Q (number_in w o s next)
    is_number w (Value-F.Num u n) next h k =
        let same : same_width w u ≡ true = ap (same_width w) (sym h.0) ∙ same_width_is w in
        rw same (k n (subst (λ z. n < 2 ^ bits z) (sym h.0) h.1) (ap (λ z. Value-F.Num z n) (sym h.0)))
    is_number w Value-F.Unit next h k = absurd h
    is_number w (Value-F.Bool b) next h k = absurd h
    is_number w (Value-F.Struct names xs) next h k = absurd h
    is_number w (Value-F.Con i xs) next h k = absurd h
    is_number w (Value-F.Buf n off len) next h k = absurd h

    pub after_number : (w : Width) (x : Value) (next : ℕ → SourceRan A) → HasShape defs m x (number_ty w)
        → ((n : ℕ) → n < 2 ^ bits w → out-Value x ≡ Value-F.Num w n → After Q (next n)) → After Q (as_number w x s next)
    after_number w x next h k = is_number w (out-Value x) next (subst (ShapeIn m (out-Value x)) (t.outs-Int (record { width = w; secret = false })) (shape_in m x (number_ty w) h)) k

    is_truth : (o : Value-F Value) (next : Bool → SourceRan A) → ShapeIn m o Ty-F.Bool → ((b : Bool) → After Q (next b)) → After Q (truth_in o s next)
    is_truth (Value-F.Bool b) next h k = k b
    is_truth (Value-F.Num w n) next h k = absurd h
    is_truth Value-F.Unit next h k = absurd h
    is_truth (Value-F.Struct names xs) next h k = absurd h
    is_truth (Value-F.Con i xs) next h k = absurd h
    is_truth (Value-F.Buf n off len) next h k = absurd h

    pub after_truth : (x : Value) (next : Bool → SourceRan A) → HasShape defs m x t.Bool → ((b : Bool) → After Q (next b)) → After Q (as_truth x s next)
    after_truth x next h k = is_truth (out-Value x) next (subst (ShapeIn m (out-Value x)) t.outs-Bool (shape_in m x t.Bool h)) k

    is_buffer : (a : Ty) (o : Value-F Value) (next : ℕ → ℕ → ℕ → SourceRan A) → ShapeIn m o (Ty-F.Buf a)
        → ((n off len size : ℕ) → Usable m n a size → off + len ≤ size → After Q (next n off len)) → After Q (buffer_in o s next)
    is_buffer a (Value-F.Buf n off len) next h k = k n off len h.0 h.1 h.2
    is_buffer a (Value-F.Bool b) next h k = absurd h
    is_buffer a (Value-F.Num w n) next h k = absurd h
    is_buffer a Value-F.Unit next h k = absurd h
    is_buffer a (Value-F.Struct names xs) next h k = absurd h
    is_buffer a (Value-F.Con i xs) next h k = absurd h

    pub after_buffer : (a : Ty) (x : Value) (next : ℕ → ℕ → ℕ → SourceRan A) → HasShape defs m x (t.Buf a)
        → ((n off len size : ℕ) → Usable m n a size → off + len ≤ size → After Q (next n off len)) → After Q (as_buffer x s next)
    after_buffer a x next h k = is_buffer a (out-Value x) next (subst (ShapeIn m (out-Value x)) (t.outs-Buf a) (shape_in m x (t.Buf a) h)) k

    module _ (x : List ℕ) (args : List Ty) where
      is_struct : (vars : List (List ℕ)) (fields : List Field) → type_named defs x ≡ Some (Struct vars fields) → (o : Value-F Value) (next : List (List ℕ) → List Value → SourceRan A)
          → ShapeIn m o (Ty-F.Named x args) → ((names : List (List ℕ)) (xs : List Value) → StructShape m names xs x args → After Q (next names xs)) → After Q (struct_in o s next)
      is_struct vars fields is (Value-F.Struct names xs) next h k = k names xs h
      is_struct vars fields is (Value-F.Con i xs) next h k = absurd (no_sum (same_answer (type_named defs x) (Struct vars fields) (Sum h.vars h.cons) is h.is))
        where
          no_sum : {vs ws : List (List ℕ)} {fs : List Field} {cs : List Con} → Struct vs fs ≡ Sum ws cs → ⊥
          no_sum e = cc
      is_struct vars fields is (Value-F.Bool b) next h k = absurd h
      is_struct vars fields is (Value-F.Num w n) next h k = absurd h
      is_struct vars fields is Value-F.Unit next h k = absurd h
      is_struct vars fields is (Value-F.Buf n off len) next h k = absurd h

      pub after_struct : (vars : List (List ℕ)) (fields : List Field) → type_named defs x ≡ Some (Struct vars fields) → (y : Value) (next : List (List ℕ) → List Value → SourceRan A)
          → HasShape defs m y (t.Named x args) → ((names : List (List ℕ)) (xs : List Value) → StructShape m names xs x args → After Q (next names xs)) → After Q (as_struct y s next)
      after_struct vars fields is y next h k = is_struct vars fields is (out-Value y) next (subst (ShapeIn m (out-Value y)) (t.outs-Named x args) (shape_in m y (t.Named x args) h)) k

      is_con : (vars : List (List ℕ)) (cons : List Con) → type_named defs x ≡ Some (Sum vars cons) → (o : Value-F Value) (next : ℕ → List Value → SourceRan A)
          → ShapeIn m o (Ty-F.Named x args) → ((k : ℕ) (xs : List Value) → ConShape m k xs x args → After Q (next k xs)) → After Q (con_in o s next)
      is_con vars cons is (Value-F.Con i xs) next h k = k i xs h
      is_con vars cons is (Value-F.Struct names xs) next h k = absurd (no_struct (same_answer (type_named defs x) (Struct h.vars h.fields) (Sum vars cons) h.is is))
        where
          no_struct : {vs ws : List (List ℕ)} {fs : List Field} {cs : List Con} → Struct vs fs ≡ Sum ws cs → ⊥
          no_struct e = cc
      is_con vars cons is (Value-F.Bool b) next h k = absurd h
      is_con vars cons is (Value-F.Num w n) next h k = absurd h
      is_con vars cons is Value-F.Unit next h k = absurd h
      is_con vars cons is (Value-F.Buf n off len) next h k = absurd h

      pub after_con : (vars : List (List ℕ)) (cons : List Con) → type_named defs x ≡ Some (Sum vars cons) → (y : Value) (next : ℕ → List Value → SourceRan A)
          → HasShape defs m y (t.Named x args) → ((k : ℕ) (xs : List Value) → ConShape m k xs x args → After Q (next k xs)) → After Q (as_con y s next)
      after_con vars cons is y next h k = is_con vars cons is (out-Value y) next (subst (ShapeIn m (out-Value y)) (t.outs-Named x args) (shape_in m y (t.Named x args) h)) k

  -- ---- parts

  pub shape_at : (m : List Block) (xs : List Value) (types : List Ty) (j : ℕ) (a : Ty) → AllHaveShape defs m xs types → slice_get types j ≡ Some a
      → (x : Value) × (slice_get xs j ≡ Some x) × HasShape defs m x a
  shape_at m xs types j a AllHaveShape.none e = absurd (no_some a e)
  shape_at m xs types zero a (AllHaveShape.one {x = x} {a = b} h all) e = (x, refl, subst (HasShape defs m x) (same_some b a e) h)
  shape_at m xs types (suc j) a (AllHaveShape.one {xs = ys} {types = more} h all) e = shape_at m ys more j a all e

  abbrev ShapesIn : List Block → List Value → List Ty → Type 0
  ShapesIn m [] [] = Unit {0}
  ShapesIn m (x ∷ xs) (a ∷ types) = HasShape defs m x a × AllHaveShape defs m xs types
  ShapesIn m _ _ = ⊥

  pub shapes_in : (m : List Block) (xs : List Value) (types : List Ty) → AllHaveShape defs m xs types → ShapesIn m xs types
  shapes_in m xs types AllHaveShape.none = tt
  shapes_in m xs types (AllHaveShape.one h all) = (h, all)

  module _ (vars : List (List ℕ)) (args : List Ty) (y : List ℕ) (b : Ty) (m : List Block) where
    field_value : (fields : List Field) (xs : List Value) → AllHaveShape defs m xs (fields_at vars args fields) → field_named fields y ≡ Some b
        → (z : Value) × (field_of (names_of fields) xs y ≡ Some z) × HasShape defs m z (at vars args b)
    field_value [] xs all q = absurd (no_some b q)
    field_value (f ∷ fields) [] all q = absurd (shapes_in m [] (fields_at vars args (f ∷ fields)) all)
    field_value (f ∷ fields) (x ∷ xs) all q =
        let both = shapes_in m (x ∷ xs) (fields_at vars args (f ∷ fields)) all in
        go (bytes_eq f.name y) q both.0 (λ e. field_value fields xs both.1 e)
      where
        go : (c : Bool) → option_or (if c then Some f.ty else None) (field_named fields y) ≡ Some b → HasShape defs m x (at vars args f.ty)
            → (field_named fields y ≡ Some b → (z : Value) × (field_of (names_of fields) xs y ≡ Some z) × HasShape defs m z (at vars args b))
            → (z : Value) × ((if c then Some x else field_of (names_of fields) xs y) ≡ Some z) × HasShape defs m z (at vars args b)
        go true e h later = (x, refl, subst (λ w. HasShape defs m x (at vars args w)) (same_some f.ty b e) h)
        go false e h later = later e

  pub field_there : (x y : List ℕ) (args : List Ty) (vars : List (List ℕ)) (fields : List Field) (b : Ty) (m : List Block) (names : List (List ℕ)) (xs : List Value)
      → type_named defs x ≡ Some (Struct vars fields) → field_named fields y ≡ Some b → StructShape m names xs x args
      → (z : Value) × (field_of names xs y ≡ Some z) × HasShape defs m z (at vars args b)
  field_there x y args vars fields b m names xs is q h =
      let same = same_struct h.vars vars h.fields fields (same_answer (type_named defs x) (Struct h.vars h.fields) (Struct vars fields) h.is is) in
      let f = field_value h.vars args y b m h.fields xs h.all (subst (λ z. field_named z y ≡ Some b) (sym same.1) q) in
      (f.0, ap (λ z. field_of z xs y) h.names_are ∙ f.1, subst (λ z. HasShape defs m f.0 (at z args b)) same.0 f.2)

  pub struct_count : (x : List ℕ) (args : List Ty) (vars : List (List ℕ)) (fields : List Field) (m : List Block) (names : List (List ℕ)) (xs : List Value)
      → type_named defs x ≡ Some (Struct vars fields) → StructShape m names xs x args → length args ≡ length vars
  struct_count x args vars fields m names xs is h =
      let same = same_struct h.vars vars h.fields fields (same_answer (type_named defs x) (Struct h.vars h.fields) (Struct vars fields) h.is is) in
      h.count ∙ ap (λ z. length z) same.0
