-- What a well typed file gives to runs.
use Rattle.std.proofs.Common.{◌≡◌, ℕ, suc, ◌<◌, ◌^◌, Bool, true, false, if◌then◌else◌, List, [], ◌∷◌, ◌++◌, map, length, take, slice_get, flat_map, Option, Some, None, option_map, ◌⊎◌, inl, inr, Contains, refl, sym, ap, ◌∙◌, subst, arith, append_assoc, append-nil}
use Rattle.std.specs.List.{AllByRecursion, IsDistinct}
use Rattle.std.specs.Option.{option_or}
use Rattle.std.specs.Str.{bytes_eq}
use Rattle.std.proofs.lemmas.List.Elements.{Contains-append_left, Contains-append_right}
use Rattle.std.proofs.lemmas.Slice.Eq.{bytes_eq-Decides}
use Rattle.krml_trace.specs.Width.{bits}
use Rattle.krml_trace.specs.First.{numbered}
use Rattle.krml_trace.proofs.First.{or_none, answers, first_kept, first_later, first_last, not_if, not_map, silent_too, same_item, first_numbered, get_numbered}
use Rattle.krml_trace.proofs.Lists.{take_front, at_front, contains_first}
use Rattle.krml_syntax.specs.declared.tree.IntTy.{IntTy}
use Rattle.krml_syntax.specs.declared.tree.Ty.{Ty}
use Rattle.krml_syntax.specs.declared.tree.Field.{Field}
use Rattle.krml_syntax.specs.declared.tree.Con.{Con}
use Rattle.krml_syntax.specs.declared.tree.Expr.{Expr}
use Rattle.krml_syntax.specs.declared.tree.Def.{Def}
use Rattle.krml_syntax.specs.declared.tree.Def.TheVariants as d
use Rattle.krml_ast.specs.Names.{Struct, Sum, Constructor, Signature, args_here, con_in, con_from, con_here, type_here, type_named, con_named, table_here, table_named, fun_here, fun_named}
use Rattle.krml_syntax.specs.Types.{erased}
use Rattle.krml_ast.specs.IsType.{IsValue, IsFlat, IsType}
use Rattle.krml_ast.specs.Typing.{IsResult, HasType}
use Rattle.krml_ast.specs.WellTyped.{type_name, names_of, WellTyped, AreWellTyped}
use Rattle.krml_ast.proofs.Earlier.{named_more, named_last}
use Rattle.krml_ast.proofs.Named.{answer_of, is_struct, is_sum, is_table, is_fun}
use Rattle.krml_meaning.specs.Meaning.{place_here, place_in, con_place_here, con_place, table_at, function_here, function_named}
use Rattle.krml_meaning.proofs.Lists.{same_some, no_some, each_get, each_so}
use Rattle.krml_meaning.proofs.Earlier.{Settled, none_settled, fields_more, cons_more}
use Rattle.krml_meaning.proofs.Facts.{InSum, InTable, IsFunction, Facts}
use Rattle.krml_meaning.proofs.Types.{name_same}

-- ---- places

each_by_get : {A : Type 0} (P : A → Type 0) (xs : List A) → ((k : ℕ) (x : A) → slice_get xs k ≡ Some x → P x) → AllByRecursion P xs
each_by_get P [] h = tt
each_by_get P (x ∷ xs) h = (h 0 x refl, each_by_get P xs (λ k y e. h (suc k) y e))

-- where the name is asked for, the answer is there
here_is : {A : Type 0} (x : List ℕ) (a : A) → (if bytes_eq x x then Some a else None) ≡ Some a
here_is x a = ap (λ (b : Bool). if b then Some a else None) (name_same x)

other : {A : Type 0} (name x : List ℕ) (a : A) → (Contains (name ∷ []) x → ⊥) → (if bytes_eq name x then Some a else None) ≡ None
other name x a absent = go (bytes_eq name x) refl
  where
    go : (b : Bool) → bytes_eq name x ≡ b → (if b then Some a else None) ≡ None
    go true q = absurd (absent (subst (Contains (name ∷ [])) ((bytes_eq-Decides name x).0 q) (contains_first name [])))
    go false q = refl

-- ---- structs and sums

pub new_fields : (defs before : List Def) (x : List ℕ) (vars : List (List ℕ)) (fields : List Field) → WellTyped defs before (d.Struct x vars fields)
    → AllByRecursion (λ f. IsType before vars f.ty) fields
new_fields defs before x vars fields (WellTyped.struct new vs fs ok) = each_so (λ f. IsType before vars f.ty × IsValue f.ty) (λ f. IsType before vars f.ty) fields (λ f k. k.0) ok

pub new_cons : (defs before : List Def) (x : List ℕ) (vars : List (List ℕ)) (cons : List Con) → WellTyped defs before (d.Sum x vars cons)
    → AllByRecursion (λ c. AllByRecursion (λ a. IsType before vars a × IsFlat before a) c.args) cons
new_cons defs before x vars cons (WellTyped.sum new cs vs ok) = ok

pub settled_more : (defs before : List Def) (def : Def) → Settled before → WellTyped defs before def → Settled (before ++ def ∷ [])
settled_more defs before def s w = record {
  fields = λ x vars fields is. go x vars fields (named_last before def x (Struct vars fields) is);
  cons = λ x vars cons is. sums x vars cons (named_last before def x (Sum vars cons) is);
}
  where
    go : (x : List ℕ) (vars : List (List ℕ)) (fields : List Field) → (type_named before x ≡ Some (Struct vars fields)) ⊎ (type_here x def ≡ Some (Struct vars fields))
        → AllByRecursion (λ f. IsType (before ++ def ∷ []) vars f.ty) fields
    go x vars fields (inl is) = fields_more before (def ∷ []) s vars fields (s.fields x vars fields is)
    go x vars fields (inr is) = fields_more before (def ∷ []) s vars fields (new_fields defs before x vars fields (subst (WellTyped defs before) (is_struct x vars fields def is) w))

    sums : (x : List ℕ) (vars : List (List ℕ)) (cons : List Con) → (type_named before x ≡ Some (Sum vars cons)) ⊎ (type_here x def ≡ Some (Sum vars cons))
        → AllByRecursion (λ c. AllByRecursion (λ a. IsType (before ++ def ∷ []) vars a × IsFlat (before ++ def ∷ []) a) c.args) cons
    sums x vars cons (inl is) = cons_more before (def ∷ []) s vars cons (s.cons x vars cons is)
    sums x vars cons (inr is) = cons_more before (def ∷ []) s vars cons (new_cons defs before x vars cons (subst (WellTyped defs before) (is_sum x vars cons def is) w))

-- ---- tables

table_fits : (defs before : List Def) (x : List ℕ) (i : IntTy) (nums : List ℕ) → WellTyped defs before (d.Table x i nums) → AllByRecursion (λ n. n < 2 ^ bits i.width) nums
table_fits defs before x i nums (WellTyped.table new ok) = ok

-- where a definition is no table of the name for its type, it is none for its numbers
no_table : (x : List ℕ) (p : ℕ × Def) → table_here x p.1 ≡ None → table_at p.0 x p.1 ≡ None
no_table x (k, d.Table name ty nums) e = not_if (bytes_eq name x) ty _ e
no_table x (k, d.Struct name vars fields) e = refl
no_table x (k, d.Sum name vars cons) e = refl
no_table x (k, d.Fun name vars params result body) e = refl
no_table x (k, d.Entry name) e = refl

table_there : (defs : List Def) → AreWellTyped defs → (x : List ℕ) (i : IntTy) → table_named defs x ≡ Some i → InTable defs x i
table_there defs typed x i e =
    let a = answers (λ p. table_here x p.1) (numbered 0 defs) i (first_numbered (table_here x) 0 defs ∙ e) in
    let k = is_table x i a.item.1 a.gives in
    let s = get_numbered 0 defs a.place a.item a.there in
    let is : table_at a.item.0 x a.item.1 ≡ Some (record { place = a.item.0; ty = i; nums = k.0 }) = ap (table_at a.item.0 x) k.1 ∙ here_is x _ in
    record {
      table = record { place = a.item.0; ty = i; nums = k.0 };
      is = same_item (λ p. table_here x p.1) (λ p. table_at p.0 x p.1) (no_table x) (numbered 0 defs) i a _ is;
      ty = refl;
      fit = table_fits defs (take a.place defs) x i k.0 (typed a.place (d.Table x i k.0) (s.1 ∙ ap Some k.1));
    }

-- ---- functions

-- what is said of the parts of a function
pub record FunTyped (defs : List Def) (vars : List (List ℕ)) (params : List Field) (result : Ty) (body : Expr) : Type 0 where
  pub distinct : IsDistinct bytes_eq (names_of params)
  pub each : AllByRecursion (λ p. IsType defs vars p.ty) params
  pub gives : IsType defs vars result
  pub answers : IsResult defs result
  pub typed : HasType defs vars (record { vars = map (λ p. (p.name, erased p.ty)) params; frame = None }) body (erased result)

fun_fits : (defs before : List Def) (x : List ℕ) (vars : List (List ℕ)) (params : List Field) (result : Ty) (body : Expr) → WellTyped defs before (d.Fun x vars params result body)
    → FunTyped defs vars params result body
fun_fits defs before x vars params result body (WellTyped.fun new vs ps ok r res b) = record {
  distinct = ps;
  each = each_so (λ p. IsType defs vars p.ty × IsValue p.ty) (λ p. IsType defs vars p.ty) params (λ p k. k.0) ok;
  gives = r;
  answers = res;
  typed = b;
}

-- where a definition is no function of the name for its signature, it is none for its body
no_function : (x : List ℕ) (def : Def) → fun_here x def ≡ None → function_here x def ≡ None
no_function x (d.Fun name vars params result body) e = not_if (bytes_eq name x) _ _ e
no_function x (d.Struct name vars fields) e = refl
no_function x (d.Sum name vars cons) e = refl
no_function x (d.Table name ty nums) e = refl
no_function x (d.Entry name) e = refl

-- a function of a name, with its body
pub record FoundFun (defs : List Def) (x : List ℕ) (f : Signature) : Type 0 where
  pub place : ℕ
  pub body : Expr
  pub there : slice_get defs place ≡ Some (d.Fun x f.vars f.params f.result body)
  pub is : function_named defs x ≡ Some (record { tvars = f.vars; params = f.params; body = body })

pub fun_found : (defs : List Def) (x : List ℕ) (f : Signature) → fun_named defs x ≡ Some f → FoundFun defs x f
fun_found defs x f e =
    let a = answers (fun_here x) defs f e in
    let k = is_fun x f a.item a.gives in
    record {
      place = a.place;
      body = k.0;
      there = a.there ∙ ap Some k.1;
      is = same_item (fun_here x) (function_here x) (no_function x) defs f a _ (ap (function_here x) k.1 ∙ here_is x _);
    }

-- ---- constructors

-- a constructor in its list
pub record Placed (cons : List Con) (x : List ℕ) (args : List Ty) : Type 0 where
  pub k : ℕ
  pub con : Con
  pub there : slice_get cons k ≡ Some con
  pub args_are : con.args ≡ args
  pub place : place_in cons x ≡ Some (k, args)

-- where a constructor has not the name, it has no place either
no_place : (x : List ℕ) (p : ℕ × Con) → args_here x p.1 ≡ None → place_here x p ≡ None
no_place x p e = not_if (bytes_eq p.1.name x) p.1.args _ e

placed : (cons : List Con) (x : List ℕ) (args : List Ty) → con_in cons x ≡ Some args → Placed cons x args
placed cons x args e =
    let a = answers (λ p. args_here x p.1) (numbered 0 cons) args (first_numbered (args_here x) 0 cons ∙ e) in
    let s = get_numbered 0 cons a.place a.item a.there in
    let k = answer_of a.item.1.name x a.item.1.args args a.gives in
    let is : place_here x a.item ≡ Some (a.item.0, args) = ap (λ (b : Bool). if b then Some (a.item.0, a.item.1.args) else None) (ap (λ z. bytes_eq z x) k.0 ∙ name_same x) ∙ ap (λ w. Some (a.item.0, w)) k.1 in
    let q : a.item.0 ≡ a.place = let l = s.0 in omega (arith, l) in
    record {
      k = a.item.0;
      con = a.item.1;
      there = ap (slice_get cons) q ∙ s.1;
      args_are = k.1;
      place = same_item (λ p. args_here x p.1) (place_here x) (no_place x) (numbered 0 cons) args a (a.item.0, args) is;
    }

unplaced : (x : List ℕ) (def : Def) → con_here x def ≡ None → con_place_here x def ≡ None
unplaced x (d.Sum name vars cons) e =
    silent_too (λ p. args_here x p.1) (place_here x) (no_place x) (numbered 0 cons) (first_numbered (args_here x) 0 cons ∙ not_map (con_from name vars) (con_in cons x) e)
unplaced x (d.Struct name vars fields) e = refl
unplaced x (d.Table name ty nums) e = refl
unplaced x (d.Fun name vars params result body) e = refl
unplaced x (d.Entry name) e = refl

-- a name that no definition gives means nothing
unnamed_here : (x : List ℕ) (def : Def) → (Contains (type_name def) x → ⊥) → type_here x def ≡ None
unnamed_here x (d.Struct name vars fields) absent = other name x (Struct vars fields) absent
unnamed_here x (d.Sum name vars cons) absent = other name x (Sum vars cons) absent
unnamed_here x (d.Table name ty nums) absent = refl
unnamed_here x (d.Fun name vars params result body) absent = refl
unnamed_here x (d.Entry name) absent = refl

unnamed : (before : List Def) (x : List ℕ) → (Contains (flat_map type_name before) x → ⊥) → type_named before x ≡ None
unnamed [] x absent = refl
unnamed (def ∷ before) x absent =
    ap (λ o. option_or o (type_named before x)) (unnamed_here x def (λ k. absent (Contains-append_left (type_name def) (flat_map type_name before) x k)))
    ∙ unnamed before x (λ k. absent (Contains-append_right (type_name def) (flat_map type_name before) x k))

-- each constructor of these stands in its sum
abbrev InSums : List Def → Type 0
InSums defs = (x : List ℕ) (c : Constructor) → con_named defs x ≡ Some c → InSum defs x c

in_sum_more : (before after : List Def) (x : List ℕ) (c : Constructor) → InSum before x c → InSum (before ++ after) x c
in_sum_more before after x c i = record {
  cons = i.cons;
  k = i.k;
  con = i.con;
  is = named_more before after c.sum (Sum c.vars i.cons) i.is;
  there = i.there;
  args = i.args;
  place = first_kept (con_place_here x) before after (i.k, c.args) i.place;
}

new_con : (defs before : List Def) (def : Def) (x : List ℕ) (c : Constructor) → WellTyped defs before def → con_named before x ≡ None → con_here x def ≡ Some c
    → InSum (before ++ def ∷ []) x c
new_con defs before def x c (WellTyped.sum {x = name} {vars = vars} {cons = cons} new cs vs ok) none is = go (con_in cons x) refl is
  where
    go : (o : Option (List Ty)) → con_in cons x ≡ o → option_map (con_from name vars) o ≡ Some c → InSum (before ++ d.Sum name vars cons ∷ []) x c
    go None q e = absurd (no_some c e)
    go (Some args) q e =
        let p = placed cons x args q in
        let named : type_named (before ++ d.Sum name vars cons ∷ []) name ≡ Some (Sum vars cons) =
        first_later (type_here name) before (d.Sum name vars cons ∷ []) (unnamed before name new.1.0) ∙ or_none _ ∙ here_is name _ in
        let place : con_place (before ++ d.Sum name vars cons ∷ []) x ≡ Some (p.k, args) =
        first_later (con_place_here x) before (d.Sum name vars cons ∷ []) (silent_too (con_here x) (con_place_here x) (unplaced x) before none) ∙ or_none _ ∙ p.place in
        subst (InSum (before ++ d.Sum name vars cons ∷ []) x) (same_some (con_from name vars args) c e)
        (record { cons = cons; k = p.k; con = p.con; is = named; there = p.there; args = p.args_are; place = place })
new_con defs before def x c (WellTyped.struct new vs fs ok) none is = absurd (cc)
new_con defs before def x c (WellTyped.table new ok) none is = absurd (cc)
new_con defs before def x c (WellTyped.fun new vs ps ok r res b) none is = absurd (cc)
new_con defs before def x c (WellTyped.entry new is' nv ps ans) none is = absurd (cc)

in_sums_more : (defs before : List Def) (def : Def) → InSums before → WellTyped defs before def → InSums (before ++ def ∷ [])
in_sums_more defs before def s w x c e = go (first_last (con_here x) before def c e)
  where
    go : (con_named before x ≡ Some c) ⊎ ((con_named before x ≡ None) × (con_here x def ≡ Some c)) → InSum (before ++ def ∷ []) x c
    go (inl q) = in_sum_more before (def ∷ []) x c (s x c q)
    go (inr q) = new_con defs before def x c w q.0 q.1

-- ---- the whole file

module _ (defs : List Def) (typed : AreWellTyped defs) where
  -- what each definition keeps of those before it holds of all
  pub through : (P : List Def → Type 0)
      → ((before rest : List Def) (def : Def) → before ++ def ∷ rest ≡ defs → P before → WellTyped defs before def → P (before ++ def ∷ []))
      → (before rest : List Def) → before ++ rest ≡ defs → P before → P defs
  through P more before [] e p = subst P (sym (append-nil before) ∙ e) p
  through P more before (def ∷ rest) e p =
      let there : slice_get defs (length before) ≡ Some def = ap (λ z. slice_get z (length before)) (sym e) ∙ at_front before def rest in
      let front : take (length before) defs ≡ before = ap (take (length before)) (sym e) ∙ take_front before (def ∷ rest) in
      let w : WellTyped defs before def = subst (λ z. WellTyped defs z def) front (typed (length before) def there) in
      through P more (before ++ def ∷ []) rest (append_assoc before (def ∷ []) rest ∙ e) (more before rest def e p w)

  pub settled : Settled defs
  settled = through Settled (λ before rest def e s w. settled_more defs before def s w) [] defs refl none_settled

  in_sums : InSums defs
  in_sums = through InSums (λ before rest def e s w. in_sums_more defs before def s w) [] defs refl (λ x c e. absurd (no_some c e))

  pub each_def : (P : Def → Type 0) → ((before : List Def) (def : Def) → WellTyped defs before def → P def) → AllByRecursion P defs
  each_def P f = each_by_get P defs (λ k def e. f (take k defs) def (typed k def e))

  function_there : (x : List ℕ) (f : Signature) → fun_named defs x ≡ Some f → IsFunction defs x f
  function_there x f e =
      let g = fun_found defs x f e in
      let t = fun_fits defs (take g.place defs) x f.vars f.params f.result g.body (typed g.place (d.Fun x f.vars f.params f.result g.body) g.there) in
      record {
        body = record { tvars = f.vars; params = f.params; body = g.body };
        is = g.is;
        vars = refl;
        params = refl;
        distinct = t.distinct;
        each = t.each;
        result = t.gives;
        gives = t.answers;
        typed = t.typed;
      }

  pub facts : Facts defs
  facts = record {
    fields = settled.fields;
    cons = λ x vars cons k c is there. each_get (λ (z : Con). AllByRecursion (λ a. IsType defs vars a × IsFlat defs a) z.args) cons k c (settled.cons x vars cons is) there;
    con = in_sums;
    table = table_there defs typed;
    function = function_there;
  }
