-- The types of expressions, with labels erased: one rule a form of the language.
-- The types in scopes and those that the rules give are erased ones.
use Rattle.std.specs.Prelude.{◌≡◌, ℕ, ◌<◌, ◌≤◌, ◌^◌, Bool, List, [], ◌∷◌, ◌++◌, map, length, slice_get, ◌⊎◌, Option, Some, None}
use Rattle.std.specs.List.{IsDistinct}
use Rattle.std.specs.Str.{bytes_eq}
use Rattle.krml_trace.specs.Width.{bits}
use Rattle.krml_syntax.specs.declared.tree.IntTy.{IntTy}
use Rattle.krml_syntax.specs.declared.tree.BinOp.{BinOp}
use Rattle.krml_syntax.specs.declared.tree.CmpOp.{CmpOp}
use Rattle.krml_syntax.specs.declared.tree.Ty.{Ty}
use Rattle.krml_syntax.specs.declared.tree.Ty.TheVariants as t
use Rattle.krml_syntax.specs.declared.tree.Field.{Field}
use Rattle.krml_syntax.specs.declared.tree.Pat.{Pat}
use Rattle.krml_syntax.specs.declared.tree.Pat.TheVariants as p
use Rattle.krml_syntax.specs.declared.tree.Slot.{Slot}
use Rattle.krml_syntax.specs.declared.tree.Arm.{Arm, roll-Arm}
use Rattle.krml_syntax.specs.declared.tree.Case.{Case, roll-Case}
use Rattle.krml_syntax.specs.declared.tree.Item.{Item}
use Rattle.krml_syntax.specs.declared.tree.Item.TheVariants as item
use Rattle.krml_syntax.specs.declared.tree.Expr.{Expr}
use Rattle.krml_syntax.specs.declared.tree.Expr.TheVariants as e
use Rattle.krml_syntax.specs.declared.tree.Def.{Def}
pub use Rattle.krml_intern.specs.Scope.{look}
use Rattle.krml_ast.specs.Names.{Struct, Constructor, Signature, type_named, con_named, table_named, fun_named, field_named}
use Rattle.krml_syntax.specs.Types.{erased, int_ty, u32, type_at}
use Rattle.krml_ast.specs.IsType.{IsValue, IsFlat, IsType, AreArguments}

-- The types of the variables in scope, the newest first.
abbrev pub Vars : Type 0
Vars = List (List ℕ × Ty)

-- Where an expression stands: the variables, and the slots of the frame around it where no loop stands between.
pub record Scope : Type 0 where
  pub vars : Vars
  pub frame : Option (List Slot)

abbrev pub with_vars : Vars → Scope → Scope
with_vars vars g = record { vars = vars ++ g.vars; frame = g.frame }

-- in the body of a loop, where no buffer of a frame around it may be made
abbrev pub in_loop : Scope → Scope
in_loop g = record { vars = g.vars; frame = None }

abbrev pub in_frame : List Slot → Scope → Scope
in_frame slots g = record { vars = g.vars; frame = Some slots }

-- the types of fields, parameters or arguments at type arguments
abbrev pub at : List (List ℕ) → List Ty → Ty → Ty
at vars args a = erased (type_at vars args a)

abbrev pub fields_at : List (List ℕ) → List Ty → List Field → List Ty
fields_at vars args fields = map (λ f. at vars args f.ty) fields

-- unit, or a type of values that holds no buffer: what a function or a frame may give
abbrev pub IsResult : List Def → Ty → Type 0
IsResult defs a = (a ≡ t.Unit) ⊎ IsFlat defs a

-- ---- patterns

mutual
  -- A pattern at a place of a type, and the variables that it binds.
  pub data Matches (defs : List Def) : Ty → Pat → Vars → Type 0 where
    any : {a : Ty} → Matches defs a p.Any []
    bind : {a : Ty} {x : List ℕ} → Matches defs a (p.Bind x) ((x, a) ∷ [])
    bool : {b : Bool} → Matches defs t.Bool (p.Bool b) []
    num : {i : IntTy} {n : ℕ} → n < 2 ^ bits i.width → Matches defs (int_ty i) (p.Num i n) []
    -- a constructor of the type's sum, with a pattern for each argument
    con : {x : List ℕ} {c : Constructor} (args : List Ty) {ps : List Pat} {vars : Vars} → con_named defs x ≡ Some c
        → MatchAll defs (map (at c.vars args) c.args) ps vars → Matches defs (t.Named c.sum args) (p.Con x ps) vars
    -- the type's struct, with a pattern for each field
    make : {x : List ℕ} {tvars : List (List ℕ)} {fields : List Field} (args : List Ty) {ps : List Pat} {vars : Vars} → type_named defs x ≡ Some (Struct tvars fields)
        → MatchAll defs (fields_at tvars args fields) ps vars → Matches defs (t.Named x args) (p.Make x ps) vars

  pub data MatchAll (defs : List Def) : List Ty → List Pat → Vars → Type 0 where
    none : MatchAll defs [] [] []
    one : {a : Ty} {types : List Ty} {q : Pat} {ps : List Pat} {vars more : Vars} → Matches defs a q vars → MatchAll defs types ps more
        → MatchAll defs (a ∷ types) (q ∷ ps) (more ++ vars)

-- the variables of a pattern are distinct
abbrev pub AreDistinct : Vars → Type 0
AreDistinct vars = IsDistinct bytes_eq (map (λ v. v.0) vars)

-- ---- expressions

mutual
  -- In a scope of a definition with these type variables, an expression has a type.
  pub data HasType (defs : List Def) (tvars : List (List ℕ)) : Scope → Expr → Ty → Type 0 where
    -- x
    var : {g : Scope} {x : List ℕ} {a : Ty} → look g.vars x ≡ Some a → HasType defs tvars g (e.Var x) a
    unit : {g : Scope} → HasType defs tvars g e.Unit t.Unit
    bool : {g : Scope} {b : Bool} → HasType defs tvars g (e.Bool b) t.Bool
    -- (I N)
    num : {g : Scope} {i : IntTy} {n : ℕ} → n < 2 ^ bits i.width → HasType defs tvars g (e.Num i n) (int_ty i)
    -- (OP I a b)
    bin : {g : Scope} {op : BinOp} {i : IntTy} {a b : Expr} → HasType defs tvars g a (int_ty i) → HasType defs tvars g b (int_ty i)
        → HasType defs tvars g (e.Bin op i a b) (int_ty i)
    -- (shl I a n), (shr I a n)
    shift : {g : Scope} {left : Bool} {i : IntTy} {a n : Expr} → HasType defs tvars g a (int_ty i) → HasType defs tvars g n u32
        → HasType defs tvars g (e.Shift left i a n) (int_ty i)
    -- (OP I a b), a comparison
    cmp : {g : Scope} {op : CmpOp} {i : IntTy} {a b : Expr} → HasType defs tvars g a (int_ty i) → HasType defs tvars g b (int_ty i)
        → HasType defs tvars g (e.Cmp op i a b) t.Bool
    not : {g : Scope} {a : Expr} → HasType defs tvars g a t.Bool → HasType defs tvars g (e.Not a) t.Bool
    -- (cast I J a)
    cast : {g : Scope} {i j : IntTy} {a : Expr} → HasType defs tvars g a (int_ty i) → HasType defs tvars g (e.Cast i j a) (int_ty j)
    -- (hide I a)
    hide : {g : Scope} {i : IntTy} {a : Expr} → HasType defs tvars g a (int_ty i) → HasType defs tvars g (e.Hide i a) (int_ty i)
    -- (make S (T..) a..)
    make : {g : Scope} {x : List ℕ} {vars : List (List ℕ)} {fields : List Field} {args : List Ty} {es : List Expr}
        → type_named defs x ≡ Some (Struct vars fields) → length args ≡ length vars → AreArguments defs tvars args
        → AllHaveType defs tvars g es (fields_at vars args fields) → HasType defs tvars g (e.Make x args es) (t.Named x (map erased args))
    -- (get f a)
    get : {g : Scope} {x y : List ℕ} {vars : List (List ℕ)} {fields : List Field} (args : List Ty) {a : Expr} {b : Ty}
        → HasType defs tvars g a (t.Named x args) → type_named defs x ≡ Some (Struct vars fields) → field_named fields y ≡ Some b
        → HasType defs tvars g (e.Get y a) (at vars args b)
    -- (con C (T..) a..)
    con : {g : Scope} {x : List ℕ} {c : Constructor} {args : List Ty} {es : List Expr}
        → con_named defs x ≡ Some c → length args ≡ length c.vars → AreArguments defs tvars args
        → AllHaveType defs tvars g es (map (at c.vars args) c.args) → HasType defs tvars g (e.Con x args es) (t.Named c.sum (map erased args))
    -- (read b i)
    read : {g : Scope} {a i : Expr} {b : Ty} → HasType defs tvars g a (t.Buf b) → HasType defs tvars g i u32 → HasType defs tvars g (e.Read a i) b
    -- (write b i v)
    write : {g : Scope} {a i v : Expr} {b : Ty} → HasType defs tvars g a (t.Buf b) → HasType defs tvars g i u32 → HasType defs tvars g v b
        → HasType defs tvars g (e.Write a i v) t.Unit
    -- (slice b i n)
    slice : {g : Scope} {a i n : Expr} (b : Ty) → HasType defs tvars g a (t.Buf b) → HasType defs tvars g i u32 → HasType defs tvars g n u32
        → HasType defs tvars g (e.Slice a i n) (t.Buf b)
    -- (tab t i)
    tab : {g : Scope} {x : List ℕ} {i : IntTy} {a : Expr} → table_named defs x ≡ Some i → HasType defs tvars g a u32 → HasType defs tvars g (e.Tab x a) (int_ty i)
    -- (if c a b)
    choice : {g : Scope} {c a b : Expr} {r : Ty} → HasType defs tvars g c t.Bool → HasType defs tvars g a r → HasType defs tvars g b r
        → HasType defs tvars g (e.If c a b) r
    -- (match a (P b)..), with one branch or more
    match : {g : Scope} {a : Expr} {s r : Ty} {x : Arm} {xs : List Arm} → HasType defs tvars g a s → IsValue s → ArmsHaveType defs tvars g s (x ∷ xs) r
        → HasType defs tvars g (e.Match a (x ∷ xs)) r
    -- (do ITEM.. a)
    block : {g h : Scope} {items : List Item} {a : Expr} {r : Ty} → ItemsLead defs tvars g items h → HasType defs tvars h a r
        → HasType defs tvars g (e.Do items a) r
    -- (frame a)
    frame : {g : Scope} {slots : List Slot} {a : Expr} {r : Ty} → HasType defs tvars (in_frame slots g) a r → IsResult defs r
        → HasType defs tvars g (e.Frame slots a) r
    -- (alloc T n a)
    alloc : {g : Scope} {slots : List Slot} {b : Ty} {n : ℕ} {a : Expr} → g.frame ≡ Some slots → IsType defs tvars b → IsFlat defs b → 1 ≤ n → n ≤ 65536
        → HasType defs tvars g a (erased b) → HasType defs tvars g (e.Alloc b n a) (t.Buf (erased b))
    -- (while c a)
    while : {g : Scope} {c a : Expr} → HasType defs tvars (in_loop g) c t.Bool → HasType defs tvars (in_loop g) a t.Unit
        → HasType defs tvars g (e.While c a) t.Unit
    -- (for x a b c)
    for : {g : Scope} {x : List ℕ} {a b c : Expr} → HasType defs tvars g a u32 → HasType defs tvars g b u32
        → HasType defs tvars (with_vars ((x, u32) ∷ []) (in_loop g)) c t.Unit → HasType defs tvars g (e.For x a b c) t.Unit
    -- (call f (T..) a..)
    call : {g : Scope} {x : List ℕ} {f : Signature} {args : List Ty} {es : List Expr}
        → fun_named defs x ≡ Some f → length args ≡ length f.vars → AreArguments defs tvars args
        → AllHaveType defs tvars g es (fields_at f.vars args f.params) → HasType defs tvars g (e.Call x args es) (at f.vars args f.result)
    -- the first case all of whose tests are true, with one case or more
    cases : {g : Scope} {x : Case} {xs : List Case} {r : Ty} → CasesHaveType defs tvars g (x ∷ xs) r → HasType defs tvars g (e.Cases (x ∷ xs)) r
    -- whether a value is of a constructor
    tag_is : {g : Scope} {x : List ℕ} {c : Constructor} (args : List Ty) {a : Expr} → con_named defs x ≡ Some c → HasType defs tvars g a (t.Named c.sum args)
        → HasType defs tvars g (e.TagIs x a) t.Bool
    -- an argument of a constructor
    part : {g : Scope} {x : List ℕ} {c : Constructor} {j : ℕ} (args : List Ty) {a : Expr} {b : Ty} → con_named defs x ≡ Some c
        → HasType defs tvars g a (t.Named c.sum args) → slice_get c.args j ≡ Some b → HasType defs tvars g (e.Part x j a) (at c.vars args b)
    -- the buffer of a slot
    fill : {g : Scope} {k : ℕ} {slots : List Slot} {s : Slot} {a : Expr} → g.frame ≡ Some slots → slice_get slots k ≡ Some s
        → HasType defs tvars g a (erased s.ty) → HasType defs tvars g (e.Fill k a) (t.Buf (erased s.ty))

  pub data AllHaveType (defs : List Def) (tvars : List (List ℕ)) : Scope → List Expr → List Ty → Type 0 where
    none : {g : Scope} → AllHaveType defs tvars g [] []
    one : {g : Scope} {a : Expr} {es : List Expr} {r : Ty} {rs : List Ty} → HasType defs tvars g a r → AllHaveType defs tvars g es rs
        → AllHaveType defs tvars g (a ∷ es) (r ∷ rs)

  -- branches of a match on a value of a type
  pub data ArmsHaveType (defs : List Def) (tvars : List (List ℕ)) : Scope → Ty → List Arm → Ty → Type 0 where
    no_arms : {g : Scope} {s r : Ty} → ArmsHaveType defs tvars g s [] r
    an_arm : {g : Scope} {s r : Ty} {q : Pat} {a : Expr} {xs : List Arm} {vars : Vars} → Matches defs s q vars → AreDistinct vars
        → HasType defs tvars (with_vars vars g) a r → ArmsHaveType defs tvars g s xs r → ArmsHaveType defs tvars g s (roll-Arm (record { pat = q; body = a }) ∷ xs) r

  -- items lead from a scope to the scope of what follows
  pub data ItemsLead (defs : List Def) (tvars : List (List ℕ)) : Scope → List Item → Scope → Type 0 where
    no_items : {g : Scope} → ItemsLead defs tvars g [] g
    -- (let x T a)
    bound : {g h : Scope} {x : List ℕ} {b : Ty} {a : Expr} {items : List Item} → IsType defs tvars b → IsValue b → HasType defs tvars g a (erased b)
        → ItemsLead defs tvars (with_vars ((x, erased b) ∷ []) g) items h → ItemsLead defs tvars g (item.Let x b a ∷ items) h
    ran : {g h : Scope} {a : Expr} {items : List Item} → HasType defs tvars g a t.Unit → ItemsLead defs tvars g items h
        → ItemsLead defs tvars g (item.Run a ∷ items) h

  pub data CasesHaveType (defs : List Def) (tvars : List (List ℕ)) : Scope → List Case → Ty → Type 0 where
    no_cases : {g : Scope} {r : Ty} → CasesHaveType defs tvars g [] r
    a_case : {g : Scope} {tests : List Expr} {a : Expr} {xs : List Case} {r : Ty} → AllHaveType defs tvars g tests (map (λ x. t.Bool) tests)
        → HasType defs tvars g a r → CasesHaveType defs tvars g xs r → CasesHaveType defs tvars g (roll-Case (record { tests = tests; body = a }) ∷ xs) r
