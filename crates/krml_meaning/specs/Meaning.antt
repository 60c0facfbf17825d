-- What a file means: the run of an entry on arguments, under a bound.
-- An expression means a step from a scope and a state to a value. Each form has one combinator on the meanings of its
-- parts, and the table `form_meaning` says which. A value of the wrong shape, or a name that is not there, ends the run as
-- Undefined: that comes in no file that is well typed.
use Rattle.std.specs.Prelude.{ℕ, zero, suc, ◌+◌, ◌-◌, ◌*◌, ◌/◌, ◌%◌, ◌^◌, ◌==◌, Bool, true, false, not, ◌&&◌, if◌then◌else◌, nat_lt, nat_le, bit_and, bit_or, bit_xor, List, [], ◌∷◌, ◌++◌, map, length, Option, Some, None, option_map, option_and_then, slice_get}
use Rattle.std.specs.Str.{bytes_eq}
use Rattle.krml_trace.specs.First.{first, numbered}
use Rattle.krml_trace.specs.declared.width.Width.{Width}
use Rattle.krml_trace.specs.declared.width.Width.TheVariants.{W32}
use Rattle.krml_trace.specs.declared.argument.Arg.{Arg}
use Rattle.krml_trace.specs.declared.argument.Arg.TheVariants as arg
use Rattle.krml_trace.specs.declared.arguments.Arguments.{Arguments}
use Rattle.krml_trace.specs.declared.bound.Bound.{Bound}
use Rattle.krml_trace.specs.declared.outcome.Cause.TheVariants as cause
use Rattle.krml_trace.specs.declared.why.Why.TheVariants.{Stuck, Undefined}
use Rattle.krml_trace.specs.Width.{bits, same_width}
use Rattle.krml_trace.specs.Run.{Goes, bind, leave, ends, with_some, check, tick}
use Rattle.krml_trace.specs.Loop.{Turn, Again, Over, loop}
use Rattle.krml_trace.specs.Levels as levels
use Rattle.krml_trace.specs.Levels.{within}
use Rattle.krml_trace.specs.Blocks.{close_blocks}
use Rattle.krml_trace.specs.Host as host
use Rattle.krml_syntax.specs.declared.tree.IntTy.{IntTy}
use Rattle.krml_syntax.specs.declared.tree.Ty.{Ty, out-Ty}
use Rattle.krml_syntax.specs.declared.tree.Ty.TheVariants as t
use Rattle.krml_syntax.specs.declared.tree.Ty.TheOpen.{Ty-F}
use Rattle.krml_syntax.specs.declared.tree.Field.{Field}
use Rattle.krml_syntax.specs.declared.tree.Con.{Con}
use Rattle.krml_syntax.specs.declared.tree.Slot.{Slot}
use Rattle.krml_syntax.specs.declared.tree.Pat.{Pat}
use Rattle.krml_syntax.specs.declared.tree.Pat.TheOpen.{Pat-F}
use Rattle.krml_syntax.specs.declared.tree.Pat.TheFolds.{fold-Pat}
use Rattle.krml_syntax.specs.declared.tree.BinOp.{BinOp}
use Rattle.krml_syntax.specs.declared.tree.BinOp.TheVariants as op
use Rattle.krml_syntax.specs.declared.tree.CmpOp.{CmpOp}
use Rattle.krml_syntax.specs.declared.tree.CmpOp.TheVariants as cmp
use Rattle.krml_syntax.specs.declared.tree.Expr.{Expr}
use Rattle.krml_syntax.specs.declared.tree.Expr.TheOpen.{Expr-F, Item-F, Arm-F, Case-F}
use Rattle.krml_syntax.specs.declared.tree.Expr.TheFolds.{fold-Expr}
use Rattle.krml_syntax.specs.declared.tree.Def.{Def}
use Rattle.krml_syntax.specs.declared.tree.Def.TheVariants as d
use Rattle.krml_syntax.specs.declared.tree.SourceFile.{SourceFile}
use Rattle.krml_ast.specs.declared.event.SourceEvent.{SourceEvent}
use Rattle.krml_ast.specs.declared.event.SourceEvent.TheVariants as event
use Rattle.krml_meaning.specs.declared.value.Value.{Value, out-Value}
use Rattle.krml_meaning.specs.declared.value.Value.TheOpen.{Value-F}
use Rattle.krml_meaning.specs.declared.value.Value.TheVariants as v
use Rattle.krml_ast.specs.declared.run.SourceRun.{SourceRun}
use Rattle.krml_ast.specs.Names.{Composite, Struct, Sum, type_named}
use Rattle.krml_syntax.specs.Types.{type_at}
use Rattle.krml_meaning.specs.State.{Block, SourceState, SourceRan, Variables, Env, value_of, with_vars, closed, closed_slot, Sem, as_number, as_truth, as_buffer, as_struct, as_con, put, fresh, dead}
use Rattle.krml_meaning.specs.Numbered.{Numbered, none, one, two, three, many}

-- ---- numbers

-- modulo 2 to the width
abbrev pub wrap : Width → ℕ → ℕ
wrap w n = n % 2 ^ bits w

-- the greatest number of a width
abbrev pub ones : Width → ℕ
ones w = 2 ^ bits w - 1

-- all ones where the test holds, else 0
abbrev pub mask : Bool → Width → ℕ
mask b w = if b then ones w else 0

abbrev pub result_of : BinOp → Width → ℕ → ℕ → ℕ
result_of op.Add w m n = wrap w (m + n)
result_of op.Sub w m n = wrap w ((m + 2 ^ bits w) - n)
result_of op.Mul w m n = wrap w (m * n)
result_of op.Div w m n = m / n
result_of op.Rem w m n = m % n
result_of op.And w m n = bit_and m n
result_of op.Or w m n = bit_or m n
result_of op.Xor w m n = bit_xor m n
result_of op.EqMask w m n = mask (m == n) w
result_of op.GteMask w m n = mask (nat_le n m) w

-- Div and Rem have no result where the divisor is 0
abbrev pub has_result : BinOp → ℕ → Bool
has_result op.Div n = nat_lt 0 n
has_result op.Rem n = nat_lt 0 n
has_result _ n = true

-- a shift to the left or right
abbrev pub shifted : Bool → Width → ℕ → ℕ → ℕ
shifted true w m n = wrap w (m * 2 ^ n)
shifted false w m n = m / 2 ^ n

abbrev pub compared : CmpOp → ℕ → ℕ → Bool
compared cmp.Eq m n = m == n
compared cmp.Ne m n = not (m == n)
compared cmp.Lt m n = nat_lt m n
compared cmp.Le m n = nat_le m n
compared cmp.Gt m n = nat_lt n m
compared cmp.Ge m n = nat_le n m

-- ---- the forms, in the order of the table of types

-- x: its value
abbrev pub var : List ℕ → Sem
var x env s = with_some Undefined (value_of env.vars x) s (λ v. Goes v s)

-- a value that is written
abbrev pub just : Value → Sem
just a env s = Goes a s

-- two operands from left to right, each once
abbrev pub operands : {A : Type 0} → Width → Width → Sem → Sem → Env → SourceState → (ℕ → ℕ → SourceState → SourceRan A) → SourceRan A
operands w w' a b env s next = bind (a env s) (λ x s. bind (b env s) (λ y s. as_number w x s (λ m. as_number w' y s (λ n. next m n s))))

-- (OP I a b)
abbrev pub binary : BinOp → IntTy → Sem → Sem → Sem
binary o i a b env s = operands i.width i.width a b env s (λ m n s.
    check (Stuck cause.Divisor) (has_result o n) s (Goes (v.Num i.width (result_of o i.width m n)) s))

-- (shl I a n), (shr I a n)
abbrev pub shift : Bool → IntTy → Sem → Sem → Sem
shift left i a b env s = operands i.width W32 a b env s (λ m n s.
    check (Stuck cause.Shift) (nat_lt n (bits i.width)) s (Goes (v.Num i.width (shifted left i.width m n)) s))

-- (OP I a b), a comparison
abbrev pub compare : CmpOp → IntTy → Sem → Sem → Sem
compare o i a b env s = operands i.width i.width a b env s (λ m n s. Goes (v.Bool (compared o m n)) s)

-- (not a)
abbrev pub opposite : Sem → Sem
opposite a env s = bind (a env s) (λ x s. as_truth x s (λ b. Goes (v.Bool (not b)) s))

-- (cast I J a)
abbrev pub cast : IntTy → IntTy → Sem → Sem
cast i j a env s = bind (a env s) (λ x s. as_number i.width x s (λ n. Goes (v.Num j.width (wrap j.width n)) s))

-- (hide I a): the same number
abbrev pub hide : IntTy → Sem → Sem
hide i a env s = bind (a env s) (λ x s. as_number i.width x s (λ n. Goes (v.Num i.width n) s))

-- operands from left to right
abbrev pub values : List Sem → Env → SourceState → SourceRan (List Value)
values [] env s = Goes [] s
values (a ∷ more) env s = bind (a env s) (λ x s. bind (values more env s) (λ xs s. Goes (x ∷ xs) s))

-- the names of a struct's fields
abbrev pub fields_of : Option Composite → Option (List (List ℕ))
fields_of (Some (Struct vars fields)) = Some (map (λ f. f.name) fields)
fields_of _ = None

-- (make S (T..) a..)
abbrev pub make : List Def → List ℕ → List Sem → Sem
make defs x es env s = bind (values es env s) (λ xs s. with_some Undefined (fields_of (type_named defs x)) s (λ names. Goes (v.Struct names xs) s))

-- the value of a field
abbrev pub field_of : List (List ℕ) → List Value → List ℕ → Option Value
field_of (f ∷ names) (x ∷ xs) y = if bytes_eq f y then Some x else field_of names xs y
field_of _ _ y = None

-- (get f a)
abbrev pub get : List ℕ → Sem → Sem
get y a env s = bind (a env s) (λ x s. as_struct x s (λ names xs. with_some Undefined (field_of names xs y) s (λ v. Goes v s)))

-- the place of a constructor in its sum, and the types of its arguments
abbrev pub place_here : List ℕ → ℕ × Con → Option (ℕ × List Ty)
place_here x p = if bytes_eq p.1.name x then Some (p.0, p.1.args) else None

abbrev pub place_in : List Con → List ℕ → Option (ℕ × List Ty)
place_in cons x = first (place_here x) (numbered 0 cons)

abbrev pub con_place_here : List ℕ → Def → Option (ℕ × List Ty)
con_place_here x (d.Sum name vars cons) = place_in cons x
con_place_here x (d.Struct name vars fields) = None
con_place_here x (d.Table name ty nums) = None
con_place_here x (d.Fun name vars params result body) = None
con_place_here x (d.Entry name) = None

abbrev pub con_place : List Def → List ℕ → Option (ℕ × List Ty)
con_place defs x = first (con_place_here x) defs

-- (con C (T..) a..)
abbrev pub con : List Def → List ℕ → List Sem → Sem
con defs x es env s = bind (values es env s) (λ xs s. with_some Undefined (con_place defs x) s (λ p. Goes (v.Con p.0 xs) s))

-- element i of block n is read
abbrev pub read_at : ℕ → ℕ → SourceState → SourceRan Value
read_at n i s = with_some Undefined (slice_get s.memory n) s (λ b. with_some Undefined (slice_get b.items i) s (λ a. Goes a (leave (event.Read n i) s)))

-- it is written, where it had a value
abbrev pub write_at : ℕ → ℕ → Value → SourceState → SourceRan Value
write_at n i a s = with_some Undefined (slice_get s.memory n) s (λ b. with_some Undefined (slice_get b.items i) s (λ old.
    Goes v.Unit (put n i a b (leave (event.Write n i) s))))

-- (read b i)
abbrev pub read : Sem → Sem → Sem
read a b env s = bind (a env s) (λ x s. bind (b env s) (λ y s. as_buffer x s (λ n off len. as_number W32 y s (λ i.
    check (Stuck cause.Index) (nat_lt i len) s (read_at n (off + i) s)))))

-- (write b i v)
abbrev pub write : Sem → Sem → Sem → Sem
write a b c env s = bind (a env s) (λ x s. bind (b env s) (λ y s. bind (c env s) (λ z s. as_buffer x s (λ n off len. as_number W32 y s (λ i.
    check (Stuck cause.Index) (nat_lt i len) s (write_at n (off + i) z s))))))

-- (slice b i n)
abbrev pub slice : Sem → Sem → Sem → Sem
slice a b c env s = bind (a env s) (λ x s. bind (b env s) (λ y s. bind (c env s) (λ z s. as_buffer x s (λ n off len. as_number W32 y s (λ i. as_number W32 z s (λ m.
    check (Stuck cause.Slice) (nat_le (i + m) len) s (Goes (v.Buf n (off + i) m) s)))))))

-- A table: the number of its definition, the type of its numbers, and these.
pub record Table : Type 0 where
  pub place : ℕ
  pub ty : IntTy
  pub nums : List ℕ

abbrev pub table_at : ℕ → List ℕ → Def → Option Table
table_at k x (d.Table name i nums) = if bytes_eq name x then Some (record { place = k; ty = i; nums = nums }) else None
table_at k x (d.Struct name vars fields) = None
table_at k x (d.Sum name vars cons) = None
table_at k x (d.Fun name vars params result body) = None
table_at k x (d.Entry name) = None

abbrev pub table_from : ℕ → List Def → List ℕ → Option Table
table_from k defs x = first (λ p. table_at p.0 x p.1) (numbered k defs)

-- element i of a table
abbrev pub look_up : Table → ℕ → SourceState → SourceRan Value
look_up table i s = with_some (Stuck cause.Index) (slice_get table.nums i) s (λ n. Goes (v.Num table.ty.width n) (leave (event.Tab table.place i) s))

-- (tab t i)
abbrev pub tab : List Def → List ℕ → Sem → Sem
tab defs x a env s = bind (a env s) (λ y s. as_number W32 y s (λ i. with_some Undefined (table_from 0 defs x) s (λ table. look_up table i s)))

-- (if c a b): the condition, which leaves an event, and then one branch
abbrev pub choose : Sem → Sem → Sem → Sem
choose c a b env s = bind (c env s) (λ x s. as_truth x s (λ t. if t then a env (leave (event.If true) s) else b env (leave (event.If false) s)))

-- A branch of a match: the variables that its pattern binds to a value that it takes, and its body.
pub record Branch : Type 0 where
  pub takes : Value → Option Variables
  pub body : Sem

abbrev pub branch_or : Option (ℕ × Variables × Sem) → Option (ℕ × Variables × Sem) → Option (ℕ × Variables × Sem)
branch_or (Some f) later = Some f
branch_or None later = later

-- the first branch that takes the value, and the number of it
abbrev pub first_branch : ℕ → List Branch → Value → Option (ℕ × Variables × Sem)
first_branch k [] x = None
first_branch k (b ∷ branches) x = branch_or (option_map (λ vars. (k, vars, b.body)) (b.takes x)) (first_branch (suc k) branches x)

-- (match a (P b)..)
abbrev pub match : Sem → List Branch → Sem
match a branches env s = bind (a env s) (λ x s. with_some (Stuck cause.Match) (first_branch 0 branches x) s (λ f. f.2 (with_vars f.1 env) (leave (event.Pick f.0) s)))

-- what stands in a `do`: a step to the scope of what follows
abbrev pub Step : Type 0
Step = Env → SourceState → SourceRan Env

-- (let x T a)
abbrev pub bound : List ℕ → Sem → Step
bound x a env s = bind (a env s) (λ y s. Goes (with_vars ((x, y) ∷ []) env) s)

abbrev pub ran : Sem → Step
ran a env s = bind (a env s) (λ u s. Goes env s)

abbrev pub steps : List Step → Step
steps [] env s = Goes env s
steps (i ∷ items) env s = bind (i env s) (λ env s. steps items env s)

-- (do ITEM.. a)
abbrev pub block : List Step → Sem → Sem
block items a env s = bind (steps items env s) (λ env s. a env s)

-- blocks for these slots, and their event
abbrev pub push : List Slot → SourceState → SourceState
push slots s = leave (event.Push slots) (record s { memory = s.memory ++ map fresh slots })

-- the blocks from a number on end
abbrev pub pop : ℕ → SourceState → SourceState
pop n s = leave event.Pop (close_blocks dead n s)

-- (frame a), with these slots
abbrev pub frame : List Slot → Sem → Sem
frame slots a env s = bind (a (record env { base = length s.memory }) (push (map (closed_slot env) slots) s)) (λ x late. Goes x (pop (length s.memory) late))

-- a turn of a fill: element i of block n takes a value, where there is one more
abbrev pub fill_turn : ℕ → ℕ → Value → ℕ → SourceState → SourceRan (Turn ℕ (Unit {0}))
fill_turn n len a i s =
    if nat_lt i len then with_some Undefined (slice_get s.memory n) s (λ b. Goes (Again (suc i)) (put n i a b (leave (event.Fill n i) s)))
    else Goes (Over tt) (leave (event.Filled n) s)

-- (alloc T n a), and the fill of a slot: the first value, and then each element
abbrev pub fill : ℕ → Sem → Sem
fill k a env s = bind (a env s) (λ x s. with_some Undefined (slice_get s.memory (env.base + k)) s (λ b.
    bind (loop (fill_turn (env.base + k) b.len x) 0 (leave (event.Alloc (env.base + k) k) s)) (λ u s. Goes (v.Buf (env.base + k) 0 b.len) s)))

-- a turn of a loop: the test leaves an event, and where it is true the body runs
abbrev pub turn_on : {X : Type 0} → Bool → (SourceState → SourceRan (Turn X Value)) → SourceState → SourceRan (Turn X Value)
turn_on true body s = body (leave (event.Turn true) s)
turn_on false body s = Goes (Over v.Unit) (leave (event.Turn false) s)

abbrev pub while_turn : Sem → Sem → Env → Unit {0} → SourceState → SourceRan (Turn (Unit {0}) Value)
while_turn c a env u s = bind (c env s) (λ x s. as_truth x s (λ t. turn_on t (λ s. bind (a env s) (λ y s. Goes (Again tt) s)) s))

-- (while c a)
abbrev pub while : Sem → Sem → Sem
while c a env s = loop (while_turn c a env) tt s

abbrev pub for_turn : List ℕ → ℕ → Sem → Env → ℕ → SourceState → SourceRan (Turn ℕ Value)
for_turn x end a env i s = turn_on (nat_lt i end) (λ s. bind (a (with_vars ((x, v.Num W32 i) ∷ []) env) s) (λ y s. Goes (Again (suc i)) s)) s

-- (for x a b c): both bounds once, and then a turn for each number from the first on
abbrev pub for : List ℕ → Sem → Sem → Sem → Sem
for x a b c env s = operands W32 W32 a b env s (λ start end s. loop (for_turn x end c env) start s)

-- What is called: a function, its closed type arguments, its arguments.
pub record Called : Type 0 where
  pub name : List ℕ
  pub types : List Ty
  pub values : List Value

-- what calls mean
abbrev pub Calls : Type 0
Calls = levels.Calls SourceEvent (List Block) Called Value

-- (call f (T..) a..): a tick, and then the function
abbrev pub call : Calls → List ℕ → List Ty → List Sem → Sem
call calls f args es env s = bind (values es env s) (λ xs s. tick s (λ s. calls (record { name = f; types = map (closed env) args; values = xs }) s))

-- ---- what the passes bring

abbrev pub all_true : List Value → SourceState → (Bool → SourceRan Value) → SourceRan Value
all_true [] s next = next true
all_true (x ∷ xs) s next = as_truth x s (λ b. all_true xs s (λ c. next (b && c)))

-- A case: its tests, and its body.
pub record Tested : Type 0 where
  pub tests : List Sem
  pub body : Sem

-- the first case all of whose tests are true
abbrev pub cases : ℕ → List Tested → Sem
cases k [] env s = ends (Stuck cause.Match) s
cases k (c ∷ more) env s = bind (values c.tests env s) (λ xs s. all_true xs s (λ b. if b then c.body env (leave (event.Pick k) s) else cases (suc k) more env s))

-- whether a value is of a constructor
abbrev pub tag_is : List Def → List ℕ → Sem → Sem
tag_is defs x a env s = bind (a env s) (λ y s. as_con y s (λ k xs. with_some Undefined (con_place defs x) s (λ p. Goes (v.Bool (k == p.0)) s)))

abbrev pub all_some : {A : Type 0} → List (Option A) → Option (List A)
all_some [] = Some []
all_some (o ∷ os) = option_and_then (λ a. option_map (λ more. a ∷ more) (all_some os)) o

-- the zero value of a struct, or of the first constructor of a sum, by those of the types in it
abbrev pub zero_of : (Ty → Option Value) → List Ty → Option Composite → Option Value
zero_of zeros args (Some (Struct vars fields)) = option_map (λ xs. v.Struct (map (λ f. f.name) fields) xs) (all_some (map (λ f. zeros (type_at vars args f.ty)) fields))
zero_of zeros args (Some (Sum vars (c ∷ cons))) = option_map (λ xs. v.Con 0 xs) (all_some (map (λ a. zeros (type_at vars args a)) c.args))
zero_of zeros args _ = None

abbrev pub zero_in : (Ty → Option Value) → List Def → Ty-F Ty → Option Value
zero_in zeros defs Ty-F.Bool = Some (v.Bool false)
zero_in zeros defs Ty-F.Unit = Some v.Unit
zero_in zeros defs (Ty-F.Int i) = Some (v.Num i.width 0)
zero_in zeros defs (Ty-F.Named x args) = zero_of zeros args (type_named defs x)
zero_in zeros defs _ = None

abbrev pub zero_within : ℕ → List Def → Ty → Option Value
zero_within zero defs a = None
zero_within (suc n) defs a = zero_in (zero_within n defs) defs (out-Ty a)

-- The zero value of a type, in a file without type variables: there a struct or a sum is made of earlier ones, so no more
-- levels are needed than there are definitions.
abbrev pub zero_value : List Def → Ty → Option Value
zero_value defs a = zero_within (suc (length defs)) defs a

-- an argument of a constructor, or the zero value of its type where the value is of another one
abbrev pub part : List Def → List ℕ → ℕ → Sem → Sem
part defs x j a env s = bind (a env s) (λ y s. as_con y s (λ k xs. with_some Undefined (con_place defs x) s (λ p.
    with_some Undefined (if k == p.0 then slice_get xs j else option_and_then (zero_value defs) (slice_get p.1 j)) s (λ v. Goes v s))))

-- ---- patterns

abbrev pub Taking : Type 0
Taking = Value → Option Variables

-- the variables of patterns over values, one by one
abbrev pub take_all : List Taking → List Value → Option Variables
take_all [] [] = Some []
take_all (f ∷ fs) (x ∷ xs) = option_and_then (λ vars. option_map (λ more. more ++ vars) (take_all fs xs)) (f x)
take_all _ _ = None

abbrev pub same_truth : Bool → Bool → Bool
same_truth true b = b
same_truth false b = not b

abbrev pub where_true : Bool → Option Variables
where_true b = if b then Some [] else None

abbrev pub taking : List Def → Pat-F Taking → Value-F Value → Option Variables
taking defs Pat-F.Any x = Some []
taking defs (Pat-F.Bool b) (Value-F.Bool c) = where_true (same_truth b c)
taking defs (Pat-F.Num i m) (Value-F.Num w n) = where_true (same_width i.width w && m == n)
taking defs (Pat-F.Con x fs) (Value-F.Con k xs) = option_and_then (λ p. if p.0 == k then take_all fs xs else None) (con_place defs x)
taking defs (Pat-F.Make x fs) (Value-F.Struct names xs) = take_all fs xs
taking defs _ _ = None

abbrev pub taking_of : List Def → Pat-F Taking → Taking
taking_of defs (Pat-F.Bind x) a = Some ((x, a) ∷ [])
taking_of defs p a = taking defs p (out-Value a)

-- the variables that a pattern binds to a value that it takes
abbrev pub takes : List Def → Pat → Taking
takes defs = fold-Pat Taking (taking_of defs)

-- ---- the table

-- one layer of an expression: its form, with what its parts mean
abbrev pub Layer : Type 0
Layer = Expr-F (Numbered Sem) (Numbered Step) (Numbered Branch) (Numbered Tested)

abbrev pub form_meaning : List Def → Calls → Layer → Numbered Sem
form_meaning defs calls (Expr-F.Var x) = none (var x)
form_meaning defs calls Expr-F.Unit = none (just v.Unit)
form_meaning defs calls (Expr-F.Bool b) = none (just (v.Bool b))
form_meaning defs calls (Expr-F.Num i n) = none (just (v.Num i.width n))
form_meaning defs calls (Expr-F.Bin o i a b) = two (binary o i) a b
form_meaning defs calls (Expr-F.Shift left i a n) = two (shift left i) a n
form_meaning defs calls (Expr-F.Cmp o i a b) = two (compare o i) a b
form_meaning defs calls (Expr-F.Not a) = one opposite a
form_meaning defs calls (Expr-F.Cast i j a) = one (cast i j) a
form_meaning defs calls (Expr-F.Hide i a) = one (hide i) a
form_meaning defs calls (Expr-F.Make x args es) = many (make defs x) es
form_meaning defs calls (Expr-F.Get y a) = one (get y) a
form_meaning defs calls (Expr-F.Con x args es) = many (con defs x) es
form_meaning defs calls (Expr-F.Read a i) = two read a i
form_meaning defs calls (Expr-F.Write a i v) = three write a i v
form_meaning defs calls (Expr-F.Slice a i n) = three slice a i n
form_meaning defs calls (Expr-F.Tab x a) = one (tab defs x) a
form_meaning defs calls (Expr-F.If c a b) = three choose c a b
form_meaning defs calls (Expr-F.Match a arms) = two match a (many (λ branches. branches) arms)
form_meaning defs calls (Expr-F.Do items a) = two block (many (λ steps. steps) items) a
form_meaning defs calls (Expr-F.Frame slots a) = none (frame (slots ++ a.slots) (a.from (length slots)))
form_meaning defs calls (Expr-F.Alloc b n a) = record { slots = record { ty = b; len = n } ∷ a.slots; from = λ k. fill k (a.from (suc k)) }
form_meaning defs calls (Expr-F.While c a) = two while c a
form_meaning defs calls (Expr-F.For x a b c) = three (for x) a b c
form_meaning defs calls (Expr-F.Call f args es) = many (call calls f args) es
form_meaning defs calls (Expr-F.Cases more) = many (cases 0) more
form_meaning defs calls (Expr-F.TagIs x a) = one (tag_is defs x) a
form_meaning defs calls (Expr-F.Part x j a) = one (part defs x j) a
form_meaning defs calls (Expr-F.Fill k a) = one (fill k) a

abbrev pub item_meaning : Item-F (Numbered Sem) (Numbered Step) (Numbered Branch) (Numbered Tested) → Numbered Step
item_meaning (Item-F.Let x b a) = one (bound x) a
item_meaning (Item-F.Run a) = one ran a

abbrev pub arm_meaning : List Def → Arm-F (Numbered Sem) (Numbered Step) (Numbered Branch) (Numbered Tested) → Numbered Branch
arm_meaning defs arm = one (λ body. record { takes = takes defs arm.pat; body = body }) arm.body

abbrev pub case_meaning : Case-F (Numbered Sem) (Numbered Step) (Numbered Branch) (Numbered Tested) → Numbered Tested
case_meaning c = two (λ tests body. record { tests = tests; body = body }) (many (λ tests. tests) c.tests) c.body

-- What an expression means where calls mean this, with its `alloc` forms numbered.
abbrev pub meaning : List Def → Calls → Expr → Numbered Sem
meaning defs calls = fold-Expr (Numbered Sem) (Numbered Step) (Numbered Branch) (Numbered Tested) (form_meaning defs calls) item_meaning (arm_meaning defs) case_meaning

-- the body of a function, whose `alloc` forms all stand in frames of its own
abbrev pub eval : List Def → Calls → Expr → Sem
eval defs calls x = (meaning defs calls x).from 0

-- ---- functions

-- A function, as a run needs it.
pub record Function : Type 0 where
  pub tvars : List (List ℕ)
  pub params : List Field
  pub body : Expr

-- The function of a name: the first of the file that has it.
abbrev pub function_here : List ℕ → Def → Option Function
function_here x (d.Fun name vars params result body) = if bytes_eq name x then Some (record { tvars = vars; params = params; body = body }) else None
function_here x (d.Struct name vars fields) = None
function_here x (d.Sum name vars cons) = None
function_here x (d.Table name ty nums) = None
function_here x (d.Entry name) = None

abbrev pub function_named : List Def → List ℕ → Option Function
function_named defs x = first (function_here x) defs

-- the parameters with these values, the last one the newest
abbrev pub params_over : List Field → List Value → Variables → Option Variables
params_over [] [] vars = Some vars
params_over (p ∷ params) (x ∷ xs) vars = params_over params xs ((p.name, x) ∷ vars)
params_over _ _ vars = None

abbrev pub env_of : Function → List Ty → Variables → Env
env_of f args vars = record { vars = vars; tvars = f.tvars; targs = args; base = 0 }

-- the body of a function, with its parameters in scope
abbrev pub body_of : List Def → Calls → Calls
body_of defs calls c s = with_some Undefined (function_named defs c.name) s (λ f. with_some Undefined (params_over f.params c.values []) s (λ vars.
    eval defs calls f.body (env_of f c.types vars) s))

-- what calls mean with so many levels left
abbrev pub enter : List Def → ℕ → Calls
enter defs = within (body_of defs)

-- ---- runs

-- Whether there is an entry of a name.
abbrev pub has_entry : List Def → List ℕ → Bool
has_entry [] x = false
has_entry (d.Entry name ∷ defs) x = if bytes_eq name x then true else has_entry defs x
has_entry (def ∷ defs) x = has_entry defs x

-- What an argument is: a parameter's name with its value, and for a buffer a block and an event.
abbrev pub Passing : Type 0
Passing = host.Passing SourceEvent (List ℕ × Value) Block

abbrev pub Passed : Type 0
Passed = host.Passed SourceEvent (List ℕ × Value) Block

-- a buffer of numbers, as the next block
abbrev pub buffer : List ℕ → IntTy → List ℕ → Passing
buffer x i nums = host.Buffer (λ n. (x, v.Buf n 0 (length nums)))
    (record { elem = t.Int i; len = length nums; live = true; items = map (λ n. v.Num i.width n) nums })
    (λ n. event.Arg n (t.Int i) (length nums))

abbrev pub where_same : Width → Width → Passing → Option Passing
where_same w w' p = if same_width w w' then Some p else None

abbrev pub buffer_for : List ℕ → Width → List ℕ → Ty-F Ty → Option Passing
buffer_for x w nums (Ty-F.Int i) = where_same w i.width (buffer x i nums)
buffer_for x w nums _ = None

-- An argument for a parameter of a type, where it fits: a truth value, a number of the width, or a buffer of such numbers.
abbrev pub passing : List ℕ → Arg → Ty-F Ty → Option Passing
passing x (arg.Bool b) Ty-F.Bool = Some (host.Plain (x, v.Bool b))
passing x (arg.Num w n) (Ty-F.Int i) = where_same w i.width (host.Plain (x, v.Num w n))
passing x (arg.Buf w nums) (Ty-F.Buf a) = buffer_for x w nums (out-Ty a)
passing x _ _ = None

-- the arguments for the parameters, one by one
abbrev pub passings : List Field → List Arg → Option (List Passing)
passings [] [] = Some []
passings (f ∷ params) (a ∷ args) = option_and_then (λ p. option_map (λ ps. p ∷ ps) (passings params args)) (passing f.name a (out-Ty f.ty))
passings _ _ = None

-- What a run begins with: a function, and what its arguments come to.
abbrev pub Start : Type 0
Start = host.Start SourceEvent (List ℕ × Value) Block Function

abbrev pub start_of : List Arg → Function → Option Start
start_of args f = option_map (λ ps. record { function = f; passed = host.passed ps }) (passings f.params args)

-- The start of an entry's run: the file has an entry and a function of that name, and the arguments fit the function.
abbrev pub start : SourceFile → List ℕ → List Arg → Option Start
start file entry args = if has_entry file.defs entry then option_and_then (start_of args) (function_named file.defs entry) else None

-- A file, as a host calls it.
abbrev pub called_by_host : SourceFile → host.Program SourceEvent (List ℕ × Value) Block Function Value
called_by_host file = record {
  start = start file;
  enter = λ depth b s. eval file.defs (enter file.defs depth) b.function.body (env_of b.function [] b.passed.given) s;
}

-- The arguments fit an entry of the file.
abbrev pub ArgumentsFit : SourceFile → List ℕ → Arguments → Type 0
ArgumentsFit file entry args = host.ArgumentsFit (called_by_host file) entry args

-- A result as a number, where there is one: a truth value is 0 or 1.
abbrev pub scalar_in : Value-F Value → Option ℕ
scalar_in (Value-F.Num w n) = Some n
scalar_in (Value-F.Bool true) = Some 1
scalar_in (Value-F.Bool false) = Some 0
scalar_in _ = None

-- What a host sees of values, blocks and runs.
abbrev pub seen : host.Seen SourceEvent Block Value SourceRun
seen = record {
  scalar = λ x. scalar_in (out-Value x);
  numbers = λ b. map (λ x. scalar_in (out-Value x)) b.items;
  run = λ o es. record { outcome = o; events = es };
}

-- The run of an entry on arguments under a bound. Where there is no such entry, or the arguments do not fit it, the run
-- is Undefined and has no events.
abbrev pub source_run : SourceFile → List ℕ → Arguments → Bound → SourceRun
source_run file entry args bound = host.run seen (called_by_host file) entry args bound
