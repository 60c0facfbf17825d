-- What a program means: the run of a function on arguments, under a bound.
-- An expression is pure: it has a value among the variables in scope, or none. A statement means a step from these and a
-- state to those in scope then. Each form has one combinator on the meanings of its parts. What is not defined here is
-- Undefined from the place where it is met. The clauses cited are of ISO/IEC 9899:2011.
use Rattle.std.specs.Prelude.{ℕ, suc, ◌+◌, ◌-◌, ◌*◌, ◌/◌, ◌%◌, ◌^◌, ◌==◌, Bool, true, false, not, ◌&&◌, if◌then◌else◌, nat_lt, nat_le, bit_and, bit_or, bit_xor, List, [], ◌∷◌, ◌++◌, map, length, reverse, replicate, Option, Some, None, option_map, option_and_then, slice_get}
use Rattle.std.specs.Str.{bytes_eq}
use Rattle.krml_trace.specs.First.{first}
use Rattle.krml_trace.specs.declared.width.Width.{Width}
use Rattle.krml_trace.specs.declared.width.Width.TheVariants.{W8, W32, W64}
use Rattle.krml_trace.specs.declared.argument.Arg.{Arg}
use Rattle.krml_trace.specs.declared.argument.Arg.TheVariants as arg
use Rattle.krml_trace.specs.declared.arguments.Arguments.{Arguments}
use Rattle.krml_trace.specs.declared.bound.Bound.{Bound}
use Rattle.krml_trace.specs.declared.why.Why.TheVariants.{Undefined}
use Rattle.krml_trace.specs.Width.{bits, same_width}
use Rattle.krml_trace.specs.Argument.{fits_width}
use Rattle.krml_trace.specs.Run.{Goes, bind, leave, ends, with_some, check, tick}
use Rattle.krml_trace.specs.Loop.{Turn, Again, Over, loop}
use Rattle.krml_trace.specs.Levels as levels
use Rattle.krml_trace.specs.Levels.{within}
use Rattle.krml_trace.specs.Blocks.{close_blocks}
use Rattle.krml_trace.specs.Host as host
use Rattle.krml_ctree.specs.declared.event.CEvent.{CEvent}
use Rattle.krml_ctree.specs.declared.event.CEvent.TheVariants as event
use Rattle.krml_ctree.specs.declared.event.CSlot.{CSlot}
use Rattle.krml_ctree.specs.declared.value.CValue.{CValue}
use Rattle.krml_ctree.specs.declared.value.CValue.TheVariants as v
use Rattle.krml_ctree.specs.declared.run.CRun.{CRun}
use Rattle.krml_ctree.specs.declared.tree.CType.{CType, out-CType}
use Rattle.krml_ctree.specs.declared.tree.CType.TheVariants as t
use Rattle.krml_ctree.specs.declared.tree.CType.TheOpen.{CType-F}
use Rattle.krml_ctree.specs.declared.tree.CBin.{CBin}
use Rattle.krml_ctree.specs.declared.tree.CBin.TheVariants as op
use Rattle.krml_ctree.specs.declared.tree.CmpKind.{CmpKind}
use Rattle.krml_ctree.specs.declared.tree.CmpKind.TheVariants as cmp
use Rattle.krml_ctree.specs.declared.tree.CVar.{CVar}
use Rattle.krml_ctree.specs.declared.tree.CArray.{CArray}
use Rattle.krml_ctree.specs.declared.tree.CExpr.{CExpr}
use Rattle.krml_ctree.specs.declared.tree.CExpr.TheOpen.{CExpr-F}
use Rattle.krml_ctree.specs.declared.tree.CExpr.TheFolds.{fold-CExpr}
use Rattle.krml_ctree.specs.declared.tree.CStatement.{CStatement}
use Rattle.krml_ctree.specs.declared.tree.CStatement.TheOpen.{CStatement-F, CArm-F}
use Rattle.krml_ctree.specs.declared.tree.CStatement.TheFolds.{fold-CStatement}
use Rattle.krml_ctree.specs.declared.tree.CFun.{CFun}
use Rattle.krml_ctree.specs.declared.tree.CProgram.{CProgram}
use Rattle.krml_ctree.specs.Text.{width_type}
use Rattle.krml_ctree.specs.Parts.{CBlock, CState, CRan, Local, Locals, the_only, local_of, struct_named, function_named, table_named, is_known, has_type, as_number, as_number_of, as_pointer, as_struct, as_truth, set, close, put, dead}

-- ---- expressions

-- What an expression means: a value among the blocks and the variables in scope.
abbrev pub CSem : Type 0
CSem = List CBlock → Locals → Option CValue

-- Numbers that are computed with have width 32 or 64. With `int` of 32 bits the integer promotions leave these as they are
-- (6.3.1.1p2).
abbrev pub is_wide : Width → Bool
is_wide W8 = false
is_wide W32 = true
is_wide W64 = true

abbrev pub where_true : {A : Type 0} → Bool → A → Option A
where_true b a = if b then Some a else None

-- two values, and what comes of them
abbrev pub both : CSem → CSem → (CValue → CValue → Option CValue) → List CBlock → Locals → Option CValue
both a b f m locals = option_and_then (λ x. option_and_then (λ y. f x y) (b m locals)) (a m locals)

-- two numbers of one width, 32 or 64
abbrev pub numbers : (Width → ℕ → ℕ → Option CValue) → CValue → CValue → Option CValue
numbers f x y = option_and_then (λ p. option_and_then (λ q. if is_wide p.0 && same_width p.0 q.0 then f p.0 p.1 q.1 else None) (as_number y)) (as_number x)

abbrev pub number_of : CBin → Width → ℕ → ℕ → ℕ
number_of op.Add w m n = (m + n) % 2 ^ bits w
number_of op.Sub w m n = ((m + 2 ^ bits w) - n) % 2 ^ bits w
number_of op.Mul w m n = (m * n) % 2 ^ bits w
number_of op.And w m n = bit_and m n
number_of op.Or w m n = bit_or m n
number_of op.Xor w m n = bit_xor m n
number_of op.Shl w m n = (m * 2 ^ n) % 2 ^ bits w
number_of op.Shr w m n = m / 2 ^ n

-- a shift by a 32-bit amount below the width (6.5.7p3)
abbrev pub shift : CBin → CValue → CValue → Option CValue
shift o x y = option_and_then (λ p. option_and_then (λ n. where_true (is_wide p.0 && nat_lt n (bits p.0)) (v.Num p.0 (number_of o p.0 p.1 n))) (as_number_of W32 y)) (as_number x)

abbrev pub arithmetic : CBin → CValue → CValue → Option CValue
arithmetic o x y = numbers (λ w m n. Some (v.Num w (number_of o w m n))) x y

-- a pointer moved up to a position of at most the block's length (6.5.6p8)
abbrev pub moved : List CBlock → ℕ × ℕ → CValue → Option CValue
moved m p y = option_and_then (λ i. option_and_then (λ b. where_true (nat_le (p.1 + i) (length b.items)) (v.Ptr p.0 (p.1 + i))) (slice_get m p.0)) (as_number_of W32 y)

abbrev pub sum_of : List CBlock → Option (ℕ × ℕ) → CValue → CValue → Option CValue
sum_of m (Some p) x y = moved m p y
sum_of m None x y = arithmetic op.Add x y

abbrev pub bin_value : List CBlock → CBin → CValue → CValue → Option CValue
bin_value m op.Add x y = sum_of m (as_pointer x) x y
bin_value m op.Shl x y = shift op.Shl x y
bin_value m op.Shr x y = shift op.Shr x y
bin_value m o x y = arithmetic o x y

abbrev pub compared : CmpKind → ℕ → ℕ → Bool
compared cmp.Eq m n = m == n
compared cmp.Ne m n = not (m == n)
compared cmp.Lt m n = nat_lt m n
compared cmp.Le m n = nat_le m n
compared cmp.Gt m n = nat_lt n m
compared cmp.Ge m n = nat_le n m

-- x: its value, where it has one
abbrev pub var : List ℕ → CSem
var x m locals = option_and_then (λ l. l.value) (local_of locals x)

-- ((uint32_t)5u), of width 32 or 64: the number, which is to fit the width
abbrev pub lit : Width → ℕ → CSem
lit w n m locals = where_true (is_wide w && fits_width w n) (v.Num w n)

-- ((uint8_t)a): the value modulo 2 to the width (6.3.1.3p2)
abbrev pub cast : Width → CSem → CSem
cast w a m locals = option_and_then (λ x. option_map (λ p. v.Num w (p.1 % 2 ^ bits w)) (as_number x)) (a m locals)

-- (a + b), and so on
abbrev pub bin : CBin → CSem → CSem → CSem
bin o a b m locals = both a b (bin_value m o) m locals

-- ((uint8_t)(a < b)): 1 where it holds, else 0 (6.5.8p6), as a number of width w
abbrev pub comparison : Width → CmpKind → CSem → CSem → CSem
comparison w o a b m locals = both a b (numbers (λ u i j. Some (v.Num w (if compared o i j then 1 else 0)))) m locals

abbrev pub all_of : List CSem → List CBlock → Locals → Option (List CValue)
all_of [] m locals = Some []
all_of (a ∷ more) m locals = option_and_then (λ x. option_map (λ xs. x ∷ xs) (all_of more m locals)) (a m locals)

-- values for variables, one by one, each of its type
abbrev pub fit : List CBlock → List CVar → List CValue → Bool
fit m [] [] = true
fit m (p ∷ vars) (x ∷ xs) = has_type m x p.ty && fit m vars xs
fit m _ _ = false

-- ((struct S){a, b})
abbrev pub build : CProgram → List ℕ → List CSem → CSem
build p x es m locals = option_and_then (λ s. option_and_then (λ xs. where_true (fit m s.fields xs) (v.Struct x xs)) (all_of es m locals)) (struct_named p x)

-- the value of the only field of a name
abbrev pub fields_named : List CVar → List CValue → List ℕ → List CValue
fields_named (f ∷ fields) (x ∷ xs) y = if bytes_eq f.name y then x ∷ fields_named fields xs y else fields_named fields xs y
fields_named _ _ y = []

-- a.f
abbrev pub field : CProgram → CSem → List ℕ → CSem
field p a y m locals =
    option_and_then (λ x. option_and_then (λ q. option_and_then (λ s. the_only (fields_named s.fields q.1 y)) (struct_named p q.0)) (as_struct x)) (a m locals)

abbrev pub value_step : CProgram → CExpr-F CSem → CSem
value_step p (CExpr-F.Var x) = var x
value_step p (CExpr-F.Lit w n) = lit w n
value_step p (CExpr-F.Cast w a) = cast w a
value_step p (CExpr-F.Bin o a b) = bin o a b
value_step p (CExpr-F.Cmp w o a b) = comparison w o a b
value_step p (CExpr-F.Build x es) = build p x es
value_step p (CExpr-F.Field a y) = field p a y

-- What an expression means.
abbrev pub value_of : CProgram → CExpr → CSem
value_of p = fold-CExpr CSem (value_step p)

-- ---- statements

-- What a statement does.
abbrev pub Step : Type 0
Step = Locals → CState → CRan Locals

-- goes on with the value of an expression
abbrev pub with_value : {A : Type 0} → CSem → Locals → CState → (CValue → CRan A) → CRan A
with_value a locals s next = with_some Undefined (a s.memory locals) s next

abbrev pub in_order : List Step → Step
in_order [] locals s = Goes locals s
in_order (a ∷ rest) locals s = bind (a locals s) (λ now s. in_order rest now s)

-- { .. }: a scope of its own
abbrev pub braces : List Step → Step
braces body locals s = bind (in_order body locals s) (λ now s. Goes (close locals now) s)

abbrev pub blank_local : CVar → Local
blank_local x = record { name = x.name; ty = x.ty; value = None; array = false }

-- A declaration: the type is one of the program, and the variable is in scope from here on, still without a value, also in
-- what its value is computed from (6.2.1p7).
abbrev pub declaring : CProgram → CVar → Locals → CState → (Locals → CRan Locals) → CRan Locals
declaring p x locals s next = check Undefined (is_known p x.ty) s (next (blank_local x ∷ locals))

-- the newest variable takes its value, which is of its type
abbrev pub filled : CVar → CValue → Locals → Locals
filled x a [] = []
filled x a (l ∷ locals) = record l { value = Some a } ∷ locals

abbrev pub taking : CVar → CValue → Step
taking x a locals s = check Undefined (has_type s.memory a x.ty) s (Goes (filled x a locals) s)

-- TYPE NAME = E;
abbrev pub decl : CProgram → CVar → CSem → Step
decl p x a locals s = declaring p x locals s (λ now. with_value a now s (λ u. taking x u now s))

-- TYPE NAME;
abbrev pub blank : CProgram → CVar → Step
blank p x locals s = declaring p x locals s (λ now. Goes now s)

-- NAME = E; where NAME is no array (6.3.2.1p3), and the value is of its type (6.5.16.1p2)
abbrev pub assign : List ℕ → CSem → Step
assign x a locals s = with_value a locals s (λ u. with_some Undefined (local_of locals x) s (λ l.
    check Undefined (not l.array && has_type s.memory u l.ty) s (Goes (set x u locals) s)))

-- a position of a living block, i from where a pointer stands
abbrev pub reaching : {A : Type 0} → CValue → CValue → CState → (ℕ → ℕ → CBlock → CRan A) → CRan A
reaching x y s next = with_some Undefined (as_pointer x) s (λ q. with_some Undefined (as_number_of W32 y) s (λ i. with_some Undefined (slice_get s.memory q.0) s (λ b.
    check Undefined (b.live && nat_lt (q.1 + i) (length b.items)) s (next q.0 (q.1 + i) b))))

-- TYPE NAME = E[E]; the element has a value
abbrev pub read : CProgram → CVar → CSem → CSem → Step
read p x a b locals s = declaring p x locals s (λ now. with_value a now s (λ u. with_value b now s (λ w. reaching u w s (λ n i block.
    with_some Undefined (option_and_then (λ o. o) (slice_get block.items i)) s (λ e. taking x e now (leave (event.Rd n i) s))))))

-- TYPE NAME = TABLE[E];
abbrev pub tab : CProgram → CVar → List ℕ → CSem → Step
tab p x y a locals s = declaring p x locals s (λ now. with_value a now s (λ u. with_some Undefined (as_number_of W32 u) s (λ i. with_some Undefined (table_named p y) s (λ q.
    with_some Undefined (slice_get q.1.nums i) s (λ n. taking x (v.Num q.1.width n) now (leave (event.Tab q.0 i) s))))))

-- E[E] = E; the value is of the type of the elements
abbrev pub write : CSem → CSem → CSem → Step
write a b c locals s = with_value a locals s (λ u. with_value b locals s (λ w. with_value c locals s (λ e. reaching u w s (λ n i block.
    check Undefined (has_type s.memory e block.elem) s (Goes locals (put n i e block (leave (event.Wr n i) s)))))))

abbrev pub divided : Bool → ℕ → ℕ → ℕ
divided true m n = m / n
divided false m n = m % n

-- TYPE NAME = (E / E); or with %, where the divisor is not 0 (6.5.5p5)
abbrev pub div : CProgram → CVar → Bool → CSem → CSem → Step
div p x quotient a b locals s = declaring p x locals s (λ now.
    with_value (λ m g. both a b (numbers (λ w i j. where_true (nat_lt 0 j) (v.Num w (divided quotient i j)))) m g) now s (λ u. taking x u now s))

-- What is called: a function, its arguments.
pub record Called : Type 0 where
  pub fun : CFun
  pub values : List CValue

-- what calls mean: the result of the function, where it has one
abbrev pub Calls : Type 0
Calls = levels.Calls CEvent (List CBlock) Called (Option CValue)

-- whether a function gives something, or nothing
abbrev pub gives_as : Bool → Option CType → Bool
gives_as true (Some a) = true
gives_as false None = true
gives_as _ _ = false

-- a call of a function that gives something, or nothing: the name, the arguments from left to right, their number and types,
-- and then a tick (6.5.2.2)
abbrev pub calling : CProgram → Calls → Bool → List ℕ → List CSem → Locals → CState → (Option CValue → CState → CRan Locals) → CRan Locals
calling p calls gives f es locals s next = with_some Undefined (function_named p f) s (λ fun. with_some Undefined (all_of es s.memory locals) s (λ xs.
    check Undefined (fit s.memory fun.params xs && gives_as gives fun.result) s (tick s (λ s. bind (calls (record { fun = fun; values = xs }) s) next))))

-- TYPE NAME = FUN(E, E);
abbrev pub call : CProgram → Calls → CVar → List ℕ → List CSem → Step
call p calls x f es locals s = declaring p x locals s (λ now. calling p calls true f es now s (λ o s. with_some Undefined o s (λ u. taking x u now s)))

-- FUN(E, E);
abbrev pub run : CProgram → Calls → List ℕ → List CSem → Step
run p calls f es locals s = calling p calls false f es locals s (λ o s. Goes locals s)

-- a test, which leaves an event
abbrev pub testing : {A : Type 0} → CSem → Locals → CState → (Bool → CState → CRan A) → CRan A
testing a locals s next = with_value a locals s (λ u. with_some Undefined (as_truth u) s (λ b. next b (leave (event.Br b) s)))

pub record Arm : Type 0 where
  pub test : CSem
  pub body : List Step

-- if (E) { .. } else if (E) { .. } else { .. }: the tests in order, up to one that is true (6.8.4.1)
abbrev pub chain : List Arm → List Step → Step
chain [] rest locals s = braces rest locals s
chain (a ∷ arms) rest locals s = testing a.test locals s (λ b s. if b then braces a.body locals s else chain arms rest locals s)

-- a turn of a loop: its first list and its second one are scopes, one in the other
abbrev pub turn : List Step → CSem → List Step → Locals → CState → CRan (Turn Locals Locals)
turn first test body locals s = bind (in_order first locals s) (λ now s. testing test now s (λ b s.
    if b then bind (braces body now s) (λ now s. Goes (Again (close locals now)) s) else Goes (Over (close locals now)) s))

-- for (;;) { .. if (E) { .. } else { break; } }
abbrev pub loops : List Step → CSem → List Step → Step
loops first test body locals s = loop (turn first test body) locals s

-- the arrays are the next blocks
abbrev pub array_block : CArray → CBlock
array_block a = record { elem = a.ty; live = true; items = replicate a.len None }

abbrev pub array_slot : CArray → CSlot
array_slot a = record { ty = a.ty; len = a.len }

abbrev pub arrays_over : ℕ → List CArray → Locals → Locals
arrays_over n [] locals = locals
arrays_over n (a ∷ arrays) locals = arrays_over (suc n) arrays (record { name = a.name; ty = t.Ptr a.ty; value = Some (v.Ptr n 0); array = true } ∷ locals)

abbrev pub all_known : CProgram → List CArray → Bool
all_known p [] = true
all_known p (a ∷ arrays) = is_known p a.ty && all_known p arrays

abbrev pub enter_block : List CArray → CState → CState
enter_block arrays s = leave (event.Enter (map array_slot arrays)) (record s { memory = s.memory ++ map array_block arrays })

abbrev pub leave_block : ℕ → CState → CState
leave_block n s = leave event.Leave (close_blocks dead n s)

-- { arrays, statements }
abbrev pub block : CProgram → List CArray → List Step → Step
block p arrays body locals s = check Undefined (all_known p arrays) s
    (bind (in_order body (arrays_over (length s.memory) arrays locals) (enter_block arrays s)) (λ now late. Goes (close locals now) (leave_block (length s.memory) late)))

abbrev pub statement_step : CProgram → Calls → CStatement-F Step Arm → Step
statement_step p calls (CStatement-F.Decl x a) = decl p x (value_of p a)
statement_step p calls (CStatement-F.Blank x) = blank p x
statement_step p calls (CStatement-F.Set x a) = assign x (value_of p a)
statement_step p calls (CStatement-F.Read x a b) = read p x (value_of p a) (value_of p b)
statement_step p calls (CStatement-F.Tab x y a) = tab p x y (value_of p a)
statement_step p calls (CStatement-F.Write a b c) = write (value_of p a) (value_of p b) (value_of p c)
statement_step p calls (CStatement-F.Div x quotient a b) = div p x quotient (value_of p a) (value_of p b)
statement_step p calls (CStatement-F.Call x f es) = call p calls x f (map (value_of p) es)
statement_step p calls (CStatement-F.Run f es) = run p calls f (map (value_of p) es)
statement_step p calls (CStatement-F.Chain arms rest) = chain arms rest
statement_step p calls (CStatement-F.Loop first test body) = loops first (value_of p test) body
statement_step p calls (CStatement-F.Block arrays body) = block p arrays body

abbrev pub arm_step : CProgram → CArm-F Step Arm → Arm
arm_step p a = record { test = value_of p a.test; body = a.body }

-- What a statement does where calls mean this, and what several do in order.
abbrev pub do_one : CProgram → Calls → CStatement → Step
do_one p calls = fold-CStatement Step Arm (statement_step p calls) (arm_step p)

abbrev pub exec : CProgram → Calls → List CStatement → Step
exec p calls body = in_order (map (do_one p calls) body)

-- ---- functions

-- return E; the value, which is of the result's type. A function without a result returns nothing.
abbrev pub answered : CProgram → Option CType → Option CExpr → Locals → CState → CRan (Option CValue)
answered p None None locals s = Goes None s
answered p (Some ty) (Some e) locals s = with_value (value_of p e) locals s (λ u. check Undefined (has_type s.memory u ty) s (Goes (Some u) s))
answered p _ _ locals s = ends Undefined s

-- the parameters with these values, the last one the newest
abbrev pub params_over : List CVar → List CValue → Locals → Locals
params_over (x ∷ params) (u ∷ us) locals = params_over params us (record { name = x.name; ty = x.ty; value = Some u; array = false } ∷ locals)
params_over _ _ locals = locals

-- a body, and then what it returns
abbrev pub body_of : CProgram → Calls → Calls
body_of p calls c s = bind (exec p calls c.fun.body (params_over c.fun.params c.values []) s) (λ now s. answered p c.fun.result c.fun.answer now s)

-- what calls mean with so many levels left
abbrev pub enter : CProgram → ℕ → Calls
enter p = within (body_of p)

-- ---- runs

-- A function that may be run: one that gives a number or nothing.
abbrev pub is_scalar_in : CType-F CType → Bool
is_scalar_in CType-F.U8 = true
is_scalar_in CType-F.U32 = true
is_scalar_in CType-F.U64 = true
is_scalar_in (CType-F.Struct x) = false
is_scalar_in (CType-F.Ptr a) = false

abbrev pub gives_scalar : Option CType → Bool
gives_scalar None = true
gives_scalar (Some a) = is_scalar_in (out-CType a)

abbrev pub scalar_here : List ℕ → CFun → Option CFun
scalar_here x f = if bytes_eq f.name x && gives_scalar f.result then Some f else None

abbrev pub first_named : List CFun → List ℕ → Option CFun
first_named funs x = first (scalar_here x) funs

-- What an argument is: a value, and for a buffer, whose value is the pointer to its first element, a block and an event.
abbrev pub Passing : Type 0
Passing = host.Passing CEvent CValue CBlock

abbrev pub Passed : Type 0
Passed = host.Passed CEvent CValue CBlock

abbrev pub passing : Arg → Passing
passing (arg.Bool b) = host.Plain (v.Num W8 (if b then 1 else 0))
passing (arg.Num w n) = host.Plain (v.Num w n)
passing (arg.Buf w nums) = host.Buffer (λ n. v.Ptr n 0)
    (record { elem = width_type w; live = true; items = map (λ n. Some (v.Num w n)) nums })
    (λ n. event.Arg n (width_type w) (length nums))

abbrev pub passed : List Arg → Passed
passed args = host.passed (map passing args)

-- The arguments fit a function: each has the type of its parameter, truth values that of 8 bits, and buffers are pointers.
abbrev pub passes_to : CFun → Passed → Bool
passes_to f p = fit p.memory f.params (reverse p.given)

-- What a run begins with: a function, and what its arguments come to.
abbrev pub Start : Type 0
Start = host.Start CEvent CValue CBlock CFun

abbrev pub start_of : Passed → CFun → Option Start
start_of q f = where_true (passes_to f q) (record { function = f; passed = q })

-- The start of a function's run, where the arguments fit it.
abbrev pub start : CProgram → List ℕ → List Arg → Option Start
start p x args = option_and_then (start_of (passed args)) (first_named p.funs x)

-- A program, as a host calls it.
abbrev pub called_by_host : CProgram → host.Program CEvent CValue CBlock CFun (Option CValue)
called_by_host p = record { start = start p; enter = λ depth b s. body_of p (enter p depth) (record { fun = b.function; values = reverse b.passed.given }) s }

-- The arguments fit a function of the program.
abbrev pub ArgumentsFit : CProgram → List ℕ → Arguments → Type 0
ArgumentsFit p x args = host.ArgumentsFit (called_by_host p) x args

abbrev pub scalar_of : CValue → Option ℕ
scalar_of x = option_map (λ p. p.1) (as_number x)

-- What a host sees of values, blocks and runs.
abbrev pub seen : host.Seen CEvent CBlock (Option CValue) CRun
seen = record {
  scalar = λ x. option_and_then scalar_of x;
  numbers = λ b. map (option_and_then scalar_of) b.items;
  run = λ o es. record { outcome = o; events = es };
}

-- The run of a function on arguments under a bound. Where there is no such function, or the arguments do not fit it, the
-- run is Undefined and has no events.
abbrev pub c_run : CProgram → List ℕ → Arguments → Bound → CRun
c_run p x args bound = host.run seen (called_by_host p) x args bound
