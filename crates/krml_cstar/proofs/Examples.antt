-- Names of variables and images of events that were found by hand. A definition that says another one breaks one.
use Rattle.std.proofs.Common.{◌≡◌, true, false, List, [], ◌∷◌, codes, refl}
use Rattle.std.specs.Fmt.{digits}
use Rattle.krml_trace.specs.declared.width.Width.TheVariants.{W8, W32, W64}
use Rattle.krml_syntax.specs.declared.tree.Ty.{Ty}
use Rattle.krml_syntax.specs.declared.tree.Ty.TheVariants as t
use Rattle.krml_syntax.specs.declared.tree.Ty.TheFolds.{fold_out-Ty}
use Rattle.krml_syntax.specs.declared.tree.Slot.{Slot}
use Rattle.krml_syntax.specs.declared.tree.Def.{Def}
use Rattle.krml_syntax.specs.declared.tree.Def.TheVariants as d
use Rattle.krml_ast.specs.declared.event.SourceEvent.{SourceEvent}
use Rattle.krml_ast.specs.declared.event.SourceEvent.TheVariants as source
use Rattle.krml_ctree.specs.declared.tree.CType.TheVariants as ct
use Rattle.krml_ctree.specs.declared.event.CEvent.{CEvent}
use Rattle.krml_ctree.specs.declared.event.CEvent.TheVariants as c
use Rattle.krml_cstar.specs.Image.{image_c}
use Rattle.krml_cstar.specs.Variables.{plain, named}

-- ---- names

fresh : plain 7 ≡ codes "v7"
unfolding digits
fresh = refl

of_the_source : named 12 (codes "x1") ≡ codes "v12_x1"
unfolding digits
of_the_source = refl

-- a pass made it
of_a_pass : named 0 (codes "'3") ≡ codes "v0"
unfolding digits
of_a_pass = refl

-- ---- events

-- Among these definitions the events of the source have these images.
abbrev Becomes : List Def → List SourceEvent → List CEvent → Type 0
Becomes defs es cs = image_c defs es ≡ cs

-- the types of public and of secret numbers
abbrev u8 : Ty
u8 = t.Int (record { width = W8; secret = false })

abbrev su32 : Ty
su32 = t.Int (record { width = W32; secret = true })

-- an argument buffer
argument : Becomes [] (source.Arg 2 su32 5 ∷ []) (c.Arg 2 ct.U32 5 ∷ [])
argument = simp (fold_out-Ty, t.outs-Int)

if_true : Becomes [] (source.If true ∷ []) (c.Br true ∷ [])
if_true = refl

if_false : Becomes [] (source.If false ∷ []) (c.Br false ∷ [])
if_false = refl

turn : Becomes [] (source.Turn true ∷ []) (c.Br true ∷ [])
turn = refl

last_turn : Becomes [] (source.Turn false ∷ []) (c.Br false ∷ [])
last_turn = refl

-- the tests before the one that is true, and that one
first_case : Becomes [] (source.Pick 0 ∷ []) (c.Br true ∷ [])
first_case = refl

third_case : Becomes [] (source.Pick 2 ∷ []) (c.Br false ∷ c.Br false ∷ c.Br true ∷ [])
third_case = refl

read : Becomes [] (source.Read 3 4 ∷ []) (c.Rd 3 4 ∷ [])
read = refl

write : Becomes [] (source.Write 3 4 ∷ []) (c.Wr 3 4 ∷ [])
write = refl

-- two tables, with a struct before each
abbrev tables : List Def
tables = d.Struct (codes "p") [] [] ∷ d.Table (codes "a") (record { width = W8; secret = false }) (1 ∷ [])
    ∷ d.Struct (codes "q") [] [] ∷ d.Table (codes "b") (record { width = W64; secret = false }) (1 ∷ 2 ∷ []) ∷ []

-- a table by its place among the tables
first_table : Becomes tables (source.Tab 1 0 ∷ []) (c.Tab 0 0 ∷ [])
first_table = refl

second_table : Becomes tables (source.Tab 3 1 ∷ []) (c.Tab 1 1 ∷ [])
second_table = refl

abbrev slot : Slot
slot = record { ty = u8; len = 4 }

-- a frame, its slots as the arrays of a block
frame : Becomes [] (source.Push (slot ∷ record { ty = t.Bool; len = 1 } ∷ []) ∷ source.Pop ∷ []) (c.Enter (record { ty = ct.U8; len = 4 } ∷ record { ty = ct.U8; len = 1 } ∷ []) ∷ c.Leave ∷ [])
frame = simp (fold_out-Ty, t.outs-Int, t.outs-Bool)

frame_of_structs : Becomes [] (source.Push (record { ty = t.Named (codes "s_p") []; len = 2 } ∷ []) ∷ []) (c.Enter (record { ty = ct.Struct (codes "s_p"); len = 2 } ∷ []) ∷ [])
frame_of_structs = simp (fold_out-Ty, t.outs-Named)

-- a fill is a loop that writes, and the allocation before it leaves nothing
filled : Becomes [] (source.Alloc 1 0 ∷ source.Fill 1 0 ∷ source.Fill 1 1 ∷ source.Filled 1 ∷ []) (c.Br true ∷ c.Wr 1 0 ∷ c.Br true ∷ c.Wr 1 1 ∷ c.Br false ∷ [])
filled = refl

-- in order, the oldest first
in_order : Becomes [] (source.If true ∷ source.Read 0 1 ∷ source.Write 0 2 ∷ source.Turn false ∷ []) (c.Br true ∷ c.Rd 0 1 ∷ c.Wr 0 2 ∷ c.Br false ∷ [])
in_order = refl
