-- Which values have which types in a memory. The types are closed, and without labels.
use Rattle.std.specs.Prelude.{◌≡◌, ℕ, ◌+◌, ◌<◌, ◌≤◌, ◌^◌, Bool, true, false, List, [], ◌∷◌, map, length, slice_get, Some}
use Rattle.std.specs.List.{AllByRecursion}
use Rattle.krml_trace.specs.declared.width.Width.{Width}
use Rattle.krml_trace.specs.Width.{bits}
use Rattle.krml_syntax.specs.declared.tree.Ty.{Ty}
use Rattle.krml_syntax.specs.declared.tree.Ty.TheVariants as t
use Rattle.krml_syntax.specs.declared.tree.Field.{Field}
use Rattle.krml_syntax.specs.declared.tree.Con.{Con}
use Rattle.krml_syntax.specs.declared.tree.Def.{Def}
use Rattle.krml_ast.specs.Names.{Struct, Sum, type_named}
use Rattle.krml_syntax.specs.Types.{erased}
use Rattle.krml_ast.specs.IsType.{IsFlat, AreArguments}
use Rattle.krml_ast.specs.Typing.{at, fields_at}
use Rattle.krml_ast.specs.WellTyped.{names_of}
use Rattle.krml_meaning.specs.declared.value.Value.{Value}
use Rattle.krml_meaning.specs.declared.value.Value.TheVariants as v
use Rattle.krml_meaning.specs.State.{Block}

-- the public integer type of a width
abbrev pub number_ty : Width → Ty
number_ty w = t.Int (record { width = w; secret = false })

-- A block whose frame is open, of so many elements of a type.
pub record Open (m : List Block) (n : ℕ) (a : Ty) (len : ℕ) : Type 0 where
  pub block : Block
  pub there : slice_get m n ≡ Some block
  pub elem : erased block.elem ≡ a
  pub size : block.len ≡ len
  pub live : block.live ≡ true

-- An open block each element of which has a value.
pub record Usable (m : List Block) (n : ℕ) (a : Ty) (len : ℕ) : Type 0 where
  pub is_open : Open m n a len
  pub full : length is_open.block.items ≡ len

mutual
  -- A value has a type.
  pub data HasShape (defs : List Def) (m : List Block) : Value → Ty → Type 0 where
    unit : HasShape defs m v.Unit t.Unit
    bool : {b : Bool} → HasShape defs m (v.Bool b) t.Bool
    num : {w : Width} {n : ℕ} → n < 2 ^ bits w → HasShape defs m (v.Num w n) (number_ty w)
    struct : {x : List ℕ} {vars : List (List ℕ)} {fields : List Field} {args : List Ty} {xs : List Value} → type_named defs x ≡ Some (Struct vars fields)
        → length args ≡ length vars → AreArguments defs [] args → AllHaveShape defs m xs (fields_at vars args fields)
        → HasShape defs m (v.Struct (names_of fields) xs) (t.Named x args)
    con : {x : List ℕ} {vars : List (List ℕ)} {cons : List Con} {k : ℕ} {c : Con} {args : List Ty} {xs : List Value} → type_named defs x ≡ Some (Sum vars cons)
        → length args ≡ length vars → AreArguments defs [] args → slice_get cons k ≡ Some c → AllHaveShape defs m xs (map (at vars args) c.args)
        → HasShape defs m (v.Con k xs) (t.Named x args)
    -- a part of a block that can be used
    buf : {n off len size : ℕ} {a : Ty} → Usable m n a size → off + len ≤ size → HasShape defs m (v.Buf n off len) (t.Buf a)

  pub data AllHaveShape (defs : List Def) (m : List Block) : List Value → List Ty → Type 0 where
    none : AllHaveShape defs m [] []
    one : {x : Value} {a : Ty} {xs : List Value} {types : List Ty} → HasShape defs m x a → AllHaveShape defs m xs types → AllHaveShape defs m (x ∷ xs) (a ∷ types)

-- A block's elements have its type, and hold no buffer: they have their shapes where there is no memory.
pub record BlockTyped (defs : List Def) (b : Block) : Type 0 where
  pub flat : IsFlat defs b.elem
  pub few : length b.items ≤ b.len
  pub items : AllByRecursion (λ x. HasShape defs [] x (erased b.elem)) b.items

abbrev pub MemoryTyped : List Def → List Block → Type 0
MemoryTyped defs m = AllByRecursion (BlockTyped defs) m

-- What was open or could be used still is so.
pub record Extends (m now : List Block) : Type 0 where
  pub opened : (n : ℕ) (a : Ty) (len : ℕ) → Open m n a len → Open now n a len
  pub usable : (n : ℕ) (a : Ty) (len : ℕ) → Usable m n a len → Usable now n a len
