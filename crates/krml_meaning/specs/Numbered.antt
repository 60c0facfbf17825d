-- What stands in textual order: the slots of a frame, by number.
use Rattle.std.specs.Prelude.{ℕ, ◌+◌, List, [], ◌∷◌, ◌++◌, length}
use Rattle.std.specs.List.{flat_map}
use Rattle.krml_syntax.specs.declared.tree.Slot.{Slot}

-- The `alloc` forms of something have slots of the frame around it, in textual order. What it means depends on the number
-- of the first of them.
pub record Numbered (A : Type 0) : Type 0 where
  pub slots : List Slot
  pub from : ℕ → A

-- no part
abbrev pub none : {A : Type 0} → A → Numbered A
none a = record { slots = []; from = λ k. a }

abbrev pub one : {A B : Type 0} → (A → B) → Numbered A → Numbered B
one f a = record { slots = a.slots; from = λ k. f (a.from k) }

-- two parts, the first of which stands before the second
abbrev pub two : {A B C : Type 0} → (A → B → C) → Numbered A → Numbered B → Numbered C
two f a b = record { slots = a.slots ++ b.slots; from = λ k. f (a.from k) (b.from (k + length a.slots)) }

abbrev pub three : {A B C D : Type 0} → (A → B → C → D) → Numbered A → Numbered B → Numbered C → Numbered D
three f a b c = two (λ g x. g x) (two f a b) c

abbrev pub each_from : {A : Type 0} → List (Numbered A) → ℕ → List A
each_from [] k = []
each_from (a ∷ parts) k = a.from k ∷ each_from parts (k + length a.slots)

abbrev pub many : {A B : Type 0} → (List A → B) → List (Numbered A) → Numbered B
many f parts = record { slots = flat_map (λ a. a.slots) parts; from = λ k. f (each_from parts k) }
