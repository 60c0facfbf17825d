-- What is done with scopes.
use Rattle.std.specs.Prelude.{ℕ, Bool, true, false, List, Option, Some, None, slice_get}
use Rattle.krml_syntax.specs.declared.tree.Ty.{Ty}
use Rattle.krml_syntax.specs.declared.tree.Slot.{Slot}
use Rattle.krml_syntax.specs.Read.{◌>>=◌}
use Rattle.krml_syntax.specs.Types.{erased}
use Rattle.krml_ast.specs.Typing.{Scope}
use Rattle.krml_intern.specs.Scope.{cut}

abbrev pub cut_scope : ℕ → Scope → Scope
cut_scope n g = record { vars = cut n g.vars; frame = g.frame }

-- in another frame, or in none
abbrev pub with_frame : Option (List Slot) → Scope → Scope
with_frame frame g = record { vars = g.vars; frame = frame }

abbrev pub is_framed : Option (List Slot) → Bool
is_framed (Some slots) = true
is_framed None = false

-- the type of the elements of a slot
abbrev pub slot_type : Option (List Slot) → ℕ → Option Ty
slot_type frame k = frame >>= λ slots. slice_get slots k >>= λ s. Some (erased s.ty)
