-- Leaves as they are counted, once for each definition: those of a struct or a sum are looked up by its place in the file.
use Rattle.std.specs.Prelude.{ℕ, slice_get, List, Option, Some, None}
use Rattle.krml_syntax.specs.declared.tree.Ty.{Ty, out-Ty}
use Rattle.krml_syntax.specs.declared.tree.Ty.TheOpen.{Ty-F}
use Rattle.krml_syntax.specs.declared.tree.Def.{Def}
use Rattle.krml_syntax.specs.declared.tree.Def.TheVariants as d
use Rattle.krml_ast.specs.declared.kind.NameKind.TheVariants as k
use Rattle.krml_ast.specs.Places.{place_of}
use Rattle.krml_match.specs.Wide.{if_wide}

-- no leaves where none were counted
abbrev pub or_zero : Option ℕ → ℕ
or_zero (Some n) = n
or_zero None = 0

abbrev pub count_at : List ℕ → Option ℕ → ℕ
count_at counts (Some j) = or_zero (slice_get counts j)
count_at counts None = 0

abbrev pub of_named : List ℕ → List Def → List ℕ → ℕ
of_named counts defs x = count_at counts (place_of k.Type defs x)

abbrev pub counted_in : List ℕ → List Def → Ty-F Ty → ℕ
counted_in counts defs Ty-F.Bool = 1
counted_in counts defs Ty-F.Unit = 0
counted_in counts defs (Ty-F.Int i) = 1
counted_in counts defs (Ty-F.Buf a) = 1
counted_in counts defs (Ty-F.Var x) = 0
counted_in counts defs (Ty-F.Named x args) = of_named counts defs x

abbrev pub counted : List ℕ → List Def → Ty → ℕ
counted counts defs a = counted_in counts defs (out-Ty a)

-- a struct or a sum that has more of so many leaves than it may have
abbrev pub wide_at : ℕ → Def → Option (List ℕ × ℕ)
wide_at n (d.Struct x vars fields) = if_wide x n
wide_at n (d.Sum x vars cons) = if_wide x n
wide_at n _ = None
