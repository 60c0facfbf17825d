-- Components of definitions: the types that structs, constructors and functions write.
use Rattle.std.specs.Prelude.{◌≡◌, ℕ, Bool, if◌then◌else◌, List, Option, Some, slice_get}
use Rattle.std.specs.BTreeMap.{is_at}
use Rattle.std.specs.Map.{lookup}
use Rattle.krml_syntax.specs.declared.tree.Ty.{Ty}
use Rattle.krml_syntax.specs.declared.tree.Def.{Def}
use Rattle.krml_syntax.specs.Read.{◌>>=◌}
use Rattle.krml_intern.specs.Exact.{key_cmp}
use Rattle.krml_ast.specs.declared.component.Component.{Component}
use Rattle.krml_ast.specs.declared.component.Component.TheVariants as comp
use Rattle.krml_ast.specs.Names.{struct_named, con_named, fun_named}

-- the type variables of a definition, and a type that it writes: of a field, of an argument of a constructor, of a parameter, or of the result
abbrev pub written : List Def → Component → List ℕ → ℕ → Option (List (List ℕ) × Ty)
written defs comp.Field x j = struct_named defs x >>= λ s. slice_get s.1 j >>= λ f. Some (s.0, f.ty)
written defs comp.Argument x j = con_named defs x >>= λ c. slice_get c.args j >>= λ b. Some (c.vars, b)
written defs comp.Parameter x j = fun_named defs x >>= λ f. slice_get f.params j >>= λ p. Some (f.vars, p.ty)
written defs comp.Result x j = fun_named defs x >>= λ f. Some (f.vars, f.result)

-- ---- those that were found

abbrev pub code_of : Component → ℕ
code_of comp.Field = 0
code_of comp.Argument = 1
code_of comp.Parameter = 2
code_of comp.Result = 3

-- the key of a component, and what was found of it
abbrev pub Found : Type 0
Found = List ((ℕ × (ℕ × ℕ)) × ℕ)

abbrev pub is_key : Component → ℕ → ℕ → ℕ × (ℕ × ℕ) → Bool
is_key kind k j = is_at (key_cmp (code_of kind, (k, j)))

-- what was found of a component, by its kind, the number of its name at type arguments, and its place
abbrev pub found_at : Found → Component → ℕ → ℕ → Option ℕ
found_at cs kind k j = lookup (is_key kind k j) cs

-- one more is found, and no other one changes
abbrev pub Adds : Found → Component → ℕ → ℕ → ℕ → Found → Type 0
Adds old kind k j n new = (c : Component) (l i : ℕ) → found_at new c l i ≡ (if is_key kind k j (code_of c, (l, i)) then Some n else found_at old c l i)
