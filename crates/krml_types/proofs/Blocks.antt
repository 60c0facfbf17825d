-- Steps of the checks of lists: what the items of a block add is cut off behind it, and one case more.
use Rattle.std.proofs.Common.{◌≡◌, ℕ, ◌&&◌, List, [], ◌∷◌, ◌++◌, map, length, Some, refl, sym, ap, ◌∙◌, append_assoc}
use Rattle.krml_syntax.specs.declared.tree.Arm.{Arm}
use Rattle.krml_syntax.specs.declared.tree.Case.{Case}
use Rattle.krml_syntax.specs.declared.tree.Item.{Item, out-Item}
use Rattle.krml_syntax.specs.declared.tree.Expr.{Expr}
use Rattle.krml_syntax.specs.declared.tree.Expr.TheOpen.{Item-F}
use Rattle.krml_syntax.specs.declared.tree.Expr.TheFolds.{fold_out-Item, map-Item}
use Rattle.krml_syntax.specs.declared.tree.Ty.TheVariants as t
use Rattle.krml_syntax.specs.declared.tree.Def.{Def}
use Rattle.krml_syntax.specs.Types.{erased}
use Rattle.krml_ast.specs.Typing.{Vars, Scope, with_vars}
use Rattle.krml_syntax.proofs.Only.{Only, only_some, only_then, only_more}
use Rattle.krml_types.specs.Types.{is_type}
use Rattle.krml_types.specs.Parts.{is_value}
use Rattle.krml_types.specs.Scopes.{cut_scope}
use Rattle.krml_types.specs.Expressions.{Comp, ItemComp, ArmComp, has, items_from, item_step, type_of, item_of, arm_of, case_of}
use Rattle.krml_types.proofs.Parts.{only_demand, only_at}
use Rattle.krml_types.proofs.Scopes.{cut_back}

module _ (defs : List Def) (tvars : List (List ℕ)) where
  -- a scope with newer variables
  abbrev Extends : Scope → Scope → Type 0
  Extends g h = (more : Vars) × (h ≡ with_vars more g)

  step_extends : (y : Item-F Comp ItemComp ArmComp Comp) (g : Scope) → Only (Extends g) (item_step defs tvars y g)
  step_extends (Item-F.Let x b c) g = only_demand (is_type defs tvars b && is_value b) (λ h u. only_at (has c (erased b) g) (λ w q.
      only_some (with_vars ((x, erased b) ∷ []) g) ((x, erased b) ∷ [], refl)))
  step_extends (Item-F.Run c) g = only_at (has c t.Unit g) (λ w q. only_some g ([], refl))

  item_extends : (x : Item) (g : Scope) → Only (Extends g) (item_of defs tvars x g)
  item_extends x g = rw fold_out-Item (step_extends
      (map-Item Expr Item Arm Case Comp ItemComp ArmComp Comp (type_of defs tvars) (item_of defs tvars) (arm_of defs tvars) (case_of defs tvars) (out-Item x)) g)

  items_extend : (items : List Item) (g : Scope) → Only (Extends g) (items_from (map (item_of defs tvars) items) g)
  items_extend [] g = only_some g ([], refl)
  items_extend (x ∷ items) g = only_then (item_of defs tvars x g) (item_extends x g) (λ m e. only_more (items_extend items m) (λ h f.
      (f.0 ++ e.0, f.1 ∙ ap (λ z. with_vars f.0 z) e.1 ∙ ap (λ vars. record { vars = vars; frame = g.frame }) (sym (append_assoc f.0 e.0 g.vars)))))

  pub items_cut : (items : List Item) (g h : Scope) → items_from (map (item_of defs tvars) items) g ≡ Some h → cut_scope (length g.vars) h ≡ g
  items_cut items g h q =
      let e = (items_extend items g).holds h q in
      ap (λ z. cut_scope (length g.vars) z) e.1 ∙ cut_back e.0 g
