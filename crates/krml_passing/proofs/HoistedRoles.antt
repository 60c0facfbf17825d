-- What holds of the role of each form in a hoisted file: no `alloc` form is left, and a match only where there was one.
use Rattle.std.proofs.Common.{ℕ, List, [], ◌∷◌, sym, ap, ◌∙◌, subst}
use Rattle.std.specs.List.{AllByRecursion}
use Rattle.krml_syntax.specs.declared.tree.Arm.{Arm, roll-Arm}
use Rattle.krml_syntax.specs.declared.tree.Case.{Case, roll-Case}
use Rattle.krml_syntax.specs.declared.tree.Item.{Item, roll-Item}
use Rattle.krml_syntax.specs.declared.tree.Expr.{Expr, roll-Expr}
use Rattle.krml_syntax.specs.declared.tree.Expr.TheOpen.{Expr-F, Item-F, Arm-F, Case-F}
use Rattle.krml_syntax.specs.declared.tree.Expr.TheFolds.{fold-roll-Expr, fold-roll-Item, fold-roll-Arm, fold-roll-Case}
use Rattle.krml_syntax.specs.declared.tree.Expr.TheViews.{out-roll-Expr}
use Rattle.krml_syntax.specs.declared.tree.SourceFile.{SourceFile}
use Rattle.krml_syntax.specs.Shape.{map_layer, map_item, map_case, role, Role, parts_of, parts_of_item, parts_of_arm, parts_of_case, OfParts}
use Rattle.krml_syntax.proofs.Shape.{layer_twice, case_twice}
use Rattle.krml_syntax.proofs.Attached.{Held, attached, case_attached, of_attached, of_case_attached, both_parts, by_parts}
use Rattle.krml_ast.specs.Pieces.{Piece, Value, Test, Pattern, Written, Bound, pieces_of, pieces_in}
use Rattle.krml_ast.specs.FileTypes.{HasNoAlloc, HasNoMatch, RoleIn, EachRole}
use Rattle.krml_ast.proofs.Pieces.{inside_item, inside_arm, inside_case, Parts, HoldsIn, parts_hold, inside_hold}
use Rattle.krml_meaning.specs.Numbered.{Numbered, one}
use Rattle.krml_rename.specs.Pass.{Layer}
use Rattle.krml_passing.specs.Hoisted.{layer_numbered, item_numbered, case_numbered, hoist_layer, hoist_item, hoist_arm, hoist_case, hoisted, item_hoisted, arm_hoisted, case_hoisted, body_hoisted, file_hoisted}
use Rattle.krml_passing.specs.Laws.{HoistedFilesHaveNoAlloc}
use Rattle.krml_passing.proofs.RoleParts.{own_holds, item_parts, item_whole, arm_parts, arm_whole, case_parts, case_whole, roles_with}
use Rattle.krml_passing.proofs.HoistedLayers.{layer_mapped, case_mapped}

-- what holds wherever slots are numbered from
abbrev pub FromEach : {A : Type 0} → (A → Type 0) → Numbered A → Type 0
FromEach P n = (k : ℕ) → P (n.from k)

-- something numbered, with what holds of it
abbrev held : {X A : Type 0} (P : A → Type 0) (f : X → Numbered A) → Held (λ x. FromEach P (f x)) → Numbered (Held P)
held P f q = record { slots = (f q.0).slots; from = λ k. ((f q.0).from k, q.1 k) }

-- ---- one layer

-- What holds of the parts, wherever their slots are numbered from, holds of the parts of the layer once they are.
module _ {X X' X'' X''' E I A C : Type 0} (P : E → Type 0) (P' : I → Type 0) (P'' : A → Type 0) (P''' : C → Type 0)
    (f : X → Numbered E) (f' : X' → Numbered I) (f'' : X'' → Numbered A) (f''' : X''' → Numbered C) where
  pub parts_numbered : (o : Expr-F X X' X'' X''')
      → OfParts (λ x. FromEach P (f x)) (λ x. FromEach P' (f' x)) (λ x. FromEach P'' (f'' x)) (λ x. FromEach P''' (f''' x)) (parts_of o)
      → (k : ℕ) → OfParts P P' P'' P''' (parts_of ((layer_numbered (map_layer f f' f'' f''' o)).from k))
  parts_numbered o h k =
      let w = attached (λ x. FromEach P (f x)) (λ x. FromEach P' (f' x)) (λ x. FromEach P'' (f'' x)) (λ x. FromEach P''' (f''' x)) o h in
      of_attached P P' P'' P''' ((layer_numbered (map_layer f f' f'' f''' o)).from k) (
        (layer_numbered (map_layer (held P f) (held P' f') (held P'' f'') (held P''' f''') w.0)).from k,
        ap (λ n. n.from k)
            (sym (layer_mapped (λ q. q.0) (λ q. q.0) (λ q. q.0) (λ q. q.0)
            (map_layer (held P f) (held P' f') (held P'' f'') (held P''' f''') w.0))
            ∙ ap layer_numbered (layer_twice (held P f) (held P' f') (held P'' f'') (held P''' f''')
            (one (λ q. q.0)) (one (λ q. q.0)) (one (λ q. q.0)) (one (λ q. q.0)) w.0
            ∙ sym (layer_twice (λ q. q.0) (λ q. q.0) (λ q. q.0) (λ q. q.0) f f' f'' f''' w.0) ∙ ap (map_layer f f' f'' f''') w.1)),
      )

  pub case_parts_numbered : (o : Case-F X X' X'' X''')
      → OfParts (λ x. FromEach P (f x)) (λ x. FromEach P' (f' x)) (λ x. FromEach P'' (f'' x)) (λ x. FromEach P''' (f''' x))
      (parts_of_case o) → (k : ℕ) → OfParts P P' P'' P''' (parts_of_case ((case_numbered (map_case f f' f'' f''' o)).from k))
  case_parts_numbered o h k =
      let w = case_attached (λ x. FromEach P (f x)) (λ x. FromEach P' (f' x)) (λ x. FromEach P'' (f'' x))
      (λ x. FromEach P''' (f''' x)) o h in
      of_case_attached P P' P'' P''' ((case_numbered (map_case f f' f'' f''' o)).from k) (
        (case_numbered (map_case (held P f) (held P' f') (held P'' f'') (held P''' f''') w.0)).from k,
        ap (λ n. n.from k)
            (sym (case_mapped (λ q. q.0) (λ q. q.0) (λ q. q.0) (λ q. q.0)
            (map_case (held P f) (held P' f') (held P'' f'') (held P''' f''') w.0))
            ∙ ap case_numbered (case_twice (held P f) (held P' f') (held P'' f'') (held P''' f''')
            (one (λ q. q.0)) (one (λ q. q.0)) (one (λ q. q.0)) (one (λ q. q.0)) w.0
            ∙ sym (case_twice (λ q. q.0) (λ q. q.0) (λ q. q.0) (λ q. q.0) f f' f'' f''' w.0) ∙ ap (map_case f f' f'' f''') w.1)),
      )

-- ---- the whole

-- what a layer becomes
abbrev pub layer_hoisted : Layer → Numbered Layer
layer_hoisted o = layer_numbered (map_layer hoisted item_hoisted arm_hoisted case_hoisted o)

-- R' holds of the role of what a layer becomes, where R does of its role.
abbrev pub RolesHoisted : (R R' : Role → Type 0) → Type 0
RolesHoisted R R' = (o : Layer) (k : ℕ) → R (role o) → R' (role ((layer_hoisted o).from k))

module _ (R R' : Role → Type 0) (roles : RolesHoisted R R') where
  abbrev Kept : Expr → Type 0
  Kept x = FromEach (λ z. AllByRecursion (RoleIn R') (pieces_of z)) (hoisted x)

  abbrev ItemKept : Item → Type 0
  ItemKept x = FromEach (λ z. AllByRecursion (RoleIn R') (inside_item z)) (item_hoisted x)

  abbrev ArmKept : Arm → Type 0
  ArmKept x = FromEach (λ z. AllByRecursion (RoleIn R') (inside_arm z)) (arm_hoisted x)

  abbrev CaseKept : Case → Type 0
  CaseKept x = FromEach (λ z. AllByRecursion (RoleIn R') (inside_case z)) (case_hoisted x)

  abbrev Keeps : Expr → Type 0
  Keeps x = AllByRecursion (RoleIn R) (pieces_of x) → Kept x

  abbrev ItemKeeps : Item → Type 0
  ItemKeeps x = AllByRecursion (RoleIn R) (inside_item x) → ItemKept x

  abbrev ArmKeeps : Arm → Type 0
  ArmKeeps x = AllByRecursion (RoleIn R) (inside_arm x) → ArmKept x

  abbrev CaseKeeps : Case → Type 0
  CaseKeeps x = AllByRecursion (RoleIn R) (inside_case x) → CaseKept x

  parts_kept : (parts : Parts) → OfParts Keeps ItemKeeps ArmKeeps CaseKeeps parts → HoldsIn (RoleIn R) parts
      → OfParts Kept ItemKept ArmKept CaseKept parts
  parts_kept = both_parts Keeps _ Kept ItemKeeps _ ItemKept ArmKeeps _ ArmKept CaseKeeps _ CaseKept
      (λ x f h. f h) (λ x f h. f h) (λ x f h. f h) (λ x f h. f h)

  layer_kept : (o : Layer) → OfParts Kept ItemKept ArmKept CaseKept (parts_of o) → (k : ℕ)
      → HoldsIn (RoleIn R') (parts_of ((layer_hoisted o).from k))
  layer_kept o h k = parts_numbered _ _ _ _ hoisted item_hoisted arm_hoisted case_hoisted o h k

  expr_step : (o : Layer) → OfParts Keeps ItemKeeps ArmKeeps CaseKeeps (parts_of o) → Keeps (roll-Expr o)
  expr_step o h all k =
      let z : Layer = (layer_hoisted o).from k in
      subst (λ (n : Numbered Expr). AllByRecursion (RoleIn R') (pieces_of (n.from k)))
      (sym (fold-roll-Expr _ _ _ _ hoist_layer hoist_item hoist_arm hoist_case o)) (
        subst (λ y. R' (role y)) (sym (out-roll-Expr z)) (roles o k (subst (λ y. R (role y)) (out-roll-Expr o) all.0)),
        inside_hold (RoleIn R') (roll-Expr z) z (out-roll-Expr z) (own_holds R' z)
            (layer_kept o (parts_kept (parts_of o) h (parts_hold (RoleIn R) (roll-Expr o) o (out-roll-Expr o) all.1)) k),
      )

  item_kept : (o : Item-F Expr Item Arm Case) → OfParts Kept ItemKept ArmKept CaseKept (parts_of_item o) → (k : ℕ)
      → HoldsIn (RoleIn R') (parts_of_item ((item_numbered (map_item hoisted item_hoisted arm_hoisted case_hoisted o)).from k))
  item_kept (Item-F.Let x b a) h k = (h.0 k, tt)
  item_kept (Item-F.Run a) h k = (h.0 k, tt)

  item_step : (o : Item-F Expr Item Arm Case) → OfParts Keeps ItemKeeps ArmKeeps CaseKeeps (parts_of_item o) → ItemKeeps (roll-Item o)
  item_step o h all k = subst (λ (n : Numbered Item). AllByRecursion (RoleIn R') (inside_item (n.from k)))
      (sym (fold-roll-Item _ _ _ _ hoist_layer hoist_item hoist_arm hoist_case o))
      (item_whole R' ((item_numbered (map_item hoisted item_hoisted arm_hoisted case_hoisted o)).from k)
      (item_kept o (parts_kept (parts_of_item o) h (item_parts R o all)) k))

  arm_step : (o : Arm-F Expr Item Arm Case) → OfParts Keeps ItemKeeps ArmKeeps CaseKeeps (parts_of_arm o) → ArmKeeps (roll-Arm o)
  arm_step o h all k = subst (λ (n : Numbered Arm). AllByRecursion (RoleIn R') (inside_arm (n.from k)))
      (sym (fold-roll-Arm _ _ _ _ hoist_layer hoist_item hoist_arm hoist_case o))
      (arm_whole R' (record { pat = o.pat; body = (hoisted o.body).from k }) (h.0 (arm_parts R o all).0 k, tt))

  case_step : (o : Case-F Expr Item Arm Case) → OfParts Keeps ItemKeeps ArmKeeps CaseKeeps (parts_of_case o) → CaseKeeps (roll-Case o)
  case_step o h all k = subst (λ (n : Numbered Case). AllByRecursion (RoleIn R') (inside_case (n.from k)))
      (sym (fold-roll-Case _ _ _ _ hoist_layer hoist_item hoist_arm hoist_case o))
      (case_whole R' ((case_numbered (map_case hoisted item_hoisted arm_hoisted case_hoisted o)).from k)
      (case_parts_numbered _ _ _ _ hoisted item_hoisted arm_hoisted case_hoisted o (parts_kept (parts_of_case o) h (case_parts R o all)) k))

  expr_keeps : (x : Expr) → Keeps x
  expr_keeps = by_parts Keeps ItemKeeps ArmKeeps CaseKeeps expr_step item_step arm_step case_step

  pub roles_hoisted : (file : SourceFile) → EachRole R file.defs → EachRole R' (file_hoisted file).defs
  roles_hoisted file h = roles_with R R' body_hoisted (λ x h. expr_keeps x h 0) file.defs h

-- ---- what is left, and what is not

-- of any role
each_any : (pieces : List Piece) → AllByRecursion (RoleIn (λ r. Unit {0})) pieces
each_any [] = tt
each_any (Value x ∷ pieces) = (tt, each_any pieces)
each_any (Test x ∷ pieces) = (tt, each_any pieces)
each_any (Pattern q ∷ pieces) = (tt, each_any pieces)
each_any (Written a ∷ pieces) = (tt, each_any pieces)
each_any (Bound x ∷ pieces) = (tt, each_any pieces)

-- no `alloc` form is left
pub no_alloc_hoisted : HoistedFilesHaveNoAlloc
no_alloc_hoisted file = roles_hoisted (λ r. Unit {0}) HasNoAlloc go file (each_any (pieces_in file.defs))
  where
    go : RolesHoisted (λ r. Unit {0}) HasNoAlloc
    go (Expr-F.Var x) k h = tt
    go _ k h = tt

-- where there was no match, there is none
pub no_match_hoisted : (file : SourceFile) → EachRole HasNoMatch file.defs → EachRole HasNoMatch (file_hoisted file).defs
no_match_hoisted file = roles_hoisted HasNoMatch HasNoMatch go file
  where
    go : RolesHoisted HasNoMatch HasNoMatch
    go (Expr-F.Match a arms) k h = h
    go _ k h = tt
