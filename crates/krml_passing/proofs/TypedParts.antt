-- Each part of what is well typed is well typed, in some scope.
use Rattle.std.proofs.Common.{◌≡◌, ℕ, suc, List, [], ◌∷◌, map, take, flat_map, Some, None, slice_get, refl, sym, subst}
use Rattle.std.specs.List.{AllByRecursion}
use Rattle.krml_trace.proofs.Lists.{each_append}
use Rattle.krml_syntax.specs.declared.tree.Ty.{Ty}
use Rattle.krml_syntax.specs.declared.tree.Field.{Field}
use Rattle.krml_syntax.specs.declared.tree.Arm.{Arm, out-Arm}
use Rattle.krml_syntax.specs.declared.tree.Case.{Case, out-Case}
use Rattle.krml_syntax.specs.declared.tree.Item.{Item, out-Item}
use Rattle.krml_syntax.specs.declared.tree.Item.TheVariants as item
use Rattle.krml_syntax.specs.declared.tree.Expr.{Expr, out-Expr, roll-Expr}
use Rattle.krml_syntax.specs.declared.tree.Expr.TheVariants as e
use Rattle.krml_syntax.specs.declared.tree.Expr.TheOpen.{Expr-F, Item-F, Arm-F, Case-F}
use Rattle.krml_syntax.specs.declared.tree.Expr.TheViews.{out-roll-Expr, out-roll-Arm, out-roll-Case}
use Rattle.krml_syntax.specs.declared.tree.Def.{Def}
use Rattle.krml_syntax.specs.declared.tree.Def.TheVariants as d
use Rattle.krml_syntax.specs.Types.{erased}
use Rattle.krml_syntax.specs.Shape.{Part, parts_of, OfParts}
use Rattle.krml_ast.specs.Typing.{Scope, HasType, AllHaveType, ArmsHaveType, ItemsLead, CasesHaveType}
use Rattle.krml_ast.specs.WellTyped.{WellTyped, AreWellTyped}
use Rattle.krml_ast.specs.FileTypes.{listed_vars}
use Rattle.krml_meaning.proofs.Lists.{each_get}
use Rattle.krml_meaning.proofs.Zeros.{NoVars, no_vars}

module _ (defs : List Def) (tvars : List (List ℕ)) where
  -- an expression has some type in some scope
  abbrev pub IsTyped : Expr → Type 0
  IsTyped x = (g : Scope) × (r : Ty) × HasType defs tvars g x r

  -- the expression of an item has a type; so of a branch, and of the body of a case
  abbrev pub HoldsTyped : Item-F Expr Item Arm Case → Type 0
  HoldsTyped (Item-F.Let x b a) = IsTyped a
  HoldsTyped (Item-F.Run a) = IsTyped a

  abbrev pub IsTypedItem : Item → Type 0
  IsTypedItem x = HoldsTyped (out-Item x)

  abbrev pub IsTypedArm : Arm → Type 0
  IsTypedArm x = IsTyped (out-Arm x).body

  abbrev pub IsTypedCase : Case → Type 0
  IsTypedCase x = IsTyped (out-Case x).body

  abbrev pub AreTyped : List (Part Expr Item Arm Case) → Type 0
  AreTyped parts = OfParts IsTyped IsTypedItem IsTypedArm IsTypedCase parts

  its : {g : Scope} {x : Expr} {r : Ty} → HasType defs tvars g x r → IsTyped x
  its {g = g} {r = r} d = (g, r, d)

  all_typed : {g : Scope} {es : List Expr} {rs : List Ty} → AllHaveType defs tvars g es rs → AreTyped (map Part.expr es)
  all_typed AllHaveType.none = tt
  all_typed (AllHaveType.one da ds) = (its da, all_typed ds)

  arms_typed : {g : Scope} {s : Ty} {xs : List Arm} {r : Ty} → ArmsHaveType defs tvars g s xs r → AreTyped (map Part.arm xs)
  arms_typed ArmsHaveType.no_arms = tt
  arms_typed (ArmsHaveType.an_arm {q = q} {a = a} m di da ds) =
      let e = out-roll-Arm (record { pat = q; body = a }) in
      (subst (λ (z : Arm-F Expr Item Arm Case). IsTyped z.body) (sym e) (its da), arms_typed ds)

  items_typed : {g h : Scope} {items : List Item} → ItemsLead defs tvars g items h → AreTyped (map Part.item items)
  items_typed ItemsLead.no_items = tt
  items_typed (ItemsLead.bound ok value da ds) = (rw item.outs-Let (its da), items_typed ds)
  items_typed (ItemsLead.ran da ds) = (rw item.outs-Run (its da), items_typed ds)

  cases_typed : {g : Scope} {xs : List Case} {r : Ty} → CasesHaveType defs tvars g xs r → AreTyped (map Part.case_ xs)
  cases_typed CasesHaveType.no_cases = tt
  cases_typed (CasesHaveType.a_case {tests = tests} {a = a} dt da ds) =
      let e = out-roll-Case (record { tests = tests; body = a }) in
      (subst (λ (z : Case-F Expr Item Arm Case). IsTyped z.body) (sym e) (its da), cases_typed ds)

  parts_typed : {g : Scope} {x : Expr} {r : Ty} → HasType defs tvars g x r → AreTyped (parts_of (out-Expr x))
  parts_typed (HasType.var h) = rw e.outs-Var tt
  parts_typed HasType.unit = rw e.outs-Unit tt
  parts_typed HasType.bool = rw e.outs-Bool tt
  parts_typed (HasType.num lt) = rw e.outs-Num tt
  parts_typed (HasType.bin da db) = rw e.outs-Bin (its da, (its db, tt))
  parts_typed (HasType.shift da dn) = rw e.outs-Shift (its da, (its dn, tt))
  parts_typed (HasType.cmp da db) = rw e.outs-Cmp (its da, (its db, tt))
  parts_typed (HasType.not da) = rw e.outs-Not (its da, tt)
  parts_typed (HasType.cast da) = rw e.outs-Cast (its da, tt)
  parts_typed (HasType.hide da) = rw e.outs-Hide (its da, tt)
  parts_typed (HasType.make is n oks ds) = rw e.outs-Make (all_typed ds)
  parts_typed (HasType.get args da is field) = rw e.outs-Get (its da, tt)
  parts_typed (HasType.con is n oks ds) = rw e.outs-Con (all_typed ds)
  parts_typed (HasType.read da di) = rw e.outs-Read (its da, (its di, tt))
  parts_typed (HasType.write da di dv) = rw e.outs-Write (its da, (its di, (its dv, tt)))
  parts_typed (HasType.slice b da di dn) = rw e.outs-Slice (its da, (its di, (its dn, tt)))
  parts_typed (HasType.tab is da) = rw e.outs-Tab (its da, tt)
  parts_typed (HasType.choice dc da db) = rw e.outs-If (its dc, (its da, (its db, tt)))
  parts_typed (HasType.match da value ds) = rw e.outs-Match (its da, arms_typed ds)
  parts_typed (HasType.block {items = items} {a = a} ds da) =
      rw e.outs-Do (each_append _ (map Part.item items) (Part.expr a ∷ []) (items_typed ds) (its da, tt))
  parts_typed (HasType.frame da res) = rw e.outs-Frame (its da, tt)
  parts_typed (HasType.alloc inside ok flat least most da) = rw e.outs-Alloc (its da, tt)
  parts_typed (HasType.while dc da) = rw e.outs-While (its dc, (its da, tt))
  parts_typed (HasType.for da db dc) = rw e.outs-For (its da, (its db, (its dc, tt)))
  parts_typed (HasType.call is n oks ds) = rw e.outs-Call (all_typed ds)
  parts_typed (HasType.cases ds) = rw e.outs-Cases (cases_typed ds)
  parts_typed (HasType.tag_is args is da) = rw e.outs-TagIs (its da, tt)
  parts_typed (HasType.part args is da there) = rw e.outs-Part (its da, tt)
  parts_typed (HasType.fill inside there da) = rw e.outs-Fill (its da, tt)

  -- of a layer, and the expression of an item, a branch or a case
  pub layer_typed : (o : Expr-F Expr Item Arm Case) → IsTyped (roll-Expr o) → AreTyped (parts_of o)
  layer_typed o t = subst (λ z. AreTyped (parts_of z)) (out-roll-Expr o) (parts_typed t.2)

  -- ---- bodies of functions

  abbrev pub BodyTyped : Def → Type 0
  BodyTyped (d.Fun x vars params result body) = IsTyped body
  BodyTyped _ = Unit {0}

-- in a file without type variables
module _ (defs : List Def) (typed : AreWellTyped defs) (vars : flat_map listed_vars defs ≡ []) where
  body_typed : (before : List Def) (def : Def) → WellTyped defs before def → listed_vars def ≡ [] → BodyTyped defs [] def
  body_typed before def (WellTyped.fun {params = params} {result = result} {body = body} new distinct names each ok gives h) e =
      let g : Scope = record { vars = map (λ (p : Field). (p.name, erased p.ty)) params; frame = None } in
      (g, erased result, subst (λ z. HasType defs z g body (erased result)) e h)
  body_typed before def (WellTyped.struct new distinct names each) e = tt
  body_typed before def (WellTyped.sum new new_cons distinct each) e = tt
  body_typed before def (WellTyped.table new fit) e = tt
  body_typed before def (WellTyped.entry new is none each answer) e = tt

  each_got : {A : Type 0} (P : A → Type 0) (xs : List A) → ((k : ℕ) (a : A) → slice_get xs k ≡ Some a → P a) → AllByRecursion P xs
  each_got P [] h = tt
  each_got P (x ∷ xs) h = (h 0 x refl, each_got P xs (λ k a. h (suc k) a))

  pub bodies_typed : AllByRecursion (BodyTyped defs []) defs
  bodies_typed = each_got (BodyTyped defs []) defs
      (λ k def is. body_typed (take k defs) def (typed k def is) (each_get NoVars defs k def (no_vars defs vars) is))
