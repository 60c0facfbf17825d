-- Layers whose parts carry what holds of them, as the kit's induction over expressions has them, and the induction over parts.
use Rattle.std.proofs.Common.{◌≡◌, List, [], ◌∷◌, ◌++◌, map, refl, sym, ap, ◌∙◌, subst}
use Rattle.krml_syntax.specs.declared.tree.Item.{Item, roll-Item}
use Rattle.krml_syntax.specs.declared.tree.Arm.{Arm, roll-Arm}
use Rattle.krml_syntax.specs.declared.tree.Case.{Case, roll-Case}
use Rattle.krml_syntax.specs.declared.tree.Expr.{Expr, roll-Expr}
use Rattle.krml_syntax.specs.declared.tree.Expr.TheFolds.{ind-Expr}
use Rattle.krml_syntax.specs.declared.tree.Expr.TheOpen.{Expr-F, Item-F, Arm-F, Case-F}
use Rattle.krml_syntax.specs.Shape.{map_layer, map_item, map_arm, map_case, Part, map_part, parts_of, parts_of_item, parts_of_arm, parts_of_case, OfPart, OfParts}
use Rattle.krml_syntax.proofs.Shape.{layer_twice, of_parts, parts_mapped, item_parts_mapped, case_parts_mapped}
use Rattle.krml_trace.proofs.Lists.{each_left, each_right}

-- something, and what holds of it
abbrev pub Held : {X : Type 0} → (X → Type 0) → Type 0
Held {X = X} R = (x : X) × R x

module _ {E I A C : Type 0} (R : E → Type 0) (R' : I → Type 0) (R'' : A → Type 0) (R''' : C → Type 0) where
  -- a layer, and beside each part what holds of it
  abbrev pub With : Expr-F E I A C → Type 0
  With o = (y : Expr-F (Held R) (Held R') (Held R'') (Held R''')) × (map_layer (λ q. q.0) (λ q. q.0) (λ q. q.0) (λ q. q.0) y ≡ o)

  abbrev pub ItemWith : Item-F E I A C → Type 0
  ItemWith o = (y : Item-F (Held R) (Held R') (Held R'') (Held R''')) × (map_item (λ q. q.0) (λ q. q.0) (λ q. q.0) (λ q. q.0) y ≡ o)

  abbrev pub ArmWith : Arm-F E I A C → Type 0
  ArmWith o = (y : Arm-F (Held R) (Held R') (Held R'') (Held R''')) × (map_arm (λ q. q.0) (λ q. q.0) (λ q. q.0) (λ q. q.0) y ≡ o)

  abbrev pub CaseWith : Case-F E I A C → Type 0
  CaseWith o = (y : Case-F (Held R) (Held R') (Held R'') (Held R''')) × (map_case (λ q. q.0) (λ q. q.0) (λ q. q.0) (λ q. q.0) y ≡ o)

  abbrev Holds : List (Part E I A C) → Type 0
  Holds parts = OfParts R R' R'' R''' parts

  -- parts of one kind with what holds of them
  module _ {X : Type 0} (p : X → Part E I A C) (S : X → Type 0) (said : (x : X) → OfPart R R' R'' R''' (p x) → S x) where
    list_with : (xs : List X) → Holds (map p xs) → (ys : List (Held S)) × (map (λ q. q.0) ys ≡ xs)
    list_with [] h = ([], refl)
    list_with (x ∷ xs) h = let k = list_with xs h.1 in ((x, said x h.0) ∷ k.0, ap (λ z. x ∷ z) k.1)

    -- and an expression behind them
    list_and_last : (xs : List X) (a : E) → Holds (map p xs ++ Part.expr a ∷ []) → ((ys : List (Held S)) × (map (λ q. q.0) ys ≡ xs)) × R a
    list_and_last xs a h =
        let last : Holds (Part.expr a ∷ []) = each_right (OfPart R R' R'' R''') (map p xs) (Part.expr a ∷ []) h in
        (list_with xs (each_left (OfPart R R' R'' R''') (map p xs) (Part.expr a ∷ []) h), last.0)

  pub attached : (o : Expr-F E I A C) → OfParts R R' R'' R''' (parts_of o) → With o
  attached (Expr-F.Var x) h = (Expr-F.Var x, refl)
  attached Expr-F.Unit h = (Expr-F.Unit, refl)
  attached (Expr-F.Bool b) h = (Expr-F.Bool b, refl)
  attached (Expr-F.Num i n) h = (Expr-F.Num i n, refl)
  attached (Expr-F.Bin o i a b) h = (Expr-F.Bin o i (a, h.0) (b, h.1.0), refl)
  attached (Expr-F.Shift left i a n) h = (Expr-F.Shift left i (a, h.0) (n, h.1.0), refl)
  attached (Expr-F.Cmp o i a b) h = (Expr-F.Cmp o i (a, h.0) (b, h.1.0), refl)
  attached (Expr-F.Not a) h = (Expr-F.Not (a, h.0), refl)
  attached (Expr-F.Cast i j a) h = (Expr-F.Cast i j (a, h.0), refl)
  attached (Expr-F.Hide i a) h = (Expr-F.Hide i (a, h.0), refl)
  attached (Expr-F.Make x args es) h =
      let k = list_with Part.expr R (λ x r. r) es h in (Expr-F.Make x args k.0, ap (λ z. Expr-F.Make x args z) k.1)
  attached (Expr-F.Get y a) h = (Expr-F.Get y (a, h.0), refl)
  attached (Expr-F.Con x args es) h =
      let k = list_with Part.expr R (λ x r. r) es h in (Expr-F.Con x args k.0, ap (λ z. Expr-F.Con x args z) k.1)
  attached (Expr-F.Read a i) h = (Expr-F.Read (a, h.0) (i, h.1.0), refl)
  attached (Expr-F.Write a i v) h = (Expr-F.Write (a, h.0) (i, h.1.0) (v, h.1.1.0), refl)
  attached (Expr-F.Slice a i n) h = (Expr-F.Slice (a, h.0) (i, h.1.0) (n, h.1.1.0), refl)
  attached (Expr-F.Tab x a) h = (Expr-F.Tab x (a, h.0), refl)
  attached (Expr-F.If c a b) h = (Expr-F.If (c, h.0) (a, h.1.0) (b, h.1.1.0), refl)
  attached (Expr-F.Match a arms) h =
      let k = list_with Part.arm R'' (λ x r. r) arms h.1 in (Expr-F.Match (a, h.0) k.0, ap (λ z. Expr-F.Match a z) k.1)
  attached (Expr-F.Do items a) h =
      let k = list_and_last Part.item R' (λ x r. r) items a h in (Expr-F.Do k.0.0 (a, k.1), ap (λ z. Expr-F.Do z a) k.0.1)
  attached (Expr-F.Frame slots a) h = (Expr-F.Frame slots (a, h.0), refl)
  attached (Expr-F.Alloc b n a) h = (Expr-F.Alloc b n (a, h.0), refl)
  attached (Expr-F.While c a) h = (Expr-F.While (c, h.0) (a, h.1.0), refl)
  attached (Expr-F.For x a b c) h = (Expr-F.For x (a, h.0) (b, h.1.0) (c, h.1.1.0), refl)
  attached (Expr-F.Call x args es) h =
      let k = list_with Part.expr R (λ x r. r) es h in (Expr-F.Call x args k.0, ap (λ z. Expr-F.Call x args z) k.1)
  attached (Expr-F.Cases cases) h = let k = list_with Part.case_ R''' (λ x r. r) cases h in (Expr-F.Cases k.0, ap (λ z. Expr-F.Cases z) k.1)
  attached (Expr-F.TagIs x a) h = (Expr-F.TagIs x (a, h.0), refl)
  attached (Expr-F.Part x j a) h = (Expr-F.Part x j (a, h.0), refl)
  attached (Expr-F.Fill k a) h = (Expr-F.Fill k (a, h.0), refl)

  pub item_attached : (o : Item-F E I A C) → OfParts R R' R'' R''' (parts_of_item o) → ItemWith o
  item_attached (Item-F.Let x b a) h = (Item-F.Let x b (a, h.0), refl)
  item_attached (Item-F.Run a) h = (Item-F.Run (a, h.0), refl)

  pub arm_attached : (o : Arm-F E I A C) → OfParts R R' R'' R''' (parts_of_arm o) → ArmWith o
  arm_attached o h = (record { pat = o.pat; body = (o.body, h.0) }, refl)

  pub case_attached : (o : Case-F E I A C) → OfParts R R' R'' R''' (parts_of_case o) → CaseWith o
  case_attached o h =
      let k = list_and_last Part.expr R (λ x r. r) o.tests o.body h in
      (record { tests = k.0.0; body = (o.body, k.1) }, ap (λ z. record { tests = z; body = o.body }) k.0.1)

  -- and back
  each_part : (parts : List (Part (Held R) (Held R') (Held R'') (Held R''')))
      → Holds (map (map_part (λ q. q.0) (λ q. q.0) (λ q. q.0) (λ q. q.0)) parts)
  each_part [] = tt
  each_part (Part.expr q ∷ parts) = (q.1, each_part parts)
  each_part (Part.item q ∷ parts) = (q.1, each_part parts)
  each_part (Part.arm q ∷ parts) = (q.1, each_part parts)
  each_part (Part.case_ q ∷ parts) = (q.1, each_part parts)

  pub of_attached : (o : Expr-F E I A C) → With o → OfParts R R' R'' R''' (parts_of o)
  of_attached o w = subst (λ z. Holds (parts_of z)) w.1
      (subst Holds (sym (parts_mapped (λ q. q.0) (λ q. q.0) (λ q. q.0) (λ q. q.0) w.0)) (each_part (parts_of w.0)))

  pub of_item_attached : (o : Item-F E I A C) → ItemWith o → OfParts R R' R'' R''' (parts_of_item o)
  of_item_attached o w = subst (λ z. Holds (parts_of_item z)) w.1
      (subst Holds (sym (item_parts_mapped (λ q. q.0) (λ q. q.0) (λ q. q.0) (λ q. q.0) w.0)) (each_part (parts_of_item w.0)))

  pub of_arm_attached : (o : Arm-F E I A C) → ArmWith o → OfParts R R' R'' R''' (parts_of_arm o)
  of_arm_attached o w = subst (λ (z : Arm-F E I A C). Holds (parts_of_arm z)) w.1 (each_part (parts_of_arm w.0))

  pub of_case_attached : (o : Case-F E I A C) → CaseWith o → OfParts R R' R'' R''' (parts_of_case o)
  of_case_attached o w = subst (λ (z : Case-F E I A C). Holds (parts_of_case z)) w.1
      (subst Holds (sym (case_parts_mapped (λ q. q.0) (λ q. q.0) (λ q. q.0) (λ q. q.0) w.0)) (each_part (parts_of_case w.0)))

-- what follows from two facts of each part
module _ {E I A C : Type 0} (R S T : E → Type 0) (R' S' T' : I → Type 0) (R'' S'' T'' : A → Type 0) (R''' S''' T''' : C → Type 0)
    (k : (x : E) → R x → S x → T x) (k' : (x : I) → R' x → S' x → T' x)
    (k'' : (x : A) → R'' x → S'' x → T'' x) (k''' : (x : C) → R''' x → S''' x → T''' x) where
  pub both_parts : (parts : List (Part E I A C)) → OfParts R R' R'' R''' parts → OfParts S S' S'' S''' parts → OfParts T T' T'' T''' parts
  both_parts [] h h' = tt
  both_parts (Part.expr x ∷ parts) h h' = (k x h.0 h'.0, both_parts parts h.1 h'.1)
  both_parts (Part.item x ∷ parts) h h' = (k' x h.0 h'.0, both_parts parts h.1 h'.1)
  both_parts (Part.arm x ∷ parts) h h' = (k'' x h.0 h'.0, both_parts parts h.1 h'.1)
  both_parts (Part.case_ x ∷ parts) h h' = (k''' x h.0 h'.0, both_parts parts h.1 h'.1)

  pub both : (o : Expr-F E I A C) → With R R' R'' R''' o → With S S' S'' S''' o → With T T' T'' T''' o
  both o w w' = attached T T' T'' T''' o (both_parts (parts_of o) (of_attached R R' R'' R''' o w) (of_attached S S' S'' S''' o w'))

  pub both_item : (o : Item-F E I A C) → ItemWith R R' R'' R''' o → ItemWith S S' S'' S''' o → ItemWith T T' T'' T''' o
  both_item o w w' = item_attached T T' T'' T''' o
      (both_parts (parts_of_item o) (of_item_attached R R' R'' R''' o w) (of_item_attached S S' S'' S''' o w'))

  pub both_arm : (o : Arm-F E I A C) → ArmWith R R' R'' R''' o → ArmWith S S' S'' S''' o → ArmWith T T' T'' T''' o
  both_arm o w w' = arm_attached T T' T'' T''' o
      (both_parts (parts_of_arm o) (of_arm_attached R R' R'' R''' o w) (of_arm_attached S S' S'' S''' o w'))

  pub both_case : (o : Case-F E I A C) → CaseWith R R' R'' R''' o → CaseWith S S' S'' S''' o → CaseWith T T' T'' T''' o
  both_case o w w' = case_attached T T' T'' T''' o
      (both_parts (parts_of_case o) (of_case_attached R R' R'' R''' o w) (of_case_attached S S' S'' S''' o w'))

-- functions that agree on the parts of a layer make the same layer of it
module _ {E I A C E' I' A' C' : Type 0} (f g : E → E') (f' g' : I → I') (f'' g'' : A → A') (f''' g''' : C → C') where
  pub same_layer : (o : Expr-F E I A C)
      → OfParts (λ x. f x ≡ g x) (λ x. f' x ≡ g' x) (λ x. f'' x ≡ g'' x) (λ x. f''' x ≡ g''' x) (parts_of o)
      → map_layer f f' f'' f''' o ≡ map_layer g g' g'' g''' o
  same_layer o h =
      let w = attached (λ x. f x ≡ g x) (λ x. f' x ≡ g' x) (λ x. f'' x ≡ g'' x) (λ x. f''' x ≡ g''' x) o h in
      ap (map_layer f f' f'' f''') (sym w.1)
      ∙ layer_twice (λ q. q.0) (λ q. q.0) (λ q. q.0) (λ q. q.0) f f' f'' f''' w.0
      ∙ of_parts (λ k k' k'' k'''. map_layer k k' k'' k''' w.0) (λ q. q.1) (λ q. q.1) (λ q. q.1) (λ q. q.1)
      ∙ sym (layer_twice (λ q. q.0) (λ q. q.0) (λ q. q.0) (λ q. q.0) g g' g'' g''' w.0)
      ∙ ap (map_layer g g' g'' g''') w.1

-- ---- induction

-- What holds of an expression where it holds of its parts, holds of each expression.
module _ (P : Expr → Type 0) (P' : Item → Type 0) (P'' : Arm → Type 0) (P''' : Case → Type 0) where
  pub by_parts : ((o : Expr-F Expr Item Arm Case) → OfParts P P' P'' P''' (parts_of o) → P (roll-Expr o))
      → ((o : Item-F Expr Item Arm Case) → OfParts P P' P'' P''' (parts_of_item o) → P' (roll-Item o))
      → ((o : Arm-F Expr Item Arm Case) → OfParts P P' P'' P''' (parts_of_arm o) → P'' (roll-Arm o))
      → ((o : Case-F Expr Item Arm Case) → OfParts P P' P'' P''' (parts_of_case o) → P''' (roll-Case o))
      → (x : Expr) → P x
  by_parts step step' step'' step''' = ind-Expr P P' P'' P'''
      (λ o y eq. step o (of_attached P P' P'' P''' o (y, eq)))
      (λ o y eq. step' o (of_item_attached P P' P'' P''' o (y, eq)))
      (λ o y eq. step'' o (of_arm_attached P P' P'' P''' o (y, eq)))
      (λ o y eq. step''' o (of_case_attached P P' P'' P''' o (y, eq)))
