-- Layers whose slots are numbered: numbering has nothing to do with what the parts are, and a layer of parts without slots means
-- what the layer means that it was made of.
use Rattle.std.proofs.Common.{◌≡◌, ℕ, ◌+◌, List, [], ◌∷◌, ◌++◌, map, length, flat_map, refl, ap, ◌∙◌}
use Rattle.std.proofs.lemmas.List.{append-nil}
use mathlib.Core.Path.{fun_ext}
use Rattle.krml_syntax.specs.declared.tree.Expr.TheOpen.{Expr-F, Item-F, Arm-F, Case-F}
use Rattle.krml_syntax.specs.declared.tree.Def.{Def}
use Rattle.krml_syntax.specs.Shape.{map_layer, map_item, map_arm, map_case}
use Rattle.krml_meaning.specs.State.{Sem}
use Rattle.krml_meaning.specs.Numbered.{Numbered, none, one, two, many, each_from}
use Rattle.krml_meaning.specs.Meaning as src
use Rattle.krml_passing.specs.Hoisted.{layer_numbered, item_numbered, case_numbered}

-- the same slots, and the same from each number
pub numbered_is : {A : Type 0} (a b : Numbered A) → a.slots ≡ b.slots → ((k : ℕ) → a.from k ≡ b.from k) → a ≡ b
numbered_is a b p q = ap (λ z. record { slots = z; from = a.from }) p ∙ ap (λ g. record { slots = b.slots; from = g }) (fun_ext q)

-- ---- other parts

module _ {A B : Type 0} (f : A → B) where
  slots_mapped : (ns : List (Numbered A)) → flat_map (λ n. n.slots) (map (one f) ns) ≡ flat_map (λ n. n.slots) ns
  slots_mapped [] = refl
  slots_mapped (n ∷ ns) = ap (λ z. n.slots ++ z) (slots_mapped ns)

  each_mapped : (ns : List (Numbered A)) (k : ℕ) → each_from (map (one f) ns) k ≡ map f (each_from ns k)
  each_mapped [] k = refl
  each_mapped (n ∷ ns) k = ap (λ z. f (n.from k) ∷ z) (each_mapped ns (k + length n.slots))

  many_mapped : (ns : List (Numbered A)) → many (λ xs. xs) (map (one f) ns) ≡ one (map f) (many (λ xs. xs) ns)
  many_mapped ns = numbered_is _ _ (slots_mapped ns) (each_mapped ns)

module _ {E I A C E' I' A' C' : Type 0} (f : E → E') (f' : I → I') (f'' : A → A') (f''' : C → C') where
  pub layer_mapped : (y : Expr-F (Numbered E) (Numbered I) (Numbered A) (Numbered C))
      → layer_numbered (map_layer (one f) (one f') (one f'') (one f''') y) ≡ one (map_layer f f' f'' f''') (layer_numbered y)
  layer_mapped (Expr-F.Make x args es) = ap (one (λ es. Expr-F.Make x args es)) (many_mapped f es)
  layer_mapped (Expr-F.Con x args es) = ap (one (λ es. Expr-F.Con x args es)) (many_mapped f es)
  layer_mapped (Expr-F.Match a arms) = ap (two (λ a arms. Expr-F.Match a arms) (one f a)) (many_mapped f'' arms)
  layer_mapped (Expr-F.Do items a) = ap (λ z. two (λ items a. Expr-F.Do items a) z (one f a)) (many_mapped f' items)
  layer_mapped (Expr-F.Call x args es) = ap (one (λ es. Expr-F.Call x args es)) (many_mapped f es)
  layer_mapped (Expr-F.Cases cases) = ap (one (λ cases. Expr-F.Cases cases)) (many_mapped f''' cases)
  layer_mapped _ = refl

  pub item_mapped : (y : Item-F (Numbered E) (Numbered I) (Numbered A) (Numbered C))
      → item_numbered (map_item (one f) (one f') (one f'') (one f''') y) ≡ one (map_item f f' f'' f''') (item_numbered y)
  item_mapped (Item-F.Let x b a) = refl
  item_mapped (Item-F.Run a) = refl

  pub case_mapped : (y : Case-F (Numbered E) (Numbered I) (Numbered A) (Numbered C))
      → case_numbered (map_case (one f) (one f') (one f'') (one f''') y) ≡ one (map_case f f' f'' f''') (case_numbered y)
  case_mapped y = ap (λ z. two (λ tests body. record { tests = tests; body = body }) z (one f y.body)) (many_mapped f y.tests)

-- ---- parts without slots

pub many_none : {A : Type 0} (xs : List A) → many (λ xs. xs) (map none xs) ≡ none xs
many_none xs = numbered_is _ _ (no_slots xs) (each_none xs)
  where
    no_slots : {A : Type 0} (xs : List A) → flat_map (λ n. n.slots) (map none xs) ≡ []
    no_slots [] = refl
    no_slots (x ∷ xs) = no_slots xs

    each_none : {A : Type 0} (xs : List A) (k : ℕ) → each_from (map none xs) k ≡ xs
    each_none [] k = refl
    each_none (x ∷ xs) k = ap (λ z. x ∷ z) (each_none xs (k + 0))

module _ (defs : List Def) (calls : src.Calls) where
  -- what a layer means whose parts have no slots
  abbrev pub plain_layer : Expr-F Sem src.Step src.Branch src.Tested → Numbered Sem
  plain_layer y = src.form_meaning defs calls (map_layer none none none none y)

  abbrev pub plain_item : Item-F Sem src.Step src.Branch src.Tested → Numbered src.Step
  plain_item y = src.item_meaning (map_item none none none none y)

  abbrev pub plain_arm : Arm-F Sem src.Step src.Branch src.Tested → Numbered src.Branch
  plain_arm y = src.arm_meaning defs (map_arm none none none none y)

  abbrev pub plain_case : Case-F Sem src.Step src.Branch src.Tested → Numbered src.Tested
  plain_case y = src.case_meaning (map_case none none none none y)

  layer_slots : (y : src.Layer) → (layer_numbered y).slots ≡ (src.form_meaning defs calls y).slots
  layer_slots (Expr-F.Var x) = refl
  layer_slots _ = refl

  layer_from : (y : src.Layer) (k : ℕ) → plain_layer ((layer_numbered y).from k) ≡ none ((src.form_meaning defs calls y).from k)
  layer_from (Expr-F.Make x args es) k = ap (one (src.make defs x)) (many_none (each_from es k))
  layer_from (Expr-F.Con x args es) k = ap (one (src.con defs x)) (many_none (each_from es k))
  layer_from (Expr-F.Match a arms) k = ap (two src.match (none (a.from k))) (many_none (each_from arms (k + length a.slots)))
  layer_from (Expr-F.Do items a) k = ap (λ z. two src.block z (none (a.from (k + length (flat_map (λ n. n.slots) items)))))
      (many_none (each_from items k))
  layer_from (Expr-F.Frame slots a) k = ap (λ z. none (src.frame z (a.from (length slots)))) (append-nil (slots ++ a.slots))
  layer_from (Expr-F.Call f args es) k = ap (one (src.call calls f args)) (many_none (each_from es k))
  layer_from (Expr-F.Cases cases) k = ap (one (src.cases 0)) (many_none (each_from cases k))
  layer_from _ k = refl

  -- A layer means what it means once its slots are numbered, and these are its slots.
  pub layer_means : (y : src.Layer) → one plain_layer (layer_numbered y) ≡ one none (src.form_meaning defs calls y)
  layer_means y = numbered_is _ _ (layer_slots y) (layer_from y)

  pub item_means : (y : Item-F (Numbered Sem) (Numbered src.Step) (Numbered src.Branch) (Numbered src.Tested))
      → one plain_item (item_numbered y) ≡ one none (src.item_meaning y)
  item_means (Item-F.Let x b a) = refl
  item_means (Item-F.Run a) = refl

  pub case_means : (y : Case-F (Numbered Sem) (Numbered src.Step) (Numbered src.Branch) (Numbered src.Tested))
      → one plain_case (case_numbered y) ≡ one none (src.case_meaning y)
  case_means y = numbered_is _ _ refl (λ k. ap (λ z. two (λ tests body. record { tests = tests; body = body }) z
      (none (y.body.from (k + length (flat_map (λ n. n.slots) y.tests))))) (many_none (each_from y.tests k)))
