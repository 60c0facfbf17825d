-- Laws of the shape of expressions: parts replaced twice, and the parts of a layer with other parts.
use Rattle.std.proofs.Common.{◌≡◌, List, [], ◌∷◌, ◌++◌, map, refl, sym, ap, ◌∙◌}
use Rattle.std.proofs.lemmas.List.{map-append}
use mathlib.Core.Path.{fun_ext}
use Rattle.krml_syntax.specs.declared.tree.Expr.TheOpen.{Expr-F, Item-F, Case-F}
use Rattle.krml_syntax.specs.Shape.{map_layer, map_item, map_case, Part, map_part, parts_of, parts_of_item, parts_of_case}
use Rattle.krml_trace.proofs.Lists.{map_twice}

-- ---- one function after another

module _ {E I A C E' I' A' C' E'' I'' A'' C'' : Type 0} (f : E → E') (f' : I → I') (f'' : A → A') (f''' : C → C')
    (g : E' → E'') (g' : I' → I'') (g'' : A' → A'') (g''' : C' → C'') where
  pub layer_twice : (y : Expr-F E I A C)
      → map_layer g g' g'' g''' (map_layer f f' f'' f''' y)
      ≡ map_layer (λ x. g (f x)) (λ x. g' (f' x)) (λ x. g'' (f'' x)) (λ x. g''' (f''' x)) y
  layer_twice (Expr-F.Make x args es) = ap (λ z. Expr-F.Make x args z) (map_twice f g es)
  layer_twice (Expr-F.Con x args es) = ap (λ z. Expr-F.Con x args z) (map_twice f g es)
  layer_twice (Expr-F.Match a arms) = ap (λ z. Expr-F.Match (g (f a)) z) (map_twice f'' g'' arms)
  layer_twice (Expr-F.Do items a) = ap (λ z. Expr-F.Do z (g (f a))) (map_twice f' g' items)
  layer_twice (Expr-F.Call x args es) = ap (λ z. Expr-F.Call x args z) (map_twice f g es)
  layer_twice (Expr-F.Cases cases) = ap (λ z. Expr-F.Cases z) (map_twice f''' g''' cases)
  layer_twice _ = refl

  pub item_twice : (y : Item-F E I A C)
      → map_item g g' g'' g''' (map_item f f' f'' f''' y)
      ≡ map_item (λ x. g (f x)) (λ x. g' (f' x)) (λ x. g'' (f'' x)) (λ x. g''' (f''' x)) y
  item_twice (Item-F.Let x b a) = refl
  item_twice (Item-F.Run a) = refl

  pub case_twice : (y : Case-F E I A C)
      → map_case g g' g'' g''' (map_case f f' f'' f''' y)
      ≡ map_case (λ x. g (f x)) (λ x. g' (f' x)) (λ x. g'' (f'' x)) (λ x. g''' (f''' x)) y
  case_twice y = ap (λ z. record { tests = z; body = g (f y.body) }) (map_twice f g y.tests)

-- functions that agree part by part
module _ {E I A C E' I' A' C' R : Type 0} where
  pub of_parts : (k : (E → E') → (I → I') → (A → A') → (C → C') → R) {f g : E → E'} {f' g' : I → I'} {f'' g'' : A → A'} {f''' g''' : C → C'}
      → ((x : E) → f x ≡ g x) → ((x : I) → f' x ≡ g' x) → ((x : A) → f'' x ≡ g'' x) → ((x : C) → f''' x ≡ g''' x)
      → k f f' f'' f''' ≡ k g g' g'' g'''
  of_parts k {f = f} {g = g} {f' = f'} {g' = g'} {f'' = f''} {g'' = g''} {f''' = f'''} {g''' = g'''} h h' h'' h''' =
      ap (λ z. k z f' f'' f''') (fun_ext h) ∙ ap (λ z. k g z f'' f''') (fun_ext h') ∙ ap (λ z. k g g' z f''') (fun_ext h'')
      ∙ ap (λ z. k g g' g'' z) (fun_ext h''')

-- ---- parts

module _ {E I A C E' I' A' C' : Type 0} (f : E → E') (f' : I → I') (f'' : A → A') (f''' : C → C') where
  abbrev replaced : Part E I A C → Part E' I' A' C'
  replaced = map_part f f' f'' f'''

  -- parts of one kind
  module _ {X Y : Type 0} (p : X → Part E I A C) (q : Y → Part E' I' A' C') (g : X → Y) (same : (x : X) → q (g x) ≡ replaced (p x)) where
    list_mapped : (xs : List X) → map q (map g xs) ≡ map replaced (map p xs)
    list_mapped [] = refl
    list_mapped (x ∷ xs) = ap (λ z. z ∷ map q (map g xs)) (same x) ∙ ap (λ z. replaced (p x) ∷ z) (list_mapped xs)

    -- and an expression behind them
    then_last : (xs : List X) (a : E) → map q (map g xs) ++ Part.expr (f a) ∷ [] ≡ map replaced (map p xs ++ Part.expr a ∷ [])
    then_last xs a = ap (λ z. z ++ Part.expr (f a) ∷ []) (list_mapped xs) ∙ sym (map-append replaced (map p xs) (Part.expr a ∷ []))

  pub parts_mapped : (y : Expr-F E I A C) → parts_of (map_layer f f' f'' f''' y) ≡ map (map_part f f' f'' f''') (parts_of y)
  parts_mapped (Expr-F.Make x args es) = list_mapped Part.expr Part.expr f (λ x. refl) es
  parts_mapped (Expr-F.Con x args es) = list_mapped Part.expr Part.expr f (λ x. refl) es
  parts_mapped (Expr-F.Match a arms) = ap (λ z. Part.expr (f a) ∷ z) (list_mapped Part.arm Part.arm f'' (λ x. refl) arms)
  parts_mapped (Expr-F.Do items a) = then_last Part.item Part.item f' (λ x. refl) items a
  parts_mapped (Expr-F.Call x args es) = list_mapped Part.expr Part.expr f (λ x. refl) es
  parts_mapped (Expr-F.Cases cases) = list_mapped Part.case_ Part.case_ f''' (λ x. refl) cases
  parts_mapped _ = refl

  pub item_parts_mapped : (y : Item-F E I A C) → parts_of_item (map_item f f' f'' f''' y) ≡ map (map_part f f' f'' f''') (parts_of_item y)
  item_parts_mapped (Item-F.Let x b a) = refl
  item_parts_mapped (Item-F.Run a) = refl

  pub case_parts_mapped : (y : Case-F E I A C) → parts_of_case (map_case f f' f'' f''' y) ≡ map (map_part f f' f'' f''') (parts_of_case y)
  case_parts_mapped y = then_last Part.expr Part.expr f (λ x. refl) y.tests y.body
