-- A type takes at most 8 bytes a leaf, and its alignment is 1, 4 or 8.
use Rattle.std.proofs.Common.{◌≡◌, ℕ, zero, suc, ◌+◌, ◌*◌, ◌≤◌, ◌<◌, max, List, [], ◌∷◌, Option, Some, None, ◌⊎◌, inl, inr, refl, subst, arith}
use Rattle.std.specs.Int.{next_multiple_of}
use Rattle.std.specs.List.{fold, sum_by}
use Rattle.std.proofs.lemmas.List.Sums.{sum_by-cons}
use Rattle.krml_trace.specs.declared.width.Width.{Width}
use Rattle.krml_trace.specs.declared.width.Width.TheVariants.{W8, W32, W64}
use Rattle.krml_syntax.specs.declared.tree.Ty.{Ty, out-Ty}
use Rattle.krml_syntax.specs.declared.tree.Ty.TheOpen.{Ty-F}
use Rattle.krml_syntax.specs.declared.tree.Def.{Def}
use Rattle.krml_ast.specs.Names.{Composite, type_named}
use Rattle.krml_ast.specs.Leaves.{member_types, leaves_of, leaves_in, leaves_within}
use Rattle.krml_layout.specs.declared.layout.TypeLayout.{TypeLayout}
use Rattle.krml_layout.specs.Layout.{bytes_of, scalar, empty, with_member, layout_of, layout_in, layout_within}

abbrev pub IsAlign : ℕ → Type 0
IsAlign n = (n ≡ 1) ⊎ (n ≡ 4) ⊎ (n ≡ 8)

pub record Bounded (l : TypeLayout) (k : ℕ) : Type 0 where
  pub size : l.size ≤ 8 * k
  pub align : IsAlign l.align

pub align_positive : (n : ℕ) → IsAlign n → 0 < n
align_positive n (inl e) = omega (arith, e)
align_positive n (inr (inl e)) = omega (arith, e)
align_positive n (inr (inr e)) = omega (arith, e)

pub align_small : (n : ℕ) → IsAlign n → n ≤ 8
align_small n (inl e) = omega (arith, e)
align_small n (inr (inl e)) = omega (arith, e)
align_small n (inr (inr e)) = omega (arith, e)

-- the next multiple of an alignment is no further than the next multiple of 8
pub multiple_within : (s a k : ℕ) → IsAlign a → s ≤ 8 * k → next_multiple_of s a ≤ 8 * k
multiple_within s a k (inl e) l = rw e (omega (arith, l))
multiple_within s a k (inr (inl e)) l = rw e (omega (arith, l))
multiple_within s a k (inr (inr e)) l = rw e (omega (arith, l))

max_align : (a b : ℕ) → IsAlign a → IsAlign b → IsAlign (max a b)
max_align a b (inl e) (inl f) = inl (omega (arith, e, f))
max_align a b (inl e) (inr (inl f)) = inr (inl (omega (arith, e, f)))
max_align a b (inl e) (inr (inr f)) = inr (inr (omega (arith, e, f)))
max_align a b (inr (inl e)) (inl f) = inr (inl (omega (arith, e, f)))
max_align a b (inr (inl e)) (inr (inl f)) = inr (inl (omega (arith, e, f)))
max_align a b (inr (inl e)) (inr (inr f)) = inr (inr (omega (arith, e, f)))
max_align a b (inr (inr e)) (inl f) = inr (inr (omega (arith, e, f)))
max_align a b (inr (inr e)) (inr (inl f)) = inr (inr (omega (arith, e, f)))
max_align a b (inr (inr e)) (inr (inr f)) = inr (inr (omega (arith, e, f)))

pub bounded_more : (b m : TypeLayout) (k j : ℕ) → Bounded b k → Bounded m j → Bounded (with_member b m) (k + j)
bounded_more b m k j p q = record {
  size = let l = multiple_within b.size m.align k q.align p.size in let r = q.size in omega (arith, l, r);
  align = max_align b.align m.align p.align q.align;
}

-- what types are laid out as, behind what is there
pub bounded_all : (layout : Ty → TypeLayout) (leaves : Ty → ℕ) → ((a : Ty) → Bounded (layout a) (leaves a))
    → (b : TypeLayout) (k : ℕ) (types : List Ty) → Bounded b k
    → Bounded (fold (λ before a. with_member before (layout a)) b types) (k + sum_by leaves types)
bounded_all layout leaves h b k [] p = subst (Bounded b) (omega arith) p
bounded_all layout leaves h b k (a ∷ types) p =
    let rest =
    bounded_all layout leaves h (with_member b (layout a)) (k + leaves a) types (bounded_more b (layout a) k (leaves a) p (h a)) in
    let sum : k + leaves a + sum_by leaves types ≡ k + sum_by leaves (a ∷ types) = omega (arith, sum_by-cons leaves a types) in
    subst (Bounded (fold (λ before a. with_member before (layout a)) (with_member b (layout a)) types)) sum rest

bounded_empty : (k : ℕ) → Bounded empty k
bounded_empty k = record { size = omega arith; align = inl refl }

bounded_width : (w : Width) → Bounded (scalar (bytes_of w)) 1
bounded_width W8 = record { size = omega arith; align = inl refl }
bounded_width W32 = record { size = omega arith; align = inr (inl refl) }
bounded_width W64 = record { size = omega arith; align = inr (inr refl) }

pub bounded_of : (layout : Ty → TypeLayout) (leaves : Ty → ℕ) → ((a : Ty) → Bounded (layout a) (leaves a)) → (o : Option Composite)
    → Bounded (layout_of layout o) (leaves_of leaves o)
bounded_of layout leaves h None = bounded_empty 0
bounded_of layout leaves h (Some c) =
    subst (Bounded (layout_of layout (Some c))) (omega arith) (bounded_all layout leaves h empty 0 (member_types c) (bounded_empty 0))

bounded_in : (layout : Ty → TypeLayout) (leaves : Ty → ℕ) → ((a : Ty) → Bounded (layout a) (leaves a)) → (defs : List Def) (o : Ty-F Ty)
    → Bounded (layout_in layout defs o) (leaves_in leaves defs o)
bounded_in layout leaves h defs Ty-F.Bool = record { size = omega arith; align = inl refl }
bounded_in layout leaves h defs Ty-F.Unit = bounded_empty 0
bounded_in layout leaves h defs (Ty-F.Int i) = bounded_width i.width
bounded_in layout leaves h defs (Ty-F.Buf b) = bounded_empty 1
bounded_in layout leaves h defs (Ty-F.Var x) = bounded_empty 0
bounded_in layout leaves h defs (Ty-F.Named x args) = bounded_of layout leaves h (type_named defs x)

pub bounded_within : (n : ℕ) (defs : List Def) (a : Ty) → Bounded (layout_within n defs a) (leaves_within n defs a)
bounded_within zero defs a = bounded_empty 0
bounded_within (suc n) defs a = bounded_in (layout_within n defs) (leaves_within n defs) (bounded_within n defs) defs (out-Ty a)
