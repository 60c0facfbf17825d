-- How many bytes slots take, at most.
use Rattle.std.proofs.Common.{◌≡◌, ℕ, suc, ◌+◌, ◌*◌, ◌^◌, ◌≤◌, ◌<◌, List, [], ◌∷◌, length, take, get_or, ap, arith}
use Rattle.std.specs.Int.{next_multiple_of}
use Rattle.std.specs.List.{AllByRecursion}
use Rattle.std.proofs.Math.Nat.{mul-le-mul_left}
use Rattle.std.proofs.lemmas.List.Sums.{sum_by-cons, sum_by_more, sum_by-take-le}
use Rattle.krml_trace.specs.Limits.{max_elements}
use Rattle.krml_syntax.specs.declared.tree.Ty.{Ty}
use Rattle.krml_syntax.specs.declared.tree.Slot.{Slot}
use Rattle.krml_syntax.specs.declared.tree.Def.{Def}
use Rattle.krml_layout.specs.Layout.{stride, type_layout, slot_bytes, frame_bytes}
use Rattle.krml_layout.specs.Ordered.{AreSmall}
use Rattle.krml_layout.proofs.Sizes.{IsAlign, align_positive, align_small, multiple_within, bounded_within}

type_align : (defs : List Def) (a : Ty) → IsAlign (type_layout defs a).align
type_align defs a = (bounded_within (suc (length defs)) defs a).align

pub type_aligned : (defs : List Def) (a : Ty) → 0 < (type_layout defs a).align
type_aligned defs a = align_positive (type_layout defs a).align (type_align defs a)

pub type_align_small : (defs : List Def) (a : Ty) → (type_layout defs a).align ≤ 8
type_align_small defs a = align_small (type_layout defs a).align (type_align defs a)

-- the next multiple of 8 is less than 8 away
word_within : (n : ℕ) → next_multiple_of n 8 ≤ n + 7
word_within n = omega arith

slot_small : (defs : List Def) (s : Slot) → AreSmall defs → s.len ≤ max_elements → slot_bytes defs s ≤ 2 ^ 24
slot_small defs s small l =
    let w : stride (type_layout defs s.ty) ≤ 192 =
    multiple_within (type_layout defs s.ty).size (type_layout defs s.ty).align 24 (type_align defs s.ty) (small s.ty) in
    let p : s.len * stride (type_layout defs s.ty) ≤ s.len * 192 = mul-le-mul_left s.len w in
    let n = word_within (s.len * stride (type_layout defs s.ty)) in
    omega (arith, p, n, l)

frame_small : (defs : List Def) (slots : List Slot) → AreSmall defs → AllByRecursion (λ s. s.len ≤ max_elements) slots
    → frame_bytes defs slots ≤ length slots * 2 ^ 24
frame_small defs [] small h = omega arith
frame_small defs (s ∷ slots) small h =
    let one = slot_small defs s small h.0 in
    let more = frame_small defs slots small h.1 in
    omega (arith, sum_by-cons (slot_bytes defs) s slots, one, more)

-- the bytes of the slots so far, and of the next, are no more than those of the frame
pub frame_so_far : (defs : List Def) (slots : List Slot) (i : ℕ) (s : Slot) → i < length slots → s ≡ get_or slots i s
    → frame_bytes defs (take i slots) + slot_bytes defs s ≤ frame_bytes defs slots
frame_so_far defs slots i s lt is =
    let next = sum_by_more (slot_bytes defs) slots i s lt in
    let same = ap (slot_bytes defs) is in
    omega (arith, next, same, sum_by-take-le (slot_bytes defs) slots (i + 1))

pub frame_fits : (defs : List Def) (slots : List Slot) → AreSmall defs → AllByRecursion (λ s. s.len ≤ max_elements) slots
    → length slots < 2 ^ 32 → frame_bytes defs slots < 2 ^ 64
frame_fits defs slots small h l = let b = frame_small defs slots small h in omega (arith, b, l)
