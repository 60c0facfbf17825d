-- The members of a definition, one by one.
use Rattle.std.proofs.Common.{◌≡◌, ℕ, suc, ◌+◌, ◌≤◌, ◌<◌, List, [], ◌∷◌, map, length, drop, get_or, flat_map, refl, sym, ap, ◌∙◌, arith}
use Rattle.std.proofs.lemmas.List.{at_drop_more}
use Rattle.std.proofs.lemmas.List.Sums.{fold-append}
use Rattle.krml_trace.specs.declared.width.Width.{Width}
use Rattle.krml_trace.specs.declared.width.Width.TheVariants.{W8, W32, W64}
use Rattle.krml_syntax.specs.declared.tree.Ty.{Ty, out-Ty}
use Rattle.krml_syntax.specs.declared.tree.Ty.TheOpen.{Ty-F}
use Rattle.krml_syntax.specs.declared.tree.Field.{Field}
use Rattle.krml_syntax.specs.declared.tree.Con.{Con}
use Rattle.krml_layout.specs.declared.layout.TypeLayout.{TypeLayout}
use Rattle.krml_layout.specs.declared.known.Known.{Known}
use Rattle.krml_layout.specs.declared.known.Known.TheVariants.{Map, Among}
use Rattle.krml_layout.specs.Layout.{bytes_of, with_member}
use Rattle.krml_layout.specs.Bounds.{max_bytes}
use Rattle.krml_layout.specs.Found.{has, layout_by, named_in, known_layout, with_members, IsSound}
use Rattle.krml_layout.proofs.Sizes.{align_positive, bounded_within}

-- what is found is aligned
pub sound_aligned : (known : Known) → IsSound known → (a : Ty) → 0 < (known_layout known a).align
sound_aligned (Map m) sound a = go (out-Ty a)
  where
    width : (w : Width) → 0 < bytes_of w
    width W8 = omega arith
    width W32 = omega arith
    width W64 = omega arith

    go : (o : Ty-F Ty) → 0 < (layout_by (has m.now) o).align
    go Ty-F.Bool = omega arith
    go Ty-F.Unit = omega arith
    go (Ty-F.Int i) = width i.width
    go (Ty-F.Buf b) = omega arith
    go (Ty-F.Var x) = omega arith
    go (Ty-F.Named x args) = sound x
sound_aligned (Among defs) sound a = align_positive _ (bounded_within (suc (length defs.now)) defs.now a).align

-- the type of a struct or sum
pub known_named : (known : Known) (a : Ty) (x : List ℕ) (args : List Ty) → out-Ty a ≡ Ty-F.Named x args
    → known_layout known a ≡ named_in known x
known_named (Map m) a x args e = rw e refl
known_named (Among defs) a x args e = rw e refl

-- members only add bytes
pub grows : (known : Known) (layout : TypeLayout) (types : List Ty) → layout.size ≤ (with_members known layout types).size
grows known layout [] = omega arith
grows known layout (a ∷ types) = let g = grows known (with_member layout (known_layout known a)) types in omega (arith, g)

-- the next member of a type that is not large
pub member_fits : (known : Known) (layout : TypeLayout) (a : Ty) (rest : List Ty) (whole : TypeLayout)
    → with_members known layout (a ∷ rest) ≡ whole → whole.size ≤ max_bytes
    → (with_member layout (known_layout known a)).size ≤ max_bytes
member_fits known layout a rest whole is l =
    let g = grows known (with_member layout (known_layout known a)) rest in omega (arith, g, ap (λ (z : TypeLayout). z.size) is, l)

pub field_fits : (known : Known) (layout : TypeLayout) (fields : List Field) (i : ℕ) (f : Field) (whole : TypeLayout) → i < length fields
    → f ≡ get_or fields i f
    → with_members known layout (map (λ f. f.ty) (drop i fields)) ≡ whole → whole.size ≤ max_bytes
    → (with_member layout (known_layout known f.ty)).size ≤ max_bytes
field_fits known layout fields i f whole lt is e l =
    member_fits known layout f.ty (map (λ f. f.ty) (drop (i + 1) fields)) whole
    (sym (at_drop_more (λ fs. with_members known layout (map (λ f. f.ty) fs)) fields i f lt
    ∙ ap (λ z. with_members known layout (map (λ f. f.ty) (z ∷ drop (i + 1) fields))) (sym is)) ∙ e) l

pub arg_fits : (known : Known) (layout : TypeLayout) (args : List Ty) (i : ℕ) (a : Ty) (whole : TypeLayout) → i < length args
    → a ≡ get_or args i a
    → with_members known layout (drop i args) ≡ whole → whole.size ≤ max_bytes
    → (with_member layout (known_layout known a)).size ≤ max_bytes
arg_fits known layout args i a whole lt is e l =
    member_fits known layout a (drop (i + 1) args) whole
    (sym (at_drop_more (with_members known layout) args i a lt ∙ ap (λ z. with_members known layout (z ∷ drop (i + 1) args)) (sym is))
    ∙ e) l

-- a constructor's arguments, and the arguments of those behind it
pub args_then : (known : Known) (layout : TypeLayout) (cons : List Con) (i : ℕ) (con : Con) → i < length cons → con ≡ get_or cons i con
    → with_members known layout (flat_map (λ c. c.args) (drop i cons))
    ≡ with_members known (with_members known layout con.args) (flat_map (λ c. c.args) (drop (i + 1) cons))
args_then known layout cons i con lt is =
    at_drop_more (λ cs. with_members known layout (flat_map (λ c. c.args) cs)) cons i con lt
    ∙ ap (λ z. with_members known layout (flat_map (λ c. c.args) (z ∷ drop (i + 1) cons))) (sym is)
    ∙ fold-append (λ before a. with_member before (known_layout known a)) layout con.args (flat_map (λ c. c.args) (drop (i + 1) cons))

pub args_fit : (known : Known) (layout : TypeLayout) (cons : List Con) (i : ℕ) (con : Con) (whole : TypeLayout) → i < length cons
    → con ≡ get_or cons i con
    → with_members known layout (flat_map (λ c. c.args) (drop i cons)) ≡ whole → whole.size ≤ max_bytes
    → (with_members known layout con.args).size ≤ max_bytes
args_fit known layout cons i con whole lt is e l =
    let g = grows known (with_members known layout con.args) (flat_map (λ c. c.args) (drop (i + 1) cons)) in
    let same = ap (λ (z : TypeLayout). z.size) (sym (args_then known layout cons i con lt is) ∙ e) in
    omega (arith, g, same, l)
