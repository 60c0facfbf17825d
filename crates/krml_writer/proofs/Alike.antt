-- Forms that differ in how their numbers are written.
use Rattle.std.proofs.Common.{ℕ, ◌<◌, ◌^◌, List, [], ◌∷◌, ◌++◌}
use Rattle.std.specs.Fmt.{decimal}
use Rattle.krml_forms.specs.declared.form.Form.{Form}
use Rattle.krml_forms.specs.declared.form.Form.TheVariants.{Atom, List as Node}
use Rattle.krml_forms.specs.Writing.{IsWord}
use Rattle.krml_syntax.specs.Number.{IsNumber}

mutual
  -- They have the same words in the same places, but that the second has a number in decimal digits where the first
  -- has it in some way.
  pub data Alike : Form → Form → Type 0 where
    word : {w : List ℕ} → IsWord w → Alike (Atom w) (Atom w)
    number : {w : List ℕ} {n : ℕ} → IsNumber w n → n < 2 ^ 64 → Alike (Atom w) (Atom (decimal n))
    list : {fs gs : List Form} → AllAlike fs gs → Alike (Node fs) (Node gs)

  pub data AllAlike : List Form → List Form → Type 0 where
    none : AllAlike [] []
    one : {f g : Form} {fs gs : List Form} → Alike f g → AllAlike fs gs → AllAlike (f ∷ fs) (g ∷ gs)

pub all_both : {fs gs hs js : List Form} → AllAlike fs gs → AllAlike hs js → AllAlike (fs ++ hs) (gs ++ js)
all_both AllAlike.none b = b
all_both (AllAlike.one a more) b = AllAlike.one a (all_both more b)
