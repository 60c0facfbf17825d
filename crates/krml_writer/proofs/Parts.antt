-- Results that a list is made of.
use Rattle.std.proofs.Common.{◌≡◌, List, [], ◌∷◌, Result, Ok, map, sym, subst}
use Rattle.krml_writer.specs.Parts.{AllOkAnd}

and_ok : {A : Type 0} (E : Type 0) (values : List A) (holds : List A → Type 0) → holds values → AllOkAnd {E = E} (map Ok values) holds
and_ok E [] holds h = h
and_ok E (a ∷ more) holds h = and_ok E more (λ values. holds (a ∷ values)) h

-- of results that are these values
pub all_ok_and : {A E : Type 0} (results : List (Result A E)) (values : List A) (holds : List A → Type 0) → results ≡ map Ok values → holds values → AllOkAnd results holds
all_ok_and results values holds are h = subst (λ results. AllOkAnd results holds) (sym are) (and_ok _ values holds h)
