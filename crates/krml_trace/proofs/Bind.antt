-- Steps in a row.
use Rattle.std.proofs.Common.{◌≡◌, refl}
use Rattle.krml_trace.specs.Run.{State, Ran, Goes, Ends, bind}

module _ {E M : Type 0} where
  -- in whatever way they are grouped
  pub bind_bind : {A C D : Type 0} (r : Ran E M A) (f : A → State E M → Ran E M C) (g : C → State E M → Ran E M D) → bind (bind r f) g ≡ bind r (λ a s. bind (f a s) g)
  bind_bind (Goes a s) f g = refl
  bind_bind (Ends w es) f g = refl

  -- and with steps that do the same
  pub bind_same : {A C : Type 0} (r : Ran E M A) (f g : A → State E M → Ran E M C) → ((a : A) (s : State E M) → f a s ≡ g a s) → bind r f ≡ bind r g
  bind_same (Goes a s) f g h = h a s
  bind_same (Ends w es) f g h = refl

  -- a last step that gives back what it has
  pub bind_goes : {A : Type 0} (r : Ran E M A) → bind r (λ a s. Goes a s) ≡ r
  bind_goes (Goes a s) = refl
  bind_goes (Ends w es) = refl
