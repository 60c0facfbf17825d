-- Definitions are all built, with buffers or without, exactly where none of them is the first that is not.
use Rattle.std.proofs.Common.{◌≡◌, ℕ, ◌+◌, Bool, true, false, not, cond, List, [], ◌∷◌, Some, None, refl, sym, ◌∙◌}
use Rattle.std.specs.List.{position_from}
use Rattle.std.proofs.lemmas.Iterator.Adapters.{position_from-zero}
use Rattle.krml_syntax.specs.declared.tree.Def.{Def}
use Rattle.krml_cstar.specs.Built.{is_within, AreWithin, first_beyond, AreBuilt, first_unbuilt}

module _ (buffers : Bool) where
  abbrev beyond : Def → Bool
  beyond def = not (is_within buffers def)

  none_from : (defs : List Def) (i : ℕ) → AreWithin buffers defs → position_from beyond i defs ≡ None
  none_from [] i all = refl
  none_from (def ∷ defs) i all = rw all.0 (none_from defs _ all.1)

  all_from : (defs : List Def) (i : ℕ) → position_from beyond i defs ≡ None → AreWithin buffers defs
  all_from [] i none = tt
  all_from (def ∷ defs) i none = go (is_within buffers def) refl none (all_from defs (i + 1))
    where
      go : (b : Bool) → is_within buffers def ≡ b → cond (not b) (Some i) (position_from beyond (i + 1) defs) ≡ None
          → (position_from beyond (i + 1) defs ≡ None → AreWithin buffers defs) → AreWithin buffers (def ∷ defs)
      go true is rest more = (is, more rest)
      go false is rest more = absurd (cc)

  pub none_beyond : (defs : List Def) → AreWithin buffers defs → first_beyond buffers defs ≡ None
  none_beyond defs all = position_from-zero beyond defs ∙ none_from defs 0 all

  pub all_within : (defs : List Def) → first_beyond buffers defs ≡ None → AreWithin buffers defs
  all_within defs none = all_from defs 0 (sym (position_from-zero beyond defs) ∙ none)

pub none_unbuilt : (defs : List Def) → AreBuilt defs → first_unbuilt defs ≡ None
none_unbuilt = none_beyond false

pub all_built : (defs : List Def) → first_unbuilt defs ≡ None → AreBuilt defs
all_built = all_within false
