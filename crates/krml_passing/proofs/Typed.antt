-- Passes that rest on types: a part whose run is sound, and that does the same, gives a value of its type, and the scopes around it
-- are still ready in the memory that it leaves. That is the one place where typing enters.
use Rattle.std.proofs.Common.{ℕ, List}
use Rattle.krml_trace.proofs.After.{after_so}
use Rattle.krml_syntax.specs.declared.tree.Ty.{Ty}
use Rattle.krml_syntax.specs.declared.tree.Slot.{Slot}
use Rattle.krml_syntax.specs.declared.tree.Def.{Def}
use Rattle.krml_ast.specs.Typing.{Scope}
use Rattle.krml_meaning.specs.declared.value.Value.{Value}
use Rattle.krml_meaning.specs.State.{Block, Env, Sem}
use Rattle.krml_meaning.specs.Shape.{HasShape, MemoryTyped}
use Rattle.krml_meaning.specs.Sound.{Fine}
use Rattle.krml_meaning.proofs.Scopes.{Instance}
use Rattle.krml_meaning.proofs.Forms.{Sound, sound_under}
use Rattle.krml_meaning.proofs.Numbered.{At, on_ready}
use Rattle.krml_passing.specs.Images.{Images}
use Rattle.krml_passing.specs.Alike.{Scopes, Of, Same, Does}
use Rattle.krml_passing.proofs.Forms as form

-- from scopes of which more is known
pub same_under : (im : Images) (I J : Scopes) {a a' : Sem} → ((env env' : Env) (m : List Block) → J env env' m → I env env' m)
    → Same im I a a' → Same im J a a'
same_under im I J f h = record { run = λ env env' s j. h.run env env' s (f env env' s.memory j) }

module _ (im : Images) (defs : List Def) (at_args : Instance defs) (R : Env → Env → Type 0) where
  -- The first scope is ready for what stands in g with these slots from number k on, in a typed memory, and the second stands to it
  -- as R says.
  abbrev pub Ready : Scope → ℕ → List Slot → Scopes
  Ready g k slots env env' m = At defs at_args g k slots m env × MemoryTyped defs m × R env env'

  -- the value has the type
  abbrev pub shape : Ty → Of Value
  shape a x m = HasShape defs m x a

  pub part : (g : Scope) (k : ℕ) (slots : List Slot) (a : Ty) {ev ev' : Sem} → Sound defs (At defs at_args g k slots) a ev
      → Same im (Ready g k slots) ev ev'
      → Does im (Ready g k slots) (shape a) ev ev'
  part g k slots a {ev = ev} h same = form.typed im (Ready g k slots) (shape a) (λ env env' s i. after_so (Fine defs s.memory a) _
      (ev env s) (h.run env s i.0 i.1)
      (λ x s1 f. (f.shape, (on_ready defs at_args g k slots s.memory s1.memory env f.extends i.0, f.memory, i.2)))) same

  -- the same of a part with scopes and slots of its own, which are ready where those around it are
  pub part_under : (g h : Scope) (k j : ℕ) (slots own : List Slot) (a : Ty) {ev ev' : Sem}
      → ((m : List Block) (env : Env) → At defs at_args g k slots m env → At defs at_args h j own m env)
      → Sound defs (At defs at_args h j own) a ev → Same im (Ready h j own) ev ev' → Does im (Ready g k slots) (shape a) ev ev'
  part_under g h k j slots own a {ev = ev} f s same = part g k slots a (sound_under defs (At defs at_args h j own)
      (At defs at_args g k slots) a ev f s)
      (same_under im (Ready h j own) (Ready g k slots) (λ env env' m i. (f m env i.0, i.1, i.2)) same)
