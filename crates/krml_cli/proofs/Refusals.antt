-- A command refuses an input for one reason at most, and none that is accepted.
use Rattle.std.proofs.Common.{◌≡◌, ℕ, ◌<◌, ◌⊎◌, inl, inr, ◌≤◌, nat_lt, false, List, [], ◌∷◌, length, Option, Some, None, option_map, Result, Ok, Err, refl, sym, ap, ◌∙◌, subst, arith}
use Rattle.std.specs.List.{AllByRecursion}
use Rattle.std.specs.Option.{option_or}
use Rattle.std.proofs.lemmas.Bool.{cases_order}
use Rattle.std.proofs.lemmas.Bool.Decides.{nat_tests}
use Rattle.krml_trace.specs.First.{first}
use Rattle.krml_syntax.specs.declared.tree.Def.{Def}
use Rattle.krml_syntax.specs.declared.tree.Def.TheVariants as d
use Rattle.krml_syntax.specs.declared.tree.SourceFile.{SourceFile}
use Rattle.krml_syntax.specs.File.{SpellsFile}
use Rattle.krml_ast.specs.WellTyped.{AreWellTyped}
use Rattle.krml_ast.specs.Leaves.{max_leaves, leaves_of_def, AreNarrow}
use Rattle.krml_reader.specs.declared.refusal.ReadRefusal.{ReadRefusal}
use Rattle.krml_reader.specs.Read.{Reads}
use Rattle.krml_types.specs.Check.{IsFirstFault}
use Rattle.krml_match.specs.declared.refusal.MatchRefusal.TheVariants as m
use Rattle.krml_match.specs.Wide.{if_wide, wide_def, first_wide}
use Rattle.krml_passing.specs.Hoisted.{file_hoisted}
use Rattle.krml_hoist.specs.declared.refusal.HoistRefusal.TheVariants as h
use Rattle.krml_hoist.specs.Large.{first_large}
use Rattle.krml_cstar.specs.Built.{AreBuilt, first_unbuilt, IsFirstUnbuilt}
use Rattle.krml_command.specs.declared.request.Command.{Command}
use Rattle.krml_command.specs.declared.request.Command.TheVariants.{C, Check}
use Rattle.krml_command.specs.declared.request.Request.{Request}
use Rattle.krml_cli.specs.declared.refusal.FileRefusal.{FileRefusal}
use Rattle.krml_cli.specs.declared.refusal.FileRefusal.TheVariants.{Read, «Type» as IllTyped, NotBuilt, Wide, Frame}
use Rattle.krml_cli.specs.Ends.{Asks, IsUsage, AcceptsNone, Makes}
use Rattle.krml_trace.specs.Limits.{max_text}
use Rattle.krml_cli.specs.Refusal.{Accepts, Refuses, IsCause}
use Rattle.krml_cli.proofs.built.Unbuilt.{none_unbuilt}

-- ---- what words ask for

some_is : {A : Type 0} (x y : A) → Some x ≡ Some y → x ≡ y
some_is x y h = cc

none_is_some : {A : Type 0} (x : A) → None ≡ Some x → ⊥
none_is_some x h = cc

pub asks_one : (words : List (List ℕ)) (a b : Command) → Asks words a → Asks words b → a ≡ b
asks_one words a b p q = sym p.asked ∙ ap (λ (r : Request). r.command) (some_is p.request q.request (sym p.is ∙ q.is)) ∙ q.asked

pub asks_is_no_usage : (words : List (List ℕ)) (a : Command) → Asks words a → IsUsage words → ⊥
asks_is_no_usage words a p u = none_is_some p.request (sym u ∙ p.is)

-- ---- what a text spells

-- answers that are equal are of one kind, and hold the same
abbrev Answer : Type 0
Answer = Result SourceFile ReadRefusal

err_is_not_ok : (why : ReadRefusal) (file : SourceFile) (a b : Answer) → a ≡ Err why → b ≡ Ok file → a ≡ b → ⊥
err_is_not_ok why file a b p q e = cc

ok_is : (f g : SourceFile) (a b : Answer) → a ≡ Ok f → b ≡ Ok g → a ≡ b → f ≡ g
ok_is f g a b p q e = cc

err_is : (v w : ReadRefusal) (a b : Answer) → a ≡ Err v → b ≡ Err w → a ≡ b → v ≡ w
err_is v w a b p q e = cc

-- A text is read as one answer at most.
abbrev pub OneAnswer : Type 0
OneAnswer = (text : List ℕ) (a b : Answer) → Reads text a → Reads text b → a ≡ b

-- ---- faults of types

-- what is a first fault is one fault
same_fault : (defs : List Def) (j k : ℕ) → IsFirstFault defs j → IsFirstFault defs k → j ≡ k
same_fault defs j k p q = go (cases_order j k)
  where
    go : (j ≡ k) ⊎ ((j < k) ⊎ (k < j)) → j ≡ k
    go (inl e) = e
    go (inr (inl l)) = absurd (p.1 (q.0 j l))
    go (inr (inr l)) = absurd (q.1 (p.0 k l))

-- ---- a file whose definitions are well typed

-- no definition of a narrow file is wide
narrow_none : (defs : List Def) → AreNarrow defs → first_wide defs ≡ None
narrow_none defs = go defs
  where
    not_above : (n : ℕ) → n ≤ max_leaves → nat_lt max_leaves n ≡ false
    not_above n h = grind (arith, nat_tests)

    not_wide : (x : List ℕ) (n : ℕ) → n ≤ max_leaves → if_wide x n ≡ None
    not_wide x n h = rw (not_above n h) refl

    here : (def : Def) → leaves_of_def defs def ≤ max_leaves → wide_def defs def ≡ None
    here (d.Struct x vars fields) h = not_wide x _ h
    here (d.Sum x vars cons) h = not_wide x _ h
    here (d.Table x i nums) h = refl
    here (d.Fun x vars params result body) h = refl
    here (d.Entry x) h = refl

    go : (more : List Def) → AllByRecursion (λ def. leaves_of_def defs def ≤ max_leaves) more → first (wide_def defs) more ≡ None
    go [] h = refl
    go (def ∷ more) h = rw (here def h.0) (go more h.1)

-- the first cause to refuse it, if there is one: what is not built, what is wide, or what is large
abbrev Here : Type 0
Here = Option (List ℕ × ℕ)

abbrev first_of : Option ℕ → Here → Here → Option FileRefusal
first_of unbuilt wide large = option_or (option_map NotBuilt unbuilt)
    (option_or (option_map (λ p. Wide (m.Wide p.0 p.1)) wide) (option_map (λ p. Frame (h.FrameTooLarge p.0 p.1)) large))

abbrev first_cause : SourceFile → Option FileRefusal
first_cause file = first_of (first_unbuilt file.defs) (first_wide file.defs) (first_large (file_hoisted file).defs)

unbuilt_first : (file : SourceFile) (k : ℕ) → IsFirstUnbuilt file.defs k → first_cause file ≡ Some (NotBuilt k)
unbuilt_first file k h = ap (λ a. first_of a (first_wide file.defs) (first_large (file_hoisted file).defs)) h

wide_first : (file : SourceFile) (x : List ℕ) (n : ℕ) → AreBuilt file.defs → first_wide file.defs ≡ Some (x, n) → first_cause file ≡ Some (Wide (m.Wide x n))
wide_first file x n built h = ap (λ a. first_of a (first_wide file.defs) (first_large (file_hoisted file).defs)) (none_unbuilt file.defs built)
    ∙ ap (λ b. first_of None b (first_large (file_hoisted file).defs)) h

narrow_first : (file : SourceFile) → AreBuilt file.defs → AreNarrow file.defs → first_cause file ≡ first_of None None (first_large (file_hoisted file).defs)
narrow_first file built narrow = ap (λ a. first_of a (first_wide file.defs) (first_large (file_hoisted file).defs)) (none_unbuilt file.defs built)
    ∙ ap (λ b. first_of None b (first_large (file_hoisted file).defs)) (narrow_none file.defs narrow)

large_first : (file : SourceFile) (x : List ℕ) (n : ℕ) → AreBuilt file.defs → AreNarrow file.defs → first_large (file_hoisted file).defs ≡ Some (x, n)
    → first_cause file ≡ Some (Frame (h.FrameTooLarge x n))
large_first file x n built narrow h = narrow_first file built narrow ∙ ap (first_of None None) h

no_cause : (file : SourceFile) → AreBuilt file.defs → AreNarrow file.defs → first_large (file_hoisted file).defs ≡ None → first_cause file ≡ None
no_cause file built narrow small = narrow_first file built narrow ∙ ap (first_of None None) small

-- ---- causes

-- Why an input is refused: it is not read, its file is ill typed, or has a first cause beyond types.
data Cause (input : List ℕ) : FileRefusal → Type 0 where
  unread : {why : ReadRefusal} → Reads input (Err why) → Cause input (Read why)
  ill_typed : {file : SourceFile} {def : ℕ} → SpellsFile input file → IsFirstFault file.defs def → Cause input (IllTyped def)
  caused : {file : SourceFile} {why : FileRefusal} → SpellsFile input file → AreWellTyped file.defs → first_cause file ≡ Some why → Cause input why

cause : (input : List ℕ) (command : Command) (why : FileRefusal) → Refuses input command why → Cause input why
cause input command _ (Refuses.unread r) = Cause.unread r
cause input command _ (Refuses.ill_typed s fault) = Cause.ill_typed s fault
cause input command _ (Refuses.not_built {file = f} {def = k} s typed unbuilt) = Cause.caused s typed (unbuilt_first f k unbuilt)
cause input command _ (Refuses.wide {file = f} {x = x} {n = n} s typed built wide) = Cause.caused s typed (wide_first f x n built wide)
cause input command _ (Refuses.large {file = f} {x = x} {n = n} s typed built narrow large) = Cause.caused s typed (large_first f x n built narrow large)

module _ (one : OneAnswer) where
  same_file : (input : List ℕ) (f g : SourceFile) → SpellsFile input f → SpellsFile input g → f ≡ g
  same_file input f g s u = ok_is f g (Ok f) (Ok g) refl refl (one input (Ok f) (Ok g) (Reads.file s) (Reads.file u))

  unread_spells_none : (input : List ℕ) (why : ReadRefusal) (f : SourceFile) → Reads input (Err why) → SpellsFile input f → ⊥
  unread_spells_none input why f r s = err_is_not_ok why f (Err why) (Ok f) refl refl (one input (Err why) (Ok f) r (Reads.file s))

  same_unread : (input : List ℕ) (v w : ReadRefusal) → Reads input (Err v) → Reads input (Err w) → v ≡ w
  same_unread input v w r u = err_is v w (Err v) (Err w) refl refl (one input (Err v) (Err w) r u)

  -- the file of an input that is ill typed, or not built, is not accepted
  ill_typed_is_not : (input : List ℕ) (f g : SourceFile) (k : ℕ) → SpellsFile input f → IsFirstFault f.defs k → SpellsFile input g → AreWellTyped g.defs → ⊥
  ill_typed_is_not input f g k s fault u typed = fault.1 (subst (λ (z : SourceFile). AreWellTyped z.defs) (same_file input g f u s) typed k)

  caused_is_not : (input : List ℕ) (f g : SourceFile) (why : FileRefusal) → SpellsFile input f → first_cause f ≡ Some why → Accepts input g → ⊥
  caused_is_not input f g why s c a =
      none_is_some why (sym (no_cause g a.built a.narrow a.small) ∙ ap first_cause (same_file input g f a.spelled s) ∙ c)

  -- ---- what a command refuses

  not_accepted : (input : List ℕ) (why : FileRefusal) → Cause input why → AcceptsNone input
  not_accepted input _ (Cause.unread {why = why} r) file a = unread_spells_none input why file r a.spelled
  not_accepted input _ (Cause.ill_typed {file = f} {def = k} s fault) file a = ill_typed_is_not input f file k s fault a.spelled a.typed
  not_accepted input why (Cause.caused {file = f} s typed c) file a = caused_is_not input f file why s c a

  -- an input that is refused is not accepted
  pub accepts_none : (input : List ℕ) (command : Command) (why : FileRefusal) → Refuses input command why → AcceptsNone input
  accepts_none input command why r = not_accepted input why (cause input command why r)

  one_cause : (input : List ℕ) (why other : FileRefusal) → Cause input why → Cause input other → why ≡ other
  one_cause input _ _ (Cause.unread {why = v} r) (Cause.unread {why = w} q) = ap Read (same_unread input v w r q)
  one_cause input _ _ (Cause.unread {why = v} r) (Cause.ill_typed {file = f} s fault) = absurd (unread_spells_none input v f r s)
  one_cause input _ _ (Cause.unread {why = v} r) (Cause.caused {file = f} s typed c) = absurd (unread_spells_none input v f r s)
  one_cause input _ _ (Cause.ill_typed {file = f} s fault) (Cause.unread {why = v} r) = absurd (unread_spells_none input v f r s)
  one_cause input _ _ (Cause.ill_typed {file = f} {def = j} s fault) (Cause.ill_typed {file = g} {def = k} u other) =
      ap IllTyped (same_fault f.defs j k fault (subst (λ (z : SourceFile). IsFirstFault z.defs k) (same_file input g f u s) other))
  one_cause input _ _ (Cause.ill_typed {file = f} {def = k} s fault) (Cause.caused {file = g} u typed c) = absurd (ill_typed_is_not input f g k s fault u typed)
  one_cause input _ _ (Cause.caused {file = f} s typed c) (Cause.unread {why = v} r) = absurd (unread_spells_none input v f r s)
  one_cause input _ _ (Cause.caused {file = g} s typed c) (Cause.ill_typed {file = f} {def = k} u fault) = absurd (ill_typed_is_not input f g k u fault s typed)
  one_cause input why other (Cause.caused {file = f} s typed c) (Cause.caused {file = g} u also c') =
      some_is why other (sym c ∙ ap first_cause (same_file input f g s u) ∙ c')

  -- it refuses an input for one reason
  pub one_refusal : (input : List ℕ) (command : Command) (why other : FileRefusal) → Refuses input command why → Refuses input command other → why ≡ other
  one_refusal input command why other r q = one_cause input why other (cause input command why r) (cause input command other q)

-- want of memory refuses no input
pub is_cause : (input : List ℕ) (command : Command) (why : FileRefusal) → Refuses input command why → IsCause why
is_cause input command _ (Refuses.unread (Reads.too_large l)) = tt
is_cause input command _ (Refuses.unread (Reads.syntax s f)) = tt
is_cause input command _ (Refuses.unread (Reads.nesting s n f)) = tt
is_cause input command _ (Refuses.unread (Reads.shape before f after formed spelled none)) = tt
is_cause input command _ (Refuses.unread (Reads.limit formed spelled e)) = tt
is_cause input command _ (Refuses.ill_typed s fault) = tt
is_cause input command _ (Refuses.not_built s typed unbuilt) = tt
is_cause input command _ (Refuses.wide s typed built wide) = tt
is_cause input command _ (Refuses.large s typed built narrow large) = tt

-- what a command makes something of is accepted
pub makes_accepted : (command : Command) (input text : List ℕ) (status : ℕ) → Makes command input text status → (file : SourceFile) × Accepts input file
makes_accepted C input text status m = (m.0.file, m.0.accepted)
makes_accepted Check input text status m = (m.0.file, m.0.accepted)

-- and no longer than a text may be
pub accepted_short : (input : List ℕ) (file : SourceFile) → Accepts input file → length input ≤ max_text
accepted_short input file a = a.spelled.short
