-- What follows from the end of a call.
use Rattle.std.proofs.Common.{◌≡◌, ℕ, ◌+◌, ◌<◌, ◌≤◌, ◌⊎◌, inl, inr, Bool, true, false, nat_lt, List, Option, Some, None, [], ◌++◌, length, refl, sym, ap, ◌∙◌, subst, arith, length-append}
use Rattle.std.proofs.lemmas.Bool.Decides.{nat_tests}
use Rattle.std.proofs.lemmas.List.{append-nil}
use Rattle.std.specs.Io.KnownBytes.{Keeps, Appends, Consumes}
use Rattle.krml_trace.specs.Outside.{Rose}
use Rattle.krml_syntax.specs.declared.tree.SourceFile.{SourceFile}
use Rattle.krml_reader.specs.declared.refusal.ReadRefusal.TheVariants.{TooLarge}
use Rattle.krml_reader.specs.Read.{Reads}
use Rattle.krml_command.specs.declared.request.Command.{Command}
use Rattle.krml_command.specs.declared.request.Command.TheVariants.{C, Check}
use Rattle.krml_cli.specs.declared.refusal.FileRefusal.{FileRefusal}
use Rattle.krml_cli.specs.declared.refusal.FileRefusal.TheVariants.{Read}
use Rattle.krml_cli.specs.declared.stop.Stop.{Stop}
use Rattle.krml_cli.specs.declared.stop.Stop.TheVariants as stop
use Rattle.krml_trace.specs.Limits.{max_text}
use Rattle.krml_cli.specs.Ends.{Asks, IsUsage, AcceptsNone, Makes, IsOutput, Taken, limit_of, AppendsPrefix, Call, Stops, Ends, Compiled, Accepted, Refused, RefusedFor, FailedNotes, PrefixOnly, HasLine, IsLine, IsNoted, IsPlain, IsCut, line_of, status_of}
use Rattle.krml_cli.specs.Refusal.{Accepts, Refuses}
use Rattle.krml_cli.proofs.Refusals.{OneAnswer, asks_one, asks_is_no_usage, accepts_none, one_refusal, is_cause, makes_accepted, accepted_short}

-- what a command makes it makes with status 0
made_zero : (command : Command) (input text : List ℕ) (status : ℕ) → Makes command input text status → status ≡ 0
made_zero C input text status m = m.1
made_zero Check input text status m = m.2

zero : {words : List (List ℕ)} {left left' : Option (List ℕ)} {text : List ℕ} {status : ℕ} → IsOutput words left left' text status → status ≡ 0
zero {text = text} {status = status} t = made_zero t.command t.input text status t.made

-- what an end tells stays as it was
keeps : (a b : Option (List ℕ)) → b ≡ a → Keeps a b
keeps None b e = tt
keeps (Some xs) b e = subst (Keeps (Some xs)) (sym e) refl

-- a call that stopped before it wrote left the output as it was, else a prefix of its text
prefix_of : (c : Call) (why : Stop) → Stops c why → PrefixOnly c.words c.left c.left' c.written c.written'
prefix_of c _ (Stops.usage w l q u) = inl u.same
prefix_of c _ (Stops.read_fault w l r u) = inl u.same
prefix_of c _ (Stops.refused w t r q u) = inl u.same
prefix_of c _ (Stops.write_fault {text = text} {status = status} k q f l r) = inr (text, status, k, f)
prefix_of c _ (Stops.no_memory w q u) = inl u.same
prefix_of c _ (Stops.no_memory_to_write {text = text} {status = status} k q f r) = inr (text, status, k, f)

pub prefix : (c : Call) (status : ℕ) → Ends c status → IsCut status → PrefixOnly c.words c.left c.left' c.written c.written'
prefix c _ (Ends.done t q a k n m) cut = absurd (omega (arith, cut, zero t))
prefix c _ (Ends.noted {why = why} s a q) cut = prefix_of c why s
prefix c _ (Ends.note_failed {why = why} s a l r) cut = prefix_of c why s
prefix c _ (Ends.note_lacked_memory {why = why} s a q) cut = prefix_of c why s

-- a call with a line of its own wrote nothing to the output
pub silent : (c : Call) (status : ℕ) → Ends c status → IsNoted status → Keeps c.written c.written'
silent c _ (Ends.noted (Stops.refused w t r q u) a n) e = keeps c.written c.written' u.same
silent c _ (Ends.noted (Stops.usage w l q u) a n) e = keeps c.written c.written' u.same
silent c _ (Ends.noted (Stops.read_fault w l r u) a n) e = keeps c.written c.written' u.same
silent c _ (Ends.noted (Stops.write_fault k q f l r) a n) e = absurd (omega (arith, e))
silent c _ (Ends.noted (Stops.no_memory w q u) a n) e = absurd (omega (arith, e))
silent c _ (Ends.noted (Stops.no_memory_to_write k q f r) a n) e = absurd (omega (arith, e))
silent c _ (Ends.done t q a k n m) e = absurd (omega (arith, e, zero t))
silent c _ (Ends.note_failed s a l r) e = absurd (omega (arith, e))
silent c _ (Ends.note_lacked_memory s a q) e = absurd (omega (arith, e))

-- what stopped a call has a line
has_line : (c : Call) (why : Stop) → Stops c why → HasLine why
has_line c _ (Stops.usage w l q u) = tt
has_line c _ (Stops.read_fault w l r u) = tt
has_line c _ (Stops.refused {command = command} {input = input} {why = why} w t r q u) = is_cause input command why r
has_line c _ (Stops.write_fault k q f l r) = tt
has_line c _ (Stops.no_memory w q u) = tt
has_line c _ (Stops.no_memory_to_write k q f r) = tt

-- a line that was cut, or the whole line of a status that may come in the midst of writing
pub note_prefix : (c : Call) (status : ℕ) → Ends c status → IsCut status → (line : List ℕ) × IsLine line × AppendsPrefix c.noted c.noted' line
note_prefix c _ (Ends.done t q a k n m) cut = absurd (omega (arith, cut, zero t))
note_prefix c _ (Ends.noted {why = why} s a q) cut =
    (line_of why, (why, has_line c why s, refl), record { prefix = line_of why; rest = []; is = sym (append-nil (line_of why)); appended = a })
note_prefix c _ (Ends.note_failed {why = why} s a l r) cut = (line_of why, (why, has_line c why s, refl), a)
note_prefix c _ (Ends.note_lacked_memory {why = why} s a q) cut = (line_of why, (why, has_line c why s, refl), a)

-- an input that was taken to its end is all that was left
all_taken : (command : Command) (left left' : Option (List ℕ)) (input taken : List ℕ) → left ≡ Some input → Taken command left left' taken → length taken ≤ limit_of command → taken ≡ input
all_taken command left None input taken e t short = absurd (subst (λ o. Consumes o None taken) e t.consumed)
all_taken command left (Some rest) input taken e t short =
    let is : input ≡ taken ++ rest = subst (λ o. Consumes o (Some rest) taken) e t.consumed in
    let none : rest ≡ [] = t.whole short in
    sym (is ∙ ap (λ xs. taken ++ xs) none ∙ append-nil taken)

-- as much as was taken was there
taken_short : (command : Command) (left left' : Option (List ℕ)) (input taken : List ℕ) → left ≡ Some input → Taken command left left' taken → length taken ≤ length input
taken_short command left None input taken e t = absurd (subst (λ o. Consumes o None taken) e t.consumed)
taken_short command left (Some rest) input taken e t =
    let is : input ≡ taken ++ rest = subst (λ o. Consumes o (Some rest) taken) e t.consumed in
    let size : length input ≡ length taken + length rest = ap length is ∙ length-append taken rest in
    omega arith

-- a source text within the limit is no longer than any command's input may be
roomy : (command : Command) → max_text ≤ limit_of command
roomy C = omega arith
roomy Check = omega arith

module _ (one : OneAnswer) where
  -- an input that is too large is refused for that
  too_large : (input : List ℕ) (command : Command) (why : FileRefusal) → max_text < length input → Refuses input command why → why ≡ Read TooLarge
  too_large input command why l r = one_refusal one input command why (Read TooLarge) r (Refuses.unread (Reads.too_large l))

  module _ (asked : Command) (left left' : Option (List ℕ)) (input taken : List ℕ) (e : left ≡ Some input) (t : Taken asked left left' taken) where
    -- what was taken is all that was left, within the limit
    taken_is : length input ≤ max_text → taken ≡ input
    taken_is short =
        let some : length taken ≤ length input = taken_short asked left left' input taken e t in
        all_taken asked left left' input taken e t (omega (arith, short, some, roomy asked))

    -- so where all that was left is accepted, what was taken is, and the other way round
    taken_accepted : (file : SourceFile) → Accepts input file → Accepts taken file
    taken_accepted file a = subst (λ xs. Accepts xs file) (sym (taken_is (accepted_short input file a))) a

    input_accepted : (file : SourceFile) → Accepts taken file → Accepts input file
    input_accepted file a =
        let short : length taken ≤ max_text = accepted_short taken file a in
        subst (λ xs. Accepts xs file) (all_taken asked left left' input taken e t (omega (arith, short, roomy asked))) a

    -- what was taken is refused for what all that was left is
    same_why : (command : Command) (why other : FileRefusal) → Refuses taken command why → Refuses input command other → why ≡ other
    same_why command why other r q = at (nat_lt max_text (length taken)) refl
      where
        at : (b : Bool) → nat_lt max_text (length taken) ≡ b → why ≡ other
        at true h =
            let long : max_text < length taken = grind (arith, nat_tests) in
            let some : length taken ≤ length input = taken_short asked left left' input taken e t in
            too_large taken command why long r ∙ sym (too_large input command other (omega (arith, long, some)) q)
        at false h =
            let short : length taken ≤ max_text = grind (arith, nat_tests) in
            one_refusal one input command why other (subst (λ xs. Refuses xs command why) (all_taken asked left left' input taken e t (omega (arith, short, roomy asked))) r) q

  -- a call that was refused took its input, which is not accepted, and noted why
  pub refused : (c : Call) (status : ℕ) → Ends c status → status ≡ 1 → Refused c.words c.left c.left' c.noted c.noted'
  refused c _ (Ends.noted (Stops.refused {command = command} {input = input} {why = why} w t r q u) a n) e =
      record { command = command; input = input; why = why; asked = w; taken = t; refused = r; none = accepts_none one input command why r; line = a }
  refused c _ (Ends.noted (Stops.usage w l q u) a n) e = absurd (omega arith)
  refused c _ (Ends.noted (Stops.read_fault w l r u) a n) e = absurd (omega arith)
  refused c _ (Ends.noted (Stops.write_fault k q f l r) a n) e = absurd (omega arith)
  refused c _ (Ends.noted (Stops.no_memory w q u) a n) e = absurd (omega arith)
  refused c _ (Ends.noted (Stops.no_memory_to_write k q f r) a n) e = absurd (omega arith)
  refused c _ (Ends.done t q a k n m) e = absurd (omega (arith, zero t))
  refused c _ (Ends.note_failed s a l r) e = absurd (omega arith)
  refused c _ (Ends.note_lacked_memory s a q) e = absurd (omega arith)

  -- what was refused is not accepted
  refused_accepts_none : (c : Call) (asked : Command) (input taken : List ℕ) (why : FileRefusal) (file : SourceFile)
      → c.left ≡ Some input → Taken asked c.left c.left' taken → Refuses taken asked why → Accepts input file → ⊥
  refused_accepts_none c asked input taken why file e t x a = accepts_none one taken asked why x file (taken_accepted asked c.left c.left' input taken e t file a)

  -- a call at an input that is accepted, with no count that rose, ends with its output
  pub completes : (c : Call) (status : ℕ) → Ends c status → (command : Command) (input : List ℕ) (file : SourceFile) → Asks c.words command → c.left ≡ Some input → Accepts input file
      → (Rose c.read_faults c.read_faults' → ⊥) → (Rose c.write_faults c.write_faults' → ⊥) → (Rose c.note_faults c.note_faults' → ⊥) → (status ≡ 0) ⊎ (status ≡ 5)
  completes c _ (Ends.done t q a k n m) command input file is e s r o p = inl (zero t)
  completes c _ (Ends.noted (Stops.refused {command = asked} {input = taken} {why = why} w t x q u) a n) command input file is e s r o p =
      absurd (refused_accepts_none c asked input taken why file e t x s)
  completes c _ (Ends.noted (Stops.usage w l q u) a n) command input file is e s r o p = absurd (asks_is_no_usage c.words command is w)
  completes c _ (Ends.noted (Stops.read_fault w l x u) a n) command input file is e s r o p = absurd (r x)
  completes c _ (Ends.noted (Stops.write_fault k q f l x) a n) command input file is e s r o p = absurd (o x)
  completes c _ (Ends.noted (Stops.no_memory w q u) a n) command input file is e s r o p = inr refl
  completes c _ (Ends.noted (Stops.no_memory_to_write k q f x) a n) command input file is e s r o p = inr refl
  completes c _ (Ends.note_failed s a l x) command input file is e t r o p = absurd (p x)
  completes c _ (Ends.note_lacked_memory s a q) command input file is e t r o p = inr refl

  -- a call with an output took an input that is accepted
  output_accepted : (c : Call) (input text : List ℕ) (status : ℕ) → c.left ≡ Some input → IsOutput c.words c.left c.left' text status → AcceptsNone input → ⊥
  output_accepted c input text status e t s =
      let made = makes_accepted t.command t.input text status t.made in
      s made.0 (input_accepted t.command c.left c.left' input t.input e t.taken made.0 made.1)

  -- a call at any other input, with no count that rose, is refused
  pub refuses : (c : Call) (status : ℕ) → Ends c status → (command : Command) (input : List ℕ) → Asks c.words command → c.left ≡ Some input → AcceptsNone input
      → (Rose c.read_faults c.read_faults' → ⊥) → (Rose c.write_faults c.write_faults' → ⊥) → (Rose c.note_faults c.note_faults' → ⊥) → (status ≡ 1) ⊎ (status ≡ 5)
  refuses c _ (Ends.done {text = text} {status = status} t q a k n m) command input is e s r o p = absurd (output_accepted c input text status e t s)
  refuses c _ (Ends.noted (Stops.refused w t x q u) a n) command input is e s r o p = inl refl
  refuses c _ (Ends.noted (Stops.usage w l q u) a n) command input is e s r o p = absurd (asks_is_no_usage c.words command is w)
  refuses c _ (Ends.noted (Stops.read_fault w l x u) a n) command input is e s r o p = absurd (r x)
  refuses c _ (Ends.noted (Stops.write_fault k q f l x) a n) command input is e s r o p = absurd (o x)
  refuses c _ (Ends.noted (Stops.no_memory w q u) a n) command input is e s r o p = inr refl
  refuses c _ (Ends.noted (Stops.no_memory_to_write k q f x) a n) command input is e s r o p = inr refl
  refuses c _ (Ends.note_failed s a l x) command input is e t r o p = absurd (p x)
  refuses c _ (Ends.note_lacked_memory s a q) command input is e t r o p = inr refl

  -- and it notes why
  pub refuses_for : (c : Call) (status : ℕ) → Ends c status → (command : Command) (input : List ℕ) (why : FileRefusal) → Asks c.words command → c.left ≡ Some input → Refuses input command why
      → (Rose c.read_faults c.read_faults' → ⊥) → (Rose c.write_faults c.write_faults' → ⊥) → (Rose c.note_faults c.note_faults' → ⊥) → RefusedFor why status c.noted c.noted' ⊎ (status ≡ 5)
  refuses_for c _ (Ends.done {text = text} {status = status} t q a k n m) command input why is e s r o p = absurd (output_accepted c input text status e t (accepts_none one input command why s))
  refuses_for c _ (Ends.noted (Stops.refused {command = asked} {input = taken} {why = other} w t x q u) a n) command input why is e s r o p =
      let x2 = subst (λ k. Refuses taken k other) (asks_one c.words asked command w is) x in
      inl (record { is = refl; line = subst (λ v. Appends c.noted c.noted' (line_of (stop.Refused v))) (same_why asked c.left c.left' input taken e t command other why x2 s) a })
  refuses_for c _ (Ends.noted (Stops.usage w l q u) a n) command input why is e s r o p = absurd (asks_is_no_usage c.words command is w)
  refuses_for c _ (Ends.noted (Stops.read_fault w l x u) a n) command input why is e s r o p = absurd (r x)
  refuses_for c _ (Ends.noted (Stops.write_fault k q f l x) a n) command input why is e s r o p = absurd (o x)
  refuses_for c _ (Ends.noted (Stops.no_memory w q u) a n) command input why is e s r o p = inr refl
  refuses_for c _ (Ends.noted (Stops.no_memory_to_write k q f x) a n) command input why is e s r o p = inr refl
  refuses_for c _ (Ends.note_failed s a l x) command input why is e t r o p = absurd (p x)
  refuses_for c _ (Ends.note_lacked_memory s a q) command input why is e t r o p = inr refl

-- a call that ends with its output wrote what its command makes of its input
pub compiled : (c : Call) (status : ℕ) → Ends c status → Asks c.words C → status ≡ 0 → Compiled c.left c.left' c.written c.written'
compiled c _ (Ends.done {text = text} {status = status} t q a k n m) is e =
    let same : t.command ≡ C = asks_one c.words t.command C t.asked is in
    record {
      input = t.input;
      text = text;
      taken = subst (λ k. Taken k c.left c.left' t.input) same t.taken;
      compiled = (subst (λ k. Makes k t.input text status) same t.made).0;
      appended = a;
    }
compiled c _ (Ends.noted {why = stop.Refused why} s a q) is e = absurd (omega arith)
compiled c _ (Ends.noted {why = stop.Usage} s a q) is e = absurd (omega arith)
compiled c _ (Ends.noted {why = stop.ReadFault} s a q) is e = absurd (omega arith)
compiled c _ (Ends.noted {why = stop.WriteFault} s a q) is e = absurd (omega arith)
compiled c _ (Ends.noted {why = stop.NoMemory} s a q) is e = absurd (omega arith)
compiled c _ (Ends.note_failed s a l r) is e = absurd (omega arith)
compiled c _ (Ends.note_lacked_memory s a q) is e = absurd (omega arith)

pub accepted : (c : Call) (status : ℕ) → Ends c status → Asks c.words Check → status ≡ 0 → Accepted c.left c.left' c.written c.written'
accepted c _ (Ends.done {text = text} {status = status} t q a k n m) is e =
    let same : t.command ≡ Check = asks_one c.words t.command Check t.asked is in
    let made = subst (λ k. Makes k t.input text status) same t.made in
    record {
      input = t.input;
      file = made.0.file;
      taken = subst (λ k. Taken k c.left c.left' t.input) same t.taken;
      accepted = made.0.accepted;
      sound = made.0.sound;
      appended = subst (Appends c.written c.written') made.1 a;
    }
accepted c _ (Ends.noted {why = stop.Refused why} s a q) is e = absurd (omega arith)
accepted c _ (Ends.noted {why = stop.Usage} s a q) is e = absurd (omega arith)
accepted c _ (Ends.noted {why = stop.ReadFault} s a q) is e = absurd (omega arith)
accepted c _ (Ends.noted {why = stop.WriteFault} s a q) is e = absurd (omega arith)
accepted c _ (Ends.noted {why = stop.NoMemory} s a q) is e = absurd (omega arith)
accepted c _ (Ends.note_failed s a l r) is e = absurd (omega arith)
accepted c _ (Ends.note_lacked_memory s a q) is e = absurd (omega arith)

-- a call that ends as usage has words that ask for no command
pub usage : (c : Call) (status : ℕ) → Ends c status → status ≡ 2 → IsUsage c.words
usage c _ (Ends.noted (Stops.usage w l q u) a n) e = w
usage c _ (Ends.noted (Stops.refused w t r q u) a n) e = absurd (omega arith)
usage c _ (Ends.noted (Stops.read_fault w l r u) a n) e = absurd (omega arith)
usage c _ (Ends.noted (Stops.write_fault k q f l r) a n) e = absurd (omega arith)
usage c _ (Ends.noted (Stops.no_memory w q u) a n) e = absurd (omega arith)
usage c _ (Ends.noted (Stops.no_memory_to_write k q f r) a n) e = absurd (omega arith)
usage c _ (Ends.done t q a k n m) e = absurd (omega (arith, zero t))
usage c _ (Ends.note_failed s a l r) e = absurd (omega arith)
usage c _ (Ends.note_lacked_memory s a q) e = absurd (omega arith)

-- a call with words that ask for no command is usage, unless the notes failed or memory ran out, and nothing is read
pub usage_always : (c : Call) (status : ℕ) → Ends c status → IsUsage c.words → (status ≡ 2) ⊎ FailedNotes status c.note_faults c.note_faults' ⊎ (status ≡ 5)
usage_always c _ (Ends.noted (Stops.usage w l q u) a n) h = inl refl
usage_always c _ (Ends.noted (Stops.refused {command = command} w t r q u) a n) h = absurd (asks_is_no_usage c.words command w h)
usage_always c _ (Ends.noted (Stops.read_fault {command = command} w l r u) a n) h = absurd (asks_is_no_usage c.words command w h)
usage_always c _ (Ends.noted (Stops.write_fault k q f l r) a n) h = absurd (asks_is_no_usage c.words k.command k.asked h)
usage_always c _ (Ends.noted (Stops.no_memory w q u) a n) h = inr (inr refl)
usage_always c _ (Ends.noted (Stops.no_memory_to_write k q f r) a n) h = inr (inr refl)
usage_always c _ (Ends.done t q a k n m) h = absurd (asks_is_no_usage c.words t.command t.asked h)
usage_always c _ (Ends.note_failed s a l r) h = inr (inl (refl, r))
usage_always c _ (Ends.note_lacked_memory s a q) h = inr (inr refl)

unread_by : (c : Call) (why : Stop) → Stops c why → IsUsage c.words → (c.left' ≡ c.left) × (c.read_faults' ≡ c.read_faults)
unread_by c _ (Stops.usage w l q u) h = (l, q)
unread_by c _ (Stops.refused {command = command} w t r q u) h = absurd (asks_is_no_usage c.words command w h)
unread_by c _ (Stops.read_fault {command = command} w l r u) h = absurd (asks_is_no_usage c.words command w h)
unread_by c _ (Stops.write_fault k q f l r) h = absurd (asks_is_no_usage c.words k.command k.asked h)
unread_by c _ (Stops.no_memory w q u) h = (w h, q)
unread_by c _ (Stops.no_memory_to_write k q f r) h = absurd (asks_is_no_usage c.words k.command k.asked h)

pub unread : (c : Call) (status : ℕ) → Ends c status → IsUsage c.words → (c.left' ≡ c.left) × (c.read_faults' ≡ c.read_faults)
unread c _ (Ends.done t q a k n m) h = absurd (asks_is_no_usage c.words t.command t.asked h)
unread c _ (Ends.noted {why = why} s a q) h = unread_by c why s h
unread c _ (Ends.note_failed {why = why} s a l r) h = unread_by c why s h
unread c _ (Ends.note_lacked_memory {why = why} s a q) h = unread_by c why s h

-- where the output failed, the notes have the line of a write fault
pub write_noted : (c : Call) (status : ℕ) → Ends c status → status ≡ 4 → (Rose c.note_faults c.note_faults' → ⊥) → Appends c.noted c.noted' (line_of stop.WriteFault)
write_noted c _ (Ends.done t q a k n m) e p = absurd (omega (arith, zero t))
write_noted c _ (Ends.noted {why = stop.WriteFault} s a q) e p = a
write_noted c _ (Ends.noted {why = stop.Refused why} s a q) e p = absurd (omega arith)
write_noted c _ (Ends.noted {why = stop.Usage} s a q) e p = absurd (omega arith)
write_noted c _ (Ends.noted {why = stop.ReadFault} s a q) e p = absurd (omega arith)
write_noted c _ (Ends.noted {why = stop.NoMemory} s a q) e p = absurd (omega arith)
write_noted c _ (Ends.note_failed s a l r) e p = absurd (p r)
write_noted c _ (Ends.note_lacked_memory s a q) e p = absurd (omega arith)

-- a call whose line is always the same noted that line
same_stop : (why other : Stop) → IsPlain (status_of why) → status_of why ≡ status_of other → line_of why ≡ line_of other
same_stop (stop.Refused v) other p e = absurd (omega (arith, p))
same_stop stop.WriteFault other p e = absurd (omega (arith, p))
same_stop stop.NoMemory other p e = absurd (omega (arith, p))
same_stop stop.Usage stop.Usage p e = refl
same_stop stop.ReadFault stop.ReadFault p e = refl
same_stop _ _ p e = absurd (omega arith)

pub noted : (c : Call) (status : ℕ) → Ends c status → (why : Stop) → IsPlain status → status ≡ status_of why → Appends c.noted c.noted' (line_of why)
noted c _ (Ends.noted {why = other} s a q) why p e = subst (Appends c.noted c.noted') (same_stop other why p e) a
noted c _ (Ends.done t q a k n m) why h e = absurd (omega (arith, h, zero t))
noted c _ (Ends.note_failed s a l r) why h e = absurd (omega (arith, h))
noted c _ (Ends.note_lacked_memory s a q) why h e = absurd (omega (arith, h))

-- a status is one of the table
pub known : (c : Call) (status : ℕ) → Ends c status → status ≤ 5
known c _ (Ends.done t q a k n m) = omega (arith, zero t)
known c _ (Ends.noted {why = stop.Refused why} s a q) = omega arith
known c _ (Ends.noted {why = stop.Usage} s a q) = omega arith
known c _ (Ends.noted {why = stop.ReadFault} s a q) = omega arith
known c _ (Ends.noted {why = stop.WriteFault} s a q) = omega arith
known c _ (Ends.noted {why = stop.NoMemory} s a q) = omega arith
known c _ (Ends.note_failed s a l r) = omega arith
known c _ (Ends.note_lacked_memory s a q) = omega arith

-- where the output was written, nothing was noted
pub unnoted : (c : Call) (status : ℕ) → Ends c status → status ≡ 0 → Keeps c.noted c.noted'
unnoted c _ (Ends.done t q a k n m) e = keeps c.noted c.noted' n
unnoted c _ (Ends.noted {why = stop.Refused why} s a q) e = absurd (omega arith)
unnoted c _ (Ends.noted {why = stop.Usage} s a q) e = absurd (omega arith)
unnoted c _ (Ends.noted {why = stop.ReadFault} s a q) e = absurd (omega arith)
unnoted c _ (Ends.noted {why = stop.WriteFault} s a q) e = absurd (omega arith)
unnoted c _ (Ends.noted {why = stop.NoMemory} s a q) e = absurd (omega arith)
unnoted c _ (Ends.note_failed s a l r) e = absurd (omega arith)
unnoted c _ (Ends.note_lacked_memory s a q) e = absurd (omega arith)

-- a fault of reading comes where the source's count rose
pub read_fault : (c : Call) (status : ℕ) → Ends c status → status ≡ 3 → Rose c.read_faults c.read_faults'
read_fault c _ (Ends.done t q a k n m) e = absurd (omega (arith, zero t))
read_fault c _ (Ends.noted (Stops.read_fault w l r u) a n) e = r
read_fault c _ (Ends.noted (Stops.usage w l q u) a n) e = absurd (omega arith)
read_fault c _ (Ends.noted (Stops.refused w t r q u) a n) e = absurd (omega arith)
read_fault c _ (Ends.noted (Stops.write_fault k q f l r) a n) e = absurd (omega arith)
read_fault c _ (Ends.noted (Stops.no_memory w q u) a n) e = absurd (omega arith)
read_fault c _ (Ends.noted (Stops.no_memory_to_write k q f r) a n) e = absurd (omega arith)
read_fault c _ (Ends.note_failed s a l r) e = absurd (omega arith)
read_fault c _ (Ends.note_lacked_memory s a q) e = absurd (omega arith)

-- a source's count that rose shows
pub read_faults : (c : Call) (status : ℕ) → Ends c status → c.read_faults < c.read_faults' → (status ≡ 3) ⊎ FailedNotes status c.note_faults c.note_faults' ⊎ (status ≡ 5)
read_faults c _ (Ends.done t q a k n m) l = absurd (omega (arith, q))
read_faults c _ (Ends.noted (Stops.read_fault w i r u) a n) l = inl refl
read_faults c _ (Ends.noted (Stops.usage w i q u) a n) l = absurd (omega (arith, q))
read_faults c _ (Ends.noted (Stops.refused w t r q u) a n) l = absurd (omega (arith, q))
read_faults c _ (Ends.noted (Stops.write_fault k q f i r) a n) l = absurd (omega (arith, q))
read_faults c _ (Ends.noted (Stops.no_memory w q u) a n) l = inr (inr refl)
read_faults c _ (Ends.noted (Stops.no_memory_to_write k q f r) a n) l = inr (inr refl)
read_faults c _ (Ends.note_failed s a i r) l = inr (inl (refl, r))
read_faults c _ (Ends.note_lacked_memory s a q) l = inr (inr refl)

-- a fault of writing comes where a count rose
pub write_fault : (c : Call) (status : ℕ) → Ends c status → status ≡ 4 → Rose c.write_faults c.write_faults' ⊎ Rose c.note_faults c.note_faults'
write_fault c _ (Ends.done t q a k n m) e = absurd (omega (arith, zero t))
write_fault c _ (Ends.noted (Stops.write_fault k q f l r) a n) e = inl r
write_fault c _ (Ends.noted (Stops.read_fault w l r u) a n) e = absurd (omega arith)
write_fault c _ (Ends.noted (Stops.usage w l q u) a n) e = absurd (omega arith)
write_fault c _ (Ends.noted (Stops.refused w t r q u) a n) e = absurd (omega arith)
write_fault c _ (Ends.noted (Stops.no_memory w q u) a n) e = absurd (omega arith)
write_fault c _ (Ends.noted (Stops.no_memory_to_write k q f r) a n) e = absurd (omega arith)
write_fault c _ (Ends.note_failed s a l r) e = inr r
write_fault c _ (Ends.note_lacked_memory s a q) e = absurd (omega arith)

-- a count of writing that rose shows
pub write_faults : (c : Call) (status : ℕ) → Ends c status → (c.write_faults < c.write_faults') ⊎ (c.note_faults < c.note_faults') → IsCut status
write_faults c _ (Ends.done t q a k n m) h = absurd (omega (arith, h, k, m))
write_faults c _ (Ends.noted (Stops.write_fault k q f l r) a n) h = inl refl
write_faults c _ (Ends.noted (Stops.read_fault w l r u) a n) h = absurd (omega (arith, h, u.quiet, n))
write_faults c _ (Ends.noted (Stops.usage w l q u) a n) h = absurd (omega (arith, h, u.quiet, n))
write_faults c _ (Ends.noted (Stops.refused w t r q u) a n) h = absurd (omega (arith, h, u.quiet, n))
write_faults c _ (Ends.noted (Stops.no_memory w q u) a n) h = inr refl
write_faults c _ (Ends.noted (Stops.no_memory_to_write k q f r) a n) h = inr refl
write_faults c _ (Ends.note_failed s a l r) h = inl refl
write_faults c _ (Ends.note_lacked_memory s a q) h = inr refl
