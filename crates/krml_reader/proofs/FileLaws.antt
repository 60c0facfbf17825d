-- What reading a text comes to: one answer, which the functions that read it give.
use Rattle.std.proofs.Common.{◌≡◌, ℕ, suc, ◌+◌, ◌<◌, ◌≤◌, Bool, true, false, cond, nat_lt, List, [], ◌∷◌, ◌++◌, length, Option, Some, None, Result, Ok, Err, IfOk, refl, sym, ap, ◌∙◌, ◌⊎◌, inl, inr, subst, append_assoc, length-append, arith}
use Rattle.std.proofs.lemmas.Bool.Decides.{nat_tests}
use Rattle.std.proofs.lemmas.List.{append-nil}
use Rattle.krml_forms.specs.declared.form.Form.{Form}
use Rattle.krml_forms.specs.declared.read.Reading.{Reading}
use Rattle.krml_forms.specs.declared.read.Reading.TheVariants.{Forms, Syntax as FaultAt, Nesting as DeepAt}
use Rattle.krml_forms.specs.Levels.{Within, AllWithin}
use Rattle.krml_forms.specs.Reading.{HasReading}
use Rattle.krml_syntax.specs.declared.limit.LimitKind.{LimitKind}
use Rattle.krml_syntax.specs.declared.tree.Def.{Def}
use Rattle.krml_syntax.specs.declared.tree.SourceFile.{SourceFile}
use Rattle.krml_syntax.specs.Spelling.{Each, SpellsDef, SpellsDefs}
use Rattle.krml_syntax.specs.Limits.{first_excess}
use Rattle.krml_syntax.specs.File.{SpellsFile}
use Rattle.krml_writer.specs.Written.{text_of}
use Rattle.krml_reader.specs.declared.refusal.ReadRefusal.{ReadRefusal}
use Rattle.krml_reader.specs.declared.refusal.ReadRefusal.TheVariants.{TooLarge, Syntax, Nesting, Shape, Limit, NoMemory}
use Rattle.krml_reader.specs.Definition.{def_at}
use Rattle.krml_reader.specs.Answer.{Answers, behind_def, defs_after, defs_of, limited_by, file_after, file_of}
use Rattle.krml_reader.specs.Read.{IsShort, IsFormed, Reads, IsRead, IsRefused, read_back}
use Rattle.krml_reader.proofs.DefinitionLaws.{def_only, def_again}

-- ---- what the forms are read as

each_length : {X Y : Type 0} {R : X → Y → Type 0} {xs : List X} {ys : List Y} → Each R xs ys → length ys ≡ length xs
each_length Each.none = refl
each_length (Each.one r more) = ap suc (each_length more)

each_more : {X Y : Type 0} {R : X → Y → Type 0} {xs : List X} {ys : List Y} {x : X} {y : Y} → Each R xs ys → R x y → Each R (xs ++ x ∷ []) (ys ++ y ∷ [])
each_more Each.none r = Each.one r Each.none
each_more (Each.one s more) r = Each.one s (each_more more r)

-- definitions that forms spell, or the first form that spells none
data Found (fs : List Form) : Result (List Def) ReadRefusal → Type 0 where
  all : {defs : List Def} → SpellsDefs fs defs → Found fs (Ok defs)
  no : (before : List Form) (f : Form) (after : List Form) {defs : List Def} → fs ≡ before ++ f ∷ after → SpellsDefs before defs → ((def : Def) → SpellsDef f def → ⊥)
      → Found fs (Err (Shape (length before)))

unread : (f : Form) → Within 64 f → def_at f ≡ None → (def : Def) → SpellsDef f def → ⊥
unread f w e def s = let again : def_at f ≡ Some def = def_again s w in absurd (cc)

found_after : (fs : List Form) → AllWithin 64 fs → (before : List Form) (done : List Def) → SpellsDefs before done → Found (before ++ fs) (defs_after done fs)
unfolding defs_after
found_after [] w before done s = subst (λ gs. Found gs (Ok done)) (sym (append-nil before)) (Found.all s)
found_after (f ∷ fs) w before done s = go (found_after fs w.1) (def_at f) refl
  where
    go : ((gs : List Form) (ds : List Def) → SpellsDefs gs ds → Found (gs ++ fs) (defs_after ds fs)) → (o : Option Def) → def_at f ≡ o
        → Found (before ++ f ∷ fs) (behind_def (λ def. defs_after (done ++ def ∷ []) fs) (length done) o)
    go rest None e = subst (λ k. Found (before ++ f ∷ fs) (Err (Shape k))) (sym (each_length s)) (Found.no before f fs refl s (unread f w.0 e))
    go rest (Some def) e =
        let more : Found ((before ++ f ∷ []) ++ fs) (defs_after (done ++ def ∷ []) fs) = rest (before ++ f ∷ []) (done ++ def ∷ []) (each_more s ((def_only f).holds def e)) in
        let regroup : (before ++ f ∷ []) ++ fs ≡ before ++ f ∷ fs = simp append_assoc in
        subst (λ gs. Found gs (defs_after (done ++ def ∷ []) fs)) regroup more

found : (fs : List Form) → AllWithin 64 fs → Found fs (defs_of fs)
found fs w = found_after fs w [] [] Each.none

-- ---- the answer is what reading comes to

within_limits : (text : List ℕ) (forms : List Form) (defs : List Def) → IsFormed text forms → SpellsDefs forms defs → (o : Option (LimitKind × ℕ)) → first_excess forms defs ≡ o
    → Reads text (limited_by o defs)
within_limits text forms defs formed s None e =
    Reads.file (record { forms = forms; short = formed.0; has = formed.1; levels = formed.2; spelled = s; limits = e })
within_limits text forms defs formed s (Some (which, count)) e = Reads.limit formed s e

from_found : (text : List ℕ) (forms : List Form) (r : Result (List Def) ReadRefusal) → IsFormed text forms → Found forms r → Reads text (file_after forms r)
from_found text forms _ formed (Found.all {defs = defs} s) = within_limits text forms defs formed s (first_excess forms defs) refl
from_found text forms _ formed (Found.no before f after e s none) = Reads.shape before f after (subst (IsFormed text) e formed) s none

file_is_read : (text : List ℕ) (forms : List Form) → IsFormed text forms → Reads text (file_of forms)
file_is_read text forms formed = from_found text forms (defs_of forms) formed (found forms formed.2)

answered : (text : List ℕ) (r a : Result SourceFile ReadRefusal) → Answers r a → Reads text a → IsRead text r
answered text (Err NoMemory) a h s = tt
answered text (Ok file) a h s = subst (Reads text) (sym h) s
answered text (Err TooLarge) a h s = subst (Reads text) (sym h) s
answered text (Err (Syntax at)) a h s = subst (Reads text) (sym h) s
answered text (Err (Nesting at)) a h s = subst (Reads text) (sym h) s
answered text (Err (Shape form)) a h s = subst (Reads text) (sym h) s
answered text (Err (Limit which count)) a h s = subst (Reads text) (sym h) s

pub forms_answered : (text : List ℕ) (forms : List Form) (r : Result SourceFile ReadRefusal) → IsShort text → HasReading text (Forms forms) → Answers r (file_of forms) → IsRead text r
forms_answered text forms r short has h = answered text r (file_of forms) h (file_is_read text forms (short, has.0, has.1))

-- ---- the public clauses

spelled_by : (text : List ℕ) (a : Result SourceFile ReadRefusal) → Reads text a → IfOk a (λ file. SpellsFile text file)
spelled_by text _ (Reads.file s) = s
spelled_by text _ (Reads.too_large l) = tt
spelled_by text _ (Reads.syntax s f) = tt
spelled_by text _ (Reads.nesting s n f) = tt
spelled_by text _ (Reads.shape b f a formed s n) = tt
spelled_by text _ (Reads.limit f s e) = tt

pub is_found : (text : List ℕ) (r : Result SourceFile ReadRefusal) → IsRead text r → IfOk r (λ file. SpellsFile text file)
is_found text (Ok file) h = spelled_by text (Ok file) h
is_found text (Err refusal) h = tt

pub is_refused : (text : List ℕ) (r : Result SourceFile ReadRefusal) → IsRead text r → IsRefused text r
is_refused text (Ok file) h = tt
is_refused text (Err NoMemory) h = tt
is_refused text (Err TooLarge) h = h
is_refused text (Err (Syntax at)) h = h
is_refused text (Err (Nesting at)) h = h
is_refused text (Err (Shape form)) h = h
is_refused text (Err (Limit which count)) h = h

-- ---- what reading comes to is the answer

all_again : {fs : List Form} {defs : List Def} → SpellsDefs fs defs → AllWithin 64 fs → (done : List Def) → defs_after done fs ≡ Ok (done ++ defs)
unfolding defs_after
all_again Each.none w done = ap Ok (sym (append-nil done))
all_again (Each.one {x = f} {y = def} {xs = fs} {ys = defs} s more) w done =
    let others : defs_after (done ++ def ∷ []) fs ≡ Ok ((done ++ def ∷ []) ++ defs) = all_again more w.1 (done ++ def ∷ []) in
    rw (def_again s w.0) (others ∙ ap Ok (simp append_assoc))

no_def : (f : Form) → ((def : Def) → SpellsDef f def → ⊥) → def_at f ≡ None
no_def f none = go (def_at f) refl
  where
    go : (o : Option Def) → def_at f ≡ o → o ≡ None
    go None e = refl
    go (Some def) e = absurd (none def ((def_only f).holds def e))

no_again : {before : List Form} {defs : List Def} → SpellsDefs before defs → (f : Form) (after : List Form) → AllWithin 64 (before ++ f ∷ after) → ((def : Def) → SpellsDef f def → ⊥)
    → (done : List Def) (k : ℕ) → length done + length before ≡ k → defs_after done (before ++ f ∷ after) ≡ Err (Shape k)
unfolding defs_after
no_again Each.none f after w none done k e = let here : length done ≡ k = omega arith in rw (no_def f none, here) refl
no_again (Each.one {x = g} {y = def} {xs = before} {ys = defs} s more) f after w none done k e =
    let place : length (done ++ def ∷ []) + length before ≡ k = omega (arith, length-append done (def ∷ [])) in
    rw (def_again s w.0) (no_again more f after w.1 none (done ++ def ∷ []) k place)

abbrev answer_of : Reading → Result SourceFile ReadRefusal
answer_of (Forms forms) = file_of forms
answer_of (FaultAt at) = Err (Syntax at)
answer_of (DeepAt at) = Err (Nesting at)

-- a reading of a text, and its answer
record Settled (text : List ℕ) (a : Result SourceFile ReadRefusal) : Type 0 where
  short : IsShort text
  reading : Reading
  has : HasReading text reading
  answer : a ≡ answer_of reading

settled_forms : (text : List ℕ) (forms : List Form) (a : Result SourceFile ReadRefusal) → IsFormed text forms → file_of forms ≡ a → Settled text a
settled_forms text forms a formed e = record { short = formed.0; reading = Forms forms; has = (formed.1, formed.2); answer = sym e }

shape_settled : (text : List ℕ) (before after : List Form) (f : Form) (defs : List Def) → IsFormed text (before ++ f ∷ after) → SpellsDefs before defs → ((def : Def) → SpellsDef f def → ⊥)
    → Settled text (Err (Shape (length before)))
shape_settled text before after f defs formed s none =
    let here : defs_of (before ++ f ∷ after) ≡ Err (Shape (length before)) = no_again s f after formed.2 none [] (length before) (omega arith) in
    settled_forms text (before ++ f ∷ after) (Err (Shape (length before))) formed (ap (file_after (before ++ f ∷ after)) here)

limited_settled : (text : List ℕ) (forms : List Form) (defs : List Def) (o : Option (LimitKind × ℕ)) → IsFormed text forms → SpellsDefs forms defs → first_excess forms defs ≡ o
    → Settled text (limited_by o defs)
limited_settled text forms defs o formed s e =
    let here : defs_of forms ≡ Ok defs = all_again s formed.2 [] in
    settled_forms text forms (limited_by o defs) formed (ap (file_after forms) here ∙ ap (λ p. limited_by p defs) e)

abbrev IsSettled : List ℕ → Result SourceFile ReadRefusal → Type 0
IsSettled text a = ((1048576 < length text) × (a ≡ Err TooLarge)) ⊎ Settled text a

settled : (text : List ℕ) (a : Result SourceFile ReadRefusal) → Reads text a → IsSettled text a
settled text _ (Reads.too_large l) = inl (l, refl)
settled text _ (Reads.syntax {at = at} short first) = inr (record { short = short; reading = FaultAt at; has = first; answer = refl })
settled text _ (Reads.nesting {at = at} short none first) = inr (record { short = short; reading = DeepAt at; has = (first, none); answer = refl })
settled text _ (Reads.shape before f after {defs = defs} formed s none) = inr (shape_settled text before after f defs formed s none)
settled text _ (Reads.limit {forms = forms} {defs = defs} {which = which} {count = count} formed s e) = inr (limited_settled text forms defs (Some (which, count)) formed s e)
settled text _ (Reads.file {read = read} s) = inr (limited_settled text s.forms read.defs None (s.short, s.has, s.levels) s.spelled s.limits)

abbrev OneReading : Type 0
OneReading = (text : List ℕ) (a b : Reading) → HasReading text a → HasReading text b → a ≡ b

same_settled : OneReading → (text : List ℕ) (a b : Result SourceFile ReadRefusal) → Settled text a → Settled text b → a ≡ b
same_settled one text a b s t = s.answer ∙ ap answer_of (one text s.reading t.reading s.has t.has) ∙ sym t.answer

too_short : (n : ℕ) → 1048576 < n → n ≤ 1048576 → ⊥
too_short n l s = absurd (omega arith)

both : OneReading → (text : List ℕ) (a b : Result SourceFile ReadRefusal) → IsSettled text a → IsSettled text b → a ≡ b
both one text a b (inl s) (inl t) = s.1 ∙ sym t.1
both one text a b (inl s) (inr t) = absurd (too_short (length text) s.0 t.short)
both one text a b (inr s) (inl t) = absurd (too_short (length text) t.0 s.short)
both one text a b (inr s) (inr t) = same_settled one text a b s t

pub same_answer : OneReading → (text : List ℕ) (a b : Result SourceFile ReadRefusal) → Reads text a → Reads text b → a ≡ b
same_answer one text a b s t = both one text a b (settled text a s) (settled text b t)

abbrev OneAnswer : Type 0
OneAnswer = (text : List ℕ) (a b : Result SourceFile ReadRefusal) → Reads text a → Reads text b → a ≡ b

pub same_file : OneAnswer → (text : List ℕ) (f g : SourceFile) → SpellsFile text f → SpellsFile text g → f ≡ g
same_file one text f g s t =
    let same : Ok f ≡ Ok g = one text (Ok f) (Ok g) (Reads.file s) (Reads.file t) in
    cc

pub same_definition : (f : Form) (a b : Def) → Within 64 f → SpellsDef f a → SpellsDef f b → a ≡ b
same_definition f a b w s t =
    let p : def_at f ≡ Some a = def_again s w in
    let q : def_at f ≡ Some b = def_again t w in
    cc

-- ---- what was written is read again

abbrev WrittenAgain : Type 0
WrittenAgain = (text : List ℕ) (file : SourceFile) → SpellsFile text file → length (text_of file) ≤ 1048576 → SpellsFile (text_of file) file

longer : (n : ℕ) → nat_lt 1048576 n ≡ true → 1048576 < n
longer n e = grind (arith, nat_tests)

no_longer : (n : ℕ) → nat_lt 1048576 n ≡ false → n ≤ 1048576
no_longer n e = grind (arith, nat_tests)

pub back : OneAnswer → WrittenAgain → (text : List ℕ) (file : SourceFile) (answer : Result SourceFile ReadRefusal) → SpellsFile text file → Reads (text_of file) answer → answer ≡ read_back file
back one again text file answer s r = go (nat_lt 1048576 (length (text_of file))) refl
  where
    go : (t : Bool) → nat_lt 1048576 (length (text_of file)) ≡ t → answer ≡ cond t (Err TooLarge) (Ok file)
    go true e = one (text_of file) answer (Err TooLarge) r (Reads.too_large (longer (length (text_of file)) e))
    go false e = one (text_of file) answer (Ok file) r (Reads.file (again text file s (no_longer (length (text_of file)) e)))
