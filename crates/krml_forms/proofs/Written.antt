-- The text of forms has these forms.
use Rattle.std.proofs.Common.{◌≡◌, ℕ, Bool, true, false, eqb, List, [], ◌∷◌, ◌++◌, map, refl, sym, ap, ◌∙◌, append_assoc, arith}
use Rattle.std.proofs.lemmas.List.{append-nil}
use Rattle.std.proofs.lemmas.Bool.{and_parts}
use Rattle.std.proofs.lemmas.Bool.Decides.{nat_tests}
use Rattle.std.specs.List.{list_all}
use Rattle.krml_forms.specs.declared.form.Form.{Form}
use Rattle.krml_forms.specs.declared.form.Form.TheVariants.{Atom, List as Node, outs-Atom, outs-List}
use Rattle.krml_forms.specs.declared.form.Form.TheFolds.{fold_out-Form}
use Rattle.krml_forms.specs.Text.{Token, Open, Close, Word, is_word, plain, form_tokens, HasForms}
use Rattle.krml_forms.specs.Cut.{after_word, tokens_after}
use Rattle.krml_forms.specs.Writing.{spaced, joined, level_text, form_text, forms_text, IsWord, Writable, AllWritable}
use Rattle.krml_forms.proofs.Cuts.{tokens_are_cut}
use Rattle.krml_forms.proofs.Layer.{flat, tokens_of_atom, tokens_of_list}

-- ---- no comment

-- the bytes stay as they are where comments are blanked, and none is open behind them
record Keeps (text : List ℕ) : Type 0 where
  pub keeps : (rest : List ℕ) → plain (text ++ rest) ≡ text ++ plain rest

keeps_nothing : Keeps []
keeps_nothing = record { keeps = λ rest. refl }

keeps_byte : (b : ℕ) (text : List ℕ) → eqb b 59 ≡ false → Keeps text → Keeps (b ∷ text)
keeps_byte b text e k = record { keeps = λ rest. rw e (ap (λ bs. b ∷ bs) (k.keeps rest)) }

keeps_both : (a b : List ℕ) → Keeps a → Keeps b → Keeps (a ++ b)
keeps_both a b k l = record { keeps = λ rest. ap plain (append_assoc a b rest) ∙ k.keeps (b ++ rest) ∙ ap (λ bs. a ++ bs) (l.keeps rest) ∙ sym (append_assoc a b (plain rest)) }

word_not_comment : (b : ℕ) → is_word b ≡ true → eqb b 59 ≡ false
word_not_comment b h = go (eqb b 59) refl
  where
    go : (t : Bool) → eqb b 59 ≡ t → t ≡ false
    go true e = let s : b ≡ 59 = grind (arith, nat_tests) in let f : is_word b ≡ false = ap is_word s in absurd (cc)
    go false e = refl

keeps_run : (w : List ℕ) → list_all is_word w ≡ true → Keeps w
keeps_run [] h = keeps_nothing
keeps_run (b ∷ w) h = let p = and_parts (is_word b) (list_all is_word w) h in keeps_byte b w (word_not_comment b p.0) (keeps_run w p.1)

-- ---- tokens

-- the text is read as these tokens, whatever stands behind it that is of no word
record Reads (text : List ℕ) (ts : List Token) : Type 0 where
  pub gives : (c : ℕ) (rest : List ℕ) → is_word c ≡ false → tokens_after [] (text ++ c ∷ rest) ≡ ts ++ tokens_after [] (c ∷ rest)

ends : (u : List ℕ) (c : ℕ) (rest : List ℕ) → is_word c ≡ false → tokens_after u (c ∷ rest) ≡ after_word u (tokens_after [] (c ∷ rest))
ends u c rest h = rw h refl

run : (w u : List ℕ) (c : ℕ) (rest : List ℕ) → list_all is_word w ≡ true → is_word c ≡ false → tokens_after u (w ++ c ∷ rest) ≡ after_word (u ++ w) (tokens_after [] (c ∷ rest))
run [] u c rest a h = ends u c rest h ∙ ap (λ v. after_word v (tokens_after [] (c ∷ rest))) (sym (append-nil u))
run (b ∷ w) u c rest a h =
    let p = and_parts (is_word b) (list_all is_word w) a in
    let e : (u ++ b ∷ []) ++ w ≡ u ++ b ∷ w = simp append_assoc in
    rw p.0 (run w (u ++ b ∷ []) c rest p.1 h ∙ ap (λ v. after_word v (tokens_after [] (c ∷ rest))) e)

-- ---- one form

-- what is written for a form has its tokens, and no comment
record IsWritten (text : List ℕ) (ts : List Token) : Type 0 where
  pub reads : Reads text ts
  pub keeps : Keeps text

abbrev FormWritten : Form → Type 0
FormWritten f = IsWritten (form_text f) (form_tokens f)

data AllWritten : List Form → Type 0 where
  none : AllWritten []
  one : {f : Form} {fs : List Form} → FormWritten f → AllWritten fs → AllWritten (f ∷ fs)

text_of_atom : (w : List ℕ) → form_text (Atom w) ≡ w
text_of_atom w = rw (fold_out-Form (List ℕ) level_text (Atom w), outs-Atom w) refl

text_of_list : (fs : List Form) → form_text (Node fs) ≡ 40 ∷ joined (map form_text fs) ++ 41 ∷ []
text_of_list fs = rw (fold_out-Form (List ℕ) level_text (Node fs), outs-List fs) refl

written_word : (w : List ℕ) → IsWord w → IsWritten w (Word w ∷ [])
written_word [] h = absurd h
written_word (b ∷ w) h = record { reads = record { gives = λ c rest n. run (b ∷ w) [] c rest h n }; keeps = keeps_run (b ∷ w) h }

-- what follows a form in a list begins with a space or a `)`, so the form's last word ends there
next_reads : (f : Form) (fs : List Form) (rest : List ℕ) → Reads (form_text f) (form_tokens f) → tokens_after [] (spaced (map form_text fs) ++ 41 ∷ rest) ≡ flat fs ++ Close ∷ tokens_after [] rest
    → tokens_after [] (form_text f ++ (spaced (map form_text fs) ++ 41 ∷ rest)) ≡ flat (f ∷ fs) ++ Close ∷ tokens_after [] rest
next_reads f [] rest r more = r.gives 41 rest refl ∙ sym (simp append_assoc)
next_reads f (g ∷ gs) rest r more =
    r.gives 32 ((form_text g ++ spaced (map form_text gs)) ++ 41 ∷ rest) refl ∙ ap (λ ts. form_tokens f ++ ts) more ∙ sym (append_assoc (form_tokens f) (flat (g ∷ gs)) (Close ∷ tokens_after [] rest))

spaced_reads : (fs : List Form) (rest : List ℕ) → AllWritten fs → tokens_after [] (spaced (map form_text fs) ++ 41 ∷ rest) ≡ flat fs ++ Close ∷ tokens_after [] rest
spaced_reads [] rest a = refl
spaced_reads (f ∷ fs) rest (AllWritten.one a more) =
    ap (tokens_after []) (ap (λ bs. 32 ∷ bs) (append_assoc (form_text f) (spaced (map form_text fs)) (41 ∷ rest))) ∙ next_reads f fs rest a.reads (spaced_reads fs rest more)

list_reads : (fs : List Form) → AllWritten fs → Reads (40 ∷ joined (map form_text fs) ++ 41 ∷ []) (Open ∷ flat fs ++ Close ∷ [])
list_reads [] a = record { gives = λ c rest h. refl }
list_reads (f ∷ fs) (AllWritten.one a more) = record {
  gives = λ c rest h.
      let regroup : ((form_text f ++ spaced (map form_text fs)) ++ 41 ∷ []) ++ c ∷ rest ≡ form_text f ++ (spaced (map form_text fs) ++ 41 ∷ c ∷ rest) = simp append_assoc in
      let inner : tokens_after [] (form_text f ++ (spaced (map form_text fs) ++ 41 ∷ c ∷ rest)) ≡ flat (f ∷ fs) ++ Close ∷ tokens_after [] (c ∷ rest) = next_reads f fs (c ∷ rest) a.reads (spaced_reads fs (c ∷ rest) more) in
      ap (λ bs. Open ∷ tokens_after [] bs) regroup ∙ ap (λ ts. Open ∷ ts) (inner ∙ sym (append_assoc (flat (f ∷ fs)) (Close ∷ []) (tokens_after [] (c ∷ rest))));
}

spaced_keeps : (fs : List Form) → AllWritten fs → Keeps (spaced (map form_text fs))
spaced_keeps [] a = keeps_nothing
spaced_keeps (f ∷ fs) (AllWritten.one a more) = keeps_byte 32 (form_text f ++ spaced (map form_text fs)) refl (keeps_both (form_text f) (spaced (map form_text fs)) a.keeps (spaced_keeps fs more))

joined_keeps : (fs : List Form) → AllWritten fs → Keeps (joined (map form_text fs))
joined_keeps [] a = keeps_nothing
joined_keeps (f ∷ fs) (AllWritten.one a more) = keeps_both (form_text f) (spaced (map form_text fs)) a.keeps (spaced_keeps fs more)

list_keeps : (fs : List Form) → AllWritten fs → Keeps (40 ∷ joined (map form_text fs) ++ 41 ∷ [])
list_keeps fs a = keeps_byte 40 (joined (map form_text fs) ++ 41 ∷ []) refl (keeps_both (joined (map form_text fs)) (41 ∷ []) (joined_keeps fs a) (keeps_byte 41 [] refl keeps_nothing))

mutual
  written : {f : Form} → Writable f → FormWritten f
  written (Writable.atom {w = w} h) = rw (text_of_atom w, tokens_of_atom (Atom w) w (outs-Atom w)) (written_word w h)
  written (Writable.list {fs = fs} h) =
      rw (text_of_list fs, tokens_of_list (Node fs) fs (outs-List fs)) (record { reads = list_reads fs (all_written h); keeps = list_keeps fs (all_written h) })

  all_written : {fs : List Form} → AllWritable fs → AllWritten fs
  all_written AllWritable.none = AllWritten.none
  all_written (AllWritable.one h hs) = AllWritten.one (written h) (all_written hs)

-- ---- forms, each on a line

lines_keep : (fs : List Form) → AllWritten fs → Keeps (forms_text fs)
lines_keep [] a = keeps_nothing
lines_keep (f ∷ fs) (AllWritten.one a more) = keeps_both (form_text f ++ 10 ∷ []) (forms_text fs) (keeps_both (form_text f) (10 ∷ []) a.keeps (keeps_byte 10 [] refl keeps_nothing)) (lines_keep fs more)

lines_read : (fs : List Form) → AllWritten fs → tokens_after [] (forms_text fs) ≡ flat fs
lines_read [] a = refl
lines_read (f ∷ fs) (AllWritten.one a more) =
    ap (tokens_after []) (append_assoc (form_text f) (10 ∷ []) (forms_text fs)) ∙ a.reads.gives 10 (forms_text fs) refl ∙ ap (λ ts. form_tokens f ++ ts) (lines_read fs more)

pub text_has_forms : (fs : List Form) → AllWritable fs → HasForms (forms_text fs) fs
text_has_forms fs h =
    let a = all_written h in
    let same : plain (forms_text fs) ≡ forms_text fs = ap plain (sym (append-nil (forms_text fs))) ∙ (lines_keep fs a).keeps [] ∙ append-nil (forms_text fs) in
    sym (tokens_are_cut (plain (forms_text fs))) ∙ ap (tokens_after []) same ∙ lines_read fs a
