-- What clap's contract says of the line.
use Rattle.std.proofs.Common.{◌∙◌, ap, inl, inr, sym, ◌≡◌, List, [], true, refl, subst}
use Rattle.clap.specs.Words.{App, HasKind, kind_of, HasMatchesOf, Text, fault_of, found_of, is_simple, is_simple_and_free, matches_of, rows_of}
use Rattle.clap.specs.declared.parser.matches.ArgMatches.{ArgMatches}
use Rattle.clap.proofs.OnLiterals.{clap_on_literals}
use Rattle.krml_command.specs.Line.{line, refusal_for}
use Rattle.krml_command.specs.declared.refusal.WordsRefusal.{WordsRefusal}
use Rattle.krml_command.specs.declared.refusal.WordsRefusal.TheVariants.{NoMemory, Usage}
use Rattle.clap.specs.declared.error.Error.{Error}

simple : is_simple line ≡ true
unfolding clap_on_literals
simple = refl

free : is_simple_and_free line ≡ true
unfolding clap_on_literals
free = refl

-- of a parse that succeeds
pub parsed : (a : App) (words : List Text) (m : ArgMatches) → a ≡ line → (is_simple_and_free a ≡ true → fault_of a words ≡ []) → HasMatchesOf a words m
    → (fault_of line words ≡ []) × (rows_of (found_of m) ≡ matches_of line words)
parsed a words m is kinds matches =
    let k : is_simple_and_free line ≡ true → fault_of line words ≡ [] = subst (λ x. is_simple_and_free x ≡ true → fault_of x words ≡ []) is kinds in
    let h : HasMatchesOf line words m = subst (λ x. HasMatchesOf x words m) is matches in
    (k free, (h simple).0)

-- and of one that fails: a fault of the words is one by their form
pub failed : (a : App) (words : List Text) (e : Error) (why : WordsRefusal) → a ≡ line → (is_simple_and_free a ≡ true → HasKind (fault_of a words) e) → why ≡ refusal_for (kind_of e)
    → why ≡ Usage → fault_of line words ≡ [] → ⊥
failed a words e why is kinds says usage none =
    let k : is_simple_and_free line ≡ true → HasKind (fault_of line words) e = subst (λ x. is_simple_and_free x ≡ true → HasKind (fault_of x words) e) is kinds in
    let h : HasKind [] e = subst (λ ks. HasKind ks e) none (k free) in
    elim h [
      | inl memory ↦ let wrong : NoMemory ≡ Usage = ap refusal_for (sym memory) ∙ (sym says ∙ usage) in cc
      | inr among ↦ absurd among
    ]
