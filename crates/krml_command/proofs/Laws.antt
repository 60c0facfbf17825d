-- What lines that are written out ask for, and what a request is.
use Rattle.std.proofs.Common.{◌≡◌, ◌≤◌, ◌&&◌, ℕ, Bool, true, false, List, [], Option, Some, None, codes, refl, sym, cond, nat_le, arith, subst}
use Rattle.std.proofs.lemmas.Slice.Eq.{bytes_eq-Decides}
use Rattle.std.specs.Str.{bytes_eq}
use Rattle.std.specs.Str.Parse.{digits_value}
use Rattle.std.proofs.lemmas.Bool.{leb-true}
use Rattle.clap.proofs.OnLiterals.{clap_on_literals}
use Rattle.clap.specs.Words.{Row, Text, first_of}
use Rattle.krml_command.specs.declared.numbers.Numbers.{Numbers}
use Rattle.krml_command.specs.declared.request.Command.{Command}
use Rattle.krml_command.specs.declared.request.Command.TheVariants.{C, Check}
use Rattle.krml_command.specs.declared.request.Request.{Request}
use Rattle.krml_command.specs.declared.request.Settings.{Settings}
use Rattle.krml_command.specs.Values.{bound, command_of, depth, is_decimal, number_in, pages, setting}
use Rattle.krml_command.specs.Request.{AsksAsWritten, IsInRange, command_in, request_by, request_in, settings_by, settings_in}

c_written : AsksAsWritten (codes "c") C
unfolding clap_on_literals
c_written = record {
  alone = λ stored. refl;
  before = λ stored n t k. refl;
  after = λ stored n t k. refl;
  passes = λ stored names. refl;
  twice = λ stored n k. refl;
  more = λ stored word. refl;
}

check_written : AsksAsWritten (codes "check") Check
unfolding clap_on_literals
check_written = record {
  alone = λ stored. refl;
  before = λ stored n t k. refl;
  after = λ stored n t k. refl;
  passes = λ stored names. refl;
  twice = λ stored n k. refl;
  more = λ stored word. refl;
}

some_is : {A : Type 0} (x y : A) → Some x ≡ Some y → x ≡ y
some_is x y e = cc

none_is_some : {A : Type 0} (x : A) → None ≡ Some x → ⊥
none_is_some x e = cc

as_written : (name : Text) (asked given : Command) (known : Text) → bytes_eq name known ≡ true → Some given ≡ Some asked → AsksAsWritten known given → AsksAsWritten name asked
as_written name asked given known same is written =
    subst (λ x. AsksAsWritten x asked) (sym ((bytes_eq-Decides name known).0 same)) (subst (AsksAsWritten known) (some_is given asked is) written)

pub written : (name : Text) (asked : Command) → command_of name [] ≡ Some asked → AsksAsWritten name asked
written name asked = go (bytes_eq name (codes "c")) (bytes_eq name (codes "check")) refl refl
  where
    go : (b d : Bool) → bytes_eq name (codes "c") ≡ b → bytes_eq name (codes "check") ≡ d → cond b (Some C) (cond d (Some Check) None) ≡ Some asked → AsksAsWritten name asked
    go true d c k e = as_written name asked C (codes "c") c e c_written
    go false true c k e = as_written name asked Check (codes "check") k e check_written
    go false false c k e = absurd (none_is_some asked e)

-- a number that is read lies in its range
number_ranges : (least most n : ℕ) (text : Text) → number_in least most text ≡ Some n → (least ≤ n) × (n ≤ most)
number_ranges least most n text = go (is_decimal text) (nat_le least (digits_value 10 text)) (nat_le (digits_value 10 text) most) refl refl
  where
    go : (d l m : Bool) → nat_le least (digits_value 10 text) ≡ l → nat_le (digits_value 10 text) most ≡ m
        → cond (d && (l && m)) (Some (digits_value 10 text)) None ≡ Some n → (least ≤ n) × (n ≤ most)
    go false l m x y e = absurd (none_is_some n e)
    go true false m x y e = absurd (none_is_some n e)
    go true true false x y e = absurd (none_is_some n e)
    go true true true x y e =
        let is = some_is (digits_value 10 text) n e in (subst (λ k. least ≤ k) is (leb-true least _ x), subst (λ k. k ≤ most) is (leb-true _ most y))

setting_ranges : (numbers : Numbers) (value : Option Text) (n : ℕ) → numbers.least ≤ numbers.standard → numbers.standard ≤ numbers.most → setting numbers value ≡ Some n
    → (numbers.least ≤ n) × (n ≤ numbers.most)
setting_ranges numbers None n low high e =
    let is = some_is numbers.standard n e in (subst (λ k. numbers.least ≤ k) is low, subst (λ k. k ≤ numbers.most) is high)
setting_ranges numbers (Some text) n low high e = number_ranges numbers.least numbers.most n text e

-- and so do the settings that are made of such numbers
settings_range : (p b d : Option ℕ) (traced : Bool) (passes : Option (List ℕ)) (s : Settings) → ((n : ℕ) → p ≡ Some n → (1 ≤ n) × (n ≤ 1024)) → ((n : ℕ) → b ≡ Some n → (0 ≤ n) × (n ≤ 10000000))
    → ((n : ℕ) → d ≡ Some n → (1 ≤ n) × (n ≤ 100)) → settings_by p b d traced passes ≡ Some s → IsInRange s
settings_range None b d traced passes s x y z e = absurd (none_is_some s e)
settings_range (Some n) None d traced passes s x y z e = absurd (none_is_some s e)
settings_range (Some n) (Some t) None traced passes s x y z e = absurd (none_is_some s e)
settings_range (Some n) (Some t) (Some k) traced None s x y z e = absurd (none_is_some s e)
settings_range (Some n) (Some t) (Some k) traced (Some named) s x y z e =
    subst IsInRange (some_is _ s e) ((x n refl).0, (x n refl).1, (y t refl).1, (z k refl).0, (z k refl).1)

request_range : (c : Option Command) (s : Option Settings) (r : Request) → ((x : Settings) → s ≡ Some x → IsInRange x) → request_by c s ≡ Some r → IsInRange r.settings
request_range None s r f e = absurd (none_is_some r e)
request_range (Some c) None r f e = absurd (none_is_some r e)
request_range (Some c) (Some s) r f e = subst (λ (x : Request). IsInRange x.settings) (some_is _ r e) (f s refl)

-- what the matches ask for has such settings
pub rows_range : (stored : List Text) (rows : List Row) (r : Request) → request_in stored rows ≡ Some r → IsInRange r.settings
rows_range stored rows r = request_range (command_in rows) (settings_in stored rows) r
    (λ s. settings_range _ _ _ _ _ s
    (λ n. setting_ranges pages (first_of (codes "pages") rows) n (omega arith) (omega arith))
    (λ n. setting_ranges bound (first_of (codes "bound") rows) n (omega arith) (omega arith))
    (λ n. setting_ranges depth (first_of (codes "depth") rows) n (omega arith) (omega arith)))
