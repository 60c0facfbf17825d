-- The variables of C during a run of a translation: which later code keeps, and what is found where others came before them,
-- were set, or went. Code that begins with the number n declares and sets variables whose names have numbers from n on.
use Rattle.std.proofs.Common.{◌≡◌, ℕ, ◌-◌, ◌<◌, ◌≤◌, Bool, true, false, if◌then◌else◌, List, [], ◌∷◌, ◌++◌, Some, map, filter, length, take, drop, option_and_then, refl, sym, ap, ◌∙◌, subst, arith}
use Rattle.std.proofs.Math.Seq.{drop-append_seam, take-append_seam}
use Rattle.std.proofs.lemmas.List.{append_assoc, map-append, drop-map, take-map, take-append-drop, length-map, length-append}
use Rattle.std.proofs.lemmas.List.Elements.{filter-append}
use Rattle.std.specs.List.{AllByRecursion}
use Rattle.std.specs.Str.{bytes_eq}
use Rattle.krml_ctree.specs.declared.value.CValue.{CValue}
use Rattle.krml_ctree.specs.Parts.{Local, Locals, local_of, the_only, set, set_in, close}
use Rattle.krml_ctree.specs.Meaning.{var}
use Rattle.krml_meaning.proofs.Types.{name_same}
use Rattle.krml_cstar.proofs.VariableNames.{number_of, name_is, name_other}

abbrev pub name_of : Local → List ℕ
name_of l = l.name

-- the variables of a name
abbrev pub is_named : List ℕ → Local → Bool
is_named x l = bytes_eq l.name x

abbrev pub all_named : List ℕ → Locals → Locals
all_named x ls = filter (is_named x) ls

-- names with numbers from n on, and variables with numbers below n
abbrev pub From : ℕ → List (List ℕ) → Type 0
From n xs = AllByRecursion (λ x. n ≤ number_of x) xs

abbrev pub Below : ℕ → Locals → Type 0
Below n ls = AllByRecursion (λ x. number_of x < n) (map name_of ls)

-- Later variables are new ones with numbers from n on, over those from before: the same names, and below n the same
-- variables.
pub record Keeps (n : ℕ) (before now : Locals) : Type 0 where
  pub new : Locals
  pub old : Locals
  pub is : now ≡ new ++ old
  pub names : map name_of old ≡ map name_of before
  pub above : From n (map name_of new)
  pub same : (x : List ℕ) → number_of x < n → all_named x old ≡ all_named x before

-- ---- what a set changes

names-set : (x : List ℕ) (v : CValue) (ls : Locals) → map name_of (set x v ls) ≡ map name_of ls
names-set x v [] = refl
names-set x v (l ∷ ls) = at (is_named x l) (names-set x v ls)
  where
    at : (b : Bool) → map name_of (set x v ls) ≡ map name_of ls → name_of (if b then record l { value = Some v } else l) ∷ map name_of (set x v ls) ≡ name_of l ∷ map name_of ls
    at true h = ap (λ xs. name_of l ∷ xs) h
    at false h = ap (λ xs. name_of l ∷ xs) h

-- a variable of another name stays as it is
set-other : (x y : List ℕ) (v : CValue) (ls : Locals) → (x ≡ y → ⊥) → all_named y (set x v ls) ≡ all_named y ls
set-other x y v [] h = refl
set-other x y v (l ∷ ls) h = at (is_named x l) refl (set-other x y v ls h)
  where
    at : (b : Bool) → is_named x l ≡ b → all_named y (set x v ls) ≡ all_named y ls
        → all_named y ((if b then record l { value = Some v } else l) ∷ set x v ls) ≡ all_named y (l ∷ ls)
    at true e rest = let other : bytes_eq l.name y ≡ false = name_other l.name y (λ q. h (sym (name_is l.name x e) ∙ q)) in rw (other, rest)
    at false e rest = rw rest

abbrev with_value : CValue → Local → Local
with_value v l = record l { value = Some v }

-- those of the name have the value
set-all : (x : List ℕ) (v : CValue) (ls : Locals) → all_named x (set x v ls) ≡ map (with_value v) (all_named x ls)
set-all x v [] = refl
set-all x v (l ∷ ls) = at (is_named x l) refl (set-all x v ls)
  where
    at : (b : Bool) → is_named x l ≡ b → all_named x (set x v ls) ≡ map (with_value v) (all_named x ls)
        → all_named x ((if b then with_value v l else l) ∷ set x v ls) ≡ map (with_value v) (if b then l ∷ all_named x ls else all_named x ls)
    at true e rest = rw (e, rest)
    at false e rest = rw (e, rest)

pub set-same : (x : List ℕ) (v : CValue) (ls : Locals) (l : Local) → all_named x ls ≡ l ∷ [] → all_named x (set x v ls) ≡ record l { value = Some v } ∷ []
set-same x v ls l e = set-all x v ls ∙ ap (map (with_value v)) e

-- where a scope ends, the variables from before are left
close-append : (before new old : Locals) → length old ≡ length before → close before (new ++ old) ≡ old
close-append before new old e =
    let n : length (new ++ old) - length before ≡ length new = omega (arith, length-append new old, e) in
    rw n (drop-append_seam new old)

-- ---- numbers

differ : (x y : List ℕ) (n : ℕ) → n ≤ number_of x → number_of y < n → bytes_eq x y ≡ false
differ x y n h k = name_other x y (λ e. let q : number_of x ≡ number_of y = ap number_of e in absurd (omega (arith, h, k, q)))

-- no variable from n on has a number below n
none_from : (n : ℕ) (x : List ℕ) (ls : Locals) → From n (map name_of ls) → number_of x < n → all_named x ls ≡ []
none_from n x [] h lt = refl
none_from n x (l ∷ ls) h lt = let e = differ l.name x n h.0 lt in let ih = none_from n x ls h.1 lt in rw (e, ih)

-- no variable below n has a number from n on
none_below : (n : ℕ) (x : List ℕ) (ls : Locals) → Below n ls → n ≤ number_of x → all_named x ls ≡ []
none_below n x [] h le = refl
none_below n x (l ∷ ls) h le =
    let e : bytes_eq l.name x ≡ false = name_other l.name x (λ q. let p : number_of l.name ≡ number_of x = ap number_of q in let lt = h.0 in absurd (omega (arith, lt, le, p))) in
    let ih = none_below n x ls h.1 le in rw (e, ih)

pub below_more : (n m : ℕ) (ls : Locals) → n ≤ m → Below n ls → Below m ls
below_more n m [] le h = tt
below_more n m (l ∷ ls) le h = let lt = h.0 in (omega (arith, lt, le), below_more n m ls le h.1)

from_less : (n m : ℕ) (xs : List (List ℕ)) → n ≤ m → From m xs → From n xs
from_less n m [] le h = tt
from_less n m (x ∷ xs) le h = let ge = h.0 in (omega (arith, ge, le), from_less n m xs le h.1)

from_append : (n : ℕ) (xs ys : List (List ℕ)) → From n xs → From n ys → From n (xs ++ ys)
from_append n [] ys h k = k
from_append n (x ∷ xs) ys h k = (h.0, from_append n xs ys h.1 k)

-- ---- what is kept

-- is found as before
pub keeps_named : (n : ℕ) (a b : Locals) → Keeps n a b → (x : List ℕ) → number_of x < n → all_named x b ≡ all_named x a
keeps_named n a b p x lt = ap (all_named x) p.is ∙ filter-append (is_named x) p.new p.old ∙ ap (λ xs. xs ++ all_named x p.old) (none_from n x p.new p.above lt) ∙ p.same x lt

pub keeps_local : (n : ℕ) (a b : Locals) → Keeps n a b → (x : List ℕ) → number_of x < n → local_of b x ≡ local_of a x
keeps_local n a b p x lt = ap the_only (keeps_named n a b p x lt)

-- and has the value of before
pub keeps_value : (n : ℕ) (a b : Locals) (x : List ℕ) (v : CValue) → Keeps n a b → number_of x < n → var x [] a ≡ Some v → var x [] b ≡ Some v
keeps_value n a b x v p lt e = ap (option_and_then (λ (l : Local). l.value)) (keeps_local n a b p x lt) ∙ e

pub keeps_all : (n : ℕ) (a : Locals) → Keeps n a a
keeps_all n a = record { new = []; old = a; is = refl; names = refl; above = tt; same = λ x lt. refl }

pub keeps_less : (n m : ℕ) (a b : Locals) → n ≤ m → Keeps m a b → Keeps n a b
keeps_less n m a b le p = record { new = p.new; old = p.old; is = p.is; names = p.names; above = from_less n m (map name_of p.new) le p.above; same = λ x lt. p.same x (omega (arith, lt, le)) }

-- one thing after another
pub keeps_then : (n m : ℕ) (a b c : Locals) → n ≤ m → Keeps n a b → Keeps m b c → Keeps n a c
keeps_then n m a b c le p q =
    let j : ℕ = length p.new in
    let front : Locals = take j q.old in
    let back : Locals = drop j q.old in
    let whole : front ++ back ≡ q.old = take-append-drop j q.old in
    let names_b : map name_of b ≡ map name_of p.new ++ map name_of p.old = ap (map name_of) p.is ∙ map-append name_of p.new p.old in
    let size : length (map name_of p.new) ≡ j = length-map p.new name_of in
    let names_front : map name_of front ≡ map name_of p.new =
    sym (take-map name_of j q.old) ∙ ap (take j) (q.names ∙ names_b) ∙ ap (λ i. take i (map name_of p.new ++ map name_of p.old)) (sym size) ∙ take-append_seam (map name_of p.new) (map name_of p.old) in
    let names_back : map name_of back ≡ map name_of p.old =
    sym (drop-map name_of j q.old) ∙ ap (drop j) (q.names ∙ names_b) ∙ ap (λ i. drop i (map name_of p.new ++ map name_of p.old)) (sym size) ∙ drop-append_seam (map name_of p.new) (map name_of p.old) in
    let above_front : From n (map name_of front) = subst (From n) (sym names_front) p.above in
    record {
      new = q.new ++ front;
      old = back;
      is = q.is ∙ ap (λ xs. q.new ++ xs) (sym whole) ∙ sym (append_assoc q.new front back);
      names = names_back ∙ p.names;
      above = subst (From n) (sym (map-append name_of q.new front)) (from_append n (map name_of q.new) (map name_of front) (from_less n m (map name_of q.new) le q.above) above_front);
      same = λ x lt.
          ap (λ xs. xs ++ all_named x back) (sym (none_from n x front above_front lt)) ∙ sym (filter-append (is_named x) front back) ∙ ap (all_named x) whole
          ∙ q.same x (omega (arith, lt, le)) ∙ keeps_named n a b p x lt;
    }

-- a new variable from n on
pub keeps_new : (n : ℕ) (l : Local) (a : Locals) → n ≤ number_of l.name → Keeps n a (l ∷ a)
keeps_new n l a le = record { new = l ∷ []; old = a; is = refl; names = refl; above = (le, tt); same = λ x lt. refl }

-- ---- the scope ends

closed : (n : ℕ) (a b : Locals) (p : Keeps n a b) → close a b ≡ p.old
closed n a b p =
    let size : length p.old ≡ length a = sym (length-map p.old name_of) ∙ ap length p.names ∙ length-map a name_of in
    ap (close a) p.is ∙ close-append a p.new p.old size

pub keeps_close : (n : ℕ) (a b : Locals) → Keeps n a b → Keeps n a (close a b)
keeps_close n a b p = record { new = []; old = close a b; is = refl; names = ap (map name_of) (closed n a b p) ∙ p.names; above = tt; same = λ x lt. ap (all_named x) (closed n a b p) ∙ p.same x lt }

-- and then the names are those from before
pub below_close : (n m : ℕ) (a b : Locals) → Keeps n a b → Below m a → Below m (close a b)
below_close n m a b p h = subst (AllByRecursion (λ x. number_of x < m)) (sym (ap (map name_of) (closed n a b p) ∙ p.names)) h

-- ---- a new variable

-- is the only one of its name
pub new_named : (n : ℕ) (l : Local) (a : Locals) → Below n a → n ≤ number_of l.name → all_named l.name (l ∷ a) ≡ l ∷ []
new_named n l a h le = let e = name_same l.name in let r = none_below n l.name a h le in rw (e, r)

-- the value of the only variable of a name
pub only_value : (y : List ℕ) (ls : Locals) (l : Local) (v : CValue) → all_named y ls ≡ l ∷ [] → l.value ≡ Some v → var y [] ls ≡ Some v
only_value y ls l v e h = ap (λ (found : Locals). option_and_then (λ (l : Local). l.value) (the_only found)) e ∙ h

-- ---- at the end of a branch that set a variable from before

branch_closed : (j : ℕ) (a b : Locals) (p : Keeps j a b) (y : List ℕ) (v : CValue) → close a (set y v b) ≡ set y v p.old
branch_closed j a b p y v =
    let size : length (set y v p.old) ≡ length a = sym (length-map (set y v p.old) name_of) ∙ ap length (names-set y v p.old ∙ p.names) ∙ length-map a name_of in
    ap (λ ls. close a (set y v ls)) p.is ∙ ap (close a) (map-append (set_in y v) p.new p.old) ∙ close-append a (set y v p.new) (set y v p.old) size

-- what is below the variable is kept
pub branch_keeps : (n j : ℕ) (a b : Locals) (y : List ℕ) (v : CValue) → Keeps j a b → n ≤ number_of y → number_of y < j → Keeps n a (close a (set y v b))
branch_keeps n j a b y v p le lt =
    let e = branch_closed j a b p y v in
    record {
      new = [];
      old = close a (set y v b);
      is = refl;
      names = ap (map name_of) e ∙ names-set y v p.old ∙ p.names;
      above = tt;
      same = λ x h. ap (all_named x) e ∙ set-other y x v p.old (λ q. let k : number_of y ≡ number_of x = ap number_of q in absurd (omega (arith, le, h, k))) ∙ p.same x (omega (arith, h, le, lt));
    }

-- no name is new
pub branch_below : (m j : ℕ) (a b : Locals) (y : List ℕ) (v : CValue) → Keeps j a b → Below m a → Below m (close a (set y v b))
branch_below m j a b y v p h = subst (AllByRecursion (λ x. number_of x < m)) (sym (ap (map name_of) (branch_closed j a b p y v) ∙ names-set y v p.old ∙ p.names)) h

-- the variable has the value, and the others are those from before
pub branch_named : (j : ℕ) (a b : Locals) (y : List ℕ) (v : CValue) (l : Local) → Keeps j a b → number_of y < j → all_named y a ≡ l ∷ [] → all_named y (close a (set y v b)) ≡ record l { value = Some v } ∷ []
branch_named j a b y v l p lt e = ap (all_named y) (branch_closed j a b p y v) ∙ set-same y v p.old l (p.same y lt ∙ e)

pub branch_other : (j : ℕ) (a b : Locals) (y x : List ℕ) (v : CValue) → Keeps j a b → number_of x < j → (y ≡ x → ⊥) → all_named x (close a (set y v b)) ≡ all_named x a
branch_other j a b y x v p lt other = ap (all_named x) (branch_closed j a b p y v) ∙ set-other y x v p.old other ∙ p.same x lt

-- a scope around that is closed too changes nothing
pub branch_again : (j : ℕ) (a b : Locals) (p : Keeps j a b) (y : List ℕ) (v : CValue) → close a (close a (set y v b)) ≡ close a (set y v b)
branch_again j a b p y v =
    let size : length (set y v p.old) ≡ length a = sym (length-map (set y v p.old) name_of) ∙ ap length (names-set y v p.old ∙ p.names) ∙ length-map a name_of in
    ap (close a) (branch_closed j a b p y v) ∙ close-append a [] (set y v p.old) size ∙ sym (branch_closed j a b p y v)
