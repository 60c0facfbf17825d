-- Where counts are past what a u64 holds.
use Rattle.std.proofs.Common.{◌≡◌, ℕ, ◌+◌, ◌<◌, ◌≤◌, get_or, List, length, map, sum, take, Result, Ok, Err, OnErr, ap, arith}
use Rattle.std.proofs.lemmas.List.Sums.{sum_by_more_le, sum-map}
use Rattle.krml_forms.specs.declared.form.Form.{Form}
use Rattle.krml_forms.specs.Levels.{form_count}

pub on_err : {T E P : Type 0} (r : Result T E) → P → OnErr r P
on_err (Ok x) p = tt
on_err (Err e) p = p

-- the forms of those so far and of the next one are among all
pub count_part : (fs : List Form) (i : ℕ) (f : Form) → i < length fs → f ≡ get_or fs i f → sum (map form_count (take i fs)) + form_count f ≤ sum (map form_count fs)
count_part fs i f l e = omega (arith, sum_by_more_le form_count fs i f l, ap form_count e, sum-map form_count (take i fs), sum-map form_count fs)
