use Rattle.std.proofs.Common.{◌≡◌, ℕ, List, ◌++◌, Some, None, sym, ap, ◌∙◌}
use Rattle.std.specs.List.{flat_map}
use Rattle.krml_forms.specs.declared.form.Form.{Form}
use Rattle.krml_forms.specs.declared.form.Form.TheVariants.{List as Node}
use Rattle.krml_syntax.specs.Limits.{first_above, own_length, alloc_lengths}
use Rattle.krml_syntax.proofs.Limits.{elements_of_atom, elements_of_list}
use Rattle.krml_limits.proofs.Above.{above_here, above_after, loop_finds, loop_goes}
use Rattle.krml_limits.proofs.elements.+elements.Goals as goal

pub long_alloc-returns-in-Atom : goal.long_alloc-returns-in-Atom
long_alloc-returns-in-Atom t c =
    sym (ap (λ f. first_above c.args.limit (alloc_lengths f)) c.in-Atom.is ∙ ap (first_above c.args.limit) (elements_of_atom c.in-Atom.field-0))

-- the form is a list
list_counts : (limit : ℕ) (f : Form) (fs gs : List Form) → f ≡ Node fs → gs ≡ fs → first_above limit (alloc_lengths f) ≡ first_above limit (own_length gs ++ flat_map alloc_lengths gs)
list_counts limit f fs gs is same = rw (is, same) (ap (first_above limit) (elements_of_list fs))

list_finds : (limit : ℕ) (f : Form) (fs gs : List Form) (n : ℕ) → f ≡ Node fs → gs ≡ fs → Some n ≡ first_above limit (own_length gs) → Some n ≡ first_above limit (alloc_lengths f)
list_finds limit f fs gs n is same found =
    sym (list_counts limit f fs gs is same ∙ above_here limit (own_length gs) (flat_map alloc_lengths gs) n (sym found))

list_goes : (limit : ℕ) (f : Form) (fs gs : List Form) → f ≡ Node fs → gs ≡ fs → None ≡ first_above limit (own_length gs) → first_above limit (flat_map alloc_lengths gs) ≡ first_above limit (alloc_lengths f)
list_goes limit f fs gs is same none =
    sym (list_counts limit f fs gs is same ∙ above_after limit (own_length gs) (flat_map alloc_lengths gs) (sym none))

pub long_alloc-returns-in-Some : goal.long_alloc-returns-in-Some
long_alloc-returns-in-Some t c =
    list_finds c.args.limit c.args.form.now c.in-List.forms c.as_slice-forms.result.now c.in-Some.length c.in-List.is c.as_slice-forms.ensures c.in-Some.ensures

pub long_alloc-returns-in-None : goal.long_alloc-returns-in-None
long_alloc-returns-in-None t c =
    c.long_alloc_of.ensures ∙ list_goes c.args.limit c.args.form.now c.in-List.forms c.as_slice-forms.result.now c.in-List.is c.as_slice-forms.ensures c.in-None.ensures

pub long_alloc_of-returns-in-Some : goal.long_alloc_of-returns-in-Some
long_alloc_of-returns-in-Some t c =
    loop_finds alloc_lengths c.args.limit c.args.forms.now c.loop-form.form-index c.form-item.result c.in-Some.length c.loop-form-test.true c.form-item.is c.loop-form.invariant c.in-Some.ensures

pub long_alloc_of-loop-form-preserved : goal.long_alloc_of-loop-form-preserved
long_alloc_of-loop-form-preserved t c =
    loop_goes alloc_lengths c.args.limit c.args.forms.now c.loop-form.form-index c.form-item.result c.loop-form-test.true c.form-item.is c.loop-form.invariant c.in_default.ensures
