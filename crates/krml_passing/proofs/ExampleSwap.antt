-- An example: the pass that puts `(add I b a)` in the place of `(add I a b)` where both are variables. It keeps every run.
use Rattle.std.proofs.Common.{◌≡◌, ℕ, ◌+◌, Bool, true, false, List, Option, Some, None, refl, sym, ap, ◌∙◌, arith}
use mathlib.Core.Path.{fun_ext}
use Rattle.krml_trace.specs.declared.width.Width.{Width}
use Rattle.krml_trace.specs.declared.why.Why.TheVariants.{Undefined}
use Rattle.krml_trace.specs.Width.{same_width}
use Rattle.krml_trace.specs.Run.{Goes, bind, ends, with_some, check}
use Rattle.krml_syntax.specs.declared.tree.IntTy.{IntTy}
use Rattle.krml_syntax.specs.declared.tree.BinOp.TheVariants as op
use Rattle.krml_syntax.specs.declared.tree.Expr.{Expr, out-Expr, roll-Expr}
use Rattle.krml_syntax.specs.declared.tree.Expr.TheVariants as e
use Rattle.krml_syntax.specs.declared.tree.Expr.TheViews.{roll-out-Expr}
use Rattle.krml_syntax.specs.declared.tree.Expr.TheOpen.{Expr-F}
use Rattle.krml_syntax.specs.declared.tree.Expr.TheFolds.{fold_out-Expr}
use Rattle.krml_syntax.specs.declared.tree.Def.{Def}
use Rattle.krml_syntax.specs.declared.tree.SourceFile.{SourceFile}
use Rattle.krml_meaning.specs.declared.value.Value.{Value, out-Value}
use Rattle.krml_meaning.specs.declared.value.Value.TheVariants as v
use Rattle.krml_meaning.specs.declared.value.Value.TheOpen.{Value-F}
use Rattle.krml_meaning.specs.State.{SourceState, SourceRan, value_of, number_in, as_number}
use Rattle.krml_meaning.specs.Numbered.{none}
use Rattle.krml_meaning.specs.Meaning as src
use Rattle.krml_meaning.proofs.Evals as old
use Rattle.krml_passing.specs.RunsAs.{RunsAs}
use Rattle.krml_rename.specs.Pass.{Layer, file_with}
use Rattle.krml_passing.proofs.Changing.{changed, runs_rewritten}

-- ---- the pass

-- the name of a variable
abbrev variable : Layer → Option (List ℕ)
variable (Expr-F.Var x) = Some x
variable _ = None

-- an addition, swapped where both operands are variables
abbrev addition : IntTy → Expr → Expr → Option (List ℕ) → Option (List ℕ) → Expr
addition i a b (Some x) (Some y) = e.Bin op.Add i b a
addition i a b _ _ = e.Bin op.Add i a b

abbrev swap : Layer → Expr
swap (Expr-F.Bin op.Add i a b) = addition i a b (variable (out-Expr a)) (variable (out-Expr b))
swap y = roll-Expr y

-- it swaps
swaps : (i : IntTy) (x y : List ℕ) → changed swap (e.Bin op.Add i (e.Var x) (e.Var y)) ≡ e.Bin op.Add i (e.Var y) (e.Var x)
swaps i x y =
    let var : (z : List ℕ) → changed swap (e.Var z) ≡ e.Var z = λ z. rw (fold_out-Expr, e.outs-Var z) (e.rolls-Var z) in
    rw (fold_out-Expr, e.outs-Bin op.Add i (e.Var x) (e.Var y), var x, var y, e.outs-Var x, e.outs-Var y) refl

-- ---- an addition of variables means the same when it is swapped

-- numbers may be asked for in either order
swapped_numbers : (w : Width) (o o' : Value-F Value) (s : SourceState)
    → number_in w o s (λ m. number_in w o' s (λ n. Goes (v.Num w (src.wrap w (m + n))) s))
    ≡ number_in w o' s (λ n. number_in w o s (λ m. Goes (v.Num w (src.wrap w (n + m))) s))
swapped_numbers w (Value-F.Num u m) (Value-F.Num u' n) s = go (same_width w u) (same_width w u')
  where
    go : (b b' : Bool) → check Undefined b s (check Undefined b' s (Goes (v.Num w (src.wrap w (m + n))) s))
        ≡ check Undefined b' s (check Undefined b s (Goes (v.Num w (src.wrap w (n + m))) s))
    go true true = let e : m + n ≡ n + m = omega arith in ap (λ k. Goes (v.Num w (src.wrap w k)) s) e
    go true false = refl
    go false true = refl
    go false false = refl
swapped_numbers w (Value-F.Num u m) _ s = stuck (same_width w u)
  where
    stuck : (b : Bool) → check Undefined b s (ends Undefined s) ≡ ends {A = Value} Undefined s
    stuck true = refl
    stuck false = refl
swapped_numbers w _ (Value-F.Num u n) s = stuck (same_width w u)
  where
    stuck : (b : Bool) → ends {A = Value} Undefined s ≡ check Undefined b s (ends Undefined s)
    stuck true = refl
    stuck false = refl
swapped_numbers w _ _ s = refl

-- values may be looked up in either order
swapped : (i : IntTy) (x y : List ℕ) → src.binary op.Add i (src.var x) (src.var y) ≡ src.binary op.Add i (src.var y) (src.var x)
swapped i x y = fun_ext (λ env. fun_ext (λ s. go s (value_of env.vars x) (value_of env.vars y)))
  where
    sum : Option Value → Option Value → SourceState → SourceRan Value
    sum o o' s = bind (with_some Undefined o s (λ a. Goes a s)) (λ a s. bind (with_some Undefined o' s (λ b. Goes b s)) (λ b s.
        as_number i.width a s (λ m. as_number i.width b s (λ n. Goes (v.Num i.width (src.wrap i.width (m + n))) s))))

    go : (s : SourceState) (o o' : Option Value) → sum o o' s ≡ sum o' o s
    go s (Some a) (Some b) = swapped_numbers i.width (out-Value a) (out-Value b) s
    go s (Some a) None = refl
    go s None (Some b) = refl
    go s None None = refl

-- a variable, by its name
named : (a : Expr) (x : List ℕ) → variable (out-Expr a) ≡ Some x → e.Var x ≡ a
named a x h = sym (e.rolls-Var x) ∙ ap roll-Expr (go (out-Expr a) h) ∙ roll-out-Expr a
  where
    go : (o : Layer) → variable o ≡ Some x → Expr-F.Var x ≡ o
    go (Expr-F.Var y) h = let same : y ≡ x = cc in ap Expr-F.Var (sym same)
    go _ h = absurd cc

module _ (defs : List Def) (calls : src.Calls) where
  sum_means : (i : IntTy) (x y : List ℕ) → old.means defs calls (e.Bin op.Add i (e.Var y) (e.Var x))
      ≡ old.means defs calls (e.Bin op.Add i (e.Var x) (e.Var y))
  sum_means i x y = rw (
    old.bin_is defs calls op.Add i (e.Var y) (e.Var x),
    old.bin_is defs calls op.Add i (e.Var x) (e.Var y),
    old.var_is defs calls x,
    old.var_is defs calls y,
  )
      (ap (λ f. none f) (swapped i y x))

  addition_means : (i : IntTy) (a b : Expr) (o o' : Option (List ℕ)) → variable (out-Expr a) ≡ o → variable (out-Expr b) ≡ o'
      → old.means defs calls (addition i a b o o') ≡ old.means defs calls (e.Bin op.Add i a b)
  addition_means i a b (Some x) (Some y) h h' = rw (sym (named a x h), sym (named b y h')) (sum_means i x y)
  addition_means i a b (Some x) None h h' = refl
  addition_means i a b None o' h h' = refl

  swap_means : (y : Layer) → old.means defs calls (swap y) ≡ old.means defs calls (roll-Expr y)
  swap_means (Expr-F.Bin op.Add i a b) = addition_means i a b _ _ refl refl ∙ ap (old.means defs calls) (sym (e.rolls-Bin op.Add i a b))
  swap_means _ = refl

-- ---- the theorem

pub runs_swapped : (file : SourceFile) → RunsAs (λ x. x) (λ e. e) file (file_with (changed swap) file)
runs_swapped = runs_rewritten swap swap_means
