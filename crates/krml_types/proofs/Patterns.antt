-- The variables that are computed of a pattern are those that it binds, both ways.
use Rattle.std.proofs.Common.{◌≡◌, ℕ, ◌^◌, nat_lt, Bool, ◌&&◌, List, [], ◌∷◌, ◌++◌, map, Some, refl, sym, ap, ◌∙◌, subst, append_assoc}
use Rattle.std.specs.Bool.{Decides}
use Rattle.std.proofs.lemmas.Bool.{and_parts}
use Rattle.krml_trace.specs.Width.{bits}
use Rattle.krml_syntax.specs.declared.tree.IntTy.{IntTy}
use Rattle.krml_syntax.specs.declared.tree.Ty.{Ty}
use Rattle.krml_syntax.specs.declared.tree.Ty.TheVariants as t
use Rattle.krml_syntax.specs.declared.tree.Pat.{Pat, roll-Pat, map-Pat}
use Rattle.krml_syntax.specs.declared.tree.Pat.TheOpen.{Pat-F}
use Rattle.krml_syntax.specs.declared.tree.Pat.TheFolds.{fold_out-Pat, ind-Pat}
use Rattle.krml_syntax.specs.declared.tree.Pat.TheVariants as p
use Rattle.krml_syntax.specs.declared.tree.Def.{Def}
use Rattle.krml_syntax.specs.Types.{int_ty}
use Rattle.krml_ast.specs.Typing.{Vars, Matches, MatchAll, at, fields_at}
use Rattle.krml_syntax.proofs.Only.{Only, only_none, only_some, only_then, only_more}
use Rattle.krml_types.specs.Types.{same_ty}
use Rattle.krml_types.specs.Instances.{make_parts, con_parts}
use Rattle.krml_types.specs.Patterns.{parts_bind, binds}
use Rattle.krml_types.proofs.Instances as is
use Rattle.krml_types.proofs.Parts.{only_demand, same_again, same_is, below, below_again}

module _ (defs : List Def) (same : (a b : Ty) → Decides (same_ty a b) (a ≡ b)) where
  abbrev Bound : Ty → Pat → Vars → Vars → Type 0
  Bound a q vars all = (more : Vars) × (all ≡ more ++ vars) × Matches defs a q more

  abbrev P : Pat → Type 0
  P q = (a : Ty) (vars : Vars) → Only (Bound a q vars) (binds defs q a vars)

  bool_only : (b : Bool) → P (p.Bool b)
  bool_only b a vars = rw (fold_out-Pat, p.outs-Bool) (only_demand (same_ty a t.Bool) (λ h u.
      only_some vars ([], refl, subst (λ z. Matches defs z (p.Bool b) []) (sym (same_is same a t.Bool h)) Matches.bool)))

  num_only : (i : IntTy) (n : ℕ) → P (p.Num i n)
  num_only i n a vars = rw (fold_out-Pat, p.outs-Num) (only_demand (same_ty a (int_ty i) && nat_lt n (2 ^ bits i.width)) (λ h u.
      let both = and_parts (same_ty a (int_ty i)) (nat_lt n (2 ^ bits i.width)) h in
      only_some vars ([], refl, subst (λ z. Matches defs z (p.Num i n) []) (sym (same_is same a (int_ty i) both.0)) (Matches.num (below n (2 ^ bits i.width) both.1)))))

  module _ (X : Type 0) (v : X → Pat) (h : (x : X) → P (v x)) where
    parts_only : (qs : List X) (types : List Ty) (vars : Vars)
        → Only (λ all. (more : Vars) × (all ≡ more ++ vars) × MatchAll defs types (map v qs) more) (parts_bind (map (binds defs) (map v qs)) types vars)
    parts_only [] [] vars = only_some vars ([], refl, MatchAll.none)
    parts_only [] (a ∷ types) vars = only_none
    parts_only (q ∷ qs) [] vars = only_none
    parts_only (q ∷ qs) (a ∷ types) vars = only_then (binds defs (v q) a vars) (h q a vars) (λ all m.
        only_more (parts_only qs types all) (λ rest ms.
        (ms.0 ++ m.0, ms.1 ∙ ap (λ z. ms.0 ++ z) m.1 ∙ sym (append_assoc ms.0 m.0 vars), MatchAll.one m.2 ms.2)))

    con_only : (x : List ℕ) (qs : List X) → P (p.Con x (map v qs))
    con_only x qs a vars = rw (fold_out-Pat, p.outs-Con) (only_then (con_parts defs x a) (is.con_parts_only defs x a) (λ types k.
        only_more (parts_only qs types vars) (λ all ms. (ms.0, ms.1, k (map v qs) ms.0 ms.2))))

    make_only : (x : List ℕ) (qs : List X) → P (p.Make x (map v qs))
    make_only x qs a vars = rw (fold_out-Pat, p.outs-Make) (only_then (make_parts defs x a) (is.make_parts_only defs x a) (λ types k.
        only_more (parts_only qs types vars) (λ all ms. (ms.0, ms.1, k (map v qs) ms.0 ms.2))))

    step : (y : Pat-F X) → P (roll-Pat (map-Pat X Pat v y))
    step Pat-F.Any a vars = rw p.rolls-Any (rw (fold_out-Pat, p.outs-Any) (only_some vars ([], refl, Matches.any)))
    step (Pat-F.Bind x) a vars = rw (p.rolls-Bind x) (rw (fold_out-Pat, p.outs-Bind) (only_some ((x, a) ∷ vars) ((x, a) ∷ [], refl, Matches.bind)))
    step (Pat-F.Bool b) a vars = rw (p.rolls-Bool b) (bool_only b a vars)
    step (Pat-F.Num i n) a vars = rw (p.rolls-Num i n) (num_only i n a vars)
    step (Pat-F.Con x qs) a vars = rw (p.rolls-Con x (map v qs)) (con_only x qs a vars)
    step (Pat-F.Make x qs) a vars = rw (p.rolls-Make x (map v qs)) (make_only x qs a vars)

  -- what is computed is bound
  pub binds_only : (q : Pat) (a : Ty) (vars : Vars) → Only (Bound a q vars) (binds defs q a vars)
  binds_only = ind-Pat P (λ x y eq. subst (λ z. P (roll-Pat z)) eq (step _ (λ w. w.0) (λ w. w.1) y))

  -- and what is bound is computed
  mutual
    pub binds_again : (a : Ty) (q : Pat) (more : Vars) → Matches defs a q more → (vars : Vars) → binds defs q a vars ≡ Some (more ++ vars)
    binds_again a q more Matches.any vars = rw (fold_out-Pat, p.outs-Any) refl
    binds_again a q more Matches.bind vars = rw (fold_out-Pat, p.outs-Bind) refl
    binds_again a q more Matches.bool vars = rw (fold_out-Pat, p.outs-Bool, same_again same t.Bool) refl
    binds_again a q more (Matches.num {i = i} {n = n} l) vars = rw (fold_out-Pat, p.outs-Num, same_again same (int_ty i), below_again n (2 ^ bits i.width) l) refl
    binds_again a q more (Matches.con {x = x} {c = c} args {ps = ps} c_is ms) vars =
        rw (fold_out-Pat, p.outs-Con, is.con_parts_again defs x c args c_is) (parts_again (map (at c.vars args) c.args) ps more ms vars)
    binds_again a q more (Matches.make {x = x} {tvars = tvars} {fields = fields} args {ps = ps} x_is ms) vars =
        rw (fold_out-Pat, p.outs-Make, is.make_parts_again defs x tvars fields args x_is) (parts_again (fields_at tvars args fields) ps more ms vars)

    parts_again : (types : List Ty) (qs : List Pat) (more : Vars) → MatchAll defs types qs more → (vars : Vars)
        → parts_bind (map (binds defs) qs) types vars ≡ Some (more ++ vars)
    parts_again types qs more MatchAll.none vars = refl
    parts_again types qs more (MatchAll.one {a = a} {types = rest} {q = q} {ps = ps} {vars = one} {more = later} m ms) vars =
        rw (binds_again a q one m vars) (parts_again rest ps later ms (one ++ vars) ∙ ap Some (sym (append_assoc later one vars)))
