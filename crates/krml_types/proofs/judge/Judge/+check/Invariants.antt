use Rattle.std.proofs.Common.{◌≡◌, List, map, drop, Option, None}
use Rattle.krml_syntax.specs.declared.tree.Ty.{Ty}
use Rattle.krml_intern.specs.Table.{Grows}
use Rattle.krml_intern.specs.Unlabelled.{IsErased}
use Rattle.krml_types.specs.Judging.{AreParts, IsNumberOf, in_scope}
use Rattle.krml_types.specs.Expressions.{each_has, are_tests, items_from, arms_from, cases_from, type_of, item_of, arm_of, case_of}
use Rattle.krml_types.proofs.judge.Judge.+check.Given as goal

abbrev pub invariant-each_has-loop-j : goal.invariant-each_has-loop-j
invariant-each_has-loop-j l =
    (l.self.place ≡ l.fn.self.place) × Grows l.fn.self.table l.self.table
    × ((types : List Ty) → AreParts l.fn.self.table l.fn.self.place.defs l.kind l.k types
    → each_has (map (type_of l.fn.self.place.defs l.fn.self.place.tvars) (drop l.j l.es)) (drop l.j types) l.fn.self.place.scope
    ≡ each_has (map (type_of l.fn.self.place.defs l.fn.self.place.tvars) l.es) types l.fn.self.place.scope)

abbrev pub invariant-arms-loop-arm : goal.invariant-arms-loop-arm
invariant-arms-loop-arm l =
    (l.self.place ≡ l.fn.self.place) × Grows l.fn.self.table l.self.table
    × ((s : Ty) → IsErased l.fn.self.table l.k s → (r : Option Ty) × IsNumberOf l.self.table l.found r
    × (arms_from (map (arm_of l.fn.self.place.defs l.fn.self.place.tvars) (drop l.arm-index l.arms)) s l.fn.self.place.scope r
    ≡ arms_from (map (arm_of l.fn.self.place.defs l.fn.self.place.tvars) l.arms) s l.fn.self.place.scope None))

abbrev pub invariant-cases-loop-case : goal.invariant-cases-loop-case
invariant-cases-loop-case l =
    (l.self.place ≡ l.fn.self.place) × Grows l.fn.self.table l.self.table
    × ((r : Option Ty) × IsNumberOf l.self.table l.found r
    × (cases_from (map (case_of l.fn.self.place.defs l.fn.self.place.tvars) (drop l.case-index l.cases)) l.fn.self.place.scope r
    ≡ cases_from (map (case_of l.fn.self.place.defs l.fn.self.place.tvars) l.cases) l.fn.self.place.scope None))

abbrev pub invariant-items-loop-item : goal.invariant-items-loop-item
invariant-items-loop-item l =
    (l.self.place ≡ in_scope l.fn.self.place l.self.place.scope) × Grows l.fn.self.table l.self.table
    × (items_from (map (item_of l.fn.self.place.defs l.fn.self.place.tvars) (drop l.item-index l.items)) l.self.place.scope
    ≡ items_from (map (item_of l.fn.self.place.defs l.fn.self.place.tvars) l.items) l.fn.self.place.scope)

abbrev pub invariant-are_tests-loop-test : goal.invariant-are_tests-loop-test
invariant-are_tests-loop-test l =
    (l.self.place ≡ l.fn.self.place) × Grows l.fn.self.table l.self.table
    × (are_tests (map (type_of l.fn.self.place.defs l.fn.self.place.tvars) (drop l.test-index l.tests)) l.fn.self.place.scope
    ≡ are_tests (map (type_of l.fn.self.place.defs l.fn.self.place.tvars) l.tests) l.fn.self.place.scope)
