-- What has a type has it once it is hoisted, in each frame that lists its slots where they are numbered.
use Rattle.std.proofs.Common.{◌≡◌, ℕ, suc, ◌+◌, List, [], ◌∷◌, ◌++◌, map, length, Option, Some, None, slice_get, refl, sym, ap, ◌∙◌, subst, arith}
use Rattle.std.specs.List.{AllByRecursion}
use Rattle.krml_trace.proofs.Blocks.{get_left, get_right}
use Rattle.krml_trace.proofs.Lists.{each_append, each_so}
use Rattle.krml_meaning.proofs.Lists.{each_get, same_some}
use Rattle.krml_syntax.specs.declared.tree.Ty.{Ty}
use Rattle.krml_syntax.specs.declared.tree.Ty.TheVariants as t
use Rattle.krml_syntax.specs.declared.tree.Slot.{Slot}
use Rattle.krml_syntax.specs.declared.tree.Arm.{Arm, roll-Arm}
use Rattle.krml_syntax.specs.declared.tree.Case.{Case, roll-Case}
use Rattle.krml_syntax.specs.declared.tree.Item.{Item}
use Rattle.krml_syntax.specs.declared.tree.Item.TheVariants as item
use Rattle.krml_syntax.specs.declared.tree.Expr.{Expr}
use Rattle.krml_syntax.specs.declared.tree.Expr.TheVariants as e
use Rattle.krml_syntax.specs.declared.tree.Def.{Def}
use Rattle.krml_ast.specs.IsType.{IsFlat, IsType}
use Rattle.krml_ast.specs.Typing.{Vars, Scope, HasType, AllHaveType, ArmsHaveType, ItemsLead, CasesHaveType}
use Rattle.krml_ast.specs.FileTypes.{IsBetween}
use Rattle.krml_meaning.specs.Numbered.{Numbered, none, one, two, three, many, each_from}
use Rattle.krml_passing.specs.Hoisted.{hoisted, item_hoisted, arm_hoisted, case_hoisted, body_hoisted}
use Rattle.krml_passing.proofs.HoistedForms as is
use Rattle.krml_passing.proofs.OtherBodies.{SameNames, type_kept, arguments_kept, result_kept, matches_kept}

-- ---- slots of a frame

-- the slots of the frame around, where there is one
abbrev pub Around : Type 0
Around = Option (List Slot)

-- the frame around has a slot of a number
abbrev pub Has : Around → ℕ → Slot → Type 0
Has o k s = (slots : List Slot) × (o ≡ Some slots) × (slice_get slots k ≡ Some s)

-- it has these slots, numbered from k
abbrev pub Lists : Around → List Slot → ℕ → Type 0
Lists f slots k = (j : ℕ) (s : Slot) → slice_get slots j ≡ Some s → Has f (k + j) s

-- it has each slot that it had
abbrev pub Grows : Around → Around → Type 0
Grows o f = (k : ℕ) (s : Slot) → Has o k s → Has f k s

module _ (f : Around) where
  at_number : (s : Slot) (k j : ℕ) → k ≡ j → Has f k s → Has f j s
  at_number s k j e h = subst (λ i. Has f i s) e h

  lists_left : (m l : List Slot) (k : ℕ) → Lists f (m ++ l) k → Lists f m k
  lists_left m l k h j s e = h j s (get_left m l j s e)

  lists_right : (m l : List Slot) (k : ℕ) → Lists f (m ++ l) k → Lists f l (k + length m)
  lists_right m l k h j s e = at_number s (k + (length m + j)) (k + length m + j) (omega arith) (h (length m + j) s (get_right m l j ∙ e))

  lists_first : (s : Slot) (slots : List Slot) (k : ℕ) → Lists f (s ∷ slots) k → Has f k s
  lists_first s slots k h = at_number s (k + 0) k (omega arith) (h 0 s refl)

  lists_later : (s : Slot) (slots : List Slot) (k : ℕ) → Lists f (s ∷ slots) k → Lists f slots (suc k)
  lists_later s slots k h j z e = at_number z (k + suc j) (suc k + j) (omega arith) (h (suc j) z e)

lists_behind : (m l : List Slot) → Lists (Some (m ++ l)) l (length m)
lists_behind m l j s e = (m ++ l, refl, get_right m l j ∙ e)

grows_longer : (m l : List Slot) → Grows (Some m) (Some (m ++ l))
grows_longer m l k s h = (m ++ l, refl, get_left m l k s (subst (λ z. slice_get z k ≡ Some s) (sym (same_some m h.0 h.1)) h.2))

-- ---- typing

module _ (defs defs' : List Def) (same : SameNames defs defs') (tvars : List (List ℕ)) where
  -- What the rule of `alloc` asks of its slot: a frame is around it, and its elements have a flat type.
  pub record IsAllowed (o : Around) (s : Slot) : Type 0 where
    pub inside : o ≡ None → ⊥
    pub typed : IsType defs tvars s.ty
    pub flat : IsFlat defs s.ty
    pub size : IsBetween 1 65536 s.len

  -- Its slots are allowed, and P holds of it in each frame that has the slots of the frame around it, and its own where they are numbered.
  pub record In (o : Around) {A : Type 0} (P : Around → A → Type 0) (n : Numbered A) : Type 0 where
    pub slots : AllByRecursion (IsAllowed o) n.slots
    pub from : (f : Around) (k : ℕ) → Grows o f → Lists f n.slots k → P f (n.from k)

  module _ {o : Around} where
    none_in : {A : Type 0} {P : Around → A → Type 0} {a : A} → ((f : Around) → P f a) → In o P (none a)
    none_in h = record { slots = tt; from = λ f k grows lists. h f }

    one_in : {A B : Type 0} {P : Around → A → Type 0} {Q : Around → B → Type 0} (g : A → B) {n : Numbered A}
        → In o P n → ((f : Around) (k : ℕ) → Grows o f → P f (n.from k) → Q f (g (n.from k))) → In o Q (one g n)
    one_in g h step = record { slots = h.slots; from = λ f k grows lists. step f k grows (h.from f k grows lists) }

    two_in : {A B C : Type 0} {P : Around → A → Type 0} {Q : Around → B → Type 0} {R : Around → C → Type 0}
        (g : A → B → C) {n : Numbered A} {m : Numbered B} → In o P n → In o Q m
        → ((f : Around) (k j : ℕ) → P f (n.from k) → Q f (m.from j) → R f (g (n.from k) (m.from j))) → In o R (two g n m)
    two_in g {n = n} {m = m} h h' step = record {
      slots = each_append (IsAllowed o) n.slots m.slots h.slots h'.slots;
      from = λ f k grows lists. step f k (k + length n.slots) (h.from f k grows (lists_left f n.slots m.slots k lists))
          (h'.from f (k + length n.slots) grows (lists_right f n.slots m.slots k lists));
    }

    three_in : {A B C D : Type 0} {P : Around → A → Type 0} {Q : Around → B → Type 0}
        {R : Around → C → Type 0} {S : Around → D → Type 0}
        (g : A → B → C → D) {n : Numbered A} {m : Numbered B} {l : Numbered C} → In o P n → In o Q m → In o R l
        → ((f : Around) (k j i : ℕ) → P f (n.from k) → Q f (m.from j) → R f (l.from i) → S f (g (n.from k) (m.from j) (l.from i)))
        → In o S (three g n m l)
    three_in {R = R} {S = S} g {l = l} h h' h'' step =
        two_in {P = λ f q. (i : ℕ) → R f (l.from i) → S f (q (l.from i))} (λ q c. q c)
        (two_in g h h' (λ f k j p q i r. step f k j i p q r)) h'' (λ f k i p r. p i r)

  -- outside of frames, as in a loop, there are no slots
  module _ (slots : List Slot) (h : AllByRecursion (IsAllowed None) slots) where
    any_allowed : (o : Around) → AllByRecursion (IsAllowed o) slots
    any_allowed o = each_so (IsAllowed None) (IsAllowed o) slots (λ s w. absurd (w.inside refl)) h

    none_listed : (k : ℕ) → Lists None slots k
    none_listed k j s e = absurd ((each_get (IsAllowed None) slots j s h e).inside refl)

  looped : {o : Around} {A : Type 0} {P : Around → A → Type 0} {n : Numbered A} → In None P n → In o (λ f a. P None a) n
  looped {o = o} {n = n} h = record {
    slots = any_allowed n.slots h.slots o;
    from = λ f k grows lists. h.from None k (λ j s q. q) (none_listed n.slots h.slots k);
  }

  -- ---- the rows

  -- a scope with the same variables, in another frame
  abbrev pub framed : Around → Scope → Scope
  framed f g = record { vars = g.vars; frame = f }

  abbrev pub Typed : Scope → Ty → Numbered Expr → Type 0
  Typed g r n = In g.frame (λ f y. HasType defs' tvars (framed f g) y r) n

  -- items leave the frame as it is
  same_frame : {g h : Scope} {items : List Item} → ItemsLead defs tvars g items h → h.frame ≡ g.frame
  same_frame ItemsLead.no_items = refl
  same_frame (ItemsLead.bound ok value da ds) = same_frame ds
  same_frame (ItemsLead.ran da ds) = same_frame ds

  as_bools : (tests : List Expr) (k : ℕ) → map (λ (x : Expr). t.Bool) (each_from (map hoisted tests) k) ≡ map (λ (x : Expr). t.Bool) tests
  as_bools [] k = refl
  as_bools (x ∷ tests) k = ap (λ z. t.Bool ∷ z) (as_bools tests (k + length (hoisted x).slots))

  mutual
    pub typed : {g : Scope} {x : Expr} {r : Ty} → HasType defs tvars g x r → Typed g r (hoisted x)
    typed (HasType.var h) = rw is.var_is (none_in (λ f. HasType.var h))
    typed HasType.unit = rw is.unit_is (none_in (λ f. HasType.unit))
    typed HasType.bool = rw is.bool_is (none_in (λ f. HasType.bool))
    typed (HasType.num lt) = rw is.num_is (none_in (λ f. HasType.num lt))
    typed (HasType.bin {op = o} {i = i} da db) = rw is.bin_is (two_in (e.Bin o i) (typed da) (typed db) (λ f k j p q. HasType.bin p q))
    typed (HasType.shift {left = left} {i = i} da dn) = rw is.shift_is
        (two_in (e.Shift left i) (typed da) (typed dn) (λ f k j p q. HasType.shift p q))
    typed (HasType.cmp {op = o} {i = i} da db) = rw is.cmp_is (two_in (e.Cmp o i) (typed da) (typed db) (λ f k j p q. HasType.cmp p q))
    typed (HasType.not da) = rw is.not_is (one_in e.Not (typed da) (λ f k w p. HasType.not p))
    typed (HasType.cast {i = i} {j = j} da) = rw is.cast_is (one_in (e.Cast i j) (typed da) (λ f k w p. HasType.cast p))
    typed (HasType.hide {i = i} da) = rw is.hide_is (one_in (e.Hide i) (typed da) (λ f k w p. HasType.hide p))
    typed (HasType.make {x = y} {args = args} at n oks ds) = rw is.make_is (one_in (e.Make y args) (all_typed ds)
        (λ f k w p. HasType.make (same.types y ∙ at) n (arguments_kept defs defs' same oks) p))
    typed (HasType.get {x = s} {y = y} args da at field) = rw is.get_is
        (one_in (e.Get y) (typed da) (λ f k w p. HasType.get args p (same.types s ∙ at) field))
    typed (HasType.con {x = y} {args = args} at n oks ds) = rw is.con_is (one_in (e.Con y args) (all_typed ds)
        (λ f k w p. HasType.con (same.cons y ∙ at) n (arguments_kept defs defs' same oks) p))
    typed (HasType.read da di) = rw is.read_is (two_in e.Read (typed da) (typed di) (λ f k j p q. HasType.read p q))
    typed (HasType.write da di dv) = rw is.write_is
        (three_in e.Write (typed da) (typed di) (typed dv) (λ f k j l p q s. HasType.write p q s))
    typed (HasType.slice b da di dn) = rw is.slice_is
        (three_in e.Slice (typed da) (typed di) (typed dn) (λ f k j l p q s. HasType.slice b p q s))
    typed (HasType.tab {x = y} at da) = rw is.tab_is (one_in (e.Tab y) (typed da) (λ f k w p. HasType.tab (same.tables y ∙ at) p))
    typed (HasType.choice dc da db) = rw is.choice_is
        (three_in e.If (typed dc) (typed da) (typed db) (λ f k j l p q s. HasType.choice p q s))
    typed (HasType.match da value ds) = rw is.match_is
        (two_in e.Match (typed da) (arms_typed ds) (λ f k j p q. HasType.match p value q))
    typed (HasType.block {h = h} {a = a} {r = r} ds da) = rw is.block_is (two_in e.Do (items_typed ds)
        (subst (λ o. In o (λ f y. HasType defs' tvars (framed f h) y r) (hoisted a)) (same_frame ds) (typed da))
        (λ f k j p q. HasType.block p q))
    typed (HasType.frame {slots = slots} {a = a} da res) = rw is.frame_is (none_in (λ f. HasType.frame
        ((typed da).from (Some (slots ++ (hoisted a).slots)) (length slots)
        (grows_longer slots (hoisted a).slots) (lists_behind slots (hoisted a).slots)) (result_kept defs defs' same res)))
    typed (HasType.alloc {b = b} {n = n} {a = a} within ok flat least most da) = rw is.alloc_is (record {
      slots = (record { inside = λ q. cc; typed = ok; flat = flat; size = (least, most) }, (typed da).slots);
      from = λ f k grows lists.
          let s : Slot = record { ty = b; len = n } in
          let here = lists_first f s (hoisted a).slots k lists in
          HasType.fill here.1 here.2 ((typed da).from f (suc k) grows (lists_later f s (hoisted a).slots k lists));
    })
    typed (HasType.while dc da) = rw is.while_is (two_in e.While (looped (typed dc)) (looped (typed da)) (λ f k j p q. HasType.while p q))
    typed (HasType.for {x = y} da db dc) = rw is.for_is
        (three_in (e.For y) (typed da) (typed db) (looped (typed dc)) (λ f k j l p q s. HasType.for p q s))
    typed (HasType.call {x = y} {args = args} at n oks ds) = rw is.call_is (one_in (e.Call y args) (all_typed ds)
        (λ f k w p. HasType.call (same.funs y ∙ at) n (arguments_kept defs defs' same oks) p))
    typed (HasType.cases ds) = rw is.cases_is (one_in e.Cases (cases_typed ds) (λ f k w p. HasType.cases p))
    typed (HasType.tag_is {x = y} args at da) = rw is.tag_is_is
        (one_in (e.TagIs y) (typed da) (λ f k w p. HasType.tag_is args (same.cons y ∙ at) p))
    typed (HasType.part {x = y} {j = j} args at da there) = rw is.part_is
        (one_in (e.Part y j) (typed da) (λ f k w p. HasType.part args (same.cons y ∙ at) p there))
    typed (HasType.fill {k = k} {slots = slots} {s = s} within there da) = rw is.fill_is
        (one_in (e.Fill k) (typed da) (λ f j grows p. let h = grows k s (slots, within, there) in HasType.fill h.1 h.2 p))

    all_typed : {g : Scope} {es : List Expr} {rs : List Ty} → AllHaveType defs tvars g es rs
        → In g.frame (λ f ys. AllHaveType defs' tvars (framed f g) ys rs) (many (λ es. es) (map hoisted es))
    all_typed AllHaveType.none = none_in (λ f. AllHaveType.none)
    all_typed (AllHaveType.one da ds) = two_in (λ x xs. x ∷ xs) (typed da) (all_typed ds) (λ f k j p q. AllHaveType.one p q)

    arms_typed : {g : Scope} {s : Ty} {xs : List Arm} {r : Ty} → ArmsHaveType defs tvars g s xs r
        → In g.frame (λ f ys. ArmsHaveType defs' tvars (framed f g) s ys r) (many (λ arms. arms) (map arm_hoisted xs))
    arms_typed ArmsHaveType.no_arms = none_in (λ f. ArmsHaveType.no_arms)
    arms_typed (ArmsHaveType.an_arm {q = q} m di da ds) = rw is.arm_is
        (two_in (λ body xs. roll-Arm (record { pat = q; body = body }) ∷ xs) (typed da) (arms_typed ds)
        (λ f k j p w. ArmsHaveType.an_arm (matches_kept defs defs' same m) di p w))

    items_typed : {g : Scope} {items : List Item} {h : Scope} → ItemsLead defs tvars g items h
        → In g.frame (λ f ys. ItemsLead defs' tvars (framed f g) ys (framed f h)) (many (λ items. items) (map item_hoisted items))
    items_typed ItemsLead.no_items = none_in (λ f. ItemsLead.no_items)
    items_typed (ItemsLead.bound {x = y} {b = b} ok value da ds) = rw is.let_is
        (two_in (λ x xs. item.Let y b x ∷ xs) (typed da) (items_typed ds)
        (λ f k j p q. ItemsLead.bound (type_kept defs defs' same ok) value p q))
    items_typed (ItemsLead.ran da ds) = rw is.run_is
        (two_in (λ x xs. item.Run x ∷ xs) (typed da) (items_typed ds) (λ f k j p q. ItemsLead.ran p q))

    cases_typed : {g : Scope} {xs : List Case} {r : Ty} → CasesHaveType defs tvars g xs r
        → In g.frame (λ f ys. CasesHaveType defs' tvars (framed f g) ys r) (many (λ cases. cases) (map case_hoisted xs))
    cases_typed CasesHaveType.no_cases = none_in (λ f. CasesHaveType.no_cases)
    cases_typed (CasesHaveType.a_case {g = g} {tests = tests} dt da ds) = rw is.case_is
        (three_in (λ tests body xs. roll-Case (record { tests = tests; body = body }) ∷ xs) (all_typed dt) (typed da) (cases_typed ds)
        (λ f k j l p q s. CasesHaveType.a_case (subst (AllHaveType defs' tvars (framed f g) _) (sym (as_bools tests k)) p) q s))

  -- outside of frames there are no slots
  pub body_typed : {vars : Vars} {x : Expr} {r : Ty} → HasType defs tvars (record { vars = vars; frame = None }) x r
      → HasType defs' tvars (record { vars = vars; frame = None }) (body_hoisted x) r
  body_typed {x = x} h =
      let n = typed h in
      n.from None 0 (λ k s q. q) (none_listed (hoisted x).slots n.slots 0)
