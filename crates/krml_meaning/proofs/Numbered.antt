-- Expressions whose `alloc` forms are numbered: a form is sound from wherever its parts are.
use Rattle.std.proofs.Common.{◌≡◌, ℕ, suc, ◌+◌, List, [], ◌∷◌, ◌++◌, Some, slice_get, map, length, flat_map, refl, sym, ap, ◌∙◌, subst, arith, append_assoc}
use Rattle.std.specs.List.{AllByRecursion}
use Rattle.krml_trace.specs.declared.width.Width.TheVariants.{W32}
use Rattle.krml_syntax.specs.declared.tree.Ty.{Ty}
use Rattle.krml_syntax.specs.declared.tree.Ty.TheVariants as t
use Rattle.krml_syntax.specs.declared.tree.Slot.{Slot}
use Rattle.krml_syntax.specs.declared.tree.Pat.{Pat}
use Rattle.krml_syntax.specs.declared.tree.Def.{Def}
use Rattle.krml_syntax.specs.Types.{erased, u32, type_at}
use Rattle.krml_ast.specs.IsType.{IsFlat, HoldsBuffer}
use Rattle.krml_ast.specs.Typing.{Vars, Scope, in_loop, in_frame, Matches}
use Rattle.krml_ast.specs.Typing as typing
use Rattle.krml_meaning.specs.declared.value.Value.TheVariants as v
use Rattle.krml_meaning.specs.State.{Block, Env, Sem, with_vars, closed_slot}
use Rattle.krml_meaning.specs.Numbered.{Numbered, none, one, two, three, many, each_from}
use Rattle.krml_meaning.specs.Meaning as src
use Rattle.krml_meaning.specs.Shape.{HasShape, Extends}
use Rattle.krml_meaning.proofs.Lists.{each_append}
use Rattle.krml_meaning.proofs.Facts.{Facts}
use Rattle.krml_meaning.proofs.Closing.{close, flat_closed}
use Rattle.krml_meaning.proofs.Scopes.{Instance, Ready, ready_on, ready_with, ready_left, ready_right, ready_next, ready_first, ready_listed, ready_loop, ready_inside}
use Rattle.krml_meaning.proofs.Forms.{Sound, SoundAll, sound_under, sound_all_under, no_values_sound, more_values_sound}
use Rattle.krml_meaning.proofs.Branches.{SoundSteps, SoundBranches, no_steps_sound, bound_sound, ran_sound, no_branches_sound, more_branches_sound, block_sound, match_sound, no_cases_sound, more_cases_sound, AreBools}
use Rattle.krml_meaning.proofs.Buffers.{for_sound, frame_sound, fill_sound}
use Rattle.krml_meaning.proofs.Taken.{taken_typed}

module _ (defs : List Def) (at_args : Instance defs) where
  abbrev pub At : Scope → ℕ → List Slot → List Block → Env → Type 0
  At g k slots m env = Ready defs at_args g k slots m env

  abbrev pub AreFlat : List Slot → Type 0
  AreFlat slots = AllByRecursion (λ (s : Slot). IsFlat defs s.ty) slots

  -- an expression in a scope, wherever its slots are numbered from
  pub record SoundOf (g : Scope) (a : Ty) (n : Numbered Sem) : Type 0 where
    pub flat : AreFlat n.slots
    pub from : (k : ℕ) → Sound defs (At g k n.slots) a (n.from k)

  pub record SoundAllOf (g : Scope) (types : List Ty) (ns : List (Numbered Sem)) : Type 0 where
    pub flat : AreFlat (flat_map (λ n. n.slots) ns)
    pub from : (k : ℕ) → SoundAll defs (At g k (flat_map (λ n. n.slots) ns)) types (each_from ns k)

  -- the form keeps soundness where what is ready stays so
  abbrev pub on_ready : (g : Scope) (k : ℕ) (slots : List Slot) (m now : List Block) (env : Env) → Extends m now → At g k slots m env → At g k slots now env
  on_ready g k slots m now env p r = ready_on defs at_args g k slots m now env p r

  -- ---- no part, one, two, three

  pub none_of : (g : Scope) (a : Ty) (ev : Sem) → ((k : ℕ) → Sound defs (At g k []) a ev) → SoundOf g a (none ev)
  none_of g a ev h = record { flat = tt; from = h }

  pub one_of : (g : Scope) (a b : Ty) (n : Numbered Sem) (f : Sem → Sem) → SoundOf g a n
      → ((k : ℕ) (ev : Sem) → Sound defs (At g k n.slots) a ev → Sound defs (At g k n.slots) b (f ev)) → SoundOf g b (one f n)
  one_of g a b n f h step = record { flat = h.flat; from = λ k. step k (n.from k) (h.from k) }

  left_of : (g : Scope) (a : Ty) (n : Numbered Sem) (more : List Slot) → SoundOf g a n → (k : ℕ) → Sound defs (At g k (n.slots ++ more)) a (n.from k)
  left_of g a n more h k = sound_under defs (At g k n.slots) (At g k (n.slots ++ more)) a (n.from k) (ready_left defs at_args g k n.slots more) (h.from k)

  right_of : (g : Scope) (a : Ty) (before : List Slot) (n : Numbered Sem) → SoundOf g a n → (k : ℕ)
      → Sound defs (At g k (before ++ n.slots)) a (n.from (k + length before))
  right_of g a before n h k =
      sound_under defs (At g (k + length before) n.slots) (At g k (before ++ n.slots)) a (n.from (k + length before)) (ready_right defs at_args g k before n.slots) (h.from (k + length before))

  pub two_of : (g : Scope) (a b c : Ty) (n o : Numbered Sem) (f : Sem → Sem → Sem) → SoundOf g a n → SoundOf g b o
      → ((k : ℕ) (ev ev' : Sem) → Sound defs (At g k (n.slots ++ o.slots)) a ev → Sound defs (At g k (n.slots ++ o.slots)) b ev'
      → Sound defs (At g k (n.slots ++ o.slots)) c (f ev ev'))
      → SoundOf g c (two f n o)
  two_of g a b c n o f hn ho step = record {
    flat = each_append (λ (s : Slot). IsFlat defs s.ty) n.slots o.slots hn.flat ho.flat;
    from = λ k. step k (n.from k) (o.from (k + length n.slots)) (left_of g a n o.slots hn k) (right_of g b n.slots o ho k);
  }

  pub three_of : (g : Scope) (a b c r : Ty) (n o p : Numbered Sem) (f : Sem → Sem → Sem → Sem) → SoundOf g a n → SoundOf g b o → SoundOf g c p
      → ((k : ℕ) (ev ev' ev'' : Sem) → Sound defs (At g k ((n.slots ++ o.slots) ++ p.slots)) a ev → Sound defs (At g k ((n.slots ++ o.slots) ++ p.slots)) b ev'
      → Sound defs (At g k ((n.slots ++ o.slots) ++ p.slots)) c ev'' → Sound defs (At g k ((n.slots ++ o.slots) ++ p.slots)) r (f ev ev' ev''))
      → SoundOf g r (three f n o p)
  three_of g a b c r n o p f hn ho hp step = record {
    flat = each_append (λ (s : Slot). IsFlat defs s.ty) (n.slots ++ o.slots) p.slots (each_append (λ (s : Slot). IsFlat defs s.ty) n.slots o.slots hn.flat ho.flat) hp.flat;
    from = λ k. step k (n.from k) (o.from (k + length n.slots)) (p.from (k + length (n.slots ++ o.slots)))
        (first g k (n.slots ++ o.slots) a (n.from k) p.slots (left_of g a n o.slots hn k))
        (first g k (n.slots ++ o.slots) b (o.from (k + length n.slots)) p.slots (right_of g b n.slots o ho k))
        (right_of g c (n.slots ++ o.slots) p hp k);
  }
    where
      first : (g : Scope) (k : ℕ) (slots : List Slot) (a : Ty) (ev : Sem) (more : List Slot) → Sound defs (At g k slots) a ev → Sound defs (At g k (slots ++ more)) a ev
      first g k slots a ev more h = sound_under defs (At g k slots) (At g k (slots ++ more)) a ev (ready_left defs at_args g k slots more) h

  -- ---- lists of parts

  pub no_values_of : (g : Scope) → SoundAllOf g [] []
  no_values_of g = record { flat = tt; from = λ k. no_values_sound defs (At g k []) (on_ready g k []) }

  pub more_values_of : (g : Scope) (a : Ty) (types : List Ty) (n : Numbered Sem) (ns : List (Numbered Sem)) → SoundOf g a n → SoundAllOf g types ns → SoundAllOf g (a ∷ types) (n ∷ ns)
  more_values_of g a types n ns h hs =
      let rest : List Slot = flat_map (λ (o : Numbered Sem). o.slots) ns in
      record {
        flat = each_append (λ (s : Slot). IsFlat defs s.ty) n.slots rest h.flat hs.flat;
        from = λ k. more_values_sound defs (At g k (n.slots ++ rest)) (on_ready g k (n.slots ++ rest)) a types (n.from k) (each_from ns (k + length n.slots)) (left_of g a n rest h k)
            (sound_all_under defs (At g (k + length n.slots) rest) (At g k (n.slots ++ rest)) types (each_from ns (k + length n.slots)) (ready_right defs at_args g k n.slots rest)
            (hs.from (k + length n.slots)));
      }

  pub many_of : (g : Scope) (types : List Ty) (a : Ty) (ns : List (Numbered Sem)) (f : List Sem → Sem) → SoundAllOf g types ns
      → ((k : ℕ) (evs : List Sem) → SoundAll defs (At g k (flat_map (λ n. n.slots) ns)) types evs → Sound defs (At g k (flat_map (λ n. n.slots) ns)) a (f evs))
      → SoundOf g a (many f ns)
  many_of g types a ns f hs step = record { flat = hs.flat; from = λ k. step k (each_from ns k) (hs.from k) }

  -- ---- loops

  pub loop_of : (g : Scope) (a : Ty) (n : Numbered Sem) → SoundOf (in_loop g) a n → SoundOf g a n
  loop_of g a n h = record {
    flat = h.flat;
    from = λ k. sound_under defs (At (in_loop g) k n.slots) (At g k n.slots) a (n.from k) (ready_loop defs at_args g k n.slots) (h.from k);
  }

  pub for_of : (facts : Facts defs) (g : Scope) (x : List ℕ) (n o p : Numbered Sem) → close defs at_args u32 ≡ u32 → SoundOf g u32 n → SoundOf g u32 o
      → SoundOf (typing.with_vars ((x, u32) ∷ []) (in_loop g)) t.Unit p → SoundOf g t.Unit (three (src.for x) n o p)
  for_of facts g x n o p same hn ho hp =
      let inner : Scope = typing.with_vars ((x, u32) ∷ []) (in_loop g) in
      let before : List Slot = n.slots ++ o.slots in
      record {
        flat = each_append (λ (s : Slot). IsFlat defs s.ty) before p.slots (each_append (λ (s : Slot). IsFlat defs s.ty) n.slots o.slots hn.flat ho.flat) hp.flat;
        from = λ k.
            let I : List Block → Env → Type 0 = At g k (before ++ p.slots) in
            for_sound defs facts I (on_ready g k (before ++ p.slots)) (At inner (k + length before) p.slots) x (n.from k) (o.from (k + length n.slots)) (p.from (k + length before))
            (λ m env i fits r. ready_with defs at_args (in_loop g) (k + length before) p.slots m env ((x, v.Num W32 i) ∷ []) ((x, u32) ∷ [])
            (refl, subst (HasShape defs m (v.Num W32 i)) (sym same) (HasShape.num fits), tt)
            (ready_loop defs at_args g (k + length before) p.slots m env (ready_right defs at_args g k before p.slots m env r)))
            (sound_under defs (At g k before) I u32 (n.from k) (ready_left defs at_args g k before p.slots) (left_of g u32 n o.slots hn k))
            (sound_under defs (At g k before) I u32 (o.from (k + length n.slots)) (ready_left defs at_args g k before p.slots) (right_of g u32 n.slots o ho k))
            (hp.from (k + length before));
      }

  -- ---- frames and slots

  module _ (facts : Facts defs) where
    flats_closed : (env : Env) → env.tvars ≡ at_args.tvars → env.targs ≡ at_args.targs → (slots : List Slot) → AreFlat slots → AreFlat (map (closed_slot env) slots)
    flats_closed env tv ta [] h = tt
    flats_closed env tv ta (s ∷ slots) h = (
      subst (IsFlat defs) (sym (ap (λ vs. type_at vs env.targs s.ty) tv ∙ ap (λ types. type_at at_args.tvars types s.ty) ta)) (flat_closed defs at_args s.ty h.0),
      flats_closed env tv ta slots h.1,
    )

    pub frame_of : (g : Scope) (slots : List Slot) (a : Ty) (n : Numbered Sem) → AreFlat slots → (HoldsBuffer defs a → ⊥) → SoundOf (in_frame slots g) a n
        → SoundOf g a (none (src.frame (slots ++ n.slots) (n.from (length slots))))
    frame_of g slots a n flats flat h = none_of g a (src.frame (slots ++ n.slots) (n.from (length slots))) (λ k.
        frame_sound defs facts (At g k []) (on_ready g k []) (At (in_frame slots g) (length slots) n.slots) (slots ++ n.slots) a (n.from (length slots))
        (λ m env r. flats_closed env r.tvars r.targs (slots ++ n.slots) (each_append (λ (s : Slot). IsFlat defs s.ty) slots n.slots flats h.flat))
        (λ m env r. ready_inside defs at_args g k slots n.slots m env r) flat (h.from (length slots)))

    pub alloc_of : (g : Scope) (listed : List Slot) (s : Slot) (n : Numbered Sem) → g.frame ≡ Some listed → IsFlat defs s.ty → SoundOf g (close defs at_args (erased s.ty)) n
        → SoundOf g (t.Buf (close defs at_args (erased s.ty))) (record { slots = s ∷ n.slots; from = λ k. src.fill k (n.from (suc k)) })
    alloc_of g listed s n is flat h =
        let a : Ty = close defs at_args (erased s.ty) in
        record {
          flat = (flat, h.flat);
          from = λ k. fill_sound defs facts (At g k (s ∷ n.slots)) (on_ready g k (s ∷ n.slots)) k a s.len (n.from (suc k))
              (λ m env r. ready_first defs at_args g k s n.slots listed m env is r)
              (sound_under defs (At g (suc k) n.slots) (At g k (s ∷ n.slots)) a (n.from (suc k)) (ready_next defs at_args g k s n.slots) (h.from (suc k)));
        }

    pub fill_of : (g : Scope) (listed : List Slot) (j : ℕ) (s : Slot) (n : Numbered Sem) → g.frame ≡ Some listed → slice_get listed j ≡ Some s
        → SoundOf g (close defs at_args (erased s.ty)) n → SoundOf g (t.Buf (close defs at_args (erased s.ty))) (one (src.fill j) n)
    fill_of g listed j s n is s_is h =
        let a : Ty = close defs at_args (erased s.ty) in
        one_of g a (t.Buf a) n (src.fill j) h (λ k ev he. fill_sound defs facts (At g k n.slots) (on_ready g k n.slots) j a s.len ev
        (λ m env r. ready_listed defs at_args g k n.slots listed j s m env is s_is r) he)

    -- ---- branches

    pub record BranchesOf (g : Scope) (a r : Ty) (ns : List (Numbered src.Branch)) : Type 0 where
      pub flat : AreFlat (flat_map (λ n. n.slots) ns)
      pub from : (k : ℕ) → SoundBranches defs (At g k (flat_map (λ n. n.slots) ns)) a r (each_from ns k)

    pub no_branches_of : (g : Scope) (a r : Ty) → BranchesOf g a r []
    no_branches_of g a r = record { flat = tt; from = λ k. no_branches_sound defs (At g k []) a r }

    abbrev pub branch : Pat → Sem → src.Branch
    branch q body = record { takes = src.takes defs q; body = body }

    branches_under : (I J : List Block → Env → Type 0) (a r : Ty) (bs : List src.Branch) → ((m : List Block) (env : Env) → J m env → I m env) → SoundBranches defs I a r bs
        → SoundBranches defs J a r bs
    branches_under I J a r bs f h = record { run = λ env s x k b ready hm shape e. h.run env s x k b (f s.memory env ready) hm shape e }

    pub more_branches_of : (g : Scope) (a r : Ty) (q : Pat) (types : Vars) (n : Numbered Sem) (ns : List (Numbered src.Branch)) → Matches defs a q types
        → SoundOf (typing.with_vars types g) r n → BranchesOf g (close defs at_args a) r ns → BranchesOf g (close defs at_args a) r (one (branch q) n ∷ ns)
    more_branches_of g a r q types n ns ms h hs =
        let rest : List Slot = flat_map (λ (o : Numbered src.Branch). o.slots) ns in
        record {
          flat = each_append (λ (s : Slot). IsFlat defs s.ty) n.slots rest h.flat hs.flat;
          from = λ k.
              let I : List Block → Env → Type 0 = At g k (n.slots ++ rest) in
              more_branches_sound defs I (At (typing.with_vars types g) k n.slots) (close defs at_args a) r (branch q (n.from k)) (each_from ns (k + length n.slots))
              (λ m env x vars ready shape e. ready_with defs at_args g k n.slots m env vars types (taken_typed defs facts at_args a q types ms m x vars shape e)
              (ready_left defs at_args g k n.slots rest m env ready))
              (h.from k)
              (branches_under (At g (k + length n.slots) rest) I (close defs at_args a) r (each_from ns (k + length n.slots)) (ready_right defs at_args g k n.slots rest)
              (hs.from (k + length n.slots)));
        }

    pub match_of : (g : Scope) (a r : Ty) (n : Numbered Sem) (ns : List (Numbered src.Branch)) → SoundOf g a n → BranchesOf g a r ns
        → SoundOf g r (two src.match n (many (λ branches. branches) ns))
    match_of g a r n ns h hs =
        let rest : List Slot = flat_map (λ (o : Numbered src.Branch). o.slots) ns in
        record {
          flat = each_append (λ (s : Slot). IsFlat defs s.ty) n.slots rest h.flat hs.flat;
          from = λ k. match_sound defs (At g k (n.slots ++ rest)) (on_ready g k (n.slots ++ rest)) a r (n.from k) (each_from ns (k + length n.slots)) (left_of g a n rest h k)
              (branches_under (At g (k + length n.slots) rest) (At g k (n.slots ++ rest)) a r (each_from ns (k + length n.slots)) (ready_right defs at_args g k n.slots rest)
              (hs.from (k + length n.slots)));
        }

  -- ---- items

  -- items that lead from one scope to another, with slots of what follows behind theirs
  pub record StepsOf (g h : Scope) (ns : List (Numbered src.Step)) : Type 0 where
    pub flat : AreFlat (flat_map (λ n. n.slots) ns)
    pub from : (k : ℕ) (more : List Slot)
        → SoundSteps defs (At g k (flat_map (λ n. n.slots) ns ++ more)) (At h (k + length (flat_map (λ n. n.slots) ns)) more) (each_from ns k)

  pub no_steps_of : (g : Scope) → StepsOf g g []
  no_steps_of g = record { flat = tt; from = λ k more. no_steps_sound defs (At g k more) (At g (k + 0) more) (ready_right defs at_args g k [] more) }

  behind : (g : Scope) (k : ℕ) (slots rest more : List Slot) (m : List Block) (env : Env) → At g k ((slots ++ rest) ++ more) m env → At g (k + length slots) (rest ++ more) m env
  behind g k slots rest more m env r = ready_right defs at_args g k slots (rest ++ more) m env (subst (λ z. At g k z m env) (append_assoc slots rest more) r)

  front : (g : Scope) (a : Ty) (n : Numbered Sem) (rest more : List Slot) → SoundOf g a n → (k : ℕ) → Sound defs (At g k ((n.slots ++ rest) ++ more)) a (n.from k)
  front g a n rest more h k = sound_under defs (At g k n.slots) (At g k ((n.slots ++ rest) ++ more)) a (n.from k)
      (λ m env r. ready_left defs at_args g k n.slots (rest ++ more) m env (subst (λ z. At g k z m env) (append_assoc n.slots rest more) r)) (h.from k)

  count_more : (k : ℕ) (slots rest : List Slot) → (k + length slots) + length rest ≡ k + length (slots ++ rest)
  count_more k [] rest = let e : (k + 0) + length rest ≡ k + length rest = omega arith in e
  count_more k (s ∷ slots) rest = let ih = count_more k slots rest in omega (arith, ih)

  module _ (g next h : Scope) (a : Ty) (n : Numbered Sem) (ns : List (Numbered src.Step)) (hn : SoundOf g a n) (hs : StepsOf next h ns) where
    rest_of : List Slot
    rest_of = flat_map (λ (o : Numbered src.Step). o.slots) ns

    later : (k : ℕ) (more : List Slot) → SoundSteps defs (At next (k + length n.slots) (rest_of ++ more)) (At h (k + length (n.slots ++ rest_of)) more) (each_from ns (k + length n.slots))
    unfolding rest_of
    later k more = subst (λ z. SoundSteps defs (At next (k + length n.slots) (rest_of ++ more)) (At h z more) (each_from ns (k + length n.slots))) (count_more k n.slots rest_of)
        (hs.from (k + length n.slots) more)

    pub bound_of : (x : List ℕ) (b : Ty) → a ≡ close defs at_args b → next ≡ typing.with_vars ((x, b) ∷ []) g → StepsOf g h (one (src.bound x) n ∷ ns)
    unfolding rest_of
    bound_of x b a_is next_is = record {
      flat = each_append (λ (s : Slot). IsFlat defs s.ty) n.slots rest_of hn.flat hs.flat;
      from = λ k more.
          let I : List Block → Env → Type 0 = At g k ((n.slots ++ rest_of) ++ more) in
          bound_sound defs I (on_ready g k ((n.slots ++ rest_of) ++ more)) (At next (k + length n.slots) (rest_of ++ more)) (At h (k + length (n.slots ++ rest_of)) more) x a (n.from k)
          (each_from ns (k + length n.slots))
          (λ m env y r shape. subst (λ z. At z (k + length n.slots) (rest_of ++ more) m (with_vars ((x, y) ∷ []) env)) (sym next_is)
          (ready_with defs at_args g (k + length n.slots) (rest_of ++ more) m env ((x, y) ∷ []) ((x, b) ∷ []) (refl, subst (HasShape defs m y) a_is shape, tt)
          (behind g k n.slots rest_of more m env r)))
          (front g a n rest_of more hn k) (later k more);
    }

    pub ran_of : next ≡ g → StepsOf g h (one src.ran n ∷ ns)
    unfolding rest_of
    ran_of next_is = record {
      flat = each_append (λ (s : Slot). IsFlat defs s.ty) n.slots rest_of hn.flat hs.flat;
      from = λ k more.
          let I : List Block → Env → Type 0 = At g k ((n.slots ++ rest_of) ++ more) in
          ran_sound defs I (on_ready g k ((n.slots ++ rest_of) ++ more)) (At next (k + length n.slots) (rest_of ++ more)) (At h (k + length (n.slots ++ rest_of)) more) a (n.from k)
          (each_from ns (k + length n.slots))
          (λ m env r. subst (λ z. At z (k + length n.slots) (rest_of ++ more) m env) (sym next_is) (behind g k n.slots rest_of more m env r))
          (front g a n rest_of more hn k) (later k more);
    }

  pub block_of : (g h : Scope) (a : Ty) (ns : List (Numbered src.Step)) (n : Numbered Sem) → StepsOf g h ns → SoundOf h a n → SoundOf g a (two src.block (many (λ steps. steps) ns) n)
  block_of g h a ns n hs hn =
      let before : List Slot = flat_map (λ (o : Numbered src.Step). o.slots) ns in
      record {
        flat = each_append (λ (s : Slot). IsFlat defs s.ty) before n.slots hs.flat hn.flat;
        from = λ k. block_sound defs (At g k (before ++ n.slots)) (on_ready g k (before ++ n.slots)) (At h (k + length before) n.slots) a (each_from ns k) (n.from (k + length before))
            (hs.from k n.slots) (hn.from (k + length before));
      }

  -- ---- cases

  pub record CasesOf (g : Scope) (r : Ty) (ns : List (Numbered src.Tested)) : Type 0 where
    pub flat : AreFlat (flat_map (λ n. n.slots) ns)
    pub from : (k j : ℕ) → Sound defs (At g k (flat_map (λ n. n.slots) ns)) r (src.cases j (each_from ns k))

  pub no_cases_of : (g : Scope) (r : Ty) → CasesOf g r []
  no_cases_of g r = record { flat = tt; from = λ k j. no_cases_sound defs (At g k []) j r }

  abbrev pub tested : List (Numbered Sem) → Numbered Sem → Numbered src.Tested
  tested ts n = two (λ tests body. record { tests = tests; body = body }) (many (λ tests. tests) ts) n

  pub more_cases_of : (g : Scope) (r : Ty) (types : List Ty) (ts : List (Numbered Sem)) (n : Numbered Sem) (ns : List (Numbered src.Tested)) → AreBools defs types
      → SoundAllOf g types ts → SoundOf g r n → CasesOf g r ns → CasesOf g r (tested ts n ∷ ns)
  more_cases_of g r types ts n ns bs ht hn hs =
      let before : List Slot = flat_map (λ (o : Numbered Sem). o.slots) ts in
      let rest : List Slot = flat_map (λ (o : Numbered src.Tested). o.slots) ns in
      let mine : List Slot = before ++ n.slots in
      record {
        flat = each_append (λ (s : Slot). IsFlat defs s.ty) mine rest (each_append (λ (s : Slot). IsFlat defs s.ty) before n.slots ht.flat hn.flat) hs.flat;
        from = λ k j.
            let I : List Block → Env → Type 0 = At g k (mine ++ rest) in
            more_cases_sound defs I (on_ready g k (mine ++ rest)) j r types (record { tests = each_from ts k; body = n.from (k + length before) }) (each_from ns (k + length mine)) bs
            (sound_all_under defs (At g k before) I types (each_from ts k)
            (λ m env z. ready_left defs at_args g k before n.slots m env (ready_left defs at_args g k mine rest m env z)) (ht.from k))
            (sound_under defs (At g k mine) I r (n.from (k + length before)) (ready_left defs at_args g k mine rest) (right_of g r before n hn k))
            (sound_under defs (At g (k + length mine) rest) I r (src.cases (suc j) (each_from ns (k + length mine))) (ready_right defs at_args g k mine rest)
            (hs.from (k + length mine) (suc j)));
      }

  pub cases_of : (g : Scope) (r : Ty) (ns : List (Numbered src.Tested)) → CasesOf g r ns → SoundOf g r (many (src.cases 0) ns)
  cases_of g r ns hs = record { flat = hs.flat; from = λ k. hs.from k 0 }
