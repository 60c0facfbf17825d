-- Layers under other names: a layer does the same where its parts do, and where the names in it mean the same.
use Rattle.std.proofs.Common.{◌≡◌, ℕ, suc, List, [], ◌∷◌, ◌++◌, map, length, option_map, refl, sym, ap, ◌∙◌, subst}
use Rattle.std.proofs.lemmas.List.{map-append, length-map}
use Rattle.krml_trace.specs.declared.width.Width.TheVariants.{W32}
use Rattle.krml_syntax.specs.declared.tree.Ty.{Ty}
use Rattle.krml_syntax.specs.declared.tree.Slot.{Slot}
use Rattle.krml_syntax.specs.declared.tree.Pat.{Pat}
use Rattle.krml_syntax.specs.declared.tree.Arm.{Arm, roll-Arm}
use Rattle.krml_syntax.specs.declared.tree.Case.{Case, roll-Case}
use Rattle.krml_syntax.specs.declared.tree.Item.{Item, roll-Item}
use Rattle.krml_syntax.specs.declared.tree.Expr.{Expr, roll-Expr}
use Rattle.krml_syntax.specs.declared.tree.Expr.TheOpen.{Expr-F, Item-F, Arm-F, Case-F}
use Rattle.krml_syntax.specs.declared.tree.Expr.TheFolds.{fold-roll-Expr, fold-roll-Item, fold-roll-Arm, fold-roll-Case, every-Expr}
use Rattle.krml_syntax.specs.declared.tree.Def.{Def}
use Rattle.krml_syntax.specs.Spelling.{Each}
use Rattle.krml_syntax.specs.Shape.{map_layer, map_item, map_arm, map_case, parts_of}
use Rattle.krml_syntax.proofs.Shape.{layer_twice, item_twice, case_twice}
use Rattle.krml_syntax.proofs.Attached.{With, ItemWith, ArmWith, CaseWith, attached, item_attached, arm_attached, case_attached}
use Rattle.krml_ast.specs.Names.{type_named}
use Rattle.krml_meaning.specs.declared.value.Value.{Value}
use Rattle.krml_meaning.specs.declared.value.Value.TheVariants as v
use Rattle.krml_meaning.specs.State.{Block, SourceState, Variables, Env, Sem, value_of, with_vars, closed, closed_slot}
use Rattle.krml_meaning.specs.Numbered.{Numbered}
use Rattle.krml_meaning.specs.Meaning as src
use Rattle.krml_meaning.proofs.Evals as old
use Rattle.krml_passing.specs.Images.{Images, vars_image, slot_image, state_image}
use Rattle.krml_passing.specs.Alike.{Alike, Scopes, any, IsImage, Same, Does, DoAll, Leads, SameOf}
use Rattle.krml_rename.specs.Pass.{Layer, Pass, passed, item_passed, arm_passed, case_passed, parts_passed}
use Rattle.krml_rename.specs.Renaming.{Renaming, slot_renamed, renamed, item_renamed, arm_renamed, renaming, expr_renamed}
use Rattle.krml_passing.proofs.Alike.{alike_so}
use Rattle.krml_passing.proofs.Values as is
use Rattle.krml_passing.proofs.Forms as form
use Rattle.krml_passing.proofs.Forms.{SameBranch, SameTested, SameCon, SameZero, table_image}
use Rattle.krml_passing.proofs.Numbered.{moved, none_of, one_of, two_of, three_of, many_of, each_map}
use Rattle.krml_passing.proofs.Passes.{layer_means, PartsPass, Passes, ItemPasses, ArmPasses, CasePasses, LayerPasses, ItemLayerPasses, ArmLayerPasses, CaseLayerPasses, all_pass, listed_pass}

-- what the parts are, does not matter
module _ (n : Renaming) {E I A C E' I' A' C' : Type 0} (f : E → E') (f' : I → I') (f'' : A → A') (f''' : C → C') where
  pub renamed_mapped : (y : Expr-F E I A C) → map_layer f f' f'' f''' (renamed n y) ≡ renamed n (map_layer f f' f'' f''' y)
  renamed_mapped (Expr-F.Var x) = refl
  renamed_mapped _ = refl

  item_mapped : (y : Item-F E I A C) → map_item f f' f'' f''' (item_renamed n y) ≡ item_renamed n (map_item f f' f'' f''' y)
  item_mapped (Item-F.Let x b a) = refl
  item_mapped (Item-F.Run a) = refl

-- A relation of scopes that has nothing to do with the memory, and is kept where variables are bound and in frames.
pub record ScopesKept (im : Images) (n : Renaming) (I : Scopes) : Type 0 where
  pub steady : (env env' : Env) (m m1 : List Block) → I env env' m → I env env' m1
  pub vars : (env env' : Env) (m : List Block) (vars : Variables) → I env env' m
      → I (with_vars vars env) (with_vars (vars_image im vars) env') m
  pub base : (env env' : Env) (m : List Block) (k : ℕ) → I env env' m → I (record env { base = k }) (record env' { base = k }) m
  pub look : (env env' : Env) (m : List Block) (x : List ℕ) → I env env' m
      → value_of env'.vars x ≡ option_map im.value (value_of env.vars x)
  pub at_base : (env env' : Env) (m : List Block) → I env env' m → env'.base ≡ env.base
  pub slot : (env env' : Env) (m : List Block) (s : Slot) → I env env' m → closed_slot env' (slot_renamed n s)
      ≡ slot_image im (closed_slot env s)

-- A branch takes the same values, and its body does the same, in whatever scope.
pub record SameArm (im : Images) (I : Scopes) (b b' : src.Branch) : Type 0 where
  pub takes : (x : Value) → b'.takes (im.value x) ≡ option_map (vars_image im) (b.takes x)
  pub body : Same im I b.body b'.body

module _ (im : Images) (n : Renaming) (I : Scopes) (scopes : ScopesKept im n I) (fields : (y : List ℕ) → n.field y ≡ im.field y)
    (defs defs' : List Def) (calls calls' : src.Calls) where
  -- ---- names that are kept

  -- Calls of a function do the same.
  abbrev pub CallKept : List ℕ → List Ty → Type 0
  CallKept f args = (env env' : Env) (xs : List Value) (s : SourceState) → I env env' s.memory
      → Alike im (IsImage im) (calls (record { name = f; types = map (closed env) args; values = xs }) s)
      (calls' (record { name = (n.fun f args).0; types = map (closed env') (n.fun f args).1; values = map im.value xs }) (state_image im s))

  -- The names in one layer mean the same under the new names: the pass shows this.
  abbrev pub Kept : {E I A C : Type 0} → Expr-F E I A C → Type 0
  Kept (Expr-F.Make x args es) = src.fields_of (type_named defs' (n.struct x args).0)
      ≡ option_map (map im.field) (src.fields_of (type_named defs x))
  Kept (Expr-F.Con x args es) = SameCon defs defs' x (n.con x args).0
  Kept (Expr-F.Tab x a) = src.table_from 0 defs' (n.table x) ≡ option_map (table_image im) (src.table_from 0 defs x)
  Kept (Expr-F.Call f args es) = CallKept f args
  Kept (Expr-F.TagIs x a) = SameCon defs defs' x (n.tag x)
  Kept (Expr-F.Part x j a) = (c : SameCon defs defs' x (n.tag x)) × SameZero im defs defs' x (n.tag x) c j
  Kept _ = Unit {0}

  -- A pattern takes the images of the values that it took, and binds the images of what it bound.
  abbrev pub PatKept : Pat → Type 0
  PatKept q = (x : Value) → src.takes defs' (n.pat q) (im.value x) ≡ option_map (vars_image im) (src.takes defs q x)

  kept_at : {E I A C E' I' A' C' : Type 0} (f : E → E') (f' : I → I') (f'' : A → A') (f''' : C → C') (y : Expr-F E I A C)
      → Kept (map_layer f f' f'' f''' y) → Kept y
  kept_at f f' f'' f''' (Expr-F.Var x) k = k
  kept_at f f' f'' f''' _ k = k

  -- ---- what is known of parts

  abbrev W : Sem → Sem → Type 0
  W = Same im I

  abbrev W' : src.Step → src.Step → Type 0
  W' = Leads im I I

  abbrev W'' : src.Branch → src.Branch → Type 0
  W'' = SameArm im I

  abbrev W''' : src.Tested → src.Tested → Type 0
  W''' = SameTested im I

  part : {a a' : Sem} → W a a' → Does im I any a a'
  part h = form.steady im I scopes.steady h

  parts : {es es' : List Sem} → Each W es es' → Each (Does im I any) es es'
  parts Each.none = Each.none
  parts (Each.one h hs) = Each.one (part h) (parts hs)

  all : {es es' : List Sem} → Each W es es' → DoAll im I any es es'
  all hs = form.all_do im I (parts hs)

  slots_closed : (slots : List Slot) (env env' : Env) (m : List Block) → I env env' m
      → map (closed_slot env') (map (slot_renamed n) slots) ≡ map (slot_image im) (map (closed_slot env) slots)
  slots_closed [] env env' m i = refl
  slots_closed (s ∷ slots) env env' m i = ap (λ z. z ∷ map (closed_slot env') (map (slot_renamed n) slots)) (scopes.slot env env' m s i)
      ∙ ap (λ z. slot_image im (closed_slot env s) ∷ z) (slots_closed slots env env' m i)

  steps_lead : (items items' : List src.Step) → Each W' items items' → W' (src.steps items) (src.steps items')
  steps_lead items items' Each.none = form.no_steps_lead im I
  steps_lead items items' (Each.one {xs = more} {ys = more'} h hs) = form.more_steps_lead im I more more' h (steps_lead more more' hs)

  branches : (bs bs' : List src.Branch) → Each W'' bs bs' → Each (SameBranch im I any) bs bs'
  branches bs bs' Each.none = Each.none
  branches bs bs' (Each.one {xs = more} {ys = more'} h hs) = Each.one (record {
    takes = λ x m p. h.takes x;
    body = λ env env' s x vars i p e. h.body.run (with_vars vars env) (with_vars (vars_image im vars) env') s
        (scopes.vars env env' s.memory vars i);
  }) (branches more more' hs)

  in_for : (x : List ℕ) (c c' : Sem) → W c c' → form.InFor im I (λ n. Unit {0}) x x c c'
  in_for x c c' hc env env' s j end ok lt i =
      let inner : Env = with_vars ((x, v.Num W32 j) ∷ []) env in
      let inner' : Env = with_vars ((x, v.Num W32 j) ∷ []) env' in
      alike_so im (IsImage im) (λ y y' m. I env env' m) (c inner s) _
      (hc.run inner inner' s (subst (λ z. I inner (with_vars ((x, z) ∷ []) env') s.memory) (is.num_value im W32 j)
      (scopes.vars env env' s.memory ((x, v.Num W32 j) ∷ []) i))) (λ y y' m e. scopes.steady env env' s.memory m i)

  -- ---- one layer, with what its parts mean before and after

  abbrev slot : Slot → Slot
  slot = slot_renamed n

  module _ {X X' X'' X''' : Type 0} (v : X → Numbered Sem) (v' : X' → Numbered src.Step) (v'' : X'' → Numbered src.Branch) (v''' : X'''
      → Numbered src.Tested)
      (w : X → Numbered Sem) (w' : X' → Numbered src.Step) (w'' : X'' → Numbered src.Branch) (w''' : X''' → Numbered src.Tested)
      (h : (x : X) → SameOf slot W (v x) (w x)) (h' : (x : X') → SameOf slot W' (v' x) (w' x))
      (h'' : (x : X'') → SameOf slot W'' (v'' x) (w'' x)) (h''' : (x : X''') → SameOf slot W''' (v''' x) (w''' x)) where
    in_frame : (slots : List Slot) (a a' : Numbered Sem) → SameOf slot W a a'
        → W (src.frame (slots ++ a.slots) (a.from (length slots))) (src.frame (map slot slots ++ a'.slots)
        (a'.from (length (map slot slots))))
    in_frame slots a a' h = rw (h.slots, sym (map-append slot slots a.slots), length-map slots slot)
        (form.frame_same im I (slots ++ a.slots) (map slot (slots ++ a.slots)) (a.from (length slots)) (a'.from (length slots))
        (slots_closed (slots ++ a.slots))
        (λ env env' s i. (h.from (length slots)).run _ _ _ (scopes.base env env' _ (length s.memory)
        (scopes.steady env env' s.memory _ i))))

    -- a form under the new names does the same where its parts do
    form_same : (y : Expr-F X X' X'' X''') → Kept y
        → SameOf slot W (src.form_meaning defs calls (map_layer v v' v'' v''' y))
        (src.form_meaning defs' calls' (renamed n (map_layer w w' w'' w''' y)))
    form_same (Expr-F.Var x) k = none_of slot W (form.var_same im I x x (λ env env' m i. scopes.look env env' m x i))
    form_same Expr-F.Unit k = none_of slot W (form.just_same im I _ _ (is.unit_value im))
    form_same (Expr-F.Bool b) k = none_of slot W (form.just_same im I _ _ (is.bool_value im b))
    form_same (Expr-F.Num i m) k = none_of slot W (form.just_same im I _ _ (is.num_value im i.width m))
    form_same (Expr-F.Bin o i a b) k = two_of slot W (h a) (h b) (λ a b a' b' p q. form.binary_same im I o i (part p) (part q))
    form_same (Expr-F.Shift left i a b) k = two_of slot W (h a) (h b) (λ a b a' b' p q. form.shift_same im I left i (part p) (part q))
    form_same (Expr-F.Cmp o i a b) k = two_of slot W (h a) (h b) (λ a b a' b' p q. form.compare_same im I o i (part p) (part q))
    form_same (Expr-F.Not a) k = one_of slot W (h a) (λ a a' p. form.opposite_same im I (part p))
    form_same (Expr-F.Cast i j a) k = one_of slot W (h a) (λ a a' p. form.cast_same im I i j (part p))
    form_same (Expr-F.Hide i a) k = one_of slot W (h a) (λ a a' p. form.hide_same im I i (part p))
    form_same (Expr-F.Make x args es) k = many_of slot W (each_map (SameOf slot W) v w h es) (λ es es' p. form.make_same im I defs defs' x
        (n.struct x args).0 k (all p))
    form_same (Expr-F.Get y a) k = one_of slot W (h a) (λ a a' p. subst (λ z. W (src.get y a) (src.get z a')) (sym (fields y))
        (form.get_same im I y (part p)))
    form_same (Expr-F.Con x args es) k = many_of slot W (each_map (SameOf slot W) v w h es) (λ es es' p. form.con_same im I defs defs' x
        (n.con x args).0 k (all p))
    form_same (Expr-F.Read a b) k = two_of slot W (h a) (h b) (λ a b a' b' p q. form.read_same im I (part p) (part q))
    form_same (Expr-F.Write a b c) k = three_of slot W (h a) (h b) (h c) (λ a b c a' b' c' p q r. form.write_same im I (part p) (part q)
        (part r))
    form_same (Expr-F.Slice a b c) k = three_of slot W (h a) (h b) (h c) (λ a b c a' b' c' p q r. form.slice_same im I (part p) (part q)
        (part r))
    form_same (Expr-F.Tab x a) k = one_of slot W (h a) (λ a a' p. form.tab_same im I defs defs' x (n.table x) k (part p))
    form_same (Expr-F.If c a b) k = three_of slot W (h c) (h a) (h b) (λ c a b c' a' b' p q r. form.choose_same im I (part p) q r)
    form_same (Expr-F.Match a arms) k =
        two_of slot {S = Each W''} W (h a) (many_of slot (Each W'') (each_map (SameOf slot W'') v'' w'' h'' arms) (λ bs bs' q. q))
        (λ a bs a' bs' p q. form.match_same im I (part p) (branches bs bs' q))
    form_same (Expr-F.Do items a) k =
        two_of slot {R = Each W'} W (many_of slot (Each W') (each_map (SameOf slot W') v' w' h' items) (λ bs bs' q. q)) (h a)
        (λ items a items' a' p q. form.block_same im I items items' (steps_lead items items' p) q)
    form_same (Expr-F.Frame slots a) k = none_of slot W (in_frame slots (v a) (w a) (h a))
    form_same (Expr-F.Alloc b len a) k = record {
      slots = ap (λ z. record { ty = n.ty b; len = len } ∷ z) (h a).slots;
      from = λ j. form.fill_same im I j scopes.at_base (part ((h a).from (suc j)));
    }
    form_same (Expr-F.While c a) k = two_of slot W (h c) (h a) (λ c a c' a' p q. form.while_same im I (part p) (part q))
    form_same (Expr-F.For x a b c) k = three_of slot W (h a) (h b) (h c) (λ a b c a' b' c' p q r.
        form.for_same im I (λ n. Unit {0}) x x c c' (λ y m u n p is same. tt) (part p) (part q) (in_for x c c' r))
    form_same (Expr-F.Call f args es) k = many_of slot W (each_map (SameOf slot W) v w h es)
        (λ es es' p. form.call_same im I calls calls' f (n.fun f args).0 args (n.fun f args).1 (all p)
        (λ env env' xs s i u. k env env' xs s i))
    form_same (Expr-F.Cases more) k = many_of slot W (each_map (SameOf slot W''') v''' w''' h''' more)
        (λ cs cs' p. form.cases_same im I 0 p)
    form_same (Expr-F.TagIs x a) k = one_of slot W (h a) (λ a a' p. form.tag_is_same im I defs defs' x (n.tag x) k (part p))
    form_same (Expr-F.Part x j a) k = one_of slot W (h a) (λ a a' p. form.part_same im I defs defs' x (n.tag x) j k.0 k.1 (part p))
    form_same (Expr-F.Fill j a) k = one_of slot W (h a) (λ a a' p. form.fill_same im I j scopes.at_base (part p))

    item_same : (y : Item-F X X' X'' X''') → SameOf slot W' (src.item_meaning (map_item v v' v'' v''' y))
        (src.item_meaning (item_renamed n (map_item w w' w'' w''' y)))
    item_same (Item-F.Let x b a) = one_of slot W' (h a) (λ a a' p. form.bound_leads im I x x (part p)
        (λ env env' y m i u. scopes.vars env env' m ((x, y) ∷ []) i))
    item_same (Item-F.Run a) = one_of slot W' (h a) (λ a a' p. form.ran_leads im I (part p))

    arm_same : (y : Arm-F X X' X'' X''') → PatKept y.pat
        → SameOf slot W'' (src.arm_meaning defs (map_arm v v' v'' v''' y)) (src.arm_meaning defs' (arm_renamed n (map_arm w w' w'' w''' y)))
    arm_same y k = one_of slot W'' {f = λ body. record { takes = src.takes defs y.pat; body = body }} {f' =
        λ body. record { takes = src.takes defs' (n.pat y.pat); body = body }} (h y.body)
        (λ a a' p. record { takes = k; body = p })

    case_same : (y : Case-F X X' X'' X''') → SameOf slot W''' (src.case_meaning (map_case v v' v'' v''' y))
        (src.case_meaning (map_case w w' w'' w''' y))
    case_same y = two_of slot {R = Each W} W''' (many_of slot (Each W) (each_map (SameOf slot W) v w h y.tests) (λ bs bs' q. q)) (h y.body)
        (λ ts a ts' a' p q. record { tests = all p; body = q })

  -- ---- the rows of a pass that gives a layer new names, and nothing else

  module _ (p : Pass) where
    abbrev P : Expr → Type 0
    P = Passes slot W W' W'' W''' defs defs' calls calls' p

    abbrev P' : Item → Type 0
    P' = ItemPasses slot W W' W'' W''' defs defs' calls calls' p

    abbrev P'' : Arm → Type 0
    P'' = ArmPasses slot W W' W'' W''' defs defs' calls calls' p

    abbrev P''' : Case → Type 0
    P''' = CasePasses slot W W' W'' W''' defs defs' calls calls' p

    abbrev before : Expr → Numbered Sem
    before = old.means defs calls

    abbrev before' : Item → Numbered src.Step
    before' = old.item_means defs calls

    abbrev before'' : Arm → Numbered src.Branch
    before'' = old.arm_means defs calls

    abbrev before''' : Case → Numbered src.Tested
    before''' = old.case_means defs calls

    abbrev after : Expr → Numbered Sem
    after x = old.means defs' calls' (passed p x)

    abbrev after' : Item → Numbered src.Step
    after' x = old.item_means defs' calls' (item_passed p x)

    abbrev after'' : Arm → Numbered src.Branch
    after'' x = old.arm_means defs' calls' (arm_passed p x)

    abbrev after''' : Case → Numbered src.Tested
    after''' x = old.case_means defs' calls' (case_passed p x)

    with_parts : (y : Layer) → Kept y → With P P' P'' P''' y
        → SameOf slot W (layer_means defs calls y) (src.form_meaning defs' calls' (renamed n (map_layer after after' after'' after''' y)))
    with_parts y k w = subst (λ z. SameOf slot W (src.form_meaning defs calls (map_layer before before' before'' before''' z))
        (src.form_meaning defs' calls' (renamed n (map_layer after after' after'' after''' z)))) w.1
        (rw (
          layer_twice (λ q. q.0) (λ q. q.0) (λ q. q.0) (λ q. q.0) before before' before'' before''' w.0,
          layer_twice (λ q. q.0) (λ q. q.0) (λ q. q.0) (λ q. q.0) after after' after'' after''' w.0,
        )
        (form_same _ _ _ _ _ _ _ _ (λ q. q.1) (λ q. q.1) (λ q. q.1) (λ q. q.1) w.0
        (kept_at (λ q. q.0) (λ q. q.0) (λ q. q.0) (λ q. q.0) w.0 (subst (λ (z : Layer). Kept z) (sym w.1) k))))

    -- a layer under the new names
    pub layer_same : (y : Layer) → Kept y → PartsPass slot W W' W'' W''' defs defs' calls calls' p (parts_of y)
        → SameOf slot W (layer_means defs calls y) (old.means defs' calls' (roll-Expr (renamed n (parts_passed p y))))
    layer_same y k parts = subst (SameOf slot W (layer_means defs calls y)) (sym (
        fold-roll-Expr _ _ _ _ (src.form_meaning defs' calls') src.item_meaning (src.arm_meaning defs') src.case_meaning _
        ∙ ap (src.form_meaning defs' calls') (renamed_mapped n (old.means defs' calls') (old.item_means defs' calls')
        (old.arm_means defs' calls') (old.case_means defs' calls') _
        ∙ ap (renamed n) (layer_twice (passed p) (item_passed p) (arm_passed p) (case_passed p) (old.means defs' calls')
        (old.item_means defs' calls') (old.arm_means defs' calls') (old.case_means defs' calls') y))))
        (with_parts y k (attached P P' P'' P''' y parts))

    pub layer_passes : (y : Layer) → p.expr (parts_passed p y)
        ≡ roll-Expr (renamed n (parts_passed p y)) → Kept y → LayerPasses slot W W' W'' W''' defs defs' calls calls' p y
    layer_passes y is k parts = subst (SameOf slot W (layer_means defs calls y)) (sym (ap (old.means defs' calls') is))
        (layer_same y k parts)

    item_with_parts : (y : Item-F Expr Item Arm Case) → ItemWith P P' P'' P''' y
        → SameOf slot W' (src.item_meaning (map_item before before' before'' before''' y))
        (src.item_meaning (item_renamed n (map_item after after' after'' after''' y)))
    item_with_parts y w = subst (λ z. SameOf slot W' (src.item_meaning (map_item before before' before'' before''' z))
        (src.item_meaning (item_renamed n (map_item after after' after'' after''' z)))) w.1
        (rw (
          item_twice (λ q. q.0) (λ q. q.0) (λ q. q.0) (λ q. q.0) before before' before'' before''' w.0,
          item_twice (λ q. q.0) (λ q. q.0) (λ q. q.0) (λ q. q.0) after after' after'' after''' w.0,
        )
        (item_same _ _ _ _ _ _ _ _ (λ q. q.1) (λ q. q.1) (λ q. q.1) (λ q. q.1) w.0))

    pub item_layer_passes : (y : Item-F Expr Item Arm Case) → p.item (map_item (passed p) (item_passed p) (arm_passed p) (case_passed p) y)
        ≡ roll-Item (item_renamed n (map_item (passed p) (item_passed p) (arm_passed p) (case_passed p) y))
        → ItemLayerPasses slot W W' W'' W''' defs defs' calls calls' p y
    item_layer_passes y is parts = subst (SameOf slot W' (src.item_meaning (map_item before before' before'' before''' y)))
        (sym (ap (old.item_means defs' calls') is
        ∙ fold-roll-Item _ _ _ _ (src.form_meaning defs' calls') src.item_meaning (src.arm_meaning defs') src.case_meaning _
        ∙ ap src.item_meaning (item_mapped n (old.means defs' calls') (old.item_means defs' calls') (old.arm_means defs' calls')
        (old.case_means defs' calls') _
        ∙ ap (item_renamed n) (item_twice (passed p) (item_passed p) (arm_passed p) (case_passed p) (old.means defs' calls')
        (old.item_means defs' calls') (old.arm_means defs' calls') (old.case_means defs' calls') y))))
        (item_with_parts y (item_attached P P' P'' P''' y parts))

    arm_with_parts : (y : Arm-F Expr Item Arm Case) → PatKept y.pat → ArmWith P P' P'' P''' y
        → SameOf slot W'' (src.arm_meaning defs (map_arm before before' before'' before''' y))
        (src.arm_meaning defs' (arm_renamed n (map_arm after after' after'' after''' y)))
    arm_with_parts y k w = subst (λ (z : Arm-F Expr Item Arm Case). SameOf slot W''
        (src.arm_meaning defs (map_arm before before' before'' before''' z))
        (src.arm_meaning defs' (arm_renamed n (map_arm after after' after'' after''' z)))) w.1
        (arm_same _ _ _ _ _ _ _ _ (λ q. q.1) (λ q. q.1) (λ q. q.1) (λ q. q.1) w.0 (subst (λ (z : Arm-F Expr Item Arm Case). PatKept z.pat)
        (sym w.1) k))

    pub arm_layer_passes : (y : Arm-F Expr Item Arm Case) → p.arm (map_arm (passed p) (item_passed p) (arm_passed p) (case_passed p) y)
        ≡ roll-Arm (arm_renamed n (map_arm (passed p) (item_passed p) (arm_passed p) (case_passed p) y)) → PatKept y.pat
        → ArmLayerPasses slot W W' W'' W''' defs defs' calls calls' p y
    arm_layer_passes y is k parts = subst (SameOf slot W'' (src.arm_meaning defs (map_arm before before' before'' before''' y)))
        (sym (ap (old.arm_means defs' calls') is
        ∙ fold-roll-Arm _ _ _ _ (src.form_meaning defs' calls') src.item_meaning (src.arm_meaning defs') src.case_meaning _))
        (arm_with_parts y k (arm_attached P P' P'' P''' y parts))

    case_with_parts : (y : Case-F Expr Item Arm Case) → CaseWith P P' P'' P''' y
        → SameOf slot W''' (src.case_meaning (map_case before before' before'' before''' y))
        (src.case_meaning (map_case after after' after'' after''' y))
    case_with_parts y w = subst (λ (z : Case-F Expr Item Arm Case). SameOf slot W'''
        (src.case_meaning (map_case before before' before'' before''' z)) (src.case_meaning (map_case after after' after'' after''' z))) w.1
        (moved slot W''' (ap src.case_meaning (case_twice (λ q. q.0) (λ q. q.0) (λ q. q.0)
        (λ q. q.0) before before' before'' before''' w.0))
        (ap src.case_meaning (case_twice (λ q. q.0) (λ q. q.0) (λ q. q.0) (λ q. q.0) after after' after'' after''' w.0))
        (case_same _ _ _ _ _ _ _ _ (λ q. q.1) (λ q. q.1) (λ q. q.1) (λ q. q.1) w.0))

    pub case_layer_passes : (y : Case-F Expr Item Arm Case) → p.case_ (map_case (passed p) (item_passed p) (arm_passed p) (case_passed p) y)
        ≡ roll-Case (map_case (passed p) (item_passed p) (arm_passed p) (case_passed p) y)
        → CaseLayerPasses slot W W' W'' W''' defs defs' calls calls' p y
    case_layer_passes y is parts = subst (SameOf slot W''' (src.case_meaning (map_case before before' before'' before''' y)))
        (sym (ap (old.case_means defs' calls') is
        ∙ fold-roll-Case _ _ _ _ (src.form_meaning defs' calls') src.item_meaning (src.arm_meaning defs') src.case_meaning _
        ∙ ap src.case_meaning (case_twice (passed p) (item_passed p) (arm_passed p) (case_passed p) (old.means defs' calls')
        (old.item_means defs' calls') (old.arm_means defs' calls') (old.case_means defs' calls') y)))
        (case_with_parts y (case_attached P P' P'' P''' y parts))

  -- ---- whole expressions under new names

  -- an expression does the same under the new names, where all names do
  pub renamed_same : ((y : Layer) → Kept y) → ((q : Pat) → PatKept q) → (x : Expr)
      → SameOf slot W (src.meaning defs calls x) (src.meaning defs' calls' (expr_renamed n x))
  renamed_same names pats = all_pass slot W W' W'' W''' defs defs' calls calls' (renaming n) (λ y. layer_passes (renaming n) y refl
      (names y))
      (λ y. item_layer_passes (renaming n) y refl) (λ y. arm_layer_passes (renaming n) y refl (pats y.pat))
      (λ y. case_layer_passes (renaming n) y refl)

  -- the names that stand in an expression are kept
  abbrev pub AllKept : Expr → Type 0
  AllKept x = every-Expr (λ (y : Layer). Kept y) (λ y. Unit {0}) (λ (y : Arm-F Expr Item Arm Case). PatKept y.pat) (λ y. Unit {0}) x

  -- an expression does the same under the new names, where those do that stand in it
  pub listed_same : (x : Expr) → AllKept x → SameOf slot W (src.meaning defs calls x) (src.meaning defs' calls' (expr_renamed n x))
  listed_same = listed_pass slot W W' W'' W''' defs defs' calls calls' (renaming n) (λ (y : Layer). Kept y) (λ y. Unit {0})
      (λ (y : Arm-F Expr Item Arm Case). PatKept y.pat) (λ y. Unit {0})
      (λ y k. layer_passes (renaming n) y refl k) (λ y k. item_layer_passes (renaming n) y refl)
      (λ y k. arm_layer_passes (renaming n) y refl k)
      (λ y k. case_layer_passes (renaming n) y refl)
