-- Values and memory under the images of a pass: what values are made of, and what steps that look at them or write them do.
use Rattle.std.proofs.Common.{◌≡◌, ℕ, zero, suc, Bool, true, false, List, [], ◌∷◌, ◌++◌, map, Option, Some, option_map, if◌then◌else◌, refl, sym, ap, ◌∙◌}
use Rattle.std.proofs.lemmas.List.{map-append}
use Rattle.krml_trace.specs.declared.width.Width.{Width}
use Rattle.krml_trace.specs.declared.why.Why.TheVariants.{Undefined}
use Rattle.krml_trace.specs.Width.{same_width}
use Rattle.krml_trace.specs.Run.{check}
use Rattle.krml_trace.specs.Blocks.{update}
use Rattle.krml_trace.proofs.Blocks.{map_update, map_close}
use Rattle.krml_syntax.specs.declared.tree.Slot.{Slot}
use Rattle.krml_meaning.specs.declared.value.Value.{Value, out-Value, roll-Value}
use Rattle.krml_meaning.specs.declared.value.Value.TheViews.{roll-out-Value}
use Rattle.krml_meaning.specs.declared.value.Value.TheVariants as v
use Rattle.krml_meaning.specs.declared.value.Value.TheOpen.{Value-F}
use Rattle.krml_meaning.specs.State.{Block, SourceState, SourceRan, number_in, as_number, truth_in, as_truth, buffer_in, as_buffer, struct_in, as_struct, con_in, as_con, set_or_add, with_item, put, fresh, dead}
use Rattle.krml_meaning.specs.Meaning as src
use Rattle.krml_passing.specs.Images.{Images, value_under, slot_image, block_image, memory_image, state_image}
use Rattle.krml_passing.specs.Alike.{Both, Alike}
use Rattle.krml_passing.proofs.Alike.{alike_ends, alike_to}

-- the first of a list, or what a look-up in the rest gives
pub first_image : {A A' : Type 0} (f : A → A') (b : Bool) (a : A) (o : Option A) (o' : Option A') → o' ≡ option_map f o
    → (if b then Some (f a) else o') ≡ option_map f (if b then Some a else o)
first_image f true a o o' h = refl
first_image f false a o o' h = h

map_set_or_add : {A A' : Type 0} (f : A → A') (n : ℕ) (a : A) (m : List A) → map f (set_or_add n a m) ≡ set_or_add n (f a) (map f m)
map_set_or_add f n a [] = refl
map_set_or_add f zero a (x ∷ m) = refl
map_set_or_add f (suc n) a (x ∷ m) = ap (λ z. f x ∷ z) (map_set_or_add f n a m)

module _ (im : Images) where
  -- ---- values by what they are made of

  abbrev under : Value-F Value → Value-F Value
  under o = value_under im.value im.field o

  value_is : (x : Value) → im.value x ≡ roll-Value (under (out-Value x))
  value_is x = sym (roll-out-Value (im.value x)) ∙ ap roll-Value (im.out x)

  pub unit_value : im.value v.Unit ≡ v.Unit
  unit_value = value_is v.Unit ∙ ap (λ o. roll-Value (under o)) v.outs-Unit ∙ v.rolls-Unit

  pub bool_value : (b : Bool) → im.value (v.Bool b) ≡ v.Bool b
  bool_value b = value_is (v.Bool b) ∙ ap (λ o. roll-Value (under o)) (v.outs-Bool b) ∙ v.rolls-Bool b

  pub num_value : (w : Width) (n : ℕ) → im.value (v.Num w n) ≡ v.Num w n
  num_value w n = value_is (v.Num w n) ∙ ap (λ o. roll-Value (under o)) (v.outs-Num w n) ∙ v.rolls-Num w n

  pub struct_value : (names : List (List ℕ)) (xs : List Value) → im.value (v.Struct names xs)
      ≡ v.Struct (map im.field names) (map im.value xs)
  struct_value names xs = value_is (v.Struct names xs) ∙ ap (λ o. roll-Value (under o)) (v.outs-Struct names xs)
      ∙ v.rolls-Struct (map im.field names) (map im.value xs)

  pub con_value : (k : ℕ) (xs : List Value) → im.value (v.Con k xs) ≡ v.Con k (map im.value xs)
  con_value k xs = value_is (v.Con k xs) ∙ ap (λ o. roll-Value (under o)) (v.outs-Con k xs) ∙ v.rolls-Con k (map im.value xs)

  pub buf_value : (b off len : ℕ) → im.value (v.Buf b off len) ≡ v.Buf b off len
  buf_value b off len = value_is (v.Buf b off len) ∙ ap (λ o. roll-Value (under o)) (v.outs-Buf b off len) ∙ v.rolls-Buf b off len

  -- ---- memory

  pub put_image : (n i : ℕ) (a : Value) (b : Block) (s : SourceState) → put n i (im.value a) (block_image im b) (state_image im s)
      ≡ state_image im (put n i a b s)
  put_image n i a b s =
      let item : block_image im (with_item i a b) ≡ with_item i (im.value a) (block_image im b) = ap
      (λ z. record (block_image im b) { items = z }) (map_set_or_add im.value i a b.items) in
      ap (λ z. record (state_image im s) { memory = z }) (sym (map_update (block_image im) n (with_item i a b) s.memory
      ∙ ap (λ z. update n z (memory_image im s.memory)) item))

  fresh_image : (slots : List Slot) → map fresh (map (slot_image im) slots) ≡ memory_image im (map fresh slots)
  fresh_image [] = refl
  fresh_image (s ∷ slots) = ap (λ z. fresh (slot_image im s) ∷ z) (fresh_image slots)

  pub push_image : (slots : List Slot) (s : SourceState) → src.push (map (slot_image im) slots) (state_image im s)
      ≡ state_image im (src.push slots s)
  push_image slots s = ap (λ z. record (state_image im (src.push slots s)) { memory = z })
      (ap (λ z. memory_image im s.memory ++ z) (fresh_image slots) ∙ sym (map-append (block_image im) s.memory (map fresh slots)))

  pub pop_image : (n : ℕ) (s : SourceState) → src.pop n (state_image im s) ≡ state_image im (src.pop n s)
  pop_image n s = ap (λ z. record (state_image im (src.pop n s)) { memory = z })
      (sym (map_close dead dead (block_image im) (λ b. refl) n s.memory))

  -- ---- values by shape

  module _ {A A' : Type 0} (Q : Both A A') (s : SourceState) where
    -- where a number is asked for, with what the first value is made of
    pub number_is_alike : (w : Width) (x : Value) (next : ℕ → SourceRan A) (next' : ℕ → SourceRan A')
        → ((u : Width) (n : ℕ) → out-Value x ≡ Value-F.Num u n → same_width w u ≡ true → Alike im Q (next n) (next' n))
        → Alike im Q (as_number w x s next) (as_number w (im.value x) (state_image im s) next')
    number_is_alike w x next next' k =
        alike_to im Q (as_number w x s next) (ap (λ o. number_in w o (state_image im s) next') (im.out x)) (go (out-Value x) refl)
      where
        of_width : (u : Width) (n : ℕ) → out-Value x ≡ Value-F.Num u n → (b : Bool) → same_width w u ≡ b
            → Alike im Q (check Undefined b s (next n)) (check Undefined b (state_image im s) (next' n))
        of_width u n is true same = k u n is same
        of_width u n is false same = alike_ends im Q Undefined s

        go : (o : Value-F Value) → out-Value x ≡ o → Alike im Q (number_in w o s next) (number_in w (under o) (state_image im s) next')
        go (Value-F.Num u n) is = of_width u n is (same_width w u) refl
        go _ is = alike_ends im Q Undefined s

    pub number_alike : (w : Width) (x : Value) (next : ℕ → SourceRan A) (next' : ℕ → SourceRan A')
        → ((n : ℕ) → Alike im Q (next n) (next' n))
        → Alike im Q (as_number w x s next) (as_number w (im.value x) (state_image im s) next')
    number_alike w x next next' k = number_is_alike w x next next' (λ u n is same. k n)

    pub truth_alike : (x : Value) (next : Bool → SourceRan A) (next' : Bool → SourceRan A') → ((b : Bool) → Alike im Q (next b) (next' b))
        → Alike im Q (as_truth x s next) (as_truth (im.value x) (state_image im s) next')
    truth_alike x next next' k =
        alike_to im Q (as_truth x s next) (ap (λ o. truth_in o (state_image im s) next') (im.out x)) (go (out-Value x))
      where
        go : (o : Value-F Value) → Alike im Q (truth_in o s next) (truth_in (under o) (state_image im s) next')
        go (Value-F.Bool b) = k b
        go _ = alike_ends im Q Undefined s

    pub buffer_alike : (x : Value) (next : ℕ → ℕ → ℕ → SourceRan A) (next' : ℕ → ℕ → ℕ → SourceRan A')
        → ((b off len : ℕ) → Alike im Q (next b off len) (next' b off len))
        → Alike im Q (as_buffer x s next) (as_buffer (im.value x) (state_image im s) next')
    buffer_alike x next next' k =
        alike_to im Q (as_buffer x s next) (ap (λ o. buffer_in o (state_image im s) next') (im.out x)) (go (out-Value x))
      where
        go : (o : Value-F Value) → Alike im Q (buffer_in o s next) (buffer_in (under o) (state_image im s) next')
        go (Value-F.Buf b off len) = k b off len
        go _ = alike_ends im Q Undefined s

    pub struct_alike : (x : Value) (next : List (List ℕ) → List Value → SourceRan A) (next' : List (List ℕ) → List Value → SourceRan A')
        → ((names : List (List ℕ)) (xs : List Value) → Alike im Q (next names xs) (next' (map im.field names) (map im.value xs)))
        → Alike im Q (as_struct x s next) (as_struct (im.value x) (state_image im s) next')
    struct_alike x next next' k =
        alike_to im Q (as_struct x s next) (ap (λ o. struct_in o (state_image im s) next') (im.out x)) (go (out-Value x))
      where
        go : (o : Value-F Value) → Alike im Q (struct_in o s next) (struct_in (under o) (state_image im s) next')
        go (Value-F.Struct names xs) = k names xs
        go _ = alike_ends im Q Undefined s

    pub con_alike : (x : Value) (next : ℕ → List Value → SourceRan A) (next' : ℕ → List Value → SourceRan A')
        → ((j : ℕ) (xs : List Value) → Alike im Q (next j xs) (next' j (map im.value xs)))
        → Alike im Q (as_con x s next) (as_con (im.value x) (state_image im s) next')
    con_alike x next next' k =
        alike_to im Q (as_con x s next) (ap (λ o. con_in o (state_image im s) next') (im.out x)) (go (out-Value x))
      where
        go : (o : Value-F Value) → Alike im Q (con_in o s next) (con_in (under o) (state_image im s) next')
        go (Value-F.Con j xs) = k j xs
        go _ = alike_ends im Q Undefined s
