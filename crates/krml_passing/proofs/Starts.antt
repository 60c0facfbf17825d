-- Runs of entries begin alike before a pass and after it: an argument is passed as it is, and fits the same parameters.
use Rattle.std.proofs.Common.{◌≡◌, ℕ, Bool, true, false, if◌then◌else◌, List, [], ◌∷◌, map, length, Option, Some, None, IfSome, option_map, option_and_then, refl, sym, ap, ◌∙◌}
use Rattle.std.proofs.lemmas.List.{map-append, length-map}
use Rattle.krml_trace.specs.declared.width.Width.{Width}
use Rattle.krml_trace.specs.declared.argument.Arg.{Arg}
use Rattle.krml_trace.specs.declared.argument.Arg.TheVariants as arg
use Rattle.krml_trace.specs.Width.{same_width}
use Rattle.krml_trace.specs.Host as host
use Rattle.krml_trace.specs.Host.{Plain, pass, pass_all}
use Rattle.krml_syntax.specs.declared.tree.IntTy.{IntTy}
use Rattle.krml_syntax.specs.declared.tree.Ty.{Ty, out-Ty}
use Rattle.krml_syntax.specs.declared.tree.Ty.TheVariants as t
use Rattle.krml_syntax.specs.declared.tree.Ty.TheOpen.{Ty-F}
use Rattle.krml_syntax.specs.declared.tree.Field.{Field}
use Rattle.krml_syntax.specs.declared.tree.SourceFile.{SourceFile}
use Rattle.krml_meaning.specs.declared.value.Value.{Value}
use Rattle.krml_meaning.specs.declared.value.Value.TheVariants as v
use Rattle.krml_meaning.specs.State.{Block}
use Rattle.krml_meaning.specs.Meaning as src
use Rattle.krml_passing.specs.Images.{Images, block_image}
use Rattle.krml_passing.proofs.RunsAs.{passed_image, start_image}
use Rattle.krml_passing.proofs.Values as is

module _ (im : Images) (ints : (i : IntTy) → im.ty (t.Int i) ≡ t.Int i) where
  -- ---- an argument is passed as it is

  abbrev Stays : src.Passing → Type 0
  Stays k = (p : src.Passed) → pass (passed_image im p) k ≡ passed_image im (pass p k)

  abbrev AllStay : List src.Passing → Type 0
  AllStay ks = (p : src.Passed) → pass_all (passed_image im p) ks ≡ passed_image im (pass_all p ks)

  value_stays : (x : List ℕ) (a : Value) → im.value a ≡ a → Stays (Plain (x, a))
  value_stays x a h p = ap (λ z. pass (passed_image im p) (Plain (x, z))) (sym h)

  numbers_stay : (i : IntTy) (nums : List ℕ) → map im.value (map (λ n. v.Num i.width n) nums) ≡ map (λ n. v.Num i.width n) nums
  numbers_stay i [] = refl
  numbers_stay i (n ∷ nums) = rw (is.num_value im i.width n, numbers_stay i nums) refl

  buffer_stays : (x : List ℕ) (i : IntTy) (nums : List ℕ) → Stays (src.buffer x i nums)
  buffer_stays x i nums p =
      let block : Block = record { elem = t.Int i; len = length nums; live = true; items = map (λ n. v.Num i.width n) nums } in
      rw (
        map-append (block_image im) p.memory (block ∷ []),
        length-map p.memory (block_image im),
        is.buf_value im (length p.memory) 0 (length nums),
        ints i,
        numbers_stay i nums,
      ) refl

  same_stays : (w w' : Width) (k : src.Passing) → Stays k → IfSome (src.where_same w w' k) Stays
  same_stays w w' k h = go (same_width w w')
    where
      go : (b : Bool) → IfSome (if b then Some k else None) Stays
      go true = h
      go false = tt

  buffer_for_stays : (x : List ℕ) (w : Width) (nums : List ℕ) (o : Ty-F Ty) → IfSome (src.buffer_for x w nums o) Stays
  buffer_for_stays x w nums (Ty-F.Int i) = same_stays w i.width (src.buffer x i nums) (buffer_stays x i nums)
  buffer_for_stays x w nums _ = tt

  passing_stays : (x : List ℕ) (a : Arg) (o : Ty-F Ty) → IfSome (src.passing x a o) Stays
  passing_stays x (arg.Bool b) Ty-F.Bool = value_stays x (v.Bool b) (is.bool_value im b)
  passing_stays x (arg.Bool b) _ = tt
  passing_stays x (arg.Num w n) (Ty-F.Int i) = same_stays w i.width (Plain (x, v.Num w n)) (value_stays x (v.Num w n) (is.num_value im w n))
  passing_stays x (arg.Num w n) _ = tt
  passing_stays x (arg.Buf w nums) (Ty-F.Buf a) = buffer_for_stays x w nums (out-Ty a)
  passing_stays x (arg.Buf w nums) _ = tt

  passings_stay : (params : List Field) (args : List Arg) → IfSome (src.passings params args) AllStay
  passings_stay [] [] = λ p. refl
  passings_stay [] (a ∷ args) = tt
  passings_stay (f ∷ params) [] = tt
  passings_stay (f ∷ params) (a ∷ args) = go (src.passing f.name a (out-Ty f.ty)) (src.passings params args)
      (passing_stays f.name a (out-Ty f.ty)) (passings_stay params args)
    where
      go : (o : Option src.Passing) (os : Option (List src.Passing)) → IfSome o Stays → IfSome os AllStay
          → IfSome (option_and_then (λ k. option_map (λ ks. k ∷ ks) os) o) AllStay
      go (Some k) (Some ks) h hs = λ p. ap (λ z. pass_all z ks) (h p) ∙ hs (pass p k)
      go (Some k) None h hs = tt
      go None os h hs = tt

  -- ---- and fits the same parameters

  abbrev pub param_as : (Ty → Ty) → Field → Field
  param_as ty p = record { name = p.name; ty = ty p.ty }

  -- the same arguments fit a type and what becomes of it
  abbrev pub FitsAlike : (Ty → Ty) → Type 0
  FitsAlike ty = (x : List ℕ) (a : Arg) (b : Ty) → src.passing x a (out-Ty (ty b)) ≡ src.passing x a (out-Ty b)

  passings_same : (ty : Ty → Ty) → FitsAlike ty → (params : List Field) (args : List Arg) → src.passings (map (param_as ty) params) args
      ≡ src.passings params args
  passings_same ty fits [] [] = refl
  passings_same ty fits [] (a ∷ args) = refl
  passings_same ty fits (f ∷ params) [] = refl
  passings_same ty fits (f ∷ params) (a ∷ args) = rw (fits f.name a f.ty, passings_same ty fits params args) refl

  -- The functions of entries keep their parameters, under other types that the same arguments fit.
  module _ (ty : Ty → Ty) (fits : FitsAlike ty) (fun : src.Function → src.Function) (params : (f : src.Function)
      → (fun f).params ≡ map (param_as ty) f.params) where
    start_of_image : (args : List Arg) (f : src.Function) → src.start_of args (fun f)
        ≡ option_map (start_image im fun) (src.start_of args f)
    start_of_image args f = ap (λ z. option_map (λ ks. record { function = fun f; passed = host.passed ks }) (src.passings z args))
        (params f)
        ∙ ap (option_map (λ ks. record { function = fun f; passed = host.passed ks })) (passings_same ty fits f.params args)
        ∙ go (src.passings f.params args) (passings_stay f.params args)
      where
        go : (o : Option (List src.Passing)) → IfSome o AllStay → option_map (λ ks. record { function = fun f; passed = host.passed ks }) o
            ≡ option_map (start_image im fun) (option_map (λ ks. record { function = f; passed = host.passed ks }) o)
        go (Some ks) h = ap (λ (z : src.Passed). Some (record { function = fun f; passed = z })) (h host.nothing)
        go None h = refl

    -- runs of entries begin alike, where entries are kept with their functions
    pub starts_alike : (file to : SourceFile) (entry_image : List ℕ → List ℕ)
        → ((x : List ℕ) → src.has_entry to.defs (entry_image x) ≡ src.has_entry file.defs x)
        → ((x : List ℕ) → src.has_entry file.defs x ≡ true → src.function_named to.defs (entry_image x)
        ≡ option_map fun (src.function_named file.defs x))
        → (entry : List ℕ) (args : List Arg) → src.start to (entry_image entry) args
        ≡ option_map (start_image im fun) (src.start file entry args)
    starts_alike file to entry_image entries functions entry args =
        ap (λ b. if b then option_and_then (src.start_of args) (src.function_named to.defs (entry_image entry)) else None) (entries entry)
        ∙ go (src.has_entry file.defs entry) refl
      where
        at : (o : Option src.Function) → option_and_then (src.start_of args) (option_map fun o)
            ≡ option_map (start_image im fun) (option_and_then (src.start_of args) o)
        at (Some f) = start_of_image args f
        at None = refl

        go : (b : Bool) → src.has_entry file.defs entry ≡ b
            → (if b then option_and_then (src.start_of args) (src.function_named to.defs (entry_image entry)) else None)
            ≡ option_map (start_image im fun) (if b then option_and_then (src.start_of args) (src.function_named file.defs entry) else None)
        go true e = ap (option_and_then (src.start_of args)) (functions entry e) ∙ at (src.function_named file.defs entry)
        go false e = refl
