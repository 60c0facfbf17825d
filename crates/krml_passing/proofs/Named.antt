-- Files under new names that tell names apart: they run as the file does, whatever a pass makes of bodies besides, as long as
-- bodies do the same.
use Rattle.std.proofs.Common.{◌≡◌, ℕ, List, [], ◌∷◌, map, Option, Some, None, option_map, option_and_then, slice_get, bytes_eq, refl, sym, ap, ◌∙◌}
use Rattle.std.proofs.lemmas.List.{map-append}
use Rattle.std.proofs.lemmas.Option.{slice_get-map}
use Rattle.krml_trace.specs.declared.width.Width.{Width}
use Rattle.krml_trace.specs.declared.argument.Arg.{Arg}
use Rattle.krml_trace.specs.declared.argument.Arg.TheVariants as arg
use Rattle.krml_trace.specs.declared.why.Why.TheVariants.{Undefined}
use Rattle.krml_syntax.specs.declared.tree.Ty.{Ty, out-Ty}
use Rattle.krml_syntax.specs.declared.tree.Ty.TheOpen.{Ty-F}
use Rattle.krml_syntax.specs.declared.tree.Field.{Field}
use Rattle.krml_syntax.specs.declared.tree.Pat.{Pat}
use Rattle.krml_syntax.specs.declared.tree.Expr.{Expr}
use Rattle.krml_syntax.specs.declared.tree.Expr.TheOpen.{Expr-F}
use Rattle.krml_syntax.specs.declared.tree.Def.{Def}
use Rattle.krml_syntax.specs.declared.tree.SourceFile.{SourceFile}
use Rattle.krml_meaning.specs.declared.value.Value.{Value}
use Rattle.krml_meaning.specs.State.{Variables, Env, value_of, with_vars, closed, closed_slot}
use Rattle.krml_meaning.specs.Meaning as src
use Rattle.krml_passing.specs.Images.{Images, vars_image, event_image, state_image}
use Rattle.krml_passing.specs.Alike.{IsImage, Same}
use Rattle.krml_passing.specs.RunsAs.{RunsAs, FitsAs}
use Rattle.krml_rename.specs.Renaming.{slot_renamed, expr_renamed}
use Rattle.krml_passing.specs.Naming.{Naming, TellsNamesApart, ty_under, images_of, renaming_of, env_image, under_names, param_under, file_under, function_under, file_renamed}
use Rattle.krml_passing.proofs.Alike.{alike_some, alike_to}
use Rattle.krml_passing.proofs.Values.{first_image}
use Rattle.krml_passing.proofs.Forms.{SameCon, SameZero}
use Rattle.krml_passing.proofs.Renamed.{ScopesKept, Kept, PatKept, renamed_same}
use Rattle.krml_passing.proofs.RunsAs.{CallsAlike, enter_alike, runs_as, fits_as, start_image}
use Rattle.krml_passing.proofs.Starts.{FitsAlike, starts_alike}
use Rattle.krml_passing.proofs.Lookups.{to, int_under, ty_at, place_under, fields_of_under, con_place_under, table_from_under, function_named_under, has_entry_under, zero_value_under}
use Rattle.krml_passing.proofs.Patterns.{takes_under}

itself : {A : Type 0} (o : Option A) → o ≡ option_map (λ a. a) o
itself (Some a) = refl
itself None = refl

module _ (n : Naming) (ok : TellsNamesApart n) where
  abbrev im : Images
  im = images_of n ok

  -- ---- scopes

  value_of_image : (vars : Variables) (x : List ℕ) → value_of (vars_image im vars) x ≡ option_map n.value (value_of vars x)
  value_of_image [] x = refl
  value_of_image (p ∷ vars) x = first_image n.value (bytes_eq p.0 x) p.1 _ _ (value_of_image vars x)

  with_vars_image : (vars : Variables) (env : Env) → with_vars (vars_image im vars) (env_image n env) ≡ env_image n (with_vars vars env)
  with_vars_image vars env = ap (λ z. record (env_image n env) { vars = z }) (sym (map-append (λ p. (p.0, n.value p.1)) vars env.vars))

  closed_image : (env : Env) (types : List Ty) → map (closed (env_image n env)) (map n.ty types) ≡ map n.ty (map (closed env) types)
  closed_image env [] = refl
  closed_image env (a ∷ types) = ap (λ z. z ∷ map (closed (env_image n env)) (map n.ty types)) (ty_at n ok env.tvars env.targs a)
      ∙ ap (λ z. n.ty (closed env a) ∷ z) (closed_image env types)

  pub scopes_under : ScopesKept im (renaming_of n) (under_names n)
  scopes_under = record {
    steady = λ env env' m m1 i. i;
    vars = λ env env' m vars i. ap (with_vars (vars_image im vars)) i ∙ with_vars_image vars env;
    base = λ env env' m k i. ap (λ (z : Env). record z { base = k }) i;
    look = λ env env' m x i. ap (λ (z : Env). value_of z.vars x) i ∙ value_of_image env.vars x;
    at_base = λ env env' m i. ap (λ (z : Env). z.base) i;
    slot = λ env env' m s i. ap (λ z. closed_slot z (slot_renamed (renaming_of n) s)) i
        ∙ ap (λ z. record { ty = z; len = s.len }) (ty_at n ok env.tvars env.targs s.ty);
  }

  -- ---- calls

  -- what is called under the new names
  abbrev pub called_under : src.Called → src.Called
  called_under c = record { name = n.fun c.name; types = map n.ty c.types; values = map n.value c.values }

  abbrev pub CallsUnder : src.Calls → src.Calls → Type 0
  CallsUnder = CallsAlike im (λ w. refl) (λ c c' m. c' ≡ called_under c)

  -- ---- names of a layer

  module _ (body : Expr → Expr) (defs : List Def) (calls calls' : src.Calls) (k : CallsUnder calls calls') where
    abbrev con_kept : (x : List ℕ) → SameCon defs (to n ok body defs) x (n.con x)
    con_kept x = record { to = place_under n ok; is = con_place_under n ok body defs x; place = λ p. refl }

    zero_kept : (x : List ℕ) (j : ℕ) → SameZero im defs (to n ok body defs) x (n.con x) (con_kept x) j
    zero_kept x j p e = ap (option_and_then (src.zero_value (to n ok body defs))) (slice_get-map n.ty p.1 j) ∙ go (slice_get p.1 j)
      where
        go : (o : Option Ty) → option_and_then (src.zero_value (to n ok body defs)) (option_map n.ty o)
            ≡ option_map n.value (option_and_then (src.zero_value defs) o)
        go (Some a) = zero_value_under n ok body defs a
        go None = refl

    pub names_under : {E I A C : Type 0} (y : Expr-F E I A C)
        → Kept im (renaming_of n) (under_names n) scopes_under (λ y. refl) defs (to n ok body defs) calls calls' y
    names_under (Expr-F.Make x args es) = fields_of_under n ok body defs x
    names_under (Expr-F.Con x args es) = con_kept x
    names_under (Expr-F.Tab x a) = table_from_under n ok body 0 defs x ∙ itself (src.table_from 0 defs x)
    names_under (Expr-F.Call f args es) = λ env env' xs s i. k (record { name = f; types = map (closed env) args; values = xs }) _ s
        (ap (λ z. record { name = n.fun f; types = z; values = map n.value xs }) (ap (λ z. map (closed z) (map n.ty args)) i
        ∙ closed_image env args))
    names_under (Expr-F.TagIs x a) = con_kept x
    names_under (Expr-F.Part x j a) = (con_kept x, zero_kept x j)
    names_under _ = tt

    pub pats_under : (q : Pat) → PatKept im (renaming_of n) (under_names n) scopes_under (λ y. refl) defs (to n ok body defs) calls calls' q
    pats_under q x = (takes_under n ok body defs q).run x

  -- ---- arguments

  fits_under_ty : FitsAlike im (λ i. int_under n ok i) n.ty
  fits_under_ty x a b = ap (src.passing x a) (ok.out_ty b) ∙ go x a (out-Ty b)
    where
      buffer : (x : List ℕ) (w : Width) (nums : List ℕ) (o : Ty-F Ty) → src.buffer_for x w nums (ty_under n.ty n.named o)
          ≡ src.buffer_for x w nums o
      buffer x w nums (Ty-F.Int i) = refl
      buffer x w nums _ = refl

      go : (x : List ℕ) (a : Arg) (o : Ty-F Ty) → src.passing x a (ty_under n.ty n.named o) ≡ src.passing x a o
      go x (arg.Buf w nums) (Ty-F.Buf a) = ap (src.buffer_for x w nums) (ok.out_ty a) ∙ buffer x w nums (out-Ty a)
      go x (arg.Bool b) Ty-F.Bool = refl
      go x (arg.Bool b) _ = refl
      go x (arg.Num w k) (Ty-F.Int i) = refl
      go x (arg.Num w k) _ = refl
      go x (arg.Buf w nums) _ = refl

  -- ---- files

  params_under : (params : List Field) (xs : List Value) (vars : Variables)
      → src.params_over (map (param_under n) params) (map n.value xs) (vars_image im vars)
      ≡ option_map (vars_image im) (src.params_over params xs vars)
  params_under [] [] vars = refl
  params_under [] (x ∷ xs) vars = refl
  params_under (p ∷ params) [] vars = refl
  params_under (p ∷ params) (x ∷ xs) vars = params_under params xs ((p.name, x) ∷ vars)

  module _ (body : Expr → Expr) where
    -- Bodies do the same, where calls do.
    abbrev pub BodiesSame : List Def → Type 0
    BodiesSame defs = (calls calls' : src.Calls) → CallsUnder calls calls' → (x : Expr)
        → Same im (under_names n) (src.eval defs calls x) (src.eval (to n ok body defs) calls' (body x))

    body_under : (defs : List Def) → BodiesSame defs → (calls calls' : src.Calls) → CallsUnder calls calls'
        → CallsUnder (src.body_of defs calls) (src.body_of (to n ok body defs) calls')
    body_under defs same calls calls' k c c' s e = alike_to im (IsImage im) (src.body_of defs calls c s)
        (ap (λ z. src.body_of (to n ok body defs) calls' z (state_image im s)) e)
        (alike_some im (IsImage im) (function_under n body) Undefined (src.function_named defs c.name) _ s _ _
        (function_named_under n ok body defs c.name) (λ f is_f.
        alike_some im (IsImage im) (vars_image im) Undefined (src.params_over f.params c.values []) _ s _ _
        (params_under f.params c.values []) (λ vars is_vars.
        (same calls calls' k f.body).run (src.env_of f c.types vars) _ s refl)))

    pub starts_under : (file : SourceFile) (entry : List ℕ) (args : List Arg)
        → src.start (file_under n body file) (n.fun entry) args
        ≡ option_map (start_image im (function_under n body)) (src.start file entry args)
    starts_under file = starts_alike im (λ i. int_under n ok i) n.ty fits_under_ty (function_under n body) (λ f. refl) file
        (file_under n body file) n.fun
        (has_entry_under n ok body file.defs) (λ x e. function_named_under n ok body file.defs x)

    -- Each run under the new names is the run under the old ones.
    pub runs_under : (file : SourceFile) → BodiesSame file.defs → RunsAs n.fun (event_image im) file (file_under n body file)
    runs_under file same = runs_as im (λ w. refl) file (file_under n body file) n.fun (function_under n body) (starts_under file)
        (λ entry args bound b is_b.
        (same (src.enter file.defs bound.depth) (src.enter (to n ok body file.defs) bound.depth)
        (enter_alike im (λ w. refl) (λ c c' m. c' ≡ called_under c) file.defs (to n ok body file.defs)
        (body_under file.defs same) bound.depth)
        b.function.body).run
        (src.env_of b.function [] b.passed.given) _ _ refl)

    pub fits_under : (file : SourceFile) → FitsAs n.fun file (file_under n body file)
    fits_under file = fits_as im (λ w. refl) file (file_under n body file) n.fun (function_under n body) (starts_under file)

  -- A renaming that tells names apart keeps runs.
  pub runs_renamed : (file : SourceFile) → RunsAs n.fun (event_image im) file (file_renamed n file)
  runs_renamed file = runs_under (expr_renamed (renaming_of n)) file
      (λ calls calls' k x. (renamed_same im (renaming_of n) (under_names n) scopes_under (λ y. refl) file.defs
      (to n ok (expr_renamed (renaming_of n)) file.defs) calls calls' (names_under (expr_renamed (renaming_of n)) file.defs calls calls' k)
      (pats_under (expr_renamed (renaming_of n)) file.defs calls calls' k) x).from 0)
