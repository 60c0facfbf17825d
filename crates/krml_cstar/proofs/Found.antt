-- In the program of a well typed file each name means what it means in the file.
use Rattle.std.proofs.Common.{◌≡◌, ℕ, zero, suc, ◌+◌, Bool, true, false, if◌then◌else◌, List, [], ◌∷◌, ◌++◌, take, length, filter, flat_map, Contains, Some, None, ◌⊎◌, inl, inr, refl, sym, ap, ◌∙◌, subst, arith}
use Rattle.std.specs.Option.{option_or}
use Rattle.std.specs.List.{AllByRecursion}
use Rattle.std.specs.Str.{bytes_eq}
use Rattle.std.proofs.lemmas.Slice.Eq.{bytes_eq-Decides}
use Rattle.std.proofs.lemmas.List.Concat.{flat_map-append}
use Rattle.std.proofs.lemmas.List.Elements.{Contains-append_left, Contains-append_right, Contains-append_cases}
use Rattle.krml_trace.proofs.Lists.{contains_first}
use Rattle.krml_syntax.specs.declared.tree.Field.{Field}
use Rattle.krml_syntax.specs.declared.tree.Def.{Def}
use Rattle.krml_syntax.specs.declared.tree.Def.TheVariants as d
use Rattle.krml_syntax.specs.declared.tree.SourceFile.{SourceFile}
use Rattle.krml_ast.specs.Names.{Struct, Sum, Signature, type_named, fun_named}
use Rattle.krml_ast.specs.WellTyped.{type_name, table_name, fun_name, WellTyped, AreWellTyped}
use Rattle.krml_meaning.specs.Meaning as src
use Rattle.krml_meaning.proofs.Lists.{same_some, no_some}
use Rattle.krml_meaning.proofs.Facts.{same_struct}
use Rattle.krml_meaning.proofs.Files.{through}
use Rattle.krml_ctree.specs.declared.tree.CStruct.{CStruct}
use Rattle.krml_ctree.specs.declared.tree.CTable.{CTable}
use Rattle.krml_ctree.specs.declared.tree.CFun.{CFun}
use Rattle.krml_trace.specs.First.{numbered}
use Rattle.krml_ctree.specs.Parts.{the_only}
use Rattle.krml_cstar.specs.Translation.{fun_code, structs_of, tables_of, funs_of, program_of}
use Rattle.krml_cstar.specs.Image.{place}
use Rattle.krml_cstar.proofs.Lookups.{Lookups, fields_of}

-- ---- names that are given once

abbrev Absent : (Def → List (List ℕ)) → List Def → List ℕ → Type 0
Absent names defs x = Contains (flat_map names defs) x → ⊥

-- no name that a definition gives is given by a later one
abbrev Apart : (Def → List (List ℕ)) → List Def → Type 0
Apart names [] = Unit {0}
Apart names (def ∷ defs) = AllByRecursion (Absent names defs) (names def) × Apart names defs

module _ (names : Def → List (List ℕ)) where
  absent_more : (before : List Def) (def : Def) (x : List ℕ) → Absent names before x → (Contains (names def) x → ⊥) → Absent names (before ++ def ∷ []) x
  absent_more before def x h k c = go (Contains-append_cases (flat_map names before) (flat_map names (def ∷ [])) x (subst (λ z. Contains z x) (flat_map-append names before (def ∷ [])) c))
    where
      last : Contains (names def) x ⊎ Contains [] x → ⊥
      last (inl r) = k r
      last (inr (j, l, e)) = absurd (omega (arith, l))

      go : Contains (flat_map names before) x ⊎ Contains (flat_map names (def ∷ [])) x → ⊥
      go (inl r) = h r
      go (inr r) = last (Contains-append_cases (names def) [] x r)

  -- a new definition is apart
  apart_more : (before : List Def) (def : Def) → Apart names before → AllByRecursion (Absent names before) (names def) → Apart names (before ++ def ∷ [])
  apart_more [] def h k = (all_absent (names def), tt)
    where
      all_absent : (xs : List (List ℕ)) → AllByRecursion (Absent names []) xs
      all_absent [] = tt
      all_absent (x ∷ xs) = ((λ (j, l, e). absurd (omega (arith, l))), all_absent xs)
  apart_more (first ∷ before) def h k = (each (names first) (λ x c. Contains-append_left (names first) (flat_map names before) x c) h.0, apart_more before def h.1 (less (names def) k))
    where
      less : (xs : List (List ℕ)) → AllByRecursion (Absent names (first ∷ before)) xs → AllByRecursion (Absent names before) xs
      less [] q = tt
      less (x ∷ xs) q = ((λ c. q.0 (Contains-append_right (names first) (flat_map names before) x c)), less xs q.1)

      not_new : (ys : List (List ℕ)) (x : List ℕ) → AllByRecursion (Absent names (first ∷ before)) ys → Contains (flat_map names (first ∷ before)) x → Contains ys x → ⊥
      not_new [] x q c (j, l, e) = absurd (omega (arith, l))
      not_new (y ∷ ys) x q c (zero, l, e) = q.0 (subst (λ z. Contains (flat_map names (first ∷ before)) z) (sym e) c)
      not_new (y ∷ ys) x q c (suc j, l, e) = not_new ys x q.1 c (j, omega (arith, l), e)

      each : (xs : List (List ℕ)) → ((x : List ℕ) → Contains xs x → Contains (flat_map names (first ∷ before)) x) → AllByRecursion (Absent names before) xs
          → AllByRecursion (Absent names (before ++ def ∷ [])) xs
      each [] among q = tt
      each (x ∷ xs) among q = (
        absent_more before def x q.0 (not_new (names def) x k (among x (contains_first x xs))),
        each xs (λ y c. among y (Contains-append_right (x ∷ []) xs y c)) q.1,
      )

new_types : (defs before : List Def) (def : Def) → WellTyped defs before def → AllByRecursion (Absent type_name before) (type_name def)
new_types defs before def (WellTyped.struct new vs fs ok) = new.1
new_types defs before def (WellTyped.sum new cs vs ok) = new.1
new_types defs before def (WellTyped.table new ok) = tt
new_types defs before def (WellTyped.fun new vs ps ok r res b) = tt
new_types defs before def (WellTyped.entry new is none ps ans) = tt

new_tables : (defs before : List Def) (def : Def) → WellTyped defs before def → AllByRecursion (Absent table_name before) (table_name def)
new_tables defs before def (WellTyped.table new ok) = new.1
new_tables defs before def (WellTyped.struct new vs fs ok) = tt
new_tables defs before def (WellTyped.sum new cs vs ok) = tt
new_tables defs before def (WellTyped.fun new vs ps ok r res b) = tt
new_tables defs before def (WellTyped.entry new is none ps ans) = tt

new_funs : (defs before : List Def) (def : Def) → WellTyped defs before def → AllByRecursion (Absent fun_name before) (fun_name def)
new_funs defs before def (WellTyped.fun new vs ps ok r res b) = new.1
new_funs defs before def (WellTyped.struct new vs fs ok) = tt
new_funs defs before def (WellTyped.sum new cs vs ok) = tt
new_funs defs before def (WellTyped.table new ok) = tt
new_funs defs before def (WellTyped.entry new is none ps ans) = tt

-- a name that no later definition gives is not the first one's either
absent_first : (name x : List ℕ) (names : List (List ℕ)) → (Contains (name ∷ names) x → ⊥) → bytes_eq name x ≡ false
absent_first name x names h = off (bytes_eq name x) refl
  where
    off : (b : Bool) → bytes_eq name x ≡ b → b ≡ false
    off false e = refl
    off true e = absurd (h (subst (λ z. Contains (name ∷ names) z) ((bytes_eq-Decides name x).0 e) (contains_first name names)))

absent_rest : (name x : List ℕ) (names : List (List ℕ)) → (Contains (name ∷ names) x → ⊥) → Contains names x → ⊥
absent_rest name x names h c = h (Contains-append_right (name ∷ []) names x c)

absent_same : (name x : List ℕ) (names : List (List ℕ)) → bytes_eq name x ≡ true → (Contains names name → ⊥) → Contains names x → ⊥
absent_same name x names e h = subst (λ z. Contains names z → ⊥) ((bytes_eq-Decides name x).0 e) h

-- ---- functions

module _ (defs : List Def) (x : List ℕ) where
  abbrev funs : List Def → List CFun
  funs ds = filter (λ f. bytes_eq f.name x) (flat_map (funs_of defs) ds)

  no_fun : (ds : List Def) → Absent fun_name ds x → funs ds ≡ []
  no_fun [] h = refl
  no_fun (d.Fun name vars params result body ∷ ds) h = rw (absent_first name x (flat_map fun_name ds) h) (no_fun ds (absent_rest name x (flat_map fun_name ds) h))
  no_fun (d.Struct name vars fields ∷ ds) h = no_fun ds h
  no_fun (d.Sum name vars cons ∷ ds) h = no_fun ds h
  no_fun (d.Table name i nums ∷ ds) h = no_fun ds h
  no_fun (d.Entry name ∷ ds) h = no_fun ds h

  the_fun : (ds : List Def) (f : Signature) (fun : src.Function) → Apart fun_name ds → fun_named ds x ≡ Some f → src.function_named ds x ≡ Some fun
      → funs ds ≡ fun_code defs x f.params f.result fun.body ∷ []
  the_fun [] f fun h e q = absurd (no_some f e)
  the_fun (d.Fun name vars params result body ∷ ds) f fun h e q = go (bytes_eq name x) refl e q (the_fun ds f fun h.1)
    where
      go : (b : Bool) → bytes_eq name x ≡ b → option_or (if b then Some (record { vars = vars; params = params; result = result }) else None) (fun_named ds x) ≡ Some f
          → option_or (if b then Some (record { tvars = vars; params = params; body = body }) else None) (src.function_named ds x) ≡ Some fun
          → (fun_named ds x ≡ Some f → src.function_named ds x ≡ Some fun → funs ds ≡ fun_code defs x f.params f.result fun.body ∷ [])
          → (if b then fun_code defs name params result body ∷ funs ds else funs ds) ≡ fun_code defs x f.params f.result fun.body ∷ []
      go true is e' q' later =
          let same : record { vars = vars; params = params; result = result } ≡ f = same_some (record { vars = vars; params = params; result = result }) f e' in
          let alike : record { tvars = vars; params = params; body = body } ≡ fun = same_some (record { tvars = vars; params = params; body = body }) fun q' in
          ap (λ z. fun_code defs name params result body ∷ z) (no_fun ds (absent_same name x (flat_map fun_name ds) is h.0.0)) ∙ ap (λ z. fun_code defs z params result body ∷ []) ((bytes_eq-Decides name x).0 is)
          ∙ ap (λ (z : Signature). fun_code defs x z.params z.result body ∷ []) same ∙ ap (λ (z : src.Function). fun_code defs x f.params f.result z.body ∷ []) alike
      go false is e' q' later = later e' q'
  the_fun (d.Struct name vars fields ∷ ds) f fun h e q = the_fun ds f fun h.1 e q
  the_fun (d.Sum name vars cons ∷ ds) f fun h e q = the_fun ds f fun h.1 e q
  the_fun (d.Table name i nums ∷ ds) f fun h e q = the_fun ds f fun h.1 e q
  the_fun (d.Entry name ∷ ds) f fun h e q = the_fun ds f fun h.1 e q

-- ---- structs

module _ (x : List ℕ) where
  abbrev structs : List Def → List CStruct
  structs ds = filter (λ s. bytes_eq s.name x) (flat_map structs_of ds)

  no_struct : (ds : List Def) → Absent type_name ds x → structs ds ≡ []
  no_struct [] h = refl
  no_struct (d.Struct name vars fields ∷ ds) h = rw (absent_first name x (flat_map type_name ds) h) (no_struct ds (absent_rest name x (flat_map type_name ds) h))
  no_struct (d.Sum name vars cons ∷ ds) h = no_struct ds (absent_rest name x (flat_map type_name ds) h)
  no_struct (d.Fun name vars params result body ∷ ds) h = no_struct ds h
  no_struct (d.Table name i nums ∷ ds) h = no_struct ds h
  no_struct (d.Entry name ∷ ds) h = no_struct ds h

  the_struct : (ds : List Def) (vars : List (List ℕ)) (fields : List Field) → Apart type_name ds → type_named ds x ≡ Some (Struct vars fields)
      → structs ds ≡ record { name = x; fields = fields_of fields } ∷ []
  the_struct [] vars fields h e = absurd (no_some (Struct vars fields) e)
  the_struct (d.Struct name vs fs ∷ ds) vars fields h e = go (bytes_eq name x) refl e (the_struct ds vars fields h.1)
    where
      go : (b : Bool) → bytes_eq name x ≡ b → option_or (if b then Some (Struct vs fs) else None) (type_named ds x) ≡ Some (Struct vars fields)
          → (type_named ds x ≡ Some (Struct vars fields) → structs ds ≡ record { name = x; fields = fields_of fields } ∷ [])
          → (if b then record { name = name; fields = fields_of fs } ∷ structs ds else structs ds) ≡ record { name = x; fields = fields_of fields } ∷ []
      go true is e' later =
          let same = same_struct vs vars fs fields (same_some (Struct vs fs) (Struct vars fields) e') in
          ap (λ z. record { name = name; fields = fields_of fs } ∷ z) (no_struct ds (absent_same name x (flat_map type_name ds) is h.0.0))
          ∙ ap (λ z. record { name = z; fields = fields_of fs } ∷ []) ((bytes_eq-Decides name x).0 is) ∙ ap (λ z. record { name = x; fields = fields_of z } ∷ []) same.1
      go false is e' later = later e'
  the_struct (d.Sum name vs cons ∷ ds) vars fields h e = go (bytes_eq name x) e (the_struct ds vars fields h.1)
    where
      go : (b : Bool) → option_or (if b then Some (Sum vs cons) else None) (type_named ds x) ≡ Some (Struct vars fields)
          → (type_named ds x ≡ Some (Struct vars fields) → structs ds ≡ record { name = x; fields = fields_of fields } ∷ []) → structs ds ≡ record { name = x; fields = fields_of fields } ∷ []
      go true e' later = absurd (cc)
      go false e' later = later e'
  the_struct (d.Fun name vs params result body ∷ ds) vars fields h e = the_struct ds vars fields h.1 e
  the_struct (d.Table name i nums ∷ ds) vars fields h e = the_struct ds vars fields h.1 e
  the_struct (d.Entry name ∷ ds) vars fields h e = the_struct ds vars fields h.1 e

-- ---- tables, with their places

module _ (x : List ℕ) where
  abbrev tables : ℕ → List Def → List (ℕ × CTable)
  tables j ds = filter (λ t. bytes_eq t.1.name x) (numbered j (flat_map tables_of ds))

  no_table : (j : ℕ) (ds : List Def) → Absent table_name ds x → tables j ds ≡ []
  no_table j [] h = refl
  no_table j (d.Table name i nums ∷ ds) h = rw (absent_first name x (flat_map table_name ds) h) (no_table (suc j) ds (absent_rest name x (flat_map table_name ds) h))
  no_table j (d.Struct name vars fields ∷ ds) h = no_table j ds h
  no_table j (d.Sum name vars cons ∷ ds) h = no_table j ds h
  no_table j (d.Fun name vars params result body ∷ ds) h = no_table j ds h
  no_table j (d.Entry name ∷ ds) h = no_table j ds h

  abbrev table_code : src.Table → CTable
  table_code t = record { name = x; width = t.ty.width; nums = t.nums }

  -- the table of number k + i stands behind those of the i definitions before it
  pub record FoundAt (k j : ℕ) (ds : List Def) (t : src.Table) : Type 0 where
    pub i : ℕ
    pub number : t.place ≡ k + i
    pub is : tables j ds ≡ (j + length (flat_map tables_of (take i ds)), table_code t) ∷ []

  the_table : (k j : ℕ) (ds : List Def) (t : src.Table) → Apart table_name ds → src.table_from k ds x ≡ Some t → FoundAt k j ds t
  the_table k j [] t h e = absurd (no_some t e)
  the_table k j (d.Table name i nums ∷ ds) t h e = go (bytes_eq name x) refl e (the_table (suc k) (suc j) ds t h.1)
    where
      go : (b : Bool) → bytes_eq name x ≡ b → option_or (if b then Some (record { place = k; ty = i; nums = nums }) else None) (src.table_from (suc k) ds x) ≡ Some t
          → (src.table_from (suc k) ds x ≡ Some t → FoundAt (suc k) (suc j) ds t) → FoundAt k j (d.Table name i nums ∷ ds) t
      go true q e' later =
          let same : record { place = k; ty = i; nums = nums } ≡ t = same_some (record { place = k; ty = i; nums = nums }) t e' in
          let code : CTable = record { name = name; width = i.width; nums = nums } in
          let z : j ≡ j + 0 = omega arith in
          let z' : k ≡ k + 0 = omega arith in
          record {
            i = 0;
            number = ap (λ (u : src.Table). u.place) (sym same) ∙ z';
            is = rw q (ap (λ w. (j, code) ∷ w) (no_table (suc j) ds (absent_same name x (flat_map table_name ds) q h.0.0)) ∙ ap (λ n. (n, code) ∷ []) z
                ∙ ap (λ w. (j + 0, record { name = w; width = i.width; nums = nums }) ∷ []) ((bytes_eq-Decides name x).0 q) ∙ ap (λ (u : src.Table). (j + 0, table_code u) ∷ []) same);
          }
      go false q e' later =
          let f = later e' in
          let n : suc k + f.i ≡ k + suc f.i = omega arith in
          let m : suc j + length (flat_map tables_of (take f.i ds)) ≡ j + suc (length (flat_map tables_of (take f.i ds))) = omega arith in
          record { i = suc f.i; number = f.number ∙ n; is = rw q (f.is ∙ ap (λ w. (w, table_code t) ∷ []) m) }
  the_table k j (d.Struct name vars fields ∷ ds) t h e =
      let f = the_table (suc k) j ds t h.1 e in let n : suc k + f.i ≡ k + suc f.i = omega arith in record { i = suc f.i; number = f.number ∙ n; is = f.is }
  the_table k j (d.Sum name vars cons ∷ ds) t h e =
      let f = the_table (suc k) j ds t h.1 e in let n : suc k + f.i ≡ k + suc f.i = omega arith in record { i = suc f.i; number = f.number ∙ n; is = f.is }
  the_table k j (d.Fun name vars params result body ∷ ds) t h e =
      let f = the_table (suc k) j ds t h.1 e in let n : suc k + f.i ≡ k + suc f.i = omega arith in record { i = suc f.i; number = f.number ∙ n; is = f.is }
  the_table k j (d.Entry name ∷ ds) t h e =
      let f = the_table (suc k) j ds t h.1 e in let n : suc k + f.i ≡ k + suc f.i = omega arith in record { i = suc f.i; number = f.number ∙ n; is = f.is }

-- ---- all

apart : (defs : List Def) (names : Def → List (List ℕ)) → AreWellTyped defs
    → ((defs before : List Def) (def : Def) → WellTyped defs before def → AllByRecursion (Absent names before) (names def)) → Apart names defs
apart defs names typed new = through defs typed (Apart names) (λ before rest def e h w. apart_more names before def h (new defs before def w)) [] defs refl tt

pub lookups : (file : SourceFile) → AreWellTyped file.defs → Lookups file.defs (program_of file)
lookups file typed = record {
  function = λ x f fun e q. ap the_only (the_fun file.defs x file.defs f fun (apart file.defs fun_name typed new_funs) e q);
  struct = λ x vars fields e. ap the_only (the_struct x file.defs vars fields (apart file.defs type_name typed new_types) e);
  table = λ x t e.
      let f = the_table x 0 0 file.defs t (apart file.defs table_name typed new_tables) e in
      let n : 0 + f.i ≡ f.i = omega arith in
      let m : 0 + place file.defs f.i ≡ place file.defs f.i = omega arith in
      ap the_only f.is ∙ ap (λ w. Some (w, table_code x t)) (m ∙ ap (place file.defs) (sym (f.number ∙ n)));
}
