-- A hoisted file under the new names has the form of a bundled one.
use Rattle.std.proofs.Common.{◌≡◌, ℕ, suc, Bool, true, false, List, [], ◌∷◌, ◌++◌, if◌then◌else◌, map, flat_map, take, codes, Some, None, slice_get, Contains, bytes_eq, refl, sym, ap, ◌∙◌, subst, append-nil, append_assoc}
use Rattle.std.specs.Option.{option_or}
use Rattle.std.specs.List.{AllByRecursion, IsDistinct}
use Rattle.std.proofs.lemmas.List.Concat.{flat_map-append}
use Rattle.std.proofs.lemmas.List.Elements.{Contains-append_left, Contains-push}
use Rattle.std.proofs.lemmas.Slice.Eq.{bytes_eq-Decides}
use Rattle.krml_syntax.specs.declared.tree.Def.{Def}
use Rattle.krml_syntax.specs.declared.tree.Def.TheVariants as d
use Rattle.krml_syntax.specs.declared.tree.SourceFile.{SourceFile}
use Rattle.krml_syntax.specs.Name.{IsName}
use Rattle.krml_ast.specs.declared.file.Emitted.{Emitted}
use Rattle.krml_ast.specs.WellTyped.{WellTyped, AreWellTyped, type_name, con_names, table_name, fun_name, entry_name}
use Rattle.krml_ast.specs.FileTypes.{IsSourceName, IsVariable, IsPlainName, IsEmitted, AreNamed, field_names, IsHoisted, IsBundled, emitted_name}
use Rattle.krml_meaning.specs.Meaning.{has_entry}
use Rattle.krml_bundle.specs.Emitted.{emitted_fun, emitted_type, emitted_table, emitted_field}
use Rattle.krml_bundle.specs.Bundled.{c_names, def_bundled, bundled, names_of_def, names_of}
use Rattle.krml_passing.proofs.RenamedNames.{each_map, given_under, type_name_under, con_names_under, table_name_under, fun_name_under, field_names_under}
use Rattle.krml_passing.proofs.RenamedForms.{listed_kept, vars_kept}
use Rattle.krml_bundle.proofs.FormNames.{plain_prefix, emitted_shape}
use Rattle.krml_bundle.proofs.Runs.{c_names_apart}

-- ---- names

-- the names of a kind, each of a shape under f
each_named : (names : Def → List (List ℕ)) (f : List ℕ → List ℕ) (P Q : List ℕ → Type 0) → ((def : Def) → names (def_bundled def) ≡ map f (names def)) → ((x : List ℕ) → P x → Q (f x))
    → (defs : List Def) → AllByRecursion P (flat_map names defs) → AllByRecursion Q (flat_map names (map def_bundled defs))
each_named names f P Q under k defs h = subst (AllByRecursion Q) (sym (given_under c_names c_names_apart names f under defs)) (each_map c_names c_names_apart f P Q (flat_map names defs) k h)

pub named_kept : (defs : List Def) → AreNamed IsSourceName IsSourceName IsName IsSourceName IsName IsVariable defs
    → AreNamed (IsEmitted (codes "s") (codes "s")) IsSourceName (IsPlainName (codes "t")) (IsEmitted (codes "f") (codes "g")) (IsPlainName (codes "m")) IsVariable (map def_bundled defs)
named_kept defs n = record {
  types = each_named type_name emitted_type IsSourceName (IsEmitted (codes "s") (codes "s")) (type_name_under c_names c_names_apart) (emitted_shape (codes "s") (codes "s")) defs n.types;
  cons = each_named con_names (λ x. x) IsSourceName IsSourceName (con_names_under c_names c_names_apart) (λ x h. h) defs n.cons;
  tables = each_named table_name emitted_table IsName (IsPlainName (codes "t")) (table_name_under c_names c_names_apart) (plain_prefix (codes "t")) defs n.tables;
  funs = each_named fun_name emitted_fun IsSourceName (IsEmitted (codes "f") (codes "g")) (fun_name_under c_names c_names_apart) (emitted_shape (codes "f") (codes "g")) defs n.funs;
  fields = each_named field_names emitted_field IsName (IsPlainName (codes "m")) (field_names_under c_names c_names_apart) (plain_prefix (codes "m")) defs n.fields;
  vars = subst (AllByRecursion IsVariable) (sym (vars_kept c_names c_names_apart defs)) n.vars;
}

-- ---- entries

abbrev of_all : List Def → List Emitted
of_all defs = flat_map names_of_def defs

emitted_names : (defs : List Def) → map (λ x. x.name) (of_all defs) ≡ flat_map entry_name (map def_bundled defs)
emitted_names [] = refl
emitted_names (d.Struct x vars fields ∷ defs) = emitted_names defs
emitted_names (d.Sum x vars cons ∷ defs) = emitted_names defs
emitted_names (d.Table x i nums ∷ defs) = emitted_names defs
emitted_names (d.Fun x vars params result body ∷ defs) = emitted_names defs
emitted_names (d.Entry x ∷ defs) = ap (λ z. emitted_fun x ∷ z) (emitted_names defs)

entry_names : (defs : List Def) → map (λ x. x.entry) (of_all defs) ≡ flat_map entry_name defs
entry_names [] = refl
entry_names (d.Struct x vars fields ∷ defs) = entry_names defs
entry_names (d.Sum x vars cons ∷ defs) = entry_names defs
entry_names (d.Table x i nums ∷ defs) = entry_names defs
entry_names (d.Fun x vars params result body ∷ defs) = entry_names defs
entry_names (d.Entry x ∷ defs) = ap (λ z. x ∷ z) (entry_names defs)

-- The emitted name of an entry is the new name of its function.
pub entries_named : (defs : List Def) (x : List ℕ) → emitted_name (of_all defs) x ≡ (if has_entry defs x then Some (emitted_fun x) else None)
entries_named [] x = refl
entries_named (d.Struct y vars fields ∷ defs) x = entries_named defs x
entries_named (d.Sum y vars cons ∷ defs) x = entries_named defs x
entries_named (d.Table y i nums ∷ defs) x = entries_named defs x
entries_named (d.Fun y vars params result body ∷ defs) x = entries_named defs x
entries_named (d.Entry y ∷ defs) x = go (bytes_eq y x) refl (entries_named defs x)
  where
    go : (b : Bool) → bytes_eq y x ≡ b → emitted_name (of_all defs) x ≡ (if has_entry defs x then Some (emitted_fun x) else None)
        → option_or (if b then Some (emitted_fun y) else None) (emitted_name (of_all defs) x) ≡ (if (if b then true else has_entry defs x) then Some (emitted_fun x) else None)
    go true e h = ap (λ z. Some (emitted_fun z)) ((bytes_eq-Decides y x).0 e)
    go false e h = h

-- No entry's name was seen, or stands twice.
abbrev AreFresh : List (List ℕ) → List Def → Type 0
AreFresh seen [] = Unit {0}
AreFresh seen (def ∷ defs) = AllByRecursion (λ x. Contains seen x → ⊥) (entry_name def) × AreFresh (seen ++ entry_name def) defs

unlike : (seen : List (List ℕ)) (x y : List ℕ) → Contains seen x → (Contains seen y → ⊥) → bytes_eq x y ≡ false
unlike seen x y has new = go (bytes_eq x y) refl
  where
    go : (b : Bool) → bytes_eq x y ≡ b → b ≡ false
    go true e = absurd (new (subst (λ z. Contains seen z) ((bytes_eq-Decides x y).0 e) has))
    go false e = refl

-- a name that was seen is none of an entry behind
unlike_all : (seen : List (List ℕ)) (defs : List Def) (x : List ℕ) → Contains seen x → AreFresh seen defs → AllByRecursion (λ y. bytes_eq x y ≡ false) (flat_map entry_name defs)
unlike_all seen [] x has h = tt
unlike_all seen (d.Struct y vars fields ∷ defs) x has h = unlike_all (seen ++ []) defs x (Contains-append_left seen [] x has) h.1
unlike_all seen (d.Sum y vars cons ∷ defs) x has h = unlike_all (seen ++ []) defs x (Contains-append_left seen [] x has) h.1
unlike_all seen (d.Table y i nums ∷ defs) x has h = unlike_all (seen ++ []) defs x (Contains-append_left seen [] x has) h.1
unlike_all seen (d.Fun y vars params result body ∷ defs) x has h = unlike_all (seen ++ []) defs x (Contains-append_left seen [] x has) h.1
unlike_all seen (d.Entry y ∷ defs) x has h = (unlike seen x y has h.0.0, unlike_all (seen ++ y ∷ []) defs x (Contains-append_left seen (y ∷ []) x has) h.1)

distinct_from : (seen : List (List ℕ)) (defs : List Def) → AreFresh seen defs → IsDistinct bytes_eq (flat_map entry_name defs)
unfolding IsDistinct
distinct_from seen [] h = tt
distinct_from seen (d.Struct y vars fields ∷ defs) h = distinct_from (seen ++ []) defs h.1
distinct_from seen (d.Sum y vars cons ∷ defs) h = distinct_from (seen ++ []) defs h.1
distinct_from seen (d.Table y i nums ∷ defs) h = distinct_from (seen ++ []) defs h.1
distinct_from seen (d.Fun y vars params result body ∷ defs) h = distinct_from (seen ++ []) defs h.1
distinct_from seen (d.Entry y ∷ defs) h = (unlike_all (seen ++ y ∷ []) defs y (Contains-push seen y) h.1, distinct_from (seen ++ y ∷ []) defs h.1)

entry_new : (all before : List Def) (def : Def) → WellTyped all before def → AllByRecursion (λ x. Contains (flat_map entry_name before) x → ⊥) (entry_name def)
entry_new all before def (WellTyped.struct new distinct names each) = tt
entry_new all before def (WellTyped.sum new new_cons distinct each) = tt
entry_new all before def (WellTyped.table new fit) = tt
entry_new all before def (WellTyped.fun new distinct names each ok gives typed) = tt
entry_new all before def (WellTyped.entry new is none each answer) = new.1

-- definitions that are well typed behind others
fresh_from : (all before defs : List Def) → ((k : ℕ) (def : Def) → slice_get defs k ≡ Some def → WellTyped all (before ++ take k defs) def) → AreFresh (flat_map entry_name before) defs
fresh_from all before [] h = tt
fresh_from all before (def ∷ defs) h = (
  entry_new all before def (subst (λ z. WellTyped all z def) (append-nil before) (h 0 def refl)),
  subst (λ z. AreFresh z defs) (flat_map-append entry_name before (def ∷ []) ∙ ap (λ z. flat_map entry_name before ++ z) (append-nil (entry_name def)))
      (fresh_from all (before ++ def ∷ []) defs (λ k one e. subst (λ z. WellTyped all z one) (sym (append_assoc before (def ∷ []) (take k defs))) (h (suc k) one e))),
)

entries_distinct : (defs : List Def) → AreWellTyped defs → IsDistinct bytes_eq (flat_map entry_name defs)
entries_distinct defs h = distinct_from [] defs (fresh_from defs [] defs h)

-- ---- the form

pub is_bundled : (file : SourceFile) → IsHoisted file → IsBundled (bundled file) (names_of file)
is_bundled file h = record {
  listed = listed_kept c_names c_names_apart file.defs h.listed;
  named = named_kept file.defs h.named;
  emitted = emitted_names file.defs;
  entries = subst (IsDistinct bytes_eq) (sym (entry_names file.defs)) (entries_distinct file.defs h.listed.regular.typed);
}
