-- What forms are read as, definitions, is what they spell, and what they spell they are read as.
use Rattle.std.proofs.Common.{◌≡◌, ℕ, suc, List, [], ◌∷◌, Option, Some, None, refl, sym, ap, ◌∙◌, subst, arith}
use Rattle.krml_forms.specs.declared.form.Form.{Form, out-Form}
use Rattle.krml_forms.specs.declared.form.Form.TheVariants.{Atom, List as Node, outs-List}
use Rattle.krml_forms.specs.Levels.{Within, AllWithin}
use Rattle.krml_forms.proofs.Layer.{list_inside}
use Rattle.krml_syntax.specs.declared.tree.IntTy.{IntTy}
use Rattle.krml_syntax.specs.declared.tree.Field.{Field}
use Rattle.krml_syntax.specs.declared.tree.Con.{Con}
use Rattle.krml_syntax.specs.declared.tree.Def.{Def}
use Rattle.krml_syntax.specs.declared.tree.Def.TheVariants as d
use Rattle.krml_syntax.specs.Name.{IsName}
use Rattle.krml_syntax.specs.Spelling.{int_word, Each, SpellsVar, SpellsNumber, SpellsField, SpellsCon, SpellsDef}
use Rattle.krml_syntax.proofs.Only.{Only, only_none, only_some, only_then, only_more}
use Rattle.krml_reader.specs.declared.keyword.Keyword.{Keyword}
use Rattle.krml_reader.specs.declared.keyword.Keyword.TheVariants as k
use Rattle.krml_reader.specs.Each.{each_of, list_in, below}
use Rattle.krml_reader.specs.Keyword.{spelling, keyword_at}
use Rattle.krml_reader.specs.Words.{name_at, var_at, int_at, number_of_width}
use Rattle.krml_reader.specs.Types.{ty_at, tys_of}
use Rattle.krml_reader.specs.Expression.{expr_at}
use Rattle.krml_reader.specs.Definition.{vars_of, vars_at, field_by, field_at, fields_of, fields_at, con_by, con_at, cons_of, struct_of, sum_of, table_of, fun_of, entry_of, behind, def_by, def_at}
use Rattle.krml_reader.proofs.KeywordLaws.{keyword_here, keyword_is}
use Rattle.krml_reader.proofs.WordLaws.{name_only, name_again, var_only, var_again, int_only, int_here, number_only, number_again}
use Rattle.krml_reader.proofs.EachLaws.{each_only, each_again, each_of_again, list_only, below_only}
use Rattle.krml_reader.proofs.TypeLaws.{ty_only, ty_again, tys_of_only, tys_of_again}
use Rattle.krml_reader.proofs.Expressions.{expr_only, expr_again}

-- ---- what is read is spelled

-- a list of type variables
vars_only : (f : Form) → Only (λ xs. (fs : List Form) × (f ≡ Node fs) × Each SpellsVar fs xs) (vars_at f)
vars_only f = list_only (Each SpellsVar) vars_of (each_only SpellsVar var_at var_only) f

field_by_only : (n : ℕ) (fs : List Form) → Only (SpellsField (Node fs)) (field_by n fs)
field_by_only n (name ∷ ty ∷ []) =
    only_then (name_at name) (name_only name) (λ x is. only_then (ty_at n ty) (ty_only n ty) (λ a s.
    only_some (record { name = x; ty = a }) (subst (λ g. SpellsField (Node (g ∷ ty ∷ [])) (record { name = x; ty = a })) (sym is.0) (SpellsField.field is.1 s))))
field_by_only n _ = only_none

field_only : (n : ℕ) (f : Form) → Only (SpellsField f) (field_at n f)
field_only n f = only_more (list_only (λ fs. SpellsField (Node fs)) (below field_by n) (below_only (λ fs. SpellsField (Node fs)) field_by field_by_only n) f)
    (λ p is. subst (λ g. SpellsField g p) (sym is.1) is.2)

fields_of_only : (n : ℕ) (fs : List Form) → Only (Each SpellsField fs) (fields_of n fs)
fields_of_only n fs = each_only SpellsField (field_at n) (field_only n) fs

-- a list of fields
fields_only : (n : ℕ) (f : Form) → Only (λ ps. (fs : List Form) × (f ≡ Node fs) × Each SpellsField fs ps) (fields_at n f)
fields_only n f = list_only (Each SpellsField) (below fields_of n) (below_only (Each SpellsField) fields_of fields_of_only n) f

con_by_only : (n : ℕ) (fs : List Form) → Only (SpellsCon (Node fs)) (con_by n fs)
con_by_only n [] = only_none
con_by_only n (name ∷ fs) =
    only_then (name_at name) (name_only name) (λ x is. only_then (tys_of n fs) (tys_of_only n fs) (λ bs s.
    only_some (record { name = x; args = bs }) (subst (λ g. SpellsCon (Node (g ∷ fs)) (record { name = x; args = bs })) (sym is.0) (SpellsCon.con is.1 s))))

con_only : (n : ℕ) (f : Form) → Only (SpellsCon f) (con_at n f)
con_only n f = only_more (list_only (λ fs. SpellsCon (Node fs)) (below con_by n) (below_only (λ fs. SpellsCon (Node fs)) con_by con_by_only n) f)
    (λ p is. subst (λ g. SpellsCon g p) (sym is.1) is.2)

cons_of_only : (n : ℕ) (fs : List Form) → Only (Each SpellsCon fs) (cons_of n fs)
cons_of_only n fs = each_only SpellsCon (con_at n) (con_only n) fs

a_struct : {x : List ℕ} {vs : List Form} {vars : List (List ℕ)} {f : Form} {fs : List Form} {bs : List Field} → IsName x → Each SpellsVar vs vars → Each SpellsField (f ∷ fs) bs
    → SpellsDef (Node (Atom (spelling k.Struct) ∷ Atom x ∷ Node vs ∷ f ∷ fs)) (d.Struct x vars bs)
a_struct n v (Each.one s more) = SpellsDef.struct n v s more

struct_only : (fs : List Form) → Only (SpellsDef (Node (Atom (spelling k.Struct) ∷ fs))) (struct_of fs)
struct_only (name ∷ vars ∷ f ∷ fs) =
    only_then (name_at name) (name_only name) (λ x is. only_then (vars_at vars) (vars_only vars) (λ xs v. only_then (fields_of 63 (f ∷ fs)) (fields_of_only 63 (f ∷ fs)) (λ bs s.
    only_some (d.Struct x xs bs) (rw (is.0, v.1) (a_struct is.1 v.2 s)))))
struct_only _ = only_none

a_sum : {x : List ℕ} {vs : List Form} {vars : List (List ℕ)} {f : Form} {fs : List Form} {bs : List Con} → IsName x → Each SpellsVar vs vars → Each SpellsCon (f ∷ fs) bs
    → SpellsDef (Node (Atom (spelling k.Sum) ∷ Atom x ∷ Node vs ∷ f ∷ fs)) (d.Sum x vars bs)
a_sum n v (Each.one s more) = SpellsDef.sum n v s more

sum_only : (fs : List Form) → Only (SpellsDef (Node (Atom (spelling k.Sum) ∷ fs))) (sum_of fs)
sum_only (name ∷ vars ∷ f ∷ fs) =
    only_then (name_at name) (name_only name) (λ x is. only_then (vars_at vars) (vars_only vars) (λ xs v. only_then (cons_of 63 (f ∷ fs)) (cons_of_only 63 (f ∷ fs)) (λ bs s.
    only_some (d.Sum x xs bs) (rw (is.0, v.1) (a_sum is.1 v.2 s)))))
sum_only _ = only_none

a_table : {x : List ℕ} {i : IntTy} {f : Form} {fs : List Form} {ns : List ℕ} → IsName x → Each (SpellsNumber i.width) (f ∷ fs) ns
    → SpellsDef (Node (Atom (spelling k.Table) ∷ Atom x ∷ Atom (int_word i) ∷ f ∷ fs)) (d.Table x i ns)
a_table n (Each.one s more) = SpellsDef.table n s more

table_only : (fs : List Form) → Only (SpellsDef (Node (Atom (spelling k.Table) ∷ fs))) (table_of fs)
table_only (name ∷ ty ∷ f ∷ fs) =
    only_then (name_at name) (name_only name) (λ x is. only_then (int_at ty) (int_only ty) (λ i it.
    only_then (each_of (number_of_width i.width) (f ∷ fs)) (each_only (SpellsNumber i.width) (number_of_width i.width) (number_only i.width) (f ∷ fs)) (λ ns s.
    only_some (d.Table x i ns) (rw (is.0, it) (a_table is.1 s)))))
table_only _ = only_none

fun_only : (fs : List Form) → Only (SpellsDef (Node (Atom (spelling k.Fun) ∷ fs))) (fun_of fs)
fun_only (name ∷ vars ∷ params ∷ result ∷ body ∷ []) =
    only_then (name_at name) (name_only name) (λ x is. only_then (vars_at vars) (vars_only vars) (λ xs v. only_then (fields_at 63 params) (fields_only 63 params) (λ ps p.
    only_then (ty_at 63 result) (ty_only 63 result) (λ a s. only_then (expr_at 63 body) (expr_only 63 body) (λ b sb.
    only_some (d.Fun x xs ps a b) (rw (is.0, v.1, p.1) (SpellsDef.fun is.1 v.2 p.2 s sb)))))))
fun_only _ = only_none

entry_only : (fs : List Form) → Only (SpellsDef (Node (Atom (spelling k.Entry) ∷ fs))) (entry_of fs)
entry_only (name ∷ []) = only_then (name_at name) (name_only name) (λ x is.
    only_some (d.Entry x) (rw is.0 (SpellsDef.entry is.1)))
entry_only _ = only_none

behind_only : (c : Keyword) (fs : List Form) → Only (SpellsDef (Node (Atom (spelling c) ∷ fs))) (behind (Some c) fs)
behind_only k.Struct fs = struct_only fs
behind_only k.Sum fs = sum_only fs
behind_only k.Table fs = table_only fs
behind_only k.Fun fs = fun_only fs
behind_only k.Entry fs = entry_only fs
behind_only _ fs = only_none

head_only : (c : Option Keyword) (head : Form) (fs : List Form) → keyword_at head ≡ c → Only (SpellsDef (Node (head ∷ fs))) (behind c fs)
head_only None head fs h = only_none
head_only (Some c) head fs h = subst (λ g. Only (SpellsDef (Node (g ∷ fs))) (behind (Some c) fs)) (sym (keyword_is head c h)) (behind_only c fs)

def_by_only : (fs : List Form) → Only (SpellsDef (Node fs)) (def_by fs)
def_by_only [] = only_none
def_by_only (head ∷ fs) = head_only (keyword_at head) head fs refl

pub def_only : (f : Form) → Only (SpellsDef f) (def_at f)
def_only f = only_more (list_only (λ fs. SpellsDef (Node fs)) def_by def_by_only f) (λ p is. subst (λ g. SpellsDef g p) (sym is.1) is.2)

-- ---- what is spelled is read

-- a list is read as what stands in it
in_list : {X : Type 0} (read : List Form → Option X) (fs : List Form) (x : X) → read fs ≡ Some x → list_in read (out-Form (Node fs)) ≡ Some x
in_list read fs x here = ap (list_in read) (outs-List fs) ∙ here

-- where that takes a level of its own
in_level : {X : Type 0} (read : ℕ → List Form → Option X) (n m : ℕ) (fs : List Form) (x : X) → n ≡ suc m → read m fs ≡ Some x → list_in (below read n) (out-Form (Node fs)) ≡ Some x
in_level read n m fs x e here = in_list (below read n) fs x (ap (λ i. below read i fs) e ∙ here)

vars_again : {fs : List Form} {xs : List (List ℕ)} → Each SpellsVar fs xs → vars_at (Node fs) ≡ Some xs
vars_again {fs = fs} {xs = xs} s = in_list vars_of fs xs (each_of_again var_at (λ f x h. var_again h) s)

field_again : {f : Form} {p : Field} → SpellsField f p → (n : ℕ) → Within n f → field_at n f ≡ Some p
field_again (SpellsField.field {x = x} {f = f} {a = a} h s) n w =
    let fs : List Form = Atom x ∷ f ∷ [] in
    let l = list_inside n fs w in
    in_level field_by n l.0 fs (record { name = x; ty = a }) l.1 (rw (name_again x h, ty_again s l.0 l.2.1.0) refl)

fields_of_again : {fs : List Form} {ps : List Field} → Each SpellsField fs ps → (n : ℕ) → AllWithin n fs → fields_of n fs ≡ Some ps
fields_of_again s n w = each_again (field_at n) n (λ f p h v. field_again h n v) s w []

fields_again : {fs : List Form} {ps : List Field} → Each SpellsField fs ps → (n : ℕ) → Within n (Node fs) → fields_at n (Node fs) ≡ Some ps
fields_again {fs = fs} {ps = ps} s n w =
    let l = list_inside n fs w in
    in_level fields_of n l.0 fs ps l.1 (fields_of_again s l.0 l.2)

con_again : {f : Form} {p : Con} → SpellsCon f p → (n : ℕ) → Within n f → con_at n f ≡ Some p
con_again (SpellsCon.con {x = x} {fs = fs} {bs = bs} h s) n w =
    let all : List Form = Atom x ∷ fs in
    let l = list_inside n all w in
    in_level con_by n l.0 all (record { name = x; args = bs }) l.1 (rw (name_again x h, tys_of_again s l.0 l.2.1) refl)

cons_of_again : {fs : List Form} {ps : List Con} → Each SpellsCon fs ps → (n : ℕ) → AllWithin n fs → cons_of n fs ≡ Some ps
cons_of_again s n w = each_again (con_at n) n (λ f p h v. con_again h n v) s w []

-- the forms in a definition of 64 levels have 63
inner : (fs : List Form) → Within 64 (Node fs) → AllWithin 63 fs
inner fs w =
    let l = list_inside 64 fs w in
    let left : l.0 ≡ 63 = omega arith in
    subst (λ m. AllWithin m fs) left l.2

-- a form is read as the definition that it spells
pub def_again : {f : Form} {x : Def} → SpellsDef f x → Within 64 f → def_at f ≡ Some x
def_again (SpellsDef.struct {x = x} {vs = vs} {vars = vars} {f = f} {fs = fs} {a = a} {bs = bs} h v s more) w =
    let all : List Form = Atom (spelling k.Struct) ∷ Atom x ∷ Node vs ∷ f ∷ fs in
    let parts : fields_of 63 (f ∷ fs) ≡ Some (a ∷ bs) = fields_of_again (Each.one s more) 63 (inner all w).1.1.1 in
    in_list def_by all (d.Struct x vars (a ∷ bs)) (rw (keyword_here k.Struct, name_again x h, vars_again v, parts) refl)
def_again (SpellsDef.sum {x = x} {vs = vs} {vars = vars} {f = f} {fs = fs} {a = a} {bs = bs} h v s more) w =
    let all : List Form = Atom (spelling k.Sum) ∷ Atom x ∷ Node vs ∷ f ∷ fs in
    let parts : cons_of 63 (f ∷ fs) ≡ Some (a ∷ bs) = cons_of_again (Each.one s more) 63 (inner all w).1.1.1 in
    in_list def_by all (d.Sum x vars (a ∷ bs)) (rw (keyword_here k.Sum, name_again x h, vars_again v, parts) refl)
def_again (SpellsDef.table {x = x} {i = i} {f = f} {fs = fs} {n = n} {ns = ns} h s more) w =
    let all : List Form = Atom (spelling k.Table) ∷ Atom x ∷ Atom (int_word i) ∷ f ∷ fs in
    let numbers : each_of (number_of_width i.width) (f ∷ fs) ≡ Some (n ∷ ns) = each_of_again (number_of_width i.width) (λ g m h. number_again i.width h) (Each.one s more) in
    in_list def_by all (d.Table x i (n ∷ ns)) (rw (keyword_here k.Table, name_again x h, int_here i, numbers) refl)
def_again (SpellsDef.fun {x = x} {vs = vs} {ps = ps} {vars = vars} {params = params} {f = f} {g = g} {result = a} {body = b} h v p s sb) w =
    let all : List Form = Atom (spelling k.Fun) ∷ Atom x ∷ Node vs ∷ Node ps ∷ f ∷ g ∷ [] in
    let i = inner all w in
    let parameters : fields_at 63 (Node ps) ≡ Some params = fields_again p 63 i.1.1.1.0 in
    let type : ty_at 63 f ≡ Some a = ty_again s 63 i.1.1.1.1.0 in
    let expr : expr_at 63 g ≡ Some b = expr_again sb 63 i.1.1.1.1.1.0 in
    in_list def_by all (d.Fun x vars params a b) (rw (keyword_here k.Fun, name_again x h, vars_again v, parameters, type, expr) refl)
def_again (SpellsDef.entry {x = x} h) w =
    in_list def_by (Atom (spelling k.Entry) ∷ Atom x ∷ []) (d.Entry x) (rw (keyword_here k.Entry, name_again x h) refl)
