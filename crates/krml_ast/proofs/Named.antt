-- The definition that a name means stands in the file, and has the name.
use Rattle.std.proofs.Common.{◌≡◌, ℕ, if◌then◌else◌, List, slice_get, Some, None, ap, ◌∙◌}
use Rattle.std.specs.Str.{bytes_eq}
use Rattle.std.proofs.lemmas.Option.{cond_some}
use Rattle.std.proofs.lemmas.Slice.Eq.{bytes_eq-Decides}
use Rattle.krml_trace.proofs.First.{answers}
use Rattle.krml_syntax.specs.declared.tree.IntTy.{IntTy}
use Rattle.krml_syntax.specs.declared.tree.Field.{Field}
use Rattle.krml_syntax.specs.declared.tree.Con.{Con}
use Rattle.krml_syntax.specs.declared.tree.Expr.{Expr}
use Rattle.krml_syntax.specs.declared.tree.Def.{Def}
use Rattle.krml_syntax.specs.declared.tree.Def.TheVariants as d
use Rattle.krml_ast.specs.Names.{Struct, Sum, Signature, type_here, type_named, table_here, table_named, fun_here, fun_named}

-- where a name is asked for, its answer
pub answer_of : {A : Type 0} (name x : List ℕ) (a b : A) → (if bytes_eq name x then Some a else None) ≡ Some b → (name ≡ x) × (a ≡ b)
answer_of name x a b e = let k = cond_some (bytes_eq name x) a b e in ((bytes_eq-Decides name x).0 k.0, k.1)

-- ---- what a definition is that gives an answer

pub is_struct : (x : List ℕ) (vars : List (List ℕ)) (fields : List Field) (def : Def) → type_here x def ≡ Some (Struct vars fields) → def ≡ d.Struct x vars fields
is_struct x vars fields (d.Struct name vs fs) e = let k = answer_of name x (Struct vs fs) (Struct vars fields) e in let q = k.0 in let r = k.1 in cc
is_struct x vars fields (d.Sum name vs cons) e = let k = answer_of name x (Sum vs cons) (Struct vars fields) e in let r = k.1 in absurd (cc)
is_struct x vars fields (d.Table name ty nums) e = absurd (cc)
is_struct x vars fields (d.Fun name vs params result body) e = absurd (cc)
is_struct x vars fields (d.Entry name) e = absurd (cc)

pub is_sum : (x : List ℕ) (vars : List (List ℕ)) (cons : List Con) (def : Def) → type_here x def ≡ Some (Sum vars cons) → def ≡ d.Sum x vars cons
is_sum x vars cons (d.Sum name vs cs) e = let k = answer_of name x (Sum vs cs) (Sum vars cons) e in let q = k.0 in let r = k.1 in cc
is_sum x vars cons (d.Struct name vs fs) e = let k = answer_of name x (Struct vs fs) (Sum vars cons) e in let r = k.1 in absurd (cc)
is_sum x vars cons (d.Table name ty nums) e = absurd (cc)
is_sum x vars cons (d.Fun name vs params result body) e = absurd (cc)
is_sum x vars cons (d.Entry name) e = absurd (cc)

pub is_table : (x : List ℕ) (i : IntTy) (def : Def) → table_here x def ≡ Some i → (nums : List ℕ) × (def ≡ d.Table x i nums)
is_table x i (d.Table name ty nums) e = let k = answer_of name x ty i e in (nums, let q = k.0 in let r = k.1 in cc)
is_table x i (d.Struct name vs fs) e = absurd (cc)
is_table x i (d.Sum name vs cons) e = absurd (cc)
is_table x i (d.Fun name vs params result body) e = absurd (cc)
is_table x i (d.Entry name) e = absurd (cc)

pub is_fun : (x : List ℕ) (f : Signature) (def : Def) → fun_here x def ≡ Some f → (body : Expr) × (def ≡ d.Fun x f.vars f.params f.result body)
is_fun x f (d.Fun name vs params result body) e =
    let k = answer_of name x (record { vars = vs; params = params; result = result }) f e in (
      body,
      let q = k.0 in let r : record { vars = vs; params = params; result = result } ≡ f = k.1 in
          ap (λ z. d.Fun z vs params result body) q ∙ ap (λ (z : Signature). d.Fun x z.vars z.params z.result body) r,
    )
is_fun x f (d.Struct name vs fs) e = absurd (cc)
is_fun x f (d.Sum name vs cons) e = absurd (cc)
is_fun x f (d.Table name ty nums) e = absurd (cc)
is_fun x f (d.Entry name) e = absurd (cc)

-- ---- where it stands

abbrev pub Stands : List Def → Def → Type 0
Stands defs def = (k : ℕ) × (slice_get defs k ≡ Some def)

pub struct_stands : (defs : List Def) (x : List ℕ) (vars : List (List ℕ)) (fields : List Field) → type_named defs x ≡ Some (Struct vars fields) → Stands defs (d.Struct x vars fields)
struct_stands defs x vars fields e = let a = answers (type_here x) defs (Struct vars fields) e in (a.place, a.there ∙ ap Some (is_struct x vars fields a.item a.gives))

pub sum_stands : (defs : List Def) (x : List ℕ) (vars : List (List ℕ)) (cons : List Con) → type_named defs x ≡ Some (Sum vars cons) → Stands defs (d.Sum x vars cons)
sum_stands defs x vars cons e = let a = answers (type_here x) defs (Sum vars cons) e in (a.place, a.there ∙ ap Some (is_sum x vars cons a.item a.gives))

pub table_stands : (defs : List Def) (x : List ℕ) (i : IntTy) → table_named defs x ≡ Some i → (nums : List ℕ) × Stands defs (d.Table x i nums)
table_stands defs x i e = let a = answers (table_here x) defs i e in let k = is_table x i a.item a.gives in (k.0, (a.place, a.there ∙ ap Some k.1))

pub fun_stands : (defs : List Def) (x : List ℕ) (f : Signature) → fun_named defs x ≡ Some f → (body : Expr) × Stands defs (d.Fun x f.vars f.params f.result body)
fun_stands defs x f e = let a = answers (fun_here x) defs f e in let k = is_fun x f a.item a.gives in (k.0, (a.place, a.there ∙ ap Some k.1))
