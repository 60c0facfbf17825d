-- What structs, constructors and functions at type arguments are, both ways.
use Rattle.std.proofs.Common.{◌≡◌, ℕ, ◌==◌, true, List, map, length, slice_get, Some, refl, sym, subst}
use Rattle.std.specs.Bool.{Decides}
use Rattle.std.proofs.lemmas.Bool.{and_parts}
use Rattle.std.proofs.lemmas.Bool.Decides.{Decides-eqb}
use Rattle.krml_syntax.specs.declared.tree.Ty.{Ty, out-Ty}
use Rattle.krml_syntax.specs.declared.tree.Ty.TheVariants as t
use Rattle.krml_syntax.specs.declared.tree.Field.{Field}
use Rattle.krml_syntax.specs.declared.tree.Pat.{Pat}
use Rattle.krml_syntax.specs.declared.tree.Pat.TheVariants as p
use Rattle.krml_syntax.specs.declared.tree.Expr.{Expr}
use Rattle.krml_syntax.specs.declared.tree.Expr.TheVariants as e
use Rattle.krml_syntax.specs.declared.tree.Def.{Def}
use Rattle.krml_ast.specs.Names.{Composite, Struct, Sum, Constructor, Signature, type_named, struct_of, struct_named, con_named, fun_named, field_named}
use Rattle.krml_ast.specs.IsType.{AreArguments}
use Rattle.krml_syntax.specs.Types.{name_of}
use Rattle.krml_ast.specs.Typing.{Vars, Scope, at, fields_at, Matches, MatchAll, HasType, AllHaveType}
use Rattle.krml_syntax.proofs.Only.{Only, only_none, only_some, only_then}
use Rattle.krml_types.specs.Types.{are_arguments}
use Rattle.krml_types.specs.Parts.{args_of}
use Rattle.krml_types.specs.Instances.{serve, named_at, make_at, con_at, call_at, field_type, make_parts, con_parts, part_type, tag_type}
use Rattle.krml_types.proofs.Parts.{only_demand, only_at, only_name, only_args, args_again}

module _ (defs : List Def) where
  only_struct : (x : List ℕ) → Only (λ s. type_named defs x ≡ Some (Struct s.0 s.1)) (struct_named defs x)
  only_struct x = only_at (type_named defs x) (λ c q. go c q)
    where
      go : (c : Composite) → type_named defs x ≡ Some c → Only (λ s. type_named defs x ≡ Some (Struct s.0 s.1)) (struct_of c)
      go (Struct vars fields) q = only_some (vars, fields) q
      go (Sum vars cons) q = only_none

  -- ---- the parts of patterns

  pub make_parts_only : (x : List ℕ) (a : Ty) → Only (λ types. (qs : List Pat) (vars : Vars) → MatchAll defs types qs vars → Matches defs a (p.Make x qs) vars) (make_parts defs x a)
  make_parts_only x a = only_then (struct_named defs x) (only_struct x) (λ s s_is. only_then (args_of x (out-Ty a)) (only_args x a) (λ args a_is.
      only_some (fields_at s.0 args s.1) (λ qs vars ms. subst (λ z. Matches defs z (p.Make x qs) vars) (sym a_is) (Matches.make args s_is ms))))

  pub make_parts_again : (x : List ℕ) (vars : List (List ℕ)) (fields : List Field) (args : List Ty) → type_named defs x ≡ Some (Struct vars fields)
      → make_parts defs x (t.Named x args) ≡ Some (fields_at vars args fields)
  make_parts_again x vars fields args q = rw (q, args_again x args) refl

  pub con_parts_only : (x : List ℕ) (a : Ty) → Only (λ types. (qs : List Pat) (vars : Vars) → MatchAll defs types qs vars → Matches defs a (p.Con x qs) vars) (con_parts defs x a)
  con_parts_only x a = only_at (con_named defs x) (λ c c_is. only_then (args_of c.sum (out-Ty a)) (only_args c.sum a) (λ args a_is.
      only_some (map (at c.vars args) c.args) (λ qs vars ms. subst (λ z. Matches defs z (p.Con x qs) vars) (sym a_is) (Matches.con args c_is ms))))

  pub con_parts_again : (x : List ℕ) (c : Constructor) (args : List Ty) → con_named defs x ≡ Some c
      → con_parts defs x (t.Named c.sum args) ≡ Some (map (at c.vars args) c.args)
  con_parts_again x c args q = rw (q, args_again c.sum args) refl

  module _ (tvars : List (List ℕ)) where
    -- ---- the parts of values

    pub field_only : (y : List ℕ) (a : Ty) → Only (λ b. (c : Expr) (g : Scope) → HasType defs tvars g c a → HasType defs tvars g (e.Get y c) b) (field_type defs y a)
    field_only y a = only_then (name_of (out-Ty a)) (only_name a) (λ n a_is. only_then (struct_named defs n.0) (only_struct n.0) (λ s s_is.
        only_at (field_named s.1 y) (λ b b_is. only_some (at s.0 n.1 b) (λ c g d.
        HasType.get n.1 (subst (λ z. HasType defs tvars g c z) a_is d) s_is b_is))))

    pub field_again : (x y : List ℕ) (vars : List (List ℕ)) (fields : List Field) (args : List Ty) (b : Ty) → type_named defs x ≡ Some (Struct vars fields)
        → field_named fields y ≡ Some b → field_type defs y (t.Named x args) ≡ Some (at vars args b)
    field_again x y vars fields args b q r = rw (t.outs-Named x args, q, r) refl

    pub tag_only : (x : List ℕ) (a : Ty) → Only (λ b. (c : Expr) (g : Scope) → HasType defs tvars g c a → HasType defs tvars g (e.TagIs x c) b) (tag_type defs x a)
    tag_only x a = only_at (con_named defs x) (λ con con_is. only_then (args_of con.sum (out-Ty a)) (only_args con.sum a) (λ args a_is.
        only_some t.Bool (λ c g d. HasType.tag_is args con_is (subst (λ z. HasType defs tvars g c z) a_is d))))

    pub tag_again : (x : List ℕ) (c : Constructor) (args : List Ty) → con_named defs x ≡ Some c → tag_type defs x (t.Named c.sum args) ≡ Some t.Bool
    tag_again x c args q = rw (q, args_again c.sum args) refl

    pub part_only : (x : List ℕ) (j : ℕ) (a : Ty) → Only (λ b. (c : Expr) (g : Scope) → HasType defs tvars g c a → HasType defs tvars g (e.Part x j c) b) (part_type defs x j a)
    part_only x j a = only_at (con_named defs x) (λ con con_is. only_then (args_of con.sum (out-Ty a)) (only_args con.sum a) (λ args a_is.
        only_at (slice_get con.args j) (λ b b_is. only_some (at con.vars args b) (λ c g d.
        HasType.part args con_is (subst (λ z. HasType defs tvars g c z) a_is d) b_is))))

    pub part_again : (x : List ℕ) (j : ℕ) (c : Constructor) (args : List Ty) (b : Ty) → con_named defs x ≡ Some c → slice_get c.args j ≡ Some b
        → part_type defs x j (t.Named c.sum args) ≡ Some (at c.vars args b)
    part_again x j c args b q r = rw (q, args_again c.sum args, r) refl

    -- ---- at written type arguments

    module _ (arguments : (args : List Ty) → Decides (are_arguments defs tvars args) (AreArguments defs tvars args)) where
      serve_is : (vars : List (List ℕ)) (args : List Ty) → serve defs tvars vars args ≡ true → (length args ≡ length vars) × AreArguments defs tvars args
      serve_is vars args h =
          let both = and_parts (length args == length vars) (are_arguments defs tvars args) h in
          ((Decides-eqb (length args) (length vars)).0 both.0, (arguments args).0 both.1)

      serve_again : (vars : List (List ℕ)) (args : List Ty) → length args ≡ length vars → AreArguments defs tvars args → serve defs tvars vars args ≡ true
      serve_again vars args q h = rw ((Decides-eqb (length args) (length vars)).1 q, (arguments args).1 h) refl

      pub make_only : (x : List ℕ) (args : List Ty)
          → Only (λ i. (es : List Expr) (g : Scope) → AllHaveType defs tvars g es i.takes → HasType defs tvars g (e.Make x args es) i.gives) (make_at defs tvars x args)
      make_only x args = only_then (struct_named defs x) (only_struct x) (λ s s_is. only_demand (serve defs tvars s.0 args) (λ h u.
          let ok = serve_is s.0 args h in
          only_some (record { takes = fields_at s.0 args s.1; gives = named_at x args }) (λ es g ds. HasType.make s_is ok.0 ok.1 ds)))

      pub make_again : (x : List ℕ) (vars : List (List ℕ)) (fields : List Field) (args : List Ty) → type_named defs x ≡ Some (Struct vars fields)
          → length args ≡ length vars → AreArguments defs tvars args
          → make_at defs tvars x args ≡ Some (record { takes = fields_at vars args fields; gives = named_at x args })
      make_again x vars fields args q l ok = rw (q, serve_again vars args l ok) refl

      pub con_only : (x : List ℕ) (args : List Ty)
          → Only (λ i. (es : List Expr) (g : Scope) → AllHaveType defs tvars g es i.takes → HasType defs tvars g (e.Con x args es) i.gives) (con_at defs tvars x args)
      con_only x args = only_at (con_named defs x) (λ c c_is. only_demand (serve defs tvars c.vars args) (λ h u.
          let ok = serve_is c.vars args h in
          only_some (record { takes = map (at c.vars args) c.args; gives = named_at c.sum args }) (λ es g ds. HasType.con c_is ok.0 ok.1 ds)))

      pub con_again : (x : List ℕ) (c : Constructor) (args : List Ty) → con_named defs x ≡ Some c → length args ≡ length c.vars → AreArguments defs tvars args
          → con_at defs tvars x args ≡ Some (record { takes = map (at c.vars args) c.args; gives = named_at c.sum args })
      con_again x c args q l ok = rw (q, serve_again c.vars args l ok) refl

      pub call_only : (x : List ℕ) (args : List Ty)
          → Only (λ i. (es : List Expr) (g : Scope) → AllHaveType defs tvars g es i.takes → HasType defs tvars g (e.Call x args es) i.gives) (call_at defs tvars x args)
      call_only x args = only_at (fun_named defs x) (λ f f_is. only_demand (serve defs tvars f.vars args) (λ h u.
          let ok = serve_is f.vars args h in
          only_some (record { takes = fields_at f.vars args f.params; gives = at f.vars args f.result }) (λ es g ds. HasType.call f_is ok.0 ok.1 ds)))

      pub call_again : (x : List ℕ) (f : Signature) (args : List Ty) → fun_named defs x ≡ Some f → length args ≡ length f.vars → AreArguments defs tvars args
          → call_at defs tvars x args ≡ Some (record { takes = fields_at f.vars args f.params; gives = at f.vars args f.result })
      call_again x f args q l ok = rw (q, serve_again f.vars args l ok) refl
