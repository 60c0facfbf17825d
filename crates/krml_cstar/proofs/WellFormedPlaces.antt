-- What is said of the code of an expression: `Places`. The program comes in by `Holds`: what the names of the file mean in it.
use Rattle.std.proofs.Common.{◌≡◌, ℕ, ◌≤◌, ◌^◌, Bool, true, false, if◌then◌else◌, List, [], ◌∷◌, ◌++◌, map, Contains, Some, None, refl, ap, ◌∙◌, subst}
use Rattle.std.specs.List.{AllByRecursion}
use Rattle.std.specs.Str.{bytes_eq}
use Rattle.krml_syntax.specs.declared.tree.IntTy.{IntTy}
use Rattle.krml_syntax.specs.declared.tree.Ty.{Ty}
use Rattle.krml_syntax.specs.declared.tree.Field.{Field}
use Rattle.krml_syntax.specs.declared.tree.Def.{Def}
use Rattle.krml_ast.specs.Names.{Signature, Struct, type_named, table_named, fun_named}
use Rattle.krml_syntax.specs.Types.{erased}
use Rattle.krml_ast.specs.IsType.{IsType}
use Rattle.krml_ast.specs.Typing.{Vars, at}
use Rattle.krml_ast.specs.Typing as typing
use Rattle.krml_ctree.specs.declared.tree.CVar.{CVar}
use Rattle.krml_ctree.specs.declared.tree.CExpr.{CExpr}
use Rattle.krml_ctree.specs.declared.tree.CStatement.{CStatement}
use Rattle.krml_ctree.specs.declared.tree.CTable.{CTable}
use Rattle.krml_ctree.specs.declared.tree.CFun.{CFun}
use Rattle.krml_ctree.specs.declared.tree.CProgram.{CProgram}
use Rattle.krml_ctree.specs.Shape.{IsVariable, IsStruct, IsTable, IsFunction, IsField, ExprKeeps, ExprsKeep}
use Rattle.krml_ctree.specs.WellFormed.{Scope, of_var, HasType, HaveTypes}
use Rattle.krml_meaning.proofs.Lists.{same_some, no_some}
use Rattle.krml_cstar.specs.Built.{is_ty_built}
use Rattle.krml_cstar.specs.Types.{ctype, is_unit}
use Rattle.krml_cstar.specs.Variables.{Known, KnownVars}
use Rattle.krml_cstar.specs.Translation.{Out, Outs, Comp, ItemOut, ItemComp, value, params_from, cvars}
use Rattle.krml_cstar.specs.Variables as variables
use Rattle.krml_cstar.specs.Translation as tr
use Rattle.krml_cstar.proofs.Lookups.{fields_of}
use Rattle.krml_cstar.proofs.WellFormedCode.{Within, TypeFits, Laid, laid_none, laid_then}

-- ---- the program of a file

module _ (p : CProgram) where
  -- a field or a parameter: a value of a type that is known, and the same at any type arguments
  pub record PartFits (a : Ty) : Type 0 where
    pub fits : TypeFits p (ctype a)
    pub value : is_unit a ≡ false
    pub closed : (args : List Ty) → at [] args a ≡ erased a

  pub record FieldFits (f : Field) : Type 0 where
    pub part : PartFits f.ty
    pub shape : IsField f.name

  pub record HasStruct (x : List ℕ) (vars : List (List ℕ)) (fields : List Field) : Type 0 where
    pub there : Contains p.structs (record { name = x; fields = fields_of fields })
    pub shape : IsStruct x
    pub none : vars ≡ []
    pub each : AllByRecursion FieldFits fields

  pub record HasTable (x : List ℕ) (i : IntTy) : Type 0 where
    pub table : CTable
    pub there : Contains p.tables table
    pub name : table.name ≡ x
    pub width : table.width ≡ i.width
    pub shape : IsTable x

  pub record HasFunction (x : List ℕ) (f : Signature) : Type 0 where
    pub fun : CFun
    pub there : Contains p.funs fun
    pub name : fun.name ≡ x
    pub params : fun.params ≡ cvars (params_from 0 f.params)
    pub result : fun.result ≡ (if is_unit f.result then None else Some (ctype f.result))
    pub shape : IsFunction x
    pub none : f.vars ≡ []
    pub each : AllByRecursion (λ q. PartFits q.ty) f.params
    pub gives : TypeFits p (ctype f.result)
    pub closed : (args : List Ty) → at [] args f.result ≡ erased f.result

  -- What the names of a file mean stands in the program.
  pub record Holds (defs : List Def) : Type 0 where
    pub type_fits : (a : Ty) → IsType defs [] a → is_ty_built a ≡ true → TypeFits p (ctype a)
    pub struct : (x : List ℕ) (vars : List (List ℕ)) (fields : List Field) → type_named defs x ≡ Some (Struct vars fields) → HasStruct x vars fields
    pub table : (x : List ℕ) (i : IntTy) → table_named defs x ≡ Some i → HasTable x i
    pub function : (x : List ℕ) (f : Signature) → fun_named defs x ≡ Some f → HasFunction x f

  -- ---- scopes side by side

  -- A variable of the source, of this name and type, stands in a scope of C.
  pub record InScope (g : Scope) (k : Known) (x : List ℕ) (a : Ty) : Type 0 where
    pub name : k.name ≡ x
    pub ty : erased k.ty ≡ a
    pub value : is_unit a ≡ false
    pub fits : TypeFits p (ctype a)
    pub shape : IsVariable k.emitted
    pub there : Contains g (of_var (record { ty = ctype a; name = k.emitted }))

  abbrev pub Scoped : Scope → KnownVars → Vars → Type 0
  Scoped g [] [] = Unit {0}
  Scoped g (k ∷ names) (v ∷ vars) = InScope g k v.0 v.1 × Scoped g names vars
  Scoped g _ _ = ⊥

  -- a larger scope has them too
  pub scoped_on : (g h : Scope) → Within g h → (names : KnownVars) (vars : Vars) → Scoped g names vars → Scoped h names vars
  scoped_on g h w [] [] s = tt
  scoped_on g h w [] (v ∷ vars) s = absurd s
  scoped_on g h w (k ∷ names) [] s = absurd s
  scoped_on g h w (k ∷ names) (v ∷ vars) s = (
    record {
      name = s.0.name;
      ty = s.0.ty;
      value = s.0.value;
      fits = s.0.fits;
      shape = s.0.shape;
      there = w (of_var (record { ty = ctype v.1; name = k.emitted })) s.0.there;
    },
    scoped_on g h w names vars s.1,
  )

  -- variables have values
  abbrev pub Values : Vars → Type 0
  Values vars = AllByRecursion (λ v. is_unit v.1 ≡ false) vars

  pub scoped_values : (g : Scope) (names : KnownVars) (vars : Vars) → Scoped g names vars → Values vars
  scoped_values g [] [] s = tt
  scoped_values g [] (v ∷ vars) s = absurd s
  scoped_values g (k ∷ names) [] s = absurd s
  scoped_values g (k ∷ names) (v ∷ vars) s = (s.0.value, scoped_values g names vars s.1)

  pub value_found : (vars : Vars) (x : List ℕ) (a : Ty) → Values vars → typing.look vars x ≡ Some a → is_unit a ≡ false
  value_found [] x a h e = absurd (no_some a e)
  value_found (v ∷ vars) x a h e = go (bytes_eq v.0 x) e (value_found vars x a h.1)
    where
      go : (b : Bool) → (if b then Some v.1 else typing.look vars x) ≡ Some a → (typing.look vars x ≡ Some a → is_unit a ≡ false) → is_unit a ≡ false
      go true q later = subst (λ z. is_unit z ≡ false) (same_some v.1 a q) h.0
      go false q later = later q

  -- a name means a variable in scope
  pub record Found (g : Scope) (names : KnownVars) (x : List ℕ) (a : Ty) : Type 0 where
    pub k : Known
    pub name : List ℕ
    pub is : variables.look names x ≡ Some k
    pub entry : InScope g k name a

  pub found : (g : Scope) (names : KnownVars) (vars : Vars) (x : List ℕ) (a : Ty) → Scoped g names vars → typing.look vars x ≡ Some a → Found g names x a
  found g [] [] x a s e = absurd (no_some a e)
  found g [] (v ∷ vars) x a s e = absurd s
  found g (k ∷ names) [] x a s e = absurd s
  found g (k ∷ names) (v ∷ vars) x a s e = go (bytes_eq v.0 x) refl e (found g names vars x a s.1)
    where
      go : (b : Bool) → bytes_eq v.0 x ≡ b → (if b then Some v.1 else typing.look vars x) ≡ Some a → (typing.look vars x ≡ Some a → Found g names x a) → Found g (k ∷ names) x a
      go true q r later =
          let here : bytes_eq k.name x ≡ true = ap (λ y. bytes_eq y x) s.0.name ∙ q in
          record { k = k; name = v.0; is = rw here refl; entry = subst (InScope g k v.0) (same_some v.1 a r) s.0 }
      go false q r later =
          let other : bytes_eq k.name x ≡ false = ap (λ y. bytes_eq y x) s.0.name ∙ q in
          let f = later r in
          record { k = f.k; name = f.name; is = rw other f.is; entry = f.entry }

  -- ---- code

  -- Code that begins at the number n, in a scope: its statements are laid, and its value, where there is one, has its type behind
  -- them.
  pub record Placed (a : Ty) (n : ℕ) (g : Scope) (o : Out) : Type 0 where
    pub after : Scope
    pub laid : Laid p n o.next g o.code after
    pub keeps : ExprKeeps o.value
    pub ty : erased o.ty ≡ a
    pub fits : TypeFits p (ctype a)
    pub typed : is_unit a ≡ false → HasType p after o.value (ctype a)

  -- The code of an expression of a type, behind these variables, in all scopes of C that have them.
  pub record Places (vars : Vars) (a : Ty) (co : Comp) : Type 0 where
    pub unit : Values vars → co.unit ≡ is_unit a
    pub grows : (names : KnownVars) (n : ℕ) → n ≤ (co.run names n).next
    pub placed : (names : KnownVars) (n : ℕ) (g : Scope) → (co.run names n).next ≤ 2 ^ 64 → Scoped g names vars → Placed a n g (co.run names n)

  -- a value without statements
  pub value_placed : (a b : Ty) (x : CExpr) (names : KnownVars) (n : ℕ) (g : Scope) → erased b ≡ a → TypeFits p (ctype a) → ExprKeeps x → (is_unit a ≡ false → HasType p g x (ctype a))
      → Placed a n g (value b x names n)
  value_placed a b x names n g ty fits keeps typed = record { after = g; laid = laid_none p n g; keeps = keeps; ty = ty; fits = fits; typed = typed }

  -- code behind statements
  pub behind : (a : Ty) (n k : ℕ) (g h : Scope) (code : List CStatement) (o : Out) → Laid p n k g code h → Placed a k h o
      → Placed a n g (record { code = code ++ o.code; value = o.value; ty = o.ty; next = o.next })
  behind a n k g h code o before po = record {
    after = po.after;
    laid = laid_then p n k o.next g h po.after code o.code before po.laid;
    keeps = po.keeps;
    ty = po.ty;
    fits = po.fits;
    typed = po.typed;
  }

  -- ---- lists of values

  pub record PlacedAll (types : List Ty) (n : ℕ) (g : Scope) (o : Outs) : Type 0 where
    pub after : Scope
    pub laid : Laid p n o.next g o.code after
    pub keep : ExprsKeep o.values
    pub typed : (vs : List CVar) → map (λ v. v.ty) vs ≡ map ctype types → HaveTypes p after o.values vs

  pub record PlacesAll (vars : Vars) (types : List Ty) (cs : List Comp) : Type 0 where
    pub grows : (names : KnownVars) (n : ℕ) → n ≤ (tr.all cs names n).next
    pub placed : (names : KnownVars) (n : ℕ) (g : Scope) → (tr.all cs names n).next ≤ 2 ^ 64 → Scoped g names vars → PlacedAll types n g (tr.all cs names n)

  -- ---- items

  pub record PlacedItems (vars : Vars) (n : ℕ) (g : Scope) (o : ItemOut) : Type 0 where
    pub after : Scope
    pub laid : Laid p n o.next g o.code after
    pub scoped : Scoped after o.names vars

  -- Items lead from these variables to those of what follows.
  pub record ItemsPlace (vars more : Vars) (i : ItemComp) : Type 0 where
    pub values : Values vars → Values more
    pub grows : (names : KnownVars) (n : ℕ) → n ≤ (i names n).next
    pub placed : (names : KnownVars) (n : ℕ) (g : Scope) → (i names n).next ≤ 2 ^ 64 → Scoped g names vars → PlacedItems more n g (i names n)
