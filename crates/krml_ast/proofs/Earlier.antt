-- Types of a file's first definitions, whose own types are well formed, are so in the whole file, and hold buffers as there.
use Rattle.std.proofs.Common.{◌≡◌, ℕ, List, [], ◌∷◌, ◌++◌, Option, Some, None, ◌⊎◌, inl, inr, ap, ◌∙◌, subst}
use Rattle.std.specs.List.{Contains}
use Rattle.krml_trace.proofs.First.{first_kept, first_last}
use Rattle.krml_syntax.specs.declared.tree.Ty.{Ty, out-Ty}
use Rattle.krml_syntax.specs.declared.tree.Ty.TheOpen.{Ty-F}
use Rattle.krml_syntax.specs.declared.tree.Ty.TheVariants as t
use Rattle.krml_syntax.specs.declared.tree.Field.{Field}
use Rattle.krml_syntax.specs.declared.tree.Def.{Def}
use Rattle.krml_ast.specs.Names.{Composite, Struct, type_here, type_named}
use Rattle.krml_ast.specs.IsType.{HoldsBuffer, IsFlat, IsType, AreArguments}

-- the fields of the structs of these have well formed types
pub record Settled (defs : List Def) : Type 0 where
  pub fields : (x : List ℕ) (vars : List (List ℕ)) (fields : List Field) (f : Field) → type_named defs x ≡ Some (Struct vars fields) → Contains fields f → IsType defs vars f.ty

pub none_settled : Settled []
none_settled = record { fields = λ x vars fields f is has. absurd (cc) }

-- ---- names

pub named_more : (before after : List Def) (x : List ℕ) (c : Composite) → type_named before x ≡ Some c → type_named (before ++ after) x ≡ Some c
named_more before after x c = first_kept (type_here x) before after c

-- a name means something earlier, or the last definition
pub named_last : (before : List Def) (def : Def) (x : List ℕ) (c : Composite) → type_named (before ++ def ∷ []) x ≡ Some c → (type_named before x ≡ Some c) ⊎ (type_here x def ≡ Some c)
named_last before def x c e = go (first_last (type_here x) before def c e)
  where
    go : (type_named before x ≡ Some c) ⊎ ((type_named before x ≡ None) × (type_here x def ≡ Some c)) → (type_named before x ≡ Some c) ⊎ (type_here x def ≡ Some c)
    go (inl q) = inl q
    go (inr q) = inr q.1

-- ---- the parts of a well formed type

abbrev IsKnown : List Def → Ty-F Ty → Type 0
IsKnown defs (Ty-F.Named x args) = (c : Composite) × (type_named defs x ≡ Some c)
IsKnown defs _ = Unit {0}

is_known : (defs : List Def) (vars : List (List ℕ)) (a : Ty) → IsType defs vars a → IsKnown defs (out-Ty a)
is_known defs vars a IsType.bool = rw t.outs-Bool tt
is_known defs vars a IsType.unit = rw t.outs-Unit tt
is_known defs vars a (IsType.int i) = rw t.outs-Int tt
is_known defs vars a (IsType.buf b is f) = rw t.outs-Buf tt
is_known defs vars a (IsType.var h) = rw t.outs-Var tt
is_known defs vars a (IsType.named {c = c} is n ok) = rw t.outs-Named (c, is)

same_some : {A : Type 0} (a b : A) (o : Option A) → o ≡ Some a → o ≡ Some b → a ≡ b
same_some a b o p q = cc

module _ (before after : List Def) where
  holds_more : (a : Ty) → HoldsBuffer before a → HoldsBuffer (before ++ after) a
  holds_more a (HoldsBuffer.buffer b) = HoldsBuffer.buffer b
  holds_more a (HoldsBuffer.field {x = x} args {vars = vars} {fields = fields} {f = f} is has h) =
      HoldsBuffer.field args (named_more before after x (Struct vars fields) is) has (holds_more f.ty h)

  pub flat_less : (a : Ty) → IsFlat (before ++ after) a → IsFlat before a
  flat_less a f = record { value = f.value; flat = λ h. f.flat (holds_more a h) }

  module _ (s : Settled before) where
    holds_less : (a : Ty) (tvars : List (List ℕ)) → IsType before tvars a → HoldsBuffer (before ++ after) a → HoldsBuffer before a
    holds_less a tvars ok (HoldsBuffer.buffer b) = HoldsBuffer.buffer b
    holds_less a tvars ok (HoldsBuffer.field {x = x} args {vars = vars} {fields = fields} {f = f} is has h) =
        let k : (c : Composite) × (type_named before x ≡ Some c) = subst (IsKnown before) (t.outs-Named x args) (is_known before tvars (t.Named x args) ok) in
        let same : k.0 ≡ Struct vars fields = same_some k.0 (Struct vars fields) (type_named (before ++ after) x) (named_more before after x k.0 k.1) is in
        let here : type_named before x ≡ Some (Struct vars fields) = k.1 ∙ ap Some same in
        HoldsBuffer.field args here has (holds_less f.ty vars (s.fields x vars fields f here has) h)

    pub flat_more : (a : Ty) (tvars : List (List ℕ)) → IsType before tvars a → IsFlat before a → IsFlat (before ++ after) a
    flat_more a tvars ok f = record { value = f.value; flat = λ h. f.flat (holds_less a tvars ok h) }

    mutual
      pub type_more : (a : Ty) (tvars : List (List ℕ)) → IsType before tvars a → IsType (before ++ after) tvars a
      type_more a tvars IsType.bool = IsType.bool
      type_more a tvars IsType.unit = IsType.unit
      type_more a tvars (IsType.int i) = IsType.int i
      type_more a tvars (IsType.buf b ok f) = IsType.buf b (type_more b tvars ok) (flat_more b tvars ok f)
      type_more a tvars (IsType.var h) = IsType.var h
      type_more a tvars (IsType.named {x = x} {c = c} {args = args} is n oks) = IsType.named (named_more before after x c is) n (arguments_more args tvars oks)

      arguments_more : (args : List Ty) (tvars : List (List ℕ)) → AreArguments before tvars args → AreArguments (before ++ after) tvars args
      arguments_more args tvars AreArguments.none = AreArguments.none
      arguments_more args tvars (AreArguments.one {a = a} {args = more} ok f oks) =
          AreArguments.one (type_more a tvars ok) (flat_more a tvars ok f) (arguments_more more tvars oks)
