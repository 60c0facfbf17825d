-- Nodes from their keys.
use Rattle.std.proofs.Common.{◌≡◌, ℕ, if◌then◌else◌, nat_eq, Bool, true, false, refl, sym, ap, ◌∙◌}
use Rattle.krml_trace.specs.declared.width.Width.{Width}
use Rattle.krml_trace.specs.declared.width.Width.TheVariants as w
use Rattle.krml_syntax.specs.declared.tree.IntTy.{IntTy}
use Rattle.krml_intern.specs.declared.node.Node.{Node}
use Rattle.krml_intern.specs.declared.node.Node.TheVariants as n
use Rattle.krml_intern.specs.Keys.{key_of}

abbrev width_of : ℕ → Width
width_of c = if nat_eq c 0 then w.W8 else if nat_eq c 1 then w.W32 else w.W64

abbrev node_of : ℕ × (ℕ × ℕ) → Node
node_of k = if nat_eq k.0 0 then n.Bool
    else if nat_eq k.0 1 then n.Unit
    else if nat_eq k.0 2 then n.Int (record { width = width_of k.1.0; secret = nat_eq k.1.1 1 })
    else if nat_eq k.0 3 then n.Buf k.1.0
    else if nat_eq k.0 4 then n.Var k.1.0
    else if nat_eq k.0 5 then n.Head k.1.0
    else n.App k.1.0 k.1.1

int_back : (i : IntTy) → node_of (key_of (n.Int i)) ≡ n.Int i
int_back i = go i.width i.secret
  where
    go : (v : Width) (s : Bool) → node_of (key_of (n.Int (record { width = v; secret = s }))) ≡ n.Int (record { width = v; secret = s })
    go w.W8 true = refl
    go w.W8 false = refl
    go w.W32 true = refl
    go w.W32 false = refl
    go w.W64 true = refl
    go w.W64 false = refl

back : (x : Node) → node_of (key_of x) ≡ x
back n.Bool = refl
back n.Unit = refl
back (n.Int i) = int_back i
back (n.Buf a) = refl
back (n.Var x) = refl
back (n.Head x) = refl
back (n.App f a) = refl

pub node_from_key : (x y : Node) → key_of x ≡ key_of y → x ≡ y
node_from_key x y e = sym (back x) ∙ ap node_of e ∙ back y
