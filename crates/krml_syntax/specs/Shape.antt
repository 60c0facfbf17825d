-- The shape of expressions: the layer of an expression with other parts, its parts in the order of a text, and the role of a form.
use Rattle.std.specs.Prelude.{List, [], ◌∷◌, ◌++◌, map}
use Rattle.std.specs.List.{AllByRecursion}
use Rattle.krml_syntax.specs.declared.tree.Ty.{Ty}
use Rattle.krml_syntax.specs.declared.tree.Slot.{Slot}
use Rattle.krml_syntax.specs.declared.tree.Expr.{map-Expr}
use Rattle.krml_syntax.specs.declared.tree.Expr.TheOpen.{Expr-F, Item-F, Arm-F, Case-F}
use Rattle.krml_syntax.specs.declared.tree.Expr.TheFolds.{map-Item, map-Arm, map-Case}

-- ---- layers

-- with each part replaced
module _ {E I A C E' I' A' C' : Type 0} (f : E → E') (f' : I → I') (f'' : A → A') (f''' : C → C') where
  abbrev pub map_layer : Expr-F E I A C → Expr-F E' I' A' C'
  map_layer y = map-Expr E I A C E' I' A' C' f f' f'' f''' y

  abbrev pub map_item : Item-F E I A C → Item-F E' I' A' C'
  map_item y = map-Item E I A C E' I' A' C' f f' f'' f''' y

  abbrev pub map_arm : Arm-F E I A C → Arm-F E' I' A' C'
  map_arm y = map-Arm E I A C E' I' A' C' f f' f'' f''' y

  abbrev pub map_case : Case-F E I A C → Case-F E' I' A' C'
  map_case y = map-Case E I A C E' I' A' C' f f' f'' f''' y

-- ---- parts

pub data Part (E I A C : Type 0) : Type 0 where
  expr : E → Part E I A C
  item : I → Part E I A C
  arm : A → Part E I A C
  case_ : C → Part E I A C

module _ {E I A C E' I' A' C' : Type 0} (f : E → E') (f' : I → I') (f'' : A → A') (f''' : C → C') where
  abbrev pub map_part : Part E I A C → Part E' I' A' C'
  map_part (Part.expr x) = Part.expr (f x)
  map_part (Part.item x) = Part.item (f' x)
  map_part (Part.arm x) = Part.arm (f'' x)
  map_part (Part.case_ x) = Part.case_ (f''' x)

module _ {E I A C : Type 0} where
  abbrev pub parts_of : Expr-F E I A C → List (Part E I A C)
  parts_of (Expr-F.Var x) = []
  parts_of Expr-F.Unit = []
  parts_of (Expr-F.Bool b) = []
  parts_of (Expr-F.Num i n) = []
  parts_of (Expr-F.Bin o i a b) = Part.expr a ∷ Part.expr b ∷ []
  parts_of (Expr-F.Shift left i a n) = Part.expr a ∷ Part.expr n ∷ []
  parts_of (Expr-F.Cmp o i a b) = Part.expr a ∷ Part.expr b ∷ []
  parts_of (Expr-F.Not a) = Part.expr a ∷ []
  parts_of (Expr-F.Cast i j a) = Part.expr a ∷ []
  parts_of (Expr-F.Hide i a) = Part.expr a ∷ []
  parts_of (Expr-F.Make x args es) = map Part.expr es
  parts_of (Expr-F.Get y a) = Part.expr a ∷ []
  parts_of (Expr-F.Con x args es) = map Part.expr es
  parts_of (Expr-F.Read a i) = Part.expr a ∷ Part.expr i ∷ []
  parts_of (Expr-F.Write a i v) = Part.expr a ∷ Part.expr i ∷ Part.expr v ∷ []
  parts_of (Expr-F.Slice a i n) = Part.expr a ∷ Part.expr i ∷ Part.expr n ∷ []
  parts_of (Expr-F.Tab x a) = Part.expr a ∷ []
  parts_of (Expr-F.If c a b) = Part.expr c ∷ Part.expr a ∷ Part.expr b ∷ []
  parts_of (Expr-F.Match a arms) = Part.expr a ∷ map Part.arm arms
  parts_of (Expr-F.Do items a) = map Part.item items ++ Part.expr a ∷ []
  parts_of (Expr-F.Frame slots a) = Part.expr a ∷ []
  parts_of (Expr-F.Alloc b n a) = Part.expr a ∷ []
  parts_of (Expr-F.While c a) = Part.expr c ∷ Part.expr a ∷ []
  parts_of (Expr-F.For x a b c) = Part.expr a ∷ Part.expr b ∷ Part.expr c ∷ []
  parts_of (Expr-F.Call x args es) = map Part.expr es
  parts_of (Expr-F.Cases cases) = map Part.case_ cases
  parts_of (Expr-F.TagIs x a) = Part.expr a ∷ []
  parts_of (Expr-F.Part x j a) = Part.expr a ∷ []
  parts_of (Expr-F.Fill k a) = Part.expr a ∷ []

  abbrev pub parts_of_item : Item-F E I A C → List (Part E I A C)
  parts_of_item (Item-F.Let x b a) = Part.expr a ∷ []
  parts_of_item (Item-F.Run a) = Part.expr a ∷ []

  abbrev pub parts_of_arm : Arm-F E I A C → List (Part E I A C)
  parts_of_arm y = Part.expr y.body ∷ []

  abbrev pub parts_of_case : Case-F E I A C → List (Part E I A C)
  parts_of_case y = map Part.expr y.tests ++ Part.expr y.body ∷ []

-- ---- types

-- the type arguments at which a form stands
module _ {E I A C : Type 0} where
  abbrev pub type_arguments : Expr-F E I A C → List Ty
  type_arguments (Expr-F.Make x args es) = args
  type_arguments (Expr-F.Con x args es) = args
  type_arguments (Expr-F.Call x args es) = args
  type_arguments _ = []

-- ---- what holds of each part

module _ {E I A C : Type 0} (R : E → Type 0) (R' : I → Type 0) (R'' : A → Type 0) (R''' : C → Type 0) where
  abbrev pub OfPart : Part E I A C → Type 0
  OfPart (Part.expr x) = R x
  OfPart (Part.item x) = R' x
  OfPart (Part.arm x) = R'' x
  OfPart (Part.case_ x) = R''' x

  abbrev pub OfParts : List (Part E I A C) → Type 0
  OfParts parts = AllByRecursion OfPart parts

-- ---- roles

-- What a form is to the passes that take forms away and bring others.
pub data Role : Type 0 where
  -- every pass leaves it
  ordinary : Role
  -- patterns
  match : Role
  -- what stands for patterns: the cases, a test of a constructor, an argument of a constructor
  cases : Role
  tag_is : Role
  part : Role
  -- buffers of a frame: the frame with its slots, a new buffer, the buffer of a slot
  frame : List Slot → Role
  alloc : Role
  fill : Role

module _ {E I A C : Type 0} where
  abbrev pub role : Expr-F E I A C → Role
  role (Expr-F.Var x) = Role.ordinary
  role Expr-F.Unit = Role.ordinary
  role (Expr-F.Bool b) = Role.ordinary
  role (Expr-F.Num i n) = Role.ordinary
  role (Expr-F.Bin o i a b) = Role.ordinary
  role (Expr-F.Shift left i a n) = Role.ordinary
  role (Expr-F.Cmp o i a b) = Role.ordinary
  role (Expr-F.Not a) = Role.ordinary
  role (Expr-F.Cast i j a) = Role.ordinary
  role (Expr-F.Hide i a) = Role.ordinary
  role (Expr-F.Make x args es) = Role.ordinary
  role (Expr-F.Get y a) = Role.ordinary
  role (Expr-F.Con x args es) = Role.ordinary
  role (Expr-F.Read a i) = Role.ordinary
  role (Expr-F.Write a i v) = Role.ordinary
  role (Expr-F.Slice a i n) = Role.ordinary
  role (Expr-F.Tab x a) = Role.ordinary
  role (Expr-F.If c a b) = Role.ordinary
  role (Expr-F.Match a arms) = Role.match
  role (Expr-F.Do items a) = Role.ordinary
  role (Expr-F.Frame slots a) = Role.frame slots
  role (Expr-F.Alloc b n a) = Role.alloc
  role (Expr-F.While c a) = Role.ordinary
  role (Expr-F.For x a b c) = Role.ordinary
  role (Expr-F.Call x args es) = Role.ordinary
  role (Expr-F.Cases more) = Role.cases
  role (Expr-F.TagIs x a) = Role.tag_is
  role (Expr-F.Part x j a) = Role.part
  role (Expr-F.Fill k a) = Role.fill
