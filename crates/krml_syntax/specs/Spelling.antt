-- What forms spell: one rule a form of the language.
use Rattle.std.specs.Prelude.{ℕ, ◌<◌, ◌≤◌, ◌^◌, Bool, true, false, if◌then◌else◌, List, [], ◌∷◌, ◌++◌, codes}
use Rattle.krml_trace.specs.declared.width.Width.{Width}
use Rattle.krml_trace.specs.declared.width.Width.TheVariants.{W8, W32, W64}
use Rattle.krml_trace.specs.Width.{bits}
pub use Rattle.krml_trace.specs.Name.{IsName}
use Rattle.krml_forms.specs.declared.form.Form.{Form}
use Rattle.krml_forms.specs.declared.form.Form.TheVariants.{Atom, List as Node}
use Rattle.krml_syntax.specs.declared.tree.IntTy.{IntTy}
use Rattle.krml_syntax.specs.declared.tree.Ty.{Ty}
use Rattle.krml_syntax.specs.declared.tree.Ty.TheVariants as t
use Rattle.krml_syntax.specs.declared.tree.Field.{Field}
use Rattle.krml_syntax.specs.declared.tree.Con.{Con}
use Rattle.krml_syntax.specs.declared.tree.Pat.{Pat}
use Rattle.krml_syntax.specs.declared.tree.Pat.TheVariants as p
use Rattle.krml_syntax.specs.declared.tree.BinOp.{BinOp}
use Rattle.krml_syntax.specs.declared.tree.BinOp.TheVariants as binop
use Rattle.krml_syntax.specs.declared.tree.CmpOp.{CmpOp}
use Rattle.krml_syntax.specs.declared.tree.CmpOp.TheVariants as cmpop
use Rattle.krml_syntax.specs.declared.tree.Arm.{Arm, roll-Arm}
use Rattle.krml_syntax.specs.declared.tree.Item.{Item}
use Rattle.krml_syntax.specs.declared.tree.Item.TheVariants as item
use Rattle.krml_syntax.specs.declared.tree.Expr.{Expr}
use Rattle.krml_syntax.specs.declared.tree.Expr.TheVariants as e
use Rattle.krml_syntax.specs.declared.tree.Def.{Def}
use Rattle.krml_syntax.specs.declared.tree.Def.TheVariants as d
use Rattle.krml_syntax.specs.Number.{IsNumber}

-- ---- the words of the language

abbrev pub width_word : Width → List ℕ
width_word W8 = codes "u8"
width_word W32 = codes "u32"
width_word W64 = codes "u64"

abbrev pub int_word : IntTy → List ℕ
int_word i = if i.secret then codes "s" ++ width_word i.width else width_word i.width

abbrev pub bool_word : Bool → List ℕ
bool_word true = codes "true"
bool_word false = codes "false"

abbrev pub bin_word : BinOp → List ℕ
bin_word binop.Add = codes "add"
bin_word binop.Sub = codes "sub"
bin_word binop.Mul = codes "mul"
bin_word binop.Div = codes "div"
bin_word binop.Rem = codes "rem"
bin_word binop.And = codes "and"
bin_word binop.Or = codes "or"
bin_word binop.Xor = codes "xor"
bin_word binop.EqMask = codes "eqmask"
bin_word binop.GteMask = codes "gtemask"

-- whether it goes to the left
abbrev pub shift_word : Bool → List ℕ
shift_word true = codes "shl"
shift_word false = codes "shr"

abbrev pub cmp_word : CmpOp → List ℕ
cmp_word cmpop.Eq = codes "eq"
cmp_word cmpop.Ne = codes "ne"
cmp_word cmpop.Lt = codes "lt"
cmp_word cmpop.Le = codes "le"
cmp_word cmpop.Gt = codes "gt"
cmp_word cmpop.Ge = codes "ge"

-- ---- lists, names and numbers

-- Two lists of one length, whose members are related one by one.
pub data Each {A B : Type 0} (R : A → B → Type 0) : List A → List B → Type 0 where
  none : Each R [] []
  one : {x : A} {y : B} {xs : List A} {ys : List B} → R x y → Each R xs ys → Each R (x ∷ xs) (y ∷ ys)

-- 'a, a type variable: a quote and its name
pub data SpellsVar : Form → List ℕ → Type 0 where
  variable : {x : List ℕ} → IsName x → SpellsVar (Atom (39 ∷ x)) x

-- N, a number of a width
pub data SpellsNumber (w : Width) : Form → ℕ → Type 0 where
  number : {digits : List ℕ} {n : ℕ} → IsNumber digits n → n < 2 ^ bits w → SpellsNumber w (Atom digits) n

-- N, a number of elements
pub data SpellsLength : Form → ℕ → Type 0 where
  length : {digits : List ℕ} {n : ℕ} → IsNumber digits n → 1 ≤ n → n < 2 ^ 32 → SpellsLength (Atom digits) n

-- ---- types

mutual
  -- A form spells a type.
  pub data SpellsTy : Form → Ty → Type 0 where
    -- bool
    bool : SpellsTy (Atom (codes "bool")) t.Bool
    -- unit
    unit : SpellsTy (Atom (codes "unit")) t.Unit
    -- I
    int : {i : IntTy} → SpellsTy (Atom (int_word i)) (t.Int i)
    -- (buf T)
    buf : {f : Form} {a : Ty} → SpellsTy f a → SpellsTy (Node (Atom (codes "buf") ∷ f ∷ [])) (t.Buf a)
    -- 'a
    var : {x : List ℕ} → IsName x → SpellsTy (Atom (39 ∷ x)) (t.Var x)
    -- NAME
    named : {x : List ℕ} → IsName x → SpellsTy (Atom x) (t.Named x [])
    -- (NAME T..), with one type argument or more
    applied : {x : List ℕ} {f : Form} {fs : List Form} {a : Ty} {bs : List Ty} → IsName x → SpellsTy f a → SpellsTys fs bs
        → SpellsTy (Node (Atom x ∷ f ∷ fs)) (t.Named x (a ∷ bs))

  pub data SpellsTys : List Form → List Ty → Type 0 where
    none : SpellsTys [] []
    one : {f : Form} {fs : List Form} {a : Ty} {bs : List Ty} → SpellsTy f a → SpellsTys fs bs → SpellsTys (f ∷ fs) (a ∷ bs)

-- ---- patterns

mutual
  -- A form spells a pattern.
  pub data SpellsPat : Form → Pat → Type 0 where
    -- _
    any : SpellsPat (Atom (codes "_")) p.Any
    -- x
    bind : {x : List ℕ} → IsName x → SpellsPat (Atom x) (p.Bind x)
    -- true, false
    bool : {b : Bool} → SpellsPat (Atom (bool_word b)) (p.Bool b)
    -- (I N)
    num : {i : IntTy} {f : Form} {n : ℕ} → SpellsNumber i.width f n → SpellsPat (Node (Atom (int_word i) ∷ f ∷ [])) (p.Num i n)
    -- (con C P..)
    con : {x : List ℕ} {fs : List Form} {ps : List Pat} → IsName x → SpellsPats fs ps → SpellsPat (Node (Atom (codes "con") ∷ Atom x ∷ fs)) (p.Con x ps)
    -- (make S P..)
    make : {x : List ℕ} {fs : List Form} {ps : List Pat} → IsName x → SpellsPats fs ps → SpellsPat (Node (Atom (codes "make") ∷ Atom x ∷ fs)) (p.Make x ps)

  pub data SpellsPats : List Form → List Pat → Type 0 where
    none : SpellsPats [] []
    one : {f : Form} {fs : List Form} {a : Pat} {bs : List Pat} → SpellsPat f a → SpellsPats fs bs → SpellsPats (f ∷ fs) (a ∷ bs)

-- ---- expressions

mutual
  -- A form spells an expression.
  pub data Spells : Form → Expr → Type 0 where
    -- x
    var : {x : List ℕ} → IsName x → Spells (Atom x) (e.Var x)
    -- unit
    unit : Spells (Atom (codes "unit")) e.Unit
    -- true, false
    bool : {b : Bool} → Spells (Atom (bool_word b)) (e.Bool b)
    -- (I N)
    num : {i : IntTy} {f : Form} {n : ℕ} → SpellsNumber i.width f n → Spells (Node (Atom (int_word i) ∷ f ∷ [])) (e.Num i n)
    -- (OP I a b)
    bin : {op : BinOp} {i : IntTy} {f g : Form} {a b : Expr} → Spells f a → Spells g b
        → Spells (Node (Atom (bin_word op) ∷ Atom (int_word i) ∷ f ∷ g ∷ [])) (e.Bin op i a b)
    -- (shl I a n), (shr I a n)
    shift : {left : Bool} {i : IntTy} {f g : Form} {a b : Expr} → Spells f a → Spells g b
        → Spells (Node (Atom (shift_word left) ∷ Atom (int_word i) ∷ f ∷ g ∷ [])) (e.Shift left i a b)
    -- (OP I a b), a comparison
    cmp : {op : CmpOp} {i : IntTy} {f g : Form} {a b : Expr} → Spells f a → Spells g b
        → Spells (Node (Atom (cmp_word op) ∷ Atom (int_word i) ∷ f ∷ g ∷ [])) (e.Cmp op i a b)
    -- (not e)
    not : {f : Form} {a : Expr} → Spells f a → Spells (Node (Atom (codes "not") ∷ f ∷ [])) (e.Not a)
    -- (cast I J e)
    cast : {i j : IntTy} {f : Form} {a : Expr} → Spells f a
        → Spells (Node (Atom (codes "cast") ∷ Atom (int_word i) ∷ Atom (int_word j) ∷ f ∷ [])) (e.Cast i j a)
    -- (hide I e)
    hide : {i : IntTy} {f : Form} {a : Expr} → Spells f a → Spells (Node (Atom (codes "hide") ∷ Atom (int_word i) ∷ f ∷ [])) (e.Hide i a)
    -- (make S (T..) e..)
    make : {x : List ℕ} {ts fs : List Form} {bs : List Ty} {es : List Expr} → IsName x → SpellsTys ts bs → SpellsAll fs es
        → Spells (Node (Atom (codes "make") ∷ Atom x ∷ Node ts ∷ fs)) (e.Make x bs es)
    -- (get f e)
    get : {x : List ℕ} {f : Form} {a : Expr} → IsName x → Spells f a → Spells (Node (Atom (codes "get") ∷ Atom x ∷ f ∷ [])) (e.Get x a)
    -- (con C (T..) e..)
    con : {x : List ℕ} {ts fs : List Form} {bs : List Ty} {es : List Expr} → IsName x → SpellsTys ts bs → SpellsAll fs es
        → Spells (Node (Atom (codes "con") ∷ Atom x ∷ Node ts ∷ fs)) (e.Con x bs es)
    -- (read b i)
    read : {f g : Form} {a b : Expr} → Spells f a → Spells g b → Spells (Node (Atom (codes "read") ∷ f ∷ g ∷ [])) (e.Read a b)
    -- (write b i v)
    write : {f g h : Form} {a b c : Expr} → Spells f a → Spells g b → Spells h c
        → Spells (Node (Atom (codes "write") ∷ f ∷ g ∷ h ∷ [])) (e.Write a b c)
    -- (slice b i n)
    slice : {f g h : Form} {a b c : Expr} → Spells f a → Spells g b → Spells h c
        → Spells (Node (Atom (codes "slice") ∷ f ∷ g ∷ h ∷ [])) (e.Slice a b c)
    -- (tab t i)
    tab : {x : List ℕ} {f : Form} {a : Expr} → IsName x → Spells f a → Spells (Node (Atom (codes "tab") ∷ Atom x ∷ f ∷ [])) (e.Tab x a)
    -- (if c a b)
    choice : {f g h : Form} {c a b : Expr} → Spells f c → Spells g a → Spells h b
        → Spells (Node (Atom (codes "if") ∷ f ∷ g ∷ h ∷ [])) (e.If c a b)
    -- (match e (P a)..), with one branch or more
    match : {f g : Form} {gs : List Form} {a : Expr} {x : Arm} {xs : List Arm} → Spells f a → SpellsArm g x → SpellsArms gs xs
        → Spells (Node (Atom (codes "match") ∷ f ∷ g ∷ gs)) (e.Match a (x ∷ xs))
    -- (do ITEM.. e), with one item or more
    do_ : {f g : Form} {fs : List Form} {x : Item} {xs : List Item} {a : Expr} → SpellsItem f x → SpellsItems fs xs → Spells g a
        → Spells (Node (Atom (codes "do") ∷ f ∷ fs ++ g ∷ [])) (e.Do (x ∷ xs) a)
    -- (frame e)
    frame : {f : Form} {a : Expr} → Spells f a → Spells (Node (Atom (codes "frame") ∷ f ∷ [])) (e.Frame [] a)
    -- (alloc T n e)
    alloc : {f g h : Form} {a : Ty} {n : ℕ} {b : Expr} → SpellsTy f a → SpellsLength g n → Spells h b
        → Spells (Node (Atom (codes "alloc") ∷ f ∷ g ∷ h ∷ [])) (e.Alloc a n b)
    -- (while c e)
    while : {f g : Form} {c a : Expr} → Spells f c → Spells g a → Spells (Node (Atom (codes "while") ∷ f ∷ g ∷ [])) (e.While c a)
    -- (for x a b e)
    for : {x : List ℕ} {f g h : Form} {a b c : Expr} → IsName x → Spells f a → Spells g b → Spells h c
        → Spells (Node (Atom (codes "for") ∷ Atom x ∷ f ∷ g ∷ h ∷ [])) (e.For x a b c)
    -- (call f (T..) e..)
    call : {x : List ℕ} {ts fs : List Form} {bs : List Ty} {es : List Expr} → IsName x → SpellsTys ts bs → SpellsAll fs es
        → Spells (Node (Atom (codes "call") ∷ Atom x ∷ Node ts ∷ fs)) (e.Call x bs es)

  pub data SpellsAll : List Form → List Expr → Type 0 where
    none : SpellsAll [] []
    one : {f : Form} {fs : List Form} {a : Expr} {bs : List Expr} → Spells f a → SpellsAll fs bs → SpellsAll (f ∷ fs) (a ∷ bs)

  -- (P a), a branch of a match
  pub data SpellsArm : Form → Arm → Type 0 where
    arm : {f g : Form} {a : Pat} {b : Expr} → SpellsPat f a → Spells g b → SpellsArm (Node (f ∷ g ∷ [])) (roll-Arm (record { pat = a; body = b }))

  pub data SpellsArms : List Form → List Arm → Type 0 where
    no_arms : SpellsArms [] []
    an_arm : {f : Form} {fs : List Form} {a : Arm} {bs : List Arm} → SpellsArm f a → SpellsArms fs bs → SpellsArms (f ∷ fs) (a ∷ bs)

  -- ITEM
  pub data SpellsItem : Form → Item → Type 0 where
    -- (let x T a)
    let_ : {x : List ℕ} {f g : Form} {a : Ty} {b : Expr} → IsName x → SpellsTy f a → Spells g b
        → SpellsItem (Node (Atom (codes "let") ∷ Atom x ∷ f ∷ g ∷ [])) (item.Let x a b)
    -- an expression
    run : {f : Form} {a : Expr} → Spells f a → SpellsItem f (item.Run a)

  pub data SpellsItems : List Form → List Item → Type 0 where
    no_items : SpellsItems [] []
    an_item : {f : Form} {fs : List Form} {a : Item} {bs : List Item} → SpellsItem f a → SpellsItems fs bs → SpellsItems (f ∷ fs) (a ∷ bs)

-- ---- definitions

-- (NAME T), a field or a parameter
pub data SpellsField : Form → Field → Type 0 where
  field : {x : List ℕ} {f : Form} {a : Ty} → IsName x → SpellsTy f a → SpellsField (Node (Atom x ∷ f ∷ [])) (record { name = x; ty = a })

-- (CON T..)
pub data SpellsCon : Form → Con → Type 0 where
  con : {x : List ℕ} {fs : List Form} {bs : List Ty} → IsName x → SpellsTys fs bs → SpellsCon (Node (Atom x ∷ fs)) (record { name = x; args = bs })

-- A form spells a definition.
pub data SpellsDef : Form → Def → Type 0 where
  -- (struct NAME ('a..) (FIELD T)..), with one field or more
  struct : {x : List ℕ} {vs : List Form} {vars : List (List ℕ)} {f : Form} {fs : List Form} {a : Field} {bs : List Field}
      → IsName x → Each SpellsVar vs vars → SpellsField f a → Each SpellsField fs bs
      → SpellsDef (Node (Atom (codes "struct") ∷ Atom x ∷ Node vs ∷ f ∷ fs)) (d.Struct x vars (a ∷ bs))
  -- (sum NAME ('a..) (CON T..)..), with one constructor or more
  sum : {x : List ℕ} {vs : List Form} {vars : List (List ℕ)} {f : Form} {fs : List Form} {a : Con} {bs : List Con}
      → IsName x → Each SpellsVar vs vars → SpellsCon f a → Each SpellsCon fs bs
      → SpellsDef (Node (Atom (codes "sum") ∷ Atom x ∷ Node vs ∷ f ∷ fs)) (d.Sum x vars (a ∷ bs))
  -- (table NAME I N..), with one number or more
  table : {x : List ℕ} {i : IntTy} {f : Form} {fs : List Form} {n : ℕ} {ns : List ℕ}
      → IsName x → SpellsNumber i.width f n → Each (SpellsNumber i.width) fs ns
      → SpellsDef (Node (Atom (codes "table") ∷ Atom x ∷ Atom (int_word i) ∷ f ∷ fs)) (d.Table x i (n ∷ ns))
  -- (fun NAME ('a..) ((PARAM T)..) T EXPR)
  fun : {x : List ℕ} {vs ps : List Form} {vars : List (List ℕ)} {params : List Field} {f g : Form} {result : Ty} {body : Expr}
      → IsName x → Each SpellsVar vs vars → Each SpellsField ps params → SpellsTy f result → Spells g body
      → SpellsDef (Node (Atom (codes "fun") ∷ Atom x ∷ Node vs ∷ Node ps ∷ f ∷ g ∷ [])) (d.Fun x vars params result body)
  -- (entry NAME)
  entry : {x : List ℕ} → IsName x → SpellsDef (Node (Atom (codes "entry") ∷ Atom x ∷ [])) (d.Entry x)

-- Forms spell definitions, one by one.
abbrev pub SpellsDefs : List Form → List Def → Type 0
SpellsDefs = Each SpellsDef
