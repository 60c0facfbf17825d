-- What is written: a form for each part of a file, with numbers in decimal digits.
use Rattle.std.specs.Prelude.{ℕ, List, [], ◌∷◌, ◌++◌, map, codes}
use Rattle.std.specs.Fmt.{decimal}
use Rattle.krml_forms.specs.declared.form.Form.{Form}
use Rattle.krml_forms.specs.declared.form.Form.TheVariants.{Atom, List as Node}
use Rattle.krml_forms.specs.Writing.{forms_text}
use Rattle.krml_syntax.specs.declared.tree.Ty.{Ty}
use Rattle.krml_syntax.specs.declared.tree.Ty.TheOpen.{Ty-F}
use Rattle.krml_syntax.specs.declared.tree.Ty.TheFolds.{fold-Ty}
use Rattle.krml_syntax.specs.declared.tree.Pat.{Pat}
use Rattle.krml_syntax.specs.declared.tree.Pat.TheOpen.{Pat-F}
use Rattle.krml_syntax.specs.declared.tree.Pat.TheFolds.{fold-Pat}
use Rattle.krml_syntax.specs.declared.tree.Slot.{Slot}
use Rattle.krml_syntax.specs.declared.tree.Expr.{Expr}
use Rattle.krml_syntax.specs.declared.tree.Item.{Item}
use Rattle.krml_syntax.specs.declared.tree.Arm.{Arm}
use Rattle.krml_syntax.specs.declared.tree.Expr.TheOpen.{Expr-F, Item-F, Arm-F, Case-F}
use Rattle.krml_syntax.specs.declared.tree.Expr.TheFolds.{fold-Expr, fold-Item, fold-Arm}
use Rattle.krml_syntax.specs.declared.tree.Field.{Field}
use Rattle.krml_syntax.specs.declared.tree.Con.{Con}
use Rattle.krml_syntax.specs.declared.tree.Def.{Def}
use Rattle.krml_syntax.specs.declared.tree.Def.TheVariants as d
use Rattle.krml_syntax.specs.declared.tree.SourceFile.{SourceFile}
use Rattle.krml_syntax.specs.Spelling.{int_word, bool_word, bin_word, shift_word, cmp_word}

-- ---- types and patterns

-- a type at its arguments, whose forms are given
abbrev pub named_form : List ℕ → List Form → Form
named_form x [] = Atom x
named_form x (f ∷ fs) = Node (Atom x ∷ f ∷ fs)

-- the form of a type, where those of its parts are given
abbrev pub level_ty : Ty-F Form → Form
level_ty Ty-F.Bool = Atom (codes "bool")
level_ty Ty-F.Unit = Atom (codes "unit")
level_ty (Ty-F.Int i) = Atom (int_word i)
level_ty (Ty-F.Buf f) = Node (Atom (codes "buf") ∷ f ∷ [])
level_ty (Ty-F.Var x) = Atom (39 ∷ x)
level_ty (Ty-F.Named x fs) = named_form x fs

abbrev pub form_of_ty : Ty → Form
form_of_ty = fold-Ty Form level_ty

-- the form of a pattern, where those of its parts are given
abbrev pub level_pat : Pat-F Form → Form
level_pat Pat-F.Any = Atom (codes "_")
level_pat (Pat-F.Bind x) = Atom x
level_pat (Pat-F.Bool b) = Atom (bool_word b)
level_pat (Pat-F.Num i n) = Node (Atom (int_word i) ∷ Atom (decimal n) ∷ [])
level_pat (Pat-F.Con x fs) = Node (Atom (codes "con") ∷ Atom x ∷ fs)
level_pat (Pat-F.Make x fs) = Node (Atom (codes "make") ∷ Atom x ∷ fs)

abbrev pub form_of_pat : Pat → Form
form_of_pat = fold-Pat Form level_pat

-- ---- expressions

-- what stands for an expression that no text spells: a form that spells nothing
abbrev pub nothing : Form
nothing = Node []

-- a frame and its body; no text spells one with slots
abbrev pub frame_form : List Slot → Form → Form
frame_form [] f = Node (Atom (codes "frame") ∷ f ∷ [])
frame_form (slot ∷ slots) f = nothing

-- a word, a name, type arguments, and the forms of expressions
abbrev pub applied_form : List ℕ → List ℕ → List Ty → List Form → Form
applied_form head x tys fs = Node (Atom head ∷ Atom x ∷ Node (map form_of_ty tys) ∷ fs)

-- the form of an expression, where those of its parts are given
abbrev pub level_expr : Expr-F Form Form Form Form → Form
level_expr (Expr-F.Var x) = Atom x
level_expr Expr-F.Unit = Atom (codes "unit")
level_expr (Expr-F.Bool b) = Atom (bool_word b)
level_expr (Expr-F.Num i n) = Node (Atom (int_word i) ∷ Atom (decimal n) ∷ [])
level_expr (Expr-F.Bin op i f g) = Node (Atom (bin_word op) ∷ Atom (int_word i) ∷ f ∷ g ∷ [])
level_expr (Expr-F.Shift left i f g) = Node (Atom (shift_word left) ∷ Atom (int_word i) ∷ f ∷ g ∷ [])
level_expr (Expr-F.Cmp op i f g) = Node (Atom (cmp_word op) ∷ Atom (int_word i) ∷ f ∷ g ∷ [])
level_expr (Expr-F.Not f) = Node (Atom (codes "not") ∷ f ∷ [])
level_expr (Expr-F.Cast i j f) = Node (Atom (codes "cast") ∷ Atom (int_word i) ∷ Atom (int_word j) ∷ f ∷ [])
level_expr (Expr-F.Hide i f) = Node (Atom (codes "hide") ∷ Atom (int_word i) ∷ f ∷ [])
level_expr (Expr-F.Make x tys fs) = applied_form (codes "make") x tys fs
level_expr (Expr-F.Get x f) = Node (Atom (codes "get") ∷ Atom x ∷ f ∷ [])
level_expr (Expr-F.Con x tys fs) = applied_form (codes "con") x tys fs
level_expr (Expr-F.Read f g) = Node (Atom (codes "read") ∷ f ∷ g ∷ [])
level_expr (Expr-F.Write f g h) = Node (Atom (codes "write") ∷ f ∷ g ∷ h ∷ [])
level_expr (Expr-F.Slice f g h) = Node (Atom (codes "slice") ∷ f ∷ g ∷ h ∷ [])
level_expr (Expr-F.Tab x f) = Node (Atom (codes "tab") ∷ Atom x ∷ f ∷ [])
level_expr (Expr-F.If f g h) = Node (Atom (codes "if") ∷ f ∷ g ∷ h ∷ [])
level_expr (Expr-F.Match f fs) = Node (Atom (codes "match") ∷ f ∷ fs)
level_expr (Expr-F.Do fs f) = Node (Atom (codes "do") ∷ fs ++ f ∷ [])
level_expr (Expr-F.Frame slots f) = frame_form slots f
level_expr (Expr-F.Alloc ty n f) = Node (Atom (codes "alloc") ∷ form_of_ty ty ∷ Atom (decimal n) ∷ f ∷ [])
level_expr (Expr-F.While f g) = Node (Atom (codes "while") ∷ f ∷ g ∷ [])
level_expr (Expr-F.For x f g h) = Node (Atom (codes "for") ∷ Atom x ∷ f ∷ g ∷ h ∷ [])
level_expr (Expr-F.Call x tys fs) = applied_form (codes "call") x tys fs
level_expr (Expr-F.Cases cases) = nothing
level_expr (Expr-F.TagIs x f) = nothing
level_expr (Expr-F.Part x n f) = nothing
level_expr (Expr-F.Fill n f) = nothing

-- the form of an item, a branch, a case, where those of its expressions are given
abbrev pub level_item : Item-F Form Form Form Form → Form
level_item (Item-F.Let x ty f) = Node (Atom (codes "let") ∷ Atom x ∷ form_of_ty ty ∷ f ∷ [])
level_item (Item-F.Run f) = f

abbrev pub level_arm : Arm-F Form Form Form Form → Form
level_arm arm = Node (form_of_pat arm.pat ∷ arm.body ∷ [])

abbrev pub level_case : Case-F Form Form Form Form → Form
level_case case = nothing

abbrev pub form_of_expr : Expr → Form
form_of_expr = fold-Expr Form Form Form Form level_expr level_item level_arm level_case

abbrev pub form_of_item : Item → Form
form_of_item = fold-Item Form Form Form Form level_expr level_item level_arm level_case

abbrev pub form_of_arm : Arm → Form
form_of_arm = fold-Arm Form Form Form Form level_expr level_item level_arm level_case

-- ---- definitions

abbrev pub form_of_var : List ℕ → Form
form_of_var x = Atom (39 ∷ x)

abbrev pub form_of_number : ℕ → Form
form_of_number n = Atom (decimal n)

abbrev pub form_of_field : Field → Form
form_of_field field = Node (Atom field.name ∷ form_of_ty field.ty ∷ [])

abbrev pub form_of_con : Con → Form
form_of_con con = Node (Atom con.name ∷ map form_of_ty con.args)

abbrev pub form_of_def : Def → Form
form_of_def (d.Struct x vars fields) = Node (Atom (codes "struct") ∷ Atom x ∷ Node (map form_of_var vars) ∷ map form_of_field fields)
form_of_def (d.Sum x vars cons) = Node (Atom (codes "sum") ∷ Atom x ∷ Node (map form_of_var vars) ∷ map form_of_con cons)
form_of_def (d.Table x i nums) = Node (Atom (codes "table") ∷ Atom x ∷ Atom (int_word i) ∷ map form_of_number nums)
form_of_def (d.Fun x vars params result body) =
    Node (Atom (codes "fun") ∷ Atom x ∷ Node (map form_of_var vars) ∷ Node (map form_of_field params) ∷ form_of_ty result ∷ form_of_expr body ∷ [])
form_of_def (d.Entry x) = Node (Atom (codes "entry") ∷ Atom x ∷ [])

-- ---- files

abbrev pub forms_of : SourceFile → List Form
forms_of file = map form_of_def file.defs

abbrev pub text_of : SourceFile → List ℕ
text_of file = forms_text (forms_of file)
