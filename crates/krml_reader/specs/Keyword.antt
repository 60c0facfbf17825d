-- The words of the language.
use Rattle.std.specs.Prelude.{ℕ, Bool, true, false, if◌then◌else◌, ◌==◌, List, [], ◌∷◌, codes, Option, Some, None}
use Rattle.std.specs.List.{filter}
use Rattle.std.specs.Str.{bytes_eq}
use Rattle.krml_trace.specs.declared.width.Width.{Width}
use Rattle.krml_trace.specs.declared.width.Width.TheVariants.{W8, W32, W64}
use Rattle.krml_forms.specs.declared.form.Form.{Form, out-Form}
use Rattle.krml_forms.specs.declared.form.Form.TheOpen.{Form-F}
use Rattle.krml_syntax.specs.declared.tree.BinOp.TheVariants as binop
use Rattle.krml_syntax.specs.declared.tree.CmpOp.TheVariants as cmpop
use Rattle.krml_syntax.specs.Spelling.{int_word, bool_word, bin_word, shift_word, cmp_word}
use Rattle.krml_reader.specs.declared.keyword.Keyword.{Keyword}
use Rattle.krml_reader.specs.declared.keyword.Keyword.TheVariants as k

-- how each is written
abbrev pub spelling : Keyword → List ℕ
spelling (k.Int i) = int_word i
spelling (k.Truth b) = bool_word b
spelling (k.Bin op) = bin_word op
spelling (k.Shift left) = shift_word left
spelling (k.Cmp op) = cmp_word op
spelling k.Not = codes "not"
spelling k.Cast = codes "cast"
spelling k.Hide = codes "hide"
spelling k.Make = codes "make"
spelling k.Get = codes "get"
spelling k.Con = codes "con"
spelling k.Read = codes "read"
spelling k.Write = codes "write"
spelling k.Slice = codes "slice"
spelling k.Tab = codes "tab"
spelling k.If = codes "if"
spelling k.Match = codes "match"
spelling k.Do = codes "do"
spelling k.Frame = codes "frame"
spelling k.Alloc = codes "alloc"
spelling k.While = codes "while"
spelling k.For = codes "for"
spelling k.Call = codes "call"
spelling k.Let = codes "let"
spelling k.Struct = codes "struct"
spelling k.Sum = codes "sum"
spelling k.Table = codes "table"
spelling k.Fun = codes "fun"
spelling k.Entry = codes "entry"
spelling k.Buf = codes "buf"
spelling k.Boolean = codes "bool"
spelling k.Unit = codes "unit"

abbrev pub public : Width → Keyword
public w = k.Int (record { width = w; secret = false })

abbrev pub secret : Width → Keyword
secret w = k.Int (record { width = w; secret = true })

abbrev pub keywords : List Keyword
keywords =
    public W8 ∷ public W32 ∷ public W64 ∷ secret W8 ∷ secret W32 ∷ secret W64 ∷ k.Truth true ∷ k.Truth false ∷ k.Bin binop.Add ∷ k.Bin binop.Sub ∷ k.Bin binop.Mul ∷ k.Bin binop.Div ∷ k.Bin binop.Rem ∷ k.Bin binop.And ∷ k.Bin binop.Or ∷ k.Bin binop.Xor ∷ k.Bin binop.EqMask ∷ k.Bin binop.GteMask ∷ k.Shift true ∷ k.Shift false ∷ k.Cmp cmpop.Eq ∷ k.Cmp cmpop.Ne ∷ k.Cmp cmpop.Lt ∷ k.Cmp cmpop.Le ∷ k.Cmp cmpop.Gt ∷ k.Cmp cmpop.Ge ∷ k.Not ∷ k.Cast ∷ k.Hide ∷ k.Make ∷ k.Get ∷ k.Con ∷ k.Read ∷ k.Write ∷ k.Slice ∷ k.Tab ∷ k.If ∷ k.Match ∷ k.Do ∷ k.Frame ∷ k.Alloc ∷ k.While ∷ k.For ∷ k.Call ∷ k.Let ∷ k.Struct ∷ k.Sum ∷ k.Table ∷ k.Fun ∷ k.Entry ∷ k.Buf ∷ k.Boolean ∷ k.Unit ∷ []

abbrev pub first_of_those : List Keyword → List ℕ → Option Keyword
first_of_those [] w = None
first_of_those (c ∷ cs) w = if bytes_eq w (spelling c) then Some c else first_of_those cs w

-- whether a word begins with a byte
abbrev pub begins : ℕ → List ℕ → Bool
begins b [] = false
begins b (c ∷ cs) = b == c

-- the keywords whose words begin with a byte
unfoldable pub beginning : ℕ → List Keyword
beginning b = filter (λ c. begins b (spelling c)) keywords

-- the keyword that a word is
unfoldable pub keyword_of : List ℕ → Option Keyword
keyword_of w = first_of_those keywords w

abbrev pub keyword_in : Form-F Form → Option Keyword
keyword_in (Form-F.Atom w) = keyword_of w
keyword_in (Form-F.List fs) = None

abbrev pub keyword_at : Form → Option Keyword
keyword_at f = keyword_in (out-Form f)
