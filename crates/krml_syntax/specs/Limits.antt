-- The limits of a file: what is counted, in the order of the text, and how much of it there may be.
use Rattle.std.specs.Prelude.{ℕ, Bool, false, if◌then◌else◌, ◌==◌, nat_lt, List, [], ◌∷◌, ◌++◌, map, length, codes, Option, Some, None}
use Rattle.std.specs.List.{flat_map}
use Rattle.std.specs.Str.{bytes_eq}
use Rattle.krml_trace.specs.Limits.{max_elements}
use Rattle.krml_forms.specs.declared.form.Form.{Form, out-Form}
use Rattle.krml_forms.specs.declared.form.Form.TheOpen.{Form-F}
use Rattle.krml_forms.specs.declared.form.Form.TheFolds.{fold-Form, para-Form}
use Rattle.krml_forms.specs.Levels.{form_count}
use Rattle.krml_syntax.specs.declared.limit.LimitKind.{LimitKind}
use Rattle.krml_syntax.specs.declared.limit.LimitKind.TheVariants as k
use Rattle.krml_syntax.specs.declared.tree.Def.{Def}
use Rattle.krml_syntax.specs.declared.tree.Def.TheVariants as d
use Rattle.krml_syntax.specs.Number.{number_at}

abbrev pub limit_of : LimitKind → ℕ
limit_of k.Definitions = 2000
limit_of k.Name = 64
limit_of k.Forms = 8000
limit_of k.Variables = 8
limit_of k.Parameters = 32
limit_of k.Fields = 24
limit_of k.Constructors = 256
limit_of k.Elements = max_elements

-- the order in which they are answered
abbrev pub kinds : List LimitKind
kinds = k.Definitions ∷ k.Name ∷ k.Forms ∷ k.Variables ∷ k.Parameters ∷ k.Fields ∷ k.Constructors ∷ k.Elements ∷ []

-- the bytes of a word, without the quote of a type variable
abbrev pub word_length : List ℕ → ℕ
word_length [] = 0
word_length (b ∷ bs) = if b == 39 then length bs else length (b ∷ bs)

abbrev pub level_word_lengths : Form-F (List ℕ) → List ℕ
level_word_lengths (Form-F.Atom w) = word_length w ∷ []
level_word_lengths (Form-F.List lengths) = flat_map (λ ns. ns) lengths

-- The words of a form. In one that spells a definition only a name can be longer than the limit of names, since every
-- other word is a keyword or a number below 2 to the power 64.
abbrev pub word_lengths : Form → List ℕ
word_lengths = fold-Form (List ℕ) level_word_lengths

abbrev pub is_alloc_in : Form-F Form → Bool
is_alloc_in (Form-F.Atom w) = bytes_eq w (codes "alloc")
is_alloc_in (Form-F.List fs) = false

abbrev pub listed : Option ℕ → List ℕ
listed (Some n) = n ∷ []
listed None = []

-- the number of elements of a list that is (alloc T N e)
abbrev pub own_length : List Form → List ℕ
own_length (head ∷ ty ∷ n ∷ value ∷ []) = if is_alloc_in (out-Form head) then listed (number_at n) else []
own_length _ = []

abbrev pub level_alloc_lengths : Form-F (Form × List ℕ) → List ℕ
level_alloc_lengths (Form-F.Atom w) = []
level_alloc_lengths (Form-F.List inner) = own_length (map (λ x. x.0) inner) ++ flat_map (λ x. x.1) inner

-- The numbers of elements that stand in the `alloc` forms of a form. In one that spells a function no other list of four
-- begins with that word and has a number in its third place.
abbrev pub alloc_lengths : Form → List ℕ
alloc_lengths = para-Form (List ℕ) level_alloc_lengths

-- what there is of a kind in a definition and the form that spells it
abbrev pub counts_in : LimitKind → Form → Def → List ℕ
counts_in k.Name f def = word_lengths f
counts_in k.Forms f (d.Fun name vars params result body) = form_count f ∷ []
counts_in k.Variables f (d.Struct name vars fields) = length vars ∷ []
counts_in k.Variables f (d.Sum name vars cons) = length vars ∷ []
counts_in k.Variables f (d.Fun name vars params result body) = length vars ∷ []
counts_in k.Parameters f (d.Fun name vars params result body) = length params ∷ []
counts_in k.Fields f (d.Struct name vars fields) = length fields ∷ []
counts_in k.Constructors f (d.Sum name vars cons) = length cons ∷ []
counts_in k.Elements f (d.Table name ty nums) = length nums ∷ []
counts_in k.Elements f (d.Fun name vars params result body) = alloc_lengths f
counts_in _ f def = []

abbrev pub counts_each : LimitKind → List Form → List Def → List ℕ
counts_each kind (f ∷ fs) (def ∷ defs) = counts_in kind f def ++ counts_each kind fs defs
counts_each kind _ _ = []

-- what there is of a kind in a file and the forms that spell it
abbrev pub counts : LimitKind → List Form → List Def → List ℕ
counts k.Definitions fs defs = length defs ∷ []
counts kind fs defs = counts_each kind fs defs

-- the first count above a limit
abbrev pub first_above : ℕ → List ℕ → Option ℕ
first_above limit [] = None
first_above limit (n ∷ ns) = if nat_lt limit n then Some n else first_above limit ns

abbrev pub excess : LimitKind → List Form → List Def → Option ℕ
excess kind fs defs = first_above (limit_of kind) (counts kind fs defs)

-- the excess of one kind where there is one, else that of the kinds after it
abbrev pub excess_or : LimitKind → Option (LimitKind × ℕ) → Option ℕ → Option (LimitKind × ℕ)
excess_or kind later (Some n) = Some (kind, n)
excess_or kind later None = later

abbrev pub first_excess_of : List LimitKind → List Form → List Def → Option (LimitKind × ℕ)
first_excess_of [] fs defs = None
first_excess_of (kind ∷ more) fs defs = excess_or kind (first_excess_of more fs defs) (excess kind fs defs)

-- The first kind whose limit is exceeded, with the count at the first place where it is.
abbrev pub first_excess : List Form → List Def → Option (LimitKind × ℕ)
first_excess = first_excess_of kinds
