use Rattle.std.proofs.Common.{arith}
use Rattle.krml_reader.specs.Read.{Reads, IsShort}
use Rattle.krml_reader.proofs.FileLaws.{forms_answered}
use Rattle.krml_reader.proofs.read.read.Goals as goal

pub returns-then-text-gt-MAX_TEXT : goal.returns-then-text-gt-MAX_TEXT
returns-then-text-gt-MAX_TEXT c = Reads.too_large (omega (arith, c.if-text-gt-MAX_TEXT.true))

pub returns-in-Forms : goal.returns-in-Forms
returns-in-Forms c =
    let short : IsShort c.args.text.now = omega (arith, c.if-text-gt-MAX_TEXT.false) in
    forms_answered c.args.text.now c.in-Forms.forms c.file_of.result short (rw c.in-Forms.is at c.in_ok-forms.ensures) (rw c.as_slice.ensures at c.file_of.ensures)

pub returns-in-Syntax : goal.returns-in-Syntax
returns-in-Syntax c =
    let short : IsShort c.args.text.now = omega (arith, c.if-text-gt-MAX_TEXT.false) in
    Reads.syntax short (rw c.in-Syntax.is at c.in_ok-forms.ensures)

pub returns-in-Nesting : goal.returns-in-Nesting
returns-in-Nesting c =
    let short : IsShort c.args.text.now = omega (arith, c.if-text-gt-MAX_TEXT.false) in
    let is = rw c.in-Nesting.is at c.in_ok-forms.ensures in
    Reads.nesting short is.1 is.0
