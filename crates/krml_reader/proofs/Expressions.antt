-- What a form is read as is the expression that it spells, and the expression that it spells it is read as.
pub use Rattle.krml_reader.proofs.ExpressionOnly.{expr_only}
pub use Rattle.krml_reader.proofs.ExpressionAgain.{expr_again}
