-- Names, as every part of krml knows them.
pub use Rattle.krml_trace.specs.Name.{reserved, IsName}
unfoldable pub use Rattle.krml_trace.specs.Name.{is_reserved, is_name}
