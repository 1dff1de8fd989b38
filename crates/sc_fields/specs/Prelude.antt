-- What this crate's contracts, its proofs and the crates above cite, passed on from one place. Declares nothing.
pub use Rattle.sc_fields.specs.Bytes.{bit, code_bytes, globals_bytes, import_bytes, imports_bytes, name_bytes}
pub use Rattle.sc_fields.specs.Reading.{Fails, Gives, Read, bytes_at, if_good, is_same_name, mark_at, number_at}
pub use Rattle.sc_fields.specs.Reading.{number_that, ◌>>=◌}
unfoldable pub use Rattle.sc_fields.specs.Reading.{code_at, comp_name_at, fields_at, globals_at, import_at, imports_at}
unfoldable pub use Rattle.sc_fields.specs.Reading.{read_name}
