-- The names that several proofs of this crate cite, passed on from one place. Declares nothing.
pub use Rattle.std.proofs.Common.{Bool, List, Option, Some, [], ap, append_assoc, codes, drop, false, filter, flat_map}
pub use Rattle.std.proofs.Common.{if◌then◌else◌, length, refl, slice_index_or, suc, sym, true, ℕ, ◌++◌, ◌+◌, ◌<◌, ◌∙◌}
pub use Rattle.std.proofs.Common.{◌∷◌, ◌≡◌}
pub use Rattle.sc_back.specs.Common.{Call, End, Entry, Export, Interface, Interfaces, Main, Ret, Row, Scalar}
pub use Rattle.sc_back.specs.Prelude.{after_comma, back_text, declarations_text, directives_text, entry_at, export_text}
pub use Rattle.sc_back.specs.Prelude.{functions_text, head_text, import_text, is_of, main_text, own_row_text}
pub use Rattle.sc_back.specs.Prelude.{own_rows_text, param_texts, proto_text, row_text, section_text}
