-- The names that several proofs of this crate cite, passed on from one place. Declares nothing.
pub use Rattle.std.proofs.Common.{All, Bool, Err, List, Ok, Result, [], ap, append-nil, append_assoc, arith, codes}
pub use Rattle.std.proofs.Common.{drop, drop_at, eq-eqb, eqb-true, false, flat_map, get_or, get_or-drop, get_or-take}
pub use Rattle.std.proofs.Common.{inl, inr, le-leb, leb-true, length, length-append, length-take, lt-ltb, ltb-true}
pub use Rattle.std.proofs.Common.{nat_le, nat_lt, refl, subst, suc, sym, take, take-append-drop, take_at, true, zero, ℕ}
pub use Rattle.std.proofs.Common.{◌%◌, ◌&&◌, ◌*◌, ◌++◌, ◌+◌, ◌-◌, ◌/◌, ◌<◌, ◌==◌, ◌^◌, ◌∙◌, ◌∷◌, ◌≡◌, ◌≤◌}
pub use Rattle.std.proofs.lemmas.Bool.{and_from, and_parts, cases_lt, not-true, not_from_false}
pub use Rattle.std.proofs.lemmas.Bool.Decides.{nat_tests}
pub use Rattle.std.proofs.lemmas.List.{get_or_default, get_or_past}
pub use Rattle.std.proofs.lemmas.Nat.{le_bytes_2, le_bytes_4}
pub use Rattle.std.proofs.lemmas.Result.{err_from_is_err_and}
pub use Rattle.std.specs.Cmp.Lexicographic.{bytes_decides, same_text}
pub use Rattle.std.specs.List.{AllByRecursion, list_all}
pub use Rattle.byteorder.specs.Endian.{little_bytes, little_number}
pub use Rattle.sc_base.specs.Prelude.{is_name_byte, is_nondigit}
unfoldable pub use Rattle.sc_base.specs.Prelude.{is_name}
pub use Rattle.sc_fields.specs.Prelude.{Fails, Read, bit, bytes_at, code_bytes, globals_bytes, if_good, import_bytes}
pub use Rattle.sc_fields.specs.Prelude.{imports_bytes, is_same_name, mark_at, name_bytes, number_at, number_that, ◌>>=◌}
unfoldable pub use Rattle.sc_fields.specs.Prelude.{code_at, comp_name_at, fields_at, globals_at, import_at, imports_at}
unfoldable pub use Rattle.sc_fields.specs.Prelude.{read_name}
pub use Rattle.sc_fields.specs.declared.import.ImportPart.{ImportPart}
