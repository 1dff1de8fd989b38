-- The names that several proofs of this crate cite, passed on from one place. Declares nothing.
pub use Rattle.std.proofs.Common.{All, Bool, Err, List, None, Ok, Option, Result, Some, [], ap, ap₂, append-nil}
pub use Rattle.std.proofs.Common.{append_assoc, arith, codes, drop, eq-eqb, eqb-true, false, flat_map, get_or, inl, inr}
pub use Rattle.std.proofs.Common.{le-leb, leb-true, length, length-append, lit≤, lt-ltb, ltb-true, map, nat_eq, nat_le}
pub use Rattle.std.proofs.Common.{nat_lt, refl, subst, suc, sym, true, zero, ℕ, ◌%◌, ◌&&◌, ◌*◌, ◌++◌, ◌+◌, ◌-◌, ◌/◌}
pub use Rattle.std.proofs.Common.{◌<◌, ◌==◌, ◌^◌, ◌∙◌, ◌∷◌, ◌≡◌, ◌≢◌, ◌≤◌, ◌⊎◌, take, cond, if◌then◌else◌, is_some, not}
pub use Rattle.std.proofs.Common.{◌||◌}
pub use Rattle.std.proofs.Math.ListN.{drop_of_length-le}
pub use Rattle.std.proofs.lemmas.List.{drop_more, length-map, take_more}
pub use Rattle.std.proofs.lemmas.Bool.{and_from, and_parts, false_from_ne_true, cases_lt}
pub use Rattle.std.proofs.lemmas.Bool.Decides.{nat_tests, not_from_Decides}
pub use Rattle.std.proofs.lemmas.List.Concat.{flat_map-append, flat_map-cons}
pub use Rattle.std.proofs.lemmas.List.Elements.{All-cons, All-from_recursion, All-head, All-nil, All-tail}
pub use Rattle.std.proofs.lemmas.List.Elements.{recursion_from_All}
pub use Rattle.std.proofs.lemmas.Result.{err_from_is_err_and}
pub use Rattle.std.specs.Cmp.Lexicographic.{bytes_decides, pointwise}
pub use Rattle.std.specs.List.{AllByRecursion, list_all, slice_get, find, list_any}
pub use Rattle.byteorder.specs.Endian.{little_bytes, little_number}
pub use Rattle.sc_base.specs.Prelude.{is_between}
unfoldable pub use Rattle.sc_base.specs.Prelude.{is_name}
pub use Rattle.sc_fields.specs.Prelude.{Fails, Read, bit, code_bytes, globals_bytes, if_good, imports_bytes}
pub use Rattle.sc_fields.specs.Prelude.{is_same_name, mark_at, name_bytes, number_that, ◌>>=◌}
unfoldable pub use Rattle.sc_fields.specs.Prelude.{code_at, comp_name_at, fields_at, globals_at, imports_at, read_name}
pub use Rattle.sc_fields.specs.declared.import.ImportPart.{ImportPart}
pub use Rattle.sc_image.specs.Prelude.{IsByte, IsWord, most_globals, stretch, IsWellFormed, are_distinct_by, code_in}
pub use Rattle.sc_image.specs.Prelude.{code_start, comps_keep, exports_keep, flags, has_heap, imports_keep}
pub use Rattle.sc_image.specs.Prelude.{initial_globals, is_entry, is_importable, is_same_flag, is_same_import}
pub use Rattle.sc_image.specs.Prelude.{keeps_rules as image_keeps_rules}
pub use Rattle.sc_object.specs.Prelude.{AreBytesOf, AreObjects, BytesNameOneList, FaceFits, IsFace, IsFaceExport}
pub use Rattle.sc_object.specs.Prelude.{IsFirstBad, IsObject, IsReadSo, ObjectIsReadAgain, ObjectsOrBad, OneFirstBad}
pub use Rattle.sc_object.specs.Prelude.{count_at, face_bytes, face_export_bytes, face_exports_bytes, face_flags}
pub use Rattle.sc_object.specs.Prelude.{face_keeps, faces_keep, is_offered, is_start, keeps_rules, object_bytes}
pub use Rattle.sc_object.specs.Prelude.{object_parts_bytes, start_at, version_at, AreObjectsOf, CanBeJoined, HasEntries}
pub use Rattle.sc_object.specs.Prelude.{HasOwn, IsJoined, LinkIsCompile, ObjectsAreSeparate, IsJoinFault, differ_from}
pub use Rattle.sc_object.specs.Prelude.{face_export, face_of, has_number, is_same_export, is_same_face}
pub use Rattle.sc_object.specs.Prelude.{is_same_program, join_as, join_fault, joined_part, joined_parts, missing_from}
pub use Rattle.sc_object.specs.Prelude.{object_for, object_of, own_exports, twice_from, with_entries}
unfoldable pub use Rattle.sc_object.specs.Prelude.{face_at, face_exports_at, object_at, parts_at, read_face_export}
pub use Rattle.sc_object.specs.declared.fault.BadObject.{BadObject}
pub use Rattle.sc_object.specs.declared.fault.BadObject.TheVariants.{Code, Faces, Globals, Heap, Mark, Numbers, Start}
pub use Rattle.sc_object.specs.declared.fault.BadObject.TheVariants.{Version, Whole}
pub use Rattle.sc_object.specs.declared.parts.Face.{Face}
pub use Rattle.sc_object.specs.declared.parts.FaceExport.{FaceExport}
pub use Rattle.sc_object.specs.declared.parts.ObjectParts.{ObjectParts}
pub use Rattle.std.proofs.lemmas.Option.{slice_get-map, slice_get_within}
pub use Rattle.std.specs.Cmp.{unsigned_Decides}
pub use Rattle.std.specs.Option.{option_map, option_map_or, option_or}
pub use Rattle.sc_base.proofs.Lists.{is_there}
pub use Rattle.sc_event.specs.Prelude.{comp_at, imports, is_input, is_output}
pub use Rattle.sc_event.specs.declared.interface.Interface.{Interface}
pub use Rattle.sc_event.specs.declared.interface.Interfaces.{Interfaces}
pub use Rattle.sc_event.specs.declared.interface.Proto.{Proto}
pub use Rattle.sc_core.specs.Prelude.{main_name, place_named}
pub use Rattle.sc_core.specs.declared.program.ProgramTree.{ProgramTree}
pub use Rattle.sc_core.specs.declared.section.TypedSection.{TypedSection}
unfoldable pub use Rattle.sc_image.specs.Prelude.{word_at}
pub use Rattle.sc_image.specs.declared.parts.CompPart.{CompPart}
pub use Rattle.sc_image.specs.declared.parts.ExportPart.{ExportPart}
pub use Rattle.sc_image.specs.declared.parts.ImageParts.{ImageParts}
pub use Rattle.sc_linker.specs.Prelude.{comp_part, comp_parts, export_parts, exports_in, function_address, import_part}
pub use Rattle.sc_linker.specs.Prelude.{section_addresses, section_or_none}
pub use Rattle.sc_compile.specs.Prelude.{built_image, image_of}
pub use Rattle.sc_object.specs.declared.linking.JoinFault.TheVariants.{Differ, Missing, OutOfMemory, Twice}
