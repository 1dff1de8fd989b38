-- The names that several proofs of this crate cite, passed on from one place. Declares nothing.
pub use Rattle.std.proofs.Common.{Bool, IfOk, IsSome, List, None, OnOk, Option, Result, Some, [], add-one, ap}
pub use Rattle.std.proofs.Common.{append-nil, append_assoc, arith, bytes_eq, drop, false, filter_map, get_or}
pub use Rattle.std.proofs.Common.{if◌then◌else◌, length, map, ne_eqb, option_map, position, refl, slice_get, subst, suc}
pub use Rattle.std.proofs.Common.{sym, take, true, zero, ℕ, ◌&&◌, ◌++◌, ◌+◌, ◌<◌, ◌==◌, ◌∙◌, ◌∷◌, ◌≡◌, ◌≤◌}
pub use Rattle.std.proofs.lemmas.List.{drop_all, map-append}
pub use Rattle.std.proofs.lemmas.Option.{get_or_from_slice_get, same_Some, slice_get-get_or, slice_get-map}
pub use Rattle.std.proofs.lemmas.Option.{slice_get_within}
pub use Rattle.std.specs.List.{concat, cons_option, list_any}
pub use Rattle.std.specs.Option.{option_and_then}
pub use Rattle.sc_base.proofs.Lists.{drop-step, map_twice, position-cons, take-step}
pub use Rattle.sc_ast.specs.Prelude.{head_of, param_of}
pub use Rattle.sc_ast.specs.declared.expr.ExprTree.{ExprTree}
pub use Rattle.sc_ast.specs.declared.section.GlobalTree.{GlobalTree}
pub use Rattle.sc_types_scope.proofs.Lines.{noted_all-append, then, with_lines-append, with_lines-nil}
pub use Rattle.sc_types_scope.specs.Prelude.{function_in, function_named, function_names, function_decls, global_in}
pub use Rattle.sc_types_scope.specs.Prelude.{globals_in, head_in, heads_in, import_of, interface_of, interfaces_from}
pub use Rattle.sc_types_scope.specs.Prelude.{interfaces_of, line_of_text, noted, noted_all, refused_at, struct_in}
pub use Rattle.sc_types_scope.specs.Prelude.{struct_names, structs_in, unless, with_lines}
pub use Rattle.sc_types_scope.specs.declared.broken.BrokenLines.{BrokenLines}
pub use Rattle.sc_core.specs.Prelude.{Scope, has_member, init_fits, is_type, same_base, same_ty, starred, variable_ty}
pub use Rattle.sc_core.specs.declared.section.TypedStruct.{TypedStruct}
pub use Rattle.sc_core.specs.declared.ty.Ty.{Ty}
pub use Rattle.sc_types_elab_expr.specs.Prelude.{Found, Suits, Visible, called, variable_in, going_to, imported}
pub use Rattle.sc_types_elab_expr.specs.Prelude.{names_of}
pub use Rattle.sc_types_elab_expr.specs.Prelude.{no_ty, or_else, or_first_own, target_or, typed, visible}
pub use Rattle.sc_types_elab_expr.specs.declared.callees.Callees.{Callees}
pub use Rattle.sc_types_elab_expr.specs.declared.scope.FunctionScope.{FunctionScope}
pub use Rattle.sc_types_elab_expr.specs.declared.scope.SectionScope.{SectionScope}
pub use Rattle.sc_types_elab_stmt.proofs.Noted.{noted-all, noted-next, on_ok}
pub use Rattle.sc_types_elab_stmt.specs.Prelude.{init_goes, stmt_type_lines, typed_stmt}
unfoldable pub use Rattle.sc_types_elab_stmt.specs.Prelude.{stmt_in, value_in}
pub use Rattle.sc_types_elab.specs.Common.{Decl, FunctionTree, HeadTree, Import, ImportLine, LocalTree, StructTree}
pub use Rattle.sc_types_elab.specs.Common.{TypedLocal}
pub use Rattle.sc_types_elab.specs.Prelude.{CallsIn, SectionTree, Stands, StandsIn, called_head, callees_of}
pub use Rattle.sc_types_elab.specs.Prelude.{calling_heads, cells_from, decl_type_lines, end_of_member}
pub use Rattle.sc_types_elab.specs.Prelude.{function_type_lines}
pub use Rattle.sc_types_elab.specs.Prelude.{function_name, function_signature, global_type_lines, global_variable}
pub use Rattle.sc_types_elab.specs.Prelude.{head_name}
pub use Rattle.sc_types_elab.specs.Prelude.{head_named, import_line_name, import_named, import_target, imported_target}
pub use Rattle.sc_types_elab.specs.Prelude.{init_holds, is_sized, local_in, local_variable, typed_locals_from}
pub use Rattle.sc_types_elab.specs.Prelude.{members_from}
pub use Rattle.sc_types_elab.specs.Prelude.{or_first, param_ty, scope_in, section_type_lines, sections_from}
pub use Rattle.sc_types_elab.specs.Prelude.{signature_by}
pub use Rattle.sc_types_elab.specs.Prelude.{struct_name, tags, type_of, type_of_name, type_with, typed_function}
pub use Rattle.sc_types_elab.specs.Prelude.{typed_global, typed_init, typed_local, typed_param, typed_section}
pub use Rattle.sc_types_elab.specs.Prelude.{typed_struct, types_broken, visible_in, word_of_const}
unfoldable pub use Rattle.sc_types_elab.specs.Prelude.{typed_locals, typed_structs}
