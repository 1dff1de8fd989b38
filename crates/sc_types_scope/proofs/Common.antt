-- The names that several proofs of this crate cite, passed on from one place. Declares nothing.
pub use Rattle.std.proofs.Common.{Bool, List, Option, [], add-one, ap, append-nil, append_assoc, arith, drop, drop-cons}
pub use Rattle.std.proofs.Common.{false, get_or, length, map, nat_eq, not, refl, rules, suc, sym, take, true, ℕ, ◌&&◌}
pub use Rattle.std.proofs.Common.{◌++◌, ◌+◌, ◌<◌, ◌||◌, ◌∙◌, ◌∷◌, ◌≡◌, ◌≤◌}
pub use Rattle.std.proofs.lemmas.List.{drop_all, map-append}
pub use Rattle.std.specs.List.{filter_map, list_all}
pub use Rattle.sc_base.specs.Prelude.{Text}
pub use Rattle.sc_ast.specs.declared.section.LocalTree.{LocalTree}
pub use Rattle.sc_types_scope.specs.Common.{Decl, Function, FunctionTree, Global, ImportLine, ParamTree, Proto}
pub use Rattle.sc_types_scope.specs.Common.{SectionTree, Struct}
pub use Rattle.sc_types_scope.specs.Prelude.{FunctionParam, Known, all_in, among, are_distinct, base_known, body_lines}
pub use Rattle.sc_types_scope.specs.Prelude.{decl_name_lines, declared, expr_known, function_name_lines, function_names}
pub use Rattle.sc_types_scope.specs.Prelude.{head_of_known, known, line_of_text, name_lines_from, local_known}
pub use Rattle.sc_types_scope.specs.Prelude.{local_names}
pub use Rattle.sc_types_scope.specs.Prelude.{locals_from, member_names, names_broken, noted, param_names}
pub use Rattle.sc_types_scope.specs.Prelude.{part_name_lines}
pub use Rattle.sc_types_scope.specs.Prelude.{refused_at, section_name_lines, stmt_name_lines, unless, with_decl}
pub use Rattle.sc_types_scope.specs.Prelude.{with_lines}
unfoldable pub use Rattle.sc_types_scope.specs.Prelude.{noted_all}
pub use Rattle.sc_types_scope.specs.declared.broken.BrokenLines.{BrokenLines}
