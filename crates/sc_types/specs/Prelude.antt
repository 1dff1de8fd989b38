-- What this crate's contracts, its proofs and the crates above cite, passed on from one place. Declares nothing.
pub use Rattle.sc_base.specs.Prelude.{most_compartments, most_exports}
pub use Rattle.sc_types_scope.specs.Prelude.{function_decls, globals_in, heads_in, line_of_text, names_broken}
pub use Rattle.sc_types_scope.specs.Prelude.{refused_at}
pub use Rattle.sc_types_scope.specs.Prelude.{struct_names, structs_in, with_lines}
pub use Rattle.sc_core.specs.Prelude.{most_nodes, total}
pub use Rattle.sc_types.specs.Acceptance.{Accepts, AreLow, Fails, FailsRules, FailsTyped, IsTyped}
pub use Rattle.sc_types.specs.Counts.{counts_broken, function_count_lines, global_count_lines, head_lines, is_small}
pub use Rattle.sc_types.specs.Counts.{line_beyond}
pub use Rattle.sc_types.specs.Counts.{line_of_some, count_lines_from, local_lines, param_small, section_count_lines}
pub use Rattle.sc_types.specs.Counts.{section_nodes}
pub use Rattle.sc_types.specs.Counts.{structs_from, type_in}
pub use Rattle.sc_types.specs.Source.{IsSource, IsSplitInto, SourceParts}
pub use Rattle.sc_types.specs.Starts.{AreStarts, IsKept, first_start, parts_from, source_of, start_of}
pub use Rattle.sc_types.specs.TreeNodes.{call_nodes, decls_nodes, expr_nodes, expr_step, function_nodes, kind_nodes}
pub use Rattle.sc_types.specs.TreeNodes.{kind_step, local_nodes, option_nodes, part_nodes, simple_nodes, stmt_nodes}
pub use Rattle.sc_types.specs.TreeNodes.{stmt_step, stmts_nodes}
