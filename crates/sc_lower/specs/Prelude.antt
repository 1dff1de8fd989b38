-- What this crate's contracts, its proofs and the crates above cite, passed on from one place. Declares nothing.
pub use Rattle.sc_core.specs.Prelude.{IsWellTyped, call_nodes, cells_of, count_nodes, expr_nodes, init_nodes}
pub use Rattle.sc_core.specs.Prelude.{is_unsigned_op, local_nodes, main_name, most_cells, most_exports, most_nodes}
pub use Rattle.sc_core.specs.Prelude.{most_params, nodes, part_nodes, simple_nodes, stmt_nodes, total, variables}
pub use Rattle.sc_lower.specs.Beyond.{beyond, call_beyond, count_beyond, expr_beyond, init_beyond, kind_beyond}
pub use Rattle.sc_lower.specs.Beyond.{local_beyond, part_beyond, simple_beyond, stmt_beyond, term_beyond}
pub use Rattle.sc_lower.specs.Beyond.{variable_beyond}
pub use Rattle.sc_lower.specs.Branches.{HasBranches, KeepsBranches, branches, call_branches, count_branches}
pub use Rattle.sc_lower.specs.Branches.{expr_branches, ifs, ifs_step, init_branches, kind_branches, local_branches}
pub use Rattle.sc_lower.specs.Branches.{op_branches, part_branches, simple_branches, stmt_branches, stmt_ifs}
pub use Rattle.sc_lower.specs.Branches.{term_branches}
pub use Rattle.sc_lower.specs.Expressions.{Forms, Low, Lowered, Lows, and_code, at_place, between_op, binary}
pub use Rattle.sc_lower.specs.Expressions.{binary_code, constant_of, forms, from_first, from_one, from_two, is_logical}
pub use Rattle.sc_lower.specs.Expressions.{is_sub, logical_code}
pub use Rattle.sc_lower.specs.Expressions.{loaded, lone, lowered, lowered_step, member, move_op, not_op, or_code}
pub use Rattle.sc_lower.specs.Expressions.{place_code, replaced, scalar_in, scalar_of, size_of, term_step, truth_code}
pub use Rattle.sc_lower.specs.Expressions.{unary_op}
pub use Rattle.sc_lower.specs.Lines.{CodeHasNoLines, SameButForLines, lineless}
pub use Rattle.sc_lower.specs.Lowering.{KeepsCodeRules, KeepsMeaning, KeepsRules, MeansTheSame}
pub use Rattle.sc_lower.specs.Programs.{body_code, entry_of, export_called, exports_of, init_code, inits_code}
pub use Rattle.sc_lower.specs.Programs.{lowered_function, lowered_program, lowered_section, lowered_sections}
pub use Rattle.sc_lower.specs.Results.{AreFunctions, IsLowerable, code_after, code_of, fragment_after, fragment_of}
pub use Rattle.sc_lower.specs.Results.{values_of}
pub use Rattle.sc_lower.specs.Statements.{Many, Part, Parts, after, allocate_at, allocation, args, assign, block_code}
pub use Rattle.sc_lower.specs.Statements.{both, call_code, call_for, call_statement, count_code, cycle, first_of, fork}
pub use Rattle.sc_lower.specs.Statements.{free_value, in_turn, just, kind_step, many, part_code, return_value}
pub use Rattle.sc_lower.specs.Statements.{simple_code, stmt_code, store_at, test}
