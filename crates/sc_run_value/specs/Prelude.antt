-- What this crate's contracts, its proofs and the crates above cite, passed on from one place. Declares nothing.
pub use Rattle.sc_base.specs.declared.op.BinaryOp.TheVariants.{Add}
pub use Rattle.sc_core.specs.Prelude.{Blocks, apart, applied, applied_one, at_pointer, between, bind, c_arith, c_binary}
pub use Rattle.sc_core.specs.Prelude.{c_negated, cell_of, in_elements, is_inside, is_less, is_pointer, is_true}
pub use Rattle.sc_core.specs.Prelude.{is_unsigned, is_unsigned_op, literal, load, moved, moved_back, moved_on}
pub use Rattle.sc_core.specs.Prelude.{number_of, of_bool, on_words, or_cause, ordered, place_at, same_place, store}
pub use Rattle.sc_core.specs.Prelude.{target_cells, truth, values, variable_at, wanted, ways, with_blocks}
pub use Rattle.sc_core.specs.declared.value.Value.TheVariants.{Ptr, Word}
pub use Rattle.sc_blocks.specs.Rows.{cause_of, free_cell, memory_of}
pub use Rattle.sc_run_value.specs.Access.{count_at, typed}
pub use Rattle.sc_run_value.specs.Evaluation.{decided, joined}
pub use Rattle.sc_run_value.specs.Where.{here_of}
