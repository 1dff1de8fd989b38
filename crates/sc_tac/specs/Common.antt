-- The names from below that several definitions of this crate cite, passed on from one place. Declares nothing.
pub use Rattle.sc_event.specs.declared.event.Event.{Event}
pub use Rattle.sc_event.specs.declared.row.Entry.{Entry}
pub use Rattle.sc_event.specs.declared.row.Entry.TheVariants.{Export, Main}
pub use Rattle.sc_core.specs.Prelude.{Arith, Blocks, Break, Calls, Continue, Denotations, Does, Function, Here, Memory}
pub use Rattle.sc_core.specs.Prelude.{Next, Piece, Reached, Return, Run, State, Step, all_do, and_then, applied_one}
pub use Rattle.sc_core.specs.Prelude.{between, c_arith, choose, closed, computed, depth_in, elements_allocated}
pub use Rattle.sc_core.specs.Prelude.{frame_bound, global_block, leave, load, loop, most_nodes, most_params, moved}
pub use Rattle.sc_core.specs.Prelude.{moved_back, moved_on, on_words, released, roles_in, run_by, run_step}
pub use Rattle.sc_core.specs.Prelude.{scripted_step, stopped_at, stored, struct_zeros, total, truth, wrapping}
