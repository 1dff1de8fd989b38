-- What this crate's contracts, its proofs and the crates above cite, passed on from one place. Declares nothing.
pub use Rattle.sc_core.specs.Prelude.{Next, Return, State, all_do, and_then, assign, base_zeros, c_arith, call, choose}
pub use Rattle.sc_core.specs.Prelude.{computed, entry_in, evaluated, exit_word, first_word, follow, function}
pub use Rattle.sc_core.specs.Prelude.{function_of, global_block, globals_of, in_loop, in_order, init_does, inits_do}
pub use Rattle.sc_core.specs.Prelude.{is_word, leave, loop, main_name, may_call, meaning, member_zeros, next_input}
pub use Rattle.sc_core.specs.Prelude.{place_named, repeated, run_in, simple_does, starred_zeros, stopped_at, store_at}
pub use Rattle.sc_core.specs.Prelude.{stored, struct_zeros, test, turn, values, with_blocks, with_words, word_in}
pub use Rattle.sc_core.specs.Prelude.{zeros_of}
pub use Rattle.sc_blocks.specs.Rows.{memory_of}
pub use Rattle.sc_run_value.specs.Prelude.{here_of}
pub use Rattle.sc_run.specs.Ahead.{Doing, Passes, PassesIf, WaitsFirst, ended_so, in_body, in_round, left_at}
pub use Rattle.sc_run.specs.Comes.{CameTo, Comes, ComesMaking, with_exit}
pub use Rattle.sc_run.specs.Entering.{Begun, back_from, block_for, body_acts, emitted_call, entry_from, with_variables}
pub use Rattle.sc_run.specs.Finding.{EntryAt, FoundAt}
pub use Rattle.sc_run.specs.Resume.{Completes, DoneOr, IsCall, Leads, Reaches, ReachesOr, call_acts}
pub use Rattle.sc_run.specs.Resume.{Advances, EndsAs, Standing, Stands, Steps, back_to, block_acts, bodies, calls_in}
pub use Rattle.sc_run.specs.Resume.{closes, count_way_in, denotations, does_now, exit_of, function_in, loop_acts}
pub use Rattle.sc_run.specs.Resume.{next_acts, part_acts, result_goes, resume, returned, step_of, stmt_acts}
pub use Rattle.sc_run.specs.Resume.{unless_done, way_in}
pub use Rattle.sc_run.specs.Returning.{back_value, emitted_return, ended_as, left_by, variable_count, word_crossing}
pub use Rattle.sc_run.specs.Seen.{Seen, kept_by, seen_of}
pub use Rattle.sc_run.specs.Starting.{cell_with}
pub use Rattle.sc_run.specs.Weights.{AnotherSuffices, IsLess, NumbersLast, block_nodes, block_weight}
pub use Rattle.sc_run.specs.Weights.{body_weight, leaf_weight, loop_weight, now_weight, place_weight, stmt_weight}
