-- The names that several proofs of this crate cite, passed on from one place. Declares nothing.
pub use Rattle.std.proofs.Common.{Bool, List, None, Option, Some, [], ap, append-nil, append_assoc, arith, drop}
pub use Rattle.std.proofs.Common.{drop-cons, false, get_or, if◌then◌else◌, inl, inr, leb, length, map, min, not, refl}
pub use Rattle.std.proofs.Common.{replicate, rules, slice_get, subst, suc, sym, take, true, zero-add, ℕ, ◌&&◌, ◌++◌}
pub use Rattle.std.proofs.Common.{zero, ◌*◌, ◌+◌, ◌-◌, ◌<◌, ◌==◌, ◌^◌, ◌||◌, ◌∙◌, ◌∷◌, ◌≡◌, ◌≤◌, ◌⊎◌}
pub use Rattle.std.specs.List.{filter, list_any, range_with_len}
pub use Rattle.std.specs.Option.{option_map, unwrap_or}
pub use Rattle.sc_tac.specs.Prelude.{AreIntervals, Lives, Point, Span, TempSet, Trail, ahead_at, as_interval, from_here}
pub use Rattle.sc_tac.specs.Prelude.{function_points, has_call, if_calls, in_body, in_head, in_next, interval_of}
pub use Rattle.sc_tac.specs.Prelude.{is_one, is_used, live_across, live_at_start, live_before, loop_points, nothing}
pub use Rattle.sc_tac.specs.Prelude.{nothing_live, one_or_none, part_lives, plain_points, point, point_behind, points}
pub use Rattle.sc_tac.specs.Prelude.{readings, row_first, row_points, span_from, stmt_points, stmt_weight, trail}
pub use Rattle.sc_tac.specs.Prelude.{trail_step, weight}
pub use Rattle.sc_tac.specs.declared.stmt.TacStmt.{TacStmt, TacStmt-F, fold-roll-TacStmt, map-TacStmt, roll-TacStmt}
pub use Rattle.sc_live.specs.Marks.{is_met, mark_from, mark_here, mark_of, mark_to, marked, nearest_call, set_of}
pub use Rattle.sc_live.specs.Walks.{Holds, Passed, Walked, WalkedAll, WalkedOver, interval_at, live_first, lives_at}
pub use Rattle.sc_live.specs.declared.marks.Mark.{Mark}
pub use Rattle.sc_live.specs.declared.walk.Walk.{Walk}
