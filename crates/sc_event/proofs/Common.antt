-- The names that several proofs of this crate cite, passed on from one place. Declares nothing.
pub use Rattle.std.proofs.Common.{All, Bool, IfSome, IsSome, List, None, Option, Some, [], ap, arith, codes, cond, drop}
pub use Rattle.std.proofs.Common.{eq-eqb, eqb-true, false, filter, get_or, if◌then◌else◌, length, length-drop, map}
pub use Rattle.std.proofs.Common.{ne_eqb, refl, replicate, slice_get, subst, suc, sym, take, true, zero, ℕ, ◌&&◌, ◌++◌}
pub use Rattle.std.proofs.Common.{◌+◌, ◌-◌, ◌<◌, ◌==◌, ◌∙◌, ◌∷◌, ◌≡◌, ◌≤◌}
pub use Rattle.std.proofs.lemmas.Bool.{and_parts, false≢true}
pub use Rattle.std.proofs.lemmas.List.{drop_more, take_more}
pub use Rattle.std.proofs.lemmas.Option.{get_or_from_slice_get, none-some, same_Some, slice_get-get_or}
pub use Rattle.std.proofs.lemmas.Option.{slice_get_within}
pub use Rattle.std.specs.Option.{option_and_then, option_map_or}
pub use Rattle.sc_event.specs.Prelude.{Activation, HasEntered, IsKnown, Standing, StandsBy, action_of, at_start, awaits}
pub use Rattle.sc_event.specs.Prelude.{comp_at, count_of, event_line, export_at, here_or, imports, is_allowed, is_end}
pub use Rattle.sc_event.specs.Prelude.{is_legal_from, legal, may_perform, may_return, open_after, open_call, part}
pub use Rattle.sc_event.specs.Prelude.{performer, resumed, returned_before, rows_from, spaced_names, spaced_words}
pub use Rattle.sc_event.specs.Prelude.{stands_after, stands_after_all, takes}
pub use Rattle.sc_event.specs.declared.event.Event.{Event}
pub use Rattle.sc_event.specs.declared.event.Event.TheVariants.{Call, End, In, Out, Ret}
pub use Rattle.sc_event.specs.declared.interface.Interfaces.{Interfaces}
