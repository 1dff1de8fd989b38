-- What this crate's contracts, its proofs and the crates above cite, passed on from one place. Declares nothing.
pub use Rattle.sc_event.specs.Legal.{awaits, fits_result, imports, imports_of, is_allowed, is_end, is_function}
pub use Rattle.sc_event.specs.Legal.{is_input, is_legal_from, is_outermost, is_output, legal, may_perform, may_return}
pub use Rattle.sc_event.specs.Legal.{takes}
pub use Rattle.sc_event.specs.Line.{comp_name, event_line, export_name, line, spaced_names, spaced_words}
pub use Rattle.sc_event.specs.Lookup.{IsKnown, comp_at, export_at}
pub use Rattle.sc_event.specs.OpenCall.{HasEntered, StandsBy, here_or, open_after, open_call, returned_before}
pub use Rattle.sc_event.specs.Part.{action_of, count_of, part, rows_from}
pub use Rattle.sc_event.specs.Sets.{is_listed}
pub use Rattle.sc_event.specs.Standing.{Activation, Standing, at_start, performer, resumed, stands_after}
pub use Rattle.sc_event.specs.Standing.{stands_after_all}
