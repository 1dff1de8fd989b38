-- The names from below that several definitions of this crate cite, passed on from one place. Declares nothing.
pub use Rattle.sc_tac.specs.Prelude.{is_place, register_count}
pub use Rattle.sc_tac.specs.declared.interval.Interval.{Interval}
pub use Rattle.sc_tac.specs.declared.place.Place.{Place}
pub use Rattle.sc_tac.specs.declared.place.Place.TheVariants.{Register, Slot}
pub use Rattle.sc_alloc.specs.declared.placements.Placement.{Placement}
