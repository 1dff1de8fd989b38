-- What this crate's contracts, its proofs and the crates above cite, passed on from one place. Declares nothing.
pub use Rattle.sc_tac.specs.Prelude.{IsAssignment, IsSparing, register_count}
pub use Rattle.sc_alloc.specs.Places.{Scanned, assigned, at_first, is_over, register_for, scan_next, sorted_by}
pub use Rattle.sc_alloc.specs.Scan.{AllBegun, AreFair, AreKnown, AreNumbered, ArePlaced, AreRegisters, AreSlots}
pub use Rattle.sc_alloc.specs.Scan.{GivesRegister, GivesSlot, HasCome, HasEnds, HasSlot, IsAt, IsChosen, IsNext, IsOut}
pub use Rattle.sc_alloc.specs.Scan.{IsScan, IsTaken, NoneFree}
pub use Rattle.sc_alloc.specs.declared.placements.Placement.{Placement}
