-- What this crate's contracts, its proofs and the crates above cite, passed on from one place. Declares nothing.
pub use Rattle.sc_store.specs.Cells.{AreDistinct, AreOut, byte_at, byte_on, cell, replaced}
pub use Rattle.sc_store.specs.Flat.{IsZero, Reads, bytes_of, piece_of, region_of, regions_of, spans, written}
pub use Rattle.sc_store.specs.Memory.{HasBytes, HoldsBytes, ByteMemory, byte_of, load_of, with_bytes, zeros}
pub use Rattle.sc_store.specs.Paged.{ArePlaced, AreSingle, IsFocus, memory_of, place_found, place_in, place_of, reaches}
pub use Rattle.sc_store.specs.Paged.{regions_in}
pub use Rattle.sc_store.specs.Region.{AreApart, AreBelow, IsIn, is_in}
pub use Rattle.sc_store.specs.Store.{bytes_in}
