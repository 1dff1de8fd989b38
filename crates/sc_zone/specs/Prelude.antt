-- What this crate's contracts, its proofs and the crates above cite, passed on from one place. Declares nothing.
pub use Rattle.sc_zone.specs.Zone.{is_free, misses, starts_at, taken, with_span, without_span, words_at, zone_words}
unfoldable pub use Rattle.sc_zone.specs.Zone.{first_free, least_free}
pub use Rattle.sc_zone.specs.Gaps.{AreLaid}
