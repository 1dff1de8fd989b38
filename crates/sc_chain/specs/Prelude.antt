-- What this crate's contracts, its proofs and the crates above cite, passed on from one place. Declares nothing.
pub use Rattle.sc_event.specs.Prelude.{is_listed, legal, part}
pub use Rattle.sc_types.specs.Prelude.{Accepts, IsSource}
pub use Rattle.sc_chain.specs.Chain.{HasProgram, Includes, IsAccountOf, IsChain, IsChainFrom, IsChainWith}
pub use Rattle.sc_chain.specs.Chain.{IsExplained, IsImageExplained, IsNext, MeansTrace}
pub use Rattle.sc_chain.specs.Faults.{IsAnotherProgram, IsFault, IsImageFault}
pub use Rattle.sc_chain.specs.Laws.{OwnImagesAreExplained}
pub use Rattle.sc_chain.specs.Safety.{RobustSafety}
pub use Rattle.sc_chain.specs.Following.{IsNextLink, IsNextOf}
pub use Rattle.sc_chain.specs.Observed.{IsObserved, active_in, if_trap, trapped_in}
pub use Rattle.sc_chain.specs.Recompose.{joined_text, performing, performing_text, recomposed, text_for}
pub use Rattle.sc_chain.specs.Replaced.{IsReplaced, IsScripted}
pub use Rattle.sc_chain.specs.Sections.{replacement_of, section_at}
pub use Rattle.sc_chain.specs.Trapped.{IsTrappedOf, IsTrappedSo, performing_comps}
