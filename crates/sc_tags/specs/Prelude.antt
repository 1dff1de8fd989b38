-- What this crate's contracts, its proofs and the crates above cite, passed on from one place. Declares nothing.
pub use Rattle.sc_tags.specs.Tags.{IsWithinAddresses, code_byte, code_word, first_bytes, is_in_range, is_tag, owner_of}
pub use Rattle.sc_tags.specs.Tags.{is_data_byte, retagged, tag_at, tag_by, with_code}
unfoldable pub use Rattle.sc_tags.specs.Tags.{all_tagged}
pub use Rattle.sc_tags.specs.Tagged.{Tagged, at_level, on_tag_call, on_tag_end, on_tag_return, returned_by, tag_start}
pub use Rattle.sc_tags.specs.TagStep.{by_tag, carried_called, core_of, tag_jumps, tag_leaves, tag_machine, tag_run}
pub use Rattle.sc_tags.specs.TagStep.{tag_step, tagged_word, with_outcome}
pub use Rattle.sc_tags.specs.Levels.{leveled, lifted, same_memory, with_levels}
pub use Rattle.sc_tags.specs.TagLaws.{CapabilitiesAreLinear, TagTracesAreKnown, TagsAgree}
