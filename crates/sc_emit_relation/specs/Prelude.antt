-- What this crate's contracts, its proofs and the crates above cite, passed on from one place. Declares nothing.
pub use Rattle.sc_emit_relation.specs.Blocks.{Beside, BlocksMatch, Guarded, InCell, Injection, IsAddress, LiesAt}
pub use Rattle.sc_emit_relation.specs.Blocks.{LiveAt, Means, Placed, StandsFor, ZoneMatches}
pub use Rattle.sc_emit_relation.specs.Calls.{ArePassed, Begins, CallGives, CallStands, CallsFollow, ComesBack}
pub use Rattle.sc_emit_relation.specs.Calls.{FunctionFollows, FunctionGives, GivesValue, IsBase, IsLeft, of_environment}
pub use Rattle.sc_emit_relation.specs.Calls.{runs_with}
pub use Rattle.sc_emit_relation.specs.Following.{Arrives, Comes, Ends, ExitGives, Follows, Gives, Ready, Returns}
pub use Rattle.sc_emit_relation.specs.Following.{Running, StandsAt, Starts, ends_of, live_at, row, seen_from, wanted}
pub use Rattle.sc_emit_relation.specs.Frames.{Activation, AreFloors, AreInPlace, FrameMatches, InPlace, IsActivation}
pub use Rattle.sc_emit_relation.specs.Frames.{IsInPlace, own_words}
pub use Rattle.sc_emit_relation.specs.Operators.{IsElement, IsSound}
pub use Rattle.sc_emit_relation.specs.Stretches.{AllHonest, Came, Costs, Effect, Emits, Joint, Leads, Overflows}
pub use Rattle.sc_emit_relation.specs.Stretches.{Protected, ReturnsValue, Setting, Settled, Standpoint, machine}
pub use Rattle.sc_emit_relation.specs.Stretches.{world_at}
