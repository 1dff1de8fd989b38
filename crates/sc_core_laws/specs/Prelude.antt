-- What this crate's contracts, its proofs and the crates above cite, passed on from one place. Declares nothing.
pub use Rattle.sc_core_laws.specs.Agreement.{AgreeingRunAlike, BodiesAgree, CallsAgree, DenotationsAgree}
pub use Rattle.sc_core_laws.specs.Agreement.{FunctionsAgree, Meets, OtherLinesAgree, PiecesAgree, RunsAgree}
pub use Rattle.sc_core_laws.specs.Agreement.{piece_without_line, without_line}
pub use Rattle.sc_core_laws.specs.Chains.{AreFresh, HasAllBlamed, IsBlamedOutside, IsBlameChain, IsLink, IsRising}
pub use Rattle.sc_core_laws.specs.Chains.{IsSubset, count_outside}
pub use Rattle.sc_core_laws.specs.Chains.{BlameLink, PassesBlame, CompSet, longer, nobody, performed, turnless, with}
pub use Rattle.sc_core_laws.specs.Depths.{AllBefore, AllFrom, depth_after, has_no_end, stack_depth}
pub use Rattle.sc_core_laws.specs.Ends.{IsArithmetic, IsFinal}
pub use Rattle.sc_core_laws.specs.Growth.{Goes, Gone, Grown, StopsSo, last}
pub use Rattle.sc_core_laws.specs.InteractionTrees.{Alike, Asks, Blames, DenotationsMatch, Doing, FunctionsMatch, Gives}
pub use Rattle.sc_core_laws.specs.InteractionTrees.{GoFrom, Halts, InteractionTree, Lasts, Match, Never, Obedient}
pub use Rattle.sc_core_laws.specs.InteractionTrees.{Plays, Reads, Spends, Stores, played}
pub use Rattle.sc_core_laws.specs.Laws.{BlameIsPassed, BlameRemains, BlamedAreThere, ChainExists, ChainIsLeast}
pub use Rattle.sc_core_laws.specs.Laws.{BlamedStandActive, StandsActive}
pub use Rattle.sc_core_laws.specs.Laws.{ChainRises, ChainsRise, ChangesAreWithin, DeepestIsReached, DepthsAreKept}
pub use Rattle.sc_core_laws.specs.Laws.{EmitsNoEnd, EmitsWithMore, EmptySetIsMeaning, FixedPoint, HasChain}
pub use Rattle.sc_core_laws.specs.Laws.{HasFixedPoint, HoldsOfSets, IsFixed, IsSteady, KeepsBlames, KeepsDepths}
pub use Rattle.sc_core_laws.specs.Laws.{LeastIsChain, LeavesDepths, MeaningGoesOn, MoreGoesOn, MoreMayPerform}
pub use Rattle.sc_core_laws.specs.Laws.{NobodyWhoPerformsIsBlamed, OnlyGoesOn, PassesBlames, ProgramsObey}
pub use Rattle.sc_core_laws.specs.Laws.{TracesAreLegal, WrappedAgrees, WrappingAgrees}
pub use Rattle.sc_core_laws.specs.Promises.{AgreeWithPromises, CallsGive, DenotationsAgreeWithPromises, HeadersAgree}
pub use Rattle.sc_core_laws.specs.Promises.{IfReached, Promised, Promises, PromisingRunAlike, promised_by}
pub use Rattle.sc_core_laws.specs.Runs.{denotations_run, performed_by, roles_run}
pub use Rattle.sc_core_laws.specs.Steady.{AgreesInDepth, AgreesUntilBlame, ExtendedByMore, Extends, RunsUntilBlame}
pub use Rattle.sc_core_laws.specs.Steady.{blamed, blamed_run, now, same, same_run}
pub use Rattle.sc_core_laws.specs.Turns.{ExportsLead, SpendsAlong, SpendsTurns, StopsSpent, TurnsOutMeansTurns}
pub use Rattle.sc_core_laws.specs.Turns.{IsSpentOutside, SpendsOutside, main_call, scripted_call}
