-- What this crate's contracts, its proofs and the crates above cite, passed on from one place. Declares nothing.
pub use Rattle.sc_policy.specs.Index.{IsIndex, places_from, places_of}
pub use Rattle.sc_policy.specs.Limits.{most_rules, most_states}
pub use Rattle.sc_policy.specs.Lines.{bytes_of, lines_of, onto_line, words_of}
pub use Rattle.sc_policy.specs.Policies.{BeginsPolicy, HasBadLine, IsBadAt, IsDraft, IsPolicy, IsPolicyRead, end_line}
pub use Rattle.sc_policy.specs.Policies.{policy_line, state_line}
pub use Rattle.sc_policy.specs.Rules.{AreRuleLines, IsArgTest, IsGoal, IsPattern, IsRuleLine, IsWho}
pub use Rattle.sc_policy.specs.Words.{AreWritten, Decimal, Plain, Word, Writes, arg_words, compare_word, goal_words}
pub use Rattle.sc_policy.specs.Words.{pattern_words, rule_words, state_name, test_words, who_word}
