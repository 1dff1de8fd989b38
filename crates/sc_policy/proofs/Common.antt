-- The names that several proofs of this crate cite, passed on from one place. Declares nothing.
pub use Rattle.std.proofs.Common.{Bool, Err, IsErrOf, IsTrue, List, None, Option, Some, [], ap, append-nil}
pub use Rattle.std.proofs.Common.{append_assoc, arith, bytes_eq, codes, cond, drop, drop-cons, drop-drop, eqb-true}
pub use Rattle.std.proofs.Common.{false, get_or, get_or-drop, get_or-take, inl, inr, le-leb, length, length-append}
pub use Rattle.std.proofs.Common.{length-drop, length-take, length-take-le, map, min, nat_eq, nat_le, nat_lt, ne_eqb}
pub use Rattle.std.proofs.Common.{neg_ℤ, not, option_and_then, option_map, pos, refl, rules, slice_range, subst, suc}
pub use Rattle.std.proofs.Common.{sym, take, take-append-drop, tests, true, zero, ℕ, ℤ, ⊎_elim, ◌&&◌, ◌++◌, ◌+◌, ◌-◌}
pub use Rattle.std.proofs.Common.{◌<◌, ◌==◌, ◌||◌, ◌∙◌, ◌∷◌, ◌≡◌, ◌≢◌, ◌≤◌, get_or-set_other, get_or-set_same}
pub use Rattle.std.proofs.Common.{if◌then◌else◌, slice_index_or, slice_set, zero-add}
pub use Rattle.std.specs.Prelude.{◌↔◌}
pub use Rattle.sc_policy.specs.Limits.{most_rules}
pub use Rattle.sc_policy.specs.Index.{IsIndex, places_from, places_of, with_place}
pub use Rattle.std.proofs.lemmas.Bool.{and_from, and_parts, cases_lt, eqb-false, lt-leb}
pub use Rattle.std.proofs.lemmas.List.{map-append, take_more}
pub use Rattle.std.proofs.lemmas.Map.Keys.{IsDistinct-push, apart_from_distinct}
pub use Rattle.std.specs.Borrow.{Bor}
pub use Rattle.std.specs.List.{AllByRecursion, list_all, onto_first, starts_with}
unfoldable pub use Rattle.std.specs.List.{IsDistinct}
pub use Rattle.std.specs.Str.Parse.{digits_value}
pub use Rattle.sc_base.proofs.Lists.{list_all_along, position_of_only, take_all, take_prefix}
pub use Rattle.sc_base.proofs.Texts.{bytes_eq_self, same_text}
pub use Rattle.sc_base.specs.Prelude.{HasOneNumberEach, Text, is_name_byte, is_nondigit, is_numbered, name_of}
pub use Rattle.sc_base.specs.Prelude.{number_by_name}
pub use Rattle.sc_number.specs.Numbers.{integer, number, number_within, when_within}
pub use Rattle.sc_policy.specs.Lines.{bytes_of, lines_of, onto_line, words_of}
pub use Rattle.sc_policy.specs.Policies.{BeginsPolicy, HasBadLine, IsBadAt, IsDraft, IsPolicy, IsPolicyRead, end_line}
pub use Rattle.sc_policy.specs.Policies.{policy_line, state_line}
pub use Rattle.sc_policy.specs.Reading.{after, after_all, arg_of, begun, call_of, compare_of, continued, ends_of}
pub use Rattle.sc_policy.specs.Reading.{goal_of, goal_part, joined, maybe_arg_of, maybe_test_of, name_after, new_state}
pub use Rattle.sc_policy.specs.Reading.{pattern_count, pattern_of, pattern_part, pattern_with, ret_of, rule_of, ruled}
pub use Rattle.sc_policy.specs.Reading.{stated_or_ruled, test_of, who_of, with_rule, with_state}
pub use Rattle.sc_policy.specs.Rules.{AreRuleLines, IsArgTest, IsGoal, IsPattern, IsRuleLine, IsWho}
pub use Rattle.sc_policy.specs.Words.{AreWritten, Decimal, Plain, Word, arg_words, compare_word, goal_words}
pub use Rattle.sc_policy.specs.Words.{pattern_words, rule_words, state_name, test_words, who_word}
pub use Rattle.sc_policy.specs.declared.policy.ArgTest.{ArgTest}
pub use Rattle.sc_policy.specs.declared.policy.Compare.{Compare}
pub use Rattle.sc_policy.specs.declared.policy.Compare.TheVariants.{Equal, Greater, GreaterEqual, Less, LessEqual}
pub use Rattle.sc_policy.specs.declared.policy.Compare.TheVariants.{NotEqual}
pub use Rattle.sc_policy.specs.declared.policy.Pattern.{Pattern}
pub use Rattle.sc_policy.specs.declared.policy.Pattern.TheVariants.{Call, End, In, Out, Ret}
pub use Rattle.sc_policy.specs.declared.policy.Policy.{Policy}
pub use Rattle.sc_policy.specs.declared.policy.Rule.{Rule}
pub use Rattle.sc_policy.specs.declared.policy.Test.{Test}
pub use Rattle.sc_policy.specs.declared.policy.Who.{Who}
pub use Rattle.sc_policy.specs.declared.policy.Who.TheVariants.{Any, Named}
pub use Rattle.sc_policy.specs.declared.progress.Progress.{Progress}
pub use Rattle.sc_policy.specs.declared.progress.Progress.TheVariants.{Closed, Open, Start, Titled}
pub use Rattle.sc_policy.specs.declared.read.PolicyRead.{PolicyRead}
