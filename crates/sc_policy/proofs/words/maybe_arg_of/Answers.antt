use Rattle.sc_policy.proofs.Common.{Bor, List, ℕ}
use Rattle.sc_policy.proofs.Parts.{long_arg, short_arg}
use Rattle.sc_policy.proofs.words.maybe_arg_of.Goals as goal

pub returns-in_default : goal.returns-in_default
returns-in_default c = short_arg (λ (word : Bor (List ℕ)). word.now) c.args.words.now c.in_default.len_at_least
    c.in_default.len_below

pub returns-in_default-2 : goal.returns-in_default-2
returns-in_default-2 c = long_arg (λ (word : Bor (List ℕ)). word.now) c.args.words.now c.in_default.len_at_least
