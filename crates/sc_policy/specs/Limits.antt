-- Limits of a policy.
use Rattle.std.specs.Prelude.{ℕ}

-- states of a policy
abbrev pub most_states : ℕ
most_states = 256

-- rules of a policy
abbrev pub most_rules : ℕ
most_rules = 4096
