use Rattle.sc_lex.proofs.Common.{IsTrue, ends_comment, ℕ, ◌<◌, ◌≤◌}
use Rattle.sc_lex.proofs.gap.block_comment_len.Given as goal

-- the comment has not ended yet
abbrev pub invariant-loop-at : goal.invariant-loop-at
invariant-loop-at l = (before : ℕ) → 2 ≤ before → before < l.at → IsTrue (ends_comment l.text before) → ⊥
