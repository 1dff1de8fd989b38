use Rattle.std.proofs.Common.{rules, ◌≡◌, ◌≤◌, length, arith}
use Rattle.sc_policy.proofs.Indexes.{one_more_kept}
use Rattle.sc_policy.proofs.progress.ruled.Goals as goal

pub invariant_of-policy-2 : goal.invariant_of-policy-2
invariant_of-policy-2 c = rw c.in_ok-push-2.ensures.ok (one_more_kept _ _ _ _ _ _ c.is_full.ensures c.if-is_full.false
    c.policy.invariant.1 (search rules) c.in_ok-push.ensures)
