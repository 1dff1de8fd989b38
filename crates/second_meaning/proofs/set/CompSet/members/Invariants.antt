use Rattle.std.proofs.Common.{◌<◌, All}
use Rattle.second_meaning.proofs.set.CompSet.members.Given as goal

-- those so far are below the count
abbrev pub invariant-loop-number : goal.invariant-loop-number
invariant-loop-number l = All (λ comp. comp < l.count) l.comps
