use Rattle.sc_top.proofs.Common.{length, ◌-◌}
use Rattle.sc_top.proofs.Streams.{HasTaken}
use Rattle.sc_top.proofs.input.read_text.Given as goal

abbrev pub invariant-loop-piece : goal.invariant-loop-piece
invariant-loop-piece g l =
    HasTaken l.most (g.S.Source.left l.initial.source) (g.S.Source.left l.source) (g.S.Source.faults l.initial.source)
    (g.S.Source.faults l.source) l.text

abbrev pub decreases-loop-piece : goal.decreases-loop-piece
decreases-loop-piece g l = l.most - length l.text
