use Rattle.sc_image.proofs.Common.{Bool, ap, is_kept, not, sym, ℕ}
use Rattle.sc_image.proofs.Differing.{as_before, one_more}
use Rattle.sc_image.proofs.given.differing.Goals as goal
use Rattle.sc_image.proofs.given.differing.Goals.{else-not-is_kept, then-not-is_kept+in_ok-push}

pub loop-c-preserved : goal.loop-c-preserved
loop-c-preserved c =
    let differs : ℕ → Bool = λ n. not (is_kept c.args.own.now c.args.image.now n) in
    elim c.if-not-is_kept.branch [
      | then-not-is_kept+in_ok-push w ↦
          one_more differs c.loop-c.given c.if-not-is_kept.given c.loop-c.c w.comp_id.result c.loop-c.invariant
          (ap not (sym w.if-not-is_kept.ensures)) w.comp_id.ensures (cc (w.given-is, w.in_ok-push.ensures.ok))
      | else-not-is_kept w ↦
          as_before differs c.loop-c.given c.if-not-is_kept.given c.loop-c.c c.loop-c.invariant
          (ap not (sym w.if-not-is_kept.ensures)) w.given-is
    ]
