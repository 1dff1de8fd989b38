use Rattle.sc_report.proofs.Common.{worker_text}
use Rattle.sc_report.proofs.Counting.{number_turn}
use Rattle.sc_report.proofs.make.append_workers.Goals as goal

pub loop-worker-preserved : goal.loop-worker-preserved
loop-worker-preserved c =
    number_turn (worker_text c.args.size c.args.seed) c.loop-worker.worker c.args.text.now c.loop-worker.text
    c.append_worker.new.text
    c.loop-worker.invariant c.in_ok-append_worker.ensures
