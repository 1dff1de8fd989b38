use Rattle.sc_chain.proofs.Common.{arith, is_listed, length, map, suc, sym, word_of, ◌+◌, ◌∙◌, ◌≡◌}
use Rattle.sc_chain.proofs.Trapped.{answered, honest_is}
use Rattle.sc_chain.proofs.account.trapped.Goals as goal

pub returns : goal.returns
returns c =
    let more : c.len.result + 1 ≡ suc (length c.args.observed.now.trace) = omega (arith, c.len.ensures) in
    answered c.args.source.now.program (is_listed c.args.comps.now) (map word_of c.args.inputs.now) c.args.observed.now
    _ c.in-Trap.reason c.in-Trap.pc c.in-Trap.is
    (honest_is c.args.source.now.program (is_listed c.args.comps.now) (map word_of c.args.inputs.now)
    c.args.observed.now c.honest_origin-origin.result c.in_ok-run.run' (c.len.result + 1)
    c.as_slice-trace.result.now c.as_slice-trace.ensures (sym c.performs.ensures ∙ c.if-performs.false) more
    c.in_ok-run.ensures c.honest_origin-origin.ensures)
