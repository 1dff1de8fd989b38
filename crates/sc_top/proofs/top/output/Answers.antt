use Rattle.sc_top.proofs.Common.{Explain, IsWithin, Judge, List, length, subst, sym, ℕ, ◌≤◌}
use Rattle.sc_top.proofs.Asked.{short_text}
use Rattle.sc_top.proofs.top.output.Goals as goal

pub explain-requires-clause-short : goal.explain-requires-clause-short
explain-requires-clause-short c = λ no.
    subst (λ bytes. length bytes ≤ 1048576) (sym c.as_bytes-in-Explain.ensures)
    (short_text c.in-Explain.options.image _
    (subst (λ command. IsWithin command c.args.bytes) c.in-Explain.is c.requires.within) no)

pub judge-requires-clause-short : goal.judge-requires-clause-short
judge-requires-clause-short c = λ no.
    subst (λ bytes. length bytes ≤ 1048576) (sym c.as_bytes-in-Judge.ensures)
    (short_text c.in-Judge.options.image _
    (subst (λ command. IsWithin command c.args.bytes) c.in-Judge.is c.requires.within) no)
