use Rattle.std.proofs.lemmas.List.{drop-drop}
use Rattle.sc_parse.proofs.Common.{ap, arith, drop, ◌∙◌}
use Rattle.sc_parse.specs.Prelude.{open_at}
use Rattle.sc_parse.proofs.Excess.{excess, stands_at, within_on}
use Rattle.sc_parse.proofs.brackets.first_excess.Goals as goal

pub returns-then-count-gt-MAX_BRACKETS-clause-excess :
    goal.returns-then-count-gt-MAX_BRACKETS-clause-excess
returns-then-count-gt-MAX_BRACKETS-clause-excess c =
    let s = stands_at c.args.lexemes.now c.loop-at.at
    (omega (arith, c.loop-at-test.true, c.len-at-end.ensures.value)) in
    excess c.args.lexemes.now c.loop-at.at c.loop-at.count c.open_after-count.result s.first
    (omega (arith, c.loop-at-test.true, c.len-at-end.ensures.value)) c.loop-at.invariant.0 s.there
    (c.open_after-count.ensures ∙ ap (λ ts. open_at ts c.loop-at.count) c.loop-at.invariant.1 ∙
    s.opened c.loop-at.count) c.if-count-gt-MAX_BRACKETS.true

pub loop-at-preserved : goal.loop-at-preserved
loop-at-preserved c =
    let s = stands_at c.args.lexemes.now c.loop-at.at
    (omega (arith, c.loop-at-test.true, c.len-at-end.ensures.value)) in (
      within_on c.args.lexemes.now c.loop-at.at c.loop-at.count c.open_after-count.result s.first
          (omega (arith, c.loop-at-test.true, c.len-at-end.ensures.value)) c.loop-at.invariant.0 s.there
          (c.open_after-count.ensures ∙ ap (λ ts. open_at ts c.loop-at.count) c.loop-at.invariant.1 ∙
          s.opened c.loop-at.count) c.if-count-gt-MAX_BRACKETS.false,
      c.advance.ensures ∙ ap (λ ts. drop 1 ts) c.loop-at.invariant.1 ∙ drop-drop 1 c.loop-at.at c.args.lexemes.now,
    )
