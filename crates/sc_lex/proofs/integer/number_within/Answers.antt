use Rattle.sc_lex.proofs.Common.{sym, ◌∙◌}
use Rattle.sc_lex.proofs.Numbers.{no_digit, too_great, none_stands, empty_stands, some_stands}
use Rattle.sc_lex.proofs.integer.number_within.Goals as goal

pub returns-then-digit-base-clause-value : goal.returns-then-digit-base-clause-value
returns-then-digit-base-clause-value c =
    none_stands c.args.base c.args.digits.now c.args.greatest
    (no_digit c.args.base c.args.digits.now c.loop-digit.digit-index c.args.greatest c.digit_value-digit.result
    c.loop-digit-test.true c.digit_value-digit.ensures.value c.if-digit-base.true)

pub returns-then-value-greatest-clause-value : goal.returns-then-value-greatest-clause-value
returns-then-value-greatest-clause-value c =
    none_stands c.args.base c.args.digits.now c.args.greatest
    (too_great c.args.base c.args.digits.now c.loop-digit.digit-index c.loop-digit.value c.args.greatest
    c.digit_value-digit.result c.requires.base.0 c.loop-digit.invariant c.loop-digit-test.true
    c.digit_value-digit.ensures.value c.if-value-greatest.true)

pub returns-then-is_empty-clause-value : goal.returns-then-is_empty-clause-value
returns-then-is_empty-clause-value c =
    empty_stands c.args.base c.args.digits.now c.loop-digit.digit-index c.loop-digit.value c.args.greatest
    c.loop-digit.invariant c.loop-digit-test.false (sym c.is_empty.ensures ∙ c.if-is_empty.true)

pub returns-else-is_empty-clause-value : goal.returns-else-is_empty-clause-value
returns-else-is_empty-clause-value c =
    some_stands c.args.base c.args.digits.now c.loop-digit.digit-index c.loop-digit.value c.args.greatest
    c.loop-digit.invariant c.loop-digit-test.false (sym c.is_empty.ensures ∙ c.if-is_empty.false)
