use Rattle.std.proofs.Common.{ap, arith, drop, drop-cons, get_or, suc, sym, true, ◌*◌, ◌+◌, ◌-◌, ◌<◌, ◌∙◌, ◌≡◌}
use Rattle.std.specs.Char.{is_ascii_digit}
use Rattle.sc_number.proofs.Digits.{read_on, too_great}
use Rattle.sc_number.proofs.numbers.number_of.Goals as goal

pub returns-then-value-gt-GREATEST : goal.returns-then-value-gt-GREATEST
returns-then-value-gt-GREATEST c =
    let text = c.args.text.now in
    let i = c.loop-byte.byte-index in
    let value = c.loop-byte.value in
    let digit : is_ascii_digit (get_or text i 0) ≡ true =
    sym c.is_ascii_digit.ensures.value ∙ c.if-not-is_ascii_digit.false in
    let great : 4294967295 < value * 10 + (get_or text i 0 - 48) = omega arith in
    sym (c.loop-byte.invariant.0 ∙ ap (read_on 4294967295 value) (drop-cons text i 0 c.loop-byte-test.true) ∙
    too_great 4294967295 value (get_or text i 0) (drop (suc i) text) digit great)
