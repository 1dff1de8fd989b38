use Rattle.sc_parse_expr.proofs.Common.{arith, found, read, read_nested, sym, ◌+◌, ◌-◌, ◌∙◌, ◌≡◌}
use Rattle.std.proofs.lemmas.Result.{err_from_is_err_and}
use Rattle.sc_parse_expr.proofs.Steps.{read_fails, read_goes, fails_on, turns_on, turns_stop}
use Rattle.sc_parse_expr.proofs.parser.+parser.Goals as goal

pub parse_level-returns-in_err-left-clause-read : goal.parse_level-returns-in_err-left-clause-read
parse_level-returns-in_err-left-clause-read t c =
    let room : c.args.room ≡ c.in-Some.below + 1 = grind arith in
    let fault = err_from_is_err_and c.from_residual.result c.from_residual.ensures.1 in
    rw (fault.1, fault.2) (fails_on _ _ _ c.in_err-left.ensures.read
    (λ none. read_fails c.args.free c.args.room c.in-Some.below c.args.level c.args.rest.now room none))

pub parse_level-loop-init : goal.parse_level-loop-init
parse_level-loop-init t c =
    let room : c.args.room ≡ c.in-Some.below + 1 = grind arith in
    let low = c.in_ok-left.ensures.low in (
      omega arith,
      read_goes c.args.free c.args.room c.in-Some.below c.args.level
          (c.args.room - 0) c.args.rest.now _ room (omega arith) c.in_ok-left.ensures.read,
    )

pub parse_level-loop-preserved : goal.parse_level-loop-preserved
parse_level-loop-preserved t c =
    let room : c.args.room ≡ c.in-Some.below + 1 = grind arith in
    let low = c.in_ok-left-2.ensures.low in (
      omega arith,
      c.loop.invariant.1 ∙ turns_on (read_nested c.args.free)
          (read c.args.free c.in-Some.below) c.in-Some.below c.args.level (c.args.room - c.loop.counter)
          (c.args.room - (c.loop.counter + 1)) _ _ _ _ (omega arith)
          (sym c.in-Some-take_extension.ensures.found) c.in_ok-left-2.ensures.read,
    )

pub parse_level-returns-in_err-left-2-clause-read : goal.parse_level-returns-in_err-left-2-clause-read
parse_level-returns-in_err-left-2-clause-read t c =
    let left = found c.loop.left.tree c.loop.left.height c.loop.rest in
    let stop = turns_stop (read_nested c.args.free) (read c.args.free c.in-Some.below) c.in-Some.below c.args.level
    (c.args.room - c.loop.counter) left c.in-Some-take_extension.extension c.take_extension.new.rest
    (omega arith) (sym c.in-Some-take_extension.ensures.found) in
    let fault = err_from_is_err_and c.from_residual-in_err-left-2.result c.from_residual-in_err-left-2.ensures.1 in
    rw (fault.1, fault.2) (fails_on _ _ _ c.in_err-left-2.ensures.read (λ none. c.loop.invariant.1 ∙ stop none))
