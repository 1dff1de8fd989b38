use Rattle.sc_base.specs.Prelude.{most_brackets}
use Rattle.sc_parse.proofs.Common.{[], adds, begins_with, grouped, length, stmt_at, ◌*◌, ◌+◌, ◌-◌, ◌≡◌}
use Rattle.sc_parse_expr.specs.declared.mark.Mark.TheVariants as mark
use Rattle.sc_parse.proofs.stmts.+statements.Given as goal

abbrev pub decreases-stmt_at : goal.decreases-stmt_at
decreases-stmt_at l = 9 * l.room

abbrev pub decreases-with_stmt : goal.decreases-with_stmt
decreases-with_stmt l = 9 * l.room + 1

abbrev pub decreases-lone_if : goal.decreases-lone_if
decreases-lone_if l = 9 * l.room + 1

abbrev pub decreases-stmts_at : goal.decreases-stmts_at
decreases-stmts_at l = 9 * l.room + 2

abbrev pub decreases-block_at : goal.decreases-block_at
decreases-block_at l = 9 * l.room + 3

abbrev pub decreases-after_else : goal.decreases-after_else
decreases-after_else l = 9 * l.room + 4

abbrev pub decreases-else_at : goal.decreases-else_at
decreases-else_at l = 9 * l.room + 5

abbrev pub decreases-after_if : goal.decreases-after_if
decreases-after_if l = 9 * l.room + 6

abbrev pub decreases-after_while : goal.decreases-after_while
decreases-after_while l = 9 * l.room + 6

abbrev pub decreases-after_for : goal.decreases-after_for
decreases-after_for l = 9 * l.room + 6

abbrev pub decreases-kind_by : goal.decreases-kind_by
decreases-kind_by l = 9 * l.room + 7

-- what is read is what the rest of the loop reads
abbrev pub invariant-stmts_at-loop : goal.invariant-stmts_at-loop
invariant-stmts_at-loop l = grouped (begins_with mark.CloseCurly) (adds (stmt_at most_brackets l.room))
    (length l.initial.rest + 1) [] l.initial.rest ≡
    grouped (begins_with mark.CloseCurly) (adds (stmt_at most_brackets l.room))
    (length l.initial.rest + 1 - l.counter) l.stmts l.rest

abbrev pub decreases-stmt_within : goal.decreases-stmt_within
decreases-stmt_within l = 9 * l.room + 8
