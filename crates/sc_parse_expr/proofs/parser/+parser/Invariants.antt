use Rattle.sc_parse_expr.proofs.Common.{found, go_on, read, read_nested, ◌*◌, ◌+◌, ◌-◌, ◌≡◌, ◌≤◌}
use Rattle.sc_parse_expr.proofs.parser.+parser.Given as goal

abbrev pub decreases-parse_level : goal.decreases-parse_level
decreases-parse_level l = 4 * (l.free + l.room)

abbrev pub decreases-parse_operand : goal.decreases-parse_operand
decreases-parse_operand l = 4 * (l.free + l.below) + 3

abbrev pub decreases-parse_led : goal.decreases-parse_led
decreases-parse_led l = 4 * (l.free + l.below) + 2

abbrev pub decreases-parse_paren : goal.decreases-parse_paren
decreases-parse_paren l = 4 * (l.free + l.below) + 1

abbrev pub decreases-parse_prefix : goal.decreases-parse_prefix
decreases-parse_prefix l = 4 * (l.free + l.below) + 1

abbrev pub decreases-parse_extended : goal.decreases-parse_extended
decreases-parse_extended l = 4 * (l.free + l.below) + 3

abbrev pub decreases-parse_joined : goal.decreases-parse_joined
decreases-parse_joined l = 4 * (l.free + l.below) + 1

abbrev pub decreases-parse_index : goal.decreases-parse_index
decreases-parse_index l = 4 * (l.free + l.below) + 1

-- what is read is what the rest of the loop reads
abbrev pub invariant-parse_level-loop : goal.invariant-parse_level-loop
invariant-parse_level-loop l =
    (l.left.height ≤ l.room) × (read l.free l.room l.level l.fn.rest ≡
    go_on (read_nested l.free) (read l.free l.below) l.below l.level (l.room - l.counter)
    (found l.left.tree l.left.height l.rest))
