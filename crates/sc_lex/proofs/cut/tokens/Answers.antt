use Rattle.sc_lex.proofs.Common.{IsPiece, Lex, NoPiece, allows_directive, drop, take_rest, ◌≡◌}
use Rattle.sc_lex.proofs.Cuts.{progress_start, progress_on, progress_refused, progress_uncut}
use Rattle.sc_lex.proofs.cut.tokens.Goals as goal

pub loop-at-init : goal.loop-at-init
loop-at-init c = rw c.new-found.ensures (progress_start c.args.bytes.now)

pub returns-in_default-clause-refused : goal.returns-in_default-clause-refused
returns-in_default-clause-refused c =
    λ refusal e.
    let stop : NoPiece (allows_directive c.args.bytes.now c.loop-at.at) (drop c.loop-at.at c.args.bytes.now) =
    rw (take_rest, c.allows_directive.ensures) at c.in_default.ensures.none in
    let is : refusal ≡ record { phase = Lex; line = c.line_after.result } = cc in
    progress_refused c.args.bytes.now c.loop-at.at c.loop-at.token_line c.args.line c.loop-at.found refusal
    c.loop-at.invariant c.loop-at-test.true stop (rw c.line_after.ensures at is)

pub returns-in_default-clause-uncut : goal.returns-in_default-clause-uncut
returns-in_default-clause-uncut c =
    λ refusal e tokens cut.
    let stop : NoPiece (allows_directive c.args.bytes.now c.loop-at.at) (drop c.loop-at.at c.args.bytes.now) =
    rw (take_rest, c.allows_directive.ensures) at c.in_default.ensures.none in
    progress_uncut c.args.bytes.now c.loop-at.at c.loop-at.token_line c.loop-at.found c.loop-at.invariant
    c.loop-at-test.true stop tokens cut

pub loop-at-preserved : goal.loop-at-preserved
loop-at-preserved c =
    let piece : IsPiece (allows_directive c.args.bytes.now c.loop-at.at)
    (drop c.loop-at.at c.args.bytes.now) c.in-Some.piece c.in-Some.len =
    rw (take_rest, c.allows_directive.ensures) at c.in-Some.ensures.found in
    rw (c.line_after-token_line.ensures, take_rest, c.in_ok-push_piece.ensures)
    (progress_on c.args.bytes.now c.loop-at.at c.loop-at.token_line c.in-Some.len c.loop-at.found c.in-Some.piece
    c.loop-at.invariant piece)
