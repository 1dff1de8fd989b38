-- A number that isn't below is the greatest now; where the greatest fell, the chunk is looked through.
use Rattle.sc_zone.proofs.Common.{arith, subst, sym}
use Rattle.std.proofs.Common.{◌/◌}
use Rattle.sc_zone.proofs.Widest.{own_is, stays}
use Rattle.sc_zone.specs.Tables.{IsWidest}
use Rattle.sc_zone.proofs.gaps.widest_now.Goals as goal

pub returns-then-own-widest : goal.returns-then-own-widest
returns-then-own-widest c old was had others =
    subst (IsWidest c.args.words.now (c.args.place / 256)) (sym c.number_at-own.ensures)
    (own_is old c.args.words.now c.args.place c.args.before c.args.widest was had others
    (omega (arith, c.if-own-widest.true, c.number_at-own.ensures)))

pub returns-then-before-widest : goal.returns-then-before-widest
returns-then-before-widest c old was had others =
    stays old c.args.words.now c.args.place c.args.before c.args.widest was had others
    (omega (arith, c.if-own-widest.false, c.number_at-own.ensures)) (omega (arith, c.if-before-widest.true))
