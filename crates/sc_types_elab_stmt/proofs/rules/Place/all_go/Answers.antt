use Rattle.sc_types_elab_stmt.proofs.Common.{goes_in, subst, visible, ◌<◌}
use Rattle.sc_core.specs.declared.ty.Ty.TheVariants as ty
use Rattle.sc_types_elab_stmt.proofs.Ruled.{all_go-not, all_go-next}
use Rattle.sc_types_elab_stmt.proofs.rules.Place.all_go.Goals as goal

pub returns-then-not-branch : goal.returns-then-not-branch
returns-then-not-branch c scope suits =
    all_go-not (goes_in (visible c.args.self.now.section.now c.args.self.now.function.now) scope) c.args.params.now
    c.args.args.now c.loop-i.i ty.Int c.index-args-i.result c.loop-i-test.true
    (subst (λ n. c.loop-i.i < n) c.if-params-args.false c.loop-i-test.true) c.index-args-i.is _ _
    (c.in_ok-goes.ensures scope suits) c.if-not-branch.true (c.loop-i.invariant scope suits)

pub loop-i-preserved : goal.loop-i-preserved
loop-i-preserved c scope suits =
    all_go-next (goes_in (visible c.args.self.now.section.now c.args.self.now.function.now) scope) c.args.params.now
    c.args.args.now c.loop-i.i ty.Int c.index-args-i.result c.loop-i-test.true
    (subst (λ n. c.loop-i.i < n) c.if-params-args.false c.loop-i-test.true) c.index-args-i.is _ _
    (c.in_ok-goes.ensures scope suits) c.if-not-branch.false (c.loop-i.invariant scope suits)
