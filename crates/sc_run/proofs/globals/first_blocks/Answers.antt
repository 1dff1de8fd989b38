use Rattle.sc_run.proofs.Common.{arith, length, refl}
use Rattle.std.proofs.lemmas.Option.{slice_get_read}
use Rattle.sc_run.proofs.Making.{none_yet, section_more}
use Rattle.sc_run.proofs.globals.first_blocks.Goals as goal

pub comp_at-comp-requires : goal.comp_at-comp-requires
comp_at-comp-requires c = omega (arith, c.requires.few)

pub make_globals-requires-clause-none : goal.make_globals-requires-clause-none
make_globals-requires-clause-none c =
    none_yet c.args.sections.now c.loop-at-test.true c.comp_at-comp.ensures c.loop-at.invariant

pub make_globals-requires-clause-globals : goal.make_globals-requires-clause-globals
make_globals-requires-clause-globals c =
    c.requires.small c.loop-at.at c.index-sections-at.result (slice_get_read c.args.sections.now
    (length c.args.sections.now) c.loop-at.at c.index-sections-at.result refl c.loop-at-test.true
    c.index-sections-at.is)

pub loop-at-preserved : goal.loop-at-preserved
loop-at-preserved c = section_more c.args.sections.now c.loop-at-test.true c.index-sections-at.is c.comp_at-comp.ensures
    c.loop-at.invariant c.in_ok-make_globals.ensures
