use Rattle.sc_compile.proofs.Common.{All, BeginAsWords, BeginsAsWords, all_done, all_more, subst}
use Rattle.sc_compile.proofs.globals.globals_are_words.Goals as goal

pub loop-section-preserved : goal.loop-section-preserved
loop-section-preserved c =
    all_more BeginAsWords c.args.sections.now c.loop-section.section-index c.section-item.result
    c.loop-section-test.true c.section-item.is c.loop-section.invariant
    (subst (All BeginsAsWords) c.as_slice.ensures c.begin_as_words.ensures)

pub returns : goal.returns
returns c =
    all_done BeginAsWords c.args.sections.now c.loop-section.section-index c.loop-section-test.false
    c.loop-section.invariant
