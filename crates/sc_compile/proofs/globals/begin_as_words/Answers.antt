use Rattle.sc_compile.proofs.Common.{All, BeginsAsWords, all_done, all_more, subst, ◌<◌, ◌^◌}
use Rattle.sc_compile.proofs.globals.begin_as_words.Goals as goal

pub loop-global-preserved : goal.loop-global-preserved
loop-global-preserved c =
    all_more BeginsAsWords c.args.globals.now c.loop-global.global-index c.global-item.result c.loop-global-test.true
    c.global-item.is c.loop-global.invariant
    (subst (All (λ word. word < 2 ^ 32)) c.as_slice.ensures c.are_words.ensures)

pub returns : goal.returns
returns c =
    all_done BeginsAsWords c.args.globals.now c.loop-global.global-index c.loop-global-test.false
    c.loop-global.invariant
