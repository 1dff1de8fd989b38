use Rattle.sc_linker.proofs.Common.{ap, arith, flat_map, initial_words, length, little_bytes, take_all, ◌∙◌}
use Rattle.sc_linker.proofs.Zeros.{words_are}
use Rattle.sc_linker.proofs.bytes.global_bytes.Goals as goal

pub returns : goal.returns
returns c =
    let section = c.args.section.now in
    c.loop-global.invariant ∙
    ap (λ globals. flat_map (little_bytes 4) (flat_map (initial_words section.structs) globals))
    (take_all c.loop-global.global-index section.globals (omega (arith, ap length c.as_slice-global-items.ensures))) ∙
    ap (flat_map (little_bytes 4)) (words_are section c.requires.structs c.requires.globals)
