use Rattle.sc_tags.proofs.CodeBytes.{code_so_far, comp_there, so_far_all, so_far_has, so_far_more, so_far_zeros}
use Rattle.sc_tags.proofs.Common.{ap, arith, length, ◌∙◌, ◌≡◌}
use Rattle.sc_tags.proofs.memory.put_code.Goals as goal

pub loop-number-init : goal.loop-number-init
loop-number-init g c = c.requires ∙ so_far_zeros c.args.image.now c.parts.ensures.well_formed

pub put_words-requires-clause-below : goal.put_words-requires-clause-below
put_words-requires-clause-below g c =
    let comp = c.index-comps-number.result in
    let found = comp_there _ c.args.image.now.comps c.loop-number.number comp
    (c.as_slice-comps.ensures ∙ ap (λ p. p.comps) c.parts.ensures.parts)
    c.loop-number-test.true c.index-comps-number.is in
    let short = (c.parts.ensures.well_formed.comps _ comp found).short_code in
    rw (c.code_start.ensures, c.comp_id.ensures, c.as_slice.ensures) (omega (arith, short))

pub put_words-requires-clause-there : goal.put_words-requires-clause-there
put_words-requires-clause-there g c =
    let comp = c.index-comps-number.result in
    let found = comp_there _ c.args.image.now.comps c.loop-number.number comp
    (c.as_slice-comps.ensures ∙ ap (λ p. p.comps) c.parts.ensures.parts)
    c.loop-number-test.true c.index-comps-number.is in
    rw (c.loop-number.invariant, c.code_start.ensures, c.comp_id.ensures, c.as_slice.ensures)
    (so_far_has c.args.image.now c.parts.ensures.well_formed c.loop-number.number comp found)

pub loop-number-preserved : goal.loop-number-preserved
loop-number-preserved g c =
    let comp = c.index-comps-number.result in
    let found = comp_there _ c.args.image.now.comps c.loop-number.number comp
    (c.as_slice-comps.ensures ∙ ap (λ p. p.comps) c.parts.ensures.parts)
    c.loop-number-test.true c.index-comps-number.is in
    c.put_words.ensures ∙
    rw (c.loop-number.invariant, c.code_start.ensures, c.comp_id.ensures, c.as_slice.ensures)
    (so_far_more c.args.image.now c.parts.ensures.well_formed c.loop-number.number comp found)

pub returns : goal.returns
returns g c =
    let all : c.loop-number.number ≡ length c.args.image.now.comps =
    omega (
      arith,
      c.loop-number-test.false,
      c.loop-number.auto.number-end,
      ap length (c.as_slice-comps.ensures ∙ ap (λ p. p.comps) c.parts.ensures.parts),
    ) in
    c.loop-number.invariant ∙ ap (code_so_far c.args.image.now) all ∙
    so_far_all c.args.image.now c.parts.ensures.well_formed
