use Rattle.sc_compile.proofs.Common.{arith, ◌∙◌}
use Rattle.sc_compile.proofs.Emitting.{codes_more, codes_whole, emits_more, emits_whole, may_compile}
use Rattle.sc_compile.proofs.passes.all_codes.Goals as goal

pub add_codes-requires : goal.add_codes-requires
add_codes-requires c =
    may_compile c.args.program.now c.as_slice-section-items.result.now c.as_slice-section-items.ensures
    c.loop-section.section-index c.comp_id-comp.result (c.comp_id-comp.ensures ∙ c.loop-section.invariant.place)
    c.section-item.result c.loop-section-test.true c.section-item.is c.as_slice-structs.result.now
    c.as_slice-functions.result.now c.as_slice-structs.ensures c.as_slice-functions.ensures
    c.requires.typed c.requires.fits

pub loop-section-preserved : goal.loop-section-preserved
loop-section-preserved c = record {
  place = omega (arith, c.loop-section.invariant.place);
  codes = codes_more c.args.program.now c.as_slice-section-items.result.now c.as_slice-section-items.ensures
      c.loop-section.section-index c.comp_id-comp.result (c.comp_id-comp.ensures ∙ c.loop-section.invariant.place)
      c.section-item.result c.loop-section-test.true c.section-item.is c.as_slice-structs.result.now
      c.as_slice-functions.result.now c.as_slice-structs.ensures c.as_slice-functions.ensures
      c.loop-section.codes c.add_codes.new.codes c.in_ok-add_codes.ensures.codes c.loop-section.invariant.codes;
  emitted = emits_more c.args.program.now c.as_slice-section-items.result.now c.as_slice-section-items.ensures
      c.loop-section.section-index c.comp_id-comp.result (c.comp_id-comp.ensures ∙ c.loop-section.invariant.place)
      c.section-item.result c.loop-section-test.true c.section-item.is c.as_slice-structs.result.now
      c.as_slice-functions.result.now c.as_slice-structs.ensures c.as_slice-functions.ensures
      c.in_ok-add_codes.ensures.emitted c.loop-section.invariant.emitted;
}

pub returns-clause-codes : goal.returns-clause-codes
returns-clause-codes c =
    codes_whole c.args.program.now c.as_slice-section-items.result.now c.as_slice-section-items.ensures
    c.loop-section.section-index c.loop-section-test.false c.loop-section.codes c.loop-section.invariant.codes

pub returns-clause-emitted : goal.returns-clause-emitted
returns-clause-emitted c =
    emits_whole c.args.program.now c.as_slice-section-items.result.now c.as_slice-section-items.ensures
    c.loop-section.section-index c.loop-section-test.false c.loop-section.invariant.emitted
