use Rattle.sc_linker.proofs.Common.{All, Interface, IsNamed, IsWhole, List, ap, arith, codes_at, comp_at, comp_part}
use Rattle.sc_linker.proofs.Common.{get_or, length, refl, slice_get, slice_get_read, subst, sym, ◌<◌, ◌∙◌, ◌≡◌}
use Rattle.sc_linker.proofs.Beginnings.{all_done, all_more}
use Rattle.sc_linker.proofs.Compartments.{all_named, few_numbers, one_comp, one_whole, whole_codes}
use Rattle.sc_linker.proofs.image.comp_parts.Goals as goal
use Rattle.sc_linker.proofs.Comps.{same_count}

pub comp_id-comp-requires : goal.comp_id-comp-requires
comp_id-comp-requires c =
    few_numbers c.args.program.now c.requires.typed c.loop-number.number
    (subst (λ (is : List Interface). c.loop-number.number < length is) c.as_slice-comps.ensures c.loop-number-test.true)

pub comp_part-requires-clause-there : goal.comp_part-requires-clause-there
comp_part-requires-clause-there c =
    ap (comp_at c.args.program.now.interfaces) c.comp_id-comp.ensures ∙
    ap (λ (is : List Interface). slice_get is c.loop-number.number) (sym c.as_slice-comps.ensures) ∙
    slice_get_read c.as_slice-comps.result.now _ c.loop-number.number c.index-comps-number.result refl
    c.loop-number-test.true c.index-comps-number.is

pub loop-number-preserved : goal.loop-number-preserved
loop-number-preserved c =
    let program = c.args.program.now in
    let number = c.loop-number.number in
    let interface = c.index-comps-number.result in
    let there : number < length program.interfaces.comps =
    subst (λ (is : List Interface). number < length is) c.as_slice-comps.ensures c.loop-number-test.true in
    let item : interface ≡ get_or program.interfaces.comps number interface =
    subst (λ (is : List Interface). interface ≡ get_or is number interface) c.as_slice-comps.ensures
    c.index-comps-number.is in
    record {
      parts = one_comp program c.args.codes.now c.loop-number.parts c.push.new.self _ number interface
          c.in_ok-comp_part.field-0 there item
          (c.in_ok-comp_part.ensures.part ∙
          ap (λ comp. comp_part program c.args.codes.now comp interface) c.comp_id-comp.ensures)
          c.in_ok-push.ensures.ok c.loop-number.invariant.parts;
      named = all_more IsNamed program.interfaces.comps number interface there item c.loop-number.invariant.named
          c.in_ok-comp_part.ensures.named;
      whole = one_whole program c.args.codes.now number c.loop-number.invariant.whole
          (subst (λ comp. All IsWhole (codes_at program c.args.codes.now comp)) c.comp_id-comp.ensures
          c.in_ok-comp_part.ensures.whole);
    }

pub returns-clause-named : goal.returns-clause-named
returns-clause-named c =
    let program = c.args.program.now in
    all_named program c.args.codes.now
    (all_done IsNamed program.interfaces.comps c.loop-number.number
    (omega (arith, ap length c.as_slice-comps.ensures)) c.loop-number.invariant.named)

pub returns-clause-whole : goal.returns-clause-whole
returns-clause-whole c =
    let program = c.args.program.now in
    let count = same_count program c.requires.typed in
    whole_codes program.sections c.args.codes.now c.requires.linkable.each
    (λ comp there. c.loop-number.invariant.whole comp
    (omega (arith, there, count, ap length c.as_slice-comps.ensures, c.loop-number-test.false)))
