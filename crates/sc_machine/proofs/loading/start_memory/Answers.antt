use Rattle.sc_machine.proofs.Common.{◌∙◌}
use Rattle.sc_machine.proofs.Start.{all_few, starts, regions_apart, regions_below, zeros_are}
use Rattle.sc_machine.proofs.loading.start_memory.Goals as goal

pub regions-requires-clause-few : goal.regions-requires-clause-few
regions-requires-clause-few g c = rw (c.as_slice-comps.ensures, c.parts.ensures.parts)
    (all_few c.args.image.now c.parts.ensures.well_formed)

pub zeroed-requires-clause-apart : goal.zeroed-requires-clause-apart
zeroed-requires-clause-apart g c =
    rw (c.deref.ensures.value, c.in_ok-regions.ensures, c.as_slice-comps.ensures, c.parts.ensures.parts)
    (regions_apart c.args.image.now.comps (all_few c.args.image.now c.parts.ensures.well_formed))

pub zeroed-requires-clause-below : goal.zeroed-requires-clause-below
zeroed-requires-clause-below g c =
    rw (c.deref.ensures.value, c.in_ok-regions.ensures, c.as_slice-comps.ensures, c.parts.ensures.parts)
    (regions_below c.args.image.now.comps c.parts.ensures.well_formed.few_comps
    (all_few c.args.image.now c.parts.ensures.well_formed))

pub fill_all-requires-clause-few : goal.fill_all-requires-clause-few
fill_all-requires-clause-few g c = rw (c.as_slice-comps.ensures, c.parts.ensures.parts)
    (all_few c.args.image.now c.parts.ensures.well_formed)

pub fill_all-requires-clause-zeros : goal.fill_all-requires-clause-zeros
fill_all-requires-clause-zeros g c =
    c.in_ok-memory.ensures ∙ rw (c.deref.ensures.value, c.in_ok-regions.ensures) (zeros_are _)

pub returns : goal.returns
returns g c =
    c.fill_all.ensures ∙
    rw (
      c.in_ok-memory.ensures,
      c.deref.ensures.value,
      c.in_ok-regions.ensures,
      c.as_slice-comps.ensures,
      c.parts.ensures.parts,
    )
    (rw (zeros_are c.args.image.now.comps) (starts c.args.image.now c.parts.ensures.well_formed))
