use Rattle.sc_types_interfaces.proofs.Common.{◌∙◌}
use Rattle.sc_types_interfaces.proofs.Offered.{built}
use Rattle.sc_types_interfaces.proofs.building.interfaces.Goals as goal

pub returns : goal.returns
returns c =
    built c.args.sections.now c.as_slice-tables.result.now c.as_slice.result.now c.in_ok-interface_list.field-0
    c.main_comp.result c.requires
    (c.as_slice-tables.ensures ∙ c.in_ok-tables.ensures)
    (c.as_slice.ensures ∙ c.in_ok-places.ensures) c.in_ok-interface_list.ensures c.main_comp.ensures
