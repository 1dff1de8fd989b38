-- The test of the map says whether the name is new.
use Rattle.sc_base.proofs.Common.{sym, ◌∙◌}
use Rattle.sc_base.proofs.Numbers.{known-place, noted-place}
use Rattle.sc_base.proofs.name_list.note_place.Goals as goal

pub returns-then-contains_key-clause-ok : goal.returns-then-contains_key-clause-ok
returns-then-contains_key-clause-ok c names has at =
    known-place names c.args.name c.args.places.now has (sym c.contains_key.ensures ∙ c.if-contains_key.true)

pub returns-clause-ok : goal.returns-clause-ok
returns-clause-ok c names has at =
    noted-place names c.args.name c.args.places.now has c.insert.new.self c.args.place
    (sym c.contains_key.ensures ∙ c.if-contains_key.false) at c.in_ok-insert.ensures.updates
