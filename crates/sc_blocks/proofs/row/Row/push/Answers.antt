use Rattle.sc_blocks.proofs.Common.{None, Slot, [], ap, refl, variable, ◌++◌, ◌∙◌, ◌∷◌}
use Rattle.sc_blocks.proofs.Storing.{apart_more, heap_still, rising_more, row_more}
use Rattle.sc_blocks.proofs.row.Row.push.Goals as goal

pub invariant_of-self-2 : goal.invariant_of-self-2
invariant_of-self-2 c =
    let s : Slot = record { number = c.self.inside.made; cells = c.args.cells; place = None } in
    let slots = c.self.inside.slots.items in
    let more = c.push.new.self.items in
    let made = c.self.inside.made in
    let heap = c.self.inside.heap in
    let up = c.self.invariant in (
      rising_more slots heap more made s up.0 up.1 refl c.in_ok-push.ensures.items,
      heap_still slots heap more made s up.0 up.1 refl c.in_ok-push.ensures.items,
      apart_more slots heap more made s up.0 up.1 refl c.in_ok-push.ensures.items up.2,
    )

pub returns-clause-ok : goal.returns-clause-ok
returns-clause-ok c =
    let s : Slot = record { number = c.self.inside.made; cells = c.args.cells; place = None } in
    row_more c.self.inside.slots.items c.self.inside.heap c.push.new.self.items c.self.inside.made s c.self.invariant.0
    c.self.invariant.1 refl c.in_ok-push.ensures.items ∙ ap (λ bs. bs ++ variable c.args.cells ∷ []) c.self.view_is
