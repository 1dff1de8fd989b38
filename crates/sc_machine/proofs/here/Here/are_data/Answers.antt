use Rattle.sc_machine.proofs.Common.{are_data, arith, data_start, ap, subst, sym, true, ◌+◌, ◌-◌, ◌∙◌, ◌≡◌}
use Rattle.sc_machine.proofs.Words.{data_there, looked_below, looked_far, looked_near}
use Rattle.sc_machine.specs.Place.{IsPlace, Site}
use Rattle.sc_machine.proofs.here.Here.are_data.Goals as goal

pub returns-then-address-self-clause-data : goal.returns-then-address-self-clause-data
returns-then-address-self-clause-data c =
    rw (← c.self.view_is) (sym (looked_below c.self.invariant.1 c.args.address c.args.size c.requires.some
    c.if-address-self.true))

pub returns-then-offset-self-clause-data : goal.returns-then-offset-self-clause-data
returns-then-offset-self-clause-data c =
    rw (← c.self.view_is) (sym (looked_near c.self.invariant.1 c.args.address c.args.size c.requires.some
    c.requires.few c.if-address-self.false c.if-offset-self.true))

pub returns-then-offset-self-clause-there : goal.returns-then-offset-self-clause-there
returns-then-offset-self-clause-there c sure =
    rw (← c.self.view_is) (data_there c.self.inside.program.now c.self.inside.comp c.args.address c.args.size
    c.self.invariant.0 (looked_near c.self.invariant.1 c.args.address c.args.size c.requires.some c.requires.few
    c.if-address-self.false c.if-offset-self.true))

pub returns-then-not-self-clause-data : goal.returns-then-not-self-clause-data
returns-then-not-self-clause-data c =
    rw (← c.self.view_is) (sym (looked_far c.self.invariant.1 c.args.address c.args.size c.requires.some
    c.requires.few c.if-offset-self.false c.if-not-self.true))

pub returns-clause-there : goal.returns-clause-there
returns-clause-there c sure =
    let place = subst (λ (s : Site). IsPlace s.image s.comp) c.self.view_is c.self.invariant.0 in
    let from = c.self.invariant.1.data_from_is ∙ ap (λ (s : Site). data_start s.comp) c.self.view_is in
    let same : data_start c.args.self.now.comp + (c.args.address - c.self.inside.data_from) ≡ c.args.address =
    omega (arith, from, c.if-address-self.false) in
    data_there c.args.self.now.image c.args.self.now.comp c.args.address c.args.size place
    (subst (λ a. are_data c.args.self.now.image c.args.self.now.comp a c.args.size ≡ true) same
    (sym c.are_in_zone.ensures ∙ sure))
