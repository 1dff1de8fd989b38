use Rattle.sc_tags.proofs.Common.{IsWellFormed, ap, is_some, subst, sym, ◌∙◌}
use Rattle.sc_machine.specs.Place.{IsPlace}
use Rattle.sc_store.specs.Prelude.{HasBytes}
use Rattle.sc_tags.proofs.Untouched.{code_tagged, code_untouched, own_code}
use Rattle.sc_tags.specs.Prelude.{first_bytes}
use Rattle.sc_tags.specs.TagHart.{TagSite}
use Rattle.sc_tags.proofs.tags.Tags.are_code.Goals as goal

pub returns-then-are_untouched-clause-is : goal.returns-then-are_untouched-clause-is
returns-then-are_untouched-clause-is c =
    let site : TagSite = record {
      image = c.self.inside.here.image;
      comp = c.self.inside.here.comp;
      ranges = c.self.inside.ranges.now;
    } in
    rw (← c.self.view_is) (c.is_some.ensures ∙ ap is_some c.word_at.ensures.word ∙
    code_untouched site c.self.invariant.1.formed c.args.address (c.are_untouched.ensures c.if-are_untouched.true))

pub returns-then-are_untouched-clause-there : goal.returns-then-are_untouched-clause-there
returns-then-are_untouched-clause-there c sure =
    let place = subst (λ (s : TagSite). IsPlace s.image s.comp) c.self.view_is c.self.invariant.1 in
    (own_code c.args.self.now place.formed c.args.address (sym (returns-then-are_untouched-clause-is c) ∙ sure)).0

pub returns-clause-there : goal.returns-clause-there
returns-clause-there c sure =
    let place = subst (λ (s : TagSite). IsPlace s.image s.comp) c.self.view_is c.self.invariant.1 in
    subst (λ image. HasBytes (first_bytes image) c.args.address 4) c.image.ensures
    (code_tagged c.image.result.now (subst IsWellFormed (sym c.image.ensures) place.formed)
    c.self.inside.ranges.now c.comp.result c.args.address
    (sym c.all_tagged.ensures ∙ sure)).0

pub returns-clause-within : goal.returns-clause-within
returns-clause-within c sure =
    let place = subst (λ (s : TagSite). IsPlace s.image s.comp) c.self.view_is c.self.invariant.1 in
    (code_tagged c.image.result.now (subst IsWellFormed (sym c.image.ensures) place.formed)
    c.self.inside.ranges.now c.comp.result c.args.address
    (sym c.all_tagged.ensures ∙ sure)).1
