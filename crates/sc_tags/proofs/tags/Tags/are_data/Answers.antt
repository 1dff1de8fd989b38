use Rattle.sc_tags.proofs.Common.{IsWellFormed, subst, sym, ◌∙◌}
use Rattle.sc_machine.specs.Place.{IsPlace}
use Rattle.sc_store.specs.Prelude.{HasBytes}
use Rattle.sc_tags.proofs.Untouched.{data_tagged_there, data_untouched}
use Rattle.sc_tags.specs.Prelude.{first_bytes}
use Rattle.sc_tags.specs.TagHart.{TagSite}
use Rattle.sc_tags.proofs.tags.Tags.are_data.Goals as goal

pub returns-then-are_untouched-clause-are : goal.returns-then-are_untouched-clause-are
returns-then-are_untouched-clause-are c =
    let site : TagSite = record {
      image = c.self.inside.here.image;
      comp = c.self.inside.here.comp;
      ranges = c.self.inside.ranges.now;
    } in
    rw (← c.self.view_is) (c.are_data.ensures.data ∙
    data_untouched site c.self.invariant.1.formed c.args.address c.args.size c.self.invariant.1.within
    (c.are_untouched.ensures c.if-are_untouched.true))

pub returns-clause-there : goal.returns-clause-there
returns-clause-there c sure =
    let place = subst (λ (s : TagSite). IsPlace s.image s.comp) c.self.view_is c.self.invariant.1 in
    subst (λ image. HasBytes (first_bytes image) c.args.address c.args.size) c.image.ensures
    (data_tagged_there c.image.result.now (subst IsWellFormed (sym c.image.ensures) place.formed)
    c.self.inside.ranges.now c.comp.result c.args.address
    c.args.size (sym c.all_tagged.ensures ∙ sure))
