-- A block starts where one has words.
use Rattle.sc_zone.proofs.Common.{ap, sym, ◌∙◌}
use Rattle.std.specs.Prelude.{is_some}
use Rattle.sc_zone.proofs.Blocks.{none_without, starts_where}
use Rattle.sc_zone.proofs.zone.Zone.free.Goals as goal

pub returns-in_default-clause-there : goal.returns-in_default-clause-there
returns-in_default-clause-there c =
    sym (starts_where c.args.self.now c.args.place ∙ ap is_some (sym c.words_at.ensures ∙ c.in_default.is))

pub returns-in_default-clause-spans : goal.returns-in_default-clause-spans
returns-in_default-clause-spans c =
    sym (none_without c.args.self.now c.args.place (sym c.words_at.ensures ∙ c.in_default.is))

pub returns-clause-there : goal.returns-clause-there
returns-clause-there c =
    ap is_some (sym c.in-Some.is ∙ c.words_at.ensures) ∙ sym (starts_where c.args.self.now c.args.place)
