use Rattle.sc_run.proofs.Common.{ap, slice_get, sym, ◌∙◌}
use Rattle.sc_run.proofs.Finding.{no_comp}
use Rattle.sc_run.proofs.lookups.entry_callee.Goals as goal

pub returns-in-None : goal.returns-in-None
returns-in-None c =
    record {
      found = no_comp c.args.program.now c.args.comp.now c.args.entry
          (ap (slice_get c.args.program.now.sections) (sym c.number.ensures.number) ∙
          ap (λ p. slice_get p.sections c.number.result) (sym c.tree.ensures.tree) ∙ sym c.in-None.ensures.value);
      variables = tt;
    }
