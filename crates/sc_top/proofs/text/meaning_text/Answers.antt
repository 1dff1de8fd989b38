use Rattle.sc_top.proofs.Common.{All, Interfaces, IsKnown, ap, map, meaning, subst, sym, word_of, ◌∙◌}
use Rattle.sc_top.proofs.Known.{meant_known}
use Rattle.sc_top.proofs.text.meaning_text.Goals as goal

pub meaning_text-requires : goal.meaning_text-requires
meaning_text-requires c =
    let same = c.in_ok-run.ensures ∙
    ap (λ inputs. meaning c.args.program.now
    (map word_of inputs) c.args.options.now.turns c.args.options.now.events) c.as_slice-inputs.ensures in
    subst (λ (interfaces : Interfaces). All (IsKnown interfaces) c.in_ok-run.run'.trace) (sym c.interfaces.ensures)
    (subst (λ run. All (IsKnown c.args.program.now.interfaces) run.trace) (sym same)
    (meant_known c.traces_are_legal.ensures c.args.options.now c.args.program.now c.tree-tree.ensures.typed))
