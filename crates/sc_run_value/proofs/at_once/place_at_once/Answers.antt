use Rattle.sc_run_value.proofs.Common.{Ptr, Word, ap, c_arith, here_of, memory_of, sym, ways, ◌∙◌}
use Rattle.sc_core.specs.declared.value.Want.TheVariants as want
use Rattle.sc_run_value.proofs.Operands.{place_known}
use Rattle.sc_run_value.proofs.at_once.place_at_once.Goals as goal

pub returns-in_ok-place-in-Index : goal.returns-in_ok-place-in-Index
returns-in_ok-place-in-Index c =
    let s = c.args.scope.now in
    let blocks = memory_of c.args.blocks.now s.comp.now in
    place_known s.structs.now (here_of s) s.params c.args.expr.now c.in-Index.base c.in-Index.index
    c.get-in-Index-2.result.now c.get-in-Index-3.result.now blocks _ (Word c.in_ok-word-in-Index.word)
    (Ptr c.in_ok-place-in-Index.place) c.get-in-Index-2.ensures c.get-in-Index-3.ensures
    (ap (λ e. ways c_arith s.structs.now (here_of s) s.params e want.Value blocks) (sym c.get.ensures)
    ∙ c.in_ok-block-in-Index.ensures blocks)
    (ap (λ bs. ways c_arith s.structs.now (here_of s) s.params c.in-Index.index want.Value bs)
    (sym c.in_ok-row-in-Index.ensures) ∙
    ap (λ e. ways c_arith s.structs.now (here_of s) s.params e want.Value c.in_ok-row-in-Index.row.now)
    (sym c.get-in-Index.ensures) ∙ c.in_ok-word-in-Index.ensures)
    _ c.in_ok-row-in-Index.ensures c.in-Index.is c.in_ok-place-in-Index.ensures
