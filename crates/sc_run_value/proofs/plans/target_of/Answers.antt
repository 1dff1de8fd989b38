use Rattle.sc_run_value.proofs.Common.{ap, c_arith, here_of, sym, ways, ◌∙◌}
use Rattle.std.proofs.Common.{subst}
use Rattle.sc_core.specs.Prelude.{is_unsigned, target_cells}
use Rattle.sc_core.specs.declared.value.Want.TheVariants as want
use Rattle.sc_run_value.specs.Plans.{IsPlanOf}
use Rattle.sc_run_value.proofs.Planning.{by_element}
use Rattle.sc_run_value.proofs.plans.target_of.Goals as goal

pub returns-in-Some : goal.returns-in-Some
returns-in-Some c =
    let s = c.args.scope.now in
    by_element s.structs.now (here_of s) s.params c.args.expr.now c.in-Index.base c.in-Index.index c.in-Some.block
    c.target_cells.result c.is_unsigned.result c.plan_of.result c.in-Index.is
    (λ blocks. ap (λ e. ways c_arith s.structs.now (here_of s) s.params e want.Value blocks) (sym c.get.ensures) ∙
    c.in-Some.ensures blocks)
    (subst (λ e. IsPlanOf c.plan_of.result (ways c_arith s.structs.now (here_of s) s.params e)) c.get-in-Some-3.ensures
    c.plan_of.ensures)
    (c.target_cells.ensures ∙ ap (λ e. target_cells s.structs.now e.ty) c.get-in-Some.ensures)
    (c.is_unsigned.ensures ∙ ap (λ e. is_unsigned e.ty) c.get-in-Some-2.ensures)
