use Rattle.sc_run_value.proofs.Common.{Word, ap, c_arith, here_of, sym, ways, ◌∙◌}
use Rattle.std.proofs.lemmas.Option.{IfSome_then}
use Rattle.sc_core.specs.declared.value.Want.TheVariants as want
use Rattle.sc_run_value.proofs.Operands.{binary_known}
use Rattle.sc_run_value.proofs.quick.of_leaves.Goals as goal

pub returns-in_default-decided : goal.returns-in_default-decided
returns-in_default-decided c =
    let s = c.args.scope.now in
    IfSome_then c.joined.result c.joined.ensures (λ found h. binary_known s.structs.now (here_of s) s.params
    c.args.expr.now c.in-Binary.left c.in-Binary.right c.get-in-Binary-2.result.now c.get-in-Binary-3.result.now
    c.args.row.now (Word c.in_ok-first-in-Binary.first) (Word c.in_ok-second-in-Binary.second) (Word found)
    c.get-in-Binary-2.ensures c.get-in-Binary-3.ensures
    (ap (λ e. ways c_arith s.structs.now (here_of s) s.params e want.Value c.args.row.now) (sym c.get.ensures) ∙
    c.in_ok-first-in-Binary.ensures.word)
    (ap (λ e. ways c_arith s.structs.now (here_of s) s.params e want.Value c.args.row.now)
    (sym c.get-in-Binary.ensures) ∙ c.in_ok-second-in-Binary.ensures.word)
    c.in-Binary.op c.in-Binary.is c.in_default-decided.ensures (h s.structs.now c.args.row.now))
