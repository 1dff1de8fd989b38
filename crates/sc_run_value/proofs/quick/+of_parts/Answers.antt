use Rattle.sc_run_value.proofs.Common.{Word, ap, c_arith, here_of, sym, ways, ◌∙◌}
use Rattle.std.proofs.lemmas.Option.{IfSome_then}
use Rattle.sc_core.specs.declared.value.Want.TheVariants as want
use Rattle.sc_run_value.proofs.Operands.{binary_known, element_known, word_same}
use Rattle.sc_run_value.proofs.quick.+of_parts.Goals as goal
use Rattle.sc_run_value.proofs.quick.+of_parts.Goals.{in-Some-leaf, in-None-leaf+in_ok-first-in-None-leaf}
use Rattle.sc_run_value.proofs.quick.+of_parts.Goals.{in-Some-leaf-2, in-None-leaf-2+in_ok-second-in-None-leaf-2}
use Rattle.sc_run_value.proofs.quick.+of_parts.Goals.{in-Some-leaf-3, in-None-leaf-3+in_ok-word-in-None-leaf-3}

pub returns-after-leaf-3 : goal.returns-after-leaf-3
returns-after-leaf-3 t c =
    let s = c.args.scope.now in
    let same = word_same s.structs.now (here_of s) s.params in
    IfSome_then c.joined.result c.joined.ensures (λ found h. binary_known s.structs.now (here_of s) s.params
    c.args.expr.now c.in-Binary.left c.in-Binary.right c.get-in-Binary-5.result.now c.get-in-Binary-6.result.now
    c.args.row.now (Word c.match-leaf-2.first) (Word c.match-leaf-3.second) (Word found) c.get-in-Binary-5.ensures
    c.get-in-Binary-6.ensures
    (elim c.match-leaf-2.branch [
      | in-Some-leaf w ↦ same _ _ _ _ _ c.get-in-Binary-3.ensures w.first-is w.in-Some-leaf.ensures.word
      | in-None-leaf+in_ok-first-in-None-leaf w ↦ same _ _ _ _ _ w.get-in-None-leaf.ensures w.first-is
          w.in_ok-first-in-None-leaf.ensures
    ])
    (elim c.match-leaf-3.branch [
      | in-Some-leaf-2 w ↦ same _ _ _ _ _ c.get-in-Binary-4.ensures w.second-is w.in-Some-leaf-2.ensures.word
      | in-None-leaf-2+in_ok-second-in-None-leaf-2 w ↦ same _ _ _ _ _ w.get-in-None-leaf-2.ensures w.second-is
          w.in_ok-second-in-None-leaf-2.ensures
    ])
    c.in-Binary.op c.in-Binary.is c.in_default-decided.ensures (h s.structs.now c.args.row.now))

pub returns-after-leaf-4 : goal.returns-after-leaf-4
returns-after-leaf-4 t c =
    let s = c.args.scope.now in
    let same = word_same s.structs.now (here_of s) s.params in
    IfSome_then c.element_word.result c.element_word.ensures (λ found h. element_known s.structs.now (here_of s)
    s.params c.args.expr.now c.in-Index.base c.in-Index.index c.get-in-Index-3.result.now c.get-in-Index-4.result.now
    c.args.row.now _ (Word c.match-leaf-4.word) (Word found) c.get-in-Index-3.ensures c.get-in-Index-4.ensures
    (ap (λ e. ways c_arith s.structs.now (here_of s) s.params e want.Value c.args.row.now)
    (sym c.get-in-Index.ensures) ∙ c.in_ok-block-in-Index.ensures c.args.row.now)
    (elim c.match-leaf-4.branch [
      | in-Some-leaf-3 w ↦ same _ _ _ _ _ c.get-in-Index-2.ensures w.word-is w.in-Some-leaf-3.ensures.word
      | in-None-leaf-3+in_ok-word-in-None-leaf-3 w ↦ same _ _ _ _ _ w.get-in-None-leaf-3.ensures w.word-is
          w.in_ok-word-in-None-leaf-3.ensures
    ])
    c.in-Index.is (sym c.is_array.ensures ∙ c.if-is_array.false)
    (sym c.is_pointer-in-Index.ensures ∙ c.if-is_pointer-3.false) h)
