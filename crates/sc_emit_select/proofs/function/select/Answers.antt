use Rattle.sc_emit_select.proofs.Common.{CodeTree, IsCode, code_of, entry_weight, length, subst, sym, weight, ◌+◌, ◌∙◌}
use Rattle.sc_emit_select.proofs.Common.{◌≡◌, ◌≤◌}
use Rattle.sc_emit_select.proofs.Links.{function_code, read_code}
use Rattle.sc_emit_select.proofs.Weights.{function_light}
use Rattle.sc_emit_select.proofs.function.select.Goals as goal

pub new-requires : goal.new-requires
new-requires c =
    subst IsCode (sym (read_code _ _ _ _ c.in_ok-read.ensures c.uses_heap.ensures ∙ c.in_ok-lines.ensures.lines))
    (function_code c.args.frame.now c.args.places.now _ c.args.f.now _)

pub returns : goal.returns
returns c =
    let is : c.new.result ≡ code_of c.args.f.now c.args.places.now c.args.frame.now =
    c.new.ensures ∙ read_code _ _ _ _ c.in_ok-read.ensures c.uses_heap.ensures ∙ c.in_ok-lines.ensures.lines in
    record {
      code = is;
      light = subst
          (λ (code : CodeTree). length code.instrs ≤ entry_weight c.args.f.now.params + weight c.args.f.now.body)
          (sym is) (function_light c.args.frame.now c.args.places.now c.args.f.now c.tree-tree.ensures.rules);
      rules = subst IsCode (sym is) (function_code c.args.frame.now c.args.places.now _ c.args.f.now _);
    }
