use Rattle.sc_back.proofs.Common.{ap, codes, entry_at, head_text, own_rows_text, ◌++◌, ◌∙◌}
use Rattle.sc_back.proofs.Loops.{four_pieces, own_rows}
use Rattle.sc_back.proofs.function.append_function.Goals as goal

pub returns : goal.returns
returns c =
    let performer = c.args.performer.now in
    let rows = own_rows c.args.interfaces.now performer.promised (entry_at performer.export) c.args.rows.now in
    let head = head_text (record {
      name = performer.name.now;
      params = performer.params.now;
      result = performer.promised;
    }) in
    four_pieces c.args.text.now head (codes " {\n")
    (own_rows_text c.args.interfaces.now performer.promised (entry_at performer.export) c.args.rows.now)
    (codes "  while (1) { }\n}\n") c.append_head.new.text c.append.new.self c.append_rows.new.text
    c.append-2.new.self c.in_ok-append_head.ensures c.in_ok-append.ensures.ok c.in_ok-append_rows.ensures
    c.in_ok-append-2.ensures.ok ∙
    ap (λ t. c.args.text.now ++ (head ++ (codes " {\n" ++ (t ++ codes "  while (1) { }\n}\n")))) rows
