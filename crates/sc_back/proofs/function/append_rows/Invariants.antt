use Rattle.sc_back.proofs.Common.{drop, entry_at, own_rows_text, ◌++◌, ◌≡◌}
use Rattle.sc_back.proofs.function.append_rows.Given as goal

-- those so far are there
abbrev pub invariant-loop-row : goal.invariant-loop-row
invariant-loop-row l =
    l.text ++ own_rows_text l.interfaces l.performer.promised (entry_at l.performer.export) (drop l.row-index l.rows) ≡
    l.fn.text ++ own_rows_text l.interfaces l.performer.promised (entry_at l.performer.export) l.rows
