use Rattle.std.proofs.Common.{List, drop}
use Rattle.sc_opt.specs.Prelude.{NotesAll}
use Rattle.sc_opt.specs.declared.facts.Facts.{Facts}
use Rattle.sc_opt.proofs.facts.+note.Given as goal

abbrev pub invariant-note_all-loop-stmt : goal.invariant-note_all-loop-stmt
invariant-note_all-loop-stmt l = (after : List Facts) → NotesAll (drop l.stmt-index l.stmts) l.table after →
    NotesAll l.stmts l.initial.table after
