use Rattle.sc_types_elab.proofs.Common.{drop, import_line_name, map, ◌++◌, ◌≡◌}
use Rattle.sc_types_elab.proofs.calls.import_places.Given as goal

abbrev pub invariant-loop-line : goal.invariant-loop-line
invariant-loop-line l = l.places ++ map import_line_name (drop l.line-index l.imports) ≡ map import_line_name l.imports
