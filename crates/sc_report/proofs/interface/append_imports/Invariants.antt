use Rattle.sc_report.proofs.Common.{flat_map, import_report, take, ◌++◌, ◌≡◌}
use Rattle.sc_report.proofs.interface.append_imports.Given as goal

abbrev pub invariant-loop-import : goal.invariant-loop-import
invariant-loop-import l = l.text ≡ l.initial.text ++ flat_map (import_report l.interfaces) (take l.import-index
    l.imports)
