use Rattle.sc_types_elab.proofs.Common.{drop, import_target, map, ◌++◌, ◌≡◌}
use Rattle.sc_types_elab.proofs.calls.import_targets.Given as goal

abbrev pub invariant-loop-import : goal.invariant-loop-import
invariant-loop-import l = l.targets ++ map import_target (drop l.import-index l.imports) ≡ map import_target l.imports
