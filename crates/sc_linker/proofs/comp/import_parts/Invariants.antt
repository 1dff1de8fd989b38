use Rattle.sc_linker.proofs.Common.{flat_map, import_part, take, ◌≡◌}
use Rattle.sc_linker.proofs.comp.import_parts.Given as goal

abbrev pub invariant-loop-import : goal.invariant-loop-import
invariant-loop-import l = l.parts ≡ flat_map import_part (take l.import-index l.imports)
