use Rattle.sc_fields.proofs.Common.{flat_map, import_bytes, take, ◌++◌, ◌≡◌}
use Rattle.sc_fields.proofs.writing.append_imports.Given as goal

abbrev pub invariant-loop-import : goal.invariant-loop-import
invariant-loop-import l = l.text ≡ l.initial.text ++ flat_map import_bytes (take l.import-index l.imports)
