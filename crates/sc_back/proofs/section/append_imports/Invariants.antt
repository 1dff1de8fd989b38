use Rattle.sc_back.proofs.Common.{drop, flat_map, import_text, ◌++◌, ◌≡◌}
use Rattle.sc_back.proofs.section.append_imports.Given as goal

-- those so far are there
abbrev pub invariant-loop-import : goal.invariant-loop-import
invariant-loop-import l =
    l.text ++ flat_map (import_text l.interfaces) (drop l.import-index l.imports) ≡
    l.fn.text ++ flat_map (import_text l.interfaces) l.imports
