use Rattle.sc_back.proofs.Common.{drop, export_text, flat_map, ◌++◌, ◌≡◌}
use Rattle.sc_back.proofs.section.append_exports.Given as goal

-- those so far are there
abbrev pub invariant-loop-export : goal.invariant-loop-export
invariant-loop-export l =
    l.text ++ flat_map export_text (drop l.export-index l.exports) ≡ l.fn.text ++ flat_map export_text l.exports
