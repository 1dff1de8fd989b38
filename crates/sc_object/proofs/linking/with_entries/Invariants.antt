use Rattle.sc_object.proofs.Common.{code_start, drop, with_entries, ◌*◌, ◌++◌, ◌+◌, ◌≡◌}
use Rattle.sc_object.proofs.linking.with_entries.Given as goal

abbrev pub invariant-loop-export : goal.invariant-loop-export
invariant-loop-export l = record {
  entry : l.entry ≡ code_start l.fn.comp + 4 * l.export-index;
  parts : l.parts ++ with_entries l.fn.comp l.export-index (drop l.export-index l.exports) ≡
      with_entries l.fn.comp 0 l.exports;
}
