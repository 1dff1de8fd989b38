use Rattle.sc_linker.proofs.Common.{All, IsTrue, Proto, drop, export_parts, is_name, take, ◌++◌, ◌≡◌}
use Rattle.sc_linker.proofs.comp.export_parts.Given as goal

-- the exports from this one on are left
abbrev pub invariant-loop-proto : goal.invariant-loop-proto
invariant-loop-proto l = record {
  number : l.index ≡ l.proto-index;
  named : All {X = Proto} (λ proto. IsTrue (is_name proto.name)) (take l.proto-index l.exports);
  parts : l.parts ++ export_parts l.comp l.index (drop l.proto-index l.exports) ≡ export_parts l.comp 0 l.exports;
}
