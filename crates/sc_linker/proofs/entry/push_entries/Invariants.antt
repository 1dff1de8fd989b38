use Rattle.sc_linker.proofs.Common.{addresses_of, drop, entry_jumps, map, word_of, ◌++◌, ◌≡◌}
use Rattle.sc_linker.proofs.entry.push_entries.Given as goal

-- the entries from this one on are left
abbrev pub invariant-loop-proto : goal.invariant-loop-proto
invariant-loop-proto l = record {
  number : l.index ≡ l.proto-index;
  words :
      l.words ++ map word_of (entry_jumps (addresses_of l.layout) l.layout.comp l.index l.section
      (drop l.proto-index l.exports)) ≡ l.initial.words ++
      map word_of (entry_jumps (addresses_of l.layout) l.layout.comp 0 l.section l.exports);
}
