use Rattle.sc_linker.proofs.Common.{All, Fits, IsWhole, addresses_of, drop, instructions, linked_codes, map, take}
use Rattle.sc_linker.proofs.Common.{word_of, ◌++◌, ◌≡◌}
use Rattle.sc_linker.proofs.code.push_codes.Given as goal

-- the codes from this one on stand at `next`
abbrev pub invariant-loop-code : goal.invariant-loop-code
invariant-loop-code l = record {
  room : Fits l.layout.comp l.next (instructions (drop l.code-index l.codes));
  whole : All IsWhole (take l.code-index l.codes);
  words :
      l.words ++ map word_of (linked_codes (addresses_of l.layout) l.next (drop l.code-index l.codes)) ≡
      l.initial.words ++ map word_of (linked_codes (addresses_of l.layout) l.address l.codes);
}
