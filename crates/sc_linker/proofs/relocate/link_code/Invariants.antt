use Rattle.sc_linker.proofs.Common.{All, AreKnown, Fits, IsInstr, addresses_of, drop, length, linked, linked_from, map}
use Rattle.sc_linker.proofs.Common.{take, word_of, ◌++◌, ◌≡◌, ◌≤◌}
use Rattle.sc_linker.proofs.relocate.link_code.Given as goal

-- the instructions from this one on stand at `pc`
abbrev pub invariant-loop-instr : goal.invariant-loop-instr
invariant-loop-instr l = record {
  number : l.at ≡ l.instr-index;
  within : l.next ≤ length l.relocations;
  room : Fits l.layout.comp l.pc (length (drop l.instr-index l.code.instrs));
  known : AreKnown (length l.layout.functions) (length l.layout.globals) (drop l.next l.relocations);
  instrs : All IsInstr (take l.instr-index l.code.instrs);
  words :
      l.words ++ map word_of (linked_from (addresses_of l.layout) l.pc l.at l.low (drop l.instr-index l.code.instrs)
      (drop l.next l.relocations)) ≡ l.initial.words ++ map word_of (linked (addresses_of l.layout) l.address l.code);
}
