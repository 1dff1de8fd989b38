use Rattle.sc_linker.proofs.Common.{flat_map, little_bytes, take, ◌++◌, ◌≡◌}
use Rattle.sc_linker.proofs.bytes.push_words.Given as goal

abbrev pub invariant-loop-word : goal.invariant-loop-word
invariant-loop-word l = l.bytes ≡ l.initial.bytes ++ flat_map (little_bytes 4) (take l.word-index l.words)
