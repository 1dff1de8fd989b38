use Rattle.sc_fields.proofs.Common.{flat_map, little_bytes, take, ◌++◌, ◌≡◌}
use Rattle.sc_fields.proofs.writing.append_code.Given as goal

abbrev pub invariant-loop-word : goal.invariant-loop-word
invariant-loop-word l = l.text ≡ l.initial.text ++ flat_map (little_bytes 4) (take l.word-index l.code)
