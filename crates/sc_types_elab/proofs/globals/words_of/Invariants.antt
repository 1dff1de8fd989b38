use Rattle.sc_types_elab.proofs.Common.{drop, map, word_of_const, ◌++◌, ◌≡◌}
use Rattle.sc_types_elab.proofs.globals.words_of.Given as goal

abbrev pub invariant-loop-constant : goal.invariant-loop-constant
invariant-loop-constant l = l.words ++ map word_of_const (drop l.constant-index l.consts) ≡ map word_of_const l.consts
