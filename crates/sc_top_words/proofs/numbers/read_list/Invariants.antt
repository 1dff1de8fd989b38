use denote.Text.{Utf8}
use denote.Shadow.{shadow}
use Rattle.sc_top_words.proofs.Digits.{IsReadUpTo}
use Rattle.sc_top_words.proofs.numbers.read_list.Given as goal

abbrev pub invariant-loop : goal.invariant-loop
invariant-loop l = shadow (Utf8 l.left) × IsReadUpTo l.fn.text l.counter l.list l.left
