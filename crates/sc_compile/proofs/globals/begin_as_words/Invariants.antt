use Rattle.sc_compile.proofs.Common.{All, BeginsAsWords, take}
use Rattle.sc_compile.proofs.globals.begin_as_words.Given as goal

-- those so far do
abbrev pub invariant-loop-global : goal.invariant-loop-global
invariant-loop-global l = All BeginsAsWords (take l.global-index l.globals)
