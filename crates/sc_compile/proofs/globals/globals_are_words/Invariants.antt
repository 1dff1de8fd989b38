use Rattle.sc_compile.proofs.Common.{All, BeginAsWords, take}
use Rattle.sc_compile.proofs.globals.globals_are_words.Given as goal

-- those so far do
abbrev pub invariant-loop-section : goal.invariant-loop-section
invariant-loop-section l = All BeginAsWords (take l.section-index l.sections)
