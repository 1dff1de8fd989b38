-- Ends of runs, and causes, of which laws speak.
use Rattle.sc_core_laws.specs.Common.{Blamed, Cause, Ended, EventsOut, RunEnd, TurnsOut}
use Rattle.sc_core.specs.declared.cause.Cause.TheVariants.{Overflow, ZeroDivisor, BadShift}

-- the program itself ended the run, and no limit did
abbrev pub IsFinal : RunEnd → Type 0
IsFinal Ended = Unit {0}
IsFinal (Blamed comp cause line) = Unit {0}
IsFinal TurnsOut = ⊥
IsFinal EventsOut = ⊥

-- the causes that an operator on words can have
abbrev pub IsArithmetic : Cause → Type 0
IsArithmetic Overflow = Unit {0}
IsArithmetic ZeroDivisor = Unit {0}
IsArithmetic BadShift = Unit {0}
IsArithmetic _ = ⊥
