-- The lines that report a run.
use Rattle.sc_event.specs.Prelude.{comp_name, event_line}
use Rattle.std.specs.Prelude.{ℕ, List, [], ◌++◌, length, flat_map, codes, decimal, Option, None, Some}
use Rattle.std.specs.Int.{w32, to_be_bytes}
use Rattle.hex.specs.Hex.{encode_lower}
use Rattle.sc_event.specs.declared.event.Event.{Event}
use Rattle.sc_event.specs.declared.interface.Interfaces.{Interfaces}
use Rattle.sc_core.specs.declared.cause.Cause.{Cause}
use Rattle.sc_core.specs.declared.cause.Cause.TheVariants as causes
use Rattle.sc_core.specs.declared.run.RunEnd.{RunEnd}
use Rattle.sc_core.specs.declared.run.RunEnd.TheVariants.{Ended, Blamed, TurnsOut, EventsOut}
use Rattle.sc_core.specs.declared.run.SourceRun.{SourceRun}
use Rattle.sc_base.specs.declared.stop.Stop.{Stop}
use Rattle.sc_base.specs.declared.stop.Stop.TheVariants as stops
use Rattle.sc_base.specs.declared.stop.TrapReason.{TrapReason}
use Rattle.sc_base.specs.declared.stop.TrapReason.TheVariants as reasons
use Rattle.sc_core.specs.declared.explanation.Explanation.{Explanation}
use Rattle.sc_core.specs.declared.explanation.Link.{Link}
use Rattle.sc_core.specs.declared.explanation.TrapOrigin.{TrapOrigin}
use Rattle.sc_core.specs.declared.explanation.TrapOrigin.TheVariants as origins
use Rattle.sc_core.specs.declared.explanation.Trapped.{Trapped}

-- a line per event
abbrev pub events_text : Interfaces → List Event → List ℕ
events_text interfaces events = flat_map (event_line interfaces) events

abbrev pub cause_word : Cause → List ℕ
cause_word causes.Overflow = codes "Overflow"
cause_word causes.ZeroDivisor = codes "ZeroDivisor"
cause_word causes.BadShift = codes "BadShift"
cause_word causes.OutOfBounds = codes "OutOfBounds"
cause_word causes.Dangling = codes "Dangling"
cause_word causes.NullUse = codes "NullUse"
cause_word causes.Indeterminate = codes "Indeterminate"
cause_word causes.BadType = codes "BadType"
cause_word causes.BadPointer = codes "BadPointer"
cause_word causes.NoReturn = codes "NoReturn"
cause_word causes.BadFree = codes "BadFree"

-- the last words of a line: a cause and the line at which it came
abbrev pub number_end : ℕ → List ℕ
number_end line = codes " " ++ (decimal line ++ codes "\n")

abbrev pub cause_end : Cause → ℕ → List ℕ
cause_end cause line = codes " " ++ (cause_word cause ++ number_end line)

-- who is blamed for what, and at which line of its section
abbrev pub blame_line : (comp : List ℕ) → Cause → ℕ → List ℕ
blame_line comp cause line = codes "stop blamed " ++ (comp ++ cause_end cause line)

abbrev pub end_line : Interfaces → RunEnd → List ℕ
end_line interfaces Ended = codes "stop ended\n"
end_line interfaces (Blamed comp cause line) = blame_line (comp_name interfaces comp) cause line
end_line interfaces TurnsOut = codes "stop turns\n"
end_line interfaces EventsOut = codes "stop events\n"

-- the events of a source run, and how it ends
abbrev pub meaning_text : Interfaces → SourceRun → List ℕ
meaning_text interfaces run = events_text interfaces run.trace ++ end_line interfaces run.end

abbrev pub reason_word : TrapReason → List ℕ
reason_word reasons.Owner = codes "owner"
reason_word reasons.Misaligned = codes "misaligned"
reason_word reasons.Illegal = codes "illegal"
reason_word reasons.BadJump = codes "badjump"
reason_word reasons.NoImport = codes "noimport"
reason_word reasons.BadCall = codes "badcall"
reason_word reasons.Breakpoint = codes "breakpoint"
reason_word reasons.BadFree = codes "badfree"

-- the last word of a line: an address in eight hexadecimal digits
abbrev pub address_end : ℕ → List ℕ
address_end address = codes " 0x" ++ (encode_lower (to_be_bytes w32 address) ++ codes "\n")

abbrev pub stop_line : Stop → List ℕ
stop_line stops.Ended = codes "stop ended\n"
stop_line stops.EventsOut = codes "stop events\n"
stop_line stops.StepsOut = codes "stop steps\n"
stop_line (stops.Trap reason pc) = codes "stop trap " ++ (reason_word reason ++ address_end pc)

-- a given compartment
abbrev pub given_line : Interfaces → (comp : ℕ) → List ℕ
given_line interfaces comp = codes "given " ++ (comp_name interfaces comp ++ codes "\n")

-- the events of a machine run, and why it stops
abbrev pub run_text : Interfaces → List Event → Stop → List ℕ
run_text interfaces trace stop = events_text interfaces trace ++ stop_line stop

-- the last words of a line: a cause and, by its name, the line at which it came
abbrev pub cause_at_line : Cause → ℕ → List ℕ
cause_at_line cause line = codes " " ++ (cause_word cause ++ (codes " line" ++ number_end line))

-- the last words of a line: after how many events, and why
abbrev pub link_end : Link → List ℕ
link_end link = codes " after " ++ (decimal link.after ++ cause_at_line link.cause link.line)

-- which compartment's section is replaced after how many events, and what is blamed on it at which line of its section
abbrev pub link_line : Interfaces → Link → List ℕ
link_line interfaces link = codes "replace " ++ (comp_name interfaces link.comp ++ link_end link)

-- how many sections are replaced, and a line for each
abbrev pub chain_text : Interfaces → List Link → List ℕ
chain_text interfaces links = (codes "chain" ++ number_end (length links)) ++ flat_map (link_line interfaces) links

-- the events of a machine run, why it stops, the given compartments, and the chain that accounts for the run
abbrev pub explain_text : Interfaces → Explanation → List ℕ
explain_text interfaces explanation =
    (run_text interfaces explanation.trace explanation.stop ++
    flat_map (given_line interfaces) explanation.given) ++ chain_text interfaces explanation.links

-- the last words of a line: why a compartment stands trapped
abbrev pub origin_end : TrapOrigin → List ℕ
origin_end origins.Replaced = codes " replaced\n"
origin_end (origins.Blamed cause line) = cause_at_line cause line
origin_end origins.FullStack = codes " stack\n"

-- which compartment was active when a trap stopped the machine, and why
abbrev pub trapped_line : Interfaces → Trapped → List ℕ
trapped_line interfaces trapped = codes "trapped " ++ (comp_name interfaces trapped.comp ++ origin_end trapped.origin)

-- this line where a trap stopped the machine
abbrev pub trapped_text : Interfaces → Option Trapped → List ℕ
trapped_text interfaces None = []
trapped_text interfaces (Some trapped) = trapped_line interfaces trapped
