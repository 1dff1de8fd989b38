-- The statuses' numbers and texts.
use Rattle.sc_top.specs.Common.{Refusal}
use Rattle.sc_top_words.specs.Prelude.{usage_text}
use Rattle.std.specs.Prelude.{ℕ, List, [], ◌++◌, codes, decimal}
use Rattle.sc_lex.specs.declared.refusal.Phase.{Phase}
use Rattle.sc_lex.specs.declared.refusal.Phase.TheVariants as phase
use Rattle.sc_top.specs.declared.status.BadJoin as join
use Rattle.sc_top.specs.declared.status.BadJoin.TheVariants as joined
use Rattle.sc_top.specs.declared.status.TooLarge as large
use Rattle.sc_top.specs.declared.status.TooLarge.TheVariants as which
use Rattle.sc_top.specs.declared.status.Status.{Status}
use Rattle.sc_top.specs.declared.status.Status.TheVariants.{Done, Usage, Refused, TooLarge, TooLong, BadImage}
use Rattle.sc_top.specs.declared.status.Status.TheVariants.{ReadFault, WriteFault, OutOfMemory, BadObject}
use Rattle.sc_top.specs.declared.status.Status.TheVariants.{BadJoin, NoSection, BadPolicy, Differs}

abbrev pub status_number : Status → ℕ
status_number Done = 0
status_number Usage = 2
status_number (Refused refusal) = 3
status_number (TooLarge fault) = 4
status_number (TooLong limit) = 5
status_number (BadImage cause) = 6
status_number ReadFault = 7
status_number WriteFault = 8
status_number OutOfMemory = 9
status_number (BadObject index cause) = 11
status_number (BadJoin fault) = 12
status_number (NoSection name) = 13
status_number (BadPolicy line) = 14
status_number Differs = 15

abbrev pub phase_word : Phase → List ℕ
phase_word phase.Lex = codes "lex"
phase_word phase.Syntax = codes "syntax"
phase_word phase.Names = codes "names"
phase_word phase.Types = codes "types"
phase_word phase.Interface = codes "interface"
phase_word phase.Count = codes "count"

-- a phase and a line, as the last things of a line
abbrev pub refusal_text : Refusal → List ℕ
refusal_text refusal = phase_word refusal.phase ++ (codes " line " ++ (decimal refusal.line ++ codes "\n"))

-- what is too large, in a word
abbrev pub kind_text : large.TooLarge → List ℕ
kind_text (which.Code comp number) = codes "code of "
kind_text (which.Globals comp number) = codes "data of "
kind_text (which.Frame comp function number) = codes "frame of "

-- whose it is, by names with a blank after each
abbrev pub owner_text : large.TooLarge → List ℕ
owner_text (which.Code comp number) = comp ++ codes " "
owner_text (which.Globals comp number) = comp ++ codes " "
owner_text (which.Frame comp function number) = (comp ++ codes " ") ++ (function ++ codes " ")

abbrev pub bytes_of : large.TooLarge → ℕ
bytes_of (which.Code comp number) = number
bytes_of (which.Globals comp number) = number
bytes_of (which.Frame comp function number) = number

-- what is too large, whose it is, and its bytes, as the last things of a line
abbrev pub large_text : large.TooLarge → List ℕ
large_text fault = kind_text fault ++ (owner_text fault ++ (decimal (bytes_of fault) ++ codes "\n"))

-- why objects aren't linked, in words
abbrev pub join_text : join.BadJoin → List ℕ
join_text (joined.Differ second) = codes "secomp: objects differ 0 "
join_text (joined.Twice comp) = codes "secomp: object twice "
join_text (joined.Missing comp) = codes "secomp: object missing "

-- and which object or compartment that concerns, as the last thing of a line
abbrev pub joined_text : join.BadJoin → List ℕ
joined_text (joined.Differ second) = decimal second ++ codes "\n"
joined_text (joined.Twice comp) = comp ++ codes "\n"
joined_text (joined.Missing comp) = comp ++ codes "\n"

-- the index of an object and the number of a cause, as the last things of a line
abbrev pub object_text : (index cause : ℕ) → List ℕ
object_text index cause = decimal index ++ (codes " " ++ (decimal cause ++ codes "\n"))

-- what stands of every status of a kind
abbrev pub fixed_text : Status → List ℕ
fixed_text Done = []
fixed_text Usage = usage_text
fixed_text (Refused refusal) = codes "secomp: refused "
fixed_text (TooLarge fault) = codes "secomp: too large "
fixed_text (TooLong limit) = codes "secomp: too long "
fixed_text (BadImage cause) = codes "secomp: bad image "
fixed_text ReadFault = codes "secomp: read fault\n"
fixed_text WriteFault = codes "secomp: write fault\n"
fixed_text OutOfMemory = codes "secomp: out of memory\n"
fixed_text (BadObject index cause) = codes "secomp: bad object "
fixed_text (BadJoin fault) = join_text fault
fixed_text (NoSection name) = codes "secomp: no section "
fixed_text (BadPolicy line) = codes "secomp: bad policy line "
fixed_text Differs = codes "secomp: image differs\n"

-- what follows it
abbrev pub own_text : Status → List ℕ
own_text (Refused refusal) = refusal_text refusal
own_text (TooLarge fault) = large_text fault
own_text (TooLong limit) = decimal limit ++ codes "\n"
own_text (BadImage cause) = decimal cause ++ codes "\n"
own_text (BadObject index cause) = object_text index cause
own_text (BadJoin fault) = joined_text fault
own_text (NoSection name) = name ++ codes "\n"
own_text (BadPolicy line) = decimal line ++ codes "\n"
own_text Done = []
own_text Usage = []
own_text ReadFault = []
own_text WriteFault = []
own_text OutOfMemory = []
own_text Differs = []

-- what is written of a status to standard error
abbrev pub status_text : Status → List ℕ
status_text status = fixed_text status ++ own_text status
