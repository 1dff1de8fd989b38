-- Helping: functions that are looked up.
use Rattle.sc_run.specs.Common.{Callee, ProgramTree, c_arith, entry_in, function, function_of}
use Rattle.std.specs.Prelude.{◌≡◌, ℕ, Option, None, Some}
use Rattle.sc_event.specs.declared.row.Entry.{Entry}
use Rattle.sc_run.specs.Resume.{denotations}

-- the function of a compartment at a place, if there is one
abbrev pub FoundAt : ProgramTree → ℕ → ℕ → Option Callee → Type 0
FoundAt program comp number None = function (denotations program) comp number ≡ None
FoundAt program comp number (Some callee) =
    (callee.comp.now ≡ comp) × (callee.number ≡ number) ×
    (function (denotations program) callee.comp.now callee.number ≡
    Some (function_of c_arith program.interfaces.main callee.structs.now callee.function.now))

-- the function that an entry of a compartment leads to, if there is one
abbrev pub EntryAt : ProgramTree → ℕ → Entry → Option Callee → Type 0
EntryAt program comp entry None =
    (number : ℕ) → entry_in program comp entry ≡ Some number → function (denotations program) comp number ≡ None
EntryAt program comp entry (Some callee) =
    (entry_in program comp entry ≡ Some callee.number) × FoundAt program comp callee.number (Some callee)
