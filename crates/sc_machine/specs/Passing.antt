-- What is called, and what passes in the registers.
use Rattle.sc_base.specs.Prelude.{most_params}
use Rattle.sc_machine.specs.Common.{ImageParts, cleared_for_call, cleared_for_return, comp_of_code, entered_export}
use Rattle.sc_machine.specs.Common.{gate}
use Rattle.sc_machine.specs.Common.{may_call_export, export_params, ra, sp, written}
use Rattle.std.specs.Prelude.{◌≡◌, ◌<◌, ◌≤◌, ℕ, suc, Bool, true, List, [], ◌∷◌, All, length, Some}
use Rattle.sc_machine.specs.declared.calling.Callee.{Callee}
use Rattle.sc_registers.specs.declared.registers.Core.{Core}

-- a function that the caller may call, with the address that it begins at
pub record IsCallee (image : ImageParts) (caller : ℕ) (callee : Callee) : Type 0 where
  pub comp : callee.comp ≡ comp_of_code callee.entry
  pub within : callee.comp < length image.comps
  pub index : entered_export image callee.comp callee.entry ≡ Some callee.index
  pub params : callee.params ≡ export_params image callee.comp callee.index
  pub few : callee.params ≤ most_params
  pub may : may_call_export image caller callee.comp callee.index ≡ true

-- functions that the compartments from number c on may call
abbrev pub AreCallees : ImageParts → ℕ → List (List Callee) → Type 0
AreCallees image c [] = Unit {0}
AreCallees image c (callees ∷ others) = All (IsCallee image c) callees × AreCallees image (suc c) others

-- the registers that a function is entered with, and the pc there
abbrev pub entered : Core → (params stack entry : ℕ) → Core
entered core params stack entry =
    record { registers = written (written (cleared_for_call params core.registers) ra gate) sp stack; pc = entry }

-- and those that a caller goes on with
abbrev pub resumed : Core → (has_result : Bool) → (stack pc : ℕ) → Core
resumed core has_result stack pc = record {
  registers = written (cleared_for_return has_result core.registers) sp stack;
  pc = pc;
}
