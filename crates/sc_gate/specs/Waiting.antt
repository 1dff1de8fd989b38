-- The calls of other compartments that haven't returned, as contracts see them.
use Rattle.sc_image.specs.Prelude.{Crossing}
use Rattle.std.specs.Prelude.{List, None, Option, Some, [], if◌then◌else◌, length, nat_eq, ℕ, ◌∷◌}
use Rattle.sc_gate.specs.declared.entry.CrossEntry.{CrossEntry}

pub record Waiting : Type 0 where
  -- the latest call first
  pub calls : List Crossing
  -- how many more fit
  pub room : ℕ

-- the call of a level, where these are kept, the latest first: each has as its level how many were kept before it
abbrev pub call_at : List Crossing → (level : ℕ) → Option Crossing
call_at [] level = None
call_at (crossing ∷ earlier) level = if nat_eq level (length earlier) then Some crossing else call_at earlier level

-- the call that an entry keeps
abbrev pub crossing_of : CrossEntry → Crossing
crossing_of entry = record {
  caller = entry.caller;
  pc = entry.pc;
  sp = entry.sp;
  callee = entry.callee;
  entry = entry.entry;
  saved = entry.saved;
}
