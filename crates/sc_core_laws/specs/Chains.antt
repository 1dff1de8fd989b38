-- Runs in which the compartments of a set perform their parts of a trace, and the chain of sets that leads to it.
use Rattle.sc_core_laws.specs.Common.{Arith, Blamed, Cause, Event, IsPrefix, ProgramTree, SourceRun, TurnsOut}
use Rattle.sc_core_laws.specs.Common.{scripted_by}
use Rattle.std.specs.Prelude.{◌≡◌, ℕ, zero, suc, ◌+◌, ◌<◌, ◌≤◌, Bool, true, false, if◌then◌else◌, ◌||◌, ◌==◌, List, []}
use Rattle.std.specs.Prelude.{◌∷◌, ◌++◌, length}

-- the second run emits an event more than the first, or ends right there for want of a turn or of a row
pub data PassesBlame (run other : SourceRun) : Type 0 where
  turnless : other ≡ record { trace = run.trace; end = TurnsOut } → PassesBlame run other
  longer : (event : Event) → IsPrefix (run.trace ++ event ∷ []) other.trace → PassesBlame run other

-- sets of compartments
abbrev pub CompSet : Type 0
CompSet = ℕ → Bool

abbrev pub IsSubset : CompSet → CompSet → Type 0
IsSubset small large = (comp : ℕ) → small comp ≡ true → large comp ≡ true

abbrev pub nobody : CompSet
nobody comp = false

abbrev pub with : ℕ → CompSet → CompSet
with more set comp = comp == more || set comp

-- the number of compartments below a bound that are not in a set
abbrev pub count_outside : CompSet → ℕ → ℕ
count_outside set zero = 0
count_outside set (suc bound) = (if set bound then 0 else 1) + count_outside set bound

-- a compartment that was blamed after `after` events, and why
pub record BlameLink : Type 0 where
  pub comp : ℕ
  pub after : ℕ
  pub cause : Cause
  pub line : ℕ

-- the run is blamed so, while it keeps to the trace
pub record IsLink (run : SourceRun) (trace : List Event) (link : BlameLink) : Type 0 where
  pub blamed : run.end ≡ Blamed link.comp link.cause link.line
  pub prefix : IsPrefix run.trace trace
  pub after : length run.trace ≡ link.after

-- the run is blamed on a compartment below this number that isn't of the set, while it keeps to the trace
pub record IsBlamedOutside (count : ℕ) (set : CompSet) (run : SourceRun) (trace : List Event) : Type 0 where
  pub comp : ℕ
  pub cause : Cause
  pub line : ℕ
  pub compartment : comp < count
  pub outside : set comp ≡ false
  pub blamed : run.end ≡ Blamed comp cause line
  pub prefix : IsPrefix run.trace trace

-- the run in which a set performs its part of a trace, stopped where it has as many events as the trace
abbrev pub performed : Arith → ProgramTree → List ℕ → ℕ → List Event → CompSet → SourceRun
performed arith program inputs turns trace set = scripted_by arith program set trace inputs turns (length trace)

-- by the runs in which sets perform
module _ (runs : CompSet → SourceRun) (trace : List Event) where
  -- from this set on, each next run keeps to the trace until it is blamed, and then the blamed compartment performs
  -- too; the last run emits the trace
  abbrev pub IsBlameChain : CompSet → List BlameLink → Type 0
  IsBlameChain set [] = (runs set).trace ≡ trace
  IsBlameChain set (link ∷ links) = IsLink (runs set) trace link × IsBlameChain (with link.comp set) links

-- the blames come after ever more events, at least `least` before the first, and after fewer than `count`
abbrev pub IsRising : (least count : ℕ) → List BlameLink → Type 0
IsRising least count [] = Unit {0}
IsRising least count (link ∷ links) =
    (least ≤ link.after) × (link.after < count) × IsRising (suc link.after) count links

-- no compartment is of the set, and none is blamed twice
abbrev pub AreFresh : CompSet → List BlameLink → Type 0
AreFresh set [] = Unit {0}
AreFresh set (link ∷ links) = (set link.comp ≡ false) × AreFresh (with link.comp set) links

-- all blamed compartments are in the set
abbrev pub HasAllBlamed : CompSet → List BlameLink → Type 0
HasAllBlamed set [] = Unit {0}
HasAllBlamed set (link ∷ links) = (set link.comp ≡ true) × HasAllBlamed set links
