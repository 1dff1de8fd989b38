-- A run that is made by several calls, and how many steps one takes.
use Rattle.sc_machine.specs.Common.{ImageParts, ByteMemory, MachineRun, continued, run, start}
use Rattle.std.specs.Prelude.{ℕ, ◌<◌, ◌≤◌, List, fold, ◌≡◌}
use Rattle.sc_base.specs.declared.stop.Stop.TheVariants.{StepsOut}
use Rattle.sc_machine.specs.Progress.{Progress, run_of}

-- the run of a machine that was only loaded
abbrev pub loaded : ImageParts → MachineRun
loaded image = record { state = start image; stop = StepsOut }

-- the run after calls with at most these numbers of further steps
abbrev pub calls : ImageParts → List ℕ → (events : ℕ) → (steps : List ℕ) → MachineRun
calls image inputs events steps = fold (λ earlier more. continued (run image inputs events more) earlier)
    (loaded image) steps

-- since it was loaded, the machine was called with at most these numbers of further steps
abbrev pub IsCalled : {S : Type 0} → (S → ByteMemory) → Progress S → (steps : List ℕ) → Type 0
IsCalled bytes machine steps = run_of bytes machine ≡ calls machine.image machine.inputs machine.events steps

-- Of a run that may go on for `steps` steps, so many are taken: the least number after which it stands as it ends. With
-- fewer it is out of steps.
pub record IsTaken (image : ImageParts) (inputs : List ℕ) (events steps : ℕ) (earlier : MachineRun) (taken : ℕ) :
    Type 0 where
  pub few : taken ≤ steps
  pub same : continued (run image inputs events taken) earlier ≡ continued (run image inputs events steps) earlier
  pub least : (fewer : ℕ) → fewer < taken → (continued (run image inputs events fewer) earlier).stop ≡ StepsOut
