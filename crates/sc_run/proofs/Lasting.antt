-- A run always has numbers for the blocks that are made, and ends.
use Rattle.sc_run.proofs.Common.{Begun, Callee, Frame, Go, Leave, List, Memory, Now, ProgramTree, Run as Run', Seen}
use Rattle.sc_run.proofs.Common.{Step, Work, [], ap, arith, globals_of, length, refl, slice_get, ℕ, ◌<◌, ◌≡◌, ◌≤◌}
use Rattle.std.proofs.Common.{◌^◌}
use Rattle.sc_core.specs.Prelude.{IsWellTyped}
use Rattle.sc_run.proofs.Calling.{begun_blocks}
use Rattle.sc_run.proofs.Counts.{few_at}
use Rattle.sc_run.proofs.Whole.{Since}
use Rattle.sc_run.specs.Numbers.{HasFewVariables}
use Rattle.sc_run.specs.Weights.{AnotherSuffices, Falls, NumbersLast, StepFalls, body_weight, left, now_weight}

-- a run that goes on stands where it should, and its numbers last
pub record Underway (program : ProgramTree) (first : Now) (begun : Seen) (f : Frame) (now : Now) (seen : Seen)
    (work : List Work) (g : Frame) : Type 0 where
  pub since : Since program first begun f now seen work g
  pub numbers : NumbersLast (now_weight now) seen work

-- a block more has a number
pub another_suffices : (now : Now) {seen : Seen} {work : List Work} → NumbersLast (now_weight now) seen work →
    AnotherSuffices seen
another_suffices (Run' stmts) h = λ comp. omega (arith, h.numbers comp)
another_suffices (Leave exit) h = λ comp. omega (arith, h.numbers comp)

-- it has one after turns were taken, and no block was made
pub number_left : (before after : Seen) → after.turns ≤ before.turns →
    ((comp : ℕ) → length (after.memory comp) ≤ length (before.memory comp)) → AnotherSuffices before →
    AnotherSuffices after
number_left before after fewer lengths h = λ comp. omega (arith, fewer, lengths comp, h comp)

module _ {cost : ℕ} {seen later : Seen} {work last : List Work} {step : Step} {next : Now}
    (falls : StepFalls cost seen work step later last) (goes : step ≡ Go next) where
  fallen : Falls cost seen work (now_weight next) later last
  fallen = falls.falls_to next goes

  -- they last after a step
  pub lasts_after : NumbersLast cost seen work → NumbersLast (now_weight next) later last
  lasts_after h =
      record {
        numbers = λ comp. omega (arith, h.numbers comp, fallen.lengths comp);
        light = fallen.light;
        waiting = fallen.waiting;
      }

  pub less_after : left (now_weight next) later last < left cost seen work
  less_after = fallen.less

-- they last at the start
pub lasts_at_first : (program : ProgramTree) → IsWellTyped program → {callee : Callee} {before after : Seen}
    {f : Frame} → before.memory ≡ globals_of program.sections → before.turns < 2 ^ 32 →
    HasFewVariables callee.structs.now callee.function.now → Begun callee [] before after f →
    NumbersLast (body_weight f.function.now) after []
lasts_at_first program typed {before} is below few b =
    let short = ap (λ x. body_weight x.now) b.function in
    record {
      numbers = λ comp. omega (
        arith,
        below,
        short,
        few.short,
        ap (λ x. x.turns) b.seen,
        begun_blocks b few comp,
        ap (λ (m : Memory). length (m comp)) is,
        few_at program typed comp (slice_get program.sections comp) refl,
      );
      light = omega (arith, short, few.short);
      waiting = tt;
    }
