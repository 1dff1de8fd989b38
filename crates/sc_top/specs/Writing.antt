-- Helping: what a call leaves that writes a text.
use Rattle.sc_top.specs.Common.{Adds, Rose}
use Rattle.std.specs.Prelude.{◌≤◌, ℕ, List, Option, Result, OnOk, OnErr}
use Rattle.sc_top.specs.Answer.{Prints}

-- it was written whole where there is no error, and else a fault cut it short
pub record Wrote {T E : Type 0} (text : List ℕ) (result : Result T E)
    (written written_after : Option (List ℕ)) (faults faults_after : ℕ) : Type 0 where
  pub ok : OnOk result (Adds written written_after text)
  pub err : OnErr result (Prints text written written_after faults faults_after)
  pub fault : OnErr result (Rose faults faults_after)
  pub counted : faults ≤ faults_after
