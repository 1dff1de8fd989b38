-- Laws of code: what holds of all denotations that obey holds of those of code.
use Rattle.sc_tac.specs.Common.{Arith, Event, c_arith, wrapping}
use Rattle.sc_core_laws.specs.Prelude.{AgreesInDepth, DenotationsMatch, IsArithmetic, Obedient}
use Rattle.std.specs.Prelude.{ℕ, Bool, List}
use Rattle.sc_tac.specs.declared.program.TacTree.{TacTree}
use Rattle.sc_tac.specs.Code.{code_denotations, code_run, scripted_code_run}

-- the functions of code denote such interaction trees as the laws of denotations want, and in the arithmetic that wraps
-- the same but for blames for arithmetic
pub record CodeObeys : Type 0 where
  pub itself : (arith : Arith) (program : TacTree) → Obedient (code_denotations arith program)
  pub wraps : (program : TacTree) →
      DenotationsMatch IsArithmetic (code_denotations c_arith program) (code_denotations wrapping program)

-- the arithmetic that wraps gives the same run up to the first blame for arithmetic, also where some compartments
-- perform, and no compartment gets less deep
pub record WrappedCodeAgrees : Type 0 where
  pub meaning : (program : TacTree) (inputs : List ℕ) (turns : ℕ) →
      AgreesInDepth (code_run c_arith program inputs turns) (code_run wrapping program inputs turns)
  pub scripted : (program : TacTree) (set : ℕ → Bool) (trace : List Event) (inputs : List ℕ) (turns : ℕ) →
      AgreesInDepth (scripted_code_run c_arith program inputs turns set trace)
      (scripted_code_run wrapping program inputs turns set trace)
