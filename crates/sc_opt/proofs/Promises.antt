-- The promises.
use Rattle.std.proofs.Common.{List, None, Option, Some, [], ap, map, refl, slice_get, subst, suc, sym, true, zero, ℕ}
use Rattle.std.proofs.Common.{◌∙◌}
use Rattle.std.proofs.Common.{◌∷◌, ◌≡◌}
use Rattle.std.proofs.lemmas.Option.{same_Some, slice_get-map}
use Rattle.std.specs.Option.{option_map}
use Rattle.sc_core_laws.specs.Prelude.{Meets}
use Rattle.sc_tac.specs.Prelude.{IsFunction}
use Rattle.sc_tac.specs.declared.function.TacFnTree.{TacFnTree}
use Rattle.sc_tac.specs.declared.program.TacSection.{TacSection}
use Rattle.sc_tac.specs.declared.program.TacTree.{TacTree}
use Rattle.sc_opt.specs.Laws.{EachFunction, KeepsFunction, KeepsSection, OptimiserKeepsMeaning}
use Rattle.sc_opt.specs.Laws.{OptimiserKeepsRules, OptimiserKeepsShape, ResultsAreLean}
use Rattle.sc_opt.specs.Optimised.{optimised, optimised_function, optimised_program, optimised_section}
use Rattle.sc_opt.specs.Pass.{lean}
use Rattle.sc_opt.proofs.Passes.{fewer_branches, fewer_statements, keeps_statements, optimised_is_lean}
use Rattle.sc_opt.proofs.Passes.{optimised_keeps_rules}
use Rattle.sc_opt.proofs.Programs.{c_runs_alike, wrapping_runs_alike}
use Rattle.sc_opt.proofs.ProgramRules.{program_keeps_rules}

pub optimiser_keeps_meaning : OptimiserKeepsMeaning
optimiser_keeps_meaning = record { of_c = c_runs_alike; of_wrapping = wrapping_runs_alike }

-- what stands in a list that was mapped stood in the list
record Mapped {X : Type 0} (f : X → X) (xs : List X) (i : ℕ) (y : X) : Type 0 where
  before : X
  found : slice_get xs i ≡ Some before
  same : f before ≡ y

mapped : {X : Type 0} (f : X → X) (xs : List X) (i : ℕ) (y : X) → slice_get (map f xs) i ≡ Some y → Mapped f xs i y
mapped f [] i y e = absurd (cc e)
mapped f (x ∷ xs) zero y e = record { before = x; found = refl; same = same_Some (f x) y e }
mapped f (x ∷ xs) (suc i) y e =
    let rest = mapped f xs i y e in record { before = rest.before; found = rest.found; same = rest.same }

-- what optimising a function establishes, holds of each function of the result
each_optimised : (P Q : TacFnTree → Type 0) → ((f : TacFnTree) → P f → Q (optimised_function f)) →
    (program : TacTree) → EachFunction P program → EachFunction Q (optimised_program program)
each_optimised P Q step program all comp number section f is at =
    let one = mapped optimised_section program.sections comp section is in
    let two = mapped {X = TacFnTree} optimised_function one.before.functions number f
    (ap (λ (s : TacSection). slice_get s.functions number) one.same ∙ at) in
    subst Q two.same (step two.before (all comp number one.before two.before one.found two.found))

pub results_are_lean : ResultsAreLean
results_are_lean program rules =
    each_optimised IsFunction (λ f. lean f.body ≡ true) optimised_is_lean program rules.functions

pub optimiser_keeps_rules : OptimiserKeepsRules
optimiser_keeps_rules program rules = record {
  rules = program_keeps_rules optimised program keeps_statements rules.rules;
  functions = each_optimised IsFunction IsFunction optimised_keeps_rules program rules.functions;
}

function_kept : (f : TacFnTree) → KeepsFunction f (optimised_function f)
function_kept f = record {
  comp = refl;
  name = refl;
  entry = refl;
  params = refl;
  result = refl;
  temps = refl;
  objects = refl;
  nodes = refl;
  statements = fewer_statements f.body;
  branches = fewer_branches f.body;
}

functions_meet : (f : Option TacFnTree) → Meets KeepsFunction f (option_map optimised_function f)
functions_meet None = tt
functions_meet (Some f) = function_kept f

section_kept : (section : TacSection) → KeepsSection section (optimised_section section)
section_kept section = record {
  structs = refl;
  globals = refl;
  functions = λ number. subst (Meets KeepsFunction (slice_get section.functions number))
      (sym (slice_get-map optimised_function section.functions number))
      (functions_meet (slice_get section.functions number));
}

sections_meet : (section : Option TacSection) → Meets KeepsSection section (option_map optimised_section section)
sections_meet None = tt
sections_meet (Some section) = section_kept section

pub optimiser_keeps_shape : OptimiserKeepsShape
optimiser_keeps_shape program = record {
  interfaces = refl;
  sections = λ comp. subst (Meets KeepsSection (slice_get program.sections comp))
      (sym (slice_get-map optimised_section program.sections comp))
      (sections_meet (slice_get program.sections comp));
}
