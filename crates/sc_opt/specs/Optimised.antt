-- Passes over the code of a function until one changes nothing, for each function of a program.
use Rattle.std.specs.Prelude.{ℕ, zero, suc, ◌==◌, if◌then◌else◌, List, map}
use Rattle.sc_core.specs.Prelude.{total}
use Rattle.sc_tac.specs.Prelude.{parts, weight}
use Rattle.sc_tac.specs.declared.function.TacFnTree.{TacFnTree}
use Rattle.sc_tac.specs.declared.program.TacSection.{TacSection}
use Rattle.sc_tac.specs.declared.program.TacTree.{TacTree}
use Rattle.sc_tac.specs.declared.stmt.TacStmt.{TacStmt, TacStmt-F, fold-TacStmt}
use Rattle.sc_opt.specs.Pass.{one_pass}

-- one pass, and where it takes weight away at most this number of further ones
abbrev pub optimised_within : ℕ → List TacStmt → List TacStmt
optimised_within zero body = one_pass body
optimised_within (suc passes) body =
    if weight (one_pass body) == weight body then one_pass body else optimised_within passes (one_pass body)

-- passes until one takes no weight away
abbrev pub optimised : List TacStmt → List TacStmt
optimised body = optimised_within (weight body) body

module _ (change : List TacStmt → List TacStmt) where
  abbrev pub changed_function : TacFnTree → TacFnTree
  changed_function f = record f { body = change f.body }

  abbrev pub changed_section : TacSection → TacSection
  changed_section section = record section { functions = map changed_function section.functions }

  abbrev pub changed_program : TacTree → TacTree
  changed_program program = record program { sections = map changed_section program.sections }

abbrev pub optimised_function : TacFnTree → TacFnTree
optimised_function = changed_function optimised

abbrev pub optimised_section : TacSection → TacSection
optimised_section = changed_section optimised

abbrev pub optimised_program : TacTree → TacTree
optimised_program = changed_program optimised

-- how many statements stand in code, with those inside
abbrev pub statement_step : TacStmt-F ℕ → ℕ
statement_step stmt = suc (total (map total (parts stmt)))

abbrev pub stmt_statements : TacStmt → ℕ
stmt_statements = fold-TacStmt ℕ statement_step

abbrev pub statements : List TacStmt → ℕ
statements stmts = total (map stmt_statements stmts)
