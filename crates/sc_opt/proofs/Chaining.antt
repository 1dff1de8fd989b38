-- A chain of operators goes in one pass.
use Rattle.std.proofs.Common.{Bool, List, Option, [], ap, ap₂, map, refl, ℕ, ◌∙◌, ◌∷◌, ◌≡◌}
use Rattle.sc_tac.specs.Prelude.{some_hold}
use Rattle.sc_tac.specs.declared.stmt.Constant.{Constant}
use Rattle.sc_tac.specs.declared.stmt.TacStmt.{TacStmt, TacStmt-F, fold-TacStmt, fold-roll-TacStmt, map-TacStmt}
use Rattle.sc_tac.specs.declared.stmt.TacStmt.{roll-TacStmt}
use Rattle.sc_opt.specs.Laws.{ChainGoesAtOnce, chain}
use Rattle.sc_opt.specs.Pass.{all_joined, always_word, assigned_step, copy_source, is_read, known_constant}
use Rattle.sc_opt.specs.Pass.{pass_step, passed, present, reads_within, table_of}
use Rattle.sc_opt.specs.declared.facts.Assigned.{Assigned}

-- what each statement comes to, by its layer
module _ (A : Type 0) (step : TacStmt-F A → A) where
  abbrev layered : TacStmt-F TacStmt → A
  layered k = step (map-TacStmt _ _ (fold-TacStmt A step) k)

  by_layers : (layers : List (TacStmt-F TacStmt)) →
      map (fold-TacStmt A step) (map roll-TacStmt layers) ≡ map layered layers
  by_layers [] = refl
  by_layers (k ∷ rest) = ap₂ (λ x xs. x ∷ xs) (fold-roll-TacStmt A step k) (by_layers rest)

abbrev code : List TacStmt
code = map roll-TacStmt chain

abbrev table : ℕ → Assigned
table t = all_joined (map (layered Assigned (assigned_step t)) chain)

table_is : table_of code ≡ table
table_is = λ i t. all_joined (by_layers Assigned (assigned_step t) chain i)

abbrev constants : ℕ → Option Constant
constants = known_constant table

abbrev source : ℕ → ℕ
source = copy_source table

abbrev used : ℕ → Bool
used x = some_hold (map (layered Bool (reads_within constants source x)) chain)

used_is : is_read constants source code ≡ used
used_is = λ i x. some_hold (by_layers Bool (reads_within constants source x) chain i)

abbrev passed_by : (ℕ → Assigned) → List TacStmt
passed_by table = passed (known_constant table) (copy_source table)
    (is_read (known_constant table) (copy_source table) code) (always_word code) code

pub chain_goes_at_once : ChainGoesAtOnce
chain_goes_at_once = ap passed_by table_is
    ∙ ap (λ used. passed constants source used (always_word code) code) used_is
    ∙ ap present (by_layers (Option TacStmt) (pass_step constants source used (always_word code)) chain)
