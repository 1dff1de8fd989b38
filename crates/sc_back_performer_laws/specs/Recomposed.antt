-- The sections of a text in which those of some compartments are replaced by ones that perform their parts of a trace.
use Rattle.sc_back_performer_laws.specs.Common.{AllBecome, Event, HasWords, IsRecomposed, IsTyped, ProgramTree}
use Rattle.sc_back_performer_laws.specs.Common.{SectionTree, legal, most_events, part, program_of}
use Rattle.std.specs.Prelude.{◌≡◌, ℕ, ◌<◌, ◌≤◌, Bool, true, List, length, All}

-- a trace that is not too long, which the interfaces allow, with values of 32 bits
pub record IsPerformable (program : ProgramTree) (trace : List Event) : Type 0 where
  pub is_legal : legal program.interfaces trace ≡ true
  pub words : All HasWords trace
  pub few : length trace ≤ most_events

-- the sections of a program, and those that come of them where the compartments of a set perform a trace
pub record AreRecomposed (olds news : List SectionTree) (program : ProgramTree) (set : ℕ → Bool)
    (trace : List Event) : Type 0 where
  pub typed : IsTyped olds program
  pub performable : IsPerformable program trace
  pub within : (comp : ℕ) → set comp ≡ true → comp < length olds
  pub become : AllBecome program.interfaces (λ comp. part program.interfaces.main comp trace) set 0 olds news

-- the new sections are a program, and that one is the old program recomposed
abbrev pub RecomposedHold : Type 0
RecomposedHold = (olds news : List SectionTree) (program : ProgramTree) (set : ℕ → Bool) (trace : List Event) →
    AreRecomposed olds news program set trace →
    IsTyped news (program_of news) × IsRecomposed program (program_of news) set trace
