-- Helping: texts as commands read them, and what comes of compiling them.
use Rattle.sc_base.specs.Prelude.{most_events}
use Rattle.sc_top.specs.Common.{Command, CompileFault, Fails, Interfaces, IsAnotherProgram, ProgramTree, comp_at}
use Rattle.std.specs.Prelude.{◌≡◌, ◌≤◌, ◌+◌, ℕ, Bool, List, All, Option, None, Some, IsSome, length}
use Rattle.sc_image.specs.declared.parts.ImageParts.{ImageParts}
use Rattle.sc_compile.specs.declared.fault.CompileFault.TheVariants as compiling
use Rattle.sc_report_made.specs.Laws.{IsAsked}
use Rattle.sc_top.specs.Output.{HasAccountIn}
use Rattle.sc_top.specs.declared.account.Account.{Account}
use Rattle.sc_top.specs.declared.failure.Failure.{Failure}
use Rattle.sc_top.specs.declared.failure.Failure.TheVariants.{Refused, TooLarge, TooLong, OutOfMemory, Differs}
use Rattle.sc_top.specs.declared.status.TooLarge as large
use Rattle.sc_top.specs.Large.{by_name, large_in}
use Rattle.sc_top_words.specs.declared.command.Command.TheVariants as commands
use Rattle.sc_top_words.specs.declared.command.RunOptions.{RunOptions}
use Rattle.sc_tags.specs.Prelude.{IsWithinAddresses}
use Rattle.sc_top.specs.Tagged.{ranges_of}

-- why a text isn't read as a program
abbrev pub IsReading : List ℕ → Failure → Type 0
IsReading bytes (Refused refusal) = Fails bytes refusal.phase refusal.line
IsReading bytes OutOfMemory = Unit {0}
IsReading bytes _ = ⊥

-- the options of `explain` and `judge` allow so few events that compartments can perform them, those of `make` are such
-- that programs are made from them, and those of `tags` name no byte beyond the last address
abbrev pub IsBounded : Command → Type 0
IsBounded (commands.Explain options) = options.run.events ≤ most_events
IsBounded (commands.Judge options) = options.run.events ≤ most_events
IsBounded (commands.Make options) = IsAsked options.size options.seed
IsBounded (commands.Tags options range) = All IsWithinAddresses (ranges_of range)
IsBounded command = Unit {0}

-- why a text of at most so many bytes isn't read as a program
abbrev pub IsLimited : (within : ℕ) → List ℕ → Failure → Type 0
IsLimited within bytes (TooLong limit) = (within ≡ limit) × (within + 1 ≤ length bytes)
IsLimited within bytes (Refused refusal) = (length bytes ≤ within) × Fails bytes refusal.phase refusal.line
IsLimited within bytes OutOfMemory = Unit {0}
IsLimited within bytes _ = ⊥

-- this is the account of the text in the bytes
pub record IsAccountFor (options : RunOptions) (with_image : Bool) (bytes : List ℕ) (account : Account) : Type 0 where
  pub found : HasAccountIn with_image options bytes
  pub source : found.has.source ≡ account.source
  pub explanation : found.has.explanation ≡ account.explanation

-- the compartment that a fault names is there
abbrev pub IsNamed : Interfaces → CompileFault → Type 0
IsNamed interfaces (compiling.CodeTooLarge comp bound) = IsSome (comp_at interfaces comp)
IsNamed interfaces (compiling.DataTooLarge comp bytes) = IsSome (comp_at interfaces comp)
IsNamed interfaces (compiling.FrameTooLarge comp function bound) = IsSome (comp_at interfaces comp)
IsNamed interfaces compiling.OutOfMemory = Unit {0}

abbrev pub of_large : Option large.TooLarge → Failure
of_large None = OutOfMemory
of_large (Some fault) = TooLarge fault

-- a fault of the compiler, by the names of the program
abbrev pub of_compile_fault : Interfaces → CompileFault → Failure
of_compile_fault interfaces fault = of_large (by_name interfaces fault)

-- why a program isn't compiled
abbrev pub IsCompiling : ProgramTree → Failure → Type 0
IsCompiling program (TooLarge fault) = large_in program ≡ Some fault
IsCompiling program OutOfMemory = Unit {0}
IsCompiling program _ = ⊥

-- why a run of an image isn't explained by a program
abbrev pub IsAnotherCompiling : ProgramTree → ImageParts → Failure → Type 0
IsAnotherCompiling program image (TooLarge fault) = large_in program ≡ Some fault
IsAnotherCompiling program image Differs = IsAnotherProgram program image
IsAnotherCompiling program image OutOfMemory = Unit {0}
IsAnotherCompiling program image _ = ⊥
