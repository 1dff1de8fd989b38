-- What each command writes for the program of a text and its image, or for an image.
use Rattle.sc_top_words.specs.Words.{most_steps}
use Rattle.sc_base.specs.Prelude.{most_compiled, most_events, most_text}
use Rattle.sc_top.specs.Common.{Accepts, Command, Interfaces, IsCompiled, IsExplained, IsImage, IsImageExplained}
use Rattle.sc_top.specs.Common.{IsButFor, IsSource}
use Rattle.sc_compile.specs.Image.{HasParts}
use Rattle.sc_top.specs.Common.{ProgramTree, MachineRun, SourceParts, image_bytes, image_of}
use Rattle.sc_top.specs.Common.{image_interfaces, machine}
use Rattle.sc_top.specs.Common.{too_large}
use Rattle.sc_word.specs.Prelude.{word_of}
use Rattle.sc_core.specs.Prelude.{meaning}
use Rattle.sc_image.specs.Prelude.{BeginWithImage}
use Rattle.sc_image.specs.declared.parts.ImageParts.{ImageParts}
use Rattle.sc_top_words.specs.declared.command.RunOptions.{RunOptions}
use Rattle.std.specs.Prelude.{◌≡◌, ◌≤◌, ◌++◌, ℕ, Bool, true, false, IsTrue, List, [], length, map, drop, Option, Some}
use Rattle.std.specs.Prelude.{None, if◌then◌else◌}
use Rattle.std.specs.Prelude.{Ok}
use Rattle.sc_core.specs.declared.explanation.Explanation.{Explanation}
use Rattle.sc_core.specs.declared.run.SourceRun.{SourceRun}
use Rattle.sc_report.specs.Check.{check_text}
use Rattle.sc_report.specs.Made.{made_text}
use Rattle.sc_report.specs.Report.{explain_text, meaning_text, run_text, trapped_text}
use Rattle.sc_report.specs.Summary.{summary_text}
use Rattle.sc_report.specs.Verdict.{verdict_text}
use Rattle.sc_policy.specs.Prelude.{IsPolicyRead}
use Rattle.sc_policy.specs.declared.policy.Policy.{Policy}
use Rattle.sc_policy.specs.declared.read.PolicyRead.{PolicyRead}
use Rattle.sc_monitor.specs.Prelude.{verdict}
use Rattle.sc_monitor.specs.declared.verdict.Verdict.TheVariants.{Violated}
use Rattle.sc_object.specs.Prelude.{IsObjectOf, object_bytes}
use Rattle.sc_object.specs.declared.parts.ObjectParts.{ObjectParts}
use Rattle.sc_top.specs.Committed.{IsChainText, IsCommitted, text_after}
use Rattle.sc_top.specs.Objects.{HasSection, IsLinked, comp_named}
use Rattle.sc_top.specs.Tagged.{IsTagged}
use Rattle.sc_top_words.specs.declared.command.Command.TheVariants as commands
use Rattle.sc_top_words.specs.declared.command.ExplainOptions.{ExplainOptions}
use Rattle.sc_top_words.specs.declared.command.JudgeOptions.{JudgeOptions}
use Rattle.sc_top_words.specs.declared.command.MakeOptions.{MakeOptions}
use Rattle.sc_top_words.specs.declared.command.MeaningOptions.{MeaningOptions}

-- what a program means, with the turns, events and inputs of the options
abbrev pub meaning_asked : MeaningOptions → ProgramTree → SourceRun
meaning_asked options program = meaning program (map word_of options.inputs) options.turns options.events

-- the machine's run on an image
abbrev pub machine_run : RunOptions → ImageParts → MachineRun
machine_run options image = machine image (map word_of options.inputs) options.steps options.events

-- the same in words, by these names
abbrev pub machine_text : Interfaces → RunOptions → ImageParts → List ℕ
machine_text names options image = run_text names (machine_run options image).state.trace
    (machine_run options image).stop

-- the program fits, and this is its image, on which the machine does what the program says
pub record HasImage (program : ProgramTree) (image : ImageParts) : Type 0 where
  pub compiled : image_of program ≡ Ok image
  pub right : IsCompiled program image
  -- each compartment's part is that of its own section
  pub parts : HasParts program image

-- the commands that compile
abbrev pub compiles : Command → Bool
compiles commands.Check = false
compiles (commands.Meaning options) = false
compiles commands.Compile = true
compiles (commands.Object options) = true
compiles commands.Link = false
compiles (commands.Run options) = true
compiles (commands.Exec options) = false
compiles (commands.Tags options range) = false
compiles (commands.Explain options) = true
compiles (commands.Judge options) = true
compiles (commands.Make options) = false

-- a text that is accepted, whose program has the section that is asked for, and fits where it is compiled
pub record IsGoodText (command : Command) (bytes : List ℕ) : Type 0 where
  pub program : ProgramTree
  pub accepted : Accepts bytes program
  pub there : HasSection command program
  pub fits : IsTrue (compiles command) → too_large program ≡ None

-- A good text after an image, which differs from the image of the text's program in given compartments only.
pub record IsGoodWith (command : Command) (image : ImageParts) (bytes : List ℕ) : Type 0 where
  pub text : IsGoodText command bytes
  pub own : ImageParts
  pub compiled : image_of text.program ≡ Ok own
  pub given : ℕ → Bool
  pub but_for : IsButFor given own image

-- what a command writes for the program of a text and its image, where the text is all that it reads and that is no
-- account
abbrev pub output : Command → ProgramTree → ImageParts → List ℕ
output commands.Check program image = check_text program.interfaces
output (commands.Meaning options) program image = meaning_text program.interfaces (meaning_asked options program)
output commands.Compile program image = image_bytes image
output (commands.Object options) program image = []
output commands.Link program image = []
output (commands.Run options) program image = machine_text program.interfaces options image
output (commands.Exec options) program image = []
output (commands.Tags options range) program image = []
output (commands.Explain options) program image = []
output (commands.Judge options) program image = []
output (commands.Make options) program image = []

-- the bytes are an accepted text, with an image where the command compiles, and this is the output for them
pub record IsTextOutput (command : Command) (bytes text : List ℕ) : Type 0 where
  pub program : ProgramTree
  pub image : ImageParts
  pub accepted : Accepts bytes program
  pub compiled : IsTrue (compiles command) → HasImage program image
  pub written : text ≡ output command program image

-- the bytes are an accepted text, and this is the object of its section of this name
pub record IsObjectOutput (section : List ℕ) (bytes text : List ℕ) : Type 0 where
  pub program : ProgramTree
  pub accepted : Accepts bytes program
  pub comp : ℕ
  pub named : comp_named program.interfaces section ≡ Some comp
  pub object : ObjectParts
  pub is : IsObjectOf program comp object
  pub written : text ≡ object_bytes object

-- the report of a run, which says who stopped the machine if that is asked for
abbrev pub report_text : (trapped : Bool) → SourceParts → Explanation → List ℕ
report_text trapped source explanation =
    explain_text source.program.interfaces explanation ++
    (if trapped then trapped_text source.program.interfaces explanation.trapped else [])

-- this report, or one text of the chain
abbrev pub account_text : (trapped : Bool) → (show : Option ℕ) → SourceParts → Explanation → List ℕ
account_text trapped None source explanation = report_text trapped source explanation
account_text trapped (Some links) source explanation = text_after source explanation links

-- what `explain` writes
abbrev pub account : ExplainOptions → SourceParts → Explanation → List ℕ
account options source explanation = account_text options.trapped options.show source explanation

-- the machine's trace on the image of a text's program, or on this image, is explained by a chain of texts
abbrev pub IsExplainedOn : Option ImageParts → SourceParts → RunOptions → Explanation → Type 0
IsExplainedOn None source options explanation =
    IsExplained source (map word_of options.inputs) options.steps options.events explanation
IsExplainedOn (Some image) source options explanation =
    IsImageExplained source image (map word_of options.inputs) options.steps options.events explanation

-- the bytes are an accepted text, and the machine's trace is so explained
pub record HasAccount (options : RunOptions) (image : Option ImageParts) (bytes : List ℕ) : Type 0 where
  pub source : SourceParts
  pub parts : IsSource source
  pub whole : source.bytes ≡ bytes
  pub explanation : Explanation
  pub explained : IsExplainedOn image source options explanation
  -- each text of the chain is accepted and means what its place in the chain says
  pub texts : (links : ℕ) → IsChainText source (map word_of options.inputs) options.steps explanation links
  -- and none is longer than `meaning` takes
  pub short : (links : ℕ) → length (text_after source explanation links) ≤ most_text

-- the trace is that of the image of the text's program
abbrev pub HasExplanation : RunOptions → List ℕ → Type 0
HasExplanation options bytes = HasAccount options None bytes

-- an image stands before the text, which isn't too long to be compiled
pub record HasImageBefore (bytes : List ℕ) (image : Option ImageParts) (text : List ℕ) : Type 0 where
  pub front : BeginWithImage bytes
  pub is : image ≡ Some front.image
  pub rest : text ≡ drop front.place bytes
  pub short : length text ≤ most_compiled

-- the bytes are an image and then the text, or the text alone
abbrev pub AreImageAndText : (with_image : Bool) → List ℕ → Option ImageParts → List ℕ → Type 0
AreImageAndText true bytes image text = HasImageBefore bytes image text
AreImageAndText false bytes image text = (image ≡ None) × (text ≡ bytes)

-- the account of the text in the bytes, by the image before it if one is asked for
pub record HasAccountIn (with_image : Bool) (options : RunOptions) (bytes : List ℕ) : Type 0 where
  pub image : Option ImageParts
  pub text : List ℕ
  pub are : AreImageAndText with_image bytes image text
  pub has : HasAccount options image text

-- this is the account of it
pub record IsAccounted (options : ExplainOptions) (bytes text : List ℕ) : Type 0 where
  pub found : HasAccountIn options.image options.run bytes
  pub written : text ≡ account options found.has.source found.has.explanation

-- what `judge` writes: the report, and what the policy says of the trace
abbrev pub judge_text : Policy → (trapped : Bool) → SourceParts → Explanation → List ℕ
judge_text policy trapped source explanation =
    report_text trapped source explanation ++
    verdict_text policy.states source.program.interfaces (verdict policy source.program.interfaces explanation)

-- The bytes begin with a policy, the text in those that follow is explained, and this is the report with the policy's
-- verdict. A violation is committed in the chain: in one of its texts, by source code where the compartment isn't
-- compromised.
pub record IsJudged (options : JudgeOptions) (bytes text : List ℕ) : Type 0 where
  pub read : PolicyRead
  pub is : IsPolicyRead bytes read
  pub found : HasAccountIn options.image options.run (drop read.rest bytes)
  pub written : text ≡ judge_text read.policy options.trapped found.has.source found.has.explanation
  pub committed : (after comp rule : ℕ) (compromised : Bool) →
      verdict read.policy found.has.source.program.interfaces found.has.explanation ≡
      Violated after comp rule compromised →
      IsCommitted found.has.source (map word_of options.run.inputs) options.run.steps found.has.explanation after comp
      compromised

-- the bytes are those of an image, and the text reports the machine's run on it, by the image's own names
pub record IsExecuted (options : RunOptions) (bytes text : List ℕ) : Type 0 where
  pub read : IsImage bytes
  pub written : text ≡ machine_text (image_interfaces read.image) options read.image

-- the text of a made program is good input of every command that takes a text and asks for no section but one that the
-- program has, and no longer than any of them takes
pub record IsMadeText (options : MakeOptions) (text : List ℕ) : Type 0 where
  pub written : text ≡ made_text options.size options.seed
  pub good : (command : Command) → ((program : ProgramTree) → Accepts text program → HasSection command program) →
      IsGoodText command text
  pub short : length text ≤ most_compiled

-- the machine's trace on the image of a made program is explained by a chain of texts, and the text sums it up
pub record IsSummary (options : MakeOptions) (text : List ℕ) : Type 0 where
  pub source : SourceParts
  pub parts : IsSource source
  pub made : source.bytes ≡ made_text options.size options.seed
  pub explanation : Explanation
  pub explained : IsExplained source [] most_steps most_events explanation
  pub written : text ≡ summary_text options.size source.program.interfaces explanation

abbrev pub IsMadeBy : (summary : Bool) → MakeOptions → List ℕ → Type 0
IsMadeBy true options text = IsSummary options text
IsMadeBy false options text = IsMadeText options text

-- what `make` writes
abbrev pub IsMade : MakeOptions → List ℕ → Type 0
IsMade options text = IsMadeBy options.summary options text

-- the text is the command's output for these bytes
abbrev pub IsOutput : Command → List ℕ → List ℕ → Type 0
IsOutput (commands.Explain options) bytes text = IsAccounted options bytes text
IsOutput (commands.Judge options) bytes text = IsJudged options bytes text
IsOutput (commands.Exec options) bytes text = IsExecuted options bytes text
IsOutput (commands.Tags options range) bytes text = IsTagged options range bytes text
IsOutput (commands.Make options) bytes text = IsMade options text
IsOutput commands.Check bytes text = IsTextOutput commands.Check bytes text
IsOutput (commands.Meaning options) bytes text = IsTextOutput (commands.Meaning options) bytes text
IsOutput commands.Compile bytes text = IsTextOutput commands.Compile bytes text
IsOutput (commands.Object options) bytes text = IsObjectOutput options.section bytes text
IsOutput commands.Link bytes text = IsLinked bytes text
IsOutput (commands.Run options) bytes text = IsTextOutput (commands.Run options) bytes text
