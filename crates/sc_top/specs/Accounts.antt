-- What `explain --image` reports of an image and the text that follows it.
use Rattle.sc_base.specs.Prelude.{IsPrefix, most_compiled}
use Rattle.sc_top.specs.Common.{Accepts, Command, ProgramTree, is_listed}
use Rattle.sc_image.specs.declared.parts.ImageParts.{ImageParts}
use Rattle.sc_object.specs.Prelude.{AreObjectsButFor}
use Rattle.sc_top.specs.Answer.{IsGood, IsWithin}
use Rattle.sc_top.specs.Objects.{IsLinked}
use Rattle.sc_top.specs.Output.{HasAccountIn, HasImage, IsOutput}
use Rattle.sc_top_words.specs.declared.command.Command.TheVariants.{Compile, Exec, Explain, Judge}
use Rattle.sc_policy.specs.Prelude.{IsPolicyRead}
use Rattle.sc_policy.specs.declared.read.PolicyRead.{PolicyRead}
use Rattle.sc_top_words.specs.declared.command.RunOptions.{RunOptions}
use Rattle.std.specs.Prelude.{◌≡◌, ◌≤◌, ◌↔◌, ℕ, Bool, false, true, List, ◌++◌, length, None}

-- `explain` of a text, or of an image and a text
abbrev pub explaining : (with_image : Bool) → RunOptions → Command
explaining with_image options = Explain (record { run = options; image = with_image; trapped = false; show = None })

-- What `exec` writes for an image begins the report on this image and a text.
abbrev pub AccountsRunAsExec : Type 0
AccountsRunAsExec = (options : RunOptions) (image text out its : List ℕ) →
    IsOutput (explaining true options) (image ++ text) out → IsOutput (Exec options) image its → IsPrefix its out

-- A text that isn't too long to be compiled, with its program's image, and what `link` wrote for objects that say of the
-- program what this image says. Outside of the set `given` they are the program's own; in it they may be anybody's.
pub record HasLinked (given : ℕ → Bool) (text linked : List ℕ) : Type 0 where
  pub program : ProgramTree
  pub accepted : Accepts text program
  pub short : length text ≤ most_compiled
  pub own : ImageParts
  pub has : HasImage program own
  pub bytes : List ℕ
  pub is : IsLinked bytes linked
  pub objects : AreObjectsButFor given own is.can.objects

-- these bytes are good input of `explain --image`, which finds no compartment given but those of the set
pub record IsExplainedFor (given : ℕ → Bool) (options : RunOptions) (bytes : List ℕ) : Type 0 where
  pub within : IsWithin (explaining true options) bytes
  pub good : IsGood (explaining true options) bytes
  pub only : (found : HasAccountIn true options bytes) (comp : ℕ) →
      is_listed found.has.explanation.given comp ≡ true → given comp ≡ true

-- What `link` writes for such objects is explained, with the text after it.
abbrev pub LinkedImagesAreExplained : Type 0
LinkedImagesAreExplained = (given : ℕ → Bool) (options : RunOptions) (text linked : List ℕ) →
    HasLinked given text linked → IsExplainedFor given options (linked ++ text)

-- these bytes are good input of `explain --image`, which writes for them what `explain` writes for the text
pub record ExplainsAs (options : RunOptions) (text bytes : List ℕ) : Type 0 where
  pub within : IsWithin (explaining true options) bytes
  pub good : IsGood (explaining true options) bytes
  pub same : (out : List ℕ) →
      IsOutput (explaining true options) bytes out ↔ IsOutput (explaining false options) text out

-- What `compile` writes is explained as the text is: in the program's own image nobody is given.
abbrev pub CompiledImagesAreExplained : Type 0
CompiledImagesAreExplained = (options : RunOptions) (text image : List ℕ) → length text ≤ most_compiled →
    IsOutput Compile text image → ExplainsAs options text (image ++ text)

-- `judge` of a policy and a text, or of a policy, an image and a text
abbrev pub judging : (with_image : Bool) → RunOptions → Command
judging with_image options = Judge (record { run = options; image = with_image; trapped = false })

-- these bytes are a policy, and nothing follows it
pub record IsWholePolicy (bytes : List ℕ) : Type 0 where
  pub read : PolicyRead
  pub is : IsPolicyRead bytes read
  pub whole : read.rest ≡ length bytes

-- What `compile` writes is judged as the text is, by any policy.
abbrev pub CompiledImagesAreJudged : Type 0
CompiledImagesAreJudged = (options : RunOptions) (policy text image : List ℕ) → IsWholePolicy policy →
    length text ≤ most_compiled → IsOutput Compile text image → (out : List ℕ) →
    IsOutput (judging true options) (policy ++ (image ++ text)) out ↔
    IsOutput (judging false options) (policy ++ text) out

-- What `exec` writes for an image begins what `judge` writes for a policy, this image and a text.
abbrev pub JudgmentsRunAsExec : Type 0
JudgmentsRunAsExec = (options : RunOptions) (policy image text out its : List ℕ) → IsWholePolicy policy →
    IsOutput (judging true options) (policy ++ (image ++ text)) out → IsOutput (Exec options) image its →
    IsPrefix its out
