-- What a command reads.
use Rattle.sc_base.specs.Prelude.{most_compiled, most_image, most_text}
use Rattle.sc_top.specs.Common.{Command}
use Rattle.std.specs.Prelude.{◌≤◌, ℕ, Bool, true, false, List, drop, length, Option, Some, None}
use Rattle.sc_image.specs.Prelude.{BeginWithImage}
use Rattle.sc_image.specs.declared.parts.ImageParts.{ImageParts}
use Rattle.sc_policy.specs.Prelude.{IsPolicyRead}
use Rattle.sc_policy.specs.declared.read.PolicyRead.{PolicyRead}
use Rattle.sc_top_words.specs.declared.command.Command.TheVariants.{Check, Meaning, Compile, Run, Exec, Explain}
use Rattle.sc_top_words.specs.declared.command.Command.TheVariants.{Judge, Link, Make, Object, Tags}

-- a text, an image, objects, or an image that a text of at most `within` bytes follows, all of at most `limit` bytes; a
-- policy, and then what follows it; or nothing
pub data Intake : Type 0 where
  Text : (limit : ℕ) → Intake
  Image : (limit : ℕ) → Intake
  Objects : (limit : ℕ) → Intake
  ImageAndText : (limit within : ℕ) → Intake
  AfterPolicy : Intake → Intake
  Nothing : Intake

-- what is read of a run that is accounted for: an image and the text, or the text alone
abbrev pub accounted_intake : (image : Bool) → Intake
accounted_intake true = ImageAndText most_image most_compiled
accounted_intake false = Text most_compiled

abbrev pub intake : Command → Intake
intake Check = Text most_text
intake (Meaning options) = Text most_text
intake Compile = Text most_compiled
intake (Object options) = Text most_compiled
intake Link = Objects most_image
intake (Run options) = Text most_compiled
intake (Explain options) = accounted_intake options.image
intake (Judge options) = AfterPolicy (accounted_intake options.image)
intake (Exec options) = Image most_image
intake (Tags options range) = Image most_image
intake (Make options) = Nothing

abbrev pub limit_in : Intake → Option ℕ
limit_in (Text limit) = Some limit
limit_in (Image limit) = Some limit
limit_in (Objects limit) = Some limit
limit_in (ImageAndText limit within) = Some limit
-- of all bytes, those of the policy too
limit_in (AfterPolicy following) = limit_in following
limit_in Nothing = None

-- how many bytes a command reads at most, if it reads
abbrev pub limit_of : Command → Option ℕ
limit_of command = limit_in (intake command)

-- the bytes begin with a policy, and this holds of those that follow it
pub record HoldsAfterPolicy (bytes : List ℕ) (Q : List ℕ → Type 0) : Type 0 where
  pub read : PolicyRead
  pub is : IsPolicyRead bytes read
  pub holds : Q (drop read.rest bytes)

-- the bytes begin with those of an image, and this holds of it and of the bytes that follow it
pub record HoldsAfterImage (bytes : List ℕ) (Q : ImageParts → List ℕ → Type 0) : Type 0 where
  pub front : BeginWithImage bytes
  pub holds : Q front.image (drop front.place bytes)

-- the bytes begin with an image, a text of at most so many bytes follows it, and this holds of both
abbrev pub HoldsOfBoth : (within : ℕ) → List ℕ → (Q : ImageParts → List ℕ → Type 0) → Type 0
HoldsOfBoth within bytes Q = HoldsAfterImage bytes (λ image text. (length text ≤ within) × Q image text)

-- this holds of the text in the bytes: it is all of them, or what follows an image, a policy or both
abbrev pub HoldsOfText : Intake → List ℕ → (Q : List ℕ → Type 0) → Type 0
HoldsOfText (Text limit) bytes Q = Q bytes
HoldsOfText (ImageAndText limit within) bytes Q = HoldsOfBoth within bytes (λ image text. Q text)
HoldsOfText (AfterPolicy following) bytes Q = HoldsAfterPolicy bytes (λ rest. HoldsOfText following rest Q)
HoldsOfText (Image limit) bytes Q = ⊥
HoldsOfText (Objects limit) bytes Q = ⊥
HoldsOfText Nothing bytes Q = ⊥
