-- What an answer says of the bytes that were read and written.
use Rattle.sc_top.specs.Common.{Accepts, Adds, Command, Fails, IsAtEnd, IsImage, ProgramTree, Refusal, Rose, Takes, bad}
use Rattle.sc_top.specs.Common.{IsAnotherProgram, bad_part, cause_number}
use Rattle.sc_image.specs.declared.parts.ImageParts.{ImageParts}
use Rattle.sc_base.specs.Prelude.{IsPrefix}
use Rattle.std.specs.Prelude.{◌≡◌, ◌≢◌, ◌≤◌, ◌⊎◌, ◌+◌, ℕ, IsTrue, List, [], ◌++◌, length, Option, Some, None}
use Rattle.std.specs.Prelude.{option_and_then}
use Rattle.std.specs.Option.{option_map}
use Rattle.sc_lex.specs.declared.refusal.Phase.TheVariants.{Syntax}
use Rattle.sc_policy.specs.Prelude.{HasBadLine}
use Rattle.sc_top.specs.declared.status.BadJoin as join
use Rattle.sc_top.specs.declared.status.Status.{Status}
use Rattle.sc_top.specs.declared.status.Status.TheVariants.{Done, Usage, Refused, TooLarge, TooLong, BadImage}
use Rattle.sc_top.specs.declared.status.Status.TheVariants.{ReadFault, WriteFault, OutOfMemory, BadObject}
use Rattle.sc_top.specs.declared.status.Status.TheVariants.{BadJoin, NoSection, BadPolicy, Differs}
use Rattle.sc_top.specs.declared.status.TooLarge as large
use Rattle.sc_top.specs.Command.{AfterPolicy, HoldsAfterImage, HoldsAfterPolicy, HoldsOfBoth, HoldsOfText, Image}
use Rattle.sc_top.specs.Command.{ImageAndText, Intake, Nothing, Objects, Text, intake, limit_of}
use Rattle.sc_top.specs.Large.{large_in}
use Rattle.sc_top.specs.Objects.{CanBeLinked, HasBadJoin, HasBadObject, HasSection, comp_named, section_of}
use Rattle.sc_top.specs.Output.{compiles, IsGoodText, IsGoodWith, IsOutput}

-- what a call saw of the outside: the bytes that were left to read and those that were written, where these are known,
-- and the counts of faults, each before the call and after it
pub record Traffic : Type 0 where
  pub left : Option (List ℕ)
  pub left_after : Option (List ℕ)
  pub read_faults : ℕ
  pub read_faults_after : ℕ
  pub written : Option (List ℕ)
  pub written_after : Option (List ℕ)
  pub write_faults : ℕ
  pub write_faults_after : ℕ

-- these bytes are all that was left, and no more than the limit
pub record IsWhole (limit : ℕ) (left left_after : Option (List ℕ)) (bytes : List ℕ) : Type 0 where
  pub read : Takes left left_after bytes
  pub ended : IsAtEnd left_after
  pub within : length bytes ≤ limit

-- more bytes came than the limit, of which one more was read and no other
pub record IsLonger (limit : ℕ) (left left_after : Option (List ℕ)) : Type 0 where
  pub bytes : List ℕ
  pub read : Takes left left_after bytes
  pub long : length bytes ≡ limit + 1

-- these bytes are the whole input, where a command reads at most `limit`; or it reads nothing
abbrev pub IsInput : Option ℕ → (left left_after : Option (List ℕ)) → List ℕ → Type 0
IsInput (Some limit) left left_after bytes = IsWhole limit left left_after bytes
IsInput None left left_after bytes = (bytes ≡ []) × (left_after ≡ left)

-- the whole input was read, and this holds of its bytes
pub record HasRead (command : Command) (traffic : Traffic) (Q : List ℕ → Type 0) : Type 0 where
  pub bytes : List ℕ
  pub input : IsInput (limit_of command) traffic.left traffic.left_after bytes
  pub holds : Q bytes

-- the text was written whole
pub record HasWritten (command : Command) (traffic : Traffic) (bytes : List ℕ) : Type 0 where
  pub text : List ℕ
  pub output : IsOutput command bytes text
  pub whole : Adds traffic.written traffic.written_after text

-- a prefix of the text was written
pub record HasBegun (command : Command) (traffic : Traffic) (bytes : List ℕ) : Type 0 where
  pub text : List ℕ
  pub prefix : List ℕ
  pub output : IsOutput command bytes text
  pub begins : IsPrefix prefix text
  pub part : Adds traffic.written traffic.written_after prefix

-- Causes: why a command has no output for its input. What isn't read has none.

-- the text fails a phase, at a line of its own
abbrev pub Refuses : Command → List ℕ → Refusal → Type 0
Refuses command bytes refusal = HoldsOfText (intake command) bytes (λ text. Fails text refusal.phase refusal.line)

-- the number of the cause for which the bytes are no image, if they are none
abbrev pub cause_in : List ℕ → Option ℕ
cause_in bytes = option_map cause_number (bad bytes)

-- and for which they begin with none
abbrev pub part_cause_in : List ℕ → Option ℕ
part_cause_in bytes = option_map cause_number (bad_part bytes)

abbrev pub IsBadIn : Intake → List ℕ → (cause : ℕ) → Type 0
IsBadIn (Image limit) bytes cause = cause_in bytes ≡ Some cause
IsBadIn (ImageAndText limit within) bytes cause = part_cause_in bytes ≡ Some cause
IsBadIn (AfterPolicy following) bytes cause = HoldsAfterPolicy bytes (λ rest. IsBadIn following rest cause)
IsBadIn (Text limit) bytes cause = ⊥
IsBadIn (Objects limit) bytes cause = ⊥
IsBadIn Nothing bytes cause = ⊥

abbrev pub FindsBad : Command → List ℕ → (cause : ℕ) → Type 0
FindsBad command bytes cause = IsBadIn (intake command) bytes cause

abbrev pub HasBadLineIn : Intake → List ℕ → (line : ℕ) → Type 0
HasBadLineIn (AfterPolicy following) bytes line = HasBadLine bytes line
HasBadLineIn (Text limit) bytes line = ⊥
HasBadLineIn (Image limit) bytes line = ⊥
HasBadLineIn (Objects limit) bytes line = ⊥
HasBadLineIn (ImageAndText limit within) bytes line = ⊥
HasBadLineIn Nothing bytes line = ⊥

abbrev pub FindsBadLine : Command → List ℕ → (line : ℕ) → Type 0
FindsBadLine command bytes line = HasBadLineIn (intake command) bytes line

abbrev pub HasBadObjectIn : Intake → List ℕ → (index cause : ℕ) → Type 0
HasBadObjectIn (Objects limit) bytes index cause = HasBadObject bytes index cause
HasBadObjectIn (Text limit) bytes index cause = ⊥
HasBadObjectIn (Image limit) bytes index cause = ⊥
HasBadObjectIn (ImageAndText limit within) bytes index cause = ⊥
HasBadObjectIn (AfterPolicy following) bytes index cause = ⊥
HasBadObjectIn Nothing bytes index cause = ⊥

abbrev pub FindsBadObject : Command → List ℕ → (index cause : ℕ) → Type 0
FindsBadObject command bytes index cause = HasBadObjectIn (intake command) bytes index cause

abbrev pub HasBadJoinIn : Intake → List ℕ → join.BadJoin → Type 0
HasBadJoinIn (Objects limit) bytes fault = HasBadJoin bytes fault
HasBadJoinIn (Text limit) bytes fault = ⊥
HasBadJoinIn (Image limit) bytes fault = ⊥
HasBadJoinIn (ImageAndText limit within) bytes fault = ⊥
HasBadJoinIn (AfterPolicy following) bytes fault = ⊥
HasBadJoinIn Nothing bytes fault = ⊥

abbrev pub FindsBadJoin : Command → List ℕ → join.BadJoin → Type 0
FindsBadJoin command bytes fault = HasBadJoinIn (intake command) bytes fault

-- the text is accepted, and its program lacks the section of this name, which the command asks for
pub record LacksSection (command : Command) (text name : List ℕ) : Type 0 where
  pub program : ProgramTree
  pub accepted : Accepts text program
  pub asked : section_of command ≡ Some name
  pub lacks : comp_named program.interfaces name ≡ None

abbrev pub FindsNoSection : Command → List ℕ → (name : List ℕ) → Type 0
FindsNoSection command bytes name = HoldsOfText (intake command) bytes (λ text. LacksSection command text name)

-- the text is accepted, with the section that the command asks for, and the command compiles its program, which is too
-- large
pub record IsUnfit (command : Command) (text : List ℕ) (fault : large.TooLarge) : Type 0 where
  pub program : ProgramTree
  pub accepted : Accepts text program
  pub there : HasSection command program
  pub compiled : IsTrue (compiles command)
  pub found : large_in program ≡ Some fault

abbrev pub FindsUnfit : Command → List ℕ → large.TooLarge → Type 0
FindsUnfit command bytes fault = HoldsOfText (intake command) bytes (λ text. IsUnfit command text fault)

-- the text that follows an image is longer than it may be
abbrev pub HasLongTextIn : Intake → List ℕ → (limit : ℕ) → Type 0
HasLongTextIn (ImageAndText limit within) bytes most =
    (within ≡ most) × HoldsAfterImage bytes (λ image text. within + 1 ≤ length text)
HasLongTextIn (AfterPolicy following) bytes most = HoldsAfterPolicy bytes (λ rest. HasLongTextIn following rest most)
HasLongTextIn (Text limit) bytes most = ⊥
HasLongTextIn (Image limit) bytes most = ⊥
HasLongTextIn (Objects limit) bytes most = ⊥
HasLongTextIn Nothing bytes most = ⊥

abbrev pub FindsLongText : Command → List ℕ → (limit : ℕ) → Type 0
FindsLongText command bytes limit = HasLongTextIn (intake command) bytes limit

-- the text is accepted, with the section that the command asks for, its program fits, and for no set of given
-- compartments the image is the program's own but for them
pub record IsOfAnother (command : Command) (image : ImageParts) (text : List ℕ) : Type 0 where
  pub program : ProgramTree
  pub accepted : Accepts text program
  pub there : HasSection command program
  pub another : IsAnotherProgram program image

abbrev pub DiffersIn : Intake → Command → List ℕ → Type 0
DiffersIn (ImageAndText limit within) command bytes = HoldsOfBoth within bytes (IsOfAnother command)
DiffersIn (AfterPolicy following) command bytes = HoldsAfterPolicy bytes (DiffersIn following command)
DiffersIn (Text limit) command bytes = ⊥
DiffersIn (Image limit) command bytes = ⊥
DiffersIn (Objects limit) command bytes = ⊥
DiffersIn Nothing command bytes = ⊥

abbrev pub FindsAnother : Command → List ℕ → Type 0
FindsAnother command bytes = DiffersIn (intake command) command bytes

-- What each status says.

-- with a command, what was read and written where it was answered so
abbrev pub Says : Command → Traffic → Status → Type 0
Says command traffic Done = HasRead command traffic (HasWritten command traffic)
Says command traffic Usage = ⊥
Says command traffic (Refused refusal) = HasRead command traffic (λ bytes. Refuses command bytes refusal)
Says command traffic (TooLarge fault) = HasRead command traffic (λ bytes. FindsUnfit command bytes fault)
Says command traffic (TooLong limit) =
    ((limit_of command ≡ Some limit) × IsLonger limit traffic.left traffic.left_after) ⊎
    HasRead command traffic (λ bytes. FindsLongText command bytes limit)
Says command traffic (BadImage cause) = HasRead command traffic (λ bytes. FindsBad command bytes cause)
Says command traffic (BadObject index cause) =
    HasRead command traffic (λ bytes. FindsBadObject command bytes index cause)
Says command traffic (BadJoin fault) = HasRead command traffic (λ bytes. FindsBadJoin command bytes fault)
Says command traffic (NoSection name) = HasRead command traffic (λ bytes. FindsNoSection command bytes name)
Says command traffic (BadPolicy line) = HasRead command traffic (λ bytes. FindsBadLine command bytes line)
Says command traffic Differs = HasRead command traffic (FindsAnother command)
Says command traffic ReadFault = Rose traffic.read_faults traffic.read_faults_after
Says command traffic WriteFault =
    Rose traffic.write_faults traffic.write_faults_after × HasRead command traffic (HasBegun command traffic)
Says command traffic OutOfMemory = Unit {0}

-- no read and no write failed
pub record IsUndisturbed (traffic : Traffic) : Type 0 where
  pub reads : Rose traffic.read_faults traffic.read_faults_after → ⊥
  pub writes : Rose traffic.write_faults traffic.write_faults_after → ⊥

-- no more bytes than the command takes
abbrev pub IsWithinLimit : Option ℕ → List ℕ → Type 0
IsWithinLimit (Some limit) bytes = length bytes ≤ limit
IsWithinLimit None bytes = Unit {0}

abbrev pub IsWithin : Command → List ℕ → Type 0
IsWithin command bytes = IsWithinLimit (limit_of command) bytes

-- the answer to these bytes, unless memory runs out or the outside fails
abbrev pub IsAnswer : Command → List ℕ → Status → Type 0
IsAnswer command bytes Done = IsWithin command bytes × ((text : List ℕ) × IsOutput command bytes text)
IsAnswer command bytes (Refused refusal) = IsWithin command bytes × Refuses command bytes refusal
IsAnswer command bytes (TooLarge fault) = IsWithin command bytes × FindsUnfit command bytes fault
IsAnswer command bytes (TooLong limit) =
    ((limit_of command ≡ Some limit) × (limit + 1 ≤ length bytes)) ⊎
    (IsWithin command bytes × FindsLongText command bytes limit)
IsAnswer command bytes (BadImage cause) = IsWithin command bytes × FindsBad command bytes cause
IsAnswer command bytes (BadObject index cause) = IsWithin command bytes × FindsBadObject command bytes index cause
IsAnswer command bytes (BadJoin fault) = IsWithin command bytes × FindsBadJoin command bytes fault
IsAnswer command bytes (NoSection name) = IsWithin command bytes × FindsNoSection command bytes name
IsAnswer command bytes (BadPolicy line) = IsWithin command bytes × FindsBadLine command bytes line
IsAnswer command bytes Differs = IsWithin command bytes × FindsAnother command bytes
IsAnswer command bytes Usage = ⊥
IsAnswer command bytes ReadFault = ⊥
IsAnswer command bytes WriteFault = ⊥
IsAnswer command bytes OutOfMemory = ⊥

-- good input: a good text, the bytes of an image, those of objects that are linked, an image and a good text whose
-- program is the image's but for given compartments, a policy and then good input, or anything where a command reads
-- nothing
abbrev pub IsGoodIn : Intake → Command → List ℕ → Type 0
IsGoodIn (Text limit) command bytes = IsGoodText command bytes
IsGoodIn (ImageAndText limit within) command bytes = HoldsOfBoth within bytes (IsGoodWith command)
IsGoodIn (AfterPolicy following) command bytes = HoldsAfterPolicy bytes (IsGoodIn following command)
IsGoodIn (Image limit) command bytes = IsImage bytes
IsGoodIn (Objects limit) command bytes = CanBeLinked bytes
IsGoodIn Nothing command bytes = Unit {0}

abbrev pub IsGood : Command → List ℕ → Type 0
IsGood command bytes = IsGoodIn (intake command) command bytes

-- a text was written, whole or cut short by a fault
pub record Prints (text : List ℕ) (written written_after : Option (List ℕ)) (faults faults_after : ℕ) : Type 0 where
  pub prefix : List ℕ
  pub begins : IsPrefix prefix text
  pub part : Adds written written_after prefix
  pub whole : (prefix ≡ text) ⊎ Rose faults faults_after

-- the words are no command that reads
abbrev pub IsSilent : Option Command → Type 0
IsSilent asked = option_and_then limit_of asked ≡ None

-- what a call answered, asked for a command or none
pub record Answers (asked : Option Command) (traffic : Traffic) (status : Status) : Type 0 where
  -- words that are no command are answered so
  pub no_command : asked ≡ None → (status ≡ Usage) ⊎ (status ≡ OutOfMemory)
  -- with a command, the status says what was read and written
  pub says : (command : Command) → asked ≡ Some command → Says command traffic status
  -- bytes that are known to be left to read have their one answer, unless memory runs out or the outside fails
  pub answered : (command : Command) (bytes : List ℕ) → asked ≡ Some command → traffic.left ≡ Some bytes →
      IsUndisturbed traffic →
      IsAnswer command bytes status ⊎ (status ≡ OutOfMemory)
  -- and good input is answered `Done`
  pub complete : (command : Command) (bytes : List ℕ) → asked ≡ Some command → traffic.left ≡ Some bytes →
      IsUndisturbed traffic →
      IsWithin command bytes → IsGood command bytes → (status ≡ Done) ⊎ (status ≡ OutOfMemory)
  -- so is a command that reads nothing, whatever is left to read
  pub made : (command : Command) → asked ≡ Some command → limit_of command ≡ None → IsUndisturbed traffic →
      (status ≡ Done) ⊎ (status ≡ OutOfMemory)

-- two answers are the same, but for the line of a section that phase Syntax refuses
abbrev pub SameAnswer : Status → Status → Type 0
SameAnswer (Refused refusal) (Refused other) =
    (refusal.phase ≡ other.phase) × (refusal.phase ≢ Syntax → refusal.line ≡ other.line)
SameAnswer status other = status ≡ other
