-- Helping: how the faults of the parts are passed on, and which status tells a failure.
use Rattle.sc_top.specs.Common.{Command, Fails, Rose, cause_number}
use Rattle.std.specs.Prelude.{◌≡◌, ℕ, List, Result, Ok, Err, Option, None, Some}
use Rattle.sc_image.specs.declared.fault.ImageFault.{ImageFault}
use Rattle.sc_image.specs.declared.fault.ImageFault.TheVariants as image
use Rattle.sc_lex.specs.declared.fault.TextFault.{TextFault}
use Rattle.sc_lex.specs.declared.fault.TextFault.TheVariants as text
use Rattle.sc_object.specs.Prelude.{cause_number as object_cause}
use Rattle.sc_object.specs.declared.fault.ObjectsFault.{ObjectsFault}
use Rattle.sc_object.specs.declared.fault.ObjectsFault.TheVariants as objects_fault
use Rattle.sc_object.specs.declared.linking.JoinFault.{JoinFault}
use Rattle.sc_object.specs.declared.parts.ObjectParts.{ObjectParts}
use Rattle.sc_policy.specs.declared.fault.PolicyFault.{PolicyFault}
use Rattle.sc_policy.specs.declared.fault.PolicyFault.TheVariants as policy
use Rattle.sc_top_words.specs.declared.fault.WordsFault.{WordsFault}
use Rattle.sc_top_words.specs.declared.fault.WordsFault.TheVariants as words
use Rattle.sc_top.specs.declared.input.ReadFault as read
use Rattle.sc_top.specs.declared.input.ReadFault.TheVariants as faults
use Rattle.sc_top.specs.declared.failure.Failure.{Failure}
use Rattle.sc_top.specs.declared.failure.Failure.TheVariants.{Usage, Refused, TooLarge, TooLong, BadImage, ReadFault}
use Rattle.sc_top.specs.declared.failure.Failure.TheVariants.{WriteFault, OutOfMemory, BadObject}
use Rattle.sc_top.specs.declared.failure.Failure.TheVariants.{BadJoin, NoSection, BadPolicy, Differs}
use Rattle.sc_top.specs.declared.status.BadJoin as join
use Rattle.sc_top.specs.declared.status.Status.{Status}
use Rattle.sc_top.specs.declared.status.Status.TheVariants as status
use Rattle.sc_top.specs.Answer.{DiffersIn, HasBadJoinIn, HasBadLineIn, HasBadObjectIn, HasLongTextIn, IsBadIn}
use Rattle.sc_top.specs.Answer.{IsLonger, IsUnfit, LacksSection}
use Rattle.sc_top.specs.Command.{HoldsOfText, Intake, intake}
use Rattle.sc_top.specs.Objects.{bad_join_in, join_by_name}

abbrev pub of_words_fault : WordsFault → Failure
of_words_fault words.Usage = Usage
of_words_fault words.OutOfMemory = OutOfMemory

abbrev pub of_read_fault : read.ReadFault → Failure
of_read_fault faults.Source = ReadFault
of_read_fault faults.Memory = OutOfMemory

abbrev pub of_text_fault : TextFault → Failure
of_text_fault (text.Refused refusal) = Refused refusal
of_text_fault text.OutOfMemory = OutOfMemory

abbrev pub of_image_fault : ImageFault → Failure
of_image_fault (image.Bad cause) = BadImage (cause_number cause)
of_image_fault image.OutOfMemory = OutOfMemory

abbrev pub of_objects_fault : ObjectsFault → Failure
of_objects_fault (objects_fault.Bad index cause) = BadObject index (object_cause cause)
of_objects_fault objects_fault.OutOfMemory = OutOfMemory

abbrev pub of_join : Option join.BadJoin → Failure
of_join None = OutOfMemory
of_join (Some fault) = BadJoin fault

-- a fault of linking, by the names of compartments
abbrev pub of_join_fault : List ObjectParts → JoinFault → Failure
of_join_fault objects fault = of_join (join_by_name objects fault)

-- why objects aren't linked
abbrev pub IsJoining : List ObjectParts → Failure → Type 0
IsJoining objects (BadJoin fault) = bad_join_in objects ≡ Some fault
IsJoining objects OutOfMemory = Unit {0}
IsJoining objects _ = ⊥

abbrev pub of_policy_fault : PolicyFault → Failure
of_policy_fault (policy.Bad line) = BadPolicy line
of_policy_fault policy.OutOfMemory = OutOfMemory

abbrev pub status_of : Failure → Status
status_of Usage = status.Usage
status_of (Refused refusal) = status.Refused refusal
status_of (TooLarge fault) = status.TooLarge fault
status_of (TooLong limit) = status.TooLong limit
status_of (BadImage cause) = status.BadImage cause
status_of ReadFault = status.ReadFault
status_of WriteFault = status.WriteFault
status_of OutOfMemory = status.OutOfMemory
status_of (BadObject index cause) = status.BadObject index cause
status_of (BadJoin fault) = status.BadJoin fault
status_of (NoSection name) = status.NoSection name
status_of (BadPolicy line) = status.BadPolicy line
status_of Differs = status.Differs

-- the status of a call that went well or failed
abbrev pub status_by : {A : Type 0} → Result A Failure → Status
status_by (Ok done) = status.Done
status_by (Err failure) = status_of failure

-- why the input wasn't read whole
abbrev pub IsInputCause : Option ℕ → (left left_after : Option (List ℕ)) → (faults faults_after : ℕ) → Failure → Type 0
IsInputCause limit left left_after faults faults_after (TooLong most) =
    (limit ≡ Some most) × IsLonger most left left_after
IsInputCause limit left left_after faults faults_after ReadFault = Rose faults faults_after
IsInputCause limit left left_after faults faults_after OutOfMemory = Unit {0}
IsInputCause limit left left_after faults faults_after _ = ⊥

-- why a command with this intake has no output for these bytes
abbrev pub IsCauseIn : Intake → Command → List ℕ → Failure → Type 0
IsCauseIn i command bytes (Refused refusal) = HoldsOfText i bytes (λ text. Fails text refusal.phase refusal.line)
IsCauseIn i command bytes (TooLarge fault) = HoldsOfText i bytes (λ text. IsUnfit command text fault)
IsCauseIn i command bytes (TooLong limit) = HasLongTextIn i bytes limit
IsCauseIn i command bytes (BadImage cause) = IsBadIn i bytes cause
IsCauseIn i command bytes (BadObject index cause) = HasBadObjectIn i bytes index cause
IsCauseIn i command bytes (BadJoin fault) = HasBadJoinIn i bytes fault
IsCauseIn i command bytes (NoSection name) = HoldsOfText i bytes (λ text. LacksSection command text name)
IsCauseIn i command bytes (BadPolicy line) = HasBadLineIn i bytes line
IsCauseIn i command bytes Differs = DiffersIn i command bytes
IsCauseIn i command bytes OutOfMemory = Unit {0}
IsCauseIn i command bytes _ = ⊥

abbrev pub IsOutputCause : Command → List ℕ → Failure → Type 0
IsOutputCause command bytes failure = IsCauseIn (intake command) command bytes failure
