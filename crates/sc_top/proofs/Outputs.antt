-- What comes of accepted texts: outputs and their causes, and that an output is one.
use Rattle.sc_top.proofs.Common.{Accepts, Bool, BytesNameOneImage, Command, Failure, HasImage, ImageParts, IsCompiling}
use Rattle.sc_top.proofs.Common.{IsExecuted, IsMadeBy, IsOutput, IsOutputCause, IsTextOutput, IsTrue, List, MakeOptions}
use Rattle.sc_top.proofs.Common.{ProgramTree, RunOptions, [], ap, compiles, false, image_interfaces, machine_text}
use Rattle.sc_top.proofs.Common.{BeginWithImage, HoldsOfText, IsAnotherCompiling, IsCauseIn, IsLimited, IsPolicyRead}
use Rattle.sc_top.proofs.Common.{IsReading, IsUnfit, PolicyRead, accounted_intake, drop, intake, length, output}
use Rattle.sc_top.proofs.Common.{◌≤◌}
use Rattle.sc_top.specs.Answer.{HasBadJoinIn, HasBadLineIn, HasBadObjectIn}
use Rattle.sc_top.specs.Command.{AfterPolicy, ImageAndText, Intake, Text}
use Rattle.sc_top.specs.Large.{large_in}
use Rattle.sc_top.specs.declared.status.BadJoin as join
use Rattle.sc_top.proofs.Common.{refl, subst, sym, true, ℕ, ◌∙◌, ◌≡◌, HasSection, IsLinked, IsObjectOutput, None}
use Rattle.sc_top.proofs.Common.{Option, Some, ap₂, comp_named, none-some, section_of}
use Rattle.sc_top.proofs.Common.{Ok, image_of}
use Rattle.sc_object.specs.Prelude.{BytesNameOneList, IsJoined, join_as, object_bytes, object_of}
use Rattle.sc_image.specs.Prelude.{image_bytes}
use Rattle.sc_top_words.specs.declared.command.Command.TheVariants as commands
use Rattle.sc_top.specs.declared.failure.Failure.TheVariants as failure
use Rattle.sc_top.proofs.Causes.{same_some}
use Rattle.sc_top.specs.Tagged.{IsTagged, tag_text}
use Rattle.sc_top_words.specs.declared.command.DataRange.{DataRange}
use Rattle.sc_top_words.specs.declared.command.JudgeOptions.{JudgeOptions}
use Rattle.sc_top.proofs.Chains.{one_account, one_summary, one_verdict}

-- a command that asks for no section has what it asks for
pub asks_none : (command : Command) → section_of command ≡ None → (program : ProgramTree) → HasSection command program
asks_none command none program name is = absurd (none-some name (sym none ∙ is))

-- the image that stands where a command compiles none
pub no_image : ImageParts
no_image = record { main = 0; entry = 0; comps = [] }

-- the output of a command that compiles nothing
pub plain_output : (command : Command) (bytes text : List ℕ) (program : ProgramTree) →
    (IsTrue (compiles command) → ⊥) → Accepts bytes program → text ≡ output command program no_image →
    IsTextOutput command bytes text
plain_output command bytes text program plain accepted written =
    record {
      program = program;
      image = no_image;
      accepted = accepted;
      compiled = λ is. absurd (plain is);
      written = written;
    }

-- the output of one that compiles
pub compiled_output : (command : Command) (bytes text : List ℕ) (program : ProgramTree) (image : ImageParts) →
    Accepts bytes program → HasImage program image → text ≡ output command program image →
    IsTextOutput command bytes text
compiled_output command bytes text program image accepted compiled written =
    record {
      program = program;
      image = image;
      accepted = accepted;
      compiled = λ _. compiled;
      written = written;
    }

-- why a program isn't compiled is why a command that compiles has no output for its text
unfit_cause : (i : Intake) (command : Command) (bytes text : List ℕ) (program : ProgramTree) (f : Failure) →
    ((Q : List ℕ → Type 0) → Q text → HoldsOfText i bytes Q) → Accepts text program →
    HasSection command program → IsTrue (compiles command) → IsCompiling program f → IsCauseIn i command bytes f
unfit_cause i command bytes text program failure.Usage takes accepted there compiled why = why
unfit_cause i command bytes text program (failure.Refused refusal) takes accepted there compiled why = absurd why
unfit_cause i command bytes text program (failure.TooLarge fault) takes accepted there compiled why =
    takes (λ text. IsUnfit command text fault)
    (record { program = program; accepted = accepted; there = there; compiled = compiled; found = why })
unfit_cause i command bytes text program (failure.TooLong limit) takes accepted there compiled why = absurd why
unfit_cause i command bytes text program (failure.BadImage cause) takes accepted there compiled why = absurd why
unfit_cause i command bytes text program failure.ReadFault takes accepted there compiled why = why
unfit_cause i command bytes text program failure.WriteFault takes accepted there compiled why = why
unfit_cause i command bytes text program failure.OutOfMemory takes accepted there compiled why = tt
unfit_cause i command bytes text program (failure.BadObject index cause) takes accepted there compiled why = absurd why
unfit_cause i command bytes text program (failure.BadJoin fault) takes accepted there compiled why = absurd why
unfit_cause i command bytes text program (failure.NoSection name) takes accepted there compiled why = absurd why
unfit_cause i command bytes text program (failure.BadPolicy line) takes accepted there compiled why = absurd why
unfit_cause i command bytes text program failure.Differs takes accepted there compiled why = absurd why

-- the same of a program that is this one, which has the section that is asked for
pub asked_cause : (command : Command) (bytes text : List ℕ) (program other : ProgramTree) (f : Failure) →
    ((Q : List ℕ → Type 0) → Q text → HoldsOfText (intake command) bytes Q) →
    other ≡ program → Accepts text program → HasSection command program → IsTrue (compiles command) →
    IsCompiling other f → IsOutputCause command bytes f
asked_cause command bytes text program other f takes same accepted there compiled why =
    unfit_cause (intake command) command bytes text program f takes accepted there compiled
    (subst (λ p. IsCompiling p f) same why)

-- and for a command that asks for none
pub compiled_cause : (command : Command) (bytes text : List ℕ) (program other : ProgramTree) (f : Failure) →
    ((Q : List ℕ → Type 0) → Q text → HoldsOfText (intake command) bytes Q) →
    other ≡ program → Accepts text program → section_of command ≡ None → IsTrue (compiles command) →
    IsCompiling other f → IsOutputCause command bytes f
compiled_cause command bytes text program other f takes same accepted plain compiled why =
    asked_cause command bytes text program other f takes same accepted (asks_none command plain program) compiled why

-- ---- why a run isn't accounted for

-- a text that isn't read, where it is all the bytes
pub reading_cause : (limit : ℕ) (command : Command) (bytes : List ℕ) (f : Failure) → IsReading bytes f →
    IsCauseIn (Text limit) command bytes f
reading_cause limit command bytes failure.Usage why = why
reading_cause limit command bytes (failure.Refused refusal) why = why
reading_cause limit command bytes (failure.TooLarge fault) why = absurd why
reading_cause limit command bytes (failure.TooLong most) why = absurd why
reading_cause limit command bytes (failure.BadImage cause) why = absurd why
reading_cause limit command bytes failure.ReadFault why = why
reading_cause limit command bytes failure.WriteFault why = why
reading_cause limit command bytes failure.OutOfMemory why = tt
reading_cause limit command bytes (failure.BadObject index cause) why = absurd why
reading_cause limit command bytes (failure.BadJoin fault) why = absurd why
reading_cause limit command bytes (failure.NoSection name) why = absurd why
reading_cause limit command bytes (failure.BadPolicy line) why = absurd why
reading_cause limit command bytes failure.Differs why = absurd why

-- one whose program isn't compiled, where it is all the bytes
pub text_cause : (limit : ℕ) (command : Command) (bytes : List ℕ) (program : ProgramTree) (f : Failure) →
    Accepts bytes program → section_of command ≡ None → IsTrue (compiles command) → IsCompiling program f →
    IsCauseIn (Text limit) command bytes f
text_cause limit command bytes program f accepted plain compiled why =
    unfit_cause (Text limit) command bytes bytes program f (λ Q q. q) accepted (asks_none command plain program)
    compiled why

-- why a program isn't compiled is why no image is explained by it
pub compiling_another : (program other : ProgramTree) (image : ImageParts) (f : Failure) → program ≡ other →
    IsCompiling program f → IsAnotherCompiling other image f
compiling_another program other image failure.Usage same why = why
compiling_another program other image (failure.Refused refusal) same why = absurd why
compiling_another program other image (failure.TooLarge fault) same why =
    subst (λ p. large_in p ≡ Some fault) same why
compiling_another program other image (failure.TooLong most) same why = absurd why
compiling_another program other image (failure.BadImage cause) same why = absurd why
compiling_another program other image failure.ReadFault same why = why
compiling_another program other image failure.WriteFault same why = why
compiling_another program other image failure.OutOfMemory same why = tt
compiling_another program other image (failure.BadObject index cause) same why = absurd why
compiling_another program other image (failure.BadJoin fault) same why = absurd why
compiling_another program other image (failure.NoSection name) same why = absurd why
compiling_another program other image (failure.BadPolicy line) same why = absurd why
compiling_another program other image failure.Differs same why = absurd why

-- one that isn't read after an image
pub limited_cause : (limit within : ℕ) (command : Command) (bytes : List ℕ) (front : BeginWithImage bytes)
    (f : Failure) → IsLimited within (drop front.place bytes) f → IsCauseIn (ImageAndText limit within) command bytes f
limited_cause limit within command bytes front failure.Usage why = why
limited_cause limit within command bytes front (failure.Refused refusal) why = record { front = front; holds = why }
limited_cause limit within command bytes front (failure.TooLarge fault) why = absurd why
limited_cause limit within command bytes front (failure.TooLong most) why =
    (why.0, record { front = front; holds = why.1 })
limited_cause limit within command bytes front (failure.BadImage cause) why = absurd why
limited_cause limit within command bytes front failure.ReadFault why = why
limited_cause limit within command bytes front failure.WriteFault why = why
limited_cause limit within command bytes front failure.OutOfMemory why = tt
limited_cause limit within command bytes front (failure.BadObject index cause) why = absurd why
limited_cause limit within command bytes front (failure.BadJoin fault) why = absurd why
limited_cause limit within command bytes front (failure.NoSection name) why = absurd why
limited_cause limit within command bytes front (failure.BadPolicy line) why = absurd why
limited_cause limit within command bytes front failure.Differs why = absurd why

-- one whose program isn't compiled, or isn't that of the image
pub another_cause : (limit within : ℕ) (command : Command) (bytes : List ℕ) (front : BeginWithImage bytes)
    (program : ProgramTree) (f : Failure) → length (drop front.place bytes) ≤ within →
    Accepts (drop front.place bytes) program → section_of command ≡ None → IsTrue (compiles command) →
    IsAnotherCompiling program front.image f → IsCauseIn (ImageAndText limit within) command bytes f
another_cause limit within command bytes front program failure.Usage short accepted plain compiled why = why
another_cause limit within command bytes front program (failure.Refused refusal) short accepted plain compiled why =
    absurd why
another_cause limit within command bytes front program (failure.TooLarge fault) short accepted plain compiled why =
    record {
      front = front;
      holds = (
        short,
        record {
          program = program;
          accepted = accepted;
          there = asks_none command plain program;
          compiled = compiled;
          found = why;
        },
      );
    }
another_cause limit within command bytes front program (failure.TooLong most) short accepted plain compiled why =
    absurd why
another_cause limit within command bytes front program (failure.BadImage cause) short accepted plain compiled why =
    absurd why
another_cause limit within command bytes front program failure.ReadFault short accepted plain compiled why = why
another_cause limit within command bytes front program failure.WriteFault short accepted plain compiled why = why
another_cause limit within command bytes front program failure.OutOfMemory short accepted plain compiled why = tt
another_cause limit within command bytes front program (failure.BadObject index cause) short accepted plain compiled
    why = absurd why
another_cause limit within command bytes front program (failure.BadJoin fault) short accepted plain compiled why =
    absurd why
another_cause limit within command bytes front program (failure.NoSection name) short accepted plain compiled why =
    absurd why
another_cause limit within command bytes front program (failure.BadPolicy line) short accepted plain compiled why =
    absurd why
another_cause limit within command bytes front program failure.Differs short accepted plain compiled why =
    record {
      front = front;
      holds = (
        short,
        record {
          program = program;
          accepted = accepted;
          there = asks_none command plain program;
          another = why;
        },
      );
    }

-- the same for each command that takes such input, compiles, and asks for no section
abbrev pub IsCauseOfAny : Intake → List ℕ → Failure → Type 0
IsCauseOfAny intake bytes f = (command : Command) → section_of command ≡ None → IsTrue (compiles command) →
    IsCauseIn intake command bytes f

pub any_reading : (limit : ℕ) (bytes : List ℕ) (f : Failure) → IsReading bytes f → IsCauseOfAny (Text limit) bytes f
any_reading limit bytes f why command plain compiled = reading_cause limit command bytes f why

pub any_text : (limit : ℕ) (bytes : List ℕ) (program : ProgramTree) (f : Failure) → Accepts bytes program →
    IsCompiling program f → IsCauseOfAny (Text limit) bytes f
any_text limit bytes program f accepted why command plain compiled =
    text_cause limit command bytes program f accepted plain compiled why

pub any_limited : (limit within : ℕ) (bytes : List ℕ) (front : BeginWithImage bytes) (text : List ℕ) →
    text ≡ drop front.place bytes → (f : Failure) → IsLimited within text f →
    IsCauseOfAny (ImageAndText limit within) bytes f
any_limited limit within bytes front text rest f why command plain compiled =
    limited_cause limit within command bytes front f (subst (λ text. IsLimited within text f) rest why)

pub any_another : (limit within : ℕ) (bytes : List ℕ) (front : BeginWithImage bytes) (program : ProgramTree)
    (f : Failure) → length (drop front.place bytes) ≤ within → Accepts (drop front.place bytes) program →
    IsAnotherCompiling program front.image f → IsCauseOfAny (ImageAndText limit within) bytes f
any_another limit within bytes front program f short accepted why command plain compiled =
    another_cause limit within command bytes front program f short accepted plain compiled why

-- what is at fault after a policy
pub policy_cause : (i : Intake) (command : Command) (bytes : List ℕ) (read : PolicyRead) (f : Failure) →
    IsPolicyRead bytes read → ((line : ℕ) → HasBadLineIn i (drop read.rest bytes) line → ⊥) →
    ((index cause : ℕ) → HasBadObjectIn i (drop read.rest bytes) index cause → ⊥) →
    ((fault : join.BadJoin) → HasBadJoinIn i (drop read.rest bytes) fault → ⊥) →
    IsCauseIn i command (drop read.rest bytes) f → IsCauseIn (AfterPolicy i) command bytes f
policy_cause i command bytes read failure.Usage is lines objects joins why = why
policy_cause i command bytes read (failure.Refused refusal) is lines objects joins why =
    record { read = read; is = is; holds = why }
policy_cause i command bytes read (failure.TooLarge fault) is lines objects joins why =
    record { read = read; is = is; holds = why }
policy_cause i command bytes read (failure.TooLong most) is lines objects joins why =
    record { read = read; is = is; holds = why }
policy_cause i command bytes read (failure.BadImage cause) is lines objects joins why =
    record { read = read; is = is; holds = why }
policy_cause i command bytes read failure.ReadFault is lines objects joins why = why
policy_cause i command bytes read failure.WriteFault is lines objects joins why = why
policy_cause i command bytes read failure.OutOfMemory is lines objects joins why = tt
policy_cause i command bytes read (failure.BadObject index cause) is lines objects joins why =
    absurd (objects index cause why)
policy_cause i command bytes read (failure.BadJoin fault) is lines objects joins why = absurd (joins fault why)
policy_cause i command bytes read (failure.NoSection name) is lines objects joins why =
    record { read = read; is = is; holds = why }
policy_cause i command bytes read (failure.BadPolicy line) is lines objects joins why = absurd (lines line why)
policy_cause i command bytes read failure.Differs is lines objects joins why =
    record { read = read; is = is; holds = why }

-- the same of a run that is accounted for
pub judged_cause : (image : Bool) (command : Command) (bytes : List ℕ) (read : PolicyRead) (f : Failure) →
    IsPolicyRead bytes read → IsCauseIn (accounted_intake image) command (drop read.rest bytes) f →
    IsCauseIn (AfterPolicy (accounted_intake image)) command bytes f
judged_cause true command bytes read f is why =
    policy_cause (accounted_intake true) command bytes read f is (λ line h. h) (λ index cause h. h) (λ fault h. h) why
judged_cause false command bytes read f is why =
    policy_cause (accounted_intake false) command bytes read f is (λ line h. h) (λ index cause h. h) (λ fault h. h) why

pub judge_cause : (options : JudgeOptions) (bytes : List ℕ) (read : PolicyRead) (text : List ℕ) →
    text ≡ drop read.rest bytes → IsPolicyRead bytes read → (f : Failure) →
    IsCauseOfAny (accounted_intake options.image) text f → IsOutputCause (commands.Judge options) bytes f
judge_cause options bytes read text rest is f why =
    judged_cause options.image (commands.Judge options) bytes read f is
    (subst (λ text. IsCauseIn (accounted_intake options.image) (commands.Judge options) text f) rest
    (why (commands.Judge options) refl refl))

-- ONE OUTPUT

-- what is written depends on the image only for a command that compiles
same_output : (command : Command) (program : ProgramTree) (one other : ImageParts) →
    (IsTrue (compiles command) → one ≡ other) → output command program one ≡ output command program other
same_output commands.Check program one other same = refl
same_output (commands.Meaning options) program one other same = refl
same_output commands.Compile program one other same = ap (output commands.Compile program) (same refl)
same_output (commands.Object options) program one other same = refl
same_output commands.Link program one other same = refl
same_output (commands.Run options) program one other same = ap (output (commands.Run options) program) (same refl)
same_output (commands.Explain options) program one other same = refl
same_output (commands.Judge options) program one other same = refl
same_output (commands.Exec options) program one other same = refl
same_output (commands.Tags options range) program one other same = refl
same_output (commands.Make options) program one other same = refl

-- a program has one image
pub one_image : (program : ProgramTree) (one other : ImageParts) → image_of program ≡ Ok one →
    image_of program ≡ Ok other → one ≡ other
one_image program one other is known =
    let same = sym is ∙ known in
    cc same

module _
    (one_program : (text : List ℕ) (program other : ProgramTree) →
    Accepts text program → Accepts text other → program ≡ other) where
  one_text : (command : Command) (bytes text other : List ℕ) → IsTextOutput command bytes text →
      IsTextOutput command bytes other → text ≡ other
  one_text command bytes text other is known =
      let program = one_program bytes is.program known.program is.accepted known.accepted in
      let image : IsTrue _ → is.image ≡ known.image =
      λ c. one_image known.program _ _ (subst (λ p. image_of p ≡ Ok is.image) program (is.compiled c).compiled)
      (known.compiled c).compiled in
      is.written ∙ (ap (λ p. output command p _) program ∙
      (same_output command known.program _ _ image ∙ sym known.written))

  one_run : BytesNameOneImage → (options : RunOptions) (bytes text other : List ℕ) → IsExecuted options bytes text →
      IsExecuted options bytes other → text ≡ other
  one_run one options bytes text other is known =
      is.written ∙ (ap (λ i. machine_text (image_interfaces i) options i)
      (one bytes _ _ is.read.well_formed known.read.well_formed is.read.bytes_are known.read.bytes_are)
      ∙ sym known.written)

  one_tagged : BytesNameOneImage → (options : RunOptions) (range : Option DataRange) (bytes text other : List ℕ) →
      IsTagged options range bytes text → IsTagged options range bytes other → text ≡ other
  one_tagged one options range bytes text other is known =
      is.written ∙ (ap (λ i. tag_text (image_interfaces i) options range i)
      (one bytes _ _ is.read.well_formed known.read.well_formed is.read.bytes_are known.read.bytes_are)
      ∙ sym known.written)

  one_made : (summary : Bool) (options : MakeOptions) (text other : List ℕ) → IsMadeBy summary options text →
      IsMadeBy summary options other → text ≡ other
  one_made true options text other is known = one_summary one_program options text other is known
  one_made false options text other is known = is.written ∙ sym known.written

  one_object : (section bytes text other : List ℕ) → IsObjectOutput section bytes text →
      IsObjectOutput section bytes other → text ≡ other
  one_object section bytes text other is known =
      let program = one_program bytes is.program known.program is.accepted known.accepted in
      let image = one_image known.program is.is.image known.is.image
      (subst (λ p. image_of p ≡ Ok is.is.image) program is.is.compiled) known.is.compiled in
      let named = subst (λ (p : ProgramTree). comp_named p.interfaces section ≡ Some is.comp) program is.named in
      let comp = same_some _ is.comp known.comp named known.named in
      is.written ∙ (ap object_bytes (is.is.is ∙ (ap₂ object_of image comp ∙ sym known.is.is)) ∙ sym known.written)

  one_linked : BytesNameOneList → (bytes text other : List ℕ) → IsLinked bytes text → IsLinked bytes other →
      text ≡ other
  one_linked one bytes text other is known =
      let same = one bytes is.can.objects known.can.objects is.can.read known.can.read in
      let joined = subst (λ objects. IsJoined objects is.image) same is.joined in
      let head = same_some _ joined.head known.joined.head joined.first known.joined.first in
      is.written ∙ (ap image_bytes (joined.joined ∙ (ap (λ h. join_as h known.can.objects) head ∙
      sym known.joined.joined)) ∙ sym known.written)

  module _ (one : BytesNameOneImage) (one_list : BytesNameOneList) (one_policy : (bytes : List ℕ)
      (one other : PolicyRead) → IsPolicyRead bytes one → IsPolicyRead bytes other → one ≡ other) where
    -- a command has one output
    pub one_output : (command : Command) (bytes text other : List ℕ) → IsOutput command bytes text →
        IsOutput command bytes other → text ≡ other
    one_output commands.Check bytes text other is known = one_text _ bytes text other is known
    one_output (commands.Meaning options) bytes text other is known = one_text _ bytes text other is known
    one_output commands.Compile bytes text other is known = one_text _ bytes text other is known
    one_output (commands.Object options) bytes text other is known =
        one_object options.section bytes text other is known
    one_output commands.Link bytes text other is known = one_linked one_list bytes text other is known
    one_output (commands.Run options) bytes text other is known = one_text _ bytes text other is known
    one_output (commands.Explain options) bytes text other is known =
        one_account one_program options bytes text other is known
    one_output (commands.Judge options) bytes text other is known =
        one_verdict one_program one_policy options bytes text other is known
    one_output (commands.Exec options) bytes text other is known = one_run one options bytes text other is known
    one_output (commands.Tags options range) bytes text other is known =
        one_tagged one options range bytes text other is known
    one_output (commands.Make options) bytes text other is known = one_made _ options text other is known
