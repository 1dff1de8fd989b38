-- What an answer says, from what was read.
use Rattle.sc_top.proofs.Common.{Accepts, Answers, Check, Command, Compile, Exec, Explain, Fails, Failure}
use Rattle.sc_top.proofs.Common.{Bool, HasAccount, HasAccountIn, ImageParts, IsGoodWith, accounted_intake, false}
use Rattle.sc_top.proofs.Common.{is_listed, limit_in, true}
use Rattle.sc_top.specs.Answer.{IsGoodIn, IsLonger}
use Rattle.sc_top.specs.Failure.{IsInputCause, status_of}
use Rattle.sc_top.proofs.Common.{IsOutputCause}
use Rattle.sc_top.proofs.Common.{IsAnswer, IsBadAt, IsErrOf, IsGood, IsGoodText, IsImage, IsInput}
use Rattle.sc_top.proofs.Common.{IsObjectOutput, IsOutput, IsPolicyRead, IsTextOutput, IsUndisturbed, IsWhole, IsWithin}
use Rattle.sc_top.proofs.Common.{IsWithinLimit, Judge, List, Make, Meaning, None, Object, Option, PolicyRead}
use Rattle.sc_top.proofs.Common.{ProgramTree, Result, Run, RunOptions, SameAnswer, Says, Some, Status, Takes, Traffic}
use Rattle.sc_top.proofs.Common.{ap, append-nil, arith, built_image, comp_named, drop, inl, inr, intake, length}
use Rattle.sc_top.proofs.Common.{length-append, limit_of, lines_of, none-some, refl, section_of, status_by, subst, sym}
use Rattle.sc_top.proofs.Common.{ℕ, ⊎_elim, ◌++◌, ◌+◌, ◌∙◌, ◌≡◌, ◌≤◌, ◌⊎◌, IsSome}
use Rattle.sc_lex.specs.declared.refusal.Phase.{Phase}
use Rattle.sc_lex.specs.declared.refusal.Phase.TheVariants.{Syntax}
use Rattle.sc_object.specs.Prelude.{BytesNameOneList, OneFirstBad}
use Rattle.sc_top.specs.Answer.{HasRead}
use Rattle.sc_top_words.specs.declared.command.Command.TheVariants as commands
use Rattle.sc_top_words.specs.declared.command.ObjectOptions.{ObjectOptions}
use Rattle.sc_top.specs.declared.failure.Failure.TheVariants as failure
use Rattle.sc_top.specs.declared.status.Status.TheVariants as status
use Rattle.sc_top.proofs.Causes.{Cause, good_or_cause, nothing_fails, one_cause, same_by, same_some}
use Rattle.sc_top.proofs.Large.{fits_of}
use Rattle.sc_top.proofs.Lengths.{image_is_short}
use Rattle.sc_top.proofs.Outputs.{asks_none}

-- words that are no command are answered so
pub no_command_by : {A : Type 0} (r : Result A Failure) → IsErrOf r failure.Usage ⊎ IsErrOf r failure.OutOfMemory →
    (status_by r ≡ status.Usage) ⊎ (status_by r ≡ status.OutOfMemory)
no_command_by r h = ⊎_elim (λ e. inl (ap status_by e)) (λ e. inr (ap status_by e)) h

-- What a failure says.

-- where the input wasn't read whole
pub read_says : (c : Command) (t : Traffic) (f : Failure) →
    IsInputCause (limit_of c) t.left t.left_after t.read_faults t.read_faults_after f → Says c t (status_of f)
read_says c t failure.Usage why = why
read_says c t (failure.Refused refusal) why = absurd why
read_says c t (failure.TooLarge fault) why = absurd why
read_says c t (failure.TooLong most) why = inl why
read_says c t (failure.BadImage cause) why = absurd why
read_says c t failure.ReadFault why = why
read_says c t failure.WriteFault why = absurd why
read_says c t failure.OutOfMemory why = tt
read_says c t (failure.BadObject index cause) why = absurd why
read_says c t (failure.BadJoin fault) why = absurd why
read_says c t (failure.NoSection name) why = absurd why
read_says c t (failure.BadPolicy line) why = absurd why
read_says c t failure.Differs why = absurd why

-- where there is no output for it
pub output_says : (c : Command) (t : Traffic) (bytes : List ℕ) (f : Failure) →
    IsInput (limit_of c) t.left t.left_after bytes → IsOutputCause c bytes f → Says c t (status_of f)
output_says c t bytes failure.Usage input why = why
output_says c t bytes (failure.Refused refusal) input why = record { bytes = bytes; input = input; holds = why }
output_says c t bytes (failure.TooLarge fault) input why = record { bytes = bytes; input = input; holds = why }
output_says c t bytes (failure.TooLong most) input why = inr (record { bytes = bytes; input = input; holds = why })
output_says c t bytes (failure.BadImage cause) input why = record { bytes = bytes; input = input; holds = why }
output_says c t bytes failure.ReadFault input why = absurd why
output_says c t bytes failure.WriteFault input why = absurd why
output_says c t bytes failure.OutOfMemory input why = tt
output_says c t bytes (failure.BadObject index cause) input why =
    record { bytes = bytes; input = input; holds = why }
output_says c t bytes (failure.BadJoin fault) input why = record { bytes = bytes; input = input; holds = why }
output_says c t bytes (failure.NoSection name) input why = record { bytes = bytes; input = input; holds = why }
output_says c t bytes (failure.BadPolicy line) input why = record { bytes = bytes; input = input; holds = why }
output_says c t bytes failure.Differs input why = record { bytes = bytes; input = input; holds = why }

-- The one answer.

-- all that was left is the text
all_left : (limit : ℕ) (text bytes : List ℕ) (after : Option (List ℕ)) → IsWhole limit (Some text) after bytes →
    bytes ≡ text
all_left limit text bytes None w = absurd w.read
all_left limit text bytes (Some rest) w =
    let taken = w.read in
    let nothing = w.ended in
    sym (taken ∙ ap (λ r. bytes ++ r) nothing ∙ append-nil bytes)

-- what was read is a prefix of the text
as_long : (text bytes : List ℕ) (after : Option (List ℕ)) → Takes (Some text) after bytes → length bytes ≤ length text
as_long text bytes None taken = absurd taken
as_long text bytes (Some rest) taken = omega (arith, length-append bytes rest, ap length taken)

-- what a command read is the whole text, and within its limit; or it reads nothing
input_at : (limit : Option ℕ) (text bytes : List ℕ) (after : Option (List ℕ)) → IsInput limit (Some text) after bytes →
    ((bytes ≡ text) × IsWithinLimit limit text) ⊎ (limit ≡ None)
input_at None text bytes after input = inr refl
input_at (Some limit) text bytes after input =
    let same = all_left limit text bytes after input in
    inl (same, subst (λ t. length t ≤ limit) same input.within)

-- a command that reads nothing, so that its output is the same for all bytes
record Reads (c : Command) : Type 0 where
  pub same : (bytes other text : List ℕ) → IsOutput c bytes text → IsOutput c other text
  pub none : (bytes : List ℕ) (s : Status) → Cause (intake c) c bytes s → ⊥

-- where a run is accounted for something is read
accounts_read : (image : Bool) → limit_in (accounted_intake image) ≡ None → ⊥
accounts_read true none = none-some 67108864 (sym none)
accounts_read false none = none-some 1048576 (sym none)

reads_nothing : (c : Command) → limit_of c ≡ None → Reads c
reads_nothing Check none = absurd (none-some 8388608 (sym none))
reads_nothing (Meaning options) none = absurd (none-some 8388608 (sym none))
reads_nothing Compile none = absurd (none-some 1048576 (sym none))
reads_nothing (Object options) none = absurd (none-some 1048576 (sym none))
reads_nothing commands.Link none = absurd (none-some 67108864 (sym none))
reads_nothing (Run options) none = absurd (none-some 1048576 (sym none))
reads_nothing (Explain options) none = absurd (accounts_read options.image none)
reads_nothing (Judge options) none = absurd (accounts_read options.image none)
reads_nothing (Exec options) none = absurd (none-some 67108864 (sym none))
reads_nothing (commands.Tags options range) none = absurd (none-some 67108864 (sym none))
reads_nothing (Make options) none =
    record { same = λ bytes other text o. o; none = λ bytes s h. nothing_fails (Make options) bytes s h }

within_none : (limit : Option ℕ) (text : List ℕ) → limit ≡ None → IsWithinLimit limit text
within_none None text none = tt
within_none (Some limit) text none = absurd (none-some limit (sym none))

-- what held of the bytes that were read holds of the text
read_at : (c : Command) (text : List ℕ) (after : Option (List ℕ)) (bytes : List ℕ) (Q : List ℕ → Type 0) →
    IsInput (limit_of c) (Some text) after bytes → Q bytes
    → (limit_of c ≡ None → Q bytes → Q text) → IsWithin c text × Q text
read_at c text after bytes Q input holds else_ =
    ⊎_elim (λ at. (at.1, subst Q at.0 holds)) (λ none. (within_none _ text none, else_ none holds))
    (input_at _ text bytes after input)

-- a status other than those of the outside is the text's answer
pub answered : (c : Command) (t : Traffic) (text : List ℕ) (s : Status) → Says c t s → t.left ≡ Some text →
    IsUndisturbed t → IsAnswer c text s ⊎ (s ≡ status.OutOfMemory)
answered c t text s says is calm = go s says where
  input_of : (bytes : List ℕ) → IsInput (limit_of c) t.left t.left_after bytes →
      IsInput (limit_of c) (Some text) t.left_after bytes
  input_of bytes input = subst (λ l. IsInput (limit_of c) l t.left_after bytes) is input

  caused : (s : Status) → HasRead c t (λ bytes. Cause (intake c) c bytes s) →
      IsWithin c text × Cause (intake c) c text s
  caused s h =
      read_at c text t.left_after h.bytes (λ bytes. Cause (intake c) c bytes s) (input_of h.bytes h.input) h.holds
      (λ none o. absurd ((reads_nothing c none).none h.bytes s o))

  too_long : (limit : ℕ) → (limit_of c ≡ Some limit) × IsLonger limit t.left t.left_after →
      (limit_of c ≡ Some limit) × (limit + 1 ≤ length text)
  too_long limit h =
      let read : Takes (Some text) t.left_after h.1.bytes = subst (λ l. Takes l t.left_after h.1.bytes) is h.1.read in
      let long = h.1.long in
      (h.0, omega (arith, long, as_long text h.1.bytes t.left_after read))

  go : (s : Status) → Says c t s → IsAnswer c text s ⊎ (s ≡ status.OutOfMemory)
  go status.Done h =
      inl (read_at c text t.left_after h.bytes (λ bytes. (out : List ℕ) × IsOutput c bytes out)
      (input_of h.bytes h.input) (h.holds.text, h.holds.output)
      (λ none o. (o.0, (reads_nothing c none).same h.bytes text o.0 o.1)))
  go status.Usage h = absurd h
  go (status.Refused refusal) h = inl (caused (status.Refused refusal) h)
  go (status.TooLarge fault) h = inl (caused (status.TooLarge fault) h)
  go (status.TooLong limit) h = inl (⊎_elim (λ more. inl (too_long limit more))
      (λ later. inr (caused (status.TooLong limit) later)) h)
  go (status.BadImage cause) h = inl (caused (status.BadImage cause) h)
  go status.ReadFault h = absurd (calm.reads h)
  go status.WriteFault h = absurd (calm.writes h.0)
  go status.OutOfMemory h = inr refl
  go (status.BadObject index cause) h = inl (caused (status.BadObject index cause) h)
  go (status.BadJoin fault) h = inl (caused (status.BadJoin fault) h)
  go (status.NoSection name) h = inl (caused (status.NoSection name) h)
  go (status.BadPolicy line) h = inl (caused (status.BadPolicy line) h)
  go status.Differs h = inl (caused status.Differs h)

-- a command that reads nothing has its output, unless memory runs out or the outside fails
pub made : (c : Command) (t : Traffic) (s : Status) → Says c t s → limit_of c ≡ None → IsUndisturbed t →
    (s ≡ status.Done) ⊎ (s ≡ status.OutOfMemory)
made c t s says none calm = go s says where
  never : (s : Status) → HasRead c t (λ bytes. Cause (intake c) c bytes s) →
      (s ≡ status.Done) ⊎ (s ≡ status.OutOfMemory)
  never s h = absurd ((reads_nothing c none).none h.bytes s h.holds)

  go : (s : Status) → Says c t s → (s ≡ status.Done) ⊎ (s ≡ status.OutOfMemory)
  go status.Done h = inl refl
  go status.Usage h = absurd h
  go (status.Refused refusal) h = never (status.Refused refusal) h
  go (status.TooLarge fault) h = never (status.TooLarge fault) h
  go (status.TooLong limit) h = ⊎_elim (λ more. absurd (none-some limit (sym none ∙ more.0)))
      (λ later. never (status.TooLong limit) later) h
  go (status.BadImage cause) h = never (status.BadImage cause) h
  go status.ReadFault h = absurd (calm.reads h)
  go status.WriteFault h = absurd (calm.writes h.0)
  go status.OutOfMemory h = inr refl
  go (status.BadObject index cause) h = never (status.BadObject index cause) h
  go (status.BadJoin fault) h = never (status.BadJoin fault) h
  go (status.NoSection name) h = never (status.NoSection name) h
  go (status.BadPolicy line) h = never (status.BadPolicy line) h
  go status.Differs h = never status.Differs h

pub image_short : (bytes : List ℕ) → IsImage bytes → length bytes ≤ 66060288
image_short bytes is =
    let are = is.bytes_are in
    subst (λ b. length b ≤ 66060288) (sym are.are) (image_is_short are.version is.image is.well_formed)

pub image_within : (bytes : List ℕ) → IsImage bytes → length bytes ≤ 67108864
image_within bytes is =
    let short = image_short bytes is in
    omega (arith, short)

-- within the limit, bytes are not too long
not_both : (limit : Option ℕ) (text : List ℕ) (most : ℕ) → IsWithinLimit limit text →
    (limit ≡ Some most) × (most + 1 ≤ length text) → ⊥
not_both None text most low long = none-some most long.0
not_both (Some l) text most low long =
    let same = same_some _ l most refl long.0 in
    let more = long.1 in omega (arith, low, same, more)

-- WHAT AN OUTPUT SAYS

-- a text with an output is good
good_text : (c : Command) → section_of c ≡ None → (text out : List ℕ) → IsTextOutput c text out → IsGoodText c text
good_text c plain text out o = record {
  program = o.program;
  accepted = o.accepted;
  there = asks_none c plain o.program;
  fits = λ compiled. fits_of _ _ o.image (o.compiled compiled).compiled;
}

explained_text : (c : Command) → section_of c ≡ None → (options : RunOptions) (text : List ℕ) →
    HasAccount options None text → IsGoodText c text
explained_text c plain options text has = record {
  program = has.source.program;
  there = asks_none c plain has.source.program;
  accepted = subst (λ bytes. Accepts bytes has.source.program) has.whole has.parts.accepted;
  fits = λ compiled. fits_of _ (built_image _) has.explained.image has.explained.compiled;
}

-- a text with an account of an image
explained_with : (c : Command) → section_of c ≡ None → (options : RunOptions) (image : ImageParts) (text : List ℕ) →
    HasAccount options (Some image) text → IsGoodWith c image text
explained_with c plain options image text has = record {
  text = record {
    program = has.source.program;
    there = asks_none c plain has.source.program;
    accepted = subst (λ bytes. Accepts bytes has.source.program) has.whole has.parts.accepted;
    fits = λ compiled. fits_of _ (built_image _) has.explained.own has.explained.compiled;
  };
  own = has.explained.own;
  compiled = has.explained.compiled;
  given = is_listed has.explanation.given;
  but_for = has.explained.differ.but_for;
}

-- bytes with an account
accounted_input : (c : Command) → section_of c ≡ None → (image : Bool) (options : RunOptions) (bytes : List ℕ) →
    HasAccountIn image options bytes → IsGoodIn (accounted_intake image) c bytes
accounted_input c plain true options bytes found =
    let has = subst (HasAccount options found.image) found.are.rest found.has in
    record {
      front = found.are.front;
      holds = (
        subst (λ (text : List ℕ). length text ≤ 1048576) found.are.rest found.are.short,
        explained_with c plain options found.are.front.image (drop found.are.front.place bytes)
            (subst (λ image. HasAccount options image (drop found.are.front.place bytes)) found.are.is has),
      );
    }
accounted_input c plain false options bytes found =
    explained_text c plain options bytes
    (subst (HasAccount options None) found.are.1
    (subst (λ image. HasAccount options image found.text) found.are.0 found.has))

object_text : (options : ObjectOptions) (text out : List ℕ) → IsObjectOutput options.section text out →
    IsGoodText (Object options) text
object_text options text out o = record {
  program = o.program;
  accepted = o.accepted;
  there = λ name is.
      let same : options.section ≡ name = cc is in
      subst (λ n. IsSome (comp_named o.program.interfaces n)) same (subst IsSome (sym o.named) refl);
  fits = λ _. fits_of _ (built_image o.program) o.is.image o.is.compiled;
}

-- input with an output is good
good_output : (c : Command) (bytes out : List ℕ) → IsOutput c bytes out → IsGood c bytes
good_output Check bytes out o = good_text Check refl bytes out o
good_output (Meaning options) bytes out o = good_text (Meaning options) refl bytes out o
good_output Compile bytes out o = good_text Compile refl bytes out o
good_output (Object options) bytes out o = object_text options bytes out o
good_output commands.Link bytes out o = o.can
good_output (Run options) bytes out o = good_text (Run options) refl bytes out o
good_output (Explain options) bytes out o =
    accounted_input (Explain options) refl options.image options.run bytes o.found
good_output (Judge options) bytes out o = record {
  read = o.read;
  is = o.is;
  holds = accounted_input (Judge options) refl options.image options.run (drop o.read.rest bytes) o.found;
}
good_output (Exec options) bytes out o = o.read
good_output (commands.Tags options range) bytes out o = o.read
good_output (Make options) bytes out o = tt

-- What an answer is: an output, more bytes than the limit, or a cause.
data Answered (c : Command) (text : List ℕ) (s : Status) : Type 0 where
  WithOutput : s ≡ status.Done → IsWithin c text → (out : List ℕ) → IsOutput c text out → Answered c text s
  WithMore : (limit : ℕ) → s ≡ status.TooLong limit → (limit_of c ≡ Some limit) × (limit + 1 ≤ length text) →
      Answered c text s
  WithCause : IsWithin c text → Cause (intake c) c text s → Answered c text s

answer_is : (c : Command) (text : List ℕ) (s : Status) → IsAnswer c text s → Answered c text s
answer_is c text status.Done a = WithOutput refl a.0 a.1.0 a.1.1
answer_is c text status.Usage a = absurd a
answer_is c text (status.Refused r) a = WithCause a.0 a.1
answer_is c text (status.TooLarge fault) a = WithCause a.0 a.1
answer_is c text (status.TooLong limit) a = ⊎_elim (λ more. WithMore limit refl more)
    (λ later. WithCause later.0 later.1) a
answer_is c text (status.BadImage cause) a = WithCause a.0 a.1
answer_is c text status.ReadFault a = absurd a
answer_is c text status.WriteFault a = absurd a
answer_is c text status.OutOfMemory a = absurd a
answer_is c text (status.BadObject index cause) a = WithCause a.0 a.1
answer_is c text (status.BadJoin fault) a = WithCause a.0 a.1
answer_is c text (status.NoSection name) a = WithCause a.0 a.1
answer_is c text (status.BadPolicy line) a = WithCause a.0 a.1
answer_is c text status.Differs a = WithCause a.0 a.1

module _
    (accepted_or_refused : (text : List ℕ) (program : ProgramTree) (phase : Phase) (line : ℕ) →
    Accepts text program → Fails text phase line → ⊥)
    (one_phase : (text : List ℕ) (phase other : Phase) (line later : ℕ) → Fails text phase line →
    Fails text other later → (phase ≡ other) × ((phase ≡ Syntax → ⊥) → line ≡ later))
    (one_program : (text : List ℕ) (program other : ProgramTree) →
    Accepts text program → Accepts text other → program ≡ other)
    (one_policy : (bytes : List ℕ) (one other : PolicyRead) → IsPolicyRead bytes one → IsPolicyRead bytes other →
    one ≡ other)
    (policy_or_bad : (bytes : List ℕ) (read : PolicyRead) (line : ℕ) → IsPolicyRead bytes read →
    IsBadAt (lines_of bytes) line → ⊥)
    (one_bad : (lines : List (List ℕ)) (one other : ℕ) → IsBadAt lines one → IsBadAt lines other → one ≡ other)
    (one_list : BytesNameOneList) (one_first : OneFirstBad) where
  -- where there is an output there is no cause
  output_or_cause : (c : Command) (bytes out : List ℕ) (s : Status) → IsOutput c bytes out →
      Cause (intake c) c bytes s → ⊥
  output_or_cause c bytes out s o h =
      good_or_cause accepted_or_refused one_phase one_program one_policy policy_or_bad one_bad one_list one_first
      (intake c) c bytes s (good_output c bytes out o) h

  one_of_two : (c : Command) (text : List ℕ) (s t : Status) → Answered c text s → Answered c text t → SameAnswer s t
  one_of_two c text s t (WithOutput is low out o) (WithOutput known high other p) = same_by s t _ _ is known refl
  one_of_two c text s t (WithOutput is low out o) (WithMore limit known long) =
      absurd (not_both (limit_of c) text limit low long)
  one_of_two c text s t (WithOutput is low out o) (WithCause within h) = absurd (output_or_cause c text out t o h)
  one_of_two c text s t (WithMore limit is long) (WithOutput known low out o) =
      absurd (not_both (limit_of c) text limit low long)
  one_of_two c text s t (WithMore limit is long) (WithMore most known longer) =
      same_by s t _ _ is known (ap status.TooLong (same_some (limit_of c) limit most long.0 longer.0))
  one_of_two c text s t (WithMore limit is long) (WithCause within h) =
      absurd (not_both (limit_of c) text limit within long)
  one_of_two c text s t (WithCause within h) (WithOutput known low out o) =
      absurd (output_or_cause c text out s o h)
  one_of_two c text s t (WithCause within h) (WithMore limit known long) =
      absurd (not_both (limit_of c) text limit within long)
  one_of_two c text s t (WithCause within h) (WithCause low k) =
      one_cause accepted_or_refused one_phase one_program one_policy policy_or_bad one_bad one_list one_first
      (intake c) c text s t h k

  -- bytes have one answer
  pub one_answer : (c : Command) (text : List ℕ) (s t : Status) → IsAnswer c text s → IsAnswer c text t → SameAnswer s t
  one_answer c text s t a b = one_of_two c text s t (answer_is c text s a) (answer_is c text t b)

  -- good input has no answer but `Done`
  only_done : (c : Command) (text : List ℕ) (s : Status) → IsWithin c text → IsGood c text → Answered c text s →
      s ≡ status.Done
  only_done c text s within good (WithOutput is low out o) = is
  only_done c text s within good (WithMore limit is long) = absurd (not_both (limit_of c) text limit within long)
  only_done c text s within good (WithCause low h) =
      absurd (good_or_cause accepted_or_refused one_phase one_program one_policy policy_or_bad one_bad one_list
      one_first (intake c) c text s good h)

  pub completed : (c : Command) (t : Traffic) (text : List ℕ) (s : Status) → Says c t s → t.left ≡ Some text →
      IsUndisturbed t → IsWithin c text → IsGood c text → (s ≡ status.Done) ⊎ (s ≡ status.OutOfMemory)
  completed c t text s says is calm within good =
      ⊎_elim (λ answer. inl (only_done c text s within good (answer_is c text s answer))) inr
      (answered c t text s says is calm)

  -- all that an answer says
  answers_all : (asked : Option Command) (t : Traffic) (s : Status) →
      (asked ≡ None → (s ≡ status.Usage) ⊎ (s ≡ status.OutOfMemory)) → ((c : Command) → asked ≡ Some c → Says c t s) →
      Answers asked t s
  answers_all asked t s no_command says =
      record {
        no_command = no_command;
        says = says;
        answered = λ c bytes is left calm. answered c t bytes s (says c is) left calm;
        complete = λ c bytes is left calm within good. completed c t bytes s (says c is) left calm within good;
        made = λ c is none calm. made c t s (says c is) none calm;
      }

  -- the same of the call that gives the status
  pub answers_by : {A : Type 0} (asked : Option Command) (t : Traffic) (r : Result A Failure) (s : Status) →
      s ≡ status_by r → (asked ≡ None → IsErrOf r failure.Usage ⊎ IsErrOf r failure.OutOfMemory) →
      ((c : Command) → asked ≡ Some c → Says c t (status_by r)) → Answers asked t s
  answers_by asked t r s is no_command says =
      subst (Answers asked t) (sym is) (answers_all asked t _ (λ none. no_command_by r (no_command none)) says)
