-- The numbers of all events stand for something: in the meaning of a program, and where the machine runs an image.
use Rattle.sc_top.proofs.Common.{All, All-map, Err, Event, IfOk, ImageParts, Interfaces, IsCompiled, IsExecuted}
use Rattle.sc_top.proofs.Common.{IsKnown, IsSome, IsTrue, IsWellFormed, IsWellTyped, IsWord, List, Ok, ProgramTree}
use Rattle.sc_top.proofs.Common.{Result, RunOptions, TypedSection, [], and_parts, ap, arith, c_arith, comp_at}
use Rattle.sc_top.proofs.Common.{false≢true, image_interfaces, legal as is_legal, length, length-map}
use Rattle.sc_top.proofs.Common.{machine_run, machine_text, main_fits, map, meaning_asked, refl, run_text, sections_fit}
use Rattle.sc_top.proofs.Common.{slice_get, subst, suc, sym, true, word_of, zero, ℕ, ℤ, ◌<◌, ◌∙◌, ◌∷◌, ◌≡◌}
use Rattle.sc_core_laws.specs.Prelude.{TracesAreLegal as SourceTracesAreLegal}
use Rattle.sc_image.specs.Prelude.{AreBytesOf, MachineTracesAreLegal}
use Rattle.sc_event.specs.declared.interface.Interface.{Interface}
use Rattle.sc_event.proofs.Known.{legal_is_known}
use Rattle.sc_word.proofs.Words.{word_of-lt}
use Rattle.sc_base.specs.declared.stop.Stop.{Stop}
use Rattle.sc_top_words.specs.declared.command.MeaningOptions.{MeaningOptions}
use Rattle.sc_top_words.specs.declared.command.DataRange.{DataRange}
use Rattle.sc_tags.specs.Prelude.{TagTracesAreKnown, tag_machine, tag_run as tagged_on}
use Rattle.sc_tags.specs.Progress.{TagProgress, tag_loaded, tag_run_of}
use Rattle.sc_tags.specs.declared.tag.TagRange.{TagRange}
use Rattle.sc_image.specs.Prelude.{continued}
use Rattle.sc_store.specs.Prelude.{ByteMemory}
use Rattle.sc_top.specs.Tagged.{IsTagged, ranges_of, tag_run, tag_text}
use Rattle.std.specs.Prelude.{Option}

pub within : {A : Type 0} (xs : List A) (n : ℕ) → n < length xs → IsSome (slice_get xs n)
within [] n lt = absurd (omega arith)
within (x ∷ xs) zero lt = refl
within (x ∷ xs) (suc n) lt = within xs n (omega arith)

-- the main compartment is one of the image
main_known : (image : ImageParts) → IsWellFormed image →
    IsSome (comp_at (image_interfaces image) (image_interfaces image).main)
main_known image formed =
    within (image_interfaces image).comps image.main (subst (λ n. image.main < n) (sym (length-map _ _)) formed.main)

-- a program has as many compartments as sections, and its main compartment is one of them
as_many : (interfaces : Interfaces) (comp : ℕ) (comps : List Interface) (sections : List TypedSection) →
    IsTrue (sections_fit interfaces comp comps sections) → length comps ≡ length sections
as_many interfaces comp [] [] fit = refl
as_many interfaces comp [] (section ∷ sections) fit = absurd (false≢true fit)
as_many interfaces comp (i ∷ comps) [] fit = absurd (false≢true fit)
as_many interfaces comp (i ∷ comps) (section ∷ sections) fit =
    ap suc (as_many interfaces (suc comp) comps _ (and_parts _ _ (and_parts _ _ fit).1).1)

main_there : (sections : List TypedSection) (main : ℕ) → IsTrue (main_fits (slice_get sections main)) →
    main < length sections
main_there [] main fit = absurd (false≢true fit)
main_there (section ∷ sections) zero fit = omega arith
main_there (section ∷ sections) (suc main) fit = let less = main_there sections main fit in omega (arith, less)

-- of a program both hold
record HasMain (program : ProgramTree) : Type 0 where
  as_many : length program.interfaces.comps ≡ length program.sections
  main : program.interfaces.main < length program.sections

has_main : (program : ProgramTree) → IsWellTyped program → HasMain program
has_main program typed =
    let following = (and_parts _ _ (and_parts _ _ typed).1).1 in
    let fit = (and_parts _ _ following).0 in
    let main = (and_parts _ _ (and_parts _ _ following).1).0 in
    record {
      as_many = as_many program.interfaces 0 _ _ fit;
      main = main_there _ _ main;
    }

pub sections_are : (program : ProgramTree) → IsWellTyped program →
    length program.interfaces.comps ≡ length program.sections
sections_are program typed = (has_main program typed).as_many

program_main : (program : ProgramTree) → IsWellTyped program →
    IsSome (comp_at program.interfaces program.interfaces.main)
program_main program typed =
    let has = has_main program typed in
    within program.interfaces.comps program.interfaces.main
    (subst (λ n. program.interfaces.main < n) (sym has.as_many) has.main)

-- the trace of a program is known by its names: such traces are legal
pub meant_known : SourceTracesAreLegal → (options : MeaningOptions) (program : ProgramTree) → IsWellTyped program →
    All (IsKnown program.interfaces) (meaning_asked options program).trace
meant_known legal options program typed =
    legal_is_known _ (meaning_asked options program).trace (program_main program typed) (legal.meaning c_arith program _
    _ _)

-- words of inputs are words
pub inputs_are_words : (inputs : List ℤ) → All IsWord (map word_of inputs)
inputs_are_words inputs = All-map IsWord word_of inputs (λ i d within. word_of-lt _)

-- the machine's trace on the image of a program is known by the program's names: such traces are legal
pub compiled_known : (options : RunOptions) (program : ProgramTree) (image : ImageParts) → IsWellTyped program →
    IsCompiled program image → All (IsKnown program.interfaces) (machine_run options image).state.trace
compiled_known options program image typed is =
    legal_is_known _ (machine_run options image).state.trace (program_main program typed)
    (is.allowed _ _ _ (inputs_are_words _))

-- a legal trace is known by the names
pub legal_known : (program : ProgramTree) (trace : List Event) → IsWellTyped program →
    is_legal program.interfaces trace ≡ true → All (IsKnown program.interfaces) trace
legal_known program trace typed allowed = legal_is_known _ trace (program_main program typed) allowed

-- the machine's trace on an image is known by the image's names: such traces are legal
pub machine_run_known : MachineTracesAreLegal → (options : RunOptions) (image : ImageParts) → IsWellFormed image →
    All (IsKnown (image_interfaces image)) (machine_run options image).state.trace
machine_run_known legal options image formed =
    legal_is_known _ (machine_run options image).state.trace (main_known image formed)
    (legal image _ _ _ formed (inputs_are_words _))

-- the run's text, from what was found of the run
pub text_printed : {E : Type 0} (r : Result (List ℕ) E) (names : Interfaces) (options : RunOptions) (image : ImageParts)
    (trace : List Event) (stop : Stop) →
    trace ≡ (machine_run options image).state.trace → stop ≡ (machine_run options image).stop →
    IfOk r (λ text. text ≡ run_text names trace stop) → IfOk r (λ text. text ≡ machine_text names options image)
text_printed (Ok text) names options image trace stop events why printed = printed ∙ rw (events, why) refl
text_printed (Err fault) names options image trace stop events why printed = tt

-- an image that was read and run
pub executed : (options : RunOptions) (bytes text : List ℕ) (image : ImageParts) → AreBytesOf image bytes →
    IsWellFormed image → text ≡ machine_text (image_interfaces image) options image → IsExecuted options bytes text
executed options bytes text image bytes_are formed printed =
    record { read = record { image = image; well_formed = formed; bytes_are = bytes_are }; written = printed }

-- The machine with tags.

pub tag_run_known : TagTracesAreKnown → (options : RunOptions) (range : Option DataRange) (image : ImageParts) →
    IsWellFormed image → All (IsKnown (image_interfaces image)) (tag_run options range image).state.core.trace
tag_run_known known options range image formed = known image (ranges_of range) _ _ _ formed

-- the run's text, from what was found of the run
pub tag_printed : {E : Type 0} (r : Result (List ℕ) E) (names : Interfaces) (options : RunOptions)
    (range : Option DataRange) (image : ImageParts) (trace : List Event) (stop : Stop) →
    trace ≡ (tag_run options range image).state.core.trace → stop ≡ (tag_run options range image).stop →
    IfOk r (λ text. text ≡ run_text names trace stop) → IfOk r (λ text. text ≡ tag_text names options range image)
tag_printed (Ok text) names options range image trace stop events why printed = printed ∙ rw (events, why) refl
tag_printed (Err fault) names options range image trace stop events why printed = tt

pub tagged : (options : RunOptions) (range : Option DataRange) (bytes text : List ℕ) (image : ImageParts) →
    AreBytesOf image bytes → IsWellFormed image → text ≡ tag_text (image_interfaces image) options range image →
    IsTagged options range bytes text
tagged options range bytes text image bytes_are formed printed =
    record { read = record { image = image; well_formed = formed; bytes_are = bytes_are }; written = printed }

-- a machine with tags that was loaded and called once
pub called_once : {S : Type 0} (bytes : S → ByteMemory) (old new : TagProgress S) (image : ImageParts)
    (ranges : List TagRange) (inputs : List ℕ) (steps events : ℕ) → tag_run_of bytes new ≡
    continued (tagged_on old.machine.image old.ranges old.machine.inputs old.machine.events steps)
    (tag_run_of bytes old) → old.machine.image ≡ image → old.ranges ≡ ranges → old.machine.inputs ≡ inputs →
    old.machine.events ≡ events → tag_run_of bytes old ≡ tag_loaded image →
    tag_run_of bytes new ≡ tag_machine image ranges inputs steps events
called_once bytes old new image ranges inputs steps events ran same_image same_ranges same_inputs same_events loads =
    ran ∙ ((λ i. continued (tagged_on (same_image i) (same_ranges i) (same_inputs i) (same_events i) steps)
    (tag_run_of bytes old)) ∙ ap (continued (tagged_on image ranges inputs events steps)) loads)
