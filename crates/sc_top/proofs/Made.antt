-- Made programs fit.
use Rattle.sc_top.proofs.Common.{Accepts, AllByRecursion, AreSmall, CompileFault, DataTooLarge, Err, Explanation}
use Rattle.sc_top.proofs.Common.{FrameTooLarge, IfOk, Interfaces, IsAccepted, IsExplained, IsMadeText, IsSmall}
use Rattle.sc_top.proofs.Common.{IsSource, IsSummary, List, MakeOptions, None, Ok, ProgramTree, Result, SourceParts}
use Rattle.sc_top.proofs.Common.{TypedFunction, TypedSection, [], above, ap, ap₂, arith, built_image, data_size, first}
use Rattle.sc_top.proofs.Common.{flat_map, faults_from, frame_bytes, if◌then◌else◌, image_of, large_code, large_data}
use Rattle.sc_top.proofs.Common.{large_frame, large_frames, le-ltb, length, most_globals, recursion_from_All, refl}
use Rattle.sc_top.proofs.Common.{stretch}
use Rattle.sc_top.proofs.Common.{subst, suc, summary_text, sym, too_large, unless_large, ℕ, ◌++◌, ◌∙◌, ◌∷◌, ◌≡◌, ◌≤◌}
use Rattle.sc_report.specs.Made.{made_text}

none_above : (limit size : ℕ) (fault : CompileFault) → size ≤ limit → above limit size fault ≡ []
none_above limit size fault few = ap (λ large. if large then fault ∷ [] else []) (le-ltb limit size few)

both_none : (xs ys : List CompileFault) → xs ≡ [] → ys ≡ [] → xs ++ ys ≡ []
both_none xs ys here following = ap₂ (λ a b. a ++ b) here following

none_found : (find : ℕ → TypedSection → List CompileFault) →
    ((comp : ℕ) (section : TypedSection) → IsSmall section → find comp section ≡ []) →
    (comp : ℕ) (sections : List TypedSection) → AllByRecursion IsSmall sections → faults_from find comp sections ≡ []
none_found find each comp [] small = refl
none_found find each comp (section ∷ sections) small =
    both_none (find comp section) (faults_from find _ _) (each comp section small.0)
    (none_found find each (suc comp) sections small.1)

data_fit : (comp : ℕ) (section : TypedSection) → IsSmall section → large_data comp section ≡ []
data_fit comp section small =
    let cells = small.cells in
    none_above most_globals (data_size section) (DataTooLarge comp (data_size section)) (omega (arith, cells))

each_frame_fits : (comp : ℕ) (section : TypedSection) (functions : List TypedFunction) →
    AllByRecursion (λ f. frame_bytes section f ≤ 32768) functions → flat_map (large_frame comp section) functions ≡ []
each_frame_fits comp section [] small = refl
each_frame_fits comp section (f ∷ functions) small =
    both_none (large_frame comp section f) (flat_map (large_frame comp section) functions)
    (none_above _ _ (FrameTooLarge comp f.name (frame_bytes section f)) small.0)
    (each_frame_fits comp section functions small.1)

frames_fit : (comp : ℕ) (section : TypedSection) → IsSmall section → large_frames comp section ≡ []
frames_fit comp section small = each_frame_fits comp section section.functions (recursion_from_All _ _ small.frames)

code_fits : (comp : ℕ) (section : TypedSection) → IsSmall section → large_code comp section ≡ []
code_fits comp section small =
    let nodes = small.nodes in
    none_above stretch _ _ (omega (arith, nodes))

-- nothing of a small program is too large
pub small_fits : (program : ProgramTree) → AreSmall program → too_large program ≡ None
small_fits program small =
    let each = recursion_from_All IsSmall _ small in
    ap first (both_none (faults_from large_data 0 program.sections)
    (faults_from large_frames 0 program.sections ++ faults_from large_code 0 program.sections)
    (none_found large_data data_fit 0 _ each)
    (both_none (faults_from large_frames 0 program.sections) (faults_from large_code 0 program.sections)
    (none_found large_frames frames_fit 0 _ each) (none_found large_code code_fits 0 _ each)))

-- the text of a made program
made_output : (options : MakeOptions) (text : List ℕ) → IsAccepted (made_text options.size options.seed) →
    text ≡ made_text options.size options.seed → IsMadeText options text
made_output options text accepted written =
    let is = subst (λ bytes. Accepts bytes accepted.program) (sym written) accepted.accepted in
    record {
      written = written;
      good = λ command has. record {
        program = accepted.program;
        accepted = is;
        there = has accepted.program is;
        fits = λ _. small_fits accepted.program accepted.small;
      };
      short = subst (λ bytes. length bytes ≤ 1048576) (sym written) accepted.short;
    }

pub made_result : {E : Type 0} (result : Result (List ℕ) E) (options : MakeOptions) →
    IsAccepted (made_text options.size options.seed) →
    IfOk result (λ text. text ≡ made_text options.size options.seed) → IfOk result (IsMadeText options)
made_result (Ok text) options accepted written = made_output options text accepted written
made_result (Err fault) options accepted written = tt

-- the summary of one
pub summary_result : {E : Type 0} (result : Result (List ℕ) E) (options : MakeOptions) (source : SourceParts)
    (names : Interfaces) (explanation : Explanation) → IsSource source →
    source.bytes ≡ made_text options.size options.seed → names ≡ source.program.interfaces →
    IsExplained source [] 16777216 4096 explanation →
    IfOk result (λ text. text ≡ summary_text options.size names explanation) → IfOk result (IsSummary options)
summary_result (Ok text) options source names explanation parts made same explained written =
    record {
      source = source;
      parts = parts;
      made = made;
      explanation = explanation;
      explained = explained;
      written = written ∙ ap (λ names. summary_text options.size names explanation) same;
    }
summary_result (Err fault) options source names explanation parts made same explained written = tt

-- a made text is read as the program that it is accepted as, which fits
pub read_fits : (bytes : List ℕ) (accepted : IsAccepted bytes) (program : ProgramTree) →
    ((text : List ℕ) (program other : ProgramTree) → Accepts text program → Accepts text other → program ≡ other) →
    Accepts bytes program → too_large program ≡ None
read_fits bytes accepted program one_program is =
    subst (λ p. too_large p ≡ None)
    (one_program bytes _ program accepted.accepted is) (small_fits accepted.program accepted.small)
