-- What `run` and `exec` write for texts and images that are the same outside a set of compartments: the runs are apart.
use Rattle.sc_top.proofs.Common.{Accepts, Bool, BytesNameOneImage, HasImage, ImageParts, IsExecuted}
use Rattle.sc_top.proofs.Common.{IsImage, IsTextOutput, IsWellFormed, List, ProgramTree, Run, RunOptions, ap}
use Rattle.sc_top.proofs.Common.{image_interfaces, machine_text, map, option_map, refl, subst, sym, word_of, ℕ, ◌∙◌}
use Rattle.sc_top.proofs.Common.{◌≡◌}
use Rattle.sc_image.proofs.ApartLaws.{only_set_delays, same_agree, stops_apart, traces_apart}
use Rattle.sc_image.proofs.ApartRuns.{runs_apart}
use Rattle.sc_image.specs.Prelude.{AgreeBut, SameBut}
use Rattle.sc_compile.proofs.Apart.{images_are_apart}
use Rattle.sc_compile.specs.Prelude.{lineless}
use Rattle.sc_types_section_laws.specs.Sections.{SectionsAreTypedAlone}
use Rattle.sc_top.specs.Apart.{AskAlike, ExecutionsAreApart, RunApart}
use Rattle.sc_top.specs.Apart.{SameTextsFit, SectionsAreApart}
use Rattle.sc_top.proofs.Known.{inputs_are_words}

module _ (set : ℕ → Bool) (options : RunOptions) (one other : ImageParts) (formed : IsWellFormed one)
    (its_formed : IsWellFormed other) (agree : AgreeBut set one other) where
  -- the second run may take any number of steps
  in_steps : (its_steps : ℕ) → RunApart set options (record options { steps = its_steps }) one other
  in_steps its_steps =
      let inputs : List ℕ = map word_of options.inputs in
      let words = inputs_are_words options.inputs in
      record {
        apart = runs_apart set one other inputs options.steps its_steps options.events formed its_formed words agree;
        traces = traces_apart set one other inputs options.steps its_steps options.events formed its_formed words agree;
        stops = stops_apart set one other inputs options.steps its_steps options.events formed its_formed words agree;
        delays =
            only_set_delays set one other inputs options.steps its_steps options.events formed its_formed words agree;
      }

  run_apart : (its_options : RunOptions) → AskAlike options its_options → RunApart set options its_options one other
  run_apart its_options alike = subst (λ asked. RunApart set options asked one other) (λ i. record {
    steps = its_options.steps;
    events = alike.events i;
    inputs = alike.inputs i;
  }) (in_steps its_options.steps)

module _ (one_program : (text : List ℕ) (program other : ProgramTree) →
    Accepts text program → Accepts text other → program ≡ other) where
  -- a report of a text is that of the text's program
  has_so : (options : RunOptions) (text out : List ℕ) (program : ProgramTree) → Accepts text program →
      (run : IsTextOutput (Run options) text out) → HasImage program run.image
  has_so options text out program accepted run = subst (λ p. HasImage p run.image)
      (one_program text run.program program run.accepted accepted) (run.compiled refl)

  written_so : (options : RunOptions) (text out : List ℕ) (program : ProgramTree) → Accepts text program →
      (run : IsTextOutput (Run options) text out) → out ≡ machine_text program.interfaces options run.image
  written_so options text out program accepted run =
      run.written ∙ ap (λ (p : ProgramTree). machine_text p.interfaces options run.image)
      (one_program text run.program program run.accepted accepted)

  pub sections_are_apart : SectionsAreApart
  sections_are_apart set options its_options text other out its alike fit run its_run =
      let has : HasImage fit.program run.image = has_so options text out fit.program fit.accepted run in
      let its_has : HasImage fit.its_program its_run.image =
      has_so its_options other its fit.its_program fit.its_accepted its_run in
      let same : SameBut set run.image its_run.image =
      images_are_apart set fit.program fit.its_program run.image its_run.image has.compiled its_has.compiled
      fit.same in
      record {
        image = run.image;
        its_image = its_run.image;
        compiled = has.compiled;
        its_compiled = its_has.compiled;
        written = written_so options text out fit.program fit.accepted run;
        its_written = written_so its_options other its fit.its_program fit.its_accepted its_run ∙
            ap (λ names. machine_text names its_options its_run.image) (sym fit.same.interfaces);
        apart = run_apart set options run.image its_run.image has.right.well_formed its_has.right.well_formed
            (same_agree set run.image its_run.image same) its_options alike;
      }

module _ (names_one : BytesNameOneImage) where
  executed_so : (options : RunOptions) (bytes out : List ℕ) (is : IsImage bytes) → IsExecuted options bytes out →
      out ≡ machine_text (image_interfaces is.image) options is.image
  executed_so options bytes out is executed =
      executed.written ∙ ap (λ i. machine_text (image_interfaces i) options i)
      (names_one bytes executed.read.image is.image executed.read.well_formed is.well_formed executed.read.bytes_are
      is.bytes_are)

  pub executions_are_apart : ExecutionsAreApart
  executions_are_apart set options its_options bytes its_bytes out its alike one other agree run its_run = record {
    written = executed_so options bytes out one run;
    its_written = executed_so its_options its_bytes its other its_run;
    apart = run_apart set options one.image other.image one.well_formed other.well_formed agree its_options alike;
  }

pub same_texts_fit : SectionsAreTypedAlone → SameTextsFit
same_texts_fit alone set text other same = record {
  program = same.source.program;
  its_program = same.its_source.program;
  accepted = subst (λ bytes. Accepts bytes same.source.program) same.whole same.parts.accepted;
  its_accepted = subst (λ bytes. Accepts bytes same.its_source.program) same.its_whole same.its_parts.accepted;
  same = record {
    interfaces = same.interfaces;
    sections = λ comp out. ap (option_map lineless) (alone same.source same.its_source comp same.parts same.its_parts
        same.interfaces (same.sections comp out));
  };
}
