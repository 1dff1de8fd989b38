-- What `compile` writes is executed as the program is run.
use Rattle.sc_top.proofs.Common.{Accepts, BytesNameOneImage, Compile, HasImage, ImageParts, Interfaces, IsExecuted}
use Rattle.sc_top.proofs.Common.{IsImage, IsTextOutput, List, ProgramTree, Run, RunOptions, ap, image_interfaces}
use Rattle.sc_top.proofs.Common.{machine_run, machine_text, refl, subst, sym, ℕ, ◌++◌, ◌∙◌, ◌≡◌}
use Rattle.sc_top.proofs.Common.{Ok, image_of}
use Rattle.sc_image.proofs.Whole.{are_written}
use Rattle.sc_image.specs.Prelude.{AreBytesOf}
use Rattle.sc_compile.proofs.Reported.{same_lines}
use Rattle.sc_report.specs.Report.{stop_line}
use Rattle.sc_top.specs.Laws.{CompiledImagesRun, RunsAs}
use Rattle.sc_top.proofs.Answers.{image_within}
use Rattle.sc_top.proofs.Outputs.{one_image}

-- by the names of the image as by those of the program
same_report : (program : ProgramTree) (image : ImageParts) → HasImage program image → (options : RunOptions) →
    machine_text (image_interfaces image) options image ≡ machine_text program.interfaces options image
same_report program image has options =
    ap (λ lines. lines ++ stop_line (machine_run options image).stop)
    (same_lines program.interfaces image has.right.interfaces (machine_run options image).state.trace)

module _ (one_program : (text : List ℕ) (program other : ProgramTree) →
    Accepts text program → Accepts text other → program ≡ other) (one : BytesNameOneImage)
    (options : RunOptions) (text bytes : List ℕ) (is : IsTextOutput Compile text bytes) where
  has : HasImage is.program is.image
  has = is.compiled refl

  are : AreBytesOf is.image bytes
  are = subst (AreBytesOf is.image) (sym is.written) (are_written is.image)

  image : IsImage bytes
  image = record { image = is.image; well_formed = has.right.well_formed; bytes_are = are }

  to_run : (out : List ℕ) → IsExecuted options bytes out → IsTextOutput (Run options) text out
  to_run out executed =
      let same : executed.read.image ≡ is.image =
      one bytes executed.read.image is.image executed.read.well_formed has.right.well_formed
      executed.read.bytes_are are in
      record {
        program = is.program;
        image = is.image;
        accepted = is.accepted;
        compiled = λ _. has;
        written = executed.written ∙ (ap (λ i. machine_text (image_interfaces i) options i) same ∙
            same_report is.program is.image has options);
      }

  from_run : (out : List ℕ) → IsTextOutput (Run options) text out → IsExecuted options bytes out
  unfolding image
  from_run out run =
      let program : run.program ≡ is.program =
      one_program text run.program is.program run.accepted is.accepted in
      let same : run.image ≡ is.image =
      one_image is.program run.image is.image
      (subst (λ p. image_of p ≡ Ok run.image) program (run.compiled refl).compiled) has.compiled in
      record {
        read = image;
        written = run.written ∙ (ap (λ (p : ProgramTree). machine_text p.interfaces options run.image) program ∙
            (ap (machine_text is.program.interfaces options) same ∙
            sym (same_report is.program is.image has options)));
      }

  runs_so : RunsAs options text bytes
  runs_so = record {
    within = image_within bytes image;
    good = image;
    same = λ out. (to_run out, from_run out);
  }

pub compiled_images_run : ((text : List ℕ) (program other : ProgramTree) →
    Accepts text program → Accepts text other → program ≡ other) → BytesNameOneImage → CompiledImagesRun
compiled_images_run one_program one options text bytes is = runs_so one_program one options text bytes is
