-- Without a range the machine with tags runs as that with regions.
use Rattle.sc_top.proofs.Common.{HasExplanation, HasImage, ImageParts, Interfaces, IsExecuted, IsWellFormed, List, None}
use Rattle.sc_top.proofs.Common.{RunOptions, ap₂, image_interfaces, machine_run, machine_text, map, run_text, subst}
use Rattle.sc_top.proofs.Common.{sym, word_of, ℕ, ◌∙◌, ◌≡◌}
use Rattle.sc_tags.specs.Prelude.{TagsAgree}
use Rattle.sc_top.proofs.Known.{inputs_are_words}
use Rattle.sc_top.proofs.Outputs.{one_image}
use Rattle.sc_top.specs.Laws.{ExplainedAreTagged, IsTaggedRun, TagsRunAsExec}
use Rattle.sc_top.specs.Tagged.{IsTagged, tag_run, tag_text}

module _ (agree : TagsAgree) (options : RunOptions) where
  same_trace : (image : ImageParts) → IsWellFormed image →
      (tag_run options None image).state.core.trace ≡ (machine_run options image).state.trace
  same_trace image formed =
      agree.trace image (map word_of options.inputs) options.steps options.events formed
      (inputs_are_words options.inputs)

  same_stop : (image : ImageParts) → IsWellFormed image →
      (tag_run options None image).stop ≡ (machine_run options image).stop
  same_stop image formed =
      agree.stop image (map word_of options.inputs) options.steps options.events formed
      (inputs_are_words options.inputs)

  same_report : (names : Interfaces) (image : ImageParts) → IsWellFormed image →
      tag_text names options None image ≡ machine_text names options image
  same_report names image formed = ap₂ (run_text names) (same_trace image formed) (same_stop image formed)

  to_exec : (bytes out : List ℕ) → IsTagged options None bytes out → IsExecuted options bytes out
  to_exec bytes out is = record {
    read = is.read;
    written = is.written ∙ same_report (image_interfaces is.read.image) is.read.image is.read.well_formed;
  }

  from_exec : (bytes out : List ℕ) → IsExecuted options bytes out → IsTagged options None bytes out
  from_exec bytes out is = record {
    read = is.read;
    written = is.written ∙ sym (same_report (image_interfaces is.read.image) is.read.image is.read.well_formed);
  }

  runs_so : (text : List ℕ) (has : HasExplanation options text) (image : ImageParts) →
      HasImage has.source.program image → IsTaggedRun options has.explanation image
  runs_so text has image is =
      let formed = is.right.well_formed in
      let same = one_image has.source.program has.explained.image image has.explained.compiled is.compiled in
      record {
        trace = subst (λ i. (tag_run options None image).state.core.trace ≡ (machine_run options i).state.trace)
            (sym same) (same_trace image formed) ∙ sym has.explained.trace;
        stop = subst (λ i. (tag_run options None image).stop ≡ (machine_run options i).stop) (sym same)
            (same_stop image formed) ∙ sym has.explained.stop;
      }

pub tags_run_as_exec : TagsAgree → TagsRunAsExec
tags_run_as_exec agree options bytes out = (to_exec agree options bytes out, from_exec agree options bytes out)

pub explained_are_tagged : TagsAgree → ExplainedAreTagged
explained_are_tagged agree options text has image is = runs_so agree options text has image is
