-- Made texts are accepted, as small programs.
use Rattle.sc_report_made.proofs.Common.{MadeTextsAreAccepted, MadeTextsAreRead, MadeTreesAreTyped, program_of, refl}
use Rattle.sc_report_made.proofs.Counts.{counts_hold}
use Rattle.sc_report_made.proofs.Lengths.{made_short}
use Rattle.sc_report_made.proofs.Names.{names_hold}
use Rattle.sc_report_made.proofs.Shapes.{AreMade}
use Rattle.sc_report_made.proofs.Small.{are_small}
use Rattle.sc_report_made.proofs.Types.{types_hold}
use Rattle.sc_report_made.proofs.Undone.{undone}
use Rattle.sc_report_made.proofs.WorkerRules.{interfaces_hold}

pub made_trees_are_typed : MadeTreesAreTyped
made_trees_are_typed size seed asked sections same =
    let made : AreMade size seed sections = undone size seed sections same in (
      record {
        names = names_hold size seed asked sections made;
        types = types_hold size seed asked sections made;
        interfaces = interfaces_hold size seed asked sections made;
        counts = counts_hold size seed asked sections made;
        is = refl;
      },
      are_small size seed asked sections made,
    )

-- what is read so is accepted
pub accepted_from : MadeTextsAreRead → MadeTextsAreAccepted
accepted_from made_texts_are_read size seed asked =
    let read = made_texts_are_read size seed asked in
    let typed = made_trees_are_typed size seed asked read.others read.same in
    record {
      program = program_of read.others;
      accepted = record { sections = read.others; reads = read.reads; typed = typed.0 };
      small = typed.1;
      short = made_short size seed asked;
    }
