-- Objects of sections, and the images that are linked: outputs and their causes.
use Rattle.sc_top.proofs.Common.{Accepts, Failure, HasSection, IsCompiling, IsJoining, IsLinked, IsObjectOutput}
use Rattle.sc_top.proofs.Common.{IsOutputCause, IsSome, IsWellTyped, List, None, Object, ProgramTree, Some, ap}
use Rattle.sc_top.proofs.Common.{arith, comp_named, join_by_name, leb-true, length}
use Rattle.sc_top.proofs.Common.{of_join_fault, option_and_then, refl, subst, sym, ℕ, ◌<◌, ◌≡◌}
use Rattle.sc_core.specs.Prelude.{has_few_compartments}
use Rattle.sc_event.specs.declared.interface.Interface.{Interface}
use Rattle.sc_image.specs.Prelude.{IsWellFormed, image_bytes}
use Rattle.sc_image.specs.declared.parts.ImageParts.{ImageParts}
use Rattle.sc_object.specs.Prelude.{AreBytesOf, IsJoined, IsJoinFault, IsObjectOf, join_fault}
use Rattle.sc_object.specs.Prelude.{object_bytes}
use Rattle.sc_object.specs.declared.linking.JoinFault.{JoinFault}
use Rattle.sc_object.specs.declared.linking.JoinFault.TheVariants as joining
use Rattle.sc_object.specs.declared.parts.ObjectParts.{ObjectParts}
use Rattle.sc_base.proofs.Bools.{and_first}
use Rattle.sc_top_words.specs.declared.command.Command.TheVariants as commands
use Rattle.sc_top_words.specs.declared.command.ObjectOptions.{ObjectOptions}
use Rattle.sc_top.specs.declared.failure.Failure.TheVariants as failure
use Rattle.sc_top.proofs.Known.{sections_are}
use Rattle.sc_top.proofs.Outputs.{asked_cause}

-- a program has few compartments
pub place_low : (program : ProgramTree) (comps : List Interface) (place : ℕ) → IsWellTyped program →
    comps ≡ program.interfaces.comps → place < length comps → place < 32
place_low program comps place typed are low =
    omega (
      arith,
      low,
      ap length are,
      sections_are program typed,
      leb-true (length program.sections) 32 (and_first (has_few_compartments program) _ typed),
    )

-- the section that is asked for is there
has_section : (options : ObjectOptions) (program : ProgramTree) (comp : ℕ) →
    comp_named program.interfaces options.section ≡ Some comp → HasSection (Object options) program
has_section options program comp named name is =
    let same : options.section ≡ name = cc is in
    subst (λ n. IsSome (comp_named program.interfaces n)) same (subst IsSome (sym named) refl)

module _ (options : ObjectOptions) (bytes : List ℕ) (program other : ProgramTree) (same : other ≡ program)
    (accepted : Accepts bytes program) where
  -- or it isn't
  pub no_section : (f : Failure) → f ≡ failure.NoSection options.section →
      comp_named other.interfaces options.section ≡ None → IsOutputCause (Object options) bytes f
  no_section f is lacks =
      subst (IsOutputCause (Object options) bytes) (sym is) (record {
        program = program;
        accepted = accepted;
        asked = refl;
        lacks = subst (λ (p : ProgramTree). comp_named p.interfaces options.section ≡ None) same lacks;
      })

  module _ (comp : ℕ) (named : comp_named other.interfaces options.section ≡ Some comp) where
    named_so : comp_named program.interfaces options.section ≡ Some comp
    named_so = subst (λ (p : ProgramTree). comp_named p.interfaces options.section ≡ Some comp) same named

    pub object_cause : (f : Failure) → IsCompiling other f → IsOutputCause (Object options) bytes f
    object_cause f why =
        asked_cause (Object options) bytes bytes program other f (λ Q q. q) same accepted
        (has_section options program comp named_so) refl why

    pub object_output : (text : List ℕ) (object : ObjectParts) → IsObjectOf other comp object →
        text ≡ object_bytes object → IsObjectOutput options.section bytes text
    object_output text object is written = record {
      program = program;
      accepted = accepted;
      comp = comp;
      named = named_so;
      object = object;
      is = subst (λ p. IsObjectOf p comp object) same is;
      written = written;
    }

-- Linking.

-- what doesn't fit is why nothing is linked
pub join_cause : (bytes : List ℕ) (objects : List ObjectParts) (f : Failure) → AreBytesOf objects bytes →
    IsJoining objects f → IsOutputCause commands.Link bytes f
join_cause bytes objects failure.Usage read why = why
join_cause bytes objects (failure.Refused refusal) read why = why
join_cause bytes objects (failure.TooLarge fault) read why = why
join_cause bytes objects (failure.TooLong limit) read why = why
join_cause bytes objects (failure.BadImage cause) read why = why
join_cause bytes objects failure.ReadFault read why = why
join_cause bytes objects failure.WriteFault read why = why
join_cause bytes objects failure.OutOfMemory read why = tt
join_cause bytes objects (failure.BadObject index cause) read why = absurd why
join_cause bytes objects (failure.BadJoin fault) read why = record { objects = objects; read = read; found = why }
join_cause bytes objects (failure.NoSection name) read why = why
join_cause bytes objects (failure.BadPolicy line) read why = why
join_cause bytes objects failure.Differs read why = elim why [ ]

-- a fault of linking, by names
pub why_not_joined : (objects : List ObjectParts) (fault : JoinFault) → IsJoinFault objects fault →
    IsJoining objects (of_join_fault objects fault)
why_not_joined objects (joining.Differ second) is = ap (option_and_then (join_by_name objects)) is
why_not_joined objects (joining.Twice comp second) is = ap (option_and_then (join_by_name objects)) is
why_not_joined objects (joining.Missing comp) is = ap (option_and_then (join_by_name objects)) is
why_not_joined objects joining.OutOfMemory is = tt

pub linked_output : (bytes text : List ℕ) (objects : List ObjectParts) (image : ImageParts) →
    AreBytesOf objects bytes → join_fault objects ≡ None → IsJoined objects image → IsWellFormed image →
    text ≡ image_bytes image → IsLinked bytes text
linked_output bytes text objects image read good joined formed written = record {
  can = record { objects = objects; read = read; good = good };
  image = image;
  well_formed = formed;
  joined = joined;
  written = written;
}
