-- What is compiled does what its program means also where any code stands in place of some compartments.
use Rattle.sc_compile.proofs.Common.{All, CodeTree, CompSet, ImageParts, Interface, Interfaces, IsBuilt, IsWellFormed}
use Rattle.sc_compile.proofs.Common.{IsRobust, IsWellTyped, IsWord, List, ProgramTree, TacTree, [], ap, ap₂, false}
use Rattle.sc_compile.proofs.Common.{image_interface, image_interfaces, legal, linked_image, machine, map, program_tac}
use Rattle.sc_compile.proofs.Common.{refl, subst, sym, true, ℕ, ◌∙◌, ◌∷◌, ◌≡◌}
use Rattle.std.specs.List.{AllZip}
use Rattle.sc_core_laws.specs.Prelude.{IsSubset, nobody}
use Rattle.sc_image.proofs.Traces.{all_traces_legal}
use Rattle.sc_image.specs.Prelude.{IsButFor, seen_of}
use Rattle.sc_image.specs.declared.parts.CompPart.{CompPart}
use Rattle.sc_linker.specs.Prelude.{HasInterface, HasInterfaces, HasProto}
use Rattle.sc_emit_run_laws.proofs.Given.{stands_but_for}
use Rattle.sc_emit_run_laws.proofs.Whole.{scripts_simulate}
use Rattle.sc_compile.proofs.Allowed.{same_legal}
use Rattle.sc_compile.proofs.Scripted.{scripted_emits}
use Rattle.sc_compile.proofs.Stop.{traps_outside}

-- WHAT OTHERS SEE
-- a compartment of which others see the same has the same interface
seen_interface : (interface : Interface) (part other : CompPart) → seen_of other ≡ seen_of part →
    HasInterface interface part → HasInterface interface other
seen_interface interface part other same its = record {
  name = ap (λ (p : CompPart). p.name) same ∙ its.name;
  exports = subst (AllZip HasProto interface.exports) (sym (ap (λ (p : CompPart). p.exports) same)) its.exports;
  imports = ap (λ (p : CompPart). p.imports) same ∙ its.imports;
  input = ap (λ (p : CompPart). p.input) same ∙ its.input;
  output = ap (λ (p : CompPart). p.output) same ∙ its.output;
}

seen_interfaces : (interfaces : List Interface) (parts others : List CompPart) →
    map seen_of others ≡ map seen_of parts → AllZip HasInterface interfaces parts →
    AllZip HasInterface interfaces others
seen_interfaces [] [] [] same all = tt
seen_interfaces [] [] (other ∷ others) same all = absurd (cc)
seen_interfaces [] (part ∷ parts) others same all = absurd all
seen_interfaces (interface ∷ interfaces) [] others same all = absurd all
seen_interfaces (interface ∷ interfaces) (part ∷ parts) [] same all = absurd (cc)
seen_interfaces (interface ∷ interfaces) (part ∷ parts) (other ∷ others) same all =
    let first : seen_of other ≡ seen_of part = cc in
    let rest : map seen_of others ≡ map seen_of parts = cc in
    (seen_interface interface part other first all.0, seen_interfaces interfaces parts others rest all.1)

-- an image says the same of its interfaces
said_alike : (parts others : List CompPart) → map seen_of others ≡ map seen_of parts →
    map image_interface others ≡ map image_interface parts
said_alike [] [] same = refl
said_alike [] (other ∷ others) same = absurd (cc)
said_alike (part ∷ parts) [] same = absurd (cc)
said_alike (part ∷ parts) (other ∷ others) same =
    let first : seen_of other ≡ seen_of part = cc in
    let rest : map seen_of others ≡ map seen_of parts = cc in
    ap₂ (λ x xs. x ∷ xs) (ap image_interface first) (said_alike parts others rest)

says_same : (given : CompSet) (own other : ImageParts) → IsButFor given own other →
    image_interfaces other ≡ image_interfaces own
says_same given own other but =
    let comps = said_alike own.comps other.comps but.seen in
    λ i. record { comps = comps i; main = but.main i }

module _ (program : ProgramTree) (typed : IsWellTyped program) (codes : List CodeTree) (turn_pays : ℕ)
    (built : IsBuilt nobody (program_tac program) (linked_image program codes) turn_pays)
    (faces : HasInterfaces program.interfaces (linked_image program codes)) where
  abbrev own : ImageParts
  own = linked_image program codes

  module _ (given : CompSet) (other : ImageParts) (but : IsButFor given own other) where
    -- where compartments perform that include the given ones, all other code stands
    built_but_for : (set : CompSet) → IsSubset given set → IsBuilt set (program_tac program) other turn_pays
    built_but_for set larger = record {
      rules = built.rules;
      functions = built.functions;
      results = built.results;
      addresses = built.addresses;
      linked = stands_but_for (program_tac program) own other turn_pays built.addresses nobody given set
          (λ c none. absurd (cc)) larger built.linked but;
    }

    has_interfaces : HasInterfaces program.interfaces other
    has_interfaces = record {
      comps = seen_interfaces program.interfaces.comps own.comps other.comps but.seen faces.comps;
      main = but.main ∙ faces.main;
    }

    allowed_too : (inputs : List ℕ) (steps events : ℕ) → All IsWord inputs →
        legal program.interfaces (machine other inputs steps events).state.trace ≡ true
    allowed_too inputs steps events words =
        sym (same_legal program codes (machine other inputs steps events).state.trace)
        ∙ (ap (λ interfaces. legal interfaces (machine other inputs steps events).state.trace)
        (sym (says_same given own other but)) ∙ all_traces_legal other inputs steps events but.formed words)

    pub robust : IsRobust program given other
    robust = record {
      interfaces = has_interfaces;
      scripted = λ inputs steps events set larger are.
          scripted_emits program typed set inputs steps (machine other inputs steps events).state.trace
          (scripts_simulate (program_tac program) other turn_pays set (built_but_for set larger) inputs steps events
          are (allowed_too inputs steps events are));
      allowed = allowed_too;
      trapped_outside = λ inputs steps events set larger are traps honest has.
          traps_outside program typed other turn_pays set (built_but_for set larger) inputs steps events are
          (allowed_too inputs steps events are) traps honest has;
    }

  -- the image is itself but for nobody
  itself : IsWellFormed own → IsButFor nobody own own
  itself formed = record {
    formed = formed;
    main = refl;
    entry = λ none. refl;
    seen = refl;
    kept = λ c none. refl;
  }

  pub own_robust : IsWellFormed own → IsRobust program nobody own
  own_robust formed = robust nobody own (itself formed)
