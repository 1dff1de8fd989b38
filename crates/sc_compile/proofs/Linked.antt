-- The code of a program stands in its image.
use Rattle.sc_compile.proofs.Common.{Addresses, AreEmitted, AreNamed, CodeTree, EntersBy, EntriesStand, Entry, Export}
use Rattle.sc_compile.proofs.Common.{Fits, FunctionsStand, GlobalStands, GlobalsAreWords, GlobalsStand, HasCode}
use Rattle.sc_compile.proofs.Common.{ImageParts, ImportsStand, Instr, IsCodeAddress, IsLinkable, IsLinked, IsStart}
use Rattle.sc_compile.proofs.Common.{IsWellFormed, IsWellTyped, List, Main, None, Option, ProgramTree, Some}
use Rattle.sc_compile.proofs.Common.{StandFrom, StandsAt, TacFnTree, TacTree, TypedGlobal, TypedSection, []}
use Rattle.sc_compile.proofs.Common.{addresses_at, all_codes, ap, arith, assigned, built_image, cell_word}
use Rattle.sc_compile.proofs.Common.{code_globals, comp_at, comps_length, entry_in, first_blocks, fits_or_none}
use Rattle.sc_compile.proofs.Common.{frame_of, function_code, function_entered, functions_in, functions_or_none}
use Rattle.sc_compile.proofs.Common.{global_block, globals_of, inl, inr, intervals_of, length, linked_image, map}
use Rattle.sc_compile.proofs.Common.{nodes, number_below, option_map, program_nodes, program_tac, refl}
use Rattle.sc_compile.proofs.Common.{section_or_none, section_tac, slice_get, start_memory, struct_zeros, subst, suc}
use Rattle.sc_compile.proofs.Common.{sym, too_large, total, total_upto, ℕ, ◌*◌, ◌+◌, ◌<◌, ◌∙◌, ◌∷◌, ◌≡◌, ◌≤◌, ◌⊎◌}
use Rattle.std.proofs.Common.{Ok}
use Rattle.sc_store.specs.Prelude.{ByteMemory, load_of}
use Rattle.sc_core.specs.Prelude.{cells_at}
use Rattle.sc_tac.specs.Prelude.{first_blocks as code_blocks}
use Rattle.sc_emit_hart.specs.Prelude.{CodeAt, Fetches, word}
use Rattle.sc_emit_relation.specs.Prelude.{InCell}
use Rattle.sc_core.specs.declared.value.Cell.{Cell}
use Rattle.sc_core.specs.declared.value.Cell.TheVariants as cell
use Rattle.sc_image.proofs.Memory.{few_globals}
use Rattle.sc_image.proofs.Running.{image_in_memory}
use Rattle.sc_image.specs.Prelude.{zone_start}
use Rattle.sc_emit_relation.proofs.Access.{living_block}
use Rattle.sc_linker.proofs.Whole.{linked_images_hold}
use Rattle.sc_compile.proofs.Codes.{code_there}
use Rattle.sc_compile.proofs.Linkable.{is_linkable}
use Rattle.sc_compile.proofs.Lists.{mapped}
use Rattle.sc_compile.proofs.Results.{source_of}
use Rattle.sc_core_laws.specs.Prelude.{nobody}
use Rattle.sc_compile.proofs.Tac.{means_wrapped, tac_at}

fetches : (image : ImageParts) (comp address to : ℕ) (instr : Instr) → address ≡ to →
    StandsAt image comp address instr → Fetches image comp to instr
fetches image comp address to instr same stands =
    subst (λ a. Fetches image comp a instr) same
    (record { word = stands.word; fetched = stands.fetched; decodes = stands.decodes })

code_at : (image : ImageParts) (comp address : ℕ) (instrs : List Instr) → StandFrom image comp address instrs →
    CodeAt image comp address instrs
code_at image comp address [] stand = tt
code_at image comp address (instr ∷ instrs) stand = (
  fetches image comp (address + 4 * 0) address instr (omega arith) (stand 0 instr refl),
  code_at image comp (address + 4) instrs (λ i one is.
      let same : address + 4 * suc i ≡ address + 4 + 4 * i = omega arith in
      subst (λ a. StandsAt image comp a one) same (stand (suc i) one is)),
)

word_is : (memory : ByteMemory) (a : ℕ) → word memory a ≡ load_of memory a 4
unfolding word
word_is memory a = refl

-- what a global's cell holds at the start
in_cell : (one : Cell) (w : ℕ) → IsStart one → w ≡ cell_word one → InCell (λ b. None) w one
in_cell cell.Undef w known same = tt
in_cell (cell.Word n) w known same = record { word = omega (arith, known, same); means = same }
in_cell cell.Null w known same = record { word = omega (arith, same); means = same }
in_cell (cell.Ptr p) w known same = absurd known

-- a block of the start is of a global
global_there : (o : Option TypedSection) (number : ℕ) (cells : List Cell) →
    cells_at (first_blocks o) number ≡ Ok cells →
    (g : TypedGlobal) × (slice_get (section_or_none o).globals number ≡ Some g)
global_there None number cells is = absurd (cc)
global_there (Some section) number cells is =
    let block = living_block (first_blocks (Some section)) number cells is in
    let found = mapped (global_block (struct_zeros [] section.structs)) section.globals number block.block block.at in
    (found.0, found.1.0)

module _ (program : ProgramTree) (typed : IsWellTyped program) where
  abbrev code : TacTree
  code = program_tac program

  abbrev codes : List CodeTree
  codes = all_codes code

  abbrev addresses : ℕ → Addresses
  addresses comp = addresses_at program codes comp

  same_blocks : (comp : ℕ) (o : Option TypedSection) →
      code_blocks (option_map (section_tac program.interfaces comp) o) ≡ first_blocks o
  same_blocks comp None = refl
  same_blocks comp (Some section) = refl

  globals_same : (comp : ℕ) → code_globals code.sections comp ≡ globals_of program.sections comp
  globals_same comp =
      ap code_blocks (tac_at program comp)
      ∙ same_blocks comp (slice_get program.sections comp)

  entered : (comp number : ℕ) (entry : Entry) → function_entered entry (slice_get code.sections comp) ≡ Some number →
      entry_in program comp entry ≡ Some number
  entered comp number entry is = (means_wrapped program typed).entered comp entry ∙ is

  -- a function is of a compartment that there is
  number_low : (comp number : ℕ) → number < length (functions_in code comp) → comp < 32
  number_low comp number within = by (fits_or_none program typed comp) where
    by : Fits program comp ⊎ ((comp_at program.interfaces comp ≡ None) × (slice_get program.sections comp ≡ None)) →
        comp < 32
    by (inl there) = number_below program typed comp there
    by (inr none) =
        let nothing : functions_in code comp ≡ [] =
        ap functions_or_none (tac_at program comp
        ∙ ap (option_map (section_tac program.interfaces comp)) none.1) in
        absurd (omega (arith, within, ap length nothing))

  its_nodes : (comp number : ℕ) (f : TacFnTree) → slice_get (functions_in code comp) number ≡ Some f →
      f.nodes ≤ program_nodes program
  its_nodes comp number f its =
      let from = source_of program typed comp number f its in
      omega (
        arith,
        ap (λ (g : TacFnTree). g.nodes) from.same,
        total_upto nodes from.section.functions number from.source from.its,
        total_upto (λ (section : TypedSection). total (map nodes section.functions)) program.sections comp from.section
            from.is,
      )

  module _ (emitted : AreEmitted program) (linkable : IsLinkable program codes) where
    abbrev image : ImageParts
    image = linked_image program codes

    functions : FunctionsStand program codes
    functions = linked_images_hold.functions program codes typed emitted.whole linkable

    entries : EntriesStand program codes
    entries = linked_images_hold.entries program codes typed emitted.whole linkable

    has_code : (comp number : ℕ) (f : TacFnTree) → slice_get (functions_in code comp) number ≡ Some f →
        HasCode image (addresses comp) (24 * program_nodes program) comp number f
    has_code comp number f its =
        let done = emitted.functions comp number f its in
        record {
          frame = frame_of f.objects (assigned (intervals_of f));
          code = function_code f;
          emitted = done;
          stands = code_at image comp ((addresses comp).function number) _
              (functions.code comp number (function_code f) (code_there program comp number f its));
          heap = functions.heap comp number (function_code f) (code_there program comp number f its);
          paid = omega (arith, done.short, its_nodes comp number f its);
        }

    function_address : (comp number : ℕ) → number < length (functions_in code comp) →
        IsCodeAddress ((addresses comp).function number)
    function_address comp number within = record {
      aligned = functions.aligned comp number;
      low = functions.low comp number (number_low comp number within);
    }

    enters : (from to index number : ℕ) →
        function_entered (Export index) (slice_get code.sections to) ≡ Some number →
        EntersBy image to ((addresses from).entry to index) ((addresses to).function number)
    enters from to index number is =
        let jump = entries.jump to index number (entered to number (Export index) is) in
        record { imm = jump.0; jump = fetches image to _ _ _ refl jump.1; leads = jump.2 }

    module _ (given : GlobalsAreWords program.sections) where
      globals : GlobalsStand program codes
      globals = linked_images_hold.globals program codes typed given linkable

      its_cells : (comp number : ℕ) (cells : List Cell) →
          cells_at (code_globals code.sections comp) number ≡ Ok cells →
          cells_at (globals_of program.sections comp) number ≡ Ok cells
      its_cells comp number cells is = ap (λ blocks. cells_at blocks number) (sym (globals_same comp)) ∙ is

      module _ (named : AreNamed program.interfaces) where
        imports : ImportsStand program codes
        imports = linked_images_hold.imports program codes typed

        formed : IsWellFormed image
        formed = linked_images_hold.well_formed program codes typed named emitted.whole linkable

        -- between the stack and the zone
        below : (comp number : ℕ) (cells : List Cell) →
            cells_at (globals_of program.sections comp) number ≡ Ok cells →
            (addresses comp).global number + 4 * length cells ≤ zone_start comp
        below comp number cells is = omega (arith, globals.high comp number cells is, few_globals image comp formed)

        stands : (comp number : ℕ) (cells : List Cell) →
            cells_at (globals_of program.sections comp) number ≡ Ok cells →
            GlobalStands image comp ((addresses comp).global number) cells
        stands comp number cells is =
            let g = global_there (slice_get program.sections comp) number cells is in
            let address : ℕ = (addresses comp).global number in
            record {
              placed = record {
                aligned = globals.aligned comp number;
                above = globals.low comp number;
                low = omega (arith, globals.low comp number);
                high = omega (arith, below comp number cells is);
                its = λ i l. image_in_memory.owned image comp 1 (address + 4 * i) 4 _ refl
                    (omega (arith, globals.low comp number))
                    (omega (arith, globals.high comp number cells is, l));
              };
              below = below comp number cells is;
              is_address = record {
                above = omega (arith, globals.low comp number);
                below = globals.there comp number g.0 g.1;
              };
              holds = λ i one at.
                  in_cell one (word (start_memory image) (address + 4 * i))
                  (globals.known comp number i cells one is at)
                  (word_is (start_memory image) (address + 4 * i) ∙ globals.words comp number i cells one is at);
            }

        linked : IsLinked nobody code image (24 * program_nodes program) addresses
        linked = record {
          formed = formed;
          main = refl;
          comps = comps_length program codes;
          functions = λ comp number f honest. has_code comp number f;
          function_at = function_address;
          main_at = λ number honest is. functions.main number (entered program.interfaces.main number Main is);
          entries = λ from to index number honest. enters from to index number;
          entry_at = λ from to index proto is. record { aligned = omega arith; low = entries.low to index proto is };
          exports = λ from to index proto is. entries.index to index proto is;
          params = entries.params;
          result = entries.result;
          calls = λ from to index is. imports.function from to index ∙ is;
          inputs = λ comp is. imports.input comp ∙ is;
          outputs = λ comp is. imports.output comp ∙ is;
          globals = λ comp number cells honest is. stands comp number cells (its_cells comp number _ is);
          globals_apart = λ comp number other cells more honest differ is at.
              globals.apart comp number other cells more differ (its_cells comp number _ is)
              (its_cells comp other _ at);
        }

pub is_linked : (program : ProgramTree) → IsWellTyped program → AreNamed program.interfaces →
    GlobalsAreWords program.sections → too_large program ≡ None → AreEmitted program →
    IsLinked nobody (program_tac program) (built_image program) (24 * program_nodes program)
    (addresses_at program (all_codes (program_tac program)))
is_linked program typed named given fits emitted =
    linked program typed emitted (is_linkable program typed fits emitted.functions) given named
