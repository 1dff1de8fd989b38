-- What an image has that is another one but for given compartments: all that the others see, and each compartment that
-- is not given.
use Rattle.sc_emit_run_laws.proofs.Common.{Addresses, Bool, Cell, CodeAt, EntersBy, Export, Fetches, HasCode}
use Rattle.sc_emit_run_laws.proofs.Common.{ImageParts, InCell, List, None, Option, Placed, Some, TacFnTree}
use Rattle.sc_emit_run_laws.proofs.Common.{[], ap, ap₂, arith, exported_by, export_params, false, has_result}
use Rattle.sc_emit_run_laws.proofs.Common.{if◌then◌else◌, length, length-map, list_any, map, may_input, may_output}
use Rattle.sc_emit_run_laws.proofs.Common.{nat_le, option_and_then, option_map, option_map_or, position, refl}
use Rattle.sc_emit_run_laws.proofs.Common.{slice_get}
use Rattle.sc_emit_run_laws.proofs.Common.{slice_get-map, slice_get_within, stack_top, subst, suc, sym, true, zero, ℕ}
use Rattle.sc_emit_run_laws.proofs.Common.{◌%◌, ◌&&◌, ◌*◌, ◌+◌, ◌-◌, ◌/◌, ◌==◌, ◌∙◌, ◌∷◌, ◌≡◌, ◌≤◌}
use Rattle.std.specs.Prelude.{nat_eq}
use Rattle.rv_code.specs.declared.instr.Instr.{Instr}
use Rattle.sc_image.specs.declared.parts.CompPart.{CompPart}
use Rattle.sc_image.specs.declared.parts.ExportPart.{ExportPart}
use Rattle.sc_image.specs.Prelude.{Filled, ImportPart, byte_at, code_start, comp_of_data, data_end, data_regions}
use Rattle.sc_image.specs.Prelude.{data_start, data_with, entered_export, has_heap, imported_by, may_call_export}
unfoldable use Rattle.sc_image.specs.Layout.{are_data, word_at}
unfoldable use Rattle.sc_image.specs.State.{start_memory}
use Rattle.sc_store.proofs.Words.{load_of-same}
use Rattle.sc_store.specs.Prelude.{is_in}
use Rattle.sc_store.specs.declared.region.Region.{Region}
unfoldable use Rattle.sc_emit_hart.specs.Words.{word}
use Rattle.sc_image.specs.Prelude.{seen_of}
use Rattle.sc_emit_run_laws.specs.Prelude.{GlobalStands, StandsButFor}

outside_of : (a b : Bool) → (a ≡ true → b ≡ true) → b ≡ false → a ≡ false
outside_of false b within out = refl
outside_of true b within out = (let clash : true ≡ false = sym (within refl) ∙ out in cc clash)

-- WHAT THE OTHERS SEE

module _ {X : Type 0} (part_of : CompPart → X) (none : X) (is_seen : (part : CompPart) →
    part_of (seen_of part) ≡ part_of part) where
  seen_in : (found : Option CompPart) →
      option_map_or part_of (option_map seen_of found) none ≡ option_map_or part_of found none
  seen_in None = refl
  seen_in (Some part) = is_seen part

  seen_at : (comps : List CompPart) (c : ℕ) →
      option_map_or part_of (slice_get comps c) none ≡ option_map_or part_of (slice_get (map seen_of comps) c) none
  seen_at comps c =
      sym (ap (λ found. option_map_or part_of found none) (slice_get-map seen_of comps c) ∙ seen_in (slice_get comps c))

  same_seen : (own image : ImageParts) → map seen_of image.comps ≡ map seen_of own.comps → (c : ℕ) →
      option_map_or part_of (slice_get image.comps c) none ≡ option_map_or part_of (slice_get own.comps c) none
  same_seen own image seen c =
      seen_at image.comps c ∙ ap (λ comps. option_map_or part_of (slice_get comps c) none) seen ∙
      sym (seen_at own.comps c)

module _ (own image : ImageParts) (seen : map seen_of image.comps ≡ map seen_of own.comps) where
  same_exports : (c : ℕ) → exported_by image c ≡ exported_by own c
  same_exports = same_seen {X = List ExportPart} (λ part. part.exports) [] (λ part. refl) own image seen

  same_imports : (c : ℕ) → imported_by image c ≡ imported_by own c
  same_imports = same_seen {X = List ImportPart} (λ part. part.imports) [] (λ part. refl) own image seen

  same_input : (c : ℕ) → may_input image c ≡ may_input own c
  same_input = same_seen (λ part. part.input) false (λ part. refl) own image seen

  same_output : (c : ℕ) → may_output image c ≡ may_output own c
  same_output = same_seen (λ part. part.output) false (λ part. refl) own image seen

  same_length : length image.comps ≡ length own.comps
  same_length =
      sym (length-map image.comps seen_of) ∙ ap (λ (comps : List CompPart). length comps) seen ∙
      length-map own.comps seen_of

  same_entered : (c address : ℕ) → entered_export image c address ≡ entered_export own c address
  same_entered c address = ap (position (λ export. export.entry == address)) (same_exports c)

  same_params : (c index : ℕ) → export_params image c index ≡ export_params own c index
  same_params c index =
      ap (λ exports. option_map_or (λ (export : ExportPart). export.params) (slice_get exports index) 0)
      (same_exports c)

  same_result : (c index : ℕ) → has_result image c (Export index) ≡ has_result own c (Export index)
  same_result c index =
      ap (λ exports. option_map_or (λ (export : ExportPart). export.result) (slice_get exports index) false)
      (same_exports c)

  same_calls : (c to index : ℕ) → may_call_export image c to index ≡ may_call_export own c to index
  same_calls c to index =
      ap (list_any (λ (import : ImportPart). import.comp == to && import.index == index)) (same_imports c)

-- A COMPARTMENT THAT IS NOT GIVEN

module _ (own image : ImageParts) (c : ℕ) (kept : slice_get image.comps c ≡ slice_get own.comps c) where
  same_heap : has_heap image c ≡ has_heap own c
  same_heap = ap (λ found. option_map_or (λ (part : CompPart). part.heap) found false) kept

  same_word : (address : ℕ) → word_at image c address ≡ word_at own c address
  unfolding word_at
  same_word address =
      ap (λ found. if nat_eq (address % 4) 0 && nat_le (code_start c) address then
      slice_get (option_map_or (λ (part : CompPart). part.code) found []) ((address - code_start c) / 4) else None) kept

  fetches : (address : ℕ) (instr : Instr) → Fetches own c address instr → Fetches image c address instr
  fetches address instr at = record {
    word = at.word;
    fetched = same_word address ∙ at.fetched;
    decodes = at.decodes;
  }

  code_at : (address : ℕ) (instrs : List Instr) → CodeAt own c address instrs → CodeAt image c address instrs
  code_at address [] code = tt
  code_at address (instr ∷ instrs) code = (fetches address instr code.0, code_at (address + 4) instrs code.1)

  has_code : (addresses : Addresses) (turn_pays number : ℕ) (f : TacFnTree) →
      HasCode own addresses turn_pays c number f → HasCode image addresses turn_pays c number f
  has_code addresses turn_pays number f code = record {
    frame = code.frame;
    code = code.code;
    emitted = code.emitted;
    stands = code_at (addresses.function number) _ code.stands;
    heap = λ uses. same_heap ∙ code.heap uses;
    paid = code.paid;
  }

  enters_by : (entry function : ℕ) → EntersBy own c entry function → EntersBy image c entry function
  enters_by entry function enters = record {
    imm = enters.imm;
    jump = fetches entry _ enters.jump;
    leads = enters.leads;
  }

  -- its data at the start
  same_regions : data_regions image c ≡ data_regions own c
  same_regions =
      ap (λ found. map (λ (filled : Filled). filled.region) (data_with c
      (option_map_or (λ (part : CompPart). part.globals) found [])
      (option_map_or (λ (part : CompPart). part.heap) found false))) kept

  same_data : (address size : ℕ) → are_data image c address size ≡ are_data own c address size
  unfolding are_data
  same_data address zero = refl
  same_data address (suc size) =
      ap₂ (λ all regions. all && list_any (λ (region : Region). is_in region (address + size)) regions)
      (same_data address size) same_regions

  same_byte : (address : ℕ) → comp_of_data address ≡ c → start_memory image address ≡ start_memory own address
  unfolding start_memory
  same_byte address its =
      ap (option_and_then (λ (part : CompPart).
      byte_at (data_with (comp_of_data address) part.globals part.heap) address))
      (subst (λ d. slice_get image.comps d ≡ slice_get own.comps d) (sym its) kept)

  same_start : (address : ℕ) → data_start c ≤ address → address + 4 ≤ data_end c →
      word (start_memory image) address ≡ word (start_memory own) address
  unfolding word
  same_start address low high =
      load_of-same (start_memory image) (start_memory own) address 4
      (λ k below. (let its : comp_of_data (address + k) ≡ c = omega (arith, low, high, below) in
      same_byte (address + k) its))

  placed : (floor address words : ℕ) → Placed own floor c address words → Placed image floor c address words
  placed floor address words at = record {
    aligned = at.aligned;
    above = at.above;
    low = at.low;
    high = at.high;
    its = λ i below. same_data (address + 4 * i) 4 ∙ at.its i below;
  }

  global_stands : (address : ℕ) (cells : List Cell) → GlobalStands own c address cells →
      GlobalStands image c address cells
  global_stands address cells at = record {
    placed = placed (stack_top c) address (length cells) at.placed;
    below = at.below;
    is_address = at.is_address;
    holds = λ i one is. (let within = slice_get_within cells i one is in
        subst (λ w. InCell (λ b. None) w one)
        (sym (same_start (address + 4 * i) (omega (arith, at.placed.low)) (omega (arith, at.placed.high, within))))
        (at.holds i one is));
  }

-- THE IMAGE

pub stands_but_for : StandsButFor
stands_but_for program own image turn_pays addresses first given set has_first has_given linked but =
    let honest : (c : ℕ) → set c ≡ false → first c ≡ false = λ c out. outside_of (first c) (set c) (has_first c) out in
    let kept : (c : ℕ) → set c ≡ false → slice_get image.comps c ≡ slice_get own.comps c =
    λ c out. but.kept c (outside_of (given c) (set c) (has_given c) out) in
    let seen : map seen_of image.comps ≡ map seen_of own.comps = but.seen in
    record {
      formed = but.formed;
      main = but.main ∙ linked.main;
      comps = same_length own image seen ∙ linked.comps;
      functions = λ comp number f out its. has_code own image comp (kept comp out) (addresses comp) turn_pays number f
          (linked.functions comp number f (honest comp out) its);
      function_at = linked.function_at;
      main_at = λ number out enters.
          but.entry (subst (λ c. given c ≡ false) (sym linked.main)
          (outside_of (given program.interfaces.main) (set program.interfaces.main)
          (has_given program.interfaces.main) out)) ∙
          linked.main_at number (honest program.interfaces.main out) enters;
      entries = λ from to index number out enters. enters_by own image to (kept to out) _ _
          (linked.entries from to index number (honest to out) enters);
      entry_at = linked.entry_at;
      exports = λ from to index proto export.
          same_entered own image seen to ((addresses from).entry to index) ∙ linked.exports from to index proto export;
      params = λ to index proto export. same_params own image seen to index ∙ linked.params to index proto export;
      result = λ to index proto export. same_result own image seen to index ∙ linked.result to index proto export;
      calls = λ from to index may. same_calls own image seen from to index ∙ linked.calls from to index may;
      inputs = λ comp may. same_input own image seen comp ∙ linked.inputs comp may;
      outputs = λ comp may. same_output own image seen comp ∙ linked.outputs comp may;
      globals = λ comp number cells out its. global_stands own image comp (kept comp out) _ cells
          (linked.globals comp number cells (honest comp out) its);
      globals_apart = λ comp number other cells more out differ its others.
          linked.globals_apart comp number other cells more (honest comp out) differ its others;
    }
