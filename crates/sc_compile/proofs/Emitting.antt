-- The passes on one function.
use Rattle.sc_compile.proofs.Common.{All, CanBeCompiled, CodeTree, EmitsAll, EmitsFrom, EmitsSo, IsAssignment}
use Rattle.sc_compile.proofs.Common.{IsEmitted, IsWellTyped, List, None, ProgramTree, Some, TacFnTree, TacSection}
use Rattle.sc_compile.proofs.Common.{TypedFunction, TypedSection, TypedStruct, [], all_at, all_by, all_codes, ap}
use Rattle.sc_compile.proofs.Common.{append-nil, append_assoc, arith, assigned, code_from, code_of, flat_map, frame_of}
use Rattle.sc_compile.proofs.Common.{function_code, function_points, function_tac, get_or, interval_of, intervals_of}
use Rattle.sc_compile.proofs.Common.{length, length-map, lowered_program, lowered_sections, map, map-append, option_map}
use Rattle.sc_compile.proofs.Common.{program_tac, refl, section_codes, section_tac, slice_get, slice_get_within, subst}
use Rattle.sc_compile.proofs.Common.{suc, sym, take, take-step, too_large, ℕ, ◌++◌, ◌+◌, ◌<◌, ◌∙◌, ◌∷◌, ◌≡◌, ◌≤◌}
use Rattle.std.proofs.lemmas.List.Elements.{All-append, All-cons, All-nil}
use Rattle.std.proofs.lemmas.Option.{get_or_from_slice_get, slice_get_read}
use Rattle.sc_base.proofs.Lists.{take_all}
use Rattle.sc_opt.specs.Prelude.{optimised_section}
use Rattle.sc_compile.proofs.Counted.{can_be_compiled}
use Rattle.sc_compile.proofs.Lists.{map_twice, mapped}
use Rattle.sc_compile.proofs.Tac.{functions_are, tac_at}
use Rattle.std.proofs.lemmas.List.FromFn.{length-map-range_with_len}
use Rattle.sc_tac.specs.declared.frame.FrameTree.{FrameTree}
use Rattle.sc_tac.specs.declared.interval.Interval.{Interval}
use Rattle.sc_tac.specs.declared.place.Place.{Place}

module _ (f : TacFnTree) (intervals : List Interval) (places : List Place) (its : intervals ≡ intervals_of f) where
  -- a place for each temporary
  pub place_each : IsAssignment intervals places → length places ≡ f.temps
  place_each is =
      is.each ∙ ap length its ∙ length-map-range_with_len (interval_of (function_points f)) 0 f.temps

  module _ (frame : FrameTree) (code : CodeTree) (scanned : places ≡ assigned intervals)
      (laid : frame ≡ frame_of f.objects places) (selected : code ≡ code_of f places frame) where
    places_are : places ≡ assigned (intervals_of f)
    places_are = scanned ∙ ap assigned its

    frame_is : frame ≡ frame_of f.objects (assigned (intervals_of f))
    frame_is = laid ∙ ap (frame_of f.objects) places_are

    pub code_is : code ≡ function_code f
    code_is = selected ∙ λ i. code_of f (places_are i) (frame_is i)

    pub emits : IsEmitted f frame code → EmitsSo f
    emits emitted =
        subst (λ made. IsEmitted f (frame_of f.objects (assigned (intervals_of f))) made) code_is
        (subst (λ made. IsEmitted f made code) frame_is emitted)

-- one more code after those of a section's first functions
pub one_more_code : {X : Type 0} (made : X → CodeTree) (old : List CodeTree) (fs : List X) (i : ℕ) (f : X)
    (code : CodeTree) (before after : List CodeTree) → i < length fs → f ≡ get_or fs i f → code ≡ made f →
    after ≡ before ++ code ∷ [] → before ≡ old ++ map made (take i fs) → after ≡ old ++ map made (take (i + 1) fs)
one_more_code made old fs i f code before after within item is pushed so_far =
    pushed ∙ ap (λ codes. codes ++ code ∷ []) so_far
    ∙ append_assoc old (map made (take i fs)) (code ∷ [])
    ∙ ap (λ codes. old ++ codes)
    (ap (λ c. map made (take i fs) ++ c ∷ []) is
    ∙ sym (map-append made (take i fs) (f ∷ []))
    ∙ ap (map made) (sym (take-step fs i f within item)))

flat_more : (xs : List TacSection) (section : TacSection) →
    flat_map section_codes xs ++ section_codes section ≡ flat_map section_codes (xs ++ section ∷ [])
flat_more [] section = sym (append-nil (section_codes section))
flat_more (x ∷ xs) section =
    append_assoc (section_codes x) (flat_map section_codes xs) (section_codes section)
    ∙ ap (λ codes. section_codes x ++ codes) (flat_more xs section)

all_mapped : {X Y : Type 0} (P : Y → Type 0) (g : X → Y) (xs : List X) → All (λ x. P (g x)) xs → All P (map g xs)
all_mapped P g xs all = all_by P (map g xs) (λ i y at.
    let found = mapped g xs i y at in subst P found.1.1 (all_at (λ x. P (g x)) xs i found.0 all found.1.0))

-- one more section of a program: its functions can be compiled, and their codes are those of the section
module _ (program : ProgramTree) (items : List TypedSection) (same : items ≡ program.sections) (i comp : ℕ)
    (placed : comp ≡ i) (section : TypedSection) (within : i < length items) (item : section ≡ get_or items i section)
    (structs : List TypedStruct) (functions : List TypedFunction) (of_structs : structs ≡ section.structs)
    (of_functions : functions ≡ section.functions) where
  there : slice_get program.sections i ≡ Some section
  there = subst (λ all. slice_get all i ≡ Some section) same
      (slice_get_read items (length items) i section refl within item)

  abbrev its : TacSection
  its = section_tac program.interfaces i section

  tac_there : slice_get (program_tac program).sections i ≡ Some its
  tac_there = tac_at program i ∙ ap (option_map (section_tac program.interfaces i)) there

  one_more : take (i + 1) (program_tac program).sections ≡ take i (program_tac program).sections ++ its ∷ []
  one_more =
      take-step (program_tac program).sections i its
      (slice_get_within (program_tac program).sections i its tac_there)
      (sym (get_or_from_slice_get (program_tac program).sections i its its tac_there))

  pub may_compile : IsWellTyped program → too_large program ≡ None →
      All (CanBeCompiled program.interfaces comp structs) functions
  may_compile typed fits =
      subst (λ c. All (CanBeCompiled program.interfaces c structs) functions) (sym placed)
      (subst (λ s. All (CanBeCompiled program.interfaces i s) functions) (sym of_structs)
      (subst (All (CanBeCompiled program.interfaces i section.structs)) (sym of_functions)
      (can_be_compiled program typed i section there fits)))

  codes_are : map (code_from program.interfaces comp structs) functions ≡ section_codes its
  codes_are =
      ap (λ c. map (code_from program.interfaces c structs) functions) placed
      ∙ ap (λ s. map (code_from program.interfaces i s) functions) of_structs
      ∙ ap (map (code_from program.interfaces i section.structs)) of_functions
      ∙ sym (ap (map function_code) (functions_are program i section)
      ∙ map_twice function_code (function_tac program.interfaces i section.structs) section.functions)

  pub codes_more : (before after : List CodeTree) →
      after ≡ before ++ map (code_from program.interfaces comp structs) functions →
      before ≡ flat_map section_codes (take i (program_tac program).sections) →
      after ≡ flat_map section_codes (take (i + 1) (program_tac program).sections)
  codes_more before after added so_far =
      added ∙ ap (λ codes. before ++ codes) codes_are ∙ ap (λ codes. codes ++ section_codes its) so_far
      ∙ flat_more (take i (program_tac program).sections) its ∙ ap (flat_map section_codes) (sym one_more)

  pub emits_more : All (EmitsFrom program.interfaces comp structs) functions →
      All EmitsAll (take i (program_tac program).sections) → All EmitsAll (take (i + 1) (program_tac program).sections)
  emits_more all so_far =
      subst (All EmitsAll) (sym one_more)
      (All-append EmitsAll (take i (program_tac program).sections) (its ∷ []) so_far
      (All-cons EmitsAll its [] here (All-nil EmitsAll))) where
        moved : All (EmitsFrom program.interfaces i section.structs) section.functions
        moved =
            subst (λ c. All (EmitsFrom program.interfaces c section.structs) section.functions) placed
            (subst (λ s. All (EmitsFrom program.interfaces comp s) section.functions) of_structs
            (subst (All (EmitsFrom program.interfaces comp structs)) of_functions all))

        here : EmitsAll its
        here =
            subst (All EmitsSo) (sym (functions_are program i section))
            (all_mapped EmitsSo (function_tac program.interfaces i section.structs) section.functions moved)

-- where all sections are done, these are those of the program
module _ (program : ProgramTree) (items : List TypedSection) (same : items ≡ program.sections) (i : ℕ)
    (past : length items ≤ i) where
  lengths : (k : ℕ) (sections : List TypedSection) →
      length (lowered_sections program.interfaces k sections) ≡ length sections
  lengths k [] = refl
  lengths k (section ∷ sections) = ap suc (lengths (suc k) sections)

  whole : take i (program_tac program).sections ≡ (program_tac program).sections
  whole = take_all i (program_tac program).sections
      (omega (
        arith,
        past,
        ap (length {A = TypedSection}) same,
        lengths 0 program.sections,
        length-map (lowered_program program).sections optimised_section,
      ))

  pub codes_whole : (codes : List CodeTree) → codes ≡ flat_map section_codes (take i (program_tac program).sections) →
      codes ≡ all_codes (program_tac program)
  codes_whole codes is = is ∙ ap (flat_map section_codes) whole

  pub emits_whole : All EmitsAll (take i (program_tac program).sections) → All EmitsAll (program_tac program).sections
  emits_whole = subst (All EmitsAll) whole
