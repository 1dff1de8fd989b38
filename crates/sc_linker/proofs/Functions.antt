-- In a linked image each function's code stands where the layout says.
use Rattle.sc_linker.proofs.Common.{All, CodeTree, CompPart, FunctionsStand, IsInstr, IsLinkable, IsWellTyped, IsWhole}
use Rattle.sc_linker.proofs.Common.{List, None, ProgramTree, Some, StandFrom, TypedFunction, [], addresses_at, ap}
use Rattle.sc_linker.proofs.Common.{arith, codes_at, comp_at, comp_code, exports_at, false, function_address, has_heap}
use Rattle.sc_linker.proofs.Common.{inl, inr, instructions, length, linked, linked_image, option_map_or, or_left}
use Rattle.sc_linker.proofs.Common.{or_right, same_Some, section_at, section_or_none, slice_get, slice_get_within, suc}
use Rattle.sc_linker.proofs.Common.{sym, take, true, use_heap, zero, ℕ, ◌*◌, ◌+◌, ◌∙◌, ◌∷◌, ◌≡◌, ◌≤◌, ◌⊎◌}
use Rattle.sc_linker.proofs.Codes.{codes_none}
use Rattle.sc_linker.proofs.Comps.{Fits, fits_or_none, part_there}
use Rattle.sc_linker.proofs.Linked.{code_instrs, instr_there}
use Rattle.sc_linker.proofs.Places.{all_here, there, total_take}
use Rattle.sc_linker.proofs.Ready.{can_link, stands}

-- one of them uses the heap
one_uses : (codes : List CodeTree) (number : ℕ) (code : CodeTree) → slice_get codes number ≡ Some code →
    code.heap ≡ true → use_heap codes ≡ true
one_uses [] number code is uses = cc is
one_uses (other ∷ codes) zero code is uses =
    or_left other.heap (use_heap codes)
    (ap (λ (code : CodeTree). code.heap) (same_Some other code is) ∙ uses)
one_uses (other ∷ codes) (suc number) code is uses =
    or_right other.heap (use_heap codes) (one_uses codes number code is uses)

module _ (program : ProgramTree) (codes : List CodeTree) (typed : IsWellTyped program) (whole : All IsWhole codes)
    (linkable : IsLinkable program codes)
  where
    code_stands : (comp : ℕ) → Fits program comp → (number : ℕ) (code : CodeTree) →
        slice_get (codes_at program codes comp) number ≡ Some code →
        StandFrom (linked_image program codes) comp ((addresses_at program codes comp).function number)
        (linked (addresses_at program codes comp) ((addresses_at program codes comp).function number) code)
    code_stands comp fits number code is i instr at =
        let cs : List CodeTree = codes_at program codes comp in
        let k : ℕ = length (exports_at program comp) + instructions (take number cs) + i in
        let placed : slice_get (comp_code program codes comp) k ≡ Some instr =
        instr_there comp (exports_at program comp) (section_at program comp) cs number code i instr is at in
        stands program codes comp fits k ((addresses_at program codes comp).function number + 4 * i) instr (omega arith)
        placed
        (all_here IsInstr (comp_code program codes comp)
        (code_instrs comp (exports_at program comp) (section_at program comp) cs
        (can_link program codes whole linkable comp fits)) k instr placed)

    code_by : (comp number : ℕ) (code : CodeTree) → slice_get (codes_at program codes comp) number ≡ Some code →
        StandFrom (linked_image program codes) comp ((addresses_at program codes comp).function number)
        (linked (addresses_at program codes comp) ((addresses_at program codes comp).function number) code)
    code_by comp number code is = by (fits_or_none program typed comp) where
      by : Fits program comp ⊎ ((comp_at program.interfaces comp ≡ None) × (slice_get program.sections comp ≡ None)) →
          StandFrom (linked_image program codes) comp ((addresses_at program codes comp).function number)
          (linked (addresses_at program codes comp) ((addresses_at program codes comp).function number) code)
      by (inl fits) = code_stands comp fits number code is
      by (inr none) =
          let never : None ≡ Some code =
          sym (ap (λ cs. slice_get cs number) (codes_none comp program.sections codes none.1)) ∙ is in
          absurd (cc)

    there_by : (comp number : ℕ) (f : TypedFunction) → slice_get (section_at program comp).functions number ≡ Some f →
        (code : CodeTree) × (slice_get (codes_at program codes comp) number ≡ Some code)
    there_by comp number f is = by (fits_or_none program typed comp) where
      by : Fits program comp ⊎ ((comp_at program.interfaces comp ≡ None) × (slice_get program.sections comp ≡ None)) →
          (code : CodeTree) × (slice_get (codes_at program codes comp) number ≡ Some code)
      by (inl fits) =
          there (codes_at program codes comp) number
          (omega (
            arith,
            (can_link program codes whole linkable comp fits).counted,
            slice_get_within (section_at program comp).functions number f is,
          ))
      by (inr none) =
          let never : None ≡ Some f =
          sym (ap (λ o. slice_get (section_or_none o).functions number) none.1) ∙ is in
          absurd (cc)

    heap_at : (comp number : ℕ) (code : CodeTree) → Fits program comp →
        slice_get (codes_at program codes comp) number ≡ Some code → code.heap ≡ true →
        has_heap (linked_image program codes) comp ≡ true
    heap_at comp number code fits is uses =
        ap (λ o. option_map_or (λ (part : CompPart). part.heap) o false)
        (part_there program codes comp fits.interface fits.interface_is) ∙
        one_uses (codes_at program codes comp) number code is uses

    heap_by : (comp number : ℕ) (code : CodeTree) → slice_get (codes_at program codes comp) number ≡ Some code →
        code.heap ≡ true → has_heap (linked_image program codes) comp ≡ true
    heap_by comp number code is uses = by (fits_or_none program typed comp) where
      by : Fits program comp ⊎ ((comp_at program.interfaces comp ≡ None) × (slice_get program.sections comp ≡ None)) →
          has_heap (linked_image program codes) comp ≡ true
      by (inl fits) = heap_at comp number code fits is uses
      by (inr none) =
          let never : None ≡ Some code =
          sym (ap (λ cs. slice_get cs number) (codes_none comp program.sections codes none.1)) ∙ is in
          absurd (cc)

    pub functions_stand : FunctionsStand program codes
    functions_stand = record {
      code = code_by;
      there = there_by;
      heap = heap_by;
      aligned = λ comp number. omega arith;
      low = λ comp number below.
          let upto : instructions (take number (codes_at program codes comp)) ≤ instructions (codes_at program codes
          comp) =
          total_take (λ (code : CodeTree). length code.instrs) (codes_at program codes comp) number in
          omega (arith, below, upto, linkable.code comp);
      main = λ number is. ap (function_address (addresses_at program codes program.interfaces.main)) is;
    }
