-- Which codes a compartment has, and where each stands among its instructions.
use Rattle.sc_linker.proofs.Common.{Addresses, All, All-drop, All-nil, All-take, CodeTree, Instr, List, None, Option}
use Rattle.sc_linker.proofs.Common.{Proto, Relocation, Some, TypedSection, [], ap, arith, codes_in, drop, entry_jump}
use Rattle.sc_linker.proofs.Common.{entry_jumps, instructions, length, length-append, length-drop, length-take, linked}
use Rattle.sc_linker.proofs.Common.{linked_codes, linked_from, low_of_target, map, refl, relocations_after, slice_get}
use Rattle.sc_linker.proofs.Common.{suc, sym, take, target_at, total, zero, ℕ, ◌*◌, ◌+◌, ◌∙◌, ◌∷◌, ◌≡◌, ◌≤◌}
use Rattle.sc_linker.proofs.Places.{get_after, get_before}

-- CODES OF A COMPARTMENT
abbrev functions_of : TypedSection → ℕ
functions_of section = length section.functions

pub codes_none : (comp : ℕ) (sections : List TypedSection) (codes : List CodeTree) → slice_get sections comp ≡ None →
    codes_in comp sections codes ≡ []
codes_none zero [] codes is = refl
codes_none (suc comp) [] codes is = refl
codes_none zero (s ∷ sections) codes is = absurd (cc)
codes_none (suc comp) (s ∷ sections) codes is = codes_none comp sections (drop (length s.functions) codes) is

pub codes_count : (comp : ℕ) (sections : List TypedSection) (codes : List CodeTree) (section : TypedSection) →
    total (map functions_of sections) ≤ length codes → slice_get sections comp ≡ Some section →
    length (codes_in comp sections codes) ≡ length section.functions
codes_count comp [] codes section enough is = absurd (cc)
codes_count zero (s ∷ sections) codes section enough is =
    let same : s ≡ section = cc in
    let counted : length s.functions ≡ length section.functions = ap functions_of same in
    omega (arith, enough, counted, length-take (length s.functions) codes)
codes_count (suc comp) (s ∷ sections) codes section enough is =
    codes_count comp sections (drop (length s.functions) codes) section
    (omega (arith, enough, length-drop (length s.functions) codes)) is

pub codes_all : (P : CodeTree → Type 0) (comp : ℕ) (sections : List TypedSection) (codes : List CodeTree) →
    All P codes → All P (codes_in comp sections codes)
codes_all P zero [] codes all = All-nil P
codes_all P (suc comp) [] codes all = All-nil P
codes_all P zero (s ∷ sections) codes all = All-take P (length s.functions) codes all
codes_all P (suc comp) (s ∷ sections) codes all =
    codes_all P comp sections (drop (length s.functions) codes) (All-drop P (length s.functions) codes all)

-- THEIR INSTRUCTIONS
module _ (A : Addresses) where
  pub jumps_length : (c k : ℕ) (section : TypedSection) (protos : List Proto) →
      length (entry_jumps A c k section protos) ≡ length protos
  jumps_length c k section [] = refl
  jumps_length c k section (proto ∷ protos) = ap suc (jumps_length c (suc k) section protos)

  from_length : (pc at : ℕ) (low : Option ℕ) (instrs : List Instr) (relocations : List Relocation) →
      length (linked_from A pc at low instrs relocations) ≡ length instrs
  from_length pc at low [] relocations = refl
  from_length pc at low (instr ∷ instrs) relocations =
      ap suc (from_length (pc + 4) (suc at) (low_of_target A (target_at A at relocations)) instrs
      (relocations_after A at relocations))

  pub linked_length : (address : ℕ) (code : CodeTree) → length (linked A address code) ≡ length code.instrs
  linked_length address code = from_length address 0 None code.instrs code.relocations

  pub codes_length : (address : ℕ) (cs : List CodeTree) → length (linked_codes A address cs) ≡ instructions cs
  codes_length address [] = refl
  codes_length address (c ∷ cs) =
      omega (
        arith,
        length-append (linked A address c) (linked_codes A (address + 4 * length c.instrs) cs),
        linked_length address c,
        codes_length (address + 4 * length c.instrs) cs,
      )

  pub jump_at : (c k number : ℕ) (section : TypedSection) (protos : List Proto) (i : ℕ) (proto : Proto) →
      number ≡ k + i → slice_get protos i ≡ Some proto →
      slice_get (entry_jumps A c k section protos) i ≡ Some (entry_jump A c number section proto)
  jump_at c k number section [] i proto e is = absurd (cc)
  jump_at c k number section (p ∷ protos) zero proto e is =
      let same : p ≡ proto = cc in
      let from : k ≡ number = omega (arith, e) in
      (λ j. Some (entry_jump A c (from j) section (same j)))
  jump_at c k number section (p ∷ protos) (suc i) proto e is =
      jump_at c (suc k) number section protos i proto (omega (arith, e)) is

  pub instr_at : (address place : ℕ) (cs : List CodeTree) (n : ℕ) (code : CodeTree) (i at : ℕ) (instr : Instr) →
      place ≡ address + 4 * instructions (take n cs) → at ≡ instructions (take n cs) + i →
      slice_get cs n ≡ Some code → slice_get (linked A place code) i ≡ Some instr →
      slice_get (linked_codes A address cs) at ≡ Some instr
  instr_at address place [] n code i at instr e a is there = absurd (cc)
  instr_at address place (c ∷ cs) zero code i at instr e a is there =
      let same : c ≡ code = cc in
      let from : place ≡ address = omega (arith, e) in
      let number : at ≡ i = omega (arith, a) in
      ap (slice_get (linked_codes A address (c ∷ cs))) number
      ∙ get_before (linked A address c) (linked_codes A (address + 4 * length c.instrs) cs) i instr
      ((λ j. slice_get (linked A (sym from j) (same j)) i) ∙ there)
  instr_at address place (c ∷ cs) (suc n) code i at instr e a is there =
      get_after (linked A address c) (linked_codes A (address + 4 * length c.instrs) cs)
      (instructions (take n cs) + i) at (omega (arith, a, linked_length address c))
      ∙ instr_at (address + 4 * length c.instrs) place cs n code i (instructions (take n cs) + i) instr
      (omega (arith, e)) refl is there
