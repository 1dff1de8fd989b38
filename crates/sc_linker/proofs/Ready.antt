-- Each compartment of a program that is linkable can be linked, and what stands in its code stands in the image.
use Rattle.sc_linker.proofs.Common.{All, All-weaker, CodeTree, CompPart, ImageParts, Instr, IsInstr, IsLinkable}
use Rattle.sc_linker.proofs.Common.{IsWhole, List, ProgramTree, Proto, RefersInside, Relocation, Some, StandsAt}
use Rattle.sc_linker.proofs.Common.{TypedSection, [], addresses_at, all_at, ap, arith, code_in, code_start, codes_at}
use Rattle.sc_linker.proofs.Common.{comp_code, decoded-word_of, eq-eqb, export_at, exports_at, instructions, is_named}
use Rattle.sc_linker.proofs.Common.{is_some, le-leb, length, linked, linked_image, ltb-true, map, nat_eq, nat_le}
use Rattle.sc_linker.proofs.Common.{nat_lt, option_map, option_map_or, section_at, slice_get, slice_get-map, subst, sym}
use Rattle.sc_linker.proofs.Common.{take, true, word_at, word_of, ℕ, ◌%◌, ◌*◌, ◌+◌, ◌-◌, ◌/◌, ◌<◌, ◌∙◌, ◌≡◌}
use Rattle.sc_linker.proofs.Codes.{codes_all, codes_count, linked_length}
use Rattle.sc_linker.proofs.Comps.{Fits, exports_are, part_is, section_is}
use Rattle.sc_linker.proofs.Exports.{Named, export_named}
use Rattle.sc_linker.proofs.Linked.{CanLink, RefersTo, instr_there}
use Rattle.sc_linker.proofs.Places.{all_here, there}

module _ (program : ProgramTree) (codes : List CodeTree) (whole : All IsWhole codes)
    (linkable : IsLinkable program codes) (c : ℕ) (fits : Fits program c)
  where
    abbrev functions : ℕ
    functions = length (section_at program c).functions

    refers_to : (code : CodeTree) → RefersInside program c code → RefersTo functions code
    refers_to code inside i r is n e =
        ltb-true n functions
        (sym (ap (is_named (λ number. nat_lt number functions)
        (λ to index. is_some (export_at program.interfaces to index))
        (λ number. nat_lt number (length (section_at program c).globals))) e)
        ∙ all_at (λ (r : Relocation). is_named (λ number. nat_lt number functions)
        (λ to index. is_some (export_at program.interfaces to index))
        (λ number. nat_lt number (length (section_at program c).globals)) r.target) code.relocations inside i r is)

    named : (i : ℕ) (proto : Proto) → slice_get (exports_at program c) i ≡ Some proto →
        Named (section_at program c) proto.name
    named i proto is =
        subst (λ s. Named s proto.name) (sym (section_is program c fits))
        (export_named program.interfaces c fits.interface fits.section fits.interface_fitting i proto
        (ap (λ ps. slice_get ps i) (sym (exports_are program c fits)) ∙ is))

    pub can_link : CanLink c (exports_at program c) (section_at program c) (codes_at program codes c)
    can_link = record {
      short = linkable.code c;
      counted = codes_count c program.sections codes fits.section (omega (arith, linkable.each)) fits.is
          ∙ ap (λ (s : TypedSection). length s.functions) (sym (section_is program c fits));
      whole = codes_all IsWhole c program.sections codes whole;
      inside = All-weaker (RefersInside program c) (RefersTo functions) refers_to (codes_at program codes c)
          (linkable.inside c);
      named = λ i proto is. let n = named i proto is in (n.number, n.found, n.within);
    }

-- IN THE IMAGE
word_of_code : (image : ImageParts) (c k word : ℕ) → slice_get (code_in image c) k ≡ Some word →
    word_at image c (code_start c + 4 * k) ≡ Some word
unfolding word_at
word_of_code image c k word is =
    let aligned : nat_eq ((code_start c + 4 * k) % 4) 0 ≡ true = eq-eqb _ _ (omega arith) in
    let from : nat_le (code_start c) (code_start c + 4 * k) ≡ true = le-leb _ _ (omega arith) in
    let place : (code_start c + 4 * k - code_start c) / 4 ≡ k = omega arith in
    rw (aligned, from, place) is

module _ (program : ProgramTree) (codes : List CodeTree) (c : ℕ) (fits : Fits program c) where
  code_is : code_in (linked_image program codes) c ≡ map word_of (comp_code program codes c)
  code_is = ap (λ o. option_map_or (λ (comp : CompPart). comp.code) o []) (part_is program codes c fits)

  pub word_there : (k address : ℕ) (instr : Instr) → address ≡ code_start c + 4 * k →
      slice_get (comp_code program codes c) k ≡ Some instr →
      word_at (linked_image program codes) c address ≡ Some (word_of instr)
  word_there k address instr e is =
      ap (word_at (linked_image program codes) c) e
      ∙ word_of_code (linked_image program codes) c k (word_of instr)
      (ap (λ ws. slice_get ws k) code_is ∙ slice_get-map word_of (comp_code program codes c) k ∙
      ap (option_map word_of) is)

  pub stands : (k address : ℕ) (instr : Instr) → address ≡ code_start c + 4 * k →
      slice_get (comp_code program codes c) k ≡ Some instr → IsInstr instr →
      StandsAt (linked_image program codes) c address instr
  stands k address instr e is h = record {
    word = word_of instr;
    fetched = word_there k address instr e is;
    decodes = decoded-word_of instr h;
  }

  -- where a function begins there is a word
  pub function_starts : CanLink c (exports_at program c) (section_at program c) (codes_at program codes c) →
      (n : ℕ) → n < length (section_at program c).functions →
      (word : ℕ) × (word_at (linked_image program codes) c ((addresses_at program codes c).function n) ≡ Some word)
  function_starts can n within =
      let cs : List CodeTree = codes_at program codes c in
      let one = there cs n (omega (arith, within, can.counted)) in
      let some = (all_here IsWhole cs can.whole n one.0 one.1).rules.some in
      let at = (addresses_at program codes c).function n in
      let first = there (linked (addresses_at program codes c) at one.0) 0
      (omega (arith, some, linked_length (addresses_at program codes c) at one.0)) in (
        word_of first.0,
        word_there (length (exports_at program c) + instructions (take n cs) + 0) at first.0 (omega arith)
            (instr_there c (exports_at program c) (section_at program c) cs n one.0 0 first.0 one.1 first.1),
      )
