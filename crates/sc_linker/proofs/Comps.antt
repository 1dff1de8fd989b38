-- Compartments of a linked image, by their numbers: what each consists of, and which interface and section it has.
use Rattle.sc_linker.proofs.Common.{CodeTree, CompPart, Interface, Interfaces, IsWellTyped, List, None, ProgramTree}
use Rattle.sc_linker.proofs.Common.{Proto, Some, TypedSection, [], and_first, and_rest, ap, are_distinct, arith}
use Rattle.sc_linker.proofs.Common.{codes as text, comp_at, comp_part, comp_parts, export_at, exports_at, exports_in}
use Rattle.sc_linker.proofs.Common.{false≢true, inl, inr, interface_fits, leb-true, length, linked_image, map}
use Rattle.sc_linker.proofs.Common.{most_compartments, nat_le, option_and_then, option_map, refl, section_at}
use Rattle.sc_linker.proofs.Common.{section_fits, section_or_none, sections_fit, sections_so, slice_get}
use Rattle.sc_linker.proofs.Common.{slice_get_within, subst, suc, sym, true, zero, ℕ, ◌+◌, ◌<◌, ◌∙◌, ◌∷◌, ◌≡◌, ◌⊎◌}

module _ (program : ProgramTree) (codes : List CodeTree) where
  parts_at : (k number : ℕ) (interfaces : List Interface) (c : ℕ) → number ≡ k + c →
      slice_get (comp_parts program codes k interfaces) c ≡ option_map (comp_part program codes number)
      (slice_get interfaces c)
  parts_at k number [] c e = refl
  parts_at k number (x ∷ xs) zero e =
      let same : k ≡ number = omega (arith, e) in ap (λ n. Some (comp_part program codes n x)) same
  parts_at k number (x ∷ xs) (suc c) e = parts_at (suc k) number xs c (omega (arith, e))

  pub part_at : (c : ℕ) → slice_get (linked_image program codes).comps c ≡ option_map (comp_part program codes c)
      (comp_at program.interfaces c)
  part_at c = parts_at 0 c program.interfaces.comps c (omega arith)

  pub part_there : (c : ℕ) (interface : Interface) → comp_at program.interfaces c ≡ Some interface →
      slice_get (linked_image program codes).comps c ≡ Some (comp_part program codes c interface)
  part_there c interface is = part_at c ∙ ap (option_map (comp_part program codes c)) is

  parts_length : (k : ℕ) (interfaces : List Interface) → length (comp_parts program codes k interfaces) ≡ length
      interfaces
  parts_length k [] = refl
  parts_length k (x ∷ xs) = ap suc (parts_length (suc k) xs)

  pub comps_length : length (linked_image program codes).comps ≡ length program.interfaces.comps
  comps_length = parts_length 0 program.interfaces.comps

-- SECTIONS AND INTERFACES
record Pair (interfaces : Interfaces) (number : ℕ) (comps : List Interface) (sections : List TypedSection)
    (n : ℕ) : Type 0 where
  pub interface : Interface
  pub section : TypedSection
  pub interface_is : slice_get comps n ≡ Some interface
  pub is : slice_get sections n ≡ Some section
  pub fits : section_fits interfaces number interface section ≡ true
  pub interface_fitting : interface_fits interfaces number interface section ≡ true

paired : (interfaces : Interfaces) (k number : ℕ) (comps : List Interface) (sections : List TypedSection) →
    sections_fit interfaces k comps sections ≡ true → (n : ℕ) → number ≡ k + n →
    Pair interfaces number comps sections n ⊎ ((slice_get comps n ≡ None) × (slice_get sections n ≡ None))
paired interfaces k number [] [] h n e = inr (refl, refl)
paired interfaces k number [] (y ∷ ys) h n e = absurd (false≢true h)
paired interfaces k number (x ∷ xs) [] h n e = absurd (false≢true h)
paired interfaces k number (x ∷ xs) (y ∷ ys) h zero e =
    let same : k ≡ number = omega (arith, e) in
    let following = and_rest (section_fits interfaces k x y) _ h in
    inl (record {
      interface = x;
      section = y;
      interface_is = refl;
      is = refl;
      fits = subst (λ n. section_fits interfaces n x y ≡ true) same (and_first (section_fits interfaces k x y) _ h);
      interface_fitting = subst (λ n. interface_fits interfaces n x y ≡ true) same
          (and_first (interface_fits interfaces k x y) _ following);
    })
paired interfaces k number (x ∷ xs) (y ∷ ys) h (suc n) e =
    by (paired interfaces (suc k) number xs ys
    (and_rest (interface_fits interfaces k x y) _ (and_rest (section_fits interfaces k x y) _ h)) n
    (omega (arith, e))) where
      by : Pair interfaces number xs ys n ⊎ ((slice_get xs n ≡ None) × (slice_get ys n ≡ None)) →
          Pair interfaces number (x ∷ xs) (y ∷ ys) (suc n)
          ⊎ ((slice_get xs n ≡ None) × (slice_get ys n ≡ None))
      by (inl p) = inl (record {
        interface = p.interface;
        section = p.section;
        interface_is = p.interface_is;
        is = p.is;
        fits = p.fits;
        interface_fitting = p.interface_fitting;
      })
      by (inr none) = inr none

lengths_fit : (interfaces : Interfaces) (k : ℕ) (comps : List Interface) (sections : List TypedSection) →
    sections_fit interfaces k comps sections ≡ true → length comps ≡ length sections
lengths_fit interfaces k [] [] h = refl
lengths_fit interfaces k [] (y ∷ ys) h = absurd (false≢true h)
lengths_fit interfaces k (x ∷ xs) [] h = absurd (false≢true h)
lengths_fit interfaces k (x ∷ xs) (y ∷ ys) h =
    ap suc (lengths_fit interfaces (suc k) xs ys (and_rest (interface_fits interfaces k x y) _
    (and_rest (section_fits interfaces k x y) _ h)))

-- the compartment of a number: an interface, and the section that fits it
pub record Fits (program : ProgramTree) (c : ℕ) : Type 0 where
  pub interface : Interface
  pub section : TypedSection
  pub interface_is : comp_at program.interfaces c ≡ Some interface
  pub is : slice_get program.sections c ≡ Some section
  pub fits : section_fits program.interfaces c interface section ≡ true
  pub interface_fitting : interface_fits program.interfaces c interface section ≡ true

module _ (program : ProgramTree) (typed : IsWellTyped program) where
  pub names_so : are_distinct (text "Env" ∷ map {A = Interface} (λ i. i.name) program.interfaces.comps) ≡ true
  names_so = and_first (are_distinct (text "Env" ∷ map {A = Interface} (λ i. i.name) program.interfaces.comps))
      _ (and_rest (nat_le (length program.sections) most_compartments) _ typed)

  pub few_so : nat_le (length program.sections) most_compartments ≡ true
  few_so = and_first (nat_le (length program.sections) most_compartments) _ typed

  pub same_count : length program.interfaces.comps ≡ length program.sections
  same_count =
      lengths_fit program.interfaces 0 program.interfaces.comps program.sections (sections_so program typed)

  -- a number is that of an interface and a section that fit, or of neither
  pub fits_or_none : (c : ℕ) → Fits program c
      ⊎ ((comp_at program.interfaces c ≡ None) × (slice_get program.sections c ≡ None))
  fits_or_none c = by (paired program.interfaces 0 c program.interfaces.comps program.sections
      (sections_so program typed) c (omega arith)) where
        by : Pair program.interfaces c program.interfaces.comps program.sections c
            ⊎ ((comp_at program.interfaces c ≡ None) × (slice_get program.sections c ≡ None)) → Fits program c
            ⊎ ((comp_at program.interfaces c ≡ None) × (slice_get program.sections c ≡ None))
        by (inl p) = inl (record {
          interface = p.interface;
          section = p.section;
          interface_is = p.interface_is;
          is = p.is;
          fits = p.fits;
          interface_fitting = p.interface_fitting;
        })
        by (inr none) = inr none

  pub of_section : (c : ℕ) (section : TypedSection) → slice_get program.sections c ≡ Some section → Fits program c
  of_section c section is = by (fits_or_none c) where
    by : Fits program c ⊎ ((comp_at program.interfaces c ≡ None) × (slice_get program.sections c ≡ None)) →
        Fits program c
    by (inl fits) = fits
    by (inr none) = let never : Some section ≡ None = sym is ∙ none.1 in absurd (cc)

pub section_is : (program : ProgramTree) (c : ℕ) (fits : Fits program c) → section_at program c ≡ fits.section
section_is program c fits = ap section_or_none fits.is

pub exports_are : (program : ProgramTree) (c : ℕ) (fits : Fits program c) →
    exports_at program c ≡ fits.interface.exports
exports_are program c fits = ap exports_in fits.interface_is

-- what an image has of a compartment
module _ (program : ProgramTree) (codes : List CodeTree) (c : ℕ) (fits : Fits program c) where
  abbrev pub part : CompPart
  part = comp_part program codes c fits.interface

  pub part_is : slice_get (linked_image program codes).comps c ≡ Some part
  part_is = part_there program codes c fits.interface fits.interface_is

-- a number of a compartment is small
pub number_below : (program : ProgramTree) → IsWellTyped program → (c : ℕ) → Fits program c → c < 32
number_below program typed c fits =
    omega (
      arith,
      slice_get_within program.sections c fits.section fits.is,
      leb-true (length program.sections) most_compartments (few_so program typed),
    )

-- an export that there is is one of a compartment that there is
module _ (program : ProgramTree) (typed : IsWellTyped program) (c index : ℕ) (proto : Proto)
    (is : export_at program.interfaces c index ≡ Some proto)
  where
    pub of_export : Fits program c
    of_export = by (fits_or_none program typed c) where
      by : Fits program c ⊎ ((comp_at program.interfaces c ≡ None) × (slice_get program.sections c ≡ None)) →
          Fits program c
      by (inl fits) = fits
      by (inr none) =
          let never : Some proto ≡ None =
          sym is ∙ ap (λ o. option_and_then (λ (found : Interface). slice_get found.exports index) o) none.0 in
          absurd (cc)

    pub export_there : Fits program c → slice_get (exports_at program c) index ≡ Some proto
    export_there fits =
        ap (λ ps. slice_get ps index) (exports_are program c fits)
        ∙ sym (ap (λ o. option_and_then (λ (found : Interface). slice_get found.exports index) o) fits.interface_is) ∙
        is
