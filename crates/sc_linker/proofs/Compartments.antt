-- The compartments of an image, one after the other.
use Rattle.sc_linker.proofs.Common.{All, All-append, AreNamed, CodeTree, CompPart, Interface, IsLinkable, IsNamed}
use Rattle.sc_linker.proofs.Common.{IsWellFormed, IsWellTyped, IsWhole, List, Main, ProgramTree, TypedSection, []}
use Rattle.sc_linker.proofs.Common.{add-one, addresses_at, and_first, ap, append_assoc, arith, cases_lt, codes_at}
use Rattle.sc_linker.proofs.Common.{codes_in, comp_part, comp_parts, drop, drop-step, entry_in, function_address}
use Rattle.sc_linker.proofs.Common.{get_or, has_few_compartments, inl, inr, leb-true, length, length-drop, map, subst}
use Rattle.sc_linker.proofs.Common.{suc, sym, take, take-append-drop, total, ℕ, ◌++◌, ◌+◌, ◌<◌, ◌∙◌, ◌∷◌, ◌≡◌, ◌≤◌, ◌⊎◌}
use Rattle.sc_linker.proofs.Formed.{linked_is_formed}
use Rattle.sc_linker.proofs.Fitting.{functions_count}
use Rattle.sc_linker.proofs.Comps.{same_count}

-- codes are whole where those of each section are
pub whole_codes : (sections : List TypedSection) (codes : List CodeTree) →
    length codes ≡ total (map functions_count sections) →
    ((comp : ℕ) → comp < length sections → All IsWhole (codes_in comp sections codes)) → All IsWhole codes
whole_codes [] codes each whole = λ k d within. absurd (omega (arith, each, within))
whole_codes (s ∷ sections) codes each whole =
    let count = functions_count s in
    subst (All IsWhole) (take-append-drop count codes)
    (All-append IsWhole (take count codes) (drop count codes) (whole 0 (omega arith))
    (whole_codes sections (drop count codes) (length-drop count codes ∙ omega (arith, each))
    (λ comp within. whole (suc comp) (omega (arith, within)))))

pub few_numbers : (program : ProgramTree) → IsWellTyped program → (number : ℕ) →
    number < length program.interfaces.comps → number < 32
few_numbers program typed number there =
    omega (
      arith,
      there,
      same_count program typed,
      leb-true (length program.sections) 32 (and_first (has_few_compartments program) _ typed),
    )

module _ (program : ProgramTree) (codes : List CodeTree) where
  abbrev comps : List Interface
  comps = program.interfaces.comps

  -- one compartment more
  pub one_comp : (parts more whole : List CompPart) (comp : ℕ) (interface : Interface) (part : CompPart) →
      comp < length comps → interface ≡ get_or comps comp interface →
      part ≡ comp_part program codes comp interface → more ≡ parts ++ part ∷ [] →
      parts ++ comp_parts program codes comp (drop comp comps) ≡ whole →
      more ++ comp_parts program codes (comp + 1) (drop (comp + 1) comps) ≡ whole
  one_comp parts more whole comp interface part there item made pushed so_far =
      ap (λ ps. ps ++ later) (pushed ∙ ap (λ p. parts ++ p ∷ []) made) ∙
      append_assoc parts (here ∷ []) later ∙
      ap (λ ps. parts ++ ps) (sym (ap (comp_parts program codes comp) split ∙ first)) ∙ so_far where
        split : drop comp comps ≡ interface ∷ drop (comp + 1) comps
        split = drop-step comps comp interface there item

        here : CompPart
        here = comp_part program codes comp interface

        later : List CompPart
        later = comp_parts program codes (comp + 1) (drop (comp + 1) comps)

        first : comp_parts program codes comp (interface ∷ drop (comp + 1) comps) ≡ here ∷ later
        first = λ k. here ∷ comp_parts program codes (sym (add-one comp) k) (drop (comp + 1) comps)

  pub one_whole : (count : ℕ) → ((comp : ℕ) → comp < count → All IsWhole (codes_at program codes comp)) →
      All IsWhole (codes_at program codes count) →
      (comp : ℕ) → comp < count + 1 → All IsWhole (codes_at program codes comp)
  one_whole count before here comp below = by (cases_lt comp count) where
    by : (comp < count) ⊎ (count ≤ comp) → All IsWhole (codes_at program codes comp)
    by (inl earlier) = before comp earlier
    by (inr later) =
        let same : count ≡ comp = omega (arith, later, below) in
        subst (λ n. All IsWhole (codes_at program codes n)) same here

  pub all_named : All IsNamed comps → AreNamed program.interfaces
  all_named named = record {
    comps = λ k d there. (named k d there).name;
    exports = λ k d there. (named k d there).exports;
  }

-- what is made of a program that was read is its image
pub image_formed : (program read : ProgramTree) (codes : List CodeTree) (entry : ℕ) (parts : List CompPart) →
    read ≡ program → IsWellTyped program → IsLinkable program codes →
    entry ≡ function_address (addresses_at read codes read.interfaces.main) (entry_in read read.interfaces.main Main) →
    parts ≡ comp_parts read codes 0 read.interfaces.comps → AreNamed read.interfaces → All IsWhole codes →
    IsWellFormed (record { main = read.interfaces.main; entry = entry; comps = parts })
image_formed program read codes entry parts is typed linkable begins made named whole =
    subst IsWellFormed (λ k. record { main = read.interfaces.main; entry = sym begins k; comps = sym made k })
    (linked_is_formed read codes (subst IsWellTyped (sym is) typed) named whole
    (subst (λ p. IsLinkable p codes) (sym is) linkable))
