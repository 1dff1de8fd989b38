-- Code that is linked by a layout's addresses is linked by those of its section.
use Rattle.sc_linker.proofs.Common.{Addresses, All, All-head, All-tail, AreKnown, Bool, CanBeLinked, CodeTree, Entry}
use Rattle.sc_linker.proofs.Common.{Function, Global, IfSome, Instr, IsKnown, Jal, List, None, Option, Proto}
use Rattle.sc_linker.proofs.Common.{Relocation, SectionLayout, Some, Target, TypedFunction, TypedGlobal, TypedSection}
use Rattle.sc_linker.proofs.Common.{Upper, [], addresses_of, ap, ap₂, arith, bytes_eq, cells_of, code_sizes}
use Rattle.sc_linker.proofs.Common.{entry_address, entry_jumps, function_address, global_sizes, length, length-map}
use Rattle.sc_linker.proofs.Common.{linked, linked_codes, linked_from, low_of_target, ltb-true, map, map-append}
use Rattle.sc_linker.proofs.Common.{place_named, pos, position, refl, relocations_after, section_addresses}
use Rattle.sc_linker.proofs.Common.{section_code, section_layout, slice_index, stack_top, starts, subst, suc, sym, take}
use Rattle.sc_linker.proofs.Common.{take-map, target_at, total, upper_part, with_low, with_target, word_of, ℕ, ◌*◌}
use Rattle.sc_linker.proofs.Common.{◌++◌, ◌+◌, ◌-ℤ◌, ◌<◌, ◌∙◌, ◌∷◌, ◌≡◌}
use Rattle.std.proofs.lemmas.List.Quantifiers.{position-Some}
use Rattle.rv_code.specs.declared.instr.Instr.TheVariants as instr
use Rattle.sc_linker.proofs.Relocating.{known_at, known_after}
use Rattle.sc_linker.proofs.Beginnings.{starts_at, starts_length}

-- the same addresses, as far as there are functions and globals
pub record Agree (A B : Addresses) (functions globals : ℕ) : Type 0 where
  pub function : (number : ℕ) → number < functions → A.function number ≡ B.function number
  pub entry : (comp index : ℕ) → A.entry comp index ≡ B.entry comp index
  pub global : (number : ℕ) → number < globals → A.global number ≡ B.global number

pub place_within : {X : Type 0} (p : X → Bool) (xs : List X) (n : ℕ) → position p xs ≡ Some n → n < length xs
place_within p [] n is = absurd (cc)
place_within p (x ∷ xs) n is = (position-Some p (x ∷ xs) n x is).0

module _ (A B : Addresses) (functions globals : ℕ) (agree : Agree A B functions globals) where
  same_target : (pc : ℕ) (target : Option Target) (i : Instr) → IfSome target (IsKnown functions globals) →
      with_target A pc target i ≡ with_target B pc target i
  same_target pc None i known = refl
  same_target pc (Some (Function number)) (instr.Jal rd imm) known =
      ap (λ to. Jal rd (pos to -ℤ pos pc)) (agree.function number (ltb-true number functions known))
  same_target pc (Some (Entry comp index)) (instr.Upper op rd imm) known =
      ap (λ address. Upper op rd (upper_part address)) (agree.entry comp index)
  same_target pc (Some (Global number)) (instr.Upper op rd imm) known =
      ap (λ address. Upper op rd (upper_part address)) (agree.global number (ltb-true number globals known))
  same_target pc (Some target) i known = refl

  same_low : (target : Option Target) → IfSome target (IsKnown functions globals) →
      low_of_target A target ≡ low_of_target B target
  same_low None known = refl
  same_low (Some (Function number)) known = refl
  same_low (Some (Entry comp index)) known = ap Some (agree.entry comp index)
  same_low (Some (Global number)) known = ap Some (agree.global number (ltb-true number globals known))

  -- what is next doesn't depend on addresses
  same_next : (at : ℕ) (relocations : List Relocation) → target_at A at relocations ≡ target_at B at relocations
  same_next at [] = refl
  same_next at (relocation ∷ relocations) = refl

  same_after : (at : ℕ) (relocations : List Relocation) →
      relocations_after A at relocations ≡ relocations_after B at relocations
  same_after at [] = refl
  same_after at (relocation ∷ relocations) = refl

  same_from : (pc at : ℕ) (low : Option ℕ) (instrs : List Instr) (relocations : List Relocation) →
      AreKnown functions globals relocations →
      linked_from A pc at low instrs relocations ≡ linked_from B pc at low instrs relocations
  same_from pc at low [] relocations known = refl
  same_from pc at low (i ∷ instrs) relocations known =
      let target = target_at A at relocations in
      let here : IfSome target (IsKnown functions globals) =
      known_at A functions globals at relocations target refl known in
      ap₂ (λ x rest. with_low low x ∷ rest)
      (same_target pc target i here ∙ ap (λ t. with_target B pc t i) (same_next at relocations))
      (same_from (pc + 4) (suc at) (low_of_target A target) instrs (relocations_after A at relocations)
      (known_after A functions globals at relocations (relocations_after A at relocations) refl known) ∙
      ap₂ (λ l rs. linked_from B (pc + 4) (suc at) l instrs rs)
      (same_low target here ∙ ap (low_of_target B) (same_next at relocations)) (same_after at relocations))

  same_codes : (address : ℕ) (codes : List CodeTree) →
      All {X = CodeTree} (λ code. AreKnown functions globals code.relocations) codes →
      linked_codes A address codes ≡ linked_codes B address codes
  same_codes address [] known = refl
  same_codes address (code ∷ codes) known =
      ap₂ (λ here later. here ++ later)
      (same_from address 0 None code.instrs code.relocations
      (All-head (λ (c : CodeTree). AreKnown functions globals c.relocations) code codes known))
      (same_codes (address + 4 * length code.instrs) codes
      (All-tail (λ (c : CodeTree). AreKnown functions globals c.relocations) code codes known))

  same_function : (number : Option ℕ) → IfSome number (λ n. n < functions) →
      function_address A number ≡ function_address B number
  same_function None within = refl
  same_function (Some number) within = agree.function number within

  same_jumps : (comp index : ℕ) (section : TypedSection) (exports : List Proto) →
      length section.functions ≡ functions →
      entry_jumps A comp index section exports ≡ entry_jumps B comp index section exports
  same_jumps comp index section [] each = refl
  same_jumps comp index section (proto ∷ exports) each =
      let place = place_named proto.name (Some section) in
      ap₂ (λ address rest. Jal 0 (pos address -ℤ pos (entry_address comp index)) ∷ rest)
      (same_function place (named_within place refl)) (same_jumps comp (suc index) section exports each) where
        named_within : (found : Option ℕ) → place_named proto.name (Some section) ≡ found →
            IfSome found (λ n. n < functions)
        named_within None is = tt
        named_within (Some n) is =
            subst (λ m. n < m) each
            (place_within (λ (f : TypedFunction). bytes_eq f.name proto.name) section.functions n is)

-- a layout has the addresses of its section
module _ (comp exports : ℕ) (section : TypedSection) (codes : List CodeTree) where
  abbrev sizes : List ℕ
  sizes = code_sizes codes

  abbrev cells : List ℕ
  cells = global_sizes section.structs section.globals

  pub layout_agrees : Agree (addresses_of (section_layout comp exports section codes))
      (section_addresses comp exports section codes) (length codes) (length section.globals)
  layout_agrees = record {
    function = λ number within.
        let there : slice_index (starts (entry_address comp exports) sizes) number ≡
        entry_address comp exports + 4 * total (take number sizes) =
        starts_at (entry_address comp exports) sizes number (subst (λ n. number < n)
        (sym (length-map codes (λ (code : CodeTree). length code.instrs))) within) in
        there ∙ ap (λ ns. entry_address comp exports + 4 * total ns)
        (take-map (λ (code : CodeTree). length code.instrs) number codes) ∙ omega arith;
    entry = λ c index. refl;
    global = λ number within.
        let there : slice_index (starts (stack_top comp) cells) number ≡
        stack_top comp + 4 * total (take number cells) =
        starts_at (stack_top comp) cells number (subst (λ n. number < n)
        (sym (length-map section.globals (λ (g : TypedGlobal). cells_of section.structs g.ty))) within) in
        there ∙ ap (λ ns. stack_top comp + 4 * total ns)
        (take-map (λ (g : TypedGlobal). cells_of section.structs g.ty) number section.globals);
  }

  pub functions_length : length (section_layout comp exports section codes).functions ≡ length codes
  functions_length =
      starts_length (entry_address comp exports) sizes ∙ length-map codes (λ (code : CodeTree). length code.instrs)

  pub globals_length : length (section_layout comp exports section codes).globals ≡ length section.globals
  globals_length =
      starts_length (stack_top comp) cells ∙
      length-map section.globals (λ (g : TypedGlobal). cells_of section.structs g.ty)

module _ (comp : ℕ) (exports : List Proto) (section : TypedSection) (codes : List CodeTree)
    (can : CanBeLinked comp exports section codes) where
  abbrev layout : SectionLayout
  layout = section_layout comp (length exports) section codes

  pub function_for_each : (used : SectionLayout) → used ≡ layout → length used.functions ≡ length section.functions
  function_for_each used is =
      ap (λ (l : SectionLayout). length l.functions) is ∙ functions_length comp (length exports) section codes ∙
      can.each

  -- what the codes refer to is in the layout
  pub known_in_layout : (used : SectionLayout) → used ≡ layout →
      All {X = CodeTree} (λ code. AreKnown (length used.functions) (length used.globals) code.relocations) codes
  known_in_layout used is =
      subst (λ f. All {X = CodeTree} (λ code. AreKnown f (length used.globals) code.relocations) codes)
      (sym (function_for_each used is))
      (subst (λ g. All {X = CodeTree} (λ code. AreKnown (length section.functions) g code.relocations) codes)
      (sym (ap (λ (l : SectionLayout). length l.globals) is ∙ globals_length comp (length exports) section codes))
      can.inside)

  abbrev by_layout : Addresses
  by_layout = addresses_of layout

  abbrev addresses : Addresses
  addresses = section_addresses comp (length exports) section codes

  abbrev start : ℕ
  start = entry_address comp (length exports)

  same_code : entry_jumps by_layout comp 0 section exports ++ linked_codes by_layout start codes ≡
      section_code comp exports section codes
  same_code =
      let agree = layout_agrees comp (length exports) section codes in
      ap₂ (λ jumps later. jumps ++ later)
      (same_jumps by_layout addresses (length codes) (length section.globals) agree comp 0 section exports
      (sym can.each))
      (same_codes by_layout addresses (length codes) (length section.globals) agree start codes
      (subst (λ f. All {X = CodeTree} (λ code. AreKnown f (length section.globals) code.relocations) codes)
      (sym can.each) can.inside))

  -- the code of a section by its layout
  pub code_by_layout : (words entries all : List ℕ) (used : SectionLayout) (address : ℕ) → used ≡ layout →
      address ≡ start → words ≡ [] →
      entries ≡ words ++ map word_of (entry_jumps (addresses_of used) used.comp 0 section exports) →
      all ≡ entries ++ map word_of (linked_codes (addresses_of used) address codes) →
      all ≡ map word_of (section_code comp exports section codes)
  code_by_layout words entries all used address is there none jumps linked =
      linked ∙
      ap₂ (λ prefix later. prefix ++ map word_of later)
      (jumps ∙ ap₂ (λ before (l : SectionLayout).
      before ++ map word_of (entry_jumps (addresses_of l) l.comp 0 section exports)) none is)
      (ap₂ (λ (l : SectionLayout) a. linked_codes (addresses_of l) a codes) is there) ∙
      sym (map-append word_of (entry_jumps by_layout comp 0 section exports) (linked_codes by_layout start codes)) ∙
      ap (map word_of) same_code
