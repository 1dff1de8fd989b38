-- In a linked image each global lies at its place in its compartment's data, and holds its words at the start.
use Rattle.sc_linker.proofs.Common.{All, Cell, CodeTree, CompPart, GlobalsAreWords, GlobalsStand, IsLinkable, IsStart}
use Rattle.sc_linker.proofs.Common.{IsWellTyped, List, None, Option, ProgramTree, Some, TypedGlobal, TypedSection, []}
use Rattle.sc_linker.proofs.Common.{addresses_at, ap, arith, cases_lt, cell_word, cells, cells_at, cells_of, comp_at}
use Rattle.sc_linker.proofs.Common.{first_blocks, flat_map, global_block, global_fits, global_words, globals_of, inl}
use Rattle.sc_linker.proofs.Common.{inr, length, linked_image, list_all, little_bytes, live_cells, load_of}
use Rattle.sc_linker.proofs.Common.{most_globals, option_map, option_map_or, refl, section_at, section_or_none}
use Rattle.sc_linker.proofs.Common.{slice_get, slice_get-map, stack_top, start_memory, struct_zeros, structs_fit, subst}
use Rattle.sc_linker.proofs.Common.{sym, take, true, ℕ, ◌*◌, ◌+◌, ◌<◌, ◌^◌, ◌∙◌, ◌≡◌, ◌≢◌, ◌≤◌, ◌⊎◌}
use Rattle.std.proofs.Common.{Err, Ok}
use Rattle.sc_image.proofs.Running.{words_placed}
use Rattle.sc_image.specs.Prelude.{initial_globals as globals_in}
use Rattle.sc_core.specs.declared.cause.Cause.TheVariants.{Dangling}
use Rattle.sc_core.specs.declared.value.Cell.TheVariants as cell
use Rattle.sc_linker.proofs.Comps.{Fits, fits_or_none, number_below, part_is, section_is}
use Rattle.sc_linker.proofs.Exports.{globals_so, structs_so}
use Rattle.sc_linker.proofs.Places.{all_here, total_before, total_take, total_upto}
use Rattle.sc_linker.proofs.Starts.{AreSized, block_start, bytes_count, sized, word_there, words_count}

-- a block of the start is that of a global
record IsOf (section : TypedSection) (number : ℕ) (cs : List Cell) : Type 0 where
  pub global : TypedGlobal
  pub is : slice_get section.globals number ≡ Some global
  pub same : (global_block (struct_zeros [] section.structs) global).cells ≡ cs

is_of : (section : TypedSection) (number : ℕ) (cs : List Cell) →
    cells_at (first_blocks (Some section)) number ≡ Ok cs → IsOf section number cs
is_of section number cs is =
    by (slice_get section.globals number) refl
    (ap live_cells (sym (slice_get-map (global_block (struct_zeros [] section.structs)) section.globals number)) ∙ is)
  where
    by : (o : Option TypedGlobal) → slice_get section.globals number ≡ o →
        live_cells (option_map (global_block (struct_zeros [] section.structs)) o) ≡ Ok cs → IsOf section number cs
    by None at e = absurd (cc)
    by (Some global) at e = record { global = global; is = at; same = cc }

start_word : (one : Cell) → IsStart one → cell_word one < 2 ^ 32
start_word cell.Undef h = absurd h
start_word (cell.Word w) h = h
start_word cell.Null h = omega arith
start_word (cell.Ptr p) h = absurd h

-- by the section
module _ (section : TypedSection) (fit : structs_fit section.structs 0 section.structs ≡ true)
    (fits : list_all (global_fits section.structs) section.globals ≡ true)
  where
    abbrev before : ℕ → ℕ
    before number = cells section.structs (take number section.globals)

    abbrev size : TypedGlobal → ℕ
    size g = cells_of section.structs g.ty

    are_sized : AreSized (struct_zeros [] section.structs) section.structs section.globals
    are_sized = sized section.structs section.globals fit fits

    cells_are : (number : ℕ) (cs : List Cell) → cells_at (first_blocks (Some section)) number ≡ Ok cs →
        (g : TypedGlobal) × (slice_get section.globals number ≡ Some g) × (size g ≡ length cs)
    cells_are number cs is =
        let of = is_of section number cs is in (
          of.global,
          of.is,
          sym (all_here (λ (g : TypedGlobal). length (global_block (struct_zeros [] section.structs) g).cells ≡ size g)
              section.globals are_sized number of.global of.is)
              ∙ ap length of.same,
        )

    inside : (number : ℕ) (cs : List Cell) → cells_at (first_blocks (Some section)) number ≡ Ok cs →
        before number + length cs ≤ cells section.structs section.globals
    inside number cs is =
        let g = cells_are number cs is in omega (arith, g.2, total_upto size section.globals number g.0 g.1)

    ordered : (number other : ℕ) (cs : List Cell) → number < other →
        cells_at (first_blocks (Some section)) number ≡ Ok cs → before number + length cs ≤ before other
    ordered number other cs earlier is =
        let g = cells_are number cs is in
        omega (arith, g.2, total_before size section.globals number other g.0 earlier g.1)

    word_placed : (number i : ℕ) (cs : List Cell) (one : Cell) →
        cells_at (first_blocks (Some section)) number ≡ Ok cs → slice_get cs i ≡ Some one →
        slice_get (global_words section) (before number + i) ≡ Some (cell_word one)
    word_placed number i cs one is at =
        let zeros = struct_zeros [] section.structs in
        let of = is_of section number cs is in
        word_there zeros section.structs section.globals number i (before number + i) (global_block zeros of.global) one
        are_sized
        (slice_get-map (global_block zeros) section.globals number ∙ ap (option_map (global_block zeros)) of.is)
        (ap (λ cells. slice_get cells i) of.same ∙ at) refl

    count : length (global_words section) ≡ cells section.structs section.globals
    count = words_count (struct_zeros [] section.structs) section.structs section.globals are_sized

    starts : All {X = TypedGlobal} (λ g. All (λ word. word < 2 ^ 32) g.init) section.globals → (number i : ℕ)
        (cs : List Cell) (one : Cell) → cells_at (first_blocks (Some section)) number ≡ Ok cs →
        slice_get cs i ≡ Some one → IsStart one
    starts given number i cs one is at =
        let of = is_of section number cs is in
        all_here IsStart cs
        (subst (All IsStart) of.same
        (block_start section.structs of.global
        (all_here (λ (g : TypedGlobal). All (λ word. word < 2 ^ 32) g.init) section.globals given number of.global
        of.is))) i one at

module _ (program : ProgramTree) (codes : List CodeTree) (typed : IsWellTyped program)
    (linkable : IsLinkable program codes)
  where
    abbrev Begins : (comp number : ℕ) → List Cell → Type 0
    Begins comp number cs = cells_at (globals_of program.sections comp) number ≡ Ok cs

    -- a compartment that has a block is one
    has_block : (comp number : ℕ) (cs : List Cell) → Begins comp number cs → Fits program comp
    has_block comp number cs is = by (fits_or_none program typed comp) where
      by : Fits program comp ⊎ ((comp_at program.interfaces comp ≡ None) × (slice_get program.sections comp ≡ None)) →
          Fits program comp
      by (inl fits) = fits
      by (inr none) =
          let never : Err Dangling ≡ Ok cs = sym (ap (λ o. cells_at (first_blocks o) number) none.1) ∙ is in
          absurd (cc)

    module _ (comp : ℕ) (fits : Fits program comp) where
      abbrev own : TypedSection
      own = section_at program comp

      same : own ≡ fits.section
      same = section_is program comp fits

      structs_own : structs_fit own.structs 0 own.structs ≡ true
      structs_own = subst (λ (s : TypedSection). structs_fit s.structs 0 s.structs ≡ true) (sym same)
          (structs_so program.interfaces comp fits.interface fits.section fits.fits)

      globals_own : list_all (global_fits own.structs) own.globals ≡ true
      globals_own = subst (λ (s : TypedSection). list_all (global_fits s.structs) s.globals ≡ true) (sym same)
          (globals_so program.interfaces comp fits.interface fits.section fits.fits)

      block_own : (number : ℕ) (cs : List Cell) → Begins comp number cs →
          cells_at (first_blocks (Some own)) number ≡ Ok cs
      block_own number cs is =
          ap (λ s. cells_at (first_blocks (Some s)) number) same
          ∙ sym (ap (λ o. cells_at (first_blocks o) number) fits.is) ∙ is

      bytes_are : globals_in (linked_image program codes) comp ≡ flat_map (little_bytes 4) (global_words own)
      bytes_are = ap (λ o. option_map_or (λ (c : CompPart). c.globals) o []) (part_is program codes comp fits)

      bytes_long : length (globals_in (linked_image program codes) comp) ≡ 4 * cells own.structs own.globals
      bytes_long =
          let counted = count own structs_own globals_own in
          ap length bytes_are ∙ omega (arith, counted, bytes_count (global_words own))

      part_short : length (flat_map (little_bytes 4) (global_words own)) ≤ most_globals
      part_short =
          let counted = count own structs_own globals_own in
          omega (arith, counted, bytes_count (global_words own), linkable.globals comp)

    high_by : (comp number : ℕ) (cs : List Cell) → Begins comp number cs →
        (addresses_at program codes comp).global number + 4 * length cs ≤
        stack_top comp + length (globals_in (linked_image program codes) comp)
    high_by comp number cs is =
        let fits = has_block comp number cs is in
        omega (
          arith,
          bytes_long comp fits,
          inside (section_at program comp) (structs_own comp fits) (globals_own comp fits) number cs
              (block_own comp fits number cs is),
        )

    ahead : (comp number other : ℕ) (cs : List Cell) → number < other → Begins comp number cs →
        (addresses_at program codes comp).global number + 4 * length cs ≤
        (addresses_at program codes comp).global other
    ahead comp number other cs earlier is =
        let fits = has_block comp number cs is in
        omega (
          arith,
          ordered (section_at program comp) (structs_own comp fits) (globals_own comp fits) number other cs earlier
              (block_own comp fits number cs is),
        )

    apart_by : (comp number other : ℕ) (cs more : List Cell) → number ≢ other → Begins comp number cs →
        Begins comp other more →
        ((addresses_at program codes comp).global number + 4 * length cs ≤
        (addresses_at program codes comp).global other)
        ⊎ ((addresses_at program codes comp).global other + 4 * length more ≤
        (addresses_at program codes comp).global number)
    apart_by comp number other cs more differ is at = by (cases_lt number other) where
      by : (number < other) ⊎ (other ≤ number) →
          ((addresses_at program codes comp).global number + 4 * length cs ≤
          (addresses_at program codes comp).global other)
          ⊎ ((addresses_at program codes comp).global other + 4 * length more ≤
          (addresses_at program codes comp).global number)
      by (inl earlier) = inl (ahead comp number other cs earlier is)
      by (inr later) = inr (ahead comp other number more (less later) at) where
        less : other ≤ number → other < number
        less h = above other number h (λ e. differ (sym e)) where
          above : (a b : ℕ) → a ≤ b → a ≢ b → a < b
          above a b h k = omega (arith, h, k)

    there_by : (comp number : ℕ) (g : TypedGlobal) → slice_get (section_at program comp).globals number ≡ Some g →
        (addresses_at program codes comp).global number < 2 ^ 31
    there_by comp number g is = by (fits_or_none program typed comp) where
      by : Fits program comp ⊎ ((comp_at program.interfaces comp ≡ None) × (slice_get program.sections comp ≡ None)) →
          (addresses_at program codes comp).global number < 2 ^ 31
      by (inl fits) =
          let upto : cells (section_at program comp).structs (take number (section_at program comp).globals) ≤ cells
          (section_at program comp).structs (section_at program comp).globals =
          total_take (λ (x : TypedGlobal). cells_of (section_at program comp).structs x.ty)
          (section_at program comp).globals number in
          omega (arith, number_below program typed comp fits, upto, linkable.globals comp)
      by (inr none) =
          let never : None ≡ Some g = sym (ap (λ o. slice_get (section_or_none o).globals number) none.1) ∙ is in
          absurd (cc)

    module _ (given : GlobalsAreWords program.sections) where
      known_by : (comp number i : ℕ) (cs : List Cell) (one : Cell) → Begins comp number cs →
          slice_get cs i ≡ Some one → IsStart one
      known_by comp number i cs one is at =
          let fits = has_block comp number cs is in
          starts (section_at program comp) (structs_own comp fits) (globals_own comp fits)
          (subst (λ (s : TypedSection). All {X = TypedGlobal} (λ g. All (λ word. word < 2 ^ 32) g.init) s.globals)
          (sym (same comp fits))
          (all_here (λ (s : TypedSection). All {X = TypedGlobal} (λ g. All (λ word. word < 2 ^ 32) g.init) s.globals)
          program.sections given comp fits.section fits.is))
          number i cs one (block_own comp fits number cs is) at

      words_by : (comp number i : ℕ) (cs : List Cell) (one : Cell) → Begins comp number cs →
          slice_get cs i ≡ Some one →
          load_of (start_memory (linked_image program codes))
          ((addresses_at program codes comp).global number + 4 * i) 4
          ≡ cell_word one
      words_by comp number i cs one is at =
          let fits = has_block comp number cs is in
          let S : TypedSection = section_at program comp in
          let at_place : (addresses_at program codes comp).global number + 4 * i
          ≡ stack_top comp + 4 * (cells S.structs (take number S.globals) + i) =
          omega arith in
          ap (λ a. load_of (start_memory (linked_image program codes)) a 4) at_place
          ∙ words_placed (linked_image program codes) comp _ (global_words S)
          (cells S.structs (take number S.globals) + i) (cell_word one) (part_short comp fits)
          (part_is program codes comp fits) refl
          (word_placed S (structs_own comp fits) (globals_own comp fits) number i cs one
          (block_own comp fits number cs is) at)
          (start_word one (known_by comp number i cs one is at))

      pub globals_stand : GlobalsStand program codes
      globals_stand = record {
        high = high_by;
        low = λ comp number. omega arith;
        aligned = λ comp number. omega arith;
        apart = apart_by;
        words = words_by;
        known = known_by;
        there = there_by;
      }
