-- The words that a section's globals begin with: as many as their cells, each at its place, and the bytes of them.
use Rattle.sc_linker.proofs.Common.{All, All-append, All-cons, All-head, All-nil, All-tail, BaseTy, Block, Cell, IsByte}
use Rattle.sc_linker.proofs.Common.{IsStart, List, Some, Ty, TypedGlobal, TypedMember, TypedStruct, [], all_at}
use Rattle.sc_linker.proofs.Common.{and_first, ap, arith, base_zeros, cell_word, cells, cells_of, flat_map}
use Rattle.sc_linker.proofs.Common.{global_block, global_fits, length, length-append, length-map, list_all}
use Rattle.sc_linker.proofs.Common.{little_bytes, map, member_zeros, option_map, refl, repeated, slice_get}
use Rattle.sc_linker.proofs.Common.{slice_get-map, slice_index_or, starred_zeros, struct_zeros, structs_fit, suc, take}
use Rattle.sc_linker.proofs.Common.{true, variable_fits, with_words, zero, zeros_of, ℕ, ◌*◌, ◌++◌, ◌+◌, ◌<◌, ◌^◌, ◌∙◌}
use Rattle.sc_linker.proofs.Common.{◌∷◌, ◌≡◌}
use Rattle.std.specs.Int.{byte_at, bytes_low_first}
use Rattle.sc_core.specs.declared.ty.BaseTy.TheVariants as base
use Rattle.sc_core.specs.declared.ty.Ty.TheVariants as ty
use Rattle.sc_core.specs.declared.value.Cell.TheVariants as cell
use Rattle.sc_core_kind_laws.proofs.Cells.{variable_many, words_length}
use Rattle.sc_linker.proofs.Places.{all_from, get_after, get_before}

-- PLACES
abbrev pub words_of : List Block → List ℕ
words_of blocks = flat_map (λ block. map cell_word block.cells) blocks

module _ (zeros : List (List Cell)) (structs : List TypedStruct) where
  -- each global's block is as large as its type
  abbrev pub AreSized : List TypedGlobal → Type 0
  AreSized globals = All {X = TypedGlobal} (λ g. length (global_block zeros g).cells ≡ cells_of structs g.ty) globals

  first_sized : (g : TypedGlobal) (globals : List TypedGlobal) → AreSized (g ∷ globals) →
      length (map cell_word (global_block zeros g).cells) ≡ cells_of structs g.ty
  first_sized g globals sized = length-map (global_block zeros g).cells cell_word ∙
      All-head (λ (x : TypedGlobal). length (global_block zeros x).cells ≡ cells_of structs x.ty) g globals sized

  later_sized : (g : TypedGlobal) (globals : List TypedGlobal) → AreSized (g ∷ globals) → AreSized globals
  later_sized g globals sized =
      All-tail (λ (x : TypedGlobal). length (global_block zeros x).cells ≡ cells_of structs x.ty) g globals sized

  pub words_count : (globals : List TypedGlobal) → AreSized globals →
      length (words_of (map (global_block zeros) globals)) ≡ cells structs globals
  words_count [] sized = refl
  words_count (g ∷ globals) sized =
      omega (
        arith,
        length-append (map cell_word (global_block zeros g).cells)
            (words_of (map (global_block zeros) globals)),
        first_sized g globals sized,
        words_count globals (later_sized g globals sized),
      )

  pub word_there : (globals : List TypedGlobal) (number i at : ℕ) (block : Block) (one : Cell) → AreSized globals →
      slice_get (map (global_block zeros) globals) number ≡ Some block → slice_get block.cells i ≡ Some one →
      at ≡ cells structs (take number globals) + i →
      slice_get (words_of (map (global_block zeros) globals)) at ≡ Some (cell_word one)
  word_there [] number i at block one sized is here e = absurd (cc)
  word_there (g ∷ globals) zero i at block one sized is here e =
      let same : global_block zeros g ≡ block = cc in
      let place : at ≡ i = omega (arith, e) in
      ap (slice_get (words_of (map (global_block zeros) (g ∷ globals)))) place
      ∙ get_before (map cell_word (global_block zeros g).cells) (words_of (map (global_block zeros) globals)) i
      (cell_word one)
      (slice_get-map cell_word (global_block zeros g).cells i ∙ ap (option_map cell_word)
      (ap (λ (b : Block). slice_get b.cells i) same ∙ here))
  word_there (g ∷ globals) (suc number) i at block one sized is here e =
      get_after (map cell_word (global_block zeros g).cells) (words_of (map (global_block zeros) globals))
      (cells structs (take number globals) + i) at (omega (arith, e, first_sized g globals sized))
      ∙ word_there globals number i (cells structs (take number globals) + i) block one
      (later_sized g globals sized) is here refl

-- the blocks of a section that fits
pub sized : (structs : List TypedStruct) (globals : List TypedGlobal) → structs_fit structs 0 structs ≡ true →
    list_all (global_fits structs) globals ≡ true → AreSized (struct_zeros [] structs) structs globals
sized structs globals fit fits =
    all_from _ globals (λ i g is.
    words_length g.init (zeros_of (struct_zeros [] structs) g.ty)
    ∙ variable_many structs g.ty fit
    (and_first (variable_fits structs g.ty) _ (all_at (global_fits structs) globals fits i g is)))

-- BYTES
pub bytes_count : (words : List ℕ) → length (flat_map (little_bytes 4) words) ≡ 4 * length words
bytes_count [] = refl
bytes_count (word ∷ words) = omega (arith, bytes_count words)

byte_below : (i word : ℕ) → byte_at i word < 2 ^ 8
byte_below zero word = omega arith
byte_below (suc i) word = omega arith

word_bytes : (i k word : ℕ) → All IsByte (bytes_low_first i k word)
word_bytes i zero word = All-nil IsByte
word_bytes i (suc k) word = All-cons IsByte (byte_at i word) (bytes_low_first (suc i) k word) (byte_below i word)
    (word_bytes (suc i) k word)

pub all_bytes : (words : List ℕ) → All IsByte (flat_map (little_bytes 4) words)
all_bytes [] = All-nil IsByte
all_bytes (word ∷ words) =
    All-append IsByte (little_bytes 4 word) (flat_map (little_bytes 4) words) (word_bytes 0 4 word) (all_bytes words)

-- WHAT THEY ARE
-- the cells of zeros are words and null
abbrev AllStart : List Cell → Type 0
AllStart cells = All IsStart cells

at_start : (zeros : List (List Cell)) → All AllStart zeros → (n : ℕ) → AllStart (slice_index_or zeros n [])
at_start [] all n = All-nil IsStart
at_start (z ∷ zeros) all zero = All-head AllStart z zeros all
at_start (z ∷ zeros) all (suc n) = at_start zeros (All-tail AllStart z zeros all) n

module _ (zeros : List (List Cell)) (all : All AllStart zeros) where
  zero_start : AllStart (cell.Word 0 ∷ [])
  zero_start = All-cons IsStart (cell.Word 0) [] (omega arith) (All-nil IsStart)

  null_start : AllStart (cell.Null ∷ [])
  null_start = All-cons IsStart cell.Null [] tt (All-nil IsStart)

  base_start : (b : BaseTy) → AllStart (base_zeros zeros b)
  base_start base.Int = zero_start
  base_start base.Unsigned = zero_start
  base_start (base.Struct n) = at_start zeros all n

  starred_start : (stars : ℕ) (b : BaseTy) → AllStart (starred_zeros zeros stars b)
  starred_start zero b = base_start b
  starred_start (suc stars) b = null_start

  repeated_start : (n : ℕ) (cs : List Cell) → AllStart cs → AllStart (repeated zeros n cs)
  repeated_start zero cs h = All-nil IsStart
  repeated_start (suc n) cs h = All-append IsStart cs (repeated zeros n cs) h (repeated_start n cs h)

  zeros_start : (t : Ty) → AllStart (zeros_of zeros t)
  zeros_start ty.Int = zero_start
  zeros_start ty.Unsigned = zero_start
  zeros_start (ty.Struct n) = at_start zeros all n
  zeros_start (ty.Pointer stars b) = null_start
  zeros_start (ty.Array stars b n) = repeated_start n (starred_zeros zeros stars b) (starred_start stars b)

  members_start : (ms : List TypedMember) → AllStart (member_zeros zeros ms)
  members_start [] = All-nil IsStart
  members_start (m ∷ ms) =
      All-append IsStart (zeros_of zeros m.ty) (member_zeros zeros ms) (zeros_start m.ty) (members_start ms)

structs_start : (rest : List TypedStruct) (zeros : List (List Cell)) → All AllStart zeros →
    All AllStart (struct_zeros zeros rest)
structs_start [] zeros all = all
structs_start (s ∷ rest) zeros all =
    structs_start rest (zeros ++ member_zeros zeros s.members ∷ [])
    (All-append AllStart zeros (member_zeros zeros s.members ∷ []) all
    (All-cons AllStart (member_zeros zeros s.members) [] (members_start zeros all s.members) (All-nil AllStart)))

words_start : (words : List ℕ) (cs : List Cell) → All (λ word. word < 2 ^ 32) words → AllStart cs →
    AllStart (with_words words cs)
words_start [] cs below h = h
words_start (w ∷ ws) [] below h = All-nil IsStart
words_start (w ∷ ws) (cell.Undef ∷ cs) below h = absurd (All-head IsStart cell.Undef cs h)
words_start (w ∷ ws) (cell.Word v ∷ cs) below h =
    All-cons IsStart (cell.Word w) (with_words ws cs) (All-head (λ word. word < 2 ^ 32) w ws below)
    (words_start ws cs (All-tail (λ word. word < 2 ^ 32) w ws below) (All-tail IsStart (cell.Word v) cs h))
words_start (w ∷ ws) (cell.Null ∷ cs) below h =
    All-cons IsStart cell.Null (with_words ws cs) tt
    (words_start ws cs (All-tail (λ word. word < 2 ^ 32) w ws below) (All-tail IsStart cell.Null cs h))
words_start (w ∷ ws) (cell.Ptr p ∷ cs) below h = absurd (All-head IsStart (cell.Ptr p) cs h)

-- each cell of a global begins as a word or null
pub block_start : (structs : List TypedStruct) (g : TypedGlobal) → All (λ word. word < 2 ^ 32) g.init →
    All IsStart (global_block (struct_zeros [] structs) g).cells
block_start structs g below =
    words_start g.init (zeros_of (struct_zeros [] structs) g.ty) below
    (zeros_start (struct_zeros [] structs) (structs_start structs [] (All-nil AllStart)) g.ty)
