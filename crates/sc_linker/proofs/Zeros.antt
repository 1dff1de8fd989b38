-- The words of globals at the start are those of their initialisers, followed by zeros.
use Rattle.sc_linker.proofs.Common.{BaseTy, Cell, List, Some, Ty, TypedGlobal, TypedMember, TypedSection, TypedStruct}
use Rattle.sc_linker.proofs.Common.{[], add-one, and_first, and_rest, ap, append-nil, append_assoc, ap₂, arith}
use Rattle.sc_linker.proofs.Common.{base_cells, base_within, base_zeros, cases_lt, cell_word, cells_of, eqb-true}
use Rattle.sc_linker.proofs.Common.{flat_map, get_after, get_or_append_left, global_block, global_fits, global_words}
use Rattle.sc_linker.proofs.Common.{initial_words, inl, inr, leb-true, length, length_push, list_all, ltb-true, map}
use Rattle.sc_linker.proofs.Common.{map-append, member_zeros, members_fit, nat_le, refl, repeated, replicate}
use Rattle.sc_linker.proofs.Common.{replicate-append-replicate, slice_get, slice_index_or, starred_cells}
use Rattle.sc_linker.proofs.Common.{starred_within, starred_zeros, struct_cells, struct_fits, struct_zeros, structs_fit}
use Rattle.sc_linker.proofs.Common.{subst, suc, sym, true, type_within, variable_fits, with_words, words_fit, zero}
use Rattle.sc_linker.proofs.Common.{zeros_of, ℕ, ◌&&◌, ◌*◌, ◌++◌, ◌+◌, ◌-◌, ◌<◌, ◌==◌, ◌∙◌, ◌∷◌, ◌≡◌, ◌≤◌, ◌⊎◌}
use Rattle.std.proofs.Math.Seq.{get_or-append_seam}
use Rattle.std.proofs.Math.Nat.{suc-mul, zero-mul}
use Rattle.sc_core.specs.declared.ty.BaseTy.TheVariants as base
use Rattle.sc_core.specs.declared.ty.Ty.TheVariants as ty
use Rattle.sc_core.specs.declared.value.Cell.TheVariants as cell

-- `count` cells that begin with the word 0
pub record AreZeros (cells : List Cell) (count : ℕ) : Type 0 where
  pub words : map cell_word cells ≡ replicate count 0

none : AreZeros [] 0
none = record { words = refl }

join : (xs ys : List Cell) (m n : ℕ) → AreZeros xs m → AreZeros ys n → AreZeros (xs ++ ys) (m + n)
join xs ys m n one two = record {
  words = map-append cell_word xs ys ∙ ap₂ (λ a b. a ++ b) one.words two.words ∙ replicate-append-replicate m n 0;
}

times : (zeros : List (List Cell)) (n : ℕ) (cells : List Cell) (count : ℕ) → AreZeros cells count →
    AreZeros (repeated zeros n cells) (n * count)
times zeros zero cells count are = subst (AreZeros []) (sym (zero-mul count)) none
times zeros (suc n) cells count are =
    let e : count + n * count ≡ suc n * count = omega (arith, suc-mul n count) in
    subst (AreZeros (cells ++ repeated zeros n cells)) e
    (join cells (repeated zeros n cells) count (n * count) are (times zeros n cells count are))

module _ (structs : List TypedStruct) where
  -- the cells of the first structs
  pub record AreKnown (zeros : List (List Cell)) (count : ℕ) : Type 0 where
    pub all : length zeros ≡ count
    pub each : (n : ℕ) → n < count → AreZeros (slice_index_or zeros n []) (struct_cells (slice_get structs n))

  module _ (zeros : List (List Cell)) (count pointed : ℕ) (known : AreKnown zeros count) where
    base_blank : (b : BaseTy) → base_within count b ≡ true → AreZeros (base_zeros zeros b) (base_cells structs b)
    base_blank base.Int within = record { words = refl }
    base_blank base.Unsigned within = record { words = refl }
    base_blank (base.Struct n) within = known.each n (ltb-true n count within)

    starred_blank : (stars : ℕ) (b : BaseTy) → starred_within count pointed stars b ≡ true →
        AreZeros (starred_zeros zeros stars b) (starred_cells structs stars b)
    starred_blank zero b within = base_blank b within
    starred_blank (suc stars) b within = record { words = refl }

    -- a variable's cells without an initialiser
    blank : (t : Ty) → type_within count pointed t ≡ true → AreZeros (zeros_of zeros t) (cells_of structs t)
    blank ty.Int within = record { words = refl }
    blank ty.Unsigned within = record { words = refl }
    blank (ty.Struct n) within = known.each n (ltb-true n count within)
    blank (ty.Pointer stars b) within = record { words = refl }
    blank (ty.Array stars b n) within =
        times zeros n (starred_zeros zeros stars b) (starred_cells structs stars b)
        (starred_blank stars b (and_rest (nat_le 1 n) (starred_within count pointed stars b) within))

  -- members stand one after another
  members_blank : (zeros : List (List Cell)) (count offset end : ℕ) (members : List TypedMember) →
      AreKnown zeros count → members_fit structs count offset members end ≡ true →
      replicate offset 0 ++ map cell_word (member_zeros zeros members) ≡ replicate end 0
  members_blank zeros count offset end [] known fit =
      append-nil (replicate offset 0) ∙ ap (λ n. replicate n 0) (eqb-true offset end fit)
  members_blank zeros count offset end (m ∷ members) known fit =
      let following = and_rest (m.offset == offset) _ fit in
      let size = cells_of structs m.ty in
      let here = blank zeros count (suc count) known m.ty (and_first (type_within count (suc count) m.ty) _ following)
      in
      let later = member_zeros zeros members in
      ap (λ ws. replicate offset 0 ++ ws)
      (map-append cell_word (zeros_of zeros m.ty) later ∙ ap (λ ws. ws ++ map cell_word later) here.words) ∙
      sym (append_assoc (replicate offset 0) (replicate size 0) (map cell_word later)) ∙
      ap (λ ws. ws ++ map cell_word later) (replicate-append-replicate offset size 0) ∙
      members_blank zeros count (offset + size) end members known
      (and_rest (type_within count (suc count) m.ty) _ following)

  -- one struct more
  module _ (zeros : List (List Cell)) (count : ℕ) (s : TypedStruct) (cells : List Cell) (known : AreKnown zeros count)
      (there : slice_get structs count ≡ Some s) (here : AreZeros cells s.cells) where
    abbrev more : List (List Cell)
    more = zeros ++ cells ∷ []

    each_known : (n : ℕ) → (n < count) ⊎ (count ≤ n) → n < suc count →
        AreZeros (slice_index_or more n []) (struct_cells (slice_get structs n))
    each_known n (inl before) within =
        subst (λ cs. AreZeros cs (struct_cells (slice_get structs n)))
        (sym (get_or_append_left zeros (cells ∷ []) [] n (subst (λ k. n < k) (sym known.all) before)))
        (known.each n before)
    each_known n (inr following) within =
        let last : count ≡ n = omega (arith, following, within) in
        subst (λ k. AreZeros (slice_index_or more k []) (struct_cells (slice_get structs k))) last
        (subst (λ o. AreZeros (slice_index_or more count []) (struct_cells o)) (sym there)
        (subst (λ cs. AreZeros cs s.cells) (sym (ap (λ k. slice_index_or more k []) (sym known.all) ∙
        get_or-append_seam zeros cells [] [])) here))

    one_known : AreKnown more (suc count)
    one_known = record {
      all = length_push zeros cells ∙ add-one (length zeros) ∙ ap suc known.all;
      each = λ n within. each_known n (cases_lt n count) within;
    }

  all_known : (zeros : List (List Cell)) (count : ℕ) (prefix rest : List TypedStruct) → prefix ++ rest ≡ structs →
      length prefix ≡ count → AreKnown zeros count → structs_fit structs count rest ≡ true →
      AreKnown (struct_zeros zeros rest) (length structs)
  all_known zeros count prefix [] are len known fit =
      subst (AreKnown zeros) (sym len ∙ ap length (sym (append-nil prefix) ∙ are)) known
  all_known zeros count prefix (s ∷ rest) are len known fit =
      let there : slice_get structs count ≡ Some s =
      ap₂ (λ xs n. slice_get xs n) (sym are) (sym len) ∙ get_after prefix s rest in
      let fits = and_first (struct_fits structs count s) _ fit in
      let members = and_first (members_fit structs count 0 s.members s.cells) _
      (and_rest (nat_le 1 (length s.members)) _ fits) in
      all_known (zeros ++ member_zeros zeros s.members ∷ []) (suc count) (prefix ++ s ∷ []) rest
      (append_assoc prefix (s ∷ []) rest ∙ are) (length_push prefix s ∙ add-one (length prefix) ∙ ap suc len)
      (one_known zeros count s (member_zeros zeros s.members) known there
      (record { words = members_blank zeros count 0 s.cells s.members known members }))
      (and_rest (struct_fits structs count s) _ fit)

  pub structs_known : structs_fit structs 0 structs ≡ true → AreKnown (struct_zeros [] structs) (length structs)
  structs_known fit =
      all_known [] 0 [] structs refl refl (record { all = refl; each = λ n within. absurd (omega arith) }) fit

-- WORDS
-- words over cells that hold words
words_over : (words : List ℕ) (zeros : List (List Cell)) (n : ℕ) → length words ≤ n →
    map cell_word (with_words words (repeated zeros n (cell.Word 0 ∷ []))) ≡ words ++ replicate (n - length words) 0
words_over [] zeros n few =
    let e : n * 1 ≡ n - 0 = omega arith in
    (times zeros n (cell.Word 0 ∷ []) 1 (record { words = refl })).words ∙ ap (λ k. replicate k 0) e
words_over (w ∷ words) zeros zero few = absurd (omega (arith, few))
words_over (w ∷ words) zeros (suc n) few =
    let e : n - length words ≡ suc n - suc (length words) = omega arith in
    ap (λ ws. w ∷ ws) (words_over words zeros n (omega (arith, few)) ∙ ap (λ k. words ++ replicate k 0) e)

-- a pointer begins with null
null_over : (words : List ℕ) → (nat_le (length words) 1 && list_all (λ w. w == 0) words) ≡ true →
    map cell_word (with_words words (cell.Null ∷ [])) ≡ words ++ replicate (1 - length words) 0
null_over [] fit = refl
null_over (w ∷ []) fit =
    ap (λ v. v ∷ []) (sym (eqb-true w 0 (and_first (w == 0) true (and_rest (nat_le 1 1) _ fit))))
null_over (w ∷ v ∷ words) fit =
    let few : suc (suc (length words)) ≤ 1 =
    leb-true (suc (suc (length words))) 1 (and_first (nat_le (suc (suc (length words))) 1) _ fit) in
    absurd (omega (arith, few))

module _ (structs : List TypedStruct) (zeros : List (List Cell)) (known : AreKnown structs zeros (length structs)) where
  -- a variable without an initialiser
  plain : (t : Ty) (init : List ℕ) → type_within (length structs) (length structs) t ≡ true →
      nat_le (length init) 0 ≡ true →
      map cell_word (with_words init (zeros_of zeros t)) ≡ init ++ replicate (cells_of structs t - length init) 0
  plain t [] within fit =
      let e : cells_of structs t ≡ cells_of structs t - 0 = omega arith in
      (blank structs zeros (length structs) (length structs) known t within).words ∙ ap (λ k. replicate k 0) e
  plain t (w ∷ init) within fit =
      let few : suc (length init) ≤ 0 = leb-true (suc (length init)) 0 fit in absurd (omega (arith, few))

  elements : (n : ℕ) (init : List ℕ) → nat_le (length init) n ≡ true →
      map cell_word (with_words init (repeated zeros n (cell.Word 0 ∷ []))) ≡
      init ++ replicate (n * 1 - length init) 0
  elements n init fit =
      let e : n - length init ≡ n * 1 - length init = omega arith in
      words_over init zeros n (leb-true (length init) n fit) ∙ ap (λ k. init ++ replicate k 0) e

  begun : (t : Ty) (init : List ℕ) → type_within (length structs) (length structs) t ≡ true → words_fit t init ≡ true →
      map cell_word (with_words init (zeros_of zeros t)) ≡ init ++ replicate (cells_of structs t - length init) 0
  begun ty.Int init within fit = words_over init zeros 1 (leb-true (length init) 1 fit)
  begun ty.Unsigned init within fit = words_over init zeros 1 (leb-true (length init) 1 fit)
  begun (ty.Pointer stars b) init within fit = null_over init fit
  begun (ty.Array zero base.Int n) init within fit = elements n init fit
  begun (ty.Array zero base.Unsigned n) init within fit = elements n init fit
  begun t init within fit = plain t init within fit

  globals_begun : (globals : List TypedGlobal) → list_all (global_fits structs) globals ≡ true →
      flat_map (initial_words structs) globals ≡
      flat_map (λ block. map cell_word block.cells) (map (global_block zeros) globals)
  globals_begun [] fit = refl
  globals_begun (g ∷ globals) fit =
      let fits = and_first (global_fits structs g) _ fit in
      let within = and_first (type_within (length structs) (length structs) g.ty) _
      (and_first (variable_fits structs g.ty) _ fits) in
      ap₂ (λ here later. here ++ later)
      (sym (begun g.ty g.init within (and_rest (variable_fits structs g.ty) _ fits)))
      (globals_begun globals (and_rest (global_fits structs g) _ fit))

pub words_are : (section : TypedSection) → structs_fit section.structs 0 section.structs ≡ true →
    list_all (global_fits section.structs) section.globals ≡ true →
    flat_map (initial_words section.structs) section.globals ≡ global_words section
words_are section structs globals =
    globals_begun section.structs (struct_zeros [] section.structs) (structs_known section.structs structs)
    section.globals globals
