-- The cells of globals: as many as their types take.
use Rattle.sc_core_kind_laws.proofs.Common.{List, Ty, TypedStruct, [], and_first, and_rest, ap, eqb-true, length}
use Rattle.sc_core_kind_laws.proofs.Common.{nat_le, refl, slice_get, slice_index_or, structs_fit, suc, sym, true, zero}
use Rattle.sc_core_kind_laws.proofs.Common.{ℕ, ◌++◌, ◌==◌, ◌∙◌, ◌∷◌, ◌≡◌}
use Rattle.sc_core.specs.Prelude.{base_cells, base_within, base_zeros, cells_of, member_zeros, members_fit, repeated}
use Rattle.sc_core.specs.Prelude.{starred_cells, starred_within, starred_zeros, struct_cells, struct_fits, struct_zeros}
use Rattle.sc_core.specs.Prelude.{type_within, variable_fits, with_words, zeros_of}
use Rattle.sc_core.specs.declared.section.TypedMember.{TypedMember}
use Rattle.sc_core.specs.declared.ty.BaseTy.{BaseTy}
use Rattle.sc_core.specs.declared.value.Cell.{Cell}
use Rattle.std.proofs.Common.{arith, get_or-append-add, length-append, ltb-true, ⊎_elim, ◌*◌, ◌+◌, ◌<◌}
use Rattle.std.proofs.lemmas.Bool.{cases_lt}
use Rattle.std.proofs.lemmas.List.{get_or_append_left}
use Rattle.sc_core.specs.declared.ty.BaseTy.TheVariants as base
use Rattle.sc_core.specs.declared.ty.Ty.TheVariants as ty
use Rattle.sc_core.specs.declared.value.Cell.TheVariants as cell

-- the zeros of the first structs are as many as these take
abbrev AreAsMany : List (List Cell) → List TypedStruct → ℕ → Type 0
AreAsMany zeros structs k =
    (n : ℕ) → n < k → length (slice_index_or zeros n []) ≡ struct_cells (slice_get structs n)

module _ (zeros : List (List Cell)) (structs : List TypedStruct) (k : ℕ) (many : AreAsMany zeros structs k) where
  base_many : (b : BaseTy) → base_within k b ≡ true → length (base_zeros zeros b) ≡ base_cells structs b
  base_many base.Int h = refl
  base_many base.Unsigned h = refl
  base_many (base.Struct n) h = many n (ltb-true n k h)

  starred_many : (pointed stars : ℕ) (b : BaseTy) → starred_within k pointed stars b ≡ true →
      length (starred_zeros zeros stars b) ≡ starred_cells structs stars b
  starred_many pointed zero b h = base_many b h
  starred_many pointed (suc stars) b h = refl

  repeated_many : (n : ℕ) (cells : List Cell) → length (repeated zeros n cells) ≡ n * length cells
  repeated_many zero cells = none (length cells) where
    none : (size : ℕ) → 0 ≡ 0 * size
    none size = grind arith
  repeated_many (suc n) cells =
      length-append cells (repeated zeros n cells) ∙ ap (λ m. length cells + m) (repeated_many n cells) ∙
      next n (length cells) where
        next : (m size : ℕ) → size + m * size ≡ suc m * size
        next m size = grind arith

  zeros_many : (pointed : ℕ) (t : Ty) → type_within k pointed t ≡ true →
      length (zeros_of zeros t) ≡ cells_of structs t
  zeros_many pointed ty.Int h = refl
  zeros_many pointed ty.Unsigned h = refl
  zeros_many pointed (ty.Struct n) h = many n (ltb-true n k h)
  zeros_many pointed (ty.Pointer stars b) h = refl
  zeros_many pointed (ty.Array stars b n) h =
      repeated_many n (starred_zeros zeros stars b) ∙
      ap (λ m. n * m) (starred_many pointed stars b (and_rest (nat_le 1 n) _ h))

  members_many : (offset end : ℕ) (ms : List TypedMember) → members_fit structs k offset ms end ≡ true →
      offset + length (member_zeros zeros ms) ≡ end
  members_many offset end [] h = let e : offset ≡ end = eqb-true offset end h in omega (arith, e)
  members_many offset end (m ∷ ms) h =
      let typed = and_rest (m.offset == offset) _ h in
      let own = zeros_many (suc k) m.ty (and_first (type_within k (suc k) m.ty) _ typed) in
      let rest = members_many (offset + cells_of structs m.ty) end ms (and_rest (type_within k (suc k) m.ty) _ typed) in
      omega (arith, own, rest, length-append (zeros_of zeros m.ty) (member_zeros zeros ms))

  struct_many : (s : TypedStruct) → struct_fits structs k s ≡ true → length (member_zeros zeros s.members) ≡ s.cells
  struct_many s h =
      let whole = members_many 0 s.cells s.members (and_first (members_fit structs k 0 s.members s.cells) _
      (and_rest (nat_le 1 (length s.members)) _ h)) in
      omega (arith, whole)

structs_many : (structs rest : List TypedStruct) (k : ℕ) (zeros : List (List Cell)) → length zeros ≡ k →
    AreAsMany zeros structs k → ((i : ℕ) → slice_get structs (k + i) ≡ slice_get rest i) →
    structs_fit structs k rest ≡ true → AreAsMany (struct_zeros zeros rest) structs (k + length rest)
structs_many structs [] k zeros counted many place h n below = many n (omega (arith, below))
structs_many structs (s ∷ rest) k zeros counted many place h n below =
    structs_many structs rest (suc k) (zeros ++ own ∷ []) (omega (arith, counted, length-append zeros (own ∷ [])))
    more (λ i. let e : suc k + i ≡ k + suc i = omega arith in ap (slice_get structs) e ∙ place (suc i))
    (and_rest (struct_fits structs k s) _ h) n (omega (arith, below)) where
      own : List Cell
      own = member_zeros zeros s.members

      first : (m : ℕ) → m < k →
          length (slice_index_or (zeros ++ own ∷ []) m []) ≡ struct_cells (slice_get structs m)
      first m within = ap length (get_or_append_left zeros (own ∷ []) [] m (omega (arith, within, counted))) ∙
          many m within

      last : (m : ℕ) → m ≡ k → length (slice_index_or (zeros ++ own ∷ []) m []) ≡ struct_cells (slice_get structs m)
      last m same =
          let at : m ≡ length zeros + 0 = omega (arith, same, counted) in
          let here : k + 0 ≡ m = omega (arith, same) in
          ap (λ n. length (slice_index_or (zeros ++ own ∷ []) n [])) at
          ∙ ap length (get_or-append-add zeros (own ∷ []) 0 [])
          ∙ struct_many zeros structs k many s (and_first (struct_fits structs k s) _ h)
          ∙ ap struct_cells (sym (ap (slice_get structs) (sym here) ∙ place 0))

      more : AreAsMany (zeros ++ own ∷ []) structs (suc k)
      more m within =
          ⊎_elim (first m) (λ from. last m (omega (arith, from, within))) (cases_lt m k)

-- the zeros of a section's variables are as many cells as they take
pub variable_many : (structs : List TypedStruct) (t : Ty) → structs_fit structs 0 structs ≡ true →
    variable_fits structs t ≡ true → length (zeros_of (struct_zeros [] structs) t) ≡ cells_of structs t
variable_many structs t fit h =
    zeros_many (struct_zeros [] structs) structs (length structs)
    (λ n within. structs_many structs structs 0 [] refl (λ m none. absurd (omega (arith, none)))
    (λ i. let e : 0 + i ≡ i = omega arith in ap (slice_get structs) e) fit n (omega (arith, within)))
    (length structs) t (and_first (type_within (length structs) (length structs) t) _ h)

pub words_length : (words : List ℕ) (cells : List Cell) → length (with_words words cells) ≡ length cells
words_length [] cells = refl
words_length (w ∷ ws) [] = refl
words_length (w ∷ ws) (cell.Undef ∷ cells) = ap suc (words_length ws cells)
words_length (w ∷ ws) (cell.Word v ∷ cells) = ap suc (words_length ws cells)
words_length (w ∷ ws) (cell.Null ∷ cells) = ap suc (words_length ws cells)
words_length (w ∷ ws) (cell.Ptr p ∷ cells) = ap suc (words_length ws cells)
