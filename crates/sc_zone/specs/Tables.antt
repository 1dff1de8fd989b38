-- Helping: the tables in which a zone keeps its blocks and the gaps between them. A table has 0 past its end.
use Rattle.std.specs.Prelude.{◌≡◌, ◌<◌, ◌≤◌, ◌/◌, ℕ, zero, suc, List, [], ◌∷◌, slice_index}
use Rattle.sc_zone.specs.Gaps.{AreLaid, gap_before, gap_from}
use Rattle.sc_zone.specs.Zone.{zone_words}
use Rattle.sc_zone.specs.declared.span.Span.{Span}

-- the blocks whose words stand in a table of the places from one on
abbrev pub blocks_from : (place : ℕ) → List ℕ → List Span
blocks_from place [] = []
blocks_from place (zero ∷ words) = blocks_from (suc place) words
blocks_from place (suc count ∷ words) =
    record { place = place; words = suc count } ∷ blocks_from (suc place) words

-- the gaps by their first words, and by the places before which they end
pub record AreTables (blocks gaps gaps_before : List ℕ) : Type 0 where
  pub laid : AreLaid 0 (blocks_from 0 blocks)
  pub begins : (place : ℕ) → slice_index gaps place ≡ gap_from 0 (blocks_from 0 blocks) place
  pub ends : (place : ℕ) → place < zone_words →
      slice_index gaps_before place ≡ gap_before 0 (blocks_from 0 blocks) place

-- the greatest number of a chunk of 256 places: their least upper bound
pub record IsWidest (words : List ℕ) (chunk most : ℕ) : Type 0 where
  pub bound : (place : ℕ) → place / 256 ≡ chunk → slice_index words place ≤ most
  pub least : (limit : ℕ) → 0 < limit → ((place : ℕ) → place / 256 ≡ chunk → slice_index words place < limit) →
      most < limit

abbrev pub AreWidest : (words widest : List ℕ) → Type 0
AreWidest words widest = (chunk : ℕ) → IsWidest words chunk (slice_index widest chunk)
