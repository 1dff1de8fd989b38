-- Zones: the blocks that were taken from one and not given back, in the order of their places. A block is taken from
-- the least place from which its words are free (first fit).
use Rattle.std.specs.Prelude.{ℕ, zero, suc, ◌+◌, Bool, ◌&&◌, ◌||◌, ◌==◌, nat_le, nat_lt, List, [], ◌∷◌, Option, None}
use Rattle.std.specs.Prelude.{Some, if◌then◌else◌}
use Rattle.std.specs.List.{list_all, list_any}
use Rattle.sc_zone.specs.declared.span.Span.{Span}

-- how many words a zone has
abbrev pub zone_words : ℕ
zone_words = 65536

-- `words` words from a place on have none in common with a block
abbrev pub misses : (words place : ℕ) → Span → Bool
misses words place span = nat_le (place + words) span.place || nat_le (span.place + span.words) place

-- `words` words from a place on are the zone's, and belong to no block
abbrev pub is_free : List Span → (words place : ℕ) → Bool
is_free spans words place = nat_le (place + words) zone_words && list_all (misses words place) spans

-- of `count` places from one on the first from which `words` words are free
unfoldable pub first_free : List Span → (words count place : ℕ) → Option ℕ
first_free spans words zero place = None
first_free spans words (suc count) place =
    if is_free spans words place then Some place else first_free spans words count (suc place)

-- the least place from which `words` words are free; no word is free from none
unfoldable pub least_free : List Span → (words : ℕ) → Option ℕ
least_free spans words = if words == 0 then None else first_free spans words zone_words 0

-- the blocks with one more
abbrev pub with_span : Span → List Span → List Span
with_span span [] = span ∷ []
with_span span (other ∷ others) =
    if nat_lt span.place other.place then span ∷ other ∷ others else other ∷ with_span span others

-- the blocks once `words` words were asked for, and this is the place that was given
abbrev pub taken : (words : ℕ) → Option ℕ → List Span → List Span
taken words None spans = spans
taken words (Some place) spans = with_span (record { place = place; words = words }) spans

-- a block starts at a place
abbrev pub starts_at : List Span → (place : ℕ) → Bool
starts_at spans place = list_any (λ span. span.place == place) spans

-- the blocks without the one that starts at a place
abbrev pub without_span : (place : ℕ) → List Span → List Span
without_span place [] = []
without_span place (span ∷ spans) = if span.place == place then spans else span ∷ without_span place spans

-- how many words the block has that starts at a place
abbrev pub words_at : List Span → (place : ℕ) → Option ℕ
words_at [] place = None
words_at (span ∷ spans) place = if span.place == place then Some span.words else words_at spans place
