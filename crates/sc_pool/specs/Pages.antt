-- What a pool is seen as.
use Rattle.std.specs.Prelude.{◌≡◌, ◌≢◌, ℕ, List, replicate, Option, Some, None, is_some, count_by, slice_index_or}
use Rattle.std.specs.Prelude.{slice_set}

-- at each number the bytes of the page, if it is out; and how many more can be taken
pub record Pages : Type 0 where
  pub slots : List (Option (List ℕ))
  pub spare : ℕ

-- the bytes of a page that is out, by its number
abbrev pub page_of : Pages → ℕ → Option (List ℕ)
page_of p number = slice_index_or p.slots number None

-- how many pages are out
abbrev pub out_of : Pages → ℕ
out_of p = count_by is_some p.slots

-- every other number has what it had
abbrev pub KeepsOthers : Pages → Pages → ℕ → Type 0
KeepsOthers p q number = (other : ℕ) → other ≢ number → page_of q other ≡ page_of p other

-- a page of zeros
abbrev pub zero_page : List ℕ
zero_page = replicate 4096 0

-- the pages with these bytes at a number
abbrev pub with_page : Pages → ℕ → List ℕ → Pages
with_page p number bytes = record p { slots = slice_set p.slots number (Some bytes) }
