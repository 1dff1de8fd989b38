-- A compartment of an image, and what is looked up of it.
use Rattle.sc_machine.specs.Common.{ImageParts, IsWellFormed, code_in, code_start, data_start, initial_globals}
use Rattle.sc_image.specs.Prelude.{has_heap}
use Rattle.sc_machine.specs.Common.{most_globals}
use Rattle.sc_machine.specs.Common.{stack_size, stretch}
use Rattle.std.specs.Prelude.{◌≡◌, ◌+◌, ◌*◌, ◌<◌, ◌≤◌, ℕ, Bool, List, length}

-- the compartment of that number of an image
pub record IsPlace (image : ImageParts) (c : ℕ) : Type 0 where
  pub formed : IsWellFormed image
  pub within : c < length image.comps

-- its code, where that begins, where its data begin, how many bytes its stack and its globals have, and whether it has
-- a zone besides
pub record IsLookedUp (image : ImageParts) (c : ℕ) (words : List ℕ) (code_from data_from bytes : ℕ)
    (has_zone : Bool) : Type 0 where
  pub words_are : words ≡ code_in image c
  pub code_from_is : code_from ≡ code_start c
  pub data_from_is : data_from ≡ data_start c
  pub bytes_are : bytes ≡ stack_size + length (initial_globals image c)
  pub zone_is : has_zone ≡ has_heap image c
  -- so that addresses of the code and the data have 32 bits
  pub few_words : 4 * length words ≤ stretch
  pub few_bytes : bytes ≤ stack_size + most_globals

-- a compartment of an image, by its number
pub record Site : Type 0 where
  pub image : ImageParts
  pub comp : ℕ
