-- Bytes begin with one image at most, and then there is no cause for which they begin with none.
use Rattle.sc_top.proofs.Common.{BeginWithImage, List, Ok, Some, ap, cause_number, drop}
use Rattle.sc_top.proofs.Common.{none-some, option_map, part_cause_in, read_cause, subst, sym, take, take-append-drop}
use Rattle.sc_top.proofs.Common.{ℕ}
use Rattle.sc_top.proofs.Common.{◌∙◌, ◌≡◌}
use Rattle.sc_image.proofs.Whole.{begin_with_one, is_begun_again}
unfoldable use Rattle.sc_image.specs.Prelude.{image_at}

pub one_front : (bytes : List ℕ) (one other : BeginWithImage bytes) →
    (one.image ≡ other.image) × (one.place ≡ other.place)
one_front bytes one other =
    begin_with_one bytes one.image other.image one.place other.place one.well_formed other.well_formed one.begin
    other.begin

-- the same of the bytes after it
pub one_rest : (bytes : List ℕ) (one other : BeginWithImage bytes) → drop one.place bytes ≡ drop other.place bytes
one_rest bytes one other = ap (λ n. drop n bytes) (one_front bytes one other).1

-- the image with which the bytes begin is read, and the rest is left
is_read : (bytes : List ℕ) (front : BeginWithImage bytes) →
    image_at bytes ≡ Ok (front.image, drop front.place bytes)
is_read bytes front =
    ap image_at (sym (take-append-drop front.place bytes)) ∙
    is_begun_again front.image (take front.place bytes) (drop front.place bytes) front.well_formed front.begin.are

pub front_good : (bytes : List ℕ) (cause : ℕ) → BeginWithImage bytes → part_cause_in bytes ≡ Some cause → ⊥
front_good bytes cause front bad =
    none-some cause
    (sym (ap (λ found. option_map cause_number (read_cause found)) (is_read bytes front)) ∙ bad)
