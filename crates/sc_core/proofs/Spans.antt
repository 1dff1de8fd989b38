-- The zone of a compartment as its blocks tell it: what making blocks, stores, ends of calls and giving back do to it.
use Rattle.sc_core.proofs.Common.{Bool, List, None, Option, Some, ℕ, [], ap, false, length, refl, subst, suc}
use Rattle.sc_core.proofs.Common.{◌&&◌, ◌+◌, ◌∙◌, ◌∷◌, ◌≡◌}
use Rattle.sc_base.proofs.Bools.{and_first, and_rest}
use Rattle.sc_core.specs.Prelude.{Block, Blocks, blocks_for, ended}
use Rattle.sc_core.specs.declared.value.Value.{Value}
use Rattle.std.proofs.Common.{arith, if◌then◌else◌, replicate, slice_get, slice_set, sym}
use Rattle.std.proofs.Common.{true, zero, ⊎_elim, ◌++◌, ◌<◌, ◌≢◌, ◌≤◌}
use Rattle.std.proofs.lemmas.Bool.{cases_lt}
use Rattle.std.proofs.lemmas.List.{length-replicate}
use Rattle.std.proofs.lemmas.Option.{same_Some}
use Rattle.std.specs.Prelude.{fold}
use Rattle.std.specs.List.{list_all, remove}
use Rattle.sc_core.specs.Prelude.{allocated_at, over, span_at, spans_of, with_block}
use Rattle.sc_core.specs.declared.value.Cell.TheVariants as cell
use Rattle.sc_zone.specs.Prelude.{AreLaid, misses, starts_at, with_span, without_span}
use Rattle.sc_zone.specs.declared.span.Span.{Span}
use Rattle.sc_zone.proofs.Giving.{laid_without}
use Rattle.sc_zone.proofs.Taking.{first_put, later_put}
use Rattle.sc_core.proofs.LaidSpans.{WasLaid, gone_other, gone_taken, span_of, starts_still, starts_taken}
use Rattle.sc_core.proofs.LaidSpans.{was_laid}

-- Blocks that are made.

pub spans_append : (spans : List Span) (blocks more : Blocks) →
    fold with_block spans (blocks ++ more) ≡ fold with_block (fold with_block spans blocks) more
spans_append spans [] more = refl
spans_append spans (block ∷ blocks) more = spans_append (with_block spans block) blocks more

spans_variables : (spans : List Span) (cells : List ℕ) (args : List Value) →
    fold with_block spans (blocks_for cells args) ≡ spans
spans_variables spans [] args = refl
spans_variables spans (n ∷ cells) [] = spans_variables spans cells []
spans_variables spans (n ∷ cells) (v ∷ args) = spans_variables spans cells args

-- the variables of a call have no place in the zone
pub spans_begun : (blocks : Blocks) (cells : List ℕ) (args : List Value) →
    spans_of (blocks ++ blocks_for cells args) ≡ spans_of blocks
spans_begun blocks cells args =
    spans_append [] blocks (blocks_for cells args) ∙ spans_variables (spans_of blocks) cells args

pub spans_allocated : (blocks : Blocks) (place words : ℕ) →
    spans_of (blocks ++ allocated_at place words ∷ []) ≡ with_span (span_of place words) (spans_of blocks)
spans_allocated blocks place words =
    spans_append [] blocks (allocated_at place words ∷ []) ∙
    ap (λ n. with_span (span_of place n) (spans_of blocks)) (length-replicate words cell.Undef)

-- Blocks that change.

-- a block lives as another does, at its place, with as many cells
pub record LiesSame (x y : Block) : Type 0 where
  pub live : y.live ≡ x.live
  pub place : y.place ≡ x.place
  pub long : length y.cells ≡ length x.cells

pub spans_changed : (spans : List Span) (blocks : Blocks) (b : ℕ) (x y : Block) → slice_get blocks b ≡ Some x →
    LiesSame x y → fold with_block spans (slice_set blocks b y) ≡ fold with_block spans blocks
spans_changed spans [] b x y at s = refl
spans_changed spans (z ∷ blocks) zero x y at s =
    let same : with_block spans y ≡ with_block spans x =
    (λ i. if s.live i then span_at (s.place i) (s.long i) spans else spans) in
    ap (λ l. fold with_block l blocks) (same ∙ ap (with_block spans) (sym (same_Some z x at)))
spans_changed spans (z ∷ blocks) (suc b) x y at s = spans_changed (with_block spans z) blocks b x y at s

-- of `count` blocks from a number on, those that live were not allocated
abbrev pub AreVariables : (first count : ℕ) → Blocks → Type 0
AreVariables first count blocks =
    (b : ℕ) (x : Block) → slice_get blocks b ≡ Some x → first ≤ b → b < first + count → x.live ≡ true → x.place ≡ None

with_variable : (spans : List Span) (x : Block) (live : Bool) → (live ≡ true → x.place ≡ None) →
    (if live then span_at x.place (length x.cells) spans else spans) ≡ spans
with_variable spans x true e = ap (λ p. span_at p (length x.cells) spans) (e refl)
with_variable spans x false e = refl

ended_from : (spans : List Span) (first count : ℕ) (blocks : Blocks) → AreVariables first count blocks →
    fold with_block spans (ended first count blocks) ≡ fold with_block spans blocks
ended_from spans zero zero blocks none = refl
ended_from spans zero (suc count) [] none = refl
ended_from spans zero (suc count) (x ∷ blocks) none =
    ended_from spans zero count blocks (λ b y at l h. none (suc b) y at (omega arith) (omega (arith, h))) ∙
    ap (λ l. fold with_block l blocks) (sym (with_variable spans x x.live (none 0 x refl (omega arith) (omega arith))))
ended_from spans (suc first) count [] none = refl
ended_from spans (suc first) count (x ∷ blocks) none =
    ended_from (with_block spans x) first count blocks
    (λ b y at l h. none (suc b) y at (omega (arith, l)) (omega (arith, h)))

-- where a call ends, the zone stays
pub spans_ended : (first count : ℕ) (blocks : Blocks) → AreVariables first count blocks →
    spans_of (ended first count blocks) ≡ spans_of blocks
spans_ended first count blocks none = ended_from [] first count blocks none

-- A block that is given back.

-- it lives, and was allocated at a place
pub record Lies (blocks : Blocks) (b place : ℕ) (x : Block) : Type 0 where
  pub at : slice_get blocks b ≡ Some x
  pub live : x.live ≡ true
  pub place_is : x.place ≡ Some place

-- a block changes nothing in the zone, or has a place there
data Puts (x : Block) : Type 0 where
  Nothing : ((spans : List Span) → with_block spans x ≡ spans) → Puts x
  One : (place : ℕ) →
      ((spans : List Span) → with_block spans x ≡ with_span (span_of place (length x.cells)) spans) → Puts x

puts : (x : Block) → Puts x
puts x = by x.live x.place refl refl where
  by : (live : Bool) (place : Option ℕ) → x.live ≡ live → x.place ≡ place → Puts x
  by false place l p = Nothing (λ spans i. if l i then span_at x.place (length x.cells) spans else spans)
  by true None l p = Nothing (λ spans i. if l i then span_at (p i) (length x.cells) spans else spans)
  by true (Some place) l p =
      One place (λ spans i. if l i then span_at (p i) (length x.cells) spans else spans)

with_lying : (spans : List Span) (x : Block) (place : ℕ) → x.live ≡ true → x.place ≡ Some place →
    with_block spans x ≡ with_span (span_of place (length x.cells)) spans
with_lying spans x place live at = λ i. if live i then span_at (at i) (length x.cells) spans else spans

-- the spans before a block, where all are laid with it
laid_one : (spans : List Span) (x : Block) → AreLaid 0 (with_block spans x) → AreLaid 0 spans
laid_one spans x now = by (puts x) where
  by : Puts x → AreLaid 0 spans
  by (Nothing e) = subst (AreLaid 0) (e spans) now
  by (One place e) = (was_laid (span_of place (length x.cells)) spans 0 (subst (AreLaid 0) (e spans) now)).laid

laid_then : (blocks : Blocks) (spans : List Span) → AreLaid 0 (fold with_block spans blocks) → AreLaid 0 spans
laid_then [] spans laid = laid
laid_then (x ∷ blocks) spans laid = laid_one spans x (laid_then blocks (with_block spans x) laid)

-- one that starts at a place still does with a block more, and goes before it as well as after it
starts_one : (spans : List Span) (x : Block) (place : ℕ) → starts_at spans place ≡ true →
    starts_at (with_block spans x) place ≡ true
starts_one spans x place there = by (puts x) where
  by : Puts x → starts_at (with_block spans x) place ≡ true
  by (Nothing e) = ap (λ l. starts_at l place) (e spans) ∙ there
  by (One q e) =
      ap (λ l. starts_at l place) (e spans) ∙ starts_still (span_of q (length x.cells)) spans place there

gone_one : (spans : List Span) (x : Block) (place : ℕ) → starts_at spans place ≡ true →
    AreLaid 0 (with_block spans x) → without_span place (with_block spans x) ≡ with_block (without_span place spans) x
gone_one spans x place there now = by (puts x) where
  by : Puts x → without_span place (with_block spans x) ≡ with_block (without_span place spans) x
  by (Nothing e) = ap (without_span place) (e spans) ∙ sym (e (without_span place spans))
  by (One q e) =
      let y : Span = span_of q (length x.cells) in
      let was : WasLaid y spans 0 = was_laid y spans 0 (subst (AreLaid 0) (e spans) now) in
      let differ : q ≢ place = (λ same. cc (was.fresh, there, ap (starts_at spans) same)) in
      ap (without_span place) (e spans) ∙ gone_other y spans 0 place differ was.laid ∙
      sym (e (without_span place spans))

starts_on : (blocks : Blocks) (spans : List Span) (place : ℕ) → starts_at spans place ≡ true →
    starts_at (fold with_block spans blocks) place ≡ true
starts_on [] spans place there = there
starts_on (x ∷ blocks) spans place there =
    starts_on blocks (with_block spans x) place (starts_one spans x place there)

gone_on : (blocks : Blocks) (spans : List Span) (place : ℕ) → starts_at spans place ≡ true →
    AreLaid 0 (fold with_block spans blocks) →
    without_span place (fold with_block spans blocks) ≡ fold with_block (without_span place spans) blocks
gone_on [] spans place there laid = refl
gone_on (x ∷ blocks) spans place there laid =
    gone_on blocks (with_block spans x) place (starts_one spans x place there) laid ∙
    ap (λ l. fold with_block l blocks)
    (gone_one spans x place there (laid_then blocks (with_block spans x) laid))

-- the spans with an allocated block
with_it : (spans : List Span) (z x : Block) (place : ℕ) → Lies (z ∷ []) 0 place x →
    with_block spans z ≡ with_span (span_of place (length x.cells)) spans
with_it spans z x place lies =
    ap (with_block spans) (same_Some z x lies.at) ∙ with_lying spans x place lies.live lies.place_is

starts_from : (blocks : Blocks) (spans : List Span) (b place : ℕ) (x : Block) → Lies blocks b place x →
    starts_at (fold with_block spans blocks) place ≡ true
starts_from [] spans b place x lies = cc lies.at
starts_from (z ∷ blocks) spans zero place x lies =
    starts_on blocks (with_block spans z) place
    (ap (λ l. starts_at l place)
    (with_it spans z x place (record { at = lies.at; live = lies.live; place_is = lies.place_is })) ∙
    starts_taken (span_of place (length x.cells)) spans)
starts_from (z ∷ blocks) spans (suc b) place x lies =
    starts_from blocks (with_block spans z) b place x
    (record { at = lies.at; live = lies.live; place_is = lies.place_is })

freed_from : (blocks : Blocks) (spans : List Span) (b place : ℕ) (x : Block) → Lies blocks b place x →
    AreLaid 0 (fold with_block spans blocks) →
    fold with_block spans (slice_set blocks b (over x)) ≡ without_span place (fold with_block spans blocks)
freed_from [] spans b place x lies laid = cc lies.at
freed_from (z ∷ blocks) spans zero place x lies laid =
    let y : Span = span_of place (length x.cells) in
    let more : with_block spans z ≡ with_span y spans =
    with_it spans z x place (record { at = lies.at; live = lies.live; place_is = lies.place_is }) in
    let was : WasLaid y spans 0 =
    was_laid y spans 0 (subst (AreLaid 0) more (laid_then blocks (with_block spans z) laid)) in
    let there : starts_at (with_block spans z) place ≡ true =
    ap (λ l. starts_at l place) more ∙ starts_taken y spans in
    sym (gone_on blocks (with_block spans z) place there laid ∙
    ap (λ l. fold with_block l blocks) (ap (without_span place) more ∙ gone_taken y spans was.fresh))
freed_from (z ∷ blocks) spans (suc b) place x lies laid =
    freed_from blocks (with_block spans z) b place x
    (record { at = lies.at; live = lies.live; place_is = lies.place_is }) laid

module _ (blocks : Blocks) (b place : ℕ) (x : Block) (lies : Lies blocks b place x) where
  -- an allocated block starts at its place
  pub starts_lying : starts_at (spans_of blocks) place ≡ true
  starts_lying = starts_from blocks [] b place x lies

  -- and goes from there when it is freed
  pub spans_freed : AreLaid 0 (spans_of blocks) →
      spans_of (slice_set blocks b (over x)) ≡ without_span place (spans_of blocks)
  spans_freed laid = freed_from blocks [] b place x lies laid

-- Words that are free meet no allocated block.

all_taken : (spans : List Span) (x : Span) (words place : ℕ) →
    list_all (misses words place) (with_span x spans) ≡ true →
    (misses words place x ≡ true) × (list_all (misses words place) spans ≡ true)
all_taken [] x words place all = (and_first (misses words place x) true all, refl)
all_taken (s ∷ spans) x words place all =
    let later : (list_all (misses words place) (with_span x spans) ≡ true →
    (misses words place x ≡ true) × (list_all (misses words place) spans ≡ true)) = all_taken spans x words place in
    ⊎_elim
    (λ h. (let now : (misses words place x && list_all (misses words place) (s ∷ spans)) ≡ true =
    sym (ap (list_all (misses words place)) (first_put x s spans h)) ∙ all in
    (and_first (misses words place x) _ now, and_rest (misses words place x) _ now)))
    (λ h. (let now : (misses words place s && list_all (misses words place) (with_span x spans)) ≡ true =
    sym (ap (list_all (misses words place)) (later_put x s spans h)) ∙ all in
    let rest = later (and_rest (misses words place s) _ now) in
    (rest.0, ap (λ b. b && list_all (misses words place) spans) (and_first (misses words place s) _ now) ∙ rest.1)))
    (cases_lt x.place s.place)

all_one : (spans : List Span) (x : Block) (words place : ℕ) →
    list_all (misses words place) (with_block spans x) ≡ true → list_all (misses words place) spans ≡ true
all_one spans x words place now = by (puts x) where
  by : Puts x → list_all (misses words place) spans ≡ true
  by (Nothing e) = sym (ap (list_all (misses words place)) (e spans)) ∙ now
  by (One q e) = (all_taken spans (span_of q (length x.cells)) words place
      (sym (ap (list_all (misses words place)) (e spans)) ∙ now)).1

all_then : (blocks : Blocks) (spans : List Span) (words place : ℕ) →
    list_all (misses words place) (fold with_block spans blocks) ≡ true → list_all (misses words place) spans ≡ true
all_then [] spans words place all = all
all_then (x ∷ blocks) spans words place all =
    all_one spans x words place (all_then blocks (with_block spans x) words place all)

misses_from : (blocks : Blocks) (spans : List Span) (words place b q : ℕ) (x : Block) → Lies blocks b q x →
    list_all (misses words place) (fold with_block spans blocks) ≡ true →
    misses words place (span_of q (length x.cells)) ≡ true
misses_from [] spans words place b q x lies all = cc lies.at
misses_from (z ∷ blocks) spans words place zero q x lies all =
    (all_taken spans (span_of q (length x.cells)) words place
    (sym (ap (list_all (misses words place))
    (with_it spans z x q (record { at = lies.at; live = lies.live; place_is = lies.place_is }))) ∙
    all_then blocks (with_block spans z) words place all)).0
misses_from (z ∷ blocks) spans words place (suc b) q x lies all =
    misses_from blocks (with_block spans z) words place b q x
    (record { at = lies.at; live = lies.live; place_is = lies.place_is }) all

pub misses_lying : (blocks : Blocks) (words place b q : ℕ) (x : Block) → Lies blocks b q x →
    list_all (misses words place) (spans_of blocks) ≡ true → misses words place (span_of q (length x.cells)) ≡ true
misses_lying blocks words place b q x lies all = misses_from blocks [] words place b q x lies all

-- A block that is taken out of the list.

-- an allocated one leaves the zone
gone_from : (blocks : Blocks) (spans : List Span) (b place : ℕ) (x : Block) → Lies blocks b place x →
    AreLaid 0 (fold with_block spans blocks) →
    fold with_block spans (remove blocks b) ≡ without_span place (fold with_block spans blocks)
gone_from [] spans b place x lies laid = cc lies.at
gone_from (z ∷ blocks) spans zero place x lies laid =
    let y : Span = span_of place (length x.cells) in
    let more : with_block spans z ≡ with_span y spans =
    with_it spans z x place (record { at = lies.at; live = lies.live; place_is = lies.place_is }) in
    let was : WasLaid y spans 0 =
    was_laid y spans 0 (subst (AreLaid 0) more (laid_then blocks (with_block spans z) laid)) in
    let there : starts_at (with_block spans z) place ≡ true =
    ap (λ l. starts_at l place) more ∙ starts_taken y spans in
    sym (gone_on blocks (with_block spans z) place there laid ∙
    ap (λ l. fold with_block l blocks) (ap (without_span place) more ∙ gone_taken y spans was.fresh))
gone_from (z ∷ blocks) spans (suc b) place x lies laid =
    gone_from blocks (with_block spans z) b place x
    (record { at = lies.at; live = lies.live; place_is = lies.place_is }) laid

pub gone_between : (blocks : Blocks) (b place : ℕ) (x : Block) → slice_get blocks b ≡ Some x → x.live ≡ true →
    x.place ≡ Some place → AreLaid 0 (spans_of blocks) →
    spans_of (remove blocks b) ≡ without_span place (spans_of blocks)
gone_between blocks b place x at live lies laid =
    gone_from blocks [] b place x (record { at = at; live = live; place_is = lies }) laid

-- one that wasn't allocated changes nothing
none_from : (blocks : Blocks) (spans : List Span) (b : ℕ) (x : Block) → slice_get blocks b ≡ Some x →
    x.place ≡ None → fold with_block spans (remove blocks b) ≡ fold with_block spans blocks
none_from [] spans b x at none = cc at
none_from (z ∷ blocks) spans zero x at none =
    let same : z ≡ x = same_Some z x at in
    ap (λ l. fold with_block l blocks)
    (sym (ap (with_block spans) same ∙ with_variable spans x x.live (λ live. none)))
none_from (z ∷ blocks) spans (suc b) x at none = none_from blocks (with_block spans z) b x at none

pub none_between : (blocks : Blocks) (b : ℕ) (x : Block) → slice_get blocks b ≡ Some x → x.place ≡ None →
    spans_of (remove blocks b) ≡ spans_of blocks
none_between blocks b x at none = none_from blocks [] b x at none

pub still_laid : (spans : List Span) (place : ℕ) → AreLaid 0 spans → AreLaid 0 (without_span place spans)
still_laid spans place laid = laid_without spans 0 place laid
