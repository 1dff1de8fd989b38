-- What taking a page and a write to it make of the bytes at their places, and where a paged store has its addresses.
use Rattle.sc_store.proofs.Common.{AreApart, AreDistinct, AreOut, ArePlaced, AreSingle, Bool, IfSome, IsFocus, IsIn}
use Rattle.sc_store.proofs.Common.{IsNone, IsSome, List, None, OnSome, Option, Region, Some, [], ap, arith, byte_at}
use Rattle.sc_store.proofs.Common.{byte_on, cases_eq, cases_lt, cell, cond, count_by, false, find, get_or}
use Rattle.sc_store.proofs.Common.{get_or-replicate, get_or-set_other, get_or-set_same, get_or_default, get_or_past}
use Rattle.sc_store.proofs.Common.{inl, inr, is_in, is_none, is_some, length, length-replicate, memory_of, nat_le}
use Rattle.sc_store.proofs.Common.{nat_lt, nat_tests, option_map, place_found, place_in, place_of, put_mid, reaches}
use Rattle.sc_store.proofs.Common.{refl, regions_in, replaced, replicate, same_Some, set, subst, suc, sum_by-set, sym}
use Rattle.sc_store.proofs.Common.{take, take_more, true, written, zero, zeros, ℕ, ⊎_elim, ◌%◌, ◌&&◌, ◌*◌, ◌++◌, ◌+◌}
use Rattle.sc_store.proofs.Common.{◌-◌, ◌/◌, ◌<◌, ◌↔◌, ◌∙◌, ◌∷◌, ◌≡◌, ◌≢◌, ◌≤◌, ◌⊎◌}
use Rattle.sc_pool.specs.Pages.{KeepsOthers, Pages, page_of, with_page, zero_page}
use Rattle.sc_store.proofs.Words.{by_access, head_apart, in_cases, in_false, in_true, tail_apart}
use Rattle.sc_store.proofs.Parts.{before, within, after, written-in, written-apart}
use Rattle.sc_store.specs.declared.area.Area.{Area}
use Rattle.sc_store.specs.Pages.{pages_of}

-- ---- a page is taken
-- the bytes of a page that isn't the new one
same_byte : (pool pool' : Pages) (slot : Option ℕ) (x : ℕ) →
    ((m : ℕ) → slot ≡ Some m → page_of pool' m ≡ page_of pool m) → byte_at pool' slot x ≡ byte_at pool slot x
same_byte pool pool' None x h = refl
same_byte pool pool' (Some m) x h = ap (λ o. byte_on o x) (h m refl)

not_both : (o : Option (List ℕ)) → IsSome o → IsNone o → ⊥
not_both o s n = cc

zero_byte : (x : ℕ) → get_or zero_page x 0 ≡ 0
zero_byte x = ⊎_elim (λ below. get_or-replicate 4096 x 0 0 below)
    (λ above. get_or_past (replicate 4096 0) x 0 (omega (arith, length-replicate {A = ℕ} 4096 0))) (cases_lt x 4096)

module _ (table : List (Option ℕ)) (pool pool' : Pages) (number n : ℕ)
    (there : number < length table) (free : get_or table number None ≡ None)
    (out : AreOut table pool) (distinct : AreDistinct table)
    (was_in : IsNone (page_of pool n)) (zeros : page_of pool' n ≡ Some zero_page)
    (others : KeepsOthers pool pool' n) where
  abbrev now : List (Option ℕ)
  now = set table number (Some n)

  other_page : (k m : ℕ) → get_or table k None ≡ Some m → m ≢ n
  other_page k m e = λ same. not_both _ (subst (λ i. IsSome (page_of pool i)) same (out k m e)) was_in

  at_number : get_or now number None ≡ Some n
  at_number = get_or-set_same table number _ None there

  elsewhere : (k : ℕ) → k ≢ number → get_or now k None ≡ get_or table k None
  elsewhere k h = get_or-set_other table number k _ None h

  taken_out : AreOut now pool'
  taken_out k m e = ⊎_elim (λ same.
      let is = same_Some _ _ (sym at_number ∙ ap (λ i. get_or now i None) (sym same) ∙ e) in
      subst (λ i. IsSome (page_of pool' i)) is (subst (λ o. IsSome o) (sym zeros) refl)) (λ other.
      let old = sym (elsewhere k other) ∙ e in
      subst (λ o. IsSome o) (sym (others m (other_page k m old))) (out k m old)) (cases_eq k number)

  taken_distinct : AreDistinct now
  taken_distinct j k m e f = ⊎_elim (λ js. ⊎_elim (λ ks. js ∙ sym ks)
      (λ ko. absurd (other_page k m (sym (elsewhere k ko) ∙ f) (sym (new j js e)))) (cases_eq k number)) (λ jo. ⊎_elim
      (λ ks. absurd (other_page j m (sym (elsewhere j jo) ∙ e) (sym (new k ks f))))
      (λ ko. distinct j k m (sym (elsewhere j jo) ∙ e) (sym (elsewhere k ko) ∙ f)) (cases_eq k number))
      (cases_eq j number)
    where
      new : (i : ℕ) → i ≡ number → get_or now i None ≡ Some m → n ≡ m
      new i s h = same_Some _ _ (sym at_number ∙ ap (λ z. get_or now z None) (sym s) ∙ h)

  same_at : (i : ℕ) → cell now pool' i ≡ cell table pool i
  same_at i = ⊎_elim (λ same. ap (λ z. byte_at pool' (get_or now z None) (i % 4096)) same
      ∙ ap (λ o. byte_at pool' o (i % 4096)) at_number ∙ ap (λ o. byte_on o (i % 4096)) zeros ∙ zero_byte (i % 4096)
      ∙ sym (ap (λ z. byte_at pool (get_or table z None) (i % 4096)) same ∙ ap (λ o. byte_at pool o (i % 4096)) free))
      (λ other. ap (λ o. byte_at pool' o (i % 4096)) (elsewhere _ other) ∙ same_byte pool pool' _ _
      (λ m e. others m (other_page _ m e))) (cases_eq (i / 4096) number)

  taken : AreOut now pool' × AreDistinct now × (cell now pool' ≡ cell table pool)
  taken = (taken_out, taken_distinct, λ k i. same_at i k)

-- one page fewer isn't taken
fewer : (table : List (Option ℕ)) (number n : ℕ) → number < length table → get_or table number None ≡ None →
    count_by is_none (set table number (Some n)) + 1 ≡ count_by is_none table
fewer table number n there free =
    let f : Option ℕ → ℕ = λ o. cond (is_none o) 1 0 in
    let e : f _ ≡ 1 = ap f free in
    omega (arith, sum_by-set f table number (Some n) None there, e)

pub is_free : (table : List (Option ℕ)) (number : ℕ) (slot : Option ℕ) → slot ≡ get_or table number slot →
    is_some slot ≡ false → get_or table number None ≡ None
is_free table number None e t = sym e
is_free table number (Some m) e t = absurd (cc)

pub slot_is : (table : List (Option ℕ)) (number n : ℕ) (slot : Option ℕ) → number < length table →
    slot ≡ get_or table number slot → slot ≡ Some n → get_or table number None ≡ Some n
slot_is table number n slot h e is = get_or_default table number None slot h ∙ sym e ∙ is

-- the pool's answer is put into the table
pub record Took (table : List (Option ℕ)) (pool pool' : Pages) (number : ℕ) (r : Option ℕ) : Type 0 where
  pub out : AreOut (set table number r) pool'
  pub distinct : AreDistinct (set table number r)
  pub enough : count_by is_none (set table number r) ≤ pool'.spare
  pub same : cell (set table number r) pool' ≡ cell table pool

pub took : (table : List (Option ℕ)) (pool pool' : Pages) (number : ℕ) (r : Option ℕ) → number < length table →
    get_or table number None ≡ None → AreOut table pool → AreDistinct table →
    count_by is_none table ≤ pool.spare → (IsNone r ↔ pool.spare ≡ 0) →
    IfSome r (λ n. IsNone (page_of pool n)) → IfSome r (λ n. page_of pool' n ≡ Some zero_page) →
    IfSome r (λ n. KeepsOthers pool pool' n) → OnSome r (pool'.spare + 1 ≡ pool.spare) → Took table pool pool' number r
took table pool pool' number None there free out distinct enough none was zeros others spare =
    absurd (omega (arith, fewer table number 0 there free, none.0 refl))
took table pool pool' number (Some n) there free out distinct enough none was zeros others spare =
    let new = taken table pool pool' number n there free out distinct was zeros others in
    record { out = new.0; distinct = new.1; enough = omega (arith, fewer table number n there free); same = new.2 }

-- ---- a write to a page
pub replaced-in : (f : ℕ → ℕ) (a : ℕ) (bs : List ℕ) (k : ℕ) → a ≤ k → k < a + length bs →
    replaced f a bs k ≡ get_or bs (k - a) 0
replaced-in f a bs k h l = let t : (nat_le a k && nat_lt k (a + length bs)) ≡ true = grind (arith, nat_tests) in
    rw t refl

pub replaced-apart : (f : ℕ → ℕ) (a : ℕ) (bs : List ℕ) (k : ℕ) → (a ≤ k → k < a + length bs → ⊥) →
    replaced f a bs k ≡ f k
replaced-apart f a bs k h = let t : (nat_le a k && nat_lt k (a + length bs)) ≡ false = grind (arith, nat_tests) in
    rw t refl

-- zeros that are written to a page that isn't taken
pub zeros_unwritten : (table : List (Option ℕ)) (pool : Pages) (a : ℕ) (bs : List ℕ) →
    IsNone (get_or table (a / 4096) None) → a % 4096 + length bs ≤ 4096 →
    ((k : ℕ) → k < length bs → get_or bs k 0 ≡ 0) → cell table pool ≡ replaced (cell table pool) a bs
zeros_unwritten table pool a bs free fits zero_bytes = λ j i. at_place i j
  where
    no_number : (o : Option ℕ) → IsNone o → o ≡ None
    no_number None h = refl
    no_number (Some n) h = absurd (cc)

    zero_there : (i : ℕ) → i / 4096 ≡ a / 4096 → cell table pool i ≡ 0
    zero_there i same = ap (λ z. byte_at pool (get_or table z None) (i % 4096)) same ∙
        ap (λ o. byte_at pool o (i % 4096)) (no_number (get_or table (a / 4096) None) free)

    at_place : (i : ℕ) → cell table pool i ≡ replaced (cell table pool) a bs i
    at_place i = by_access a (length bs) i (λ out. sym (replaced-apart (cell table pool) a bs i out))
        (λ from here. zero_there i (omega arith) ∙
        sym (replaced-in (cell table pool) a bs i from here ∙ zero_bytes (i - a) (omega arith)))

page_there : (pool : Pages) (n : ℕ) (old : List ℕ) → page_of pool n ≡ Some old → n < length pool.slots
page_there pool n old e = ⊎_elim (λ below. below) (λ above. absurd (let none = get_or_past _ n None above in cc))
    (cases_lt n _)

module _ (table : List (Option ℕ)) (pool : Pages) (a n : ℕ) (old bs : List ℕ) (distinct : AreDistinct table)
    (slot : get_or table (a / 4096) None ≡ Some n) (page : page_of pool n ≡ Some old) (size : length old ≡ 4096)
    (fits : a % 4096 + length bs ≤ 4096) where
  abbrev pub page_new : List ℕ
  page_new = put_mid (a % 4096) (length bs) old bs

  on_page : (i : ℕ) → i / 4096 ≡ a / 4096 → cell table pool i ≡ get_or old (i % 4096) 0
  on_page i same = ap (λ z. byte_at pool (get_or table z None) (i % 4096)) same ∙
      ap (λ o. byte_at pool o (i % 4096)) slot ∙ ap (λ o. byte_on o (i % 4096)) page

  on_new : (i : ℕ) → i / 4096 ≡ a / 4096 → cell table (with_page pool n page_new) i ≡ get_or page_new (i % 4096) 0
  on_new i same = ap (λ z. byte_at (with_page pool n page_new) (get_or table z None) (i % 4096)) same ∙
      ap (λ o. byte_at (with_page pool n page_new) o (i % 4096)) slot ∙
      ap (λ o. byte_on o (i % 4096)) (get_or-set_same pool.slots n _ None (page_there pool n old page))

  wrote_at : (i : ℕ) → cell table (with_page pool n page_new) i ≡ replaced (cell table pool) a bs i
  wrote_at i = ⊎_elim (λ same. on_new i same ∙ ⊎_elim (λ low. before _ _ _ old bs (omega arith) low
      ∙ sym (replaced-apart (cell table pool) a bs i (λ l u. omega arith) ∙ on_page i same)) (λ from. ⊎_elim
      (λ here. within _ _ _ old bs (omega arith) refl from here
      ∙ ap (λ z. get_or bs z 0) (let z : i % 4096 - a % 4096 ≡ i - a = omega arith in z)
      ∙ sym (replaced-in (cell table pool) a bs i (omega arith) (omega arith)))
      (λ past. after _ _ _ old bs (omega arith) refl past
      ∙ sym (replaced-apart (cell table pool) a bs i (λ l u. omega arith) ∙ on_page i same)) (cases_lt _ _))
      (cases_lt _ _)) (λ other. same_byte pool (with_page pool n _) (get_or table _ None) (i % 4096)
      (λ m e. get_or-set_other _ n m _ None (λ is. other (distinct _ _ n (e ∙ ap Some is) slot)))
      ∙ sym (replaced-apart (cell table pool) a bs i (λ l u. other (omega arith)))) (cases_eq _ _)

  pub wrote : cell table (with_page pool n page_new) ≡ replaced (cell table pool) a bs
  wrote = λ k i. wrote_at i k

-- the same, as the check writes it
pub wrote_page : (table : List (Option ℕ)) (pool : Pages) (f : ℕ → ℕ) (a n k : ℕ) (old bs ys : List ℕ) →
    AreDistinct table → get_or table (a / 4096) None ≡ Some n → page_of pool n ≡ Some old → length old ≡ 4096 →
    a % 4096 + length bs ≤ 4096 → cell table pool ≡ f → ys ≡ bs → k ≡ length bs →
    cell table (with_page pool n (put_mid (a % 4096) k old ys)) ≡ replaced f a bs
wrote_page table pool f a n k old bs ys distinct slot page size fits same e count = ap
    (λ z. cell table (with_page pool n (put_mid (a % 4096) k old z))) e ∙
    ap (λ z. cell table (with_page pool n (put_mid (a % 4096) z old bs))) count ∙
    wrote table pool a n old bs distinct slot page size fits ∙ ap (λ g. replaced g a bs) same

-- Where the addresses of a paged store have their places, and what a write to the places makes of its memory.

-- ---- what an area has
map_cond : {X Y : Type 0} (f : X → Y) (t : Bool) (x : X) (o : Option X) →
    option_map f (cond t (Some x) o) ≡ cond t (Some (f x)) (option_map f o)
map_cond f true x o = refl
map_cond f false x o = refl

map_some : {X Y : Type 0} (f : X → Y) (o : Option X) → is_some (option_map f o) ≡ is_some o
map_some f None = refl
map_some f (Some x) = refl

reaches_one : (r : Area) (a : ℕ) → reaches a 1 r ≡ is_in r.region a
reaches_one r a = ⊎_elim
    (λ inside. (let t : reaches a 1 r ≡ true = grind (arith, nat_tests) in t) ∙ sym (in_true _ a inside))
    (λ out. (let t : reaches a 1 r ≡ false = grind (arith, nat_tests) in t) ∙ sym (in_false _ a out)) (in_cases _ a)

pub one_place : (rs : List Area) (a : ℕ) → place_found rs a 1 ≡ place_of rs a
one_place [] a = refl
one_place (r ∷ rs) a = ap (λ t. option_map (place_in a) (cond t (Some r) (find (reaches a 1) rs))) (reaches_one r a) ∙
    map_cond (place_in a) (is_in r.region a) r (find (reaches a 1) rs) ∙
    ap (λ o. cond (is_in r.region a) (Some (place_in a r)) o) (one_place rs a)

-- ---- an access within one area
-- where there is a place, there is an area with the address
somewhere : (rs : List Area) (d : Area) (a i : ℕ) → place_of rs a ≡ Some i →
    (j : ℕ) × (j < length rs) × IsIn (get_or rs j d).region a
somewhere [] d a i e = absurd (cc)
somewhere (r ∷ rs) d a i e = ⊎_elim (λ inside. (0, omega arith, inside)) (λ out.
    let w = somewhere rs d a i
    (sym (ap (λ t. cond t (Some (place_in a r)) (place_of rs a)) (in_false r.region a out)) ∙ e) in
    (suc w.0, omega (arith, w.1), w.2)) (in_cases r.region a)

-- an address with a place in a later area isn't in the first
place_apart : (r : Area) (rs : List Area) (a i : ℕ) → AreApart (regions_in (r ∷ rs)) → place_of rs a ≡ Some i →
    IsIn r.region a → ⊥
place_apart r rs a i apart e first =
    let w = somewhere rs r a i e in
    head_apart (λ q. q.region) r rs w.0 r a apart w.1 w.2 first

reached_in : (r : Area) (a size k : ℕ) → reaches a size r ≡ true → k < size →
    IsIn r.region (a + k) × (r.region.start ≤ a)
reached_in r a size k t h = (
  let i : IsIn r.region (a + k) = grind (arith, nat_tests) in i,
  let s : r.region.start ≤ a = grind (arith, nat_tests) in s,
)

pub found_places : (rs : List Area) (a size i : ℕ) → AreApart (regions_in rs) → place_found rs a size ≡ Some i →
    (k : ℕ) → k < size → place_of rs (a + k) ≡ Some (i + k)
found_places [] a size i apart e k h = absurd (cc)
found_places (r ∷ rs) a size i apart e k h =
    by_test (λ later. found_places rs a size i (tail_apart r.region _ apart) later k h) (reaches a size r) refl
  where
    by_test : (place_found rs a size ≡ Some i → place_of rs (a + k) ≡ Some (i + k)) → (t : Bool) →
        reaches a size r ≡ t → place_of (r ∷ rs) (a + k) ≡ Some (i + k)
    by_test more true is =
        let w = reached_in r a size k is h in
        let at : place_in a r ≡ i = same_Some _ _
        (sym (ap (λ t. option_map (place_in a) (cond t (Some r) (find (reaches a size) rs))) is) ∙ e) in
        ap (λ t. cond t (Some (place_in (a + k) r)) (place_of rs (a + k))) (in_true r.region (a + k) w.0)
        ∙ ap Some (let n : place_in (a + k) r ≡ i + k = omega (arith, at, w.1) in n)
    by_test more false is =
        let later : place_of rs (a + k) ≡ Some (i + k) = more
        (sym (ap (λ t. option_map (place_in a) (cond t (Some r) (find (reaches a size) rs))) is) ∙ e) in
        ap (λ t. cond t (Some (place_in (a + k) r)) (place_of rs (a + k)))
        (in_false r.region (a + k) (place_apart r rs (a + k) (i + k) apart later)) ∙ later

-- ---- the area in focus
not_reached : (r : Area) (a size : ℕ) → (IsIn r.region a → ⊥) → 0 < size → reaches a size r ≡ false
not_reached r a size out some = grind (arith, nat_tests)

first_in : (r : Area) (a size : ℕ) → reaches a size r ≡ true → 0 < size → IsIn r.region a
first_in r a size t some = grind (arith, nat_tests)

pub focus_at : (rs : List Area) (i : ℕ) (d : Area) → AreApart (regions_in rs) → i < length rs →
    IsFocus (get_or rs i d) rs
focus_at [] i d apart h = absurd (omega arith)
focus_at (r ∷ rs) zero d apart h = λ a size some t.
    ap (λ b. option_map (place_in a) (cond b (Some r) (find (reaches a size) rs))) t
focus_at (r ∷ rs) (suc i) d apart h = λ a size some t. ap (λ b.
    option_map (place_in a) (cond b (Some r) (find (reaches a size) rs)))
    (not_reached r a size (head_apart (λ q. q.region) r rs i d a apart (omega arith)
    (first_in (get_or rs i d) a size t some)) some) ∙
    focus_at rs i d (tail_apart r.region _ apart) (omega arith) a size some t

pub focus_empty : (r : Area) (rs : List Area) → r.region.bytes ≡ 0 → IsFocus r rs
focus_empty r rs none = λ a size some t. absurd
    (let out = not_reached r a size (λ i. omega (arith, i.0, i.1, none)) some in cc)

-- the place that was found is on a page
pub found_page : (rs : List Area) (pages a size i : ℕ) (o : Option ℕ) → AreApart (regions_in rs) →
    ArePlaced rs pages → o ≡ place_found rs a size → o ≡ Some i → 0 < size → i < pages * 4096
found_page rs pages a size i o apart placed e at some =
    let p = found_places rs a size i apart (sym e ∙ at) 0 some in
    omega (arith, placed _ _ p)

pub found_bytes : (rs : List Area) (f : ℕ → ℕ) (a size i : ℕ) (o : Option ℕ) → AreApart (regions_in rs) →
    o ≡ place_found rs a size → o ≡ Some i → (k : ℕ) → k < size → memory_of rs f (a + k) ≡ Some (f (i + k))
found_bytes rs f a size i o apart e at k h = ap (λ p. option_map f p) (found_places rs a size i apart (sym e ∙ at) k h)

pub found_first : (rs : List Area) (f : ℕ → ℕ) (a i : ℕ) (o : Option ℕ) → o ≡ place_found rs a 1 → o ≡ Some i →
    memory_of rs f a ≡ Some (f i)
found_first rs f a i o e at = ap (λ p. option_map f p) (sym (one_place rs a) ∙ sym e ∙ at)

pub read_first : (rs : List Area) (f : ℕ → ℕ) (a i x : ℕ) (o : Option ℕ) → o ≡ place_found rs a 1 → o ≡ Some i →
    x ≡ f (i + 0) → memory_of rs f a ≡ Some x
read_first rs f a i x o e at is =
    found_first rs f a i o e at ∙ ap Some (ap f (let z : i ≡ i + 0 = omega arith in z) ∙ sym is)

-- an address has a byte exactly where it has a place
pub has_place : (rs : List Area) (f : ℕ → ℕ) (a : ℕ) (o : Option ℕ) → o ≡ place_found rs a 1 →
    is_some o ≡ is_some (memory_of rs f a)
has_place rs f a o e = ap is_some (e ∙ one_place rs a) ∙ sym (map_some f _)

-- ---- a write
-- places that a write leaves unchanged
kept_bytes : (f g : ℕ → ℕ) (o : Option ℕ) → ((j : ℕ) → o ≡ Some j → g j ≡ f j) → option_map g o ≡ option_map f o
kept_bytes f g None h = refl
kept_bytes f g (Some j) h = ap Some (h j refl)

written_at : (rs : List Area) (f : ℕ → ℕ) (a i : ℕ) (bs : List ℕ) → AreSingle rs →
    ((k : ℕ) → k < length bs → place_of rs (a + k) ≡ Some (i + k)) → (b : ℕ) →
    memory_of rs (replaced f i bs) b ≡ written (memory_of rs f) a bs b
written_at rs f a i bs single places b = by_access a (length bs) b outside (λ from below.
    let at : place_of rs b ≡ Some (i + (b - a)) =
    subst (λ z. place_of rs z ≡ Some (i + (b - a))) (omega arith) (places (b - a) (omega arith)) in
    ap (λ p. option_map (replaced f i bs) p) at ∙
    ap Some (replaced-in f i bs (i + (b - a)) (omega arith) (omega arith) ∙
    ap (λ z. get_or bs z 0) (let z : i + (b - a) - i ≡ b - a = omega arith in z)) ∙
    sym (written-in (memory_of rs f) a bs b from below))
  where
    outside : (a ≤ b → b < a + length bs → ⊥) → memory_of rs (replaced f i bs) b ≡ written (memory_of rs f) a bs b
    outside out = kept_bytes f (replaced f i bs) (place_of rs b) (λ j e. replaced-apart f i bs j (λ l u.
        let p : place_of rs (a + (j - i)) ≡ Some (i + (j - i)) = places (j - i) (omega arith) in
        let q : place_of rs (a + (j - i)) ≡ Some j = p ∙ ap Some (let z : i + (j - i) ≡ j = omega arith in z) in
        let same : b ≡ a + (j - i) = single b (a + (j - i)) j e q in
        out (omega (arith, same)) (omega (arith, same)))) ∙ sym (written-apart (memory_of rs f) a bs b out)

pub found_written : (rs : List Area) (f g : ℕ → ℕ) (a i : ℕ) (bs : List ℕ) (o : Option ℕ) → AreApart (regions_in rs) →
    AreSingle rs → o ≡ place_found rs a (length bs) → o ≡ Some i → g ≡ replaced f i bs →
    memory_of rs g ≡ written (memory_of rs f) a bs
found_written rs f g a i bs o apart single e at w =
    ap (λ h. memory_of rs h) w ∙ (λ k b. written_at rs f a i bs single (found_places rs a _ i apart (sym e ∙ at)) b k)

-- ---- areas one after another
pushed : (rs : List Area) (r : Area) (a i : ℕ) → place_of (rs ++ r ∷ []) a ≡ Some i →
    (place_of rs a ≡ Some i) ⊎ (IsIn r.region a × (i ≡ place_in a r))
pushed [] r a i e = ⊎_elim (λ inside. inr (
  inside,
  sym (same_Some _ _ (sym (ap (λ t. cond t (Some (place_in a r)) (let o = None in o)) (in_true _ a inside)) ∙ e)),
)) (λ out. inl (sym (ap (λ t. cond t (Some (place_in a r)) (let o = None in o)) (in_false _ a out)) ∙ e)) (in_cases _ a)
pushed (q ∷ rs) r a i e = ⊎_elim (λ inside.
    let test = in_true q.region a inside in
    inl (ap (λ t. cond t (Some (place_in a q)) (place_of rs a)) test
    ∙ sym (ap (λ t. cond t (Some (place_in a q)) (place_of (rs ++ r ∷ []) a)) test) ∙ e)) (λ out.
    let test = in_false _ a out in
    ⊎_elim (λ old. inl (ap (λ t. cond t (Some (place_in a q)) (place_of rs a)) test ∙ old)) (λ new. inr new)
    (pushed rs r a i (sym (ap (λ t. cond t (Some (place_in a q)) (place_of (rs ++ r ∷ []) a)) test) ∙ e)))
    (in_cases _ a)

pub single_pushed : (rs : List Area) (r : Area) (p : ℕ) → AreSingle rs → ArePlaced rs p → r.first ≡ p * 4096 →
    AreSingle (rs ++ r ∷ [])
single_pushed rs r p single placed first a b i e f = ⊎_elim (λ old. ⊎_elim (λ also. single a b i old also)
    (λ new. absurd (omega (arith, placed a i old, new.1, first))) (pushed rs r b i f)) (λ new. ⊎_elim
    (λ old. absurd (omega (arith, placed b i old, new.1, first)))
    (λ also. omega (arith, new.0.0, also.0.0, new.1, also.1)) (pushed rs r b i f)) (pushed rs r a i e)

pub placed_pushed : (rs : List Area) (r : Area) (p q : ℕ) → ArePlaced rs p → r.first ≡ p * 4096 →
    q ≡ p + pages_of r.region → ArePlaced (rs ++ r ∷ []) q
placed_pushed rs r p q placed first more a i e = ⊎_elim (λ old. omega (arith, placed a i old, more))
    (λ new. omega (arith, new.0.0, new.0.1, new.1, first, more)) (pushed rs r a i e)

-- the same, as the check writes it
pub single_grown : (rs rs' : List Area) (r : Area) (p : ℕ) → rs' ≡ rs ++ r ∷ [] → AreSingle rs → ArePlaced rs p →
    r.first ≡ p * 4096 → AreSingle rs'
single_grown rs rs' r p e single placed first =
    subst (λ x. AreSingle x) (sym e) (single_pushed rs r p single placed first)

pub placed_grown : (rs rs' : List Area) (r : Area) (p q : ℕ) → rs' ≡ rs ++ r ∷ [] → ArePlaced rs p →
    r.first ≡ p * 4096 → q ≡ p + pages_of r.region → ArePlaced rs' q
placed_grown rs rs' r p q e placed first more =
    subst (λ x. ArePlaced x q) (sym e) (placed_pushed rs r p q placed first more)

regions_pushed : (rs : List Area) (r : Area) → regions_in (rs ++ r ∷ []) ≡ regions_in rs ++ r.region ∷ []
regions_pushed [] r = refl
regions_pushed (q ∷ rs) r = ap (λ t. q.region ∷ t) (regions_pushed rs r)

pub regions_grown : (rs rs' : List Area) (r : Area) (regions : List Region) (k : ℕ) (d : Region) →
    rs' ≡ rs ++ r ∷ [] → regions_in rs ≡ take k regions → k < length regions → r.region ≡ get_or regions k d →
    regions_in rs' ≡ take (k + 1) regions
regions_grown rs rs' r regions k d e before h is = ap regions_in e ∙ regions_pushed rs r ∙
    ap (λ t. t ++ r.region ∷ []) before ∙ ap (λ x. take k regions ++ x ∷ []) is ∙ sym (take_more regions k d h)

-- ---- zeros
zeros_at : (rs : List Area) (f : ℕ → ℕ) → ((k : ℕ) → f k ≡ 0) → (a : ℕ) → memory_of rs f a ≡ zeros (regions_in rs) a
zeros_at [] f zero_cells a = refl
zeros_at (r ∷ rs) f zero_cells a = map_cond f (is_in _ a) (place_in a r) (place_of rs a) ∙
    ap (λ x. cond (is_in r.region a) (Some x) (option_map f (place_of rs a))) (zero_cells (place_in a r)) ∙
    ap (λ o. cond (is_in r.region a) (Some 0) o) (zeros_at rs f zero_cells a)

pub zeros_placed : (rs : List Area) (regions : List Region) (f : ℕ → ℕ) → regions_in rs ≡ regions →
    ((k : ℕ) → f k ≡ 0) → memory_of rs f ≡ zeros regions
zeros_placed rs regions f e zero_cells = (λ k a. zeros_at rs f zero_cells a k) ∙ ap zeros e
