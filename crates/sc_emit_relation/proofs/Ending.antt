-- A call ends: its blocks no longer live, and the stack depth is less by its frame size.
use Rattle.sc_emit_relation.proofs.Common.{AllBefore, Block, Blocks, Bool, Cell, Closed, FrameChange, Function, List}
use Rattle.sc_emit_relation.proofs.Common.{LiveAt, Ok, Opened, Some, State as Meant, Value, ℕ, [], ap, arith, begun}
use Rattle.sc_emit_relation.proofs.Common.{cases_eq, depth_after, done, ended, eq-eqb, false, if◌then◌else◌, inl, inr}
use Rattle.sc_emit_relation.proofs.Common.{length, ne_eqb, refl, same_Some, slice_get, stack_depth, suc, sym, true}
use Rattle.sc_emit_relation.proofs.Common.{with_blocks, zero, ⊎_elim, ◌++◌, ◌+◌, ◌-◌, ◌<◌, ◌==◌, ◌∙◌, ◌∷◌, ◌≡◌, ◌≢◌}
use Rattle.sc_emit_relation.proofs.Common.{◌≤◌, ◌⊎◌}
use Rattle.sc_core.specs.Prelude.{Memory}
use Rattle.sc_emit_relation.proofs.Access.{LivingBlock, alive, living_block}

-- a block that lives once some have ended lived before, and is none of these
pub record StillLives (blocks : Blocks) (first count b : ℕ) (block : Block) : Type 0 where
  pub at : slice_get blocks b ≡ Some block
  pub other : (b < first) ⊎ (first + count ≤ b)

pub still_lives : (first count : ℕ) (blocks : Blocks) (b : ℕ) (block : Block) →
    slice_get (ended first count blocks) b ≡ Some block → block.live ≡ true → StillLives blocks first count b block
still_lives zero zero blocks b block h live = record { at = h; other = inr (omega arith) }
still_lives zero (suc count) [] b block h live = cc h
still_lives zero (suc count) (x ∷ xs) zero block h live =
    let over : false ≡ true = ap (λ (y : Block). y.live) (same_Some _ block h) ∙ live in cc over
still_lives zero (suc count) (x ∷ xs) (suc b) block h live =
    let r : StillLives xs zero count b block = still_lives zero count xs b block h live in
    record { at = r.at; other = ⊎_elim (λ l. absurd (omega (arith, l))) (λ l. inr (omega (arith, l))) r.other }
still_lives (suc first) count [] b block h live = cc h
still_lives (suc first) count (x ∷ xs) zero block h live = record { at = h; other = inl (omega arith) }
still_lives (suc first) count (x ∷ xs) (suc b) block h live =
    let r : StillLives xs first count b block = still_lives first count xs b block h live in
    record { at = r.at; other = ⊎_elim (λ l. inl (omega (arith, l))) (λ l. inr (omega (arith, l))) r.other }

pub length_ended : (first count : ℕ) (blocks : Blocks) → length (ended first count blocks) ≡ length blocks
length_ended zero zero blocks = refl
length_ended zero (suc count) [] = refl
length_ended zero (suc count) (x ∷ xs) = ap suc (length_ended zero count xs)
length_ended (suc first) count [] = refl
length_ended (suc first) count (x ∷ xs) = ap suc (length_ended first count xs)

-- the blocks of a compartment once a call of it has ended
abbrev pub memory_closed : (c first count : ℕ) → Memory → Memory
memory_closed c first count memory = with_blocks c (ended first count (memory c)) memory

module _ (c first count : ℕ) (memory : Memory) where
  closed_here : (k : ℕ) → k ≡ c → memory_closed c first count memory k ≡ ended first count (memory c)
  closed_here k e = rw (eq-eqb k c e) refl

  closed_there : (k : ℕ) → k ≢ c → memory_closed c first count memory k ≡ memory k
  closed_there k n = rw (ne_eqb k c n) refl

  -- a block that lives afterwards was there, and is none of those that have ended
  pub record StaysOn (k b : ℕ) (block : Block) : Type 0 where
    pub at : slice_get (memory k) b ≡ Some block
    pub other : k ≡ c → (b < first) ⊎ (first + count ≤ b)

  pub stays_on : (k b : ℕ) (block : Block) → slice_get (memory_closed c first count memory k) b ≡ Some block →
      block.live ≡ true → StaysOn k b block
  stays_on k b block h live = ⊎_elim
      (λ e. (let r : StillLives (memory c) first count b block =
      still_lives first count (memory c) b block (sym (ap (λ bs. slice_get bs b) (closed_here k e)) ∙ h) live in
      let back : StaysOn k b block =
      record { at = ap (λ k. slice_get (memory k) b) e ∙ r.at; other = λ same. r.other } in back))
      (λ n. (let back : StaysOn k b block = record {
        at = sym (ap (λ bs. slice_get bs b) (closed_there k n)) ∙ h;
        other = λ same. absurd (n same);
      } in back)) (cases_eq k c)

  pub record LivesOn (k b : ℕ) (cells : List Cell) : Type 0 where
    pub live : LiveAt memory k b cells
    pub other : k ≡ c → (b < first) ⊎ (first + count ≤ b)

  pub lives_on : (k b : ℕ) (cells : List Cell) → LiveAt (memory_closed c first count memory) k b cells →
      LivesOn k b cells
  lives_on k b cells h =
      let found : LivingBlock (memory_closed c first count memory k) b cells =
      living_block (memory_closed c first count memory k) b cells h in
      let on : StaysOn k b found.block = stays_on k b found.block found.at found.live in
      record { live = alive (memory k) b found.block on.at found.live ∙ ap Ok found.its; other = on.other }

  pub length_closed : (k : ℕ) → length (memory_closed c first count memory k) ≡ length (memory k)
  length_closed k = ⊎_elim
      (λ e. ap length (closed_here k e) ∙ length_ended first count (memory c) ∙ ap (λ k. length (memory k)) (sym e))
      (λ n. ap length (closed_there k n)) (cases_eq k c)

-- the last change of frames
change_by : (k : ℕ) (last : FrameChange) (a b m n : ℕ) (first : Bool) → a ≡ depth_after k m (last ∷ []) →
    b ≡ depth_after k n (last ∷ []) → (if first then a else b) ≡ depth_after k (if first then m else n) (last ∷ [])
change_by k last a b m n true h g = h
change_by k last a b m n false h g = g

last_change : (k depth : ℕ) (xs : List FrameChange) (last : FrameChange) →
    depth_after k depth (xs ++ last ∷ []) ≡ depth_after k (depth_after k depth xs) (last ∷ [])
last_change k depth [] last = refl
last_change k depth (Opened timed c more ∷ xs) last =
    change_by k last _ _ (depth_after k (depth + more) xs) (depth_after k depth xs) (c == k)
    (last_change k (depth + more) xs last) (last_change k depth xs last)
last_change k depth (Closed timed c less ∷ xs) last =
    change_by k last _ _ (depth_after k (depth - less) xs) (depth_after k depth xs) (c == k)
    (last_change k (depth - less) xs last) (last_change k depth xs last)

module _ (k comp : ℕ) (f : Function) (s : Meant) where
  pub depth_begun : (args : List Value) → k ≡ comp →
      stack_depth k (begun comp f args s) ≡ stack_depth k s + f.frame_size
  depth_begun args e = last_change k 0 s.frames (Opened (length s.trace) comp f.frame_size) ∙
      rw (eq-eqb comp k (sym e)) refl

  pub depth_begun_else : (args : List Value) → k ≢ comp → stack_depth k (begun comp f args s) ≡ stack_depth k s
  depth_begun_else args n =
      last_change k 0 s.frames (Opened (length s.trace) comp f.frame_size) ∙ rw (ne_eqb comp k (λ e. n (sym e))) refl

  pub depth_done : (first : ℕ) → k ≡ comp → stack_depth k (done comp f first s) ≡ stack_depth k s - f.frame_size
  depth_done first e = last_change k 0 s.frames (Closed (length s.trace) comp f.frame_size) ∙
      rw (eq-eqb comp k (sym e)) refl

  pub depth_done_else : (first : ℕ) → k ≢ comp → stack_depth k (done comp f first s) ≡ stack_depth k s
  depth_done_else first n =
      last_change k 0 s.frames (Closed (length s.trace) comp f.frame_size) ∙ rw (ne_eqb comp k (λ e. n (sym e))) refl

-- the changes of frames that were made within the trace, and one more

next_told : (n : ℕ) (changes : List FrameChange) (change : FrameChange) → AllBefore (suc n) (change ∷ []) →
    AllBefore (suc n) changes → AllBefore (suc n) (changes ++ change ∷ [])
next_told n [] change one h = one
next_told n (Opened timed c size ∷ changes) change one h = (h.0, next_told n changes change one h.1)
next_told n (Closed timed c size ∷ changes) change one h = (h.0, next_told n changes change one h.1)

pub timed_opened : (n comp size : ℕ) (changes : List FrameChange) → AllBefore (suc n) changes →
    AllBefore (suc n) (changes ++ Opened n comp size ∷ [])
timed_opened n comp size changes h = next_told n changes (Opened n comp size) (omega arith, tt) h

pub timed_closed : (n comp size : ℕ) (changes : List FrameChange) → AllBefore (suc n) changes →
    AllBefore (suc n) (changes ++ Closed n comp size ∷ [])
timed_closed n comp size changes h = next_told n changes (Closed n comp size) (omega arith, tt) h
