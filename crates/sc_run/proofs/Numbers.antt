-- Numbers for variables are kept.
use Rattle.sc_run.proofs.Common.{Block, Blocks, Bool, Callee, Cause, Err, Frame, List, Memory, None, Ok, Option, Result}
use Rattle.sc_run.proofs.Common.{Seen, Some, Value, Ways, ap, arith, blocks_for, cleared, emitted_call, false}
use Rattle.sc_run.proofs.Common.{if◌then◌else◌, length, length-append, store, subst, suc, sym, true, with_blocks, ℕ}
use Rattle.sc_run.proofs.Common.{◌++◌, ◌+◌, ◌<◌, ◌==◌, ◌∙◌, ◌≡◌, ◌≤◌}
use Rattle.std.specs.Prelude.{MatchResult, OnErr, OnOk}
use Rattle.std.proofs.Common.{◌*◌, ◌^◌}
use Rattle.sc_blocks.specs.Rows.{free_cell, with_words}
use Rattle.sc_core.specs.Prelude.{cell_of, most_nodes}
use Rattle.sc_run_value.specs.Assigning.{AssignedIf}
use Rattle.sc_run.specs.Numbers.{NumbersSuffice}
use Rattle.sc_run.proofs.Lengths.{length_blocks_for, length_cleared, length_free, length_store, length_words}
use Rattle.sc_run.proofs.Making.{at_itself, with_sizes}

-- NUMBERS ARE KEPT

pub numbers_fewer : {memory : Memory} {turns fewer : ℕ} → fewer ≤ turns → NumbersSuffice memory turns →
    NumbersSuffice memory fewer
numbers_fewer le h = record { numbers = λ comp. omega (arith, le, h.numbers comp) }

-- the next block has a number of 63 bits
pub next_number : {memory : Memory} {turns : ℕ} (comp : ℕ) → NumbersSuffice memory (suc turns) →
    length (memory comp) < 2 ^ 63
next_number comp h = omega (arith, h.numbers comp)

pub numbers_for_one : {memory : Memory} {turns : ℕ} → NumbersSuffice memory (suc turns) → NumbersSuffice memory 1
numbers_for_one h = numbers_fewer (omega arith) h

either_way : (b : Bool) (x y : Blocks) (more most : ℕ) → length x + more ≤ most → length y + more ≤ most →
    length (if b then x else y) + more ≤ most
either_way true x y more most h k = h
either_way false x y more most h k = k

numbers_with : (comp : ℕ) (bs : Blocks) {memory : Memory} {turns : ℕ} → length bs + most_nodes * turns ≤ 2 ^ 63 →
    NumbersSuffice memory turns → NumbersSuffice (with_blocks comp bs memory) turns
numbers_with comp bs {memory} {turns} few h =
    record { numbers = λ c. either_way (c == comp) bs (memory c) (most_nodes * turns) (2 ^ 63) few (h.numbers c) }

pub numbers_stored : (comp : ℕ) (q v : Value) {memory after : Memory} {turns : ℕ} →
    store (memory comp) q v ≡ Ok (after comp) → after ≡ with_blocks comp (after comp) memory →
    NumbersSuffice memory turns → NumbersSuffice after turns
numbers_stored comp q v {memory} {after} {turns} is others h =
    subst (λ m. NumbersSuffice m turns) (sym others) (numbers_with comp (after comp)
    (omega (arith, length_store (memory comp) q v is, h.numbers comp)) h)

pub numbers_assigned : (b : Bool) (comp : ℕ) (place value : Ways) {memory after : Memory} {turns : ℕ} →
    AssignedIf b comp place value memory after → NumbersSuffice memory turns → NumbersSuffice after turns
numbers_assigned true comp place value done h =
    numbers_stored comp done.put.at done.given done.put.stored.is done.put.stored.others h
numbers_assigned false comp place value {turns} same h = subst (λ m. NumbersSuffice m turns) (sym same) h

-- the same, whether something was stored or not
pub numbers_result : {A : Type 0} (result : Result A Cause) (comp : ℕ) (q v : Value)
    {memory after : Memory} {turns : ℕ} →
    MatchResult result (λ _. store (memory comp) q v ≡ Ok (after comp)) (λ cause. store (memory comp) q v ≡ Err cause) →
    after ≡ with_blocks comp (after comp) memory → OnErr result (after ≡ memory) →
    NumbersSuffice memory turns → NumbersSuffice after turns
numbers_result (Ok x) comp q v is others same h = numbers_stored comp q v is others h
numbers_result (Err cause) comp q v {turns} is others same h = subst (λ m. NumbersSuffice m turns) (sym same) h

-- variables that end keep their numbers
pub numbers_cleared : (comp first count : ℕ) {memory after : Memory} {turns : ℕ} →
    after ≡ with_blocks comp (cleared first count (memory comp)) memory →
    NumbersSuffice memory turns → NumbersSuffice after turns
numbers_cleared comp first count {memory} {turns} is h =
    subst (λ m. NumbersSuffice m turns) (sym is) (numbers_with comp (cleared first count (memory comp))
    (omega (arith, length_cleared first count (memory comp), h.numbers comp)) h)

-- a block that is allocated takes one number
pub numbers_allocated : (comp words : ℕ) (place : Option ℕ) {memory after : Memory} {turns : ℕ} →
    after ≡ with_blocks comp (with_words words place (memory comp)) memory →
    length (memory comp) + most_nodes * turns < 2 ^ 63 → NumbersSuffice memory turns → NumbersSuffice after turns
numbers_allocated comp words place {memory} {turns} is few h =
    subst (λ m. NumbersSuffice m turns) (sym is) (numbers_with comp (with_words words place (memory comp))
    (omega (arith, length_words words place (memory comp), few)) h)

-- the same, whether one was or not
pub numbers_asked : {A E : Type 0} (result : Result A E) (comp words : ℕ) (place : Option ℕ)
    {memory after : Memory} {turns : ℕ} →
    OnOk result (after ≡ with_blocks comp (with_words words place (memory comp)) memory) →
    OnErr result (after ≡ memory) → length (memory comp) + most_nodes * turns < 2 ^ 63 →
    NumbersSuffice memory turns → NumbersSuffice after turns
numbers_asked (Ok x) comp words place is same few h = numbers_allocated comp words place is few h
numbers_asked (Err e) comp words place {turns} is same few h = subst (λ m. NumbersSuffice m turns) (sym same) h

numbers_freed : (comp : ℕ) (v : Value) {memory after : Memory} {turns : ℕ} →
    free_cell (memory comp) (cell_of v) ≡ Ok (after comp) → after ≡ with_blocks comp (after comp) memory →
    NumbersSuffice memory turns → NumbersSuffice after turns
numbers_freed comp v {memory} {after} {turns} is others h =
    subst (λ m. NumbersSuffice m turns) (sym others) (numbers_with comp (after comp)
    (omega (arith, length_free (memory comp) v is, h.numbers comp)) h)

-- the same, whether something was freed or not
pub numbers_released : {A : Type 0} (result : Result A Cause) (comp : ℕ) (v : Value)
    {memory after : Memory} {turns : ℕ} →
    MatchResult result (λ _. free_cell (memory comp) (cell_of v) ≡ Ok (after comp))
    (λ cause. free_cell (memory comp) (cell_of v) ≡ Err cause) →
    after ≡ with_blocks comp (after comp) memory → OnErr result (after ≡ memory) →
    NumbersSuffice memory turns → NumbersSuffice after turns
numbers_released (Ok x) comp v is others same h = numbers_freed comp v is others h
numbers_released (Err cause) comp v {turns} is others same h = subst (λ m. NumbersSuffice m turns) (sym same) h

module _ (comp : ℕ) (sizes : List ℕ) (args : List Value) {memory now : Memory}
    (is : now ≡ with_sizes comp sizes args memory) where
  -- the variables of a call take a turn's numbers
  pub numbers_begun : (turns : ℕ) → length sizes < most_nodes → NumbersSuffice memory (suc turns) →
      NumbersSuffice now turns
  numbers_begun turns few h =
      subst (λ m. NumbersSuffice m turns) (sym is) (numbers_with comp (memory comp ++ blocks_for sizes args)
      (omega (
        arith,
        few,
        h.numbers comp,
        length-append (memory comp) (blocks_for sizes args),
        length_blocks_for sizes args,
      )) (numbers_fewer (omega arith) h))

  -- while they begin, one more may
  pub numbers_beginning : length sizes < most_nodes → NumbersSuffice memory 1 → length (now comp) < 2 ^ 63
  numbers_beginning few h =
      let there : now comp ≡ memory comp ++ blocks_for sizes args = (λ i. is i comp) ∙ at_itself comp memory in
      omega (
        arith,
        few,
        h.numbers comp,
        ap (length {A = Block}) there,
        length-append (memory comp) (blocks_for sizes args),
        length_blocks_for sizes args,
      )

-- an event takes no numbers
pub numbers_emitted : (caller : Frame) (callee : Callee) (args : List Value) (crossing : Option ℕ)
    (before : Seen) {after : Seen} →
    after ≡ emitted_call caller callee args crossing before → NumbersSuffice before.memory (suc before.turns) →
    NumbersSuffice after.memory (suc after.turns)
numbers_emitted caller callee args None before is h = subst (λ seen. NumbersSuffice seen.memory (suc seen.turns))
    (sym is) h
numbers_emitted caller callee args (Some index) before is h =
    subst (λ seen. NumbersSuffice seen.memory (suc seen.turns)) (sym is) h
