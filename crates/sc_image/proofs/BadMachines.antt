-- An instance: six machines that don't isolate, for they do one thing more than the machine or one in place of its own,
-- on an image of two compartments.
use Rattle.std.proofs.Common.{Bool, List, None, Option, Some, [], ap, arith, codes, false, if◌then◌else◌, is_some}
use Rattle.std.proofs.Common.{length, nat_eq, pos, refl, replicate, slice_get, slice_index, slice_index_or, slice_set}
use Rattle.std.proofs.Common.{subst, suc, sym, true, zero, ℕ, ◌-◌, ◌/◌, ◌<◌, ◌^◌, ◌∙◌, ◌∷◌, ◌≡◌, ◌≢◌}
use Rattle.std.proofs.lemmas.Bool.{false≢true}
use Rattle.std.proofs.lemmas.List.Elements.{All-from_recursion}
use Rattle.std.proofs.lemmas.Option.{none-some, same_Some}
use Rattle.std.specs.Option.{option_map_or}
unfoldable use Rattle.sc_base.specs.Prelude.{is_name}
use Rattle.sc_store.specs.Prelude.{ByteMemory}
unfoldable use Rattle.rv_code.specs.Prelude.{decoded, jalr_in, op_imm_in, op_imm_op_of, system_in}
use Rattle.rv_code.specs.declared.instr.Instr.TheVariants.{Ecall, Jalr, OpImm}
use Rattle.rv_code.specs.declared.instr.OpImmOp.TheVariants.{Addi}
use Rattle.sc_image.specs.Common.{Call, Event, Out}
use Rattle.sc_image.specs.declared.parts.CompPart.{CompPart}
use Rattle.sc_image.specs.declared.parts.ImageParts.{ImageParts}
use Rattle.sc_image.specs.Calls.{exported_by}
use Rattle.sc_image.specs.Cross.{on_alloc, on_call, on_free, with_zone, zone_address}
use Rattle.sc_image.specs.Isolation.{Adds, AgreeFor, EntersByEventBy, FollowsFromOwnBy, IsIsolating, IsSilentForBy}
use Rattle.sc_image.specs.Isolation.{LeavesDataBy, LeavesOthersBy, emits_entry}
use Rattle.sc_image.specs.Isolation.{LooksSame, Point, RunsAt, Stepping, after_by, after_outcome, later_by}
use Rattle.sc_image.specs.Isolation.{observation_of, own_at}
use Rattle.sc_image.specs.Layout.{zone_start}
unfoldable use Rattle.sc_image.specs.Layout.{are_data, word_at}
use Rattle.sc_image.specs.Own.{Own, data_of, own}
use Rattle.sc_image.specs.State.{MachineState, a0, a1, a7, reg, with_pc, with_reg, written, zone_of}
use Rattle.sc_image.specs.Steady.{IsSteadyState, KeepsWords, inputs_in, open_calls}
use Rattle.sc_image.specs.Step.{Goes, Outcome, Traps, execute, next, step}
unfoldable use Rattle.sc_image.specs.Step.{execute_by}
use Rattle.sc_image.specs.WellFormed.{IsComp, IsExport, IsImport, IsWellFormed}
use Rattle.sc_base.specs.Word.{IsWord}
use Rattle.sc_image.proofs.Running.{step_executes}
use Rattle.sc_image.proofs.Words.{written_words}
use Rattle.sc_zone.specs.Prelude.{taken, without_span}
unfoldable use Rattle.sc_zone.specs.Prelude.{first_free, least_free}
use Rattle.sc_zone.specs.declared.span.Span.{Span}

-- The image: `M` does nothing, then calls `f` of `N`, and then calls the environment. Both have a heap.

abbrev main_part : CompPart
main_part = record {
  name = codes "M";
  input = false;
  output = false;
  heap = true;
  exports = [];
  imports = record { comp = 1; index = 0 } ∷ [];
  code = 19 ∷ 164071 ∷ 115 ∷ [];
  globals = [];
}

abbrev other_part : CompPart
other_part = record {
  name = codes "N";
  input = false;
  output = false;
  heap = true;
  exports = record { name = codes "f"; params = 0; result = false; entry = 17825792 } ∷ [];
  imports = [];
  code = 19 ∷ [];
  globals = [];
}

abbrev pub two : ImageParts
two = record { main = 0; entry = 16777216; comps = main_part ∷ other_part ∷ [] }

main_is : IsComp two 0 main_part
unfolding is_name
main_is = record {
  name = refl;
  no_environment = λ same. (let l = ap length same in omega (arith, l));
  few_exports = omega arith;
  exports = All-from_recursion (IsExport two 0) [] tt;
  export_names = λ i j d before within. absurd (omega (arith, within));
  export_entries = λ i j d before within. absurd (omega (arith, within));
  few_imports = omega arith;
  imports = All-from_recursion (IsImport two 0) main_part.imports
      (record { other = λ same. omega (arith, same); offered = omega arith }, tt);
  distinct_imports = λ i j d before within. absurd (omega (arith, before, within));
  short_code = omega arith;
  words = All-from_recursion IsWord main_part.code (omega arith, (omega arith, (omega arith, tt)));
  short_globals = omega arith;
  bytes = All-from_recursion (λ byte. byte < 2 ^ 8) [] tt;
}

entry_there : is_some (word_at two 1 17825792) ≡ true
unfolding word_at
entry_there = refl

other_is : IsComp two 1 other_part
unfolding is_name
other_is = record {
  name = refl;
  no_environment = λ same. (let l = ap length same in omega (arith, l));
  few_exports = omega arith;
  exports = All-from_recursion (IsExport two 1) other_part.exports
      (record { name = refl; params = omega arith; entry = entry_there }, tt);
  export_names = λ i j d before within. absurd (omega (arith, before, within));
  export_entries = λ i j d before within. absurd (omega (arith, before, within));
  few_imports = omega arith;
  imports = All-from_recursion (IsImport two 1) [] tt;
  distinct_imports = λ i j d before within. absurd (omega (arith, within));
  short_code = omega arith;
  words = All-from_recursion IsWord other_part.code (omega arith, tt);
  short_globals = omega arith;
  bytes = All-from_recursion (λ byte. byte < 2 ^ 8) [] tt;
}

main_there : is_some (word_at two 0 16777216) ≡ true
unfolding word_at
main_there = refl

comps_are : (c : ℕ) (comp : CompPart) → slice_get two.comps c ≡ Some comp → IsComp two c comp
comps_are zero comp got = subst (IsComp two 0) (same_Some main_part comp got) main_is
comps_are (suc zero) comp got = subst (IsComp two 1) (same_Some other_part comp got) other_is
comps_are (suc (suc c)) comp got = absurd (none-some comp got)

names_differ : (i j : ℕ) (d : List ℕ) → i < j → j < 2 →
    slice_index_or (codes "M" ∷ codes "N" ∷ []) i d ≢ slice_index_or (codes "M" ∷ codes "N" ∷ []) j d
names_differ zero zero d before within = λ same. omega (arith, before)
names_differ zero (suc zero) d before within =
    λ same. (let first = ap (λ name. slice_index name 0) same in omega (arith, first))
names_differ zero (suc (suc j)) d before within = λ same. omega (arith, within)
names_differ (suc i) zero d before within = λ same. omega (arith, before)
names_differ (suc i) (suc zero) d before within = λ same. omega (arith, before)
names_differ (suc i) (suc (suc j)) d before within = λ same. omega (arith, within)

pub formed : IsWellFormed two
formed = record {
  few_comps = omega arith;
  main = omega arith;
  entry = main_there;
  comps = comps_are;
  names = names_differ;
}

-- The machine does nothing at the first instruction of `M`, and calls `f` at the second.

abbrev regs : (target other : ℕ) → List ℕ
regs target other = 0 ∷ 0 ∷ 0 ∷ 0 ∷ 0 ∷ target ∷ other ∷ replicate 25 0

abbrev standing_with : (words : List ℕ) → (pc : ℕ) → (mine others : List Span) → ByteMemory → List Event → MachineState
standing_with words pc mine others memory trace = record {
  regs = words;
  pc = pc;
  active = 0;
  saved = 0 ∷ 0 ∷ [];
  zones = mine ∷ others ∷ [];
  memory = memory;
  cross = [];
  input = 0;
  trace = trace;
}

abbrev standing : (pc target other : ℕ) → (memory : ByteMemory) → List Event → MachineState
standing pc target other memory trace = standing_with (regs target other) pc [] [] memory trace

abbrev pub empty : ByteMemory
empty = λ address. None

abbrev resting : List Event → MachineState
resting trace = standing 16777216 0 0 empty trace

abbrev pub calling : (other : ℕ) → ByteMemory → MachineState
calling other memory = standing 16777220 17825792 other memory []

rests_at : word_at two 0 16777216 ≡ Some 19
unfolding word_at
rests_at = refl

rests_by : decoded 19 ≡ Some (OpImm Addi 0 0 (pos 0))
unfolding decoded op_imm_in op_imm_op_of
rests_by = refl

rests_so : (trace : List Event) → execute two [] (resting trace) (OpImm Addi 0 0 (pos 0)) ≡
    Goes (standing 16777220 0 0 empty trace)
unfolding execute_by
rests_so trace = refl

rests : (trace : List Event) → step two [] (resting trace) ≡ Goes (standing 16777220 0 0 empty trace)
rests trace =
    step_executes two [] (resting trace) 19 (OpImm Addi 0 0 (pos 0)) rests_at rests_by ∙ rests_so trace

calls_at : word_at two 0 16777220 ≡ Some 164071
unfolding word_at
calls_at = refl

calls_by : decoded 164071 ≡ Some (Jalr 1 5 (pos 0))
unfolding decoded jalr_in
calls_by = refl

calls_so : (other : ℕ) (memory : ByteMemory) → execute two [] (calling other memory) (Jalr 1 5 (pos 0)) ≡
    Goes (on_call (calling other memory) 1 0 0 17825792)
unfolding execute_by word_at
calls_so other memory = refl

pub calls : (other : ℕ) (memory : ByteMemory) →
    step two [] (calling other memory) ≡ Goes (on_call (calling other memory) 1 0 0 17825792)
calls other memory =
    step_executes two [] (calling other memory) 164071 (Jalr 1 5 (pos 0)) calls_at calls_by ∙ calls_so other memory

-- These states are steady.

zeros : (n r : ℕ) → IsWord (slice_index (replicate n 0) r)
zeros zero r = omega arith
zeros (suc n) zero = omega arith
zeros (suc n) (suc r) = zeros n r

regs_words : (target other : ℕ) → IsWord target → IsWord other → (r : ℕ) → IsWord (slice_index (regs target other) r)
regs_words target other low small zero = omega arith
regs_words target other low small (suc zero) = omega arith
regs_words target other low small (suc (suc zero)) = omega arith
regs_words target other low small (suc (suc (suc zero))) = omega arith
regs_words target other low small (suc (suc (suc (suc zero)))) = omega arith
regs_words target other low small (suc (suc (suc (suc (suc zero))))) = low
regs_words target other low small (suc (suc (suc (suc (suc (suc zero)))))) = small
regs_words target other low small (suc (suc (suc (suc (suc (suc (suc r))))))) = zeros 25 r

saved_words : (c : ℕ) → IsWord (slice_index (0 ∷ 0 ∷ []) c)
saved_words zero = omega arith
saved_words (suc zero) = omega arith
saved_words (suc (suc c)) = omega arith

-- registers and a trace in which no call is open and no input was read
steady_with : (words : List ℕ) (pc : ℕ) (mine others : List Span) (trace : List Event) → length words ≡ 32 →
    ((r : ℕ) → IsWord (slice_index words r)) → slice_index words 0 ≡ 0 → IsWord pc →
    [] ≡ open_calls trace → 0 ≡ inputs_in trace →
    IsSteadyState two (standing_with words pc mine others empty trace)
steady_with words pc mine others trace count are none here calls inputs = record {
  regs = count;
  words = are;
  zero = none;
  pc = here;
  active = omega arith;
  saved = refl;
  saved_words = saved_words;
  zones = refl;
  bytes = λ a b is. absurd (none-some b is);
  chain = tt;
  kept = All-from_recursion KeepsWords [] tt;
  calls = calls;
  input = inputs;
}

pub steady : (pc target other : ℕ) (trace : List Event) → IsWord pc → IsWord target → IsWord other →
    [] ≡ open_calls trace → 0 ≡ inputs_in trace → IsSteadyState two (standing pc target other empty trace)
steady pc target other trace here low small calls inputs =
    steady_with _ pc [] [] trace refl (regs_words target other low small) refl here calls inputs

-- A machine that goes on from the state after each step.

abbrev pub gone_on : (MachineState → MachineState) → Outcome → Outcome
gone_on more (Goes next) = Goes (more next)
gone_on more (Traps reason) = Traps reason

abbrev pub spoilt : (more : ImageParts → (before after : MachineState) → MachineState) → Stepping
spoilt more image inputs state = gone_on (more image state) (step image inputs state)

-- What x5 of the active compartment is.
abbrev fifth : Own → ℕ
fifth parts = option_map_or (λ running. slice_index running.regs 5) parts.running 0

abbrev sixth : Own → ℕ
sixth parts = option_map_or (λ running. slice_index running.regs 6) parts.running 0

-- It tells the active compartment how many events there were.

abbrev counting : Stepping
counting = spoilt (λ image before after. with_reg after 5 (length before.trace))

abbrev one_event : List Event
one_event = Out 1 0 ∷ []

abbrev resting_point : List Event → Point
resting_point trace = record { image = two; inputs = []; state = resting trace }

runs : (trace : List Event) → [] ≡ open_calls trace → 0 ≡ inputs_in trace → RunsAt 0 (resting_point trace)
runs trace calls inputs = record {
  formed = formed;
  inputs = All-from_recursion IsWord [] tt;
  steady = steady 16777216 0 0 trace (omega arith) (omega arith) (omega arith) calls inputs;
  active = refl;
}

agrees : AgreeFor 0 two two
agrees = record {
  code = λ address. refl;
  owned = λ address size. refl;
  reads = refl;
  writes = refl;
  imports = λ to index. refl;
  results = λ entry. refl;
  entries = λ to address. refl;
  params = λ to index may. refl;
}

looks_same : LooksSame 0 (resting_point []) (resting_point one_event)
looks_same = record {
  one_runs = runs [] refl refl;
  other_runs = runs one_event refl refl;
  images = agrees;
  own_parts = refl;
  call = refl;
  input = refl;
}

-- after its step, x5 is the count
counted : (trace : List Event) → counting two [] (resting trace) ≡
    Goes (with_reg (standing 16777220 0 0 empty trace) 5 (length trace))
counted trace = ap (gone_on (λ after. with_reg after 5 (length trace))) (rests trace)

pub counts_events : FollowsFromOwnBy counting → ⊥
counts_events follows =
    let one = counted [] in
    let silent : IsSilentForBy counting 1 (resting_point []) =
    (ap (observation_of (resting [])) one, tt) in
    let goes = (follows 0 (resting_point []) (resting_point one_event) 1 looks_same).1 silent in
    let first : fifth (own_at (later_by counting 1 (resting_point [])) 0) ≡ 0 =
    ap (λ outcome. fifth (own two (after_outcome (resting []) outcome) 0)) one in
    let second : fifth (own_at (later_by counting 1 (resting_point one_event)) 0) ≡ 1 =
    ap (λ outcome. fifth (own two (after_outcome (resting one_event) outcome) 0)) (counted one_event) in
    let same = sym first ∙ ap fifth goes.own_parts ∙ second in
    omega (arith, same)

-- Its calls and returns zero the data of the compartment that they make active.

abbrev zeroing : Stepping
zeroing = spoilt (λ image before after. if nat_eq after.active before.active then after else record after {
  memory = λ address. if are_data image after.active address 1 then Some 0 else after.memory address;
})

abbrev ones : ByteMemory
ones = λ address. Some 1

owned : are_data two 1 269484032 1 ≡ true
unfolding are_data
owned = refl

other_byte : (mine : Bool) → mine ≡ true → ◌≡◌ {A = Option ℕ} (if mine then (if mine then Some 0 else Some 1) else None)
    (if mine then Some 1 else None) → ⊥
other_byte true is same = let numbers = same_Some 0 1 same in omega (arith, numbers)
other_byte false is same = false≢true is

pub zeroes_data : LeavesDataBy zeroing → ⊥
zeroes_data leaves =
    let state : MachineState = calling 0 ones in
    let after : zeroing two [] state ≡ Goes (record (on_call state 1 0 0 17825792) {
      memory = λ address. if are_data two 1 address 1 then Some 0 else Some 1;
    }) = ap (gone_on (λ next. if nat_eq next.active 0 then next else record next {
      memory = λ address. if are_data two next.active address 1 then Some 0 else next.memory address;
    })) (calls 0 ones) in
    let kept = leaves two [] state 1 formed (λ same. omega (arith, same)) in
    let at = ap (λ (memory : ByteMemory). memory 269484032)
    (sym (ap (λ outcome. data_of two 1 (after_outcome state outcome).memory) after) ∙ kept) in
    other_byte (are_data two 1 269484032 1) owned at

-- A register passes to the callee that holds no argument.

abbrev passing : Stepping
passing = spoilt (λ image before after. if nat_eq after.active before.active then after else
    with_reg after 6 (reg before 6))

passes : (other : ℕ) → passing two [] (calling other empty) ≡
    Goes (with_reg (on_call (calling other empty) 1 0 0 17825792) 6 other)
passes other =
    ap (gone_on (λ next. if nat_eq next.active 0 then next else with_reg next 6 other)) (calls other empty)

pub passes_register : EntersByEventBy passing → ⊥
passes_register enters =
    let event : Event = Call 0 1 0 [] in
    let entered = (enters 1).0 in
    let own_after : (other : ℕ) → IsWord other → own two (after_by passing two [] (calling other empty)) 1 ≡
    entered (exported_by two 1) (own two (calling 0 empty) 1) event =
    λ other small. (enters 1).1 two [] (calling other empty) event formed
    (steady 16777220 17825792 other [] (omega arith) (omega arith) small refl refl)
    (λ same. omega (arith, same)) (ap (observation_of (calling other empty)) (passes other)) refl in
    let sixth_is : (other : ℕ) → sixth (own two (after_by passing two [] (calling other empty)) 1) ≡ other =
    λ other. ap (λ outcome. sixth (own two (after_outcome (calling other empty) outcome) 1)) (passes other) in
    let same =
    sym (sixth_is 0) ∙ ap sixth (own_after 0 (omega arith) ∙ sym (own_after 1 (omega arith))) ∙ sixth_is 1 in
    omega (arith, same)

-- The third instruction of `M` calls the environment: what is called, and the first of its two arguments.

abbrev asking_regs : (first call : ℕ) → List ℕ
asking_regs first call = written (written (written (replicate 32 0) a0 first) a1 1) a7 call

abbrev asking : (first call : ℕ) → (mine others : List Span) → MachineState
asking first call mine others = standing_with (asking_regs first call) 16777224 mine others empty []

asks_at : word_at two 0 16777224 ≡ Some 115
unfolding word_at
asks_at = refl

asks_by : decoded 115 ≡ Some Ecall
unfolding decoded system_in
asks_by = refl

asking_steady : (first call : ℕ) (mine others : List Span) → IsWord first → IsWord call →
    IsSteadyState two (asking first call mine others)
asking_steady first call mine others one other = steady_with (asking_regs first call) 16777224 mine others [] refl
    (written_words (written (written (replicate 32 0) a0 first) a1 1) a7 call
    (written_words (written (replicate 32 0) a0 first) a1 1
    (written_words (replicate 32 0) a0 first (zeros 32) one) (omega arith)) other) refl (omega arith) refl refl

-- An allocation of one word.

abbrev allocating : (mine others : List Span) → MachineState
allocating mine others = asking 1 3 mine others

allocates_so : (mine others : List Span) → execute two [] (allocating mine others) Ecall ≡
    next (on_alloc (allocating mine others) 1)
unfolding execute_by
allocates_so mine others = refl

allocates : (mine others : List Span) →
    step two [] (allocating mine others) ≡ next (on_alloc (allocating mine others) 1)
allocates mine others =
    step_executes two [] (allocating mine others) 115 Ecall asks_at asks_by ∙ allocates_so mine others

abbrev first_block : Span
first_block = record { place = 0; words = 1 }

in_empty : least_free [] 1 ≡ Some 0
unfolding least_free first_free
in_empty = refl

behind_first : least_free (first_block ∷ []) 1 ≡ Some 1
unfolding least_free first_free
behind_first = refl

-- A free of the first word of the zone.

abbrev freeing : (mine others : List Span) → MachineState
freeing mine others = asking (zone_start 0) 4 mine others

frees_so : (others : List Span) → execute two [] (freeing (first_block ∷ []) others) Ecall ≡
    next (on_free (freeing (first_block ∷ []) others) (zone_start 0))
unfolding execute_by
frees_so others = refl

frees_first : (others : List Span) → step two [] (freeing (first_block ∷ []) others) ≡
    next (on_free (freeing (first_block ∷ []) others) (zone_start 0))
frees_first others =
    step_executes two [] (freeing (first_block ∷ []) others) 115 Ecall asks_at asks_by ∙ frees_so others

-- A silent step changes the other's zone.

changes_other : (stepping : Stepping) (first call : ℕ) (mine others : List Span) (after : MachineState) →
    IsWord first → IsWord call → stepping two [] (asking first call mine others) ≡ Goes after → [] ≡ after.trace →
    zone_of after 1 ≢ others → LeavesOthersBy stepping → ⊥
changes_other stepping first call mine others after one other goes silent differ leaves =
    let state = asking first call mine others in
    let none : emits_entry 1 (observation_of state (stepping two [] state)) ≡ false =
    ap (λ outcome. emits_entry 1 (observation_of state outcome)) goes ∙
    ap (λ trace. emits_entry 1 (Adds trace)) (sym silent) in
    let kept = leaves two [] state 1 formed (asking_steady first call mine others one other)
    (λ same. omega (arith, same)) none in
    differ (sym (ap (λ outcome. zone_of (after_outcome state outcome) 1) goes) ∙ ap (λ parts. parts.zone) kept)

-- What the active compartment allocates, the other has, too.

abbrev sharing : Stepping
sharing = spoilt (λ image before after. record after {
  zones = slice_set after.zones 1 (zone_of after before.active);
})

shared : sharing two [] (allocating [] []) ≡ Goes (record (with_pc (on_alloc (allocating [] []) 1) 16777228) {
  zones = taken 1 (least_free [] 1) [] ∷ taken 1 (least_free [] 1) [] ∷ [];
})
shared = ap (gone_on (λ after. record after { zones = slice_set after.zones 1 (zone_of after 0) })) (allocates [] [])

pub shares_blocks : LeavesOthersBy sharing → ⊥
shares_blocks = changes_other sharing 1 3 [] [] _ (omega arith) (omega arith) shared refl
    (λ same. (let count = ap length (ap (λ found. taken 1 found []) (sym in_empty) ∙ same) in omega (arith, count)))

-- It allocates where the other compartment has room.

abbrev looking : Stepping
looking image inputs state = step image inputs (with_zone state (zone_of state 1))

abbrev tenth : Own → ℕ
tenth parts = option_map_or (λ running. slice_index running.regs a0) parts.running 0

abbrev allocating_point : (others : List Span) → Point
allocating_point others = record { image = two; inputs = []; state = allocating [] others }

allocating_runs : (others : List Span) → RunsAt 0 (allocating_point others)
allocating_runs others = record {
  formed = formed;
  inputs = All-from_recursion IsWord [] tt;
  steady = asking_steady 1 3 [] others (omega arith) (omega arith);
  active = refl;
}

looks_alike : LooksSame 0 (allocating_point []) (allocating_point (first_block ∷ []))
looks_alike = record {
  one_runs = allocating_runs [];
  other_runs = allocating_runs (first_block ∷ []);
  images = agrees;
  own_parts = refl;
  call = refl;
  input = refl;
}

pub looks_at_other : FollowsFromOwnBy looking → ⊥
looks_at_other follows =
    let goes = (follows 0 (allocating_point []) (allocating_point (first_block ∷ [])) 0 looks_alike).1 tt in
    let place : (others : List Span) (found : Option ℕ) → least_free others 1 ≡ found →
    tenth (own_at (later_by looking 1 (allocating_point others)) 0) ≡ zone_address 0 found =
    λ others found is. ap (λ outcome. tenth (own two (after_outcome (allocating [] others) outcome) 0))
    (allocates others others) ∙ ap (zone_address 0) is in
    let same = sym (place [] (Some 0) in_empty) ∙ ap tenth goes.later_parts ∙
    place (first_block ∷ []) (Some 1) behind_first in
    omega (arith, same)

-- What the active compartment frees is taken from the other's zone.

abbrev taking : Stepping
taking = spoilt (λ image before after. record after {
  zones = slice_set before.zones 1 (without_span ((reg before a0 - zone_start 0) / 4) (zone_of before 1));
})

took : taking two [] (freeing (first_block ∷ []) (first_block ∷ [])) ≡
    Goes (record (with_pc (freeing (first_block ∷ []) (first_block ∷ [])) 16777228) {
      zones = (first_block ∷ []) ∷ [] ∷ [];
    })
took = ap (gone_on (λ after. record after { zones = (first_block ∷ []) ∷ [] ∷ [] })) (frees_first (first_block ∷ []))

pub takes_block : LeavesOthersBy taking → ⊥
takes_block = changes_other taking (zone_start 0) 4 (first_block ∷ []) (first_block ∷ []) _ (omega arith) (omega arith)
    took refl (λ same. (let count = ap length same in omega (arith, count)))

-- None of them isolates.

pub record NoneIsolates : Type 0 where
  pub counts : IsIsolating counting → ⊥
  pub zeroes : IsIsolating zeroing → ⊥
  pub passes : IsIsolating passing → ⊥
  pub shares : IsIsolating sharing → ⊥
  pub looks : IsIsolating looking → ⊥
  pub takes : IsIsolating taking → ⊥

pub none_isolates : NoneIsolates
none_isolates = record {
  counts = λ isolates. counts_events isolates.follows;
  zeroes = λ isolates. zeroes_data isolates.bytes;
  passes = λ isolates. passes_register isolates.enters;
  shares = λ isolates. shares_blocks isolates.others;
  looks = λ isolates. looks_at_other isolates.follows;
  takes = λ isolates. takes_block isolates.others;
}
