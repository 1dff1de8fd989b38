-- Where both sides stand at the start of a run: the machine, and the meaning of the program whose code it has.
use Rattle.sc_emit_run_laws.proofs.Common.{Begins, BlocksMatch, Bool, Cell, ImageParts, InCell, Injection, IsBase}
use Rattle.sc_emit_run_laws.proofs.Common.{IsBuilt, IsProgram, Joint, LiesAt, List, Main, Memory, None, Option, Placed}
use Rattle.sc_emit_run_laws.proofs.Common.{Registers, Setting, Settled, Some, Standpoint, TacFnTree, TacSection}
use Rattle.sc_emit_run_laws.proofs.Common.{TacTree, ℕ, [], and_parts, ap, are_headed, arith, code_function}
use Rattle.sc_emit_run_laws.proofs.Common.{code_globals, cond, count, eqb-true, false, first_blocks, first_state}
use Rattle.sc_emit_run_laws.proofs.Common.{function_entered, functions_in, functions_or_none, gate, has_head}
use Rattle.sc_emit_run_laws.proofs.Common.{if◌then◌else◌, length, lt-ltb, ltb-true, main_entered, map, nat_lt, not}
use Rattle.sc_emit_run_laws.proofs.Common.{option_map, or_parts, position, position-cons, refl, runs_are_steady}
use Rattle.sc_emit_run_laws.proofs.Common.{same_Some, same_entry, setting, slice_get, slice_index, slice_index_or}
use Rattle.sc_emit_run_laws.proofs.Common.{stack_top, stack_tops, start_memory, subst, suc, sym, true, truth, word}
use Rattle.sc_emit_run_laws.proofs.Common.{wrapping, zero, zero-add, ◌*◌, ◌+◌, ◌<◌, ◌==◌, ◌||◌, ◌∙◌, ◌∷◌, ◌≡◌, ◌≤◌, ◌⊎◌}
use Rattle.std.proofs.Common.{subst₂}
use Rattle.sc_core.specs.declared.value.Cell.TheVariants as cell
use Rattle.sc_core.specs.Prelude.{Block, global_block, spans_of, struct_zeros}
use Rattle.sc_core.specs.declared.section.TypedGlobal.{TypedGlobal}
use Rattle.sc_image.specs.declared.parts.CompPart.{CompPart}
use Rattle.sc_zone.specs.Prelude.{AreLaid}
use Rattle.sc_zone.specs.declared.span.Span.{Span}
use Rattle.sc_emit_run_laws.proofs.Sections.{all_at, position_at}
use Rattle.sc_emit_relation.proofs.Access.{alive, live_within}

-- THE FUNCTION OF `main`

-- the first of a list that passes a test
pub record IsFirst {X : Type 0} (test : X → Bool) (xs : List X) : Type 0 where
  pub number : ℕ
  pub it : X
  pub place : position test xs ≡ Some number
  pub its : slice_get xs number ≡ Some it

pub first_of : {X : Type 0} (test : X → Bool) (xs : List X) → 0 < count test xs → IsFirst test xs
first_of test [] h = absurd (omega (arith, h))
first_of {X} test (x ∷ xs) h = by (first_of test xs) (test x) refl where
  by : (0 < count test xs → IsFirst test xs) → (b : Bool) → test x ≡ b → IsFirst test (x ∷ xs)
  by later true is = record {
    number = 0;
    it = x;
    place = position-cons test x xs ∙ ap (λ b. cond b (Some 0) (option_map suc (position test xs))) is;
    its = refl;
  }
  by later false is =
      let more : 0 < 0 + count test xs = subst (λ b. 0 < truth b + count test xs) is h in
      let rest : IsFirst test xs = later (omega (arith, more)) in
      record {
        number = suc rest.number;
        it = rest.it;
        place = position-cons test x xs ∙ ap (λ b. cond b (Some 0) (option_map suc (position test xs))) is ∙
            ap (option_map suc) rest.place;
        its = rest.its;
      }

-- it is there, and takes nothing
pub record IsMain (functions : List TacFnTree) (entered : Option ℕ) : Type 0 where
  pub number : ℕ
  pub f : TacFnTree
  pub enters : entered ≡ Some number
  pub its : slice_get functions number ≡ Some f
  pub lone : f.params ≡ 0

main_of : (o : Option TacSection) → main_entered o ≡ true → IsMain (functions_or_none o) (function_entered Main o)
main_of None h = cc h
main_of (Some section) h =
    let test : TacFnTree → Bool = λ f. same_entry Main f.entry in
    let parts = and_parts (count test section.functions == 1) (are_headed Main 0 true section.functions) h in
    let one : count test section.functions ≡ 1 = eqb-true (count test section.functions) 1 parts.0 in
    let first : IsFirst test section.functions = first_of test section.functions (omega (arith, one)) in
    let is : test first.it ≡ true =
    position_at test section.functions first.number first.it first.place first.its in
    let heads : (not (test first.it) || has_head 0 true first.it) ≡ true =
    all_at (λ (f : TacFnTree). not (same_entry Main f.entry) || has_head 0 true f) section.functions first.number
    first.it parts.1 first.its in
    let head : has_head 0 true first.it ≡ true =
    subst (λ b. (not b || has_head 0 true first.it) ≡ true) is heads in
    record {
      number = first.number;
      f = first.it;
      enters = first.place;
      its = first.its;
      lone = eqb-true first.it.params 0 (and_parts (first.it.params == 0) _ head).0;
    }

pub main_there : (program : TacTree) → IsProgram program → IsMain (functions_in program program.interfaces.main)
    (function_entered Main (slice_get program.sections program.interfaces.main))
main_there program rules = main_of (slice_get program.sections program.interfaces.main) rules.main_there

-- BOTH SIDES

-- the saved stack pointers
tops_at : (first : ℕ) (comps : List CompPart) (k : ℕ) → k < length comps →
    slice_index (stack_tops first comps) k ≡ stack_top (first + k)
tops_at first [] k h = absurd (omega (arith, h))
tops_at first (comp ∷ comps) zero h = (let here : first ≡ first + 0 = omega arith in ap stack_top here)
tops_at first (comp ∷ comps) (suc k) h =
    let there : suc first + k ≡ first + suc k = omega arith in
    tops_at (suc first) comps k (omega (arith, h)) ∙ ap stack_top there

not_false : (b : Bool) → not b ≡ false → b ≡ true
not_false true h = refl
not_false false h = cc h

-- a cell of a global holds no pointer
in_cell : (place : ℕ → Option ℕ) (w : ℕ) (c : Cell) → InCell (λ b. None) w c → InCell place w c
in_cell place w cell.Undef h = tt
in_cell place w (cell.Word n) h = record { word = h.word; means = h.means }
in_cell place w cell.Null h = record { word = h.word; means = h.means }
in_cell place w (cell.Ptr p) h = (let nowhere : ◌≡◌ {A = Option ℕ} None (Some h.means.0) = h.means.1 in cc nowhere)

-- no global is allocated, and all of each zone is free
none_allocated : (zeros : List (List Cell)) (globals : List TypedGlobal) →
    spans_of (map (global_block zeros) globals) ≡ []
none_allocated zeros [] = refl
none_allocated zeros (g ∷ globals) = none_allocated zeros globals

variable_at : (zeros : List (List Cell)) (globals : List TypedGlobal) (b : ℕ) (block : Block) →
    slice_get (map (global_block zeros) globals) b ≡ Some block → block.place ≡ None
variable_at zeros [] b block h = cc h
variable_at zeros (g ∷ globals) zero block h = sym (ap (λ x. x.place) (same_Some (global_block zeros g) block h))
variable_at zeros (g ∷ globals) (suc b) block h = variable_at zeros globals b block h

no_place : (section : Option TacSection) (b : ℕ) (block : Block) → slice_get (first_blocks section) b ≡ Some block →
    block.place ≡ None
no_place None b block h = cc h
no_place (Some section) b block h = variable_at (struct_zeros [] section.structs) section.globals b block h

no_spans : (section : Option TacSection) → spans_of (first_blocks section) ≡ []
no_spans None = refl
no_spans (Some section) = none_allocated (struct_zeros [] section.structs) section.globals

abbrev nothing : List Span
nothing = []

none_taken : (comps : List CompPart) (k : ℕ) → slice_index_or (map (λ comp. nothing) comps) k nothing ≡ nothing
none_taken [] k = refl
none_taken (comp ∷ comps) zero = refl
none_taken (comp ∷ comps) (suc k) = none_taken comps k

-- ra is the gate, and sp the top of a stack
abbrev pub first_regs : (top : ℕ) → Registers
first_regs top r = if r == 1 then gate else (if r == 2 then top else 0)

-- as many first numbers have places
abbrev placed_at : (count : ℕ) → (ℕ → ℕ) → ℕ → Option ℕ
placed_at count place b = if nat_lt b count then Some (place b) else None

placed_below : (count : ℕ) (place : ℕ → ℕ) (b : ℕ) → b < count → placed_at count place b ≡ Some (place b)
placed_below count place b h = rw (lt-ltb b count h) refl

placed_only : (count : ℕ) (place : ℕ → ℕ) (b a : ℕ) → placed_at count place b ≡ Some a → (b < count) × (a ≡ place b)
placed_only count place b a h = by (nat_lt b count) refl h where
  by : (t : Bool) → nat_lt b count ≡ t → (if t then Some (place b) else None) ≡ Some a → (b < count) × (a ≡ place b)
  by true is h = (ltb-true b count is, sym (same_Some (place b) a h))
  by false is h = cc h

module _ {program : TacTree} {image : ImageParts} {turn_pays : ℕ} {performs : ℕ → Bool}
    (built : IsBuilt performs program image turn_pays) (inputs : List ℕ) (turns : ℕ) where
  abbrev pub T : Setting
  T = setting program image inputs performs turn_pays built.addresses

  abbrev pub P : Standpoint
  P = record { comp = image.main; cross = []; bound = stack_top image.main; floor = stack_top }

  abbrev globals : Memory
  globals = code_globals program.sections

  abbrev first_inj : Injection
  first_inj k = placed_at (length (globals k)) (built.addresses k).global

  abbrev pub x : Joint
  x = record {
    inj = first_inj;
    meant = first_state globals inputs turns;
    pc = image.entry;
    regs = first_regs (stack_top image.main);
    bytes = start_memory image;
    saved = stack_tops 0 image.comps;
    zones = map (λ comp. []) image.comps;
    input = 0;
  }

  -- a global has its place
  at_place : (k b a : ℕ) → first_inj k b ≡ Some a → a ≡ (built.addresses k).global b
  at_place k b a e = (placed_only (length (globals k)) (built.addresses k).global b a e).1

  within : (k : ℕ) → T.performs k ≡ false → k < length image.comps
  within k honest =
      ltb-true k (length image.comps)
      (not_false (nat_lt k (length image.comps)) (or_parts (performs k) (not (nat_lt k (length image.comps))) honest).1)

  runs_code : (k : ℕ) → T.performs k ≡ false → performs k ≡ false
  runs_code k honest = (or_parts (performs k) (not (nat_lt k (length image.comps))) honest).0

  blocks : BlocksMatch T.image T.performs P.floor x.inj x.meant.memory x.bytes
  blocks = record {
    there = λ k b cells honest live. (
      (built.addresses k).global b,
      placed_below (length (globals k)) (built.addresses k).global b (live_within (globals k) b cells live),
    );
    placed = λ k b a cells honest live e. subst (λ a. Placed image (stack_top k) k a (length cells))
        (sym (at_place k b a e)) (built.linked.globals k b cells (runs_code k honest) live).placed;
    holds = λ k b a i cells c honest live e at.
        subst (λ a. InCell (first_inj k) (word (start_memory image) (a + 4 * i)) c) (sym (at_place k b a e))
        (in_cell (first_inj k) _ c ((built.linked.globals k b cells (runs_code k honest) live).holds i c at));
    apart = λ k b c a d xs ys honest live more e f differ.
        subst (λ a. (a + 4 * length xs ≤ d) ⊎ (d + 4 * length ys ≤ a)) (sym (at_place k b a e))
        (subst (λ d. ((built.addresses k).global b + 4 * length xs ≤ d) ⊎
        (d + 4 * length ys ≤ (built.addresses k).global b))
        (sym (at_place k c d f)) (built.linked.globals_apart k b c xs ys (runs_code k honest) differ live more));
    lies = λ k b a block honest at live e. subst₂ (λ a place. LiesAt k a (length block.cells) place)
        (sym (at_place k b a e)) (sym (no_place (slice_get program.sections k) b block at))
        (built.linked.globals k b block.cells (runs_code k honest) (alive (globals k) b block at live)).below;
    known = λ k b a e. (placed_only (length (globals k)) (built.addresses k).global b a e).0;
  }

  pub settled : Settled T P x
  settled = record {
    blocks = blocks;
    globals = λ k number honest below. placed_below (length (globals k)) (built.addresses k).global number below;
    saved = λ k other honest. tops_at 0 image.comps k (within k honest) ∙ ap stack_top (zero-add k);
    zones = λ k honest. record {
      same = none_taken image.comps k ∙ sym (no_spans (slice_get program.sections k));
      laid = subst (AreLaid 0) (sym (no_spans (slice_get program.sections k))) (omega arith);
    };
    inputs = refl;
    steady = runs_are_steady.first image built.linked.formed;
    came = record { steps = 0; walks = record { by = refl } };
    depth = λ k honest. omega arith;
    timed = tt;
  }

  pub base : IsBase T P
  base = record {
    floor = refl;
    aligned = omega arith;
    high = omega arith;
    floors = record {
      aligned = λ k honest. omega arith;
      low = λ k honest. omega arith;
      high = λ k honest. omega arith;
    };
  }

  main_honest : performs image.main ≡ false → T.performs image.main ≡ false
  main_honest h = rw (h, lt-ltb image.main (length image.comps) built.linked.formed.main) refl

  -- `main` begins
  pub begins : performs image.main ≡ false → (number : ℕ) (f : TacFnTree) →
      function_entered Main (slice_get program.sections program.interfaces.main) ≡ Some number →
      Begins T P (code_function wrapping f) [] ((T.addresses P.comp).function number) gate x
  begins honest number f entered = record {
    honest = main_honest honest;
    settled = settled;
    base = base;
    pc = built.linked.main_at number (subst (λ c. performs c ≡ false) built.linked.main honest) entered ∙
        ap (λ c. (built.addresses c).function number) (sym built.linked.main);
    sp = refl;
    ra = refl;
    passed = λ i v e. cc e;
  }
