-- No call of a function executes an instruction twice but that a loop around it begins a further round in between.
use Rattle.sc_emit.proofs.Common.{Addresses, Bool, CodeAt, CodeTree, FrameTree, ImageParts, Instr, IsWellFormed, IsWord}
use Rattle.sc_emit.proofs.Common.{Jal, Jalr, Line, List, None, OpImm, Option, Place, Some, TacFnTree, [], add_word}
use Rattle.sc_emit.proofs.Common.{all_at, and_first, and_rest, ap, arith, cases_lt, code_of, code_start, completed}
use Rattle.sc_emit.proofs.Common.{false, function_lines, if◌then◌else◌, inl, inr, is_near, is_some, linked, list_all}
use Rattle.sc_emit.proofs.Common.{map, nat_eq, nat_le, neg_ℤ, not, plan_of, pos, refl, slice_get, subst, suc, sym, true}
use Rattle.sc_emit.proofs.Common.{uses_heap, word_at, word_of, zero, ℕ, ℤ, ⊎_elim, ◌%◌, ◌&&◌, ◌*◌, ◌+◌, ◌-◌, ◌/◌, ◌<◌}
use Rattle.sc_emit.proofs.Common.{◌==◌, ◌^◌, ◌||◌, ◌∙◌, ◌∷◌, ◌≡◌, ◌≤◌, ◌⊎◌}
use Rattle.rv_code.specs.declared.instr.Instr.TheVariants.{Upper}
use Rattle.rv_code.proofs.OneEach.{HasWord-decoded}
use Rattle.rv_code.specs.Prelude.{IsInstr}
use Rattle.sc_emit_hart.proofs.Inside.{IsInside, code_inside}
use Rattle.sc_emit_hart.specs.Prelude.{Fetches}
use Rattle.sc_emit_relation.proofs.Jumps.{back_to}
use Rattle.sc_emit_relation.proofs.Linking.{linked_is}
use Rattle.sc_emit_select.specs.Prelude.{low_of_target, with_low, with_target}
use Rattle.sc_image.specs.Prelude.{Goes, IsAt, MachineState, code_in as words_of, step}
use Rattle.sc_image.specs.declared.parts.CompPart.{CompPart}
use Rattle.sc_tac.specs.declared.machine_code.Target.{Target}
use Rattle.sc_tac.specs.declared.machine_code.Target.TheVariants.{Entry, Function, Global}
use Rattle.std.specs.Option.{option_map_or}
use Rattle.sc_emit.specs.Repeating.{BeginsRound, IsNext, Moments, Moves, RepeatsByRounds, RoundBegins, ends_call, here}
use Rattle.sc_emit.specs.Repeating.{makes_call, onward, returns, steps}
use Rattle.sc_emit.specs.Shapes.{is_backward, is_known_jump, leads_back}
use Rattle.sc_emit.proofs.Branches.{all_refer, is_straight, known_jumps, refers_straight}
use Rattle.sc_emit.proofs.Leading.{Leads, leads, rises}
use Rattle.sc_emit.proofs.LoopCode.{EndsLoop, ends_round}
use Rattle.sc_emit.proofs.Rounds.{has_rounds}

-- LINKED CODE
-- an instruction as the linker completes it leads back only where it is as it was
record KeepsJump (instr done : Instr) : Type 0 where
  back : leads_back done ≡ true → done ≡ instr
  known : is_known_jump done ≡ is_known_jump instr

unchanged : (instr : Instr) → KeepsJump instr instr
unchanged instr = record { back = λ h. refl; known = refl }

both_keep : (a b c : Instr) → KeepsJump a b → KeepsJump b c → KeepsJump a c
both_keep a b c one two = record {
  back = λ h.
      let same : c ≡ b = two.back h in same ∙ one.back (subst (λ i. leads_back i ≡ true) same h);
  known = two.known ∙ one.known;
}

low_keeps : (low : Option ℕ) (instr : Instr) → KeepsJump instr (with_low low instr)
low_keeps None instr = unchanged instr
low_keeps (Some address) (OpImm op rd rs1 imm) = record { back = λ h. cc h; known = refl }
low_keeps (Some address) (Jalr rd rs1 imm) = record { back = λ h. cc h; known = refl }
low_keeps (Some address) instr = unchanged instr

module _ (A : Addresses) where
  target_keeps : (pc : ℕ) (target : Option Target) (instr : Instr) →
      (not (is_some target) || is_straight instr) ≡ true → KeepsJump instr (with_target A pc target instr)
  target_keeps pc None instr h = unchanged instr
  target_keeps pc (Some (Function number)) (Jal rd imm) h = record {
    back = λ k. absurd (by (rd == 0) _ (and_first (not (rd == 0)) (is_known_jump (Jal rd imm)) h) k);
    known = refl;
  }
    where
      by : (b : Bool) (far : ℤ) → not b ≡ true → is_backward (if b then Some far else None) ≡ true → ⊥
      by true far h k = cc h
      by false far h k = cc k
  target_keeps pc (Some (Function number)) instr h = unchanged instr
  target_keeps pc (Some (Entry comp index)) (Upper op rd imm) h = record { back = λ k. cc k; known = refl }
  target_keeps pc (Some (Entry comp index)) instr h = unchanged instr
  target_keeps pc (Some (Global number)) (Upper op rd imm) h = record { back = λ k. cc k; known = refl }
  target_keeps pc (Some (Global number)) instr h = unchanged instr

  -- an instruction of completed lines, and of the lines
  record IsOf (lines : List Line) (i : ℕ) (done : Instr) : Type 0 where
    instr : Instr
    there : slice_get (map (λ line. line.instr) lines) i ≡ Some instr
    keeps : KeepsJump instr done

  of_lines : (pc : ℕ) (low : Option ℕ) (lines : List Line) (i : ℕ) (done : Instr) →
      list_all refers_straight lines ≡ true → slice_get (completed A pc low lines) i ≡ Some done → IsOf lines i done
  of_lines pc low [] i done h at = absurd (cc)
  of_lines pc low (line ∷ lines) zero done h at =
      let same : with_low low (with_target A pc line.target line.instr) ≡ done = cc at in
      record {
        instr = line.instr;
        there = refl;
        keeps = subst (KeepsJump line.instr) same
            (both_keep line.instr (with_target A pc line.target line.instr)
            (with_low low (with_target A pc line.target line.instr))
            (target_keeps pc line.target line.instr
            (and_first (refers_straight line) (list_all refers_straight lines) h))
            (low_keeps low (with_target A pc line.target line.instr)));
      }
  of_lines pc low (line ∷ lines) (suc i) done h at =
      let rest : IsOf lines i done =
      of_lines (pc + 4) (low_of_target A line.target) lines i done
      (and_rest (refers_straight line) (list_all refers_straight lines) h) at in
      record { instr = rest.instr; there = rest.there; keeps = rest.keeps }

-- PLACES
test_at : (test : Instr → Bool) (xs : List Instr) (i : ℕ) (x : Instr) → list_all test xs ≡ true →
    slice_get xs i ≡ Some x → test x ≡ true
test_at test [] i x h at = absurd (cc)
test_at test (y ∷ ys) zero x h at =
    let same : y ≡ x = cc at in
    subst (λ z. test z ≡ true) same (and_first (test y) (list_all test ys) h)
test_at test (y ∷ ys) (suc i) x h at = test_at test ys i x (and_rest (test y) (list_all test ys) h) at

fetched_at : (image : ImageParts) (c : ℕ) (instrs : List Instr) (a i : ℕ) (x : Instr) → CodeAt image c a instrs →
    slice_get instrs i ≡ Some x → Fetches image c (a + 4 * i) x
fetched_at image c [] a i x h at = absurd (cc)
fetched_at image c (y ∷ ys) a zero x h at =
    let same : y ≡ x = cc at in
    let place : a ≡ a + 4 * 0 = omega arith in
    subst (λ p. Fetches image c p x) place (subst (Fetches image c a) same h.0)
fetched_at image c (y ∷ ys) a (suc i) x h at =
    let place : a + 4 + 4 * i ≡ a + 4 * suc i = omega arith in
    subst (λ p. Fetches image c p x) place (fetched_at image c ys (a + 4) i x h.1 at)

module _ (image : ImageParts) (formed : IsWellFormed image) where
  in_comp : (c i w : ℕ) (comp : Option CompPart) → slice_get image.comps c ≡ comp →
      slice_get (option_map_or (λ (x : CompPart). x.code) comp []) i ≡ Some w → w < 2 ^ 32
  in_comp c i w None is h = let none : ◌≡◌ {A = Option ℕ} None (Some w) = h in cc none
  in_comp c i w (Some comp) is h = all_at IsWord comp.code i w (formed.comps c comp is).words h

  by_place : (c a w : ℕ) (b : Bool) →
      (if b then slice_get (words_of image c) ((a - code_start c) / 4) else None) ≡ Some w → w < 2 ^ 32
  by_place c a w true h = in_comp c ((a - code_start c) / 4) w (slice_get image.comps c) refl h
  by_place c a w false h = let none : ◌≡◌ {A = Option ℕ} None (Some w) = h in cc none

  code_word : (c a w : ℕ) → word_at image c a ≡ Some w → w < 2 ^ 32
  unfolding word_at
  code_word c a w h = by_place c a w (nat_eq (a % 4) 0 && nat_le (code_start c) a) h

-- ROUNDS
module _ (f : TacFnTree) (places : List Place) (frame : FrameTree) (image : ImageParts) (inputs : List ℕ)
    (comp address : ℕ) (A : Addresses) (formed : IsWellFormed image) where
  abbrev code : CodeTree
  code = code_of f places frame

  abbrev lines : List Line
  lines = function_lines frame places (plan_of f (is_near f places frame)) f

  abbrev instrs : List Instr
  instrs = linked A address code

  module _ (stands : CodeAt image comp address instrs) where
    -- what code has at a moment
    record Has (number : ℕ) (instr : Instr) (s : MachineState) : Type 0 where
      at : IsAt image s instr
      inside : IsInside s.pc
      fits : IsInstr instr
      of : IsOf A lines number instr
      known : is_known_jump instr ≡ true

    has : (number : ℕ) (instr : Instr) (s : MachineState) → IsNext image inputs comp address instrs number instr s →
        Has number instr s
    has number instr s is_next =
        let fetches : Fetches image comp (address + 4 * number) instr =
        fetched_at image comp instrs address number instr stands is_next.there in
        let fetched : word_at image s.active s.pc ≡ Some fetches.word =
        ap (λ c. word_at image c s.pc) is_next.active ∙ ap (word_at image comp) is_next.pc ∙ fetches.fetched in
        let of : IsOf A lines number instr =
        of_lines A address None lines number instr (all_refer f places frame)
        (subst (λ is. slice_get is number ≡ Some instr) (linked_is A (uses_heap f.body) address lines) is_next.there) in
        record {
          at = record { word = fetches.word; fetched = fetched; decodes = fetches.decodes };
          inside = code_inside image formed s.active s.pc fetches.word fetched;
          fits = (HasWord-decoded fetches.word instr (code_word image formed s.active s.pc fetches.word fetched)
              fetches.decodes).instr;
          of = of;
          known = of.keeps.known ∙
              test_at is_known_jump code.instrs number of.instr (known_jumps f places frame) of.there;
        }

    abbrev Begins : (pc number : ℕ) (s t : MachineState) → Type 0
    Begins pc number s t = BeginsRound image inputs comp address instrs f.body code.instrs pc number s t

    abbrev Rounds : (pc : ℕ) {s t : MachineState} → Moments image inputs comp address instrs s t → Type 0
    Rounds pc way = RoundBegins image inputs comp address instrs f.body code.instrs pc way

    -- an instruction that leads back, at or after an address, to it or before
    leads_around : (pc number : ℕ) (instr : Instr) (s t : MachineState) →
        IsNext image inputs comp address instrs number instr s → Has number instr s → leads_back instr ≡ true →
        makes_call instr ≡ false → ends_call instr ≡ false → step image inputs s ≡ Goes t → pc ≤ s.pc → t.pc ≤ pc →
        Begins pc number s t
    leads_around pc number instr s t is_next h back call end goes from to = by instr_ends (leads image inputs s t goes
        instr h.at h.known call end) where
          same : instr ≡ h.of.instr
          same = h.of.keeps.back back

          instr_ends : EndsLoop f.body code.instrs number instr
          instr_ends =
              ends_round f.body code.instrs (has_rounds f places frame) number instr
              (subst (λ i. slice_get code.instrs number ≡ Some i) (sym same) h.of.there) back

          by : EndsLoop f.body code.instrs number instr → Leads image inputs s t goes instr → Begins pc number s t
          by e (inl on) = absurd (omega (arith, on, from, to))
          by e (inr far) =
              let both : Some far.0 ≡ Some (neg_ℤ (pos (4 * e.over))) = sym far.1.0 ∙ e.back in
              let imm : far.0 ≡ neg_ℤ (pos (4 * e.over)) = cc both in
              let reach : e.over ≤ number = ⊎_elim (λ k. omega (arith, k)) (λ k. omega (arith, k)) e.to in
              let target : t.pc ≡ s.pc - 4 * e.over =
              far.1.1 ∙ ap (λ z. add_word s.pc (word_of z)) imm ∙
              back_to s.pc e.over (omega (arith, is_next.pc, reach)) (omega (arith, h.inside.low)) in
              record {
                begins = e.begins;
                loop = e.loop;
                last = is_next.pc;
                to = ⊎_elim (λ k. inl (omega (arith, target, k, is_next.pc)))
                    (λ k. inr (omega (arith, target, k, is_next.pc))) e.to;
                around = (to, from);
              }

    -- whatever leads from an address on to it or before begins a round
    around : (pc number : ℕ) (instr : Instr) (s t : MachineState) → IsNext image inputs comp address instrs number instr
        s →
        Moves image inputs comp address instrs instr s t → pc ≤ s.pc → t.pc ≤ pc → Begins pc number s t
    around pc number instr s t is_next (returns call taken walks next sp cross) from to =
        absurd (omega (arith, next, from, to))
    around pc number instr s t is_next (steps call end goes) from to =
        by (leads_back instr) refl where
          h : Has number instr s
          h = has number instr s is_next

          by : (b : Bool) → leads_back instr ≡ b → Begins pc number s t
          by true back = leads_around pc number instr s t is_next h back call end goes from to
          by false on =
              let more : s.pc < t.pc =
              rises image inputs s t instr goes h.at h.fits h.inside.low h.known call end on in
              absurd (omega (arith, more, from, to))

    -- on the way from after an address to it or before
    rounds_of : (pc : ℕ) {s t : MachineState} (way : Moments image inputs comp address instrs s t) → pc < s.pc → t.pc ≤
        pc →
        Rounds pc way
    rounds_of pc (here s) less to = absurd (omega (arith, less, to))
    rounds_of pc (onward number instr s next t is_next moves rest) less to =
        ⊎_elim (λ far. inr (rounds_of pc rest far to))
        (λ near. inl (around pc number instr s next is_next moves (omega (arith, less)) near)) (cases_lt pc next.pc)

    repeats : (number : ℕ) (instr : Instr) (s next t : MachineState)
        (is_next : IsNext image inputs comp address instrs number instr s)
        (moves : Moves image inputs comp address instrs instr s next)
        (rest : Moments image inputs comp address instrs next t) → t.pc ≡ s.pc →
        Rounds s.pc (onward number instr s next t is_next moves rest)
    repeats number instr s next t is_next moves rest same =
        ⊎_elim (λ far. inr (rounds_of s.pc rest far (omega (arith, same))))
        (λ near. inl (around s.pc number instr s next is_next moves (omega arith) near)) (cases_lt s.pc next.pc)

pub repeats_by_rounds : (f : TacFnTree) (places : List Place) (frame : FrameTree) →
    RepeatsByRounds f (code_of f places frame)
repeats_by_rounds f places frame image inputs comp address A formed stands number instr s next t is_next moves rest
    same =
    repeats f places frame image inputs comp address A formed stands number instr s next t is_next moves rest same
