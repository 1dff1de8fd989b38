-- One instruction of code is linked, and the next is looked at.
use Rattle.sc_linker.proofs.Common.{Addresses, AreKnown, Bool, Fits, IfSome, Instr, IsKnown, List, None, Option}
use Rattle.sc_linker.proofs.Common.{Relocation, Some, Target, [], add-one, and_first, and_rest, ap, append_assoc, arith}
use Rattle.sc_linker.proofs.Common.{drop, drop-step, false, get_or, if◌then◌else◌, is_known, length, length-drop}
use Rattle.sc_linker.proofs.Common.{linked_from, low_of_target, map, relocations_after, subst, sym, target_at, true}
use Rattle.sc_linker.proofs.Common.{with_low, with_target, word_of, ℕ, ◌++◌, ◌+◌, ◌<◌, ◌==◌, ◌∙◌, ◌∷◌, ◌≡◌}

module _ (A : Addresses) (functions globals : ℕ) where
  -- what an instruction refers to is known
  pub known_at : (at : ℕ) (relocations : List Relocation) (target : Option Target) →
      target ≡ target_at A at relocations → AreKnown functions globals relocations →
      IfSome target (IsKnown functions globals)
  known_at at [] target is known = subst (λ t. IfSome t (IsKnown functions globals)) (sym is) tt
  known_at at (relocation ∷ relocations) target is known =
      subst (λ t. IfSome t (IsKnown functions globals)) (sym is) (by (relocation.at == at)) where
        by : (b : Bool) → IfSome (if b then Some relocation.target else None) (IsKnown functions globals)
        by true = and_first (is_known functions globals relocation.target) _ known
        by false = tt

  -- and so is what those after it refer to
  pub known_after : (at : ℕ) (relocations rest : List Relocation) → relocations_after A at relocations ≡ rest →
      AreKnown functions globals relocations → AreKnown functions globals rest
  known_after at [] rest is known = subst (AreKnown functions globals) is known
  known_after at (relocation ∷ relocations) rest is known =
      subst (AreKnown functions globals) is (by (relocation.at == at)) where
        by : (b : Bool) → AreKnown functions globals (if b then relocations else relocation ∷ relocations)
        by true = and_rest (is_known functions globals relocation.target) _ known
        by false = known

-- one more instruction is linked
module _ (A : Addresses) (instrs : List Instr) (i : ℕ) (instr : Instr) (within : i < length instrs)
    (item : instr ≡ get_or instrs i instr) where
  pub one_linked : (words more whole : List ℕ) (pc at : ℕ) (low next : Option ℕ) (target : Option Target)
      (relocations rest : List Relocation) (word : ℕ) → target ≡ target_at A at relocations →
      relocations_after A at relocations ≡ rest → next ≡ low_of_target A target →
      word ≡ word_of (with_low low (with_target A pc target instr)) → more ≡ words ++ word ∷ [] →
      words ++ map word_of (linked_from A pc at low (drop i instrs) relocations) ≡ whole →
      more ++ map word_of (linked_from A (pc + 4) (at + 1) next (drop (i + 1) instrs) rest) ≡ whole
  one_linked words more whole pc at low next target relocations rest word is left following made pushed so_far =
      ap (λ ws. ws ++ later) (pushed ∙ ap (λ w. words ++ w ∷ []) made) ∙
      append_assoc words (here ∷ []) later ∙
      ap (λ ws. words ++ ws) (sym (ap (λ is. map word_of (linked_from A pc at low is relocations)) split ∙ first)) ∙
      so_far where
        split : drop i instrs ≡ instr ∷ drop (i + 1) instrs
        split = drop-step instrs i instr within item

        here : ℕ
        here = word_of (with_low low (with_target A pc target instr))

        later : List ℕ
        later = map word_of (linked_from A (pc + 4) (at + 1) next (drop (i + 1) instrs) rest)

        low_next : low_of_target A (target_at A at relocations) ≡ next
        low_next = ap (low_of_target A) (sym is) ∙ sym following

        first : map word_of (linked_from A pc at low (instr ∷ drop (i + 1) instrs) relocations) ≡ here ∷ later
        first = λ k.
            word_of (with_low low (with_target A pc (sym is k) instr)) ∷
            map word_of (linked_from A (pc + 4) (sym (add-one at) k) (low_next k) (drop (i + 1) instrs) (left k))

-- there is room for the instructions after one
pub room_after : {X : Type 0} (comp pc i : ℕ) (xs : List X) → i < length xs → Fits comp pc (length (drop i xs)) →
    Fits comp (pc + 4) (length (drop (i + 1) xs))
room_after comp pc i xs within room =
    let here = length-drop i xs in
    let next = length-drop (i + 1) xs in
    record {
      least = omega arith;
      greatest = omega arith;
      word = omega arith;
      whole = omega arith;
    }
