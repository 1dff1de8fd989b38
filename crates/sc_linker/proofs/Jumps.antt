-- The jumps at a compartment's entries.
use Rattle.sc_linker.proofs.Common.{Addresses, All, Instr, IsSome, Jal, List, Proto, Some, TypedFunction, TypedSection}
use Rattle.sc_linker.proofs.Common.{[], add-one, ap, append_assoc, bytes_eq, cond, drop, drop-step, entry_address}
use Rattle.sc_linker.proofs.Common.{entry_jump, entry_jumps, function_address, get_or, length, map, nat_eq}
use Rattle.sc_linker.proofs.Common.{number_by_name}
use Rattle.sc_linker.proofs.Common.{place_named, pos, position, position-cons, refl, same_either_way, subst, suc, sym}
use Rattle.sc_linker.proofs.Common.{word_of, ℕ, ◌++◌, ◌+◌, ◌-ℤ◌, ◌<◌, ◌∙◌, ◌∷◌, ◌≡◌}
use Rattle.std.specs.Cmp.Lexicographic.{pointwise}
use Rattle.std.specs.Option.{option_map}

-- the number of a name is the place of the first function that is called so
pub number_named : (name : List ℕ) (functions : List TypedFunction) →
    number_by_name (map {A = TypedFunction} (λ f. f.name) functions) name ≡
    position {X = TypedFunction} (λ f. bytes_eq f.name name) functions
number_named name [] = refl
number_named name (f ∷ functions) =
    position-cons (pointwise nat_eq name) f.name (map {A = TypedFunction} (λ f. f.name) functions) ∙
    (λ k. cond (same_either_way name f.name k) (Some 0) (option_map suc (number_named name functions k))) ∙
    sym (position-cons {X = TypedFunction} (λ f. bytes_eq f.name name) f functions)

module _ (section : TypedSection) (names : List (List ℕ))
    (are : names ≡ map {A = TypedFunction} (λ f. f.name) section.functions) where
  pub number_is : (name : List ℕ) → number_by_name names name ≡ place_named name (Some section)
  number_is name = ap (λ ns. number_by_name ns name) are ∙ number_named name section.functions

  -- an export of a section has a function
  pub has_function : (exports : List Proto) (i : ℕ) (proto : Proto) → i < length exports →
      proto ≡ get_or exports i proto →
      All {X = Proto} (λ proto. IsSome (place_named proto.name (Some section))) exports →
      IsSome (number_by_name names proto.name)
  has_function exports i proto within item named =
      subst IsSome (sym (number_is proto.name)) (subst (λ (p : Proto). IsSome (place_named p.name (Some section)))
      (sym item) (named i proto within))

  -- one more entry is written
  module _ (A : Addresses) (comp : ℕ) (exports : List Proto) (i : ℕ) (proto : Proto) (within : i < length exports)
      (item : proto ≡ get_or exports i proto) where
    pub one_jump : (words more whole : List ℕ) (index word : ℕ) (jump : Instr) →
        jump ≡ Jal 0 (pos (function_address A (number_by_name names proto.name)) -ℤ pos (entry_address comp index)) →
        word ≡ word_of jump → more ≡ words ++ word ∷ [] →
        words ++ map word_of (entry_jumps A comp index section (drop i exports)) ≡ whole →
        more ++ map word_of (entry_jumps A comp (index + 1) section (drop (i + 1) exports)) ≡ whole
    one_jump words more whole index word jump is made pushed so_far =
        ap (λ ws. ws ++ later) (pushed ∙ ap (λ w. words ++ w ∷ []) (made ∙ ap word_of named)) ∙
        append_assoc words (here ∷ []) later ∙
        ap (λ ws. words ++ ws) (sym (ap (λ ps. map word_of (entry_jumps A comp index section ps)) split ∙ first)) ∙
        so_far where
          split : drop i exports ≡ proto ∷ drop (i + 1) exports
          split = drop-step exports i proto within item

          named : jump ≡ entry_jump A comp index section proto
          named = is ∙ ap (λ o. Jal 0 (pos (function_address A o) -ℤ pos (entry_address comp index)))
              (number_is proto.name)

          here : ℕ
          here = word_of (entry_jump A comp index section proto)

          later : List ℕ
          later = map word_of (entry_jumps A comp (index + 1) section (drop (i + 1) exports))

          first : map word_of (entry_jumps A comp index section (proto ∷ drop (i + 1) exports)) ≡ here ∷ later
          first = λ k. here ∷
              map word_of (entry_jumps A comp (sym (add-one index) k) section (drop (i + 1) exports))
