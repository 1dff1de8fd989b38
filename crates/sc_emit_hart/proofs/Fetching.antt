-- Code, found at its place.
use Rattle.sc_emit_hart.proofs.Common.{CodeAt, CodeIsFetched, ImageParts, Instr, List, [], append_assoc, arith}
use Rattle.sc_emit_hart.proofs.Common.{code_start, image_in_memory, length, map, subst, suc, sym, ℕ, ◌*◌, ◌++◌, ◌+◌}
use Rattle.sc_emit_hart.proofs.Common.{◌∙◌, ◌∷◌, ◌≡◌}
use Rattle.rv_code.specs.Prelude.{IsInstr, word_of}
use Rattle.std.proofs.lemmas.List.{length_push}
use Rattle.std.proofs.lemmas.List.Elements.{All-head, All-tail}
use Rattle.rv_code.proofs.OneEach.{decoded-word_of}

-- what is at an address is at one that is equal
pub moved_to : (image : ImageParts) (c pc to : ℕ) (instrs : List Instr) → pc ≡ to → CodeAt image c pc instrs →
    CodeAt image c to instrs
moved_to image c pc to instrs e h = subst (λ p. CodeAt image c p instrs) e h

pub code_is_fetched : CodeIsFetched
code_is_fetched image c [] before after all h = tt
code_is_fetched image c (instr ∷ instrs) before after all h =
    let word : ℕ = word_of instr in
    let later : length (before ++ word ∷ []) ≡ length before + 1 = length_push before word in
    let whole = h ∙ sym (append_assoc before (word ∷ []) (map word_of instrs ++ after)) in (
      record {
        word = word;
        fetched = image_in_memory.code image c word before (map word_of instrs ++ after) h;
        decodes = decoded-word_of instr (All-head IsInstr instr instrs all);
      },
      moved_to image c (code_start c + 4 * length (before ++ word ∷ [])) (code_start c + 4 * length before + 4) instrs
          (omega (arith, later))
          (code_is_fetched image c instrs (before ++ word ∷ []) after (All-tail IsInstr instr instrs all) whole),
    )

-- code in two parts
pub prefix_at : (image : ImageParts) (c pc : ℕ) (xs ys : List Instr) → CodeAt image c pc (xs ++ ys) →
    CodeAt image c pc xs
prefix_at image c pc [] ys h = tt
prefix_at image c pc (x ∷ xs) ys h = (h.0, prefix_at image c (pc + 4) xs ys h.1)

pub back_at : (image : ImageParts) (c pc : ℕ) (xs ys : List Instr) → CodeAt image c pc (xs ++ ys) →
    CodeAt image c (pc + 4 * length xs) ys
back_at image c pc [] ys h = moved_to image c pc (pc + 4 * 0) ys (omega arith) h
back_at image c pc (x ∷ xs) ys h =
    moved_to image c (pc + 4 + 4 * length xs) (pc + 4 * suc (length xs)) ys (omega arith)
    (back_at image c (pc + 4) xs ys h.1)
