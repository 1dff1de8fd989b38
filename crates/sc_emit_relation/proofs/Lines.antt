-- Lines that the linker completed, in parts.
use Rattle.sc_emit_relation.proofs.Common.{Addresses, CodeAt, ImageParts, Instr, Line, List, None, Option, [], ap}
use Rattle.sc_emit_relation.proofs.Common.{arith, completed, length, low_after, low_of_target, plainly, refl, subst}
use Rattle.sc_emit_relation.proofs.Common.{suc, with_low, with_target, ℕ, ◌*◌, ◌++◌, ◌+◌, ◌∙◌, ◌∷◌, ◌≡◌}
use Rattle.sc_emit_hart.proofs.Fetching.{prefix_at, back_at}

module _ (addresses : Addresses) where
  pub completed_length : (pc : ℕ) (low : Option ℕ) (lines : List Line) → length (completed addresses pc low lines) ≡
      length lines
  completed_length pc low [] = refl
  completed_length pc low (line ∷ lines) =
      ap suc (completed_length (pc + 4) (low_of_target addresses line.target) lines)

  completed_append : (pc : ℕ) (low : Option ℕ) (xs ys : List Line) → completed addresses pc low (xs ++ ys) ≡
      completed addresses pc low xs ++ completed addresses (pc + 4 * length xs) (low_after addresses low xs) ys
  completed_append pc low [] ys = let e : pc ≡ pc + 4 * 0 = omega arith in ap (λ p. completed addresses p low ys) e
  completed_append pc low (x ∷ xs) ys =
      let e : pc + 4 + 4 * length xs ≡ pc + 4 * suc (length xs) = omega arith in
      let low' : Option ℕ = low_of_target addresses x.target in
      ap (λ is. with_low low (with_target addresses pc x.target x.instr) ∷ is)
      (completed_append (pc + 4) low' xs ys ∙
      ap (λ p. completed addresses (pc + 4) low' xs ++ completed addresses p (low_after addresses low' xs) ys) e)

  pub low_append : (low : Option ℕ) (xs ys : List Line) → low_after addresses low (xs ++ ys) ≡
      low_after addresses (low_after addresses low xs) ys
  low_append low [] ys = refl
  low_append low (x ∷ xs) ys = low_append (low_of_target addresses x.target) xs ys

  -- lines that refer to nothing
  pub low_plainly : (instrs : List Instr) → low_after addresses None (plainly instrs) ≡ None
  low_plainly [] = refl
  low_plainly (i ∷ is) = low_plainly is

  pub completed_plainly : (pc : ℕ) (instrs : List Instr) → completed addresses pc None (plainly instrs) ≡ instrs
  completed_plainly pc [] = refl
  completed_plainly pc (i ∷ is) = ap (λ is. i ∷ is) (completed_plainly (pc + 4) is)

  -- code stands in two parts
  pub record InParts (image : ImageParts) (c pc : ℕ) (xs ys : List Line) : Type 0 where
    pub prefix : CodeAt image c pc (completed addresses pc None xs)
    pub back : CodeAt image c (pc + 4 * length xs) (completed addresses (pc + 4 * length xs) None ys)

  pub in_parts : (image : ImageParts) (c pc : ℕ) (xs ys : List Line) → low_after addresses None xs ≡ None →
      CodeAt image c pc (completed addresses pc None (xs ++ ys)) → InParts image c pc xs ys
  in_parts image c pc xs ys closed code =
      let prefix : List Instr = completed addresses pc None xs in
      let back : List Instr = completed addresses (pc + 4 * length xs) (low_after addresses None xs) ys in
      let whole : CodeAt image c pc (prefix ++ back) =
      subst (CodeAt image c pc) (completed_append pc None xs ys) code in
      record {
        prefix = prefix_at image c pc prefix back whole;
        back = subst (λ low. CodeAt image c (pc + 4 * length xs) (completed addresses (pc + 4 * length xs) low
            ys)) closed
            (subst (λ n. CodeAt image c (pc + 4 * n) back) (completed_length pc None xs) (back_at image c pc prefix
            back whole));
      }

  pub plainly_at : (image : ImageParts) (c pc : ℕ) (instrs : List Instr) →
      CodeAt image c pc (completed addresses pc None (plainly instrs)) → CodeAt image c pc instrs
  plainly_at image c pc instrs code = subst (CodeAt image c pc) (completed_plainly pc instrs) code
