-- Code as the linker completes it by its relocations is what it completes line by line.
use Rattle.sc_emit_relation.proofs.Common.{Addresses, Bool, Instr, Line, List, None, Option, Some, [], ap, ap₂, arith}
use Rattle.sc_emit_relation.proofs.Common.{code_of_lines, completed, eq-eqb, linked, linked_from, low_of_target, map}
use Rattle.sc_emit_relation.proofs.Common.{ne_eqb, refl, relocation_of, relocations_after, relocations_from, suc}
use Rattle.sc_emit_relation.proofs.Common.{target_at, with_low, with_target, ℕ, ◌++◌, ◌+◌, ◌<◌, ◌∙◌, ◌∷◌, ◌≡◌}
use Rattle.sc_tac.specs.declared.machine_code.Relocation.{Relocation}
use Rattle.sc_tac.specs.declared.machine_code.Target.{Target}

module _ (A : Addresses) where
  -- no later line refers to something at an earlier number
  none_before : (at from : ℕ) (lines : List Line) → at < from → target_at A at (relocations_from from lines) ≡ None
  none_before at from [] h = refl
  none_before at from (line ∷ lines) h = by line.target (none_before at (suc from) lines (omega arith))
    where
      by : (target : Option Target) → target_at A at (relocations_from (suc from) lines) ≡ None →
          target_at A at (relocation_of from target ++ relocations_from (suc from) lines) ≡ None
      by None later = later
      by (Some target) later = rw (ne_eqb from at (λ e. omega (arith, e, h))) refl

  all_after : (at from : ℕ) (lines : List Line) → at < from →
      relocations_after A at (relocations_from from lines) ≡ relocations_from from lines
  all_after at from [] h = refl
  all_after at from (line ∷ lines) h = by line.target (all_after at (suc from) lines (omega arith))
    where
      by : (target : Option Target) →
          relocations_after A at (relocations_from (suc from) lines) ≡ relocations_from (suc from) lines →
          relocations_after A at (relocation_of from target ++ relocations_from (suc from) lines) ≡
          relocation_of from target ++ relocations_from (suc from) lines
      by None later = later
      by (Some target) later = rw (ne_eqb from at (λ e. omega (arith, e, h))) refl

  target_here : (at : ℕ) (target : Option Target) (lines : List Line) →
      target_at A at (relocation_of at target ++ relocations_from (suc at) lines) ≡ target
  target_here at None lines = none_before at (suc at) lines (omega arith)
  target_here at (Some target) lines = rw (eq-eqb at at refl) refl

  after_here : (at : ℕ) (target : Option Target) (lines : List Line) →
      relocations_after A at (relocation_of at target ++ relocations_from (suc at) lines) ≡ relocations_from (suc
      at) lines
  after_here at None lines = all_after at (suc at) lines (omega arith)
  after_here at (Some target) lines = rw (eq-eqb at at refl) refl

  linked_lines : (pc at : ℕ) (low : Option ℕ) (lines : List Line) →
      linked_from A pc at low (map (λ line. line.instr) lines) (relocations_from at lines) ≡ completed A pc low lines
  linked_lines pc at low [] = refl
  linked_lines pc at low (line ∷ lines) =
      let rest : List Relocation = relocation_of at line.target ++ relocations_from (suc at) lines in
      let instrs : List Instr = map (λ line. line.instr) lines in
      ap₂ (λ target relocations. with_low low (with_target A pc target line.instr) ∷
      linked_from A (pc + 4) (suc at) (low_of_target A target) instrs relocations)
      (target_here at line.target lines) (after_here at line.target lines) ∙
      ap (λ is. with_low low (with_target A pc line.target line.instr) ∷ is)
      (linked_lines (pc + 4) (suc at) (low_of_target A line.target) lines)

  pub linked_is : (heap : Bool) (address : ℕ) (lines : List Line) →
      linked A address (code_of_lines heap lines) ≡ completed A address None lines
  linked_is heap address lines = linked_lines address 0 None lines
