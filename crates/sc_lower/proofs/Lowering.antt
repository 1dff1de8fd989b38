-- What is made of a program, section by section and function by function, keeps the rules.
use Rattle.sc_lower.proofs.Common.{AreFunctions, Interfaces, IsLowerable, IsProgram, IsWellTyped, List}
use Rattle.sc_lower.proofs.Common.{ProgramTree, Some, TacSection, TypedFunction, TypedSection, TypedStruct}
use Rattle.sc_lower.proofs.Common.{[], add-one, and_first, ap, append_assoc, arith as numbers, drop, drop-cons, get_or}
use Rattle.sc_lower.proofs.Common.{leb-true, length, lowered_program, lowered_sections, map}
use Rattle.sc_lower.proofs.Common.{most_compartments, nat_le, refl, slice_get, slice_get_read, subst, sym, ℕ, ◌++◌, ◌+◌}
use Rattle.sc_lower.proofs.Common.{◌<◌, ◌∙◌, ◌∷◌, ◌≡◌, ◌≤◌}
use Rattle.sc_lower.proofs.Rules.{lowerable}
use Rattle.sc_lower.proofs.Programs.{keeps_rules, program_kept}
use Rattle.sc_lower.proofs.Branches.{has_branches}
use Rattle.sc_lower.proofs.Whole.{keeps_meaning}
use Rattle.sc_lower.specs.Prelude.{HasBranches, KeepsCodeRules, MeansTheSame}
use Rattle.sc_tac.specs.declared.program.TacTree.{TacTree}

-- one more item is made
pub map_next : {A B : Type 0} (f : A → B) (items : List A) (i : ℕ) (item : A) (done more : List B) (made : B) →
    i < length items → item ≡ get_or items i item → made ≡ f item → more ≡ done ++ made ∷ [] →
    done ++ map f (drop i items) ≡ map f items → more ++ map f (drop (i + 1) items) ≡ map f items
map_next f items i item done more made there at is pushed so_far =
    ap (λ xs. xs ++ map f (drop (i + 1) items)) (pushed ∙ ap (λ x. done ++ x ∷ []) is)
    ∙ append_assoc done (f item ∷ []) (map f (drop (i + 1) items))
    ∙ ap (λ xs. done ++ map f xs) (sym next)
    ∙ so_far where
      next : drop i items ≡ item ∷ drop (i + 1) items
      next = rw (add-one, drop-cons items i item) (λ k. sym at k ∷ drop (Prim.Native.Nat.suc i) items)

module _ (interfaces : Interfaces) (comp : ℕ) (structs : List TypedStruct) (functions : List TypedFunction)
    (keep : AreFunctions interfaces comp structs functions) where
  pub lowerable_at : (i : ℕ) (f : TypedFunction) → i < length functions → f ≡ get_or functions i f →
      IsLowerable interfaces comp structs f
  lowerable_at i f there item = keep i f (slice_get_read functions (length functions) i f refl there item)

  pub functions_of : (same : List TypedStruct) (all : List TypedFunction) → same ≡ structs → all ≡ functions →
      AreFunctions interfaces comp same all
  functions_of same all one two =
      subst (λ s. AreFunctions interfaces comp s all) (sym one)
      (subst (λ fs. AreFunctions interfaces comp structs fs) (sym two) keep)

module _ (program : ProgramTree) (typed : IsWellTyped program) where
  few_sections : length program.sections ≤ most_compartments
  few_sections =
      leb-true (length program.sections) most_compartments
      (and_first (nat_le (length program.sections) most_compartments) _ typed)

  -- the sections are numbered below 32
  pub number_within : (sections : List TypedSection) (i number : ℕ) → sections ≡ program.sections →
      i < length sections → number ≡ i → number < 32
  number_within sections i number same there at =
      by (length program.sections) number few_sections (subst (λ n. n < length program.sections) (sym at)
      (subst (λ all. i < length all) same there)) where
        by : (count n : ℕ) → count ≤ 32 → n < count → n < 32
        by count n h g = omega (numbers, h, g)

  pub section_at : (sections : List TypedSection) (i : ℕ) (section : TypedSection) (comp number : ℕ) →
      sections ≡ program.sections → i < length sections → section ≡ get_or sections i section →
      comp ≡ number → number ≡ i → AreFunctions program.interfaces comp section.structs section.functions
  section_at sections i section comp number same there item numbered at =
      subst (λ c. AreFunctions program.interfaces c section.structs section.functions) (sym (numbered ∙ at))
      (λ n f is. lowerable program typed i section (subst (λ all. slice_get all i ≡ Some section) same
      (slice_get_read sections (length sections) i section refl there item)) n f is)

  module _ (read : ProgramTree) (interfaces : Interfaces) (sections : List TacSection) (same : read ≡ program)
      (one : interfaces ≡ read.interfaces) (two : sections ≡ lowered_sections read.interfaces 0 read.sections) where
    pub program_is : (record { interfaces = interfaces; sections = sections }) ≡ lowered_program program
    program_is =
        ap (λ i. record { interfaces = i; sections = sections }) one
        ∙ ap (λ s. record { interfaces = read.interfaces; sections = s }) two
        ∙ ap lowered_program same

    pub program_of : IsProgram (record { interfaces = interfaces; sections = sections })
    program_of = subst IsProgram (sym program_is) (program_kept program typed)

  -- code that is the program's means the same, keeps the rules and branches as the program does
  pub code_keeps : (code : TacTree) → code ≡ lowered_program program →
      MeansTheSame program code × KeepsCodeRules program code × HasBranches program code
  code_keeps code same = subst
      (λ code. MeansTheSame program code × KeepsCodeRules program code × HasBranches program code) (sym same)
      (keeps_meaning program typed, keeps_rules program typed, has_branches program)
