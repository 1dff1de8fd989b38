-- What is too large is in a compartment of the program, by whose name it is reported.
use Rattle.sc_top.proofs.Common.{AllByRecursion, Bool, CodeTooLarge, CompileFault, DataTooLarge, Err, FrameTooLarge}
use Rattle.sc_top.proofs.Common.{ImageParts, Interfaces, IsCompiling, IsNamed, IsSome, IsWellTyped, List, None, Ok}
use Rattle.sc_top.proofs.Common.{Option, OutOfMemory, ProgramTree, Some, TypedFunction, TypedSection, [], above, ap}
use Rattle.sc_top.proofs.Common.{arith, built_image, code_size, comp_at, data_size, false, first, flat_map, faults_from}
use Rattle.sc_top.proofs.Common.{frame_bytes, if◌then◌else◌, image_of, inl, inr, large_code, large_data, large_frame}
use Rattle.sc_top.proofs.Common.{large_frames, length, most_globals, none-some, of_compile_fault, option_and_then, refl}
use Rattle.sc_top.proofs.Common.{stretch, subst, suc, sym, too_large, true, unless_large, ℕ, ⊎_elim, ◌++◌, ◌+◌, ◌∷◌}
use Rattle.sc_top.proofs.Common.{◌≡◌, ◌≤◌, ◌⊎◌}
use Rattle.sc_compile.specs.Prelude.{IsFault}
use Rattle.sc_top.proofs.Known.{sections_are, within}

-- a program has an image exactly where nothing of it is too large
pub fits_of : (found : Option CompileFault) (built image : ImageParts) → unless_large found built ≡ Ok image →
    found ≡ None
fits_of None built image is = refl
fits_of (Some fault) built image is = absurd (cc)

large_of : (found : Option CompileFault) (built : ImageParts) (fault : CompileFault) →
    unless_large found built ≡ Err fault → found ≡ Some fault
large_of None built fault is = absurd (cc)
large_of (Some other) built fault is = cc

-- a fault is one of the program, or memory ran out
abbrev pub IsFaultOf : ProgramTree → CompileFault → Type 0
IsFaultOf program fault = (image_of program ≡ Err fault) ⊎ (fault ≡ OutOfMemory)

module _ (interfaces : Interfaces) where
  abbrev AreNamed : List CompileFault → Type 0
  AreNamed = AllByRecursion (IsNamed interfaces)

  named_append : (xs ys : List CompileFault) → AreNamed xs → AreNamed ys → AreNamed (xs ++ ys)
  named_append [] ys here following = following
  named_append (x ∷ xs) ys here following = (here.0, named_append xs ys here.1 following)

  named_above : (limit size : ℕ) (fault : CompileFault) → IsNamed interfaces fault → AreNamed (above limit size fault)
  named_above limit size fault is = by _ where
    by : (large : Bool) → AreNamed (if large then fault ∷ [] else [])
    by true = (is, tt)
    by false = tt

  named_frames : (comp : ℕ) (section : TypedSection) (functions : List TypedFunction) →
      IsSome (comp_at interfaces comp) → AreNamed (flat_map (large_frame comp section) functions)
  named_frames comp section [] is = tt
  named_frames comp section (f ∷ functions) is =
      named_append (large_frame comp section f) (flat_map (large_frame comp section) functions)
      (named_above _ _ (FrameTooLarge comp f.name (frame_bytes section f)) is) (named_frames comp section functions is)

  named_found : (find : ℕ → TypedSection → List CompileFault) →
      ((comp : ℕ) (section : TypedSection) → IsSome (comp_at interfaces comp) → AreNamed (find comp section)) →
      (comp : ℕ) (sections : List TypedSection) → comp + length sections ≤ length interfaces.comps →
      AreNamed (faults_from find comp sections)
  named_found find each comp [] few = tt
  named_found find each comp (section ∷ sections) few =
      named_append (find comp section) (faults_from find (suc comp) sections)
      (each comp section (within interfaces.comps comp (omega (arith, few))))
      (named_found find each (suc comp) sections (omega (arith, few)))

  first_named : (faults : List CompileFault) (fault : CompileFault) → AreNamed faults → first faults ≡ Some fault →
      IsNamed interfaces fault
  first_named [] fault all is = absurd (none-some fault is)
  first_named (found ∷ later) fault all is =
      let same : found ≡ fault = cc in
      subst (IsNamed interfaces) same all.0

-- the compartment is one of the program's
pub named_fault : (program : ProgramTree) → IsWellTyped program → (fault : CompileFault) → IsFaultOf program fault →
    IsNamed program.interfaces fault
named_fault program typed fault of =
    ⊎_elim (λ is. first_named program.interfaces all_faults fault all (large_of (too_large program)
    (built_image program) fault is)) (λ is. subst (IsNamed program.interfaces) (sym is) tt) of where
      few : 0 + length program.sections ≤ length program.interfaces.comps
      few = let as_many = sections_are program typed in omega (arith, as_many)

      all_faults : List CompileFault
      all_faults = faults_from large_data 0 program.sections ++
          (faults_from large_frames 0 program.sections ++ faults_from large_code 0 program.sections)

      all : AllByRecursion (IsNamed program.interfaces) all_faults
      all =
          named_append program.interfaces (faults_from large_data 0 program.sections)
          (faults_from large_frames 0 program.sections ++ faults_from large_code 0 program.sections)
          (named_found program.interfaces large_data (λ comp section is. named_above program.interfaces most_globals
          (data_size section) (DataTooLarge comp _) is) 0 program.sections few)
          (named_append program.interfaces (faults_from large_frames 0 program.sections)
          (faults_from large_code 0 program.sections)
          (named_found program.interfaces large_frames (λ comp section is. named_frames program.interfaces comp section
          section.functions is) 0 program.sections few)
          (named_found program.interfaces large_code (λ comp section is. named_above program.interfaces stretch
          (code_size section) (CodeTooLarge comp _) is) 0 program.sections few))

-- so it is why the program isn't compiled
printed_fault : (program : ProgramTree) (fault : CompileFault) → too_large program ≡ Some fault →
    IsCompiling program (of_compile_fault program.interfaces fault)
printed_fault program (CodeTooLarge comp bound) is = ap (option_and_then _) is
printed_fault program (DataTooLarge comp bytes) is = ap (option_and_then _) is
printed_fault program (FrameTooLarge comp function bound) is = ap (option_and_then _) is
printed_fault program OutOfMemory is = tt

pub why_not_compiled : (program : ProgramTree) (fault : CompileFault) → IsFaultOf program fault →
    IsCompiling program (of_compile_fault program.interfaces fault)
why_not_compiled program fault of =
    ⊎_elim (λ is. printed_fault program fault (large_of _ _ fault is))
    (λ is. subst (λ f. IsCompiling program (of_compile_fault program.interfaces f)) (sym is) tt) of

-- the same in two cases
pub in_two_cases : (program : ProgramTree) (fault : CompileFault) → IsFault program fault → IsFaultOf program fault
in_two_cases program (CodeTooLarge comp bound) is = inl is
in_two_cases program (DataTooLarge comp bytes) is = inl is
in_two_cases program (FrameTooLarge comp function bound) is = inl is
in_two_cases program OutOfMemory is = inr refl
