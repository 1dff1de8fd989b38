-- What isn't too large: where nothing is found in a program, each section is within the limits.
use Rattle.sc_compile.proofs.Common.{Bool, CompileFault, List, None, ProgramTree, Some, TypedSection, [], above, arith}
use Rattle.sc_compile.proofs.Common.{code_size, data_size, false, first, faults_from, if◌then◌else◌, large_code}
use Rattle.sc_compile.proofs.Common.{large_data, large_frames, ltb-false, most_globals, nat_lt, refl, slice_get}
use Rattle.sc_compile.proofs.Common.{stretch, subst, suc, too_large, true, zero, ℕ, ◌++◌, ◌+◌, ◌∷◌, ◌≡◌, ◌≤◌}

pub prefix_none : (xs ys : List CompileFault) → xs ++ ys ≡ [] → xs ≡ []
prefix_none [] ys none = refl
prefix_none (x ∷ xs) ys none = absurd (cc)

pub rest_none : (xs ys : List CompileFault) → xs ++ ys ≡ [] → ys ≡ []
rest_none [] ys none = none
rest_none (x ∷ xs) ys none = absurd (cc)

none_first : (xs : List CompileFault) → first xs ≡ None → xs ≡ []
none_first [] none = refl
none_first (x ∷ xs) none = absurd (cc)

found_none : (find : ℕ → TypedSection → List CompileFault) (k number : ℕ) (sections : List TypedSection) (n : ℕ)
    (section : TypedSection) → number ≡ k + n → faults_from find k sections ≡ [] → slice_get sections n ≡ Some section →
    find number section ≡ []
found_none find k number [] n section e none is = absurd (cc)
found_none find k number (s ∷ sections) zero section e none is =
    let same : s ≡ section = cc in
    let own : k ≡ number = omega (arith, e) in
    subst (λ n. find n section ≡ []) own
    (subst (λ s. find k s ≡ []) same (prefix_none (find k s) (faults_from find (suc k) sections) none))
found_none find k number (s ∷ sections) (suc n) section e none is =
    found_none find (suc k) number sections n section (omega (arith, e))
    (rest_none (find k s) (faults_from find (suc k) sections) none) is

pub within : (limit size : ℕ) (fault : CompileFault) → above limit size fault ≡ [] → size ≤ limit
within limit size fault none = by (nat_lt limit size) refl none where
  by : (b : Bool) → nat_lt limit size ≡ b → (if b then fault ∷ [] else []) ≡ [] → size ≤ limit
  by true is none = absurd (cc)
  by false is none = ltb-false limit size is

module _ (program : ProgramTree) (fits : too_large program ≡ None) (comp : ℕ) (section : TypedSection)
    (is : slice_get program.sections comp ≡ Some section)
  where
    abbrev data_found : List CompileFault
    data_found = faults_from large_data 0 program.sections

    abbrev frames_found : List CompileFault
    frames_found = faults_from large_frames 0 program.sections

    abbrev code_found : List CompileFault
    code_found = faults_from large_code 0 program.sections

    nothing : data_found ++ (frames_found ++ code_found) ≡ []
    nothing = none_first (data_found ++ (frames_found ++ code_found)) fits

    pub data_fits : data_size section ≤ most_globals
    data_fits =
        within most_globals (data_size section) _
        (found_none large_data 0 comp program.sections comp section (omega arith)
        (prefix_none data_found (frames_found ++ code_found) nothing) is)

    pub code_fits : code_size section ≤ stretch
    code_fits =
        within stretch (code_size section) _
        (found_none large_code 0 comp program.sections comp section (omega arith)
        (rest_none frames_found code_found (rest_none data_found (frames_found ++ code_found) nothing)) is)

    pub frames_fit : large_frames comp section ≡ []
    frames_fit =
        found_none large_frames 0 comp program.sections comp section (omega arith)
        (prefix_none frames_found code_found (rest_none data_found (frames_found ++ code_found) nothing)) is
