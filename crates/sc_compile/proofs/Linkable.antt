-- The codes of a program that isn't too large can be linked.
use Rattle.sc_compile.proofs.Common.{Bool, CodeTree, EachEmits, Fits, IsLinkable, IsProgram, IsTrue, IsWellTyped}
use Rattle.sc_compile.proofs.Common.{List, None, Option, ProgramTree, Proto, RefersInside, Some, TacFnTree}
use Rattle.sc_compile.proofs.Common.{TacSection, TacStmt, TacStmt-F, TacTree, TypedFunction, TypedSection, []}
use Rattle.sc_compile.proofs.Common.{all_codes, all_from, ap, arith, calls_exports, calls_own, cells, codes_at}
use Rattle.sc_compile.proofs.Common.{comp_at, cross_call_fits, everywhere, export_at, exports_are, exports_at}
use Rattle.sc_compile.proofs.Common.{exports_in, fits_or_none, function_code, function_tac, functions_in}
use Rattle.sc_compile.proofs.Common.{functions_or_none, inl, inr, instructions, is_some, length, length-map, lt-ltb}
use Rattle.sc_compile.proofs.Common.{map, map-TacStmt, most_globals, names_only, names_own_global, nat_lt, nodes}
use Rattle.sc_compile.proofs.Common.{option_map, own_call_fits, program_tac, refers_only, refl, same_Some}
use Rattle.sc_compile.proofs.Common.{section_at, section_or_none, section_tac, slice_get, slice_get-map}
use Rattle.sc_compile.proofs.Common.{slice_get_within, stretch, subst, suc, sym, too_large, total, true, ℕ, ◌*◌, ◌+◌}
use Rattle.sc_compile.proofs.Common.{◌<◌, ◌∙◌, ◌∷◌, ◌≡◌, ◌≤◌, ◌⊎◌}
use Rattle.sc_tac.specs.declared.stmt.TacStmt.TheOpen as tac
use Rattle.sc_emit.proofs.Passing.{AllPass, PassesHere, Test, implied_everywhere, passes}
use Rattle.sc_linker.proofs.Codes.{codes_none}
use Rattle.sc_emit_run_laws.proofs.Sections.{InSection, in_functions, its_section}
use Rattle.sc_compile.proofs.Codes.{codes_are, one_for_each}
use Rattle.sc_compile.proofs.Fitting.{code_fits, data_fits}
use Rattle.sc_compile.proofs.Names.{exports_few}
use Rattle.sc_compile.proofs.Tac.{functions_are, tac_at, tac_rules}
use Rattle.sc_compile.proofs.Lists.{mapped}

-- codes of fewer than 24 instructions a node leave room for a word more each
all_short : {A B : Type 0} (coded : B → CodeTree) (made : A → B) (size : A → ℕ) (xs : List A) →
    ((n : ℕ) (x : A) → slice_get xs n ≡ Some x → length (coded (made x)).instrs < 24 * size x) →
    length xs + instructions (map coded (map made xs)) ≤ 24 * total (map size xs)
all_short coded made size [] short = omega arith
all_short coded made size (x ∷ xs) short =
    omega (arith, short 0 x refl, all_short coded made size xs (λ n y is. short (suc n) y is))

own_there : (o : Option TacFnTree) (dest : Option ℕ) (count : ℕ) → own_call_fits o dest count ≡ true →
    (f : TacFnTree) × (o ≡ Some f)
own_there None dest count h = cc h
own_there (Some f) dest count h = (f, refl)

export_there : (o : Option Proto) (dest : Option ℕ) (count : ℕ) → cross_call_fits o dest count ≡ true →
    is_some o ≡ true
export_there None dest count h = cc h
export_there (Some proto) dest count h = refl

-- statements name what the rules of a program say, by the numbers of functions and globals
module _ (program : TacTree) (comp : ℕ) (section : TacSection) where
  abbrev function : ℕ → Bool
  function number = nat_lt number (length section.functions)

  abbrev entry : (to index : ℕ) → Bool
  entry to index = is_some (export_at program.interfaces to index)

  abbrev global : ℕ → Bool
  global number = nat_lt number (length section.globals)

  abbrev rules_of : List Test
  rules_of =
      names_own_global program.interfaces comp section ∷ calls_own program.interfaces comp section ∷
      calls_exports program.interfaces comp section ∷ []

  names_here : (layer : TacStmt-F TacStmt) → PassesHere rules_of layer →
      names_only function entry global (map-TacStmt _ _ (passes (names_only function entry global)) layer) ≡ true
  names_here (tac.Const dest value) h = refl
  names_here (tac.Copy dest from) h = refl
  names_here (tac.Op dest op left right) h = refl
  names_here (tac.ObjectPlace dest object) h = refl
  names_here (tac.GlobalPlace dest number) h = h.0
  names_here (tac.Load dest place pointer) h = refl
  names_here (tac.Store place value) h = refl
  names_here (tac.If cond first second) h = refl
  names_here (tac.Loop head body next) h = refl
  names_here tac.Break h = refl
  names_here tac.Continue h = refl
  names_here (tac.CallOwn dest number args) h =
      let found = own_there (slice_get section.functions number) dest (length args) h.1.0 in
      lt-ltb number (length section.functions) (slice_get_within section.functions number found.0 found.1)
  names_here (tac.CallCross dest to index args) h =
      export_there (export_at program.interfaces to index) dest (length args) h.1.1.0
  names_here (tac.Input dest) h = refl
  names_here (tac.Output value) h = refl
  names_here (tac.Alloc dest count words) h = refl
  names_here (tac.Free pointer) h = refl
  names_here (tac.Return value) h = refl

  pub names_all : (stmts : List TacStmt) → AllPass rules_of stmts →
      everywhere (names_only function entry global) stmts ≡ true
  names_all stmts all = implied_everywhere rules_of (names_only function entry global) names_here stmts all

module _ (program : ProgramTree) (typed : IsWellTyped program) (fits : too_large program ≡ None)
    (emitted : EachEmits program)
  where
    abbrev code : TacTree
    code = program_tac program

    abbrev codes : List CodeTree
    codes = all_codes code

    tac_by : (comp : ℕ) (o : Option TypedSection) → slice_get program.sections comp ≡ o →
        slice_get code.sections comp ≡ option_map (section_tac program.interfaces comp) o
    tac_by comp o is =
        tac_at program comp ∙ ap (option_map (section_tac program.interfaces comp)) is

    functions_so : (comp : ℕ) (section : TypedSection) → slice_get program.sections comp ≡ Some section →
        functions_in code comp ≡ map (function_tac program.interfaces comp section.structs) section.functions
    functions_so comp section is =
        ap functions_or_none (tac_by comp (Some section) is) ∙ functions_are program comp section

    its_code_is_short : (comp : ℕ) (section : TypedSection) → slice_get program.sections comp ≡ Some section →
        (n : ℕ) (f : TypedFunction) → slice_get section.functions n ≡ Some f →
        length (function_code (function_tac program.interfaces comp section.structs f)).instrs < 24 * nodes f
    its_code_is_short comp section is n f its =
        let lower : TypedFunction → TacFnTree = function_tac program.interfaces comp section.structs in
        (emitted comp n (lower f)
        (ap (λ fs. slice_get fs n) (functions_so comp section is) ∙ slice_get-map lower section.functions n
        ∙ ap (option_map lower) its)).short

    code_of_section : (comp : ℕ) (there : Fits program comp) →
        4 * (length (exports_at program comp) + instructions (codes_at program codes comp)) ≤ stretch
    code_of_section comp there =
        let lower : TypedFunction → TacFnTree =
        function_tac program.interfaces comp there.section.structs in
        let its : List CodeTree = map function_code (map lower there.section.functions) in
        let made : codes_at program codes comp ≡ its =
        codes_are program comp ∙ ap (map function_code) (functions_so comp there.section there.is) in
        let short : length there.section.functions + instructions its ≤ 24 * total (map nodes there.section.functions) =
        all_short function_code lower nodes there.section.functions
        (its_code_is_short comp there.section there.is) in
        omega (
          arith,
          ap instructions made,
          short,
          ap length (exports_are program comp there),
          exports_few program.interfaces comp there.interface there.section there.interface_fitting,
          code_fits program fits comp there.section there.is,
        )

    code_so : (comp : ℕ) →
        4 * (length (exports_at program comp) + instructions (codes_at program codes comp)) ≤ stretch
    code_so comp = by (fits_or_none program typed comp) where
      by : Fits program comp ⊎ ((comp_at program.interfaces comp ≡ None) × (slice_get program.sections comp ≡ None)) →
          4 * (length (exports_at program comp) + instructions (codes_at program codes comp)) ≤ stretch
      by (inl there) = code_of_section comp there
      by (inr none) =
          omega (
            arith,
            ap (λ o. length (exports_in o)) none.0,
            ap instructions (codes_none comp program.sections codes none.1),
          )

    -- GLOBALS
    globals_by : (comp : ℕ) (o : Option TypedSection) → slice_get program.sections comp ≡ o →
        4 * cells (section_or_none o).structs (section_or_none o).globals ≤ most_globals
    globals_by comp None is = omega arith
    globals_by comp (Some section) is = omega (arith, data_fits program fits comp section is)

    -- WHAT CODE REFERS TO
    counts_by : (comp : ℕ) (o : Option TypedSection) → slice_get program.sections comp ≡ o →
        (lowered : TacSection) → slice_get code.sections comp ≡ Some lowered →
        (length lowered.functions ≡ length (section_or_none o).functions)
        × (length lowered.globals ≡ length (section_or_none o).globals)
    counts_by comp None is lowered at =
        let never : None ≡ Some lowered = sym (tac_by comp None is) ∙ at in absurd (cc)
    counts_by comp (Some section) is lowered at =
        let same : lowered ≡ section_tac program.interfaces comp section =
        same_Some _ _ (sym at ∙ tac_by comp (Some section) is) in (
          ap (λ (s : TacSection). length s.functions) same
              ∙ ap (length {A = TacFnTree}) (functions_are program comp section)
              ∙ length-map section.functions (function_tac program.interfaces comp section.structs),
          ap (λ (s : TacSection). length s.globals) same,
        )

    abbrev Refers : (comp functions globals : ℕ) → CodeTree → Type 0
    Refers comp functions globals one =
        IsTrue (refers_only (λ number. nat_lt number functions)
        (λ to index. is_some (export_at program.interfaces to index)) (λ number. nat_lt number globals) one)

    refers : (comp number : ℕ) (f : TacFnTree) (at : InSection code comp number f) →
        slice_get (functions_in code comp) number ≡ Some f →
        Refers comp (length at.section.functions) (length at.section.globals) (function_code f)
    refers comp number f at its =
        let rules : IsProgram code = (tac_rules program typed).rules in
        (emitted comp number f its).names (function code comp at.section) (entry code comp at.section)
        (global code comp at.section)
        (names_all code comp at.section f.body (
          in_functions code (names_own_global program.interfaces) comp number f at rules.globals,
          (
            in_functions code (calls_own program.interfaces) comp number f at rules.own_calls,
            (in_functions code (calls_exports program.interfaces) comp number f at rules.cross_calls, tt),
          ),
        ))

    inside_at : (comp number : ℕ) (one : CodeTree) → slice_get (codes_at program codes comp) number ≡ Some one →
        RefersInside program comp one
    inside_at comp number one is =
        let found = mapped function_code (functions_in code comp) number one
        (ap (λ cs. slice_get cs number) (sym (codes_are program comp)) ∙ is) in
        let at : InSection code comp number found.0 = its_section code comp number found.0 found.1.0 in
        let counts = counts_by comp (slice_get program.sections comp) refl at.section at.here in
        subst (λ c. RefersInside program comp c) found.1.1
        (subst (λ globals. Refers comp (length (section_at program comp).functions) globals (function_code found.0))
        counts.1
        (subst (λ functions. Refers comp functions (length at.section.globals) (function_code found.0)) counts.0
        (refers comp number found.0 at found.1.0)))

    linkable : IsLinkable program codes
    linkable = record {
      each = one_for_each program;
      code = code_so;
      globals = λ comp. globals_by comp (slice_get program.sections comp) refl;
      inside = λ comp. all_from (RefersInside program comp) (codes_at program codes comp)
          (λ number one is. inside_at comp number one is);
    }

pub is_linkable : (program : ProgramTree) → IsWellTyped program → too_large program ≡ None → EachEmits program →
    IsLinkable program (all_codes (program_tac program))
is_linkable program typed fits emitted = linkable program typed fits emitted
