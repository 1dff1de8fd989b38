-- The functions of a program by their numbers, and what its rules say of each.
use Rattle.sc_emit_run_laws.proofs.Common.{Bool, Export, Interface, IsFunction, IsProgram, List, None, Option, Proto}
use Rattle.sc_emit_run_laws.proofs.Common.{Some, TacFnTree, TacSection, TacStmt-F, TacTree, [], and_parts, ap}
use Rattle.sc_emit_run_laws.proofs.Common.{are_entered, are_headed, arith, code_denotations, code_function}
use Rattle.sc_emit_run_laws.proofs.Common.{code_functions, comp_at, enters_by_words, eqb-true, everywhere, export_at}
use Rattle.sc_emit_run_laws.proofs.Common.{exports_entered, function, function_entered, functions_in, functions_or_none}
use Rattle.sc_emit_run_laws.proofs.Common.{get_or_from_slice_get, has_head, in_section, is_entered, is_some, length}
use Rattle.sc_emit_run_laws.proofs.Common.{list_all, map, not, numbered, option_and_then, option_map, passes_words}
use Rattle.sc_emit_run_laws.proofs.Common.{position, position-Some, refl, same_Some, same_entry, slice_get}
use Rattle.sc_emit_run_laws.proofs.Common.{slice_get-map, slice_index_or, subst, suc, sym, true, wrapping, zero, ℕ, ◌+◌}
use Rattle.sc_emit_run_laws.proofs.Common.{◌==◌, ◌||◌, ◌∙◌, ◌∷◌, ◌≡◌}
use Rattle.sc_event.specs.declared.row.Entry.{Entry}

-- Lists.

pub all_at : {X : Type 0} (test : X → Bool) (xs : List X) (i : ℕ) (x : X) → list_all test xs ≡ true →
    slice_get xs i ≡ Some x → test x ≡ true
all_at test [] i x h e = cc e
all_at test (y ∷ ys) zero x h e =
    subst (λ x. test x ≡ true) (same_Some y x e) (and_parts (test y) (list_all test ys) h).0
all_at test (y ∷ ys) (suc i) x h e = all_at test ys i x (and_parts (test y) (list_all test ys) h).1 e

pub numbered_at : (test : ℕ → TacSection → Bool) (first : ℕ) (sections : List TacSection) (k : ℕ)
    (section : TacSection) → numbered test first sections ≡ true → slice_get sections k ≡ Some section →
    test (first + k) section ≡ true
numbered_at test first [] k section h e = cc e
numbered_at test first (one ∷ others) zero section h e =
    let here : first ≡ first + 0 = omega arith in
    subst (λ c. test c section ≡ true) here
    (subst (λ section. test first section ≡ true) (same_Some one section e)
    (and_parts (test first one) (numbered test (suc first) others) h).0)
numbered_at test first (one ∷ others) (suc k) section h e =
    let there : suc first + k ≡ first + suc k = omega arith in
    subst (λ c. test c section ≡ true) there
    (numbered_at test (suc first) others k section (and_parts (test first one) (numbered test (suc first) others) h).1
    e)

pub position_at : {X : Type 0} (test : X → Bool) (xs : List X) (i : ℕ) (x : X) → position test xs ≡ Some i →
    slice_get xs i ≡ Some x → test x ≡ true
position_at test xs i x at e =
    subst (λ y. test y ≡ true) (get_or_from_slice_get xs i x x e) (position-Some test xs i x at).1

-- the function that an entry of a program leads to, as a call sees it
functions_are : (sections : List TacSection) (comp : ℕ) →
    slice_index_or (map (code_functions wrapping) sections) comp [] ≡
    map (code_function wrapping) (functions_or_none (slice_get sections comp))
functions_are [] comp = refl
functions_are (section ∷ sections) zero = refl
functions_are (section ∷ sections) (suc comp) = functions_are sections comp

module _ (program : TacTree) where
  pub function_is : (comp number : ℕ) → function (code_denotations wrapping program) comp number ≡
      option_map (code_function wrapping) (slice_get (functions_in program comp) number)
  function_is comp number =
      ap (λ fs. slice_get fs number) (functions_are program.sections comp) ∙
      slice_get-map (code_function wrapping) (functions_in program comp) number

  pub function_found : (comp number : ℕ) (f : TacFnTree) → slice_get (functions_in program comp) number ≡ Some f →
      function (code_denotations wrapping program) comp number ≡ Some (code_function wrapping f)
  function_found comp number f e = function_is comp number ∙ ap (option_map (code_function wrapping)) e

  -- a function of a section
  pub record InSection (comp number : ℕ) (f : TacFnTree) : Type 0 where
    pub section : TacSection
    pub here : slice_get program.sections comp ≡ Some section
    pub its : slice_get section.functions number ≡ Some f

  in_section_by : (comp number : ℕ) (f : TacFnTree) (o : Option TacSection) → slice_get program.sections comp ≡ o →
      slice_get (functions_or_none o) number ≡ Some f → InSection comp number f
  in_section_by comp number f None e at = cc at
  in_section_by comp number f (Some section) e at = record { section = section; here = e; its = at }

  pub its_section : (comp number : ℕ) (f : TacFnTree) → slice_get (functions_in program comp) number ≡ Some f →
      InSection comp number f
  its_section comp number f e = in_section_by comp number f (slice_get program.sections comp) refl e

  -- what holds of each section's functions
  pub in_functions : (test : ℕ → TacSection → TacStmt-F Bool → Bool) (comp number : ℕ) (f : TacFnTree)
      (its : InSection comp number f) →
      numbered (λ comp section. in_section (test comp section) section) 0 program.sections ≡ true →
      everywhere (test comp its.section) f.body ≡ true
  in_functions test comp number f its h =
      let same : 0 + comp ≡ comp = omega arith in
      all_at (λ (f : TacFnTree). everywhere (test comp its.section) f.body) its.section.functions number f
      (subst (λ c. in_section (test c its.section) its.section ≡ true) same
      (numbered_at (λ comp section. in_section (test comp section) section) 0 program.sections comp its.section h
      its.here)) its.its

  -- The function that an export leads to.

  -- it takes as many words as the prototype says
  pub record IsEntered (f : TacFnTree) (proto : Proto) : Type 0 where
    pub takes : f.params ≡ length proto.params
    pub words : passes_words f.params f.objects ≡ true

  headed : (index params : ℕ) (result : Bool) (f : TacFnTree) → same_entry (Export index) f.entry ≡ true →
      (not (same_entry (Export index) f.entry) || has_head params result f) ≡ true → f.params ≡ params
  headed index params result f is h =
      let head : has_head params result f ≡ true =
      subst (λ b. (not b || has_head params result f) ≡ true) is h in
      eqb-true f.params params (and_parts (f.params == params) _ head).0

  entered_at : (from index : ℕ) (protos : List Proto) (proto : Proto) (section : TacSection) →
      are_entered from protos section ≡ true → slice_get protos index ≡ Some proto →
      is_entered (Export (from + index)) (length proto.params) (is_some proto.result) section ≡ true
  entered_at from index [] proto section h e = cc e
  entered_at from zero (one ∷ others) proto section h e =
      let here : from ≡ from + 0 = omega arith in
      subst (λ n. is_entered (Export n) (length proto.params) (is_some proto.result) section ≡ true) here
      (subst (λ (proto : Proto). is_entered (Export from) (length proto.params) (is_some proto.result) section ≡ true)
      (same_Some one proto e)
      (and_parts (is_entered (Export from) (length one.params) (is_some one.result) section)
      (are_entered (suc from) others section) h).0)
  entered_at from (suc index) (one ∷ others) proto section h e =
      let there : suc from + index ≡ from + suc index = omega arith in
      subst (λ n. is_entered (Export n) (length proto.params) (is_some proto.result) section ≡ true) there
      (entered_at (suc from) index others proto section
      (and_parts (is_entered (Export from) (length one.params) (is_some one.result) section)
      (are_entered (suc from) others section) h).1 e)

  pub entered_of : (interface : Option Interface) (index : ℕ) (proto : Proto) (section : TacSection) →
      exports_entered interface section ≡ true →
      option_and_then (λ found. slice_get found.exports index) interface ≡ Some proto →
      is_entered (Export index) (length proto.params) (is_some proto.result) section ≡ true
  entered_of None index proto section h e = cc h
  entered_of (Some interface) index proto section h e =
      let same : 0 + index ≡ index = omega arith in
      subst (λ n. is_entered (Export n) (length proto.params) (is_some proto.result) section ≡ true) same
      (entered_at 0 index interface.exports proto section h e)

  words_at : (entry : Option Entry) (index params : ℕ) (objects : List ℕ) → same_entry (Export index) entry ≡ true →
      enters_by_words entry params objects ≡ true → passes_words params objects ≡ true
  words_at None index params objects is h = cc is
  words_at (Some entry) index params objects is h = h

  module _ (rules : IsProgram program)
      (functions : (comp number : ℕ) (f : TacFnTree) → slice_get (functions_in program comp) number ≡ Some f →
      IsFunction f) where
    pub is_export : (to index number : ℕ) (proto : Proto) (f : TacFnTree) →
        export_at program.interfaces to index ≡ Some proto →
        function_entered (Export index) (slice_get program.sections to) ≡ Some number →
        slice_get (functions_in program to) number ≡ Some f → IsEntered f proto
    is_export to index number proto f export enters its =
        let at : InSection to number f = its_section to number f its in
        let test : TacFnTree → Bool = λ f. same_entry (Export index) f.entry in
        let is : same_entry (Export index) f.entry ≡ true =
        position_at test at.section.functions number f (sym (ap (function_entered (Export index)) at.here) ∙ enters)
        at.its in
        let same : 0 + to ≡ to = omega arith in
        let entered : exports_entered (comp_at program.interfaces to) at.section ≡ true =
        subst (λ c. exports_entered (comp_at program.interfaces c) at.section ≡ true) same
        (numbered_at (λ comp section. exports_entered (comp_at program.interfaces comp) section) 0 program.sections to
        at.section rules.exported at.here) in
        let heads = (and_parts _ (are_headed (Export index) (length proto.params) (is_some proto.result)
        at.section.functions)
        (entered_of (comp_at program.interfaces to) index proto at.section entered export)).1 in
        record {
          takes = headed index (length proto.params) (is_some proto.result) f is
              (all_at (λ (f : TacFnTree). not (same_entry (Export index) f.entry) ||
              has_head (length proto.params) (is_some proto.result) f) at.section.functions number f heads at.its);
          words = words_at f.entry index f.params f.objects is (functions to number f its).words_enter;
        }
