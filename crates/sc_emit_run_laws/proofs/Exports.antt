-- Each export of a program of code leads to a function.
use Rattle.sc_emit_run_laws.proofs.Common.{Bool, Export, ExportsLead, Interface, IsProgram, None, Option, Proto, Some}
use Rattle.sc_emit_run_laws.proofs.Common.{TacFnTree, TacSection, TacTree, and_parts, ap, are_headed, arith}
use Rattle.sc_emit_run_laws.proofs.Common.{code_denotations, comp_at, count, eqb-true, export_at, exports_entered}
use Rattle.sc_emit_run_laws.proofs.Common.{false, false≢true, function_entered, functions_in, functions_or_none}
use Rattle.sc_emit_run_laws.proofs.Common.{is_entered, is_some, is_there, leads, length, option_and_then, option_map_or}
use Rattle.sc_emit_run_laws.proofs.Common.{refl, same_entry, slice_get, slice_get_within, subst, true, wrapping, ℕ, ◌+◌}
use Rattle.sc_emit_run_laws.proofs.Common.{◌==◌, ◌∙◌, ◌≡◌}
use Rattle.sc_emit_run_laws.proofs.Sections.{entered_of, function_found, numbered_at}
use Rattle.sc_emit_run_laws.proofs.Start.{IsFirst, first_of}

-- what is tested is there
tested : {A : Type 0} (test : A → Bool) (o : Option A) → option_map_or test o false ≡ true → (x : A) × (o ≡ Some x)
tested test None h = absurd (false≢true h)
tested test (Some x) h = (x, refl)

looked_up : {A B : Type 0} (f : A → Option B) (o : Option A) (y : B) → option_and_then f o ≡ Some y →
    (x : A) × (o ≡ Some x)
looked_up f None y h = absurd (cc)
looked_up f (Some x) y h = (x, refl)

module _ (program : TacTree) (rules : IsProgram program) where
  -- the function of an export
  pub record IsExported (to index : ℕ) : Type 0 where
    pub number : ℕ
    pub f : TacFnTree
    pub enters : function_entered (Export index) (slice_get program.sections to) ≡ Some number
    pub its : slice_get (functions_in program to) number ≡ Some f

  exported_in : (to index : ℕ) (proto : Proto) (section : TacSection) → slice_get program.sections to ≡ Some section →
      is_entered (Export index) (length proto.params) (is_some proto.result) section ≡ true → IsExported to index
  exported_in to index proto section is entered =
      let test : TacFnTree → Bool = λ f. same_entry (Export index) f.entry in
      let parts = and_parts (count test section.functions == 1)
      (are_headed (Export index) (length proto.params) (is_some proto.result) section.functions) entered in
      let one : count test section.functions ≡ 1 = eqb-true (count test section.functions) 1 parts.0 in
      let first : IsFirst test section.functions = first_of test section.functions (omega (arith, one)) in
      record {
        number = first.number;
        f = first.it;
        enters = ap (function_entered (Export index)) is ∙ first.place;
        its = ap (λ o. slice_get (functions_or_none o) first.number) is ∙ first.its;
      }

  pub exported : (to index : ℕ) (proto : Proto) → export_at program.interfaces to index ≡ Some proto →
      IsExported to index
  exported to index proto export =
      let interface = looked_up (λ (found : Interface). slice_get found.exports index)
      (comp_at program.interfaces to) proto export in
      let section = is_there program.sections to
      (omega (arith, rules.sections, slice_get_within program.interfaces.comps to interface.0 interface.1)) in
      let same : 0 + to ≡ to = omega arith in
      let entered : exports_entered (comp_at program.interfaces to) section.0 ≡ true =
      subst (λ c. exports_entered (comp_at program.interfaces c) section.0 ≡ true) same
      (numbered_at (λ comp section. exports_entered (comp_at program.interfaces comp) section) 0 program.sections to
      section.0 rules.exported section.1) in
      exported_in to index proto section.0 section.1
      (entered_of program (comp_at program.interfaces to) index proto section.0 entered export)

  pub exports_lead : ExportsLead (code_denotations wrapping program)
  exports_lead to index count takes_so =
      let proto = tested (λ (found : Proto). length found.params == count) (export_at program.interfaces to index)
      takes_so in
      let it = exported to index proto.0 proto.1 in
      ap (leads (code_denotations wrapping program) to) it.enters ∙
      ap is_some (function_found program to it.number it.f it.its)
