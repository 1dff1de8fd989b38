-- Functions of a program's denotations, by the program's tree.
use Rattle.sc_run.proofs.Common.{EntryAt, List, None, ProgramTree, TypedSection, [], ap, c_arith, denotations, function}
use Rattle.sc_run.proofs.Common.{functions_in, map, refl, slice_get, slice_index_or, suc, zero, ℕ, ◌∷◌, ◌≡◌}
use Rattle.sc_event.specs.declared.row.Entry.{Entry}

module _ (program : ProgramTree) where
  abbrev main : ℕ
  main = program.interfaces.main

  no_section : (sections : List TypedSection) (comp : ℕ) → slice_get sections comp ≡ None →
      slice_index_or (map (functions_in c_arith main) sections) comp [] ≡ []
  no_section [] comp h = refl
  no_section (s ∷ sections) zero h = cc h
  no_section (s ∷ sections) (suc comp) h = no_section sections comp h

  pub none_at : (comp number : ℕ) → slice_get program.sections comp ≡ None →
      function (denotations program) comp number ≡ None
  none_at comp number h = ap (λ fs. slice_get fs number) (no_section _ comp h)

-- a compartment that isn't there has no function
pub no_comp : (program : ProgramTree) (comp : ℕ) (entry : Entry) → slice_get program.sections comp ≡ None →
    EntryAt program comp entry None
no_comp program comp entry none = λ k e. none_at program comp k none
