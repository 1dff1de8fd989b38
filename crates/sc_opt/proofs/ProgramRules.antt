-- A program keeps the rules of programs where the code of its functions changes and keeps what each statement keeps.
use Rattle.std.proofs.Common.{Bool, List, None, Option, Some, [], ap, ap₂, is_some, length, map, not, refl}
use Rattle.std.proofs.Common.{slice_get, subst, suc, sym, true, ℕ, ◌&&◌, ◌+◌, ◌==◌, ◌||◌, ◌∙◌, ◌∷◌, ◌≡◌}
use Rattle.std.proofs.lemmas.Bool.{and_from}
use Rattle.std.proofs.lemmas.List.{length-map}
use Rattle.std.proofs.lemmas.Option.{slice_get-map}
use Rattle.std.specs.List.{list_all}
use Rattle.std.specs.Option.{option_map}
use Rattle.sc_base.proofs.Bools.{and_first, and_rest}
use Rattle.sc_event.specs.Prelude.{comp_at}
use Rattle.sc_event.specs.declared.interface.Interface.{Interface}
use Rattle.sc_event.specs.declared.interface.Interfaces.{Interfaces}
use Rattle.sc_event.specs.declared.interface.Proto.{Proto}
use Rattle.sc_event.specs.declared.row.Entry.{Entry}
use Rattle.sc_event.specs.declared.row.Entry.TheVariants.{Export, Main}
use Rattle.sc_core.specs.Value.{truth}
use Rattle.sc_tac.specs.Prelude.{IsProgram, are_entered, are_headed, calls_exports, calls_imports, calls_own, count}
use Rattle.sc_tac.specs.Prelude.{entry_known, everywhere, exports_entered, has_head, in_section, is_entered}
use Rattle.sc_tac.specs.Prelude.{main_entered}
use Rattle.sc_tac.specs.Prelude.{names_own_global, numbered, own_call_fits, same_entry}
use Rattle.sc_tac.specs.declared.function.TacFnTree.{TacFnTree}
use Rattle.sc_tac.specs.declared.program.TacSection.{TacSection}
use Rattle.sc_tac.specs.declared.program.TacTree.{TacTree}
use Rattle.sc_tac.specs.declared.stmt.TacStmt.{TacStmt, TacStmt-F}
use Rattle.sc_tac.specs.declared.stmt.TacStmt.TheOpen as tac
use Rattle.sc_opt.specs.Optimised.{changed_function, changed_program, changed_section}

-- LISTS
all_kept : {X : Type 0} (f : X → X) (p q : X → Bool) → ((x : X) → p x ≡ true → q (f x) ≡ true) → (xs : List X) →
    list_all p xs ≡ true → list_all q (map f xs) ≡ true
all_kept f p q keep [] h = refl
all_kept f p q keep (x ∷ xs) h = and_from (q (f x)) _ (keep x (and_first (p x) _ h))
    (all_kept f p q keep xs (and_rest (p x) _ h))

numbered_kept : (f : TacSection → TacSection) (p q : ℕ → TacSection → Bool) →
    ((comp : ℕ) (section : TacSection) → p comp section ≡ true → q comp (f section) ≡ true) → (first : ℕ)
    (sections : List TacSection) → numbered p first sections ≡ true → numbered q first (map f sections) ≡ true
numbered_kept f p q keep first [] h = refl
numbered_kept f p q keep first (section ∷ sections) h = and_from (q first (f section)) _
    (keep first section (and_first (p first section) _ h))
    (numbered_kept f p q keep (suc first) sections (and_rest (p first section) _ h))

module _ (change : List TacStmt → List TacStmt) where
  abbrev changed : TacFnTree → TacFnTree
  changed = changed_function change

  -- ENTRIES
  count_same : (entry : Entry) (fs : List TacFnTree) →
      count {X = TacFnTree} (λ f. same_entry entry f.entry) (map changed fs)
      ≡ count {X = TacFnTree} (λ f. same_entry entry f.entry) fs
  count_same entry [] = refl
  count_same entry (f ∷ fs) = ap (λ n. truth (same_entry entry f.entry) + n) (count_same entry fs)

  headed_same : (entry : Entry) (params : ℕ) (result : Bool) (fs : List TacFnTree) →
      are_headed entry params result (map changed fs) ≡ are_headed entry params result fs
  headed_same entry params result [] = refl
  headed_same entry params result (f ∷ fs) =
      ap (λ b. (not (same_entry entry f.entry) || has_head params result f) && b) (headed_same entry params result fs)

  entered_same : (entry : Entry) (params : ℕ) (result : Bool) (section : TacSection) →
      is_entered entry params result (changed_section change section) ≡ is_entered entry params result section
  entered_same entry params result section =
      ap₂ (λ n b. (n == 1) && b) (count_same entry section.functions)
      (headed_same entry params result section.functions)

  all_entered : (index : ℕ) (protos : List Proto) (section : TacSection) →
      are_entered index protos (changed_section change section) ≡ are_entered index protos section
  all_entered index [] section = refl
  all_entered index (proto ∷ protos) section =
      ap₂ (λ a b. a && b) (entered_same (Export index) (length proto.params) (is_some proto.result) section)
      (all_entered (suc index) protos section)

  exports_same : (interface : Option Interface) (section : TacSection) →
      exports_entered interface (changed_section change section) ≡ exports_entered interface section
  exports_same None section = refl
  exports_same (Some interface) section = all_entered 0 interface.exports section

  main_same : (section : Option TacSection) →
      main_entered (option_map (changed_section change) section) ≡ main_entered section
  main_same None = refl
  main_same (Some section) = entered_same Main 0 true section

  -- CALLS
  own_same : (f : Option TacFnTree) (dest : Option ℕ) (args : ℕ) →
      own_call_fits (option_map changed f) dest args ≡ own_call_fits f dest args
  own_same None dest args = refl
  own_same (Some f) dest args = refl

  calls_same : (interfaces : Interfaces) (comp : ℕ) (section : TacSection) (k : TacStmt-F Bool) →
      calls_own interfaces comp section k ≡ calls_own interfaces comp (changed_section change section) k
  calls_same interfaces comp section (tac.CallOwn dest function args) =
      sym (ap (λ f. own_call_fits f dest (length args)) (slice_get-map changed section.functions function)
      ∙ own_same (slice_get section.functions function) dest (length args))
  calls_same interfaces comp section _ = refl

  -- STATEMENTS
  abbrev Keeps : (TacStmt-F Bool → Bool) → Type 0
  Keeps test = (body : List TacStmt) → everywhere test body ≡ true → everywhere test (change body) ≡ true

  in_section_kept : (test other : TacStmt-F Bool → Bool) → ((k : TacStmt-F Bool) → test k ≡ other k) → Keeps test →
      (section : TacSection) → in_section test section ≡ true → in_section other (changed_section change section) ≡ true
  in_section_kept test other same keeps section h =
      let equal : test ≡ other = λ i k. same k i in
      subst (λ t. in_section t (changed_section change section) ≡ true) equal
      (all_kept {X = TacFnTree} changed (λ f. everywhere test f.body) (λ f. everywhere test f.body)
      (λ f. keeps f.body) section.functions h)

  -- what each statement keeps by itself
  pub record KeepsStatements : Type 0 where
    pub globals : (interfaces : Interfaces) (comp : ℕ) (section : TacSection) →
        Keeps (names_own_global interfaces comp section)
    pub own_calls : (interfaces : Interfaces) (comp : ℕ) (section : TacSection) →
        Keeps (calls_own interfaces comp section)
    pub cross_calls : (interfaces : Interfaces) (comp : ℕ) (section : TacSection) →
        Keeps (calls_exports interfaces comp section)
    pub imported : (interfaces : Interfaces) (comp : ℕ) (section : TacSection) →
        Keeps (calls_imports interfaces comp section)

  pub program_keeps_rules : (program : TacTree) → KeepsStatements → IsProgram program →
      IsProgram (changed_program change program)
  program_keeps_rules program keeps rules =
      let i = program.interfaces in
      let section_of = changed_section change in
      record {
        sections = length-map program.sections section_of ∙ rules.sections;
        numbers = numbered_kept section_of _ _ (λ comp section h. all_kept {X = TacFnTree} changed
            (λ f. f.comp == comp) (λ f. f.comp == comp) (λ f h. h) section.functions h) 0 program.sections
            rules.numbers;
        globals = numbered_kept section_of _ _ (λ comp section h. in_section_kept
            (names_own_global i comp section) (names_own_global i comp (section_of section)) (λ k. refl)
            (keeps.globals i comp section) section h) 0 program.sections rules.globals;
        own_calls = numbered_kept section_of _ _ (λ comp section h. in_section_kept
            (calls_own i comp section) (calls_own i comp (section_of section)) (calls_same i comp section)
            (keeps.own_calls i comp section) section h) 0 program.sections rules.own_calls;
        cross_calls = numbered_kept section_of _ _ (λ comp section h. in_section_kept
            (calls_exports i comp section) (calls_exports i comp (section_of section)) (λ k. refl)
            (keeps.cross_calls i comp section) section h) 0 program.sections rules.cross_calls;
        imported = numbered_kept section_of _ _ (λ comp section h. in_section_kept
            (calls_imports i comp section) (calls_imports i comp (section_of section)) (λ k. refl)
            (keeps.imported i comp section) section h) 0 program.sections rules.imported;
        exported = numbered_kept section_of _ _ (λ comp section h.
            exports_same (comp_at i comp) section ∙ h) 0 program.sections rules.exported;
        main_there = ap main_entered (slice_get-map section_of program.sections i.main)
            ∙ main_same (slice_get program.sections i.main) ∙ rules.main_there;
        entries = numbered_kept section_of _ _ (λ comp section h. all_kept {X = TacFnTree} changed
            (λ f. entry_known i comp f.entry) (λ f. entry_known i comp f.entry) (λ f h. h) section.functions h) 0
            program.sections rules.entries;
      }
