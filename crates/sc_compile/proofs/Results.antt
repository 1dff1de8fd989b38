-- What the functions of a program's code return: values of the kinds that their sources promise.
use Rattle.sc_compile.proofs.Common.{Export, GivesResults, Here, IsSome, IsWellTyped, Main, None, Option, Piece}
use Rattle.sc_compile.proofs.Common.{ProgramTree, Proto, Reached, Roles, Some, State, Stopped, TacFnTree}
use Rattle.sc_compile.proofs.Common.{TypedFunction, TypedSection, [], and_first, and_rest, ap, are_distinct, bodies}
use Rattle.sc_compile.proofs.Common.{bytes_eq, crossing, export_at, false, found_passes, function_entered}
use Rattle.sc_compile.proofs.Common.{function_tac, functions_in, functions_or_none, import_name, is_some}
use Rattle.sc_compile.proofs.Common.{main_fits, main_name, main_signature, main_so, map, named_so, of_section}
use Rattle.sc_compile.proofs.Common.{option_map, option_value, own_names_differ, piece_without_line, place_named}
use Rattle.sc_compile.proofs.Common.{program_tac, refl, same_results, same_signature, same_types, section_tac}
use Rattle.sc_compile.proofs.Common.{signature_of, slice_get, subst, sym, true, wrapping, ℕ, ◌∙◌, ◌≡◌}
use Rattle.sc_core.specs.declared.ty.Ty.{Ty}
use Rattle.sc_core.specs.declared.ty.Ty.TheVariants as ty
use Rattle.sc_core.specs.declared.value.Value.{Value}
use Rattle.sc_core.specs.declared.value.Value.TheVariants.{Null, Ptr, Word}
use Rattle.sc_core_kind_laws.specs.Kinds.{bodies_of, function_at, returns_kind, section_functions}
use Rattle.sc_core_kind_laws.proofs.Kinded.{results_have_kinds}
use Rattle.sc_compile.proofs.Lists.{mapped}
use Rattle.sc_compile.proofs.Tac.{functions_are, means_wrapped, tac_at}

-- two pieces that agree come to the same value
came_too : (o p : Piece (Option Value)) (v : Option Value) (t : State) →
    piece_without_line o ≡ piece_without_line p → p ≡ Reached v t → o ≡ Reached v t
came_too (Reached w s) p v t same is = same ∙ ap piece_without_line is
came_too (Stopped end s) p v t same is =
    let never : Stopped _ s ≡ Reached v t = same ∙ ap piece_without_line is in cc never

some_given : (v : Option Value) (result : Option Ty) → returns_kind result v ≡ true → is_some result ≡ true → IsSome v
some_given (Some v) result kind some = refl
some_given None None kind some = cc some
some_given None (Some t) kind some = cc kind

-- a value of a function of type `int`
word_given : (v : Option Value) → returns_kind (Some ty.Int) v ≡ true → (w : ℕ) × (v ≡ Some (Word w))
word_given None kind = cc kind
word_given (Some (Word w)) kind = (w, refl)
word_given (Some Null) kind = cc kind
word_given (Some (Ptr p)) kind = cc kind

int_only : (result : Option Ty) → same_results result (Some ty.Int) ≡ true → result ≡ Some ty.Int
int_only None h = cc h
int_only (Some ty.Int) h = refl
int_only (Some ty.Unsigned) h = cc h
int_only (Some (ty.Struct n)) h = cc h
int_only (Some (ty.Pointer stars base)) h = cc h
int_only (Some (ty.Array stars base length)) h = cc h

module _ (program : ProgramTree) (typed : IsWellTyped program) where
  -- a function of the code, with its source
  pub record Source (comp number : ℕ) (f : TacFnTree) : Type 0 where
    pub section : TypedSection
    pub is : slice_get program.sections comp ≡ Some section
    pub source : TypedFunction
    pub its : slice_get section.functions number ≡ Some source
    pub same : function_tac program.interfaces comp section.structs source ≡ f

  source_by : (comp number : ℕ) (f : TacFnTree) (o : Option TypedSection) → slice_get program.sections comp ≡ o →
      slice_get (functions_or_none (option_map (section_tac program.interfaces comp) o)) number ≡ Some f →
      Source comp number f
  source_by comp number f None is h = absurd (cc)
  source_by comp number f (Some section) is h =
      let found = mapped (function_tac program.interfaces comp section.structs) section.functions number f
      (ap (λ fs. slice_get fs number) (sym (functions_are program comp section)) ∙ h) in
      record { section = section; is = is; source = found.0; its = found.1.0; same = found.1.1 }

  pub source_of : (comp number : ℕ) (f : TacFnTree) →
      slice_get (functions_in (program_tac program) comp) number ≡ Some f → Source comp number f
  source_of comp number f h =
      source_by comp number f (slice_get program.sections comp) refl
      (ap (λ o. slice_get (functions_or_none o) number)
      (sym (tac_at program comp)) ∙ h)

  -- what code comes to its source comes to
  from_code : (roles : Roles) (open_calls number : ℕ) (here : Here) (s t : State) (v : Option Value) →
      bodies (program_tac program) roles open_calls number here s ≡ Reached v t →
      bodies_of wrapping program roles open_calls number here s ≡ Reached v t
  from_code roles open_calls number here s t v is =
      came_too (bodies_of wrapping program roles open_calls number here s)
      (bodies (program_tac program) roles open_calls number here s) v t
      ((means_wrapped program typed).bodies roles open_calls number here s).same is

  function_there : (comp number : ℕ) (section : TypedSection) (f : TypedFunction) →
      slice_get program.sections comp ≡ Some section → slice_get section.functions number ≡ Some f →
      function_at program comp number ≡ Some f
  function_there comp number section f is its = ap (λ o. slice_get (section_functions o) number) is ∙ its

  -- `main` is of type `int`
  main_int : (section : TypedSection) → slice_get program.sections program.interfaces.main ≡ Some section →
      (number : ℕ) → place_named main_name (Some section) ≡ Some number →
      (f : TypedFunction) × ((slice_get section.functions number ≡ Some f) × (f.result ≡ Some ty.Int))
  main_int section is number place =
      let found = found_passes (λ f. bytes_eq f.name main_name) section.functions number place in
      let fits = of_section program typed program.interfaces.main section is in
      let same : fits.section ≡ section = cc in
      let any : main_fits (Some section) ≡ true = subst (λ o. main_fits o ≡ true) is (main_so program typed) in
      let names = map (import_name program.interfaces) fits.interface.imports in
      let distinct = own_names_differ names fits.section.functions (and_first _ _ fits.interface_fitting) in
      let signature = named_so main_name (λ f. same_signature (signature_of f) main_signature) section.functions
      (subst (λ (s : TypedSection). are_distinct (map {A = TypedFunction} (λ f. f.name) s.functions) ≡ true) same
      distinct) any number found.item found.is found.passes in (
        found.item,
        (
          found.is,
          int_only found.item.result
              (and_rest (same_types (signature_of found.item).params []) _ signature),
        ),
      )

  module _ (roles : Roles) where
    given : (open_calls number : ℕ) (here : Here) (f : TacFnTree) (s t : State) (v : Option Value) →
        roles.scripted here.comp ≡ false → slice_get (functions_in (program_tac program) here.comp)
        number ≡ Some f →
        f.result ≡ true → bodies (program_tac program) roles open_calls number here s ≡ Reached v t → IsSome v
    given open_calls number here f s t v plain there result is =
        let from = source_of here.comp number f there in
        some_given v from.source.result
        (results_have_kinds.returned wrapping program typed roles open_calls number here from.source plain
        (function_there here.comp number from.section from.source from.is from.its) s t v
        (from_code roles open_calls number here s t v is))
        (ap (λ (g : TacFnTree). g.result) from.same ∙ result)

    crosses : (open_calls index number : ℕ) (here : Here) (proto : Proto) (s t : State) (v : Option Value) →
        roles.scripted here.comp ≡ false → export_at program.interfaces here.comp index ≡ Some proto →
        function_entered (Export index) (slice_get (program_tac program).sections here.comp) ≡ Some number →
        bodies (program_tac program) roles open_calls number here s ≡ Reached v t →
        option_value (crossing (Some proto) v) ≡ v
    crosses open_calls index number here proto s t v plain export entered is =
        results_have_kinds.crosses wrapping program typed roles open_calls index number here proto plain export
        ((means_wrapped program typed).entered here.comp (Export index) ∙ entered) s t v
        (from_code roles open_calls number here s t v is)

    ends : (open_calls number : ℕ) (here : Here) (s t : State) (v : Option Value) →
        roles.scripted here.comp ≡ false → here.comp ≡ program.interfaces.main →
        function_entered Main (slice_get (program_tac program).sections here.comp) ≡ Some number →
        bodies (program_tac program) roles open_calls number here s ≡ Reached v t →
        (w : ℕ) × (v ≡ Some (Word w))
    ends open_calls number here s t v plain main entered is =
        by (slice_get program.sections here.comp) refl
        ((means_wrapped program typed).entered here.comp Main ∙ entered) where
          by : (o : Option TypedSection) → slice_get program.sections here.comp ≡ o →
              place_named main_name o ≡ Some number → (w : ℕ) × (v ≡ Some (Word w))
          by None there place = absurd (cc)
          by (Some section) there place =
              let f = main_int section (subst (λ c. slice_get program.sections c ≡ Some section) main there) number
              place in
              word_given v (subst (λ r. returns_kind r v ≡ true) f.1.1
              (results_have_kinds.returned wrapping program typed roles open_calls number here f.0 plain
              (function_there here.comp number section f.0 there f.1.0) s t v
              (from_code roles open_calls number here s t v is)))

    pub gives_results : GivesResults (program_tac program) roles
    gives_results = record {
      given = given;
      crosses = crosses;
      ends = ends;
    }
