-- In a text that breaks no rule of interfaces, a call by its name is typed as the call of its target.
use Rattle.sc_types.proofs.Common.{Bool, Callable, Callees, Decl, ExportLine, FunctionTree, HeadTree, ImportLine, List}
use Rattle.sc_types.proofs.Common.{None, SectionTree, Some, [], agree, agrees_as, agrees_there, agrees_with, allowed}
use Rattle.sc_types.proofs.Common.{and_first, any_passes_from_place, ap, arith, bytes_eq, callable_in, callees_of}
use Rattle.sc_types.proofs.Common.{declared, export_at, false, function_names, function_decls, head_crosses, head_named}
use Rattle.sc_types.proofs.Common.{head_of, heads_in, if◌then◌else◌, implied, import_named, import_names, import_of}
use Rattle.sc_types.proofs.Common.{import_target, imported_target, input_name, interface_of, interfaces_of, is_callable}
use Rattle.sc_types.proofs.Common.{is_environment, is_input_head, is_numbered, is_offered, is_output_head, is_some}
use Rattle.sc_types.proofs.Common.{known_in}
use Rattle.sc_types.proofs.Common.{list_any, list_any-append, map, not, offered, offering, option_map, option_signature}
use Rattle.sc_types.proofs.Common.{or_first, or_right, output_name, promised, proto_names, proto_signature, refl}
use Rattle.sc_types.proofs.Common.{same_import, same_text, signature_by, slice_get, slice_get-map, subst, sym, tags}
use Rattle.sc_types.proofs.Common.{target_or, target_signature, true, typed_section, ℕ, ◌++◌, ◌||◌, ◌∙◌, ◌∷◌, ◌≡◌}
use Rattle.sc_event.specs.declared.interface.Import.{Import}
use Rattle.sc_event.specs.declared.interface.Import.TheVariants as import
use Rattle.sc_core.specs.declared.ty.Ty.TheVariants as ty
use Rattle.sc_types.proofs.Lookups.{or_not, each_passes, Text, same_refl, eq_refl, each_at, FoundFunction}
use Rattle.sc_types.proofs.Lookups.{find_function, no_function, no_place, heads_of_functions, FoundHead, find_head}
use Rattle.sc_types.proofs.Facts.{ExportFacts, ImportFacts, DeclFacts, InterfaceFacts}
use Rattle.sc_types.proofs.Calls.{agreed_signature, input_signature, output_signature, FoundBy, own_at, FoundImport}
use Rattle.sc_types.proofs.Calls.{find_import, Offering, find_offering, found_export, export_is}

same_import_refl : (i : Import) → same_import i i ≡ true
same_import_refl import.Input = refl
same_import_refl import.Output = refl
same_import_refl (import.Function comp index) = cc (eq_refl comp, eq_refl index)

names_append : (a b : List Text) (name : Text) → is_numbered (a ++ b) name ≡ true → is_numbered a name ≡ false →
    is_numbered b name ≡ true
names_append a b name h q = grind (arith, list_any-append (bytes_eq name) a b)

module _ (sections : List SectionTree) (hold : (j : ℕ) (s : SectionTree) → slice_get sections j ≡ Some s →
    InterfaceFacts sections j s) (number : ℕ) (section : SectionTree)
    (there : slice_get sections number ≡ Some section) where
  abbrev pub callees : Callees
  callees = callees_of sections number section

  abbrev pub callable : Callable
  callable = callable_in (interfaces_of sections) (interface_of sections number section) (typed_section section callees)

  abbrev facts : InterfaceFacts sections number section
  facts = hold number section there

  -- what is imported is among the imports
  imported : (at : ℕ) (line : ImportLine) → slice_get section.imports at ≡ Some line →
      list_any (same_import (import_of sections number line)) callable.imports ≡ true
  imported at line got =
      any_passes_from_place (same_import (import_of _ number line)) (map (import_of _ number) section.imports) at
      (import_of sections number line) (slice_get-map (import_of _ number) section.imports at ∙
      ap (option_map _) got) (same_import_refl (import_of _ number line))

  module _ (name : Text) (f : FoundImport (ImportFacts sections number section) name section.imports)
      (h : FoundHead (DeclFacts sections number section facts.mains) name section.decls) where
    abbrev line : ImportLine
    line = f.line

    abbrev head : HeadTree
    head = h.head

    same_name : line.name ≡ head.name
    same_name = same_text _ name f.named ∙ sym (same_text _ name h.named)

    as_line : agrees_as sections number section head line ≡ true
    as_line = implied (bytes_eq line.name head.name) _
        (each_at (λ line. (not _ || agrees_as _ number section head line) ≡ true) _ f.at line
        (each_passes _ _ h.holds.1) f.got) (subst (λ n. bytes_eq _ n ≡ true) same_name (same_refl line.name))

    abbrev Goal : Import → Type 0
    Goal i = target_signature callable (import_target i) ≡ Some (signature_by (tags section) head)

    -- the environment's
    input_goal : import_of sections number line ≡ import.Input → is_input_head head ≡ true → Goal import.Input
    input_goal is agrees = ap (λ b. allowed b (Some (record { params = []; result = Some ty.Int })))
        (subst (λ i. list_any (same_import i) callable.imports ≡ true) is (imported f.at line f.got))
        ∙ ap Some (sym (input_signature _ head agrees))

    output_goal : import_of sections number line ≡ import.Output → is_output_head head ≡ true → Goal import.Output
    output_goal is agrees = ap (λ b. allowed b (Some (record { params = ty.Int ∷ []; result = None })))
        (subst (λ i. list_any (same_import i) callable.imports ≡ true) is (imported f.at line f.got))
        ∙ ap Some (sym (output_signature _ head agrees))

    abbrev import_by : Bool → Bool → Import
    import_by env input =
        if env then (if input then import.Input else import.Output) else offered line (offering number line 0 sections)

    abbrev agrees_by : Bool → Bool → Bool → Bool
    agrees_by env input output =
        if env then (if input then is_input_head head else if output then is_output_head head else true) else
        agrees_there sections number section head (offering number line 0 sections)

    abbrev offered_by : Bool → Bool → Bool → Bool
    offered_by env input output = if env then input || output else is_some (offering number line 0 sections)

    env_goal : (env input output : Bool) → is_environment line ≡ env → bytes_eq line.name input_name ≡ input →
        bytes_eq line.name output_name ≡ output → offered_by env input output ≡ true →
        agrees_by env input output ≡ true → (env ≡ false → Goal (import_of sections number line)) →
        Goal (import_of sections number line)
    env_goal true true output e i o off agrees f =
        let is : import_of sections number line ≡ import.Input = λ k. import_by (e k) (i k) in
        subst Goal (sym is) (input_goal is agrees)
    env_goal true false true e i o off agrees f =
        let is : import_of sections number line ≡ import.Output = λ k. import_by (e k) (i k) in
        subst Goal (sym is) (output_goal is agrees)
    env_goal true false false e i o off agrees f = cc
    env_goal false input output e i o off agrees f = f refl

    -- another section's
    module _ (o : Offering number line sections) (env : is_environment line ≡ false) where
      abbrev other : SectionTree
      other = o.section

      abbrev there_facts : InterfaceFacts sections o.number other
      there_facts = hold o.number other o.got

      abbrev export : FoundBy {A = ExportLine} (λ line. line.name) line.name other.exports
      export = found_export number line o

      abbrev export_line : ExportLine
      export_line = export.item

      export_name : line.name ≡ export_line.name
      export_name = same_text _ _ export.named

      defined : is_numbered (function_names other.decls) export_line.name ≡ true
      defined =
          (each_at (ExportFacts sections o.number other) other.exports export.at export_line there_facts.exports
          export.got).defined

      g : FoundFunction export_line.name (function_decls other.decls)
      g = find_function _ _ defined

      import_is : import_of sections number line ≡ import.Function o.number export.at
      import_is = cc (env, o.is, export.place)

      with_all : agrees_with (heads_in other.decls) head ≡ true
      with_all = sym (ap (agrees_there sections number section head) o.is)
          ∙ sym (ap (λ b. agrees_by b (bytes_eq head.name input_name) (bytes_eq head.name output_name)) env) ∙ as_line

      agrees : agree (head_of g.tree.head) head ≡ true
      agrees =
          implied (bytes_eq g.tree.head.name head.name) _
          (each_at (λ tree. (not (bytes_eq tree.head.name head.name) || agree (head_of tree.head) head) ≡ true)
          _ g.at g.tree (heads_of_functions (λ other. not _ || agree other head) other.decls with_all) g.got)
          (subst (λ n. bytes_eq g.tree.head.name n ≡ true) (sym export_name ∙ same_name) g.named)

      there_name : is_numbered (import_names section) head.name ≡ true
      there_name = any_passes_from_place (bytes_eq _) (import_names section) f.at line.name (slice_get-map _ _ f.at
          ∙ ap (option_map _) f.got) (subst (λ n. bytes_eq n _ ≡ true) same_name (same_refl line.name))

      head_is : head_crosses head ≡ true
      head_is = or_not _ _ h.holds.0 (or_right _ _ there_name)

      proto_is : export_at (interfaces_of sections) o.number export.at ≡ Some (promised export_line.name (Some g.tree))
      proto_is = cc (export_is sections o.number other export.at export_line o.got export.got, g.first)

      other_goal : Goal (import_of sections number line)
      other_goal = subst Goal (sym import_is) (ap (λ b. allowed b
          (option_signature proto_signature (export_at (interfaces_of sections) o.number export.at)))
          (subst (λ i. list_any (same_import i) callable.imports ≡ true) import_is (imported f.at line f.got))
          ∙ ap (option_signature proto_signature) proto_is
          ∙ ap Some (agreed_signature _ export_line.name g.tree head agrees head_is))

    offered_line : is_offered sections number section line ≡ true
    offered_line = f.holds.offered

    import_goal : Goal (import_of sections number line)
    import_goal = env_goal _ _ _ refl refl refl offered_line (ap (λ n. agrees_by (is_environment line) (bytes_eq n _)
        (bytes_eq n _)) same_name ∙ as_line) (λ env. other_goal (find_offering number line _ (sym (ap (λ b. offered_by b
        (bytes_eq line.name input_name) (bytes_eq line.name output_name)) env) ∙ offered_line)) env)

  -- by the name
  own_goal : (name : Text) → is_numbered (function_names section.decls) name ≡ true →
      target_signature callable (callees.target name) ≡ callees.signature name
  own_goal name h =
      let f = find_function name _ h in
      ap (λ n. target_signature callable (target_or n
      (imported_target sections number (import_named name section.imports)))) f.number ∙
      own_at section callees name f ∙ sym (ap (λ t.
      option_map (signature_by (tags section)) (or_first t (head_named name (heads_in section.decls)))) f.first)

  import_case : (name : Text) → is_numbered (function_names section.decls) name ≡ false →
      is_numbered (import_names section) name ≡ true →
      target_signature callable (callees.target name) ≡ callees.signature name
  import_case name none h =
      let f : FoundImport _ name _ = find_import _ name section.imports facts.imports h in
      let named = same_text f.line.name name f.named in
      let head = find_head (DeclFacts _ number section _) name _ facts.decls
      (subst (λ n. is_numbered (proto_names section.decls) n ≡ true) named f.holds.declared) none in
      ap (λ n. target_signature callable
      (target_or n (imported_target sections number (import_named name section.imports)))) (no_place _ name none)
      ∙ ap (λ l. target_signature callable (imported_target sections number l)) f.first ∙ import_goal name f head
      ∙ sym (λ i. option_map (signature_by (tags section)) (or_first (no_function name _ none i) (head.first i)))

  by_name : (name : Text) (b : Bool) → is_numbered (function_names section.decls) name ≡ b →
      is_numbered (function_names section.decls ++ import_names section) name ≡ true →
      target_signature callable (callees.target name) ≡ callees.signature name
  by_name name true q h = own_goal name q
  by_name name false q h = import_case name q (names_append _ _ name h q)

  -- what may be called has the signature of its target
  pub same_signature_called : (before : List Decl) (tree : FunctionTree) (name : Text) →
      is_callable (known_in (declared section before) tree) name ≡ true →
      target_signature callable (callees.target name) ≡ callees.signature name
  same_signature_called before tree name h = by_name name _ refl (and_first _ _ h)
