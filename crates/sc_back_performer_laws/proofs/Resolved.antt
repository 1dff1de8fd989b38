-- What the import lines of a text that keeps the rules lead to.
use Rattle.sc_back_performer_laws.proofs.Common.{Bool, Decl, Each, ExportFacts, ExportLine, FoundBy, FoundFunction}
use Rattle.sc_back_performer_laws.proofs.Common.{FunctionTree, HeadTree, Import, ImportLine, Interface, InterfaceFacts}
use Rattle.sc_back_performer_laws.proofs.Common.{Interfaces, List, Offering, Proto, SectionTree, Some, [], agree}
use Rattle.sc_back_performer_laws.proofs.Common.{agree_left, agree_symm, agrees_as, agrees_there, agrees_with}
use Rattle.sc_back_performer_laws.proofs.Common.{and_first, and_rest, ap, arith, back_empty, bytes_eq, bytes_eq_self}
use Rattle.sc_back_performer_laws.proofs.Common.{callees_of, comp_is, concat, counts_broken, crossing, defines_main}
use Rattle.sc_back_performer_laws.proofs.Common.{each_at, each_empty, environment, export_is, false, false≢true}
use Rattle.sc_back_performer_laws.proofs.Common.{find_offering, found_by, function_decls, g, globals_in, head_crosses}
use Rattle.sc_back_performer_laws.proofs.Common.{head_of, heads_in, if◌then◌else◌, implied, import_of, imported}
use Rattle.sc_back_performer_laws.proofs.Common.{input_name, input_proto, interface_broken, interfaces_of, is_at_most}
use Rattle.sc_back_performer_laws.proofs.Common.{is_environment, is_input_head, is_offered, is_output_head, is_plain}
use Rattle.sc_back_performer_laws.proofs.Common.{is_some}
use Rattle.sc_back_performer_laws.proofs.Common.{length, length-map, line_of_text, interface_lines_from, list_any, map}
use Rattle.sc_back_performer_laws.proofs.Common.{map_empty}
use Rattle.sc_back_performer_laws.proofs.Common.{most_compartments, most_exports, most_nodes, most_params, nat_le}
use Rattle.sc_back_performer_laws.proofs.Common.{none_beyond, none_some, not, number_or_zero, offered, offering}
use Rattle.sc_back_performer_laws.proofs.Common.{option_map_or, output_name, output_proto, owner_name, param_of}
use Rattle.sc_back_performer_laws.proofs.Common.{prefix_empty, promised, promised_name, refl, rule_holds, same_Some}
use Rattle.sc_back_performer_laws.proofs.Common.{same_text, scalar_of, section_interface_lines, slice_get, structs_in}
use Rattle.sc_back_performer_laws.proofs.Common.{subst, suc}
use Rattle.sc_back_performer_laws.proofs.Common.{sym, true, unless, zero, ℕ, ◌&&◌, ◌++◌, ◌+◌, ◌==◌, ◌||◌, ◌∙◌, ◌∷◌, ◌≡◌}
use Rattle.sc_back_performer_laws.proofs.Common.{◌≤◌}
use Rattle.sc_types_scope.specs.Prelude.{proto_of}
use Rattle.sc_event.specs.declared.interface.Import.TheVariants as import
use Rattle.sc_ast.specs.declared.section.Decl.TheVariants as decl
use Rattle.sc_types_interfaces.specs.Rules as interface_rules
use Rattle.sc_types.specs.Counts as counts
use Rattle.sc_types.proofs.Whole.{count_at, hold}
use Rattle.sc_back_performer_laws.proofs.Agreeing.{AreAgreed, all_agree, are_agreed, promise_declared}
use Rattle.sc_back_performer_laws.proofs.BackTree.{head_at}
use Rattle.sc_back_performer_laws.proofs.Uses.{IsAmong, first, later}

-- a function's head is one of its section's
head_there : (decls : List Decl) (i : ℕ) (tree : FunctionTree) → slice_get (function_decls decls) i ≡ Some tree →
    IsAmong (head_of tree.head) (heads_in decls)
head_there [] i tree got = none_some tree got
head_there (decl.Struct other ∷ decls) i tree got = head_there decls i tree got
head_there (decl.Global other ∷ decls) i tree got = head_there decls i tree got
head_there (decl.Proto head ∷ decls) i tree got = later head (heads_in decls) (head_there decls i tree got)
head_there (decl.Function other ∷ decls) zero tree got =
    subst (λ t. IsAmong (head_of tree.head) (head_of t.head ∷ heads_in decls)) (sym (same_Some other tree got))
    (first (heads_in decls))
head_there (decl.Function other ∷ decls) (suc i) tree got =
    later (head_of other.head) (heads_in decls) (head_there decls i tree got)

each_among : {A : Type 0} (P : A → Type 0) (x : A) (xs : List A) → Each P xs → IsAmong x xs → P x
each_among P x xs each (first rest) = each.0
each_among P x xs each (later y rest there) = each_among P x rest each.1 there

-- heads of one name that agree, agree with the same heads
pub with_alike : (heads : List HeadTree) (x y : HeadTree) → x.name ≡ y.name → agree x y ≡ true →
    agrees_with heads x ≡ true → agrees_with heads y ≡ true
with_alike heads x y name same h = sym (all_same heads) ∙ h where
  one_same : (other : HeadTree) → (not (bytes_eq other.name x.name) || agree other x) ≡
      (not (bytes_eq other.name y.name) || agree other y)
  one_same other = λ i. not (bytes_eq other.name (name i)) ||
      (agree_symm other x ∙ agree_left x y other same ∙ agree_symm y other) i

  all_same : (heads : List HeadTree) → agrees_with heads x ≡ agrees_with heads y
  all_same [] = refl
  all_same (other ∷ heads) = λ i. one_same other i && all_same heads i

agrees_among : (head x : HeadTree) (heads : List HeadTree) → agrees_with heads head ≡ true → IsAmong x heads →
    x.name ≡ head.name → agree x head ≡ true
agrees_among head x heads h (first rest) named =
    implied (bytes_eq x.name head.name) (agree x head) (and_first _ _ h)
    (subst (λ n. bytes_eq x.name n ≡ true) named (bytes_eq_self x.name))
agrees_among head x heads h (later y rest there) named =
    agrees_among head x rest (and_rest (not (bytes_eq y.name head.name) || agree y head) _ h) there named

-- What an export promises.
pub record IsPromised (section : SectionTree) (line : ExportLine) : Type 0 where
  pub tree : FunctionTree
  pub is : proto_of section line ≡ promised line.name (Some tree)
  pub named : tree.head.name ≡ line.name
  pub crosses : head_crosses (head_of tree.head) ≡ true
  pub agrees : agrees_with (heads_in section.decls) (head_of tree.head) ≡ true
  -- and so does each head of the name that agrees with all of them
  pub with_head : (head : HeadTree) → tree.head.name ≡ head.name → agrees_with (heads_in section.decls) head ≡ true →
      agree (head_of tree.head) head ≡ true
  pub few : length (proto_of section line).params ≤ 8

-- What an import line leads to.
pub record IsResolved (olds : List SectionTree) (number : ℕ) (old : SectionTree) (a : ImportLine) : Type 0 where
  pub f : Proto
  pub is : imported (interfaces_of olds) (import_of olds number a) ≡ Some f
  pub name : f.name ≡ a.name
  pub owner : owner_name (interfaces_of olds) (import_of olds number a) ≡ a.comp
  pub few : length f.params ≤ 8
  pub agrees : (line : ℕ) → agrees_as olds number old (head_at f line) a ≡ true

-- the rules of a section, by its number
pub record AreRules (olds : List SectionTree) (number : ℕ) (section : SectionTree) : Type 0 where
  pub mains : Bool
  pub before : List SectionTree
  pub hold : section_interface_lines olds number section mains before ≡ []

module _ (olds : List SectionTree) where
  abbrev interfaces : Interfaces
  interfaces = interfaces_of olds

  plus_zero : (n : ℕ) → n ≡ n + 0
  plus_zero n = omega arith

  plus_one : (n m : ℕ) → suc n + m ≡ n + suc m
  plus_one n m = omega arith

  rules_from : (k : ℕ) (before rest : List SectionTree) (j : ℕ) (section : SectionTree) →
      interface_lines_from olds k before rest ≡ [] → slice_get rest j ≡ Some section → AreRules olds (k + j) section
  rules_from k before [] j section h got = none_some section got
  rules_from k before (s ∷ rest) zero section h got =
      subst (λ n. AreRules olds n section) (plus_zero k)
      (subst (λ t. AreRules olds k t) (same_Some s section got) (record {
        mains = list_any defines_main before;
        before = before;
        hold = map_empty _ _ (prefix_empty _ _ h);
      }))
  rules_from k before (s ∷ rest) (suc j) section h got =
      subst (λ n. AreRules olds n section) (plus_one k j)
      (rules_from (suc k) (before ++ s ∷ []) rest j section
      (back_empty (map (line_of_text s.line) (section_interface_lines olds k s (list_any defines_main before) before)) _
      h) got)

  plus_none : (n : ℕ) → 0 + n ≡ n
  plus_none n = omega arith

  module _ (in_interfaces : interface_broken olds ≡ []) (in_counts : counts_broken olds ≡ []) where
    pub rules_at : (j : ℕ) (section : SectionTree) → slice_get olds j ≡ Some section → AreRules olds j section
    rules_at j section got =
        subst (λ n. AreRules olds n section) (plus_none j)
        (rules_from 0 [] olds j section (prefix_empty _ _ in_interfaces) got)

    abbrev pub facts_at : (j : ℕ) (section : SectionTree) → slice_get olds j ≡ Some section →
        InterfaceFacts olds j section
    facts_at = hold olds in_interfaces

    pub counted_at : (j : ℕ) (section : SectionTree) → slice_get olds j ≡ Some section →
        counts.section_count_lines section (callees_of olds j section) ≡ []
    counted_at =
        count_at olds (back_empty (counts.line_beyond {A = SectionTree}
        (λ section. line_of_text section.line 1) most_compartments olds) _ in_counts)

    module _ (j : ℕ) (section : SectionTree) (got : slice_get olds j ≡ Some section) where
      after_nodes : counts.line_beyond {A = ExportLine} (λ line. line.line) most_exports section.exports ++
          (counts.line_beyond {A = ImportLine} (λ line. line.line) most_exports section.imports ++
          (counts.structs_from section 0 (structs_in section.decls) ++
          (concat (map (counts.global_count_lines section) (globals_in section.decls)) ++
          (concat (map (counts.head_lines section) (heads_in section.decls)) ++
          concat (map (counts.function_count_lines section) (function_decls section.decls)))))) ≡ []
      after_nodes = back_empty (unless (nat_le (counts.section_nodes section (callees_of olds j section)) most_nodes &&
          nat_le (length section.decls) most_nodes) 1) _ (counted_at j section got)

      pub few_exports : length section.exports ≤ 4096
      few_exports =
          is_at_most (length section.exports) most_exports
          (none_beyond {A = ExportLine} (λ line. line.line) most_exports section.exports
          (prefix_empty _ _ after_nodes))

      after_exports : counts.line_beyond {A = ImportLine} (λ line. line.line) most_exports section.imports ++
          (counts.structs_from section 0 (structs_in section.decls) ++
          (concat (map (counts.global_count_lines section) (globals_in section.decls)) ++
          (concat (map (counts.head_lines section) (heads_in section.decls)) ++
          concat (map (counts.function_count_lines section) (function_decls section.decls))))) ≡ []
      after_exports =
          back_empty (counts.line_beyond {A = ExportLine} (λ line. line.line) most_exports section.exports) _
          after_nodes

      pub few_imports : length section.imports ≤ 4096
      few_imports =
          is_at_most (length section.imports) most_exports
          (none_beyond {A = ImportLine} (λ line. line.line) most_exports section.imports
          (prefix_empty _ _ after_exports))

      heads_few : concat (map (counts.head_lines section) (heads_in section.decls)) ≡ []
      heads_few =
          prefix_empty _ _ (back_empty (concat (map (counts.global_count_lines section) (globals_in section.decls))) _
          (back_empty (counts.structs_from section 0 (structs_in section.decls)) _
          (back_empty (counts.line_beyond {A = ImportLine} (λ line. line.line) most_exports section.imports) _
          after_exports)))

      pub agreed_at : AreAgreed [] (heads_in section.decls)
      agreed_at =
          let rules : AreRules olds j section = rules_at j section got in
          are_agreed olds j section rules.mains [] section.decls
          (back_empty (interface_rules.imports_from olds j section [] section.imports) _
          (back_empty (interface_rules.exports_from olds j section [] section.exports) _
          (back_empty (unless (interface_rules.name_holds olds j section rules.mains rules.before) 1) _ rules.hold)))

      module _ (index : ℕ) (line : ExportLine) (there : slice_get section.exports index ≡ Some line) where
        abbrev fact : ExportFacts olds j section line
        fact =
            each_at (ExportFacts olds j section) section.exports index line (facts_at j section got).exports there

        abbrev function : FoundFunction line.name (function_decls section.decls)
        function = g olds facts_at j section got index line there fact

        is_head : IsAmong (head_of function.tree.head) (heads_in section.decls)
        is_head = head_there section.decls function.at function.tree function.got

        promise_is : proto_of section line ≡ promised line.name (Some function.tree)
        promise_is = ap (promised line.name) function.first

        few_params : length (proto_of section line).params ≤ 8
        few_params =
            subst (λ f. length f.params ≤ 8) (sym promise_is)
            (subst (λ n. n ≤ 8) (length-map function.tree.head.params param_of ∙
            sym (length-map function.tree.head.params (λ param. scalar_of param.ty)))
            (is_at_most (length (head_of function.tree.head).params) most_params
            (rule_holds _ (head_of function.tree.head).line
            (each_among (λ head. counts.head_lines section head ≡ []) (head_of function.tree.head)
            (heads_in section.decls) (each_empty (counts.head_lines section) (heads_in section.decls) heads_few)
            is_head))))

        pub promised_at : IsPromised section line
        promised_at = record {
          tree = function.tree;
          is = promise_is;
          named = same_text function.tree.head.name line.name function.named;
          crosses = crossing olds facts_at j section got index line there fact;
          agrees = all_agree (head_of function.tree.head) [] (heads_in section.decls) agreed_at is_head;
          with_head = λ head named agrees. agrees_among head (head_of function.tree.head) (heads_in section.decls)
              agrees is_head named;
          few = few_params;
        }

    -- Imports.

    module _ (number : ℕ) (old : SectionTree) (a : ImportLine) where
      abbrev import_by : Bool → Bool → Import
      import_by env input =
          if env then (if input then import.Input else import.Output) else offered a (offering number a 0 olds)

      abbrev agrees_by : HeadTree → Bool → Bool
      agrees_by head env = if env then (if bytes_eq head.name input_name then is_input_head head else
          if bytes_eq head.name output_name then is_output_head head else true) else
          agrees_there olds number old head (offering number a 0 olds)

      abbrev offered_by : Bool → Bool → Bool → Bool
      offered_by env input output = if env then input || output else is_some (offering number a 0 olds)

      env_resolved : (import : Import) (f : Proto) → import_of olds number a ≡ import →
          imported interfaces import ≡ Some f → f.name ≡ a.name → owner_name interfaces import ≡ a.comp →
          length f.params ≤ 8 → ((line : ℕ) → agrees_as olds number old (head_at f line) a ≡ true) →
          IsResolved olds number old a
      env_resolved import f is leads name owner few agrees = record {
        f = f;
        is = ap (imported interfaces) is ∙ leads;
        name = name;
        owner = ap (owner_name interfaces) is ∙ owner;
        few = few;
        agrees = agrees;
      }

      other_resolved : is_environment a ≡ false → Offering number a olds → IsResolved olds number old a
      other_resolved env o =
          env_resolved (import.Function o.number export.at) f import_is
          (export_is olds o.number o.section export.at export.item o.got export.got) name
          (ap (λ c. option_map_or {T = Interface} (λ found. found.name) c []) (comp_is olds o.number o.section o.got) ∙
          same_text o.section.name a.comp (and_first _ _ o.offers))
          promise.few
          (λ line. ap (agrees_by (head_at f line)) env ∙
          ap (agrees_there olds number old (head_at f line)) o.is ∙
          with_alike (heads_in o.section.decls) (head_of promise.tree.head) (head_at f line)
          (promise.named ∙ sym (promised_name export.item.name _)) (same line) promise.agrees) where
            export : FoundBy {A = ExportLine} (λ line. line.name) a.name o.section.exports
            export =
                found_by {A = ExportLine} (λ line. line.name) a.name o.section.exports
                (and_rest (not (o.number == number)) _ (and_rest (bytes_eq o.section.name a.comp) _ o.offers))

            f : Proto
            f = proto_of o.section export.item

            promise : IsPromised o.section export.item
            promise = promised_at o.number o.section o.got export.at export.item export.got

            import_is : import_of olds number a ≡ import.Function o.number export.at
            import_is =
                ap (λ b. import_by b (bytes_eq a.name input_name)) env ∙ ap (offered a) o.is ∙
                ap (λ n. import.Function o.number (number_or_zero n)) export.place

            name : f.name ≡ a.name
            name = promised_name export.item.name _ ∙ sym (same_text a.name export.item.name export.named)

            same : (line : ℕ) → agree (head_of promise.tree.head) (head_at f line) ≡ true
            same line =
                subst (λ p. agree (head_of promise.tree.head) (head_at p line) ≡ true) (sym promise.is)
                (promise_declared export.item.name promise.tree promise.crosses line)

      pub resolved : is_offered olds number old a ≡ true → IsResolved olds number old a
      resolved =
          by (is_environment a) (bytes_eq a.name input_name) (bytes_eq a.name output_name) refl refl refl
        where
          by : (env input output : Bool) → is_environment a ≡ env → bytes_eq a.name input_name ≡ input →
              bytes_eq a.name output_name ≡ output → offered_by env input output ≡ true → IsResolved olds number old a
          by true true output e i o h =
              env_resolved import.Input input_proto (λ k. import_by (e k) (i k)) refl
              (sym (same_text a.name input_name i)) (sym (same_text a.comp environment e)) (omega arith)
              (λ line. ap (agrees_by (head_at input_proto line)) e)
          by true false true e i o h =
              env_resolved import.Output output_proto (λ k. import_by (e k) (i k)) refl
              (sym (same_text a.name output_name o)) (sym (same_text a.comp environment e)) (omega arith)
              (λ line. ap (agrees_by (head_at output_proto line)) e)
          by true false false e i o h = absurd (false≢true h)
          by false input output e i o h = other_resolved e (find_offering number a olds h)
