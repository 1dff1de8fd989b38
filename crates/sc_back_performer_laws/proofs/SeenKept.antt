-- A section that is kept among sections of which it sees the same is typed as before, and breaks no more rules.
use Rattle.sc_back_performer_laws.proofs.Common.{Bool, Decl, Each, ExportLine, Function, Global, HeadTree, ImportLine}
use Rattle.sc_back_performer_laws.proofs.Common.{List, None, Option, SectionTree, Some, Struct, Text, [], agrees_as}
use Rattle.sc_back_performer_laws.proofs.Common.{agrees_there, among, and_first, and_from, and_rest, ap, back_empty}
use Rattle.sc_back_performer_laws.proofs.Common.{bytes_eq, callees_of, decls_from, environment, environment_offers}
use Rattle.sc_back_performer_laws.proofs.Common.{export_holds, exports_from, false, function_names, head_holds, head_of}
use Rattle.sc_back_performer_laws.proofs.Common.{if◌then◌else◌, import_fits, import_holds, import_named, import_target}
use Rattle.sc_back_performer_laws.proofs.Common.{imported_agrees, imported_target, imports_from, input_name}
use Rattle.sc_back_performer_laws.proofs.Common.{is_environment, is_input_head, is_new, is_offered, is_output_head}
use Rattle.sc_back_performer_laws.proofs.Common.{is_plain}
use Rattle.sc_back_performer_laws.proofs.Common.{list_all, main_holds, not, number_by_name, offering, output_name}
use Rattle.sc_back_performer_laws.proofs.Common.{prefix_empty, proto_names, refl, rule_holds, same_text, subst, sym}
use Rattle.sc_back_performer_laws.proofs.Common.{target_or, true, typed_section, unless, ℕ, ◌&&◌, ◌++◌, ◌||◌, ◌∙◌, ◌∷◌}
use Rattle.sc_back_performer_laws.proofs.Common.{◌≡◌}
use Rattle.sc_ast.specs.declared.section.Decl.TheVariants.{Proto}
use Rattle.sc_types_elab.specs.Sections as elab
use Rattle.sc_back_performer_laws.proofs.Seen.{AreAlike, AreSeenAs, IsAlike, IsSeenAs, agrees_there_too, alike_self}
use Rattle.sc_back_performer_laws.proofs.Seen.{import_same, some_same}

-- a section at another line of the text
abbrev pub moved : ℕ → SectionTree → SectionTree
moved line tree = record tree { line = line }

pub moved_seen : (line : ℕ) (tree : SectionTree) → IsSeenAs tree (moved line tree)
moved_seen line tree = record {
  name = refl;
  exports = refl;
  imports = alike_self tree.imports;
  protos = refl;
  main = refl;
  agrees = λ head there agrees. agrees;
}

pub holds_rule : (b : Bool) (line : ℕ) → b ≡ true → unless b line ≡ []
holds_rule b line h = ap (λ t. unless t line) h

pub both_empty : {A : Type 0} (xs ys : List A) → xs ≡ [] → ys ≡ [] → xs ++ ys ≡ []
both_empty xs ys h k = λ i. h i ++ k i

module _ (olds news : List SectionTree) (all : AreSeenAs olds news) where
  -- Types.

  pub callees_same : (number line : ℕ) (tree : SectionTree) →
      callees_of news number (moved line tree) ≡ callees_of olds number tree
  callees_same number line tree = λ i. record {
    signature = (callees_of olds number tree).signature;
    target = λ name. target_or (number_by_name (function_names tree.decls) name)
        (targets (import_named name tree.imports) i);
  } where
    targets : (found : Option ImportLine) → imported_target news number found ≡ imported_target olds number found
    targets None = refl
    targets (Some at) =
        ap import_target (import_same number at at (record { comp = refl; name = refl }) olds news all)

  pub typed_same : (number line : ℕ) (tree : SectionTree) →
      typed_section (moved line tree) (callees_of news number (moved line tree)) ≡
      typed_section tree (callees_of olds number tree)
  unfolding elab.typed_locals elab.typed_structs
  typed_same number line tree = ap (typed_section tree) (callees_same number line tree)

  pub types_same : (line : ℕ) (tree : SectionTree) →
      elab.section_type_lines (moved line tree) (callees_of news 0 (moved line tree)) ≡
      elab.section_type_lines tree (callees_of olds 0 tree)
  types_same line tree = ap (elab.section_type_lines tree) (callees_same 0 line tree)

  -- Prototypes of what is imported.

  abbrev agrees_by : (olds : List SectionTree) → ℕ → SectionTree → HeadTree → ImportLine → Bool → Bool
  agrees_by all number section head line environs =
      if environs then (if bytes_eq head.name input_name then is_input_head head else
      if bytes_eq head.name output_name then is_output_head head else true)
      else agrees_there all number section head (offering number line 0 all)

  pub agrees_as_too : (number : ℕ) (old new : SectionTree) (head : HeadTree) (a b : ImportLine) → IsAlike a b →
      a.name ≡ head.name → agrees_as olds number old head a ≡ true → agrees_as news number new head b ≡ true
  agrees_as_too number old new head a b alike named h =
      ap (λ comp. agrees_by news number new head b (bytes_eq comp environment)) alike.comp ∙
      by (is_environment a) h where
        by : (e : Bool) → agrees_by olds number old head a e ≡ true → agrees_by news number new head b e ≡ true
        by true h = h
        by false h =
            agrees_there_too number a b alike olds news number number old new head named 0 olds news all h

  -- Imports, of sections that define no more functions.

  module _ (number : ℕ) (old new : SectionTree)
      (no_more : (name : Text) → among (function_names old.decls) name ≡ false →
      among (function_names new.decls) name ≡ false) where
    offered_too : (a b : ImportLine) → IsAlike a b → is_offered olds number old a ≡ true →
        is_offered news number new b ≡ true
    offered_too a b alike h =
        (λ i. if bytes_eq (alike.comp i) environment then environment_offers (alike.name i) else
        some_same number a b alike 0 olds news all i) ∙ h

    pub imports_hold : (before : List Text) (xs ys : List ImportLine) → AreAlike xs ys →
        Each (λ a. among (proto_names new.decls) a.name ≡ true) xs →
        imports_from olds number old before xs ≡ [] → imports_from news number new before ys ≡ []
    imports_hold before [] [] alike declared h = refl
    imports_hold before [] (b ∷ ys) alike declared h = absurd alike
    imports_hold before (a ∷ xs) [] alike declared h = absurd alike
    imports_hold before (a ∷ xs) (b ∷ ys) alike declared h =
        both_empty (unless (import_holds news number new before b) b.line) _
        (holds_rule (import_holds news number new before b) b.line
        (subst (λ n. import_fits (is_offered news number new b) (function_names new.decls)
        (proto_names new.decls) before (record b { name = n }) ≡ true) (sym alike.0.name) holds))
        (subst (λ n. imports_from news number new (before ++ n ∷ []) ys ≡ []) (sym alike.0.name)
        (imports_hold (before ++ a.name ∷ []) xs ys alike.1 declared.1
        (back_empty (unless (import_holds olds number old before a) a.line) _ h))) where
          was : import_holds olds number old before a ≡ true
          was = rule_holds (import_holds olds number old before a) a.line (prefix_empty _ _ h)

          after_offered : (is_new before a.name && (is_new (function_names old.decls) a.name &&
              (among (proto_names old.decls) a.name && is_plain a.name))) ≡ true
          after_offered = and_rest (is_offered olds number old a) _ was

          after_new : (is_new (function_names old.decls) a.name &&
              (among (proto_names old.decls) a.name && is_plain a.name)) ≡ true
          after_new = and_rest (is_new before a.name) _ after_offered

          not_again : (b : Bool) → not b ≡ true → b ≡ false
          not_again true q = sym q
          not_again false q = refl

          holds : import_fits (is_offered news number new b) (function_names new.decls)
              (proto_names new.decls) before (record b { name = a.name }) ≡ true
          holds =
              and_from (is_offered news number new b) _
              (offered_too a b alike.0 (and_first _ _ was))
              (and_from (is_new before a.name) _ (and_first _ _ after_offered)
              (and_from (is_new (function_names new.decls) a.name) _
              (ap not (no_more a.name (not_again _ (and_first _ _ after_new))))
              (and_from (among (proto_names new.decls) a.name) _ declared.0
              (and_rest (among (proto_names old.decls) a.name) _
              (and_rest (is_new (function_names old.decls) a.name) _ after_new)))))

  -- The declarations of a section that is kept.

  module _ (number line : ℕ) (old : SectionTree) where
    abbrev new : SectionTree
    new = moved line old

    pub exports_kept : (before : List Text) (lines : List ExportLine) →
        exports_from news number new before lines ≡ exports_from olds number old before lines
    exports_kept before [] = refl
    exports_kept before (export ∷ lines) =
        ap (λ rest. unless (export_holds olds number old before export) export.line ++ rest)
        (exports_kept (before ++ export.name ∷ []) lines)

    module _ (head : HeadTree) where
      as_kept : (import : ImportLine) → bytes_eq import.name head.name ≡ true →
          agrees_as olds number old head import ≡ true → agrees_as news number new head import ≡ true
      as_kept import named h =
          agrees_as_too number old new head import import (record { comp = refl; name = refl })
          (same_text import.name head.name named) h

      line_kept : (import : ImportLine) → (b : Bool) → bytes_eq import.name head.name ≡ b →
          (not b || agrees_as olds number old head import) ≡ true →
          (not b || agrees_as news number new head import) ≡ true
      line_kept import true named h = as_kept import named h
      line_kept import false named h = refl

      agrees_kept : (imports : List ImportLine) →
          list_all {X = ImportLine} (λ import. not (bytes_eq import.name head.name) ||
          agrees_as olds number old head import) imports ≡ true →
          list_all {X = ImportLine} (λ import. not (bytes_eq import.name head.name) ||
          agrees_as news number new head import) imports ≡ true
      agrees_kept [] h = refl
      agrees_kept (import ∷ imports) h =
          and_from (not (bytes_eq import.name head.name) || agrees_as news number new head import) _
          (line_kept import (bytes_eq import.name head.name) refl (and_first _ _ h))
          (agrees_kept imports (and_rest (not (bytes_eq import.name head.name) ||
          agrees_as olds number old head import) _ h))

    pub decls_kept : (mains : Bool) (before decls : List Decl) → decls_from olds number old mains before decls ≡ [] →
        decls_from news number new mains before decls ≡ []
    decls_kept mains before [] h = refl
    decls_kept mains before (Struct tree ∷ decls) h = decls_kept mains (before ++ Struct tree ∷ []) decls h
    decls_kept mains before (Global tree ∷ decls) h = decls_kept mains (before ++ Global tree ∷ []) decls h
    decls_kept mains before (Proto head ∷ decls) h =
        let was : (head_holds olds number old before head && imported_agrees olds number old head) ≡ true =
        rule_holds _ head.line (prefix_empty _ _ h) in
        both_empty (unless (head_holds news number new before head && imported_agrees news number new head) head.line) _
        (holds_rule (head_holds news number new before head && imported_agrees news number new head) head.line
        (and_from (head_holds news number new before head) _ (and_first _ _ was)
        (agrees_kept head old.imports (and_rest (head_holds olds number old before head) _ was))))
        (decls_kept mains (before ++ Proto head ∷ []) decls
        (back_empty (unless (head_holds olds number old before head && imported_agrees olds number old head) head.line)
        _ h))
    decls_kept mains before (Function tree ∷ decls) h =
        both_empty (unless (head_holds news number new before (head_of tree.head) &&
        main_holds mains (head_of tree.head)) tree.head.line) _
        (prefix_empty (unless (head_holds olds number old before (head_of tree.head) &&
        main_holds mains (head_of tree.head)) tree.head.line) _ h)
        (decls_kept mains (before ++ Function tree ∷ []) decls
        (back_empty (unless (head_holds olds number old before (head_of tree.head) &&
        main_holds mains (head_of tree.head)) tree.head.line) _ h))
