-- The directives of a made text: words that are lines, and what these come to.
use Rattle.sc_report_made.proofs.Common.{AllByRecursion, Bool, ExportLine, Headless, ImportLine, List, Nested, Piece}
use Rattle.sc_report_made.proofs.Common.{[], and_from, ap, append_assoc, ap₂, arith, codes, div-add-mod', even_export}
use Rattle.sc_report_made.proofs.Common.{even_import, export_at, export_headless, made_export, flat_map}
use Rattle.sc_report_made.proofs.Common.{flat_map-append, function_name, import_at, import_headless, made_import}
use Rattle.sc_report_made.proofs.Common.{kept_export, kept_import, list_all, map, name_plain, nested_append}
use Rattle.sc_report_made.proofs.Common.{nested_even, nested_line, nested_none, output_import, piece_text, plain_append}
use Rattle.sc_report_made.proofs.Common.{plain_then, refl, subst, sym, text_of, true, worker_name, workers, ℕ, ◌%◌}
use Rattle.sc_report_made.proofs.Common.{◌++◌, ◌<◌, ◌∙◌, ◌∷◌, ◌≡◌}
unfoldable use Rattle.sc_base.specs.Prelude.{is_name}
unfoldable use Rattle.sc_ast.specs.Prelude.{export_words, import_words}
use Rattle.sc_report_made.proofs.Spelled.{function_named, worker_named}

-- directives that are kept, come to this text, and open no bracket, and in whose text no compartment line stands
pub record AreDirectives (all_kept : Bool) (pieces : List Piece) (text : List ℕ) : Type 0 where
  pub kept : all_kept ≡ true
  pub spelled : text_of pieces ≡ text
  pub nested : Nested 0 pieces
  pub headless : (following : List ℕ) → Headless following → Headless (text ++ following)

abbrev pub ExportsWritten : List ExportLine → List ℕ → Type 0
ExportsWritten lines text = AreDirectives (list_all kept_export lines) (flat_map export_words lines) text

abbrev pub ImportsWritten : List ImportLine → List ℕ → Type 0
ImportsWritten lines text = AreDirectives (list_all kept_import lines) (flat_map import_words lines) text

abbrev pub AreLow : List ℕ → Type 0
AreLow js = AllByRecursion (λ j. j < 1000) js

pub no_directives : AreDirectives true [] []
no_directives = record { kept = refl; spelled = refl; nested = nested_none; headless = λ following h. h }

pub exports_are : (js : List ℕ) → AreLow js → ExportsWritten (map (λ j. export_at j 0) js) (flat_map made_export js)
unfolding export_words
exports_are [] low = no_directives
exports_are (j ∷ js) low =
    let rest = exports_are js low.1 in
    let name : List ℕ = function_name j in
    let named = function_named j low.0 in
    let texts : List ℕ = flat_map made_export js in
    let line : List ℕ = name ++ codes "\n" in
    record {
      kept = and_from (is_name name) (list_all kept_export (map (λ j. export_at j 0) js)) named rest.kept;
      spelled = ap (λ t. codes "#pragma export " ++ (name ++ 10 ∷ t)) rest.spelled ∙
          ap (λ t. codes "#pragma export " ++ t) (sym (append_assoc name (codes "\n") texts));
      nested = nested_even (even_export name named) (nested_line rest.nested);
      headless = λ following h. subst Headless (sym (append_assoc (made_export j) texts following))
          (export_headless (line ++ (texts ++ following)) (plain_then line (texts ++ following)
          (plain_append name (codes "\n") (name_plain name named) refl) (rest.headless following h)));
    }

-- an import line before others
module _ (comp name : List ℕ) (owner : is_name comp ≡ true) (named : is_name name ≡ true) where
  abbrev first : ImportLine
  first = record { comp = comp; name = name; line = 0 }

  abbrev after_mark : List ℕ
  after_mark = comp ++ (codes " " ++ (name ++ codes "\n"))

  first_spelled : text_of (import_words first) ≡ codes "#pragma import " ++ after_mark
  unfolding import_words
  first_spelled = ap (λ t. codes "#pragma import " ++ t)
      (append_assoc (comp ++ codes " ") name (codes "\n") ∙ append_assoc comp (codes " ") (name ++ codes "\n"))

  first_nested : Nested 0 (import_words first)
  unfolding import_words
  first_nested = nested_even (even_import comp name owner named) (nested_line nested_none)

  more_imports : (lines : List ImportLine) (text : List ℕ) → ImportsWritten lines text →
      ImportsWritten (first ∷ lines) ((codes "#pragma import " ++ after_mark) ++ text)
  more_imports lines text rest = record {
    kept = and_from (kept_import first) (list_all kept_import lines)
        (and_from (is_name comp) (is_name name) owner named) rest.kept;
    spelled = flat_map-append piece_text (import_words first) (flat_map import_words lines) ∙
        ap₂ (λ a b. a ++ b) first_spelled rest.spelled;
    nested = nested_append first_nested rest.nested;
    headless = λ following h. subst Headless
        (sym (append_assoc (codes "#pragma import " ++ after_mark) text following))
        (import_headless (after_mark ++ (text ++ following)) (plain_then after_mark (text ++ following)
        (plain_append comp (codes " " ++ (name ++ codes "\n")) (name_plain comp owner)
        (plain_append name (codes "\n") (name_plain name named) refl)) (rest.headless following h)));
  }

env_named : is_name (codes "Env") ≡ true
unfolding is_name
env_named = refl

output_named : is_name (codes "output") ≡ true
unfolding is_name
output_named = refl

pub main_named : is_name (codes "Main") ≡ true
unfolding is_name
main_named = refl

pub imports_are : (size : ℕ) (js : List ℕ) → AreLow js →
    ImportsWritten (map (λ j. import_at size j 0) js ++ output_import 0 ∷ [])
    (flat_map (made_import size) js ++ codes "#pragma import Env output\n")
imports_are size [] low = more_imports (codes "Env") (codes "output") env_named output_named [] [] no_directives
imports_are size (j ∷ js) low =
    let small : ℕ = j % workers size in
    let whole = div-add-mod' j (workers size) in
    let less : j < 1000 = low.0 in
    subst (ImportsWritten (map (λ j. import_at size j 0) (j ∷ js) ++ output_import 0 ∷ []))
    (sym (append_assoc (made_import size j) (flat_map (made_import size) js) (codes "#pragma import Env output\n")))
    (more_imports (worker_name small) (function_name j) (worker_named small (omega (arith, whole, less)))
    (function_named j less) (map (λ j. import_at size j 0) js ++ output_import 0 ∷ [])
    (flat_map (made_import size) js ++ codes "#pragma import Env output\n") (imports_are size js low.1))
