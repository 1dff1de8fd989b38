-- Directives are read exactly as they are spelled.
use Rattle.sc_parse.proofs.Common.{Directives, ExportLine, ImportLine, Lexeme, Line, List, Some, SpellsDirectives}
use Rattle.sc_parse.proofs.Common.{Symbol, [], ap, append-nil, append_assoc, arith, directives, drop, export}
use Rattle.sc_parse.proofs.Common.{export_line, import_line, length, line_at, line_by, lines_at, none-some, refl}
use Rattle.sc_parse.proofs.Common.{same_some, subst, suc, sym, with_line, zero, ℕ, ◌++◌, ◌<◌, ◌∙◌, ◌∷◌, ◌≡◌}
use Rattle.sc_parse.proofs.Exact.{given, same_pair}
use Rattle.sc_parse_expr.specs.declared.lexeme.Symbol.TheVariants as symbol
use Rattle.sc_parse.specs.declared.section.Line.TheVariants as line
use Rattle.sc_parse.specs.Sections.{none}
use Rattle.sc_parse.specs.Sections as sections
use Rattle.sc_parse.proofs.Beginnings.{NoLine}

-- A lexeme that is a directive.
data IsLine (t : Lexeme) : Line → Type 0 where
  is_export : (name : List ℕ) → t.symbol ≡ symbol.Export name → IsLine t (line.Export (export_line name t.line))
  is_import : (comp name : List ℕ) → t.symbol ≡ symbol.Import comp name →
      IsLine t (line.Import (import_line comp name t.line))

line_is : (t : Lexeme) (l : Line) → line_by t.symbol t.line ≡ Some l → IsLine t l
line_is t l h = go t.symbol refl h
  where
    go : (s : Symbol) → t.symbol ≡ s → line_by s t.line ≡ Some l → IsLine t l
    go (symbol.Export name) q e = subst (IsLine t) (same_some e) (is_export name q)
    go (symbol.Import comp name) q e = subst (IsLine t) (same_some e) (is_import comp name q)
    go _ q e = absurd (none-some l e)

-- the lexemes begin with a directive
record Ahead (ts : List Lexeme) (l : Line) : Type 0 where
  first : Lexeme
  is : ts ≡ first ∷ drop 1 ts
  line : IsLine first l

line_ahead : (ts : List Lexeme) (l : Line) → line_at ts ≡ Some l → Ahead ts l
line_ahead [] l h = absurd (none-some l h)
line_ahead (t ∷ ts) l h = record { first = t; is = refl; line = line_is t l h }

-- A prefix of the lexemes, with the directives that it adds to those found before.
pub record Directed (found : Directives) (ts : List Lexeme) (all : Directives) (rest : List Lexeme) : Type 0 where
  pub taken : List Lexeme
  pub exports : List ExportLine
  pub imports : List ImportLine
  pub split : ts ≡ taken ++ rest
  pub spelled : SpellsDirectives taken exports imports
  pub all_exports : all.exports ≡ found.exports ++ exports
  pub all_imports : all.imports ≡ found.imports ++ imports

one_more : {t : Lexeme} {l : Line} (d : IsLine t l) (found : Directives) (ts us : List Lexeme) (all : Directives)
    (rest : List Lexeme) → ts ≡ t ∷ us → Directed (with_line found l) us all rest → Directed found ts all rest
one_more {t} (is_export name p) found ts us all rest is others = record {
  taken = t ∷ others.taken;
  exports = export_line name t.line ∷ others.exports;
  imports = others.imports;
  split = is ∙ ap (λ l. t ∷ l) others.split;
  spelled = export t name p others.spelled;
  all_exports = others.all_exports ∙ append_assoc found.exports (export_line name t.line ∷ []) others.exports;
  all_imports = others.all_imports;
}
one_more {t} (is_import comp name p) found ts us all rest is others = record {
  taken = t ∷ others.taken;
  exports = others.exports;
  imports = import_line comp name t.line ∷ others.imports;
  split = is ∙ ap (λ l. t ∷ l) others.split;
  spelled = sections.«import» t comp name p others.spelled;
  all_exports = others.all_exports;
  all_imports = others.all_imports ∙ append_assoc found.imports (import_line comp name t.line ∷ []) others.imports;
}

pub lines_sound : (turns : ℕ) (found all : Directives) (ts rest : List Lexeme) →
    lines_at turns found ts ≡ Some (all, rest) → Directed found ts all rest
unfolding lines_at
lines_sound zero found all ts rest h = absurd (none-some _ h)
lines_sound (suc turns) found all ts rest h = given _ _ _ h (λ q e.
    let same = same_pair e in
    record {
      taken = [];
      exports = [];
      imports = [];
      split = same.1;
      spelled = none;
      all_exports = ap (λ f. f.exports) (sym same.0) ∙ sym (append-nil found.exports);
      all_imports = ap (λ f. f.imports) (sym same.0) ∙ sym (append-nil found.imports);
    }) (λ l q e.
    let a = line_ahead ts l q in
    one_more a.line found ts (drop 1 ts) all rest a.is (lines_sound turns (with_line found l) all (drop 1 ts) rest e))

pub lines_complete : {ts : List Lexeme} {exports : List ExportLine} {imports : List ImportLine}
    (d : SpellsDirectives ts exports imports) (turns : ℕ) (before : List ExportLine) (ahead : List ImportLine)
    (rest : List Lexeme) → length ts < turns → NoLine rest → lines_at turns (directives before ahead) (ts ++ rest) ≡
    Some (directives (before ++ exports) (ahead ++ imports), rest)
unfolding lines_at
lines_complete none zero before ahead rest h stop = absurd (omega arith)
lines_complete none (suc turns) before ahead rest h stop = rw (stop, append-nil before, append-nil ahead)
lines_complete (export t name p d) zero before ahead rest h stop = absurd (omega arith)
lines_complete (export {exports = exports} {imports = imports} t name p d) (suc turns) before ahead rest h stop =
    let others = lines_complete d turns (before ++ export_line name t.line ∷ []) ahead rest (omega arith) stop in
    rw p (others ∙ ap (λ l. Some (directives l (ahead ++ imports), rest))
    (append_assoc before (export_line name t.line ∷ []) exports))
lines_complete (sections.«import» t comp name p d) zero before ahead rest h stop = absurd (omega arith)
lines_complete (sections.«import» {exports = exports} {imports = imports} t comp name p d)
    (suc turns) before ahead rest h stop =
    let others = lines_complete d turns before (ahead ++ import_line comp name t.line ∷ []) rest (omega arith) stop in
    rw p (others ∙ ap (λ l. Some (directives (before ++ exports) l, rest))
    (append_assoc ahead (import_line comp name t.line ∷ []) imports))
