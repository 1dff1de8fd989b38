-- Lines of statements: words that spell them, and what these come to.
use Rattle.sc_report_made.proofs.Common.{Free, Lines, List, Nested, Piece, Reading, SpellsStmtKind, StmtKind, StmtTree}
use Rattle.sc_report_made.proofs.Common.{[], ap₂, arith, at_level, first_line, flat_map-append, is_kept_stmt, line_end}
use Rattle.sc_report_made.proofs.Common.{line_of, line_symbols, lineless_kind, nested_append, nested_none, newline}
use Rattle.sc_report_made.proofs.Common.{none, part, piece_text, reads, refl, same_line, stmt_height, stmt_holds}
use Rattle.sc_report_made.proofs.Common.{stmt_layout, stmts_height, text_of, tidy_append, true, ℕ, ◌++◌, ◌∙◌, ◌∷◌, ◌≡◌}
use Rattle.sc_report_made.proofs.Common.{◌≤◌}
use Rattle.sc_parse_expr.specs.declared.lexeme.Lexeme.{Lexeme}
use Rattle.sc_parse.specs.Statements as spell
use Rattle.sc_parse_print_laws.proofs.Stmts as printed

-- the lexemes spell a statement that is this one, lines aside
pub record Spelled (ts : List Lexeme) (s : StmtTree) : Type 0 where
  pub kind : StmtKind
  pub spelled : SpellsStmtKind ts kind
  pub same : lineless_kind kind ≡ lineless_kind s.kind

-- words that spell the statement, stand apart, come to this text, and open few brackets
pub record IsLine (s : StmtTree) (text : List ℕ) : Type 0 where
  pub pieces : List Piece
  pub read : Reading pieces (λ ts. Spelled ts s)
  pub low : stmt_height s ≤ 8
  pub tidy : Free pieces
  pub spelled : text_of pieces ≡ text
  pub nested : Nested 3 pieces

-- a statement in a function, as it is printed
pub printed_line : (s : StmtTree) (text : List ℕ) → is_kept_stmt s ≡ true → stmt_height s ≤ 8 →
    text_of (line_of 1 ((stmt_layout s).words 1)) ≡ text → Nested 3 (line_of 1 ((stmt_layout s).words 1)) →
    IsLine s text
printed_line s text kept low spelled nested = record {
  pieces = line_of 1 ((stmt_layout s).words 1);
  read = λ ts said.
      let emitted = printed.stmt_holds s kept 1 ts (said ∙ line_symbols 1 ((stmt_layout s).words 1)) in
      record { kind = emitted.kind; spelled = emitted.spelled; same = emitted.same };
  low = low;
  tidy = λ rest. at_level 1 (tidy_append ((stmt_layout s).words 1) (newline ∷ []) rest (stmt_holds s kept 1 _)
      (line_end none));
  spelled = spelled;
  nested = nested;
}

-- the same of statements
pub record AreLines (stmts : List StmtTree) (text : List ℕ) : Type 0 where
  pub pieces : List Piece
  pub read : Reading pieces (λ ts. Lines ts stmts)
  pub low : stmts_height stmts ≤ 8
  pub tidy : Free pieces
  pub spelled : text_of pieces ≡ text
  pub nested : Nested 3 pieces

pub no_lines : AreLines [] []
no_lines = record {
  pieces = [];
  read = reads [] (λ ts. Lines ts []) (record { others = []; spelled = spell.none; same = refl });
  low = omega arith;
  tidy = λ rest. none;
  spelled = refl;
  nested = nested_none;
}

pub more_lines : {s : StmtTree} {stmts : List StmtTree} {text more : List ℕ} → IsLine s text → AreLines stmts more →
    AreLines (s ∷ stmts) (text ++ more)
more_lines {s} {stmts} {text} {more} line lines = record {
  pieces = line.pieces ++ lines.pieces;
  read = reads (part line.pieces ∷ part lines.pieces ∷ []) (λ ts. Lines ts (s ∷ stmts)) (λ prefix said back following.
      let first = line.read prefix said in
      let rest = lines.read back following in
      record {
        others = record { line = first_line prefix; kind = first.kind } ∷ rest.others;
        spelled = spell.next first.spelled rest.spelled;
        same = ap₂ (λ x xs. x ∷ xs) (same_line (first_line prefix) first.kind s first.same) rest.same;
      });
  low = let low = line.low in let others = lines.low in omega arith;
  tidy = λ rest. tidy_append line.pieces lines.pieces rest (line.tidy _) (lines.tidy rest);
  spelled = flat_map-append piece_text line.pieces lines.pieces ∙ ap₂ (λ x y. x ++ y) line.spelled lines.spelled;
  nested = nested_append line.nested lines.nested;
}
