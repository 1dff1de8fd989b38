-- Declarations: words that spell them, and what these come to.
use Rattle.sc_report_made.proofs.Common.{Alike, AllAlike, Decl, Free, FunctionTree, List, Nested, Piece, Reading}
use Rattle.sc_report_made.proofs.Common.{SpellsDecl, [], ap, append_assoc, ap₂, arith, blank, codes, decl_height}
use Rattle.sc_report_made.proofs.Common.{decl_symbols, decls_height, dense_decl, dense_tidy, each_tidy, flat_map-append}
use Rattle.sc_report_made.proofs.Common.{gap, head_of, head_tidy, head_words, is_kept_decl, kept_head, kept_local}
use Rattle.sc_report_made.proofs.Common.{line_end, lineless_decl, list_all, local_line, local_tidy, locals_height, lone}
use Rattle.sc_report_made.proofs.Common.{nested_append, nested_blank, nested_curly, nested_line, nested_more}
use Rattle.sc_report_made.proofs.Common.{nested_none, newline, next, none, part, piece_text, reads, refl, subst}
use Rattle.sc_report_made.proofs.Common.{text_of, tidy_append, true, word, ℕ, ◌++◌, ◌∙◌, ◌∷◌, ◌≡◌, ◌≤◌}
use Rattle.std.specs.List.{flat_map}
use Rattle.sc_ast.specs.declared.section.Decl.TheVariants as decl
use Rattle.sc_parse.specs.Lists as lists
use Rattle.sc_parse_print_laws.proofs.Tables.{close_curly, open_curly}
use Rattle.sc_parse_print_laws.proofs.Sections.{decl_reads, function_with}
use Rattle.sc_report_made.proofs.Lines.{AreLines}

-- words that spell the declaration, lines aside, stand apart, come to this text, and open few brackets
pub record IsDecl (d : Decl) (text : List ℕ) : Type 0 where
  pub pieces : List Piece
  pub read : Reading pieces (λ ts. Alike SpellsDecl lineless_decl ts d)
  pub low : decl_height d ≤ 8
  pub tidy : Free pieces
  pub spelled : text_of pieces ≡ text
  pub nested : Nested 4 pieces

-- a declaration as it is printed, but for the empty line before it
pub printed_decl : (d : Decl) (text : List ℕ) → is_kept_decl d ≡ true → decl_height d ≤ 8 →
    text_of (dense_decl d) ≡ text → Nested 4 (dense_decl d) → IsDecl d text
printed_decl d text kept low spelled nested = record {
  pieces = dense_decl d;
  read = λ ts said. decl_reads d kept ts (said ∙ decl_symbols d);
  low = low;
  tidy = dense_tidy d kept;
  spelled = spelled;
  nested = nested;
}

-- a function, by its statements
pub function_decl : (f : FunctionTree) (head locals lines : List ℕ) → kept_head (head_of f.head) ≡ true →
    list_all kept_local f.locals ≡ true → locals_height f.locals ≤ 8 → text_of (head_words (head_of f.head)) ≡ head →
    Nested 3 (head_words (head_of f.head)) → text_of (flat_map local_line f.locals) ≡ locals →
    Nested 3 (flat_map local_line f.locals) → AreLines f.body lines →
    IsDecl (decl.Function f) (head ++ (codes " {\n" ++ (locals ++ (lines ++ codes "}\n"))))
function_decl f head locals lines kept kept_locals low spelled nested named nested_locals body =
    let words : List Piece = head_words (head_of f.head) in
    let first : List Piece = flat_map local_line f.locals in
    let end : List Piece = word (codes "}") ∷ newline ∷ [] in
    let block : List Piece = blank ∷ word (codes "{") ∷ newline ∷ (first ++ (body.pieces ++ end)) in
    record {
      pieces = words ++ block;
      read = function_with f body.pieces kept kept_locals body.read;
      low = let height = body.low in omega arith;
      tidy = λ rest. tidy_append words block rest (head_tidy (head_of f.head) kept _)
          (gap (lone open_curly (line_end (tidy_append first (body.pieces ++ end) rest
          (each_tidy local_line kept_local local_tidy f.locals kept_locals _)
          (tidy_append body.pieces end rest (body.tidy _) (lone close_curly (line_end none)))))));
      spelled = flat_map-append piece_text words block ∙ ap₂ (λ a b. a ++ (codes " {\n" ++ b)) spelled
          (flat_map-append piece_text first (body.pieces ++ end) ∙ ap₂ (λ a b. a ++ b) named
          (flat_map-append piece_text body.pieces end ∙ ap (λ a. a ++ codes "}\n") body.spelled));
      nested = nested_append (nested_more (omega arith) nested) (nested_blank
          (subst (λ ps. Nested 4 (word (codes "{") ∷ newline ∷ ps)) (append_assoc first body.pieces end)
          (nested_curly (nested_line (nested_append nested_locals body.nested)) (nested_line nested_none))));
    }

-- the same of declarations
pub record AreDecls (decls : List Decl) (text : List ℕ) : Type 0 where
  pub pieces : List Piece
  pub read : Reading pieces (λ ts. AllAlike SpellsDecl lineless_decl ts decls)
  pub low : decls_height decls ≤ 8
  pub tidy : Free pieces
  pub spelled : text_of pieces ≡ text
  pub nested : Nested 4 pieces

pub no_decls : AreDecls [] []
no_decls = record {
  pieces = [];
  read = reads [] (λ ts. AllAlike SpellsDecl lineless_decl ts [])
      (record { others = []; spelled = lists.none; same = refl });
  low = omega arith;
  tidy = λ rest. none;
  spelled = refl;
  nested = nested_none;
}

pub more_decls : {d : Decl} {decls : List Decl} {text more : List ℕ} → IsDecl d text → AreDecls decls more →
    AreDecls (d ∷ decls) (text ++ more)
more_decls {d} {decls} {text} {more} one others = record {
  pieces = one.pieces ++ others.pieces;
  read = reads (part one.pieces ∷ part others.pieces ∷ []) (λ ts. AllAlike SpellsDecl lineless_decl ts (d ∷ decls))
      (λ prefix said back following.
      let first = one.read prefix said in
      let rest = others.read back following in
      record {
        others = first.other ∷ rest.others;
        spelled = lists.next first.spelled rest.spelled;
        same = ap₂ (λ x xs. x ∷ xs) first.same rest.same;
      });
  low = let low = one.low in let height = others.low in omega arith;
  tidy = λ rest. tidy_append one.pieces others.pieces rest (one.tidy _) (others.tidy rest);
  spelled = flat_map-append piece_text one.pieces others.pieces ∙ ap₂ (λ x y. x ++ y) one.spelled others.spelled;
  nested = nested_append one.nested others.nested;
}
