-- Pieces that stand apart, and lines that are directives, are cut into their words.
use Rattle.sc_parse_print_laws.proofs.Common.{Cuts, IsToken, IsTrue, List, Piece, Some, Symbol, Token, TokenKind, []}
use Rattle.sc_parse_print_laws.proofs.Common.{allows_directive, and_from, ap, append-nil, append_assoc, ap₂, arith}
use Rattle.sc_parse_print_laws.proofs.Common.{begins_heading, begins_line, directive_found, drop, drop-append_seam}
use Rattle.sc_parse_print_laws.proofs.Common.{eq-eqb, gap, get_or-append_seam, is_white_space, token_kind, length}
use Rattle.sc_parse_print_laws.proofs.Common.{length-append, line_kind, map, newline, nothing, option_and_then}
use Rattle.sc_parse_print_laws.proofs.Common.{or_right, or_unused, refl, replicate, says, slice_index, slice_range}
use Rattle.sc_parse_print_laws.proofs.Common.{subst, suc, sym, symbol_of, symbols, take, take-append_seam, text_of}
use Rattle.sc_parse_print_laws.proofs.Common.{token, token_at, true, white_space, word, word_symbol, zero, ℕ, ◌*◌, ◌++◌}
use Rattle.sc_parse_print_laws.proofs.Common.{◌+◌, ◌-◌, ◌<◌, ◌==◌, ◌∙◌, ◌∷◌, ◌≡◌}
use Rattle.sc_parse_print_laws.proofs.Spacing as spacing
use Rattle.sc_parse_print_laws.proofs.Spacing.{Tidy, run_is}
use Rattle.sc_parse_print_laws.proofs.DirectiveWords.{IsLine, kind_of_line}

-- From a place on the bytes are cut into tokens that say this.
pub record Found (bytes : List ℕ) (at : ℕ) (ss : List Symbol) : Type 0 where
  pub tokens : List Token
  pub cuts : Cuts bytes at (length bytes) tokens
  pub says : map (λ t. symbol_of bytes t) tokens ≡ ss

module _ (bytes : List ℕ) where
  -- what a token says is what its text says
  pub token_says : (leading text rest : List ℕ) (kind : TokenKind) → bytes ≡ leading ++ (text ++ rest) →
      token_kind (take (length text) (text ++ rest)) ≡ Some kind →
      symbol_of bytes (token_at bytes (length leading) kind (length text)) ≡ word_symbol text
  unfolding word_symbol
  token_says leading text rest kind whole spelled =
      let following : drop (length leading) bytes ≡ text ++ rest =
      ap (drop (length leading)) whole ∙ drop-append_seam leading (text ++ rest) in
      let back = take-append_seam text rest in
      let long : length leading + length text - length leading ≡ length text = omega arith in
      let slice : slice_range bytes (length leading) (length leading + length text) ≡ text =
      rw (following, long) back in
      let kind_is : token_kind text ≡ Some kind = sym (ap token_kind back) ∙ spelled in
      ap (λ x. or_unused (says kind x)) slice ∙ ap (λ k. or_unused (option_and_then (λ j. says j text) k)) (sym kind_is)

  -- one byte of white space
  pub skipped : (byte : ℕ) → is_white_space byte ≡ true → (leading : List ℕ) (ss : List Symbol) (rest : List ℕ) →
      bytes ≡ leading ++ byte ∷ rest → Found bytes (length (leading ++ byte ∷ [])) ss → Found bytes (length leading) ss
  skipped byte white leading ss rest whole on =
      let following : drop (length leading) bytes ≡ byte ∷ rest = ap (drop _) whole ∙
      drop-append_seam leading (byte ∷ rest) in
      let long = length-append leading (byte ∷ []) in
      let is : IsTrue (is_white_space (slice_index (drop (length leading) bytes) 0)) = rw following white in
      record {
        tokens = on.tokens;
        cuts = gap 1 (white_space is) (subst (λ n. Cuts bytes n (length bytes) on.tokens) long on.cuts);
        says = on.says;
      }

  -- `count` blanks
  indented : (count : ℕ) (leading : List ℕ) (ss : List Symbol) (rest : List ℕ) →
      bytes ≡ leading ++ (replicate count 32 ++ rest) →
      ((before : List ℕ) → bytes ≡ before ++ rest → Found bytes (length before) ss) → Found bytes (length leading) ss
  indented zero leading ss rest whole on = on leading whole
  indented (suc count) leading ss rest whole on =
      skipped 32 refl leading ss _ whole (indented count _ ss rest (whole ∙ sym (append_assoc leading _ _)) on)

  pub found_from : {pieces : List Piece} {rest : List ℕ} → Tidy pieces rest → rest ≡ [] → (leading : List ℕ) →
      bytes ≡ leading ++ text_of pieces → Found bytes (length leading) (symbols pieces)
  found_from spacing.none e leading whole =
      let all = ap (λ x. length x) (whole ∙ append-nil leading) in
      record { tokens = []; cuts = subst (λ n. Cuts bytes (length leading) n []) (sym all) nothing; says = refl }
  found_from (spacing.gap {pieces = pieces} t) e leading whole =
      skipped 32 refl leading _ _ whole (found_from t e _ (whole ∙ sym (append_assoc leading _ _)))
  found_from (spacing.line_end {pieces = pieces} t) e leading whole =
      skipped 10 refl leading _ _ whole (found_from t e _ (whole ∙ sym (append_assoc leading _ _)))
  found_from (spacing.at_level {pieces = pieces} levels t) e leading whole =
      indented (2 * levels) leading _ (text_of pieces) whole (found_from t e)
  found_from (spacing.next {text = text} {pieces = pieces} {rest = rest} w t) e leading whole =
      let after = ap (λ x. text_of pieces ++ x) e ∙ append-nil _ in
      let following = ap (drop _) whole ∙ drop-append_seam leading _ ∙ ap (λ x. text ++ x) (sym after) in
      let on = found_from t e (leading ++ text) (whole ∙ sym (append_assoc leading text _)) in
      let long = length-append leading text in
      let first = token_says leading text _ w.kind
      (whole ∙ ap (λ x. leading ++ (text ++ x)) (sym after)) (w.token true).spelled in
      record {
        tokens = token_at bytes _ w.kind (length text) ∷ on.tokens;
        cuts = token w.kind _ (subst (λ x. IsToken (allows_directive bytes (length leading)) x w.kind (length text))
            (sym following) (w.token _)) (subst (λ n. Cuts bytes n (length bytes) on.tokens) long on.cuts);
        says = ap₂ (λ s ss. s ∷ ss) first on.says;
      }

pub cut_of : (pieces : List Piece) → Tidy pieces [] → Found (text_of pieces) 0 (symbols pieces)
cut_of pieces t = found_from _ t refl [] refl

-- Lines of one word, which is a directive, and tidy pieces after them.
pub data Lined : List Piece → Type 0 where
  tidy : {pieces : List Piece} → Tidy pieces [] → Lined pieces
  line : {text : List ℕ} {pieces : List Piece} → IsLine text → Lined pieces → Lined (word text ∷ newline ∷ pieces)

first_in : (text rest : List ℕ) → slice_index text 0 ≡ 35 → slice_index (text ++ rest) 0 ≡ 35
first_in [] rest h = absurd (omega (arith, h))
first_in (b ∷ text) rest h = h

-- the token that a line is, where directives are allowed
line_token : (text rest : List ℕ) (l : IsLine text) → IsToken true (text ++ 10 ∷ rest) l.kind (length text)
line_token text rest l =
    let some : 0 < length (text ++ 10 ∷ rest) = omega (arith, length-append text (10 ∷ rest)) in
    let run = run_is _ text _ l.inside refl in
    (directive_found _ (first_in text _ l.first) _ l.kind some (sym run)
    (sym l.is ∙ ap line_kind (sym (take-append_seam text _)))).1

module _ (bytes : List ℕ) (heading : begins_heading bytes ≡ true) where
  -- a line begins after a newline
  next_line : (leading rest : List ℕ) → bytes ≡ leading ++ 10 ∷ rest →
      begins_line bytes (length (leading ++ 10 ∷ [])) ≡ true
  next_line leading rest whole =
      let long = length-append leading (10 ∷ []) in
      let before : length (leading ++ 10 ∷ []) - 1 ≡ length leading = omega (arith, long) in
      let byte : slice_index bytes (length (leading ++ 10 ∷ []) - 1) ≡ 10 = ap (λ n. slice_index bytes n) before ∙
      ap (λ bs. slice_index bs (length leading)) whole ∙ get_or-append_seam leading 10 rest 0 in
      or_right (length (leading ++ 10 ∷ []) == 0) (slice_index bytes (length (leading ++ 10 ∷ []) - 1) == 10)
      (eq-eqb (slice_index bytes _) 10 byte)

  pub found_lines : {pieces : List Piece} → Lined pieces → (leading : List ℕ) →
      begins_line bytes (length leading) ≡ true →
      bytes ≡ leading ++ text_of pieces → Found bytes (length leading) (symbols pieces)
  found_lines (tidy t) leading begins whole = found_from bytes t refl leading whole
  found_lines (line {text = text} {pieces = pieces} l more) leading begins whole =
      let rest = text_of pieces in
      let following = ap (drop _) whole ∙ drop-append_seam leading _ in
      let past = whole ∙ sym (append_assoc leading text _) in
      let on = found_lines more ((leading ++ text) ++ 10 ∷ []) (next_line _ rest past)
      (past ∙ sym (append_assoc _ _ rest)) in
      let end = skipped bytes 10 refl (leading ++ text) _ rest past on in
      let long = length-append leading text in
      let allowed = and_from _ _ heading begins in
      let spelled = ap token_kind (take-append_seam text _) ∙ kind_of_line text l.kind l.first l.inside l.is in
      let first = token_says bytes leading text _ l.kind whole spelled in
      let here = subst (λ b. IsToken b (drop (length leading) bytes) l.kind (length text)) (sym allowed)
      (subst (λ x. IsToken true x l.kind (length text)) (sym following) (line_token text rest l)) in
      record {
        tokens = token_at bytes _ l.kind (length text) ∷ end.tokens;
        cuts = token l.kind _ here (subst (λ n. Cuts bytes n (length bytes) end.tokens) long end.cuts);
        says = ap₂ (λ s ss. s ∷ ss) first end.says;
      }
