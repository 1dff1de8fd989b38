-- Tokens say something.
use Rattle.sc_parse_expr.proofs.Common.{Bool, IsSpan, List, Mark, None, Option, Some, Symbol, Token, [], ap, arith}
use Rattle.sc_parse_expr.proofs.Common.{bytes_eq}
use Rattle.sc_parse_expr.proofs.Common.{codes, cond, directive_kind, false, false≢true, get_or, heading_name, ident_in}
use Rattle.sc_parse_expr.proofs.Common.{import_symbol, integer_of, is_export, is_import, is_integer_constant, is_name}
use Rattle.sc_parse_expr.proofs.Common.{is_reserved}
use Rattle.sc_parse_expr.proofs.Common.{is_some, le-leb, leb-false, line_kind, look_up, map, mark_kind, mark_of}
use Rattle.sc_parse_expr.proofs.Common.{mark_texts}
use Rattle.sc_parse_expr.proofs.Common.{name_of, nat_le, nat_lt, none-some, number_in, option_map, option_or, or_unused}
use Rattle.sc_parse_expr.proofs.Common.{refl, says, slice_range, subst, sym, symbol_of, third_word, true}
use Rattle.sc_parse_expr.proofs.Common.{word_kind, words, ℕ, ◌&&◌, ◌||◌, ◌∙◌, ◌∷◌, ◌≡◌}
use Rattle.sc_lex.specs.Prelude.{is_mark, token_kind}
use Rattle.std.specs.List.{list_any}
use Rattle.std.proofs.lemmas.Slice.Eq.{bytes_eq-Decides}
use Rattle.sc_base.proofs.Bools.{and_first, and_rest}
use Rattle.sc_lex.specs.declared.token.TokenKind.{TokenKind}
use Rattle.sc_lex.specs.declared.token.TokenKind.TheVariants as kind
use Rattle.sc_parse_expr.specs.declared.lexeme.Symbol.TheVariants as symbol
use Rattle.sc_parse_expr.proofs.Ahead.{same_some}

chosen : {A P : Type 0} (b : Bool) (u v : A) {w : A} → cond b u v ≡ w → (b ≡ true → u ≡ w → P) →
    (b ≡ false → v ≡ w → P) → P
chosen true u v h first second = first refl h
chosen false u v h first second = second refl h

-- a text of this kind says something
abbrev Speaks : TokenKind → List ℕ → Type 0
Speaks kind text = is_some (says kind text) ≡ true

mapped : {A B : Type 0} (f : A → B) (o : Option A) → is_some o ≡ true → is_some (option_map f o) ≡ true
mapped f None h = absurd (false≢true h)
mapped f (Some x) h = refl

ident_speaks : (text : List ℕ) → is_reserved text ≡ false → is_name text ≡ true → is_some (ident_in text) ≡ true
ident_speaks text free named = rw (named, free)

typed : (suffix : Bool) (value : ℕ) → ((suffix || nat_lt 2147483647 value) || nat_le value 2147483647) ≡ true
typed true value = refl
typed false value = go _ refl
  where
    go : (b : Bool) → nat_le value 2147483647 ≡ b → (nat_lt 2147483647 value || b) ≡ true
    go true q = either _
      where
        either : (b : Bool) → (b || true) ≡ true
        either true = refl
        either false = refl
    go false q = ap (λ b. b || false) (le-leb 2147483648 value (omega (arith, leb-false value 2147483647 q)))

integer_speaks : (text : List ℕ) → is_integer_constant text ≡ true → is_some (number_in text) ≡ true
unfolding integer_of
integer_speaks text h = rw (h, typed _ _)

-- texts alike by either test
alike : (xs ys : List ℕ) → bytes_eq xs ys ≡ true → bytes_eq ys xs ≡ true
alike xs ys h = (bytes_eq-Decides ys xs).1 (sym ((bytes_eq-Decides xs ys).0 h))

looked : (rows : List (List ℕ × Mark)) (text : List ℕ) →
    list_any (λ mark. bytes_eq text mark) (map (λ row. row.0) rows) ≡ true → is_some (look_up rows text) ≡ true
looked [] text h = absurd (false≢true h)
looked (row ∷ rows) text h = go _ refl _ refl (looked rows text) h
  where
    go : (b : Bool) → bytes_eq text row.0 ≡ b → (a : Bool) → bytes_eq row.0 text ≡ a →
        (list_any (λ mark. bytes_eq text mark) (map (λ row. row.0) rows) ≡ true →
        is_some (look_up rows text) ≡ true) → (b || list_any (λ mark. bytes_eq text mark) (map (λ row. row.0) rows)) ≡
        true → is_some (cond {A = Option Mark} a (Some row.1) (look_up rows text)) ≡ true
    go b p true q more e = refl
    go true p false q more e = absurd (false≢true (sym q ∙ alike text row.0 p))
    go false p false q more e = more e

mark_speaks : (text : List ℕ) → is_mark text ≡ true → is_some (mark_of text) ≡ true
unfolding is_mark mark_of
mark_speaks text h = looked mark_texts text h

named_word : (word : List ℕ) → is_name word ≡ true → is_some (name_of word) ≡ true
named_word word h = rw h

export_speaks : (ws : List (List ℕ)) → is_export ws ≡ true → is_some (name_of (get_or ws 2 [])) ≡ true
export_speaks [] h = absurd (false≢true h)
export_speaks (a ∷ []) h = absurd (false≢true h)
export_speaks (a ∷ b ∷ []) h = absurd (false≢true h)
export_speaks (a ∷ b ∷ c ∷ []) h = named_word c (and_rest _ _ h)
export_speaks (a ∷ b ∷ c ∷ d ∷ more) h = absurd (false≢true h)

import_speaks : (ws : List (List ℕ)) → is_import ws ≡ true →
    is_some (import_symbol (name_of (get_or ws 2 [])) (name_of (get_or ws 3 []))) ≡ true
import_speaks [] h = absurd (false≢true h)
import_speaks (a ∷ []) h = absurd (false≢true h)
import_speaks (a ∷ b ∷ []) h = absurd (false≢true h)
import_speaks (a ∷ b ∷ c ∷ []) h = absurd (false≢true h)
import_speaks (a ∷ b ∷ c ∷ d ∷ []) h =
    let words = bytes_eq a (codes "#pragma") && bytes_eq b (codes "import") in
    both _ refl _ refl (and_rest words _ (and_first _ _ h)) (and_rest _ _ h)
  where
    both : (x : Bool) → is_name c ≡ x → (y : Bool) → is_name d ≡ y → x ≡ true → y ≡ true →
        is_some (import_symbol (name_of c) (name_of d)) ≡ true
    both true p true q e f = rw (p, q)
    both true p false q e f = absurd (false≢true f)
    both false p y q e f = absurd (false≢true e)
import_speaks (a ∷ b ∷ c ∷ d ∷ e ∷ more) h = absurd (false≢true h)

as_kind : (text : List ℕ) (kind other : TokenKind) → Some other ≡ Some kind → Speaks other text → Speaks kind text
as_kind text kind other same speaks = subst (λ k. Speaks k text) (same_some same) speaks

word_speaks : (text : List ℕ) (k : TokenKind) → (k ≡ kind.Reserved → ⊥) → word_kind text ≡ Some k → Speaks k text
unfolding word_kind says
word_speaks text k free h = chosen (is_reserved text) (Some kind.Reserved) _ h
    (λ p e. absurd (free (sym (same_some e))))
    (λ p e. chosen (is_name text) (Some kind.Ident) _ e (λ q e. as_kind text k kind.Ident e
    (mapped (λ name. symbol.Ident name) (ident_in text) (ident_speaks text p q)))
    (λ q e. chosen (is_integer_constant text) (Some kind.Integer) None e (λ t e. as_kind text k kind.Integer e
    (mapped (λ number. symbol.Integer number) (number_in text) (integer_speaks text t)))
    (λ t e. absurd (none-some k e))))

mark_kind_speaks : (text : List ℕ) (k : TokenKind) → mark_kind text ≡ Some k → Speaks k text
unfolding says
mark_kind_speaks text k h = chosen (is_mark text) (Some kind.Mark) None h
    (λ p e. as_kind text k _ e (mapped _ _ (mark_speaks text p))) (λ p e. absurd (none-some k e))

line_speaks : (text : List ℕ) (k : TokenKind) → line_kind text ≡ Some k → Speaks k text
unfolding line_kind says
line_speaks text k h = chosen (is_some (heading_name text)) (Some kind.Compartment) _ h
    (λ p e. as_kind text k kind.Compartment e (mapped (λ name. symbol.Compartment name) (heading_name text) p))
    (λ p e. chosen (is_export (words text)) (Some kind.Export) _ e (λ q e. as_kind text k kind.Export e
    (mapped (λ name. symbol.Export name) (third_word text) (export_speaks (words text) q)))
    (λ q e. chosen (is_import (words text)) (Some kind.Import) None e
    (λ t e. as_kind text k kind.Import e (import_speaks (words text) t)) (λ t e. absurd (none-some k e))))

directive_speaks : (text : List ℕ) (k : TokenKind) → directive_kind text ≡ Some k → Speaks k text
directive_speaks text k h = chosen _ (line_kind text) None h (λ q e. line_speaks text k e)
    (λ q e. absurd (none-some k e))

kind_speaks : (text : List ℕ) (k : TokenKind) → (k ≡ kind.Reserved → ⊥) → token_kind text ≡ Some k → Speaks k text
unfolding token_kind
kind_speaks text k free h = go (word_kind text) refl _ refl h
  where
    go : (w : Option TokenKind) → word_kind text ≡ w → (m : Option TokenKind) → mark_kind text ≡ m →
        option_or w (option_or m (directive_kind text)) ≡ Some k → Speaks k text
    go (Some w) p m q e = word_speaks text k free (p ∙ e)
    go None p (Some m) q e = mark_kind_speaks text k (q ∙ e)
    go None p None q e = directive_speaks text k e

said : (o : Option Symbol) → is_some o ≡ true → o ≡ Some (or_unused o)
said None h = absurd (false≢true h)
said (Some s) h = refl

-- a token that is no reserved word is the lexeme that its text says
pub token_says : (bytes : List ℕ) (token : Token) → IsSpan bytes token → (token.kind ≡ kind.Reserved → ⊥) →
    says token.kind (slice_range bytes token.start token.end) ≡ Some (symbol_of bytes token)
token_says bytes token span free = said _ (kind_speaks _ _ free span.kind)
