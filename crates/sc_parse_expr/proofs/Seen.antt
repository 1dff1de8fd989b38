-- What a token of a kind is seen as.
use Rattle.sc_parse_expr.proofs.Common.{IsSpan, Keyword, List, Mark, None, Option, Some, Symbol, Token, ap, fourth_word}
use Rattle.sc_parse_expr.proofs.Common.{ident_in}
use Rattle.sc_parse_expr.proofs.Common.{heading_name, import_symbol, keyword_by, keyword_of, mark_by, mark_of, name_by}
use Rattle.sc_parse_expr.proofs.Common.{none-some}
use Rattle.sc_parse_expr.proofs.Common.{number_in, option_map, or_unused, refl, says, slice_range, sym, symbol_of}
use Rattle.sc_parse_expr.proofs.Common.{unwrap_or}
use Rattle.sc_parse_expr.proofs.Common.{Bool, false, false≢true, is_some, subst, third_word, true, ℕ, ◌∙◌, ◌≡◌}
use Rattle.sc_lex.specs.declared.token.TokenKind.{TokenKind}
use Rattle.sc_lex.specs.declared.token.TokenKind.TheVariants as kind
use Rattle.sc_parse_expr.specs.declared.lexeme.Symbol.TheVariants as symbol
use Rattle.sc_parse_expr.specs.declared.mark.Keyword.TheVariants as word
use Rattle.sc_parse_expr.proofs.Ahead.{same_some}
use Rattle.sc_parse_expr.proofs.Sayings.{token_says}

unseen : {A B : Type 0} (by : Symbol → Option A) (f : B → Symbol) → by (symbol.Keyword word.Unused) ≡ None →
    ((b : B) → by (f b) ≡ None) → (x : Option B) → by (or_unused (option_map f x)) ≡ None
unseen by f unused each None = unused
unseen by f unused each (Some b) = each b

unimported : {A : Type 0} (by : Symbol → Option A) → by (symbol.Keyword word.Unused) ≡ None →
    ((c n : List ℕ) → by (symbol.Import c n) ≡ None) → (x y : Option (List ℕ)) →
    by (or_unused (import_symbol x y)) ≡ None
unimported by unused each None y = unused
unimported by unused each (Some c) None = unused
unimported by unused each (Some c) (Some n) = each c n

pub mark_is : (bytes : List ℕ) (token : Token) → token.kind ≡ kind.Mark →
    mark_of (slice_range bytes token.start token.end) ≡ mark_by (symbol_of bytes token)
unfolding says
mark_is bytes token h =
    go (mark_of (slice_range bytes token.start token.end)) ∙
    ap (λ k. mark_by (or_unused (says k (slice_range bytes token.start token.end)))) (sym h)
  where
    go : (o : Option Mark) → o ≡ mark_by (or_unused (option_map (λ m. symbol.Mark m) o))
    go None = refl
    go (Some m) = refl

pub no_mark : (bytes : List ℕ) (token : Token) → (token.kind ≡ kind.Mark → ⊥) →
    None ≡ mark_by (symbol_of bytes token)
unfolding says
no_mark bytes token h = sym (go token.kind (slice_range bytes token.start token.end) h)
  where
    go : (k : TokenKind) (text : List ℕ) → (k ≡ kind.Mark → ⊥) → mark_by (or_unused (says k text)) ≡ None
    go kind.Ident text h = unseen mark_by (λ name. symbol.Ident name) refl (λ name. refl) (ident_in text)
    go kind.Reserved text h = unseen mark_by (λ w. symbol.Keyword w) refl (λ w. refl) (keyword_of text)
    go kind.Integer text h = unseen mark_by (λ n. symbol.Integer n) refl (λ n. refl) (number_in text)
    go kind.Mark text h = absurd (h refl)
    go kind.Compartment text h =
        unseen mark_by (λ name. symbol.Compartment name) refl (λ name. refl) (heading_name text)
    go kind.Export text h = unseen mark_by (λ name. symbol.Export name) refl (λ name. refl) (third_word text)
    go kind.Import text h = unimported mark_by refl (λ c n. refl) (third_word text) (fourth_word text)

pub ruleset marks = (mark_is, no_mark)

pub name_is : (bytes : List ℕ) (token : Token) → token.kind ≡ kind.Ident →
    ident_in (slice_range bytes token.start token.end) ≡ name_by (symbol_of bytes token)
unfolding says
name_is bytes token h =
    go (ident_in (slice_range bytes token.start token.end)) ∙
    ap (λ k. name_by (or_unused (says k (slice_range bytes token.start token.end)))) (sym h)
  where
    go : (o : Option (List ℕ)) → o ≡ name_by (or_unused (option_map (λ name. symbol.Ident name) o))
    go None = refl
    go (Some name) = refl

pub no_name : (bytes : List ℕ) (token : Token) → (token.kind ≡ kind.Ident → ⊥) →
    None ≡ name_by (symbol_of bytes token)
unfolding says
no_name bytes token h = sym (go token.kind (slice_range bytes token.start token.end) h)
  where
    go : (k : TokenKind) (text : List ℕ) → (k ≡ kind.Ident → ⊥) → name_by (or_unused (says k text)) ≡ None
    go kind.Ident text h = absurd (h refl)
    go kind.Reserved text h = unseen name_by (λ w. symbol.Keyword w) refl (λ w. refl) (keyword_of text)
    go kind.Integer text h = unseen name_by (λ n. symbol.Integer n) refl (λ n. refl) (number_in text)
    go kind.Mark text h = unseen name_by (λ m. symbol.Mark m) refl (λ m. refl) (mark_of text)
    go kind.Compartment text h =
        unseen name_by (λ name. symbol.Compartment name) refl (λ name. refl) (heading_name text)
    go kind.Export text h = unseen name_by (λ name. symbol.Export name) refl (λ name. refl) (third_word text)
    go kind.Import text h = unimported name_by refl (λ c n. refl) (third_word text) (fourth_word text)

pub ruleset names = (name_is, no_name)

is_word : TokenKind → Bool
is_word kind.Reserved = true
is_word _ = false

-- a token of an identifier's kind is one
pub some_name : (bytes : List ℕ) (token : Token) → IsSpan bytes token → token.kind ≡ kind.Ident →
    true ≡ is_some (name_by (symbol_of bytes token))
unfolding says is_word
some_name bytes token span h =
    go (ident_in text) (subst (λ k. says k text ≡ Some (symbol_of bytes token)) h
    (token_says bytes token span (λ r. false≢true (ap is_word (sym h ∙ r)))))
  where
    text : List ℕ
    text = slice_range bytes token.start token.end

    go : (o : Option (List ℕ)) → option_map (λ name. symbol.Ident name) o ≡ Some (symbol_of bytes token) →
        true ≡ is_some (name_by (symbol_of bytes token))
    go None e = absurd (none-some _ e)
    go (Some name) e = ap (λ s. is_some (name_by s)) (same_some e)

pub nameless : (bytes : List ℕ) (token : Token) → (token.kind ≡ kind.Ident → ⊥) →
    false ≡ is_some (name_by (symbol_of bytes token))
nameless bytes token h = ap is_some (no_name bytes token h)

pub ruleset named = (some_name, nameless)

pub keyword_is : (bytes : List ℕ) (token : Token) → token.kind ≡ kind.Reserved →
    Some (unwrap_or (keyword_of (slice_range bytes token.start token.end)) word.Unused) ≡
    keyword_by (symbol_of bytes token)
unfolding says
keyword_is bytes token h =
    go (keyword_of (slice_range bytes token.start token.end)) ∙
    ap (λ k. keyword_by (or_unused (says k (slice_range bytes token.start token.end)))) (sym h)
  where
    go : (o : Option Keyword) → Some (unwrap_or o word.Unused) ≡
        keyword_by (or_unused (option_map (λ w. symbol.Keyword w) o))
    go None = refl
    go (Some w) = refl

-- what is said by none of these is no reserved word
unsaid : {B : Type 0} (f : B → Symbol) → ((b : B) → keyword_by (f b) ≡ None) → (x : Option B) (s : Symbol) →
    option_map f x ≡ Some s → keyword_by s ≡ None
unsaid f each None s e = absurd (none-some s e)
unsaid f each (Some b) s e = ap keyword_by (sym (same_some e)) ∙ each b

unsaid_import : (x y : Option (List ℕ)) (s : Symbol) → import_symbol x y ≡ Some s → keyword_by s ≡ None
unsaid_import None y s e = absurd (none-some s e)
unsaid_import (Some c) None s e = absurd (none-some s e)
unsaid_import (Some c) (Some n) s e = ap keyword_by (sym (same_some e))

pub no_keyword : (bytes : List ℕ) (token : Token) → IsSpan bytes token → (token.kind ≡ kind.Reserved → ⊥) →
    None ≡ keyword_by (symbol_of bytes token)
unfolding says
no_keyword bytes token span h =
    sym (go token.kind (slice_range bytes token.start token.end) _ h (token_says bytes token span h))
  where
    go : (k : TokenKind) (text : List ℕ) (s : Symbol) → (k ≡ kind.Reserved → ⊥) → says k text ≡ Some s →
        keyword_by s ≡ None
    go kind.Ident text s h e = unsaid (λ name. symbol.Ident name) (λ name. refl) (ident_in text) s e
    go kind.Reserved text s h e = absurd (h refl)
    go kind.Integer text s h e = unsaid (λ n. symbol.Integer n) (λ n. refl) (number_in text) s e
    go kind.Mark text s h e = unsaid (λ m. symbol.Mark m) (λ m. refl) (mark_of text) s e
    go kind.Compartment text s h e =
        unsaid (λ name. symbol.Compartment name) (λ name. refl) (heading_name text) s e
    go kind.Export text s h e = unsaid (λ name. symbol.Export name) (λ name. refl) (third_word text) s e
    go kind.Import text s h e = unsaid_import (third_word text) (fourth_word text) s e

pub ruleset keywords = (keyword_is, no_keyword)
