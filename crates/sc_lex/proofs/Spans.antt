-- Tokens that cut bytes are slices of them, one after another.
use Rattle.sc_lex.proofs.Common.{All, AreSpans, Bool, Cuts, IsCut, IsSpan, IsToken, List, Token, TokenKind, arith, drop}
use Rattle.sc_lex.proofs.Common.{gap, length-drop, nothing, refl, token, token_at, ℕ, ◌+◌, ◌-◌, ◌≡◌, ◌≤◌}
use Rattle.std.proofs.lemmas.List.Elements.{All-cons}
use Rattle.std.proofs.lemmas.List.Kept.{AllPairs-cons}
use Rattle.sc_lex.proofs.Gaps.{token_positive}

module _ (bytes : List ℕ) where
  span_of : {directives : Bool} (at : ℕ) (kind : TokenKind) (len : ℕ) → IsToken directives (drop at bytes) kind len →
      IsSpan bytes (token_at bytes at kind len)
  span_of at kind len t =
      let positive = token_positive len t in
      let same : at + len - at ≡ len = omega arith in
      record {
        some = omega arith;
        within = omega (arith, t.within, length-drop at bytes);
        kind = rw same t.spelled;
        line = refl;
      }

  begin_after : {at to : ℕ} {tokens : List Token} → Cuts bytes at to tokens → (before : ℕ) → before ≤ at →
      All (λ t. before ≤ t.start) tokens
  begin_after nothing before low = λ k d h. absurd (omega arith)
  begin_after (gap n h c) before low = begin_after c before (omega arith)
  begin_after {at} (token {tokens = ts} kind n h c) before low =
      All-cons (λ t. before ≤ t.start) (token_at bytes at kind n) ts low (begin_after c before (omega arith))

  cut_spans : {at to : ℕ} {tokens : List Token} → Cuts bytes at to tokens → AreSpans bytes tokens
  cut_spans nothing = record { each = λ k d h. absurd (omega arith); apart = λ i j d h k. absurd (omega arith) }
  cut_spans (gap n h c) = cut_spans c
  cut_spans {at} (token {tokens = ts} kind n h c) =
      let rest = cut_spans c in
      record {
        each = All-cons (IsSpan bytes) (token_at bytes at kind n) ts (span_of at kind n h) rest.each;
        apart = AllPairs-cons (λ t later. t.end ≤ later.start) (token_at bytes at kind n) ts
            (begin_after c _ (omega arith)) rest.apart;
      }

  -- what a function over tokens needs of them
  pub are_spans : (tokens : List Token) → IsCut bytes tokens → AreSpans bytes tokens
  are_spans tokens c = cut_spans c
