-- Tokens as slices of the bytes that they cut.
use Rattle.std.specs.Prelude.{◌≡◌, ℕ, ◌<◌, ◌≤◌, List, length, slice_range, Some, All, AllPairs}
use Rattle.sc_lex.specs.Lines.{line_at}
use Rattle.sc_lex.specs.Kinds.{token_kind}
use Rattle.sc_lex.specs.declared.token.Token.{Token}

-- the token is a slice of the bytes, with the kind of its text and the line of its first byte
pub record IsSpan (bytes : List ℕ) (token : Token) : Type 0 where
  pub some : token.start < token.end
  pub within : token.end ≤ length bytes
  pub kind : token_kind (slice_range bytes token.start token.end) ≡ Some token.kind
  pub line : token.line ≡ line_at bytes token.start

-- the tokens are slices of the bytes, one after another
pub record AreSpans (bytes : List ℕ) (tokens : List Token) : Type 0 where
  pub each : All (λ token. IsSpan bytes token) tokens
  pub apart : AllPairs (λ token later. token.end ≤ later.start) tokens
