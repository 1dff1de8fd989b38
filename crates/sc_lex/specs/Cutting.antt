-- How bytes are cut into tokens, with white space and comments between them.
use Rattle.std.specs.Prelude.{◌≡◌, ℕ, ◌+◌, ◌<◌, ◌≤◌, Bool, ◌&&◌, nat_eq, codes, List, [], ◌∷◌, length, take, drop}
use Rattle.std.specs.Prelude.{slice_index, IsTrue, Some, None}
use Rattle.std.specs.List.{starts_with}
use Rattle.sc_lex.specs.Lines.{is_white_space, line_len, newlines, line_after, line_at, begins_line}
use Rattle.sc_lex.specs.Headings.{begins_heading}
use Rattle.sc_lex.specs.Kinds.{token_kind, may_follow, is_directive}
use Rattle.sc_lex.specs.declared.token.Token.{Token}
use Rattle.sc_lex.specs.declared.token.TokenKind.{TokenKind}
use Rattle.sc_lex.specs.declared.refusal.Refusal.{Refusal}
use Rattle.sc_lex.specs.declared.refusal.Phase.TheVariants.{Lex}

abbrev pub begins_block_comment : List ℕ → Bool
begins_block_comment text = starts_with nat_eq text (codes "/*")

abbrev pub begins_line_comment : List ℕ → Bool
begins_line_comment text = starts_with nat_eq text (codes "//")

-- `*/` stands at this place
abbrev pub ends_comment : List ℕ → ℕ → Bool
ends_comment text at = starts_with nat_eq (drop at text) (codes "*/")

-- The prefix of this length of a text lies between tokens: one byte of white space, a comment up to the first `*/`
-- after its opening, or a comment up to the end of its line.
pub data IsGap (text : List ℕ) : ℕ → Type 0 where
  white_space : IsTrue (is_white_space (slice_index text 0)) → IsGap text 1
  block_comment : (at : ℕ) → IsTrue (begins_block_comment text) → 2 ≤ at → IsTrue (ends_comment text at) →
      ((before : ℕ) → 2 ≤ before → before < at → IsTrue (ends_comment text before) → ⊥) → IsGap text (at + 2)
  line_comment : IsTrue (begins_line_comment text) → IsGap text (line_len text)

-- The prefix of length `len` of a text is the token at its start. Directives are allowed in some places only.
pub record IsToken (directives : Bool) (text : List ℕ) (kind : TokenKind) (len : ℕ) : Type 0 where
  pub within : len ≤ length text
  pub spelled : token_kind (take len text) ≡ Some kind
  pub longest : (longer : ℕ) → len < longer → longer ≤ length text → token_kind (take longer text) ≡ None
  pub apart : len < length text → IsTrue (may_follow kind (slice_index text len))
  pub allowed : IsTrue (is_directive kind) → IsTrue directives
  pub no_block_comment : IsTrue (begins_block_comment text) → ⊥
  pub no_line_comment : IsTrue (begins_line_comment text) → ⊥

-- directives stand in the first column, in bytes that begin with a compartment line
abbrev pub allows_directive : List ℕ → ℕ → Bool
allows_directive bytes at = begins_heading bytes && begins_line bytes at

-- the token of this kind and length that stands at this place
abbrev pub token_at : List ℕ → ℕ → TokenKind → ℕ → Token
token_at bytes at kind len = record { kind = kind; start = at; end = at + len; line = line_at bytes at }

-- From one place to another the bytes are tokens, these ones in their order, and gaps.
pub data Cuts (bytes : List ℕ) : ℕ → ℕ → List Token → Type 0 where
  nothing : {at : ℕ} → Cuts bytes at at []
  gap : {at to : ℕ} {tokens : List Token} (len : ℕ) → IsGap (drop at bytes) len → Cuts bytes (at + len) to tokens →
      Cuts bytes at to tokens
  token : {at to : ℕ} {tokens : List Token} (kind : TokenKind) (len : ℕ) →
      IsToken (allows_directive bytes at) (drop at bytes) kind len → Cuts bytes (at + len) to tokens →
      Cuts bytes at to (token_at bytes at kind len ∷ tokens)

-- all of the bytes are cut into these tokens
abbrev pub IsCut : List ℕ → List Token → Type 0
IsCut bytes tokens = Cuts bytes 0 (length bytes) tokens

-- at this place stand bytes that begin neither a gap nor a token
pub record IsStuck (bytes : List ℕ) (at : ℕ) : Type 0 where
  pub more : at < length bytes
  pub no_gap : (len : ℕ) → IsGap (drop at bytes) len → ⊥
  pub no_token : (kind : TokenKind) (len : ℕ) → IsToken (allows_directive bytes at) (drop at bytes) kind len → ⊥

-- The refusal of bytes that begin in this line of a text: they are cut up to a place where nothing goes on, and its
-- line is refused.
pub record RefusesBytes (bytes : List ℕ) (first_line : ℕ) (refusal : Refusal) : Type 0 where
  pub at : ℕ
  pub tokens : List Token
  pub prefix : Cuts bytes 0 at tokens
  pub stuck : IsStuck bytes at
  pub phase : refusal.phase ≡ Lex
  pub line : refusal.line ≡ line_after first_line (newlines (take at bytes))
