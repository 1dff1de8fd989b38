-- Bytes are cut in one way, and what the loop over them keeps.
use Rattle.sc_lex.proofs.Common.{Bool, Cuts, IsCut, IsGap, IsPiece, IsStuck, IsToken, Lex, List, NoPiece, Refusal}
use Rattle.sc_lex.proofs.Common.{RefusesBytes, Some, Token, TokenKind, [], allows_directive, ap, append-nil, ap₂, arith}
use Rattle.sc_lex.proofs.Common.{block_comment, cases_lt, drop, gap, token_kind, length, length-drop, line_after}
use Rattle.sc_lex.proofs.Common.{line_at}
use Rattle.sc_lex.proofs.Common.{line_comment, newlines, none-some, nothing, placed, refl, subst, sym, take, token}
use Rattle.sc_lex.proofs.Common.{token_at, white_space, ℕ, ⊎_elim, ◌++◌, ◌+◌, ◌-◌, ◌<◌, ◌∙◌, ◌∷◌, ◌≡◌, ◌≤◌}
use Rattle.sc_lex.specs.declared.cut.Piece.{Piece}
use Rattle.sc_lex.specs.declared.cut.Piece.TheVariants as pieces
use Rattle.sc_lex.proofs.Gaps.{one_gap, gap_fits, token_positive}
use Rattle.sc_lex.proofs.Prefixes.{white_none}
use Rattle.sc_lex.proofs.Splits.{line_at_end}

-- a gap begins no token
pub gap_and_token : {directives : Bool} {text : List ℕ} {kind : TokenKind} {n m : ℕ} → IsGap text n →
    IsToken directives text kind m → ⊥
gap_and_token {directives} {text} {kind} {m = m} (white_space h) t = white_none text h _ kind m t
gap_and_token (block_comment at h low ends first) t = t.no_block_comment h
gap_and_token (line_comment h) t = t.no_line_comment h

pub token_le : {directives : Bool} {text : List ℕ} {kind other : TokenKind} (n m : ℕ) → IsToken directives text kind n →
    IsToken directives text other m → n ≤ m
token_le {kind = kind} n m t u = ⊎_elim (λ less. absurd (none-some kind (sym (u.longest n less t.within) ∙ t.spelled)))
    (λ le. le) (cases_lt m n)

-- at most one piece is at the start
one_piece : (directives : Bool) (text : List ℕ) (p q : Piece) (n m : ℕ) → IsPiece directives text p n →
    IsPiece directives text q m → (p ≡ q) × (n ≡ m)
one_piece directives text pieces.Gap pieces.Gap n m h g = (refl, one_gap h g)
one_piece directives text pieces.Gap (pieces.Token k) n m h g = absurd (gap_and_token h g)
one_piece directives text (pieces.Token k) pieces.Gap n m h g = absurd (gap_and_token g h)
one_piece directives text (pieces.Token k) (pieces.Token j) n m h g =
    let len : n ≡ m = omega (arith, token_le n m h g, token_le m n g h) in
    let spelled : token_kind _ ≡ Some k = rw len at h.spelled in
    let other = g.spelled in
    let kinds : k ≡ j = cc in
    (ap pieces.Token kinds, len)

-- a piece has a byte, and lies inside
pub piece_fits : (directives : Bool) (text : List ℕ) (p : Piece) (n : ℕ) → IsPiece directives text p n →
    (0 < n) × (n ≤ length text)
piece_fits directives text pieces.Gap n h = gap_fits h
piece_fits directives text (pieces.Token k) n h = (token_positive n h, h.within)

pub token_fits : (directives : Bool) (text : List ℕ) (kind : TokenKind) (n : ℕ) → IsToken directives text kind n →
    (0 < n) × (n ≤ length text)
token_fits directives text kind n t = (token_positive n t, t.within)

pub ruleset fits = (gap_fits, token_fits)

module _ (bytes : List ℕ) where
  -- a piece stands at this place
  abbrev PieceAt : ℕ → Piece → ℕ → Type 0
  PieceAt at p n = IsPiece (allows_directive bytes at) (drop at bytes) p n

  -- nothing goes on at this place
  abbrev Stops : ℕ → Type 0
  Stops at = NoPiece (allows_directive bytes at) (drop at bytes)

  cuts_piece : (p : Piece) (at n to : ℕ) (tokens : List Token) → PieceAt at p n → Cuts bytes (at + n) to tokens →
      Cuts bytes at to (placed p at n (line_at bytes at) ++ tokens)
  cuts_piece pieces.Gap at n to tokens h c = gap n h c
  cuts_piece (pieces.Token k) at n to tokens h c = token k n h c

  cuts_then : {from at to : ℕ} {tokens more : List Token} → Cuts bytes from at tokens → Cuts bytes at to more →
      Cuts bytes from to (tokens ++ more)
  cuts_then nothing d = d
  cuts_then (gap n h c) d = gap n h (cuts_then c d)
  cuts_then (token k n h c) d = token k n h (cuts_then c d)

  -- after a piece the bytes are cut on
  record Next (at to : ℕ) (tokens : List Token) (p : Piece) (n : ℕ) : Type 0 where
    rest : List Token
    is : tokens ≡ placed p at n (line_at bytes at) ++ rest
    cuts : Cuts bytes (at + n) to rest

  next_of : {at to : ℕ} {tokens : List Token} → Cuts bytes at to tokens → Stops to → (p : Piece) (n : ℕ) →
      PieceAt at p n → Next at to tokens p n
  next_of nothing stop p n h = absurd (stop p n h)
  next_of {at} {to} (gap {tokens = ts} m g c) stop p n h =
      let same = one_piece _ (drop at bytes) p pieces.Gap n m h g in
      record { rest = ts; is = rw same.0; cuts = subst (λ k. Cuts bytes (at + k) to ts) (sym same.1) c }
  next_of {at} {to} (token {tokens = ts} k m g c) stop p n h =
      let same = one_piece (allows_directive bytes at) _ p (pieces.Token k) n m h g in
      record { rest = ts; is = rw (same.0, same.1); cuts = subst (λ j. Cuts bytes (at + j) to ts) (sym same.1) c }

  last_of : {at to : ℕ} {tokens : List Token} → Cuts bytes at to tokens → Stops at →
      (at ≡ to) × (◌≡◌ {A = List Token} [] tokens)
  last_of nothing stop = (refl, refl)
  last_of (gap n h c) stop = absurd (stop pieces.Gap n h)
  last_of (token k n h c) stop = absurd (stop (pieces.Token k) n h)

  -- pieces lead from a place to one place where nothing goes on, and to one list of tokens
  one_way : {at to : ℕ} {tokens : List Token} → Cuts bytes at to tokens → Stops to → {end : ℕ} {others : List Token} →
      Cuts bytes at end others → Stops end → (to ≡ end) × (tokens ≡ others)
  one_way nothing stop d stop' = last_of d stop
  one_way (gap n h c) stop d stop' =
      let r = next_of d stop' pieces.Gap n h in
      let same = one_way c stop r.cuts stop' in
      (same.0, same.1 ∙ sym r.is)
  one_way {at} (token k n h c) stop d stop' =
      let r = next_of d stop' (pieces.Token k) n h in
      let same = one_way c stop r.cuts stop' in
      (same.0, ap (λ ts. token_at bytes at k n ∷ ts) same.1 ∙ sym r.is)

  end_stops : Stops (length bytes)
  end_stops p n h = let fits = piece_fits _ _ p n h in
      absurd (omega (arith, fits, length-drop (length bytes) bytes))

  stuck_stops : (at : ℕ) → IsStuck bytes at → Stops at
  stuck_stops at s pieces.Gap n h = s.no_gap n h
  stuck_stops at s (pieces.Token k) n h = s.no_token k n h

  pub one_cut : (tokens others : List Token) → IsCut bytes tokens → IsCut bytes others → tokens ≡ others
  one_cut tokens others c d = (one_way c end_stops d end_stops).1

  pub one_refusal : (line : ℕ) (refusal other : Refusal) → RefusesBytes bytes line refusal →
      RefusesBytes bytes line other → refusal ≡ other
  one_refusal line refusal other r q =
      let same = (one_way r.prefix (stuck_stops r.at r.stuck) q.prefix (stuck_stops q.at q.stuck)).0 in
      let phases = r.phase ∙ sym q.phase in
      let lines = r.line ∙ ap (λ at. line_after line (newlines (take at bytes))) same ∙ sym q.line in
      ap₂ (λ p l. record { phase = p; line = l }) phases lines

  -- what the loop keeps: the bytes are cut up to a place
  pub record Progress (at line : ℕ) (found : List Token) : Type 0 where
    pub within : at ≤ length bytes
    pub in_line : line ≡ line_at bytes at
    pub prefix : Cuts bytes 0 at found

  pub progress_start : Progress 0 1 []
  progress_start = record { within = omega arith; in_line = refl; prefix = nothing }

  pub progress_on : (at line n : ℕ) (found : List Token) (p : Piece) → Progress at line found → PieceAt at p n →
      Progress (at + n) (line_after line (newlines (take n (drop at bytes)))) (found ++ placed p at n line)
  progress_on at line n found p h q =
      let fits = piece_fits _ _ p n q in
      let len : at + n - at ≡ n = omega arith in
      let one = subst (λ ts. Cuts bytes at (at + n) ts) (append-nil _) (cuts_piece p at n _ [] q nothing) in
      record {
        within = omega (arith, fits, h.within, length-drop at bytes);
        in_line = ap (λ l. line_after l (newlines (take n (drop at bytes)))) h.in_line ∙
            (rw len at (line_at_end bytes at (at + n) (omega arith)));
        prefix = rw h.in_line (cuts_then h.prefix one);
      }

  pub progress_refused : (at line first_line : ℕ) (found : List Token) (refusal : Refusal) → Progress at line found →
      at < length bytes → Stops at → refusal ≡ record {
        phase = Lex;
        line = line_after first_line (newlines (take at bytes));
      } → RefusesBytes bytes first_line refusal
  progress_refused at line first_line found refusal h more stop is = record {
    at = at;
    tokens = found;
    prefix = h.prefix;
    stuck = record { more = more; no_gap = λ n g. stop pieces.Gap n g; no_token = λ k n t. stop (pieces.Token k) n t };
    phase = ap (λ r. r.phase) is;
    line = ap (λ r. r.line) is;
  }

  pub progress_uncut : (at line : ℕ) (found : List Token) → Progress at line found → at < length bytes → Stops at →
      (tokens : List Token) → IsCut bytes tokens → ⊥
  progress_uncut at line found h more stop tokens c =
      let same = (one_way h.prefix stop c end_stops).0 in absurd (omega arith)
