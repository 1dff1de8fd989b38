-- What the loops of readers are at a turn.
use Rattle.sc_parse.proofs.Common.{Adder, Bool, Directives, Lexeme, Line, List, None, Option, Some, ap, arith, drop}
use Rattle.sc_parse.proofs.Common.{false, grouped, line_at, lines_at, refl, separated, stmt_at, stmt_within, suc, true}
use Rattle.sc_parse.proofs.Common.{with_line, zero, ℕ, ◌+◌, ◌<◌, ◌≡◌}

module _ {A : Type 0} (comma : List Lexeme → Option (List Lexeme)) (adder : Adder A) where
  pub item_last : (turns : ℕ) (xs ys : List A) (ts us : List Lexeme) → 0 < turns → adder xs ts ≡ Some (ys, us) →
      comma us ≡ None → separated comma adder turns xs ts ≡ Some (ys, us)
  unfolding separated
  item_last zero xs ys ts us h q r = absurd (omega arith)
  item_last (suc turns) xs ys ts us h q r = rw (q, r)

  pub item_next : (turns fewer : ℕ) (xs ys : List A) (ts us vs : List Lexeme) → turns ≡ fewer + 1 → adder xs ts ≡
      Some (ys, us) → comma us ≡ Some vs → separated comma adder turns xs ts ≡ separated comma adder fewer ys vs
  unfolding separated
  item_next zero fewer xs ys ts us vs h q r = absurd (omega arith)
  item_next (suc turns) fewer xs ys ts us vs h q r = let e : turns ≡ fewer = omega arith in rw (q, r, e)

  pub no_item : (turns : ℕ) (xs : List A) (ts : List Lexeme) → adder xs ts ≡ None →
      separated comma adder turns xs ts ≡ None
  unfolding separated
  no_item zero xs ts q = refl
  no_item (suc turns) xs ts q = rw q

  pub no_turn : (turns : ℕ) (xs : List A) (ts : List Lexeme) → turns ≡ 0 → separated comma adder turns xs ts ≡ None
  unfolding separated
  no_turn zero xs ts h = refl
  no_turn (suc turns) xs ts h = absurd (omega arith)

pub ruleset turns = (item_last, item_next, no_item, no_turn)

module _ {A : Type 0} (ends : List Lexeme → Bool) (group : Adder A) where
  pub group_last : (turns : ℕ) (xs : List A) (ts : List Lexeme) → 0 < turns → ends ts ≡ true →
      grouped ends group turns xs ts ≡ Some (xs, ts)
  unfolding grouped
  group_last zero xs ts h q = absurd (omega arith)
  group_last (suc turns) xs ts h q = rw q

  pub group_next : (turns fewer : ℕ) (xs ys : List A) (ts us : List Lexeme) → turns ≡ fewer + 1 → ends ts ≡ false →
      group xs ts ≡ Some (ys, us) → grouped ends group turns xs ts ≡ grouped ends group fewer ys us
  unfolding grouped
  group_next zero fewer xs ys ts us h q r = absurd (omega arith)
  group_next (suc turns) fewer xs ys ts us h q r = let e : turns ≡ fewer = omega arith in rw (q, r, e)

  pub no_group : (turns : ℕ) (xs : List A) (ts : List Lexeme) → ends ts ≡ false → group xs ts ≡ None →
      grouped ends group turns xs ts ≡ None
  unfolding grouped
  no_group zero xs ts q r = refl
  no_group (suc turns) xs ts q r = rw (q, r)

  pub no_round : (turns : ℕ) (xs : List A) (ts : List Lexeme) → turns ≡ 0 → grouped ends group turns xs ts ≡ None
  unfolding grouped
  no_round zero xs ts h = refl
  no_round (suc turns) xs ts h = absurd (omega arith)

pub ruleset groups = (group_last, group_next, no_group, no_round)

pub stmt_step : (free : ℕ) → (room below : ℕ) (ts : List Lexeme) → room ≡ below + 1 →
    stmt_at free room ts ≡ stmt_within free (stmt_at free below) below ts
unfolding stmt_at
stmt_step free zero below ts h = absurd (omega arith)
stmt_step free (suc room) below ts h = let e : room ≡ below = omega arith in
    ap (λ k. stmt_within free (stmt_at free k) k ts) e

pub no_room : (free : ℕ) → (room : ℕ) (ts : List Lexeme) → room ≡ 0 → stmt_at free room ts ≡ None
unfolding stmt_at
no_room free zero ts h = refl
no_room free (suc room) ts h = absurd (omega arith)

pub ruleset depths = (stmt_step, no_room)

pub lines_end : (turns : ℕ) (found : Directives) (ts : List Lexeme) → 0 < turns → line_at ts ≡ None →
    lines_at turns found ts ≡ Some (found, ts)
unfolding lines_at
lines_end zero found ts h q = absurd (omega arith)
lines_end (suc turns) found ts h q = rw q

pub lines_on : (turns fewer : ℕ) (found : Directives) (ts : List Lexeme) (l : Line) → turns ≡ fewer + 1 →
    line_at ts ≡ Some l → lines_at turns found ts ≡ lines_at fewer (with_line found l) (drop 1 ts)
unfolding lines_at
lines_on zero fewer found ts l h q = absurd (omega arith)
lines_on (suc turns) fewer found ts l h q = let e : turns ≡ fewer = omega arith in rw (q, e)

pub no_lines : (turns : ℕ) (found : Directives) (ts : List Lexeme) → turns ≡ 0 → lines_at turns found ts ≡ None
unfolding lines_at
no_lines zero found ts h = refl
no_lines (suc turns) found ts h = absurd (omega arith)

pub ruleset lines = (lines_end, lines_on, no_lines)
