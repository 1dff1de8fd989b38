-- What reading is at a level of height, at a bracket, and at a turn.
use Rattle.sc_parse_expr.proofs.Common.{Extension, Fails, Found, Lexeme, None, Option, OutOfMemory, Reader}
use Rattle.sc_parse_expr.proofs.Common.{Refused, Some, SyntaxFault, ap, arith, extended_with, extension_within, go_on}
use Rattle.sc_parse_expr.proofs.Common.{level_with, operand_with, read, read_nested, read_within, refl, suc, zero, ℕ}
use Rattle.sc_parse_expr.proofs.Common.{List, [], begins_with, drop, false, false≢true, star_count, true, ◌+◌, ◌<◌, ◌∷◌}
use Rattle.sc_parse_expr.proofs.Common.{◌≡◌}
use Rattle.sc_parse_expr.specs.declared.mark.Mark.TheVariants as mark

pub read_at : (free room below level : ℕ) (ts : List Lexeme) → room ≡ below + 1 →
    read free room level ts ≡ level_with free (read_nested free) (read free below) below level ts
unfolding read read_within
read_at free zero below level ts h = absurd (omega arith)
read_at zero (suc room) below level ts h = let e : room ≡ below = omega arith in rw e
read_at (suc free) (suc room) below level ts h = let e : room ≡ below = omega arith in rw e

pub read_none : (free room level : ℕ) (ts : List Lexeme) → room ≡ 0 → read free room level ts ≡ None
unfolding read read_within
read_none zero zero level ts h = refl
read_none (suc free) zero level ts h = refl
read_none free (suc room) level ts h = absurd (omega arith)

pub nested_at : (free fewer room level : ℕ) (ts : List Lexeme) → free ≡ fewer + 1 →
    read_nested free room level ts ≡ read fewer room level ts
nested_at zero fewer room level ts h = absurd (omega arith)
nested_at (suc free) fewer room level ts h = let e : free ≡ fewer = omega arith in ap (λ k. read k room level ts) e

pub nested_none : (free room level : ℕ) (ts : List Lexeme) → free ≡ 0 → read_nested free room level ts ≡ None
nested_none zero room level ts h = refl
nested_none (suc free) room level ts h = absurd (omega arith)

-- reading a level begins with an operand
pub read_fails : (free room below level : ℕ) (ts : List Lexeme) → room ≡ below + 1 →
    operand_with free (read_nested free) (read free below) below ts ≡ None → read free room level ts ≡ None
read_fails free room below level ts h none = rw (read_at free room below level ts h, none)

pub read_goes : (free room below level turns : ℕ) (ts : List Lexeme) (x : Found) → room ≡ below + 1 → turns ≡ room →
    operand_with free (read_nested free) (read free below) below ts ≡ Some x →
    read free room level ts ≡ go_on (read_nested free) (read free below) below level turns x
read_goes free room below level turns ts x h same some =
    let e : below + 1 ≡ turns = omega arith in rw (read_at free room below level ts h, some, e)

pub fails_on : {X Y : Type 0} (fault : SyntaxFault) (inner : Option X) (outer : Option Y) → Fails fault inner →
    (inner ≡ None → outer ≡ None) → Fails fault outer
fails_on (Refused left) inner outer h on = on h
fails_on OutOfMemory inner outer h on = tt

pub ruleset reads = (read_at, read_none, nested_at, nested_none)

module _ (nested : ℕ → ℕ → Reader) (below : ℕ → Reader) (room : ℕ) where
  pub turns_end : (level turns : ℕ) (x : Found) → 0 < turns → extension_within level x.rest ≡ None →
      go_on nested below room level turns x ≡ Some x
  unfolding go_on
  turns_end level zero x h q = absurd (omega arith)
  turns_end level (suc turns) x h q = rw q

  pub no_turns : (level turns : ℕ) (x : Found) → turns ≡ 0 → go_on nested below room level turns x ≡ None
  unfolding go_on
  no_turns level zero x h = refl
  no_turns level (suc turns) x h = absurd (omega arith)

  pub turns_on : (level turns fewer : ℕ) (x y : Found) (ext : Extension) (ts : List Lexeme) → turns ≡ fewer + 1 →
      extension_within level x.rest ≡ Some (ext, ts) → extended_with nested below room x.tree x.height ext ts ≡ Some y →
      go_on nested below room level turns x ≡ go_on nested below room level fewer y
  unfolding go_on
  turns_on level zero fewer x y ext ts h q r = absurd (omega arith)
  turns_on level (suc turns) fewer x y ext ts h q r = let e : turns ≡ fewer = omega arith in rw (q, r, e)

  pub turns_stop : (level turns : ℕ) (x : Found) (ext : Extension) (ts : List Lexeme) → 0 < turns →
      extension_within level x.rest ≡ Some (ext, ts) → extended_with nested below room x.tree x.height ext ts ≡ None →
      go_on nested below room level turns x ≡ None
  unfolding go_on
  turns_stop level zero x ext ts h q r = absurd (omega arith)
  turns_stop level (suc turns) x ext ts h q r = rw (q, r)

pub ruleset loops = (turns_end, no_turns, turns_on, turns_stop)

pub no_stars : (ts : List Lexeme) → begins_with mark.Star ts ≡ false → star_count ts ≡ 0
unfolding star_count
no_stars [] h = refl
no_stars (t ∷ ts) h = rw h

pub one_star : (ts : List Lexeme) → begins_with mark.Star ts ≡ true →
    (star_count ts ≡ star_count (drop 1 ts) + 1) × (drop (star_count ts) ts ≡ drop (star_count (drop 1 ts)) (drop 1 ts))
unfolding star_count
one_star [] h = absurd (false≢true h)
one_star (t ∷ ts) h =
    let e : star_count (t ∷ ts) ≡ suc (star_count ts) = rw h (omega arith) in
    (omega (arith, e), ap (λ n. drop n (t ∷ ts)) e)

pub ruleset stars = (no_stars, one_star)
