-- Expressions in statements, and calls, are read exactly as they are spelled.
use Rattle.sc_parse.proofs.Common.{[], Bool, CallTree, ExprTree, Keyword, Lexeme, List, Mark, None, Option, Prefix}
use Rattle.sc_parse.proofs.Common.{Separated, Some, Spells, SpellsArgs, SpellsCall, SpellsCondition, Symbol, add_arg}
use Rattle.sc_parse.proofs.Common.{all_separated, ap, append_assoc, condition, condition_at, keyword_at, keyword_by}
use Rattle.sc_parse.proofs.Common.{size_of, args_at, arith, arrow, begins_call, begins_with, binary_of, bound, call}
use Rattle.sc_parse.proofs.Common.{call_at, call_height, call_tree, expr_at, expr_height, exprs_height, extension_at}
use Rattle.sc_parse.proofs.Common.{false, false_from_ne_true, false≢true, following, found, index, is_some, joined}
use Rattle.sc_parse.proofs.Common.{lead_by, literal, looser, loosest_level, member, more, most_open, no_args, none-some}
use Rattle.sc_parse.proofs.Common.{one, open_after, open_after_mark, open_low, parenthesised, prefix, prefix_of, read}
use Rattle.sc_parse.proofs.Common.{read_sound, refl, some_args, sym, true, variable, ℕ, ◌++◌, ◌∙◌, ◌∷◌, ◌≡◌, ◌≤◌}
use Rattle.sc_parse.proofs.Bases.{other_mark, mark_is}
use Rattle.sc_parse.proofs.Exact.{Any, Between, Complete, Exact, Form, Hereditary, IsName, Low, Made, Property, Then}
use Rattle.sc_parse.proofs.Exact.{Turns, a_name, after_mark, as_form, before, between_exact, both, chosen, commas_exact}
use Rattle.sc_parse.proofs.Exact.{formed_exact, from_none, items_apart, items_joined, made, made_exact, name_exact}
use Rattle.sc_parse.proofs.Exact.{then_exact, took}
use Rattle.sc_parse_expr.specs.declared.mark.Keyword.TheVariants as word
use Rattle.sc_parse_expr.specs.declared.mark.Mark.TheVariants as mark
use Rattle.sc_parse_expr.specs.declared.lexeme.Symbol.TheVariants as symbol
use Rattle.sc_parse_expr.proofs.Complete.{reads_all}

-- nowhere more brackets are open than may be
abbrev pub Few : (free : ℕ) → List Lexeme → Type 0
Few free ts = most_open 0 ts ≤ free

most_left : (n : ℕ) (ts us : List Lexeme) → most_open n ts ≤ most_open n (ts ++ us)
most_left n [] us = open_low n us
most_left n (t ∷ ts) us = omega (arith, most_left (open_after t.symbol n) ts us)

after_mark_more : (m : Mark) (n k : ℕ) → n ≤ k → open_after_mark m n ≤ open_after_mark m k
after_mark_more mark.OpenParen n k h = omega arith
after_mark_more mark.OpenSquare n k h = omega arith
after_mark_more mark.OpenCurly n k h = omega arith
after_mark_more mark.CloseParen n k h = omega arith
after_mark_more mark.CloseSquare n k h = omega arith
after_mark_more mark.CloseCurly n k h = omega arith
after_mark_more _ n k h = h

after_more : (s : Symbol) (n k : ℕ) → n ≤ k → open_after s n ≤ open_after s k
after_more (symbol.Mark m) n k h = after_mark_more m n k h
after_more _ n k h = h

most_more : (n k : ℕ) (ts : List Lexeme) → n ≤ k → most_open n ts ≤ most_open k ts
most_more n k [] h = h
most_more n k (t ∷ ts) h = omega (
  arith,
  most_more (open_after t.symbol n) (open_after t.symbol k) ts (after_more t.symbol n k h),
)

most_right : (n : ℕ) (ts us : List Lexeme) → most_open 0 us ≤ most_open n (ts ++ us)
most_right n [] us = most_more 0 n us (omega arith)
most_right n (t ∷ ts) us = omega (arith, most_right (open_after t.symbol n) ts us)

pub few : (free : ℕ) → Hereditary (Few free)
few free = record {
  left = λ ts us h. omega (arith, most_left 0 ts us, h);
  right = λ ts us h. omega (arith, most_right 0 ts us, h);
}

-- an expression that is at most `room` high
abbrev pub IsExpr : ℕ → Form ExprTree
IsExpr room = Low (Spells loosest_level) expr_height room

abbrev pub NoExtension : Property
NoExtension rest = extension_at rest ≡ None

pub level_reads : (free : ℕ) {level : ℕ} {ts : List Lexeme} {e : ExprTree} (d : Spells level ts e) (room : ℕ)
    (rest : List Lexeme) → level ≤ 11 → expr_height e ≤ room → Few free ts → NoExtension rest →
    read free room level (ts ++ rest) ≡ Some (found e (expr_height e) rest)
level_reads free d room rest inside low few ends = reads_all d free room _ 0 rest (omega arith) low (omega arith)
    (λ ext at. absurd (none-some ext (sym ends ∙ at)))

pub expr_exact : (free room : ℕ) → Exact (Few free) (IsExpr room) NoExtension (expr_at free room)
unfolding expr_at
expr_exact free room = record {
  sound = λ ts rest x h.
      let b = bound _ _ _ h in
      let m = read_sound free room _ ts b.0 (omega arith) b.1 in
      took m.taken b.2 m.split (m.spelled, omega (arith, m.low, m.measured));
  complete = λ ts x d rest fits ends. rw (level_reads free d.0 room rest (omega arith) d.1 fits ends);
}

-- a condition that is at most `room` high
abbrev pub IsCondition : ℕ → Form ExprTree
IsCondition room = Low SpellsCondition expr_height room

pub condition_exact : (free room : ℕ) → Exact (Few free) (IsCondition room) Any (condition_at free room)
unfolding condition_at
condition_exact free room = formed_exact (between_exact (few free) mark.OpenParen mark.CloseParen
    (expr_exact free room) (λ t rest p. rw p)) joined_condition condition_apart (λ rest h. h)
  where
    joined_condition : Turns (Between mark.OpenParen mark.CloseParen (IsExpr room)) (IsCondition room)
    joined_condition _ _ (after_mark t p (before u q d)) = (condition t u p q d.0, d.1)

    condition_apart : Turns (IsCondition room) (Between mark.OpenParen mark.CloseParen (IsExpr room))
    condition_apart _ _ (condition t u p q d, low) = after_mark t p (before u q (d, low))

-- the reserved word that begins an expression
abbrev leads_expr : Keyword → Bool
leads_expr word.Sizeof = true
leads_expr _ = false

-- what begins an expression
unfoldable pub starts_expr : Symbol → Bool
starts_expr (symbol.Ident name) = true
starts_expr (symbol.Integer number) = true
starts_expr (symbol.Mark m) = is_some (lead_by m)
starts_expr (symbol.Keyword w) = leads_expr w
starts_expr _ = false

unfoldable pub begins_expr : List Lexeme → Bool
unfolding starts_expr
begins_expr [] = false
begins_expr (t ∷ ts) = starts_expr t.symbol

-- what has this value where no reserved word stands and at `sizeof` has it where an expression begins
module _ {A : Type 0} (f : Option Keyword → A) (value : A) (none : f None ≡ value) (size : f (Some word.Sizeof) ≡ value)
  where
    leading_word : (w : Keyword) → leads_expr w ≡ true → f (Some w) ≡ value
    leading_word word.Sizeof h = size
    leading_word _ h = absurd (false≢true h)

    symbol_word : (s : Symbol) → starts_expr s ≡ true → f (keyword_by s) ≡ value
    unfolding starts_expr
    symbol_word (symbol.Keyword w) h = leading_word w h
    symbol_word _ h = none

    pub expr_word : (ts : List Lexeme) → begins_expr ts ≡ true → f (keyword_at ts) ≡ value
    unfolding begins_expr
    expr_word [] h = none
    expr_word (t ∷ ts) h = symbol_word _ h

prefix_leads : (m : Mark) (p : Prefix) → prefix_of m ≡ Some p → is_some (lead_by m) ≡ true
prefix_leads mark.Minus p h = refl
prefix_leads mark.Plus p h = refl
prefix_leads mark.Not p h = refl
prefix_leads mark.Tilde p h = refl
prefix_leads mark.Star p h = refl
prefix_leads mark.And p h = refl
prefix_leads _ p h = absurd (none-some p h)

pub expr_starts : {level : ℕ} {ts : List Lexeme} {e : ExprTree} (d : Spells level ts e) (rest : List Lexeme) →
    begins_expr (ts ++ rest) ≡ true
unfolding begins_expr starts_expr
expr_starts (literal t number p) rest = rw p
expr_starts (variable t name p) rest = rw p
expr_starts (size_of t u v p q r d) rest = rw p
expr_starts (parenthesised t u p q d) rest = rw p
expr_starts (index {ts = ts} {us = us} t u p q d g) rest =
    ap begins_expr (append_assoc ts _ rest) ∙ expr_starts d (t ∷ (us ++ u ∷ []) ++ rest)
expr_starts (member {ts = ts} t u name p q d) rest = ap begins_expr (append_assoc ts _ rest) ∙
    expr_starts d (t ∷ u ∷ rest)
expr_starts (arrow {ts = ts} t u name p q d) rest = ap begins_expr (append_assoc ts _ rest) ∙
    expr_starts d (t ∷ u ∷ rest)
expr_starts (prefix t m o p q d) rest = rw p (prefix_leads m o q)
expr_starts (joined {ts = ts} {us = us} t m op p q k d g) rest =
    ap begins_expr (append_assoc ts _ rest) ∙ expr_starts d (t ∷ us ++ rest)
expr_starts (looser d) rest = expr_starts d rest

pub call_starts : {ts : List Lexeme} {x : CallTree} (d : SpellsCall ts x) (rest : List Lexeme) →
    begins_expr (ts ++ rest) ≡ true
unfolding begins_expr starts_expr
call_starts (call t u v name p q r d) rest = rw p

-- a mark that begins no expression doesn't stand where one begins
pub no_mark : (m : Mark) → is_some (lead_by m) ≡ false → (ts : List Lexeme) → begins_expr ts ≡ true →
    begins_with m ts ≡ false
unfolding begins_expr starts_expr
no_mark m h [] e = refl
no_mark m h (t ∷ ts) e = false_from_ne_true _ (λ q. let is = mark_is m t q in false≢true (sym h ∙ (rw is at e)))

args_start : {ts : List Lexeme} {es : List ExprTree} (d : Separated (Spells loosest_level) ts es) (rest : List Lexeme) →
    begins_expr (ts ++ rest) ≡ true
args_start (one d) rest = expr_starts d rest
args_start (more {ts = ts} {us = us} t p d g) rest = ap begins_expr (append_assoc ts _ rest) ∙
    expr_starts d (t ∷ us ++ rest)

-- `)` follows arguments
abbrev EndsArgs : Property
EndsArgs rest = (NoExtension rest × (following mark.Comma rest ≡ None)) × (begins_with mark.CloseParen rest ≡ true)

args_exact : (free room : ℕ) → Exact (Few free) (Low SpellsArgs exprs_height room) EndsArgs (args_at free room)
unfolding args_at
args_exact free room = record {
  sound = λ ts rest x h. chosen _ _ _ h (λ q e. took [] e refl (no_args, omega arith))
      (λ q e. as_form (λ us y d. let a = items_apart expr_height room d in (some_args a.0, a.1))
      (listed.sound ts rest x e));
  complete = complete;
}
  where
    listed : Exact (Few free) (Separated (IsExpr room)) (λ rest. NoExtension rest × (following mark.Comma rest ≡ None))
        (all_separated (add_arg free room) [])
    listed = from_none (commas_exact (few free) (expr_exact free room) (λ t rest p. rw p))

    complete : Complete (Few free) (Low SpellsArgs exprs_height room) EndsArgs (args_at free room)
    complete _ _ (no_args, low) rest fits ends = rw ends.1
    complete _ _ (some_args d, low) rest fits ends = rw (
      no_mark mark.CloseParen refl _ (args_start d rest),
      listed.complete _ _ (items_joined expr_height room d low) rest fits ends.0,
    )

-- a call whose arguments are at most `room` high
abbrev pub IsCall : ℕ → Form CallTree
IsCall room = Low SpellsCall call_height room

abbrev CallParts : ℕ → Form CallTree
CallParts room = Then IsName (λ name. Made (call_tree name)
    (Between mark.OpenParen mark.CloseParen (Low SpellsArgs exprs_height room)))

pub call_exact : (free room : ℕ) → Exact (Few free) (IsCall room) Any (call_at free room)
unfolding call_at
call_exact free room = formed_exact (then_exact (few free) name_exact (λ name. made_exact (call_tree name)
    (between_exact (few free) mark.OpenParen mark.CloseParen (args_exact free room)
    (λ t rest p. ((rw p, rw p), rw p)))) (λ x us y d rest h. tt)) joined_call call_apart (λ rest h. h)
  where
    joined_call : Turns (CallParts room) (IsCall room)
    joined_call _ _ (both (a_name t name p) (made (after_mark u q (before v r d)))) = (call t u v name p q r d.0, d.1)

    call_apart : Turns (IsCall room) (CallParts room)
    call_apart _ _ (call t u v name p q r d, low) = both (a_name t name p) (made (after_mark u q (before v r (d, low))))

-- an identifier and `(` begin a call
pub call_begins : {ts : List Lexeme} {x : CallTree} (d : SpellsCall ts x) (rest : List Lexeme) →
    begins_call (ts ++ rest) ≡ true
call_begins (call t u v name p q r d) rest = rw (p, q)

-- an expression doesn't begin with an identifier and `(`, where no `(` follows it
pub no_call : {level : ℕ} {ts : List Lexeme} {e : ExprTree} (d : Spells level ts e) (rest : List Lexeme) →
    begins_with mark.OpenParen rest ≡ false → begins_call (ts ++ rest) ≡ false
no_call (literal t number p) rest h = rw p
no_call (variable t name p) rest h = rw (p, h)
no_call (size_of t u v p q r d) rest h = rw p
no_call (parenthesised t u p q d) rest h = rw p
no_call (index {ts = ts} {us = us} t u p q d g) rest h =
    ap begins_call (append_assoc ts _ rest) ∙ no_call d (t ∷ (us ++ u ∷ []) ++ rest) (rw p)
no_call (member {ts = ts} t u name p q d) rest h = ap begins_call (append_assoc ts _ rest) ∙
    no_call d (t ∷ u ∷ rest) (rw p)
no_call (arrow {ts = ts} t u name p q d) rest h = ap begins_call (append_assoc ts _ rest) ∙
    no_call d (t ∷ u ∷ rest) (rw p)
no_call (prefix t m o p q d) rest h = rw p
no_call (joined {ts = ts} {us = us} t m op p q k d g) rest h =
    ap begins_call (append_assoc ts _ rest) ∙ no_call d (t ∷ us ++ rest)
    (other_mark mark.OpenParen m t p (λ same. none-some op (sym (ap binary_of same) ∙ q)))
no_call (looser d) rest h = no_call d rest h
