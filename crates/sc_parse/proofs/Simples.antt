-- Assignments, `++` and `--`, `malloc` and `free`, and calls are read exactly as they are spelled.
use Rattle.sc_parse.proofs.Common.{[], BinaryOp, CallTree, ExprTree, IsMark, IsTrue, Lexeme, List, Mark, None, Option}
use Rattle.sc_parse.proofs.Common.{Prefix, SimpleKind, Some, Spells, SpellsKind, SpellsPlace, Symbol, ap, IsKeyword}
use Rattle.sc_parse.proofs.Common.{allocate, allocated_at, free_statement, is_free, is_malloc, keyword_at, release}
use Rattle.sc_parse.proofs.Common.{size_of, append_assoc, arith, arrow, assign, assign_call, assigned_at, assignment_at}
use Rattle.sc_parse.proofs.Common.{begins_call, begins_value, begins_with, bound, call, change_at, change_of, changed}
use Rattle.sc_parse.proofs.Common.{compound, compound_of, cond_is, drop, expr_height, false, false≢true, index}
use Rattle.sc_parse.proofs.Common.{is_place, is_some, joined, lead_by, literal, looser, lt-ltb, ltb-true, makes_value}
use Rattle.sc_parse.proofs.Common.{mark_at, mark_by, max, member, none-some, operand_at, option_map_or, parenthesised}
use Rattle.sc_parse.proofs.Common.{place_at, placed, prefix, prefix_of, prefixed, read_sound, refl, rules}
use Rattle.sc_parse.proofs.Common.{same_some, simple_at, simple_kind_height, step_after, step_at, step_before, step_of}
use Rattle.sc_parse.proofs.Common.{stepped, subst, sym, true, unary_place, unstepped, updates, variable, ℕ, ◌++◌, ◌+◌}
use Rattle.sc_parse.proofs.Common.{◌-◌, ◌<◌, ◌>>=◌, ◌∙◌, ◌∷◌, ◌≡◌, ◌≤◌}
use Rattle.sc_ast.specs.declared.expr.ExprTree.{the_lemmas}
use Rattle.sc_ast.specs.declared.expr.ExprTree.TheVariants as expr
use Rattle.sc_base.specs.declared.op.UnaryOp.{UnaryOp}
use Rattle.sc_ast.specs.declared.stmt.SimpleKind.TheVariants as simple
use Rattle.sc_parse_expr.specs.declared.mark.Keyword.TheVariants as word
use Rattle.sc_parse_expr.specs.declared.mark.Mark.TheVariants as mark
use Rattle.sc_parse_expr.specs.declared.lexeme.Symbol.TheVariants as symbol
use Rattle.sc_parse_expr.specs.declared.operator.Prefix.TheVariants as prefixes
use Rattle.sc_parse_expr.proofs.Heights.{literal_height, joined_height, positive}
use Rattle.sc_parse.specs.declared.simple.Change.{Change}
use Rattle.sc_parse.specs.declared.simple.Change.TheVariants as change
use Rattle.sc_parse.specs.declared.simple.Placed.{Placed}
use Rattle.sc_parse.specs.Statements.{one}
use Rattle.sc_parse.specs.StmtReaders as readers
use Rattle.sc_parse.proofs.Exact.{Complete, Exact, Form, Low, Sound, Taken, Then, Turns, as_form, both, chosen}
use Rattle.sc_parse.proofs.Exact.{fits_after, first_taken, given, made_exact, made_of, then_exact, took, word_ahead}
use Rattle.sc_parse.proofs.Expressions.{Few, IsCall, IsExpr, NoExtension, begins_expr, call_begins, call_exact}
use Rattle.sc_parse.proofs.Expressions.{call_starts, condition_exact, expr_exact, expr_starts, expr_word, few}
use Rattle.sc_parse.proofs.Expressions.{level_reads, no_call, starts_expr}
use Rattle.sc_parse.proofs.Mallocs.{IsAllocation, allocated_exact, allots, argument_height, argument_low, is_free_word}
use Rattle.sc_parse.proofs.Mallocs.{is_malloc_word}

-- the lexemes begin with a mark
pub record Marked (ts : List Lexeme) (m : Mark) : Type 0 where
  pub first : Lexeme
  pub is : ts ≡ first ∷ drop 1 ts
  pub mark : IsMark m first

mark_is_by : (s : Symbol) (m : Mark) → mark_by s ≡ Some m → s ≡ symbol.Mark m
mark_is_by (symbol.Mark other) m h = ap (λ k. symbol.Mark k) (same_some h)
mark_is_by _ m h = absurd (none-some m h)

pub mark_ahead : (ts : List Lexeme) (m : Mark) → mark_at ts ≡ Some m → Marked ts m
mark_ahead [] m h = absurd (none-some m h)
mark_ahead (t ∷ ts) m h = record { first = t; is = refl; mark = mark_is_by _ m h }

-- what a mark after a place does to it
data Changes : Mark → Change → Type 0 where
  sets : Changes mark.Equal change.Set
  by : (m : Mark) (op : BinaryOp) → compound_of m ≡ Some op → Changes m (change.By op)
  steps : (m : Mark) (op : BinaryOp) → step_of m ≡ Some op → Changes m (change.Step op)

change_other : (m : Mark) (c : Change) → option_map_or (λ op. Some (change.By op)) (compound_of m)
    (option_map_or (λ op. Some (change.Step op)) (step_of m) None) ≡ Some c → Changes m c
change_other m c h = given _ _ _ h (λ q e. given _ _ _ e (λ r e. absurd (none-some c e))
    (λ op r e. subst (Changes m) (same_some e) (steps m op r))) (λ op q e. subst (Changes m) (same_some e) (by m op q))

changes : (m : Mark) (c : Change) → change_of m ≡ Some c → Changes m c
changes mark.Equal c h = subst (Changes _) (same_some h) sets
changes _ c h = change_other _ c h

-- a statement that may stand in the head of a `for`, whose parts are at most `room` high
abbrev pub IsSimple : ℕ → Form SimpleKind
IsSimple room = Low SpellsKind simple_kind_height room

-- a place with its height, at most `room` high
abbrev IsPlace : ℕ → Form Placed
IsPlace room ts x = SpellsPlace ts x.place × (x.height ≡ expr_height x.place) × (x.height ≤ room)

unary_no_place : (op : UnaryOp) (e : ExprTree) → is_place (expr.Unary op e) ≡ false
unary_no_place op e = search (rules, the_lemmas)

address_no_place : (e : ExprTree) → is_place (expr.Address e) ≡ false
address_no_place e = search (rules, the_lemmas)

binary_no_place : (op : BinaryOp) (e f : ExprTree) → is_place (expr.Binary op e f) ≡ false
binary_no_place op e f = search (rules, the_lemmas)

star_makes_none : (m : Mark) → prefix_of m ≡ Some prefixes.Dereference → makes_value m ≡ false
star_makes_none mark.Star h = refl
star_makes_none _ h = cc

no_value : (m : Mark) (p : Prefix) (e : ExprTree) → prefix_of m ≡ Some p → IsTrue (is_place (prefixed p e)) →
    makes_value m ≡ false
no_value m prefixes.Dereference e h place = star_makes_none m h
no_value m prefixes.Address e h place = absurd (false≢true (sym (address_no_place e) ∙ place))
no_value m (prefixes.Operator op) e h place = absurd (false≢true (sym (unary_no_place op e) ∙ place))

-- of the operators only `*` begins a place, and none a postfix expression
place_begins : {level : ℕ} {ts : List Lexeme} {e : ExprTree} (d : Spells level ts e) (rest : List Lexeme) →
    (0 < level → IsTrue (is_place e)) → begins_value (ts ++ rest) ≡ false
place_begins (literal t number p) rest h = rw p
place_begins (variable t name p) rest h = rw p
place_begins (size_of t u v p q r d) rest h = rw p
place_begins (parenthesised t u p q d) rest h = rw p
place_begins (index {ts = ts} {us = us} t u p q d g) rest h = ap begins_value (append_assoc ts _ rest) ∙
    place_begins d (t ∷ (us ++ u ∷ []) ++ rest) (λ some. absurd (omega arith))
place_begins (member {ts = ts} t u name p q d) rest h = ap begins_value (append_assoc ts _ rest) ∙
    place_begins d (t ∷ u ∷ rest) (λ some. absurd (omega arith))
place_begins (arrow {ts = ts} t u name p q d) rest h = ap begins_value (append_assoc ts _ rest) ∙
    place_begins d (t ∷ u ∷ rest) (λ some. absurd (omega arith))
place_begins (prefix {e = e} t m o p q d) rest h = rw p (no_value m o e q (h (omega arith)))
place_begins (joined {e = e} {f = f} t m op p q k d g) rest h =
    absurd (false≢true (sym (binary_no_place op e f) ∙ h (omega arith)))
place_begins (looser d) rest h = place_begins d rest (λ some. h (omega arith))

place_exact : (free room : ℕ) → Exact (Few free) (IsPlace room) NoExtension (place_at free room)
unfolding place_at
place_exact free room = record {
  sound = λ ts rest x h. chosen _ None (unary_place free room ts) h (λ q e. absurd (none-some _ e)) (λ q e.
      let b = bound _ _ _ e in
      let m = read_sound free room _ ts b.0 (omega arith) b.1 in
      let c = cond_is _ _ _ b.2 in
      took m.taken c.1 m.split ((m.spelled, c.0), m.measured, m.low));
  complete = λ ts x d rest fits ends.
      let low : expr_height x.place ≤ room = omega (arith, d.1, d.2) in
      rw (place_begins d.0.0 rest (λ some. d.0.1), level_reads free d.0.0 room rest (omega arith) low fits ends, d.0.1)
      (ap (λ n. Some (placed x.place n, rest)) (sym d.1));
}

pub one_height : expr_height one ≡ 1
one_height = literal_height _

-- the height of an assignment that an operator makes
updates_height : (op : BinaryOp) (e f : ExprTree) → simple_kind_height (updates op e f) ≡
    max (expr_height e) (max (expr_height e) (expr_height f) + 1)
updates_height op e f = ap (λ n. max (expr_height e) n) (joined_height op e f)

step_low : (op : BinaryOp) (e : ExprTree) (room : ℕ) → 1 ≤ expr_height e → expr_height e < room →
    simple_kind_height (updates op e one) ≤ room
step_low op e room some h = let a = updates_height op e one in let b = one_height in omega arith

-- What follows a place, from the mark on that says what becomes of it.
data IsChange (room : ℕ) (x : Placed) : List Lexeme → SimpleKind → Type 0 where
  assigns : {us : List Lexeme} {value : ExprTree} (t : Lexeme) → IsMark mark.Equal t → IsExpr room us value →
      IsChange room x (t ∷ us) (simple.Assign x.place value)
  assigns_call : {us : List Lexeme} {call : CallTree} (t : Lexeme) → IsMark mark.Equal t → IsCall room us call →
      IsChange room x (t ∷ us) (simple.AssignCall x.place call)
  allocates : {us : List Lexeme} {k : SimpleKind} (t u : Lexeme) → IsMark mark.Equal t → IsKeyword word.Malloc u →
      IsAllocation room x.place us k → IsChange room x (t ∷ u ∷ us) k
  combines : {us : List Lexeme} {value : ExprTree} (t : Lexeme) (m : Mark) (op : BinaryOp) → IsMark m t →
      compound_of m ≡ Some op → x.height < room → IsExpr (room - 1) us value →
      IsChange room x (t ∷ us) (updates op x.place value)
  moves : (t : Lexeme) (m : Mark) (op : BinaryOp) → IsMark m t → step_of m ≡ Some op → x.height < room →
      IsChange room x (t ∷ []) (updates op x.place one)

change_ahead : (ts : List Lexeme) (c : Change) → change_at ts ≡ Some c → (m : Mark) × Marked ts m × Changes m c
change_ahead ts c h = let b = bound _ _ c h in (b.0, mark_ahead ts b.0 b.1, changes b.0 c b.2)

-- what follows `malloc`
abbrev AfterMalloc : ℕ → Placed → Lexeme → Form SimpleKind
AfterMalloc room x t us k = IsChange room x (t ∷ us) k

malloc_sound : (free room : ℕ) (x : Placed) (ts rest : List Lexeme) (k : SimpleKind) → Marked ts mark.Equal →
    keyword_at (drop 1 ts) ≡ Some word.Malloc → allocated_at free room x.place (drop 1 (drop 1 ts)) ≡ Some (k, rest) →
    Taken (IsChange room x) ts k rest
malloc_sound free room x ts rest k t q h =
    let u = word_ahead (drop 1 ts) word.Malloc q in
    let d = (allocated_exact free room x.place).sound (drop 1 (drop 1 ts)) rest k h in
    let with_word : Taken (AfterMalloc room x t.first) (drop 1 ts) k rest =
    first_taken u.first u.is d (λ us d. allocates t.first u.first t.mark u.keyword d) in
    first_taken t.first t.is with_word (λ us d. d)

-- what follows the mark of such a change
abbrev WithMark : ℕ → Placed → Lexeme → Form SimpleKind
WithMark room x t us k = IsChange room x (t ∷ us) k

change_sound : (free room : ℕ) (x : Placed) →
    Sound (IsChange room x) (λ ts. changed free room (change_at ts) x (drop 1 ts))
unfolding assigned_at operand_at stepped
change_sound free room x ts rest k h = go (change_at ts) refl h
  where
    by_change : (m : Mark) → Marked ts m → (c : Change) → Changes m c →
        changed free room (Some c) x (drop 1 ts) ≡ Some (k, rest) → Taken (IsChange room x) ts k rest
    by_change _ t _ sets e = chosen _ _ _ e (λ q e. malloc_sound free room x ts rest k t (is_malloc_word _ q) e)
        (λ q e. chosen _ _ _ e
        (λ q e. first_taken t.first t.is ((made_exact (simple.AssignCall x.place) (call_exact free room)).sound
        (drop 1 ts) rest k e)
        (λ us d. made_of (WithMark room x t.first) (λ us v d. assigns_call t.first t.mark d) us k d))
        (λ q e. first_taken t.first t.is ((made_exact (simple.Assign x.place) (expr_exact free room)).sound
        (drop 1 ts) rest k e)
        (λ us d. made_of (WithMark room x t.first) (λ us v d. assigns t.first t.mark d) us k d)))
    by_change _ t _ (by m op q) e =
        let c = cond_is _ _ _ e in
        let short = ltb-true _ room c.0 in
        first_taken t.first t.is ((made_exact (λ y. updates op x.place y) (expr_exact free (room - 1))).sound
        (drop 1 ts) rest k c.1)
        (λ us d. made_of (WithMark room x t.first) (λ us v d. combines t.first m op t.mark q short d) us k d)
    by_change _ t _ (steps m op q) e = let c = cond_is _ _ _ e in
        took (t.first ∷ []) c.1 t.is (moves t.first m op t.mark q (ltb-true _ room c.0))

    go : (o : Option Change) → change_at ts ≡ o → changed free room o x (drop 1 ts) ≡ Some (k, rest) →
        Taken (IsChange room x) ts k rest
    go None q e = absurd (none-some (k, rest) e)
    go (Some c) q e = let a = change_ahead ts c q in by_change a.0 a.1 c a.2 e

compound_change : (m : Mark) (op : BinaryOp) → compound_of m ≡ Some op → change_of m ≡ Some (change.By op)
compound_change mark.Equal op h = absurd (none-some op h)
compound_change mark.PlusPlus op h = absurd (none-some op h)
compound_change mark.MinusMinus op h = absurd (none-some op h)
compound_change _ op h = ap (λ o. option_map_or (λ op. Some (change.By op)) o None) h

step_change : (m : Mark) (op : BinaryOp) → step_of m ≡ Some op → change_of m ≡ Some (change.Step op)
step_change mark.PlusPlus op h = ap (λ o. option_map_or (λ op. Some (change.Step op)) o None) h
step_change mark.MinusMinus op h = ap (λ o. option_map_or (λ op. Some (change.Step op)) o None) h
step_change _ op h = absurd (none-some op h)

-- no expression goes on with this mark
abbrev Stops : Mark → Type 0
Stops m = (t : Lexeme) (rest : List Lexeme) → IsMark m t →
    NoExtension (t ∷ rest) × (begins_with mark.OpenParen (t ∷ rest) ≡ false)

stops : (m : Mark) (c : Change) → change_of m ≡ Some c → Stops m
stops mark.Equal c h t rest p = (rw p, rw p)
stops mark.PlusEqual c h t rest p = (rw p, rw p)
stops mark.MinusEqual c h t rest p = (rw p, rw p)
stops mark.StarEqual c h t rest p = (rw p, rw p)
stops mark.SlashEqual c h t rest p = (rw p, rw p)
stops mark.PercentEqual c h t rest p = (rw p, rw p)
stops mark.LessLessEqual c h t rest p = (rw p, rw p)
stops mark.GreaterGreaterEqual c h t rest p = (rw p, rw p)
stops mark.AndEqual c h t rest p = (rw p, rw p)
stops mark.CaretEqual c h t rest p = (rw p, rw p)
stops mark.OrEqual c h t rest p = (rw p, rw p)
stops mark.PlusPlus c h t rest p = (rw p, rw p)
stops mark.MinusMinus c h t rest p = (rw p, rw p)
stops _ c h t rest p = absurd (none-some c h)

-- neither `++` nor `--` begins an expression
lead_no_step : (m : Mark) → is_some (lead_by m) ≡ true → step_of m ≡ None
lead_no_step mark.PlusPlus h = absurd (false≢true h)
lead_no_step mark.MinusMinus h = absurd (false≢true h)
lead_no_step _ h = refl

symbol_no_step : (s : Symbol) → starts_expr s ≡ true → mark_by s >>= step_of ≡ None
unfolding starts_expr
symbol_no_step (symbol.Mark m) h = lead_no_step m h
symbol_no_step _ h = refl

no_step : (ts : List Lexeme) → begins_expr ts ≡ true → step_at ts ≡ None
unfolding begins_expr
no_step [] h = refl
no_step (t ∷ ts) h = symbol_no_step _ h

abbrev pub EndsSimple : List Lexeme → Type 0
EndsSimple rest = NoExtension rest × (begins_with mark.OpenParen rest ≡ false)

change_complete : (free room : ℕ) (x : Placed) → Complete (Few free) (IsChange room x) EndsSimple
    (λ ts. changed free room (change_at ts) x (drop 1 ts))
unfolding assigned_at operand_at stepped
change_complete free room x _ _ (assigns {us = us} t p d) rest fits ends = rw (
  p,
  expr_word is_malloc false refl refl _ (expr_starts d.0 rest),
  no_call d.0 rest ends.1,
  (expr_exact free room).complete _ _ d rest (fits_after (few free) t us fits) ends.0,
)
change_complete free room x _ _ (assigns_call {us = us} t p d) rest fits ends = rw (
  p,
  expr_word is_malloc false refl refl _ (call_starts d.0 rest),
  call_begins d.0 rest,
  (call_exact free room).complete _ _ d rest (fits_after (few free) t us fits) tt,
)
change_complete free room x _ _ (allocates {us = us} t u p q d) rest fits ends = rw (
  p,
  q,
  (allocated_exact free room x.place).complete us _ d rest
      (fits_after (few free) u us (fits_after (few free) t (u ∷ us) fits)) tt,
)
change_complete free room x _ _ (combines {us = us} t m op p q short d) rest fits ends = rw (
  p,
  compound_change m op q,
  lt-ltb _ room short,
  (expr_exact free (room - 1)).complete _ _ d rest (fits_after (few free) t us fits) ends.0,
)
change_complete free room x _ _ (moves t m op p q short) rest fits ends =
    rw (p, step_change m op q, lt-ltb _ room short)

change_stops : {room : ℕ} {x : Placed} {us : List Lexeme} {k : SimpleKind} (d : IsChange room x us k)
    (rest : List Lexeme) → EndsSimple (us ++ rest)
change_stops (assigns {us = us} t p d) rest = stops mark.Equal _ refl t (us ++ rest) p
change_stops (assigns_call {us = us} t p d) rest = stops mark.Equal _ refl t (us ++ rest) p
change_stops (allocates {us = us} t u p q d) rest = stops mark.Equal _ refl t (u ∷ us ++ rest) p
change_stops (combines {us = us} t m op p q short d) rest = stops m _ (compound_change m op q) t (us ++ rest) p
change_stops (moves t m op p q short) rest = stops m _ (step_change m op q) t rest p

-- a place and what becomes of it
abbrev IsAssignment : ℕ → Form SimpleKind
IsAssignment room = Then (IsPlace room) (IsChange room)

assignment_exact : (free room : ℕ) → Exact (Few free) (IsAssignment room) EndsSimple (assignment_at free room)
unfolding assignment_at
assignment_exact free room = then_exact (few free) (place_exact free room)
    (λ x. record { sound = change_sound free room x; complete = change_complete free room x })
    (λ x us k d rest ends. (change_stops d rest).0)

assignment_is : {room : ℕ} → Turns (IsAssignment room) (IsSimple room)
assignment_is _ _ (both d (assigns t p v)) = (assign t p d.0 v.0, omega (arith, d.1, d.2, v.1))
assignment_is _ _ (both d (assigns_call t p v)) = (assign_call t p d.0 v.0, omega (arith, d.1, d.2, v.1))
assignment_is _ _ (both d (allocates t u p q (allots {count = count} {of = of} c))) =
    (allocate t u p q d.0 c.0, omega (arith, d.1, d.2, c.1, argument_low count of))
assignment_is _ _ (both {x = x} d (combines {value = value} t m op p q short v)) =
    (compound t m op p q d.0 v.0, omega (arith, d.1, v.1, updates_height op x.place value))
assignment_is {room} _ _ (both {x = x} d (moves t m op p q short)) =
    (step_after t m op p q d.0, step_low op x.place room (positive d.0.0) (omega (arith, d.1)))

-- what follows `free`
abbrev AfterFree : ℕ → Lexeme → Form SimpleKind
AfterFree room t us k = IsSimple room (t ∷ us) k

freed_sound : (free room : ℕ) (ts rest : List Lexeme) (k : SimpleKind) → keyword_at ts ≡ Some word.Free →
    free_statement free room (drop 1 ts) ≡ Some (k, rest) → Taken (IsSimple room) ts k rest
freed_sound free room ts rest k q h =
    let t = word_ahead ts word.Free q in
    first_taken t.first t.is ((made_exact simple.Free (condition_exact free room)).sound (drop 1 ts) rest k h)
    (λ us d. made_of (AfterFree room t.first) (λ us e d. (release t.first t.keyword d.0, d.1)) us k d)

simple_sound : (free room : ℕ) → Sound (IsSimple room) (simple_at free room)
unfolding simple_at readers.step_before stepped
simple_sound free room ts rest k h = given _ (step_at ts) (unstepped free room ts) h (λ q e. chosen _ _ _ e
    (λ q e. freed_sound free room ts rest k (is_free_word _ q) e) (λ q e. chosen _ _ _ e
    (λ q e. as_form (made_of (IsSimple room) (λ us c d. (call d.0, d.1)))
    ((made_exact simple.Call (call_exact free room)).sound ts rest k e))
    (λ q e. as_form assignment_is ((assignment_exact free room).sound ts rest k e)))) (λ op q e.
    let o = bound _ _ op q in
    let t = mark_ahead ts o.0 o.1 in
    let b = bound _ _ _ e in
    let d = (place_exact free room).sound (drop 1 ts) b.0.1 b.0.0 b.1 in
    let c = cond_is _ _ _ b.2 in
    let low = step_low op b.0.0.place room (positive d.spelled.0.0)
    (omega (arith, d.spelled.1, ltb-true _ room c.0)) in
    took (t.first ∷ d.taken) c.1 (t.is ∙ ap (λ l. t.first ∷ l) d.split)
    (step_before t.first o.0 op t.mark o.2 d.spelled.0, low))

assigned : (free room : ℕ) {ts : List Lexeme} {k : SimpleKind} (d : IsAssignment room ts k) (rest : List Lexeme) →
    Few free ts → EndsSimple rest → simple_at free room (ts ++ rest) ≡ Some (k, rest)
unfolding simple_at
assigned free room (both {ts = ts} {us = us} d c) rest few ends =
    let all = append_assoc ts us rest in
    let starts = ap begins_expr all ∙ expr_starts d.0.0 (us ++ rest) in
    let plain = ap begins_call all ∙ no_call d.0.0 (us ++ rest) (change_stops c rest).1 in
    rw (no_step _ starts, expr_word is_free false refl refl _ starts, plain)
    ((assignment_exact free room).complete _ _ (both d c) rest few ends)

simple_complete : (free room : ℕ) → Complete (Few free) (IsSimple room) EndsSimple (simple_at free room)
unfolding simple_at readers.step_before stepped
simple_complete free room _ _ (assign {place = place} t p d v, low) rest fits ends =
    assigned free room (both {x = placed place (expr_height place)} (d, refl, omega arith)
    (assigns t p (v, omega arith))) rest fits ends
simple_complete free room _ _ (assign_call {place = place} t p d v, low) rest fits ends =
    assigned free room (both {x = placed place (expr_height place)} (d, refl, omega arith)
    (assigns_call t p (v, omega arith))) rest fits ends
simple_complete free room _ _ (compound {place = place} {operand = operand} t m op p q d v, low) rest fits ends =
    let made = updates_height op place operand in
    assigned free room (both {x = placed place (expr_height place)} (d, refl, omega arith)
    (combines t m op p q (omega arith) (v, omega arith))) rest fits ends
simple_complete free room _ _ (step_after {place = place} t m op p q d, low) rest fits ends =
    let made = updates_height op place one in
    let height = one_height in
    assigned free room (both {x = placed place (expr_height place)} (d, refl, omega arith)
    (moves t m op p q (omega arith))) rest fits ends
simple_complete free room _ _ (step_before {ts = ts} {place = place} t m op p q d, low) rest fits ends =
    let made = updates_height op place one in
    let height = one_height in
    let short : expr_height place < room = omega arith in
    let read = (place_exact free room).complete ts (placed place (expr_height place)) (d, refl, omega arith) rest
    (fits_after (few free) t ts fits) ends.0 in
    rw (p, q, read, lt-ltb _ room short)
simple_complete free room _ _ (allocate {place = place} {count = count} {of = of} t u p q d c, low) rest fits ends =
    let some = positive d.0 in
    let argument = argument_height count of in
    assigned free room (both {x = placed place (expr_height place)} (d, refl, omega arith)
    (allocates t u p q (allots (c, omega arith)))) rest fits ends
simple_complete free room _ _ (release {ts = ts} t p d, low) rest fits ends =
    rw (p, (condition_exact free room).complete ts _ (d, low) rest (fits_after (few free) t ts fits) tt)
simple_complete free room _ _ (call d, low) rest fits ends = rw (
  no_step _ (call_starts d rest),
  expr_word is_free false refl refl _ (call_starts d rest),
  call_begins d rest,
  (call_exact free room).complete _ _ (d, low) rest fits tt,
)

pub simple_exact : (free room : ℕ) → Exact (Few free) (IsSimple room) EndsSimple (simple_at free room)
simple_exact free room = record { sound = simple_sound free room; complete = simple_complete free room }
