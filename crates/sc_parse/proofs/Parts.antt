-- Conditions, the parts of a `for`, and statements that hold no others are read exactly as they are spelled.
use Rattle.sc_parse.proofs.Common.{[], CallTree, ExprTree, IsKeyword, IsMark, Keyword, Lexeme, List, Mark, None, Option}
use Rattle.sc_parse.proofs.Common.{SimpleKind, SimpleTree, Some, Spells, SpellsCall, SpellsIf, SpellsKind, SpellsPart}
use Rattle.sc_parse.proofs.Common.{SpellsStmtKind, SpellsTest, StmtKind, StmtTree, allocate, release, a_part, a_test}
use Rattle.sc_parse.proofs.Common.{ap, append_assoc, arith, assign, assign_call, begins_with, bound, break_height, call}
use Rattle.sc_parse.proofs.Common.{choice, compound, cond, cond_is, continue_height, drop, empty}
use Rattle.sc_parse.proofs.Common.{empty_height, ended_at, expr_height, false, false≢true, first_line, first_mark}
use Rattle.sc_parse.proofs.Common.{for_loop, glued, is_base, is_else, is_if, is_some, keyword_at, kind_height}
use Rattle.sc_parse.proofs.Common.{stmt_kind_of, le-leb, lead_by, leb, leb-true, length, length-append, lone_if}
use Rattle.sc_parse.proofs.Common.{no_base, no_part, no_test, not, option_height, otherwise, otherwise_if, part_at}
use Rattle.sc_parse.proofs.Common.{plain_at, plain_height, refl, return_call, return_call_height, return_height}
use Rattle.sc_parse.proofs.Common.{return_nothing, return_value, returned, simple_at, simple_or_none, simple_tree}
use Rattle.sc_parse.proofs.Common.{step_after, step_before, step_of, stmt_tree, sym, test_at, true, value_height}
use Rattle.sc_parse.proofs.Common.{value_returned, while_loop, ℕ, ◌++◌, ◌-◌, ◌<◌, ◌>>=◌, ◌∙◌, ◌∷◌, ◌≡◌, ◌≤◌}
use Rattle.sc_parse_expr.specs.declared.mark.Mark.TheVariants as mark
use Rattle.sc_parse.specs.Statements as statements
use Rattle.sc_parse.proofs.Exact.{Complete, Exact, Form, Low, Property, as_form, chosen, took, Sound, Taken}
use Rattle.sc_parse.proofs.Exact.{first_taken, made_exact, made_of, word_ahead}
use Rattle.sc_parse.proofs.Bases.{other_mark}
use Rattle.sc_parse.proofs.Expressions.{Few, NoExtension, begins_expr, call_starts, expr_exact, expr_starts, expr_word}
use Rattle.sc_parse.proofs.Expressions.{no_mark, call_exact}
use Rattle.sc_parse.proofs.Simples.{EndsSimple, simple_exact, one_height}
use Rattle.sc_parse.specs.Statements.{plain}
use Rattle.sc_ast.specs.declared.stmt.StmtKind.TheVariants as stmt
use Rattle.sc_parse_expr.specs.declared.mark.Keyword.TheVariants as word

call_some : {ts : List Lexeme} {x : CallTree} (d : SpellsCall ts x) → 0 < length ts
call_some (statements.call t u v name p q r d) = omega arith

pub kind_some : {ts : List Lexeme} {k : SimpleKind} (d : SpellsKind ts k) → 0 < length ts
kind_some (assign {ts = ts} {us = us} t p d v) = omega (arith, length-append ts (t ∷ us))
kind_some (assign_call {ts = ts} {us = us} t p d v) = omega (arith, length-append ts (t ∷ us))
kind_some (compound {ts = ts} {us = us} t m op p q d v) = omega (arith, length-append ts (t ∷ us))
kind_some (call d) = call_some d
kind_some (step_after {ts = ts} t m op p q d) = omega (arith, length-append ts (t ∷ []))
kind_some (step_before t m op p q d) = omega arith
kind_some (allocate {ts = ts} {us = us} t u p q d c) = omega (arith, length-append ts (t ∷ u ∷ us))
kind_some (release t p c) = omega arith

pub first_line_some : (ts rest : List Lexeme) → 0 < length ts → first_line (ts ++ rest) ≡ first_line ts
first_line_some [] rest h = absurd (omega arith)
first_line_some (t ∷ ts) rest h = refl

after_place : {A : Type 0} (f : List Lexeme → A) (value : A) {level : ℕ} {ts : List Lexeme} {e : ExprTree}
    (d : Spells level ts e) (us rest : List Lexeme) → ((l : List Lexeme) → begins_expr l ≡ true → f l ≡ value) →
    f ((ts ++ us) ++ rest) ≡ value
after_place f value {level} {ts} d us rest h = ap f (append_assoc ts us rest) ∙ h _ (expr_starts d _)

-- what begins a simple statement: an expression, a step, or `free`
kind_start : {A : Type 0} (f : List Lexeme → A) (value : A) → ((l : List Lexeme) → begins_expr l ≡ true → f l ≡ value) →
    ((t : Lexeme) (m : Mark) (l : List Lexeme) → IsMark m t → is_some (step_of m) ≡ true → f (t ∷ l) ≡ value) →
    ((t : Lexeme) (l : List Lexeme) → IsKeyword word.Free t → f (t ∷ l) ≡ value) →
    {ts : List Lexeme} {k : SimpleKind} (d : SpellsKind ts k) (rest : List Lexeme) → f (ts ++ rest) ≡ value
kind_start f value by_expr by_step by_free (assign {us = us} t p d v) rest = after_place f value d.0
    (t ∷ us) rest by_expr
kind_start f value by_expr by_step by_free (assign_call {us = us} t p d v) rest =
    after_place f value d.0 (t ∷ us) rest by_expr
kind_start f value by_expr by_step by_free (compound {us = us} t m op p q d v) rest =
    after_place f value d.0 (t ∷ us) rest by_expr
kind_start f value by_expr by_step by_free (call d) rest = by_expr _ (call_starts d rest)
kind_start f value by_expr by_step by_free (step_after t m op p q d) rest = after_place f value d.0
    (t ∷ []) rest by_expr
kind_start f value by_expr by_step by_free (step_before t m op p q d) rest = by_step t m _ p (ap is_some q)
kind_start f value by_expr by_step by_free (allocate {us = us} t u p q d c) rest =
    after_place f value d.0 (t ∷ u ∷ us) rest by_expr
kind_start f value by_expr by_step by_free (release t p c) rest = by_free t _ p

-- only two reserved words begin a simple statement
pub kind_word : {A : Type 0} (f : Option Keyword → A) (value : A) → f None ≡ value → f (Some word.Sizeof) ≡ value →
    f (Some word.Free) ≡ value → {ts : List Lexeme} {k : SimpleKind} (d : SpellsKind ts k) (rest : List Lexeme) →
    f (keyword_at (ts ++ rest)) ≡ value
kind_word f value none size free d rest = kind_start (λ l. f (keyword_at l)) value (expr_word f value none size)
    (λ t m l p q. rw p none) (λ t l p. rw p free) d rest

-- a mark that begins neither an expression nor a step doesn't begin a simple statement
pub kind_no_mark : (m : Mark) → is_some (lead_by m) ≡ false → is_some (step_of m) ≡ false →
    {ts : List Lexeme} {k : SimpleKind} (d : SpellsKind ts k) (rest : List Lexeme) → begins_with m (ts ++ rest) ≡ false
kind_no_mark m h s d rest = kind_start (begins_with m) false (no_mark m h) (λ t n l p q. other_mark m n t p
    (λ same. false≢true (sym s ∙ ap (λ k. is_some (step_of k)) (sym same) ∙ q))) (λ t l p. rw p) d rest

-- a part of a `for`, at most `room` high
abbrev pub IsPart : ℕ → Form (Option SimpleTree)
IsPart room = Low SpellsPart option_height room

-- a part is followed by its mark, which begins no simple statement
abbrev pub EndsPart : Mark → Property
EndsPart m rest = EndsSimple rest × (begins_with m rest ≡ true)

pub part_exact : (free room : ℕ) (m : Mark) → is_some (lead_by m) ≡ false → is_some (step_of m) ≡ false →
    Exact (Few free) (IsPart room) (EndsPart m) (part_at free room m)
unfolding part_at
part_exact free room m h s = record {
  sound = λ ts rest x h. chosen _ _ (cond (leb 1 room) (simple_at free (room - 1) ts >>=
      (λ x. Some (Some (simple_tree (first_line ts) x.0), x.1))) None) h
      (λ q e. took [] e refl (no_part, omega arith)) (λ q e.
      let c = cond_is (leb 1 room) _ (x, rest) e in
      let some = leb-true 1 room c.0 in
      let b = bound (λ x. Some _) (simple_at free (room - 1) ts) (x, rest) c.1 in
      let k = (simple_exact free (room - 1)).sound ts b.0.1 b.0.0 b.1 in
      let line = ap first_line k.split ∙ first_line_some k.taken b.0.1 (kind_some k.spelled.0) in
      took k.taken b.2 k.split (a_part (k.spelled.0, line), omega (arith, k.spelled.1)));
  complete = complete;
}
  where
    complete : Complete (Few free) (IsPart room) (EndsPart m) (part_at free room m)
    complete _ _ (no_part, low) rest fits ends = rw ends.1
    complete _ _ (a_part {ts = ts} {tree = tree} d, low) rest fits ends =
        let some : 1 ≤ room = omega arith in
        let read = (simple_exact free (room - 1)).complete _ _ (d.0, omega arith) rest fits ends.0 in
        let line : first_line (ts ++ rest) ≡ tree.line = first_line_some ts rest (kind_some d.0) ∙ sym d.1 in
        rw (kind_no_mark m h s d.0 rest, le-leb 1 room some, read, line)

-- the condition of a `for`, at most `room` high
abbrev pub IsTest : ℕ → Form ExprTree
IsTest room = Low SpellsTest expr_height room

pub test_exact : (free room : ℕ) → Exact (Few free) (IsTest room)
    (λ rest. NoExtension rest × (begins_with mark.Semicolon rest ≡ true)) (test_at free room)
unfolding test_at
test_exact free room = record {
  sound = λ ts rest x h. chosen _ _ _ h (λ q e.
      let c = cond_is _ _ _ e in
      let some = leb-true 1 room c.0 in
      let height = one_height in
      took [] c.1 refl (no_test, omega arith))
      (λ q e. as_form (λ us y d. (a_test d.0, d.1)) ((expr_exact free room).sound ts rest x e));
  complete = complete;
}
  where
    complete : Complete (Few free) (IsTest room) (λ rest. NoExtension rest × (begins_with mark.Semicolon rest ≡ true))
        (test_at free room)
    complete _ _ (no_test, low) rest fits ends =
        let height = one_height in let some : 1 ≤ room = omega arith in rw (ends.1, le-leb 1 room some)
    complete _ _ (a_test d, low) rest fits ends = rw (
      no_mark mark.Semicolon refl _ (expr_starts d rest),
      (expr_exact free room).complete _ _ (d, low) rest fits ends.0,
    )

abbrev pub NoElse : List Lexeme → Type 0
NoElse rest = is_else (keyword_at rest) ≡ false

-- what a statement begins with
pub record Starts (ts : List Lexeme) (k : StmtKind) : Type 0 where
  pub some : 0 < length ts
  pub no_end : (rest : List Lexeme) → begins_with mark.CloseCurly (ts ++ rest) ≡ false
  pub no_else : (rest : List Lexeme) → NoElse (ts ++ rest)
  pub no_base : (rest : List Lexeme) → no_base (ts ++ rest) ≡ true
  pub an_if : (rest : List Lexeme) → is_if (keyword_at (ts ++ rest)) ≡ true → SpellsIf ts k

-- an `if` begins with its word, and no other statement with that
word_starts : (t : Lexeme) (ts : List Lexeme) (k : StmtKind) (w : Keyword) → IsKeyword w t → is_else (Some w) ≡ false →
    is_base (Some w) ≡ false → (is_if (Some w) ≡ true → SpellsIf (t ∷ ts) k) → Starts (t ∷ ts) k
word_starts t ts k w p q r an_if = record {
  some = omega arith;
  no_end = λ rest. rw p;
  no_else = λ rest. rw (p, q);
  no_base = λ rest. rw (p, r);
  an_if = λ rest h. an_if (rw p at h);
}

if_starts : {ts : List Lexeme} {k : StmtKind} (d : SpellsIf ts k) → Starts ts k
if_starts (lone_if t p c b) = word_starts t _ _ _ p refl refl (λ h. lone_if t p c b)
if_starts (otherwise t u p q c b e) = word_starts t _ _ _ p refl refl (λ h. otherwise t u p q c b e)
if_starts (otherwise_if t u p q c b e) = word_starts t _ _ _ p refl refl (λ h. otherwise_if t u p q c b e)

pub kind_starts : {ts : List Lexeme} {k : StmtKind} (d : SpellsStmtKind ts k) → Starts ts k
kind_starts (empty t p) = record {
  some = omega arith;
  no_end = λ rest. rw p;
  no_else = λ rest. rw p;
  no_base = λ rest. rw p;
  an_if = λ rest h. absurd (false≢true (rw p at h));
}
kind_starts (plain {ts = ts} t p d) = record {
  some = omega (arith, length-append ts (t ∷ []));
  no_end = λ rest. ap (begins_with mark.CloseCurly) (append_assoc ts _ rest) ∙
      kind_no_mark mark.CloseCurly refl refl d (t ∷ rest);
  no_else = λ rest. ap (λ l. is_else (keyword_at l)) (append_assoc ts (t ∷ []) rest) ∙
      kind_word is_else false refl refl refl d (t ∷ rest);
  no_base = λ rest. ap no_base (append_assoc ts _ rest) ∙
      kind_word (λ o. not (is_base o)) true refl refl refl d (t ∷ rest);
  an_if = λ rest h. absurd (false≢true (sym (ap (λ l. is_if (keyword_at l)) (append_assoc ts (t ∷ []) rest) ∙
      kind_word is_if false refl refl refl d (t ∷ rest)) ∙ h));
}
kind_starts (statements.break t u p q) = word_starts t _ _ _ p refl refl (λ h. absurd (false≢true h))
kind_starts (statements.continue t u p q) = word_starts t _ _ _ p refl refl (λ h. absurd (false≢true h))
kind_starts (return_nothing t u p q) = word_starts t _ _ _ p refl refl (λ h. absurd (false≢true h))
kind_starts (return_value t u p q d) = word_starts t _ _ _ p refl refl (λ h. absurd (false≢true h))
kind_starts (return_call t u p q d) = word_starts t _ _ _ p refl refl (λ h. absurd (false≢true h))
kind_starts (choice d) = if_starts d
kind_starts (while_loop t p c b) = word_starts t _ _ _ p refl refl (λ h. absurd (false≢true h))
kind_starts (for_loop t u v w x p q r s k f c n b) = word_starts t _ _ _ p refl refl (λ h. absurd (false≢true h))

-- a kind of statement whose parts are at most `room` high
abbrev pub IsKind : ℕ → Form StmtKind
IsKind room = Low SpellsStmtKind kind_height room

-- a statement that is at most `room` high
pub data IsStmt (room : ℕ) : List Lexeme → StmtTree → Type 0 where
  a_stmt : {ts : List Lexeme} {k : StmtKind} → SpellsStmtKind ts k → kind_height k < room →
      IsStmt room ts (stmt_tree (first_line ts) k)

pub stmt_starts : {room : ℕ} {ts : List Lexeme} {x : StmtTree} (d : IsStmt room ts x) → Starts ts x.kind
stmt_starts (a_stmt d h) = kind_starts d

-- what is a statement with a `;` after it
abbrev Unended : ℕ → Form StmtKind
Unended room ts k = (u : Lexeme) → IsMark mark.Semicolon u → IsKind room (ts ++ u ∷ []) k

-- what follows `return`
abbrev Returned : ℕ → Form StmtKind
Returned room us k = (t : Lexeme) → IsKeyword word.Return t → Unended room (t ∷ us) k

word_sound : (ts : List Lexeme) (word : Keyword) (rest : List Lexeme) (k x : StmtKind) (room : ℕ) →
    keyword_at ts ≡ Some word → ((t : Lexeme) → IsKeyword word t → Unended room (t ∷ []) k) →
    ◌≡◌ {A = Option (StmtKind × List Lexeme)} (Some (k, drop 1 ts)) (Some (x, rest)) → Taken (Unended room) ts x rest
word_sound ts word rest k x room q make h = let t = word_ahead ts word q in
    took (t.first ∷ []) h t.is (make t.first t.keyword)

returned_sound : (free room : ℕ) (ts rest : List Lexeme) (x : StmtKind) → keyword_at ts ≡ Some word.Return →
    returned free room (drop 1 ts) ≡ Some (x, rest) → Taken (Unended room) ts x rest
unfolding returned
returned_sound free room ts rest x q h = chosen _ _ (value_returned free room (drop 1 ts)) h
    (λ n e. word_sound ts word.Return rest stmt.Return x room q
    (λ t p u r. (return_nothing t u p r, omega (arith, return_height))) e) (λ n e.
    let t = word_ahead ts word.Return q in
    let d : Taken (Returned room) (drop 1 ts) x rest = chosen _ _ _ e
    (λ n e. as_form (made_of (Returned room) (λ us c d t p u r.
    (return_call t u p r d.0, omega (arith, return_call_height c, d.1))))
    ((made_exact (λ c. stmt.ReturnCall c) (call_exact free room)).sound (drop 1 ts) rest x e))
    (λ n e. as_form (made_of (Returned room) (λ us v d t p u r.
    (return_value t u p r d.0, omega (arith, value_height v, d.1))))
    ((made_exact (λ v. stmt.ReturnValue v) (expr_exact free room)).sound (drop 1 ts) rest x e)) in
    first_taken t.first t.is d (λ us d. d t.first t.keyword))

simple_sound : (free room : ℕ) → Sound (Unended room) (simple_or_none free room)
simple_sound free room ts rest x h = chosen _ _ _ h
    (λ q e. took [] e refl (λ u p. (empty u p, omega (arith, empty_height))))
    (λ q e. as_form (made_of (Unended room) (λ us k d u p. (plain u p d.0, omega (arith, plain_height k, d.1))))
    ((made_exact (λ k. stmt_kind_of k) (simple_exact free room)).sound ts rest x e))

unended_sound : (free room : ℕ) → Sound (Unended room) (λ ts. plain_at free room (keyword_at ts) ts)
unfolding plain_at
unended_sound free room ts rest x h = go (keyword_at ts) refl h
  where
    go : (o : Option Keyword) → keyword_at ts ≡ o → plain_at free room o ts ≡ Some (x, rest) →
        Taken (Unended room) ts x rest
    go (Some word.Break) q e = word_sound ts word.Break rest stmt.Break x room q
        (λ t p u r. (statements.break t u p r, omega (arith, break_height))) e
    go (Some word.Continue) q e = word_sound ts word.Continue rest stmt.Continue x room q
        (λ t p u r. (statements.continue t u p r, omega (arith, continue_height))) e
    go (Some word.Return) q e = returned_sound free room ts rest x q e
    go _ q e = simple_sound free room ts rest x e

pub ended_sound : (free room : ℕ) → Sound (IsKind room) (ended_at free room)
unfolding ended_at
ended_sound free room ts rest x h =
    let b = bound _ _ _ h in
    let c = bound _ _ _ b.2 in
    let d = unended_sound free room ts b.0.1 b.0.0 b.1 in
    let u = first_mark mark.Semicolon b.0.1 c.0 c.1 in
    took (d.taken ++ u.0 ∷ []) c.2 (glued c.0 d.taken (u.0 ∷ []) d.split u.1) (d.spelled u.0 u.2)
