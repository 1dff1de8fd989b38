-- Blocks and the statements that hold them are read exactly as they are spelled.
use Rattle.sc_parse.proofs.Common.{[], ExprTree, Grouped, IsKeyword, IsMark, Keyword, Lexeme, List, Option, Reader}
use Rattle.sc_parse.proofs.Common.{SimpleKind, Some, SpellsBlock, SpellsIf, SpellsStmts, StmtKind, StmtTree, after_else}
use Rattle.sc_parse.proofs.Common.{after_for, after_if, after_while, ap, append-nil, append_assoc, arith, begins_with}
use Rattle.sc_parse.proofs.Common.{block, block_at, bound, choice, drop, else_at, empty, ended_at, false}
use Rattle.sc_parse.proofs.Common.{false≢true, first_line, first_part, for_head, for_height, for_loop, for_parts}
use Rattle.sc_parse.proofs.Common.{if_height, is_else, is_if, keyword_at, kind_by, kind_height, stmt_kind_of, last_part}
use Rattle.sc_parse.proofs.Common.{lone_if, loop_of, middle_part, none-some, otherwise, otherwise_if, plain_at}
use Rattle.sc_parse.proofs.Common.{plain_height, refl, return_call, return_call_height, return_nothing, return_value}
use Rattle.sc_parse.proofs.Common.{returned, simple_at, simple_or_none, stmt_at, stmt_tree, stmt_within, stmts_at}
use Rattle.sc_parse.proofs.Common.{stmts_height, subst, suc, sym, tree_height, true, value_height, while_height}
use Rattle.sc_parse.proofs.Common.{while_loop, zero, ℕ, ◌++◌, ◌<◌, ◌∙◌, ◌∷◌, ◌≡◌, ◌≤◌}
use Rattle.sc_parse.specs.Statements.{plain}
use Rattle.sc_ast.specs.declared.stmt.StmtKind.TheVariants as stmt
use Rattle.sc_parse_expr.specs.declared.mark.Keyword.TheVariants as word
use Rattle.sc_parse_expr.specs.declared.mark.Mark.TheVariants as mark
use Rattle.sc_parse.specs.Lists as lists
use Rattle.sc_parse.specs.Statements as statements
use Rattle.sc_parse.specs.declared.stmts.ForHead.{ForHead}
use Rattle.sc_parse.proofs.Exact.{Any, Before, AfterWord, Between, Complete, Exact, Form, Low, Made, One, Property}
use Rattle.sc_parse.proofs.Exact.{Sound, Taken, Then, Turns, adds_exact, after_mark, as_form, before, before_exact}
use Rattle.sc_parse.proofs.Exact.{after_word, between_exact, both, chosen, fits_after, formed_exact, from_none}
use Rattle.sc_parse.proofs.Exact.{first_taken, grouped_exact, made, made_exact, single, then_exact, took, word_ahead}
use Rattle.sc_parse.proofs.Exact.{word_taken}
use Rattle.sc_parse.proofs.Bases.{mark_is}
use Rattle.sc_parse.proofs.Expressions.{Few, IsCondition, condition_exact, call_begins, call_exact, call_starts}
use Rattle.sc_parse.proofs.Expressions.{expr_exact, expr_starts, few, no_call, no_mark}
use Rattle.sc_parse.proofs.Simples.{simple_exact}
use Rattle.sc_parse.proofs.Parts.{IsPart, IsTest, first_line_some, kind_no_mark, kind_word, part_exact, test_exact}
use Rattle.sc_parse.proofs.Parts.{IsKind, IsStmt, NoElse, Starts, a_stmt, ended_sound, kind_starts, stmt_starts}

-- lexemes that begin with `}` don't begin with `else`
end_no_else : (rest : List Lexeme) → begins_with mark.CloseCurly rest ≡ true → NoElse rest
end_no_else [] h = refl
end_no_else (t ∷ ts) h = let is = mark_is mark.CloseCurly t h in rw is

is_else_word : (o : Option Keyword) → is_else o ≡ true → o ≡ Some word.Else
is_else_word (Some word.Else) h = refl
is_else_word _ h = absurd (false≢true h)

-- a block, and statements up to `}`, at most `room` high
abbrev pub IsBlock : ℕ → Form (List StmtTree)
IsBlock room = Low SpellsBlock stmts_height room

abbrev pub IsStmts : ℕ → Form (List StmtTree)
IsStmts room = Low SpellsStmts stmts_height room

abbrev pub AtEnd : Property
AtEnd rest = begins_with mark.CloseCurly rest ≡ true

-- what may follow the first block of an `if`
pub data IsElse (room : ℕ) : List Lexeme → List StmtTree → Type 0 where
  nothing : IsElse room [] []
  a_block : {ts : List Lexeme} {ss : List StmtTree} (u : Lexeme) → IsKeyword word.Else u → SpellsBlock ts ss →
      stmts_height ss ≤ room → IsElse room (u ∷ ts) ss
  an_if : {ts : List Lexeme} {k : StmtKind} (u : Lexeme) → IsKeyword word.Else u → SpellsIf ts k →
      kind_height k < room → IsElse room (u ∷ ts) (stmt_tree (first_line ts) k ∷ [])

stmts_apart : {room : ℕ} → Turns (Grouped (One (IsStmt room))) (IsStmts room)
stmts_apart _ _ lists.none = (statements.none, omega arith)
stmts_apart _ _ (lists.next (single (a_stmt {ts = ts} {k = k} d h)) g) =
    let others = stmts_apart _ _ g in
    let height = tree_height (first_line ts) k in
    (statements.next d others.0, omega (arith, others.1))

stmts_joined : {room : ℕ} → Turns (IsStmts room) (Grouped (One (IsStmt room)))
stmts_joined _ _ (statements.none, low) = lists.none
stmts_joined _ _ (statements.next {ts = ts} {kind = k} d g, low) = let height = tree_height (first_line ts) k in
    lists.next (single (a_stmt d (omega arith))) (stmts_joined _ _ (g, omega arith))

one_starts : {room : ℕ} {ts : List Lexeme} {ss : List StmtTree} (d : One (IsStmt room) ts ss) →
    (k : StmtKind) × Starts ts k
one_starts (single {x = x} d) = (x.kind, stmt_starts d)

if_begins : {ts : List Lexeme} {k : StmtKind} (d : SpellsIf ts k) (rest : List Lexeme) →
    is_if (keyword_at (ts ++ rest)) ≡ true
if_begins (lone_if t p c b) rest = rw p
if_begins (otherwise t u p q c b e) rest = rw p
if_begins (otherwise_if t u p q c b e) rest = rw p

block_no_if : {ts : List Lexeme} {ss : List StmtTree} (d : SpellsBlock ts ss) (rest : List Lexeme) →
    is_if (keyword_at (ts ++ rest)) ≡ false
block_no_if (block t u p q d) rest = rw p

plain_ended : (free : ℕ) → (room : ℕ) (ts : List Lexeme) (t : Lexeme) (rest : List Lexeme) (k : SimpleKind) →
    IsMark mark.Semicolon t → plain_at free room (keyword_at ts) ts ≡ simple_or_none free room ts →
    begins_with mark.Semicolon ts ≡ false → simple_at free room ts ≡ Some (k, t ∷ rest) →
    ended_at free room ts ≡ Some (stmt_kind_of k, rest)
unfolding ended_at
plain_ended free room ts t rest k p none other read = rw (none, other, read, p)

-- what follows the words `if`, `while` and `for`, in parts that are at most `room` high
abbrev IfParts : ℕ → Form StmtKind
IfParts room = Then (IsCondition room) (λ c. Then (IsBlock room) (λ th. Made (stmt.If c th) (IsElse room)))

abbrev WhileParts : ℕ → Form StmtKind
WhileParts room = Then (IsCondition room) (λ c. Made (stmt.While c) (IsBlock room))

abbrev ForHeads : ℕ → Form ForHead
ForHeads room = Then (Between mark.OpenParen mark.Semicolon (IsPart room)) (λ first.
    Then (Before mark.Semicolon (λ c. c) (IsTest room)) (λ c.
    Made (for_parts first c) (Before mark.CloseParen (λ next. next) (IsPart room))))

abbrev ForParts : ℕ → Form StmtKind
ForParts room = Then (ForHeads room) (λ head. Made (loop_of head) (IsBlock room))

if_made : {room : ℕ} {ts us vs : List Lexeme} {c : ExprTree} {th : List StmtTree} {x : StmtKind} (t : Lexeme) →
    IsKeyword word.If t → IsCondition room ts c → IsBlock room us th → Made (stmt.If c th) (IsElse room) vs x →
    IsKind room (t ∷ (ts ++ (us ++ vs))) x
if_made {room} {ts} {us} {c = c} {th = th} t p k b (made nothing) =
    let height = if_height c th [] in
    subst (λ l. IsKind room (t ∷ (ts ++ l)) (stmt.If c th [])) (sym (append-nil us))
    (choice (lone_if t p k.0 b.0), omega (arith, k.1, b.1))
if_made {c = c} {th = th} t p k b (made {x = e} (a_block u q d low)) =
    (choice (otherwise t u p q k.0 b.0 d), omega (arith, k.1, b.1, low, if_height c th e))
if_made {c = c} {th = th} t p k b (made {x = e} (an_if {ts = ts} {k = kind} u q d low)) =
    let heights = if_height c th e in
    (choice (otherwise_if t u p q k.0 b.0 d), omega (arith, k.1, b.1, low, tree_height (first_line ts) kind))

if_is : {room : ℕ} → Turns (AfterWord word.If (IfParts room)) (IsKind room)
if_is _ _ (after_word t p (both k (both b e))) = if_made t p k b e

if_apart : {room : ℕ} {ts : List Lexeme} {x : StmtKind} → SpellsIf ts x → kind_height x ≤ room →
    AfterWord word.If (IfParts room) ts x
if_apart {room} (lone_if {ts = ts} {us = us} {cond = c} {then_part = th} t p k b) low = let height =
    if_height c th [] in
    subst (λ l. AfterWord word.If (IfParts room) (t ∷ (ts ++ l)) (stmt.If c th [])) (append-nil us)
    (after_word t p (both (k, omega arith) (both (b, omega arith) (made nothing))))
if_apart (otherwise {cond = c} {then_part = th} {else_part = e} t u p q k b d) low = let height = if_height c th e in
    after_word t p (both (k, omega arith) (both (b, omega arith) (made (a_block u q d (omega arith)))))
if_apart (otherwise_if {vs = vs} {cond = c} {then_part = th} {kind = kind} t u p q k b d) low =
    let height = if_height c th (stmt_tree (first_line vs) kind ∷ []) in
    let one = tree_height (first_line vs) kind in
    after_word t p (both (k, omega arith) (both (b, omega arith) (made (an_if u q d (omega arith)))))

while_is : {room : ℕ} → Turns (AfterWord word.While (WhileParts room)) (IsKind room)
while_is _ _ (after_word t p (both {x = c} k (made {x = body} b))) =
    (while_loop t p k.0 b.0, omega (arith, k.1, b.1, while_height c body))

for_lexemes : (u v w x : Lexeme) (ts us vs ws : List Lexeme) →
    ((u ∷ (ts ++ v ∷ [])) ++ ((us ++ w ∷ []) ++ (vs ++ x ∷ []))) ++ ws ≡ u ∷ (ts ++ v ∷ (us ++ w ∷ (vs ++ x ∷ ws)))
for_lexemes u v w x ts us vs ws = simp append_assoc

for_is : {room : ℕ} → Turns (AfterWord word.For (ForParts room)) (IsKind room)
for_is {room} _ _ (after_word t p (both (both (after_mark u q (before {ts = ts} {x = first} v r f))
    (both (before {ts = us} {x = c} w s k) (made (before {ts = vs} {x = next} x l n))))
    (made {ts = ws} {x = body} b))) =
    subst (λ l. IsKind room (t ∷ l) (stmt.For first c next body)) (sym (for_lexemes u v w x ts us vs ws))
    (for_loop t u v w x p q r s l f.0 k.0 n.0 b.0, omega (arith, f.1, k.1, n.1, b.1, for_height first c next body))

module _ (free : ℕ) (room : ℕ) (inner : Reader StmtTree) (exact : Exact (Few free) (IsStmt room) NoElse inner) where
  inner_exact : Exact (Few free) (IsStmts room) AtEnd (stmts_at inner)
  inner_exact = formed_exact (from_none (grouped_exact (few free) _ (adds_exact exact)
      (λ us rest zs d. (one_starts d).1.no_end rest) (λ us zs d. (one_starts d).1.some) end_no_else
      (λ us rest zs d. (one_starts d).1.no_else rest))) stmts_apart stmts_joined (λ rest h. h)

  block_exact : Exact (Few free) (IsBlock room) Any (block_at inner)
  unfolding block_at
  block_exact = formed_exact (between_exact (few free) mark.OpenCurly mark.CloseCurly inner_exact (λ t rest p. rw p))
      joined_block block_apart (λ rest h. h)
    where
      joined_block : Turns (Between mark.OpenCurly mark.CloseCurly (IsStmts room)) (IsBlock room)
      joined_block _ _ (after_mark t p (before u q d)) = (block t u p q d.0, d.1)

      block_apart : Turns (IsBlock room) (Between mark.OpenCurly mark.CloseCurly (IsStmts room))
      block_apart _ _ (block t u p q d, low) = after_mark t p (before u q (d, low))

  if_inner : {ts : List Lexeme} {ss : List StmtTree} (u : Lexeme) → IsKeyword word.Else u → (rest : List Lexeme) →
      is_if (keyword_at (ts ++ rest)) ≡ true → Made (λ x. x ∷ []) (IsStmt room) ts ss → IsElse room (u ∷ ts) ss
  if_inner u p rest h (made (a_stmt d low)) = an_if u p ((kind_starts d).an_if rest h) low

  else_sound : Sound (IsElse room) (else_at inner)
  unfolding else_at after_else
  else_sound ts rest x h = chosen _ _ _ h (λ q e.
      let t = word_ahead ts word.Else (is_else_word _ q) in
      chosen _ _ _ e (λ q e.
      let d = (made_exact (λ x. x ∷ []) exact).sound (drop 1 ts) rest x e in
      let begins = ap (λ l. is_if (keyword_at l)) (sym d.split) ∙ q in
      record {
        taken = t.first ∷ d.taken;
        split = t.is ∙ ap (λ l. t.first ∷ l) d.split;
        spelled = if_inner t.first t.keyword rest begins d.spelled;
      }) (λ q e. first_taken t.first t.is (block_exact.sound (drop 1 ts) rest x e)
      (λ us d. a_block t.first t.keyword d.0 d.1))) (λ q e. took [] e refl nothing)

  else_complete : Complete (Few free) (IsElse room) NoElse (else_at inner)
  unfolding else_at after_else
  else_complete _ _ nothing rest fits ends = rw ends
  else_complete _ _ (a_block {ts = ts} u p d low) rest fits ends =
      rw (p, block_no_if d rest, block_exact.complete ts _ (d, low) rest (fits_after (few free) u ts fits) tt)
  else_complete _ _ (an_if {ts = ts} u p d low) rest fits ends = rw (
    p,
    if_begins d rest,
    exact.complete ts _ (a_stmt (choice d) low) rest (fits_after (few free) u ts fits) ends,
  )

  if_exact : Exact (Few free) (IfParts room) NoElse (after_if free inner room)
  unfolding after_if
  if_exact = then_exact (few free) (condition_exact free room) (λ c. then_exact (few free) block_exact (λ th.
      made_exact (stmt.If c th) (record { sound = else_sound; complete = else_complete })) (λ x us y d rest h. tt))
      (λ x us y d rest h. tt)

  while_exact : Exact (Few free) (WhileParts room) Any (after_while free inner room)
  unfolding after_while
  while_exact = then_exact (few free) (condition_exact free room) (λ c. made_exact (stmt.While c) block_exact)
      (λ x us y d rest h. tt)

  for_exact : Exact (Few free) (ForParts room) Any (after_for free inner room)
  unfolding after_for for_head first_part middle_part last_part
  for_exact = then_exact (few free) (then_exact (few free)
      (between_exact (few free) mark.OpenParen mark.Semicolon (part_exact free room mark.Semicolon refl refl)
      (λ t rest p. ((rw p, rw p), rw p))) (λ first. then_exact (few free)
      (before_exact (few free) mark.Semicolon (λ c. c) (test_exact free room) (λ t rest p. (rw p, rw p)))
      (λ c. made_exact (for_parts first c) (before_exact (few free) mark.CloseParen (λ next. next)
      (part_exact free room mark.CloseParen refl refl) (λ t rest p. ((rw p, rw p), rw p))))
      (λ x us y d rest h. tt)) (λ x us y d rest h. tt)) (λ head. made_exact (loop_of head) block_exact)
      (λ x us y d rest h. tt)

  kind_sound : Sound (IsKind room) (λ ts. kind_by free inner room (keyword_at ts) ts)
  kind_sound ts rest x h = go (keyword_at ts) refl h
    where
      go : (o : Option Keyword) → keyword_at ts ≡ o → kind_by free inner room o ts ≡ Some (x, rest) →
          Taken (IsKind room) ts x rest
      go (Some word.If) q e = as_form if_is (word_taken ts q (if_exact.sound (drop 1 ts) rest x e))
      go (Some word.While) q e = as_form while_is (word_taken ts q (while_exact.sound (drop 1 ts) rest x e))
      go (Some word.For) q e = as_form for_is (word_taken ts q (for_exact.sound (drop 1 ts) rest x e))
      go _ q e = ended_sound free room ts rest x e

  if_reads : {ts : List Lexeme} {k : StmtKind} (d : AfterWord word.If (IfParts room) ts k) (rest : List Lexeme) →
      Few free ts → NoElse rest → kind_by free inner room (keyword_at (ts ++ rest)) (ts ++ rest) ≡ Some (k, rest)
  if_reads (after_word {ts = ts} t p d) rest fits ends =
      rw p (if_exact.complete ts _ d rest (fits_after (few free) t ts fits) ends)

  kind_complete : Complete (Few free) (IsKind room) NoElse (λ ts. kind_by free inner room (keyword_at ts) ts)
  unfolding ended_at plain_at returned
  kind_complete _ _ (empty t p, low) rest fits ends = rw p
  kind_complete _ _ (plain {ts = ts} {kind = k} t p d, low) rest fits ends =
      let height = plain_height k in
      let read = (simple_exact free room).complete ts k (d, omega arith) (t ∷ rest)
      ((few free).left ts (t ∷ []) fits) (rw p, rw p) in
      let none = kind_word (λ o. plain_at free room o (ts ++ t ∷ rest)) _ refl refl refl d (t ∷ rest) in
      ap (λ l. kind_by free inner room (keyword_at l) l) (append_assoc ts (t ∷ []) rest)
      ∙ kind_word (λ o. kind_by free inner room o (ts ++ t ∷ rest)) _ refl refl refl d (t ∷ rest)
      ∙ plain_ended free room (ts ++ t ∷ rest) t rest k p none (kind_no_mark mark.Semicolon refl refl d (t ∷ rest)) read
  kind_complete _ _ (statements.break t u p q, low) rest fits ends = rw (p, q)
  kind_complete _ _ (statements.continue t u p q, low) rest fits ends = rw (p, q)
  kind_complete _ _ (return_nothing t u p q, low) rest fits ends = rw (p, q)
  kind_complete _ _ (return_value {ts = ts} {value = e} t u p q d, low) rest fits ends =
      let height = value_height e in
      let read = (expr_exact free room).complete ts e (d, omega arith) (u ∷ rest)
      ((few free).left ts (u ∷ []) (fits_after (few free) t _ fits)) (rw q) in
      let other = no_mark mark.Semicolon refl (ts ++ u ∷ rest) (expr_starts d (u ∷ rest)) in
      ap (λ l. kind_by free inner room (keyword_at (t ∷ l)) (t ∷ l)) (append_assoc ts (u ∷ []) rest) ∙
      rw (p, other, no_call d (u ∷ rest) (rw q), read, q)
  kind_complete _ _ (return_call {ts = ts} {call = c} t u p q d, low) rest fits ends =
      let height = return_call_height c in
      let read = (call_exact free room).complete ts c (d, omega arith) (u ∷ rest)
      ((few free).left ts (u ∷ []) (fits_after (few free) t _ fits)) tt in
      let other = no_mark mark.Semicolon refl (ts ++ u ∷ rest) (call_starts d (u ∷ rest)) in
      ap (λ l. kind_by free inner room (keyword_at (t ∷ l)) (t ∷ l)) (append_assoc ts (u ∷ []) rest) ∙
      rw (p, other, call_begins d (u ∷ rest), read, q)
  kind_complete _ _ (choice d, low) rest fits ends = if_reads (if_apart d low) rest fits ends
  kind_complete _ _ (while_loop {ts = ts} {us = us} {cond = c} {body = body} t p k b, low) rest fits ends =
      let height = while_height c body in
      rw p (while_exact.complete (ts ++ us) _ (both (k, omega arith) (made (b, omega arith))) rest
      (fits_after (few free) t (ts ++ us) fits) tt)
  kind_complete _ _ (
    for_loop {ts = ts} {us = us} {vs = vs} {ws = ws} {first = first} {next = next} {cond = c}
        {body = body} t u v w x p q r s k f g n b,
    low,
  ) rest fits ends =
      let height = for_height first c next body in
      let all = for_lexemes u v w x ts us vs ws in
      let inside = fits_after (few free) t (u ∷ (ts ++ v ∷ (us ++ w ∷ (vs ++ x ∷ ws)))) fits in
      rw p (ap (λ l. after_for free inner room (l ++ rest)) (sym all) ∙
      for_exact.complete _ _ (both (both (after_mark u q (before v r (f, omega arith)))
      (both (before w s (g, omega arith)) (made (before x k (n, omega arith))))) (made (b, omega arith))) rest
      (subst (Few free) (sym all) inside) tt)

  pub within_exact : Exact (Few free) (IsStmt (suc room)) NoElse (stmt_within free inner room)
  unfolding stmt_within
  within_exact = record {
    sound = λ ts rest x h.
        let b = bound _ _ _ h in
        let k = kind_sound ts b.0.1 b.0.0 b.1 in
        let line = ap first_line k.split ∙ first_line_some k.taken b.0.1 (kind_starts k.spelled.0).some in
        took k.taken b.2 k.split (subst (λ n. IsStmt (suc room) k.taken (stmt_tree n b.0.0)) (sym line)
        (a_stmt k.spelled.0 (omega (arith, k.spelled.1))));
    complete = complete;
  }
    where
      complete : Complete (Few free) (IsStmt (suc room)) NoElse (stmt_within free inner room)
      complete _ _ (a_stmt {ts = ts} d low) rest fits ends =
          rw (kind_complete _ _ (d, omega arith) rest fits ends, first_line_some ts rest (kind_starts d).some)

no_stmt : {ts : List Lexeme} {x : StmtTree} (d : IsStmt 0 ts x) → ⊥
no_stmt (a_stmt d low) = omega arith

-- a statement that is at most `room` high
pub stmt_exact : (free room : ℕ) → Exact (Few free) (IsStmt room) NoElse (stmt_at free room)
unfolding stmt_at
stmt_exact free zero = record {
  sound = λ ts rest x h. absurd (none-some _ h);
  complete = λ ts x d rest fits ends. absurd (no_stmt d);
}
stmt_exact free (suc room) =
    let w = within_exact free room (stmt_at free room) (stmt_exact free room) in
    record { sound = w.sound; complete = w.complete }

pub stmts_exact : (free room : ℕ) → Exact (Few free) (IsStmts room) AtEnd (stmts_at (stmt_at free room))
stmts_exact free room = inner_exact free room _ (stmt_exact free room)
