-- Reading gives exactly the prefixes within the limits, and lexemes spell one expression at most.
use Rattle.sc_base.specs.Prelude.{most_brackets, most_height}
use Rattle.sc_parse_expr.proofs.Common.{Agrees, Err, ExprTree, Found, IfOk, IsErrOf, IsParse, Lexeme, List, Ok}
use Rattle.sc_parse_expr.proofs.Common.{Refused, Result, Some, Spells, SyntaxFault, [], ap, arith, expr_height, found}
use Rattle.sc_parse_expr.proofs.Common.{max, most_open, none-some, read, read_expr, subst, sym, ℕ, ◌-◌, ◌<◌, ◌∙◌, ◌≡◌}
use Rattle.sc_parse_expr.proofs.Common.{◌≤◌}
use Rattle.sc_parse_expr.specs.declared.parser.Built.{Built}
use Rattle.sc_parse_expr.proofs.Ahead.{same_some}
use Rattle.sc_parse_expr.proofs.Balance.{open_low}
use Rattle.sc_parse_expr.proofs.Sound.{read_sound}
use Rattle.sc_parse_expr.proofs.Complete.{reads_all}

-- an expression that a prefix spells is read
pub parse_complete : (level count : ℕ) (ts : List Lexeme) (e : ExprTree) (rest : List Lexeme) →
    IsParse level count ts e rest → read_expr level count ts ≡ Some (found e (expr_height e) rest)
parse_complete level count ts e rest h =
    let opened = open_low count h.taken in
    let few = h.few in
    ap (λ k. read (most_brackets - count) most_height level k) h.split ∙
    reads_all h.spelled (most_brackets - count) most_height level count rest (omega arith) h.low (omega arith)
    (λ ext at. omega (arith, h.ends ext at))

pub parses_agree : (level count : ℕ) (ts : List Lexeme) (e f : ExprTree) (rest more : List Lexeme) →
    IsParse level count ts e rest → IsParse level count ts f more → (e ≡ f) × (rest ≡ more)
parses_agree level count ts e f rest more h k =
    let same = same_some (sym (parse_complete level count ts e rest h) ∙ parse_complete level count ts f more k) in
    (ap (λ x. x.tree) same, ap (λ x. x.rest) same)

pub trees_agree : (level : ℕ) (ts : List Lexeme) (e f : ExprTree) → Spells level ts e → Spells level ts f → e ≡ f
trees_agree level ts e f d g =
    let room = max (expr_height e) (expr_height f) in
    let free = most_open 0 ts in
    let first = reads_all d free room level 0 [] (omega arith) (omega arith) (omega arith)
    (λ ext at. absurd (none-some ext at)) in
    let second = reads_all g free room level 0 [] (omega arith) (omega arith) (omega arith)
    (λ ext at. absurd (none-some ext at)) in
    ap (λ x. x.tree) (same_some (sym first ∙ second))

abbrev Answer : Type 0
Answer = Result Built SyntaxFault

abbrev seen : List Lexeme → Built → Found
seen rest x = found x.tree x.height rest

-- what is read is spelled by a prefix, and its height is that of the tree
pub found_parse : (level count : ℕ) (ts rest : List Lexeme) (answer : Answer) → 0 < level → count ≤ most_brackets →
    Agrees (seen rest) answer (read_expr level count ts) → IfOk answer (λ x. IsParse level count ts x.tree rest)
found_parse level count ts rest (Ok x) some opened h =
    let r = read_sound _ most_height level ts _ some h in
    record {
      taken = r.taken;
      split = r.split;
      spelled = r.spelled;
      low = omega (arith, r.low, r.measured);
      few = omega (arith, r.few count);
      ends = λ ext at. omega (arith, r.onward ext at);
    }
found_parse level count ts rest (Err fault) some opened h = tt

pub found_height : (level count : ℕ) (ts rest : List Lexeme) (answer : Answer) → 0 < level →
    Agrees (seen rest) answer (read_expr level count ts) → IfOk answer (λ x. x.height ≡ expr_height x.tree)
found_height level count ts rest (Ok x) some h = (read_sound _ most_height level ts _ some h).measured
found_height level count ts rest (Err fault) some h = tt

-- no prefix spells an expression where nothing is read
pub refused_parse : (level count : ℕ) (ts rest : List Lexeme) (answer : Answer) →
    Agrees (seen rest) answer (read_expr level count ts) → (left : ℕ) → IsErrOf answer (Refused left) →
    (e : ExprTree) (more : List Lexeme) → IsParse level count ts e more → ⊥
refused_parse level count ts rest answer h left is e more parsed = none-some _
    (sym (subst (λ k. Agrees (seen rest) k (read_expr level count ts)) is h) ∙
    parse_complete level count ts e more parsed)
