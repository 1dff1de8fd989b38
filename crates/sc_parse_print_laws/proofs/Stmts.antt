-- Statements without their lines, what each of those that are kept is, and that their words spell them.
use Rattle.sc_parse_print_laws.proofs.Common.{[], TypeName, kept_base, kept_malloc, kept_value, malloc_argument}
use Rattle.sc_parse_print_laws.proofs.Common.{malloc_words, Bool, CallTree, Each, ExprTree, Inside, IsKeyword, IsMark}
use Rattle.sc_parse_print_laws.proofs.Common.{IsTrue, Keyword, Layout, Lexeme, List, None, Option, Piece, SimpleKind}
use Rattle.sc_parse_print_laws.proofs.Common.{SimpleTree, Some, Spells, SpellsArgs, SpellsBlock, SpellsCall}
use Rattle.sc_parse_print_laws.proofs.Common.{SpellsCondition, SpellsIf, SpellsKind, SpellsPart, SpellsPlace}
use Rattle.sc_parse_print_laws.proofs.Common.{SpellsStmtKind, SpellsStmts, StmtKind, StmtKind-F, StmtTree, StmtsSpell}
use Rattle.sc_parse_print_laws.proofs.Common.{after_else, all_kept, and_parts, ap, append-nil, append_assoc, ap₂}
use Rattle.sc_parse_print_laws.proofs.Common.{are_kept, arith, bare_stmt, blank, block_words, call_words, chain_words}
use Rattle.sc_parse_print_laws.proofs.Common.{codes, comma, condition_words, deeper, else_words, ended, eqb-true}
use Rattle.sc_parse_print_laws.proofs.Common.{equals, everywhere as everywhere_holds, expr_words, false, false≢true}
use Rattle.sc_parse_print_laws.proofs.Common.{first_line, first_words, for_words, if_words, if◌then◌else◌, indent}
use Rattle.sc_parse_print_laws.proofs.Common.{is_chain, is_ident, is_kept, is_kept_stmt, join_by, kept_call, kept_kind}
use Rattle.sc_parse_print_laws.proofs.Common.{kept_option, kept_place, kept_simple, kind_layout, layouts, length}
use Rattle.sc_parse_print_laws.proofs.Common.{line_of, lineless_kind, lineless_option, lineless_stmt, lineless_stmts}
use Rattle.sc_parse_print_laws.proofs.Common.{lines_at, list_all, loosest_level, map, map-StmtKind, ne_eqb, newline}
use Rattle.sc_parse_print_laws.proofs.Common.{next_words, no_args, place_words, refl, return_words, roll-StmtKind}
use Rattle.sc_parse_print_laws.proofs.Common.{rules, simple_words, some_args, stmt_at, stmt_induction, stmt_layout}
use Rattle.sc_parse_print_laws.proofs.Common.{subst, sym, symbols, true, word, word_symbol, ℕ, ◌&&◌, ◌++◌, ◌==◌, ◌∙◌}
use Rattle.sc_parse_print_laws.proofs.Common.{◌∷◌, ◌≡◌}
use Rattle.sc_ast.specs.Prelude.{stmt_kind_of}
use Rattle.sc_ast.specs.StmtWords as printing
use Rattle.sc_ast.specs.declared.expr.ExprTree as exprs
use Rattle.sc_ast.specs.declared.stmt.StmtTree as trees
use Rattle.sc_ast.specs.declared.stmt.StmtKind as kinds
use Rattle.sc_ast.specs.declared.stmt.StmtKind.TheVariants as stmt
use Rattle.sc_parse_print_laws.specs.KeptStmts as kept
use Rattle.sc_ast.specs.declared.stmt.SimpleKind.TheVariants as simple
use Rattle.sc_parse_expr.specs.declared.mark.Mark.TheVariants as mark
use Rattle.sc_parse.specs.Statements as spell
use Rattle.sc_parse_print_laws.proofs.Tables as tables
use Rattle.sc_ast.specs.declared.stmt.StmtKind.TheOpen as layer
use Rattle.sc_parse_expr.specs.declared.mark.Keyword.TheVariants as keyword
use Rattle.sc_parse_print_laws.proofs.Reading.{Say, Reading, fixed, part, written, reads, separated, line_symbols}
use Rattle.sc_parse_print_laws.proofs.Literals.{name_says}
use Rattle.sc_parse_print_laws.proofs.Spelling.{spelled_at}
use Rattle.sc_parse_print_laws.proofs.Tables.{lone_says, open_paren, close_paren, semicolon, open_curly, close_curly}

pub all_at : (stmts : List StmtTree) → all_kept (map is_kept_stmt stmts) ≡ true → list_all is_kept_stmt stmts ≡ true
all_at [] h = refl
all_at (s ∷ stmts) h =
    let parts = and_parts _ (all_kept (map _ stmts)) h in
    rw (parts.0, all_at stmts parts.1)

-- what holds of a statement that is kept
abbrev pub Kept : (StmtTree → Type 0) → StmtTree → Type 0
Kept P s = IsTrue (is_kept_stmt s) → P s

pub kept_each : (P : StmtTree → Type 0) (stmts : List StmtTree) → Each (Kept P) stmts →
    list_all is_kept_stmt stmts ≡ true → Each P stmts
kept_each P [] each k = tt
kept_each P (s ∷ stmts) each k =
    let parts = and_parts (is_kept_stmt s) _ k in
    (each.0 parts.0, kept_each P stmts each.1 parts.1)

pub each_kept : (P : StmtTree → Type 0) (stmts : List StmtTree) → ((s : StmtTree) → Kept P s) →
    all_kept (map is_kept_stmt stmts) ≡ true → Each P stmts
each_kept P stmts all k = kept_each P stmts (everywhere_holds _ all stmts) (all_at stmts k)

abbrev pub Of : (Layout → StmtKind → Type 0) → StmtTree → Type 0
Of P s = P (stmt_layout s) s.kind

-- P of the words of each kind of statement, from that of the statements inside
abbrev pub Forms : (Layout → StmtKind → Type 0) → Type 0
Forms P = (k : StmtKind-F StmtKind StmtTree) → Inside (Kept (Of P)) k →
    IsTrue (kept.kind_step (map-StmtKind _ _ _ _ kept_kind is_kept_stmt k)) →
    P (printing.kind_step (map-StmtKind _ _ _ _ kind_layout stmt_layout k)) (roll-StmtKind k)

pub by_forms : (P : Layout → StmtKind → Type 0) → Forms P → (s : StmtTree) → Kept (Of P) s
by_forms P form = stmt_induction (Kept (Of P)) (λ line k inside kept_s.
    subst (λ l. P l (roll-StmtKind k)) (sym (stmt_at Layout Layout printing.kind_step printing.stmt_step line k))
    (form k inside (subst (λ x. IsTrue x) (stmt_at Bool Bool kept.kind_step kept.stmt_step line k) kept_s)))

-- without lines, by the parts
pub bare_if : (c : ExprTree) (t e : List StmtTree) → lineless_kind (stmt.If c t e) ≡
    stmt.If c (lineless_stmts t) (lineless_stmts e)
bare_if c t e = search (rules, kinds.the_lemmas, trees.the_lemmas)

pub bare_while : (c : ExprTree) (b : List StmtTree) → lineless_kind (stmt.While c b) ≡ stmt.While c (lineless_stmts b)
bare_while c b = search (rules, kinds.the_lemmas, trees.the_lemmas)

pub bare_for : (f : Option SimpleTree) (c : ExprTree) (n : Option SimpleTree) (b : List StmtTree) →
    lineless_kind (stmt.For f c n b) ≡ stmt.For (lineless_option f) c (lineless_option n) (lineless_stmts b)
bare_for f c n b = search (rules, kinds.the_lemmas, trees.the_lemmas)

pub expr_reads : (e : ExprTree) → IsTrue (is_kept e) → Reading (expr_words e) (λ ts. Spells loosest_level ts e)
expr_reads e k ts h = spelled_at e k [] 11 ts h

args_read : (args : List ExprTree) → list_all is_kept args ≡ true →
    Reading (join_by expr_words comma args) (λ ts. SpellsArgs ts args)
args_read [] all ts h = reads [] (λ us. SpellsArgs us []) no_args ts h
args_read (e ∷ es) all ts h =
    let parts = and_parts (is_kept e) _ all in
    some_args (separated expr_words is_kept _ expr_reads e es parts.0 parts.1 ts h)

pub call_reads : (c : CallTree) → IsTrue (kept_call c) → Reading (call_words c) (λ ts. SpellsCall ts c)
call_reads c k =
    let parts = and_parts (is_ident c.name) (list_all is_kept c.args) k in
    reads (written c.name ∷ written (codes "(") ∷ part (join_by _ comma c.args) ∷ written (codes ")") ∷ []) _
    (λ t is u opens args said v closes. spell.call t u v c.name (is ∙ name_says c.name parts.0)
    (opens ∙ lone_says open_paren) (closes ∙ lone_says close_paren) (args_read c.args parts.1 args said))

-- a place, and after `=` what is assigned
assigned : (place : ExprTree) (value : List Piece) (P : List Lexeme → Type 0) → IsTrue (kept_place place) →
    ((ts : List Lexeme) (t : Lexeme) (us : List Lexeme) → SpellsPlace ts place → IsMark mark.Equal t →
    Say (symbols value) us → P (ts ++ t ∷ us)) → Reading (place_words place ++ (equals ++ value)) P
assigned place value P k take =
    let parts = and_parts _ (is_kept place) k in
    reads (part (place_words place) ∷ fixed blank ∷ written (codes "=") ∷ fixed blank ∷ part value ∷ []) P
    (λ ts said t is us following. take ts t us (spelled_at place parts.1 [] 1 ts said, parts.0) (is ∙ tables.equal)
    following)

-- an argument of `malloc` keeps what its count and its type do
product_kept : (count : ExprTree) (of : TypeName) →
    is_kept (malloc_argument (Some count) of) ≡ (is_kept count && kept_base of.base)
product_kept count of = search (rules, exprs.the_lemmas)

size_kept : (of : TypeName) → is_kept (malloc_argument None of) ≡ kept_base of.base
size_kept of = search (rules, exprs.the_lemmas)

pub argument_kept : (count : Option ExprTree) (of : TypeName) → IsTrue (kept_value count && kept_base of.base) →
    IsTrue (is_kept (malloc_argument count of))
argument_kept None of k = size_kept of ∙ k
argument_kept (Some count) of k = product_kept count of ∙ k

-- a reserved word, and an expression in parentheses
given_reads : (w : Keyword) (e : ExprTree) (P : List Lexeme → Type 0) → IsTrue (is_kept e) →
    ((t : Lexeme) (ts : List Lexeme) → IsKeyword w t → SpellsCondition ts e → P (t ∷ ts)) →
    Reading (word (tables.keyword_text w) ∷ word (codes "(") ∷ (expr_words e ++ word (codes ")") ∷ [])) P
given_reads w e P k take =
    reads (written (tables.keyword_text w) ∷ written (codes "(") ∷ part (expr_words e) ∷ written (codes ")") ∷ []) P
    (λ t is u opens ts said v closes. take t (u ∷ (ts ++ v ∷ [])) (is ∙ tables.keyword_says w)
    (spell.condition u v (opens ∙ lone_says open_paren) (closes ∙ lone_says close_paren) (expr_reads e k ts said)))

malloc_reads : (place : ExprTree) (count : Option ExprTree) (of : TypeName) → IsTrue (kept_malloc place count of) →
    Reading (malloc_words place count of) (λ ts. SpellsKind ts (simple.Malloc place count of))
malloc_reads place count of k =
    let parts = and_parts _ _ k in
    assigned place _ (λ ts. SpellsKind ts (simple.Malloc place count of)) parts.0
    (λ us t vs at is said. given_reads keyword.Malloc (malloc_argument count of)
    (λ ts. SpellsKind (us ++ t ∷ ts) (simple.Malloc place count of)) (argument_kept count of parts.1)
    (λ u ws so d. spell.allocate t u is so at d) vs said)

pub simple_reads : (k : SimpleKind) → IsTrue (kept_simple k) → Reading (simple_words k) (λ ts. SpellsKind ts k)
simple_reads (simple.Assign place value) k ts h =
    let parts = and_parts _ _ k in
    assigned place _ (λ ts. SpellsKind ts (simple.Assign place value)) parts.0
    (λ us t vs at is said. spell.assign t is at (expr_reads value parts.1 vs said)) ts h
simple_reads (simple.AssignCall place call) k ts h =
    let parts = and_parts _ _ k in
    assigned place _ (λ ts. SpellsKind ts (simple.AssignCall place call)) parts.0
    (λ us t vs at is said. spell.assign_call t is at (call_reads call parts.1 vs said)) ts h
simple_reads (simple.Call call) k ts h = spell.call (call_reads call k ts h)
simple_reads (simple.Malloc place count of) k ts h = malloc_reads place count of k ts h
simple_reads (simple.Free pointer) k ts h = given_reads keyword.Free pointer
    (λ ts. SpellsKind ts (simple.Free pointer)) k (λ t us is d. spell.release t is d) ts h

-- a condition in its parentheses, and a blank
abbrev pub in_brackets : ExprTree → List Piece
in_brackets cond = word (codes "(") ∷ (expr_words cond ++ word (codes ")") ∷ blank ∷ [])

pub condition_reads : (cond : ExprTree) → IsTrue (is_kept cond) →
    Reading (in_brackets cond) (λ ts. SpellsCondition ts cond)
condition_reads cond k = reads (written (codes "(") ∷ part (expr_words cond) ∷ written (codes ")") ∷ fixed blank ∷ []) _
    (λ t opens ts said u closes. spell.condition t u (opens ∙ lone_says open_paren) (closes ∙ lone_says close_paren)
    (expr_reads cond k ts said))

-- The lexemes spell a statement, which is an `if` where `is_if` says so, and which is this one, lines aside.
pub record Spelled (ts : List Lexeme) (is_if : Bool) (k : StmtKind) : Type 0 where
  pub kind : StmtKind
  pub spelled : SpellsStmtKind ts kind
  pub chained : is_if ≡ true → SpellsIf ts kind
  pub same : lineless_kind kind ≡ lineless_kind k

-- what the words of a layout spell
abbrev pub Reads : Layout → StmtKind → Type 0
Reads layout k = (depth : ℕ) → Reading (layout.words depth) (λ ts. Spelled ts layout.is_if k)

abbrev pub Holds : StmtTree → Type 0
Holds = Kept (Of Reads)

pub record Lines (ts : List Lexeme) (stmts : List StmtTree) : Type 0 where
  pub others : List StmtTree
  pub spelled : SpellsStmts ts others
  pub same : lineless_stmts others ≡ lineless_stmts stmts

-- a statement at the line of its first lexeme
pub same_line : (line : ℕ) (kind : StmtKind) (s : StmtTree) → lineless_kind kind ≡ lineless_kind s.kind →
    lineless_stmt (record { line = line; kind = kind }) ≡ lineless_stmt s
same_line line kind s same =
    bare_stmt line kind ∙ ap (λ x. record { line = 0; kind = x }) same ∙ sym (bare_stmt s.line s.kind)

pub lines_read : (depth : ℕ) (stmts : List StmtTree) → Each (Of Reads) stmts →
    Reading (lines_at depth (layouts stmts)) (λ ts. Lines ts stmts)
lines_read depth [] each = reads [] _ (record { others = []; spelled = spell.none; same = refl })
lines_read depth (s ∷ stmts) each =
    let words = (stmt_layout s).words depth in
    reads (part (line_of depth words) ∷ part _ ∷ []) _ (λ leading said back following.
    let first = each.0 depth leading (said ∙ line_symbols depth words) in
    let rest = lines_read depth stmts each.1 back following in
    record {
      others = record { line = first_line leading; kind = first.kind } ∷ rest.others;
      spelled = spell.next first.spelled rest.spelled;
      same = ap₂ (λ x xs. x ∷ xs) (same_line _ _ s first.same) rest.same;
    })

record Block (ts : List Lexeme) (stmts : List StmtTree) : Type 0 where
  others : List StmtTree
  spelled : SpellsBlock ts others
  same : lineless_stmts others ≡ lineless_stmts stmts

block_reads : (depth : ℕ) (stmts : List StmtTree) → Each (Of Reads) stmts →
    Reading (block_words depth (layouts stmts)) (λ ts. Block ts stmts)
block_reads depth stmts each =
    reads (written (codes "{") ∷ fixed newline ∷ part (lines_at (deeper depth) (layouts stmts)) ∷
    fixed (indent depth) ∷ written (codes "}") ∷ []) _ (λ t opens ts said u closes.
    let inner = lines_read _ stmts each ts said in
    record {
      others = inner.others;
      spelled = spell.block t u (opens ∙ lone_says open_curly) (closes ∙ lone_says close_curly) inner.spelled;
      same = inner.same;
    })

-- What follows the first part of an `if`: nothing, `else` and an `if`, or `else` and a block.
data Else (stmts : List StmtTree) : List Lexeme → Type 0 where
  no_else : lineless_stmts [] ≡ lineless_stmts stmts → Else stmts []
  else_if : (u : Lexeme) {vs : List Lexeme} (kind : StmtKind) → u.symbol ≡ word_symbol (codes "else") →
      SpellsIf vs kind → lineless_stmts (record { line = first_line vs; kind = kind } ∷ []) ≡ lineless_stmts stmts →
      Else stmts (u ∷ vs)
  else_block : (u : Lexeme) {vs : List Lexeme} → u.symbol ≡ word_symbol (codes "else") → Block vs stmts →
      Else stmts (u ∷ vs)

chain_reads : (depth : ℕ) (s : StmtTree) (stmts : List StmtTree) → Each (Of Reads) (s ∷ stmts) →
    is_chain (layouts (s ∷ stmts)) ≡ true → (u : Lexeme) → u.symbol ≡ word_symbol (codes "else") →
    Reading (chain_words depth (layouts (s ∷ stmts))) (λ vs. Else (s ∷ stmts) (u ∷ vs))
chain_reads depth s [] each q u is vs h =
    let chained = (and_parts (stmt_layout s).is_if true (and_parts true ((stmt_layout s).is_if && true) q).1).0 in
    let inner = each.0 depth vs (h ∙ ap symbols (append-nil ((stmt_layout s).words depth))) in
    else_if u inner.kind is (inner.chained chained) (ap (λ x. x ∷ []) (same_line _ _ s inner.same))
chain_reads depth s (x ∷ xs) each q u is vs h =
    let long = eqb-true (length (layouts (s ∷ x ∷ xs))) 1 (and_parts _ _ q).0 in
    absurd (omega (arith, long))

else_reads : (depth : ℕ) (stmts : List StmtTree) → Each (Of Reads) stmts →
    Reading (else_words depth (layouts stmts)) (λ ts. Else stmts ts)
else_reads depth [] each ts h = reads [] (λ us. Else [] us) (no_else refl) ts h
else_reads depth (s ∷ stmts) each ts h = reads (written _ ∷ part (after_else depth (layouts (s ∷ stmts))) ∷ [])
    (λ us. Else (s ∷ stmts) us) (λ u is vs said. go u is _ refl vs said) ts (h ∙ ap
    (λ b. symbols (if b then [] else (blank ∷ word (codes "else") ∷ blank ∷ after_else depth (layouts (s ∷ stmts)))))
    some)
  where
    some : (length (layouts (s ∷ stmts)) == 0) ≡ false
    some = ne_eqb _ 0 (λ e. omega (arith, e))

    go : (u : Lexeme) → u.symbol ≡ word_symbol (codes "else") → (chained : Bool) →
        is_chain (layouts (s ∷ stmts)) ≡ chained → Reading (if chained then chain_words depth (layouts (s ∷ stmts))
        else block_words depth (layouts (s ∷ stmts))) (λ vs. Else (s ∷ stmts) (u ∷ vs))
    go u is true q vs said = chain_reads depth s stmts each q u is vs said
    go u is false q vs said = else_block u is (block_reads depth _ each vs said)

chosen : {ts : List Lexeme} (k kind : StmtKind) → SpellsIf ts kind → lineless_kind kind ≡ lineless_kind k →
    Spelled ts true k
chosen k kind i e = record { kind = kind; spelled = spell.choice i; chained = λ q. i; same = e }

if_reads : (c : ExprTree) (t e : List StmtTree) → IsTrue (is_kept c) → Each (Of Reads) t → Each (Of Reads) e →
    (depth : ℕ) → Reading (if_words c (layouts t) (layouts e) depth) (λ ts. Spelled ts true (stmt.If c t e))
if_reads c t e kept_c at_t at_e depth = reads (written (codes "if") ∷ part (in_brackets c) ∷ part
    (block_words depth (layouts t)) ∷ part (else_words depth (layouts e)) ∷ []) (λ ts. Spelled ts true (stmt.If c t e))
    (λ first is ts cond us block vs more. go first (is ∙ tables.keyword_says keyword.If) ts us
    (condition_reads c kept_c ts cond) (block_reads depth t at_t us block) (else_reads depth e at_e vs more))
  where
    same_as : (thens others : List StmtTree) → lineless_stmts thens ≡ lineless_stmts t →
        lineless_stmts others ≡ lineless_stmts e →
        lineless_kind (stmt.If c thens others) ≡ lineless_kind (stmt.If c t e)
    same_as thens others q r = bare_if c thens others ∙ ap₂ (λ x y. stmt.If c x y) q r ∙ sym (bare_if c t e)

    go : (first : Lexeme) → IsKeyword keyword.If first → (ts us : List Lexeme) → SpellsCondition ts c → Block us t →
        {vs : List Lexeme} → Else e vs → Spelled (first ∷ (ts ++ (us ++ vs))) true (stmt.If c t e)
    go first is ts us cond b (no_else r) = chosen (stmt.If c t e) (stmt.If c b.others []) (subst
        (λ ws. SpellsIf (first ∷ (ts ++ ws)) (stmt.If c b.others [])) (sym (append-nil us))
        (spell.lone_if first is cond b.spelled)) (same_as b.others [] b.same r)
    go first is ts us cond b (else_if u {vs = vs} kind said i r) =
        let others : List StmtTree = record { line = first_line vs; kind = kind } ∷ [] in
        chosen (stmt.If c t e) (stmt.If c b.others others)
        (spell.otherwise_if first u is (said ∙ tables.keyword_says keyword.Else) cond b.spelled i)
        (same_as b.others others b.same r)
    go first is ts us cond b (else_block u said d) = chosen (stmt.If c t e) (stmt.If c b.others d.others)
        (spell.otherwise first u is (said ∙ tables.keyword_says keyword.Else) cond b.spelled d.spelled)
        (same_as b.others d.others b.same d.same)

while_reads : (c : ExprTree) (b : List StmtTree) → IsTrue (is_kept c) → Each (Of Reads) b → (depth : ℕ) → Reading
    (condition_words (codes "while") c ++ block_words depth (layouts b)) (λ ts. Spelled ts false (stmt.While c b))
while_reads c b kept_c at_b depth =
    reads (written _ ∷ part (in_brackets c) ∷ part (block_words depth _) ∷ []) _ (λ t is ts cond us block.
    let body = block_reads depth b at_b us block in
    record {
      kind = stmt.While c body.others;
      spelled = spell.while_loop t (is ∙ tables.keyword_says _) (condition_reads c kept_c ts cond) body.spelled;
      chained = λ q. absurd (false≢true q);
      same = bare_while c _ ∙ ap (λ x. stmt.While c x) body.same ∙ sym (bare_while c b);
    })

-- a statement of a kind that holds no others, and its `;`
simply : {ts : List Lexeme} (k : StmtKind) → SpellsStmtKind ts k → Spelled ts false k
simply k d = record { kind = k; spelled = d; chained = λ q. absurd (false≢true q); same = refl }

plain_reads : (k : SimpleKind) → IsTrue (kept_simple k) →
    Reading (ended (simple_words k)) (λ ts. SpellsStmtKind ts (stmt_kind_of k))
plain_reads k kept_k = reads (part (simple_words k) ∷ written (codes ";") ∷ []) _
    (λ ts said t ends. spell.plain t (ends ∙ lone_says semicolon) (simple_reads k kept_k ts said))

-- one reserved word and `;`
two_words : (w : Keyword) (k : StmtKind) →
    ((t u : Lexeme) → IsKeyword w t → IsMark mark.Semicolon u → SpellsStmtKind (t ∷ u ∷ []) k) →
    Reading (ended (word (tables.keyword_text w) ∷ [])) (λ ts. Spelled ts false k)
two_words w k spells = reads (written _ ∷ written _ ∷ []) _
    (λ t is u ends. simply k (spells t u (is ∙ tables.keyword_says w) (ends ∙ lone_says semicolon)))

-- `return`, what is returned, and `;`
returned : (value : List Piece) (k : StmtKind) → ((t : Lexeme) (ts : List Lexeme) (u : Lexeme) →
    IsKeyword keyword.Return t → IsMark mark.Semicolon u → Say (symbols value) ts →
    SpellsStmtKind (t ∷ (ts ++ u ∷ [])) k) → Reading (return_words value) (λ ts. Spelled ts false k)
returned value k spells = reads (written _ ∷ part value ∷ written _ ∷ []) _
    (λ t is ts said u ends. simply k (spells t ts u (is ∙ tables.keyword_says _) (ends ∙ lone_says semicolon) said))

-- a part of a `for`
pub record Part (ts : List Lexeme) (part : Option SimpleTree) : Type 0 where
  pub other : Option SimpleTree
  pub spelled : SpellsPart ts other
  pub same : lineless_option other ≡ lineless_option part

part_reads : (simple : Option SimpleTree) → IsTrue (kept_option simple) →
    Reading (first_words simple) (λ ts. Part ts simple)
part_reads None k ts h =
    reads [] (λ us. Part us None) (record { other = None; spelled = spell.no_part; same = refl }) ts h
part_reads (Some s) k ts h = record {
  other = Some (record { line = first_line ts; kind = s.kind });
  spelled = spell.a_part (simple_reads s.kind k ts h, refl);
  same = refl;
}

next_symbols : (part : Option SimpleTree) → symbols (next_words part) ≡ symbols (first_words part)
next_symbols None = refl
next_symbols (Some s) = refl

-- A `for`, whose last part may be written in other words than it is printed in.
pub for_with : (f : Option SimpleTree) (c : ExprTree) (n : Option SimpleTree) (b : List StmtTree) (turn : List Piece) →
    IsTrue (kept_option f) → IsTrue (is_kept c) → Reading turn (λ ts. Part ts n) → Each Holds b →
    list_all is_kept_stmt b ≡ true → (depth : ℕ) →
    Reading (word (codes "for") ∷ blank ∷ word (codes "(") ∷ (first_words f ++ word (codes ";") ∷ blank ∷
    (expr_words c ++ word (codes ";") ∷ (turn ++ word (codes ")") ∷ blank ∷ block_words depth (layouts b)))))
    (λ ts. Spelled ts false (stmt.For f c n b))
for_with f c n b turn kept_f kept_c read_turn at_b kept_b depth =
    reads (written (codes "for") ∷ fixed blank ∷ written (codes "(") ∷ part (first_words f) ∷ written (codes ";") ∷
    fixed blank ∷ part (expr_words c) ∷ written (codes ";") ∷ part turn ∷ written (codes ")") ∷
    fixed blank ∷ part (block_words depth (layouts b)) ∷ []) (λ us. Spelled us false (stmt.For f c n b))
    (λ t is u opens fs start v ends bs test w ends_too cs step x closes ds inner.
    let first = part_reads f kept_f fs start in
    let next = read_turn cs step in
    let body = block_reads depth b (kept_each _ b at_b kept_b) ds inner in
    record {
      kind = stmt.For first.other c next.other body.others;
      spelled = spell.for_loop t u v w x (is ∙ tables.keyword_says keyword.For) (opens ∙ lone_says open_paren)
          (ends ∙ lone_says semicolon) (ends_too ∙ lone_says semicolon) (closes ∙ lone_says close_paren) first.spelled
          (spell.a_test (expr_reads c kept_c bs test)) next.spelled body.spelled;
      chained = λ q. absurd (false≢true q);
      same = bare_for first.other c next.other body.others ∙
          ap (λ y. stmt.For y c (lineless_option next.other) (lineless_stmts body.others)) first.same ∙
          ap₂ (λ y z. stmt.For (lineless_option f) c y z) next.same body.same ∙ sym (bare_for f c n b);
    })

for_reads : (f : Option SimpleTree) (c : ExprTree) (n : Option SimpleTree) (b : List StmtTree) →
    IsTrue (kept_option f) → IsTrue (is_kept c) → IsTrue (kept_option n) → Each Holds b →
    list_all is_kept_stmt b ≡ true → (depth : ℕ) →
    Reading (for_words f c n ++ block_words depth (layouts b)) (λ ts. Spelled ts false (stmt.For f c n b))
for_reads f c n b kept_f kept_c kept_n at_b kept_b depth ts h =
    let block : List Piece = block_words depth (layouts b) in
    let closing = word (codes ")") ∷ blank ∷ [] in
    let turn : List Piece = word (codes ";") ∷ (next_words n ++ closing) in
    let joined = append_assoc (first_words f) (word (codes ";") ∷ blank ∷ (expr_words c ++ turn)) block ∙
    ap (λ x. first_words f ++ word (codes ";") ∷ blank ∷ x) (append_assoc _ turn block ∙
    ap (λ x. expr_words c ++ word (codes ";") ∷ x) (append_assoc (next_words n) closing block)) in
    for_with f c n b (next_words n) kept_f kept_c (λ us said. part_reads n kept_n us (said ∙ next_symbols n)) at_b
    kept_b depth ts (h ∙ ap (λ x. symbols (word (codes "for") ∷ blank ∷ word (codes "(") ∷ x)) joined)

-- each kind of statement
form : Forms Reads
unfolding roll-StmtKind denote.Hole.Carrier.roll
form layer.Empty inside k depth ts h = reads (written _ ∷ []) (λ us. Spelled us false stmt.Empty)
    (λ t is. simply _ (spell.empty t (is ∙ lone_says semicolon))) ts h
form (layer.Assign place value) inside k depth ts h = simply _ (plain_reads (simple.Assign place value) k ts h)
form (layer.AssignCall place call) inside k depth ts h = simply _ (plain_reads (simple.AssignCall place call) k ts h)
form (layer.Call call) inside k depth ts h = simply _ (plain_reads (simple.Call call) k ts h)
form (layer.Malloc place count of) inside k depth ts h = simply _ (plain_reads (simple.Malloc place count of) k ts h)
form (layer.Free pointer) inside k depth ts h = simply _ (plain_reads (simple.Free pointer) k ts h)
form (layer.If cond then_part else_part) inside k depth ts h =
    let parts = and_parts _ _ k in
    let both = and_parts (all_kept (map is_kept_stmt then_part)) (all_kept (map is_kept_stmt else_part)) parts.1 in
    if_reads cond _ _ parts.0 (kept_each _ then_part inside.0 (all_at _ both.0))
    (kept_each _ else_part inside.1 (all_at _ both.1)) depth ts h
form (layer.While cond body) inside k depth ts h =
    let parts = and_parts _ _ k in
    while_reads cond body parts.0 (kept_each _ body inside (all_at body parts.1)) depth ts h
form (layer.For first cond next body) inside k depth ts h =
    let parts = and_parts _ _ k in
    let more = and_parts _ _ parts.1 in
    let last = and_parts _ _ more.1 in
    for_reads first cond next body parts.0 more.0 last.0 inside (all_at body last.1) depth ts h
form layer.Break inside k depth ts h = two_words _ _ spell.«break» ts h
form layer.Continue inside k depth ts h = two_words _ _ spell.«continue» ts h
form layer.Return inside k depth ts h = two_words keyword.Return _ spell.return_nothing ts h
form (layer.ReturnValue value) inside k depth ts h = returned (expr_words value) _
    (λ t us u is ends said. spell.return_value t u is ends (expr_reads value k us said)) ts h
form (layer.ReturnCall call) inside k depth ts h = returned (call_words call) _
    (λ t us u is ends said. spell.return_call t u is ends (call_reads call k us said)) ts h

pub stmt_holds : (s : StmtTree) → Holds s
stmt_holds = by_forms Reads form

pub everywhere : (stmts : List StmtTree) → Each Holds stmts
everywhere = everywhere_holds Holds stmt_holds

pub stmts_spell : (stmts : List StmtTree) → IsTrue (are_kept stmts) → StmtsSpell stmts
stmts_spell stmts k depth ts h =
    let l = lines_read depth stmts (each_kept _ stmts stmt_holds k) ts h in
    (l.others, l.spelled, l.same)
