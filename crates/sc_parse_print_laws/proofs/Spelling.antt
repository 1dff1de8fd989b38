-- The words of an expression spell it.
use Rattle.sc_parse_print_laws.proofs.Common.{[], TypeName, kept_base, size_of, sizeof_words, type_words, BinaryOp}
use Rattle.sc_parse_print_laws.proofs.Common.{Bool, ExprTree, ExprTree-F, IsTrue, Lexeme, List, Mark, Piece, Printed}
use Rattle.sc_parse_print_laws.proofs.Common.{Some, Spells, Under, WordsSpell, and_parts, ap, apart, append-nil, arith}
use Rattle.sc_parse_print_laws.proofs.Common.{arrow, binary_text, binary_words, blank, bytes_eq, codes, expr_at}
use Rattle.sc_parse_print_laws.proofs.Common.{expr_induction, expr_step, false, if◌then◌else◌, in_parens, index}
use Rattle.sc_parse_print_laws.proofs.Common.{is_doubled, is_ident, is_kept, joined, kept_step, literal, ltb-false}
use Rattle.sc_parse_print_laws.proofs.Common.{map-ExprTree, member, nat_lt, parenthesised, prefix_of, prefix_words}
use Rattle.sc_parse_print_laws.proofs.Common.{prefixed, refl, roll-ExprTree, subst, sym, symbols, true, variable, word}
use Rattle.sc_parse_print_laws.proofs.Common.{word_symbol, words_at, «prefix», ℕ, ◌&&◌, ◌++◌, ◌-◌, ◌∙◌, ◌∷◌, ◌≡◌, ◌≤◌}
use Rattle.sc_base.specs.declared.op.BinaryOp.TheVariants as binary
use Rattle.sc_base.specs.Levels as levels
use Rattle.sc_ast.specs.declared.expr.ExprTree.TheOpen as term
use Rattle.sc_ast.specs.declared.expr.ExprTree.TheVariants as expr
use Rattle.sc_parse_expr.specs.declared.mark.Mark.TheVariants as mark
use Rattle.sc_parse_expr.specs.declared.operator.Prefix.{Prefix}
use Rattle.sc_parse_expr.specs.declared.operator.Prefix.TheVariants as prefix
use Rattle.sc_parse_expr.specs.declared.mark.Keyword.TheVariants as keyword
use Rattle.sc_parse_print_laws.proofs.Tables as tables
use Rattle.sc_parse_print_laws.proofs.TypeReads.{type_reads}
use Rattle.sc_parse_print_laws.proofs.Reading.{Say, up_to, joined_symbols, fixed, part, written, reads}
use Rattle.sc_parse_print_laws.proofs.Literals.{name_says, literal_says}
use Rattle.sc_parse_print_laws.proofs.Tables.{lone_says, open_paren, close_paren, open_square, close_square, dot}

-- Whatever the lexemes that say the pieces, they spell the expression at this level.
abbrev pub AtLevel : ℕ → List Piece → ExprTree → Type 0
AtLevel level pieces e = (ts : List Lexeme) → Say (symbols pieces) ts → Spells level ts e

-- one lexeme, two parts, and what stands in brackets
module _ (e : ExprTree) where
  parens : (own level : ℕ) (pieces : List Piece) → own ≤ 11 → AtLevel own pieces e →
      AtLevel level (in_parens (nat_lt level own) pieces) e
  parens own level pieces low inner ts h = go (nat_lt level own) refl h
    where
      go : (wanted : Bool) → nat_lt level own ≡ wanted → Say (symbols (in_parens wanted pieces)) ts → Spells level ts e
      go true q k = reads (written (codes "(") ∷ part pieces ∷ written (codes ")") ∷ []) (λ us. Spells level us e)
          (λ t opens us said u closes. up_to 0 level _ e (omega arith) (parenthesised t u (opens ∙ lone_says open_paren)
          (closes ∙ lone_says close_paren) (up_to own 11 us e low (inner us said)))) ts k
      go false q k =
          let le : own ≤ level = ltb-false level own q in
          up_to own level ts e le (inner ts (k ∙ ap symbols (append-nil pieces)))

module _ (kind : List ℕ) (m : Mark) (p : Prefix) (says : tables.SaysMark kind m) (is : prefix_of m ≡ Some p)
    (e : ExprTree) (of : Printed) where
  prefixed_at : ((before : List ℕ) (level : ℕ) → AtLevel level (of before level) e) → (before : List ℕ) (level : ℕ) →
      AtLevel level (prefix_words kind of before level) (prefixed p e)
  prefixed_at inner before level = parens (prefixed p e) 1 level (apart before kind ++ word kind ∷ of kind 1)
      (omega arith) plain
    where
      gap : (wanted : Bool) → symbols (if wanted then blank ∷ [] else []) ≡ []
      gap true = refl
      gap false = refl

      plain : AtLevel 1 (apart before kind ++ word kind ∷ of kind 1) (prefixed p e)
      plain ts h =
          let k : Say (word_symbol kind ∷ symbols (of kind 1)) ts =
          h ∙ joined_symbols (apart before kind) (word kind ∷ of kind 1) ∙
          ap (λ x. x ++ (word_symbol kind ∷ symbols (of kind 1))) (gap (bytes_eq before kind && is_doubled kind)) in
          reads (written kind ∷ part (of kind 1) ∷ []) (λ us. Spells 1 us (prefixed p e))
          (λ t named us said. «prefix» t m p (named ∙ says) is (inner kind 1 us said)) ts k

binary_at : (op : BinaryOp) (e f : ExprTree) (left right : Printed) →
    ((before : List ℕ) (level : ℕ) → AtLevel level (left before level) e) →
    ((before : List ℕ) (level : ℕ) → AtLevel level (right before level) f) → (before : List ℕ) (level : ℕ) →
    AtLevel level (binary_words op left right before level) (expr.Binary op e f)
binary_at op e f left right inner_left inner_right before level =
    parens (expr.Binary op e f) (levels.level_of op) level _ (tables.at_most_loosest op) plain
  where
    plain : AtLevel (levels.level_of op) (left [] (levels.level_of op) ++ blank ∷ word (binary_text op) ∷ blank ∷
        right [] (levels.level_of op - 1)) (expr.Binary op e f)
    plain = reads (part (left [] (levels.level_of op)) ∷ fixed blank ∷ written (binary_text op) ∷ fixed blank ∷
        part (right [] (levels.level_of op - 1)) ∷ []) _ (λ ts said t is us following.
        let l = subst (λ n. Spells n ts e) (sym (tables.own_level op)) (inner_left [] (levels.level_of op) ts said) in
        let d = joined t (tables.binary_mark op) op (is ∙ tables.binary_says op) (tables.binary_operator op)
        (sym (tables.own_level op)) l (inner_right [] (levels.level_of op - 1) us following) in
        subst (λ n. Spells n (ts ++ t ∷ us) (expr.Binary op e f)) (tables.own_level op) d)

index_at : (e f : ExprTree) (base place : List Piece) → AtLevel 0 base e → AtLevel 11 place f → (level : ℕ) →
    AtLevel level (base ++ word (codes "[") ∷ (place ++ word (codes "]") ∷ [])) (expr.Index e f)
index_at e f base place at_base at_place level =
    reads (part base ∷ written (codes "[") ∷ part place ∷ written (codes "]") ∷ []) _
    (λ ts said t opens us inside u closes. up_to 0 level _ _ (omega arith)
    (index t u (opens ∙ lone_says open_square) (closes ∙ lone_says close_square) (at_base ts said)
    (at_place us inside)))

-- a base, and a name after a mark
named_at : (kind name : List ℕ) (base : List Piece) (e of : ExprTree) → AtLevel 0 base of →
    ((ts : List Lexeme) (t u : Lexeme) → t.symbol ≡ word_symbol kind → u.symbol ≡ word_symbol name → Spells 0 ts of →
    Spells 0 (ts ++ t ∷ u ∷ []) e) → (level : ℕ) → AtLevel level (base ++ word kind ∷ word name ∷ []) e
named_at kind name base e of at_base spells level = reads (part base ∷ written kind ∷ written name ∷ []) _
    (λ ts said t is u named. up_to 0 level _ e (omega arith) (spells ts t u is named (at_base ts said)))

size_at : (of : TypeName) → IsTrue (kept_base of.base) → (level : ℕ) → AtLevel level (sizeof_words of) (expr.SizeOf of)
size_at of k level =
    reads (written (codes "sizeof") ∷ written (codes "(") ∷ part (type_words of) ∷ written (codes ")") ∷ []) _
    (λ t is u opens ts said v closes. up_to 0 level _ _ (omega arith) (size_of t u v (is ∙
    tables.keyword_says keyword.Sizeof) (opens ∙ lone_says open_paren) (closes ∙ lone_says close_paren)
    (type_reads of k ts said)))

abbrev pub Holds : ExprTree → Type 0
Holds e = IsTrue (is_kept e) → (before : List ℕ) (level : ℕ) → AtLevel level (words_at e before level) e

-- each form of expression
form : (t : ExprTree-F ExprTree) → Under Holds t → IsTrue (kept_step (map-ExprTree _ _ is_kept t)) → (before : List ℕ)
    (level : ℕ) → AtLevel level (expr_step (map-ExprTree _ _ words_at t) before level) (roll-ExprTree t)
unfolding roll-ExprTree denote.Hole.Carrier.roll
form (term.Literal number) u k before level ts h = reads (written _ ∷ []) (λ us. Spells level us (expr.Literal number))
    (λ t is. up_to 0 level _ _ (omega arith) (literal t number (is ∙ literal_says number k))) ts h
form (term.Variable name) u k before level ts h = reads (written name ∷ []) (λ us. Spells level us (expr.Variable name))
    (λ t is. up_to 0 level _ _ (omega arith) (variable t name (is ∙ name_says name k))) ts h
form (term.Unary op of) u k before level ts h = prefixed_at _ (tables.unary_mark op) (prefix.Operator op)
    (tables.unary_says op) (tables.unary_prefix op) of (words_at of) (u k) before level ts h
form (term.Binary op left right) u k before level ts h =
    let parts = and_parts (is_kept left) (is_kept right) k in
    binary_at op left right (words_at left) (words_at right) (u.0 parts.0) (u.1 parts.1) before level ts h
form (term.Index base place) u k before level ts h =
    let parts = and_parts (is_kept base) (is_kept place) k in
    index_at base place (words_at base [] 0) (words_at place [] 11) (u.0 parts.0 [] 0) (u.1 parts.1 [] 11) level ts h
form (term.Member base name) u k before level ts h =
    let parts = and_parts (is_kept base) (is_ident name) k in
    named_at (codes ".") name (words_at base [] 0) _ base (u parts.0 [] 0)
    (λ us t v is named d. member t v name (is ∙ lone_says dot) (named ∙ name_says name parts.1) d) level ts h
form (term.Arrow base name) u k before level ts h =
    let parts = and_parts (is_kept base) (is_ident name) k in
    named_at (codes "->") name (words_at base [] 0) _ base (u parts.0 [] 0)
    (λ us t v is named d. arrow t v name (is ∙ lone_says tables.arrow) (named ∙ name_says name parts.1) d) level ts h
form (term.Deref of) u k before level ts h = prefixed_at _ mark.Star prefix.Dereference (tables.binary_says binary.Mul)
    refl of (words_at of) (u k) before level ts h
form (term.Address of) u k before level ts h = prefixed_at _ mark.And prefix.Address (tables.binary_says binary.BitAnd)
    refl of (words_at of) (u k) before level ts h
form (term.SizeOf of) u k before level ts h = size_at of k level ts h

pub spelled_at : (e : ExprTree) → Holds e
spelled_at = expr_induction Holds (λ t u kept before level ts h. form t u (subst (λ b. IsTrue b) (expr_at _ t) kept)
    before level ts (h ∙ ap (λ f. symbols (f before level)) (expr_at expr_step t)))

pub words_spell : (e : ExprTree) → IsTrue (is_kept e) → WordsSpell e
words_spell e kept ts h = spelled_at e kept [] 11 ts h
