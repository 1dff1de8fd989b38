-- The words of statements and of declarations stand apart.
use Rattle.sc_parse_print_laws.proofs.Common.{[], Keyword, kept_malloc, malloc_argument, malloc_words, BaseTree, Bool}
use Rattle.sc_parse_print_laws.proofs.Common.{CallTree, Decl, Each, ExprTree, FunctionTree, GlobalTree, HeadTree}
use Rattle.sc_parse_print_laws.proofs.Common.{InitTree, IsTrue, Layout, List, LocalTree, MemberTree, None, Number}
use Rattle.sc_parse_print_laws.proofs.Common.{Option, ParamTree, Piece, SimpleKind, SimpleTree, Some, StmtKind}
use Rattle.sc_parse_print_laws.proofs.Common.{StmtTree, TypeName, TypeTree, all_kept, and_parts, append-nil}
use Rattle.sc_parse_print_laws.proofs.Common.{append_assoc, are_kept, base_words, blank, blank_if, block_words}
use Rattle.sc_parse_print_laws.proofs.Common.{call_words, chain_words, codes, comma, condition_words, const_words}
use Rattle.sc_parse_print_laws.proofs.Common.{decl_words, declared_words, deeper, else_words, ended, equals, expr_words}
use Rattle.sc_parse_print_laws.proofs.Common.{false, false≢true, first_words, fits, flat_map, for_words, function_words}
use Rattle.sc_parse_print_laws.proofs.Common.{global_words, head_of, head_words, if◌then◌else◌, indent, init_words}
use Rattle.sc_parse_print_laws.proofs.Common.{is_chain, is_ident, is_kept, is_kept_decl, is_kept_stmt, is_some, join_by}
use Rattle.sc_parse_print_laws.proofs.Common.{kept_base, kept_call, kept_const, kept_function, kept_global, kept_head}
use Rattle.sc_parse_print_laws.proofs.Common.{kept_init, kept_length, kept_local, kept_member, kept_name, kept_option}
use Rattle.sc_parse_print_laws.proofs.Common.{kept_param, kept_place, kept_result, kept_simple, kept_struct, kept_type}
use Rattle.sc_parse_print_laws.proofs.Common.{kept_value, layouts, leb-true, length, length_words, line_of, lines_at}
use Rattle.sc_parse_print_laws.proofs.Common.{list_all, literal_text, local_line, map, member_line, minus_words}
use Rattle.sc_parse_print_laws.proofs.Common.{name_words, nat_le, nat_lt, newline, next_words, param_words}
use Rattle.sc_parse_print_laws.proofs.Common.{params_words, place_words, refl, result_words, return_words, simple_words}
use Rattle.sc_parse_print_laws.proofs.Common.{some_kept, star_words, stmt_layout, struct_words, subst, suc, sym}
use Rattle.sc_parse_print_laws.proofs.Common.{text_of, true, value_words, word, zero, ℕ, ◌&&◌, ◌++◌, ◌==◌, ◌||◌, ◌∷◌}
use Rattle.sc_parse_print_laws.proofs.Common.{◌≡◌}
use Rattle.sc_ast.specs.declared.stmt.SimpleKind.TheVariants as simple
use Rattle.sc_ast.specs.declared.stmt.StmtKind.TheOpen as layer
use Rattle.sc_lex.specs.declared.token.TokenKind.TheVariants as kind
use Rattle.sc_parse_print_laws.specs.KeptStmts as kept
use Rattle.sc_parse_expr.specs.declared.mark.Keyword.TheVariants as keyword
use Rattle.sc_ast.specs.declared.section.InitTree.TheVariants as init
use Rattle.sc_ast.specs.declared.section.Decl.TheVariants as decl
use Rattle.sc_parse_print_laws.proofs.Stmts.{argument_kept, all_at, kept_each, each_kept, Of, Forms, by_forms}
use Rattle.sc_parse_print_laws.proofs.Literals.{name_kind, name_some, literal_kind, literal_some}
use Rattle.sc_parse_print_laws.proofs.Spacing.{IsWord, Calm, plain_word, equal_word, keyword_word, lone_word, Tidy}
use Rattle.sc_parse_print_laws.proofs.Spacing.{none, gap, next, at_level, line_end, tidy_append, Sound, tidy_at, lone}
use Rattle.sc_parse_print_laws.proofs.Spacing.{Quiet, base_tidy, calm_if, gap_if, name_tidy, quiet, prefix_word, signed}
use Rattle.sc_parse_print_laws.proofs.Spacing.{minus, stars_tidy, word_quiet}
use Rattle.sc_parse_print_laws.proofs.Tables.{keyword_text, open_paren, close_paren, semicolon, comma_mark, open_curly}
use Rattle.sc_parse_print_laws.proofs.Tables.{close_curly, open_square, close_square}
use Rattle.sc_ast.specs.declared.section.StructTree.{StructTree}
use Rattle.sc_parse_print_laws.proofs.Sections.{length_fits}

-- pieces that stand apart whatever follows them
abbrev pub Free : List Piece → Type 0
Free pieces = (rest : List ℕ) → Tidy pieces rest

pub expr_tidy : (e : ExprTree) → IsTrue (is_kept e) → Sound (expr_words e)
expr_tidy e k rest calm = (tidy_at e k [] 11 rest calm).0

place_tidy : (e : ExprTree) → IsTrue (kept_place e) → Sound (place_words e)
place_tidy e k rest calm = (tidy_at e (and_parts _ _ k).1 [] 1 rest calm).0

-- pieces and a word after them that anything may follow
pub closing : (pieces : List Piece) (text : List ℕ) → Sound pieces → ((rest : List ℕ) → Calm (text ++ rest)) →
    ((rest : List ℕ) → IsWord text rest) → Free (pieces ++ word text ∷ [])
closing pieces text t calm w rest = tidy_append pieces _ rest
    (t _ (subst (λ x. Calm (x ++ rest)) (sym (append-nil text)) (calm rest))) (next (w _) none)

-- items with commas between them, each before texts that are fine
module _ {A : Type 0} (words : A → List Piece) (kept : A → Bool) (Fine : List ℕ → Type 0)
    (comma_fine : (rest : List ℕ) → Fine (44 ∷ rest))
    (t : (x : A) → IsTrue (kept x) → (rest : List ℕ) → Fine rest → Tidy (words x) rest) where
  pub joined_tidy : (x : A) (xs : List A) → IsTrue (kept x) → list_all kept xs ≡ true → (rest : List ℕ) → Fine rest →
      Tidy (join_by words comma (x ∷ xs)) rest
  joined_tidy x [] k all rest fine = tidy_append _ [] rest (t x k rest fine) none
  joined_tidy x (y ∷ ys) k all rest fine =
      let parts = and_parts (kept y) (list_all kept ys) all in
      tidy_append (words x) (word _ ∷ blank ∷ join_by words comma (y ∷ ys)) rest (t x k _ (comma_fine _))
      (lone comma_mark (gap (joined_tidy y ys parts.0 parts.1 rest fine)))

args_tidy : (args : List ExprTree) → list_all is_kept args ≡ true → Sound (join_by expr_words comma args)
args_tidy [] all = λ rest calm. none
args_tidy (e ∷ es) all = let parts = and_parts (is_kept e) _ all in
    joined_tidy expr_words is_kept Calm (λ r. refl) expr_tidy e es parts.0 parts.1

pub call_tidy : (c : CallTree) → IsTrue (kept_call c) → Free (call_words c)
call_tidy c k rest =
    let parts = and_parts (is_ident c.name) (list_all is_kept c.args) k in
    next (plain_word c.name _ kind.Ident (name_some c.name parts.0) (name_kind c.name parts.0) refl)
    (lone open_paren (closing _ (codes ")") (args_tidy c.args parts.1) (λ r. refl) (lone_word close_paren) rest))

pub assigned_tidy : (place : ExprTree) (value : List Piece) → IsTrue (kept_place place) → Sound value →
    Sound (place_words place ++ (equals ++ value))
assigned_tidy place value k t rest calm = tidy_append (place_words place) (equals ++ value) rest
    (place_tidy place k _ refl) (gap (next (equal_word _) (gap (t rest calm))))

-- `malloc` and `free` and what they are given
given_tidy : (w : Keyword) (e : ExprTree) → IsTrue (is_kept e) →
    Free (word (keyword_text w) ∷ word (codes "(") ∷ (expr_words e ++ word (codes ")") ∷ []))
given_tidy w e k rest = next (keyword_word w _ refl)
    (lone open_paren (closing _ (codes ")") (expr_tidy e k) (λ r. refl) (lone_word close_paren) rest))

malloc_tidy : (place : ExprTree) (count : Option ExprTree) (of : TypeName) → IsTrue (kept_malloc place count of) →
    Sound (malloc_words place count of)
malloc_tidy place count of k =
    let parts = and_parts _ _ k in
    assigned_tidy place _ parts.0
    (λ rest calm. given_tidy keyword.Malloc (malloc_argument count of) (argument_kept count of parts.1) rest)

pub simple_tidy : (k : SimpleKind) → IsTrue (kept_simple k) → Sound (simple_words k)
simple_tidy (simple.Assign place value) k = let parts = and_parts _ _ k in
    assigned_tidy place _ parts.0 (expr_tidy value parts.1)
simple_tidy (simple.AssignCall place call) k = let parts = and_parts _ _ k in
    assigned_tidy place _ parts.0 (λ rest calm. call_tidy call parts.1 rest)
simple_tidy (simple.Call call) k = λ rest calm. call_tidy call k rest
simple_tidy (simple.Malloc place count of) k = malloc_tidy place count of k
simple_tidy (simple.Free pointer) k = λ rest calm. given_tidy keyword.Free pointer k rest

pub ended_tidy : (pieces : List Piece) → Sound pieces → Free (ended pieces)
ended_tidy pieces t = closing pieces _ t (λ r. refl) (lone_word semicolon)

pub condition_tidy : (keyword : List ℕ) (cond : ExprTree) → ((rest : List ℕ) → Calm rest → IsWord keyword rest) →
    IsTrue (is_kept cond) → Free (condition_words keyword cond)
condition_tidy keyword cond w k rest = next (w _ refl)
    (gap (lone open_paren (tidy_append (expr_words cond) (word (codes ")") ∷ blank ∷ []) rest
    (expr_tidy cond k _ refl) (lone close_paren (gap none)))))

pub return_tidy : (value : List Piece) → Sound value → Free (return_words value)
return_tidy value t rest = next (keyword_word keyword.Return _ refl) (gap (ended_tidy value t rest))

first_tidy : (o : Option SimpleTree) → IsTrue (kept_option o) → Sound (first_words o)
first_tidy None k rest calm = none
first_tidy (Some s) k rest calm = simple_tidy s.kind k rest calm

next_tidy : (o : Option SimpleTree) → IsTrue (kept_option o) → Sound (next_words o)
next_tidy None k rest calm = none
next_tidy (Some s) k rest calm = gap (simple_tidy s.kind k rest calm)

for_tidy : (f : Option SimpleTree) (c : ExprTree) (n : Option SimpleTree) → IsTrue (kept_option f) →
    IsTrue (is_kept c) → IsTrue (kept_option n) → Free (for_words f c n)
for_tidy f c n kf kc kn rest =
    let turn = tidy_append _ (word (codes ")") ∷ blank ∷ []) rest (next_tidy n kn _ refl)
    (lone close_paren (gap none)) in
    let test = tidy_append (expr_words c) _ rest (expr_tidy c kc _ refl) (lone semicolon turn) in
    next (keyword_word keyword.For _ refl) (gap (lone open_paren (tidy_append (first_words f) _ rest
    (first_tidy f kf _ refl) (lone semicolon (gap test)))))

abbrev Apart : Layout → StmtKind → Type 0
Apart layout k = (depth : ℕ) → Free (layout.words depth)

lines_tidy : (depth : ℕ) (stmts : List StmtTree) → Each (Of Apart) stmts → Free (lines_at depth (layouts stmts))
lines_tidy depth [] each rest = none
lines_tidy depth (s ∷ stmts) each rest = tidy_append (line_of depth _) (lines_at depth _) rest
    (at_level depth (tidy_append ((stmt_layout s).words depth) (newline ∷ []) _ (each.0 depth _) (line_end none)))
    (lines_tidy depth stmts each.1 rest)

block_tidy : (depth : ℕ) (stmts : List StmtTree) → Each (Of Apart) stmts → Free (block_words depth (layouts stmts))
block_tidy depth stmts each rest = lone open_curly
    (line_end (tidy_append (lines_at (deeper depth) _) (indent depth ∷ word (codes "}") ∷ []) rest
    (lines_tidy (deeper depth) stmts each _) (at_level depth (lone close_curly none))))

chain_tidy : (depth : ℕ) (stmts : List StmtTree) → Each (Of Apart) stmts → Free (chain_words depth (layouts stmts))
chain_tidy depth [] each rest = none
chain_tidy depth (s ∷ stmts) each rest = tidy_append ((stmt_layout s).words depth) (chain_words depth (layouts stmts))
    rest (each.0 depth _) (chain_tidy depth stmts each.1 rest)

choice_tidy : (wanted : Bool) (a b : List Piece) → Free a → Free b → Free (if wanted then a else b)
choice_tidy true a b s t = s
choice_tidy false a b s t = t

-- what follows an `else` begins with a word or with `{`, and a blank stands before it
else_tidy : (depth : ℕ) (stmts : List StmtTree) → Each (Of Apart) stmts → Free (else_words depth (layouts stmts))
else_tidy depth stmts each =
    choice_tidy (length (layouts stmts) == 0) [] _ (λ rest. none)
    (λ rest. gap (next (keyword_word keyword.Else _ refl) (gap (choice_tidy (is_chain (layouts stmts))
    (chain_words depth (layouts stmts)) (block_words depth _) (chain_tidy depth stmts each)
    (block_tidy depth stmts each) rest))))

form : Forms Apart
form layer.Empty inside k depth rest = lone semicolon none
form (layer.Assign place value) inside k depth rest = ended_tidy _ (simple_tidy (simple.Assign place value) k) rest
form (layer.AssignCall place call) inside k depth rest =
    ended_tidy _ (simple_tidy (simple.AssignCall place call) k) rest
form (layer.Call call) inside k depth rest = ended_tidy _ (simple_tidy (simple.Call call) k) rest
form (layer.Malloc place count of) inside k depth rest =
    ended_tidy _ (simple_tidy (simple.Malloc place count of) k) rest
form (layer.Free pointer) inside k depth rest = ended_tidy _ (simple_tidy (simple.Free pointer) k) rest
form (layer.If cond then_part else_part) inside k depth rest =
    let parts = and_parts (is_kept cond) _ k in
    let both = and_parts (all_kept (map is_kept_stmt then_part)) (all_kept (map is_kept_stmt else_part)) parts.1 in
    tidy_append (condition_words _ cond) _ rest (condition_tidy _ cond (keyword_word keyword.If) parts.0 _)
    (tidy_append (block_words depth (layouts _)) (else_words depth (layouts _)) rest
    (block_tidy depth then_part (kept_each _ then_part inside.0 (all_at _ both.0)) _)
    (else_tidy depth else_part (kept_each _ else_part inside.1 (all_at _ both.1)) rest))
form (layer.While cond body) inside k depth rest =
    let parts = and_parts (is_kept cond) (all_kept (map _ body)) k in
    tidy_append (condition_words _ cond) _ rest (condition_tidy _ cond (keyword_word keyword.While) parts.0 _)
    (block_tidy depth body (kept_each _ body inside (all_at body parts.1)) rest)
form (layer.For first cond after body) inside k depth rest =
    let parts = and_parts (kept_option first) _ k in
    let more = and_parts (is_kept cond) _ parts.1 in
    let last = and_parts (kept_option after) (all_kept (map _ body)) more.1 in
    tidy_append (for_words first cond after) _ rest (for_tidy first cond after parts.0 more.0 last.0 _)
    (block_tidy depth body (kept_each _ body inside (all_at body last.1)) rest)
form layer.Break inside k depth rest = next (keyword_word keyword.Break _ refl) (lone semicolon none)
form layer.Continue inside k depth rest = next (keyword_word keyword.Continue _ refl) (lone semicolon none)
form layer.Return inside k depth rest = next (keyword_word keyword.Return _ refl) (lone semicolon none)
form (layer.ReturnValue value) inside k depth rest = return_tidy _ (expr_tidy value k) rest
form (layer.ReturnCall call) inside k depth rest = return_tidy (call_words call) (λ r calm. call_tidy call k r) rest

pub stmt_holds : (s : StmtTree) → IsTrue (is_kept_stmt s) → (depth : ℕ) → Free ((stmt_layout s).words depth)
stmt_holds = by_forms Apart form

pub stmts_tidy : (stmts : List StmtTree) → IsTrue (are_kept stmts) → (depth : ℕ) → Free (lines_at depth (layouts stmts))
stmts_tidy stmts k depth = lines_tidy depth stmts (each_kept _ stmts stmt_holds k)

literal_tidy : (number : Number) → IsTrue (fits number) → (rest : List ℕ) → Calm rest →
    IsWord (literal_text number) rest
literal_tidy number k rest calm = plain_word _ rest kind.Integer (literal_some number k) (literal_kind number k) calm

name_first : (name : List ℕ) (more : List Piece) → IsTrue (is_ident name) → (rest : List ℕ) →
    Quiet (text_of (word name ∷ more) ++ rest)
name_first name more ident rest = subst (λ x. Quiet x) (sym (append_assoc name _ rest))
    (word_quiet name (text_of more ++ rest) kind.Ident (name_some name ident) (name_kind name ident))

length_tidy : (name : List ℕ) (len : Option ℕ) → IsTrue (is_ident name) → IsTrue (kept_length len) →
    Sound (word name ∷ length_words len)
length_tidy name None ident k rest calm = next (name_tidy name ident _ calm) none
length_tidy name (Some elements) ident k rest calm =
    let high = leb-true elements 4294967295 (and_parts (nat_le 1 _) _ k).1 in
    next (name_tidy name ident _ refl) (lone open_square
    (next (literal_tidy _ (length_fits _ high) _ refl) (lone close_square none)))

declared_tidy : (ty : TypeTree) (name : List ℕ) → IsTrue (kept_type ty) → IsTrue (is_ident name) →
    Sound (declared_words ty name)
declared_tidy ty name k ident rest calm =
    let parts = and_parts (kept_base ty.base) (kept_length ty.length) k in
    tidy_append (base_words ty.base) _ rest (base_tidy ty.base parts.0 _ refl)
    (gap (tidy_append (star_words _) (word name ∷ length_words _) rest
    (stars_tidy _ _ (name_first name (length_words _) ident rest)) (length_tidy name _ ident parts.1 rest calm)))

line_tidy : (depth : ℕ) (pieces : List Piece) → Free pieces → Free (line_of depth pieces)
line_tidy depth pieces t rest = at_level depth (tidy_append pieces _ rest (t _) (line_end none))

member_tidy : (m : MemberTree) → IsTrue (kept_member m) → Free (member_line m)
member_tidy m k = let parts = and_parts (kept_type m.ty) (is_ident m.name) k in
    line_tidy 1 _ (ended_tidy _ (declared_tidy m.ty m.name parts.0 parts.1))

-- many in a row
pub each_tidy : {A : Type 0} (words : A → List Piece) (kept : A → Bool) → ((x : A) → IsTrue (kept x) → Free (words x)) →
    (xs : List A) → list_all kept xs ≡ true → Free (flat_map words xs)
each_tidy words kept t [] k rest = none
each_tidy words kept t (x ∷ xs) k rest =
    let parts = and_parts (kept x) (list_all kept xs) k in
    tidy_append (words x) (flat_map words xs) rest (t x parts.0 _) (each_tidy words kept t xs parts.1 rest)

struct_tidy : (tree : StructTree) → IsTrue (kept_struct tree) → Free (struct_words tree)
struct_tidy tree k rest =
    let parts = and_parts (is_ident tree.name) (some_kept kept_member tree.members) k in
    next (keyword_word keyword.Struct _ refl) (gap (next (name_tidy tree.name parts.0 _ refl)
    (gap (lone open_curly (line_end (tidy_append (flat_map member_line tree.members) (word (codes "}") ∷
    word (codes ";") ∷ newline ∷ []) rest (each_tidy member_line kept_member member_tidy tree.members
    (all_of tree.members parts.1) _) (lone close_curly (lone semicolon (line_end none)))))))))
  where
    all_of : (ms : List MemberTree) → IsTrue (some_kept kept_member ms) → list_all kept_member ms ≡ true
    all_of [] h = absurd (false≢true h)
    all_of (m ∷ ms) h = h

const_from : (negative : Bool) (literal : Number) → IsTrue (fits literal) →
    Sound (minus_words negative ++ word (literal_text literal) ∷ [])
const_from true literal k rest calm = next (prefix_word (signed minus) _
    (quiet (subst (λ x. Quiet (x ++ rest)) (sym (append-nil (literal_text literal)))
    (word_quiet (literal_text literal) rest kind.Integer (literal_some literal k) (literal_kind literal k)))))
    (next (literal_tidy literal k _ calm) none)
const_from false literal k rest calm = next (literal_tidy literal k _ calm) none

init_tidy : (i : InitTree) → IsTrue (kept_init i) → Sound (init_words i)
init_tidy init.Absent k rest calm = none
init_tidy (init.One c) k rest calm = gap (next (equal_word _) (gap (const_from c.negative c.literal k rest calm)))
init_tidy (init.Many []) k rest calm = absurd (false≢true k)
init_tidy (init.Many (c ∷ cs)) k rest calm =
    let parts = and_parts (kept_const c) (list_all kept_const cs) k in
    gap (next (equal_word _) (gap (lone open_curly
    (tidy_append (join_by const_words comma (c ∷ cs)) (word (codes "}") ∷ []) rest
    (joined_tidy const_words kept_const Calm (λ r. refl) (λ x. const_from x.negative x.literal) c cs parts.0 parts.1 _
    refl) (lone close_curly none)))))

both_tidy : (a b : List Piece) → Sound a → Sound b → ((rest : List ℕ) → Calm rest → Calm (text_of b ++ rest)) →
    Sound (a ++ b)
both_tidy a b s t calm_at rest calm = tidy_append a b rest (s _ (calm_at rest calm)) (t rest calm)

init_calm : (i : InitTree) (rest : List ℕ) → Calm rest → Calm (text_of (init_words i) ++ rest)
init_calm init.Absent rest calm = calm
init_calm (init.One c) rest calm = refl
init_calm (init.Many cs) rest calm = refl

global_tidy : (g : GlobalTree) → IsTrue (kept_global g) → Free (global_words g)
global_tidy g k rest =
    let parts = and_parts (kept_type g.ty) _ k in
    let more = and_parts (is_ident g.name) (kept_init g.init) parts.1 in
    tidy_append (ended _) (newline ∷ []) rest (ended_tidy _ (both_tidy (declared_words g.ty g.name) (init_words g.init)
    (declared_tidy g.ty g.name parts.0 more.0) (init_tidy g.init more.1) (init_calm g.init)) _) (line_end none)

value_tidy : (v : Option ExprTree) → IsTrue (kept_value v) → Sound (value_words v)
value_tidy None k rest calm = none
value_tidy (Some e) k rest calm = gap (next (equal_word _) (gap (expr_tidy e k rest calm)))

value_calm : (v : Option ExprTree) (rest : List ℕ) → Calm rest → Calm (text_of (value_words v) ++ rest)
value_calm None rest calm = calm
value_calm (Some e) rest calm = refl

pub local_tidy : (l : LocalTree) → IsTrue (kept_local l) → Free (local_line l)
local_tidy l k =
    let parts = and_parts (kept_type l.ty) _ k in
    let more = and_parts (is_ident l.name) (kept_value l.init) parts.1 in
    line_tidy 1 _ (ended_tidy _ (both_tidy (declared_words l.ty l.name) (value_words l.init)
    (declared_tidy l.ty l.name parts.0 more.0) (value_tidy l.init more.1) (value_calm l.init)))

-- a result ends before a name
result_tidy : (r : Option TypeName) → IsTrue (kept_result r) → (rest : List ℕ) → Quiet rest → Tidy (result_words r) rest
result_tidy None k rest q = next (keyword_word keyword.Void _ refl) (gap none)
result_tidy (Some ty) k rest q = tidy_append (base_words ty.base) (blank ∷ star_words _) rest
    (base_tidy ty.base k _ refl) (gap (stars_tidy _ rest q))

-- pieces that stand apart, whatever calm and quiet text follows them
abbrev Settled : List Piece → Type 0
Settled pieces = (rest : List ℕ) → Calm rest → Quiet rest → Tidy pieces rest

param_from : (b : BaseTree) (stars : ℕ) (name : Option (List ℕ)) → IsTrue (kept_base b) → IsTrue (kept_name name) →
    Settled (base_words b ++ (blank_if (nat_lt 0 stars || is_some name) ++ (star_words stars ++ name_words name)))
param_from b zero None k ident rest calm q = tidy_append _ [] rest (base_tidy b k rest calm) none
param_from b (suc n) None k ident rest calm q =
    let wanted = nat_lt 0 (suc n) || false in
    let pieces = star_words (suc n) ++ [] in
    tidy_append (base_words b) (blank_if wanted ++ pieces) rest (base_tidy b k _ (calm_if wanted pieces rest refl))
    (gap_if wanted pieces rest (tidy_append (star_words (suc n)) [] rest (stars_tidy (suc n) rest q) none))
param_from b zero (Some name) k ident rest calm q = tidy_append (base_words b) _ rest (base_tidy b k _ refl)
    (gap (next (name_tidy name ident _ calm) none))
param_from b (suc n) (Some name) k ident rest calm q =
    let wanted = nat_lt 0 (suc n) || true in
    let pieces = star_words (suc n) ++ word name ∷ [] in
    tidy_append (base_words b) (blank_if wanted ++ pieces) rest (base_tidy b k _ (calm_if wanted pieces rest refl))
    (gap_if wanted pieces rest (tidy_append (star_words (suc n)) (word name ∷ []) rest
    (stars_tidy (suc n) _ (name_first name [] ident rest)) (next (name_tidy name ident _ calm) none)))

params_tidy : (ps : List ParamTree) → list_all kept_param ps ≡ true → Settled (params_words ps)
params_tidy [] k rest calm q = next (keyword_word keyword.Void _ calm) none
params_tidy (p ∷ ps) k rest calm q = let parts = and_parts _ _ k in
    joined_tidy param_words kept_param (λ r. Calm r × Quiet r) (λ r. (refl, refl))
    (λ p k r fine. let both = and_parts _ _ k in param_from _ _ p.name both.0 both.1 r fine.0 fine.1)
    p ps parts.0 parts.1 rest (calm, q)

pub head_tidy : (head : HeadTree) → IsTrue (kept_head head) → Free (head_words head)
head_tidy head k rest =
    let parts = and_parts (kept_result head.result) (is_ident head.name && list_all kept_param head.params) k in
    let more = and_parts (is_ident head.name) (list_all kept_param head.params) parts.1 in
    tidy_append (result_words head.result) _ rest (result_tidy head.result parts.0 _
    (name_first head.name (word (codes "(") ∷ (params_words head.params ++ word (codes ")") ∷ [])) more.0 rest))
    (next (name_tidy head.name more.0 _ refl) (lone open_paren
    (tidy_append (params_words head.params) (word (codes ")") ∷ []) rest
    (params_tidy head.params more.1 _ refl refl) (lone close_paren none))))

function_tidy : (f : FunctionTree) → IsTrue (kept_function f) → Free (function_words f)
function_tidy f k rest =
    let parts = and_parts _ _ k in
    let more = and_parts _ _ parts.1 in
    let body = tidy_append _ (word (codes "}") ∷ newline ∷ []) rest
    (stmts_tidy f.body more.1 1 _) (lone close_curly (line_end none)) in
    line_end (tidy_append (head_words (head_of f.head)) _ rest (head_tidy (head_of f.head) parts.0 _)
    (gap (lone open_curly (line_end (tidy_append _ _ rest
    (each_tidy local_line kept_local local_tidy f.locals more.0 _) body)))))

pub decl_tidy : (d : Decl) → IsTrue (is_kept_decl d) → Free (decl_words d)
decl_tidy (decl.Struct tree) k rest = struct_tidy tree k rest
decl_tidy (decl.Global tree) k rest = global_tidy tree k rest
decl_tidy (decl.Proto tree) k rest = tidy_append (ended _) (newline ∷ []) rest
    (ended_tidy _ (λ r calm. head_tidy tree k r) _) (line_end none)
decl_tidy (decl.Function tree) k rest = function_tidy tree k rest

pub decls_tidy : (ds : List Decl) → list_all is_kept_decl ds ≡ true → Free (flat_map decl_words ds)
decls_tidy ds k = each_tidy _ _ decl_tidy ds k
