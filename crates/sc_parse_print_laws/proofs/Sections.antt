-- The words of whole declarations spell them, lines aside.
use Rattle.sc_parse_print_laws.proofs.Common.{[], BaseTree, Bool, Decl, Declares, DeclsSpell, ExprTree, FunctionTree}
use Rattle.sc_parse_print_laws.proofs.Common.{GlobalTree, Grouped, HeadTree, InitTree, IsGlobal, IsLocal, IsMember}
use Rattle.sc_parse_print_laws.proofs.Common.{IsTrue, Lexeme, List, LocalTree, MemberTree, None, Number, Option}
use Rattle.sc_parse_print_laws.proofs.Common.{ParamTree, Piece, Some, SpellsConst, SpellsDecl, SpellsDeclarator}
use Rattle.sc_parse_print_laws.proofs.Common.{SpellsHead, SpellsInit, SpellsParam, SpellsParams, SpellsResult}
use Rattle.sc_parse_print_laws.proofs.Common.{SpellsTypeName, SpellsValue, TypeName, TypeTree, and_from, and_parts, ap}
use Rattle.sc_parse_print_laws.proofs.Common.{append-nil, append_assoc, arith, array_length, base_words, blank}
use Rattle.sc_parse_print_laws.proofs.Common.{blank_if, cases_lt, codes, comma, const_words, decl_words, declared_words}
use Rattle.sc_parse_print_laws.proofs.Common.{ended, expr_words, false, false≢true, first_line, fits, flat_map}
use Rattle.sc_parse_print_laws.proofs.Common.{function_words, global_words, head_of, head_words, init_words, is_ident}
use Rattle.sc_parse_print_laws.proofs.Common.{is_kept_decl, join_by, kept_base, kept_const, kept_function, kept_global}
use Rattle.sc_parse_print_laws.proofs.Common.{kept_head, kept_init, kept_length, kept_local, kept_member, kept_name}
use Rattle.sc_parse_print_laws.proofs.Common.{kept_param, kept_result, kept_type, kept_value, le-leb, leb-true}
use Rattle.sc_parse_print_laws.proofs.Common.{length_number, length_words, line_of, lineless_decl}
use Rattle.sc_parse_print_laws.proofs.Common.{lineless_function_head, lineless_local, lineless_stmts, list_all}
use Rattle.sc_parse_print_laws.proofs.Common.{literal_text, local_line, lt-ltb, map, member_line, minus_words}
use Rattle.sc_parse_print_laws.proofs.Common.{name_words, nat_le, nat_lt, newline, one, or_right, param_words}
use Rattle.sc_parse_print_laws.proofs.Common.{params_words, refl, result_words, some_kept, star_words, struct_words}
use Rattle.sc_parse_print_laws.proofs.Common.{subst, symbols, true, type_name, value_words, word, ℕ, ⊎_elim, ◌&&◌, ◌++◌}
use Rattle.sc_parse_print_laws.proofs.Common.{◌+◌, ◌||◌, ◌∙◌, ◌∷◌, ◌≡◌, ◌≤◌}
use Rattle.sc_base.specs.declared.op.UnaryOp.TheVariants as unary
use Rattle.sc_ast.specs.declared.types.BaseTree.TheVariants as base
use Rattle.sc_ast.specs.declared.section.InitTree.TheVariants as init
use Rattle.sc_parse.specs.Types as types
use Rattle.sc_parse.specs.Declarations as decls
use Rattle.sc_parse_print_laws.proofs.Tables as tables
use Rattle.sc_parse_print_laws.proofs.Literals.{name_says, literal_says}
use Rattle.sc_parse_print_laws.proofs.Reading.{Reading, part, written, reads, separated, fixed, Alike, AllAlike}
use Rattle.sc_parse_print_laws.proofs.Reading.{all_alike, line_symbols, joined_symbols, Say}
use Rattle.sc_parse_expr.specs.declared.mark.Keyword.TheVariants as keyword
use Rattle.sc_ast.specs.declared.section.Decl.TheVariants as decl
use Rattle.sc_parse.specs.Lists as lists
use Rattle.sc_parse_print_laws.proofs.TypeReads.{base_reads, stars_read}
use Rattle.sc_parse_print_laws.proofs.Stmts.{each_kept, expr_reads, Lines, lines_read, stmt_holds}
use Rattle.sc_parse_print_laws.proofs.Tables.{lone_says, open_paren, close_paren, open_square, close_square, semicolon}
use Rattle.sc_parse_print_laws.proofs.Tables.{open_curly, close_curly}

-- the length of an array is a number of its type
pub length_fits : (elements : ℕ) → elements ≤ 4294967295 → IsTrue (fits (length_number elements))
length_fits elements h = ⊎_elim (λ small. let low : elements ≤ 2147483647 = omega (arith, small) in
    and_from (nat_lt 2147483647 elements || nat_le elements 2147483647) (nat_le elements 4294967295)
    (or_right (nat_lt 2147483647 _) (nat_le _ 2147483647) (le-leb _ 2147483647 low)) (le-leb elements 4294967295 h))
    (λ large. let more = lt-ltb 2147483647 elements (omega (arith, large)) in
    and_from _ (nat_le _ 4294967295) (rw more) (le-leb _ 4294967295 h)) (cases_lt elements 2147483648)

-- what follows the base of a declaration
abbrev pub declarator_words : TypeTree → List ℕ → List Piece
declarator_words ty name = star_words ty.stars ++ word name ∷ length_words ty.length

declarator_from : (b : BaseTree) (stars : ℕ) (len : Option ℕ) (name : List ℕ) → IsTrue (kept_length len) →
    IsTrue (is_ident name) → Reading (star_words stars ++ word name ∷ length_words len)
    (λ ts. SpellsDeclarator b ts (record { base = b; stars = stars; length = len }) name)
declarator_from b stars None name k ident =
    reads (part (star_words stars) ∷ written name ∷ []) (λ ts. SpellsDeclarator b ts _ name)
    (λ ts said t is. types.plain t name (is ∙ name_says name ident) (stars_read stars ts said))
declarator_from b stars (Some elements) name k ident =
    let size = literal_text (length_number _) in
    let parts = and_parts (nat_le 1 elements) _ k in
    let high = leb-true elements 4294967295 parts.1 in
    let is_length : array_length elements ≡ Some elements = rw parts.0 in
    reads (part (star_words stars) ∷ written name ∷ written (codes "[") ∷ written size ∷ written (codes "]") ∷ [])
    (λ ts. SpellsDeclarator b ts _ name) (λ ts said t is u opens v number w closes.
    types.array t u v w name (length_number _) elements (is ∙ name_says name ident)
    (opens ∙ lone_says open_square) (number ∙ literal_says (length_number _) (length_fits _ high))
    (closes ∙ lone_says close_square) is_length (stars_read stars ts said))

pub declarator_reads : (ty : TypeTree) (name : List ℕ) → IsTrue (kept_type ty) → IsTrue (is_ident name) →
    Reading (declarator_words ty name) (λ ts. SpellsDeclarator ty.base ts ty name)
declarator_reads ty name k ident = declarator_from ty.base _ _ name (and_parts _ _ k).1 ident

const_from : (negative : Bool) (literal : Number) → IsTrue (fits literal) →
    Reading (minus_words negative ++ word (literal_text literal) ∷ [])
    (λ ts. SpellsConst ts (record { negative = negative; literal = literal }))
const_from true literal k = reads (written _ ∷ written _ ∷ []) _
    (λ t is u number. decls.negated t u literal (is ∙ tables.unary_says unary.Minus) (number ∙ literal_says literal k))
const_from false literal k =
    reads (written _ ∷ []) _ (λ t number. decls.plain t literal (number ∙ literal_says literal k))

pub init_reads : (i : InitTree) → IsTrue (kept_init i) → Reading (init_words i) (λ ts. SpellsInit ts i)
init_reads init.Absent k = reads [] (λ ts. SpellsInit ts init.Absent) decls.absent
init_reads (init.One c) k = reads (written (codes "=") ∷ part (const_words c) ∷ []) (λ ts. SpellsInit ts (init.One c))
    (λ t is ts said. decls.one t (is ∙ tables.equal) (const_from _ _ k ts said))
init_reads (init.Many []) k = absurd (false≢true k)
init_reads (init.Many (c ∷ cs)) k =
    let parts = and_parts (kept_const c) (list_all kept_const cs) k in
    reads (written (codes "=") ∷ written (codes "{") ∷ part (join_by const_words comma (c ∷ cs)) ∷
    written (codes "}") ∷ []) (λ ts. SpellsInit ts (init.Many (c ∷ cs)))
    (λ t is u opens ts said v closes.
    decls.many t u v (is ∙ tables.equal) (opens ∙ lone_says open_curly) (closes ∙ lone_says close_curly)
    (separated const_words kept_const SpellsConst (λ c k. const_from _ _ k) c cs parts.0 parts.1 ts said))

-- one declarator after its base, on a line of its own
single : {A : Type 0} (Item : BaseTree → ℕ → List Lexeme → A → Type 0) (depth : ℕ) (b : BaseTree)
    (following : List Piece)
    (entry : ℕ → A) → IsTrue (kept_base b) → ((line : ℕ) → Reading following (λ ts. Item b line ts (entry line))) →
    Reading
    (line_of depth (ended (base_words b ++ blank ∷ following))) (λ ts. (line : ℕ) × Declares Item ts (entry line ∷ []))
single Item depth b following entry k item ts h =
    reads (part (base_words b) ∷ fixed blank ∷ part following ∷ written (codes ";") ∷ [])
    (λ us. (line : ℕ) × Declares Item us (entry line ∷ [])) (λ leading base back said t is. (
      first_line leading,
      decls.declares t (is ∙ lone_says semicolon) (base_reads b k leading base) (one (item _ back said)),
    )) ts (h ∙ line_symbols depth (ended (base_words b ++ blank ∷ following)) ∙
    ap symbols (append_assoc (base_words b) _ _))

-- the same, where something follows the declarator
valued : {A : Type 0} (Item : BaseTree → ℕ → List Lexeme → A → Type 0) (depth : ℕ) (ty : TypeTree) (name : List ℕ)
    (value : List Piece) (entry : ℕ → A) (Value : List Lexeme → Type 0) → IsTrue (kept_type ty) →
    IsTrue (is_ident name) → Reading value Value → ((ts us : List Lexeme) (line : ℕ) → SpellsDeclarator ty.base ts ty
    name → Value us → Item ty.base line (ts ++ us) (entry line)) → Reading
    (line_of depth (ended (declared_words ty name ++ value))) (λ ts. (line : ℕ) × Declares Item ts (entry line ∷ []))
valued Item depth ty name value entry Value k ident spells item ts h =
    single Item depth ty.base (declarator_words ty name ++ value) entry (and_parts _ _ k).0
    (λ line. reads (part (declarator_words ty name) ∷ part value ∷ []) _ (λ leading said back following.
    item leading back line (declarator_reads ty name k ident leading said) (spells back following))) ts
    (h ∙ ap (λ pieces. symbols (line_of depth (ended pieces)))
    (append_assoc (base_words ty.base) (blank ∷ declarator_words ty name) value))

member_reads : (m : MemberTree) → IsTrue (kept_member m) → Reading (member_line m) (λ ts. Declares IsMember ts (m ∷ []))
member_reads m k ts h =
    let parts = and_parts _ _ k in
    let base = and_parts _ _ parts.0 in
    (single IsMember 1 _ _ (λ line. m) base.0 (λ line. declarator_reads m.ty m.name parts.0 parts.1) ts h).1

members_read : (ms : List MemberTree) → list_all kept_member ms ≡ true →
    Reading (flat_map member_line ms) (λ ts. Grouped (Declares IsMember) ts ms)
members_read [] k = reads [] _ lists.none
members_read (m ∷ ms) k =
    let parts = and_parts (kept_member m) (list_all _ ms) k in
    reads (part (member_line m) ∷ part (flat_map member_line ms) ∷ []) _
    (λ leading said back following. lists.next (member_reads m parts.0 leading said)
    (members_read ms parts.1 back following))

-- a declaration that is spelled, and is this one, lines aside
abbrev Spelled : List Lexeme → Decl → Type 0
Spelled ts d = Alike SpellsDecl lineless_decl ts d

struct_reads : (name : List ℕ) (line : ℕ) (members : List MemberTree) →
    IsTrue (is_ident name && some_kept kept_member members) →
    Reading (struct_words (record { name = name; members = members; line = line }))
    (λ ts. Spelled ts (decl.Struct (record { name = name; members = members; line = line })))
struct_reads name line [] k ts h = absurd (false≢true (and_parts (is_ident name) false k).1)
struct_reads name line (m ∷ ms) k ts h =
    let parts = and_parts (is_ident name) (kept_member m && list_all kept_member ms) k in
    let both = and_parts (kept_member m) (list_all kept_member ms) parts.1 in
    let tail = word (codes "}") ∷ word (codes ";") ∷ newline ∷ [] in
    reads (written (codes "struct") ∷ written name ∷ written (codes "{") ∷ part (member_line m) ∷
    part (flat_map member_line ms) ∷ written (codes "}") ∷ written (codes ";") ∷ fixed newline ∷ [])
    (λ us. Spelled us (decl.Struct (record { name = name; members = m ∷ ms; line = line })))
    (λ t is u named v opens leading said back following w closes x ends.
    record {
      other = decl.Struct _;
      spelled = decls.a_struct (decls.struct t u v w x name (is ∙ tables.keyword_says keyword.Struct)
          (named ∙ name_says name parts.0) (opens ∙ lone_says open_curly) (closes ∙ lone_says close_curly)
          (ends ∙ lone_says semicolon) (member_reads m both.0 leading said) (members_read ms both.1 back following));
      same = refl;
    }) ts (h ∙ ap (λ pieces. symbols (word (codes "struct") ∷ word name ∷ word (codes "{") ∷ pieces))
    (append_assoc (member_line m) (flat_map member_line ms) tail))

global_reads : (g : GlobalTree) → IsTrue (kept_global g) → Reading (global_words g) (λ ts. Spelled ts (decl.Global g))
global_reads g k ts h =
    let parts = and_parts _ _ k in
    let rest = and_parts _ _ parts.1 in
    let d = valued IsGlobal 0 g.ty g.name _ (λ line. record g { line = line }) (λ us. SpellsInit us g.init) parts.0
    rest.0 (init_reads g.init rest.1) (λ us vs line named value. decls.global named value) ts h in
    record { other = decl.Global _; spelled = decls.globals d.1; same = refl }

value_reads : (v : Option ExprTree) → IsTrue (kept_value v) → Reading (value_words v) (λ ts. SpellsValue ts v)
value_reads None k = reads [] _ decls.no_value
value_reads (Some e) k = reads (written _ ∷ part (expr_words e) ∷ []) _
    (λ t is ts said. decls.a_value t (is ∙ tables.equal) (expr_reads e k ts said))

local_reads : (l : LocalTree) → IsTrue (kept_local l) →
    Reading (local_line l) (λ ts. Alike (Declares IsLocal) lineless_local ts l)
local_reads l k ts h =
    let parts = and_parts _ _ k in
    let rest = and_parts _ _ parts.1 in
    let d = valued IsLocal 1 l.ty l.name _ (λ line. record l { line = line }) (λ us. SpellsValue us l.init) parts.0
    rest.0 (value_reads l.init rest.1) (λ us vs line named value. decls.local named value) ts h in
    record { other = record l { line = d.0 }; spelled = d.1; same = refl }

locals_read : (ls : List LocalTree) → list_all kept_local ls ≡ true →
    Reading (flat_map local_line ls) (λ ts. AllAlike (Declares IsLocal) lineless_local ts ls)
locals_read = all_alike local_line _ _ _ local_reads

type_reads : (ty : TypeName) → IsTrue (kept_base ty.base) → (leading back : List Lexeme) →
    Say (symbols (base_words ty.base)) leading → Say (symbols (star_words ty.stars)) back →
    SpellsTypeName (leading ++ back) ty
type_reads ty k leading back base stars = type_name (base_reads ty.base k leading base) (stars_read _ back stars)

result_reads : (r : Option TypeName) → IsTrue (kept_result r) → Reading (result_words r) (λ ts. SpellsResult ts r)
result_reads None k = reads (written _ ∷ []) _ (λ t is. decls.no_result t (is ∙ tables.keyword_says _))
result_reads (Some ty) k = reads (part (base_words ty.base) ∷ fixed blank ∷ part _ ∷ []) _
    (λ leading base back stars. decls.a_result (type_reads ty k leading back base stars))

blank_symbols : (wanted : Bool) → symbols (blank_if wanted) ≡ []
blank_symbols true = refl
blank_symbols false = refl

param_from : (ty : TypeName) (name : Option (List ℕ)) (gap : Bool) → IsTrue (kept_base ty.base) →
    IsTrue (kept_name name) → Reading (base_words ty.base ++ (blank_if gap ++ (star_words ty.stars ++ name_words name)))
    (λ ts. SpellsParam ts (record { ty = ty; name = name }))
param_from ty None gap k ident =
    reads (part (base_words ty.base) ∷ part (blank_if gap ++ (star_words ty.stars ++ [])) ∷ []) _
    (λ leading base back said. decls.nameless (type_reads ty k leading back base (said ∙
    joined_symbols (blank_if gap) (star_words _ ++ []) ∙
    ap (λ x. x ++ symbols (star_words ty.stars ++ [])) (blank_symbols gap) ∙ ap symbols (append-nil (star_words _)))))
param_from ty (Some name) gap k ident =
    reads (part (base_words ty.base) ∷ part (blank_if gap ++ (star_words _ ++ word name ∷ [])) ∷ []) _
    (λ leading base back said. reads (part (star_words ty.stars) ∷ written name ∷ [])
    (λ us. SpellsParam (leading ++ us) (record { ty = ty; name = Some name }))
    (λ middle stars t is. subst (λ us. SpellsParam us (record { ty = ty; name = Some name }))
    (append_assoc leading middle _)
    (decls.named t name (is ∙ name_says name ident) (type_reads ty k leading middle base stars))) back
    (said ∙ joined_symbols (blank_if gap) (star_words _ ++ word name ∷ []) ∙
    ap (λ x. x ++ symbols (star_words ty.stars ++ word name ∷ [])) (blank_symbols gap)))

params_read : (ps : List ParamTree) → list_all kept_param ps ≡ true →
    Reading (params_words ps) (λ ts. SpellsParams ts ps)
params_read [] all ts h = reads (written _ ∷ []) (λ us. SpellsParams us [])
    (λ t is. decls.no_params t (is ∙ tables.keyword_says _)) ts h
params_read (p ∷ ps) all ts h = let parts = and_parts (kept_param p) _ all in
    decls.some_params (separated param_words _ SpellsParam
    (λ p k. let both = and_parts _ _ k in param_from p.ty p.name _ both.0 both.1) p ps parts.0 parts.1 ts h)

-- a head that is spelled, with the line at which it stands
record Head (ts : List Lexeme) (head : HeadTree) : Type 0 where
  line : ℕ
  spelled : SpellsHead ts (record head { line = line })

head_reads : (head : HeadTree) → IsTrue (kept_head head) → Reading (head_words head) (λ ts. Head ts head)
head_reads head k =
    let parts = and_parts (kept_result _) _ k in
    let rest = and_parts (is_ident _) (list_all kept_param head.params) parts.1 in
    reads (part (result_words _) ∷ written head.name ∷ written (codes "(") ∷ part (params_words _) ∷
    written (codes ")") ∷ []) (λ ts. Head ts head) (λ leading result t is u opens back params v closes.
    record {
      line = first_line leading;
      spelled = decls.head t u v _ (is ∙ name_says _ rest.0) (opens ∙ lone_says open_paren)
          (closes ∙ lone_says close_paren) (result_reads _ parts.0 leading result) (params_read _ rest.1 back params);
    })

proto_reads : (head : HeadTree) → IsTrue (kept_head head) →
    Reading (ended (head_words head) ++ newline ∷ []) (λ ts. Spelled ts (decl.Proto head))
proto_reads head k ts h = reads (part (head_words head) ∷ written (codes ";") ∷ []) (λ us. Spelled us (decl.Proto head))
    (λ leading said t ends.
    let d = head_reads head k leading said in
    record {
      other = decl.Proto _;
      spelled = decls.prototype t (ends ∙ lone_says semicolon) d.spelled;
      same = refl;
    }) ts (h ∙ line_symbols 0 (ended (head_words head)))

-- A function, whose statements may be written in other words than they are printed in.
pub function_with : (f : FunctionTree) (body : List Piece) → IsTrue (kept_head (head_of f.head)) →
    list_all kept_local f.locals ≡ true → Reading body (λ ts. Lines ts f.body) →
    Reading (head_words (head_of f.head) ++ blank ∷ word (codes "{") ∷ newline ∷ (flat_map local_line f.locals ++
    (body ++ word (codes "}") ∷ newline ∷ []))) (λ ts. Alike SpellsDecl lineless_decl ts (decl.Function f))
function_with f body kept_h kept_ls read = reads (part (head_words (head_of f.head)) ∷ fixed blank ∷
    written (codes "{") ∷ fixed newline ∷ part (flat_map local_line f.locals) ∷ part body ∷ written (codes "}") ∷
    fixed newline ∷ []) (λ us. Spelled us (decl.Function f)) (λ leading head t opens middle locals back said u closes.
    let hd = head_reads (head_of f.head) kept_h leading head in
    let ls = locals_read f.locals kept_ls middle locals in
    let b = read back said in
    let tree : FunctionTree = record {
      head = record f.head { line = hd.line };
      locals = ls.others;
      body = b.others;
      close_line = u.line;
    } in
    record {
      other = decl.Function tree;
      spelled = decls.a_function (decls.function t u (opens ∙ lone_says open_curly) (closes ∙ lone_says close_curly)
          hd.spelled ls.spelled b.spelled);
      same = same_function f tree refl ls.same b.same;
    })
  where
    same_function : (f g : FunctionTree) → lineless_function_head g.head ≡ lineless_function_head f.head →
        map lineless_local g.locals ≡ map lineless_local f.locals → lineless_stmts g.body ≡ lineless_stmts f.body →
        lineless_decl (decl.Function g) ≡ lineless_decl (decl.Function f)
    same_function f g p q r = rw (p, q, r)

function_reads : (f : FunctionTree) → IsTrue (kept_function f) →
    Reading (function_words f) (λ ts. Spelled ts (decl.Function f))
function_reads f k =
    let parts = and_parts _ _ k in
    let rest = and_parts _ _ parts.1 in
    function_with f _ parts.0 rest.0 (lines_read 1 f.body (each_kept _ f.body stmt_holds rest.1))

pub decl_reads : (d : Decl) → IsTrue (is_kept_decl d) →
    Reading (decl_words d) (λ ts. Alike SpellsDecl lineless_decl ts d)
decl_reads (decl.Struct tree) k = struct_reads _ _ _ k
decl_reads (decl.Global tree) k = global_reads tree k
decl_reads (decl.Proto tree) k = proto_reads tree k
decl_reads (decl.Function tree) k = function_reads tree k

pub decls_read : (ds : List Decl) → list_all is_kept_decl ds ≡ true →
    Reading (flat_map decl_words ds) (λ ts. AllAlike SpellsDecl lineless_decl ts ds)
decls_read = all_alike _ _ SpellsDecl _ decl_reads

pub decls_spell : (ds : List Decl) → list_all is_kept_decl ds ≡ true → DeclsSpell ds
decls_spell ds k ts h = let read = decls_read ds k ts h in (read.others, read.spelled, read.same)
