-- What declarations begin with, and that those of a section are read exactly as they are spelled.
use Rattle.sc_parse.proofs.Common.{BaseTree, Decl, Declares, FunctionHead, FunctionTree, Grouped, HeadTree, InitTree}
use Rattle.sc_parse.proofs.Common.{IsGlobal, IsMark, Keyword, Lexeme, List, None, Option, Reader, Separated, Some}
use Rattle.sc_parse.proofs.Common.{SpellsBase, SpellsDecl, SpellsDeclarator, SpellsHead, SpellsInit, SpellsResult}
use Rattle.sc_parse.proofs.Common.{SpellsStars, SpellsStruct, StructTree, TypeName, TypeTree, [], a_function, a_result}
use Rattle.sc_parse.proofs.Common.{a_struct, absent, adds, ap, append_assoc, arith, array, begins_call, begins_head}
use Rattle.sc_parse.proofs.Common.{begins_struct, begins_with, bound, cond, decl_at, declares, decls_height, drop}
use Rattle.sc_parse.proofs.Common.{false, false≢true, first_mark, following, function, function_at, global, globals}
use Rattle.sc_parse.proofs.Common.{grouped, head, head_of, headed_at, int, is_empty, is_struct_word, keyword_at, length}
use Rattle.sc_parse.proofs.Common.{length-append, line_at, many, many_comma, map, more, names_struct, no_result}
use Rattle.sc_parse.proofs.Common.{past_base, past_head, past_stars, plain, prototype, refl, signed, signed_int, star}
use Rattle.sc_parse.proofs.Common.{struct, struct_decl_at, subst, sym, true, type_name, unsigned, unsigned_int, ℕ, ◌++◌}
use Rattle.sc_parse.proofs.Common.{◌+◌, ◌<◌, ◌∙◌, ◌∷◌, ◌≡◌}
use Rattle.sc_ast.specs.declared.section.GlobalTree.{GlobalTree}
use Rattle.sc_parse.proofs.Bases.{base_start, NoInt, stars_no_int, stars_count}
use Rattle.sc_parse_expr.specs.declared.mark.Mark.TheVariants as mark
use Rattle.sc_parse.specs.Lists as lists
use Rattle.sc_parse.specs.Types as types
use Rattle.sc_parse.specs.Declarations.{one}
use Rattle.sc_parse.proofs.Declared.{declarator_no_int, valued, struct_sound, IsGlobalDecl, globals_exact}
use Rattle.sc_parse.proofs.Declared.{declares_some, struct_complete}
use Rattle.sc_ast.specs.declared.section.Decl.TheVariants as decl
use Rattle.sc_parse_expr.specs.declared.mark.Keyword.TheVariants as word
use Rattle.sc_parse.proofs.Exact.{Adds, Any, Complete, Exact, ExactAdder, Form, Low, Sound, Taken, Then, Turns, adding}
use Rattle.sc_parse.proofs.Exact.{as_form, both, chosen, fitting, given, grouped_exact, then_exact, took}
use Rattle.sc_parse.proofs.Prototypes.{head_exact}
use Rattle.sc_parse.proofs.Bodies.{IsBody, a_body, body_sound, named_sound, body_complete}
use Rattle.sc_parse.proofs.Expressions.{Few, few}
use Rattle.sc_parse.proofs.Naming.{head_named}

-- the lexemes don't begin with `{`
abbrev NoCurly : List Lexeme → Type 0
NoCurly ts = begins_with mark.OpenCurly ts ≡ false

-- the lexemes don't begin with `(`
abbrev NoParen : List Lexeme → Type 0
NoParen ts = begins_with mark.OpenParen ts ≡ false

-- the lexemes don't begin with stars, a name and `(`
abbrev NoCall : List Lexeme → Type 0
NoCall ts = begins_call (past_stars ts) ≡ false

-- the lexemes don't begin with a directive
abbrev pub NoLine : List Lexeme → Type 0
NoLine ts = line_at ts ≡ None

stars_no_curly : {ts : List Lexeme} {n : ℕ} (d : SpellsStars ts n) (rest : List Lexeme) → NoCurly rest →
    NoCurly (ts ++ rest)
stars_no_curly types.none rest h = h
stars_no_curly (star t p d) rest h = rw p

-- what follows the stars at the start
past_all : {ts : List Lexeme} {n : ℕ} (d : SpellsStars ts n) (rest : List Lexeme) → begins_with mark.Star rest ≡ false →
    past_stars (ts ++ rest) ≡ rest
past_all {ts} d rest h = let c = stars_count d rest h in ap (λ k. drop k (ts ++ rest)) c.0 ∙ c.1

declarator_no_curly : {base : BaseTree} {ts : List Lexeme} {ty : TypeTree} {name : List ℕ}
    (d : SpellsDeclarator base ts ty name) (rest : List Lexeme) → NoCurly (ts ++ rest)
declarator_no_curly (plain {ts = ts} t name p d) rest =
    subst NoCurly (sym (append_assoc ts _ rest)) (stars_no_curly d (t ∷ rest) (rw p))
declarator_no_curly (array {ts = ts} t u v w name number elements p q r s k d) rest =
    subst NoCurly (sym (append_assoc ts _ rest)) (stars_no_curly d (t ∷ u ∷ v ∷ w ∷ rest) (rw p))

named_no_call : {ts : List Lexeme} {n : ℕ} (d : SpellsStars ts n) (rest : List Lexeme) →
    begins_with mark.Star rest ≡ false → begins_call rest ≡ false → NoCall (ts ++ rest)
named_no_call d rest h k = ap begins_call (past_all d rest h) ∙ k

declarator_no_call : {base : BaseTree} {ts : List Lexeme} {ty : TypeTree} {name : List ℕ}
    (d : SpellsDeclarator base ts ty name) (rest : List Lexeme) → NoParen rest → NoCall (ts ++ rest)
declarator_no_call (plain {ts = ts} t name p d) rest h =
    subst NoCall (sym (append_assoc ts _ rest)) (named_no_call d (t ∷ rest) (rw p) (rw p h))
declarator_no_call (array {ts = ts} t u v w name number elements p q r s k d) rest h =
    subst NoCall (sym (append_assoc ts _ rest)) (named_no_call d (t ∷ u ∷ v ∷ w ∷ rest) (rw p) (rw (p, q)))

init_no_paren : {ts : List Lexeme} {x : InitTree} (d : SpellsInit ts x) (rest : List Lexeme) → NoParen rest →
    NoParen (ts ++ rest)
init_no_paren absent rest h = h
init_no_paren (one t p d) rest h = rw p
init_no_paren (many t u v p q r d) rest h = rw p
init_no_paren (many_comma t u v w p q r k d) rest h = rw p

-- what follows the base of globals
record GlobalStart (ts : List Lexeme) : Type 0 where
  no_int : NoInt ts
  no_curly : NoCurly ts
  no_call : NoCall ts

global_prefix : {base : BaseTree} {line : ℕ} {ts : List Lexeme} {x : GlobalTree} (d : IsGlobal base line ts x)
    (rest : List Lexeme) → NoParen rest → GlobalStart (ts ++ rest)
global_prefix (global {ts = ts} {us = us} d i) rest h =
    subst GlobalStart (sym (append_assoc ts us rest)) (record {
      no_int = declarator_no_int d (us ++ rest);
      no_curly = declarator_no_curly d _;
      no_call = declarator_no_call d _ (init_no_paren i rest h);
    })

globals_prefix : {base : BaseTree} {line : ℕ} {ts : List Lexeme} {xs : List GlobalTree}
    (d : Separated (IsGlobal base line) ts xs) (rest : List Lexeme) → NoParen rest → GlobalStart (ts ++ rest)
globals_prefix (lists.one d) rest h = global_prefix d rest h
globals_prefix (more {ts = ts} {us = us} t p d g) rest h =
    subst GlobalStart (sym (append_assoc ts _ rest)) (global_prefix d (t ∷ us ++ rest) (rw p))

-- no struct is declared where no `{` follows the base
base_no_struct : {ts : List Lexeme} {base : BaseTree} (d : SpellsBase ts base) (rest : List Lexeme) → NoCurly rest →
    begins_struct (ts ++ rest) ≡ false
base_no_struct (int t p) rest h = rw p
base_no_struct (signed t p) rest h = rw p
base_no_struct (signed_int t u p q) rest h = rw p
base_no_struct (unsigned t p) rest h = rw p
base_no_struct (unsigned_int t u p q) rest h = rw p
base_no_struct (types.struct t u tag p q) rest h = rw (p, q, h)

base_past : {ts : List Lexeme} {base : BaseTree} (d : SpellsBase ts base) (rest : List Lexeme) → NoInt rest →
    past_base (ts ++ rest) ≡ rest
base_past (int t p) rest h = rw p
base_past (signed t p) rest h = rw (p, h)
base_past (signed_int t u p q) rest h = rw (p, q)
base_past (unsigned t p) rest h = rw (p, h)
base_past (unsigned_int t u p q) rest h = rw (p, q)
base_past (types.struct t u tag p q) rest h = rw p

base_head : {ts : List Lexeme} {base : BaseTree} (d : SpellsBase ts base) (rest : List Lexeme) → NoInt rest →
    begins_head (ts ++ rest) ≡ begins_call (past_stars rest)
unfolding begins_head
base_head d rest h = rw ((base_start d).no_void rest, base_past d rest h)

-- what a declaration begins with that is read as one of globals
pub record BeginsGlobals (ts : List Lexeme) : Type 0 where
  pub no_struct : begins_struct ts ≡ false
  pub no_head : begins_head ts ≡ false
  pub no_line : NoLine ts

pub globals_begin : {ts : List Lexeme} {trees : List GlobalTree} (d : Declares IsGlobal ts trees) (rest : List Lexeme) →
    BeginsGlobals (ts ++ rest)
globals_begin (declares {ts = ts} {us = us} t p d g) rest =
    let all = append_assoc ts (us ++ t ∷ []) rest ∙ ap (λ l. ts ++ l) (append_assoc us _ rest) in
    let lookahead = globals_prefix g (t ∷ rest) (rw p) in
    subst BeginsGlobals (sym all) (record {
      no_struct = base_no_struct d _ lookahead.no_curly;
      no_head = base_head d _ lookahead.no_int ∙ lookahead.no_call;
      no_line = (base_start d).no_line _;
    })

-- what a declaration begins with that is read as one with a head
pub record BeginsHead (ts : List Lexeme) : Type 0 where
  pub no_struct : begins_struct ts ≡ false
  pub is_head : begins_head ts ≡ true
  pub no_line : NoLine ts

result_begins : {ts : List Lexeme} {x : Option TypeName} (d : SpellsResult ts x) (rest : List Lexeme) → NoInt rest →
    NoCurly rest → begins_with mark.Star rest ≡ false → begins_call rest ≡ true → BeginsHead (ts ++ rest)
unfolding begins_head
result_begins (no_result t p) rest a b c k = record { no_struct = rw p; is_head = rw p; no_line = rw p }
result_begins (a_result (type_name {ts = ts} {us = us} d g)) rest a b c k =
    subst BeginsHead (sym (append_assoc ts us rest)) (record {
      no_struct = base_no_struct d (us ++ rest) (stars_no_curly g rest b);
      is_head = base_head d _ (stars_no_int g rest a) ∙ ap begins_call (past_all g rest c) ∙ k;
      no_line = (base_start d).no_line _;
    })

pub head_begins : {ts : List Lexeme} {x : HeadTree} (d : SpellsHead ts x) (rest : List Lexeme) → BeginsHead (ts ++ rest)
head_begins (head {ts = ts} {us = us} t u v name p q r d g) rest =
    subst BeginsHead (sym (append_assoc ts _ rest))
    (result_begins d (t ∷ u ∷ ((us ++ v ∷ []) ++ rest)) (rw p) (rw p) (rw p) (rw (p, q)))

pub struct_begins : {ts : List Lexeme} {x : StructTree} (d : SpellsStruct ts x) (rest : List Lexeme) →
    (begins_struct (ts ++ rest) ≡ true) × NoLine (ts ++ rest)
struct_begins (struct t u v w y tag p q r k l d g) rest = (rw (p, q, r), rw p)

pub struct_some : {ts : List Lexeme} {x : StructTree} (d : SpellsStruct ts x) → 0 < length ts
struct_some (struct t u v w y tag p q r k l d g) = omega arith

-- declarations whose trees are at most `limit` high
abbrev pub IsDecls : ℕ → Form (List Decl)
IsDecls limit = Low SpellsDecl decls_height limit

-- one declaration that adds one entry
abbrev IsOne : ℕ → Form Decl
IsOne limit ts d = IsDecls limit ts (d ∷ [])

one_added : (limit : ℕ) (reader : Reader Decl) (xs ys : List Decl) (ts rest : List Lexeme) →
    ((x : Decl) (rest : List Lexeme) → reader ts ≡ Some (x, rest) → Taken (IsOne limit) ts x rest) →
    adds reader xs ts ≡ Some (ys, rest) → Taken (Adds (IsDecls limit) xs) ts ys rest
unfolding adds
one_added limit reader xs ys ts rest sound h =
    let b = bound _ _ _ h in
    let t = sound b.0.0 b.0.1 b.1 in
    took t.taken b.2 t.split (adding t.spelled)

struct_word : (ts : List Lexeme) → begins_struct ts ≡ true → keyword_at ts ≡ Some word.Struct
struct_word ts h = go _ refl h
  where
    go : (o : Option Keyword) → keyword_at ts ≡ o → cond (is_struct_word o) (names_struct (drop 1 ts)) false ≡ true →
        keyword_at ts ≡ Some word.Struct
    go (Some word.Struct) q e = q
    go _ q e = absurd (false≢true e)

struct_one : (limit : ℕ) (ts rest : List Lexeme) (x : Decl) → keyword_at ts ≡ Some word.Struct →
    struct_decl_at ts ≡ Some (x, rest) → Taken (IsOne limit) ts x rest
unfolding struct_decl_at
struct_one limit ts rest x q h =
    let b = bound _ _ _ h in
    let t = struct_sound ts b.0.1 b.0.0 q b.1 in
    took t.taken b.2 t.split (a_struct t.spelled, omega arith)

-- What follows the head of a prototype or of a function.
data IsHeaded (limit : ℕ) (head : HeadTree) : List Lexeme → Decl → Type 0 where
  ends : (t : Lexeme) → IsMark mark.Semicolon t → IsHeaded limit head (t ∷ []) (decl.Proto head)
  goes_on : {ts : List Lexeme} {named : FunctionHead} {x : FunctionTree} → head_of named ≡ head →
      IsBody limit named ts x → IsHeaded limit head ts (decl.Function x)

after_sound : (free limit : ℕ) (head : HeadTree) → Sound (IsHeaded limit head) (past_head free limit head)
unfolding function_at
after_sound free limit tree ts rest x h = given (λ rest. Some _) _ _ h (λ q e.
    let n = bound _ _ _ e in
    let c = bound _ _ _ n.2 in
    let d = body_sound free limit n.0 ts c.0.1 c.0.0 c.1 in
    took d.taken c.2 d.split (goes_on (named_sound tree n.0 n.1) d.spelled)) (λ vs q e.
    let t = first_mark mark.Semicolon ts vs q in
    took (t.0 ∷ []) e t.1 (ends t.0 t.2))

-- a `{` and no `;` follows the head of a function
body_opens : {limit : ℕ} {named : FunctionHead} {x : FunctionTree} {ts : List Lexeme} (d : IsBody limit named ts x)
    (rest : List Lexeme) → following mark.Semicolon (ts ++ rest) ≡ None
body_opens (a_body t u p q g s) rest = rw p

after_complete : (free limit : ℕ) (head : HeadTree) →
    Complete (Few free) (IsHeaded limit head) Any (past_head free limit head)
unfolding function_at
after_complete free limit tree _ _ (ends t p) rest fits h = rw p
after_complete free limit tree _ _ (goes_on {ts = ts} {named = named} same b) rest fits h =
    rw (body_opens b rest, head_named named tree same, body_complete free limit named ts _ b rest fits tt)

headed_exact : (free limit : ℕ) → Exact (Few free) (Then SpellsHead (IsHeaded limit)) Any (headed_at free limit)
unfolding headed_at
headed_exact free limit = then_exact (few free) (fitting (few free) head_exact)
    (λ tree. record { sound = after_sound free limit tree; complete = after_complete free limit tree })
    (λ x us y d rest h. tt)

headed_one : {limit : ℕ} → Turns (Then SpellsHead (IsHeaded limit)) (IsOne limit)
headed_one _ _ (both d (ends t p)) = (prototype t p d, omega arith)
headed_one _ _ (both {ts = ts} d (goes_on same (a_body t u p q g s))) =
    (a_function (function t u p q (subst (SpellsHead ts) (sym same) d) g.0 s.0), omega (arith, g.1, s.1))

-- globals as trees
record AreGlobals (base : BaseTree) (line : ℕ) (ts : List Lexeme) (ds : List Decl) : Type 0 where
  trees : List GlobalTree
  is : ds ≡ map (λ tree. decl.Global tree) trees
  spelled : Separated (IsGlobal base line) ts trees

as_globals : {base : BaseTree} {line : ℕ} {ts : List Lexeme} {ds : List Decl}
    (d : Separated (IsGlobalDecl base line) ts ds) → AreGlobals base line ts ds
as_globals (lists.one (valued d v)) = record { trees = _ ∷ []; is = refl; spelled = lists.one (global d v) }
as_globals {line = line} (more t p (valued {ty = ty} {name = name} {value = value} d v) s) =
    let others = as_globals s in
    let tree : GlobalTree = record { ty = ty; name = name; init = value; line = line } in
    record {
      trees = tree ∷ others.trees;
      is = ap (λ l. decl.Global tree ∷ l) others.is;
      spelled = more t p (global d v) others.spelled;
    }

globals_low : (trees : List GlobalTree) → decls_height (map (λ tree. decl.Global tree) trees) ≡ 0
globals_low [] = refl
globals_low (tree ∷ trees) = omega (arith, globals_low trees)

globals_made : {limit : ℕ} {xs : List Decl} → Turns (Adds (Declares IsGlobalDecl) xs) (Adds (IsDecls limit) xs)
globals_made {limit} _ _ (adding (declares {ts = ts} {us = us} t p b d)) =
    let g = as_globals d in
    adding (subst (λ l. IsDecls limit (ts ++ (us ++ t ∷ [])) l) (sym g.is)
    (globals (declares t p b g.spelled), omega (arith, globals_low g.trees)))

-- what is read as a declaration is spelled so, and within the limit of height
pub decl_sound : (free limit : ℕ) (xs : List Decl) → Sound (Adds (IsDecls limit) xs) (decl_at free limit xs)
unfolding decl_at
decl_sound free limit xs ts rest ys h = chosen _ (adds struct_decl_at xs ts) _ h
    (λ q e. one_added limit struct_decl_at xs ys ts rest (λ x rest h. struct_one limit ts rest x (struct_word ts q) h)
    e) (λ q e. chosen _ _ _ e
    (λ q e. one_added limit (headed_at free limit) xs ys ts rest (λ x rest h. as_form headed_one
    ((headed_exact free limit).sound ts rest x h)) e)
    (λ q e. as_form globals_made ((globals_exact xs).sound ts rest ys e)))

-- globals as declarations
as_decls : {base : BaseTree} {line : ℕ} {ts : List Lexeme} {trees : List GlobalTree}
    (d : Separated (IsGlobal base line) ts trees) → Separated (IsGlobalDecl base line) ts
    (map (λ tree. decl.Global tree) trees)
as_decls (lists.one (global d v)) = lists.one (valued d v)
as_decls (more t p (global d v) g) = more t p (valued d v) (as_decls g)

global_decls : {ts : List Lexeme} {trees : List GlobalTree} (d : Declares IsGlobal ts trees) →
    Declares IsGlobalDecl ts (map (λ tree. decl.Global tree) trees)
global_decls (declares t p b g) = declares t p b (as_decls g)

-- a head and what follows it begin as heads do
headed_begins : {ts : List Lexeme} {x : HeadTree} (d : SpellsHead ts x) (us rest : List Lexeme) →
    BeginsHead ((ts ++ us) ++ rest)
headed_begins {ts} d us rest = subst BeginsHead (sym (append_assoc ts us rest)) (head_begins d (us ++ rest))

-- what is spelled as a declaration, within the limits, is read so
decl_complete : (free limit : ℕ) (xs : List Decl) →
    Complete (Few free) (Adds (IsDecls limit) xs) Any (decl_at free limit xs)
unfolding decl_at adds struct_decl_at
decl_complete free limit xs _ _ (adding (a_struct d, low)) rest fits h =
    rw ((struct_begins d rest).0, struct_complete d rest)
decl_complete free limit xs _ _ (adding (globals {ts = ts} {trees = trees} d, low)) rest fits h =
    let b = globals_begin d rest in
    rw (b.no_struct, b.no_head) ((globals_exact xs).complete ts _ (adding (global_decls d)) rest tt tt)
decl_complete free limit xs _ _ (adding (prototype t p d, low)) rest fits h =
    let b = headed_begins d (t ∷ []) rest in
    rw (b.no_struct, b.is_head, (headed_exact free limit).complete _ _ (both d (ends t p)) rest fits tt)
decl_complete free limit xs _ _ (adding (a_function (function {us = us} {vs = vs} t u p q d g s), low)) rest fits h =
    let b = headed_begins d (t ∷ (us ++ (vs ++ u ∷ []))) rest in
    let read = (headed_exact free limit).complete _ _
    (both d (goes_on refl (a_body t u p q (g, omega arith) (s, omega arith)))) rest fits tt in
    rw (b.no_struct, b.is_head, read)

-- a declaration
pub decl_exact : (free limit : ℕ) → ExactAdder (Few free) (IsDecls limit) Any (decl_at free limit)
decl_exact free limit xs = record { sound = decl_sound free limit xs; complete = decl_complete free limit xs }

decl_some : {ts : List Lexeme} {zs : List Decl} (d : SpellsDecl ts zs) → 0 < length ts
decl_some (a_struct d) = struct_some d
decl_some (globals d) = declares_some IsGlobal d
decl_some (prototype {ts = ts} t p d) = omega (arith, length-append ts (t ∷ []))
decl_some (a_function (function {ts = ts} {us = us} {vs = vs} t u p q d g s)) =
    omega (arith, length-append ts (t ∷ (us ++ (vs ++ u ∷ []))))

-- a declaration doesn't begin with a directive
pub decl_no_line : {ts : List Lexeme} {zs : List Decl} (d : SpellsDecl ts zs) (rest : List Lexeme) → NoLine (ts ++ rest)
decl_no_line (a_struct d) rest = (struct_begins d rest).1
decl_no_line (globals d) rest = (globals_begin d rest).no_line
decl_no_line (prototype t p d) rest = (headed_begins d (t ∷ []) rest).no_line
decl_no_line (a_function (function {us = us} {vs = vs} t u p q d g s)) rest =
    (headed_begins d (t ∷ (us ++ (vs ++ u ∷ []))) rest).no_line

full : (ts rest : List Lexeme) → 0 < length ts → is_empty (ts ++ rest) ≡ false
full [] rest h = absurd (omega arith)
full (t ∷ ts) rest h = refl

-- all declarations of a section
pub all_exact : (free limit : ℕ) → ExactAdder (Few free) (Grouped (IsDecls limit)) (λ rest. is_empty rest ≡ true)
    (λ xs ts. grouped is_empty (decl_at free limit) (length ts + 1) xs ts)
all_exact free limit = grouped_exact (few free) _ (decl_exact free limit)
    (λ us rest zs d. full us rest (decl_some d.0)) (λ us zs d. decl_some d.0) (λ rest h. tt) (λ us rest zs d. tt)
