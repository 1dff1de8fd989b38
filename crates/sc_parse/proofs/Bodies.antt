-- Locals and functions are read exactly as they are spelled.
use Rattle.sc_parse.proofs.Common.{BaseTree, Declares, ExprTree, FunctionHead, FunctionParam, FunctionTree, Grouped}
use Rattle.sc_parse.proofs.Common.{HeadTree, IsLocal, IsMark, Lexeme, List, LocalTree, None, Option, ParamTree, Some}
use Rattle.sc_parse.proofs.Common.{SpellsStmts, SpellsValue, StmtTree, [], a_value, add_local, ap, append_assoc, arith}
use Rattle.sc_parse.proofs.Common.{body_at, bound, declaration_at, declares, false, first_line, first_mark, following}
use Rattle.sc_parse.proofs.Common.{function_head, function_param, function_tree, glued, head_of, optional_height}
use Rattle.sc_parse.proofs.Common.{local, local_at, local_height, locals_at, locals_height, map, named_head}
use Rattle.sc_parse.proofs.Common.{named_params, no_base, no_value, param_of, refl, same_some, subst, sym, true}
use Rattle.sc_parse.proofs.Common.{value_at, ℕ, ◌++◌, ◌>>=◌, ◌∙◌, ◌∷◌, ◌≡◌}
use Rattle.sc_parse.proofs.Bases.{NoBracket, base_start}
use Rattle.sc_parse.proofs.Exact.{Any, Complete, Exact, ExactAdder, Form, Low, Made, Property, Sound, Turns, fits_after}
use Rattle.sc_parse.proofs.Exact.{formed_exact, from_none, first_taken, given, grouped_exact, groups_apart}
use Rattle.sc_parse.proofs.Exact.{groups_joined, groups_turned, items_apart, items_joined, items_turned, made}
use Rattle.sc_parse.proofs.Exact.{made_exact, took}
use Rattle.sc_parse.proofs.Parts.{kind_starts}
use Rattle.sc_parse_expr.specs.declared.mark.Mark.TheVariants as mark
use Rattle.sc_parse.specs.Statements as statements
use Rattle.sc_parse.proofs.Declared.{Valued, declaration_exact, valued, valued_exact, valued_no_int, declares_some}
use Rattle.sc_parse.proofs.Expressions.{Few, IsExpr, NoExtension, expr_exact, few}
use Rattle.sc_parse.proofs.Nested.{IsStmts, stmts_exact}

-- the initialiser of a local, at most `limit` high
abbrev IsValue : ℕ → Form (Option ExprTree)
IsValue limit = Low SpellsValue optional_height limit

abbrev EndsValue : Property
EndsValue rest = (following mark.Equal rest ≡ None) × NoExtension rest

value_exact : (free limit : ℕ) → Exact (Few free) (IsValue limit) EndsValue (value_at free limit)
unfolding value_at
value_exact free limit = record {
  sound = λ ts rest x h. given _ _ _ h (λ q e. took [] e refl (no_value, omega arith)) (λ us q e.
      let t = first_mark mark.Equal ts us q in
      let d = (made_exact (λ e. Some e) (expr_exact free limit)).sound us rest x e in
      first_taken t.0 t.1 d (λ vs d. a_local t.0 t.2 d));
  complete = complete;
}
  where
    a_local : {ts : List Lexeme} {x : Option ExprTree} (t : Lexeme) → IsMark mark.Equal t →
        Made (λ e. Some e) (IsExpr limit) ts x → IsValue limit (t ∷ ts) x
    a_local t p (made d) = (a_value t p d.0, d.1)

    complete : Complete (Few free) (IsValue limit) EndsValue (value_at free limit)
    complete _ _ (no_value, low) rest fits ends = rw ends.0
    complete _ _ (a_value {ts = ts} t p d, low) rest fits ends =
        rw (p, (expr_exact free limit).complete _ _ (d, low) rest (fits_after (few free) t ts fits) ends.1)

value_no_bracket : {limit : ℕ} (ts : List Lexeme) (x : Option ExprTree) → IsValue limit ts x → (rest : List Lexeme) →
    NoBracket rest → NoBracket (ts ++ rest)
value_no_bracket _ _ (no_value, low) rest h = h
value_no_bracket _ _ (a_value t p d, low) rest h = rw p

-- a local whose initialiser is at most `limit` high
abbrev pub IsLow : ℕ → BaseTree → ℕ → Form LocalTree
IsLow limit base line =
    Valued (IsValue limit) (λ ty name value. record { ty = ty; name = name; init = value; line = line }) base

local_exact : (free limit : ℕ) (base : BaseTree) (line : ℕ) → Exact (Few free) (IsLow limit base line)
    (λ rest. NoBracket rest × EndsValue rest) (local_at free limit base line)
unfolding local_at
local_exact free limit base line = valued_exact (few free) _ (value_exact free limit) value_no_bracket base

local_line_exact : (free limit : ℕ) → ExactAdder (Few free) (Declares (IsLow limit)) Any
    (declaration_at (add_local free limit))
local_line_exact free limit = declaration_exact (few free) (local_exact free limit) (λ t rest p. (rw p, (rw p, rw p)))
    (λ t rest p. (rw p, (rw p, rw p))) (λ base line ts rest x d. valued_no_int d rest)

declares_begins : {A : Type 0} {Item : BaseTree → ℕ → List Lexeme → A → Type 0} {ts : List Lexeme} {xs : List A}
    (d : Declares Item ts xs) (rest : List Lexeme) → no_base (ts ++ rest) ≡ false
declares_begins (declares {ts = ts} {us = us} t p d g) rest =
    ap no_base (append_assoc ts _ rest) ∙ (base_start d).is_base ((us ++ t ∷ []) ++ rest)

local_is : {limit : ℕ} {base : BaseTree} {line : ℕ} → Turns (IsLow limit base line)
    (Low (IsLocal base line) local_height limit)
local_is _ _ (valued d v) = (local d v.0, v.1)

local_apart : {limit : ℕ} {base : BaseTree} {line : ℕ} → Turns (Low (IsLocal base line) local_height limit)
    (IsLow limit base line)
local_apart _ _ (local d v, low) = valued d (v, low)

locals_is : {limit : ℕ} → Turns (Declares (IsLow limit)) (Low (Declares IsLocal) locals_height limit)
locals_is {limit} _ _ (declares t p d g) = let a = items_apart local_height limit (items_turned local_is g) in
    (declares t p d a.0, a.1)

locals_apart : {limit : ℕ} → Turns (Low (Declares IsLocal) locals_height limit) (Declares (IsLow limit))
locals_apart {limit} _ _ (declares t p d g, low) =
    declares t p d (items_turned local_apart (items_joined local_height limit g low))

-- the locals of a function, at most `limit` high
lows_exact : (free limit : ℕ) → Exact (Few free) (Low (Grouped (Declares IsLocal)) locals_height limit)
    (λ rest. no_base rest ≡ true) (locals_at free limit)
lows_exact free limit = formed_exact (from_none (grouped_exact (few free) no_base (local_line_exact free limit)
    (λ us rest zs d. declares_begins d rest) (λ us zs d. declares_some _ d) (λ rest h. tt) (λ us rest zs d. tt)))
    (λ ts xs g. groups_apart local_height limit (groups_turned locals_is g))
    (λ ts xs g. groups_turned locals_apart (groups_joined local_height limit g.0 g.1)) (λ rest h. h)

-- the parameters of a function are those of its head
params_sound : (params : List ParamTree) (named : List FunctionParam) → named_params params ≡ Some named →
    map param_of named ≡ params
params_sound [] named h = ap (map param_of) (sym (same_some h))
params_sound (param ∷ rest) named h =
    let a = bound (λ name. named_params rest >>= (λ others. Some (function_param param.ty name ∷ others))) param.name
    named h in
    let b = bound (λ others. Some (function_param param.ty a.0 ∷ others)) (named_params rest) named a.2 in
    let first : param_of (function_param param.ty a.0) ≡ param =
    ap (λ o. record { ty = param.ty; name = o }) (sym a.1) in
    ap (map param_of) (sym (same_some b.2)) ∙
    ap (λ l. param_of (function_param param.ty a.0) ∷ l) (params_sound rest b.0 b.1) ∙ ap (λ p. p ∷ rest) first

pub named_sound : (head : HeadTree) (named : FunctionHead) → named_head head ≡ Some named → head_of named ≡ head
named_sound head named h =
    let b = bound (λ params. Some (function_head head params)) (named_params head.params) named h in
    let same = same_some b.2 in
    ap head_of (sym same) ∙ ap (λ l. record { result = head.result; name = head.name; params = l; line = head.line })
    (params_sound _ b.0 b.1)

-- What follows the head of a function.
pub data IsBody (limit : ℕ) (head : FunctionHead) : List Lexeme → FunctionTree → Type 0 where
  a_body : {us vs : List Lexeme} {locals : List LocalTree} {body : List StmtTree} (t u : Lexeme) →
      IsMark mark.OpenCurly t → IsMark mark.CloseCurly u →
      Low (Grouped (Declares IsLocal)) locals_height limit us locals → IsStmts limit vs body →
      IsBody limit head (t ∷ (us ++ (vs ++ u ∷ []))) (function_tree head locals body u.line)

pub body_sound : (free limit : ℕ) (head : FunctionHead) → Sound (IsBody limit head) (body_at free limit head)
unfolding body_at
body_sound free limit head ts rest x h =
    let o = bound _ _ _ h in
    let l = bound _ _ _ o.2 in
    let s = bound _ _ _ l.2 in
    let c = bound _ _ _ s.2 in
    let t = first_mark _ ts o.0 o.1 in
    let locals = (lows_exact free limit).sound o.0 l.0.1 l.0.0 l.1 in
    let stmts = (stmts_exact free limit).sound l.0.1 s.0.1 s.0.0 s.1 in
    let u = first_mark _ s.0.1 c.0 c.1 in
    took (t.0 ∷ (locals.taken ++ (stmts.taken ++ u.0 ∷ []))) c.2
    (t.1 ∙ ap (λ k. t.0 ∷ k) (glued c.0 locals.taken (stmts.taken ++ u.0 ∷ []) locals.split
    (glued c.0 stmts.taken (u.0 ∷ []) stmts.split u.1)))
    (subst (λ n. IsBody limit head (t.0 ∷ (locals.taken ++ (stmts.taken ++ u.0 ∷ [])))
    (function_tree head l.0.0 s.0.0 n)) (sym (ap first_line u.1)) (a_body t.0 u.0 t.2 u.2 locals.spelled stmts.spelled))

-- no statement begins as a declaration of locals does
stmts_no_base : {ts : List Lexeme} {ss : List StmtTree} (d : SpellsStmts ts ss) (u : Lexeme) (rest : List Lexeme) →
    IsMark mark.CloseCurly u → no_base (ts ++ u ∷ rest) ≡ true
stmts_no_base statements.none u rest p = rw p
stmts_no_base (statements.next {ts = ts} {us = us} d g) u rest p =
    ap no_base (append_assoc ts us _) ∙ (kind_starts d).no_base (us ++ u ∷ rest)

pub body_complete : (free limit : ℕ) (head : FunctionHead) →
    Complete (Few free) (IsBody limit head) Any (body_at free limit head)
unfolding body_at
body_complete free limit head _ _ (a_body {us = us} {vs = vs} t u p q d g) rest fits ends =
    let inside = fits_after (few free) t (us ++ (vs ++ u ∷ [])) fits in
    let first = (lows_exact free limit).complete us _ d (vs ++ u ∷ rest) ((few free).left us (vs ++ u ∷ []) inside)
    (stmts_no_base g.0 u rest q) in
    let second = (stmts_exact free limit).complete vs _ g (u ∷ rest)
    ((few free).left vs (u ∷ []) ((few free).right us (vs ++ u ∷ []) inside)) (rw q) in
    let all : (us ++ (vs ++ u ∷ [])) ++ rest ≡ us ++ (vs ++ u ∷ rest) = simp append_assoc in
    ap (λ l. body_at free limit head (t ∷ l)) all ∙ rw (p, first, second, q)
