-- Parameters and heads are read exactly as they are spelled.
use Rattle.sc_parse.proofs.Common.{HeadTree, Keyword, Lexeme, List, None, Option, ParamTree, Separated, Some}
use Rattle.sc_parse.proofs.Common.{SpellsHead, SpellsParam, SpellsParams, SpellsResult, SpellsTypeName, TypeName, []}
use Rattle.sc_parse.proofs.Common.{a_result, adds, all_separated, ap, append_assoc, bound, false, false≢true}
use Rattle.sc_parse.proofs.Common.{first_line, following, glued, head, head_at, head_tree, is_void, keyword_at}
use Rattle.sc_parse.proofs.Common.{name_ahead, name_at, named, nameless, no_params, no_result, option_map_or, param_at}
use Rattle.sc_parse.proofs.Common.{param_tree, params_at, params_in_parens, refl, result_at, some_params, subst, sym}
use Rattle.sc_parse.proofs.Common.{true, type_name, type_name_at, ℕ, ◌++◌, ◌>>=◌, ◌∙◌, ◌∷◌, ◌≡◌}
use Rattle.sc_parse.proofs.Bases.{NoType, base_start, type_name_exact}
use Rattle.sc_parse.proofs.Declared.{separated_prefix}
use Rattle.sc_parse.proofs.Exact.{Any, Between, Complete, Exact, ExactAdder, Form, IsName, Made, Property, Sound, Then}
use Rattle.sc_parse.proofs.Exact.{Turns, a_name, after_mark, any, as_form, before, between_exact, both, chosen}
use Rattle.sc_parse.proofs.Exact.{commas_exact, from_none, given, made, made_exact, name_exact, then_exact, took}
use Rattle.sc_parse.proofs.Exact.{word_ahead}
use Rattle.sc_parse_expr.specs.declared.mark.Keyword.TheVariants as word
use Rattle.sc_parse_expr.specs.declared.mark.Mark.TheVariants as mark

abbrev pub NoName : List Lexeme → Type 0
NoName rest = name_at rest ≡ None

abbrev pub EndsParam : List Lexeme → Type 0
EndsParam rest = NoType rest × NoName rest

abbrev EndsParams : Property
EndsParams rest = EndsParam rest × (following mark.Comma rest ≡ None)

param_sound : Sound SpellsParam param_at
unfolding param_at
param_sound ts rest x h =
    let b = bound (λ x. option_map_or {U = Option (ParamTree × List Lexeme)}
    (λ y. Some (param_tree x.0 _, y.1)) (name_at x.1) (Some (param_tree x.0 None, x.1))) (type_name_at ts)
    (x, rest) h in
    let d = type_name_exact.sound ts b.0.1 b.0.0 b.1 in
    given _ _ _ b.2 (λ q e. took d.taken e d.split (nameless d.spelled)) (λ y q e.
    let t = name_ahead b.0.1 y.1 y.0 q in
    took (d.taken ++ t.0 ∷ []) e (glued y.1 d.taken _ d.split t.1) (named t.0 y.0 t.2 d.spelled))

param_complete : Complete Any SpellsParam EndsParam param_at
unfolding param_at
param_complete _ _ (named {ts = ts} {ty = ty} t name p d) rest fits h =
    let first = type_name_exact.complete ts ty d (t ∷ rest) tt (rw p, rw p) in
    ap param_at (append_assoc ts (t ∷ []) rest) ∙ rw (first, p)
param_complete _ _ (nameless d) rest fits h = rw (type_name_exact.complete _ _ d rest tt h.0, h.1)

all_params_exact : ExactAdder Any (Separated SpellsParam) EndsParams (all_separated (adds param_at))
all_params_exact = commas_exact any (record { sound = param_sound; complete = param_complete })
    (λ t rest p. ((rw p, rw p), rw p))

is_void_word : (o : Option Keyword) → is_void o ≡ true → o ≡ Some word.Void
is_void_word (Some word.Void) h = refl
is_void_word _ h = absurd (false≢true h)

abbrev NoVoid : List Lexeme → Type 0
NoVoid ts = is_void (keyword_at ts) ≡ false

type_name_no_void : {ts : List Lexeme} {ty : TypeName} (d : SpellsTypeName ts ty) (rest : List Lexeme) →
    NoVoid (ts ++ rest)
type_name_no_void (type_name {ts = ts} {us = us} d g) rest =
    subst NoVoid (sym (append_assoc ts us rest)) ((base_start d).no_void (us ++ rest))

param_no_void : {ts : List Lexeme} {x : ParamTree} (d : SpellsParam ts x) (rest : List Lexeme) → NoVoid (ts ++ rest)
param_no_void (named {ts = ts} t name p d) rest = subst NoVoid (sym (append_assoc ts _ rest))
    (type_name_no_void d (t ∷ rest))
param_no_void (nameless d) rest = type_name_no_void d rest

params_sound : Sound SpellsParams params_at
unfolding params_at
params_sound ts rest x h = chosen _ _ _ h (λ q e.
    let first = word_ahead ts word.Void (is_void_word _ q) in
    took (first.first ∷ []) e first.is (no_params first.first first.keyword))
    (λ q e. as_form (λ us y d. some_params d) ((from_none all_params_exact).sound ts rest x e))

params_complete : Complete Any SpellsParams EndsParams params_at
unfolding params_at
params_complete _ _ (no_params t p) rest fits h = rw p
params_complete _ _ (some_params d) rest fits h = rw (
  separated_prefix NoVoid (λ ts rest x d. param_no_void d rest) d rest,
  (from_none all_params_exact).complete _ _ d rest tt h,
)

result_sound : Sound SpellsResult result_at
unfolding result_at
result_sound ts rest x h = chosen _ _ _ h (λ q e.
    let first = word_ahead ts word.Void (is_void_word _ q) in
    took (first.first ∷ []) e first.is (no_result first.first first.keyword)) (λ q e.
    as_form some_type ((made_exact (λ x. Some x) type_name_exact).sound ts rest x e))
  where
    some_type : Turns (Made (λ x. Some x) SpellsTypeName) SpellsResult
    some_type _ _ (made d) = a_result d

result_complete : Complete Any SpellsResult NoType result_at
unfolding result_at
result_complete _ _ (no_result t p) rest fits h = rw p
result_complete _ _ (a_result d) rest fits h =
    rw (type_name_no_void d rest, type_name_exact.complete _ _ d rest tt h)

first_line_type : {ts : List Lexeme} {ty : TypeName} (d : SpellsTypeName ts ty) (rest : List Lexeme) →
    first_line (ts ++ rest) ≡ first_line ts
first_line_type (type_name {ts = ts} {us = us} d g) rest =
    ap first_line (append_assoc ts us rest) ∙ (base_start d).line (us ++ rest) ∙ sym ((base_start d).line us)

first_line_result : {ts : List Lexeme} {x : Option TypeName} (d : SpellsResult ts x) (rest : List Lexeme) →
    first_line (ts ++ rest) ≡ first_line ts
first_line_result (no_result t p) rest = refl
first_line_result (a_result d) rest = first_line_type d rest

-- a head in a line
abbrev Lined : ℕ → Form HeadTree
Lined line = Then SpellsResult (λ result. Then IsName (λ name. Made (λ params. head_tree result name params line)
    (Between mark.OpenParen mark.CloseParen SpellsParams)))

lined_exact : (line : ℕ) → Exact Any (Lined line) Any (λ ts. result_at ts >>= (λ x. name_at x.1 >>= (λ y.
    params_in_parens y.1 >>= (λ z. Some (head_tree x.0 y.0 z.0 line, z.1)))))
lined_exact line = then_exact any (record { sound = result_sound; complete = result_complete }) (λ result.
    then_exact any name_exact (λ name. made_exact (λ params. head_tree result name params line)
    (between_exact any mark.OpenParen mark.CloseParen (record { sound = params_sound; complete = params_complete })
    (λ t rest p. (((rw p, rw p), rw p), rw p)))) (λ x us y d rest h. tt)) named_next
  where
    named_next : (result : Option TypeName) (us : List Lexeme) (y : HeadTree) → Then IsName (λ name.
        Made (λ params. head_tree result name params line) (Between mark.OpenParen mark.CloseParen SpellsParams)) us y →
        (rest : List Lexeme) → Any rest → NoType (us ++ rest)
    named_next result _ _ (both (a_name t name p) d) rest h = (rw p, rw p)

-- the head of a function or a prototype
pub head_exact : Exact Any SpellsHead Any head_at
unfolding head_at
head_exact = record {
  sound = λ ts rest x h.
      let d = (lined_exact (first_line ts)).sound ts rest x h in
      record { taken = d.taken; split = d.split; spelled = lined_is rest (ap first_line d.split) d.spelled };
  complete = complete;
}
  where
    lined_is : {line : ℕ} {ts : List Lexeme} {x : HeadTree} (rest : List Lexeme) → line ≡ first_line (ts ++ rest) →
        Lined line ts x → SpellsHead ts x
    lined_is rest e (both {ts = ts} {us = us} {x = result} d
        (both (a_name t name p) (made {x = params} (after_mark u q (before v r g))))) =
        subst (λ n. SpellsHead (ts ++ us) (head_tree result name params n))
        (sym (e ∙ ap first_line (append_assoc ts us rest) ∙ first_line_result d (us ++ rest)))
        (head t u v name p q r d g)

    complete : Complete Any SpellsHead Any head_at
    complete _ _ (head {ts = ts} {us = us} {result = result} {params = params} t u v name p q r d g) rest fits h =
        let after_result = t ∷ u ∷ (us ++ v ∷ []) in
        (lined_exact _).complete _ _ (both d (both (a_name t name p) (made (after_mark u q (before v r g))))) rest tt
        tt ∙
        ap (λ n. Some (head_tree result name params n, rest))
        (ap first_line (append_assoc ts after_result rest) ∙ first_line_result d (after_result ++ rest))
