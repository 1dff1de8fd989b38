-- Heads of functions: their words, and what these come to.
use Rattle.sc_back_reread_laws.proofs.Common.{Bool, IsCalled, List, None, Option, Piece, Proto, Scalar, Some, []}
use Rattle.sc_back_reread_laws.proofs.Common.{and_from, and_parts, ap, append-nil, append_assoc, ap₂, arith, cases_lt}
use Rattle.sc_back_reread_laws.proofs.Common.{codes, comma, decimal, flat_map, flat_map-append, function_head}
use Rattle.sc_back_reread_laws.proofs.Common.{function_params, head_of, head_text, head_words, is_ident, is_name}
use Rattle.sc_back_reread_laws.proofs.Common.{is_reserved, kept_head, kept_param, length, list_all, map, option_map}
use Rattle.sc_back_reread_laws.proofs.Common.{param_name, param_of, param_text, param_texts, param_words, params_text}
use Rattle.sc_back_reread_laws.proofs.Common.{params_words, piece_text, proto_head, proto_params, refl, result_text}
use Rattle.sc_back_reread_laws.proofs.Common.{result_words, subst, suc, text_of, true, type_name, word, zero, ℕ, ⊎_elim}
use Rattle.sc_back_reread_laws.proofs.Common.{◌&&◌, ◌++◌, ◌+◌, ◌<◌, ◌∙◌, ◌∷◌, ◌≡◌, ◌≤◌}
use Rattle.std.proofs.lemmas.Fmt.{decimal_digit}
use Rattle.sc_event.specs.declared.interface.Scalar.TheVariants as scalar
use Rattle.sc_ast.specs.declared.section.ParamTree.{ParamTree}
use Rattle.sc_parse_expr.specs.declared.mark.Keyword.TheVariants as keyword
use Rattle.sc_back_reread_laws.proofs.Nesting.{Nested, even_comma, even_ident, even_keyword, nested_append}
use Rattle.sc_back_reread_laws.proofs.Nesting.{nested_blank, nested_even, nested_none, nested_parens}

-- names of parameters
abbrev digit_ident : ℕ → Bool
digit_ident number = is_ident (codes "bt_" ++ (48 + number) ∷ [])

all_below : ℕ → Bool
all_below zero = true
all_below (suc n) = digit_ident n && all_below n

one_below : (bound : ℕ) → all_below bound ≡ true → (number : ℕ) → number < bound → digit_ident number ≡ true
unfolding all_below
one_below zero h number low = absurd (omega (arith, low))
one_below (suc n) h number low =
    let parts = and_parts (digit_ident n) (all_below n) h in
    ⊎_elim (λ less. one_below n parts.1 number less)
    (λ le. let same : n ≡ number = omega (arith, le, low) in subst (λ k. digit_ident k ≡ true) same parts.0)
    (cases_lt number n)

eight_below : all_below 8 ≡ true
unfolding all_below is_name is_reserved
eight_below = refl

pub param_ident : (number : ℕ) → number < 8 → is_ident (param_name number) ≡ true
param_ident number low = ap (λ d. is_ident (codes "bt_" ++ d)) (decimal_digit number (omega (arith, low))) ∙
    one_below 8 eight_below number low

abbrev named : Scalar → (number : ℕ) → ParamTree
named ty number = record { ty = type_name ty; name = Some (param_name number) }

param_spelled : (ty : Scalar) (number : ℕ) → text_of (param_words (named ty number)) ≡ param_text number ty
param_spelled scalar.Int number = ap (λ d. codes "int bt_" ++ d) (append-nil (decimal number))
param_spelled scalar.Unsigned number = ap (λ d. codes "unsigned int bt_" ++ d) (append-nil (decimal number))

param_nested : (ty : Scalar) (number : ℕ) → number < 8 → Nested 0 (param_words (named ty number))
param_nested scalar.Int number low = nested_even (even_keyword keyword.Int) (nested_blank
    (nested_even (even_ident (param_name number) (param_ident number low)) nested_none))
param_nested scalar.Unsigned number low = nested_even (even_keyword keyword.Unsigned) (nested_blank
    (nested_even (even_keyword keyword.Int) (nested_blank
    (nested_even (even_ident (param_name number) (param_ident number low)) nested_none))))

pub params_kept : (number : ℕ) (types : List Scalar) → number + length types ≤ 8 →
    list_all kept_param (proto_params number types) ≡ true
params_kept number [] few = refl
params_kept number (scalar.Int ∷ types) few = and_from (is_ident (param_name number)) _
    (param_ident number (omega (arith, few))) (params_kept (suc number) types (omega (arith, few)))
params_kept number (scalar.Unsigned ∷ types) few = and_from (is_ident (param_name number)) _
    (param_ident number (omega (arith, few))) (params_kept (suc number) types (omega (arith, few)))

-- a parameter after another one
abbrev next_words : ParamTree → List Piece
next_words p = comma ++ param_words p

abbrev next_text : List ℕ → List ℕ
next_text text = codes ", " ++ text

next_spelled : (number : ℕ) (types : List Scalar) →
    text_of (flat_map next_words (proto_params number types)) ≡ flat_map next_text (param_texts number types)
next_spelled number [] = refl
next_spelled number (ty ∷ types) =
    flat_map-append piece_text (next_words (named ty number)) (flat_map next_words (proto_params (suc number) types)) ∙
    ap₂ (λ x y. x ++ y) (ap next_text (param_spelled ty number)) (next_spelled (suc number) types)

next_nested : (number : ℕ) (types : List Scalar) → number + length types ≤ 8 →
    Nested 0 (flat_map next_words (proto_params number types))
next_nested number [] few = nested_none
next_nested number (ty ∷ types) few =
    nested_even even_comma (nested_blank (nested_append (param_nested ty number (omega (arith, few)))
    (next_nested (suc number) types (omega (arith, few)))))

params_spelled : (types : List Scalar) → text_of (params_words (proto_params 0 types)) ≡ params_text types
params_spelled [] = refl
params_spelled (ty ∷ types) =
    flat_map-append piece_text (param_words (named ty 0)) (flat_map next_words (proto_params 1 types)) ∙
    ap₂ (λ x y. x ++ y) (param_spelled ty 0) (next_spelled 1 types)

params_nested : (types : List Scalar) → length types ≤ 8 → Nested 0 (params_words (proto_params 0 types))
params_nested [] few = nested_even (even_keyword keyword.Void) nested_none
params_nested (ty ∷ types) few = nested_append (param_nested ty 0 (omega arith))
    (next_nested 1 types (omega (arith, few)))

result_spelled : (result : Option Scalar) → text_of (result_words (option_map type_name result)) ≡
    result_text result ++ codes " "
result_spelled None = refl
result_spelled (Some scalar.Int) = refl
result_spelled (Some scalar.Unsigned) = refl

result_nested : (result : Option Scalar) → Nested 1 (result_words (option_map type_name result))
result_nested None = nested_even (even_keyword keyword.Void) (nested_blank nested_none)
result_nested (Some scalar.Int) = nested_even (even_keyword keyword.Int) (nested_blank nested_none)
result_nested (Some scalar.Unsigned) = nested_even (even_keyword keyword.Unsigned) (nested_blank
    (nested_even (even_keyword keyword.Int) (nested_blank nested_none)))

head_kept : (result : Option Scalar) (name : List ℕ) (types : List Scalar) → is_ident name ≡ true →
    length types ≤ 8 → kept_head (record {
      result = option_map type_name result;
      name = name;
      params = proto_params 0 types;
      line = 1;
    }) ≡ true
head_kept None name types ident few =
    and_from (is_ident name) (list_all kept_param (proto_params 0 types)) ident
    (params_kept 0 types (omega (arith, few)))
head_kept (Some scalar.Int) name types ident few =
    and_from (is_ident name) (list_all kept_param (proto_params 0 types)) ident
    (params_kept 0 types (omega (arith, few)))
head_kept (Some scalar.Unsigned) name types ident few =
    and_from (is_ident name) (list_all kept_param (proto_params 0 types)) ident
    (params_kept 0 types (omega (arith, few)))

-- a head that is kept, comes to this text, and opens few brackets
pub record IsHead (f : Proto) : Type 0 where
  pub kept : kept_head (proto_head f) ≡ true
  pub spelled : text_of (head_words (proto_head f)) ≡ head_text f
  pub nested : Nested 1 (head_words (proto_head f))

pub head_is : (f : Proto) → IsCalled f → IsHead f
head_is f h =
    let params : List Piece = params_words (proto_params 0 f.params) in
    let following : List Piece = word f.name ∷ word (codes "(") ∷ (params ++ word (codes ")") ∷ []) in
    let after_spelled : text_of following ≡ f.name ++ (codes "(" ++ (params_text f.params ++ codes ")")) =
    ap (λ x. f.name ++ (codes "(" ++ x)) (flat_map-append piece_text params (word (codes ")") ∷ []) ∙
    ap (λ x. x ++ codes ")") (params_spelled f.params)) in
    record {
      kept = head_kept f.result f.name f.params h.name h.few;
      spelled = flat_map-append piece_text (result_words (option_map type_name f.result)) following ∙
          ap₂ (λ x y. x ++ y) (result_spelled f.result) after_spelled ∙
          append_assoc (result_text f.result) (codes " ")
          (f.name ++ (codes "(" ++ (params_text f.params ++ codes ")")));
      nested = nested_append (result_nested f.result) (nested_even (even_ident f.name h.name)
          (nested_parens (params_nested f.params h.few) nested_none));
    }

params_same : (number : ℕ) (types : List Scalar) → map param_of (function_params number types) ≡
    proto_params number types
params_same number [] = refl
params_same number (ty ∷ types) = ap (λ ps. named ty number ∷ ps) (params_same (suc number) types)

pub heads_same : (f : Proto) → head_of (function_head f) ≡ proto_head f
heads_same f = ap (λ ps. record {
  result = option_map type_name f.result;
  name = f.name;
  params = ps;
  line = 1;
}) (params_same 0 f.params)
