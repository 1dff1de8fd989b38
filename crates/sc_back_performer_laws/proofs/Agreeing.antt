-- Heads of one name in a section agree, and so does the head that is made for a function that crosses.
use Rattle.sc_back_performer_laws.proofs.Common.{Bool, Decl, FunctionParam, FunctionTree, HeadTree, Int, List, None}
use Rattle.sc_back_performer_laws.proofs.Common.{Option, ParamTree, Proto, Scalar, SectionTree, Some, StmtTree, Text}
use Rattle.sc_back_performer_laws.proofs.Common.{Unsigned, [], agree, agree_symm, agrees, agrees_with, and_first}
use Rattle.sc_back_performer_laws.proofs.Common.{and_from, and_rest, ap, append-nil, append_assoc, back_empty}
use Rattle.sc_back_performer_laws.proofs.Common.{base_scalar, base_tree, bytes_eq, crosses, decls_from, false}
use Rattle.sc_back_performer_laws.proofs.Common.{false≢true, filter_map-append, function_params, head_crosses}
use Rattle.sc_back_performer_laws.proofs.Common.{head_holds, head_in, head_of, heads_in, imported_agrees, list_all}
use Rattle.sc_back_performer_laws.proofs.Common.{main_holds, map, not, option_map, param_of, prefix_empty, promised}
use Rattle.sc_back_performer_laws.proofs.Common.{proto_params, refl, result_crosses, rule_holds, same_named_base}
use Rattle.sc_back_performer_laws.proofs.Common.{same_either_way, same_params, same_result, same_type, scalar_of, subst}
use Rattle.sc_back_performer_laws.proofs.Common.{suc, true, type_name, unless, ℕ, ◌&&◌, ◌++◌, ◌||◌, ◌∙◌, ◌∷◌, ◌≡◌}
use Rattle.sc_ast.specs.declared.section.Decl.TheVariants as decl
use Rattle.sc_ast.specs.declared.types.BaseTree.{BaseTree}
use Rattle.sc_ast.specs.declared.types.BaseTree.TheVariants as base
use Rattle.sc_ast.specs.declared.types.TypeName.{TypeName}
use Rattle.sc_back_performer_laws.proofs.BackTree.{function_at, head_at}
use Rattle.sc_back_performer_laws.proofs.Uses.{IsAmong, first, later}

-- Types that cross come back from the interface.

base_back : (b : BaseTree) → (same_named_base b base.Int || same_named_base b base.Unsigned) ≡ true →
    same_named_base b (base_tree (base_scalar b)) ≡ true
base_back base.Int h = refl
base_back base.Unsigned h = refl
base_back (base.Struct tag) h = absurd (false≢true h)

type_back : (t : TypeName) → crosses t ≡ true → same_type t (type_name (scalar_of t)) ≡ true
type_back t h = and_from _ _ (and_first _ _ h) (base_back t.base (and_rest _ _ h))

result_back : (r : Option TypeName) → result_crosses r ≡ true →
    same_result r (option_map type_name (option_map scalar_of r)) ≡ true
result_back None h = refl
result_back (Some t) h = type_back t h

abbrev scalars : List FunctionParam → List Scalar
scalars params = map (λ param. scalar_of param.ty) params

proto_back : (number : ℕ) (params : List FunctionParam) →
    list_all {X = ParamTree} (λ param. crosses param.ty) (map param_of params) ≡ true →
    same_params (map param_of params) (proto_params number (scalars params)) ≡ true
proto_back number [] h = refl
proto_back number (p ∷ params) h =
    and_from _ _ (type_back p.ty (and_first _ _ h)) (proto_back (suc number) params (and_rest (crosses p.ty) _ h))

function_back : (number : ℕ) (params : List FunctionParam) →
    list_all {X = ParamTree} (λ param. crosses param.ty) (map param_of params) ≡ true →
    same_params (map param_of params) (map param_of (function_params number (scalars params))) ≡ true
function_back number [] h = refl
function_back number (p ∷ params) h =
    and_from _ _ (type_back p.ty (and_first _ _ h)) (function_back (suc number) params (and_rest (crosses p.ty) _ h))

module _ (name : Text) (tree : FunctionTree) (crossing : head_crosses (head_of tree.head) ≡ true) where
  results : same_result tree.head.result (option_map type_name (option_map scalar_of tree.head.result)) ≡ true
  results = result_back tree.head.result (and_first _ _ crossing)

  pub promise_declared : (line : ℕ) → agree (head_of tree.head) (head_at (promised name (Some tree)) line) ≡ true
  promise_declared line =
      and_from _ _ results
      (proto_back 0 tree.head.params (and_rest (result_crosses tree.head.result) _ crossing))

  pub promise_defined : (line close : ℕ) (body : List StmtTree) →
      agree (head_of tree.head) (head_of (function_at (promised name (Some tree)) line close body).head) ≡ true
  promise_defined line close body =
      and_from _ _ results
      (function_back 0 tree.head.params (and_rest (result_crosses tree.head.result) _ crossing))

-- The heads that are made cross.

type_crosses : (t : Scalar) → crosses (type_name t) ≡ true
type_crosses Int = refl
type_crosses Unsigned = refl

result_made : (r : Option Scalar) → result_crosses (option_map type_name r) ≡ true
result_made None = refl
result_made (Some t) = type_crosses t

params_made : (number : ℕ) (params : List Scalar) →
    list_all {X = ParamTree} (λ param. crosses param.ty) (proto_params number params) ≡ true
params_made number [] = refl
params_made number (t ∷ params) = and_from _ _ (type_crosses t) (params_made (suc number) params)

defined_made : (number : ℕ) (params : List Scalar) →
    list_all {X = ParamTree} (λ param. crosses param.ty) (map param_of (function_params number params)) ≡ true
defined_made number [] = refl
defined_made number (t ∷ params) = and_from _ _ (type_crosses t) (defined_made (suc number) params)

pub declared_crosses : (f : Proto) (line : ℕ) → head_crosses (head_at f line) ≡ true
declared_crosses f line = and_from _ _ (result_made f.result) (params_made 0 f.params)

pub defined_crosses : (f : Proto) (line close : ℕ) (body : List StmtTree) →
    head_crosses (head_of (function_at f line close body).head) ≡ true
defined_crosses f line close body = and_from _ _ (result_made f.result) (defined_made 0 f.params)

-- Heads of a section, each of which agrees with those of its name before it.

abbrev pub AreAgreed : (before heads : List HeadTree) → Type 0
AreAgreed before [] = Unit {0}
AreAgreed before (head ∷ heads) = (agrees_with before head ≡ true) × AreAgreed (before ++ head ∷ []) heads

abbrev agree_if : HeadTree → HeadTree → Bool
agree_if head other = not (bytes_eq other.name head.name) || agree other head

either_way : (a b : HeadTree) → agree_if a b ≡ agree_if b a
either_way a b = λ i. not (same_either_way b.name a.name i) || agree_symm b a i

pub all_prefix : (xs ys : List HeadTree) (p : HeadTree → Bool) → list_all p xs ≡ true → list_all p ys ≡ true →
    list_all p (xs ++ ys) ≡ true
all_prefix [] ys p h k = k
all_prefix (x ∷ xs) ys p h k = and_from _ _ (and_first _ _ h) (all_prefix xs ys p (and_rest (p x) _ h) k)

holds_among : (p : HeadTree → Bool) (x : HeadTree) (xs : List HeadTree) → list_all p xs ≡ true → IsAmong x xs →
    p x ≡ true
holds_among p x xs h (first rest) = and_first _ _ h
holds_among p x xs h (later y rest there) = holds_among p x rest (and_rest (p y) _ h) there

more_prefix : (x : HeadTree) (xs ys : List HeadTree) → IsAmong x xs → IsAmong x (xs ++ ys)
more_prefix x xs ys (first rest) = first (rest ++ ys)
more_prefix x xs ys (later y rest there) = later y (rest ++ ys) (more_prefix x rest ys there)

at_end : (x : HeadTree) (xs : List HeadTree) → IsAmong x (xs ++ x ∷ [])
at_end x [] = first []
at_end x (y ∷ xs) = later y (xs ++ x ∷ []) (at_end x xs)

-- those after a head agree with it
after_agree : (x : HeadTree) (before heads : List HeadTree) → AreAgreed before heads → IsAmong x before →
    agrees_with heads x ≡ true
after_agree x before [] h there = refl
after_agree x before (head ∷ heads) h there =
    and_from _ _ (either_way x head ∙ holds_among (agree_if head) x before h.0 there)
    (after_agree x (before ++ head ∷ []) heads h.1 (more_prefix x before (head ∷ []) there))

self_agrees : (x : HeadTree) → agree_if x x ≡ true
self_agrees x = or_so (bytes_eq x.name x.name) (agree x x) (agrees x) where
  or_so : (a b : Bool) → b ≡ true → (not a || b) ≡ true
  or_so true b h = h
  or_so false b h = refl

pub all_agree : (x : HeadTree) (before heads : List HeadTree) → AreAgreed before heads → IsAmong x heads →
    agrees_with (before ++ heads) x ≡ true
all_agree x before heads h (first rest) =
    all_prefix before (x ∷ rest) (agree_if x) h.0
    (and_from _ _ (self_agrees x) (after_agree x (before ++ x ∷ []) rest h.1 (at_end x before)))
all_agree x before heads h (later y rest there) =
    subst (λ all. agrees_with all x ≡ true) (append_assoc before (y ∷ []) rest)
    (all_agree x (before ++ y ∷ []) rest h.1 there)

heads_snoc : (before : List Decl) (d : Decl) → heads_in (before ++ d ∷ []) ≡ heads_in before ++ heads_in (d ∷ [])
heads_snoc before d = filter_map-append head_in before (d ∷ [])

none_more : (before : List Decl) (d : Decl) → heads_in (d ∷ []) ≡ [] → heads_in (before ++ d ∷ []) ≡ heads_in before
none_more before d h = heads_snoc before d ∙ ap (λ more. heads_in before ++ more) h ∙ append-nil (heads_in before)

module _ (sections : List SectionTree) (number : ℕ) (section : SectionTree) (mains : Bool) where
  pub are_agreed : (before decls : List Decl) → decls_from sections number section mains before decls ≡ [] →
      AreAgreed (heads_in before) (heads_in decls)
  are_agreed before [] h = tt
  are_agreed before (decl.Struct tree ∷ decls) h =
      subst (λ all. AreAgreed all (heads_in decls)) (none_more before (decl.Struct tree) refl)
      (are_agreed (before ++ decl.Struct tree ∷ []) decls h)
  are_agreed before (decl.Global tree ∷ decls) h =
      subst (λ all. AreAgreed all (heads_in decls)) (none_more before (decl.Global tree) refl)
      (are_agreed (before ++ decl.Global tree ∷ []) decls h)
  are_agreed before (decl.Proto head ∷ decls) h =
      let was : (head_holds sections number section before head && imported_agrees sections number section head) ≡
      true = rule_holds _ head.line (prefix_empty _ _ h) in (
        and_first _ _ (and_first _ _ was),
        subst (λ all. AreAgreed all (heads_in decls)) (heads_snoc before (decl.Proto head))
            (are_agreed (before ++ decl.Proto head ∷ []) decls
            (back_empty (unless (head_holds sections number section before head &&
            imported_agrees sections number section head) head.line) _ h)),
      )
  are_agreed before (decl.Function tree ∷ decls) h =
      let was : (head_holds sections number section before (head_of tree.head) &&
      main_holds mains (head_of tree.head)) ≡ true = rule_holds _ tree.head.line (prefix_empty _ _ h) in (
        and_first _ _ (and_first _ _ was),
        subst (λ all. AreAgreed all (heads_in decls)) (heads_snoc before (decl.Function tree))
            (are_agreed (before ++ decl.Function tree ∷ []) decls
            (back_empty (unless (head_holds sections number section before (head_of tree.head) &&
            main_holds mains (head_of tree.head)) tree.head.line) _ h)),
      )
