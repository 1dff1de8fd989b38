-- Heads that agree, and what tables of heads allow.
use Rattle.sc_types_interfaces.proofs.Common.{Agreements, Bool, HeadTree, List, None, Option, ParamTree, Some, Text}
use Rattle.sc_types_interfaces.proofs.Common.{TypeName, [], added, added_beside, agree, agrees_first, agrees_with}
use Rattle.sc_types_interfaces.proofs.Common.{all_added, all_numbered, allowed, among, and-true, ap, ap₂, arith}
use Rattle.sc_types_interfaces.proofs.Common.{bytes_eq, cond, eqb-true, false, first_by_name, forbidden, if◌then◌else◌}
use Rattle.sc_types_interfaces.proofs.Common.{is_numbered, list_any-append, nat_eq, nat_eq_equiv, nat_list_eq_equiv}
use Rattle.sc_types_interfaces.proofs.Common.{no_heads, not, numbered, or-false, refl, same_named_base, same_params}
use Rattle.sc_types_interfaces.proofs.Common.{same_result, same_text, same_type, sym, true, with_first, ◌&&◌, ◌++◌}
use Rattle.sc_types_interfaces.proofs.Common.{◌||◌, ◌∙◌, ◌∷◌, ◌≡◌}
use Rattle.std.proofs.lemmas.Bool.{and_parts}
use Rattle.sc_ast.specs.declared.types.BaseTree.{BaseTree}
use Rattle.sc_ast.specs.declared.types.BaseTree.TheVariants as base

base_symm : (a b : BaseTree) → same_named_base a b ≡ same_named_base b a
base_symm (base.Struct tag) (base.Struct other) = nat_list_eq_equiv.symm tag other
base_symm base.Int base.Int = refl
base_symm base.Unsigned base.Int = refl
base_symm _ _ = refl

base_left : (a b c : BaseTree) → same_named_base a b ≡ true → same_named_base a c ≡ same_named_base b c
base_left base.Int base.Int c h = refl
base_left base.Unsigned base.Unsigned c h = refl
base_left (base.Struct tag) (base.Struct other) (base.Struct third) h = nat_list_eq_equiv.congr tag other third h
base_left (base.Struct tag) (base.Struct other) _ h = refl
base_left _ _ c h = cc

pub type_symm : (a b : TypeName) → same_type a b ≡ same_type b a
type_symm a b = ap₂ (λ x y. x && y) (nat_eq_equiv.symm a.stars b.stars) (base_symm a.base b.base)

type_left : (a b c : TypeName) → same_type a b ≡ true → same_type a c ≡ same_type b c
type_left a b c h =
    let parts = and_parts (nat_eq a.stars b.stars) (same_named_base a.base b.base) h in
    cc (eqb-true a.stars b.stars parts.0, base_left a.base b.base c.base parts.1)

result_symm : (a b : Option TypeName) → same_result a b ≡ same_result b a
result_symm (Some a) (Some b) = type_symm a b
result_symm None None = refl
result_symm _ _ = refl

result_left : (a b c : Option TypeName) → same_result a b ≡ true → same_result a c ≡ same_result b c
result_left None None c h = refl
result_left (Some a) (Some b) None h = refl
result_left (Some a) (Some b) (Some c) h = type_left a b c h
result_left _ _ c h = cc

params_symm : (xs ys : List ParamTree) → same_params xs ys ≡ same_params ys xs
params_symm (a ∷ xs) (b ∷ ys) = ap₂ (λ x y. x && y) (type_symm a.ty b.ty) (params_symm xs ys)
params_symm [] [] = refl
params_symm _ _ = refl

params_left : (xs ys zs : List ParamTree) → same_params xs ys ≡ true → same_params xs zs ≡ same_params ys zs
params_left [] [] zs h = refl
params_left (a ∷ xs) (b ∷ ys) [] h = refl
params_left (a ∷ xs) (b ∷ ys) (c ∷ zs) h = grind (arith, type_left a.ty b.ty c.ty, params_left xs ys zs)
params_left _ _ zs h = cc

pub agree_symm : (a b : HeadTree) → agree a b ≡ agree b a
agree_symm a b = ap₂ (λ x y. x && y) (result_symm a.result b.result) (params_symm a.params b.params)

pub agree_left : (a b c : HeadTree) → agree a b ≡ true → agree a c ≡ agree b c
agree_left a b c h = grind (arith, result_left a.result b.result c.result, params_left a.params b.params c.params)

-- Names.

numbered_by : (names : List Text) (name k : Text) (known : Bool) → is_numbered names name ≡ known →
    is_numbered (if known then names else names ++ name ∷ []) k ≡ (is_numbered names k || bytes_eq k name)
numbered_by names name k true there = grind (arith, same_text k name)
numbered_by names name k false absent = grind (arith, list_any-append (bytes_eq k) names (name ∷ []))

-- a name is there after another came, where it was there or is that name
pub is_numbered-numbered : (names : List Text) (name k : Text) →
    is_numbered (numbered names name) k ≡ (is_numbered names k || bytes_eq k name)
is_numbered-numbered names name k = numbered_by names name k _ refl

all_numbered_from : (names known : List Text) (k : Text) →
    is_numbered (all_numbered known names) k ≡ (is_numbered known k || is_numbered names k)
all_numbered_from [] known k = sym (or-false _)
all_numbered_from (name ∷ names) known k =
    grind (arith, all_numbered_from names (numbered known name) k, is_numbered-numbered known name k)

pub all_numbered_same : (names : List Text) (k : Text) → among (all_numbered [] names) k ≡ among names k
all_numbered_same names k = all_numbered_from names [] k

-- Heads.

pub allowed_forbidden : (known : Agreements) (name : Text) (head : HeadTree) →
    allowed (forbidden known name) head ≡ (allowed known head && not (bytes_eq name head.name))
allowed_forbidden known name head =
    grind (arith, is_numbered-numbered known.conflicts name head.name, nat_list_eq_equiv.symm name head.name)

abbrev pub first_or : {A : Type 0} → Option A → Option A → Option A
first_or None later = later
first_or (Some first) later = Some first

pub first_by_name-last : {A : Type 0} (firsts : List (Text × A)) (name k : Text) (x : A) → first_by_name (firsts ++
    (name, x) ∷ []) k ≡ first_or (first_by_name firsts k) (cond (bytes_eq k name) (Some x) None)
first_by_name-last [] name k x = refl
first_by_name-last (e ∷ firsts) name k x = grind (arith, first_by_name-last firsts name k x)

new_bools : (there same other agrees : Bool) → other ≡ same → (first : Option HeadTree) → (head added : HeadTree) →
    agree added head ≡ agrees → (same ≡ true → first ≡ None) → (not there && agrees_first (first_or first
    (cond same (Some added) None)) head) ≡ ((not there && agrees_first first head) && (not other || agrees))
new_bools there same other agrees o None head added a absent = grind arith
new_bools there same other agrees o (Some f) head added a absent = grind arith

old_bools : (x same agrees : Bool) → (same ≡ true → x ≡ true → agrees ≡ true) → x ≡ (x && (not same || agrees))
old_bools x same agrees h = grind arith

conflict_bools : (x same agrees : Bool) → (same ≡ true → x ≡ true → agrees ≡ true → ⊥) →
    (x && not same) ≡ (x && (not same || agrees))
conflict_bools x same agrees h = grind arith

-- what an allowed head of the name agrees with
allowed_first : (known : Agreements) (name : Text) (first head : HeadTree) →
    first_by_name known.firsts name ≡ Some first → bytes_eq name head.name ≡ true →
    allowed known head ≡ true → agree first head ≡ true
allowed_first known name first head there same holds = grind (arith, same_text name head.name same)

with_first_last : (firsts : List (Text × HeadTree)) (name : Text) (head : HeadTree) →
    first_by_name firsts name ≡ None → with_first firsts name head ≡ firsts ++ (name, head) ∷ []
with_first_last firsts name head absent = grind arith

beside : (known : Agreements) (name : Text) (added head : HeadTree) (first : Option HeadTree) →
    first_by_name known.firsts name ≡ first →
    allowed (added_beside known name added first) head ≡
    (allowed known head && (not (bytes_eq name head.name) || agree added head))
beside known name added head None absent = ap (λ firsts. not (among known.conflicts head.name) &&
    agrees_first (first_by_name firsts head.name) head) (with_first_last _ name added absent)
    ∙ ap (λ found. not (among known.conflicts head.name) && agrees_first found head)
    (first_by_name-last known.firsts name head.name added) ∙ new_bools (among known.conflicts head.name) _
    (bytes_eq name head.name) _ (nat_list_eq_equiv.symm name _) (first_by_name known.firsts head.name) head added refl
    (λ same. ap (first_by_name _) (same_text _ name same) ∙ absent)
beside known name added head (Some first) there = at (agree first added) refl where
  at : (agrees : Bool) → agree first added ≡ agrees → allowed (if agrees then known else forbidden known name) head ≡
      (allowed known head && (not (bytes_eq name head.name) || agree added head))
  at true both = old_bools _ (bytes_eq name head.name) _
      (λ same holds. sym (agree_left first added head both) ∙ allowed_first known name first head there same holds)
  at false apart = allowed_forbidden known name head
      ∙ conflict_bools _ (bytes_eq name _) _ (λ same holds agrees. clash same holds agrees) where
        clash : bytes_eq name head.name ≡ true → allowed known head ≡ true → agree added head ≡ true → ⊥
        clash same holds agrees =
            let first_agrees = allowed_first known name first head there same holds in
            cc (agree_left first head added first_agrees, agree_symm head added)

pub allowed_added : (known : Agreements) (name : Text) (added_head head : HeadTree) →
    allowed (added known name added_head) head ≡ (allowed known head &&
    (not (bytes_eq name head.name) || agree added_head head))
allowed_added known name added_head head = beside known name _ head _ refl

pub allowed_all : (known : Agreements) (heads : List HeadTree) (head : HeadTree) →
    allowed (all_added known heads) head ≡ (allowed known head && agrees_with heads head)
allowed_all known [] head = sym (and-true _)
allowed_all known (x ∷ heads) head =
    grind (arith, allowed_all (added known x.name x) heads head, allowed_added known x.name x head)

-- a table of heads allows those that agree with all of them
pub allowed_same : (heads : List HeadTree) (head : HeadTree) →
    allowed (all_added no_heads heads) head ≡ agrees_with heads head
allowed_same heads head = allowed_all _ heads head
