-- Tests that hold and lists that are empty, places in lists, and what is found by a name among declarations.
use Rattle.sc_types.proofs.Common.{Bool, Decides-eqb, Decl, Function, FunctionTree, HeadTree, List, None, Option, Proto}
use Rattle.sc_types.proofs.Common.{Some, [], ap, arith, bytes_eq, cases_Bool, concat, false, function_named}
use Rattle.sc_types.proofs.Common.{function_names, function_decls, head_named, head_of, heads_in, if◌then◌else◌, inl}
use Rattle.sc_types.proofs.Common.{inr}
use Rattle.sc_types.proofs.Common.{is_numbered, le-leb, leb-true, length, list_all, list_any, list_any-append, lt-ltb}
use Rattle.sc_types.proofs.Common.{map, nat_le, nat_lt, not, number_by_name, number_or_zero, option_map, or_left}
use Rattle.sc_types.proofs.Common.{position}
use Rattle.sc_types.proofs.Common.{position-cons, proto_names, refl, slice_get, subst, suc, sym, true, unless, zero, ℕ}
use Rattle.sc_types.proofs.Common.{◌++◌, ◌<◌, ◌==◌, ◌||◌, ◌∙◌, ◌∷◌, ◌≡◌, ◌≤◌}
pub use Rattle.sc_base.proofs.Lists.{Each}
use Rattle.std.proofs.lemmas.Slice.Eq.{bytes_eq-Decides}
use Rattle.std.proofs.lemmas.Cmp.{nat_list_eq_equiv}

pub or_not : (a b : Bool) → (a || not b) ≡ true → b ≡ true → a ≡ true
or_not a b h q = grind arith

pub some_item : {A B : Type 0} (x : A) (xs : List A) → x ∷ xs ≡ [] → B
some_item x xs h = cc

-- a rule that is broken at no line holds
pub rule_holds : (b : Bool) (line : ℕ) → unless b line ≡ [] → b ≡ true
rule_holds b line h = grind arith

pub prefix_empty : {A : Type 0} (xs ys : List A) → xs ++ ys ≡ [] → xs ≡ []
prefix_empty [] ys h = refl
prefix_empty (x ∷ xs) ys h = cc

pub back_empty : {A : Type 0} (xs ys : List A) → xs ++ ys ≡ [] → ys ≡ []
back_empty [] ys h = h
back_empty (x ∷ xs) ys h = cc

-- what lists of lines hold that are empty together
pub ruleset no_lines = (rule_holds, prefix_empty, back_empty)

pub map_empty : {A B : Type 0} (f : A → B) (xs : List A) → map f xs ≡ [] → xs ≡ []
map_empty f [] h = refl
map_empty f (x ∷ xs) h = cc

pub each_empty : {A : Type 0} (f : A → List ℕ) (xs : List A) → concat (map f xs) ≡ [] → Each (λ x. f x ≡ []) xs
each_empty f [] h = tt
each_empty f (x ∷ xs) h = grind (arith, no_lines, each_empty f xs)

pub each_passes : {A : Type 0} (p : A → Bool) (xs : List A) → list_all p xs ≡ true → Each (λ x. p x ≡ true) xs
each_passes p [] h = tt
each_passes p (x ∷ xs) h = grind (arith, each_passes p xs)

pub none_some : {A C : Type 0} (x : A) → None ≡ Some x → C
none_some x h = cc

-- the first place at which a test passes
abbrev pub find : {A : Type 0} → (A → Bool) → List A → Option ℕ
find p [] = None
find p (x ∷ xs) = if p x then Some 0 else option_map suc (find p xs)

pub position_is : {A : Type 0} (p : A → Bool) (xs : List A) → position p xs ≡ find p xs
position_is p [] = refl
position_is p (x ∷ xs) = position-cons p x xs ∙ ap (λ rest. if p x then Some 0 else option_map suc rest)
    (position_is p xs)

abbrev pub Text : Type 0
Text = List ℕ

pub same_refl : (name : Text) → bytes_eq name name ≡ true
same_refl name = (bytes_eq-Decides name name).1 refl

pub eq_refl : (n : ℕ) → (n == n) ≡ true
eq_refl n = (Decides-eqb n n).1 refl

pub less : (a b : ℕ) → a < b → nat_lt a b ≡ true
less a b h = lt-ltb a b h

pub at_most : (a b : ℕ) → a ≤ b → nat_le a b ≡ true
at_most a b h = le-leb a b h

pub is_at_most : (a b : ℕ) → nat_le a b ≡ true → a ≤ b
is_at_most a b h = leb-true a b h

-- a name that is there, at its first place
pub record Placed (names : List Text) (name : Text) : Type 0 where
  pub at : ℕ
  pub is : number_by_name names name ≡ Some at
  pub within : at < length names

-- the first item that passes a test, and where it stands
abbrev pub first_of : {A : Type 0} → (A → Bool) → List A → Option A
first_of p [] = None
first_of p (x ∷ xs) = if p x then Some x else first_of p xs

pub record Found {A : Type 0} (p : A → Bool) (xs : List A) : Type 0 where
  pub at : ℕ
  pub item : A
  pub is : find p xs ≡ Some at
  pub first : first_of p xs ≡ Some item
  pub within : at < length xs
  pub got : slice_get xs at ≡ Some item
  pub passes : p item ≡ true

module _ {A : Type 0} (p : A → Bool) where
  pub any_found : (xs : List A) → list_any p xs ≡ true → Found p xs
  any_found [] h = cc
  any_found (x ∷ xs) h = elim (cases_Bool (p x)) [
    | inl here ↦ record {
      at = 0;
      item = x;
      is = grind arith;
      first = grind arith;
      within = omega arith;
      got = refl;
      passes = here;
    }
    | inr not_here ↦ let rest = any_found xs (grind arith) in record {
      at = suc rest.at;
      item = rest.item;
      is = grind (arith, rest.is);
      first = grind (arith, rest.first);
      within = omega (arith, rest.within);
      got = rest.got;
      passes = rest.passes;
    }
  ]

  -- what is found in a prefix is found there in the whole
  pub find_prefix : (xs ys : List A) → list_any p xs ≡ true → find p (xs ++ ys) ≡ find p xs
  find_prefix [] ys h = cc
  find_prefix (x ∷ xs) ys h = grind (arith, find_prefix xs ys)

  -- the first one after a prefix in which nothing is found
  pub find_next : (xs : List A) (y : A) (ys : List A) → list_any p xs ≡ false → p y ≡ true →
      find p (xs ++ y ∷ ys) ≡ Some (length xs)
  find_next [] y ys h k = grind arith
  find_next (x ∷ xs) y ys h k = grind (arith, find_next xs)

-- the number of a name is where it is found
pub number_is : (names : List Text) (name : Text) → number_by_name names name ≡ find (bytes_eq name) names
number_is names name = position_is _ names

pub placed : (names : List Text) (name : Text) → is_numbered names name ≡ true → Placed names name
placed names name h =
    let f = any_found _ names h in
    record { at = f.at; is = number_is names name ∙ f.is; within = f.within }

-- the number of a name that is there
pub number_within : (names : List Text) (name : Text) → is_numbered names name ≡ true →
    number_or_zero (number_by_name names name) < length names
number_within names name h =
    let p = placed names name h in subst (λ o. number_or_zero o < length names) (sym p.is) p.within

pub number_prefix : (names more : List Text) (name : Text) → is_numbered names name ≡ true →
    number_by_name (names ++ more) name ≡ number_by_name names name
number_prefix names more name h = number_is _ name ∙ find_prefix _ names more h ∙ sym (number_is names name)

pub number_next : (names : List Text) (name : Text) (more : List Text) → is_numbered names name ≡ false →
    number_by_name (names ++ name ∷ more) name ≡ Some (length names)
number_next names name more h = number_is _ name ∙ find_next _ names name more h (same_refl name)

pub numbered_prefix : (names more : List Text) (name : Text) → is_numbered names name ≡ true →
    is_numbered (names ++ more) name ≡ true
numbered_prefix names more name h = list_any-append _ names more ∙ or_left _ _ h

pub each_at : {A : Type 0} (P : A → Type 0) (xs : List A) (i : ℕ) (x : A) → Each P xs → slice_get xs i ≡ Some x → P x
each_at P [] i x h got = none_some x got
each_at P (y ∷ xs) zero x h got = grind arith
each_at P (y ∷ xs) (suc i) x h got = each_at P xs i x h.1 got

-- names are the same either way round
pub same_sym : (a b : Text) → bytes_eq a b ≡ bytes_eq b a
same_sym a b = nat_list_eq_equiv.symm a b

-- A function of a name.
pub record FoundFunction (name : Text) (trees : List FunctionTree) : Type 0 where
  pub at : ℕ
  pub tree : FunctionTree
  pub number : number_by_name (map {A = FunctionTree} (λ tree. tree.head.name) trees) name ≡ Some at
  pub got : slice_get trees at ≡ Some tree
  pub first : function_named name trees ≡ Some tree
  pub named : bytes_eq tree.head.name name ≡ true

abbrev pub names_of : List FunctionTree → List Text
names_of trees = map {A = FunctionTree} (λ tree. tree.head.name) trees

-- what passes among names, where they are got from items
module _ {A : Type 0} (p : Text → Bool) (name_in : A → Text) (q : A → Bool) (same : (x : A) → p (name_in x) ≡ q x) where
  pub find_names : (xs : List A) → find p (map name_in xs) ≡ find q xs
  find_names [] = refl
  find_names (x ∷ xs) = λ i. if same x i then Some 0 else option_map suc (find_names xs i)

  pub any_names : (xs : List A) → list_any p (map name_in xs) ≡ list_any q xs
  any_names [] = refl
  any_names (x ∷ xs) = λ i. same x i || any_names xs i

function_first : (name : Text) (trees : List FunctionTree) →
    function_named name trees ≡ first_of (λ tree. bytes_eq tree.head.name name) trees
function_first name [] = refl
function_first name (tree ∷ trees) = grind (arith, function_first name trees)

pub find_function : (name : Text) (trees : List FunctionTree) → is_numbered (names_of trees) name ≡ true →
    FoundFunction name trees
find_function name trees h =
    let f = any_found _ trees (sym (any_names (bytes_eq name) (λ tree. tree.head.name) _ (λ tree. same_sym name _) _) ∙
    h) in
    record {
      at = f.at;
      tree = f.item;
      number = number_is _ name ∙ find_names _ _ _ (λ tree. same_sym name tree.head.name) trees ∙ f.is;
      got = f.got;
      first = function_first name trees ∙ f.first;
      named = f.passes;
    }

-- a name that isn't numbered is found nowhere
module _ {A : Type 0} (p : A → Bool) where
  no_number : (xs : List A) → list_any p xs ≡ false → find p xs ≡ None
  no_number [] h = refl
  no_number (x ∷ xs) h = grind (arith, no_number xs)

  none_first : (xs : List A) → list_any p xs ≡ false → first_of p xs ≡ None
  none_first [] h = refl
  none_first (x ∷ xs) h = grind (arith, none_first xs)

pub no_function : (name : Text) (trees : List FunctionTree) → is_numbered (names_of trees) name ≡ false →
    function_named name trees ≡ None
no_function name trees h = function_first name trees ∙
    none_first _ trees (sym (any_names (bytes_eq name) (λ tree. tree.head.name) _ (λ tree. same_sym name _) _) ∙ h)

pub no_place : (names : List Text) (name : Text) → is_numbered names name ≡ false → number_by_name names name ≡ None
no_place names name h = number_is names name ∙ no_number _ names h

-- Heads.

-- P of each declaration's function
pub each_function : (P : Decl → Type 0) (decls : List Decl) → Each P decls →
    Each (λ tree. P (Function tree)) (function_decls decls)
each_function P [] h = tt
each_function P (decl ∷ decls) h = grind (arith, each_function P decls)

-- a test that all heads pass, functions' heads pass
pub heads_of_functions : (p : HeadTree → Bool) (decls : List Decl) → list_all p (heads_in decls) ≡ true →
    Each (λ tree. p (head_of tree.head) ≡ true) (function_decls decls)
heads_of_functions p [] h = tt
heads_of_functions p (decl ∷ decls) h = grind (arith, heads_of_functions p decls)

-- the first head of a name that no function has, which is a prototype's
pub record FoundHead (P : Decl → Type 0) (name : Text) (decls : List Decl) : Type 0 where
  pub head : HeadTree
  pub first : head_named name (heads_in decls) ≡ Some head
  pub named : bytes_eq head.name name ≡ true
  pub holds : P (Proto head)

abbrev some_proto : Text → List Decl → Bool
some_proto name decls = list_any (bytes_eq name) (proto_names decls)

abbrev some_function : Text → List Decl → Bool
some_function name decls = list_any (bytes_eq name) (function_names decls)

module _ (P : Decl → Type 0) (name : Text) where
  -- a declaration is passed over that the name's first head isn't
  over : {decls : List Decl} (more : List Decl) (rest : FoundHead P name decls) →
      head_named name (heads_in more) ≡ head_named name (heads_in decls) → FoundHead P name more
  over more rest is = record { head = rest.head; first = is ∙ rest.first; named = rest.named; holds = rest.holds }

  pub find_head : (decls : List Decl) → Each P decls → some_proto name decls ≡ true → some_function name decls ≡ false →
      FoundHead P name decls
  find_head [] each h none = cc
  find_head (Proto head ∷ decls) each h none = elim (cases_Bool (bytes_eq head.name name)) [
    | inl here ↦ record { head = head; first = grind arith; named = here; holds = each.0 }
    | inr not_here ↦ over (Proto head ∷ decls)
        (find_head decls each.1 (grind (arith, same_sym head.name name)) none) (grind arith)
  ]
  find_head (Function tree ∷ decls) each h none =
      over (Function tree ∷ decls) (find_head decls each.1 h (grind arith))
      (grind (arith, same_sym tree.head.name name))
  find_head (decl ∷ decls) each h none = over (decl ∷ decls) (find_head decls each.1 h none) refl
