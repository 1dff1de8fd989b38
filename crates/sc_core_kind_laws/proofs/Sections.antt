-- What the sections of a well-typed program keep, by their numbers.
use Rattle.sc_core_kind_laws.proofs.Common.{Bool, Interface, Interfaces, List, None, Option, ProgramTree, Some}
use Rattle.sc_core_kind_laws.proofs.Common.{TypedFunction, TypedSection, [], and_first, and_rest, ap, are_distinct}
use Rattle.sc_core_kind_laws.proofs.Common.{bytes_eq, codes, cond, false, false≢true, interface_fits, is_well_typed}
use Rattle.sc_core_kind_laws.proofs.Common.{length, list_all, list_any, main_fits, mains_in, map, most_compartments}
use Rattle.sc_core_kind_laws.proofs.Common.{nat_le, not, option_map, or_right, position, refl, section_fits}
use Rattle.sc_core_kind_laws.proofs.Common.{sections_fit, slice_get, slice_index_or, subst, suc, sym, true, zero, ℕ}
use Rattle.sc_core_kind_laws.proofs.Common.{◌&&◌, ◌++◌, ◌==◌, ◌||◌, ◌∙◌, ◌∷◌, ◌≡◌}
use Rattle.sc_base.proofs.Lists.{position-cons}
use Rattle.sc_base.proofs.Texts.{same_text, bytes_eq_self}
use Rattle.sc_core_kind_laws.proofs.Values.{either}

-- a section of a program with its interface
pub record Placed (interfaces : Interfaces) (interface : Interface) (section : TypedSection) : Type 0 where
  pub number : ℕ
  pub fits : section_fits interfaces number interface section ≡ true
  pub interface_fitting : interface_fits interfaces number interface section ≡ true

pub record ForSection (interfaces : Interfaces) (comps : List Interface) (n : ℕ) (section : TypedSection) : Type 0 where
  pub interface : Interface
  pub is : slice_get comps n ≡ Some interface
  pub placed : Placed interfaces interface section

pub record ForInterface (interfaces : Interfaces) (sections : List TypedSection) (n : ℕ)
    (interface : Interface) : Type 0 where
  pub section : TypedSection
  pub is : slice_get sections n ≡ Some section
  pub placed : Placed interfaces interface section

module _ (interfaces : Interfaces) where
  pub for_section : (k : ℕ) (comps : List Interface) (sections : List TypedSection) →
      sections_fit interfaces k comps sections ≡ true → (n : ℕ) (section : TypedSection) →
      slice_get sections n ≡ Some section → ForSection interfaces comps n section
  for_section k [] [] h n section is = absurd (cc)
  for_section k [] (y ∷ ys) h n section is = absurd (false≢true h)
  for_section k (x ∷ xs) [] h n section is = absurd (cc)
  for_section k (x ∷ xs) (y ∷ ys) h zero section is =
      let same : y ≡ section = cc in
      let following = and_rest (section_fits interfaces k x y) _ h in
      record {
        interface = x;
        is = refl;
        placed = subst (Placed interfaces x) same
            (record {
              number = k;
              fits = and_first (section_fits interfaces k x y) _ h;
              interface_fitting = and_first (interface_fits interfaces k x y) _ following;
            });
      }
  for_section k (x ∷ xs) (y ∷ ys) h (suc n) section is =
      let rest = for_section (suc k) xs ys (and_rest (interface_fits interfaces k x y) _
      (and_rest (section_fits interfaces k x y) _ h)) n section is in
      record { interface = rest.interface; is = rest.is; placed = rest.placed }

  pub for_interface : (k : ℕ) (comps : List Interface) (sections : List TypedSection) →
      sections_fit interfaces k comps sections ≡ true → (n : ℕ) (interface : Interface) →
      slice_get comps n ≡ Some interface → ForInterface interfaces sections n interface
  for_interface k [] [] h n interface is = absurd (cc)
  for_interface k [] (y ∷ ys) h n interface is = absurd (cc)
  for_interface k (x ∷ xs) [] h n interface is = absurd (false≢true h)
  for_interface k (x ∷ xs) (y ∷ ys) h zero interface is =
      let same : x ≡ interface = cc in
      let following = and_rest (section_fits interfaces k x y) _ h in
      record {
        section = y;
        is = refl;
        placed = subst (λ i. Placed interfaces i y) same
            (record {
              number = k;
              fits = and_first (section_fits interfaces k x y) _ h;
              interface_fitting = and_first (interface_fits interfaces k x y) _ following;
            });
      }
  for_interface k (x ∷ xs) (y ∷ ys) h (suc n) interface is =
      let rest = for_interface (suc k) xs ys (and_rest (interface_fits interfaces k x y) _
      (and_rest (section_fits interfaces k x y) _ h)) n interface is in
      record { section = rest.section; is = rest.is; placed = rest.placed }

-- ITEMS OF LISTS

pub index_map : {A B : Type 0} (f : A → List B) (xs : List A) (i : ℕ) (x : A) → slice_get xs i ≡ Some x →
    slice_index_or (map f xs) i [] ≡ f x
index_map f [] i x is = absurd (cc)
index_map f (y ∷ ys) zero x is = let same : y ≡ x = cc in ap f same
index_map f (y ∷ ys) (suc i) x is = index_map f ys i x is

pub all_at : {A : Type 0} (p : A → Bool) (xs : List A) → list_all p xs ≡ true → (i : ℕ) (x : A) →
    slice_get xs i ≡ Some x → p x ≡ true
all_at p [] h i x is = absurd (cc)
all_at p (y ∷ ys) h zero x is = let same : y ≡ x = cc in subst (λ z. p z ≡ true) same (and_first (p y) _ h)
all_at p (y ∷ ys) h (suc i) x is = all_at p ys (and_rest (p y) _ h) i x is

-- the first item that passes
pub record First {A : Type 0} (p : A → Bool) (xs : List A) : Type 0 where
  pub number : ℕ
  pub item : A
  pub found : position p xs ≡ Some number
  pub is : slice_get xs number ≡ Some item

pub first_of : {A : Type 0} (p : A → Bool) (xs : List A) → list_any p xs ≡ true → First p xs
first_of p [] h = absurd (false≢true h)
first_of p (x ∷ xs) h = by (first_of p xs) (p x) refl where
  by : (list_any p xs ≡ true → First p xs) → (b : Bool) → p x ≡ b → First p (x ∷ xs)
  by later true is = record {
    number = 0;
    item = x;
    found = position-cons p x xs ∙
        ap (λ b. cond b (Some 0) (option_map suc (position p xs))) is;
    is = refl;
  }
  by later false is =
      let rest = later (subst (λ b. (b || list_any p xs) ≡ true) is h) in
      record {
        number = suc rest.number;
        item = rest.item;
        found = position-cons p x xs ∙ ap (λ b. cond b (Some 0) (option_map suc (position p xs))) is ∙
            ap (option_map suc) rest.found;
        is = rest.is;
      }

-- the first item that passes is the one found
pub record Passing {A : Type 0} (p : A → Bool) (xs : List A) (n : ℕ) : Type 0 where
  pub item : A
  pub is : slice_get xs n ≡ Some item
  pub passes : p item ≡ true

pub found_passes : {A : Type 0} (p : A → Bool) (xs : List A) (n : ℕ) → position p xs ≡ Some n → Passing p xs n
found_passes p [] n is = absurd (cc)
found_passes p (x ∷ xs) n is = by (found_passes p xs) (p x) refl (sym (position-cons p x xs) ∙ is) where
  following : ((m : ℕ) → position p xs ≡ Some m → Passing p xs m) → (o : Option ℕ) → position p xs ≡ o →
      option_map suc o ≡ Some n → Passing p (x ∷ xs) n
  following later None at is = absurd (cc)
  following later (Some m) at is =
      let same : suc m ≡ n = cc in
      let rest = later m at in
      subst (Passing p (x ∷ xs)) same (record { item = rest.item; is = rest.is; passes = rest.passes })

  by : ((m : ℕ) → position p xs ≡ Some m → Passing p xs m) → (b : Bool) → p x ≡ b →
      cond (p x) (Some 0) (option_map suc (position p xs)) ≡ Some n → Passing p (x ∷ xs) n
  by later true here is =
      let at : Some 0 ≡ Some n = sym (ap (λ b. cond b (Some 0) (option_map suc (position p xs))) here) ∙ is in
      let same : 0 ≡ n = cc in
      subst (Passing p (x ∷ xs)) same (record { item = x; is = refl; passes = here })
  by later false here is =
      following later (position p xs) refl (sym (ap (λ b. cond b (Some 0) (option_map suc (position p xs))) here) ∙ is)

pub any_along : {A : Type 0} (p q : A → Bool) → ((x : A) → p x ≡ true → q x ≡ true) → (xs : List A) →
    list_any p xs ≡ true → list_any q xs ≡ true
any_along p q on [] h = h
any_along p q on (x ∷ xs) h =
    either (p x) (list_any p xs) h (λ k. ap (λ b. b || list_any q xs) (on x k))
    (λ k. or_right (q x) (list_any q xs) (any_along p q on xs k))

-- NAMES OF FUNCTIONS

abbrev pub name_of : TypedFunction → List ℕ
name_of f = f.name

distinct_after : (names others : List (List ℕ)) → are_distinct (names ++ others) ≡ true → are_distinct others ≡ true
distinct_after [] others h = h
distinct_after (name ∷ names) others h = distinct_after names others
    (and_rest (not (list_any (bytes_eq name) (names ++ others))) _ h)

named_in : (name : List ℕ) (fs : List TypedFunction) (n : ℕ) (f : TypedFunction) → slice_get fs n ≡ Some f →
    f.name ≡ name → list_any (bytes_eq name) (map name_of fs) ≡ true
named_in name [] n f is same = absurd (cc)
named_in name (g ∷ fs) zero f is same =
    let own : g ≡ f = cc in
    ap (λ b. b || list_any (bytes_eq name) (map name_of fs))
    (subst (λ x. bytes_eq name x ≡ true) (sym (ap name_of own ∙ same)) (bytes_eq_self name))
named_in name (g ∷ fs) (suc n) f is same = or_right (bytes_eq name g.name) _ (named_in name fs n f is same)

any_named : (name : List ℕ) (p : TypedFunction → Bool) (fs : List TypedFunction) →
    list_any (λ f. bytes_eq f.name name && p f) fs ≡ true → list_any (bytes_eq name) (map name_of fs) ≡ true
any_named name p [] h = h
any_named name p (f ∷ fs) h =
    either (bytes_eq f.name name && p f) (list_any (λ f. bytes_eq f.name name && p f) fs) h
    (λ k. let own = same_text f.name name (and_first (bytes_eq f.name name) _ k) in
    ap (λ b. b || list_any (bytes_eq name) (map name_of fs))
    (subst (λ x. bytes_eq name x ≡ true) (sym own) (bytes_eq_self name)))
    (λ k. or_right (bytes_eq name f.name) _ (any_named name p fs k))

twice : (name : List ℕ) (names : List (List ℕ)) → are_distinct (name ∷ names) ≡ true →
    list_any (bytes_eq name) names ≡ true → ⊥
twice name names h k = false≢true (sym (ap not k) ∙ and_first (not (list_any (bytes_eq name) names)) _ h)

-- where names differ, what holds of a function of a name holds of any that is called so
pub named_so : (name : List ℕ) (p : TypedFunction → Bool) (fs : List TypedFunction) →
    are_distinct (map name_of fs) ≡ true → list_any (λ f. bytes_eq f.name name && p f) fs ≡ true →
    (n : ℕ) (f : TypedFunction) → slice_get fs n ≡ Some f → bytes_eq f.name name ≡ true → p f ≡ true
named_so name p [] distinct h n f is called = absurd (cc)
named_so name p (g ∷ fs) distinct h zero f is called =
    let own : g ≡ f = cc in
    either (bytes_eq g.name name && p g) (list_any (λ f. bytes_eq f.name name && p f) fs) h
    (λ k. subst (λ x. p x ≡ true) own (and_rest (bytes_eq g.name name) _ k))
    (λ k. absurd (twice g.name (map name_of fs) distinct
    (subst (λ x. list_any (bytes_eq x) (map name_of fs) ≡ true)
    (sym (ap name_of own ∙ same_text f.name name called)) (any_named name p fs k))))
named_so name p (g ∷ fs) distinct h (suc n) f is called =
    either (bytes_eq g.name name && p g) (list_any (λ f. bytes_eq f.name name && p f) fs) h
    (λ k. absurd (twice g.name (map name_of fs) distinct
    (named_in g.name fs n f is (same_text f.name name called ∙
    sym (same_text g.name name (and_first (bytes_eq g.name name) _ k))))))
    (λ k. named_so name p fs (and_rest (not (list_any (bytes_eq g.name) (map name_of fs))) _ distinct) k n f is called)

pub own_names_differ : (others : List (List ℕ)) (fs : List TypedFunction) →
    are_distinct (others ++ map name_of fs) ≡ true → are_distinct (map name_of fs) ≡ true
own_names_differ others fs h = distinct_after others (map name_of fs) h

-- what a well-typed program keeps: its sections fit their interfaces, and one of them has `main`
module _ (program : ProgramTree) (typed : is_well_typed program ≡ true) where
  after_names : (sections_fit program.interfaces 0 program.interfaces.comps program.sections &&
      (main_fits (slice_get program.sections program.interfaces.main) && mains_in program.sections == 1)) ≡ true
  after_names = and_rest (are_distinct (codes "Env" ∷ map {A = Interface} (λ i. i.name) program.interfaces.comps)) _
      (and_rest (nat_le (length program.sections) most_compartments) _ typed)

  pub sections_so : sections_fit program.interfaces 0 program.interfaces.comps program.sections ≡ true
  sections_so = and_first (sections_fit program.interfaces 0 program.interfaces.comps program.sections) _ after_names

  pub mains_so :
      (main_fits (slice_get program.sections program.interfaces.main) && mains_in program.sections == 1) ≡ true
  mains_so = and_rest (sections_fit program.interfaces 0 program.interfaces.comps program.sections) _ after_names

  pub main_so : main_fits (slice_get program.sections program.interfaces.main) ≡ true
  main_so = and_first (main_fits (slice_get program.sections program.interfaces.main)) _ mains_so
