-- Declarations of distinct names agree, and what holds of lists of names.
use Rattle.sc_back_performer_laws.proofs.Common.{Bool, Decl, DeclFacts, Each, ExportLine, Fresh, HeadTree, ImportLine}
use Rattle.sc_back_performer_laws.proofs.Common.{List, SectionTree, Text, [], agrees_with, among, and_from, ap}
use Rattle.sc_back_performer_laws.proofs.Common.{append_assoc, are_distinct, bytes_eq, bytes_eq_self, decls_from}
use Rattle.sc_back_performer_laws.proofs.Common.{export_holds, exports_from, false, false≢true, filter_map-append}
use Rattle.sc_back_performer_laws.proofs.Common.{function_names, head_holds, head_in, head_of, heads_in}
use Rattle.sc_back_performer_laws.proofs.Common.{imported_agrees, inl, inr, is_new, is_plain, main_holds, main_name}
use Rattle.sc_back_performer_laws.proofs.Common.{map, map-append, not, or_left, or_right, refl, same_text, subst, sym}
use Rattle.sc_back_performer_laws.proofs.Common.{true, unless, ℕ, ◌&&◌, ◌++◌, ◌||◌, ◌∙◌, ◌∷◌, ◌≡◌, ◌⊎◌}
use Rattle.sc_ast.specs.declared.section.Decl.TheVariants as decl
use Rattle.sc_back_performer_laws.proofs.Distinct.{apart, first_new, rest_distinct}
use Rattle.sc_back_performer_laws.proofs.Made.{none_named}
use Rattle.sc_back_performer_laws.proofs.Seen.{AreAlike}
use Rattle.sc_back_performer_laws.proofs.SeenKept.{both_empty, holds_rule}
use Rattle.sc_back_performer_laws.proofs.Uses.{IsAmong, first, is_first_or_later, later, none_among}

-- Lists.

pub each_there : (xs : List Text) (P : Text → Type 0) → ((n : Text) → among xs n ≡ true → P n) → Each P xs
each_there [] P h = tt
each_there (x ∷ xs) P h = (
  h x (or_left (bytes_eq x x) (among xs x) (bytes_eq_self x)),
  each_there xs P (λ n there. h n (or_right (bytes_eq n x) (among xs n) there)),
)

pub each_unmap : {A : Type 0} (f : A → Text) (P : Text → Type 0) (xs : List A) → Each P (map f xs) →
    Each (λ x. P (f x)) xs
each_unmap f P [] h = tt
each_unmap f P (x ∷ xs) h = (h.0, each_unmap f P xs h.1)

pub each_onto : {A : Type 0} (f : A → Text) (P : Text → Type 0) (xs : List A) →
    Each (λ x. P (f x)) xs → Each P (map f xs)
each_onto f P [] h = tt
each_onto f P (x ∷ xs) h = (h.0, each_onto f P xs h.1)

pub each_both : {A : Type 0} (P : A → Type 0) (xs ys : List A) → Each P xs → Each P ys → Each P (xs ++ ys)
each_both P [] ys h k = k
each_both P (x ∷ xs) ys h k = (h.0, each_both P xs ys h.1 k)

-- names that are all among others
pub none_of_less : (more less : List Text) (name : Text) → Each (λ n. among more n ≡ true) less →
    among more name ≡ false → among less name ≡ false
none_of_less more [] name all none = refl
none_of_less more (n ∷ less) name all none =
    by (bytes_eq name n) refl (none_of_less more less name all.1 none) where
      by : (b : Bool) → bytes_eq name n ≡ b → among less name ≡ false → (b || among less name) ≡ false
      by true is rest =
          absurd (false≢true (sym none ∙ ap (among more) (same_text name n is) ∙ all.0))
      by false is rest = rest

pub alike_names : (xs ys : List ImportLine) → AreAlike xs ys →
    map {A = ImportLine} (λ line. line.name) ys ≡ map {A = ImportLine} (λ line. line.name) xs
alike_names [] [] h = refl
alike_names [] (b ∷ ys) h = absurd h
alike_names (a ∷ xs) [] h = absurd h
alike_names (a ∷ xs) (b ∷ ys) h = λ i. h.0.name i ∷ alike_names xs ys h.1 i

pub line_there : (a : ImportLine) (lines : List ImportLine) → IsAmong a lines →
    among (map {A = ImportLine} (λ line. line.name) lines) a.name ≡ true
line_there a lines (first rest) = or_left (bytes_eq a.name a.name) _ (bytes_eq_self a.name)
line_there a lines (later y rest there) = or_right (bytes_eq a.name y.name) _ (line_there a rest there)

-- lines of distinct names are the same where their names are
pub same_line : (lines : List ImportLine) → are_distinct (map {A = ImportLine} (λ line. line.name) lines) ≡ true →
    (a b : ImportLine) → IsAmong a lines → IsAmong b lines → a.name ≡ b.name → a ≡ b
same_line [] distinct a b in_a in_b named = none_among a in_a
same_line (x ∷ lines) distinct a b in_a in_b named =
    by (is_first_or_later a x lines in_a) (is_first_or_later b x lines in_b)
    (same_line lines (rest_distinct x.name (map {A = ImportLine} (λ line. line.name) lines) distinct) a b) where
      not_again : (c : ImportLine) → IsAmong c lines → x.name ≡ c.name → ⊥
      not_again c there same =
          false≢true (sym (first_new x.name (map {A = ImportLine} (λ line. line.name) lines) distinct) ∙
          ap (among (map {A = ImportLine} (λ line. line.name) lines)) same ∙ line_there c lines there)

      by : (a ≡ x) ⊎ IsAmong a lines → (b ≡ x) ⊎ IsAmong b lines →
          (IsAmong a lines → IsAmong b lines → a.name ≡ b.name → a ≡ b) → a ≡ b
      by (inl p) (inl q) rest = p ∙ sym q
      by (inl p) (inr there) rest = absurd (not_again b there (sym (ap (λ l. l.name) p) ∙ named))
      by (inr there) (inl q) rest = absurd (not_again a there (sym (ap (λ l. l.name) q) ∙ sym named))
      by (inr p) (inr q) rest = rest p q named

-- Declarations of distinct names.

abbrev pub head_names : List Decl → List Text
head_names decls = map {A = HeadTree} (λ head. head.name) (heads_in decls)

names_both : (before more : List Decl) → head_names (before ++ more) ≡ head_names before ++ head_names more
names_both before more =
    ap (map {A = HeadTree} (λ head. head.name)) (filter_map-append head_in before more) ∙
    map-append {A = HeadTree} (λ head. head.name) (heads_in before) (heads_in more)

next_names : (before : List Decl) (d : Decl) (decls : List Decl) →
    head_names before ++ (head_names (d ∷ []) ++ head_names decls) ≡ head_names (before ++ d ∷ []) ++ head_names decls
next_names before d decls =
    sym (append_assoc (head_names before) (head_names (d ∷ [])) (head_names decls)) ∙
    ap (λ a. a ++ head_names decls) (sym (names_both before (d ∷ [])))

module _ (sections : List SectionTree) (number : ℕ) (section : SectionTree) (mains : Bool) where
  pub new_agrees : (before : List Decl) (head : HeadTree) (rest : List Text) →
      are_distinct (head_names before ++ head.name ∷ rest) ≡ true → agrees_with (heads_in before) head ≡ true
  new_agrees before head rest distinct =
      none_named (heads_in before) head (apart (head_names before) (head.name ∷ rest) head.name distinct
      (or_left (bytes_eq head.name head.name) (among rest head.name) (bytes_eq_self head.name)))

  pub decls_distinct : (before decls : List Decl) → are_distinct (head_names before ++ head_names decls) ≡ true →
      Each (DeclFacts sections number section mains) decls → decls_from sections number section mains before decls ≡ []
  decls_distinct before [] distinct each = refl
  decls_distinct before (decl.Struct tree ∷ decls) distinct each =
      decls_distinct (before ++ decl.Struct tree ∷ []) decls
      (subst (λ ns. are_distinct ns ≡ true) (next_names before (decl.Struct tree) decls) distinct) each.1
  decls_distinct before (decl.Global tree ∷ decls) distinct each =
      decls_distinct (before ++ decl.Global tree ∷ []) decls
      (subst (λ ns. are_distinct ns ≡ true) (next_names before (decl.Global tree) decls) distinct) each.1
  decls_distinct before (decl.Proto head ∷ decls) distinct each =
      both_empty (unless (head_holds sections number section before head &&
      imported_agrees sections number section head) head.line) _
      (holds_rule (head_holds sections number section before head && imported_agrees sections number section head)
      head.line (and_from (head_holds sections number section before head) _
      (and_from (agrees_with (heads_in before) head) _ (new_agrees before head (head_names decls) distinct) each.0.0)
      each.0.1))
      (decls_distinct (before ++ decl.Proto head ∷ []) decls
      (subst (λ ns. are_distinct ns ≡ true) (next_names before (decl.Proto head) decls) distinct) each.1)
  decls_distinct before (decl.Function tree ∷ decls) distinct each =
      both_empty (unless (head_holds sections number section before (head_of tree.head) &&
      main_holds mains (head_of tree.head)) tree.head.line) _
      (holds_rule (head_holds sections number section before (head_of tree.head) &&
      main_holds mains (head_of tree.head)) tree.head.line
      (and_from (head_holds sections number section before (head_of tree.head)) _
      (and_from (agrees_with (heads_in before) (head_of tree.head)) _
      (new_agrees before (head_of tree.head) (head_names decls) distinct) each.0.0) each.0.1))
      (decls_distinct (before ++ decl.Function tree ∷ []) decls
      (subst (λ ns. are_distinct ns ≡ true) (next_names before (decl.Function tree) decls) distinct) each.1)

  pub exports_new : (before : List Text) (lines : List ExportLine) →
      Each (λ line. among (function_names section.decls) line.name ≡ true) lines →
      Each (λ line. bytes_eq line.name main_name ≡ false) lines → Each (λ line. is_plain line.name ≡ true) lines →
      Fresh before (map {A = ExportLine} (λ line. line.name) lines) →
      exports_from sections number section before lines ≡ []
  exports_new before [] defined no_main plain fresh = refl
  exports_new before (line ∷ lines) defined no_main plain fresh =
      both_empty (unless (export_holds sections number section before line) line.line) _
      (holds_rule (export_holds sections number section before line) line.line
      (and_from (among (function_names section.decls) line.name) _ defined.0
      (and_from (is_new before line.name) _ (ap not fresh.0)
      (and_from (not (bytes_eq line.name main_name)) _ (ap not no_main.0) plain.0))))
      (exports_new (before ++ line.name ∷ []) lines defined.1 no_main.1 plain.1 fresh.1)
