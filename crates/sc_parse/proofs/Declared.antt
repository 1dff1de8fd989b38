-- Declarations of variables and structs are read exactly as they are spelled.
use Rattle.sc_parse.proofs.Common.{BaseTree, Bool, ConstTree, Decl, Declarator, Declares, Grouped, InitTree, IsInteger}
use Rattle.sc_parse.proofs.Common.{IsMark, IsMember, Lexeme, List, MemberTree, None, Number, Reader, Separated, Some}
use Rattle.sc_parse.proofs.Common.{SpellsBase, SpellsConst, SpellsDeclarator, SpellsInit, SpellsStruct, StructTree}
use Rattle.sc_parse.proofs.Common.{TypeTree, [], absent, add_global, add_member, adds, after_inner_comma, all_separated}
use Rattle.sc_parse.proofs.Common.{ap, append_assoc, arith, array, base_at, before_mark, begins_with, bound, cond_both}
use Rattle.sc_parse.proofs.Common.{const_at, const_tree, consts_at, declaration_at, declarator, declarator_at, declares}
use Rattle.sc_parse.proofs.Common.{drop, ended_by, false, first_line, first_mark, following, global_at, glued, grouped}
use Rattle.sc_parse.proofs.Common.{init_at, initialiser_at, keyword_at, length, length-append, literal_at, many}
use Rattle.sc_parse.proofs.Common.{many_comma, member_at, members_at, members_in_braces, more, name_at, negated, next}
use Rattle.sc_parse.proofs.Common.{non_empty, none, none-some, one, past_comma, plain, refl, same_some, separated}
use Rattle.sc_parse.proofs.Common.{struct, struct_at, struct_tree, subst, subst₂, sym, true, type_of, ℕ, ◌++◌, ◌+◌, ◌<◌}
use Rattle.sc_parse.proofs.Common.{◌>>=◌, ◌∙◌, ◌∷◌, ◌≡◌}
use Rattle.sc_parse.proofs.Bases.{base_start, NoInt, NoBracket, base_exact, no_length, in_brackets, declarator_sound}
use Rattle.sc_parse.proofs.Bases.{declarator_reads, stars_no_int, integer_is}
use Rattle.sc_parse.proofs.Exact.{Adds, Any, Before, Complete, Exact, ExactAdder, Form, Hereditary, Property, Then}
use Rattle.sc_parse.proofs.Exact.{adding, any, before, before_exact, both, commas_exact, fitting, then_exact, took}
use Rattle.sc_parse.proofs.Exact.{AfterWord, Between, IsName, Sound, Taken, a_name, after_mark, after_word}
use Rattle.sc_parse.proofs.Exact.{between_exact, chosen, from_none, given, grouped_exact, name_exact, same_pair}
use Rattle.sc_parse.proofs.Exact.{separated_exact, word_taken}
use Rattle.sc_parse_expr.specs.declared.mark.Mark.TheVariants as mark
use Rattle.sc_parse_expr.specs.declared.mark.Keyword.TheVariants as word
use Rattle.sc_parse.specs.Lists as lists
use Rattle.sc_parse.specs.Declarations.{plain, one}
use Rattle.sc_ast.specs.declared.section.InitTree.TheVariants as init
use Rattle.sc_ast.specs.declared.section.Decl.TheVariants as decl

-- a declarator of a type and a name is read as one that makes them of its base
pub record Reads (base : BaseTree) (ts rest : List Lexeme) (ty : TypeTree) (name : List ℕ) : Type 0 where
  pub read : Declarator
  pub is : declarator_at (ts ++ rest) ≡ Some (read, rest)
  pub ty_is : type_of base read ≡ ty
  pub name_is : read.name ≡ name

pub declarator_complete : {base : BaseTree} {ts : List Lexeme} {ty : TypeTree} {name : List ℕ}
    (d : SpellsDeclarator base ts ty name) (rest : List Lexeme) → NoBracket rest → Reads base ts rest ty name
declarator_complete (plain {ts = ts} {stars = n} t name p d) rest h =
    record {
      read = declarator n name None;
      is = ap declarator_at (append_assoc ts _ rest) ∙ declarator_reads t name p d no_length rest h;
      ty_is = refl;
      name_is = refl;
    }
declarator_complete (array {ts = ts} {stars = n} t u v w name number elements p q r s k d) rest h =
    record {
      read = declarator n name _;
      is = ap declarator_at (append_assoc ts _ rest) ∙
          declarator_reads t name p d (in_brackets u v w number _ q r s k) rest h;
      ty_is = refl;
      name_is = refl;
    }

-- a declarator doesn't begin with `int`
pub declarator_no_int : {base : BaseTree} {ts : List Lexeme} {ty : TypeTree} {name : List ℕ}
    (d : SpellsDeclarator base ts ty name) (rest : List Lexeme) → NoInt (ts ++ rest)
declarator_no_int (plain {ts = ts} t name p d) rest =
    subst NoInt (sym (append_assoc ts _ rest)) (stars_no_int d (t ∷ rest) (rw p))
declarator_no_int (array {ts = ts} t u v w name number elements p q r s k d) rest =
    subst NoInt (sym (append_assoc ts _ rest)) (stars_no_int d (t ∷ u ∷ v ∷ w ∷ rest) (rw p))

pub separated_prefix : {A : Type 0} {Item : List Lexeme → A → Type 0} (P : List Lexeme → Type 0)
    (lookahead : (ts rest : List Lexeme) (x : A) → Item ts x → P (ts ++ rest)) {ts : List Lexeme} {xs : List A}
    (d : Separated Item ts xs) (rest : List Lexeme) → P (ts ++ rest)
separated_prefix P lookahead (one {ts = ts} {x = x} d) rest = lookahead ts rest x d
separated_prefix P lookahead (more {ts = ts} {us = us} {x = x} t p d g) rest =
    subst P (sym (append_assoc ts _ rest)) (lookahead ts (t ∷ us ++ rest) x d)

module _ {A : Type 0} {Fits : Property} (parts : Hereditary Fits) {Item : BaseTree → ℕ → Form A} {Ends : Property}
    {item : BaseTree → ℕ → Reader A}
    (exact : (base : BaseTree) (line : ℕ) → Exact Fits (Item base line) Ends (item base line))
    (before_comma : (t : Lexeme) (rest : List Lexeme) → IsMark mark.Comma t → Ends (t ∷ rest))
    (before_semicolon : (t : Lexeme) (rest : List Lexeme) → IsMark mark.Semicolon t → Ends (t ∷ rest))
    (no_int : (base : BaseTree) (line : ℕ) (ts rest : List Lexeme) (x : A) → Item base line ts x →
    NoInt (ts ++ rest)) where
  -- what a base at this line declares
  abbrev ItemsOf : ℕ → List A → BaseTree → Form (List A)
  ItemsOf line xs base = Before mark.Semicolon (λ x. x) (Adds (Separated (Item base line)) xs)

  items_no_int : (line : ℕ) (xs : List A) (base : BaseTree) (us : List Lexeme) (ys : List A) →
      ItemsOf line xs base us ys → (rest : List Lexeme) → Any rest → NoInt (us ++ rest)
  items_no_int line xs base _ _ (before {ts = ts} t p (adding g)) rest h =
      subst NoInt (sym (append_assoc ts (t ∷ []) rest)) (separated_prefix NoInt (no_int base line) g (t ∷ rest))

  lined_exact : (line : ℕ) (xs : List A) → Exact Fits (Then SpellsBase (ItemsOf line xs)) Any (λ ts.
      base_at ts >>= (λ x. before_mark mark.Semicolon (all_separated (adds (item x.0 line)) xs) x.1))
  lined_exact line xs = then_exact parts (fitting parts base_exact) (λ base.
      before_exact parts mark.Semicolon (λ x. x) (commas_exact parts (exact base line) before_comma xs)
      (λ t rest p. (before_semicolon t rest p, rw p))) (items_no_int line xs)

  lined_is : {line : ℕ} {xs ys : List A} {ts : List Lexeme} (rest : List Lexeme) → line ≡ first_line (ts ++ rest) →
      Then SpellsBase (ItemsOf line xs) ts ys → Adds (Declares Item) xs ts ys
  lined_is rest e (both {ts = ts} {us = us} {x = base} b (before {ts = vs} t p (adding {zs = zs} g))) =
      adding (declares t p b (subst (λ n. Separated (Item base n) vs zs)
      (e ∙ ap first_line (append_assoc ts us rest) ∙ (base_start b).line (us ++ rest)) g))

  pub declaration_exact : ExactAdder Fits (Declares Item) Any (declaration_at (λ base line. adds (item base line)))
  unfolding declaration_at
  declaration_exact xs = record {
    sound = λ ts rest ys h.
        let d = (lined_exact (first_line ts) xs).sound ts rest ys h in
        record { taken = d.taken; split = d.split; spelled = lined_is rest (ap first_line d.split) d.spelled };
    complete = complete;
  }
    where
      complete : Complete Fits (Adds (Declares Item) xs) Any (declaration_at (λ base line. adds (item base line)) xs)
      complete _ _ (adding (declares {ts = ts} {us = us} {base = base} {xs = zs} t p b g)) rest fits ends =
          let line = ap first_line (append_assoc ts (us ++ t ∷ []) rest) ∙ (base_start b).line _ in
          let items = adding (subst (λ n. Separated (Item base n) us zs) (sym line) g) in
          (lined_exact _ xs).complete _ _ (both b (before t p items)) rest fits tt

-- A declarator and a value after it, which make a tree.
pub data Valued {V T : Type 0} (Value : Form V) (tree : TypeTree → List ℕ → V → T) (base : BaseTree) :
    List Lexeme → T → Type 0 where
  valued : {ts us : List Lexeme} {ty : TypeTree} {name : List ℕ} {value : V} → SpellsDeclarator base ts ty name →
      Value us value → Valued Value tree base (ts ++ us) (tree ty name value)

pub valued_no_int : {V T : Type 0} {Value : Form V} {tree : TypeTree → List ℕ → V → T} {base : BaseTree}
    {ts : List Lexeme} {x : T} → Valued Value tree base ts x → (rest : List Lexeme) → NoInt (ts ++ rest)
valued_no_int (valued {ts = ts} {us = us} d v) rest = subst NoInt (sym (append_assoc ts us rest))
    (declarator_no_int d (us ++ rest))

pub valued_exact : {V T : Type 0} {Fits Ends : Property} {Value : Form V} {reader : Reader V} → Hereditary Fits →
    (tree : TypeTree → List ℕ → V → T) → Exact Fits Value Ends reader →
    ((ts : List Lexeme) (x : V) → Value ts x → (rest : List Lexeme) → NoBracket rest → NoBracket (ts ++ rest)) →
    (base : BaseTree) → Exact Fits (Valued Value tree base) (λ rest. NoBracket rest × Ends rest) (λ ts.
    declarator_at ts >>= (λ x. reader x.1 >>= (λ y. Some (tree (type_of base x.0) x.0.name y.0, y.1))))
valued_exact {V} {T} {Fits} {Ends} {Value} {reader} parts tree exact no_bracket base = record {
  sound = λ ts rest x h.
      let b = bound _ _ _ h in
      let c = bound _ _ _ b.2 in
      let d = declarator_sound ts b.0.1 b.0.0 b.1 in
      let v = exact.sound b.0.1 c.0.1 c.0.0 c.1 in
      took (d.taken ++ v.taken) c.2 (glued c.0.1 d.taken v.taken d.split v.split) (valued (d.spelled base) v.spelled);
  complete = complete;
}
  where
    read : Reader T
    read ts = declarator_at ts >>= (λ x. reader x.1 >>= (λ y. Some (tree (type_of base x.0) x.0.name y.0, y.1)))

    complete : Complete Fits (Valued Value tree base) (λ rest. NoBracket rest × Ends rest) read
    complete _ _ (valued {ts = ts} {us = us} d v) rest fits ends =
        let r = declarator_complete d (us ++ rest) (no_bracket us _ v rest ends.0) in
        ap read (append_assoc ts us rest) ∙
        rw (r.is, exact.complete us _ v rest (parts.right ts us fits) ends.1, r.ty_is, r.name_is)

member_complete : (base : BaseTree) (line : ℕ) → Complete Any (IsMember base line) NoBracket (member_at base)
unfolding member_at
member_complete base line ts x d rest fits h =
    let r = declarator_complete d rest h in rw (r.is, r.ty_is, r.name_is)

member_exact : (base : BaseTree) (line : ℕ) → Exact Any (IsMember base line) NoBracket (member_at base)
unfolding member_at
member_exact base line = record {
  sound = λ ts rest x h.
      let b = bound _ _ _ h in
      let d = declarator_sound ts b.0.1 b.0.0 b.1 in
      took d.taken b.2 d.split (d.spelled base);
  complete = member_complete base line;
}

-- a declaration of members
pub member_line_exact : ExactAdder Any (Declares IsMember) Any (declaration_at add_member)
member_line_exact = declaration_exact any member_exact (λ t rest p. rw p) (λ t rest p. rw p)
    (λ base line ts rest x d. declarator_no_int d rest)

pub separated_some : {A : Type 0} {Item : List Lexeme → A → Type 0} {ts : List Lexeme} {xs : List A} →
    Separated Item ts xs → 0 < length xs
separated_some (lists.one d) = omega arith
separated_some (more t p d g) = omega arith

module _ {A : Type 0} (Item : BaseTree → ℕ → Form A) where
  pub declares_starts : {ts : List Lexeme} {xs : List A} (d : Declares Item ts xs) (rest : List Lexeme) →
      begins_with mark.CloseCurly (ts ++ rest) ≡ false
  declares_starts (declares {ts = ts} {us = us} t p d g) rest =
      ap (begins_with mark.CloseCurly) (append_assoc ts _ rest) ∙ (base_start d).no_end ((us ++ t ∷ []) ++ rest)

  pub declares_some : {ts : List Lexeme} {xs : List A} (d : Declares Item ts xs) → 0 < length ts
  declares_some (declares {ts = ts} {us = us} t p d g) = omega
      (arith, (base_start d).some, length-append ts (us ++ t ∷ []))

  pub declares_many : {ts : List Lexeme} {xs : List A} (d : Declares Item ts xs) → 0 < length xs
  declares_many (declares t p d g) = separated_some g

lines_exact : ExactAdder Any (Grouped (Declares IsMember)) (λ rest. begins_with mark.CloseCurly rest ≡ true)
    (λ xs ts. grouped (begins_with mark.CloseCurly) (declaration_at add_member) (length ts + 1) xs ts)
lines_exact = grouped_exact any _ member_line_exact (λ us rest zs d. declares_starts IsMember d rest)
    (λ us zs d. declares_some IsMember d) (λ rest h. tt) (λ us rest zs d. tt)

-- Members in lines, of which there is one at least.
abbrev IsMembers : Form (List MemberTree)
IsMembers ts members = Grouped (Declares IsMember) ts members × (0 < length members)

pub non_empty_some : {A : Type 0} (xs ys : List A) → non_empty xs ≡ Some ys → (xs ≡ ys) × (0 < length xs)
non_empty_some [] ys h = absurd (none-some ys h)
non_empty_some (x ∷ xs) ys h = (same_some h, omega arith)

pub non_empty_is : {A : Type 0} (xs : List A) → 0 < length xs → non_empty xs ≡ Some xs
non_empty_is [] h = absurd (omega arith)
non_empty_is (x ∷ xs) h = refl

members_exact : Exact Any IsMembers (λ rest. begins_with mark.CloseCurly rest ≡ true) members_at
unfolding members_at
members_exact = record {
  sound = λ ts rest x h.
      let b = bound _ _ _ h in
      let c = bound _ _ _ b.2 in
      let d = (from_none lines_exact).sound ts b.0.1 b.0.0 b.1 in
      let n = non_empty_some b.0.0 c.0 c.1 in
      took d.taken c.2 d.split (subst (IsMembers d.taken) n.0 (d.spelled, n.1));
  complete = λ ts x d rest fits h. rw ((from_none lines_exact).complete ts x d.0 rest tt h, non_empty_is x d.1);
}

-- what follows `struct` in a line
abbrev Tail : ℕ → Form StructTree
Tail line = Then IsName (λ tag. Before mark.Semicolon (λ members. struct_tree tag members line)
    (Between mark.OpenCurly mark.CloseCurly IsMembers))

tail_exact : (line : ℕ) → Exact Any (Tail line) Any (λ ts. name_at ts >>= (λ x. members_in_braces x.1 >>=
    (λ y. ended_by mark.Semicolon (struct_tree x.0 y.0 line) y.1)))
tail_exact line = then_exact any name_exact (λ tag. before_exact any mark.Semicolon (λ members. struct_tree tag members
    line) (between_exact any mark.OpenCurly mark.CloseCurly members_exact (λ t rest p. rw p)) (λ t rest p. tt))
    (λ x us y d rest h. tt)

struct_is : {line : ℕ} {ts : List Lexeme} {x : StructTree} (rest : List Lexeme) → line ≡ first_line (ts ++ rest) →
    AfterWord word.Struct (Tail line) ts x → SpellsStruct ts x
struct_is rest e (after_word t k (both (a_name u tag q)
    (before y l (after_mark v r (before w s (next {ts = ts} {us = us} {xs = xs} {ys = ys} d g, some)))))) =
    subst₂ (λ n z. SpellsStruct (t ∷ u ∷ v ∷ z) (struct_tree tag (xs ++ ys) n)) (sym e)
    (sym (append_assoc (ts ++ us) _ _ ∙ append_assoc ts us _)) (struct t u v w y tag k q r s l d g)
struct_is rest e (after_word t k (both (a_name u tag q) (before y l (after_mark v r (before w s (none, some)))))) =
    absurd (omega arith)

pub struct_sound : (ts rest : List Lexeme) (x : StructTree) → keyword_at ts ≡ Some word.Struct →
    struct_at ts ≡ Some (x, rest) → Taken SpellsStruct ts x rest
unfolding struct_at
struct_sound ts rest x q h =
    let d = word_taken ts q ((tail_exact (first_line ts)).sound (drop 1 ts) rest x h) in
    record { taken = d.taken; split = d.split; spelled = struct_is rest (ap first_line d.split) d.spelled }

pub struct_complete : {ts : List Lexeme} {x : StructTree} (d : SpellsStruct ts x) (rest : List Lexeme) →
    struct_at (ts ++ rest) ≡ Some (x, rest)
unfolding struct_at
struct_complete (struct {ts = ts} {us = us} {members = members} {others = others} t u v w y tag p q r k l d g) rest =
    let some : 0 < length (members ++ others) =
    omega (arith, declares_many IsMember d, length-append members others) in
    ap (λ z. struct_at (t ∷ u ∷ v ∷ (z ++ rest))) (sym (append_assoc (ts ++ us) _ _ ∙ append_assoc ts us _)) ∙
    (tail_exact t.line).complete _ _ (both (a_name u tag q) (before y l (after_mark v r (before w k (next d g, some)))))
    rest
    tt tt

-- an integer, with or without a sign
literal_sound : (negative : Bool) (ts rest : List Lexeme) (x : ConstTree) → literal_at negative ts ≡ Some (x, rest) →
    (t : Lexeme) × (number : Number) × (ts ≡ t ∷ rest) × IsInteger number t × (x ≡ const_tree negative number)
literal_sound negative [] rest x h = absurd (none-some _ h)
literal_sound negative (t ∷ ts) rest x h =
    let b = bound _ _ _ h in
    let same = same_pair b.2 in
    (t, b.0, ap (λ l. t ∷ l) same.1, integer_is _ b.0 b.1, sym same.0)

const_sound : Sound SpellsConst const_at
unfolding const_at
const_sound ts rest x h = given _ _ _ h (λ q e.
    let l = literal_sound false ts rest x e in
    record {
      taken = l.0 ∷ [];
      split = l.2;
      spelled = subst (SpellsConst (l.0 ∷ [])) (sym l.4) (plain l.0 l.1 l.3);
    }) (λ us q e.
    let t = first_mark mark.Minus ts us q in
    let l = literal_sound true us rest x e in
    record {
      taken = t.0 ∷ l.0 ∷ [];
      split = t.1 ∙ ap (λ r. t.0 ∷ r) l.2;
      spelled = subst (SpellsConst (t.0 ∷ l.0 ∷ [])) (sym l.4) (negated t.0 l.0 l.1 t.2 l.3);
    })

const_complete : Complete Any SpellsConst Any const_at
unfolding const_at
const_complete _ _ (plain t number p) rest fits h = rw p
const_complete _ _ (negated t u number p q) rest fits h = rw (p, q)

pub const_exact : Exact Any SpellsConst Any const_at
const_exact = record { sound = const_sound; complete = const_complete }

const_starts : {ts : List Lexeme} {x : ConstTree} (d : SpellsConst ts x) (rest : List Lexeme) →
    begins_with mark.CloseCurly (ts ++ rest) ≡ false
const_starts (plain t number p) rest = rw p
const_starts (negated t u number p q) rest = rw p

inner_ahead : (us vs : List Lexeme) → after_inner_comma us ≡ Some vs →
    (t : Lexeme) × (us ≡ t ∷ vs) × IsMark mark.Comma t
inner_ahead [] vs h = absurd (none-some vs h)
inner_ahead (t ∷ ts) vs h = chosen _ _ _ h (λ q e. absurd (none-some vs e)) (λ q e. first_mark _ _ vs e)

consts_starts : {ts : List Lexeme} {xs : List ConstTree} (d : Separated SpellsConst ts xs) (rest : List Lexeme) →
    begins_with mark.CloseCurly (ts ++ rest) ≡ false
consts_starts (lists.one d) rest = const_starts d rest
consts_starts (more {ts = ts} {us = us} t p d g) rest =
    ap (begins_with mark.CloseCurly) (append_assoc ts _ rest) ∙ const_starts d (t ∷ us ++ rest)

pub all_consts_exact : ExactAdder Any (Separated SpellsConst) (λ rest. Any rest × (after_inner_comma rest ≡ None))
    (λ xs ts. separated after_inner_comma (adds const_at) (length ts + 1) xs ts)
all_consts_exact = separated_exact any _ inner_ahead const_exact (λ t rest p. tt)
    (λ t us rest zs p d. rw (consts_starts d rest, p))

-- A comma that may stand there.
data IsComma : List Lexeme → Type 0 where
  no_comma : IsComma []
  a_comma : (t : Lexeme) → IsMark mark.Comma t → IsComma (t ∷ [])

comma_taken : (us : List Lexeme) → Taken (λ taken x. IsComma taken) us (tt {0}) (past_comma us)
comma_taken us = given (λ rest. rest) (following mark.Comma us) us refl
    (λ q e. record { taken = []; split = e; spelled = no_comma }) (λ vs q e.
    let t = first_mark mark.Comma us vs q in
    record { taken = t.0 ∷ []; split = t.1 ∙ ap (λ l. t.0 ∷ l) e; spelled = a_comma t.0 t.2 })

-- Constants after `{`, up to the `}`.
data IsListed : List Lexeme → InitTree → Type 0 where
  bare : {ts : List Lexeme} {values : List ConstTree} (v : Lexeme) → IsMark mark.CloseCurly v →
      Separated SpellsConst ts values → IsListed (ts ++ v ∷ []) (init.Many values)
  with_comma : {ts : List Lexeme} {values : List ConstTree} (t v : Lexeme) → IsMark mark.Comma t →
      IsMark mark.CloseCurly v → Separated SpellsConst ts values → IsListed (ts ++ t ∷ v ∷ []) (init.Many values)

listed : {ts us : List Lexeme} {values : List ConstTree} (d : Separated SpellsConst ts values) (k : IsComma us)
    (v : Lexeme) → IsMark mark.CloseCurly v → IsListed (ts ++ (us ++ v ∷ [])) (init.Many values)
listed d no_comma v p = bare v p d
listed d (a_comma t q) v p = with_comma t v q p d

consts_sound : Sound IsListed consts_at
unfolding consts_at
consts_sound ts rest x h =
    let b = bound _ _ _ h in
    let c = bound _ _ _ b.2 in
    let n = bound _ _ _ c.2 in
    let l = (from_none all_consts_exact).sound ts b.0.1 b.0.0 b.1 in
    let k = comma_taken b.0.1 in
    let v = first_mark mark.CloseCurly (past_comma b.0.1) c.0 c.1 in
    took (l.taken ++ (k.taken ++ v.0 ∷ [])) n.2
    (glued c.0 l.taken (k.taken ++ v.0 ∷ []) l.split (glued c.0 k.taken (v.0 ∷ []) k.split v.1))
    (listed (subst (Separated SpellsConst l.taken) (non_empty_some b.0.0 n.0 n.1).0 l.spelled) k.spelled v.0 v.2)

consts_complete : Complete Any IsListed Any consts_at
unfolding consts_at
consts_complete _ _ (bare {ts = ts} {values = values} v p d) rest fits h =
    let closed : after_inner_comma (v ∷ rest) ≡ None =
    cond_both (begins_with mark.CloseCurly rest) _ _ (λ o. o ≡ None) (λ q. refl) (λ q. rw p) in
    let all = (from_none all_consts_exact).complete ts values d (v ∷ rest) tt (tt, closed) in
    ap consts_at (append_assoc ts (v ∷ []) rest) ∙ rw (all, p, non_empty_is values (separated_some d))
consts_complete _ _ (with_comma {ts = ts} {values = values} t v q p d) rest fits h =
    let all = (from_none all_consts_exact).complete ts values d (t ∷ v ∷ rest) tt (tt, rw p) in
    ap consts_at (append_assoc ts (t ∷ v ∷ []) rest) ∙ rw (all, q, p, non_empty_is values (separated_some d))

in_braces : {ts : List Lexeme} {x : InitTree} (t u : Lexeme) → IsMark mark.Equal t → IsMark mark.OpenCurly u →
    IsListed ts x → SpellsInit (t ∷ u ∷ ts) x
in_braces t u p q (bare v r d) = many t u v p q r d
in_braces t u p q (with_comma w v k r d) = many_comma t u w v p q k r d

init_sound : Sound SpellsInit init_at
unfolding init_at initialiser_at
init_sound ts rest x h = given _ _ _ h (λ q e. took [] e refl absent) (λ us q e.
    let t = first_mark mark.Equal ts us q in
    given _ _ _ e (λ q e.
    let b = bound (λ x. Some (init.One x.0, x.1)) (const_at us) (x, rest) e in
    let c = const_exact.sound us b.0.1 b.0.0 b.1 in
    took (t.0 ∷ c.taken) b.2 (t.1 ∙ ap (λ l. t.0 ∷ l) c.split) (one t.0 t.2 c.spelled)) (λ vs q e.
    let u = first_mark mark.OpenCurly us vs q in
    let c = consts_sound vs rest x e in
    record {
      taken = t.0 ∷ u.0 ∷ c.taken;
      split = t.1 ∙ ap (λ l. t.0 ∷ l) (u.1 ∙ ap (λ l. u.0 ∷ l) c.split);
      spelled = in_braces t.0 u.0 t.2 u.2 c.spelled;
    }))

abbrev NoEqual : Property
NoEqual rest = following mark.Equal rest ≡ None

const_no_brace : {ts : List Lexeme} {x : ConstTree} (d : SpellsConst ts x) (rest : List Lexeme) →
    following mark.OpenCurly (ts ++ rest) ≡ None
const_no_brace (plain t number p) rest = rw p
const_no_brace (negated t u number p q) rest = rw p

init_complete : Complete Any SpellsInit NoEqual init_at
unfolding init_at initialiser_at
init_complete _ _ absent rest fits h = rw h
init_complete _ _ (one t p d) rest fits h = rw (p, const_no_brace d rest, const_exact.complete _ _ d rest tt tt)
init_complete _ _ (many t u v p q r d) rest fits h = rw (p, q, consts_complete _ _ (bare v r d) rest tt tt)
init_complete _ _ (many_comma t u v w p q r k d) rest fits h =
    rw (p, q, consts_complete _ _ (with_comma v w r k d) rest tt tt)

init_no_bracket : (ts : List Lexeme) (x : InitTree) → SpellsInit ts x → (rest : List Lexeme) → NoBracket rest →
    NoBracket (ts ++ rest)
init_no_bracket _ _ absent rest h = h
init_no_bracket _ _ (one t p d) rest h = rw p
init_no_bracket _ _ (many t u v p q r d) rest h = rw p
init_no_bracket _ _ (many_comma t u v w p q r k d) rest h = rw p

-- a global as a declaration
abbrev pub IsGlobalDecl : BaseTree → ℕ → Form Decl
IsGlobalDecl base line =
    Valued SpellsInit (λ ty name value. decl.Global (record { ty = ty; name = name; init = value; line = line })) base

global_exact : (base : BaseTree) (line : ℕ) → Exact Any (IsGlobalDecl base line)
    (λ rest. NoBracket rest × NoEqual rest) (global_at base line)
unfolding global_at
global_exact base line =
    valued_exact any _ (record { sound = init_sound; complete = init_complete }) init_no_bracket base

-- a declaration of globals
pub globals_exact : ExactAdder Any (Declares IsGlobalDecl) Any (declaration_at add_global)
globals_exact = declaration_exact any global_exact (λ t rest p. (rw p, rw p)) (λ t rest p. (rw p, rw p))
    (λ base line ts rest x d. valued_no_int d rest)
