-- Readers that read exactly what is spelled, of single items and of lists.
use Rattle.sc_parse.proofs.Common.{Adder, Bool, Grouped, IsIdent, IsKeyword, IsMark, Keyword, Lexeme, List, Mark, None}
use Rattle.sc_parse.proofs.Common.{Option, Reader, Separated, Some, [], adds, all_separated, ap, append-nil}
use Rattle.sc_parse.proofs.Common.{append_assoc, arith, before_mark, bound, cond, drop, ended_by, false, first_mark}
use Rattle.sc_parse.proofs.Common.{following, glued, grouped, highest, is_mark, keyword_at, length}
use Rattle.sc_parse.proofs.Common.{length-append, map, max, more, name_ahead, name_at, next, none, none-some, one}
use Rattle.sc_parse.proofs.Common.{option_map_or, refl, separated, subst, suc, sym, true, zero, ℕ, ◌++◌, ◌+◌}
use Rattle.sc_parse.proofs.Common.{◌<◌, ◌>>=◌, ◌∙◌, ◌∷◌, ◌≡◌, ◌≤◌}
use Rattle.sc_parse_expr.specs.declared.mark.Mark.TheVariants as mark
use Rattle.sc_parse_expr.specs.declared.lexeme.Symbol.TheVariants as symbol
use Rattle.sc_parse_expr.specs.contracts.mark.Mark.{the_type}
use denote.Enum.Bare.{true_same}
pub use Rattle.sc_parse_expr.proofs.Taken.{Any, Complete, Exact, Form, Property, Sound, Taken, Word, same_pair, took}
pub use Rattle.sc_parse_expr.proofs.Taken.{word_ahead}

-- What has one form has the other.
abbrev pub Turns : {A : Type 0} → Form A → Form A → Type 0
Turns {A} Item Other = (ts : List Lexeme) (x : A) → Item ts x → Other ts x

-- What fits as a whole fits in parts.
pub record Hereditary (Fits : Property) : Type 0 where
  pub left : (ts us : List Lexeme) → Fits (ts ++ us) → Fits ts
  pub right : (ts us : List Lexeme) → Fits (ts ++ us) → Fits us

pub any : Hereditary Any
any = record { left = λ ts us h. tt; right = λ ts us h. tt }

-- what a test chose
pub chosen : {A P : Type 0} (b : Bool) (u v : A) {w : A} → cond b u v ≡ w → (b ≡ true → u ≡ w → P) →
    (b ≡ false → v ≡ w → P) → P
chosen true u v h first second = first refl h
chosen false u v h first second = second refl h

-- whether something is there
pub given : {A B P : Type 0} (f : A → B) (o : Option A) (other : B) {w : B} → option_map_or f o other ≡ w →
    (o ≡ None → other ≡ w → P) → ((x : A) → o ≡ Some x → f x ≡ w → P) → P
given f None other h without with = without refl h
given f (Some x) other h without with = with x refl h

-- What is spelled so and at most `room` high.
abbrev pub Low : {A : Type 0} → Form A → (A → ℕ) → ℕ → Form A
Low Item height room ts x = Item ts x × (height x ≤ room)

-- the same lexemes as another form
pub as_form : {A : Type 0} {Item Other : Form A} {ts rest : List Lexeme} {x : A} →
    Turns Item Other → Taken Item ts x rest → Taken Other ts x rest
as_form turn t = record { taken = t.taken; split = t.split; spelled = turn _ _ t.spelled }

-- What is read, made into something else.
pub data Made {A B : Type 0} (f : A → B) (Item : Form A) : List Lexeme → B → Type 0 where
  made : {ts : List Lexeme} {x : A} → Item ts x → Made f Item ts (f x)

-- What follows a mark, with the mark.
pub data AfterMark {A : Type 0} (m : Mark) (Item : Form A) : List Lexeme → A → Type 0 where
  after_mark : {ts : List Lexeme} {x : A} (t : Lexeme) → IsMark m t → Item ts x → AfterMark m Item (t ∷ ts) x

-- What stands before a mark, with the mark, made into something else.
pub data Before {A B : Type 0} (m : Mark) (f : A → B) (Item : Form A) : List Lexeme → B → Type 0 where
  before : {ts : List Lexeme} {x : A} (t : Lexeme) → IsMark m t → Item ts x → Before m f Item (ts ++ t ∷ []) (f x)

-- What stands between two marks, with the marks.
abbrev pub Between : {A : Type 0} → Mark → Mark → Form A → Form A
Between opens closes Item = AfterMark opens (Before closes (λ x. x) Item)

-- What follows a word, with the word.
pub data AfterWord {A : Type 0} (word : Keyword) (Item : Form A) : List Lexeme → A → Type 0 where
  after_word : {ts : List Lexeme} {x : A} (t : Lexeme) → IsKeyword word t → Item ts x → AfterWord word Item (t ∷ ts) x

-- One form, then another, which the value of the first chooses.
pub data Then {A B : Type 0} (Item : Form A) (Next : A → Form B) : List Lexeme → B → Type 0 where
  both : {ts us : List Lexeme} {x : A} {y : B} → Item ts x → Next x us y → Then Item Next (ts ++ us) y

-- A name as a form.
pub data IsName : List Lexeme → List ℕ → Type 0 where
  a_name : (t : Lexeme) (name : List ℕ) → IsIdent name t → IsName (t ∷ []) name

pub name_exact : {Fits : Property} → Exact Fits IsName Any name_at
name_exact {Fits} = record {
  sound = λ ts rest x h.
      let t = name_ahead ts rest x h in
      record { taken = t.0 ∷ []; split = t.1; spelled = a_name t.0 x t.2 };
  complete = name_reads;
}
  where
    name_reads : Complete Fits IsName Any name_at
    name_reads _ _ (a_name t name p) rest fits ends = rw p

pub made_exact : {A B : Type 0} {Fits Ends : Property} {Item : Form A} {reader : Reader A} (f : A → B) →
    Exact Fits Item Ends reader → Exact Fits (Made f Item) Ends (λ ts. reader ts >>= (λ x. Some (f x.0, x.1)))
made_exact {A} {B} {Fits} {Ends} {Item} {reader} f exact = record { sound = sound; complete = complete }
  where
    sound : Sound (Made f Item) (λ ts. reader ts >>= (λ x. Some (f x.0, x.1)))
    sound ts rest y h =
        let b = bound _ _ _ h in
        let d = exact.sound ts b.0.1 b.0.0 b.1 in
        took d.taken b.2 d.split (made d.spelled)

    complete : Complete Fits (Made f Item) Ends (λ ts. reader ts >>= (λ x. Some (f x.0, x.1)))
    complete _ _ (made d) rest fits ends = rw (exact.complete _ _ d rest fits ends)

-- A reader of one form as that of another.
pub formed_exact : {A : Type 0} {Fits Ends Earlier : Property} {Item Other : Form A} {reader : Reader A} →
    Exact Fits Item Ends reader → Turns Item Other → Turns Other Item →
    ((rest : List Lexeme) → Earlier rest → Ends rest) → Exact Fits Other Earlier reader
formed_exact exact make apart ends = record {
  sound = λ ts rest x h. as_form make (exact.sound ts rest x h);
  complete = λ ts x d rest fits earlier. exact.complete ts x (apart ts x d) rest fits (ends rest earlier);
}

pub made_of : {A B : Type 0} {f : A → B} {Item : Form A} (Other : Form B) →
    ((ts : List Lexeme) (x : A) → Item ts x → Other ts (f x)) → Turns (Made f Item) Other
made_of Other make _ _ (made d) = make _ _ d

-- what was read after a lexeme, with it
pub first_taken : {A : Type 0} {Item Other : Form A} {ts us rest : List Lexeme} {x : A} (t : Lexeme) → ts ≡ t ∷ us →
    Taken Item us x rest → ((vs : List Lexeme) → Item vs x → Other (t ∷ vs) x) → Taken Other ts x rest
first_taken t is d make =
    record { taken = t ∷ d.taken; split = is ∙ ap (λ l. t ∷ l) d.split; spelled = make d.taken d.spelled }

pub word_taken : {A : Type 0} {Item : Form A} (ts : List Lexeme) {rest : List Lexeme} {x : A} {word : Keyword} →
    keyword_at ts ≡ Some word → Taken Item (drop 1 ts) x rest → Taken (AfterWord word Item) ts x rest
word_taken ts {word = word} h d = let t = word_ahead ts word h in
    first_taken t.first t.is d (λ vs d. after_word t.first t.keyword d)

mark_same : (m : Mark) → is_mark m (symbol.Mark m) ≡ true
mark_same m = true_same the_type m m refl

module _ {Fits : Property} (parts : Hereditary Fits) where
  pub fits_after : (t : Lexeme) (ts : List Lexeme) → Fits (t ∷ ts) → Fits ts
  fits_after t ts h = parts.right (t ∷ []) ts h

  pub then_exact : {A B : Type 0} {Item : Form A} {Next : A → Form B} {Ends Last : Property} {reader : Reader A}
      {next : A → Reader B} → Exact Fits Item Ends reader → ((x : A) → Exact Fits (Next x) Last (next x)) →
      ((x : A) (us : List Lexeme) (y : B) → Next x us y → (rest : List Lexeme) → Last rest → Ends (us ++ rest)) →
      Exact Fits (Then Item Next) Last (λ ts. reader ts >>= (λ x. next x.0 x.1))
  then_exact {A} {B} {Item} {Next} {Ends} {Last} {reader} {next} first second meets = record {
    sound = λ ts rest y h.
        let b = bound _ _ _ h in
        let d = first.sound ts b.0.1 b.0.0 b.1 in
        let e = (second b.0.0).sound b.0.1 rest y b.2 in
        record {
          taken = d.taken ++ e.taken;
          split = glued rest d.taken e.taken d.split e.split;
          spelled = both d.spelled e.spelled;
        };
    complete = complete;
  }
    where
      complete : Complete Fits (Then Item Next) Last (λ ts. reader ts >>= (λ x. next x.0 x.1))
      complete _ _ (both {ts = ts} {us = us} {x = x} d e) rest fits ends =
          ap (λ l. reader l >>= (λ x. next x.0 x.1)) (append_assoc ts us rest) ∙
          rw (first.complete _ _ d (us ++ rest) (parts.left ts us fits) (meets x us _ e rest ends))
          ((second x).complete _ _ e rest (parts.right ts us fits) ends)

  pub after_exact : {A : Type 0} {Item : Form A} {Ends : Property} {reader : Reader A} (m : Mark) →
      Exact Fits Item Ends reader → Exact Fits (AfterMark m Item) Ends (λ ts. following m ts >>= reader)
  after_exact {A} {Item} {Ends} {reader} m exact = record {
    sound = λ ts rest x h.
        let b = bound _ _ _ h in
        let t = first_mark m ts b.0 b.1 in
        first_taken t.0 t.1 (exact.sound b.0 rest x b.2) (λ vs d. after_mark t.0 t.2 d);
    complete = complete;
  }
    where
      complete : Complete Fits (AfterMark m Item) Ends (λ ts. following m ts >>= reader)
      complete _ _ (after_mark {ts = ts} t p d) rest fits ends =
          rw (p, mark_same m) (exact.complete ts _ d rest (fits_after t ts fits) ends)

  pub before_exact : {A B : Type 0} {Item : Form A} {Ends : Property} {reader : Reader A} (m : Mark) (f : A → B) →
      Exact Fits Item Ends reader → ((t : Lexeme) (rest : List Lexeme) → IsMark m t → Ends (t ∷ rest)) →
      Exact Fits (Before m f Item) Any (λ ts. reader ts >>= (λ x. ended_by m (f x.0) x.1))
  before_exact {A} {B} {Item} {Ends} {reader} m f exact meets = record {
    sound = λ ts rest x h.
        let b = bound _ _ _ h in
        let c = bound _ _ _ b.2 in
        let d = exact.sound ts b.0.1 b.0.0 b.1 in
        let t = first_mark m b.0.1 c.0 c.1 in
        took (d.taken ++ t.0 ∷ []) c.2 (glued c.0 d.taken (t.0 ∷ []) d.split t.1) (before t.0 t.2 d.spelled);
    complete = complete;
  }
    where
      complete : Complete Fits (Before m f Item) Any (λ ts. reader ts >>= (λ x. ended_by m (f x.0) x.1))
      complete _ _ (before {ts = ts} t p d) rest fits ends =
          ap (λ l. reader l >>= (λ x. ended_by m (f x.0) x.1)) (append_assoc ts (t ∷ []) rest) ∙
          rw (exact.complete ts _ d (t ∷ rest) (parts.left ts (t ∷ []) fits) (meets t rest p), p, mark_same m)

  pub between_exact : {A : Type 0} {Item : Form A} {Ends : Property} {reader : Reader A} (opens closes : Mark) →
      Exact Fits Item Ends reader → ((t : Lexeme) (rest : List Lexeme) → IsMark closes t → Ends (t ∷ rest)) →
      Exact Fits (Between opens closes Item) Any (λ ts. following opens ts >>= before_mark closes reader)
  between_exact opens closes exact meets = after_exact opens (before_exact closes (λ x. x) exact meets)

  -- what all lexemes fit, these fit
  pub fitting : {A : Type 0} {Item : Form A} {Ends : Property} {reader : Reader A} → Exact Any Item Ends reader →
      Exact Fits Item Ends reader
  fitting exact = record {
    sound = exact.sound;
    complete = λ ts x d rest fits ends. exact.complete ts x d rest tt ends;
  }

-- What is read at the start is added to a list.
pub data Adds {A : Type 0} (Group : Form (List A)) (xs : List A) : List Lexeme → List A → Type 0 where
  adding : {ts : List Lexeme} {zs : List A} → Group ts zs → Adds Group xs ts (xs ++ zs)

abbrev pub ExactAdder : {A : Type 0} → Property → Form (List A) → Property → Adder A → Type 0
ExactAdder {A} Fits Group Ends adder = (xs : List A) → Exact Fits (Adds Group xs) Ends (adder xs)

-- what is added to nothing is read
pub from_none : {A : Type 0} {Fits Ends : Property} {Group : Form (List A)} {adder : Adder A} →
    ExactAdder Fits Group Ends adder → Exact Fits Group Ends (adder [])
from_none {Group = Group} e = formed_exact (e []) added (λ ts x d. adding d) (λ rest h. h)
  where
    added : Turns (Adds Group []) Group
    added _ _ (adding d) = d

-- One item of a list.
pub data One {A : Type 0} (Item : Form A) : List Lexeme → List A → Type 0 where
  single : {ts : List Lexeme} {x : A} → Item ts x → One Item ts (x ∷ [])

pub adds_exact : {A : Type 0} {Fits Ends : Property} {Item : Form A} {reader : Reader A} → Exact Fits Item Ends reader →
    ExactAdder Fits (One Item) Ends (adds reader)
unfolding adds
adds_exact {A} {Item = Item} exact xs = formed_exact (made_exact (λ x. xs ++ x ∷ []) exact) added apart (λ rest h. h)
  where
    added : Turns (Made (λ x. xs ++ x ∷ []) Item) (Adds (One Item) xs)
    added _ _ (made d) = adding (single d)

    apart : Turns (Adds (One Item) xs) (Made (λ x. xs ++ x ∷ []) Item)
    apart _ _ (adding (single d)) = made d

module _ {A : Type 0} {Fits : Property} (parts : Hereditary Fits) where
  module _ (comma : List Lexeme → Option (List Lexeme))
      (comma_ahead : (us vs : List Lexeme) → comma us ≡ Some vs → (t : Lexeme) × (us ≡ t ∷ vs) × IsMark mark.Comma t)
      {Item : Form A} {Ends : Property} {reader : Reader A} (exact : Exact Fits Item Ends reader) where
    first_item : {xs ys : List A} {ts : List Lexeme} → Adds (One Item) xs ts ys → Adds (Separated Item) xs ts ys
    first_item (adding (single d)) = adding (one d)

    next_item : {xs ys zs : List A} {ts us : List Lexeme} (t : Lexeme) → IsMark mark.Comma t →
        Adds (One Item) xs ts ys → Adds (Separated Item) ys us zs → Adds (Separated Item) xs (ts ++ t ∷ us) zs
    next_item {xs = xs} {ts = ts} {us = us} t p (adding (single {x = x} d)) (adding {zs = zs} g) =
        subst (Adds (Separated Item) xs (ts ++ t ∷ us)) (sym (append_assoc xs (x ∷ []) zs)) (adding (more t p d g))

    separated_sound : (turns : ℕ) (xs : List A) →
        Sound (Adds (Separated Item) xs) (separated comma (adds reader) turns xs)
    unfolding separated
    separated_sound zero xs ts rest ys h = absurd (none-some _ h)
    separated_sound (suc turns) xs ts rest ys h =
        let b = bound (λ x. option_map_or (λ rest. separated comma (adds reader) turns x.0 rest) (comma x.1) (Some x))
        (adds reader xs ts) (ys, rest) h in
        let d = (adds_exact exact xs).sound ts b.0.1 b.0.0 b.1 in
        given _ _ _ b.2 (λ q e. took d.taken e d.split (first_item d.spelled)) (λ vs q e.
        let c = comma_ahead b.0.1 vs q in
        let l = separated_sound turns b.0.0 vs rest ys e in
        record {
          taken = d.taken ++ c.0 ∷ l.taken;
          split = glued rest d.taken (c.0 ∷ l.taken) d.split (c.1 ∙ ap (λ r. c.0 ∷ r) l.split);
          spelled = next_item c.0 c.2 d.spelled l.spelled;
        })

    separated_short : {ts : List Lexeme} {zs : List A} → Separated Item ts zs → length zs ≤ length ts + 1
    separated_short (one d) = omega arith
    separated_short (more {ts = ts} {us = us} t p d g) = omega (arith, separated_short g, length-append ts (t ∷ us))

    module _ (before_comma : (t : Lexeme) (rest : List Lexeme) → IsMark mark.Comma t → Ends (t ∷ rest))
        (goes_on : (t : Lexeme) (us rest : List Lexeme) (zs : List A) → IsMark mark.Comma t → Separated Item us zs →
        comma (t ∷ (us ++ rest)) ≡ Some (us ++ rest)) where
      separated_reads : {ts : List Lexeme} {zs : List A} (d : Separated Item ts zs) (turns : ℕ) (xs : List A)
          (rest : List Lexeme) → length zs ≤ turns → Fits ts → Ends rest → comma rest ≡ None →
          separated comma (adds reader) turns xs (ts ++ rest) ≡ Some (xs ++ zs, rest)
      unfolding separated
      separated_reads (one d) zero xs rest h fits ends stop = absurd (omega arith)
      separated_reads (one {ts = ts} {x = x} d) (suc turns) xs rest h fits ends stop =
          rw ((adds_exact exact xs).complete ts _ (adding (single d)) rest fits ends, stop)
      separated_reads (more t p d g) zero xs rest h fits ends stop = absurd (omega arith)
      separated_reads (more {ts = ts} {us = us} {x = x} {xs = zs} t p d g) (suc turns) xs rest h fits ends stop =
          let first = (adds_exact exact xs).complete ts _ (adding (single d)) (t ∷ (us ++ rest)) (parts.left ts _ fits)
          (before_comma t (us ++ rest) p) in
          let others = separated_reads g turns (xs ++ x ∷ []) rest (omega arith)
          (fits_after parts t us (parts.right ts _ fits)) ends stop in
          ap (λ l. separated comma (adds reader) (suc turns) xs l) (append_assoc ts _ rest)
          ∙ rw (first, goes_on t us rest zs p g) (others ∙ ap (λ l. Some (l, rest)) (append_assoc xs _ zs))

      -- all that stands between the items is commas
      pub separated_exact : ExactAdder Fits (Separated Item) (λ rest. Ends rest × (comma rest ≡ None))
          (λ xs ts. separated comma (adds reader) (length ts + 1) xs ts)
      separated_exact xs = record {
        sound = λ ts rest ys h. separated_sound (length ts + 1) xs ts rest ys h;
        complete = complete;
      }
        where
          complete : Complete Fits (Adds (Separated Item) xs) (λ rest. Ends rest × (comma rest ≡ None))
              (λ ts. separated comma (adds reader) (length ts + 1) xs ts)
          complete ts _ (adding g) rest fits ends = let short = separated_short g in
              separated_reads g _ xs rest (omega (arith, length-append ts rest)) fits ends.0 ends.1

  -- only commas stand between the items
  pub commas_exact : {Item : Form A} {Ends : Property} {reader : Reader A} → Exact Fits Item Ends reader →
      ((t : Lexeme) (rest : List Lexeme) → IsMark mark.Comma t → Ends (t ∷ rest)) →
      ExactAdder Fits (Separated Item) (λ rest. Ends rest × (following mark.Comma rest ≡ None))
      (all_separated (adds reader))
  commas_exact exact before_comma = separated_exact (following mark.Comma) (λ us vs h. first_mark _ us vs h) exact
      before_comma (λ t us rest zs p d. rw p)

  module _ (ends : List Lexeme → Bool) {Group : Form (List A)} {Ends : Property} {group : Adder A}
      (exact : ExactAdder Fits Group Ends group) where
    next_group : {xs ys zs : List A} {ts us : List Lexeme} → Adds Group xs ts ys → Adds (Grouped Group) ys us zs →
        Adds (Grouped Group) xs (ts ++ us) zs
    next_group {xs = xs} {ts = ts} {us = us} (adding {zs = zs} d) (adding {zs = ws} g) =
        subst (Adds (Grouped Group) xs (ts ++ us)) (sym (append_assoc xs zs ws)) (adding (next d g))

    pub grouped_sound : (turns : ℕ) (xs : List A) (ts rest : List Lexeme) (ys : List A) →
        grouped ends group turns xs ts ≡ Some (ys, rest) → Taken (Adds (Grouped Group) xs) ts ys rest ×
        (ends rest ≡ true)
    unfolding grouped
    grouped_sound zero xs ts rest ys h = absurd (none-some _ h)
    grouped_sound (suc turns) xs ts rest ys h = chosen _ _ _ h (λ q e. (
      took [] e refl (subst (Adds (Grouped Group) xs []) (append-nil xs) (adding none)),
      ap ends (sym (same_pair e).1) ∙ q,
    )) (λ q e.
        let b = bound (λ x. grouped ends group turns x.0 x.1) _ (ys, rest) e in
        let d = (exact xs).sound ts b.0.1 b.0.0 b.1 in
        let l = grouped_sound turns b.0.0 b.0.1 rest ys b.2 in (
          record {
            taken = d.taken ++ l.0.taken;
            split = glued rest d.taken l.0.taken d.split l.0.split;
            spelled = next_group d.spelled l.0.spelled;
          },
          l.1,
        ))

    -- how many groups there are
    unfoldable group_count : {ts : List Lexeme} {zs : List A} → Grouped Group ts zs → ℕ
    group_count none = 0
    group_count (next d g) = group_count g + 1

    module _ (starts : (us rest : List Lexeme) (zs : List A) → Group us zs → ends (us ++ rest) ≡ false)
        (some : (us : List Lexeme) (zs : List A) → Group us zs → 0 < length us)
        (at_end : (rest : List Lexeme) → ends rest ≡ true → Ends rest)
        (before_group : (us rest : List Lexeme) (zs : List A) → Group us zs → Ends (us ++ rest)) where
      group_short : {ts : List Lexeme} {zs : List A} (d : Grouped Group ts zs) → group_count d ≤ length ts
      unfolding group_count
      group_short none = omega arith
      group_short (next {ts = ts} {us = us} {xs = xs} d g) =
          omega (arith, group_short g, some ts xs d, length-append ts us)

      group_ahead : {us : List Lexeme} {zs : List A} (g : Grouped Group us zs) (rest : List Lexeme) → ends rest ≡ true →
          Ends (us ++ rest)
      group_ahead none rest h = at_end rest h
      group_ahead (next {ts = ts} {us = us} {xs = xs} d g) rest h =
          subst Ends (sym (append_assoc ts us rest)) (before_group ts (us ++ rest) xs d)

      grouped_reads : {ts : List Lexeme} {zs : List A} (d : Grouped Group ts zs) (turns : ℕ) (xs : List A)
          (rest : List Lexeme) → group_count d < turns → Fits ts → ends rest ≡ true →
          grouped ends group turns xs (ts ++ rest) ≡ Some (xs ++ zs, rest)
      unfolding grouped group_count
      grouped_reads none zero xs rest h fits stop = absurd (omega arith)
      grouped_reads none (suc turns) xs rest h fits stop = rw stop (ap (λ l. Some (l, rest)) (sym (append-nil xs)))
      grouped_reads (next d g) zero xs rest h fits stop = absurd (omega arith)
      grouped_reads (next {ts = ts} {us = us} {xs = zs} {ys = ws} d g) (suc turns) xs rest h fits stop =
          let first = (exact xs).complete ts _ (adding d) _ (parts.left ts us fits) (group_ahead g rest stop) in
          let others = grouped_reads g turns (xs ++ zs) rest (omega arith) (parts.right ts us fits) stop in
          ap (λ l. grouped ends group (suc turns) xs l) (append_assoc ts us rest)
          ∙ rw (starts ts (us ++ rest) zs d, first) (others ∙ ap (λ l. Some (l, rest)) (append_assoc xs zs ws))

      pub grouped_exact : ExactAdder Fits (Grouped Group) (λ rest. ends rest ≡ true)
          (λ xs ts. grouped ends group (length ts + 1) xs ts)
      grouped_exact xs = record {
        sound = λ ts rest ys h. (grouped_sound (length ts + 1) xs ts rest ys h).0;
        complete = complete;
      }
        where
          complete : Complete Fits (Adds (Grouped Group) xs) (λ rest. ends rest ≡ true)
              (λ ts. grouped ends group (length ts + 1) xs ts)
          complete ts _ (adding g) rest fits stop = let short = group_short g in
              grouped_reads g _ xs rest (omega (arith, length-append ts rest)) fits stop

-- items and groups of one form as those of another
pub items_turned : {A : Type 0} {Item Other : Form A} {ts : List Lexeme} {xs : List A} → Turns Item Other →
    Separated Item ts xs → Separated Other ts xs
items_turned turn (one d) = one (turn _ _ d)
items_turned turn (more t p d g) = more t p (turn _ _ d) (items_turned turn g)

pub groups_turned : {A : Type 0} {Group Other : Form (List A)} {ts : List Lexeme} {xs : List A} → Turns Group Other →
    Grouped Group ts xs → Grouped Other ts xs
groups_turned turn none = none
groups_turned turn (next d g) = next (turn _ _ d) (groups_turned turn g)

module _ {A : Type 0} (height : A → ℕ) where
  abbrev pub heights : List A → ℕ
  heights xs = highest (map height xs)

  pub heights_joined : (xs ys : List A) → heights (xs ++ ys) ≡ max (heights xs) (heights ys)
  heights_joined [] ys = omega arith
  heights_joined (x ∷ xs) ys = omega (arith, heights_joined xs ys)

  module _ (room : ℕ) where
    -- a list whose items are low is low, and the other way round
    pub items_apart : {Item : Form A} {ts : List Lexeme} {xs : List A} → Separated (Low Item height room) ts xs →
        Low (Separated Item) heights room ts xs
    items_apart (one d) = (one d.0, omega (arith, d.1))
    items_apart (more t p d g) = let others = items_apart g in (more t p d.0 others.0, omega (arith, d.1, others.1))

    pub items_joined : {Item : Form A} {ts : List Lexeme} {xs : List A} → Separated Item ts xs → heights xs ≤ room →
        Separated (Low Item height room) ts xs
    items_joined (one d) h = one (d, omega arith)
    items_joined (more t p d g) h = more t p (d, omega arith) (items_joined g (omega arith))

    -- a list whose groups are low is low, and the other way round
    pub groups_apart : {Group : Form (List A)} {ts : List Lexeme} {xs : List A} →
        Grouped (Low Group heights room) ts xs → Low (Grouped Group) heights room ts xs
    groups_apart none = (none, omega arith)
    groups_apart (next {xs = xs} {ys = ys} d g) = let others = groups_apart g in
        (next d.0 others.0, omega (arith, heights_joined xs ys, d.1, others.1))

    pub groups_joined : {Group : Form (List A)} {ts : List Lexeme} {xs : List A} → Grouped Group ts xs →
        heights xs ≤ room → Grouped (Low Group heights room) ts xs
    groups_joined none h = none
    groups_joined (next {xs = xs} {ys = ys} d g) h = let sum = heights_joined xs ys in
        next (d, omega arith) (groups_joined g (omega arith))
