-- What directive lines and compartment lines say, by their words.
use Rattle.sc_parse_print_laws.proofs.Common.{Bool, List, Some, Symbol, TokenKind, [], and_from, and_parts, ap}
use Rattle.sc_parse_print_laws.proofs.Common.{append_assoc, arith, begins_heading, codes, drop, false}
use Rattle.sc_parse_print_laws.proofs.Common.{false_from_ne_true, false≢true, filter, get_or, heading_name, is_blank}
use Rattle.sc_parse_print_laws.proofs.Common.{is_empty, is_inside_line, is_name, is_name_byte, is_nondigit, is_some}
use Rattle.sc_parse_print_laws.proofs.Common.{token_kind, kind_of-directive, length, line_kind, list_all}
use Rattle.sc_parse_print_laws.proofs.Common.{list_all-append}
use Rattle.sc_parse_print_laws.proofs.Common.{name_of, ne_eqb, not, not-true, only_name, option_and_then, or_left}
use Rattle.sc_parse_print_laws.proofs.Common.{or_unused, refl, says, slice_eq-Decides, slice_index, slice_split, suc}
use Rattle.sc_parse_print_laws.proofs.Common.{sym, take, take-append_seam, true, word_symbol, words, zero, ℕ, ◌++◌, ◌<◌}
use Rattle.sc_parse_print_laws.proofs.Common.{◌==◌, ◌∙◌, ◌∷◌, ◌≡◌}
use Rattle.std.proofs.lemmas.Bool.Decides.{Decides-eqb}
use Rattle.std.proofs.lemmas.List.Splits.{slice_split_at, slice_split_none}
use Rattle.sc_base.proofs.Lists.{list_all_along}
use Rattle.sc_lex.specs.declared.token.TokenKind.TheVariants as kind
use Rattle.sc_lex.proofs.Wording.{prefix_byte}
use Rattle.sc_parse_expr.specs.declared.lexeme.Symbol.TheVariants as symbol
use Rattle.sc_parse_print_laws.proofs.Spacing.{other}

-- a byte that stands inside a word
abbrev pub solid : ℕ → Bool
solid byte = not (is_blank byte)

solid_at : (bs : List ℕ) → list_all solid bs ≡ true → (k d : ℕ) → k < length bs → is_blank (get_or bs k d) ≡ false
solid_at [] h k d less = absurd (omega (arith, less))
solid_at (b ∷ bs) h zero d less = not-true _ (and_parts _ _ h).0
solid_at (b ∷ bs) h (suc k) d less = solid_at bs (and_parts _ _ h).1 k d (omega (arith, less))

kept_word : (word : List ℕ) (more : List (List ℕ)) → 0 < length word →
    filter (λ w. not (is_empty w)) (word ∷ more) ≡ word ∷ filter (λ w. not (is_empty w)) more
kept_word word more some = let full = ne_eqb (length word) 0 (λ e. omega (arith, some, e)) in rw full

-- a word, a blank and what follows
word_prefix : (word rest : List ℕ) → list_all solid word ≡ true → 0 < length word →
    words (word ++ 32 ∷ rest) ≡ word ∷ words rest
unfolding words
word_prefix word rest all some = ap (λ parts. filter (λ w. not (is_empty w)) parts)
    (slice_split_at _ word 32 rest (solid_at word all) refl) ∙ kept_word word (slice_split _ rest) some

single_word : (word : List ℕ) → list_all solid word ≡ true → 0 < length word → words word ≡ word ∷ []
unfolding words
single_word word all some = ap (λ parts. filter (λ w. not (is_empty w)) parts)
    (slice_split_none _ word (solid_at word all)) ∙ kept_word word [] some

-- names
byte_solid : (b : ℕ) → is_name_byte b ≡ true → solid b ≡ true
byte_solid b h = rw (other b 32 h refl, other b 9 h refl, other b 11 h refl, other b 12 h refl, other b 13 h refl)

byte_inside : (b : ℕ) → is_name_byte b ≡ true → is_inside_line b ≡ true
byte_inside b h = rw (other b 10 h refl)

-- what a name consists of
record Named (name : List ℕ) : Type 0 where
  some : 0 < length name
  bytes : list_all is_name_byte name ≡ true

named : (name : List ℕ) → is_name name ≡ true → Named name
unfolding is_name
named [] h = absurd (false≢true h)
named (b ∷ bs) h =
    let parts = and_parts (is_nondigit b) _ h in
    let rest = and_parts _ _ parts.1 in
    record { some = omega arith; bytes = and_from (is_name_byte b) _ (or_left _ _ parts.0) rest.0 }

name_solid : (name : List ℕ) → is_name name ≡ true → list_all solid name ≡ true
name_solid name h = list_all_along _ solid byte_solid name (named name h).bytes

name_inside : (name : List ℕ) → is_name name ≡ true → list_all is_inside_line name ≡ true
name_inside name h = list_all_along _ _ byte_inside name (named name h).bytes

name_word : (name : List ℕ) → is_name name ≡ true → words name ≡ name ∷ []
name_word name h = single_word name (name_solid name h) (named name h).some

named_is : (name : List ℕ) → is_name name ≡ true → name_of name ≡ Some name
named_is name h = rw h

first_solid : (name : List ℕ) → is_name name ≡ true → not (is_blank (slice_index name 0)) ≡ true
first_solid [] h = let n = (named [] h).some in absurd (omega (arith, n))
first_solid (b ∷ bs) h = (and_parts _ (list_all solid bs) (name_solid _ h)).0

-- A line that is a directive of this kind.
pub record IsLine (text : List ℕ) : Type 0 where
  pub kind : TokenKind
  pub first : slice_index text 0 ≡ 35
  pub inside : list_all is_inside_line text ≡ true
  pub is : line_kind text ≡ Some kind

pub kind_of_line : (text : List ℕ) (k : TokenKind) → slice_index text 0 ≡ 35 → list_all is_inside_line text ≡ true →
    line_kind text ≡ Some k → token_kind text ≡ Some k
kind_of_line text k first inside is =
    let begins : (slice_index text 0 == 35) ≡ true = rw first in
    kind_of-directive text first ∙ rw (begins, inside) is

line_says : (text : List ℕ) (k : TokenKind) (s : Symbol) → slice_index text 0 ≡ 35 →
    list_all is_inside_line text ≡ true → line_kind text ≡ Some k → says k text ≡ Some s → word_symbol text ≡ s
unfolding word_symbol
line_says text k s first inside is said = ap (λ o. or_unused (option_and_then (λ j. says j text) o))
    (kind_of_line text k first inside is) ∙ ap or_unused said

-- no compartment line
no_heading : (text : List ℕ) → (slice_index text 8 ≡ 99 → ⊥) → is_some (heading_name text) ≡ false
unfolding heading_name
no_heading text other =
    let no = false_from_ne_true _ (λ h. other (prefix_byte text (codes "#pragma compartment ") 8 h (omega arith))) in
    rw no

-- a directive of one more word and more
directive_words : (word rest : List ℕ) → list_all solid word ≡ true → 0 < length word →
    words (codes "#pragma " ++ (word ++ 32 ∷ rest)) ≡ codes "#pragma" ∷ word ∷ words rest
directive_words word rest all some = word_prefix (codes "#pragma") (word ++ 32 ∷ rest) refl (omega arith) ∙
    ap (λ ws. codes "#pragma" ∷ ws) (word_prefix word rest all some)

-- `#pragma export F`
abbrev pub export_text : List ℕ → List ℕ
export_text name = codes "#pragma export " ++ name

export_kind : (text name : List ℕ) → (slice_index text 8 ≡ 99 → ⊥) →
    words text ≡ codes "#pragma" ∷ codes "export" ∷ name ∷ [] → is_name name ≡ true → line_kind text ≡ Some kind.Export
unfolding line_kind
export_kind text name other is h = let no = no_heading text other in rw (no, is, h)

module _ (name : List ℕ) (h : is_name name ≡ true) where
  export_words : words (export_text name) ≡ codes "#pragma" ∷ codes "export" ∷ name ∷ []
  export_words = directive_words (codes "export") name refl (omega arith) ∙
      ap (λ ws. codes "#pragma" ∷ codes "export" ∷ ws) (name_word name h)

  export_is : line_kind (export_text name) ≡ Some kind.Export
  export_is = export_kind _ name (λ e. omega (arith, e)) export_words h

  pub export_line_is : IsLine (export_text name)
  export_line_is = record { kind = kind.Export; first = refl; inside = name_inside name h; is = export_is }

  pub export_says : word_symbol (export_text name) ≡ symbol.Export name
  unfolding says
  export_says =
      let third : name_of (get_or (words (export_text name)) 2 []) ≡ Some name =
      ap (λ ws. name_of (get_or ws 2 [])) export_words ∙ named_is name h in
      line_says _ kind.Export _ refl (name_inside name h) export_is (rw third)

-- `#pragma import C F`
abbrev pub import_text : List ℕ → List ℕ → List ℕ
import_text comp name = codes "#pragma import " ++ (comp ++ codes " " ++ name)

import_kind : (text comp name : List ℕ) → (slice_index text 8 ≡ 99 → ⊥) →
    words text ≡ codes "#pragma" ∷ codes "import" ∷ comp ∷ name ∷ [] → is_name comp ≡ true → is_name name ≡ true →
    line_kind text ≡ Some kind.Import
unfolding line_kind
import_kind text comp name other is g h = let no = no_heading text other in rw (no, is, g, h)

module _ (comp name : List ℕ) (g : is_name comp ≡ true) (h : is_name name ≡ true) where
  seam : (comp ++ codes " " ++ name) ≡ (comp ++ 32 ∷ name)
  seam = append_assoc comp _ name

  import_words : words (import_text comp name) ≡ codes "#pragma" ∷ codes "import" ∷ comp ∷ name ∷ []
  import_words = directive_words (codes "import") (comp ++ codes " " ++ name) refl (omega arith) ∙
      ap (λ ws. codes "#pragma" ∷ codes "import" ∷ ws) (ap words seam ∙ word_prefix comp name (name_solid comp g)
      (named comp g).some ∙ ap (λ ws. comp ∷ ws) (name_word name h))

  import_is : line_kind (import_text comp name) ≡ Some kind.Import
  import_is = import_kind _ comp name (λ e. omega (arith, e)) import_words g h

  import_inside : list_all is_inside_line (comp ++ codes " " ++ name) ≡ true
  import_inside = ap (list_all _) seam ∙ list_all-append is_inside_line comp (32 ∷ name) ∙
      and_from _ _ (name_inside comp g) (name_inside name h)

  pub import_line_is : IsLine (import_text comp name)
  import_line_is = record { kind = kind.Import; first = refl; inside = import_inside; is = import_is }

  pub import_says : word_symbol (import_text comp name) ≡ symbol.Import comp name
  unfolding says
  import_says =
      let third : name_of (get_or (words (import_text comp name)) 2 []) ≡ Some comp =
      ap (λ ws. name_of (get_or ws 2 [])) import_words ∙ named_is comp g in
      let fourth : name_of (get_or (words (import_text comp name)) 3 []) ≡ Some name =
      ap (λ ws. name_of (get_or ws 3 [])) import_words ∙ named_is name h in
      line_says _ kind.Import _ refl import_inside import_is (rw (third, fourth))

-- `#pragma compartment C`
abbrev pub heading_text : List ℕ → List ℕ
heading_text name = codes "#pragma compartment " ++ name

pub heading_begins : (rest : List ℕ) → begins_heading (heading_text rest) ≡ true
heading_begins rest = (slice_eq-Decides Decides-eqb (codes "#pragma compartment ") (take 20 (heading_text rest))
    _ refl).1 (sym (take-append_seam _ rest))

heading_from : (text name : List ℕ) → begins_heading text ≡ true → not (is_blank (slice_index text 20)) ≡ true →
    only_name (words (drop 20 text)) ≡ Some name → heading_name text ≡ Some name
unfolding heading_name
heading_from text name a b c = rw (a, b) c

pub heading_is : (name : List ℕ) → is_name name ≡ true → heading_name (heading_text name) ≡ Some name
heading_is name h = heading_from _ name (heading_begins name) (first_solid name h)
    (ap only_name (name_word name h) ∙ named_is name h)

heading_kind : (text name : List ℕ) → heading_name text ≡ Some name → line_kind text ≡ Some kind.Compartment
unfolding line_kind
heading_kind text name h = rw h

pub heading_line_is : (name : List ℕ) → is_name name ≡ true → IsLine (heading_text name)
heading_line_is name h = record {
  kind = kind.Compartment;
  first = refl;
  inside = name_inside name h;
  is = heading_kind _ name (heading_is name h);
}

pub heading_says : (name : List ℕ) → is_name name ≡ true → word_symbol (heading_text name) ≡ symbol.Compartment name
unfolding says
heading_says name h =
    let is = heading_is name h in
    line_says _ kind.Compartment _ refl (name_inside name h) (heading_kind _ name is) (rw is)
