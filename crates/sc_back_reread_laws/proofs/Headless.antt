-- In the text of a performing section stands no other compartment line.
use Rattle.sc_back_reread_laws.proofs.Common.{AllByRecursion, Bool, CanPerform, Entry, Import, Interface, Interfaces}
use Rattle.sc_back_reread_laws.proofs.Common.{IsCalled, IsImported, IsTrue, List, None, Option, Piece, Proto, Row, Some}
use Rattle.sc_back_reread_laws.proofs.Common.{TokenKind, [], and_from, and_parts, ap, append-nil, append_assoc, arith}
use Rattle.sc_back_reread_laws.proofs.Common.{begins_heading, begins_line, codes, directive_kind, drop, drop_all}
use Rattle.sc_back_reread_laws.proofs.Common.{export_text, false, false≢true, filter, line_text, flat_map}
use Rattle.sc_back_reread_laws.proofs.Common.{function_text, functions_text, head_text, heading_begins, heading_is}
use Rattle.sc_back_reread_laws.proofs.Common.{heading_line_is, if◌then◌else◌, import_text, is_digit, is_directive}
use Rattle.sc_back_reread_laws.proofs.Common.{is_export, is_heading, is_import, is_inside_line, is_name, is_name_byte}
use Rattle.sc_back_reread_laws.proofs.Common.{is_nondigit, is_of, is_pragma, is_some, length, list_all, main_proto}
use Rattle.sc_back_reread_laws.proofs.Common.{main_text, mark_kind, marks, nat_lt, no_table, not, option_or, or_left}
use Rattle.sc_back_reread_laws.proofs.Common.{owner_name, proto_text, recursion_from_All, refl, replicate, row_text}
use Rattle.sc_back_reread_laws.proofs.Common.{run_is, section_text, slice_index, subst, suc, sym, take}
use Rattle.sc_back_reread_laws.proofs.Common.{take-append_seam, text_of, true, zero, ℕ, ◌&&◌, ◌*◌, ◌++◌, ◌==◌, ◌∙◌, ◌∷◌}
use Rattle.sc_back_reread_laws.proofs.Common.{◌≡◌, ◌≤◌}
use Rattle.sc_base.proofs.Lists.{list_all_along}
use Rattle.sc_event.specs.declared.row.Entry.TheVariants as entry
unfoldable use Rattle.sc_lex.specs.Prelude.{heading_name, is_mark, token_kind, line_kind, word_kind, words}
use Rattle.sc_lex.specs.declared.token.TokenKind.TheVariants as kind
use Rattle.sc_lex.proofs.Texts.{word_run}
use Rattle.sc_parse_print_laws.proofs.Spacing.{IsWord}
use Rattle.sc_parse_print_laws.proofs.Spacing as spacing
use Rattle.sc_back_reread_laws.proofs.Headings.{last, last_append, mark, to_begins}
use Rattle.sc_back_reread_laws.proofs.Performing.{decls_are, ident_name}
use Rattle.sc_back_reread_laws.proofs.Splitting.{IsText}

-- bytes without `#`
abbrev pub plain : List ℕ → Bool
plain text = list_all (λ byte. not (byte == 35)) text

pub plain_append : (a b : List ℕ) → plain a ≡ true → plain b ≡ true → plain (a ++ b) ≡ true
plain_append [] b p q = q
plain_append (x ∷ a) b p q = let parts = and_parts (not (x == 35)) (plain a) p in
    and_from (not (x == 35)) (plain (a ++ b)) parts.0 (plain_append a b parts.1 q)

byte_plain : (b : ℕ) → is_name_byte b ≡ true → not (b == 35) ≡ true
byte_plain b h = ap not (spacing.other b 35 h refl)

bytes_plain : (text : List ℕ) → list_all is_name_byte text ≡ true → plain text ≡ true
bytes_plain text h = list_all_along is_name_byte (λ b. not (b == 35)) byte_plain text h

pub name_plain : (name : List ℕ) → is_name name ≡ true → plain name ≡ true
unfolding is_name
name_plain [] h = absurd (false≢true h)
name_plain (b ∷ bs) h =
    let parts = and_parts (is_nondigit b) (list_all is_name_byte bs && nat_lt (length bs) 63) h in
    let rest = and_parts (list_all is_name_byte bs) (nat_lt (length bs) 63) parts.1 in
    bytes_plain (b ∷ bs) (and_from (is_name_byte b) (list_all is_name_byte bs)
    (or_left (is_nondigit b) (is_digit b) parts.0) rest.0)

-- words that are no directive
line_directive : (text : List ℕ) (k : TokenKind) → line_kind text ≡ Some k → is_directive k ≡ true
unfolding line_kind
line_directive text k h = by (is_some (heading_name text)) (is_export (words text)) (is_import (words text)) h
  where
    by : (a b c : Bool) → (if a then Some kind.Compartment else (if b then Some kind.Export
        else (if c then Some kind.Import else None))) ≡ Some k → is_directive k ≡ true
    by true b c e = let same : kind.Compartment ≡ k = cc in ap is_directive (sym same)
    by false true c e = let same : kind.Export ≡ k = cc in ap is_directive (sym same)
    by false false true e = let same : kind.Import ≡ k = cc in ap is_directive (sym same)
    by false false false e = absurd (cc)

mark_plain : (text : List ℕ) → is_mark text ≡ true → plain text ≡ true
unfolding is_mark
mark_plain text h = by (plain text) refl
  where
    by : (b : Bool) → plain text ≡ b → plain text ≡ true
    by true e = e
    by false e = absurd (false≢true (sym (no_table plain marks text refl e) ∙ h))

kind_plain : (text : List ℕ) (k : TokenKind) → token_kind text ≡ Some k → (is_directive k ≡ true → ⊥) → plain text ≡
    true
unfolding token_kind
kind_plain text k h never = by (word_kind text) refl h
  where
    pragma : (b : Bool) → (if b then line_kind text else None) ≡ Some k → plain text ≡ true
    pragma true e = absurd (never (line_directive text k e))
    pragma false e = absurd (cc)

    marked : (b : Bool) → is_mark text ≡ b →
        option_or (if b then Some kind.Mark else None) (directive_kind text) ≡ Some k → plain text ≡ true
    marked true e h = mark_plain text e
    marked false e h = pragma (is_pragma text) h

    by : (o : Option TokenKind) → word_kind text ≡ o → option_or o (option_or (mark_kind text) (directive_kind text)) ≡
        Some k → plain text ≡ true
    by (Some j) e h = bytes_plain text (word_run text j e).run.all
    by None e h = marked (is_mark text) refl h

word_plain : (text rest : List ℕ) → IsWord text rest → plain text ≡ true
word_plain text rest w =
    let t = w.token false in
    let spelled : token_kind text ≡ Some w.kind = ap token_kind (sym (take-append_seam text rest)) ∙ t.spelled in
    kind_plain text w.kind spelled (λ d. false≢true (t.allowed d))

blanks_plain : (n : ℕ) → plain (replicate n 32) ≡ true
blanks_plain zero = refl
blanks_plain (suc n) = blanks_plain n

pub tidy_plain : {pieces : List Piece} {rest : List ℕ} → spacing.Tidy pieces rest → plain (text_of pieces) ≡ true
tidy_plain spacing.none = refl
tidy_plain (spacing.gap t) = tidy_plain t
tidy_plain (spacing.at_level {pieces = pieces} levels t) =
    plain_append (replicate (2 * levels) 32) (text_of pieces) (blanks_plain (2 * levels)) (tidy_plain t)
tidy_plain (spacing.line_end t) = tidy_plain t
tidy_plain (spacing.next {text = text} {pieces = pieces} {rest = rest} w t) =
    plain_append text (text_of pieces) (word_plain text (text_of pieces ++ rest) w) (tidy_plain t)

-- nowhere in the text stands what a compartment line begins with
abbrev pub Headless : List ℕ → Type 0
Headless text = (at : ℕ) → begins_heading (drop at text) ≡ true → ⊥

sign_of : (text : List ℕ) → begins_heading text ≡ true → slice_index text 0 ≡ 35
sign_of text h = ap (λ b. slice_index b 0) (to_begins text h).is

pub plain_then : (a b : List ℕ) → plain a ≡ true → Headless b → Headless (a ++ b)
plain_then [] b p h at is = h at is
plain_then (x ∷ a) b p h zero is =
    let parts = and_parts (not (x == 35)) (plain a) p in
    false≢true (sym (ap (λ c. not (c == 35)) (sign_of ((x ∷ a) ++ b) is)) ∙ parts.0)
plain_then (x ∷ a) b p h (suc at) is = plain_then a b (and_parts (not (x == 35)) (plain a) p).1 h at is

none_headless : Headless []
none_headless at is =
    let b = to_begins (drop at []) is in
    let e : 0 ≡ length (mark ++ b.rest) = ap length (sym (drop_all at [] (omega arith)) ∙ b.is) in
    absurd (omega (arith, e))

pub plain_headless : (text : List ℕ) → plain text ≡ true → Headless text
plain_headless text p = subst Headless (append-nil text) (plain_then text [] p none_headless)

pub export_headless : (text : List ℕ) → Headless text → Headless (codes "#pragma export " ++ text)
export_headless text h zero is =
    let e : 101 ≡ 99 = ap (λ b. slice_index b 8) (to_begins (codes "#pragma export " ++ text) is).is in
    absurd (omega (arith, e))
export_headless text h (suc at) is = plain_then (codes "pragma export ") text refl h at is

pub import_headless : (text : List ℕ) → Headless text → Headless (codes "#pragma import " ++ text)
import_headless text h zero is =
    let e : 105 ≡ 99 = ap (λ b. slice_index b 8) (to_begins (codes "#pragma import " ++ text) is).is in
    absurd (omega (arith, e))
import_headless text h (suc at) is = plain_then (codes "pragma import ") text refl h at is

exports_headless : (exports : List Proto) → AllByRecursion IsCalled exports → (following : List ℕ) →
    Headless following →
    Headless (flat_map export_text exports ++ following)
exports_headless [] h following k = k
exports_headless (f ∷ exports) h following k =
    let line : List ℕ = f.name ++ codes "\n" in
    subst Headless (sym (append_assoc (export_text f) (flat_map export_text exports) following))
    (export_headless (line ++ (flat_map export_text exports ++ following))
    (plain_then line (flat_map export_text exports ++ following)
    (plain_append f.name (codes "\n") (name_plain f.name (ident_name f.name h.0.name)) refl)
    (exports_headless exports h.1 following k)))

imports_headless : (interfaces : Interfaces) (imports : List Import) → AllByRecursion (IsImported interfaces) imports →
    (following : List ℕ) → Headless following → Headless (flat_map (import_text interfaces) imports ++ following)
imports_headless interfaces [] h following k = k
imports_headless interfaces (import ∷ imports) h following k =
    let f : Proto = h.0.f in
    let owner : List ℕ = owner_name interfaces import in
    let line : List ℕ = owner ++ (codes " " ++ (f.name ++ codes "\n")) in
    let is : import_text interfaces import ≡ codes "#pragma import " ++ line = rw h.0.is in
    let rest : List ℕ = flat_map (import_text interfaces) imports ++ following in
    subst Headless (ap (λ t. t ++ rest) (sym is) ∙
    sym (append_assoc (import_text interfaces import) (flat_map (import_text interfaces) imports) following))
    (import_headless (line ++ rest) (plain_then line rest
    (plain_append owner (codes " " ++ (f.name ++ codes "\n")) (name_plain owner h.0.owner)
    (plain_append f.name (codes "\n") (name_plain f.name (ident_name f.name h.0.called.name)) refl))
    (imports_headless interfaces imports h.1 following k)))

-- The text of a section, whose compartment line states its name, and in which no other stands.

module _ (name following : List ℕ) where
  abbrev pub headed : List ℕ
  headed = mark ++ (name ++ (codes "\n" ++ following))

  module _ (named : is_name name ≡ true) (headless : Headless following) where
    tail_headless : Headless (codes "pragma compartment " ++ (name ++ (codes "\n" ++ following)))
    tail_headless = plain_then (codes "pragma compartment ") (name ++ (codes "\n" ++ following)) refl
        (plain_then name (codes "\n" ++ following) (name_plain name named)
        (plain_then (codes "\n") following refl headless))

    whole : (at : ℕ) → 1 ≤ at → IsTrue (is_heading headed at) → ⊥
    whole zero low h = omega (arith, low)
    whole (suc at) low h = tail_headless at
        (and_parts (begins_line headed (suc at)) (begins_heading (drop (suc at) headed)) h).1

    first_is : line_text headed ≡ mark ++ name
    first_is =
        let line : List ℕ = mark ++ name in
        let long = run_is is_inside_line line (10 ∷ following) (heading_line_is name named).inside refl in
        ap (λ n. take n headed) long ∙ take-append_seam line (10 ∷ following)

    pub headed_text : IsText headed
    headed_text = record {
      begins = heading_begins (name ++ (codes "\n" ++ following));
      name = name;
      named = ap heading_name first_is ∙ heading_is name named;
      whole = λ at low high h. whole at low h;
    }

-- Performing texts end with a newline.

abbrev pub Closed : List ℕ → Type 0
Closed text = (d : ℕ) → d ≡ 10 → last d text ≡ 10

-- whatever stands before them
abbrev pub Closing : List ℕ → Type 0
Closing text = (d : ℕ) → last d text ≡ 10

pub after_closing : (a b : List ℕ) → Closing b → Closing (a ++ b)
after_closing a b h d = last_append d a b ∙ h (last d a)

pub closed_append : (a b : List ℕ) → Closed a → Closed b → Closed (a ++ b)
closed_append a b h k d e = last_append d a b ∙ k (last d a) (h d e)

function_closing : (interfaces : Interfaces) (rows : List Row) (e : Entry) (f : Proto) →
    Closing (function_text interfaces rows e f)
function_closing interfaces rows e f =
    let own : List ℕ = flat_map (row_text interfaces f.result) (filter (is_of e) rows) in
    after_closing (head_text f) (codes " {\n" ++ (own ++ codes "  while (1) { }\n}\n"))
    (after_closing (codes " {\n") (own ++ codes "  while (1) { }\n}\n")
    (after_closing own (codes "  while (1) { }\n}\n") (λ d. refl)))

functions_closed : (interfaces : Interfaces) (rows : List Row) (index : ℕ) (exports : List Proto) →
    Closed (functions_text interfaces rows index exports)
functions_closed interfaces rows index [] = λ d e. e
functions_closed interfaces rows index (f ∷ exports) =
    closed_append (function_text interfaces rows (entry.Export index) f)
    (functions_text interfaces rows (suc index) exports)
    (λ d e. function_closing interfaces rows (entry.Export index) f d)
    (functions_closed interfaces rows (suc index) exports)

main_closed : (interfaces : Interfaces) (rows : List Row) (b : Bool) →
    Closed (if b then function_text interfaces rows entry.Main main_proto else [])
main_closed interfaces rows true d e = function_closing interfaces rows entry.Main main_proto d
main_closed interfaces rows false d e = e

counter_closing : (functions : List ℕ) → Closed functions → Closing (codes "unsigned int bt_n;\n" ++ functions)
counter_closing functions h d = h 10 refl

-- The whole.

module _ (interfaces : Interfaces) (comp : ℕ) (rows : List Row) (interface : Interface) where
  abbrev exports : List ℕ
  exports = flat_map export_text interface.exports

  abbrev imports : List ℕ
  imports = flat_map (import_text interfaces) interface.imports

  abbrev protos : List ℕ
  protos = flat_map (proto_text interfaces) interface.imports

  abbrev functions : List ℕ
  functions = functions_text interfaces rows 0 interface.exports ++ main_text interfaces comp rows

  abbrev decls : List ℕ
  decls = protos ++ (codes "unsigned int bt_n;\n" ++ functions)

  abbrev following : List ℕ
  following = exports ++ (imports ++ decls)

  abbrev text : List ℕ
  text = section_text interfaces comp rows interface

  pub text_closing : Closing text
  text_closing =
      after_closing mark (interface.name ++ (codes "\n" ++ following))
      (after_closing interface.name (codes "\n" ++ following) (after_closing (codes "\n") following
      (after_closing exports (imports ++ decls) (after_closing imports decls
      (after_closing protos (codes "unsigned int bt_n;\n" ++ functions) (counter_closing functions
      (closed_append (functions_text interfaces rows 0 interface.exports) (main_text interfaces comp rows)
      (functions_closed interfaces rows 0 interface.exports)
      (main_closed interfaces rows (comp == interfaces.main)))))))))

  module _ (can : CanPerform interfaces rows interface) where
    decls_plain : plain decls ≡ true
    decls_plain =
        let ds = decls_are interfaces comp rows interface can in
        ap plain (sym ds.same.spelled) ∙ tidy_plain (ds.same.tidy [])

    pub performing_text : IsText text
    performing_text = headed_text interface.name following can.name (exports_headless interface.exports
        (recursion_from_All _ _ can.exports) (imports ++ decls) (imports_headless interfaces interface.imports
        (recursion_from_All _ _ can.imports) decls (plain_headless decls decls_plain)))
