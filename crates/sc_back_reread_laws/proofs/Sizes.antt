-- How long a section is at least, by its tree: each of its tokens has its own bytes.
use Rattle.sc_back_reread_laws.proofs.Common.{AllByRecursion, Bool, Decl, FunctionTree, Grouped, ImportLine, IsRead}
use Rattle.sc_back_reread_laws.proofs.Common.{Lexeme, List, None, Option, SectionTree, Some, SpellsDecl}
use Rattle.sc_back_reread_laws.proofs.Common.{SpellsDirectives, SpellsFunction, SpellsHead, SpellsSection, Symbol}
use Rattle.sc_back_reread_laws.proofs.Common.{TextPart, Token, TokenKind, [], ap, arith, begins_heading, codes, drop}
use Rattle.sc_back_reread_laws.proofs.Common.{false, false≢true, filter, fourth_word, get_or, head_of, ident_in}
use Rattle.sc_back_reread_laws.proofs.Common.{ident_of, if◌then◌else◌, import_symbol, is_blank, is_export, is_import}
use Rattle.sc_back_reread_laws.proofs.Common.{is_name, is_pragma, is_reserved, length, length-take-le, lexemes_of, map}
use Rattle.sc_back_reread_laws.proofs.Common.{mark_of, name_of, not, number_in, only_name, option_and_then, option_map}
use Rattle.sc_back_reread_laws.proofs.Common.{or_unused, param_of, refl, slice_index, slice_range, subst, suc, sym}
use Rattle.sc_back_reread_laws.proofs.Common.{take, third_word, true, ℕ, ◌&&◌, ◌*◌, ◌++◌, ◌+◌, ◌-◌, ◌<◌, ◌∙◌, ◌∷◌, ◌≡◌}
use Rattle.sc_back_reread_laws.proofs.Common.{◌≤◌}
use Rattle.std.proofs.Common.{bytes_eq, cond, is_some}
use Rattle.std.proofs.lemmas.Bool.{and_parts}
use Rattle.std.proofs.lemmas.List.{length-map}
use Rattle.std.specs.List.{onto_first, slice_split}
use Rattle.std.specs.Option.{option_or}
use Rattle.sc_base.proofs.Texts.{same_text}
use Rattle.sc_lex.specs.Prelude.{Cuts, IsToken, is_empty}
unfoldable use Rattle.sc_lex.specs.Prelude.{heading_name, is_integer_constant, is_mark, line_kind, token_kind}
unfoldable use Rattle.sc_lex.specs.Prelude.{word_kind, words}
use Rattle.sc_lex.specs.Cutting as cutting
use Rattle.sc_lex.specs.declared.token.TokenKind.TheVariants as kind
use Rattle.sc_lex.proofs.Gaps.{token_positive}
use Rattle.sc_lex.proofs.Wording.{heading_fits}
use Rattle.sc_ast.specs.declared.section.Decl.TheVariants as decl
use Rattle.sc_ast.specs.declared.section.ExportLine.{ExportLine}
use Rattle.sc_ast.specs.declared.section.GlobalTree.{GlobalTree}
use Rattle.sc_ast.specs.declared.section.HeadTree.{HeadTree}
use Rattle.sc_ast.specs.declared.section.ParamTree.{ParamTree}
use Rattle.sc_ast.specs.declared.types.BaseTree.{BaseTree}
use Rattle.sc_ast.specs.declared.types.TypeName.{TypeName}
use Rattle.sc_parse_expr.specs.Lexemes.{keyword_texts, look_up}
unfoldable use Rattle.sc_parse_expr.specs.Lexemes.{keyword_of, says}
use Rattle.sc_parse_expr.specs.declared.mark.Keyword.{Keyword}
use Rattle.sc_parse_expr.specs.declared.mark.Keyword.TheVariants as word
use Rattle.sc_parse_expr.specs.declared.lexeme.Symbol.TheVariants as symbol
use Rattle.sc_back.proofs.Sizes.{decls_size, exports_size, imports_size, section_size}
use Rattle.sc_parse.specs.Declarations as decls
use Rattle.sc_parse.specs.Lists as lists
use Rattle.sc_parse.specs.Sections as spell
use Rattle.sc_parse.specs.Types as types

-- SYMBOLS
-- bytes that the words of types have at least
abbrev least_word : Keyword → ℕ
least_word word.Int = 3
least_word word.Signed = 3
least_word word.Struct = 3
least_word word.Unsigned = 3
least_word word.Void = 3
least_word _ = 0

-- bytes that a symbol has at least
abbrev least : Symbol → ℕ
least (symbol.Ident name) = length name
least (symbol.Integer number) = 0
least (symbol.Mark m) = 1
least (symbol.Keyword w) = least_word w
least (symbol.Compartment name) = 20
least (symbol.Export name) = 15 + length name
least (symbol.Import comp name) = 16 + (length comp + length name)

-- the name that a text is
name_is : (text name : List ℕ) → name_of text ≡ Some name → text ≡ name
name_is text name h = by (is_name text) h where
  by : (b : Bool) → (if b then Some text else None) ≡ Some name → text ≡ name
  by true q = cc
  by false q = absurd (cc)

ident_is : (text name : List ℕ) → ident_in text ≡ Some name → text ≡ name
ident_is text name h = by (name_of text) refl h where
  free : (given : List ℕ) → name_of text ≡ Some given → (b : Bool) → (if b then None else Some given) ≡ Some name →
      text ≡ name
  free given e true q = absurd (cc)
  free given e false q = let same : given ≡ name = cc in name_is text given e ∙ same

  by : (o : Option (List ℕ)) → name_of text ≡ o → option_and_then (λ n. ident_of n) o ≡ Some name → text ≡ name
  by None e q = absurd (cc)
  by (Some given) e q = free given e (is_reserved given) q

-- reserved words
word_long : (text : List ℕ) (w : Keyword) (rows : List (List ℕ × Keyword)) →
    AllByRecursion (λ (row : List ℕ × Keyword). least_word row.1 ≤ length row.0) rows → look_up rows text ≡ Some w →
    least_word w ≤ length text
word_long text w [] long h = absurd (cc)
word_long text w (row ∷ rows) long h = by (bytes_eq row.0 text) refl h (word_long text w rows long.1) where
  by : (b : Bool) → bytes_eq row.0 text ≡ b → (if b then Some row.1 else look_up rows text) ≡ Some w →
      (look_up rows text ≡ Some w → least_word w ≤ length text) → least_word w ≤ length text
  by true e q rest =
      let same : row.1 ≡ w = cc in
      subst (λ t. least_word w ≤ length t) (same_text row.0 text e)
      (subst (λ v. least_word v ≤ length row.0) same long.0)
  by false e q rest = rest q

words_long : AllByRecursion (λ (row : List ℕ × Keyword). least_word row.1 ≤ length row.0) keyword_texts
words_long = (
  omega arith,
  (
    omega arith,
    (
      omega arith,
      (
        omega arith,
        (
          omega arith,
          (
            omega arith,
            (
              omega arith,
              (
                omega arith,
                (
                  omega arith,
                  (omega arith, (omega arith, (omega arith, (omega arith, (omega arith, (omega arith, tt)))))),
                ),
              ),
            ),
          ),
        ),
      ),
    ),
  ),
)

keyword_long : (text : List ℕ) (w : Keyword) → keyword_of text ≡ Some w → least_word w ≤ length text
unfolding keyword_of
keyword_long text w h = word_long text w keyword_texts words_long h

-- DIRECTIVES
heading_long : (text name : List ℕ) → heading_name text ≡ Some name → 20 ≤ length text
unfolding heading_name
heading_long text name h = by (begins_heading text) (not (is_blank (slice_index text 20))) refl h where
  by : (b c : Bool) → begins_heading text ≡ b →
      (if b && c then only_name (words (drop 20 text)) else None) ≡ Some name → 20 ≤ length text
  by true c e q = heading_fits text e
  by false c e q = absurd (cc)

-- words with a byte after each
abbrev weight : List (List ℕ) → ℕ
weight [] = 0
weight (w ∷ ws) = suc (length w) + weight ws

onto_weight : (byte n : ℕ) (parts : List (List ℕ)) → weight parts ≡ suc n →
    weight (onto_first byte parts) ≡ suc (suc n)
onto_weight byte n [] h = absurd (omega (arith, h))
onto_weight byte n (part ∷ parts) h = omega (arith, h)

split_weight : (line : List ℕ) → weight (slice_split is_blank line) ≡ suc (length line)
split_weight [] = omega arith
split_weight (byte ∷ line) = by (is_blank byte) (split_weight line) where
  by : (b : Bool) → weight (slice_split is_blank line) ≡ suc (length line) →
      weight (cond b ([] ∷ slice_split is_blank line) (onto_first byte (slice_split is_blank line))) ≡
      suc (suc (length line))
  by true h = omega (arith, h)
  by false h = onto_weight byte (length line) (slice_split is_blank line) h

kept_weight : (parts : List (List ℕ)) → weight (filter (λ part. not (is_empty part)) parts) ≤ weight parts
kept_weight [] = omega arith
kept_weight (part ∷ parts) = by (not (is_empty part)) (kept_weight parts) where
  by : (b : Bool) → weight (filter (λ p. not (is_empty p)) parts) ≤ weight parts →
      weight (if b then part ∷ filter (λ p. not (is_empty p)) parts else filter (λ p. not (is_empty p)) parts) ≤
      suc (length part) + weight parts
  by true h = omega (arith, h)
  by false h = omega (arith, h)

words_weight : (line : List ℕ) → weight (words line) ≤ suc (length line)
unfolding words
words_weight line = omega (arith, kept_weight (slice_split is_blank line), split_weight line)

same_length : (a b : List ℕ) → bytes_eq a b ≡ true → length a ≡ length b
same_length a b h = ap length (same_text a b h)

export_weight : (ws : List (List ℕ)) (name : List ℕ) → is_export ws ≡ true → name_of (get_or ws 2 []) ≡ Some name →
    16 + length name ≤ weight ws
export_weight [] name h k = absurd (false≢true h)
export_weight (p ∷ []) name h k = absurd (false≢true h)
export_weight (p ∷ v ∷ []) name h k = absurd (false≢true h)
export_weight (p ∷ v ∷ n ∷ []) name h k =
    let parts = and_parts (bytes_eq p (codes "#pragma") && bytes_eq v (codes "export")) (is_name n) h in
    let verbs = and_parts (bytes_eq p (codes "#pragma")) (bytes_eq v (codes "export")) parts.0 in
    let one : length p ≡ 7 = same_length p (codes "#pragma") verbs.0 in
    let two : length v ≡ 6 = same_length v (codes "export") verbs.1 in
    let three : length n ≡ length name = ap length (name_is n name k) in
    omega (arith, one, two, three)
export_weight (p ∷ v ∷ n ∷ w ∷ ws) name h k = absurd (false≢true h)

import_weight : (ws : List (List ℕ)) (comp name : List ℕ) → is_import ws ≡ true →
    name_of (get_or ws 2 []) ≡ Some comp → name_of (get_or ws 3 []) ≡ Some name →
    17 + (length comp + length name) ≤ weight ws
import_weight [] comp name h j k = absurd (false≢true h)
import_weight (p ∷ []) comp name h j k = absurd (false≢true h)
import_weight (p ∷ v ∷ []) comp name h j k = absurd (false≢true h)
import_weight (p ∷ v ∷ c ∷ []) comp name h j k = absurd (false≢true h)
import_weight (p ∷ v ∷ c ∷ n ∷ []) comp name h j k =
    let parts = and_parts (bytes_eq p (codes "#pragma") && bytes_eq v (codes "import") && is_name c) (is_name n) h in
    let more = and_parts (bytes_eq p (codes "#pragma") && bytes_eq v (codes "import")) (is_name c) parts.0 in
    let verbs = and_parts (bytes_eq p (codes "#pragma")) (bytes_eq v (codes "import")) more.0 in
    let one : length p ≡ 7 = same_length p (codes "#pragma") verbs.0 in
    let two : length v ≡ 6 = same_length v (codes "import") verbs.1 in
    let three : length c ≡ length comp = ap length (name_is c comp j) in
    let four : length n ≡ length name = ap length (name_is n name k) in
    omega (arith, one, two, three, four)
import_weight (p ∷ v ∷ c ∷ n ∷ w ∷ ws) comp name h j k = absurd (false≢true h)

-- the tests by which a text has its kind
abbrev kind_by : (r n i m p h e im : Bool) → Option TokenKind
kind_by r n i m p h e im = option_or
    (if r then Some kind.Reserved else (if n then Some kind.Ident else (if i then Some kind.Integer else None)))
    (option_or (if m then Some kind.Mark else None) (if p then
    (if h then Some kind.Compartment else (if e then Some kind.Export else (if im then Some kind.Import else None)))
    else None))

abbrev is_of_kind : (export : Bool) → Option TokenKind → Bool
is_of_kind true (Some kind.Export) = true
is_of_kind false (Some kind.Import) = true
is_of_kind _ _ = false

by_export : (r n i m p h e im : Bool) → is_of_kind true (kind_by r n i m p h e im) ≡ true → e ≡ true
by_export true n i m p h e im k = absurd (false≢true k)
by_export false true i m p h e im k = absurd (false≢true k)
by_export false false true m p h e im k = absurd (false≢true k)
by_export false false false true p h e im k = absurd (false≢true k)
by_export false false false false false h e im k = absurd (false≢true k)
by_export false false false false true true e im k = absurd (false≢true k)
by_export false false false false true false true im k = refl
by_export false false false false true false false true k = absurd (false≢true k)
by_export false false false false true false false false k = absurd (false≢true k)

by_import : (r n i m p h e im : Bool) → is_of_kind false (kind_by r n i m p h e im) ≡ true → im ≡ true
by_import true n i m p h e im k = absurd (false≢true k)
by_import false true i m p h e im k = absurd (false≢true k)
by_import false false true m p h e im k = absurd (false≢true k)
by_import false false false true p h e im k = absurd (false≢true k)
by_import false false false false false h e im k = absurd (false≢true k)
by_import false false false false true true e im k = absurd (false≢true k)
by_import false false false false true false true im k = absurd (false≢true k)
by_import false false false false true false false true k = refl
by_import false false false false true false false false k = absurd (false≢true k)

export_is : (text : List ℕ) → token_kind text ≡ Some kind.Export → is_export (words text) ≡ true
unfolding token_kind word_kind line_kind
export_is text h =
    by_export (is_reserved text) (is_name text) (is_integer_constant text) (is_mark text) (is_pragma text)
    (is_some (heading_name text)) (is_export (words text)) (is_import (words text)) (ap (is_of_kind true) h)

import_is : (text : List ℕ) → token_kind text ≡ Some kind.Import → is_import (words text) ≡ true
unfolding token_kind word_kind line_kind
import_is text h =
    by_import (is_reserved text) (is_name text) (is_integer_constant text) (is_mark text) (is_pragma text)
    (is_some (heading_name text)) (is_export (words text)) (is_import (words text)) (ap (is_of_kind false) h)

-- TOKENS
said_long : {A : Type 0} (make : A → Symbol) (count : ℕ) (o : Option A) →
    ((x : A) → o ≡ Some x → least (make x) ≤ count) → least (or_unused (option_map make o)) ≤ count
said_long make count None h = omega arith
said_long make count (Some x) h = h x refl

import_said : (count : ℕ) (o p : Option (List ℕ)) → ((comp name : List ℕ) → o ≡ Some comp → p ≡ Some name →
    16 + (length comp + length name) ≤ count) → least (or_unused (import_symbol o p)) ≤ count
import_said count None p h = omega arith
import_said count (Some comp) None h = omega arith
import_said count (Some comp) (Some name) h = h comp name refl refl

says_long : (k : TokenKind) (text : List ℕ) → token_kind text ≡ Some k → 0 < length text →
    least (or_unused (says k text)) ≤ length text
unfolding says
says_long kind.Ident text is some =
    said_long (λ name. symbol.Ident name) (length text) (ident_in text)
    (λ name h. let same = ap length (ident_is text name h) in omega (arith, same))
says_long kind.Integer text is some =
    said_long (λ number. symbol.Integer number) (length text) (number_in text) (λ number h. omega arith)
says_long kind.Mark text is some =
    said_long (λ m. symbol.Mark m) (length text) (mark_of text) (λ m h. omega (arith, some))
says_long kind.Reserved text is some =
    said_long (λ w. symbol.Keyword w) (length text) (keyword_of text) (keyword_long text)
says_long kind.Compartment text is some =
    said_long (λ name. symbol.Compartment name) (length text) (heading_name text) (heading_long text)
says_long kind.Export text is some =
    said_long (λ name. symbol.Export name) (length text) (third_word text)
    (λ name h. let heavy = export_weight (words text) name (export_is text is) h in
    omega (arith, heavy, words_weight text))
says_long kind.Import text is some =
    import_said (length text) (third_word text) (fourth_word text)
    (λ comp name h k. let heavy = import_weight (words text) comp name (import_is text is) h k in
    omega (arith, heavy, words_weight text))

abbrev bytes_of : List Lexeme → ℕ
bytes_of [] = 0
bytes_of (t ∷ ts) = least t.symbol + bytes_of ts

-- a token has the bytes that it stands at
token_long : (bytes : List ℕ) (at len : ℕ) (k : TokenKind) (directives : Bool) →
    IsToken directives (drop at bytes) k len →
    least (or_unused (says k (slice_range bytes at (at + len)))) ≤ len
token_long bytes at len k directives t =
    let same : at + len - at ≡ len = omega arith in
    let size : length (take len (drop at bytes)) ≡ len = length-take-le len (drop at bytes) t.within in
    let positive = token_positive len t in
    let long = says_long k (take len (drop at bytes)) t.spelled (omega (arith, size, positive)) in
    subst (λ n. least (or_unused (says k (take n (drop at bytes)))) ≤ len) (sym same) (omega (arith, long, size))

cuts_long : (bytes : List ℕ) {at to : ℕ} {tokens : List Token} → Cuts bytes at to tokens →
    at + bytes_of (lexemes_of bytes tokens) ≤ to
cuts_long bytes cutting.nothing = omega arith
cuts_long bytes (cutting.gap len h more) = let rest = cuts_long bytes more in omega (arith, rest)
cuts_long bytes {at} (cutting.token k len h more) =
    let here = token_long bytes at len k _ h in let rest = cuts_long bytes more in omega (arith, here, rest)

-- DECLARATIONS
bytes_both : (ts us : List Lexeme) → bytes_of (ts ++ us) ≡ bytes_of ts + bytes_of us
bytes_both [] us = omega arith
bytes_both (t ∷ ts) us = let rest = bytes_both ts us in omega (arith, rest)

base_long : (ts : List Lexeme) (base : BaseTree) → types.SpellsBase ts base → 3 ≤ bytes_of ts
base_long _ _ (types.int t is) = let n = ap least is in omega (arith, n)
base_long _ _ (types.signed t is) = let n = ap least is in omega (arith, n)
base_long _ _ (types.signed_int t u is more) = let n = ap least is in omega (arith, n)
base_long _ _ (types.unsigned t is) = let n = ap least is in omega (arith, n)
base_long _ _ (types.unsigned_int t u is more) = let n = ap least is in omega (arith, n)
base_long _ _ (types.struct t u tag is more) = let n = ap least is in omega (arith, n)

type_long : (ts : List Lexeme) (ty : TypeName) → types.SpellsTypeName ts ty → 3 ≤ bytes_of ts
type_long _ _ (types.type_name {ts = ts} {us = us} {base = base} first stars) =
    let n = base_long ts base first in omega (arith, n, bytes_both ts us)

param_long : (ts : List Lexeme) (param : ParamTree) → decls.SpellsParam ts param → 3 ≤ bytes_of ts
param_long _ _ (decls.named {ts = ts} {ty = ty} t name is first) =
    let n = type_long ts ty first in omega (arith, n, bytes_both ts (t ∷ []))
param_long _ _ (decls.nameless {ts = ts} {ty = ty} first) = type_long ts ty first

separated_long : (ts : List Lexeme) (params : List ParamTree) → lists.Separated decls.SpellsParam ts params →
    (3 * length params ≤ bytes_of ts) × (1 ≤ length params)
separated_long _ _ (lists.one {ts = ts} {x = x} item) =
    let n = param_long ts x item in (omega (arith, n), omega arith)
separated_long _ _ (lists.more {ts = ts} {us = us} {x = x} {xs = xs} t is item others) =
    let n = param_long ts x item in
    let rest = (separated_long us xs others).0 in
    (omega (arith, n, rest, bytes_both ts (t ∷ us)), omega arith)

params_long : (ts : List Lexeme) (params : List ParamTree) → decls.SpellsParams ts params →
    (3 * length params ≤ bytes_of ts) × (3 ≤ bytes_of ts)
params_long _ _ (decls.no_params t is) = let n = ap least is in (omega (arith, n), omega (arith, n))
params_long _ _ (decls.some_params {ts = ts} {params = params} are) =
    let n = separated_long ts params are in
    let long = n.0 in
    let some = n.1 in
    (long, omega (arith, long, some))

result_long : (ts : List Lexeme) (result : Option TypeName) → decls.SpellsResult ts result → 3 ≤ bytes_of ts
result_long _ _ (decls.no_result t is) = let n = ap least is in omega (arith, n)
result_long _ _ (decls.a_result {ts = ts} {ty = ty} is) = type_long ts ty is

head_long : (ts : List Lexeme) (head : HeadTree) → SpellsHead ts head →
    (5 + length head.name + 3 * length head.params ≤ bytes_of ts) × (8 + length head.name ≤ bytes_of ts)
head_long _ _ (decls.head {ts = ts} {us = us} {result = result} {params = params} t u v name is opens closes first
    between) =
    let n = result_long ts result first in
    let p = params_long us params between in
    let p0 = p.0 in
    let p1 = p.1 in
    let named = ap least is in
    let opened = ap least opens in
    let closed = ap least closes in
    let outer = bytes_both ts (t ∷ u ∷ (us ++ v ∷ [])) in
    let inner = bytes_both us (v ∷ []) in (
      omega (arith, n, p0, named, opened, closed, outer, inner),
      omega (arith, n, p1, named, opened, closed, outer, inner),
    )

sizes_both : (ds es : List Decl) → decls_size (ds ++ es) ≡ decls_size ds + decls_size es
sizes_both [] es = omega arith
sizes_both (d ∷ ds) es = let rest = sizes_both ds es in omega (arith, rest)

globals_size : (trees : List GlobalTree) → decls_size (map (λ tree. decl.Global tree) trees) ≡ 0
globals_size [] = refl
globals_size (tree ∷ trees) = let rest = globals_size trees in omega (arith, rest)

function_long : (ts : List Lexeme) (tree : FunctionTree) → SpellsFunction ts tree →
    7 + length tree.head.name + 3 * length tree.head.params ≤ bytes_of ts
function_long _ _ (decls.function {ts = ts} {us = us} {vs = vs} {head = head} t u opens closes spelled locals body) =
    let h = (head_long ts (head_of head) spelled).0 in
    let count = length-map head.params param_of in
    let opened = ap least opens in
    let closed = ap least closes in
    let outer = bytes_both ts (t ∷ (us ++ (vs ++ u ∷ []))) in
    let middle = bytes_both us (vs ++ u ∷ []) in
    let inner = bytes_both vs (u ∷ []) in
    omega (arith, h, count, opened, closed, outer, middle, inner)

decl_long : (ts : List Lexeme) (ds : List Decl) → SpellsDecl ts ds → decls_size ds ≤ bytes_of ts
decl_long _ _ (decls.a_struct s) = omega arith
decl_long _ _ (decls.globals {trees = trees} d) = let none = globals_size trees in omega (arith, none)
decl_long _ _ (decls.prototype {ts = ts} {tree = tree} t is s) =
    let h = (head_long ts tree s).1 in
    let ended = ap least is in
    omega (arith, h, ended, bytes_both ts (t ∷ []))
decl_long _ _ (decls.a_function {ts = ts} {tree = tree} s) = let h = function_long ts tree s in omega (arith, h)

decls_long : (ts : List Lexeme) (ds : List Decl) → Grouped SpellsDecl ts ds → decls_size ds ≤ bytes_of ts
decls_long _ _ lists.none = omega arith
decls_long _ _ (lists.next {ts = ts} {us = us} {xs = xs} {ys = ys} first others) =
    let here = decl_long ts xs first in
    let rest = decls_long us ys others in
    omega (arith, here, rest, bytes_both ts us, sizes_both xs ys)

-- SECTIONS
directives_long : (ts : List Lexeme) (exports : List ExportLine) (imports : List ImportLine) →
    SpellsDirectives ts exports imports → exports_size exports + imports_size imports ≤ bytes_of ts
directives_long _ _ _ spell.none = omega arith
directives_long _ _ _ (spell.export {ts = ts} {exports = exports} {imports = imports} t name is more) =
    let here = ap least is in
    let rest = directives_long ts exports imports more in
    omega (arith, here, rest)
directives_long _ _ _ (spell.«import» {ts = ts} {exports = exports} {imports = imports} t comp name is more) =
    let here = ap least is in
    let rest = directives_long ts exports imports more in
    omega (arith, here, rest)

section_long : (line : ℕ) (lexemes : List Lexeme) (tree : SectionTree) → SpellsSection line lexemes tree →
    section_size tree ≤ bytes_of lexemes
section_long line _ _ (spell.section {ts = ts} {us = us} {exports = exports} {imports = imports} {decls = ds}
    t name is directives declared) =
    let heading = ap least is in
    let lines = directives_long ts exports imports directives in
    let following = decls_long us ds declared in
    omega (arith, heading, lines, following, bytes_both ts us)

pub read_long : (text : List ℕ) (part : TextPart) (tree : SectionTree) → IsRead text part tree →
    section_size tree ≤ length part.bytes
read_long text part tree r =
    let long = section_long _ (lexemes_of part.bytes r.tokens) tree r.parsed.spelled in
    let cut = cuts_long part.bytes r.cut in
    omega (arith, long, cut)
