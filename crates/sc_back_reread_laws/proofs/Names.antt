-- Names in trees that were read are identifiers: they come from symbols, which tokens say.
use Rattle.sc_back_reread_laws.proofs.Common.{All-from_recursion, AllByRecursion, AllZip, Bool, Decl, FunctionTree}
use Rattle.sc_back_reread_laws.proofs.Common.{Grouped, ImportLine, IsRead, IsTrue, Lexeme, List, None, Option}
use Rattle.sc_back_reread_laws.proofs.Common.{SectionTree, Some, SpellsDecl, SpellsDirectives, SpellsFunction}
use Rattle.sc_back_reread_laws.proofs.Common.{SpellsHead, SpellsSection, Symbol, TextPart, Token, TokenKind, []}
use Rattle.sc_back_reread_laws.proofs.Common.{and_from, ap, begins_heading, drop, false, fourth_word, get_or, head_of}
use Rattle.sc_back_reread_laws.proofs.Common.{ident_in, ident_of, if◌then◌else◌, import_symbol, is_blank, is_ident}
use Rattle.sc_back_reread_laws.proofs.Common.{is_name}
use Rattle.sc_back_reread_laws.proofs.Common.{is_reserved, keyword_of, lexemes_of, map, mark_of, name_of, not}
use Rattle.sc_back_reread_laws.proofs.Common.{number_in, only_name, option_and_then, option_map, or_unused, refl}
use Rattle.sc_back_reread_laws.proofs.Common.{slice_index, slice_range, subst, third_word, true, ℕ, ◌&&◌, ◌++◌, ◌∷◌}
use Rattle.sc_back_reread_laws.proofs.Common.{◌≡◌}
use Rattle.sc_types_scope.specs.Prelude.{function_names, heads_in}
unfoldable use Rattle.sc_lex.specs.Prelude.{heading_name, words}
use Rattle.sc_lex.specs.declared.token.TokenKind.TheVariants as kind
use Rattle.sc_ast.specs.declared.section.Decl.TheVariants as decl
use Rattle.sc_ast.specs.declared.section.ExportLine.{ExportLine}
use Rattle.sc_ast.specs.declared.section.GlobalTree.{GlobalTree}
use Rattle.sc_ast.specs.declared.section.HeadTree.{HeadTree}
unfoldable use Rattle.sc_parse_expr.specs.Lexemes.{says}
use Rattle.sc_parse_expr.specs.declared.lexeme.Symbol.TheVariants as symbol
use Rattle.sc_parse.specs.Declarations as decls
use Rattle.sc_parse.specs.Lists as lists
use Rattle.sc_parse.specs.Sections as spell
use Rattle.sc_back_reread_laws.specs.Names.{IsIdentifier, IsNamedExport, IsNamedHead, IsNamedImport, IsNamedSection}
use Rattle.sc_back_reread_laws.specs.Names.{NamesAreIdentifiers}

-- What symbols keep.

abbrev Good : Symbol → Type 0
Good (symbol.Ident name) = IsTrue (is_ident name)
Good (symbol.Compartment name) = IsTrue (is_name name)
Good (symbol.Export name) = IsTrue (is_name name)
Good (symbol.Import comp name) = IsTrue (is_name comp) × IsTrue (is_name name)
Good _ = Unit {0}

name_from : (text name : List ℕ) → name_of text ≡ Some name → is_name name ≡ true
name_from text name h = by (is_name text) refl h
  where
    by : (b : Bool) → is_name text ≡ b → (if b then Some text else None) ≡ Some name → is_name name ≡ true
    by true e q = let same : text ≡ name = cc in subst (λ t. is_name t ≡ true) same e
    by false e q = absurd (cc)

ident_from : (text name : List ℕ) → ident_in text ≡ Some name → is_ident name ≡ true
ident_from text name h = by (name_of text) refl h
  where
    free : (word : List ℕ) → is_name word ≡ true → (b : Bool) → is_reserved word ≡ b →
        (if b then None else Some word) ≡ Some name → is_ident name ≡ true
    free word k true e q = absurd (cc)
    free word k false e q =
        let same : word ≡ name = cc in
        subst (λ t. is_ident t ≡ true) same (and_from (is_name word) (not (is_reserved word)) k (ap not e))

    by : (o : Option (List ℕ)) → name_of text ≡ o → option_and_then (λ n. ident_of n) o ≡ Some name →
        is_ident name ≡ true
    by None e q = absurd (cc)
    by (Some word) e q = free word (name_from text word e) (is_reserved word) refl q

only_from : (ws : List (List ℕ)) (name : List ℕ) → only_name ws ≡ Some name → is_name name ≡ true
only_from [] name h = absurd (cc)
only_from (w ∷ []) name h = name_from w name h
only_from (w ∷ v ∷ ws) name h = absurd (cc)

heading_from : (text name : List ℕ) → heading_name text ≡ Some name → is_name name ≡ true
unfolding heading_name
heading_from text name h = by (begins_heading text && not (is_blank (slice_index text 20))) h
  where
    by : (b : Bool) → (if b then only_name (words (drop 20 text)) else None) ≡ Some name → is_name name ≡ true
    by true e = only_from (words (drop 20 text)) name e
    by false e = absurd (cc)

good_ident : (o : Option (List ℕ)) → ((name : List ℕ) → o ≡ Some name → is_ident name ≡ true) →
    Good (or_unused (option_map (λ name. symbol.Ident name) o))
good_ident None h = tt
good_ident (Some name) h = h name refl

good_heading : (o : Option (List ℕ)) → ((name : List ℕ) → o ≡ Some name → is_name name ≡ true) →
    Good (or_unused (option_map (λ name. symbol.Compartment name) o))
good_heading None h = tt
good_heading (Some name) h = h name refl

good_export : (o : Option (List ℕ)) → ((name : List ℕ) → o ≡ Some name → is_name name ≡ true) →
    Good (or_unused (option_map (λ name. symbol.Export name) o))
good_export None h = tt
good_export (Some name) h = h name refl

good_import : (o p : Option (List ℕ)) → ((name : List ℕ) → o ≡ Some name → is_name name ≡ true) →
    ((name : List ℕ) → p ≡ Some name → is_name name ≡ true) → Good (or_unused (import_symbol o p))
good_import None p h k = tt
good_import (Some comp) None h k = tt
good_import (Some comp) (Some name) h k = (h comp refl, k name refl)

good_other : {A : Type 0} (make : A → Symbol) → ((x : A) → Good (make x)) → (o : Option A) →
    Good (or_unused (option_map make o))
good_other make good None = tt
good_other make good (Some x) = good x

good_says : (k : TokenKind) (text : List ℕ) → Good (or_unused (says k text))
unfolding says
good_says kind.Ident text = good_ident (ident_in text) (ident_from text)
good_says kind.Integer text = good_other (λ n. symbol.Integer n) (λ n. tt) (number_in text)
good_says kind.Mark text = good_other (λ m. symbol.Mark m) (λ m. tt) (mark_of text)
good_says kind.Reserved text = good_other (λ w. symbol.Keyword w) (λ w. tt) (keyword_of text)
good_says kind.Compartment text = good_heading (heading_name text) (heading_from text)
good_says kind.Export text = good_export (third_word text) (λ name. name_from (get_or (words text) 2 []) name)
good_says kind.Import text = good_import (third_word text) (fourth_word text)
    (λ name. name_from (get_or (words text) 2 []) name) (λ name. name_from (get_or (words text) 3 []) name)

abbrev GoodLexeme : Lexeme → Type 0
GoodLexeme t = Good t.symbol

abbrev AllGood : List Lexeme → Type 0
AllGood ts = AllByRecursion GoodLexeme ts

all_good : (bytes : List ℕ) (tokens : List Token) → AllGood (lexemes_of bytes tokens)
all_good bytes [] = tt
all_good bytes (t ∷ tokens) = (good_says t.kind (slice_range bytes t.start t.end), all_good bytes tokens)

prefix_good : (ts us : List Lexeme) → AllGood (ts ++ us) → AllGood ts
prefix_good [] us h = tt
prefix_good (t ∷ ts) us h = (h.0, prefix_good ts us h.1)

back_good : (ts us : List Lexeme) → AllGood (ts ++ us) → AllGood us
back_good [] us h = h
back_good (t ∷ ts) us h = back_good ts us h.1

-- What is spelled with them.

head_named : (ts : List Lexeme) (head : HeadTree) → AllGood ts → SpellsHead ts head → IsNamedHead head
head_named _ _ g (decls.head {ts = ts} {us = us} t u v name is opens closes result params) =
    subst Good is (back_good ts (t ∷ u ∷ (us ++ v ∷ [])) g).0

abbrev NamedDecl : Decl → Type 0
NamedDecl (decl.Proto head) = IsIdentifier head.name
NamedDecl (decl.Function tree) = IsIdentifier tree.head.name
NamedDecl _ = Unit {0}

globals_named : (trees : List GlobalTree) → AllByRecursion NamedDecl (map (λ tree. decl.Global tree) trees)
globals_named [] = tt
globals_named (tree ∷ trees) = (tt, globals_named trees)

function_named : (ts : List Lexeme) (tree : FunctionTree) → AllGood ts → SpellsFunction ts tree →
    IsIdentifier tree.head.name
function_named _ _ g (decls.function {ts = ts} {us = us} {vs = vs} {head = head} t u opens closes spelled locals body) =
    head_named ts (head_of head) (prefix_good ts (t ∷ (us ++ (vs ++ u ∷ []))) g) spelled

decl_named : (ts : List Lexeme) (ds : List Decl) → AllGood ts → SpellsDecl ts ds → AllByRecursion NamedDecl ds
decl_named _ _ g (decls.a_struct s) = (tt, tt)
decl_named _ _ g (decls.globals {trees = trees} d) = globals_named trees
decl_named _ _ g (decls.prototype {ts = ts} {tree = tree} t is s) =
    (head_named ts tree (prefix_good ts (t ∷ []) g) s, tt)
decl_named _ _ g (decls.a_function {ts = ts} {tree = tree} s) = (function_named ts tree g s, tt)

named_append : (ds es : List Decl) → AllByRecursion NamedDecl ds → AllByRecursion NamedDecl es →
    AllByRecursion NamedDecl (ds ++ es)
named_append [] es h k = k
named_append (d ∷ ds) es h k = (h.0, named_append ds es h.1 k)

decls_named : (ts : List Lexeme) (ds : List Decl) → AllGood ts → Grouped SpellsDecl ts ds → AllByRecursion NamedDecl ds
decls_named _ _ g lists.none = tt
decls_named _ _ g (lists.next {ts = ts} {us = us} {xs = xs} {ys = ys} first others) =
    named_append xs ys (decl_named ts xs (prefix_good ts us g) first) (decls_named us ys (back_good ts us g) others)

heads_named : (ds : List Decl) → AllByRecursion NamedDecl ds → AllByRecursion IsNamedHead (heads_in ds)
heads_named [] h = tt
heads_named (decl.Struct tree ∷ ds) h = heads_named ds h.1
heads_named (decl.Global tree ∷ ds) h = heads_named ds h.1
heads_named (decl.Proto head ∷ ds) h = (h.0, heads_named ds h.1)
heads_named (decl.Function tree ∷ ds) h = (h.0, heads_named ds h.1)

functions_named : (ds : List Decl) → AllByRecursion NamedDecl ds → AllByRecursion IsIdentifier (function_names ds)
functions_named [] h = tt
functions_named (decl.Struct tree ∷ ds) h = functions_named ds h.1
functions_named (decl.Global tree ∷ ds) h = functions_named ds h.1
functions_named (decl.Proto head ∷ ds) h = functions_named ds h.1
functions_named (decl.Function tree ∷ ds) h = (h.0, functions_named ds h.1)

exports_named : (ts : List Lexeme) (exports : List ExportLine) (imports : List ImportLine) → AllGood ts →
    SpellsDirectives ts exports imports → AllByRecursion IsNamedExport exports
exports_named _ _ _ g spell.none = tt
exports_named _ _ _ g (spell.export {ts = ts} {exports = exports} {imports = imports} t name is more) =
    (subst Good is g.0, exports_named ts exports imports g.1 more)
exports_named _ _ _ g (spell.«import» {ts = ts} {exports = exports} {imports = imports} t comp name is more) =
    exports_named ts exports imports g.1 more

imports_named : (ts : List Lexeme) (exports : List ExportLine) (imports : List ImportLine) → AllGood ts →
    SpellsDirectives ts exports imports → AllByRecursion IsNamedImport imports
imports_named _ _ _ g spell.none = tt
imports_named _ _ _ g (spell.export {ts = ts} {exports = exports} {imports = imports} t name is more) =
    imports_named ts exports imports g.1 more
imports_named _ _ _ g (spell.«import» {ts = ts} {exports = exports} {imports = imports} t comp name is more) =
    let names = subst Good is g.0 in
    (record { comp = names.0; name = names.1 }, imports_named ts exports imports g.1 more)

section_named : (line : ℕ) (lexemes : List Lexeme) (tree : SectionTree) → AllGood lexemes →
    SpellsSection line lexemes tree → IsNamedSection tree
section_named line _ _ g (spell.section {ts = ts} {us = us} {exports = exports} {imports = imports} {decls = ds}
    t name is directives declared) =
    let prefix = prefix_good ts us g.1 in
    let named = decls_named us ds (back_good ts us g.1) declared in
    record {
      name = subst Good is g.0;
      exports = All-from_recursion _ _ (exports_named ts exports imports prefix directives);
      imports = All-from_recursion _ _ (imports_named ts exports imports prefix directives);
      heads = All-from_recursion _ _ (heads_named ds named);
      functions = All-from_recursion _ _ (functions_named ds named);
    }

read_named : (text : List ℕ) (part : TextPart) (tree : SectionTree) → IsRead text part tree → IsNamedSection tree
read_named text part tree r =
    section_named _ (lexemes_of part.bytes r.tokens) tree (all_good part.bytes r.tokens) r.parsed.spelled

all_named : (text : List ℕ) (parts : List TextPart) (trees : List SectionTree) → AllZip (IsRead text) parts trees →
    AllByRecursion IsNamedSection trees
all_named text [] [] h = tt
all_named text [] (t ∷ trees) h = absurd h
all_named text (p ∷ parts) [] h = tt
all_named text (p ∷ parts) (t ∷ trees) h = (read_named text p t h.0, all_named text parts trees h.1)

pub names_are_identifiers : NamesAreIdentifiers
names_are_identifiers text trees reads = All-from_recursion _ _ (all_named text reads.sections trees reads.each)
