-- Sections are read exactly as they are spelled, within the limits of height and of brackets, and no lexemes spell two.
use Rattle.sc_base.specs.Prelude.{most_brackets, most_height}
use Rattle.sc_parse.proofs.Common.{Decl, Grouped, Lexeme, List, SectionTree, Some, SpellsDecl, SpellsSection, Symbol}
use Rattle.sc_parse.proofs.Common.{[], ap, append-nil, arith, bound, compartment_at, compartment_by, decl_height}
use Rattle.sc_parse.proofs.Common.{decls_at, decls_height, directives, directives_at, false≢true, is_empty, length}
use Rattle.sc_parse.proofs.Common.{length-append, max, most_open, none-some, refl, same_some, section, section_at}
use Rattle.sc_parse.proofs.Common.{section_height, section_tree, section_within, subst, sym, true, ℕ, ◌++◌, ◌+◌, ◌>>=◌}
use Rattle.sc_parse.proofs.Common.{◌∙◌, ◌∷◌, ◌≡◌, ◌≤◌}
use Rattle.sc_parse_expr.specs.declared.lexeme.Symbol.TheVariants as symbol
use Rattle.sc_parse.specs.Lists as lists
use Rattle.sc_parse.proofs.Exact.{Adds, Form, Low, Turns, adding, fits_after, from_none, grouped_sound, groups_apart}
use Rattle.sc_parse.proofs.Exact.{groups_joined, same_pair}
use Rattle.sc_parse.proofs.Expressions.{Few, few}
use Rattle.sc_parse.proofs.Beginnings.{NoLine, IsDecls, all_exact, decl_exact, decl_no_line}
use Rattle.sc_parse.proofs.Directing.{lines_sound, lines_complete}

-- the lexemes begin with a compartment line
record Compartment (ts rest : List Lexeme) (name : List ℕ) : Type 0 where
  first : Lexeme
  is : ts ≡ first ∷ rest
  names : first.symbol ≡ symbol.Compartment name

compartment_is : (s : Symbol) (name : List ℕ) → compartment_by s ≡ Some name → s ≡ symbol.Compartment name
compartment_is (symbol.Compartment other) name h = ap (λ n. symbol.Compartment n) (same_some h)
compartment_is _ name h = absurd (none-some name h)

compartment_ahead : (ts rest : List Lexeme) (name : List ℕ) → compartment_at ts ≡ Some (name, rest) →
    Compartment ts rest name
compartment_ahead [] rest name h = absurd (none-some _ h)
compartment_ahead (t ∷ ts) rest name h =
    let b = bound _ _ _ h in
    let same = same_pair b.2 in
    record {
      first = t;
      is = ap (λ l. t ∷ l) same.1;
      names = compartment_is _ b.0 b.1 ∙ ap (λ n. symbol.Compartment n) same.0;
    }

-- declarations up to the end, at most `limit` high
abbrev Declared : ℕ → Form (List Decl)
Declared limit = Low (Grouped SpellsDecl) decls_height limit

ended : (rest : List Lexeme) → is_empty rest ≡ true → rest ≡ []
ended [] h = refl
ended (t ∷ rest) h = absurd (false≢true h)

all_declared : {limit : ℕ} → Turns (Adds (Grouped (IsDecls limit)) []) (Declared limit)
all_declared {limit} _ _ (adding g) = groups_apart decl_height limit g

decls_sound : (free limit : ℕ) (ts rest : List Lexeme) (zs : List Decl) → decls_at free limit ts ≡ Some (zs, rest) →
    Declared limit ts zs × (rest ≡ [])
decls_sound free limit ts rest zs h =
    let g = grouped_sound (few free) _ (decl_exact free limit) (length ts + 1) [] ts rest zs h in
    let end = ended rest g.1 in (
      subst (λ l. Declared limit l zs) (sym (g.0.split ∙ ap (λ l. g.0.taken ++ l) end ∙ append-nil _))
          (all_declared _ _ g.0.spelled),
      end,
    )

-- a section that is at most `limit` high
abbrev pub IsSection : ℕ → ℕ → Form SectionTree
IsSection limit line = Low (SpellsSection line) section_height limit

within_sound : (free limit line : ℕ) (ts rest : List Lexeme) (x : SectionTree) →
    section_within free limit line ts ≡ Some (x, rest) → IsSection limit line ts x × (rest ≡ [])
unfolding section_within
within_sound free limit line ts rest x h =
    let b = bound (λ x. directives_at x.1 >>= (λ y. decls_at free limit y.1 >>=
    (λ z. Some (section_tree x.0 line y.0 z.0, z.1)))) (compartment_at ts) (x, rest) h in
    let c = bound (λ y. decls_at free limit y.1 >>= (λ z. Some (section_tree b.0.0 line y.0 z.0, z.1)))
    (directives_at b.0.1) (x, rest) b.2 in
    let d = bound (λ z. Some (section_tree b.0.0 line c.0.0 z.0, z.1)) (decls_at free limit c.0.1) (x, rest) c.2 in
    let same = same_pair d.2 in
    let first = compartment_ahead ts b.0.1 b.0.0 b.1 in
    let lines = lines_sound (length b.0.1 + 1) (directives [] []) c.0.0 b.0.1 c.0.1 c.1 in
    let decls = decls_sound free limit c.0.1 d.0.1 d.0.0 d.1 in
    let found : directives lines.exports lines.imports ≡ c.0.0 = rw (sym lines.all_exports, sym lines.all_imports) in
    let made : IsSection limit line (first.first ∷ (lines.taken ++ c.0.1))
    (section_tree b.0.0 line (directives lines.exports lines.imports) d.0.0) =
    (section first.first b.0.0 first.names lines.spelled decls.0.0, decls.0.1) in
    let all : ts ≡ first.first ∷ (lines.taken ++ c.0.1) = first.is ∙ ap (λ l. first.first ∷ l) lines.split in (
      subst (λ l. IsSection limit line l x) (sym all) (subst
          (IsSection limit line (first.first ∷ (lines.taken ++ c.0.1)))
          (ap (λ f. section_tree b.0.0 line f d.0.0) found ∙ same.0) made),
      sym same.1 ∙ decls.1,
    )

decls_no_line : {ts : List Lexeme} {zs : List Decl} (d : Grouped SpellsDecl ts zs) → NoLine ts
decls_no_line lists.none = refl
decls_no_line (lists.next {ts = ts} {us = us} d g) = decl_no_line d us

within_complete : (free limit : ℕ) {line : ℕ} {ts : List Lexeme} {x : SectionTree} (d : SpellsSection line ts x) →
    section_height x ≤ limit → Few free ts → section_within free limit line ts ≡ Some (x, [])
unfolding section_within
within_complete free limit {line} (section {ts = ts} {us = us} {exports = exports} {imports = imports} {decls = decls} t
    name p d g) low all_fit =
    let lines = lines_complete d (length (ts ++ us) + 1) [] [] us (omega (arith, length-append ts us))
    (decls_no_line g) in
    let fits = (few free).right ts us (fits_after (few free) t (ts ++ us) all_fit) in
    let read : decls_at free limit us ≡ Some _ =
    ap (decls_at free limit) (sym (append-nil us)) ∙
    (from_none (all_exact free limit)).complete us decls (groups_joined decl_height limit g low) [] fits refl in
    rw (p, lines, read)

-- what is read as a section is spelled so, to the end, and is at most 256 high
pub section_sound : (line : ℕ) (ts rest : List Lexeme) (x : SectionTree) → section_at line ts ≡ Some (x, rest) →
    IsSection most_height line ts x × (rest ≡ [])
section_sound line ts rest x h = within_sound most_brackets most_height line ts rest x h

-- what is spelled as a section, at most 256 high and with 1,024 open brackets at most, is read so
pub section_complete : {line : ℕ} {ts : List Lexeme} {x : SectionTree} (d : SpellsSection line ts x) →
    section_height x ≤ most_height → most_open 0 ts ≤ most_brackets → section_at line ts ≡ Some (x, [])
section_complete d low few = within_complete most_brackets most_height d low few

-- lexemes spell one section at most
pub sections_agree : (line : ℕ) (ts : List Lexeme) (x y : SectionTree) → SpellsSection line ts x →
    SpellsSection line ts y → x ≡ y
sections_agree line ts x y d g =
    let free = most_open 0 ts in
    let limit = max (section_height x) (section_height y) in
    let first = within_complete free limit d (omega arith) (omega arith) in
    let second = within_complete free limit g (omega arith) (omega arith) in
    ap (λ p. p.0) (same_some (sym first ∙ second))
