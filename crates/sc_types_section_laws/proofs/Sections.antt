-- A typed section follows from its own bytes and the interfaces.
use Rattle.std.proofs.Common.{List, None, Option, Some, [], ap, ap₂, if◌then◌else◌, map, option_map, refl, slice_get}
use Rattle.std.proofs.Common.{subst, suc, sym, zero, ℕ, ◌+◌, ◌∙◌, ◌∷◌, ◌≡◌, arith, bytes_eq}
use Rattle.std.proofs.lemmas.Option.{slice_get-map}
use Rattle.std.specs.List.{AllZip}
use Rattle.std.specs.Prelude.{Bool, true, false}
use Rattle.sc_base.specs.Prelude.{number_by_name}
use Rattle.sc_event.specs.declared.interface.Interface.{Interface}
use Rattle.sc_event.specs.declared.interface.Interfaces.{Interfaces}
use Rattle.sc_lex.specs.Prelude.{IsCut}
use Rattle.sc_lex.specs.Lines.{line_at}
use Rattle.sc_lex.specs.declared.section.Section.{Section}
use Rattle.sc_lex.specs.declared.token.Token.{Token}
use Rattle.sc_ast.specs.declared.section.ImportLine.{ImportLine}
use Rattle.sc_ast.specs.declared.section.SectionTree.{SectionTree}
use Rattle.sc_parse.specs.Prelude.{SpellsSection, lexemes_of, section}
use Rattle.sc_parse_expr.specs.declared.lexeme.Lexeme.{Lexeme}
use Rattle.sc_parse_read.specs.Reading.{IsRead, TextPart, part_of}
use Rattle.sc_parse_read.proofs.Splits.{same_parts}
use Rattle.sc_core.specs.declared.program.ProgramTree.{ProgramTree}
use Rattle.sc_core.specs.declared.section.TypedSection.{TypedSection}
use Rattle.sc_types_scope.specs.Prelude.{function_names, import_of, interface_of, interfaces_from}
use Rattle.sc_types_elab_expr.specs.Prelude.{target_or}
use Rattle.sc_types_elab.specs.Sections as elab
use Rattle.sc_types_elab.specs.Sections.{callees_of, import_named, import_target, imported_target, program_of}
use Rattle.sc_types_elab.specs.Sections.{sections_from, typed_section}
use Rattle.sc_types.specs.Prelude.{Accepts, IsSource, SourceParts}
use Rattle.sc_types_section_laws.specs.Sections.{SectionsAreTypedAlone}

-- TREES
-- a section at another line of the text
abbrev moved : ℕ → SectionTree → SectionTree
moved line tree = record tree { line = line }

spells_moved : {line : ℕ} {lexemes : List Lexeme} {tree : SectionTree} (other : ℕ) →
    SpellsSection line lexemes tree → SpellsSection other lexemes (moved other tree)
spells_moved other (section t name is directives decls) = section t name is directives decls

-- A part of a text and the tree that it is read as, or neither.
abbrev ReadThere : (text : List ℕ) → Option TextPart → Option SectionTree → Type 0
ReadThere text None None = Unit {0}
ReadThere text (Some part) (Some tree) = IsRead text part tree
ReadThere text _ _ = ⊥

read_there : (text : List ℕ) (comp : ℕ) (parts : List TextPart) (trees : List SectionTree) →
    AllZip (IsRead text) parts trees → ReadThere text (slice_get parts comp) (slice_get trees comp)
read_there text comp [] [] h = tt
read_there text comp [] (tree ∷ trees) h = absurd h
read_there text comp (part ∷ parts) [] h = absurd h
read_there text zero (part ∷ parts) (tree ∷ trees) h = h.0
read_there text (suc comp) (part ∷ parts) (tree ∷ trees) h = read_there text comp parts trees h.1

-- TYPES
-- where two lists of sections give the same imports for these lines, they do for each of them
same_target : (trees others : List SectionTree) (comp : ℕ) (name : List ℕ) (lines : List ImportLine) →
    map (import_of trees comp) lines ≡ map (import_of others comp) lines →
    imported_target trees comp (import_named name lines) ≡ imported_target others comp (import_named name lines)
same_target trees others comp name [] same = refl
same_target trees others comp name (line ∷ lines) same =
    by (bytes_eq line.name name) (same_target trees others comp name lines (rest same)) where
      rest : map (import_of trees comp) (line ∷ lines) ≡ map (import_of others comp) (line ∷ lines) →
          map (import_of trees comp) lines ≡ map (import_of others comp) lines
      rest h = cc h

      first : map (import_of trees comp) (line ∷ lines) ≡ map (import_of others comp) (line ∷ lines) →
          import_of trees comp line ≡ import_of others comp line
      first h = cc h

      by : (is : Bool) → imported_target trees comp (import_named name lines) ≡
          imported_target others comp (import_named name lines) →
          imported_target trees comp (if is then Some line else import_named name lines) ≡
          imported_target others comp (if is then Some line else import_named name lines)
      by true later = ap import_target (first same)
      by false later = later

same_typed : (trees others : List SectionTree) (comp line : ℕ) (tree : SectionTree) →
    map (import_of trees comp) tree.imports ≡ map (import_of others comp) tree.imports →
    typed_section tree (callees_of trees comp tree) ≡
    typed_section (moved line tree) (callees_of others comp (moved line tree))
unfolding elab.typed_locals elab.typed_structs
same_typed trees others comp line tree same = λ i. typed_section tree (record {
  signature = (callees_of trees comp tree).signature;
  target = λ name. target_or (number_by_name (function_names tree.decls) name)
      (same_target trees others comp name tree.imports same i);
})

-- the section and the interface of a number, by the trees
abbrev typed_by : List SectionTree → (number : ℕ) → Option SectionTree → Option TypedSection
typed_by trees number found = option_map (λ tree. typed_section tree (callees_of trees number tree)) found

abbrev interface_by : List SectionTree → (number : ℕ) → Option SectionTree → Option Interface
interface_by trees number found = option_map (interface_of trees number) found

module _ (trees : List SectionTree) (number : ℕ) where
  section_at : (k place : ℕ) (rest : List SectionTree) → k + place ≡ number →
      slice_get (sections_from trees k rest) place ≡ typed_by trees number (slice_get rest place)
  section_at k place [] is = refl
  section_at k zero (tree ∷ rest) is =
      let here : k ≡ number = omega (arith, is) in
      ap (λ n. Some (typed_section tree (callees_of trees n tree))) here
  section_at k (suc place) (tree ∷ rest) is = section_at (suc k) place rest (omega (arith, is))

  interface_at : (k place : ℕ) (rest : List SectionTree) → k + place ≡ number →
      slice_get (interfaces_from trees k rest) place ≡ interface_by trees number (slice_get rest place)
  interface_at k place [] is = refl
  interface_at k zero (tree ∷ rest) is =
      let here : k ≡ number = omega (arith, is) in ap (λ n. Some (interface_of trees n tree)) here
  interface_at k (suc place) (tree ∷ rest) is = interface_at (suc k) place rest (omega (arith, is))

abbrev bytes_of : Option TextPart → Option (List ℕ)
bytes_of found = option_map (λ part. part.bytes) found

-- THE LAW
module _ (one_cut : (bytes : List ℕ) (tokens others : List Token) → IsCut bytes tokens → IsCut bytes others →
    tokens ≡ others) (one_section : (line : ℕ) (lexemes : List Lexeme) (s t : SectionTree) →
    SpellsSection line lexemes s → SpellsSection line lexemes t → s ≡ t) where
  same_tree : (text its : List ℕ) (part its_part : TextPart) (tree its_tree : SectionTree) →
      part.bytes ≡ its_part.bytes → IsRead text part tree → IsRead its its_part its_tree →
      moved (line_at its its_part.start) tree ≡ its_tree
  same_tree text its part its_part tree its_tree same r q =
      let cut : IsCut part.bytes q.tokens = subst (λ bytes. IsCut bytes q.tokens) (sym same) q.cut in
      let tokens : r.tokens ≡ q.tokens = one_cut part.bytes r.tokens q.tokens r.cut cut in
      one_section (line_at its its_part.start) (lexemes_of its_part.bytes q.tokens)
      (moved (line_at its its_part.start) tree) its_tree
      (subst (λ lexemes. SpellsSection (line_at its its_part.start) lexemes
      (moved (line_at its its_part.start) tree)) (ap₂ lexemes_of same tokens)
      (spells_moved (line_at its its_part.start) r.parsed.spelled)) q.parsed.spelled

  module _ (text its : List ℕ) (trees others : List SectionTree) (comp : ℕ) where
    same_there : (part its_part : Option TextPart) (tree its_tree : Option SectionTree) →
        ReadThere text part tree → ReadThere its its_part its_tree →
        bytes_of part ≡ bytes_of its_part → interface_by trees comp tree ≡ interface_by others comp its_tree →
        typed_by trees comp tree ≡ typed_by others comp its_tree
    same_there None None None None r q bytes faces = refl
    same_there (Some part) (Some its_part) (Some tree) (Some its_tree) r q bytes faces =
        let line : ℕ = line_at its its_part.start in
        let same : moved line tree ≡ its_tree =
        same_tree text its part its_part tree its_tree (cc bytes) r q in
        let faces_too : Some (interface_of trees comp tree) ≡ Some (interface_of others comp (moved line tree)) =
        faces ∙ ap (λ t. Some (interface_of others comp t)) (sym same) in
        let imports : map (import_of trees comp) tree.imports ≡ map (import_of others comp) tree.imports =
        imports_of _ _ faces_too in
        ap Some (same_typed trees others comp line tree imports) ∙
        ap (λ t. Some (typed_section t (callees_of others comp t))) same where
          imports_of : (face its_face : Interface) → Some face ≡ Some its_face → face.imports ≡ its_face.imports
          imports_of face its_face is = cc is
    same_there None (Some its_part) tree its_tree r q bytes faces = absurd (cc bytes)
    same_there (Some part) None tree its_tree r q bytes faces = absurd (cc bytes)
    same_there None None (Some tree) its_tree r q bytes faces = absurd r
    same_there None None None (Some its_tree) r q bytes faces = absurd q
    same_there (Some part) (Some its_part) None its_tree r q bytes faces = absurd r
    same_there (Some part) (Some its_part) (Some tree) None r q bytes faces = absurd q

  module _ (source : SourceParts) (is : IsSource source) (comp : ℕ) where
    abbrev accepted : Accepts source.bytes source.program
    accepted = is.accepted

    parts_so : slice_get source.sections comp ≡
        bytes_of (slice_get accepted.reads.sections comp)
    parts_so =
        ap (λ sections. slice_get sections comp) (is.split.bytes ∙ twice is.split.found
        ∙ ap (λ parts. map {A = TextPart} (λ p. p.bytes) parts)
        (same_parts is.split.split accepted.reads.lexed.split ∙ sym accepted.reads.lexed.parts))
        ∙ slice_get-map (λ p. p.bytes) accepted.reads.sections comp where
          twice : (found : List Section) → map {A = Section} (λ s. s.bytes.now) found ≡
              map {A = TextPart} (λ p. p.bytes) (map part_of found)
          twice [] = refl
          twice (s ∷ found) = ap (λ more. s.bytes.now ∷ more) (twice found)

    section_so : slice_get source.program.sections comp ≡
        typed_by accepted.sections comp (slice_get accepted.sections comp)
    section_so =
        ap (λ (p : ProgramTree). slice_get p.sections comp) accepted.typed.is
        ∙ section_at accepted.sections comp 0 comp accepted.sections (omega arith)

    interface_so : slice_get source.program.interfaces.comps comp ≡
        interface_by accepted.sections comp (slice_get accepted.sections comp)
    interface_so =
        ap (λ (p : ProgramTree). slice_get p.interfaces.comps comp) accepted.typed.is
        ∙ interface_at accepted.sections comp 0 comp accepted.sections (omega arith)

  pub sections_are_typed_alone : SectionsAreTypedAlone
  sections_are_typed_alone source other comp is its interfaces bytes =
      section_so source is comp ∙
      same_there source.bytes other.bytes is.accepted.sections its.accepted.sections comp
      (slice_get is.accepted.reads.sections comp) (slice_get its.accepted.reads.sections comp)
      (slice_get is.accepted.sections comp) (slice_get its.accepted.sections comp)
      (read_there source.bytes comp _ _ is.accepted.reads.each)
      (read_there other.bytes comp _ _ its.accepted.reads.each)
      (sym (parts_so source is comp) ∙ bytes ∙ parts_so other its comp)
      (sym (interface_so source is comp) ∙ ap (λ (i : Interfaces). slice_get i.comps comp) interfaces ∙
      interface_so other its comp) ∙
      sym (section_so other its comp)
