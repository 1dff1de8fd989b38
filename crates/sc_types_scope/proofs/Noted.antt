-- The loops over locals, declarations and sections, one step further.
use Rattle.sc_types_scope.proofs.Common.{Bool, BrokenLines, Decl, Function, FunctionTree, Global, List, LocalTree}
use Rattle.sc_types_scope.proofs.Common.{Option, Proto, SectionTree, Struct, Text, [], all_in, ap, append-nil}
use Rattle.sc_types_scope.proofs.Common.{append_assoc, arith, decl_name_lines, declared, drop, drop_all, false}
use Rattle.sc_types_scope.proofs.Common.{filter_map}
use Rattle.sc_types_scope.proofs.Common.{function_name_lines, get_or, head_of_known, known, length, name_lines_from}
use Rattle.sc_types_scope.proofs.Common.{local_known}
use Rattle.sc_types_scope.proofs.Common.{local_names, locals_from, map, map-append, names_broken, noted_all}
use Rattle.sc_types_scope.proofs.Common.{param_names, refl, section_name_lines, stmt_name_lines, take, unless}
use Rattle.sc_types_scope.proofs.Common.{with_decl}
use Rattle.sc_types_scope.proofs.Common.{with_lines, ℕ, ◌++◌, ◌+◌, ◌<◌, ◌∙◌, ◌∷◌, ◌≡◌, ◌≤◌}
use Rattle.std.proofs.lemmas.List.Elements.{filter_map-append}
use Rattle.sc_types_scope.specs.declared.section_names.SectionNames.{SectionNames}
use Rattle.sc_types_scope.proofs.Lines.{done, noted_all-append, with_lines-append}
use Rattle.sc_types_scope.proofs.Statements.{body-lines}
use Rattle.sc_base.proofs.Lists.{drop-step, take-step}

-- what is there and what is left to add, one item further
pub pushed : {A B : Type 0} (f : A → B) (xs : List A) (i : ℕ) (x : A) (a b all : List B) → i < length xs →
    x ≡ get_or xs i x → a ++ map f (drop i xs) ≡ all → b ≡ a ++ f x ∷ [] → b ++ map f (drop (i + 1) xs) ≡ all
pushed f xs i x a b all lt is p q = cc (append_assoc a (f x ∷ []) (map f (drop (i + 1) xs)), drop-step xs i x lt is)

-- Locals.

pub local-noted : (names : SectionNames) (own more : List Text) (locals : List LocalTree) (i : ℕ) (local : LocalTree)
    (holds : Bool) (old a b : BrokenLines) (all : List ℕ) → i < length locals → local ≡ get_or locals i local →
    with_lines a (locals_from names.structs names.globals own (drop i locals)) ≡ with_lines old all →
    holds ≡ local_known names.structs names.globals own local → more ≡ own ++ local.name ∷ [] →
    b ≡ with_lines a (unless holds local.line) → with_lines b
    (locals_from names.structs names.globals more (drop (i + 1) locals)) ≡ with_lines old all
local-noted names own more locals i local holds old a b all lt is p h m q =
    grind (arith, with_lines-append, drop-step locals i local lt is)

pub locals-noted : (names : SectionNames) (own : List Text) (locals : List LocalTree) (i : ℕ) (old a : BrokenLines)
    (all : List ℕ) → length locals ≤ i → with_lines a (locals_from names.structs names.globals own (drop i locals)) ≡
    with_lines old all → a ≡ with_lines old all
locals-noted names own locals i old a all le p = done old a _ all p (ap (locals_from _ _ own) (drop_all i locals le))

-- Functions.

module _ (names : SectionNames) (tree : FunctionTree) where
  abbrev body_of : List Text → List ℕ
  body_of own = all_in (known names own) false (map (stmt_name_lines (known names own)) tree.body)

  abbrev local_part : List Text → List ℕ
  local_part own = locals_from names.structs names.globals own tree.locals

  pub function-noted : (holds : Bool) (own all : List Text) (old a b c : BrokenLines) →
      holds ≡ head_of_known names tree → own ≡ param_names tree → all ≡ own ++ local_names tree →
      a ≡ with_lines old (unless holds tree.head.line) → b ≡ with_lines a (local_part own) →
      c ≡ with_lines b (body_of all) → c ≡ with_lines old (function_name_lines names tree)
  function-noted holds own all old a b c h o l p q r =
      grind (arith, with_lines-append, body-lines (known names all) tree.body)

-- Declarations.

names-more : {A : Type 0} (pick : Decl → Option A) (name_in : A → Text) (before : List Decl) (decl : Decl) →
    map name_in (filter_map pick (before ++ decl ∷ [])) ≡
    map name_in (filter_map pick before) ++ map name_in (filter_map pick (decl ∷ []))
names-more pick name_in before decl = ap (map _) (filter_map-append _ before _) ∙ map-append _ _ _

made : (names : SectionNames) (structs globals functions protos : List Text) → names.structs ≡ structs →
    names.globals ≡ globals → names.functions ≡ functions → names.protos ≡ protos →
    names ≡ record names { structs = structs; globals = globals; functions = functions; protos = protos }
made names structs globals functions protos s g f p =
    λ i. record names { structs = s i; globals = g i; functions = f i; protos = p i }

declared-more : (section : SectionTree) (before : List Decl) (decl : Decl) →
    declared section (before ++ decl ∷ []) ≡ with_decl (declared section before) decl
declared-more section before (Struct tree) = made _ _ _ _ _ (names-more _ _ before _) (names-more _ _ before _
    ∙ append-nil _) (names-more _ _ before _ ∙ append-nil _) (names-more _ _ before _ ∙ append-nil _)
declared-more section before (Global tree) = made _ _ _ _ _ (names-more _ _ before _ ∙ append-nil _)
    (names-more _ _ before _) (names-more _ _ before _ ∙ append-nil _) (names-more _ _ before _ ∙ append-nil _)
declared-more section before (Proto head) = made _ _ _ _ _ (names-more _ _ before _ ∙ append-nil _)
    (names-more _ _ before _ ∙ append-nil _) (names-more _ _ before _ ∙ append-nil _) (names-more _ _ before _)
declared-more section before (Function tree) = made _ _ _ _ _ (names-more _ _ before _ ∙ append-nil _)
    (names-more _ _ before _ ∙ append-nil _) (names-more _ _ before _) (names-more _ _ before _ ∙ append-nil _)

-- the names before the next declaration
pub declared-step : (section : SectionTree) (decls : List Decl) (i : ℕ) (decl : Decl) (names more : SectionNames) →
    i < length decls → decl ≡ get_or decls i decl → names ≡ declared section (take i decls) →
    more ≡ with_decl names decl → more ≡ declared section (take (i + 1) decls)
declared-step section decls i decl names more lt is n m =
    cc (declared-more section (take i decls) decl, take-step decls i decl lt is)

pub decl-noted : (section : SectionTree) (decls : List Decl) (i : ℕ) (decl : Decl) (names : SectionNames)
    (old a b : BrokenLines) (all : List ℕ) → i < length decls → decl ≡ get_or decls i decl →
    names ≡ declared section (take i decls) → with_lines a (name_lines_from section (take i decls) (drop i decls)) ≡
    with_lines old all → b ≡ with_lines a (decl_name_lines names decl) →
    with_lines b (name_lines_from section (take (i + 1) decls) (drop (i + 1) decls)) ≡ with_lines old all
decl-noted section decls i decl names old a b all lt is n p q =
    grind (arith, with_lines-append, drop-step decls i decl lt is, take-step decls i decl lt is)

pub decls-noted : (section : SectionTree) (decls : List Decl) (i : ℕ) (old a : BrokenLines) (all : List ℕ) →
    length decls ≤ i → with_lines a (name_lines_from section (take i decls) (drop i decls)) ≡ with_lines old all →
    a ≡ with_lines old all
decls-noted section decls i old a all le p = done old a _ all p (ap (name_lines_from section _) (drop_all i decls le))

-- Sections.

pub noted-none : (least : Option ℕ) → noted_all least [] ≡ least
unfolding noted_all
noted-none least = refl

pub section-noted : (sections : List SectionTree) (i : ℕ) (section : SectionTree) (least : Option ℕ)
    (lines : BrokenLines) (all : Option ℕ) → i < length sections → section ≡ get_or sections i section → noted_all least
    (names_broken (drop i sections)) ≡ all → lines ≡ with_lines (record { start = section.line; least = least })
    (section_name_lines section) → noted_all lines.least (names_broken (drop (i + 1) sections)) ≡ all
section-noted sections i section least lines all lt is p q =
    grind (arith, noted_all-append, drop-step sections i section lt is)

pub sections-noted : (sections : List SectionTree) (i : ℕ) (least : Option ℕ) (all : Option ℕ) → length sections ≤ i →
    noted_all least (names_broken (drop i sections)) ≡ all → least ≡ all
sections-noted sections i least all le p =
    cc (noted-none least, drop_all i sections le)
