-- One turn of a loop.
use Rattle.sc_types_interfaces.proofs.Common.{Agreements, Bool, Decl, ExportLine, ImportLine, List, ParamTree}
use Rattle.sc_types_interfaces.proofs.Common.{SectionTable, Text, [], all_added, ap, arith, decl_broken, decls_broken}
use Rattle.sc_types_interfaces.proofs.Common.{drop, drop-step, drop_all, export_fits, exports_broken, false, get_or}
use Rattle.sc_types_interfaces.proofs.Common.{head_added, head_in, heads_in, import_fits, imports_broken, is_offered_by}
use Rattle.sc_types_interfaces.proofs.Common.{length, numbered, refl, same_params, suc, sym, unless, with_lines}
use Rattle.sc_types_interfaces.proofs.Common.{with_lines-append, with_lines-nil, ℕ, ◌++◌, ◌+◌, ◌<◌, ◌∷◌, ◌≡◌, ◌≤◌}
use Rattle.sc_ast.specs.declared.section.Decl.TheVariants.{Struct}
use Rattle.sc_types_scope.specs.declared.broken.BrokenLines.{BrokenLines}
use Rattle.sc_types_interfaces.specs.declared.imports.Imported.{Imported}

pub reported_back : (broken : BrokenLines) (xs ys : List ℕ) →
    with_lines (with_lines broken xs) ys ≡ with_lines broken (xs ++ ys)
reported_back broken xs ys = sym (with_lines-append broken xs ys)

pub exports_turn : (functions before after : List Text)
    (xs : List ExportLine) (i : ℕ) (x : ExportLine) (holds : Bool) (lines now total : BrokenLines) → i < length xs →
    x ≡ get_or xs i x → holds ≡ export_fits functions before x → now ≡ with_lines lines (unless holds x.line) →
    after ≡ numbered before x.name → with_lines lines (exports_broken functions before (drop i xs)) ≡ total →
    with_lines now (exports_broken functions after (drop (i + 1) xs)) ≡ total
exports_turn functions before after xs i x holds lines now total within is fits reported added earlier =
    grind (arith, with_lines-append, drop-step xs i x within is)

pub imports_turn : (tables : List SectionTable) (importer : ℕ) (functions protos before after : List Text)
    (xs : List ImportLine) (i : ℕ) (x : ImportLine) (holds : Bool) (lines now total : BrokenLines) → i < length xs →
    x ≡ get_or xs i x → holds ≡ import_fits (is_offered_by tables importer x) functions protos before x →
    now ≡ with_lines lines (unless holds x.line) → after ≡ numbered before x.name →
    with_lines lines (imports_broken tables importer functions protos before (drop i xs)) ≡ total →
    with_lines now (imports_broken tables importer functions protos after (drop (i + 1) xs)) ≡ total
imports_turn tables importer functions protos before after xs i x holds lines now total within is fits reported added
    earlier = grind (arith, with_lines-append, drop-step xs i x within is)

pub decls_turn : (table : SectionTable) (imported : Imported) (mains : Bool) (known after : Agreements)
    (xs : List Decl) (i : ℕ) (x : Decl) (lines now total : BrokenLines) → i < length xs → x ≡ get_or xs i x →
    now ≡ with_lines lines (decl_broken table imported mains known x) → after ≡ head_added known (head_in x) →
    with_lines lines (decls_broken table imported mains known (drop i xs)) ≡ total →
    with_lines now (decls_broken table imported mains after (drop (i + 1) xs)) ≡ total
decls_turn table imported mains known after xs i x lines now total within is reported added earlier =
    grind (arith, with_lines-append, drop-step xs i x within is)

-- nothing is left
pub reported_end : (lines total : BrokenLines) (others : List ℕ) → others ≡ [] → with_lines lines others ≡ total →
    lines ≡ total
reported_end lines total others none last = cc (with_lines-nil lines)

pub drop_past : {A : Type 0} → (xs : List A) (i : ℕ) → length xs ≤ i → drop i xs ≡ []
drop_past xs i past = drop_all i xs past

pub all_added_one : (known : Agreements) (decl : Decl) (decls : List Decl) →
    all_added known (heads_in (decl ∷ decls)) ≡ all_added (head_added known (head_in decl)) (heads_in decls)
all_added_one known (Struct tree) decls = refl
all_added_one known _ decls = refl

-- as many parameters
pub same_params_lengths : (params others : List ParamTree) → (length params ≡ length others → ⊥) →
    same_params params others ≡ false
same_params_lengths [] [] differ = absurd (differ refl)
same_params_lengths [] (b ∷ others) differ = refl
same_params_lengths (a ∷ params) [] differ = refl
same_params_lengths (a ∷ params) (b ∷ others) differ =
    grind (arith, same_params_lengths params others (λ same. differ (ap (λ n. suc n) same)))

pub none_reported : (broken : BrokenLines) → with_lines broken [] ≡ broken
none_reported broken = with_lines-nil broken

pub ruleset turns = (reported_back, none_reported, all_added_one)

pub ruleset places = same_params_lengths
