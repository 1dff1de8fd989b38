-- A section that performs is at most seven times as long as the one before, rows aside.
use Rattle.sc_back_performer_laws.proofs.Common.{AllByRecursion, Bool, Decl, Each, Entry, Export, ExportFacts}
use Rattle.sc_back_performer_laws.proofs.Common.{ExportLine, FunctionTree, HeadTree, ImportFacts, ImportLine}
use Rattle.sc_back_performer_laws.proofs.Common.{Interfaces, IsCalled, IsImported, List, Proto, Row, SectionTree, Some}
use Rattle.sc_back_performer_laws.proofs.Common.{Text, [], among, and_parts, ap, are_distinct, arith, bytes_eq, codes}
use Rattle.sc_back_performer_laws.proofs.Common.{counts_broken, export_names, false, false≢true, fresh_distinct}
use Rattle.sc_back_performer_laws.proofs.Common.{function_decls, function_named, if◌then◌else◌, import_names}
use Rattle.sc_back_performer_laws.proofs.Common.{import_of, interface_broken, interface_of, interfaces_of, is_name}
use Rattle.sc_back_performer_laws.proofs.Common.{length, length-append, length-map, main_proto, map, not, owner_name}
use Rattle.sc_back_performer_laws.proofs.Common.{promised, protos_in, refl, same_either_way, same_text, scalar_of}
use Rattle.sc_back_performer_laws.proofs.Common.{slice_get, subst, suc, sym, true, ℕ, ◌*◌, ◌++◌, ◌+◌, ◌==◌, ◌||◌, ◌∙◌}
use Rattle.sc_back_performer_laws.proofs.Common.{◌∷◌, ◌≡◌, ◌≤◌}
use Rattle.std.proofs.Common.{flat_map}
use Rattle.std.proofs.lemmas.List.Elements.{recursion_from_All}
use Rattle.sc_types_scope.specs.Prelude.{proto_of}
use Rattle.sc_ast.specs.declared.section.Decl.TheVariants as decl
use Rattle.sc_event.specs.declared.row.Entry.TheVariants.{Main}
use Rattle.sc_back.specs.Prelude.{CanPerform, export_text, function_text, functions_text, import_text, main_text}
use Rattle.sc_back.specs.Prelude.{proto_text, section_text}
use Rattle.sc_base.specs.Prelude.{is_reserved}
use Rattle.sc_event.specs.declared.interface.Import.{Import}
use Rattle.std.proofs.lemmas.Option.{same_Some}
use Rattle.sc_back.proofs.Lengths.{IsWritten, main_short, name_is_some, offered_short, used_short}
use Rattle.sc_back.proofs.Sizes.{decls_size, exports_size, function_size, imports_size, proto_size, section_size}
use Rattle.sc_base.proofs.Filled.{name_is_short}
use Rattle.sc_back_performer_laws.proofs.BackTree.{entries_from, main_entries}
use Rattle.sc_back_performer_laws.proofs.Distinct.{first_new, rest_distinct}
use Rattle.sc_back_performer_laws.proofs.Fitting.{all_resolved, facts, proto_named}
use Rattle.sc_back_performer_laws.proofs.Resolved.{IsResolved}
use Rattle.sc_back_performer_laws.proofs.Shares.{shares, shares_within}

-- Sizes by names: those of distinct names are no more than all.

module _ {A : Type 0} (called : A → Text) (size : A → ℕ) where
  -- of the first of the name
  abbrev size_at : Text → List A → ℕ
  size_at name [] = 0
  size_at name (x ∷ xs) = if bytes_eq (called x) name then size x else size_at name xs

  abbrev sum_at : List Text → List A → ℕ
  sum_at [] xs = 0
  sum_at (name ∷ names) xs = size_at name xs + sum_at names xs

  abbrev sum_all : List A → ℕ
  sum_all [] = 0
  sum_all (x ∷ xs) = size x + sum_all xs

  absent : (x : A) (xs : List A) (names : List Text) → among names (called x) ≡ false →
      sum_at names (x ∷ xs) ≡ sum_at names xs
  absent x xs [] none = refl
  absent x xs (name ∷ names) none = by (bytes_eq (called x) name) none (absent x xs names) where
    by : (b : Bool) → (b || among names (called x)) ≡ false →
        (among names (called x) ≡ false → sum_at names (x ∷ xs) ≡ sum_at names xs) →
        (if b then size x else size_at name xs) + sum_at names (x ∷ xs) ≡ size_at name xs + sum_at names xs
    by true none rest = absurd (false≢true (sym none))
    by false none rest = let same = rest none in omega (arith, same)

  one_more : (x : A) (xs : List A) (names : List Text) → are_distinct names ≡ true →
      sum_at names (x ∷ xs) ≤ size x + sum_at names xs
  one_more x xs [] distinct = omega arith
  one_more x xs (name ∷ names) distinct =
      by (bytes_eq (called x) name) refl (one_more x xs names (rest_distinct name names distinct)) where
        by : (b : Bool) → bytes_eq (called x) name ≡ b → sum_at names (x ∷ xs) ≤ size x + sum_at names xs →
            (if b then size x else size_at name xs) + sum_at names (x ∷ xs) ≤
            size x + (size_at name xs + sum_at names xs)
        by true is rest =
            let none : among names (called x) ≡ false =
            subst (λ n. among names n ≡ false) (sym (same_text (called x) name is)) (first_new name names distinct) in
            let same = absent x xs names none in
            omega (arith, same)
        by false is rest = omega (arith, rest)

  none_at : (names : List Text) → sum_at names [] ≡ 0
  none_at [] = refl
  none_at (name ∷ names) = let rest = none_at names in omega (arith, rest)

  some_of_all : (names : List Text) (xs : List A) → are_distinct names ≡ true → sum_at names xs ≤ sum_all xs
  some_of_all names [] distinct = let none = none_at names in omega (arith, none)
  some_of_all names (x ∷ xs) distinct =
      let here = one_more x xs names distinct in
      let rest = some_of_all names xs distinct in
      omega (arith, here, rest)

abbrev function_name : FunctionTree → Text
function_name tree = tree.head.name

abbrev proto_name : HeadTree → Text
proto_name head = head.name

all_sizes : (decls : List Decl) → decls_size decls ≡
    sum_all function_name function_size (function_decls decls) + sum_all proto_name proto_size (protos_in decls)
all_sizes [] = omega arith
all_sizes (decl.Struct tree ∷ decls) = let rest = all_sizes decls in omega (arith, rest)
all_sizes (decl.Global tree ∷ decls) = let rest = all_sizes decls in omega (arith, rest)
all_sizes (decl.Proto head ∷ decls) = let rest = all_sizes decls in omega (arith, rest)
all_sizes (decl.Function tree ∷ decls) = let rest = all_sizes decls in omega (arith, rest)

-- the function that is promised
promised_size : (name : Text) (trees : List FunctionTree) → among (map function_name trees) name ≡ true →
    7 + length name + 3 * length (promised name (function_named name trees)).params ≤
    size_at function_name function_size name trees
promised_size name [] there = absurd (false≢true there)
promised_size name (tree ∷ trees) there =
    by (bytes_eq tree.head.name name) refl
    (subst (λ b. (b || among (map function_name trees) name) ≡ true) (same_either_way name tree.head.name) there)
    (promised_size name trees) where
      by : (b : Bool) → bytes_eq tree.head.name name ≡ b → (b || among (map function_name trees) name) ≡ true →
          (among (map function_name trees) name ≡ true →
          7 + length name + 3 * length (promised name (function_named name trees)).params ≤
          size_at function_name function_size name trees) →
          7 + length name +
          3 * length (promised name (if b then Some tree else function_named name trees)).params ≤
          (if b then function_size tree else size_at function_name function_size name trees)
      by true is there rest =
          let same = ap length (same_text tree.head.name name is) in
          let count = length-map tree.head.params (λ param. scalar_of param.ty) in
          omega (arith, same, count)
      by false is there rest = rest there

-- the prototype of an import
declared_size : (name : Text) (heads : List HeadTree) → among (map proto_name heads) name ≡ true →
    9 + length name ≤ size_at proto_name proto_size name heads
declared_size name [] there = absurd (false≢true there)
declared_size name (head ∷ heads) there =
    by (bytes_eq head.name name) refl
    (subst (λ b. (b || among (map proto_name heads) name) ≡ true) (same_either_way name head.name) there)
    (declared_size name heads) where
      by : (b : Bool) → bytes_eq head.name name ≡ b → (b || among (map proto_name heads) name) ≡ true →
          (among (map proto_name heads) name ≡ true → 9 + length name ≤ size_at proto_name proto_size name heads) →
          9 + length name ≤ (if b then proto_size head else size_at proto_name proto_size name heads)
      by true is there rest = let same = ap length (same_text head.name name is) in omega (arith, same)
      by false is there rest = rest there

-- Rows of entries.

shares_both : (rows : List Row) (xs ys : List (Entry × Proto)) →
    shares rows (xs ++ ys) ≡ shares rows xs + shares rows ys
shares_both rows [] ys = omega arith
shares_both rows (x ∷ xs) ys = let rest = shares_both rows xs ys in omega (arith, rest)

pieces : (mark name end exports imports protos counter functions mains : List ℕ) → length (mark ++ (name ++ (end ++
    (exports ++ (imports ++ (protos ++ (counter ++ (functions ++ mains)))))))) ≡
    length mark + (length name + (length end + (length exports + (length imports + (length protos + (length counter +
    (length functions + length mains)))))))
pieces mark name end exports imports protos counter functions mains = simp length-append (omega arith)

module _ (olds : List SectionTree) (in_interfaces : interface_broken olds ≡ []) (in_counts : counts_broken olds ≡ [])
    (number : ℕ) (old : SectionTree) (got : slice_get olds number ≡ Some old) (rows : List Row)
    (can : CanPerform (interfaces_of olds) rows (interface_of olds number old)) where
  abbrev all : Interfaces
  all = interfaces_of olds

  abbrev trees : List FunctionTree
  trees = function_decls old.decls

  abbrev heads : List HeadTree
  heads = protos_in old.decls

  abbrev exported : List ExportLine → List Proto
  exported lines = map (proto_of old) lines

  module _ (are : AllByRecursion (IsWritten (interfaces_of olds)) rows) where
    exports_short : (lines : List ExportLine) (index : ℕ) → Each (ExportFacts olds number old) lines →
        AllByRecursion IsCalled (exported lines) →
        length (flat_map export_text (exported lines)) + length (functions_text all rows index (exported lines)) ≤
        7 * exports_size lines +
        7 * sum_at function_name function_size (map {A = ExportLine} (λ line. line.name) lines) trees +
        256 * shares rows (entries_from index (exported lines))
    exports_short [] index fact called = omega arith
    exports_short (line ∷ lines) index fact called =
        let f : Proto = proto_of old line in
        let others : List Proto = exported lines in
        let few = called.0.few in
        let here = offered_short all rows (Export index) f are few in
        let named : length f.name ≡ length line.name = ap length (proto_named old line) in
        let declared = promised_size line.name trees fact.0.defined in
        let rest = exports_short lines (suc index) fact.1 called.1 in
        let one = length-append (export_text f) (flat_map export_text others) in
        let two = length-append (function_text all rows (Export index) f)
        (functions_text all rows (suc index) others) in
        omega (arith, here, named, declared, rest, one, two)

    mains_short : (b : Bool) → length (if b then function_text all rows Main main_proto else []) ≤
        35 + 256 * shares rows (if b then (Main, main_proto) ∷ [] else [])
    mains_short true = let here = main_short all rows are in omega (arith, here)
    mains_short false = omega arith

    imports_short : (lines : List ImportLine) → Each (ImportFacts olds number old) lines →
        Each (IsResolved olds number old) lines →
        AllByRecursion (IsImported all) (map (import_of olds number) lines) →
        length (flat_map (import_text all) (map (import_of olds number) lines)) +
        length (flat_map (proto_text all) (map (import_of olds number) lines)) ≤
        7 * imports_size lines +
        7 * sum_at proto_name proto_size (map {A = ImportLine} (λ line. line.name) lines) heads
    imports_short [] fact resolved imported = omega arith
    imports_short (line ∷ lines) fact resolved imported =
        let import : Import = import_of olds number line in
        let others : List Import = map (import_of olds number) lines in
        let r = resolved.0 in
        let few = r.few in
        let here = used_short all import r.f r.is few in
        let named : length r.f.name ≡ length line.name = ap length r.name in
        let owned : length (owner_name all import) ≡ length line.comp = ap length r.owner in
        let owner = name_is_some (owner_name all import) imported.0.owner in
        let same : r.f ≡ imported.0.f = same_Some r.f imported.0.f (sym r.is ∙ imported.0.is) in
        let name = name_is_some imported.0.f.name (and_parts (is_name imported.0.f.name)
        (not (is_reserved imported.0.f.name)) imported.0.called.name).0 in
        let same_name = ap (λ (f : Proto). length f.name) same in
        let declared = declared_size line.name heads fact.0.declared in
        let rest = imports_short lines fact.1 resolved.1 imported.1 in
        let one = length-append (import_text all import) (flat_map (import_text all) others) in
        let two = length-append (proto_text all import) (flat_map (proto_text all) others) in
        omega (arith, here, few, named, owned, owner, name, same_name, declared, rest, one, two)

    pub section_short : length (section_text all number rows (interface_of olds number old)) ≤
        7 * section_size old + 256 * length rows
    section_short =
        let fact = facts olds in_interfaces in_counts number old got in
        let exports = exports_short old.exports 0 fact.exports
        (recursion_from_All IsCalled (exported old.exports) can.exports) in
        let imports = imports_short old.imports fact.imports
        (all_resolved olds in_interfaces in_counts number old got)
        (recursion_from_All (IsImported all) (map (import_of olds number) old.imports) can.imports) in
        let mains = mains_short (number == all.main) in
        let within = shares_within all number (interface_of olds number old) rows in
        let split = shares_both rows (entries_from 0 (exported old.exports)) (main_entries all number) in
        let functions = some_of_all function_name function_size (export_names old) trees
        (fresh_distinct [] (export_names old) fact.fresh_exports) in
        let protos = some_of_all proto_name proto_size (import_names old) heads
        (fresh_distinct [] (import_names old) fact.fresh_imports) in
        let sizes = all_sizes old.decls in
        let name = name_is_short old.name can.name in
        let whole = pieces (codes "#pragma compartment ") old.name (codes "\n")
        (flat_map export_text (exported old.exports))
        (flat_map (import_text all) (map (import_of olds number) old.imports))
        (flat_map (proto_text all) (map (import_of olds number) old.imports)) (codes "unsigned int bt_n;\n")
        (functions_text all rows 0 (exported old.exports)) (main_text all number rows) in
        omega (arith, exports, imports, mains, within, split, functions, protos, sizes, name, whole)
