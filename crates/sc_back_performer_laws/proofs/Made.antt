-- The functions, imports and heads that a performing section is made of.
use Rattle.sc_back_performer_laws.proofs.Common.{Bool, Each, Entry, Export, FunctionParam, FunctionTree, HeadTree}
use Rattle.sc_back_performer_laws.proofs.Common.{Import, ImportLine, Int, Interfaces, List, Main, None, Option, Proto}
use Rattle.sc_back_performer_laws.proofs.Common.{Row, Scalar, Some, StmtTree, Text, Unsigned, [], agree, agrees_with}
use Rattle.sc_back_performer_laws.proofs.Common.{among, and_from, ap, are_distinct, bytes_eq, bytes_eq_self, false}
use Rattle.sc_back_performer_laws.proofs.Common.{false≢true, function_named, function_params, head_of, if◌then◌else◌}
use Rattle.sc_back_performer_laws.proofs.Common.{implies, inl, inr, main_proto, map, names_of, not, option_map}
use Rattle.sc_back_performer_laws.proofs.Common.{promised, refl, same_either_way, same_text, scalar_of, subst, suc, sym}
use Rattle.sc_back_performer_laws.proofs.Common.{true, type_name, ℕ, ◌++◌, ◌||◌, ◌∙◌, ◌∷◌, ◌≡◌, ◌⊎◌}
use Rattle.sc_back_performer_laws.proofs.BackTree.{AreFunctions, AreImports, and_function, and_import, entries_from}
use Rattle.sc_back_performer_laws.proofs.BackTree.{function_at, import_at, no_functions, no_imports}
use Rattle.sc_back_performer_laws.proofs.Declared.{heads_of}
use Rattle.sc_back_performer_laws.proofs.Distinct.{first_new, rest_distinct}
use Rattle.sc_back_performer_laws.proofs.SectionFacts.{entry_names}
use Rattle.sc_back_performer_laws.proofs.Uses.{IsAmong, first, is_first_or_later, later, none_among}

-- The functions of entries.

scalar_back : (t : Scalar) → scalar_of (type_name t) ≡ t
scalar_back Int = refl
scalar_back Unsigned = refl

params_back : (number : ℕ) (params : List Scalar) →
    map {A = FunctionParam} (λ param. scalar_of param.ty) (function_params number params) ≡ params
params_back number [] = refl
params_back number (t ∷ params) = λ i. scalar_back t i ∷ params_back (suc number) params i

result_back : (r : Option Scalar) → option_map scalar_of (option_map type_name r) ≡ r
result_back None = refl
result_back (Some t) = λ i. Some (scalar_back t i)

-- what is promised by the function that is made is the function
pub made_promised : (f : Proto) (line close : ℕ) (body : List StmtTree) →
    promised f.name (Some (function_at f line close body)) ≡ f
made_promised f line close body = λ i. record {
  name = f.name;
  params = params_back 0 f.params i;
  result = result_back f.result i;
}

pub name_there : (e : Entry × Proto) (entries : List (Entry × Proto)) → IsAmong e entries →
    among (entry_names entries) e.1.name ≡ true
name_there e entries (first rest) =
    ap (λ b. b || among (entry_names rest) e.1.name) (bytes_eq_self e.1.name)
name_there e entries (later y rest there) = by (bytes_eq e.1.name y.1.name) (name_there e rest there) where
  by : (b : Bool) → among (entry_names rest) e.1.name ≡ true → (b || among (entry_names rest) e.1.name) ≡ true
  by true h = refl
  by false h = h

-- the function of an entry is found by its name
pub record IsMade (f : Proto) (trees : List FunctionTree) : Type 0 where
  pub line : ℕ
  pub close : ℕ
  pub body : List StmtTree
  pub found : function_named f.name trees ≡ Some (function_at f line close body)

other_name : (a b : Text) (names : List Text) → among names b ≡ false → among names a ≡ true → bytes_eq b a ≡ false
other_name a b names new there = by (bytes_eq b a) refl where
  by : (t : Bool) → bytes_eq b a ≡ t → t ≡ false
  by true is = absurd (false≢true (sym new ∙ ap (among names) (same_text b a is) ∙ there))
  by false is = refl

module _ (interfaces : Interfaces) (rows : List Row) where
  made_next : (entry : Entry) (f : Proto) (others : List (Entry × Proto)) (more : List FunctionTree)
      (line close : ℕ) (body : List StmtTree) → are_distinct (f.name ∷ entry_names others) ≡ true →
      (e : Entry × Proto) → (e ≡ (entry, f)) ⊎ IsAmong e others → (IsAmong e others → IsMade e.1 more) →
      IsMade e.1 (function_at f line close body ∷ more)
  made_next entry f others more line close body distinct e (inl is) rest =
      subst (λ e. IsMade e.1 (function_at f line close body ∷ more)) (sym is) (record {
        line = line;
        close = close;
        body = body;
        found = ap (λ b. if b then Some (function_at f line close body) else function_named f.name more)
            (bytes_eq_self f.name);
      })
  made_next entry f others more line close body distinct e (inr there) rest =
      let next : IsMade e.1 more = rest there in
      record {
        line = next.line;
        close = next.close;
        body = next.body;
        found = ap (λ b. if b then Some (function_at f line close body) else function_named e.1.name more)
            (other_name e.1.name f.name (entry_names others) (first_new f.name (entry_names others) distinct)
            (name_there e others there)) ∙ next.found;
      }

  pub made : (entries : List (Entry × Proto)) (trees : List FunctionTree) → AreFunctions interfaces rows entries trees →
      are_distinct (entry_names entries) ≡ true → (e : Entry × Proto) → IsAmong e entries → IsMade e.1 trees
  made entries trees no_functions distinct e there = none_among e there
  made entries trees (and_function entry f others more line close body is rest) distinct e there =
      made_next entry f others more line close body distinct e (is_first_or_later e (entry, f) others there)
      (made others more rest (rest_distinct f.name (entry_names others) distinct) e)

-- what holds of all entries holds of the exports
pub each_export : (Q : Proto → Type 0) (index : ℕ) (fs : List Proto) (more : List (Entry × Proto)) →
    ((e : Entry × Proto) → IsAmong e (entries_from index fs ++ more) → Q e.1) → Each Q fs
each_export Q index [] more h = tt
each_export Q index (f ∷ fs) more h = (
  h (Export index, f) (first (entries_from (suc index) fs ++ more)),
  each_export Q (suc index) fs more (λ e there. h e (later (Export index, f) _ there)),
)

pub promised_same : (trees : List FunctionTree) (fs : List Proto) →
    Each (λ f. promised f.name (function_named f.name trees) ≡ f) fs →
    map (λ name. promised name (function_named name trees)) (names_of fs) ≡ fs
promised_same trees [] h = refl
promised_same trees (f ∷ fs) h = λ i. h.0 i ∷ promised_same trees fs h.1 i

-- Imports.

abbrev pub ImportsBy : Interfaces → List (Import × Proto) → List ImportLine → Type 0
ImportsBy interfaces [] [] = Unit {0}
ImportsBy interfaces (u ∷ used) (b ∷ lines) =
    ((line : ℕ) × (b ≡ import_at interfaces u line)) × AreImports interfaces used lines
ImportsBy interfaces _ _ = ⊥

pub imports_by : (interfaces : Interfaces) (used : List (Import × Proto)) (lines : List ImportLine) →
    AreImports interfaces used lines → ImportsBy interfaces used lines
imports_by interfaces used lines no_imports = tt
imports_by interfaces used lines (and_import u others more line rest) = ((line, refl), rest)

-- Heads.

not_named : (a b : Bool) → a ≡ false → (not a || b) ≡ true
not_named a b h = ap (λ t. not t || b) h

not_among : (a name : Text) (names : List Text) → (bytes_eq name a || among names name) ≡ false →
    (bytes_eq name a ≡ false) × (among names name ≡ false)
not_among a name names h = by (bytes_eq name a) h where
  by : (b : Bool) → (b || among names name) ≡ false → (b ≡ false) × (among names name ≡ false)
  by true h = absurd (false≢true (sym h))
  by false h = (refl, h)

-- no head of a name agrees with it trivially
pub none_named : (heads : List HeadTree) (head : HeadTree) →
    among (map {A = HeadTree} (λ h. h.name) heads) head.name ≡ false → agrees_with heads head ≡ true
none_named [] head h = refl
none_named (other ∷ heads) head h =
    let parts = not_among other.name head.name (map {A = HeadTree} (λ h. h.name) heads) h in
    and_from (not (bytes_eq other.name head.name) || agree other head) _
    (not_named (bytes_eq other.name head.name) (agree other head)
    (same_either_way other.name head.name ∙ parts.0))
    (none_named heads head parts.1)

pub functions_agree : (interfaces : Interfaces) (rows : List Row) (head : HeadTree) (entries : List (Entry × Proto))
    (trees : List FunctionTree) → AreFunctions interfaces rows entries trees →
    ((e : Entry × Proto) → IsAmong e entries → e.1.name ≡ head.name → (line close : ℕ) (body : List StmtTree) →
    agree (head_of (function_at e.1 line close body).head) head ≡ true) → agrees_with (heads_of trees) head ≡ true
functions_agree interfaces rows head entries trees no_functions h = refl
functions_agree interfaces rows head entries trees (and_function entry f others more line close body is rest) h =
    and_from (not (bytes_eq f.name head.name) || agree (head_of (function_at f line close body).head) head) _
    (implies (bytes_eq f.name head.name) _ (λ named.
    h (entry, f) (first others) (same_text f.name head.name named) line close body))
    (functions_agree interfaces rows head others more rest (λ e there. h e (later (entry, f) others there)))

-- an entry is an export or `main`
abbrev pub IsExportOrMain : List Proto → Proto → Type 0
IsExportOrMain fs f = IsAmong f fs ⊎ (f ≡ main_proto)

one_more : (f g : Proto) (fs : List Proto) → IsExportOrMain fs f → IsExportOrMain (g ∷ fs) f
one_more f g fs (inl there) = inl (later g fs there)
one_more f g fs (inr is) = inr is

main_entry : (b : Bool) (e : Entry × Proto) → IsAmong e (if b then (Main, main_proto) ∷ [] else []) →
    e.1 ≡ main_proto
main_entry true e there = by (is_first_or_later e (Main, main_proto) [] there) where
  by : (e ≡ (Main, main_proto)) ⊎ IsAmong e [] → e.1 ≡ main_proto
  by (inl is) = ap (λ e. e.1) is
  by (inr there) = none_among e there
main_entry false e there = none_among e there

pub entry_is : (b : Bool) (index : ℕ) (fs : List Proto) (e : Entry × Proto) →
    IsAmong e (entries_from index fs ++ (if b then (Main, main_proto) ∷ [] else [])) → IsExportOrMain fs e.1
entry_is b index [] e there = inr (main_entry b e there)
entry_is b index (f ∷ fs) e there =
    by (is_first_or_later e (Export index, f)
    (entries_from (suc index) fs ++ (if b then (Main, main_proto) ∷ [] else [])) there)
    (entry_is b (suc index) fs e) where
      by : (e ≡ (Export index, f)) ⊎
          IsAmong e (entries_from (suc index) fs ++ (if b then (Main, main_proto) ∷ [] else [])) →
          (IsAmong e (entries_from (suc index) fs ++ (if b then (Main, main_proto) ∷ [] else [])) →
          IsExportOrMain fs e.1) → IsExportOrMain (f ∷ fs) e.1
      by (inl is) rest = inl (subst (λ e. IsAmong e.1 (f ∷ fs)) (sym is) (first fs))
      by (inr there) rest = one_more e.1 f fs (rest there)

pub each_in : (P : Proto → Type 0) (f : Proto) (fs : List Proto) → Each P fs → IsAmong f fs → P f
each_in P f fs each (first rest) = each.0
each_in P f fs each (later y rest there) = each_in P f rest each.1 there

pub each_mapped : {A : Type 0} (P : Proto → Type 0) (f : A → Proto) (xs : List A) → Each (λ x. P (f x)) xs →
    Each P (map f xs)
each_mapped P f [] h = tt
each_mapped P f (x ∷ xs) h = (h.0, each_mapped P f xs h.1)
