-- What `Main` declares, and by which heads its calls are typed.
use Rattle.sc_report_made.proofs.Common.{AllByRecursion, Bool, Callees, Decl, FunctionTree, HeadTree, List, None}
use Rattle.sc_report_made.proofs.Common.{SectionTree, Signature, Some, StructTree, [], all_functions, ap, ap₂, bytes_eq}
use Rattle.sc_report_made.proofs.Common.{bytes_eq_self, callees_of, codes, false, false≢true, function_name}
use Rattle.sc_report_made.proofs.Common.{function_named, function_decls, get_or, globals_in, head_named, heads_in}
use Rattle.sc_report_made.proofs.Common.{if◌then◌else◌, is_false, main_at, map, nat_eq, or_first, output_proto}
use Rattle.sc_report_made.proofs.Common.{proto_at, refl, same_text, signature_by, struct_names, structs_in, true, ℕ}
use Rattle.sc_report_made.proofs.Common.{◌++◌, ◌∙◌, ◌∷◌, ◌≡◌}
use Rattle.std.specs.Option.{option_map}
use Rattle.sc_ast.specs.declared.section.Decl.TheVariants as decl
use Rattle.sc_core.specs.declared.ty.Ty.TheVariants as ty
use Rattle.sc_report_made.proofs.Declared.{after_functions, after_globals, after_heads, after_structs}
use Rattle.sc_report_made.proofs.Shapes.{AreProtos, IsMain, and_proto, no_protos}

-- what holds of each holds of each in another way
pub all_more : {A : Type 0} (P Q : A → Type 0) → ((x : A) → P x → Q x) → (xs : List A) → AllByRecursion P xs →
    AllByRecursion Q xs
all_more P Q on [] h = tt
all_more P Q on (x ∷ xs) h = (on x h.0, all_more P Q on xs h.1)

-- Names.

-- neither `main` nor `output` begins with an `f`
not_main : (j : ℕ) → bytes_eq (codes "main") (function_name j) ≡ false
not_main j =
    is_false (bytes_eq (codes "main") (function_name j)) (λ same.
    false≢true (ap (λ name. nat_eq (get_or name 0 0) 102) (same_text (codes "main") (function_name j) same)))

not_output : (j : ℕ) → bytes_eq (function_name j) (codes "output") ≡ false
not_output j =
    is_false (bytes_eq (function_name j) (codes "output")) (λ same.
    false≢true (ap (λ name. nat_eq (get_or name 0 0) 111) (same_text (function_name j) (codes "output") same)))

-- Heads.

-- the first head of a function's name is that of a function, maybe of another number
record FoundHead (j : ℕ) (heads : List HeadTree) : Type 0 where
  other : ℕ
  line : ℕ
  is : head_named (function_name j) heads ≡ Some (proto_at other line)

found_first : (j line : ℕ) (heads : List HeadTree) → FoundHead j (proto_at j line ∷ heads)
found_first j line heads = record {
  other = j;
  line = line;
  is = ap (λ b. if b then Some (proto_at j line) else head_named (function_name j) heads)
      (bytes_eq_self (function_name j));
}

found_later : (k line : ℕ) (heads : List HeadTree) (j : ℕ) → FoundHead j heads → FoundHead j (proto_at k line ∷ heads)
found_later k line heads j found = by (bytes_eq (function_name k) (function_name j)) refl where
  by : (b : Bool) → bytes_eq (function_name k) (function_name j) ≡ b → FoundHead j (proto_at k line ∷ heads)
  by true is = record {
    other = k;
    line = line;
    is = ap (λ b. if b then Some (proto_at k line) else head_named (function_name j) heads) is;
  }
  by false is = record {
    other = found.other;
    line = found.line;
    is = ap (λ b. if b then Some (proto_at k line) else head_named (function_name j) heads) is ∙ found.is;
  }

all_found : (js : List ℕ) (heads rest : List HeadTree) → AreProtos js heads →
    AllByRecursion (λ j. FoundHead j (heads ++ rest)) js
all_found js heads rest no_protos = tt
all_found js heads rest (and_proto j line others more h) = (
  found_first j line (more ++ rest),
  all_more (λ k. FoundHead k (more ++ rest))
      (λ k. FoundHead k (proto_at j line ∷ more ++ rest)) (found_later j line (more ++ rest)) others
      (all_found others more rest h),
)

found_output : (js : List ℕ) (heads rest : List HeadTree) (line : ℕ) → AreProtos js heads →
    head_named (codes "output") (heads ++ output_proto line ∷ rest) ≡ Some (output_proto line)
found_output js heads rest line no_protos = refl
found_output js heads rest line (and_proto j at others more h) =
    ap (λ b. if b then Some (proto_at j at) else head_named (codes "output") (more ++ output_proto line ∷ rest))
    (not_output j) ∙ found_output others more rest line h

-- The types of what is called.

abbrev pub function_signature : Signature
function_signature = record { params = ty.Int ∷ []; result = Some ty.Int }

abbrev pub output_signature : Signature
output_signature = record { params = ty.Int ∷ []; result = None }

abbrev pub HasSignatures : Callees → List ℕ → Type 0
HasSignatures callees js = AllByRecursion (λ j. callees.signature (function_name j) ≡ Some function_signature) js

module _ (size seed : ℕ) (section : SectionTree) (main : IsMain size seed section) where
  abbrev pub tree_of : FunctionTree
  tree_of = main_at main.head_line main.local_line main.close_line main.body

  -- what follows the prototypes of the functions
  abbrev pub last_decls : List Decl
  last_decls = decl.Proto (output_proto main.proto_line) ∷ decl.Function tree_of ∷ []

  abbrev pub last_heads : List HeadTree
  last_heads = heads_in last_decls

  pub functions_are : function_decls section.decls ≡ tree_of ∷ []
  functions_are = ap (λ s. function_decls s.decls) main.is ∙ after_functions last_decls main.protos

  pub no_structs : structs_in section.decls ≡ []
  no_structs = ap (λ s. structs_in s.decls) main.is ∙ after_structs last_decls main.protos

  pub no_tags : struct_names section.decls ≡ []
  no_tags = ap (map {A = StructTree} (λ tree. tree.name)) no_structs

  pub no_globals : globals_in section.decls ≡ []
  no_globals = ap (λ s. globals_in s.decls) main.is ∙ after_globals last_decls main.protos

  pub heads_are : heads_in section.decls ≡ main.protos ++ last_heads
  heads_are = ap (λ s. heads_in s.decls) main.is ∙ after_heads last_decls main.protos

  module _ (sections : List SectionTree) (number : ℕ) where
    signature_is : (name : List ℕ) (head : HeadTree) → bytes_eq (codes "main") name ≡ false →
        head_named name (main.protos ++ last_heads) ≡ Some head →
        (callees_of sections number section).signature name ≡ Some (signature_by [] head)
    signature_is name head other found =
        (λ i. option_map (signature_by (no_tags i)) (or_first (function_named name (functions_are i))
        (head_named name (heads_are i)))) ∙
        ap₂ (λ b x. option_map (signature_by []) (or_first (if b then Some tree_of else None) x)) other found

    one_signature : (j : ℕ) → FoundHead j (main.protos ++ last_heads) →
        (callees_of sections number section).signature (function_name j) ≡ Some function_signature
    one_signature j found = signature_is (function_name j) (proto_at found.other found.line) (not_main j) found.is

    -- each function is called with an `int`, and gives one
    pub signatures : HasSignatures (callees_of sections number section) (all_functions size)
    signatures =
        all_more (λ j. FoundHead j (main.protos ++ last_heads))
        (λ j. (callees_of sections number section).signature (function_name j) ≡ Some function_signature)
        one_signature (all_functions size) (all_found (all_functions size) main.protos last_heads main.protos_are)

    -- and `output` gives nothing
    pub output_typed : (callees_of sections number section).signature (codes "output") ≡ Some output_signature
    output_typed =
        signature_is (codes "output") (output_proto main.proto_line) refl
        (found_output (all_functions size) main.protos _ main.proto_line main.protos_are)
