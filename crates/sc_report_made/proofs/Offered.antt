-- What `Main` imports is offered by the workers, as it declares it.
use Rattle.sc_report_made.proofs.Common.{Bool, FunctionTree, HeadTree, ImportLine, IsAmong, List, SectionTree, Some}
use Rattle.sc_report_made.proofs.Common.{Text, [], agree, agrees_there, agrees_with, all_hold, among, and_from, ap}
use Rattle.sc_report_made.proofs.Common.{arith, bytes_eq, bytes_eq_self, codes, eq-eqb, export_names, false, false≢true}
use Rattle.sc_report_made.proofs.Common.{function_name, worker_functions, get_or, head_of, heads_in, if◌then◌else◌}
use Rattle.sc_report_made.proofs.Common.{import_at, inl, inr, is_environment, is_false, is_first_or_later, is_some, map}
use Rattle.sc_report_made.proofs.Common.{nat_eq, ne_eqb, none_among, not, not_from, offering, offers, or_left, or_right}
use Rattle.sc_report_made.proofs.Common.{proto_at, refl, same_text, subst, suc, sym, true, worker_name, workers, ℕ, ◌%◌}
use Rattle.sc_report_made.proofs.Common.{◌==◌, ◌||◌, ◌∙◌, ◌∷◌, ◌≡◌}
use Rattle.sc_report_made.proofs.Declared.{exports_named, functions_heads}
use Rattle.sc_report_made.proofs.Naming.{function_among}
use Rattle.sc_report_made.proofs.Shapes.{AreFunctions, AreProtos, AreWorkers, IsMain, IsWorker, and_function, and_proto}
use Rattle.sc_report_made.proofs.Shapes.{and_worker, no_functions, no_protos, no_workers}

-- texts that begin with other bytes differ
pub apart_first : (x y : Text) → nat_eq (get_or x 0 0) (get_or y 0 0) ≡ false → bytes_eq x y ≡ false
apart_first x y h = is_false (bytes_eq x y) (λ same.
    false≢true (sym h ∙ ap (λ t. nat_eq (get_or t 0 0) (get_or y 0 0)) (same_text x y same) ∙
    eq-eqb (get_or y 0 0) (get_or y 0 0) refl))

-- Heads that agree.

-- it agrees with `int f(int x)`
abbrev pub TakesInt : HeadTree → Type 0
TakesInt head = (j line : ℕ) → agree (proto_at j line) head ≡ true

pub protos_agree : (js : List ℕ) (heads : List HeadTree) → AreProtos js heads → (head : HeadTree) → TakesInt head →
    agrees_with heads head ≡ true
protos_agree _ _ no_protos head h = refl
protos_agree _ _ (and_proto j line js heads rest) head h =
    and_from (not (bytes_eq (function_name j) head.name) || agree (proto_at j line) head) (agrees_with heads head)
    (or_right (not (bytes_eq (function_name j) head.name)) (agree (proto_at j line) head) (h j line))
    (protos_agree js heads rest head h)

-- a head of another name agrees with all functions
pub others_agree : (js : List ℕ) (heads : List HeadTree) → AreProtos js heads → (head : HeadTree) →
    ((j : ℕ) → bytes_eq (function_name j) head.name ≡ false) → agrees_with heads head ≡ true
others_agree _ _ no_protos head other = refl
others_agree _ _ (and_proto j line js heads rest) head other =
    and_from (not (bytes_eq (function_name j) head.name) || agree (proto_at j line) head) (agrees_with heads head)
    (or_left (not (bytes_eq (function_name j) head.name)) (agree (proto_at j line) head)
    (not_from (bytes_eq (function_name j) head.name) (other j))) (others_agree js heads rest head other)

pub functions_agree : (seed : ℕ) (js : List ℕ) (trees : List FunctionTree) → AreFunctions seed js trees →
    (head : HeadTree) → TakesInt head → agrees_with (map (λ tree. head_of tree.head) trees) head ≡ true
functions_agree seed _ _ no_functions head h = refl
functions_agree seed _ _ (and_function j lines js trees rest) head h =
    and_from (not (bytes_eq (function_name j) head.name) || agree (proto_at j lines.head) head)
    (agrees_with (map (λ tree. head_of tree.head) trees) head)
    (or_right (not (bytes_eq (function_name j) head.name)) (agree (proto_at j lines.head) head) (h j lines.head))
    (functions_agree seed js trees rest head h)

-- Workers.

module _ (size seed : ℕ) where
  worker_agrees : (i : ℕ) (section : SectionTree) → IsWorker size seed i section → (head : HeadTree) →
      TakesInt head → agrees_with (heads_in section.decls) head ≡ true
  worker_agrees i section w head h =
      ap (λ s. agrees_with (heads_in s.decls) head) w.is ∙
      ap (λ hs. agrees_with hs head) (functions_heads w.functions) ∙
      functions_agree seed (worker_functions size i) w.functions w.functions_are head h

  -- whoever of the workers offers what a line imports, declares it so
  pub offering_agrees : (all : List SectionTree) (main : SectionTree) (line : ImportLine) (head : HeadTree) →
      TakesInt head → (number : ℕ) (is : List ℕ) (sections : List SectionTree) → AreWorkers size seed is sections →
      agrees_there all 0 main head (offering 0 line number sections) ≡ true
  offering_agrees all main line head h number _ _ no_workers = refl
  offering_agrees all main line head h number _ _ (and_worker i section is sections w rest) =
      by (offers 0 line number section) (offering_agrees all main line head h (suc number) is sections rest) where
        by : (b : Bool) → agrees_there all 0 main head (offering 0 line (suc number) sections) ≡ true →
            agrees_there all 0 main head (if b then Some (number, section) else
            offering 0 line (suc number) sections) ≡ true
        by true later = worker_agrees i section w head h
        by false found = found

  worker_offers : (i j at number : ℕ) (section : SectionTree) → IsWorker size seed i section →
      IsAmong j (worker_functions size i) →
      offers 0 (record { comp = worker_name i; name = function_name j; line = at }) (suc number) section ≡ true
  worker_offers i j at number section w there =
      let exported : among (export_names section) (function_name j) ≡ true =
      ap (λ s. among (export_names s) (function_name j)) w.is ∙
      ap (λ names. among names (function_name j)) (exports_named (worker_functions size i) w.exports w.exports_are) ∙
      function_among j (worker_functions size i) there in
      and_from (bytes_eq section.name (worker_name i)) _
      (ap (λ s. bytes_eq s.name (worker_name i)) w.is ∙ bytes_eq_self (worker_name i))
      (and_from (not (suc number == 0)) _ (ap not (ne_eqb (suc number) 0 (λ e. omega (arith, e)))) exported)

  -- one of the workers offers it
  pub offering_found : (i j at number : ℕ) → IsAmong j (worker_functions size i) → (is : List ℕ)
      (sections : List SectionTree) → AreWorkers size seed is sections → IsAmong i is →
      is_some (offering 0 (record { comp = worker_name i; name = function_name j; line = at }) (suc number) sections) ≡
      true
  offering_found i j at number there _ _ no_workers among_is = none_among i among_is
  offering_found i j at number there _ _ (and_worker k section is sections w rest) among_is =
      elim (is_first_or_later i k is among_is) [
        | inl same ↦ first_found same
        | inr rest_there ↦ by (offers 0 line (suc number) section)
            (offering_found i j at (suc number) there is sections rest rest_there)
      ] where
        line : ImportLine
        line = record { comp = worker_name i; name = function_name j; line = at }

        by : (b : Bool) → is_some (offering 0 line (suc (suc number)) sections) ≡ true →
            is_some (if b then Some (suc number, section) else
            offering 0 line (suc (suc number)) sections) ≡ true
        by true found = refl
        by false found = found

        first_found : i ≡ k → is_some (offering 0 line (suc number) (section ∷ sections)) ≡ true
        first_found same =
            ap (λ b. is_some (if b then Some (suc number, section) else offering 0 line (suc (suc number)) sections))
            (worker_offers i j at number section (subst (λ n. IsWorker size seed n section) (sym same) w) there)

-- In the whole text.

-- `Main` isn't the section that it imports from
pub past_main : (size seed : ℕ) (main : SectionTree) → IsMain size seed main → (others : List SectionTree)
    (j at : ℕ) → offering 0 (import_at size j at) 0 (main ∷ others) ≡ offering 0 (import_at size j at) 1 others
past_main size seed main m others j at =
    let other : bytes_eq main.name (worker_name (j % workers size)) ≡ false =
    ap (λ s. bytes_eq s.name (worker_name (j % workers size))) m.is ∙
    apart_first (codes "Main") (worker_name (j % workers size)) refl in
    ap (λ b. if all_hold (b ∷ not (0 == 0) ∷ among (export_names main) (function_name j) ∷ []) then Some (0, main) else
    offering 0 (import_at size j at) 1 others) other

pub not_environment : (size j at : ℕ) → is_environment (import_at size j at) ≡ false
not_environment size j at = apart_first (worker_name (j % workers size)) (codes "Env") refl
