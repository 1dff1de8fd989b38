-- The code of a section consists of instructions, none of them EBREAK, and no function's has more branches than the
-- function.
use Rattle.sc_compile.proofs.Common.{Addresses, All, AreEmitted, Bool, CodeTree, Fits, HasNoTests, Instr, Interfaces}
use Rattle.sc_compile.proofs.Common.{IsLinkable, IsWellTyped, List, None, Option, ProgramTree, Proto, Some, TacFnTree}
use Rattle.sc_compile.proofs.Common.{TacStmt, TacStmt-F, TypedFunction, TypedSection, TypedStruct, [], addresses_at}
use Rattle.sc_compile.proofs.Common.{all_codes, and_first, and_rest, ap, arith, body_code, branch_step, branches}
use Rattle.sc_compile.proofs.Common.{built_image, codes_at, comp_code, cond, count_by, entry_address, entry_jump}
use Rattle.sc_compile.proofs.Common.{entry_jumps, exports_at, false, fold-TacStmt, function_code, function_tac}
use Rattle.sc_compile.proofs.Common.{functions_in, functions_or_none, ifs, ifs_step, is_branch}
use Rattle.sc_compile.proofs.Common.{is_ebreak, length, linked, linked_codes, linked_from, list_all, low_of_target}
use Rattle.sc_compile.proofs.Common.{lower_part, lowered_function, map, not, of_section, option_map, option_map_or}
use Rattle.sc_compile.proofs.Common.{part_is, pos, program_tac, refl, relocations_after, section_at}
use Rattle.sc_compile.proofs.Common.{section_tac, slice_get, subst, suc, sym, target_at, test_word, total, true}
use Rattle.sc_compile.proofs.Common.{upper_part, with_low, with_target, ℕ, ℤ, ◌*◌, ◌++◌, ◌+◌, ◌-ℤ◌, ◌∙◌, ◌∷◌, ◌≡◌}
use Rattle.sc_compile.proofs.Common.{◌≤◌}
use Rattle.rv_code.specs.Prelude.{IsInstr, word_of}
use Rattle.sc_image.specs.Prelude.{code_in}
use Rattle.sc_tac.specs.Prelude.{branches as code_ifs}
use Rattle.std.proofs.lemmas.List.Elements.{All-cons, All-head, All-map, All-nil, All-tail, All-weaker}
use Rattle.std.proofs.lemmas.List.{map-append}
use Rattle.std.proofs.lemmas.Option.{slice_get-map}
use Rattle.std.specs.List.{AllZip, concat}
use Rattle.std.proofs.lemmas.List.Sums.{sum_by-append, sum_by-cons}
use Rattle.rv_code.proofs.OneEach.{decoded-word_of}
use Rattle.rv_code.specs.declared.instr.Instr.TheVariants.{Jal, Jalr, OpImm, Upper}
use Rattle.rv_code.specs.declared.instr.OpImmOp.{OpImmOp}
use Rattle.rv_code.specs.declared.instr.UpperOp.{UpperOp}
use Rattle.sc_image.specs.declared.parts.CompPart.{CompPart}
use Rattle.sc_tac.specs.declared.machine_code.Relocation.{Relocation}
use Rattle.sc_tac.specs.declared.machine_code.Target.{Target}
use Rattle.sc_tac.specs.declared.machine_code.Target.TheVariants.{Entry, Function, Global}
use Rattle.sc_tac.specs.declared.stmt.TacStmt.TheOpen as tac
use Rattle.sc_lower.proofs.Branches.{keeps_branches}
use Rattle.sc_compile.specs.Prelude.{HasFewBranches}
use Rattle.sc_linker.proofs.Linked.{code_instrs}
use Rattle.sc_linker.proofs.Ready.{can_link}
use Rattle.sc_compile.proofs.Codes.{codes_are}
use Rattle.sc_compile.proofs.Tac.{functions_are, tac_at, tac_branches}

-- COUNTS
pub counted : {X : Type 0} (test : X → Bool) (x : X) (xs : List X) →
    count_by test (x ∷ xs) ≡ cond (test x) 1 0 + count_by test xs
counted test x xs = sum_by-cons (λ y. cond (test y) 1 0) x xs

pub counted_append : {X : Type 0} (test : X → Bool) (xs ys : List X) →
    count_by test (xs ++ ys) ≡ count_by test xs + count_by test ys
counted_append test xs ys = sum_by-append (λ y. cond (test y) 1 0) xs ys

from_zero : (n : ℕ) → 0 + n ≡ n
from_zero n = omega arith

summed : (a b c d e : ℕ) → a ≡ b + c → c ≡ d → e ≡ b + d → a ≡ e
summed a b c d e first same whole = omega (arith, first, same, whole)

-- one more, which is counted as another is
one_more : {X Y : Type 0} (test : X → Bool) (other : Y → Bool) (x : X) (y : Y) (xs : List X) (ys : List Y) →
    test x ≡ other y → count_by test xs ≡ count_by other ys → count_by test (x ∷ xs) ≡ count_by other (y ∷ ys)
one_more test other x y xs ys same rest =
    summed (count_by test (x ∷ xs)) (cond (test x) 1 0) (count_by test xs) (count_by other ys) (count_by other (y ∷ ys))
    (counted test x xs) rest (counted other y ys ∙ ap (λ b. cond b 1 0 + count_by other ys) (sym same))

pub passed_over : {X : Type 0} (test : X → Bool) (x : X) (xs : List X) → test x ≡ false → count_by test xs ≡ 0 →
    count_by test (x ∷ xs) ≡ 0
passed_over test x xs fails rest =
    counted test x xs ∙ ap (λ b. cond b 1 0 + count_by test xs) fails ∙ from_zero (count_by test xs) ∙ rest

-- where nothing is counted, neither the first element is nor what follows it
first_fails : {X : Type 0} (test : X → Bool) (x : X) (xs : List X) → count_by test (x ∷ xs) ≡ 0 → test x ≡ false
first_fails test x xs none = by (test x) (count_by test xs) (sym (counted test x xs) ∙ none) where
  by : (b : Bool) (n : ℕ) → cond b 1 0 + n ≡ 0 → b ≡ false
  by true n h = absurd (omega (arith, h))
  by false n h = refl

later_fail : {X : Type 0} (test : X → Bool) (x : X) (xs : List X) → count_by test (x ∷ xs) ≡ 0 →
    count_by test xs ≡ 0
later_fail test x xs none =
    by (cond (test x) 1 0) (count_by test xs) (sym (counted test x xs) ∙ none) where
      by : (a b : ℕ) → a + b ≡ 0 → b ≡ 0
      by a b h = omega (arith, h)

-- WORDS
tested : (test : Instr → Bool) (instr : Instr) → IsInstr instr → test_word test (word_of instr) ≡ test instr
tested test instr h = rw (decoded-word_of instr h) refl

counted_words : (test : Instr → Bool) (instrs : List Instr) → All IsInstr instrs →
    count_by (test_word test) (map word_of instrs) ≡ count_by test instrs
counted_words test [] all = refl
counted_words test (instr ∷ instrs) all =
    one_more (test_word test) test (word_of instr) instr (map word_of instrs) instrs
    (tested test instr (All-head IsInstr instr instrs all))
    (counted_words test instrs (All-tail IsInstr instr instrs all))

all_decoded : (instrs : List Instr) → All IsInstr instrs →
    All (λ word. test_word (λ instr. true) word ≡ true) (map word_of instrs)
all_decoded instrs all =
    All-map (λ word. test_word (λ instr. true) word ≡ true) word_of instrs
    (All-weaker IsInstr (λ instr. test_word (λ other. true) (word_of instr) ≡ true) (tested (λ instr. true)) instrs
    all)

none_passes : (test : Instr → Bool) (instrs : List Instr) → All IsInstr instrs → count_by test instrs ≡ 0 →
    All (λ word. test_word test word ≡ false) (map word_of instrs)
none_passes test [] all none = All-nil (λ word. test_word test word ≡ false)
none_passes test (instr ∷ instrs) all none =
    All-cons (λ word. test_word test word ≡ false) (word_of instr) (map word_of instrs)
    (tested test instr (All-head IsInstr instr instrs all) ∙ first_fails test instr instrs none)
    (none_passes test instrs (All-tail IsInstr instr instrs all) (later_fail test instr instrs none))

-- LINKED CODE
-- a test fails for the instructions that the linker changes
record AreSkipped (test : Instr → Bool) : Type 0 where
  pub jal : (rd : ℕ) (imm : ℤ) → test (Jal rd imm) ≡ false
  pub jalr : (rd rs1 : ℕ) (imm : ℤ) → test (Jalr rd rs1 imm) ≡ false
  pub upper : (op : UpperOp) (rd imm : ℕ) → test (Upper op rd imm) ≡ false
  pub immediate : (op : OpImmOp) (rd rs1 : ℕ) (imm : ℤ) → test (OpImm op rd rs1 imm) ≡ false

module _ (test : Instr → Bool) (skipped : AreSkipped test) where
  low_kept : (low : Option ℕ) (instr : Instr) → test (with_low low instr) ≡ test instr
  low_kept None instr = refl
  low_kept (Some address) (OpImm op rd rs1 imm) =
      skipped.immediate op rd rs1 (lower_part address) ∙ sym (skipped.immediate op rd rs1 imm)
  low_kept (Some address) (Jalr rd rs1 imm) =
      skipped.jalr rd rs1 (lower_part address) ∙ sym (skipped.jalr rd rs1 imm)
  low_kept (Some address) _ = refl

  module _ (A : Addresses) where
    target_kept : (pc : ℕ) (target : Option Target) (instr : Instr) →
        test (with_target A pc target instr) ≡ test instr
    target_kept pc None instr = refl
    target_kept pc (Some (Function number)) (Jal rd imm) =
        skipped.jal rd (pos (A.function number) -ℤ pos pc) ∙ sym (skipped.jal rd imm)
    target_kept pc (Some (Function number)) _ = refl
    target_kept pc (Some (Entry comp index)) (Upper op rd imm) =
        skipped.upper op rd (upper_part (A.entry comp index)) ∙ sym (skipped.upper op rd imm)
    target_kept pc (Some (Entry comp index)) _ = refl
    target_kept pc (Some (Global number)) (Upper op rd imm) =
        skipped.upper op rd (upper_part (A.global number)) ∙ sym (skipped.upper op rd imm)
    target_kept pc (Some (Global number)) _ = refl

    from_counted : (pc at : ℕ) (low : Option ℕ) (instrs : List Instr) (relocations : List Relocation) →
        count_by test (linked_from A pc at low instrs relocations) ≡ count_by test instrs
    from_counted pc at low [] relocations = refl
    from_counted pc at low (instr ∷ instrs) relocations =
        let target : Option Target = target_at A at relocations in
        let changed : Instr = with_target A pc target instr in
        let rest : List Instr = linked_from A (pc + 4) (suc at) (low_of_target A target) instrs
        (relocations_after A at relocations) in
        one_more test test (with_low low changed) instr rest instrs
        (low_kept low changed ∙ target_kept pc target instr)
        (from_counted (pc + 4) (suc at) (low_of_target A target) instrs (relocations_after A at relocations))

    codes_counted : (address : ℕ) (codes : List CodeTree) →
        count_by test (linked_codes A address codes) ≡ total (map {A = CodeTree} (λ code. count_by test code.instrs)
        codes)
    codes_counted address [] = refl
    codes_counted address (code ∷ codes) =
        let first : List Instr = linked A address code in
        let rest : List Instr = linked_codes A (address + 4 * length code.instrs) codes in
        summed (count_by test (first ++ rest)) (count_by test first) (count_by test rest) _ _
        (counted_append test first rest) (codes_counted (address + 4 * length code.instrs) codes)
        (ap (λ n. n + total (map {A = CodeTree} (λ c. count_by test c.instrs) codes))
        (sym (from_counted address 0 None code.instrs code.relocations)))

    jumps_counted : (comp index : ℕ) (section : TypedSection) (protos : List Proto) →
        count_by test (entry_jumps A comp index section protos) ≡ 0
    jumps_counted comp index section [] = refl
    jumps_counted comp index section (proto ∷ protos) =
        passed_over test (entry_jump A comp index section proto) (entry_jumps A comp (suc index) section protos)
        (skipped.jal 0 _) (jumps_counted comp (suc index) section protos)

  -- entries have none, so a compartment's code has those of its functions
  comp_counted : (program : ProgramTree) (codes : List CodeTree) (comp : ℕ) →
      count_by test (comp_code program codes comp)
      ≡ total (map {A = CodeTree} (λ code. count_by test code.instrs) (codes_at program codes comp))
  comp_counted program codes comp =
      let addresses : Addresses = addresses_at program codes comp in
      let exports : List Proto = exports_at program comp in
      let jumps : List Instr = entry_jumps addresses comp 0 (section_at program comp) exports in
      let bodies : List Instr = linked_codes addresses (entry_address comp (length exports))
      (codes_at program codes comp) in
      counted_append test jumps bodies
      ∙ ap (λ n. n + count_by test bodies) (jumps_counted addresses comp 0 (section_at program comp) exports)
      ∙ from_zero (count_by test bodies)
      ∙ codes_counted addresses (entry_address comp (length exports)) (codes_at program codes comp)

branches_skipped : AreSkipped is_branch
branches_skipped = record {
  jal = λ rd imm. refl;
  jalr = λ rd rs1 imm. refl;
  upper = λ op rd imm. refl;
  immediate = λ op rd rs1 imm. refl;
}

ebreak_skipped : AreSkipped is_ebreak
ebreak_skipped = record {
  jal = λ rd imm. refl;
  jalr = λ rd rs1 imm. refl;
  upper = λ op rd imm. refl;
  immediate = λ op rd rs1 imm. refl;
}

-- FUNCTIONS
-- codes that have no more than a bound each, which belongs to what they are the code of, have no more together
totals : {X : Type 0} (code : X → CodeTree) (size : CodeTree → ℕ) (bound : X → ℕ) (xs : List X) →
    ((i : ℕ) (x : X) → slice_get xs i ≡ Some x → size (code x) ≤ bound x) →
    total (map size (map code xs)) ≤ total (map bound xs)
totals code size bound [] each = omega arith
totals code size bound (x ∷ xs) each =
    by (size (code x)) (bound x) (total (map size (map code xs))) (total (map bound xs)) (each 0 x refl)
    (totals code size bound xs (λ i y is. each (suc i) y is)) where
      by : (a b c d : ℕ) → a ≤ b → c ≤ d → a + c ≤ b + d
      by a b c d first rest = omega (arith, first, rest)

nothing : {X : Type 0} (xs : List X) → total (map (λ x. 0) xs) ≡ 0
nothing [] = refl
nothing (x ∷ xs) = from_zero (total (map (λ y. 0) xs)) ∙ nothing xs

none_counted : (instrs : List Instr) → list_all {X = Instr} (λ instr. not (is_ebreak instr)) instrs ≡ true →
    count_by is_ebreak instrs ≡ 0
none_counted [] all = refl
none_counted (instr ∷ instrs) all =
    passed_over is_ebreak instr instrs (by (is_ebreak instr) (and_first (not (is_ebreak instr)) _ all))
    (none_counted instrs (and_rest (not (is_ebreak instr)) _ all)) where
      by : (b : Bool) → not b ≡ true → b ≡ false
      by true h = absurd (cc)
      by false h = refl

-- the `If`s of code are counted alike where they are defined twice
steps_agree : (layer : TacStmt-F ℕ) → branch_step layer ≡ ifs_step layer
steps_agree (tac.If cond first second) = refl
steps_agree (tac.Loop head body next) = by (total head) (total body) (total next) where
  by : (a b c : ℕ) → a + (b + (c + 0)) ≡ a + b + c
  by a b c = omega arith
steps_agree _ = refl

same_ifs : (stmts : List TacStmt) → code_ifs stmts ≡ ifs stmts
same_ifs stmts =
    ap (λ (step : TacStmt-F ℕ → ℕ). total (map (fold-TacStmt ℕ step) stmts)) (λ j layer. steps_agree layer j)

abbrev ifs_of : TacFnTree → ℕ
ifs_of f = code_ifs f.body

-- of a function that is lowered
lowered_ifs : (interfaces : Interfaces) (comp : ℕ) (structs : List TypedStruct) (f : TypedFunction) →
    ifs_of (lowered_function interfaces comp structs f) ≡ branches f
lowered_ifs interfaces comp structs f =
    same_ifs (body_code structs f 0).code ∙ keeps_branches.functions structs f

-- and optimised
source_ifs : (interfaces : Interfaces) (comp : ℕ) (structs : List TypedStruct) (f : TypedFunction) →
    ifs_of (function_tac interfaces comp structs f) ≤ branches f
source_ifs interfaces comp structs f =
    subst (λ n. ifs_of (function_tac interfaces comp structs f) ≤ n) (lowered_ifs interfaces comp structs f)
    (tac_branches (lowered_function interfaces comp structs f))

-- STRETCHES
all_first : {X : Type 0} (P : X → Type 0) (xs ys : List X) → All P (xs ++ ys) → All P xs
all_first P [] ys all = All-nil P
all_first P (x ∷ xs) ys all =
    All-cons P x xs (All-head P x (xs ++ ys) all) (all_first P xs ys (All-tail P x (xs ++ ys) all))

all_later : {X : Type 0} (P : X → Type 0) (xs ys : List X) → All P (xs ++ ys) → All P ys
all_later P [] ys all = all
all_later P (x ∷ xs) ys all = all_later P xs ys (All-tail P x (xs ++ ys) all)

-- the words of each function
abbrev function_words : Addresses → (address : ℕ) → List CodeTree → List (List ℕ)
function_words A address [] = []
function_words A address (code ∷ codes) =
    map word_of (linked A address code) ∷ function_words A (address + 4 * length code.instrs) codes

words_apart : (A : Addresses) (address : ℕ) (codes : List CodeTree) →
    map word_of (linked_codes A address codes) ≡ concat (function_words A address codes)
words_apart A address [] = refl
words_apart A address (code ∷ codes) =
    map-append word_of (linked A address code) (linked_codes A (address + 4 * length code.instrs) codes)
    ∙ ap (λ rest. map word_of (linked A address code) ++ rest)
    (words_apart A (address + 4 * length code.instrs) codes)

module _ (A : Addresses) (code : TypedFunction → CodeTree) where
  each_few : (address : ℕ) (functions : List TypedFunction) →
      All IsInstr (linked_codes A address (map code functions)) →
      ((i : ℕ) (f : TypedFunction) → slice_get functions i ≡ Some f →
      count_by is_branch (code f).instrs ≤ branches f) →
      AllZip HasFewBranches functions (function_words A address (map code functions))
  each_few address [] instrs few = tt
  each_few address (f ∷ functions) instrs few =
      let own : List Instr = linked A address (code f) in
      let next : ℕ = address + 4 * length (code f).instrs in
      let rest : List Instr = linked_codes A next (map code functions) in (
        by (count_by (test_word is_branch) (map word_of own)) (count_by is_branch (code f).instrs) (branches f)
            (counted_words is_branch own (all_first IsInstr own rest instrs)
            ∙ from_counted is_branch branches_skipped A address 0 None (code f).instrs (code f).relocations)
            (few 0 f refl),
        each_few next functions (all_later IsInstr own rest instrs) (λ i g is. few (suc i) g is),
      ) where
        by : (a b c : ℕ) → a ≡ b → b ≤ c → a ≤ c
        by a b c same most = omega (arith, same, most)

module _ (program : ProgramTree) (typed : IsWellTyped program) where
  abbrev codes : List CodeTree
  codes = all_codes (program_tac program)

  module _ (linkable : IsLinkable program codes) (emitted : AreEmitted program) (comp : ℕ) (section : TypedSection)
      (is : slice_get program.sections comp ≡ Some section)
    where
      abbrev tacs : List TacFnTree
      tacs = functions_in (program_tac program) comp

      tacs_are : tacs ≡ map (function_tac program.interfaces comp section.structs) section.functions
      tacs_are =
          ap functions_or_none (tac_at program comp ∙ ap (option_map (section_tac program.interfaces comp)) is)
          ∙ functions_are program comp section

      total_at_most : (test : Instr → Bool) (bound : TacFnTree → ℕ) → AreSkipped test →
          ((number : ℕ) (f : TacFnTree) → slice_get tacs number ≡ Some f →
          count_by test (function_code f).instrs ≤ bound f) →
          count_by test (comp_code program codes comp) ≤ total (map bound tacs)
      total_at_most test bound skipped each =
          by (count_by test (comp_code program codes comp))
          (total (map {A = CodeTree} (λ code. count_by test code.instrs) (map function_code tacs)))
          (total (map bound tacs))
          (comp_counted test skipped program codes comp
          ∙ ap (λ cs. total (map {A = CodeTree} (λ code. count_by test code.instrs) cs)) (codes_are program comp))
          (totals function_code (λ (code : CodeTree). count_by test code.instrs) bound tacs each) where
            by : (a b c : ℕ) → a ≡ b → b ≤ c → a ≤ c
            by a b c same most = omega (arith, same, most)

      no_ebreaks : count_by is_ebreak (comp_code program codes comp) ≡ 0
      no_ebreaks =
          by (count_by is_ebreak (comp_code program codes comp)) (total (map (λ f. 0) tacs))
          (total_at_most is_ebreak (λ f. 0) ebreak_skipped
          (λ number f there. none (count_by is_ebreak (function_code f).instrs)
          (none_counted (function_code f).instrs (emitted.functions comp number f there).no_ebreak)))
          (nothing tacs) where
            by : (a b : ℕ) → a ≤ b → b ≡ 0 → a ≡ 0
            by a b most same = omega (arith, same, most)

            none : (a : ℕ) → a ≡ 0 → a ≤ 0
            none a h = omega (arith, h)

      fits : Fits program comp
      fits = of_section program typed comp section is

      are_instrs : All IsInstr (comp_code program codes comp)
      are_instrs =
          code_instrs comp (exports_at program comp) (section_at program comp) (codes_at program codes comp)
          (can_link program codes emitted.whole linkable comp fits)

      code_is : code_in (built_image program) comp ≡ map word_of (comp_code program codes comp)
      code_is = ap (λ o. option_map_or (λ (part : CompPart). part.code) o []) (part_is program codes comp fits)

      abbrev lower : TypedFunction → TacFnTree
      lower = function_tac program.interfaces comp section.structs

      abbrev addresses : Addresses
      addresses = addresses_at program codes comp

      abbrev jumps : List Instr
      jumps = entry_jumps addresses comp 0 (section_at program comp) (exports_at program comp)

      abbrev begins : ℕ
      begins = entry_address comp (length (exports_at program comp))

      abbrev bodies : List Instr
      bodies = linked_codes addresses begins (codes_at program codes comp)

      twice : (fs : List TypedFunction) → map function_code (map lower fs) ≡ map (λ f. function_code (lower f)) fs
      twice [] = refl
      twice (f ∷ fs) = ap (λ rest. function_code (lower f) ∷ rest) (twice fs)

      own_codes : codes_at program codes comp ≡ map (λ f. function_code (lower f)) section.functions
      own_codes = codes_are program comp ∙ (ap (map function_code) tacs_are ∙ twice section.functions)

      function_few : (number : ℕ) (f : TypedFunction) → slice_get section.functions number ≡ Some f →
          count_by is_branch (function_code (lower f)).instrs ≤ branches f
      function_few number f its =
          let few = (emitted.functions comp number (lower f)
          (ap (λ fs. slice_get fs number) tacs_are ∙ (slice_get-map lower section.functions number ∙
          ap (option_map lower) its))).branches in
          by (count_by is_branch (function_code (lower f)).instrs) (ifs_of (lower f)) (branches f) few
          (source_ifs program.interfaces comp section.structs f) where
            by : (a b c : ℕ) → a ≤ b → b ≤ c → a ≤ c
            by a b c most more = omega (arith, most, more)

      few_each : AllZip HasFewBranches section.functions
          (function_words addresses begins (codes_at program codes comp))
      few_each =
          subst (λ cs. AllZip HasFewBranches section.functions (function_words addresses begins cs)) (sym own_codes)
          (each_few addresses (λ f. function_code (lower f)) begins section.functions
          (subst (λ cs. All IsInstr (linked_codes addresses begins cs)) own_codes
          (all_later IsInstr jumps bodies are_instrs)) function_few)

      words_without : HasNoTests section (map word_of (comp_code program codes comp))
      words_without = record {
        instructions = all_decoded (comp_code program codes comp) are_instrs;
        no_ebreak = none_passes is_ebreak (comp_code program codes comp) are_instrs no_ebreaks;
        entries = map word_of jumps;
        functions = function_words addresses begins (codes_at program codes comp);
        whole = map-append word_of jumps bodies ∙
            ap (λ rest. map word_of jumps ++ rest) (words_apart addresses begins (codes_at program codes comp));
        entered = none_passes is_branch jumps (all_first IsInstr jumps bodies are_instrs)
            (jumps_counted is_branch branches_skipped addresses comp 0 (section_at program comp)
            (exports_at program comp));
        branches = few_each;
      }

pub no_tests : (program : ProgramTree) → IsWellTyped program →
    IsLinkable program (all_codes (program_tac program)) → AreEmitted program →
    (comp : ℕ) (section : TypedSection) → slice_get program.sections comp ≡ Some section →
    HasNoTests section (code_in (built_image program) comp)
no_tests program typed linkable emitted comp section is =
    subst (HasNoTests section) (sym (code_is program typed linkable emitted comp section is))
    (words_without program typed linkable emitted comp section is)
