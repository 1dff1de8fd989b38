-- The code of a function of a program is placed where a linked image has it.
use Rattle.sc_emit_run_laws.proofs.Common.{Addresses, All, Bool, CallTarget, CodeAt, Cross, HasCode, ImageParts, Input}
use Rattle.sc_emit_run_laws.proofs.Common.{IsAddress, IsBuilt, IsWord, List, None, Option, Output, Own, Proto, Setting}
use Rattle.sc_emit_run_laws.proofs.Common.{Some, Store, TacFnTree, TacSection, TacStmt, TacStmt-F, TacTree, []}
use Rattle.sc_emit_run_laws.proofs.Common.{and_from, and_parts, ap, arith, calls_exports, calls_imports, calls_own}
use Rattle.sc_emit_run_laws.proofs.Common.{code_globals, cross_call_fits, everywhere, export_at, false, first_blocks}
use Rattle.sc_emit_run_laws.proofs.Common.{frame_taken, functions_in, functions_or_none, gives, gives_result, imports}
use Rattle.sc_emit_run_laws.proofs.Common.{is_function, is_some, is_there, length, length-append, length-map}
use Rattle.sc_emit_run_laws.proofs.Common.{linked_from, ltb-true, makes, map-TacStmt, moved_by, names_own_global}
use Rattle.sc_emit_run_laws.proofs.Common.{nat_lt, not, option_map, own_call_fits, passes_words, pos, promises_result}
use Rattle.sc_emit_run_laws.proofs.Common.{ra, refl, setting, slice_get, slice_get-map, slice_get_within, sp, sub_word}
use Rattle.sc_emit_run_laws.proofs.Common.{subst, sym, takes_result, true, word_at, ℕ, ◌&&◌, ◌<◌, ◌==◌, ◌||◌, ◌∙◌, ◌∷◌}
use Rattle.sc_emit_run_laws.proofs.Common.{◌≡◌, ◌≤◌}
use Rattle.sc_emit.specs.Prelude.{IsCodeAddress, IsPlaced, calls_only, is_call, names_only}
use Rattle.rv_code.specs.declared.instr.Instr.{Instr}
use Rattle.rv_code.specs.declared.instr.StoreOp.TheVariants.{Sw}
use Rattle.sc_tac.specs.declared.stmt.TacStmt.TheOpen as tac
use Rattle.sc_tac.specs.declared.machine_code.Relocation.{Relocation}
use Rattle.sc_emit.proofs.Passing.{AllPass, PassesHere, Test, implied_everywhere, passes}
use Rattle.sc_emit_run_laws.proofs.Sections.{InSection, in_functions, its_section}
use Rattle.sc_core.specs.Prelude.{live_cells}

-- the first word of linked code
first_word : (image : ImageParts) (A : Addresses) (comp address pc at : ℕ) (low : Option ℕ) (instrs : List Instr)
    (relocations : List Relocation) → 1 ≤ length instrs →
    CodeAt image comp address (linked_from A pc at low instrs relocations) →
    (w : ℕ) × (word_at image comp address ≡ Some w)
first_word image A comp address pc at low [] relocations some code = absurd (omega (arith, some))
first_word image A comp address pc at low (instr ∷ instrs) relocations some code = (code.0.word, code.0.fetched)

-- a word of code stands where a function begins
pub word_there : (image : ImageParts) (A : Addresses) (turn_pays comp number : ℕ) (f : TacFnTree) →
    HasCode image A turn_pays comp number f → (w : ℕ) × (word_at image comp (A.function number) ≡ Some w)
word_there image A turn_pays comp number f code =
    let prefix = code.emitted.enters in
    first_word image A comp (A.function number) (A.function number) 0 None code.code.instrs code.code.relocations
    (omega (
      arith,
      ap length prefix.is,
      length-append (frame_taken code.frame.bytes) prefix.more,
      length-append (moved_by sp sp (sub_word 0 code.frame.bytes)) (Store Sw sp ra (pos 0) ∷ []),
    )) code.stands

-- What the rules of a program say of a call, is what the code counts on.

own_made : (o : Option TacFnTree) (dest : Option ℕ) (count : ℕ) → own_call_fits o dest count ≡ true →
    (own_call_fits o None count ≡ true) × ((not (is_some dest) || gives_result o) ≡ true) × (is_some o ≡ true)
own_made None dest count h = cc h
own_made (Some f) dest count h =
    let one = and_parts (f.params == count) _ h in
    let two = and_parts (passes_words f.params f.objects) (takes_result dest f.result) one.1 in (
      and_from (f.params == count) _ one.0 (and_from (passes_words f.params f.objects) true two.0 refl),
      two.1,
      refl,
    )

cross_made : (o : Option Proto) (dest : Option ℕ) (count : ℕ) → cross_call_fits o dest count ≡ true →
    (cross_call_fits o None count ≡ true) × ((not (is_some dest) || promises_result o) ≡ true) × (is_some o ≡ true)
cross_made None dest count h = cc h
cross_made (Some proto) dest count h =
    let one = and_parts (length proto.params == count) (takes_result dest (is_some proto.result)) h in
    (and_from (length proto.params == count) true one.0 refl, one.1, refl)

-- a call that gives a value where one is taken, of a compartment that doesn't perform
given_by : (performs result : Bool) (dest : Option ℕ) → performs ≡ false → (not (is_some dest) || result) ≡ true →
    (not (is_some dest) || (not performs && result)) ≡ true
given_by true result dest honest h = cc honest
given_by false result dest honest h = h

or_true : (a : Bool) → (a || true) ≡ true
or_true true = refl
or_true false = refl

module _ (program : TacTree) (comp : ℕ) (section : TacSection) where
  -- what its code may name
  abbrev pub function : ℕ → Bool
  function number = is_some (slice_get section.functions number)

  abbrev pub entry : (to index : ℕ) → Bool
  entry to index = is_some (export_at program.interfaces to index)

  abbrev pub global : ℕ → Bool
  global number = nat_lt number (length section.globals)

  abbrev pub rules_of : List Test
  rules_of =
      names_own_global program.interfaces comp section ∷ calls_own program.interfaces comp section ∷
      calls_exports program.interfaces comp section ∷ calls_imports program.interfaces comp section ∷ []

  names_here : (layer : TacStmt-F TacStmt) → PassesHere rules_of layer →
      names_only function entry global (map-TacStmt _ _ (passes (names_only function entry global)) layer) ≡ true
  names_here (tac.Const dest value) h = refl
  names_here (tac.Copy dest from) h = refl
  names_here (tac.Op dest op left right) h = refl
  names_here (tac.ObjectPlace dest object) h = refl
  names_here (tac.GlobalPlace dest number) h = h.0
  names_here (tac.Load dest place pointer) h = refl
  names_here (tac.Store place value) h = refl
  names_here (tac.If cond first second) h = refl
  names_here (tac.Loop head body next) h = refl
  names_here tac.Break h = refl
  names_here tac.Continue h = refl
  names_here (tac.CallOwn dest number args) h =
      (own_made (slice_get section.functions number) dest (length args) h.1.0).2
  names_here (tac.CallCross dest to index args) h =
      (cross_made (export_at program.interfaces to index) dest (length args) h.1.1.0).2
  names_here (tac.Input dest) h = refl
  names_here (tac.Output value) h = refl
  names_here (tac.Alloc dest count words) h = refl
  names_here (tac.Free pointer) h = refl
  names_here (tac.Return value) h = refl

  pub names_all : (stmts : List TacStmt) → AllPass rules_of stmts →
      everywhere (names_only function entry global) stmts ≡ true
  names_all stmts all = implied_everywhere rules_of (names_only function entry global) names_here stmts all

  module _ (here : slice_get program.sections comp ≡ Some section) (performs : ℕ → Bool)
      (honest : performs comp ≡ false) where
    abbrev its_gives : CallTarget → Bool
    its_gives target = not (performs comp) && gives program comp target

    own_is : (number : ℕ) → slice_get (functions_in program comp) number ≡ slice_get section.functions number
    own_is number = ap (λ o. slice_get (functions_or_none o) number) here

    abbrev its_calls : Test
    its_calls = calls_only (makes program comp) its_gives

    own_call_here : (dest : Option ℕ) (number : ℕ) (args : List ℕ) →
        own_call_fits (slice_get section.functions number) dest (length args) ≡ true →
        is_call (makes program comp) its_gives (Own number) (length args) dest ≡ true
    own_call_here dest number args h =
        let o = slice_get section.functions number in
        let made = own_made o dest (length args) h in
        and_from (makes program comp (Own number) (length args)) (not (is_some dest) || its_gives (Own number))
        (ap (λ o. own_call_fits o None (length args)) (own_is number) ∙ made.0)
        (given_by (performs comp) (gives program comp (Own number)) dest honest
        (ap (λ o. not (is_some dest) || gives_result o) (own_is number) ∙ made.1))

    cross_call_here : (dest : Option ℕ) (to index : ℕ) (args : List ℕ) →
        cross_call_fits (export_at program.interfaces to index) dest (length args) ≡ true →
        imports program.interfaces comp (is_function to index) ≡ true →
        is_call (makes program comp) its_gives (Cross to index) (length args) dest ≡ true
    cross_call_here dest to index args h k =
        let made = cross_made (export_at program.interfaces to index) dest (length args) h in
        and_from (makes program comp (Cross to index) (length args)) (not (is_some dest) || its_gives (Cross to index))
        (and_from (imports program.interfaces comp (is_function to index)) _ k made.0)
        (given_by (performs comp) (gives program comp (Cross to index)) dest honest made.1)

    calls_here : (layer : TacStmt-F TacStmt) → PassesHere rules_of layer →
        its_calls (map-TacStmt _ _ (passes its_calls) layer) ≡ true
    calls_here (tac.Const dest value) h = refl
    calls_here (tac.Copy dest from) h = refl
    calls_here (tac.Op dest op left right) h = refl
    calls_here (tac.ObjectPlace dest object) h = refl
    calls_here (tac.GlobalPlace dest number) h = refl
    calls_here (tac.Load dest place pointer) h = refl
    calls_here (tac.Store place value) h = refl
    calls_here (tac.If cond first second) h = refl
    calls_here (tac.Loop head body next) h = refl
    calls_here tac.Break h = refl
    calls_here tac.Continue h = refl
    calls_here (tac.CallOwn dest number args) h = own_call_here dest number args h.1.0
    calls_here (tac.CallCross dest to index args) h = cross_call_here dest to index args h.1.1.0 h.1.1.1.0
    calls_here (tac.Input dest) h =
        and_from (makes program comp Input 0) (not (is_some dest) || its_gives Input) h.1.1.1.0
        (given_by (performs comp) true dest honest (or_true (not (is_some dest))))
    calls_here (tac.Output value) h =
        and_from (makes program comp Output 1) true (and_from _ true h.1.1.1.0 refl) refl
    calls_here (tac.Alloc dest count words) h = refl
    calls_here (tac.Free pointer) h = refl
    calls_here (tac.Return value) h = refl

    pub calls_all : (stmts : List TacStmt) → AllPass rules_of stmts → everywhere its_calls stmts ≡ true
    calls_all stmts all = implied_everywhere rules_of its_calls calls_here stmts all

module _ {program : TacTree} {image : ImageParts} {turn_pays : ℕ} {performs : ℕ → Bool}
    (built : IsBuilt performs program image turn_pays) (inputs : List ℕ) (words : All IsWord inputs) where
  abbrev T : Setting
  T = setting program image inputs performs turn_pays built.addresses

  globals_are : (comp : ℕ) (section : TacSection) → slice_get program.sections comp ≡ Some section →
      length (code_globals program.sections comp) ≡ length section.globals
  globals_are comp section here = ap (λ o. length (first_blocks o)) here ∙ length-map section.globals _

  global_place : (comp number : ℕ) (section : TacSection) → performs comp ≡ false →
      slice_get program.sections comp ≡ Some section → number < length section.globals →
      IsAddress ((built.addresses comp).global number)
  global_place comp number section honest here below =
      let its = is_there section.globals number below in
      (built.linked.globals comp number _ honest
      (ap live_cells (ap (λ o. slice_get (first_blocks o) number) here ∙ slice_get-map _ section.globals number ∙
      ap (option_map _) its.1))).is_address

  some_within : {X : Type 0} (xs : List X) (i : ℕ) (o : Option X) → slice_get xs i ≡ o → is_some o ≡ true →
      i < length xs
  some_within xs i None e h = cc h
  some_within xs i (Some x) e h = slice_get_within xs i x e

  entry_place : (comp to index : ℕ) (o : Option Proto) → export_at program.interfaces to index ≡ o →
      is_some o ≡ true → IsCodeAddress ((built.addresses comp).entry to index)
  entry_place comp to index None e h = cc h
  entry_place comp to index (Some proto) e h = built.linked.entry_at comp to index proto e

  pub is_placed : (comp number : ℕ) (f : TacFnTree) → performs comp ≡ false →
      slice_get (functions_in program comp) number ≡ Some f → passes_words f.params f.objects ≡ true →
      (code : HasCode image (built.addresses comp) turn_pays comp number f) →
      IsPlaced T comp ((built.addresses comp).function number) f code.code
  is_placed comp number f honest its passed code =
      let at : InSection program comp number f = its_section program comp number f its in
      let all : AllPass (rules_of program comp at.section) f.body = (
        in_functions program (names_own_global program.interfaces) comp number f at built.rules.globals,
        (
          in_functions program (calls_own program.interfaces) comp number f at built.rules.own_calls,
          (
            in_functions program (calls_exports program.interfaces) comp number f at built.rules.cross_calls,
            (in_functions program (calls_imports program.interfaces) comp number f at built.rules.imported, tt),
          ),
        ),
      ) in
      record {
        image = built.linked.formed;
        inputs = words;
        function = function program comp at.section;
        entry = entry program comp at.section;
        global = global program comp at.section;
        names = names_all program comp at.section f.body all;
        calls = calls_all program comp at.section at.here performs honest f.body all;
        reached = record {
          functions = λ other h. built.linked.function_at comp other
              (subst (λ (fs : List TacFnTree). other < length fs) (sym (ap functions_or_none at.here))
              (some_within at.section.functions other (slice_get at.section.functions other) refl h));
          entries = λ to index h.
              entry_place comp to index (export_at program.interfaces to index) refl h;
          globals = λ other h. omega (
            arith,
            globals_are comp at.section at.here,
            ltb-true other (length at.section.globals) h,
          );
          places = λ other h.
              global_place comp other at.section honest at.here (ltb-true other (length at.section.globals) h);
        };
        heap = code.heap;
        words = passed;
        paid = omega (arith, code.paid);
        stands = code.stands;
      }
