-- Programs whose other form performs parts of a trace by texts mean what the scripted meaning says.
use Rattle.sc_back_replay_laws.proofs.Common.{Blamed, Blocks, Bool, Calls, Cause, Denotations, Entry, Event, Export}
use Rattle.sc_back_replay_laws.proofs.Common.{HasReplaced, Interfaces, IsCounter, IsRecomposed, IsReplay, IsSome, List}
use Rattle.sc_back_replay_laws.proofs.Common.{Main, None, Option, Performs, PerformsRows, ProgramTree, Proto, Roles}
use Rattle.sc_back_replay_laws.proofs.Common.{Row, Some, State, TextsPerform, TypedFunction, TypedSection, TypedStruct}
use Rattle.sc_back_replay_laws.proofs.Common.{[], all_do, and_then, ap, block_does, bytes_eq, c_arith, closed}
use Rattle.sc_back_replay_laws.proofs.Common.{denotations_of, export_at, false, false≢true, first_blocks, follow}
use Rattle.sc_back_replay_laws.proofs.Common.{function_of, functions_in, functions_of, global_block, globals_of}
use Rattle.sc_back_replay_laws.proofs.Common.{in_order, inits_do, is_some, leads, length, main_name, map, option_map_or}
use Rattle.sc_back_replay_laws.proofs.Common.{part, place_named, place_of_export, proto_of, refl, roles_in}
use Rattle.sc_back_replay_laws.proofs.Common.{scripted_meaning, slice_get, stopped_at, struct_zeros, subst, sym, true}
use Rattle.sc_back_replay_laws.proofs.Common.{ℕ, ◌&&◌, ◌==◌, ◌∙◌, ◌∷◌, ◌≡◌}
use Rattle.sc_core.specs.declared.section.TypedGlobal.{TypedGlobal}
use Rattle.sc_core.specs.declared.ty.Ty.TheVariants as ty
use Rattle.sc_core.specs.Meaning as core
use Rattle.sc_core_laws.proofs.ProgramLaws as laws
use Rattle.sc_back_replay_laws.proofs.Text.{counting}
use Rattle.sc_back_replay_laws.proofs.Crossing.{at}
use Rattle.sc_back_replay_laws.proofs.Entries.{Leads, apart, entry_named, function_is, functions_are}
use Rattle.sc_back_replay_laws.proofs.Entries as entries
use Rattle.sc_back_replay_laws.proofs.Recomposed.{Performed, Recomposed}
use Rattle.sc_back_replay_laws.proofs.Rows.{part_fair}
use Rattle.sc_back_replay_laws.proofs.Runs.{runs_same}

-- the block of the counter, when a run begins
counter_block : (structs : List TypedStruct) (counter : TypedGlobal) → IsCounter counter →
    global_block (struct_zeros [] structs) counter ≡ counting 0
counter_block structs counter is =
    ap (λ type. core.global_block (struct_zeros [] structs) (record counter { ty = type })) is.word ∙
    ap (λ init. core.global_block (struct_zeros [] structs) (record counter { ty = ty.Unsigned; init = init })) is.zero

first_blocks_are : (interfaces : Interfaces) (c : ℕ) (rows : List Row) (section : TypedSection) →
    PerformsRows interfaces c rows section → first_blocks (Some section) ≡ counting 0 ∷ []
first_blocks_are interfaces c rows section is =
    ap (map (global_block (struct_zeros [] section.structs))) is.globals ∙
    ap (λ block. block ∷ []) (counter_block section.structs is.counter is.counts)

module _ (program other : ProgramTree) (set : ℕ → Bool) (trace : List Event)
    (replay : IsReplay program other set trace) where
  abbrev interfaces : Interfaces
  interfaces = program.interfaces

  abbrev roles : Roles
  roles = roles_in interfaces.main set trace

  abbrev L : Denotations
  L = denotations_of c_arith program

  abbrev M : Denotations
  M = denotations_of c_arith other

  r : IsRecomposed program other set trace
  r = replay.recomposed

  -- what is kept
  kept_functions : (c : ℕ) → set c ≡ false → functions_of M c ≡ functions_of L c
  kept_functions c clear =
      functions_are c_arith other c ∙
      ap (λ i. option_map_or (functions_in c_arith i.main) (slice_get other.sections c) []) r.interfaces ∙
      ap (λ o. option_map_or (functions_in c_arith interfaces.main) o []) (r.kept c clear) ∙
      sym (functions_are c_arith program c)

  kept_entries : (c : ℕ) (entry : Entry) → set c ≡ false → M.entered c entry ≡ L.entered c entry
  kept_entries c Main clear = ap (place_named main_name) (r.kept c clear)
  kept_entries c (Export index) clear =
      ap (λ i. place_of_export (export_at i c index) (slice_get other.sections c)) r.interfaces ∙
      ap (place_of_export (export_at interfaces c index)) (r.kept c clear)

  -- what performs
  does_text : (structs : List TypedStruct) (f : TypedFunction) → f.locals ≡ [] → (c : ℕ) (by : Calls) (first : ℕ)
      (s : State) →
      (function_of c_arith interfaces.main structs f).does by (at c first) s ≡
      and_then (block_does c_arith structs (at c first) (length f.params) by f.body tt s)
      (λ left s. closed left.exit (is_some f.result) (c == interfaces.main && bytes_eq f.name main_name)
      f.close_line
      (at c first) s)
  does_text structs f locals c by first s =
      ap (λ ls. and_then (follow in_order
      (all_do (inits_do c_arith structs (at c first) (length f.params) 0 ls) tt s)
      (block_does c_arith structs (at c first) (length f.params) by f.body))
      (λ left s. closed left.exit (is_some f.result) (c == interfaces.main && bytes_eq f.name main_name)
      f.close_line
      (at c first) s)) locals

  performed_by : (c : ℕ) (entry : Entry) (proto : Proto) → proto_of interfaces c entry ≡ Some proto →
      (section : TypedSection) → slice_get other.sections c ≡ Some section →
      Performs interfaces entry proto (part interfaces.main c trace) section → Performed roles L M c entry
  performed_by c entry proto known section is p =
      let own : Leads program replay.typed c entry proto = entries.leads program replay.typed c entry proto known in
      record {
        number = own.number;
        f = function_of c_arith interfaces.main own.section.structs own.item;
        entered = own.entered;
        there = function_is c_arith program c own.number own.section own.item own.is own.there;
        number' = p.number;
        entered' = entry_named other c entry proto
            (subst (λ i. proto_of i c entry ≡ Some proto) (sym r.interfaces) known) ∙
            ap (place_named proto.name) is ∙ p.named;
        performer = record {
          item = function_of c_arith interfaces.main section.structs p.function;
          is = function_is c_arith other c p.number section p.function is p.is ∙
              ap (λ i. Some (function_of c_arith i.main section.structs p.function)) r.interfaces;
          structs = section.structs;
          params = length p.function.params;
          result = proto.result;
          stmts = p.function.body;
          text = p.body;
          close = λ first left s. closed left.exit (is_some p.function.result)
              (c == interfaces.main && bytes_eq p.function.name main_name) p.function.close_line (at c first) s;
          closes = λ first v s. refl;
          does = does_text section.structs p.function p.locals c;
        };
      }

  performed : (c : ℕ) (entry : Entry) → set c ≡ true → IsSome (proto_of interfaces c entry) →
      Performed roles L M c entry
  performed c entry performs known = by (proto_of interfaces c entry) refl known where
    replaced : HasReplaced interfaces c (part interfaces.main c trace) (slice_get other.sections c)
    replaced = r.replaced c performs

    by : (o : Option Proto) → proto_of interfaces c entry ≡ o → IsSome o → Performed roles L M c entry
    by None is some = absurd (false≢true some)
    by (Some proto) is some =
        performed_by c entry proto is replaced.section replaced.is (replaced.replaced.functions entry proto is)

  -- exports lead to functions
  leads_so : (to index : ℕ) → IsSome (export_at interfaces to index) →
      leads L to (L.entered to (Export index)) ≡ true
  leads_so to index known = by (export_at interfaces to index) refl known where
    by : (o : Option Proto) → export_at interfaces to index ≡ o → IsSome o →
        leads L to (L.entered to (Export index)) ≡ true
    by None is some = absurd (false≢true some)
    by (Some proto) is some =
        let own : Leads program replay.typed to (Export index) proto =
        entries.leads program replay.typed to (Export index) proto is in
        ap (leads L to) own.entered ∙
        ap is_some (function_is c_arith program to own.number own.section own.item own.is own.there)

  recomposed : Recomposed roles L M
  recomposed = record {
    interfaces = r.interfaces;
    kept = kept_functions;
    kept_entries = kept_entries;
    performed = performed;
    apart = λ c entry other number performs is known known' ne. apart program replay.typed c entry other number is
        known known' ne;
    fair = λ c performs. part_fair L leads_so c trace replay.is_legal replay.words;
  }

  -- the memory in which runs begin
  kept_globals : (c : ℕ) → set c ≡ false → globals_of other.sections c ≡ globals_of program.sections c
  kept_globals c clear = ap first_blocks (r.kept c clear)

  counters : (c : ℕ) → set c ≡ true → (rest : Blocks) × (globals_of other.sections c ≡ counting 0 ∷ rest)
  counters c performs =
      let replaced = r.replaced c performs in (
        [],
        ap first_blocks replaced.is ∙
            first_blocks_are interfaces c (part interfaces.main c trace) replaced.section
            replaced.replaced,
      )

  pub replays : (inputs : List ℕ) (turns events : ℕ) →
      core.meaning other inputs turns events ≡ scripted_meaning program set trace inputs turns events
  replays inputs turns events =
      ap (stopped_at events) (runs_same roles L M recomposed (laws.programs_obey.itself c_arith program)
      (laws.programs_obey.itself c_arith other) (globals_of program.sections) (globals_of other.sections) kept_globals
      counters inputs turns)

  pub blame : (inputs : List ℕ) (turns events comp : ℕ) (cause : Cause) (line : ℕ) →
      (core.meaning other inputs turns events).end ≡ Blamed comp cause line → set comp ≡ false
  blame inputs turns events comp cause line is =
      laws.nobody_who_performs_is_blamed.programs c_arith program set trace inputs turns events comp cause line
      (ap (λ run. run.end) (sym (replays inputs turns events)) ∙ is)

pub texts_perform : TextsPerform
texts_perform = record { replays = replays; blame = blame }
