-- The machine with tags: it executes what is tagged as code of the active compartment, and loads and stores what is
-- tagged as its data.
use Rattle.sc_tags.specs.Common.{ByteMemory, Carrier, Goes, ImageParts, Outcome, OutcomeOf, Protection, RunOf}
use Rattle.sc_tags.specs.Common.{TagRange}
use Rattle.sc_tags.specs.Common.{Traps, comp_of_code, entered_export, environment_call, export_params, gate, load_of}
use Rattle.sc_tags.specs.Common.{Code, Data, may_call_export, ra, run_by, step_by}
use Rattle.sc_tags.specs.Tagged.{Tagged, on_tag_call, on_tag_return, tag_start}
use Rattle.sc_tags.specs.Tags.{all_tagged, tag_at}
use Rattle.sc_base.specs.declared.stop.TrapReason.TheVariants.{BadJump, NoImport}
use Rattle.std.specs.Prelude.{List, None, Option, Some, if◌then◌else◌, nat_eq, ℕ, ◌%◌, ◌&&◌}

abbrev pub core_of : Carrier Tagged
core_of = record { seen = λ tagged. tagged.core; changed = λ tagged core. record tagged { core = core } }

-- The entry of an export carries the export, whatever the tags of its bytes: it lies in the code of the export's
-- compartment, and so its address says which compartment that is.

-- to an address that carries the export of that index of compartment `to`, or none: a call where that is another
-- compartment
abbrev pub carried_called : ImageParts → Tagged → (to target : ℕ) → Option ℕ → OutcomeOf Tagged
carried_called image tagged to target None = Traps BadJump
carried_called image tagged to target (Some index) =
    if nat_eq to tagged.core.active then Traps BadJump
    else if may_call_export image tagged.core.active to index
    then Goes (on_tag_call tagged to index (export_params image to index) target)
    else Traps NoImport

-- a jump to what isn't the own code calls where rd is ra
abbrev pub tag_jumps : ImageParts → Tagged → (rd target : ℕ) → OutcomeOf Tagged
tag_jumps image tagged rd target =
    let to = comp_of_code target in
    if nat_eq rd ra then carried_called image tagged to target (entered_export image to target) else Traps BadJump

-- JALR returns, too, where rd is x0 and the target is the gate
abbrev pub tag_leaves : ImageParts → Tagged → (rd target : ℕ) → OutcomeOf Tagged
tag_leaves image tagged rd target =
    if nat_eq rd 0 && nat_eq target gate
    then Goes (on_tag_return image tagged tagged.level)
    else tag_jumps image tagged rd target

-- what the core comes to
abbrev pub with_outcome : Tagged → Outcome → OutcomeOf Tagged
with_outcome tagged (Goes core) = Goes (record tagged { core = core })
with_outcome tagged (Traps reason) = Traps reason

-- the word at an address, where its four bytes are compartment c's code
abbrev pub tagged_word : ImageParts → List TagRange → (c : ℕ) → ByteMemory → (address : ℕ) → Option ℕ
tagged_word image ranges c memory address =
    if nat_eq (address % 4) 0 && all_tagged (tag_at image ranges) (Code c) address 4
    then Some (load_of memory address 4) else None

abbrev pub by_tag : ImageParts → List TagRange → List ℕ → Protection Tagged
by_tag image ranges inputs = record {
  carrier = core_of;
  fetched = λ tagged. tagged_word image ranges tagged.core.active tagged.core.memory;
  may_load = λ tagged. all_tagged (tag_at image ranges) (Data tagged.core.active);
  may_store = λ tagged. all_tagged (tag_at image ranges) (Data tagged.core.active);
  jal_leaves = tag_jumps image;
  jalr_leaves = tag_leaves image;
  environment = λ tagged. with_outcome tagged (environment_call image inputs tagged.core);
}

abbrev pub tag_step : ImageParts → List TagRange → List ℕ → Tagged → OutcomeOf Tagged
tag_step image ranges inputs = step_by (by_tag image ranges inputs)

-- at most `steps` steps from a state on, with at most `events` events in the whole trace
abbrev pub tag_run : ImageParts → List TagRange → List ℕ → (events steps : ℕ) → Tagged → RunOf Tagged
tag_run image ranges inputs = run_by (by_tag image ranges inputs)

-- and from the start
abbrev pub tag_machine : ImageParts → List TagRange → List ℕ → (steps events : ℕ) → RunOf Tagged
tag_machine image ranges inputs steps events = tag_run image ranges inputs events steps (tag_start image)
