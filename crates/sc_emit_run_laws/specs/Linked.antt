-- Images in which the code of a program stands.
use Rattle.sc_emit_run_laws.specs.Common.{Addresses, Cross, Export, ImageParts, InCell, Input, IsAddress, IsWellFormed}
use Rattle.sc_emit_run_laws.specs.Common.{Main, Output, Own, Placed, Proto, Setting, TacFnTree, TacTree, cells_at}
use Rattle.sc_emit_run_laws.specs.Common.{code_globals, cross_call_fits, export_at, function_entered, has_result}
use Rattle.sc_emit_run_laws.specs.Common.{imports, is_function, is_input, is_output, linked, may_call_export, may_input}
use Rattle.sc_emit_run_laws.specs.Common.{may_output, own_call_fits, export_params, stack_top, start, start_memory}
use Rattle.sc_word.specs.Prelude.{add_word, word_of}
use Rattle.sc_image.specs.Prelude.{entered_export as image_export, has_heap, zone_start}
use Rattle.sc_emit_hart.specs.Prelude.{CodeAt, Fetches, word}
use Rattle.sc_emit.specs.Prelude.{IsCodeAddress, IsEmitted}
use Rattle.std.specs.Prelude.{◌≡◌, ◌≢◌, ℕ, ℤ, ◌+◌, ◌*◌, ◌<◌, ◌≤◌, ◌⊎◌, Bool, true, false, not, ◌&&◌, ◌||◌, ◌==◌, nat_lt}
use Rattle.std.specs.Prelude.{List, [], length, Option, None, Ok, Some, is_some, slice_get}
use Rattle.rv_code.specs.declared.instr.Instr.TheVariants.{Jal}
use Rattle.sc_core.specs.declared.expr.CallTarget.{CallTarget}
use Rattle.sc_core.specs.declared.value.Cell.{Cell}
use Rattle.sc_tac.specs.declared.frame.FrameTree.{FrameTree}
use Rattle.sc_tac.specs.declared.machine_code.CodeTree.{CodeTree}
use Rattle.sc_tac.specs.declared.program.TacSection.{TacSection}

abbrev pub functions_or_none : Option TacSection → List TacFnTree
functions_or_none None = []
functions_or_none (Some section) = section.functions

abbrev pub gives_result : Option TacFnTree → Bool
gives_result None = false
gives_result (Some f) = f.result

abbrev pub promises_result : Option Proto → Bool
promises_result None = false
promises_result (Some proto) = is_some proto.result

module _ (program : TacTree) where
  abbrev pub functions_in : (comp : ℕ) → List TacFnTree
  functions_in comp = functions_or_none (slice_get program.sections comp)

  -- the calls that a compartment's code may make, with `args` arguments
  abbrev pub makes : (comp : ℕ) → CallTarget → (args : ℕ) → Bool
  makes comp (Own number) args = own_call_fits (slice_get (functions_in comp) number) None args
  makes comp (Cross to index) args =
      imports program.interfaces comp (is_function to index) &&
      cross_call_fits (export_at program.interfaces to index) None args
  makes comp Input args = imports program.interfaces comp is_input
  makes comp Output args = imports program.interfaces comp is_output && args == 1

  -- those of them that give a value
  abbrev pub gives : (comp : ℕ) → CallTarget → Bool
  gives comp (Own number) = gives_result (slice_get (functions_in comp) number)
  gives comp (Cross to index) = promises_result (export_at program.interfaces to index)
  gives comp Input = true
  gives comp Output = false

  -- a run of an image in which some compartments perform in place of running the program's code; what a script gives
  -- back is not known
  abbrev pub setting : ImageParts → List ℕ → (performs : ℕ → Bool) → (turn_pays : ℕ) → (ℕ → Addresses) → Setting
  setting image inputs performs turn_pays addresses = record {
    image = image;
    inputs = inputs;
    from = start image;
    performs = λ k. performs k || not (nat_lt k (length image.comps));
    turn_pays = turn_pays;
    addresses = addresses;
    globals = λ k. length (code_globals program.sections k);
    makes = makes;
    gives = λ comp target. not (performs comp) && gives comp target;
  }

-- the code of a function stands where it begins, in a compartment that has a heap where it uses one, and a turn pays
-- for it and one step more
pub record HasCode (image : ImageParts) (addresses : Addresses) (turn_pays comp number : ℕ) (f : TacFnTree) :
    Type 0 where
  pub frame : FrameTree
  pub code : CodeTree
  pub emitted : IsEmitted f frame code
  pub stands : CodeAt image comp (addresses.function number) (linked addresses (addresses.function number) code)
  pub heap : code.heap ≡ true → has_heap image comp ≡ true
  pub paid : length code.instrs < turn_pays

-- at an entry stands a jump to the function of that number
pub record EntersBy (image : ImageParts) (comp entry function : ℕ) : Type 0 where
  pub imm : ℤ
  pub jump : Fetches image comp entry (Jal 0 imm)
  pub leads : add_word entry (word_of imm) ≡ function

-- a global of these cells lies at its place, between the stack and the zone, and holds its words at the start
pub record GlobalStands (image : ImageParts) (comp address : ℕ) (cells : List Cell) : Type 0 where
  pub placed : Placed image (stack_top comp) comp address (length cells)
  pub below : address + 4 * length cells ≤ zone_start comp
  pub is_address : IsAddress address
  pub holds : (i : ℕ) (c : Cell) → slice_get cells i ≡ Some c →
      InCell (λ b. None) (word (start_memory image) (address + 4 * i)) c

-- An image that has the interfaces of a program, and in which the program's code and globals stand in each compartment
-- outside of `set`. A compartment of `set` may have any code and any globals, behind the entries that the code of the
-- others expects.
pub record IsLinked (set : ℕ → Bool) (program : TacTree) (image : ImageParts) (turn_pays : ℕ)
    (addresses : ℕ → Addresses) : Type 0 where
  pub formed : IsWellFormed image
  pub main : image.main ≡ program.interfaces.main
  pub comps : length image.comps ≡ length program.interfaces.comps
  -- functions
  pub functions : (comp number : ℕ) (f : TacFnTree) → set comp ≡ false →
      slice_get (functions_in program comp) number ≡ Some f → HasCode image (addresses comp) turn_pays comp number f
  pub function_at : (comp number : ℕ) → number < length (functions_in program comp) →
      IsCodeAddress ((addresses comp).function number)
  pub main_at : (number : ℕ) → set program.interfaces.main ≡ false →
      function_entered Main (slice_get program.sections program.interfaces.main) ≡ Some number →
      image.entry ≡ (addresses program.interfaces.main).function number
  -- entries
  pub entries : (from to index number : ℕ) → set to ≡ false →
      function_entered (Export index) (slice_get program.sections to) ≡ Some number →
      EntersBy image to ((addresses from).entry to index) ((addresses to).function number)
  pub entry_at : (from to index : ℕ) (proto : Proto) → export_at program.interfaces to index ≡ Some proto →
      IsCodeAddress ((addresses from).entry to index)
  pub exports : (from to index : ℕ) (proto : Proto) → export_at program.interfaces to index ≡ Some proto →
      image_export image to ((addresses from).entry to index) ≡ Some index
  pub params : (to index : ℕ) (proto : Proto) → export_at program.interfaces to index ≡ Some proto →
      export_params image to index ≡ length proto.params
  pub result : (to index : ℕ) (proto : Proto) → export_at program.interfaces to index ≡ Some proto →
      has_result image to (Export index) ≡ is_some proto.result
  -- imports
  pub calls : (from to index : ℕ) → imports program.interfaces from (is_function to index) ≡ true →
      may_call_export image from to index ≡ true
  pub inputs : (comp : ℕ) → imports program.interfaces comp is_input ≡ true → may_input image comp ≡ true
  pub outputs : (comp : ℕ) → imports program.interfaces comp is_output ≡ true → may_output image comp ≡ true
  -- globals
  pub globals : (comp number : ℕ) (cells : List Cell) → set comp ≡ false →
      cells_at (code_globals program.sections comp) number ≡ Ok cells →
      GlobalStands image comp ((addresses comp).global number) cells
  pub globals_apart : (comp number other : ℕ) (cells more : List Cell) → set comp ≡ false → number ≢ other →
      cells_at (code_globals program.sections comp) number ≡ Ok cells →
      cells_at (code_globals program.sections comp) other ≡ Ok more →
      ((addresses comp).global number + 4 * length cells ≤ (addresses comp).global other)
      ⊎ ((addresses comp).global other + 4 * length more ≤ (addresses comp).global number)
