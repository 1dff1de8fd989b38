-- What the code of a function keeps.
use Rattle.sc_core.specs.Prelude.{instrs_a_node}
use Rattle.sc_emit.specs.Common.{CodeTree, FunctionFollows, Setting, branches, code_function, entry_weight, everywhere}
use Rattle.sc_emit.specs.Common.{frame_taken, linked, passes_words, refers_only, uses_heap, weight, wrapping}
use Rattle.sc_base.specs.Prelude.{IsPrefix}
use Rattle.sc_image.specs.Prelude.{IsWellFormed, IsWord, has_heap}
use Rattle.sc_emit_hart.specs.Prelude.{CodeAt}
use Rattle.std.specs.Prelude.{All, Bool, IsTrue, length, true, ℕ, ◌*◌, ◌+◌, ◌<◌, ◌≡◌, ◌≤◌}
use Rattle.sc_tac.specs.declared.frame.FrameTree.{FrameTree}
use Rattle.sc_tac.specs.declared.function.TacFnTree.{TacFnTree}
use Rattle.sc_emit.specs.Naming.{calls_only, AreReached}
use Rattle.sc_emit.specs.Shapes.{code_back_edges, code_branches, has_known_jumps, has_no_ebreak, loops, names_only}
use Rattle.sc_emit.specs.Layout.{HasRounds}
use Rattle.sc_emit.specs.Repeating.{RepeatsByRounds}

-- the linked code of a function stands at an address of a compartment, all that it names is where it can be reached, it
-- makes the calls that may be made, the compartment has a heap where it uses one, its parameters are words, and a turn
-- pays for it
pub record IsPlaced (T : Setting) (comp address : ℕ) (f : TacFnTree) (code : CodeTree) : Type 0 where
  pub image : IsWellFormed T.image
  pub inputs : All IsWord T.inputs
  pub function : ℕ → Bool
  pub entry : (comp index : ℕ) → Bool
  pub global : ℕ → Bool
  pub names : IsTrue (everywhere (names_only function entry global) f.body)
  pub calls : IsTrue (everywhere (calls_only (T.makes comp) (T.gives comp)) f.body)
  pub reached : AreReached T comp function entry global
  pub heap : code.heap ≡ true → has_heap T.image comp ≡ true
  pub words : IsTrue (passes_words f.params f.objects)
  pub paid : length code.instrs ≤ T.turn_pays
  pub stands : CodeAt T.image comp address (linked (T.addresses comp) address code)

-- wherever it is placed, the machine follows the function, whatever set of compartments performs
abbrev pub CodeFollows : TacFnTree → CodeTree → Type 0
CodeFollows f code =
    (T : Setting) (comp address : ℕ) → IsPlaced T comp address f code →
    FunctionFollows T comp address (length code.instrs) f.params (code_function wrapping f)

pub record IsEmitted (f : TacFnTree) (frame : FrameTree) (code : CodeTree) : Type 0 where
  -- from each state that stands for one of the meaning over code the instructions reach what that reaches; in steps at
  -- least as many as turns, and, turns apart, at most as many as instructions
  pub follows : CodeFollows f code
  -- the frame is taken, and ra stored at its bottom, before anything else
  pub enters : IsPrefix (frame_taken frame.bytes) code.instrs
  -- each iteration of a loop executes an instruction of the loop's own before its body: the one that it begins with, or
  -- the one that leads back
  pub rounds : HasRounds f.body code.instrs
  -- no more instructions than the function weighs
  pub light : length code.instrs ≤ entry_weight f.params + weight f.body
  pub short : length code.instrs < instrs_a_node * f.nodes
  -- no call executes an instruction twice but that a loop around it begins a further round in between
  pub repeats : RepeatsByRounds f code
  -- at most one instruction a loop leads back; all others lead on, are calls, or end the call
  pub back_edges : code_back_edges code ≤ loops f.body
  pub jumps : IsTrue (has_known_jumps code)
  -- a branch at most for each `If`
  pub branches : code_branches code ≤ branches f.body
  pub no_ebreak : IsTrue (has_no_ebreak code)
  -- it is marked where it uses the heap
  pub heap : code.heap ≡ uses_heap f.body
  -- relocations name what statements name
  pub names : (function : ℕ → Bool) (entry : (comp index : ℕ) → Bool) (global : ℕ → Bool) →
      IsTrue (everywhere (names_only function entry global) f.body) → IsTrue (refers_only function entry global code)
