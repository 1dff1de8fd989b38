-- The premises can be met: a function that names nothing and makes no call is the only one of an image, and is followed
-- from the start of a run.
-- An instance: nothing cites it.
use Rattle.sc_emit.proofs.Common.{Addresses, All, Bool, CallTarget, Calls, CodeTree, FunctionGives, ImageParts}
use Rattle.sc_emit.proofs.Common.{IsWellFormed, IsWord, Joint, List, None, Overflows, Registers, Setting, Standpoint}
use Rattle.sc_emit.proofs.Common.{State as Meant, Stopped, TacFnTree, ℕ, [], ap, append-nil, arith, calls_only}
use Rattle.sc_emit.proofs.Common.{code_function, code_start, emits_here, false, gate, if◌then◌else◌, inl, length}
use Rattle.sc_emit.proofs.Common.{linked, map, names_only, ne_eqb, not, refl, runs_with, stack_top, start, start_memory}
use Rattle.sc_emit.proofs.Common.{sym, true, wrapping, ◌==◌, ◌∙◌, ◌∷◌, ◌≡◌, ◌⊎◌}
use Rattle.rv_code.specs.Prelude.{IsInstr, word_of}
use Rattle.sc_core.specs.declared.run.RunEnd.TheVariants.{TurnsOut}
use Rattle.sc_core_laws.proofs.Growing.{no_turn}
use Rattle.sc_emit.specs.Emission.{CodeFollows, IsPlaced}
use Rattle.sc_emit_hart.proofs.Fetching.{code_is_fetched}
use Rattle.sc_emit_relation.specs.Prelude.{CallsFollow}
use Rattle.sc_image.proofs.Reached.{runs_are_steady}
use Rattle.sc_tac.specs.Prelude.{everywhere}
use Rattle.std.specs.Prelude.{slice_index_or, suc, zero}
use Rattle.sc_image.specs.declared.parts.CompPart.{CompPart}

-- nothing is named
abbrev none : Addresses
none = record { function = λ number. 0; entry = λ comp index. 0; global = λ number. 0 }

abbrev never : ℕ → Bool
never number = false

abbrev never_entry : (comp index : ℕ) → Bool
never_entry comp index = false

abbrev no_call : CallTarget → (args : ℕ) → Bool
no_call target args = false

abbrev no_value : CallTarget → Bool
no_value target = false

module _ (comp : CompPart) (inputs : List ℕ) (words : All IsWord inputs) (turns : ℕ) (f : TacFnTree) (code : CodeTree)
    (instrs : All IsInstr (linked none (code_start 0) code))
    (its : comp.code ≡ map word_of (linked none (code_start 0) code)) (alone : f.params ≡ 0)
    (names : everywhere (names_only never never_entry never) f.body ≡ true)
    (calls : everywhere (calls_only no_call no_value) f.body ≡ true)
    (heap : code.heap ≡ true → comp.heap ≡ true) where
  -- one compartment, whose code this is
  abbrev image : ImageParts
  image = record { main = 0; entry = code_start 0; comps = comp ∷ [] }

  -- only that compartment runs its code
  abbrev T : Setting
  T = record {
    image = image;
    inputs = inputs;
    from = start image;
    performs = λ k. not (k == 0);
    turn_pays = length code.instrs;
    addresses = λ k. none;
    globals = λ k. 0;
    makes = λ k. no_call;
    gives = λ k. no_value;
  }

  abbrev P : Standpoint
  P = record { comp = 0; cross = []; bound = stack_top 0; floor = stack_top }

  abbrev first_regs : Registers
  first_regs r = if r == 1 then gate else (if r == 2 then stack_top 0 else 0)

  abbrev first_meant : Meant
  first_meant = record { memory = λ k. []; trace = []; frames = []; turns = turns; inputs = inputs }

  abbrev x : Joint
  x = record {
    inj = λ k b. None;
    meant = first_meant;
    pc = code_start 0;
    regs = first_regs;
    bytes = start_memory image;
    saved = stack_top 0 ∷ [];
    zones = [] ∷ [];
    input = 0;
  }

  none_taken : (k : ℕ) → slice_index_or x.zones k [] ≡ []
  none_taken zero = refl
  none_taken (suc k) = refl

  -- calls that are never made may do anything, as to end the run
  abbrev no_calls : Calls
  no_calls from target args s = Stopped TurnsOut s

  no_calls_follow : CallsFollow T no_calls
  no_calls_follow = record {
    answers = λ from target args s h. tt;
    goes = λ from target args s. no_turn s;
    follow = λ P x target args honest makes settled base at passed stands. inl (emits_here T P x 1);
  }

  module _ (formed : IsWellFormed image) where
    is_placed : IsPlaced T 0 (code_start 0) f code
    is_placed = record {
      image = formed;
      inputs = words;
      function = never;
      entry = never_entry;
      global = never;
      names = names;
      calls = calls;
      reached = record {
        functions = λ number h. cc h;
        entries = λ to index h. cc h;
        globals = λ number h. cc h;
        places = λ number h. cc h;
      };
      heap = heap;
      words = rw alone refl;
      paid = omega arith;
      stands = code_is_fetched image 0 (linked none (code_start 0) code) [] [] instrs
          (its ∙ sym (append-nil (map word_of (linked none (code_start 0) code))));
    }

    -- the function is followed from the start
    pub followed : CodeFollows f code →
        FunctionGives T P x (length code.instrs) gate (runs_with T no_calls 0 (code_function wrapping f) [] first_meant)
        ⊎ Overflows T P x (length code.instrs) (runs_with T no_calls 0 (code_function wrapping f) [] first_meant)
    followed follows =
        follows T 0 (code_start 0) is_placed no_calls no_calls_follow P x [] gate refl (sym alone)
        (record {
          honest = refl;
          settled = record {
            blocks = record {
              there = λ k b cells h live. cc live;
              placed = λ k b a cells h live e. cc live;
              holds = λ k b a i cells c h live e get. cc live;
              apart = λ k b c a d xs ys h l m p q n. cc l;
              lies = λ k b a block h at live e. cc at;
              known = λ k b a e. cc e;
            };
            globals = λ k number h l. absurd (omega (arith, l));
            saved = λ k n h. (let never : true ≡ false = sym (ap not (ne_eqb k 0 n)) ∙ h in cc never);
            zones = λ k h. record { same = none_taken k; laid = omega arith };
            inputs = refl;
            steady = runs_are_steady.first image formed;
            came = record { steps = 0; walks = record { by = refl } };
            depth = λ k h. omega arith;
            timed = tt;
          };
          base = record {
            floor = refl;
            aligned = omega arith;
            high = omega arith;
            floors = record {
              aligned = λ k honest. omega arith;
              low = λ k honest. omega arith;
              high = λ k honest. omega arith;
            };
          };
          pc = refl;
          sp = refl;
          ra = refl;
          passed = λ i v e. cc e;
        })
