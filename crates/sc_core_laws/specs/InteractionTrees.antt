-- Interaction trees: what functions may do, whatever they are written in, so that the laws hold of them. A tree says
-- what is given or blamed, what the blocks of the compartment decide, and what comes after new blocks, after a turn and
-- after a call.
use Rattle.sc_core_laws.specs.Common.{Blamed, Blocks, CallTarget, Calls, Cause, Denotations, Entry, Function, Here}
use Rattle.sc_core_laws.specs.Common.{Piece, Reached, State, Stopped, TurnsOut, Value, and_then, function, turn}
use Rattle.sc_core_laws.specs.Common.{with_memory}
use Rattle.std.specs.Prelude.{◌≡◌, ◌⊎◌, ℕ, zero, suc, ◌<◌, List, Option}
use Rattle.sc_core_laws.specs.Agreement.{Meets}
use Rattle.sc_core_laws.specs.Growth.{Goes}

pub data InteractionTree (V : Type 0) : Type 0 where
  Gives : V → InteractionTree V
  Blames : Cause → ℕ → InteractionTree V
  Reads : (Blocks → InteractionTree V) → InteractionTree V
  Stores : Blocks → InteractionTree V → InteractionTree V
  Spends : InteractionTree V → InteractionTree V
  Asks : CallTarget → List Value → (Option Value → InteractionTree V) → InteractionTree V
  Halts : InteractionTree V

-- what it comes to, where calls do this
abbrev pub played : {V : Type 0} → InteractionTree V → Calls → Here → State → Piece V
played (Gives v) by here s = Reached v s
played (Blames cause line) by here s = Stopped (Blamed here.comp cause line) s
played (Reads go) by here s = played (go (s.memory here.comp)) by here s
played (Stores blocks go) by here s = played go by here (with_memory here.comp blocks s)
played (Spends go) by here s = and_then (turn s) (λ _ s. played go by here s)
played (Asks target args go) by here s = and_then (by here.comp target args s) (λ v s. played (go v) by here s)
played Halts by here s = Stopped TurnsOut s

-- at least this number of turns are spent before it halts
abbrev pub Lasts : {V : Type 0} → ℕ → InteractionTree V → Type 0
Lasts zero tree = Unit {0}
Lasts (suc n) (Gives v) = Unit {0}
Lasts (suc n) (Blames cause line) = Unit {0}
Lasts (suc n) (Reads go) = (blocks : Blocks) → Lasts (suc n) (go blocks)
Lasts (suc n) (Stores blocks go) = Lasts (suc n) go
Lasts (suc n) (Spends go) = Lasts n go
Lasts (suc n) (Asks target args go) = (v : Option Value) → Lasts (suc n) (go v)
Lasts (suc n) Halts = ⊥

-- what is done, by what calls do
abbrev pub Doing : Type 0 → Type 0
Doing V = Calls → State → Piece V

-- calls of a compartment only go on
abbrev pub GoFrom : ℕ → Calls → Type 0
GoFrom comp by = (target : CallTarget) (args : List Value) → Goes (by comp target args)

-- with fewer turns than a number this is done as the tree of that number says: a loop takes a turn each round, so it
-- has no more rounds than that
pub record Plays {V : Type 0} (here : Here) (does : Doing V) (tree : ℕ → InteractionTree V) : Type 0 where
  pub lasts : (n : ℕ) → Lasts n (tree n)
  pub is : (n : ℕ) (by : Calls) → GoFrom here.comp by → (s : State) → s.turns < n →
      does by s ≡ played (tree n) by here s

-- no cause
abbrev pub Never : Cause → Type 0
Never cause = ⊥

-- causes that are blamed only in the first of two
module _ (Soft : Cause → Type 0) where
  -- two trees that differ only where the first is so blamed
  abbrev pub Alike : {V : Type 0} → InteractionTree V → InteractionTree V → Type 0
  Alike (Gives v) other = other ≡ Gives v
  Alike (Blames cause line) other = Soft cause ⊎ (other ≡ Blames cause line)
  Alike {V} (Reads go) other =
      (go' : Blocks → InteractionTree V) × (other ≡ Reads go') × ((blocks : Blocks) → Alike (go blocks) (go' blocks))
  Alike {V} (Stores blocks go) other = (go' : InteractionTree V) × (other ≡ Stores blocks go') × Alike go go'
  Alike {V} (Spends go) other = (go' : InteractionTree V) × (other ≡ Spends go') × Alike go go'
  Alike {V} (Asks target args go) other =
      (go' : Option Value → InteractionTree V) × (other ≡ Asks target args go')
      × ((v : Option Value) → Alike (go v) (go' v))
  Alike Halts other = other ≡ Halts

  -- two doings that are trees, which are alike
  pub record Match {V : Type 0} (here : Here) (does other : Doing V) : Type 0 where
    pub tree : ℕ → InteractionTree V
    pub other_tree : ℕ → InteractionTree V
    pub first : Plays here does tree
    pub second : Plays here other other_tree
    pub alike : (n : ℕ) → Alike (tree n) (other_tree n)

  -- functions that callers can't distinguish, and what they do matches
  pub record FunctionsMatch (f g : Function) : Type 0 where
    pub cells : g.cells ≡ f.cells
    pub frame_size : g.frame_size ≡ f.frame_size
    pub does : (here : Here) → Match here (λ by. f.does by here) (λ by. g.does by here)

  -- denotations whose functions match, one by one
  pub record DenotationsMatch (L M : Denotations) : Type 0 where
    pub interfaces : M.interfaces ≡ L.interfaces
    pub functions : (comp number : ℕ) → Meets FunctionsMatch (function L comp number) (function M comp number)
    pub entered : (comp : ℕ) (entry : Entry) → M.entered comp entry ≡ L.entered comp entry

-- denotations of which each function is such a tree
abbrev pub Obedient : Denotations → Type 0
Obedient denotations = DenotationsMatch Never denotations denotations
