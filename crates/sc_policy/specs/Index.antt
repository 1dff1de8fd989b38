-- The rules of each state, by their places in the list of rules.
use Rattle.std.specs.Prelude.{◌≡◌, ℕ, suc, ◌==◌, List, [], ◌∷◌, ◌++◌, slice_index_or, if◌then◌else◌}
use Rattle.sc_policy.specs.declared.policy.Rule.{Rule}

-- the places of the rules of a state, where the first rule has this place
abbrev pub places_from : (place : ℕ) → List Rule → (state : ℕ) → List ℕ
places_from place [] state = []
places_from place (rule ∷ rules) state =
    if rule.state == state then place ∷ places_from (suc place) rules state else places_from (suc place) rules state

abbrev pub places_of : List Rule → (state : ℕ) → List ℕ
places_of rules state = places_from 0 rules state

-- the index has the places of the rules of each state, in their order
abbrev pub IsIndex : List Rule → (index : List (List ℕ)) → Type 0
IsIndex rules index = (state : ℕ) → slice_index_or index state [] ≡ places_of rules state

-- what an index has of each state after one place more, of a rule of this state
abbrev pub with_place : (index : List (List ℕ)) → (state place : ℕ) → (other : ℕ) → List ℕ
with_place index state place other =
    if state == other then slice_index_or index other [] ++ place ∷ [] else slice_index_or index other []
