-- The denotations L and M of two programs, where M has functions that perform rows by their texts: the same calls may
-- be made in both.
use Rattle.sc_back_replay_laws.proofs.Common.{Bool, CallTarget, Calls, Cross, Denotations, Entry, Export, Function}
use Rattle.sc_back_replay_laws.proofs.Common.{Input, IsPerforming, IsSome, Left, List, None, Option, Output, Own, Piece}
use Rattle.sc_back_replay_laws.proofs.Common.{Proto, Reached, Return, Roles, Scalar, Some, State, TypedStmt}
use Rattle.sc_back_replay_laws.proofs.Common.{TypedStruct, Value, and_then, ap, block_does, c_arith, export_at, false}
use Rattle.sc_back_replay_laws.proofs.Common.{false≢true, function, functions_of, imports, inl, inr, is_function}
use Rattle.sc_back_replay_laws.proofs.Common.{is_input, is_number, is_output, is_some, is_word, leads, length, list_all}
use Rattle.sc_back_replay_laws.proofs.Common.{may_call, option_map_or, proto_of, refl, slice_get, sym, takes, true, ℕ}
use Rattle.sc_back_replay_laws.proofs.Common.{◌&&◌, ◌==◌, ◌∙◌, ◌≡◌, ◌⊎◌}
use Rattle.sc_back_replay_laws.proofs.Crossing.{at}
use Rattle.sc_back_replay_laws.proofs.Step.{Fair, IsOut}

module _ (roles : Roles) (L M : Denotations) where
  -- a function of M that performs the rows of an entry by its text
  pub record Performer (c : ℕ) (entry : Entry) (number : ℕ) : Type 0 where
    pub item : Function
    pub is : function M c number ≡ Some item
    pub structs : List TypedStruct
    pub params : ℕ
    pub result : Option Scalar
    pub stmts : List TypedStmt
    pub text : IsPerforming L.interfaces entry result (roles.rows c) stmts
    pub close : (first : ℕ) → Left (Unit {0}) → State → Piece (Option Value)
    pub closes : (first : ℕ) (v : Option Value) (s : State) →
        close first (record { exit = Return v; carried = tt }) s ≡ Reached v s
    pub does : (by : Calls) (first : ℕ) (s : State) →
        item.does by (at c first) s ≡
        and_then (block_does c_arith structs (at c first) params by stmts tt s) (close first)

  -- the functions of an entry in both denotations
  pub record Performed (c : ℕ) (entry : Entry) : Type 0 where
    pub number : ℕ
    pub f : Function
    pub entered : L.entered c entry ≡ Some number
    pub there : function L c number ≡ Some f
    pub number' : ℕ
    pub entered' : M.entered c entry ≡ Some number'
    pub performer : Performer c entry number'

  -- the compartments that perform have such functions, and all others their own
  pub record Recomposed : Type 0 where
    pub interfaces : M.interfaces ≡ L.interfaces
    pub kept : (c : ℕ) → roles.scripted c ≡ false → functions_of M c ≡ functions_of L c
    pub kept_entries : (c : ℕ) (entry : Entry) → roles.scripted c ≡ false → M.entered c entry ≡ L.entered c entry
    pub performed : (c : ℕ) (entry : Entry) → roles.scripted c ≡ true → IsSome (proto_of L.interfaces c entry) →
        Performed c entry
    pub apart : (c : ℕ) (entry other : Entry) (number : ℕ) → roles.scripted c ≡ true →
        L.entered c entry ≡ Some number → IsSome (proto_of L.interfaces c entry) →
        IsSome (proto_of L.interfaces c other) → (other ≡ entry → ⊥) →
        is_number number (L.entered c other) ≡ false
    pub fair : (c : ℕ) → roles.scripted c ≡ true → Fair L c 0 (roles.rows c)

  -- an export that takes arguments is there
  pub taken : (to index count : ℕ) → takes L.interfaces to index count ≡ true →
      IsSome (proto_of L.interfaces to (Export index))
  taken to index count = by (export_at L.interfaces to index) where
    by : (o : Option Proto) → option_map_or (λ found. length found.params == count) o false ≡ true → IsSome o
    by None h = absurd (false≢true h)
    by (Some proto) h = refl

  module _ (r : Recomposed) where
    same_function : (c number : ℕ) → roles.scripted c ≡ false → function M c number ≡ function L c number
    same_function c number clear = ap (λ fs. slice_get fs number) (r.kept c clear)

    leads_alike : (c : ℕ) (o : Option ℕ) → roles.scripted c ≡ false → leads M c o ≡ leads L c o
    leads_alike c None clear = refl
    leads_alike c (Some number) clear = ap is_some (same_function c number clear)

    leads_same : (to index : ℕ) → IsSome (proto_of L.interfaces to (Export index)) →
        leads M to (M.entered to (Export index)) ≡ leads L to (L.entered to (Export index))
    leads_same to index known = by (roles.scripted to) refl where
      by : (x : Bool) → roles.scripted to ≡ x →
          leads M to (M.entered to (Export index)) ≡ leads L to (L.entered to (Export index))
      by false clear =
          ap (leads M to) (r.kept_entries to (Export index) clear) ∙
          leads_alike to (L.entered to (Export index)) clear
      by true set =
          let p = r.performed to (Export index) set known in
          ap (leads M to) p.entered' ∙ ap is_some p.performer.is ∙ sym (ap (leads L to) p.entered ∙ ap is_some p.there)

    -- the same calls may be made, but for own ones of compartments that perform
    pub may_same : (from : ℕ) (target : CallTarget) (args : List Value) →
        (roles.scripted from ≡ false) ⊎ IsOut target → may_call M from target args ≡ may_call L from target args
    may_same from (Own number) args (inl clear) = ap is_some (same_function from number clear)
    may_same from (Own number) args (inr out) = absurd out
    may_same from (Cross to index) args h =
        ap (λ i. imports i from (is_function to index) && (takes i to index (length args) &&
        (list_all is_word args && leads M to (M.entered to (Export index))))) r.interfaces ∙
        ap (λ b. imports L.interfaces from (is_function to index) && b)
        (by (takes L.interfaces to index (length args)) refl) where
          by : (t : Bool) → takes L.interfaces to index (length args) ≡ t →
              (t && (list_all is_word args && leads M to (M.entered to (Export index)))) ≡
              (t && (list_all is_word args && leads L to (L.entered to (Export index))))
          by false is = refl
          by true is = ap (λ b. list_all is_word args && b) (leads_same to index (taken to index (length args) is))
    may_same from Input args h = ap (λ i. imports i from is_input) r.interfaces
    may_same from Output args h =
        ap (λ i. imports i from is_output && (length args == 1 && list_all is_word args)) r.interfaces
