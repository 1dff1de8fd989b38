-- The rows of a part of a legal trace: they are numbered, of entries that there are, and may be done.
use Rattle.sc_back_replay_laws.proofs.Common.{Activation, All, AllByRecursion, Bool, Call, Cross, Denotations, End}
use Rattle.sc_back_replay_laws.proofs.Common.{Event, Export, HasWords, In, Interfaces, IsSome, IsWord, List, None}
use Rattle.sc_back_replay_laws.proofs.Common.{Option, Out, Proto, Ret, Scalar, Some, Standing, Word, [], action_of}
use Rattle.sc_back_replay_laws.proofs.Common.{and_from, and_parts, ap, arith, at_start, eq-eqb, eqb-true, export_at}
use Rattle.sc_back_replay_laws.proofs.Common.{false, false≢true, if◌then◌else◌, imports, is_allowed, is_function}
use Rattle.sc_back_replay_laws.proofs.Common.{is_legal_from, is_output, is_some, is_word, leads, legal, length}
use Rattle.sc_back_replay_laws.proofs.Common.{list_all, main_proto, map, may_call, may_perform, option_map_or}
use Rattle.sc_back_replay_laws.proofs.Common.{params_at, part, performer, proto_of, refl, resumed, rows_from}
use Rattle.sc_back_replay_laws.proofs.Common.{stands_after, subst, suc, sym, takes, true, ℕ, ◌&&◌, ◌==◌, ◌∙◌, ◌∷◌, ◌≡◌}
use Rattle.std.proofs.lemmas.List.Elements.{recursion_from_All}
use Rattle.std.proofs.lemmas.List.{length-map}
use Rattle.sc_back_replay_laws.proofs.Step.{Fair, MayAct, Suit}
use Rattle.sc_core_laws.proofs.Scripts.{words_are}

-- WORDS

suits : (params : List Scalar) (words : List ℕ) → length params ≡ length words → AllByRecursion IsWord words →
    Suit params words
suits [] [] same small = tt
suits [] (word ∷ words) same small = absurd (omega (arith, same))
suits (param ∷ params) [] same small = absurd (omega (arith, same))
suits (param ∷ params) (word ∷ words) same small = (small.0, suits params words (omega (arith, same)) small.1)

-- the denotations of a program in which exports lead to functions
module _ (L : Denotations)
    (leads_so : (to index : ℕ) → IsSome (export_at L.interfaces to index) →
    leads L to (L.entered to (Export index)) ≡ true) where
  abbrev interfaces : Interfaces
  interfaces = L.interfaces

  taken_suits : (to index : ℕ) (words : List ℕ) → AllByRecursion IsWord words →
      takes interfaces to index (length words) ≡ true →
      IsSome (export_at interfaces to index) × Suit (params_at interfaces to index) words
  taken_suits to index words small = by (export_at interfaces to index) where
    by : (o : Option Proto) → option_map_or (λ found. length found.params == length words) o false ≡ true →
        IsSome o × Suit (option_map_or (λ proto. proto.params) o []) words
    by None h = absurd (false≢true h)
    by (Some proto) h = (refl, suits proto.params words (eqb-true (length proto.params) (length words) h) small)

  call_may : (from to index : ℕ) (words : List ℕ) → AllByRecursion IsWord words →
      (imports interfaces from (is_function to index) && takes interfaces to index (length words)) ≡
      true →
      (may_call L from (Cross to index) (map (λ w. Word w) words) ≡ true) × Suit (params_at interfaces to index)
      words
  call_may from to index words small h =
      let parts = and_parts (imports interfaces from (is_function to index))
      (takes interfaces to index (length words)) h in
      let suit = taken_suits to index words small parts.1 in (
        and_from (imports interfaces from (is_function to index)) _ parts.0
            (and_from (takes interfaces to index (length (map (λ w. Word w) words))) _
            (ap (takes interfaces to index) (length-map words (λ w. Word w)) ∙ parts.1)
            (and_from (list_all is_word (map (λ w. Word w) words)) _ (words_are words) (leads_so to index suit.0))),
        suit.1,
      )

  may_act : (at : Standing) (event : Event) → may_perform interfaces at event ≡ true → HasWords event →
      MayAct L (performer event) (action_of event)
  may_act at (Call from to index args) may words =
      call_may from to index args (recursion_from_All IsWord args words) may
  may_act at (Ret from to None) may words = tt
  may_act at (Ret from to (Some value)) may words = words
  may_act at (Out comp value) may words = (and_from (imports interfaces comp is_output) true may refl, words)
  may_act at (In comp value) may words = may
  may_act at (End comp value) may words = words

  -- ENTRIES of functions that were entered
  abbrev IsEntered : Activation → Type 0
  IsEntered a = IsSome (proto_of interfaces a.comp a.entry)

  record AreEntered (at : Standing) : Type 0 where
    pub active : IsEntered at.active
    pub waiting : AllByRecursion IsEntered at.waiting

  abbrev StandsEntered : Option Standing → Type 0
  StandsEntered None = Unit {0}
  StandsEntered (Some at) = AreEntered at

  entered_after : (at : Standing) (event : Event) → may_perform interfaces at event ≡ true → HasWords event →
      AreEntered at → StandsEntered (stands_after at event)
  entered_after at (Call from to index args) may words known =
      record {
        active = (taken_suits to index args (recursion_from_All IsWord args words) (and_parts
            (imports interfaces from (is_function to index)) (takes interfaces to index (length args))
            may).1).0;
        waiting = (known.active, known.waiting);
      }
  entered_after at (Ret from to value) may words known = resume at.waiting known.waiting where
    resume : (waiting : List Activation) → AllByRecursion IsEntered waiting → StandsEntered (resumed waiting)
    resume [] all = tt
    resume (latest ∷ earlier) all = record { active = all.0; waiting = all.1 }
  entered_after at (Out comp value) may words known = known
  entered_after at (In comp value) may words known = known
  entered_after at (End comp value) may words known = tt

  -- ROWS
  fair_from : (c number : ℕ) (at : Option Standing) (trace : List Event) → StandsEntered at →
      is_legal_from interfaces at trace ≡ true → AllByRecursion HasWords trace →
      Fair L c number (rows_from c number at trace)
  fair_from c number at [] known is words = tt
  fair_from c number None (event ∷ later) known is words = tt
  fair_from c number (Some at) (event ∷ later) known is words =
      let parts = and_parts (is_allowed interfaces at event)
      (is_legal_from interfaces (stands_after at event) later) is in
      let allowed = and_parts (performer event == at.active.comp) (may_perform interfaces at event) parts.0 in
      let next = entered_after at event allowed.1 words.0 known in
      by (eqb-true (performer event) at.active.comp allowed.0) (may_act at event allowed.1 words.0)
      (performer event == c) refl
      (fair_from c (suc number) (stands_after at event) later next parts.1 words.1)
      (fair_from c number (stands_after at event) later next parts.1 words.1) where
        by : performer event ≡ at.active.comp → MayAct L (performer event) (action_of event) → (mine : Bool) →
            (performer event == c) ≡ mine →
            Fair L c (suc number) (rows_from c (suc number) (stands_after at event) later) →
            Fair L c number (rows_from c number (stands_after at event) later) →
            Fair L c number (if mine then record {
              entry = at.active.entry;
              number = number;
              action = action_of event;
            } ∷ rows_from c (suc number) (stands_after at event) later else
            rows_from c number (stands_after at event) later)
        by own may true is more less =
            let same : performer event ≡ c = eqb-true (performer event) c is in (
              record {
                numbered = refl;
                known = subst (λ n. IsSome (proto_of interfaces n at.active.entry)) (sym own ∙ same)
                    known.active;
                may = subst (λ n. MayAct L n (action_of event)) same may;
              },
              more,
            )
        by own may false is more less = less

  pub part_fair : (c : ℕ) (trace : List Event) → legal interfaces trace ≡ true → All HasWords trace →
      Fair L c 0 (part interfaces.main c trace)
  part_fair c trace is words =
      fair_from c 0 (at_start interfaces.main) trace (record {
        active = ap (λ b. is_some (if b then Some main_proto else None))
            (eq-eqb interfaces.main interfaces.main refl);
        waiting = tt;
      }) is (recursion_from_All HasWords trace words)
