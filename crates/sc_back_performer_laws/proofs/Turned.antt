-- What becomes of sections whose compartments perform their parts of a trace.
use Rattle.sc_back_performer_laws.proofs.Common.{All, All-from_recursion, AllBecome, AllByRecursion, Becomes, Bool}
use Rattle.sc_back_performer_laws.proofs.Common.{Each, Event, HasReplaced, HasWords, ImportLine, Interfaces}
use Rattle.sc_back_performer_laws.proofs.Common.{IsImportedAs, IsPerformer, IsRecomposed, List, Row, SameButLines}
use Rattle.sc_back_performer_laws.proofs.Common.{SectionTree, Some, [], ap, arith, back_tree, callees_of, comp_is}
use Rattle.sc_back_performer_laws.proofs.Common.{counts_broken, false, false≢true, import_of, interface_broken}
use Rattle.sc_back_performer_laws.proofs.Common.{interface_of, interfaces_of, kept, legal, length, map, owner_name}
use Rattle.sc_back_performer_laws.proofs.Common.{part, program_of, refl, replaced, same_Some, sections_from, slice_get}
use Rattle.sc_back_performer_laws.proofs.Common.{subst, suc, sym, true, typed_section, zero, ℕ, ◌+◌, ◌<◌, ◌∙◌, ◌∷◌, ◌≡◌}
use Rattle.sc_back_performer_laws.proofs.Common.{◌≤◌}
use Rattle.sc_back_performer_laws.proofs.Fitting.{all_resolved, can_perform}
use Rattle.sc_back_performer_laws.proofs.Replaced.{rows_perform}
use Rattle.sc_back_performer_laws.proofs.ReplacedSeen.{seen}
use Rattle.sc_back_performer_laws.proofs.Resolved.{IsResolved}
use Rattle.sc_back_performer_laws.proofs.Seen.{AreSeenAs, IsSeenAs, import_same, interfaces_same}
use Rattle.sc_back_performer_laws.proofs.SeenKept.{moved, moved_seen, typed_same}
use Rattle.sc_back_performer_laws.proofs.Undone.{back_tree_is}

pub record IsRightTrace (olds : List SectionTree) (trace : List Event) : Type 0 where
  pub is_legal : legal (interfaces_of olds) trace ≡ true
  pub words : All HasWords trace
  pub few : length trace ≤ 4096

module _ (olds : List SectionTree) (in_interfaces : interface_broken olds ≡ []) (in_counts : counts_broken olds ≡ [])
    (set : ℕ → Bool) (trace : List Event) (right : IsRightTrace olds trace) where
  abbrev pub interfaces : Interfaces
  interfaces = interfaces_of olds

  abbrev pub rows : ℕ → List Row
  rows comp = part interfaces.main comp trace

  -- a section at its place, and what becomes of it
  pub data Turns (k : ℕ) (old new : SectionTree) : Type 0 where
    stays : slice_get olds k ≡ Some old → set k ≡ false → (line : ℕ) → new ≡ moved line old → Turns k old new
    turns : slice_get olds k ≡ Some old → set k ≡ true →
        IsPerformer interfaces k (rows k) (interface_of olds k old) →
        SameButLines new (back_tree interfaces k (rows k) (interface_of olds k old)) → Turns k old new

  abbrev pub AllTurn : ℕ → List SectionTree → List SectionTree → Type 0
  AllTurn k [] [] = Unit {0}
  AllTurn k (old ∷ olds) (new ∷ news) = Turns k old new × AllTurn (suc k) olds news
  AllTurn k _ _ = ⊥

  turned : (k : ℕ) (old new : SectionTree) → slice_get olds k ≡ Some old → Becomes interfaces rows set k old new →
      Turns k old new
  turned k old new got (kept off line is) = stays got off line is
  turned k old new got (replaced on interface at same) =
      turns got on (can_perform olds in_interfaces in_counts k old got trace right.is_legal right.words right.few)
      (subst (λ f. SameButLines new (back_tree interfaces k (rows k) f))
      (same_Some interface (interface_of olds k old) (sym at ∙ comp_is olds k old got)) same)

  plus_zero : (n : ℕ) → n + 0 ≡ n
  plus_zero n = omega arith

  plus_one : (n m : ℕ) → n + suc m ≡ suc n + m
  plus_one n m = omega arith

  turn_from : (k : ℕ) (xs ys : List SectionTree) → ((i : ℕ) → slice_get olds (k + i) ≡ slice_get xs i) →
      AllBecome interfaces rows set k xs ys → AllTurn k xs ys
  turn_from k [] [] got h = tt
  turn_from k [] (y ∷ ys) got h = absurd h
  turn_from k (x ∷ xs) [] got h = absurd h
  turn_from k (x ∷ xs) (y ∷ ys) got h = (
    turned k x y (subst (λ n. slice_get olds n ≡ Some x) (plus_zero k) (got 0)) h.0,
    turn_from (suc k) xs ys (λ i. subst (λ n. slice_get olds n ≡ slice_get xs i) (plus_one k i) (got (suc i))) h.1,
  )

  zero_plus : (n : ℕ) → n ≡ 0 + n
  zero_plus n = omega arith

  pub all_turn : (news : List SectionTree) → AllBecome interfaces rows set 0 olds news → AllTurn 0 olds news
  all_turn news h = turn_from 0 olds news (λ i. ap (slice_get olds) (sym (zero_plus i))) h

  seen_by : (k : ℕ) (old new : SectionTree) → Turns k old new → IsSeenAs old new
  seen_by k old new (stays got off line is) = subst (IsSeenAs old) (sym is) (moved_seen line old)
  seen_by k old new (turns got on can same) =
      seen olds in_interfaces in_counts k old got (rows k) can new
      (back_tree_is interfaces k (rows k) (interface_of olds k old) new same)

  pub seen_from : (k : ℕ) (xs ys : List SectionTree) → AllTurn k xs ys → AreSeenAs xs ys
  seen_from k [] [] h = tt
  seen_from k [] (y ∷ ys) h = absurd h
  seen_from k (x ∷ xs) [] h = absurd h
  seen_from k (x ∷ xs) (y ∷ ys) h = (seen_by k x y h.0, seen_from (suc k) xs ys h.1)

  module _ (news : List SectionTree) (all : AreSeenAs olds news) where
    -- imports lead where they led
    one_leads : (k : ℕ) (old : SectionTree) (a : ImportLine) → IsResolved olds k old a →
        IsImportedAs news k interfaces (import_of olds k a)
    one_leads k old a r = record {
      leads = λ proto is line. import_same k a (record {
        comp = owner_name interfaces (import_of olds k a);
        name = proto.name;
        line = line;
      }) (record {
        comp = r.owner;
        name = ap (λ f. f.name) (same_Some proto r.f (sym is ∙ r.is)) ∙ r.name;
      }) olds news all;
    }

    imports_lead : (k : ℕ) (old : SectionTree) (lines : List ImportLine) → Each (IsResolved olds k old) lines →
        AllByRecursion (IsImportedAs news k interfaces) (map (import_of olds k) lines)
    imports_lead k old [] h = tt
    imports_lead k old (a ∷ lines) h = (one_leads k old a h.0, imports_lead k old lines h.1)

    kept_from : (k : ℕ) (xs ys : List SectionTree) → AllTurn k xs ys → (i n : ℕ) → k + i ≡ n → set n ≡ false →
        slice_get (sections_from news k ys) i ≡ slice_get (sections_from olds k xs) i
    kept_from k [] [] h i n at off = refl
    kept_from k [] (y ∷ ys) h i n at off = absurd h
    kept_from k (x ∷ xs) [] h i n at off = absurd h
    kept_from k (x ∷ xs) (y ∷ ys) h zero n at off = by h.0 where
      by : Turns k x y → slice_get (sections_from news k (y ∷ ys)) 0 ≡ slice_get (sections_from olds k (x ∷ xs)) 0
      by (stays got out line is) =
          ap (λ s. Some (typed_section s (callees_of news k s))) is ∙ ap Some (typed_same olds news all k line x)
      by (turns got on can same) =
          absurd (false≢true (sym off ∙ ap set (sym (sym (plus_zero k) ∙ at)) ∙ on))
    kept_from k (x ∷ xs) (y ∷ ys) h (suc i) n at off =
        kept_from (suc k) xs ys h.1 i n (sym (plus_one k i) ∙ at) off

    replaced_from : (k : ℕ) (xs ys : List SectionTree) → AllTurn k xs ys → (i n : ℕ) → k + i ≡ n → set n ≡ true →
        i < length xs → HasReplaced interfaces n (rows n) (slice_get (sections_from news k ys) i)
    replaced_from k [] ys h i n at on low = absurd (omega (arith, low))
    replaced_from k (x ∷ xs) [] h i n at on low = absurd h
    replaced_from k (x ∷ xs) (y ∷ ys) h zero n at on low =
        subst (λ m. HasReplaced interfaces m (rows m) (slice_get (sections_from news k (y ∷ ys)) 0))
        (sym (plus_zero k) ∙ at) (by h.0) where
          by : Turns k x y → HasReplaced interfaces k (rows k) (slice_get (sections_from news k (y ∷ ys)) 0)
          by (stays got out line is) =
              absurd (false≢true (sym out ∙ ap set (sym (plus_zero k) ∙ at) ∙ on))
          by (turns got yes_it can same) = record {
            section = typed_section y (callees_of news k y);
            is = refl;
            replaced = rows_perform interfaces k (rows k) (interface_of olds k x) y can same news k
                (All-from_recursion (IsImportedAs news k interfaces) (map (import_of olds k) x.imports)
                (imports_lead k x x.imports (all_resolved olds in_interfaces in_counts k x got)));
          }
    replaced_from k (x ∷ xs) (y ∷ ys) h (suc i) n at on low =
        replaced_from (suc k) xs ys h.1 i n (sym (plus_one k i) ∙ at) on (omega (arith, low))

    pub recomposed : AllTurn 0 olds news → ((comp : ℕ) → set comp ≡ true → comp < length olds) →
        IsRecomposed (program_of olds) (program_of news) set trace
    recomposed h within = record {
      interfaces = interfaces_same olds news all;
      kept = λ comp off. kept_from 0 olds news h comp comp (sym (zero_plus comp)) off;
      replaced = λ comp on. replaced_from 0 olds news h comp comp (sym (zero_plus comp)) on (within comp on);
    }
