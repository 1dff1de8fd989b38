-- Rules of functions that the pass keeps.
use Rattle.std.proofs.Common.{Bool, List, Option, [], ap, false, is_some, length, map, nat_le, nat_lt, refl}
use Rattle.std.proofs.Common.{subst, sym, true, ℕ, ◌++◌, ◌==◌, ◌∙◌, ◌∷◌, ◌≡◌}
use Rattle.std.proofs.Common.{None, Some, eqb-true, not, slice_get, ◌||◌}
use Rattle.std.proofs.lemmas.Bool.{and_from}
use Rattle.sc_event.specs.Prelude.{export_at}
use Rattle.sc_event.specs.declared.interface.Interfaces.{Interfaces}
use Rattle.sc_core.specs.declared.expr.CallTarget.{CallTarget}
use Rattle.sc_tac.specs.Prelude.{calls_exports, calls_imports, calls_own, cross_call_fits, has_words, is_machine_word}
use Rattle.sc_tac.specs.Prelude.{is_one}
use Rattle.sc_tac.specs.Prelude.{names_own_global, own_call_fits}
use Rattle.sc_tac.specs.declared.program.TacSection.{TacSection}
use Rattle.sc_tac.specs.declared.stmt.Constant.{Constant}
use Rattle.sc_tac.specs.declared.stmt.TacOp.{TacOp}
use Rattle.sc_tac.specs.declared.stmt.TacStmt.{TacStmt-F}
use Rattle.sc_tac.specs.declared.stmt.TacStmt.TheOpen as tac
use Rattle.sc_opt.specs.Pass.{all_used, folded, reads_used, takes_promised, unless_folded}
use Rattle.sc_opt.proofs.Unread.{reads_not}
use Rattle.sc_opt.proofs.Words.{folded_word}
use Rattle.std.proofs.lemmas.List.{length-map}
use Rattle.std.specs.Bool.{beq}
use Rattle.std.specs.List.{list_all}
use Rattle.std.specs.Option.{option_map}
use Rattle.sc_base.proofs.Bools.{and_first, and_rest}
use Rattle.sc_core.specs.Prelude.{most_params}
use Rattle.sc_tac.specs.Prelude.{has_elements, has_operands, names_own_object, names_own_temps, one_or_none, passes_few}
use Rattle.sc_tac.specs.Prelude.{returns_result, takes_two}
use Rattle.sc_opt.proofs.Rules.{Stays, is_untouched}

module _ (constants : ℕ → Option Constant) (source : ℕ → ℕ) (used holds_word : ℕ → Bool) where
  few : (args : List ℕ) → nat_le (length args) most_params ≡ true → nat_le (length (map source args)) most_params ≡ true
  few args h = ap (λ n. nat_le n most_params) (length-map args source) ∙ h

  some_same : (o : Option ℕ) → is_some (option_map source o) ≡ is_some o
  some_same None = refl
  some_same (Some t) = refl

  pub elements_stay : Stays constants source used holds_word has_elements has_elements
  elements_stay = record {
    untouched = λ k n h. h;
    copied = λ d from n h. h;
    operated = λ d o left right n h. h;
    computed = λ d o left right c h is. refl;
    loaded = λ d place pointer h. h;
    stored = λ place value h. h;
    forked = λ cond a b c d h. refl;
    looped = λ a b c d e f h. refl;
    called = λ dest function args h. h;
    crossed = λ dest comp index args h. h;
    shown = λ value h. h;
    allocated = λ d count words h. h;
    freed = λ pointer h. h;
    returned = λ value h. h;
  }

  pub objects_stay : (objects : ℕ) → Stays constants source used holds_word (names_own_object objects)
      (names_own_object objects)
  objects_stay objects = record {
    untouched = λ k n h. h;
    copied = λ d from n h. h;
    operated = λ d o left right n h. h;
    computed = λ d o left right c h is. refl;
    loaded = λ d place pointer h. h;
    stored = λ place value h. h;
    forked = λ cond a b c d h. refl;
    looped = λ a b c d e f h. refl;
    called = λ dest function args h. h;
    crossed = λ dest comp index args h. h;
    shown = λ value h. h;
    allocated = λ d count words h. h;
    freed = λ pointer h. h;
    returned = λ value h. h;
  }

  pub operands_stay : Stays constants source used holds_word has_operands has_operands
  operands_stay = record {
    untouched = λ k n h. h;
    copied = λ d from n h. h;
    operated = λ d o left right n h. ap (λ b. beq b (takes_two o)) (some_same right) ∙ h;
    computed = λ d o left right c h is. refl;
    loaded = λ d place pointer h. h;
    stored = λ place value h. h;
    forked = λ cond a b c d h. refl;
    looped = λ a b c d e f h. refl;
    called = λ dest function args h. h;
    crossed = λ dest comp index args h. h;
    shown = λ value h. h;
    allocated = λ d count words h. h;
    freed = λ pointer h. h;
    returned = λ value h. h;
  }

  pub arguments_stay : Stays constants source used holds_word passes_few passes_few
  arguments_stay = record {
    untouched = λ k n h. h;
    copied = λ d from n h. h;
    operated = λ d o left right n h. h;
    computed = λ d o left right c h is. refl;
    loaded = λ d place pointer h. h;
    stored = λ place value h. h;
    forked = λ cond a b c d h. refl;
    looped = λ a b c d e f h. refl;
    called = λ dest function args h. few args h;
    crossed = λ dest comp index args h. few args h;
    shown = λ value h. h;
    allocated = λ d count words h. h;
    freed = λ pointer h. h;
    returned = λ value h. h;
  }

  pub results_stay : (result : Bool) → Stays constants source used holds_word (returns_result result)
      (returns_result result)
  results_stay result = record {
    untouched = λ k n h. h;
    copied = λ d from n h. h;
    operated = λ d o left right n h. h;
    computed = λ d o left right c h is. refl;
    loaded = λ d place pointer h. h;
    stored = λ place value h. h;
    forked = λ cond a b c d h. refl;
    looped = λ a b c d e f h. refl;
    called = λ dest function args h. h;
    crossed = λ dest comp index args h. h;
    shown = λ value h. h;
    allocated = λ d count words h. h;
    freed = λ pointer h. h;
    returned = λ value h. ap (λ b. beq b result) (some_same value) ∙ h;
  }

  -- constants, where those of the code are machine words
  pub words_stay : ((t : ℕ) (c : Constant) → constants t ≡ Some c → is_machine_word c ≡ true) →
      Stays constants source used holds_word has_words has_words
  words_stay words = record {
    untouched = λ k n h. h;
    copied = λ d from n h. refl;
    operated = λ d o left right n h. refl;
    computed = λ d o left right c h is. folded_word constants words o left right c is;
    loaded = λ d place pointer h. refl;
    stored = λ place value h. refl;
    forked = λ cond a b c d h. refl;
    looped = λ a b c d e f h. refl;
    called = λ dest function args h. refl;
    crossed = λ dest comp index args h. refl;
    shown = λ value h. refl;
    allocated = λ d count words h. h;
    freed = λ pointer h. refl;
    returned = λ value h. refl;
  }

  module _ (interfaces : Interfaces) (comp : ℕ) (section : TacSection) where
    pub globals_stay : Stays constants source used holds_word (names_own_global interfaces comp section)
        (names_own_global interfaces comp section)
    globals_stay = record {
      untouched = λ k n h. h;
      copied = λ d from n h. refl;
      operated = λ d o left right n h. refl;
      computed = λ d o left right c h is. refl;
      loaded = λ d place pointer h. refl;
      stored = λ place value h. refl;
      forked = λ cond a b c d h. refl;
      looped = λ a b c d e f h. refl;
      called = λ dest function args h. refl;
      crossed = λ dest comp index args h. refl;
      shown = λ value h. refl;
      allocated = λ d count words h. refl;
      freed = λ pointer h. refl;
      returned = λ value h. refl;
    }

    pub own_calls_stay :
        Stays constants source used holds_word (calls_own interfaces comp section) (calls_own interfaces comp section)
    own_calls_stay = record {
      untouched = λ k n h. h;
      copied = λ d from n h. refl;
      operated = λ d o left right n h. refl;
      computed = λ d o left right c h is. refl;
      loaded = λ d place pointer h. refl;
      stored = λ place value h. refl;
      forked = λ cond a b c d h. refl;
      looped = λ a b c d e f h. refl;
      called = λ dest function args h. ap (own_call_fits (slice_get section.functions function) dest)
          (length-map args source) ∙ h;
      crossed = λ dest comp index args h. refl;
      shown = λ value h. refl;
      allocated = λ d count words h. refl;
      freed = λ pointer h. refl;
      returned = λ value h. refl;
    }

    pub cross_calls_stay :
        Stays constants source used holds_word (calls_exports interfaces comp section)
        (calls_exports interfaces comp section)
    cross_calls_stay = record {
      untouched = λ k n h. h;
      copied = λ d from n h. refl;
      operated = λ d o left right n h. refl;
      computed = λ d o left right c h is. refl;
      loaded = λ d place pointer h. refl;
      stored = λ place value h. refl;
      forked = λ cond a b c d h. refl;
      looped = λ a b c d e f h. refl;
      called = λ dest function args h. refl;
      crossed = λ dest comp index args h. ap (cross_call_fits (export_at interfaces comp index) dest)
          (length-map args source) ∙ h;
      shown = λ value h. refl;
      allocated = λ d count words h. refl;
      freed = λ pointer h. refl;
      returned = λ value h. refl;
    }

    pub imports_stay :
        Stays constants source used holds_word (calls_imports interfaces comp section)
        (calls_imports interfaces comp section)
    imports_stay = record {
      untouched = λ k n h. h;
      copied = λ d from n h. refl;
      operated = λ d o left right n h. refl;
      computed = λ d o left right c h is. refl;
      loaded = λ d place pointer h. refl;
      stored = λ place value h. refl;
      forked = λ cond a b c d h. refl;
      looped = λ a b c d e f h. refl;
      called = λ dest function args h. refl;
      crossed = λ dest comp index args h. h;
      shown = λ value h. h;
      allocated = λ d count words h. refl;
      freed = λ pointer h. refl;
      returned = λ value h. refl;
    }

  -- results that are taken are given
  own_taken : (gives : CallTarget → Bool) (dest : Option ℕ) (function : ℕ) (args : List ℕ) →
      takes_promised gives (tac.CallOwn dest function args) ≡ true →
      takes_promised gives (tac.CallOwn dest function (map source args)) ≡ true
  own_taken gives None function args h = refl
  own_taken gives (Some d) function args h = h

  cross_taken : (gives : CallTarget → Bool) (dest : Option ℕ) (comp index : ℕ) (args : List ℕ) →
      takes_promised gives (tac.CallCross dest comp index args) ≡ true →
      takes_promised gives (tac.CallCross dest comp index (map source args)) ≡ true
  cross_taken gives None comp index args h = refl
  cross_taken gives (Some d) comp index args h = h

  pub promises_stay : (gives : CallTarget → Bool) →
      Stays constants source used holds_word (takes_promised gives) (takes_promised gives)
  promises_stay gives = record {
    untouched = λ k n h. h;
    copied = λ d from n h. refl;
    operated = λ d o left right n h. refl;
    computed = λ d o left right c h is. refl;
    loaded = λ d place pointer h. refl;
    stored = λ place value h. refl;
    forked = λ cond a b c d h. refl;
    looped = λ a b c d e f h. refl;
    called = λ dest function args h. own_taken gives dest function args h;
    crossed = λ dest comp index args h. cross_taken gives dest comp index args h;
    shown = λ value h. refl;
    allocated = λ d count words h. refl;
    freed = λ pointer h. refl;
    returned = λ value h. refl;
  }

  -- what the pass gives reads what is used, so no other temporary
  module _ (x : ℕ) (unused : used x ≡ false) where
    other : (t : ℕ) → used (source t) ≡ true → (source t == x) ≡ false
    other t h = by (source t == x) refl where
      by : (b : Bool) → (source t == x) ≡ b → b ≡ false
      by true is = let no : true ≡ false = sym h ∙ (ap used (eqb-true (source t) x is) ∙ unused) in absurd (cc no)
      by false is = refl

    none_read : (ts : List ℕ) → all_used source used ts ≡ true → is_one x (map source ts) ≡ false
    none_read [] h = refl
    none_read (t ∷ ts) h = ap (λ b. b || is_one x (map source ts)) (other t (and_first (used (source t)) _ h))
        ∙ none_read ts (and_rest (used (source t)) _ h)

    reads_none : (ts : List ℕ) → all_used source used ts ≡ true →
        not (is_one x (map source ts)) ≡ true
    reads_none ts h = ap not (none_read ts h)

    maybe_none : (o : Option ℕ) → all_used source used (one_or_none o) ≡ true →
        is_one x (one_or_none (option_map source o)) ≡ false
    maybe_none None h = refl
    maybe_none (Some t) h = none_read (t ∷ []) h

    unless : (d : ℕ) (o : TacOp) (left : ℕ) (right : Option ℕ) →
        folded constants o left right ≡ None →
        reads_used constants source used (tac.Op d o left right) ≡ true →
        all_used source used (left ∷ one_or_none right) ≡ true
    unless d o left right none h =
        sym (ap (λ f. unless_folded source used f (left ∷ one_or_none right)) none) ∙ h

    pub unused_stay :
        Stays constants source used holds_word (reads_used constants source used) (reads_not x)
    unused_stay = record {
      untouched = untouched_reads;
      copied = λ d from n h. reads_none (from ∷ []) (and_from (used (source from)) true
          (sym (ap (λ b. b || used (source from)) n) ∙ h) refl);
      operated = λ d o left right n h. ap not (ap (λ b. b || is_one x (one_or_none (option_map source right)))
          (other left (and_first (used (source left)) _ (unless d o left right n h)))
          ∙ maybe_none right (and_rest (used (source left)) _ (unless d o left right n h)));
      computed = λ d o left right c h is. refl;
      loaded = λ d place pointer h. reads_none (place ∷ []) h;
      stored = λ place value h. reads_none (place ∷ value ∷ []) h;
      forked = λ cond a b c d h. reads_none (cond ∷ []) h;
      looped = λ a b c d e f h. refl;
      called = λ dest function args h. reads_none args h;
      crossed = λ dest comp index args h. reads_none args h;
      shown = λ value h. reads_none (value ∷ []) h;
      allocated = λ d count words h. reads_none (count ∷ []) h;
      freed = λ pointer h. reads_none (pointer ∷ []) h;
      returned = λ value h. ap not (maybe_none value h);
    } where
      untouched_reads : (k : TacStmt-F Bool) → is_untouched k ≡ true →
          reads_used constants source used k ≡ true → reads_not x k ≡ true
      untouched_reads (tac.Const dest value) n h = refl
      untouched_reads (tac.ObjectPlace dest object) n h = refl
      untouched_reads (tac.GlobalPlace dest global) n h = refl
      untouched_reads tac.Break n h = refl
      untouched_reads tac.Continue n h = refl
      untouched_reads (tac.Input dest) n h = refl
      untouched_reads _ n h = absurd (cc n)

  -- sources are temporaries of the function
  module _ (temps : ℕ) (inside : (t : ℕ) → nat_lt t temps ≡ true → nat_lt (source t) temps ≡ true) where
    abbrev own : List ℕ → Bool
    own ts = list_all (λ t. nat_lt t temps) ts

    all_own : (ts : List ℕ) → own ts ≡ true → own (map source ts) ≡ true
    all_own [] h = refl
    all_own (t ∷ ts) h = and_from (nat_lt (source t) temps) _ (inside t (and_first (nat_lt t temps) _ h))
        (all_own ts (and_rest (nat_lt t temps) _ h))

    following : (dest : Option ℕ) (ts : List ℕ) → own (one_or_none dest ++ ts) ≡ true →
        own (one_or_none dest ++ map source ts) ≡ true
    following None ts h = all_own ts h
    following (Some d) ts h = and_from (nat_lt d temps) _ (and_first (nat_lt d temps) _ h)
        (all_own ts (and_rest (nat_lt d temps) _ h))

    one_more : (o : Option ℕ) → map source (one_or_none o) ≡ one_or_none (option_map source o)
    one_more None = refl
    one_more (Some t) = refl

    pub temps_stay : Stays constants source used holds_word (names_own_temps temps) (names_own_temps temps)
    temps_stay = record {
      untouched = λ k n h. h;
      copied = λ d from n h. following (Some d) (from ∷ []) h;
      operated = λ d o left right n h. subst (λ ts. own (d ∷ source left ∷ ts) ≡ true) (one_more right)
          (following (Some d) (left ∷ one_or_none right) h);
      computed = λ d o left right c h is. and_from (nat_lt d temps) true (and_first (nat_lt d temps) _ h) refl;
      loaded = λ d place pointer h. following (Some d) (place ∷ []) h;
      stored = λ place value h. all_own (place ∷ value ∷ []) h;
      forked = λ cond a b c d h. all_own (cond ∷ []) h;
      looped = λ a b c d e f h. refl;
      called = λ dest function args h. following dest args h;
      crossed = λ dest comp index args h. following dest args h;
      shown = λ value h. all_own (value ∷ []) h;
      allocated = λ d count words h. following (Some d) (count ∷ []) h;
      freed = λ pointer h. all_own (pointer ∷ []) h;
      returned = λ value h. subst (λ ts. own ts ≡ true) (one_more value) (all_own (one_or_none value) h);
    }
