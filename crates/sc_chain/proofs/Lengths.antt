-- A text of the chain is at most seven times as long as the program's own, and 256 bytes longer for each event.
use Rattle.sc_chain.proofs.Common.{All, AllByRecursion, Bool, Event, HasNext, HasWords, Interfaces, IsSource, List}
use Rattle.sc_chain.proofs.Common.{None, Option, ProgramTree, Row, Some, SourceParts, Standing, TextPart, []}
use Rattle.sc_chain.proofs.Common.{action_of, ap, arith, at_start, concat, eqb-true, false, if◌then◌else◌, legal}
use Rattle.sc_chain.proofs.Common.{length, length-append, map, ne_eqb, new_text, new_texts, part, part_of, performer}
use Rattle.sc_chain.proofs.Common.{performing, performing_text, recomposed, recursion_from_All, refl, rows_from}
use Rattle.sc_chain.proofs.Common.{stands_after, subst, suc, sym, true, zero, ℕ, ◌+◌, ◌<◌, ◌==◌, ◌∙◌, ◌∷◌, ◌≡◌, ◌≤◌}
use Rattle.std.proofs.Common.{filter, slice_get, ◌*◌}
use Rattle.std.proofs.lemmas.Option.{same_Some}
use Rattle.std.specs.List.{AllZip}
use Rattle.std.specs.Option.{option_map_or}
use Rattle.sc_event.specs.Prelude.{comp_at, count_of}
use Rattle.sc_ast.specs.declared.section.SectionTree.{SectionTree}
use Rattle.sc_lex.specs.declared.section.Section.{Section}
use Rattle.sc_parse_read.specs.Reading.{IsRead}
use Rattle.sc_parse_read.proofs.Splits.{same_parts}
use Rattle.sc_types_scope.specs.Prelude.{interface_of, interfaces_of}
use Rattle.sc_types.specs.Prelude.{IsTyped}
use Rattle.sc_types.proofs.Calls.{comp_is}
use Rattle.sc_back.specs.Prelude.{CanPerform, IsSpoken, section_text}
use Rattle.sc_back.proofs.Lengths.{IsWritten}
use Rattle.sc_back.proofs.Sizes.{section_size}
use Rattle.sc_back_reread_laws.proofs.Sizes.{read_long}
use Rattle.sc_back_performer_laws.specs.Performing.{PerformsPart}
use Rattle.sc_back_performer_laws.proofs.Lengths.{section_short}
use Rattle.sc_back_performer_laws.proofs.PartsPerform.{parts_perform}
use Rattle.sc_chain.proofs.Accepted.{named, performable}
use Rattle.sc_chain.proofs.Rows.{part_low}

-- Each event is a row of one compartment.

abbrev one_if : Bool → ℕ
one_if true = 1
one_if false = 0

-- how many of the compartments from k on, of which there are n, perform it
abbrev hits : (k n performs : ℕ) → ℕ
hits k zero performs = 0
hits k (suc n) performs = one_if (performs == k) + hits (suc k) n performs

none_hit : (k n performs : ℕ) → performs < k → hits k n performs ≡ 0
none_hit k zero performs below = refl
none_hit k (suc n) performs below =
    let other = ne_eqb performs k (λ same. omega (arith, same, below)) in
    let rest = none_hit (suc k) n performs (omega (arith, below)) in
    rw other (omega (arith, rest))

one_hit : (k n performs : ℕ) → hits k n performs ≤ 1
one_hit k zero performs = omega arith
one_hit k (suc n) performs =
    by (performs == k) refl (none_hit (suc k) n performs) (one_hit (suc k) n performs) where
      by : (b : Bool) → (performs == k) ≡ b → (performs < suc k → hits (suc k) n performs ≡ 0) →
          hits (suc k) n performs ≤ 1 → one_if b + hits (suc k) n performs ≤ 1
      by true is none one =
          let same = eqb-true performs k is in
          let rest = none (omega (arith, same)) in
          omega (arith, rest)
      by false is none one = omega (arith, one)

-- the events of these compartments
abbrev counts : (k n : ℕ) → List Event → ℕ
counts k zero trace = 0
counts k (suc n) trace = count_of k trace + counts (suc k) n trace

count_more : (k : ℕ) (event : Event) (trace : List Event) →
    count_of k (event ∷ trace) ≡ one_if (performer event == k) + count_of k trace
count_more k event trace = by (performer event == k) where
  by : (b : Bool) → length (if b then event ∷ filter (λ e. performer e == k) trace else
      filter (λ e. performer e == k) trace) ≡ one_if b + length (filter (λ e. performer e == k) trace)
  by true = omega arith
  by false = omega arith

counts_more : (k n : ℕ) (event : Event) (trace : List Event) →
    counts k n (event ∷ trace) ≡ hits k n (performer event) + counts k n trace
counts_more k zero event trace = omega arith
counts_more k (suc n) event trace =
    let here = count_more k event trace in
    let rest = counts_more (suc k) n event trace in
    omega (arith, here, rest)

counts_none : (k n : ℕ) → counts k n [] ≡ 0
counts_none k zero = refl
counts_none k (suc n) = let rest = counts_none (suc k) n in omega (arith, rest)

counts_within : (k n : ℕ) (trace : List Event) → counts k n trace ≤ length trace
counts_within k n [] = let none = counts_none k n in omega (arith, none)
counts_within k n (event ∷ trace) =
    let more = counts_more k n event trace in
    let one = one_hit k n (performer event) in
    let rest = counts_within k n trace in
    omega (arith, more, one, rest)

rows_counted : (comp number : ℕ) (at : Option Standing) (trace : List Event) →
    length (rows_from comp number at trace) ≤ count_of comp trace
rows_counted comp number at [] = omega arith
rows_counted comp number None (event ∷ later) = omega arith
rows_counted comp number (Some at) (event ∷ later) =
    by (performer event == comp) (rows_counted comp (suc number) (stands_after at event) later)
    (rows_counted comp number (stands_after at event) later) where
      by : (mine : Bool) → length (rows_from comp (suc number) (stands_after at event) later) ≤ count_of comp later →
          length (rows_from comp number (stands_after at event) later) ≤ count_of comp later →
          length (if mine then record {
            entry = at.active.entry;
            number = number;
            action = action_of event;
          } ∷ rows_from comp (suc number) (stands_after at event) later else
          rows_from comp number (stands_after at event) later) ≤
          length (if mine then event ∷ filter (λ e. performer e == comp) later else
          filter (λ e. performer e == comp) later)
      by true own other = omega (arith, own)
      by false own other = other

-- Sections one after another.

rows_written : (interfaces : Interfaces) (rows : List Row) →
    AllByRecursion (λ row. IsSpoken interfaces row.action) rows → AllByRecursion HasNext rows →
    AllByRecursion (IsWritten interfaces) rows
rows_written interfaces [] spoken numbered = tt
rows_written interfaces (row ∷ rows) spoken numbered =
    (record { spoken = spoken.0; numbered = numbered.0 }, rows_written interfaces rows spoken.1 numbered.1)

module _ (interfaces : Interfaces) (trace : List Event) where
  -- a section that performs isn't much longer than the one before
  abbrev IsShort : (comp : ℕ) → (old : List ℕ) → Type 0
  IsShort comp old = length (performing_text interfaces trace comp) ≤ 7 * length old + 256 * count_of comp trace

  -- from the compartment of this number on
  abbrev AreShort : (comp : ℕ) → List (List ℕ) → Type 0
  AreShort comp [] = Unit {0}
  AreShort comp (old ∷ olds) = IsShort comp old × AreShort (suc comp) olds

  news_short : (set : ℕ → Bool) (comp : ℕ) (olds : List (List ℕ)) → AreShort comp olds →
      length (concat (new_texts (performing interfaces trace set) comp olds)) ≤
      7 * length (concat olds) + 256 * counts comp (length olds) trace
  news_short set comp [] are = omega arith
  news_short set comp (old ∷ olds) are =
      let text : List ℕ = new_text (performing interfaces trace set comp) old in
      let here = by (set comp) are.0 in
      let rest = news_short set (suc comp) olds are.1 in
      let new = length-append text (concat (new_texts (performing interfaces trace set) (suc comp) olds)) in
      let whole = length-append old (concat olds) in
      omega (arith, here, rest, new, whole) where
        by : (own : Bool) → IsShort comp old →
            length (new_text (if own then Some (performing_text interfaces trace comp) else None) old) ≤
            7 * length old + 256 * count_of comp trace
        by true short = short
        by false short = omega arith

module _ (trees : List SectionTree) (program : ProgramTree) (trace : List Event) (typed : IsTyped trees program)
    (parts : (comp : ℕ) → comp < length trees → PerformsPart program trace comp) (few : length trace ≤ 4096) where
  abbrev interfaces : Interfaces
  interfaces = program.interfaces

  abbrev rows : ℕ → List Row
  rows comp = part interfaces.main comp trace

  same : interfaces ≡ interfaces_of trees
  same = ap (λ (p : ProgramTree). p.interfaces) typed.is

  module _ (comp : ℕ) (tree : SectionTree) (got : slice_get trees comp ≡ Some tree) (low : comp < length trees) where
    there : comp_at interfaces comp ≡ Some (interface_of trees comp tree)
    there = ap (λ (i : Interfaces). comp_at i comp) same ∙ comp_is trees comp tree got

    can : CanPerform interfaces (rows comp) (interface_of trees comp tree)
    can =
        let p = parts comp low in
        subst (CanPerform interfaces (rows comp))
        (same_Some p.interface (interface_of trees comp tree) (sym p.at ∙ there)) p.can

    written : AllByRecursion (IsWritten interfaces) (rows comp)
    written =
        rows_written interfaces (rows comp)
        (recursion_from_All (λ row. IsSpoken interfaces row.action) (rows comp) can.actions)
        (recursion_from_All HasNext (rows comp) (part_low interfaces.main comp trace few))

    section_is_short : length (section_text interfaces comp (rows comp) (interface_of trees comp tree)) ≤
        7 * section_size tree + 256 * length (rows comp)
    section_is_short =
        by interfaces same (rows comp) can written where
          by : (i : Interfaces) → i ≡ interfaces_of trees → (rs : List Row) →
              CanPerform i rs (interface_of trees comp tree) → AllByRecursion (IsWritten i) rs →
              length (section_text i comp rs (interface_of trees comp tree)) ≤
              7 * section_size tree + 256 * length rs
          by i is rs may are =
              subst (λ j. length (section_text j comp rs (interface_of trees comp tree)) ≤
              7 * section_size tree + 256 * length rs) (sym is)
              (section_short trees typed.interfaces typed.counts comp tree got rs
              (subst (λ j. CanPerform j rs (interface_of trees comp tree)) is may)
              (subst (λ j. AllByRecursion (IsWritten j) rs) is are))

    performing_short : (old : List ℕ) → section_size tree ≤ length old → IsShort interfaces trace comp old
    performing_short old long =
        subst (λ o. length (option_map_or (section_text interfaces comp (rows comp)) o []) ≤
        7 * length old + 256 * count_of comp trace) (sym there)
        (let short = section_is_short in
        let count = rows_counted comp 0 (at_start interfaces.main) trace in
        omega (arith, short, count, long))

  module _ (text : List ℕ) where
    all_short : (comp : ℕ) (sections : List TextPart) (rest : List SectionTree) → AllZip (IsRead text) sections rest →
        ((j : ℕ) (tree : SectionTree) → slice_get rest j ≡ Some tree → slice_get trees (comp + j) ≡ Some tree) →
        comp + length rest ≤ length trees →
        AreShort interfaces trace comp (map (λ (section : TextPart). section.bytes) sections)
    all_short comp [] [] read at low = tt
    all_short comp [] (tree ∷ rest) read at low = absurd read
    all_short comp (section ∷ sections) [] read at low = absurd read
    all_short comp (section ∷ sections) (tree ∷ rest) read at low = (
      performing_short comp tree (subst (λ n. slice_get trees n ≡ Some tree) (plus_zero comp) (at 0 tree refl))
          (omega (arith, low)) section.bytes (read_long text section tree read.0),
      all_short (suc comp) sections rest read.1
          (λ j other got. subst (λ n. slice_get trees n ≡ Some other) (plus_one comp j) (at (suc j) other got))
          (omega (arith, low)),
    ) where
      plus_zero : (n : ℕ) → n + 0 ≡ n
      plus_zero n = omega arith

      plus_one : (n j : ℕ) → n + suc j ≡ suc n + j
      plus_one n j = omega arith

-- Texts.

pub part_bytes : (sections : List Section) →
    map (λ section. section.bytes.now) sections ≡ map (λ (part : TextPart). part.bytes) (map part_of sections)
part_bytes [] = refl
part_bytes (section ∷ sections) = ap (λ rest. section.bytes.now ∷ rest) (part_bytes sections)

pub text_is_short : (source : SourceParts) (trace : List Event) → IsSource source →
    legal source.program.interfaces trace ≡ true → length trace ≤ 4096 → All HasWords trace → (set : ℕ → Bool) →
    length (recomposed source trace set) ≤ 7 * length source.bytes + 256 * length trace
text_is_short source trace is allowed few words set =
    let trees = is.accepted.sections in
    let reads = is.accepted.reads in
    let parts : (comp : ℕ) → comp < length trees → PerformsPart source.program trace comp =
    parts_perform trees source.program trace is.accepted.typed (named source trace is allowed few words)
    (performable source trace is allowed few words) in
    let short = all_short trees source.program trace is.accepted.typed parts few source.bytes 0 reads.sections trees
    reads.each (λ j tree got. subst (λ n. slice_get trees n ≡ Some tree) (zero_plus j) got) (omega arith) in
    let bytes : source.sections ≡ map (λ (section : TextPart). section.bytes) reads.sections =
    is.split.bytes ∙ part_bytes is.split.found ∙ ap (map (λ (section : TextPart). section.bytes))
    (same_parts is.split.split reads.lexed.split ∙ sym reads.lexed.parts) in
    let news = news_short source.program.interfaces trace set 0 source.sections
    (subst (AreShort source.program.interfaces trace 0) (sym bytes) short) in
    let events = counts_within 0 (length source.sections) trace in
    let new = length-append source.preamble
    (concat (new_texts (performing source.program.interfaces trace set) 0 source.sections)) in
    let old = length-append source.preamble (concat source.sections) in
    let whole = ap (λ (bytes : List ℕ). length bytes) is.joined in
    omega (arith, news, events, new, old, whole) where
      zero_plus : (n : ℕ) → n ≡ 0 + n
      zero_plus n = omega arith

-- with the limits of what is compiled, and of events
pub within_limit : (source : SourceParts) (trace : List Event) → IsSource source →
    legal source.program.interfaces trace ≡ true → length trace ≤ 4096 → All HasWords trace →
    length source.bytes ≤ 1048576 → (set : ℕ → Bool) → length (recomposed source trace set) ≤ 8388608
within_limit source trace is allowed few words compiled set =
    let short = text_is_short source trace is allowed few words set in
    omega (arith, short, few, compiled)
