-- What is asked of `explain`, `judge`, `make` and `tags` is bounded.
use Rattle.sc_top.proofs.Common.{All, Bool, Check, Command, Compile, Exec, Explain, IsBounded, IsInput, IsWithinLimit}
use Rattle.sc_top.proofs.Common.{Judge, accounted_intake, length, limit_in}
use Rattle.sc_top.proofs.Common.{List, Object, [], ◌+◌, ◌∷◌}
use Rattle.sc_top.proofs.Common.{Make, MakeOptions, Meaning, None, Option, Run, RunOptions, Some, arith, false}
use Rattle.sc_top.proofs.Common.{if◌then◌else◌, leb-true, nat_le, none-some, option_and_then, option_map, refl, subst}
use Rattle.sc_top.proofs.Common.{true, ℕ, ℤ, ◌&&◌, ◌≡◌, ◌≤◌}
use Rattle.sc_top_words.specs.Prelude.{given_value, has_option, number_within, number, when_within}
use Rattle.sc_top_words.specs.Prelude.{pieces, range_of, range_within}
use Rattle.sc_top_words.specs.declared.command.DataRange.{DataRange}
use Rattle.sc_top_words.specs.declared.command.ExplainOptions.{ExplainOptions}
use Rattle.sc_top_words.specs.declared.command.JudgeOptions.{JudgeOptions}
use Rattle.sc_tags.specs.Prelude.{IsWithinAddresses}
use Rattle.sc_top.specs.Tagged.{ranges_of}
use Rattle.std.proofs.lemmas.List.Elements.{All-cons, All-nil}
use Rattle.std.specs.Str.{bytes_eq}
use Rattle.sc_top_words.specs.Words as words
use Rattle.sc_top_words.specs.declared.command.Command.TheVariants as commands
unfoldable use Rattle.sc_top_words.specs.Words.{command}

same_value : {A : Type 0} (x y : A) → ◌≡◌ {A = Option A} (Some x) (Some y) → x ≡ y
same_value x y same = cc same

-- a number between bounds
between : (low high m n : ℕ) (up down : Bool) → nat_le low m ≡ up → nat_le m high ≡ down →
    (if up && down then Some m else None) ≡ Some n → (low ≤ n) × (n ≤ high)
between low high m n true true some few is =
    let same = same_value m n is in
    (subst (λ k. low ≤ k) same (leb-true low m some), subst (λ k. k ≤ high) same (leb-true m high few))
between low high m n true false some few is = absurd (none-some n is)
between low high m n false down some few is = absurd (none-some n is)

of_number : (low high : ℕ) (found : Option ℕ) (n : ℕ) → option_and_then (when_within low high) found ≡ Some n →
    (low ≤ n) × (n ≤ high)
of_number low high None n is = absurd (none-some n is)
of_number low high (Some m) n is = between low high m n _ _ refl refl is

of_value : (low high : ℕ) (value : Option (List ℕ)) (n : ℕ) →
    option_and_then (number_within low high) value ≡ Some n → (low ≤ n) × (n ≤ high)
of_value low high None n is = absurd (none-some n is)
of_value low high (Some text) n is = of_number low high _ n is

of_events : (value : Option (List ℕ)) (n : ℕ) → words.events value ≡ Some n → n ≤ 4096
of_events None n is = subst (λ k. k ≤ 4096) (same_value 1024 n is) (omega arith)
of_events (Some text) n is = (of_number 0 4096 (number text) n is).1

of_run : (steps events : Option ℕ) (inputs : Option (List ℤ)) (options : RunOptions) →
    ((n : ℕ) → events ≡ Some n → n ≤ 4096) →
    option_and_then (λ steps. option_and_then (λ events. option_map (λ inputs.
    record { steps = steps; events = events; inputs = inputs }) inputs) events) steps ≡ Some options →
    options.events ≤ 4096
of_run None events inputs options few is = absurd (none-some options is)
of_run (Some s) None inputs options few is = absurd (none-some options is)
of_run (Some s) (Some e) None options few is = absurd (none-some options is)
of_run (Some s) (Some e) (Some i) options few is = subst (λ o. o.events ≤ 4096) (same_value _ options is) (few e refl)

of_explain : (run : Option RunOptions) (show : Option (Option ℕ)) (image trapped : Bool) (options : ExplainOptions) →
    ((run_options : RunOptions) → run ≡ Some run_options → run_options.events ≤ 4096) →
    option_and_then (λ run. option_map (λ show.
    record { run = run; image = image; trapped = trapped; show = show }) show) run ≡
    Some options → IsBounded (Explain options)
of_explain None show image trapped options few is = absurd (none-some options is)
of_explain (Some run) None image trapped options few is = absurd (none-some options is)
of_explain (Some run) (Some show) image trapped options few is =
    subst (λ (o : ExplainOptions). o.run.events ≤ 4096)
    (same_value (record { run = run; image = image; trapped = trapped; show = show }) options is) (few run refl)

of_judge : (run : Option RunOptions) (image trapped : Bool) (options : JudgeOptions) →
    ((run_options : RunOptions) → run ≡ Some run_options → run_options.events ≤ 4096) →
    option_map (λ run. record { run = run; image = image; trapped = trapped }) run ≡ Some options →
    IsBounded (Judge options)
of_judge None image trapped options few is = absurd (none-some options is)
of_judge (Some run) image trapped options few is =
    subst (λ (o : JudgeOptions). o.run.events ≤ 4096)
    (same_value (record { run = run; image = image; trapped = trapped }) options is) (few run refl)

of_make : (size seed : Option ℕ) (summary : Bool) (options : MakeOptions) →
    ((n : ℕ) → size ≡ Some n → (1 ≤ n) × (n ≤ 1000)) → ((n : ℕ) → seed ≡ Some n → (0 ≤ n) × (n ≤ 4294967295)) →
    option_and_then (λ size. option_map (λ seed. record { size = size; seed = seed; summary = summary }) seed) size ≡
    Some options → IsBounded (Make options)
of_make None seed summary options sizes seeds is = absurd (none-some options is)
of_make (Some size) None summary options sizes seeds is = absurd (none-some options is)
of_make (Some size) (Some seed) summary options sizes seeds is =
    let few = (seeds seed refl).1 in
    subst (λ o. IsBounded (Make o))
    (same_value (record { size = size; seed = seed; summary = summary }) options is) (record {
      some = (sizes size refl).0;
      few = (sizes size refl).1;
      word = omega (arith, few);
    })

-- no byte of a range lies beyond the last address
of_range_within : (start bytes comp : ℕ) (low : Bool) → nat_le (start + bytes) 4294967296 ≡ low → (range : DataRange) →
    (if low then Some (record { start = start; bytes = bytes; comp = comp }) else None) ≡ Some range →
    range.start + range.bytes ≤ 4294967296
of_range_within start bytes comp true low range is =
    subst (λ (range : DataRange). range.start + range.bytes ≤ 4294967296) (same_value _ range is)
    (leb-true (start + bytes) 4294967296 low)
of_range_within start bytes comp false low range is = absurd (none-some range is)

of_range_by : (start bytes comp : Option ℕ) (range : DataRange) → option_and_then (λ start. option_and_then (λ bytes.
    option_and_then (λ comp. range_within start bytes comp) comp) bytes) start ≡ Some range →
    range.start + range.bytes ≤ 4294967296
of_range_by None bytes comp range is = absurd (none-some range is)
of_range_by (Some start) None comp range is = absurd (none-some range is)
of_range_by (Some start) (Some bytes) None range is = absurd (none-some range is)
of_range_by (Some start) (Some bytes) (Some comp) range is = of_range_within start bytes comp _ refl range is

of_range : (texts : List (List ℕ)) (range : DataRange) → range_of texts ≡ Some range →
    range.start + range.bytes ≤ 4294967296
of_range [] range is = absurd (none-some range is)
of_range (start ∷ []) range is = absurd (none-some range is)
of_range (start ∷ bytes ∷ []) range is = absurd (none-some range is)
of_range (start ∷ bytes ∷ comp ∷ []) range is =
    of_range_by (number_within 0 4294967295 start) (number_within 0 4294967295 bytes) (number_within 0 31 comp) range is
of_range (start ∷ bytes ∷ comp ∷ more ∷ rest) range is = absurd (none-some range is)

of_ranges : (found : Option DataRange) → ((range : DataRange) → found ≡ Some range →
    range.start + range.bytes ≤ 4294967296) → (range : Option DataRange) → option_map Some found ≡ Some range →
    All IsWithinAddresses (ranges_of range)
of_ranges None low range is = absurd (none-some range is)
of_ranges (Some found) low range is =
    subst (λ range. All IsWithinAddresses (ranges_of range)) (same_value (Some found) range is)
    (All-cons IsWithinAddresses _ [] (low found refl) (All-nil IsWithinAddresses))

of_data : (value : Option (List ℕ)) (range : Option DataRange) → words.data_range value ≡ Some range →
    All IsWithinAddresses (ranges_of range)
of_data None range is =
    subst (λ range. All IsWithinAddresses (ranges_of range)) (same_value None range is) (All-nil IsWithinAddresses)
of_data (Some text) range is = of_ranges (range_of (pieces text)) (of_range (pieces text)) range is

of_tags : (run : Option RunOptions) (value : Option (List ℕ)) (c : Command) →
    option_and_then (λ options. option_map (λ range. commands.Tags options range) (words.data_range value)) run ≡
    Some c → IsBounded c
of_tags None value c is = absurd (none-some c is)
of_tags (Some options) value c is = by (words.data_range value) refl is
  where
    by : (range : Option (Option DataRange)) → words.data_range value ≡ range →
        option_map (λ range. commands.Tags options range) range ≡ Some c → IsBounded c
    by None at is = absurd (none-some c is)
    by (Some range) at is = subst IsBounded (same_value _ c is) (of_data value range at)

-- a command by its options
mapped : {A : Type 0} (make : A → Command) (found : Option A) → ((a : A) → found ≡ Some a → IsBounded (make a)) →
    (c : Command) → option_map make found ≡ Some c → IsBounded c
mapped make None each c is = absurd (none-some c is)
mapped make (Some a) each c is = subst IsBounded (same_value _ c is) (each a refl)

either : (test : Bool) (one other : Option Command) (c : Command) → (one ≡ Some c → IsBounded c) →
    (other ≡ Some c → IsBounded c) → (if test then one else other) ≡ Some c → IsBounded c
either true one other c first second is = first is
either false one other c first second is = second is

with_values : (name : List ℕ) (value : List ℕ → Option (List ℕ)) (flag : List ℕ → Bool) (c : Command) →
    words.command_with name value flag ≡ Some c → IsBounded c
with_values name value flag c =
    either (bytes_eq name _) _ _ c (λ is. subst IsBounded (same_value Check c is) tt)
    (either (bytes_eq name _) _ _ c (mapped Meaning _ _ c)
    (either (bytes_eq name _) _ _ c (λ is. subst IsBounded (same_value Compile c is) tt)
    (either (bytes_eq name _) _ _ c (mapped Object _ _ c)
    (either (bytes_eq name _) _ _ c (λ is. subst IsBounded (same_value commands.Link c is) tt)
    (either (bytes_eq name _) _ _ c (mapped Run _ _ c) (either (bytes_eq name _) _ _ c (mapped Exec _ _ c)
    (either (bytes_eq name _) _ _ c (of_tags _ (value _) c)
    (either (bytes_eq name _) _ _ c (mapped Explain _ (λ options. of_explain _ _ (flag _) (flag _) options
    (λ run. of_run (words.limit (value _)) (words.events (value _)) (words.inputs (value _)) run
    (of_events (value _)))) c)
    (either (bytes_eq name _) _ _ c (mapped Judge _ (λ options. of_judge _ (flag _) (flag _) options
    (λ run. of_run (words.limit (value _)) (words.events (value _)) (words.inputs (value _)) run
    (of_events (value _)))) c)
    (either (bytes_eq name _) _ _ c (mapped Make _ (λ options. of_make _ _ (flag _) options
    (of_value 1 1000 (value _)) (of_value 0 4294967295 (value _))) c) (λ is. absurd (none-some c is))))))))))))

of_parsed : (read : Option (List ℕ × List (List ℕ × List ℕ))) (c : Command) →
    option_and_then (λ read. words.command_with read.0 (λ name. given_value name read.1)
    (λ name. has_option name read.1)) read ≡ Some c → IsBounded c
of_parsed None c is = absurd (none-some c is)
of_parsed (Some read) c is =
    with_values read.0 (λ name. given_value name read.1) (λ name. has_option name read.1) c is

-- a command that words are
pub asked_few : (asked : List (List ℕ)) (c : Command) → command asked ≡ Some c → IsBounded c
unfolding command
asked_few asked c is = of_parsed (words.parsed asked) c is

-- what a command read is within its limit
pub input_within : (limit : Option ℕ) (left left_after : Option (List ℕ)) (bytes : List ℕ) →
    IsInput limit left left_after bytes → IsWithinLimit limit bytes
input_within None left left_after bytes input = tt
input_within (Some limit) left left_after bytes input = input.within

-- where no image is asked for the bytes of a run that is accounted for are short
pub short_text : (image : Bool) (bytes : List ℕ) → IsWithinLimit (limit_in (accounted_intake image)) bytes →
    image ≡ false → length bytes ≤ 1048576
short_text image bytes within none = subst (λ b. IsWithinLimit (limit_in (accounted_intake b)) bytes) none within
