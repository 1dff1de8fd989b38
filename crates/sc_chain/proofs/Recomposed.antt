-- What is read of a text in which compartments perform.
use Rattle.sc_chain.proofs.Common.{Accepts, All, AllByRecursion, Bool, Event, HasWords, Interfaces, IsReplaced}
use Rattle.sc_chain.proofs.Common.{IsScripted}
use Rattle.sc_chain.proofs.Common.{IsSource, IsSplitInto, List, None, Option, TextPart, ProgramTree, Replacement, Some}
use Rattle.sc_chain.proofs.Common.{SourceParts, [], is_listed, ap, ap₂, concat, eqb-true, false, if◌then◌else◌}
use Rattle.sc_chain.proofs.Common.{joined_text}
use Rattle.sc_chain.proofs.Common.{legal, length, map, new_text, new_texts, performing}
use Rattle.sc_chain.proofs.Common.{performing_text, recomposed, recursion_from_All, refl, replacement_of, subst, suc}
use Rattle.sc_chain.proofs.Common.{sym, text_for, true, ℕ, ◌++◌, ◌<◌, ◌==◌, ◌||◌, ◌∙◌, ◌∷◌, ◌≡◌, ◌≤◌}
use Rattle.std.proofs.lemmas.Result.{IfOk-weaker}
use Rattle.std.specs.Prelude.{IfOk, Result}
use Rattle.sc_parse_read.proofs.Splits.{same_parts, same_preamble}
use Rattle.sc_chain.proofs.Accepted as accepted
use Rattle.sc_chain.proofs.Lengths.{part_bytes, within_limit}

-- The replacements of a list of compartments are those of their set.
text_is : (interfaces : Interfaces) (trace : List Event) (comps : List ℕ) (comp : ℕ) →
    text_for (map (replacement_of interfaces trace) comps) comp ≡ performing interfaces trace (is_listed comps) comp
text_is interfaces trace [] comp = refl
text_is interfaces trace (one ∷ comps) comp = by (one == comp) refl (text_is interfaces trace comps comp) where
  by : (same : Bool) → (one == comp) ≡ same →
      text_for (map (replacement_of interfaces trace) comps) comp ≡ performing interfaces trace (is_listed comps) comp →
      (if same then Some (performing_text interfaces trace one) else
      text_for (map (replacement_of interfaces trace) comps) comp) ≡
      (if same || is_listed comps comp then Some (performing_text interfaces trace comp) else None)
  by true is h = ap (λ c. Some (performing_text interfaces trace c)) (eqb-true one comp is)
  by false is h = h

-- texts in which the same stands in place of each section
pub new_texts_same : (replace other : ℕ → Option (List ℕ)) → ((comp : ℕ) → replace comp ≡ other comp) → (comp : ℕ)
    (olds : List (List ℕ)) → new_texts replace comp olds ≡ new_texts other comp olds
new_texts_same replace other same comp [] = refl
new_texts_same replace other same comp (old ∷ olds) =
    ap₂ (λ r rest. new_text r old ∷ rest) (same comp) (new_texts_same replace other same (suc comp) olds)

pub joined_is : (source : SourceParts) (trace : List Event) (comps : List ℕ) →
    joined_text source (text_for (map (replacement_of source.program.interfaces trace) comps)) ≡
    recomposed source trace (is_listed comps)
joined_is source trace comps =
    ap (λ texts. source.preamble ++ concat texts)
    (new_texts_same (text_for (map (replacement_of source.program.interfaces trace) comps))
    (performing source.program.interfaces trace (is_listed comps)) (text_is source.program.interfaces trace comps) 0
    source.sections)

-- the compartments of a list are those of the program
pub within_all : (count : ℕ) (comps : List ℕ) → AllByRecursion (λ comp. comp < count) comps → (comp : ℕ) →
    is_listed comps comp ≡ true → comp < count
within_all count [] h comp own = absurd (cc own)
within_all count (one ∷ comps) h comp own = by (one == comp) refl own (within_all count comps h.1 comp) where
  by : (same : Bool) → (one == comp) ≡ same → (same || is_listed comps comp) ≡ true →
      (is_listed comps comp ≡ true → comp < count) → comp < count
  by true is own rest = subst (λ c. c < count) (eqb-true one comp is) h.0
  by false is own rest = rest own

-- a text is split in one way

one_split : (text preamble other : List ℕ) (sections others : List (List ℕ)) → IsSplitInto text preamble sections →
    IsSplitInto text other others → (preamble ≡ other) × (sections ≡ others)
one_split text preamble other sections others a b = (
  same_preamble a.split b.split,
  a.bytes ∙ part_bytes a.found ∙ ap (map (λ (part : TextPart). part.bytes)) (same_parts a.split b.split) ∙
      sym (part_bytes b.found) ∙ sym b.bytes,
)

-- whoever is named in the list performs
pub is_scripted : (source : SourceParts) (trace : List Event) (comps : List ℕ) → IsSource source →
    legal source.program.interfaces trace ≡ true → length trace ≤ 4096 → All HasWords trace →
    All (λ comp. comp < length source.program.interfaces.comps) comps →
    (program : ProgramTree) × IsScripted source trace (is_listed comps) program
is_scripted source trace comps is allowed few words known =
    let within = within_all (length source.program.interfaces.comps) comps
    (recursion_from_All (λ comp. comp < length source.program.interfaces.comps) comps known) in (
      accepted.program source trace is allowed few words (is_listed comps) within,
      record {
        accepted = accepted.accepted source trace is allowed few words (is_listed comps) within;
        interfaces = accepted.same_interfaces source trace is allowed few words (is_listed comps) within;
        means = accepted.means source trace is allowed few words (is_listed comps) within;
        blames = accepted.blames source trace is allowed few words (is_listed comps) within;
        short = λ compiled. within_limit source trace is allowed few words compiled (is_listed comps);
      },
    )

pub is_replaced : ((text : List ℕ) (program other : ProgramTree) → Accepts text program → Accepts text other →
    program ≡ other) → (source : SourceParts) (trace : List Event) (comps : List ℕ) (new : SourceParts) →
    IsSource source → legal source.program.interfaces trace ≡ true → length trace ≤ 4096 → All HasWords trace →
    All (λ comp. comp < length source.program.interfaces.comps) comps → IsSource new →
    new.bytes ≡ recomposed source trace (is_listed comps) → IsReplaced source trace (is_listed comps) new
is_replaced one_program source trace comps new is allowed few words known read bytes =
    let within = within_all (length source.program.interfaces.comps) comps
    (recursion_from_All (λ comp. comp < length source.program.interfaces.comps) comps known) in
    let made = is_scripted source trace comps is allowed few words known in
    let same : made.0 ≡ new.program =
    one_program new.bytes made.0 new.program
    (subst (λ text. Accepts text made.0) (sym bytes) made.1.accepted) read.accepted in
    let parts = one_split new.bytes new.preamble source.preamble new.sections
    (new_texts (performing source.program.interfaces trace (is_listed comps)) 0 source.sections) read.split
    (subst (λ text. IsSplitInto text source.preamble
    (new_texts (performing source.program.interfaces trace (is_listed comps)) 0 source.sections)) (sym bytes)
    (accepted.split_so source trace is allowed few words (is_listed comps) within)) in
    record {
      bytes = bytes;
      preamble = parts.0;
      sections = parts.1;
      scripted = subst (IsScripted source trace (is_listed comps)) same made.1;
    }

-- the text that is put together
pub text_so : {E : Type 0} (result : Result (List ℕ) E) (source : SourceParts) (trace : List Event) (comps : List ℕ)
    (program : ProgramTree) (interfaces : Interfaces) (made handed : List Replacement) → program ≡ source.program →
    interfaces ≡ program.interfaces → made ≡ map (replacement_of interfaces trace) comps → handed ≡ made →
    IfOk result (λ text. text ≡ joined_text source (text_for handed)) →
    IfOk result (λ text. text ≡ recomposed source trace (is_listed comps))
text_so result source trace comps program interfaces made handed program_is interfaces_are made_are handed_are =
    IfOk-weaker result _ _ (λ text text_is. text_is ∙
    ap (λ items. joined_text source (text_for items)) (handed_are ∙ made_are ∙
    ap (λ i. map (replacement_of i trace) comps) (interfaces_are ∙ ap (λ (p : ProgramTree). p.interfaces) program_is)) ∙
    joined_is source trace comps)
