-- What the rules of a program and of its image say of calls that any code makes.
use Rattle.sc_emit_run_laws.proofs.Common.{ArePassed, ImageParts, List, None, Option, Proto, Registers, Some, StandsFor}
use Rattle.sc_emit_run_laws.proofs.Common.{TacTree, Value, Word, [], a0, ap, arguments, arith, count, eqb-true}
use Rattle.sc_emit_run_laws.proofs.Common.{export_at, exported_by, false, is_word, length, list_all, listed, map}
use Rattle.sc_emit_run_laws.proofs.Common.{ne_eqb}
use Rattle.sc_emit_run_laws.proofs.Common.{option_map_or, position-Some, read_listed, refl, same_Some, slice_get}
use Rattle.sc_emit_run_laws.proofs.Common.{slice_index, subst, suc, sym, takes, true, words_from, zero, ℕ, ◌+◌, ◌<◌}
use Rattle.sc_emit_run_laws.proofs.Common.{◌==◌, ◌^◌, ◌∙◌, ◌∷◌, ◌≡◌, ◌≤◌}
use Rattle.sc_image.specs.Prelude.{entered_export as image_export}
use Rattle.sc_image.specs.declared.parts.ExportPart.{ExportPart}
use Rattle.sc_emit_run_laws.proofs.CrossCalls.{IsOffered}
use Rattle.sc_emit_run_laws.proofs.Crossing.{take_words}

-- EXPORTS

-- an export that takes `count` words is offered
offered_at : (program : TacTree) (to index count : ℕ) (o : Option Proto) → export_at program.interfaces to index ≡ o →
    option_map_or (λ found. length found.params == count) o false ≡ true → IsOffered program to index count
offered_at program to index count None is h = cc h
offered_at program to index count (Some proto) is h = record {
  proto = proto;
  export = is;
  takes = eqb-true (length proto.params) count h;
}

pub offered_if : (program : TacTree) (to index count : ℕ) → takes program.interfaces to index count ≡ true →
    IsOffered program to index count
offered_if program to index count h =
    offered_at program to index count (export_at program.interfaces to index) refl h

-- ENTRIES

no_export : ExportPart
no_export = record { name = []; params = 0; result = false; entry = 0 }

-- an export begins at one address
pub entry_is : (image : ImageParts) (to index one other : ℕ) → image_export image to one ≡ Some index →
    image_export image to other ≡ Some index → one ≡ other
entry_is image to index one other is at =
    let first = (position-Some (λ (export : ExportPart). export.entry == one) (exported_by image to) index no_export
    is).1 in
    let second = (position-Some (λ (export : ExportPart). export.entry == other) (exported_by image to) index no_export
    at).1 in
    sym (eqb-true _ one first) ∙ eqb-true _ other second

-- ARGUMENTS

-- words as values
abbrev pub as_values : List ℕ → List Value
as_values words = map (λ w. Word w) words

pub are_words : (words : List ℕ) → list_all is_word (as_values words) ≡ true
are_words [] = refl
are_words (w ∷ words) = are_words words

record IsFrom (first i : ℕ) (regs : Registers) (v : Value) : Type 0 where
  is : v ≡ Word (regs (first + i))

from_at : (n first : ℕ) (regs : Registers) (i : ℕ) (v : Value) →
    slice_get (as_values (words_from n first regs)) i ≡ Some v → IsFrom first i regs v
from_at zero first regs i v h = cc h
from_at (suc n) first regs zero v h =
    let here : first + 0 ≡ first = omega arith in
    record { is = sym (same_Some (Word (regs first)) v h) ∙ ap (λ r. Word (regs r)) (sym here) }
from_at (suc n) first regs (suc i) v h =
    let there : suc first + i ≡ first + suc i = omega arith in
    let rest : IsFrom (suc first) i regs v = from_at n (suc first) regs i v h in
    record { is = rest.is ∙ ap (λ r. Word (regs r)) there }

below_count : (n first : ℕ) (regs : Registers) (i : ℕ) (v : Value) →
    slice_get (as_values (words_from n first regs)) i ≡ Some v → i < n
below_count zero first regs i v h = cc h
below_count (suc n) first regs zero v h = omega arith
below_count (suc n) first regs (suc i) v h = omega (arith, below_count n (suc first) regs i v h)

-- what is in the registers of arguments is passed
pub words_passed : (place : ℕ → Option ℕ) (params : ℕ) (regs : Registers) → params ≤ 8 →
    ((r : ℕ) → slice_index (listed regs) r < 2 ^ 32) →
    ArePassed place regs (as_values (arguments params (listed regs)))
words_passed place params regs few words i v at =
    let at' : slice_get (as_values (words_from params a0 regs)) i ≡ Some v =
    ap (λ ws. slice_get (as_values ws) i) (sym (take_words params 22 a0 regs (omega (arith, few)))) ∙ at in
    let below : i < params = below_count params a0 regs i v at' in
    let is : IsFrom a0 i regs v = from_at params a0 regs i v at' in
    let reads : slice_index (listed regs) (a0 + i) ≡ regs (a0 + i) =
    read_listed regs (a0 + i) (omega (arith, below, few)) ∙
    rw (ne_eqb (a0 + i) 0 (λ e. omega (arith, e))) refl in
    subst (StandsFor place (regs (a0 + i))) (sym is.is)
    (record { word = subst (λ w. w < 2 ^ 32) reads (words (a0 + i)); means = refl })
