-- The starts of two images that agree outside a set of compartments are alike there.
use Rattle.sc_image.proofs.Common.{Bool, ByteMemory, CompPart, ImageParts, IsWellFormed, List, None, Option, Running}
use Rattle.sc_image.proofs.Common.{Some, Span, [], ap, are_data, arith, byte_at, comp_of_data, data_of, data_with}
use Rattle.sc_image.proofs.Common.{false, gate, has_heap, if◌then◌else◌, initial_globals, inl, inr, is_some, length}
use Rattle.sc_image.proofs.Common.{map, nat_eq, ne_eqb, option_and_then, option_map_or, own, refl, replicate}
use Rattle.sc_image.proofs.Common.{slice_get, slice_index, stack_top, stack_tops, start, subst, suc, sym, true, zero}
use Rattle.sc_image.proofs.Common.{ℕ, ◌∙◌, ◌∷◌, ◌≡◌, ◌⊎◌}
unfoldable use Rattle.sc_image.proofs.Common.{start_memory}
use Rattle.std.proofs.Common.{slice_index_or}
use Rattle.std.proofs.lemmas.Bool.{cases_eq}
use Rattle.sc_image.specs.Apart.{AgreeBut, AlikeBut}
use Rattle.sc_image.proofs.Agree.{data_agree, heap_agree}
use Rattle.sc_image.proofs.Memory.{data_bounds}

-- Stacks and zones, by how many compartments there are.

tops_same : (c : ℕ) (comps others : List CompPart) → length comps ≡ length others →
    stack_tops c comps ≡ stack_tops c others
tops_same c [] [] same = refl
tops_same c [] (x ∷ xs) same = absurd (omega (arith, same))
tops_same c (x ∷ xs) [] same = absurd (omega (arith, same))
tops_same c (x ∷ xs) (y ∷ ys) same = ap (λ tops. stack_top c ∷ tops) (tops_same (suc c) xs ys (omega (arith, same)))

abbrev no_blocks : List CompPart → List (List Span)
no_blocks comps = map (λ comp. []) comps

zones_same : (comps others : List CompPart) → length comps ≡ length others → no_blocks comps ≡ no_blocks others
zones_same [] [] same = refl
zones_same [] (x ∷ xs) same = absurd (omega (arith, same))
zones_same (x ∷ xs) [] same = absurd (omega (arith, same))
zones_same (x ∷ xs) (y ∷ ys) same = ap (λ zones. [] ∷ zones) (zones_same xs ys (omega (arith, same)))

-- The memory of a compartment, by what the image says of its data.

abbrev byte_of_data : (c : ℕ) → (there : Bool) → (globals : List ℕ) → (heap : Bool) → ByteMemory
byte_of_data c there globals heap address = if there then byte_at (data_with c globals heap) address else None

-- whether there is such a compartment
abbrev has_comp : List CompPart → ℕ → Bool
has_comp comps c = is_some (slice_get comps c)

there_same : (comps others : List CompPart) (c : ℕ) → length comps ≡ length others →
    has_comp comps c ≡ has_comp others c
there_same [] [] c same = refl
there_same [] (x ∷ xs) c same = absurd (omega (arith, same))
there_same (x ∷ xs) [] c same = absurd (omega (arith, same))
there_same (x ∷ xs) (y ∷ ys) zero same = refl
there_same (x ∷ xs) (y ∷ ys) (suc c) same = there_same xs ys c (omega (arith, same))

memory_by : (c : ℕ) (found : Option CompPart) (address : ℕ) →
    option_and_then (λ comp. byte_at (data_with c comp.globals comp.heap) address) found ≡
    byte_of_data c (is_some found) (option_map_or (λ comp. comp.globals) found [])
    (option_map_or (λ comp. comp.heap) found false) address
memory_by c None address = refl
memory_by c (Some comp) address = refl

memory_at : (image : ImageParts) (c address : ℕ) → comp_of_data address ≡ c → start_memory image address ≡
    byte_of_data c (has_comp image.comps c) (initial_globals image c) (has_heap image c) address
unfolding start_memory
memory_at image c address of =
    subst (λ d. option_and_then (λ comp. byte_at (data_with (comp_of_data address) comp.globals comp.heap) address)
    (slice_get image.comps (comp_of_data address)) ≡
    byte_of_data d (has_comp image.comps d) (initial_globals image d) (has_heap image d) address) of
    (memory_by (comp_of_data address) (slice_get image.comps (comp_of_data address)) address)

-- the registers and the pc at the start
abbrev started_at : (main entry : ℕ) → Running
started_at main entry = record { regs = 0 ∷ gate ∷ stack_top main ∷ replicate 29 0; pc = entry }

abbrev started : ImageParts → Running
started image = started_at image.main image.entry

module _ (set : ℕ → Bool) (one other : ImageParts) (formed : IsWellFormed one) (formed' : IsWellFormed other)
    (agree : AgreeBut set one other) where
  module _ (c : ℕ) (out : set c ≡ false) where
    byte_same : (address : ℕ) → are_data one c address 1 ≡ true →
        start_memory one address ≡ start_memory other address
    byte_same address mine =
        let bounds = data_bounds one c address 1 formed (omega arith) mine in
        let of : comp_of_data address ≡ c = omega (arith, bounds.0, bounds.1) in
        let there = there_same one.comps other.comps c agree.count in
        let globals = agree.globals c out in
        let heap = heap_agree c one other formed formed' (agree.others c out) in
        let same : byte_of_data c (has_comp one.comps c) (initial_globals one c) (has_heap one c) address ≡
        byte_of_data c (has_comp other.comps c) (initial_globals other c) (has_heap other c) address =
        λ i. byte_of_data c (there i) (globals i) (heap i) address in
        memory_at one c address of ∙ same ∙ sym (memory_at other c address of)

    byte_by : (address : ℕ) (mine : Bool) → are_data one c address 1 ≡ mine →
        (if mine then start_memory one address else None) ≡ (if mine then start_memory other address else None)
    byte_by address true is = byte_same address is
    byte_by address false is = refl

    data_same : data_of one c (start_memory one) ≡ data_of other c (start_memory other)
    data_same =
        let bytes : data_of one c (start_memory one) ≡ data_of one c (start_memory other) =
        λ i address. byte_by address (are_data one c address 1) refl i in
        bytes ∙ data_agree c one other (agree.others c out) (start_memory other)

    entry_same : one.main ≡ c → one.entry ≡ other.entry
    entry_same main = agree.entry (ap set main ∙ out)

    runs_by : (one.main ≡ c) ⊎ (one.main ≡ c → ⊥) →
        (if nat_eq one.main c then Some (started one) else None) ≡
        (if nat_eq other.main c then Some (started other) else None)
    runs_by (inl main) =
        let entry = entry_same main in
        λ i. if nat_eq (agree.main i) c then Some (started_at (agree.main i) (entry i)) else None
    runs_by (inr differ) = rw (ne_eqb one.main c differ, ne_eqb other.main c (λ same. differ (agree.main ∙ same))) refl

    own_same : own one (start one) c ≡ own other (start other) c
    own_same =
        let zones = zones_same one.comps other.comps agree.count in
        let tops = tops_same 0 one.comps other.comps agree.count in
        let runs = runs_by (cases_eq one.main c) in
        λ i. record {
          bytes = data_same i;
          zone = slice_index_or (zones i) c [];
          saved = slice_index (tops i) c;
          calls = [];
          running = runs i;
        }

  pub start_alike : AlikeBut set one other (start one) (start other)
  start_alike = record { trace = refl; active = agree.main; others = own_same }
