-- The code of a compartment that can be linked, by its exports, its section and its codes: how long it is, what stands
-- where in it, and that it consists of instructions that there are.
use Rattle.sc_linker.proofs.Common.{Addresses, All, All-append, All-cons, All-nil, CodeTree, Function, Instr, IsInstr}
use Rattle.sc_linker.proofs.Common.{IsWhole, List, None, Proto, Relocation, Some, TypedSection, [], arith, code_start}
use Rattle.sc_linker.proofs.Common.{entry_address, entry_jump, entry_jumps, function_address, instructions, length}
use Rattle.sc_linker.proofs.Common.{length-append, linked, linked_codes, lit<, place_named, refl, section_addresses}
use Rattle.sc_linker.proofs.Common.{slice_get, slice_get_within, stretch, subst, suc, sym, take, ℕ, ◌%◌, ◌*◌, ◌++◌, ◌+◌}
use Rattle.sc_linker.proofs.Common.{◌<◌, ◌^◌, ◌∙◌, ◌∷◌, ◌≡◌, ◌≤◌}
use Rattle.sc_linker.proofs.Codes.{codes_length, instr_at, jump_at, jumps_length}
use Rattle.sc_linker.proofs.Instrs.{AllReach, IsWithin, Reaches, from_instrs, jump_reaches}
use Rattle.sc_linker.proofs.Places.{all_from, all_here, get_after, get_before, there, total_upto}

-- it refers to functions of the section
abbrev pub RefersTo : ℕ → CodeTree → Type 0
RefersTo functions code =
    (i : ℕ) (r : Relocation) → slice_get code.relocations i ≡ Some r → (n : ℕ) → r.target ≡ Function n → n < functions

module _ (c : ℕ) (exports : List Proto) (section : TypedSection) (cs : List CodeTree) where
  abbrev pub addresses : Addresses
  addresses = section_addresses c (length exports) section cs

  abbrev pub jumps : List Instr
  jumps = entry_jumps addresses c 0 section exports

  abbrev pub bodies : List Instr
  bodies = linked_codes addresses (entry_address c (length exports)) cs

  pub code_length : length (jumps ++ bodies) ≡ length exports + instructions cs
  code_length =
      omega (
        arith,
        length-append jumps bodies,
        jumps_length addresses c 0 section exports,
        codes_length addresses (entry_address c (length exports)) cs,
      )

  pub jump_there : (i : ℕ) (proto : Proto) → slice_get exports i ≡ Some proto →
      slice_get (jumps ++ bodies) i ≡ Some (entry_jump addresses c i section proto)
  jump_there i proto is =
      get_before jumps bodies i (entry_jump addresses c i section proto)
      (jump_at addresses c 0 i section exports i proto (omega arith) is)

  pub instr_there : (n : ℕ) (code : CodeTree) (i : ℕ) (instr : Instr) → slice_get cs n ≡ Some code →
      slice_get (linked addresses (addresses.function n) code) i ≡ Some instr →
      slice_get (jumps ++ bodies) (length exports + instructions (take n cs) + i) ≡ Some instr
  instr_there n code i instr is at =
      get_after jumps bodies (instructions (take n cs) + i) (length exports + instructions (take n cs) + i)
      (omega (arith, jumps_length addresses c 0 section exports))
      ∙ instr_at addresses (entry_address c (length exports)) (addresses.function n) cs n code i
      (instructions (take n cs) + i) instr (omega arith) refl is at

  -- what it takes to be linked
  pub record CanLink : Type 0 where
    pub short : 4 * (length exports + instructions cs) ≤ stretch
    pub counted : length cs ≡ length section.functions
    pub whole : All IsWhole cs
    pub inside : All (RefersTo (length section.functions)) cs
    pub named : (i : ℕ) (proto : Proto) → slice_get exports i ≡ Some proto →
        (n : ℕ) × (place_named proto.name (Some section) ≡ Some n) × (n < length section.functions)

  module _ (can : CanLink) where
    pub function_within : (n : ℕ) → n < length section.functions → IsWithin (code_start c) (addresses.function n)
    function_within n within =
        let one = there cs n (omega (arith, within, can.counted)) in
        let some = (all_here IsWhole cs can.whole n one.0 one.1).rules.some in
        let upto : instructions (take n cs) + length one.0.instrs ≤ instructions cs =
        total_upto (λ (code : CodeTree). length code.instrs) cs n one.0 one.1 in
        record {
          from = omega arith;
          inside = omega (arith, some, upto, can.short);
          aligned = omega arith;
        }

    reach_all : (code : CodeTree) → RefersTo (length section.functions) code →
        AllReach addresses (code_start c) code.relocations
    reach_all code refers =
        all_from (λ (r : Relocation). Reaches addresses (code_start c) (Some r.target)) code.relocations
        (λ i r is n e. function_within n (refers i r is n (by r n e))) where
          by : (r : Relocation) (n : ℕ) → Some r.target ≡ Some (Function n) → r.target ≡ Function n
          by r n e = cc

    codes_instrs : (rest : List CodeTree) (address : ℕ) → code_start c ≤ address → address % 4 ≡ 0 →
        address + 4 * instructions rest ≤ code_start c + 2 ^ 20 → All IsWhole rest →
        All (RefersTo (length section.functions)) rest → All IsInstr (linked_codes addresses address rest)
    codes_instrs [] address from aligned fits whole inside = All-nil IsInstr
    codes_instrs (code ∷ rest) address from aligned fits whole inside =
        All-append IsInstr (linked addresses address code)
        (linked_codes addresses (address + 4 * length code.instrs) rest)
        (from_instrs addresses (code_start c) address 0 None code.instrs code.relocations from
        (omega (arith, fits)) aligned
        (reach_all code (all_here (RefersTo (length section.functions)) (code ∷ rest) inside 0 code refl))
        (all_here IsWhole (code ∷ rest) whole 0 code refl).instrs)
        (codes_instrs rest (address + 4 * length code.instrs) (omega (arith, from)) (omega (arith, aligned))
        (omega (arith, fits)) (λ i d h. whole (suc i) d (omega (arith, h)))
        (λ i d h. inside (suc i) d (omega (arith, h))))

    -- the jump at an entry reaches its function
    pub entry_instr : (i : ℕ) (proto : Proto) → slice_get exports i ≡ Some proto →
        IsInstr (entry_jump addresses c i section proto)
    entry_instr i proto is =
        let to = can.named i proto is in
        let function : IsWithin (code_start c) (function_address addresses (place_named proto.name (Some section))) =
        subst (λ o. IsWithin (code_start c) (function_address addresses o)) (sym to.1) (function_within to.0 to.2) in (
          lit< tt,
          jump_reaches (code_start c) _ (entry_address c i) function
              (record {
                from = omega arith;
                inside = omega (arith, can.short, slice_get_within exports i proto is);
                aligned = omega arith;
              }),
        )

    jumps_instrs : (k : ℕ) (protos : List Proto) →
        ((i : ℕ) (proto : Proto) → slice_get protos i ≡ Some proto →
        IsInstr (entry_jump addresses c (k + i) section proto)) →
        All IsInstr (entry_jumps addresses c k section protos)
    jumps_instrs k [] each = All-nil IsInstr
    jumps_instrs k (proto ∷ protos) each =
        All-cons IsInstr (entry_jump addresses c k section proto) (entry_jumps addresses c (suc k) section protos)
        (let e : k + 0 ≡ k = omega arith in
        subst (λ n. IsInstr (entry_jump addresses c n section proto)) e (each 0 proto refl))
        (jumps_instrs (suc k) protos (λ i p is. let e : k + suc i ≡ suc k + i = omega arith in
        subst (λ n. IsInstr (entry_jump addresses c n section p)) e (each (suc i) p is)))

    pub code_instrs : All IsInstr (jumps ++ bodies)
    code_instrs =
        All-append IsInstr jumps bodies
        (jumps_instrs 0 exports (λ i proto is. let e : i ≡ 0 + i = omega arith in
        subst (λ n. IsInstr (entry_jump addresses c n section proto)) e (entry_instr i proto is)))
        (codes_instrs cs (entry_address c (length exports)) (omega arith) (omega arith) (omega (arith, can.short))
        can.whole can.inside)
