-- Fields of one kind are read one after the other, as a loop does it.
use Rattle.sc_fields.proofs.Common.{Err, Fails, List, Ok, Read, [], ap, append-nil, append_assoc, arith, fields_at}
use Rattle.sc_fields.proofs.Common.{refl, suc, sym, ℕ, ◌++◌, ◌+◌, ◌-◌, ◌<◌, ◌>>=◌, ◌∙◌, ◌∷◌, ◌≡◌, ◌≤◌}
use Rattle.sc_fields.specs.declared.fault.FieldFault.{FieldFault}
use Rattle.sc_fields.specs.declared.fault.FieldFault.TheVariants as faults

-- what was read before, and what is still read
abbrev pub with_prefix : {A C : Type 0} → List A → Read C (List A) → Read C (List A)
with_prefix prefix read = read >>= (λ x. Ok (prefix ++ x.0, x.1))

regroup : {A C : Type 0} (prefix : List A) (x : A) (read : Read C (List A)) →
    with_prefix prefix (read >>= (λ others. Ok (x ∷ others.0, others.1))) ≡ with_prefix (prefix ++ x ∷ []) read
regroup {A} {C} prefix x (Ok others) = ap (λ xs. Ok (xs, others.1)) (simp append_assoc)
regroup prefix x (Err cause) = refl

no_prefix : {A C : Type 0} (read : Read C (List A)) → with_prefix [] read ≡ read
no_prefix (Ok x) = refl
no_prefix (Err cause) = refl

module _ {A C : Type 0} (field : List ℕ → Read C A) (count : ℕ) where
  pub begins : (bytes : List ℕ) → with_prefix [] (fields_at field (count - 0) bytes) ≡ fields_at field count bytes
  begins bytes = let all : count - 0 ≡ count = omega arith in rw all (no_prefix _)

  pub goes_on : (prefix : List A) (i : ℕ) (bytes : List ℕ) (x : A) (after : List ℕ) (total : Read C (List A)) →
      i < count →
      field bytes ≡ Ok (x, after) → with_prefix prefix (fields_at field (count - i) bytes) ≡ total →
      with_prefix (prefix ++ x ∷ []) (fields_at field (count - (i + 1)) after) ≡ total
  unfolding fields_at
  goes_on prefix i bytes x after total lt read so_far =
      let k : count - i ≡ suc (count - (i + 1)) = omega (arith, lt) in
      let one : with_prefix prefix _ ≡ with_prefix _ _ = rw (k, read) (regroup prefix x _) in
      sym one ∙ so_far

  pub ends : (fault : FieldFault C) (prefix : List A) (i : ℕ) (bytes : List ℕ) (total : Read C (List A)) → i < count →
      Fails fault (field bytes) → with_prefix prefix (fields_at field (count - i) bytes) ≡ total → Fails fault total
  unfolding fields_at
  ends faults.OutOfMemory prefix i bytes total lt read so_far = tt
  ends (faults.Bad cause) prefix i bytes total lt read so_far =
      let k : count - i ≡ suc (count - (i + 1)) = omega (arith, lt) in
      let one : with_prefix prefix _ ≡ Err cause = rw (k, read) refl in
      sym so_far ∙ one

  pub is_done : (prefix : List A) (i : ℕ) (bytes : List ℕ) (total : Read C (List A)) → count ≤ i →
      with_prefix prefix (fields_at field (count - i) bytes) ≡ total → total ≡ Ok (prefix, bytes)
  unfolding fields_at
  is_done prefix i bytes total le so_far =
      let k : count - i ≡ 0 = omega (arith, le) in
      let one : with_prefix prefix _ ≡ Ok _ = rw k (ap (λ xs. Ok (xs, bytes)) (append-nil prefix)) in
      sym so_far ∙ one
