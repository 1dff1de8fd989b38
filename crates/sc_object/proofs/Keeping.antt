-- Whether the faces keep their rules, as it is found out one by one.
use Rattle.sc_object.proofs.Common.{Bool, Face, List, ap, arith, drop, drop_more, drop_of_length-le, face_keeps}
use Rattle.sc_object.proofs.Common.{faces_keep, false, get_or, length, suc, sym, true, ℕ, ◌&&◌, ◌+◌, ◌<◌, ◌∙◌, ◌∷◌, ◌≡◌}
use Rattle.sc_object.proofs.Common.{◌≤◌}

module _ (all faces : List Face) (c : ℕ) where
  keep_at : (face : Face) → c < length faces → face ≡ get_or faces c face →
      faces_keep all c (drop c faces) ≡ (face_keeps all c face && faces_keep all (c + 1) (drop (c + 1) faces))
  keep_at face within here =
      let next : suc c ≡ c + 1 = omega arith in
      ap (faces_keep all c) (drop_more faces c face within) ∙
      (ap (λ x. faces_keep all c (x ∷ drop (c + 1) faces)) (sym here) ∙
      ap (λ k. face_keeps all c face && faces_keep all k (drop (c + 1) faces)) next)

  pub refused_by : (face : Face) (total keep : Bool) → total ≡ faces_keep all c (drop c faces) →
      c < length faces → face ≡ get_or faces c face → keep ≡ face_keeps all c face → keep ≡ false → false ≡ total
  refused_by face total keep so_far within here is denied =
      sym (so_far ∙ (keep_at face within here ∙ ap (λ b. b && faces_keep all (c + 1) (drop (c + 1) faces))
      (sym is ∙ denied)))

  pub goes_further : (face : Face) (total keep : Bool) → total ≡ faces_keep all c (drop c faces) →
      c < length faces → face ≡ get_or faces c face →
      keep ≡ face_keeps all c face → keep ≡ true → total ≡ faces_keep all (c + 1) (drop (c + 1) faces)
  goes_further face total keep so_far within here is granted = so_far ∙
      (keep_at face within here ∙ ap (λ b. b && faces_keep all (c + 1) (drop (c + 1) faces)) (sym is ∙ granted))

  pub all_kept : (total : Bool) → total ≡ faces_keep all c (drop c faces) → length faces ≤ c → true ≡ total
  all_kept total so_far past = sym (so_far ∙ ap (faces_keep all c) (drop_of_length-le faces past))
