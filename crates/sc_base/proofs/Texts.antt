-- Texts that are compared byte by byte.
use Rattle.sc_base.proofs.Common.{Bool, List, bytes_eq, false, refl, sym, true, true≢false, ℕ, ◌∙◌, ◌≡◌}
use Rattle.std.proofs.lemmas.Slice.Eq.{bytes_eq-Decides}

pub same_text : (a b : List ℕ) → bytes_eq a b ≡ true → a ≡ b
same_text a b e = (bytes_eq-Decides a b).0 e

pub bytes_eq_self : (text : List ℕ) → bytes_eq text text ≡ true
bytes_eq_self text = (bytes_eq-Decides text text).1 refl

pub same_either_way : (a b : List ℕ) → bytes_eq a b ≡ bytes_eq b a
same_either_way a b = go (bytes_eq a b) refl (bytes_eq b a) refl
  where
    go : (x : Bool) → bytes_eq a b ≡ x → (y : Bool) → bytes_eq b a ≡ y → x ≡ y
    go true e true f = refl
    go false e false f = refl
    go true e false f =
        let is : b ≡ a = sym (same_text a b e) in
        absurd (true≢false (sym ((bytes_eq-Decides b a).1 is) ∙ f))
    go false e true f =
        let is : a ≡ b = sym (same_text b a f) in
        absurd (true≢false (sym ((bytes_eq-Decides a b).1 is) ∙ e))
