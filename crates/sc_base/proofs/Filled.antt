-- An array that was filled with a name holds that name and nothing else.
use Rattle.sc_base.proofs.Common.{IsFilled, IsTrue, List, [], ap, arith, drop, drop-replicate, filled, is_name, length}
use Rattle.sc_base.proofs.Common.{length-append, replicate, subst, sym, true, zeros_after, ℕ, ◌++◌, ◌∙◌, ◌∷◌, ◌≡◌, ◌≤◌}
use Rattle.std.proofs.Math.Seq.{take-append_seam, drop-append_seam}
use Rattle.std.proofs.lemmas.Bool.Decides.{nat_tests}

pub name_is_short : (text : List ℕ) → is_name text ≡ true → length text ≤ 63
unfolding is_name
name_is_short [] named = omega arith
name_is_short (first ∷ rest) named = grind (arith, nat_tests)

pub filled_is : (text : List ℕ) → is_name text ≡ true → IsFilled (length text) (filled text)
filled_is text named = record {
  prefix = subst (λ prefix. IsTrue (is_name prefix)) (sym (take-append_seam text (zeros_after (length text))))
      (search named);
  following = drop-append_seam text (zeros_after (length text));
  within = omega (arith, length-append text (zeros_after (length text)));
}

-- a text copied over the start of zeros
pub copied_over : (text blank : List ℕ) → blank ≡ replicate 63 0 → text ++ drop (length text) blank ≡ filled text
copied_over text blank is = ap (λ all. text ++ drop (length text) all) is ∙
    ap (λ rest. text ++ rest) (drop-replicate {X = ℕ} (length text) 63 0)

pub ruleset names = (name_is_short, filled_is)

pub ruleset arrays = (copied_over)
