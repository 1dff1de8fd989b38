-- The values of one event more are words.
use Rattle.sc_chain.proofs.Common.{Event, HasWords, List, ap, arith, cases_lt, get_or_read_under, length, refl}
use Rattle.sc_chain.proofs.Common.{slice_index_or, subst, sym, ℕ, ⊎_elim, ◌+◌, ◌<◌, ◌∙◌, ◌≡◌}

-- the first events have words
abbrev pub FirstHave : List Event → (count : ℕ) → Type 0
FirstHave events count = (k : ℕ) (d : Event) → k < count → HasWords (slice_index_or events k d)

pub one_more : (events : List Event) (i : ℕ) (x : Event) → i < length events → x ≡ slice_index_or events i x →
    HasWords x → FirstHave events i → FirstHave events (i + 1)
one_more events i x within is words so_far k d below =
    ⊎_elim (λ less. so_far k d less) (λ le.
    (let same : k ≡ i = omega (arith, le, below) in
    subst HasWords (get_or_read_under events i (length events) x d is within refl ∙
    ap (λ n. slice_index_or events n d) (sym same)) words)) (cases_lt k i)
