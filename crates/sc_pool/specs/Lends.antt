-- What a pool ends as, where the bytes of one of its pages are lent.
use Rattle.std.specs.Prelude.{ℕ, List}
use Rattle.std.specs.Borrow.{Lends, MutBor, Fml, Array, u8}
use Rattle.sc_pool.specs.Pages.{Pages, with_page}
use Rattle.sc_pool.specs.contracts.pool.Pool.{the_row}

-- the page has the last bytes that were written through r
abbrev pub LendsPage : MutBor Pages → ℕ → MutBor (List ℕ) → Fml
LendsPage s number r = Lends the_row (Array u8 4096) s r (with_page s.now number)
