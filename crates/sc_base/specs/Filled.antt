-- Helping: how a name lies in an array of 63 bytes.
use Rattle.std.specs.Prelude.{◌≡◌, ℕ, ◌-◌, ◌≤◌, IsTrue, List, ◌++◌, length, take, drop, replicate}
use Rattle.std.proofs.Common.{sym, ap, ◌∙◌, take-append-drop, length-take-le}
use Rattle.sc_base.specs.Identifier.{is_name}

-- the zeros that follow a name of `len` bytes, in an array of 63
abbrev pub zeros_after : (len : ℕ) → List ℕ
zeros_after len = replicate (63 - len) 0

abbrev pub filled : (text : List ℕ) → List ℕ
filled text = text ++ zeros_after (length text)

-- the first `len` bytes of the array are a name, and the others are zeros
pub record IsFilled (len : ℕ) (bytes : List ℕ) : Type 0 where
  pub prefix : IsTrue (is_name (take len bytes))
  pub following : drop len bytes ≡ zeros_after len
  pub within : len ≤ length bytes

-- the length is that of the prefix
pub prefix_length : (len : ℕ) (bytes : List ℕ) → IsFilled len bytes → length (take len bytes) ≡ len
prefix_length len bytes is = length-take-le len bytes is.within

-- filling an array with its own prefix changes nothing
pub refilled : (len : ℕ) (bytes : List ℕ) → IsFilled len bytes → filled (take len bytes) ≡ bytes
refilled len bytes is =
    ap (λ n. take len bytes ++ zeros_after n) (prefix_length len bytes is) ∙
    ap (λ rest. take len bytes ++ rest) (sym is.following) ∙ take-append-drop len bytes
