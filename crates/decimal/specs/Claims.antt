-- What is claimed of a number's text. The claims are types; their proofs are proofs/Theorems.antt.
use Rattle.std.specs.Prelude.{◌≡◌, ℕ, ◌^◌, ◌≤◌, ◌<◌, length}
use Rattle.decimal.specs.Decimal.{decimal, spelled}

pub record Text : Type 0 where
  -- the text spells the number
  pub read_back : (n : ℕ) → spelled (decimal n) ≡ n
  -- a number below 10 ^ k has at most k digits
  pub size : (k n : ℕ) → 1 ≤ k → n < 10 ^ k → length (decimal n) ≤ k
