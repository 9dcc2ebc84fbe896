-- The number of a kind, as the code matches it. Assumes nothing.
use mathlib.Core.Path.{◌≡◌, refl, ap, sym, ◌∙◌}
use mathlib.Core.List.{◌∷◌}
use Prim.Native.Nat.{ℕ, zero, suc, ◌≤◌}
use native.Mathlib.Omega.{arith}
use lib.ListN.{get_or-eq_default}
use Rattle.machine.specs.declared.Kind.{Kind}
use Rattle.machine.specs.declared.Kind.TheVariants.{Unknown}
use Rattle.machine.specs.Command.{kinds, kind_numbered}

-- the kind of a number that is i
pub numbered : (n i value : ℕ) (k : Kind) → n ≡ i → k ≡ kind_numbered i value → k ≡ kind_numbered n value
numbered n i value k e h = h ∙ ap (λ (j : ℕ). kind_numbered j value) (sym e)

-- no kind has a number above 10, nor 0
above : (n value : ℕ) → 11 ≤ n → Unknown ≡ kind_numbered n value
unfolding kind_numbered
above n value h = sym (get_or-eq_default (Unknown ∷ kinds value) Unknown {n = n} h)

none : (n value : ℕ) → n ≡ 0 → Unknown ≡ kind_numbered n value
unfolding kind_numbered
none n value e = numbered n 0 value Unknown e refl

-- a number from i on that is not i is above it
past : (n i : ℕ) → i ≤ n → (n ≡ i → ⊥) → suc i ≤ n
past n i h other = omega (arith, other)

pub unknown : (n value : ℕ) → (n ≡ 1 → ⊥) → (n ≡ 2 → ⊥) → (n ≡ 3 → ⊥) → (n ≡ 4 → ⊥) → (n ≡ 5 → ⊥) → (n ≡ 6 → ⊥) → (n ≡ 7 → ⊥) → (n ≡ 8 → ⊥)
    → (n ≡ 9 → ⊥) → (n ≡ 10 → ⊥)
    → Unknown ≡ kind_numbered n value
unknown zero value h1 h2 h3 h4 h5 h6 h7 h8 h9 h10 = none zero value refl
unknown (suc m) value h1 h2 h3 h4 h5 h6 h7 h8 h9 h10 =
    let n = suc m in
    let to4 : 5 ≤ n = past n 4 (past n 3 (past n 2 (past n 1 (omega arith) h1) h2) h3) h4 in
    let to7 : 8 ≤ n = past n 7 (past n 6 (past n 5 to4 h5) h6) h7 in
    above n value (past n 10 (past n 9 (past n 8 to7 h8) h9) h10)
