-- Proofs by two cases. Assumes nothing.
use mathlib.Core.Path.{◌≡◌, refl}
use mathlib.Core.Bool.{Bool, true, false}
use Prim.Native.Nat.{ℕ, ◌≤◌, ◌<◌}
use borrow.Author.Tests.{eqb-true, eqb-false, ltb-true, ltb-false}
use lib.Dec.{eqb, ltb}

-- two numbers are the same or not
pub same_or_not : {P : Type 0} (a b : ℕ) → (a ≡ b → P) → ((a ≡ b → ⊥) → P) → P
same_or_not {P} a b f g = go (eqb a b) refl
  where
    go : (x : Bool) → eqb a b ≡ x → P
    go true e = f (eqb-true a b e)
    go false e = g (eqb-false a b e)

-- a test is true or false
pub true_or_false : {P : Type 0} (b : Bool) → (b ≡ true → P) → (b ≡ false → P) → P
true_or_false true f g = f refl
true_or_false false f g = g refl

-- one is below the other or not
pub below_or_not : {P : Type 0} (a b : ℕ) → (a < b → P) → (b ≤ a → P) → P
below_or_not {P} a b f g = go (ltb a b) refl
  where
    go : (x : Bool) → ltb a b ≡ x → P
    go true e = f (ltb-true a b e)
    go false e = g (ltb-false a b e)
