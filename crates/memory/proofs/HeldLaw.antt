-- Laws of the group that a byte of the memory names as held. Assumes nothing.
use mathlib.Core.Path.{◌≡◌, refl}
use mathlib.Core.Bool.{Bool, true, false}
use Prim.Native.Nat.{ℕ}
use borrow.Author.Tests.{eqb-true, eqb-false}
use lib.Dec.{eqb}
use Rattle.std.specs.Prelude.{Option, None, Some}
use Rattle.memory.specs.Memory.{none, group_held}

-- b says whether n names no group
abbrev named : Bool → ℕ → Option ℕ
named b n = elim b [ true ↦ None | false ↦ Some n ]

pub group_held_none : (n : ℕ) → group_held n ≡ None → n ≡ none
unfolding group_held
group_held_none n = go (eqb n none) refl
  where
    go : (b : Bool) → eqb n none ≡ b → named b n ≡ None → n ≡ none
    go true h e = eqb-true n none h
    go false h e = cc

pub group_held_some : (n g : ℕ) → group_held n ≡ Some g → (n ≡ g) × (n ≡ none → ⊥)
unfolding group_held
group_held_some n g = go (eqb n none) refl
  where
    go : (b : Bool) → eqb n none ≡ b → named b n ≡ Some g → (n ≡ g) × (n ≡ none → ⊥)
    go true h e = cc
    go false h e = (cc, eqb-false n none h)
