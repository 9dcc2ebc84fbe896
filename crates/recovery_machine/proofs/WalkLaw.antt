-- The walk ends: each block that it goes on at is one of the range that was not walked before, so that fewer are left. Assumes nothing.
use mathlib.Core.Path.{◌≡◌, refl, ap, sym, ◌∙◌}
use mathlib.Core.Bool.{Bool, true, false, ◌&&◌, ◌||◌, not, false≢true}
use mathlib.Mathlib.Data.Bool.Basic.{and_elim_left, and_elim_right}
use mathlib.Core.Logic.{⊎_elim}
use mathlib.Core.List.{List, [], ◌∷◌, any}
use Prim.Native.Nat.{ℕ, zero, suc, ◌+◌, ◌≤◌, ◌<◌}
use native.Mathlib.Omega.{arith}
use borrow.Author.Tests.{leb-true, ltb-true, eq-eqb}
use lib.ListN.{length}
use lib.Dec.{eqb, leb, ltb}
use Rattle.lockpage.specs.Geometry.{Geometry}
use Rattle.lockpage.specs.State.{state}
use Rattle.machine.specs.Command.{Box}
use Rattle.machine.specs.Tag.{current_entry}
use Rattle.machine.proofs.ListedLaw.{any_cons}
use Rattle.versions_machine.specs.Versions.{Range}
use Rattle.versions_machine.specs.Log.{pointer_read}
use Rattle.versions_machine.specs.Allocation.{is_free, blocks_from, blocks_of, those}
use Rattle.versions_machine.proofs.AllocationLaw.{In, in_from}
use Rattle.recovery_machine.specs.Walk.{is_in_range, written_at, content_of, is_kept, goes_on, walk_from, walk}

-- ---- how many pass a test

-- a narrower test lets fewer pass
fewer : (wide narrow : ℕ → Bool) (l : List ℕ) → ((b : ℕ) → narrow b ≡ true → wide b ≡ true) → length (those narrow l) ≤ length (those wide l)
unfolding those
fewer wide narrow [] h = omega arith
fewer wide narrow (x ∷ l) h = go (wide x) (narrow x) refl refl (fewer wide narrow l h)
  where
    go : (a b : Bool) → wide x ≡ a → narrow x ≡ b → length (those narrow l) ≤ length (those wide l)
        → length {A = ℕ} (elim b [ true ↦ x ∷ those narrow l | false ↦ those narrow l ])
        ≤ length {A = ℕ} (elim a [ true ↦ x ∷ those wide l | false ↦ those wide l ])
    go true true d e r = omega arith
    go true false d e r = omega arith
    go false true d e r = absurd (false≢true (sym d ∙ h x e))
    go false false d e r = r

-- and one less at least, where it stops one that the other lets pass
fewer_by_one : (wide narrow : ℕ → Bool) (l : List ℕ) (a : ℕ) → ((b : ℕ) → narrow b ≡ true → wide b ≡ true) → In a l → wide a ≡ true → narrow a ≡ false
    → length (those narrow l) < length (those wide l)
unfolding those
fewer_by_one wide narrow [] a h i p q = absurd i
fewer_by_one wide narrow (x ∷ l) a h i p q = go (wide x) (narrow x) refl refl (fewer wide narrow l h) (λ j. fewer_by_one wide narrow l a h j p q)
  where
    go : (c b : Bool) → wide x ≡ c → narrow x ≡ b → length (those narrow l) ≤ length (those wide l)
        → (In a l → length (those narrow l) < length (those wide l))
        → length {A = ℕ} (elim b [ true ↦ x ∷ those narrow l | false ↦ those narrow l ])
        < length {A = ℕ} (elim c [ true ↦ x ∷ those wide l | false ↦ those wide l ])
    go true true d e r s = ⊎_elim (λ y. absurd (false≢true (sym q ∙ ap narrow y ∙ e))) (λ j. omega (arith, s j)) i
    go true false d e r s = omega arith
    go false true d e r s = absurd (false≢true (sym d ∙ h x e))
    go false false d e r s = ⊎_elim (λ y. absurd (false≢true (sym d ∙ ap wide (sym y) ∙ p))) s i

all_pass : (test : ℕ → Bool) (a n : ℕ) → length (those test (blocks_from a n)) ≤ n
unfolding those blocks_from
all_pass test a zero = omega arith
all_pass test a (suc n) = go (test a) (all_pass test (a + 1) n)
  where
    go : (b : Bool) → length (those test (blocks_from (a + 1) n)) ≤ n
        → length {A = ℕ} (elim b [ true ↦ a ∷ those test (blocks_from (a + 1) n) | false ↦ those test (blocks_from (a + 1) n) ]) ≤ suc n
    go true h = omega arith
    go false h = omega arith

-- ---- blocks walked

-- whether a block is not walked
abbrev is_new : List ℕ → ℕ → Bool
is_new walked b = not (any walked (eqb b))

new_walked : (walked : List ℕ) (a b : ℕ) → is_new (a ∷ walked) b ≡ true → is_new walked b ≡ true
new_walked walked a b h = go (eqb b a) (any walked (eqb b)) (sym (ap not (any_cons (eqb b) a walked)) ∙ h)
  where
    go : (x y : Bool) → not (x || y) ≡ true → not y ≡ true
    go true y e = absurd (false≢true e)
    go false y e = e

not_new : (walked : List ℕ) (a : ℕ) → is_new (a ∷ walked) a ≡ false
not_new walked a = ap not (any_cons (eqb a) a walked ∙ ap (λ (b : Bool). b || any walked (eqb a)) (eq-eqb a a refl))

module _ (γ : Geometry) (ρ : Range) (s : Box) (point now : ℕ) where
  -- ---- what the walk goes on at

  pub kept_range : (a : ℕ) → is_kept γ ρ s point now a ≡ true → (ρ.first ≤ a) × (a < ρ.first + ρ.number)
  unfolding is_kept
  kept_range a h =
      let rest = not (is_free (state now (current_entry γ s a))) && leb (written_at γ s a) point in
      let both = and_elim_left (is_in_range ρ a) rest h in (
        leb-true ρ.first a (and_elim_left (leb ρ.first a) (ltb a (ρ.first + ρ.number)) both),
        ltb-true a (ρ.first + ρ.number) (and_elim_right (leb ρ.first a) (ltb a (ρ.first + ρ.number)) both),
      )

  abbrev rest : List ℕ → ℕ → ℕ → Bool
  rest walked parent a = leb parent (written_at γ s a) && is_new walked a

  goes_kept : (walked : List ℕ) (parent a : ℕ) → goes_on γ ρ s point now walked parent a ≡ true → is_kept γ ρ s point now a ≡ true
  unfolding goes_on
  goes_kept walked parent a h = and_elim_left (is_kept γ ρ s point now a) (rest walked parent a) h

  goes_new : (walked : List ℕ) (parent a : ℕ) → goes_on γ ρ s point now walked parent a ≡ true → is_new walked a ≡ true
  unfolding goes_on
  goes_new walked parent a h =
      and_elim_right (leb parent (written_at γ s a)) (is_new walked a) (and_elim_right (is_kept γ ρ s point now a) (rest walked parent a) h)

  -- ---- the blocks left

  abbrev unwalked : List ℕ → List ℕ
  unwalked walked = those (is_new walked) (blocks_of ρ)

  fewer_left : (walked : List ℕ) (parent a : ℕ) → goes_on γ ρ s point now walked parent a ≡ true → length (unwalked (a ∷ walked)) < length (unwalked walked)
  fewer_left walked parent a h =
      let in_range = kept_range a (goes_kept walked parent a h) in
      fewer_by_one (is_new walked) (is_new (a ∷ walked)) (blocks_of ρ) a (new_walked walked a)
      (in_from ρ.first ρ.number a in_range.0 in_range.1) (goes_new walked parent a h) (not_new walked a)

  -- with as many steps as there are blocks left, more make no difference
  enough : (walked : List ℕ) (parent a n m : ℕ) → length (unwalked walked) ≤ n → n ≤ m
      → walk_from γ ρ s point now walked parent a m ≡ walk_from γ ρ s point now walked parent a n
  unfolding walk_from
  enough walked parent a zero zero h l = refl
  enough walked parent a zero (suc m) h l = go (goes_on γ ρ s point now walked parent a) refl
    where
      more : List ℕ
      more = walk_from γ ρ s point now (a ∷ walked) (written_at γ s a) (pointer_read γ (content_of γ s a)) m

      go : (b : Bool) → goes_on γ ρ s point now walked parent a ≡ b → ◌≡◌ {A = List ℕ} (elim b [ true ↦ a ∷ more | false ↦ [] ]) []
      go true e = absurd (omega (arith, fewer_left walked parent a e))
      go false e = refl
  enough walked parent a (suc n) zero h l = absurd (omega arith)
  enough walked parent a (suc n) (suc m) h l =
      go (goes_on γ ρ s point now walked parent a) refl
      (λ f. enough (a ∷ walked) (written_at γ s a) (pointer_read γ (content_of γ s a)) n m f (omega arith))
    where
      next : ℕ → List ℕ
      next k = walk_from γ ρ s point now (a ∷ walked) (written_at γ s a) (pointer_read γ (content_of γ s a)) k

      go : (b : Bool) → goes_on γ ρ s point now walked parent a ≡ b → (length (unwalked (a ∷ walked)) ≤ n → next m ≡ next n)
          → ◌≡◌ {A = List ℕ} (elim b [ true ↦ a ∷ next m | false ↦ [] ]) (elim b [ true ↦ a ∷ next n | false ↦ [] ])
      go true e r = ap (λ (l : List ℕ). a ∷ l) (r (omega (arith, fewer_left walked parent a e)))
      go false e r = refl

module _ (γ : Geometry) (ρ : Range) where
  pub walk_ends : (s : Box) (point now n : ℕ) → ρ.number ≤ n → walk_from γ ρ s point now [] 0 ρ.first n ≡ walk γ ρ s point now
  unfolding walk
  walk_ends s point now n h = enough γ ρ s point now [] 0 ρ.first ρ.number n (all_pass (is_new []) ρ.first ρ.number) h
