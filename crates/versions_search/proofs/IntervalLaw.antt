-- Whether a block is available, and the first that is in an interval of blocks, step by step as the code goes. Assumes nothing.
use mathlib.Core.Path.{◌≡◌, refl, ap, ap₂, sym, ◌∙◌}
use mathlib.Core.Bool.{Bool, true, false, not, cond}
use Rattle.std.specs.Prelude.{Option, Some, None, IfSome, option_map}
use Rattle.std.specs.Option.{unwrap_or}
use Rattle.std.specs.List.{find, range_with_len}
use Rattle.std.proofs.lemmas.Option.{same_Some, none-some}
use mathlib.Core.List.{List, [], ◌∷◌}
use Prim.Native.Nat.{ℕ, zero, suc, ◌+◌, ◌-◌, ◌≤◌, ◌<◌}
use native.Mathlib.Omega.{arith}
use lib.ListN.{length}
use lib.Dec.{eqb}
use Rattle.lockpage.specs.Geometry.{Geometry}
use Rattle.lockpage.specs.State.{state}
use Rattle.machine.specs.Command.{Box}
use Rattle.machine.specs.Tag.{current_entry}
use Rattle.versions_machine.specs.Allocation.{is_free, is_available, blocks_from, those, first_that}

-- ---- whether a block is available

module _ (γ : Geometry) (s : Box) (now reserve a : ℕ) where
  pub available_free : is_free (state now (current_entry γ s a)) ≡ true → not (eqb a reserve) ≡ is_available γ s now reserve a
  unfolding is_available
  available_free h = rw (is_available, h)

  pub not_available : (x : Bool) → x ≡ is_free (state now (current_entry γ s a)) → x ≡ false → x ≡ is_available γ s now reserve a
  unfolding is_available
  not_available x h e = rw (is_available, sym h ∙ e) e

-- ---- the first block that passes a test

-- as the code goes through them
blocks_range : (a n : ℕ) → blocks_from a n ≡ range_with_len a n
unfolding blocks_from
blocks_range a zero = refl
blocks_range a (suc n) = ap (λ (l : List ℕ). a ∷ l) (blocks_range (a + 1) n)

pub first_found : (test : ℕ → Bool) (l : List ℕ) (other : ℕ) → first_that test l other ≡ unwrap_or (find test l) other
unfolding first_that
first_found test [] other = refl
first_found test (a ∷ l) other = go (first_found test l other) (test a)
  where
    go : first_that test l other ≡ unwrap_or (find test l) other → (b : Bool)
        → elim b [ true ↦ a | false ↦ first_that test l other ] ≡ unwrap_or (cond b (Some a) (find test l)) other
    go more true = refl
    go more false = more

-- ---- what a search of an interval has found

-- how many of an interval pass the test
abbrev pub passing : (ℕ → Bool) → ℕ → ℕ → ℕ
passing test from end = length (those test (blocks_from from (end - from)))

-- of n blocks, up to the end, r is the first that passes: the others stand behind it
pub record FirstOf (test : ℕ → Bool) (n from end r : ℕ) : Type 0 where
  pub below : r < end
  pub passing : length (those test (blocks_from from n)) ≡ 1 + passing test (r + 1) end

module _ (test : ℕ → Bool) where
  hit_of : (n from end r : ℕ) → from + n ≡ end → find test (blocks_from from n) ≡ Some r → FirstOf test n from end r
  unfolding blocks_from those
  hit_of zero from end r e f = absurd (none-some r f)
  hit_of (suc n) from end r e f = go (hit_of n (from + 1) end r (omega arith)) (test from) refl f
    where
      go : (find test (blocks_from (from + 1) n) ≡ Some r → FirstOf test n (from + 1) end r) → (b : Bool) → test from ≡ b
          → cond b (Some from) (find test (blocks_from (from + 1) n)) ≡ Some r → FirstOf test (suc n) from end r
      go more true t f =
          let same = same_Some from r f in
          let left : n ≡ end - (r + 1) = omega arith in
          record {
            below = omega arith;
            passing = rw t (ap₂ (λ (k j : ℕ). suc (length (those test (blocks_from (k + 1) j)))) same left ∙ omega arith);
          }
      go more false t f = let later = more f in record { below = later.below; passing = rw t later.passing }

  miss_of : (n from : ℕ) → find test (blocks_from from n) ≡ None → length (those test (blocks_from from n)) ≡ 0
  unfolding blocks_from those
  miss_of zero from f = refl
  miss_of (suc n) from f = go (miss_of n (from + 1)) (test from) refl f
    where
      go : (find test (blocks_from (from + 1) n) ≡ None → length (those test (blocks_from (from + 1) n)) ≡ 0) → (b : Bool) → test from ≡ b
          → cond b (Some from) (find test (blocks_from (from + 1) n)) ≡ None → length (those test (blocks_from from (suc n))) ≡ 0
      go more true t f = absurd (none-some from (sym f))
      go more false t f = rw t (more f)

  -- of an interval
  pub hit : (from end r : ℕ) → from ≤ end → find test (blocks_from from (end - from)) ≡ Some r → FirstOf test (end - from) from end r
  hit from end r h f = hit_of (end - from) from end r (omega arith) f

  pub miss : (from end : ℕ) → find test (blocks_from from (end - from)) ≡ None → passing test from end ≡ 0
  miss from end f = miss_of (end - from) from f

-- as `find` answers
pub searched : (test : ℕ → Bool) (from end : ℕ) (o : Option ℕ) → option_map (λ x. x) o ≡ find test (range_with_len from (end - from))
    → o ≡ find test (blocks_from from (end - from))
searched test from end o e = same o ∙ e ∙ ap (find test) (sym (blocks_range from (end - from)))
  where
    same : (o : Option ℕ) → o ≡ option_map (λ x. x) o
    same None = refl
    same (Some r) = refl

pub below_end : (test : ℕ → Bool) (from end : ℕ) (o : Option ℕ) → from ≤ end → o ≡ find test (blocks_from from (end - from))
    → IfSome o (λ r. r < end)
below_end test from end None h e = tt
below_end test from end (Some r) h e = (hit test from end r h (sym e)).below
