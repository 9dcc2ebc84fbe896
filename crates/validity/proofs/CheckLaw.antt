-- The check of the unused counts as the code makes it: zeros in pieces. Assumes nothing.
use mathlib.Core.Path.{◌≡◌, ap, ap₂, sym, subst, ◌∙◌}
use mathlib.Core.Bool.{Bool, true, false, not, false≢true}
use mathlib.Mathlib.Data.Bool.Basic.{eq-true_of_not-eq-false', eq-false_of_not-eq-true'}
use mathlib.Core.List.{List}
use Prim.Native.Nat.{ℕ, ◌+◌, ◌-◌, ◌≤◌}
use native.Mathlib.Omega.{arith}
use Rattle.std.proofs.lemmas.Bool.Decides.{nat_tests}
use Rattle.memory.proofs.HeldLaw.{group_held_none, group_held_some}
use Rattle.octets.specs.Part.{part, repeated, equal}
use Rattle.octets.proofs.RepeatedLaw.{repeated_within, repeated_joined}
use Rattle.octets.proofs.EqualLaw.{equal_true, equal_yes, equal_no, equal_iff}
use Rattle.validity.specs.Valid.{zero_at}

-- a comparison that says no, and one that says yes
not_equal : (r : Bool) (a b : List ℕ) → r ≡ equal a b → not r ≡ true → a ≡ b → ⊥
not_equal r a b e n q = false≢true (sym (eq-false_of_not-eq-true' n) ∙ e ∙ equal_yes a b q)

are_equal : (r : Bool) (a b : List ℕ) → r ≡ equal a b → not r ≡ false → a ≡ b
are_equal r a b e n = equal_true a b (sym e ∙ eq-true_of_not-eq-false' n)

-- ---- zeros in pieces: n elements from place a on, of which k from place b on are compared first

module _ (m : List ℕ) (a n : ℕ) (r : Bool) (b k : ℕ) (place : b ≡ a) (e : r ≡ zero_at m b k) where
  -- another is among them
  pub piece_used : k ≤ n → not r ≡ true → false ≡ zero_at m a n
  piece_used h t =
      let here : a + 0 ≡ b = omega arith in
      sym (equal_no (part m a n) (repeated n 0)
      (λ q. not_equal r (part m b k) (repeated k 0) e t
      (ap (λ (x : ℕ). part m x k) (sym here) ∙ repeated_within m a n 0 k 0 (omega arith) q)))

  -- they are all
  pub piece_all : k ≡ n → r ≡ zero_at m a n
  piece_all h = e ∙ ap₂ (zero_at m) place h

  -- they are zeros, and those from place c on decide
  module _ (t : not r ≡ false) (c l : ℕ) (behind : a ≤ c) (near : c ≤ a + k) (to_end : c + l ≡ a + n) where
    offset : a + (c - a) ≡ c
    offset = omega arith

    total : c - a + l ≡ n
    total = omega arith

    joined : part m c l ≡ repeated l 0 → part m a n ≡ repeated n 0
    joined q =
        let front : part m a k ≡ repeated k 0 = ap (λ (x : ℕ). part m x k) (sym place) ∙ are_equal r (part m b k) (repeated k 0) e t in
        subst (λ (x : ℕ). part m a x ≡ repeated x 0) total
        (repeated_joined m a k (c - a) l 0 (omega arith) front (ap (λ (x : ℕ). part m x l) offset ∙ q))

    last_too : part m a n ≡ repeated n 0 → part m c l ≡ repeated l 0
    last_too q = ap (λ (x : ℕ). part m x l) (sym offset) ∙ repeated_within m a n (c - a) l 0 (omega arith) q

    pub last_decides : (s : Bool) → s ≡ zero_at m c l → s ≡ zero_at m a n
    last_decides s es = es ∙ equal_iff (part m c l) (repeated l 0) (part m a n) (repeated n 0) joined last_too

-- what the check of the held group cites
pub ruleset held_tests = (group_held_some, group_held_none, nat_tests)
