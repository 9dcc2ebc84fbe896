-- Laws of a turn: what a read's answer tells of the step on it, and of whether another turn follows. Assumes nothing.
use mathlib.Core.Path.{◌≡◌, refl, ap, sym, ◌∙◌}
use mathlib.Core.Bool.{true, false}
use mathlib.Core.List.{List, [], ◌∷◌}
use Prim.Native.Nat.{ℕ, zero, suc, ◌<◌, min}
use native.Mathlib.Nat.{zero-min, min-zero, suc-min-suc}
use native.Mathlib.Omega.{arith}
use lib.ListN.{length, take}
use Rattle.std.specs.Prelude.{Option, Some, None}
use Rattle.machine.specs.Command.{Box}
use Rattle.script_printout.specs.declared.Reader.{Reader}
use Rattle.script_printout.specs.Reader.{Placed, fed_of, fed, finished}
use Rattle.script_printout.proofs.PlaceLaw.{nothing_placed}
use Rattle.script_io.specs.Turn.{stepped, is_end}

-- ---- the step

-- n bytes of a piece, or all of them where it has fewer
take_clamped : (n : ℕ) (piece : List ℕ) → take (min n (length piece)) piece ≡ take n piece
take_clamped zero piece = ap (λ (n : ℕ). take n piece) (zero-min (length piece))
take_clamped (suc n) [] = ap (λ (m : ℕ). take m []) (min-zero (suc n))
take_clamped (suc n) (b ∷ piece) = ap (λ (m : ℕ). take m (b ∷ piece)) (suc-min-suc n (length piece)) ∙ ap (λ (l : List ℕ). b ∷ l) (take_clamped n piece)

module _ (r : Reader) (s : Box) (piece out : List ℕ) where
  pub step_failed : stepped r s None piece out ≡ fed_of r None s out
  unfolding stepped
  step_failed = ap (λ (x : Placed). record { taken = false; placed = x }) (sym (nothing_placed r s out))

  pub step_end : stepped r s (Some 0) piece out ≡ finished r s out
  unfolding stepped
  step_end = refl

  pub stepped_some : (n : ℕ) → 0 < n → stepped r s (Some n) piece out ≡ fed r s (take n piece) out
  unfolding stepped
  stepped_some zero h = absurd (omega arith)
  stepped_some (suc k) h = refl

  -- as the code cuts the piece
  pub step_bytes : (n : ℕ) → 0 < n → stepped r s (Some n) piece out ≡ fed r s (take (min n (length piece)) piece) out
  step_bytes n h = stepped_some n h ∙ ap (λ (x : List ℕ). fed r s x out) (sym (take_clamped n piece))

-- ---- the end

pub at_end : is_end (Some 0) ≡ true
unfolding is_end
at_end = refl

pub before_end : (got : Option ℕ) → (got ≡ Some 0 → ⊥) → is_end got ≡ false
unfolding is_end
before_end None n = refl
before_end (Some zero) n = absurd (n refl)
before_end (Some (suc k)) n = refl
