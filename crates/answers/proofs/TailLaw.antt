-- The answer as the code fills it: what is named, then zeros. Assumes nothing.
use mathlib.Core.Path.{◌≡◌, ap, ◌∙◌}
use mathlib.Core.List.{List, [], ◌++◌}
use Prim.Native.Nat.{ℕ, ◌+◌, ◌-◌, ◌≤◌}
use native.Mathlib.Nat.{zero-add}
use native.Mathlib.Omega.{arith}
use lib.ListN.{length, drop, length-append}
use Rattle.octets.specs.Part.{replaced, repeated}
use Rattle.octets.proofs.RepeatedLaw.{repeated_drop, repeated_length}
use Rattle.octets.proofs.ReplacedLaw.{replaced_all, replaced_next}
use Rattle.lockpage.specs.Geometry.{Geometry, Proper}
use Rattle.machine.specs.Command.{answer_size}
use Rattle.machine.specs.Step.{padded}

-- γ is any proper geometry
module _ {γ : Geometry} (σ : Proper γ) where
  -- what is named stands at the front, and zeros from there on
  pub tail_zeroed : (answer front named r : List ℕ) (from : ℕ) → length answer ≡ answer_size γ → from ≡ length named → from ≤ answer_size γ
      → front ≡ replaced answer 0 named → r ≡ replaced front from (repeated (answer_size γ - from) 0) → r ≡ padded γ named
  unfolding padded
  tail_zeroed answer front named r from l ef h e er =
      let zeros = repeated (answer_size γ - from) 0 in
      let size : length zeros ≡ answer_size γ - from = repeated_length (answer_size γ - from) 0 in
      replaced_next answer front named zeros r from e ef (omega arith) er
      ∙ replaced_all answer (named ++ zeros) (length-append named zeros ∙ omega arith)
      ∙ ap (λ (n : ℕ). named ++ repeated (answer_size γ - n) 0) ef

  -- the zeros come first, and what is named is stored over them
  pub named_stored : (zeros named r : List ℕ) → zeros ≡ repeated (answer_size γ) 0 → r ≡ replaced zeros 0 named → r ≡ padded γ named
  unfolding padded replaced
  named_stored zeros named r ez er =
      er
      ∙ ap (λ (x : List ℕ). named ++ drop (0 + length named) x) ez
      ∙ ap (λ (x : List ℕ). named ++ x) (repeated_drop (answer_size γ) 0 (0 + length named))
      ∙ ap (λ (k : ℕ). named ++ repeated (answer_size γ - k) 0) (zero-add (length named))

  -- nothing is named
  pub all_zeroed : (answer r : List ℕ) → length answer ≡ answer_size γ → r ≡ replaced answer 0 (repeated (answer_size γ) 0) → r ≡ padded γ []
  unfolding padded
  all_zeroed answer r l er =
      let whole : answer_size γ ≡ answer_size γ - 0 = omega arith in
      er
      ∙ replaced_all answer (repeated (answer_size γ) 0) (repeated_length (answer_size γ) 0 ∙ omega arith)
      ∙ ap (λ (n : ℕ). repeated n 0) whole
