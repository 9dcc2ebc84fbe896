-- What a reader wants to know of recovery, beside the promise. Each claim is a type; its proof has the claim's name in
-- proofs/Theorems.antt.
use Rattle.std.specs.Prelude.{◌≡◌, List, [], ℕ, ◌≤◌}
use Rattle.lockpage.specs.Geometry.{Geometry}
use Rattle.machine.specs.Command.{Box}
use Rattle.machine.specs.Claims.{Passes, AnswersFirstNo}
use Rattle.versions_machine.specs.Versions.{Range}
use Rattle.recovery_machine.specs.Walk.{walk_from, walk}
use Rattle.recovery_machine.specs.Recover.{result_size, recover_questions, recover, AcceptedRecovery}

-- "a result of 1,024 bytes"
pub record PapersResultSize : Type 0 where
  pub result : result_size ≡ 1024

module _ (γ : Geometry) (ρ : Range) where
  -- however many more blocks it might have, on whatever disk: the walk ends within as many blocks as there are in range
  unfoldable pub WalkEnds : Type 0
  WalkEnds = (s : Box) (point now n : ℕ) → ρ.number ≤ n → walk_from γ ρ s point now [] 0 ρ.first n ≡ walk γ ρ s point now

  -- ---- demands 1 and 2: its number

  unfoldable pub PassesIfAllYes : Type 0
  PassesIfAllYes = (s : Box) (point now : ℕ) (result : List ℕ) → Passes (recover γ ρ s point now result).number (recover_questions γ s now result)

  unfoldable pub NumberIsFirstNo : Type 0
  NumberIsFirstNo = (s : Box) (point now : ℕ) (result : List ℕ)
      → AnswersFirstNo (recover γ ρ s point now result).number (recover_questions γ s now result)

  unfoldable pub RefusalAltersNothing : Type 0
  RefusalAltersNothing = (s : Box) (point now : ℕ) (result : List ℕ) → (AcceptedRecovery γ ρ s point now result → ⊥)
      → (recover γ ρ s point now result).result ≡ result
