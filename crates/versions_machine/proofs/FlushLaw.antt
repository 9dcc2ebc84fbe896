-- What a store on demand leaves of the store's state. Assumes nothing.
use mathlib.Core.Path.{◌≡◌, refl, ap, ◌∙◌}
use mathlib.Core.Logic.{⊎_elim}
use mathlib.Core.List.{List, [], ◌∷◌}
use Prim.Native.Nat.{ℕ}
use native.Mathlib.Omega.{arith}
use lib.ListN.{length}
use Rattle.lockpage.specs.Geometry.{Geometry, Proper}
use Rattle.machine.specs.Command.{Box}
use Rattle.machine.proofs.CaseLaw.{same_or_not}
use Rattle.versions_machine.specs.Versions.{Range, Record, Versions, logged}
use Rattle.versions_machine.specs.Plan.{Plan, log_plan}
use Rattle.versions_machine.specs.Call.{Result, flush, flush_questions, flush_plan}
use Rattle.versions_machine.proofs.CarryLaw.{done_or_left, accepted_done}
use Rattle.versions_machine.proofs.RunLaw.{flush_newest}
use Rattle.versions_machine.proofs.DoesLaw.{flush_none, flush_plan_lem}

module _ {γ : Geometry} (σ : Proper γ) (ρ : Range) where
  log_stores : (ν : Versions) (s : Box) (now : ℕ) → (log_plan γ ρ ν s now).after.records ≡ []
  unfolding log_plan logged
  log_stores ν s now = refl

  -- an accepted one leaves no record unstored
  pub flush_stores : (ν : Versions) (s : Box) (now : ℕ) → (flush γ ρ ν s now).number ≡ 0 → (flush γ ρ ν s now).versions.records ≡ []
  unfolding flush
  flush_stores ν s now a =
      ap (λ (r : Result). r.versions.records) (accepted_done γ (flush_questions γ ρ ν s now) 0 (flush_plan γ ρ ν s now) ν s a).result
      ∙ same_or_not (length ν.records) 0
      (λ e. ap (λ (p : Plan). p.after.records) (flush_none σ ρ ν s now e).1 ∙ without ν.records e)
      (λ n. ap (λ (p : Plan). p.after.records) (flush_plan_lem σ ρ ν s now n) ∙ log_stores ν s now)
    where
      without : (xs : List Record) → length xs ≡ 0 → xs ≡ []
      without [] e = refl
      without (x ∷ xs) e = absurd (omega arith)

  -- accepted or not, the map stays
  pub flush_keeps_newest : (ν : Versions) (s : Box) (now : ℕ) → (flush γ ρ ν s now).versions.newest ≡ ν.newest
  unfolding flush
  flush_keeps_newest ν s now =
      ⊎_elim (λ d. ap (λ (r : Result). r.versions.newest) d.result ∙ flush_newest σ ρ ν s now)
      (λ l. ap (λ (n : Versions). n.newest) l.unaltered.versions)
      (done_or_left γ (flush_questions γ ρ ν s now) 0 (flush_plan γ ρ ν s now) ν s)
