-- The number of a recovery, and what an accepted and a refused one leave. Assumes nothing.
use mathlib.Core.Path.{◌≡◌, refl, ap, sym, ◌∙◌}
use mathlib.Core.List.{List}
use Prim.Native.Nat.{ℕ}
use borrow.Author.Tests.{eq-eqb, ne_eqb}
use Rattle.lockpage.specs.Geometry.{Geometry, Proper}
use Rattle.machine.specs.Command.{Box}
use Rattle.machine.specs.Question.{first_no}
use Rattle.machine.proofs.CaseLaw.{same_or_not}
use Rattle.machine.proofs.QuestionLaw.{numbered_to, accepted_yes}
use Rattle.machine.proofs.PassedLaw.{Timely, timely}
use Rattle.versions_machine.specs.Versions.{Range}
use Rattle.versions_state.specs.Layout.{parts}
use Rattle.versions_state.specs.State.{newest_bytes}
use Rattle.recovery_machine.specs.Recover.{recovery_of, recover_questions, recovered, recover, AcceptedRecovery}

module _ (γ : Geometry) (ρ : Range) (s : Box) (point now : ℕ) (result : List ℕ) where
  abbrev first : ℕ
  first = first_no (recover_questions γ s now result)

  recover_yes : first ≡ 0 → recover γ ρ s point now result ≡ recovery_of 0 (newest_bytes (recovered γ ρ s point now) 0 parts)
  unfolding recover
  recover_yes e = rw (recover, eq-eqb first 0 e)

  pub recover_no : (first ≡ 0 → ⊥) → recover γ ρ s point now result ≡ recovery_of first result
  unfolding recover
  recover_no n = rw (recover, ne_eqb first 0 n)

  pub recover_number : (recover γ ρ s point now result).number ≡ first
  recover_number = same_or_not first 0 (λ e. ap (λ r. r.number) (recover_yes e) ∙ sym e) (λ n. ap (λ r. r.number) (recover_no n))

  -- an accepted one fills the result
  pub recover_result : AcceptedRecovery γ ρ s point now result → (recover γ ρ s point now result).result ≡ newest_bytes (recovered γ ρ s point now) 0 parts
  recover_result a = ap (λ r. r.result) (recover_yes (sym recover_number ∙ a))

  pub recover_refused : (AcceptedRecovery γ ρ s point now result → ⊥) → (recover γ ρ s point now result).result ≡ result
  recover_refused n = ap (λ r. r.result) (recover_no (λ e. n (recover_number ∙ e)))

  -- its box is valid, and its time no earlier than the last time
  pub recover_timely : Proper γ → AcceptedRecovery γ ρ s point now result → Timely γ s now
  unfolding recover_questions numbered_to
  recover_timely σ a =
      let yes = accepted_yes 6 (recover_questions γ s now result) refl (sym recover_number ∙ a) in
      timely σ s now yes.0 yes.1.0 yes.1.1.0
