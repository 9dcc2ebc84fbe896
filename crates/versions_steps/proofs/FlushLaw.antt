-- What a store on demand leaves, case by case, as the code goes. Assumes nothing.
use mathlib.Core.Path.{◌≡◌, ap, sym, ◌∙◌}
use mathlib.Core.Bool.{true}
use mathlib.Core.List.{[], ◌∷◌}
use Prim.Native.Nat.{ℕ}
use lib.ListN.{length}
use Rattle.lockpage.specs.Geometry.{Geometry, Proper}
use Rattle.machine.specs.Command.{Box}
use Rattle.machine.specs.Question.{Put, first_no}
use Rattle.machine.proofs.QuestionLaw.{passes_on, yes_accepted}
use Rattle.versions_machine.specs.Versions.{Range, Versions}
use Rattle.versions_machine.specs.Log.{is_sound}
use Rattle.versions_machine.specs.Plan.{Plan, carried_out, log_plan}
use Rattle.versions_machine.specs.Call.{result_of, box_questions, flush, flush_questions, flush_plan}
use Rattle.versions_machine.proofs.CarryLaw.{asked_number, carried_number, carried_result}
use Rattle.versions_machine.proofs.DoesLaw.{flush_none, flush_questions_lem, flush_plan_lem}

module _ {γ : Geometry} (σ : Proper γ) (ρ : Range) (ν : Versions) (s : Box) (now : ℕ) (sound : is_sound γ ν ≡ true) where
  -- without records it only answers 0
  pub flush_empty : length ν.records ≡ 0 → flush γ ρ ν s now ≡ result_of 0 0 ν s
  unfolding flush carried_out
  flush_empty e =
      let n = flush_none σ ρ ν s now e in
      carried_result γ (flush_questions γ ρ ν s now) 0 (flush_plan γ ρ ν s now) ν s
      (ap first_no n.0 ∙ yes_accepted (Put 1 (is_sound γ ν) ∷ []) (sound, tt)) (ap (λ (p : Plan). (carried_out γ s p.orders).number) n.1)
      ∙ ap (λ (p : Plan). result_of 0 0 p.after (carried_out γ s p.orders).box) n.1

  module _ (some : length ν.records ≡ 0 → ⊥) where
    questions_are : first_no (flush_questions γ ρ ν s now) ≡ first_no (box_questions γ ρ ν s now)
    questions_are = ap first_no (flush_questions_lem σ ρ ν s now some) ∙ passes_on (Put 1 (is_sound γ ν) ∷ []) (box_questions γ ρ ν s now) (sound, tt)

    pub flush_asked_no : (n : ℕ) → first_no (box_questions γ ρ ν s now) ≡ n → (n ≡ 0 → ⊥) → (flush γ ρ ν s now).number ≡ n
    unfolding flush
    flush_asked_no n e d =
        asked_number γ (flush_questions γ ρ ν s now) 0 (flush_plan γ ρ ν s now) ν s (λ z. d (sym (questions_are ∙ e) ∙ z)) ∙ questions_are ∙ e

    module _ (asked : first_no (box_questions γ ρ ν s now) ≡ 0) where
      -- its one command's number is its own
      pub flush_number : (flush γ ρ ν s now).number ≡ (carried_out γ s (log_plan γ ρ ν s now).orders).number
      unfolding flush
      flush_number =
          carried_number γ (flush_questions γ ρ ν s now) 0 (flush_plan γ ρ ν s now) ν s (questions_are ∙ asked)
          ∙ ap (λ (p : Plan). (carried_out γ s p.orders).number) (flush_plan_lem σ ρ ν s now some)

      pub flush_logs : (carried_out γ s (log_plan γ ρ ν s now).orders).number ≡ 0
          → flush γ ρ ν s now ≡ result_of 0 0 (log_plan γ ρ ν s now).after (carried_out γ s (log_plan γ ρ ν s now).orders).box
      unfolding flush
      flush_logs a =
          let plan = flush_plan_lem σ ρ ν s now some in
          carried_result γ (flush_questions γ ρ ν s now) 0 (flush_plan γ ρ ν s now) ν s (questions_are ∙ asked)
          (ap (λ (p : Plan). (carried_out γ s p.orders).number) plan ∙ a)
          ∙ ap (λ (p : Plan). result_of 0 0 p.after (carried_out γ s p.orders).box) plan
