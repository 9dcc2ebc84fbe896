-- On a formatted box a store's first put is accepted, and so is a flush of one record. Assumes nothing.
use mathlib.Core.Path.{◌≡◌, refl, ap, sym, ◌∙◌}
use mathlib.Core.Bool.{false}
use mathlib.Core.List.{List, [], ◌∷◌}
use Prim.Native.Nat.{ℕ, ◌≤◌, ◌<◌}
use native.Mathlib.Omega.{arith}
use borrow.Author.Tests.{ne_eqb, le-leb}
use lib.ListN.{length}
use Rattle.lockpage.specs.Geometry.{Geometry, Proper}
use Rattle.lockpage.specs.Size.{block_size}
use Rattle.lockpage.specs.Update.{latest_time, longest_lock}
use Rattle.lockpage.specs.Page.{blank_entry}
use Rattle.addressing.specs.Map.{data_blocks, group_of}
use Rattle.addressing.proofs.MapLaw.{group_of_below}
use Rattle.memory.specs.Memory.{groups}
use Rattle.machine.specs.Command.{Box}
use Rattle.machine.specs.Question.{Put, first_no}
use Rattle.machine.specs.Step.{Accepted, step}
use Rattle.machine.specs.Format.{format}
use Rattle.machine.proofs.QuestionLaw.{yes_accepted}
use Rattle.machine.proofs.StepLaw.{step_number}
use Rattle.versions_machine.specs.Versions.{start, entered}
use Rattle.versions_machine.specs.Log.{log_block, is_sound, records_per_block, is_full}
use Rattle.versions_machine.specs.Allocation.{first_block, whole_box, next_for}
use Rattle.versions_machine.specs.Plan.{Carried, Plan, plan_of, log_plan, writing, unfreezes, given, carried_out, version_orders, put_plan}
use Rattle.versions_machine.specs.Call.{Result, result_of, last_part, box_questions, put, put_questions, flush, flush_questions, flush_plan}
use Rattle.versions_machine.specs.Claims.{FirstPutIsAccepted, FirstFlushIsAccepted}
use Rattle.versions_machine.specs.After.{between}
use Rattle.versions_machine.proofs.CarryLaw.{carried_on, carried_number, carried_result}
use Rattle.versions_machine.proofs.ForesightLaw.{refusal_left}
use Rattle.versions_machine.proofs.FactsLaw.{facts_sound}
use Rattle.versions_machine.proofs.DoesLaw.{due_none, flush_questions_lem, flush_plan_lem}
use Rattle.versions_machine.proofs.LogLaw.{log_length}
use Rattle.versions_machine.proofs.FreshLaw.{start_limits, write_left, Fresh, formatted, fresh_inside, fresh_next, fresh_box}

module _ {γ : Geometry} (σ : Proper γ) where
  module _ (g lock now : ℕ) (s : Box) (f : Fresh σ g s) (limits : (1 ≤ lock) × (lock ≤ longest_lock)) (t : now ≤ latest_time)
      (some_entries : 3 ≤ γ.entries) (some_blocks : 3 ≤ data_blocks γ g) where
    pub fresh_accepted : (b : ℕ) (content : List ℕ) → b < data_blocks γ g → length content ≡ block_size γ
        → Accepted γ s (given γ s (writing b now lock content))
    fresh_accepted b content inside size =
        let o = writing b now lock content in
        step_number σ s (given γ s o)
        ∙ refusal_left σ s o 0 blank_entry f.valid (omega (arith, f.time)) t
        (λ l. sym (f.counts (group_of γ b) (group_of_below σ g b inside))) (λ l. sym (f.entries b inside))
        ∙ write_left σ (groups γ s.memory) b now lock 0 blank_entry content limits (fresh_inside σ g now s f b inside) (omega arith) refl size

    -- ---- the flush

    fresh_flush : (part block : ℕ) → (flush γ (whole_box γ g) (entered (start first_block lock) part block) s now).number ≡ 0
    unfolding flush entered start log_plan carried_out
    fresh_flush part block =
        let ν = entered (start first_block lock) part block in
        let ρ = whole_box γ g in
        let log = log_block γ ν.records (next_for γ ρ s now ν) in
        let some : length ν.records ≡ 0 → ⊥ = λ z. omega arith in
        let sound = facts_sound σ ν (record { least = limits.0; most = limits.1; room = omega arith }) in
        carried_number γ (flush_questions γ ρ ν s now) 0 (flush_plan γ ρ ν s now) ν s
        (ap first_no (flush_questions_lem σ ρ ν s now some)
        ∙ yes_accepted (Put 1 (is_sound γ ν) ∷ box_questions γ ρ ν s now) (sound, fresh_box σ g now s f t some_blocks ν refl))
        ∙ ap (λ (x : Plan). (carried_out γ s x.orders).number) (flush_plan_lem σ ρ ν s now some)
        ∙ ap (λ (x : Carried). x.number)
        (carried_on γ s (writing 0 now lock log) [] (fresh_accepted 0 log (omega arith) (log_length σ ν.records (next_for γ ρ s now ν) (omega arith))))

    -- ---- the put

    module _ (part : ℕ) (content : List ℕ) (p : part ≤ last_part) (size : length content ≡ block_size γ) where
      -- it is one command
      fresh_plan : put_plan γ (whole_box γ g) (start first_block lock) s part now content
          ≡ plan_of (writing 1 now lock content ∷ []) (entered (start first_block lock) part 1)
      unfolding put_plan version_orders start unfreezes is_full entered
      fresh_plan =
          let ν = start first_block lock in
          let ρ = whole_box γ g in
          let b = next_for γ ρ s now ν in
          let full : is_full γ (entered ν part b) ≡ false = ne_eqb 1 (records_per_block γ) (λ e. omega arith) in
          ap (λ (x : Plan). plan_of (writing b now lock content ∷ x.orders) x.after)
          (due_none σ ρ (entered ν part b) (between γ ρ ν s part now content) now full)
          ∙ ap (λ (x : ℕ). plan_of (writing x now lock content ∷ []) (entered ν part x)) (fresh_next σ g now s f t some_blocks)

      pub fresh_put : put γ (whole_box γ g) (start first_block lock) s part now content
          ≡ result_of 0 1 (entered (start first_block lock) part 1) (step γ s (given γ s (writing 1 now lock content))).box
      unfolding put put_questions carried_out start
      fresh_put =
          let ν = start first_block lock in
          let ρ = whole_box γ g in
          let qs = put_questions γ ρ ν s part now in
          let b = next_for γ ρ s now ν in
          let plan = put_plan γ ρ ν s part now content in
          let carried = carried_on γ s (writing 1 now lock content) [] (fresh_accepted 1 content (omega arith) size) in
          let sound = facts_sound σ ν (record { least = limits.0; most = limits.1; room = omega arith }) in
          carried_result γ qs b plan ν s (yes_accepted qs (le-leb part last_part p, (sound, fresh_box σ g now s f t some_blocks ν refl)))
          (ap (λ (x : Plan). (carried_out γ s x.orders).number) fresh_plan ∙ ap (λ (x : Carried). x.number) carried)
          ∙ ap (λ (x : Plan). result_of 0 b x.after (carried_out γ s x.orders).box) fresh_plan
          ∙ ap (λ (x : ℕ). result_of 0 x (entered ν part 1) (carried_out γ s (writing 1 now lock content ∷ [])).box) (fresh_next σ g now s f t some_blocks)
          ∙ ap (λ (x : Carried). result_of 0 1 (entered ν part 1) x.box) carried

  pub first_put_is_accepted : FirstPutIsAccepted γ
  unfolding FirstPutIsAccepted
  first_put_is_accepted s g salt lock part now content a k p t size some_entries some_blocks =
      let r =
      fresh_put g lock now (format γ s g salt).box (formatted σ s g salt a) (start_limits lock k) t some_entries some_blocks part content p size in
      (ap (λ (x : Result). x.number) r, ap (λ (x : Result). x.block) r)

  pub first_flush_is_accepted : FirstFlushIsAccepted γ
  unfolding FirstFlushIsAccepted
  first_flush_is_accepted s g salt lock part block now a k t some_entries some_blocks =
      fresh_flush g lock now (format γ s g salt).box (formatted σ s g salt a) (start_limits lock k) t some_entries some_blocks part block
