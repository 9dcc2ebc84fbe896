-- Kinds 7, 8 and 9 as the code carries them out: the last time is set, and what follows is their effect. Assumes nothing.
use mathlib.Core.Path.{◌≡◌, refl, ap, ◌∙◌}
use mathlib.Core.List.{List}
use Prim.Native.Nat.{ℕ}
use lib.ListN.{length}
use Rattle.octets.specs.Part.{replaced, repeated}
use Rattle.lockpage.specs.Geometry.{Geometry, Proper}
use Rattle.memory.specs.Memory.{with_salt, with_no_counts, with_last_time, holding_none}
use Rattle.machine.specs.Command.{Outcome, box_of, outcome_of, answer_size}
use Rattle.machine.specs.Effect.{stored, put_held, sync, restarted_memory, restart, salted, new_salt}
use Rattle.machine.specs.Step.{timed, done, accepted}
use Rattle.machine.proofs.StepLaw.{outcome_of_lem}
use Rattle.answers.specs.Ready.{OnEveryDisk}
use Rattle.answers.proofs.TailLaw.{all_zeroed}

-- γ is any proper geometry
module _ {γ : Geometry} (σ : Proper γ) where
  -- memory t is m with the last time set, and the answer is zeros
  module _ (m t : List ℕ) (now : ℕ) (et : t ≡ with_last_time γ m now) where
    module _ (answer a : List ℕ) (sized : length answer ≡ answer_size γ) (ea : a ≡ replaced answer 0 (repeated (answer_size γ) 0)) where
      pub synced : (disk d n : List ℕ) → d ≡ stored γ disk (put_held γ t) → n ≡ holding_none γ t
          → outcome_of 0 n d a ≡ accepted γ (sync γ) (box_of m disk) now
      unfolding timed sync
      synced disk d n ed en =
          outcome_of_lem σ disk (sync γ (timed γ (box_of m disk) now)) n d a (en ∙ ap (holding_none γ) et)
          (ed ∙ ap (λ (x : List ℕ). stored γ disk (put_held γ x)) et) (all_zeroed σ answer a sized ea)

      pub lost : (n : List ℕ) → n ≡ restarted_memory γ t → OnEveryDisk γ (restart γ) m now n a
      unfolding timed restart stored
      lost n en disk =
          outcome_of_lem σ disk (restart γ (timed γ (box_of m disk) now)) n disk a (en ∙ ap (restarted_memory γ) et) refl (all_zeroed σ answer a sized ea)

  -- a sync first, then the counts and the salt
  pub renewed : (m disk n d a k s salt : List ℕ) (now : ℕ) → outcome_of 0 n d a ≡ accepted γ (sync γ) (box_of m disk) now → k ≡ with_no_counts γ n
      → s ≡ with_salt k salt → outcome_of 0 s d a ≡ accepted γ (λ b. new_salt γ b salt) (box_of m disk) now
  unfolding timed done sync new_salt salted
  renewed m disk n d a k s salt now e ek es =
      outcome_of_lem σ disk (new_salt γ (timed γ (box_of m disk) now) salt) s d a
      (es ∙ ap (λ (x : List ℕ). with_salt x salt) (ek ∙ ap (with_no_counts γ) (ap (λ (o : Outcome). o.box.memory) e)))
      (ap (λ (o : Outcome). o.box.disk) e) (ap (λ (o : Outcome). o.answer) e)
