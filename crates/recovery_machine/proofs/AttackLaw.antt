-- A box with none held whose block 1 is frozen: a restart and an unfreeze of that block, a second later, are accepted, forge no page, and
-- leave a box that recovery accepts. Assumes nothing.
use mathlib.Core.Path.{◌≡◌, refl, sym, subst, ◌∙◌}
use mathlib.Core.List.{List, [], ◌∷◌}
use Prim.Native.Nat.{ℕ, ◌+◌, ◌≤◌, ◌<◌}
use native.Mathlib.Omega.{arith}
use lib.ListN.{length}
use Rattle.lockpage.specs.Geometry.{Geometry, Proper}
use Rattle.lockpage.specs.declared.Entry.{Entry}
use Rattle.lockpage.specs.Entry.{flag, frozen_flag}
use Rattle.lockpage.specs.Update.{latest_time, longest_lock}
use Rattle.addressing.specs.Map.{data_blocks, group_of}
use Rattle.addressing.proofs.MapLaw.{group_of_below}
use Rattle.memory.specs.Memory.{groups, held, none}
use Rattle.validity.specs.Valid.{count_limit}
use Rattle.validity.proofs.ValidLaw.{facts}
use Rattle.machine.specs.declared.Kind.TheVariants.{Restart}
use Rattle.machine.specs.Command.{Box, Command}
use Rattle.machine.specs.Question.{refusal}
use Rattle.machine.specs.Step.{Accepted, step}
use Rattle.machine.specs.Run.{Event, Given, time_of, run, Throughout}
use Rattle.machine.specs.Protection.{Unforged}
use Rattle.machine.proofs.KindLaw.{restart_kind}
use Rattle.machine.proofs.QuestionLaw.{asks, no_seventh}
use Rattle.machine.proofs.StepLaw.{step_number}
use Rattle.machine.proofs.PassedLaw.{Timely}
use Rattle.machine.proofs.ValidBoxLaw.{accepted_valid}
use Rattle.machine.proofs.AfterLaw.{accepted_after}
use Rattle.versions_machine.specs.Versions.{Range}
use Rattle.versions_machine.specs.Plan.{unfreezing, given}
use Rattle.versions_machine.proofs.HoldsLaw.{order_brings}
use Rattle.versions_machine.proofs.ForesightLaw.{Foresees, refusal_left}
use Rattle.versions_machine.proofs.ReplaceLaw.{unfreeze_left}
use Rattle.recovery_machine.specs.Recover.{result_size, AcceptedRecovery}
use Rattle.recovery_machine.specs.Met.{plain}
use Rattle.recovery_machine.proofs.AcceptedLaw.{restart_passes, restart_foresees, recovery_accepted}

module _ {γ : Geometry} (σ : Proper γ) where
  -- what is known of the box at the point
  pub record Attackable (point : ℕ) (t : Box) : Type 0 where
    pub counts : ℕ → ℕ
    pub entries : ℕ → Entry
    pub foresees : Foresees σ point t counts entries
    pub none_held : held γ t.memory ≡ none
    pub inside : 1 < data_blocks γ (groups γ t.memory)
    pub few : counts (group_of γ 1) < count_limit
    pub frozen : flag (entries 1).stamp ≡ frozen_flag
    pub short : (entries 1).word ≤ longest_lock

  module _ (point : ℕ) (t : Box) (k : Attackable point t) (early : point + 1 ≤ latest_time) where
    abbrev restarting : Command
    restarting = plain γ 8 (point + 1)

    abbrev t1 : Box
    t1 = (step γ t restarting).box

    abbrev unfreezes : Command
    unfreezes = given γ t1 (unfreezing 1 (point + 1))

    abbrev events : List Event
    events = Given restarting ∷ Given unfreezes ∷ []

    -- ---- both are accepted

    restart_refusal : refusal γ t restarting ≡ 0
    restart_refusal = restart_passes σ t (point + 1) k.foresees.valid (omega (arith, k.foresees.later)) early

    pub attack_restart : Accepted γ t restarting
    attack_restart = step_number σ t restarting ∙ restart_refusal

    foresees : Foresees σ (point + 1) t1 k.counts k.entries
    foresees = restart_foresees σ t point k.counts k.entries k.foresees (point + 1) early restart_refusal k.none_held

    inside : 1 < data_blocks γ (groups γ t1.memory)
    inside = subst (λ (g : ℕ). 1 < data_blocks γ g) (sym (accepted_after σ t restarting restart_refusal).same_groups) k.inside

    unfreeze_refusal : refusal γ t1 unfreezes ≡ 0
    unfreeze_refusal =
        let n = k.counts (group_of γ 1) in
        let e = k.entries 1 in
        refusal_left σ t1 (unfreezing 1 (point + 1)) n e foresees.valid foresees.later early
        (λ l. foresees.counted (group_of γ 1) (group_of_below σ (groups γ t1.memory) 1 l)) (λ l. foresees.found 1 l)
        ∙ unfreeze_left σ (groups γ t1.memory) 1 (point + 1) n e inside k.few k.frozen k.short early

    pub attack_unfreeze : Accepted γ t1 unfreezes
    attack_unfreeze = step_number σ t1 unfreezes ∙ unfreeze_refusal

    -- ---- the premises

    -- a restart isn't asked for a page, and the unfreeze brings the current one
    pub attack_unforged : Throughout γ (Unforged γ) t events
    unfolding asks
    attack_unforged = (
      λ yes. absurd (no_seventh σ Restart t restarting refl (restart_kind 8 0 refl) yes),
      (λ yes. order_brings σ t1 (unfreezing 1 (point + 1)) unfreeze_refusal, tt),
    )

    pub attack_later : Throughout γ (λ s e. point < time_of e) t events
    attack_later = (omega arith, (omega arith, tt))

    -- ---- what they leave

    module _ (now : ℕ) (later : point < now) (latest : now ≤ latest_time) where
      pub attack_timely : Timely γ (run γ t events) now
      attack_timely =
          let v = accepted_valid σ t1 unfreezes unfreeze_refusal in
          record {
            memory = facts σ (run γ t events).memory v.memory;
            disk = v.disk;
            later = omega (arith, (accepted_after σ t1 unfreezes unfreeze_refusal).time);
            early = latest;
          }

      pub attack_recovery : (ρ : Range) (result : List ℕ) → length result ≡ result_size → AcceptedRecovery γ ρ (run γ t events) point now result
      attack_recovery ρ result size =
          recovery_accepted σ (run γ t events) now (accepted_valid σ t1 unfreezes unfreeze_refusal)
          (omega (arith, (accepted_after σ t1 unfreezes unfreeze_refusal).time)) latest ρ point result size
