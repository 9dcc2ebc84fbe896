-- Commands without data and proof that are accepted, and what a sync and a restart leave of the counts and the entries; and a recovery that
-- is accepted. Assumes nothing.
use mathlib.Core.Path.{◌≡◌, refl, ap, sym, subst, ◌∙◌}
use mathlib.Core.List.{List}
use Prim.Native.Nat.{ℕ, ◌+◌, ◌≤◌, ◌<◌}
use native.Mathlib.Omega.{arith}
use borrow.Author.Tests.{eq-eqb, le-leb}
use lib.ListN.{length}
use Rattle.octets.proofs.RepeatedLaw.{repeated_length}
use Rattle.lockpage.specs.Geometry.{Geometry, Proper}
use Rattle.lockpage.specs.declared.Entry.{Entry}
use Rattle.lockpage.specs.Entry.{EntryFits}
use Rattle.lockpage.specs.Update.{latest_time}
use Rattle.lockpage.specs.Page.{entry_at}
use Rattle.addressing.specs.Map.{disk_size, data_blocks, group_of, place_of}
use Rattle.addressing.proofs.MapLaw.{group_of_below}
use Rattle.memory.specs.Memory.{count, last_time, groups, held, none}
use Rattle.validity.proofs.ValidLaw.{facts}
use Rattle.machine.specs.declared.Kind.{Kind}
use Rattle.machine.specs.declared.Kind.TheVariants.{Sync, Restart}
use Rattle.machine.specs.Command.{Box, Command, kind_of, answer_size}
use Rattle.machine.specs.Tag.{current_page, current_entry}
use Rattle.machine.specs.Question.{first_no, questions_to, questions, refusal, AllYes}
use Rattle.machine.specs.Step.{step}
use Rattle.machine.specs.Claims.{ValidBox}
use Rattle.machine.specs.After.{count_after, held_after, page_after}
use Rattle.machine.proofs.KindLaw.{sync_kind, restart_kind}
use Rattle.machine.proofs.QuestionLaw.{yes_accepted}
use Rattle.machine.proofs.TagLaw.{current_other}
use Rattle.machine.proofs.EffectLaw.{count_unchanged}
use Rattle.machine.proofs.ChangeLaw.{not_none}
use Rattle.machine.proofs.ValidBoxLaw.{accepted_valid}
use Rattle.machine.proofs.AfterLaw.{accepted_after}
use Rattle.versions_machine.specs.Versions.{Range}
use Rattle.versions_machine.proofs.ForesightLaw.{Foresees}
use Rattle.recovery_machine.specs.Recover.{result_size, recover_questions, AcceptedRecovery}
use Rattle.recovery_machine.specs.Met.{plain}
use Rattle.recovery_machine.proofs.RecoverLaw.{recover_number}

module _ {γ : Geometry} (σ : Proper γ) where
  -- ---- a sync and a restart, where the box is valid and the time is no earlier than the last

  module _ (s : Box) (now : ℕ) (v : ValidBox γ s) (l : last_time γ s.memory ≤ now) (m : now ≤ latest_time) where
    -- the same questions are put to both kinds
    plain_yes : (kind : ℕ) → AllYes (questions_to γ Sync s (plain γ kind now))
    plain_yes kind = (
      v.memory,
      (
        eq-eqb (length s.disk) (disk_size γ (groups γ s.memory)) v.disk,
        (
          refl,
          (
            rw (le-leb (last_time γ s.memory) now l, le-leb now latest_time m),
            (
              refl,
              (
                eq-eqb (length (plain γ kind now).answer) (answer_size γ) (repeated_length (answer_size γ) 0),
                (refl, (refl, (refl, (refl, (refl, tt))))),
              ),
            ),
          ),
        ),
      ),
    )

    pub sync_passes : refusal γ s (plain γ 7 now) ≡ 0
    unfolding refusal questions
    sync_passes =
        let c = plain γ 7 now in
        ap (λ (k : Kind). first_no (questions_to γ k s c)) (sync_kind 7 0 refl) ∙ yes_accepted (questions_to γ Sync s c) (plain_yes 7)

    pub restart_passes : refusal γ s (plain γ 8 now) ≡ 0
    unfolding refusal questions
    restart_passes =
        let c = plain γ 8 now in
        ap (λ (k : Kind). first_no (questions_to γ k s c)) (restart_kind 8 0 refl) ∙ yes_accepted (questions_to γ Restart s c) (plain_yes 8)

    -- ---- a recovery

    pub recovery_accepted : (ρ : Range) (point : ℕ) (result : List ℕ) → length result ≡ result_size → AcceptedRecovery γ ρ s point now result
    unfolding recover_questions
    recovery_accepted ρ point result size =
        recover_number γ ρ s point now result
        ∙ yes_accepted (recover_questions γ s now result) (
          v.memory,
          (
            eq-eqb (length s.disk) (disk_size γ (groups γ s.memory)) v.disk,
            (
              rw (le-leb (last_time γ s.memory) now l, le-leb now latest_time m),
              (eq-eqb (length result) result_size size, tt),
            ),
          ),
        )

  -- ---- what they leave

  -- an accepted command that leaves every count and every current page leaves what is foreseen
  kept_foresees : (s : Box) (c : Command) (before : ℕ) (counts : ℕ → ℕ) (entries : ℕ → Entry) → refusal γ s c ≡ 0 → c.now ≤ latest_time
      → ((g : ℕ) → g < groups γ s.memory → count_after γ (kind_of c) s.memory c g ≡ count s.memory g)
      → ((g : ℕ) → g < groups γ s.memory → page_after γ (kind_of c) s c g ≡ current_page γ s g)
      → Foresees σ before s counts entries → Foresees σ c.now (step γ s c).box counts entries
  kept_foresees s c before counts entries r early same_count same-page f =
      let after = accepted_after σ s c r in
      let of_box : (a : ℕ) → a < data_blocks γ (groups γ (step γ s c).box.memory) → a < data_blocks γ (groups γ s.memory) =
      λ a h. subst (λ (n : ℕ). a < data_blocks γ n) after.same_groups h in
      let same : (a : ℕ) → a < data_blocks γ (groups γ (step γ s c).box.memory) → current_entry γ (step γ s c).box a ≡ current_entry γ s a =
      λ a h.
      let inside = group_of_below σ (groups γ s.memory) a (of_box a h) in
      ap (λ (p : List ℕ). entry_at p (place_of γ a)) (after.page (group_of γ a) inside ∙ same-page (group_of γ a) inside) in
      record {
        valid = accepted_valid σ s c r;
        later = omega (arith, after.time);
        early = early;
        counted =
            λ g h.
            let inside : g < groups γ s.memory = subst (λ (n : ℕ). g < n) after.same_groups h in
            f.counted g inside ∙ sym (after.counts g inside ∙ same_count g inside);
        found = λ a h. f.found a (of_box a h) ∙ sym (same a h);
        fits = λ a h. subst EntryFits (sym (same a h)) (f.fits a (of_box a h));
      }

  -- after a sync none is held
  pub sync_none : (s : Box) (now : ℕ) → refusal γ s (plain γ 7 now) ≡ 0 → held γ (step γ s (plain γ 7 now)).box.memory ≡ none
  sync_none s now r =
      (accepted_after σ s (plain γ 7 now) r).held_group
      ∙ ap (λ (k : Kind). held_after γ k s.memory (plain γ 7 now)) (sync_kind 7 0 refl)

  module _ (s : Box) (before : ℕ) (counts : ℕ → ℕ) (entries : ℕ → Entry) (f : Foresees σ before s counts entries) (now : ℕ)
      (early : now ≤ latest_time) where
    pub sync_foresees : refusal γ s (plain γ 7 now) ≡ 0 → Foresees σ now (step γ s (plain γ 7 now)).box counts entries
    sync_foresees r =
        let c = plain γ 7 now in
        let kind = sync_kind 7 0 refl in
        kept_foresees s c before counts entries r early (λ g h. ap (λ (k : Kind). count_after γ k s.memory c g) kind)
        (λ g h. ap (λ (k : Kind). page_after γ k s c g) kind) f

    -- a restart, where none is held
    pub restart_foresees : refusal γ s (plain γ 8 now) ≡ 0 → held γ s.memory ≡ none → Foresees σ now (step γ s (plain γ 8 now)).box counts entries
    restart_foresees r n =
        let c = plain γ 8 now in
        let m = s.memory in
        let v = facts σ m f.valid.memory in
        let kind = restart_kind 8 0 refl in
        kept_foresees s c before counts entries r early
        (λ g h.
        ap (λ (k : Kind). count_after γ k m c g) kind
        ∙ count_unchanged (count m) (held γ m) (count m (held γ m) + 1) g (λ e. not_none σ m v g (held γ m) n h (sym e)))
        (λ g h. ap (λ (k : Kind). page_after γ k s c g) kind ∙ sym (current_other σ s g (not_none σ m v g (held γ m) n h))) f
