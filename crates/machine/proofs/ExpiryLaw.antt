-- A block that has been unfrozen is not free before its expiry, and free from it on. Assumes nothing.
use mathlib.Core.Path.{◌≡◌, refl, ap, sym, subst, ◌∙◌}
use mathlib.Core.Bool.{true, false, false≢true}
use mathlib.Core.Logic.{inl}
use mathlib.Core.List.{List}
use Prim.Native.Nat.{ℕ, ◌≤◌, ◌<◌}
use native.Mathlib.Omega.{arith}
use Rattle.lockpage.specs.Geometry.{Geometry, Proper}
use Rattle.lockpage.specs.declared.Entry.{Entry as PageEntry}
use Rattle.lockpage.specs.declared.State.TheVariants.{Free, Frozen}
use Rattle.lockpage.specs.declared.Update.{Update}
use Rattle.lockpage.specs.declared.Update.TheVariants.{Write, Unfreeze, Increment}
use Rattle.lockpage.specs.Entry.{EntryFits, time_of_write, flag, unfrozen_flag}
use Rattle.lockpage.specs.State.{state, state_number}
use Rattle.lockpage.specs.Update.{expiry_at, updated, allowed}
use Rattle.lockpage.specs.Page.{entry_at}
use Rattle.lockpage.proofs.EntryLaw.{frozen_no}
use Rattle.lockpage.proofs.StateLaw.{Says, says, state_free}
use Rattle.lockpage.proofs.UpdateLaw.{unfrozen_word, unfrozen_flag_lem, grown_word, grown_stamp, allowed_write, allowed_unfreeze}
use Rattle.lockpage.proofs.PageLaw.{entry_at_fits}
use Rattle.addressing.specs.Map.{group_of, place_of, physical}
use Rattle.disk.specs.Disk.{block}
use Rattle.machine.specs.declared.Kind.TheVariants.{Change}
use Rattle.machine.specs.Command.{Box, Command, kind_of, brought_page, brought_entry}
use Rattle.machine.specs.Tag.{current_entry}
use Rattle.machine.specs.Question.{refusal}
use Rattle.machine.specs.Step.{step, Accepted}
use Rattle.machine.specs.Run.{Event, Given, Queried, Throughout}
use Rattle.machine.specs.Protection.{start_entry}
use Rattle.machine.specs.NotFree.{NotShownFree}
use Rattle.machine.specs.Expiry.{Unfreezes, PageStays, LockStays, NoneLost, OnDisk, EntryStays, ShownFree}
use Rattle.machine.proofs.KindLaw.{unfreeze_kind, write_number, increment_number}
use Rattle.machine.proofs.QuestionLaw.{all_yes}
use Rattle.machine.proofs.StepLaw.{accepts}
use Rattle.machine.proofs.TagLaw.{brought_are, current_held}
use Rattle.machine.proofs.PassedLaw.{changes, changed_group}
use Rattle.machine.proofs.AfterLaw.{accepted_after}
use Rattle.machine.proofs.CurrentLaw.{brings_current, own_fits, own_entry}
use Rattle.machine.proofs.SafeLaw.{Watch, Safe, SafeBox, Kept}
use Rattle.machine.proofs.KeptLaw.{run_kept, accepted_kept}
use Rattle.machine.proofs.AlikeLaw.{fair}
use Rattle.machine.proofs.NotFreeLaw.{free_number, state_shown_as, event_not_free}
use Rattle.machine.proofs.TrackedLaw.{Tracked, StaysKnown, run_tracked}

-- a block that may be written is found free
found_free : (lock now : ℕ) (e : PageEntry) → allowed (Write lock) (state now e) ≡ true → Says now e Free
found_free lock now e may = subst (Says now e) (allowed_write lock (state now e) may) (says now e)

-- an entry with an expiry is not unfrozen
not_again : {A : Type 0} (now : ℕ) (e : PageEntry) → allowed Unfreeze (state now e) ≡ true → flag e.stamp ≡ unfrozen_flag → A
not_again now e may f =
    let frozen : Says now e Frozen = subst (Says now e) (allowed_unfreeze (state now e) may) (says now e) in
    absurd (omega (arith, frozen))

-- before the bound the entry counts to it or later
abbrev CountsTo : ℕ → ℕ → PageEntry → Type 0
CountsTo bound t e = t < bound → (flag e.stamp ≡ unfrozen_flag) × (bound ≤ e.word)

-- the entry counts to the bound at most
abbrev EndsBy : ℕ → ℕ → PageEntry → Type 0
EndsBy bound t e = (flag e.stamp ≡ unfrozen_flag) × (e.word ≤ bound)

-- γ is any proper geometry
module _ {γ : Geometry} (σ : Proper γ) where
  counts_stays : (b bound : ℕ) → StaysKnown γ b (CountsTo bound) (PageStays γ b)
  counts_stays b bound =
      record {
        later = λ t now e l h early. h (omega arith);
        update = λ s c u e i a k here may h early. counts_on u c.now e may (h early) early;
        page = λ s c i. i;
      }
    where
      counts_on : (u : Update) (now : ℕ) (e : PageEntry) → allowed u (state now e) ≡ true → (flag e.stamp ≡ unfrozen_flag) × (bound ≤ e.word)
          → now < bound → (flag (updated u now e).stamp ≡ unfrozen_flag) × (bound ≤ (updated u now e).word)
      counts_on (Write lock) now e may h early = absurd (omega (arith, h.1, (found_free lock now e may).1))
      counts_on Unfreeze now e may h early = not_again now e may h.0
      counts_on (Increment value) now e may h early = (ap flag (grown_stamp value now e) ∙ h.0, omega (arith, grown_word value now e, h.1))

  ends_stays : (b bound : ℕ) → StaysKnown γ b (EndsBy bound) (EntryStays γ b)
  ends_stays b bound = record { later = λ t now e l h. h; update = kept_by; page = λ s c i. i.page_stays }
    where
      kept_by : (s : Box) (c : Command) (u : Update) (e : PageEntry) → EntryStays γ b s (Given c) → Accepted γ s c → kind_of c ≡ Change u → c.block ≡ b
          → allowed u (state c.now e) ≡ true → EndsBy bound c.now e → EndsBy bound c.now (updated u c.now e)
      kept_by s c (Write lock) e i a k here may h = absurd (i.not_written a (write_number c.kind c.value lock k) here)
      kept_by s c Unfreeze e i a k here may h = not_again c.now e may h.0
      kept_by s c (Increment value) e i a k here may h = absurd (i.not_incremented a (increment_number c.kind c.value value k) here)

  module _ (s : Box) (c : Command) (es : List Event) (x : Unfreezes γ s c es) where
    passes : refusal γ s c ≡ 0
    passes = accepts σ s c x.accepted

    kind : kind_of c ≡ Change Unfreeze
    kind = unfreeze_kind c.kind c.value x.kind

    found : brought_entry γ c ≡ current_entry γ s c.block
    found = ap (λ (p : List ℕ). entry_at p (place_of γ c.block)) (brings_current σ Unfreeze s c kind passes x.unforged.0)

    tracked : (Q : ℕ → PageEntry → Type 0) → Q c.now (updated Unfreeze c.now (current_entry γ s c.block))
        → Tracked γ c.block Q (step γ s c).box
    tracked Q h =
        let a = accepted_after σ s c passes in
        let fits = own_fits σ Unfreeze s c kind passes x.bytes in
        let same = own_entry σ Unfreeze s c kind passes fits in
        record {
          of_box =
              subst (λ (n : ℕ). group_of γ c.block < n) (sym a.same_groups)
              (changed_group σ Unfreeze s c (changes σ Unfreeze s c (all_yes σ (Change Unfreeze) s c kind passes)));
          fits = subst EntryFits (sym same) fits;
          entry =
              subst (λ (t : ℕ). Q t (current_entry γ (step γ s c).box c.block)) (sym a.time)
              (subst (Q c.now) (sym (same ∙ ap (updated Unfreeze c.now) found)) h);
        }

    -- ---- before the expiry

    module _ (during : ℕ → Type 0) (before : (now : ℕ) → during now → now < expiry_at c.now (current_entry γ s c.block).word) where
      none_lost : Throughout γ (PageStays γ c.block) (step γ s c).box es → Throughout γ (NotShownFree γ c.block during) (step γ s c).box es
      none_lost stays =
          let b = c.block in
          let e = current_entry γ s b in
          let bound = expiry_at c.now e.word in
          run_tracked σ b (CountsTo bound) (PageStays γ b) (counts_stays b bound) (NotShownFree γ b during)
          (λ t event h.
          state_shown_as σ b (λ shown. shown ≡ state_number Free → ⊥) during t event
          (λ now q inside l f.
          let early = before now l in
          let counts = h.entry (omega (arith, q.later)) in
          let free = subst (Says now (current_entry γ t b)) (free_number (state now (current_entry γ t b)) f) (says now (current_entry γ t b)) in
          omega (arith, counts.1, free.1)))
          (step γ s c).box es x.unforged.1 stays
          (tracked (CountsTo bound) (λ early. (unfrozen_flag_lem c.now e, omega (arith, unfrozen_word c.now e))))

    -- a watch of the block from the unfreeze on
    unfrozen_watch : Watch
    unfrozen_watch =
        record {
          block = c.block;
          content = block γ s.disk (physical γ c.block);
          time = time_of_write (current_entry γ s c.block);
          bound = expiry_at c.now (current_entry γ s c.block).word;
          start = c.now;
          forever = false;
        }

    unfrozen_safe : Safe unfrozen_watch (current_entry γ s c.block)
    unfolding unfrozen_watch
    unfrozen_safe =
        let may = (changes σ Unfreeze s c (all_yes σ (Change Unfreeze) s c kind passes)).may in
        let frozen : Says c.now (brought_entry γ c) Frozen =
        subst (Says c.now (brought_entry γ c)) (allowed_unfreeze (state c.now (brought_entry γ c)) may) (says c.now (brought_entry γ c)) in
        record {
          fits =
              subst EntryFits found (entry_at_fits (brought_page γ c.proof) (place_of γ c.block) (brought_are σ c.proof x.bytes));
          time = refl;
          locked = inl (ap (λ (e : PageEntry). flag e.stamp) (sym found) ∙ frozen, inl (omega arith));
        }

    box_safe : start_entry γ s c.block ≡ current_entry γ s c.block → SafeBox γ unfrozen_watch s
    unfolding unfrozen_watch
    box_safe same =
        record {
          disk = record { content = refl; page = subst (Safe unfrozen_watch) (sym same) unfrozen_safe };
          held =
              λ n e.
              subst (λ (p : List ℕ). Safe unfrozen_watch (entry_at p (place_of γ c.block))) (current_held σ s (group_of γ c.block) e) unfrozen_safe;
        }

    kept : start_entry γ s c.block ≡ current_entry γ s c.block → Kept γ unfrozen_watch (step γ s c).box
    unfolding unfrozen_watch
    kept same =
        accepted_kept σ unfrozen_watch s c passes (x.unforged.0, λ r k b f. false≢true f) (omega arith) (λ l. box_safe same)

    module _ (during : ℕ → Type 0) (before : (now : ℕ) → during now → now < expiry_at c.now (current_entry γ s c.block).word) where
      earlier : (t : Box) (e : Event)
          → NotShownFree γ c.block (λ now. now < expiry_at c.now (current_entry γ s c.block).word) t e → NotShownFree γ c.block during t e
      earlier t (Given d) h = λ a k b l. h a k b (before d.now l)
      earlier t (Queried q) h = λ a i inside b l. h a i inside b (before q.now l)

      on_disk : start_entry γ s c.block ≡ current_entry γ s c.block → Throughout γ (NotShownFree γ c.block during) (step γ s c).box es
      unfolding unfrozen_watch
      on_disk same =
          run_kept σ unfrozen_watch (NotShownFree γ c.block during) (λ t e h. earlier t e (event_not_free σ unfrozen_watch t e h)) (step γ s c).box es
          (fair σ unfrozen_watch (step γ s c).box es x.unforged.1 (λ f. absurd (false≢true f))) (kept same)

      pub unfrozen_not_free : LockStays γ s c es → Throughout γ (NotShownFree γ c.block during) (step γ s c).box es
      unfrozen_not_free (NoneLost stays) = none_lost during before stays
      unfrozen_not_free (OnDisk same) = on_disk same

    -- ---- from the expiry on

    pub unfrozen_then_free : (during : ℕ → Type 0) → ((now : ℕ) → during now → expiry_at c.now (current_entry γ s c.block).word ≤ now)
        → Throughout γ (EntryStays γ c.block) (step γ s c).box es → Throughout γ (ShownFree γ c.block during) (step γ s c).box es
    unfrozen_then_free during from stays =
        let b = c.block in
        let e = current_entry γ s b in
        let bound = expiry_at c.now e.word in
        run_tracked σ b (EndsBy bound) (EntryStays γ b) (ends_stays b bound) (ShownFree γ b during)
        (λ t event h.
        state_shown_as σ b (λ shown. shown ≡ state_number Free) during t event
        (λ now q inside l.
        let past = from now l in
        ap state_number
        (state_free now (current_entry γ t b) (frozen_no (current_entry γ t b).stamp h.entry.0) (omega (arith, h.entry.1)))))
        (step γ s c).box es x.unforged.1 stays (tracked (EndsBy bound) (unfrozen_flag_lem c.now e, omega (arith, unfrozen_word c.now e)))
