-- A block that is frozen under a lock at the point is kept until the lock's length later, whatever is done after the point. Assumes nothing.
use mathlib.Core.Path.{◌≡◌, refl, ap, sym, subst, ◌∙◌}
use mathlib.Core.Bool.{true, false, not, false≢true}
use mathlib.Mathlib.Data.Bool.Basic.{and_intro}
use mathlib.Core.Logic.{inl}
use mathlib.Core.List.{List}
use Prim.Native.Nat.{ℕ, ◌+◌, ◌≤◌, ◌<◌}
use native.Mathlib.Omega.{arith}
use borrow.Author.Tests.{le-leb, lt-ltb}
use Rattle.octets.specs.Part.{AreBytes}
use Rattle.lockpage.specs.Geometry.{Geometry, Proper}
use Rattle.lockpage.specs.declared.Entry.{Entry}
use Rattle.lockpage.specs.declared.State.{State}
use Rattle.lockpage.specs.declared.State.TheVariants.{Free, Frozen, Counting}
use Rattle.lockpage.specs.Entry.{entry, stamp_of, time_of_write, flag, frozen_flag}
use Rattle.lockpage.specs.State.{state}
use Rattle.lockpage.specs.Update.{expiry_at}
use Rattle.lockpage.specs.Page.{entry_at}
use Rattle.lockpage.proofs.EntryLaw.{time_of_write_stamp_of, flag_stamp_of}
use Rattle.lockpage.proofs.UpdateLaw.{expiry_some}
use Rattle.addressing.specs.Map.{data_blocks, group_of, place_of}
use Rattle.addressing.proofs.MapLaw.{group_of_below}
use Rattle.memory.specs.Memory.{last_time, groups, held, none}
use Rattle.validity.proofs.ValidLaw.{Valid}
use Rattle.machine.specs.Command.{Box, Command}
use Rattle.machine.specs.Step.{Accepted, step, padded}
use Rattle.machine.specs.Tag.{current_entry}
use Rattle.machine.specs.Run.{Event, Given, run, Throughout}
use Rattle.machine.specs.Protection.{Unforged, start_entry}
use Rattle.machine.proofs.TagLaw.{current_other}
use Rattle.machine.proofs.PassedLaw.{Timely}
use Rattle.machine.proofs.SafeLaw.{Watch, Safe, Locked, Kept, safe_not_free}
use Rattle.machine.proofs.KeptLaw.{kept_after}
use Rattle.machine.proofs.ShownLaw.{current_safe, event_shown}
use Rattle.machine.proofs.AlikeLaw.{watch, fair, start_kept}
use Rattle.versions_machine.specs.Allocation.{is_free, whole_box}
use Rattle.versions_machine.specs.History.{Locked as Written, Holds}
use Rattle.recovery_machine.specs.Walk.{written_at, content_of, is_kept}

not_free : (x : State) → (x ≡ Free → ⊥) → not (is_free x) ≡ true
not_free Free n = absurd (n refl)
not_free Frozen n = refl
not_free Counting n = refl

-- ---- a box at the point, with none held

module _ {γ : Geometry} (σ : Proper γ) (t : Box) (point R : ℕ) where
  pub record AtPoint : Type 0 where
    pub valid : Valid γ t.memory
    pub time : last_time γ t.memory ≡ point
    pub none_held : held γ t.memory ≡ none
    pub bytes : AreBytes t.disk
    pub some : 1 ≤ R

  module _ (p : AtPoint) where
    -- what is current is on the disk
    pub entry_stored : (b : ℕ) → b < data_blocks γ (groups γ t.memory) → start_entry γ t b ≡ current_entry γ t b
    entry_stored b inside =
        ap (λ (l : List ℕ). entry_at l (place_of γ b))
        (sym
        (current_other σ t (group_of γ b) (λ e. omega (arith, e, p.none_held, group_of_below σ (groups γ t.memory) b inside, p.valid.most))))

    module _ (b : ℕ) (w : Written) (h : Holds γ t b w) (under : w.lock ≡ R) where
      abbrev as_written : Entry
      as_written = entry w.lock (stamp_of w.time frozen_flag)

      start_is : start_entry γ t b ≡ as_written
      start_is = entry_stored b h.range ∙ h.entry

      -- until the point and the lock's length
      abbrev lock_watch : Watch
      lock_watch = watch γ t b (point + R) false

      locked : Locked lock_watch (start_entry γ t b)
      unfolding watch
      locked =
          let word : (start_entry γ t b).word ≡ R = ap (λ (e : Entry). e.word) start_is ∙ under in
          let long : expiry_at (last_time γ t.memory) (start_entry γ t b).word ≡ last_time γ t.memory + R + 1 =
          ap (expiry_at (last_time γ t.memory)) word ∙ expiry_some (last_time γ t.memory) R p.some in
          inl
          (ap (λ (e : Entry). flag e.stamp) start_is ∙ flag_stamp_of w.time frozen_flag (omega arith), inl (omega (arith, long, p.time)))

      -- ---- at the end of a run

      module _ (es : List Event) (unforged : Throughout γ (Unforged γ) t es) where
        kept : Kept γ lock_watch (run γ t es)
        unfolding watch
        kept =
            kept_after σ lock_watch t es (fair σ lock_watch t es unforged (λ f. absurd (false≢true f)))
            (start_kept σ t b (point + R) false p.bytes p.none_held locked)

        -- a read before the bound
        pub still_reads : (c : Command) → Accepted γ (run γ t es) c → c.kind ≡ 1 → c.block ≡ b → c.now < point + R
            → (step γ (run γ t es) c).answer ≡ padded γ w.content
        unfolding watch
        still_reads c a kind here early = (event_shown σ lock_watch (run γ t es) (Given c) kept).read a kind here early ∙ ap (padded γ) h.stored

        module _ (now : ℕ) (timely : Timely γ (run γ t es) now) (same : groups γ (run γ t es).memory ≡ groups γ t.memory) (early : now < point + R) where
          inside : b < data_blocks γ (groups γ (run γ t es).memory)
          inside = subst (λ (g : ℕ). b < data_blocks γ g) (sym same) h.range

          safe : Safe lock_watch (current_entry γ (run γ t es) b)
          unfolding watch
          safe = current_safe σ lock_watch (run γ t es) now b kept timely inside refl early

          pub still_time : written_at γ (run γ t es) b ≡ w.time
          unfolding watch
          still_time = safe.time ∙ ap time_of_write start_is ∙ time_of_write_stamp_of w.lock w.time frozen_flag (omega arith)

          pub still_content : content_of γ (run γ t es) b ≡ w.content
          unfolding watch
          still_content = (kept.safe (omega (arith, timely.later))).disk.content ∙ h.stored

          still_not_free : state now (current_entry γ (run γ t es) b) ≡ Free → ⊥
          unfolding watch
          still_not_free = safe_not_free lock_watch (current_entry γ (run γ t es) b) now safe early

          pub still_kept : w.time ≤ point → is_kept γ (whole_box γ (groups γ t.memory)) (run γ t es) point now b ≡ true
          unfolding is_kept
          still_kept by =
              and_intro
              (and_intro (le-leb 0 b (omega arith)) (lt-ltb b (0 + data_blocks γ (groups γ t.memory)) (omega (arith, h.range))))
              (and_intro (not_free (state now (current_entry γ (run γ t es) b)) still_not_free)
              (le-leb (written_at γ (run γ t es) b) point (omega (arith, still_time))))
