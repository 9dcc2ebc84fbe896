-- Where the log ends: a block that is free at the point stays free, or it is written after the point; so the walk stops there, whatever
-- was done to it. Assumes nothing.
use mathlib.Core.Path.{◌≡◌, ap, sym, ◌∙◌}
use mathlib.Core.Bool.{Bool, true, false, ◌&&◌, not, false≢true, and-false}
use mathlib.Core.Logic.{◌⊎◌, inl, inr, ⊎_elim}
use mathlib.Core.List.{List, any}
use Prim.Native.Nat.{ℕ, ◌≤◌, ◌<◌}
use native.Mathlib.Omega.{arith}
use borrow.Author.Tests.{lt-leb}
use lib.Dec.{eqb, leb}
use Rattle.octets.specs.Part.{AreBytes}
use Rattle.lockpage.specs.Geometry.{Geometry, Proper}
use Rattle.lockpage.specs.declared.Entry.{Entry}
use Rattle.lockpage.specs.declared.State.{State}
use Rattle.lockpage.specs.declared.State.TheVariants.{Free, Frozen}
use Rattle.lockpage.specs.declared.Update.{Update}
use Rattle.lockpage.specs.declared.Update.TheVariants.{Write, Unfreeze, Increment}
use Rattle.lockpage.specs.Entry.{EntryFits, time_of_write}
use Rattle.lockpage.specs.State.{state}
use Rattle.lockpage.specs.Update.{updated, allowed}
use Rattle.lockpage.proofs.StateLaw.{stays_free}
use Rattle.lockpage.proofs.UpdateLaw.{updated_fits, written_time, unfrozen_time, grown_time, allowed_unfreeze, allowed_increment}
use Rattle.lockpage.proofs.PageLaw.{entry_at_fits}
use Rattle.addressing.specs.Map.{group_of, place_of, page_block}
use Rattle.disk.specs.Disk.{block}
use Rattle.disk.proofs.DiskLaw.{block_are}
use Rattle.memory.specs.Memory.{held, none}
use Rattle.machine.specs.declared.Kind.{Kind}
use Rattle.machine.specs.Command.{Box, Command, brought_entry}
use Rattle.machine.specs.Tag.{current_entry}
use Rattle.machine.specs.Run.{Event, time_of, run, Throughout}
use Rattle.machine.specs.Protection.{Unforged, start_entry}
use Rattle.machine.proofs.WatchedLaw.{Watched, Leaves}
use Rattle.machine.proofs.WatchedRunLaw.{run_watched}
use Rattle.versions_machine.specs.Versions.{Range}
use Rattle.versions_machine.specs.Allocation.{is_free}
use Rattle.recovery_machine.specs.Walk.{is_in_range, written_at, is_kept, goes_on}

-- it was free at the point, or it was written after it
abbrev pub Unkept : ℕ → Entry → Type 0
Unkept point e = EntryFits e × ((state point e ≡ Free) ⊎ (point < time_of_write e))

free_not_frozen : Free ≡ Frozen → ⊥
free_not_frozen e = false≢true (sym (ap is_free e))

-- ---- after the point no update makes it a block that was kept then

updated_late : (point : ℕ) (u : Update) (t : ℕ) (e : Entry) → point < t → allowed u (state t e) ≡ true → (state point e ≡ Free) ⊎ (point < time_of_write e)
    → point < time_of_write (updated u t e)
updated_late point (Write lock) t e l may h = omega (arith, written_time lock t e)
updated_late point Unfreeze t e l may h =
    ⊎_elim
    (λ f. absurd (free_not_frozen (sym (stays_free point t e (omega arith) f) ∙ allowed_unfreeze (state t e) may)))
    (λ late. omega (arith, unfrozen_time t e)) h
updated_late point (Increment value) t e l may h =
    ⊎_elim (λ f. absurd (allowed_increment value (state t e) may (stays_free point t e (omega arith) f)))
    (λ late. omega (arith, grown_time value t e)) h

-- ---- along a run

module _ {γ : Geometry} (σ : Proper γ) (b point : ℕ) where
  -- nothing is said of its content
  abbrev Anything : List ℕ → Type 0
  Anything l = Unit

  leaves_unkept : (k : Kind) (c : Command) → point < c.now → Leaves γ b Anything (Unkept point) k c
  leaves_unkept k c late =
      record {
        entry =
            λ u e same latest may within h.
            let fits = updated_fits u c.now (brought_entry γ c) latest h.0 within in
            (fits, (fits, inr (updated_late point u c.now (brought_entry γ c) late may h.1)));
        content = λ lock e same may h. tt;
      }

  pub end_watched : (s : Box) (es : List Event) → AreBytes s.disk → held γ s.memory ≡ none → state point (start_entry γ s b) ≡ Free
      → Throughout γ (Unforged γ) s es → Throughout γ (λ s e. point < time_of e) s es → Watched γ b Anything (Unkept point) (run γ s es)
  end_watched s es bytes none_held free unforged late =
      let page = block γ s.disk (page_block γ (group_of γ b)) in
      run_watched σ b Anything (Unkept point) (λ s e. point < time_of e) (λ s c l r. leaves_unkept _ c l) s es unforged late
      (record {
        disk = record { content = tt; page = (entry_at_fits page (place_of γ b) (block_are σ s.disk (page_block γ (group_of γ b)) bytes), inl free) };
        held = λ m e. absurd (m none_held);
      })

-- ---- the walk stops there

module _ (γ : Geometry) (ρ : Range) (s : Box) (point now : ℕ) where
  unkept_not_kept : (a : ℕ) → point ≤ now → Unkept point (current_entry γ s a) → is_kept γ ρ s point now a ≡ false
  unfolding is_kept
  unkept_not_kept a h u =
      let e = current_entry γ s a in
      let kept : Bool → Bool = λ b. is_in_range ρ a && b in
      let free : State → Bool = λ x. is_in_range ρ a && (not (is_free x) && leb (time_of_write e) point) in
      let late : Bool → Bool = λ b. is_in_range ρ a && (not (is_free (state now e)) && b) in
      ⊎_elim (λ f. ap free (stays_free point now e h f) ∙ and-false (is_in_range ρ a))
      (λ l.
      ap late (lt-leb (time_of_write e) point l) ∙ ap kept (and-false (not (is_free (state now e)))) ∙ and-false (is_in_range ρ a))
      u.1

  pub stops_at : (a : ℕ) → point ≤ now → Unkept point (current_entry γ s a) → (walked : List ℕ) (parent : ℕ)
      → goes_on γ ρ s point now walked parent a ≡ false
  unfolding goes_on
  stops_at a h u walked parent =
      ap (λ (b : Bool). b && (leb parent (written_at γ s a) && not (any walked (eqb a)))) (unkept_not_kept a h u)
