-- A block's current entry along a run that brings no forged page. Assumes nothing.
use mathlib.Core.Path.{◌≡◌, refl, ap, sym, subst, ◌∙◌}
use mathlib.Core.Bool.{true}
use mathlib.Core.Logic.{⊎_elim}
use mathlib.Core.List.{List}
use Prim.Native.Nat.{ℕ, ◌≤◌, ◌<◌}
use Rattle.lockpage.specs.Geometry.{Geometry, Proper}
use Rattle.lockpage.specs.declared.Entry.{Entry as PageEntry}
use Rattle.lockpage.specs.declared.Update.{Update}
use Rattle.lockpage.specs.Entry.{EntryFits}
use Rattle.lockpage.specs.State.{state}
use Rattle.lockpage.specs.Update.{updated, allowed}
use Rattle.lockpage.specs.Page.{entry_at}
use Rattle.lockpage.proofs.UpdateLaw.{updated_fits}
use Rattle.addressing.specs.Map.{group_of, place_of}
use Rattle.memory.specs.Memory.{last_time, groups}
use Rattle.machine.specs.declared.Kind.TheVariants.{Change}
use Rattle.machine.specs.Command.{Box, Command, kind_of}
use Rattle.machine.specs.Tag.{current_entry}
use Rattle.machine.specs.Question.{refusal}
use Rattle.machine.specs.Step.{step, timed, Accepted}
use Rattle.machine.specs.Run.{Event, Given, Queried, after, Throughout}
use Rattle.machine.specs.Protection.{Unforged}
use Rattle.machine.specs.Expiry.{PageStays}
use Rattle.machine.proofs.KindLaw.{restart_number}
use Rattle.machine.proofs.QuestionLaw.{all_yes}
use Rattle.machine.proofs.StepLaw.{step_number, accepted_or_same}
use Rattle.machine.proofs.PassedLaw.{Timely, passed, timed_reads}
use Rattle.machine.proofs.QueryLaw.{query_passed, query_times, query_or_same}
use Rattle.machine.proofs.TimedLaw.{current_timed}
use Rattle.machine.proofs.RunLaw.{both_throughout, run_invariant}
use Rattle.machine.proofs.AfterLaw.{accepted_after}
use Rattle.machine.proofs.CurrentLaw.{entry_after}

-- γ is the box's geometry. Q t e is what is known of block b's current entry e when the last time is t
module _ (γ : Geometry) (b : ℕ) (Q : ℕ → PageEntry → Type 0) where
  pub record Tracked (s : Box) : Type 0 where
    pub of_box : group_of γ b < groups γ s.memory
    pub fits : EntryFits (current_entry γ s b)
    pub entry : Q (last_time γ s.memory) (current_entry γ s b)

  -- it stays known as time goes on, and when an event that In allows updates the block
  pub record StaysKnown (In : Box → Event → Type 0) : Type 0 where
    pub later : (t now : ℕ) (e : PageEntry) → t ≤ now → Q t e → Q now e
    pub update : (s : Box) (c : Command) (u : Update) (e : PageEntry) → In s (Given c) → Accepted γ s c → kind_of c ≡ Change u → c.block ≡ b
        → allowed u (state c.now e) ≡ true → Q c.now e → Q c.now (updated u c.now e)
    pub page : (s : Box) (c : Command) → In s (Given c) → PageStays γ b s (Given c)

-- γ is any proper geometry
module _ {γ : Geometry} (σ : Proper γ) (b : ℕ) (Q : ℕ → PageEntry → Type 0) (In : Box → Event → Type 0) (stays : StaysKnown γ b Q In) where
  tracked_command : (s : Box) (c : Command) → refusal γ s c ≡ 0 → Unforged γ s (Given c) → In s (Given c) → Tracked γ b Q s
      → Tracked γ b Q (step γ s c).box
  tracked_command s c r f i h =
      let a = accepted_after σ s c r in
      let q = passed σ (kind_of c) s c (all_yes σ (kind_of c) s c refl r) in
      let e = current_entry γ s b in
      let accepted : Accepted γ s c = step_number σ s c ∙ r in
      let known = stays.later (last_time γ s.memory) c.now e q.later h.entry in
      let x =
      entry_after σ (λ (e : PageEntry). EntryFits e × Q c.now e) b s c r f h.of_box (h.fits, known)
      (λ u k here may within.
      let fits = updated_fits u c.now e q.early h.fits within in
      (fits, (fits, stays.update s c u e i accepted k here may known)))
      (λ k. stays.page s c i accepted (restart_number c.kind c.value k)) in
      record {
        of_box = subst (λ (n : ℕ). group_of γ b < n) (sym a.same_groups) h.of_box;
        fits = x.0;
        entry = subst (λ (t : ℕ). Q t (current_entry γ (step γ s c).box b)) (sym a.time) x.1;
      }

  tracked_timed : (s : Box) (now : ℕ) → Timely γ s now → Tracked γ b Q s → Tracked γ b Q (timed γ s now)
  tracked_timed s now q h =
      let r = timed_reads σ s now q in
      let same : current_entry γ (timed γ s now) b ≡ current_entry γ s b = ap (λ (p : List ℕ). entry_at p (place_of γ b)) (current_timed σ s now q (group_of γ b)) in
      record {
        of_box = subst (λ (n : ℕ). group_of γ b < n) (sym r.groups) h.of_box;
        fits = subst EntryFits (sym same) h.fits;
        entry =
            subst (λ (t : ℕ). Q t (current_entry γ (timed γ s now) b)) (sym r.time)
            (subst (Q now) (sym same) (stays.later (last_time γ s.memory) now (current_entry γ s b) q.later h.entry));
      }

  tracked_event : (s : Box) (e : Event) → Unforged γ s e → In s e → Tracked γ b Q s → Tracked γ b Q (after γ s e)
  tracked_event s (Given c) f i h =
      ⊎_elim (λ r. tracked_command s c r f i h) (λ e. subst (Tracked γ b Q) (sym e) h) (accepted_or_same σ s c)
  tracked_event s (Queried q) f i h =
      ⊎_elim (λ r. subst (Tracked γ b Q) (sym (query_times σ s q r)) (tracked_timed s q.now (query_passed σ s q r).timely h))
      (λ e. subst (Tracked γ b Q) (sym e) h) (query_or_same σ s q)

  -- what holds of each event where the entry is tracked holds throughout
  pub run_tracked : (P : Box → Event → Type 0) → ((s : Box) (e : Event) → Tracked γ b Q s → P s e) → (s : Box) (es : List Event)
      → Throughout γ (Unforged γ) s es → Throughout γ In s es → Tracked γ b Q s → Throughout γ P s es
  run_tracked P each s es f i =
      run_invariant σ (Tracked γ b Q) (λ s e. Unforged γ s e × In s e) P each (λ s e x. tracked_event s e x.0 x.1) s es
      (both_throughout σ (Unforged γ) In s es f i)
