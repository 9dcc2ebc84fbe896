-- Each accepted command keeps a watched block, and so does a fair run: the invariant of SafeLaw.antt. Assumes nothing.
use mathlib.Core.Path.{◌≡◌, refl, ap, sym, subst, ◌∙◌}
use mathlib.Core.Bool.{true}
use mathlib.Core.Logic.{⊎_elim}
use mathlib.Core.List.{List}
use Prim.Native.Nat.{◌≤◌, ◌<◌}
use native.Mathlib.Omega.{arith}
use Rattle.lockpage.specs.Geometry.{Geometry, Proper}
use Rattle.lockpage.specs.declared.Update.TheVariants.{Unfreeze}
use Rattle.lockpage.specs.State.{state}
use Rattle.lockpage.proofs.UpdateLaw.{allowed_write}
use Rattle.machine.specs.declared.Kind.{Kind}
use Rattle.machine.specs.declared.Kind.TheVariants.{Change}
use Rattle.machine.specs.Command.{Box, Command, kind_of, brought_entry}
use Rattle.machine.specs.Question.{refusal}
use Rattle.machine.specs.Query.{Query, query_refusal, query_step}
use Rattle.machine.specs.Step.{step}
use Rattle.machine.specs.Run.{Event, Given, Queried, after, run, Throughout}
use Rattle.machine.specs.Protection.{Unforged}
use Rattle.machine.proofs.QuestionLaw.{all_yes}
use Rattle.machine.proofs.StepLaw.{accepted_or_same}
use Rattle.machine.proofs.PassedLaw.{passed, timed_reads}
use Rattle.machine.proofs.QueryLaw.{query_passed, query_times, query_or_same}
use Rattle.machine.proofs.RunLaw.{run_invariant, invariant_after}
use Rattle.machine.proofs.AfterLaw.{accepted_after}
use Rattle.machine.proofs.WatchedLaw.{Leaves}
use Rattle.machine.proofs.WatchedRunLaw.{command_watched, query_watched}
use Rattle.machine.proofs.SafeLaw.{Watch, Safe, SafeBox, Kept, safe_not_free, safe_updated}

-- γ is the box's geometry
module _ (γ : Geometry) where
  -- it brings no forged page, and does not unfreeze the block where none may
  abbrev pub Fair : Watch → Box → Event → Type 0
  Fair w s (Given c) = Unforged γ s (Given c) × (refusal γ s c ≡ 0 → kind_of c ≡ Change Unfreeze → c.block ≡ w.block → w.forever ≡ true → ⊥)
  Fair w s (Queried q) = Unit

-- γ is any proper geometry
module _ {γ : Geometry} (σ : Proper γ) (w : Watch) where
  -- no update before the bound makes a safe entry unsafe, and none is a write
  leaves_safe : (k : Kind) (c : Command) → (k ≡ Change Unfreeze → c.block ≡ w.block → w.forever ≡ true → ⊥) → w.start ≤ c.now → c.now < w.bound
      → Leaves γ w.block (λ l. l ≡ w.content) (Safe w) k c
  leaves_safe k c spares begun early =
      record {
        entry =
            λ u e same latest may within safe.
            let new = safe_updated w u (brought_entry γ c) c.now safe begun early latest may within (λ f. spares (e ∙ ap Change f) same) in
            (new.fits, new);
        content =
            λ lock e same may safe.
            absurd (safe_not_free w (brought_entry γ c) c.now safe early (allowed_write lock (state c.now (brought_entry γ c)) may));
      }

  -- a watch may begin with the command's time
  pub accepted_kept : (s : Box) (c : Command) → refusal γ s c ≡ 0 → Fair γ w s (Given c) → w.start ≤ c.now → (c.now < w.bound → SafeBox γ w s)
      → Kept γ w (step γ s c).box
  accepted_kept s c r f begun safe =
      let time = (accepted_after σ s c r).time in
      record {
        begun = omega arith;
        safe =
            λ l.
            let early : c.now < w.bound = omega arith in
            command_watched σ w.block (λ l. l ≡ w.content) (Safe w) s c r f.0 (leaves_safe (kind_of c) c (f.1 r) begun early) (safe early);
      }

  query_kept : (s : Box) (q : Query) → query_refusal γ s q ≡ 0 → Kept γ w s → Kept γ w (query_step γ s q).box
  query_kept s q r h =
      let known = (query_passed σ s q r).timely in
      let reads = timed_reads σ s q.now known in
      subst (Kept γ w) (sym (query_times σ s q r))
      (record {
        begun = omega (arith, reads.time, h.begun, known.later);
        safe =
            λ l.
            subst (SafeBox γ w) (query_times σ s q r)
            (query_watched σ w.block (λ l. l ≡ w.content) (Safe w) s q r (h.safe (omega (arith, reads.time, known.later))));
      })

  event_kept : (s : Box) (e : Event) → Fair γ w s e → Kept γ w s → Kept γ w (after γ s e)
  event_kept s (Given c) f h =
      ⊎_elim
      (λ r.
      let q = passed σ (kind_of c) s c (all_yes σ (kind_of c) s c refl r) in
      accepted_kept s c r f (omega (arith, h.begun, q.later)) (λ l. h.safe (omega (arith, q.later))))
      (λ e. subst (Kept γ w) (sym e) h)
      (accepted_or_same σ s c)
  event_kept s (Queried q) f h = ⊎_elim (λ r. query_kept s q r h) (λ e. subst (Kept γ w) (sym e) h) (query_or_same σ s q)

  -- what holds of each event where the block is kept holds throughout a fair run
  pub run_kept : (P : Box → Event → Type 0) → ((s : Box) (e : Event) → Kept γ w s → P s e) → (s : Box) (es : List Event)
      → Throughout γ (Fair γ w) s es → Kept γ w s → Throughout γ P s es
  run_kept P each = run_invariant σ (Kept γ w) (Fair γ w) P each event_kept

  -- and at its end the block is kept
  pub kept_after : (s : Box) (es : List Event) → Throughout γ (Fair γ w) s es → Kept γ w s → Kept γ w (run γ s es)
  kept_after = invariant_after σ (Kept γ w) (Fair γ w) event_kept
