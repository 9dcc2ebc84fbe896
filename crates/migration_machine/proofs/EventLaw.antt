-- Every event shows the same once the box's memory is migrated, and leaves the migrated box of what it leaves: a query, an event, a run.
-- Assumes nothing.
use mathlib.Core.Path.{◌≡◌, refl, ap, ap₂, sym, ◌∙◌}
use mathlib.Core.Bool.{true}
use mathlib.Core.Logic.{⊎_elim}
use mathlib.Core.List.{List, [], ◌∷◌, flat_map}
use Prim.Native.Nat.{ℕ}
use lib.ListN.{length}
use Rattle.lockpage.specs.Geometry.{Geometry, Proper, widened}
use Rattle.addressing.specs.Map.{data_blocks, group_of}
use Rattle.memory.specs.Layout.{memory_size}
use Rattle.validity.specs.Valid.{valid}
use Rattle.validity.proofs.ValidLaw.{facts}
use Rattle.machine.specs.Command.{Box, Outcome}
use Rattle.machine.specs.Step.{timed}
use Rattle.machine.specs.Query.{Query, QueryOutcome, query_outcome_of, numbers, shown_state, shown_states, pages_read, query_refusal, query_accepted, query_step}
use Rattle.machine.specs.Run.{Event, Given, Queried, after, run}
use Rattle.machine.proofs.CaseLaw.{same_or_not}
use Rattle.machine.proofs.StepLaw.{accepted_or_same}
use Rattle.machine.proofs.PassedLaw.{timely_timed}
use Rattle.machine.proofs.QueryLaw.{query_passed, query_accepted_lem, query_refused, query_or_same, query_valid}
use Rattle.machine.proofs.ValidBoxLaw.{accepted_valid}
use Rattle.migration_machine.specs.Migrate.{Wider}
use Rattle.migration_machine.specs.Promise.{Seen, seen_of, seen, trace, moved_box}
use Rattle.migration_machine.proofs.FieldLaw.{migrated_groups}
use Rattle.migration_machine.proofs.BoxLaw.{current_entry_moves, question1_moves, question2_moves, question4_moves}
use Rattle.migration_machine.proofs.MovedLaw.{timed_moves, step_moves}

-- a query's outcome with its memory migrated
abbrev pub moved_query : Geometry → ℕ → QueryOutcome → QueryOutcome
moved_query γ n o = query_outcome_of o.number o.pages (moved_box γ n o.box) o.answer

-- γ is any proper geometry
module _ {γ : Geometry} (σ : Proper γ) where
  -- an event leaves a valid memory, whatever the disk's length: where that is wrong nothing changes
  pub valid_after : (s : Box) (e : Event) → valid γ s.memory ≡ true → valid γ (after γ s e).memory ≡ true
  valid_after s (Given c) v =
      ⊎_elim (λ r. (accepted_valid σ s c r).memory) (λ e. ap (λ (b : Box). valid γ b.memory) e ∙ v) (accepted_or_same σ s c)
  valid_after s (Queried q) v =
      ⊎_elim (λ r. (query_valid σ s q r).memory) (λ e. ap (λ (b : Box). valid γ b.memory) e ∙ v) (query_or_same σ s q)

-- γ is the old box's geometry, and the new one has n groups at most
module _ {γ : Geometry} (σ : Proper γ) {n : ℕ} (ω : Wider γ n) where
  -- ---- a query

  shown_moves : (s : Box) → length s.memory ≡ memory_size γ → (now : ℕ) (bs : List ℕ)
      → shown_states (widened γ n) (moved_box γ n s) now bs ≡ shown_states γ s now bs
  unfolding shown_states
  shown_moves s l now bs = λ i. flat_map (λ a. shown_state now (current_entry_moves σ ω s l a i)) bs

  module _ (s : Box) (q : Query) where
    query_refusal_moves : valid γ s.memory ≡ true → query_refusal (widened γ n) (moved_box γ n s) q ≡ query_refusal γ s q
    unfolding query_refusal data_blocks
    query_refusal_moves v =
        let m = s.memory in
        rw (question1_moves σ ω m v, question2_moves σ ω m v s.disk, question4_moves σ ω m v q.now, migrated_groups σ ω m (facts σ m v).size)

    query_accepted_moves : query_refusal γ s q ≡ 0 → query_accepted (widened γ n) (moved_box γ n s) q ≡ moved_query γ n (query_accepted γ s q)
    unfolding query_accepted pages_read group_of
    query_accepted_moves r =
        let known = (query_passed σ s q r).timely in
        let t = timed γ s q.now in
        let bs = numbers q.blocks in
        ap (λ (b : Box). query_outcome_of 0 (pages_read γ bs) b (shown_states (widened γ n) b q.now bs))
        (timed_moves σ ω s q.now known.memory.size)
        ∙ ap (query_outcome_of 0 (pages_read γ bs) (moved_box γ n t)) (shown_moves t (timely_timed σ s q.now known).memory.size q.now bs)

    pub query_moves : valid γ s.memory ≡ true → query_step (widened γ n) (moved_box γ n s) q ≡ moved_query γ n (query_step γ s q)
    query_moves v =
        let number = query_refusal_moves v in
        same_or_not (query_refusal γ s q) 0
        (λ r.
        query_accepted_lem ω.proper (moved_box γ n s) q (number ∙ r)
        ∙ query_accepted_moves r
        ∙ ap (moved_query γ n) (sym (query_accepted_lem σ s q r)))
        (λ z.
        query_refused ω.proper (moved_box γ n s) q (λ e. z (sym number ∙ e))
        ∙ ap (λ (i : ℕ). query_outcome_of i 0 (moved_box γ n s) q.answer) number
        ∙ ap (moved_query γ n) (sym (query_refused σ s q z)))

  -- ---- an event

  pub after_moves : (s : Box) (e : Event) → valid γ s.memory ≡ true → after (widened γ n) (moved_box γ n s) e ≡ moved_box γ n (after γ s e)
  after_moves s (Given c) v = ap (λ (o : Outcome). o.box) (step_moves σ ω s c v)
  after_moves s (Queried q) v = ap (λ (o : QueryOutcome). o.box) (query_moves s q v)

  pub seen_moves : (s : Box) (e : Event) → valid γ s.memory ≡ true → seen (widened γ n) (moved_box γ n s) e ≡ seen γ s e
  seen_moves s (Given c) v = ap (λ (o : Outcome). seen_of o.number 0 o.answer o.box.disk) (step_moves σ ω s c v)
  seen_moves s (Queried q) v = ap (λ (o : QueryOutcome). seen_of o.number o.pages o.answer o.box.disk) (query_moves s q v)

  -- ---- a list of them

  pub run_moves : (s : Box) (es : List Event) → valid γ s.memory ≡ true → run (widened γ n) (moved_box γ n s) es ≡ moved_box γ n (run γ s es)
  run_moves s [] v = refl
  run_moves s (e ∷ es) v =
      ap (λ (b : Box). run (widened γ n) b es) (after_moves s e v) ∙ run_moves (after γ s e) es (valid_after σ s e v)

  pub trace_moves : (s : Box) (es : List Event) → valid γ s.memory ≡ true → trace (widened γ n) (moved_box γ n s) es ≡ trace γ s es
  trace_moves s [] v = refl
  trace_moves s (e ∷ es) v =
      ap₂ (λ (x : Seen) (b : Box). x ∷ trace (widened γ n) b es) (seen_moves s e v) (after_moves s e v)
      ∙ ap (λ (xs : List Seen). seen γ s e ∷ xs) (trace_moves (after γ s e) es (valid_after σ s e v))
