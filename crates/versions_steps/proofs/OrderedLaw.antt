-- The orders that the code gives come to what a version and a log block are to do, and leave a box to which another can be given. Assumes nothing.
use mathlib.Core.Path.{◌≡◌, refl, ap, sym, subst, ◌∙◌}
use mathlib.Mathlib.Data.Bool.Basic.{and_elim_left, and_elim_right}
use mathlib.Core.List.{List, [], ◌∷◌}
use Rattle.std.specs.Prelude.{Option, Some, None}
use Prim.Native.Nat.{ℕ}
use native.Mathlib.Omega.{arith}
use borrow.Author.Tests.{eqb-true, leb-true}
use lib.ListN.{length}
use lib.Dec.{leb}
use Rattle.lockpage.specs.Geometry.{Geometry, Proper}
use Rattle.lockpage.specs.Update.{latest_time}
use Rattle.addressing.specs.Map.{disk_size}
use Rattle.memory.specs.Memory.{last_time, groups}
use Rattle.machine.specs.Command.{Box}
use Rattle.machine.specs.Question.{first_no}
use Rattle.machine.specs.Step.{step}
use Rattle.machine.proofs.CaseLaw.{same_or_not}
use Rattle.machine.proofs.QuestionLaw.{numbered_to, accepted_yes}
use Rattle.versions_machine.specs.Versions.{Range, Versions, entered, logged}
use Rattle.versions_machine.specs.Log.{log_block}
use Rattle.versions_machine.specs.Allocation.{next_available, next_for}
use Rattle.versions_machine.specs.Plan.{Order, writing, unfreezing, unfreezes, Carried, carried_of, given, carried_out, log_plan}
use Rattle.versions_machine.specs.Call.{box_questions, flush}
use Rattle.versions_machine.proofs.CarryLaw.{carried_on, carried_stops, flush_unaltered}
use Rattle.versions_machine.proofs.OrdersLaw.{carried_append, carried_valid}
use Rattle.versions_orders.specs.Ready.{OrderReady}
use Rattle.versions_state.specs.State.{state_bytes, versions_in}
use Rattle.versions_state.proofs.ValidLaw.{count_read, sound}
use Rattle.versions_bytes.specs.Call.{called_of, handed}
use Rattle.versions_steps.specs.Ready.{VersionReady, FlushReady}
use Rattle.versions_steps.proofs.PutLaw.{handed_none, handed_all}
use Rattle.versions_steps.proofs.FlushLaw.{flush_number, flush_logs}

module _ {γ : Geometry} (σ : Proper γ) where
  -- ---- the box

  -- questions 1, 2 and 4 have yes
  pub order_ready : (ρ : Range) (ν : Versions) (s : Box) (now : ℕ) → first_no (box_questions γ ρ ν s now) ≡ 0 → OrderReady γ s now
  unfolding numbered_to
  order_ready ρ ν s now e =
      let h = accepted_yes 14 (box_questions γ ρ ν s now) refl e in
      let m = s.memory in
      let last = leb (last_time γ m) now in
      let latest = leb now latest_time in
      record {
        valid = record { memory = h.0; disk = eqb-true (length s.disk) (disk_size γ (groups γ m)) h.1.0 };
        later = leb-true (last_time γ m) now (and_elim_left last latest h.1.1.0);
        early = leb-true now latest_time (and_elim_right last latest h.1.1.0);
      }

  -- ---- a version's own two orders

  module _ (s : Box) (block now lock : ℕ) (content : List ℕ) (replaced : Option ℕ) (h : VersionReady γ s block now lock content replaced)
      (r : ℕ) (t : Box) (e : carried_of r t ≡ carried_out γ s (writing block now lock content ∷ [])) where
    abbrev o : Order
    o = writing block now lock content

    -- the first leaves a box for the second
    pub second_ready : OrderReady γ t now
    second_ready =
        let c = carried_append σ s (o ∷ []) (unfreezes replaced now) h.accepted in
        let v = carried_valid σ now s o [] (refl, tt) c.0 in
        subst (λ (x : Carried). OrderReady γ x.box now) (sym e) (record { valid = v.0; later = omega (arith, v.1); early = h.box.early })

    -- where there is none to unfreeze, it is the only one
    pub wrote_first : replaced ≡ None → t ≡ (carried_out γ s (o ∷ unfreezes replaced now)).box
    unfolding unfreezes
    wrote_first n = ap (λ (x : Carried). x.box) e ∙ ap (λ (x : Option ℕ). (carried_out γ s (o ∷ unfreezes x now)).box) (sym n)

    pub wrote_both : (old : ℕ) → replaced ≡ Some old → (q : ℕ) (u : Box) → carried_of q u ≡ carried_out γ t (unfreezing old now ∷ [])
        → u ≡ (carried_out γ s (o ∷ unfreezes replaced now)).box
    unfolding unfreezes
    wrote_both old n q u f =
        let c = carried_append σ s (o ∷ []) (unfreezes replaced now) h.accepted in
        ap (λ (x : Carried). x.box) f
        ∙ ap (λ (x : Carried). (carried_out γ x.box (unfreezing old now ∷ [])).box) e
        ∙ ap (λ (x : Option ℕ). (carried_out γ (carried_out γ s (o ∷ [])).box (unfreezes x now)).box) (sym n)
        ∙ ap (λ (x : Carried). x.box) (sym c.1)

  -- ---- a log block

  -- it was given with what the state and the search said
  gave_log : (ρ : Range) (ν : Versions) (s t : Box) (now reserve lock pointer r : ℕ) (content : List ℕ) → reserve ≡ ν.reserve → lock ≡ ν.lock
      → pointer ≡ next_for γ ρ s now ν → content ≡ log_block γ ν.records pointer → carried_of r t ≡ carried_out γ s (writing reserve now lock content ∷ [])
      → carried_of r t ≡ carried_out γ s (log_plan γ ρ ν s now).orders
  unfolding log_plan
  gave_log ρ ν s t now reserve lock pointer r content er el ep ec e = e ∙ ap (carried_out γ s) (rw (er, el, ec, ep))

  -- its pointer is the reserve now
  log_after : (ρ : Range) (ν : Versions) (s : Box) (now pointer : ℕ) (after : List ℕ) → pointer ≡ next_for γ ρ s now ν
      → after ≡ state_bytes γ (logged ν pointer) → after ≡ state_bytes γ (log_plan γ ρ ν s now).after
  unfolding log_plan
  log_after ρ ν s now pointer after ep ea = ea ∙ ap (λ (a : ℕ). state_bytes γ (logged ν a)) ep

  -- the one that a record fills
  pub full_stored : (ρ : Range) (ν : Versions) (s t : Box) (part block now reserve lock pointer r : ℕ) (content after : List ℕ) → reserve ≡ ν.reserve
      → lock ≡ ν.lock → pointer ≡ next_available γ ρ s now reserve block → content ≡ log_block γ (entered ν part block).records pointer
      → carried_of r t ≡ carried_out γ s (writing reserve now lock content ∷ []) → after ≡ state_bytes γ (logged (entered ν part block) pointer)
      → (after ≡ state_bytes γ (log_plan γ ρ (entered ν part block) s now).after)
      × (t ≡ (carried_out γ s (log_plan γ ρ (entered ν part block) s now).orders).box)
  unfolding entered
  full_stored ρ ν s t part block now reserve lock pointer r content after er el ep ec e ea =
      let ν' = entered ν part block in
      let next = ep ∙ ap (λ (k : ℕ). next_available γ ρ s now k block) er in (
        log_after ρ ν' s now pointer after next ea,
        ap (λ (x : Carried). x.box) (gave_log ρ ν' s t now reserve lock pointer r content er el next ec e),
      )

  -- a refused order leaves the box
  refused_box : (s t : Box) (o : Order) (r : ℕ) → carried_of r t ≡ carried_out γ s (o ∷ []) → (r ≡ 0 → ⊥) → t ≡ s
  unfolding carried_out
  refused_box s t o r e n =
      same_or_not (step γ s (given γ s o)).number 0
      (λ a. absurd (n (ap (λ (x : Carried). x.number) (e ∙ carried_on γ s o [] a))))
      (λ d. ap (λ (x : Carried). x.box) (e ∙ carried_stops γ s o [] d))

  -- the one that is stored on demand
  module _ (ρ : Range) (state : List ℕ) (s t : Box) (now reserve lock pointer r : ℕ) (content : List ℕ) (h : FlushReady γ ρ state s pointer now)
      (er : reserve ≡ (versions_in state).reserve) (el : lock ≡ (versions_in state).lock)
      (ec : content ≡ log_block γ (versions_in state).records pointer) (e : carried_of r t ≡ carried_out γ s (writing reserve now lock content ∷ [])) where
    abbrev ν : Versions
    ν = versions_in state

    given_log : carried_of r t ≡ carried_out γ s (log_plan γ ρ ν s now).orders
    given_log = gave_log ρ ν s t now reserve lock pointer r content er el h.pointer_is ec e

    some : length ν.records ≡ 0 → ⊥
    some z = h.records (sym (count_read γ state) ∙ z)

    number_is : (flush γ ρ ν s now).number ≡ r
    number_is =
        flush_number σ ρ ν s now (sound γ state h.valid) some h.asked ∙ ap (λ (x : Carried). x.number) (sym given_log)

    pub flush_refused : (r ≡ 0 → ⊥) → (k : ℕ) → k ≡ r → called_of k 0 state t ≡ handed γ state (flush γ ρ ν s now)
    flush_refused n k ek =
        ap (λ (i : ℕ). called_of i 0 state t) ek
        ∙ ap (called_of r 0 state) (refused_box s t (writing reserve now lock content) r e n)
        ∙ sym (handed_none σ state s (flush γ ρ ν s now) r number_is n (flush_unaltered γ ρ ν s now (λ z. n (sym number_is ∙ z))))

    pub flush_stored : r ≡ 0 → (after : List ℕ) → after ≡ state_bytes γ (logged ν pointer) → called_of 0 0 after t ≡ handed γ state (flush γ ρ ν s now)
    flush_stored z after ea =
        let a = ap (λ (x : Carried). x.number) (sym given_log) ∙ z in
        let plan = log_plan γ ρ ν s now in
        ap (λ (xs : List ℕ). called_of 0 0 xs t) (log_after ρ ν s now pointer after h.pointer_is ea)
        ∙ ap (λ (x : Carried). called_of 0 0 (state_bytes γ plan.after) x.box) given_log
        ∙ sym
        (handed_all σ state (flush γ ρ ν s now) 0 plan.after (carried_out γ s plan.orders).box
        (flush_logs σ ρ ν s now (sound γ state h.valid) some h.asked a))
