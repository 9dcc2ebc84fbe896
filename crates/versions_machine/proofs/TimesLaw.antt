-- From call to call the last time doesn't fall, the number of groups stays, and a valid box stays valid: whatever the calls are. Assumes
-- nothing.
use mathlib.Core.Path.{◌≡◌, refl, ap, sym, subst, ◌∙◌}
use mathlib.Core.Logic.{⊎_elim}
use mathlib.Core.List.{List, [], ◌∷◌}
use Prim.Native.Nat.{ℕ, ◌≤◌, ◌<◌}
use native.Mathlib.Omega.{arith}
use Rattle.lockpage.specs.Geometry.{Geometry, Proper}
use Rattle.addressing.specs.Map.{data_blocks}
use Rattle.memory.specs.Memory.{last_time, groups}
use Rattle.machine.specs.Command.{Box, Command, kind_of}
use Rattle.machine.specs.Question.{refusal}
use Rattle.machine.specs.Step.{step}
use Rattle.machine.specs.Query.{Query, query_step}
use Rattle.machine.specs.Run.{Event, Given, Queried, after}
use Rattle.machine.specs.Claims.{ValidBox}
use Rattle.machine.proofs.QuestionLaw.{all_yes}
use Rattle.machine.proofs.StepLaw.{accepts, accepted_or_same}
use Rattle.machine.proofs.PassedLaw.{passed, changes, timed_reads}
use Rattle.machine.proofs.QueryLaw.{query_passed, query_times, query_or_same, query_valid}
use Rattle.machine.proofs.ValidBoxLaw.{accepted_valid}
use Rattle.machine.proofs.AfterLaw.{accepted_after}
use Rattle.versions_machine.specs.Versions.{Range, Versions}
use Rattle.versions_machine.specs.Log.{log_block}
use Rattle.versions_machine.specs.Allocation.{next_for}
use Rattle.versions_machine.specs.Plan.{Order, writing, unfreezes, given, carried_out, log_plan, version_orders, put_plan}
use Rattle.versions_machine.specs.Call.{put, put_questions, flush, flush_questions, flush_plan}
use Rattle.versions_machine.specs.Run.{Call, PutPart, Flush, Between, Site, called, calls}
use Rattle.versions_machine.proofs.HoldsLaw.{order_yes}
use Rattle.versions_machine.proofs.CarryLaw.{carried_first, either_way}
use Rattle.versions_machine.proofs.ForesightLaw.{EachAt}
use Rattle.versions_machine.proofs.AcceptLaw.{unfreezes_at}
use Rattle.versions_machine.proofs.OrdersLaw.{carried_keeps, each_any, carried_groups, carried_valid}

-- box t comes after box s
pub record Onward (γ : Geometry) (s t : Box) : Type 0 where
  pub same_groups : groups γ t.memory ≡ groups γ s.memory
  pub later : last_time γ s.memory ≤ last_time γ t.memory
  pub valid : ValidBox γ s → ValidBox γ t

module _ {γ : Geometry} (σ : Proper γ) where
  onward_same : (s t : Box) → t ≡ s → Onward γ s t
  onward_same s t e = subst (Onward γ s) (sym e) (record { same_groups = refl; later = omega arith; valid = λ v. v })

  onward_on : (s t u : Box) → Onward γ s t → Onward γ t u → Onward γ s u
  onward_on s t u h k =
      record {
        same_groups = k.same_groups ∙ h.same_groups;
        later = omega (arith, h.later, k.later);
        valid = λ v. k.valid (h.valid v);
      }

  -- ---- a command, a query, orders

  -- an accepted command isn't timed before the last
  pub accepted_later : (s : Box) (c : Command) → refusal γ s c ≡ 0 → last_time γ s.memory ≤ c.now
  accepted_later s c r = (passed σ (kind_of c) s c (all_yes σ (kind_of c) s c refl r)).later

  accepted_onward : (s : Box) (c : Command) → refusal γ s c ≡ 0 → Onward γ s (step γ s c).box
  accepted_onward s c r =
      let after = accepted_after σ s c r in
      record {
        same_groups = after.same_groups;
        later = omega (arith, accepted_later s c r, after.time);
        valid = λ v. accepted_valid σ s c r;
      }

  query_onward : (s : Box) (q : Query) → Onward γ s (query_step γ s q).box
  query_onward s q =
      ⊎_elim
      (λ r.
      let known = (query_passed σ s q r).timely in
      let reads = timed_reads σ s q.now known in
      let set = query_times σ s q r in
      record {
        same_groups = ap (λ (t : Box). groups γ t.memory) set ∙ reads.groups;
        later = omega (arith, known.later, ap (λ (t : Box). last_time γ t.memory) set ∙ reads.time);
        valid = λ v. query_valid σ s q r;
      })
      (λ e. onward_same s (query_step γ s q).box e)
      (query_or_same σ s q)

  pub event_onward : (s : Box) (e : Event) → Onward γ s (after γ s e)
  event_onward s (Given c) =
      ⊎_elim (λ r. accepted_onward s c r) (λ e. onward_same s (step γ s c).box e) (accepted_or_same σ s c)
  event_onward s (Queried q) = query_onward s q

  pub carried_onward : (s : Box) (os : List Order) → (carried_out γ s os).number ≡ 0 → Onward γ s (carried_out γ s os).box
  carried_onward s os c =
      carried_keeps σ (Onward γ s) (λ (o : Order). Unit)
      (λ t o r x h. onward_on s t (step γ t (given γ t o)).box h (accepted_onward t (given γ t o) r)) s os (each_any os) c (onward_same s s refl)

  -- orders at one time, one or more: the first is of a block of the box
  pub record AtTime (s t : Box) (block now : ℕ) : Type 0 where
    pub range : block < data_blocks γ (groups γ s.memory)
    pub later : last_time γ s.memory ≤ now
    pub time : last_time γ t.memory ≡ now
    pub same_groups : groups γ t.memory ≡ groups γ s.memory

  carried_at : (now : ℕ) (s : Box) (o : Order) (os : List Order) → EachAt σ now (o ∷ os) → (carried_out γ s (o ∷ os)).number ≡ 0
      → AtTime s (carried_out γ s (o ∷ os)).box o.block now
  carried_at now s o os t c =
      let r = accepts σ s (given γ s o) (carried_first γ s o os c) in
      record {
        range = (changes σ o.update s (given γ s o) (order_yes σ s o r)).range;
        later = omega (arith, accepted_later s (given γ s o) r, t.0);
        time = (carried_valid σ now s o os t c).1;
        same_groups = carried_groups σ s (o ∷ os) c;
      }

  pub own_at : (ρ : Range) (ν : Versions) (s : Box) (part block now : ℕ) (content : List ℕ)
      → (carried_out γ s (version_orders γ ν part block now content)).number ≡ 0
      → AtTime s (carried_out γ s (version_orders γ ν part block now content)).box block now
  unfolding version_orders
  own_at ρ ν s part block now content c =
      carried_at now s (writing block now ν.lock content) (unfreezes (ν.newest part) now) (refl, unfreezes_at σ ρ now (ν.newest part)) c

  pub log_at : (ρ : Range) (ν : Versions) (s t : Box) (now : ℕ) → (carried_out γ t (log_plan γ ρ ν s now).orders).number ≡ 0
      → AtTime t (carried_out γ t (log_plan γ ρ ν s now).orders).box ν.reserve now
  unfolding log_plan
  log_at ρ ν s t now c =
      carried_at now t (writing ν.reserve now ν.lock (log_block γ ν.records (next_for γ ρ s now ν))) [] (refl, tt) c

  -- ---- calls

  module _ (ρ : Range) where
    pub call_onward : (x : Site) (c : Call) → Onward γ x.box (called γ ρ x c).box
    unfolding put flush
    call_onward x (PutPart part now content) =
        let ν = x.versions in
        let s = x.box in
        let plan = put_plan γ ρ ν s part now content in
        either_way γ (put_questions γ ρ ν s part now) (next_for γ ρ s now ν) plan ν s (λ (n : Versions) (t : Box). Onward γ s t)
        (λ d. carried_onward s plan.orders d.carried) (onward_same s s refl)
    call_onward x (Flush now) =
        let ν = x.versions in
        let s = x.box in
        let plan = flush_plan γ ρ ν s now in
        either_way γ (flush_questions γ ρ ν s now) 0 plan ν s (λ (n : Versions) (t : Box). Onward γ s t)
        (λ d. carried_onward s plan.orders d.carried) (onward_same s s refl)
    call_onward x (Between e) = event_onward x.box e

    pub calls_onward : (x : Site) (cs : List Call) → Onward γ x.box (calls γ ρ x cs).box
    calls_onward x [] = onward_same x.box x.box refl
    calls_onward x (c ∷ cs) =
        let y = called γ ρ x c in
        onward_on x.box y.box (calls γ ρ y cs).box (call_onward x c) (calls_onward y cs)

    pub calls_groups : (x : Site) (cs : List Call) → groups γ (calls γ ρ x cs).box.memory ≡ groups γ x.box.memory
    calls_groups x cs = (calls_onward x cs).same_groups
