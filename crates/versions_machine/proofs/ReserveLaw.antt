-- The reserve stays free: no version is put there, what is unfrozen isn't free, and a log block stored there leaves another free block as
-- the reserve. Assumes nothing.
use mathlib.Core.Path.{◌≡◌, ap, sym, subst, ◌∙◌}
use mathlib.Core.Bool.{true}
use mathlib.Core.List.{List, [], ◌∷◌}
use Prim.Native.Nat.{ℕ, ◌+◌, ◌≤◌, ◌<◌}
use native.Mathlib.Omega.{arith}
use lib.ListN.{length}
use Rattle.lockpage.specs.Geometry.{Geometry, Proper}
use Rattle.lockpage.specs.State.{state}
use Rattle.lockpage.proofs.StateLaw.{stays_free}
use Rattle.addressing.specs.Map.{data_blocks}
use Rattle.memory.specs.Memory.{last_time, groups}
use Rattle.machine.specs.Command.{Box}
use Rattle.machine.specs.Tag.{current_entry}
use Rattle.machine.specs.Question.{AllYes, first_no}
use Rattle.machine.specs.Run.{after}
use Rattle.machine.proofs.CaseLaw.{same_or_not, true_or_false}
use Rattle.machine.proofs.StepLaw.{accepts}
use Rattle.versions_machine.specs.Versions.{Range, Versions, entered, logged}
use Rattle.versions_machine.specs.Log.{log_block, is_full}
use Rattle.versions_machine.specs.Allocation.{is_available, next_for}
use Rattle.versions_machine.specs.Plan.{Plan, Carried, writing, given, carried_out, log_plan, due_plan, version_orders, put_plan}
use Rattle.versions_machine.specs.Call.{put, put_questions, flush, flush_questions, flush_plan}
use Rattle.versions_machine.specs.Run.{Call, PutPart, Flush, Between, Site, site_of, called, calls, Throughout}
use Rattle.versions_machine.specs.Claims.{StoreAlone}
use Rattle.versions_machine.specs.After.{InBox, between}
use Rattle.versions_machine.specs.History.{ReserveFree}
use Rattle.versions_machine.proofs.HoldsLaw.{event_entry}
use Rattle.versions_machine.proofs.AllocationLaw.{available_free, available_other, next_available_lem, next_range, two_available_lem}
use Rattle.versions_machine.proofs.CarryLaw.{carried_on, carried_first, either_way}
use Rattle.versions_machine.proofs.AcceptLaw.{put_yes}
use Rattle.versions_machine.proofs.OrdersLaw.{carried_append, order_entry, own_entry}
use Rattle.versions_machine.proofs.TimesLaw.{event_onward, own_at, log_at, call_onward}
use Rattle.versions_machine.proofs.DoesLaw.{due_full, due_none, still_available, flush_none, flush_plan_lem, flush_yes}

module _ {γ : Geometry} (σ : Proper γ) (ρ : Range) where
  still_inside : (s t : Box) → groups γ t.memory ≡ groups γ s.memory → InBox γ ρ s → InBox γ ρ t
  still_inside s t e h = subst (λ (g : ℕ). ρ.first + ρ.number ≤ data_blocks γ g) (sym e) h

  -- ---- a log block

  log_reserve : (ν : Versions) (s : Box) (now k : ℕ) → InBox γ ρ s → ρ.first ≤ k → k < ρ.first + ρ.number
      → is_available γ s now ν.reserve k ≡ true → (carried_out γ s (log_plan γ ρ ν s now).orders).number ≡ 0
      → ReserveFree γ ρ (site_of (log_plan γ ρ ν s now).after (carried_out γ s (log_plan γ ρ ν s now).orders).box)
  unfolding log_plan logged carried_out
  log_reserve ν s now k inside least most passes c =
      let p = next_for γ ρ s now ν in
      let range = next_range γ ρ s now ν k least most passes in
      let available = next_available_lem γ ρ s now ν k least most passes in
      let o = writing ν.reserve now ν.lock (log_block γ ν.records p) in
      let a = carried_first γ s o [] c in
      record {
        above = range.0;
        below = range.1;
        free =
            ap (λ (n : ℕ). state n (current_entry γ (carried_out γ s (o ∷ [])).box p)) (log_at σ ρ ν s s now c).time
            ∙ ap (λ (x : Carried). state now (current_entry γ x.box p)) (carried_on γ s o [] a)
            ∙ ap (state now)
            (order_entry σ s o (accepts σ s (given γ s o) a) p (omega (arith, range.1)) (available_other γ s now ν.reserve p available))
            ∙ available_free γ s now ν.reserve p available;
      }

  -- ---- a put

  put_reserve : (ν : Versions) (s : Box) (part now : ℕ) (content : List ℕ) → InBox γ ρ s → AllYes (put_questions γ ρ ν s part now)
      → (carried_out γ s (put_plan γ ρ ν s part now content).orders).number ≡ 0 → ReserveFree γ ρ (site_of ν s)
      → ReserveFree γ ρ (site_of (put_plan γ ρ ν s part now content).after (carried_out γ s (put_plan γ ρ ν s part now content).orders).box)
  unfolding put_questions put_plan entered carried_out
  put_reserve ν s part now content inside y c h =
      let block = next_for γ ρ s now ν in
      let own = version_orders γ ν part block now content in
      let t = between γ ρ ν s part now content in
      let e = entered ν part block in
      let due = due_plan γ ρ e t now in
      let both = carried_append σ s own due.orders c in
      let two = two_available_lem γ ρ s now ν block y.1.1.1.1.1.0 in
      let other = available_other γ s now ν.reserve block (next_available_lem γ ρ s now ν two.block two.least two.most two.passes) in
      let one = still_available σ ρ ν s part now content y inside both.0 in
      let at = own_at σ ρ ν s part block now content both.0 in
      let free = stays_free (last_time γ s.memory) now (current_entry γ s ν.reserve) at.later h.free in
      subst (λ (x : Carried). ReserveFree γ ρ (site_of due.after x.box)) (sym both.1)
      (true_or_false (is_full γ e)
      (λ full.
      let is-log = due_full σ ρ e t now full in
      subst (λ (p : Plan). ReserveFree γ ρ (site_of p.after (carried_out γ t p.orders).box)) (sym is-log)
      (log_reserve e t now one.block (still_inside s t at.same_groups inside) one.least one.most one.passes
      (ap (λ (p : Plan). (carried_out γ t p.orders).number) (sym is-log) ∙ sym (ap (λ (x : Carried). x.number) both.1) ∙ c)))
      (λ room.
      subst (λ (p : Plan). ReserveFree γ ρ (site_of p.after (carried_out γ t p.orders).box)) (sym (due_none σ ρ e t now room))
      (record {
        above = h.above;
        below = h.below;
        free =
            ap (λ (n : ℕ). state n (current_entry γ t ν.reserve)) at.time
            ∙ ap (state now) (own_entry σ ν s part block now content both.0 ν.reserve (omega (arith, h.below)) (λ x. other (sym x)) free)
            ∙ free;
      })))

  -- ---- a store on demand

  flush_reserve : (ν : Versions) (s : Box) (now : ℕ) → InBox γ ρ s → first_no (flush_questions γ ρ ν s now) ≡ 0
      → (carried_out γ s (flush_plan γ ρ ν s now).orders).number ≡ 0 → ReserveFree γ ρ (site_of ν s)
      → ReserveFree γ ρ (site_of (flush_plan γ ρ ν s now).after (carried_out γ s (flush_plan γ ρ ν s now).orders).box)
  unfolding carried_out
  flush_reserve ν s now inside asked c h =
      same_or_not (length ν.records) 0
      (λ e.
      subst (λ (p : Plan). ReserveFree γ ρ (site_of p.after (carried_out γ s p.orders).box)) (sym (flush_none σ ρ ν s now e).1) h)
      (λ n.
      let is-log = flush_plan_lem σ ρ ν s now n in
      let two = two_available_lem γ ρ s now ν ν.reserve (flush_yes σ ρ ν s now n asked).1.1.1.1.0 in
      subst (λ (p : Plan). ReserveFree γ ρ (site_of p.after (carried_out γ s p.orders).box)) (sym is-log)
      (log_reserve ν s now two.block inside two.least two.most two.passes
      (ap (λ (p : Plan). (carried_out γ s p.orders).number) (sym is-log) ∙ c)))

  -- ---- calls

  call_reserve : (x : Site) (c : Call) → StoreAlone x c → InBox γ ρ x.box → ReserveFree γ ρ x → ReserveFree γ ρ (called γ ρ x c)
  unfolding put flush
  call_reserve x (PutPart part now content) q inside h =
      let ν = x.versions in
      let s = x.box in
      either_way γ (put_questions γ ρ ν s part now) (next_for γ ρ s now ν) (put_plan γ ρ ν s part now content) ν s
      (λ (ν : Versions) (s : Box). ReserveFree γ ρ (site_of ν s))
      (λ d. put_reserve ν s part now content inside (put_yes σ ρ ν s part now d.asked) d.carried h) h
  call_reserve x (Flush now) q inside h =
      let ν = x.versions in
      let s = x.box in
      either_way γ (flush_questions γ ρ ν s now) 0 (flush_plan γ ρ ν s now) ν s
      (λ (ν : Versions) (s : Box). ReserveFree γ ρ (site_of ν s))
      (λ d. flush_reserve ν s now inside d.asked d.carried h) h
  call_reserve x (Between e) q inside h =
      let s = x.box in
      let t = after γ s e in
      let r = x.versions.reserve in
      record {
        above = h.above;
        below = h.below;
        free =
            ap (state (last_time γ t.memory)) (event_entry σ s e r q (omega (arith, h.below)))
            ∙ stays_free (last_time γ s.memory) (last_time γ t.memory) (current_entry γ s r) (event_onward σ s e).later h.free;
      }

  pub calls_reserve : (x : Site) (cs : List Call) → InBox γ ρ x.box → Throughout γ ρ StoreAlone x cs → ReserveFree γ ρ x
      → ReserveFree γ ρ (calls γ ρ x cs)
  calls_reserve x [] inside q h = h
  calls_reserve x (c ∷ cs) inside q h =
      let y = called γ ρ x c in
      calls_reserve y cs (still_inside x.box y.box (call_onward σ ρ x c).same_groups inside) q.1 (call_reserve x c q.0 inside h)
