-- Under which locks accepted calls leave the blocks that they change: specs/Locks.antt. Assumes nothing.
use mathlib.Core.Path.{◌≡◌, ap, sym, subst, ◌∙◌}
use mathlib.Core.Bool.{true}
use mathlib.Core.List.{List, [], ◌∷◌, ◌++◌}
use Rattle.std.specs.Prelude.{Option, Some}
use Prim.Native.Nat.{ℕ, ◌<◌}
use lib.ListN.{length}
use Rattle.lockpage.specs.Geometry.{Geometry, Proper}
use Rattle.lockpage.specs.declared.Entry.{Entry}
use Rattle.lockpage.specs.declared.Update.TheVariants.{Unfreeze}
use Rattle.lockpage.specs.Entry.{EntryFits}
use Rattle.lockpage.specs.Update.{updated, within_limit}
use Rattle.lockpage.proofs.UpdateLaw.{updated_fits}
use Rattle.lockpage.proofs.PageLaw.{entry_at_fits}
use Rattle.addressing.specs.Map.{data_blocks, group_of, place_of}
use Rattle.memory.specs.Memory.{groups}
use Rattle.machine.specs.declared.Kind.TheVariants.{Change}
use Rattle.machine.specs.Command.{Box}
use Rattle.machine.specs.Tag.{current_page, current_entry}
use Rattle.machine.specs.Question.{refusal}
use Rattle.machine.specs.Step.{step}
use Rattle.machine.specs.Claims.{ByteBox}
use Rattle.machine.proofs.StepLaw.{accepts}
use Rattle.machine.proofs.TagLaw.{current_are}
use Rattle.machine.proofs.PassedLaw.{passed, changes}
use Rattle.machine.proofs.AfterLaw.{accepted_after}
use Rattle.machine.proofs.CurrentLaw.{brought_current, entry_own}
use Rattle.versions_machine.specs.Versions.{Range, Versions, entered, logged}
use Rattle.versions_machine.specs.Log.{log_block, is_full}
use Rattle.versions_machine.specs.Allocation.{next_for}
use Rattle.versions_machine.specs.Plan.{Order, Plan, Carried, writing, unfreezing, unfreezes, given, carried_out, log_plan, due_plan, version_orders, put_plan}
use Rattle.versions_machine.specs.Call.{Result, result_of, put, put_questions, flush, flush_questions, flush_plan}
use Rattle.versions_machine.specs.After.{between}
use Rattle.versions_machine.specs.History.{Locked, locked_of, Each, Holds}
use Rattle.versions_machine.specs.Locks.{PutLocks}
use Rattle.versions_machine.proofs.AllocationLaw.{available_other}
use Rattle.versions_machine.proofs.HoldsLaw.{order_kind, order_yes, order_brings, other_holds, write_holds}
use Rattle.versions_machine.proofs.CarryLaw.{carried_on, carried_first, carried_rest, accepted_done}
use Rattle.versions_machine.proofs.OrdersLaw.{each_append, carried_append, carried_keeps, order_entry}
use Rattle.versions_machine.proofs.DoesLaw.{unfreezes_each, due_each, due_full, flush_plan_lem, put_does}

-- an order is of another block
abbrev Elsewhere : ℕ → Order → Type 0
Elsewhere a o = a ≡ o.block → ⊥

module _ {γ : Geometry} (σ : Proper γ) where
  -- ---- orders on other blocks

  keeps_holds : (b : ℕ) (w : Locked) (s : Box) (os : List Order) → Each (Elsewhere b) os → (carried_out γ s os).number ≡ 0 → Holds γ s b w
      → Holds γ (carried_out γ s os).box b w
  keeps_holds b w = carried_keeps σ (λ (t : Box). Holds γ t b w) (Elsewhere b) (λ t o r n h. other_holds σ t o r b w n h)

  -- a block of the box that has this entry
  record HasEntry (a : ℕ) (e : Entry) (s : Box) : Type 0 where
    range : a < data_blocks γ (groups γ s.memory)
    entry : current_entry γ s a ≡ e

  order_keeps : (a : ℕ) (e : Entry) (s : Box) (o : Order) → refusal γ s (given γ s o) ≡ 0 → Elsewhere a o → HasEntry a e s
      → HasEntry a e (step γ s (given γ s o)).box
  order_keeps a e s o r n h =
      record {
        range = subst (λ (g : ℕ). a < data_blocks γ g) (sym (accepted_after σ s (given γ s o) r).same_groups) h.range;
        entry = order_entry σ s o r a h.range n ∙ h.entry;
      }

  keeps_entry : (a : ℕ) (e : Entry) (s : Box) (os : List Order) → Each (Elsewhere a) os → (carried_out γ s os).number ≡ 0 → HasEntry a e s
      → HasEntry a e (carried_out γ s os).box
  keeps_entry a e = carried_keeps σ (HasEntry a e) (Elsewhere a) (order_keeps a e)

  -- ---- an unfreeze

  module _ (s : Box) (old now : ℕ) (r : refusal γ s (given γ s (unfreezing old now)) ≡ 0) where
    unfreeze_range : old < data_blocks γ (groups γ s.memory)
    unfreeze_range = (changes σ Unfreeze s (given γ s (unfreezing old now)) (order_yes σ s (unfreezing old now) r)).range

    unfreeze_entry : EntryFits (current_entry γ s old)
        → HasEntry old (updated Unfreeze now (current_entry γ s old)) (step γ s (given γ s (unfreezing old now))).box
    unfreeze_entry fits =
        let o = unfreezing old now in
        let c = given γ s o in
        let k = order_kind σ Unfreeze in
        let yes-all = order_yes σ s o r in
        let brought = order_brings σ s o r in
        let within =
        subst (λ (i : Entry). within_limit (updated Unfreeze now i) ≡ true) (brought_current σ Unfreeze s c k r brought)
        (changes σ Unfreeze s c yes-all).within in
        record {
          range = subst (λ (g : ℕ). old < data_blocks γ g) (sym (accepted_after σ s c r).same_groups) unfreeze_range;
          entry =
              entry_own σ Unfreeze s c k r brought
              (updated_fits Unfreeze now (current_entry γ s old) (passed σ (Change Unfreeze) s c yes-all).early fits within);
        }

  module _ (ρ : Range) where
    -- ---- a log block

    log_holds : (ν : Versions) (t : Box) (now : ℕ) → (carried_out γ t (log_plan γ ρ ν t now).orders).number ≡ 0
        → Holds γ (carried_out γ t (log_plan γ ρ ν t now).orders).box ν.reserve
        (locked_of (log_block γ ν.records (log_plan γ ρ ν t now).after.reserve) ν.lock now)
    unfolding log_plan logged carried_out
    log_holds ν t now c =
        let content = log_block γ ν.records (next_for γ ρ t now ν) in
        let o = writing ν.reserve now ν.lock content in
        let a = carried_first γ t o [] c in
        subst (λ (x : Carried). Holds γ x.box ν.reserve (locked_of content ν.lock now)) (sym (carried_on γ t o [] a))
        (write_holds σ ν.lock t ν.reserve now content (accepts σ t (given γ t o) a))

    -- ---- a put

    module _ (ν : Versions) (s : Box) (part now : ℕ) (content : List ℕ) where
      abbrev block : ℕ
      block = next_for γ ρ s now ν

      abbrev t : Box
      t = between γ ρ ν s part now content

      abbrev due : Plan
      due = due_plan γ ρ (entered ν part block) t now

      abbrev orders : Option ℕ → List Order
      orders replaced = writing block now ν.lock content ∷ (unfreezes replaced now ++ due.orders)

      version_holds : (block ≡ ν.reserve → ⊥) → (replaced : Option ℕ) → (replaced ≡ Some block → ⊥) → (carried_out γ s (orders replaced)).number ≡ 0
          → Holds γ (carried_out γ s (orders replaced)).box block (locked_of content ν.lock now)
      unfolding entered
      version_holds other replaced n c =
          let o = writing block now ν.lock content in
          let rest = unfreezes replaced now ++ due.orders in
          let a = carried_first γ s o rest c in
          subst (λ (x : Carried). Holds γ x.box block (locked_of content ν.lock now)) (sym (carried_on γ s o rest a))
          (keeps_holds block (locked_of content ν.lock now) (step γ s (given γ s o)).box rest
          (each_append (Elsewhere block) (unfreezes replaced now) due.orders
          (unfreezes_each σ ρ (Elsewhere block) now replaced (λ old e x. n (e ∙ ap Some (sym x))))
          (due_each σ ρ (Elsewhere block) (entered ν part block) t now (λ full log. other)))
          (carried_rest γ s o rest c) (write_holds σ ν.lock s block now content (accepts σ s (given γ s o) a)))

      replaced_entry : (old : ℕ) → EntryFits (current_entry γ s old) → (old ≡ block → ⊥) → (is_full γ (entered ν part block) ≡ true → old ≡ ν.reserve → ⊥)
          → (carried_out γ s (orders (Some old))).number ≡ 0
          → current_entry γ (carried_out γ s (orders (Some old))).box old ≡ updated Unfreeze now (current_entry γ s old)
      unfolding unfreezes entered
      replaced_entry old fits n m c =
          let o = writing block now ν.lock content in
          let u = unfreezing old now in
          let a = carried_first γ s o (u ∷ due.orders) c in
          let r = accepts σ s (given γ s o) a in
          let s1 = (step γ s (given γ s o)).box in
          let c1 = carried_rest γ s o (u ∷ due.orders) c in
          let a1 = carried_first γ s1 u due.orders c1 in
          let r1 = accepts σ s1 (given γ s1 u) a1 in
          let range = subst (λ (g : ℕ). old < data_blocks γ g) (accepted_after σ s (given γ s o) r).same_groups (unfreeze_range s1 old now r1) in
          let same = order_entry σ s o r old range n in
          let done = unfreeze_entry s1 old now r1 (subst EntryFits (sym same) fits) in
          let s2 = (step γ s1 (given γ s1 u)).box in
          ap (λ (x : Carried). current_entry γ x.box old) (carried_on γ s o (u ∷ due.orders) a ∙ carried_on γ s1 u due.orders a1)
          ∙ (keeps_entry old (updated Unfreeze now (current_entry γ s1 old)) s2 due.orders
          (due_each σ ρ (Elsewhere old) (entered ν part block) t now (λ full log. m full))
          (carried_rest γ s1 u due.orders c1) done).entry
          ∙ ap (updated Unfreeze now) same

      pub put_locks : ByteBox s → (put γ ρ ν s part now content).number ≡ 0 → PutLocks γ ρ ν s part now content (put γ ρ ν s part now content)
      unfolding put put_plan version_orders entered
      put_locks bytes a =
          let plan = put_plan γ ρ ν s part now content in
          let d = accepted_done γ (put_questions γ ρ ν s part now) block plan ν s a in
          let does = put_does σ ρ ν s part now content a in
          let other = subst (λ (b : ℕ). b ≡ ν.reserve → ⊥) does.answered (available_other γ s now ν.reserve _ does.was_available) in
          let fits : (old : ℕ) → EntryFits (current_entry γ s old) =
          λ old. entry_at_fits (current_page γ s (group_of γ old)) (place_of γ old) (current_are σ s (group_of γ old) bytes.memory bytes.disk) in
          subst (PutLocks γ ρ ν s part now content) (sym d.result)
          (record {
            version = λ n. version_holds other (ν.newest part) n d.carried;
            replaced =
                λ old e n m.
                subst (λ (x : Option ℕ). current_entry γ (carried_out γ s (orders x)).box old ≡ updated Unfreeze now (current_entry γ s old)) (sym e)
                (replaced_entry old (fits old) n m (subst (λ (x : Option ℕ). (carried_out γ s (orders x)).number ≡ 0) e d.carried));
            log =
                λ full.
                let parts = carried_append σ s (version_orders γ ν part block now content) due.orders d.carried in
                let is-log = due_full σ ρ (entered ν part block) t now full in
                let c = sym (ap (λ (x : Carried). x.number) parts.1) ∙ d.carried in
                subst
                (λ (x : Carried).
                Holds γ x.box ν.reserve (locked_of (log_block γ (entered ν part block).records due.after.reserve) ν.lock now))
                (sym parts.1)
                (subst
                (λ (p : Plan).
                Holds γ (carried_out γ t p.orders).box ν.reserve
                (locked_of (log_block γ (entered ν part block).records p.after.reserve) ν.lock now))
                (sym is-log)
                (log_holds (entered ν part block) t now (ap (λ (p : Plan). (carried_out γ t p.orders).number) (sym is-log) ∙ c)));
          })

    -- ---- a store on demand

    pub flush_locks : (ν : Versions) (s : Box) (now : ℕ) → (flush γ ρ ν s now).number ≡ 0 → (length ν.records ≡ 0 → ⊥)
        → Holds γ (flush γ ρ ν s now).box ν.reserve (locked_of (log_block γ ν.records (flush γ ρ ν s now).versions.reserve) ν.lock now)
    unfolding flush
    flush_locks ν s now a n =
        let d = accepted_done γ (flush_questions γ ρ ν s now) 0 (flush_plan γ ρ ν s now) ν s a in
        let plan = flush_plan_lem σ ρ ν s now n in
        subst
        (λ (r : Result). Holds γ r.box ν.reserve (locked_of (log_block γ ν.records r.versions.reserve) ν.lock now))
        (sym (d.result ∙ ap (λ (p : Plan). result_of 0 0 p.after (carried_out γ s p.orders).box) plan))
        (log_holds ν s now (ap (λ (p : Plan). (carried_out γ s p.orders).number) (sym plan) ∙ d.carried))
