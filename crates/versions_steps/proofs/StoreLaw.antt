-- What an accepted put leaves, step by step, as the code goes. Assumes nothing.
use mathlib.Core.Path.{◌≡◌, refl, ap, sym, subst, ◌∙◌}
use mathlib.Core.Bool.{true}
use mathlib.Core.List.{List, ◌∷◌}
use Rattle.std.specs.Prelude.{Option}
use Prim.Native.Nat.{ℕ, ◌+◌, ◌≤◌, ◌<◌}
use native.Mathlib.Omega.{arith}
use borrow.Author.Tests.{eq-eqb, ne_eqb, leb-true}
use Rattle.lockpage.specs.Geometry.{Geometry, Proper}
use Rattle.memory.specs.Memory.{groups}
use Rattle.machine.specs.Command.{Box}
use Rattle.versions_machine.specs.Versions.{Range, Versions, entered}
use Rattle.versions_machine.specs.Log.{records_per_block, is_full}
use Rattle.versions_machine.specs.Allocation.{whole_box, next_for}
use Rattle.versions_machine.specs.Plan.{Order, Plan, writing, unfreezes, carried_out, log_plan, version_orders}
use Rattle.versions_machine.specs.Call.{Result, last_part, put, put_questions}
use Rattle.versions_machine.proofs.AcceptLaw.{put_yes, put_asked, unfreezes_at}
use Rattle.versions_machine.proofs.OrdersLaw.{carried_groups, carried_valid}
use Rattle.versions_orders.specs.Ready.{OrderReady}
use Rattle.versions_state.specs.Layout.{most_records}
use Rattle.versions_state.specs.State.{record_count, state_bytes, versions_in}
use Rattle.versions_state.proofs.ValidLaw.{facts}
use Rattle.versions_steps.specs.Ready.{Leaves, VersionReady, FullLogReady, StoreReady}
use Rattle.versions_steps.proofs.ForecastLaw.{full_is}
use Rattle.versions_steps.proofs.PutLaw.{own_accepted, put_enters, log_accepted, put_logs}

module _ {γ : Geometry} (σ : Proper γ) (state : List ℕ) (s : Box) (part block now : ℕ) (content : List ℕ)
    (ready : StoreReady γ (whole_box γ (groups γ s.memory)) state s part block now content) where
  abbrev ν : Versions
  ν = versions_in state

  abbrev ρ : Range
  ρ = whole_box γ (groups γ s.memory)

  abbrev v : ℕ
  v = next_for γ ρ s now ν

  abbrev result : Result
  result = put γ ρ ν s part now content

  abbrev own : List Order
  own = version_orders γ ν part v now content

  pub is_part : part ≤ last_part
  unfolding put_questions
  is_part = leb-true part last_part (put_yes σ ρ ν s part now ready.put_ready.asked).0

  ordered : OrderReady γ s now
  ordered =
      let a = put_asked σ ρ ν s part now (put_yes σ ρ ν s part now ready.put_ready.asked) in
      record { valid = a.valid; later = a.later; early = a.early }

  -- ---- the version's own commands, by the fields that were read from the state

  module _ (lock : ℕ) (is-lock : lock ≡ ν.lock) (replaced : Option ℕ) (is-replaced : replaced ≡ ν.newest part) where
    orders_are : writing block now lock content ∷ unfreezes replaced now ≡ own
    unfolding version_orders
    orders_are =
        ap (λ (x : ℕ). writing x now lock content ∷ unfreezes replaced now) ready.put_ready.block_is
        ∙ ap (λ (x : ℕ). writing v now x content ∷ unfreezes replaced now) is-lock
        ∙ ap (λ (x : Option ℕ). writing v now ν.lock content ∷ unfreezes x now) is-replaced

    pub version_ready : VersionReady γ s block now lock content replaced
    version_ready =
        record {
          box = ordered;
          accepted = ap (λ (os : List Order). (carried_out γ s os).number) orders_are ∙ own_accepted σ ρ ν s part now content ready.accepted;
        }

    module _ (t : Box) (wrote : t ≡ (carried_out γ s (writing block now lock content ∷ unfreezes replaced now)).box) where
      box_is : t ≡ (carried_out γ s own).box
      box_is = wrote ∙ ap (λ (os : List Order). (carried_out γ s os).box) orders_are

      -- ---- its record fills no log block

      pub entered_stored : record_count state < most_records γ → (after : List ℕ) → after ≡ state_bytes γ (entered ν part block) → Leaves γ result after t
      entered_stored room after e =
          let not_full = sym (full_is σ state part v (omega arith)) ∙ ne_eqb (record_count state) (most_records γ) (λ x. omega arith) in
          let r = put_enters σ ρ ν s part now content ready.accepted not_full in
          record {
            state_is =
                e
                ∙ ap (λ (x : ℕ). state_bytes γ (entered ν part x)) ready.put_ready.block_is
                ∙ ap (λ (x : Result). state_bytes γ x.versions) (sym r);
            box_is = box_is ∙ ap (λ (x : Result). x.box) (sym r);
          }

      -- ---- its record fills one

      same_range : whole_box γ (groups γ t.memory) ≡ ρ
      same_range =
          ap (λ (x : Box). whole_box γ (groups γ x.memory)) box_is
          ∙ ap (whole_box γ) (carried_groups σ s own (own_accepted σ ρ ν s part now content ready.accepted))

      module _ (room : most_records γ ≤ record_count state) where
        last : record_count state + 1 ≡ records_per_block γ
        last = omega (arith, (facts γ state ready.put_ready.valid).few)

        full : is_full γ (entered ν part v) ≡ true
        full =
            sym (full_is σ state part v (omega (arith, last)))
            ∙ eq-eqb (record_count state) (most_records γ) (omega (arith, last))

        -- the log block's plan, by the box and the block as the code has them
        plan_is : log_plan γ (whole_box γ (groups γ t.memory)) (entered ν part block) t now ≡ log_plan γ ρ (entered ν part v) (carried_out γ s own).box now
        plan_is =
            ap (λ (x : Range). log_plan γ x (entered ν part block) t now) same_range
            ∙ ap (λ (x : ℕ). log_plan γ ρ (entered ν part x) t now) ready.put_ready.block_is
            ∙ ap (λ (x : Box). log_plan γ ρ (entered ν part v) x now) box_is

        pub log_ready : FullLogReady γ (whole_box γ (groups γ t.memory)) state t part block now
        unfolding version_orders
        log_ready =
            let a = own_accepted σ ρ ν s part now content ready.accepted in
            let w = carried_valid σ now s (writing v now ν.lock content) (unfreezes (ν.newest part) now) (refl, unfreezes_at σ ρ now (ν.newest part)) a in
            record {
              valid = ready.put_ready.valid;
              is_part = is_part;
              last = last;
              box =
                  subst (λ (x : Box). OrderReady γ x now) (sym box_is)
                  (record { valid = w.0; later = omega (arith, w.1); early = ordered.early });
              accepted =
                  ap (λ (x : Box). (carried_out γ x (log_plan γ (whole_box γ (groups γ t.memory)) (entered ν part block) t now).orders).number) box_is
                  ∙ ap (λ (p : Plan). (carried_out γ (carried_out γ s own).box p.orders).number) plan_is
                  ∙ log_accepted σ ρ ν s part now content ready.accepted full;
            }

        pub logged_stored : (after : List ℕ) (u : Box)
            → after ≡ state_bytes γ (log_plan γ (whole_box γ (groups γ t.memory)) (entered ν part block) t now).after
            → u ≡ (carried_out γ t (log_plan γ (whole_box γ (groups γ t.memory)) (entered ν part block) t now).orders).box → Leaves γ result after u
        logged_stored after u e f =
            let r = put_logs σ ρ ν s part now content ready.accepted full in
            record {
              state_is = e ∙ ap (λ (p : Plan). state_bytes γ p.after) plan_is ∙ ap (λ (x : Result). state_bytes γ x.versions) (sym r);
              box_is =
                  f
                  ∙ ap (λ (x : Box). (carried_out γ x (log_plan γ (whole_box γ (groups γ t.memory)) (entered ν part block) t now).orders).box) box_is
                  ∙ ap (λ (p : Plan). (carried_out γ (carried_out γ s own).box p.orders).box) plan_is
                  ∙ ap (λ (x : Result). x.box) (sym r);
            }
