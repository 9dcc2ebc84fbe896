-- A put whose own questions have yes can be forecast, and its number is the forecast's. Assumes nothing.
use mathlib.Core.Path.{◌≡◌, refl, sym, ◌∙◌}
use mathlib.Core.Bool.{Bool, true, false}
use mathlib.Mathlib.Data.Bool.Basic.{and_elim_left}
use mathlib.Core.List.{List, ◌++◌}
use Prim.Native.Nat.{ℕ, ◌+◌, ◌≤◌}
use native.Mathlib.Omega.{arith}
use borrow.Author.Tests.{eqb-true}
use lib.ListN.{length}
use lib.Dec.{ltb}
use Rattle.octets.specs.Part.{repeated}
use Rattle.octets.proofs.RepeatedLaw.{repeated_length}
use Rattle.lockpage.specs.Geometry.{Geometry, Proper}
use Rattle.lockpage.specs.Size.{block_size}
use Rattle.lockpage.specs.declared.Entry.{Entry}
use Rattle.lockpage.specs.declared.Update.TheVariants.{Write}
use Rattle.addressing.specs.Map.{data_blocks}
use Rattle.memory.specs.Memory.{count, groups}
use Rattle.machine.specs.Command.{Box}
use Rattle.machine.specs.Question.{first_no}
use Rattle.machine.specs.Tag.{current_entry}
use Rattle.machine.specs.Claims.{ByteBox}
use Rattle.versions_machine.specs.Versions.{Range, Versions, is_lock, entered}
use Rattle.versions_machine.specs.Log.{records_per_block, log_block, is_full, is_sound}
use Rattle.versions_machine.specs.Allocation.{next_for}
use Rattle.versions_machine.specs.Plan.{Order, log_plan, due_plan, version_orders}
use Rattle.versions_machine.specs.Foresight.{foreseen}
use Rattle.versions_machine.specs.Call.{put, put_questions}
use Rattle.versions_machine.proofs.LogLaw.{log_length}
use Rattle.versions_machine.proofs.AllocationLaw.{next_available_lem, next_range, two_available_lem}
use Rattle.versions_machine.proofs.SoundLaw.{chosen}
use Rattle.versions_machine.proofs.ForesightLaw.{foreseen_alike}
use Rattle.versions_machine.proofs.AcceptLaw.{put_yes, put_asked, put_foreseen}
use Rattle.versions_forecast.specs.Orders.{log_order, put_orders}
use Rattle.versions_forecast.specs.Ready.{ForecastReady}

-- γ is any proper geometry
module _ {γ : Geometry} (σ : Proper γ) (ρ : Range) where
  -- the blocks that the store may use are the box's
  pub put_ready : (ν : Versions) (s : Box) (part now : ℕ) → first_no (put_questions γ ρ ν s part now) ≡ 0
      → ρ.first + ρ.number ≤ data_blocks γ (groups γ s.memory) → ForecastReady γ s (next_for γ ρ s now ν) now ν.lock ν.reserve
  unfolding put_questions is_sound
  put_ready ν s part now e inside =
      let yes = put_yes σ ρ ν s part now e in
      let h = put_asked σ ρ ν s part now yes in
      let one = two_available_lem γ ρ s now ν 0 yes.1.1.1.1.1.0 in
      let range = next_range γ ρ s now ν one.block one.least one.most one.passes in
      record {
        valid = h.valid;
        later = h.later;
        early = h.early;
        lock_fits = and_elim_left (is_lock ν.lock) (ltb (length ν.records) (records_per_block γ)) yes.1.0;
        range = omega (arith, range.1, inside);
        available = next_available_lem γ ρ s now ν one.block one.least one.most one.passes;
      }

  -- ---- a log block is as long as one of zeros

  log_alike : (G : ℕ) (counts : ℕ → ℕ) (entries : ℕ → Entry) (os : List Order) (ν : Versions) (t : Box) (now : ℕ)
      → foreseen γ G counts entries (os ++ (due_plan γ ρ ν t now).orders)
      ≡ foreseen γ G counts entries (os ++ log_order γ (is_full γ ν) ν.reserve now ν.lock)
  unfolding due_plan log_plan log_order is_full
  log_alike G counts entries os ν t now = go (is_full γ ν) refl
    where
      go : (full : Bool) → is_full γ ν ≡ full
          → foreseen γ G counts entries (os ++ (chosen (log_plan γ ρ ν t now) ν full).orders)
          ≡ foreseen γ G counts entries (os ++ log_order γ full ν.reserve now ν.lock)
      go true e =
          let pointer = next_for γ ρ t now ν in
          let room : length ν.records ≤ records_per_block γ = omega (arith, eqb-true (length ν.records) (records_per_block γ) e) in
          foreseen_alike γ G counts entries os (Write ν.lock) ν.reserve now (log_block γ ν.records pointer) (repeated (block_size γ) 0)
          (log_length σ ν.records pointer room ∙ sym (repeated_length (block_size γ) 0))
      go false e = refl

  pub put_number : (ν : Versions) (s : Box) (part now : ℕ) (content : List ℕ) → ByteBox s → first_no (put_questions γ ρ ν s part now) ≡ 0
      → let block = next_for γ ρ s now ν in
      (put γ ρ ν s part now content).number
      ≡ foreseen γ (groups γ s.memory) (count s.memory) (current_entry γ s)
      (put_orders γ block now ν.lock content (ν.newest part) (is_full γ (entered ν part block)) ν.reserve)
  unfolding put_orders version_orders entered
  put_number ν s part now content b e =
      let block = next_for γ ρ s now ν in
      put_foreseen σ ρ ν s s part now content b e
      ∙ log_alike (groups γ s.memory) (count s.memory) (current_entry γ s) (version_orders γ ν part block now content) (entered ν part block) s now
