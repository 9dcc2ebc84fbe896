-- Recovery answers the same in an old box and in that box with its memory migrated. Assumes nothing.
use mathlib.Core.Path.{◌≡◌, refl, ap, ap₂, ◌∙◌}
use mathlib.Core.Bool.{Bool, true, false, ◌&&◌, not}
use mathlib.Core.List.{List, [], ◌∷◌, any, flat_map}
use Rattle.std.specs.Prelude.{Option, None}
use Prim.Native.Nat.{ℕ, zero, suc}
use lib.Dec.{eqb, leb}
use lib.ListN.{length}
use Rattle.lockpage.specs.Geometry.{Geometry, Proper, widened}
use Rattle.lockpage.specs.declared.Entry.{Entry}
use Rattle.lockpage.specs.Entry.{time_of_write}
use Rattle.lockpage.specs.State.{state}
use Rattle.addressing.specs.Map.{physical, block_start}
use Rattle.disk.specs.Disk.{block}
use Rattle.validity.specs.Valid.{valid}
use Rattle.validity.proofs.ValidLaw.{facts}
use Rattle.machine.specs.Command.{Box}
use Rattle.machine.specs.Tag.{current_entry}
use Rattle.machine.specs.Question.{Question, Put, first_no}
use Rattle.versions_machine.specs.Versions.{Range, Record}
use Rattle.versions_machine.specs.Log.{pointer_read, records_read}
use Rattle.versions_machine.specs.Allocation.{those, is_free}
use Rattle.versions_machine.specs.Call.{last_part}
use Rattle.versions_machine.specs.History.{told}
use Rattle.versions_state.specs.Layout.{parts}
use Rattle.versions_state.specs.State.{newest_bytes}
use Rattle.recovery_machine.specs.Walk.{is_in_range, written_at, content_of, is_kept, goes_on, walk_from, walk}
use Rattle.recovery_machine.specs.Recover.{recovery_of, result_size, recover_questions, counts, walked_records, recovered, recover}
use Rattle.migration_machine.specs.Migrate.{Wider}
use Rattle.migration_machine.specs.Promise.{moved_box}
use Rattle.migration_machine.proofs.BoxLaw.{current_entry_moves, question1_moves, question2_moves, question4_moves}

-- γ is the old box's geometry, and the new one has n groups at most
module _ {γ : Geometry} (σ : Proper γ) {n : ℕ} (ω : Wider γ n) (ρ : Range) (s : Box) (v : valid γ s.memory ≡ true) (point now : ℕ) where
  entry_moves : (a : ℕ) → current_entry (widened γ n) (moved_box γ n s) a ≡ current_entry γ s a
  entry_moves a = current_entry_moves σ ω s (facts σ s.memory v).size a

  -- ---- the walk

  kept_moves : (a : ℕ) → is_kept (widened γ n) ρ (moved_box γ n s) point now a ≡ is_kept γ ρ s point now a
  unfolding is_kept
  kept_moves a = ap (λ (e : Entry). is_in_range ρ a && (not (is_free (state now e)) && leb (time_of_write e) point)) (entry_moves a)

  goes_moves : (walked : List ℕ) (parent a : ℕ)
      → goes_on (widened γ n) ρ (moved_box γ n s) point now walked parent a ≡ goes_on γ ρ s point now walked parent a
  unfolding goes_on
  goes_moves walked parent a =
      ap₂ (λ (b : Bool) (e : Entry). b && (leb parent (time_of_write e) && not (any walked (eqb a)))) (kept_moves a) (entry_moves a)

  walk_moves : (walked : List ℕ) (parent a k : ℕ)
      → walk_from (widened γ n) ρ (moved_box γ n s) point now walked parent a k ≡ walk_from γ ρ s point now walked parent a k
  unfolding walk_from pointer_read block block_start physical
  walk_moves walked parent a zero = refl
  walk_moves walked parent a (suc k) =
      let pointer = pointer_read γ (content_of γ s a) in
      ap₂ (λ (b : Bool) (rest : List ℕ). elim b [ true ↦ a ∷ rest | false ↦ [] ]) (goes_moves walked parent a)
      (ap (λ (e : Entry). walk_from (widened γ n) ρ (moved_box γ n s) point now (a ∷ walked) (time_of_write e) pointer k) (entry_moves a)
      ∙ walk_moves (a ∷ walked) (written_at γ s a) pointer k)

  -- ---- what is recovered

  counts_move : counts (widened γ n) ρ (moved_box γ n s) point now ≡ counts γ ρ s point now
  unfolding counts
  counts_move = λ i. λ (x : Record). leb x.part last_part && kept_moves x.block i

  records_move : walked_records (widened γ n) ρ (moved_box γ n s) point now ≡ walked_records γ ρ s point now
  unfolding walked_records walk records_read block block_start physical
  records_move = ap (flat_map (λ (a : ℕ). records_read γ (content_of γ s a))) (walk_moves [] 0 ρ.first ρ.number)

  recovered_moves : recovered (widened γ n) ρ (moved_box γ n s) point now ≡ recovered γ ρ s point now
  unfolding recovered
  recovered_moves = ap₂ (λ (test : Record → Bool) (xs : List Record). told (λ part. None) (those test xs)) counts_move records_move

  questions_move : (result : List ℕ) → recover_questions (widened γ n) (moved_box γ n s) now result ≡ recover_questions γ s now result
  unfolding recover_questions
  questions_move result =
      λ i.
      question1_moves σ ω s.memory v i
      ∷ question2_moves σ ω s.memory v s.disk i
      ∷ question4_moves σ ω s.memory v now i
      ∷ Put 6 (eqb (length result) result_size)
      ∷ []

  pub recover_moves : (result : List ℕ) → recover (widened γ n) ρ (moved_box γ n s) point now result ≡ recover γ ρ s point now result
  unfolding recover
  recover_moves result =
      ap₂
      (λ (qs : List Question) (f : ℕ → Option ℕ).
      elim (eqb (first_no qs) 0) [
        | true ↦ recovery_of 0 (newest_bytes f 0 parts)
        | false ↦ recovery_of (first_no qs) result
      ])
      (questions_move result) recovered_moves
