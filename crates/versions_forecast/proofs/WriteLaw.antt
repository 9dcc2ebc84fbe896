-- The write of the version: its block is free and its lock fits, so that its content's length and its group's count decide. Assumes
-- nothing.
use mathlib.Core.Path.{◌≡◌, ap, sym, ◌∙◌}
use mathlib.Core.Bool.{Bool, true, false}
use mathlib.Mathlib.Data.Bool.Basic.{and_elim_right}
use mathlib.Core.List.{List, [], ◌∷◌}
use Prim.Native.Nat.{ℕ}
use borrow.Author.Tests.{lt-ltb}
use lib.ListN.{length}
use lib.Dec.{eqb, leb, ltb}
use Rattle.lockpage.specs.Geometry.{Geometry}
use Rattle.lockpage.specs.Size.{block_size}
use Rattle.lockpage.specs.declared.Entry.{Entry}
use Rattle.lockpage.specs.declared.Update.TheVariants.{Write}
use Rattle.lockpage.specs.State.{state}
use Rattle.lockpage.specs.Update.{longest_lock, updated, allowed, within_limit}
use Rattle.lockpage.proofs.EntryLaw.{frozen_yes}
use Rattle.lockpage.proofs.UpdateLaw.{within_lock, written_word, written_flag}
use Rattle.addressing.specs.Map.{data_blocks}
use Rattle.memory.specs.Memory.{groups}
use Rattle.validity.specs.Valid.{count_limit}
use Rattle.machine.specs.Command.{Box}
use Rattle.machine.specs.Tag.{current_entry}
use Rattle.machine.specs.Question.{Put, first_no}
use Rattle.versions_machine.specs.Versions.{is_lock}
use Rattle.versions_machine.specs.Plan.{writing}
use Rattle.versions_machine.specs.Foresight.{questions_left}
use Rattle.versions_machine.proofs.AllocationLaw.{available_free}
use Rattle.versions_forecast.specs.Ready.{ForecastReady}

pub lock_within : (lock now : ℕ) (e : Entry) → is_lock lock ≡ true → within_limit (updated (Write lock) now e) ≡ true
lock_within lock now e h =
    sym (within_lock (updated (Write lock) now e) (frozen_yes (updated (Write lock) now e).stamp (written_flag lock now e)))
    ∙ ap (λ (w : ℕ). leb w longest_lock) (written_word lock now e)
    ∙ and_elim_right (leb 1 lock) (leb lock longest_lock) h

two_left : (b5 b6 b8 b9 b10 : Bool) → b5 ≡ true → b9 ≡ true → b10 ≡ true
    → first_no (Put 6 b6 ∷ Put 8 b8 ∷ []) ≡ first_no (Put 5 b5 ∷ Put 6 b6 ∷ Put 8 b8 ∷ Put 9 b9 ∷ Put 10 b10 ∷ [])
unfolding first_no
two_left b5 false b8 b9 b10 h5 h9 h10 = rw h5
two_left b5 true false b9 b10 h5 h9 h10 = rw h5
two_left b5 true true b9 b10 h5 h9 h10 = rw (h5, h9, h10)

module _ (γ : Geometry) where
  pub write_left : (s : Box) (block now lock reserve n : ℕ) (content : List ℕ) → ForecastReady γ s block now lock reserve
      → first_no (Put 6 (eqb (length content) (block_size γ)) ∷ Put 8 (ltb n count_limit) ∷ [])
      ≡ first_no (questions_left γ (groups γ s.memory) n (current_entry γ s block) (writing block now lock content))
  unfolding allowed
  write_left s block now lock reserve n content h =
      let e : Entry = current_entry γ s block in
      two_left (ltb block (data_blocks γ (groups γ s.memory))) (eqb (length content) (block_size γ)) (ltb n count_limit) (allowed (Write lock) (state now e))
      (within_limit (updated (Write lock) now e)) (lt-ltb block (data_blocks γ (groups γ s.memory)) h.range)
      (ap (allowed (Write lock)) (available_free γ s now reserve block h.available)) (lock_within lock now e h.lock_fits)
