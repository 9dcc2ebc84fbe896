-- What a box shows is the same once its memory is migrated: current pages and entries, tags, and the questions that hang on no group's count.
-- Assumes nothing.
use mathlib.Core.Path.{◌≡◌, ap₂}
use mathlib.Core.Bool.{true, false}
use mathlib.Core.List.{List}
use Prim.Native.Nat.{ℕ, ◌<◌}
use lib.ListN.{length}
use lib.Dec.{eqb}
use Rattle.lockpage.specs.Geometry.{Geometry, Proper, widened}
use Rattle.addressing.specs.Map.{disk_size, group_of, place_of, page_block, block_start}
use Rattle.disk.specs.Disk.{block}
use Rattle.memory.specs.Layout.{memory_size}
use Rattle.validity.specs.Valid.{valid}
use Rattle.validity.proofs.ValidLaw.{facts}
use Rattle.machine.specs.Command.{Box}
use Rattle.machine.specs.Tag.{tag_message, tag, tagged, current_page, current_entry}
use Rattle.machine.specs.Question.{question1, question2, question4}
use Rattle.migration_machine.specs.Migrate.{migrated, Wider}
use Rattle.migration_machine.specs.Promise.{moved_box}
use Rattle.migration_machine.proofs.FieldLaw.{migrated_salt, migrated_count, migrated_time, migrated_groups, migrated_held, migrated_page}
use Rattle.migration_machine.proofs.ValidLaw.{valid_moves}

-- γ is the old box's geometry, and the new one has n groups at most
module _ {γ : Geometry} (σ : Proper γ) {n : ℕ} (ω : Wider γ n) where
  -- ---- tags

  pub tag_moves : (m : List ℕ) → length m ≡ memory_size γ → (g : ℕ) (p : List ℕ) → g < γ.most_groups
      → tag (widened γ n) (migrated γ n m) g p ≡ tag γ m g p
  unfolding tag tag_message
  tag_moves m l g p h = rw (migrated_salt σ ω m l, migrated_count σ ω m l g h)

  pub tagged_moves : (m : List ℕ) → length m ≡ memory_size γ → (g : ℕ) (p : List ℕ) → g < γ.most_groups
      → tagged (widened γ n) (migrated γ n m) g p ≡ tagged γ m g p
  unfolding tagged
  tagged_moves m l g p h = rw (tag_moves m l g p h)

  -- ---- current pages

  module _ (s : Box) (l : length s.memory ≡ memory_size γ) where
    pub current_page_moves : (g : ℕ) → current_page (widened γ n) (moved_box γ n s) g ≡ current_page γ s g
    unfolding current_page block block_start page_block
    current_page_moves g =
        ap₂ (λ (h : ℕ) (p : List ℕ). elim (eqb h g) [ true ↦ p | false ↦ block γ s.disk (page_block γ g) ])
        (migrated_held σ ω s.memory l) (migrated_page σ ω s.memory l)

    pub current_entry_moves : (a : ℕ) → current_entry (widened γ n) (moved_box γ n s) a ≡ current_entry γ s a
    unfolding group_of place_of
    current_entry_moves a = rw (current_page_moves (group_of γ a))

  -- ---- questions

  module _ (m : List ℕ) (v : valid γ m ≡ true) where
    pub question1_moves : question1 (widened γ n) (migrated γ n m) ≡ question1 γ m
    question1_moves = rw (valid_moves σ ω m (facts σ m v).size (facts σ m v).most)

    pub question2_moves : (disk : List ℕ) → question2 (widened γ n) (migrated γ n m) disk ≡ question2 γ m disk
    unfolding disk_size
    question2_moves disk = rw (migrated_groups σ ω m (facts σ m v).size)

    pub question4_moves : (now : ℕ) → question4 (widened γ n) (migrated γ n m) now ≡ question4 γ m now
    question4_moves now = rw (migrated_time σ ω m (facts σ m v).size)
