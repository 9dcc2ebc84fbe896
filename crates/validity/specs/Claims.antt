-- What a reader wants to know of valid memories. Each claim is a type; its proof has the claim's name in proofs/Theorems.antt.
use Rattle.std.specs.Prelude.{ℕ, ◌^◌, ◌≤◌, ◌<◌, ◌≡◌, true, List, length}
use Rattle.lockpage.specs.Geometry.{Geometry}
use Rattle.lockpage.specs.Size.{page_size}
use Rattle.lockpage.specs.Update.{latest_time}
use Rattle.memory.specs.Layout.{salt_size, count_size}
use Rattle.memory.specs.Memory.{count, groups, held, none, most_updates, with_salt, with_count, with_no_counts, with_last_time, holding, holding_none, formatted_memory}
use Rattle.validity.specs.Valid.{count_limit, valid}

-- γ is the box's geometry
module _ (γ : Geometry) where
  -- a change of a valid memory, as a command makes it, leaves it valid
  pub record Keeps (m : List ℕ) : Type 0 where
    pub salt_set : (s : List ℕ) → length s ≡ salt_size → valid γ (with_salt m s) ≡ true
    pub time_set : (t : ℕ) → t ≤ latest_time → valid γ (with_last_time γ m t) ≡ true
    -- the count of a group of the box; a held group's stays 1 to the limit
    pub count_set : (g n : ℕ) → g < groups γ m → n < 256 ^ count_size → (held γ m ≡ g → (1 ≤ n) × (n ≤ count_limit))
        → valid γ (with_count m g n) ≡ true
    pub counts_cleared : held γ m ≡ none → valid γ (with_no_counts γ m) ≡ true
    pub page_held : (g n : ℕ) (p : List ℕ) → g < groups γ m → 1 ≤ count m g → count m g ≤ count_limit → 1 ≤ n → n ≤ most_updates
        → length p ≡ page_size γ → valid γ (holding γ m g n p) ≡ true
    pub page_dropped : valid γ (holding_none γ m) ≡ true

  unfoldable pub ChangesKeepValid : Type 0
  ChangesKeepValid = (m : List ℕ) → valid γ m ≡ true → Keeps m

  -- the memory of formatting is valid
  unfoldable pub FormattedIsValid : Type 0
  FormattedIsValid = (g : ℕ) (s : List ℕ) → 1 ≤ g → g ≤ γ.most_groups → length s ≡ salt_size → valid γ (formatted_memory γ g s) ≡ true

  -- "counts of groups from G on .. are 0"
  unfoldable pub UnusedCounts : Type 0
  UnusedCounts = (m : List ℕ) (g : ℕ) → valid γ m ≡ true → groups γ m ≤ g → g < γ.most_groups → count m g ≡ 0
