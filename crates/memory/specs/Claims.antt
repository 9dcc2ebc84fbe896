-- What a reader wants to know of the controller memory. Each claim is a type; its proof has the claim's name in proofs/Theorems.antt.
use Rattle.std.specs.Prelude.{ℕ, ◌+◌, ◌^◌, ◌<◌, ◌≡◌, true, false, List, length, eqb}
use Rattle.octets.specs.Part.{repeated}
use Rattle.lockpage.specs.Geometry.{Geometry, base, present}
use Rattle.lockpage.specs.Size.{page_size}
use Rattle.memory.specs.Layout.{memory_size, salt_start, salt_size, count_size, count_start, time_start, time_size, groups_start, held_start, update_count_start}
use Rattle.memory.specs.Layout.{reserved_start, reserved_size, page_start}
use Rattle.memory.specs.Memory.{salt, count, last_time, groups, held, none, update_count, held_page, with_salt, with_count, with_no_counts, with_last_time}
use Rattle.memory.specs.Memory.{with_groups, with_held, with_update_count, with_held_page, holding, holding_none, formatted_memory}

-- ---- the papers' places

-- where the fields of a box stand, and the end of its memory
pub record Places (γ : Geometry) (time groups held updates reserved page end : ℕ) : Type 0 where
  pub salt_at : (salt_start ≡ 0) × (salt_start + salt_size ≡ 32)
  pub counts_at : (count_start 0 ≡ 32) × (count_start γ.most_groups ≡ time)
  pub time_at : (time_start γ ≡ time) × (time_start γ + time_size ≡ groups)
  pub groups_at : groups_start γ ≡ groups
  pub held_at : held_start γ ≡ held
  pub update_count_at : update_count_start γ ≡ updates
  pub reserved_at : (reserved_start γ ≡ reserved) × (reserved_start γ + reserved_size ≡ page)
  pub page_at : (page_start γ ≡ page) × (page_start γ + page_size γ ≡ end)
  pub size : memory_size γ ≡ end

-- "Controller memory, 616 bytes": "0..31 salt; 32..95 sixteen 4-byte freshness counts; 96..99 last time; 100 G; 101 held group or 255;
-- 102, 103 zero; 104..615 held page"; document 02, Q-4: "Byte 102 of the memory now counts updates to the held page"
unfoldable pub PapersPlaces : Type 0
PapersPlaces = Places base 96 100 101 102 103 104 616

-- document 02, Q-7: "it is 808 bytes: counts 32..287, last time 288, G 292, held 293, update count 294, zero 295, page 296..807"
unfoldable pub PapersPresentPlaces : Type 0
PapersPresentPlaces = Places present 288 292 293 294 295 296 808

-- ---- get after set: what each field reads

-- c with n for g
abbrev pub changed : (ℕ → ℕ) → ℕ → ℕ → ℕ → ℕ
changed c g n k = elim (eqb k g) [ true ↦ n | false ↦ c k ]

-- γ is the box's geometry
module _ (γ : Geometry) where
  pub record Reads (m s : List ℕ) (c : ℕ → ℕ) (t g h n : ℕ) (p : List ℕ) : Type 0 where
    pub size : length m ≡ memory_size γ
    pub salt : salt m ≡ s
    pub count : (k : ℕ) → k < γ.most_groups → count m k ≡ c k
    pub time : last_time γ m ≡ t
    pub groups : groups γ m ≡ g
    pub held : held γ m ≡ h
    pub updates : update_count γ m ≡ n
    pub page : held_page γ m ≡ p

  -- each change sets its own field and leaves the others
  pub record Sets (m : List ℕ) : Type 0 where
    pub salt_set : (s : List ℕ) → length s ≡ salt_size → Reads (with_salt m s) s (count m) (last_time γ m) (groups γ m) (held γ m) (update_count γ m) (held_page γ m)
    pub count_set : (g n : ℕ) → g < γ.most_groups → n < 256 ^ count_size
        → Reads (with_count m g n) (salt m) (changed (count m) g n) (last_time γ m) (groups γ m) (held γ m) (update_count γ m) (held_page γ m)
    pub counts_cleared : Reads (with_no_counts γ m) (salt m) (λ k. 0) (last_time γ m) (groups γ m) (held γ m) (update_count γ m) (held_page γ m)
    pub time_set : (t : ℕ) → t < 256 ^ time_size → Reads (with_last_time γ m t) (salt m) (count m) t (groups γ m) (held γ m) (update_count γ m) (held_page γ m)
    pub groups_set : (g : ℕ) → g < 256 → Reads (with_groups γ m g) (salt m) (count m) (last_time γ m) g (held γ m) (update_count γ m) (held_page γ m)
    pub held_set : (g : ℕ) → g < 256 → Reads (with_held γ m g) (salt m) (count m) (last_time γ m) (groups γ m) g (update_count γ m) (held_page γ m)
    pub updates_set : (n : ℕ) → n < 256
        → Reads (with_update_count γ m n) (salt m) (count m) (last_time γ m) (groups γ m) (held γ m) n (held_page γ m)
    pub page_set : (p : List ℕ) → length p ≡ page_size γ
        → Reads (with_held_page γ m p) (salt m) (count m) (last_time γ m) (groups γ m) (held γ m) (update_count γ m) p
    pub page_held : (g n : ℕ) (p : List ℕ) → g < 256 → n < 256 → length p ≡ page_size γ
        → Reads (holding γ m g n p) (salt m) (count m) (last_time γ m) (groups γ m) g n p
    pub page_dropped : Reads (holding_none γ m) (salt m) (count m) (last_time γ m) (groups γ m) none 0 (repeated (page_size γ) 0)

  unfoldable pub GetAfterSet : Type 0
  GetAfterSet = (m : List ℕ) → length m ≡ memory_size γ → Sets m

  -- formatting sets them all
  unfoldable pub FormattedReads : Type 0
  FormattedReads = (g : ℕ) (s : List ℕ) → g < 256 → length s ≡ salt_size
      → Reads (formatted_memory γ g s) s (λ k. 0) 0 g none 0 (repeated (page_size γ) 0)
