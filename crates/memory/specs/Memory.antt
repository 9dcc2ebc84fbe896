-- The fields of the controller memory, each read and each replaced. Everything else goes through these names.
-- Assumes nothing: these are definitions.
use Rattle.std.specs.Prelude.{ℕ, ◌-◌, true, false, eqb, Option, None, Some, List}
use Rattle.octets.specs.Part.{part, replaced, repeated}
use Rattle.octets.specs.Number.{number_at, with_number}
use Rattle.lockpage.specs.Geometry.{Geometry}
use Rattle.lockpage.specs.Size.{page_size}
use Rattle.memory.specs.Layout.{memory_size, salt_start, salt_size, counts_start, count_size, count_start, time_start, time_size, groups_start, held_start}
use Rattle.memory.specs.Layout.{update_count_start, byte_size, page_start}

-- ---- the fields whose place is the same in every box

unfoldable pub salt : List ℕ → List ℕ
salt m = part m salt_start salt_size

-- the freshness count of group g
unfoldable pub count : List ℕ → ℕ → ℕ
count m g = number_at m (count_start g) count_size

unfoldable pub with_salt : List ℕ → List ℕ → List ℕ
with_salt m s = replaced m salt_start s

unfoldable pub with_count : List ℕ → ℕ → ℕ → List ℕ
with_count m g n = with_number m (count_start g) count_size n

-- "held group or 255"
abbrev pub none : ℕ
none = 255

-- the group that a byte of the memory names as held: "held group or 255", where 255 is no group
unfoldable pub group_held : ℕ → Option ℕ
group_held n = elim (eqb n none) [ true ↦ None | false ↦ Some n ]

-- document 02, Q-4: "counts updates to the held page, 1 to 63"
abbrev pub most_updates : ℕ
most_updates = 63

-- γ is the box's geometry
module _ (γ : Geometry) where
  -- ---- the others, read

  unfoldable pub last_time : List ℕ → ℕ
  last_time m = number_at m (time_start γ) time_size

  -- G
  unfoldable pub groups : List ℕ → ℕ
  groups m = number_at m (groups_start γ) byte_size

  -- the held group, or none
  unfoldable pub held : List ℕ → ℕ
  held m = number_at m (held_start γ) byte_size

  -- the updates made to the held page since it came in
  unfoldable pub update_count : List ℕ → ℕ
  update_count m = number_at m (update_count_start γ) byte_size

  unfoldable pub held_page : List ℕ → List ℕ
  held_page m = part m (page_start γ) (page_size γ)

  -- ---- replaced

  -- "all counts 0"
  unfoldable pub with_no_counts : List ℕ → List ℕ
  with_no_counts m = replaced m counts_start (repeated (time_start γ - counts_start) 0)

  unfoldable pub with_last_time : List ℕ → ℕ → List ℕ
  with_last_time m t = with_number m (time_start γ) time_size t

  unfoldable pub with_groups : List ℕ → ℕ → List ℕ
  with_groups m g = with_number m (groups_start γ) byte_size g

  unfoldable pub with_held : List ℕ → ℕ → List ℕ
  with_held m g = with_number m (held_start γ) byte_size g

  unfoldable pub with_update_count : List ℕ → ℕ → List ℕ
  with_update_count m n = with_number m (update_count_start γ) byte_size n

  unfoldable pub with_held_page : List ℕ → List ℕ → List ℕ
  with_held_page m p = replaced m (page_start γ) p

  -- ---- several at once

  -- page p of group g, updated n times, "becomes the held one"
  unfoldable pub holding : List ℕ → ℕ → ℕ → List ℕ → List ℕ
  holding m g n p = with_held_page (with_update_count (with_held m g) n) p

  -- "held becomes 255 and its bytes zero"; document 02, Q-4: the update count "is 0 when none is held"
  unfoldable pub holding_none : List ℕ → List ℕ
  holding_none m = holding m none 0 (repeated (page_size γ) 0)

  -- formatting "stores both", G and the salt, "sets .. held to 255 and the rest of the memory to 0"
  unfoldable pub formatted_memory : ℕ → List ℕ → List ℕ
  formatted_memory g s = with_held (with_groups (with_salt (repeated (memory_size γ) 0) s) g) none
