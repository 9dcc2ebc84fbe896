-- When a controller memory is valid, after document 01, "Controller memory", "It is valid if ..", and document 02, Q-4.
-- Assumes nothing: these are definitions.
use Rattle.std.specs.Prelude.{ℕ, ◌-◌, Bool, true, false, ◌&&◌, List, [], ◌∷◌, length, eqb, ltb, leb}
use Rattle.octets.specs.Part.{part, repeated, equal}
use Rattle.lockpage.specs.Geometry.{Geometry}
use Rattle.lockpage.specs.Size.{page_size}
use Rattle.lockpage.specs.Update.{latest_time}
use Rattle.memory.specs.Layout.{memory_size, count_start, time_start, reserved_start, reserved_size}
use Rattle.memory.specs.Memory.{count, last_time, groups, held, none, most_updates, update_count, held_page}

-- "a held group's count is 1 to 4,294,967,294"; question 8 asks for a count below it
abbrev pub count_limit : ℕ
count_limit = 4294967294

-- whether n elements from place at on are zero
abbrev pub zero_at : List ℕ → ℕ → ℕ → Bool
zero_at m at n = equal (part m at n) (repeated n 0)

-- every one is true
unfoldable pub every : List Bool → Bool
every [] = true
every (b ∷ bs) = b && every bs

-- γ is the box's geometry; the numbers quoted are those at base
module _ (γ : Geometry) where
  -- with a page held: "the held group is .. below G"; "a held group's count is 1 to 4,294,967,294"; document 02, Q-4: its updates are
  -- "1 to 63"
  abbrev pub held_clauses : List ℕ → List Bool
  held_clauses m =
      ltb (held γ m) (groups γ m)
      ∷ leb 1 (count m (held γ m))
      ∷ leb (count m (held γ m)) count_limit
      ∷ leb 1 (update_count γ m)
      ∷ leb (update_count γ m) most_updates
      ∷ []

  -- with none: "with 255 the held page is 512 zero bytes"; document 02, Q-4: the count of updates "is 0 when none is held"
  abbrev pub none_held_clauses : List ℕ → List Bool
  none_held_clauses m = eqb (update_count γ m) 0 ∷ equal (held_page γ m) (repeated (page_size γ) 0) ∷ []

  unfoldable pub valid_held : List ℕ → Bool
  valid_held m = elim (eqb (held γ m) none) [ true ↦ every (none_held_clauses m) | false ↦ every (held_clauses m) ]

  -- clause by clause: 616 bytes; "G is 1 to 16; the held group is 255 or below G; the last time is at most 2,147,483,647; counts of
  -- groups from G on and bytes 102 and 103 are 0", of which 103 is left; and what is held
  unfoldable pub valid : List ℕ → Bool
  valid m =
      every
      (eqb (length m) (memory_size γ)
      ∷ leb 1 (groups γ m)
      ∷ leb (groups γ m) γ.most_groups
      ∷ leb (last_time γ m) latest_time
      ∷ zero_at m (count_start (groups γ m)) (time_start γ - count_start (groups γ m))
      ∷ zero_at m (reserved_start γ) reserved_size
      ∷ valid_held m
      ∷ [])
