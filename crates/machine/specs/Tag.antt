-- The tag of a page and a group's current page, after document 01, "Tag" and "Controller memory". Assumes nothing: these are
-- definitions.
use Rattle.std.specs.Prelude.{true, false, List, ◌++◌, ℕ, ◌+◌, eqb}
use Rattle.octets.specs.Number.{bytes}
use Rattle.lockpage.specs.Geometry.{Geometry}
use Rattle.lockpage.specs.Size.{page_size}
use Rattle.lockpage.specs.declared.Entry.{Entry}
use Rattle.lockpage.specs.Page.{entry_at}
use Rattle.addressing.specs.Map.{group_of, place_of, page_block}
use Rattle.disk.specs.Disk.{block}
use Rattle.memory.specs.Layout.{salt_size, count_size}
use Rattle.memory.specs.Memory.{salt, count, held, held_page}
use Rattle.blake3.specs.Blake3.{digest}
use Rattle.machine.specs.Command.{Box}

-- "group in 8 bytes"
abbrev pub group_number_size : ℕ
group_number_size = 8

-- γ is the box's geometry. The message takes it as well, though in every box the salt and the counts stand at the same place
module _ (γ : Geometry) where
  -- "salt, group in 8 bytes, count in 4 bytes, page": the salt and the group's count are those of memory m
  unfoldable pub tag_message : List ℕ → ℕ → List ℕ → List ℕ
  tag_message m g page = salt m ++ (bytes group_number_size g ++ (bytes count_size (count m g) ++ page))

  abbrev pub message_size : ℕ
  message_size = salt_size + (group_number_size + (count_size + page_size γ))

  -- "The tag is the 32-byte BLAKE3 hash" of it
  unfoldable pub tag : List ℕ → ℕ → List ℕ → List ℕ
  tag m g page = digest (tag_message m g page)

  -- a page and its tag, as they are brought and answered
  unfoldable pub tagged : List ℕ → ℕ → List ℕ → List ℕ
  tagged m g page = page ++ tag m g page

  -- "The current page of a group is the held page if that group is held, else the one on the disk."
  unfoldable pub current_page : Box → ℕ → List ℕ
  current_page s g = elim (eqb (held γ s.memory) g) [ true ↦ held_page γ s.memory | false ↦ block γ s.disk (page_block γ g) ]

  -- the entry of block a on the current page of its group
  abbrev pub current_entry : Box → ℕ → Entry
  current_entry s a = entry_at (current_page s (group_of γ a)) (place_of γ a)
