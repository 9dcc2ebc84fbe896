-- What an accepted command stores and answers, kind by kind, after document 01, "Commands", and document 02, Q-4. The box is the one that the command gets,
-- its last time set to now. Assumes nothing: these are definitions.
use Rattle.std.specs.Prelude.{Bool, true, false, List, [], ◌∷◌, ◌++◌, ℕ, ◌+◌, eqb, ltb}
use Rattle.octets.specs.Number.{bytes}
use Rattle.lockpage.specs.Geometry.{Geometry}
use Rattle.lockpage.specs.Size.{entry_size}
use Rattle.lockpage.specs.declared.Entry.{Entry as PageEntry}
use Rattle.lockpage.specs.declared.Update.{Update}
use Rattle.lockpage.specs.declared.Update.TheVariants.{Write, Unfreeze, Increment}
use Rattle.lockpage.specs.Entry.{entry_bytes}
use Rattle.lockpage.specs.State.{state, state_number, time_left_size, time_left_bytes}
use Rattle.lockpage.specs.Update.{updated}
use Rattle.lockpage.specs.Page.{entry_at, with_entry}
use Rattle.addressing.specs.Map.{data_blocks, group_of, place_of, physical, page_block}
use Rattle.disk.specs.Disk.{block, with_block}
use Rattle.memory.specs.Memory.{count, groups, held, none, most_updates, update_count, held_page, with_salt, with_count, with_no_counts, holding, holding_none}
use Rattle.machine.specs.declared.Kind.{Kind}
use Rattle.machine.specs.declared.Kind.TheVariants.{Read, Entry, Page, Change, Sync, Restart, NewSalt, Identify, Unknown}
use Rattle.machine.specs.Command.{Box, Command, brought_page}
use Rattle.machine.specs.Tag.{tagged, current_page, current_entry}

-- a block store: a physical block and what it gets
pub record Store : Type 0 where
  pub place : ℕ
  pub bytes : List ℕ

abbrev pub store : ℕ → List ℕ → Store
store place bytes = record { place = place; bytes = bytes }

-- an effect: the block stores in order, the memory after, and what is named in the answer
pub record Effect : Type 0 where
  pub stores : List Store
  pub memory : List ℕ
  pub named : List ℕ

abbrev pub effect_of : List Store → List ℕ → List ℕ → Effect
effect_of stores memory named = record { stores = stores; memory = memory; named = named }

-- ---- what is named

-- kind 2: "its 8 bytes, then the time left as a signed 64-bit number, then the state in one byte"
unfoldable pub entry_answer : ℕ → PageEntry → List ℕ
entry_answer now e = entry_bytes e ++ (time_left_bytes now e ++ (state_number (state now e) ∷ []))

-- where the state stands in it
abbrev pub state_place : ℕ
state_place = entry_size + time_left_size

-- kind 10: "G, then 64 × G, 4 bytes each"
abbrev pub identify_size : ℕ
identify_size = 4

-- γ is the box's geometry; the numbers quoted are those at base
module _ (γ : Geometry) where
  -- ---- stores

  -- the disk with the stores done, in their order
  unfoldable pub stored : List ℕ → List Store → List ℕ
  stored disk [] = disk
  stored disk (x ∷ xs) = stored (with_block γ disk x.place x.bytes) xs

  -- ---- kinds 1 to 3

  -- "the block's 512 bytes"
  unfoldable pub read : Box → ℕ → Effect
  read s a = effect_of [] s.memory (block γ s.disk (physical γ a))

  unfoldable pub show_entry : Box → ℕ → ℕ → Effect
  show_entry s a now = effect_of [] s.memory (entry_answer now (current_entry γ s a))

  -- "block names a group; its current page and tag"
  unfoldable pub show_page : Box → ℕ → Effect
  show_page s g = effect_of [] s.memory (tagged γ s.memory g (current_page γ s g))

  -- ---- the held page leaves

  -- "the held page, if any, goes to the disk"
  unfoldable pub put_held : List ℕ → List Store
  put_held m = elim (eqb (held γ m) none) [ true ↦ [] | false ↦ store (page_block γ (held γ m)) (held_page γ m) ∷ [] ]

  -- "If another group is held, its page is first put on the disk."
  unfoldable pub evict : List ℕ → ℕ → List Store
  evict m g = elim (eqb (held γ m) g) [ true ↦ [] | false ↦ put_held m ]

  -- ---- kinds 4 to 6: when the page leaves by itself

  -- document 02, Q-4: "counts updates to the held page": the count with one more of group g, the first where g is not held
  unfoldable pub next_update_count : List ℕ → ℕ → ℕ
  next_update_count m g = elim (eqb (held γ m) g) [ true ↦ update_count γ m + 1 | false ↦ 1 ]

  -- "at the 64th update the page goes to the disk in the same command"
  unfoldable pub page_leaves : List ℕ → ℕ → Bool
  page_leaves m g = ltb most_updates (next_update_count m g)

  unfoldable pub put_leaving : List ℕ → ℕ → List ℕ → List Store
  put_leaving m g p = elim (page_leaves m g) [ true ↦ store (page_block γ g) p ∷ [] | false ↦ [] ]

  -- ---- kinds 4 to 6: the update

  -- "A write stores its data."
  unfoldable pub put_content : Update → ℕ → List ℕ → List Store
  put_content (Write lock) a content = store (physical γ a) content ∷ []
  put_content Unfreeze a content = []
  put_content (Increment value) a content = []

  -- a page with the entry of block a updated
  unfoldable pub updated_page : Update → List ℕ → ℕ → ℕ → List ℕ
  updated_page u page a now = with_entry page (place_of γ a) (updated u now (entry_at page (place_of γ a)))

  -- they "work on the page brought in the proof"
  abbrev pub changed_page : Update → Command → List ℕ
  changed_page u c = updated_page u (brought_page γ c.proof) c.block c.now

  -- "The changed page becomes the held one, its group's count rises by 1"; a page that leaves is held no more, "as by a sync"
  unfoldable pub changed_memory : List ℕ → ℕ → List ℕ → List ℕ
  changed_memory m g p =
      let n = with_count m g (count m g + 1) in
      elim (page_leaves m g) [ true ↦ holding_none γ n | false ↦ holding γ n g (next_update_count m g) p ]

  -- "and the answer is that page with its new tag"; document 02, Q-4: it goes to the disk "after any data"
  unfoldable pub change : Update → Box → Command → Effect
  change u s c =
      let g = group_of γ c.block in
      let p = changed_page u c in
      let m = changed_memory s.memory g p in
      effect_of (evict s.memory g ++ (put_content u c.block c.content ++ put_leaving s.memory g p)) m (tagged γ m g p)

  -- ---- kinds 7 to 10

  -- "the held page, if any, goes to the disk; held becomes 255 and its bytes zero"
  unfoldable pub sync : Box → Effect
  sync s = effect_of (put_held s.memory) (holding_none γ s.memory) []

  -- "the held page is lost, its group's count rises by 1, held becomes 255, its bytes zero; with none held only the last time changes"
  unfoldable pub restarted_memory : List ℕ → List ℕ
  restarted_memory m = elim (eqb (held γ m) none) [ true ↦ m | false ↦ with_count (holding_none γ m) (held γ m) (count m (held γ m) + 1) ]

  unfoldable pub restart : Box → Effect
  restart s = effect_of [] (restarted_memory s.memory) []

  -- "sync first, then the data become the salt and all counts 0"
  unfoldable pub salted : List ℕ → List ℕ → List ℕ
  salted m salt = with_salt (with_no_counts γ (holding_none γ m)) salt

  unfoldable pub new_salt : Box → List ℕ → Effect
  new_salt s salt = effect_of (put_held s.memory) (salted s.memory salt) []

  unfoldable pub identify : Box → Effect
  identify s =
      let g = groups γ s.memory in
      effect_of [] s.memory (bytes identify_size g ++ bytes identify_size (data_blocks γ g))

  -- ---- by kind; an unknown one is never accepted

  unfoldable pub effect : Kind → Box → Command → Effect
  effect Read s c = read s c.block
  effect Entry s c = show_entry s c.block c.now
  effect Page s c = show_page s c.block
  effect (Change u) s c = change u s c
  effect Sync s c = sync s
  effect Restart s c = restart s
  effect NewSalt s c = new_salt s c.content
  effect Identify s c = identify s
  effect Unknown s c = effect_of [] s.memory []
