-- What holds where a query's answer is filled, and what is shown of one group's numbers. Assumes nothing: these are definitions.
use Rattle.std.specs.Prelude.{◌≡◌, List, ℕ, ◌*◌, ◌<◌, length}
use Rattle.octets.specs.Part.{part}
use Rattle.lockpage.specs.Geometry.{Geometry}
use Rattle.lockpage.specs.Size.{page_size}
use Rattle.lockpage.specs.Page.{entry_at}
use Rattle.addressing.specs.Map.{place_of}
use Rattle.memory.specs.Memory.{groups}
use Rattle.machine.specs.Command.{Box}
use Rattle.machine.specs.Query.{most_numbers, number_count, block_number, shown_size, shown_state}
use Rattle.machine.specs.Claims.{ValidBox}
use Rattle.block_states.specs.Links.{first_naming, Nexts, Linked, group_named, ListReady}

-- what an answer shows of number i
abbrev pub shown_at : List ℕ → ℕ → List ℕ
shown_at answer i = part answer (shown_size * i) shown_size

-- γ is the box's geometry
module _ (γ : Geometry) where
  -- a valid box, a list of its blocks, and a buffer for the answer: questions 1, 2, 12, 5 and 6
  pub record FillReady (s : Box) (blocks answer : List ℕ) : Type 0 where
    pub box : ValidBox γ s
    pub list : ListReady γ blocks (groups γ s.memory)
    pub answer_size_is : length answer ≡ shown_size * number_count blocks

  -- and the list's links
  pub record GroupsReady (s : Box) (blocks first next named : List ℕ) (count : ℕ) (answer : List ℕ) : Type 0 where
    pub filling : FillReady s blocks answer
    pub links : Linked (group_named γ blocks) γ.most_groups 0 (number_count blocks) first next named count

  -- one group's page and links: the number from is the first that names the group
  pub record GroupReady (page blocks next : List ℕ) (from : ℕ) (answer : List ℕ) : Type 0 where
    pub list : ListReady γ blocks γ.most_groups
    pub page_size_is : length page ≡ page_size γ
    pub nexts : Nexts (group_named γ blocks) 0 (number_count blocks) next
    pub nexts_size : length next ≡ most_numbers
    pub some : from < number_count blocks
    pub head : from ≡ first_naming (group_named γ blocks) 0 (number_count blocks) (group_named γ blocks from)
    pub answer_size_is : length answer ≡ shown_size * number_count blocks

  -- the answer after that: the group's numbers are answered from its page, and what is shown of the others is as it was
  pub record GroupShown (page blocks : List ℕ) (from now : ℕ) (before after : List ℕ) : Type 0 where
    pub own : (i : ℕ) → i < number_count blocks → group_named γ blocks i ≡ group_named γ blocks from
        → shown_at after i ≡ shown_state now (entry_at page (place_of γ (block_number blocks i)))
    pub others : (i : ℕ) → i < number_count blocks → (group_named γ blocks i ≡ group_named γ blocks from → ⊥) → shown_at after i ≡ shown_at before i
    pub size : length after ≡ length before
