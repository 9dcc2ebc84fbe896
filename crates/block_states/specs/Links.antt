-- The links of a list: its numbers, group by group. Assumes nothing: these are definitions.
use Rattle.std.specs.Prelude.{◌≡◌, true, false, List, ℕ, zero, suc, ◌+◌, ◌-◌, ◌*◌, ◌≤◌, ◌<◌, eqb, length, get_or}
use Rattle.octets.specs.Part.{repeated}
use Rattle.lockpage.specs.Geometry.{Geometry}
use Rattle.addressing.specs.Map.{group_of}
use Rattle.machine.specs.Query.{number_size, most_numbers, number_count, block_number, listed, distinct}

-- the first i of n places from i on at which f is g, or most_numbers if there is none
unfoldable pub first_naming : (ℕ → ℕ) → ℕ → ℕ → ℕ → ℕ
first_naming f i zero g = most_numbers
first_naming f i (suc n) g = elim (eqb (f i) g) [ true ↦ i | false ↦ first_naming f (suc i) n g ]

-- in next, the next place of the same group behind each of n places from i on
abbrev pub Nexts : (ℕ → ℕ) → ℕ → ℕ → List ℕ → Type 0
Nexts f i n next = (j : ℕ) → i ≤ j → j < i + n → get_or next j 0 ≡ first_naming f (suc j) (i + n - suc j) (f j)

-- p is a place below count at which named has g
pub record NamedAt (named : List ℕ) (count g p : ℕ) : Type 0 where
  pub below : p < count
  pub group : get_or named p 0 ≡ g

-- j is one of n places from i on at which f is g
pub record NamesAt (f : ℕ → ℕ) (i n g j : ℕ) : Type 0 where
  pub above : i ≤ j
  pub below : j < i + n
  pub group : f j ≡ g

-- the links of n places from i on; f is the group that each names, one of most
pub record Linked (f : ℕ → ℕ) (most i n : ℕ) (first next named : List ℕ) (count : ℕ) : Type 0 where
  -- the first place of each group
  pub heads : (g : ℕ) → g < most → get_or first g 0 ≡ first_naming f i n g
  pub nexts : Nexts f i n next
  -- the groups named: all of them, no other, each once
  pub all_named : (j : ℕ) → i ≤ j → j < i + n → (p : ℕ) × NamedAt named count (f j) p
  pub no_other : (p : ℕ) → p < count → (j : ℕ) × NamesAt f i n (get_or named p 0) j
  pub each_once : count ≡ length (distinct (listed f i n))
  pub heads_size : length first ≡ most
  pub nexts_size : length next ≡ most_numbers
  pub named_size : length named ≡ most_numbers

-- γ is the box's geometry
module _ (γ : Geometry) where
  -- the group that number i names
  abbrev pub group_named : List ℕ → ℕ → ℕ
  group_named blocks i = group_of γ (block_number blocks i)

  -- a list whose numbers name groups below a limit: questions 12 and 5
  pub record ListReady (blocks : List ℕ) (limit : ℕ) : Type 0 where
    pub whole : length blocks ≡ number_size * number_count blocks
    pub few : number_count blocks ≤ most_numbers
    pub range : (i : ℕ) → i < number_count blocks → group_named blocks i < limit

  pub record LinkReady (blocks first next named : List ℕ) : Type 0 where
    pub list : ListReady blocks γ.most_groups
    pub heads : first ≡ repeated γ.most_groups most_numbers
    pub nexts_size : length next ≡ most_numbers
    pub named_size : length named ≡ most_numbers
