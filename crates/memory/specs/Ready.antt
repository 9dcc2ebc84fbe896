-- What the functions on the memory ask for. Assumes nothing: these are definitions.
use Rattle.std.specs.Prelude.{◌≡◌, List, ℕ, ◌<◌, length}
use Rattle.lockpage.specs.Geometry.{Geometry}
use Rattle.lockpage.specs.Size.{page_size}
use Rattle.memory.specs.Layout.{memory_size, salt_size}

-- γ is the box's geometry
module _ (γ : Geometry) where
  -- the memory has a count for group g
  pub record HasCount (m : List ℕ) (g : ℕ) : Type 0 where
    pub size : length m ≡ memory_size γ
    pub group : g < γ.most_groups

  -- and page is as long as a page of that group
  pub record HasPage (m : List ℕ) (g : ℕ) (page : List ℕ) : Type 0 where
    pub count : HasCount m g
    pub page_size_is : length page ≡ page_size γ

  -- formatting: G is one byte
  pub record FormatReady (m : List ℕ) (groups : ℕ) (salt : List ℕ) : Type 0 where
    pub size : length m ≡ memory_size γ
    pub groups_byte : groups < 256
    pub salt_size_is : length salt ≡ salt_size
