-- What holds where formatting stores its pages, since its questions have seen to it. Assumes nothing: these are definitions.
use Rattle.std.specs.Prelude.{◌≡◌, List, ℕ, ◌≤◌, length}
use Rattle.lockpage.specs.Geometry.{Geometry}
use Rattle.lockpage.specs.Page.{blank_page}
use Rattle.addressing.specs.Map.{disk_size}

-- γ is the box's geometry
module _ (γ : Geometry) where
  -- a disk of so many groups, and the blank page
  pub record PagesReady (disk : List ℕ) (groups : ℕ) (page : List ℕ) : Type 0 where
    pub disk_size_is : length disk ≡ disk_size γ groups
    pub most : groups ≤ γ.most_groups
    pub blank : page ≡ blank_page γ
