-- The commands of a put, with a log block of zeros where it is due: of a content `foreseen` asks for its length alone. Assumes nothing:
-- these are definitions.
use Rattle.std.specs.Prelude.{Bool, true, false, List, [], ◌∷◌, ◌++◌, ℕ, Option}
use Rattle.octets.specs.Part.{repeated}
use Rattle.lockpage.specs.Geometry.{Geometry}
use Rattle.lockpage.specs.Size.{block_size}
use Rattle.versions_machine.specs.Plan.{Order, writing, unfreezes}

-- γ is the box's geometry
module _ (γ : Geometry) where
  unfoldable pub log_order : Bool → ℕ → ℕ → ℕ → List Order
  log_order due reserve now lock = elim due [ true ↦ writing reserve now lock (repeated (block_size γ) 0) ∷ [] | false ↦ [] ]

  unfoldable pub put_orders : (block now lock : ℕ) (content : List ℕ) (replaced : Option ℕ) (due : Bool) (reserve : ℕ) → List Order
  put_orders block now lock content replaced due reserve =
      writing block now lock content ∷ (unfreezes replaced now ++ log_order due reserve now lock)
