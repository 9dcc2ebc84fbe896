-- Laws of blocks and extents: what is read after a store at the same place and at another, lengths, bytes, a block stored within a
-- extent. Assumes nothing.
use mathlib.Core.Path.{◌≡◌, ap, sym, ◌∙◌}
use mathlib.Core.Logic.{◌⊎◌, inl, inr}
use mathlib.Core.List.{List}
use Prim.Native.Nat.{ℕ, ◌+◌, ◌*◌, ◌≤◌, ◌<◌}
use native.Mathlib.Omega.{arith}
use lib.ListN.{length}
use Rattle.octets.specs.Part.{AreBytes, part, replaced}
use Rattle.octets.proofs.OrderLaw.{apart}
use Rattle.octets.proofs.BelowLaw.{below_part, below_replaced}
use Rattle.octets.proofs.PartLaw.{part_length, part_part}
use Rattle.octets.proofs.ReplacedLaw.{replaced_length, part_same, part_other, replaced_within}
use Rattle.lockpage.specs.Geometry.{Geometry, Proper}
use Rattle.lockpage.specs.Size.{block_size}
use Rattle.addressing.specs.Map.{group_blocks, group_size, disk_size, data_blocks, group_of, group_start, block_start}
use Rattle.disk.specs.Disk.{block, with_block, extent, with_extent, HasGroup}
use Rattle.addressing.proofs.MapLaw.{block_start_below, block_start_end, block_start_group, block_start_place, group_start_below, group_of_below}

-- γ is any proper geometry
module _ {γ : Geometry} (σ : Proper γ) where
  -- ---- blocks

  module _ (l : List ℕ) (q : ℕ) (new : List ℕ) (size : length new ≡ block_size γ) (inside : block_start γ q + block_size γ ≤ length l) where
    pub with_block_length : length (with_block γ l q new) ≡ length l
    unfolding with_block
    with_block_length = replaced_length l (block_start γ q) new (omega arith)

    pub block_same : block γ (with_block γ l q new) q ≡ new
    unfolding block with_block
    block_same = part_same l (block_start γ q) new (block_size γ) size inside

    pub block_other : (p : ℕ) → (p ≡ q → ⊥) → block γ (with_block γ l q new) p ≡ block γ l p
    unfolding block with_block
    block_other p n = part_other l (block_start γ q) new (block_start γ p) (block_size γ) (omega arith) (go (apart p q n))
      where
        go : (p < q) ⊎ (q < p) → (block_start γ p + block_size γ ≤ block_start γ q) ⊎ (block_start γ q + length new ≤ block_start γ p)
        go (inl h) = inl (block_start_below σ p q h)
        go (inr h) = inr (omega (arith, block_start_below σ q p h))

  pub block_length : (l : List ℕ) (p : ℕ) → block_start γ p + block_size γ ≤ length l → length (block γ l p) ≡ block_size γ
  unfolding block
  block_length l p h = part_length l (block_start γ p) (block_size γ) h

  pub block_are : (l : List ℕ) (p : ℕ) → AreBytes l → AreBytes (block γ l p)
  unfolding block
  block_are l p b = below_part 256 l (block_start γ p) (block_size γ) b

  pub with_block_are : (l : List ℕ) (p : ℕ) (new : List ℕ) → AreBytes l → AreBytes new → AreBytes (with_block γ l p new)
  unfolding with_block
  with_block_are l p new b c = below_replaced 256 l (block_start γ p) new b c

  -- a block below 65 × G has its bytes on the disk of G groups
  pub block_within : (disk : List ℕ) (groups p : ℕ) → length disk ≡ disk_size γ groups → p < group_blocks γ * groups
      → block_start γ p + block_size γ ≤ length disk
  block_within disk groups p l h = omega (arith, block_start_below σ p (group_blocks γ * groups) h, block_start_end σ groups)

  -- ---- extents

  pub has_group : (disk : List ℕ) (groups g : ℕ) → length disk ≡ disk_size γ groups → g < groups → HasGroup γ disk g
  unfolding HasGroup
  has_group disk groups g l h = omega (arith, group_start_below σ groups g h)

  -- the group of a data block
  pub has_group_of : (disk : List ℕ) (groups a : ℕ) → length disk ≡ disk_size γ groups → a < data_blocks γ groups → HasGroup γ disk (group_of γ a)
  has_group_of disk groups a l h = has_group disk groups (group_of γ a) l (group_of_below σ groups a h)

  module _ (disk : List ℕ) (g : ℕ) (has : HasGroup γ disk g) where
    pub extent_length : length (extent γ disk g) ≡ group_size γ
    unfolding extent HasGroup
    extent_length = part_length disk (group_start γ g) (group_size γ) has

    module _ (place : ℕ) (h : place < group_blocks γ) where
      -- a block read within the extent is read on the disk
      pub block_in_extent : block γ (extent γ disk g) place ≡ block γ disk (group_blocks γ * g + place)
      unfolding block extent
      block_in_extent =
          part_part disk (group_start γ g) (group_size γ) (block_start γ place) (block_size γ) (block_start_place σ place h)
          ∙ ap (λ (at : ℕ). part disk at (block_size γ)) (sym (block_start_group σ g place))

      -- a block stored within the extent is stored on the disk
      pub stored_in_extent : (new : List ℕ) → length new ≡ block_size γ
          → with_extent γ disk g (with_block γ (extent γ disk g) place new) ≡ with_block γ disk (group_blocks γ * g + place) new
      unfolding with_block with_extent extent HasGroup
      stored_in_extent new s =
          replaced_within disk (group_start γ g) (group_size γ) (block_start γ place) new has (omega (arith, block_start_place σ place h))
          ∙ ap (λ (at : ℕ). replaced disk at new) (sym (block_start_group σ g place))
