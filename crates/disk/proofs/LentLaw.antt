-- Parts that are cut out and lent, as the code makes them: a block copied, a block's part that came back filled, an extent that was
-- cut out, handed on and came back. Assumes nothing.
use mathlib.Core.Path.{◌≡◌, ap, ap₂, sym, subst, ◌∙◌}
use mathlib.Core.List.{List, ◌++◌}
use Prim.Native.Nat.{ℕ, ◌+◌, ◌*◌, ◌-◌, ◌≤◌, ◌<◌}
use native.Mathlib.Omega.{arith}
use lib.ListN.{length, take, drop}
use Rattle.octets.specs.Part.{part, replaced}
use Rattle.octets.proofs.ReplacedLaw.{replaced_lent}
use Rattle.lockpage.specs.Geometry.{Geometry, Proper}
use Rattle.lockpage.specs.Size.{block_size}
use Rattle.lockpage.specs.declared.Entry.{Entry}
use Rattle.lockpage.specs.Page.{entry_at}
use Rattle.addressing.specs.Map.{group_blocks, group_size, group_start, block_start}
use Rattle.disk.specs.Disk.{block, with_block, extent, with_extent, HasGroup}
use Rattle.addressing.proofs.MapLaw.{block_start_place}
use Rattle.disk.proofs.DiskLaw.{with_block_length, block_length, extent_length, block_in_extent, stored_in_extent}

-- the end of a part less its start
span : (from n : ℕ) → from + n - from ≡ n
span from n = omega arith

-- an entry of a page that was cut out
pub entry_cut : (p q : List ℕ) (i : ℕ) (r : Entry) → p ≡ q → r ≡ entry_at p i → r ≡ entry_at q i
entry_cut p q i r e h = h ∙ ap (λ (x : List ℕ). entry_at x i) e

-- γ is any proper geometry
module _ {γ : Geometry} (σ : Proper γ) where
  -- the length of a block at a place of an extent
  pub place_length : (group : List ℕ) (place : ℕ) → length group ≡ group_size γ → place < group_blocks γ → length (block γ group place) ≡ block_size γ
  place_length group place l h = block_length σ group place (omega (arith, l, block_start_place σ place h))

  -- a block's part, cut out
  pub block_cut : (l : List ℕ) (p from : ℕ) → from ≡ block_start γ p → take (from + block_size γ - from) (drop from l) ≡ block γ l p
  unfolding block part
  block_cut l p from ef = ap₂ (λ (k at : ℕ). take k (drop at l)) (span from (block_size γ)) ef

  -- an extent's end, an extent cut out, and one lent and come back
  pub extent_end : (disk : List ℕ) (g from : ℕ) → HasGroup γ disk g → from ≡ group_start γ g → from + group_size γ ≤ length disk
  unfolding HasGroup
  extent_end disk g from has ef = omega arith

  pub extent_cut : (disk : List ℕ) (g from : ℕ) → from ≡ group_start γ g → take (from + group_size γ - from) (drop from disk) ≡ extent γ disk g
  unfolding extent part
  extent_cut disk g from ef = ap₂ (λ (k at : ℕ). take k (drop at disk)) (span from (group_size γ)) ef

  extent_lent : (disk r : List ℕ) (g from : ℕ) → from ≡ group_start γ g → length r ≡ group_size γ
      → take from disk ++ (r ++ drop (from + group_size γ - from) (drop from disk)) ≡ with_extent γ disk g r
  unfolding with_extent
  extent_lent disk r g from ef s =
      replaced_lent disk from (from + group_size γ - from) r (s ∙ sym (span from (group_size γ))) ∙ ap (λ (at : ℕ). replaced disk at r) ef

  -- a group's number that was computed
  pub has_computed : (disk : List ℕ) (g k : ℕ) → HasGroup γ disk g → k ≡ g → HasGroup γ disk k
  has_computed disk g k has e = subst (HasGroup γ disk) (sym e) has

  -- block p of the disk, read by its place in an extent that was handed back
  module _ (disk s : List ℕ) (g k : ℕ) (has : HasGroup γ disk g) (ek : k ≡ g) (es : s ≡ extent γ disk k) where
    pub cut_length : length s ≡ group_size γ
    cut_length = ap length (es ∙ ap (extent γ disk) ek) ∙ extent_length σ disk g has

    pub block_read : (r : List ℕ) (place p : ℕ) → place < group_blocks γ → p ≡ group_blocks γ * g + place → r ≡ block γ s place → r ≡ block γ disk p
    block_read r place p h ep er =
        er
        ∙ ap (λ (t : List ℕ). block γ t place) (es ∙ ap (extent γ disk) ek)
        ∙ block_in_extent σ disk g has place h
        ∙ ap (block γ disk) (sym ep)

  -- block p of the disk, stored by its place in an extent that was lent
  pub block_stored : (disk new r : List ℕ) (g from place p : ℕ) → HasGroup γ disk g → place < group_blocks γ → from ≡ group_start γ g
      → p ≡ group_blocks γ * g + place → length new ≡ block_size γ → r ≡ with_block γ (take (from + group_size γ - from) (drop from disk)) place new
      → take from disk ++ (r ++ drop (from + group_size γ - from) (drop from disk)) ≡ with_block γ disk p new
  block_stored disk new r g from place p has h ef ep s er =
      let within : r ≡ with_block γ (extent γ disk g) place new =
      er ∙ ap (λ (t : List ℕ). with_block γ t place new) (extent_cut disk g from ef) in
      let inside : block_start γ place + block_size γ ≤ length (extent γ disk g) = omega (arith, extent_length σ disk g has, block_start_place σ place h) in
      let size : length r ≡ group_size γ =
      ap length within ∙ with_block_length σ (extent γ disk g) place new s inside ∙ extent_length σ disk g has in
      extent_lent disk r g from ef size
      ∙ ap (with_extent γ disk g) within
      ∙ stored_in_extent σ disk g has place h new s
      ∙ ap (λ (q : ℕ). with_block γ disk q new) (sym ep)
