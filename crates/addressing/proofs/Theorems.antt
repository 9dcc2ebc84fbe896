-- The claims of specs/Claims.antt, proved. Assumes nothing.
use Prim.Native.Nat.{ℕ}
use mathlib.Core.Path.{refl, ap, ◌∙◌}
use native.Mathlib.Omega.{arith}
use Rattle.lockpage.specs.Geometry.{Geometry, Proper, base, present}
use Rattle.lockpage.proofs.GeometryLaw.{base_proper, present_proper}
use Rattle.addressing.specs.Map.{data_blocks, group_of, place_of, page_place, physical, block_start}
use Rattle.addressing.specs.Claims.{PapersDiskSizes, PapersMap, Inside, Apart, Within, ExtentsApart, ExtentsCover}
use Rattle.addressing.proofs.MapLaw.{group_of_below, place_of_below, physical_place, page_block_place, physical_below, page_block_below, physical_same}
use Rattle.addressing.proofs.MapLaw.{page_block_same, physical_page, block_start_end, block_start_group, group_start_apart, in_extent}

pub papers_disk_sizes : PapersDiskSizes
papers_disk_sizes = record { data_blocks_is = refl; blocks = refl; bytes = refl }

-- document 01's box, and the one that the code runs
pub papers_map : PapersMap base
unfolding data_blocks group_of place_of physical
papers_map =
    record { of_box = group_of_below base_proper; group = λ a. refl; place = λ a. refl; physical_block = λ a. refl }

pub present_map : PapersMap present
unfolding data_blocks group_of place_of physical
present_map =
    record { of_box = group_of_below present_proper; group = λ a. refl; place = λ a. refl; physical_block = λ a. refl }

-- γ is any proper geometry
module _ {γ : Geometry} (σ : Proper γ) where
  pub inside : (groups : ℕ) → Inside γ groups
  inside groups =
      record { data_block = physical_below σ groups; page = page_block_below σ groups; bytes = block_start_end σ groups }

  pub apart : Apart γ
  apart = record { data_blocks_is = physical_same σ; pages = page_block_same σ; data_and_page = physical_page σ }

  pub within : Within γ
  unfolding block_start
  within =
      record {
        data_block = λ a. ap (block_start γ) (physical_place σ a) ∙ block_start_group σ (group_of γ a) (place_of γ a);
        data_place = place_of_below σ;
        page = λ g. ap (block_start γ) (page_block_place σ g) ∙ block_start_group σ g (page_place γ);
        page_last = omega arith;
      }

  pub extents_apart : ExtentsApart γ
  unfolding ExtentsApart
  extents_apart = group_start_apart σ

  pub extents_cover : ExtentsCover γ
  unfolding ExtentsCover
  extents_cover = in_extent σ
