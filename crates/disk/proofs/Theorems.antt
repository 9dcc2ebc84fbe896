-- The claim of specs/Claims.antt, proved. Assumes nothing.
use Rattle.lockpage.specs.Geometry.{Geometry, Proper}
use Rattle.disk.specs.Claims.{StoredInExtent}
use Rattle.disk.proofs.DiskLaw as D

-- γ is any proper geometry
module _ {γ : Geometry} (σ : Proper γ) where
  pub stored_in_extent : StoredInExtent γ
  unfolding StoredInExtent
  stored_in_extent disk g place new has h s = D.stored_in_extent σ disk g has place h new s
