-- The claims of specs/Claims.antt, proved. Assumes nothing.
use mathlib.Core.Path.{refl}
use Rattle.lockpage.specs.Geometry.{Geometry, Proper}
use Rattle.versions_machine.specs.Versions.{Range}
use Rattle.versions_machine.specs.Run.{start_site, calls}
use Rattle.versions_bytes.specs.Call.{start_bytes}
use Rattle.versions_bytes.specs.Run.{buffers_of, calls_on}
use Rattle.versions_bytes.specs.Claims.{PresentStateSize, FittingIsHandedOn, ValidIsRead, BytesFollow}
use Rattle.versions_bytes.proofs.FitLaw.{handed_on}
use Rattle.versions_bytes.proofs.ReadFitsLaw.{read_whole}
use Rattle.versions_bytes.proofs.FollowLaw.{follows, start_has, calls_have}

pub present_state_size : PresentStateSize
unfolding PresentStateSize
present_state_size = refl

-- γ is any proper geometry
module _ {γ : Geometry} (σ : Proper γ) where
  pub fitting_is_handed_on : FittingIsHandedOn γ
  unfolding FittingIsHandedOn
  fitting_is_handed_on = handed_on σ

pub valid_is_read : (γ : Geometry) → ValidIsRead γ
unfolding ValidIsRead
valid_is_read γ state b v = read_whole γ state v b

module _ {γ : Geometry} (σ : Proper γ) (ρ : Range) where
  pub bytes_follow : BytesFollow γ ρ
  unfolding BytesFollow
  bytes_follow numbers least buffer lock s cs a =
      let x = buffers_of (start_bytes γ ρ.first buffer lock).state s in
      let y = start_site γ ρ lock s in
      follows σ ρ numbers (calls_on γ ρ x cs) (calls γ ρ y cs) (calls_have σ ρ numbers x y cs (start_has σ ρ numbers least buffer lock s a))
