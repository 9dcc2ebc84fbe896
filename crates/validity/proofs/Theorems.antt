-- The claims of specs/Claims.antt, proved. Assumes nothing.
use Rattle.lockpage.specs.Geometry.{Geometry, Proper}
use Rattle.validity.specs.Claims.{ChangesKeepValid, FormattedIsValid, UnusedCounts}
use Rattle.validity.proofs.ValidLaw.{facts, valid_salt, valid_time, valid_count, valid_no_counts, valid_holding, valid_none, valid_formatted}
use Rattle.validity.proofs.ValidLaw.{unused_count}

-- γ is any proper geometry
module _ {γ : Geometry} (σ : Proper γ) where
  pub changes_keep_valid : ChangesKeepValid γ
  unfolding ChangesKeepValid
  changes_keep_valid m e =
      let v = facts σ m e in
      record {
        salt_set = valid_salt σ m v;
        time_set = valid_time σ m v;
        count_set = valid_count σ m v;
        counts_cleared = valid_no_counts σ m v;
        page_held = valid_holding σ m v;
        page_dropped = valid_none σ m v;
      }

  pub formatted_is_valid : FormattedIsValid γ
  unfolding FormattedIsValid
  formatted_is_valid = valid_formatted σ

  pub unused_counts : UnusedCounts γ
  unfolding UnusedCounts
  unused_counts m g e = unused_count σ m (facts σ m e) g
