-- The claims of specs/Claims.antt, proved. Assumes nothing.
use mathlib.Core.Path.{refl}
use Rattle.lockpage.specs.Geometry.{Geometry, Proper}
use Rattle.memory.specs.Claims.{PapersPlaces, PapersPresentPlaces, GetAfterSet, FormattedReads}
use Rattle.memory.proofs.FieldLaw.{salt_set, count_set, counts_cleared, time_set, groups_set, held_set, updates_set, page_set, page_held, page_dropped}
use Rattle.memory.proofs.FormatLaw as F

pub papers_places : PapersPlaces
unfolding PapersPlaces
papers_places =
    record {
      salt_at = (refl, refl);
      counts_at = (refl, refl);
      time_at = (refl, refl);
      groups_at = refl;
      held_at = refl;
      update_count_at = refl;
      reserved_at = (refl, refl);
      page_at = (refl, refl);
      size = refl;
    }

pub papers_present_places : PapersPresentPlaces
unfolding PapersPresentPlaces
papers_present_places =
    record {
      salt_at = (refl, refl);
      counts_at = (refl, refl);
      time_at = (refl, refl);
      groups_at = refl;
      held_at = refl;
      update_count_at = refl;
      reserved_at = (refl, refl);
      page_at = (refl, refl);
      size = refl;
    }

-- γ is any proper geometry
module _ {γ : Geometry} (σ : Proper γ) where
  pub get_after_set : GetAfterSet γ
  unfolding GetAfterSet
  get_after_set m size =
      record {
        salt_set = salt_set σ m size;
        count_set = count_set σ m size;
        counts_cleared = counts_cleared σ m size;
        time_set = time_set σ m size;
        groups_set = groups_set σ m size;
        held_set = held_set σ m size;
        updates_set = updates_set σ m size;
        page_set = page_set σ m size;
        page_held = page_held σ m size;
        page_dropped = page_dropped σ m size;
      }

  pub formatted_reads : FormattedReads γ
  unfolding FormattedReads
  formatted_reads = F.formatted_reads σ
