-- The claims of specs/Claims.antt, proved. Assumes nothing.
use mathlib.Core.Path.{refl}
use lib.Dec.{lit≤}
use native.Mathlib.Omega.{arith}
use Rattle.octets.specs.Number.{bytes}
use Rattle.lockpage.specs.declared.Update.TheVariants.{Unfreeze}
use Rattle.lockpage.specs.Geometry.{Geometry, Proper}
use Rattle.lockpage.specs.Entry.{entry_bytes, flag}
use Rattle.lockpage.specs.Page.{blank_entry}
use Rattle.lockpage.specs.Update.{latest_time, longest_lock, updated}
use Rattle.lockpage.specs.Claims.{PapersPageSizes, SizeDivEight, ReadAndWrittenBack, WrittenAndReadBack, StateOfEntry, UpdateFits}
use Rattle.lockpage.specs.Claims.{StateOfUnfrozen, LargestUnfreeze, Blank, LeftOfUnfrozen}
use Rattle.lockpage.proofs.EntryLaw.{entry_of_bytes, bytes_entry_of, frozen_yes, frozen_no}
use Rattle.lockpage.proofs.StateLaw.{state_frozen, state_counting, state_free, left_ahead, left_past}
use Rattle.lockpage.proofs.UpdateLaw.{expiry_none, expiry_some, updated_fits, unfrozen_word, unfrozen_some, unfrozen_flag_lem, unfrozen_within}
use Rattle.lockpage.proofs.PageLaw.{blank_page_length, blank_page_at}

pub papers_page_sizes : PapersPageSizes
papers_page_sizes = record { block = refl; page = refl; page_entries = refl; entry = refl }

pub read_and_written_back : ReadAndWrittenBack
unfolding ReadAndWrittenBack
read_and_written_back = bytes_entry_of

pub written_and_read_back : WrittenAndReadBack
unfolding WrittenAndReadBack
written_and_read_back = entry_of_bytes

pub state_of_entry : StateOfEntry
unfolding StateOfEntry
state_of_entry now e =
    record {
      is_frozen_is = λ f. state_frozen now e (frozen_yes e.stamp f);
      is_counting = λ f. state_counting now e (frozen_no e.stamp f);
      is_free = λ f. state_free now e (frozen_no e.stamp f);
    }

pub update_fits : UpdateFits
unfolding UpdateFits
update_fits = updated_fits

pub state_of_unfrozen : StateOfUnfrozen
unfolding StateOfUnfrozen
state_of_unfrozen t e =
    let after = updated Unfreeze t e in
    let no = frozen_no after.stamp (unfrozen_flag_lem t e) in
    record {
      counts = λ some now h. state_counting now after no (omega (arith, unfrozen_some t e some));
      ends = λ some now h. state_free now after no (omega (arith, unfrozen_some t e some));
      at_once = λ none now h. state_free now after no (omega (arith, unfrozen_word t e, expiry_none t e.word none));
    }

pub largest_unfreeze : LargestUnfreeze
largest_unfreeze = record { expiry = expiry_some latest_time longest_lock (lit≤ tt); within = unfrozen_within }

pub left_of_unfrozen : LeftOfUnfrozen
unfolding LeftOfUnfrozen
left_of_unfrozen now e f =
    let no = frozen_no e.stamp f in
    record { ahead = left_ahead now e no; past = left_past now e no }

-- γ is any proper geometry
module _ {γ : Geometry} (σ : Proper γ) where
  pub size_div_eight : SizeDivEight γ
  unfolding SizeDivEight
  size_div_eight = omega arith

  pub blank : Blank γ
  unfolding entry_bytes bytes flag
  blank =
      record {
        bytes = refl;
        free = λ now. state_free now blank_entry (frozen_no blank_entry.stamp refl) (omega arith);
        size = blank_page_length σ;
        each = blank_page_at σ;
      }
