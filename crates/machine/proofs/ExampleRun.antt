-- The events of specs/Example.antt, one after the other: each is accepted. Assumes nothing.
use mathlib.Core.Path.{◌≡◌, refl, subst, ◌∙◌}
use mathlib.Mathlib.Data.Bool.Basic.{and_intro}
use mathlib.Core.List.{[]}
use native.Mathlib.Omega.{arith}
use borrow.Author.Tests.{eq-eqb}
use lib.Dec.{lit<, lit≤}
use lib.ListN.{length}
use Rattle.octets.specs.Part.{repeated}
use Rattle.octets.proofs.RepeatedLaw.{repeated_length}
use Rattle.lockpage.specs.Geometry.{base}
use Rattle.lockpage.specs.Size.{block_size}
use Rattle.lockpage.specs.declared.Update.TheVariants.{Write, Unfreeze}
use Rattle.lockpage.specs.Entry.{entry, time_of_write, flag, is_frozen}
use Rattle.lockpage.specs.State.{state}
use Rattle.lockpage.specs.Update.{expiry_at, updated, allowed, word_limit, within_limit}
use Rattle.lockpage.specs.Page.{blank_entry}
use Rattle.lockpage.proofs.GeometryLaw.{base_proper}
use Rattle.addressing.specs.Map.{disk_size, data_blocks, group_of, place_of}
use Rattle.memory.specs.Layout.{memory_size, salt_size}
use Rattle.memory.specs.Memory.{none}
use Rattle.machine.specs.Command.{Box, box_of, kind_numbered}
use Rattle.machine.specs.Tag.{current_page}
use Rattle.machine.specs.Question.{refusal}
use Rattle.machine.specs.Format.{format_questions, format}
use Rattle.machine.specs.Query.{query_refusal}
use Rattle.machine.specs.Claims.{Formats}
use Rattle.machine.specs.Example.{formatted_box, writing, written_box, syncing, start, unfreezing, unfrozen_box, showing, shown_box, listing, listed_box}
use Rattle.machine.specs.Example.{restarting, restarted_box, reading_back, read_box, unfreezing_again, counting_box, overwriting, showing_other, other_box}
use Rattle.machine.specs.Example.{listing_other, other_listed_box, reading_other}
use Rattle.machine.proofs.QuestionLaw.{yes_accepted}
use Rattle.machine.proofs.TagLaw.{current_other}
use Rattle.machine.proofs.FormatLaw.{formats}
use Rattle.machine.proofs.ExampleLaw.{OnPage, Known, served, updated_known, comes_in, read_served, entry_served, sync_served, restart_served, read_known}
use Rattle.machine.proofs.ExampleLaw.{entry_known, sync_known, restart_known}
use Rattle.machine.proofs.ExampleQueryLaw.{asking_served, asking_known}

-- ---- the formatted box

-- what is formatted: zeros
unfoldable pub zero_box : Box
zero_box = box_of (repeated (memory_size base) 0) (repeated (disk_size base 1) 0)

pub as_formatted : Formats base zero_box 1 (repeated salt_size 0)
as_formatted = formats base_proper zero_box 1 (repeated salt_size 0)

format_passes : (format base zero_box 1 (repeated salt_size 0)).number ≡ 0
unfolding format_questions zero_box
format_passes =
    as_formatted.number
    ∙ yes_accepted (format_questions base zero_box 1 (repeated salt_size 0)) (
      and_intro refl (and_intro refl (eq-eqb (length (repeated (memory_size base) 0)) (memory_size base) (repeated_length (memory_size base) 0))),
      (
        eq-eqb (length (repeated (disk_size base 1) 0)) (disk_size base 1) (repeated_length (disk_size base 1) 0),
        (eq-eqb (length (repeated salt_size 0)) salt_size (repeated_length salt_size 0), tt),
      ),
    )

pub known_formatted : Known 0 0 none blank_entry blank_entry formatted_box
unfolding formatted_box zero_box group_of place_of data_blocks
known_formatted =
    let r = as_formatted.reads format_passes in
    let page : OnPage blank_entry (current_page base formatted_box 0) =
    record {
      written = as_formatted.blank format_passes 0 (lit< tt);
      unwritten = as_formatted.blank format_passes 1 (lit< tt);
    } in
    record {
      valid = as_formatted.valid format_passes;
      one = r.groups;
      last = r.time;
      count_is = r.count 0 (lit< tt);
      held_is = r.held;
      current = page;
      on_disk = subst (OnPage blank_entry) (current_other base_proper formatted_box 0 (λ e. omega (arith, r.held))) page;
    }

-- ---- each command of the run

pub writing_served : refusal base formatted_box writing ≡ 0
unfolding kind_numbered time_of_write flag is_frozen state expiry_at updated allowed word_limit within_limit
writing_served =
    served known_formatted (Write 500) 4 1000 500 (repeated (block_size base) 1) refl (lit≤ tt) (lit≤ tt) (lit< tt)
    (repeated_length (block_size base) 1) refl refl

pub known_written : Known 1000 1 0 (entry 500 2000) blank_entry written_box
unfolding written_box kind_numbered updated
known_written =
    updated_known known_formatted (Write 500) 4 1000 500 (repeated (block_size base) 1) refl writing_served
    (record { word = lit< tt; stamp = lit< tt }) (comes_in known_formatted refl)

pub syncing_served : refusal base written_box syncing ≡ 0
syncing_served = sync_served known_written 1000 (lit≤ tt) (lit≤ tt)

pub known_start : Known 1000 1 none (entry 500 2000) (entry 500 2000) start
unfolding start
known_start = sync_known known_written 1000 syncing_served

pub unfreezing_served : refusal base start unfreezing ≡ 0
unfolding kind_numbered time_of_write flag is_frozen state expiry_at updated allowed word_limit within_limit
unfreezing_served = served known_start Unfreeze 5 1200 0 [] refl (lit≤ tt) (lit≤ tt) (lit< tt) refl refl refl

pub known_unfrozen : Known 1200 2 0 (entry 1701 2001) (entry 500 2000) unfrozen_box
unfolding unfrozen_box kind_numbered time_of_write expiry_at updated
known_unfrozen =
    updated_known known_start Unfreeze 5 1200 0 [] refl unfreezing_served (record { word = lit< tt; stamp = lit< tt })
    (comes_in known_start refl)

pub showing_served : refusal base unfrozen_box showing ≡ 0
showing_served = entry_served known_unfrozen 1250 (lit≤ tt) (lit≤ tt)

pub known_shown : Known 1250 2 0 (entry 1701 2001) (entry 500 2000) shown_box
unfolding shown_box
known_shown = entry_known known_unfrozen 1250 showing_served

pub listing_served : query_refusal base shown_box listing ≡ 0
listing_served = asking_served known_shown 1275 (lit≤ tt) (lit≤ tt)

known_listed : Known 1275 2 0 (entry 1701 2001) (entry 500 2000) listed_box
unfolding listed_box
known_listed = asking_known known_shown 1275 listing_served

pub restarting_served : refusal base listed_box restarting ≡ 0
restarting_served = restart_served known_listed 1300 (lit≤ tt) (lit≤ tt)

known_restarted : Known 1300 3 none (entry 500 2000) (entry 500 2000) restarted_box
unfolding restarted_box
known_restarted = restart_known known_listed 1300 restarting_served refl

pub reading_back_served : refusal base restarted_box reading_back ≡ 0
reading_back_served = read_served known_restarted 1350 (lit≤ tt) (lit≤ tt)

pub known_read : Known 1350 3 none (entry 500 2000) (entry 500 2000) read_box
unfolding read_box
known_read = read_known known_restarted 1350 reading_back_served

pub unfreezing_again_served : refusal base read_box unfreezing_again ≡ 0
unfolding kind_numbered time_of_write flag is_frozen state expiry_at updated allowed word_limit within_limit
unfreezing_again_served = served known_read Unfreeze 5 1400 0 [] refl (lit≤ tt) (lit≤ tt) (lit< tt) refl refl refl

pub known_counting : Known 1400 4 0 (entry 1901 2001) (entry 500 2000) counting_box
unfolding counting_box kind_numbered time_of_write expiry_at updated
known_counting =
    updated_known known_read Unfreeze 5 1400 0 [] refl unfreezing_again_served (record { word = lit< tt; stamp = lit< tt })
    (comes_in known_read refl)

pub overwriting_served : refusal base counting_box overwriting ≡ 0
unfolding kind_numbered time_of_write flag is_frozen state expiry_at updated allowed word_limit within_limit
overwriting_served =
    served known_counting (Write 0) 4 1901 0 (repeated (block_size base) 2) refl (lit≤ tt) (lit≤ tt) (lit< tt)
    (repeated_length (block_size base) 2) refl refl

-- ---- and of the other run

pub showing_other_served : refusal base start showing_other ≡ 0
showing_other_served = entry_served known_start 1450 (lit≤ tt) (lit≤ tt)

pub known_other : Known 1450 1 none (entry 500 2000) (entry 500 2000) other_box
unfolding other_box
known_other = entry_known known_start 1450 showing_other_served

pub listing_other_served : query_refusal base other_box listing_other ≡ 0
listing_other_served = asking_served known_other 1475 (lit≤ tt) (lit≤ tt)

known_other_listed : Known 1475 1 none (entry 500 2000) (entry 500 2000) other_listed_box
unfolding other_listed_box
known_other_listed = asking_known known_other 1475 listing_other_served

pub reading_other_served : refusal base other_listed_box reading_other ≡ 0
reading_other_served = read_served known_other_listed 1500 (lit≤ tt) (lit≤ tt)
