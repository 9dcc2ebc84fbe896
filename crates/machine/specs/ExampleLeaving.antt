-- The premises of specs/Leaving.antt can be met, and its bound is reached. From the formatted box block 0 is written, and its lock then
-- incremented by 0 again and again, all at 1000. The claim is a type; its proof is proofs/Theorems.antt, leaving-met.
use Rattle.std.specs.Prelude.{◌≡◌, List, [], ◌∷◌, ℕ, zero, suc}
use Rattle.lockpage.specs.Geometry.{base}
use Rattle.lockpage.specs.Entry.{entry, stamp_of, frozen_flag}
use Rattle.lockpage.specs.Page.{blank_entry}
use Rattle.memory.specs.Memory.{held, none, most_updates, update_count}
use Rattle.machine.specs.Command.{Box, Command}
use Rattle.machine.specs.Tag.{current_entry}
use Rattle.machine.specs.Step.{step, Accepted}
use Rattle.machine.specs.Run.{Event, Given, run, Throughout}
use Rattle.machine.specs.Leaving.{updates_in, NotRestarted}
use Rattle.machine.specs.Example.{updating, plain, formatted_box, writing, written_box, IsAccepted}

abbrev pub incrementing : Box → Command
incrementing s = updating s 6 1000 0 []

-- so many of them in a row, from box s on
abbrev pub increments : ℕ → Box → List Event
increments zero s = []
increments (suc n) s = Given (incrementing s) ∷ increments n (step base s (incrementing s)).box

abbrev pub restarting_late : Command
restarting_late = plain 8 1000

-- the box after the write and so many increments, and after a restart then
abbrev pub incremented : ℕ → Box
incremented n = run base written_box (increments n written_box)

abbrev pub restarted_after : ℕ → Box
restarted_after n = (step base (incremented n) restarting_late).box

pub record LeavingMet : Type 0 where
  -- the write is accepted, and so are 63 increments after it, all of its group
  pub written : Accepted base formatted_box writing
  pub followed : Throughout base IsAccepted written_box (increments 63 written_box)
  pub unbroken : Throughout base (NotRestarted base) written_box (increments 63 written_box)
  pub many : updates_in base 0 written_box (increments 63 written_box) ≡ most_updates
  -- then the page has left, and after a restart the block is frozen as it was written
  pub left : held base (incremented 63).memory ≡ none
  pub restarted : Accepted base (incremented 63) restarting_late
  pub kept : current_entry base (restarted_after 63) 0 ≡ entry 500 (stamp_of 1000 frozen_flag)
  -- with one increment less the page is held, updated 63 times: a restart loses them all, and the block is blank
  pub held_still : held base (incremented 62).memory ≡ 0
  pub updated : update_count base (incremented 62).memory ≡ most_updates
  pub restarted_early : Accepted base (incremented 62) restarting_late
  pub lost : current_entry base (restarted_after 62) 0 ≡ blank_entry
