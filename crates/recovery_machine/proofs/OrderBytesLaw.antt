-- The commands of the version store, and those without data and proof, have bytes, and so has a log block. Assumes nothing.
use mathlib.Core.List.{List, [], ◌∷◌, ◌++◌}
use Prim.Native.Nat.{ℕ, ◌-◌, ◌*◌}
use lib.ListN.{length}
use lib.Dec.{lit<}
use Rattle.octets.specs.Part.{AreBytes, repeated}
use Rattle.octets.specs.Number.{bytes}
use Rattle.octets.proofs.BelowLaw.{below_none, below_append}
use Rattle.octets.proofs.NumberLaw.{bytes_are}
use Rattle.octets.proofs.RepeatedLaw.{repeated_below}
use Rattle.lockpage.specs.Geometry.{Geometry, Proper}
use Rattle.addressing.specs.Map.{group_of}
use Rattle.machine.specs.Command.{Box, answer_size}
use Rattle.machine.specs.Tag.{current_page}
use Rattle.machine.specs.Step.{step}
use Rattle.machine.specs.Claims.{ByteBox, ByteCommand, StepKeepsBytes}
use Rattle.machine.proofs.TagLaw.{tagged_are, current_are}
use Rattle.machine.proofs.Theorems.{step_keeps_bytes}
use Rattle.versions_machine.specs.Versions.{Record}
use Rattle.versions_machine.specs.Log.{record_field, record_size, record_bytes, records_bytes, pointer_size, unused, records_per_block, log_block}
use Rattle.versions_machine.specs.Plan.{Order, given}
use Rattle.recovery_machine.specs.Met.{plain}

records_are : (xs : List Record) → AreBytes (records_bytes xs)
unfolding records_bytes record_bytes
records_are [] = below_none 256 (lit< tt)
records_are (x ∷ xs) =
    below_append 256 (record_bytes x) (records_bytes xs)
    (below_append 256 (bytes record_field x.part) (bytes record_field x.block) (bytes_are record_field x.part) (bytes_are record_field x.block))
    (records_are xs)

pub log_are : (γ : Geometry) (xs : List Record) (pointer : ℕ) → AreBytes (log_block γ xs pointer)
unfolding log_block
log_are γ xs pointer =
    let rest = repeated (record_size * (records_per_block γ - length xs)) unused in
    below_append 256 (records_bytes xs) (rest ++ bytes pointer_size pointer) (records_are xs)
    (below_append 256 rest (bytes pointer_size pointer) (repeated_below 256 (record_size * (records_per_block γ - length xs)) unused (lit< tt))
    (bytes_are pointer_size pointer))

module _ {γ : Geometry} (σ : Proper γ) where
  -- they leave bytes
  pub order_leaves : (s : Box) (o : Order) → ByteBox s → AreBytes o.content → ByteBox (step γ s (given γ s o)).box
  unfolding StepKeepsBytes
  order_leaves s o b content =
      let g = group_of γ o.block in
      let c : ByteCommand (given γ s o) =
      record {
        content = content;
        proof = tagged_are σ s.memory g (current_page γ s g) (current_are σ s g b.memory b.disk);
        answer = repeated_below 256 (answer_size γ) 0 (lit< tt);
      } in
      (step_keeps_bytes σ s (given γ s o) b c).box

  pub plain_leaves : (s : Box) (kind now : ℕ) → ByteBox s → ByteBox (step γ s (plain γ kind now)).box
  unfolding StepKeepsBytes
  plain_leaves s kind now b =
      let c : ByteCommand (plain γ kind now) =
      record {
        content = below_none 256 (lit< tt);
        proof = below_none 256 (lit< tt);
        answer = repeated_below 256 (answer_size γ) 0 (lit< tt);
      } in
      (step_keeps_bytes σ s (plain γ kind now) b c).box
