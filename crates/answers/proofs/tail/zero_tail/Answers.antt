-- The tail of an array of zeros is stored. Assumes nothing.
use Rattle.std.proofs.Common.{ap, arith, ◌-◌, ◌∙◌}
use Rattle.octets.specs.Part.{part, replaced, repeated}
use Rattle.octets.proofs.RepeatedLaw.{repeated_part}
use Rattle.lockpage.specs.Geometry.{present}
use Rattle.machine.specs.Command.{answer_size}
use Rattle.answers.proofs.tail.zero_tail.Goals as goal

pub returns : goal.returns
unfolding repeated part
returns c =
    c.store_bytes.ensures
    ∙ ap (replaced c.args.answer.now c.args.from)
    (repeated_part (answer_size present) 0 c.args.from (answer_size present - c.args.from) (omega (arith, c.requires)))
