-- The bytes before byte-index are read, and what they printed stands in out.
use Rattle.script_answers.specs.Answer.{box_in}
use Rattle.script_printout.proofs.FeedLaw.{Feeding}
use Rattle.script.proofs.feed.Given as goal

abbrev pub invariant-loop-byte : goal.invariant-loop-byte
invariant-loop-byte l =
    Feeding l.fn.reader (box_in l.fn.b) l.fn.piece l.fn.out l.progress (box_in l.b) l.out l.byte-index
