use Rattle.octets.specs.Part.{part, repeated}
use Rattle.octets.proofs.EqualLaw.{Compared}
use Rattle.octets.proofs.filled.Given as goal

-- no bit of differ is set just where the bytes passed are b
abbrev pub invariant-loop-x : goal.invariant-loop-x
invariant-loop-x l = Compared (part l.fn.s l.fn.at l.fn.n) (repeated l.fn.n l.fn.b) l.x-index l.differ
