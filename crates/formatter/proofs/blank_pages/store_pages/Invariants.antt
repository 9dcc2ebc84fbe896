use Rattle.std.proofs.Common.{◌≡◌}
use Rattle.lockpage.specs.Geometry.{present}
use Rattle.machine.specs.Effect.{stored}
use Rattle.machine.specs.Format.{blank_pages}
use Rattle.formatter.proofs.blank_pages.store_pages.Given as goal

-- the first g pages are stored
abbrev pub invariant-loop-g : goal.invariant-loop-g
invariant-loop-g l = l.disk ≡ stored present l.fn.disk (blank_pages present l.g)
