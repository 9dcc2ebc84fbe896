use Rattle.std.proofs.Common.{◌≡◌}
use Rattle.octets.specs.Part.{replaced}
use Rattle.lockpage.specs.Page.{repeated_entry, blank_entry}
use Rattle.lockpage.proofs.entries.store_blank.Given as goal

-- the first i entries are stored
abbrev pub invariant-loop-i : goal.invariant-loop-i
invariant-loop-i l = l.page ≡ replaced l.fn.page 0 (repeated_entry l.i blank_entry)
