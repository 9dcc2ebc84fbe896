-- `versions::start` meets its contract: the first no, in order, and else the state of a store just started. Assumes nothing.
use Rattle.std.proofs.Common.{ap, sym, ◌∙◌, arith, rules}
use Rattle.lockpage.proofs.GeometryLaw.{present_proper as σ}
use Rattle.versions_bytes.specs.Call.{started_of}
use Rattle.versions.proofs.StartLaw.{wrong_size, no_lock, started}
use Rattle.versions.proofs.start.Goals as goal

pub returns-then-buffer-ne-STATE_SIZE : goal.returns-then-buffer-ne-STATE_SIZE
returns-then-buffer-ne-STATE_SIZE c = wrong_size σ _ _ _ (search rules)

pub returns-then-not-is_lock : goal.returns-then-not-is_lock
returns-then-not-is_lock c = no_lock σ _ _ _ (omega arith) (sym c.is_lock.ensures ∙ (search rules))

pub returns : goal.returns
returns c = ap (started_of 0) c.start.ensures ∙ started σ _ _ _ (omega arith) (sym c.is_lock.ensures ∙ (search rules))
