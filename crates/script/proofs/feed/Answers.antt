-- The loop reads a piece byte by byte.
use Rattle.std.proofs.Common.{refl, arith}
use Rattle.script_printout.proofs.FeedLaw.{feeding_start, feeding_size, feeding_step, feeding_end}
use Rattle.script.proofs.feed.Goals as goal

pub loop-byte-init : goal.loop-byte-init
loop-byte-init c = feeding_start _ _ _ _ _ refl refl (omega arith)

pub read_byte-progress-requires : goal.read_byte-progress-requires
read_byte-progress-requires c =
    let inv = c.loop-byte.invariant in
    omega (arith, feeding_size _ _ _ _ _ _ _ _ inv, inv.inside)

pub loop-byte-preserved : goal.loop-byte-preserved
loop-byte-preserved c = feeding_step _ _ _ _ _ _ _ _ c.loop-byte.invariant _ _ _ _ (omega arith) refl c.read_byte-progress.ensures

pub returns : goal.returns
returns c = feeding_end _ _ _ _ _ _ _ _ c.loop-byte.invariant (omega arith) (omega arith)
