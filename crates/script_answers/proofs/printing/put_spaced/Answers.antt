-- A number, and a space behind it.
use Rattle.std.proofs.Common.{arith}
use Rattle.decimal.proofs.DecimalLaw.{decimal_size_64}
use Rattle.script_answers.proofs.PrintLaw.{spaced_put}
use Rattle.script_answers.proofs.printing.put_spaced.Goals as goal

pub put-end-requires : goal.put-end-requires
put-end-requires c = omega (arith, decimal_size_64 c.args.n c.ranges.n.fits)

pub bounds-out-end : goal.bounds-out-end
bounds-out-end c = (spaced_put _ _ _ _ _ c.ranges.n.fits c.requires c.put-end.ensures).inside

pub overflow_add-result : goal.overflow_add-result
overflow_add-result c = record { fits = omega (arith, (spaced_put _ _ _ _ _ c.ranges.n.fits c.requires c.put-end.ensures).within) }

pub returns : goal.returns
returns c =
    let s = spaced_put _ _ _ _ _ c.ranges.n.fits c.requires c.put-end.ensures in
    (s.put.0, (s.put.1, omega (arith, s.within)))
