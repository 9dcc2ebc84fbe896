-- Three texts, each behind the one before.
use Rattle.std.proofs.Common.{arith}
use Rattle.script_printout.specs.Printout.{bad}
use Rattle.script_printout.proofs.TextLaw.{bad_line_length, bad_line_put}
use Rattle.script_bytes.proofs.texts.put_bad_line.Goals as goal

pub put-number-requires : goal.put-number-requires
put-number-requires c = omega (arith, bad_line_length c.args.n)

pub put-end-requires : goal.put-end-requires
put-end-requires c = omega (arith, bad_line_length c.args.n)

pub put-requires : goal.put-requires
put-requires c = omega (arith, bad_line_length c.args.n)

pub returns : goal.returns
unfolding bad
returns c = bad_line_put _ _ _ _ _ _ _ _ _ c.requires c.put-number.ensures c.put-end.ensures c.put.ensures
