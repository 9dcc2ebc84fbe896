-- Five numbers, each behind the one before, and the time left behind them.
use Rattle.std.proofs.Common.{rules, arith}
use Rattle.script_answers.proofs.PrintLaw.{five_put, left_within, all_put}
use Rattle.script_answers.proofs.printing.put_line.Goals as goal

pub put_signed-end-requires : goal.put_signed-end-requires
put_signed-end-requires c =
    left_within _ _ c.args.v c.args.s c.requires _ _
    (five_put _ _ c.args.v c.args.s c.requires _ _ _ _ _ _ _ _ _ _ c.put_spaced-block.ensures c.put_spaced-time.ensures
    c.put_spaced-number.ensures c.put_spaced-state.ensures c.put_spaced-left.ensures)
    (search rules)

pub bounds-out-end : goal.bounds-out-end
bounds-out-end c =
    (all_put _ _ c.args.v c.args.s c.requires _ _ _ _ _ _ _ _ _ _ _ _ c.put_spaced-block.ensures c.put_spaced-time.ensures
    c.put_spaced-number.ensures c.put_spaced-state.ensures c.put_spaced-left.ensures (search rules) c.put_signed-end.ensures).inside

pub overflow_add-result : goal.overflow_add-result
overflow_add-result c =
    let line =
    all_put _ _ c.args.v c.args.s c.requires _ _ _ _ _ _ _ _ _ _ _ _ c.put_spaced-block.ensures c.put_spaced-time.ensures
    c.put_spaced-number.ensures c.put_spaced-state.ensures c.put_spaced-left.ensures (search rules) c.put_signed-end.ensures in
    record { fits = omega (arith, line.within, c.requires, c.well_formed) }

pub returns : goal.returns
returns c =
    let line =
    all_put _ _ c.args.v c.args.s c.requires _ _ _ _ _ _ _ _ _ _ _ _ c.put_spaced-block.ensures c.put_spaced-time.ensures
    c.put_spaced-number.ensures c.put_spaced-state.ensures c.put_spaced-left.ensures (search rules) c.put_signed-end.ensures in
    (line.put.0, (line.put.1, line.within))
