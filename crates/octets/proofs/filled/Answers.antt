use Rattle.std.proofs.Common.{arith, ap, sym, slice_index_or, List, ℕ}
use Rattle.octets.proofs.PartLaw.{part_lent}
use Rattle.octets.proofs.RepeatedLaw.{repeated_at}
use Rattle.octets.proofs.EqualLaw.{compared_next, filled_end}
use Rattle.octets.proofs.filled.Goals as goal

pub loop-x-preserved : goal.loop-x-preserved
loop-x-preserved c =
    let n = c.args.n in
    let i = c.loop-x.x-index in
    compared_next _ _ i c.loop-x.differ _ _ c.loop-x.invariant
    (ap (λ (l : List ℕ). slice_index_or l i 0) (part_lent c.args.s.now c.args.at _ n (omega arith)))
    (sym (repeated_at n c.args.b i (omega arith)))

pub returns : goal.returns
returns c = filled_end _ _ _ _ _ _ c.requires (omega arith) c.loop-x.invariant
