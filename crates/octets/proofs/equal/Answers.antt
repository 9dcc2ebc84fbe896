-- The loop goes over the bytes of both slices side by side. Assumes nothing.
use Rattle.std.proofs.Common.{arith, ap, sym, length}
use Rattle.std.proofs.lemmas.List.{length_push}
use Rattle.std.proofs.lemmas.Slice.Zip.{zip_turn, zip_end}
use Rattle.octets.proofs.EqualLaw.{compared_next, compared_end, equal_no}
use Rattle.octets.proofs.equal.Goals as goal

pub returns-then-a-b : goal.returns-then-a-b
returns-then-a-b c = sym (equal_no _ _ (λ e. c.if-a-b.true (ap length e)))

pub loop-x-preserved : goal.loop-x-preserved
loop-x-preserved c =
    let turn = zip_turn c.args.a.now c.args.b.now _ _ _ c.next.new.self _ (cc) (cc) c.loop-x.yielded_by _ c.in-Some.is c.next.ensures.steps in
    let step = compared_next _ _ _ _ _ _ c.loop-x.invariant (turn.2 0) (turn.3 0) in
    rw length_push step

pub returns : goal.returns
returns c =
    let all = zip_end c.args.a.now c.args.b.now _ _ _ c.next.new.self _ (cc) (cc) c.loop-x.yielded_by c.in-None.is c.next.ensures.steps in
    compared_end _ _ _ _ c.loop-x.invariant c.if-a-b.false (omega arith)
