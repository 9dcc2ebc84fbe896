-- `blake3::chunk::flags` meets its contract: the four cases of its tests. Assumes nothing.
use Rattle.std.proofs.Common.{◌+◌, arith}
use borrow.Author.Tests.{eq-eqb, ne_eqb}
use Rattle.blake3.specs.Blake3 as B
use Rattle.blake3.proofs.chunk.flags.Goals as goal

pub returns-then-n-eq1 : goal.returns-then-n-eq1
unfolding B.flags
returns-then-n-eq1 c =
    let a = c.args in
    rw (eq-eqb a.k 0 c.if-k-eq0.true, eq-eqb (a.k + 1) a.n (omega arith))

pub returns-else-n-eq1 : goal.returns-else-n-eq1
unfolding B.flags
returns-else-n-eq1 c =
    let a = c.args in
    rw (eq-eqb a.k 0 c.if-k-eq0.true, ne_eqb (a.k + 1) a.n (λ e. c.if-n-eq1.false (omega (arith, c.if-k-eq0.true)))) (omega arith)

pub returns-then-k-n : goal.returns-then-k-n
unfolding B.flags
returns-then-k-n c =
    let a = c.args in
    rw (ne_eqb a.k 0 c.if-k-eq0.false, eq-eqb (a.k + 1) a.n c.if-k-n.true) (omega arith)

pub returns-else-k-n : goal.returns-else-k-n
unfolding B.flags
returns-else-k-n c =
    let a = c.args in
    rw (ne_eqb a.k 0 c.if-k-eq0.false, ne_eqb (a.k + 1) a.n c.if-k-n.false)
