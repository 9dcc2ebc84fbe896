-- `decimal::put_signed` meets its contract, in the two cases of its test. Assumes nothing.
use Rattle.std.proofs.Common.{arith, ap, length, ◌≡◌}
use mathlib.Core.Bool.{true, false}
use lib.ListN.{length-set}
use lib.IntN.{ℤ, pos}
use lib.Signed.{lt_z}
use mir.Syntax.{w64}
use mir.Val.{SFits, of_z, to_z}
use Rattle.octets.proofs.SignedLaw.{negative, not_negative}
use Rattle.decimal.proofs.PutLaw.{Signed, Unsigned, negative_text, unsigned_text, put_sign}
use Rattle.decimal.proofs.put_signed.Goals as goal

-- the text of a negative number
signed : (z : ℤ) → SFits w64 z → lt_z (to_z w64 (of_z w64 z)) (pos 0) ≡ true → Signed z
signed z h t = negative_text z h t (negative z h t)

-- and of one that is not
unsigned : (z : ℤ) → SFits w64 z → lt_z (to_z w64 (of_z w64 z)) (pos 0) ≡ false → Unsigned z
unsigned z h t = unsigned_text z h t (not_negative z h t)

pub bounds-out-at : goal.bounds-out-at
bounds-out-at c = omega (arith, ap length (signed c.args.z c.ranges.z c.if-z-lt0.true).text)

pub put-requires : goal.put-requires
put-requires c = simp length-set (omega (arith, ap length (signed c.args.z c.ranges.z c.if-z-lt0.true).text))

pub returns-then-z-lt0 : goal.returns-then-z-lt0
returns-then-z-lt0 c =
    let e = (signed c.args.z c.ranges.z c.if-z-lt0.true).text in
    rw e (put_sign _ _ _ _ _ _ (rw e at c.requires) c.put.ensures)

pub put-requires-2 : goal.put-requires-2
put-requires-2 c = omega (arith, ap length (unsigned c.args.z c.ranges.z c.if-z-lt0.false).text)

pub returns : goal.returns
returns c = rw (unsigned c.args.z c.ranges.z c.if-z-lt0.false).text c.put-2.ensures
