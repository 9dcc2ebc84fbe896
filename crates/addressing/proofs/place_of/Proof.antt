-- `addressing::place_of` meets its contract: a mask of the bits of a place. Assumes nothing.
use native.Mathlib.Nat.{lt_of_le_of_lt}
use native.Mathlib.Omega.{arith}
use lib.Bits.{and_le_l}
use Rattle.lockpage.proofs.GeometryLaw.{present_proper as σ, index_bits, present_entries}
use Rattle.addressing.proofs.MapLaw.{place_of_mask}
use Rattle.addressing.proofs.place_of.Statement.{statement}
use Rattle.addressing.proofs.place_of.Tie as tie

-- a mask makes no number larger
fits : tie.Need-overflow_cast-result
fits c = record { fits = lt_of_le_of_lt (and_le_l c.args.block _) (omega (arith, c.ranges)) }

returns : tie.Need-returns
returns c = place_of_mask σ index_bits _ present_entries

pub place_of_spec : {M : Type 1} → statement M
place_of_spec = tie.close (tie.spec fits returns)
