-- `lockpage::states::time_left` meets its contract: the lock, or a difference that may be negative. Assumes nothing.
use borrow.Author.Rules.{rules}
use mathlib.Core.Path.{sym, ◌∙◌, ◌≡◌}
use Prim.Native.Nat.{ℕ, ◌<◌, ◌^◌}
use native.Mathlib.Omega.{arith}
use lib.IntN.{pos}
use mir.Syntax.{w64}
use mir.Val.{to_z}
use mir.ValLaws.{to_z_pos, to_z-of_z}
use Rattle.lockpage.specs.Size.{word_size}
use Rattle.lockpage.proofs.StateLaw.{left_frozen, left_unfrozen, minus_fits}
use Rattle.lockpage.proofs.states.time_left.Statement.{statement}
use Rattle.lockpage.proofs.states.time_left.Tie as tie

-- a number of 4 bytes, cast
cast : (n : ℕ) → n < 256 ^ word_size → to_z w64 n ≡ pos n
cast n h = to_z_pos w64 n (omega arith)

lock : tie.Need-returns-then-is_frozen
lock c =
    let asked = c.before in
    cast _ c.struct_known-1.given.0.fits ∙ sym (left_frozen _ _ (sym asked.before.is_frozen.ensures ∙ asked.if-is_frozen.true))

sub-result : tie.Need-overflow_sub-result
sub-result c =
    let start = c.before.before.before in
    let word = c.struct_known-2-1.given.0.fits in
    let time : start.args.time < 256 ^ word_size = omega (arith, start.ranges.time) in
    rw (cast start.args.e.word word, cast start.args.time time) (minus_fits _ _ word time)

less : tie.Need-returns
less c =
    let asked = c.before in
    let start = asked.before.before in
    let word = c.struct_known-2-1.given.0.fits in
    let time : start.args.time < 256 ^ word_size = omega (arith, start.ranges.time) in
    rw (cast start.args.e.word word, cast start.args.time time)
    (to_z-of_z w64 _ (minus_fits _ _ word time) ∙ sym (left_unfrozen _ _ (sym asked.before.is_frozen.ensures ∙ asked.if-is_frozen.false)))

pub time_left_spec : {M : Type 1} → statement M
time_left_spec =
    tie.close
    (tie.spec (λ c κs. search rules) (λ c. search rules) lock (λ c. search rules) (λ c. search rules) sub-result less)
