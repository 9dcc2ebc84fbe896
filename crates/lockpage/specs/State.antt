-- A block's state and the time left, after document 01, "Disk" and "Commands", kind 2. Assumes nothing: these are definitions.
use Rattle.std.specs.Prelude.{ℕ, true, false, List, ltb, ℤ, pos, ◌-ℤ◌}
use Rattle.octets.specs.Number.{bytes}
use Rattle.octets.specs.Signed.{twos}
use Rattle.lockpage.specs.declared.Entry.{Entry}
use Rattle.lockpage.specs.declared.State.{State}
use Rattle.lockpage.specs.declared.State.TheVariants.{Free, Frozen, Counting}
use Rattle.lockpage.specs.Entry.{is_frozen}

-- "f = 0: frozen"; "f = 1: the word is the expiry. Counting while now < expiry, free from expiry on."
unfoldable pub state : ℕ → Entry → State
state now e = elim (is_frozen e.stamp) [ true ↦ Frozen | false ↦ elim (ltb now e.word) [ true ↦ Counting | false ↦ Free ] ]

-- "the state in one byte (0 free, 1 frozen, 2 counting)"
unfoldable pub state_number : State → ℕ
state_number Free = 0
state_number Frozen = 1
state_number Counting = 2

-- "Time left is the lock if frozen, else expiry minus now, negative once past."
unfoldable pub time_left : ℕ → Entry → ℤ
time_left now e = elim (is_frozen e.stamp) [ true ↦ pos e.word | false ↦ pos e.word -ℤ pos now ]

-- "the time left as a signed 64-bit number"
abbrev pub time_left_size : ℕ
time_left_size = 8

unfoldable pub time_left_bytes : ℕ → Entry → List ℕ
time_left_bytes now e = bytes time_left_size (twos (time_left now e))
