-- What the logic tells of an array of words: each is below 2 ^ 32. Assumes nothing.
use Prim.Native.Nat.{ℕ, ◌^◌}
use mathlib.Core.List.{List, [], ◌∷◌}
use lib.Dec.{lit<}
use mir.Syntax.{w32}
use mir.Val.{Val}
use denote.Array.{each}
use denote.Plain.{UInt}
use denote.Shadow.{shadow}
use Rattle.octets.specs.Part.{Below}
use Rattle.octets.proofs.BelowLaw.{below_none, below_cons}

pub words_small : (ws : List ℕ) (us : List Val) → shadow (each ℕ (UInt w32).own_val ws us) → Below (2 ^ 32) ws
words_small [] us s = below_none (2 ^ 32) (lit< tt)
words_small (x ∷ ws) [] s = absurd s
words_small (x ∷ ws) (u ∷ us) s = below_cons (2 ^ 32) x ws s.0.1 (words_small ws us s.1)
