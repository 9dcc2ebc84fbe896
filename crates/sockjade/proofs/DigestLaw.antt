-- The three ways that a call of the exported digest ends. Assumes nothing.
use Prim.Native.Nat.{ℕ, ◌≤◌, ◌<◌}
use mathlib.Core.Path.{◌≡◌, ap}
use mathlib.Core.List.{List}
use borrow.Author.Tests.{le-leb, lt-leb, eq-eqb, ne_eqb}
use lib.ListN.{length}
use Rattle.blake3.specs.Blake3.{digest, digest_size}
use Rattle.sockjade.specs.Digest.{longest_input, bad_length, digest_outcome, fits, digest_call}

pub refused_input : (input out : List ℕ) → longest_input < length input → digest_outcome bad_length out ≡ digest_call input out
unfolding digest_call fits
refused_input input out h = rw (digest_call, fits, lt-leb (length input) longest_input h)

pub refused_out : (input out : List ℕ) → length input ≤ longest_input → (length out ≡ digest_size → ⊥) → digest_outcome bad_length out ≡ digest_call input out
unfolding digest_call fits
refused_out input out h k = rw (digest_call, fits, le-leb (length input) longest_input h, ne_eqb (length out) digest_size k)

pub digested : (input out filled : List ℕ) → length input ≤ longest_input → length out ≡ digest_size → filled ≡ digest input
    → digest_outcome 0 filled ≡ digest_call input out
unfolding digest_call fits
digested input out filled h k e = rw (digest_call, fits, le-leb (length input) longest_input h, eq-eqb (length out) digest_size k) (ap (digest_outcome 0) e)

pub ruleset digest_ends = (refused_input, refused_out, digested)
