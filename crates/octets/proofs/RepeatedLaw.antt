-- Laws of an element repeated: its length, what stands where, what is left, its bound, two such lists in a row, parts
-- of another list that are one. Assumes nothing.
use mathlib.Core.Path.{◌≡◌, refl, ap, ap₂, sym, ◌∙◌}
use mathlib.Core.List.{List, ◌∷◌, ◌++◌}
use Prim.Native.Nat.{ℕ, zero, suc, ◌+◌, ◌-◌, ◌≤◌, ◌<◌}
use native.Mathlib.Nat.{sub-zero, zero-sub, suc-sub-suc}
use native.Mathlib.Omega.{arith}
use lib.ListN.{length, take, drop, get_or, replicate, length-replicate, get_or-replicate, replicate-append-replicate}
use Rattle.octets.specs.Part.{Below, part, repeated}
use Rattle.octets.proofs.PartLaw.{part_part, part_add}
use Rattle.octets.proofs.BelowLaw.{below_none, below_cons}

pub repeated_below : (k n b : ℕ) → b < k → Below k (repeated n b)
unfolding repeated
repeated_below k zero b h = below_none k (omega arith)
repeated_below k (suc n) b h = below_cons k b (repeated n b) h (repeated_below k n b h)

pub repeated_length : (n b : ℕ) → length (repeated n b) ≡ n
unfolding repeated
repeated_length n b = length-replicate n b

pub repeated_drop : (n b k : ℕ) → drop k (repeated n b) ≡ repeated (n - k) b
unfolding repeated
repeated_drop n b zero = ap (λ (i : ℕ). replicate i b) (sym (sub-zero n))
repeated_drop zero b (suc k) = ap (λ (i : ℕ). replicate i b) (sym (zero-sub (suc k)))
repeated_drop (suc n) b (suc k) = repeated_drop n b k ∙ ap (λ (i : ℕ). replicate i b) (sym (suc-sub-suc n k))

pub repeated_at : (n b i : ℕ) → i < n → get_or (repeated n b) i 0 ≡ b
unfolding repeated
repeated_at n b i h = get_or-replicate n i b 0 h

-- a part of it
repeated_take : (n b k : ℕ) → k ≤ n → take k (repeated n b) ≡ repeated k b
unfolding repeated
repeated_take n b zero h = refl
repeated_take zero b (suc k) h = absurd (omega arith)
repeated_take (suc n) b (suc k) h = ap (λ (l : List ℕ). b ∷ l) (repeated_take n b k (omega arith))

pub repeated_part : (n b at k : ℕ) → at + k ≤ n → part (repeated n b) at k ≡ repeated k b
unfolding part
repeated_part n b at k h = ap (take k) (repeated_drop n b at) ∙ repeated_take (n - at) b k (omega arith)

-- in two
pub repeated_add : (j k b : ℕ) → repeated (j + k) b ≡ repeated j b ++ repeated k b
unfolding repeated
repeated_add j k b = sym (replicate-append-replicate j k b)

-- of a part that is a byte repeated, a part is too
pub repeated_within : (l : List ℕ) (a n f k b : ℕ) → f + k ≤ n → part l a n ≡ repeated n b → part l (a + f) k ≡ repeated k b
repeated_within l a n f k b h e = sym (part_part l a n f k h) ∙ ap (λ (x : List ℕ). part x f k) e ∙ repeated_part n b f k h

-- and two such parts are one, where the second starts in the first or right behind it
pub repeated_joined : (l : List ℕ) (a n f k b : ℕ) → f ≤ n → part l a n ≡ repeated n b → part l (a + f) k ≡ repeated k b
    → part l a (f + k) ≡ repeated (f + k) b
repeated_joined l a n f k b h e g =
    let here : a + 0 ≡ a = omega arith in
    let front : part l a f ≡ repeated f b =
    ap (λ (x : ℕ). part l x f) (sym here) ∙ repeated_within l a n 0 f b (omega arith) e in
    part_add l a f k ∙ ap₂ (λ (x y : List ℕ). x ++ y) front g ∙ sym (repeated_add f k b)
