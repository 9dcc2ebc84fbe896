-- Laws of a part of a list: its length, a part of a part, of two lists put together, two parts side by side. Assumes nothing.
use mathlib.Core.Path.{◌≡◌, ap, sym, ◌∙◌}
use mathlib.Core.List.{List, [], ◌∷◌, ◌++◌}
use Prim.Native.Nat.{ℕ, zero, suc, ◌+◌, ◌-◌, ◌≤◌, ◌<◌, min}
use native.Mathlib.Nat.{sub-zero, suc-sub-suc}
use native.Mathlib.Omega.{arith}
use lib.ListN.{length, take, drop, get_or, length-take, length-drop}
use lib.Seq.{take-append-le, drop-append-le, drop-append-add, take_at, drop_at, take_all, take-take, drop-drop, take-add, length-take-le, get_or-take}
use lib.Seq.{get_or-drop, take-nil, drop-nil}
use Rattle.octets.specs.Part.{part}

pub part_length : (l : List ℕ) (at n : ℕ) → at + n ≤ length l → length (part l at n) ≡ n
unfolding part
part_length l at n h = length-take-le n (drop at l) (omega (arith, length-drop at l))

pub part_at : (l : List ℕ) (at n i : ℕ) → i < n → get_or (part l at n) i 0 ≡ get_or l (at + i) 0
unfolding part
part_at l at n i h = rw (get_or-take, get_or-drop)

pub part_all : (l : List ℕ) (n : ℕ) → length l ≤ n → part l 0 n ≡ l
unfolding part
part_all l n h = take_all n l h

-- what is left of the first k elements without the first f
pub drop_take : (f k : ℕ) (l : List ℕ) → drop f (take k l) ≡ take (k - f) (drop f l)
drop_take zero k l = ap (λ (n : ℕ). take n l) (sym (sub-zero k))
drop_take (suc f) zero l =
    let none : 0 - suc f ≡ 0 = omega arith in
    drop-nil (suc f) ∙ ap (λ (n : ℕ). take n (drop (suc f) l)) (sym none)
drop_take (suc f) (suc k) [] = drop-nil (suc f) ∙ sym (take-nil (suc k - suc f))
drop_take (suc f) (suc k) (x ∷ l) = drop_take f k l ∙ ap (λ (n : ℕ). take n (drop f l)) (sym (suc-sub-suc k f))

-- the length of a part that may run past the end
pub part_length_min : (l : List ℕ) (at n : ℕ) → length (part l at n) ≡ min n (length l - at)
unfolding part
part_length_min l at n = length-take n (drop at l) ∙ ap (min n) (length-drop at l)

-- a part that runs past the end is all that is left
pub part_rest : (l : List ℕ) (at n : ℕ) → length l ≤ at + n → part l at n ≡ drop at l
unfolding part
part_rest l at n h = take_all n (drop at l) (omega (arith, length-drop at l))

-- a part of a part
pub part_part : (l : List ℕ) (at k f n : ℕ) → f + n ≤ k → part (part l at k) f n ≡ part l (at + f) n
unfolding part
part_part l at k f n h =
    ap (take n) (drop_take f k (drop at l)) ∙ take-take n (k - f) (drop f (drop at l)) (omega arith) ∙ ap (take n) (drop-drop f at l)

-- two parts side by side
pub part_add : (l : List ℕ) (at j k : ℕ) → part l at (j + k) ≡ part l at j ++ part l (at + j) k
unfolding part
part_add l at j k = take-add j k (drop at l) ∙ ap (λ (r : List ℕ). take j (drop at l) ++ take k r) (drop-drop j at l)

-- a part of the first of two lists, and of the second
pub part_left : (a b : List ℕ) (at n : ℕ) → at + n ≤ length a → part (a ++ b) at n ≡ part a at n
unfolding part
part_left a b at n h =
    ap (take n) (drop-append-le at a b (omega arith)) ∙ take-append-le n (drop at a) b (omega (arith, length-drop at a))

pub part_right : (a b : List ℕ) (at n : ℕ) → part (a ++ b) (length a + at) n ≡ part b at n
unfolding part
part_right a b at n = ap (take n) (drop-append-add a b at)

-- the first list, and the second
pub part_first : (a b : List ℕ) (n : ℕ) → length a ≡ n → part (a ++ b) 0 n ≡ a
unfolding part
part_first a b n e = take_at a b n e

pub part_second : (a b : List ℕ) (at n : ℕ) → length a ≡ at → length b ≡ n → part (a ++ b) at n ≡ b
unfolding part
part_second a b at n e f = ap (take n) (drop_at a b at e) ∙ take_all n b (omega arith)

-- a part as a range of a slice lends it
pub part_lent : (l : List ℕ) (at k n : ℕ) → k ≡ n → take k (drop at l) ≡ part l at n
unfolding part
part_lent l at k n e = ap (λ (m : ℕ). take m (drop at l)) e
