-- Lists whose elements are below a bound stay so: a part, two put together, one with a part replaced. Assumes nothing.
use mathlib.Core.List.{List, [], ◌∷◌, ◌++◌}
use Prim.Native.Nat.{ℕ, zero, suc, ◌+◌, ◌<◌}
use native.Mathlib.Omega.{arith}
use lib.ListN.{length, take, drop}
use Rattle.octets.specs.Part.{Below, part, replaced}

pub below_none : (n : ℕ) → 0 < n → Below n []
unfolding Below
below_none n h i = h

pub below_cons : (n x : ℕ) (l : List ℕ) → x < n → Below n l → Below n (x ∷ l)
unfolding Below
below_cons n x l h b zero = h
below_cons n x l h b (suc i) = b i

pub below_head : (n x : ℕ) (l : List ℕ) → Below n (x ∷ l) → x < n
unfolding Below
below_head n x l b = b 0

pub below_tail : (n x : ℕ) (l : List ℕ) → Below n (x ∷ l) → Below n l
unfolding Below
below_tail n x l b i = b (suc i)

pub below_append : (n : ℕ) (a b : List ℕ) → Below n a → Below n b → Below n (a ++ b)
below_append n [] b ha hb = hb
below_append n (x ∷ a) b ha hb = below_cons n x (a ++ b) (below_head n x a ha) (below_append n a b (below_tail n x a ha) hb)

-- the bound of any list is above 0, which is what stands past its end
positive : (n : ℕ) (l : List ℕ) → Below n l → 0 < n
unfolding Below
positive n l b = omega (arith, b 0)

take_below : (n k : ℕ) (l : List ℕ) → Below n l → Below n (take k l)
take_below n zero l b = below_none n (positive n l b)
take_below n (suc k) [] b = b
take_below n (suc k) (x ∷ l) b = below_cons n x (take k l) (below_head n x l b) (take_below n k l (below_tail n x l b))

drop_below : (n k : ℕ) (l : List ℕ) → Below n l → Below n (drop k l)
drop_below n zero l b = b
drop_below n (suc k) [] b = b
drop_below n (suc k) (x ∷ l) b = drop_below n k l (below_tail n x l b)

pub below_part : (n : ℕ) (l : List ℕ) (at k : ℕ) → Below n l → Below n (part l at k)
unfolding part
below_part n l at k b = take_below n k (drop at l) (drop_below n at l b)

pub below_replaced : (n : ℕ) (l : List ℕ) (at : ℕ) (new : List ℕ) → Below n l → Below n new → Below n (replaced l at new)
unfolding replaced
below_replaced n l at new b c =
    below_append n (take at l) (new ++ drop (at + length new) l) (take_below n at l b)
    (below_append n new (drop (at + length new) l) c (drop_below n (at + length new) l b))
