-- Laws of a list with a part replaced: its length, what stands at the place and at another, the same place replaced again, two places
-- side by side, a part that was lent and came back, single elements stored in a row. Assumes nothing.
use mathlib.Core.Path.{◌≡◌, refl, ap, ap₂, sym, ◌∙◌}
use mathlib.Core.Logic.{◌⊎◌, inl, inr}
use mathlib.Core.List.{List, [], ◌++◌, append_assoc, append-nil}
use Prim.Native.Nat.{ℕ, ◌+◌, ◌-◌, ◌*◌, ◌≤◌, ◌<◌}
use native.Mathlib.Nat.{add_assoc, add-zero, zero-add, mul-le-mul_left}
use native.Mathlib.Omega.{arith}
use lib.ListN.{length, take, drop, length-append, length-drop, take-append-drop, drop_of_length-le}
use lib.Seq.{take_at, drop_at, take-append-le, drop-append-le, take-append-add, drop-append-add, drop-drop, length-take-le, sets, sets-eq}
use Rattle.octets.specs.Part.{part, replaced}
use Rattle.octets.proofs.OrderLaw.{apart}
use Rattle.octets.proofs.PartLaw.{part_left, part_part}

pub replaced_length : (l : List ℕ) (at : ℕ) (new : List ℕ) → at + length new ≤ length l → length (replaced l at new) ≡ length l
unfolding replaced
replaced_length l at new h = simp (length-append, length-drop) (omega (arith, length-take-le at l (omega arith)))

-- ---- what is read after a store

-- at the same place
pub part_same : (l : List ℕ) (at : ℕ) (new : List ℕ) (n : ℕ) → length new ≡ n → at + n ≤ length l → part (replaced l at new) at n ≡ new
unfolding part replaced
part_same l at new n e h =
    ap (take n) (drop_at (take at l) (new ++ drop (at + length new) l) at (length-take-le at l (omega arith)))
    ∙ take_at new (drop (at + length new) l) n e

-- before it
pub part_before : (l : List ℕ) (at : ℕ) (new : List ℕ) (f n : ℕ) → at ≤ length l → f + n ≤ at → part (replaced l at new) f n ≡ part l f n
unfolding replaced
part_before l at new f n h k =
    let short : f + n ≤ length (take at l) = omega (arith, length-take-le at l h) in
    part_left (take at l) (new ++ drop (at + length new) l) f n short
    ∙ sym (part_left (take at l) (drop at l) f n short)
    ∙ ap (λ (x : List ℕ). part x f n) (take-append-drop at l)

-- after it
pub part_after : (l : List ℕ) (at : ℕ) (new : List ℕ) (f n : ℕ) → at + length new ≤ length l → at + length new ≤ f
    → part (replaced l at new) f n ≡ part l f n
unfolding part replaced
part_after l at new f n h k =
    let e : ℕ = at + length new in
    let front : List ℕ = take at l ++ new in
    let size : length front ≡ e = length-append (take at l) new ∙ ap (λ (x : ℕ). x + length new) (length-take-le at l (omega arith)) in
    let split : e + (f - e) ≡ f = omega arith in
    ap (take n)
    (sym (ap (drop f) (append_assoc (take at l) new (drop e l)))
    ∙ ap (λ (x : ℕ). drop x (front ++ drop e l)) (sym (ap (λ (x : ℕ). x + (f - e)) size ∙ split))
    ∙ drop-append-add front (drop e l) (f - e)
    ∙ drop-drop (f - e) e l
    ∙ ap (λ (x : ℕ). drop x l) split)

-- at another place: before it or after it
pub part_other : (l : List ℕ) (at : ℕ) (new : List ℕ) (f n : ℕ) → at + length new ≤ length l → (f + n ≤ at) ⊎ (at + length new ≤ f)
    → part (replaced l at new) f n ≡ part l f n
part_other l at new f n h (inl k) = part_before l at new f n (omega arith) k
part_other l at new f n h (inr k) = part_after l at new f n h k

-- items of w elements side by side: another than the one replaced
pub item_other : (l : List ℕ) (w i : ℕ) (new : List ℕ) → length new ≡ w → w * i + w ≤ length l → (j : ℕ) → (j ≡ i → ⊥)
    → part (replaced l (w * i) new) (w * j) w ≡ part l (w * j) w
item_other l w i new e h j n = part_other l (w * i) new (w * j) w (omega (arith, e)) (go (apart j i n))
  where
    go : (j < i) ⊎ (i < j) → (w * j + w ≤ w * i) ⊎ (w * i + length new ≤ w * j)
    go (inl k) = inl (omega (arith, mul-le-mul_left w k))
    go (inr k) = inr (omega (arith, e, mul-le-mul_left w k))

-- within it
pub part_within : (l : List ℕ) (at : ℕ) (new : List ℕ) (f n : ℕ) → at + length new ≤ length l → f + n ≤ length new
    → part (replaced l at new) (at + f) n ≡ part new f n
part_within l at new f n h k =
    sym (part_part (replaced l at new) at (length new) f n k)
    ∙ ap (λ (x : List ℕ). part x f n) (part_same l at new (length new) refl h)

-- ---- several stores

-- the place where a list is put together
pub replaced_front : (p x : List ℕ) (f : ℕ) (new : List ℕ) → replaced (p ++ x) (length p + f) new ≡ p ++ replaced x f new
unfolding replaced
replaced_front p x f new =
    ap₂ (λ (u v : List ℕ). u ++ (new ++ v))
    (take-append-add p x f)
    (ap (λ (n : ℕ). drop n (p ++ x)) (add_assoc (length p) f (length new)) ∙ drop-append-add p x (f + length new))
    ∙ append_assoc p (take f x) (new ++ drop (f + length new) x)

pub replaced_back : (p x : List ℕ) (f : ℕ) (new : List ℕ) → f + length new ≤ length p → replaced (p ++ x) f new ≡ replaced p f new ++ x
unfolding replaced
replaced_back p x f new h =
    ap₂ (λ (u v : List ℕ). u ++ (new ++ v)) (take-append-le f p x (omega arith)) (drop-append-le (f + length new) p x h)
    ∙ simp append_assoc

-- all of a list
pub replaced_all : (l new : List ℕ) → length new ≡ length l → replaced l 0 new ≡ new
unfolding replaced
replaced_all l new e = ap (λ (x : List ℕ). new ++ x) (drop_of_length-le l {i = 0 + length new} (omega arith)) ∙ append-nil new

-- nothing
pub replaced_none : (l : List ℕ) (at : ℕ) → replaced l at [] ≡ l
unfolding replaced
replaced_none l at = ap (λ (n : ℕ). take at l ++ drop n l) (add-zero at) ∙ take-append-drop at l

-- two places side by side
pub replaced_append : (l : List ℕ) (at : ℕ) (p q : List ℕ) → at + length p + length q ≤ length l
    → replaced (replaced l at p) (at + length p) q ≡ replaced l at (p ++ q)
unfolding replaced
replaced_append l at p q h =
    let r : List ℕ = drop (at + length p) l in
    let front : List ℕ = take at l ++ p in
    let size : length front ≡ at + length p = length-append (take at l) p ∙ omega (arith, length-take-le at l (omega arith)) in
    let ends : at + length p + (0 + length q) ≡ at + length (p ++ q) = omega (arith, length-append p q) in
    ap (λ (x : List ℕ). replaced x (at + length p) q) (sym (append_assoc (take at l) p r))
    ∙ ap (λ (n : ℕ). replaced (front ++ r) n q) (sym (add-zero (at + length p)) ∙ ap (λ (n : ℕ). n + 0) (sym size))
    ∙ replaced_front front r 0 q
    ∙ ap (λ (x : List ℕ). front ++ (q ++ x))
    (drop-drop (0 + length q) (at + length p) l ∙ ap (λ (n : ℕ). drop n l) ends)
    ∙ simp append_assoc

-- ---- a part that was lent and came back

-- ys in the place of the k elements from a on, as the loan leaves it
pub replaced_lent : (l : List ℕ) (a k : ℕ) (ys : List ℕ) → length ys ≡ k → take a l ++ (ys ++ drop k (drop a l)) ≡ replaced l a ys
unfolding replaced
replaced_lent l a k ys e = ap (λ (x : List ℕ). take a l ++ (ys ++ x)) (drop-drop k a l ∙ ap (λ (n : ℕ). drop (a + n) l) (sym e))

-- a store within a part is a store in the whole
pub replaced_within : (l : List ℕ) (a k f : ℕ) (new : List ℕ) → a + k ≤ length l → f + length new ≤ k
    → replaced l a (replaced (part l a k) f new) ≡ replaced l (a + f) new
unfolding part
replaced_within l a k f new h e =
    let p : List ℕ = take a l in
    let x : List ℕ = drop a l in
    let q : List ℕ = take k x in
    let size : length q ≡ k = length-take-le k x (omega (arith, length-drop a l)) in
    let long : f + length new ≤ length q = omega arith in
    sym (replaced_lent l a k (replaced q f new) (replaced_length q f new long ∙ size))
    ∙ sym
    (ap (λ (y : List ℕ). replaced y (a + f) new) (sym (take-append-drop a l))
    ∙ ap (λ (n : ℕ). replaced (p ++ x) (n + f) new) (sym (length-take-le a l (omega arith)))
    ∙ replaced_front p x f new
    ∙ ap (λ (y : List ℕ). p ++ replaced y f new) (sym (take-append-drop k x))
    ∙ ap (λ (y : List ℕ). p ++ y) (replaced_back q (drop k x) f new long))

-- a part that was lent and came back as new
pub lent_filled : (l new r : List ℕ) (a k : ℕ) → length new ≡ k → r ≡ new → take a l ++ (r ++ drop k (drop a l)) ≡ replaced l a new
lent_filled l new r a k s e = replaced_lent l a k r (ap length e ∙ s) ∙ ap (replaced l a) e

-- what comes next, where the front is replaced already
pub replaced_next : (l prev front new r : List ℕ) (at : ℕ) → prev ≡ replaced l 0 front → at ≡ length front → at + length new ≤ length l
    → r ≡ replaced prev at new → r ≡ replaced l 0 (front ++ new)
replaced_next l prev front new r at ep ea h er =
    er
    ∙ ap₂ (λ (x : List ℕ) (k : ℕ). replaced x k new) ep (ea ∙ sym (zero-add (length front)))
    ∙ replaced_append l 0 front new (omega arith)

-- the end
pub replaced_end : (l : List ℕ) (at : ℕ) (new : List ℕ) → at + length new ≡ length l → replaced l at new ≡ part l 0 at ++ new
unfolding replaced part
replaced_end l at new e =
    ap (λ (x : List ℕ). take at l ++ (new ++ x)) (drop_of_length-le l {i = at + length new} (omega arith))
    ∙ ap (λ (x : List ℕ). take at l ++ x) (append-nil new)

-- ---- stores of single elements

-- a run of them is one replacement
pub replaced_sets : (l : List ℕ) (at : ℕ) (new : List ℕ) → at + length new ≤ length l → sets l at new ≡ replaced l at new
unfolding replaced
replaced_sets l at new h = sets-eq new l at h ∙ append_assoc (take at l) new (drop (at + length new) l)
