-- Laws of the comparison of two lists, and of bits that differ. Assumes nothing.
use mathlib.Core.Path.{◌≡◌, refl, ap, ap₂, sym, subst, ◌∙◌}
use mathlib.Core.Bool.{Bool, true, false, ◌&&◌, false≢true}
use mathlib.Mathlib.Data.Bool.Basic.{and_elim_left, and_elim_right}
use mathlib.Core.List.{List, [], ◌∷◌}
use Prim.Native.Nat.{ℕ, ◌+◌, ◌≤◌, ◌<◌}
use native.Mathlib.Omega.{arith}
use borrow.Author.Count.{below_more}
use borrow.Author.Tests.{eqb-true, eqb-false, eq-eqb}
use lib.Dec.{eqb}
use lib.Bits.{bit_or, bit_xor, or_add_and, xor_add_and, and_le_l, and_le_r, xor_self, or_zero_l}
use lib.ListN.{length, get_or}
use lib.Seq.{ext_get_or}
use Rattle.octets.specs.Part.{part, repeated, equal}
use Rattle.octets.proofs.PartLaw.{part_length}
use Rattle.octets.proofs.RepeatedLaw.{repeated_length}

pub equal_refl : (l : List ℕ) → equal l l ≡ true
unfolding equal
equal_refl [] = refl
equal_refl (x ∷ l) = ap₂ ◌&&◌ (eq-eqb x x refl) (equal_refl l)

pub equal_true : (a b : List ℕ) → equal a b ≡ true → a ≡ b
unfolding equal
equal_true [] [] e = refl
equal_true [] (y ∷ b) e = absurd (false≢true e)
equal_true (x ∷ a) [] e = absurd (false≢true e)
equal_true (x ∷ a) (y ∷ b) e =
    ap₂ (λ (h : ℕ) (t : List ℕ). h ∷ t) (eqb-true x y (and_elim_left (eqb x y) (equal a b) e))
    (equal_true a b (and_elim_right (eqb x y) (equal a b) e))

pub equal_yes : (a b : List ℕ) → a ≡ b → equal a b ≡ true
equal_yes a b e = subst (λ (x : List ℕ). equal a x ≡ true) e (equal_refl a)

pub equal_no : (a b : List ℕ) → (a ≡ b → ⊥) → equal a b ≡ false
equal_no a b n = go (equal a b) refl
  where
    go : (t : Bool) → equal a b ≡ t → t ≡ false
    go true e = absurd (n (equal_true a b e))
    go false e = refl

-- two comparisons of which either is a yes where the other is
pub equal_iff : (a b c d : List ℕ) → (a ≡ b → c ≡ d) → (c ≡ d → a ≡ b) → equal a b ≡ equal c d
equal_iff a b c d f g = go (equal a b) refl
  where
    go : (t : Bool) → equal a b ≡ t → t ≡ equal c d
    go true e = sym (equal_yes c d (f (equal_true a b e)))
    go false e = sym (equal_no c d (λ q. false≢true (sym e ∙ equal_yes a b (g q))))

-- two numbers differ in no bit just where they are equal
xor_none : (a b : ℕ) → bit_xor a b ≡ 0 → a ≡ b
xor_none a b e = omega (arith, xor_add_and a b, and_le_l a b, and_le_r a b)

or_none : (a b : ℕ) → bit_or a b ≡ 0 → (a ≡ 0) × (b ≡ 0)
or_none a b e = (omega (arith, or_add_and a b, and_le_l a b, and_le_r a b), omega (arith, or_add_and a b, and_le_l a b, and_le_r a b))

-- d is 0 just where the first i bytes of a and b are the same
pub record Compared (a b : List ℕ) (i d : ℕ) : Type 0 where
  pub same : d ≡ 0 → (k : ℕ) → k < i → get_or a k 0 ≡ get_or b k 0
  pub none : ((k : ℕ) → k < i → get_or a k 0 ≡ get_or b k 0) → d ≡ 0

pub compared_step : (a b : List ℕ) (i d : ℕ) → Compared a b i d → Compared a b (i + 1) (bit_or d (bit_xor (get_or a i 0) (get_or b i 0)))
compared_step a b i d c =
    record {
      same =
          λ e.
          let z = or_none d (bit_xor (get_or a i 0) (get_or b i 0)) e in
          below_more (λ (k : ℕ). get_or a k 0 ≡ get_or b k 0) i (c.same z.0) (xor_none (get_or a i 0) (get_or b i 0) z.1);
      none =
          λ all.
          let d0 : d ≡ 0 = c.none (λ k h. all k (omega arith)) in
          let here : get_or a i 0 ≡ get_or b i 0 = all i (omega arith) in
          ap₂ bit_or d0 (ap (λ (x : ℕ). bit_xor x (get_or b i 0)) here ∙ xor_self (get_or b i 0)) ∙ or_zero_l 0;
    }

-- the same, of bytes that are known to stand there
pub compared_next : (a b : List ℕ) (i d x y : ℕ) → Compared a b i d → x ≡ get_or a i 0 → y ≡ get_or b i 0
    → Compared a b (i + 1) (bit_or d (bit_xor x y))
compared_next a b i d x y c ex ey =
    subst (λ (z : ℕ). Compared a b (i + 1) (bit_or d z)) (sym (ap₂ bit_xor ex ey)) (compared_step a b i d c)

-- at the end the test of d is the comparison
pub compared_end : (a b : List ℕ) (i d : ℕ) → Compared a b i d → length a ≡ length b → length a ≤ i → eqb d 0 ≡ equal a b
compared_end a b i d c l h = go (eqb d 0) refl
  where
    go : (t : Bool) → eqb d 0 ≡ t → t ≡ equal a b
    go true e = sym (equal_yes a b (ext_get_or 0 a b l (λ k u. c.same (eqb-true d 0 e) k (omega arith))))
    go false e =
        sym (equal_no a b (λ q. eqb-false d 0 e (c.none (λ k u. ap (λ (x : List ℕ). get_or x k 0) q))))

pub filled_end : (l : List ℕ) (at n b i d : ℕ) → at + n ≤ length l → n ≤ i → Compared (part l at n) (repeated n b) i d
    → eqb d 0 ≡ equal (part l at n) (repeated n b)
filled_end l at n b i d inside h c =
    let size = part_length l at n inside in
    compared_end (part l at n) (repeated n b) i d c (size ∙ sym (repeated_length n b)) (omega (arith, size))
