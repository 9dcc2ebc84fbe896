-- Laws of a field: which is a value, which is none whatever follows, and fields that are all values. Assumes nothing.
use mathlib.Core.Path.{◌≡◌, refl, ap, ap₂, sym, subst, ◌∙◌}
use mathlib.Core.Bool.{Bool, true, false, ◌&&◌, So-prop}
use mathlib.Core.Logic.Or
use mathlib.Mathlib.Data.Bool.Basic.{and_elim_left, and_elim_right}
use mathlib.Core.List.{List, [], ◌∷◌, ◌++◌, all, all-eq-true, mem-cons_self, mem-cons_of_mem, eq-or-mem_of_mem-cons, not-mem-nil}
use Prim.Native.Nat.{ℕ, suc, ◌+◌, ◌-◌, ◌*◌, ◌≤◌, ◌<◌}
use native.Mathlib.Omega.{arith}
use borrow.Author.Tests.{leb-true, le-leb}
use lib.Dec.{leb}
use lib.ListN.{length, get_or, length-append}
use lib.Seq.{get_or-append_seam}
use Rattle.octets.specs.Part.{equal}
use Rattle.octets.proofs.EqualLaw.{equal_true, equal_yes}
use Rattle.decimal.specs.Decimal.{zero_digit, decimal, spelled_after, spelled}
use Rattle.decimal.proofs.DecimalLaw.{decimal_one, decimal_digits, decimal_some, decimal_first, spelled_append, spelled_grows, spelled_decimal}
use Rattle.script_lines.specs.Syntax.{space, most_value, is_value}
use Rattle.script_lines.proofs.CutLaw.{Without}

-- ---- a value

-- a text of digits has no space
digits_without : (x : List ℕ) → ((i : ℕ) → i < length x → zero_digit ≤ get_or x i 0) → Without space x
digits_without [] h = tt
digits_without (b ∷ x) h = (λ e. omega (arith, h 0 (omega arith)), digits_without x (λ i k. h (suc i) (omega arith)))

pub decimal_without : (n : ℕ) → Without space (decimal n)
decimal_without n = digits_without (decimal n) (λ i h. (decimal_digits n i h).0)

pub value_yes : (n : ℕ) → n ≤ most_value → is_value (decimal n) ≡ true
unfolding is_value
value_yes n h =
    ap₂ ◌&&◌ (equal_yes (decimal n) (decimal (spelled (decimal n))) (ap decimal (sym (spelled_decimal n))))
    (le-leb (spelled (decimal n)) most_value (omega (arith, spelled_decimal n)))

pub record IsValue (field : List ℕ) : Type 0 where
  pub same : field ≡ decimal (spelled field)
  pub within : spelled field ≤ most_value

pub value_true : (field : List ℕ) → is_value field ≡ true → IsValue field
unfolding is_value
value_true field e =
    record {
      same = equal_true field (decimal (spelled field)) (and_elim_left (equal field (decimal (spelled field))) (leb (spelled field) most_value) e);
      within = leb-true (spelled field) most_value (and_elim_right (equal field (decimal (spelled field))) (leb (spelled field) most_value) e);
    }

pub not_true_false : (t : Bool) → (t ≡ true → ⊥) → t ≡ false
not_true_false true n = absurd (n refl)
not_true_false false n = refl

pub value_no : (field : List ℕ) → (IsValue field → ⊥) → is_value field ≡ false
value_no field n = not_true_false (is_value field) (λ e. n (value_true field e))

pub empty_no : is_value [] ≡ false
empty_no = value_no [] (λ v. omega (arith, ap length v.same, decimal_some (spelled [])))

-- ---- a field that is no value, whatever follows

-- a byte that is no digit
pub other_no : (x : List ℕ) (b : ℕ) (u : List ℕ) → (zero_digit ≤ b → b < zero_digit + 10 → ⊥) → is_value (x ++ (b ∷ u)) ≡ false
other_no x b u n =
    value_no (x ++ (b ∷ u))
    (λ v.
    let here : get_or (decimal (spelled (x ++ (b ∷ u)))) (length x) 0 ≡ b =
    ap (λ (f : List ℕ). get_or f (length x) 0) (sym v.same) ∙ get_or-append_seam x b u 0 in
    let is = decimal_digits (spelled (x ++ (b ∷ u))) (length x) (omega (arith, ap length v.same, length-append x (b ∷ u))) in
    n (omega arith) (omega arith))

-- a number above the limit
pub above_no : (x : List ℕ) (b : ℕ) (u : List ℕ) → most_value < 10 * spelled x + (b - zero_digit) → is_value (x ++ (b ∷ u)) ≡ false
unfolding spelled_after
above_no x b u h =
    value_no (x ++ (b ∷ u))
    (λ v. omega (arith, v.within, spelled_append 0 x (b ∷ u), spelled_grows (10 * spelled x + (b - zero_digit)) u))

-- a digit behind a leading zero
pub leading_no : (b : ℕ) (u : List ℕ) → is_value (decimal 0 ++ (b ∷ u)) ≡ false
leading_no b u =
    value_no (decimal 0 ++ (b ∷ u))
    (λ v.
    let none = decimal_first (spelled (decimal 0 ++ (b ∷ u))) (b ∷ u)
    (sym v.same ∙ ap (λ (f : List ℕ). f ++ (b ∷ u)) (decimal_one 0 (omega arith))) in
    omega (arith, ap length none))

-- ---- fields that are all values

pub all_none : all [] is_value ≡ true
all_none = (all-eq-true {l = []} {p = is_value}).1 (λ x m. absurd (not-mem-nil m))

pub all_head : (f : List ℕ) (fs : List (List ℕ)) → all (f ∷ fs) is_value ≡ true → is_value f ≡ true
all_head f fs e = (all-eq-true {l = f ∷ fs} {p = is_value}).0 e f mem-cons_self

pub all_tail : (f : List ℕ) (fs : List (List ℕ)) → all (f ∷ fs) is_value ≡ true → all fs is_value ≡ true
all_tail f fs e =
    (all-eq-true {l = fs} {p = is_value}).1 (λ x m. (all-eq-true {l = f ∷ fs} {p = is_value}).0 e x (mem-cons_of_mem f m))

pub all_more : (f : List ℕ) (fs : List (List ℕ)) → is_value f ≡ true → all fs is_value ≡ true → all (f ∷ fs) is_value ≡ true
all_more f fs v e =
    (all-eq-true {l = f ∷ fs} {p = is_value}).1
    (λ x m.
    Or.elim (So-prop (is_value x)) (eq-or-mem_of_mem-cons m) (λ q. subst (λ (y : List ℕ). is_value y ≡ true) (sym q) v)
    (λ n. (all-eq-true {l = fs} {p = is_value}).0 e x n))
