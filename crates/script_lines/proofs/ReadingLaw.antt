-- Laws of a line read byte by byte: in parts, behind what is wrong, and what a byte leaves. Assumes nothing.
use mathlib.Core.Path.{◌≡◌, refl, sym}
use mathlib.Core.Bool.{Bool, true, false, ◌&&◌, ◌||◌}
use mathlib.Core.List.{List, [], ◌∷◌, ◌++◌}
use Prim.Native.Nat.{ℕ, ◌+◌, ◌-◌, ◌*◌}
use native.Mathlib.Omega.{arith}
use borrow.Author.Tests.{ne_eqb}
use lib.Dec.{eqb, ltb, leb}
use Rattle.std.specs.Prelude.{Option, Some, None}
use Rattle.decimal.specs.Decimal.{zero_digit}
use Rattle.script_lines.specs.Syntax.{space, most_value}
use Rattle.script_lines.specs.declared.Line.{Line}
use Rattle.script_lines.specs.Reading.{is_blank, after_space, after_digit, after_byte, read_on}

pub wrong_stays : (text : List ℕ) → read_on None text ≡ None
unfolding read_on
wrong_stays [] = refl
wrong_stays (b ∷ text) = refl

pub read_on_append : (n : Option Line) (s t : List ℕ) → read_on n (s ++ t) ≡ read_on (read_on n s) t
unfolding read_on
read_on_append n [] t = refl
read_on_append (Some l) (b ∷ s) t = read_on_append (after_byte l b) s t
read_on_append None (b ∷ s) t = sym (wrong_stays t)

-- ---- after a byte the line is not blank

space_not_blank : (l l' : Line) → after_space l ≡ Some l' → is_blank l' ≡ false
unfolding after_space is_blank
space_not_blank l l' = go (l.begun && ltb l.count 3)
  where
    next : Line
    next = record { count = l.count + 1; first = l.second; second = l.third; third = l.last; begun = false; last = 0 }

    go : (t : Bool) → elim t [ true ↦ Some next | false ↦ None ] ≡ Some l' → is_blank l' ≡ false
    go true e = let same : next ≡ l' = cc in rw (← same) (ne_eqb (l.count + 1) 0 (λ z. omega arith))
    go false e = let z : ◌≡◌ {A = ℕ} 0 1 = cc in absurd (omega arith)

digit_not_blank : (l l' : Line) (d : ℕ) → after_digit l d ≡ Some l' → is_blank l' ≡ false
unfolding after_digit is_blank
digit_not_blank l l' d = go ((l.begun && eqb l.last 0) || ltb most_value (l.last * 10 + d))
  where
    next : Line
    next = record { count = l.count; first = l.first; second = l.second; third = l.third; begun = true; last = l.last * 10 + d }

    go : (t : Bool) → elim t [ true ↦ None | false ↦ Some next ] ≡ Some l' → is_blank l' ≡ false
    go true e = let z : ◌≡◌ {A = ℕ} 0 1 = cc in absurd (omega arith)
    go false e = let same : next ≡ l' = cc in rw (← same)

pub going_not_blank : (l l' : Line) (b : ℕ) → after_byte l b ≡ Some l' → is_blank l' ≡ false
unfolding after_byte
going_not_blank l l' b = go (eqb b space) (leb zero_digit b && ltb (b - zero_digit) 10)
  where
    go : (s d : Bool)
        → elim s [ true ↦ after_space l | false ↦ elim d [ true ↦ after_digit l (b - zero_digit) | false ↦ None ] ] ≡ Some l' → is_blank l' ≡ false
    go true d e = space_not_blank l l' e
    go false true e = digit_not_blank l l' (b - zero_digit) e
    go false false e = let z : ◌≡◌ {A = ℕ} 0 1 = cc in absurd (omega arith)
