-- The bytes of the newest blocks: how many they are, one part's place among them, and another block there. Assumes nothing.
use mathlib.Core.Path.{◌≡◌, refl, ap, ap₂, sym, ◌∙◌}
use mathlib.Core.List.{List, ◌++◌, append_assoc}
use Rattle.std.specs.Prelude.{Option, None}
use Prim.Native.Nat.{ℕ, zero, suc, ◌+◌, ◌-◌, ◌*◌, ◌≤◌, ◌<◌}
use native.Mathlib.Nat.{add-zero}
use native.Mathlib.Omega.{arith}
use lib.ListN.{length, length-append}
use Rattle.octets.specs.Part.{repeated}
use Rattle.octets.specs.Number.{bytes}
use Rattle.octets.proofs.NumberLaw.{bytes_length}
use Rattle.versions_machine.specs.Versions.{block_number, replaced_by}
use Rattle.versions_machine.specs.Log.{unused}
use Rattle.versions_machine.specs.Call.{last_part}
use Rattle.versions_machine.proofs.SoundLaw.{newest_own, newest_other}
use Rattle.versions_state.specs.Layout.{field_size, parts}
use Rattle.versions_state.specs.State.{newest_bytes}
use Rattle.versions_bytes.proofs.PlaceLaw.{Place, between}

-- one part's bytes
abbrev pub block_bytes : Option ℕ → List ℕ
block_bytes block = bytes field_size (block_number block)

pub newests_length : (newest : ℕ → Option ℕ) (from n : ℕ) → length (newest_bytes newest from n) ≡ field_size * n
unfolding newest_bytes
newests_length newest from zero = refl
newests_length newest from (suc n) =
    length-append (block_bytes (newest from)) (newest_bytes newest (from + 1) n)
    ∙ omega (arith, bytes_length field_size (block_number (newest from)), newests_length newest (from + 1) n)

newests_split : (newest : ℕ → Option ℕ) (from a b n : ℕ) → n ≡ a + suc b
    → newest_bytes newest from n ≡ newest_bytes newest from a ++ (block_bytes (newest (from + a)) ++ newest_bytes newest (from + a + 1) b)
unfolding newest_bytes
newests_split newest from zero b n e =
    let all : n ≡ suc b = omega arith in
    ap (newest_bytes newest from) all
    ∙ ap (λ (k : ℕ). block_bytes (newest k) ++ newest_bytes newest (k + 1) b) (sym (add-zero from))
newests_split newest from (suc a) b n e =
    let all : n ≡ suc (a + suc b) = omega arith in
    let at : from + 1 + a ≡ from + suc a = omega arith in
    ap (newest_bytes newest from) all
    ∙ ap (λ (l : List ℕ). block_bytes (newest from) ++ l)
    (newests_split newest (from + 1) a b (a + suc b) refl
    ∙ ap (λ (k : ℕ). newest_bytes newest (from + 1) a ++ (block_bytes (newest k) ++ newest_bytes newest (k + 1) b)) at)
    ∙ sym (append_assoc (block_bytes (newest from)) (newest_bytes newest (from + 1) a) _)

pub newests_same : (f g : ℕ → Option ℕ) (from n : ℕ) → ((k : ℕ) → from ≤ k → k < from + n → f k ≡ g k) → newest_bytes f from n ≡ newest_bytes g from n
unfolding newest_bytes
newests_same f g from zero h = refl
newests_same f g from (suc n) h =
    ap₂ (λ (x : Option ℕ) (l : List ℕ). block_bytes x ++ l) (h from (omega arith) (omega arith))
    (newests_same f g (from + 1) n (λ k a b. h k (omega arith) (omega arith)))

-- none of any part
pub newests_none : (from n : ℕ) → newest_bytes (λ p. None) from n ≡ repeated (field_size * n) unused
unfolding newest_bytes bytes repeated
newests_none from zero = refl
newests_none from (suc n) =
    let size : field_size * suc n ≡ suc (suc (suc (suc (field_size * n)))) = omega arith in
    ap (λ (l : List ℕ). block_bytes None ++ l) (newests_none (from + 1) n) ∙ ap (λ (k : ℕ). repeated k unused) (sym size)

module _ (newest : ℕ → Option ℕ) (p : ℕ) (h : p ≤ last_part) where
  -- all of them, but for a part's
  abbrev pub others : List ℕ → List ℕ
  others m = newest_bytes newest 0 p ++ (m ++ newest_bytes newest (0 + p + 1) (last_part - p))

  pub newest_place : Place others (field_size * p)
  newest_place = between (newest_bytes newest 0 p) (newest_bytes newest (0 + p + 1) (last_part - p)) (field_size * p) (newests_length newest 0 p)

  pub newests_are : newest_bytes newest 0 parts ≡ others (block_bytes (newest p))
  newests_are =
      let at : 0 + p ≡ p = omega arith in
      newests_split newest 0 p (last_part - p) parts (omega arith) ∙ ap (λ (k : ℕ). others (block_bytes (newest k))) at

  pub newests_replaced : (block : ℕ) → newest_bytes (replaced_by newest p block) 0 parts ≡ others (bytes field_size block)
  newests_replaced block =
      let new = replaced_by newest p block in
      let at : 0 + p ≡ p = omega arith in
      newests_split new 0 p (last_part - p) parts (omega arith)
      ∙ ap₂ (λ (u v : List ℕ). u ++ v)
      (newests_same new newest 0 p (λ k a b. newest_other newest p block k (λ e. omega arith)))
      (ap₂ (λ (x : Option ℕ) (l : List ℕ). block_bytes x ++ l)
      (ap new at ∙ newest_own newest p block)
      (newests_same new newest (0 + p + 1) (last_part - p) (λ k a b. newest_other newest p block k (λ e. omega arith))))
