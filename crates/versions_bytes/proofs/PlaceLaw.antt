-- A place in a list that is put together: what is read there, and what a store there makes of the list. Assumes nothing.
use mathlib.Core.Path.{◌≡◌, refl, ap, ap₂, sym, ◌∙◌}
use mathlib.Core.List.{List, [], ◌++◌, append_assoc, append-nil}
use Prim.Native.Nat.{ℕ, ◌+◌, ◌^◌, ◌<◌}
use native.Mathlib.Omega.{arith}
use lib.ListN.{length, take, drop, length-append}
use lib.Seq.{take_at, drop_at}
use Rattle.octets.specs.Part.{part, replaced}
use Rattle.octets.specs.Number.{number, bytes, number_at, with_number}
use Rattle.octets.proofs.ReplacedLaw.{replaced_lent}
use Rattle.octets.proofs.NumberLaw.{bytes_length, number_bytes}

-- whatever m is, it stands from at on in whole m
pub record Place (whole : List ℕ → List ℕ) (at : ℕ) : Type 0 where
  pub front : List ℕ
  pub back : List ℕ
  pub size : length front ≡ at
  pub is : (m : List ℕ) → whole m ≡ front ++ (m ++ back)

-- ---- where it stands

pub here : (back : List ℕ) → Place (λ m. m ++ back) 0
here back = record { front = []; back = back; size = refl; is = λ m. refl }

pub alone : Place (λ m. m) 0
alone = record { front = []; back = []; size = refl; is = λ m. sym (append-nil m) }

pub between : (front back : List ℕ) (at : ℕ) → length front ≡ at → Place (λ m. front ++ (m ++ back)) at
between front back at e = record { front = front; back = back; size = e; is = λ m. refl }

pub behind : {whole : List ℕ → List ℕ} {at : ℕ} (x : List ℕ) (n : ℕ) → n ≡ length x + at → Place whole at → Place (λ m. x ++ whole m) n
behind x n e p =
    record {
      front = x ++ p.front;
      back = p.back;
      size = length-append x p.front ∙ omega (arith, p.size);
      is = λ m. ap (λ (l : List ℕ). x ++ l) (p.is m) ∙ sym (append_assoc x p.front (m ++ p.back));
    }

pub before : {whole : List ℕ → List ℕ} {at : ℕ} (y : List ℕ) → Place whole at → Place (λ m. whole m ++ y) at
before y p =
    record {
      front = p.front;
      back = p.back ++ y;
      size = p.size;
      is = λ m. ap (λ (l : List ℕ). l ++ y) (p.is m) ∙ simp append_assoc;
    }

-- ---- read and stored

pub place_read : {whole : List ℕ → List ℕ} {at : ℕ} (p : Place whole at) (m : List ℕ) (n : ℕ) → length m ≡ n → part (whole m) at n ≡ m
unfolding part
place_read {whole} {at} p m n e =
    ap (λ (l : List ℕ). take n (drop at l)) (p.is m)
    ∙ ap (take n) (drop_at p.front (m ++ p.back) at p.size)
    ∙ take_at m p.back n e

pub place_stored : {whole : List ℕ → List ℕ} {at : ℕ} (p : Place whole at) (old new : List ℕ) → length old ≡ length new
    → replaced (whole old) at new ≡ whole new
place_stored {whole} {at} p old new e =
    let l = p.front ++ (old ++ p.back) in
    let rest = drop_at p.front (old ++ p.back) at p.size in
    ap (λ (x : List ℕ). replaced x at new) (p.is old)
    ∙ sym (replaced_lent l at (length new) new refl)
    ∙ ap₂ (λ (u v : List ℕ). u ++ (new ++ v)) (take_at p.front (old ++ p.back) at p.size)
    (ap (drop (length new)) rest ∙ drop_at old p.back (length new) e)
    ∙ sym (p.is new)

-- a number
pub place_number : {whole : List ℕ → List ℕ} {at : ℕ} (p : Place whole at) (k n : ℕ) → n < 256 ^ k → number_at (whole (bytes k n)) at k ≡ n
unfolding number_at
place_number p k n h = ap number (place_read p (bytes k n) k (bytes_length k n)) ∙ number_bytes k n h

pub place_set : {whole : List ℕ → List ℕ} {at : ℕ} (p : Place whole at) (k old n : ℕ) → with_number (whole (bytes k old)) at k n ≡ whole (bytes k n)
unfolding with_number
place_set p k old n = place_stored p (bytes k old) (bytes k n) (bytes_length k old ∙ sym (bytes_length k n))
