-- The bytes of words: their number, that they are bytes, the words again, and a loop that stores them. Assumes nothing.
use Prim.Native.Nat.{ℕ, ◌+◌, ◌*◌, ◌^◌, ◌≤◌, ◌<◌}
use mathlib.Core.Path.{◌≡◌, refl, ap, ap₂, sym, ◌∙◌}
use mathlib.Core.List.{List, [], ◌∷◌, ◌++◌, append-nil, append_assoc}
use native.Mathlib.Numerals.{add-one}
use native.Mathlib.Omega.{arith}
use lib.Dec.{lit<}
use lib.ListN.{length, take, get_or, length-append}
use lib.Seq.{take_at, drop_at, take-suc, take_all, length-take-le}
use Rattle.octets.specs.Part.{AreBytes, Below, replaced}
use Rattle.octets.specs.Number.{number, bytes, with_number}
use Rattle.octets.proofs.BelowLaw.{below_none, below_append, below_head, below_tail}
use Rattle.octets.proofs.NumberLaw.{bytes_length, bytes_are, number_bytes}
use Rattle.octets.proofs.ReplacedLaw.{replaced_append, replaced_none, replaced_all}
use Rattle.blake3.specs.Blake3 as B

pub bytes_of_length : (ws : List ℕ) → length (B.bytes_of ws) ≡ 4 * length ws
unfolding B.bytes_of
bytes_of_length [] = refl
bytes_of_length (x ∷ ws) = omega (arith, length-append (bytes 4 x) (B.bytes_of ws), bytes_length 4 x, bytes_of_length ws)

pub bytes_of_are : (ws : List ℕ) → AreBytes (B.bytes_of ws)
unfolding B.bytes_of
bytes_of_are [] = below_none 256 (lit< tt)
bytes_of_are (x ∷ ws) = below_append 256 (bytes 4 x) (B.bytes_of ws) (bytes_are 4 x) (bytes_of_are ws)

pub bytes_of_append : (a b : List ℕ) → B.bytes_of (a ++ b) ≡ B.bytes_of a ++ B.bytes_of b
unfolding B.bytes_of
bytes_of_append [] b = refl
bytes_of_append (x ∷ a) b =
    ap (λ (r : List ℕ). bytes 4 x ++ r) (bytes_of_append a b) ∙ sym (append_assoc (bytes 4 x) (B.bytes_of a) (B.bytes_of b))

bytes_of_one : (x : ℕ) → B.bytes_of (x ∷ []) ≡ bytes 4 x
unfolding B.bytes_of
bytes_of_one x = append-nil (bytes 4 x)

-- words, bytes, words
pub words_bytes_of : (ws : List ℕ) → Below (2 ^ 32) ws → B.words (length ws) (B.bytes_of ws) ≡ ws
unfolding B.words B.bytes_of
words_bytes_of [] h = refl
words_bytes_of (x ∷ ws) h =
    ap₂ (λ (y : ℕ) (r : List ℕ). y ∷ r)
    (ap number (take_at (bytes 4 x) (B.bytes_of ws) 4 (bytes_length 4 x)) ∙ number_bytes 4 x (below_head (2 ^ 32) x ws h))
    (ap (B.words (length ws)) (drop_at (bytes 4 x) (B.bytes_of ws) 4 (bytes_length 4 x)) ∙ words_bytes_of ws (below_tail (2 ^ 32) x ws h))

-- a loop that stores words one by one: the first i stand from at on
pub record Stored (l : List ℕ) (at : ℕ) (ws : List ℕ) (i : ℕ) (m : List ℕ) : Type 0 where
  pub is : m ≡ replaced l at (B.bytes_of (take i ws))
  pub size : length m ≡ length l

pub stored_start : (l : List ℕ) (at : ℕ) (ws : List ℕ) → Stored l at ws 0 l
unfolding B.bytes_of
stored_start l at ws = record { is = sym (replaced_none l at); size = refl }

pub stored_step : (l : List ℕ) (at : ℕ) (ws : List ℕ) (i : ℕ) (m m' : List ℕ) → Stored l at ws i m → i < length ws
    → at + 4 * length ws ≤ length l → m' ≡ with_number m (at + 4 * i) 4 (get_or ws i 0) → length m' ≡ length m → Stored l at ws (i + 1) m'
unfolding with_number
stored_step l at ws i m m' p h k e s =
    let front : List ℕ = B.bytes_of (take i ws) in
    let x : List ℕ = bytes 4 (get_or ws i 0) in
    let size : length front ≡ 4 * i = bytes_of_length (take i ws) ∙ ap (λ (n : ℕ). 4 * n) (length-take-le i ws (omega arith)) in
    let more : B.bytes_of (take (i + 1) ws) ≡ front ++ x =
    ap (λ (n : ℕ). B.bytes_of (take n ws)) (add-one i)
    ∙ ap B.bytes_of (take-suc ws i 0 h)
    ∙ bytes_of_append (take i ws) (get_or ws i 0 ∷ [])
    ∙ ap (λ (r : List ℕ). front ++ r) (bytes_of_one (get_or ws i 0)) in
    record {
      is =
          e
          ∙ ap (λ (r : List ℕ). replaced r (at + 4 * i) x) p.is
          ∙ ap (λ (n : ℕ). replaced (replaced l at front) (at + n) x) (sym size)
          ∙ replaced_append l at front x (omega (arith, bytes_length 4 (get_or ws i 0)))
          ∙ ap (λ (r : List ℕ). replaced l at r) (sym more);
      size = s ∙ p.size;
    }

pub stored_end : (l : List ℕ) (at : ℕ) (ws : List ℕ) (i : ℕ) (m : List ℕ) → Stored l at ws i m → length ws ≤ i
    → m ≡ replaced l at (B.bytes_of ws)
stored_end l at ws i m p h = p.is ∙ ap (λ (r : List ℕ). replaced l at (B.bytes_of r)) (take_all i ws h)

-- two runs of words that fill a list
pub stored_two : (l x y : List ℕ) (a b : List ℕ) → length l ≡ 4 * length a + 4 * length b → x ≡ replaced l 0 (B.bytes_of a)
    → y ≡ replaced x (4 * length a) (B.bytes_of b) → y ≡ B.bytes_of (a ++ b)
stored_two l x y a b h ex ey =
    let sa = bytes_of_length a in
    let sb = bytes_of_length b in
    let place : 4 * length a ≡ 0 + length (B.bytes_of a) = omega arith in
    ey
    ∙ ap (λ (r : List ℕ). replaced r (4 * length a) (B.bytes_of b)) ex
    ∙ ap (λ (n : ℕ). replaced (replaced l 0 (B.bytes_of a)) n (B.bytes_of b)) place
    ∙ replaced_append l 0 (B.bytes_of a) (B.bytes_of b) (omega arith)
    ∙ replaced_all l (B.bytes_of a ++ B.bytes_of b) (omega (arith, length-append (B.bytes_of a) (B.bytes_of b)))
    ∙ sym (bytes_of_append a b)

-- a run of words that fills a list
pub stored_all : (l x ws : List ℕ) → length l ≡ 4 * length ws → x ≡ replaced l 0 (B.bytes_of ws) → x ≡ B.bytes_of ws
stored_all l x ws h e = e ∙ replaced_all l (B.bytes_of ws) (bytes_of_length ws ∙ sym h)
