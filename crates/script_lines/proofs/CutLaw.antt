-- Laws of a text cut at a separator: what stands before the first, the pieces of a text with none, and the text joined again. Assumes
-- nothing.
use mathlib.Core.Path.{◌≡◌, refl, ap, sym, ◌∙◌}
use mathlib.Core.Bool.{Bool, true, false}
use mathlib.Core.List.{List, [], ◌∷◌, ◌++◌, append-nil}
use Prim.Native.Nat.{ℕ, ◌≤◌}
use native.Mathlib.Omega.{arith}
use borrow.Author.Tests.{eqb-true, eq-eqb, ne_eqb}
use lib.Dec.{eqb}
use lib.ListN.{length}
use Rattle.script_lines.specs.Syntax.{in_front, cut}

-- no byte of a text is the separator
abbrev pub Without : ℕ → List ℕ → Type 0
Without separator [] = Unit {0}
Without separator (b ∷ x) = (b ≡ separator → ⊥) × Without separator x

pub without_append : (separator : ℕ) (x y : List ℕ) → Without separator x → Without separator y → Without separator (x ++ y)
without_append separator [] y w v = v
without_append separator (b ∷ x) y w v = (w.0, without_append separator x y w.1 v)

-- a text in front of the first of some pieces
abbrev pub front : List ℕ → List (List ℕ) → List (List ℕ)
front [] pieces = pieces
front (b ∷ x) pieces = in_front b (front x pieces)

pub front_some : (x piece : List ℕ) (pieces : List (List ℕ)) → front x (piece ∷ pieces) ≡ (x ++ piece) ∷ pieces
front_some [] piece pieces = refl
front_some (b ∷ x) piece pieces = ap (in_front b) (front_some x piece pieces)

pub front_none : (x : List ℕ) → 1 ≤ length x → front x [] ≡ x ∷ []
front_none [] h = absurd (omega arith)
front_none (b ∷ []) h = refl
front_none (b ∷ c ∷ x) h = ap (in_front b) (front_none (c ∷ x) (omega arith))

-- ---- one byte

pub cut_separator : (separator : ℕ) (none : List (List ℕ)) (y : List ℕ) → cut separator none (separator ∷ y) ≡ [] ∷ cut separator none y
unfolding cut
cut_separator separator none y = rw (eq-eqb separator separator refl, cut)

pub cut_other : (separator : ℕ) (none : List (List ℕ)) (b : ℕ) (y : List ℕ) → (b ≡ separator → ⊥)
    → cut separator none (b ∷ y) ≡ in_front b (cut separator none y)
unfolding cut
cut_other separator none b y n = rw (ne_eqb b separator n, cut)

-- ---- a text without the separator, and what follows it

pub cut_front : (separator : ℕ) (none : List (List ℕ)) (x y : List ℕ) → Without separator x
    → cut separator none (x ++ y) ≡ front x (cut separator none y)
cut_front separator none [] y w = refl
cut_front separator none (b ∷ x) y w =
    cut_other separator none b (x ++ y) w.0 ∙ ap (in_front b) (cut_front separator none x y w.1)

-- a separator follows
pub cut_at : (separator : ℕ) (none : List (List ℕ)) (x y : List ℕ) → Without separator x
    → cut separator none (x ++ (separator ∷ y)) ≡ x ∷ cut separator none y
cut_at separator none x y w =
    cut_front separator none x (separator ∷ y) w
    ∙ ap (front x) (cut_separator separator none y)
    ∙ front_some x [] (cut separator none y)
    ∙ ap (λ (p : List ℕ). p ∷ cut separator none y) (append-nil x)

-- nothing follows
pub cut_end : (separator : ℕ) (none : List (List ℕ)) (x : List ℕ) → Without separator x → cut separator none x ≡ front x none
unfolding cut
cut_end separator none x w = ap (cut separator none) (sym (append-nil x)) ∙ cut_front separator none x [] w

pub cut_line : (separator : ℕ) (x : List ℕ) → Without separator x → 1 ≤ length x → cut separator [] x ≡ x ∷ []
cut_line separator x w h = cut_end separator [] x w ∙ front_none x h

pub cut_field : (separator : ℕ) (x : List ℕ) → Without separator x → cut separator ([] ∷ []) x ≡ x ∷ []
cut_field separator x w =
    cut_end separator ([] ∷ []) x w ∙ front_some x [] [] ∙ ap (λ (p : List ℕ). p ∷ []) (append-nil x)

-- another byte follows: the first piece goes on with it
pub record Further (separator : ℕ) (none : List (List ℕ)) (x : List ℕ) (b : ℕ) (y : List ℕ) : Type 0 where
  pub piece : List ℕ
  pub pieces : List (List ℕ)
  pub same : cut separator none (x ++ (b ∷ y)) ≡ (x ++ (b ∷ piece)) ∷ pieces

pub cut_further : (separator : ℕ) (none : List (List ℕ)) (x : List ℕ) (b : ℕ) (y : List ℕ) → Without separator x → (b ≡ separator → ⊥)
    → Further separator none x b y
cut_further separator none x b y w n = go (cut separator none y) refl
  where
    start : cut separator none (x ++ (b ∷ y)) ≡ front x (in_front b (cut separator none y))
    start = cut_front separator none x (b ∷ y) w ∙ ap (front x) (cut_other separator none b y n)

    go : (p : List (List ℕ)) → cut separator none y ≡ p → Further separator none x b y
    go [] e = record { piece = []; pieces = []; same = start ∙ ap (λ (q : List (List ℕ)). front x (in_front b q)) e ∙ front_some x (b ∷ []) [] }
    go (u ∷ rest) e =
        record {
          piece = u;
          pieces = rest;
          same = start ∙ ap (λ (q : List (List ℕ)). front x (in_front b q)) e ∙ front_some x (b ∷ u) rest;
        }

-- ---- the text from its pieces

-- pieces with a separator between
abbrev pub joined : ℕ → List (List ℕ) → List ℕ
joined separator [] = []
joined separator (piece ∷ []) = piece
joined separator (piece ∷ next ∷ pieces) = piece ++ (separator ∷ joined separator (next ∷ pieces))

-- there is a piece
pub cut_some : (separator : ℕ) (y : List ℕ) → 1 ≤ length (cut separator ([] ∷ []) y)
unfolding cut
cut_some separator [] = omega arith
cut_some separator (b ∷ y) = go (eqb b separator) (cut separator ([] ∷ []) y)
  where
    go : (t : Bool) (p : List (List ℕ)) → 1 ≤ length {A = List ℕ} (elim t [ true ↦ [] ∷ p | false ↦ in_front b p ])
    go true p = omega arith
    go false [] = omega arith
    go false (u ∷ rest) = omega arith

pub joined_cut : (separator : ℕ) (y : List ℕ) → joined separator (cut separator ([] ∷ []) y) ≡ y
unfolding cut
joined_cut separator [] = refl
joined_cut separator (b ∷ y) =
    go (eqb b separator) refl (cut separator ([] ∷ []) y) (cut_some separator y) (joined_cut separator y)
  where
    next : (p : List (List ℕ)) → 1 ≤ length p → joined separator ([] ∷ p) ≡ separator ∷ joined separator p
    next [] h = absurd (omega arith)
    next (u ∷ rest) h = refl

    more : (p : List (List ℕ)) → 1 ≤ length p → joined separator (in_front b p) ≡ b ∷ joined separator p
    more [] h = absurd (omega arith)
    more (u ∷ []) h = refl
    more (u ∷ v ∷ rest) h = refl

    go : (t : Bool) → eqb b separator ≡ t → (p : List (List ℕ)) → 1 ≤ length p → joined separator p ≡ y
        → joined separator (elim t [ true ↦ [] ∷ p | false ↦ in_front b p ]) ≡ b ∷ y
    go true e p h j = next p h ∙ rw (j, eqb-true b separator e)
    go false e p h j = more p h ∙ rw j
