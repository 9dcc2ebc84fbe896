-- Laws of kinds: which number is which kind. Assumes nothing.
use mathlib.Core.Path.{◌≡◌, refl, ap, sym, ◌∙◌}
use mathlib.Core.Logic.{◌⊎◌, inl, inr, ⊎_elim}
use mathlib.Core.List.{List, [], ◌∷◌}
use mathlib.Core.Bool.{false≢true}
use Prim.Native.Nat.{ℕ, zero, suc, ◌+◌, ◌≤◌, ◌<◌}
use native.Mathlib.Omega.{arith}
use lib.Dec.{lit≤}
use lib.ListN.{length, get_or}
use Rattle.lockpage.specs.Geometry.{Geometry, Proper}
use Rattle.lockpage.specs.declared.Update.TheVariants.{Write, Unfreeze, Increment}
use Rattle.machine.specs.declared.Kind.{Kind}
use Rattle.machine.specs.declared.Kind.TheVariants.{Read, Entry, Page, Change, Sync, Restart, NewSalt, Identify, Unknown}
use Rattle.machine.specs.Command.{Command, kinds, kind_numbered, kind_of}
use Rattle.machine.specs.Question.{question3, HasYes}
use Rattle.machine.specs.Claims.{OneToTen}

-- a kind's number
number : Kind → ℕ
number Read = 1
number Entry = 2
number Page = 3
number (Change (Write lock)) = 4
number (Change Unfreeze) = 5
number (Change (Increment value)) = 6
number Sync = 7
number Restart = 8
number NewSalt = 9
number Identify = 10
number Unknown = 0

-- the kinds of a list have the numbers from n on
NumberedFrom : ℕ → List Kind → Type 0
NumberedFrom n [] = Unit
NumberedFrom n (k ∷ ks) = (number k ≡ n) × NumberedFrom (suc n) ks

at : (n : ℕ) (ks : List Kind) (i : ℕ) → NumberedFrom n ks → (get_or ks i Unknown ≡ Unknown) ⊎ (number (get_or ks i Unknown) ≡ n + i)
unfolding NumberedFrom
at n [] i h = inl refl
at n (k ∷ ks) zero h = inr (h.0 ∙ omega arith)
at n (k ∷ ks) (suc i) h = ⊎_elim (λ u. inl u) (λ e. inr (e ∙ omega arith)) (at (suc n) ks i h.1)

numbered : (n value : ℕ) → (kind_numbered n value ≡ Unknown) ⊎ (number (kind_numbered n value) ≡ n)
unfolding kind_numbered number NumberedFrom
numbered n value =
    ⊎_elim (λ u. inl u) (λ e. inr (e ∙ omega arith))
    (at 0 (Unknown ∷ kinds value) n
    (refl, (refl, (refl, (refl, (refl, (refl, (refl, (refl, (refl, (refl, (refl, tt))))))))))))

-- a kind that is known has no other number
number_of : (n value : ℕ) (k : Kind) → kind_numbered n value ≡ k → 1 ≤ number k → n ≡ number k
unfolding number
number_of n value k e h =
    ⊎_elim
    (λ unknown. let none : 0 ≡ number k = ap number (sym unknown ∙ e) in absurd (omega arith))
    (λ same. sym same ∙ ap number e)
    (numbered n value)

pub unfreeze_number : (n value : ℕ) → kind_numbered n value ≡ Change Unfreeze → n ≡ 5
unfolding number
unfreeze_number n value e = number_of n value (Change Unfreeze) e (omega arith)

pub write_number : (n value lock : ℕ) → kind_numbered n value ≡ Change (Write lock) → n ≡ 4
unfolding number
write_number n value lock e = number_of n value (Change (Write lock)) e (omega arith)

pub increment_number : (n value more : ℕ) → kind_numbered n value ≡ Change (Increment more) → n ≡ 6
unfolding number
increment_number n value more e = number_of n value (Change (Increment more)) e (omega arith)

pub restart_number : (n value : ℕ) → kind_numbered n value ≡ Restart → n ≡ 8
unfolding number
restart_number n value e = number_of n value Restart e (omega arith)

pub new_salt_number : (n value : ℕ) → kind_numbered n value ≡ NewSalt → n ≡ 9
unfolding number
new_salt_number n value e = number_of n value NewSalt e (omega arith)

pub read_kind : (n value : ℕ) → n ≡ 1 → kind_numbered n value ≡ Read
unfolding kind_numbered
read_kind n value e = ap (λ (k : ℕ). get_or (Unknown ∷ kinds value) k Unknown) e

pub entry_kind : (n value : ℕ) → n ≡ 2 → kind_numbered n value ≡ Entry
unfolding kind_numbered
entry_kind n value e = ap (λ (k : ℕ). get_or (Unknown ∷ kinds value) k Unknown) e

pub write_kind : (n value : ℕ) → n ≡ 4 → kind_numbered n value ≡ Change (Write value)
unfolding kind_numbered
write_kind n value e = ap (λ (k : ℕ). get_or (Unknown ∷ kinds value) k Unknown) e

pub unfreeze_kind : (n value : ℕ) → n ≡ 5 → kind_numbered n value ≡ Change Unfreeze
unfolding kind_numbered
unfreeze_kind n value e = ap (λ (k : ℕ). get_or (Unknown ∷ kinds value) k Unknown) e

pub sync_kind : (n value : ℕ) → n ≡ 7 → kind_numbered n value ≡ Sync
unfolding kind_numbered
sync_kind n value e = ap (λ (k : ℕ). get_or (Unknown ∷ kinds value) k Unknown) e

pub restart_kind : (n value : ℕ) → n ≡ 8 → kind_numbered n value ≡ Restart
unfolding kind_numbered
restart_kind n value e = ap (λ (k : ℕ). get_or (Unknown ∷ kinds value) k Unknown) e

pub new_salt_kind : (n value : ℕ) → n ≡ 9 → kind_numbered n value ≡ NewSalt
unfolding kind_numbered
new_salt_kind n value e = ap (λ (k : ℕ). get_or (Unknown ∷ kinds value) k Unknown) e

-- γ is the box's geometry
module _ (γ : Geometry) where
  AllKnown : List Kind → Type 0
  AllKnown [] = Unit
  AllKnown (k ∷ ks) = HasYes (question3 γ k) × AllKnown ks

-- γ is any proper geometry
module _ {γ : Geometry} (σ : Proper γ) where
  -- a known kind has a number from 1 to 10
  known_number : (k : Kind) → HasYes (question3 γ k) → (1 ≤ number k) × (number k ≤ 10)
  unfolding number
  known_number Read h = (lit≤ tt, lit≤ tt)
  known_number Entry h = (lit≤ tt, lit≤ tt)
  known_number Page h = (lit≤ tt, lit≤ tt)
  known_number (Change (Write lock)) h = (lit≤ tt, lit≤ tt)
  known_number (Change Unfreeze) h = (lit≤ tt, lit≤ tt)
  known_number (Change (Increment value)) h = (lit≤ tt, lit≤ tt)
  known_number Sync h = (lit≤ tt, lit≤ tt)
  known_number Restart h = (lit≤ tt, lit≤ tt)
  known_number NewSalt h = (lit≤ tt, lit≤ tt)
  known_number Identify h = (lit≤ tt, lit≤ tt)
  known_number Unknown h = absurd (false≢true h)

  -- and each such number is a known kind's
  known_at : (ks : List Kind) (i : ℕ) → AllKnown γ ks → i < length ks → HasYes (question3 γ (get_or ks i Unknown))
  unfolding AllKnown
  known_at [] i h l = absurd (omega arith)
  known_at (k ∷ ks) zero h l = h.0
  known_at (k ∷ ks) (suc i) h l = known_at ks i h.1 (omega arith)

  known_kind : (n value : ℕ) → 1 ≤ n → n ≤ 10 → HasYes (question3 γ (kind_numbered n value))
  unfolding kind_numbered AllKnown
  known_kind zero value l h = absurd (omega arith)
  known_kind (suc i) value l h =
      known_at (kinds value) i (refl, (refl, (refl, (refl, (refl, (refl, (refl, (refl, (refl, (refl, tt)))))))))) (omega arith)

  pub one_to_ten : (c : Command) → OneToTen γ c
  one_to_ten c =
      record {
        known = known_kind c.kind c.value;
        only =
            λ h.
            let range = known_number (kind_of c) h in
            let same = number_of c.kind c.value (kind_of c) refl range.0 in
            (omega (arith, range.0), omega (arith, range.1));
      }
