-- Records left out make no difference to a part whose last record stays. Assumes nothing.
use mathlib.Core.Path.{◌≡◌, refl, ap, sym, ◌∙◌}
use mathlib.Core.Bool.{Bool, true, false}
use mathlib.Core.Logic.{◌⊎◌, inl, inr, ⊎_elim}
use mathlib.Core.List.{List, [], ◌∷◌}
use Rattle.std.specs.Prelude.{Option, Some}
use Prim.Native.Nat.{ℕ}
use Rattle.machine.proofs.CaseLaw.{same_or_not}
use Rattle.versions_machine.specs.Versions.{Record, record_of, replaced_by}
use Rattle.versions_machine.specs.Allocation.{those}
use Rattle.versions_machine.specs.History.{told}
use Rattle.versions_machine.proofs.SoundLaw.{newest_own, newest_other}

-- a map from parts to blocks
abbrev Map : Type 0
Map = ℕ → Option ℕ

module _ (test : Record → Bool) (p : ℕ) where
  -- no record is the part's
  record Absent (xs : List Record) : Type 0 where
    of_all : (f : Map) → told f xs p ≡ f p
    of_those : (f : Map) → told f (those test xs) p ≡ f p

  -- the last that is the part's has this block
  record Last (xs : List Record) : Type 0 where
    block : ℕ
    of_all : (f : Map) → told f xs p ≡ Some block
    of_those : test (record_of p block) ≡ true → (f : Map) → told f (those test xs) p ≡ Some block

  -- what holds of the records told, with one more in front or without it, holds of those that pass
  in_front_lem : (x : Record) (xs : List Record) (P : Option ℕ → Type 0) (f : Map) → P (told (replaced_by f x.part x.block) (those test xs) p)
      → P (told f (those test xs) p) → P (told f (those test (x ∷ xs)) p)
  unfolding those
  in_front_lem x xs P f with_it without = go (test x)
    where
      go : (b : Bool) → P (told f (elim b [ true ↦ x ∷ those test xs | false ↦ those test xs ]) p)
      go true = with_it
      go false = without

  those_passed : (x : Record) (xs : List Record) → test x ≡ true → those test (x ∷ xs) ≡ x ∷ those test xs
  unfolding those
  those_passed x xs e = ap (λ (b : Bool). elim b [ true ↦ x ∷ those test xs | false ↦ those test xs ]) e

  last_here : (x : Record) (xs : List Record) → p ≡ x.part → Absent xs → Last (x ∷ xs)
  last_here x xs e h =
      let here : (f : Map) → replaced_by f x.part x.block p ≡ Some x.block =
      λ f. ap (replaced_by f x.part x.block) e ∙ newest_own f x.part x.block in
      record {
        block = x.block;
        of_all = λ f. h.of_all (replaced_by f x.part x.block) ∙ here f;
        of_those =
            λ passes f.
            ap (λ (l : List Record). told f l p) (those_passed x xs (ap (λ (q : ℕ). test (record_of q x.block)) (sym e) ∙ passes))
            ∙ h.of_those (replaced_by f x.part x.block)
            ∙ here f;
      }

  absent_still : (x : Record) (xs : List Record) → (p ≡ x.part → ⊥) → Absent xs → Absent (x ∷ xs)
  absent_still x xs n h =
      let other : (f : Map) → replaced_by f x.part x.block p ≡ f p = λ f. newest_other f x.part x.block p n in
      record {
        of_all = λ f. h.of_all (replaced_by f x.part x.block) ∙ other f;
        of_those =
            λ f. in_front_lem x xs (λ (o : Option ℕ). o ≡ f p) f (h.of_those (replaced_by f x.part x.block) ∙ other f) (h.of_those f);
      }

  last_still : (x : Record) (xs : List Record) → Last xs → Last (x ∷ xs)
  last_still x xs h =
      record {
        block = h.block;
        of_all = λ f. h.of_all (replaced_by f x.part x.block);
        of_those =
            λ passes f.
            in_front_lem x xs (λ (o : Option ℕ). o ≡ Some h.block) f (h.of_those passes (replaced_by f x.part x.block)) (h.of_those passes f);
      }

  absent_or_last : (xs : List Record) → Absent xs ⊎ Last xs
  unfolding those
  absent_or_last [] = inl (record { of_all = λ f. refl; of_those = λ f. refl })
  absent_or_last (x ∷ xs) =
      ⊎_elim (λ h. same_or_not p x.part (λ e. inr (last_here x xs e h)) (λ n. inl (absent_still x xs n h))) (λ h. inr (last_still x xs h))
      (absent_or_last xs)

  -- where the part's last record passes, or there is none
  pub told_those : (f : Map) (xs : List Record) → ((b : ℕ) → told f xs p ≡ Some b → test (record_of p b) ≡ true)
      → told f (those test xs) p ≡ told f xs p
  told_those f xs passes =
      ⊎_elim (λ h. h.of_those f ∙ sym (h.of_all f))
      (λ h. h.of_those (passes h.block (h.of_all f)) f ∙ sym (h.of_all f)) (absent_or_last xs)
