-- The block taken next is open, where one is. Assumes nothing.
use mathlib.Core.Path.{◌≡◌, refl, ap, sym, ◌∙◌}
use mathlib.Core.Bool.{Bool, true, false, ◌&&◌, not, false≢true}
use mathlib.Mathlib.Data.Bool.Basic.{and_elim_left, and_elim_right}
use mathlib.Core.Logic.{◌⊎◌, inl, inr, ⊎_elim}
use mathlib.Core.List.{List, [], ◌∷◌, ◌++◌}
use Prim.Native.Nat.{ℕ, zero, suc, ◌+◌, ◌≤◌, ◌<◌}
use native.Mathlib.Omega.{arith}
use borrow.Author.Tests.{leb-true, leb-false, lt-ltb, ltb-true, ltb-false, eqb-false, not-true}
use lib.ListN.{length}
use lib.Dec.{eqb, leb, ltb}
use Rattle.lockpage.specs.Geometry.{Geometry}
use Rattle.lockpage.specs.declared.State.{State}
use Rattle.lockpage.specs.declared.State.TheVariants.{Free, Frozen, Counting}
use Rattle.lockpage.specs.State.{state}
use Rattle.machine.specs.Command.{Box}
use Rattle.machine.specs.Tag.{current_entry}
use Rattle.machine.proofs.CaseLaw.{same_or_not}
use Rattle.versions_machine.specs.Versions.{Range, Versions}
use Rattle.versions_machine.specs.Allocation.{blocks_from, blocks_of, those, going_round, first_that, is_free, is_available, next_available, next_for}
use Rattle.versions_machine.specs.Allocation.{two_available}

-- ---- lists of blocks

abbrev pub In : ℕ → List ℕ → Type 0
In k [] = ⊥
In k (a ∷ l) = (k ≡ a) ⊎ In k l

in_left : (k : ℕ) (l m : List ℕ) → In k l → In k (l ++ m)
in_left k [] m h = absurd h
in_left k (a ∷ l) m h = ⊎_elim (λ e. inl e) (λ t. inr (in_left k l m t)) h

in_right : (k : ℕ) (l m : List ℕ) → In k m → In k (l ++ m)
in_right k [] m h = h
in_right k (a ∷ l) m h = inr (in_right k l m h)

in_either : (k : ℕ) (l m : List ℕ) → In k (l ++ m) → In k l ⊎ In k m
in_either k [] m h = inr h
in_either k (a ∷ l) m h = ⊎_elim (λ e. inl (inl e)) (λ t. ⊎_elim (λ x. inl (inr x)) (λ x. inr x) (in_either k l m t)) h

pub in_from : (a n k : ℕ) → a ≤ k → k < a + n → In k (blocks_from a n)
unfolding blocks_from
in_from a zero k l h = absurd (omega arith)
in_from a (suc n) k l h = same_or_not k a (λ e. inl e) (λ d. inr (in_from (a + 1) n k (omega arith) (omega arith)))

pub from_in : (a n k : ℕ) → In k (blocks_from a n) → (a ≤ k) × (k < a + n)
unfolding blocks_from
from_in a zero k h = absurd h
from_in a (suc n) k h =
    ⊎_elim (λ e. (omega arith, omega arith))
    (λ t. let r = from_in (a + 1) n k t in (omega (arith, r.0), omega (arith, r.1))) h

-- ---- those that pass

pub those_append : {A : Type 0} (test : A → Bool) (l m : List A) → those test (l ++ m) ≡ those test l ++ those test m
unfolding those
those_append test [] m = refl
those_append {A} test (a ∷ l) m = go (those_append test l m) (test a)
  where
    go : those test (l ++ m) ≡ those test l ++ those test m → (b : Bool)
        → elim b [ true ↦ a ∷ those test (l ++ m) | false ↦ those test (l ++ m) ]
        ≡ elim b [ true ↦ a ∷ those test l | false ↦ those test l ] ++ those test m
    go e true = ap (λ (x : List A). a ∷ x) e
    go e false = e

-- ---- the first that passes, and how many do

pub first_passes : (test : ℕ → Bool) (l : List ℕ) (other k : ℕ) → In k l → test k ≡ true → test (first_that test l other) ≡ true
unfolding first_that
first_passes test [] other k h t = absurd h
first_passes test (a ∷ l) other k h t = go (λ x. first_passes test l other k x t) (test a) refl
  where
    go : (In k l → test (first_that test l other) ≡ true) → (b : Bool) → test a ≡ b → test (elim b [ true ↦ a | false ↦ first_that test l other ]) ≡ true
    go r true e = e
    go r false e = ⊎_elim (λ x. absurd (false≢true (sym e ∙ ap test (sym x) ∙ t))) r h

pub first_in : (test : ℕ → Bool) (l : List ℕ) (other k : ℕ) → In k l → test k ≡ true → In (first_that test l other) l
unfolding first_that
first_in test [] other k h t = absurd h
first_in test (a ∷ l) other k h t = go (λ x. first_in test l other k x t) (test a) refl
  where
    go : (In k l → In (first_that test l other) l) → (b : Bool) → test a ≡ b → In (elim b [ true ↦ a | false ↦ first_that test l other ]) (a ∷ l)
    go r true e = inl refl
    go r false e = ⊎_elim (λ x. absurd (false≢true (sym e ∙ ap test (sym x) ∙ t))) (λ x. inr (r x)) h

-- it is one of them, or the other
pub first_below : (test : ℕ → Bool) (l : List ℕ) (other bound : ℕ) → ((k : ℕ) → In k l → k < bound) → other < bound → first_that test l other < bound
unfolding first_that
first_below test [] other bound below h = h
first_below test (a ∷ l) other bound below h = go (first_below test l other bound (λ k i. below k (inr i)) h) (test a)
  where
    go : first_that test l other < bound → (b : Bool) → elim b [ true ↦ a | false ↦ first_that test l other ] < bound
    go r true = below a (inl refl)
    go r false = r

-- behind the one last taken, the next block if that passes
pub first_behind : (test : ℕ → Bool) (a n taken other : ℕ) (rest : List ℕ) → a ≤ taken + 1 → taken + 1 < a + n → test (taken + 1) ≡ true
    → first_that test (those (λ b. ltb taken b) (blocks_from a n) ++ rest) other ≡ taken + 1
unfolding first_that those blocks_from
first_behind test a zero taken other rest l h t = absurd (omega arith)
first_behind test a (suc n) taken other rest l h t = go (λ k. first_behind test (a + 1) n taken other rest k (omega arith) t) (ltb taken a) refl
  where
    go : (a + 1 ≤ taken + 1 → first_that test (those (λ b. ltb taken b) (blocks_from (a + 1) n) ++ rest) other ≡ taken + 1) → (x : Bool) → ltb taken a ≡ x
        → first_that test
        (elim x [ true ↦ a ∷ those (λ b. ltb taken b) (blocks_from (a + 1) n) | false ↦ those (λ b. ltb taken b) (blocks_from (a + 1) n) ] ++ rest) other
        ≡ taken + 1
    go r true e =
        let here : a ≡ taken + 1 = omega (arith, ltb-true taken a e) in
        ap (λ (b : Bool). elim b [ true ↦ a | false ↦ first_that test (those (λ b. ltb taken b) (blocks_from (a + 1) n) ++ rest) other ]) (ap test here ∙ t)
        ∙ here
    go r false e = r (omega (arith, ltb-false taken a e))

-- one of some blocks that passes a test, and is another than v
pub record Another (test : ℕ → Bool) (a n v : ℕ) : Type 0 where
  pub block : ℕ
  pub least : a ≤ block
  pub most : block < a + n
  pub passes : test block ≡ true
  pub other : block ≡ v → ⊥

wider : (test : ℕ → Bool) (a n v : ℕ) → Another test (a + 1) n v → Another test a (suc n) v
wider test a n v r =
    record { block = r.block; least = omega (arith, r.least); most = omega (arith, r.most); passes = r.passes; other = r.other }

-- where v is none of them, one is enough
one_of : (test : ℕ → Bool) (a n v : ℕ) → v < a → 1 ≤ length (those test (blocks_from a n)) → Another test a n v
unfolding blocks_from those
one_of test a zero v l h = absurd (omega arith)
one_of test a (suc n) v l h = go (λ k. wider test a n v (one_of test (a + 1) n v (omega arith) k)) (test a) refl h
  where
    go : (1 ≤ length (those test (blocks_from (a + 1) n)) → Another test a (suc n) v) → (b : Bool) → test a ≡ b
        → 1 ≤ length {A = ℕ} (elim b [ true ↦ a ∷ those test (blocks_from (a + 1) n) | false ↦ those test (blocks_from (a + 1) n) ])
        → Another test a (suc n) v
    go r true e k = record { block = a; least = omega arith; most = omega arith; passes = e; other = λ x. omega arith }
    go r false e k = r k

-- in any case two are
pub two_of : (test : ℕ → Bool) (a n v : ℕ) → 2 ≤ length (those test (blocks_from a n)) → Another test a n v
unfolding blocks_from those
two_of test a zero v h = absurd (omega arith)
two_of test a (suc n) v h = go (λ k. wider test a n v (two_of test (a + 1) n v k)) (test a) refl h
  where
    go : (2 ≤ length (those test (blocks_from (a + 1) n)) → Another test a (suc n) v) → (b : Bool) → test a ≡ b
        → 2 ≤ length {A = ℕ} (elim b [ true ↦ a ∷ those test (blocks_from (a + 1) n) | false ↦ those test (blocks_from (a + 1) n) ])
        → Another test a (suc n) v
    go r true e k =
        same_or_not a v (λ x. wider test a n v (one_of test (a + 1) n v (omega arith) (omega arith)))
        (λ x. record { block = a; least = omega arith; most = omega arith; passes = e; other = x })
    go r false e k = r k

-- two that pass are two or more
many_one : (test : ℕ → Bool) (a n b : ℕ) → a ≤ b → b < a + n → test b ≡ true → 1 ≤ length (those test (blocks_from a n))
unfolding those blocks_from
many_one test a zero b l h t = absurd (omega arith)
many_one test a (suc n) b l h t = go (λ k. many_one test (a + 1) n b k (omega arith) t) (test a) refl
  where
    go : (a + 1 ≤ b → 1 ≤ length (those test (blocks_from (a + 1) n))) → (x : Bool) → test a ≡ x
        → 1 ≤ length {A = ℕ} (elim x [ true ↦ a ∷ those test (blocks_from (a + 1) n) | false ↦ those test (blocks_from (a + 1) n) ])
    go r true e = omega arith
    go r false e =
        let other : a ≡ b → ⊥ = λ d. false≢true (sym e ∙ ap test d ∙ t) in
        r (omega arith)

pub many_two : (test : ℕ → Bool) (a n b c : ℕ) → a ≤ b → b < c → c < a + n → test b ≡ true → test c ≡ true → 2 ≤ length (those test (blocks_from a n))
unfolding those blocks_from
many_two test a zero b c l m h t u = absurd (omega arith)
many_two test a (suc n) b c l m h t u = go (λ k. many_two test (a + 1) n b c k m (omega arith) t u) (test a) refl
  where
    go : (a + 1 ≤ b → 2 ≤ length (those test (blocks_from (a + 1) n))) → (x : Bool) → test a ≡ x
        → 2 ≤ length {A = ℕ} (elim x [ true ↦ a ∷ those test (blocks_from (a + 1) n) | false ↦ those test (blocks_from (a + 1) n) ])
    go r true e = omega (arith, many_one test (a + 1) n c (omega arith) (omega arith) u)
    go r false e =
        let other : a ≡ b → ⊥ = λ d. false≢true (sym e ∙ ap test d ∙ t) in
        r (omega arith)

-- ---- going round comes to every block of the range, and to no other, wherever it begins

in_those : (test : ℕ → Bool) (l : List ℕ) (k : ℕ) → In k l → test k ≡ true → In k (those test l)
unfolding those
in_those test [] k h t = absurd h
in_those test (a ∷ l) k h t = go (λ x. in_those test l k x t) (test a) refl
  where
    go : (In k l → In k (those test l)) → (b : Bool) → test a ≡ b → In k (elim b [ true ↦ a ∷ those test l | false ↦ those test l ])
    go r true e = ⊎_elim (λ x. inl x) (λ x. inr (r x)) h
    go r false e = ⊎_elim (λ x. absurd (false≢true (sym e ∙ ap test (sym x) ∙ t))) r h

those_in : (test : ℕ → Bool) (l : List ℕ) (k : ℕ) → In k (those test l) → In k l
unfolding those
those_in test [] k h = h
those_in test (a ∷ l) k h = go (those_in test l k) (test a) h
  where
    go : (In k (those test l) → In k l) → (b : Bool) → In k (elim b [ true ↦ a ∷ those test l | false ↦ those test l ]) → In k (a ∷ l)
    go r true x = ⊎_elim (λ e. inl e) (λ y. inr (r y)) x
    go r false x = inr (r x)

pub all_round : (ρ : Range) (taken k : ℕ) → ρ.first ≤ k → k < ρ.first + ρ.number → In k (going_round ρ taken)
unfolding going_round
all_round ρ taken k l h = go (leb k taken) refl
  where
    here : In k (blocks_of ρ)
    here = in_from ρ.first ρ.number k l h

    go : (b : Bool) → leb k taken ≡ b → In k (those (λ a. ltb taken a) (blocks_of ρ) ++ those (λ a. leb a taken) (blocks_of ρ))
    go true e = in_right k (those (λ a. ltb taken a) (blocks_of ρ)) (those (λ a. leb a taken) (blocks_of ρ)) (in_those (λ a. leb a taken) (blocks_of ρ) k here e)
    go false e =
        in_left k (those (λ a. ltb taken a) (blocks_of ρ)) (those (λ a. leb a taken) (blocks_of ρ))
        (in_those (λ a. ltb taken a) (blocks_of ρ) k here (lt-ltb taken k (leb-false k taken e)))

pub only_range : (ρ : Range) (taken k : ℕ) → In k (going_round ρ taken) → (ρ.first ≤ k) × (k < ρ.first + ρ.number)
unfolding going_round
only_range ρ taken k i =
    from_in ρ.first ρ.number k
    (⊎_elim (those_in (λ a. ltb taken a) (blocks_of ρ) k) (those_in (λ a. leb a taken) (blocks_of ρ) k)
    (in_either k (those (λ a. ltb taken a) (blocks_of ρ)) (those (λ a. leb a taken) (blocks_of ρ)) i))

-- ---- open blocks

free_is : (x : State) → is_free x ≡ true → x ≡ Free
free_is Free h = refl
free_is Frozen h = absurd (false≢true h)
free_is Counting h = absurd (false≢true h)

module _ (γ : Geometry) where
  pub available_free : (s : Box) (now reserve a : ℕ) → is_available γ s now reserve a ≡ true → state now (current_entry γ s a) ≡ Free
  unfolding is_available
  available_free s now reserve a h = free_is (state now (current_entry γ s a)) (and_elim_left (is_free (state now (current_entry γ s a))) (not (eqb a reserve)) h)

  pub available_other : (s : Box) (now reserve a : ℕ) → is_available γ s now reserve a ≡ true → a ≡ reserve → ⊥
  unfolding is_available
  available_other s now reserve a h =
      eqb-false a reserve (not-true (eqb a reserve) (and_elim_right (is_free (state now (current_entry γ s a))) (not (eqb a reserve)) h))

  -- the same entry is as open
  pub available_same : (s t : Box) (now reserve a : ℕ) → current_entry γ t a ≡ current_entry γ s a → is_available γ s now reserve a ≡ true
      → is_available γ t now reserve a ≡ true
  unfolding is_available
  available_same s t now reserve a e h = ap (λ x. is_free (state now x) && not (eqb a reserve)) e ∙ h

  -- where a block of the range is open, the one taken next is
  pub next_available_lem : (ρ : Range) (s : Box) (now : ℕ) (ν : Versions) (k : ℕ) → ρ.first ≤ k → k < ρ.first + ρ.number
      → is_available γ s now ν.reserve k ≡ true → is_available γ s now ν.reserve (next_for γ ρ s now ν) ≡ true
  unfolding next_available
  next_available_lem ρ s now ν k l h o = first_passes (is_available γ s now ν.reserve) (going_round ρ ν.taken) ν.taken k (all_round ρ ν.taken k l h) o

  pub next_range : (ρ : Range) (s : Box) (now : ℕ) (ν : Versions) (k : ℕ) → ρ.first ≤ k → k < ρ.first + ρ.number
      → is_available γ s now ν.reserve k ≡ true
      → (ρ.first ≤ next_for γ ρ s now ν) × (next_for γ ρ s now ν < ρ.first + ρ.number)
  unfolding next_available
  next_range ρ s now ν k l h o =
      only_range ρ ν.taken (next_for γ ρ s now ν)
      (first_in (is_available γ s now ν.reserve) (going_round ρ ν.taken) ν.taken k (all_round ρ ν.taken k l h) o)

  pub next_below : (ρ : Range) (s : Box) (now reserve taken bound : ℕ) → ρ.first + ρ.number ≤ bound → taken < bound
      → next_available γ ρ s now reserve taken < bound
  unfolding next_available
  next_below ρ s now reserve taken bound within h =
      first_below (is_available γ s now reserve) (going_round ρ taken) taken bound (λ k i. omega (arith, (only_range ρ taken k i).1)) h

  -- question 14's yes: two of the range are open, so one besides v
  pub two_available_lem : (ρ : Range) (s : Box) (now : ℕ) (ν : Versions) (v : ℕ) → two_available γ ρ s now ν.reserve ≡ true
      → Another (is_available γ s now ν.reserve) ρ.first ρ.number v
  unfolding two_available
  two_available_lem ρ s now ν v h =
      two_of (is_available γ s now ν.reserve) ρ.first ρ.number v
      (leb-true 2 (length (those (is_available γ s now ν.reserve) (blocks_of ρ))) h)
