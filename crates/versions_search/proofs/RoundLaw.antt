-- Going round is two intervals, so that two searches find the block that is allocated next, and whether there is another. Assumes nothing.
use mathlib.Core.Path.{◌≡◌, refl, ap, ap₂, sym, ◌∙◌}
use mathlib.Core.Bool.{Bool, true, false}
use Rattle.std.specs.Prelude.{Option, Some, None, Result, Ok, Err, MatchOption}
use Rattle.std.specs.Option.{unwrap_or, option_and, ok_or}
use Rattle.std.specs.List.{find}
use Rattle.std.proofs.lemmas.Option.{none-some}
use mathlib.Core.List.{List, [], ◌∷◌, ◌++◌, append-nil}
use Prim.Native.Nat.{ℕ, zero, suc, ◌+◌, ◌-◌, ◌≤◌, ◌<◌}
use native.Mathlib.Omega.{arith}
use borrow.Author.Tests.{lt-ltb, le-ltb, le-leb, lt-leb}
use lib.ListN.{length, length-append}
use lib.Dec.{leb, ltb}
use Rattle.lockpage.specs.Geometry.{Geometry}
use Rattle.addressing.specs.Map.{data_blocks}
use Rattle.memory.specs.Memory.{groups}
use Rattle.machine.specs.Command.{Box}
use Rattle.versions_machine.specs.Versions.{Range}
use Rattle.versions_machine.specs.Allocation.{blocks_from, those, going_round, first_that, is_available, whole_box, next_available, two_available}
use Rattle.versions_machine.proofs.AllocationLaw.{those_append}
use Rattle.versions_search.specs.Ready.{Behind, next_of_two}
use Rattle.versions_search.proofs.IntervalLaw.{passing, first_found, hit, miss}

-- ---- lists of blocks

-- b and p are computed
blocks_split : (a m n b p : ℕ) → b ≡ a + m → p ≡ m + n → blocks_from a p ≡ blocks_from a m ++ blocks_from b n
unfolding blocks_from
blocks_split a zero n b p e f =
    let same : a ≡ b = omega arith in
    let whole : p ≡ n = omega arith in
    ap₂ blocks_from same whole
blocks_split a (suc m) n b p e f =
    let more : p ≡ suc (m + n) = omega arith in
    ap (blocks_from a) more ∙ ap (λ (x : List ℕ). a ∷ x) (blocks_split (a + 1) m n b (m + n) (omega arith) refl)

first_append : (test : ℕ → Bool) (l m : List ℕ) (other : ℕ) → first_that test (l ++ m) other ≡ first_that test l (first_that test m other)
unfolding first_that
first_append test [] m other = refl
first_append test (a ∷ l) m other = ap (λ (x : ℕ). elim (test a) [ true ↦ a | false ↦ x ]) (first_append test l m other)

-- where all of them pass, or none
those_all : (test : ℕ → Bool) (a n : ℕ) → ((k : ℕ) → a ≤ k → k < a + n → test k ≡ true) → those test (blocks_from a n) ≡ blocks_from a n
unfolding blocks_from those
those_all test a zero h = refl
those_all test a (suc n) h =
    rw (h a (omega arith) (omega arith)) (ap (λ (x : List ℕ). a ∷ x) (those_all test (a + 1) n (λ k l m. h k (omega arith) (omega arith))))

those_none : (test : ℕ → Bool) (a n : ℕ) → ((k : ℕ) → a ≤ k → k < a + n → test k ≡ false) → those test (blocks_from a n) ≡ []
unfolding blocks_from those
those_none test a zero h = refl
those_none test a (suc n) h =
    rw (h a (omega arith) (omega arith)) (those_none test (a + 1) n (λ k l m. h k (omega arith) (omega arith)))

-- ---- going round: from the start on to the end, and from 0 up to the start

module _ (end taken start : ℕ) (b : Behind taken end start) where
  whole : blocks_from 0 end ≡ blocks_from 0 (start - 0) ++ blocks_from start (end - start)
  whole = blocks_split 0 (start - 0) (end - start) start end (omega arith) (omega (arith, b.within))

  -- those of all blocks that pass a test, by the two intervals
  those_round : (test : ℕ → Bool) → those test (blocks_from 0 end)
      ≡ those test (blocks_from 0 (start - 0)) ++ those test (blocks_from start (end - start))
  those_round test = ap (those test) whole ∙ those_append test (blocks_from 0 (start - 0)) (blocks_from start (end - start))

  later : those (λ a. ltb taken a) (blocks_from 0 end) ≡ blocks_from start (end - start)
  later =
      those_round (λ a. ltb taken a)
      ∙ ap₂ (λ (x y : List ℕ). x ++ y)
      (those_none (λ a. ltb taken a) 0 (start - 0) (λ k l m. le-ltb taken k (omega (arith, b.least))))
      (those_all (λ a. ltb taken a) start (end - start)
      (λ k l m. lt-ltb taken k (omega (arith, b.behind (omega (arith, b.within))))))

  earlier : those (λ a. leb a taken) (blocks_from 0 end) ≡ blocks_from 0 (start - 0)
  earlier =
      those_round (λ a. leb a taken)
      ∙ ap₂ (λ (x y : List ℕ). x ++ y)
      (those_all (λ a. leb a taken) 0 (start - 0) (λ k l m. le-leb k taken (omega (arith, b.least))))
      (those_none (λ a. leb a taken) start (end - start)
      (λ k l m. lt-leb k taken (omega (arith, b.behind (omega (arith, b.within))))))
      ∙ append-nil (blocks_from 0 (start - 0))

  -- how many pass a test
  passing_round : (test : ℕ → Bool) → length (those test (blocks_from 0 end)) ≡ passing test 0 start + passing test start end
  passing_round test =
      ap length (those_round test) ∙ length-append (those test (blocks_from 0 (start - 0))) (those test (blocks_from start (end - start)))

  first_round : (test : ℕ → Bool) (ρ : Range) → ρ.first ≡ 0 → ρ.number ≡ end → first_that test (going_round ρ taken) taken
      ≡ first_that test (blocks_from start (end - start)) (first_that test (blocks_from 0 (start - 0)) taken)
  unfolding going_round
  first_round test ρ e f =
      ap₂ (λ (x y : ℕ). first_that test (those (λ a. ltb taken a) (blocks_from x y) ++ those (λ a. leb a taken) (blocks_from x y)) taken) e f
      ∙ ap₂ (λ (x y : List ℕ). first_that test (x ++ y) taken) later earlier
      ∙ first_append test (blocks_from start (end - start)) (blocks_from 0 (start - 0)) taken

-- ---- what the code has found. γ is the box's geometry

module _ (γ : Geometry) (s : Box) (now reserve taken end start : ℕ) (e : end ≡ data_blocks γ (groups γ s.memory)) (b : Behind taken end start) where
  abbrev test : ℕ → Bool
  test = is_available γ s now reserve

  abbrev ρ : Range
  ρ = whole_box γ (groups γ s.memory)

  -- the first available block of each interval
  abbrev late : Option ℕ
  late = find test (blocks_from start (end - start))

  abbrev early : Option ℕ
  early = find test (blocks_from 0 (start - 0))

  next_round : next_available γ ρ s now reserve taken ≡ unwrap_or late (unwrap_or early taken)
  unfolding next_available
  next_round =
      first_round end taken start b test ρ refl (sym e)
      ∙ first_found test (blocks_from start (end - start)) (first_that test (blocks_from 0 (start - 0)) taken)
      ∙ ap (unwrap_or late) (first_found test (blocks_from 0 (start - 0)) taken)

  next_late : (r : ℕ) → late ≡ Some r → next_available γ ρ s now reserve taken ≡ r
  next_late r f = next_round ∙ ap (λ (o : Option ℕ). unwrap_or o (unwrap_or early taken)) f

  next_early : late ≡ None → next_available γ ρ s now reserve taken ≡ unwrap_or early taken
  next_early f = next_round ∙ ap (λ (o : Option ℕ). unwrap_or o (unwrap_or early taken)) f

  -- of the two searches, the first that comes to a block
  pub next_looked : (later both : Option ℕ) → later ≡ late → MatchOption later (both ≡ early) (λ x. both ≡ Some x)
      → unwrap_or both taken ≡ next_available γ ρ s now reserve taken
  next_looked None both f m = ap (λ (o : Option ℕ). unwrap_or o taken) m ∙ sym (next_early (sym f))
  next_looked (Some r) both f m = ap (λ (o : Option ℕ). unwrap_or o taken) m ∙ sym (next_late r (sym f))

  -- how many are available
  abbrev total : ℕ
  total = passing test 0 start + passing test start end

  two_round : two_available γ ρ s now reserve ≡ leb 2 total
  unfolding two_available
  two_round = ap (λ (n : ℕ). leb 2 (length (those test (blocks_from 0 n)))) (sym e) ∙ ap (leb 2) (passing_round end taken start b test)

  abbrev answer : Bool → Result ℕ ℕ
  answer two = elim two [ true ↦ Ok (next_available γ ρ s now reserve taken) | false ↦ Err (next_available γ ρ s now reserve taken) ]

  few_answer : (r : ℕ) → next_available γ ρ s now reserve taken ≡ r → total < 2 → next_of_two γ ρ s now reserve taken ≡ Err r
  few_answer r n h = ap answer (two_round ∙ lt-leb 2 total h) ∙ ap Err n

  -- r is the first, and o what the search for another one comes to
  decided : (o : Option ℕ) (r : ℕ) → next_available γ ρ s now reserve taken ≡ r → ((q : ℕ) → o ≡ Some q → 2 ≤ total)
      → (o ≡ None → total < 2) → ok_or (option_and o (Some r)) r ≡ next_of_two γ ρ s now reserve taken
  decided None r n enough few = sym (few_answer r n (few refl))
  decided (Some q) r n enough few = sym (ap answer (two_round ∙ le-leb 2 total (enough q refl)) ∙ ap Ok n)

  -- one in the first interval; the other, if any, behind it there, or else in the second
  pub two_late : (r : ℕ) (second both : Option ℕ) → late ≡ Some r → second ≡ find test (blocks_from (r + 1) (end - (r + 1)))
      → MatchOption second (both ≡ early) (λ x. both ≡ Some x) → ok_or (option_and both (Some r)) r ≡ next_of_two γ ρ s now reserve taken
  two_late r (Some q) both f g m =
      let first = hit test start end r b.within f in
      let more = hit test (r + 1) end q (omega (arith, first.below)) (sym g) in
      decided both r (next_late r f) (λ k x. omega (arith, first.passing, more.passing)) (λ x. absurd (none-some q (sym x ∙ m)))
  two_late r None both f g m =
      let first = hit test start end r b.within f in
      let rest = miss test (r + 1) end (sym g) in
      decided both r (next_late r f) (λ k x. omega (arith, first.passing, (hit test 0 start k (omega arith) (sym m ∙ x)).passing))
      (λ x. omega (arith, first.passing, rest, miss test 0 start (sym m ∙ x)))

  -- none there; both, if any, in the second
  pub two_early : (r : ℕ) (second : Option ℕ) → late ≡ None → early ≡ Some r → second ≡ find test (blocks_from (r + 1) (start - (r + 1)))
      → ok_or (option_and second (Some r)) r ≡ next_of_two γ ρ s now reserve taken
  two_early r second f g k =
      let rest = miss test start end f in
      let first = hit test 0 start r (omega arith) g in
      decided second r (next_early f ∙ ap (λ (o : Option ℕ). unwrap_or o taken) g)
      (λ q x. omega (arith, first.passing, (hit test (r + 1) start q (omega (arith, first.below)) (sym k ∙ x)).passing))
      (λ x. omega (arith, rest, first.passing, miss test (r + 1) start (sym k ∙ x)))

  pub two_none : late ≡ None → early ≡ None → Err taken ≡ next_of_two γ ρ s now reserve taken
  two_none f g =
      sym (few_answer taken (next_early f ∙ ap (λ (o : Option ℕ). unwrap_or o taken) g) (omega (arith, miss test start end f, miss test 0 start g)))
