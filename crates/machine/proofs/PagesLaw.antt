-- The pages that an accepted query reads: its groups are the different ones named, each once, and no more than there are. Assumes nothing.
use mathlib.Core.Path.{◌≡◌, refl, ap, ap₂, sym, subst, ◌∙◌}
use mathlib.Core.Bool.{Bool, true, false, ◌&&◌, ◌||◌, false≢true, So-prop, or-eq-true_iff}
use mathlib.Core.Logic.Or
use mathlib.Mathlib.Data.Bool.Basic.{and_elim_left, and_elim_right, or_inl, or_inr, eq-false_of_not-eq-true}
use mathlib.Core.List.{List, [], ◌∷◌, map, any, all}
use Prim.Native.Nat.{ℕ, zero, suc, ◌+◌, ◌≤◌, ◌<◌}
use native.Mathlib.Omega.{arith}
use borrow.Author.Tests.{eqb-true, eq-eqb, ltb-true}
use lib.Dec.{eqb, ltb}
use lib.ListN.{length, length-map}
use Rattle.lockpage.specs.Geometry.{Geometry, Proper}
use Rattle.addressing.specs.Map.{data_blocks, group_of}
use Rattle.addressing.proofs.MapLaw.{group_of_below}
use Rattle.memory.specs.Memory.{groups}
use Rattle.machine.specs.Command.{Box}
use Rattle.machine.specs.Query.{Query, number_count, block_number, numbers, distinct, pages_read, query_refusal}
use Rattle.machine.specs.QueryClaims.{NoneTwice, PagesCounted}
use Rattle.machine.proofs.CaseLaw.{same_or_not, true_or_false}
use Rattle.machine.proofs.ListedLaw.{all_cons, any_none, any_cons, listed_length, distinct_repeat, distinct_new, distinct_any, distinct_few}
use Rattle.machine.proofs.QueryLaw.{query_passed, query_counts}

distinct_once : (gs : List ℕ) → NoneTwice (distinct gs)
unfolding distinct
distinct_once [] = tt
distinct_once (x ∷ gs) =
    true_or_false (any gs (eqb x))
    (λ e. subst NoneTwice (sym (distinct_repeat x gs e)) (distinct_once gs))
    (λ e. subst NoneTwice (sym (distinct_new x gs e)) (distinct_any x gs ∙ e, distinct_once gs))

distinct_some : (x : ℕ) (gs : List ℕ) → 1 ≤ length (distinct (x ∷ gs))
distinct_some x [] = omega (arith, ap (λ (l : List ℕ). length l) (distinct_new x [] (any_none (eqb x))))
distinct_some x (y ∷ gs) =
    true_or_false (any (y ∷ gs) (eqb x))
    (λ e. omega (arith, ap (λ (l : List ℕ). length l) (distinct_repeat x (y ∷ gs) e), distinct_some y gs))
    (λ e. omega (arith, ap (λ (l : List ℕ). length l) (distinct_new x (y ∷ gs) e)))

some_distinct : (gs : List ℕ) → 1 ≤ length gs → 1 ≤ length (distinct gs)
some_distinct [] h = absurd (omega arith)
some_distinct (x ∷ gs) h = distinct_some x gs

-- ---- numbers below n, none twice, are at most n

-- a list without the first g
without : ℕ → List ℕ → List ℕ
without g [] = []
without g (x ∷ l) = elim (eqb g x) [ true ↦ l | false ↦ x ∷ without g l ]

without_here : (g x : ℕ) (l : List ℕ) → eqb g x ≡ true → without g (x ∷ l) ≡ l
unfolding without
without_here g x l e = rw (e, without)

without_other : (g x : ℕ) (l : List ℕ) → eqb g x ≡ false → without g (x ∷ l) ≡ x ∷ without g l
unfolding without
without_other g x l e = rw (e, without)

without_length : (g : ℕ) (l : List ℕ) → length l ≤ length (without g l) + 1
without_length g [] = omega arith
without_length g (x ∷ l) =
    true_or_false (eqb g x)
    (λ e. omega (arith, ap (λ (k : List ℕ). length k) (without_here g x l e)))
    (λ e. omega (arith, ap (λ (k : List ℕ). length k) (without_other g x l e), without_length g l))

without_any : (g h : ℕ) (l : List ℕ) → any (without g l) (eqb h) ≡ true → any l (eqb h) ≡ true
unfolding without
without_any g h [] t = t
without_any g h (x ∷ l) t =
    any_cons (eqb h) x l
    ∙ true_or_false (eqb g x)
    (λ e. or_inr (eqb h x) (any l (eqb h)) (ap (λ (k : List ℕ). any k (eqb h)) (sym (without_here g x l e)) ∙ t))
    (λ e.
    Or.elim (So-prop (eqb h x || any l (eqb h)))
    ((or-eq-true_iff (eqb h x) (any (without g l) (eqb h))).0
    (sym (any_cons (eqb h) x (without g l)) ∙ ap (λ (k : List ℕ). any k (eqb h)) (sym (without_other g x l e)) ∙ t))
    (λ i. or_inl (eqb h x) (any l (eqb h)) i)
    (λ i. or_inr (eqb h x) (any l (eqb h)) (without_any g h l i)))

without_once : (g : ℕ) (l : List ℕ) → NoneTwice l → NoneTwice (without g l)
unfolding without
without_once g [] o = tt
without_once g (x ∷ l) o =
    true_or_false (eqb g x)
    (λ e. subst NoneTwice (sym (without_here g x l e)) o.1)
    (λ e.
    subst NoneTwice (sym (without_other g x l e))
    (eq-false_of_not-eq-true (λ t. false≢true (sym o.0 ∙ without_any g x l t)), without_once g l o.1))

-- and it was the only one
without_gone : (g : ℕ) (l : List ℕ) → NoneTwice l → any (without g l) (eqb g) ≡ false
unfolding without
without_gone g [] o = any_none (eqb g)
without_gone g (x ∷ l) o =
    true_or_false (eqb g x)
    (λ e. ap (λ (k : List ℕ). any k (eqb g)) (without_here g x l e) ∙ ap (λ (k : ℕ). any l (eqb k)) (eqb-true g x e) ∙ o.0)
    (λ e.
    ap (λ (k : List ℕ). any k (eqb g)) (without_other g x l e)
    ∙ any_cons (eqb g) x (without g l)
    ∙ ap₂ ◌||◌ e (without_gone g l o.1))

few_below : (n : ℕ) (l : List ℕ) → NoneTwice l → ((g : ℕ) → any l (eqb g) ≡ true → g < n) → length l ≤ n
few_below zero [] o h = omega arith
few_below zero (x ∷ l) o h =
    absurd (omega (arith, h x (any_cons (eqb x) x l ∙ or_inl (eqb x x) (any l (eqb x)) (eq-eqb x x refl))))
few_below (suc n) l o h =
    let rest =
    few_below n (without n l) (without_once n l o)
    (λ g t.
    let other : g ≡ n → ⊥ = λ e. false≢true (sym (without_gone n l o) ∙ ap (λ (k : ℕ). any (without n l) (eqb k)) (sym e) ∙ t) in
    same_or_not g n (λ e. absurd (other e)) (λ e. omega (arith, h g (without_any n g l t)))) in
    omega (arith, rest, without_length n l)

-- γ is any proper geometry
module _ {γ : Geometry} (σ : Proper γ) where
  -- a group named is one of the box, where every number is in range
  group_named : (n : ℕ) (bs : List ℕ) → all bs (λ a. ltb a (data_blocks γ n)) ≡ true → (g : ℕ) → any (map (group_of γ) bs) (eqb g) ≡ true → g < n
  group_named n [] h g t = absurd (false≢true (sym (any_none (eqb g)) ∙ t))
  group_named n (b ∷ bs) h g t =
      let here = ltb b (data_blocks γ n) in
      let rest = all bs (λ a. ltb a (data_blocks γ n)) in
      let each : (here && rest) ≡ true = sym (all_cons (λ a. ltb a (data_blocks γ n)) b bs) ∙ h in
      true_or_false (eqb g (group_of γ b))
      (λ e.
      subst (λ (i : ℕ). i < n) (sym (eqb-true g (group_of γ b) e))
      (group_of_below σ n b (ltb-true b (data_blocks γ n) (and_elim_left here rest each))))
      (λ e.
      group_named n bs (and_elim_right here rest each) g
      (ap (λ (x : Bool). x || any (map (group_of γ) bs) (eqb g)) (sym e) ∙ sym (any_cons (eqb g) (group_of γ b) (map (group_of γ) bs)) ∙ t))

  pub pages_counted : (s : Box) (q : Query) → query_refusal γ s q ≡ 0 → PagesCounted γ s q
  unfolding pages_read
  pages_counted s q r =
      let known = query_passed σ s q r in
      let n = number_count q.blocks in
      let named = map (group_of γ) (numbers q.blocks) in
      let size : length named ≡ n = length-map (numbers q.blocks) (group_of γ) ∙ listed_length (block_number q.blocks) 0 n in
      let count = query_counts σ s q r in
      record {
        different = distinct named;
        read = count;
        named = λ g. distinct_any g named;
        once = distinct_once named;
        some = omega (arith, count, some_distinct named (omega (arith, size, known.some)));
        few = omega (arith, count, size, distinct_few named);
        most =
            omega (
              arith,
              count,
              few_below (groups γ s.memory) (distinct named) (distinct_once named)
                  (λ g t. group_named (groups γ s.memory) (numbers q.blocks) known.range g (sym (distinct_any g named) ∙ t)),
            );
      }
