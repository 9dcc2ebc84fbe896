-- The numbers of a list, and whether all are below a limit. Assumes nothing.
use Rattle.std.proofs.Common.{◌≡◌, Bool, true, false, ◌&&◌, ℕ, ◌+◌, ◌*◌, ◌≤◌, ◌<◌, List, length, ltb, refl, ap, sym, ◌∙◌, arith}
use mathlib.Core.List.{all}
use mathlib.Mathlib.Data.Bool.Basic.{and_intro, and_elim_left, and_elim_right}
use Rattle.machine.specs.Query.{number_size, number_count, block_number, listed, numbers}
use Rattle.machine.proofs.CaseLaw.{same_or_not}
use Rattle.machine.proofs.ListedLaw.{listed_all, all_listed}

-- a number of the list lies within its bytes
pub number_within : (blocks : List ℕ) (i : ℕ) → i < number_count blocks → number_size * i + number_size ≤ length blocks
unfolding number_count
number_within blocks i h = omega arith

-- ---- whether all are below a limit

same_truth : (a b : Bool) → (a ≡ true → b ≡ true) → (b ≡ true → a ≡ true) → a ≡ b
same_truth true b f g = sym (f refl)
same_truth false true f g = g refl
same_truth false false f g = refl

module _ (blocks : List ℕ) (limit : ℕ) where
  abbrev Low : ℕ → Bool
  Low a = ltb a limit

  -- of the first i numbers
  abbrev pub all_low : ℕ → Bool
  all_low i = all (listed (block_number blocks) 0 i) Low

  pub low_start : true ≡ all_low 0
  low_start = sym (all_listed (block_number blocks) Low 0 0 (λ j a b. absurd (omega arith)))

  one_more : (i : ℕ) → (all_low i && ltb (block_number blocks i) limit) ≡ all_low (i + 1)
  one_more i =
      same_truth (all_low i && Low (block_number blocks i)) (all_low (i + 1))
      (λ h.
      let before : all_low i ≡ true = and_elim_left (all_low i) (Low (block_number blocks i)) h in
      let here : Low (block_number blocks i) ≡ true = and_elim_right (all_low i) (Low (block_number blocks i)) h in
      all_listed (block_number blocks) Low 0 (i + 1)
      (λ j a b.
      same_or_not j i (λ e. ap (λ (k : ℕ). Low (block_number blocks k)) e ∙ here)
      (λ e. listed_all (block_number blocks) Low 0 i before j (omega arith) (omega arith))))
      (λ h.
      let each : (j : ℕ) → j < i + 1 → Low (block_number blocks j) ≡ true =
      λ j b. listed_all (block_number blocks) Low 0 (i + 1) h j (omega arith) (omega arith) in
      and_intro (all_listed (block_number blocks) Low 0 i (λ j a b. each j (omega arith))) (each i (omega arith)))

  -- and one more, a
  pub low_more : (i a : ℕ) (b : Bool) → b ≡ all_low i → a ≡ block_number blocks i → (b && ltb a limit) ≡ all_low (i + 1)
  low_more i a b eb ea = ap (λ (x : Bool). x && ltb a limit) eb ∙ ap (λ (k : ℕ). all_low i && ltb k limit) ea ∙ one_more i

  pub low_end : (i : ℕ) (b : Bool) → b ≡ all_low i → i ≡ number_count blocks → b ≡ all (numbers blocks) (λ a. ltb a limit)
  low_end i b e z = e ∙ ap all_low z
