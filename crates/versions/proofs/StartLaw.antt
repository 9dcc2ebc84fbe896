-- What a start and a lookup answer, case by case, as the code goes. Assumes nothing.
use mathlib.Core.Path.{◌≡◌, refl, ap, sym, ◌∙◌}
use mathlib.Core.Bool.{Bool, true, false, not}
use mathlib.Core.List.{List, [], ◌∷◌}
use Prim.Native.Nat.{ℕ, ◌≤◌, ◌<◌}
use native.Mathlib.Omega.{arith}
use borrow.Author.Tests.{eq-eqb, ne_eqb, le-leb, lt-leb}
use lib.Dec.{eqb, leb}
use lib.ListN.{length}
use Rattle.lockpage.specs.Geometry.{Geometry, Proper}
use Rattle.machine.specs.Question.{Put, first_no}
use Rattle.machine.proofs.QuestionLaw.{says_no, yes_accepted, passes_on}
use Rattle.versions_machine.specs.Versions.{block_number, is_lock, start, start_questions}
use Rattle.versions_machine.specs.Call.{last_part}
use Rattle.versions_state.specs.Layout.{state_size}
use Rattle.versions_state.specs.State.{state_bytes, versions_in, is_valid}
use Rattle.versions_bytes.specs.Call.{started_of, located_of, buffer_questions, start_bytes, lookup_questions, lookup}

module _ {γ : Geometry} (σ : Proper γ) where
  -- ---- a start

  module _ (first : ℕ) (buffer : List ℕ) (lock : ℕ) where
    refused : (n : ℕ) → n ≡ first_no (buffer_questions γ buffer lock) → (n ≡ 0 → ⊥) → started_of n buffer ≡ start_bytes γ first buffer lock
    unfolding start_bytes
    refused n e d =
        rw (start_bytes, ne_eqb (first_no (buffer_questions γ buffer lock)) 0 (λ z. d (e ∙ z))) (ap (λ (k : ℕ). started_of k buffer) e)

    pub wrong_size : (length buffer ≡ state_size γ → ⊥) → started_of 1 buffer ≡ start_bytes γ first buffer lock
    wrong_size d =
        refused 1 (says_no 1 (Put 1 (eqb (length buffer) (state_size γ))) (start_questions lock) false refl (sym (ne_eqb (length buffer) (state_size γ) d)) refl)
        (λ z. omega arith)

    module _ (size : length buffer ≡ state_size γ) where
      asked : first_no (buffer_questions γ buffer lock) ≡ first_no (start_questions lock)
      asked = passes_on (Put 1 (eqb (length buffer) (state_size γ)) ∷ []) (start_questions lock) (eq-eqb (length buffer) (state_size γ) size, tt)

      pub no_lock : is_lock lock ≡ false → started_of 10 buffer ≡ start_bytes γ first buffer lock
      unfolding start_questions
      no_lock f = refused 10 (says_no 10 (Put 10 (is_lock lock)) [] false refl (sym f) refl ∙ sym asked) (λ z. omega arith)

      pub started : is_lock lock ≡ true → started_of 0 (state_bytes γ (start first lock)) ≡ start_bytes γ first buffer lock
      unfolding start_bytes start_questions
      started l =
          let yes = asked ∙ yes_accepted (start_questions lock) (l, tt) in
          rw (start_bytes, eq-eqb (first_no (buffer_questions γ buffer lock)) 0 yes)

  -- ---- a lookup

  module _ (state : List ℕ) (part : ℕ) where
    missed : (n b : ℕ) → n ≡ first_no (lookup_questions γ state part) → (n ≡ 0 → ⊥) → b ≡ 0 → located_of n b ≡ lookup γ state part
    unfolding lookup
    missed n b e d z =
        rw (lookup, ne_eqb (first_no (lookup_questions γ state part)) 0 (λ x. d (e ∙ x)), z) (ap (λ (k : ℕ). located_of k 0) e)

    pub no_part : (n b : ℕ) → last_part < part → n ≡ 13 → b ≡ 0 → located_of n b ≡ lookup γ state part
    no_part n b l e z =
        missed n b (e ∙ says_no 13 (Put 13 (leb part last_part)) (Put 1 (is_valid γ state) ∷ []) false refl (sym (lt-leb part last_part l)) refl)
        (λ x. thirteen (sym e ∙ x)) z
      where
        thirteen : ◌≡◌ {A = ℕ} 13 0 → ⊥
        thirteen x = omega arith

    module _ (p : part ≤ last_part) (v : Bool) (is_valid_is : v ≡ is_valid γ state) where
      asked_state : first_no (lookup_questions γ state part) ≡ first_no (Put 1 (is_valid γ state) ∷ [])
      asked_state = passes_on (Put 13 (leb part last_part) ∷ []) (Put 1 (is_valid γ state) ∷ []) (le-leb part last_part p, tt)

      pub no_state : (n b : ℕ) → not v ≡ true → n ≡ 1 → b ≡ 0 → located_of n b ≡ lookup γ state part
      no_state n b f e z =
          missed n b (e ∙ says_no 1 (Put 1 (is_valid γ state)) [] v refl is_valid_is f ∙ sym asked_state) (λ x. one (sym e ∙ x)) z
        where
          one : ◌≡◌ {A = ℕ} 1 0 → ⊥
          one x = omega arith

      pub found : (b : ℕ) → v ≡ true → b ≡ block_number ((versions_in state).newest part) → located_of 0 b ≡ lookup γ state part
      unfolding lookup
      found b t e =
          let yes = asked_state ∙ yes_accepted (Put 1 (is_valid γ state) ∷ []) (sym is_valid_is ∙ t, tt) in
          rw (lookup, eq-eqb (first_no (lookup_questions γ state part)) 0 yes, e)
