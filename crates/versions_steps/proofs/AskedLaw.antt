-- The questions that are put to the box, one by one as the code asks them. Assumes nothing.
use mathlib.Core.Path.{◌≡◌, refl, ap, sym, subst, ◌∙◌}
use mathlib.Core.Bool.{Bool, true, false, not}
use mathlib.Core.List.{List, [], ◌∷◌}
use Rattle.std.specs.Prelude.{Result, Ok, Err}
use Rattle.std.specs.Option.{ok_or}
use Rattle.std.specs.Result.{result_ok}
use Prim.Native.Nat.{ℕ}
use native.Mathlib.Omega.{arith}
use borrow.Author.Tests.{eqb-true}
use lib.ListN.{length}
use Rattle.lockpage.specs.Geometry.{Geometry, Proper}
use Rattle.addressing.specs.Map.{disk_size}
use Rattle.memory.specs.Memory.{groups}
use Rattle.machine.specs.declared.Refusal.{Refusal}
use Rattle.machine.specs.declared.Refusal.TheVariants.{TooFewFree}
use Rattle.machine.specs.Refusal.{number_of, answered_or_0}
use Rattle.machine.specs.Command.{Box}
use Rattle.machine.specs.Question.{Question, Put, question1, question2, question4, first_no, AllYes}
use Rattle.machine.specs.Claims.{ValidBox}
use Rattle.machine.proofs.QuestionLaw.{numbered_to, accepted_yes, passes_on, ends, says_no, goes_on}
use Rattle.versions_machine.specs.Versions.{Range}
use Rattle.versions_machine.specs.Allocation.{next_available, two_available}
use Rattle.versions_search.specs.Ready.{next_of_two}
use Rattle.versions_state.specs.State.{versions_in}
use Rattle.versions_steps.specs.Ready.{Allocated}

module _ {γ : Geometry} (σ : Proper γ) where
  -- questions 1, 2 and 4
  abbrev pub of_box : Box → ℕ → List Question
  of_box s now = question1 γ s.memory ∷ question2 γ s.memory s.disk ∷ question4 γ s.memory now ∷ []

  -- where they have yes
  box_yes : (s : Box) (now n : ℕ) → n ≡ first_no (of_box s now) → n ≡ 0 → AllYes (of_box s now)
  unfolding numbered_to
  box_yes s now n e z = accepted_yes 4 (of_box s now) refl (sym e ∙ z)

  pub box_valid : (s : Box) (now n : ℕ) → n ≡ first_no (of_box s now) → n ≡ 0 → ValidBox γ s
  box_valid s now n e z =
      let y = box_yes s now n e z in
      record { memory = y.0; disk = eqb-true (length s.disk) (disk_size γ (groups γ s.memory)) y.1.0 }

  -- ---- question 14, by the fields that were read from the state

  module _ (ρ : Range) (state : List ℕ) (s : Box) (now : ℕ) (n : ℕ) (e : n ≡ first_no (of_box s now)) where
    last : List Question
    last = Put 14 (two_available γ ρ s now (versions_in state).reserve) ∷ []

    -- one of the others has no
    pub box_refused : (r b : ℕ) → (n ≡ 0 → ⊥) → r ≡ n → b ≡ 0 → Allocated γ ρ state s now r b
    unfolding last
    box_refused r b d same none =
        record {
          number_is = same ∙ e ∙ sym (ends (of_box s now) last (λ z. d (e ∙ z)));
          no_block = λ n. none;
          block_is = λ z. absurd (d (sym same ∙ z));
        }

    module _ (z : n ≡ 0) (reserve : ℕ) (is-reserve : reserve ≡ (versions_in state).reserve) (two : Bool) (t : two ≡ two_available γ ρ s now reserve) where
      is_two : two ≡ two_available γ ρ s now (versions_in state).reserve
      is_two = t ∙ ap (two_available γ ρ s now) is-reserve

      too_few : (r b : ℕ) → not two ≡ true → r ≡ 14 → b ≡ 0 → Allocated γ ρ state s now r b
      unfolding last
      too_few r b f same none =
          record {
            number_is =
                same
                ∙ says_no 14 (Put 14 (two_available γ ρ s now (versions_in state).reserve)) [] two refl is_two f
                ∙ sym (passes_on (of_box s now) last (box_yes s now n e z));
            no_block = λ n. none;
            block_is = λ zero. absurd (fourteen (sym same ∙ zero));
          }
        where
          fourteen : ◌≡◌ {A = ℕ} 14 0 → ⊥
          fourteen x = omega arith

      enough : (taken b : ℕ) → not two ≡ false → taken ≡ (versions_in state).taken → b ≡ next_available γ ρ s now reserve taken
          → Allocated γ ρ state s now 0 b
      unfolding first_no last
      enough taken b f is-taken found =
          record {
            number_is =
                goes_on (Put 14 (two_available γ ρ s now (versions_in state).reserve)) [] two is_two f
                ∙ sym (passes_on (of_box s now) last (box_yes s now n e z));
            no_block = λ n. absurd (n refl);
            block_is =
                λ zero.
                found
                ∙ ap (λ (r : ℕ). next_available γ ρ s now r taken) is-reserve
                ∙ ap (next_available γ ρ s now (versions_in state).reserve) is-taken;
          }

    -- as the search for two blocks answers
    module _ (z : n ≡ 0) (reserve : ℕ) (is-reserve : reserve ≡ (versions_in state).reserve) (taken : ℕ) (is-taken : taken ≡ (versions_in state).taken)
        (found : Result ℕ ℕ) (f : found ≡ next_of_two γ ρ s now reserve taken) where
      pub answered : (a : Result ℕ Refusal) → a ≡ ok_or (result_ok found) TooFewFree → Allocated γ ρ state s now (number_of a) (answered_or_0 a)
      answered a e = go (two_available γ ρ s now reserve) refl
        where
          answer : Bool → Result ℕ ℕ
          answer two = elim two [ true ↦ Ok (next_available γ ρ s now reserve taken) | false ↦ Err (next_available γ ρ s now reserve taken) ]

          as_found : (two : Bool) → two_available γ ρ s now reserve ≡ two → a ≡ ok_or (result_ok (answer two)) TooFewFree
          as_found two t = e ∙ ap (λ (r : Result ℕ ℕ). ok_or (result_ok r) TooFewFree) (f ∙ ap answer t)

          go : (two : Bool) → two_available γ ρ s now reserve ≡ two → Allocated γ ρ state s now (number_of a) (answered_or_0 a)
          go true t =
              subst (λ (x : Result ℕ Refusal). Allocated γ ρ state s now (number_of x) (answered_or_0 x)) (sym (as_found true t))
              (enough z reserve is-reserve true (sym t) taken (next_available γ ρ s now reserve taken) refl is-taken refl)
          go false t =
              subst (λ (x : Result ℕ Refusal). Allocated γ ρ state s now (number_of x) (answered_or_0 x)) (sym (as_found false t))
              (too_few z reserve is-reserve false (sym t) 14 0 refl refl refl)
