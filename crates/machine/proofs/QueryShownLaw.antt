-- What an accepted query shows for each number, and that kind 2 on that block at that time is accepted and shows the same. Assumes
-- nothing.
use mathlib.Core.Path.{◌≡◌, refl, ap, sym, ◌∙◌}
use mathlib.Core.List.{List, [], ◌∷◌}
use mathlib.Mathlib.Data.Bool.Basic.{and_intro}
use Prim.Native.Nat.{ℕ, ◌+◌, ◌*◌, ◌<◌}
use native.Mathlib.Nat.{zero-add}
use native.Mathlib.Omega.{arith}
use borrow.Author.Tests.{eq-eqb, ltb-true, lt-ltb}
use lib.Dec.{ltb}
use lib.ListN.{length}
use Rattle.octets.specs.Part.{part}
use Rattle.octets.proofs.PartLaw.{part_part, part_all}
use Rattle.lockpage.specs.Geometry.{Geometry, Proper}
use Rattle.lockpage.specs.State.{state, state_number, time_left_size, time_left_bytes}
use Rattle.lockpage.specs.Page.{entry_at}
use Rattle.lockpage.proofs.StateLaw.{time_left_bytes_length}
use Rattle.addressing.specs.Map.{data_blocks, group_of, place_of}
use Rattle.memory.specs.Memory.{groups}
use Rattle.machine.specs.declared.Kind.TheVariants.{Entry}
use Rattle.machine.specs.Command.{Box, kind_numbered, answer_size}
use Rattle.machine.specs.Tag.{current_entry}
use Rattle.machine.specs.Question.{questions_to, questions, refusal}
use Rattle.machine.specs.Step.{timed}
use Rattle.machine.specs.Query.{Query, number_count, block_number, shown_size, shown_state, query_refusal, query_step}
use Rattle.machine.specs.QueryClaims.{entry_command, ShowsAs}
use Rattle.machine.proofs.QuestionLaw.{yes_accepted}
use Rattle.machine.proofs.StepLaw.{step_number}
use Rattle.machine.proofs.ListedLaw.{listed_all, shown_states_part}
use Rattle.machine.proofs.QueryLaw.{query_yes, query_passed, query_answers}
use Rattle.machine.proofs.TimedLaw.{current_timed}
use Rattle.machine.proofs.AnswerLaw.{left_answer, state_answer}

-- γ is any proper geometry; number i of an accepted list
module _ {γ : Geometry} (σ : Proper γ) (s : Box) (q : Query) (r : query_refusal γ s q ≡ 0) (i : ℕ) (h : i < number_count q.blocks) where
  -- ---- its bytes

  number_shown : part (query_step γ s q).answer (shown_size * i) shown_size ≡ shown_state q.now (current_entry γ s (block_number q.blocks i))
  number_shown =
      let a = block_number q.blocks in
      let t = timed γ s q.now in
      ap (λ (l : List ℕ). part l (shown_size * i) shown_size) (query_answers σ s q r)
      ∙ shown_states_part σ t q.now a 0 (number_count q.blocks) i h
      ∙ ap (λ (j : ℕ). shown_state q.now (current_entry γ t (a j))) (zero-add i)
      ∙ ap (λ (p : List ℕ). shown_state q.now (entry_at p (place_of γ (a i))))
      (current_timed σ s q.now (query_passed σ s q r).timely (group_of γ (a i)))

  pub state_shown : part (query_step γ s q).answer (shown_size * i) 1
      ≡ state_number (state q.now (current_entry γ s (block_number q.blocks i))) ∷ []
  unfolding part shown_state
  state_shown =
      let l = (query_step γ s q).answer in
      let start : shown_size * i + 0 ≡ shown_size * i = omega arith in
      ap (λ (j : ℕ). part l j 1) (sym start)
      ∙ sym (part_part l (shown_size * i) shown_size 0 1 (omega arith))
      ∙ ap (λ (x : List ℕ). part x 0 1) number_shown

  pub left_shown : part (query_step γ s q).answer (shown_size * i + 1) time_left_size
      ≡ time_left_bytes q.now (current_entry γ s (block_number q.blocks i))
  unfolding part shown_state
  left_shown =
      let e = current_entry γ s (block_number q.blocks i) in
      sym (part_part (query_step γ s q).answer (shown_size * i) shown_size 1 time_left_size (omega arith))
      ∙ ap (λ (x : List ℕ). part x 1 time_left_size) number_shown
      ∙ part_all (time_left_bytes q.now e) time_left_size (omega (arith, time_left_bytes_length q.now e))

  -- ---- kind 2

  pub number_below : block_number q.blocks i < data_blocks γ (groups γ s.memory)
  number_below =
      ltb-true (block_number q.blocks i) (data_blocks γ (groups γ s.memory))
      (listed_all (block_number q.blocks) (λ a. ltb a (data_blocks γ (groups γ s.memory))) 0 (number_count q.blocks)
      (query_passed σ s q r).range i (omega arith) (omega arith))

  entry_passes : (value : ℕ) (answer : List ℕ) → length answer ≡ answer_size γ → refusal γ s (entry_command q i value answer) ≡ 0
  unfolding refusal questions kind_numbered
  entry_passes value answer l =
      let y = query_yes σ s q r in
      yes_accepted (questions_to γ Entry s (entry_command q i value answer)) (
        y.0,
        (
          y.1.0,
          (
            refl,
            (
              y.1.1.0,
              (
                lt-ltb (block_number q.blocks i) (data_blocks γ (groups γ s.memory)) number_below,
                (and_intro refl (and_intro refl (eq-eqb (length answer) (answer_size γ) l)), (refl, (refl, (refl, (refl, (refl, tt)))))),
              ),
            ),
          ),
        ),
      )

  pub shows_as : (value : ℕ) (answer : List ℕ) → length answer ≡ answer_size γ → ShowsAs γ s q i (entry_command q i value answer)
  unfolding kind_numbered
  shows_as value answer l =
      let c = entry_command q i value answer in
      let p = entry_passes value answer l in
      record {
        accepted = step_number σ s c ∙ p;
        state_byte = state_shown ∙ sym (state_answer σ s c refl p);
        time_left_is = left_shown ∙ sym (left_answer σ s c refl p);
      }
