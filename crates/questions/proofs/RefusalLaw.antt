-- All questions in order, from the parts that the code asks together. Assumes nothing.
use mathlib.Core.Path.{◌≡◌, refl, sym, ◌∙◌}
use mathlib.Core.Bool.{true, ◌&&◌}
use mathlib.Mathlib.Data.Bool.Basic.{and_elim_left, and_elim_right}
use mathlib.Core.List.{List, [], ◌∷◌}
use Prim.Native.Nat.{ℕ}
use native.Mathlib.Omega.{arith}
use borrow.Author.Tests.{eqb-true, leb-true, ltb-true}
use lib.Dec.{eqb, leb}
use lib.ListN.{length}
use Rattle.octets.specs.Part.{equal}
use Rattle.octets.proofs.EqualLaw.{equal_iff}
use Rattle.lockpage.specs.Geometry.{Geometry, Proper}
use Rattle.lockpage.specs.declared.Update.{Update}
use Rattle.lockpage.specs.Update.{latest_time}
use Rattle.addressing.specs.Map.{data_blocks, group_of}
use Rattle.addressing.proofs.MapLaw.{group_of_below}
use Rattle.memory.specs.Layout.{memory_size}
use Rattle.memory.specs.Memory.{last_time, groups}
use Rattle.validity.proofs.ValidLaw.{facts}
use Rattle.machine.specs.declared.Kind.{Kind}
use Rattle.machine.specs.declared.Kind.TheVariants.{Read, Entry, Page, Change, Sync, Restart, NewSalt, Identify, Unknown}
use Rattle.machine.specs.Command.{Box, Command, proof_size, answer_size, brought_entry}
use Rattle.machine.specs.Question.{Question, question7, question8, question9, question10, question11, content_length, questions_to, first_no, AllYes}
use Rattle.machine.proofs.QuestionLaw.{numbered_to, accepted_yes, passes_on, ends, not_put_last}
use Rattle.arguments.specs.ArgumentQuestions.{argument_questions}
use Rattle.questions.specs.FirstQuestions.{first_questions}
use Rattle.questions.specs.ChangeQuestions.{change_questions}
use Rattle.questions.specs.Ready.{UpdateReady}

-- γ is the box's geometry
module _ (γ : Geometry) where
  -- questions 2 to 6
  abbrev arguments : Kind → Box → Command → List Question
  arguments k s c = argument_questions γ k s.memory s.disk c.block c.now c.content c.proof c.answer

  -- 7 to 11
  abbrev pub rest : Kind → Box → Command → List Question
  rest k s c =
      question7 γ k s.memory (group_of γ c.block) c.proof
      ∷ question8 γ k s.memory (group_of γ c.block)
      ∷ question9 γ k c.now (brought_entry γ c)
      ∷ question10 γ k c.now (brought_entry γ c)
      ∷ question11 γ k s.memory c.content
      ∷ []

-- the new salt is compared with the present one, either way round
pub equal_swapped : (a b : List ℕ) → equal a b ≡ equal b a
equal_swapped a b = equal_iff a b b a sym sym

-- γ is any proper geometry
module _ {γ : Geometry} (σ : Proper γ) where
  first_numbered : (k : Kind) (s : Box) (c : Command) → numbered_to 6 (first_questions γ k s c) ≡ true
  unfolding numbered_to
  first_numbered Read s c = refl
  first_numbered Entry s c = refl
  first_numbered Page s c = refl
  first_numbered (Change u) s c = refl
  first_numbered Sync s c = refl
  first_numbered Restart s c = refl
  first_numbered NewSalt s c = refl
  first_numbered Identify s c = refl
  first_numbered Unknown s c = refl

  -- ---- the first six, then the rest

  pub first_refused : (k : Kind) (s : Box) (c : Command) → (first_no (first_questions γ k s c) ≡ 0 → ⊥)
      → first_no (first_questions γ k s c) ≡ first_no (questions_to γ k s c)
  first_refused k s c h = sym (ends (first_questions γ k s c) (rest γ k s c) h)

  first_yes : (k : Kind) (s : Box) (c : Command) → first_no (first_questions γ k s c) ≡ 0 → AllYes (first_questions γ k s c)
  first_yes k s c z = accepted_yes 6 (first_questions γ k s c) (first_numbered k s c) z

  pub to_rest : (k : Kind) (s : Box) (c : Command) → first_no (first_questions γ k s c) ≡ 0
      → first_no (rest γ k s c) ≡ first_no (questions_to γ k s c)
  to_rest k s c z = sym (passes_on (first_questions γ k s c) (rest γ k s c) (first_yes k s c z))

  pub salt_size_is : (s : Box) (c : Command) → first_no (first_questions γ NewSalt s c) ≡ 0 → length s.memory ≡ memory_size γ
  salt_size_is s c z = (facts σ s.memory (first_yes NewSalt s c z).0).size

  pub salt_left : (s : Box) (c : Command) → first_no (first_questions γ NewSalt s c) ≡ 0
      → first_no (question11 γ NewSalt s.memory c.content ∷ []) ≡ first_no (questions_to γ NewSalt s c)
  unfolding first_no
  salt_left s c z = to_rest NewSalt s c z

  module _ (u : Update) (s : Box) (c : Command) (z : first_no (first_questions γ (Change u) s c) ≡ 0) where
    yes : AllYes (first_questions γ (Change u) s c)
    yes = first_yes (Change u) s c z

    pub change_left : first_no (change_questions γ u s.memory c.block c.now c.proof) ≡ first_no (questions_to γ (Change u) s c)
    change_left = sym (not_put_last (change_questions γ u s.memory c.block c.now c.proof)) ∙ to_rest (Change u) s c z

    pub update_ready : UpdateReady γ s.memory c.block c.now c.proof
    update_ready =
        let m = s.memory in
        let blocks = data_blocks γ (groups γ m) in
        let below = group_of_below σ (groups γ m) c.block (ltb-true c.block blocks yes.1.1.1.1.0) in
        let content = eqb (length c.content) (content_length γ (Change u)) in
        let proof = eqb (length c.proof) (proof_size γ) in
        let answer = eqb (length c.answer) (answer_size γ) in
        record {
          count = record { size = (facts σ m yes.0).size; group = omega (arith, below, (facts σ m yes.0).most) };
          time =
              leb-true c.now latest_time
              (and_elim_right (leb (last_time γ m) c.now) (leb c.now latest_time) yes.1.1.1.0);
          proof_size_is =
              eqb-true (length c.proof) (proof_size γ)
              (and_elim_left proof answer (and_elim_right content (proof && answer) yes.1.1.1.1.1.0));
        }
