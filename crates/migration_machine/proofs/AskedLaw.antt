-- A command is refused by the same question once the box's memory is migrated. Assumes nothing.
use mathlib.Core.Path.{◌≡◌, refl, ap, ◌∙◌}
use mathlib.Core.Bool.{true, false}
use mathlib.Core.List.{List, [], ◌∷◌, ◌++◌}
use Prim.Native.Nat.{ℕ, ◌<◌}
use native.Mathlib.Omega.{arith}
use borrow.Author.Tests.{ltb-true}
use lib.Dec.{ltb}
use Rattle.octets.specs.Part.{equal}
use Rattle.lockpage.specs.Geometry.{Geometry, Proper, widened}
use Rattle.lockpage.specs.declared.Update.{Update}
use Rattle.addressing.specs.Map.{data_blocks, group_of, place_of}
use Rattle.addressing.proofs.MapLaw.{group_of_below}
use Rattle.memory.specs.Memory.{groups}
use Rattle.validity.specs.Valid.{count_limit, valid}
use Rattle.validity.proofs.ValidLaw.{facts}
use Rattle.machine.specs.declared.Kind.{Kind}
use Rattle.machine.specs.declared.Kind.TheVariants.{Read, Entry, Page, Change, Sync, Restart, NewSalt, Identify, Unknown}
use Rattle.machine.specs.Command.{Box, Command, kind_of, brought_page, brought_tag, brought_entry}
use Rattle.machine.specs.Question.{Question, Put, NotPut, question1, question2, question3, question4, question5, question6, question7, question8, question9}
use Rattle.machine.specs.Question.{question10, question11, questions, first_no, refusal, to_changes, HasYes, AllYes}
use Rattle.migration_machine.specs.Migrate.{migrated, Wider}
use Rattle.migration_machine.specs.Promise.{moved_box}
use Rattle.migration_machine.proofs.FieldLaw.{migrated_salt, migrated_count, migrated_groups}
use Rattle.migration_machine.proofs.BoxLaw.{tag_moves, question1_moves, question2_moves, question4_moves}

-- ---- any list of questions

-- the later ones need only be the same where the earlier ones let them be put
same_first_no : (qs later others : List Question) → (AllYes qs → later ≡ others) → first_no (qs ++ later) ≡ first_no (qs ++ others)
unfolding first_no
same_first_no [] later others h = ap first_no (h tt)
same_first_no (NotPut ∷ qs) later others h = same_first_no qs later others (λ y. h (refl, y))
same_first_no (Put k true ∷ qs) later others h = same_first_no qs later others (λ y. h (refl, y))
same_first_no (Put k false ∷ qs) later others h = refl

-- those that are put to updates need only be the same of one
same_to_changes : (k : Kind) (q r : Update → Question) → ((u : Update) → k ≡ Change u → q u ≡ r u) → to_changes k q ≡ to_changes k r
same_to_changes Read q r h = refl
same_to_changes Entry q r h = refl
same_to_changes Page q r h = refl
same_to_changes (Change u) q r h = h u refl
same_to_changes Sync q r h = refl
same_to_changes Restart q r h = refl
same_to_changes NewSalt q r h = refl
same_to_changes Identify q r h = refl
same_to_changes Unknown q r h = refl

-- γ is the box's geometry
module _ (γ : Geometry) where
  -- the questions that look at no group's count, and the others
  abbrev to_sixth : Kind → Box → Command → List Question
  to_sixth k s c =
      question1 γ s.memory
      ∷ question2 γ s.memory s.disk
      ∷ question3 γ k
      ∷ question4 γ s.memory c.now
      ∷ question5 γ k (groups γ s.memory) c.block
      ∷ question6 γ k c.content c.proof c.answer
      ∷ []

  abbrev after_sixth : Kind → Box → Command → List Question
  after_sixth k s c =
      question7 γ k s.memory (group_of γ c.block) c.proof
      ∷ question8 γ k s.memory (group_of γ c.block)
      ∷ question9 γ k c.now (brought_entry γ c)
      ∷ question10 γ k c.now (brought_entry γ c)
      ∷ question11 γ k s.memory c.content
      ∷ []

-- γ is the old box's geometry, and the new one has n groups at most
module _ {γ : Geometry} (σ : Proper γ) {n : ℕ} (ω : Wider γ n) where
  module _ (k : Kind) (s : Box) (c : Command) (v : valid γ s.memory ≡ true) where
    first_six : to_sixth (widened γ n) k (moved_box γ n s) c ≡ to_sixth γ k s c
    unfolding data_blocks
    first_six =
        let m = s.memory in
        rw (question1_moves σ ω m v, question2_moves σ ω m v s.disk, question4_moves σ ω m v c.now, migrated_groups σ ω m (facts σ m v).size)

    -- an update that question 5 lets pass is of a group that has a count in both memories
    old_group : (u : Update) → k ≡ Change u → HasYes (question5 γ k (groups γ s.memory) c.block) → group_of γ c.block < γ.most_groups
    old_group u e h =
        let range = ltb-true c.block (data_blocks γ (groups γ s.memory)) (rw e at h) in
        omega (arith, group_of_below σ (groups γ s.memory) c.block range, (facts σ s.memory v).most)

    later_five : AllYes (to_sixth γ k s c) → after_sixth (widened γ n) k (moved_box γ n s) c ≡ after_sixth γ k s c
    unfolding group_of place_of brought_page brought_tag
    later_five y =
        let m = s.memory in
        let g = group_of γ c.block in
        let p = brought_page γ c.proof in
        let l = (facts σ m v).size in
        let small : (u : Update) → k ≡ Change u → g < γ.most_groups = λ u e. old_group u e y.1.1.1.1.0 in
        let seven : question7 (widened γ n) k (migrated γ n m) g c.proof ≡ question7 γ k m g c.proof =
        same_to_changes k _ _ (λ u e. ap (λ (t : List ℕ). Put 7 (equal (brought_tag γ c.proof) t)) (tag_moves σ ω m l g p (small u e))) in
        let eight : question8 (widened γ n) k (migrated γ n m) g ≡ question8 γ k m g =
        same_to_changes k _ _ (λ u e. ap (λ (x : ℕ). Put 8 (ltb x count_limit)) (migrated_count σ ω m l g (small u e))) in
        rw (seven, eight, migrated_salt σ ω m l)

  pub refusal_moves : (s : Box) (c : Command) → valid γ s.memory ≡ true → refusal (widened γ n) (moved_box γ n s) c ≡ refusal γ s c
  unfolding refusal questions
  refusal_moves s c v =
      let k = kind_of c in
      ap (λ (qs : List Question). first_no (qs ++ after_sixth (widened γ n) k (moved_box γ n s) c)) (first_six k s c v)
      ∙ same_first_no (to_sixth γ k s c) (after_sixth (widened γ n) k (moved_box γ n s) c) (after_sixth γ k s c) (later_five k s c v)
