-- Orders of the version store come to the same in an old box and in that box with its memory migrated. Assumes nothing.
use mathlib.Core.Path.{◌≡◌, refl, ap, sym, ◌∙◌}
use mathlib.Core.Bool.{true, false≢true}
use mathlib.Core.List.{List, [], ◌∷◌}
use Prim.Native.Nat.{ℕ, ◌≤◌, ◌<◌}
use native.Mathlib.Omega.{arith}
use borrow.Author.Tests.{le-ltb}
use Rattle.octets.specs.Part.{repeated}
use Rattle.lockpage.specs.Geometry.{Geometry, Proper, widened}
use Rattle.addressing.specs.Map.{group_of, data_blocks}
use Rattle.addressing.proofs.MapLaw.{group_of_below}
use Rattle.memory.specs.Memory.{groups}
use Rattle.validity.specs.Valid.{valid}
use Rattle.validity.proofs.ValidLaw.{facts}
use Rattle.machine.specs.declared.Kind.{Kind}
use Rattle.machine.specs.declared.Kind.TheVariants.{Change}
use Rattle.machine.specs.Command.{Box, Command, Outcome, command_of, answer_size}
use Rattle.machine.specs.Tag.{tagged, current_page}
use Rattle.machine.specs.Question.{Question, first_no, question1, question2, question3, question4, question5, questions_to, questions, refusal}
use Rattle.machine.specs.Step.{step}
use Rattle.machine.specs.Run.{Given}
use Rattle.machine.proofs.CaseLaw.{same_or_not, below_or_not}
use Rattle.machine.proofs.QuestionLaw.{numbered_to, accepted_yes, ends}
use Rattle.machine.proofs.StepLaw.{refused_of}
use Rattle.versions_machine.specs.Plan.{Order, kind_number, value_of, given, Carried, carried_of, carried_out}
use Rattle.versions_machine.proofs.HoldsLaw.{order_kind}
use Rattle.versions_machine.proofs.CarryLaw.{carried_on, carried_stops}
use Rattle.migration_machine.specs.Migrate.{Wider}
use Rattle.migration_machine.specs.Promise.{moved_box}
use Rattle.migration_machine.proofs.BoxLaw.{current_page_moves, tagged_moves}
use Rattle.migration_machine.proofs.MovedLaw.{moved, step_moves}
use Rattle.migration_machine.proofs.EventLaw.{valid_after}

module _ (γ : Geometry) where
  -- the page and tag that the store brings for block a
  abbrev brought : Box → ℕ → List ℕ
  brought s a = tagged γ s.memory (group_of γ a) (current_page γ s (group_of γ a))

  -- an order as a command that brings some page and tag
  abbrev bringing : Order → List ℕ → Command
  bringing o proof =
      command_of (kind_number o.update) o.block o.now (value_of o.update) o.content proof (repeated (answer_size γ) 0)

-- ---- a block out of range is refused before the page and tag are looked at

module _ {γ : Geometry} (σ : Proper γ) (s : Box) (o : Order) (far : data_blocks γ (groups γ s.memory) ≤ o.block) where
  -- the first five, put to an update of that block
  abbrev asked : List Question
  asked =
      question1 γ s.memory
      ∷ question2 γ s.memory s.disk
      ∷ question3 γ (Change o.update)
      ∷ question4 γ s.memory o.now
      ∷ question5 γ (Change o.update) (groups γ s.memory) o.block
      ∷ []

  one_no : first_no asked ≡ 0 → ⊥
  unfolding numbered_to
  one_no e = false≢true (sym (le-ltb o.block (data_blocks γ (groups γ s.memory)) far) ∙ (accepted_yes 5 asked refl e).1.1.1.1.0)

  far_refusal : (proof : List ℕ) → first_no asked ≡ refusal γ s (bringing γ o proof)
  unfolding refusal questions
  far_refusal proof =
      let c = bringing γ o proof in
      sym (ap (λ (k : Kind). first_no (questions_to γ k s c)) (order_kind σ o.update) ∙ ends asked _ one_no)

  far_step : (p q : List ℕ) → step γ s (bringing γ o p) ≡ step γ s (bringing γ o q)
  far_step p q =
      sym (refused_of σ s (bringing γ o p) (first_no asked) (far_refusal p) one_no)
      ∙ refused_of σ s (bringing γ o q) (first_no asked) (far_refusal q) one_no

-- ---- orders, one after the other

module _ (γ : Geometry) (n : ℕ) where
  -- what comes of them, with the box migrated
  abbrev pub moved_carried : Carried → Carried
  moved_carried x = carried_of x.number (moved_box γ n x.box)

-- γ is any proper geometry
module _ {γ : Geometry} (σ : Proper γ) where
  -- they leave the memory valid
  pub carried_valid : (s : Box) (os : List Order) → valid γ s.memory ≡ true → valid γ (carried_out γ s os).box.memory ≡ true
  unfolding carried_out
  carried_valid s [] v = v
  carried_valid s (o ∷ os) v =
      let c = given γ s o in
      same_or_not (step γ s c).number 0
      (λ a.
      ap (λ (x : Carried). valid γ x.box.memory) (carried_on γ s o os a)
      ∙ carried_valid (step γ s c).box os (valid_after σ s (Given c) v))
      (λ r. ap (λ (x : Carried). valid γ x.box.memory) (carried_stops γ s o os r) ∙ v)

-- γ is the old box's geometry, and the new one has n groups at most
module _ {γ : Geometry} (σ : Proper γ) {n : ℕ} (ω : Wider γ n) where
  -- the page and tag that an order brings
  brought_moves : (s : Box) (a : ℕ) → valid γ s.memory ≡ true → a < data_blocks γ (groups γ s.memory)
      → brought (widened γ n) (moved_box γ n s) a ≡ brought γ s a
  unfolding group_of
  brought_moves s a v near =
      let f = facts σ s.memory v in
      let g = group_of γ a in
      tagged_moves σ ω s.memory f.size g (current_page (widened γ n) (moved_box γ n s) g)
      (omega (arith, f.most, group_of_below σ (groups γ s.memory) a near))
      ∙ ap (tagged γ s.memory g) (current_page_moves σ ω s f.size g)

  given_moves : (s : Box) (o : Order) → valid γ s.memory ≡ true
      → step (widened γ n) (moved_box γ n s) (given (widened γ n) (moved_box γ n s) o) ≡ moved γ n (step γ s (given γ s o))
  given_moves s o v =
      let new = brought (widened γ n) (moved_box γ n s) o.block in
      let old = brought γ s o.block in
      let same : step γ s (bringing γ o new) ≡ step γ s (bringing γ o old) =
      below_or_not o.block (data_blocks γ (groups γ s.memory))
      (λ near. ap (λ (p : List ℕ). step γ s (bringing γ o p)) (brought_moves s o.block v near))
      (λ far. far_step σ s o far new old) in
      step_moves σ ω s (bringing γ o new) v ∙ ap (moved γ n) same

  pub carried_moves : (s : Box) (os : List Order) → valid γ s.memory ≡ true
      → carried_out (widened γ n) (moved_box γ n s) os ≡ moved_carried γ n (carried_out γ s os)
  unfolding carried_out
  carried_moves s [] v = refl
  carried_moves s (o ∷ os) v =
      let t = moved_box γ n s in
      let c = given γ s o in
      let e = given_moves s o v in
      let number = ap (λ (x : Outcome). x.number) e in
      same_or_not (step γ s c).number 0
      (λ a.
      carried_on (widened γ n) t o os (number ∙ a)
      ∙ ap (λ (x : Outcome). carried_out (widened γ n) x.box os) e
      ∙ carried_moves (step γ s c).box os (valid_after σ s (Given c) v)
      ∙ ap (moved_carried γ n) (sym (carried_on γ s o os a)))
      (λ r.
      carried_stops (widened γ n) t o os (λ a. r (sym number ∙ a))
      ∙ ap (λ (k : ℕ). carried_of k t) number
      ∙ ap (moved_carried γ n) (sym (carried_stops γ s o os r)))
