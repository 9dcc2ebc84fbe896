-- An order that was given to the controller, or refused before. Assumes nothing.
use mathlib.Core.Path.{◌≡◌, refl, ap, ap₂, sym, ◌∙◌}
use mathlib.Core.Bool.{true, ◌&&◌}
use mathlib.Core.List.{List, [], ◌∷◌, ◌++◌}
use Prim.Native.Nat.{ℕ, ◌≤◌, ◌<◌}
use native.Mathlib.Omega.{arith}
use borrow.Author.Tests.{le-ltb, lt-ltb, le-leb, eq-eqb, ne_eqb}
use lib.Dec.{eqb, leb}
use lib.ListN.{length, drop}
use Rattle.octets.specs.Part.{part, repeated}
use Rattle.octets.proofs.PartLaw.{part_first}
use Rattle.lockpage.specs.Geometry.{Geometry, Proper}
use Rattle.lockpage.specs.Size.{page_size}
use Rattle.lockpage.specs.declared.Update.{Update}
use Rattle.lockpage.specs.Update.{latest_time}
use Rattle.addressing.specs.Map.{disk_size, data_blocks, group_of}
use Rattle.addressing.proofs.MapLaw.{group_of_below}
use Rattle.memory.specs.Memory.{count, last_time, groups}
use Rattle.validity.proofs.ValidLaw.{facts}
use Rattle.machine.specs.declared.Kind.TheVariants.{Change}
use Rattle.machine.specs.Command.{Box, Outcome, box_of, command_of, outcome_of, proof_size, answer_size}
use Rattle.machine.specs.Tag.{tagged, current_page, current_entry}
use Rattle.machine.specs.Question.{content_length, refusal, first_no}
use Rattle.machine.specs.Step.{step}
use Rattle.machine.specs.Claims.{ValidBox}
use Rattle.machine.proofs.CaseLaw.{same_or_not}
use Rattle.machine.proofs.QuestionLaw.{yes_accepted}
use Rattle.machine.proofs.TagLaw.{current_length}
use Rattle.machine.proofs.StepLaw.{step_number, refused_unaltered}
use Rattle.questions.specs.FirstQuestions.{first_questions}
use Rattle.controller.specs.ByKind.{ComesTo}
use Rattle.versions_machine.specs.Plan.{Order, order_of, kind_number, value_of, carried_of, given, carried_out}
use Rattle.versions_machine.specs.Foresight.{questions_left}
use Rattle.versions_machine.proofs.HoldsLaw.{order_kind}
use Rattle.versions_machine.proofs.CarryLaw.{carried_on, carried_stops}
use Rattle.versions_machine.proofs.ForesightLaw.{refusal_left}
use Rattle.versions_orders.specs.Ready.{OrderReady}

-- γ is any proper geometry
module _ {γ : Geometry} (σ : Proper γ) where
  -- the current page came back at the front of a buffer, and its tag is put behind it; the group of block a was computed
  pub page_tagged : (s : Box) (out proof r : List ℕ) (g a : ℕ) → ValidBox γ s → a < data_blocks γ (groups γ s.memory) → g ≡ group_of γ a
      → out ≡ current_page γ s g → r ≡ tagged γ s.memory g (part (out ++ drop (page_size γ) proof) 0 (page_size γ))
      → r ≡ tagged γ s.memory (group_of γ a) (current_page γ s (group_of γ a))
  page_tagged s out proof r g a v h eg eo er =
      let m = s.memory in
      let size : length (current_page γ s g) ≡ page_size γ =
      current_length σ s g (facts σ m v.memory).size v.disk (omega (arith, group_of_below σ (groups γ m) a h)) in
      er
      ∙ ap (tagged γ m g) (part_first out (drop (page_size γ) proof) (page_size γ) (ap length eo ∙ size) ∙ eo)
      ∙ ap (λ (k : ℕ). tagged γ m k (current_page γ s k)) eg

  module _ (s : Box) (u : Update) (block now : ℕ) (content : List ℕ) where
    abbrev o : Order
    o = order_of u block now content

    -- a question that is left says no
    left_refused : (n : ℕ) → OrderReady γ s now
        → first_no (questions_left γ (groups γ s.memory) (count s.memory (group_of γ block)) (current_entry γ s block) o) ≡ n
        → (n ≡ 0 → ⊥) → carried_of n s ≡ carried_out γ s (o ∷ [])
    left_refused n ready left h =
        let refused : refusal γ s (given γ s o) ≡ n =
        refusal_left σ s o (count s.memory (group_of γ block)) (current_entry γ s block) ready.valid ready.later ready.early
        (λ l. refl) (λ l. refl)
        ∙ left in
        let number : (step γ s (given γ s o)).number ≡ n = step_number σ s (given γ s o) ∙ refused in
        sym (carried_stops γ s o [] (λ a. h (sym number ∙ a)) ∙ ap (λ (k : ℕ). carried_of k s) number)

    -- it is none of the box's blocks
    pub no_block : OrderReady γ s now → data_blocks γ (groups γ s.memory) ≤ block → carried_of 5 s ≡ carried_out γ s (o ∷ [])
    unfolding first_no
    no_block ready h = left_refused 5 ready (rw (le-ltb block (data_blocks γ (groups γ s.memory)) h)) (λ e. omega arith)

    -- its content has another length
    pub wrong_length : OrderReady γ s now → block < data_blocks γ (groups γ s.memory) → (length content ≡ content_length γ (Change u) → ⊥)
        → carried_of 6 s ≡ carried_out γ s (o ∷ [])
    unfolding first_no
    wrong_length ready l h =
        left_refused 6 ready
        (rw (lt-ltb block (data_blocks γ (groups γ s.memory)) l, ne_eqb (length content) (content_length γ (Change u)) h))
        (λ e. omega arith)

    -- or neither: then the first six questions have yes, with a proof and an answer of their lengths
    pub first_asked : (proof answer : List ℕ) → OrderReady γ s now → block < data_blocks γ (groups γ s.memory)
        → length content ≡ content_length γ (Change u) → length proof ≡ proof_size γ → length answer ≡ answer_size γ
        → first_no (first_questions γ (Change u) s (command_of 0 block now 0 content proof answer)) ≡ 0
    first_asked proof answer ready l ec ep ea =
        let disk = eq-eqb (length s.disk) (disk_size γ (groups γ s.memory)) ready.valid.disk in
        let times : (leb (last_time γ s.memory) now && leb now latest_time) ≡ true =
        rw (le-leb (last_time γ s.memory) now ready.later, le-leb now latest_time ready.early) in
        let range = lt-ltb block (data_blocks γ (groups γ s.memory)) l in
        let lengths : (eqb (length content) (content_length γ (Change u)) && (eqb (length proof) (proof_size γ) && eqb (length answer) (answer_size γ))) ≡ true =
        rw (
          eq-eqb (length content) (content_length γ (Change u)) ec,
          eq-eqb (length proof) (proof_size γ) ep,
          eq-eqb (length answer) (answer_size γ) ea,
        ) in
        yes_accepted (first_questions γ (Change u) s (command_of 0 block now 0 content proof answer))
        (ready.valid.memory, (disk, (refl, (times, (range, (lengths, tt))))))

    -- the command was given, and left r and box t
    stepped : (r : ℕ) (t : Box) → r ≡ (step γ s (given γ s o)).number → t ≡ (step γ s (given γ s o)).box → carried_of r t ≡ carried_out γ s (o ∷ [])
    unfolding carried_out
    stepped r t er et =
        let c = given γ s o in
        same_or_not (step γ s c).number 0 (λ a. ap₂ carried_of (er ∙ a) et ∙ sym (carried_on γ s o [] a))
        (λ n.
        ap₂ carried_of er (et ∙ (refused_unaltered σ s c (λ z. n (step_number σ s c ∙ z))).box)
        ∙ sym (carried_stops γ s o [] n))

    pub was_given : (r : ℕ) (memory disk proof answer : List ℕ)
        → proof ≡ tagged γ s.memory (group_of γ block) (current_page γ s (group_of γ block))
        → ComesTo γ (Change u) s (command_of 0 block now 0 content proof (repeated (answer_size γ) 0)) (outcome_of r memory disk answer)
        → carried_of r (box_of memory disk) ≡ carried_out γ s (o ∷ [])
    was_given r memory disk proof answer ep comes =
        let zeros = repeated (answer_size γ) 0 in
        let left : outcome_of r memory disk answer ≡ step γ s (given γ s o) =
        comes (kind_number u) (value_of u) (order_kind σ u)
        ∙ ap (λ (p : List ℕ). step γ s (command_of (kind_number u) block now (value_of u) content p zeros)) ep in
        stepped r (box_of memory disk) (ap (λ (x : Outcome). x.number) left) (ap (λ (x : Outcome). x.box) left)
