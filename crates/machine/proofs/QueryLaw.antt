-- Laws of a query: what the questions' yes says of one, and that it sets the last time where it is accepted and changes nothing where it is
-- not. Assumes nothing.
use mathlib.Core.Path.{◌≡◌, refl, ap, sym, subst, ◌∙◌}
use mathlib.Core.Bool.{true, ◌&&◌}
use mathlib.Core.Logic.{◌⊎◌, inl, inr}
use mathlib.Core.List.{List, [], ◌∷◌, all}
use mathlib.Mathlib.Data.Bool.Basic.{and_intro, and_elim_left, and_elim_right}
use Prim.Native.Nat.{ℕ, ◌*◌, ◌≤◌}
use native.Mathlib.Omega.{arith}
use borrow.Author.Tests.{eq-eqb, ne_eqb, eqb-true, leb-true, le-leb}
use lib.Dec.{eqb, ltb, leb}
use lib.ListN.{length}
use Rattle.lockpage.specs.Geometry.{Geometry, Proper}
use Rattle.addressing.specs.Map.{data_blocks}
use Rattle.memory.specs.Memory.{groups}
use Rattle.validity.proofs.ValidLaw.{is_valid_is}
use Rattle.machine.specs.Command.{Box}
use Rattle.machine.specs.Question.{Question, question1, question2, question4, first_no, HasYes, AllYes}
use Rattle.machine.specs.Step.{timed}
use Rattle.machine.specs.Query.{Query, QueryOutcome, query_outcome_of, number_size, most_numbers, number_count, numbers, shown_size, query_questions}
use Rattle.machine.specs.Query.{shown_states, pages_read, question12, list_question5, list_question6, query_refusal, query_accepted, query_step, AcceptedQuery}
use Rattle.machine.specs.Claims.{ValidBox, Unaltered}
use Rattle.machine.specs.QueryClaims.{IsList}
use Rattle.machine.proofs.CaseLaw.{same_or_not}
use Rattle.machine.proofs.QuestionLaw.{numbered_to, accepted_yes, passes_on}
use Rattle.machine.proofs.PassedLaw.{Timely, timely, timely_timed}

-- ---- the list

-- one that question 12 lets pass is of as many numbers as are counted
pub list_yes : (blocks : List ℕ) → HasYes (question12 blocks) → IsList blocks (number_count blocks)
list_yes blocks h =
    let n = number_count blocks in
    let whole = eqb (length blocks) (number_size * n) in
    let size = and_elim_right whole (leb 1 n && leb n most_numbers) h in
    record {
      some = leb-true 1 n (and_elim_left (leb 1 n) (leb n most_numbers) size);
      few = leb-true n most_numbers (and_elim_right (leb 1 n) (leb n most_numbers) size);
      whole = eqb-true (length blocks) (number_size * n) (and_elim_left whole (leb 1 n && leb n most_numbers) h);
    }

-- and a list of n numbers is one of as many as are counted, and passes
pub list_counted : (blocks : List ℕ) (n : ℕ) → IsList blocks n → number_count blocks ≡ n
unfolding number_count
list_counted blocks n h = omega (arith, h.whole)

pub list_passes : (blocks : List ℕ) (n : ℕ) → IsList blocks n → HasYes (question12 blocks)
list_passes blocks n h =
    let counted = list_counted blocks n h in
    let k = number_count blocks in
    and_intro (eq-eqb (length blocks) (number_size * k) (omega (arith, h.whole)))
    (and_intro (le-leb 1 k (omega (arith, h.some))) (le-leb k most_numbers (omega (arith, h.few))))

-- the last question
abbrev pub from_sixth : Query → List Question
from_sixth q = list_question6 q.blocks q.answer ∷ []

-- γ is the box's geometry
module _ (γ : Geometry) where
  -- the last two questions
  abbrev pub from_fifth : Box → Query → List Question
  from_fifth s q = list_question5 γ (groups γ s.memory) (numbers q.blocks) ∷ from_sixth q

  -- what is known where a query is carried out in box s
  pub record QueryPassed (s : Box) (q : Query) : Type 0 where
    pub timely : Timely γ s q.now
    pub whole : length q.blocks ≡ number_size * number_count q.blocks
    pub some : 1 ≤ number_count q.blocks
    pub few : number_count q.blocks ≤ most_numbers
    pub range : all (numbers q.blocks) (λ a. ltb a (data_blocks γ (groups γ s.memory))) ≡ true
    pub answer : length q.answer ≡ shown_size * number_count q.blocks

-- γ is any proper geometry
module _ {γ : Geometry} (σ : Proper γ) where
  -- ---- from the questions

  -- one that 1, 2 and 4 let pass is left to 12, 5 and 6
  pub from_twelfth : (s : Box) (q : Query) → AllYes (question1 γ s.memory ∷ question2 γ s.memory s.disk ∷ question4 γ s.memory q.now ∷ [])
      → query_refusal γ s q ≡ first_no (question12 q.blocks ∷ from_fifth γ s q)
  unfolding query_refusal
  from_twelfth s q h =
      passes_on (question1 γ s.memory ∷ question2 γ s.memory s.disk ∷ question4 γ s.memory q.now ∷ [])
      (question12 q.blocks ∷ from_fifth γ s q) h

  pub query_yes : (s : Box) (q : Query) → query_refusal γ s q ≡ 0 → AllYes (query_questions γ s q)
  unfolding query_refusal numbered_to
  query_yes s q r = accepted_yes 12 (query_questions γ s q) refl r

  pub query_passed : (s : Box) (q : Query) → query_refusal γ s q ≡ 0 → QueryPassed γ s q
  query_passed s q r =
      let h = query_yes s q r in
      let list = list_yes q.blocks h.1.1.1.0 in
      record {
        timely = timely σ s q.now h.0 h.1.0 h.1.1.0;
        whole = list.whole;
        some = list.some;
        few = list.few;
        range = h.1.1.1.1.0;
        answer = eqb-true (length q.answer) (shown_size * number_count q.blocks) h.1.1.1.1.1.0;
      }

  -- ---- the step

  pub query_accepted_lem : (s : Box) (q : Query) → query_refusal γ s q ≡ 0 → query_step γ s q ≡ query_accepted γ s q
  unfolding query_step
  query_accepted_lem s q r = rw (query_step, eq-eqb (query_refusal γ s q) 0 r)

  pub query_refused : (s : Box) (q : Query) → (query_refusal γ s q ≡ 0 → ⊥)
      → query_step γ s q ≡ query_outcome_of (query_refusal γ s q) 0 s q.answer
  unfolding query_step
  query_refused s q n = rw (query_step, ne_eqb (query_refusal γ s q) 0 n)

  -- the number answered is that of the first no
  pub query_number : (s : Box) (q : Query) → (query_step γ s q).number ≡ query_refusal γ s q
  unfolding query_accepted
  query_number s q =
      same_or_not (query_refusal γ s q) 0
      (λ r. ap (λ (o : QueryOutcome). o.number) (query_accepted_lem s q r) ∙ sym r)
      (λ n. ap (λ (o : QueryOutcome). o.number) (query_refused s q n))

  pub query_accepts : (s : Box) (q : Query) → AcceptedQuery γ s q → query_refusal γ s q ≡ 0
  query_accepts s q a = sym (query_number s q) ∙ a

  -- what an accepted one leaves is the box with its last time set
  pub query_times : (s : Box) (q : Query) → query_refusal γ s q ≡ 0 → (query_step γ s q).box ≡ timed γ s q.now
  unfolding query_accepted
  query_times s q r = ap (λ (o : QueryOutcome). o.box) (query_accepted_lem s q r)

  -- and its answer what is shown for each number, with the pages counted
  pub query_answers : (s : Box) (q : Query) → query_refusal γ s q ≡ 0
      → (query_step γ s q).answer ≡ shown_states γ (timed γ s q.now) q.now (numbers q.blocks)
  unfolding query_accepted
  query_answers s q r = ap (λ (o : QueryOutcome). o.answer) (query_accepted_lem s q r)

  pub query_counts : (s : Box) (q : Query) → query_refusal γ s q ≡ 0 → (query_step γ s q).pages ≡ pages_read γ (numbers q.blocks)
  unfolding query_accepted
  query_counts s q r = ap (λ (o : QueryOutcome). o.pages) (query_accepted_lem s q r)

  -- a refusal leaves all as it was
  pub query_unaltered : (s : Box) (q : Query) → (query_refusal γ s q ≡ 0 → ⊥)
      → Unaltered s (query_step γ s q).box q.answer (query_step γ s q).answer × ((query_step γ s q).pages ≡ 0)
  query_unaltered s q n =
      let same = query_refused s q n in (
        record { box = ap (λ (o : QueryOutcome). o.box) same; answer = ap (λ (o : QueryOutcome). o.answer) same },
        ap (λ (o : QueryOutcome). o.pages) same,
      )

  pub query_or_same : (s : Box) (q : Query) → (query_refusal γ s q ≡ 0) ⊎ ((query_step γ s q).box ≡ s)
  query_or_same s q =
      same_or_not (query_refusal γ s q) 0 (λ r. inl r) (λ n. inr (query_unaltered s q n).0.box)

  pub query_valid : (s : Box) (q : Query) → query_refusal γ s q ≡ 0 → ValidBox γ (query_step γ s q).box
  query_valid s q r =
      let known = timely_timed σ s q.now (query_passed s q r).timely in
      subst (ValidBox γ) (sym (query_times s q r)) (record { memory = is_valid_is σ (timed γ s q.now).memory known.memory; disk = known.disk })
