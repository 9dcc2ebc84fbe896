-- A command as the code takes it: its kind is found, the questions are asked, and its kind's effect is carried out. Assumes nothing.
use mathlib.Core.Path.{◌≡◌, refl, ap, sym, subst, ◌∙◌}
use mathlib.Core.Bool.{false≢true}
use mathlib.Core.List.{List, [], ◌∷◌}
use Prim.Native.Nat.{ℕ}
use borrow.Author.Tests.{ltb-true}
use lib.ListN.{length}
use Rattle.lockpage.specs.Geometry.{Geometry, Proper}
use Rattle.lockpage.specs.declared.Update.{Update}
use Rattle.addressing.specs.Map.{data_blocks}
use Rattle.memory.specs.Layout.{salt_size, memory_size}
use Rattle.memory.specs.Memory.{groups}
use Rattle.machine.specs.declared.Kind.{Kind}
use Rattle.machine.specs.declared.Kind.TheVariants.{Read, Entry, Page, Change, Sync, Restart, NewSalt, Identify, Unknown}
use Rattle.machine.specs.declared.Refusal.{Refusal}
use Rattle.machine.specs.Refusal.{refusal_number}
use Rattle.machine.specs.Command.{Box, Command, box_of, command_of, outcome_of, kind_numbered}
use Rattle.machine.specs.Question.{question11, questions, questions_to, first_no, refusal, AllYes}
use Rattle.machine.specs.Effect.{change, new_salt, effect}
use Rattle.machine.specs.Step.{timed, done, accepted}
use Rattle.machine.proofs.QuestionLaw.{all_numbered, accepted_yes}
use Rattle.machine.proofs.RefusalLaw.{some_number}
use Rattle.machine.proofs.PassedLaw.{passed, changes}
use Rattle.machine.proofs.StepLaw.{step_accepted, refused_of}
use Rattle.machine.specs.Claims.{ValidBox}
use Rattle.answers.specs.Ready.{BlockReady, GroupReady}
use Rattle.effects.specs.Ready.{UpkeepReady, RestartReady, ChangeReady}
use Rattle.questions.specs.Ready.{UpdateReady}
use Rattle.questions.specs.FirstQuestions.{first_questions}
use Rattle.questions.specs.ChangeQuestions.{change_questions}
use Rattle.questions.proofs.RefusalLaw.{rest, to_rest, first_refused, change_left, salt_left, salt_size_is, update_ready as ready_to_update}
use Rattle.controller.specs.ByKind.{ComesTo}

-- γ is any proper geometry
module _ {γ : Geometry} (σ : Proper γ) where
  -- ---- a command of kind k that no question refuses

  pub all_yes : (k : Kind) (s : Box) (c : Command) → first_no (questions_to γ k s c) ≡ 0 → AllYes (questions_to γ k s c)
  all_yes k s c e = accepted_yes 11 (questions_to γ k s c) (all_numbered σ k s c) e

  -- one to which the first six say yes, of kind j, which is asked no more
  pub none_left : (k j : Kind) (s : Box) (c : Command) → first_no (first_questions γ k s c) ≡ 0 → k ≡ j → first_no (rest γ j s c) ≡ 0
      → first_no (questions_to γ j s c) ≡ 0
  none_left k j s c z e none = sym (to_rest σ j s c (subst (λ (i : Kind). first_no (first_questions γ i s c) ≡ 0) e z)) ∙ none

  -- what the effects ask for
  valid_box : (k : Kind) (s : Box) (c : Command) → AllYes (questions_to γ k s c) → ValidBox γ s
  valid_box k s c h = record { memory = h.0; disk = (passed σ k s c h).disk }

  pub read_ready : (s : Box) (c : Command) → AllYes (questions_to γ Read s c) → BlockReady γ s c.block c.answer
  read_ready s c h =
      record {
        box = valid_box Read s c h;
        block = ltb-true c.block (data_blocks γ (groups γ s.memory)) (passed σ Read s c h).range;
        answer_size_is = (passed σ Read s c h).answer;
      }

  pub entry_ready : (s : Box) (c : Command) → AllYes (questions_to γ Entry s c) → BlockReady γ s c.block c.answer
  entry_ready s c h =
      record {
        box = valid_box Entry s c h;
        block = ltb-true c.block (data_blocks γ (groups γ s.memory)) (passed σ Entry s c h).range;
        answer_size_is = (passed σ Entry s c h).answer;
      }

  pub page_ready : (s : Box) (c : Command) → AllYes (questions_to γ Page s c) → GroupReady γ s c.block c.answer
  page_ready s c h =
      record {
        box = valid_box Page s c h;
        group = ltb-true c.block (groups γ s.memory) (passed σ Page s c h).range;
        answer_size_is = (passed σ Page s c h).answer;
      }

  pub upkeep_ready : (k : Kind) (s : Box) (c : Command) → AllYes (questions_to γ k s c) → UpkeepReady γ s c.now c.answer
  upkeep_ready k s c h = record { box = valid_box k s c h; time = (passed σ k s c h).early; answer_size_is = (passed σ k s c h).answer }

  pub restart_ready : (s : Box) (c : Command) → AllYes (questions_to γ Restart s c) → RestartReady γ s.memory c.now c.answer
  restart_ready s c h = record { memory = h.0; time = (passed σ Restart s c h).early; answer_size_is = (passed σ Restart s c h).answer }

  pub change_ready : (u : Update) (s : Box) (c : Command) → AllYes (questions_to γ (Change u) s c) → ChangeReady γ u s c
  change_ready u s c h =
      let known = changes σ u s c h in
      let all = passed σ (Change u) s c h in
      record {
        box = valid_box (Change u) s c h;
        block = known.range;
        content_size = all.content;
        may = record { time = all.early; proof_size_is = known.proof; limit = known.within };
        unexhausted = known.unexhausted;
        answer_size_is = all.answer;
      }

  -- an unknown kind is refused
  pub unknown_refused : (s : Box) (c : Command) → AllYes (questions_to γ Unknown s c) → ⊥
  unknown_refused s c h = false≢true h.1.1.0

  -- ---- what a command of kind k comes to

  module _ (k : Kind) (m disk : List ℕ) (a now : ℕ) (content proof answer : List ℕ) where
    abbrev box : Box
    box = box_of m disk

    -- the command, its number and value left out
    abbrev bare : Command
    bare = command_of 0 a now 0 content proof answer

    -- with a number and a value that name the kind
    module _ (kind value : ℕ) (ek : kind_numbered kind value ≡ k) where
      abbrev named : Command
      named = command_of kind a now value content proof answer

      same_refusal : first_no (questions_to γ k box bare) ≡ refusal γ box named
      unfolding refusal questions
      same_refusal = ap (λ (j : Kind). first_no (questions_to γ j box named)) (sym ek)

      -- an effect does not look at them
      same_effect : (j : Kind) (t : Box) → effect γ j t bare ≡ effect γ j t named
      unfolding effect change
      same_effect Read t = refl
      same_effect Entry t = refl
      same_effect Page t = refl
      same_effect (Change u) t = refl
      same_effect Sync t = refl
      same_effect Restart t = refl
      same_effect NewSalt t = refl
      same_effect Identify t = refl
      same_effect Unknown t = refl

    refused : (n : ℕ) → n ≡ first_no (questions_to γ k box bare) → (n ≡ 0 → ⊥) → ComesTo γ k box bare (outcome_of n m disk answer)
    refused n en h kind value ek = refused_of σ box (named kind value ek) n (en ∙ same_refusal kind value ek) h

    -- the first six refuse it with r
    pub comes_refused : (r : Refusal) → refusal_number r ≡ first_no (first_questions γ k box bare)
        → ComesTo γ k box bare (outcome_of (refusal_number r) m disk answer)
    comes_refused r e =
        refused (refusal_number r) (e ∙ first_refused σ k box bare (λ z. some_number r (e ∙ z))) (some_number r)

    carried : (memory after r : List ℕ) → first_no (questions_to γ k box bare) ≡ 0
        → outcome_of 0 memory after r ≡ accepted γ (λ t. effect γ k t bare) box now → ComesTo γ k box bare (outcome_of 0 memory after r)
    carried memory after r z e kind value ek =
        e
        ∙ ap (done γ disk) (same_effect kind value ek k (timed γ box now))
        ∙ sym (step_accepted σ k box (named kind value ek) ek (sym (same_refusal kind value ek) ∙ z))

  -- one to which the first six say yes, of kind j, which is asked no more
  module _ (k j : Kind) (m disk : List ℕ) (a now : ℕ) (content proof answer : List ℕ)
      (z : first_no (first_questions γ k (box_of m disk) (command_of 0 a now 0 content proof answer)) ≡ 0) (e : k ≡ j)
      (none : first_no (rest γ j (box_of m disk) (command_of 0 a now 0 content proof answer)) ≡ 0) where
    abbrev told_box : Box
    told_box = box_of m disk

    abbrev bare_told : Command
    bare_told = command_of 0 a now 0 content proof answer

    pub asked : AllYes (questions_to γ j told_box bare_told)
    asked = all_yes j told_box bare_told (none_left k j told_box bare_told z e none)

    pub told_made : (memory after r : List ℕ) → outcome_of 0 memory after r ≡ accepted γ (λ t. effect γ j t bare_told) told_box now
        → ComesTo γ k told_box bare_told (outcome_of 0 memory after r)
    told_made memory after r eo kind value ek =
        carried j m disk a now content proof answer memory after r (none_left k j told_box bare_told z e none) eo kind value (ek ∙ e)

  -- an update to which the first six say yes
  module _ (u : Update) (m disk : List ℕ) (a now : ℕ) (content proof answer : List ℕ)
      (z : first_no (first_questions γ (Change u) (box_of m disk) (command_of 0 a now 0 content proof answer)) ≡ 0) where
    abbrev update_box : Box
    update_box = box_of m disk

    abbrev bare_update : Command
    bare_update = command_of 0 a now 0 content proof answer

    abbrev update_asked : ℕ
    update_asked = first_no (change_questions γ u m a now proof)

    pub update_ready : UpdateReady γ m a now proof
    update_ready = ready_to_update σ u update_box bare_update z

    -- 7 to 10 refuse it with r
    pub update_refused : (r : Refusal) → refusal_number r ≡ update_asked
        → ComesTo γ (Change u) update_box bare_update (outcome_of (refusal_number r) m disk answer)
    update_refused r e =
        refused (Change u) m disk a now content proof answer (refusal_number r) (e ∙ change_left σ u update_box bare_update z) (some_number r)

    -- they say yes too
    update_accepted : 0 ≡ update_asked → first_no (questions_to γ (Change u) update_box bare_update) ≡ 0
    update_accepted e = sym (e ∙ change_left σ u update_box bare_update z)

    pub update_passed : 0 ≡ update_asked → ChangeReady γ u update_box bare_update
    update_passed e = change_ready u update_box bare_update (all_yes (Change u) update_box bare_update (update_accepted e))

    pub update_made : 0 ≡ update_asked → (memory after r : List ℕ)
        → outcome_of 0 memory after r ≡ accepted γ (λ t. change γ u t bare_update) update_box now
        → ComesTo γ (Change u) update_box bare_update (outcome_of 0 memory after r)
    unfolding effect
    update_made e memory after r eo = carried (Change u) m disk a now content proof answer memory after r (update_accepted e) eo

  -- a new salt to which they say yes
  module _ (m disk : List ℕ) (a now : ℕ) (content proof answer : List ℕ)
      (z : first_no (first_questions γ NewSalt (box_of m disk) (command_of 0 a now 0 content proof answer)) ≡ 0) where
    abbrev salt_box : Box
    salt_box = box_of m disk

    abbrev bare_salt : Command
    bare_salt = command_of 0 a now 0 content proof answer

    abbrev salt_asked : ℕ
    salt_asked = first_no (question11 γ NewSalt m content ∷ [])

    pub salt_sized : length m ≡ memory_size γ
    salt_sized = salt_size_is σ salt_box bare_salt z

    -- 11 refuses it with r
    pub salt_refused : (r : Refusal) → refusal_number r ≡ salt_asked
        → ComesTo γ NewSalt salt_box bare_salt (outcome_of (refusal_number r) m disk answer)
    salt_refused r e =
        refused NewSalt m disk a now content proof answer (refusal_number r) (e ∙ salt_left σ salt_box bare_salt z) (some_number r)

    -- it says yes too
    salt_accepted : 0 ≡ salt_asked → first_no (questions_to γ NewSalt salt_box bare_salt) ≡ 0
    salt_accepted e = sym (e ∙ salt_left σ salt_box bare_salt z)

    pub salt_passed : 0 ≡ salt_asked → UpkeepReady γ salt_box now answer × (length content ≡ salt_size)
    salt_passed e =
        let all = all_yes NewSalt salt_box bare_salt (salt_accepted e) in
        (upkeep_ready NewSalt salt_box bare_salt all, (passed σ NewSalt salt_box bare_salt all).content)

    pub salt_made : 0 ≡ salt_asked → (memory after r : List ℕ)
        → outcome_of 0 memory after r ≡ accepted γ (λ t. new_salt γ t content) salt_box now
        → ComesTo γ NewSalt salt_box bare_salt (outcome_of 0 memory after r)
    unfolding effect
    salt_made e memory after r eo = carried NewSalt m disk a now content proof answer memory after r (salt_accepted e) eo

pub ruleset update_steps = (update_ready, update_refused, update_passed)
