-- The claims of specs/ hold. Assumes nothing.
use mathlib.Core.Path.{◌≡◌, refl, ap, sym, ◌∙◌}
use native.Mathlib.Omega.{arith}
use borrow.Author.Tests.{eqb-true}
use lib.ListN.{length}
use Rattle.lockpage.specs.Geometry.{Geometry, Proper, base, present}
use Rattle.lockpage.specs.Entry.{time_of_write}
use Rattle.lockpage.specs.Page.{entry_at}
use Rattle.lockpage.proofs.GeometryLaw.{base_proper, present_proper}
use Rattle.lockpage.proofs.UpdateLaw.{expiry_some}
use Rattle.addressing.specs.Map.{disk_size}
use Rattle.memory.specs.Memory.{last_time, groups}
use Rattle.validity.proofs.ValidLaw.{facts}
use Rattle.machine.specs.Command.{Box, Command, kind_of}
use Rattle.machine.specs.Question.{refusal, questions}
use Rattle.machine.specs.Step.{step, padded}
use Rattle.machine.specs.Claims.{PapersBufferSizes, PassesIfAllYes, KindsAreOneToTen, NumberIsFirstNo, RefusalAltersNothing, AcceptedLeavesValid}
use Rattle.machine.specs.Claims.{StaysValid, InvalidRefuses, StepKeepsBytes, SameLengths, StepKeepsLengths, FormattingFormats}
use Rattle.machine.specs.After.{AcceptedDoes, NewSaltDiffers, HeldPageFirst, LeavingPageLast, AnswersServe}
use Rattle.machine.specs.Protection.{start_content, start_entry, FrozenUnder, Demand3, ReadsAlike, EntriesAlike}
use Rattle.machine.specs.Leaving.{RestartLosesFew, FollowedUpdateStays, LeftPageServes}
use Rattle.machine.specs.Shortcuts.{Shortcuts}
use Rattle.machine.specs.EdgeValues.{EdgeValues}
use Rattle.machine.specs.Expiry.{ProtectedThroughLock, lock_of, UnfrozenNotFree, UnfrozenThenFree}
use Rattle.machine.specs.Example.{PremisesMet, ExpiryMet, CountingMet}
use Rattle.machine.specs.ExampleLeaving.{LeavingMet}
use Rattle.machine.proofs.CaseLaw.{same_or_not}
use Rattle.machine.proofs.KindLaw.{one_to_ten, new_salt_kind}
use Rattle.machine.proofs.QuestionLaw.{passes_if, answers_first_no, refused_by_second, all_numbered, all_yes}
use Rattle.machine.proofs.StepLaw.{unaltered_bytes, unaltered_lengths, refused_by_lem, step_number, accepts, refused_unaltered}
use Rattle.machine.proofs.TagLaw.{message_length}
use Rattle.machine.proofs.PassedLaw.{passed}
use Rattle.machine.proofs.LeavingLaw.{held_first, leaving_last}
use Rattle.machine.proofs.ValidBoxLaw.{accepted_valid, run_valid}
use Rattle.machine.proofs.BytesLaw.{answer_length, accepted_bytes}
use Rattle.machine.proofs.AfterLaw.{accepted_after}
use Rattle.machine.proofs.AfterLaw as AfterLaw
use Rattle.machine.proofs.AnswerLaw.{answer_serves, left_serves}
use Rattle.machine.proofs.LossLaw.{loses_few, followed_stays}
use Rattle.machine.proofs.FormatLaw as format
use Rattle.machine.proofs.ShortcutLaw as shortcut
use Rattle.machine.proofs.EdgeLaw as edge
use Rattle.machine.proofs.ExamplePremises as example
use Rattle.machine.proofs.AlikeLaw.{both_shown, seen_alike}
use Rattle.machine.proofs.ExpiryLaw as expiry
use Rattle.machine.proofs.ExampleExpiry as example-expiry
use Rattle.machine.proofs.ExampleLeaving as example-leaving

-- ---- specs/Claims.antt

pub papers_buffer_sizes : PapersBufferSizes
papers_buffer_sizes =
    record { tag = refl; proof = refl; answer = refl; message = λ m g page l n. message_length base_proper m g page l ∙ omega arith }

-- γ is any proper geometry
module _ {γ : Geometry} (σ : Proper γ) where
  pub passes_if_all_yes : PassesIfAllYes γ
  unfolding PassesIfAllYes refusal questions
  passes_if_all_yes s c = passes_if 11 (step γ s c).number (questions γ s c) (all_numbered σ (kind_of c) s c) (step_number σ s c)

  pub kinds_are_one_to_ten : KindsAreOneToTen γ
  unfolding KindsAreOneToTen
  kinds_are_one_to_ten = one_to_ten σ

  pub number_is_first_no : NumberIsFirstNo γ
  unfolding NumberIsFirstNo refusal
  number_is_first_no s c = answers_first_no (step γ s c).number (questions γ s c) (step_number σ s c)

  pub refusal_alters_nothing : RefusalAltersNothing γ
  unfolding RefusalAltersNothing
  refusal_alters_nothing s c n = refused_unaltered σ s c (λ e. n (step_number σ s c ∙ e))

  pub accepted_leaves_valid : AcceptedLeavesValid γ
  unfolding AcceptedLeavesValid
  accepted_leaves_valid s c a = accepted_valid σ s c (accepts σ s c a)

  pub stays_valid : StaysValid γ
  unfolding StaysValid
  stays_valid = run_valid σ

  pub invalid_refuses : InvalidRefuses γ
  unfolding InvalidRefuses
  invalid_refuses s c n =
      let h =
      refused_by_second σ s c
      (λ y. n (record { memory = y.0; disk = eqb-true (length s.disk) (disk_size γ (groups γ s.memory)) y.1.0 })) in
      (refused_by_lem σ 2 s c h, (refused_unaltered σ s c (λ e. omega (arith, h.0))).box)

  pub step_keeps_bytes : StepKeepsBytes γ
  unfolding StepKeepsBytes
  step_keeps_bytes s c b d =
      same_or_not (refusal γ s c) 0 (λ r. accepted_bytes σ s c r b d)
      (λ n. unaltered_bytes s (step γ s c).box c.answer (step γ s c).answer (refused_unaltered σ s c n) b d.answer)

  -- the lengths that the questions ask for are those after
  accepted_lengths : (s : Box) (c : Command) → refusal γ s c ≡ 0 → SameLengths s (step γ s c).box c.answer (step γ s c).answer
  accepted_lengths s c r =
      let q = passed σ (kind_of c) s c (all_yes σ (kind_of c) s c refl r) in
      let v = accepted_valid σ s c r in
      record {
        memory = (facts σ (step γ s c).box.memory v.memory).size ∙ sym q.memory.size;
        disk = v.disk ∙ ap (disk_size γ) (accepted_after σ s c r).same_groups ∙ sym q.disk;
        answer = answer_length σ s c r ∙ sym q.answer;
      }

  pub step_keeps_lengths : StepKeepsLengths γ
  unfolding StepKeepsLengths
  step_keeps_lengths s c =
      same_or_not (refusal γ s c) 0 (accepted_lengths s c)
      (λ n. unaltered_lengths s (step γ s c).box c.answer (step γ s c).answer (refused_unaltered σ s c n))

  pub formatting_formats : FormattingFormats γ
  unfolding FormattingFormats
  formatting_formats = format.formats σ

  -- ---- specs/After.antt

  pub accepted_does : AcceptedDoes γ
  unfolding AcceptedDoes
  accepted_does s c a = accepted_after σ s c (accepts σ s c a)

  pub new_salt_differs : NewSaltDiffers γ
  unfolding NewSaltDiffers
  new_salt_differs s c a k = AfterLaw.new_salt_differs σ s c (new_salt_kind c.kind c.value k) (accepts σ s c a)

  pub answers_serve : AnswersServe γ
  unfolding AnswersServe
  answers_serve s c a = answer_serves σ s c (accepts σ s c a)

  pub held_page_first : HeldPageFirst γ
  held_page_first = held_first σ

  pub leaving_page_last : LeavingPageLast γ
  leaving_page_last = leaving_last σ

  -- ---- specs/Leaving.antt

  pub restart_loses_few : RestartLosesFew γ
  restart_loses_few = loses_few σ

  pub followed_update_stays : FollowedUpdateStays γ
  followed_update_stays = followed_stays σ

  pub left_page_serves : LeftPageServes γ
  left_page_serves = left_serves σ

  -- ---- specs/Shortcuts.antt

  pub shortcuts : Shortcuts γ
  shortcuts =
      record {
        not_free_before_expiry = shortcut.not_free_before_expiry σ;
        old_page_refused = shortcut.old_page_refused σ;
        lost_page_refused = shortcut.lost_page_refused σ;
        on_no_page = shortcut.on_no_page σ;
        second_unfreeze_refused = shortcut.second_unfreeze_refused σ;
      }

  -- ---- specs/Protection.antt

  pub demand_3 : Demand3 γ
  unfolding Demand3
  demand_3 s b xs ys bytes n u v = both_shown σ s b xs ys bytes n u v

  pub reads_alike : ReadsAlike γ
  unfolding ReadsAlike
  reads_alike = seen_alike σ 1 (λ answer. answer) (λ s b. padded γ (start_content γ s b)) (λ s b during t c h. h.read)

  pub entries_alike : EntriesAlike γ
  unfolding EntriesAlike
  entries_alike = seen_alike σ 2 (λ answer. time_of_write (entry_at answer 0)) (λ s b. time_of_write (start_entry γ s b)) (λ s b during t c h. h.entry)

  -- ---- specs/Expiry.antt

  pub protected_through_lock : ProtectedThroughLock γ
  unfolding ProtectedThroughLock
  protected_through_lock s b xs ys t f some l =
      FrozenUnder f (omega (arith, expiry_some (last_time γ s.memory) (start_entry γ s b).word some))

  pub unfrozen_not_free : UnfrozenNotFree γ
  unfolding UnfrozenNotFree
  unfrozen_not_free s c es x stays =
      let lock = lock_of γ s c.block in
      expiry.unfrozen_not_free σ s c es x _ (λ now l. omega (arith, expiry_some c.now lock x.lock)) stays

  pub unfrozen_then_free : UnfrozenThenFree γ
  unfolding UnfrozenThenFree
  unfrozen_then_free s c es x stays =
      let lock = lock_of γ s c.block in
      expiry.unfrozen_then_free σ s c es x _ (λ now l. omega (arith, expiry_some c.now lock x.lock)) stays

-- ---- specs/EdgeValues.antt and specs/Example.antt

pub edge_values : EdgeValues
edge_values = edge.edge_values

pub premises_met : PremisesMet
premises_met = example.premises_met

pub expiry_met : ExpiryMet
expiry_met = example-expiry.expiry_met

pub counting_met : CountingMet
counting_met = example-expiry.counting_met

pub leaving_met : LeavingMet
leaving_met = example-leaving.leaving_met

-- ---- demand 3 of document 01's box, and of the box that the code runs

pub base_demand_3 : Demand3 base
base_demand_3 = demand_3 base_proper

pub present_demand_3 : Demand3 present
present_demand_3 = demand_3 present_proper
