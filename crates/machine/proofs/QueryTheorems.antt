-- The claims of specs/QueryClaims.antt and specs/NotFree.antt hold. Assumes nothing.
use mathlib.Core.Path.{◌≡◌, refl, ap, sym, subst, ◌∙◌}
use mathlib.Core.List.{List, [], ◌∷◌}
use Prim.Native.Nat.{ℕ}
use native.Mathlib.Omega.{arith}
use borrow.Author.Tests.{eqb-true}
use lib.ListN.{length}
use Rattle.octets.specs.Part.{AreBytes}
use Rattle.lockpage.specs.Geometry.{Geometry, Proper, base, present}
use Rattle.lockpage.proofs.GeometryLaw.{base_proper, present_proper}
use Rattle.addressing.specs.Map.{disk_size}
use Rattle.memory.specs.Memory.{last_time, groups}
use Rattle.memory.proofs.RangeLaw.{with_last_time_bytes}
use Rattle.validity.proofs.ValidLaw.{facts}
use Rattle.machine.specs.Command.{Box}
use Rattle.machine.specs.Question.{question1, question2, question4}
use Rattle.machine.specs.Step.{timed}
use Rattle.machine.specs.Query.{Query, number_count, block_number, numbers, question12, list_question5, list_question6, query_questions}
use Rattle.machine.specs.Query.{query_refusal, query_step}
use Rattle.machine.specs.Claims.{ByteBox, SameLengths}
use Rattle.machine.specs.QueryClaims.{PapersQuerySizes, QueryPassesIfAllYes, QueryNumberIsFirstNo, QueryNumbers, InvalidRefusesQuery}
use Rattle.machine.specs.QueryClaims.{QueryRefusalAltersNothing, QuerySetsTime, QueryKeepsBytes, QueryKeepsLengths, QueryCountsPages, QueryShowsEntries}
use Rattle.machine.specs.NotFree.{ProtectedNotFree}
use Rattle.machine.proofs.CaseLaw.{same_or_not}
use Rattle.machine.proofs.QuestionLaw.{numbered_to, passes_if, answers_first_no, stops_within}
use Rattle.machine.proofs.StepLaw.{unaltered_bytes, unaltered_lengths}
use Rattle.machine.proofs.PassedLaw.{timed_reads}
use Rattle.machine.proofs.ListedLaw.{listed_length, shown_states_length, shown_states_are}
use Rattle.machine.proofs.QueryLaw.{query_passed, query_number, query_accepts, query_times, query_answers, query_unaltered, query_valid}
use Rattle.machine.proofs.QueryNumberLaw.{number_answered}
use Rattle.machine.proofs.PagesLaw.{pages_counted}
use Rattle.machine.proofs.QueryShownLaw.{shows_as}
use Rattle.machine.proofs.NotFreeLaw.{both_never_free}

pub papers_query_sizes : PapersQuerySizes
papers_query_sizes = record { number = refl; most = refl; shown = refl }

-- γ is any proper geometry
module _ {γ : Geometry} (σ : Proper γ) where
  -- ---- the questions

  pub query_passes_if_all_yes : QueryPassesIfAllYes γ
  unfolding QueryPassesIfAllYes query_refusal numbered_to
  query_passes_if_all_yes s q = passes_if 12 (query_step γ s q).number (query_questions γ s q) refl (query_number σ s q)

  pub query_number_is_first_no : QueryNumberIsFirstNo γ
  unfolding QueryNumberIsFirstNo query_refusal
  query_number_is_first_no s q = answers_first_no (query_step γ s q).number (query_questions γ s q) (query_number σ s q)

  pub query_numbers : QueryNumbers γ
  unfolding QueryNumbers
  query_numbers s q v later early = number_answered σ s q v later early

  pub invalid_refuses_query : InvalidRefusesQuery γ
  unfolding InvalidRefusesQuery query_refusal numbered_to
  invalid_refuses_query s q n =
      let h =
      stops_within 2 (question1 γ s.memory ∷ question2 γ s.memory s.disk ∷ [])
      (question4 γ s.memory q.now
      ∷ question12 q.blocks
      ∷ list_question5 γ (groups γ s.memory) (numbers q.blocks)
      ∷ list_question6 q.blocks q.answer
      ∷ [])
      refl
      (λ y. n (record { memory = y.0; disk = eqb-true (length s.disk) (disk_size γ (groups γ s.memory)) y.1.0 })) in
      (omega (arith, h.0, query_number σ s q), omega (arith, h.1, query_number σ s q))

  -- ---- what is left

  pub query_refusal_alters_nothing : QueryRefusalAltersNothing γ
  unfolding QueryRefusalAltersNothing
  query_refusal_alters_nothing s q n = query_unaltered σ s q (λ e. n (query_number σ s q ∙ e))

  pub query_sets_time : QuerySetsTime γ
  unfolding QuerySetsTime timed
  query_sets_time s q a =
      let r = query_accepts σ s q a in
      let same = query_times σ s q r in
      record {
        only = same;
        time = ap (λ (t : Box). last_time γ t.memory) same ∙ (timed_reads σ s q.now (query_passed σ s q r).timely).time;
        disk = ap (λ (t : Box). t.disk) same;
        valid = query_valid σ s q r;
      }

  pub query_keeps_bytes : QueryKeepsBytes γ
  unfolding QueryKeepsBytes timed
  query_keeps_bytes s q b d =
      same_or_not (query_refusal γ s q) 0
      (λ r.
      record {
        box =
            subst ByteBox (sym (query_times σ s q r))
            (record { memory = with_last_time_bytes σ s.memory b.memory q.now; disk = b.disk });
        answer =
            subst (λ (l : List ℕ). AreBytes l) (sym (query_answers σ s q r))
            (shown_states_are σ (timed γ s q.now) q.now (numbers q.blocks));
      })
      (λ n. unaltered_bytes s (query_step γ s q).box q.answer (query_step γ s q).answer (query_unaltered σ s q n).0 b d)

  -- the lengths that the questions ask for are those after
  accepted_lengths : (s : Box) (q : Query) → query_refusal γ s q ≡ 0 → SameLengths s (query_step γ s q).box q.answer (query_step γ s q).answer
  unfolding timed
  accepted_lengths s q r =
      let known = query_passed σ s q r in
      record {
        memory = (facts σ (query_step γ s q).box.memory (query_valid σ s q r).memory).size ∙ sym known.timely.memory.size;
        disk = ap (λ (t : Box). length t.disk) (query_times σ s q r);
        answer =
            ap (λ (l : List ℕ). length l) (query_answers σ s q r)
            ∙ shown_states_length σ (timed γ s q.now) q.now (numbers q.blocks)
            ∙ omega (arith, listed_length (block_number q.blocks) 0 (number_count q.blocks), known.answer);
      }

  pub query_keeps_lengths : QueryKeepsLengths γ
  unfolding QueryKeepsLengths
  query_keeps_lengths s q =
      same_or_not (query_refusal γ s q) 0 (accepted_lengths s q)
      (λ n. unaltered_lengths s (query_step γ s q).box q.answer (query_step γ s q).answer (query_unaltered σ s q n).0)

  -- ---- pages, and what is shown

  pub query_counts_pages : QueryCountsPages γ
  unfolding QueryCountsPages
  query_counts_pages s q a = pages_counted σ s q (query_accepts σ s q a)

  pub query_shows_entries : QueryShowsEntries γ
  unfolding QueryShowsEntries
  query_shows_entries s q a i h value answer l = shows_as σ s q (query_accepts σ s q a) i h value answer l

  -- ---- specs/NotFree.antt

  pub protected_not_free : ProtectedNotFree γ
  unfolding ProtectedNotFree
  protected_not_free s b xs ys bytes n u v = both_never_free σ s b xs ys bytes n u v

-- ---- of document 01's box, and of the box that the code runs

pub base_protected_not_free : ProtectedNotFree base
base_protected_not_free = protected_not_free base_proper

pub present_protected_not_free : ProtectedNotFree present
present_protected_not_free = protected_not_free present_proper
