-- What the questions' yes says of an accepted command, as facts. Assumes nothing.
use mathlib.Core.Path.{◌≡◌, ap, sym, subst, ◌∙◌}
use mathlib.Core.Bool.{false, not, false≢true, true, ◌&&◌}
use mathlib.Mathlib.Data.Bool.Basic.{and_elim_left, and_elim_right}
use Prim.Native.Nat.{ℕ, ◌≤◌, ◌<◌}
use native.Mathlib.Omega.{arith}
use borrow.Author.Tests.{eqb-true, leb-true, ltb-true}
use lib.Dec.{eqb, leb}
use lib.ListN.{length}
use Rattle.octets.specs.Part.{equal}
use Rattle.octets.proofs.EqualLaw.{equal_yes}
use Rattle.lockpage.specs.Geometry.{Geometry, Proper}
use Rattle.lockpage.specs.declared.Update.{Update}
use Rattle.lockpage.specs.State.{state}
use Rattle.lockpage.specs.Update.{latest_time, updated, allowed, within_limit}
use Rattle.addressing.specs.Map.{disk_size, data_blocks, group_of}
use Rattle.addressing.proofs.MapLaw.{group_of_below}
use Rattle.memory.specs.Memory.{salt, count, last_time, groups, held, held_page, with_last_time, update_count}
use Rattle.memory.specs.Claims.{Reads}
use Rattle.memory.proofs.FieldLaw.{time_set}
use Rattle.validity.specs.Valid.{count_limit}
use Rattle.validity.proofs.ValidLaw.{Valid, facts, valid_time}
use Rattle.machine.specs.declared.Kind.{Kind}
use Rattle.machine.specs.declared.Kind.TheVariants.{Change, NewSalt}
use Rattle.machine.specs.Command.{Box, Command, kind_of, proof_size, brought_entry, answer_size}
use Rattle.machine.specs.Question.{question1, question2, question4, question5, content_length, proof_length, questions_to, refusal, HasYes, AllYes}
use Rattle.machine.specs.Step.{timed}
use Rattle.machine.proofs.QuestionLaw.{all_yes}

-- γ is the box's geometry
module _ (γ : Geometry) where
  -- what questions 1, 2 and 4 see to, for a command or a query timed now
  pub record Timely (s : Box) (now : ℕ) : Type 0 where
    pub memory : Valid γ s.memory
    pub disk : length s.disk ≡ disk_size γ (groups γ s.memory)
    pub later : last_time γ s.memory ≤ now
    pub early : now ≤ latest_time

  -- what is known where a command of kind k is carried out in box s, whose last time may have been set to now already
  pub record Passed (k : Kind) (s : Box) (c : Command) : Type 0 where
    pub memory : Valid γ s.memory
    pub disk : length s.disk ≡ disk_size γ (groups γ s.memory)
    pub later : last_time γ s.memory ≤ c.now
    pub early : c.now ≤ latest_time
    pub range : HasYes (question5 γ k (groups γ s.memory) c.block)
    pub content : length c.content ≡ content_length γ k
    pub proof : length c.proof ≡ proof_length γ k
    pub answer : length c.answer ≡ answer_size γ

  -- and where it is an update
  pub record Changes (u : Update) (s : Box) (c : Command) : Type 0 where
    pub range : c.block < data_blocks γ (groups γ s.memory)
    pub proof : length c.proof ≡ proof_size γ
    pub unexhausted : count s.memory (group_of γ c.block) < count_limit
    pub may : allowed u (state c.now (brought_entry γ c)) ≡ true
    pub within : within_limit (updated u c.now (brought_entry γ c)) ≡ true

-- γ is any proper geometry
module _ {γ : Geometry} (σ : Proper γ) where
  -- the update's group is one of the box
  pub changed_group : (u : Update) (s : Box) (c : Command) → Changes γ u s c → group_of γ c.block < groups γ s.memory
  changed_group u s c h = group_of_below σ (groups γ s.memory) c.block h.range

  -- ---- from the questions

  pub timely : (s : Box) (now : ℕ) → HasYes (question1 γ s.memory) → HasYes (question2 γ s.memory s.disk)
      → HasYes (question4 γ s.memory now) → Timely γ s now
  timely s now valid sized times =
      let last = leb (last_time γ s.memory) now in
      let latest = leb now latest_time in
      record {
        memory = facts σ s.memory valid;
        disk = eqb-true (length s.disk) (disk_size γ (groups γ s.memory)) sized;
        later = leb-true (last_time γ s.memory) now (and_elim_left last latest times);
        early = leb-true now latest_time (and_elim_right last latest times);
      }

  pub passed : (k : Kind) (s : Box) (c : Command) → AllYes (questions_to γ k s c) → Passed γ k s c
  passed k s c h =
      let known = timely s c.now h.0 h.1.0 h.1.1.1.0 in
      let lengths = h.1.1.1.1.1.0 in
      let content = eqb (length c.content) (content_length γ k) in
      let proof = eqb (length c.proof) (proof_length γ k) in
      let answer = eqb (length c.answer) (answer_size γ) in
      record {
        memory = known.memory;
        disk = known.disk;
        later = known.later;
        early = known.early;
        range = h.1.1.1.1.0;
        content = eqb-true (length c.content) (content_length γ k) (and_elim_left content (proof && answer) lengths);
        proof = eqb-true (length c.proof) (proof_length γ k) (and_elim_left proof answer (and_elim_right content (proof && answer) lengths));
        answer =
            eqb-true (length c.answer) (answer_size γ) (and_elim_right proof answer (and_elim_right content (proof && answer) lengths));
      }

  pub changes : (u : Update) (s : Box) (c : Command) → AllYes (questions_to γ (Change u) s c) → Changes γ u s c
  changes u s c h =
      let known = passed (Change u) s c h in
      record {
        range = ltb-true c.block (data_blocks γ (groups γ s.memory)) known.range;
        proof = known.proof;
        unexhausted = ltb-true (count s.memory (group_of γ c.block)) count_limit h.1.1.1.1.1.1.1.0;
        may = h.1.1.1.1.1.1.1.1.0;
        within = h.1.1.1.1.1.1.1.1.1.0;
      }

  -- and where it is a new salt
  pub new_salt_other : (s : Box) (c : Command) → AllYes (questions_to γ NewSalt s c) → c.content ≡ salt s.memory → ⊥
  new_salt_other s c h e =
      let same : not (equal c.content (salt s.memory)) ≡ false = ap not (equal_yes c.content (salt s.memory) e) in
      false≢true (sym same ∙ h.1.1.1.1.1.1.1.1.1.1.0)

  -- ---- once the last time is set

  pub in_time : (k : Kind) (s : Box) (c : Command) → Passed γ k s c → Timely γ s c.now
  in_time k s c h = record { memory = h.memory; disk = h.disk; later = h.later; early = h.early }

  pub timed_reads : (s : Box) (now : ℕ) → Timely γ s now
      → Reads γ (timed γ s now).memory (salt s.memory) (count s.memory) now (groups γ s.memory) (held γ s.memory) (update_count γ s.memory)
      (held_page γ s.memory)
  unfolding timed
  timed_reads s now h = time_set σ s.memory h.memory.size now (omega (arith, h.early))

  pub timely_timed : (s : Box) (now : ℕ) → Timely γ s now → Timely γ (timed γ s now) now
  unfolding timed
  timely_timed s now h =
      let r = timed_reads s now h in
      record {
        memory = facts σ (with_last_time γ s.memory now) (valid_time σ s.memory h.memory now h.early);
        disk = h.disk ∙ ap (disk_size γ) (sym r.groups);
        later = omega (arith, r.time);
        early = h.early;
      }

  pub passed_timed : (k : Kind) (s : Box) (c : Command) → Passed γ k s c → Passed γ k (timed γ s c.now) c
  passed_timed k s c h =
      let before = in_time k s c h in
      let after = timely_timed s c.now before in
      let r = timed_reads s c.now before in
      record {
        memory = after.memory;
        disk = after.disk;
        later = after.later;
        early = after.early;
        range = subst (λ (g : ℕ). HasYes (question5 γ k g c.block)) (sym r.groups) h.range;
        content = h.content;
        proof = h.proof;
        answer = h.answer;
      }

  pub changes_timed : (u : Update) (s : Box) (c : Command) → Passed γ (Change u) s c → Changes γ u s c → Changes γ u (timed γ s c.now) c
  changes_timed u s c h q =
      let r = timed_reads s c.now (in_time (Change u) s c h) in
      let counted : count (timed γ s c.now).memory (group_of γ c.block) ≡ count s.memory (group_of γ c.block) =
      r.count (group_of γ c.block) (omega (arith, changed_group u s c q, h.memory.most)) in
      record {
        range = subst (λ (g : ℕ). c.block < data_blocks γ g) (sym r.groups) q.range;
        proof = q.proof;
        unexhausted = omega (arith, counted, q.unexhausted);
        may = q.may;
        within = q.within;
      }

  -- ---- of an accepted command

  pub accepted_changes : (k : Kind) (s : Box) (c : Command) → kind_of c ≡ k → refusal γ s c ≡ 0
      → (u : Update) → k ≡ Change u → Changes γ u (timed γ s c.now) c
  accepted_changes k s c e r u j =
      let h = all_yes σ (Change u) s c (e ∙ j) r in
      changes_timed u s c (passed (Change u) s c h) (changes u s c h)
