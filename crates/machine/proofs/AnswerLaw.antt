-- What kinds 1 to 6 answer: the content, the entry on the current page, or that page with the tag that question 7 asks for next. Assumes
-- nothing.
use mathlib.Core.Path.{◌≡◌, refl, ap, sym, ◌∙◌}
use mathlib.Core.List.{List, [], ◌∷◌, ◌++◌, append_assoc}
use Prim.Native.Nat.{ℕ, ◌+◌, ◌-◌, ◌≤◌, ◌<◌}
use native.Mathlib.Omega.{arith}
use borrow.Author.Tests.{ltb-true}
use lib.ListN.{length, length-append}
use Rattle.octets.specs.Part.{part, repeated, equal}
use Rattle.octets.proofs.PartLaw.{part_left, part_right, part_first, part_second}
use Rattle.octets.proofs.EqualLaw.{equal_yes}
use Rattle.lockpage.specs.Geometry.{Geometry, Proper}
use Rattle.lockpage.specs.Size.{entry_size, page_size}
use Rattle.lockpage.specs.declared.Entry.{Entry as PageEntry}
use Rattle.lockpage.specs.declared.Update.{Update}
use Rattle.lockpage.specs.Entry.{EntryFits, entry_bytes}
use Rattle.lockpage.specs.State.{state, state_number, time_left_size, time_left_bytes}
use Rattle.lockpage.specs.Page.{entry_at}
use Rattle.lockpage.proofs.EntryLaw.{entry_bytes_length}
use Rattle.lockpage.proofs.StateLaw.{time_left_bytes_length}
use Rattle.lockpage.proofs.PageLaw.{entry_at_front}
use Rattle.addressing.specs.Map.{group_of, place_of, physical}
use Rattle.disk.specs.Disk.{block}
use Rattle.memory.specs.Memory.{salt, count, groups, held, none}
use Rattle.machine.specs.declared.Kind.{Kind}
use Rattle.machine.specs.declared.Kind.TheVariants.{Read, Entry, Page, Change, Restart}
use Rattle.machine.specs.Command.{Box, Command, Outcome, kind_of, brought_page, brought_tag, answer_size}
use Rattle.machine.specs.Tag.{tag, tagged, current_page, current_entry}
use Rattle.machine.specs.Question.{refusal}
use Rattle.machine.specs.Effect.{entry_answer, stored, effect, read, show_entry, show_page, changed_page, changed_memory, change, state_place}
use Rattle.machine.specs.Step.{step, timed, padded, done}
use Rattle.machine.specs.After.{salt_after, count_after, page_after, Serves, AnswerServes}
use Rattle.machine.specs.Leaving.{LeftPageServes}
use Rattle.machine.proofs.KindLaw.{restart_kind}
use Rattle.machine.proofs.QuestionLaw.{all_yes}
use Rattle.machine.proofs.StepLaw.{step_accepted, padded_full, accepts}
use Rattle.machine.proofs.TagLaw.{tag_same, tagged_length, tagged_page, tagged_tag, current_other, current_length}
use Rattle.machine.proofs.PassedLaw.{passed, in_time, passed_timed, changes, changed_group, accepted_changes}
use Rattle.machine.proofs.EffectLaw.{count_unchanged, changed_length}
use Rattle.machine.proofs.LeavingLaw.{next_same, many_leaves}
use Rattle.machine.proofs.ChangeLaw.{not_none}
use Rattle.machine.proofs.TimedLaw.{current_timed}
use Rattle.machine.proofs.AfterLaw.{accepted_after, own_page, own_left}

-- γ is any proper geometry
module _ {γ : Geometry} (σ : Proper γ) where
  -- ---- kinds 1 and 2

  pub read_answer : (s : Box) (c : Command) → kind_of c ≡ Read → refusal γ s c ≡ 0
      → (step γ s c).answer ≡ padded γ (block γ s.disk (physical γ c.block))
  unfolding done effect read timed
  read_answer s c e r = ap (λ (o : Outcome). o.answer) (step_accepted σ Read s c e r)

  -- kind 2 names what the block has on the current page
  entry_named : (s : Box) (c : Command) → kind_of c ≡ Entry → refusal γ s c ≡ 0
      → (step γ s c).answer ≡ padded γ (entry_answer c.now (current_entry γ s c.block))
  unfolding done effect show_entry
  entry_named s c e r =
      let same = current_timed σ s c.now (in_time σ Entry s c (passed σ Entry s c (all_yes σ Entry s c e r))) (group_of γ c.block) in
      ap (λ (o : Outcome). o.answer) (step_accepted σ Entry s c e r)
      ∙ ap (λ (p : List ℕ). padded γ (entry_answer c.now (entry_at p (place_of γ c.block)))) same

  -- the entry at the start of its answer
  answered_entry : (now : ℕ) (e : PageEntry) → EntryFits e → entry_at (padded γ (entry_answer now e)) 0 ≡ e
  unfolding padded entry_answer
  answered_entry now e f =
      let rest : List ℕ = time_left_bytes now e ++ (state_number (state now e) ∷ []) in
      let zeros : List ℕ = repeated (answer_size γ - length (entry_bytes e ++ rest)) 0 in
      ap (λ (l : List ℕ). entry_at l 0) (append_assoc (entry_bytes e) rest zeros) ∙ entry_at_front e (rest ++ zeros) f

  pub entry_answer_lem : (s : Box) (c : Command) → kind_of c ≡ Entry → refusal γ s c ≡ 0 → EntryFits (current_entry γ s c.block)
      → entry_at (step γ s c).answer 0 ≡ current_entry γ s c.block
  entry_answer_lem s c e r f = ap (λ (l : List ℕ). entry_at l 0) (entry_named s c e r) ∙ answered_entry c.now (current_entry γ s c.block) f

  -- behind it the time left, and the state
  behind_entry : (now : ℕ) (e : PageEntry) (at n : ℕ) → at + n ≤ time_left_size + 1
      → part (padded γ (entry_answer now e)) (entry_size + at) n ≡ part (time_left_bytes now e ++ (state_number (state now e) ∷ [])) at n
  unfolding padded entry_answer
  behind_entry now e at n h =
      let rest : List ℕ = time_left_bytes now e ++ (state_number (state now e) ∷ []) in
      let named : List ℕ = entry_bytes e ++ rest in
      let size : length rest ≡ time_left_size + 1 =
      length-append (time_left_bytes now e) (state_number (state now e) ∷ []) ∙ omega (arith, time_left_bytes_length now e) in
      part_left named (repeated (answer_size γ - length named) 0) (entry_size + at) n
      (omega (arith, length-append (entry_bytes e) rest, entry_bytes_length e))
      ∙ ap (λ (i : ℕ). part named (i + at) n) (sym (entry_bytes_length e))
      ∙ part_right (entry_bytes e) rest at n

  pub left_answer : (s : Box) (c : Command) → kind_of c ≡ Entry → refusal γ s c ≡ 0
      → part (step γ s c).answer entry_size time_left_size ≡ time_left_bytes c.now (current_entry γ s c.block)
  left_answer s c e r =
      let x = current_entry γ s c.block in
      ap (λ (l : List ℕ). part l entry_size time_left_size) (entry_named s c e r)
      ∙ behind_entry c.now x 0 time_left_size (omega arith)
      ∙ part_first (time_left_bytes c.now x) (state_number (state c.now x) ∷ []) time_left_size (time_left_bytes_length c.now x)

  pub state_answer : (s : Box) (c : Command) → kind_of c ≡ Entry → refusal γ s c ≡ 0
      → part (step γ s c).answer state_place 1 ≡ state_number (state c.now (current_entry γ s c.block)) ∷ []
  state_answer s c e r =
      let x = current_entry γ s c.block in
      ap (λ (l : List ℕ). part l state_place 1) (entry_named s c e r)
      ∙ behind_entry c.now x time_left_size 1 (omega arith)
      ∙ part_second (time_left_bytes c.now x) (state_number (state c.now x) ∷ []) time_left_size 1 (time_left_bytes_length c.now x) refl

  -- ---- kinds 3 to 6

  -- an update answers the page that it holds, with the new tag
  pub changed_answer : (u : Update) (s : Box) (c : Command) → kind_of c ≡ Change u → refusal γ s c ≡ 0
      → (step γ s c).answer ≡ tagged γ (step γ s c).box.memory (group_of γ c.block) (changed_page γ u c)
  unfolding done effect change
  changed_answer u s c e r =
      let t = timed γ s c.now in
      let g = group_of γ c.block in
      let m = changed_memory γ t.memory g (changed_page γ u c) in
      let same = step_accepted σ (Change u) s c e r in
      ap (λ (o : Outcome). o.answer) same
      ∙ padded_full σ (tagged γ m g (changed_page γ u c))
      (tagged_length σ m g (changed_page γ u c) (changed_length σ u c (accepted_changes σ (Change u) s c e r u refl).proof))
      ∙ ap (λ (o : Outcome). tagged γ o.box.memory g (changed_page γ u c)) (sym same)

  -- kind 3 answers the current page, with its tag
  page_answer : (s : Box) (c : Command) → kind_of c ≡ Page → refusal γ s c ≡ 0
      → (length (current_page γ (step γ s c).box c.block) ≡ page_size γ)
      × ((step γ s c).answer ≡ tagged γ (step γ s c).box.memory c.block (current_page γ (step γ s c).box c.block))
  unfolding done effect show_page stored timed
  page_answer s c e r =
      let t = timed γ s c.now in
      let g = c.block in
      let q = passed_timed σ Page s c (passed σ Page s c (all_yes σ Page s c e r)) in
      let size : length (current_page γ t g) ≡ page_size γ = current_length σ t g q.memory.size q.disk (ltb-true g (groups γ t.memory) q.range) in
      let same = step_accepted σ Page s c e r in (
        ap (λ (o : Outcome). length (current_page γ o.box g)) same ∙ size,
        ap (λ (o : Outcome). o.answer) same
            ∙ padded_full σ (tagged γ t.memory g (current_page γ t g)) (tagged_length σ t.memory g (current_page γ t g) size)
            ∙ ap (λ (o : Outcome). tagged γ o.box.memory g (current_page γ o.box g)) (sym same),
      )

  -- a page brought with its tag serves
  pub serves : (t : Box) (g : ℕ) (proof : List ℕ) → length (current_page γ t g) ≡ page_size γ → proof ≡ tagged γ t.memory g (current_page γ t g)
      → Serves γ t g proof
  serves t g proof size e =
      let p = current_page γ t g in
      let page : brought_page γ proof ≡ p = ap (brought_page γ) e ∙ tagged_page σ t.memory g p size in
      record {
        page = page;
        matches =
            λ u.
            equal_yes (brought_tag γ proof) (tag γ t.memory g (brought_page γ proof))
            (ap (brought_tag γ) e ∙ tagged_tag σ t.memory g p size ∙ ap (tag γ t.memory g) (sym page));
      }

  pub answer_serves : (s : Box) (c : Command) → refusal γ s c ≡ 0 → AnswerServes γ s c
  answer_serves s c r =
      record {
        shown = λ e. let a = page_answer s c e r in serves (step γ s c).box c.block (step γ s c).answer a.0 a.1;
        changed_page_is =
            λ u e.
            let t = (step γ s c).box in
            let g = group_of γ c.block in
            let own = own_page σ u s c e r in
            let size = changed_length σ u c (accepted_changes σ (Change u) s c e r u refl).proof in
            serves t g (step γ s c).answer (ap (λ (p : List ℕ). length p) own ∙ size)
            (changed_answer u s c e r ∙ ap (tagged γ t.memory g) (sym own));
      }

  -- ---- a page that left by itself

  -- what serves, serves in a box with the same salt, count and page
  serves_same : (s t : Box) (g : ℕ) (proof : List ℕ) → salt t.memory ≡ salt s.memory → count t.memory g ≡ count s.memory g
      → current_page γ t g ≡ current_page γ s g → Serves γ s g proof → Serves γ t g proof
  serves_same s t g proof es ec ep x =
      record {
        page = x.page ∙ sym ep;
        matches =
            λ u.
            ap (λ (l : List ℕ). equal (brought_tag γ proof) l) (tag_same σ s.memory t.memory g (brought_page γ proof) es ec) ∙ x.matches u;
      }

  -- a restart with none held
  restart_serves : (s : Box) (r : Command) (g : ℕ) (proof : List ℕ) → kind_of r ≡ Restart → refusal γ s r ≡ 0 → held γ s.memory ≡ none
      → g < groups γ s.memory → Serves γ s g proof → Serves γ (step γ s r).box g proof
  restart_serves s r g proof e a n h x =
      let m = s.memory in
      let done = accepted_after σ s r a in
      let v = (passed σ Restart s r (all_yes σ Restart s r e a)).memory in
      let other : held γ m ≡ g → ⊥ = not_none σ m v g (held γ m) n h in
      serves_same s (step γ s r).box g proof (done.new_salt_is ∙ ap (λ (k : Kind). salt_after k m r) e)
      (done.counts g h
      ∙ ap (λ (k : Kind). count_after γ k m r g) e
      ∙ count_unchanged (count m) (held γ m) (count m (held γ m) + 1) g (λ i. other (sym i)))
      (done.page g h ∙ ap (λ (k : Kind). page_after γ k s r g) e ∙ sym (current_other σ s g other)) x

  pub left_serves : LeftPageServes γ
  unfolding LeftPageServes
  left_serves s c u r e a is_held_lem full =
      let g = group_of γ c.block in
      let ra = accepts σ s c a in
      let t = (step γ s c).box in
      let left = own_left σ u s c e ra (many_leaves σ s.memory g (omega (arith, next_same σ s.memory g is_held_lem))) in
      let serves-now = (answer_serves s c ra).changed_page_is u e in
      let here : g < groups γ t.memory =
      omega (arith, (accepted_after σ s c ra).same_groups, changed_group σ u s c (changes σ u s c (all_yes σ (Change u) s c e ra))) in
      record {
        none_held = left;
        serves = serves-now;
        serves_restarted =
            λ k b. restart_serves t r g (step γ s c).answer (restart_kind r.kind r.value k) (accepts σ t r b) left here serves-now;
      }
