-- A block that is frozen on its group's current page keeps its content: through every command but an update of the block itself or a
-- restart. Assumes nothing.
use mathlib.Core.Path.{◌≡◌, refl, ap, sym, subst, ◌∙◌}
use mathlib.Core.Bool.{Bool, true, false}
use mathlib.Core.Logic.{⊎_elim}
use mathlib.Core.List.{List}
use Prim.Native.Nat.{ℕ, ◌<◌}
use native.Mathlib.Omega.{arith}
use borrow.Author.Tests.{eq-eqb, ne_eqb}
use Rattle.lockpage.specs.Geometry.{Geometry, Proper}
use Rattle.lockpage.specs.declared.Entry.{Entry}
use Rattle.lockpage.specs.declared.State.TheVariants.{Free}
use Rattle.lockpage.specs.declared.Update.{Update}
use Rattle.lockpage.specs.declared.Update.TheVariants.{Write, Unfreeze, Increment}
use Rattle.lockpage.specs.Entry.{entry, stamp_of, flag, frozen_flag}
use Rattle.lockpage.specs.State.{state}
use Rattle.lockpage.specs.Update.{updated, within_limit}
use Rattle.lockpage.specs.Page.{entry_at}
use Rattle.lockpage.proofs.EntryLaw.{flag_stamp_of}
use Rattle.lockpage.proofs.StateLaw.{Says, says}
use Rattle.lockpage.proofs.UpdateLaw.{allowed_write, written_fits}
use Rattle.addressing.specs.Map.{data_blocks, group_of, place_of, physical}
use Rattle.addressing.proofs.MapLaw.{group_of_below}
use Rattle.disk.specs.Disk.{block as diskBlock}
use Rattle.memory.specs.Memory.{groups}
use Rattle.machine.specs.declared.Kind.{Kind}
use Rattle.machine.specs.declared.Kind.TheVariants.{Read, Entry as ShowEntry, Page, Change, Sync, Restart, NewSalt, Identify, Unknown}
use Rattle.machine.specs.Command.{Box, Command, kind_numbered, kind_of, brought_page, brought_entry}
use Rattle.machine.specs.Tag.{current_page, current_entry}
use Rattle.machine.specs.Question.{questions_to, refusal, AllYes}
use Rattle.machine.specs.Step.{step, timed}
use Rattle.machine.specs.Query.{Query, query_step}
use Rattle.machine.specs.Run.{Event, Given, Queried, after}
use Rattle.machine.specs.After.{page_after, content_after}
use Rattle.machine.specs.Claims.{ValidBox}
use Rattle.machine.proofs.QuestionLaw.{all_yes}
use Rattle.machine.proofs.StepLaw.{accepted_or_same}
use Rattle.machine.proofs.TagLaw.{tagged_page, current_length}
use Rattle.machine.proofs.PassedLaw.{Timely, passed, changes, timed_reads}
use Rattle.machine.proofs.TimedLaw.{current_timed}
use Rattle.machine.proofs.QueryLaw.{query_passed, query_times, query_or_same}
use Rattle.machine.proofs.ValidBoxLaw.{valid_box}
use Rattle.validity.proofs.ValidLaw.{facts}
use Rattle.machine.proofs.AfterLaw.{accepted_after}
use Rattle.machine.proofs.CurrentLaw.{brought_current, entry_own, entry_other}
use Rattle.versions_machine.specs.Plan.{Order, writing, kind_number, value_of, given}
use Rattle.versions_machine.specs.Claims.{Quiet, QuietEvent}
use Rattle.versions_machine.specs.History.{Locked, locked_of, Holds}

module _ {γ : Geometry} (σ : Proper γ) where
  pub holds_frozen : (s : Box) (b : ℕ) (w : Locked) → Holds γ s b w → flag (current_entry γ s b).stamp ≡ frozen_flag
  holds_frozen s b w h = ap (λ (e : Entry). flag e.stamp) h.entry ∙ flag_stamp_of w.time frozen_flag (omega arith)

  -- ---- quiet events

  quiet_page : (k : Kind) (s : Box) (c : Command) (g : ℕ) → Quiet k → page_after γ k s c g ≡ current_page γ s g
  quiet_page Read s c g q = refl
  quiet_page ShowEntry s c g q = refl
  quiet_page Page s c g q = refl
  quiet_page (Change u) s c g q = absurd q
  quiet_page Sync s c g q = refl
  quiet_page Restart s c g q = absurd q
  quiet_page NewSalt s c g q = refl
  quiet_page Identify s c g q = refl
  quiet_page Unknown s c g q = refl

  quiet_content : (k : Kind) (disk : List ℕ) (c : Command) (a : ℕ) → Quiet k → content_after γ k disk c a ≡ diskBlock γ disk (physical γ a)
  quiet_content Read disk c a q = refl
  quiet_content ShowEntry disk c a q = refl
  quiet_content Page disk c a q = refl
  quiet_content (Change u) disk c a q = absurd q
  quiet_content Sync disk c a q = refl
  quiet_content Restart disk c a q = absurd q
  quiet_content NewSalt disk c a q = refl
  quiet_content Identify disk c a q = refl
  quiet_content Unknown disk c a q = refl

  quiet_entry : (s : Box) (c : Command) (b : ℕ) → refusal γ s c ≡ 0 → Quiet (kind_of c) → b < data_blocks γ (groups γ s.memory)
      → current_entry γ (step γ s c).box b ≡ current_entry γ s b
  quiet_entry s c b r q l =
      ap (λ (p : List ℕ). entry_at p (place_of γ b))
      ((accepted_after σ s c r).page (group_of γ b) (group_of_below σ (groups γ s.memory) b l) ∙ quiet_page (kind_of c) s c (group_of γ b) q)

  timed_entry : (s : Box) (now b : ℕ) → Timely γ s now → current_entry γ (timed γ s now) b ≡ current_entry γ s b
  timed_entry s now b t = ap (λ (p : List ℕ). entry_at p (place_of γ b)) (current_timed σ s now t (group_of γ b))

  -- they leave every entry
  pub event_entry : (s : Box) (e : Event) (b : ℕ) → QuietEvent e → b < data_blocks γ (groups γ s.memory)
      → current_entry γ (after γ s e) b ≡ current_entry γ s b
  event_entry s (Given c) b quiet l =
      ⊎_elim (λ r. quiet_entry s c b r quiet l) (λ e. ap (λ (t : Box). current_entry γ t b) e) (accepted_or_same σ s c)
  event_entry s (Queried q) b quiet l =
      ⊎_elim
      (λ r. ap (λ (t : Box). current_entry γ t b) (query_times σ s q r) ∙ timed_entry s q.now b (query_passed σ s q r).timely)
      (λ e. ap (λ (t : Box). current_entry γ t b) e)
      (query_or_same σ s q)

  quiet_holds : (s : Box) (c : Command) (b : ℕ) (w : Locked) → Quiet (kind_of c) → Holds γ s b w → Holds γ (step γ s c).box b w
  quiet_holds s c b w q h =
      ⊎_elim
      (λ r.
      let after = accepted_after σ s c r in
      record {
        range = subst (λ (n : ℕ). b < data_blocks γ n) (sym after.same_groups) h.range;
        entry = quiet_entry s c b r q h.range ∙ h.entry;
        stored = after.content b ∙ quiet_content (kind_of c) s.disk c b q ∙ h.stored;
      })
      (λ e. subst (λ (t : Box). Holds γ t b w) (sym e) h)
      (accepted_or_same σ s c)

  query_holds : (s : Box) (q : Query) (b : ℕ) (w : Locked) → Holds γ s b w → Holds γ (query_step γ s q).box b w
  unfolding timed
  query_holds s q b w h =
      ⊎_elim
      (λ r.
      let t = (query_passed σ s q r).timely in
      subst (λ (x : Box). Holds γ x b w) (sym (query_times σ s q r))
      (record {
        range = subst (λ (n : ℕ). b < data_blocks γ n) (sym (timed_reads σ s q.now t).groups) h.range;
        entry = timed_entry s q.now b t ∙ h.entry;
        stored = h.stored;
      }))
      (λ e. subst (λ (t : Box). Holds γ t b w) (sym e) h)
      (query_or_same σ s q)

  pub event_holds : (s : Box) (e : Event) (b : ℕ) (w : Locked) → QuietEvent e → Holds γ s b w → Holds γ (after γ s e) b w
  event_holds s (Given c) b w quiet h = quiet_holds s c b w quiet h
  event_holds s (Queried q) b w quiet h = query_holds s q b w h

  -- ---- an accepted update of the store's

  other_content : (u : Update) (disk : List ℕ) (c : Command) (a : ℕ) → (a ≡ c.block → ⊥)
      → content_after γ (Change u) disk c a ≡ diskBlock γ disk (physical γ a)
  other_content (Write lock) disk c a n =
      ap (λ (x : Bool). elim x [ true ↦ c.content | false ↦ diskBlock γ disk (physical γ a) ]) (ne_eqb c.block a (λ e. n (sym e)))
  other_content Unfreeze disk c a n = refl
  other_content (Increment value) disk c a n = refl

  pub order_kind : (u : Update) → kind_numbered (kind_number u) (value_of u) ≡ Change u
  unfolding kind_numbered
  order_kind (Write lock) = refl
  order_kind Unfreeze = refl
  order_kind (Increment value) = refl

  -- it brings the current page
  pub brings : (s : Box) (o : Order) → ValidBox γ s → o.block < data_blocks γ (groups γ s.memory)
      → brought_page γ (given γ s o).proof ≡ current_page γ s (group_of γ o.block)
  brings s o v l =
      let g = group_of γ o.block in
      tagged_page σ s.memory g (current_page γ s g)
      (current_length σ s g (facts σ s.memory v.memory).size v.disk (group_of_below σ (groups γ s.memory) o.block l))

  module _ (s : Box) (o : Order) (r : refusal γ s (given γ s o) ≡ 0) where
    pub order_yes : AllYes (questions_to γ (Change o.update) s (given γ s o))
    order_yes = all_yes σ (Change o.update) s (given γ s o) (order_kind o.update) r

    pub order_brings : brought_page γ (given γ s o).proof ≡ current_page γ s (group_of γ o.block)
    order_brings =
        brings s o (valid_box σ (Change o.update) s (given γ s o) (passed σ (Change o.update) s (given γ s o) order_yes))
        (changes σ o.update s (given γ s o) order_yes).range

    -- another block stays as it was
    pub other_holds : (b : ℕ) (w : Locked) → (b ≡ o.block → ⊥) → Holds γ s b w → Holds γ (step γ s (given γ s o)).box b w
    other_holds b w n h =
        let c = given γ s o in
        let u = o.update in
        let after = accepted_after σ s c r in
        record {
          range = subst (λ (n : ℕ). b < data_blocks γ n) (sym after.same_groups) h.range;
          entry = entry_other σ u s c (order_kind u) r order_brings b (group_of_below σ (groups γ s.memory) b h.range) n ∙ h.entry;
          stored =
              after.content b ∙ ap (λ (k : Kind). content_after γ k s.disk c b) (order_kind u) ∙ other_content u s.disk c b n ∙ h.stored;
        }

  written : (lock now : ℕ) (e : Entry) → updated (Write lock) now e ≡ entry lock (stamp_of now frozen_flag)
  unfolding updated
  written lock now e = refl

  module _ (lock : ℕ) (s : Box) (block now : ℕ) (content : List ℕ)
      (r : refusal γ s (given γ s (writing block now lock content)) ≡ 0) where
    -- the block that is written was free
    pub write_free : state now (current_entry γ s block) ≡ Free
    write_free =
        let o = writing block now lock content in
        let c = given γ s o in
        ap (state now) (sym (brought_current σ (Write lock) s c (order_kind (Write lock)) r (order_brings s o r)))
        ∙ allowed_write lock (state now (brought_entry γ c)) (changes σ (Write lock) s c (order_yes s o r)).may

    -- so a frozen block isn't written
    pub write_other : (b : ℕ) (x : Locked) → Holds γ s b x → b ≡ block → ⊥
    write_other b x h same =
        let found : Entry = current_entry γ s block in
        let says-free : Says now found Free = subst (Says now found) write_free (says now found) in
        let is_frozen_is = subst (λ (a : ℕ). flag (current_entry γ s a).stamp ≡ frozen_flag) same (holds_frozen s b x h) in
        omega (arith, says-free.0, is_frozen_is)

    -- it is frozen then, with the content
    pub write_holds : Holds γ (step γ s (given γ s (writing block now lock content))).box block (locked_of content lock now)
    write_holds =
        let o = writing block now lock content in
        let c = given γ s o in
        let k = order_kind (Write lock) in
        let after = accepted_after σ s c r in
        let q = passed σ (Change (Write lock)) s c (order_yes s o r) in
        let x = changes σ (Write lock) s c (order_yes s o r) in
        let brought = order_brings s o r in
        let within =
        subst (λ (i : Entry). within_limit (updated (Write lock) now i) ≡ true)
        (brought_current σ (Write lock) s c k r brought) x.within in
        let found : Entry = current_entry γ s block in
        record {
          range = subst (λ (n : ℕ). block < data_blocks γ n) (sym after.same_groups) x.range;
          entry =
              entry_own σ (Write lock) s c k r brought (written_fits lock now found q.early within) ∙ written lock now found;
          stored =
              after.content block
              ∙ ap (λ (k : Kind). content_after γ k s.disk c block) k
              ∙ ap (λ (i : Bool). elim i [ true ↦ content | false ↦ diskBlock γ s.disk (physical γ block) ]) (eq-eqb block block refl);
        }
