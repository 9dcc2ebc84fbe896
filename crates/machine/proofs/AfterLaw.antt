-- What an accepted command does to the box, kind by kind, as specs/After.antt claims. Assumes nothing.
use mathlib.Core.Path.{◌≡◌, refl, ap, sym, subst, ◌∙◌}
use mathlib.Core.List.{List}
use mathlib.Core.Bool.{Bool, true, false}
use Prim.Native.Nat.{ℕ, ◌+◌, ◌<◌}
use borrow.Author.Tests.{eq-eqb}
use Rattle.lockpage.specs.Geometry.{Geometry, Proper}
use Rattle.lockpage.specs.declared.Update.{Update}
use Rattle.addressing.specs.Map.{group_of, physical, page_block}
use Rattle.disk.specs.Disk.{block}
use Rattle.memory.specs.Memory.{salt, count, last_time, groups, held, none, update_count}
use Rattle.memory.proofs.FieldLaw.{page_dropped}
use Rattle.validity.proofs.ValidLaw.{Valid}
use Rattle.machine.specs.declared.Kind.{Kind}
use Rattle.machine.specs.declared.Kind.TheVariants.{Read, Entry, Page, Change, Sync, Restart, NewSalt, Identify, Unknown}
use Rattle.machine.specs.Command.{Box, Command, Outcome, kind_of}
use Rattle.machine.specs.Tag.{current_page}
use Rattle.machine.specs.Question.{refusal}
use Rattle.machine.specs.Effect.{stored, effect, read, show_entry, show_page, put_held, changed_page, change, sync, restarted_memory, restart, new_salt}
use Rattle.machine.specs.Effect.{identify, page_leaves}
use Rattle.machine.specs.Step.{step, timed, done}
use Rattle.machine.specs.After.{salt_after, count_after, held_after, page_after, content_after, After, updates_after}
use Rattle.machine.proofs.CaseLaw.{same_or_not}
use Rattle.machine.proofs.QuestionLaw.{all_yes}
use Rattle.machine.proofs.StepLaw.{step_accepted}
use Rattle.machine.proofs.TagLaw.{current_other}
use Rattle.machine.proofs.PassedLaw.{new_salt_other, Passed, Changes, passed, in_time, changes, passed_timed, changed_group, accepted_changes}
use Rattle.machine.proofs.PassedLaw.{timed_reads}
use Rattle.machine.proofs.EffectLaw.{left, count_changed, untouched, count_unchanged, restarted_none, restarted_held_reads, restarted_salt}
use Rattle.machine.proofs.EffectLaw.{restarted_time, restarted_groups, restarted_drops, salted_reads, restarted_updates}
use Rattle.machine.proofs.ChangeLaw.{change_on_disk, not_none, put_current, put_elsewhere, change_reads, change_page, change_content}
use Rattle.machine.proofs.TimedLaw.{in_memory, salt_timed, counts_timed, held_timed, page_timed, leaves_timed, updates_timed}

-- γ is the box's geometry
module _ (γ : Geometry) where
  -- the last time and the number of groups stay (the last time is set before), the salt, the counts the held group and its updates are as claimed
  record Fields (k : Kind) (s : Box) (c : Command) (m : List ℕ) : Type 0 where
    time : last_time γ m ≡ last_time γ s.memory
    same_groups : groups γ m ≡ groups γ s.memory
    new_salt_is : salt m ≡ salt_after k s.memory c
    counts : (g : ℕ) → g < groups γ s.memory → count m g ≡ count_after γ k s.memory c g
    held_group : held γ m ≡ held_after γ k s.memory c
    updates : update_count γ m ≡ updates_after γ k s.memory c

-- γ is any proper geometry
module _ {γ : Geometry} (σ : Proper γ) where
  -- ---- by kind

  restart_fields : (s : Box) (c : Command) → Valid γ s.memory → Fields γ Restart s c (restarted_memory γ s.memory)
  restart_fields s c v =
      let m = s.memory in
      record {
        time = restarted_time σ m v;
        same_groups = restarted_groups σ m v;
        new_salt_is = restarted_salt σ m v;
        counts =
            λ g h.
            same_or_not (held γ m) none
            (λ n.
            ap (λ (l : List ℕ). count l g) (restarted_none σ m n)
            ∙ sym (count_unchanged (count m) (held γ m) (count m (held γ m) + 1) g (λ e. not_none σ m v g (held γ m) n h (sym e))))
            (λ n. (restarted_held_reads σ m v n).count g (in_memory σ m v g h));
        held_group = restarted_drops σ m v;
        updates = restarted_updates σ m v;
      }

  effect_fields : (k : Kind) (s : Box) (c : Command) → Passed γ k s c → ((u : Update) → k ≡ Change u → Changes γ u s c)
      → Fields γ k s c (effect γ k s c).memory
  unfolding effect read show_entry show_page change sync restart new_salt identify
  effect_fields Read s c q x = record { time = refl; same_groups = refl; new_salt_is = refl; counts = λ g h. refl; held_group = refl; updates = refl }
  effect_fields Entry s c q x = record { time = refl; same_groups = refl; new_salt_is = refl; counts = λ g h. refl; held_group = refl; updates = refl }
  effect_fields Page s c q x = record { time = refl; same_groups = refl; new_salt_is = refl; counts = λ g h. refl; held_group = refl; updates = refl }
  effect_fields (Change u) s c q x =
      let r = change_reads σ u s c q (x u refl) in
      record {
        time = r.time;
        same_groups = r.groups;
        new_salt_is = r.salt;
        counts = λ g h. r.count g (in_memory σ s.memory q.memory g h);
        held_group = r.held;
        updates = r.updates;
      }
  effect_fields Sync s c q x =
      let r = page_dropped σ s.memory q.memory.size in
      record {
        time = r.time;
        same_groups = r.groups;
        new_salt_is = r.salt;
        counts = λ g h. r.count g (in_memory σ s.memory q.memory g h);
        held_group = r.held;
        updates = r.updates;
      }
  effect_fields Restart s c q x = restart_fields s c q.memory
  effect_fields NewSalt s c q x =
      let r = salted_reads σ s.memory c.content q.memory.size q.content in
      record {
        time = r.time;
        same_groups = r.groups;
        new_salt_is = r.salt;
        counts = λ g h. r.count g (in_memory σ s.memory q.memory g h);
        held_group = r.held;
        updates = r.updates;
      }
  effect_fields Identify s c q x = record { time = refl; same_groups = refl; new_salt_is = refl; counts = λ g h. refl; held_group = refl; updates = refl }
  effect_fields Unknown s c q x = record { time = refl; same_groups = refl; new_salt_is = refl; counts = λ g h. refl; held_group = refl; updates = refl }

  -- with none held after, the page is the one on the disk
  none_after : (s t : Box) (g : ℕ) → Valid γ s.memory → g < groups γ s.memory → held γ t.memory ≡ none
      → current_page γ t g ≡ block γ t.disk (page_block γ g)
  none_after s t g v h n = current_other σ t g (not_none σ s.memory v g (held γ t.memory) n h)

  effect_page : (k : Kind) (s : Box) (c : Command) → Passed γ k s c → ((u : Update) → k ≡ Change u → Changes γ u s c) → (g : ℕ)
      → g < groups γ s.memory → current_page γ (left γ s (effect γ k s c)) g ≡ page_after γ k s c g
  unfolding effect read show_entry show_page sync restart new_salt identify stored
  effect_page Read s c q x g h = refl
  effect_page Entry s c q x g h = refl
  effect_page Page s c q x g h = refl
  effect_page (Change u) s c q x g h = change_page σ u s c q (x u refl) g h
  effect_page Sync s c q x g h =
      none_after s (left γ s (sync γ s)) g q.memory h (page_dropped σ s.memory q.memory.size).held
      ∙ put_current σ s g q.memory q.disk h
  effect_page Restart s c q x g h = none_after s (left γ s (restart γ s)) g q.memory h (restarted_drops σ s.memory q.memory)
  effect_page NewSalt s c q x g h =
      none_after s (left γ s (new_salt γ s c.content)) g q.memory h
      (salted_reads σ s.memory c.content q.memory.size q.content).held
      ∙ put_current σ s g q.memory q.disk h
  effect_page Identify s c q x g h = refl
  effect_page Unknown s c q x g h = refl

  effect_content : (k : Kind) (s : Box) (c : Command) → Passed γ k s c → ((u : Update) → k ≡ Change u → Changes γ u s c) → (a : ℕ)
      → block γ (left γ s (effect γ k s c)).disk (physical γ a) ≡ content_after γ k s.disk c a
  unfolding effect read show_entry show_page sync restart new_salt identify stored
  effect_content Read s c q x a = refl
  effect_content Entry s c q x a = refl
  effect_content Page s c q x a = refl
  effect_content (Change u) s c q x a = change_content σ u s c q (x u refl) a
  effect_content Sync s c q x a =
      untouched σ (groups γ s.memory) (physical γ a) s.disk (put_held γ s.memory) (put_elsewhere σ s.memory q.memory a) q.disk
  effect_content Restart s c q x a = refl
  effect_content NewSalt s c q x a =
      untouched σ (groups γ s.memory) (physical γ a) s.disk (put_held γ s.memory) (put_elsewhere σ s.memory q.memory a) q.disk
  effect_content Identify s c q x a = refl
  effect_content Unknown s c q x a = refl

  -- ---- an accepted command

  pub accepted_after : (s : Box) (c : Command) → refusal γ s c ≡ 0 → After γ s c
  unfolding done timed
  accepted_after s c r =
      let k = kind_of c in
      let q = passed σ k s c (all_yes σ k s c refl r) in
      let t = timed γ s c.now in
      let qt = passed_timed σ k s c q in
      let x = accepted_changes σ k s c refl r in
      let reads = timed_reads σ s c.now (in_time σ k s c q) in
      let of_box : (g : ℕ) → g < groups γ s.memory → g < groups γ t.memory = λ g h. subst (λ (n : ℕ). g < n) (sym reads.groups) h in
      let own : (u : Update) → k ≡ Change u → group_of γ c.block < groups γ s.memory =
      λ u e. subst (λ (n : ℕ). group_of γ c.block < n) reads.groups (changed_group σ u t c (x u e)) in
      let same = step_accepted σ k s c refl r in
      let fields = effect_fields k t c qt x in
      record {
        time = ap (λ (o : Outcome). last_time γ o.box.memory) same ∙ fields.time ∙ reads.time;
        same_groups = ap (λ (o : Outcome). groups γ o.box.memory) same ∙ fields.same_groups ∙ reads.groups;
        new_salt_is = ap (λ (o : Outcome). salt o.box.memory) same ∙ fields.new_salt_is ∙ salt_timed σ k s c q;
        counts =
            λ g h. ap (λ (o : Outcome). count o.box.memory g) same ∙ fields.counts g (of_box g h) ∙ counts_timed σ k s c q own g h;
        held_group = ap (λ (o : Outcome). held γ o.box.memory) same ∙ fields.held_group ∙ held_timed σ k s c q;
        updates = ap (λ (o : Outcome). update_count γ o.box.memory) same ∙ fields.updates ∙ updates_timed σ k s c q;
        page =
            λ g h. ap (λ (o : Outcome). current_page γ o.box g) same ∙ effect_page k t c qt x g (of_box g h) ∙ page_timed σ k s c q g;
        content = λ a. ap (λ (o : Outcome). block γ o.box.disk (physical γ a)) same ∙ effect_content k t c qt x a;
      }

  -- ---- of an update and of a restart

  module _ (u : Update) (s : Box) (c : Command) (e : kind_of c ≡ Change u) (r : refusal γ s c ≡ 0) where
    own_group : group_of γ c.block < groups γ s.memory
    own_group = changed_group σ u s c (changes σ u s c (all_yes σ (Change u) s c e r))

    pub own_page : current_page γ (step γ s c).box (group_of γ c.block) ≡ changed_page γ u c
    own_page =
        let g = group_of γ c.block in
        (accepted_after s c r).page g own_group
        ∙ ap (λ (k : Kind). page_after γ k s c g) e
        ∙ ap (λ (b : Bool). elim b [ true ↦ changed_page γ u c | false ↦ current_page γ s g ]) (eq-eqb g g refl)

    pub own_count : count (step γ s c).box.memory (group_of γ c.block) ≡ count s.memory (group_of γ c.block) + 1
    own_count =
        let g = group_of γ c.block in
        (accepted_after s c r).counts g own_group
        ∙ ap (λ (k : Kind). count_after γ k s.memory c g) e
        ∙ count_changed (count s.memory) g (count s.memory g + 1)

    -- it is held, or has left
    pub own_held : page_leaves γ s.memory (group_of γ c.block) ≡ false → held γ (step γ s c).box.memory ≡ group_of γ c.block
    own_held stays =
        (accepted_after s c r).held_group
        ∙ ap (λ (k : Kind). held_after γ k s.memory c) e
        ∙ ap (λ (b : Bool). elim b [ true ↦ none | false ↦ group_of γ c.block ]) stays

    pub own_left : page_leaves γ s.memory (group_of γ c.block) ≡ true → held γ (step γ s c).box.memory ≡ none
    own_left leaves =
        (accepted_after s c r).held_group
        ∙ ap (λ (k : Kind). held_after γ k s.memory c) e
        ∙ ap (λ (b : Bool). elim b [ true ↦ none | false ↦ group_of γ c.block ]) leaves

    pub own_on_disk : page_leaves γ s.memory (group_of γ c.block) ≡ false
        → block γ (step γ s c).box.disk (page_block γ (group_of γ c.block)) ≡ block γ s.disk (page_block γ (group_of γ c.block))
    unfolding done effect timed
    own_on_disk stays =
        let q = passed σ (Change u) s c (all_yes σ (Change u) s c e r) in
        ap (λ (o : Outcome). block γ o.box.disk (page_block γ (group_of γ c.block))) (step_accepted σ (Change u) s c e r)
        ∙ change_on_disk σ u (timed γ s c.now) c (passed_timed σ (Change u) s c q) (accepted_changes σ (Change u) s c e r u refl)
        (leaves_timed σ (Change u) s c q (group_of γ c.block) ∙ stays)

  pub lost_count : (s : Box) (c : Command) → kind_of c ≡ Restart → refusal γ s c ≡ 0 → held γ s.memory < groups γ s.memory
      → count (step γ s c).box.memory (held γ s.memory) ≡ count s.memory (held γ s.memory) + 1
  lost_count s c e r h =
      let g = held γ s.memory in
      (accepted_after s c r).counts g h
      ∙ ap (λ (k : Kind). count_after γ k s.memory c g) e
      ∙ count_changed (count s.memory) g (count s.memory g + 1)

  pub new_salt_differs : (s : Box) (c : Command) → kind_of c ≡ NewSalt → refusal γ s c ≡ 0 → salt (step γ s c).box.memory ≡ salt s.memory → ⊥
  new_salt_differs s c e r same =
      new_salt_other σ s c (all_yes σ NewSalt s c e r)
      (ap (λ (k : Kind). salt_after k s.memory c) (sym e) ∙ sym (accepted_after s c r).new_salt_is ∙ same)
