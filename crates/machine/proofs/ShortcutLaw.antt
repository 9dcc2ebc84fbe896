-- The five shortcuts are not taken. Assumes nothing.
use mathlib.Core.Path.{◌≡◌, refl, ap, sym, subst, ◌∙◌}
use mathlib.Core.Logic.{⊎_elim}
use mathlib.Core.List.{List, [], ◌∷◌}
use Prim.Native.Nat.{ℕ, ◌+◌, ◌^◌, ◌≤◌, ◌<◌}
use native.Mathlib.Omega.{arith}
use lib.ListN.{length}
use Rattle.lockpage.specs.Geometry.{Geometry, Proper}
use Rattle.lockpage.specs.declared.State.TheVariants.{Free}
use Rattle.lockpage.specs.declared.Update.{Update}
use Rattle.lockpage.specs.declared.Update.TheVariants.{Write, Unfreeze}
use Rattle.lockpage.specs.declared.Entry.{Entry as PageEntry}
use Rattle.lockpage.specs.Entry.{flag, frozen_flag, unfrozen_flag}
use Rattle.lockpage.specs.State.{state}
use Rattle.lockpage.specs.Update.{updated}
use Rattle.lockpage.specs.Page.{entry_at}
use Rattle.lockpage.proofs.StateLaw.{Says, says}
use Rattle.lockpage.proofs.UpdateLaw.{unfrozen_flag_lem, allowed_write, allowed_unfreeze}
use Rattle.addressing.specs.Map.{group_data, group_of, place_of, page_block}
use Rattle.addressing.proofs.MapLaw.{physical_page}
use Rattle.memory.specs.Layout.{memory_size, count_size}
use Rattle.memory.specs.Memory.{count, groups, held}
use Rattle.memory.specs.Claims.{changed}
use Rattle.validity.specs.Valid.{count_limit}
use Rattle.validity.proofs.ValidLaw.{Valid, facts}
use Rattle.machine.specs.declared.Kind.{Kind}
use Rattle.machine.specs.declared.Kind.TheVariants.{Read, Entry, Page, Change, Sync, Restart, NewSalt, Identify, Unknown}
use Rattle.machine.specs.Command.{Box, Command, kind_of, brought_page, brought_tag, brought_entry}
use Rattle.machine.specs.Tag.{tag, current_entry}
use Rattle.machine.specs.Question.{questions_to, refusal, AllYes}
use Rattle.machine.specs.Effect.{changed_page}
use Rattle.machine.specs.Step.{step}
use Rattle.machine.specs.Query.{Query, query_refusal, query_step}
use Rattle.machine.specs.Run.{Event, Given, Queried, after, run, Throughout}
use Rattle.machine.specs.Claims.{RefusedBy, ValidBox}
use Rattle.machine.specs.After.{count_after}
use Rattle.machine.specs.Shortcuts.{SaltStays, TagsDiffer, NotFreeBeforeExpiry, OldPageRefused, LostPageRefused, OnNoPage, SecondUnfreezeRefused}
use Rattle.machine.proofs.CaseLaw.{same_or_not}
use Rattle.machine.proofs.KindLaw.{new_salt_number, write_kind, unfreeze_kind, restart_kind}
use Rattle.machine.proofs.QuestionLaw.{all_seven, all_yes, refused_by_seventh, refused_by_ninth, got_seventh, nine_seven, seventh_yes, ninth_yes}
use Rattle.machine.proofs.StepLaw.{step_number, accepts, refused_by_lem, accepted_or_same}
use Rattle.machine.proofs.TagLaw.{tagged_page, tagged_tag, message_same}
use Rattle.machine.proofs.PassedLaw.{passed, changes, changed_group, timed_reads}
use Rattle.machine.proofs.QueryLaw.{query_passed, query_times, query_or_same, query_valid}
use Rattle.machine.proofs.EffectLaw.{changed_length, count_changed, count_unchanged}
use Rattle.machine.proofs.ValidBoxLaw.{accepted_valid}
use Rattle.machine.proofs.TimedLaw.{in_memory}
use Rattle.machine.proofs.AnswerLaw.{changed_answer}
use Rattle.machine.proofs.AfterLaw.{accepted_after, own_count, lost_count}
use Rattle.machine.proofs.CurrentLaw.{own_fits, own_entry}

-- a count raised by 1 or left
raised : (f : ℕ → ℕ) (a g : ℕ) → (a ≡ g → f a ≤ count_limit) → f g < 256 ^ count_size
    → (f g ≤ changed f a (f a + 1) g) × (changed f a (f a + 1) g < 256 ^ count_size)
raised f a g h small =
    same_or_not a g
    (λ e.
    let same = ap f e in
    let up = ap (changed f a (f a + 1)) (sym e) ∙ count_changed f a (f a + 1) in
    (omega arith, omega (arith, h e)))
    (λ e.
    let left = count_unchanged f a (f a + 1) g (λ x. e (sym x)) in
    (omega arith, omega arith))

-- γ is the box's geometry
module _ (γ : Geometry) where
  -- group g of the box has more than n updates and restarts counted, in 4 bytes
  record Counted (g n : ℕ) (t : Box) : Type 0 where
    valid : ValidBox γ t
    of_box : g < groups γ t.memory
    more : n < count t.memory g
    small : count t.memory g < 256 ^ count_size

-- γ is any proper geometry
module _ {γ : Geometry} (σ : Proper γ) where
  -- ---- f = 1 before the expiry

  pub not_free_before_expiry : NotFreeBeforeExpiry γ
  unfolding NotFreeBeforeExpiry
  not_free_before_expiry s c k f l =
      let u = Write c.value in
      refused_by_lem σ 9 s c
      (refused_by_ninth σ u s c (write_kind c.kind c.value k)
      (λ h.
      let free = allowed_write c.value (state c.now (brought_entry γ c)) (ninth_yes σ u s c h) in
      let found : Says c.now (brought_entry γ c) Free = subst (Says c.now (brought_entry γ c)) free (says c.now (brought_entry γ c)) in
      omega (arith, found.1)))

  -- ---- a second unfreeze

  pub second_unfreeze_refused : SecondUnfreezeRefused γ
  unfolding SecondUnfreezeRefused
  second_unfreeze_refused s c d kc kd same bytes a u =
      let ec = unfreeze_kind c.kind c.value kc in
      let ed = unfreeze_kind d.kind d.value kd in
      let t = (step γ s c).box in
      let e = brought_entry γ c in
      refused_by_lem σ 9 t d
      (refused_by_ninth σ Unfreeze t d ed
      (λ h.
      let brings = u (got_seventh σ Unfreeze t d ed (nine_seven σ Unfreeze t d h)) in
      let found : brought_entry γ d ≡ updated Unfreeze c.now e =
      ap (λ (p : List ℕ). entry_at p (place_of γ d.block)) brings
      ∙ ap (current_entry γ t) same
      ∙ own_entry σ Unfreeze s c ec (accepts σ s c a) (own_fits σ Unfreeze s c ec (accepts σ s c a) bytes) in
      let is_frozen_is = allowed_unfreeze (state d.now (brought_entry γ d)) (ninth_yes σ Unfreeze t d h) in
      let still : flag (brought_entry γ d).stamp ≡ frozen_flag = subst (Says d.now (brought_entry γ d)) is_frozen_is (says d.now (brought_entry γ d)) in
      let now : flag (brought_entry γ d).stamp ≡ unfrozen_flag = ap (λ (i : PageEntry). flag i.stamp) found ∙ unfrozen_flag_lem c.now e in
      omega arith))

  -- ---- an old tag

  -- a page with the tag of a memory with another count of its group is refused
  stale : (m : List ℕ) (g : ℕ) (t : Box) (d : Command) (v : Update) → kind_of d ≡ Change v → group_of γ d.block ≡ g
      → brought_tag γ d.proof ≡ tag γ m g (brought_page γ d.proof) → length m ≡ memory_size γ → length t.memory ≡ memory_size γ
      → count m g < 256 ^ count_size → count t.memory g < 256 ^ count_size → (count m g ≡ count t.memory g → ⊥)
      → TagsDiffer γ m t.memory g (brought_page γ d.proof) → RefusedBy γ 7 t d
  unfolding tag
  stale m g t d v e same old lm lt sm st other differ =
      refused_by_lem σ 7 t d
      (refused_by_seventh σ v t d e
      (λ h.
      let p = brought_page γ d.proof in
      let fresh : brought_tag γ d.proof ≡ tag γ t.memory g p =
      seventh_yes σ v t d h ∙ ap (λ (i : ℕ). tag γ t.memory i p) same in
      other (message_same σ m t.memory g p p lm lt sm st (differ (sym old ∙ fresh)))))

  -- ---- counts without a new salt

  -- without a new salt no count falls
  count_rises : (k : Kind) (m : List ℕ) (c : Command) (g : ℕ) → (k ≡ NewSalt → ⊥) → Valid γ m → g < groups γ m
      → ((u : Update) → k ≡ Change u → count m (group_of γ c.block) < count_limit) → count m g < 256 ^ count_size
      → (count m g ≤ count_after γ k m c g) × (count_after γ k m c g < 256 ^ count_size)
  count_rises Read m c g n v h x small = (omega arith, small)
  count_rises Entry m c g n v h x small = (omega arith, small)
  count_rises Page m c g n v h x small = (omega arith, small)
  count_rises (Change u) m c g n v h x small =
      let unexhausted = x u refl in
      raised (count m) (group_of γ c.block) g (λ e. omega arith) small
  count_rises Sync m c g n v h x small = (omega arith, small)
  count_rises Restart m c g n v h x small =
      raised (count m) (held γ m) g (λ e. v.holds.unexhausted (λ none_held. omega (arith, v.most))) small
  count_rises NewSalt m c g n v h x small = absurd (n refl)
  count_rises Identify m c g n v h x small = (omega arith, small)
  count_rises Unknown m c g n v h x small = (omega arith, small)

  counted_after : (g n : ℕ) (t : Box) (c : Command) → SaltStays γ t (Given c) → Counted γ g n t → refusal γ t c ≡ 0 → Counted γ g n (step γ t c).box
  counted_after g n t c stays h r =
      let k = kind_of c in
      let a = accepted_after σ t c r in
      let rises =
      count_rises k t.memory c g (λ e. stays (step_number σ t c ∙ r) (new_salt_number c.kind c.value e))
      (facts σ t.memory h.valid.memory) h.of_box (λ u e. (changes σ u t c (all_yes σ (Change u) t c e r)).unexhausted) h.small in
      let same = a.counts g h.of_box in
      record {
        valid = accepted_valid σ t c r;
        of_box = subst (λ (i : ℕ). g < i) (sym a.same_groups) h.of_box;
        more = omega (arith, rises.0, h.more);
        small = subst (λ (i : ℕ). i < 256 ^ count_size) (sym same) rises.1;
      }

  counted_query : (g n : ℕ) (t : Box) (q : Query) → Counted γ g n t → query_refusal γ t q ≡ 0 → Counted γ g n (query_step γ t q).box
  counted_query g n t q h r =
      let reads = timed_reads σ t q.now (query_passed σ t q r).timely in
      let same = reads.count g (in_memory σ t.memory (facts σ t.memory h.valid.memory) g h.of_box) in
      subst (Counted γ g n) (sym (query_times σ t q r))
      (record {
        valid = subst (ValidBox γ) (query_times σ t q r) (query_valid σ t q r);
        of_box = subst (λ (i : ℕ). g < i) (sym reads.groups) h.of_box;
        more = omega (arith, same, h.more);
        small = subst (λ (i : ℕ). i < 256 ^ count_size) (sym same) h.small;
      })

  counted_run : (g n : ℕ) (t : Box) (es : List Event) → Throughout γ (SaltStays γ) t es → Counted γ g n t → Counted γ g n (run γ t es)
  counted_run g n t [] stays h = h
  counted_run g n t (Given c ∷ es) stays h =
      counted_run g n (after γ t (Given c)) es stays.1
      (⊎_elim (λ r. counted_after g n t c stays.0 h r) (λ e. subst (Counted γ g n) (sym e) h) (accepted_or_same σ t c))
  counted_run g n t (Queried q ∷ es) stays h =
      counted_run g n (after γ t (Queried q)) es stays.1
      (⊎_elim (λ r. counted_query g n t q h r) (λ e. subst (Counted γ g n) (sym e) h) (query_or_same σ t q))

  -- ---- the old page and the lost page

  -- after an accepted update its group is counted
  module _ (u : Update) (s : Box) (c : Command) (e : kind_of c ≡ Change u) (r : refusal γ s c ≡ 0) where
    updated_yes : AllYes (questions_to γ (Change u) s c)
    updated_yes = all_yes σ (Change u) s c e r

    unexhausted_before : count s.memory (group_of γ c.block) < count_limit
    unexhausted_before = (changes σ u s c updated_yes).unexhausted

    counted_update : Counted γ (group_of γ c.block) (count s.memory (group_of γ c.block)) (step γ s c).box
    counted_update =
        let up = own_count σ u s c e r in
        record {
          valid = accepted_valid σ s c r;
          of_box =
              subst (λ (n : ℕ). group_of γ c.block < n) (sym (accepted_after σ s c r).same_groups) (changed_group σ u s c (changes σ u s c updated_yes));
          more = omega arith;
          small = omega (arith, unexhausted_before);
        }

    -- what it answers is a page with its tag
    answered_tag : brought_tag γ (step γ s c).answer ≡ tag γ (step γ s c).box.memory (group_of γ c.block) (brought_page γ (step γ s c).answer)
    answered_tag =
        let m = (step γ s c).box.memory in
        let g = group_of γ c.block in
        let p = changed_page γ u c in
        let size = changed_length σ u c (changes σ u s c updated_yes).proof in
        subst (λ (l : List ℕ). brought_tag γ l ≡ tag γ m g (brought_page γ l)) (sym (changed_answer σ u s c e r))
        (tagged_tag σ m g p size ∙ ap (tag γ m g) (sym (tagged_page σ m g p size)))

  -- a restart after it counts once more
  counted_restart : (u : Update) (s : Box) (c r : Command) → kind_of c ≡ Change u → kind_of r ≡ Restart → refusal γ s c ≡ 0
      → held γ (step γ s c).box.memory ≡ group_of γ c.block → refusal γ (step γ s c).box r ≡ 0
      → Counted γ (group_of γ c.block) (count (step γ s c).box.memory (group_of γ c.block)) (step γ (step γ s c).box r).box
  counted_restart u s c r ec er rc is_held_lem rr =
      let g = group_of γ c.block in
      let t = (step γ s c).box in
      let h = counted_update u s c ec rc in
      let of_box : held γ t.memory < groups γ t.memory = subst (λ (i : ℕ). i < groups γ t.memory) (sym is_held_lem) h.of_box in
      let up : count (step γ t r).box.memory g ≡ count t.memory g + 1 =
      subst (λ (i : ℕ). count (step γ t r).box.memory i ≡ count t.memory i + 1) is_held_lem (lost_count σ t r er rr of_box) in
      record {
        valid = accepted_valid σ t r rr;
        of_box = subst (λ (n : ℕ). g < n) (sym (accepted_after σ t r rr).same_groups) h.of_box;
        more = omega arith;
        small = omega (arith, unexhausted_before u s c ec rc, own_count σ u s c ec rc);
      }

  -- a memory's size, from the valid box
  box_size : (t : Box) → ValidBox γ t → length t.memory ≡ memory_size γ
  box_size t v = (facts σ t.memory v.memory).size

  pub old_page_refused : OldPageRefused γ
  unfolding OldPageRefused
  old_page_refused s c es d u v ec ed a stays same proof differ =
      let r = accepts σ s c a in
      let g = group_of γ c.block in
      let h = counted_run g (count s.memory g) (step γ s c).box es stays (counted_update u s c ec r) in
      let unexhausted = unexhausted_before u s c ec r in
      stale s.memory g (run γ (step γ s c).box es) d v ed same
      (subst (λ (p : List ℕ). brought_tag γ p ≡ tag γ s.memory g (brought_page γ p)) (sym proof)
      (seventh_yes σ u s c (all_seven σ u s c (updated_yes u s c ec r))))
      (passed σ (Change u) s c (updated_yes u s c ec r)).memory.size (box_size (run γ (step γ s c).box es) h.valid)
      (omega arith) h.small (λ e. omega (arith, h.more))
      (subst (λ (p : List ℕ). TagsDiffer γ s.memory (run γ (step γ s c).box es).memory g (brought_page γ p)) (sym proof) differ)

  pub lost_page_refused : LostPageRefused γ
  unfolding LostPageRefused
  lost_page_refused s c r es d u v ec kr ed a is_held_lem b stays same proof differ =
      let g = group_of γ c.block in
      let t = (step γ s c).box in
      let ra = accepts σ s c a in
      let er = restart_kind r.kind r.value kr in
      let before = counted_update u s c ec ra in
      let h = counted_run g (count t.memory g) (step γ t r).box es stays (counted_restart u s c r ec er ra is_held_lem (accepts σ t r b)) in
      stale t.memory g (run γ (step γ t r).box es) d v ed same
      (subst (λ (p : List ℕ). brought_tag γ p ≡ tag γ t.memory g (brought_page γ p)) (sym proof) (answered_tag u s c ec ra))
      (box_size t before.valid) (box_size (run γ (step γ t r).box es) h.valid) before.small h.small (λ e. omega (arith, h.more))
      (subst (λ (p : List ℕ). TagsDiffer γ t.memory (run γ (step γ t r).box es).memory g (brought_page γ p)) (sym proof) differ)

  pub on_no_page : OnNoPage γ
  unfolding page_block
  on_no_page =
      record { not_at_page_0 = λ e. physical_page σ (group_data γ) 0 (e ∙ omega arith); on_no_page = physical_page σ }
