-- What specs/After.antt says of the box with the last time set is what it says of the box that the command gets: setting the last time
-- changes nothing else. Assumes nothing.
use mathlib.Core.Path.{◌≡◌, refl, ap, ap₂, sym, ◌∙◌}
use mathlib.Core.List.{List}
use mathlib.Core.Bool.{Bool, true, false}
use Prim.Native.Nat.{ℕ, ◌+◌, ◌<◌}
use native.Mathlib.Omega.{arith}
use lib.Dec.{eqb}
use Rattle.lockpage.specs.Geometry.{Geometry, Proper}
use Rattle.lockpage.specs.declared.Update.{Update}
use Rattle.addressing.specs.Map.{group_of}
use Rattle.memory.specs.Memory.{count, groups, held, none}
use Rattle.memory.specs.Claims.{changed}
use Rattle.validity.proofs.ValidLaw.{Valid}
use Rattle.machine.specs.declared.Kind.{Kind}
use Rattle.machine.specs.declared.Kind.TheVariants.{Read, Entry, Page, Change, Sync, Restart, NewSalt, Identify, Unknown}
use Rattle.machine.specs.Command.{Box, Command}
use Rattle.machine.specs.Tag.{current_page}
use Rattle.machine.specs.Effect.{changed_page, next_update_count, page_leaves}
use Rattle.machine.specs.Step.{timed}
use Rattle.machine.specs.After.{salt_after, count_after, held_after, page_after, updates_after}
use Rattle.machine.proofs.LeavingLaw.{next_alike, leaves_alike}
use Rattle.machine.proofs.CaseLaw.{same_or_not}
use Rattle.machine.proofs.TagLaw.{current_same}
use Rattle.machine.proofs.PassedLaw.{Timely, Passed, in_time, timed_reads}
use Rattle.machine.proofs.EffectLaw.{count_unchanged}
use Rattle.machine.proofs.ChangeLaw.{not_none}

-- a count raised by 1, or not, where two memories have the same counts
raised_same : (c d : ℕ → ℕ) (a g : ℕ) → c a ≡ d a → c g ≡ d g → changed c a (c a + 1) g ≡ changed d a (d a + 1) g
raised_same c d a g x y = ap₂ (λ (i j : ℕ). elim (eqb g a) [ true ↦ i + 1 | false ↦ j ]) x y

-- γ is any proper geometry
module _ {γ : Geometry} (σ : Proper γ) where
  -- a field's law reaches as far as the box has groups
  pub in_memory : (m : List ℕ) → Valid γ m → (g : ℕ) → g < groups γ m → g < γ.most_groups
  in_memory m v g h = omega (arith, v.most)

  pub current_timed : (s : Box) (now : ℕ) → Timely γ s now → (g : ℕ) → current_page γ (timed γ s now) g ≡ current_page γ s g
  unfolding timed
  current_timed s now q g =
      let r = timed_reads σ s now q in
      current_same σ s (timed γ s now) g r.held r.page refl

  pub page_timed : (k : Kind) (s : Box) (c : Command) → Passed γ k s c → (g : ℕ) → page_after γ k (timed γ s c.now) c g ≡ page_after γ k s c g
  unfolding timed
  page_timed Read s c q g = current_timed s c.now (in_time σ Read s c q) g
  page_timed Entry s c q g = current_timed s c.now (in_time σ Entry s c q) g
  page_timed Page s c q g = current_timed s c.now (in_time σ Page s c q) g
  page_timed (Change u) s c q g =
      ap (λ (p : List ℕ). elim (eqb (group_of γ c.block) g) [ true ↦ changed_page γ u c | false ↦ p ])
      (current_timed s c.now (in_time σ (Change u) s c q) g)
  page_timed Sync s c q g = current_timed s c.now (in_time σ Sync s c q) g
  page_timed Restart s c q g = refl
  page_timed NewSalt s c q g = current_timed s c.now (in_time σ NewSalt s c q) g
  page_timed Identify s c q g = current_timed s c.now (in_time σ Identify s c q) g
  page_timed Unknown s c q g = current_timed s c.now (in_time σ Unknown s c q) g

  module _ (k : Kind) (s : Box) (c : Command) (q : Passed γ k s c) where
    tm : List ℕ
    tm = (timed γ s c.now).memory

    count_set_time : (g : ℕ) → g < groups γ s.memory → count tm g ≡ count s.memory g
    unfolding tm
    count_set_time g h = (timed_reads σ s c.now (in_time σ k s c q)).count g (in_memory s.memory q.memory g h)

    held_set_time : held γ tm ≡ held γ s.memory
    unfolding tm
    held_set_time = (timed_reads σ s c.now (in_time σ k s c q)).held

    restart_set_time : (g : ℕ) → g < groups γ s.memory → count_after γ Restart tm c g ≡ count_after γ Restart s.memory c g
    restart_set_time g h =
        let m = s.memory in
        ap (λ (i : ℕ). changed (count tm) i (count tm i + 1) g) held_set_time
        ∙ same_or_not (held γ m) none
        (λ n.
        let other : g ≡ held γ m → ⊥ = λ e. not_none σ m q.memory g (held γ m) n h (sym e) in
        count_unchanged (count tm) (held γ m) (count tm (held γ m) + 1) g other
        ∙ count_set_time g h
        ∙ sym (count_unchanged (count m) (held γ m) (count m (held γ m) + 1) g other))
        (λ n. raised_same (count tm) (count m) (held γ m) g (count_set_time (held γ m) (q.memory.holds.group n)) (count_set_time g h))

  pub salt_timed : (k : Kind) (s : Box) (c : Command) → Passed γ k s c → salt_after k (timed γ s c.now).memory c ≡ salt_after k s.memory c
  salt_timed Read s c q = (timed_reads σ s c.now (in_time σ Read s c q)).salt
  salt_timed Entry s c q = (timed_reads σ s c.now (in_time σ Entry s c q)).salt
  salt_timed Page s c q = (timed_reads σ s c.now (in_time σ Page s c q)).salt
  salt_timed (Change u) s c q = (timed_reads σ s c.now (in_time σ (Change u) s c q)).salt
  salt_timed Sync s c q = (timed_reads σ s c.now (in_time σ Sync s c q)).salt
  salt_timed Restart s c q = (timed_reads σ s c.now (in_time σ Restart s c q)).salt
  salt_timed NewSalt s c q = refl
  salt_timed Identify s c q = (timed_reads σ s c.now (in_time σ Identify s c q)).salt
  salt_timed Unknown s c q = (timed_reads σ s c.now (in_time σ Unknown s c q)).salt

  pub counts_timed : (k : Kind) (s : Box) (c : Command) → Passed γ k s c → ((u : Update) → k ≡ Change u → group_of γ c.block < groups γ s.memory)
      → (g : ℕ) → g < groups γ s.memory → count_after γ k (timed γ s c.now).memory c g ≡ count_after γ k s.memory c g
  unfolding tm
  counts_timed Read s c q x g h = count_set_time Read s c q g h
  counts_timed Entry s c q x g h = count_set_time Entry s c q g h
  counts_timed Page s c q x g h = count_set_time Page s c q g h
  counts_timed (Change u) s c q x g h =
      raised_same (count (timed γ s c.now).memory) (count s.memory) (group_of γ c.block) g
      (count_set_time (Change u) s c q (group_of γ c.block) (x u refl)) (count_set_time (Change u) s c q g h)
  counts_timed Sync s c q x g h = count_set_time Sync s c q g h
  counts_timed Restart s c q x g h = restart_set_time Restart s c q g h
  counts_timed NewSalt s c q x g h = refl
  counts_timed Identify s c q x g h = count_set_time Identify s c q g h
  counts_timed Unknown s c q x g h = count_set_time Unknown s c q g h

  module _ (k : Kind) (s : Box) (c : Command) (q : Passed γ k s c) (g : ℕ) where
    pub next_timed : next_update_count γ (timed γ s c.now).memory g ≡ next_update_count γ s.memory g
    next_timed =
        let r = timed_reads σ s c.now (in_time σ k s c q) in
        next_alike σ s.memory (timed γ s c.now).memory g r.held r.updates

    pub leaves_timed : page_leaves γ (timed γ s c.now).memory g ≡ page_leaves γ s.memory g
    leaves_timed =
        let r = timed_reads σ s c.now (in_time σ k s c q) in
        leaves_alike σ s.memory (timed γ s c.now).memory g r.held r.updates

  pub held_timed : (k : Kind) (s : Box) (c : Command) → Passed γ k s c → held_after γ k (timed γ s c.now).memory c ≡ held_after γ k s.memory c
  unfolding tm
  held_timed Read s c q = held_set_time Read s c q
  held_timed Entry s c q = held_set_time Entry s c q
  held_timed Page s c q = held_set_time Page s c q
  held_timed (Change u) s c q =
      ap (λ (b : Bool). elim b [ true ↦ none | false ↦ group_of γ c.block ]) (leaves_timed (Change u) s c q (group_of γ c.block))
  held_timed Sync s c q = refl
  held_timed Restart s c q = refl
  held_timed NewSalt s c q = refl
  held_timed Identify s c q = held_set_time Identify s c q
  held_timed Unknown s c q = held_set_time Unknown s c q

  pub updates_timed : (k : Kind) (s : Box) (c : Command) → Passed γ k s c
      → updates_after γ k (timed γ s c.now).memory c ≡ updates_after γ k s.memory c
  updates_timed Read s c q = (timed_reads σ s c.now (in_time σ Read s c q)).updates
  updates_timed Entry s c q = (timed_reads σ s c.now (in_time σ Entry s c q)).updates
  updates_timed Page s c q = (timed_reads σ s c.now (in_time σ Page s c q)).updates
  updates_timed (Change u) s c q =
      let g = group_of γ c.block in
      ap₂ (λ (b : Bool) (n : ℕ). elim b [ true ↦ 0 | false ↦ n ]) (leaves_timed (Change u) s c q g) (next_timed (Change u) s c q g)
  updates_timed Sync s c q = refl
  updates_timed Restart s c q = refl
  updates_timed NewSalt s c q = refl
  updates_timed Identify s c q = (timed_reads σ s c.now (in_time σ Identify s c q)).updates
  updates_timed Unknown s c q = (timed_reads σ s c.now (in_time σ Unknown s c q)).updates
