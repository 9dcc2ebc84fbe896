-- What an accepted command does to the box, field by field: the last time, the salt, the counts, the held group, its updates, each
-- group's current page and each block's content. Each claim is a type; its proof has the claim's name in proofs/Theorems.antt.
use Rattle.std.specs.Prelude.{◌≡◌, true, false, List, [], ◌∷◌, ℕ, ◌+◌, ◌<◌, eqb}
use Rattle.lockpage.specs.Geometry.{Geometry}
use Rattle.lockpage.specs.declared.Update.{Update}
use Rattle.lockpage.specs.declared.Update.TheVariants.{Write, Unfreeze, Increment}
use Rattle.addressing.specs.Map.{group_of, physical, page_block}
use Rattle.disk.specs.Disk.{block}
use Rattle.memory.specs.Memory.{salt, count, last_time, groups, held, none, most_updates, update_count, held_page}
use Rattle.memory.specs.Claims.{changed}
use Rattle.machine.specs.declared.Kind.{Kind}
use Rattle.machine.specs.declared.Kind.TheVariants.{Read, Entry, Page, Change, Sync, Restart, NewSalt, Identify, Unknown}
use Rattle.machine.specs.Command.{Box, Command, kind_of, brought_page}
use Rattle.machine.specs.Tag.{current_page}
use Rattle.machine.specs.Question.{question7, HasYes}
use Rattle.machine.specs.Effect.{store, next_update_count, page_leaves, change, changed_page}
use Rattle.machine.specs.Step.{step, Accepted}

-- the salt: a new one is the data
abbrev pub salt_after : Kind → List ℕ → Command → List ℕ
salt_after Read m c = salt m
salt_after Entry m c = salt m
salt_after Page m c = salt m
salt_after (Change u) m c = salt m
salt_after Sync m c = salt m
salt_after Restart m c = salt m
salt_after NewSalt m c = c.content
salt_after Identify m c = salt m
salt_after Unknown m c = salt m

-- γ is the box's geometry
module _ (γ : Geometry) where
  -- the count of group g: an update raises its group's by 1, a restart the held one's, a new salt makes all 0
  abbrev pub count_after : Kind → List ℕ → Command → ℕ → ℕ
  count_after Read m c g = count m g
  count_after Entry m c g = count m g
  count_after Page m c g = count m g
  count_after (Change u) m c g = changed (count m) (group_of γ c.block) (count m (group_of γ c.block) + 1) g
  count_after Sync m c g = count m g
  count_after Restart m c g = changed (count m) (held γ m) (count m (held γ m) + 1) g
  count_after NewSalt m c g = 0
  count_after Identify m c g = count m g
  count_after Unknown m c g = count m g

  -- the held group: an update's, unless its page leaves
  abbrev pub held_after : Kind → List ℕ → Command → ℕ
  held_after Read m c = held γ m
  held_after Entry m c = held γ m
  held_after Page m c = held γ m
  held_after (Change u) m c = elim (page_leaves γ m (group_of γ c.block)) [ true ↦ none | false ↦ group_of γ c.block ]
  held_after Sync m c = none
  held_after Restart m c = none
  held_after NewSalt m c = none
  held_after Identify m c = held γ m
  held_after Unknown m c = held γ m

  -- document 02, Q-4: the updates of the held page, "0 when none is held"
  abbrev pub updates_after : Kind → List ℕ → Command → ℕ
  updates_after Read m c = update_count γ m
  updates_after Entry m c = update_count γ m
  updates_after Page m c = update_count γ m
  updates_after (Change u) m c = elim (page_leaves γ m (group_of γ c.block)) [ true ↦ 0 | false ↦ next_update_count γ m (group_of γ c.block) ]
  updates_after Sync m c = 0
  updates_after Restart m c = 0
  updates_after NewSalt m c = 0
  updates_after Identify m c = update_count γ m
  updates_after Unknown m c = update_count γ m

  -- the current page of group g: an update's own group has the changed page, and a restart falls back to the disk's
  abbrev pub page_after : Kind → Box → Command → ℕ → List ℕ
  page_after Read s c g = current_page γ s g
  page_after Entry s c g = current_page γ s g
  page_after Page s c g = current_page γ s g
  page_after (Change u) s c g = elim (eqb (group_of γ c.block) g) [ true ↦ changed_page γ u c | false ↦ current_page γ s g ]
  page_after Sync s c g = current_page γ s g
  page_after Restart s c g = block γ s.disk (page_block γ g)
  page_after NewSalt s c g = current_page γ s g
  page_after Identify s c g = current_page γ s g
  page_after Unknown s c g = current_page γ s g

  -- the content of data block a: only a write changes its own
  abbrev pub content_after : Kind → List ℕ → Command → ℕ → List ℕ
  content_after Read disk c a = block γ disk (physical γ a)
  content_after Entry disk c a = block γ disk (physical γ a)
  content_after Page disk c a = block γ disk (physical γ a)
  content_after (Change (Write lock)) disk c a = elim (eqb c.block a) [ true ↦ c.content | false ↦ block γ disk (physical γ a) ]
  content_after (Change Unfreeze) disk c a = block γ disk (physical γ a)
  content_after (Change (Increment value)) disk c a = block γ disk (physical γ a)
  content_after Sync disk c a = block γ disk (physical γ a)
  content_after Restart disk c a = block γ disk (physical γ a)
  content_after NewSalt disk c a = block γ disk (physical γ a)
  content_after Identify disk c a = block γ disk (physical γ a)
  content_after Unknown disk c a = block γ disk (physical γ a)

  pub record After (s : Box) (c : Command) : Type 0 where
    pub time : last_time γ (step γ s c).box.memory ≡ c.now
    pub same_groups : groups γ (step γ s c).box.memory ≡ groups γ s.memory
    pub new_salt_is : salt (step γ s c).box.memory ≡ salt_after (kind_of c) s.memory c
    pub counts : (g : ℕ) → g < groups γ s.memory → count (step γ s c).box.memory g ≡ count_after (kind_of c) s.memory c g
    pub held_group : held γ (step γ s c).box.memory ≡ held_after (kind_of c) s.memory c
    pub updates : update_count γ (step γ s c).box.memory ≡ updates_after (kind_of c) s.memory c
    pub page : (g : ℕ) → g < groups γ s.memory → current_page γ (step γ s c).box g ≡ page_after (kind_of c) s c g
    pub content : (a : ℕ) → block γ (step γ s c).box.disk (physical γ a) ≡ content_after (kind_of c) s.disk c a

  unfoldable pub AcceptedDoes : Type 0
  AcceptedDoes = (s : Box) (c : Command) → Accepted γ s c → After s c

  -- "Does the new salt differ from the present one?": an accepted one leaves another salt
  unfoldable pub NewSaltDiffers : Type 0
  NewSaltDiffers = (s : Box) (c : Command) → Accepted γ s c → c.kind ≡ 9 → salt (step γ s c).box.memory ≡ salt s.memory → ⊥

  -- document 02, Q-9, on the order of the stores: "the held page (in kinds 4 to 6 only another group's), the data"
  unfoldable pub HeldPageFirst : Type 0
  HeldPageFirst = (s : Box) (c : Command) (lock : ℕ) → (held γ s.memory ≡ none → ⊥) → (held γ s.memory ≡ group_of γ c.block → ⊥)
      → (change γ (Write lock) s c).stores
      ≡ store (page_block γ (held γ s.memory)) (held_page γ s.memory) ∷ store (physical γ c.block) c.content ∷ []

  -- "the page that leaves by itself": the 64th update of a held page stores its data, then the changed page
  unfoldable pub LeavingPageLast : Type 0
  LeavingPageLast = (s : Box) (c : Command) (lock : ℕ) → held γ s.memory ≡ group_of γ c.block → update_count γ s.memory ≡ most_updates
      → (change γ (Write lock) s c).stores
      ≡ store (physical γ c.block) c.content ∷ store (page_block γ (group_of γ c.block)) (changed_page γ (Write lock) c) ∷ []

  -- ---- what kinds 3 to 6 answer serves the next update

  -- the proof brings the current page of group g, and any update of that group gets yes to question 7 with it
  pub record Serves (t : Box) (g : ℕ) (proof : List ℕ) : Type 0 where
    pub page : brought_page γ proof ≡ current_page γ t g
    pub matches : (u : Update) → HasYes (question7 γ (Change u) t.memory g proof)

  -- "its current page and tag"; "that page with its new tag": an update that brings them next matches, and its page is not forged
  pub record AnswerServes (s : Box) (c : Command) : Type 0 where
    pub shown : kind_of c ≡ Page → Serves (step γ s c).box c.block (step γ s c).answer
    pub changed_page_is : (u : Update) → kind_of c ≡ Change u → Serves (step γ s c).box (group_of γ c.block) (step γ s c).answer

  unfoldable pub AnswersServe : Type 0
  AnswersServe = (s : Box) (c : Command) → Accepted γ s c → AnswerServes s c
