-- What a restart loses, now that pages leave by themselves, after document 02, Q-4: "Offices forget to sync." Each claim is a type; its proof
-- has the claim's name in proofs/Theorems.antt.
use Rattle.std.specs.Prelude.{◌≡◌, Bool, true, false, ◌&&◌, List, [], ◌∷◌, ◌++◌, ℕ, ◌+◌, ◌≤◌, ◌<◌, eqb}
use Rattle.lockpage.specs.Geometry.{Geometry}
use Rattle.lockpage.specs.declared.Update.{Update}
use Rattle.addressing.specs.Map.{group_of}
use Rattle.memory.specs.Memory.{groups, held, none, most_updates, update_count}
use Rattle.machine.specs.declared.Kind.{Kind}
use Rattle.machine.specs.declared.Kind.TheVariants.{Read, Entry, Page, Change, Sync, Restart, NewSalt, Identify, Unknown}
use Rattle.machine.specs.Command.{Box, Command, kind_of}
use Rattle.machine.specs.Tag.{current_page}
use Rattle.machine.specs.Step.{step, Accepted}
use Rattle.machine.specs.Run.{Event, Given, Queried, after, run, Throughout}
use Rattle.machine.specs.After.{Serves}

-- kinds 4, 5 and 6
abbrev pub is_update : Kind → Bool
is_update Read = false
is_update Entry = false
is_update Page = false
is_update (Change u) = true
is_update Sync = false
is_update Restart = false
is_update NewSalt = false
is_update Identify = false
is_update Unknown = false

-- γ is the box's geometry
module _ (γ : Geometry) where
  -- ---- the updates of a run

  -- whether an event is an accepted update of group g
  abbrev pub updates_group : ℕ → Box → Event → Bool
  updates_group g s (Given c) = eqb (step γ s c).number 0 && (is_update (kind_of c) && eqb (group_of γ c.block) g)
  updates_group g s (Queried q) = false

  -- how many of a run are
  abbrev pub updates_in : ℕ → Box → List Event → ℕ
  updates_in g s [] = 0
  updates_in g s (e ∷ es) = elim (updates_group g s e) [ true ↦ 1 | false ↦ 0 ] + updates_in g (after γ s e) es

  -- the event is no accepted restart
  abbrev pub NotRestarted : Box → Event → Type 0
  NotRestarted s (Given c) = Accepted γ s c → c.kind ≡ 8 → ⊥
  NotRestarted s (Queried q) = Unit

  -- ---- what a restart falls back to

  -- restart r after the run es from s: group g's page is the one that was current when the run's last events were still to come, so r loses
  -- their updates of the group and no others
  pub record FallsBack (s : Box) (es : List Event) (g : ℕ) (r : Command) : Type 0 where
    pub earlier : List Event
    pub last : List Event
    pub split : es ≡ earlier ++ last
    pub page : current_page γ (step γ (run γ s es) r).box g ≡ current_page γ (run γ s earlier) g

  -- and these are at most 63, and none where r finds another group's page held, or none
  pub record LosesFew (s : Box) (es : List Event) (g : ℕ) (r : Command) : Type 0 where
    pub back : FallsBack s es g r
    pub few : updates_in g (run γ s back.earlier) back.last ≤ most_updates
    pub held_only : (held γ (run γ s es).memory ≡ g → ⊥) → updates_in g (run γ s back.earlier) back.last ≡ 0

  -- whatever the events, from a box that does not hold the group's page
  unfoldable pub RestartLosesFew : Type 0
  RestartLosesFew = (s : Box) (es : List Event) (g : ℕ) (r : Command) → (held γ s.memory ≡ g → ⊥) → g < groups γ s.memory
      → r.kind ≡ 8 → Accepted γ (run γ s es) r → LosesFew s es g r

  -- and no restart came between s and that page, so it has every update that the box s has
  pub record LosesNoneBefore (s : Box) (es : List Event) (g : ℕ) (r : Command) : Type 0 where
    pub back : FallsBack s es g r
    pub unbroken : Throughout γ NotRestarted s back.earlier

  -- an accepted update c that 63 more of its group follow is not lost, whatever else comes between but a restart: the first restart after
  -- them falls back to a page that was current after c. Then none is held, and the claim above speaks of the restarts to come
  unfoldable pub FollowedUpdateStays : Type 0
  FollowedUpdateStays = (s : Box) (c : Command) (u : Update) (es : List Event) (r : Command) → kind_of c ≡ Change u → Accepted γ s c
      → Throughout γ NotRestarted (step γ s c).box es → most_updates ≤ updates_in (group_of γ c.block) (step γ s c).box es
      → r.kind ≡ 8 → Accepted γ (run γ (step γ s c).box es) r → LosesNoneBefore (step γ s c).box es (group_of γ c.block) r

  -- ---- the 64th update

  -- its page is held no more, and what it answers serves, after a restart too: the page was not lost
  pub record LeftServes (s : Box) (c r : Command) : Type 0 where
    pub none_held : held γ (step γ s c).box.memory ≡ none
    pub serves : Serves γ (step γ s c).box (group_of γ c.block) (step γ s c).answer
    pub serves_restarted : r.kind ≡ 8 → Accepted γ (step γ s c).box r
        → Serves γ (step γ (step γ s c).box r).box (group_of γ c.block) (step γ s c).answer

  unfoldable pub LeftPageServes : Type 0
  LeftPageServes = (s : Box) (c : Command) (u : Update) (r : Command) → kind_of c ≡ Change u → Accepted γ s c
      → held γ s.memory ≡ group_of γ c.block → update_count γ s.memory ≡ most_updates → LeftServes s c r
