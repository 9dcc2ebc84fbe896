-- What is asked of a store's state, by its parts. Assumes nothing.
use mathlib.Core.Path.{◌≡◌}
use mathlib.Core.Bool.{true}
use mathlib.Mathlib.Data.Bool.Basic.{and_elim_left, and_elim_right}
use Prim.Native.Nat.{ℕ, ◌≤◌, ◌<◌}
use borrow.Author.Tests.{le-leb, leb-true, lt-ltb, ltb-true}
use lib.ListN.{length}
use lib.Dec.{leb, ltb}
use Rattle.lockpage.specs.Geometry.{Geometry, Proper}
use Rattle.lockpage.specs.Update.{longest_lock}
use Rattle.versions_machine.specs.Versions.{Versions, is_lock, logged}
use Rattle.versions_machine.specs.Log.{records_per_block, is_sound}

-- what is asked of a sound state
pub record Facts (γ : Geometry) (ν : Versions) : Type 0 where
  pub least : 1 ≤ ν.lock
  pub most : ν.lock ≤ longest_lock
  pub room : length ν.records < records_per_block γ

pub lock_limits : (lock : ℕ) → is_lock lock ≡ true → (1 ≤ lock) × (lock ≤ longest_lock)
lock_limits lock h =
    let a = leb 1 lock in
    let b = leb lock longest_lock in
    (leb-true 1 lock (and_elim_left a b h), leb-true lock longest_lock (and_elim_right a b h))

module _ {γ : Geometry} (σ : Proper γ) where
  pub sound_facts : (ν : Versions) → is_sound γ ν ≡ true → Facts γ ν
  unfolding is_sound
  sound_facts ν h =
      let a = is_lock ν.lock in
      let b = ltb (length ν.records) (records_per_block γ) in
      let l = lock_limits ν.lock (and_elim_left a b h) in
      record { least = l.0; most = l.1; room = ltb-true (length ν.records) (records_per_block γ) (and_elim_right a b h) }

  pub facts_sound : (ν : Versions) → Facts γ ν → is_sound γ ν ≡ true
  unfolding is_sound
  facts_sound ν h =
      rw (
        is_sound,
        le-leb 1 ν.lock h.least,
        le-leb ν.lock longest_lock h.most,
        lt-ltb (length ν.records) (records_per_block γ) h.room,
      )

  pub logged_sound : (ν : Versions) (pointer : ℕ) → 1 ≤ ν.lock → ν.lock ≤ longest_lock → 1 ≤ records_per_block γ → is_sound γ (logged ν pointer) ≡ true
  unfolding logged
  logged_sound ν pointer l m r = facts_sound (logged ν pointer) (record { least = l; most = m; room = r })
