-- The invariant of demand 3. Assumes nothing.
--
-- An entry is safe if it has the start's time of write and holds the block until the bound: frozen under a lock whose expiry, were
-- it unfrozen at the start's time, is the bound or later, or frozen in a run that never unfreezes it, or counting to the bound or
-- later. No update that is allowed before the bound makes a safe entry unsafe: a write is not allowed, an unfreeze counts from no
-- earlier than the start, an increment only adds. A box is safe if the content is the start's and the entry is safe on each page that
-- may become current (WatchedLaw.antt). A box is kept if it is safe while its last time is below the bound; from there on nothing is
-- claimed, so nothing is to be shown of a later write.
use mathlib.Core.Path.{◌≡◌, refl, ap, subst, ◌∙◌}
use mathlib.Core.Bool.{Bool, true}
use mathlib.Core.Logic.{◌⊎◌, inl, inr, ⊎_elim}
use mathlib.Core.List.{List}
use Prim.Native.Nat.{ℕ, ◌≤◌, ◌<◌}
use native.Mathlib.Omega.{arith}
use Rattle.lockpage.specs.Geometry.{Geometry}
use Rattle.lockpage.specs.declared.Entry.{Entry}
use Rattle.lockpage.specs.declared.State.TheVariants.{Free}
use Rattle.lockpage.specs.declared.Update.{Update}
use Rattle.lockpage.specs.declared.Update.TheVariants.{Write, Unfreeze, Increment}
use Rattle.lockpage.specs.Entry.{EntryFits, time_of_write, flag, frozen_flag, unfrozen_flag}
use Rattle.lockpage.specs.State.{state}
use Rattle.lockpage.specs.Update.{latest_time, expiry_at, updated, allowed, within_limit}
use Rattle.lockpage.proofs.StateLaw.{Says, says}
use Rattle.lockpage.proofs.UpdateLaw.{expiry_later, expiry_longer, updated_fits, unfrozen_word, unfrozen_flag_lem, unfrozen_time, grown_word, grown_stamp}
use Rattle.lockpage.proofs.UpdateLaw.{grown_time, allowed_write, allowed_unfreeze}
use Rattle.memory.specs.Memory.{last_time}
use Rattle.machine.specs.Command.{Box}
use Rattle.machine.proofs.WatchedLaw.{Watched}

-- what is watched: a block, its content and time of write at the start, the time before which it is protected, the start's last time,
-- and whether no command unfreezes it
pub record Watch : Type 0 where
  pub block : ℕ
  pub content : List ℕ
  pub time : ℕ
  pub bound : ℕ
  pub start : ℕ
  pub forever : Bool

-- ---- entries

abbrev pub Locked : Watch → Entry → Type 0
Locked w e =
    ((flag e.stamp ≡ frozen_flag) × ((w.bound ≤ expiry_at w.start e.word) ⊎ (w.forever ≡ true)))
    ⊎ ((flag e.stamp ≡ unfrozen_flag) × (w.bound ≤ e.word))

pub record Safe (w : Watch) (e : Entry) : Type 0 where
  pub fits : EntryFits e
  pub time : time_of_write e ≡ w.time
  pub locked : Locked w e

-- a frozen block is not counting
not_both : (stamp : ℕ) → flag stamp ≡ frozen_flag → flag stamp ≡ unfrozen_flag → ⊥
not_both stamp f g = omega arith

pub safe_not_free : (w : Watch) (e : Entry) (t : ℕ) → Safe w e → t < w.bound → state t e ≡ Free → ⊥
safe_not_free w e t h l f =
    let free : Says t e Free = subst (Says t e) f (says t e) in
    ⊎_elim (λ x. not_both e.stamp x.0 free.0) (λ x. omega (arith, x.1, free.1)) h.locked

-- an unfreeze from the start's time on
locked_unfrozen : (w : Watch) (e : Entry) (t : ℕ) → Locked w e → flag e.stamp ≡ frozen_flag → w.start ≤ t
    → (w.forever ≡ true → ⊥) → Locked w (updated Unfreeze t e)
locked_unfrozen w e t h f l n =
    let long : w.bound ≤ expiry_at w.start e.word =
    ⊎_elim (λ x. ⊎_elim (λ y. y) (λ y. absurd (n y)) x.1) (λ x. absurd (not_both e.stamp f x.0)) h in
    inr (unfrozen_flag_lem t e, omega (arith, unfrozen_word t e, expiry_later w.start t e.word l))

locked_grown : (w : Watch) (e : Entry) (value t : ℕ) → Locked w e → Locked w (updated (Increment value) t e)
locked_grown w e value t h =
    let same : flag (updated (Increment value) t e).stamp ≡ flag e.stamp = ap flag (grown_stamp value t e) in
    let more = grown_word value t e in
    let reached = expiry_longer w.start e.word (updated (Increment value) t e).word (omega arith) in
    ⊎_elim
    (λ x. inl (same ∙ x.0, ⊎_elim (λ y. inl (omega (arith, reached))) (λ y. inr y) x.1))
    (λ x. inr (same ∙ x.0, omega (arith, x.1)))
    h

pub safe_updated : (w : Watch) (u : Update) (e : Entry) (t : ℕ) → Safe w e → w.start ≤ t → t < w.bound → t ≤ latest_time
    → allowed u (state t e) ≡ true → within_limit (updated u t e) ≡ true → (u ≡ Unfreeze → w.forever ≡ true → ⊥)
    → Safe w (updated u t e)
safe_updated w (Write lock) e t h s b m a k n = absurd (safe_not_free w e t h b (allowed_write lock (state t e) a))
safe_updated w Unfreeze e t h s b m a k n =
    let found = subst (Says t e) (allowed_unfreeze (state t e) a) (says t e) in
    record {
      fits = updated_fits Unfreeze t e m h.fits k;
      time = unfrozen_time t e ∙ h.time;
      locked = locked_unfrozen w e t h.locked found s (n refl);
    }
safe_updated w (Increment value) e t h s b m a k n =
    record {
      fits = updated_fits (Increment value) t e m h.fits k;
      time = grown_time value t e ∙ h.time;
      locked = locked_grown w e value t h.locked;
    }

-- γ is the box's geometry
module _ (γ : Geometry) where
  -- the content is the start's, and the entry is safe on each page
  abbrev pub SafeBox : Watch → Box → Type 0
  SafeBox w s = Watched γ w.block (λ l. l ≡ w.content) (Safe w) s

  pub record Kept (w : Watch) (s : Box) : Type 0 where
    pub begun : w.start ≤ last_time γ s.memory
    pub safe : last_time γ s.memory < w.bound → SafeBox w s
