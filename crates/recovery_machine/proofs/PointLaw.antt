-- The store and the box at the point: what the log tells, that nothing is unstored, that the reserve is free, and that none is held.
-- Assumes nothing.
use mathlib.Core.Path.{◌≡◌, ap, sym, subst, ◌∙◌}
use mathlib.Core.List.{List, [], ◌∷◌, ◌++◌}
use Rattle.std.specs.Prelude.{Option, Some}
use Prim.Native.Nat.{ℕ, ◌≤◌}
use native.Mathlib.Omega.{arith}
use Rattle.octets.specs.Part.{AreBytes}
use Rattle.lockpage.specs.Geometry.{Geometry, Proper}
use Rattle.lockpage.specs.State.{state}
use Rattle.addressing.specs.Map.{data_blocks}
use Rattle.addressing.proofs.MapLaw.{data_blocks_some}
use Rattle.memory.specs.Memory.{last_time, groups}
use Rattle.validity.proofs.ValidLaw.{facts}
use Rattle.machine.specs.declared.Kind.{Kind}
use Rattle.machine.specs.declared.Kind.TheVariants.{Sync}
use Rattle.machine.specs.Command.{kind_of}
use Rattle.machine.specs.Run.{Given}
use Rattle.machine.specs.After.{held_after}
use Rattle.machine.specs.Format.{format}
use Rattle.machine.proofs.KindLaw.{sync_kind}
use Rattle.machine.proofs.StepLaw.{accepts}
use Rattle.machine.proofs.ValidBoxLaw.{accepted_valid}
use Rattle.machine.proofs.AfterLaw.{accepted_after}
use Rattle.versions_machine.specs.Versions.{start}
use Rattle.versions_machine.specs.Run.{Call, Flush, Between, Site, calls, Throughout}
use Rattle.versions_machine.specs.Claims.{Quiet, StoreAlone, Newest, KnownIsNewest, NewestReadsBack}
use Rattle.versions_machine.specs.After.{InBox}
use Rattle.versions_machine.specs.History.{LogTells, ReserveFree}
use Rattle.versions_machine.proofs.FreshLaw.{blank_free, start_limits, Fresh, formatted}
use Rattle.versions_machine.proofs.RunLaw.{calls_append, throughout_append}
use Rattle.versions_machine.proofs.FlushLaw.{flush_stores, flush_keeps_newest}
use Rattle.versions_machine.proofs.NewestLaw.{newest_longer}
use Rattle.versions_machine.proofs.Theorems.{known_is_newest, newest_reads_back}
use Rattle.versions_machine.proofs.TimesLaw.{calls_groups}
use Rattle.versions_machine.proofs.ReserveLaw.{calls_reserve}
use Rattle.versions_machine.proofs.HistoryLaw.{log_tells}
use Rattle.recovery_machine.specs.Walk.{content_of}
use Rattle.recovery_machine.specs.Promise.{Use, range, started, used, flushed, synced, StoredAtPoint}
use Rattle.recovery_machine.proofs.HeldLaw.{AtPoint}

module _ {γ : Geometry} (σ : Proper γ) (u : Use) (k : StoredAtPoint γ u) where
  -- ---- all calls up to the point

  is_sync : kind_of u.sync ≡ Sync
  is_sync = sync_kind u.sync.kind u.sync.value k.sync_kind

  abbrev last_calls : List Call
  last_calls = Flush u.point ∷ Between (Given u.sync) ∷ []

  all_calls : calls γ (range γ u) (started γ u) (u.calls ++ last_calls) ≡ synced γ u
  all_calls = calls_append σ (range γ u) (started γ u) u.calls last_calls

  all_alone : Throughout γ (range γ u) StoreAlone (started γ u) (u.calls ++ last_calls)
  all_alone = throughout_append σ (range γ u) StoreAlone (started γ u) u.calls last_calls k.alone (tt, (subst Quiet (sym is_sync) tt, tt))

  pub point_tells : LogTells γ (range γ u) u.lock (synced γ u)
  point_tells =
      subst (LogTells γ (range γ u) u.lock) all_calls
      (log_tells σ (range γ u) u.lock (format γ u.before u.groups u.salt).box (u.calls ++ last_calls) all_alone)

  pub point_stored : (synced γ u).versions.records ≡ []
  point_stored = flush_stores σ (range γ u) (used γ u).versions (used γ u).box u.point k.flush_passes

  -- ---- what was put

  -- the map is as the store's calls left it
  pub point_newest : (synced γ u).versions.newest ≡ (used γ u).versions.newest
  point_newest = flush_keeps_newest σ (range γ u) (used γ u).versions (used γ u).box u.point

  -- a block that it has was answered by the part's last accepted put, and has its content
  pub point_put : (part b : ℕ) → (synced γ u).versions.newest part ≡ Some b
      → (content : List ℕ) × Newest γ (range γ u) (started γ u) u.calls part b content × (content_of γ (synced γ u).box b ≡ content)
  unfolding KnownIsNewest NewestReadsBack
  point_put part b e =
      let s = (format γ u.before u.groups u.salt).box in
      let found = known_is_newest σ (range γ u) u.lock s u.calls part b (ap (λ (f : ℕ → Option ℕ). f part) (sym point_newest) ∙ e) in
      let longer = newest_longer σ (range γ u) part (started γ u) u.calls last_calls b found.0 found.1 (tt, (tt, tt)) in
      let read = newest_reads_back σ (range γ u) u.lock s (u.calls ++ last_calls) part b found.0 all_alone longer in
      (found.0, found.1, ap (λ (x : Site). content_of γ x.box b) (sym all_calls) ∙ read.stored)

  -- ---- the box

  fresh : Fresh σ u.groups (started γ u).box
  fresh = formatted σ u.before u.groups u.salt k.formatted

  pub point_groups : groups γ (synced γ u).box.memory ≡ u.groups
  point_groups =
      ap (λ (x : Site). groups γ x.box.memory) (sym all_calls)
      ∙ calls_groups σ (range γ u) (started γ u) (u.calls ++ last_calls)
      ∙ fresh.same_groups

  pub point_is : AreBytes (synced γ u).box.disk → AtPoint σ (synced γ u).box u.point u.lock
  point_is bytes =
      let s = (flushed γ u).box in
      let r = accepts σ s u.sync k.sync_passes in
      let a = accepted_after σ s u.sync r in
      record {
        valid = facts σ (synced γ u).box.memory (accepted_valid σ s u.sync r).memory;
        time = a.time ∙ k.sync_time;
        none_held = a.held_group ∙ ap (λ (i : Kind). held_after γ i s.memory u.sync) is_sync;
        bytes = bytes;
        some = (start_limits u.lock k.lock_passes).0;
      }

  -- ---- the reserve

  some_blocks : 1 ≤ data_blocks γ u.groups
  some_blocks =
      data_blocks_some σ u.groups
      (subst (λ (g : ℕ). 1 ≤ g) fresh.same_groups (facts σ (started γ u).box.memory fresh.valid.memory).least)

  start_reserve : ReserveFree γ (range γ u) (started γ u)
  unfolding start
  start_reserve =
      let s = (started γ u).box in
      record {
        above = omega arith;
        below = omega (arith, some_blocks);
        free = ap (state (last_time γ s.memory)) (fresh.entries 0 (omega (arith, some_blocks))) ∙ blank_free (last_time γ s.memory);
      }

  in_box : InBox γ (range γ u) (started γ u).box
  in_box =
      let same : data_blocks γ (groups γ (started γ u).box.memory) ≡ data_blocks γ u.groups = ap (data_blocks γ) fresh.same_groups in
      omega arith

  pub point_reserve : ReserveFree γ (range γ u) (synced γ u)
  point_reserve =
      subst (ReserveFree γ (range γ u)) all_calls
      (calls_reserve σ (range γ u) (started γ u) (u.calls ++ last_calls) in_box all_alone start_reserve)
