-- The claims of specs/ hold. Assumes nothing.
use mathlib.Core.Path.{refl, ap, sym, subst, ◌∙◌}
use mathlib.Core.List.{List, [], ◌∷◌, ◌++◌}
use Prim.Native.Nat.{ℕ}
use Rattle.lockpage.specs.Geometry.{Geometry, Proper}
use Rattle.versions_machine.specs.Versions.{Range, start}
use Rattle.versions_machine.proofs.NewestLaw.{known_is_put}
use Rattle.versions_machine.specs.Run.{Call, PutPart, Site, start_site, called, calls, Throughout}
use Rattle.versions_machine.specs.Claims.{ReadsBack, StoreAlone, NotPutAgain, Newest, NewestReadsBack, NewestIsKnown, KnownIsNewest, PutPassesIfAllYes}
use Rattle.versions_machine.specs.Claims.{FlushPassesIfAllYes, PutIsForeseen, RefusalAltersNothing, FirstPutIsAccepted, ReplacingPutIsAccepted}
use Rattle.versions_machine.specs.Claims.{FirstFlushIsAccepted, FullPutIsAccepted}
use Rattle.versions_machine.specs.After.{AcceptedPutDoes, AcceptedFlushDoes}
use Rattle.versions_machine.specs.History.{LogIsWhole, ReserveStaysFree}
use Rattle.versions_machine.specs.Locks.{AcceptedPutLocks, AcceptedFlushLocks}
use Rattle.versions_machine.proofs.HistoryLaw.{log_tells}
use Rattle.versions_machine.proofs.ReserveLaw.{calls_reserve}
use Rattle.versions_machine.proofs.DoesLaw.{put_does, flush_does}
use Rattle.versions_machine.proofs.LocksLaw.{put_locks, flush_locks}
use Rattle.versions_machine.proofs.CarryLaw.{put_unaltered, flush_unaltered}
use Rattle.versions_machine.proofs.FirstLaw as first
use Rattle.versions_machine.proofs.ReplaceLaw as replace
use Rattle.versions_machine.proofs.FullLaw as full
use Rattle.versions_machine.proofs.AcceptLaw.{put_passes, flush_passes, put_foreseen}
use Rattle.versions_machine.proofs.RunLaw.{Kept, Tracked, start_kept, put_tracked, calls_append, throughout_front, throughout_back, calls_kept}
use Rattle.versions_machine.proofs.RunLaw.{calls_tracked, held_read}

module _ {γ : Geometry} (σ : Proper γ) where
  pub first_put_is_accepted : FirstPutIsAccepted γ
  first_put_is_accepted = first.first_put_is_accepted σ

  pub replacing_put_is_accepted : ReplacingPutIsAccepted γ
  replacing_put_is_accepted = replace.replacing_put_is_accepted σ

  pub full_put_is_accepted : FullPutIsAccepted γ
  full_put_is_accepted = full.full_put_is_accepted σ

  pub first_flush_is_accepted : FirstFlushIsAccepted γ
  first_flush_is_accepted = first.first_flush_is_accepted σ

module _ {γ : Geometry} (σ : Proper γ) (ρ : Range) where
  -- the newest version of a part is tracked to the end
  tracked : (x : Site) (cs : List Call) (part b : ℕ) (content : List ℕ) → Kept σ ρ x → Throughout γ ρ StoreAlone x cs
      → Newest γ ρ x cs part b content → Tracked σ ρ part b content (calls γ ρ x cs)
  tracked x cs part b content k q n =
      let c = PutPart part n.now content in
      let alone : Throughout γ ρ StoreAlone x (n.earlier ++ (c ∷ n.later)) = subst (Throughout γ ρ StoreAlone x) n.split q in
      let y = calls γ ρ x n.earlier in
      let kept = calls_kept σ ρ x n.earlier (throughout_front σ ρ StoreAlone x n.earlier (c ∷ n.later) alone) k in
      let then = throughout_back σ ρ StoreAlone x n.earlier (c ∷ n.later) alone in
      let last =
      subst (λ (z : Site). Throughout γ ρ (NotPutAgain γ ρ part) z n.later) (calls_append σ ρ x n.earlier (c ∷ [])) n.last in
      subst (Tracked σ ρ part b content)
      (sym (ap (calls γ ρ x) n.split ∙ calls_append σ ρ x n.earlier (c ∷ n.later)))
      (calls_tracked σ ρ part b content (called γ ρ y c) n.later then.1 last
      (put_tracked σ ρ y part n.now b content n.accepted n.answered kept))

  pub newest_reads_back : NewestReadsBack γ ρ
  unfolding NewestReadsBack
  newest_reads_back lock s cs part b content q n =
      let t = tracked (start_site γ ρ lock s) cs part b content (start_kept σ ρ lock s) q n in
      let end = (calls γ ρ (start_site γ ρ lock s) cs).box in
      subst (ReadsBack γ end b) t.same (held_read σ ρ end b (t.contents part) (t.sound.holds part b t.known))

  pub newest_is_known : NewestIsKnown γ ρ
  unfolding NewestIsKnown
  newest_is_known lock s cs part b content q n =
      (tracked (start_site γ ρ lock s) cs part b content (start_kept σ ρ lock s) q n).known

  pub known_is_newest : KnownIsNewest γ ρ
  unfolding KnownIsNewest start
  known_is_newest lock s cs part b = known_is_put σ ρ part (start_site γ ρ lock s) cs b refl

  pub put_passes_if_all_yes : PutPassesIfAllYes γ ρ
  unfolding PutPassesIfAllYes
  put_passes_if_all_yes = put_passes σ ρ

  pub flush_passes_if_all_yes : FlushPassesIfAllYes γ ρ
  unfolding FlushPassesIfAllYes
  flush_passes_if_all_yes = flush_passes σ ρ

  pub put_is_foreseen : PutIsForeseen γ ρ
  unfolding PutIsForeseen
  put_is_foreseen = put_foreseen σ ρ

  pub refusal_alters_nothing : RefusalAltersNothing γ ρ
  unfolding RefusalAltersNothing
  refusal_alters_nothing ν s part now content = (put_unaltered γ ρ ν s part now content, flush_unaltered γ ρ ν s now)

  -- ---- specs/After.antt

  pub accepted_put_does : AcceptedPutDoes γ ρ
  unfolding AcceptedPutDoes
  accepted_put_does = put_does σ ρ

  pub accepted_flush_does : AcceptedFlushDoes γ ρ
  unfolding AcceptedFlushDoes
  accepted_flush_does = flush_does σ ρ

  -- ---- specs/Locks.antt

  pub accepted_put_locks : AcceptedPutLocks γ ρ
  unfolding AcceptedPutLocks
  accepted_put_locks = put_locks σ ρ

  pub accepted_flush_locks : AcceptedFlushLocks γ ρ
  unfolding AcceptedFlushLocks
  accepted_flush_locks = flush_locks σ ρ

  -- ---- specs/History.antt

  pub log_is_whole : LogIsWhole γ ρ
  unfolding LogIsWhole
  log_is_whole = log_tells σ ρ

  pub reserve_stays_free : ReserveStaysFree γ ρ
  unfolding ReserveStaysFree
  reserve_stays_free = calls_reserve σ ρ
