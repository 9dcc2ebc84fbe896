-- The premises of the promise can be met: the box that one put, a store on demand and a sync leave is known, command by command, and so is
-- what a restart and an unfreeze do to it. Assumes nothing.
use mathlib.Core.Path.{◌≡◌, refl, ap, sym, subst, ◌∙◌}
use mathlib.Core.List.{List}
use Rattle.std.specs.Prelude.{Option, Some, None}
use Prim.Native.Nat.{ℕ, ◌+◌, ◌≤◌, ◌<◌}
use native.Mathlib.Omega.{arith}
use lib.ListN.{length}
use Rattle.octets.specs.Part.{AreBytes}
use Rattle.lockpage.specs.Geometry.{Geometry, Proper}
use Rattle.lockpage.specs.Size.{block_size}
use Rattle.lockpage.specs.Update.{latest_time}
use Rattle.lockpage.proofs.UpdateLaw.{written_flag, written_word}
use Rattle.addressing.specs.Map.{data_blocks}
use Rattle.memory.specs.Memory.{groups}
use Rattle.machine.specs.Command.{Box}
use Rattle.machine.specs.Question.{refusal, first_no}
use Rattle.machine.specs.Step.{Accepted, step}
use Rattle.machine.specs.Tag.{current_entry}
use Rattle.machine.specs.Format.{format}
use Rattle.machine.specs.Claims.{ByteBox}
use Rattle.machine.proofs.StepLaw.{step_number}
use Rattle.machine.proofs.AfterLaw.{accepted_after}
use Rattle.machine.proofs.FormatLaw.{formats}
use Rattle.versions_machine.specs.Versions.{Versions, start, start_questions, entered, logged}
use Rattle.versions_machine.specs.Allocation.{whole_box}
use Rattle.versions_machine.specs.Foresight.{counts_after, entries_after}
use Rattle.versions_machine.specs.Call.{Result, result_of, last_part, flush}
use Rattle.versions_machine.specs.Run.{Flush, Site, site_of, called}
use Rattle.versions_machine.proofs.SoundLaw.{newest_own}
use Rattle.versions_machine.proofs.ForesightLaw.{Foresees}
use Rattle.versions_machine.proofs.FreshLaw.{start_limits, Fresh, formatted}
use Rattle.versions_machine.proofs.FirstLaw.{fresh_put}
use Rattle.versions_machine.proofs.SecondLaw.{one_record, first_write, counts_then, entries_then, box_then, pointer_then, log_write, box_stored}
use Rattle.versions_machine.proofs.SecondLaw.{stored_foresees, stored_few, stored_groups, second_flush}
use Rattle.recovery_machine.specs.Recover.{result_size}
use Rattle.recovery_machine.specs.Promise.{Use, range, used, flushed, synced, StoredAtPoint, TimedAfter}
use Rattle.recovery_machine.specs.Met.{plain, one_put, attack, Met}
use Rattle.recovery_machine.proofs.PointLaw.{point_newest}
use Rattle.recovery_machine.proofs.PromiseLaw.{recovers}
use Rattle.recovery_machine.proofs.AcceptedLaw.{sync_passes, sync_foresees, sync_none}
use Rattle.recovery_machine.proofs.AttackLaw.{Attackable, attack_restart, attack_unfreeze, attack_unforged, attack_later, attack_timely, attack_recovery}
use Rattle.recovery_machine.proofs.OrderBytesLaw.{log_are, order_leaves, plain_leaves}

module _ {γ : Geometry} (σ : Proper γ) where
  module _ (s : Box) (g : ℕ) (salt : List ℕ) (lock part point : ℕ) (content : List ℕ) (bytes : ByteBox s) (salt-bytes : AreBytes salt)
      (content_bytes : AreBytes content) (a : (format γ s g salt).number ≡ 0) (k : first_no (start_questions lock) ≡ 0) (p : part ≤ last_part)
      (size : length content ≡ block_size γ) (early : point + 1 ≤ latest_time) (some_entries : 4 ≤ γ.entries)
      (some_blocks : 4 ≤ data_blocks γ g) where
    -- ---- the store and the box, after each call

    abbrev u : Use
    u = one_put γ s g salt lock part point content

    abbrev s0 : Box
    s0 = (format γ s g salt).box

    abbrev s1 : Box
    s1 = box_then γ lock point content s0

    abbrev s2 : Box
    s2 = box_stored γ lock point content s0 g part point

    abbrev s3 : Box
    s3 = (step γ s2 (plain γ 7 point)).box

    abbrev stored : Versions
    stored = logged (one_record lock part) (pointer_then γ lock point content s0 g part point)

    -- the box is formatted
    fresh : Fresh σ g s0
    fresh = formatted σ s g salt a

    -- the put is one write, the store on demand another, and the sync follows
    used_is : used γ u ≡ site_of (one_record lock part) s1
    used_is =
        ap (λ (r : Result). site_of r.versions r.box)
        (fresh_put σ g lock point s0 fresh (start_limits lock k) (omega arith) (omega arith) (omega arith) part content p size)

    flush_is : flush γ (whole_box γ g) (one_record lock part) s1 point ≡ result_of 0 0 stored s2
    flush_is =
        second_flush σ g lock point point content s0 fresh (start_limits lock k) (omega arith) (omega arith) some_entries some_blocks size part

    flushed_is : flushed γ u ≡ site_of stored s2
    flushed_is =
        ap (λ (x : Site). called γ (range γ u) x (Flush point)) used_is
        ∙ ap (λ (r : Result). site_of r.versions r.box) flush_is

    synced_is : (synced γ u).box ≡ s3
    synced_is = ap (λ (x : Site). (step γ x.box (plain γ 7 point)).box) flushed_is

    -- ---- the sync

    -- the counts and the entries that it gets, and that it is accepted
    foresees : Foresees σ point s2 (counts_after γ (counts_then γ lock point content s0) (log_write γ lock point content s0 g part point))
        (entries_after (entries_then γ lock point content s0) (log_write γ lock point content s0 g part point))
    foresees = stored_foresees σ g lock point point content s0 fresh (start_limits lock k) (omega arith) (omega arith) some_entries some_blocks size part

    sync_refusal : refusal γ s2 (plain γ 7 point) ≡ 0
    sync_refusal = sync_passes σ s2 point foresees.valid foresees.later (omega arith)

    stored_at_point : StoredAtPoint γ u
    stored_at_point =
        record {
          formatted = a;
          lock_passes = k;
          alone = (tt, tt);
          flush_passes = subst (λ (x : Site). (flush γ (range γ u) x.versions x.box point).number ≡ 0) (sym used_is)
              (ap (λ (r : Result). r.number) flush_is);
          sync_kind = refl;
          sync_time = refl;
          sync_passes = subst (λ (x : Site). Accepted γ x.box (plain γ 7 point)) (sym flushed_is) (step_number σ s2 (plain γ 7 point) ∙ sync_refusal);
        }

    -- ---- the box at the point

    inside : 1 < data_blocks γ (groups γ s3.memory)
    inside =
        let same = (accepted_after σ s2 (plain γ 7 point) sync_refusal).same_groups
        ∙ stored_groups σ g lock point point content s0 fresh (start_limits lock k) (omega arith) (omega arith) some_entries some_blocks size part in
        subst (λ (n : ℕ). 1 < data_blocks γ n) (sym same) (omega arith)

    -- block 1 is frozen under the lock, and two updates were made at most
    attackable : Attackable σ point s3
    attackable =
        let log = log_write γ lock point content s0 g part point in
        let counts = counts_after γ (counts_then γ lock point content s0) log in
        let entries = entries_after (entries_then γ lock point content s0) log in
        let limits = start_limits lock k in
        let few = stored_few σ g lock point point content s0 fresh limits (omega arith) (omega arith) some_entries some_blocks size part 1 (omega arith) in
        record {
          counts = counts;
          entries = entries;
          foresees = sync_foresees σ s2 point counts entries foresees point (omega arith) sync_refusal;
          none_held = sync_none σ s2 point sync_refusal;
          inside = inside;
          few = omega (arith, few);
          frozen = written_flag lock point (current_entry γ s0 1);
          short = omega (arith, written_word lock point (current_entry γ s0 1), limits.1);
        }

    -- each command leaves bytes
    synced_bytes : AreBytes s3.disk
    synced_bytes =
        let b0 = (formats σ s g salt).bytes bytes salt-bytes in
        let b1 = order_leaves σ s0 (first_write γ lock point content s0) b0 content_bytes in
        let b2 = order_leaves σ s1 (log_write γ lock point content s0 g part point) b1
        (log_are γ (one_record lock part).records (pointer_then γ lock point content s0 g part point)) in
        (plain_leaves σ s2 7 point b2).disk

    -- ---- the attack

    at_point : Attackable σ point (synced γ u).box
    at_point = subst (Attackable σ point) (sym synced_is) attackable

    timed_after : TimedAfter γ u (attack γ u)
    timed_after =
        let t = (synced γ u).box in
        record {
          bytes = subst (λ (x : Box). AreBytes x.disk) (sym synced_is) synced_bytes;
          unforged = attack_unforged σ point t at_point early;
          later = attack_later σ point t at_point early;
        }

    -- the map has the put's block
    newest_is : (synced γ u).versions.newest part ≡ Some 1
    unfolding entered start
    newest_is =
        ap (λ (f : ℕ → Option ℕ). f part) (point_newest σ u stored_at_point ∙ ap (λ (x : Site). x.versions.newest) used_is)
        ∙ newest_own (λ k. None) part 1

    -- so each premise is met, and the result names that block
    pub premises_met : (now : ℕ) (result : List ℕ) → point < now → now < point + lock → now ≤ latest_time → length result ≡ result_size
        → Met γ u part now result
    premises_met now result later soon latest long =
        let t = (synced γ u).box in
        record {
          stored = stored_at_point;
          later = timed_after;
          restart_passes = attack_restart σ point t at_point early;
          unfreeze_passes = attack_unfreeze σ point t at_point early;
          accepted = attack_recovery σ point t at_point early now later latest (range γ u) result long;
          named =
              recovers σ u stored_at_point (attack γ u) timed_after now (attack_timely σ point t at_point early now later latest) soon part
              ∙ newest_is;
        }
