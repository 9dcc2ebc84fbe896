-- The run of specs/ExampleLeaving.antt: each increment is accepted and counted, and with the 64th update the page leaves. Assumes nothing.
use mathlib.Core.Path.{◌≡◌, refl, ap, ap₂, sym, subst, ◌∙◌}
use mathlib.Core.Bool.{Bool, true, false, ◌&&◌}
use mathlib.Core.List.{List, []}
use Prim.Native.Nat.{ℕ, zero, suc, ◌+◌, ◌≤◌, ◌<◌}
use native.Mathlib.Omega.{arith}
use borrow.Author.Tests.{eq-eqb}
use lib.Dec.{lit<, lit≤}
use Rattle.lockpage.specs.Geometry.{base}
use Rattle.lockpage.specs.declared.Update.TheVariants.{Increment}
use Rattle.lockpage.specs.Entry.{entry, time_of_write, flag, is_frozen}
use Rattle.lockpage.specs.State.{state}
use Rattle.lockpage.specs.Update.{updated, allowed, word_limit, within_limit}
use Rattle.lockpage.specs.declared.Entry.{Entry as PageEntry}
use Rattle.lockpage.specs.Page.{entry_at, blank_entry}
use Rattle.lockpage.proofs.GeometryLaw.{base_proper}
use Rattle.addressing.specs.Map.{group_of, place_of}
use Rattle.memory.specs.Memory.{none, most_updates, update_count}
use Rattle.machine.specs.Command.{Box, kind_numbered}
use Rattle.machine.specs.Tag.{current_entry}
use Rattle.machine.specs.Question.{refusal}
use Rattle.machine.specs.Effect.{next_update_count}
use Rattle.machine.specs.Step.{step}
use Rattle.machine.specs.Run.{run, Throughout}
use Rattle.machine.specs.Leaving.{updates_in, NotRestarted}
use Rattle.machine.specs.Example.{formatted_box, writing, written_box, IsAccepted}
use Rattle.machine.specs.ExampleLeaving.{incrementing, increments, restarting_late, incremented, LeavingMet}
use Rattle.machine.proofs.StepLaw.{step_number}
use Rattle.machine.proofs.LeavingLaw.{next_same, next_new, few_stays, many_leaves}
use Rattle.machine.proofs.AfterLaw.{accepted_after, own_count, own_left}
use Rattle.machine.proofs.ValidBoxLaw.{accepted_valid}
use Rattle.machine.proofs.ExampleLaw.{OnPage, Known, page_on_disk, served, updated_page_lem, updated_known, comes_in, restart_served}
use Rattle.machine.proofs.ExampleRun.{known_formatted, writing_served, known_written}

-- block 0 is written, its page held and updated m times
record Holding (m : ℕ) (s : Box) : Type 0 where
  known : Known 1000 m 0 (entry 500 2000) blank_entry s
  updates : update_count base s.memory ≡ m

-- what a row of increments is
record Row (n : ℕ) (s : Box) : Type 0 where
  accepted : Throughout base IsAccepted s (increments n s)
  unbroken : Throughout base (NotRestarted base) s (increments n s)
  counted : updates_in base 0 s (increments n s) ≡ n

-- ---- one increment

module _ (m : ℕ) (s : Box) (h : Holding m s) (few : m ≤ most_updates) where
  increment_served : refusal base s (incrementing s) ≡ 0
  unfolding kind_numbered time_of_write flag is_frozen state updated allowed word_limit within_limit
  increment_served = served h.known (Increment 0) 6 1000 0 [] refl (lit≤ tt) (lit≤ tt) (omega arith) refl refl refl

  next : next_update_count base s.memory 0 ≡ m + 1
  next = next_same base_proper s.memory 0 h.known.held_is ∙ ap (λ (n : ℕ). n + 1) h.updates

  one_more : m < most_updates → Holding (m + 1) (step base s (incrementing s)).box
  unfolding kind_numbered time_of_write updated group_of
  one_more l =
      let stays = few_stays base_proper s.memory 0 (omega (arith, next)) in
      record {
        known =
            updated_known h.known (Increment 0) 6 1000 0 [] refl increment_served (record { word = lit< tt; stamp = lit< tt }) stays;
        updates =
            (accepted_after base_proper s (incrementing s) increment_served).updates
            ∙ ap (λ (b : Bool). elim b [ true ↦ 0 | false ↦ next_update_count base s.memory 0 ]) stays
            ∙ next;
      }

  last_one : m ≡ most_updates → Known 1000 (m + 1) none (entry 500 2000) (entry 500 2000) (step base s (incrementing s)).box
  unfolding kind_numbered time_of_write updated group_of
  last_one full =
      let c = incrementing s in
      let a = accepted_after base_proper s c increment_served in
      let left = own_left base_proper (Increment 0) s c refl increment_served (many_leaves base_proper s.memory 0 (omega (arith, next))) in
      let page =
      updated_page_lem h.known (Increment 0) 6 1000 0 [] refl increment_served (record { word = lit< tt; stamp = lit< tt }) in
      record {
        valid = accepted_valid base_proper s c increment_served;
        one = a.same_groups ∙ h.known.one;
        last = a.time;
        count_is = own_count base_proper (Increment 0) s c refl increment_served ∙ ap (λ (n : ℕ). n + 1) h.known.count_is;
        held_is = left;
        current = page;
        on_disk = subst (OnPage (entry 500 2000)) (sym (page_on_disk (step base s c).box left)) page;
      }

  -- and more behind it
  row_on : (n : ℕ) → Row n (step base s (incrementing s)).box → Row (suc n) s
  unfolding kind_numbered group_of
  row_on n r =
      let a = step_number base_proper s (incrementing s) ∙ increment_served in
      record {
        accepted = (a, r.accepted);
        unbroken = (λ x k. omega arith, r.unbroken);
        counted =
            ap₂ (λ (b : Bool) (k : ℕ). elim (b && (true && true)) [ true ↦ 1 | false ↦ 0 ] + k)
            (eq-eqb (step base s (incrementing s)).number 0 a) r.counted
            ∙ omega arith;
      }

-- ---- a row of them

-- the page is held
row_held : (n m : ℕ) (s : Box) → Holding m s → m + n ≤ most_updates → Row n s × Holding (m + n) (run base s (increments n s))
row_held zero m s h l =
    (record { accepted = tt; unbroken = tt; counted = refl }, subst (λ (i : ℕ). Holding i s) (omega arith) h)
row_held (suc n) m s h l =
    let rest = row_held n (m + 1) (step base s (incrementing s)).box (one_more m s h (omega arith) (omega arith)) (omega arith) in (
      row_on m s h (omega arith) n rest.0,
      subst (λ (i : ℕ). Holding i (run base s (increments (suc n) s))) (omega arith) rest.1,
    )

-- it has left, with the last of them
row_left : (n m : ℕ) (s : Box) → Holding m s → m + n ≡ most_updates
    → Row (suc n) s × Known 1000 (suc most_updates) none (entry 500 2000) (entry 500 2000) (run base s (increments (suc n) s))
row_left zero m s h e =
    let full : m ≡ most_updates = omega arith in (
      row_on m s h (omega arith) 0 (record { accepted = tt; unbroken = tt; counted = refl }),
      subst (λ (i : ℕ). Known 1000 i none (entry 500 2000) (entry 500 2000) (step base s (incrementing s)).box) (omega arith)
          (last_one m s h (omega arith) full),
    )
row_left (suc n) m s h e =
    let rest = row_left n (m + 1) (step base s (incrementing s)).box (one_more m s h (omega arith) (omega arith)) (omega arith) in
    (row_on m s h (omega arith) (suc n) rest.0, rest.1)

-- ---- from the write on

holding_written : Holding 1 written_box
unfolding written_box kind_numbered group_of
holding_written =
    record {
      known = known_written;
      updates =
          (accepted_after base_proper formatted_box writing writing_served).updates
          ∙ ap (λ (b : Bool). elim b [ true ↦ 0 | false ↦ next_update_count base formatted_box.memory 0 ]) (comes_in known_formatted refl)
          ∙ next_new base_proper formatted_box.memory 0 (λ z. omega (arith, known_formatted.held_is));
    }

-- what a restart falls back to is on the disk
restart_entry : {time count holds : ℕ} {e d : PageEntry} {s : Box} → Known time count holds e d s → refusal base s restarting_late ≡ 0
    → current_entry base (step base s restarting_late).box 0 ≡ d
unfolding kind_numbered group_of place_of
restart_entry {time} {count} {holds} {e} {d} {s} h r =
    ap (λ (p : List ℕ). entry_at p 0) ((accepted_after base_proper s restarting_late r).page 0 (omega (arith, h.one))) ∙ h.on_disk.written

pub leaving_met : LeavingMet
leaving_met =
    let held = row_held 62 1 written_box holding_written (lit≤ tt) in
    let left = row_left 62 1 written_box holding_written refl in
    let early = restart_served held.1.known 1000 (lit≤ tt) (lit≤ tt) in
    let late = restart_served left.1 1000 (lit≤ tt) (lit≤ tt) in
    record {
      written = step_number base_proper formatted_box writing ∙ writing_served;
      followed = left.0.accepted;
      unbroken = left.0.unbroken;
      many = left.0.counted;
      left = left.1.held_is;
      restarted = step_number base_proper (incremented 63) restarting_late ∙ late;
      kept = restart_entry left.1 late;
      held_still = held.1.known.held_is;
      updated = held.1.updates;
      restarted_early = step_number base_proper (incremented 62) restarting_late ∙ early;
      lost = restart_entry held.1.known early;
    }
