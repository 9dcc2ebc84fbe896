-- The runs of specs/Example.antt from the first unfreeze on: one meets the premises of specs/Expiry.antt, one demand 3's, of a block that counts
-- at the start. Assumes nothing.
use mathlib.Core.Path.{◌≡◌, refl, ap, sym, ◌∙◌}
use mathlib.Core.List.{List, [], ◌∷◌}
use Prim.Native.Nat.{ℕ}
use native.Mathlib.Omega.{arith}
use lib.Dec.{lit<, lit≤}
use lib.ListN.{get_or}
use Rattle.octets.specs.Part.{AreBytes}
use Rattle.octets.proofs.RepeatedLaw.{repeated_below}
use Rattle.octets.proofs.BelowLaw.{below_none}
use Rattle.lockpage.specs.Geometry.{base}
use Rattle.lockpage.specs.declared.Entry.{Entry as PageEntry}
use Rattle.lockpage.specs.Entry.{entry, flag, is_frozen}
use Rattle.lockpage.specs.State.{state, state_number}
use Rattle.lockpage.proofs.GeometryLaw.{base_proper}
use Rattle.addressing.specs.Map.{group_of, place_of}
use Rattle.memory.specs.Memory.{none}
use Rattle.machine.specs.declared.Kind.TheVariants.{Entry}
use Rattle.machine.specs.Command.{Box, kind_numbered, answer_size}
use Rattle.machine.specs.Tag.{current_page}
use Rattle.machine.specs.Question.{refusal}
use Rattle.machine.specs.Effect.{state_place}
use Rattle.machine.specs.Step.{step}
use Rattle.machine.specs.Claims.{ByteBox}
use Rattle.machine.specs.Run.{Event, Given, Throughout}
use Rattle.machine.specs.Protection.{Unforged, CountingTo}
use Rattle.machine.specs.Expiry.{Unfreezes, CommandKeepsEntry}
use Rattle.machine.specs.Example.{plain, start, unfreezing, unfrozen_box, later_events, showing_last, last_box, showing_free, to_expiry, syncing_unfrozen}
use Rattle.machine.specs.Example.{counting_start, ExpiryMet, CountingMet}
use Rattle.machine.proofs.QuestionLaw.{asks, no_seventh}
use Rattle.machine.proofs.StepLaw.{step_number}
use Rattle.machine.proofs.TagLaw.{tagged_are, current_are}
use Rattle.machine.proofs.BytesLaw.{accepted_bytes}
use Rattle.machine.proofs.AnswerLaw.{state_answer}
use Rattle.machine.proofs.NotFreeLaw.{byte_of}
use Rattle.machine.proofs.ExampleLaw.{Known, not_forged, entry_served, entry_answers, entry_known, sync_served, sync_known}
use Rattle.machine.proofs.ExampleRun.{known_start, unfreezing_served, known_unfrozen}
use Rattle.machine.proofs.ExamplePremises.{start_bytes_lem, unforged_events}

last_served : refusal base unfrozen_box showing_last ≡ 0
last_served = entry_served known_unfrozen 1700 (lit≤ tt) (lit≤ tt)

known_last : Known 1700 2 0 (entry 1701 2001) (entry 500 2000) last_box
unfolding last_box
known_last = entry_known known_unfrozen 1700 last_served

free_served : refusal base last_box showing_free ≡ 0
free_served = entry_served known_last 1701 (lit≤ tt) (lit≤ tt)

-- the state byte that is shown of block 0
state_of : {time counted holds : ℕ} {e d : PageEntry} {s : Box} → Known time counted holds e d s → (now : ℕ) → refusal base s (plain 2 now) ≡ 0
    → get_or (step base s (plain 2 now)).answer state_place 0 ≡ state_number (state now e)
unfolding kind_numbered group_of place_of
state_of {time} {counted} {holds} {e} {d} {s} h now r =
    byte_of (step base s (plain 2 now)).answer state_place _ (state_answer base_proper s (plain 2 now) refl r)
    ∙ ap (λ (x : PageEntry). state_number (state now x)) h.current.written

-- an entry shown keeps the entry
entry_kept : (s : Box) (now : ℕ) → CommandKeepsEntry base 0 s (plain 2 now)
entry_kept s now =
    record { not_incremented = λ a k b. omega arith; not_written = λ a k b. omega arith; page_stays = λ a k e. omega arith }

unfreezing_bytes : AreBytes unfreezing.proof
unfolding group_of
unfreezing_bytes =
    tagged_are base_proper start.memory 0 (current_page base start 0) (current_are base_proper start 0 start_bytes_lem.memory start_bytes_lem.disk)

-- the first unfreeze, and any events after it that bring no forged page
unfreezes_before : (es : List Event) → Throughout base (Unforged base) start (Given unfreezing ∷ es) → Unfreezes base start unfreezing es
unfolding group_of place_of
unfreezes_before es unforged =
    record {
      kind = refl;
      accepted = step_number base_proper start unfreezing ∙ unfreezing_served;
      lock = omega (arith, ap (λ (e : PageEntry). e.word) known_start.current.written);
      bytes = unfreezing_bytes;
      unforged = unforged;
    }

unforged_to_expiry : Throughout base (Unforged base) start (Given unfreezing ∷ to_expiry)
unfolding unfrozen_box last_box kind_numbered asks
unforged_to_expiry = (
  not_forged known_start 5 1200 0 [],
  (
    λ y. absurd (no_seventh base_proper Entry unfrozen_box showing_last refl refl y),
    (λ y. absurd (no_seventh base_proper Entry last_box showing_free refl refl y), tt),
  ),
)

pub expiry_met : ExpiryMet
unfolding unfrozen_box last_box group_of place_of flag is_frozen state state_number
expiry_met =
    record {
      unfreezes = unfreezes_before to_expiry unforged_to_expiry;
      unfreezes_restarted = unfreezes_before later_events unforged_events;
      lock = ap (λ (e : PageEntry). e.word) known_start.current.written;
      on_disk = known_start.on_disk.written ∙ sym known_start.current.written;
      none_lost = (λ a k e. omega arith, (λ a k e. omega arith, tt));
      entry_stays = (entry_kept unfrozen_box 1700, (entry_kept last_box 1701, tt));
      accepted = (step_number base_proper unfrozen_box showing_last ∙ last_served, (step_number base_proper last_box showing_free ∙ free_served, tt));
      counting = state_of known_unfrozen 1700 last_served;
      free = state_of known_last 1701 free_served;
    }

-- ---- a block that counts at the start

syncing_unfrozen_served : refusal base unfrozen_box syncing_unfrozen ≡ 0
syncing_unfrozen_served = sync_served known_unfrozen 1200 (lit≤ tt) (lit≤ tt)

known_counting_start : Known 1200 2 none (entry 1701 2001) (entry 1701 2001) counting_start
unfolding counting_start
known_counting_start = sync_known known_unfrozen 1200 syncing_unfrozen_served

showing_counting_served : refusal base counting_start showing_last ≡ 0
showing_counting_served = entry_served known_counting_start 1700 (lit≤ tt) (lit≤ tt)

counting_bytes : ByteBox counting_start
unfolding counting_start unfrozen_box
counting_bytes =
    let zeros = repeated_below 256 (answer_size base) 0 (lit< tt) in
    let after = accepted_bytes base_proper start unfreezing unfreezing_served start_bytes_lem
    (record { content = below_none 256 (lit< tt); proof = unfreezing_bytes; answer = zeros }) in
    (accepted_bytes base_proper unfrozen_box syncing_unfrozen syncing_unfrozen_served after.box
    (record { content = below_none 256 (lit< tt); proof = below_none 256 (lit< tt); answer = zeros })
    ).box

pub counting_met : CountingMet
unfolding group_of place_of kind_numbered asks flag
counting_met =
    let on_disk = known_counting_start.on_disk.written in
    record {
      bytes = counting_bytes.disk;
      none_held = known_counting_start.held_is;
      unforged = (λ y. absurd (no_seventh base_proper Entry counting_start showing_last refl refl y), tt);
      last_time_is = known_counting_start.last;
      start_entry_is = on_disk;
      protected =
          CountingTo (ap (λ (e : PageEntry). flag e.stamp) on_disk)
          (omega (arith, known_counting_start.last, ap (λ (e : PageEntry). e.word) on_disk)) (omega (arith, ap (λ (e : PageEntry). e.word) on_disk));
      among =
          record {
            earlier = [];
            later = [];
            split = refl;
            kind = refl;
            block = refl;
            accepted = step_number base_proper counting_start showing_last ∙ showing_counting_served;
          };
      shown = entry_answers known_counting_start 1700 showing_counting_served (record { word = lit< tt; stamp = lit< tt });
    }
