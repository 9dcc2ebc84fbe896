-- The runs of specs/Example.antt meet demand 3's premises, and show a protected block. Assumes nothing.
use mathlib.Core.Path.{◌≡◌, refl, ap, ◌∙◌}
use mathlib.Core.List.{List, [], ◌∷◌, ◌++◌}
use Prim.Native.Nat.{ℕ, ◌<◌}
use native.Mathlib.Omega.{arith}
use lib.Dec.{lit<}
use Rattle.octets.specs.Part.{repeated}
use Rattle.octets.proofs.RepeatedLaw.{repeated_below}
use Rattle.octets.proofs.BelowLaw.{below_none}
use Rattle.lockpage.specs.Geometry.{base}
use Rattle.lockpage.specs.Size.{block_size}
use Rattle.lockpage.specs.declared.Entry.{Entry as PageEntry}
use Rattle.lockpage.specs.Entry.{flag, frozen_flag}
use Rattle.lockpage.specs.Page.{blank_entry}
use Rattle.lockpage.proofs.GeometryLaw.{base_proper}
use Rattle.lockpage.proofs.UpdateLaw.{expiry_some}
use Rattle.addressing.specs.Map.{disk_size, group_of, place_of, physical}
use Rattle.disk.specs.Disk.{block}
use Rattle.memory.specs.Layout.{memory_size, salt_size}
use Rattle.memory.specs.Memory.{last_time}
use Rattle.machine.specs.declared.Kind.TheVariants.{Read, Entry, Sync, Restart}
use Rattle.machine.specs.Command.{Box, Command, kind_numbered, answer_size}
use Rattle.machine.specs.Tag.{current_page}
use Rattle.machine.specs.Step.{step, timed, padded, Accepted}
use Rattle.machine.specs.Run.{Event, Given, Queried, run, Throughout}
use Rattle.machine.specs.Query.{shown_state, query_refusal}
use Rattle.machine.specs.Claims.{ByteBox}
use Rattle.machine.specs.Protection.{Unforged, NotUnfrozen, start_entry, Protected, FrozenUnder, NeverUnfrozen}
use Rattle.machine.specs.Example.{asking, formatted_box, writing, written_box, syncing, start, unfreezing, unfrozen_box, showing, shown_box, listing}
use Rattle.machine.specs.Example.{listed_box, restarting, restarted_box, reading_back, read_box, unfreezing_again, counting_box, overwriting, events}
use Rattle.machine.specs.Example.{showing_other, other_box, listing_other, other_listed_box, reading_other, other_events, IsAccepted, ShowsProtected}
use Rattle.machine.specs.Example.{ListsProtected, PremisesMet}
use Rattle.machine.proofs.QuestionLaw.{asks, no_seventh}
use Rattle.machine.proofs.StepLaw.{step_number}
use Rattle.machine.proofs.QueryLaw.{query_number, query_times}
use Rattle.machine.proofs.TagLaw.{tagged_are, current_are}
use Rattle.machine.proofs.BytesLaw.{accepted_bytes}
use Rattle.machine.proofs.AfterLaw.{accepted_after}
use Rattle.machine.proofs.AnswerLaw.{read_answer}
use Rattle.machine.proofs.ExampleLaw.{Known, not_forged, entry_answers}
use Rattle.machine.proofs.ExampleQueryLaw.{counting_shown, frozen_shown, asking_names, asking_answers, asking_pages}
use Rattle.machine.proofs.ExampleRun.{zero_box, as_formatted, known_formatted, writing_served, syncing_served, known_start, unfreezing_served}
use Rattle.machine.proofs.ExampleRun.{known_unfrozen, showing_served, known_shown, listing_served, restarting_served, reading_back_served}
use Rattle.machine.proofs.ExampleRun.{known_read, unfreezing_again_served, known_counting, overwriting_served, showing_other_served, known_other}
use Rattle.machine.proofs.ExampleRun.{listing_other_served, reading_other_served}

-- ---- the premises

formatted_bytes : ByteBox formatted_box
unfolding formatted_box zero_box
formatted_bytes =
    as_formatted.bytes
    (record { memory = repeated_below 256 (memory_size base) 0 (lit< tt); disk = repeated_below 256 (disk_size base 1) 0 (lit< tt) })
    (repeated_below 256 salt_size 0 (lit< tt))

written_bytes : ByteBox written_box
unfolding written_box
written_bytes =
    (accepted_bytes base_proper formatted_box writing writing_served formatted_bytes
    (record {
      content = repeated_below 256 (block_size base) 1 (lit< tt);
      proof =
          tagged_are base_proper formatted_box.memory (group_of base 0) (current_page base formatted_box (group_of base 0))
          (current_are base_proper formatted_box (group_of base 0) formatted_bytes.memory formatted_bytes.disk);
      answer = repeated_below 256 (answer_size base) 0 (lit< tt);
    })
    ).box

pub start_bytes_lem : ByteBox start
unfolding start
start_bytes_lem =
    (accepted_bytes base_proper written_box syncing syncing_served written_bytes
    (record { content = below_none 256 (lit< tt); proof = below_none 256 (lit< tt); answer = repeated_below 256 (answer_size base) 0 (lit< tt) })
    ).box

pub unforged_events : Throughout base (Unforged base) start events
unfolding unfrozen_box shown_box listed_box restarted_box read_box counting_box kind_numbered asks
unforged_events = (
  not_forged known_start 5 1200 0 [],
  (
    λ y. absurd (no_seventh base_proper Entry unfrozen_box showing refl refl y),
    (
      tt,
      (
        λ y. absurd (no_seventh base_proper Restart listed_box restarting refl refl y),
        (
          λ y. absurd (no_seventh base_proper Read restarted_box reading_back refl refl y),
          (not_forged known_read 5 1400 0 [], (not_forged known_counting 4 1901 0 (repeated (block_size base) 2), tt)),
        ),
      ),
    ),
  ),
)

other_unforged : Throughout base (Unforged base) start other_events
unfolding other_box other_listed_box kind_numbered asks
other_unforged = (
  λ y. absurd (no_seventh base_proper Entry start showing_other refl refl y),
  (tt, (λ y. absurd (no_seventh base_proper Read other_listed_box reading_other refl refl y), tt)),
)

accepted_events : Throughout base IsAccepted start events
unfolding unfrozen_box shown_box listed_box restarted_box read_box counting_box
accepted_events = (
  step_number base_proper start unfreezing ∙ unfreezing_served,
  (
    step_number base_proper unfrozen_box showing ∙ showing_served,
    (
      query_number base_proper shown_box listing ∙ listing_served,
      (
        step_number base_proper listed_box restarting ∙ restarting_served,
        (
          step_number base_proper restarted_box reading_back ∙ reading_back_served,
          (
            step_number base_proper read_box unfreezing_again ∙ unfreezing_again_served,
            (step_number base_proper counting_box overwriting ∙ overwriting_served, tt),
          ),
        ),
      ),
    ),
  ),
)

-- ---- what is shown

start_frozen : flag (start_entry base start 0).stamp ≡ frozen_flag
unfolding group_of place_of flag
start_frozen = ap (λ (e : PageEntry). flag e.stamp) known_start.on_disk.written

-- block 0 is protected up to 1000 + 500
protected_before : (t : ℕ) → t < 1501 → Protected base start 0 events other_events t
unfolding group_of place_of
protected_before t l =
    let lock = ap (λ (e : PageEntry). e.word) known_start.on_disk.written in
    FrozenUnder start_frozen
    (omega (arith, known_start.last, lock, expiry_some (last_time base start.memory) (start_entry base start 0).word (omega arith)))

other_not_unfrozen : Throughout base (NotUnfrozen base 0) start other_events
other_not_unfrozen = (λ a k b. omega arith, (tt, (λ a k b. omega arith, tt)))

start_content_is : block base start.disk (physical base 0) ≡ repeated (block_size base) 1
unfolding start written_box kind_numbered
start_content_is =
    (accepted_after base_proper written_box syncing syncing_served).content 0
    ∙ (accepted_after base_proper formatted_box writing writing_served).content 0

restarted_content : block base restarted_box.disk (physical base 0) ≡ repeated (block_size base) 1
unfolding restarted_box listed_box shown_box unfrozen_box timed kind_numbered
restarted_content =
    (accepted_after base_proper listed_box restarting restarting_served).content 0
    ∙ ap (λ (t : Box). block base t.disk (physical base 0)) (query_times base_proper shown_box listing listing_served)
    ∙ (accepted_after base_proper unfrozen_box showing showing_served).content 0
    ∙ (accepted_after base_proper start unfreezing unfreezing_served).content 0
    ∙ start_content_is

other_content : block base other_listed_box.disk (physical base 0) ≡ repeated (block_size base) 1
unfolding other_listed_box other_box timed kind_numbered
other_content =
    ap (λ (t : Box). block base t.disk (physical base 0)) (query_times base_proper other_box listing_other listing_other_served)
    ∙ (accepted_after base_proper start showing_other showing_other_served).content 0
    ∙ start_content_is

-- an accepted command on block 0 up to 1500, among the events of a run from the start
shown_before : {P : List ℕ → Type 0} (earlier later : List Event) (c : Command) → c.block ≡ 0 → c.now < 1501
    → Accepted base (run base start earlier) c → P (step base (run base start earlier) c).answer
    → ShowsProtected c.kind (earlier ++ (Given c ∷ later)) c P
shown_before earlier later c b l a p =
    record {
      among = record { earlier = earlier; later = later; split = refl; kind = refl; block = b; accepted = a };
      protected = protected_before c.now l;
      answers = p;
    }

-- a query up to 1500, with what is shown for block 0 and for block 1
listed_before : {time counted holds : ℕ} {e d : PageEntry} (earlier later : List Event) (now : ℕ) → now < 1501
    → Known time counted holds e d (run base start earlier) → query_refusal base (run base start earlier) (asking now) ≡ 0
    → {answer : List ℕ} → shown_state now e ++ (shown_state now blank_entry ++ shown_state now e) ≡ answer
    → ListsProtected (earlier ++ (Queried (asking now) ∷ later)) (asking now) answer
listed_before earlier later now l h r a =
    record {
      earlier = earlier;
      later = later;
      split = refl;
      names = asking_names now;
      accepted = query_number base_proper (run base start earlier) (asking now) ∙ r;
      protected = protected_before now l;
      answers = asking_answers h now r ∙ a;
      pages = asking_pages h now r;
    }

pub premises_met : PremisesMet
unfolding written_box start unfrozen_box shown_box listed_box restarted_box read_box counting_box other_box other_listed_box group_of place_of kind_numbered asks
premises_met =
    record {
      begins_bytes = formatted_bytes.disk;
      begins_none_held = known_formatted.held_is;
      all_unforged = (
        not_forged known_formatted 4 1000 500 (repeated (block_size base) 1),
        (λ y. absurd (no_seventh base_proper Sync written_box syncing refl refl y), unforged_events),
      );
      all_accepted =
          (step_number base_proper formatted_box writing ∙ writing_served, (step_number base_proper written_box syncing ∙ syncing_served, accepted_events));
      bytes = start_bytes_lem.disk;
      none_held = known_start.held_is;
      unforged = unforged_events;
      other_unforged = other_unforged;
      last_time_is = known_start.last;
      start_entry_is = known_start.on_disk.written;
      start_content_is = start_content_is;
      overwritten = (accepted_after base_proper counting_box overwriting overwriting_served).content 0;
      shown =
          shown_before (Given unfreezing ∷ [])
          (Queried listing ∷ Given restarting ∷ Given reading_back ∷ Given unfreezing_again ∷ Given overwriting ∷ []) showing refl (lit< tt)
          accepted_events.1.0 (entry_answers known_unfrozen 1250 showing_served (record { word = lit< tt; stamp = lit< tt }));
      other_shown =
          shown_before [] (Queried listing_other ∷ Given reading_other ∷ []) showing_other refl (lit< tt)
          (step_number base_proper start showing_other ∙ showing_other_served)
          (entry_answers known_start 1450 showing_other_served (record { word = lit< tt; stamp = lit< tt }));
      read_back =
          shown_before (Given unfreezing ∷ Given showing ∷ Queried listing ∷ Given restarting ∷ [])
          (Given unfreezing_again ∷ Given overwriting ∷ []) reading_back refl (lit< tt) accepted_events.1.1.1.1.0
          (read_answer base_proper restarted_box reading_back refl reading_back_served ∙ ap (padded base) restarted_content);
      other_read =
          shown_before (Given showing_other ∷ Queried listing_other ∷ []) [] reading_other refl (lit< tt)
          (step_number base_proper other_listed_box reading_other ∙ reading_other_served)
          (read_answer base_proper other_listed_box reading_other refl reading_other_served ∙ ap (padded base) other_content);
      listed =
          listed_before (Given unfreezing ∷ Given showing ∷ [])
          (Given restarting ∷ Given reading_back ∷ Given unfreezing_again ∷ Given overwriting ∷ []) 1275 (lit< tt) known_shown listing_served
          counting_shown;
      other_listed = listed_before (Given showing_other ∷ []) (Given reading_other ∷ []) 1475 (lit< tt) known_other listing_other_served frozen_shown;
      to_the_end = λ t. NeverUnfrozen start_frozen other_not_unfrozen other_not_unfrozen;
    }
