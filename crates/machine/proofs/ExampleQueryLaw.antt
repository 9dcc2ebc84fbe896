-- The query of specs/Example.antt in a box of which all is known: it is accepted, what it answers, and what it leaves. Assumes nothing.
use mathlib.Core.Path.{◌≡◌, refl, ap, ap₂, subst, ◌∙◌}
use mathlib.Core.List.{List, [], ◌∷◌, ◌++◌, append-nil, flat_map}
use Prim.Native.Nat.{ℕ, zero, suc, ◌*◌, ◌≤◌, ◌<◌}
use native.Mathlib.Omega.{arith}
use lib.Dec.{lit≤}
use Rattle.octets.specs.Part.{part}
use Rattle.octets.specs.Number.{number, bytes, number_at}
use Rattle.octets.proofs.RepeatedLaw.{repeated_length}
use Rattle.lockpage.specs.Geometry.{base}
use Rattle.lockpage.specs.declared.Entry.{Entry as PageEntry}
use Rattle.lockpage.specs.Entry.{entry, flag, is_frozen}
use Rattle.lockpage.specs.State.{state, state_number, time_left, time_left_bytes}
use Rattle.lockpage.specs.Update.{latest_time}
use Rattle.lockpage.specs.Page.{blank_entry}
use Rattle.lockpage.proofs.GeometryLaw.{base_proper}
use Rattle.addressing.specs.Map.{data_blocks, group_of, place_of}
use Rattle.memory.specs.Memory.{groups}
use Rattle.machine.specs.Command.{Box}
use Rattle.machine.specs.Tag.{current_page, current_entry}
use Rattle.machine.specs.Step.{timed}
use Rattle.machine.specs.Query.{number_count, block_number, listed, numbers, shown_size, shown_state, shown_states, query_refusal, query_step}
use Rattle.machine.specs.Example.{asking}
use Rattle.machine.proofs.QueryLaw.{query_passed, query_accepts, query_times, query_answers, query_valid}
use Rattle.machine.proofs.QueryNumberLaw.{number_answered}
use Rattle.machine.proofs.PagesLaw.{pages_counted}
use Rattle.machine.proofs.ExampleLaw.{OnPage, Known, timed_known}

-- ---- what is shown of three entries, computed

-- of one that counts to 1701, and of one whose expiry is 0, at 1275
pub counting_shown : shown_state 1275 (entry 1701 2001) ++ (shown_state 1275 blank_entry ++ shown_state 1275 (entry 1701 2001))
    ≡ 2 ∷ 170 ∷ 1 ∷ 0 ∷ 0 ∷ 0 ∷ 0 ∷ 0 ∷ 0 ∷ 0 ∷ 5 ∷ 251 ∷ 255 ∷ 255 ∷ 255 ∷ 255 ∷ 255 ∷ 255 ∷ 2 ∷ 170 ∷ 1 ∷ 0 ∷ 0 ∷ 0 ∷ 0 ∷ 0 ∷ 0 ∷ []
unfolding shown_state state_number time_left_bytes state bytes is_frozen time_left flag
counting_shown = refl

-- of one under lock 500, and of the other, at 1475
pub frozen_shown : shown_state 1475 (entry 500 2000) ++ (shown_state 1475 blank_entry ++ shown_state 1475 (entry 500 2000))
    ≡ 1 ∷ 244 ∷ 1 ∷ 0 ∷ 0 ∷ 0 ∷ 0 ∷ 0 ∷ 0 ∷ 0 ∷ 61 ∷ 250 ∷ 255 ∷ 255 ∷ 255 ∷ 255 ∷ 255 ∷ 255 ∷ 1 ∷ 244 ∷ 1 ∷ 0 ∷ 0 ∷ 0 ∷ 0 ∷ 0 ∷ 0 ∷ []
unfolding shown_state state_number time_left_bytes state bytes is_frozen time_left flag
frozen_shown = refl

-- ---- the query

pub asking_names : (now : ℕ) → numbers (asking now).blocks ≡ 0 ∷ 1 ∷ 0 ∷ []
unfolding number_count block_number listed number_at number part
asking_names now = refl

module _ {time counted holds : ℕ} {e d : PageEntry} {s : Box} (h : Known time counted holds e d s) (now : ℕ) where
  in_range : (i : ℕ) → i < 3 → block_number (asking now).blocks i < data_blocks base (groups base s.memory)
  unfolding block_number number_at number part data_blocks
  in_range zero b = omega (arith, h.one)
  in_range (suc zero) b = omega (arith, h.one)
  in_range (suc (suc zero)) b = omega (arith, h.one)
  in_range (suc (suc (suc i))) b = absurd (omega arith)

  pub asking_served : time ≤ now → now ≤ latest_time → query_refusal base s (asking now) ≡ 0
  asking_served later early =
      query_accepts base_proper s (asking now)
      ((number_answered base_proper s (asking now) h.valid (omega (arith, h.last)) early).passes 3
      (record { some = lit≤ tt; few = lit≤ tt; whole = refl }) in_range (repeated_length (shown_size * 3) 0))

  module _ (r : query_refusal base s (asking now) ≡ 0) where
    pub asking_known : Known now counted holds e d (query_step base s (asking now)).box
    asking_known =
        timed_known h now (query_step base s (asking now)).box (query_passed base_proper s (asking now) r).timely
        (query_times base_proper s (asking now) r) (query_valid base_proper s (asking now) r)

    asked : OnPage e (current_page base (timed base s now) 0)
    asked = subst (λ (t : Box). OnPage e (current_page base t 0)) (query_times base_proper s (asking now) r) asking_known.current

    pub asking_answers : (query_step base s (asking now)).answer ≡ shown_state now e ++ (shown_state now blank_entry ++ shown_state now e)
    unfolding shown_states flat_map group_of place_of
    asking_answers =
        let t = timed base s now in
        let own = shown_state now (current_entry base t 0) in
        query_answers base_proper s (asking now) r
        ∙ ap (shown_states base t now) (asking_names now)
        ∙ ap (λ (l : List ℕ). own ++ (shown_state now (current_entry base t 1) ++ l)) (append-nil own)
        ∙ ap₂ (λ (x y : PageEntry). shown_state now x ++ (shown_state now y ++ shown_state now x)) asked.written asked.unwritten

    -- the box has one group
    pub asking_pages : (query_step base s (asking now)).pages ≡ 1
    asking_pages =
        let counted = pages_counted base_proper s (asking now) r in
        omega (arith, counted.some, counted.most, h.one)
