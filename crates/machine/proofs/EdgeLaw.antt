-- The starred edge values: computed, but for the expiry, which is shown of every time of write, and the two locks, of every write. Assumes
-- nothing.
use mathlib.Core.Path.{◌≡◌, refl, ap, sym, subst, ◌∙◌}
use mathlib.Core.Bool.{Bool, true, false}
use mathlib.Core.List.{[], ◌∷◌}
use Prim.Native.Nat.{ℕ}
use lib.Dec.{leb, lit<, lit≤}
use lib.IntN.{ℤ}
use Rattle.octets.specs.Number.{bytes}
use Rattle.octets.specs.Signed.{twos}
use Rattle.lockpage.specs.Geometry.{base}
use Rattle.lockpage.specs.declared.Entry.{Entry}
use Rattle.lockpage.specs.declared.State.{State}
use Rattle.lockpage.specs.declared.Update.TheVariants.{Write}
use Rattle.lockpage.specs.Entry.{entry_bytes, stamp_of, time_of_write, flag, unfrozen_flag, is_frozen}
use Rattle.lockpage.specs.State.{state, time_left_size, time_left_bytes}
use Rattle.lockpage.specs.Update.{longest_lock, expiry_at, updated, allowed, within_limit}
use Rattle.lockpage.proofs.GeometryLaw.{base_proper}
use Rattle.lockpage.proofs.EntryLaw.{flag_stamp_of, frozen_yes, frozen_no}
use Rattle.lockpage.proofs.StateLaw.{state_counting, state_free, left_ahead, left_past}
use Rattle.lockpage.proofs.UpdateLaw.{within_lock, written_word, written_flag, allowed_write}
use Rattle.addressing.specs.Map.{physical, page_block}
use Rattle.addressing.proofs.Theorems.{papers_map}
use Rattle.machine.specs.declared.Kind.{Kind}
use Rattle.machine.specs.declared.Kind.TheVariants.{Change}
use Rattle.machine.specs.Command.{Box, Command, brought_entry}
use Rattle.machine.specs.Question.{Put, NotPut, question10, questions_to, questions, first_no, refusal, AllYes}
use Rattle.machine.specs.Step.{step, Accepted}
use Rattle.machine.specs.EdgeValues.{EdgeValues, expiring, locking}
use Rattle.machine.proofs.KindLaw.{write_kind}
use Rattle.machine.proofs.QuestionLaw.{passes_on, all_yes, to_ninth}
use Rattle.machine.proofs.StepLaw.{step_number, accepts}

-- question 10 of a write looks at its lock
lock_within : (lock now : ℕ) (e : Entry) → within_limit (updated (Write lock) now e) ≡ leb lock longest_lock
lock_within lock now e =
    sym (within_lock (updated (Write lock) now e) (frozen_yes (updated (Write lock) now e).stamp (written_flag lock now e)))
    ∙ ap (λ (w : ℕ). leb w longest_lock) (written_word lock now e)

-- question 9 of a write does not
write_allowed : (a b : ℕ) (s : State) → allowed (Write a) s ≡ true → allowed (Write b) s ≡ true
unfolding allowed
write_allowed a b s h = subst (λ (t : State). allowed (Write b) t ≡ true) (sym (allowed_write a s h)) refl

module _ (s : Box) (c : Command) (k : c.kind ≡ 4) (a : Accepted base s (locking c 0)) where
  -- the first nine have yes with any lock, if they have with lock 0
  nine : (lock : ℕ) → AllYes (to_ninth base (Write lock) s (locking c lock))
  nine lock =
      let h = all_yes base_proper (Change (Write 0)) s (locking c 0) (write_kind c.kind 0 k) (accepts base_proper s (locking c 0) a) in (
        h.0,
        (
          h.1.0,
          (
            refl,
            (
              h.1.1.1.0,
              (
                h.1.1.1.1.0,
                (
                  h.1.1.1.1.1.0,
                  (
                    h.1.1.1.1.1.1.0,
                    (h.1.1.1.1.1.1.1.0, (write_allowed 0 lock (state c.now (brought_entry base c)) h.1.1.1.1.1.1.1.1.0, tt)),
                  ),
                ),
              ),
            ),
          ),
        ),
      )

  -- then the tenth decides
  tenth : (lock : ℕ) → (step base s (locking c lock)).number ≡ first_no (Put 10 (leb lock longest_lock) ∷ NotPut ∷ [])
  unfolding refusal questions
  tenth lock =
      let d = locking c lock in
      let u = Write lock in
      step_number base_proper s d
      ∙ ap (λ (i : Kind). first_no (questions_to base i s d)) (write_kind c.kind lock k)
      ∙ passes_on (to_ninth base u s d) (question10 base (Change u) c.now (brought_entry base c) ∷ NotPut ∷ []) (nine lock)
      ∙ ap (λ (b : Bool). first_no (Put 10 b ∷ NotPut ∷ [])) (lock_within lock c.now (brought_entry base c))

-- an entry with expiry 1700 is not frozen
not_frozen : (time : ℕ) → is_frozen (stamp_of time unfrozen_flag) ≡ false
not_frozen time = frozen_no (stamp_of time unfrozen_flag) (flag_stamp_of time unfrozen_flag (lit< tt))

pub edge_values : EdgeValues
unfolding physical page_block bytes entry_bytes time_of_write flag is_frozen state time_left_bytes expiry_at updated first_no
edge_values =
    record {
      block_63 = refl;
      block_64 = refl;
      block_1023 = refl;
      page_15 = refl;
      every_block = papers_map;
      written_bytes = refl;
      unfrozen_bytes = refl;
      grown_word = refl;
      before_left = λ time. left_ahead 1650 (expiring time) (not_frozen time) (lit≤ tt);
      before_state = λ time. state_counting 1650 (expiring time) (not_frozen time) (lit< tt);
      reached_left = λ time. left_ahead 1700 (expiring time) (not_frozen time) (lit≤ tt);
      reached_state = λ time. state_free 1700 (expiring time) (not_frozen time) (lit≤ tt);
      past_left = λ time. ap (λ (z : ℤ). bytes time_left_size (twos z)) (left_past 1750 (expiring time) (not_frozen time) 49 refl);
      unlocked_state = refl;
      longest_lock_is = λ s c k a. tenth s c k a 2147483647;
      longer_lock = λ s c k a. tenth s c k a 2147483648;
    }
