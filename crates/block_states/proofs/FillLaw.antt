-- The answer, filled number by number and group by group. Assumes nothing.
use mathlib.Core.Path.{◌≡◌, refl, ap, sym, subst, ◌∙◌}
use mathlib.Core.List.{List, [], ◌∷◌}
use Prim.Native.Nat.{ℕ, suc, ◌+◌, ◌-◌, ◌*◌, ◌≤◌, ◌<◌}
use native.Mathlib.Omega.{arith}
use lib.ListN.{length, get_or}
use Rattle.octets.specs.Part.{replaced}
use Rattle.octets.specs.Number.{with_number}
use Rattle.octets.proofs.NumberLaw.{with_number_byte}
use Rattle.octets.proofs.ReplacedLaw.{replaced_length, part_same, item_other, replaced_append}
use Rattle.lockpage.specs.Geometry.{Geometry}
use Rattle.lockpage.specs.declared.Entry.{Entry}
use Rattle.lockpage.specs.declared.State.{State}
use Rattle.lockpage.specs.State.{state, state_number, time_left_bytes}
use Rattle.lockpage.specs.Page.{entry_at}
use Rattle.lockpage.proofs.StateLaw.{time_left_bytes_length, state_number_byte}
use Rattle.addressing.specs.Map.{place_of}
use Rattle.machine.specs.Query.{most_numbers, number_count, block_number, shown_size, shown_state}
use Rattle.machine.proofs.CaseLaw.{same_or_not, below_or_not}
use Rattle.machine.proofs.ListedLaw.{shown_state_length}
use Rattle.block_states.specs.Links.{first_naming, NamesAt, group_named}
use Rattle.block_states.specs.Fill.{shown_at, GroupReady, GroupShown}
use Rattle.block_states.proofs.LinkLaw.{first_above, first_most, first_found, first_least}

-- ---- one number

-- the state's byte is stored, then the time left
pub shown_stored : (answer b r : List ℕ) (i now : ℕ) (e : Entry) (s : State) (n : ℕ) → shown_size * i + shown_size ≤ length answer → s ≡ state now e
    → n ≡ state_number s → b ≡ with_number answer (shown_size * i) 1 n → r ≡ replaced b (shown_size * i + 1) (time_left_bytes now e)
    → r ≡ replaced answer (shown_size * i) (shown_state now e)
unfolding shown_state
shown_stored answer b r i now e s n l es en eb er =
    let k = state_number (state now e) in
    let number : n ≡ k = en ∙ ap state_number es in
    let first : b ≡ replaced answer (shown_size * i) (k ∷ []) =
    eb
    ∙ with_number_byte answer (shown_size * i) n (omega (arith, number, state_number_byte (state now e)))
    ∙ ap (λ (d : ℕ). replaced answer (shown_size * i) (d ∷ [])) number in
    er
    ∙ ap (λ (x : List ℕ). replaced x (shown_size * i + 1) (time_left_bytes now e)) first
    ∙ replaced_append answer (shown_size * i) (k ∷ []) (time_left_bytes now e) (omega (arith, time_left_bytes_length now e))

stored_length : (answer : List ℕ) (i now : ℕ) (e : Entry) → shown_size * i + shown_size ≤ length answer
    → length (replaced answer (shown_size * i) (shown_state now e)) ≡ length answer
stored_length answer i now e l = replaced_length answer (shown_size * i) (shown_state now e) (omega (arith, shown_state_length now e))

-- what it shows then, and what the others do
module _ (answer r : List ℕ) (i now : ℕ) (e : Entry) (l : shown_size * i + shown_size ≤ length answer)
    (er : r ≡ replaced answer (shown_size * i) (shown_state now e)) where
  shown_same : shown_at r i ≡ shown_state now e
  shown_same = ap (λ (x : List ℕ). shown_at x i) er ∙ part_same answer (shown_size * i) (shown_state now e) shown_size (shown_state_length now e) l

  shown_other : (j : ℕ) → (j ≡ i → ⊥) → shown_at r j ≡ shown_at answer j
  shown_other j other =
      ap (λ (x : List ℕ). shown_at x j) er ∙ item_other answer shown_size i (shown_state now e) (shown_state_length now e) l j other

-- ---- one group

module _ (γ : Geometry) where
  -- the links were followed up to place i: what the numbers below passed show is stored
  pub record Walked (page blocks : List ℕ) (from now : ℕ) (before after : List ℕ) (i : ℕ) : Type 0 where
    pub passed : ℕ
    pub within : passed ≤ number_count blocks
    pub here : i ≡ first_naming (group_named γ blocks) passed (number_count blocks - passed) (group_named γ blocks from)
    pub own : (j : ℕ) → j < passed → group_named γ blocks j ≡ group_named γ blocks from
        → shown_at after j ≡ shown_state now (entry_at page (place_of γ (block_number blocks j)))
    pub others : (j : ℕ) → (group_named γ blocks j ≡ group_named γ blocks from → ⊥) → shown_at after j ≡ shown_at before j
    pub size : length after ≡ length before

  module _ (page blocks next : List ℕ) (from now : ℕ) (before : List ℕ) (ready : GroupReady γ page blocks next from before) where
    f : ℕ → ℕ
    f = group_named γ blocks

    N : ℕ
    N = number_count blocks

    pub walk_start : (i : ℕ) → i ≡ from → Walked page blocks from now before before i
    walk_start i e =
        let all : number_count blocks ≡ number_count blocks - 0 = omega arith in
        record {
          passed = 0;
          within = omega arith;
          here = e ∙ ready.head ∙ ap (λ (n : ℕ). first_naming (group_named γ blocks) 0 n (group_named γ blocks from)) all;
          own = λ j l e. absurd (omega arith);
          others = λ j e. refl;
          size = refl;
        }

    module _ (answer : List ℕ) (i : ℕ) (h : Walked page blocks from now before answer i) where
      -- from the first place not passed on, the links stay within the list
      inside : h.passed + (N - h.passed) ≤ most_numbers
      unfolding N
      inside = omega (arith, h.within, ready.list.few)

      -- where there is a place, it names the group
      module _ (some : i < most_numbers) where
        found : NamesAt f h.passed (N - h.passed) (f from) i
        unfolding f N
        found =
            subst (NamesAt f h.passed (N - h.passed) (f from)) (sym h.here)
            (first_found f (N - h.passed) h.passed (f from) inside (omega (arith, h.here)))

        pub walk_within : i < number_count blocks
        unfolding N
        walk_within = omega (arith, found.below, h.within)

        pub walk_room : shown_size * i + shown_size ≤ length answer
        walk_room = omega (arith, walk_within, h.size, ready.answer_size_is)

        -- the next place
        next_is : get_or next i 0 ≡ first_naming f (suc i) (N - suc i) (f from)
        unfolding f N
        next_is =
            let total : 0 + N - suc i ≡ N - suc i = omega arith in
            ready.nexts i (omega arith) (omega (arith, walk_within))
            ∙ ap (λ (n : ℕ). first_naming f (suc i) n (f i)) total
            ∙ ap (first_naming f (suc i) (N - suc i)) found.group

        pub walk_less : i < get_or next i 0
        unfolding N
        walk_less =
            omega (arith, next_is, first_above f (N - suc i) (suc i) (f from) (omega (arith, walk_within, ready.list.few)))

        pub walk_most : get_or next i 0 ≤ most_numbers
        unfolding N
        walk_most = omega (arith, next_is, first_most f (N - suc i) (suc i) (f from) (omega (arith, walk_within, ready.list.few)))

        pub walk_step : (e : Entry) (r : List ℕ) (k : ℕ) → e ≡ entry_at page (place_of γ (block_number blocks i))
            → r ≡ replaced answer (shown_size * i) (shown_state now e) → k ≡ get_or next i 0 → Walked page blocks from now before r k
        unfolding f N
        walk_step e r k ee er ek =
            record {
              passed = suc i;
              within = walk_within;
              here = ek ∙ next_is;
              own =
                  λ j l g.
                  same_or_not j i
                  (λ same.
                  ap (shown_at r) same
                  ∙ shown_same answer r i now e walk_room er
                  ∙ ap (shown_state now) (ee ∙ ap (λ (x : ℕ). entry_at page (place_of γ (block_number blocks x))) (sym same)))
                  (λ other.
                  let early : j < h.passed =
                  below_or_not j h.passed
                  (λ y. y)
                  (λ y.
                  absurd
                  (omega (arith, first_least f (N - h.passed) h.passed (f from) j y (omega (arith, walk_within)) g, h.here))) in
                  shown_other answer r i now e walk_room er j other ∙ h.own j early g);
              others =
                  λ j g.
                  shown_other answer r i now e walk_room er j (λ same. g (ap f same ∙ found.group)) ∙ h.others j g;
              size = ap (λ (x : List ℕ). length x) er ∙ stored_length answer i now e walk_room ∙ h.size;
            }

      -- after the last place
      pub walk_end : most_numbers ≤ i → GroupShown γ page blocks from now before answer
      unfolding f N
      walk_end past =
          record {
            own =
                λ j l g.
                below_or_not j h.passed (λ y. h.own j y g)
                (λ y.
                absurd
                (omega (
                  arith,
                  first_least f (N - h.passed) h.passed (f from) j y (omega (arith, l)) g,
                  h.here,
                  ready.list.few,
                )));
            others = λ j l g. h.others j g;
            size = h.size;
          }
