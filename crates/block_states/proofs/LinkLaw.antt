-- The links, made from the last number to the first. Assumes nothing.
use mathlib.Core.Path.{◌≡◌, ap, sym, subst, ◌∙◌}
use mathlib.Core.Bool.{true, false}
use mathlib.Core.List.{List, any}
use Prim.Native.Nat.{ℕ, zero, suc, ◌+◌, ◌-◌, ◌≤◌, ◌<◌}
use native.Mathlib.Omega.{arith}
use borrow.Author.Tests.{eq-eqb, ne_eqb}
use lib.Dec.{eqb}
use lib.ListN.{length, get_or, set, length-set}
use lib.Seq.{get_or-set_same, get_or-set_other}
use Rattle.octets.specs.Part.{repeated}
use Rattle.octets.proofs.RepeatedLaw.{repeated_length, repeated_at}
use Rattle.machine.specs.Query.{most_numbers, listed, distinct}
use Rattle.machine.proofs.CaseLaw.{same_or_not}
use Rattle.machine.proofs.ListedLaw.{listed_length, any_listed, none_listed, distinct_repeat, distinct_new, distinct_few}
use Rattle.block_states.specs.Links.{first_naming, NamesAt, Linked}

module _ (f : ℕ → ℕ) where
  -- ---- the first place of a group

  first_here : (i n g : ℕ) → f i ≡ g → first_naming f i (suc n) g ≡ i
  unfolding first_naming
  first_here i n g e = rw (first_naming, eq-eqb (f i) g e)

  first_later : (i n g : ℕ) → (f i ≡ g → ⊥) → first_naming f i (suc n) g ≡ first_naming f (suc i) n g
  unfolding first_naming
  first_later i n g e = rw (first_naming, ne_eqb (f i) g e)

  pub first_above : (n i g : ℕ) → i + n ≤ most_numbers → i ≤ first_naming f i n g
  unfolding first_naming
  first_above zero i g h = omega arith
  first_above (suc n) i g h =
      same_or_not (f i) g
      (λ e. omega (arith, first_here i n g e))
      (λ e. omega (arith, first_later i n g e, first_above n (suc i) g (omega arith)))

  pub first_most : (n i g : ℕ) → i + n ≤ most_numbers → first_naming f i n g ≤ most_numbers
  unfolding first_naming
  first_most zero i g h = omega arith
  first_most (suc n) i g h =
      same_or_not (f i) g
      (λ e. omega (arith, first_here i n g e))
      (λ e. omega (arith, first_later i n g e, first_most n (suc i) g (omega arith)))

  -- a place that is found names the group
  pub first_found : (n i g : ℕ) → i + n ≤ most_numbers → first_naming f i n g < most_numbers → NamesAt f i n g (first_naming f i n g)
  unfolding first_naming
  first_found zero i g h l = absurd (omega arith)
  first_found (suc n) i g h l =
      same_or_not (f i) g
      (λ e.
      let here = first_here i n g e in
      record { above = omega (arith, here); below = omega (arith, here); group = ap f here ∙ e })
      (λ e.
      let later = first_later i n g e in
      let found = first_found n (suc i) g (omega arith) (omega (arith, later)) in
      record { above = omega (arith, later, found.above); below = omega (arith, later, found.below); group = ap f later ∙ found.group })

  -- and none before it does
  pub first_least : (n i g j : ℕ) → i ≤ j → j < i + n → f j ≡ g → first_naming f i n g ≤ j
  first_least zero i g j a b e = absurd (omega arith)
  first_least (suc n) i g j a b e =
      same_or_not (f i) g
      (λ here. omega (arith, first_here i n g here))
      (λ other.
      let not_here : i ≡ j → ⊥ = λ x. other (ap f x ∙ e) in
      same_or_not i j (λ x. absurd (not_here x))
      (λ x. omega (arith, first_later i n g other, first_least n (suc i) g j (omega arith) (omega arith) e)))

  none_first : (n i g : ℕ) → i + n ≤ most_numbers → most_numbers ≤ first_naming f i n g → any (listed f i n) (eqb g) ≡ false
  none_first n i g h m =
      none_listed f (eqb g) i n (λ j a b. ne_eqb g (f j) (λ e. omega (arith, first_least n i g j a b (sym e))))

  some_first : (n i g : ℕ) → i + n ≤ most_numbers → first_naming f i n g < most_numbers → any (listed f i n) (eqb g) ≡ true
  some_first n i g h m =
      let found = first_found n i g h m in
      any_listed f (eqb g) i n (first_naming f i n g) found.above found.below (eq-eqb g (f (first_naming f i n g)) (sym found.group))

  -- ---- the links

  -- before the first turn: no place is linked
  pub linked_start : (most i n : ℕ) (first next named : List ℕ) → n ≡ 0 → first ≡ repeated most most_numbers → length next ≡ most_numbers
      → length named ≡ most_numbers → Linked f most i n first next named 0
  unfolding first_naming listed distinct
  linked_start most i n first next named z e lx lm =
      record {
        heads =
            λ g h.
            ap (λ (l : List ℕ). get_or l g 0) e ∙ repeated_at most most_numbers g h ∙ ap (λ (k : ℕ). first_naming f i k g) (sym z);
        nexts = λ j a b. absurd (omega arith);
        all_named = λ j a b. absurd (omega arith);
        no_other = λ p h. absurd (omega arith);
        each_once = ap (λ (k : ℕ). length (distinct (listed f i k))) (sym z);
        heads_size = ap (λ (l : List ℕ). length l) e ∙ repeated_length most most_numbers;
        nexts_size = lx;
        named_size = lm;
      }

  -- there are no more groups than numbers
  pub linked_few : (most i n : ℕ) (first next named : List ℕ) (count : ℕ) → Linked f most i n first next named count → count ≤ n
  linked_few most i n first next named count h = omega (arith, h.each_once, distinct_few (listed f i n), listed_length f i n)

  -- a first place is no more than the sign for none
  pub linked_head : (most i n : ℕ) (first next named : List ℕ) (count : ℕ) → Linked f most i n first next named count → i + n ≤ most_numbers
      → (g : ℕ) → g < most → get_or first g 0 ≤ most_numbers
  linked_head most i n first next named count h few g known = omega (arith, h.heads g known, first_most n i g few)

  -- a turn: place i is linked in front of n others
  module _ (most i n : ℕ) (first next named : List ℕ) (count : ℕ) (h : Linked f most (suc i) n first next named count) (few : i + suc n ≤ most_numbers)
      (known : f i < most) where
    -- the first place of its group so far
    abbrev head : ℕ
    head = get_or first (f i) 0

    head_is : head ≡ first_naming f (suc i) n (f i)
    head_is = h.heads (f i) known

    heads_step : (g : ℕ) → g < most → get_or (set first (f i) i) g 0 ≡ first_naming f i (suc n) g
    heads_step g l =
        same_or_not g (f i)
        (λ e.
        ap (λ (k : ℕ). get_or (set first (f i) i) k 0) e
        ∙ get_or-set_same first (f i) i 0 (omega (arith, h.heads_size))
        ∙ sym (first_here i n g (sym e)))
        (λ e. get_or-set_other first (f i) g i 0 e ∙ h.heads g l ∙ sym (first_later i n g (λ x. e (sym x))))

    nexts_step : (j : ℕ) → i ≤ j → j < i + suc n → get_or (set next i head) j 0 ≡ first_naming f (suc j) (i + suc n - suc j) (f j)
    nexts_step j a b =
        same_or_not j i
        (λ e.
        let left : n ≡ i + suc n - suc i = omega arith in
        ap (λ (k : ℕ). get_or (set next i head) k 0) e
        ∙ get_or-set_same next i head 0 (omega (arith, h.nexts_size))
        ∙ head_is
        ∙ ap (λ (k : ℕ). first_naming f (suc i) k (f i)) left
        ∙ ap (λ (k : ℕ). first_naming f (suc k) (i + suc n - suc k) (f k)) (sym e))
        (λ e.
        let total : suc i + n ≡ i + suc n = omega arith in
        get_or-set_other next i j head 0 e
        ∙ h.nexts j (omega arith) (omega arith)
        ∙ ap (λ (k : ℕ). first_naming f (suc j) (k - suc j) (f j)) total)

    -- its group is new
    pub linked_new : head ≡ most_numbers → (r : List ℕ) (k : ℕ) → r ≡ set named count (f i) → k ≡ count + 1
        → Linked f most i (suc n) (set first (f i) i) (set next i head) r k
    unfolding listed
    linked_new none r k er ek =
        let few-named : count ≤ n = linked_few most (suc i) n first next named count h in
        let written : get_or r count 0 ≡ f i =
        ap (λ (l : List ℕ). get_or l count 0) er ∙ get_or-set_same named count (f i) 0 (omega (arith, h.named_size, few-named)) in
        let kept : (p : ℕ) → p < count → get_or r p 0 ≡ get_or named p 0 =
        λ p l. ap (λ (m : List ℕ). get_or m p 0) er ∙ get_or-set_other named count p (f i) 0 (λ e. omega arith) in
        let fresh : any (listed f (suc i) n) (eqb (f i)) ≡ false = none_first n (suc i) (f i) (omega arith) (omega (arith, head_is)) in
        record {
          heads = heads_step;
          nexts = nexts_step;
          all_named =
              λ j a b.
              same_or_not j i
              (λ e. (count, record { below = omega arith; group = written ∙ ap f (sym e) }))
              (λ e.
              let q = h.all_named j (omega arith) (omega arith) in
              (q.0, record { below = omega (arith, q.1.below); group = kept q.0 q.1.below ∙ q.1.group }));
          no_other =
              λ p l.
              same_or_not p count
              (λ e. (i, record { above = omega arith; below = omega arith; group = sym (ap (λ (x : ℕ). get_or r x 0) e ∙ written) }))
              (λ e.
              let q = h.no_other p (omega arith) in (
                q.0,
                record {
                  above = omega (arith, q.1.above);
                  below = omega (arith, q.1.below);
                  group = q.1.group ∙ sym (kept p (omega arith));
                },
              ));
          each_once =
              omega (arith, ek, h.each_once, ap (λ (l : List ℕ). length l) (distinct_new (f i) (listed f (suc i) n) fresh));
          heads_size = length-set first (f i) i ∙ h.heads_size;
          nexts_size = length-set next i head ∙ h.nexts_size;
          named_size = ap (λ (l : List ℕ). length l) er ∙ length-set named count (f i) ∙ h.named_size;
        }

    -- its group is named already
    pub linked_seen : (head ≡ most_numbers → ⊥) → (r : List ℕ) (k : ℕ) → r ≡ named → k ≡ count
        → Linked f most i (suc n) (set first (f i) i) (set next i head) r k
    unfolding listed
    linked_seen some r k er ek =
        let some-place : first_naming f (suc i) n (f i) ≡ most_numbers → ⊥ = λ e. some (head_is ∙ e) in
        let below : first_naming f (suc i) n (f i) < most_numbers =
        same_or_not (first_naming f (suc i) n (f i)) most_numbers (λ e. absurd (some-place e))
        (λ e. omega (arith, first_most n (suc i) (f i) (omega arith))) in
        let found = first_found n (suc i) (f i) (omega arith) below in
        let again : any (listed f (suc i) n) (eqb (f i)) ≡ true = some_first n (suc i) (f i) (omega arith) below in
        subst (λ (l : List ℕ). Linked f most i (suc n) (set first (f i) i) (set next i head) l k) (sym er)
        (subst (λ (c : ℕ). Linked f most i (suc n) (set first (f i) i) (set next i head) named c) (sym ek)
        (record {
          heads = heads_step;
          nexts = nexts_step;
          all_named =
              λ j a b.
              same_or_not j i
              (λ e.
              let q = h.all_named (first_naming f (suc i) n (f i)) found.above found.below in
              (q.0, record { below = q.1.below; group = q.1.group ∙ found.group ∙ ap f (sym e) }))
              (λ e. h.all_named j (omega arith) (omega arith));
          no_other =
              λ p l.
              let q = h.no_other p l in
              (q.0, record { above = omega (arith, q.1.above); below = omega (arith, q.1.below); group = q.1.group });
          each_once = omega (arith, h.each_once, ap (λ (l : List ℕ). length l) (distinct_repeat (f i) (listed f (suc i) n) again));
          heads_size = length-set first (f i) i ∙ h.heads_size;
          nexts_size = length-set next i head ∙ h.nexts_size;
          named_size = h.named_size;
        }))

  -- a turn of the loop, as the code makes it: place j is the one before i, of N, and g its group
  module _ (most N i j g : ℕ) (first next named : List ℕ) (count : ℕ) (h : Linked f most i (N - i) first next named count) (back : i ≡ suc j)
      (within : i ≤ N) (few : N ≤ most_numbers) (eg : g ≡ f j) (known : f j < most) (r : List ℕ) (k : ℕ) where
    before : Linked f most (suc j) (N - suc j) first next named count
    before = subst (λ (x : ℕ). Linked f most x (N - x) first next named count) back h

    turned : Linked f most j (suc (N - suc j)) (set first (f j) j) (set next j (get_or first (f j) 0)) r k
        → Linked f most j (N - j) (set first g j) (set next j (get_or first g 0)) r k
    turned l =
        let more : suc (N - suc j) ≡ N - j = omega arith in
        subst (λ (x : ℕ). Linked f most j (N - j) (set first x j) (set next j (get_or first x 0)) r k) (sym eg)
        (subst (λ (x : ℕ). Linked f most j x (set first (f j) j) (set next j (get_or first (f j) 0)) r k) more l)

    pub turn_new : get_or first g 0 ≡ most_numbers → r ≡ set named count g → k ≡ count + 1
        → Linked f most j (N - j) (set first g j) (set next j (get_or first g 0)) r k
    turn_new none er ek =
        turned
        (linked_new most j (N - suc j) first next named count before (omega arith) known (ap (λ (x : ℕ). get_or first x 0) (sym eg) ∙ none) r k
        (er ∙ ap (set named count) eg) ek)

    pub turn_seen : (get_or first g 0 ≡ most_numbers → ⊥) → r ≡ named → k ≡ count
        → Linked f most j (N - j) (set first g j) (set next j (get_or first g 0)) r k
    turn_seen some er ek =
        turned
        (linked_seen most j (N - suc j) first next named count before (omega arith) known
        (λ e. some (ap (λ (x : ℕ). get_or first x 0) eg ∙ e)) r k er ek)

  -- after the last turn
  pub linked_end : (most N i : ℕ) (first next named : List ℕ) (count : ℕ) → i ≡ 0 → Linked f most i (N - i) first next named count
      → Linked f most 0 N first next named count
  linked_end most N i first next named count z h =
      let all : N - 0 ≡ N = omega arith in
      subst (λ (x : ℕ). Linked f most 0 x first next named count) all
      (subst (λ (x : ℕ). Linked f most x (N - x) first next named count) z h)
