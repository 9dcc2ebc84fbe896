-- The groups named, answered one after the other. Assumes nothing.
use mathlib.Core.Path.{◌≡◌, ap, sym, ◌∙◌}
use mathlib.Core.List.{List}
use Prim.Native.Nat.{ℕ, ◌+◌, ◌*◌, ◌≤◌, ◌<◌}
use native.Mathlib.Omega.{arith}
use lib.ListN.{length, get_or, take}
use Rattle.std.proofs.lemmas.List.{get_or-take, length-take-le}
use Rattle.lockpage.specs.Geometry.{Geometry, Proper}
use Rattle.lockpage.specs.Size.{page_size}
use Rattle.lockpage.specs.Page.{entry_at}
use Rattle.addressing.specs.Map.{place_of}
use Rattle.memory.specs.Memory.{groups}
use Rattle.validity.proofs.ValidLaw.{Valid, facts}
use Rattle.machine.specs.Command.{Box}
use Rattle.machine.specs.Tag.{current_page, current_entry}
use Rattle.machine.specs.Query.{most_numbers, number_count, block_number, numbers, shown_size, shown_state, shown_states}
use Rattle.machine.proofs.CaseLaw.{same_or_not}
use Rattle.machine.proofs.ListedLaw.{shown_states_of}
use Rattle.current_page.specs.Ready.{CurrentReady}
use Rattle.current_page.proofs.CurrentLaw.{current_ready}
use Rattle.block_states.specs.Links.{first_naming, NamesAt, group_named, ListReady}
use Rattle.block_states.specs.Fill.{shown_at, FillReady, GroupsReady, GroupReady, GroupShown}
use Rattle.block_states.proofs.LinkLaw.{first_found, first_least, linked_few}

-- γ is the box's geometry
module _ (γ : Geometry) where
  -- the numbers of the first k groups named are answered
  pub record Filled (s : Box) (blocks named : List ℕ) (now : ℕ) (page answer : List ℕ) (pages k : ℕ) : Type 0 where
    pub counted : pages ≡ k
    pub shown : (p : ℕ) → p < k → (i : ℕ) → i < number_count blocks → group_named γ blocks i ≡ get_or named p 0
        → shown_at answer i ≡ shown_state now (current_entry γ s (block_number blocks i))
    pub page_size_is : length page ≡ page_size γ
    pub answer_size_is : length answer ≡ shown_size * number_count blocks

-- a list of a valid box's blocks names groups that a memory has counts for
pub list_ready : {γ : Geometry} (σ : Proper γ) (s : Box) (blocks answer : List ℕ) → FillReady γ s blocks answer → ListReady γ blocks γ.most_groups
list_ready σ s blocks answer ready =
    let list = ready.list in
    record {
      whole = list.whole;
      few = list.few;
      range = λ i l. omega (arith, list.range i l, (facts σ s.memory ready.box.memory).most);
    }

-- γ is any proper geometry
module _ {γ : Geometry} (σ : Proper γ) (s : Box) (blocks first next named : List ℕ) (count : ℕ) (start : List ℕ)
    (ready : GroupsReady γ s blocks first next named count start) where
  pub count_few : count ≤ most_numbers
  count_few =
      omega (arith, linked_few (group_named γ blocks) γ.most_groups 0 (number_count blocks) first next named count ready.links, ready.filling.list.few)

  valid : Valid γ s.memory
  valid = facts σ s.memory ready.filling.box.memory

  named_long : length (take count named) ≡ count
  named_long = length-take-le count named (omega (arith, count_few, ready.links.named_size))

  pub named_end : count ≡ length (take count named)
  named_end = sym named_long

  -- a turn for each of those named
  module _ (k : ℕ) (turn : k < length (take count named)) where
    pub in_turn : k < count
    in_turn = omega (arith, turn, named_long)

    pub same_group : get_or (take count named) k 0 ≡ get_or named k 0
    same_group = get_or-take count named k 0 in_turn

  -- group k of those named
  module _ (k : ℕ) (h : k < count) where
    abbrev group : ℕ
    group = get_or named k 0

    names : (i : ℕ) × NamesAt (group_named γ blocks) 0 (number_count blocks) group i
    names = ready.links.no_other k h

    pub group_known : get_or named k 0 < groups γ s.memory
    group_known = omega (arith, names.1.group, ready.filling.list.range names.0 (omega (arith, names.1.below)))

    pub group_most : get_or named k 0 < γ.most_groups
    group_most = omega (arith, group_known, valid.most)

    -- the first number that names it
    abbrev from : ℕ
    from = get_or first group 0

    from_is : from ≡ first_naming (group_named γ blocks) 0 (number_count blocks) group
    from_is = ready.links.heads group group_most

    from_below : from < number_count blocks
    from_below =
        omega (
          arith,
          from_is,
          first_least (group_named γ blocks) (number_count blocks) 0 group names.0 names.1.above names.1.below names.1.group,
          names.1.below,
        )

    from_group : group_named γ blocks from ≡ group
    from_group =
        ap (group_named γ blocks) from_is
        ∙ (first_found (group_named γ blocks) (number_count blocks) 0 group (omega (arith, ready.filling.list.few))
        (omega (arith, from_is, from_below, ready.filling.list.few))).group

    pub fetch_ready : (page : List ℕ) → length page ≡ page_size γ → CurrentReady γ s (get_or named k 0) page
    fetch_ready page l = current_ready σ s (get_or named k 0) page ready.filling.box group_known l

    pub group_ready : (page answer : List ℕ) → length page ≡ page_size γ → length answer ≡ shown_size * number_count blocks
        → GroupReady γ page blocks next (get_or first (get_or named k 0) 0) answer
    group_ready page answer lp la =
        record {
          list = list_ready σ s blocks start ready.filling;
          page_size_is = lp;
          nexts = ready.links.nexts;
          nexts_size = ready.links.nexts_size;
          some = from_below;
          head = from_is ∙ ap (first_naming (group_named γ blocks) 0 (number_count blocks)) (sym from_group);
          answer_size_is = la;
        }

    pub filled_step : (now : ℕ) (page fetched answer r : List ℕ) (pages n m : ℕ) → Filled γ s blocks named now page answer pages k
        → fetched ≡ current_page γ s (get_or named k 0) → length fetched ≡ page_size γ → n ≡ pages + 1 → m ≡ k + 1
        → GroupShown γ fetched blocks (get_or first (get_or named k 0) 0) now answer r → Filled γ s blocks named now fetched r n m
    filled_step now page fetched answer r pages n m f ef lf en em g =
        -- a number of the group shows what the current page says
        let own : (i : ℕ) → i < number_count blocks → group_named γ blocks i ≡ group_named γ blocks from
        → shown_at r i ≡ shown_state now (current_entry γ s (block_number blocks i)) =
        λ i l e.
        g.own i l e
        ∙ ap (λ (p : List ℕ). shown_state now (entry_at p (place_of γ (block_number blocks i)))) (ef ∙ ap (current_page γ s) (sym (e ∙ from_group))) in
        record {
          counted = omega (arith, en, em, f.counted);
          shown =
              λ p l i b e.
              same_or_not (group_named γ blocks i) (group_named γ blocks from) (own i b)
              (λ other.
              same_or_not p k
              (λ here. absurd (other (e ∙ ap (λ (x : ℕ). get_or named x 0) here ∙ sym from_group)))
              (λ there. g.others i b other ∙ f.shown p (omega arith) i b e));
          page_size_is = lf;
          answer_size_is = g.size ∙ f.answer_size_is;
        }

  pub filled_end : (now : ℕ) (page answer : List ℕ) (pages k : ℕ) → Filled γ s blocks named now page answer pages k
      → length (take count named) ≤ k → answer ≡ shown_states γ s now (numbers blocks)
  filled_end now page answer pages k f h =
      shown_states_of σ s now (block_number blocks) (number_count blocks) answer f.answer_size_is
      (λ i l.
      let at = ready.links.all_named i (omega arith) (omega arith) in
      f.shown at.0 (omega (arith, at.1.below, named_end)) i l (sym at.1.group))
