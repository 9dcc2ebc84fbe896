-- Laws of the address map, by arithmetic: what lies below what, what is apart, offsets within a group. Assumes nothing.
use mathlib.Core.Path.{◌≡◌, ap, sym, ◌∙◌}
use Prim.Native.Nat.{ℕ, ◌+◌, ◌-◌, ◌*◌, ◌/◌, ◌^◌, ◌≤◌, ◌<◌}
use native.Mathlib.Nat.{mod-lt, div-add-mod, div-lt_iff_lt-mul, mul-le-mul, mul-le-mul_left, mul-add-div, div-eq_of_lt, mul-div-le, lt-mul-div-succ}
use native.Mathlib.Omega.{arith}
use lib.Bits.{bit_and}
use Rattle.octets.proofs.ShiftLaw.{shift_quotient, mask_remainder}
use Rattle.lockpage.specs.Geometry.{Geometry, Proper}
use Rattle.lockpage.specs.Size.{block_size}
use Rattle.addressing.specs.Map.{group_data, group_blocks, group_size, disk_size, data_blocks, group_of, place_of, page_place, physical, page_block, group_start}
use Rattle.addressing.specs.Map.{block_start}
use Rattle.addressing.specs.Claims.{InExtent}

-- ---- products and quotients, of any numbers

grows : (k p q : ℕ) → p < q → k * p + k ≤ k * q
grows k p q h = omega (arith, mul-le-mul_left k h)

quotient : (k q r : ℕ) → r < k → (k * q + r) / k ≡ q
quotient k q r h = omega (arith, mul-add-div {m = k} (omega arith) q r, div-eq_of_lt h)

same_quotient : (k q r p s : ℕ) → r < k → s < k → k * q + r ≡ k * p + s → q ≡ p
same_quotient k q r p s h i e = omega (arith, quotient k q r h, quotient k p s i, ap (λ (z : ℕ). z / k) e)

-- γ is any proper geometry
module _ {γ : Geometry} (σ : Proper γ) where
  pub group_of_below : (groups a : ℕ) → a < data_blocks γ groups → group_of γ a < groups
  unfolding data_blocks group_of
  group_of_below groups a h = (div-lt_iff_lt-mul {k = group_data γ} σ.some_entries).1 (omega arith)

  pub place_of_below : (a : ℕ) → place_of γ a < page_place γ
  unfolding place_of
  place_of_below a = mod-lt a σ.some_entries

  -- ---- by a shift and a mask, where a group has 2 ^ k data blocks

  pub group_of_shift : (k a : ℕ) → group_data γ ≡ 2 ^ k → a / 2 ^ k ≡ group_of γ a
  unfolding group_of
  group_of_shift k a e = shift_quotient k (group_data γ) e a

  pub place_of_mask : (k a : ℕ) → group_data γ ≡ 2 ^ k → bit_and a (group_data γ - 1) ≡ place_of γ a
  unfolding place_of
  place_of_mask k a e = mask_remainder k (group_data γ) e a

  -- ---- physical blocks

  -- by group and place
  pub physical_place : (a : ℕ) → physical γ a ≡ group_blocks γ * group_of γ a + place_of γ a
  unfolding physical group_of place_of
  physical_place a = omega (arith, div-add-mod a (group_data γ))

  -- by a place that was computed
  pub physical_at : (a place : ℕ) → place ≡ place_of γ a → physical γ a ≡ group_blocks γ * group_of γ a + place
  physical_at a place e = physical_place a ∙ ap (λ (n : ℕ). group_blocks γ * group_of γ a + n) (sym e)

  -- by a group and a place that were computed
  pub physical_of : (a g place : ℕ) → g ≡ group_of γ a → place ≡ place_of γ a → group_blocks γ * g + place ≡ physical γ a
  physical_of a g place eg ep = ap (λ (n : ℕ). group_blocks γ * n + place) eg ∙ sym (physical_at a place ep)

  pub place_of_in : (a place : ℕ) → place ≡ place_of γ a → place < group_blocks γ
  place_of_in a place e = omega (arith, place_of_below a)

  pub page_block_place : (g : ℕ) → page_block γ g ≡ group_blocks γ * g + page_place γ
  unfolding page_block
  page_block_place g = omega arith

  -- the number of data blocks has four bytes
  pub data_blocks_some : (groups : ℕ) → 1 ≤ groups → 1 ≤ data_blocks γ groups
  unfolding data_blocks
  data_blocks_some groups h = omega (arith, mul-le-mul σ.some_entries h)

  pub data_blocks_small : (groups : ℕ) → groups < 256 → data_blocks γ groups < 2 ^ 32
  unfolding data_blocks
  data_blocks_small groups h = omega (arith, mul-le-mul σ.few_entries h)

  pub physical_below : (groups a : ℕ) → a < data_blocks γ groups → physical γ a < group_blocks γ * groups
  unfolding physical data_blocks group_of
  physical_below groups a h = omega (arith, group_of_below groups a h)

  pub page_block_below : (groups g : ℕ) → g < groups → page_block γ g < group_blocks γ * groups
  unfolding page_block
  page_block_below groups g h = omega (arith, grows (group_blocks γ) g groups h)

  pub physical_same : (a b : ℕ) → physical γ a ≡ physical γ b → a ≡ b
  unfolding physical group_of place_of
  physical_same a b e =
      omega (
        arith,
        same_quotient (group_blocks γ) (group_of γ a) (place_of γ a) (group_of γ b) (place_of γ b) (omega (arith, place_of_below a))
            (omega (arith, place_of_below b)) (sym (physical_place a) ∙ e ∙ physical_place b),
      )

  pub page_block_same : (g h : ℕ) → page_block γ g ≡ page_block γ h → g ≡ h
  unfolding page_block
  page_block_same g h e = same_quotient (group_blocks γ) g (group_data γ) h (group_data γ) (omega arith) (omega arith) e

  pub physical_page : (a g : ℕ) → physical γ a ≡ page_block γ g → ⊥
  unfolding page_block
  physical_page a g e =
      let below = place_of_below a in
      let is = sym (physical_place a) ∙ e in
      let same = same_quotient (group_blocks γ) (group_of γ a) (place_of γ a) g (group_data γ) (omega arith) (omega arith) is in
      omega (arith, ap (λ (z : ℕ). group_blocks γ * z) same)

  -- a data block is known by its group and its place
  pub place_same : (a b : ℕ) → group_of γ a ≡ group_of γ b → place_of γ a ≡ place_of γ b → a ≡ b
  unfolding group_of place_of
  place_same a b e f =
      omega (arith, div-add-mod a (group_data γ), div-add-mod b (group_data γ), ap (λ (z : ℕ). group_data γ * z) e)

  -- ---- bytes

  pub block_start_below : (p q : ℕ) → p < q → block_start γ p + block_size γ ≤ block_start γ q
  unfolding block_start
  block_start_below p q h = grows (block_size γ) p q h

  pub block_start_end : (groups : ℕ) → block_start γ (group_blocks γ * groups) ≡ disk_size γ groups
  unfolding block_start disk_size
  block_start_end groups = omega arith

  pub block_start_group : (g place : ℕ) → block_start γ (group_blocks γ * g + place) ≡ group_start γ g + block_start γ place
  unfolding block_start group_start
  block_start_group g place = omega arith

  pub block_start_place : (place : ℕ) → place < group_blocks γ → block_start γ place + block_size γ ≤ group_size γ
  unfolding block_start
  block_start_place place h = omega (arith, grows (block_size γ) place (group_blocks γ) h)

  pub group_start_apart : (g h : ℕ) → g < h → group_start γ g + group_size γ ≤ group_start γ h
  unfolding group_start
  group_start_apart g h l = grows (group_size γ) g h l

  pub group_start_below : (groups g : ℕ) → g < groups → group_start γ g + group_size γ ≤ disk_size γ groups
  unfolding group_start disk_size
  group_start_below groups g h = omega (arith, grows (group_size γ) g groups h)

  pub in_extent : (groups k : ℕ) → k < disk_size γ groups → InExtent γ groups k
  unfolding disk_size group_start
  in_extent groups k h =
      record {
        group = k / group_size γ;
        of_box = (div-lt_iff_lt-mul {k = group_size γ} (omega arith)).1 h;
        starts = mul-div-le k (group_size γ);
        ends = omega (arith, lt-mul-div-succ k {b = group_size γ} (omega arith));
      }
