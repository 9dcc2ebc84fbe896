-- What the questions have seen to still holds once the last time is set. Assumes nothing.
use mathlib.Core.Path.{◌≡◌, ap, sym, subst, ◌∙◌}
use mathlib.Core.Bool.{true}
use mathlib.Core.List.{List}
use Prim.Native.Nat.{ℕ, ◌≤◌, ◌<◌}
use native.Mathlib.Omega.{arith}
use lib.ListN.{length}
use Rattle.lockpage.specs.Geometry.{Geometry, Proper}
use Rattle.lockpage.specs.Size.{page_size}
use Rattle.lockpage.specs.Update.{latest_time}
use Rattle.addressing.specs.Map.{disk_size, data_blocks, group_of}
use Rattle.addressing.proofs.MapLaw.{group_of_below}
use Rattle.memory.specs.Memory.{count, groups, with_last_time}
use Rattle.memory.proofs.FieldLaw.{time_set}
use Rattle.validity.specs.Valid.{count_limit, valid}
use Rattle.validity.proofs.ValidLaw.{facts, valid_time}
use Rattle.machine.specs.Command.{box_of}
use Rattle.machine.specs.Claims.{ValidBox}
use Rattle.write_back.specs.Ready.{HoldReady}

-- γ is any proper geometry
module _ {γ : Geometry} (σ : Proper γ) where
  -- memory t is m with the last time set
  module _ (m t : List ℕ) (now : ℕ) (et : t ≡ with_last_time γ m now) (early : now ≤ latest_time) where
    pub timed_valid : valid γ m ≡ true → valid γ t ≡ true
    timed_valid v = ap (valid γ) et ∙ valid_time σ m (facts σ m v) now early

    pub timed_box : (disk : List ℕ) → ValidBox γ (box_of m disk) → ValidBox γ (box_of t disk)
    timed_box disk s =
        let same : groups γ t ≡ groups γ m = ap (groups γ) et ∙ (time_set σ m (facts σ m s.memory).size now (omega arith)).groups in
        record { memory = timed_valid s.memory; disk = s.disk ∙ ap (disk_size γ) (sym same) }

    -- with the disk after stores, and the changed page of block a's group
    pub timed_hold : (disk d page : List ℕ) (a g : ℕ) → ValidBox γ (box_of m disk) → length d ≡ length disk → a < data_blocks γ (groups γ m)
        → g ≡ group_of γ a → count m (group_of γ a) < count_limit → length page ≡ page_size γ → HoldReady γ (box_of t d) g page
    timed_hold disk d page a g s ed below eg unexhausted size =
        let v = facts σ m s.memory in
        let reads = time_set σ m v.size now (omega arith) in
        let box = timed_box disk s in
        let of_box = group_of_below σ (groups γ m) a below in
        record {
          box = record { memory = box.memory; disk = ed ∙ box.disk };
          group = omega (arith, ap (groups γ) et ∙ reads.groups);
          unexhausted =
              subst (λ (k : ℕ). count t k < count_limit) (sym eg)
              (omega (arith, ap (λ (x : List ℕ). count x (group_of γ a)) et ∙ reads.count (group_of γ a) (omega (arith, v.most))));
          page_size_is = size;
        }
