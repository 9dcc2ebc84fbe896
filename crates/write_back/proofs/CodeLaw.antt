-- What the questions have seen to, as the code needs it: the memory's size, and the bounds on what is held. Assumes nothing.
use mathlib.Core.Path.{◌≡◌}
use mathlib.Core.Bool.{true}
use mathlib.Core.List.{List}
use Prim.Native.Nat.{ℕ, ◌≤◌, ◌<◌}
use lib.ListN.{length}
use Rattle.std.specs.Prelude.{Some}
use Rattle.std.proofs.lemmas.Bool.Decides.{nat_tests}
use Rattle.lockpage.specs.Geometry.{present}
use Rattle.lockpage.specs.Size.{page_size}
use Rattle.lockpage.proofs.GeometryLaw.{present_proper as σ}
use Rattle.addressing.specs.Map.{disk_size}
use Rattle.disk.specs.Disk.{HasGroup}
use Rattle.memory.specs.Layout.{memory_size}
use Rattle.memory.specs.Memory.{count, groups, held, group_held, update_count, held_page, most_updates}
use Rattle.memory.proofs.HeldLaw.{group_held_none, group_held_some}
use Rattle.memory.proofs.FieldLaw.{held_page_length}
use Rattle.validity.specs.Valid.{count_limit, valid}
use Rattle.validity.proofs.ValidLaw.{facts, updates_few}
use Rattle.write_back.proofs.HeldLaw.{held_few, held_has, held_count}

module _ (m : List ℕ) (v : valid present m ≡ true) where
  pub valid_size : length m ≡ memory_size present
  valid_size = (facts σ m v).size

  pub valid_updates : update_count present m ≤ most_updates
  valid_updates = updates_few σ m (facts σ m v)

  pub valid_page : length (held_page present m) ≡ page_size present
  valid_page = held_page_length σ m valid_size

  module _ (h : ℕ) (named : group_held (held present m) ≡ Some h) where
    pub named_few : h < present.most_groups
    named_few = held_few σ m h named (facts σ m v)

    pub named_count : count m h ≤ count_limit
    named_count = held_count σ m h named (facts σ m v)

    pub named_has : (disk : List ℕ) → length disk ≡ disk_size present (groups present m) → HasGroup present disk h
    named_has disk size = held_has σ m h named (facts σ m v) disk size

-- what the functions cite
pub ruleset held_tests = (valid_size, nat_tests)

pub ruleset update_steps = (valid_size, valid_updates, nat_tests)

pub ruleset put_steps = (valid_size, valid_page, named_has, group_held_none, group_held_some, nat_tests)

pub ruleset loss_steps = (valid_size, named_few, named_count, group_held_none, group_held_some, nat_tests)
