-- The claim of specs/ByKind.antt, proved. Assumes nothing.
use mathlib.Core.Path.{◌≡◌, refl}
use Prim.Native.Nat.{ℕ}
use Rattle.lockpage.specs.declared.Update.TheVariants.{Write, Unfreeze, Increment}
use Rattle.machine.specs.declared.Kind.{Kind}
use Rattle.machine.specs.declared.Kind.TheVariants.{Read, Entry, Page, Change, Sync, Restart, NewSalt, Identify, Unknown}
use Rattle.machine.specs.Command.{kind_numbered}
use Rattle.controller.specs.ByKind.{Named, EveryKindNamed}

named : (number value : ℕ) (k : Kind) → kind_numbered number value ≡ k → Named k
named number value k e = record { number = number; value = value; names = e }

pub every_kind_named : EveryKindNamed
unfolding EveryKindNamed kind_numbered
every_kind_named Read = named 1 0 Read refl
every_kind_named Entry = named 2 0 Entry refl
every_kind_named Page = named 3 0 Page refl
every_kind_named (Change (Write lock)) = named 4 lock (Change (Write lock)) refl
every_kind_named (Change Unfreeze) = named 5 0 (Change Unfreeze) refl
every_kind_named (Change (Increment value)) = named 6 value (Change (Increment value)) refl
every_kind_named Sync = named 7 0 Sync refl
every_kind_named Restart = named 8 0 Restart refl
every_kind_named NewSalt = named 9 0 NewSalt refl
every_kind_named Identify = named 10 0 Identify refl
every_kind_named Unknown = named 0 0 Unknown refl
