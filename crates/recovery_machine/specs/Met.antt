-- The premises of Q-6's promise can be met: on every box that is formatted, one part put, the log stored and the box synced, and then an
-- intruder's restart and unfreeze, which are accepted. The result then names the part's block. The claim is a type; its proof has the
-- claim's name in proofs/Theorems.antt.
use Rattle.std.specs.Prelude.{◌≡◌, List, [], ◌∷◌, ℕ, ◌+◌, ◌≤◌, ◌<◌, length, Some}
use Rattle.octets.specs.Part.{AreBytes, repeated}
use Rattle.lockpage.specs.Geometry.{Geometry}
use Rattle.lockpage.specs.Size.{block_size}
use Rattle.lockpage.specs.Update.{latest_time}
use Rattle.addressing.specs.Map.{data_blocks}
use Rattle.machine.specs.Command.{Box, Command, command_of, answer_size}
use Rattle.machine.specs.Question.{first_no}
use Rattle.machine.specs.Step.{Accepted, step}
use Rattle.machine.specs.Format.{format}
use Rattle.machine.specs.Run.{Event, Given}
use Rattle.machine.specs.Claims.{ByteBox}
use Rattle.versions_machine.specs.Versions.{start_questions}
use Rattle.versions_machine.specs.Plan.{unfreezing, given}
use Rattle.versions_machine.specs.Call.{last_part}
use Rattle.versions_machine.specs.Run.{PutPart}
use Rattle.recovery_machine.specs.Recover.{result_size, recovered, AcceptedRecovery}
use Rattle.recovery_machine.specs.Promise.{Use, range, synced, StoredAtPoint, TimedAfter, intruded}

module _ (γ : Geometry) where
  -- a command without data and proof
  abbrev pub plain : ℕ → ℕ → Command
  plain kind now = command_of kind 0 now 0 [] [] (repeated (answer_size γ) 0)

  -- one part is put, the log stored and the box synced, all at the point
  abbrev pub one_put : Box → ℕ → List ℕ → ℕ → ℕ → ℕ → List ℕ → Use
  one_put s g salt lock part point content =
      record {
        before = s;
        groups = g;
        salt = salt;
        lock = lock;
        calls = PutPart part point content ∷ [];
        point = point;
        sync = plain 7 point;
      }

  -- a second later a restart, and an unfreeze of the version, which is in block 1, with its current page
  abbrev pub restarted : Use → Box
  restarted u = (step γ (synced γ u).box (plain 8 (u.point + 1))).box

  abbrev pub unfreeze : Use → Command
  unfreeze u = given γ (restarted u) (unfreezing 1 (u.point + 1))

  abbrev pub attack : Use → List Event
  attack u = Given (plain 8 (u.point + 1)) ∷ Given (unfreeze u) ∷ []

  pub record Met (u : Use) (part now : ℕ) (result : List ℕ) : Type 0 where
    pub stored : StoredAtPoint γ u
    pub later : TimedAfter γ u (attack u)
    pub restart_passes : Accepted γ (synced γ u).box (plain 8 (u.point + 1))
    pub unfreeze_passes : Accepted γ (restarted u) (unfreeze u)
    pub accepted : AcceptedRecovery γ (range γ u) (intruded γ u (attack u)) u.point now result
    pub named : recovered γ (range γ u) (intruded γ u (attack u)) u.point now part ≡ Some 1

  unfoldable pub PremisesCanBeMet : Type 0
  PremisesCanBeMet = (s : Box) (g : ℕ) (salt : List ℕ) (lock part point now : ℕ) (content result : List ℕ) → ByteBox s → AreBytes salt
      → AreBytes content → (format γ s g salt).number ≡ 0 → first_no (start_questions lock) ≡ 0 → part ≤ last_part → length content ≡ block_size γ
      → point < now → now < point + lock → now ≤ latest_time → length result ≡ result_size → 4 ≤ γ.entries → 4 ≤ data_blocks γ g
      → Met (one_put s g salt lock part point content) part now result
