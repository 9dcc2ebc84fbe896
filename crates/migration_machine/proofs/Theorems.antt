-- The claims of specs/ hold. Assumes nothing.
use mathlib.Core.Path.{refl}
use Prim.Native.Nat.{ℕ}
use native.Mathlib.Omega.{arith}
use Rattle.lockpage.specs.Geometry.{Geometry, Proper, base, present}
use Rattle.lockpage.proofs.GeometryLaw.{base_proper, present_proper}
use Rattle.validity.proofs.ValidLaw.{valid_formatted}
use Rattle.machine.specs.Command.{box_of}
use Rattle.machine.proofs.QuestionLaw.{numbered_to, passes_if, answers_first_no}
use Rattle.migration_machine.specs.Migrate.{Wider, migrate_questions, migrate}
use Rattle.migration_machine.specs.Claims.{PassesIfAllYes, NumberIsFirstNo, RefusalAltersNothing, MigratedReads, MigratedIsValid, FormattedMigrates}
use Rattle.migration_machine.specs.Promise.{AnswersAsBefore, MigratesAtAnyTime, StateStaysValid, OfficeIsAnsweredAsBefore}
use Rattle.migration_machine.proofs.ValidLaw.{migrated_valid}
use Rattle.migration_machine.proofs.ValidLaw as fields
use Rattle.migration_machine.proofs.FieldLaw.{formatted_moves}
use Rattle.migration_machine.proofs.MigrateLaw.{migrate_number, migrate_refused}
use Rattle.migration_machine.proofs.EventLaw.{run_moves, trace_moves}
use Rattle.migration_machine.proofs.StateLaw as states
use Rattle.migration_machine.proofs.OfficeLaw as offices

-- γ is the old box's geometry, and the new box has n groups at most
module _ (γ : Geometry) (n : ℕ) where
  pub passes_if_all_yes : PassesIfAllYes γ n
  unfolding PassesIfAllYes migrate_questions numbered_to
  passes_if_all_yes old buffer = passes_if 1 (migrate γ n old buffer).number (migrate_questions γ n old buffer) refl (migrate_number γ n old buffer)

  pub number_is_first_no : NumberIsFirstNo γ n
  unfolding NumberIsFirstNo
  number_is_first_no old buffer = answers_first_no (migrate γ n old buffer).number (migrate_questions γ n old buffer) (migrate_number γ n old buffer)

  pub refusal_alters_nothing : RefusalAltersNothing γ n
  unfolding RefusalAltersNothing
  refusal_alters_nothing = migrate_refused γ n

-- and is wider
module _ {γ : Geometry} (σ : Proper γ) {n : ℕ} (ω : Wider γ n) where
  pub migrated_reads : MigratedReads γ n
  unfolding MigratedReads
  migrated_reads = fields.migrated_reads σ ω

  pub migrated_is_valid : MigratedIsValid γ n
  unfolding MigratedIsValid
  migrated_is_valid = migrated_valid σ ω

  pub formatted_migrates : FormattedMigrates γ n
  unfolding FormattedMigrates
  formatted_migrates g s least most l = (valid_formatted σ g s least most l, formatted_moves σ ω g s l)

  -- ---- specs/Promise.antt

  pub answers_as_before : AnswersAsBefore γ n
  unfolding AnswersAsBefore
  answers_as_before old disk es v = trace_moves σ ω (box_of old disk) es v

  pub migrates_at_any_time : MigratesAtAnyTime γ n
  unfolding MigratesAtAnyTime
  migrates_at_any_time old disk es v = run_moves σ ω (box_of old disk) es v

  pub state_stays_valid : StateStaysValid γ n
  state_stays_valid = states.state_stays_valid σ ω

  pub office_is_answered_as_before : OfficeIsAnsweredAsBefore γ n
  office_is_answered_as_before = offices.office_is_answered_as_before σ ω

-- ---- of document 01's box and the one that the code runs, which is document 01's with more groups

pub present_wider : Wider base present.most_groups
present_wider = record { more = omega arith; proper = present_proper }

pub base_answers_as_before : AnswersAsBefore base present.most_groups
base_answers_as_before = answers_as_before base_proper present_wider

pub base_office_is_answered_as_before : OfficeIsAnsweredAsBefore base present.most_groups
base_office_is_answered_as_before = office_is_answered_as_before base_proper present_wider
