-- The claims of specs/ hold. Assumes nothing.
use mathlib.Core.Path.{refl, ◌∙◌}
use native.Mathlib.Omega.{arith}
use Rattle.lockpage.specs.Geometry.{Geometry, Proper, present}
use Rattle.lockpage.proofs.GeometryLaw.{present_proper}
use Rattle.machine.proofs.QuestionLaw.{numbered_to, passes_if, answers_first_no}
use Rattle.versions_machine.specs.Versions.{Range}
use Rattle.versions_state.specs.Layout.{parts}
use Rattle.versions_bytes.proofs.NewestLaw.{newests_same}
use Rattle.recovery_machine.specs.Recover.{recover_questions, recovered, recover}
use Rattle.recovery_machine.specs.Claims.{PapersResultSize, WalkEnds, PassesIfAllYes, NumberIsFirstNo, RefusalAltersNothing}
use Rattle.recovery_machine.specs.Promise.{range, synced, intruded, NothingUnstored, SameBlocks, RecoversMap, PartsReadBack}
use Rattle.recovery_machine.specs.Met.{PremisesCanBeMet}
use Rattle.recovery_machine.proofs.WalkLaw as walks
use Rattle.recovery_machine.proofs.RecoverLaw.{recover_number, recover_result, recover_refused, recover_timely}
use Rattle.recovery_machine.proofs.PointLaw.{point_stored}
use Rattle.recovery_machine.proofs.PromiseLaw.{recovers, part_reads}
use Rattle.recovery_machine.proofs.PromiseLaw as promise
use Rattle.recovery_machine.proofs.MetLaw.{premises_met}

pub papers_result_size : PapersResultSize
papers_result_size = record { result = refl }

module _ (γ : Geometry) (ρ : Range) where
  pub walk_ends : WalkEnds γ ρ
  unfolding WalkEnds
  walk_ends = walks.walk_ends γ ρ

  pub passes_if_all_yes : PassesIfAllYes γ ρ
  unfolding PassesIfAllYes recover_questions numbered_to
  passes_if_all_yes s point now result =
      passes_if 6 (recover γ ρ s point now result).number (recover_questions γ s now result) refl (recover_number γ ρ s point now result)

  pub number_is_first_no : NumberIsFirstNo γ ρ
  unfolding NumberIsFirstNo
  number_is_first_no s point now result =
      answers_first_no (recover γ ρ s point now result).number (recover_questions γ s now result) (recover_number γ ρ s point now result)

  pub refusal_alters_nothing : RefusalAltersNothing γ ρ
  unfolding RefusalAltersNothing
  refusal_alters_nothing = recover_refused γ ρ

-- ---- specs/Promise.antt

module _ {γ : Geometry} (σ : Proper γ) where
  pub nothing_unstored : NothingUnstored γ
  unfolding NothingUnstored
  nothing_unstored = point_stored σ

  pub same_blocks : SameBlocks γ
  unfolding SameBlocks
  same_blocks = promise.same_blocks σ

  pub recovers_map : RecoversMap γ
  unfolding RecoversMap
  recovers_map u es now result k later early a =
      let timely = recover_timely γ (range γ u) (intruded γ u es) u.point now result σ a in
      recover_result γ (range γ u) (intruded γ u es) u.point now result a
      ∙ newests_same (recovered γ (range γ u) (intruded γ u es) u.point now) (synced γ u).versions.newest 0 parts
      (λ part l h. recovers σ u k es later now timely early part)

  pub parts_read_back : PartsReadBack γ
  unfolding PartsReadBack
  parts_read_back u es now result part b k later early a =
      part_reads σ u k es later now (recover_timely γ (range γ u) (intruded γ u es) u.point now result σ a) early part b

  -- ---- specs/Met.antt

  pub premises_can_be_met : PremisesCanBeMet γ
  unfolding PremisesCanBeMet
  premises_can_be_met s g salt lock part point now content result b salt-bytes content_bytes a k p size later soon latest long some_entries some_blocks =
      premises_met σ s g salt lock part point content b salt-bytes content_bytes a k p size (omega arith) some_entries some_blocks now result later soon
      latest long

-- of the box that the code runs: `sockjade_recover` is `recover present` by its contract
pub present_recovers_map : RecoversMap present
present_recovers_map = recovers_map present_proper

pub present_parts_read_back : PartsReadBack present
present_parts_read_back = parts_read_back present_proper
