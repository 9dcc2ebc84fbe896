-- `versions_state::valid` meets its contract: by the first that fails, or by the last. Assumes nothing.
use Rattle.std.proofs.Common.{◌≡◌, false, refl, sym, ◌∙◌, arith}
use Rattle.lockpage.specs.Geometry.{present}
use Rattle.versions_state.specs.State.{is_valid}
use Rattle.versions_state.proofs.ValidLaw.{refused, refused_by_lem, makes_sound, decided, lock_looked, records_counted, rest_counted}
use Rattle.versions_state.proofs.valid.Goals as goal
use Rattle.versions_state.proofs.valid.Goals.{then-is_lock, else-is_lock, then-newests_fit, else-newests_fit}

pub returns-then-state-ne-STATE_SIZE : goal.returns-then-state-ne-STATE_SIZE
returns-then-state-ne-STATE_SIZE c = refused present _ (λ f. omega (arith, f.size))

pub returns-then-n-gt-MOST_RECORDS : goal.returns-then-n-gt-MOST_RECORDS
returns-then-n-gt-MOST_RECORDS c = refused present _ (λ f. omega (arith, f.few, c.record_count-n.ensures))

pub returns-else-records_fit : goal.returns-else-records_fit
returns-else-records_fit c =
    c.if-records_fit.false
    ∙ elim c.if-newests_fit.branch as (λ x. false ≡ is_valid present c.args.state.now) [
      | then-newests_fit w ↦
          refused_by_lem present _ _ _ (records_counted present _ _ c.record_count-n.ensures _ w.records_fit.ensures)
          (sym w.value-is ∙ c.if-records_fit.false) (λ f. f.records)
      | else-newests_fit w ↦
          elim c.if-is_lock.branch as (λ x. false ≡ is_valid present c.args.state.now) [
            | then-is_lock v ↦
                refused_by_lem present _ _ _ v.newests_fit.ensures (sym v.value-is ∙ w.if-newests_fit.false) (λ f. f.newests)
            | else-is_lock v ↦
                refused_by_lem present _ _ _ (lock_looked present _ _ _ c.lock.ensures c.is_lock.ensures) v.if-is_lock.false (λ f. f.lock)
          ]
    ]

pub returns-then-records_fit : goal.returns-then-records_fit
returns-then-records_fit c =
    elim c.if-newests_fit.branch as (λ x. c.filled.result ≡ is_valid present c.args.state.now) [
      | else-newests_fit w ↦ absurd (cc)
      | then-newests_fit w ↦
          elim c.if-is_lock.branch as (λ x. c.filled.result ≡ is_valid present c.args.state.now) [
            | else-is_lock v ↦ absurd (cc)
            | then-is_lock v ↦
                rest_counted present _ _ c.record_count-n.ensures _ _ _ c.record_start.ensures refl c.filled.ensures
                ∙ decided present _ (omega arith)
                (makes_sound present _
                (sym (lock_looked present _ _ _ c.lock.ensures c.is_lock.ensures) ∙ v.if-is_lock.true)
                (omega (arith, c.record_count-n.ensures)))
                (sym v.newests_fit.ensures ∙ sym v.value-is ∙ w.if-newests_fit.true)
                (sym (records_counted present _ _ c.record_count-n.ensures _ w.records_fit.ensures)
                ∙ sym w.value-is ∙ c.if-records_fit.true)
          ]
    ]
