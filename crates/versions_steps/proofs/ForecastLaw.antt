-- A put's number is the forecast's, by the fields that were read from the state. Assumes nothing.
use mathlib.Core.Path.{◌≡◌, ap, sym, subst, ◌∙◌}
use mathlib.Core.Bool.{Bool}
use mathlib.Core.List.{List, [], ◌∷◌, ◌++◌}
use Rattle.std.specs.Prelude.{Option}
use Prim.Native.Nat.{ℕ, ◌+◌, ◌≤◌, ◌<◌}
use native.Mathlib.Omega.{arith}
use borrow.Author.Tests.{eq-eqb, ne_eqb, leb-true}
use lib.Dec.{eqb}
use lib.ListN.{length, length-append}
use Rattle.lockpage.specs.Geometry.{Geometry, Proper}
use Rattle.memory.specs.Memory.{count, groups}
use Rattle.machine.specs.Command.{Box}
use Rattle.machine.specs.Tag.{current_entry}
use Rattle.machine.specs.Claims.{ByteBox}
use Rattle.machine.proofs.CaseLaw.{same_or_not}
use Rattle.versions_machine.specs.Versions.{Range, record_of, entered}
use Rattle.versions_machine.specs.Log.{records_per_block, is_full}
use Rattle.versions_machine.specs.Allocation.{whole_box, next_for}
use Rattle.versions_machine.specs.Plan.{Order}
use Rattle.versions_machine.specs.Foresight.{foreseen}
use Rattle.versions_machine.specs.Call.{last_part, put, put_questions}
use Rattle.versions_machine.proofs.AcceptLaw.{put_yes}
use Rattle.versions_forecast.specs.Orders.{put_orders}
use Rattle.versions_forecast.specs.Ready.{ForecastReady}
use Rattle.versions_forecast.proofs.CallLaw.{put_ready, put_number}
use Rattle.versions_state.specs.Layout.{most_records}
use Rattle.versions_state.specs.State.{record_count, versions_in}
use Rattle.versions_state.proofs.ValidLaw.{facts, count_read}
use Rattle.versions_steps.specs.Ready.{PutReady}

module _ {γ : Geometry} (σ : Proper γ) where
  -- a record is the one that fills a log block where the state has room for no more
  pub full_is : (state : List ℕ) (part block : ℕ) → record_count state < records_per_block γ
      → eqb (record_count state) (most_records γ) ≡ is_full γ (entered (versions_in state) part block)
  unfolding is_full entered
  full_is state part block room =
      let n = record_count state in
      let m = most_records γ in
      let k = length ((versions_in state).records ++ (record_of part block ∷ [])) in
      let more : k ≡ n + 1 =
      length-append (versions_in state).records (record_of part block ∷ []) ∙ ap (λ (j : ℕ). j + 1) (count_read γ state) in
      same_or_not n m (λ e. eq-eqb n m e ∙ sym (eq-eqb k (records_per_block γ) (omega (arith, more))))
      (λ d. ne_eqb n m d ∙ sym (ne_eqb k (records_per_block γ) (λ e. d (omega (arith, more)))))

  module _ (state : List ℕ) (s : Box) (part block now : ℕ) (ready : PutReady γ (whole_box γ (groups γ s.memory)) state s part block now)
      (lock : ℕ) (is-lock : lock ≡ (versions_in state).lock) (reserve : ℕ) (is-reserve : reserve ≡ (versions_in state).reserve) where
    ρ : Range
    ρ = whole_box γ (groups γ s.memory)

    pub is_ready : ForecastReady γ s block now lock reserve
    unfolding ρ
    is_ready =
        let ν = versions_in state in
        subst (λ (b : ℕ). ForecastReady γ s b now lock reserve) (sym ready.block_is)
        (subst (λ (l : ℕ). ForecastReady γ s (next_for γ ρ s now ν) now l reserve) (sym is-lock)
        (subst (ForecastReady γ s (next_for γ ρ s now ν) now ν.lock) (sym is-reserve) (put_ready σ ρ ν s part now ready.asked (omega arith))))

    pub is_part : part ≤ last_part
    unfolding put_questions ρ
    is_part = leb-true part last_part (put_yes σ ρ (versions_in state) s part now ready.asked).0

    pub forecast_is : ByteBox s → (content : List ℕ) (replaced : Option ℕ) → replaced ≡ (versions_in state).newest part → (due : Bool)
        → due ≡ eqb (record_count state) (most_records γ) → (r : ℕ)
        → r ≡ foreseen γ (groups γ s.memory) (count s.memory) (current_entry γ s)
        (put_orders γ block now lock content replaced due reserve)
        → r ≡ (put γ (whole_box γ (groups γ s.memory)) (versions_in state) s part now content).number
    unfolding ρ
    forecast_is bytes content replaced is-replaced due is-due r e =
        let ν = versions_in state in
        let b = next_for γ ρ s now ν in
        let number : List Order → ℕ = foreseen γ (groups γ s.memory) (count s.memory) (current_entry γ s) in
        let full = is-due ∙ full_is state part b (facts γ state ready.valid).few in
        e
        ∙ ap (λ (x : ℕ). number (put_orders γ x now lock content replaced due reserve)) ready.block_is
        ∙ ap (λ (x : ℕ). number (put_orders γ b now x content replaced due reserve)) is-lock
        ∙ ap (λ (x : Option ℕ). number (put_orders γ b now ν.lock content x due reserve)) is-replaced
        ∙ ap (λ (x : Bool). number (put_orders γ b now ν.lock content (ν.newest part) x reserve)) full
        ∙ ap (λ (x : ℕ). number (put_orders γ b now ν.lock content (ν.newest part) (is_full γ (entered ν part b)) x)) is-reserve
        ∙ sym (put_number σ ρ ν s part now content bytes ready.asked)
