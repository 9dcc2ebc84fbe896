-- A block that is kept is not shown as free, by kind 2 or in a list: the claim of specs/NotFree.antt, for AlikeLaw. Assumes nothing.
use mathlib.Core.Path.{◌≡◌, refl, ap, sym, subst, ◌∙◌}
use mathlib.Core.List.{List, [], ◌∷◌}
use Prim.Native.Nat.{ℕ, ◌+◌, ◌*◌, ◌≤◌, ◌<◌}
use native.Mathlib.Omega.{arith}
use borrow.Author.Tests.{ltb-true}
use lib.Dec.{lit<}
use lib.ListN.{get_or}
use Rattle.octets.specs.Part.{AreBytes, part}
use Rattle.octets.proofs.PartLaw.{part_at}
use Rattle.lockpage.specs.Geometry.{Geometry, Proper}
use Rattle.lockpage.specs.declared.State.{State}
use Rattle.lockpage.specs.declared.State.TheVariants.{Free, Frozen, Counting}
use Rattle.lockpage.specs.State.{state, state_number}
use Rattle.lockpage.specs.Update.{latest_time}
use Rattle.addressing.specs.Map.{data_blocks}
use Rattle.memory.specs.Memory.{groups, held, none}
use Rattle.machine.specs.declared.Kind.TheVariants.{Entry}
use Rattle.machine.specs.Command.{Box}
use Rattle.machine.specs.Tag.{current_entry}
use Rattle.machine.specs.Effect.{state_place}
use Rattle.machine.specs.Step.{step}
use Rattle.machine.specs.Query.{block_number, shown_size, query_step}
use Rattle.machine.specs.Run.{Event, Given, Queried, time_of, Throughout}
use Rattle.machine.specs.Protection.{Unforged}
use Rattle.machine.specs.NotFree.{StateShown, NotShownFree, NeverFree}
use Rattle.machine.proofs.KindLaw.{entry_kind}
use Rattle.machine.proofs.QuestionLaw.{all_yes}
use Rattle.machine.proofs.StepLaw.{accepts}
use Rattle.machine.proofs.PassedLaw.{Timely, passed, in_time}
use Rattle.machine.proofs.QueryLaw.{query_passed, query_accepts}
use Rattle.machine.proofs.AnswerLaw.{state_answer}
use Rattle.machine.proofs.QueryShownLaw.{state_shown, number_below}
use Rattle.machine.proofs.SafeLaw.{Watch, Kept, safe_not_free}
use Rattle.machine.proofs.ShownLaw.{current_safe}
use Rattle.machine.proofs.AlikeLaw.{watch, Claim, command_early, both_hold}

-- the byte of a part of one
pub byte_of : (l : List ℕ) (at x : ℕ) → part l at 1 ≡ x ∷ [] → get_or l at 0 ≡ x
byte_of l at x e =
    let same : at ≡ at + 0 = omega arith in
    ap (λ (i : ℕ). get_or l i 0) same ∙ sym (part_at l at 1 0 (lit< tt)) ∙ ap (λ (k : List ℕ). get_or k 0 0) e

-- only Free has its number
pub free_number : (x : State) → state_number x ≡ state_number Free → x ≡ Free
unfolding state_number
free_number Free e = refl
free_number Frozen e = absurd (omega arith)
free_number Counting e = absurd (omega arith)

-- γ is any proper geometry
module _ {γ : Geometry} (σ : Proper γ) where
  -- P holds of the state of block b's current entry during those times, whenever the box takes a command or a query
  abbrev pub StateIs : ℕ → (ℕ → Type 0) → (ℕ → Type 0) → Box → Type 0
  StateIs b P during s = (now : ℕ) → Timely γ s now → b < data_blocks γ (groups γ s.memory) → during now
      → P (state_number (state now (current_entry γ s b)))

  -- so it holds of a byte that shows the state of that block
  shown_at_lem : (b : ℕ) (P during : ℕ → Type 0) (s : Box) → StateIs b P during s → (a now : ℕ) → a ≡ b → Timely γ s now
      → a < data_blocks γ (groups γ s.memory) → during now → (l : List ℕ) (at : ℕ)
      → part l at 1 ≡ state_number (state now (current_entry γ s a)) ∷ [] → P (get_or l at 0)
  shown_at_lem b P during s h a now e q inside d l at shown =
      subst P (sym (byte_of l at (state_number (state now (current_entry γ s a))) shown))
      (subst (λ (i : ℕ). P (state_number (state now (current_entry γ s i)))) (sym e)
      (h now q (subst (λ (i : ℕ). i < data_blocks γ (groups γ s.memory)) e inside) d))

  pub state_shown_as : (b : ℕ) (P during : ℕ → Type 0) (s : Box) (e : Event) → StateIs b P during s → StateShown γ b P during s e
  state_shown_as b P during s (Given c) h =
      λ a k e d.
      let r = accepts σ s c a in
      let kind = entry_kind c.kind c.value k in
      let q = passed σ Entry s c (all_yes σ Entry s c kind r) in
      let inside = ltb-true c.block (data_blocks γ (groups γ s.memory)) q.range in
      shown_at_lem b P during s h c.block c.now e (in_time σ Entry s c q) inside d (step γ s c).answer state_place
      (state_answer σ s c kind r)
  state_shown_as b P during s (Queried q) h =
      λ a i inside e d.
      let r = query_accepts σ s q a in
      shown_at_lem b P during s h (block_number q.blocks i) q.now e (query_passed σ s q r).timely (number_below σ s q r i inside) d
      (query_step γ s q).answer (shown_size * i) (state_shown σ s q r i inside)

  pub event_not_free : (w : Watch) (s : Box) (e : Event) → Kept γ w s → NotShownFree γ w.block (λ t. t < w.bound) s e
  event_not_free w s e h =
      state_shown_as w.block (λ shown. shown ≡ state_number Free → ⊥) (λ t. t < w.bound) s e
      (λ now q inside l f.
      safe_not_free w (current_entry γ s w.block) now (current_safe σ w s now w.block h q inside refl l) l
      (free_number (state now (current_entry γ s w.block)) f))

  never_free : (s₀ : Box) (b : ℕ) → Claim γ s₀ b (NotShownFree γ b)
  unfolding watch
  never_free s₀ b = record { kept = λ bound forever s e h. event_not_free (watch γ s₀ b bound forever) s e h; timed = cases }
    where
      cases : (during : ℕ → Type 0) (s : Box) (e : Event)
          → (time_of e ≤ latest_time → during (time_of e) → (bound : ℕ) × (time_of e < bound) × NotShownFree γ b (λ t. t < bound) s e)
          → NotShownFree γ b during s e
      cases during s (Given c) h = λ a k e d. let x = h (command_early σ s c a) d in x.2 a k e x.1
      cases during s (Queried q) h =
          λ a i inside e d. let x = h (query_passed σ s q (query_accepts σ s q a)).timely.early d in x.2 a i inside e x.1

  pub both_never_free : (s : Box) (b : ℕ) (xs ys : List Event) → AreBytes s.disk → held γ s.memory ≡ none → Throughout γ (Unforged γ) s xs
      → Throughout γ (Unforged γ) s ys → NeverFree γ s b xs ys xs × NeverFree γ s b xs ys ys
  both_never_free s b xs ys bytes n u v = both_hold σ s b (NotShownFree γ b) (never_free s b) bytes n xs ys u v
