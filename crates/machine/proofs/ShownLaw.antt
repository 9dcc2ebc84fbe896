-- What a run shows of a watched block that it keeps. Assumes nothing.
use mathlib.Core.Path.{◌≡◌, ap, sym, subst, ◌∙◌}
use Prim.Native.Nat.{ℕ, ◌<◌}
use native.Mathlib.Omega.{arith}
use borrow.Author.Tests.{ltb-true}
use Rattle.lockpage.specs.Geometry.{Geometry, Proper}
use Rattle.lockpage.specs.Entry.{time_of_write}
use Rattle.lockpage.specs.Page.{entry_at}
use Rattle.addressing.specs.Map.{data_blocks, physical}
use Rattle.disk.specs.Disk.{block}
use Rattle.memory.specs.Memory.{groups}
use Rattle.machine.specs.declared.Kind.TheVariants.{Read, Entry}
use Rattle.machine.specs.Command.{Box, Command, kind_of}
use Rattle.machine.specs.Tag.{current_entry}
use Rattle.machine.specs.Question.{refusal}
use Rattle.machine.specs.Step.{step, padded}
use Rattle.machine.specs.Run.{Event, Given, Queried}
use Rattle.machine.specs.Protection.{Shows}
use Rattle.machine.proofs.KindLaw.{read_kind, entry_kind}
use Rattle.machine.proofs.QuestionLaw.{all_yes}
use Rattle.machine.proofs.StepLaw.{accepts}
use Rattle.machine.proofs.PassedLaw.{Timely, passed, in_time}
use Rattle.machine.proofs.AnswerLaw.{read_answer, entry_answer_lem}
use Rattle.machine.proofs.WatchedRunLaw.{current_watched}
use Rattle.machine.proofs.SafeLaw.{Watch, Safe, Kept}

-- the times before the bound
abbrev pub Before : Watch → ℕ → Type 0
Before w t = t < w.bound

-- γ is any proper geometry
module _ {γ : Geometry} (σ : Proper γ) where
  -- ---- what a command shows

  read_shown : (w : Watch) (s : Box) (c : Command) → Kept γ w s → refusal γ s c ≡ 0 → kind_of c ≡ Read → c.block ≡ w.block → c.now < w.bound
      → (step γ s c).answer ≡ padded γ w.content
  read_shown w s c h r k e l =
      let q = passed σ Read s c (all_yes σ Read s c k r) in
      read_answer σ s c k r
      ∙ ap (λ (a : ℕ). padded γ (block γ s.disk (physical γ a))) e
      ∙ ap (padded γ) (h.safe (omega (arith, q.later))).disk.content

  -- the block's current entry is safe before the bound
  pub current_safe : (w : Watch) (s : Box) (now a : ℕ) → Kept γ w s → Timely γ s now → a < data_blocks γ (groups γ s.memory) → a ≡ w.block
      → now < w.bound → Safe w (current_entry γ s a)
  current_safe w s now a h q inside e l =
      subst (λ (i : ℕ). Safe w (current_entry γ s i)) (sym e)
      (current_watched σ w.block (λ l. l ≡ w.content) (Safe w) s q.memory
      (subst (λ (i : ℕ). i < data_blocks γ (groups γ s.memory)) e inside) (h.safe (omega (arith, q.later))))

  -- that of an accepted kind 2
  entry_safe : (w : Watch) (s : Box) (c : Command) → Kept γ w s → refusal γ s c ≡ 0 → kind_of c ≡ Entry → c.block ≡ w.block → c.now < w.bound
      → Safe w (current_entry γ s c.block)
  entry_safe w s c h r k e l =
      let q = passed σ Entry s c (all_yes σ Entry s c k r) in
      current_safe w s c.now c.block h (in_time σ Entry s c q) (ltb-true c.block (data_blocks γ (groups γ s.memory)) q.range) e l

  entry_shown : (w : Watch) (s : Box) (c : Command) → Kept γ w s → refusal γ s c ≡ 0 → kind_of c ≡ Entry → c.block ≡ w.block → c.now < w.bound
      → time_of_write (entry_at (step γ s c).answer 0) ≡ w.time
  entry_shown w s c h r k e l =
      let safe = entry_safe w s c h r k e l in
      ap time_of_write (entry_answer_lem σ s c k r safe.fits) ∙ safe.time

  -- ---- a run

  pub event_shown : (w : Watch) (s : Box) (e : Event) → Kept γ w s → Shows γ w.block w.content w.time (Before w) s e
  event_shown w s (Given c) h =
      record {
        read = λ a k e l. read_shown w s c h (accepts σ s c a) (read_kind c.kind c.value k) e l;
        entry = λ a k e l. entry_shown w s c h (accepts σ s c a) (entry_kind c.kind c.value k) e l;
      }
  event_shown w s (Queried q) h = tt
