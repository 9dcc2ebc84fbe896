-- Demand 3: a watch for each of the three cases, and what is claimed of the runs while a block is protected. Assumes nothing.
use mathlib.Core.Path.{◌≡◌, refl, sym, subst, ◌∙◌}
use mathlib.Core.Bool.{Bool, true, false, false≢true}
use mathlib.Core.Logic.{inl, inr}
use mathlib.Core.List.{List, [], ◌∷◌, ◌++◌}
use Prim.Native.Nat.{ℕ, suc, ◌≤◌, ◌<◌}
use native.Mathlib.Omega.{arith}
use Rattle.octets.specs.Part.{AreBytes}
use Rattle.lockpage.specs.Geometry.{Geometry, Proper}
use Rattle.lockpage.specs.Entry.{time_of_write, flag, frozen_flag, unfrozen_flag}
use Rattle.lockpage.specs.Update.{latest_time}
use Rattle.lockpage.proofs.PageLaw.{entry_at_fits}
use Rattle.addressing.specs.Map.{group_of, place_of, page_block}
use Rattle.disk.specs.Disk.{block}
use Rattle.disk.proofs.DiskLaw.{block_are}
use Rattle.memory.specs.Memory.{last_time, held, none}
use Rattle.machine.specs.Command.{Box, Command, kind_of}
use Rattle.machine.specs.Step.{step, Accepted}
use Rattle.machine.specs.Run.{Event, Given, Queried, time_of, after, run, Throughout}
use Rattle.machine.specs.Protection.{Unforged, NotUnfrozen, CommandShows, Shows, start_content, start_entry, earliest_expiry, Protected, FrozenUnder}
use Rattle.machine.specs.Protection.{CountingTo, NeverUnfrozen, ShowsStart, ShownIn, SeenAlike}
use Rattle.machine.proofs.KindLaw.{unfreeze_number}
use Rattle.machine.proofs.QuestionLaw.{all_yes}
use Rattle.machine.proofs.StepLaw.{step_number, accepts}
use Rattle.machine.proofs.PassedLaw.{passed}
use Rattle.machine.proofs.SafeLaw.{Watch, Locked, Kept}
use Rattle.machine.proofs.KeptLaw.{Fair, run_kept}
use Rattle.machine.proofs.ShownLaw.{event_shown}

-- γ is the box's geometry
module _ (γ : Geometry) where
  -- block b as it is in s, protected before the bound
  unfoldable pub watch : Box → ℕ → ℕ → Bool → Watch
  watch s b bound forever =
      record {
        block = b;
        content = start_content γ s b;
        time = time_of_write (start_entry γ s b);
        bound = bound;
        start = last_time γ s.memory;
        forever = forever;
      }

  -- In is a claim about an event of a run from s₀, made during some times
  pub record Claim (s₀ : Box) (b : ℕ) (In : (ℕ → Type 0) → Box → Event → Type 0) : Type 1 where
    -- it holds before a bound until which block b is kept
    pub kept : (bound : ℕ) (forever : Bool) (s : Box) (e : Event) → Kept γ (watch s₀ b bound forever) s → In (λ t. t < bound) s e
    -- of the times it sees the event's own alone: if that is one of them, it is enough that the claim holds before a bound beyond it
    pub timed : (during : ℕ → Type 0) (s : Box) (e : Event)
        → (time_of e ≤ latest_time → during (time_of e) → (bound : ℕ) × (time_of e < bound) × In (λ t. t < bound) s e) → In during s e

-- γ is any proper geometry
module _ {γ : Geometry} (σ : Proper γ) where
  -- where no more is asked of an unfreeze, or there is none, events that bring no forged page are fair
  pub fair : (w : Watch) (s : Box) (es : List Event) → Throughout γ (Unforged γ) s es
      → (w.forever ≡ true → Throughout γ (NotUnfrozen γ w.block) s es) → Throughout γ (Fair γ w) s es
  fair w s [] u n = tt
  fair w s (Given c ∷ es) u n = (
    (u.0, λ r k b f. (n f).0 (step_number σ s c ∙ r) (unfreeze_number c.kind c.value k) b),
    fair w (after γ s (Given c)) es u.1 (λ f. (n f).1),
  )
  fair w s (Queried q ∷ es) u n = (tt, fair w (after γ s (Queried q)) es u.1 (λ f. (n f).1))

  -- with none held, a block that its entry protects until the bound is kept
  pub start_kept : (s : Box) (b bound : ℕ) (forever : Bool) → AreBytes s.disk → held γ s.memory ≡ none
      → Locked (watch γ s b bound forever) (start_entry γ s b) → Kept γ (watch γ s b bound forever) s
  unfolding watch
  start_kept s b bound forever bytes none_held locked =
      let page = block γ s.disk (page_block γ (group_of γ b)) in
      record {
        begun = omega arith;
        safe =
            λ l.
            record {
              disk =
                  record {
                    content = refl;
                    page =
                        record {
                          fits = entry_at_fits page (place_of γ b) (block_are σ s.disk (page_block γ (group_of γ b)) bytes);
                          time = refl;
                          locked = locked;
                        };
                  };
              held = λ m e. absurd (m none_held);
            };
      }

  module _ (s₀ : Box) (b : ℕ) (In : (ℕ → Type 0) → Box → Event → Type 0) (claim : Claim γ s₀ b In) (bytes : AreBytes s₀.disk)
      (none_held : held γ s₀.memory ≡ none) where
    -- the claim before the bound, where the start's entry protects the block until then
    before : (bound : ℕ) (forever : Bool) → Locked (watch γ s₀ b bound forever) (start_entry γ s₀ b) → (es : List Event)
        → Throughout γ (Unforged γ) s₀ es → (forever ≡ true → Throughout γ (NotUnfrozen γ b) s₀ es)
        → Throughout γ (In (λ t. t < bound)) s₀ es
    unfolding watch
    before bound forever locked es u n =
        let w = watch γ s₀ b bound forever in
        run_kept σ w (In (λ t. t < bound)) (claim.kept bound forever) s₀ es (fair w s₀ es u n) (start_kept s₀ b bound forever bytes none_held locked)

    module _ (xs ys : List Event) where
      -- the three cases put together
      together : (s : Box) (es : List Event)
          → (flag (start_entry γ s₀ b).stamp ≡ frozen_flag → Throughout γ (In (λ t. t < earliest_expiry γ s₀ b)) s es)
          → (flag (start_entry γ s₀ b).stamp ≡ unfrozen_flag → Throughout γ (In (λ t. t < (start_entry γ s₀ b).word)) s es)
          → (flag (start_entry γ s₀ b).stamp ≡ frozen_flag → Throughout γ (NotUnfrozen γ b) s₀ xs → Throughout γ (NotUnfrozen γ b) s₀ ys
          → Throughout γ (In (λ t. t < suc latest_time)) s es)
          → Throughout γ (In (Protected γ s₀ b xs ys)) s es
      together s [] f g h = tt
      together s (e ∷ es) f g h = (
        claim.timed (Protected γ s₀ b xs ys) s e (λ early p. bounded early p),
        together (after γ s e) es (λ x. (f x).1) (λ x. (g x).1) (λ x y z. (h x y z).1),
      )
        where
          bounded : time_of e ≤ latest_time → Protected γ s₀ b xs ys (time_of e) → (bound : ℕ) × (time_of e < bound) × In (λ t. t < bound) s e
          bounded early (FrozenUnder x l) = (earliest_expiry γ s₀ b, omega arith, (f x).0)
          bounded early (CountingTo x above l) = ((start_entry γ s₀ b).word, omega arith, (g x).0)
          bounded early (NeverUnfrozen x y z) = (suc latest_time, omega arith, (h x y z).0)

      throughout : (es : List Event) → Throughout γ (Unforged γ) s₀ es
          → (Throughout γ (NotUnfrozen γ b) s₀ xs → Throughout γ (NotUnfrozen γ b) s₀ ys → Throughout γ (NotUnfrozen γ b) s₀ es)
          → Throughout γ (In (Protected γ s₀ b xs ys)) s₀ es
      unfolding watch
      throughout es u never =
          together s₀ es
          (λ f. before (earliest_expiry γ s₀ b) false (inl (f, inl (omega arith))) es u (λ x. absurd (false≢true x)))
          (λ f. before (start_entry γ s₀ b).word false (inr (f, omega arith)) es u (λ x. absurd (false≢true x)))
          (λ f x y. before (suc latest_time) true (inl (f, inr refl)) es u (λ t. never x y))

      -- so it holds in both runs while the block is protected
      pub both_hold : Throughout γ (Unforged γ) s₀ xs → Throughout γ (Unforged γ) s₀ ys
          → Throughout γ (In (Protected γ s₀ b xs ys)) s₀ xs × Throughout γ (In (Protected γ s₀ b xs ys)) s₀ ys
      both_hold u v = (throughout xs u (λ x y. x), throughout ys v (λ x y. y))

  -- ---- what is shown is such a claim

  -- an accepted command is timed before the first time that question 4 refuses
  pub command_early : (s : Box) (c : Command) → Accepted γ s c → c.now ≤ latest_time
  command_early s c a = (passed σ (kind_of c) s c (all_yes σ (kind_of c) s c refl (accepts σ s c a))).early

  shows : (s₀ : Box) (b : ℕ) → Claim γ s₀ b (Shows γ b (start_content γ s₀ b) (time_of_write (start_entry γ s₀ b)))
  unfolding watch
  shows s₀ b =
      record {
        kept = λ bound forever s e h. event_shown σ (watch γ s₀ b bound forever) s e h;
        timed = cases;
      }
    where
      cases : (during : ℕ → Type 0) (s : Box) (e : Event)
          → (time_of e ≤ latest_time → during (time_of e)
          → (bound : ℕ) × (time_of e < bound) × Shows γ b (start_content γ s₀ b) (time_of_write (start_entry γ s₀ b)) (λ t. t < bound) s e)
          → Shows γ b (start_content γ s₀ b) (time_of_write (start_entry γ s₀ b)) during s e
      cases during s (Given c) h =
          record {
            read = λ a k e d. let x = h (command_early s c a) d in x.2.read a k e x.1;
            entry = λ a k e d. let x = h (command_early s c a) d in x.2.entry a k e x.1;
          }
      cases during s (Queried q) h = tt

  pub both_shown : (s : Box) (b : ℕ) (xs ys : List Event) → AreBytes s.disk → held γ s.memory ≡ none → Throughout γ (Unforged γ) s xs
      → Throughout γ (Unforged γ) s ys → ShowsStart γ s b xs ys xs × ShowsStart γ s b xs ys ys
  both_shown s b xs ys bytes n u v =
      both_hold s b (Shows γ b (start_content γ s b) (time_of_write (start_entry γ s b))) (shows s b) bytes n xs ys u v

  -- ---- one event of each run

  throughout_at : (P : Box → Event → Type 0) (s : Box) (earlier : List Event) (e : Event) (later : List Event)
      → Throughout γ P s (earlier ++ (e ∷ later)) → P (run γ s earlier) e
  throughout_at P s [] e later h = h.0
  throughout_at P s (x ∷ xs) e later h = throughout_at P (after γ s x) xs e later h.1

  -- what each accepted command of kind k on a protected block shows as at the start, two of them show alike
  pub seen_alike : {A : Type 0} (k : ℕ) (seen : List ℕ → A) (kept : Box → ℕ → A)
      → ((s : Box) (b : ℕ) (during : ℕ → Type 0) (t : Box) (c : Command)
      → CommandShows γ b (start_content γ s b) (time_of_write (start_entry γ s b)) during t c
      → Accepted γ t c → c.kind ≡ k → c.block ≡ b → during c.now → seen (step γ t c).answer ≡ kept s b)
      → SeenAlike γ k seen
  seen_alike k seen kept shows s b xs ys bytes n u v c d x y p q = seen_in xs both.0 c x p ∙ sym (seen_in ys both.1 d y q)
    where
      both : ShowsStart γ s b xs ys xs × ShowsStart γ s b xs ys ys
      both = both_shown s b xs ys bytes n u v

      seen_in : (es : List Event) → ShowsStart γ s b xs ys es → (c : Command) (x : ShownIn γ k s b es c) → Protected γ s b xs ys c.now
          → seen (step γ (run γ s x.earlier) c).answer ≡ kept s b
      seen_in es h c x p =
          let P = Shows γ b (start_content γ s b) (time_of_write (start_entry γ s b)) (Protected γ s b xs ys) in
          shows s b (Protected γ s b xs ys) (run γ s x.earlier) c
          (throughout_at P s x.earlier (Given c) x.later (subst (Throughout γ P s) x.split h)) x.accepted x.kind x.block p
