-- The invariant of the promise: the newest version of each part is frozen and has its content, and no two parts share a block. Each plan
-- that is carried out whole keeps it. Assumes nothing.
use mathlib.Core.Path.{◌≡◌, refl, ap, sym, subst, ◌∙◌}
use mathlib.Core.Bool.{Bool, true, false}
use mathlib.Core.List.{List, [], ◌++◌}
use Rattle.std.specs.Prelude.{Option, Some, None}
use Rattle.std.proofs.lemmas.Option.{same_Some}
use Prim.Native.Nat.{ℕ}
use borrow.Author.Tests.{eq-eqb, ne_eqb}
use lib.Dec.{eqb}
use Rattle.lockpage.specs.Geometry.{Geometry, Proper}
use Rattle.machine.specs.Command.{Box}
use Rattle.machine.specs.Step.{Accepted, step}
use Rattle.machine.proofs.CaseLaw.{same_or_not}
use Rattle.machine.proofs.StepLaw.{accepts}
use Rattle.versions_machine.specs.Versions.{Range, Versions, replaced_by, entered, logged}
use Rattle.versions_machine.specs.Log.{log_block, is_full}
use Rattle.versions_machine.specs.Allocation.{next_for}
use Rattle.versions_machine.specs.Plan.{Order, Plan, Carried, plan_of, writing, unfreezing, unfreezes, given, carried_out, log_plan, due_plan}
use Rattle.versions_machine.specs.Plan.{version_orders, put_plan}
use Rattle.versions_machine.specs.History.{Locked, locked_of, Holds}
use Rattle.versions_machine.proofs.HoldsLaw.{other_holds, write_other, write_holds}
use Rattle.versions_machine.proofs.CarryLaw.{carried_on, carried_first, carried_rest}

-- the contents with one for a part
abbrev pub with_content : (ℕ → Locked) → ℕ → Locked → ℕ → Locked
with_content contents part content k = elim (eqb k part) [ true ↦ content | false ↦ contents k ]

pub content_own : (contents : ℕ → Locked) (part : ℕ) (content : Locked) → with_content contents part content part ≡ content
content_own contents part content = rw (with_content, eq-eqb part part refl)

pub content_other : (contents : ℕ → Locked) (part : ℕ) (content : Locked) (k : ℕ) → (k ≡ part → ⊥)
    → with_content contents part content k ≡ contents k
content_other contents part content k n = rw (with_content, ne_eqb k part n)

pub newest_own : (newest : ℕ → Option ℕ) (part block : ℕ) → replaced_by newest part block part ≡ Some block
unfolding replaced_by
newest_own newest part block = rw (replaced_by, eq-eqb part part refl)

pub newest_other : (newest : ℕ → Option ℕ) (part block k : ℕ) → (k ≡ part → ⊥) → replaced_by newest part block k ≡ newest k
unfolding replaced_by
newest_other newest part block k n = rw (replaced_by, ne_eqb k part n)

-- a plan, or none
abbrev pub chosen : Plan → Versions → Bool → Plan
chosen plan ν x = elim x [ true ↦ plan | false ↦ plan_of [] ν ]

-- none, or a plan
abbrev pub unchosen : Plan → Versions → Bool → Plan
unchosen plan ν x = elim x [ true ↦ plan_of [] ν | false ↦ plan ]

module _ {γ : Geometry} (σ : Proper γ) where
  pub record Sound (newest : ℕ → Option ℕ) (contents : ℕ → Locked) (s : Box) : Type 0 where
    pub holds : (p b : ℕ) → newest p ≡ Some b → Holds γ s b (contents p)
    pub apart : (p q b : ℕ) → newest p ≡ Some b → newest q ≡ Some b → p ≡ q

  -- an accepted write leaves every newest version alone: it is into a free block
  pub write_sound : (newest : ℕ → Option ℕ) (contents : ℕ → Locked) (s : Box) (block now lock : ℕ) (content : List ℕ)
      → Accepted γ s (given γ s (writing block now lock content)) → Sound newest contents s
      → Sound newest contents (step γ s (given γ s (writing block now lock content))).box
  write_sound newest contents s block now lock content a h =
      let o = writing block now lock content in
      let r = accepts σ s (given γ s o) a in
      record {
        holds =
            λ p b e.
            other_holds σ s o r b (contents p) (write_other σ lock s block now content r b (contents p) (h.holds p b e)) (h.holds p b e);
        apart = h.apart;
      }

  -- ---- a log block

  pub log_sound : (ρ : Range) (ν : Versions) (s t : Box) (now : ℕ) (contents : ℕ → Locked)
      → (carried_out γ t (log_plan γ ρ ν s now).orders).number ≡ 0 → Sound ν.newest contents t
      → Sound (log_plan γ ρ ν s now).after.newest contents (carried_out γ t (log_plan γ ρ ν s now).orders).box
  unfolding log_plan logged carried_out
  log_sound ρ ν s t now contents c h =
      let log = log_block γ ν.records (next_for γ ρ s now ν) in
      let o = writing ν.reserve now ν.lock log in
      let a = carried_first γ t o [] c in
      subst (λ (x : Carried). Sound ν.newest contents x.box) (sym (carried_on γ t o [] a))
      (write_sound ν.newest contents t ν.reserve now ν.lock log a h)

  due_sound : (ρ : Range) (ν : Versions) (s t : Box) (now : ℕ) (contents : ℕ → Locked)
      → (carried_out γ t (due_plan γ ρ ν s now).orders).number ≡ 0 → Sound ν.newest contents t
      → Sound (due_plan γ ρ ν s now).after.newest contents (carried_out γ t (due_plan γ ρ ν s now).orders).box
  unfolding due_plan carried_out
  due_sound ρ ν s t now contents c h = go (is_full γ ν) c
    where
      go : (full : Bool) → (carried_out γ t (chosen (log_plan γ ρ ν s now) ν full).orders).number ≡ 0
          → Sound (chosen (log_plan γ ρ ν s now) ν full).after.newest contents
          (carried_out γ t (chosen (log_plan γ ρ ν s now) ν full).orders).box
      go true d = log_sound ρ ν s t now contents d h
      go false d = h

  -- ---- a put

  -- the version is written
  pub record Written (newest : ℕ → Option ℕ) (contents : ℕ → Locked) (block : ℕ) (content : Locked) (s : Box) : Type 0 where
    pub sound : Sound newest contents s
    pub version : Holds γ s block content
    pub fresh : (p b : ℕ) → newest p ≡ Some b → b ≡ block → ⊥

  pub written : (newest : ℕ → Option ℕ) (contents : ℕ → Locked) (s : Box) (block now lock : ℕ) (content : List ℕ)
      → Accepted γ s (given γ s (writing block now lock content)) → Sound newest contents s
      → Written newest contents block (locked_of content lock now) (step γ s (given γ s (writing block now lock content))).box
  written newest contents s block now lock content a h =
      let o = writing block now lock content in
      let r = accepts σ s (given γ s o) a in
      record {
        sound = write_sound newest contents s block now lock content a h;
        version = write_holds σ lock s block now content r;
        fresh = λ p b e. write_other σ lock s block now content r b (contents p) (h.holds p b e);
      }

  -- the map has it for its part, where the other parts' versions are still held
  replaced : (newest : ℕ → Option ℕ) (contents : ℕ → Locked) (part block : ℕ) (content : Locked) (s : Box) → Holds γ s block content
      → ((p b : ℕ) → (p ≡ part → ⊥) → newest p ≡ Some b → Holds γ s b (contents p))
      → ((p b : ℕ) → newest p ≡ Some b → b ≡ block → ⊥) → ((p q b : ℕ) → newest p ≡ Some b → newest q ≡ Some b → p ≡ q)
      → Sound (replaced_by newest part block) (with_content contents part content) s
  replaced newest contents part block content s version others fresh apart =
      let own : (p b : ℕ) → p ≡ part → replaced_by newest part block p ≡ Some b → b ≡ block =
      λ p b e n. same_Some b block (sym n ∙ ap (replaced_by newest part block) e ∙ newest_own newest part block) in
      let old : (p b : ℕ) → (p ≡ part → ⊥) → replaced_by newest part block p ≡ Some b → newest p ≡ Some b =
      λ p b d n. sym (newest_other newest part block p d) ∙ n in
      record {
        holds =
            λ p b n.
            same_or_not p part
            (λ e.
            subst (λ (x : Locked). Holds γ s b x) (sym (ap (with_content contents part content) e ∙ content_own contents part content))
            (subst (λ (x : ℕ). Holds γ s x content) (sym (own p b e n)) version))
            (λ d. subst (λ (x : Locked). Holds γ s b x) (sym (content_other contents part content p d)) (others p b d (old p b d n)));
        apart =
            λ p q b m n.
            same_or_not p part
            (λ e. same_or_not q part (λ f. e ∙ sym f) (λ f. absurd (fresh q b (old q b f n) (own p b e m))))
            (λ e.
            same_or_not q part (λ f. absurd (fresh p b (old p b e m) (own q b f n))) (λ f. apart p q b (old p b e m) (old q b f n)));
      }

  -- "and then unfreezes the version it replaces"
  pub unfrozen : (newest : ℕ → Option ℕ) (contents : ℕ → Locked) (part block now : ℕ) (content : Locked) (s : Box) (rest : List Order)
      (before : Option ℕ) → newest part ≡ before → Written newest contents block content s
      → (carried_out γ s (unfreezes before now ++ rest)).number ≡ 0
      → (t : Box)
      × ((carried_out γ s (unfreezes before now ++ rest) ≡ carried_out γ t rest)
      × Sound (replaced_by newest part block) (with_content contents part content) t)
  unfolding unfreezes
  unfrozen newest contents part block now content s rest None e w c =
      (s, (refl, replaced newest contents part block content s w.version (λ p b d n. w.sound.holds p b n) w.fresh w.sound.apart))
  unfrozen newest contents part block now content s rest (Some old) e w c =
      let o = unfreezing old now in
      let a = carried_first γ s o rest c in
      let r = accepts σ s (given γ s o) a in
      let t = (step γ s (given γ s o)).box in (
        t,
        (
          carried_on γ s o rest a,
          replaced newest contents part block content t
              (other_holds σ s o r block content (λ x. w.fresh part old e (sym x)) w.version)
              (λ p b d n.
              other_holds σ s o r b (contents p) (λ x. d (w.sound.apart p part old (n ∙ ap Some x) e)) (w.sound.holds p b n))
              w.fresh w.sound.apart,
        ),
      )

  pub put_sound : (ρ : Range) (ν : Versions) (s : Box) (part now : ℕ) (content : List ℕ) (contents : ℕ → Locked)
      → (carried_out γ s (put_plan γ ρ ν s part now content).orders).number ≡ 0 → Sound ν.newest contents s
      → Sound (put_plan γ ρ ν s part now content).after.newest (with_content contents part (locked_of content ν.lock now))
      (carried_out γ s (put_plan γ ρ ν s part now content).orders).box
  unfolding put_plan version_orders entered
  put_sound ρ ν s part now content contents c h =
      let block = next_for γ ρ s now ν in
      let between = (carried_out γ s (version_orders γ ν part block now content)).box in
      let due = due_plan γ ρ (entered ν part block) between now in
      let rest = unfreezes (ν.newest part) now ++ due.orders in
      let o = writing block now ν.lock content in
      let a = carried_first γ s o rest c in
      let s1 = (step γ s (given γ s o)).box in
      let w = written ν.newest contents s block now ν.lock content a h in
      let c1 = carried_rest γ s o rest c in
      let u = unfrozen ν.newest contents part block now (locked_of content ν.lock now) s1 due.orders (ν.newest part) refl w c1 in
      let c2 = sym (ap (λ (x : Carried). x.number) u.1.0) ∙ c1 in
      subst (λ (x : Carried). Sound due.after.newest (with_content contents part (locked_of content ν.lock now)) x.box)
      (sym (carried_on γ s o rest a ∙ u.1.0))
      (due_sound ρ (entered ν part block) between u.0 now (with_content contents part (locked_of content ν.lock now)) c2 u.1.1)
