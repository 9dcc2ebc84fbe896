-- Every call keeps the invariant of SoundLaw.antt, and the newest version of a part until the part is put again. Assumes nothing.
use mathlib.Core.Path.{◌≡◌, refl, ap, sym, subst, ◌∙◌}
use mathlib.Core.Bool.{Bool, true, false}
use mathlib.Core.List.{List, [], ◌∷◌, ◌++◌}
use Rattle.std.specs.Prelude.{Option, Some}
use Rattle.std.proofs.lemmas.Option.{none-some}
use Prim.Native.Nat.{ℕ}
use lib.ListN.{length}
use lib.Dec.{eqb}
use Rattle.lockpage.specs.Geometry.{Geometry, Proper}
use Rattle.addressing.specs.Map.{physical}
use Rattle.disk.specs.Disk.{block}
use Rattle.machine.specs.declared.Kind.TheVariants.{Read}
use Rattle.machine.specs.Command.{Box, Outcome}
use Rattle.machine.specs.Effect.{effect, read}
use Rattle.machine.specs.Step.{padded, timed, done}
use Rattle.machine.specs.Run.{Event, after}
use Rattle.machine.proofs.KindLaw.{read_kind}
use Rattle.machine.proofs.StepLaw.{step_accepted, accepts}
use Rattle.versions_machine.specs.Versions.{Range, Versions, start, replaced_by, entered, logged}
use Rattle.versions_machine.specs.Log.{is_full}
use Rattle.versions_machine.specs.Allocation.{next_for}
use Rattle.versions_machine.specs.Plan.{carried_out, log_plan, due_plan, version_orders, put_plan}
use Rattle.versions_machine.specs.Call.{Result, put, put_questions, flush, flush_questions, flush_plan}
use Rattle.versions_machine.specs.Run.{Call, PutPart, Flush, Between, Site, site_of, start_site, put_at, called, calls, Throughout}
use Rattle.versions_machine.specs.Claims.{QuietEvent, StoreAlone, NotPutAgain, ReadsBack}
use Rattle.versions_machine.specs.History.{Locked, locked_of, Holds}
use Rattle.versions_machine.proofs.HoldsLaw.{event_holds}
use Rattle.versions_machine.proofs.CarryLaw.{either_way, done_number, accepted_done}
use Rattle.versions_machine.proofs.SoundLaw.{chosen, unchosen, with_content, content_own, content_other, newest_own, newest_other, Sound}
use Rattle.versions_machine.proofs.SoundLaw.{log_sound, put_sound}

module _ {γ : Geometry} (σ : Proper γ) (ρ : Range) where
  -- ---- the map after a plan

  log_newest : (ν : Versions) (s : Box) (now : ℕ) → (log_plan γ ρ ν s now).after.newest ≡ ν.newest
  unfolding log_plan logged
  log_newest ν s now = refl

  pub put_newest : (ν : Versions) (s : Box) (part now : ℕ) (content : List ℕ)
      → (put_plan γ ρ ν s part now content).after.newest ≡ replaced_by ν.newest part (next_for γ ρ s now ν)
  unfolding put_plan due_plan entered
  put_newest ν s part now content = go (is_full γ e)
    where
      e : Versions
      e = entered ν part (next_for γ ρ s now ν)

      between : Box
      between = (carried_out γ s (version_orders γ ν part (next_for γ ρ s now ν) now content)).box

      go : (full : Bool) → (chosen (log_plan γ ρ e between now) e full).after.newest ≡ replaced_by ν.newest part (next_for γ ρ s now ν)
      go true = log_newest e between now
      go false = refl

  -- ---- any part

  pub record Kept (x : Site) : Type 0 where
    pub contents : ℕ → Locked
    pub sound : Sound σ x.versions.newest contents x.box

  pub quiet_sound : (newest : ℕ → Option ℕ) (contents : ℕ → Locked) (s : Box) (e : Event) → QuietEvent e → Sound σ newest contents s
      → Sound σ newest contents (after γ s e)
  quiet_sound newest contents s e q h =
      record { holds = λ p b n. event_holds σ s e b (contents p) q (h.holds p b n); apart = h.apart }

  -- a store on demand, whether it has anything to store or not
  flush_sound : (ν : Versions) (s : Box) (now : ℕ) (contents : ℕ → Locked)
      → (carried_out γ s (flush_plan γ ρ ν s now).orders).number ≡ 0 → Sound σ ν.newest contents s
      → Sound σ (flush_plan γ ρ ν s now).after.newest contents (carried_out γ s (flush_plan γ ρ ν s now).orders).box
  unfolding flush_plan carried_out
  flush_sound ν s now contents c h = go (eqb (length ν.records) 0) c
    where
      go : (x : Bool) → (carried_out γ s (unchosen (log_plan γ ρ ν s now) ν x).orders).number ≡ 0
          → Sound σ (unchosen (log_plan γ ρ ν s now) ν x).after.newest contents
          (carried_out γ s (unchosen (log_plan γ ρ ν s now) ν x).orders).box
      go true d = h
      go false d = log_sound σ ρ ν s s now contents d h

  pub flush_newest : (ν : Versions) (s : Box) (now : ℕ) → (flush_plan γ ρ ν s now).after.newest ≡ ν.newest
  unfolding flush_plan
  flush_newest ν s now = go (eqb (length ν.records) 0)
    where
      go : (x : Bool) → (unchosen (log_plan γ ρ ν s now) ν x).after.newest ≡ ν.newest
      go true = refl
      go false = log_newest ν s now

  call_kept : (x : Site) (c : Call) → StoreAlone x c → Kept x → Kept (called γ ρ x c)
  unfolding put flush
  call_kept x (PutPart part now content) q h =
      let ν = x.versions in
      let s = x.box in
      either_way γ (put_questions γ ρ ν s part now) (next_for γ ρ s now ν) (put_plan γ ρ ν s part now content) ν s
      (λ (ν : Versions) (s : Box). Kept (site_of ν s))
      (λ d.
      record {
        contents = with_content h.contents part (locked_of content ν.lock now);
        sound = put_sound σ ρ ν s part now content h.contents d.carried h.sound;
      })
      h
  call_kept x (Flush now) q h =
      let ν = x.versions in
      let s = x.box in
      either_way γ (flush_questions γ ρ ν s now) 0 (flush_plan γ ρ ν s now) ν s
      (λ (ν : Versions) (s : Box). Kept (site_of ν s))
      (λ d. record { contents = h.contents; sound = flush_sound ν s now h.contents d.carried h.sound })
      h
  call_kept x (Between e) q h =
      record { contents = h.contents; sound = quiet_sound x.versions.newest h.contents x.box e q h.sound }

  -- ---- one part

  pub record Tracked (part b : ℕ) (content : List ℕ) (x : Site) : Type 0 where
    pub contents : ℕ → Locked
    pub sound : Sound σ x.versions.newest contents x.box
    pub known : x.versions.newest part ≡ Some b
    pub same : (contents part).content ≡ content

  -- an accepted put has its part tracked at the block that it answers
  pub put_tracked : (x : Site) (part now b : ℕ) (content : List ℕ) → (put_at γ ρ x part now content).number ≡ 0
      → (put_at γ ρ x part now content).block ≡ b → Kept x → Tracked part b content (called γ ρ x (PutPart part now content))
  unfolding put
  put_tracked x part now b content a e h =
      let ν = x.versions in
      let s = x.box in
      let v = next_for γ ρ s now ν in
      let d = accepted_done γ (put_questions γ ρ ν s part now) v (put_plan γ ρ ν s part now content) ν s a in
      let answered : v ≡ b = sym (ap (λ (r : Result). r.block) d.result) ∙ e in
      subst (λ (r : Result). Tracked part b content (site_of r.versions r.box)) (sym d.result)
      (record {
        contents = with_content h.contents part (locked_of content ν.lock now);
        sound = put_sound σ ρ ν s part now content h.contents d.carried h.sound;
        known =
            ap (λ (f : ℕ → Option ℕ). f part) (put_newest ν s part now content) ∙ newest_own ν.newest part v ∙ ap Some answered;
        same = ap (λ (w : Locked). w.content) (content_own h.contents part (locked_of content ν.lock now));
      })

  call_tracked : (part b : ℕ) (content : List ℕ) (x : Site) (c : Call) → StoreAlone x c → NotPutAgain γ ρ part x c → Tracked part b content x
      → Tracked part b content (called γ ρ x c)
  unfolding put flush
  call_tracked part b content x (PutPart other now new) q n h =
      let ν = x.versions in
      let s = x.box in
      let v = next_for γ ρ s now ν in
      let qs = put_questions γ ρ ν s other now in
      let plan = put_plan γ ρ ν s other now new in
      either_way γ qs v plan ν s
      (λ (ν : Versions) (s : Box). Tracked part b content (site_of ν s))
      (λ d.
      let apart : part ≡ other → ⊥ = λ e. n (done_number γ qs v plan ν s d) (sym e) in
      record {
        contents = with_content h.contents other (locked_of new ν.lock now);
        sound = put_sound σ ρ ν s other now new h.contents d.carried h.sound;
        known =
            ap (λ (f : ℕ → Option ℕ). f part) (put_newest ν s other now new) ∙ newest_other ν.newest other v part apart ∙ h.known;
        same = ap (λ (w : Locked). w.content) (content_other h.contents other (locked_of new ν.lock now) part apart) ∙ h.same;
      })
      h
  call_tracked part b content x (Flush now) q n h =
      let ν = x.versions in
      let s = x.box in
      either_way γ (flush_questions γ ρ ν s now) 0 (flush_plan γ ρ ν s now) ν s
      (λ (ν : Versions) (s : Box). Tracked part b content (site_of ν s))
      (λ d.
      record {
        contents = h.contents;
        sound = flush_sound ν s now h.contents d.carried h.sound;
        known = ap (λ (f : ℕ → Option ℕ). f part) (flush_newest ν s now) ∙ h.known;
        same = h.same;
      })
      h
  call_tracked part b content x (Between e) q n h =
      record {
        contents = h.contents;
        sound = quiet_sound x.versions.newest h.contents x.box e q h.sound;
        known = h.known;
        same = h.same;
      }

  -- ---- a list of calls

  pub calls_append : (x : Site) (cs ds : List Call) → calls γ ρ x (cs ++ ds) ≡ calls γ ρ (calls γ ρ x cs) ds
  calls_append x [] ds = refl
  calls_append x (c ∷ cs) ds = calls_append (called γ ρ x c) cs ds

  pub throughout_front : (P : Site → Call → Type 0) (x : Site) (cs ds : List Call) → Throughout γ ρ P x (cs ++ ds) → Throughout γ ρ P x cs
  throughout_front P x [] ds h = tt
  throughout_front P x (c ∷ cs) ds h = (h.0, throughout_front P (called γ ρ x c) cs ds h.1)

  pub throughout_append : (P : Site → Call → Type 0) (x : Site) (cs ds : List Call) → Throughout γ ρ P x cs → Throughout γ ρ P (calls γ ρ x cs) ds
      → Throughout γ ρ P x (cs ++ ds)
  throughout_append P x [] ds h k = k
  throughout_append P x (c ∷ cs) ds h k = (h.0, throughout_append P (called γ ρ x c) cs ds h.1 k)

  pub throughout_back : (P : Site → Call → Type 0) (x : Site) (cs ds : List Call) → Throughout γ ρ P x (cs ++ ds)
      → Throughout γ ρ P (calls γ ρ x cs) ds
  throughout_back P x [] ds h = h
  throughout_back P x (c ∷ cs) ds h = throughout_back P (called γ ρ x c) cs ds h.1

  pub calls_kept : (x : Site) (cs : List Call) → Throughout γ ρ StoreAlone x cs → Kept x → Kept (calls γ ρ x cs)
  calls_kept x [] q h = h
  calls_kept x (c ∷ cs) q h = calls_kept (called γ ρ x c) cs q.1 (call_kept x c q.0 h)

  pub calls_tracked : (part b : ℕ) (content : List ℕ) (x : Site) (cs : List Call) → Throughout γ ρ StoreAlone x cs
      → Throughout γ ρ (NotPutAgain γ ρ part) x cs → Tracked part b content x → Tracked part b content (calls γ ρ x cs)
  calls_tracked part b content x [] q n h = h
  calls_tracked part b content x (c ∷ cs) q n h =
      calls_tracked part b content (called γ ρ x c) cs q.1 n.1 (call_tracked part b content x c q.0 n.0 h)

  -- a store that was just started has no versions
  pub start_kept : (lock : ℕ) (s : Box) → Kept (start_site γ ρ lock s)
  unfolding start
  start_kept lock s =
      record {
        contents = λ p. locked_of [] 0 0;
        sound = record { holds = λ p b e. absurd (none-some b e); apart = λ p q b e f. absurd (none-some b e) };
      }

  -- ---- what a read answers

  pub held_read : (s : Box) (b : ℕ) (w : Locked) → Holds γ s b w → ReadsBack γ s b w.content
  unfolding done effect read timed
  held_read s b w h =
      record {
        stored = h.stored;
        read =
            λ c a k e.
            ap (λ (o : Outcome). o.answer)
            (step_accepted σ Read s c (read_kind c.kind c.value k) (accepts σ s c a))
            ∙ ap (λ (i : ℕ). padded γ (block γ s.disk (physical γ i))) e
            ∙ ap (padded γ) h.stored;
      }
