-- A block that the store's map has for a part is that of the part's last accepted put. Assumes nothing.
use mathlib.Core.Path.{◌≡◌, refl, ap, sym, subst, ◌∙◌}
use mathlib.Core.Logic.{◌⊎◌, inl, inr, ⊎_elim}
use mathlib.Core.List.{List, [], ◌∷◌, ◌++◌, append_assoc}
use Rattle.std.specs.Prelude.{Option, Some, None}
use Rattle.std.proofs.lemmas.Option.{same_Some, none-some}
use Prim.Native.Nat.{ℕ}
use Rattle.lockpage.specs.Geometry.{Geometry, Proper}
use Rattle.machine.proofs.CaseLaw.{same_or_not}
use Rattle.versions_machine.specs.Versions.{Range, Versions, replaced_by}
use Rattle.versions_machine.specs.Allocation.{next_for}
use Rattle.versions_machine.specs.Plan.{put_plan}
use Rattle.versions_machine.specs.Call.{Result, put, put_questions}
use Rattle.versions_machine.specs.Run.{Call, PutPart, Flush, Between, Site, put_at, called, calls, Throughout}
use Rattle.versions_machine.specs.Claims.{NotPutAgain, Newest}
use Rattle.versions_machine.proofs.CarryLaw.{accepted_done, put_unaltered}
use Rattle.versions_machine.proofs.SoundLaw.{newest_own, newest_other}
use Rattle.versions_machine.proofs.RunLaw.{put_newest, calls_append, throughout_append}
use Rattle.versions_machine.proofs.FlushLaw.{flush_keeps_newest}

module _ {γ : Geometry} (σ : Proper γ) (ρ : Range) (part : ℕ) where
  -- no accepted put is of the part, and the map is as it was
  record Unput (x : Site) (cs : List Call) : Type 0 where
    same : (calls γ ρ x cs).versions.newest part ≡ x.versions.newest part
    never : Throughout γ ρ (NotPutAgain γ ρ part) x cs

  -- the last accepted put of the part, and the map has its block
  pub record LastPut (x : Site) (cs : List Call) : Type 0 where
    pub block : ℕ
    pub content : List ℕ
    pub newest : Newest γ ρ x cs part block content
    pub known : (calls γ ρ x cs).versions.newest part ≡ Some block

  -- ---- one call more, in front

  put_in_front : (x : Site) (c : Call) (cs : List Call) → LastPut (called γ ρ x c) cs → LastPut x (c ∷ cs)
  put_in_front x c cs h =
      let n = h.newest in
      record {
        block = h.block;
        content = h.content;
        newest =
            record {
              earlier = c ∷ n.earlier;
              later = n.later;
              now = n.now;
              split = ap (λ (l : List Call). c ∷ l) n.split;
              accepted = n.accepted;
              answered = n.answered;
              last = n.last;
            };
        known = h.known;
      }

  put_map : (x : Site) (p now : ℕ) (content : List ℕ) → (put_at γ ρ x p now content).number ≡ 0
      → (put_at γ ρ x p now content).versions.newest ≡ replaced_by x.versions.newest p (put_at γ ρ x p now content).block
  unfolding put
  put_map x p now content a =
      let ν = x.versions in
      let s = x.box in
      let d = accepted_done γ (put_questions γ ρ ν s p now) (next_for γ ρ s now ν) (put_plan γ ρ ν s p now content) ν s a in
      ap (λ (r : Result). r.versions.newest) d.result
      ∙ put_newest σ ρ ν s p now content
      ∙ ap (replaced_by ν.newest p) (sym (ap (λ (r : Result). r.block) d.result))

  -- an accepted put of the part, and none after it
  put_here : (x : Site) (now : ℕ) (content : List ℕ) (cs : List Call) → (put_at γ ρ x part now content).number ≡ 0
      → Unput (called γ ρ x (PutPart part now content)) cs → LastPut x (PutPart part now content ∷ cs)
  put_here x now content cs a h =
      let b = (put_at γ ρ x part now content).block in
      record {
        block = b;
        content = content;
        newest = record { earlier = []; later = cs; now = now; split = refl; accepted = a; answered = refl; last = h.never };
        known = h.same ∙ ap (λ (f : ℕ → Option ℕ). f part) (put_map x part now content a) ∙ newest_own x.versions.newest part b;
      }

  -- an accepted put of another part, or a refused one
  put_other : (x : Site) (p now : ℕ) (content : List ℕ) (cs : List Call) → ((put_at γ ρ x p now content).number ≡ 0 → p ≡ part → ⊥)
      → Unput (called γ ρ x (PutPart p now content)) cs → Unput x (PutPart p now content ∷ cs)
  put_other x p now content cs n h =
      record {
        same =
            h.same
            ∙ same_or_not (put_at γ ρ x p now content).number 0
            (λ a.
            ap (λ (f : ℕ → Option ℕ). f part) (put_map x p now content a)
            ∙ newest_other x.versions.newest p (put_at γ ρ x p now content).block part (λ e. n a (sym e)))
            (λ r. ap (λ (ν : Versions). ν.newest part) (put_unaltered γ ρ x.versions x.box p now content r).versions);
        never = (n, h.never);
      }

  -- ---- a list of calls

  put_or_not : (x : Site) (cs : List Call) → Unput x cs ⊎ LastPut x cs
  put_or_not x [] = inl (record { same = refl; never = tt })
  put_or_not x (c ∷ cs) = ⊎_elim (in_front_lem c) (λ h. inr (put_in_front x c cs h)) (put_or_not (called γ ρ x c) cs)
    where
      in_front_lem : (c : Call) → Unput (called γ ρ x c) cs → Unput x (c ∷ cs) ⊎ LastPut x (c ∷ cs)
      in_front_lem (PutPart p now content) h =
          same_or_not p part
          (λ e.
          subst (λ (q : ℕ). Unput (called γ ρ x (PutPart q now content)) cs → Unput x (PutPart q now content ∷ cs) ⊎ LastPut x (PutPart q now content ∷ cs))
          (sym e)
          (λ h.
          same_or_not (put_at γ ρ x part now content).number 0 (λ a. inr (put_here x now content cs a h))
          (λ r. inl (put_other x part now content cs (λ a e. r a) h)))
          h)
          (λ d. inl (put_other x p now content cs (λ a e. d e) h))
      in_front_lem (Flush now) h =
          inl
          (record {
            same = h.same ∙ ap (λ (f : ℕ → Option ℕ). f part) (flush_keeps_newest σ ρ x.versions x.box now);
            never = (tt, h.never);
          })
      in_front_lem (Between e) h = inl (record { same = h.same; never = (tt, h.never) })

  -- where the map had none before
  pub known_is_put : (x : Site) (cs : List Call) (b : ℕ) → x.versions.newest part ≡ None → (calls γ ρ x cs).versions.newest part ≡ Some b
      → (content : List ℕ) × Newest γ ρ x cs part b content
  known_is_put x cs b n known = ⊎_elim (λ h. absurd (none-some b (sym (h.same ∙ n) ∙ known))) found (put_or_not x cs)
    where
      found : LastPut x cs → (content : List ℕ) × Newest γ ρ x cs part b content
      found h =
          let same = same_Some h.block b (sym h.known ∙ known) in
          (h.content, subst (λ (a : ℕ). Newest γ ρ x cs part a h.content) same h.newest)

  -- more calls, none of which is an accepted put of the part
  pub newest_longer : (x : Site) (cs ds : List Call) (b : ℕ) (content : List ℕ) → Newest γ ρ x cs part b content
      → Throughout γ ρ (NotPutAgain γ ρ part) (calls γ ρ x cs) ds → Newest γ ρ x (cs ++ ds) part b content
  newest_longer x cs ds b content n h =
      let c = PutPart part n.now content in
      let y = calls γ ρ x (n.earlier ++ (c ∷ [])) in
      let end : calls γ ρ x cs ≡ calls γ ρ y n.later =
      ap (calls γ ρ x) (n.split ∙ sym (append_assoc n.earlier (c ∷ []) n.later)) ∙ calls_append σ ρ x (n.earlier ++ (c ∷ [])) n.later in
      record {
        earlier = n.earlier;
        later = n.later ++ ds;
        now = n.now;
        split = ap (λ (l : List Call). l ++ ds) n.split ∙ append_assoc n.earlier (c ∷ n.later) ds;
        accepted = n.accepted;
        answered = n.answered;
        last =
            throughout_append σ ρ (NotPutAgain γ ρ part) y n.later ds n.last
            (subst (λ (z : Site). Throughout γ ρ (NotPutAgain γ ρ part) z ds) end h);
      }
