-- The bytes of a store follow the store through every list of calls: they are its bytes, and it fits them. Assumes nothing.
use mathlib.Core.Path.{◌≡◌, refl, ap, sym, subst, ◌∙◌}
use mathlib.Core.Bool.{true}
use mathlib.Core.List.{List, [], ◌∷◌}
use Rattle.std.proofs.lemmas.Option.{none-some}
use Prim.Native.Nat.{ℕ, ◌≤◌}
use native.Mathlib.Omega.{arith}
use borrow.Author.Tests.{eq-eqb, ne_eqb}
use Rattle.lockpage.specs.Geometry.{Geometry, Proper}
use Rattle.machine.specs.Command.{Box}
use Rattle.machine.specs.Question.{first_no}
use Rattle.machine.specs.Run.{after}
use Rattle.machine.proofs.CaseLaw.{same_or_not}
use Rattle.machine.proofs.ListedLaw.{all_none}
use Rattle.machine.proofs.QuestionLaw.{numbered_to, accepted_yes}
use Rattle.versions_machine.specs.Versions.{Range, Versions, start, start_questions}
use Rattle.versions_machine.specs.Log.{records_per_block}
use Rattle.versions_machine.specs.Call.{Result, put, flush}
use Rattle.versions_machine.specs.Run.{Call, PutPart, Flush, Between, Site, site_of, start_site, put_at, called, calls}
use Rattle.versions_machine.specs.Claims.{Unaltered}
use Rattle.versions_machine.proofs.CarryLaw.{put_unaltered, flush_unaltered}
use Rattle.versions_machine.proofs.FactsLaw.{lock_limits, facts_sound}
use Rattle.versions_state.specs.State.{is_record, state_bytes, versions_in, is_valid}
use Rattle.versions_bytes.proofs.FitLaw.{handed_on}
use Rattle.versions_bytes.specs.Call.{Called, handed, start_bytes, buffer_questions, put_bytes, flush_bytes}
use Rattle.versions_bytes.specs.Run.{Buffers, buffers_of, called_on, calls_on}
use Rattle.versions_bytes.specs.Claims.{Fits, HasNumbers, Follows}
use Rattle.versions_bytes.proofs.CallFitsLaw.{put_fits, flush_fits}

module _ {γ : Geometry} (σ : Proper γ) where
  -- ---- a call on valid bytes

  pub handed_accepted : (state : List ℕ) (r : Result) → r.number ≡ 0 → (handed γ state r).state ≡ state_bytes γ r.versions
  unfolding handed
  handed_accepted state r a = rw (eq-eqb r.number 0 a)

  pub handed_refused : (state : List ℕ) (r : Result) → (r.number ≡ 0 → ⊥) → (handed γ state r).state ≡ state
  unfolding handed
  handed_refused state r n = rw (ne_eqb r.number 0 n)

  -- ---- a store and its bytes

  module _ (ρ : Range) (numbers : HasNumbers ρ) where
    pub record Has (x : Buffers) (y : Site) : Type 0 where
      pub fits : Fits γ y.versions
      pub state : x.state ≡ state_bytes γ y.versions
      pub box : x.box ≡ y.box

    module _ (x : Buffers) (y : Site) (h : Has x y) where
      valid : is_valid γ x.state ≡ true
      valid = ap (is_valid γ) h.state ∙ (handed_on σ y.versions h.fits).valid

      same : versions_in x.state ≡ y.versions
      same = ap versions_in h.state ∙ (handed_on σ y.versions h.fits).same

      put_same : (part now : ℕ) (content : List ℕ)
          → put_bytes γ ρ x.state x.box part now content ≡ handed γ x.state (put_at γ ρ y part now content)
      unfolding put_bytes
      put_same part now content =
          rw (put_bytes, valid)
          (ap (λ (ν : Versions). handed γ x.state (put γ ρ ν x.box part now content)) same
          ∙ ap (λ (s : Box). handed γ x.state (put γ ρ y.versions s part now content)) h.box)

      flush_same : (now : ℕ) → flush_bytes γ ρ x.state x.box now ≡ handed γ x.state (flush γ ρ y.versions y.box now)
      unfolding flush_bytes
      flush_same now =
          rw (flush_bytes, valid)
          (ap (λ (ν : Versions). handed γ x.state (flush γ ρ ν x.box now)) same
          ∙ ap (λ (s : Box). handed γ x.state (flush γ ρ y.versions s now)) h.box)

      -- what a call leaves, accepted or refused
      after_call : (c : Called) (r : Result) → c ≡ handed γ x.state r → (r.number ≡ 0 → Fits γ r.versions)
          → ((r.number ≡ 0 → ⊥) → Unaltered y.versions y.box r) → Has (buffers_of c.state c.box) (site_of r.versions r.box)
      unfolding handed
      after_call c r e accepted refused =
          same_or_not r.number 0
          (λ a. record { fits = accepted a; state = ap (λ (d : Called). d.state) e ∙ handed_accepted x.state r a; box = ap (λ (d : Called). d.box) e })
          (λ n.
          let u = refused n in
          record {
            fits = subst (Fits γ) (sym u.versions) h.fits;
            state = ap (λ (d : Called). d.state) e ∙ handed_refused x.state r n ∙ h.state ∙ ap (state_bytes γ) (sym u.versions);
            box = ap (λ (d : Called). d.box) e;
          })

      call_has : (c : Call) → Has (called_on γ ρ x c) (called γ ρ y c)
      call_has (PutPart part now content) =
          after_call (put_bytes γ ρ x.state x.box part now content) (put_at γ ρ y part now content) (put_same part now content)
          (λ a. put_fits σ ρ numbers y.versions y.box part now content a h.fits)
          (put_unaltered γ ρ y.versions y.box part now content)
      call_has (Flush now) =
          after_call (flush_bytes γ ρ x.state x.box now) (flush γ ρ y.versions y.box now) (flush_same now)
          (λ a. flush_fits σ ρ numbers y.versions y.box now a h.fits) (flush_unaltered γ ρ y.versions y.box now)
      call_has (Between e) = record { fits = h.fits; state = h.state; box = ap (λ (s : Box). after γ s e) h.box }

      pub follows : Follows γ ρ x y
      unfolding handed
      follows =
          record {
            valid = valid;
            same = same;
            box = h.box;
            put_number = λ part now content. ap (λ (c : Called). c.number) (put_same part now content);
            put_block = λ part now content. ap (λ (c : Called). c.block) (put_same part now content);
            flush_number = λ now. ap (λ (c : Called). c.number) (flush_same now);
          }

    pub calls_have : (x : Buffers) (y : Site) (cs : List Call) → Has x y → Has (calls_on γ ρ x cs) (calls γ ρ y cs)
    calls_have x y [] h = h
    calls_have x y (c ∷ cs) h = calls_have (called_on γ ρ x c) (called γ ρ y c) cs (call_has x y h c)

    -- ---- a start

    start_yes : (buffer : List ℕ) (lock : ℕ) → (start_bytes γ ρ.first buffer lock).number ≡ 0 → first_no (buffer_questions γ buffer lock) ≡ 0
    unfolding start_bytes
    start_yes buffer lock a =
        let n = first_no (buffer_questions γ buffer lock) in
        same_or_not n 0 (λ e. e) (λ d. absurd (d (rw (start_bytes, ne_eqb n 0 d) refl ∙ a)))

    pub start_has : 1 ≤ records_per_block γ → (buffer : List ℕ) (lock : ℕ) (s : Box) → (start_bytes γ ρ.first buffer lock).number ≡ 0
        → Has (buffers_of (start_bytes γ ρ.first buffer lock).state s) (start_site γ ρ lock s)
    unfolding start_bytes start start_questions numbered_to
    start_has least buffer lock s a =
        let qs = buffer_questions γ buffer lock in
        let e = start_yes buffer lock a in
        let l = lock_limits lock (accepted_yes 10 qs refl e).1.0 in
        record {
          fits =
              record {
                sound = facts_sound σ (start ρ.first lock) (record { least = l.0; most = l.1; room = least });
                newest = λ part b x. absurd (none-some b x);
                no_more = λ part m. refl;
                records = all_none (is_record γ);
                reserve = omega arith;
                taken = omega arith;
              };
          state = rw (start_bytes, eq-eqb (first_no qs) 0 e);
          box = refl;
        }
