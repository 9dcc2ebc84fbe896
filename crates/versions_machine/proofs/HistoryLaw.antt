-- The log's blocks stay chained, and tell the record of every accepted put. Assumes nothing.
use mathlib.Core.Path.{◌≡◌, refl, ap, sym, subst, ◌∙◌}
use mathlib.Core.Bool.{Bool, true, false}
use mathlib.Core.List.{List, [], ◌∷◌, ◌++◌, append_assoc, append-nil}
use Rattle.std.specs.Prelude.{Option, None}
use Rattle.std.proofs.lemmas.Option.{none-some}
use Prim.Native.Nat.{ℕ, ◌≤◌, ◌<◌}
use native.Mathlib.Omega.{arith}
use borrow.Author.Tests.{eqb-true, leb-true}
use lib.ListN.{length}
use lib.Dec.{eqb}
use Rattle.lockpage.specs.Geometry.{Geometry, Proper}
use Rattle.addressing.specs.Map.{data_blocks}
use Rattle.memory.specs.Memory.{last_time, groups}
use Rattle.machine.specs.Command.{Box}
use Rattle.machine.specs.Run.{after}
use Rattle.versions_machine.specs.Versions.{Range, Record, Versions, record_of, start, replaced_by, entered, logged}
use Rattle.versions_machine.specs.Log.{records_per_block, log_block, is_full, is_sound}
use Rattle.versions_machine.specs.Allocation.{next_for}
use Rattle.versions_machine.specs.Plan.{Carried, writing, carried_out, log_plan, due_plan, version_orders, put_plan}
use Rattle.versions_machine.specs.Call.{last_part, put, put_questions, flush, flush_questions, flush_plan}
use Rattle.versions_machine.specs.Run.{Call, PutPart, Flush, Between, Site, start_site, called, calls, Throughout}
use Rattle.versions_machine.specs.Claims.{StoreAlone}
use Rattle.versions_machine.specs.History.{Locked, locked_of, Link, link_of, records_of, first_of, told, Chained, LogTells}
use Rattle.versions_machine.proofs.HoldsLaw.{event_holds}
use Rattle.versions_machine.proofs.CarryLaw.{carried_first, either_way, done_number}
use Rattle.versions_machine.proofs.AcceptLaw.{put_yes, flush_passes}
use Rattle.versions_machine.proofs.FactsLaw.{sound_facts}
use Rattle.versions_machine.proofs.SoundLaw.{chosen, unchosen, with_content, Sound, log_sound}
use Rattle.versions_machine.proofs.RunLaw.{quiet_sound}
use Rattle.versions_machine.proofs.OrdersLaw.{carried_append}
use Rattle.versions_machine.proofs.TimesLaw.{event_onward, own_at, log_at}
use Rattle.versions_machine.proofs.ChainLaw.{told_append, replaced_alike, records_end, first_end, chain_all, write_not_in}
use Rattle.versions_machine.proofs.LogsLaw.{Logs, own_logs, own_sound, log_logs}
use Rattle.versions_machine.proofs.RecordedLaw.{Dated, dated_later, dated_entered, dated_logged, AllUnder, under_later, under_put}

module _ {γ : Geometry} (σ : Proper γ) where
  abbrev last : Box → ℕ
  last s = last_time γ s.memory

  abbrev size : Box → ℕ
  size s = groups γ s.memory

  -- a store with lock R
  module _ (ρ : Range) (R : ℕ) where
    record Story (ν : Versions) (s : Box) : Type 0 where
      lock : ν.lock ≡ R
      contents : ℕ → Locked
      sound : Sound σ ν.newest contents s
      links : List Link
      logs : Logs σ ν.lock ν.newest links ν.reserve s
      begins : first_of links ν.reserve ≡ ρ.first
      tells : (part : ℕ) → ν.newest part ≡ told (λ p. None) (records_of links ++ ν.records) part
      dated : Dated γ (size s) (last s) links ν.records
      under : AllUnder ν.lock (last s) ν.newest contents

    entered_story : (ν : Versions) (s : Box) (part block now : ℕ) (content : List ℕ) → part ≤ last_part
        → (carried_out γ s (version_orders γ ν part block now content)).number ≡ 0 → Story ν s
        → Story (entered ν part block) (carried_out γ s (version_orders γ ν part block now content)).box
    unfolding entered
    entered_story ν s part block now content few c h =
        let r = record_of part block ∷ [] in
        let before = records_of h.links ++ ν.records in
        let t = (carried_out γ s (version_orders γ ν part block now content)).box in
        let at = own_at σ ρ ν s part block now content c in
        record {
          lock = h.lock;
          contents = with_content h.contents part (locked_of content ν.lock now);
          sound = own_sound σ ν s part block now content h.contents c h.sound;
          links = h.links;
          logs = own_logs σ ν s part block now content h.links ν.reserve c h.logs;
          begins = h.begins;
          tells =
              λ k.
              replaced_alike ν.newest (told (λ p. None) before) part block k (h.tells k)
              ∙ ap (λ (f : ℕ → Option ℕ). f k) (sym (told_append (λ p. None) before r))
              ∙ ap (λ (xs : List Record). told (λ p. None) xs k) (append_assoc (records_of h.links) ν.records r);
          dated =
              dated_entered γ (size t) (last t) h.links ν.records (record_of part block)
              (record { part = few; block = subst (λ (g : ℕ). block < data_blocks γ g) (sym at.same_groups) at.range })
              (dated_later γ (size s) (size t) (last s) (last t) h.links ν.records at.same_groups (omega (arith, at.later, at.time)) h.dated);
          under =
              under_later ν.lock now (last t) (replaced_by ν.newest part block) (with_content h.contents part (locked_of content ν.lock now))
              (omega (arith, at.time)) (under_put ν.lock (last s) now ν.newest h.contents part block content few at.later h.under);
        }

    log_story : (ν : Versions) (s t : Box) (now : ℕ) → length ν.records ≤ records_per_block γ
        → (carried_out γ t (log_plan γ ρ ν s now).orders).number ≡ 0 → Story ν t
        → Story (log_plan γ ρ ν s now).after (carried_out γ t (log_plan γ ρ ν s now).orders).box
    unfolding log_plan logged
    log_story ν s t now few c h =
        let l = link_of ν.reserve ν.records now in
        let pointer = next_for γ ρ s now ν in
        let content = log_block γ ν.records pointer in
        let u = (carried_out γ t (log_plan γ ρ ν s now).orders).box in
        let at = log_at σ ρ ν s t now c in
        let a = carried_first γ t (writing ν.reserve now ν.lock content) [] c in
        let new = write_not_in σ ν.lock ν.lock t ν.reserve now content a h.links ν.reserve h.logs.chained in
        record {
          lock = h.lock;
          contents = h.contents;
          sound = log_sound σ ρ ν s t now h.contents c h.sound;
          links = h.links ++ (l ∷ []);
          logs = log_logs σ ρ ν s t now h.contents h.links c h.sound h.logs;
          begins = first_end h.links l pointer ∙ h.begins;
          tells =
              λ k.
              h.tells k
              ∙ ap (λ (xs : List Record). told (λ p. None) xs k)
              (sym (append-nil (records_of (h.links ++ (l ∷ []))) ∙ records_end h.links l));
          dated =
              dated_later γ (size t) (size u) now (last u) (h.links ++ (l ∷ [])) [] at.same_groups (omega (arith, at.time))
              (dated_logged γ (size t) (last t) now ν.reserve h.links ν.records at.later new few h.dated);
          under = under_later ν.lock (last t) (last u) ν.newest h.contents (omega (arith, at.later, at.time)) h.under;
        }

    due_story : (ν : Versions) (s t : Box) (now : ℕ) → (carried_out γ t (due_plan γ ρ ν s now).orders).number ≡ 0 → Story ν t
        → Story (due_plan γ ρ ν s now).after (carried_out γ t (due_plan γ ρ ν s now).orders).box
    unfolding due_plan carried_out is_full
    due_story ν s t now c h = go (is_full γ ν) refl c
      where
        go : (full : Bool) → is_full γ ν ≡ full → (carried_out γ t (chosen (log_plan γ ρ ν s now) ν full).orders).number ≡ 0
            → Story (chosen (log_plan γ ρ ν s now) ν full).after (carried_out γ t (chosen (log_plan γ ρ ν s now) ν full).orders).box
        go true e d = log_story ν s t now (omega (arith, eqb-true (length ν.records) (records_per_block γ) e)) d h
        go false e d = h

    put_story : (ν : Versions) (s : Box) (part now : ℕ) (content : List ℕ) → part ≤ last_part
        → (carried_out γ s (put_plan γ ρ ν s part now content).orders).number ≡ 0 → Story ν s
        → Story (put_plan γ ρ ν s part now content).after (carried_out γ s (put_plan γ ρ ν s part now content).orders).box
    unfolding put_plan
    put_story ν s part now content few c h =
        let block = next_for γ ρ s now ν in
        let own = version_orders γ ν part block now content in
        let t = (carried_out γ s own).box in
        let e = entered ν part block in
        let due = due_plan γ ρ e t now in
        let both = carried_append σ s own due.orders c in
        subst (λ (x : Carried). Story due.after x.box) (sym both.1)
        (due_story e t t now (ap (λ (x : Carried). x.number) (sym both.1) ∙ c) (entered_story ν s part block now content few both.0 h))

    flush_story : (ν : Versions) (s : Box) (now : ℕ) → is_sound γ ν ≡ true → (carried_out γ s (flush_plan γ ρ ν s now).orders).number ≡ 0 → Story ν s
        → Story (flush_plan γ ρ ν s now).after (carried_out γ s (flush_plan γ ρ ν s now).orders).box
    unfolding flush_plan carried_out
    flush_story ν s now sound c h = go (eqb (length ν.records) 0) c
      where
        go : (x : Bool) → (carried_out γ s (unchosen (log_plan γ ρ ν s now) ν x).orders).number ≡ 0
            → Story (unchosen (log_plan γ ρ ν s now) ν x).after (carried_out γ s (unchosen (log_plan γ ρ ν s now) ν x).orders).box
        go true d = h
        go false d = log_story ν s s now (omega (arith, (sound_facts σ ν sound).room)) d h

    call_story : (x : Site) (c : Call) → StoreAlone x c → Story x.versions x.box → Story (called γ ρ x c).versions (called γ ρ x c).box
    unfolding put flush put_questions flush_questions
    call_story x (PutPart part now content) q h =
        let ν = x.versions in
        let s = x.box in
        either_way γ (put_questions γ ρ ν s part now) (next_for γ ρ s now ν) (put_plan γ ρ ν s part now content) ν s Story
        (λ d. put_story ν s part now content (leb-true part last_part (put_yes σ ρ ν s part now d.asked).0) d.carried h) h
    call_story x (Flush now) q h =
        let ν = x.versions in
        let s = x.box in
        let qs = flush_questions γ ρ ν s now in
        let plan = flush_plan γ ρ ν s now in
        either_way γ qs 0 plan ν s Story
        (λ d. flush_story ν s now ((flush_passes σ ρ ν s now).only (done_number γ qs 0 plan ν s d)).0.0 d.carried h) h
    call_story x (Between e) q h =
        let s = x.box in
        let t = after γ s e in
        let on = event_onward σ s e in
        record {
          lock = h.lock;
          contents = h.contents;
          sound = quiet_sound σ ρ x.versions.newest h.contents x.box e q h.sound;
          links = h.links;
          logs =
              record {
                chained =
                    chain_all σ x.versions.lock x.box (after γ x.box e) (λ b content k. event_holds σ x.box e b content q k) h.links
                    x.versions.reserve h.logs.chained;
                apart = h.logs.apart;
              };
          begins = h.begins;
          tells = h.tells;
          dated = dated_later γ (size s) (size t) (last s) (last t) h.links x.versions.records on.same_groups on.later h.dated;
          under = under_later x.versions.lock (last s) (last t) x.versions.newest h.contents on.later h.under;
        }

    calls_story : (x : Site) (cs : List Call) → Throughout γ ρ StoreAlone x cs → Story x.versions x.box
        → Story (calls γ ρ x cs).versions (calls γ ρ x cs).box
    calls_story x [] q h = h
    calls_story x (c ∷ cs) q h = calls_story (called γ ρ x c) cs q.1 (call_story x c q.0 h)

    start_story : (s : Box) → Story (start ρ.first R) s
    unfolding start
    start_story s =
        record {
          lock = refl;
          contents = λ p. locked_of [] 0 0;
          sound = record { holds = λ p b e. absurd (none-some b e); apart = λ p q b e f. absurd (none-some b e) };
          links = [];
          logs = record { chained = tt; apart = λ p b e. tt };
          begins = refl;
          tells = λ k. refl;
          dated = record { ascending = omega arith; distinct = tt; fit = tt; pending = tt };
          under = λ p b e. absurd (none-some b e);
        }

    story_tells : (x : Site) → Story x.versions x.box → LogTells γ ρ R x
    story_tells x h =
        record {
          lock = h.lock;
          links = h.links;
          begins = h.begins;
          chained = subst (λ (n : ℕ). Chained γ n x.box h.links x.versions.reserve) h.lock h.logs.chained;
          ascending = h.dated.ascending;
          distinct = h.dated.distinct;
          fit = h.dated.fit;
          tells = h.tells;
          held =
              λ p b e.
              record {
                written = h.contents p;
                holds = h.sound.holds p b e;
                under = (h.under p b e).under ∙ h.lock;
                early = (h.under p b e).early;
              };
          parts = λ p b e. (h.under p b e).part_few;
        }

  pub log_tells : (ρ : Range) (lock : ℕ) (s : Box) (cs : List Call) → Throughout γ ρ StoreAlone (start_site γ ρ lock s) cs
      → LogTells γ ρ lock (calls γ ρ (start_site γ ρ lock s) cs)
  log_tells ρ lock s cs q =
      story_tells ρ lock (calls γ ρ (start_site γ ρ lock s) cs) (calls_story ρ lock (start_site γ ρ lock s) cs q (start_story ρ lock s))
