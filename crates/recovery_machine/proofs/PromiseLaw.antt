-- The promise: at the end of any run after the point, the log's blocks and the newest versions stand as they did, the walk comes to the
-- former and stops at the reserve, and the last record of each part counts. Assumes nothing.
use mathlib.Core.Path.{◌≡◌, refl, ap, sym, subst, ◌∙◌}
use mathlib.Core.Bool.{Bool, true, false, ◌&&◌}
use mathlib.Mathlib.Data.Bool.Basic.{and_intro}
use mathlib.Core.List.{List, [], ◌∷◌, ◌++◌, append-nil}
use Rattle.std.specs.Prelude.{Some, None}
use Prim.Native.Nat.{ℕ, ◌+◌, ◌^◌, ◌≤◌, ◌<◌}
use native.Mathlib.Omega.{arith}
use borrow.Author.Tests.{le-leb, lt-leb}
use Rattle.lockpage.specs.Geometry.{Geometry, Proper}
use Rattle.lockpage.specs.declared.State.TheVariants.{Free}
use Rattle.lockpage.specs.State.{state}
use Rattle.addressing.specs.Map.{data_blocks}
use Rattle.addressing.proofs.MapLaw.{data_blocks_small}
use Rattle.memory.specs.Memory.{last_time, groups}
use Rattle.machine.specs.Command.{Box}
use Rattle.machine.specs.Tag.{current_entry}
use Rattle.machine.specs.Step.{padded}
use Rattle.machine.specs.Run.{Event, after, run}
use Rattle.machine.specs.Protection.{start_entry}
use Rattle.machine.proofs.PassedLaw.{Timely}
use Rattle.machine.proofs.WatchedRunLaw.{current_watched}
use Rattle.versions_machine.specs.Versions.{no_block, Range, Record, record_of}
use Rattle.versions_machine.specs.Log.{record_field, pointer_size, log_block}
use Rattle.versions_machine.specs.Allocation.{whole_box, those}
use Rattle.versions_machine.specs.Call.{last_part}
use Rattle.versions_machine.specs.History.{Link, locked_of, records_of, first_of, Ascending, Each, told, Recorded, LinkFits, Chained, LogTells}
use Rattle.versions_machine.proofs.TimesLaw.{event_onward}
use Rattle.recovery_machine.specs.Walk.{is_kept, goes_on}
use Rattle.recovery_machine.specs.Recover.{counts, walked_records, recovered}
use Rattle.recovery_machine.specs.Promise.{Use, range, synced, StoredAtPoint, TimedAfter, intruded, PartReads}
use Rattle.recovery_machine.proofs.ReadLaw.{Small}
use Rattle.recovery_machine.proofs.LastLaw.{told_those}
use Rattle.recovery_machine.proofs.LogWalkLaw.{AllStand, log_records}
use Rattle.recovery_machine.proofs.EndLaw.{Unkept, end_watched, stops_at}
use Rattle.recovery_machine.proofs.HeldLaw.{AtPoint, entry_stored, still_reads, still_time, still_content, still_kept}
use Rattle.recovery_machine.proofs.PointLaw.{point_tells, point_stored, point_put, point_groups, point_is, point_reserve}

-- ---- lists

-- each link was written by the end
all_by : (from to : ℕ) (ls : List Link) → Ascending from ls to → (from ≤ to) × Each (λ (l : Link). l.time ≤ to) ls
all_by from to [] h = (h, tt)
all_by from to (l ∷ ls) h = let rest = all_by l.time to ls h.1 in (omega (arith, h.0, rest.0), (rest.0, rest.1))

-- a record of a box has its four bytes
all_small : (γ : Geometry) (g : ℕ) (xs : List Record) → data_blocks γ g < 256 ^ record_field → Each (Recorded γ g) xs → Each Small xs
all_small γ g [] few h = tt
all_small γ g (x ∷ xs) few h = (
  record { part = omega (arith, h.0.part); block = omega (arith, h.0.block) },
  all_small γ g xs few h.1,
)

module _ {γ : Geometry} (σ : Proper γ) where
  -- a run leaves the groups as they are, and time does not go back
  onward : (s : Box) (es : List Event) → (groups γ (run γ s es).memory ≡ groups γ s.memory) × (last_time γ s.memory ≤ last_time γ (run γ s es).memory)
  onward s [] = (refl, omega arith)
  onward s (e ∷ es) =
      let first = event_onward σ s e in
      let rest = onward (after γ s e) es in
      (rest.0 ∙ first.same_groups, omega (arith, first.later, rest.1))

  -- so the blocks of the box are those that the store used
  pub same_blocks : (u : Use) (es : List Event) → StoredAtPoint γ u → whole_box γ (groups γ (intruded γ u es).memory) ≡ range γ u
  same_blocks u es k = ap (whole_box γ) ((onward (synced γ u).box es).0 ∙ point_groups σ u k)

module _ {γ : Geometry} (σ : Proper γ) (u : Use) (k : StoredAtPoint γ u) (es : List Event) (later : TimedAfter γ u es) where
  abbrev t : Box
  t = (synced γ u).box

  abbrev end : Box
  end = intruded γ u es

  at_point : AtPoint σ t u.point u.lock
  at_point = point_is σ u k later.bytes

  module _ (now : ℕ) (timely : Timely γ end now) (early : now < u.point + u.lock) where
    same_groups : groups γ end.memory ≡ groups γ t.memory
    same_groups = (onward σ t es).0

    few_blocks : data_blocks γ (groups γ t.memory) < 256 ^ record_field
    few_blocks = omega (arith, data_blocks_small σ (groups γ t.memory) (omega (arith, at_point.valid.most, σ.few_groups)))

    -- the blocks of the box at the point, by its groups then or as it was formatted
    same_range : whole_box γ (groups γ t.memory) ≡ range γ u
    same_range = ap (whole_box γ) (point_groups σ u k)

    -- ---- the log's blocks stand

    first_small : (ls : List Link) (next : ℕ) → next < data_blocks γ (groups γ t.memory) → Chained γ u.lock t ls next
        → first_of ls next < 256 ^ pointer_size
    first_small [] next h c = omega (arith, few_blocks)
    first_small (l ∷ ls) next h c = omega (arith, few_blocks, c.0.range)

    all_stand : (ls : List Link) (next : ℕ) → next < data_blocks γ (groups γ t.memory) → Chained γ u.lock t ls next
        → Each (LinkFits γ (groups γ t.memory)) ls → Each (λ (l : Link). l.time ≤ u.point) ls
        → AllStand γ (range γ u) end u.point now ls next
    all_stand [] next h c f b = tt
    all_stand (l ∷ ls) next h c f b =
        let w = locked_of (log_block γ l.records (first_of ls next)) u.lock l.time in (
          record {
            kept =
                subst (λ (ρ : Range). is_kept γ ρ end u.point now l.block ≡ true) same_range
                (still_kept σ t u.point u.lock at_point l.block w c.0 refl es later.unforged now timely same_groups early b.0);
            time = still_time σ t u.point u.lock at_point l.block w c.0 refl es later.unforged now timely same_groups early;
            content = still_content σ t u.point u.lock at_point l.block w c.0 refl es later.unforged now timely same_groups early;
            few = f.0.few;
            small = all_small γ (groups γ t.memory) l.records few_blocks f.0.records;
            next_small = first_small ls next h c.1;
          },
          all_stand ls next h c.1 f.1 b.1,
        )

    -- ---- the reserve ends it

    abbrev reserve : ℕ
    reserve = (synced γ u).versions.reserve

    reserve_inside : reserve < data_blocks γ (groups γ t.memory)
    reserve_inside = omega (arith, (point_reserve σ u k).below, ap (data_blocks γ) (point_groups σ u k))

    stops : (walked : List ℕ) (parent : ℕ) → goes_on γ (range γ u) end u.point now walked parent reserve ≡ false
    stops =
        let free : state u.point (start_entry γ t reserve) ≡ Free =
        ap (state u.point) (entry_stored σ t u.point u.lock at_point reserve reserve_inside)
        ∙ ap (λ (time : ℕ). state time (current_entry γ t reserve)) (sym at_point.time)
        ∙ (point_reserve σ u k).free in
        stops_at γ (range γ u) end u.point now reserve (omega (arith, at_point.time, (onward σ t es).1, timely.later))
        (current_watched σ reserve (λ l. Unit) (Unkept u.point) end timely.memory
        (subst (λ (g : ℕ). reserve < data_blocks γ g) (sym same_groups) reserve_inside)
        (end_watched σ reserve u.point t es later.bytes at_point.none_held free later.unforged later.later))

    -- ---- the records

    tells : LogTells γ (range γ u) u.lock (synced γ u)
    tells = point_tells σ u k

    abbrev test : Record → Bool
    test = counts γ (range γ u) end u.point now

    unused_fails : (x : Record) → x.part ≡ no_block → test x ≡ false
    unfolding counts
    unused_fails x e =
        ap (λ (b : Bool). b && is_kept γ (range γ u) end u.point now x.block) (lt-leb x.part last_part (omega arith))

    records_are : those test (walked_records γ (range γ u) end u.point now) ≡ those test (records_of tells.links)
    records_are =
        let by = subst (Ascending 0 tells.links) at_point.time tells.ascending in
        log_records γ (range γ u) end u.point now test unused_fails tells.links reserve u.point tells.begins
        (all_stand tells.links reserve reserve_inside tells.chained tells.fit (all_by 0 u.point tells.links by).1)
        by tells.distinct stops

    -- the newest version's record counts
    newest_counts : (part b : ℕ) → (synced γ u).versions.newest part ≡ Some b → test (record_of part b) ≡ true
    unfolding counts
    newest_counts part b e =
        let v = tells.held part b e in
        and_intro (le-leb part last_part (tells.parts part b e))
        (subst (λ (ρ : Range). is_kept γ ρ end u.point now b ≡ true) same_range
        (still_kept σ t u.point u.lock at_point b v.written v.holds v.under es later.unforged now timely same_groups early
        (omega (arith, v.early, at_point.time))))

    all_told : (part : ℕ) → (synced γ u).versions.newest part ≡ told (λ p. None) (records_of tells.links) part
    all_told part =
        tells.tells part
        ∙ ap (λ (xs : List Record). told (λ p. None) xs part)
        (ap (λ (xs : List Record). records_of tells.links ++ xs) (point_stored σ u k) ∙ append-nil (records_of tells.links))

    pub recovers : (part : ℕ) → recovered γ (range γ u) end u.point now part ≡ (synced γ u).versions.newest part
    unfolding recovered
    recovers part =
        ap (λ (xs : List Record). told (λ p. None) xs part) records_are
        ∙ told_those test part (λ p. None) (records_of tells.links) (λ b e. newest_counts part b (all_told part ∙ e))
        ∙ sym (all_told part)

    -- ---- a part that is named

    pub part_reads : (part b : ℕ) → recovered γ (range γ u) end u.point now part ≡ Some b → PartReads γ u end part b
    part_reads part b e =
        let known : (synced γ u).versions.newest part ≡ Some b = sym (recovers part) ∙ e in
        let v = tells.held part b known in
        let found = point_put σ u k part b known in
        record {
          content = found.0;
          newest = found.1;
          read =
              λ c a kind here soon.
              still_reads σ t u.point u.lock at_point b v.written v.holds v.under es later.unforged c a kind here soon
              ∙ ap (padded γ) (sym v.holds.stored ∙ found.2);
        }
