-- What is known of the log's blocks, of the records not yet stored and of the newest versions, beside what the disk has of them: when they
-- were written, that no log block comes twice, and what a record names. Assumes nothing.
use mathlib.Core.Path.{◌≡◌, ap, sym, subst, ◌∙◌}
use mathlib.Core.List.{List, [], ◌∷◌, ◌++◌}
use Rattle.std.specs.Prelude.{Option, Some}
use Prim.Native.Nat.{ℕ, ◌≤◌}
use native.Mathlib.Omega.{arith}
use lib.ListN.{length}
use Rattle.lockpage.specs.Geometry.{Geometry}
use Rattle.machine.proofs.CaseLaw.{same_or_not}
use Rattle.versions_machine.specs.Versions.{Record, replaced_by}
use Rattle.versions_machine.specs.Log.{records_per_block}
use Rattle.versions_machine.specs.Call.{last_part}
use Rattle.versions_machine.specs.History.{Locked, locked_of, Link, link_of, Ascending, NotIn, Distinct, Each, Recorded, LinkFits}
use Rattle.versions_machine.proofs.SoundLaw.{with_content, content_own, content_other, newest_other}
use Rattle.versions_machine.proofs.OrdersLaw.{each_append}
use Rattle.versions_machine.proofs.ChainLaw.{not_in_end}

-- ---- lists

-- up to a later time
ascending_later : (from : ℕ) (ls : List Link) (to later : ℕ) → to ≤ later → Ascending from ls to → Ascending from ls later
ascending_later from [] to later l h = omega arith
ascending_later from (m ∷ ls) to later l h = (h.0, ascending_later m.time ls to later l h.1)

ascending_end : (from : ℕ) (ls : List Link) (to : ℕ) (l : Link) → to ≤ l.time → Ascending from ls to → Ascending from (ls ++ (l ∷ [])) l.time
ascending_end from [] to l t h = (omega arith, omega arith)
ascending_end from (m ∷ ls) to l t h = (h.0, ascending_end m.time ls to l t h.1)

distinct_end : (ls : List Link) (l : Link) → NotIn l.block ls → Distinct ls → Distinct (ls ++ (l ∷ []))
distinct_end [] l n h = (tt, tt)
distinct_end (m ∷ ls) l n h = (not_in_end m.block ls l h.0 (λ e. n.0 (sym e)), distinct_end ls l n.1 h.1)

-- ---- the log's blocks, and the records that none has yet

module _ (γ : Geometry) where
  pub record Dated (groups last : ℕ) (links : List Link) (records : List Record) : Type 0 where
    pub ascending : Ascending 0 links last
    pub distinct : Distinct links
    pub fit : Each (LinkFits γ groups) links
    pub pending : Each (Recorded γ groups) records

  pub dated_later : (g h last later : ℕ) (ls : List Link) (rs : List Record) → h ≡ g → last ≤ later → Dated g last ls rs → Dated h later ls rs
  dated_later g h last later ls rs e l d =
      subst (λ (n : ℕ). Dated n later ls rs) (sym e)
      (record { ascending = ascending_later 0 ls last later l d.ascending; distinct = d.distinct; fit = d.fit; pending = d.pending })

  -- a record is entered
  pub dated_entered : (g last : ℕ) (ls : List Link) (rs : List Record) (r : Record) → Recorded γ g r → Dated g last ls rs
      → Dated g last ls (rs ++ (r ∷ []))
  dated_entered g last ls rs r p d =
      record {
        ascending = d.ascending;
        distinct = d.distinct;
        fit = d.fit;
        pending = each_append (Recorded γ g) rs (r ∷ []) d.pending (p, tt);
      }

  -- a log block is stored
  pub dated_logged : (g last now block : ℕ) (ls : List Link) (rs : List Record) → last ≤ now → NotIn block ls → length rs ≤ records_per_block γ
      → Dated g last ls rs → Dated g now (ls ++ (link_of block rs now ∷ [])) []
  dated_logged g last now block ls rs l n few d =
      let link = link_of block rs now in
      record {
        ascending = ascending_end 0 ls last link l d.ascending;
        distinct = distinct_end ls link n d.distinct;
        fit = each_append (LinkFits γ g) ls (link ∷ []) d.fit (record { few = few; records = d.pending }, tt);
        pending = tt;
      }

-- ---- the newest versions

-- a part's version was put under the lock, by the last time
pub record PutUnder (lock last part : ℕ) (written : Locked) : Type 0 where
  pub under : written.lock ≡ lock
  pub early : written.time ≤ last
  pub part_few : part ≤ last_part

abbrev pub AllUnder : ℕ → ℕ → (ℕ → Option ℕ) → (ℕ → Locked) → Type 0
AllUnder lock last newest contents = (p b : ℕ) → newest p ≡ Some b → PutUnder lock last p (contents p)

pub under_later : (lock last later : ℕ) (newest : ℕ → Option ℕ) (contents : ℕ → Locked) → last ≤ later → AllUnder lock last newest contents
    → AllUnder lock later newest contents
under_later lock last later newest contents l h p b e =
    let k = h p b e in
    record { under = k.under; early = omega (arith, k.early); part_few = k.part_few }

pub under_put : (lock last now : ℕ) (newest : ℕ → Option ℕ) (contents : ℕ → Locked) (part block : ℕ) (content : List ℕ) → part ≤ last_part
    → last ≤ now → AllUnder lock last newest contents
    → AllUnder lock now (replaced_by newest part block) (with_content contents part (locked_of content lock now))
under_put lock last now newest contents part block content few l h p b e =
    let w = locked_of content lock now in
    same_or_not p part
    (λ d.
    let own = ap (with_content contents part w) d ∙ content_own contents part w in
    record {
      under = ap (λ (x : Locked). x.lock) own;
      early = omega (arith, ap (λ (x : Locked). x.time) own);
      part_few = omega (arith, d);
    })
    (λ d.
    let k = h p b (sym (newest_other newest part block p d) ∙ e) in
    let other = content_other contents part w p d in
    record {
      under = ap (λ (x : Locked). x.lock) other ∙ k.under;
      early = omega (arith, ap (λ (x : Locked). x.time) other, k.early);
      part_few = k.part_few;
    })
