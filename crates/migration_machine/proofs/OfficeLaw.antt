-- An office is answered the same in an old box and in that box with its memory migrated, use after use. Assumes nothing.
use mathlib.Core.Path.{◌≡◌, refl, ap, ap₂, ◌∙◌}
use mathlib.Core.Bool.{true}
use mathlib.Core.List.{List, [], ◌∷◌}
use Prim.Native.Nat.{ℕ}
use Rattle.lockpage.specs.Geometry.{Geometry, Proper, widened}
use Rattle.addressing.specs.Map.{data_blocks}
use Rattle.validity.specs.Valid.{valid}
use Rattle.validity.proofs.ValidLaw.{facts}
use Rattle.machine.specs.Command.{Box, box_of}
use Rattle.versions_machine.specs.Versions.{Range}
use Rattle.versions_machine.specs.Allocation.{first_block, whole_box}
use Rattle.versions_bytes.specs.Call.{Called, Started, Located, put_bytes, flush_bytes}
use Rattle.recovery_machine.specs.Recover.{Recovery, recover}
use Rattle.migration_machine.specs.Migrate.{Wider}
use Rattle.migration_machine.specs.Promise.{Use, Happens, Start, PutPart, Flush, Locate, Recover, Office, office_of, Seen, seen_of, Reply, reply_of}
use Rattle.migration_machine.specs.Promise.{moved_box, blocks_in, reply, used, replies, OfficeIsAnsweredAsBefore}
use Rattle.migration_machine.proofs.FieldLaw.{migrated_groups}
use Rattle.migration_machine.proofs.EventLaw.{after_moves, valid_after, seen_moves}
use Rattle.migration_machine.proofs.WalkLaw.{recover_moves}
use Rattle.migration_machine.proofs.StateLaw.{Alike, start_alike, put_alike, flush_alike}
use Rattle.migration_machine.proofs.BytesLaw.{moved_called, start_moves, lookup_moves, put_bytes_move, flush_bytes_move}
use Rattle.migration_machine.proofs.BytesLaw.{put_bytes_valid, flush_bytes_valid}

-- what is seen of a put or a store on demand, and what it leaves
abbrev called_reply : Called → Reply
called_reply r = reply_of (seen_of r.number r.block [] r.box.disk) r.state

abbrev called_office : Called → Office
called_office r = office_of r.state r.box

module _ (γ : Geometry) (n : ℕ) where
  abbrev moved_office : Office → Office
  moved_office o = office_of o.state (moved_box γ n o.box)

  -- what an office has, use after use: a valid memory, and a state that is valid in both boxes or in neither
  record Kept (o : Office) : Type 0 where
    memory : valid γ o.box.memory ≡ true
    state : Alike γ n o.state

-- γ is the old box's geometry, and the new one has n groups at most
module _ {γ : Geometry} (σ : Proper γ) {n : ℕ} (ω : Wider γ n) where
  blocks_same : (s : Box) → valid γ s.memory ≡ true → blocks_in (widened γ n) (moved_box γ n s) ≡ blocks_in γ s
  unfolding data_blocks
  blocks_same s v = ap (whole_box γ) (migrated_groups σ ω s.memory (facts σ s.memory v).size)

  module _ (o : Office) (k : Kept γ n o) where
    abbrev s : Box
    s = o.box

    put_same : (part now : ℕ) (content : List ℕ)
        → put_bytes (widened γ n) (blocks_in (widened γ n) (moved_box γ n s)) o.state (moved_box γ n s) part now content
        ≡ moved_called γ n (put_bytes γ (blocks_in γ s) o.state s part now content)
    put_same part now content =
        ap (λ (ρ : Range). put_bytes (widened γ n) ρ o.state (moved_box γ n s) part now content) (blocks_same s k.memory)
        ∙ put_bytes_move σ ω (blocks_in γ s) o.state s k.memory part now content k.state

    flush_same : (now : ℕ)
        → flush_bytes (widened γ n) (blocks_in (widened γ n) (moved_box γ n s)) o.state (moved_box γ n s) now
        ≡ moved_called γ n (flush_bytes γ (blocks_in γ s) o.state s now)
    flush_same now =
        ap (λ (ρ : Range). flush_bytes (widened γ n) ρ o.state (moved_box γ n s) now) (blocks_same s k.memory)
        ∙ flush_bytes_move σ ω (blocks_in γ s) o.state s k.memory now k.state

    recover_same : (point now : ℕ) (result : List ℕ)
        → recover (widened γ n) (blocks_in (widened γ n) (moved_box γ n s)) (moved_box γ n s) point now result
        ≡ recover γ (blocks_in γ s) s point now result
    recover_same point now result =
        ap (λ (ρ : Range). recover (widened γ n) ρ (moved_box γ n s) point now result) (blocks_same s k.memory)
        ∙ recover_moves σ ω (blocks_in γ s) s k.memory point now result

    reply_same : (u : Use) → reply (widened γ n) (moved_office γ n o) u ≡ reply γ o u
    reply_same (Happens e) = ap (λ (x : Seen). reply_of x o.state) (seen_moves σ ω s e k.memory)
    reply_same (Start lock) =
        ap (λ (r : Started). reply_of (seen_of r.number 0 [] s.disk) r.state) (start_moves γ n first_block o.state lock)
    reply_same (PutPart part now content) = ap called_reply (put_same part now content)
    reply_same (Flush now) = ap called_reply (flush_same now)
    reply_same (Locate part) =
        ap (λ (r : Located). reply_of (seen_of r.number r.block [] s.disk) o.state) (lookup_moves γ n o.state part k.state)
    reply_same (Recover point now result) =
        ap (λ (r : Recovery). reply_of (seen_of r.number 0 r.result s.disk) o.state) (recover_same point now result)

    used_same : (u : Use) → used (widened γ n) (moved_office γ n o) u ≡ moved_office γ n (used γ o u)
    used_same (Happens e) = ap (office_of o.state) (after_moves σ ω s e k.memory)
    used_same (Start lock) = ap (λ (r : Started). office_of r.state (moved_box γ n s)) (start_moves γ n first_block o.state lock)
    used_same (PutPart part now content) = ap called_office (put_same part now content)
    used_same (Flush now) = ap called_office (flush_same now)
    used_same (Locate part) = refl
    used_same (Recover point now result) = refl

    used_kept : (u : Use) → Kept γ n (used γ o u)
    used_kept (Happens e) = record { memory = valid_after σ s e k.memory; state = k.state }
    used_kept (Start lock) = record { memory = k.memory; state = start_alike σ ω o.state lock k.state }
    used_kept (PutPart part now content) =
        record {
          memory = put_bytes_valid σ (blocks_in γ s) o.state s k.memory part now content;
          state = put_alike σ ω (blocks_in γ s) o.state s k.state part now content;
        }
    used_kept (Flush now) =
        record {
          memory = flush_bytes_valid σ (blocks_in γ s) o.state s k.memory now;
          state = flush_alike σ ω (blocks_in γ s) o.state s k.state now;
        }
    used_kept (Locate part) = k
    used_kept (Recover point now result) = k

  replies_same : (o : Office) (us : List Use) → Kept γ n o → replies (widened γ n) (moved_office γ n o) us ≡ replies γ o us
  replies_same o [] k = refl
  replies_same o (u ∷ us) k =
      ap₂ (λ (r : Reply) (rs : List Reply). r ∷ rs) (reply_same o k u)
      (ap (λ (x : Office). replies (widened γ n) x us) (used_same o k u) ∙ replies_same (used γ o u) us (used_kept o k u))

  pub office_is_answered_as_before : OfficeIsAnsweredAsBefore γ n
  unfolding OfficeIsAnsweredAsBefore
  office_is_answered_as_before state old disk us v h = replies_same (office_of state (box_of old disk)) us (record { memory = v; state = h })
