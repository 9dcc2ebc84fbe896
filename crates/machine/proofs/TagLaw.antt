-- Laws of the tag and of the current page. Assumes nothing; the digest is never looked into.
use mathlib.Core.Path.{◌≡◌, refl, ap, sym, ◌∙◌}
use mathlib.Core.Bool.{Bool, true, false}
use mathlib.Core.List.{List, ◌++◌}
use Prim.Native.Nat.{ℕ, ◌+◌, ◌^◌, ◌<◌}
use native.Mathlib.Omega.{arith}
use borrow.Author.Tests.{eqb-true, eq-eqb, ne_eqb}
use lib.Dec.{eqb}
use lib.ListN.{length, length-append}
use Rattle.octets.specs.Part.{AreBytes, part}
use Rattle.octets.specs.Number.{number, bytes}
use Rattle.octets.proofs.BelowLaw.{below_append, below_part}
use Rattle.octets.proofs.PartLaw.{part_length, part_first, part_second, part_right}
use Rattle.octets.proofs.NumberLaw.{bytes_length, number_bytes}
use Rattle.lockpage.specs.Geometry.{Geometry, Proper}
use Rattle.lockpage.specs.Size.{page_size}
use Rattle.addressing.specs.Map.{disk_size, page_block}
use Rattle.addressing.proofs.MapLaw.{page_block_below}
use Rattle.disk.specs.Disk.{block}
use Rattle.disk.proofs.DiskLaw.{block_length, block_are, block_within}
use Rattle.memory.specs.Layout.{memory_size, salt_size, count_size}
use Rattle.memory.specs.Memory.{salt, count, groups, held, held_page}
use Rattle.memory.proofs.FieldLaw.{salt_length, held_page_length}
use Rattle.memory.proofs.RangeLaw.{held_page_bytes}
use Rattle.blake3.specs.Claims.{DigestIsBytes}
use Rattle.blake3.proofs.Theorems.{digest_is_bytes}
use Rattle.machine.specs.Command.{Box, tag_size, proof_size, brought_page, brought_tag}
use Rattle.machine.specs.Tag.{group_number_size, tag_message, tag, tagged, current_page}

-- γ is any proper geometry
module _ {γ : Geometry} (σ : Proper γ) where
  -- ---- the tag

  pub tag_length : (m : List ℕ) (g : ℕ) (p : List ℕ) → length (tag γ m g p) ≡ tag_size
  unfolding tag DigestIsBytes
  tag_length m g p = (digest_is_bytes (tag_message γ m g p)).0

  pub tag_are : (m : List ℕ) (g : ℕ) (p : List ℕ) → AreBytes (tag γ m g p)
  unfolding tag DigestIsBytes
  tag_are m g p = (digest_is_bytes (tag_message γ m g p)).1

  pub tagged_length : (m : List ℕ) (g : ℕ) (p : List ℕ) → length p ≡ page_size γ → length (tagged γ m g p) ≡ proof_size γ
  unfolding tagged
  tagged_length m g p l = length-append p (tag γ m g p) ∙ omega (arith, tag_length m g p)

  pub tagged_are : (m : List ℕ) (g : ℕ) (p : List ℕ) → AreBytes p → AreBytes (tagged γ m g p)
  unfolding tagged
  tagged_are m g p b = below_append 256 p (tag γ m g p) b (tag_are m g p)

  -- the tag hangs on the salt and on the group's count
  pub tag_same : (m n : List ℕ) (g : ℕ) (p : List ℕ) → salt n ≡ salt m → count n g ≡ count m g → tag γ n g p ≡ tag γ m g p
  unfolding tag tag_message
  tag_same m n g p es ec = rw (es, ec)

  -- what is brought when a page is brought with its tag
  pub tagged_page : (m : List ℕ) (g : ℕ) (p : List ℕ) → length p ≡ page_size γ → brought_page γ (tagged γ m g p) ≡ p
  unfolding tagged brought_page
  tagged_page m g p l = part_first p (tag γ m g p) (page_size γ) l

  pub tagged_tag : (m : List ℕ) (g : ℕ) (p : List ℕ) → length p ≡ page_size γ → brought_tag γ (tagged γ m g p) ≡ tag γ m g p
  unfolding tagged brought_tag
  tagged_tag m g p l = part_second p (tag γ m g p) (page_size γ) tag_size l (tag_length m g p)

  pub brought_length : (proof : List ℕ) → length proof ≡ proof_size γ → length (brought_page γ proof) ≡ page_size γ
  unfolding brought_page
  brought_length proof l = part_length proof 0 (page_size γ) (omega arith)

  pub brought_are : (proof : List ℕ) → AreBytes proof → AreBytes (brought_page γ proof)
  unfolding brought_page
  brought_are proof b = below_part 256 proof 0 (page_size γ) b

  -- ---- the message

  -- the count is read back from where it stands in the message
  pub message_count : (m : List ℕ) (g : ℕ) (p : List ℕ) → length m ≡ memory_size γ → count m g < 256 ^ count_size
      → number (part (tag_message γ m g p) (salt_size + group_number_size) count_size) ≡ count m g
  unfolding tag_message
  message_count m g p l small =
      let s = salt m in
      let b = bytes group_number_size g in
      let n = bytes count_size (count m g) in
      let at : salt_size + group_number_size ≡ length s + (length b + 0) = omega (arith, salt_length σ m l, bytes_length group_number_size g) in
      ap (λ (k : ℕ). number (part (s ++ (b ++ (n ++ p))) k count_size)) at
      ∙ ap number (part_right s (b ++ (n ++ p)) (length b + 0) count_size ∙ part_right b (n ++ p) 0 count_size
      ∙ part_first n p count_size (bytes_length count_size (count m g)))
      ∙ number_bytes count_size (count m g) small

  pub message_length : (m : List ℕ) (g : ℕ) (p : List ℕ) → length m ≡ memory_size γ
      → length (tag_message γ m g p) ≡ salt_size + (group_number_size + (count_size + length p))
  unfolding tag_message
  message_length m g p l =
      let n : List ℕ = bytes count_size (count m g) in
      let b : List ℕ = bytes group_number_size g in
      length-append (salt m) (b ++ (n ++ p))
      ∙ omega
      (arith, salt_length σ m l, length-append b (n ++ p), length-append n p, bytes_length group_number_size g, bytes_length count_size (count m g))

  -- two messages that are the same have the same count
  pub message_same : (m n : List ℕ) (g : ℕ) (p q : List ℕ) → length m ≡ memory_size γ → length n ≡ memory_size γ
      → count m g < 256 ^ count_size → count n g < 256 ^ count_size → tag_message γ m g p ≡ tag_message γ n g q → count m g ≡ count n g
  message_same m n g p q lm ln sm sn e =
      sym (message_count m g p lm sm)
      ∙ ap (λ (l : List ℕ). number (part l (salt_size + group_number_size) count_size)) e
      ∙ message_count n g q ln sn

  -- ---- the current page

  pub current_held : (s : Box) (g : ℕ) → held γ s.memory ≡ g → current_page γ s g ≡ held_page γ s.memory
  unfolding current_page
  current_held s g e = rw (current_page, eq-eqb (held γ s.memory) g e)

  pub current_other : (s : Box) (g : ℕ) → (held γ s.memory ≡ g → ⊥) → current_page γ s g ≡ block γ s.disk (page_block γ g)
  unfolding current_page
  current_other s g e = rw (current_page, ne_eqb (held γ s.memory) g e)

  -- what holds of the held page, if that group is held, and of the one on the disk holds of the current page
  pub current : (P : List ℕ → Type 0) (s : Box) (g : ℕ) → (held γ s.memory ≡ g → P (held_page γ s.memory))
      → P (block γ s.disk (page_block γ g)) → P (current_page γ s g)
  unfolding current_page
  current P s g h d = go (eqb (held γ s.memory) g) refl
    where
      go : (b : Bool) → eqb (held γ s.memory) g ≡ b → P (elim b [ true ↦ held_page γ s.memory | false ↦ block γ s.disk (page_block γ g) ])
      go true e = h (eqb-true (held γ s.memory) g e)
      go false e = d

  -- it hangs on the held group, the held page and the disk
  pub current_same : (s t : Box) (g : ℕ) → held γ t.memory ≡ held γ s.memory → held_page γ t.memory ≡ held_page γ s.memory
      → t.disk ≡ s.disk → current_page γ t g ≡ current_page γ s g
  unfolding current_page
  current_same s t g h p d =
      let chosen : ℕ → List ℕ → List ℕ → List ℕ = λ n page disk. elim (eqb n g) [ true ↦ page | false ↦ block γ disk (page_block γ g) ] in
      ap (λ (n : ℕ). chosen n (held_page γ t.memory) t.disk) h
      ∙ ap (λ (page : List ℕ). chosen (held γ s.memory) page t.disk) p
      ∙ ap (λ (disk : List ℕ). chosen (held γ s.memory) (held_page γ s.memory) disk) d

  pub current_length : (s : Box) (g : ℕ) → length s.memory ≡ memory_size γ → length s.disk ≡ disk_size γ (groups γ s.memory)
      → g < groups γ s.memory → length (current_page γ s g) ≡ page_size γ
  current_length s g lm ld h =
      current (λ (p : List ℕ). length p ≡ page_size γ) s g (λ e. held_page_length σ s.memory lm)
      (block_length σ s.disk (page_block γ g)
      (block_within σ s.disk (groups γ s.memory) (page_block γ g) ld (page_block_below σ (groups γ s.memory) g h)))

  pub current_are : (s : Box) (g : ℕ) → AreBytes s.memory → AreBytes s.disk → AreBytes (current_page γ s g)
  current_are s g bm bd =
      current (λ (p : List ℕ). AreBytes p) s g (λ e. held_page_bytes σ s.memory bm) (block_are σ s.disk (page_block γ g) bd)
