-- A subtree: its levels, its two sides put together, a parent as a chunk of one block, lengths. Assumes nothing.
use Prim.Native.Nat.{ℕ, zero, suc, ◌+◌, ◌-◌, ◌*◌, ◌/◌, ◌^◌, ◌<◌, ◌≤◌}
use mathlib.Core.Path.{◌≡◌, refl, ap, ap₂, sym, ◌∙◌}
use mathlib.Core.List.{List, ◌++◌, append-nil}
use native.Mathlib.Omega.{arith}
use borrow.Author.Tests.{le-leb, lt-leb}
use lib.ListN.{length, take, drop, length-take, length-drop, length-append}
use lib.Seq.{take_all}
use Rattle.octets.specs.Part.{Below, part, replaced, repeated}
use Rattle.octets.proofs.BelowLaw.{below_append}
use Rattle.octets.proofs.PartLaw.{part_all}
use Rattle.blake3_compress.proofs.CompressLaw.{compress_length}
use Rattle.blake3.specs.Blake3 as B
use Rattle.blake3.proofs.LeftLaw.{split, left_ge, left_lt}
use Rattle.blake3.proofs.OutputLaw.{bytes_of_length, words_bytes_of, stored_two}

-- ---- levels

tree_small : (f : ℕ) (s : List ℕ) (t root : ℕ) → length s ≤ B.chunk_size → B.chunk s t root ≡ B.tree f s t root
unfolding B.tree
tree_small zero s t root h = refl
tree_small (suc f) s t root h = rw (B.tree, le-leb (length s) B.chunk_size h)

-- more levels than bytes change nothing
pub tree_enough : (f g : ℕ) (s : List ℕ) (t root : ℕ) → length s ≤ f → length s ≤ g → B.tree f s t root ≡ B.tree g s t root
unfolding B.tree
tree_enough zero g s t root hf hg = tree_small g s t root (omega arith)
tree_enough (suc f) zero s t root hf hg = sym (tree_small (suc f) s t root (omega arith))
tree_enough (suc f) (suc g) s t root hf hg =
    split (length s) B.chunk_size
    (λ h. sym (tree_small (suc f) s t root h) ∙ tree_small (suc g) s t root h)
    (λ h.
    let l = B.left_size (length s) in
    let lo = left_ge (length s) in
    let hi = left_lt (length s) h in
    let left : B.tree f (take l s) t 0 ≡ B.tree g (take l s) t 0 =
    tree_enough f g (take l s) t 0 (simp length-take (omega arith)) (simp length-take (omega arith)) in
    let right : B.tree f (drop l s) (t + l / B.chunk_size) 0 ≡ B.tree g (drop l s) (t + l / B.chunk_size) 0 =
    tree_enough f g (drop l s) (t + l / B.chunk_size) 0 (simp length-drop (omega arith)) (simp length-drop (omega arith)) in
    rw (B.tree, lt-leb (length s) B.chunk_size h, left, right))

-- ---- a subtree

-- of one chunk
pub subtree_small : (s : List ℕ) (t root : ℕ) → length s ≤ B.chunk_size → B.subtree s t root ≡ B.chunk s t root
unfolding B.subtree
subtree_small s t root h = sym (tree_small (length s) s t root h)

-- of more: the parent of its two sides
pub subtree_large : (s : List ℕ) (t root : ℕ) → B.chunk_size < length s
    → B.subtree s t root
    ≡ B.parent
    (B.subtree (take (B.left_size (length s)) s) t 0)
    (B.subtree (drop (B.left_size (length s)) s) (t + B.left_size (length s) / B.chunk_size) 0)
    root
unfolding B.subtree B.tree
subtree_large s t root h =
    let l = B.left_size (length s) in
    let lo = left_ge (length s) in
    let hi = left_lt (length s) h in
    let left : B.tree (length s - 1) (take l s) t 0 ≡ B.tree (length (take l s)) (take l s) t 0 =
    tree_enough (length s - 1) (length (take l s)) (take l s) t 0 (simp length-take (omega arith)) (omega arith) in
    let right : B.tree (length s - 1) (drop l s) (t + l / B.chunk_size) 0 ≡ B.tree (length (drop l s)) (drop l s) (t + l / B.chunk_size) 0 =
    tree_enough (length s - 1) (length (drop l s)) (drop l s) (t + l / B.chunk_size) 0 (simp length-drop (omega arith)) (omega arith) in
    let more : length s ≡ suc (length s - 1) = omega arith in
    ap (λ (n : ℕ). B.tree n s t root) more
    ∙ rw (B.tree, lt-leb (length s) B.chunk_size h) (ap₂ (λ (a b : List ℕ). B.parent a b root) left right)

-- the same from the results for the two sides, as the code takes them
pub subtree_of : (s : List ℕ) (t root l : ℕ) (a b r : List ℕ) → B.chunk_size < length s → l ≡ B.left_size (length s)
    → a ≡ B.subtree (take l s) t 0 → b ≡ B.subtree (take (length s - l) (drop l s)) (t + l / B.chunk_size) 0 → r ≡ B.parent a b root
    → r ≡ B.subtree s t root
subtree_of s t root l a b r h e pa pb q =
    let rest : take (length s - l) (drop l s) ≡ drop l s = take_all (length s - l) (drop l s) (simp length-drop (omega arith)) in
    q
    ∙ ap₂ (λ (x y : List ℕ). B.parent x y root) pa (rw rest at pb)
    ∙ ap (λ (k : ℕ). B.parent (B.subtree (take k s) t 0) (B.subtree (drop k s) (t + k / B.chunk_size) 0) root) e
    ∙ sym (subtree_large s t root h)

-- a parent is a chunk of one block: the 64 bytes of its two chaining values
pub parent_of : (z x y l r h : List ℕ) (root : ℕ) → length z ≡ B.block_size → length l ≡ 8 → length r ≡ 8
    → Below (2 ^ 32) l → Below (2 ^ 32) r
    → x ≡ replaced z 0 (B.bytes_of l) → y ≡ replaced x 32 (B.bytes_of r)
    → h ≡ B.chain y 0 B.PARENT root (B.blocks (length y)) → h ≡ B.parent l r root
unfolding B.parent B.chain B.blocks B.block B.message B.flags repeated
parent_of z x y l r h root hz hl hr sl sr ex ey e =
    let place : 32 ≡ 4 * length l = omega arith in
    let is : y ≡ B.bytes_of (l ++ r) =
    stored_two z x y l r (omega arith) ex (ey ∙ ap (λ (n : ℕ). replaced x n (B.bytes_of r)) place) in
    let joined : length (l ++ r) ≡ 16 = omega (arith, length-append l r) in
    let size : length y ≡ B.block_size = ap length is ∙ omega (arith, bytes_of_length (l ++ r)) in
    let whole : part y 0 B.block_size ≡ y = part_all y B.block_size (omega arith) in
    let read : B.words 16 y ≡ l ++ r =
    ap₂ B.words (sym joined) is ∙ words_bytes_of (l ++ r) (below_append (2 ^ 32) l r sl sr) in
    e
    ∙ rw (size, whole, size, append-nil y, read)

-- ---- lengths

chain_length : (s : List ℕ) (t first last k : ℕ) → length (B.chain s t first last k) ≡ 8
unfolding B.chain
chain_length s t first last zero = refl
chain_length s t first last (suc k) = compress_length _ _ _ _ _

tree_length : (f : ℕ) (s : List ℕ) (t root : ℕ) → length (B.tree f s t root) ≡ 8
unfolding B.tree B.chunk B.parent
tree_length zero s t root = chain_length s t B.CHUNK_START (B.CHUNK_END + root) (B.blocks (length s))
tree_length (suc f) s t root =
    split (length s) B.chunk_size
    (λ h. rw (B.tree, le-leb (length s) B.chunk_size h) (chain_length s t B.CHUNK_START (B.CHUNK_END + root) (B.blocks (length s))))
    (λ h. rw (B.tree, lt-leb (length s) B.chunk_size h) (compress_length _ _ _ _ _))

-- an output is eight words
pub subtree_length : (s : List ℕ) (t root : ℕ) → length (B.subtree s t root) ≡ 8
unfolding B.subtree
subtree_length s t root = tree_length (length s) s t root
