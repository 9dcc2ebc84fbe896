-- The definition itself, computed: on five of the published test vectors, which between them have an empty block, a short one, two
-- blocks, a whole chunk, a parent and a tree of two levels, it gives b3sum's digests. The program of
-- this crate prints these and the rest. Assumes nothing.
use Rattle.std.specs.Prelude.{ℕ, zero, suc, ◌+◌, ◌%◌, ◌≡◌, List, [], ◌∷◌, reverse}
use Rattle.octets.specs.Number.{number}
use Rattle.blake3.specs.Blake3.{digest}

-- the input of the published vectors, n bytes from place i on: byte i is i mod 251
unfoldable pub input : ℕ → ℕ → List ℕ
input zero i = []
input (suc n) i =
    let rest = input n (i + 1) in
    i % 251 ∷ rest

-- the digest of n such bytes, as the number that it spells in hexadecimal
unfoldable pub spelled : ℕ → ℕ
spelled n = number (reverse (digest (input n 0)))

pub record Published : Type 0 where
  pub empty : spelled 0 ≡ 0xaf1349b9f5f9a1a6a0404dea36dcc9499bcb25c9adc112b7cc9a93cae41f3262
  pub short : spelled 1 ≡ 0x2d3adedff11b61f14c886e35afa036736dcd87a74d27b5c1510225d0f592e213
  pub blocks : spelled 65 ≡ 0xde1e5fa0be70df6d2be8fffd0e99ceaa8eb6e8c93a63f2d8d1c30ecb6b263dee
  pub parent : spelled 1025 ≡ 0xd00278ae47eb27b34faecf67b4fe263f82d5412916c1ffd97c8cb7fb814b8444
  pub levels : spelled 2049 ≡ 0x5f4d72f40d7a5f82b15ca2b2e44b1de3c2ef86c426c95c1af0b6879522563030
