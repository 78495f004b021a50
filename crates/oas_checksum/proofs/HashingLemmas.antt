-- A message as its pieces come.
use Rattle.std.proofs.Common.{◌≡◌, ℕ, ◌+◌, ◌-◌, ◌*◌, ◌%◌, ◌^◌, ◌<◌, ◌≤◌, ◌++◌, List, [], ◌∷◌, length, take, drop, replicate, refl, sym, ap, ◌∙◌, arith, append_assoc, length-append, length-drop, subst}
use Rattle.std.proofs.lemmas.List.{append-nil, drop_all, length-take-le, take-append-drop, take_all, take_rest}
use Rattle.std.proofs.lemmas.Slice.{take-put_mid}
use Rattle.std.specs.Int.{to_be_bytes, w64}
use Rattle.sha2.specs.Sha256.{IsAbsorbed, compress, final_hash, initial_hash_256, padded_message}
use Rattle.sha2.proofs.Absorbing256.{IsAbsorbed_fill, IsAbsorbed_short, total_append}
use Rattle.oas_checksum.specs.declared.hash.hasher.Sha256.{Sha256}
use Rattle.oas_checksum.specs.Hashing.{HasAbsorbed, Holds256}
use borrow.Rule.Slice.PartMut.{post_of, put_mid}

pub total_of : (s : Sha256) (m : List ℕ) → Holds256 s m → s.total ≡ length m % 2 ^ 64
unfolding Holds256
total_of s m held = held.0

pub absorbed_of : (s : Sha256) (m : List ℕ) → Holds256 s m → HasAbsorbed s m
unfolding Holds256
absorbed_of s m held = held.1

-- bytes that leave a block short, put behind the rest
pub held_short : (s : Sha256) (m d rest : List ℕ) (used j : ℕ) → Holds256 s m → length s.rest ≡ 64 → used ≡ s.total % 64 → used + length d < 64
    → rest ≡ put_mid used j s.rest d → IsAbsorbed initial_hash_256 s.hash rest (m ++ d)
held_short s m d rest used j held long at short e =
    let total : s.total ≡ length m % 2 ^ 64 = total_of s m held in
    let place : used ≡ length m % 64 = omega arith in
    let placed : take (used + length d) rest ≡ take used s.rest ++ d = rw e (take-put_mid used j s.rest d (used + length d) refl (omega arith)) in
    IsAbsorbed_short initial_hash_256 s.hash s.rest rest m d (absorbed_of s m held) (omega arith) (rw place at placed)

-- bytes that fill a block, put behind the rest
pub held_full : (s : Sha256) (m d rest : List ℕ) (used j : ℕ) → Holds256 s m → length s.rest ≡ 64 → used ≡ s.total % 64 → used + length d ≡ 64 → j ≡ 64 - used
    → rest ≡ put_mid used j s.rest d → IsAbsorbed initial_hash_256 (compress s.hash rest) rest (m ++ d)
held_full s m d rest used j held long at full ej e =
    let total : s.total ≡ length m % 2 ^ 64 = total_of s m held in
    let place : used ≡ length m % 64 = omega arith in
    let none : post_of used j s.rest ≡ [] = drop_all j (drop used s.rest) (omega (arith, length-drop used s.rest)) in
    let whole : rest ≡ take used s.rest ++ d = rw (e, none, append-nil) refl in
    IsAbsorbed_fill initial_hash_256 s.hash s.rest rest m d rest (absorbed_of s m held) (omega arith) (rw place at whole)

-- no bytes, where a block begins
pub held_edge : (s : Sha256) (m d : List ℕ) → Holds256 s m → s.total % 64 ≤ 0 → length d ≡ (64 - s.total % 64) % 64 → HasAbsorbed s (m ++ d)
held_edge s m d held edge none =
    let empty : d ≡ [] = sym (take_all 0 d (omega arith)) in
    rw (empty, append-nil) (absorbed_of s m held)

-- a message up to the next edge of a block
pub at_edge : (s : Sha256) (m d : List ℕ) (room : ℕ) → Holds256 s m → room ≡ (64 - s.total % 64) % 64 → room ≤ length d → length (m ++ take room d) % 64 ≡ 0
at_edge s m d room held e le =
    let total : s.total ≡ length m % 2 ^ 64 = total_of s m held in
    let front : length (take room d) ≡ room = length-take-le room d le in
    omega (arith, length-append m (take room d))

-- bytes taken in two parts
pub rejoined : (n : Sha256) (m d : List ℕ) (room : ℕ) → HasAbsorbed n ((m ++ take room d) ++ take (length d - room) (drop room d)) → HasAbsorbed n (m ++ d)
rejoined n m d room held =
    let e : (m ++ take room d) ++ take (length d - room) (drop room d) ≡ m ++ d =
    ap (λ (x : List ℕ). (m ++ take room d) ++ x) (take_rest d room) ∙ append_assoc m (take room d) (drop room d)
    ∙ ap (λ (x : List ℕ). m ++ x) (take-append-drop room d) in
    subst (HasAbsorbed n) e held

-- the bytes counted
pub counted : (s n : Sha256) (m d : List ℕ) → Holds256 s m → n.total ≡ (s.total + length d) % 2 ^ 64 → HasAbsorbed n (m ++ d) → Holds256 n (m ++ d)
unfolding Holds256
counted s n m d held total absorbed = (total_append s.total n.total m d held.0 total, absorbed)

-- a message after its padding: a byte, zeros, and the length in bits
pub padded_hash : (s : Sha256) (m one zeros bits : List ℕ) → Holds256 s (((m ++ one) ++ zeros) ++ bits) → one ≡ 0x80 ∷ []
    → zeros ≡ replicate ((119 - length m % 64) % 64) 0 → bits ≡ to_be_bytes w64 (length m * 8 % 2 ^ 64)
    → s.hash ≡ final_hash initial_hash_256 m
padded_hash s m one zeros bits held eo ez eb =
    let e : ((m ++ one) ++ zeros) ++ bits ≡ padded_message m =
    append_assoc (m ++ one) zeros bits ∙ append_assoc m one (zeros ++ bits) ∙ rw (eo, ez, eb) refl in
    rw (← e) (absorbed_of s (((m ++ one) ++ zeros) ++ bits) held).0
