-- The packet at a place of a stream of bytes.
use Rattle.std.proofs.Common.{arith, ◌≡◌, ◌≢◌, ℕ, zero, suc, ◌+◌, ◌*◌, ◌<◌, ◌≤◌, List, refl, ap, sym}
use Rattle.std.proofs.Common.{◌∙◌, drop, length, length-drop, drop-drop, inl, inr}
use Rattle.std.specs.Prelude.{◌↔◌, ◌/◌, Option, Some, None, IsNone, IfSome, slice_get, slice_index}
use Rattle.std.specs.Array.{IsFirstChunk}
use Rattle.std.proofs.lemmas.List.{get_or-take}
use Rattle.std.proofs.lemmas.Bool.{cases_eq, cases_lt}
use Rattle.sd_engine.specs.Stream.{packets_of}
use Rattle.sd_engine.proofs.Walking.{no_piece, no_sync_here, packets_more}

-- a stream that has a packet begins with it
first_there : (bytes : List ℕ) → 0 < length (packets_of bytes) → (188 ≤ length bytes) × (slice_index bytes 0 ≡ 0x47)
first_there bytes some = elim (cases_lt (length bytes) 188) [
  | inl few ↦ absurd (let none = ap length (no_piece bytes few) in omega (arith, some, none))
  | inr long ↦ elim (cases_eq (slice_index bytes 0) 0x47) [
    | inl sync ↦ (long, sync)
    | inr apart ↦ absurd (let none = ap length (no_sync_here bytes 0 long apart).0 in omega (arith, some, none))
  ]
]

-- the packets from place i on are those of the bytes from there on
pub record IsPlace (bytes : List ℕ) (i : ℕ) : Type 0 where
  pub within : 188 * i ≤ length bytes
  pub same : slice_get (packets_of bytes) i ≡ slice_get (packets_of (drop (188 * i) bytes)) 0

pub place_of : (i : ℕ) (bytes : List ℕ) → i ≤ length (packets_of bytes) → IsPlace bytes i
place_of zero bytes before = record { within = omega arith; same = refl }
place_of (suc i) bytes before =
    let first = first_there bytes (omega (arith, before)) in
    let all = packets_more bytes first.0 first.1 in
    let rest : List ℕ = drop 188 bytes in
    let long = ap length all in
    let next = place_of i rest (omega (arith, before, long)) in
    let inside = next.within in
    let begun = first.0 in
    let steps : 188 * suc i ≡ 188 + 188 * i = omega arith in
    record {
      within = omega (arith, inside, begun, length-drop 188 bytes);
      same = ap (λ (xs : List (List ℕ)). slice_get xs (suc i)) all
          ∙ (next.same
          ∙ ap (λ (xs : List ℕ). slice_get (packets_of xs) 0)
          (drop-drop (188 * i) 188 bytes ∙ ap (λ (n : ℕ). drop n bytes) (sym steps)));
    }

-- none is there if the bytes end before its end
pub none_left : (i : ℕ) (bytes : List ℕ) → i ≤ length (packets_of bytes) → length bytes / 188 ≤ i →
    None ≡ slice_get (packets_of bytes) i
none_left i bytes before end =
    let few : length (drop (188 * i) bytes) < 188 = omega (arith, end, length-drop (188 * i) bytes) in
    sym ((place_of i bytes before).same
    ∙ ap (λ (xs : List (List ℕ)). slice_get xs 0) (no_piece (drop (188 * i) bytes) few))

-- the packet of the bytes there, if they begin with the sync byte
pub packet_is : (i : ℕ) (bytes rest piece : List ℕ) (result : Option (List ℕ)) → i ≤ length (packets_of bytes) →
    rest ≡ drop (188 * i) bytes → IsFirstChunk rest piece 188 → IsNone result ↔ (slice_index piece 0 ≢ 0x47) →
    IfSome result (λ packet. packet ≡ piece) → result ≡ slice_get (packets_of bytes) i
packet_is i bytes rest piece result before is first none some = elim (cases_eq (slice_index rest 0) 0x47) [
  | inl sync ↦
      there result none some (sync_there (slice_index piece 0) (head_is ∙ sync))
      ∙ (ap (λ (p : List ℕ). Some p) first.same
      ∙ sym (place.same ∙ (ap (λ (xs : List ℕ). slice_get (packets_of xs) 0) (sym is)
      ∙ ap (λ (xs : List (List ℕ)). slice_get xs 0) (packets_more rest first.enough sync))))
  | inr apart ↦
      none_here result (none.1 (λ same. apart (sym head_is ∙ same)))
      ∙ sym (place.same ∙ (ap (λ (xs : List ℕ). slice_get (packets_of xs) 0) (sym is)
      ∙ ap (λ (xs : List (List ℕ)). slice_get xs 0) (no_sync_here rest 0 first.enough apart).0))
]
  where
    place : IsPlace bytes i
    place = place_of i bytes before

    head_is : slice_index piece 0 ≡ slice_index rest 0
    head_is = ap (λ (xs : List ℕ). slice_index xs 0) first.same ∙ get_or-take 188 rest 0 0 (omega arith)

    sync_there : (b : ℕ) → b ≡ 0x47 → ¬ (b ≢ 0x47)
    sync_there b same apart = apart same

    none_here : (result : Option (List ℕ)) → IsNone result → result ≡ None
    none_here None is = refl
    none_here (Some packet) is = absurd (let no = is in cc)

    there : (result : Option (List ℕ)) → IsNone result ↔ (slice_index piece 0 ≢ 0x47) →
        IfSome result (λ packet. packet ≡ piece) → ¬ (slice_index piece 0 ≢ 0x47) → result ≡ Some piece
    there None none some sync = absurd (sync (none.0 refl))
    there (Some packet) none some sync = ap (λ (p : List ℕ). Some p) some
