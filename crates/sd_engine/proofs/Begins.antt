-- When bytes begin with a packet.
use Rattle.std.proofs.Common.{◌≡◌, ◌≢◌, ◌⊎◌, ℕ, ◌<◌, ◌≤◌, true, false, ◌==◌, ◌&&◌, ◌||◌, Bool, List, ◌++◌}
use Rattle.std.proofs.Common.{length, take, refl, sym, ap, ◌∙◌, arith, inl, inr, length-append}
use Rattle.std.specs.Prelude.{◌↔◌, nat_le, slice_index, Option, Some, None, IsNone, IfSome}
use Rattle.std.proofs.lemmas.Bool.{eq-eqb, ne_eqb, eqb-true, le-leb, lt-leb, leb-true, and_parts, and_left, and_right}
use Rattle.std.proofs.lemmas.Bool.{and_from, or_cases, or_left, or_right}
use Rattle.std.proofs.lemmas.List.{get_or-take, get_or_append_left}
use Rattle.std.specs.Array.{IsFirstChunk}
use Rattle.sd_engine.specs.Cut.{begins_packet}
use Rattle.sd_engine.specs.Seeking.{TakesFirst}

-- a first byte, a number of bytes and the byte behind a packet
abbrev begins_by : ℕ → ℕ → ℕ → Bool
begins_by first long next = (first == 0x47) && (nat_le 188 long && ((long == 188) || (next == 0x47)))

by_parts : (bytes : List ℕ) → begins_packet bytes ≡ begins_by (slice_index bytes 0) (length bytes)
    (slice_index bytes 188)
unfolding begins_packet
by_parts bytes = refl

-- of more bytes than a packet's the two sync bytes decide
by_two : (first long next : ℕ) → 189 ≤ long → begins_by first long next ≡ ((first == 0x47) && (next == 0x47))
by_two first long next h =
    ap (λ (b : Bool). (first == 0x47) && (b && ((long == 188) || (next == 0x47)))) (le-leb 188 long (omega (arith, h)))
    ∙ ap (λ (b : Bool). (first == 0x47) && (b || (next == 0x47))) (ne_eqb long 188 (λ e. omega (arith, e, h)))

-- more bytes behind them change nothing
pub begins_still : (bytes more : List ℕ) → 189 ≤ length bytes → begins_packet (bytes ++ more) ≡ begins_packet bytes
begins_still bytes more h =
    let long : 189 ≤ length (bytes ++ more) = omega (arith, h, length-append bytes more) in
    let first : slice_index (bytes ++ more) 0 ≡ slice_index bytes 0 = get_or_append_left bytes more 0 0
    (omega (arith, h)) in
    let next : slice_index (bytes ++ more) 188 ≡ slice_index bytes 188 = get_or_append_left bytes more 0 188
    (omega (arith, h)) in
    by_parts (bytes ++ more)
    ∙ by_two (slice_index (bytes ++ more) 0) (length (bytes ++ more)) (slice_index (bytes ++ more) 188) long
    ∙ ap (λ (b : ℕ). (b == 0x47) && (slice_index (bytes ++ more) 188 == 0x47)) first
    ∙ ap (λ (b : ℕ). (slice_index bytes 0 == 0x47) && (b == 0x47)) next
    ∙ sym (by_two (slice_index bytes 0) (length bytes) (slice_index bytes 188) h)
    ∙ sym (by_parts bytes)

-- the first byte is no sync byte
pub no_sync_first : (bytes : List ℕ) → slice_index bytes 0 ≢ 0x47 → begins_packet bytes ≡ false
no_sync_first bytes apart =
    by_parts bytes
    ∙ and_left (slice_index bytes 0 == 0x47) _ (ne_eqb (slice_index bytes 0) 0x47 apart)

-- there are fewer bytes than a packet's
pub too_few : (bytes : List ℕ) → length bytes < 188 → begins_packet bytes ≡ false
too_few bytes few =
    by_parts bytes
    ∙ and_right (slice_index bytes 0 == 0x47) _
    (and_left (nat_le 188 (length bytes)) _ (lt-leb 188 (length bytes) few))

-- another byte than a sync byte is behind them
pub not_followed : (bytes : List ℕ) → 188 < length bytes → slice_index bytes 188 ≢ 0x47 → begins_packet bytes ≡ false
not_followed bytes more apart =
    by_parts bytes
    ∙ by_two (slice_index bytes 0) (length bytes) (slice_index bytes 188) (omega (arith, more))
    ∙ and_right (slice_index bytes 0 == 0x47) _ (ne_eqb (slice_index bytes 188) 0x47 apart)

-- a sync byte, a packet's bytes, and then another one, or the end
pub followed : (bytes : List ℕ) → slice_index bytes 0 ≡ 0x47 → 188 ≤ length bytes →
    (length bytes ≡ 188) ⊎ (slice_index bytes 188 ≡ 0x47) → begins_packet bytes ≡ true
followed bytes sync long next =
    by_parts bytes
    ∙ and_from (slice_index bytes 0 == 0x47) _ (eq-eqb (slice_index bytes 0) 0x47 sync)
    (and_from (nat_le 188 (length bytes)) _ (le-leb 188 (length bytes) long)
    (elim next [
      | inl end ↦ or_left (length bytes == 188) _ (eq-eqb (length bytes) 188 end)
      | inr again ↦ or_right (length bytes == 188) _ (eq-eqb (slice_index bytes 188) 0x47 again)
    ]))

-- the parts of bytes that begin with a packet
pub record Parts (bytes : List ℕ) : Type 0 where
  pub sync : slice_index bytes 0 ≡ 0x47
  pub long : 188 ≤ length bytes
  pub next : (length bytes ≡ 188) ⊎ (slice_index bytes 188 ≡ 0x47)

pub parts_of : (bytes : List ℕ) → begins_packet bytes ≡ true → Parts bytes
parts_of bytes h =
    let first = and_parts (slice_index bytes 0 == 0x47) _ (sym (by_parts bytes) ∙ h) in
    let then = and_parts (nat_le 188 (length bytes)) _ first.1 in
    record {
      sync = eqb-true (slice_index bytes 0) 0x47 first.0;
      long = leb-true 188 (length bytes) then.0;
      next = elim (or_cases (length bytes == 188) _ then.1) [
        | inl end ↦ inl (eqb-true (length bytes) 188 end)
        | inr again ↦ inr (eqb-true (slice_index bytes 188) 0x47 again)
      ];
    }

same_first : (bytes first : List ℕ) → first ≡ take 188 bytes → slice_index first 0 ≡ slice_index bytes 0
same_first bytes first is =
    ap (λ (xs : List ℕ). slice_index xs 0) is ∙ get_or-take 188 bytes 0 0 (omega arith)

-- the packet of the first bytes, if they begin with the sync byte
pub first_taken : (bytes first : List ℕ) (result : Option (List ℕ)) → IsFirstChunk bytes first 188 →
    (IsNone result ↔ (slice_index first 0 ≢ 0x47)) → IfSome result (λ packet. packet ≡ first) → TakesFirst bytes result
first_taken bytes first None is none value = record {
  packet = λ begins. absurd (none.0 refl (same_first bytes first is.same ∙ (parts_of bytes begins).sync));
  none = λ e. refl;
}
first_taken bytes first (Some packet) is none value = record {
  packet = λ begins. ap (λ (p : List ℕ). Some p) (value ∙ is.same);
  none = λ e. absurd (omega (arith, is.enough, ap (λ (xs : List ℕ). length xs) e));
}

-- no packet is taken of too few bytes
pub none_taken : (bytes : List ℕ) → length bytes < 188 → TakesFirst bytes None
none_taken bytes few = record {
  packet = λ begins. absurd (omega (arith, few, (parts_of bytes begins).long));
  none = λ e. refl;
}
