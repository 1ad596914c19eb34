-- How a clear stream is cut into packets.
use Rattle.std.proofs.Common.{arith, ◌≡◌, ℕ, ◌+◌, ◌-◌, ◌*◌, ◌<◌, List, [], ◌∷◌, ◌++◌, length, take, drop, refl, sym, ap}
use Rattle.std.proofs.Common.{subst, ◌∙◌, append-nil, append_assoc, length-append, length-drop, take_all, Ok, Err}
use Rattle.std.specs.Prelude.{◌==◌, ◌≤◌, Bool, nat_lt, if◌then◌else◌, Option, Some, None, false, true}
use Rattle.std.proofs.lemmas.Bool.{ltb-false}
use Rattle.std.proofs.lemmas.Bool.Decides.{nat_tests}
use Rattle.sd_engine.specs.Stream.{packets_of, break_of, break_after}
use Rattle.sd_engine.specs.declared.fault.StreamBreak.{StreamBreak}
use Rattle.sd_engine.specs.declared.fault.BreakCause.{BreakCause}
use Rattle.sd_engine.specs.declared.fault.BreakCause.TheVariants.{Torn, NoSync}
use Rattle.sd_engine.proofs.Walking.{none_at_end, no_piece, torn_here, no_sync_here, packets_more, break_after_more}
use Rattle.sd_command_base.specs.declared.status.Status.TheVariants.{Limit}
use Rattle.sd_command_base.specs.declared.status.LimitKind.{LimitKind}
use Rattle.sd_command_base.specs.Spec.{within}
use Rattle.sd_run_broadcasts.specs.FieldClear.{BeginsWithPacket, broken_status}
use Rattle.sd_run_broadcasts.specs.Field.{field_clear_bytes, told_clear, unbroken}

-- these packets stand before the rest of some bytes, which break where it does
pub record IsCut (bytes : List ℕ) (first : List (List ℕ)) (rest : List ℕ) : Type 0 where
  pub packets : packets_of bytes ≡ first ++ packets_of rest
  pub breaks : break_of bytes ≡ break_after (length first) rest
  pub few : 188 * length first + length rest ≡ length bytes

pub nothing_cut : (bytes : List ℕ) → IsCut bytes [] bytes
nothing_cut bytes = record { packets = refl; breaks = refl; few = omega arith }

-- the packet with which the rest begins stands before what is behind it
pub one_more_cut : (bytes rest after packet : List ℕ) (packets more : List (List ℕ)) → IsCut bytes packets rest →
    BeginsWithPacket rest (Ok packet) → more ≡ packets ++ packet ∷ [] →
    after ≡ take (length rest - 188) (drop 188 rest) →
    IsCut bytes more after
one_more_cut bytes rest after packet packets more cut begins is behind =
    let left : after ≡ drop 188 rest =
    behind ∙ take_all (length rest - 188) (drop 188 rest) (omega (arith, length-drop 188 rest)) in
    let count : length more ≡ length packets + 1 = ap length is ∙ length-append packets (packet ∷ []) in
    let long = begins.1 in
    record {
      packets = cut.packets
          ∙ (ap (λ (ps : List (List ℕ)). packets ++ ps) (packets_more rest begins.1 begins.2)
          ∙ (ap (λ (p : List ℕ). packets ++ p ∷ packets_of (drop 188 rest)) (sym begins.0)
          ∙ (sym (append_assoc packets (packet ∷ []) (packets_of (drop 188 rest)))
          ∙ (ap (λ (ps : List (List ℕ)). ps ++ packets_of (drop 188 rest)) (sym is)
          ∙ ap (λ (xs : List ℕ). more ++ packets_of xs) (sym left)))));
      breaks = cut.breaks
          ∙ (break_after_more (length packets) rest begins.1 begins.2
          ∙ (ap (λ (k : ℕ). break_after k (drop 188 rest)) (sym count)
          ∙ ap (break_after (length more)) (sym left)));
      few = let f = cut.few in let l = ap length left in omega (arith, f, l, count, long, length-drop 188 rest);
    }

-- whether some bytes are left
pub some_left : (n : ℕ) → (n == 0) ≡ false → 0 < n
some_left n test = grind (arith, nat_tests)

pub none_left : (n : ℕ) → (n == 0) ≡ true → n ≡ 0
none_left n test = grind (arith, nat_tests)

-- the bytes break where the rest begins with no packet
pub cut_breaks : (bytes rest : List ℕ) (packets : List (List ℕ)) (cause : BreakCause) → IsCut bytes packets rest →
    0 < length rest → BeginsWithPacket rest (Err cause) → told_clear bytes ≡ Err (broken_status (length packets) cause)
cut_breaks bytes rest packets Torn cut some begins =
    ap (λ (b : Option StreamBreak). unbroken b (packets_of bytes))
    (cut.breaks ∙ (torn_here rest (length packets) some begins).1)
cut_breaks bytes rest packets NoSync cut some begins =
    ap (λ (b : Option StreamBreak). unbroken b (packets_of bytes))
    (cut.breaks ∙ (no_sync_here rest (length packets) begins.0 begins.1).1)

-- nothing is left
pub all_cut : (bytes rest : List ℕ) (packets : List (List ℕ)) → IsCut bytes packets rest → rest ≡ [] →
    told_clear bytes ≡ Ok packets
all_cut bytes rest packets cut end =
    ap (λ (b : Option StreamBreak). unbroken b (packets_of bytes))
    (cut.breaks ∙ (ap (break_after (length packets)) end ∙ none_at_end (length packets)))
    ∙ ap (λ (ps : List (List ℕ)). Ok ps)
    (cut.packets ∙ (ap (λ (xs : List ℕ). packets ++ packets_of xs) end
    ∙ (ap (λ (ps : List (List ℕ)). packets ++ ps) (no_piece [] (omega arith)) ∙ append-nil packets)))

-- bytes within a limit are few
pub bytes_within : (word most : ℕ) (kind : LimitKind) (got : Option (List ℕ)) (bytes : List ℕ) →
    (within word most kind got).result ≡ Ok bytes → length bytes ≤ most
bytes_within word most kind None bytes h = absurd cc
bytes_within word most kind (Some all) bytes h = by_test (nat_lt most (length all)) refl h
  where
    by_test : (t : Bool) → nat_lt most (length all) ≡ t → (if t then Err (Limit kind) else Ok all) ≡ Ok bytes →
        length bytes ≤ most
    by_test true test is = absurd cc
    by_test false test is =
        let same : all ≡ bytes = cc in subst (λ (xs : List ℕ). length xs ≤ most) same (ltb-false most (length all) test)

pub packets_within : (packets bytes : ℕ) → 188 * packets ≤ bytes → bytes ≤ field_clear_bytes → packets ≤ 16384
packets_within packets bytes h k = omega (arith, h, k)
