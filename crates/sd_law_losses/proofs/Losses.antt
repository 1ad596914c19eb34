-- Whatever is lost of a broadcast, a receiver that took its CAT writes exactly what is confirmed.
use Rattle.std.proofs.Common.{◌≡◌, refl, ℕ, ◌+◌, ◌-◌, ◌<◌, ◌≤◌, Bool, true, false}
use Rattle.std.proofs.Common.{List, [], ◌∷◌, ◌++◌, map, length, take, drop, Option, None}
use Rattle.std.proofs.Common.{arith, sym, ap, ◌∙◌, subst, append-nil}
use Rattle.std.specs.Prelude.{All}
use Rattle.std.specs.List.{list_any}
use Rattle.std.proofs.lemmas.List.Elements.{All-tail}
use Rattle.std.proofs.lemmas.Bool.Decides.{nat_tests}
use Rattle.sd_site_cards.specs.SiteFields.{SiteFields}
use Rattle.sd_message.specs.EcmParts.{Message, parts_of}
use Rattle.sd_spec.specs.Plan.{period_of}
use Rattle.sd_spec.specs.Messages.{message_at}
use Rattle.sd_spec.specs.Sent.{Item, Controls, packets_from}
use Rattle.sd_spec.specs.Items.{IsOfBroadcast}
use Rattle.sd_spec.proofs.Sending.{packets_in_turn}
use Rattle.sd_spec.proofs.Bodies.{packets_many}
use Rattle.sd_spec.specs.Heard.{Heard, Controls as HeardControls}
use Rattle.sd_spec.specs.Offered.{heard, out_from, break_from}
use Rattle.sd_law_losses.specs.Chosen.{chosen}
use Rattle.sd_law_losses.proofs.Writing.{onto, Writes, IsOpenUpto}
use Rattle.sd_law_losses.proofs.Coming.{all_kept}
use Rattle.sd_law_losses.proofs.Arriving.{is_of}
use Rattle.sd_law_losses.proofs.Setting.{Setting, AreLaws, tuning_at, final, told_by}
use Rattle.sd_law_losses.proofs.Pairs.{end_is_all, closing_is}
use Rattle.sd_law_losses.proofs.Facts.{AreKept, AreHeard, from_last}
use Rattle.sd_law_losses.proofs.Completing.{parts_at, parts_of_other, none_carried}
use Rattle.sd_law_losses.proofs.Heeding.{Closes, next_last, written_where, what_comes, closing_comes}
use Rattle.sd_law_losses.proofs.Hearing.{AreHearable, heard_from, heard_parts, ComesTo, packets_come, IsTuned}
use Rattle.sd_law_losses.proofs.Later.{chosen_append, chosen_map}
use Rattle.sd_law_losses.proofs.Confirming.{confirmed_in}
use Rattle.sd_law_losses.proofs.Writings.{last_before, written_confirmed, rest_unconfirmed}

-- what holds of two lists holds of the second
pub all_second : {A : Type 0} (P : A → Type 0) (xs ys : List A) → All P (xs ++ ys) → All P ys
all_second P [] ys all = all
all_second P (x ∷ xs) ys all = all_second P xs ys (All-tail P x (xs ++ ys) all)

-- a choice of the packets of things one after the other
pub packets_chosen : (site : SiteFields) (earlier xs ys : List Item) (fs : List Bool) →
    chosen fs (packets_from site earlier (xs ++ ys))
    ≡ chosen (take (length xs) fs) (packets_from site earlier xs)
    ++ chosen (drop (length xs) fs) (packets_from site (earlier ++ xs) ys)
packets_chosen site earlier xs ys fs =
    ap (chosen fs) (packets_in_turn site earlier xs ys)
    ∙ (chosen_append fs (packets_from site earlier xs) (packets_from site (earlier ++ xs) ys)
    ∙ ap (λ (n : ℕ). chosen (take n fs) (packets_from site earlier xs) ++ chosen (drop n fs) (packets_from site
    (earlier ++ xs) ys))
    (packets_many site earlier xs))

-- what is written of packets is this, and none is refused
pub record AreWritten (s : Setting) (past packets : List (List ℕ)) (wrote : List (List ℕ)) : Type 0 where
  pub out : out_from s.card past packets ≡ wrote
  pub none : break_from s.card past packets ≡ None

-- the first packets, and then the others
pub written_first : (s : Setting) (past xs ys : List (List ℕ)) (things : List Heard) (v w : List (List ℕ)) →
    ComesTo s past xs ys things v → AreWritten s (onto xs past) ys w → AreWritten s past
    (xs ++ ys) (v ++ w)
written_first s past xs ys things v w first after = record {
  out = first.out ∙ ap (λ (ps : List (List ℕ)). v ++ ps) after.out;
  none = first.breaks ∙ after.none;
}

pub nothing_more : (s : Setting) (past : List (List ℕ)) → AreWritten s past [] []
unfolding out_from break_from
nothing_more s past = record { out = refl; none = refl }

-- all packets of some things, up to the end
pub written_all : (s : Setting) (able : AreHearable s) (items earlier : List Item) (fs : List Bool) (past : List
    (List ℕ))
    (wrote : List (List ℕ)) → All (IsOfBroadcast s.plan s.clear) items → IsTuned s past →
    IsOpenUpto (heard s.card past) (heard_from (length past) (chosen fs items)) →
    Writes s.card (tuning_at s) (heard s.card past) (heard_from (length past) (chosen fs items)) wrote →
    AreWritten s past (chosen fs (packets_from s.plan.site earlier items)) wrote
written_all s able items earlier fs past wrote all tuned opened writes =
    subst (λ (ps : List (List ℕ)). AreWritten s past ps wrote) (append-nil (chosen fs
    (packets_from s.plan.site earlier items)))
    (subst (AreWritten s past (chosen fs (packets_from s.plan.site earlier items) ++ [])) (append-nil wrote)
    (written_first s past (chosen fs (packets_from s.plan.site earlier items)) [] (heard_from (length past)
    (chosen fs items)) wrote []
    (packets_come s able items earlier fs past [] wrote all tuned opened writes)
    (nothing_more s (onto (chosen fs (packets_from s.plan.site earlier items)) past))))

-- the closing message of a broadcast, of which parts may be lost, and what is confirmed with it
closing_confirmed : (s : Setting) (laws : AreLaws s) (last : Option ℕ) (fs : List Bool) (kept : List Item) →
    AreKept (length s.clear) (final s) last kept →
    AreKept (length s.clear) (final s + 1) (next_last (all_kept fs (parts_of (told_by s (final s)))) last (final s))
    (kept ++ map Controls (parts_at s (final s) fs)) →
    ((b : ℕ) → b < final s → list_any (is_of b) (map Controls (parts_at s (final s) fs)) ≡ false) →
    written_where (all_kept fs (parts_of (told_by s (final s)))) s (kept ++ map Controls (parts_at s
    (final s) fs)) last (final s)
    ≡ confirmed_in s (kept ++ map Controls (parts_at s (final s) fs)) (from_last s last) (length s.clear)
closing_confirmed s laws last fs kept is after none = by_all (all_kept fs (parts_of (told_by s (final s)))) after
  where
    all : List Item
    all = kept ++ map Controls (parts_at s (final s) fs)

    by_all : (b : Bool) → AreKept (length s.clear) (final s + 1) (next_last b last (final s)) all →
        written_where b s all last (final s) ≡ confirmed_in s all (from_last s last) (length s.clear)
    by_all true after =
        written_confirmed s all last (final s) laws.range (omega arith) after.last_is.1
        (last_before kept (map Controls (parts_at s (final s) fs)) last (final s) is.last_is none)
        ∙ ap (confirmed_in s all (from_last s last)) (end_is_all s (final s) laws.range refl)
    by_all false after = sym (rest_unconfirmed s all (final s + 1) last laws.range after.last_is)

-- what comes of the closing message
pub closing_written : (s : Setting) (laws : AreLaws s) (p i : ℕ) (last : Option ℕ) (fs : List Bool)
    (kept : List Item) (past : List Heard) →
    p ≤ period_of s.plan (length s.clear - 1) → AreKept (length s.clear) (final s) last kept →
    AreHeard s (length s.clear) p (final s) last kept past →
    IsOpenUpto past (heard_from i (chosen fs (map Controls (parts_of (told_by s (final s))))))
    × Writes s.card (tuning_at s) past (heard_from i (chosen fs (map Controls (parts_of (told_by s (final s))))))
    (confirmed_in s (kept ++ chosen fs (map Controls (parts_of (told_by s (final s))))) (from_last s last)
    (length s.clear))
unfolding message_at
closing_written s laws p i last fs kept past rises is are =
    subst (λ (items : List Item). IsOpenUpto past (heard_from i items) × Writes s.card (tuning_at s) past
    (heard_from i items)
    (confirmed_in s (kept ++ items) (from_last s last) (length s.clear))) (sym (chosen_map Controls fs (parts_of
    (told_by s z))))
    (subst (λ (hs : List Heard). IsOpenUpto past hs × Writes s.card (tuning_at s) past hs
    (confirmed_in s (kept ++ map Controls (parts_at s z fs)) (from_last s last) (length s.clear))) (sym
    (heard_parts i (parts_at s z fs))) (
      closes.open_upto,
      subst (Writes s.card (tuning_at s) past (map HeardControls (parts_at s z fs)))
          (closing_confirmed s laws last fs kept is closes.kept_is none) closes.writes,
    ))
  where
    z : ℕ
    z = final s

    closes : Closes s (length s.clear) (z + 1) (next_last (all_kept fs (parts_of (told_by s z))) last z)
        (kept ++ map Controls (parts_at s z fs)) past (map HeardControls (parts_at s z fs))
        (written_where (all_kept fs (parts_of (told_by s z))) s (kept ++ map Controls (parts_at s z fs)) last z)
    closes = closing_comes s laws (length s.clear) p z last fs kept (map Controls (parts_at s z fs)) past (omega arith)
        (sym (end_is_all s z laws.range refl)) (omega (
          arith,
          rises,
          ap (λ (m : Message). m.period) (closing_is s z
              (omega arith)),
        ))
        (λ j below. none_carried j (parts_at s z fs)) is are (all_kept fs (parts_of (told_by s z))) refl
        (what_comes s laws (length s.clear) p z last fs kept past (omega arith) is are)

    none : (b : ℕ) → b < z → list_any (is_of b) (map Controls (parts_at s z fs)) ≡ false
    none b below = parts_of_other s laws z b fs (omega arith) (grind (arith, nat_tests, below))
