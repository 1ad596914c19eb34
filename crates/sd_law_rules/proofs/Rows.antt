-- The packets between two messages, each with whether it is kept, and what they show.
use Rattle.std.proofs.Common.{◌&&◌, ◌++◌, ◌≡◌, refl, ℕ, zero, suc, ◌+◌, ◌<◌, ◌≤◌, ◌==◌, ◌||◌, Bool, true, false, not}
use Rattle.std.proofs.Common.{List, [], ◌∷◌, map, filter, length, take, arith, sym, ap, ◌∙◌, inl, inr, Option, Some}
use Rattle.std.proofs.Common.{nat_eq}
use Rattle.std.specs.Prelude.{if◌then◌else◌}
use Rattle.std.specs.List.{list_any, range_with_len}
use Rattle.std.specs.Option.{option_map_or}
use Rattle.std.proofs.lemmas.List.{map-append, take_more}
use Rattle.std.proofs.lemmas.Bool.{cases_Bool}
use Rattle.std.proofs.lemmas.Bool.Decides.{nat_tests}
use Rattle.sd_packet.specs.Header.{pid_of, unit_start_of, counter_of, scrambling_of, adaptation_of, payload_start_of}
use Rattle.sd_packet.specs.Positions.{is_moving, is_placed}
use Rattle.sd_site_cards.specs.SiteFields.{SiteFields}
use Rattle.sd_psi.specs.Tables.{pmt_pids_of}
use Rattle.sd_psi.specs.Forms.{section_in}
use Rattle.sd_spec.specs.Plan.{word_of}
use Rattle.sd_spec.specs.Kinds.{kind_of, pmts_in, pat_in_force, is_current_pat}
use Rattle.sd_spec.specs.Carried.{carried}
use Rattle.sd_spec.specs.Sent.{Item}
use Rattle.sd_spec.specs.declared.kind.Kind.{Kind}
use Rattle.sd_spec.specs.declared.kind.Kind.TheVariants.{Passed, Pmt, Scrambled}
use Rattle.sd_spec.proofs.Following.{pat_next}
use Rattle.sd_law_broadcast.specs.Packets.{IsWholePacket}
use Rattle.sd_law_broadcast.specs.Headers.{control_in}
use Rattle.sd_law_broadcast.proofs.Carrying.{carried_keeps}
use Rattle.sd_law_losses.specs.Kept.{is_kept}
use Rattle.sd_law_losses.specs.Confirmed.{packet_at}
use Rattle.sd_law_rules.specs.Rules.{Sketch, sketch_of}

pub and_false : (b : Bool) → (b && false) ≡ false
and_false true = refl
and_false false = refl

-- a clear packet, and whether it is kept
pub record Row : Type 0 where
  pub kept : Bool
  pub packet : List ℕ

abbrev pub row_at : List (List ℕ) → List Item → ℕ → Row
row_at clear kept i = record { kept = is_kept kept i; packet = packet_at clear i }

abbrev pub rows_in : List (List ℕ) → List Item → ℕ → ℕ → List Row
rows_in clear kept low n = map (row_at clear kept) (range_with_len low n)

abbrev pub packets_in : List Row → List (List ℕ)
packets_in rows = map (λ (r : Row). r.packet) rows

abbrev pub kept_rows : List Row → List Row
kept_rows rows = filter (λ (r : Row). r.kept) rows

-- the PAT in force after one packet more, and after several
abbrev pub next_pat : Option (List ℕ) → List ℕ → Option (List ℕ)
next_pat pat x = if is_current_pat x then Some x else pat

abbrev pub pat_after : Option (List ℕ) → List (List ℕ) → Option (List ℕ)
pat_after pat [] = pat
pat_after pat (x ∷ xs) = pat_after (next_pat pat x) xs

-- the kind of a packet under a PAT
abbrev pub kind_with : Option (List ℕ) → List ℕ → Kind
kind_with pat x =
    if is_placed x
    then (if list_any (nat_eq (pid_of x)) (option_map_or (λ p. pmt_pids_of (section_in p)) pat []) then Pmt
    else Scrambled) else Passed

pub kind_is : (before : List (List ℕ)) (x : List ℕ) → kind_of before x ≡ kind_with (pat_in_force before) x
unfolding kind_of pmts_in
kind_is before x = refl

-- what a packet shows on the air, under the control word of this number
abbrev pub shown : ℕ → Option (List ℕ) → List ℕ → Sketch
shown w pat x = record {
  pid = pid_of x;
  unit_start = unit_start_of x;
  counter = counter_of x;
  control = control_in (kind_with pat x) w;
  adaptation = adaptation_of x;
  start = payload_start_of x;
}

pub sketch_is : (site : SiteFields) (w : ℕ) (before : List (List ℕ)) (x : List ℕ) → IsWholePacket x →
    scrambling_of x ≡ 0 → word_of site (length before) ≡ w →
    sketch_of (carried site before x) ≡ shown w (pat_in_force before) x
sketch_is site w before x whole clear word =
    let keeps = carried_keeps site before x whole clear in
    rw (keeps.pid, keeps.unit_start, keeps.counter, keeps.adaptation, keeps.start, keeps.scrambling)
    (rw (word, kind_is before x) refl)

-- what the kept ones of these show
abbrev pub views : ℕ → Option (List ℕ) → List Row → List Sketch
views w pat [] = []
views w pat (r ∷ rows) =
    if r.kept then shown w pat r.packet ∷ views w (next_pat pat r.packet) rows
    else views w (next_pat pat r.packet) rows

pub views_are : (site : SiteFields) (clear : List (List ℕ)) (kept : List Item) (w low n : ℕ) → low + n ≤ length clear →
    ((i : ℕ) → low ≤ i → i < low + n → sketch_of (carried site (take i clear) (packet_at clear i))
    ≡ shown w (pat_in_force (take i clear)) (packet_at clear i)) →
    map (λ i. sketch_of (carried site (take i clear) (packet_at clear i)))
    (filter (is_kept kept) (range_with_len low n))
    ≡ views w (pat_in_force (take low clear)) (rows_in clear kept low n)
views_are site clear kept w low zero within show = refl
views_are site clear kept w low (suc n) within show =
    by_test (is_kept kept low) (views_are site clear kept w (low + 1) n (omega (arith, within))
    (λ i from to. show i (omega (arith, from)) (omega (arith, to))))
  where
    f : ℕ → Sketch
    f i = sketch_of (carried site (take i clear) (packet_at clear i))

    js : List ℕ
    js = filter (is_kept kept) (range_with_len (low + 1) n)

    later : List Sketch
    later = views w (next_pat (pat_in_force (take low clear)) (packet_at clear low)) (rows_in clear kept (low + 1) n)

    step : pat_in_force (take (low + 1) clear) ≡ next_pat (pat_in_force (take low clear)) (packet_at clear low)
    step = ap pat_in_force (take_more clear low [] (omega (arith, within)))
        ∙ pat_next (take low clear) (packet_at clear low)

    by_test : (b : Bool) →
        map f js ≡ views w (pat_in_force (take (low + 1) clear)) (rows_in clear kept (low + 1) n) →
        map f (if b then low ∷ js else js)
        ≡ (if b then shown w (pat_in_force (take low clear)) (packet_at clear low) ∷ later else later)
    by_test false rest = rest ∙ ap (λ (pat : Option (List ℕ)). views w pat (rows_in clear kept (low + 1) n)) step
    by_test true rest = ap (λ (s : Sketch). s ∷ map f js) (show low (omega arith) (omega arith))
        ∙ ap (λ (vs : List Sketch). shown w (pat_in_force (take low clear)) (packet_at clear low) ∷ vs)
        (rest ∙ ap (λ (pat : Option (List ℕ)). views w pat (rows_in clear kept (low + 1) n)) step)

-- all but the lost packets of PID p
abbrev pub stays : ℕ → Row → Bool
stays p r = r.kept || not (is_moving p r.packet)

abbrev pub staying : ℕ → List Row → List Row
staying p rows = filter (stays p) rows

-- one that doesn't stay is of the PID
pub leaves : (p : ℕ) (r : Row) → stays p r ≡ false → is_moving p r.packet ≡ true
leaves p r goes = by_tests r.kept (is_moving p r.packet) goes
  where
    by_tests : (b c : Bool) → (b || not c) ≡ false → c ≡ true
    by_tests true c e = absurd (cc)
    by_tests false true e = refl
    by_tests false false e = absurd (cc)

-- a packet of a PID above 0 is no PAT
pub no_pat : (p : ℕ) (x : List ℕ) → 0 < p → is_moving p x ≡ true → is_current_pat x ≡ false
unfolding is_current_pat
no_pat p x some moves =
    let other : (pid_of x == 0) ≡ false = grind (arith, nat_tests, moves, some) in
    rw other refl

pub pat_same : (pat : Option (List ℕ)) (x : List ℕ) → is_current_pat x ≡ false → next_pat pat x ≡ pat
pat_same pat x none = rw none refl

pub views_stay : (p : ℕ) → 0 < p → (w : ℕ) (pat : Option (List ℕ)) (rows : List Row) →
    views w pat (staying p rows) ≡ views w pat rows
views_stay p some w pat [] = refl
views_stay p some w pat (r ∷ rows) = elim (cases_Bool r.kept) [
  | inl kept ↦ rw kept (ap (λ (vs : List Sketch). shown w pat r.packet ∷ vs)
      (views_stay p some w (next_pat pat r.packet) rows))
  | inr lost ↦ elim (cases_Bool (is_moving p r.packet)) [
    | inr other ↦ rw lost (rw other (views_stay p some w (next_pat pat r.packet) rows))
    | inl moves ↦ rw lost (rw moves (views_stay p some w pat rows
        ∙ ap (λ (q : Option (List ℕ)). views w q rows) (sym (pat_same pat r.packet (no_pat p r.packet some moves)))))
  ]
]

pub pat_stays : (p : ℕ) → 0 < p → (pat : Option (List ℕ)) (rows : List Row) →
    pat_after pat (packets_in (staying p rows)) ≡ pat_after pat (packets_in rows)
pat_stays p some pat [] = refl
pat_stays p some pat (r ∷ rows) = elim (cases_Bool (stays p r)) [
  | inl stay ↦ rw stay (pat_stays p some (next_pat pat r.packet) rows)
  | inr goes ↦
      let moves : is_moving p r.packet ≡ true = leaves p r goes in
      rw goes (pat_stays p some pat rows
      ∙ ap (λ (q : Option (List ℕ)). pat_after q (packets_in rows))
      (sym (pat_same pat r.packet (no_pat p r.packet some moves))))
]

pub packets_joined : (xs ys : List Row) → packets_in (xs ++ ys) ≡ packets_in xs ++ packets_in ys
packets_joined xs ys = map-append (λ (r : Row). r.packet) xs ys
