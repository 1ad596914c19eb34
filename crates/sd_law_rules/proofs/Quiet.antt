-- Packets of stuffing break no rule and change no table.
use Rattle.std.proofs.Common.{length, ◌≡◌, refl, ℕ, ◌<◌, ◌==◌, false, not, List, [], ◌∷◌, ◌++◌, map, arith, sym, ap}
use Rattle.std.proofs.Common.{◌∙◌, inl, inr, subst, Option, is_none, append_assoc, append-nil}
use Rattle.std.specs.Prelude.{All}
use Rattle.std.proofs.lemmas.List.{length-map}
use Rattle.std.proofs.lemmas.Bool.{cases_Bool}
use Rattle.std.proofs.lemmas.Bool.Decides.{nat_tests}
use Rattle.std.proofs.lemmas.List.Elements.{All-head, All-tail}
use Rattle.sd_packet.specs.Packing.{IsSectionPacket}
use Rattle.sd_packet.proofs.Packets.{packet_reads}
use Rattle.sd_site_cards.specs.SiteFields.{SiteFields, AreInRange}
use Rattle.sd_psi.specs.Rewriting.{restore_fault, rewrite_fault, ca_descriptor}
use Rattle.sd_spec.specs.Kinds.{pat_in_force, is_current_pat}
use Rattle.sd_spec.specs.Refused.{is_reserved_pid, is_full_own}
use Rattle.sd_spec.specs.declared.kind.Kind.{Kind}
use Rattle.sd_spec.specs.declared.kind.Kind.TheVariants.{Passed, Pmt, Scrambled}
use Rattle.sd_spec.proofs.Following.{pat_next}
use Rattle.sd_law_broadcast.specs.Packets.{IsWholePacket}
use Rattle.sd_law_broadcast.proofs.Sendable.{IsRight}
use Rattle.sd_law_rules.specs.Rules.{Sketch}
use Rattle.sd_law_rules.proofs.Rows.{and_false, Row, packets_in, kept_rows, next_pat, pat_after, pat_same, kind_with}
use Rattle.sd_law_rules.proofs.Rows.{views, shown}
use Rattle.sd_law_rules.proofs.Filling.{made, made_no_pat, made_no_pmt, made_whole, fill, fill_all}
use Rattle.sd_law_rules.proofs.Clearing.{IsLocal, AreLocal}

-- the packet breaks no rule, under whatever PAT, and is none
pub record IsQuiet (site : SiteFields) (x : List ℕ) : Type 0 where
  pub local : (pat : Option (List ℕ)) → IsLocal site pat x
  pub no_pat : is_current_pat x ≡ false
  pub right : IsRight x
  pub whole : IsWholePacket x

full_by : (site : SiteFields) (x : List ℕ) → is_none (restore_fault site.ca site.ecm x) ≡ false → (kind : Kind) →
    is_full_own site kind x ≡ false
full_by site x none Passed = refl
full_by site x none Scrambled = refl
full_by site x none Pmt = rw none (and_false (not (is_none (rewrite_fault x))))

pub made_quiet : (site : SiteFields) (pid c : ℕ) → pid < 8192 → c < 16 → 0 < pid → is_reserved_pid site pid ≡ false →
    IsQuiet site (made pid c)
made_quiet site pid c low small some untaken = record {
  local = λ pat. record {
    clear = reads.scrambling;
    untaken = ap (is_reserved_pid site) reads.pid_is ∙ untaken;
    own = full_by site (made pid c) (made_no_pmt (ca_descriptor site.ca site.ecm) pid c low small)
        (kind_with pat (made pid c));
  };
  no_pat = made_no_pat pid c low small some;
  right = rw (reads.pid_is) (rw other refl);
  whole = made_whole pid c low small;
}
  where
    reads : IsSectionPacket [] pid c (made pid c)
    reads = packet_reads [] pid c low small

    other : (pid == 0) ≡ false
    other = grind (arith, nat_tests, some)

pub fill_quiet : (site : SiteFields) (pid n from to : ℕ) → AreInRange site → pid < 8191 → 0 < pid →
    is_reserved_pid site pid ≡ false → All (IsQuiet site) (fill pid n from to)
fill_quiet site pid n from to range low some untaken =
    fill_all (IsQuiet site) pid n from to (λ c small. made_quiet site pid c (omega (arith, low)) small some untaken)
    (made_quiet site 8191 0 (omega arith) (omega arith) (omega arith) idle)
  where
    idle : is_reserved_pid site 8191 ≡ false
    idle = grind (arith, nat_tests, range.emm.1, range.ecm.1)

pub quiet_locals : (site : SiteFields) (pat : Option (List ℕ)) (xs : List (List ℕ)) → All (IsQuiet site) xs →
    AreLocal site pat xs
quiet_locals site pat [] all = tt
quiet_locals site pat (x ∷ xs) all =
    let first = All-head (IsQuiet site) x xs all in (
      first.local pat,
      subst (λ (q : Option (List ℕ)). AreLocal site q xs) (sym (pat_same pat x first.no_pat))
          (quiet_locals site pat xs (All-tail (IsQuiet site) x xs all)),
    )

pub quiet_pat : (site : SiteFields) (pat : Option (List ℕ)) (xs : List (List ℕ)) → All (IsQuiet site) xs →
    pat_after pat xs ≡ pat
quiet_pat site pat [] all = refl
quiet_pat site pat (x ∷ xs) all =
    ap (λ (q : Option (List ℕ)). pat_after q xs) (pat_same pat x (All-head (IsQuiet site) x xs all).no_pat)
    ∙ quiet_pat site pat xs (All-tail (IsQuiet site) x xs all)

-- the rows of lost packets
abbrev pub lost_rows : List (List ℕ) → List Row
lost_rows xs = map (λ (x : List ℕ). record { kept = false; packet = x }) xs

pub lost_packets : (xs : List (List ℕ)) → packets_in (lost_rows xs) ≡ xs
lost_packets [] = refl
lost_packets (x ∷ xs) = ap (λ (ys : List (List ℕ)). x ∷ ys) (lost_packets xs)

pub none_kept : (xs : List (List ℕ)) → kept_rows (lost_rows xs) ≡ []
none_kept [] = refl
none_kept (x ∷ xs) = none_kept xs

-- they show nothing
pub lost_views : (site : SiteFields) (w : ℕ) (pat : Option (List ℕ)) (xs : List (List ℕ)) (rows : List Row) →
    All (IsQuiet site) xs → views w pat (lost_rows xs ++ rows) ≡ views w pat rows
lost_views site w pat [] rows all = refl
lost_views site w pat (x ∷ xs) rows all =
    ap (λ (q : Option (List ℕ)). views w q (lost_rows xs ++ rows))
    (pat_same pat x (All-head (IsQuiet site) x xs all).no_pat)
    ∙ lost_views site w pat xs rows (All-tail (IsQuiet site) x xs all)

pub views_then : (w : ℕ) (pat : Option (List ℕ)) (xs ys : List Row) →
    views w pat (xs ++ ys) ≡ views w pat xs ++ views w (pat_after pat (packets_in xs)) ys
views_then w pat [] ys = refl
views_then w pat (r ∷ xs) ys = elim (cases_Bool r.kept) [
  | inl kept ↦ rw kept (ap (λ (vs : List Sketch). shown w pat r.packet ∷ vs)
      (views_then w (next_pat pat r.packet) xs ys))
  | inr lost ↦ rw lost (views_then w (next_pat pat r.packet) xs ys)
]

-- the PAT in force after packets
pub pat_joined : (before xs : List (List ℕ)) → pat_in_force (before ++ xs) ≡ pat_after (pat_in_force before) xs
pat_joined before [] = ap pat_in_force (append-nil before)
pat_joined before (x ∷ xs) =
    ap pat_in_force (sym (append_assoc before (x ∷ []) xs))
    ∙ (pat_joined (before ++ x ∷ []) xs
    ∙ ap (λ (q : Option (List ℕ)). pat_after q xs) (pat_next before x))

pub pat_then : (pat : Option (List ℕ)) (xs ys : List (List ℕ)) →
    pat_after pat (xs ++ ys) ≡ pat_after (pat_after pat xs) ys
pat_then pat [] ys = refl
pat_then pat (x ∷ xs) ys = pat_then (next_pat pat x) xs ys

pub lost_long : (xs : List (List ℕ)) → length (lost_rows xs) ≡ length xs
lost_long xs = length-map xs (λ (y : List ℕ). record { kept = false; packet = y })
