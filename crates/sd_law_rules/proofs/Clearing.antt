-- Clear streams by what is asked of each packet alone, and of all together.
use Rattle.std.proofs.Common.{◌≡◌, refl, ℕ, suc, ◌+◌, ◌^◌, ◌<◌, ◌≤◌, ◌||◌, Bool, true, false, List, [], ◌∷◌}
use Rattle.std.proofs.Common.{◌++◌, filter, length, arith, sym, ap, ◌∙◌, inl, inr, subst, nat_le, Option, None}
use Rattle.std.proofs.Common.{length-append, append_assoc}
use Rattle.std.specs.Prelude.{if◌then◌else◌}
use Rattle.std.specs.List.{list_any}
use Rattle.std.proofs.lemmas.Bool.{cases_Bool}
use Rattle.std.proofs.lemmas.Bool.Decides.{nat_tests}
use Rattle.std.proofs.lemmas.List.Folds.{list_any-append}
use Rattle.sd_base.proofs.Lists.{both_none}
use Rattle.sd_packet.specs.Header.{pid_of, scrambling_of}
use Rattle.sd_packet.specs.Positions.{is_moving, is_placed}
use Rattle.sd_site_cards.specs.SiteFields.{SiteFields}
use Rattle.sd_spec.specs.Plan.{word_of}
use Rattle.sd_spec.specs.Kinds.{pat_in_force, has_moved, moved_pids, positional_pids}
use Rattle.sd_spec.specs.Refused.{is_reserved_pid, is_full_own, is_one_too_many, unsent_at, unsent_from}
use Rattle.sd_spec.specs.declared.kind.Kind.{Kind}
use Rattle.sd_spec.proofs.Following.{pat_next, moved_first}
use Rattle.sd_law_broadcast.proofs.Clear.{accepted, none_then, put_in_length}
use Rattle.sd_law_broadcast.proofs.Narrowing.{can_be_sent}
use Rattle.sd_law_rules.proofs.Rows.{leaves, Row, packets_in, staying, stays, next_pat, pat_after, kind_with, kind_is}
use Rattle.sd_law_rules.proofs.Rows.{no_pat, pat_same}

-- the packet breaks no rule but that on PATs, whatever the number of packets and PIDs before it
pub record IsLocal (site : SiteFields) (pat : Option (List ℕ)) (x : List ℕ) : Type 0 where
  pub clear : scrambling_of x ≡ 0
  pub untaken : is_reserved_pid site (pid_of x) ≡ false
  pub own : is_full_own site (kind_with pat x) x ≡ false

abbrev pub AreLocal : SiteFields → Option (List ℕ) → List (List ℕ) → Type 0
AreLocal site pat [] = Unit {0}
AreLocal site pat (x ∷ xs) = IsLocal site pat x × AreLocal site (next_pat pat x) xs

pub locals_of : (site : SiteFields) (before xs : List (List ℕ)) → unsent_from site before xs ≡ None →
    AreLocal site (pat_in_force before) xs
unfolding unsent_from
locals_of site before [] h = tt
locals_of site before (x ∷ xs) h =
    let parts = both_none (unsent_at site before (length before) x) (unsent_from site (before ++ x ∷ []) xs) h in
    let is = accepted site before x parts.0 in (
      record {
        clear = is.clear;
        untaken = is.untaken;
        own = ap (λ (k : Kind). is_full_own site k x) (sym (kind_is before x)) ∙ is.own;
      },
      subst (λ (pat : Option (List ℕ)). AreLocal site pat xs) (pat_next before x)
          (locals_of site (before ++ x ∷ []) xs parts.1),
    )

filter_grows : (p q : ℕ → Bool) (xs : List ℕ) → ((x : ℕ) → p x ≡ true → q x ≡ true) →
    length (filter p xs) ≤ length (filter q xs)
filter_grows p q [] more = omega arith
filter_grows p q (x ∷ xs) more = by_tests (p x) (q x) (more x) (filter_grows p q xs more)
  where
    by_tests : (a b : Bool) → (a ≡ true → b ≡ true) → length (filter p xs) ≤ length (filter q xs) →
        length (if a then x ∷ filter p xs else filter p xs) ≤ length (if b then x ∷ filter q xs else filter q xs)
    by_tests true true same rest = omega (arith, rest)
    by_tests false true same rest = omega (arith, rest)
    by_tests false false same rest = rest
    by_tests true false same rest = absurd (let e = same refl in cc)

pids_grow : (before more : List (List ℕ)) → length (moved_pids before) ≤ length (moved_pids (before ++ more))
unfolding moved_pids
pids_grow before more =
    filter_grows (has_moved before) (has_moved (before ++ more)) positional_pids (λ pid moved.
    list_any-append (is_moving pid) before more ∙ ap (λ (t : Bool). t || list_any (is_moving pid) more) moved)

room : (before : List (List ℕ)) (x : List ℕ) (xs : List (List ℕ)) →
    length (moved_pids (before ++ x ∷ xs)) ≤ 256 → is_one_too_many before x ≡ false
room before x xs few = elim (cases_Bool (is_placed x)) [
  | inr none ↦ rw none refl
  | inl placed ↦ elim (cases_Bool (has_moved before (pid_of x))) [
    | inl again ↦ rw placed (rw again refl)
    | inr first ↦
        let more : length (moved_pids (before ++ x ∷ [])) ≡ suc (length (moved_pids before)) =
        ap length (moved_first before x placed first) ∙ put_in_length (pid_of x) (moved_pids before) in
        let grows : length (moved_pids (before ++ x ∷ [])) ≤ length (moved_pids (before ++ x ∷ xs)) =
        subst (λ (all : List (List ℕ)). length (moved_pids (before ++ x ∷ [])) ≤ length (moved_pids all))
        (append_assoc before (x ∷ []) xs) (pids_grow (before ++ x ∷ []) xs) in
        let less : nat_le 256 (length (moved_pids before)) ≡ false =
        let below : length (moved_pids before) < 256 = omega (arith, more, grows, few) in
        grind (arith, nat_tests, below) in
        rw placed (rw first (rw less refl))
  ]
]

-- packets of which each breaks no rule but that on PATs can be sent, if there aren't too many of them nor of their PIDs
pub sendable_of : (site : SiteFields) (before xs : List (List ℕ)) → AreLocal site (pat_in_force before) xs →
    length (before ++ xs) < 2 ^ 32 → length (moved_pids (before ++ xs)) ≤ 256 →
    ((k : ℕ) → k < length (before ++ xs) → word_of site k ≤ site.last_word) → unsent_from site before xs ≡ None
unfolding unsent_from
sendable_of site before [] are short few words = refl
sendable_of site before (x ∷ xs) are short few words =
    none_then (unsent_at site before (length before) x) (unsent_from site (before ++ x ∷ []) xs)
    (can_be_sent site before x (record {
      clear = are.0.clear;
      untaken = are.0.untaken;
      own = ap (λ (k : Kind). is_full_own site k x) (kind_is before x) ∙ are.0.own;
      room = room before x xs few;
      short = λ e. absurd (omega (arith, e, short, long));
      word = words (length before) (omega (arith, long));
    }))
    (sendable_of site (before ++ x ∷ []) xs
    (subst (λ (pat : Option (List ℕ)). AreLocal site pat xs) (sym (pat_next before x)) are.1)
    (subst (λ (all : List (List ℕ)). length all < 2 ^ 32) same short)
    (subst (λ (all : List (List ℕ)). length (moved_pids all) ≤ 256) same few)
    (λ k below. words k (subst (λ (all : List (List ℕ)). k < length all) (sym same) below)))
  where
    same : before ++ x ∷ xs ≡ (before ++ x ∷ []) ++ xs
    same = sym (append_assoc before (x ∷ []) xs)

    long : length (before ++ x ∷ xs) ≡ length before + suc (length xs)
    long = length-append before (x ∷ xs)

-- packets one list after the other
pub locals_joined : (site : SiteFields) (pat : Option (List ℕ)) (xs ys : List (List ℕ)) → AreLocal site pat xs →
    AreLocal site (pat_after pat xs) ys → AreLocal site pat (xs ++ ys)
locals_joined site pat [] ys are later = later
locals_joined site pat (x ∷ xs) ys are later = (are.0, locals_joined site (next_pat pat x) xs ys are.1 later)

pub locals_cut : (site : SiteFields) (pat : Option (List ℕ)) (xs ys : List (List ℕ)) → AreLocal site pat (xs ++ ys) →
    AreLocal site pat xs × AreLocal site (pat_after pat xs) ys
locals_cut site pat [] ys are = (tt, are)
locals_cut site pat (x ∷ xs) ys are =
    let rest = locals_cut site (next_pat pat x) xs ys are.1 in ((are.0, rest.0), rest.1)

-- those that stay
pub locals_stay : (site : SiteFields) (p : ℕ) → 0 < p → (pat : Option (List ℕ)) (rows : List Row) →
    AreLocal site pat (packets_in rows) → AreLocal site pat (packets_in (staying p rows))
locals_stay site p some pat [] are = are
locals_stay site p some pat (r ∷ rows) are = elim (cases_Bool (stays p r)) [
  | inl stay ↦ rw stay ((are.0, locals_stay site p some (next_pat pat r.packet) rows are.1))
  | inr goes ↦
      let moves : is_moving p r.packet ≡ true = leaves p r goes in
      rw goes (locals_stay site p some pat rows
      (subst (λ (q : Option (List ℕ)). AreLocal site q (packets_in rows))
      (pat_same pat r.packet (no_pat p r.packet some moves)) are.1))
]
