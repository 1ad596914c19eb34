-- What the ends of the lines tell.
use Rattle.std.proofs.Common.{◌≡◌, ℕ, suc, ◌^◌, ◌<◌, ◌≤◌, Bool, true, false, List, [], ◌∷◌, ◌++◌, refl, ap}
use Rattle.std.proofs.Common.{◌∙◌, length, arith}
use Rattle.std.specs.Prelude.{◌↔◌, All, Any, Contains, get_or, if◌then◌else◌}
use Rattle.std.specs.List.{flat_map, list_any}
use Rattle.sd_tree_keys.specs.Limits.{highest}
use Rattle.sd_tree_keys.specs.declared.set.SetName.{SetName}
use Rattle.sd_tree_keys.specs.SetNames.{IsOfHeight}
use Rattle.sd_tree_keys.specs.Leaves.{is_member}
use Rattle.sd_tree_keys.specs.Names.{names_of_receiver}
use Rattle.sd_book.specs.Commands.{last_period}
use Rattle.sd_cover_tracing.specs.Cover.{cover_of}
use Rattle.sd_cover_tracing.specs.Reach.{Key, IsReached}
use Rattle.sd_cover_tracing.proofs.Own.{member_reaches_together}
use Rattle.sd_law_coalition.specs.Know.{Service, OfTree, PeriodKey, IsKnown, revoked_at, service_sets}
use Rattle.sd_law_coalition.proofs.Known.{secrets_known, periods_known, sets_opened, sets_shut}
use Rattle.sd_command_base.specs.Periods.{set_line, period_line}
use Rattle.sd_run_books.specs.Opens.{open_end, shut_end, pool_end, opened_text, shut_text}

-- the end says `open` just where the test holds
end_is : (b : Bool) → ((if b then open_end else shut_end) ≡ open_end) ↔ (b ≡ true)
end_is true = (λ e. refl, λ e. refl)
end_is false = (
  λ e. let letter : 115 ≡ 111 = ap (λ (xs : List ℕ). get_or xs 1 0) e in absurd (omega (arith, letter)),
  λ e. absurd (cc),
)

-- the line of a set says `open` exactly where the names of the leaves together reach its key
pub open_is_reached : (d : ℕ) (leaves : List ℕ) (name : SetName) → d ≤ highest → All (λ u. u < 2 ^ d) leaves →
    IsOfHeight d name → (pool_end d leaves name ≡ open_end) ↔ IsReached (flat_map (names_of_receiver d) leaves)
    (Key name)
open_is_reached d leaves name low fits height =
    let end = end_is (list_any (is_member d name) leaves) in
    let reached = member_reaches_together d leaves name low fits height in
    (λ e. reached.0 (end.0 e), λ r. end.1 (reached.1 r))

-- to which the messages add nothing
pub open_is_known : (service : Service) (leaves : List ℕ) (name : SetName) → service.height ≤ highest →
    All (λ u. u < 2 ^ service.height) leaves → IsOfHeight service.height name →
    (pool_end service.height leaves name ≡ open_end) ↔ IsKnown service leaves (OfTree (Key name))
open_is_known service leaves name low fits height =
    let told = open_is_reached service.height leaves name low fits height in
    let known = secrets_known service leaves (Key name) low fits in
    (λ e. known.1 (told.0 e), λ k. told.1 (known.0 k))

-- some line says so exactly where the leaves' cards together give the key of the period
pub open_gives_period : (service : Service) (leaves : List ℕ) (q : ℕ) → service.height ≤ highest →
    All (λ u. u < 2 ^ service.height) leaves → q ≤ last_period service.commands →
    Any (λ name. pool_end service.height leaves name ≡ open_end) (service_sets service q)
    ↔ IsKnown service leaves (PeriodKey q)
open_gives_period service leaves q low fits due =
    let some = sets_opened service leaves q low fits in
    let known = periods_known service leaves q low fits due in (
      λ (k, name, within, is, e). known.1 (some.0
          (k, name, within, is, (end_is (list_any (is_member service.height name) leaves)).0 e)),
      λ key. let (k, name, within, is, e) = some.1 (known.0 key) in
          (k, name, within, is, (end_is (list_any (is_member service.height name) leaves)).1 e),
    )

-- lines of which each set has the same end
same_ends : (end : SetName → List ℕ) (last : List ℕ) (sets : List SetName) → All (λ name. end name ≡ last) sets →
    flat_map (λ name. set_line (end name) name) sets ≡ flat_map (λ name. set_line last name) sets
same_ends end last [] all = refl
same_ends end last (name ∷ sets) all =
    ap (λ (e : List ℕ). set_line e name ++ flat_map (λ name. set_line (end name) name) sets) (all 0 name (omega arith))
    ∙ ap (λ (lines : List ℕ). set_line last name ++ lines)
    (same_ends end last sets (λ k other within. all (suc k) other (omega (arith, within))))

-- where all leaves are revoked, each set of the cover is shut
pub all_shut : (service : Service) (leaves : List ℕ) (q : ℕ) → service.height ≤ highest →
    All (Contains (revoked_at service q)) leaves →
    opened_text service.height leaves service.commands q ≡ shut_text service.height service.commands q
unfolding service_sets
all_shut service leaves q low members =
    let d = service.height in
    let sets = cover_of d (revoked_at service q) in
    let shut : All (λ name. pool_end d leaves name ≡ shut_end) sets =
    λ k other within. rw (sets_shut service leaves q low members k other within) refl in
    ap (λ (lines : List ℕ). period_line q (length (revoked_at service q)) (length sets) ++ lines)
    (same_ends (pool_end d leaves) shut_end sets shut)
