-- Commands of a book, and the changes that they make.
use Rattle.std.proofs.Common.{arith, ◌≡◌, ℕ, suc, ◌+◌, ◌-◌, ◌^◌, ◌<◌, List, [], ◌∷◌, ◌++◌, length}
use Rattle.std.proofs.Common.{length-append, refl, ap, sym, ◌∙◌, subst}
use Rattle.std.proofs.lemmas.List.Elements.{All-contains}
use Rattle.sd_base.specs.Types.{Packet, Packets}
use Rattle.sd_tree_keys.specs.Leaves.{leaves, with_leaf, without_leaf}
use Rattle.sd_book.specs.declared.command.Command.{Command}
use Rattle.sd_book.specs.declared.command.Command.TheVariants.{Subscribe, Revoke, Period}
use Rattle.sd_book.specs.Commands.{revoked, after_commands, commands_until}
use Rattle.sd_book.proofs.Followed.{all_follow}
use Rattle.sd_book.proofs.Replays.{none_revoked}
use Rattle.sd_book.proofs.Revocations.{below}
use Rattle.sd_cover_tracing.specs.Changes.{revoked_with, last_revoked}
use Rattle.sd_cover_tracing.specs.Chains.{IsChainCover}
use Rattle.sd_cover_tracing.specs.Cover.{cover_of}
use Rattle.sd_cover_tracing.proofs.Changed.{last_change_decides}
use Rattle.sd_cover_tracing.proofs.There.{list_is_cover}
use Rattle.sd_spec.specs.Plan.{Plan, period_of, sets_at}
use Rattle.sd_head.specs.declared.head.Head.{Head}
use Rattle.sd_head.specs.declared.entitling.Entitling.{Entitling}
use Rattle.sd_head.specs.Schedule.{IsPeriodAt}
use Rattle.sd_head.specs.Staged.{IsHeadEndAfter, head_closes}
use Rattle.sd_law_field.specs.Changed.{changes_of}

-- an index after the changes of commands has what it has after the commands
pub changes_are : (d : ℕ) (leaves : List ℕ) (commands : List Command) →
    after_commands d leaves commands ≡ revoked_with d leaves (changes_of commands)
changes_are d leaves [] = refl
changes_are d leaves (Subscribe u ∷ commands) = changes_are d (without_leaf u leaves) commands
changes_are d leaves (Revoke u ∷ commands) = changes_are d (with_leaf d u leaves) commands
changes_are d leaves (Period ∷ commands) = changes_are d leaves commands

-- and so of the revoked leaves of a period
pub revoked_are : (d : ℕ) (commands : List Command) (q : ℕ) →
    revoked d commands q ≡ revoked_with d [] (changes_of (commands_until q commands))
revoked_are d commands q =
    let until : List Command = commands_until q commands in
    sym (all_follow d [] until)
    ∙ (ap (λ (leaves : List ℕ). after_commands d leaves until) (none_revoked 0 (2 ^ d))
    ∙ changes_are d [] until)

-- the sets of a period are a chain cover of the leaves whose last change is a revocation
pub sets_are_last : (plan : Plan) (q : ℕ) → plan.site.height < 32 →
    IsChainCover plan.site.height (last_revoked plan.site.height (changes_of (commands_until q plan.commands)))
    (sets_at plan q)
unfolding sets_at
sets_are_last plan q low =
    let d : ℕ = plan.site.height in
    let gone : List ℕ = revoked d plan.commands q in
    subst (λ (leaves : List ℕ). IsChainCover d leaves (cover_of d gone))
    (revoked_are d plan.commands q ∙ last_change_decides d (changes_of (commands_until q plan.commands)))
    (list_is_cover d gone low (λ u there. All-contains (λ w. w < 2 ^ d) gone u (below d plan.commands q) there))

-- the index of a head end
of_period : (plan : Plan) (k : ℕ) (entitling : Entitling) → IsPeriodAt plan (suc k) entitling →
    cover_of entitling.index.height entitling.index.revoked ≡ sets_at plan (period_of plan k)
unfolding sets_at period_of
of_period plan k entitling of =
    let one : period_of plan k + 1 ≡ suc (period_of plan k) = omega arith in
    let begun = of.period.begun in
    rw (begun.height, begun.revoked_are, one) refl

pub index_after : (plan : Plan) (before : Packets) (packet : Packet) (head : Head) →
    IsHeadEndAfter plan (before ++ packet ∷ []) head →
    cover_of head.entitling.index.height head.entitling.index.revoked ≡ sets_at plan (period_of plan (length before))
index_after plan before packet head after =
    let long = length-append before (packet ∷ []) in
    let one : length (before ++ packet ∷ []) ≡ suc (length before) = omega (arith, long) in
    of_period plan (length before) head.entitling
    (subst (λ (k : ℕ). IsPeriodAt plan k head.entitling) one after.entitled)

pub index_at_end : (plan : Plan) (before : Packets) (head closed : Head) (bytes : List ℕ) (steps : ℕ) →
    IsHeadEndAfter plan before head → head_closes head closed bytes steps →
    cover_of plan.site.height closed.entitling.index.revoked ≡ sets_at plan (period_of plan (length before - 1))
unfolding sets_at
index_at_end plan before head closed bytes steps after ends = ap (cover_of plan.site.height) (ends plan before after).1
