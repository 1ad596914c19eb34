use Rattle.std.proofs.Common.{arith, ◌≡◌, ℕ, zero, suc, ◌+◌, ◌==◌, ◌<◌, ◌≤◌, ◌^◌, List, [], ◌∷◌, ◌++◌, length, get_or}
use Rattle.std.proofs.Common.{set, replicate, Bool, true, false, cond, refl, ap, sym, ◌∙◌, map, Option, Some, reverse}
use Rattle.std.proofs.Common.{◌-◌, nat_lt, Ok, Err, take, drop, subst, append_assoc}
use Rattle.std.proofs.lemmas.Grind.{common_steps}
use Rattle.std.proofs.lemmas.List.{reverse-append, take_more, get_or_default}
use Rattle.std.proofs.lemmas.List.Sums.{length-filter, count_by-le-length}
use Rattle.std.proofs.Math.Numerals.{add-one}
use Rattle.std.proofs.Math.Pow.{pow_mono}
use Rattle.std.proofs.Math.Seq.{drop-cons}
use Rattle.std.specs.Int.{from_bool}
use Rattle.std.specs.List.{range_with_len, count_by, filter, find}
use Rattle.std.specs.Option.{option_map_or}
use Rattle.sd_tree_keys.specs.Leaves.{leaves}
use Rattle.sd_book.specs.declared.command.Command.{Command}
use Rattle.sd_book.specs.declared.command.Command.TheVariants.{Subscribe, Revoke, Period}
use Rattle.sd_book.specs.Commands.{is_on, is_revoke, is_revoked, is_period, last_on, last_period, revoked_after}
use Rattle.sd_book.specs.Tally.{IsTally, marked_from}
use Rattle.sd_tree_keys.specs.Limits.{most_revoked}
use Rattle.sd_book.specs.declared.fault.BookFault.TheVariants.{Limit}
use Rattle.sd_book.specs.declared.fault.BookLimit.TheVariants.{Revoked}
use Rattle.sd_book.specs.Text.{period_end_check}

-- a write changes the number of marks by the mark that comes and the one that goes
pub counted_at_write : (marks : List Bool) (i : ℕ) (mark : Bool) → i < length marks →
    count_by (λ b. b) (set marks i mark) + cond (get_or marks i false) 1 0 ≡ count_by (λ b. b) marks + cond mark 1 0
counted_at_write [] i mark h = absurd (omega arith)
counted_at_write (b ∷ marks) zero mark h = grind (arith, common_steps)
counted_at_write (b ∷ marks) (suc i) mark h = grind (arith, common_steps, counted_at_write marks i mark (omega arith))

-- the number of marks after a write
pub counted_after_write : (marks : List Bool) (i revoked more less : ℕ) (mark old : Bool) → i < length marks →
    old ≡ get_or marks i old → revoked ≡ count_by (λ b. b) marks → more ≡ from_bool mark → less ≡ from_bool old →
    (less ≤ revoked + more) × (revoked + more - less ≡ count_by (λ b. b) (set marks i mark))
counted_after_write marks i revoked more less mark old h at counted comes goes =
    let here : get_or marks i false ≡ old = get_or_default marks i false old h ∙ sym at in
    let sum : count_by (λ b. b) (set marks i mark) + less ≡ revoked + more =
    grind (arith, common_steps, counted_at_write marks i mark h) in
    (omega arith, omega arith)

-- no mark is set at first
pub none_marked : (n : ℕ) → count_by (λ (b : Bool). b) (replicate n false) ≡ 0
none_marked zero = refl
none_marked (suc n) = none_marked n

-- tests that agree from a on give the same marks there
pub same_marks : (f g : ℕ → Bool) (a n : ℕ) → ((x : ℕ) → a ≤ x → f x ≡ g x) → map f (range_with_len a n)
    ≡ map g (range_with_len a n)
same_marks f g a zero h = refl
same_marks f g a (suc n) h =
    let here : f a ≡ g a = h a (omega arith) in
    let rest : map f (range_with_len (a + 1) n) ≡ map g (range_with_len (a + 1) n) = same_marks f g (a + 1) n
    (λ x m. h x (omega arith)) in
    cc

-- a test that differs from another at u alone gives its marks with one written
one_written : (f g : ℕ → Bool) (u : ℕ) (mark : Bool) → ((x : ℕ) → f x ≡ cond (u == x) mark (g x)) → (a n i : ℕ) →
    a + i ≡ u → map f (range_with_len a n) ≡ set (map g (range_with_len a n)) i mark
one_written f g u mark h a zero i e = refl
one_written f g u mark h a (suc n) zero e =
    let here : f a ≡ mark = grind (arith, common_steps, h a) in
    let rest : map f (range_with_len (a + 1) n) ≡ map g (range_with_len (a + 1) n) = same_marks f g (a + 1) n
    (λ x m. grind (arith, common_steps, h x)) in
    cc
one_written f g u mark h a (suc n) (suc i) e =
    let here : f a ≡ g a = grind (arith, common_steps, h a) in
    let rest : map f (range_with_len (a + 1) n) ≡ set (map g (range_with_len (a + 1) n)) i mark = one_written f g u mark
    h (a + 1) n i (omega arith) in
    cc

-- counting what passes is counting marks
counted_marks : (p : ℕ → Bool) (xs : List ℕ) → count_by p xs ≡ count_by (λ b. b) (map p xs)
counted_marks p [] = refl
counted_marks p (x ∷ xs) = grind (arith, common_steps, counted_marks p xs)

-- the number of revoked leaves is the number of marks
number_revoked : (d : ℕ) (commands : List Command) → length (revoked_after d commands) ≡ count_by
    (λ b. b) (map (is_revoked commands) (leaves d))
number_revoked d commands = length-filter (is_revoked commands) (leaves d) ∙ counted_marks (is_revoked commands)
    (leaves d)

-- no leaf is revoked at first
unmarked : (a n : ℕ) → replicate n false ≡ map (is_revoked []) (range_with_len a n)
unfolding last_on
unmarked a zero = refl
unmarked a (suc n) = ap (λ (marks : List Bool). false ∷ marks) (unmarked (a + 1) n)

-- the tally of no command
pub tally_of_none : (d : ℕ) → IsTally d [] (replicate (2 ^ d) false) 0 0
tally_of_none d =
    record {
      marks = unmarked 0 (2 ^ d);
      revoked = sym (number_revoked d [] ∙ ap (count_by (λ (b : Bool). b)) (sym (unmarked 0 (2 ^ d))) ∙
          none_marked (2 ^ d));
      period = refl;
    }

-- by cases on whether the newest is on the leaf
newest_decides : (b : Bool) (command : Command) (before : Option Command) →
    option_map_or is_revoke (cond b (Some command) before) false ≡ cond b (is_revoke command)
    (option_map_or is_revoke before false)
newest_decides true command before = refl
newest_decides false command before = refl

-- the newest command decides, where it is on the leaf
pub revoked_more : (commands : List Command) (command : Command) (leaf : ℕ) → is_revoked (commands ++ command ∷ []) leaf
    ≡ cond (is_on leaf command) (is_revoke command) (is_revoked commands leaf)
unfolding last_on
revoked_more commands command leaf =
    rw (reverse-append commands (command ∷ []))
    (newest_decides (is_on leaf command) command (find (is_on leaf) (reverse commands)))

-- one command more
pub period_more : (commands : List Command) (command : Command) → last_period (commands ++ command ∷ [])
    ≡ last_period commands + cond (is_period command) 1 0
period_more [] command = grind (arith, common_steps)
period_more (c ∷ commands) command = grind (arith, common_steps, period_more commands command)

-- a write of the mark at u
tally_with_mark : (d : ℕ) (commands : List Command) (command : Command) (u : ℕ) (mark : Bool) (marks new : List Bool)
    (revoked revoked_new period : ℕ) → ((x : ℕ) → is_on x command ≡ (u == x)) → is_revoke command ≡ mark →
    is_period command ≡ false → IsTally d commands marks revoked period → new ≡ set marks u mark →
    revoked_new ≡ count_by (λ b. b) new → IsTally d (commands ++ command ∷ []) new revoked_new period
tally_with_mark d commands command u mark marks new revoked revoked_new period on revokes same tally written counted =
    let test : (x : ℕ) → is_revoked (commands ++ command ∷ []) x ≡ cond (u == x) mark (is_revoked commands x) = λ x.
    revoked_more commands command x ∙ rw (on x) (rw revokes refl) in
    let all : map (is_revoked (commands ++ command ∷ [])) (leaves d) ≡ set (map (is_revoked commands) (leaves d)) u
    mark = one_written _ _ u mark test 0 (2 ^ d) u (omega arith) in
    let marked : new ≡ map (is_revoked (commands ++ command ∷ [])) (leaves d) = written ∙
    ap (λ (m : List Bool). set m u mark) tally.marks ∙ sym all in
    record {
      marks = marked;
      revoked = counted ∙ ap (count_by (λ (b : Bool). b)) marked ∙ sym (number_revoked d (commands ++ command ∷ []));
      period = grind (arith, common_steps, period_more commands command, tally.period);
    }

-- a leaf that is subscribed
pub tally_with_subscribe : (d : ℕ) (commands : List Command) (u : ℕ) (marks new : List Bool)
    (revoked revoked_new period : ℕ) → IsTally d commands marks revoked period → new ≡ set marks u false →
    revoked_new ≡ count_by (λ b. b) new → IsTally d (commands ++ Subscribe u ∷ []) new revoked_new period
tally_with_subscribe d commands u marks new revoked revoked_new period = tally_with_mark d commands (Subscribe u) u
    false marks new revoked revoked_new period (λ x. refl) refl refl

-- a leaf that is revoked
pub tally_with_revoke : (d : ℕ) (commands : List Command) (u : ℕ) (marks new : List Bool)
    (revoked revoked_new period : ℕ) → IsTally d commands marks revoked period → new ≡ set marks u true →
    revoked_new ≡ count_by (λ b. b) new → IsTally d (commands ++ Revoke u ∷ []) new revoked_new period
tally_with_revoke d commands u marks new revoked revoked_new period = tally_with_mark d commands (Revoke u) u true marks
    new revoked revoked_new period (λ x. refl) refl refl

-- no more marks are set than there are leaves
pub few_marked : (d : ℕ) (marks : List Bool) → d ≤ 20 → length marks ≡ 2 ^ d → count_by (λ b. b) marks ≤ 2 ^ 20
few_marked d marks small full =
    let within : 2 ^ d ≤ 2 ^ 20 = pow_mono small in
    omega (arith, count_by-le-length (λ b. b) marks)

-- a Period marks nothing
pub tally_with_period : (d : ℕ) (commands : List Command) (marks : List Bool) (revoked period : ℕ) →
    IsTally d commands marks revoked period → IsTally d (commands ++ Period ∷ []) marks revoked (period + 1)
tally_with_period d commands marks revoked period tally =
    let all : map (is_revoked (commands ++ Period ∷ [])) (leaves d) ≡ map (is_revoked commands) (leaves d) = same_marks
    _ _ 0 (2 ^ d) (λ x m. revoked_more commands Period x) in
    record {
      marks = tally.marks ∙ sym all;
      revoked = tally.revoked ∙ number_revoked d commands ∙ ap (count_by (λ (b : Bool). b)) (sym all) ∙
          sym (number_revoked d (commands ++ Period ∷ []));
      period = grind (arith, common_steps, period_more commands Period, tally.period);
    }

-- the tally of one command more of a list
pub tally_one_more : (d h : ℕ) (commands : List Command) (i : ℕ) (command : Command) (marks : List Bool)
    (revoked period : ℕ) → h ≡ d → i < length commands → get_or commands i command ≡ command →
    IsTally h (take i commands ++ command ∷ []) marks revoked period →
    IsTally d (take (i + 1) commands) marks revoked period
tally_one_more d h commands i command marks revoked period height low at tally =
    let longer : take i commands ++ command ∷ [] ≡ take (i + 1) commands =
    sym (take_more commands i command low ∙ ap (λ (c : Command). take i commands ++ c ∷ []) at) in
    subst (λ (cs : List Command). IsTally d cs marks revoked period) longer
    (subst (λ (k : ℕ). IsTally k (take i commands ++ command ∷ []) marks revoked period) height tally)

-- the leaves so far and those of the marks that are left are all, also after a mark that is set
pub leaf_more : (marks : List Bool) (leaves all : List ℕ) (u leaf : ℕ) (mark : Bool) → u < length marks →
    mark ≡ get_or marks u mark → mark ≡ true → leaf ≡ u → leaves ++ marked_from u (drop u marks) ≡ all →
    (leaves ++ leaf ∷ []) ++ marked_from (u + 1) (drop (u + 1) marks) ≡ all
leaf_more marks leaves all u leaf mark inside at set is before =
    let next : marked_from u (drop u marks) ≡ u ∷ marked_from (u + 1) (drop (u + 1) marks) =
    rw (drop-cons marks u mark inside, ← at, set, add-one u) refl in
    rw (is, append_assoc leaves (u ∷ []) (marked_from (u + 1) (drop (u + 1) marks))) (rw next at before)

-- and after one that isn't
pub no_leaf_more : (marks : List Bool) (leaves all : List ℕ) (u : ℕ) (mark : Bool) → u < length marks →
    mark ≡ get_or marks u mark → mark ≡ false → leaves ++ marked_from u (drop u marks) ≡ all →
    leaves ++ marked_from (u + 1) (drop (u + 1) marks) ≡ all
no_leaf_more marks leaves all u mark inside at unset before =
    let next : marked_from u (drop u marks) ≡ marked_from (u + 1) (drop (u + 1) marks) =
    rw (drop-cons marks u mark inside, ← at, unset, add-one u) refl in
    rw next at before

-- the marked leaves are those that pass
pub marked_leaves : (p : ℕ → Bool) (a n : ℕ) → marked_from a (map p (range_with_len a n))
    ≡ filter p (range_with_len a n)
marked_leaves p a zero = refl
marked_leaves p a (suc n) = ap (λ (rest : List ℕ). cond (p a) (a ∷ rest) rest) (marked_leaves p (a + 1) n)

-- the marked leaves of a tally are the revoked ones
pub tally_leaves : (d : ℕ) (commands : List Command) (marks : List Bool) (revoked period : ℕ) →
    IsTally d commands marks revoked period → marked_from 0 marks ≡ revoked_after d commands
tally_leaves d commands marks revoked period tally = ap (marked_from 0) tally.marks ∙
    marked_leaves (is_revoked commands) 0 (2 ^ d)

-- a period may end by the number of its tally
pub end_by_tally : (d : ℕ) (commands : List Command) (marks : List Bool) (revoked period : ℕ) →
    IsTally d commands marks revoked period → revoked ≤ most_revoked
    → period_end_check {A = Unit {0}} d commands tt ≡ Ok tt
end_by_tally d commands marks revoked period tally few =
    let ends : nat_lt most_revoked (length (revoked_after d commands)) ≡ false = grind
    (arith, common_steps, tally.revoked) in
    rw ends refl

-- or may not
pub crowd_by_tally : (d : ℕ) (commands : List Command) (marks : List Bool) (revoked period : ℕ) →
    IsTally d commands marks revoked period → most_revoked < revoked
    → period_end_check {A = Unit {0}} d commands tt ≡ Err (Limit (Revoked period))
crowd_by_tally d commands marks revoked period tally many =
    let ends : nat_lt most_revoked (length (revoked_after d commands))
    ≡ true = grind (arith, common_steps, tally.revoked) in
    rw (ends, tally.period) refl
