-- What stands in a file once its port is closed.
use Rattle.std.proofs.Common.{rules, ◌≡◌, ◌≤◌, ℕ, List, [], Bool, true, false, cond, refl, ap, sym, subst, inl, inr}
use Rattle.std.proofs.Common.{◌∙◌, append-nil}
use Rattle.std.specs.Prelude.{Option, None, Some, IsSome, Ok, Err}
use Rattle.std.specs.Ordering.{nat_cmp, eq_by_cmp}
use Rattle.std.specs.Cmp.Lexicographic.{slice_cmp}
use Rattle.std.specs.FinMap.{get, insert, get-insert, same_map, nat_cmp-IsAntisymmetric, slice_cmp-IsAntisymmetric}
use Rattle.std.specs.Io.KnownBytes.{Appends}
use Rattle.std.proofs.lemmas.Cmp.{nat_list_cmp_total, eq_by_cmp_equiv}
use Rattle.sd_ports.specs.Bytes.{IsPrefix, AppendsPrefix}
use Rattle.sd_ports.specs.Files.{Files, ClosesFile, LeavesPrefix, IsFresh, IsNotThere, IsThere, WritesFile, with_bytes}
use Rattle.sd_ports.specs.Files.{WritesNewFile}
use Rattle.sd_ports.specs.declared.file.New.TheVariants.{Made}
use Rattle.sd_ports.specs.declared.file.FileFault.TheVariants.{Failed}
use Rattle.sd_ports.proofs.Starts.{prefix_of_prefix}
use Rattle.sd_base.specs.Count.{with_added}

-- of two choices by the same test the second is idle
chosen_twice : (b : Bool) (x y : Option (List ℕ)) (o : Option (List ℕ)) → cond b x (cond b y o) ≡ cond b x o
chosen_twice true x y o = refl
chosen_twice false x y o = refl

-- of two files put under a name the second stays
insert_twice : (m : Files) (name a b : List ℕ) → insert (insert m name a) name b ≡ insert m name b
insert_twice m name a b = same_map nat_list_cmp_total (slice_cmp-IsAntisymmetric nat_cmp-IsAntisymmetric) _ _ (λ q.
    get-insert nat_list_cmp_total (insert m name a) name b q
    ∙ ap (cond (eq_by_cmp (slice_cmp nat_cmp) q name) (Some b)) (get-insert nat_list_cmp_total m name a q)
    ∙ chosen_twice (eq_by_cmp (slice_cmp nat_cmp) q name) (Some b) (Some a) (get m q)
    ∙ sym (get-insert nat_list_cmp_total m name b q))

-- a file that was put under a name is there
pub there_after : (a b : Option Files) (name bytes : List ℕ) → b ≡ with_bytes a name bytes → IsThere b name
there_after None b name bytes e = subst (λ c. IsThere c name) (sym e) tt
there_after (Some m) b name bytes e =
    let found : get (insert m name bytes) name ≡ Some bytes = get-insert nat_list_cmp_total m name bytes name
    ∙ ap (λ c. cond c (Some bytes) (get m name)) ((eq_by_cmp_equiv nat_list_cmp_total).refl name) in
    subst (λ c. IsThere c name) (sym e) (subst (λ o. IsSome o) (sym found) refl)

-- what a port of told files took is what its file has
told_whole : (m : Files) (c : Option Files) (name bytes : List ℕ) (k : Option (List ℕ)) → Appends (Some []) k bytes
    → ClosesFile (Some (insert m name [])) c name k → c ≡ Some (insert m name bytes)
told_whole m c name bytes None w p = absurd w
told_whole m c name bytes (Some y) w p = p ∙ ap (λ (r : List ℕ). Some (insert (insert m name []) name r)) w
    ∙ ap (λ (r : Files). Some r) (insert_twice m name [] bytes)

-- a port that took these bytes and was closed leaves them
pub closed_whole : (a b c : Option Files) (name bytes : List ℕ) (h k : Option (List ℕ)) → b ≡ with_bytes a name []
    → IsFresh a h → Appends h k bytes → ClosesFile b c name k → c ≡ with_bytes a name bytes
closed_whole None b c name bytes h k e f w p = subst (λ (b : Option Files). ClosesFile b c name k) e p
closed_whole (Some m) b c name bytes h k e f w p =
    told_whole m c name bytes k (subst (λ (h : Option (List ℕ)). Appends h k bytes) f w)
    (subst (λ (b : Option Files). ClosesFile b c name k) e p)

-- a prefix of what a port of told files took is what its file has
told_short : (m : Files) (c : Option Files) (name bytes : List ℕ) (k : Option (List ℕ))
    → AppendsPrefix (Some []) k bytes → LeavesPrefix (Some (insert m name [])) c name k → (prefix : List ℕ)
    × IsPrefix prefix bytes × (c ≡ Some (insert m name prefix))
told_short m c name bytes None w p = absurd w.2
told_short m c name bytes (Some y) w p = (
  p.0,
  prefix_of_prefix p.0 w.0 bytes (subst (λ (r : List ℕ). IsPrefix p.0 r) w.2 p.1) w.1,
  p.2
      ∙ ap (λ (r : Files). Some r) (insert_twice m name [] p.0),
)

-- a port that took a prefix of these bytes and was closed leaves a prefix of them, and so does one that was cut off
pub cut_short : (a b c : Option Files) (name bytes : List ℕ) (h k : Option (List ℕ)) → b ≡ with_bytes a name []
    → IsFresh a h → AppendsPrefix h k bytes → LeavesPrefix b c name k → (prefix : List ℕ) × IsPrefix prefix bytes
    × (c ≡ with_bytes a name prefix)
cut_short None b c name bytes h k e f w p =
    ([], (bytes, refl), subst (λ (b : Option Files). LeavesPrefix b c name k) e p)
cut_short (Some m) b c name bytes h k e f w p =
    told_short m c name bytes k (subst (λ (h : Option (List ℕ)). AppendsPrefix h k bytes) f w)
    (subst (λ (b : Option Files). LeavesPrefix b c name k) e p)

-- a port that took all of these bytes and was closed has written the file
pub written_whole : (a b c : Option Files) (i j k : ℕ) (name bytes : List ℕ) (h held : Option (List ℕ))
    → b ≡ with_bytes a name [] → IsFresh a h → Appends h held bytes → ClosesFile b c name held → j ≡ with_added i 1 →
    i ≤ j
    → k ≡ j → WritesFile {T = Unit {0}} a c i k name bytes (Ok tt)
written_whole a b c i j k name bytes h held e f w p m l n = record {
  later = subst (λ (x : ℕ). i ≤ x) (sym n) l;
  made = (closed_whole a b c name bytes h held e f w p, n ∙ m);
  failed = search rules;
  missing = search rules;
  no_memory = search rules;
  fits = search rules;
}

-- a port that took a prefix of these bytes and was closed leaves a prefix of them in a file that was made
pub written_prefix : (a b c : Option Files) (i j k : ℕ) (name bytes : List ℕ) (h held : Option (List ℕ))
    → b ≡ with_bytes a name [] → IsFresh a h → AppendsPrefix h held bytes → LeavesPrefix b c name held
    → j ≡ with_added i 1 → i ≤ j → k ≡ j → WritesFile {T = Unit {0}} a c i k name bytes (Err Failed)
written_prefix a b c i j k name bytes h held e f w p m l n =
    let q = cut_short a b c name bytes h held e f w p in
    record {
      later = subst (λ (x : ℕ). i ≤ x) (sym n) l;
      made = tt;
      failed = λ _. inr (q.0, q.1, (q.2, n ∙ m));
      missing = search rules;
      no_memory = search rules;
      fits = search rules;
    }

-- a port that took all of them and whose closing failed does, too
pub written_cut : (a b c : Option Files) (i j k : ℕ) (name bytes : List ℕ) (h held : Option (List ℕ))
    → b ≡ with_bytes a name [] → IsFresh a h → Appends h held bytes → LeavesPrefix b c name held → j ≡ with_added i 1
    → i ≤ j → k ≡ j → WritesFile {T = Unit {0}} a c i k name bytes (Err Failed)
written_cut a b c i j k name bytes h held e f w p m l n =
    written_prefix a b c i j k name bytes h held e f (bytes, ([], append-nil bytes), w) p m l n

-- a file that wasn't there and was written whole was made new
pub made_new : (a c : Option Files) (i k : ℕ) (name bytes : List ℕ) → IsNotThere a name
    → WritesFile {T = Unit {0}} a c i k name bytes (Ok tt) → WritesNewFile a c i k name bytes (Ok Made)
made_new a c i k name bytes absent wrote = record {
  later = wrote.later;
  made = λ _. (absent, wrote.made);
  there = λ e. absurd (cc);
  failed = search rules;
  missing = search rules;
  no_memory = search rules;
  fits = search rules;
}

-- one that wasn't there and of which the device failed has a prefix, or wasn't made
pub failed_new : (a c : Option Files) (i k : ℕ) (name bytes : List ℕ) → IsNotThere a name
    → WritesFile {T = Unit {0}} a c i k name bytes (Err Failed) → WritesNewFile a c i k name bytes (Err Failed)
failed_new a c i k name bytes absent wrote = record {
  later = wrote.later;
  made = λ e. absurd (cc);
  there = λ e. absurd (cc);
  failed = λ e. elim (wrote.failed refl) [ inl unmade ↦ inl unmade | inr short ↦ inr (absent, short) ];
  missing = search rules;
  no_memory = search rules;
  fits = search rules;
}
