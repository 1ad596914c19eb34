-- The fingerprint that a leaf's card gives is that of the site's master.
use Rattle.std.proofs.Common.{◌≡◌, ℕ, List, [], ◌∷◌, ◌++◌, length, take, drop, map, append_assoc, refl, ap, ◌∙◌}
use Rattle.std.specs.List.{concat, flat_map, range_with_len}
use Rattle.std.proofs.lemmas.List.{take_at, drop_at}
use Rattle.sha2.proofs.Facts256.{length-sha256}
use Rattle.sd_tree_keys.specs.Keys.{check_value_of, whole_key_of}
use Rattle.sd_tree_keys.specs.Names.{names_of_receiver, pair_names_under}
use Rattle.sd_site_cards.specs.Files.{check_of, file_body, file_bytes}
use Rattle.sd_site_cards.specs.Secrets.{secret_of}
use Rattle.sd_site_cards.specs.CardFields.{card_bytes, card_head, card_of}
use Rattle.sd_run_books.specs.Fingerprint.{fingerprint_in, fingerprint_of, whole_key_in}

key_long : (master : List ℕ) → length (whole_key_of master) ≡ 32
unfolding whole_key_of
key_long master = length-sha256 (master ++ 0x41 ∷ [])

head_long : (d u ca : ℕ) → length (card_head d u ca) ≡ 12
unfolding card_head
head_long d u ca = refl

-- the bytes between a head and others
between : (n m : ℕ) (head key others : List ℕ) → length head ≡ n → length key ≡ m →
    take m (drop n (head ++ (key ++ others))) ≡ key
between n m head key others head_is key_is =
    ap (take m) (drop_at head (key ++ others) n head_is) ∙ take_at key others m key_is

-- the first secret of a file
first_secret : (head key : List ℕ) (secrets : List (List ℕ)) → length head ≡ 12 → length key ≡ 32 →
    whole_key_in (file_bytes head (key ∷ secrets)) ≡ key
unfolding file_bytes file_body
first_secret head key secrets head_is key_is =
    let check = check_of (head ++ concat (key ∷ secrets)) in
    ap (λ (r : List ℕ). take 32 (drop 12 r)) (append_assoc head (key ++ concat secrets) check
    ∙ ap (λ (r : List ℕ). head ++ r) (append_assoc key (concat secrets) check))
    ∙ between 12 32 head key (concat secrets ++ check) head_is key_is

pub made_fingerprint : (master : List ℕ) (ca d u : ℕ) →
    fingerprint_in (card_bytes (card_of master ca d u)) ≡ fingerprint_of master
unfolding card_bytes card_of names_of_receiver secret_of whole_key_of
made_fingerprint master ca d u =
    ap check_value_of (first_secret (card_head d u ca) (whole_key_of master)
    (map (secret_of master) (flat_map (pair_names_under d u) (range_with_len 0 d))) (head_long d u ca)
    (key_long master))
