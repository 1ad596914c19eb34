-- A site file that is torn makes no site.
use Rattle.std.proofs.Common.{arith, ◌≡◌, ◌≢◌, ℕ, ◌+◌, ◌<◌, ◌≤◌, ◌==◌, ◌||◌, Bool, true, false, cond, List, [], ◌∷◌}
use Rattle.std.proofs.Common.{◌++◌}
use Rattle.std.proofs.Common.{length, take, Option, None, Result, Ok, Err, refl, sym, ap, ◌∙◌, ◌⊎◌, inl, inr}
use Rattle.std.proofs.lemmas.Bool.{and_parts, eqb-true, ltb-true}
use Rattle.std.proofs.lemmas.List.{append-nil, take_at, length-append}
use Rattle.std.proofs.lemmas.List.Sums.{sum_by-append}
use Rattle.std.specs.Result.{result_unwrap_or}
use Rattle.sd_base.specs.Lines.{lines_of, onto_first_line}
use Rattle.sd_ports.specs.Bytes.{IsPrefix}
use Rattle.sd_site_cards.specs.SiteFields.{SiteFields}
use Rattle.sd_site_cards.specs.Text.{◌>>=◌, site_of, site_on, book_line_of}
use Rattle.sd_site_cards.specs.Written.{IsSayable, site_text, are_lines_whole, is_first_site, site_of_chain, none_fewer}
use Rattle.sd_site_cards.specs.declared.book_line.BookLine.{BookLine}
use Rattle.sd_site_cards.specs.declared.site_fault.SiteFault.{SiteFault}
use Rattle.sd_site_cards.specs.declared.site_fault.SiteFault.TheVariants.{Short}
use Rattle.sd_law_formats.proofs.WrittenSites.{feeds, site_lines, lines_said, lines_written}

-- the line feeds of a text with a byte before it
feed_more : (byte : ℕ) (bytes : List ℕ) → feeds (byte ∷ bytes) ≡ cond (byte == 10) 1 0 + feeds bytes
feed_more byte bytes = omega (arith, sum_by-append (λ byte. cond (byte == 10) 1 0) (byte ∷ []) bytes)

-- a text that is not empty has a line
some_line : (byte : ℕ) (bytes : List ℕ) → 0 < length (lines_of (byte ∷ bytes))
some_line byte bytes = by_feed (byte == 10) (lines_of bytes)
  where
    by_feed : (feed : Bool) (lines : List (List ℕ)) → 0 < length (cond feed ([] ∷ lines) (onto_first_line byte lines))
    by_feed true lines = omega arith
    by_feed false [] = omega arith
    by_feed false (line ∷ lines) = omega arith

-- a text with a line feed has a line
fed_line : (bytes : List ℕ) → 0 < feeds bytes → 0 < length (lines_of bytes)
fed_line [] some = absurd (omega (arith, some))
fed_line (byte ∷ bytes) some = some_line byte bytes

-- if each line of a text has its line feed, what follows has lines of its own
pub lines_follow : (text rest : List ℕ) → length (lines_of text) ≡ feeds text →
    lines_of (text ++ rest) ≡ lines_of text ++ lines_of rest
lines_follow [] rest e = refl
lines_follow (byte ∷ bytes) rest e = by_feed (byte == 10) (e ∙ feed_more byte bytes) (lines_follow bytes rest)
  where
    by_lines : (lines : List (List ℕ)) → lines_of bytes ≡ lines → length (onto_first_line byte lines) ≡ feeds bytes →
        (length lines ≡ feeds bytes → lines_of (bytes ++ rest) ≡ lines ++ lines_of rest) →
        onto_first_line byte (lines_of (bytes ++ rest)) ≡ onto_first_line byte lines ++ lines_of rest
    by_lines [] none count follow =
        absurd (omega (arith, count, fed_line bytes (omega (arith, count)), ap (λ (r : List (List ℕ)). length r) none))
    by_lines (line ∷ lines) is count follow = ap (onto_first_line byte) (follow (omega (arith, count)))

    by_feed : (feed : Bool) →
        length (cond feed ([] ∷ lines_of bytes) (onto_first_line byte (lines_of bytes))) ≡ cond feed 1 0 + feeds bytes →
        (length (lines_of bytes) ≡ feeds bytes → lines_of (bytes ++ rest) ≡ lines_of bytes ++ lines_of rest) →
        cond feed ([] ∷ lines_of (bytes ++ rest)) (onto_first_line byte (lines_of (bytes ++ rest)))
        ≡ cond feed ([] ∷ lines_of bytes) (onto_first_line byte (lines_of bytes)) ++ lines_of rest
    by_feed true count follow = ap (λ (r : List (List ℕ)). [] ∷ r) (follow (omega (arith, count)))
    by_feed false count follow = by_lines (lines_of bytes) refl (omega (arith, count)) follow

-- the lines of a text of whole lines are the first of a longer text's
lines_first : (n : ℕ) (text rest : List ℕ) → are_lines_whole n text ≡ true →
    (length (lines_of text) ≡ n) × (lines_of (text ++ rest) ≡ lines_of text ++ lines_of rest)
lines_first n text rest whole =
    let parts = and_parts _ _ whole in
    let lines = eqb-true _ _ parts.0 in
    let fed = eqb-true _ _ parts.1 in
    (lines, lines_follow text rest (lines ∙ sym fed))

-- a proper prefix of a site's file is not thirteen lines
not_thirteen : (site : SiteFields) (book : BookLine) (torn : List ℕ) (byte : ℕ) (rest : List ℕ) →
    IsSayable site book → torn ++ byte ∷ rest ≡ site_text site book → are_lines_whole 13 torn ≡ true → ⊥
not_thirteen site book torn byte rest is whole thirteen =
    let cut = lines_first 13 torn (byte ∷ rest) thirteen in
    let all = ap (λ (r : List (List ℕ)). length r) (sym cut.1 ∙ (ap lines_of whole ∙ lines_written site book is)) in
    omega (arith, cut.0, all, length-append (lines_of torn) (lines_of (byte ∷ rest)), some_line byte rest)

-- one that is twelve lines says the site
twelve_say : (site : SiteFields) (book : BookLine) (torn rest : List ℕ) → IsSayable site book →
    torn ++ rest ≡ site_text site book → are_lines_whole 12 torn ≡ true → site_of torn ≡ Ok site
unfolding site_on
twelve_say site book torn rest is whole twelve =
    let cut = lines_first 12 torn rest twelve in
    let lines : lines_of torn ≡ site_lines site [] =
    sym (take_at (lines_of torn) (lines_of rest) 12 cut.0)
    ∙ ap (take 12) (sym cut.1 ∙ (ap lines_of whole ∙ lines_written site book is)) in
    rw (lines, lines_said site book [] None is refl) refl

-- a file that is taken is good, and is thirteen lines or a first site's
taken_parts : (said : Result SiteFields SiteFault) (line : Option BookLine) (fewer : SiteFields → Bool)
    (thirteen : Bool) (other : SiteFields × Option BookLine) →
    (said >>= λ site. cond (thirteen || fewer site) (Ok (site, line)) (Err Short)) ≡ Ok other →
    (site : SiteFields) × (said ≡ Ok site) × ((thirteen ≡ true) ⊎ (fewer site ≡ true))
taken_parts (Err fault) line fewer thirteen other e = absurd cc
taken_parts (Ok site) line fewer true other e = (site, refl, inl refl)
taken_parts (Ok site) line fewer false other e = (site, refl, inr (by_fewer (fewer site) e))
  where
    by_fewer : (b : Bool) → cond b (Ok (site, line)) (Err Short) ≡ Ok other → b ≡ true
    by_fewer true f = refl
    by_fewer false f = absurd cc

-- a proper prefix of a site's file makes no site
pub torn_short : (site : SiteFields) (book : BookLine) (torn : List ℕ) (other : SiteFields × Option BookLine) →
    IsSayable site book → site.first_word ≤ site.last_word → (byte : ℕ) (rest : List ℕ) →
    torn ++ byte ∷ rest ≡ site_text site book → site_of_chain is_first_site torn ≡ Ok other → ⊥
unfolding site_of_chain
torn_short site book torn other is words byte rest whole e =
    let parts = taken_parts (site_of torn) (book_line_of torn) (is_first_site torn) (are_lines_whole 13 torn) other e in
    elim parts.2 [
      | inl thirteen ↦ not_thirteen site book torn byte rest is whole thirteen
      | inr first ↦
          let both = and_parts _ _ first in
          let said = twelve_say site book torn (byte ∷ rest) is whole both.0 in
          let same = ap (λ (r : Result SiteFields SiteFault). result_unwrap_or r site) (sym said ∙ parts.1) in
          let none = ltb-true _ _ both.1 in
          omega (
            arith,
            words,
            none,
            ap (λ (s : SiteFields). s.first_word) same,
            ap (λ (s : SiteFields). s.last_word) same,
          )
    ]

-- by the two texts alone
pub torn_sites : (site : SiteFields) (book : BookLine) (torn : List ℕ) (other : SiteFields × Option BookLine) →
    IsSayable site book → site.first_word ≤ site.last_word → IsPrefix torn (site_text site book) →
    torn ≢ site_text site book → site_of_chain is_first_site torn ≡ Ok other → ⊥
torn_sites site book torn other is words ([], whole) proper e = proper (sym (append-nil torn) ∙ whole)
torn_sites site book torn other is words (byte ∷ rest, whole) proper e =
    torn_short site book torn other is words byte rest whole e

-- it is not thirteen lines
pub torn_not_whole : (site : SiteFields) (book : BookLine) (torn : List ℕ) → IsSayable site book →
    IsPrefix torn (site_text site book) → torn ≢ site_text site book → are_lines_whole 13 torn ≡ true → ⊥
torn_not_whole site book torn is ([], whole) proper thirteen = proper (sym (append-nil torn) ∙ whole)
torn_not_whole site book torn is (byte ∷ rest, whole) proper thirteen =
    not_thirteen site book torn byte rest is whole thirteen

-- so no twin is made from it
pub torn_no_twin : (site : SiteFields) (book : BookLine) (torn : List ℕ) (other : SiteFields × Option BookLine) →
    IsSayable site book → IsPrefix torn (site_text site book) → torn ≢ site_text site book →
    site_of_chain none_fewer torn ≡ Ok other → ⊥
unfolding site_of_chain
torn_no_twin site book torn other is prefix proper e =
    let parts = taken_parts (site_of torn) (book_line_of torn) (none_fewer torn) (are_lines_whole 13 torn) other e in
    elim parts.2 [
      | inl thirteen ↦ torn_not_whole site book torn is prefix proper thirteen
      | inr fewer ↦ absurd (let f : false ≡ true = fewer in cc)
    ]
