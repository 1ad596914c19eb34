-- The arguments of `air`, and what its work was made from.
use Rattle.std.proofs.Common.{◌≡◌, ◌≢◌, ℕ, Bool, true, false, cond, List, [], ◌∷◌, Option, Some, None, Ok}
use Rattle.std.proofs.Common.{refl, sym, ap, subst, ◌∙◌}
use Rattle.std.specs.Prelude.{◌||◌}
use Rattle.std.specs.Str.{bytes_eq}
use Rattle.std.proofs.lemmas.Option.{same_Some}
use Rattle.std.proofs.lemmas.Slice.Eq.{bytes_eq-Decides}
use Rattle.sd_base.specs.Types.{Bytes, FileName}
use Rattle.sd_spec.specs.Plan.{Plan}
use Rattle.sd_command_base.specs.declared.status.Status.TheVariants.{Usage}
use Rattle.sd_command_base.specs.Made.{unused, used_name}
use Rattle.sd_command_base.specs.Shown.{word_at}
use Rattle.sd_command_base.specs.Spec.{FileArgument, Readings, whole_file_bytes, of_result, value, ◌>>=◌}
use Rattle.sd_command_base.specs.Work.{Mark, Work}
use Rattle.sd_command_line.specs.declared.command.Command.{Command}
use Rattle.sd_command_line.specs.declared.command.Command.TheVariants.{Air, Watch}
use Rattle.sd_command_line.specs.Commands.{command_named, operands_of}
use Rattle.sd_command_line.specs.Words.{AirOf, Order, help_words, is_help, is_version, named_words, order_after}
use Rattle.sd_command_line.specs.Words.{order_of, out_is_read, version_words}
use Rattle.sd_run_broadcasts.specs.Air.{air_meaning, air_plan_by, airing, mark_word}
use Rattle.sd_run.specs.Meaning.{meaning, order_meaning}
use Rattle.sd_run.proofs.Works.{IsOrderly, AreOrderly}
use Rattle.sd_law_chain.proofs.Found.{one_value, then_ok, unmet}
use Rattle.sd_law_run.specs.Outcome.{mark_in_row, out_in_row, out_name, used_by}
use Rattle.sd_law_run.proofs.Orderly.{words_orderly}

-- the arguments are `air` with four more
pub record AreAir (words : List Bytes) : Type 0 where
  pub name : Bytes
  pub site : Bytes
  pub book : Bytes
  pub clear : Bytes
  pub out : Bytes
  pub words_are : words ≡ name ∷ site ∷ book ∷ clear ∷ out ∷ []
  pub named : command_named name ≡ Some Air

-- arguments that have a mark are those of `air`
pub used_words : (words : List Bytes) (mark : FileName) → used_by words ≡ Some mark →
    (are : AreAir words) × (mark ≡ used_name are.site)
used_words [] mark e = absurd cc
used_words (name ∷ texts) mark e = by_row (command_named name) texts refl e
  where
    by_row : (found : Option Command) (rest : List Bytes) → command_named name ≡ found →
        mark_in_row found rest ≡ Some mark → (are : AreAir (name ∷ rest)) × (mark ≡ used_name are.site)
    by_row None rest n h = absurd cc
    by_row (Some Air) [] n h = absurd cc
    by_row (Some Air) (site ∷ []) n h = absurd cc
    by_row (Some Air) (site ∷ book ∷ []) n h = absurd cc
    by_row (Some Air) (site ∷ book ∷ clear ∷ []) n h = absurd cc
    by_row (Some Air) (site ∷ book ∷ clear ∷ out ∷ []) n h = (
      record { name = name; site = site; book = book; clear = clear; out = out; words_are = refl; named = n },
      same_Some mark (used_name site) (sym h),
    )
    by_row (Some Air) (site ∷ book ∷ clear ∷ out ∷ more ∷ rest) n h = absurd cc
    by_row (Some Watch) rest n h = absurd cc
    by_row (Some command) rest n h = absurd cc

-- OUT of an order of `air` is not the mark
pub air_order : (name site book clear out : Bytes) (order : Order) → command_named name ≡ Some Air →
    order_of (name ∷ site ∷ book ∷ clear ∷ out ∷ []) ≡ Ok order →
    (order ≡ AirOf (word_at 1 site) (word_at 2 book) (word_at 3 clear) (word_at 4 out)) × (out ≢ used_name site)
unfolding named_words operands_of
air_order name site book clear out order named e = by_name (is_help name) (is_version name) e
  where
    texts : List Bytes
    texts = site ∷ book ∷ clear ∷ out ∷ []

    apart : (p q : Bool) → bytes_eq out (used_name site) ≡ p → (p || q) ≡ false → out ≢ used_name site
    apart true q is h = absurd cc
    apart false q is h = λ same. absurd (let met = sym ((bytes_eq-Decides out (used_name site)).1 same) ∙ is in cc)

    by_name : (help version : Bool) →
        cond help (help_words texts) (cond version (version_words texts) (order_after (command_named name) texts))
        ≡ Ok order →
        (order ≡ AirOf (word_at 1 site) (word_at 2 book) (word_at 3 clear) (word_at 4 out)) × (out ≢ used_name site)
    by_name true version h = absurd cc
    by_name false true h = absurd cc
    by_name false false h =
        let row = subst (λ (c : Option Command). order_after c texts ≡ Ok order) named h in
        let air = AirOf (word_at 1 site) (word_at 2 book) (word_at 3 clear) (word_at 4 out) in
        let not_taken =
        unmet (bytes_eq out (used_name site) || out_is_read (operands_of Air) texts) (Ok air) order Usage row in (
          sym (one_value (Ok air) air order refl not_taken.1),
          apart (bytes_eq out (used_name site)) (out_is_read (operands_of Air) texts) refl not_taken.0,
        )

-- what the work of `air` was made from
pub record IsAirWork (site book clear out : FileArgument) (given : Readings) (work : Work) : Type 0 where
  pub plan : Plan
  pub read : (air_plan_by site.number book.number (given site) (given book)).result ≡ Ok plan
  pub bytes : Bytes
  pub there : given clear ≡ Some bytes
  pub new : given (mark_word site) ≡ None
  pub is_work : work ≡ airing plan site out bytes

all_ok : (word : ℕ) (got : Option Bytes) (bytes : Bytes) → (whole_file_bytes word got).result ≡ Ok bytes →
    got ≡ Some bytes
all_ok word None bytes e = absurd cc
all_ok word (Some found) bytes e = ap (λ (b : Bytes). Some b) (one_value (Ok found) found bytes refl e)

unused_ok : (got : Option Bytes) (x : Unit {0}) → (unused got).result ≡ Ok x → got ≡ None
unused_ok None x e = refl
unused_ok (Some bytes) x e = absurd cc

pub air_found : (site book clear out : FileArgument) (given : Readings) (work : Work) →
    (air_meaning site book clear out given).result ≡ Ok work → IsAirWork site book clear out given work
unfolding air_meaning
air_found site book clear out given work e =
    let (plan, read, after) = then_ok (air_plan_by site.number book.number (given site) (given book))
    (λ plan. whole_file_bytes clear.number (given clear)
    >>= λ bytes. unused (given (mark_word site)) >>= λ new. value (airing plan site out bytes)) work e in
    let (bytes, all, then) = then_ok (whole_file_bytes clear.number (given clear))
    (λ bytes. unused (given (mark_word site)) >>= λ new. value (airing plan site out bytes)) work after in
    let (x, new, last) = then_ok (unused (given (mark_word site))) (λ new. value (airing plan site out bytes)) work then
    in
    record {
      plan = plan;
      read = read;
      bytes = bytes;
      there = all_ok clear.number (given clear) bytes all;
      new = unused_ok (given (mark_word site)) x new;
      is_work = sym (one_value (Ok (airing plan site out bytes)) (airing plan site out bytes) work refl last);
    }

-- what the arguments of `air` mean, if it is work
pub record IsAir (words : List Bytes) (are : AreAir words) (given : Readings) (work : Work) : Type 0 where
  pub apart : are.out ≢ used_name are.site
  pub found : IsAirWork (word_at 1 are.site) (word_at 2 are.book) (word_at 3 are.clear) (word_at 4 are.out) given work

pub air_work : (words : List Bytes) (are : AreAir words) (given : Readings) (work : Work) →
    (meaning words given).result ≡ Ok work → IsAir words are given work
air_work words are given work e =
    let (order, read, meant) = then_ok (of_result (order_of words)) (λ o. order_meaning o given) work e in
    let is = air_order are.name are.site are.book are.clear are.out order are.named
    (ap order_of (sym are.words_are) ∙ read) in
    record {
      apart = is.1;
      found = air_found (word_at 1 are.site) (word_at 2 are.book) (word_at 3 are.clear) (word_at 4 are.out) given work
          (sym (ap (λ (o : Order). (order_meaning o given).result) is.0) ∙ meant);
    }

-- the mark of the work that the arguments mean is theirs
pub mark_is : (words : List Bytes) (given : Readings) (work : Work) (mark : Mark) →
    (meaning words given).result ≡ Ok work → work.mark ≡ Some mark → used_by words ≡ Some mark.name
mark_is words given work mark is marks =
    let orderly : IsOrderly (out_name words) (used_by words) work =
    subst (AreOrderly (out_name words) (used_by words)) is (words_orderly words given) in
    orderly.marks mark marks

-- only `air` means work with a mark
pub marked_air : (words : List Bytes) (given : Readings) (work : Work) (mark : Mark) →
    (meaning words given).result ≡ Ok work → work.mark ≡ Some mark → (are : AreAir words) × IsAir words are given work
marked_air words given work mark is marks =
    let used = used_words words mark.name (mark_is words given work mark is marks) in
    (used.0, air_work words used.0 given work is)

-- and the mark is new
pub mark_new : (words : List Bytes) (given : Readings) (work : Work) (mark : Mark) →
    (meaning words given).result ≡ Ok work → work.mark ≡ Some mark →
    given (record { number = mark.word; text = mark.name }) ≡ None
mark_new words given work mark is marks =
    let (are, air) = marked_air words given work mark is marks in
    let same : mark ≡ record { word = 1; name = used_name are.site } =
    same_Some mark _ (sym marks ∙ ap (λ (w : Work). w.mark) air.found.is_work) in
    ap (λ (m : Mark). given (record { number = m.word; text = m.name })) same ∙ air.found.new

-- OUT of `air` is its last argument
pub air_out : (words : List Bytes) (are : AreAir words) → out_name words ≡ Some are.out
unfolding operands_of
air_out words are =
    ap out_name are.words_are
    ∙ ap (λ (c : Option Command). out_in_row c (are.site ∷ are.book ∷ are.clear ∷ are.out ∷ [])) are.named

-- and not the mark
pub out_apart : (words : List Bytes) (given : Readings) (work : Work) (mark out : FileName) →
    (meaning words given).result ≡ Ok work → used_by words ≡ Some mark → out_name words ≡ Some out → out ≢ mark
out_apart words given work mark out is used named same =
    let (are, at) = used_words words mark used in
    let air = air_work words are given work is in
    air.apart (sym (same_Some out are.out (sym named ∙ air_out words are)) ∙ (same ∙ at))
