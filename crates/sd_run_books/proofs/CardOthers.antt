-- No command of this crate ever means `Usage`.
use Rattle.std.proofs.Common.{ℕ, Bool, true, false, cond, List, Option, Ok, Err, ◌+◌, length, ◌^◌}
use Rattle.std.specs.Prelude.{nat_le, ◌&&◌, nat_lt, if◌then◌else◌}
use Rattle.sd_tree_keys.specs.Limits.{most_revoked}
use Rattle.sd_book.specs.declared.command.Command.{Command}
use Rattle.sd_cover_tracing.specs.Trace.{not_among, trace_of}
use Rattle.sd_command_base.specs.Spec.{FileArgument, Readings, value, of_result, ◌>>=◌, within}
use Rattle.sd_command_base.specs.declared.status.Status.TheVariants.{BadWord, Limit}
use Rattle.sd_command_base.specs.declared.status.LimitKind.TheVariants.{Traced, CardBytes}
use Rattle.sd_command_base.specs.Work.{work_of_text, Uncounted}
use Rattle.sd_command_base.specs.Both.{both_by}
use Rattle.sd_command_base.proofs.Others.{IsOther, other_after, other_both, other_site_file, other_book_file}
use Rattle.sd_command_base.proofs.Others.{other_leaves_file, other_file}
use Rattle.sd_command_base.proofs.CardFaults.{other_unless}
use Rattle.sd_command_base.specs.Shown.{NumberArgument}
use Rattle.sd_command_base.specs.Files.{site_of_file, book_of_file, most_card_bytes}
use Rattle.sd_command_base.specs.Leaves.{leaves_of_file}
use Rattle.sd_run_books.specs.Cover.{covering, cover_meaning}
use Rattle.sd_run_books.specs.Layered.{told_layers, layers_of_file, layering, layered_meaning}
use Rattle.sd_run_books.specs.Opens.{opening, opens_meaning}
use Rattle.sd_run_books.specs.Trace.{revoked_last, trace_text, trace_outcome, trace_meaning}
use Rattle.sd_site_cards.specs.SiteFields.{SiteFields}
use Rattle.sd_site_cards.specs.CardFields.{card_of, card_bytes}
use Rattle.sd_site_cards.specs.CardFaults.{fault_in}
use Rattle.sd_lsd.specs.Fields.{layer_card_of, layer_bytes}
use Rattle.sd_command_base.specs.Made.{making}
use Rattle.sd_run_books.specs.Card.{made_card, card_meaning}
use Rattle.sd_run_books.specs.Lcard.{told_leaf, told_width, carding, lcard_meaning}
use Rattle.sd_run_books.specs.Show.{shown_card_line, line_of_file, show_meaning, told_show}
use Rattle.sd_run_books.specs.Status.{status_meaning, status_text, told_tree, tree_of_file}

-- what a word says, or its refusal
other_word : {A : Type 0} (b : Bool) (x : A) (word : ℕ) → IsOther (cond b (Ok x) (Err (BadWord word)))
other_word true x word = tt
other_word false x word = λ e. cc

pub other_cover : (site book : FileArgument) (given : Readings) → IsOther (cover_meaning site book given).result
unfolding cover_meaning
other_cover site book given =
    other_after (both_by site.number book.number (given site) (given book)).calls
    (both_by site.number book.number (given site) (given book)).result
    (λ both. value (covering both.site.height both.commands))
    (other_both site.number book.number (given site) (given book)) (λ both. tt)

other_layers : (word : ℕ) (width : NumberArgument) (got : Option (List ℕ)) →
    IsOther (layers_of_file word width got).result
other_layers word width got =
    other_after (site_of_file word got).calls (site_of_file word got).result
    (λ fields. of_result (told_layers fields.height width)) (other_site_file word got)
    (λ fields. other_word (nat_le 1 width.value && nat_le width.value fields.height)
    (record { height = fields.height; width = width.value }) width.word)

pub other_layered : (site book : FileArgument) (width : NumberArgument) (given : Readings) →
    IsOther (layered_meaning site book width given).result
other_layered site book width given =
    other_after (layers_of_file site.number width (given site)).calls
    (layers_of_file site.number width (given site)).result
    (λ layers. book_of_file book.number layers.height (given book)
    >>= λ commands. value (layering layers.height layers.width commands))
    (other_layers site.number width (given site))
    (λ layers. other_after (book_of_file book.number layers.height (given book)).calls
    (book_of_file book.number layers.height (given book)).result
    (λ commands. value (layering layers.height layers.width commands))
    (other_book_file book.number layers.height (given book)) (λ commands. tt))

pub other_opens : (site book leaves : FileArgument) (given : Readings) →
    IsOther (opens_meaning site book leaves given).result
unfolding opens_meaning
other_opens site book leaves given =
    other_after (both_by site.number book.number (given site) (given book)).calls
    (both_by site.number book.number (given site) (given book)).result
    (λ both. leaves_of_file leaves.number both.site.height (given leaves)
    >>= λ found. value (opening both.site.height found both.commands))
    (other_both site.number book.number (given site) (given book))
    (λ both. other_after (leaves_of_file leaves.number both.site.height (given leaves)).calls
    (leaves_of_file leaves.number both.site.height (given leaves)).result
    (λ found. value (opening both.site.height found both.commands))
    (other_leaves_file leaves.number both.site.height (given leaves)) (λ found. tt))

other_limit : (b : Bool) (text : List ℕ) → IsOther (if b then Err (Limit Traced) else Ok text)
other_limit true text = λ e. cc
other_limit false text = tt

other_traced : (d : ℕ) (coalition : List ℕ) (commands : List Command) → IsOther (trace_outcome d coalition commands)
unfolding trace_outcome
other_traced d coalition commands =
    let gone = revoked_last d commands in
    other_limit (nat_lt most_revoked (length gone + length (not_among d gone coalition)))
    (trace_text (trace_of d coalition gone))

pub other_trace : (site book leaves : FileArgument) (given : Readings) →
    IsOther (trace_meaning site book leaves given).result
unfolding trace_meaning
other_trace site book leaves given =
    other_after (both_by site.number book.number (given site) (given book)).calls
    (both_by site.number book.number (given site) (given book)).result
    (λ both. leaves_of_file leaves.number both.site.height (given leaves)
    >>= λ coalition. of_result (trace_outcome both.site.height coalition both.commands) >>=
    λ text. value (work_of_text text))
    (other_both site.number book.number (given site) (given book))
    (λ both. other_after (leaves_of_file leaves.number both.site.height (given leaves)).calls
    (leaves_of_file leaves.number both.site.height (given leaves)).result
    (λ coalition. of_result (trace_outcome both.site.height coalition both.commands) >>=
    λ text. value (work_of_text text))
    (other_leaves_file leaves.number both.site.height (given leaves))
    (λ coalition. other_after 0 (trace_outcome both.site.height coalition both.commands)
    (λ text. value (work_of_text text))
    (other_traced both.site.height coalition both.commands) (λ text. tt)))

other_card : (fields : SiteFields) (leaf : NumberArgument) → IsOther (made_card fields leaf)
other_card fields leaf =
    other_word (nat_lt leaf.value (2 ^ fields.height))
    (card_bytes (card_of fields.master fields.ca fields.height leaf.value)) leaf.word

pub other_card_order : (site : FileArgument) (leaf : NumberArgument) (out : FileArgument) (given : Readings) →
    IsOther (card_meaning site leaf out given).result
other_card_order site leaf out given =
    other_after (site_of_file site.number (given site)).calls (site_of_file site.number (given site)).result
    (λ fields. of_result (made_card fields leaf) >>= λ bytes. value (making Uncounted out bytes))
    (other_site_file site.number (given site))
    (λ fields. other_after 0 (made_card fields leaf) (λ bytes. value (making Uncounted out bytes))
    (other_card fields leaf) (λ bytes. tt))

pub other_lcard : (site : FileArgument) (leaf width : NumberArgument) (out : FileArgument) (given : Readings) →
    IsOther (lcard_meaning site leaf width out given).result
other_lcard site leaf width out given =
    other_after (site_of_file site.number (given site)).calls (site_of_file site.number (given site)).result
    (λ fields. carding fields leaf width out) (other_site_file site.number (given site))
    (λ fields. other_after 0 (told_leaf fields.height leaf)
    (λ u. of_result (told_width fields.height width)
    >>= λ w. value (making Uncounted out (layer_bytes (layer_card_of fields.master fields.ca fields.height w u))))
    (other_word (nat_lt leaf.value (2 ^ fields.height)) leaf.value leaf.word)
    (λ u. other_after 0 (told_width fields.height width)
    (λ w. value (making Uncounted out (layer_bytes (layer_card_of fields.master fields.ca fields.height w u))))
    (other_word (nat_le 1 width.value && nat_le width.value fields.height) width.value width.word) (λ w. tt)))

other_line : (word : ℕ) (bytes : List ℕ) → IsOther (told_show word bytes)
unfolding told_show
other_line word bytes = other_unless word (fault_in bytes) (shown_card_line bytes)

other_line_file : (word : ℕ) (got : Option (List ℕ)) → IsOther (line_of_file word got).result
unfolding line_of_file
other_line_file word got =
    other_after (within word most_card_bytes CardBytes got).calls (within word most_card_bytes CardBytes got).result
    (λ bytes. of_result (told_show word bytes)) (other_file word most_card_bytes CardBytes got) (other_line word)

pub other_show : (card : FileArgument) (given : Readings) → IsOther (show_meaning card given).result
other_show card given =
    other_after (line_of_file card.number (given card)).calls (line_of_file card.number (given card)).result
    (λ line. value (work_of_text line)) (other_line_file card.number (given card)) (λ line. tt)

other_tree : (word : ℕ) (leaf : NumberArgument) (got : Option (List ℕ)) → IsOther (tree_of_file word leaf got).result
other_tree word leaf got =
    other_after (site_of_file word got).calls (site_of_file word got).result (λ site. of_result (told_tree leaf site))
    (other_site_file word got) (λ site. other_word (nat_lt leaf.value (2 ^ site.height)) site leaf.word)

pub other_status : (site book : FileArgument) (leaf : NumberArgument) (given : Readings) →
    IsOther (status_meaning site book leaf given).result
other_status site book leaf given =
    other_after (tree_of_file site.number leaf (given site)).calls (tree_of_file site.number leaf (given site)).result
    (λ fields. book_of_file book.number fields.height (given book)
    >>= λ commands. value (work_of_text (status_text fields commands leaf.value)))
    (other_tree site.number leaf (given site))
    (λ fields. other_after (book_of_file book.number fields.height (given book)).calls
    (book_of_file book.number fields.height (given book)).result
    (λ commands. value (work_of_text (status_text fields commands leaf.value)))
    (other_book_file book.number fields.height (given book)) (λ commands. tt))
