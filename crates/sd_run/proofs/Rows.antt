-- What is said of each command of the table, a row for each.
use Rattle.std.proofs.Common.{◌≡◌, ℕ, ◌+◌, List, [], ◌∷◌, Option, Some, None, refl}
use Rattle.sd_engine.specs.Taken.{end_of}
use Rattle.sd_command_base.specs.declared.status.Status.{Status}
use Rattle.sd_command_base.specs.Outcome.{Implements}
use Rattle.sd_command_base.specs.Outside.{IoState}
use Rattle.sd_command_base.specs.Spec.{FileArgument, Readings, whole_file_bytes, of_result, value, ◌>>=◌}
use Rattle.sd_command_base.specs.Work.{Uncounted, NoSteps, UpTo, work_of_text}
use Rattle.sd_command_base.specs.Shown.{NumberArgument}
use Rattle.sd_command_base.specs.Both.{both_meaning}
use Rattle.sd_command_base.specs.Files.{site_in, book_in}
use Rattle.sd_command_base.specs.Leaves.{leaves_in}
use Rattle.sd_command_base.specs.Made.{making, making_new, unused, used_name}
use Rattle.sd_run_books.specs.AccountsCommand.{accounts_in, making_then, accounts_line, accounts_meaning}
use Rattle.sd_run_books.specs.Apart.{apart_meaning, plan_of_both, told_apart}
use Rattle.sd_run_books.specs.Book.{longer_book, book_meaning}
use Rattle.sd_run_books.specs.Card.{made_card, card_meaning}
use Rattle.sd_run_books.specs.Cover.{covering, cover_meaning}
use Rattle.sd_run_broadcasts.specs.Air.{air_meaning, air_plan_by, airing, mark_word}
use Rattle.sd_run_broadcasts.specs.Head.{head_plan_meaning as head_plan, sent_of, sent_status, sending}
use Rattle.sd_run_broadcasts.specs.Head.{sending_of, head_meaning}
use Rattle.sd_run_books.specs.Layered.{layers_of_file, layering, layered_meaning}
use Rattle.sd_run_books.specs.Lcard.{told_leaf, told_width, carding, lcard_meaning}
use Rattle.sd_run_streams.specs.Messages.{messages_meaning, monitoring, messages_stream_meaning as monitor_meaning}
use Rattle.sd_run_books.specs.Chain.{newest_of_file, told_name}
use Rattle.sd_run_books.specs.Next.{next_made, next_meaning, origin_of_files}
use Rattle.sd_run_books.specs.Twin.{twin_made, twin_meaning}
use Rattle.sd_run_books.specs.Opens.{opening, opens_meaning}
use Rattle.sd_run_books.specs.Air.{plan_command_meaning, planning, roomy_site_of_file}
use Rattle.sd_run_broadcasts.specs.Receive.{received_status}
use Rattle.sd_run_broadcasts.specs.Receive.{card_argument, received_of, received_steps, receiving}
use Rattle.sd_run_broadcasts.specs.Receive.{receive_stream_meaning}
use Rattle.sd_run_broadcasts.specs.Receive.{receive_meaning}
use Rattle.sd_run_streams.specs.Sample.{sample_meaning}
use Rattle.sd_run_books.specs.Show.{line_of_file, show_meaning}
use Rattle.sd_run_streams.specs.Tables.{inspecting, tables_meaning}
use Rattle.sd_run_books.specs.Status.{status_meaning, status_text, tree_of_file}
use Rattle.sd_run_books.specs.Trace.{trace_outcome, trace_meaning}
use Rattle.sd_command_base.specs.Printed.{printing}
use Rattle.sd_run_broadcasts.specs.Field.{field_meaning, field_text, inputs_meaning, script_of_file}
use Rattle.sd_run_broadcasts.specs.Prefixes.{prefix_of_file}
use Rattle.sd_run_broadcasts.specs.Trial.{trial_plan_meaning as trial_plan, trial_text, trying, trial_meaning}
use Rattle.sd_run_broadcasts.specs.Trial.{trial_clear_bytes}
use Rattle.sd_run_broadcasts.specs.Watch.{watch_meaning, watched_meaning, watching}
use Rattle.sd_engine.specs.Sample.{sample_of}
use Rattle.sd_site_cards.specs.Chain.{most_word}
use Rattle.sd_site_cards.specs.SiteFields.{SiteFields}
use Rattle.sd_site_cards.specs.Written.{none_fewer}
use Rattle.sd_book.specs.Text.{text_of_book}
use Rattle.sd_lsd.specs.Fields.{layer_card_of, layer_bytes}
use Rattle.sd_command_line.specs.declared.command.Command.{Command}
use Rattle.sd_command_line.specs.declared.command.Command.TheVariants.{Accounts, Air, Book, Card, Cover, Field}
use Rattle.sd_command_line.specs.declared.command.Command.TheVariants.{Head, Layered, Lcard}
use Rattle.sd_command_line.specs.declared.command.Command.TheVariants.{Apart, Messages, Next, Opens, Plan}
use Rattle.sd_command_line.specs.declared.command.Command.TheVariants.{Receive}
use Rattle.sd_command_line.specs.declared.command.Command.TheVariants.{Sample}
use Rattle.sd_command_line.specs.declared.command.Command.TheVariants.{Show}
use Rattle.sd_command_line.specs.declared.command.Command.TheVariants.{Status as StatusOf}
use Rattle.sd_command_line.specs.declared.command.Command.TheVariants.{Tables, Trace, Trial, Twin, Watch}
use Rattle.sd_command_line.specs.declared.operand.Operand.{Operand}
use Rattle.sd_command_line.specs.Commands.{command_named, example_of, command_name, operands_of}
use Rattle.sd_command_line.specs.Operands.{operand_kind}
use Rattle.sd_command_line.specs.Words.{Argument, file, number, named_words, or_output}
use Rattle.sd_run.specs.Meaning.{command_meaning}
use Rattle.sd_command_base.proofs.Others.{IsOther}
use Rattle.sd_run_books.proofs.CardOthers.{other_cover, other_card_order, other_layered, other_lcard}
use Rattle.sd_run_books.proofs.CardOthers.{other_opens, other_show, other_status, other_trace}
use Rattle.sd_run_streams.proofs.Others.{other_tables}
use Rattle.sd_run_broadcasts.proofs.AirOthers.{other_air}
use Rattle.sd_run_broadcasts.proofs.HeadOthers.{other_head}
use Rattle.sd_run_broadcasts.proofs.ReceiveOthers.{other_receive}
use Rattle.sd_run_broadcasts.proofs.WatchOthers.{other_watch}
use Rattle.sd_run_books.proofs.Others.{other_accounts}
use Rattle.sd_run_books.proofs.Others.{other_apart}
use Rattle.sd_run_books.proofs.Others.{other_book_order}
use Rattle.sd_run_books.proofs.ChainOthers.{other_next, other_twin}
use Rattle.sd_run_broadcasts.proofs.FieldOthers.{other_field}
use Rattle.sd_run_streams.proofs.Others.{other_messages}
use Rattle.sd_run_books.proofs.Others.{other_plan}
use Rattle.sd_run_broadcasts.proofs.Others.{other_trial}
use Rattle.sd_run.proofs.Works.{AreOrderly, orderly_after, same_name, made_new, made_whole, turned, none_made}
use Rattle.sd_run.proofs.Works.{aired, sent_apart}
use Rattle.sd_run.proofs.Works.{stream_apart, stream_received, text_quiet, watched}
use Rattle.sd_run.proofs.Examples.{IsExample, words_in, onto_first, arguments_in}
use Rattle.sd_base.specs.Number.{decimal_value}

-- the commands that make a file
accounts_orderly : (site accounts out : FileArgument) (given : Readings) →
    AreOrderly (Some out.text) None (accounts_meaning site accounts out given).result
accounts_orderly site accounts out given =
    orderly_after (Some out.text) None (accounts_in site accounts given)
    (λ found. value (making_then out (text_of_book found.book.commands) (accounts_line found)))
    (λ found. record {
      makes = λ made e. same_name (record {
        word = out.number;
        name = out.text;
        bytes = text_of_book found.book.commands;
      }) made e;
      marks = λ made e. absurd (cc);
      keeps = λ refusal. absurd refusal;
    })

book_orderly : (site book commands out : FileArgument) (given : Readings) →
    AreOrderly (Some out.text) None (book_meaning site book commands out given).result
unfolding book_meaning
book_orderly site book commands out given =
    orderly_after (Some out.text) None (both_meaning site book given)
    (λ both. book_in given both.site.height commands
    >>= λ added. of_result (longer_book commands.number both.site.height both.commands added)
    >>= λ longer. value (making NoSteps out (text_of_book longer)))
    (λ both. orderly_after (Some out.text) None (book_in given both.site.height commands)
    (λ added. of_result (longer_book commands.number both.site.height both.commands added)
    >>= λ longer. value (making NoSteps out (text_of_book longer)))
    (λ added. orderly_after (Some out.text) None
    (of_result (longer_book commands.number both.site.height both.commands added))
    (λ longer. value (making NoSteps out (text_of_book longer)))
    (λ longer. made_whole NoSteps out (text_of_book longer))))

card_orderly : (site : FileArgument) (leaf : NumberArgument) (out : FileArgument) (given : Readings) →
    AreOrderly (Some out.text) None (card_meaning site leaf out given).result
card_orderly site leaf out given =
    orderly_after (Some out.text) None (site_in given site)
    (λ fields. of_result (made_card fields leaf) >>= λ bytes. value (making Uncounted out bytes))
    (λ fields. orderly_after (Some out.text) None (of_result (made_card fields leaf))
    (λ bytes. value (making Uncounted out bytes)) (λ bytes. made_whole Uncounted out bytes))

sample_orderly : (number packets : ℕ) (out : FileArgument) (given : Readings) →
    AreOrderly (Some out.text) None (sample_meaning number packets out given).result
sample_orderly number packets out given = made_whole NoSteps out (sample_of number packets)

lcard_orderly : (site : FileArgument) (leaf width : NumberArgument) (out : FileArgument) (given : Readings) →
    AreOrderly (Some out.text) None (lcard_meaning site leaf width out given).result
lcard_orderly site leaf width out given =
    let bytes : SiteFields → ℕ → ℕ → List ℕ =
    λ fields u w. layer_bytes (layer_card_of fields.master fields.ca fields.height w u) in
    orderly_after (Some out.text) None (site_in given site) (λ fields. carding fields leaf width out)
    (λ fields. orderly_after (Some out.text) None (of_result (told_leaf fields.height leaf))
    (λ u. of_result (told_width fields.height width) >>= λ w. value (making Uncounted out (bytes fields u w)))
    (λ u. orderly_after (Some out.text) None (of_result (told_width fields.height width))
    (λ w. value (making Uncounted out (bytes fields u w))) (λ w. made_whole Uncounted out (bytes fields u w))))

head_orderly : (site book clear out : FileArgument) (given : Readings) →
    AreOrderly (Some out.text) None (head_meaning site book clear out given).result
unfolding head_meaning
head_orderly site book clear out given =
    orderly_after (Some out.text) None (head_plan site book given) (sending_of clear out (given clear))
    (λ plan. orderly_after (Some out.text) None (whole_file_bytes clear.number (given clear))
    (λ bytes. value (sending plan out bytes))
    (λ bytes. turned Uncounted out (sent_of plan bytes) (sent_status plan bytes) (sent_apart plan bytes)))

air_orderly : (site book clear out : FileArgument) (given : Readings) →
    AreOrderly (Some out.text) (Some (used_name site.text)) (air_meaning site book clear out given).result
unfolding air_meaning
air_orderly site book clear out given =
    let mark = Some (used_name site.text) in
    orderly_after (Some out.text) mark (air_plan_by site.number book.number (given site) (given book))
    (λ plan. whole_file_bytes clear.number (given clear)
    >>= λ bytes. unused (given (mark_word site)) >>= λ new. value (airing plan site out bytes))
    (λ plan. orderly_after (Some out.text) mark (whole_file_bytes clear.number (given clear))
    (λ bytes. unused (given (mark_word site)) >>= λ new. value (airing plan site out bytes))
    (λ bytes. orderly_after (Some out.text) mark (unused (given (mark_word site)))
    (λ new. value (airing plan site out bytes)) (λ new. aired plan site out bytes)))

receive_orderly : (card stream out : FileArgument) (given : Readings) →
    AreOrderly (Some out.text) None (receive_meaning card stream out given).result
unfolding receive_meaning
receive_orderly card stream out given =
    orderly_after (Some out.text) None (card_argument given card) (λ fields. receive_stream_meaning fields stream out
    given)
    (λ fields. orderly_after (Some out.text) None (whole_file_bytes stream.number (given stream))
    (λ bytes. value (receiving fields out bytes))
    (λ bytes. turned (UpTo (received_steps fields bytes)) out (received_of fields bytes)
    (received_status fields bytes) (stream_received fields bytes)))

watch_orderly : (card stream out : FileArgument) (given : Readings) →
    AreOrderly (Some out.text) None (watch_meaning card stream out given).result
unfolding watch_meaning
watch_orderly card stream out given =
    orderly_after (Some out.text) None (card_argument given card) (λ fields. watched_meaning fields stream out given)
    (λ fields. orderly_after (Some out.text) None (whole_file_bytes stream.number (given stream))
    (λ bytes. value (watching fields out bytes)) (λ bytes. watched fields out bytes))

next_orderly : (site book : FileArgument) (words : NumberArgument) (out : FileArgument) (given : Readings) →
    AreOrderly (Some out.text) None (next_meaning site book words out given).result
unfolding next_meaning
next_orderly site book words out given =
    let origin = origin_of_files site.number book.number words (given site) (given book) in
    orderly_after (Some out.text) None (of_result (told_name site out))
    (λ named. origin >>= λ found. making_new (next_made found words.value) out (given out))
    (λ named. orderly_after (Some out.text) None origin (λ found. making_new (next_made found words.value) out
    (given out))
    (λ found. made_new (next_made found words.value) out (given out)))

twin_orderly : (site : FileArgument) (words : NumberArgument) (out : FileArgument) (given : Readings) →
    AreOrderly (Some out.text) None (twin_meaning site words out given).result
unfolding twin_meaning
twin_orderly site words out given =
    let newest = newest_of_file none_fewer site.number most_word words (given site) in
    orderly_after (Some out.text) None (of_result (told_name site out))
    (λ named. newest >>= λ found. making_new (twin_made found.0 found.1 words.value) out (given out))
    (λ named. orderly_after (Some out.text) None newest
    (λ found. making_new (twin_made found.0 found.1 words.value) out (given out))
    (λ found. made_new (twin_made found.0 found.1 words.value) out (given out)))

-- and those that make none
cover_orderly : (site book : FileArgument) (given : Readings) →
    AreOrderly None None (cover_meaning site book given).result
unfolding cover_meaning
cover_orderly site book given =
    orderly_after None None (both_meaning site book given)
    (λ both. value (covering both.site.height both.commands))
    (λ both. none_made (covering both.site.height both.commands) refl refl (λ refusal. absurd refusal))

tables_orderly : (stream : FileArgument) (given : Readings) → AreOrderly None None (tables_meaning stream given).result
unfolding tables_meaning
tables_orderly stream given =
    orderly_after None None (whole_file_bytes stream.number (given stream)) (λ bytes. value (inspecting bytes))
    (λ bytes. none_made (inspecting bytes) refl refl (λ refusal. absurd (stream_apart (end_of bytes) refusal)))

messages_orderly : (site stream : FileArgument) (given : Readings) →
    AreOrderly None None (messages_meaning site stream given).result
unfolding messages_meaning
messages_orderly site stream given =
    orderly_after None None (site_in given site) (λ fields. monitor_meaning fields stream given)
    (λ fields. orderly_after None None (whole_file_bytes stream.number (given stream))
    (λ bytes. value (monitoring fields bytes))
    (λ bytes. none_made (monitoring fields bytes) refl refl
    (λ refusal. absurd (stream_apart (end_of bytes) refusal))))

show_orderly : (card : FileArgument) (given : Readings) → AreOrderly None None (show_meaning card given).result
show_orderly card given =
    orderly_after None None (line_of_file card.number (given card)) (λ line. value (work_of_text line))
    (λ line. none_made (work_of_text line) refl refl (λ refusal. absurd refusal))

layered_orderly : (site book : FileArgument) (width : NumberArgument) (given : Readings) →
    AreOrderly None None (layered_meaning site book width given).result
layered_orderly site book width given =
    orderly_after None None (layers_of_file site.number width (given site))
    (λ layers. book_in given layers.height book
    >>= λ commands. value (layering layers.height layers.width commands))
    (λ layers. orderly_after None None (book_in given layers.height book)
    (λ commands. value (layering layers.height layers.width commands))
    (λ commands. none_made (layering layers.height layers.width commands) refl refl (λ refusal. absurd refusal)))

status_orderly : (site book : FileArgument) (leaf : NumberArgument) (given : Readings) →
    AreOrderly None None (status_meaning site book leaf given).result
status_orderly site book leaf given =
    orderly_after None None (tree_of_file site.number leaf (given site))
    (λ fields. book_in given fields.height book
    >>= λ commands. value (work_of_text (status_text fields commands leaf.value)))
    (λ fields. orderly_after None None (book_in given fields.height book)
    (λ commands. value (work_of_text (status_text fields commands leaf.value)))
    (λ commands. none_made (work_of_text (status_text fields commands leaf.value)) refl refl
    (λ refusal. absurd refusal)))

apart_orderly : (site book other more : FileArgument) (given : Readings) →
    AreOrderly None None (apart_meaning site book other more given).result
apart_orderly site book other more given =
    orderly_after None None (both_meaning site book given)
    (λ first. both_meaning other more given
    >>= λ second. of_result (told_apart (plan_of_both first) (plan_of_both second)) >>=
    λ text. value (work_of_text text))
    (λ first. orderly_after None None (both_meaning other more given)
    (λ second. of_result (told_apart (plan_of_both first) (plan_of_both second)) >>= λ text. value (work_of_text text))
    (λ second. orderly_after None None (of_result (told_apart (plan_of_both first) (plan_of_both second)))
    (λ text. value (work_of_text text)) (λ text. none_made (work_of_text text) refl refl (λ refusal. absurd refusal))))

plan_orderly : (site book : FileArgument) (packets : NumberArgument) (pids : ℕ) (given : Readings) →
    AreOrderly None None (plan_command_meaning site book packets pids given).result
plan_orderly site book packets pids given =
    orderly_after None None (roomy_site_of_file site.number packets (given site))
    (λ fields. book_in given fields.height book
    >>= λ commands. value (planning (record { site = fields; commands = commands }) packets.value pids))
    (λ fields. orderly_after None None (book_in given fields.height book)
    (λ commands. value (planning (record { site = fields; commands = commands }) packets.value pids))
    (λ commands. none_made (planning (record { site = fields; commands = commands }) packets.value pids) refl refl
    (λ refusal. absurd refusal)))

opens_orderly : (site book leaves : FileArgument) (given : Readings) →
    AreOrderly None None (opens_meaning site book leaves given).result
unfolding opens_meaning
opens_orderly site book leaves given =
    orderly_after None None (both_meaning site book given)
    (λ both. leaves_in given both.site.height leaves
    >>= λ found. value (opening both.site.height found both.commands))
    (λ both. orderly_after None None (leaves_in given both.site.height leaves)
    (λ found. value (opening both.site.height found both.commands))
    (λ found. none_made (opening both.site.height found both.commands) refl refl (λ refusal. absurd refusal)))

trace_orderly : (site book leaves : FileArgument) (given : Readings) →
    AreOrderly None None (trace_meaning site book leaves given).result
unfolding trace_meaning
trace_orderly site book leaves given =
    orderly_after None None (both_meaning site book given)
    (λ both. leaves_in given both.site.height leaves
    >>= λ coalition. of_result (trace_outcome both.site.height coalition both.commands) >>=
    λ text. value (work_of_text text))
    (λ both. orderly_after None None (leaves_in given both.site.height leaves)
    (λ coalition. of_result (trace_outcome both.site.height coalition both.commands) >>=
    λ text. value (work_of_text text))
    (λ coalition. orderly_after None None (of_result (trace_outcome both.site.height coalition both.commands))
    (λ text. value (work_of_text text)) (λ text. none_made (work_of_text text) refl refl (λ refusal. absurd refusal))))

trial_orderly : (site book clear : FileArgument) (given : Readings) →
    AreOrderly None None (trial_meaning site book clear given).result
unfolding trial_meaning
trial_orderly site book clear given =
    orderly_after None None (trial_plan site book given)
    (λ plan. prefix_of_file clear.number trial_clear_bytes (given clear) >>= λ prefix. value (trying plan prefix))
    (λ plan. orderly_after None None (prefix_of_file clear.number trial_clear_bytes (given clear))
    (λ prefix. value (trying plan prefix)) (λ prefix. text_quiet (trial_text plan prefix)))

field_orderly : (site clear script : FileArgument) (given : Readings) →
    AreOrderly None None (field_meaning site clear script given).result
unfolding field_meaning
field_orderly site clear script given =
    orderly_after None None (inputs_meaning site clear given)
    (λ inputs. script_of_file script.number inputs.site.height (given script)
    >>= λ events. value (printing (field_text inputs.site inputs.clear events)))
    (λ inputs. orderly_after None None (script_of_file script.number inputs.site.height (given script))
    (λ events. value (printing (field_text inputs.site inputs.clear events)))
    (λ events. text_quiet (field_text inputs.site inputs.clear events)))

-- the file that a row names, whose first argument is at this place
abbrev pub out_at : ℕ → List Operand → List Argument → Option (List ℕ)
out_at at [] arguments = None
out_at at (operand ∷ operands) arguments =
    or_output (operand_kind operand) (file at arguments).text (out_at (at + 1) operands arguments)

-- the file that an order makes
abbrev pub out_by : Command → List Argument → Option (List ℕ)
out_by command arguments = out_at 1 (operands_of command) arguments

-- the mark that an order makes: that of the site of `air`
abbrev pub mark_by : Command → List Argument → Option (List ℕ)
mark_by Air arguments = Some (used_name (file 1 arguments).text)
mark_by command arguments = None

pub command_orderly : (command : Command) (words : List Argument) (given : Readings) →
    AreOrderly (out_by command words) (mark_by command words) (command_meaning command words given).result
unfolding operands_of
command_orderly Accounts words given = accounts_orderly (file 1 words) (file 2 words) (file 3 words) given
command_orderly Air words given = air_orderly (file 1 words) (file 2 words) (file 3 words) (file 4 words) given
command_orderly Apart words given = apart_orderly (file 1 words) (file 2 words) (file 3 words) (file 4 words) given
command_orderly Book words given = book_orderly (file 1 words) (file 2 words) (file 3 words) (file 4 words) given
command_orderly Card words given = card_orderly (file 1 words) (number 2 words) (file 3 words) given
command_orderly Cover words given = cover_orderly (file 1 words) (file 2 words) given
command_orderly Field words given = field_orderly (file 1 words) (file 2 words) (file 3 words) given
command_orderly Head words given = head_orderly (file 1 words) (file 2 words) (file 3 words) (file 4 words) given
command_orderly Layered words given = layered_orderly (file 1 words) (file 2 words) (number 3 words) given
command_orderly Lcard words given = lcard_orderly (file 1 words) (number 2 words) (number 3 words) (file 4 words) given
command_orderly Messages words given = messages_orderly (file 1 words) (file 2 words) given
command_orderly Next words given = next_orderly (file 1 words) (file 2 words) (number 3 words) (file 4 words) given
command_orderly Opens words given = opens_orderly (file 1 words) (file 2 words) (file 3 words) given
command_orderly Plan words given =
    plan_orderly (file 1 words) (file 2 words) (number 3 words) (number 4 words).value given
command_orderly Receive words given = receive_orderly (file 1 words) (file 2 words) (file 3 words) given
command_orderly Sample words given = sample_orderly (number 1 words).value (number 2 words).value (file 3 words) given
command_orderly Show words given = show_orderly (file 1 words) given
command_orderly StatusOf words given = status_orderly (file 1 words) (file 2 words) (number 3 words) given
command_orderly Tables words given = tables_orderly (file 1 words) given
command_orderly Trace words given = trace_orderly (file 1 words) (file 2 words) (file 3 words) given
command_orderly Trial words given = trial_orderly (file 1 words) (file 2 words) (file 3 words) given
command_orderly Twin words given = twin_orderly (file 1 words) (number 2 words) (file 3 words) given
command_orderly Watch words given = watch_orderly (file 1 words) (file 2 words) (file 3 words) given

-- no command answers `Usage`
pub other_command : (command : Command) (words : List Argument) (given : Readings) →
    IsOther (command_meaning command words given).result
other_command Accounts words given = other_accounts (file 1 words) (file 2 words) (file 3 words) given
other_command Air words given = other_air (file 1 words) (file 2 words) (file 3 words) (file 4 words) given
other_command Apart words given = other_apart (file 1 words) (file 2 words) (file 3 words) (file 4 words) given
other_command Book words given = other_book_order (file 1 words) (file 2 words) (file 3 words) (file 4 words) given
other_command Card words given = other_card_order (file 1 words) (number 2 words) (file 3 words) given
other_command Cover words given = other_cover (file 1 words) (file 2 words) given
other_command Field words given = other_field (file 1 words) (file 2 words) (file 3 words) given
other_command Head words given = other_head (file 1 words) (file 2 words) (file 3 words) (file 4 words) given
other_command Layered words given = other_layered (file 1 words) (file 2 words) (number 3 words) given
other_command Lcard words given = other_lcard (file 1 words) (number 2 words) (number 3 words) (file 4 words) given
other_command Messages words given = other_messages (file 1 words) (file 2 words) given
other_command Next words given = other_next (file 1 words) (file 2 words) (number 3 words) (file 4 words) given
other_command Opens words given = other_opens (file 1 words) (file 2 words) (file 3 words) given
other_command Plan words given =
    other_plan (file 1 words) (file 2 words) (number 3 words) (number 4 words).value given
other_command Receive words given = other_receive (file 1 words) (file 2 words) (file 3 words) given
other_command Sample words given = tt
other_command Show words given = other_show (file 1 words) given
other_command StatusOf words given = other_status (file 1 words) (file 2 words) (number 3 words) given
other_command Tables words given = other_tables (file 1 words) given
other_command Trace words given = other_trace (file 1 words) (file 2 words) (file 3 words) given
other_command Trial words given = other_trial (file 1 words) (file 2 words) (file 3 words) given
other_command Twin words given = other_twin (file 1 words) (number 2 words) (file 3 words) given
other_command Watch words given = other_watch (file 1 words) (file 2 words) (file 3 words) given

-- the example of each command is words that order it
pub example : (command : Command) → IsExample command
unfolding example_of named_words command_named command_name operands_of decimal_value words_in onto_first arguments_in
example Accounts = (refl, refl)
example Air = (refl, refl)
example Apart = (refl, refl)
example Book = (refl, refl)
example Card = (refl, refl)
example Cover = (refl, refl)
example Field = (refl, refl)
example Head = (refl, refl)
example Layered = (refl, refl)
example Lcard = (refl, refl)
example Messages = (refl, refl)
example Next = (refl, refl)
example Opens = (refl, refl)
example Plan = (refl, refl)
example Receive = (refl, refl)
example Sample = (refl, refl)
example Show = (refl, refl)
example StatusOf = (refl, refl)
example Tables = (refl, refl)
example Trace = (refl, refl)
example Trial = (refl, refl)
example Twin = (refl, refl)
example Watch = (refl, refl)

-- What a command does with the words at its places is the work of its row.

-- `accounts`
pub accounts_works : (words : List Argument) {one two three : FileArgument} {a b : IoState}
    {status : Status} → one ≡ file 1 words → two ≡ file 2 words → three ≡ file 3 words →
    Implements (accounts_meaning one two three) a b status → Implements (command_meaning Accounts words) a b status
accounts_works words at_one at_two at_three done = rw (at_one, at_two, at_three) at done

-- `air`
pub air_works : (words : List Argument) {one two three four : FileArgument} {a b : IoState}
    {status : Status} → one ≡ file 1 words → two ≡ file 2 words → three ≡ file 3 words →
    four ≡ file 4 words → Implements (air_meaning one two three four) a b status →
    Implements (command_meaning Air words) a b status
air_works words at_one at_two at_three at_four done = rw (at_one, at_two, at_three, at_four) at done

-- `apart`
pub apart_works : (words : List Argument) {one two three four : FileArgument} {a b : IoState}
    {status : Status} → one ≡ file 1 words → two ≡ file 2 words → three ≡ file 3 words →
    four ≡ file 4 words → Implements (apart_meaning one two three four) a b status →
    Implements (command_meaning Apart words) a b status
apart_works words at_one at_two at_three at_four done = rw (at_one, at_two, at_three, at_four) at done

-- `book`
pub book_works : (words : List Argument) {one two three four : FileArgument} {a b : IoState}
    {status : Status} → one ≡ file 1 words → two ≡ file 2 words → three ≡ file 3 words →
    four ≡ file 4 words → Implements (book_meaning one two three four) a b status →
    Implements (command_meaning Book words) a b status
book_works words at_one at_two at_three at_four done = rw (at_one, at_two, at_three, at_four) at done

-- `card`
pub card_works : (words : List Argument) {one three : FileArgument} {two : NumberArgument}
    {a b : IoState} {status : Status} → one ≡ file 1 words → two ≡ number 2 words →
    three ≡ file 3 words → Implements (card_meaning one two three) a b status →
    Implements (command_meaning Card words) a b status
card_works words at_one at_two at_three done = rw (at_one, at_two, at_three) at done

-- `cover`
pub cover_works : (words : List Argument) {one two : FileArgument} {a b : IoState}
    {status : Status} → one ≡ file 1 words → two ≡ file 2 words →
    Implements (cover_meaning one two) a b status → Implements (command_meaning Cover words) a b status
cover_works words at_one at_two done = rw (at_one, at_two) at done

-- `head`
pub head_works : (words : List Argument) {one two three four : FileArgument} {a b : IoState}
    {status : Status} → one ≡ file 1 words → two ≡ file 2 words → three ≡ file 3 words →
    four ≡ file 4 words → Implements (head_meaning one two three four) a b status →
    Implements (command_meaning Head words) a b status
head_works words at_one at_two at_three at_four done = rw (at_one, at_two, at_three, at_four) at done

-- `layered`
pub layered_works : (words : List Argument) {one two : FileArgument} {three : NumberArgument}
    {a b : IoState} {status : Status} → one ≡ file 1 words → two ≡ file 2 words →
    three ≡ number 3 words → Implements (layered_meaning one two three) a b status →
    Implements (command_meaning Layered words) a b status
layered_works words at_one at_two at_three done = rw (at_one, at_two, at_three) at done

-- `lcard`
pub lcard_works : (words : List Argument) {one four : FileArgument} {two three : NumberArgument}
    {a b : IoState} {status : Status} → one ≡ file 1 words → two ≡ number 2 words →
    three ≡ number 3 words → four ≡ file 4 words → Implements (lcard_meaning one two three four) a b status →
    Implements (command_meaning Lcard words) a b status
lcard_works words at_one at_two at_three at_four done = rw (at_one, at_two, at_three, at_four) at done

-- `messages`
pub messages_works : (words : List Argument) {one two : FileArgument} {a b : IoState}
    {status : Status} → one ≡ file 1 words → two ≡ file 2 words →
    Implements (messages_meaning one two) a b status → Implements (command_meaning Messages words) a b status
messages_works words at_one at_two done = rw (at_one, at_two) at done

-- `next`
pub next_works : (words : List Argument) {one two four : FileArgument} {three : NumberArgument}
    {a b : IoState} {status : Status} → one ≡ file 1 words → two ≡ file 2 words →
    three ≡ number 3 words → four ≡ file 4 words → Implements (next_meaning one two three four) a b status →
    Implements (command_meaning Next words) a b status
next_works words at_one at_two at_three at_four done = rw (at_one, at_two, at_three, at_four) at done

-- `opens`
pub opens_works : (words : List Argument) {one two three : FileArgument} {a b : IoState}
    {status : Status} → one ≡ file 1 words → two ≡ file 2 words → three ≡ file 3 words →
    Implements (opens_meaning one two three) a b status → Implements (command_meaning Opens words) a b status
opens_works words at_one at_two at_three done = rw (at_one, at_two, at_three) at done

-- `plan`
pub plan_works : (words : List Argument) {one two : FileArgument} {three four : NumberArgument}
    {a b : IoState} {status : Status} → one ≡ file 1 words → two ≡ file 2 words →
    three ≡ number 3 words → four ≡ number 4 words → Implements (plan_command_meaning one two three four.value) a b
    status →
    Implements (command_meaning Plan words) a b status
plan_works words at_one at_two at_three at_four done = rw (at_one, at_two, at_three, at_four) at done

-- `receive`
pub receive_works : (words : List Argument) {one two three : FileArgument} {a b : IoState}
    {status : Status} → one ≡ file 1 words → two ≡ file 2 words → three ≡ file 3 words →
    Implements (receive_meaning one two three) a b status → Implements (command_meaning Receive words) a b status
receive_works words at_one at_two at_three done = rw (at_one, at_two, at_three) at done

-- `sample`
pub sample_works : (words : List Argument) {three : FileArgument} {one two : NumberArgument}
    {a b : IoState} {status : Status} → one ≡ number 1 words → two ≡ number 2 words →
    three ≡ file 3 words → Implements (sample_meaning one.value two.value three) a b status →
    Implements (command_meaning Sample words) a b status
sample_works words at_one at_two at_three done = rw (at_one, at_two, at_three) at done

-- `show`
pub show_works : (words : List Argument) {one : FileArgument} {a b : IoState}
    {status : Status} → one ≡ file 1 words → Implements (show_meaning one) a b status →
    Implements (command_meaning Show words) a b status
show_works words at_one done = rw at_one at done

-- `status`
pub status_works : (words : List Argument) {one two : FileArgument} {three : NumberArgument}
    {a b : IoState} {status : Status} → one ≡ file 1 words → two ≡ file 2 words →
    three ≡ number 3 words → Implements (status_meaning one two three) a b status →
    Implements (command_meaning StatusOf words) a b status
status_works words at_one at_two at_three done = rw (at_one, at_two, at_three) at done

-- `tables`
pub tables_works : (words : List Argument) {one : FileArgument} {a b : IoState}
    {status : Status} → one ≡ file 1 words → Implements (tables_meaning one) a b status →
    Implements (command_meaning Tables words) a b status
tables_works words at_one done = rw at_one at done

-- `trace`
pub trace_works : (words : List Argument) {one two three : FileArgument} {a b : IoState}
    {status : Status} → one ≡ file 1 words → two ≡ file 2 words → three ≡ file 3 words →
    Implements (trace_meaning one two three) a b status → Implements (command_meaning Trace words) a b status
trace_works words at_one at_two at_three done = rw (at_one, at_two, at_three) at done

-- `twin`
pub twin_works : (words : List Argument) {one three : FileArgument} {two : NumberArgument}
    {a b : IoState} {status : Status} → one ≡ file 1 words → two ≡ number 2 words →
    three ≡ file 3 words → Implements (twin_meaning one two three) a b status →
    Implements (command_meaning Twin words) a b status
twin_works words at_one at_two at_three done = rw (at_one, at_two, at_three) at done

-- `watch`
pub watch_works : (words : List Argument) {one two three : FileArgument} {a b : IoState}
    {status : Status} → one ≡ file 1 words → two ≡ file 2 words → three ≡ file 3 words →
    Implements (watch_meaning one two three) a b status → Implements (command_meaning Watch words) a b status
watch_works words at_one at_two at_three done = rw (at_one, at_two, at_three) at done
