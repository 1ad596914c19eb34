-- The work that words mean makes OUT of the words or no file, before it the mark of the words or none, and refuses
-- before anything is made.
use Rattle.std.proofs.Common.{◌≡◌, ℕ, ◌-◌, Bool, true, false, List, [], ◌∷◌, Option, Some, None, Result, Ok, Err}
use Rattle.std.proofs.Common.{refl, sym, ap, subst, ◌∙◌}
use Rattle.std.specs.Prelude.{if◌then◌else◌, ◌||◌}
use Rattle.sd_command_base.specs.declared.status.Status.{Status}
use Rattle.sd_command_base.specs.declared.status.Status.TheVariants.{Usage}
use Rattle.sd_command_base.specs.Spec.{Readings, of_result, ◌>>=◌}
use Rattle.sd_command_base.specs.Work.{Work, work_of_text}
use Rattle.sd_command_base.specs.Shown.{word_at}
use Rattle.sd_command_line.specs.Pages.{help_text, version_text}
use Rattle.sd_command_line.specs.declared.command.Command.{Command}
use Rattle.sd_command_line.specs.declared.command.Command.TheVariants.{Air, Watch}
use Rattle.sd_command_line.specs.declared.operand.Operand.{Operand}
use Rattle.sd_command_line.specs.declared.operand.Kind.{Kind}
use Rattle.sd_command_line.specs.declared.operand.Kind.TheVariants as kind
use Rattle.sd_command_line.specs.Commands.{command_named, operands_of}
use Rattle.sd_command_line.specs.Operands.{operand_kind}
use Rattle.sd_command_line.specs.Words.{Argument, InputOf, OutOf, Order, CommandOf, HelpOf, VersionOf, file, named_file}
use Rattle.sd_command_line.specs.Words.{before}
use Rattle.sd_command_line.specs.Words.{out_text, or_output}
use Rattle.sd_command_line.specs.Words.{argument_of, arguments_from, out_is_taken, ordered, command_words, order_after}
use Rattle.sd_command_line.specs.Words.{asks_help, is_help}
use Rattle.sd_command_line.specs.Words.{is_version, help_on, help_words, version_words, named_words, order_of}
use Rattle.std.proofs.Common.{suc, length, slice_get, not, ◌==◌, ◌≤◌, ◌+◌, arith, eqb-true}
use Rattle.sd_run.specs.Meaning.{order_meaning, meaning}
use Rattle.sd_command_base.specs.Made.{used_name}
use Rattle.sd_law_run.specs.Outcome.{mark_in_row, out_in_row, out_name, used_by}
use Rattle.sd_law_chain.proofs.Found.{one_value}
use Rattle.sd_run.proofs.Works.{AreOrderly, none_made}
use Rattle.sd_run.proofs.Rows.{mark_by, out_at, out_by, command_orderly}

-- the file that an order makes
abbrev out_of : Order → Option (List ℕ)
out_of (CommandOf command arguments) = out_by command arguments
out_of (HelpOf topic) = None
out_of VersionOf = None

-- and the mark
abbrev mark_of : Order → Option (List ℕ)
mark_of (CommandOf command arguments) = mark_by command arguments
mark_of (HelpOf topic) = None
mark_of VersionOf = None

order_orderly : (order : Order) (given : Readings) →
    AreOrderly (out_of order) (mark_of order) (order_meaning order given).result
order_orderly (CommandOf command arguments) given = command_orderly command arguments given
order_orderly (HelpOf topic) given = none_made (work_of_text (help_text topic)) refl refl (λ refusal. absurd refusal)
order_orderly VersionOf given = none_made (work_of_text version_text) refl refl (λ refusal. absurd refusal)

-- an order that words are makes the file that stands at OUT's place among them, and the mark of their SITE
record NamesFiles (words : List (List ℕ)) (order : Order) : Type 0 where
  out : (name : List ℕ) → out_of order ≡ Some name → out_name words ≡ Some name
  mark : (name : List ℕ) → mark_of order ≡ Some name → used_by words ≡ Some name

abbrev NamesOut : List (List ℕ) → Result Order Status → Type 0
NamesOut words (Ok order) = NamesFiles words order
NamesOut words (Err status) = Unit {0}

names_if : (t : Bool) (words : List (List ℕ)) (then_order else_order : Result Order Status) →
    NamesOut words then_order → NamesOut words else_order → NamesOut words (if t then then_order else else_order)
names_if true words then_order else_order h k = h
names_if false words then_order else_order h k = k

record Before (first : Result Argument Status) (rest : Result (List Argument) Status) (arguments : List Argument) :
    Type 0 where
  argument : Argument
  later : List Argument
  first_is : first ≡ Ok argument
  rest_is : rest ≡ Ok later
  same : arguments ≡ argument ∷ later

both_ok : (first : Result Argument Status) (rest : Result (List Argument) Status) (arguments : List Argument) →
    before first rest ≡ Ok arguments → Before first rest arguments
both_ok (Err status) rest arguments e = absurd (cc)
both_ok (Ok argument) (Err status) arguments e = absurd (cc)
both_ok (Ok argument) (Ok later) arguments e =
    record { argument = argument; later = later; first_is = refl; rest_is = refl; same = cc }

out_read : (place : ℕ) (k : Kind) (text : List ℕ) (argument : Argument) → k ≡ kind.Output →
    argument_of place k text ≡ Ok argument → argument ≡ OutOf (word_at place text)
out_read place k text argument is e =
    let read = sym (ap (λ (o : Kind). argument_of place o text) is) ∙ e in cc

-- the argument at OUT's place is the text there
or_same : (k : Kind) (at : ℕ) (text : List ℕ) (argument : Argument) (all : List Argument)
    (later other : Option (List ℕ)) → argument_of at k text ≡ Ok argument →
    slice_get all (at - 1) ≡ Some argument → later ≡ other →
    or_output k text later ≡ or_output k (file at all).text other
or_same kind.Input at text argument all later other e there same = same
or_same kind.Output at text argument all later other e there same =
    let is : argument ≡ OutOf (word_at at text) = out_read at kind.Output text argument refl e in
    sym (ap (λ (a : Option Argument). Some (named_file at a).text) (there ∙ ap (λ (a : Argument). Some a) is))
or_same (kind.Number most) at text argument all later other e there same = same
or_same (kind.Count most) at text argument all later other e there same = same

-- arguments that were read have OUT where the texts have it
out_same : (operands : List Operand) (texts : List (List ℕ)) (at : ℕ) (arguments all : List Argument) → 1 ≤ at →
    length texts ≡ length operands → arguments_from at operands texts ≡ Ok arguments →
    ((i : ℕ) → slice_get all (at - 1 + i) ≡ slice_get arguments i) →
    out_text operands texts ≡ out_at at operands all
out_same [] texts at arguments all low same e there = refl
out_same (operand ∷ operands) [] at arguments all low same e there = absurd (omega (arith, same))
out_same (operand ∷ operands) (text ∷ texts) at arguments all low same e there =
    let both = both_ok (argument_of at (operand_kind operand) text) (arguments_from (at + 1) operands texts) arguments e
    in
    let here : at - 1 ≡ at - 1 + 0 = omega arith in
    let first : slice_get all (at - 1) ≡ Some both.argument =
    ap (slice_get all) here ∙ (there 0 ∙ ap (λ (xs : List Argument). slice_get xs 0) both.same) in
    or_same (operand_kind operand) at text both.argument all (out_text operands texts) (out_at (at + 1) operands all)
    both.first_is first
    (out_same operands texts (at + 1) both.later all (omega arith) (omega (arith, same)) both.rest_is
    (λ i. let next : at + 1 - 1 + i ≡ at - 1 + suc i = omega (arith, low) in
    ap (slice_get all) next ∙ (there (suc i) ∙ ap (λ (xs : List Argument). slice_get xs (suc i)) both.same)))

-- a command makes a mark or none
pub data Marking (command : Command) : Type 0 where
  is_air : command ≡ Air → Marking command
  none_marked : ((arguments : List Argument) → mark_by command arguments ≡ None) → Marking command

pub marking_of : (command : Command) → Marking command
marking_of Air = is_air refl
marking_of Watch = none_marked (λ arguments. refl)
marking_of command = none_marked (λ arguments. refl)

-- the mark of `air` is that of its first argument
air_marks : (texts : List (List ℕ)) (arguments : List Argument) → length texts ≡ length (operands_of Air) →
    arguments_from 1 (operands_of Air) texts ≡ Ok arguments →
    mark_in_row (Some Air) texts ≡ mark_by Air arguments
unfolding operands_of
air_marks [] arguments same e = absurd (omega (arith, same))
air_marks (site ∷ []) arguments same e = absurd (omega (arith, same))
air_marks (site ∷ book ∷ []) arguments same e = absurd (omega (arith, same))
air_marks (site ∷ book ∷ clear ∷ []) arguments same e = absurd (omega (arith, same))
air_marks (site ∷ book ∷ clear ∷ out ∷ []) arguments same e =
    ap (λ (a : List Argument). Some (used_name (file 1 a).text))
    (one_value (Ok (InputOf (word_at 1 site) ∷ InputOf (word_at 2 book) ∷ InputOf (word_at 3 clear)
    ∷ OutOf (word_at 4 out) ∷ [])) _ arguments refl e)
air_marks (site ∷ book ∷ clear ∷ out ∷ more ∷ texts) arguments same e = absurd (omega (arith, same))

row_marks : (command : Command) (texts : List (List ℕ)) (arguments : List Argument) →
    length texts ≡ length (operands_of command) → arguments_from 1 (operands_of command) texts ≡ Ok arguments →
    (name : List ℕ) → mark_by command arguments ≡ Some name → mark_in_row (Some command) texts ≡ Some name
row_marks command texts arguments same e name made = elim (marking_of command) [
  | is_air is ↦
      let count = subst (λ (c : Command). length texts ≡ length (operands_of c)) is same in
      let read = subst (λ (c : Command). arguments_from 1 (operands_of c) texts ≡ Ok arguments) is e in
      ap (λ (c : Command). mark_in_row (Some c) texts) is
      ∙ (air_marks texts arguments count read
      ∙ (ap (λ (c : Command). mark_by c arguments) (sym is) ∙ made))
  | none_marked none ↦ absurd (let both = sym (none arguments) ∙ made in cc)
]

row_names : (command : Command) (name : List ℕ) (texts : List (List ℕ)) → command_named name ≡ Some command →
    NamesOut (name ∷ texts) (command_words command (operands_of command) texts)
row_names command name texts found =
    by_count (length texts == length (operands_of command)) (out_is_taken command (operands_of command) texts) refl
  where
    by_arguments : (r : Result (List Argument) Status) → length texts ≡ length (operands_of command) →
        arguments_from 1 (operands_of command) texts ≡ r → NamesOut (name ∷ texts) (ordered command r)
    by_arguments (Ok arguments) same e = record {
      out = λ text made.
          let all = out_same (operands_of command) texts 1 arguments arguments (omega arith) same e
          (λ i. let here : 1 - 1 + i ≡ i = omega arith in ap (slice_get arguments) here) in
          ap (λ (c : Option Command). out_in_row c texts) found ∙ (all ∙ made);
      mark = λ text made. ap (λ (c : Option Command). mark_in_row c texts) found
          ∙ row_marks command texts arguments same e text made;
    }
    by_arguments (Err status) same e = tt

    by_count : (same read : Bool) → (length texts == length (operands_of command)) ≡ same →
        NamesOut (name ∷ texts) (if not same || read then Err Usage
        else ordered command (arguments_from 1 (operands_of command) texts))
    by_count false read e = tt
    by_count true true e = tt
    by_count true false e =
        by_arguments (arguments_from 1 (operands_of command) texts)
        (eqb-true (length texts) (length (operands_of command)) e) refl

-- pages make no file
none_named : (words : List (List ℕ)) (order : Order) → out_of order ≡ None → mark_of order ≡ None →
    NamesFiles words order
none_named words order none unmarked = record {
  out = λ name e. absurd (let both = sym none ∙ e in cc);
  mark = λ name e. absurd (let both = sym unmarked ∙ e in cc);
}

topic_names : (words : List (List ℕ)) (topic : Option Command) → NamesOut words (help_on topic)
topic_names words None = tt
topic_names words (Some topic) = none_named words (HelpOf (Some topic)) refl refl

help_names : (name : List ℕ) (texts : List (List ℕ)) → NamesOut (name ∷ texts) (help_words texts)
help_names name [] = none_named (name ∷ []) (HelpOf None) refl refl
help_names name (word ∷ next ∷ words) = tt
help_names name (word ∷ []) = topic_names (name ∷ word ∷ []) (command_named word)

version_names : (name : List ℕ) (texts : List (List ℕ)) → NamesOut (name ∷ texts) (version_words texts)
version_names name [] = none_named (name ∷ []) VersionOf refl refl
version_names name (word ∷ words) = tt

order_names : (words : List (List ℕ)) → NamesOut words (order_of words)
unfolding named_words
order_names [] = tt
order_names (name ∷ texts) =
    names_if (is_help name) (name ∷ texts) (help_words texts) _ (help_names name texts)
    (names_if (is_version name) (name ∷ texts) (version_words texts) _ (version_names name texts)
    (names_if (asks_help texts) (name ∷ texts) (help_on (command_named name)) _
    (topic_names (name ∷ texts) (command_named name)) (by_command (command_named name) refl)))
  where
    by_command : (found : Option Command) → command_named name ≡ found →
        NamesOut (name ∷ texts) (order_after found texts)
    by_command None e = tt
    by_command (Some command) e = row_names command name texts e

-- the work that words mean makes the file that they name at OUT's place, and the mark of their SITE, or none
widened : (words : List (List ℕ)) (order : Order) (meant : Result Work Status) → NamesFiles words order →
    AreOrderly (out_of order) (mark_of order) meant → AreOrderly (out_name words) (used_by words) meant
widened words order (Ok work) names h = record {
  makes = λ made e. names.out made.name (h.makes made e);
  marks = λ made e. names.mark made.name (h.marks made e);
  keeps = h.keeps;
}
widened words order (Err status) names h = tt

pub words_orderly : (words : List (List ℕ)) (given : Readings) →
    AreOrderly (out_name words) (used_by words) (meaning words given).result
words_orderly words given = by_order (order_of words) (order_names words)
  where
    by_order : (r : Result Order Status) → NamesOut words r →
        AreOrderly (out_name words) (used_by words) (of_result r >>= λ order. order_meaning order given).result
    by_order (Ok order) names = widened words order (order_meaning order given).result names (order_orderly order given)
    by_order (Err status) names = tt
