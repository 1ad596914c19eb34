-- What a longer book is, or why it is refused.
use Rattle.std.proofs.Common.{◌≡◌, ◌⊎◌, ℕ, List, [], ◌++◌, map, Option, Some, Ok, Err}
use Rattle.std.proofs.Common.{refl, sym, ap, subst, ◌∙◌, inl, inr}
use Rattle.sd_book.specs.declared.command.Command.{Command}
use Rattle.sd_book.specs.declared.fault.BookFault.{BookFault}
use Rattle.sd_book.specs.declared.fault.BookFault.TheVariants as book
use Rattle.sd_book.specs.Faults.{IsFirstLimit}
use Rattle.sd_book.specs.Limits.{IsWithinLimits}
use Rattle.sd_book.proofs.Causes.{cause_judged}
use Rattle.sd_book.proofs.Judged.{said_again}
use Rattle.sd_command_base.specs.declared.status.Status.{Status}
use Rattle.sd_command_base.specs.declared.status.Status.TheVariants.{NoMemory}
use Rattle.sd_book.specs.Text.{text_of_book}
use Rattle.sd_command_base.specs.Outside.{IoState}
use Rattle.sd_command_base.specs.Spec.{Spec, FileArgument, Readings, of_result, value, ◌>>=◌}
use Rattle.sd_command_base.specs.Work.{NoSteps, Work}
use Rattle.sd_command_base.specs.Outcome.{IsRefusal, IsEnding, OutcomeWithin}
use Rattle.sd_command_base.proofs.Follow.{then_is}
use Rattle.sd_command_base.specs.Both.{SiteBook, both_meaning}
use Rattle.sd_command_base.specs.Files.{book_in, book_of_file, refused_book, book_or_status}
use Rattle.sd_command_base.specs.Made.{making}
use Rattle.sd_command_base.proofs.Thirds.{judged_obeys}
use Rattle.sd_run_books.specs.Book.{longer_book, book_meaning}

-- commands within the limits are a longer book
pub longer_fits : (word d : ℕ) (commands added all : List Command) → all ≡ commands ++ added → IsWithinLimits d all →
    longer_book word d commands added ≡ Ok all
unfolding longer_book
longer_fits word d commands added all same within =
    subst (λ (cs : List Command). longer_book word d commands added ≡ Ok cs) (sym same)
    (ap (book_or_status word d []) (said_again d (commands ++ added)
    (subst (λ (cs : List Command). IsWithinLimits d cs) same within)))

-- a limit that is broken refuses it
pub longer_refused : (word d : ℕ) (commands added : List Command) (fault : BookFault) →
    (fault ≡ book.NoMemory) ⊎ IsFirstLimit d (commands ++ added) fault →
    ((longer_book word d commands added ≡ Err (refused_book word d [] fault)) × IsRefusal (refused_book word d [] fault)
    × IsEnding (refused_book word d [] fault)) ⊎ (refused_book word d [] fault ≡ NoMemory)
unfolding longer_book
longer_refused word d commands added fault (inl none) = inr (ap (refused_book word d []) none)
longer_refused word d commands added fault (inr first) = inl (
  ap (book_or_status word d []) (cause_judged d (map Some (commands ++ added)) fault first.cause),
  subst (λ (f : BookFault). IsRefusal (refused_book word d [] f)) (sym first.limit.1) tt,
  subst (λ (f : BookFault). IsEnding (refused_book word d [] f)) (sym first.limit.1) tt,
)

-- what is meant by what the third file gave, once the first two were read
abbrev pub added_by : ℕ → SiteBook → Option (List ℕ) → Spec (List Command)
added_by word both got = book_of_file word both.site.height got

-- and by what all three said
abbrev pub made_of : FileArgument → FileArgument → SiteBook → List Command → Spec Work
made_of commands out both added =
    of_result (longer_book commands.number both.site.height both.commands added)
    >>= λ longer. value (making NoSteps out (text_of_book longer))

-- a longer book whose file was made
pub longer_made : (word d : ℕ) (commands added whole : List Command) (out : FileArgument) (bytes : List ℕ)
    (a b : IoState) (status : Status) → longer_book word d commands added ≡ Ok whole → bytes ≡ text_of_book whole →
    OutcomeWithin (value (making NoSteps out bytes)) a b status →
    OutcomeWithin (of_result (longer_book word d commands added) >>= λ longer.
    value (making NoSteps out (text_of_book longer))) a b status
longer_made word d commands added whole out bytes a b status is same made =
    judged_obeys (longer_book word d commands added) whole (λ longer. value (making NoSteps out (text_of_book longer)))
    a b
    status is (subst (λ (text : List ℕ). OutcomeWithin (value (making NoSteps out text)) a b status) same made)

-- good files mean that OUT becomes the file of the longer book
pub good_files : (site book commands out : FileArgument) (given : Readings) (both : SiteBook) (added : List Command) →
    (both_meaning site book given).result ≡ Ok both → (book_in given both.site.height commands).result ≡ Ok added →
    IsWithinLimits both.site.height (both.commands ++ added) →
    (book_meaning site book commands out given).result ≡ Ok (making NoSteps out (text_of_book (both.commands ++ added)))
unfolding book_meaning
good_files site book commands out given both added first third within =
    then_is (both_meaning site book given) both
    (λ both. added_by commands.number both (given commands) >>= made_of commands out both) first
    ∙ then_is (book_in given both.site.height commands) added (made_of commands out both) third
    ∙ then_is (of_result (longer_book commands.number both.site.height both.commands added)) (both.commands ++ added)
    (λ longer. value (making NoSteps out (text_of_book longer)))
    (longer_fits commands.number both.site.height both.commands added (both.commands ++ added) refl within)
