-- What a run of `next` and `twin` with the names of a chain comes to.
use Rattle.std.proofs.Common.{◌≡◌, ℕ, ◌+◌}
use Rattle.std.proofs.Common.{List, [], ◌∷◌, ◌++◌, length, Option, Some, None, Result, Ok, refl, sym, ap, subst}
use Rattle.std.proofs.Common.{◌∙◌}
use Rattle.std.specs.FinMap.{get, insert}
use Rattle.sd_base.specs.Types.{Bytes, FileName}
use Rattle.sd_ports.specs.Files.{Files}
use Rattle.sd_command_base.specs.declared.status.Status.{Status}
use Rattle.sd_command_base.specs.declared.status.Status.TheVariants.{Done}
use Rattle.sd_command_base.specs.Outside.{IoState}
use Rattle.sd_command_base.specs.Results.{RunResult}
use Rattle.sd_command_base.specs.Spec.{FileArgument, Readings, contents_of, of_result}
use Rattle.sd_command_base.specs.Spec.{◌>>=◌}
use Rattle.sd_command_base.specs.Shown.{NumberArgument}
use Rattle.sd_command_base.specs.Work.{Work, files_marked, files_with}
use Rattle.sd_command_base.specs.Made.{out_file}
use Rattle.sd_command_line.specs.Words.{InputOf, NextOf, NumberOf, Order, OutOf, TwinOf, order_of}
use Rattle.sd_run.specs.Meaning.{meaning, order_meaning}
use Rattle.sd_law_chain.specs.Chain.{Call, Link, Next, Twin, link_at, made_by}
use Rattle.sd_law_run.specs.Folders.{HasName, IsFolder, site_name_at, text_of_link}
use Rattle.sd_law_run.proofs.Outs.{done_leaves}
use Rattle.sd_law_run.proofs.FolderFiles.{longer_holds, next_holds}
use Rattle.sd_law_chain.proofs.Found.{one_value}
use Rattle.sd_law_run.proofs.FolderCalls.{IsCall, next_call, twin_call}
use Rattle.sd_law_run.proofs.FolderRuns.{made_text, none_dead}
use Rattle.sd_law_run.proofs.FolderOrders.{next_counts, order_so, twin_counts}
use Rattle.sd_command_line.specs.declared.command.Command.TheVariants as commands

-- one order is read
one_order : (words : List Bytes) (order found : Order) → order_of words ≡ Ok order → order_of words ≡ Ok found →
    found ≡ order
one_order words order found is other = one_value (order_of words) found order other is

-- the work of an order
pub meant_so : (words : List Bytes) (order : Order) (given : Readings) → order_of words ≡ Ok order →
    (meaning words given).result ≡ (order_meaning order given).result
meant_so words order given is =
    ap (λ (r : Result Order Status). (of_result r >>= λ o. order_meaning o given).result) is

-- the chain is longer by the call whose file was made
done_longer : (files : Files) (name : FileName) (root : Link) (calls : List Call) (i : ℕ) (call : Call)
    (out : FileArgument) (work : Work) (before now : Option Files) → IsFolder files name root calls →
    HasName name i → out.text ≡ site_name_at name i → IsCall root calls None i call out work →
    before ≡ Some files → now ≡ files_with work.out (files_marked work.mark before) →
    (after : Files) × (now ≡ Some after) × IsFolder after name root (calls ++ call ∷ [])
done_longer files name root calls i call out work before now holds named at is told left =
    let text = text_of_link (made_by (link_at root calls (length calls)) call) in
    let next : HasName name (length calls + 1) = subst (HasName name) is.at named in
    let here : out.text ≡ site_name_at name (length calls + 1) = at ∙ ap (site_name_at name) is.at in
    let made : now ≡ Some (insert files out.text text) =
    left ∙ (ap (λ (w : Work). files_with w.out (files_marked w.mark before)) is.makes
    ∙ (ap (λ (bytes : Bytes). files_with (Some (out_file out bytes)) before)
    (made_text (link_at root calls (length calls)) call)
    ∙ ap (files_with (Some (out_file out text))) told)) in (
      insert files out.text text,
      made,
      subst (λ (n : FileName). IsFolder (insert files n text) name root (calls ++ call ∷ [])) (sym here)
          (longer_holds (insert files (site_name_at name (length calls + 1)) text) name root calls call
          (next_holds files name root calls None text holds next) next is.taken),
    )

-- `next` that is done
pub next_done : (words : List Bytes) (files : Files) (name : FileName) (root : Link) (calls : List Call) (i : ℕ)
    (a b : IoState) (site book : FileArgument) (count : NumberArgument) (out : FileArgument) →
    a.place.files ≡ Some files → IsFolder files name root calls → order_of words ≡ Ok (NextOf site book count out) →
    HasName name i → out.text ≡ site_name_at name i → RunResult (meaning words) a b Done →
    (bytes : Bytes) × (get files book.text ≡ Some bytes)
    × ((now : Files) × (b.place.files ≡ Some now) × IsFolder now name root (calls ++ Next bytes count.value ∷ []))
next_done words files name root calls i a b site book count out told holds order named at answers =
    let done = done_leaves (meaning words) files a b Done told refl answers in
    let is = sym (meant_so words (NextOf site book count out) (contents_of files) order) ∙ done.is_meant in
    let read = (order_so words commands.Next (InputOf site ∷ InputOf book ∷ NumberOf count ∷ OutOf out ∷ []) order).1 in
    let some =
    next_counts read.0 (InputOf site ∷ InputOf book ∷ NumberOf count ∷ OutOf out ∷ []) read.1 in
    let (bytes, there, call) =
    next_call files name root calls None i site book count out done.work holds none_dead named at some is in (
      bytes,
      there,
      done_longer files name root calls i (Next bytes count.value) out done.work a.place.files b.place.files holds named
          at call told done.made.files,
    )

-- `twin` that is done
pub twin_done : (words : List Bytes) (files : Files) (name : FileName) (root : Link) (calls : List Call) (i : ℕ)
    (a b : IoState) (site : FileArgument) (count : NumberArgument) (out : FileArgument) →
    a.place.files ≡ Some files → IsFolder files name root calls → order_of words ≡ Ok (TwinOf site count out) →
    HasName name i → out.text ≡ site_name_at name i → RunResult (meaning words) a b Done →
    (now : Files) × (b.place.files ≡ Some now) × IsFolder now name root (calls ++ Twin count.value ∷ [])
twin_done words files name root calls i a b site count out told holds order named at answers =
    let done = done_leaves (meaning words) files a b Done told refl answers in
    let is = sym (meant_so words (TwinOf site count out) (contents_of files) order) ∙ done.is_meant in
    let read = (order_so words commands.Twin (InputOf site ∷ NumberOf count ∷ OutOf out ∷ []) order).1 in
    let some = twin_counts read.0 (InputOf site ∷ NumberOf count ∷ OutOf out ∷ []) read.1 in
    let call = twin_call files name root calls None i site count out done.work holds none_dead named at some is in
    done_longer files name root calls i (Twin count.value) out done.work a.place.files b.place.files holds named at call
    told done.made.files
