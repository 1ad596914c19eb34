-- What a run leaves of a folder with a chain.
use Rattle.std.proofs.Common.{arith, ◌≡◌, ◌≢◌, ◌⊎◌, inl, inr, ℕ, ◌+◌, ◌≤◌, Bool}
use Rattle.std.proofs.Common.{true, false}
use Rattle.std.proofs.Common.{List, [], ◌∷◌, ◌++◌, length}
use Rattle.std.proofs.Common.{Option, Some, None, Ok, refl, sym, ap, subst, ◌∙◌}
use Rattle.std.specs.FinMap.{get, insert}
use Rattle.std.specs.Str.{bytes_eq}
use Rattle.std.proofs.lemmas.Option.{same_Some}
use Rattle.std.proofs.lemmas.Slice.Eq.{bytes_eq-Decides}
use Rattle.sd_base.specs.Types.{Bytes, FileName}
use Rattle.sd_ports.specs.Files.{Files}
use Rattle.sd_ports.specs.Bytes.{IsPrefix}
use Rattle.sd_command_base.specs.declared.status.Status.{Status}
use Rattle.sd_command_base.specs.declared.status.Status.TheVariants.{Done}
use Rattle.sd_command_base.specs.Outside.{DepotState, IoState}
use Rattle.sd_command_base.specs.Results.{RunResult}
use Rattle.sd_command_base.specs.Spec.{FileArgument, Readings, contents_of, of_result}
use Rattle.sd_command_base.specs.Work.{Mark, Out, Work, files_marked, files_with}
use Rattle.sd_command_line.specs.declared.command.Command.{Command}
use Rattle.sd_command_line.specs.declared.command.Command.TheVariants.{Next, Twin}
use Rattle.sd_command_line.specs.Words.{Argument, CommandOf, HelpOf, Order, VersionOf, file, number, order_of}
use Rattle.sd_run.specs.Meaning.{command_meaning, meaning, order_meaning}
use Rattle.sd_law_chain.specs.Chain as chain
use Rattle.sd_law_chain.specs.Chain.{Call, IsChain, IsTaken, Link, link_at, made_by}
use Rattle.sd_law_chain.specs.Made.{file_made}
use Rattle.sd_law_run.specs.Left.{HasOut, with_mark_file}
use Rattle.sd_law_run.specs.Outcome.{out_name}
use Rattle.sd_site_cards.specs.Written.{IsSayable, is_first_site, site_of_chain}
use Rattle.sd_run_books.specs.Chain.{line_of_book}
use Rattle.sd_law_formats.proofs.TornSites.{torn_sites}
use Rattle.sd_law_broadcast.specs.Runs.{HasWords}
use Rattle.sd_law_chain.proofs.Rising.{all_are_sayable, words_are_had}
use Rattle.sd_law_run.specs.Folders.{AsksFor, FolderOutcome, kept, longer, torn, HasName, HoldsChain, IsFolder, IsTorn}
use Rattle.sd_law_run.specs.Folders.{SparesNames}
use Rattle.sd_law_run.specs.Folders.{site_name_at, last_number_in, text_of_link}
use Rattle.sd_law_run.proofs.AirOrders.{mark_is}
use Rattle.sd_law_run.proofs.Left.{known_marked, run_leaves}
use Rattle.sd_law_run.proofs.Outs.{done_leaves, out_is}
use Rattle.sd_law_run.proofs.Shelf.{made_there}
use Rattle.sd_law_run.proofs.FolderNames.{find_name}
use Rattle.sd_law_run.proofs.FolderOrders.{IsRead, Kind, is_next, is_other, is_twin, kind_of, next_counts, order_so}
use Rattle.sd_law_run.proofs.FolderOrders.{twin_counts}
use Rattle.sd_law_run.proofs.FolderFiles.{longer_holds, next_holds, one_more, others_hold}
use Rattle.sd_law_chain.proofs.Links.{chain_more, link_made}
use Rattle.sd_law_chain.proofs.Found.{next_found, one_value, then_ok, twin_found}
use Rattle.sd_law_run.proofs.FolderCalls.{IsCall, IsDead, next_call, twin_call}

-- a site of a chain is made by a call of the chain, or by a run that is neither `next` nor `twin`
pub record IsCallOf (words : List Bytes) (files : Files) (root : Link) (calls : List Call) (above : Option Bytes)
    (i : ℕ) (made : Out) : Type 0 where
  pub at : i ≡ length calls + 1
  pub none : above ≡ None
  pub call : Call
  pub asked : AsksFor words files call
  pub taken : IsTaken (link_at root calls (length calls)) call
  pub bytes : made.bytes ≡ text_of_link (made_by (link_at root calls (length calls)) call)

-- the bytes of a call's file
pub made_text : (link : Link) (call : Call) → (file_made link call).bytes ≡ text_of_link (made_by link call)
made_text link (chain.Next bytes words) = refl
made_text link (chain.Twin words) = refl

-- the file that the work of a call makes
call_of : (words : List Bytes) (files : Files) (root : Link) (calls : List Call) (above : Option Bytes) (i : ℕ)
    (call : Call) (out : FileArgument) (work : Work) (made : Out) → work.out ≡ Some made → AsksFor words files call →
    IsCall root calls above i call out work →
    IsCallOf words files root calls above i made
call_of words files root calls above i call out work made makes asked is = record {
  at = is.at;
  none = is.none;
  call = call;
  asked = asked;
  taken = is.taken;
  bytes = ap (λ (o : Out). o.bytes) (same_Some made _ (sym makes ∙ ap (λ (w : Work). w.out) is.makes))
      ∙ made_text (link_at root calls (length calls)) call;
}

-- OUT of `next` and of `twin` is that of their arguments
next_out : (arguments : List Argument) (given : Readings) (work : Work) (made : Out) →
    (command_meaning Next arguments given).result ≡ Ok work → work.out ≡ Some made → (file 4 arguments).text ≡ made.name
next_out arguments given work made is makes =
    let out = file 4 arguments in
    let found = next_found (file 1 arguments) (file 2 arguments) (number 3 arguments) out given work is in
    ap (λ (o : Out). o.name) (same_Some _ made (sym (ap (λ (w : Work). w.out) found.is_work) ∙ makes))

twin_out : (arguments : List Argument) (given : Readings) (work : Work) (made : Out) →
    (command_meaning Twin arguments given).result ≡ Ok work → work.out ≡ Some made → (file 3 arguments).text ≡ made.name
twin_out arguments given work made is makes =
    let out = file 3 arguments in
    let found = twin_found (file 1 arguments) (number 2 arguments) out given work is in
    ap (λ (o : Out). o.name) (same_Some _ made (sym (ap (λ (w : Work). w.out) found.is_work) ∙ makes))

next_of : (words : List Bytes) (files : Files) (name : FileName) (root : Link) (calls : List Call)
    (above : Option Bytes) (i : ℕ)
    (arguments : List Argument) (work : Work) (made : Out) → HoldsChain files name root calls above → IsDead above →
    HasName name i → made.name ≡ site_name_at name i →
    order_of words ≡ Ok (CommandOf Next arguments) → 1 ≤ (number 3 arguments).value →
    (command_meaning Next arguments (contents_of files)).result ≡ Ok work → work.out ≡ Some made →
    IsCallOf words files root calls above i made
next_of words files name root calls above i arguments work made holds dead named at read some is makes =
    let out = file 4 arguments in
    let count = number 3 arguments in
    let (bytes, there, call) = next_call files name root calls above i (file 1 arguments) (file 2 arguments) count out
    work holds dead named (next_out arguments (contents_of files) work made is makes ∙ at) some is
    in
    call_of words files root calls above i (chain.Next bytes count.value) out work made makes
    (arguments, read, there, refl) call

twin_of : (words : List Bytes) (files : Files) (name : FileName) (root : Link) (calls : List Call)
    (above : Option Bytes) (i : ℕ)
    (arguments : List Argument) (work : Work) (made : Out) → HoldsChain files name root calls above → IsDead above →
    HasName name i → made.name ≡ site_name_at name i →
    order_of words ≡ Ok (CommandOf Twin arguments) → 1 ≤ (number 2 arguments).value →
    (command_meaning Twin arguments (contents_of files)).result ≡ Ok work → work.out ≡ Some made →
    IsCallOf words files root calls above i made
twin_of words files name root calls above i arguments work made holds dead named at read some is makes =
    let out = file 3 arguments in
    let count = number 2 arguments in
    let call = twin_call files name root calls above i (file 1 arguments) count out work holds dead named
    (twin_out arguments (contents_of files) work made is makes ∙ at) some is in
    call_of words files root calls above i (chain.Twin count.value) out work made makes (arguments, read, refl) call

-- a run makes a site of a chain by a call of the chain
pub made_of : (words : List Bytes) (files : Files) (name : FileName) (root : Link) (calls : List Call)
    (above : Option Bytes) (i : ℕ) (work : Work) (made : Out) → HoldsChain files name root calls above → IsDead above →
    SparesNames name words → HasName name i → made.name ≡ site_name_at name i →
    (meaning words (contents_of files)).result ≡ Ok work → work.out ≡ Some made →
    IsCallOf words files root calls above i made
made_of words files name root calls above i work made holds dead spares named at is makes =
    let (order, read, meant) =
    then_ok (of_result (order_of words)) (λ o. order_meaning o (contents_of files)) work is in
    by_order order read meant
  where
    named_out : out_name words ≡ Some (site_name_at name i)
    named_out = out_is words (contents_of files) work made is makes ∙ ap Some at

    by_kind : (command : Command) (arguments : List Argument) → Kind command →
        order_of words ≡ Ok (CommandOf command arguments) →
        (command_meaning command arguments (contents_of files)).result ≡ Ok work →
        IsCallOf words files root calls above i made
    by_kind command arguments (is_next e) read meant =
        let found = (order_so words command arguments read).1 in
        next_of words files name root calls above i arguments work made holds dead named at
        (read ∙ ap (λ (c : Command). Ok (CommandOf c arguments)) e)
        (next_counts found.0 arguments
        (subst (λ (c : Command). IsRead c found.0 arguments) e found.1))
        (sym (ap (λ (c : Command). (command_meaning c arguments (contents_of files)).result) e) ∙ meant) makes
    by_kind command arguments (is_twin e) read meant =
        let found = (order_so words command arguments read).1 in
        twin_of words files name root calls above i arguments work made holds dead named at
        (read ∙ ap (λ (c : Command). Ok (CommandOf c arguments)) e)
        (twin_counts found.0 arguments
        (subst (λ (c : Command). IsRead c found.0 arguments) e found.1))
        (sym (ap (λ (c : Command). (command_meaning c arguments (contents_of files)).result) e) ∙ meant) makes
    by_kind command arguments (is_other no_next no_twin) read meant =
        let found = (order_so words command arguments read).0 in
        absurd ((spares i named).0 (λ makes_site. elim makes_site [
          | inl e ↦ no_next (same_Some command Next (sym found ∙ e))
          | inr e ↦ no_twin (same_Some command Twin (sym found ∙ e))
        ]) named_out)

    by_order : (order : Order) → order_of words ≡ Ok order →
        (order_meaning order (contents_of files)).result ≡ Ok work → IsCallOf words files root calls above i made
    by_order (CommandOf command arguments) read meant = by_kind command arguments (kind_of command) read meant
    by_order (HelpOf topic) read meant =
        absurd (let e = sym makes ∙ ap (λ (w : Work). w.out) (sym (one_value _ _ work refl meant)) in cc)
    by_order VersionOf read meant =
        absurd (let e = sym makes ∙ ap (λ (w : Work). w.out) (sym (one_value _ _ work refl meant)) in cc)

-- a proper prefix, or the whole
whole_or_not : (prefix bytes : Bytes) → (prefix ≡ bytes) ⊎ (prefix ≢ bytes)
whole_or_not prefix bytes = by_test (bytes_eq prefix bytes) refl
  where
    by_test : (b : Bool) → bytes_eq prefix bytes ≡ b → (prefix ≡ bytes) ⊎ (prefix ≢ bytes)
    by_test true e = inl ((bytes_eq-Decides prefix bytes).0 e)
    by_test false e = inr (λ same. absurd (let f = sym ((bytes_eq-Decides prefix bytes).1 same) ∙ e in cc))

-- no site is above a folder's
pub none_dead : IsDead None
none_dead text newest none read = absurd cc

-- a run that is done has made the whole file
done_whole : (words : List Bytes) (files : Files) (a b : IoState) (answer : Status) → a.place.files ≡ Some files →
    RunResult (meaning words) a b answer →
    (has : HasOut files (meaning words (contents_of files)).result a.place b.place) → answer ≡ Done →
    has.prefix ≡ has.out.bytes
done_whole words files a b answer told answers has is =
    let out = has.out in
    let done = done_leaves (meaning words) files a b answer told is answers in
    let work = one_value (meaning words (contents_of files)).result done.work has.work done.is_meant has.is_meant in
    let marked = with_mark_file has.work.mark files in
    let whole : b.place.files ≡ Some (insert marked out.name out.bytes) =
    done.made.files
    ∙ (ap (λ (w : Work). files_with w.out (files_marked w.mark a.place.files)) work
    ∙ (ap (λ (made : Option Out). files_with made (files_marked has.work.mark a.place.files)) has.makes
    ∙ ap (files_with (Some out)) (ap (files_marked has.work.mark) told ∙ known_marked has.work.mark files))) in
    let same : insert marked out.name has.prefix ≡ insert marked out.name out.bytes =
    same_Some (insert marked out.name has.prefix) (insert marked out.name out.bytes) (sym has.left ∙ whole) in
    same_Some has.prefix out.bytes
    (sym (made_there marked out.name has.prefix)
    ∙ (ap (λ (fs : Files). get fs out.name) same ∙ made_there marked out.name out.bytes))

-- a mark that is spared leaves the chain
mark_spared : (words : List Bytes) (files : Files) (name : FileName) (work : Work) (mark : Mark) →
    SparesNames name words → (meaning words (contents_of files)).result ≡ Ok work → work.mark ≡ Some mark →
    (i : ℕ) → HasName name i → mark.name ≢ site_name_at name i
mark_spared words files name work mark spares is marks i named e =
    (spares i named).1 (mark_is words (contents_of files) work mark is marks ∙ ap (λ (n : FileName). Some n) e)

marked_holds : (words : List Bytes) (files : Files) (name : FileName) (root : Link) (calls : List Call)
    (above : Option Bytes) (work : Work) → SparesNames name words → HoldsChain files name root calls above →
    (meaning words (contents_of files)).result ≡ Ok work → (mark : Option Mark) → work.mark ≡ mark →
    HoldsChain (with_mark_file mark files) name root calls above
marked_holds words files name root calls above work spares holds is None marks = holds
marked_holds words files name root calls above work spares holds is (Some mark) marks =
    others_hold files name root calls above mark.name [] holds
    (mark_spared words files name work mark spares is marks)

-- the folder once a run has made a file
pub folder_made : (words : List Bytes) (answer : Status) (files : Files) (name : FileName) (root : Link)
    (calls : List Call) (a b : DepotState) → IsFolder files name root calls → SparesNames name words →
    (has : HasOut files (meaning words (contents_of files)).result a b) →
    (answer ≡ Done → has.prefix ≡ has.out.bytes) →
    FolderOutcome words answer files (insert (with_mark_file has.work.mark files) has.out.name has.prefix) name root
    calls
folder_made words answer files name root calls a b holds spares has whole_if =
    let marked = with_mark_file has.work.mark files in
    let still = marked_holds words files name root calls None has.work spares holds has.is_meant has.work.mark refl in
    elim (find_name name has.out.name (last_number_in name) holds.numbered) [
      | inl (i, named, at) ↦
          let made = made_of words files name root calls None i has.work has.out holds none_dead spares named at
          has.is_meant has.makes in
          let next : HasName name (length calls + 1) = subst (HasName name) made.at named in
          let text = text_of_link (made_by (link_at root calls (length calls)) made.call) in
          let here : has.out.name ≡ site_name_at name (length calls + 1) = at ∙ ap (site_name_at name) made.at in
          let above : HoldsChain (insert marked has.out.name has.prefix) name root calls (Some has.prefix) =
          subst (λ (n : FileName). HoldsChain (insert marked n has.prefix) name root calls (Some has.prefix)) (sym here)
          (next_holds marked name root calls None has.prefix still next) in
          elim (whole_or_not has.prefix text) [
            | inl whole ↦
                longer made.call made.asked
                (longer_holds (insert marked has.out.name has.prefix) name root calls made.call
                (subst (λ (bytes : Bytes).
                HoldsChain (insert marked has.out.name has.prefix) name root calls (Some bytes)) whole above)
                next made.taken)
            | inr proper ↦ torn (λ done. proper (whole_if done ∙ made.bytes)) (
                record {
                  torn = has.prefix;
                  holds = above;
                  named = next;
                  call = made.call;
                  taken = made.taken;
                  prefix = subst (IsPrefix has.prefix) made.bytes has.is_prefix;
                  proper = proper;
                }
                ) made.asked
          ]
      | inr none ↦ kept (others_hold marked name root calls None has.out.name has.prefix still none)
    ]

-- what a run leaves of a folder
pub folder_kept : (words : List Bytes) (files : Files) (name : FileName) (root : Link) (calls : List Call)
    (a b : IoState) (answer : Status) → a.place.files ≡ Some files → IsFolder files name root calls →
    SparesNames name words → RunResult (meaning words) a b answer →
    (now : Files) × (b.place.files ≡ Some now) × FolderOutcome words answer files now name root calls
folder_kept words files name root calls a b answer told holds spares answers =
    elim (run_leaves words files a b answer told answers) [
      | inl before ↦ (files, before.left, kept holds)
      | inr (inl has) ↦ (
        insert files has.mark.name [],
        has.left,
        kept (others_hold files name root calls None has.mark.name [] holds
            (mark_spared words files name has.work has.mark spares has.is_meant has.marks)),
      )
      | inr (inr has) ↦ (
        insert (with_mark_file has.work.mark files) has.out.name has.prefix,
        has.left,
        folder_made words answer files name root calls a.place b.place holds spares has
            (done_whole words files a b answer told answers has),
      )
    ]

-- a file can say the site that a call is to make, and it has a control word
pub made_sayable : (root : Link) (calls : List Call) (call : Call) → IsChain root calls →
    IsTaken (link_at root calls (length calls)) call →
    IsSayable (made_by (link_at root calls (length calls)) call).site
    (line_of_book (made_by (link_at root calls (length calls)) call).book)
    × HasWords (made_by (link_at root calls (length calls)) call).site
made_sayable root calls call is taken =
    let more = chain_more root calls call is taken in
    let size = one_more calls call in
    let made = link_made root calls call in (
      subst (λ (l : Link). IsSayable l.site (line_of_book l.book)) made
          (all_are_sayable root (calls ++ call ∷ []) (length calls + 1) more (omega (arith, size))),
      subst (λ (l : Link). HasWords l.site) made
          (words_are_had root (calls ++ call ∷ []) (length calls + 1) more (omega arith) (omega (arith, size))),
    )

-- a torn site makes none
pub torn_dead : (files : Files) (name : FileName) (root : Link) (calls : List Call) →
    (is : IsTorn files name root calls) → IsDead (Some is.torn)
torn_dead files name root calls is text newest some read =
    let made = made_by (link_at root calls (length calls)) is.call in
    let both = made_sayable root calls is.call is.holds.is_chain is.taken in
    torn_sites made.site (line_of_book made.book) is.torn newest both.0 both.1 is.prefix is.proper
    (ap (site_of_chain is_first_site) (same_Some is.torn text some) ∙ read)

-- a torn site above a chain stays as long as the files hold it
torn_stays : {files now : Files} {name : FileName} {root : Link} {calls : List Call} →
    (is : IsTorn files name root calls) → HoldsChain now name root calls (Some is.torn) → IsTorn now name root calls
torn_stays is holds = record {
  torn = is.torn;
  holds = holds;
  named = is.named;
  call = is.call;
  taken = is.taken;
  prefix = is.prefix;
  proper = is.proper;
}

-- and a run changes nothing of its folder
pub torn_kept : (words : List Bytes) (files : Files) (name : FileName) (root : Link) (calls : List Call)
    (a b : IoState) (answer : Status) → a.place.files ≡ Some files → IsTorn files name root calls →
    SparesNames name words → RunResult (meaning words) a b answer →
    (now : Files) × (b.place.files ≡ Some now) × IsTorn now name root calls
torn_kept words files name root calls a b answer told is spares answers =
    elim (run_leaves words files a b answer told answers) [
      | inl before ↦ (files, before.left, is)
      | inr (inl has) ↦ (
        insert files has.mark.name [],
        has.left,
        torn_stays is (others_hold files name root calls (Some is.torn) has.mark.name [] is.holds
            (mark_spared words files name has.work has.mark spares has.is_meant has.marks)),
      )
      | inr (inr has) ↦ (
        insert (with_mark_file has.work.mark files) has.out.name has.prefix,
        has.left,
        elim (find_name name has.out.name (last_number_in name) is.holds.numbered) [
          | inl (i, named, at) ↦
              let made = made_of words files name root calls (Some is.torn) i has.work has.out is.holds
              (torn_dead files name root calls is) spares named at has.is_meant has.makes in
              absurd (let e = made.none in cc)
          | inr none ↦ torn_stays is (others_hold (with_mark_file has.work.mark files) name root calls (Some is.torn)
              has.out.name has.prefix
              (marked_holds words files name root calls (Some is.torn) has.work spares is.holds has.is_meant
              has.work.mark refl) none)
        ],
      )
    ]
