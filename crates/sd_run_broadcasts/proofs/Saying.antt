-- What `head` and `air` write to their notes.
use Rattle.std.proofs.Common.{◌≡◌, ◌∙◌, ℕ, Bool, true, false, List, [], ◌∷◌, ◌++◌, length}
use Rattle.std.proofs.Common.{Option, Some, None, Result, Ok, Err, refl, sym, ap, subst}
use Rattle.std.proofs.Common.{append-nil, append_assoc}
use Rattle.std.specs.Prelude.{nat_lt, if◌then◌else◌}
use Rattle.std.specs.Io.KnownBytes.{Appends}
use Rattle.std.proofs.KnownBytes.{Appends-nil, Appends-trans}
use Rattle.sd_base.specs.Types.{Packet, Packets}
use Rattle.sd_ports.specs.Files.{Files}
use Rattle.sd_ports.specs.Bytes.{AppendsPrefix, IsPrefix}
use Rattle.sd_site_cards.specs.SiteFields.{SiteFields}
use Rattle.sd_site_cards.specs.Text.{book_line_of, site_of}
use Rattle.sd_site_cards.specs.declared.book_line.BookLine.{BookLine}
use Rattle.sd_site_cards.specs.declared.site_fault.SiteFault.{SiteFault}
use Rattle.sd_spec.specs.Aired.{Verdict, Marked, Refused, Sent, Ends}
use Rattle.sd_spec.specs.Plan.{Plan}
use Rattle.sd_head.specs.Live.{IsLiveAfter, LeadsToLive}
use Rattle.sd_head.specs.declared.live.Live.{Live}
use Rattle.sd_command_base.specs.declared.status.Status.{Status}
use Rattle.sd_command_base.specs.declared.status.Status.TheVariants.{Limit}
use Rattle.sd_command_base.specs.declared.status.LimitKind.{LimitKind}
use Rattle.sd_command_base.specs.Files.{site_or_status}
use Rattle.sd_command_base.specs.Spec.{FileArgument, IsReadingOfFile, within}
use Rattle.sd_command_base.proofs.Givens.{any_given, one_given}
use Rattle.sd_command_base.specs.Outside.{DepotState}
use Rattle.sd_command_base.specs.Reads.{FileOutcome, FilesOutcome}
use Rattle.sd_run_broadcasts.specs.Air.{air_line, air_plan_meaning}
use Rattle.sd_run_broadcasts.specs.Head.{with_line}
use Rattle.sd_run_broadcasts.specs.OnAir.{report_after}
use Rattle.sd_run_broadcasts.specs.Said.{AirSays, AreReports, no_report, one_more, AreReportsOf, HasSite, HeadSays}
use Rattle.sd_run_broadcasts.specs.Said.{IsSaid, NotesOn, has_first_word, warning_by, warning_for, warning_in}

-- nothing is a prefix of these bytes
pub none_of : (a : Option (List ℕ)) (bytes : List ℕ) → AppendsPrefix a a bytes
none_of a bytes = ([], (bytes, refl), Appends-nil a)

-- these bytes are a prefix of themselves
pub all_of : (a b : Option (List ℕ)) (bytes : List ℕ) → Appends a b bytes → AppendsPrefix a b bytes
all_of a b bytes p = (bytes, ([], append-nil bytes), p)

-- reports, and then more
more_reports : (plan : Plan) (first last : List ℕ) → AreReports plan first → AreReports plan last →
    AreReports plan (first ++ last)
more_reports plan first last f no_report = subst (AreReports plan) (sym (append-nil first)) f
more_reports plan first last f (one_more bytes reports past skipped piece is) =
    subst (AreReports plan) (append_assoc first bytes piece)
    (one_more (first ++ bytes) (more_reports plan first bytes f reports) past skipped piece is)

-- no report was written
pub none_noted : (plan : Plan) (a : Option (List ℕ)) → NotesOn plan a a
none_noted plan a = record { bytes = []; reports = no_report; wrote = Appends-nil a }

-- one report was written, or its first bytes
pub one_noted : (plan : Plan) (past : Packets) (skipped : ℕ) (a b : Option (List ℕ)) →
    AppendsPrefix a b (air_line (report_after plan past skipped)) → NotesOn plan a b
one_noted plan past skipped a b p =
    record { bytes = p.0; reports = one_more [] no_report past skipped p.0 p.1; wrote = p.2 }

-- reports were written, and then more
pub more_noted : (plan : Plan) (a b c : Option (List ℕ)) → NotesOn plan a b → NotesOn plan b c → NotesOn plan a c
more_noted plan a b c p q = record {
  bytes = p.bytes ++ q.bytes;
  reports = more_reports plan p.bytes q.bytes p.reports q.reports;
  wrote = Appends-trans a b c p.bytes q.bytes p.wrote q.wrote;
}

-- packets that lead to what is kept after a packet
pub led : (plan : Plan) (past : Packets) (packet : Packet) (s t : Live) (v : Verdict) → IsLiveAfter plan past s →
    LeadsToLive plan past packet s t v → (more : Packets) × IsLiveAfter plan more t
led plan past packet s t Marked keeps leads = (past ++ packet ∷ [], leads)
led plan past packet s t (Refused fault) keeps leads = (past ++ packet ∷ [], leads)
led plan past packet s t Sent keeps leads = (past ++ packet ∷ [], leads)
led plan past packet s t Ends keeps leads = (past, subst (IsLiveAfter plan past) (sym leads) keeps)

-- `head` said nothing
pub head_silent : (site : FileArgument) (files : Option Files) (a : Option (List ℕ)) → IsSaid (HeadSays site) files a a
head_silent site files a =
    let any = any_given files in record {
      given = any.given;
      is_given = any.is_given;
      bytes = [];
      said = (warning_in site.text (any.given site), refl);
      wrote = Appends-nil a;
    }

-- the bytes of a good result, and its site
abbrev bytes_in : List ℕ → Result (List ℕ) Status → List ℕ
bytes_in other (Ok bytes) = bytes
bytes_in other (Err status) = other

abbrev site_in : SiteFields → Result (SiteFields × Option BookLine) Status → SiteFields
site_in other (Ok said) = said.0
site_in other (Err status) = other

-- a file that was read gave its bytes
kept_within : (long : Bool) (status : Status) (x bytes : List ℕ) →
    ◌≡◌ {A = Result (List ℕ) Status} (if long then Err status else Ok x) (Ok bytes) → x ≡ bytes
kept_within true status x bytes is = absurd (cc)
kept_within false status x bytes is = ap (bytes_in x) is

was_within : (word most : ℕ) (kind : LimitKind) (got : Option (List ℕ)) (bytes : List ℕ) →
    (within word most kind got).result ≡ Ok bytes → got ≡ Some bytes
was_within word most kind None bytes is = absurd (cc)
was_within word most kind (Some x) bytes is =
    ap Some (kept_within (nat_lt most (length x)) (Limit kind) x bytes is)

-- a site that was told is one
site_told : (line said : Option BookLine) (word : ℕ) (bytes : List ℕ) (r : Result SiteFields SiteFault)
    (site : SiteFields) → with_line line (site_or_status word bytes r) ≡ Ok (site, said) → r ≡ Ok site
site_told line said word bytes (Ok found) site is = ap Ok (ap (site_in found) is)
site_told line said word bytes (Err fault) site is = absurd (cc)

-- the site of a file that was read
pub site_had : {X : Type 0} (view : X → List ℕ) (word : FileArgument) (most : ℕ) (kind : LimitKind)
    (p q : DepotState) (x : X) (site : SiteFields) (line : Option BookLine) (has_word : Bool) →
    FileOutcome view (within word.number most kind) word.text p q (Ok x) →
    with_line (book_line_of (view x)) (site_or_status word.number (view x) (site_of (view x))) ≡ Ok (site, line) →
    has_word ≡ has_first_word (view x) → HasSite word p.files site.messages has_word
site_had view word most kind p q x site line has_word read told is = record {
  bytes = view x;
  site = site;
  is_got = subst (IsReadingOfFile p.files word.text) (was_within word.number most kind read.got (view x) read.gives.0)
      read.is_got;
  is_site = site_told (book_line_of (view x)) line word.number (view x) (site_of (view x)) site told;
  messages = refl;
  line = sym is;
}

-- the warning about a site that was read
warning_is : (word : FileArgument) (files : Option Files) (version : ℕ) (has_word : Bool) →
    (h : HasSite word files version has_word) →
    warning_by word.text has_word version ≡ warning_in word.text (Some h.bytes)
warning_is word files version has_word h =
    sym (ap (warning_for word.text h.bytes) h.is_site
    ∙ ap (λ (b : Bool). warning_by word.text b h.site.messages) h.line
    ∙ ap (warning_by word.text has_word) h.messages)

-- `head` said this of a site that was read
pub head_said : (word : FileArgument) (files : Option Files) (version : ℕ) (has_word : Bool) (a b : Option (List ℕ)) →
    HasSite word files version has_word → AppendsPrefix a b (warning_by word.text has_word version) →
    IsSaid (HeadSays word) files a b
head_said word files version has_word a b h p =
    let one = one_given files word (Some h.bytes) h.is_got in record {
      given = one.given;
      is_given = one.is_given;
      bytes = p.0;
      said = subst (IsPrefix p.0)
          (warning_is word files version has_word h ∙ ap (warning_in word.text) (sym one.gave)) p.1;
      wrote = p.2;
    }

no_reports : (result : Result Plan Status) → AreReportsOf result []
no_reports (Ok plan) = no_report
no_reports (Err status) = refl

-- `air` said nothing
pub air_silent : (site book : FileArgument) (files : Option Files) (a : Option (List ℕ)) →
    IsSaid (AirSays site book) files a a
air_silent site book files a =
    let any = any_given files in record {
      given = any.given;
      is_given = any.is_given;
      bytes = [];
      said = no_reports (air_plan_meaning site book any.given).result;
      wrote = Appends-nil a;
    }

-- `air` said this by a plan that was read
pub air_said : {X : Type 0} (view : X → Plan) (site book : FileArgument) (p q : DepotState) (x : X)
    (a b : Option (List ℕ)) →
    FilesOutcome view (air_plan_meaning site book) p q (Ok x) → NotesOn (view x) a b →
    IsSaid (AirSays site book) p.files a b
air_said view site book p q x a b read noted = record {
  given = read.given;
  is_given = read.is_given;
  bytes = noted.bytes;
  said = subst (λ (r : Result Plan Status). AreReportsOf r noted.bytes) (sym read.gives.0) noted.reports;
  wrote = noted.wrote;
}
